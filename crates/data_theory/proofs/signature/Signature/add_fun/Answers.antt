use Rattle.std.proofs.Common.{ℕ, sym, subst, rules}
use Rattle.data_theory.specs.Keys.{key}
use Rattle.data_theory.specs.Functions.{HasKey, declared_function}
use Rattle.data_theory.specs.WholeSignatures.{IsSignature}
use Rattle.data_theory.specs.Signature.{Sig, with_function}
use Rattle.data_theory.proofs.WholeSignatureLemmas.{signature_as, function_stands}
use Rattle.data_theory.proofs.signature.Signature.add_fun.Goals as goal

pub push-requires : goal.push-requires
push-requires c = subst (λ (s : Sig). (k : ℕ) → HasKey s.functions (key c.args.name c.args.args.items) k → ⊥) (sym c.self.view_is) c.requires.absent

pub invariant_of-self-2 : goal.invariant_of-self-2
invariant_of-self-2 c =
    signature_as (with_function c.args.self.now (declared_function c.args.name c.args.args.items c.args.to)) _
    (function_stands c.args.self.now c.args.name c.args.args.items c.args.to (subst IsSignature c.self.view_is c.self.invariant) c.requires.name c.requires.sorts c.requires.to c.requires.absent) (search rules)
