use Rattle.std.proofs.Common.{sym, subst, rules}
use Rattle.data_theory.specs.SortNames.{IsName}
use Rattle.data_theory.specs.WholeSignatures.{IsSignature}
use Rattle.data_theory.specs.Signature.{Sig, with_alias}
use Rattle.data_theory.proofs.WholeSignatureLemmas.{signature_as, alias_stands}
use Rattle.data_theory.proofs.signature.Signature.add_alias.Goals as goal

pub push-requires : goal.push-requires
push-requires c = subst (λ (s : Sig). IsName s.sort_names c.args.name → ⊥) (sym c.self.view_is) c.requires.absent

pub invariant_of-self-2 : goal.invariant_of-self-2
invariant_of-self-2 c =
    signature_as (with_alias c.args.self.now c.args.name c.args.sort) _ (alias_stands c.args.self.now c.args.name c.args.sort (subst IsSignature c.self.view_is c.self.invariant) c.requires.name c.requires.sort c.requires.absent) (search rules)
