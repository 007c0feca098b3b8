use Rattle.std.proofs.Common.{ℕ, ◌<◌, length, sym, subst}
use Rattle.std.specs.List.{All}
use Rattle.std.proofs.lemmas.List.Elements.{All-nil}
use Rattle.data_theory.specs.declared.ids.SortId.{SortId}
use Rattle.data_theory.specs.Keys.{key}
use Rattle.data_theory.specs.Functions.{HasKey}
use Rattle.data_theory.proofs.signature.Signature.add_map.Goals as goal

pub add_fun-requires-clause-sorts : goal.add_fun-requires-clause-sorts
add_fun-requires-clause-sorts c =
    subst (All (λ (s : SortId). s.0 < length c.args.self.now.sorts)) (sym c.new.ensures.items) (All-nil (λ (s : SortId). s.0 < length c.args.self.now.sorts))

pub add_fun-requires-clause-absent : goal.add_fun-requires-clause-absent
add_fun-requires-clause-absent c =
    subst (λ ss. (k : ℕ) → HasKey c.args.self.now.functions (key c.args.name ss) k → ⊥) (sym c.new.ensures.items) c.requires.absent
