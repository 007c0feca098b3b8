use Rattle.std.proofs.Common.{ap, sym, ◌∙◌}
use Rattle.std.specs.Prelude.{not}
use Rattle.data_theory.specs.Whole.{whole_of}
use Rattle.eqn_check.specs.declared.comparisons.Relation.{Relation}
use Rattle.eqn_check.specs.Comparisons.{relation_told}
use Rattle.eqn_check.specs.Conditions.{holds}
use Rattle.eqn_check.proofs.ComparisonLemmas.{up_to_fails}
use Rattle.eqn_check.proofs.comparisons.fails.Goals as goal

pub returns-in-UpTo : goal.returns-in-UpTo
returns-in-UpTo c =
    c.is_less-in-UpTo.ensures
    ∙ (up_to_fails (whole_of c.args.x) (whole_of c.args.y) ∙ ap (λ (r : Relation). not (holds (relation_told r) (whole_of c.args.x) (whole_of c.args.y))) (sym c.in-UpTo.is))
