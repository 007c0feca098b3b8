use Rattle.std.proofs.Common.{◌||◌, Bool, sym, ap, ◌∙◌}
use Rattle.data_theory.specs.Whole.{whole_of}
use lib.Signed.{lt_z}
use Rattle.eqn_check.proofs.ComparisonLemmas.{differ_so}
use Rattle.eqn_check.proofs.comparisons.differ.Goals as goal

pub returns-then-is_less : goal.returns-then-is_less
returns-then-is_less c =
    sym (ap (λ (b : Bool). b || lt_z (whole_of c.args.y) (whole_of c.args.x)) (sym c.is_less.ensures ∙ c.if-is_less.true)) ∙ differ_so (whole_of c.args.x) (whole_of c.args.y)

pub returns : goal.returns
returns c =
    c.is_less-2.ensures ∙ (sym (ap (λ (b : Bool). b || lt_z (whole_of c.args.y) (whole_of c.args.x)) (sym c.is_less.ensures ∙ c.if-is_less.false)) ∙ differ_so (whole_of c.args.x) (whole_of c.args.y))
