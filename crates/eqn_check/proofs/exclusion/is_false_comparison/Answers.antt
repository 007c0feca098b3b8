use Rattle.eqn_check.specs.Comparisons.{relation_told}
use Rattle.eqn_check.proofs.Deciding.{either_yes, either_so}
use Rattle.std.proofs.Common.{refl}
use Rattle.eqn_check.proofs.ComparisonLemmas.{strict_said, equal_said, nothing_said, tells_equality, tells_strictness, tells_neither}
use Rattle.eqn_check.proofs.exclusion.is_false_comparison.Goals as goal

pub returns-then-fails_of_numerals : goal.returns-then-fails_of_numerals
returns-then-fails_of_numerals c = either_yes c.fails_of_numerals.result c.fails_of_numerals.ensures c.if-fails_of_numerals.true

pub returns-then-is_equality : goal.returns-then-is_equality
returns-then-is_equality c =
    either_so c.fails_of_numerals.result c.begin_differently.result c.fails_of_numerals.ensures c.if-fails_of_numerals.false
    (equal_said _ c.begin_differently.result (tells_equality c.args.said.relation c.is_equality.result c.is_equality.ensures c.if-is_equality.true) c.begin_differently.ensures)

pub returns-then-not-is_strict : goal.returns-then-not-is_strict
returns-then-not-is_strict c =
    either_so c.fails_of_numerals.result _ c.fails_of_numerals.ensures c.if-fails_of_numerals.false
    (nothing_said _ (tells_neither c.args.said.relation c.is_equality.result c.is_strict.result c.is_equality.ensures c.if-is_equality.false c.is_strict.ensures c.if-not-is_strict.true))

pub returns : goal.returns
returns c =
    let strict = tells_strictness c.args.said.relation c.is_strict.result c.is_strict.ensures c.if-not-is_strict.false in
    either_so c.fails_of_numerals.result c.in_ok-same.same c.fails_of_numerals.ensures c.if-fails_of_numerals.false
    (strict_said _ (relation_told c.args.said.relation) c.in_ok-same.same refl strict.0 strict.1 c.in_ok-same.ensures)
