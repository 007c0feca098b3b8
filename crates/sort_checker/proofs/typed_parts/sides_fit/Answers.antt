use Rattle.std.proofs.Common.{◌&&◌, Bool, refl, sym, ap, ◌∙◌}
use Rattle.std.specs.Prelude.{is_some}
use Rattle.data_typing.specs.FlatSorts.{flat_sort}
use Rattle.sort_checker.proofs.Firsts.{ok_then}
use Rattle.sort_checker.proofs.TypedArguments.{left_tells, neither_tells, right_tells}
use Rattle.sort_checker.proofs.typed_parts.sides_fit.Goals as goal

pub returns-in-Some : goal.returns-in-Some
returns-in-Some c = ok_then c.checks.result c.checks.ensures (λ b told g l r left right. left_tells l r c.sort.result c.in-Some.sort b (c.sort.ensures g l left) c.in-Some.is (told g r right))

pub returns-in_default-sort : goal.returns-in_default-sort
returns-in_default-sort c = λ g l r left right. neither_tells l r c.sort.result (c.sort.ensures g l left) c.in_default.is c.sort-2.result (c.sort-2.ensures g r right) c.in_default-sort.is

pub returns-then-not-branch : goal.returns-then-not-branch
returns-then-not-branch c = λ g l r left right.
    let right_checks : Bool = is_some (r.checks (flat_sort c.in-Some-sort.sort)) in
    sym (ap (λ (b : Bool). b && right_checks) c.if-not-branch.true)
    ∙ right_tells l r c.sort.result (c.sort.ensures g l left) c.in_default.is c.sort-2.result c.in-Some-sort.sort c.in_ok-checks.field-0 right_checks (c.sort-2.ensures g r right) c.in-Some-sort.is (c.in_ok-checks.ensures g l left) refl

pub returns : goal.returns
returns c =
    ok_then c.checks-3.result c.checks-3.ensures
    (λ b told g l r left right.
    sym (ap (λ (p : Bool). p && b) c.if-not-branch.false)
    ∙ right_tells l r c.sort.result (c.sort.ensures g l left) c.in_default.is c.sort-2.result c.in-Some-sort.sort c.in_ok-checks.field-0 b (c.sort-2.ensures g r right) c.in-Some-sort.is (c.in_ok-checks.ensures g l left) (told g r right))
