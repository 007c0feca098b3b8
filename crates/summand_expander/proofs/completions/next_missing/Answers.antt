use Rattle.std.proofs.Common.{◌≡◌, Some, None, ap, ◌∙◌, if◌then◌else◌}
use Rattle.summand_expander.specs.Completions.{PlainCompletion, plain_completion, stood_for}
use Rattle.summand_expander.proofs.OpenedMembers.{wanting, goes_on_with, as_many_with}
use Rattle.summand_expander.proofs.completions.next_missing.Goals as goal

pub loop-name-preserved : goal.loop-name-preserved
loop-name-preserved c =
    let s = c.loop-name.state in
    let old : PlainCompletion = record { wanted = c.pop.new.self.items; given = s.given.items; free = s.free.items; kept = s.kept.items } in
    let new = plain_completion c.stands_for.new.state in
    let before : plain_completion s ≡ wanting old c.in-Some.name = ap (λ ns. record { wanted = ns; given = s.given.items; free = s.free.items; kept = s.kept.items }) c.in-Some.ensures.items in
    let stands : stood_for c.in-Some.name old ≡ Some new = c.in_ok-stands_for.ensures.stands ∙ ap (λ b. if b then Some new else None) c.if-not-branch.false in (
      λ rs. goes_on_with rs (plain_completion c.args.state.now) (plain_completion s) new old c.in-Some.name before stands (c.loop-name.invariant.0 rs),
      as_many_with (plain_completion c.args.state.now) (plain_completion s) new old c.in-Some.name before stands c.loop-name.invariant.1,
    )
