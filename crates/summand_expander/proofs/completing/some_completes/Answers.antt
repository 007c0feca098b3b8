use Rattle.std.proofs.Common.{◌&&◌, map, sym, ◌∙◌}
use Rattle.process_terms.specs.PlainProcesses.{plain_rule}
use Rattle.action_filters.specs.Filters.{same_name}
use Rattle.summand_expander.specs.CompletableTests.{completes}
use Rattle.summand_expander.specs.Nearby.{is_home}
use Rattle.summand_expander.specs.PlainAllowed.{joinings}
use Rattle.summand_expander.proofs.CompletedSets.{set_gives}
use Rattle.summand_expander.proofs.completing.some_completes.Goals as goal

pub returns-then-branch : goal.returns-then-branch
returns-then-branch c =
    set_gives (λ v. is_home same_name (joinings (map plain_rule c.args.candidates.now)) c.args.first v && completes same_name (joinings (map plain_rule c.args.rules.now)) c.args.names.now v) c.args.sets.now c.loop-set.set-index c.set-item.result c.set-item.result c.as_slice.result.now
    c.loop-set-test.true c.set-item.is c.as_slice.ensures.value (sym c.in_ok-completes.ensures ∙ c.if-branch.true)
