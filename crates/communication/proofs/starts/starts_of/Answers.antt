use Rattle.std.proofs.Common.{map, ap, ◌∙◌}
use Rattle.std.specs.Prelude.{flat_map}
use Rattle.std.proofs.lemmas.List.{take_all}
use Rattle.process_terms.specs.PlainProcesses.{plain_rule}
use Rattle.communication.specs.Places.{joining_of, placed}
use Rattle.communication.specs.Ways.{starts_by}
use Rattle.communication.proofs.NamedRules.{same_starts}
use Rattle.communication.proofs.starts.starts_of.Goals as goal

pub returns : goal.returns
returns c =
    c.loop-rule.invariant ∙ ap (λ rs. flat_map (starts_by placed c.args.first c.args.later.now) (map joining_of (map plain_rule rs))) (take_all c.loop-rule.rule-index c.near-near.result.now c.loop-rule-test.false)
    ∙ same_starts (map plain_rule c.near-near.result.now) c.args.rules.now c.args.first c.args.later.now c.near-near.ensures
