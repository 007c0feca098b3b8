use Rattle.std.proofs.Common.{sym, ap, ◌∙◌}
use Rattle.action_filters.proofs.FirstPairs.{name_beside, new_name_beside}
use Rattle.action_filters.proofs.labels.new_name.Goals as goal

pub returns-in-Some : goal.returns-in-Some
returns-in-Some c = ap (name_beside c.args.name) c.in-Some.ensures.value ∙ sym (new_name_beside c.args.pairs.now.entries c.args.name)

pub returns-in-None : goal.returns-in-None
returns-in-None c = ap (name_beside c.args.name) c.in-None.ensures.value ∙ sym (new_name_beside c.args.pairs.now.entries c.args.name)
