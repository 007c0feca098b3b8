use Rattle.data_theory.specs.Actions.{actions_of}
use Rattle.sort_checker.proofs.NamesKnown.{actions_told}
use Rattle.sort_checker.proofs.known_names.names_of_actions.Goals as goal

pub returns : goal.returns
returns c = actions_told c.args.sig.now c.new-names.result c.add_actions.new.names (actions_of c.acts.result.now) c.new-names.ensures c.acts.ensures c.in_ok-add_actions.ensures
