use Rattle.std.proofs.lemmas.List.Elements.{All-get_or}
use Rattle.lps_core.specs.Fitting.{IsVariable}
use Rattle.lin_tasks.proofs.state_texts.sorts_of.Goals as goal

pub sort_of-requires : goal.sort_of-requires
sort_of-requires c = All-get_or (IsVariable c.args.sig.now) c.args.variables.now c.loop-variable.variable-index (record { 0 = 0 }) c.loop-variable-test.true c.requires
