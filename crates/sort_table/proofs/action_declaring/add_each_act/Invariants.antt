use Rattle.std.proofs.Common.{List, take}
use Rattle.sort_table.specs.BareSorts.{SortExpression}
use Rattle.sort_table.specs.EnteredFunctions.{HaveSortsOf}
use Rattle.sort_table.specs.EnteredActions.{AddsActions, actions_named}
use Rattle.sort_table.proofs.action_declaring.add_each_act.Given as goal

abbrev pub invariant-loop-word : goal.invariant-loop-word
invariant-loop-word l = (es : List SortExpression) → HaveSortsOf l.fn.signature es l.sorts → AddsActions (actions_named es (take l.word-index l.words)) l.fn.signature l.signature
