use Rattle.std.proofs.Common.{◌<◌, ◌-◌, List, length, drop}
use Rattle.data_theory.specs.IdTerms.{symbol_under}
use Rattle.sort_table.specs.Expressions.{Expression}
use Rattle.sort_table.specs.NamedSorts.{sort_count}
use Rattle.data_typing.specs.Within.{AreNodesWithin}
use Rattle.data_typing.specs.NodeTypings.{Stands, EachStands, GoOn}
use Rattle.data_typing.specs.CodeWords.{meaning_in}
use Rattle.data_typing.specs.WordTables.{HasFunctions}
use Rattle.data_typing.specs.Readings.{joined}
use Rattle.data_typing.proofs.reading.join.Given as goal

abbrev pub invariant-loop-step : goal.invariant-loop-step
invariant-loop-step l = record {
  words : HasFunctions l.context l.words;
  grown : GoOn l.initial.nodes.items l.nodes.items;
  sound : AreNodesWithin (sort_count l.context.sig.now) (length l.context.sig.now.functions) l.initial.nodes.items → AreNodesWithin (sort_count l.context.sig.now) (length l.context.sig.now.functions) l.nodes.items;
  stands : (es : List Expression) → EachStands (symbol_under l.context.sig.now) (meaning_in l.context.sig.now l.context.scope.now) l.initial.nodes.items l.operands es → Stands (symbol_under l.context.sig.now) (meaning_in l.context.sig.now l.context.scope.now) l.nodes.items l.at (joined l.text (drop (l.last - l.step) es));
  within : l.at < length l.nodes.items;
}
