use Rattle.std.proofs.Common.{◌≡◌, ◌<◌, length, take, drop}
use Rattle.data_theory.specs.IdTerms.{symbol_under}
use Rattle.mcrl2_syntax.specs.DataTrees.{operands_of, plain_operands}
use Rattle.sort_table.specs.Expressions.{Expression}
use Rattle.sort_table.specs.BareData.{to_the_left}
use Rattle.sort_table.specs.NamedSorts.{sort_count}
use Rattle.data_typing.specs.Within.{AreNodesWithin}
use Rattle.data_typing.specs.NodeTypings.{Stands, EachStands, GoOn}
use Rattle.data_typing.specs.CodeWords.{meaning_in}
use Rattle.data_typing.specs.WordTables.{HasFunctions}
use Rattle.data_typing.specs.Readings.{bare_trees}
use Rattle.data_typing.proofs.reading.+reading.Given as goal

abbrev pub invariant-read_all-loop-tree : goal.invariant-read_all-loop-tree
invariant-read_all-loop-tree l = record {
  words : HasFunctions l.context l.words;
  grown : GoOn l.initial.nodes.items l.nodes.items;
  sound : AreNodesWithin (sort_count l.context.sig.now) (length l.context.sig.now.functions) l.initial.nodes.items → AreNodesWithin (sort_count l.context.sig.now) (length l.context.sig.now.functions) l.nodes.items;
  stand : EachStands (symbol_under l.context.sig.now) (meaning_in l.context.sig.now l.context.scope.now) l.nodes.items l.parts.items (bare_trees (take l.tree-index l.trees));
}

abbrev pub invariant-read_chain-loop-operand : goal.invariant-read_chain-loop-operand
invariant-read_chain-loop-operand l = record {
  words : HasFunctions l.context l.words;
  grown : GoOn l.initial.nodes.items l.nodes.items;
  sound : AreNodesWithin (sort_count l.context.sig.now) (length l.context.sig.now.functions) l.initial.nodes.items → AreNodesWithin (sort_count l.context.sig.now) (length l.context.sig.now.functions) l.nodes.items;
  within : l.at < length l.nodes.items;
  stands : (e : Expression) → Stands (symbol_under l.context.sig.now) (meaning_in l.context.sig.now l.context.scope.now) l.initial.nodes.items l.fn.first e
      → (d : Expression) × Stands (symbol_under l.context.sig.now) (meaning_in l.context.sig.now l.context.scope.now) l.nodes.items l.at d × (to_the_left e (operands_of (plain_operands l.operands)) ≡ to_the_left d (operands_of (plain_operands (drop l.operand-index l.operands))));
}
