use Rattle.std.proofs.Common.{◌≡◌, List, take}
use Rattle.sort_table.specs.BareSorts.{SortExpression}
use Rattle.sort_table.specs.TextFunctions.{TextRole}
use Rattle.sort_table.specs.EnteredFunctions.{HasSortOf, HaveSortsOf}
use Rattle.sort_table.specs.FunctionStates.{AddsFunctions, IsPlain}
use Rattle.sort_table.specs.NamedFunctions.{functions_named}
use Rattle.sort_table.proofs.function_declaring.add_each.Given as goal

abbrev pub invariant-loop-word : goal.invariant-loop-word
invariant-loop-word l = record {
  sorts : l.signature.sorts ≡ l.fn.signature.sorts;
  adds : (es : List SortExpression) (e : SortExpression) (r : TextRole) → IsPlain r → HaveSortsOf l.fn.signature es l.args → HasSortOf l.fn.signature e l.to → AddsFunctions (functions_named es e r (take l.word-index l.words)) l.fn.signature l.signature;
}
