-- Functions with given sorts, one for each name.
use Rattle.std.specs.Prelude.{List, map}
use Rattle.mcrl2_syntax.specs.declared.word.Word.{Word}
use Rattle.mcrl2_syntax.specs.Words.{word_of}
use Rattle.data_theory.specs.declared.ids.SortId.{SortId}
use Rattle.data_theory.specs.Signature.{Sig}
use Rattle.sort_table.specs.Expressions.{Name}
use Rattle.sort_table.specs.BareSorts.{SortExpression}
use Rattle.sort_table.specs.BareProcesses.{bare_name}
use Rattle.sort_table.specs.TextFunctions.{TextRole, Named, declared}
use Rattle.sort_table.specs.EnteredFunctions.{HasSortOf, HaveSortsOf}
use Rattle.sort_table.specs.FunctionStates.{CanEnter, IsPlain}

abbrev pub names_of : List Word → List Name
names_of ws = map bare_name (map word_of ws)

abbrev pub functions_named : List SortExpression → SortExpression → TextRole → List Word → List Named
functions_named es e r ws = map (declared es e r) (names_of ws)

-- as functions of some sort expressions they may be entered
pub record SomeCanEnter (g : Sig) (ws : List Word) (args : List SortId) (to : SortId) : Type 0 where
  pub expressions : List SortExpression
  pub result : SortExpression
  pub role : TextRole
  pub plain : IsPlain role
  pub arguments_are : HaveSortsOf g expressions args
  pub result_is : HasSortOf g result to
  pub can : CanEnter g (functions_named expressions result role ws)
