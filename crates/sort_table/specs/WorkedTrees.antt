-- Worked trees and their bare ones.
use Rattle.std.specs.Prelude.{◌≡◌, List, [], ◌∷◌, Some, None, codes}
use Rattle.mcrl2_syntax.specs.declared.word.Span.{Span}
use Rattle.mcrl2_syntax.specs.declared.data_tree.PrefixSign.TheVariants as prefixes
use Rattle.mcrl2_syntax.specs.declared.data_tree.InfixSign.TheVariants as infixes
use Rattle.mcrl2_syntax.specs.Words.{PlainWord}
use Rattle.mcrl2_syntax.specs.SortTrees.{PlainSort, nat_sort, list_sort, named_sort, brackets_sort}
use Rattle.mcrl2_syntax.specs.DataTrees as datas
use Rattle.mcrl2_syntax.specs.DataTrees.{PlainData, no_datas, more_datas, no_operands, more_operands}
use Rattle.mcrl2_syntax.specs.ProcessParts.{PlainVarGroup, tau_action, named_action}
use Rattle.mcrl2_syntax.specs.ProcessTrees as processes
use Rattle.mcrl2_syntax.specs.ProcessTrees.{PlainProcess, no_processes, more_processes}
use Rattle.mcrl2_syntax.specs.Declarations.{vars_decl, struct_decl, proc_decl}
use Rattle.sort_table.specs.Expressions.{Name, Expression, numeral, word, none, one, two}
use Rattle.sort_table.specs.BareSorts.{bare_sort, naturals, lists_of, a_name}
use Rattle.sort_table.specs.BareData.{bare_data}
use Rattle.sort_table.specs.BareProcesses as bare
use Rattle.sort_table.specs.BareProcesses.{bare_process}
use Rattle.sort_table.specs.BareDeclarations.{variables, struct, process, bare_declaration}

-- somewhere, and elsewhere
abbrev pub here : Span
here = record { start = 0; end = 1 }

abbrev pub there : Span
there = record { start = 7; end = 9 }

abbrev pub word_at : Span → Name → PlainWord
word_at span n = record { span = span; bytes = n }

abbrev pub x : Span → PlainWord
x span = word_at span (codes "x")

abbrev pub y : PlainWord
y = word_at here (codes "y")

abbrev pub a : PlainWord
a = word_at here (codes "a")

abbrev pub d : PlainSort
d = named_sort (word_at there (codes "D"))

abbrev pub variable : Name → Expression
variable n = word n none

-- ---- trees
-- List((D))
abbrev pub list_of_d : PlainSort
list_of_d = list_sort here (brackets_sort there d)

-- (x - y) + -12, and the same without brackets elsewhere
abbrev pub difference : PlainData
difference = datas.sum_chain here (datas.named (x here)) (more_operands infixes.Subtract (datas.named y) no_operands)

abbrev pub minus_twelve : PlainData
minus_twelve = datas.prefix here prefixes.Negate (datas.numeral (word_at here (codes "12")))

abbrev pub with_brackets : PlainData
with_brackets = datas.sum_chain here (datas.brackets here difference) (more_operands infixes.Add minus_twelve no_operands)

abbrev pub without_brackets : PlainData
without_brackets = datas.sum_chain there (datas.named (x there)) (more_operands infixes.Subtract (datas.named y) (more_operands infixes.Add minus_twelve no_operands))

-- x && y && true
abbrev pub conjunction : PlainData
conjunction = datas.and_chain here (more_datas (datas.named (x here)) (more_datas (datas.named y) (more_datas (datas.true_data here) no_datas)))

-- x, y: D, x: Nat
abbrev pub groups : List PlainVarGroup
groups = record { span = here; names = x here ∷ y ∷ []; sort = d } ∷ record { span = here; names = x there ∷ []; sort = nat_sort here } ∷ []

-- (a(x) . (tau)) + sum x, y: D, x: Nat . delta
abbrev pub body : PlainProcess
body =
    processes.choice here
    (more_processes (processes.within here (processes.sequence here (more_processes (processes.acts (named_action here a (datas.named (x here) ∷ []))) (more_processes (processes.within there (processes.acts (tau_action there))) no_processes))))
    (more_processes (processes.sum here groups (processes.delta there)) no_processes))

-- ---- what they are
abbrev pub difference_and_twelve : Expression
difference_and_twelve = two (codes "+") (two (codes "-") (variable (codes "x")) (variable (codes "y"))) (one (codes "-") (numeral 12))

abbrev pub bare_groups : bare.Variables
bare_groups = (codes "x", a_name (codes "D")) ∷ (codes "y", a_name (codes "D")) ∷ (codes "x", naturals) ∷ []

abbrev pub bare_body : bare.Process
bare_body =
    bare.choice
    (bare.more (bare.sequence (bare.more (bare.acts (bare.act (codes "a") (variable (codes "x") ∷ []) ∷ [])) (bare.more (bare.acts (bare.tau ∷ [])) bare.none)))
    (bare.more (bare.sum bare_groups bare.delta) bare.none))

-- spans and brackets fall away, sums group to the left and conjunctions to the right, and each variable has its own sort
pub record TreesAreBare : Type 0 where
  pub sorts : bare_sort list_of_d ≡ lists_of (a_name (codes "D"))
  pub sums : bare_data with_brackets ≡ difference_and_twelve
  pub other_sums : bare_data without_brackets ≡ difference_and_twelve
  pub conjunctions : bare_data conjunction ≡ two (codes "&&") (variable (codes "x")) (two (codes "&&") (variable (codes "y")) (variable (codes "true")))
  pub groups_of_variables : bare_declaration (vars_decl here groups) ≡ variables bare_groups
  pub definitions : bare_declaration (proc_decl there y groups body) ≡ process (codes "y") bare_groups bare_body
  pub structs : bare_declaration (struct_decl here y (record { span = there; name = a; fields = record { span = here; name = Some (x here); sort = d } ∷ []; recogniser = None } ∷ []))
      ≡ struct (codes "y") (record { name = codes "a"; fields = record { name = Some (codes "x"); sort = a_name (codes "D") } ∷ []; recogniser = None } ∷ [])
