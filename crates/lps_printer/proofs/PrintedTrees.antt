-- The process term of a tree, by the printed one that it is.
use Rattle.std.proofs.Common.{◌≡◌, List, [], ◌∷◌, ◌++◌, map, refl, sym, ap, ap₂}
use Rattle.std.specs.Prelude.{Option, Some, None}
use Rattle.std.specs.List.{flat_map}
use Rattle.mcrl2_syntax.specs.Words.{PlainWord}
use Rattle.mcrl2_syntax.specs.DataTrees.{datas_of}
use Rattle.mcrl2_syntax.specs.ProcessParts.{PlainAction, tau_action, named_action, PlainVarGroup, PlainAssignment}
use Rattle.mcrl2_syntax.specs.ProcessTrees as trees
use Rattle.mcrl2_syntax.specs.ProcessTrees.{PlainProcess, PlainProcesses, no_processes, more_processes}
use Rattle.sort_table.specs.Expressions.{Name, Expression}
use Rattle.lps_printer.specs.PrintedExpressions as printed
use Rattle.lps_printer.specs.PrintedProcesses as printed_
use Rattle.sort_table.specs.BareSorts.{SortExpression, bare_sort}
use Rattle.lps_printer.specs.PrintedProcesses.{Next, ends, goes_bare, goes, with_next, with_condition, with_sums, summand_process, all_summands, choice_process}
use Rattle.lps_printer.proofs.Trees.{plain_bare}
use Rattle.sort_table.specs.BareProcesses as bare
use Rattle.sort_table.specs.BareProcesses.{Variables, bare_group, bare_variables, bare_action, bare_process, bare_processes}
use Rattle.sort_table.specs.BareData.{bare_data}
use Rattle.mcrl2_syntax.specs.DataTrees.{PlainData}
use Rattle.lps_printer.specs.WrittenProcesses.{plain_list, plain_action, plain_assignment, plain_group, plain_process, plain_processes, IsPrinted, ArePrinted}

listed_are : (ds : List PlainData) → map bare_data ds ≡ plain_list (printed.bare_all (datas_of ds))
listed_are [] = refl
listed_are (d ∷ ds) = ap₂ (λ (e : Expression) (es : List Expression). e ∷ es) (sym (plain_bare d)) (listed_are ds)

pub action_is : (a : PlainAction) → bare_action a ≡ plain_action (printed_.bare_action a)
action_is (tau_action span) = refl
action_is (named_action span f ds) = ap (λ (es : List Expression). bare.act f.bytes es) (listed_are ds)

actions_are : (as_ : List PlainAction) → map bare_action as_ ≡ map plain_action (map printed_.bare_action as_)
actions_are [] = refl
actions_are (a ∷ as_) = ap₂ (λ (x : bare.Action) (xs : List bare.Action). x ∷ xs) (action_is a) (actions_are as_)

abbrev bare_assigned : PlainAssignment → Name × Expression
bare_assigned d = (d.name.bytes, bare_data d.value)

assignments_are : (xs : List PlainAssignment) → map bare_assigned xs ≡ map plain_assignment (map printed_.bare_assignment xs)
assignments_are [] = refl
assignments_are (x ∷ xs) = ap₂ (λ (e : Expression) (ds : List (Name × Expression)). (x.name.bytes, e) ∷ ds) (sym (plain_bare x.value)) (assignments_are xs)

abbrev with_sort : SortExpression → PlainWord → Name × SortExpression
with_sort s w = (w.bytes, s)

abbrev name_with : SortExpression → Name → Name × SortExpression
name_with s x = (x, s)

names_are : (s : SortExpression) (ws : List PlainWord) → map (with_sort s) ws ≡ map (name_with s) (map (λ (w : PlainWord). w.bytes) ws)
names_are s [] = refl
names_are s (w ∷ ws) = ap (λ (xs : Variables). (w.bytes, s) ∷ xs) (names_are s ws)

pub groups_are : (gs : List PlainVarGroup) → bare_variables gs ≡ flat_map plain_group (map printed_.bare_variables gs)
groups_are [] = refl
groups_are (g ∷ gs) = ap₂ (λ (xs ys : Variables). xs ++ ys) (names_are (bare_sort g.sort) g.names) (groups_are gs)

mutual
  pub tree_is : (p : PlainProcess) → IsPrinted (printed_.bare_process p) → bare_process p ≡ plain_process (printed_.bare_process p)
  tree_is (trees.delta span) h = refl
  tree_is (trees.acts a) h = ap (λ (x : bare.Action). bare.acts (x ∷ [])) (action_is a)
  tree_is (trees.multi span as_) h = ap bare.acts (actions_are as_)
  tree_is (trees.call span f ds) h = ap (bare.call f.bytes) (assignments_are ds)
  tree_is (trees.within span p) h = tree_is p h
  tree_is (trees.sequence span ps) h = ap bare.sequence (trees_are ps h)
  tree_is (trees.sum span gs p) h = ap₂ bare.sum (groups_are gs) (tree_is p h)
  tree_is (trees.when span d p) h = ap₂ bare.when (sym (plain_bare d)) (tree_is p h)
  tree_is (trees.choice span ps) h = ap bare.choice (trees_are ps h)
  tree_is (trees.allow span sets p) h = absurd h
  tree_is (trees.block span ns p) h = absurd h
  tree_is (trees.hide span ns p) h = absurd h
  tree_is (trees.rename span rs p) h = absurd h
  tree_is (trees.comm span cs p) h = absurd h
  tree_is (trees.either span d p q) h = absurd h
  tree_is (trees.parallel span ps) h = absurd h
  tree_is (trees.sync span ps) h = absurd h
  tree_is (trees.left_merge span p q) h = absurd h

  trees_are : (ps : PlainProcesses) → ArePrinted (printed_.bare_processes ps) → bare_processes ps ≡ plain_processes (printed_.bare_processes ps)
  trees_are no_processes h = refl
  trees_are (more_processes p ps) h = ap₂ bare.more (tree_is p h.0) (trees_are ps h.1)

-- ---- the printed ones are of these forms
next_printed : (as_ : List printed_.Action) (n : Next) → IsPrinted (with_next (printed_.acts as_) n)
next_printed as_ ends = tt
next_printed as_ (goes_bare x) = (tt, (tt, tt))
next_printed as_ (goes x ds) = (tt, (tt, tt))

condition_printed : (c : Option printed.Expression) (p : printed_.Process) → IsPrinted p → IsPrinted (with_condition c p)
condition_printed None p h = h
condition_printed (Some c) p h = h

sums_printed : (vs : List printed_.Variable) (p : printed_.Process) → IsPrinted p → IsPrinted (with_sums vs p)
sums_printed [] p h = h
sums_printed (v ∷ vs) p h = h

summand_printed : (s : printed_.Summand) → IsPrinted (summand_process s)
summand_printed s = sums_printed s.sums _ (condition_printed s.condition _ (next_printed (s.first ∷ s.others) s.next))

all_printed : (s : printed_.Summand) (ss : List printed_.Summand) → ArePrinted (all_summands s ss)
all_printed s [] = (summand_printed s, tt)
all_printed s (r ∷ rs) = (summand_printed s, all_printed r rs)

pub choice_printed : (s : printed_.Summand) (ss : List printed_.Summand) → IsPrinted (choice_process s ss)
choice_printed s [] = summand_printed s
choice_printed s (r ∷ rs) = all_printed s (r ∷ rs)
