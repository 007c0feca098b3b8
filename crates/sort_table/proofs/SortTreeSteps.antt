-- What the trees of sort expressions are, one step at a time.
use Rattle.std.proofs.Common.{◌≡◌, ℕ, suc, [], ◌∷◌, map, refl, ap, sym, ◌∙◌}
use Rattle.std.proofs.Common as common
use Rattle.std.specs.List.{flat_map}
use Rattle.std.proofs.lemmas.Grind.{flat_map-append}
use Rattle.std.specs.Global.{Box}
use Rattle.mcrl2_syntax.specs.declared.word.Span.{Span}
use Rattle.mcrl2_syntax.specs.declared.word.Word.{Word}
use Rattle.mcrl2_syntax.specs.Words.{PlainWord, word_of}
use Rattle.mcrl2_syntax.specs.declared.sort_tree.SortTree.{SortTree}
use Rattle.mcrl2_syntax.specs.declared.sort_tree.SortTree.TheVariants.{Name, List, Brackets, rolls-Name, rolls-List, rolls-Brackets}
use Rattle.mcrl2_syntax.specs.declared.sort_tree.SortTree.TheFolds.{fold-roll-SortTree}
use Rattle.mcrl2_syntax.specs.SortTrees.{PlainSort, bool_sort, pos_sort, nat_sort, int_sort, list_sort, named_sort, brackets_sort, plain_sort, plain_sort_step}
use Rattle.mcrl2_syntax.specs.declared.process_tree.ProcTree.{ProcTree}
use Rattle.mcrl2_syntax.specs.ProcessTrees.{plain_process, processes_of}
use Rattle.sort_table.specs.BareSorts.{SortExpression, lists_of, a_name, bare_sort}
use Rattle.sort_table.specs.BareProcesses.{bare_process, bare_processes, sums_in, sums_in_all}
use Rattle.sort_table.specs.Built.{sorts_of_variables}
use Rattle.sort_table.proofs.Searches.{IsListed}

abbrev pub expression_of : SortTree → SortExpression
expression_of t = bare_sort (plain_sort t)

pub name_step : (name : Word) → expression_of (Name name) ≡ a_name name.bytes.items
name_step name = ap bare_sort (ap plain_sort (sym (rolls-Name name)) ∙ fold-roll-SortTree PlainSort plain_sort_step _)

pub list_step : (span : Span) (inner : Box SortTree) → expression_of (List span inner) ≡ lists_of (expression_of inner.value)
list_step span inner = ap bare_sort (ap plain_sort (sym (rolls-List span inner)) ∙ fold-roll-SortTree PlainSort plain_sort_step _)

pub brackets_step : (span : Span) (inner : Box SortTree) → expression_of (Brackets span inner) ≡ expression_of inner.value
brackets_step span inner = ap bare_sort (ap plain_sort (sym (rolls-Brackets span inner)) ∙ fold-roll-SortTree PlainSort plain_sort_step _)

-- ---- how deep a tree is
abbrev pub tree_depth : PlainSort → ℕ
tree_depth (bool_sort span) = 0
tree_depth (pos_sort span) = 0
tree_depth (nat_sort span) = 0
tree_depth (int_sort span) = 0
tree_depth (list_sort span s) = suc (tree_depth s)
tree_depth (named_sort w) = 0
tree_depth (brackets_sort span s) = suc (tree_depth s)

unfoldable pub depth_of : SortTree → ℕ
depth_of t = tree_depth (plain_sort t)

pub list_deeper : (span : Span) (inner : Box SortTree) → depth_of (List span inner) ≡ suc (depth_of inner.value)
unfolding depth_of
list_deeper span inner = ap tree_depth (ap plain_sort (sym (rolls-List span inner)) ∙ fold-roll-SortTree PlainSort plain_sort_step _)

pub brackets_deeper : (span : Span) (inner : Box SortTree) → depth_of (Brackets span inner) ≡ suc (depth_of inner.value)
unfolding depth_of
brackets_deeper span inner = ap tree_depth (ap plain_sort (sym (rolls-Brackets span inner)) ∙ fold-roll-SortTree PlainSort plain_sort_step _)

-- ---- the sorts of sum variables
abbrev pub sorts_of_processes : common.List ProcTree → common.List SortExpression
sorts_of_processes ps = flat_map sorts_of_variables (sums_in_all (bare_processes (processes_of (map plain_process ps))))

abbrev pub sorts_of_process : ProcTree → common.List SortExpression
sorts_of_process p = flat_map sorts_of_variables (sums_in (bare_process (plain_process p)))

pub sums_listed : IsListed sorts_of_processes sorts_of_process
sums_listed = record { of_none = refl; of_more = λ p ps. flat_map-append sorts_of_variables (sums_in (bare_process (plain_process p))) (sums_in_all (bare_processes (processes_of (map plain_process ps)))) }

-- the sorts of variables with one sort
pub group_sorts : (e : SortExpression) (ws : common.List Word) → map (λ (w : PlainWord). e) (map word_of ws) ≡ sorts_of_variables (map (λ (w : PlainWord). (w.bytes, e)) (map word_of ws))
group_sorts e [] = refl
group_sorts e (w ∷ ws) = ap (λ es. e ∷ es) (group_sorts e ws)
