-- The identifiers of trees, one step at a time.
use Rattle.std.proofs.Common.{◌≡◌, ◌<◌, ◌+◌, ℕ, suc, Bool, true, false, cond, List, [], ◌∷◌, ◌++◌, ◌-◌, length, length-drop, map, take, drop, get_or, refl, ap, sym, ◌∙◌, arith, append_assoc}
use Rattle.std.proofs.lemmas.List.{drop-drop}
use Rattle.std.proofs.Math.Seq.{drop-cons, take-length}
use Rattle.std.specs.Prelude.{Some, None}
use Rattle.std.proofs.lemmas.Option.{none-some, same_Some}
use Rattle.std.specs.List.{flat_map}
use Rattle.mcrl2_syntax.specs.declared.data_tree.InfixSign.{InfixSign}
use Rattle.mcrl2_syntax.specs.declared.data_tree.DataTree.{DataTree}
use Rattle.mcrl2_syntax.specs.declared.process_tree.ProcTree.{ProcTree}
use Rattle.mcrl2_syntax.specs.declared.declaration.Section.{Section}
use Rattle.mcrl2_syntax.specs.SortTrees as sorts
use Rattle.mcrl2_syntax.specs.SortTrees.{PlainSort}
use Rattle.mcrl2_syntax.specs.Declarations.{section_of}
use Rattle.mcrl2_syntax.specs.Copied.{is_copied}
use Rattle.mcrl2_syntax.specs.DataTrees.{PlainData, plain_data, plain_operands, datas_of, operands_of}
use Rattle.mcrl2_syntax.specs.ProcessTrees.{plain_process, processes_of}
use Rattle.sort_table.specs.Expressions.{Name}
use Rattle.sort_table.specs.BareSorts.{bare_sort}
use Rattle.sort_table.specs.UsedNames.{leaf_of}
use Rattle.sort_table.specs.Identifiers.{in_sort, in_data, in_datas, in_operands, in_process, in_processes, in_section, copied_in}
use Rattle.sort_table.proofs.Searches.{IsListed}

abbrev pub names_of_data : DataTree → List Name
names_of_data d = in_data (plain_data d)

abbrev pub names_of_process : ProcTree → List Name
names_of_process p = in_process (plain_process p)

-- ---- lists of trees
abbrev pub datas_of_all : List DataTree → List Name
datas_of_all ds = in_datas (datas_of (map plain_data ds))

pub datas_listed : IsListed datas_of_all names_of_data
datas_listed = record { of_none = refl; of_more = λ d ds. refl }

abbrev pub names_of_operands : List (InfixSign × DataTree) → List Name
names_of_operands os = in_operands (operands_of (plain_operands os))

abbrev pub names_of_operand : InfixSign × DataTree → List Name
names_of_operand o = names_of_data o.1

pub operands_listed : IsListed names_of_operands names_of_operand
operands_listed = record { of_none = refl; of_more = λ o os. refl }

abbrev pub names_of_processes : List ProcTree → List Name
names_of_processes ps = in_processes (processes_of (map plain_process ps))

pub processes_listed : IsListed names_of_processes names_of_process
processes_listed = record { of_none = refl; of_more = λ p ps. refl }

pub datas_flat : (ds : List PlainData) → in_datas (datas_of ds) ≡ flat_map in_data ds
datas_flat [] = refl
datas_flat (d ∷ ds) = ap (λ ns. in_data d ++ ns) (datas_flat ds)

-- ---- the name of a sort expression
pub sort_without_name : (s : PlainSort) → leaf_of (bare_sort s) ≡ None → in_sort s ≡ []
sort_without_name (sorts.bool_sort span) h = refl
sort_without_name (sorts.pos_sort span) h = refl
sort_without_name (sorts.nat_sort span) h = refl
sort_without_name (sorts.int_sort span) h = refl
sort_without_name (sorts.list_sort span s) h = sort_without_name s h
sort_without_name (sorts.named_sort w) h = absurd (none-some w.bytes (sym h))
sort_without_name (sorts.brackets_sort span s) h = sort_without_name s h

pub sort_with_name : (s : PlainSort) (n : Name) → leaf_of (bare_sort s) ≡ Some n → in_sort s ≡ n ∷ []
sort_with_name (sorts.bool_sort span) n h = absurd (none-some n h)
sort_with_name (sorts.pos_sort span) n h = absurd (none-some n h)
sort_with_name (sorts.nat_sort span) n h = absurd (none-some n h)
sort_with_name (sorts.int_sort span) n h = absurd (none-some n h)
sort_with_name (sorts.list_sort span s) n h = sort_with_name s n h
sort_with_name (sorts.named_sort w) n h = ap (λ m. m ∷ []) (same_Some w.bytes n h)
sort_with_name (sorts.brackets_sort span s) n h = sort_with_name s n h

-- ---- sections
abbrev pub copied_of : List Section → List Name
copied_of ss = copied_in (map section_of ss)

pub not_copied : (xs : List Section) → is_copied (map section_of xs) ≡ false → copied_of xs ≡ copied_of (drop 1 xs)
not_copied [] is = refl
not_copied (s ∷ xs) is = ap (λ (b : Bool). cond b (in_section (section_of s) ++ copied_of xs) (copied_of xs)) is

pub is_copied_first : (s : Section) (xs : List Section) → is_copied (map section_of (s ∷ xs)) ≡ true → copied_of (s ∷ xs) ≡ in_section (section_of s) ++ copied_of xs
is_copied_first s xs is = ap (λ (b : Bool). cond b (in_section (section_of s) ++ copied_of xs) (copied_of xs)) is

pub copied_then : (ss : List Section) (i : ℕ) (s : Section) (old new all : List Name) → i < length ss → s ≡ get_or ss i s → is_copied (map section_of (drop i ss)) ≡ true → new ≡ old ++ in_section (section_of s) → old ++ copied_of (drop i ss) ≡ all
    → new ++ copied_of (drop (i + 1) ss) ≡ all
copied_then ss i s old new all l e told added before =
    let next : suc i ≡ i + 1 = omega arith in
    let rest : drop i ss ≡ s ∷ drop (i + 1) ss = drop-cons ss i s l ∙ ((λ j. sym e j ∷ drop (next j) ss)) in
    let first : copied_of (drop i ss) ≡ in_section (section_of s) ++ copied_of (drop (i + 1) ss) = ap copied_of rest ∙ is_copied_first s (drop (i + 1) ss) (ap (λ xs. is_copied (map section_of xs)) (sym rest) ∙ told) in
    ap (λ ns. ns ++ copied_of (drop (i + 1) ss)) added ∙ (append_assoc old (in_section (section_of s)) (copied_of (drop (i + 1) ss)) ∙ (ap (λ ns. old ++ ns) (sym first) ∙ before))

pub copied_else : (ss : List Section) (i : ℕ) (old all : List Name) → is_copied (map section_of (drop i ss)) ≡ false → old ++ copied_of (drop i ss) ≡ all → old ++ copied_of (drop (i + 1) ss) ≡ all
copied_else ss i old all told before = ap (λ xs. old ++ copied_of xs) (sym (drop-drop 1 i ss)) ∙ (ap (λ ns. old ++ ns) (sym (not_copied (drop i ss) told)) ∙ before)

-- what stands from a place on
pub from_place : {A : Type 0} (xs : List A) (i : ℕ) → take (length xs - i) (drop i xs) ≡ drop i xs
from_place xs i = ap (λ n. take n (drop i xs)) (sym (length-drop i xs)) ∙ take-length (drop i xs)
