-- The names that trees rename twice, one after the other.
use Rattle.std.proofs.Common.{◌≡◌, List, map, refl, ap, sym, ◌∙◌}
use Rattle.std.specs.Prelude.{Option, Some, None, option_map}
use Rattle.std.specs.Option.{option_or}
use Rattle.std.specs.Global.{Box, Vec}
use Rattle.std.proofs.lemmas.Simd.{map-map}
use Rattle.mcrl2_syntax.specs.declared.word.Span.{Span}
use Rattle.mcrl2_syntax.specs.declared.data_tree.DataTree.{DataTree}
use Rattle.mcrl2_syntax.specs.declared.process_tree.Renaming.{Renaming}
use Rattle.mcrl2_syntax.specs.declared.process_tree.ProcTree.{ProcTree}
use Rattle.mcrl2_syntax.specs.declared.process_tree.ProcTree.TheVariants.{Rename, Either, LeftMerge, rolls-Rename, rolls-Either, rolls-LeftMerge}
use Rattle.mcrl2_syntax.specs.declared.process_tree.ProcTree.TheFolds.{fold-roll-ProcTree}
use Rattle.mcrl2_syntax.specs.ProcessParts.{PlainRenaming, renaming_of}
use Rattle.mcrl2_syntax.specs.ProcessTrees.{PlainProcess, plain_process, plain_process_step, processes_of}
use Rattle.process_terms.specs.Processes as written
use Rattle.sort_table.specs.Expressions.{Name}
use Rattle.sort_table.specs.BareProcesses.{bare_process}
use Rattle.sort_checker.specs.Operators as operators
use Rattle.sort_checker.specs.Operators.{operators_in, renamed_twice, first_again}
use Rattle.sort_checker.specs.RenamedTrees.{again_in_process, again_in_processes, again_among}
use Rattle.sort_checker.proofs.Firsts.{IsSearch, first_append}

abbrev pub again_in_all : List ProcTree → Option Name
again_in_all ps = again_in_processes (processes_of (map plain_process ps))

abbrev pub again_in_one : ProcTree → Option Name
again_in_one p = again_in_process (plain_process p)

pub processes_searched : IsSearch again_in_all again_in_one
processes_searched = record { of_none = refl; of_more = λ p ps. first_append renamed_twice (operators_in (bare_process (plain_process p))) _ }

pub either_again : (span : Span) (d : Box DataTree) (then other : Box ProcTree) → again_in_one (Either span d then other) ≡ option_or (again_in_one then.value) (again_in_one other.value)
either_again span d then other =
    ap again_in_process (ap plain_process (sym (rolls-Either span d then other)) ∙ fold-roll-ProcTree PlainProcess plain_process_step _)
    ∙ first_append renamed_twice (operators_in (bare_process (plain_process then.value))) (operators_in (bare_process (plain_process other.value)))

pub left_merge_again : (span : Span) (first second : Box ProcTree) → again_in_one (LeftMerge span first second) ≡ option_or (again_in_one first.value) (again_in_one second.value)
left_merge_again span first second =
    ap again_in_process (ap plain_process (sym (rolls-LeftMerge span first second)) ∙ fold-roll-ProcTree PlainProcess plain_process_step _)
    ∙ first_append renamed_twice (operators_in (bare_process (plain_process first.value))) (operators_in (bare_process (plain_process second.value)))

bare_names_again : (rs : List PlainRenaming) → first_again (map (λ (r : written.Renaming). r.from) (map operators.renaming_of (map (λ (r : PlainRenaming). (r.old.bytes, r.renamed.bytes)) rs))) ≡ again_among rs
bare_names_again rs = ap first_again (map-map (λ (r : written.Renaming). r.from) operators.renaming_of (map (λ (r : PlainRenaming). (r.old.bytes, r.renamed.bytes)) rs) ∙ map-map (λ (r : Name × Name). r.0) (λ (r : PlainRenaming). (r.old.bytes, r.renamed.bytes)) rs)

pub rename_again : (span : Span) (rs : Vec Renaming) (inner : Box ProcTree) → again_in_one (Rename span rs inner) ≡ option_or (again_among (map renaming_of rs.items)) (again_in_one inner.value)
rename_again span rs inner =
    ap again_in_process (ap plain_process (sym (rolls-Rename span rs inner)) ∙ fold-roll-ProcTree PlainProcess plain_process_step _)
    ∙ ap (λ (o : Option Name). option_or o (again_in_one inner.value)) (bare_names_again (map renaming_of rs.items))

-- ---- in one list or behind it
pub in_front : {A : Type 0} (g : A → Name) (whole front back : Option Name) (o : Option A) (x : A) → whole ≡ option_or front back → option_map g o ≡ front → o ≡ Some x → Some (g x) ≡ whole
in_front g whole front back o x is told it = sym (is ∙ ap (λ (p : Option Name). option_or p back) (sym told ∙ ap (option_map g) it))

pub in_back : {A : Type 0} (g : A → Name) (whole front back : Option Name) (o q : Option A) → whole ≡ option_or front back → option_map g o ≡ front → o ≡ None → option_map g q ≡ back → option_map g q ≡ whole
in_back g whole front back o q is told none then = then ∙ sym (is ∙ ap (λ (p : Option Name). option_or p back) (sym told ∙ ap (option_map g) none))
