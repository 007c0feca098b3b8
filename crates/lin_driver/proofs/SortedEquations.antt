-- The equations of a text are well formed over each vocabulary of it.
use Rattle.std.proofs.Common.{◌≡◌, Bool, true, false, cond, List, [], ◌∷◌, refl, sym, ap, ◌∙◌}
use Rattle.std.specs.Prelude.{Some, option_map, bytes_eq}
use Rattle.std.specs.List.{AllByRecursion}
use Rattle.std.proofs.lemmas.Slice.Eq.{bytes_eq-Decides}
use Rattle.data_theory.specs.Terms.{Sort, list}
use Rattle.data_theory.specs.Declarations.{IsSort}
use Rattle.data_theory.specs.Provable.{Equation}
use Rattle.mcrl2_syntax.specs.Declarations.{PlainSpec}
use Rattle.mcrl2_syntax.specs.TreeWords.{IsSpecOfWords}
use Rattle.process_terms.specs.Processes as processes
use Rattle.process_terms.specs.Processes.{Process}
use Rattle.process_terms.specs.Theories.{Theory}
use Rattle.sort_table.specs.Expressions.{Name}
use Rattle.sort_table.specs.NamedLists.{first_named}
use Rattle.sort_table.specs.BareDeclarations.{bare_sections}
use Rattle.sort_table.specs.BareProcesses.{Variables}
use Rattle.sort_table.specs.BareSorts.{SortExpression, truth_values, positives, naturals, integers, lists_of, a_name}
use Rattle.sort_table.specs.Vocabularies.{Vocabulary, sort_in}
use Rattle.data_typing.specs.Meanings.{Scope}
use Rattle.data_typing.specs.TypingLaws.{IsOverData}
use Rattle.sort_checker.specs.Elaborations.{WrittenEquation, ElaboratesEquation}
use Rattle.sort_checker.specs.FittingBodies.{IsOverSorts}
use Rattle.sort_checker.specs.FullVocabularies.{FullVocabulary}
use Rattle.sort_checker.specs.Scopes.{Binds, binds_none, binds_more}
use Rattle.sort_checker.specs.Systems.{equations_in, IsSystem}
use Rattle.eqn_check.specs.AcceptedLaws.{AreWellFormed}
use Rattle.lin_driver.proofs.AmongLists.{contains_among, all_among, pairs_back}
use Rattle.lin_driver.proofs.RewritableEquations.{IsSmall, small_equations, elaborated_is_well_formed}
use Rattle.lin_driver.proofs.SoundVocabularies.{is_sort, is_over_data}

-- ---- the first rows of each name
module _ {A : Type 0} where
  abbrev others : Name → List (Name × A) → List (Name × A)
  others x [] = []
  others x (r ∷ rs) = cond (bytes_eq x r.0) (others x rs) (r ∷ others x rs)

  abbrev firsts : List (Name × A) → List (Name × A)
  firsts [] = []
  firsts (r ∷ rs) = r ∷ others r.0 (firsts rs)

  first_of_others : (x n : Name) (rs : List (Name × A)) → bytes_eq x n ≡ false → first_named n (others x rs) ≡ first_named n rs
  first_of_others x n [] h = refl
  first_of_others x n (r ∷ rs) h = by_test (bytes_eq x r.0) refl (first_of_others x n rs h)
    where
      by_test : (b : Bool) → bytes_eq x r.0 ≡ b → first_named n (others x rs) ≡ first_named n rs → first_named n (cond b (others x rs) (r ∷ others x rs)) ≡ cond (bytes_eq r.0 n) (Some r.1) (first_named n rs)
      by_test true e rest =
          let other : bytes_eq r.0 n ≡ false = ap (λ (m : Name). bytes_eq m n) (sym ((bytes_eq-Decides x r.0).0 e)) ∙ h in rest ∙ sym (ap (λ (b : Bool). cond b (Some r.1) (first_named n rs)) other)
      by_test false e rest = ap (cond (bytes_eq r.0 n) (Some r.1)) rest

  firsts_found : (n : Name) (rs : List (Name × A)) → first_named n (firsts rs) ≡ first_named n rs
  firsts_found n [] = refl
  firsts_found n (r ∷ rs) = by_test (bytes_eq r.0 n) refl (firsts_found n rs)
    where
      by_test : (b : Bool) → bytes_eq r.0 n ≡ b → first_named n (firsts rs) ≡ first_named n rs → cond b (Some r.1) (first_named n (others r.0 (firsts rs))) ≡ cond b (Some r.1) (first_named n rs)
      by_test true e rest = refl
      by_test false e rest = first_of_others r.0 n (firsts rs) e ∙ rest

  all_others : (P : Name × A → Type 0) (x : Name) (rs : List (Name × A)) → AllByRecursion (λ (r : Name × A). bytes_eq x r.0 ≡ false → P r) rs → AllByRecursion P (others x rs)
  all_others P x [] all = tt
  all_others P x (r ∷ rs) all = by_test (bytes_eq x r.0) refl (all_others P x rs all.1)
    where
      by_test : (b : Bool) → bytes_eq x r.0 ≡ b → AllByRecursion P (others x rs) → AllByRecursion P (cond b (others x rs) (r ∷ others x rs))
      by_test true e rest = rest
      by_test false e rest = (all.0 e, rest)

  all_firsts : (P : Name × A → Type 0) (rs : List (Name × A)) → ((n : Name) (x : A) → first_named n rs ≡ Some x → P (n, x)) → AllByRecursion P (firsts rs)
  all_firsts P [] h = tt
  all_firsts P (r ∷ rs) h = (
    h r.0 r.1 (ap (λ (b : Bool). cond b (Some r.1) (first_named r.0 rs)) ((bytes_eq-Decides r.0 r.0).1 refl)),
    all_others P r.0 (firsts rs) (all_firsts (λ (q : Name × A). bytes_eq r.0 q.0 ≡ false → P q) rs (λ n x e other. h n x (ap (λ (b : Bool). cond b (Some r.1) (first_named n rs)) other ∙ e))),
  )

sort_of_firsts : (ns : List (Name × Sort)) (e : SortExpression) → sort_in (firsts ns) e ≡ sort_in ns e
sort_of_firsts ns truth_values = refl
sort_of_firsts ns positives = refl
sort_of_firsts ns naturals = refl
sort_of_firsts ns integers = refl
sort_of_firsts ns (lists_of e) = ap (option_map list) (sort_of_firsts ns e)
sort_of_firsts ns (a_name n) = firsts_found n ns

-- ---- what an equation needs of a vocabulary
-- the first sort of each name, and neither actions nor processes
abbrev for_equations : FullVocabulary → FullVocabulary
for_equations v = record {
  declared = record { tables = v.declared.tables; sort_names = firsts v.declared.sort_names; function_names = v.declared.function_names; actions = [] };
  processes = [];
}

over_sorts : (v : FullVocabulary) → IsOverData v.declared → ((e : SortExpression) (s : Sort) → sort_in v.declared.sort_names e ≡ Some s → IsSort v.declared.tables s) → IsOverSorts (for_equations v)
over_sorts v over is = record {
  data_are = record { data_are = over.data_are; numbers = over.numbers };
  names = all_firsts (λ (n : Name × Sort). IsSort v.declared.tables n.1) v.declared.sort_names (λ n s e. is (a_name n) s e);
  actions = tt;
  parameters = tt;
}

binds_with : (v w : Vocabulary) → ((e : SortExpression) (s : Sort) → sort_in v.sort_names e ≡ Some s → sort_in w.sort_names e ≡ Some s) → {scope inner : Scope} {xs : Variables} {bs : List processes.Bound} → Binds v scope xs inner bs → Binds w scope xs inner bs
binds_with v w same binds_none = binds_none
binds_with v w same (binds_more {s = s} {e = e} h free rest) = binds_more (same e s h) free (binds_with v w same rest)

elaborates_for : (v : FullVocabulary) (e : WrittenEquation) (q : Equation) → ElaboratesEquation v e q → ElaboratesEquation (for_equations v) e q
elaborates_for v e q h = record {
  scope = h.scope;
  bounds = h.bounds;
  binds = binds_with v.declared (for_equations v).declared (λ x s k. sort_of_firsts v.declared.sort_names x ∙ k) h.binds;
  sorts = h.sorts;
  sort = h.sort;
  left = h.left;
  right = h.right;
  condition = h.condition;
  no_variable = h.no_variable;
  no_other = h.no_other;
}

-- ---- of a text
pub equations_are_well_formed : (spec : PlainSpec) → IsSpecOfWords spec → (v : FullVocabulary) (th : Theory) (p : Process) → IsSystem (bare_sections spec) v th p → AreWellFormed v.declared.tables th.equations
equations_are_well_formed spec words v th p system q i =
    let sound = system.well_typed.sound in
    let is = system.well_typed.vocabulary.declared in
    let over : IsOverSorts (for_equations v) = over_sorts v (is_over_data (bare_sections spec) sound v.declared is) (is_sort (bare_sections spec) sound v.declared is) in
    let r = pairs_back (ElaboratesEquation v) (equations_in (bare_sections spec)) th.equations system.equations (contains_among q th.equations i) in
    elaborated_is_well_formed (for_equations v) over r.0 q (all_among IsSmall (equations_in (bare_sections spec)) (small_equations spec words) r.1) (elaborates_for v r.0 q r.2)
