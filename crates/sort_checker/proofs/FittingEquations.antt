-- What elaborates fits: equations.
use Rattle.std.proofs.Common.{◌≡◌, ℕ, List, [], ◌∷◌, ◌++◌, map, refl, ap, subst}
use Rattle.std.specs.Prelude.{Option, Some, None, option_map, option_and_then}
use Rattle.std.specs.List.{Contains, AllByRecursion}
use Rattle.std.proofs.lemmas.Option.{same_Some, option_and_then_some}
use Rattle.std.proofs.lemmas.List.Elements.{Contains-append_left, Contains-append_right}
use Rattle.data_theory.specs.Terms.{Sort, boolean, Term, Terms, variable, numeral, unknown, application, none, more, variables_of, variables_of_all}
use Rattle.data_theory.specs.Declarations.{Data, IsSort, Declares, argument_sorts, HasSort, HaveSorts}
use Rattle.data_theory.specs.Provable.{Equation, variables_of_equation}
use Rattle.data_theory.proofs.EnvironmentLemmas.{one_sort}
use Rattle.process_terms.specs.Processes as processes
use Rattle.sort_table.specs.Expressions.{Name, Expression}
use Rattle.sort_table.specs.NamedLists.{first_named}
use Rattle.sort_table.specs.BareProcesses.{Variables}
use Rattle.sort_table.specs.Vocabularies.{Vocabulary}
use Rattle.data_typing.specs.Typings.{Inferred, Typing, bound, functions}
use Rattle.data_typing.specs.TypingLaws.{HasSmallNumerals, IsScope, Reads}
use Rattle.data_typing.specs.BuiltIns.{scheme_named}
use Rattle.data_typing.specs.Meanings.{Bound, Scope, bound_row, meaning, meaning_or, signatures_named, typing_in}
use Rattle.data_typing.proofs.Options.{one_or_other, mapped}
use Rattle.data_typing.proofs.NamedParts.{first_named_is}
use Rattle.data_typing.proofs.Readings.{typing_reads_the_expression}
use Rattle.data_typing.proofs.MeaningSorts.{inferred_terms_have_their_sorts, checked_terms_have_the_sort}
use Rattle.sort_checker.specs.FullVocabularies.{FullVocabulary}
use Rattle.sort_checker.specs.Scopes.{Binds, binds_none, binds_more}
use Rattle.sort_checker.specs.PartTypings.{condition_at}
use Rattle.sort_checker.specs.Elaborations.{WrittenEquation, ElaboratesEquation}
use Rattle.sort_checker.specs.FittingBodies.{AreSorted, IsOverSorts, EachOption, bounds_of, EquationsFit}
use Rattle.sort_checker.proofs.Members.{contains_first}
use Rattle.sort_checker.proofs.EquationNumbers.{sorts_for, declared}
use Rattle.sort_checker.proofs.SortedParts.{is_scope}
use Rattle.sort_checker.proofs.VariableWords.{variable_is_word}
use Rattle.sort_checker.proofs.FittingElaborations.{inner_sorts}

-- what holds of each variable in scope
pub inside : {v : Vocabulary} {scope inner : Scope} {xs : Variables} {bs : List processes.Bound} (P : ℕ → Sort → Type 0) → AllByRecursion (λ (b : Bound). P b.number b.sort) scope → AllByRecursion (λ (b : processes.Bound). P b.var b.sort) bs
    → Binds v scope xs inner bs → AllByRecursion (λ (b : Bound). P b.number b.sort) inner
inside P h k binds_none = h
inside P h k (binds_more e f bs) = inside P (k.0, h) k.1 bs

both_hold : {A : Type 0} (P Q : A → Type 0) (xs : List A) → AllByRecursion P xs → AllByRecursion Q xs → AllByRecursion (λ x. P x × Q x) xs
both_hold P Q [] h k = tt
both_hold P Q (x ∷ xs) h k = ((h.0, k.0), both_hold P Q xs h.1 k.1)

pub rows_hold : (P : Bound → Type 0) (scope : Scope) → AllByRecursion P scope → AllByRecursion (λ (r : Name × Bound). P r.1) (map bound_row scope)
rows_hold P [] h = tt
rows_hold P (b ∷ scope) h = (h.0, rows_hold P scope h.1)

-- a word that is a variable is one in scope
pub word_in_scope : (v : Vocabulary) (scope : Scope) (x : Name) (n : ℕ) (s : Sort) → meaning v scope x ≡ bound n s → (b : Bound) × (first_named x (map bound_row scope) ≡ Some b) × (b.number ≡ n) × (b.sort ≡ s)
word_in_scope v scope x n s h = by_variable (first_named x (map bound_row scope)) refl h
  where
    by_variable : (o : Option Bound) → first_named x (map bound_row scope) ≡ o → meaning_or (functions (signatures_named v x) (scheme_named x)) o ≡ bound n s
        → (b : Bound) × (first_named x (map bound_row scope) ≡ Some b) × (b.number ≡ n) × (b.sort ≡ s)
    by_variable None e k = absurd cc
    by_variable (Some b) e k = (b, e, cc, cc)

-- a term keeps its sort where its variables have theirs
mutual
  sort_stays : (g : Data) (vs us : List Sort) (t : Term) (s : Sort) → ((n : ℕ) (r : Sort) → Contains (variables_of t) n → Declares vs n r → Declares us n r) → HasSort g vs t s → HasSort g us t s
  sort_stays g vs us (variable n) s h i = h n s (contains_first n []) i
  sort_stays g vs us (numeral a z) s h i = i
  sort_stays g vs us (unknown d k) s h i = i
  sort_stays g vs us (application f ts) s h i = (i.0, sorts_stay g vs us ts (argument_sorts g f) h i.1, i.2, i.3)

  sorts_stay : (g : Data) (vs us : List Sort) (ts : Terms) (ss : List Sort) → ((n : ℕ) (r : Sort) → Contains (variables_of_all ts) n → Declares vs n r → Declares us n r) → HaveSorts g vs ts ss → HaveSorts g us ts ss
  sorts_stay g vs us none [] h i = tt
  sorts_stay g vs us none (s ∷ ss) h i = absurd i
  sorts_stay g vs us (more t ts) [] h i = absurd i
  sorts_stay g vs us (more t ts) (s ∷ ss) h i =
      (sort_stays g vs us t s (λ n r c. h n r (Contains-append_left (variables_of t) (variables_of_all ts) n c)) i.0, sorts_stay g vs us ts ss (λ n r c. h n r (Contains-append_right (variables_of t) (variables_of_all ts) n c)) i.1)

-- ---- an equation over the sorts of all variables in scope
abbrev OccursSorted : Equation → List Sort → ℕ → Sort → Type 0
OccursSorted q vs n s = (Contains (variables_of_equation q) n → Declares q.sorts n s) × Declares vs n s

sorted_bounds : (vs : List Sort) (scope : Scope) → AllByRecursion (λ (b : Bound). Declares vs b.number b.sort) scope → AreSorted vs (bounds_of scope)
sorted_bounds vs [] k = tt
sorted_bounds vs (b ∷ scope) k = (k.0, sorted_bounds vs scope k.1)

known : (v : FullVocabulary) (e : WrittenEquation) (q : Equation) (h : ElaboratesEquation v e q) → AllByRecursion (λ (b : Bound). OccursSorted q (sorts_for h.bounds) b.number b.sort) h.scope
known v e q h =
    inside (OccursSorted q (sorts_for h.bounds)) tt
    (both_hold (λ (x : processes.Bound). Contains (variables_of_equation q) x.var → Declares q.sorts x.var x.sort) (λ (x : processes.Bound). Declares (sorts_for h.bounds) x.var x.sort) h.bounds h.sorts (declared h.binds)) h.binds

-- a term of the equation that reads an expression
moved : (v : FullVocabulary) (e : WrittenEquation) (q : Equation) (h : ElaboratesEquation v e q) (d : Expression) (t : Term) (s : Sort) → Reads (meaning v.declared h.scope) d t
    → ((n : ℕ) → Contains (variables_of t) n → Contains (variables_of_equation q) n) → HasSort v.declared.tables (sorts_for h.bounds) t s → HasSort v.declared.tables q.sorts t s
moved v e q h d t s r among i =
    sort_stays v.declared.tables (sorts_for h.bounds) q.sorts t s
    (λ n b c there.
    let w = variable_is_word r n c in
    let found = word_in_scope v.declared h.scope w.word n w.sort w.meant in
    let both = first_named_is (λ (x : Bound). OccursSorted q (sorts_for h.bounds) x.number x.sort) w.word (map bound_row h.scope) (rows_hold (λ (x : Bound). OccursSorted q (sorts_for h.bounds) x.number x.sort) h.scope (known v e q h)) found.0 found.1 in
    let here : OccursSorted q (sorts_for h.bounds) n found.0.sort = subst (λ (k : ℕ). OccursSorted q (sorts_for h.bounds) k found.0.sort) found.2 both in
    subst (λ (x : Sort). Declares q.sorts n x) (one_sort (sorts_for h.bounds) n found.0.sort b here.1 there) (here.0 (among n c)))
    i

-- ---- the parts of an equation
module _ (v : FullVocabulary) (over : IsOverSorts v) (e : WrittenEquation) (q : Equation) (h : ElaboratesEquation v e q) where
  scope_is : IsScope v.declared.tables (sorts_for h.bounds) h.scope
  scope_is = is_scope v.declared.tables (sorts_for h.bounds) h.scope (inner_sorts v over tt h.binds) (sorted_bounds (sorts_for h.bounds) h.scope (inside (Declares (sorts_for h.bounds)) tt (declared h.binds) h.binds))

  in_condition : (n : ℕ) → Contains (variables_of q.condition) n → Contains (variables_of_equation q) n
  in_condition n c = Contains-append_left (variables_of q.condition) (variables_of q.left ++ variables_of q.right) n c

  in_left : (n : ℕ) → Contains (variables_of q.left) n → Contains (variables_of_equation q) n
  in_left n c = Contains-append_right (variables_of q.condition) (variables_of q.left ++ variables_of q.right) n (Contains-append_left (variables_of q.left) (variables_of q.right) n c)

  in_right : (n : ℕ) → Contains (variables_of q.right) n → Contains (variables_of_equation q) n
  in_right n c = Contains-append_right (variables_of q.condition) (variables_of q.left ++ variables_of q.right) n (Contains-append_right (variables_of q.left) (variables_of q.right) n c)

  left_fits : HasSmallNumerals e.left → HasSmallNumerals e.right → IsSort v.declared.tables h.sort × HasSort v.declared.tables q.sorts q.left h.sort
  left_fits small_left small_right =
      let l : Typing = typing_in v.declared h.scope e.left in
      let r : Typing = typing_in v.declared h.scope e.right in
      one_or_other l.infers (option_and_then (λ (i : Inferred). option_map (λ t. record { term = t; sort = i.sort }) (l.checks i.sort)) r.infers) (record { term = q.left; sort = h.sort }) h.left
      (λ w. let is = inferred_terms_have_their_sorts v.declared (sorts_for h.bounds) h.scope over.data_are scope_is e.left small_left q.left h.sort w in
      (is.0, moved v e q h e.left q.left h.sort ((typing_reads_the_expression (meaning v.declared h.scope) e.left).infers (record { term = q.left; sort = h.sort }) w) in_left is.1))
      (λ w. option_and_then_some (λ (i : Inferred). option_map (λ t. record { term = t; sort = i.sort }) (l.checks i.sort)) r.infers (record { term = q.left; sort = h.sort }) w
      (λ i there k. mapped (λ t. record { term = t; sort = i.sort }) (l.checks i.sort) (record { term = q.left; sort = h.sort }) k
      (λ t checks same.
      let its_sort = inferred_terms_have_their_sorts v.declared (sorts_for h.bounds) h.scope over.data_are scope_is e.right small_right i.term i.sort there in
      let has = checked_terms_have_the_sort v.declared (sorts_for h.bounds) h.scope over.data_are scope_is e.left small_left i.sort t its_sort.0 checks in
      let one : t ≡ q.left = ap (λ (j : Inferred). j.term) same in
      let two : i.sort ≡ h.sort = ap (λ (j : Inferred). j.sort) same in
      let at : HasSort v.declared.tables (sorts_for h.bounds) q.left h.sort = subst (λ (u : Term). HasSort v.declared.tables (sorts_for h.bounds) u h.sort) one (subst (λ (s : Sort). HasSort v.declared.tables (sorts_for h.bounds) t s) two has) in
      let reads : Reads (meaning v.declared h.scope) e.left q.left = subst (Reads (meaning v.declared h.scope) e.left) one ((typing_reads_the_expression (meaning v.declared h.scope) e.left).checks i.sort t checks) in
      (subst (IsSort v.declared.tables) two its_sort.0, moved v e q h e.left q.left h.sort reads in_left at))))

  right_fits : HasSmallNumerals e.right → IsSort v.declared.tables h.sort → HasSort v.declared.tables q.sorts q.right h.sort
  right_fits small is =
      moved v e q h e.right q.right h.sort ((typing_reads_the_expression (meaning v.declared h.scope) e.right).checks h.sort q.right h.right) in_right
      (checked_terms_have_the_sort v.declared (sorts_for h.bounds) h.scope over.data_are scope_is e.right small h.sort q.right is h.right)

  condition_fits : EachOption HasSmallNumerals e.condition → HasSort v.declared.tables q.sorts q.condition boolean
  condition_fits small = by_form e.condition small h.condition
    where
      by_form : (c : Option Expression) → EachOption HasSmallNumerals c → condition_at v.declared h.scope c ≡ Some q.condition → HasSort v.declared.tables q.sorts q.condition boolean
      by_form None s k = subst (λ (u : Term). HasSort v.declared.tables q.sorts u boolean) (same_Some _ _ k) (tt, tt, refl, refl)
      by_form (Some d) s k =
          moved v e q h d q.condition boolean ((typing_reads_the_expression (meaning v.declared h.scope) d).checks boolean q.condition k) in_condition
          (checked_terms_have_the_sort v.declared (sorts_for h.bounds) h.scope over.data_are scope_is d s boolean q.condition tt k)

pub equations_fit : EquationsFit
equations_fit v over e q small_condition small_left small_right h =
    let left = left_fits v over e q h small_left small_right in
    (h.sort, left.1, right_fits v over e q h small_right left.0, condition_fits v over e q h small_condition)
