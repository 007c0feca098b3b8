-- Equations `n = []`: what they elaborate to, and that of all new constants of lists there may be one each.
use Rattle.std.proofs.Common.{◌≡◌, ◌+◌, ◌⊎◌, inl, inr, ⊎_elim, ℕ, zero, suc, Bool, true, false, ◌&&◌, List, [], ◌∷◌, ◌++◌, map, length, get_or, refl, sym, ap, ◌∙◌, subst, arith, length-append, get_or-append-add}
use Rattle.std.specs.Prelude.{Option, Some, None, option_map, option_and_then, slice_get}
use Rattle.std.specs.Option.{option_or}
use Rattle.std.specs.List.{filter, list_all}
use Rattle.std.proofs.lemmas.Option.{none-some, same_Some, slice_get_within, get_or_from_slice_get}
use Rattle.data_theory.specs.declared.rows.Row.{Row}
use Rattle.data_theory.specs.declared.rows.Row.TheVariants.{Constant, ListConstant, One, Two, Three}
use Rattle.data_theory.specs.Declarations.{Role, constructor, projection, recogniser, mapping, Data, DeclaredFunction, function_at}
use Rattle.data_theory.specs.Equations.{trueᵗ, emptyᵗ}
use Rattle.data_theory.specs.Provable.{Equation}
use Rattle.data_theory.specs.RowsOfWords.{has_name}
use Rattle.data_theory.specs.Table.{language_table, first_rows, truth_rows, comparison_rows, sum_rows, quotient_rows, extreme_rows, step_rows, sort_rows, list_rows}
use Rattle.data_theory.specs.Terms.{Sort, boolean, positive, natural, integer, list, named, function, Term, variable, application, apply}
use Rattle.data_theory.specs.Terms as terms
use Rattle.sort_table.specs.Duplicates.{any_sort, lists_of_any}
use Rattle.sort_table.specs.Expressions.{Name, Expression, word, listed, none}
use Rattle.sort_table.specs.NamedLists.{all_named, first_named}
use Rattle.data_typing.specs.BuiltIns.{place_numbered, is_settled, row_signature, named_rows, built_ins, scheme_named}
use Rattle.data_typing.specs.Meanings.{Bound, Scope, bound_row, declared_signature, signatures_named, meaning_or, meaning, typing_in}
use Rattle.data_typing.specs.Typings.{Inferred, Typing, Signature, Place, itself, elements, settled, over, Scheme, candidates, first_candidate, first_of, all_at, applied, first_exact, first_fitting, exactly, checked, call_infers, functions, word_typing, typing}
use Rattle.data_typing.specs.Typings as typings
use Rattle.data_typing.proofs.Options.{one_or_other}
use Rattle.sort_checker.specs.Elaborations.{WrittenEquation, ElaboratesEquation}
use Rattle.sort_checker.specs.FullVocabularies.{FullVocabulary}
use Rattle.sort_checker.specs.PartTypings.{left_side, condition_at}
use Rattle.eqn_check.specs.AcceptedLaws.{IsNewEmptyList, AreNewEmptyLists}
use Rattle.lps_printer.specs.FilledLinears.{empty_equation}
use Rattle.lin_driver.specs.Headline.{IsOfAnEmptyList}
use Rattle.lin_driver.proofs.AmongLists.{contains_among, among_front, among_back, among_either, among_map, among_filter, places_once}
use Rattle.lin_driver.proofs.OneVocabulary.{Among, first_one, one_behind, among_none, Once}

-- ---- built-in constants are truth values
is_zero : ℕ → Bool
is_zero zero = true
is_zero (suc n) = false

abbrev is_of_truth : Row → Bool
is_of_truth (Constant w to) = is_zero to.0
is_of_truth (ListConstant w to) = true
is_of_truth (One w a to) = true
is_of_truth (Two w a b to) = true
is_of_truth (Three w a b c to) = true

constants_of_table : list_all is_of_truth (language_table any_sort lists_of_any) ≡ true
unfolding is_zero language_table first_rows truth_rows comparison_rows sum_rows quotient_rows extreme_rows step_rows sort_rows list_rows
constants_of_table = refl

both_true : (a b : Bool) → (a && b) ≡ true → (a ≡ true) × (b ≡ true)
both_true true b h = (refl, h)
both_true false b h = let never : false ≡ true = h in absurd cc

each_passes : {A : Type 0} (p : A → Bool) (xs : List A) → list_all p xs ≡ true → {x : A} → Among x xs → p x ≡ true
each_passes p [] h a = absurd (among_none a)
each_passes p (x ∷ xs) h first_one = (both_true (p x) (list_all p xs) h).0
each_passes p (x ∷ xs) h (one_behind a) = each_passes p xs (both_true (p x) (list_all p xs) h).1 a

first_sort : (k : ℕ) → is_zero k ≡ true → over boolean (get_or (settled boolean ∷ settled positive ∷ settled natural ∷ settled integer ∷ itself ∷ elements ∷ []) k itself) ≡ boolean
unfolding is_zero
first_sort zero h = refl
first_sort (suc k) h = let never : false ≡ true = h in absurd cc

not_nothing : {A : Type 0} (x : A) (xs : List A) → x ∷ xs ≡ [] → ⊥
not_nothing x xs e = cc

of_row : (r : Row) → is_of_truth r ≡ true → (row_signature r).arguments ≡ [] → (row_signature r).result ≡ boolean
of_row (Constant w to) h e = first_sort to.0 h
of_row (ListConstant w to) h e = absurd (not_nothing (over boolean (place_numbered to)) [] e)
of_row (One w a to) h e = absurd (not_nothing (over boolean (place_numbered a)) [] e)
of_row (Two w a b to) h e = absurd (not_nothing (over boolean (place_numbered a)) (over boolean (place_numbered b) ∷ []) e)
of_row (Three w a b c to) h e = absurd (not_nothing (over boolean (place_numbered a)) (over boolean (place_numbered b) ∷ over boolean (place_numbered c) ∷ []) e)

built_in_constants : (n : Name) (f : Signature) → Among f (built_ins n) → f.arguments ≡ [] → f.result ≡ boolean
built_in_constants n f a e =
    let r = among_map row_signature (filter is_settled (named_rows n)) a in
    let row = among_filter (has_name n) (language_table any_sort lists_of_any) (among_filter is_settled (named_rows n) r.1) in
    ap (λ (g : Signature). g.result) r.2 ∙ of_row r.0 (each_passes is_of_truth (language_table any_sort lists_of_any) constants_of_table row) (sym (ap (λ (g : Signature). g.arguments) r.2) ∙ e)

-- ---- a word alone
record IsAlone (fs : List Signature) (i : Inferred) : Type 0 where
  signature : Signature
  among : Among signature fs
  arguments : signature.arguments ≡ []
  is : i ≡ record { term = apply signature.symbol terms.none; sort = signature.result }

applied_alone : (how : Sort → Typing → Option Term) (f : Signature) (ss : List Sort) (i : Inferred) → option_map (λ (us : terms.Terms). record { term = apply f.symbol us; sort = f.result }) (all_at how ss []) ≡ Some i
    → (ss ≡ []) × (i ≡ record { term = apply f.symbol terms.none; sort = f.result })
applied_alone how f [] i h = (refl, sym (same_Some (record { term = apply f.symbol terms.none; sort = f.result }) i h))
applied_alone how f (s ∷ ss) i h = absurd (none-some i h)

first_alone : (how : Sort → Typing → Option Term) (fs : List Signature) (i : Inferred) → first_of (applied how []) fs ≡ Some i → IsAlone fs i
first_alone how [] i h = absurd (none-some i h)
first_alone how (f ∷ fs) i h =
    one_or_other (applied how [] f) (first_of (applied how []) fs) i h
    (λ k. (let r = applied_alone how f f.arguments i k in record { signature = f; among = first_one; arguments = r.0; is = r.1 }))
    (λ k. (let r = first_alone how fs i k in record { signature = r.signature; among = one_behind r.among; arguments = r.arguments; is = r.is }))

no_candidates : (ps : List Place) → candidates ps [] ≡ []
no_candidates [] = refl
no_candidates (p ∷ ps) = refl

no_candidate : (c : Option Scheme) (i : Inferred) → option_and_then (first_candidate []) c ≡ Some i → ⊥
no_candidate None i h = none-some i h
no_candidate (Some c) i h = none-some i (sym (ap (first_of (λ (s : Sort). applied checked [] (typings.scheme_at c s))) (no_candidates c.arguments)) ∙ h)

call_alone : (fs : List Signature) (c : Option Scheme) (i : Inferred) → call_infers fs c [] ≡ Some i → IsAlone fs i
call_alone fs c i h =
    one_or_other (first_exact [] fs) (option_or (option_and_then (first_candidate []) c) (first_fitting [] fs)) i h (first_alone exactly fs i)
    (λ k. one_or_other (option_and_then (first_candidate []) c) (first_fitting [] fs) i k (λ z. absurd (no_candidate c i z)) (first_alone checked fs i))

-- a variable, or a function of the name without arguments
data WordIs (w : FullVocabulary) (n : Name) (i : Inferred) : Type 0 where
  a_variable : (x : ℕ) → i.term ≡ variable x → WordIs w n i
  a_function : IsAlone (signatures_named w.declared n) i → WordIs w n i

word_is : (w : FullVocabulary) (scope : Scope) (n : Name) (i : Inferred) → (typing_in w.declared scope (word n none)).infers ≡ Some i → WordIs w n i
word_is w scope n i h = by_scope (first_named n (map bound_row scope)) h
  where
    by_scope : (o : Option Bound) → (word_typing (meaning_or (functions (signatures_named w.declared n) (scheme_named n)) o) []).infers ≡ Some i → WordIs w n i
    by_scope None k = a_function (call_alone (signatures_named w.declared n) (scheme_named n) i k)
    by_scope (Some b) k = a_variable b.number (sym (ap (λ (j : Inferred). j.term) (same_Some (record { term = variable b.number; sort = b.sort }) i k)))

-- ---- the empty list
record IsEmptyAt (s : Sort) (t : Term) : Type 0 where
  element : Sort
  sort : s ≡ list element
  is : t ≡ emptyᵗ element

empty_checks : (m : Name → typings.Meaning) (s : Sort) (t : Term) → (typing m (listed none)).checks s ≡ Some t → IsEmptyAt s t
empty_checks m (list r) t h = record { element = r; sort = refl; is = sym (same_Some (emptyᵗ r) t h) }
empty_checks m boolean t h = absurd (none-some t h)
empty_checks m positive t h = absurd (none-some t h)
empty_checks m natural t h = absurd (none-some t h)
empty_checks m integer t h = absurd (none-some t h)
empty_checks m (named d) t h = absurd (none-some t h)

-- ---- the equation
-- `n = []` for a function n without arguments
pub record IsOfConstant (w : FullVocabulary) (n : Name) (q : Equation) : Type 0 where
  pub number : ℕ
  pub named_so : Among number (all_named n w.declared.function_names)
  pub element : Sort
  pub arguments : (function_at w.declared.tables number).arguments ≡ []
  pub result : (function_at w.declared.tables number).result ≡ list element
  pub condition : q.condition ≡ trueᵗ
  pub left : q.left ≡ application (function number) terms.none
  pub right : q.right ≡ emptyᵗ element

module _ (w : FullVocabulary) (e : WrittenEquation) (q : Equation) (names : List Name) (is : IsOfAnEmptyList names e) (h : ElaboratesEquation w e q) where
  empty_right : IsEmptyAt h.sort q.right
  empty_right = empty_checks (meaning w.declared h.scope) h.sort q.right (ap (λ (x : Expression). (typing_in w.declared h.scope x).checks h.sort) (sym is.right) ∙ h.right)

  word_left : (typing_in w.declared h.scope (word is.name none)).infers ≡ Some (record { term = q.left; sort = h.sort })
  word_left =
      let L : Typing = typing_in w.declared h.scope (word is.name none) in
      let there : left_side L (typing_in w.declared h.scope (listed none)) ≡ Some (record { term = q.left; sort = h.sort })
      = ap (λ (x : Expression). left_side (typing_in w.declared h.scope x) (typing_in w.declared h.scope (listed none))) (sym is.left)
      ∙ ap (λ (x : Expression). left_side (typing_in w.declared h.scope e.left) (typing_in w.declared h.scope x)) (sym is.right)
      ∙ h.left in
      one_or_other L.infers None (record { term = q.left; sort = h.sort }) there (λ k. k) (λ k. absurd (none-some (record { term = q.left; sort = h.sort }) k))

  no_condition : q.condition ≡ trueᵗ
  no_condition = sym (same_Some trueᵗ q.condition (ap (λ (c : Option Expression). condition_at w.declared h.scope c) (sym is.condition) ∙ h.condition))

  pub of_constant : IsOfConstant w is.name q
  of_constant = by_word (word_is w h.scope is.name (record { term = q.left; sort = h.sort }) word_left)
    where
      by_function : (f : Signature) → f.arguments ≡ [] → q.left ≡ apply f.symbol terms.none → h.sort ≡ f.result → Among f (built_ins is.name) ⊎ Among f (map (declared_signature w.declared.tables) (all_named is.name w.declared.function_names)) → IsOfConstant w is.name q
      by_function f a t s (inl b) = let never : list empty_right.element ≡ boolean = sym empty_right.sort ∙ s ∙ built_in_constants is.name f b a in absurd cc
      by_function f a t s (inr b) =
          let k = among_map (declared_signature w.declared.tables) (all_named is.name w.declared.function_names) b in
          record {
            number = k.0;
            named_so = k.1;
            element = empty_right.element;
            arguments = sym (ap (λ (z : Signature). z.arguments) k.2) ∙ a;
            result = sym (ap (λ (z : Signature). z.result) k.2) ∙ sym s ∙ empty_right.sort;
            condition = no_condition;
            left = t ∙ ap (λ (z : Signature). apply z.symbol terms.none) k.2;
            right = empty_right.is;
          }

      by_word : WordIs w is.name (record { term = q.left; sort = h.sort }) → IsOfConstant w is.name q
      by_word (a_variable x v) = absurd (h.no_variable x v)
      by_word (a_function alone) =
          by_function alone.signature alone.arguments (ap (λ (j : Inferred). j.term) alone.is) (ap (λ (j : Inferred). j.sort) alone.is) (among_either (built_ins is.name) alone.among)

-- ---- an equation for each new constant of lists
abbrev empty_for : ℕ → List Sort → Sort → Role → List Equation
empty_for k [] (list s) mapping = empty_equation k s ∷ []
empty_for k _ _ _ = []

abbrev pub constants_from : ℕ → List DeclaredFunction → List Equation
constants_from k [] = []
constants_from k (f ∷ fs) = empty_for k f.arguments f.result f.role ++ constants_from (suc k) fs

record IsEmptyFor (k : ℕ) (ss : List Sort) (to : Sort) (o : Role) (q : Equation) : Type 0 where
  element : Sort
  arguments : ss ≡ []
  result : to ≡ list element
  role : o ≡ mapping
  is : q ≡ empty_equation k element

in_empty_for : (k : ℕ) (ss : List Sort) (to : Sort) (o : Role) {q : Equation} → Among q (empty_for k ss to o) → IsEmptyFor k ss to o q
in_empty_for k [] (list s) mapping first_one = record { element = s; arguments = refl; result = refl; role = refl; is = refl }
in_empty_for k [] (list s) mapping (one_behind h) = absurd (among_none h)
in_empty_for k [] (list s) constructor h = absurd (among_none h)
in_empty_for k [] (list s) (projection c i) h = absurd (among_none h)
in_empty_for k [] (list s) (recogniser c) h = absurd (among_none h)
in_empty_for k [] boolean o h = absurd (among_none h)
in_empty_for k [] positive o h = absurd (among_none h)
in_empty_for k [] natural o h = absurd (among_none h)
in_empty_for k [] integer o h = absurd (among_none h)
in_empty_for k [] (named d) o h = absurd (among_none h)
in_empty_for k (s ∷ ss) to o h = absurd (among_none h)

record IsEmptyIn (k : ℕ) (fs : List DeclaredFunction) (q : Equation) : Type 0 where
  place : ℕ
  its : DeclaredFunction
  there : slice_get fs place ≡ Some its
  element : Sort
  arguments : its.arguments ≡ []
  result : its.result ≡ list element
  role : its.role ≡ mapping
  is : q ≡ empty_equation (k + place) element

in_constants : (k : ℕ) (fs : List DeclaredFunction) {q : Equation} → Among q (constants_from k fs) → IsEmptyIn k fs q
in_constants k [] h = absurd (among_none h)
in_constants k (f ∷ fs) h =
    ⊎_elim
    (λ a. (
    let r = in_empty_for k f.arguments f.result f.role a in
    record { place = 0; its = f; there = refl; element = r.element; arguments = r.arguments; result = r.result; role = r.role; is = r.is ∙ ap (λ (n : ℕ). empty_equation n r.element) (omega arith) }
    ))
    (λ a. (
    let r = in_constants (suc k) fs a in
    record { place = suc r.place; its = r.its; there = r.there; element = r.element; arguments = r.arguments; result = r.result; role = r.role; is = r.is ∙ ap (λ (n : ℕ). empty_equation n r.element) (omega arith) }
    ))
    (among_either (empty_for k f.arguments f.result f.role) h)

pub constant_there : (k : ℕ) (fs : List DeclaredFunction) (i : ℕ) (f : DeclaredFunction) (s : Sort) → slice_get fs i ≡ Some f → f.arguments ≡ [] → f.result ≡ list s → f.role ≡ mapping → Among (empty_equation (k + i) s) (constants_from k fs)
constant_there k [] i f s at a r o = absurd (none-some f at)
constant_there k (g ∷ fs) zero f s at a r o =
    let same : f ≡ g = sym (same_Some g f at) in
    let here : Among (empty_equation k s) (empty_for k f.arguments f.result f.role) =
    subst (λ (ss : List Sort). Among (empty_equation k s) (empty_for k ss f.result f.role)) (sym a)
    (subst (λ (to : Sort). Among (empty_equation k s) (empty_for k [] to f.role)) (sym r) (subst (λ (x : Role). Among (empty_equation k s) (empty_for k [] (list s) x)) (sym o) first_one)) in
    subst (λ (n : ℕ). Among (empty_equation n s) (constants_from k (g ∷ fs))) (omega arith)
    (among_front (constants_from (suc k) fs) (subst (λ (z : DeclaredFunction). Among (empty_equation k s) (empty_for k z.arguments z.result z.role)) same here))
constant_there k (g ∷ fs) (suc i) f s at a r o =
    among_back (empty_for k g.arguments g.result g.role) (subst (λ (n : ℕ). Among (empty_equation n s) (constants_from (suc k) fs)) (omega arith) (constant_there (suc k) fs i f s at a r o))

-- each is of a mapping of its own
abbrev SameLeft : Equation → Equation → Type 0
SameLeft p q = p.left ≡ q.left

same_map : (a b : ℕ) → application (function a) terms.none ≡ application (function b) terms.none → a ≡ b
same_map a b e = cc

once_with : (k : ℕ) (ss : List Sort) (to : Sort) (o : Role) (rest : List Equation) → ((s : Sort) (q : Equation) → Among q rest → SameLeft (empty_equation k s) q → ⊥) → Once SameLeft rest → Once SameLeft (empty_for k ss to o ++ rest)
once_with k [] (list s) mapping rest apart once = (apart s, once)
once_with k [] (list s) constructor rest apart once = once
once_with k [] (list s) (projection c i) rest apart once = once
once_with k [] (list s) (recogniser c) rest apart once = once
once_with k [] boolean o rest apart once = once
once_with k [] positive o rest apart once = once
once_with k [] natural o rest apart once = once
once_with k [] integer o rest apart once = once
once_with k [] (named d) o rest apart once = once
once_with k (s ∷ ss) to o rest apart once = once

constants_once : (k : ℕ) (fs : List DeclaredFunction) → Once SameLeft (constants_from k fs)
constants_once k [] = tt
constants_once k (f ∷ fs) =
    once_with k f.arguments f.result f.role (constants_from (suc k) fs)
    (λ s q a e. (
    let r = in_constants (suc k) fs a in
    let same : k ≡ suc k + r.place = same_map k (suc k + r.place) (e ∙ ap (λ (z : Equation). z.left) r.is) in omega (arith, same)
    )) (constants_once (suc k) fs)

module _ (g h : Data) (fs : List DeclaredFunction) (grown : h.functions ≡ g.functions ++ fs) where
  new_function_at : (i : ℕ) (f : DeclaredFunction) → slice_get fs i ≡ Some f → function_at h (length g.functions + i) ≡ f
  new_function_at i f at =
      let z : DeclaredFunction = record { arguments = []; result = terms.boolean; role = mapping } in
      ap (λ (xs : List DeclaredFunction). get_or xs (length g.functions + i) z) grown ∙ get_or-append-add g.functions fs i z ∙ get_or_from_slice_get fs i f z at

  is_new_empty : (q : Equation) → IsEmptyIn (length g.functions) fs q → IsNewEmptyList g h q
  is_new_empty q r =
      let its : function_at h (length g.functions + r.place) ≡ r.its = new_function_at r.place r.its r.there in
      let low = slice_get_within fs r.place r.its r.there in
      let long : length h.functions ≡ length g.functions + length fs = ap length grown ∙ length-append g.functions fs in
      record {
        map = length g.functions + r.place;
        is_new = omega arith;
        is_declared = omega (arith, low, long);
        role = ap (λ (f : DeclaredFunction). f.role) its ∙ r.role;
        arguments = ap (λ (f : DeclaredFunction). f.arguments) its ∙ r.arguments;
        condition = ap (λ (z : Equation). z.condition) r.is;
        left = ap (λ (z : Equation). z.left) r.is;
        right = (r.element, ap (λ (f : DeclaredFunction). f.result) its ∙ r.result, ap (λ (z : Equation). z.right) r.is);
      }

  pub are_new_empty : AreNewEmptyLists g h (constants_from (length g.functions) fs)
  are_new_empty = record {
    each = λ q i. is_new_empty q (in_constants (length g.functions) fs (contains_among q (constants_from (length g.functions) fs) i));
    once = λ j k p q a b e. places_once SameLeft (λ x y s. sym s) (constants_from (length g.functions) fs) (constants_once (length g.functions) fs) j k p q a b e;
  }
