-- A declared sort isn't empty in the data exactly where it has a value in the signature.
use Rattle.std.proofs.Common.{◌≡◌, ◌<◌, ◌⊎◌, ℕ, zero, suc, List, [], ◌∷◌, ◌++◌, ◌+◌, true, false, cond, map, length, take, Some, None, inl, inr, refl, sym, ap, ◌∙◌, subst, arith, ⊎_elim, length-append}
use Rattle.std.specs.Prelude.{slice_get, pos}
use Rattle.std.specs.List.{All, Contains}
use Rattle.std.proofs.lemmas.List.{get_or-map, length-map}
use Rattle.std.proofs.lemmas.List.Elements.{All-head, All-tail}
use Rattle.std.proofs.lemmas.Option.{slice_get_within}
use Rattle.data_theory.specs.declared.ids.SortId.{SortId}
use Rattle.data_theory.specs.declared.ids.FunId.{FunId}
use Rattle.data_theory.specs.declared.rows.Row.{Row}
use Rattle.data_theory.specs.Terms.{Sort, Term, Terms, boolean, list, named, truth, falsity, empty, cons, function, variable, numeral, unknown, application, none, more}
use Rattle.data_theory.specs.Declarations as theory
use Rattle.data_theory.specs.Declarations.{Construction, Role, constructor, mapping, function_at, sort_at, argument_sorts, result_sort, IsSymbol, IsSort, HasNumeral, HasSort, HaveSorts, IsConstructed, AreConstructed, NoSortIsEmpty}
use Rattle.data_theory.specs.Equations.{trueᵗ, emptyᵗ}
use Rattle.data_theory.specs.Functions.{Function, arguments_of}
use Rattle.data_theory.specs.Rows.{row_text, row_word, row_sorts, built_in}
use Rattle.data_theory.specs.Sorts as sorts
use Rattle.data_theory.specs.Sorts.{Kind, SortInfo, IsListOver}
use Rattle.data_theory.specs.Signature.{Sig, IsFun}
use Rattle.data_theory.specs.SignatureLaws.{RowStands}
use Rattle.data_theory.specs.IdSorts.{construction_of, constructions, meaning_of}
use Rattle.data_theory.specs.IdSymbols.{declared_from}
use Rattle.data_theory.specs.IdTables as tables
use Rattle.data_theory.specs.IdData.{constructors_of, is_constructor, role_meant, function_at_meant, function_meant, data_meant}
use Rattle.data_theory.specs.IdTerms.{sort_under, symbol_under}
use Rattle.data_theory.specs.IdTrees as trees
use Rattle.data_theory.specs.IdRoles.{constructs}
use Rattle.data_theory.specs.WholeSignatures.{IsSignature}
use Rattle.data_theory.proofs.PlaceLemmas.{contains_read, read_contained}
use Rattle.data_theory.proofs.IdSortLemmas.{read_within, different_sorts_mean_different_sorts, declared_sorts_stand_in_the_data}
use Rattle.data_theory.proofs.IdSymbolLemmas.{holds_at, read_sort, sort_is, symbol_fits, declared_functions_stand_in_the_data}
use Rattle.data_theory.proofs.IdTermLemmas.{sorted_trees_mean_sorted_terms}
use Rattle.data_theory.proofs.IdDataLemmas.{declared_found, constructor_tells, holds_of_role, roles_are_found}
use Rattle.term_pool.specs.ConstructorValues.{ConstructorValue, ConstructorValues, a_number, built, a_constant, no_value, value_then, IsConstructorOf, IsConstructorAt, IsValueOf, AreValuesOf, HasValue}
use Rattle.term_pool.specs.Inhabited.{is_made}
use Rattle.term_pool.specs.InhabitedData.{SortsHaveValuesWhereNoneIsEmpty, ValuesAreConstructedTerms}
use Rattle.term_pool.proofs.Lists.{contains_none}
use Rattle.term_pool.proofs.RowsFound.{true_row, empty_row, true_there, empty_there}

-- a sort with declared constructors
abbrev IsMade : Kind → Type 0
IsMade (sorts.by_declarations fs) = Unit {0}
IsMade (sorts.structured fs) = Unit {0}
IsMade _ = ⊥

-- the number of a declared sort in the data, and what stands there
record IsOfNumber (g : Sig) (s : SortId) (i : SortInfo) (n : ℕ) : Type 0 where
  means : sort_under g s ≡ named n
  construction : Construction
  has : construction_of i.kind ≡ construction ∷ []
  stands : sort_at (data_meant g) n ≡ construction

named_is : (a b : ℕ) → named a ≡ named b → a ≡ b
named_is a b e = cc

module _ (g : Sig) (stands : IsSignature g) where
  one_entry : (f : FunId) (x y : Function) → slice_get g.functions f.0 ≡ Some x → slice_get g.functions f.0 ≡ Some y → x ≡ y
  one_entry f x y a b = let both : Some x ≡ Some y = sym a ∙ b in cc

  number_of_sort : (s : SortId) (i : SortInfo) (c : Construction) → slice_get g.sorts s.0 ≡ Some i → construction_of i.kind ≡ c ∷ [] → ((d : ℕ) → meaning_of (sort_under g) d i.kind ≡ named d) → (n : ℕ) × IsOfNumber g s i n
  number_of_sort s i c at con is =
      let n = length (constructions (take s.0 g.sorts)) in
      (n, record { means = read_sort g stands.table s i at ∙ is n; construction = c; has = con; stands = declared_sorts_stand_in_the_data g s i c at con })

  made_number : (s : SortId) (i : SortInfo) → slice_get g.sorts s.0 ≡ Some i → IsMade i.kind → (n : ℕ) × IsOfNumber g s i n
  made_number s i at made = by_kind i.kind refl made
    where
      by_kind : (k : Kind) → i.kind ≡ k → IsMade k → (n : ℕ) × IsOfNumber g s i n
      by_kind (sorts.by_declarations fs) e m = number_of_sort s i theory.by_declarations at (ap construction_of e) (λ d. ap (meaning_of (sort_under g) d) e)
      by_kind (sorts.structured fs) e m = number_of_sort s i theory.structured at (ap construction_of e) (λ d. ap (meaning_of (sort_under g) d) e)
      by_kind sorts.booleans e m = absurd m
      by_kind sorts.positives e m = absurd m
      by_kind sorts.naturals e m = absurd m
      by_kind sorts.integers e m = absurd m
      by_kind (sorts.lists_over x) e m = absurd m
      by_kind sorts.without_constructors e m = absurd m

  made_has_constructors : (i : SortInfo) → IsMade i.kind → construction_of i.kind ≡ theory.without_constructors ∷ [] → ⊥
  made_has_constructors i made e = by_kind i.kind made e
    where
      by_kind : (k : Kind) → IsMade k → construction_of k ≡ theory.without_constructors ∷ [] → ⊥
      by_kind (sorts.by_declarations fs) m e = cc
      by_kind (sorts.structured fs) m e = cc
      by_kind sorts.booleans m e = m
      by_kind sorts.positives m e = m
      by_kind sorts.naturals m e = m
      by_kind sorts.integers m e = m
      by_kind (sorts.lists_over x) m e = m
      by_kind sorts.without_constructors m e = m

  -- ---- the declared function with a number
  record IsDeclaredAt (k : ℕ) : Type 0 where
    id : FunId
    entry : Function
    at : slice_get g.functions id.0 ≡ Some entry
    word : entry.word ≡ None
    means : function_at (data_meant g) k ≡ function_at_meant g id (Some entry)

  declared_at : (k : ℕ) → k < length (data_meant g).functions → IsDeclaredAt k
  declared_at k l =
      let ids = declared_from 0 g.functions in
      let default : FunId = record { 0 = 0 } in
      let w : k < length ids = omega (arith, l, length-map ids (function_meant g)) in
      let h = declared_found g.functions 0 k default w in
      let i : FunId = record { 0 = 0 + h.0 } in
      let at : slice_get g.functions (0 + h.0) ≡ Some h.1 = ap (slice_get g.functions) (let z : 0 + h.0 ≡ h.0 = omega arith in z) ∙ h.3 in
      record {
        id = i;
        entry = h.1;
        at = at;
        word = h.4;
        means = get_or-map (function_meant g) ids k default (record { arguments = []; result = boolean; role = mapping }) w ∙ ap (function_meant g) h.2 ∙ ap (function_at_meant g i) at;
      }

  -- what is a constructor by its role is one of a sort
  constructed_by : (f : FunId) → role_meant g f ≡ constructor → is_constructor g.sorts f ≡ true
  constructed_by f e = holds_of_role g f (λ (r : Role). r ≡ constructor → is_constructor g.sorts f ≡ true) (λ q. cc) (λ c h k at p q. cc) (λ c h at t q. cc) (λ made q. made) e

  plain_arguments : (f : FunId) (e : Function) → slice_get g.functions f.0 ≡ Some e → e.word ≡ None → arguments_of e ≡ e.sorts
  plain_arguments f e at word = by_entry (holds_at (tables.IsEntry g.texts g.sorts) g.functions f.0 e stands.table.entries at)
    where
      by_entry : tables.IsEntry g.texts g.sorts e → arguments_of e ≡ e.sorts
      by_entry (tables.declared w c) = ap (λ b. cond b [] e.sorts) c
      by_entry (tables.built_in r is same t) = absurd (let z : None ≡ Some (row_word r) = sym word ∙ ap (λ (x : Function). x.word) same in cc)

  sorts_within : (f : FunId) (e : Function) → slice_get g.functions f.0 ≡ Some e → All (λ (s : SortId). s.0 < length g.sorts) e.sorts
  sorts_within f e at = (holds_at (tables.HasSortsIn g.sorts) g.functions f.0 e stands.table.within at).0

  -- ---- values of terms
  by_row : (s : SortId) (i : SortInfo) → slice_get g.sorts s.0 ≡ Some i → (r : Row) → RowStands g r → arguments_of (built_in g.texts r) ≡ []
      → ((f : FunId) → IsFun g (row_text r) (row_sorts r) f.0 → IsConstructorOf g s i.kind 0 f) → HasValue g s
  by_row s i at r there no_sorts con =
      let f : FunId = record { 0 = there.0 } in
      (built f no_value, (0, (i, at, con f there.1.found), (built_in g.texts r, there.1.stands, subst (AreValuesOf g no_value) (sym no_sorts) tt)))

  numbered : (s : SortId) (n : ℕ) → s.0 ≡ n → s ≡ record { 0 = n }
  numbered s n e = ap (λ (k : ℕ). record { 0 = k }) e

  -- each sort without declared constructors has a value
  value_by_kind : (s : SortId) (i : SortInfo) → slice_get g.sorts s.0 ≡ Some i → (IsMade i.kind → HasValue g s) → HasValue g s
  value_by_kind s i at made = by_kind i.kind refl
    where
      is_made : (k : Kind) → i.kind ≡ k → IsMade k → HasValue g s
      is_made k e m = made (subst IsMade (sym e) m)

      by_kind : (k : Kind) → i.kind ≡ k → HasValue g s
      by_kind sorts.booleans e = by_row s i at true_row (true_there g stands) refl (λ f p. subst (λ k. IsConstructorOf g s k 0 f) (sym e) (inl (refl, p)))
      by_kind sorts.positives e = (a_number s (pos 1), (refl, (inl (numbered s 1 ((stands.table.sorts.positive_second s.0).0 (i, at, e)), record { le = tt }), omega arith)))
      by_kind sorts.naturals e = (a_number s (pos 0), (refl, (inr (inl (numbered s 2 ((stands.table.sorts.natural_third s.0).0 (i, at, e)), record { le = tt })), omega arith)))
      by_kind sorts.integers e = (a_number s (pos 0), (refl, (inr (inr (numbered s 3 ((stands.table.sorts.integer_fourth s.0).0 (i, at, e)))), omega arith)))
      by_kind (sorts.lists_over x) e = by_row s i at (empty_row s) (empty_there g stands x s (i, at, e)) refl (λ f p. subst (λ k. IsConstructorOf g s k 0 f) (sym e) (inl (refl, p)))
      by_kind sorts.without_constructors e = (a_constant s, (refl, (i, at, e)))
      by_kind (sorts.by_declarations fs) e = is_made (sorts.by_declarations fs) e tt
      by_kind (sorts.structured fs) e = is_made (sorts.structured fs) e tt

  pub constructor_place : (s : SortId) (i : SortInfo) (f : FunId) → Contains (constructors_of i.kind) f → (n : ℕ) × IsConstructorOf g s i.kind n f
  constructor_place s i f has = by_kind i.kind has
    where
      by_kind : (k : Kind) → Contains (constructors_of k) f → (n : ℕ) × IsConstructorOf g s k n f
      by_kind (sorts.by_declarations fs) h = read_contained fs f h
      by_kind (sorts.structured fs) h = read_contained fs f h
      by_kind sorts.booleans h = absurd (contains_none f h)
      by_kind sorts.positives h = absurd (contains_none f h)
      by_kind sorts.naturals h = absurd (contains_none f h)
      by_kind sorts.integers h = absurd (contains_none f h)
      by_kind (sorts.lists_over x) h = absurd (contains_none f h)
      by_kind sorts.without_constructors h = absurd (contains_none f h)

  -- a sort that is the result of a constructor has it at a place
  constructor_at : (s : SortId) (i : SortInfo) → slice_get g.sorts s.0 ≡ Some i → s.0 < length g.sorts → (f : FunId) (e : Function) → slice_get g.functions f.0 ≡ Some e → role_meant g f ≡ constructor → sort_under g e.result ≡ sort_under g s
      → (n : ℕ) × IsConstructorAt g s n f
  constructor_at s i at within f e here role same =
      let made = constructor_tells g.sorts f (constructed_by f role) in
      let r : SortId = record { 0 = made.0 } in
      let kept = stands.roles.constructors r made.1 f made.2 made.3 in
      let to : e.result ≡ r = ap (λ (x : Function). x.result) (one_entry f e kept.0 here kept.1) ∙ kept.3 in
      let equal : r ≡ s = different_sorts_mean_different_sorts g stands.table r s (slice_get_within g.sorts made.0 made.1 made.2) within (ap (sort_under g) (sym to) ∙ same) in
      let there : slice_get g.sorts s.0 ≡ Some made.1 = subst (λ (x : SortId). slice_get g.sorts x.0 ≡ Some made.1) equal made.2 in
      let place = constructor_place s made.1 f made.3 in
      (place.0, (made.1, there, place.1))

  mutual
    value_of_term : (t : Term) (s : SortId) (i : SortInfo) → slice_get g.sorts s.0 ≡ Some i → IsMade i.kind → IsConstructed (data_meant g) t → HasSort (data_meant g) [] t (sort_under g s) → HasValue g s
    value_of_term (variable v) s i at made c h = absurd c
    value_of_term (numeral a z) s i at made c h =
        let n = made_number s i at made in
        let has : HasNumeral (named n.0) z = subst (λ (x : Sort). HasNumeral x z) n.1.means h.1 in
        absurd has.0
    value_of_term (unknown d j) s i at made c h =
        let n = made_number s i at made in
        let same : d ≡ n.0 = named_is d n.0 (sym h.0 ∙ n.1.means) in
        let bare : n.1.construction ≡ theory.without_constructors = sym n.1.stands ∙ (ap (sort_at (data_meant g)) (sym same) ∙ h.2) in
        absurd (made_has_constructors i made (n.1.has ∙ ap (λ (x : Construction). x ∷ []) bare))
    value_of_term (application truth ts) s i at made c h = let n = made_number s i at made in absurd (let z : boolean ≡ named n.0 = h.2 ∙ n.1.means in cc)
    value_of_term (application falsity ts) s i at made c h = let n = made_number s i at made in absurd (let z : boolean ≡ named n.0 = h.2 ∙ n.1.means in cc)
    value_of_term (application (empty a) ts) s i at made c h = let n = made_number s i at made in absurd (let z : list a ≡ named n.0 = h.2 ∙ n.1.means in cc)
    value_of_term (application (cons a) ts) s i at made c h = let n = made_number s i at made in absurd (let z : list a ≡ named n.0 = h.2 ∙ n.1.means in cc)
    value_of_term (application (function k) ts) s i at made c h =
        let d = declared_at k h.0 in
        let role : role_meant g d.id ≡ constructor = ap (λ (x : theory.DeclaredFunction). x.role) (sym d.means) ∙ c.0 in
        let result : sort_under g d.entry.result ≡ sort_under g s = ap (λ (x : theory.DeclaredFunction). x.result) (sym d.means) ∙ h.2 in
        let place = constructor_at s i at (slice_get_within g.sorts s.0 i at) d.id d.entry d.at role result in
        let sorts_are : (function_at (data_meant g) k).arguments ≡ map (sort_under g) d.entry.sorts = ap (λ (x : theory.DeclaredFunction). x.arguments) d.means in
        let vs = values_of_terms ts d.entry.sorts (sorts_within d.id d.entry d.at) c.1 (subst (HaveSorts (data_meant g) [] ts) sorts_are h.1) in
        (built d.id vs.0, (place.0, place.1, (d.entry, d.at, subst (AreValuesOf g vs.0) (sym (plain_arguments d.id d.entry d.at d.word)) vs.1)))
    value_of_term (application f ts) s i at made c h = absurd c

    values_of_terms : (ts : Terms) (ss : List SortId) → All (λ (s : SortId). s.0 < length g.sorts) ss → AreConstructed (data_meant g) ts → HaveSorts (data_meant g) [] ts (map (sort_under g) ss) → (vs : ConstructorValues) × AreValuesOf g vs ss
    values_of_terms none [] within c h = (no_value, tt)
    values_of_terms none (s ∷ ss) within c h = absurd h
    values_of_terms (more t ts) [] within c h = absurd h
    values_of_terms (more t ts) (s ∷ ss) within c h =
        let read = read_within g.sorts s.0 (All-head (λ (x : SortId). x.0 < length g.sorts) s ss within) in
        let first = value_by_kind s read.0 read.1 (λ made. value_of_term t s read.0 read.1 made c.0 h.0) in
        let rest = values_of_terms ts ss (All-tail (λ (x : SortId). x.0 < length g.sorts) s ss within) c.1 h.1 in
        (value_then first.0 rest.0, (first.1, rest.1))

  from_terms : NoSortIsEmpty (data_meant g) → (s : SortId) → s.0 < length g.sorts → HasValue g s
  from_terms some s within =
      let read = read_within g.sorts s.0 within in
      value_by_kind s read.0 read.1 (λ made.
      let n = made_number s read.0 read.1 made in
      let low : IsSort (data_meant g) (named n.0) = subst (IsSort (data_meant g)) n.1.means (sort_is g stands.table s within) in
      let t = some n.0 low in
      value_of_term t.0 s read.0 read.1 made t.1.0 (subst (HasSort (data_meant g) [] t.0) (sym n.1.means) t.1.1))

  -- ---- terms of values
  abbrev IsTermOf : SortId → Term → Type 0
  IsTermOf s t = IsConstructed (data_meant g) t × HasSort (data_meant g) [] t (sort_under g s)

  symbol_over : (f : FunId) (e : Function) (k : ℕ) (s : SortId) (ts : Terms) → symbol_under g f ≡ function k → (function_at (data_meant g) k).role ≡ constructor → slice_get g.functions f.0 ≡ Some e → e.result ≡ s
      → AreConstructed (data_meant g) ts → HaveSorts (data_meant g) [] ts (map (sort_under g) (arguments_of e)) → IsTermOf s (application (function k) ts)
  symbol_over f e k s ts is role at to c h =
      let fits = symbol_fits g stands.table f e at in
      let there : IsSymbol (data_meant g) (function k) = subst (IsSymbol (data_meant g)) is fits.0 in
      let takes : argument_sorts (data_meant g) (function k) ≡ map (sort_under g) (arguments_of e) = ap (argument_sorts (data_meant g)) (sym is) ∙ fits.1 in
      let gives : result_sort (data_meant g) (function k) ≡ sort_under g s = ap (result_sort (data_meant g)) (sym is) ∙ (fits.2 ∙ ap (sort_under g) to) in
      ((role, c), (there, subst (HaveSorts (data_meant g) [] ts) (sym takes) h, gives, refl))

  -- a constructor over terms of its values
  built_term : (f : FunId) (vs : ConstructorValues) (s : SortId) (is : IsValueOf g (built f vs) s) → (ts : Terms) × (AreConstructed (data_meant g) ts × HaveSorts (data_meant g) [] ts (map (sort_under g) (arguments_of is.2.0))) → (t : Term) × IsTermOf s t
  built_term f vs s is ts = by_kind is.1.0.kind refl is.1.2
    where
      of_declared : (fs : List FunId) → constructors_of is.1.0.kind ≡ fs → slice_get fs is.0 ≡ Some f → (t : Term) × IsTermOf s t
      of_declared fs same p =
          let has : Contains (constructors_of is.1.0.kind) f = subst (λ (l : List FunId). Contains l f) (sym same) (contains_read fs is.0 f p) in
          let kept = stands.roles.constructors s is.1.0 f is.1.1 has in
          let e = is.2.0 in
          let entry : kept.0 ≡ e = one_entry f kept.0 e kept.1 is.2.1 in
          let word : e.word ≡ None = ap (λ (x : Function). x.word) (sym entry) ∙ kept.2 in
          let result : e.result ≡ s = ap (λ (x : Function). x.result) (sym entry) ∙ kept.3 in
          let k = length (declared_from 0 (take f.0 g.functions)) in
          let stood = declared_functions_stand_in_the_data g f e is.2.1 word in
          let role = ap (λ (x : theory.DeclaredFunction). x.role) stood.1 ∙ roles_are_found g stands.roles f constructor (constructs s is.1.0 is.1.1 has) in
          (application (function k) ts.0, symbol_over f e k s ts.0 stood.0 role is.2.1 result ts.1.0 ts.1.1)

      by_kind : (k : Kind) → is.1.0.kind ≡ k → IsConstructorOf g s k is.0 f → (t : Term) × IsTermOf s t
      by_kind sorts.booleans q p = (trueᵗ, (tt, (tt, tt, sym (read_sort g stands.table s is.1.0 is.1.1 ∙ ap (meaning_of (sort_under g) _) q), refl)))
      by_kind (sorts.lists_over x) q p =
          let over : IsListOver g.sorts x s = (is.1.0, is.1.1, q) in
          let low : x.0 < length g.sorts = omega (arith, stands.table.sorts.behind_element x s over, slice_get_within g.sorts s.0 is.1.0 is.1.1) in
          (emptyᵗ (sort_under g x), (tt, (sort_is g stands.table x low, tt, sym (read_sort g stands.table s is.1.0 is.1.1 ∙ ap (meaning_of (sort_under g) _) q), refl)))
      by_kind sorts.positives q p = absurd p
      by_kind sorts.naturals q p = absurd p
      by_kind sorts.integers q p = absurd p
      by_kind sorts.without_constructors q p = absurd p
      by_kind (sorts.by_declarations fs) q p = of_declared fs (ap constructors_of q) p
      by_kind (sorts.structured fs) q p = of_declared fs (ap constructors_of q) p

  mutual
    term_of_value : (v : ConstructorValue) (s : SortId) → IsValueOf g v s → (t : Term) × IsTermOf s t
    term_of_value (a_number a z) s is = (numeral (sort_under g s) z, (tt, sorted_trees_mean_sorted_terms g stands.table (trees.numeral s z) s (refl, is.1)))
    term_of_value (a_constant d) s is =
        let i = is.1.0 in
        let n = number_of_sort s i theory.without_constructors is.1.1 (ap construction_of is.1.2) (λ d. ap (meaning_of (sort_under g) d) is.1.2) in
        let low : IsSort (data_meant g) (named n.0) = subst (IsSort (data_meant g)) n.1.means (sort_is g stands.table s (slice_get_within g.sorts s.0 i is.1.1)) in
        let bare : n.1.construction ≡ theory.without_constructors = (let both : n.1.construction ∷ [] ≡ theory.without_constructors ∷ [] = sym n.1.has ∙ ap construction_of is.1.2 in cc) in
        (unknown n.0 0, (tt, (n.1.means, low, n.1.stands ∙ bare)))
    term_of_value (built f vs) s is = built_term f vs s is (terms_of_values vs (arguments_of is.2.0) is.2.2)

    terms_of_values : (vs : ConstructorValues) (ss : List SortId) → AreValuesOf g vs ss → (ts : Terms) × (AreConstructed (data_meant g) ts × HaveSorts (data_meant g) [] ts (map (sort_under g) ss))
    terms_of_values no_value [] are = (none, (tt, tt))
    terms_of_values no_value (s ∷ ss) are = absurd are
    terms_of_values (value_then v vs) [] are = absurd are
    terms_of_values (value_then v vs) (s ∷ ss) are =
        let first = term_of_value v s are.0 in
        let rest = terms_of_values vs ss are.1 in
        (more first.0 rest.0, ((first.1.0, rest.1.0), (first.1.1, rest.1.1)))

-- the declared sort with a number
record IsSortOf (ss : List SortInfo) (d : ℕ) : Type 0 where
  place : ℕ
  info : SortInfo
  at : slice_get ss place ≡ Some info
  declared : (n : ℕ) (m : SortId → Sort) → meaning_of m n info.kind ≡ named n
  number : length (constructions (take place ss)) ≡ d

declared_or_not : (k : Kind) → (construction_of k ≡ []) ⊎ ((length (construction_of k) ≡ 1) × ((n : ℕ) (m : SortId → Sort) → meaning_of m n k ≡ named n))
declared_or_not sorts.booleans = inl refl
declared_or_not sorts.positives = inl refl
declared_or_not sorts.naturals = inl refl
declared_or_not sorts.integers = inl refl
declared_or_not (sorts.lists_over x) = inl refl
declared_or_not sorts.without_constructors = inr (refl, λ n m. refl)
declared_or_not (sorts.by_declarations fs) = inr (refl, λ n m. refl)
declared_or_not (sorts.structured fs) = inr (refl, λ n m. refl)

one_behind : (x : SortInfo) (ss : List SortInfo) (n : ℕ) (d : ℕ) → length (construction_of x.kind) ≡ n → IsSortOf ss d → IsSortOf (x ∷ ss) (n + d)
one_behind x ss n d e h = record {
  place = suc h.place;
  info = h.info;
  at = h.at;
  declared = h.declared;
  number = length-append (construction_of x.kind) (constructions (take h.place ss)) ∙ (λ i. e i + h.number i);
}

sort_of_number : (ss : List SortInfo) (d : ℕ) → d < length (constructions ss) → IsSortOf ss d
sort_of_number [] d l = absurd (omega (arith, l))
sort_of_number (x ∷ ss) d l =
    let many = length-append (construction_of x.kind) (constructions ss) in
    ⊎_elim
    (λ e. let none_here : length (construction_of x.kind) ≡ 0 = ap length e in subst (IsSortOf (x ∷ ss)) (let z : 0 + d ≡ d = omega arith in z) (one_behind x ss 0 d none_here (sort_of_number ss d (omega (arith, l, many, none_here)))))
    (λ one. by_number (sort_of_number ss) d one.0 one.1 l many)
    (declared_or_not x.kind)
  where
    by_number : ((n : ℕ) → n < length (constructions ss) → IsSortOf ss n) → (d : ℕ) → length (construction_of x.kind) ≡ 1 → ((n : ℕ) (m : SortId → Sort) → meaning_of m n x.kind ≡ named n) → d < length (construction_of x.kind ++ constructions ss) → length (construction_of x.kind ++ constructions ss) ≡ length (construction_of x.kind) + length (constructions ss) → IsSortOf (x ∷ ss) d
    by_number rest zero one means l many = record { place = 0; info = x; at = refl; declared = means; number = refl }
    by_number rest (suc d) one means l many = subst (IsSortOf (x ∷ ss)) (let z : 1 + d ≡ suc d = omega arith in z) (one_behind x ss 1 d one (rest d (omega (arith, l, many, one))))

pub sorts_have_values_where_none_is_empty : SortsHaveValuesWhereNoneIsEmpty
sorts_have_values_where_none_is_empty g stands = (from_terms g stands, from_values)
  where
    from_values : ((s : SortId) → s.0 < length g.sorts → HasValue g s) → NoSortIsEmpty (data_meant g)
    from_values has d l =
        let is = sort_of_number g.sorts d l in
        let s : SortId = record { 0 = is.place } in
        let v = has s (slice_get_within g.sorts is.place is.info is.at) in
        let t = term_of_value g stands v.0 s v.1 in
        let means : sort_under g s ≡ named d = read_sort g stands.table s is.info is.at ∙ (is.declared (length (constructions (take is.place g.sorts))) (sort_under g) ∙ ap named is.number) in
        (t.0, (t.1.0, subst (HasSort (data_meant g) [] t.0) means t.1.1))

-- ---- sort by sort
not_made : (k : Kind) → is_made k ≡ false → IsMade k → ⊥
not_made (sorts.by_declarations fs) e m = cc
not_made (sorts.structured fs) e m = cc
not_made sorts.booleans e m = m
not_made sorts.positives e m = m
not_made sorts.naturals e m = m
not_made sorts.integers e m = m
not_made (sorts.lists_over x) e m = m
not_made sorts.without_constructors e m = m

pub value_where_not_made : (g : Sig) → IsSignature g → (s : SortId) (i : SortInfo) → slice_get g.sorts s.0 ≡ Some i → is_made i.kind ≡ false → HasValue g s
value_where_not_made g stands s i at plain = value_by_kind g stands s i at (λ made. absurd (not_made i.kind plain made))

pub values_are_constructed_terms : ValuesAreConstructedTerms
values_are_constructed_terms g stands s within =
    let read = read_within g.sorts s.0 within in
    (λ v. term_of_value g stands v.0 s v.1, λ t. value_by_kind g stands s read.0 read.1 (λ made. value_of_term g stands t.0 s read.0 read.1 made t.1.0 t.1.1))
