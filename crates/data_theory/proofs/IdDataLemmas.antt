-- The data that a signature means.
use Rattle.std.proofs.Common.{◌≡◌, ◌≢◌, ℕ, zero, suc, ◌<◌, ◌+◌, ◌⊎◌, inl, inr, List, [], ◌∷◌, ◌++◌, map, length, get_or, take, Bool, true, false, not, ◌||◌, ◌==◌, cond, Option, Some, None, refl, sym, ap, ◌∙◌, subst, arith, append_assoc, length-append}
use Rattle.std.specs.Prelude.{slice_get, option_map}
use Rattle.std.proofs.lemmas.List.Elements.{All-head, All-tail, All-weaker, All-map}
use Rattle.std.specs.List.{All, Contains, list_any, position, position_or_len}
use Rattle.std.proofs.Math.Seq.{take-append_seam}
use Rattle.std.proofs.lemmas.Bool.Decides.{Decides-eqb, Decides-ltb}
use Rattle.std.proofs.lemmas.List.{get_or-map, length-map, map-append}
use Rattle.std.proofs.lemmas.List.Folds.{list_any-append}
use Rattle.std.proofs.lemmas.Option.{slice_get_within, slice_get-map, get_or_from_slice_get}
use Rattle.data_theory.specs.declared.ids.SortId.{SortId}
use Rattle.data_theory.specs.declared.ids.FunId.{FunId}
use Rattle.data_theory.specs.declared.words.Word.{Word}
use Rattle.data_theory.specs.Terms.{boolean, named}
use Rattle.data_theory.specs.Declarations as theory
use Rattle.data_theory.specs.Declarations.{Data, Role, constructor, projection, recogniser, mapping, FitsRole, IsSort, IsData, function_at, sort_at}
use Rattle.data_theory.specs.Sorts as sorts
use Rattle.data_theory.specs.Sorts.{Kind, SortInfo, abstract_sort, list_sort, first_sorts}
use Rattle.data_theory.specs.Functions.{Function}
use Rattle.data_theory.specs.Table.{bool_sort}
use Rattle.data_theory.specs.Signature.{Sig}
use Rattle.data_theory.specs.IdSorts.{construction_of, constructions, meaning_of}
use Rattle.data_theory.specs.IdSymbols.{if_declared, declared_from}
use Rattle.data_theory.specs.IdTables.{HasSortsIn, IsTable}
use Rattle.data_theory.specs.IdData.{constructors_of, is_constructor, is_this, role_at_place, role_by, role_or, role_among, role_meant, function_at_meant, function_meant, data_meant}
use Rattle.data_theory.specs.IdTerms.{sort_under, IsGrown}
use Rattle.data_theory.specs.IdRoles.{declared_number, HasRole, constructs, projects, recognises, IsStructConstructor, AreRoles, RolesAreFound, MeantDataAreData, GrowthKeepsMeantData}
use Rattle.data_theory.proofs.PlaceLemmas.{read_front, read_behind, read_contained, contains_read, position_reads}
use Rattle.data_theory.proofs.IdSortLemmas.{read_within, growth_keeps_meant_sorts, declared_sorts_stand_in_the_data}
use Rattle.data_theory.proofs.IdSymbolLemmas.{declared_both, holds_at, read_sort, boolean_is, sort_is, declared_functions_stand_in_the_data}

-- ---- tests of numbers
this_tells : (i : FunId) (o : Option FunId) → is_this i o ≡ true → o ≡ Some i
this_tells i None e = absurd (let z : false ≡ true = e in cc)
this_tells i (Some j) e = ap (λ (n : ℕ). Some (record { 0 = n })) (sym ((Decides-eqb i.0 j.0).0 e))

this_told : (i : FunId) (o : Option FunId) → o ≡ Some i → is_this i o ≡ true
this_told i o e = ap (is_this i) e ∙ (Decides-eqb i.0 i.0).1 refl

-- a test that an entry passes, and the entry that passes a test
module _ {A : Type 0} (test : A → Bool) where
  pub any_told : (xs : List A) (i : ℕ) (x : A) → slice_get xs i ≡ Some x → test x ≡ true → list_any test xs ≡ true
  any_told [] i x e t = cc
  any_told (y ∷ xs) zero x e t = let p : y ≡ x = cc in ap (λ b. b || list_any test xs) (ap test p ∙ t)
  any_told (y ∷ xs) (suc i) x e t = ap (λ b. test y || b) (any_told xs i x e t) ∙ or_true (test y)
    where
      or_true : (b : Bool) → (b || true) ≡ true
      or_true true = refl
      or_true false = refl

  pub any_tells : (xs : List A) → list_any test xs ≡ true → (i : ℕ) × (x : A) × (slice_get xs i ≡ Some x) × (test x ≡ true)
  any_tells [] e = absurd (let z : false ≡ true = e in cc)
  any_tells (y ∷ xs) e = by_test (λ r. any_tells xs r) (test y) refl e
    where
      by_test : (list_any test xs ≡ true → (i : ℕ) × (x : A) × (slice_get xs i ≡ Some x) × (test x ≡ true)) → (b : Bool) → test y ≡ b → (b || list_any test xs) ≡ true → (i : ℕ) × (x : A) × (slice_get (y ∷ xs) i ≡ Some x) × (test x ≡ true)
      by_test rest true t e = (zero, y, refl, t)
      by_test rest false t e = let h = rest e in (suc h.0, h.1, h.2, h.3)

abbrev same_id : FunId → FunId → Bool
same_id i j = i.0 == j.0

constructor_told : (ss : List SortInfo) (i : FunId) (s : ℕ) (t : SortInfo) → slice_get ss s ≡ Some t → Contains (constructors_of t.kind) i → is_constructor ss i ≡ true
constructor_told ss i s t at c =
    let h = read_contained (constructors_of t.kind) i c in
    any_told (λ (x : SortInfo). list_any (same_id i) (constructors_of x.kind)) ss s t at (any_told (same_id i) (constructors_of t.kind) h.0 i h.1 ((Decides-eqb i.0 i.0).1 refl))

pub constructor_tells : (ss : List SortInfo) (i : FunId) → is_constructor ss i ≡ true → (s : ℕ) × (t : SortInfo) × (slice_get ss s ≡ Some t) × Contains (constructors_of t.kind) i
constructor_tells ss i e =
    let h = any_tells (λ (x : SortInfo). list_any (same_id i) (constructors_of x.kind)) ss e in
    let k = any_tells (same_id i) (constructors_of h.1.kind) h.3 in
    let same : k.1 ≡ i = ap (λ (n : ℕ). record { 0 = n }) (sym ((Decides-eqb i.0 k.1.0).0 k.3)) in
    (h.0, h.1, h.2, subst (Contains (constructors_of h.1.kind)) same (contains_read (constructors_of h.1.kind) k.0 k.1 k.2))

-- ---- functions one after another
as_declared : (w : Option Word) (j k : ℕ) → length (if_declared j w) ≡ length (if_declared k w)
as_declared None j k = refl
as_declared (Some w) j k = refl

one_more : (front : List Function) (f : Function) → length (declared_from 0 front) + length (if_declared 0 f.word) ≡ length (declared_from 0 (front ++ f ∷ []))
one_more front f =
    let e = ap length (declared_both front (f ∷ []) 0) in
    let l = length-append (declared_from 0 front) (declared_from (0 + length front) (f ∷ [])) in
    let a = as_declared f.word 0 (0 + length front) in
    let b = length-append (if_declared (0 + length front) f.word) [] in
    omega (arith, e, l, a, b)

read_here : {A : Type 0} (front rest : List A) (x : A) → slice_get (front ++ x ∷ rest) (length front) ≡ Some x
read_here [] rest x = refl
read_here (y ∷ front) rest x = read_here front rest x

-- ---- what is found for a function, by its entries
module _ (g : Sig) (i : FunId) (Q : Role → Type 0) (none : Q mapping)
    (at_projection : (c : FunId) (h : Function) (k : ℕ) → slice_get g.functions c.0 ≡ Some h → slice_get h.projections k ≡ Some (Some i) → Q (projection (declared_number g.functions c) k))
    (at_recogniser : (c : FunId) (h : Function) → slice_get g.functions c.0 ≡ Some h → h.test ≡ Some i → Q (recogniser (declared_number g.functions c))) where
  holds_of_either : (q r : Role) → Q q → Q r → Q (role_or q r)
  holds_of_either constructor r a b = a
  holds_of_either (projection c k) r a b = a
  holds_of_either (recogniser c) r a b = a
  holds_of_either mapping r a b = b

  holds_by_entry : (c : FunId) (h : Function) → slice_get g.functions c.0 ≡ Some h → Q (role_by (declared_number g.functions c) h i)
  holds_by_entry c h at = by_test (is_this i h.test) refl
    where
      by_place : (o : Option ℕ) → position (is_this i) h.projections ≡ o → Q (role_at_place (declared_number g.functions c) o)
      by_place None e = none
      by_place (Some k) e = let p = position_reads (is_this i) h.projections k e in at_projection c h k at (p.1 ∙ ap Some (this_tells i p.0 p.2))

      by_test : (b : Bool) → is_this i h.test ≡ b → Q (cond b (recogniser (declared_number g.functions c)) (role_at_place (declared_number g.functions c) (position (is_this i) h.projections)))
      by_test true e = at_recogniser c h at (this_tells i h.test e)
      by_test false e = by_place (position (is_this i) h.projections) refl

  holds_among : (fs front : List Function) (n : ℕ) → g.functions ≡ front ++ fs → n ≡ length (declared_from 0 front) → Q (role_among n fs i)
  holds_among [] front n e q = none
  holds_among (f ∷ fs) front n e q =
      let c : FunId = record { 0 = length front } in
      let number : declared_number g.functions c ≡ n = ap (λ l. length (declared_from 0 (take (length front) l))) e ∙ ap (λ l. length (declared_from 0 l)) (take-append_seam front (f ∷ fs)) ∙ sym q in
      let at : slice_get g.functions (length front) ≡ Some f = ap (λ l. slice_get l (length front)) e ∙ read_here front fs f in
      holds_of_either (role_by n f i) (role_among (n + length (if_declared 0 f.word)) fs i) (subst (λ k. Q (role_by k f i)) number (holds_by_entry c f at))
      (holds_among fs (front ++ f ∷ []) (n + length (if_declared 0 f.word)) (e ∙ sym (append_assoc front (f ∷ []) fs)) (ap (λ k. k + length (if_declared 0 f.word)) q ∙ one_more front f))

  pub holds_of_role : (is_constructor g.sorts i ≡ true → Q constructor) → Q (role_meant g i)
  holds_of_role made = by_test (is_constructor g.sorts i) refl
    where
      by_test : (b : Bool) → is_constructor g.sorts i ≡ b → Q (cond b constructor (role_among 0 g.functions i))
      by_test true e = made e
      by_test false e = holds_among g.functions [] 0 refl refl

-- ---- roles are found
passes_within : {A : Type 0} (test : A → Bool) (xs : List A) (k : ℕ) (x : A) → slice_get xs k ≡ Some x → test x ≡ true → position_or_len test xs < length xs
passes_within test [] k x e t = cc
passes_within test (y ∷ xs) zero x e t = let p : test y ≡ true = (let q : y ≡ x = cc in ap test q ∙ t) in rw p (omega arith)
passes_within test (y ∷ xs) (suc k) x e t = by_test (passes_within test xs k x e t) (test y)
  where
    by_test : position_or_len test xs < length xs → (b : Bool) → cond (not b) (1 + position_or_len test xs) 0 < suc (length xs)
    by_test l true = omega arith
    by_test l false = omega (arith, l)

position_found : {A : Type 0} (test : A → Bool) (xs : List A) (k : ℕ) (x : A) → slice_get xs k ≡ Some x → test x ≡ true → position test xs ≡ Some (position_or_len test xs)
position_found test xs k x e t = rw ((Decides-ltb (position_or_len test xs) (length xs)).1 (passes_within test xs k x e t)) refl

module _ (g : Sig) (i : FunId) where
  either_is_some : (q r : Role) → (q ≢ mapping) ⊎ (r ≢ mapping) → role_or q r ≢ mapping
  either_is_some constructor r h e = cc
  either_is_some (projection c k) r h e = cc
  either_is_some (recogniser c) r h e = cc
  either_is_some mapping r (inl h) e = h refl
  either_is_some mapping r (inr h) e = h e

  some_among : (fs : List Function) (n j : ℕ) (h : Function) → slice_get fs j ≡ Some h → ((m : ℕ) → role_by m h i ≢ mapping) → role_among n fs i ≢ mapping
  some_among [] n j h at some = cc
  some_among (f ∷ fs) n zero h at some = let p : h ≡ f = (let q : f ≡ h = cc in sym q) in either_is_some (role_by n f i) _ (inl (subst (λ (x : Function). role_by n x i ≢ mapping) p (some n)))
  some_among (f ∷ fs) n (suc j) h at some = either_is_some (role_by n f i) _ (inr (some_among fs (n + length (if_declared 0 f.word)) j h at some))

  recogniser_found : (h : Function) → h.test ≡ Some i → (m : ℕ) → role_by m h i ≢ mapping
  recogniser_found h t m e = let z : recogniser m ≡ mapping = sym (ap (λ b. cond b (recogniser m) (role_at_place m (position (is_this i) h.projections))) (this_told i h.test t)) ∙ e in cc

  projection_found : (h : Function) (k : ℕ) → slice_get h.projections k ≡ Some (Some i) → (m : ℕ) → role_by m h i ≢ mapping
  projection_found h k at m = by_test (is_this i h.test)
    where
      there : position (is_this i) h.projections ≡ Some (position_or_len (is_this i) h.projections)
      there = position_found (is_this i) h.projections k (Some i) at (this_told i (Some i) refl)

      by_test : (b : Bool) → cond b (recogniser m) (role_at_place m (position (is_this i) h.projections)) ≢ mapping
      by_test true e = cc
      by_test false e = let z : projection m (position_or_len (is_this i) h.projections) ≡ mapping = sym (ap (role_at_place m) there) ∙ e in cc

  never_none : (r : Role) → HasRole g.sorts g.functions i r → role_meant g i ≢ mapping
  never_none r (constructs s t at c) e =
      let z : constructor ≡ mapping = sym (ap (λ b. cond b constructor (role_among 0 g.functions i)) (constructor_told g.sorts i s.0 t at c)) ∙ e in cc
  never_none r (projects c h k at p) e = by_test (is_constructor g.sorts i) e
    where
      by_test : (b : Bool) → cond b constructor (role_among 0 g.functions i) ≢ mapping
      by_test true q = cc
      by_test false q = some_among g.functions 0 c.0 h at (projection_found h k p) q
  never_none r (recognises c h at t) e = by_test (is_constructor g.sorts i) e
    where
      by_test : (b : Bool) → cond b constructor (role_among 0 g.functions i) ≢ mapping
      by_test true q = cc
      by_test false q = some_among g.functions 0 c.0 h at (recogniser_found h t) q

pub roles_are_found : RolesAreFound
roles_are_found g roles i r has = by_cases found
  where
    Q : Role → Type 0
    Q q = (q ≡ mapping) ⊎ HasRole g.sorts g.functions i q

    found : (role_meant g i ≡ mapping) ⊎ HasRole g.sorts g.functions i (role_meant g i)
    found = holds_of_role g i (λ q. (q ≡ mapping) ⊎ HasRole g.sorts g.functions i q) (inl refl) (λ c h k at p. inr (projects c h k at p)) (λ c h at t. inr (recognises c h at t))
        (λ e. let h = constructor_tells g.sorts i e in inr (constructs (record { 0 = h.0 }) h.1 h.2 h.3))

    by_cases : (role_meant g i ≡ mapping) ⊎ HasRole g.sorts g.functions i (role_meant g i) → role_meant g i ≡ r
    by_cases (inl e) = absurd (never_none g i r has e)
    by_cases (inr h) = roles.one_role i (role_meant g i) r h has

-- ---- well-formed data
module _ (g : Sig) (table : IsTable g) (roles : AreRoles g) where
  -- the sort of a constructor
  constructed_sort : (s : SortId) (t : SortInfo) (fs : List FunId) → slice_get g.sorts s.0 ≡ Some t → t.kind ≡ sorts.structured fs
      → (sort_under g s ≡ named (length (constructions (take s.0 g.sorts)))) × (sort_at (data_meant g) (length (constructions (take s.0 g.sorts))) ≡ theory.structured)
  constructed_sort s t fs at k = (
    read_sort g table s t at ∙ ap (meaning_of (sort_under g) (length (constructions (take s.0 g.sorts)))) k,
    declared_sorts_stand_in_the_data g s t theory.structured at (ap construction_of k),
  )

  -- a sort that has constructors is declared
  made_sort : (s : SortId) (t : SortInfo) (c : FunId) → slice_get g.sorts s.0 ≡ Some t → Contains (constructors_of t.kind) c → (n : ℕ) × (sort_under g s ≡ named n)
  made_sort s t c at in' = by_kind t.kind (read_sort g table s t at) in'
    where
      none_in : Contains [] c → ⊥
      none_in h = omega (arith, h.1)

      by_kind : (k : Kind) → sort_under g s ≡ meaning_of (sort_under g) (length (constructions (take s.0 g.sorts))) k → Contains (constructors_of k) c → (n : ℕ) × (sort_under g s ≡ named n)
      by_kind sorts.booleans e h = absurd (none_in h)
      by_kind sorts.positives e h = absurd (none_in h)
      by_kind sorts.naturals e h = absurd (none_in h)
      by_kind sorts.integers e h = absurd (none_in h)
      by_kind (sorts.lists_over x) e h = absurd (none_in h)
      by_kind sorts.without_constructors e h = absurd (none_in h)
      by_kind (sorts.by_declarations fs) e h = (_, e)
      by_kind (sorts.structured fs) e h = (_, e)

  same_entry : (i : FunId) (f h : Function) → slice_get g.functions i.0 ≡ Some f → slice_get g.functions i.0 ≡ Some h → f ≡ h
  same_entry i f h a b = let e : Some f ≡ Some h = sym a ∙ b in cc

  -- a constructor of a `struct`, as the data have it
  struct_constructor : (c : FunId) (h : Function) → slice_get g.functions c.0 ≡ Some h → IsStructConstructor g.sorts c h.result
      → (function_at (data_meant g) (declared_number g.functions c) ≡ function_at_meant g c (Some h)) × (role_meant g c ≡ constructor)
  struct_constructor c h at s =
      let in' : Contains (constructors_of s.0.kind) c = subst (λ (k : Kind). Contains (constructors_of k) c) (sym s.3) s.4 in
      let made = roles.constructors h.result s.0 c s.2 in' in
      let same = same_entry c made.0 h made.1 at in
      let word : h.word ≡ None = sym (ap (λ (x : Function). x.word) same) ∙ made.2 in
      ((declared_functions_stand_in_the_data g c h at word).1, roles_are_found g roles c constructor (constructs h.result s.0 s.2 in'))

  module _ (i : FunId) (f : Function) (at : slice_get g.functions i.0 ≡ Some f) where
    abbrev Fits : Role → Type 0
    Fits r = FitsRole (data_meant g) (function_at_meant g i (Some f)) r

    fits_constructor : is_constructor g.sorts i ≡ true → Fits constructor
    fits_constructor e =
        let h = constructor_tells g.sorts i e in
        let s : SortId = record { 0 = h.0 } in
        let made = roles.constructors s h.1 i h.2 h.3 in
        let result : f.result ≡ s = ap (λ (x : Function). x.result) (same_entry i f made.0 at made.1) ∙ made.3 in
        let n = made_sort s h.1 i h.2 h.3 in
        (n.0, ap (sort_under g) result ∙ n.1)

    fits_projection : (c : FunId) (h : Function) (k : ℕ) → slice_get g.functions c.0 ≡ Some h → slice_get h.projections k ≡ Some (Some i) → Fits (projection (declared_number g.functions c) k)
    fits_projection c h k at' p =
        let kept = roles.projections c i h k at' p in
        let made = struct_constructor c h at' kept.0 in
        let sort = constructed_sort h.result kept.0.0 kept.0.1 kept.0.2 kept.0.3 in
        let same = same_entry i f kept.1.2.0 at kept.1.2.1 in
        let args : f.sorts ≡ h.result ∷ [] = ap (λ (x : Function). x.sorts) same ∙ kept.1.2.4 in
        let to : f.result ≡ kept.1.0 = ap (λ (x : Function). x.result) same ∙ kept.1.2.3 in
        let read : slice_get (map (sort_under g) h.sorts) k ≡ Some (sort_under g kept.1.0) = slice_get-map (sort_under g) h.sorts k ∙ ap (option_map (sort_under g)) kept.1.1 in
        let place = get_or_from_slice_get (map (sort_under g) h.sorts) k (sort_under g kept.1.0) boolean read in (
          length (constructions (take h.result.0 g.sorts)),
          ap (map (sort_under g)) args ∙ ap (λ s. s ∷ []) sort.0,
          ap (λ (x : theory.DeclaredFunction). x.role) made.0 ∙ made.1,
          ap (λ (x : theory.DeclaredFunction). x.result) made.0 ∙ sort.0,
          rw made.0 (slice_get_within (map (sort_under g) h.sorts) k (sort_under g kept.1.0) read),
          ap (sort_under g) to ∙ sym (ap (λ (x : theory.DeclaredFunction). get_or x.arguments k boolean) made.0 ∙ place),
          sort.1,
        )

    fits_recogniser : (c : FunId) (h : Function) → slice_get g.functions c.0 ≡ Some h → h.test ≡ Some i → Fits (recogniser (declared_number g.functions c))
    fits_recogniser c h at' t =
        let kept = roles.recognisers c i h at' t in
        let made = struct_constructor c h at' kept.0 in
        let sort = constructed_sort h.result kept.0.0 kept.0.1 kept.0.2 kept.0.3 in
        let same = same_entry i f kept.1.0 at kept.1.1 in
        let args : f.sorts ≡ h.result ∷ [] = ap (λ (x : Function). x.sorts) same ∙ kept.1.4 in
        let to : f.result ≡ bool_sort = ap (λ (x : Function). x.result) same ∙ kept.1.3 in (
          length (constructions (take h.result.0 g.sorts)),
          ap (map (sort_under g)) args ∙ ap (λ s. s ∷ []) sort.0,
          ap (λ (x : theory.DeclaredFunction). x.role) made.0 ∙ made.1,
          ap (λ (x : theory.DeclaredFunction). x.result) made.0 ∙ sort.0,
          ap (sort_under g) to ∙ boolean_is g table,
          sort.1,
        )

    fits_role : Fits (role_meant g i)
    fits_role = holds_of_role g i Fits tt fits_projection fits_recogniser fits_constructor

-- the declared function with a number
abbrev pub Found : List Function → ℕ → FunId → Type 0
Found fs k id = (i : ℕ) × (f : Function) × (id ≡ record { 0 = k + i }) × (slice_get fs i ≡ Some f) × (f.word ≡ None)

found_behind : (x : Function) (fs : List Function) (k : ℕ) (id : FunId) → Found fs (suc k) id → Found (x ∷ fs) k id
found_behind x fs k id h = (suc h.0, h.1, h.2 ∙ ap (λ (n : ℕ). record { 0 = n }) (let z : suc k + h.0 ≡ k + suc h.0 = omega arith in z), h.3, h.4)

pub declared_found : (fs : List Function) (k n : ℕ) (default : FunId) → n < length (declared_from k fs) → Found fs k (get_or (declared_from k fs) n default)
declared_found [] k n default l = absurd (omega (arith, l))
declared_found (x ∷ fs) k n default l = by_word (λ m h. declared_found fs (suc k) m default h) x.word refl n l
  where
    by_word : ((m : ℕ) → m < length (declared_from (suc k) fs) → Found fs (suc k) (get_or (declared_from (suc k) fs) m default))
        → (w : Option Word) → x.word ≡ w → (m : ℕ) → m < length (if_declared k w ++ declared_from (suc k) fs) → Found (x ∷ fs) k (get_or (if_declared k w ++ declared_from (suc k) fs) m default)
    by_word rest None e zero h = (0, x, ap (λ (n : ℕ). record { 0 = n }) (let z : k ≡ k + 0 = omega arith in z), refl, e)
    by_word rest None e (suc m) h = found_behind x fs k (get_or (declared_from (suc k) fs) m default) (rest m (omega (arith, h)))
    by_word rest (Some w) e m h = found_behind x fs k (get_or (declared_from (suc k) fs) m default) (rest m h)

module _ (g : Sig) (table : IsTable g) (roles : AreRoles g) where
  abbrev WellFormed : theory.DeclaredFunction → Type 0
  WellFormed f = FitsRole (data_meant g) f f.role × IsSort (data_meant g) f.result × All (IsSort (data_meant g)) f.arguments

  entry_well_formed : (i : FunId) (f : Function) → slice_get g.functions i.0 ≡ Some f → WellFormed (function_at_meant g i (Some f))
  entry_well_formed i f at =
      let within = holds_at (HasSortsIn g.sorts) g.functions i.0 f table.within at in
      let sorts_are = All-weaker (λ (s : SortId). s.0 < length g.sorts) (λ s. IsSort (data_meant g) (sort_under g s)) (sort_is g table) f.sorts within.0 in
      (fits_role g table roles i f at, sort_is g table f.result within.1, All-map (IsSort (data_meant g)) (sort_under g) f.sorts sorts_are)

  well_formed : (k : ℕ) → k < length (data_meant g).functions → WellFormed (function_at (data_meant g) k)
  well_formed k l =
      let ids = declared_from 0 g.functions in
      let default : FunId = record { 0 = 0 } in
      let w : k < length ids = omega (arith, l, length-map ids (function_meant g)) in
      let h = declared_found g.functions 0 k default w in
      let i : FunId = record { 0 = 0 + h.0 } in
      let at : slice_get g.functions (0 + h.0) ≡ Some h.1 = ap (slice_get g.functions) (let z : 0 + h.0 ≡ h.0 = omega arith in z) ∙ h.3 in
      let entry : function_at (data_meant g) k ≡ function_at_meant g i (Some h.1) =
      get_or-map (function_meant g) ids k default (record { arguments = []; result = boolean; role = mapping }) w ∙ ap (function_meant g) h.2 ∙ ap (function_at_meant g i) at in
      subst WellFormed (sym entry) (entry_well_formed i h.1 at)

pub meant_data_are_data : MeantDataAreData
meant_data_are_data g table roles = record {
  roles = λ k l. (well_formed g table roles k l).0;
  results = λ k l. (well_formed g table roles k l).1;
  arguments = λ k l. (well_formed g table roles k l).2;
}

-- ---- growth
constructions_both : (ss more : List SortInfo) → constructions (ss ++ more) ≡ constructions ss ++ constructions more
constructions_both [] more = refl
constructions_both (s ∷ ss) more = ap (λ l. construction_of s.kind ++ l) (constructions_both ss more) ∙ sym (append_assoc (construction_of s.kind) (constructions ss) (constructions more))

or_assoc : (q r s : Role) → role_or (role_or q r) s ≡ role_or q (role_or r s)
or_assoc constructor r s = refl
or_assoc (projection c k) r s = refl
or_assoc (recogniser c) r s = refl
or_assoc mapping r s = refl

or_nothing : (q r : Role) → r ≡ mapping → role_or q r ≡ q
or_nothing constructor r e = refl
or_nothing (projection c k) r e = refl
or_nothing (recogniser c) r e = refl
or_nothing mapping r e = e

among_both : (fs more : List Function) (n : ℕ) (i : FunId) → (m : ℕ) × (role_among n (fs ++ more) i ≡ role_or (role_among n fs i) (role_among m more i))
among_both [] more n i = (n, refl)
among_both (f ∷ fs) more n i =
    let h = among_both fs more (n + length (if_declared 0 f.word)) i in
    (h.0, ap (role_or (role_by n f i)) h.1 ∙ sym (or_assoc (role_by n f i) (role_among (n + length (if_declared 0 f.word)) fs i) (role_among h.0 more i)))

-- entries that give a function no role
module _ (i : FunId) where
  by_none : (n : ℕ) (h : Function) → ((k : ℕ) → slice_get h.projections k ≡ Some (Some i) → ⊥) → (h.test ≡ Some i → ⊥) → role_by n h i ≡ mapping
  by_none n h no_place no_test = by_test (is_this i h.test) refl
    where
      by_place : (o : Option ℕ) → position (is_this i) h.projections ≡ o → role_at_place n o ≡ mapping
      by_place None e = refl
      by_place (Some k) e = let p = position_reads (is_this i) h.projections k e in absurd (no_place k (p.1 ∙ ap Some (this_tells i p.0 p.2)))

      by_test : (b : Bool) → is_this i h.test ≡ b → cond b (recogniser n) (role_at_place n (position (is_this i) h.projections)) ≡ mapping
      by_test true e = absurd (no_test (this_tells i h.test e))
      by_test false e = by_place (position (is_this i) h.projections) refl

  among_none : (fs : List Function) (n : ℕ) → ((j k : ℕ) (h : Function) → slice_get fs j ≡ Some h → slice_get h.projections k ≡ Some (Some i) → ⊥) → ((j : ℕ) (h : Function) → slice_get fs j ≡ Some h → h.test ≡ Some i → ⊥) → role_among n fs i ≡ mapping
  among_none [] n no_place no_test = refl
  among_none (f ∷ fs) n no_place no_test =
      ap (λ q. role_or q (role_among (n + length (if_declared 0 f.word)) fs i)) (by_none n f (λ k. no_place 0 k f refl) (no_test 0 f refl))
      ∙ among_none fs (n + length (if_declared 0 f.word)) (λ j k h at. no_place (suc j) k h at) (λ j h at. no_test (suc j) h at)

module _ (g h : Sig) (table : IsTable g) (roles : AreRoles g) (new_roles : AreRoles h) (grown : IsGrown g h) where
  module _ (i : FunId) (f : Function) (at : slice_get g.functions i.0 ≡ Some f) where
    within : HasSortsIn g.sorts f
    within = holds_at (HasSortsIn g.sorts) g.functions i.0 f table.within at

    still_there : slice_get h.functions i.0 ≡ Some f
    still_there = ap (λ l. slice_get l i.0) grown.functions ∙ read_front g.functions grown.new_functions i.0 f at

    same_there : (x : Function) → slice_get h.functions i.0 ≡ Some x → f ≡ x
    same_there x e = let z : Some f ≡ Some x = sym still_there ∙ e in cc

    -- a sort that comes later doesn't have it as a constructor
    no_new_constructor : is_constructor grown.new_sorts i ≡ true → ⊥
    no_new_constructor e =
        let c = constructor_tells grown.new_sorts i e in
        let s : SortId = record { 0 = length g.sorts + c.0 } in
        let there : slice_get h.sorts s.0 ≡ Some c.1 = ap (λ l. slice_get l s.0) grown.sorts ∙ read_behind g.sorts grown.new_sorts c.0 c.1 c.2 in
        let made = new_roles.constructors s c.1 i there c.3 in
        let result : f.result.0 ≡ length g.sorts + c.0 = ap (λ (x : Function). x.result.0) (same_there made.0 made.1) ∙ ap (λ (x : SortId). x.0) made.3 in
        omega (arith, result, within.1)

    -- and neither has a constructor that comes later it as its projection or recogniser, since these take an old sort
    no_new_struct : (j : ℕ) (x : Function) → slice_get grown.new_functions j ≡ Some x → IsStructConstructor h.sorts (record { 0 = length g.functions + j }) x.result → f.sorts ≡ x.result ∷ [] → ⊥
    no_new_struct j x e made args =
        let old : x.result.0 < length g.sorts = All-head (λ (s : SortId). s.0 < length g.sorts) x.result [] (subst (All (λ (s : SortId). s.0 < length g.sorts)) args within.0) in
        let s = read_within g.sorts x.result.0 old in
        let there : slice_get h.sorts x.result.0 ≡ Some s.0 = ap (λ l. slice_get l x.result.0) grown.sorts ∙ read_front g.sorts grown.new_sorts x.result.0 s.0 s.1 in
        let same : s.0 ≡ made.0 = (let z : Some s.0 ≡ Some made.0 = sym there ∙ made.2 in cc) in
        let kind : s.0.kind ≡ sorts.structured made.1 = ap (λ (y : SortInfo). y.kind) same ∙ made.3 in
        let c : FunId = record { 0 = length g.functions + j } in
        let in' : Contains (constructors_of s.0.kind) c = subst (λ (k : Kind). Contains (constructors_of k) c) (sym kind) made.4 in
        let entry = roles.constructors x.result s.0 c s.1 in' in
        omega (arith, slice_get_within g.functions (length g.functions + j) entry.0 entry.1)

    new_entry : (j : ℕ) (x : Function) → slice_get grown.new_functions j ≡ Some x → slice_get h.functions (length g.functions + j) ≡ Some x
    new_entry j x e = ap (λ l. slice_get l (length g.functions + j)) grown.functions ∙ read_behind g.functions grown.new_functions j x e

    no_new_place : (j k : ℕ) (x : Function) → slice_get grown.new_functions j ≡ Some x → slice_get x.projections k ≡ Some (Some i) → ⊥
    no_new_place j k x e p =
        let kept = new_roles.projections (record { 0 = length g.functions + j }) i x k (new_entry j x e) p in
        no_new_struct j x e kept.0 (ap (λ (y : Function). y.sorts) (same_there kept.1.2.0 kept.1.2.1) ∙ kept.1.2.4)

    no_new_test : (j : ℕ) (x : Function) → slice_get grown.new_functions j ≡ Some x → x.test ≡ Some i → ⊥
    no_new_test j x e t =
        let kept = new_roles.recognisers (record { 0 = length g.functions + j }) i x (new_entry j x e) t in
        no_new_struct j x e kept.0 (ap (λ (y : Function). y.sorts) (same_there kept.1.0 kept.1.1) ∙ kept.1.4)

    same_test : is_constructor h.sorts i ≡ is_constructor g.sorts i
    same_test =
        ap (λ ss. is_constructor ss i) grown.sorts
        ∙ list_any-append (λ (x : SortInfo). list_any (same_id i) (constructors_of x.kind)) g.sorts grown.new_sorts
        ∙ ap (λ b. is_constructor g.sorts i || b) (by_test (is_constructor grown.new_sorts i) refl)
        ∙ or_false (is_constructor g.sorts i)
      where
        by_test : (b : Bool) → is_constructor grown.new_sorts i ≡ b → b ≡ false
        by_test true e = absurd (no_new_constructor e)
        by_test false e = refl

        or_false : (b : Bool) → (b || false) ≡ b
        or_false true = refl
        or_false false = refl

    same_among : role_among 0 h.functions i ≡ role_among 0 g.functions i
    same_among =
        let both = among_both g.functions grown.new_functions 0 i in
        ap (λ fs. role_among 0 fs i) grown.functions ∙ both.1 ∙ or_nothing (role_among 0 g.functions i) (role_among both.0 grown.new_functions i) (among_none i grown.new_functions both.0 no_new_place no_new_test)

    same_role : role_meant h i ≡ role_meant g i
    same_role = λ j. cond (same_test j) constructor (same_among j)

    same_sorts_meant : (ss : List SortId) → All (λ (s : SortId). s.0 < length g.sorts) ss → map (sort_under h) ss ≡ map (sort_under g) ss
    same_sorts_meant [] a = refl
    same_sorts_meant (s ∷ ss) a =
        let P : SortId → Type 0 = λ x. x.0 < length g.sorts in
        let p = growth_keeps_meant_sorts g h grown s (All-head P s ss a) in
        let q = same_sorts_meant ss (All-tail P s ss a) in
        (λ j. p j ∷ q j)

    same_meant_function : function_meant h i ≡ function_meant g i
    same_meant_function =
        let args = same_sorts_meant f.sorts within.0 in
        let result = growth_keeps_meant_sorts g h grown f.result within.1 in
        ap (function_at_meant h i) still_there ∙ (λ j. record { arguments = args j; result = result j; role = same_role j }) ∙ sym (ap (function_at_meant g i) at)

  same_functions : (fs : List Function) (k : ℕ) → ((i : ℕ) (f : Function) → slice_get fs i ≡ Some f → slice_get g.functions (k + i) ≡ Some f) → map (function_meant h) (declared_from k fs) ≡ map (function_meant g) (declared_from k fs)
  same_functions [] k at = refl
  same_functions (f ∷ fs) k at =
      by_word (same_functions fs (suc k) (λ i x e. ap (slice_get g.functions) (let z : suc k + i ≡ k + suc i = omega arith in z) ∙ at (suc i) x e)) f.word
    where
      here : slice_get g.functions k ≡ Some f
      here = ap (slice_get g.functions) (let z : k ≡ k + 0 = omega arith in z) ∙ at 0 f refl

      by_word : map (function_meant h) (declared_from (suc k) fs) ≡ map (function_meant g) (declared_from (suc k) fs)
          → (w : Option Word) → map (function_meant h) (if_declared k w ++ declared_from (suc k) fs) ≡ map (function_meant g) (if_declared k w ++ declared_from (suc k) fs)
      by_word rest None = let p = same_meant_function (record { 0 = k }) f here in (λ j. p j ∷ rest j)
      by_word rest (Some w) = rest

  grown_functions : map (function_meant h) (declared_from 0 h.functions) ≡ map (function_meant g) (declared_from 0 g.functions) ++ map (function_meant h) (declared_from (length g.functions) grown.new_functions)
  grown_functions =
      ap (λ fs. map (function_meant h) (declared_from 0 fs)) grown.functions
      ∙ ap (map (function_meant h)) (declared_both g.functions grown.new_functions 0)
      ∙ ap (λ n. map (function_meant h) (declared_from 0 g.functions ++ declared_from n grown.new_functions)) (let z : 0 + length g.functions ≡ length g.functions = omega arith in z)
      ∙ map-append (function_meant h) (declared_from 0 g.functions) (declared_from (length g.functions) grown.new_functions)
      ∙ ap (λ l. l ++ map (function_meant h) (declared_from (length g.functions) grown.new_functions)) (same_functions g.functions 0 (λ i f e. ap (slice_get g.functions) (let z : 0 + i ≡ i = omega arith in z) ∙ e))

pub growth_keeps_meant_data : GrowthKeepsMeantData
growth_keeps_meant_data g h table roles new_roles grown = record {
  new_sorts = constructions grown.new_sorts;
  new_functions = map (function_meant h) (declared_from (length g.functions) grown.new_functions);
  sorts = ap constructions grown.sorts ∙ constructions_both g.sorts grown.new_sorts;
  functions = grown_functions g h table roles new_roles grown;
}
