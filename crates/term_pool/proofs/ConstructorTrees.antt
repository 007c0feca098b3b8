-- Nothing merges with a constructor.
use Rattle.std.proofs.Common.{◌≡◌, ◌==◌, ◌<◌, ◌≤◌, ◌+◌, ◌++◌, ◌&&◌, ◌||◌, ℕ, zero, suc, Bool, true, false, cond, List, [], ◌∷◌, Option, Some, None, ℤ, pos, refl, sym, ap, ◌∙◌, subst, arith, ⊎_elim, inl, inr, ◌⊎◌}
use Rattle.std.specs.Prelude.{slice_get}
use Rattle.std.specs.List.{All, Contains}
use Rattle.std.proofs.lemmas.Bool.{cases_lt}
use Rattle.std.proofs.lemmas.Bool.Decides.{Decides-eqb}
use Rattle.std.proofs.lemmas.List.Elements.{All-contains}
use lib.Signed.{lt_z}
use lib.IntN.{neg_ℤ}
use Rattle.data_theory.specs.declared.ids.SortId.{SortId}
use Rattle.data_theory.specs.declared.ids.FunId.{FunId}
use Rattle.data_theory.specs.declared.rows.Row.{Row}
use Rattle.data_theory.specs.declared.words.Word.{Word}
use Rattle.data_theory.specs.Functions.{Function, arguments_of}
use Rattle.data_theory.specs.Rows.{row_word}
use Rattle.data_theory.specs.Sorts as sorts
use Rattle.data_theory.specs.Sorts.{Kind, SortInfo, lists_over}
use Rattle.data_theory.specs.Table.{first_rows, nat_sort, int_sort}
use Rattle.data_theory.specs.Signature.{Sig}
use Rattle.data_theory.specs.IdSorts.{HasKind}
use Rattle.data_theory.specs.IdSymbols.{if_declared, declared_from}
use Rattle.data_theory.specs.IdData.{constructors_of}
use Rattle.data_theory.specs.IdTreeSorts.{IsNumberIn, HasNumber}
use Rattle.data_theory.specs.IdTrees.{numeral, function, none, more, apply_tree, apply_to_numeral}
use Rattle.data_theory.specs.WholeSignatures.{HasDeclaredConstructors, IsSignature}
use Rattle.data_theory.proofs.PlaceLemmas.{contains_read}
use Rattle.term_pool.specs.ConstructorValues.{ConstructorValues, a_number, built, a_constant, no_value, value_then, IsConstructorOf, IsValueOf, AreValuesOf}
use Rattle.term_pool.specs.Constants.{trees_with}
use Rattle.term_pool.proofs.Lists.{contains_none, contains_cons}

-- ---- declared functions stand behind the first six
IsWordless : List Function → ℕ → FunId → Type 0
IsWordless fs k f = (i : ℕ) × (e : Function) × (f.0 ≡ k + i) × (slice_get fs i ≡ Some e) × (e.word ≡ None)

wordless_later : (fs : List Function) (x : Function) (k : ℕ) (f : FunId) → IsWordless fs (suc k) f → IsWordless (x ∷ fs) k f
unfolding IsWordless
wordless_later fs x k f h = (suc h.0, h.1, omega (arith, h.2), h.3, h.4)

wordless : (fs : List Function) (k : ℕ) (f : FunId) → Contains (declared_from k fs) f → IsWordless fs k f
unfolding IsWordless
wordless [] k f has = absurd (contains_none f has)
wordless (x ∷ fs) k f has = by_word x.word refl has (λ h. wordless_later fs x k f (wordless fs (suc k) f h))
  where
    by_word : (w : Option Word) → x.word ≡ w → Contains (if_declared k w ++ declared_from (suc k) fs) f → (Contains (declared_from (suc k) fs) f → IsWordless (x ∷ fs) k f) → IsWordless (x ∷ fs) k f
    by_word (Some w) e has rest = rest has
    by_word None e has rest =
        ⊎_elim
        (λ same. let number : k ≡ f.0 = ap (λ (g : FunId). g.0) same in (0, x, omega (arith, number), refl, e))
        rest
        (contains_cons (record { 0 = k }) f (declared_from (suc k) fs) has)

row_at : (k : ℕ) → k < 6 → (r : Row) × (slice_get first_rows k ≡ Some r)
unfolding first_rows
row_at zero l = (_, refl)
row_at (suc zero) l = (_, refl)
row_at (suc (suc zero)) l = (_, refl)
row_at (suc (suc (suc zero))) l = (_, refl)
row_at (suc (suc (suc (suc zero)))) l = (_, refl)
row_at (suc (suc (suc (suc (suc zero))))) l = (_, refl)
row_at (suc (suc (suc (suc (suc (suc k)))))) l = absurd (omega (arith, l))

module _ (g : Sig) (stands : IsSignature g) where
  pub declared_is_late : (f : FunId) → Contains g.declared f → 6 ≤ f.0
  unfolding IsWordless
  declared_is_late f has =
      let h = wordless g.functions 0 f (subst (λ l. Contains l f) stands.table.listed has) in
      let here : f.0 ≡ h.0 = omega (arith, h.2) in
      ⊎_elim
      (λ low.
      let row = row_at h.0 (omega (arith, low, here)) in
      let first = stands.table.first h.0 row.0 row.1 in
      let same : Some h.1 ≡ Some first.0 = sym h.3 ∙ first.1 in
      let equal : h.1 ≡ first.0 = cc in
      let word : None ≡ Some (row_word row.0) = sym h.4 ∙ (ap (λ (e : Function). e.word) equal ∙ ap (λ (e : Function). e.word) first.2) in
      absurd cc)
      (λ high. omega (arith, high))
      (cases_lt f.0 6)

is_not : (f : FunId) (n : ℕ) → (f.0 ≡ n → ⊥) → (f.0 == n) ≡ false
is_not f n other = by_test (f.0 == n) refl
  where
    by_test : (b : Bool) → (f.0 == n) ≡ b → (f.0 == n) ≡ false
    by_test true e = absurd (other ((Decides-eqb f.0 n).0 e))
    by_test false e = e

late_is_kept : (f : FunId) (s : SortId) (z : ℤ) → 6 ≤ f.0 → apply_to_numeral f s z ≡ function f (more (numeral s z) none)
late_is_kept f s z late =
    let a = is_not f 0 (λ e. omega (arith, e, late)) in
    let b = is_not f 1 (λ e. omega (arith, e, late)) in
    let c = is_not f 2 (λ e. omega (arith, e, late)) in
    let d = is_not f 3 (λ e. omega (arith, e, late)) in
    let x = is_not f 4 (λ e. omega (arith, e, late)) in
    let y = is_not f 5 (λ e. omega (arith, e, late)) in
    λ i. cond (d i && (s.0 == 1))
    (numeral nat_sort z)
    (cond ((x i && (s.0 == 2)) || (y i && (s.0 == 1)))
    (numeral int_sort z)
    (cond (((a i && (s.0 == 1)) || ((b i && (s.0 == 2)) || (c i && (s.0 == 3)))) && lt_z (pos 0) z)
    (numeral int_sort (neg_ℤ z))
    (function f (more (numeral s z) none))))

-- ---- a constructor over its values
-- only Pos, Nat and Int have numbers
pub number_kind : (g : Sig) → IsSignature g → (s : SortId) (z : ℤ) → IsNumberIn s z → HasKind g.sorts s.0 sorts.positives ⊎ (HasKind g.sorts s.0 sorts.naturals ⊎ HasKind g.sorts s.0 sorts.integers)
number_kind g stands s z (inl p) = inl ((stands.table.sorts.positive_second s.0).1 (ap (λ (x : SortId). x.0) p.0))
number_kind g stands s z (inr (inl p)) = inr (inl ((stands.table.sorts.natural_third s.0).1 (ap (λ (x : SortId). x.0) p.0)))
number_kind g stands s z (inr (inr p)) = inr (inr ((stands.table.sorts.integer_fourth s.0).1 (ap (λ (x : SortId). x.0) p)))

one_kind : (ss : List SortInfo) (i : ℕ) (k l : Kind) → HasKind ss i k → HasKind ss i l → k ≡ l
one_kind ss i k l a b = let same : Some a.0 ≡ Some b.0 = sym a.1 ∙ b.1 in let equal : a.0 ≡ b.0 = cc in sym a.2 ∙ (ap (λ (x : SortInfo). x.kind) equal ∙ b.2)

pub bare_has_no_number : (g : Sig) → IsSignature g → (s : SortId) (z : ℤ) → HasKind g.sorts s.0 sorts.without_constructors → HasNumber s z → ⊥
bare_has_no_number g stands s z kind has = by_kind (number_kind g stands s z has.0)
  where
    by_kind : HasKind g.sorts s.0 sorts.positives ⊎ (HasKind g.sorts s.0 sorts.naturals ⊎ HasKind g.sorts s.0 sorts.integers) → ⊥
    by_kind (inl k) = let wrong = one_kind g.sorts s.0 sorts.without_constructors sorts.positives kind k in cc
    by_kind (inr (inl k)) = let wrong = one_kind g.sorts s.0 sorts.without_constructors sorts.naturals kind k in cc
    by_kind (inr (inr k)) = let wrong = one_kind g.sorts s.0 sorts.without_constructors sorts.integers kind k in cc

module _ (g : Sig) (stands : IsSignature g) where
  -- a list sort has no numbers
  no_number : (s : SortId) (e : SortId) (z : ℤ) → HasKind g.sorts s.0 (lists_over e) → HasNumber s z → ⊥
  no_number s e z kind has = by_kind (number_kind g stands s z has.0)
    where
      by_kind : HasKind g.sorts s.0 sorts.positives ⊎ (HasKind g.sorts s.0 sorts.naturals ⊎ HasKind g.sorts s.0 sorts.integers) → ⊥
      by_kind (inl k) = let wrong = one_kind g.sorts s.0 (lists_over e) sorts.positives kind k in cc
      by_kind (inr (inl k)) = let wrong = one_kind g.sorts s.0 (lists_over e) sorts.naturals kind k in cc
      by_kind (inr (inr k)) = let wrong = one_kind g.sorts s.0 (lists_over e) sorts.integers kind k in cc

  -- no built-in constructor is over a number alone
  only_one : (b : Bool) (l : List SortId) (vs : ConstructorValues) → AreValuesOf g vs (cond b [] l) → (vs ≡ no_value) ⊎ AreValuesOf g vs l
  only_one true l no_value are = inl refl
  only_one true l (value_then v vs) are = absurd are
  only_one false l vs are = inr are

  fits_not : (a : SortId) (z : ℤ) (f : FunId) (e fn : Function) (l : List SortId) → slice_get g.functions f.0 ≡ Some e → slice_get g.functions f.0 ≡ Some fn → fn.sorts ≡ l → AreValuesOf g (value_then (a_number a z) no_value) (arguments_of e) → AreValuesOf g (value_then (a_number a z) no_value) l
  fits_not a z f e fn l here at sorts are =
      let same : Some e ≡ Some fn = sym here ∙ at in
      let equal : e ≡ fn = cc in
      let listed : e.sorts ≡ l = ap (λ (x : Function). x.sorts) equal ∙ sorts in
      ⊎_elim (λ none. absurd cc) (λ h. subst (AreValuesOf g (value_then (a_number a z) no_value)) listed h) (only_one e.is_list_constant e.sorts (value_then (a_number a z) no_value) are)

  declared_late : (k : Kind) (fs : List FunId) (s : SortId) (i : SortInfo) → slice_get g.sorts s.0 ≡ Some i → i.kind ≡ k → constructors_of k ≡ fs → (n : ℕ) (f : FunId) → slice_get fs n ≡ Some f → 6 ≤ f.0
  declared_late k fs s i at is same n f con =
      let all = All-contains (HasDeclaredConstructors g.declared) g.sorts i stands.constructors_declared (contains_read g.sorts s.0 i at) in
      let these : All (Contains g.declared) fs = subst (All (Contains g.declared)) (ap constructors_of is ∙ same) all in
      declared_is_late g stands f (All-contains (Contains g.declared) fs f these (contains_read fs n f con))

  over_number : (k : Kind) (s : SortId) (i : SortInfo) → slice_get g.sorts s.0 ≡ Some i → i.kind ≡ k → (n : ℕ) (f : FunId) → IsConstructorOf g s k n f → (e : Function) → slice_get g.functions f.0 ≡ Some e → (a : SortId) (z : ℤ)
      → AreValuesOf g (value_then (a_number a z) no_value) (arguments_of e) → 6 ≤ f.0
  over_number sorts.booleans s i at is n f (inl con) e here a z are = absurd (fits_not a z f e con.1.0 [] here con.1.1 con.1.3 are)
  over_number sorts.booleans s i at is n f (inr con) e here a z are = absurd (fits_not a z f e con.1.0 [] here con.1.1 con.1.3 are)
  over_number sorts.positives s i at is n f con e here a z are = absurd con
  over_number sorts.naturals s i at is n f con e here a z are = absurd con
  over_number sorts.integers s i at is n f con e here a z are = absurd con
  over_number (lists_over x) s i at is n f (inl con) e here a z are = absurd (no_number s x z (i, at, is) (fits_not a z f e con.1.0 (s ∷ []) here con.1.1 con.1.3 are).0.1)
  over_number (lists_over x) s i at is n f (inr con) e here a z are = absurd (fits_not a z f e con.1.0 (x ∷ s ∷ []) here con.1.1 con.1.3 are).1
  over_number sorts.without_constructors s i at is n f con e here a z are = absurd con
  over_number (sorts.by_declarations fs) s i at is n f con e here a z are = declared_late (sorts.by_declarations fs) fs s i at is refl n f con
  over_number (sorts.structured fs) s i at is n f con e here a z are = declared_late (sorts.structured fs) fs s i at is refl n f con

  pub constructor_unmerged : (c : SortId → FunId) (s : SortId) (f : FunId) (vs : ConstructorValues) → IsValueOf g (built f vs) s → apply_tree f (trees_with c vs) ≡ function f (trees_with c vs)
  constructor_unmerged c s f no_value is = refl
  constructor_unmerged c s f (value_then (a_number a z) no_value) is =
      late_is_kept f a z (over_number is.1.0.kind s is.1.0 is.1.1 refl is.0 f is.1.2 is.2.0 is.2.1 a z is.2.2)
  constructor_unmerged c s f (value_then (a_number a z) (value_then w ws)) is = refl
  constructor_unmerged c s f (value_then (built h us) ws) is = refl
  constructor_unmerged c s f (value_then (a_constant d) ws) is = refl
