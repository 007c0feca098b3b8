-- The rows of one more weight.
use Rattle.std.proofs.Common.{◌≡◌, ◌⊎◌, ⊎_elim, ◌<◌, ◌+◌, ◌++◌, ℕ, zero, suc, List, [], ◌∷◌, take, length, Option, Some, None, refl, sym, ap, ◌∙◌, subst, arith}
use Rattle.std.specs.Prelude.{slice_get}
use Rattle.std.specs.Global.{Vec}
use Rattle.std.specs.List.{Contains}
use Rattle.std.specs.Option.{option_map_or}
use Rattle.data_theory.specs.declared.ids.SortId.{SortId}
use Rattle.data_theory.specs.declared.ids.TermId.{TermId}
use Rattle.data_theory.specs.Signature.{Sig}
use Rattle.data_theory.specs.IdTrees.{Tree}
use Rattle.data_theory.proofs.PlaceLemmas.{contains_read}
use Rattle.term_pool.specs.Pools.{Extends}
use Rattle.term_pool.specs.ConstructorValues.{ConstructorValue, no_value, value_then}
use Rattle.value_enum.specs.declared.shapes.Shapes.{Shapes}
use Rattle.value_enum.specs.declared.levels.ValueRow.{ValueRow}
use Rattle.value_enum.specs.declared.levels.TupleRow.{TupleRow}
use Rattle.value_enum.specs.Values.{AreTermsOf, no_terms}
use Rattle.value_enum.specs.Shapes.{list_at, arguments_at, sorts_to_end, AreShapes}
use Rattle.value_enum.specs.Levels.{Shape, shape_of, tuples_weighing, values_weighing, weighing_up_to, values_at, tuples_at, plain_tuples, AreTuplesOf, no_tuples, tuple_then, empty, HaveValues, HaveTuples, IsTupleRow, IsFirstTupleRow}
use Rattle.value_enum.proofs.Capped.{alike_weighing}
use Rattle.value_enum.proofs.DepthLemmas.{no_light_values}
use Rattle.value_enum.proofs.TermLists.{terms_kept, tuples_take, tuples_up_to}

-- ---- rows by their places
pub row_before : {A : Type 0} (rows : List A) (row : A) (w : ℕ) → w < length rows → slice_get (rows ++ row ∷ []) w ≡ slice_get rows w
row_before [] row w l = absurd (omega (arith, l))
row_before (r ∷ rows) row zero l = refl
row_before (r ∷ rows) row (suc w) l = row_before rows row w (omega (arith, l))

pub row_last : {A : Type 0} (rows : List A) (row : A) → slice_get (rows ++ row ∷ []) (length rows) ≡ Some row
row_last [] row = refl
row_last (r ∷ rows) row = row_last rows row

pub rows_length : {A : Type 0} (rows : List A) (row : A) → length (rows ++ row ∷ []) ≡ length rows + 1
rows_length [] row = refl
rows_length (r ∷ rows) row = let e = rows_length rows row in omega (arith, e)

before_or_last : (w n : ℕ) → w < n + 1 → (w < n) ⊎ (w ≡ n)
before_or_last w n l = grind arith

pub nothing_taken : {A : Type 0} (n : ℕ) → let none : List A = [] in take n none ≡ none
nothing_taken zero = refl
nothing_taken (suc n) = refl

-- the entry at a place
pub entry_at : {A : Type 0} (xs : List A) (k : ℕ) → k < length xs → (x : A) × (slice_get xs k ≡ Some x)
entry_at [] k l = absurd (omega (arith, l))
entry_at (x ∷ xs) zero l = (x, refl)
entry_at (x ∷ xs) (suc k) l = entry_at xs k (omega (arith, l))

pub arguments_end : (os : List (Option SortId)) (p : ℕ) → slice_get os p ≡ Some None → arguments_at os p ≡ []
arguments_end [] p e = cc
arguments_end (None ∷ os) zero e = refl
arguments_end (Some a ∷ os) zero e = cc
arguments_end (o ∷ os) (suc p) e = arguments_end os p e

pub arguments_begin : (os : List (Option SortId)) (p : ℕ) (a : SortId) → slice_get os p ≡ Some (Some a) → arguments_at os p ≡ a ∷ arguments_at os (suc p)
arguments_begin [] p a e = cc
arguments_begin (None ∷ os) zero a e = cc
arguments_begin (Some b ∷ os) zero a e = let same : b ≡ a = cc in ap (λ (x : SortId). x ∷ sorts_to_end os) same
arguments_begin (o ∷ os) (suc p) a e = arguments_begin os p a e

-- ---- values
pub values_more : (sh : Shape) (sorts : List SortId) (count : ℕ) (old new : List Tree) (rows : List ValueRow) (row : ValueRow) → Extends old new → HaveValues sh sorts count old rows
    → ((s : SortId) → Contains sorts s → AreTermsOf new (list_at row.by_sort.items s.0) (take count (values_weighing sh s (length rows)))) → HaveValues sh sorts count new (rows ++ row ∷ [])
values_more sh sorts count old new rows row on have next w s l among =
    ⊎_elim
    (λ before. subst (λ o. AreTermsOf new (option_map_or (λ (r : ValueRow). list_at r.by_sort.items s.0) o []) (take count (values_weighing sh s w))) (sym (row_before rows row w before))
    (terms_kept old new on _ _ (have w s before among)))
    (λ last. subst (λ n. AreTermsOf new (values_at (rows ++ row ∷ []) n s) (take count (values_weighing sh s n))) (sym last)
    (subst (λ o. AreTermsOf new (option_map_or (λ (r : ValueRow). list_at r.by_sort.items s.0) o []) (take count (values_weighing sh s (length rows)))) (sym (row_last rows row)) (next s among)))
    (before_or_last w (length rows) (let e = rows_length rows row in omega (arith, l, e)))

-- ---- lists of arguments
module _ (g : Sig) (sh : Shapes) (stands : AreShapes g sh) (bound : ℕ) (ts : List Tree) where
  abbrev os : List (Option SortId)
  os = sh.arguments.items

  tuples_next : (values : List ValueRow) (tuples : List TupleRow) (row : TupleRow) → length values ≡ length tuples + 1 → 0 < length tuples → HaveValues (shape_of g sh) sh.sorts.keys (bound + 1) ts values → HaveTuples (shape_of g sh) os (bound + 1) ts tuples
      → IsTupleRow os values tuples (length tuples) bound row → (p : ℕ) → p < length os → AreTuplesOf ts (plain_tuples (list_at row.by_place.items p)) (take (bound + 1) (tuples_weighing (values_weighing (shape_of g sh)) (arguments_at os p) (length tuples)))
  unfolding tuples_weighing
  tuples_next values tuples row size some have lists is p l = by_entry (entry_at os p l).0 (entry_at os p l).1
    where
      V : SortId → ℕ → List ConstructorValue
      V = values_weighing (shape_of g sh)

      at_end : (n : ℕ) → 0 < n → take (bound + 1) (tuples_weighing V [] n) ≡ []
      at_end zero k = absurd (omega (arith, k))
      at_end (suc n) k = nothing_taken (bound + 1)

      by_entry : (o : Option SortId) → slice_get os p ≡ Some o → AreTuplesOf ts (plain_tuples (list_at row.by_place.items p)) (take (bound + 1) (tuples_weighing V (arguments_at os p) (length tuples)))
      by_entry None e =
          subst (λ l. AreTuplesOf ts l (take (bound + 1) (tuples_weighing V (arguments_at os p) (length tuples)))) (sym (is.ends p e))
          (subst (λ ss. AreTuplesOf ts [] (take (bound + 1) (tuples_weighing V ss (length tuples)))) (sym (arguments_end os p e)) (subst (AreTuplesOf ts []) (sym (at_end (length tuples) some)) no_tuples))
      by_entry (Some a) e =
          let among = stands.arguments a (contains_read os p (Some a) e) in
          let behind = stands.ended p a e in
          let n = length tuples in
          let made =
          tuples_take ts (bound + 1) _ _
          (tuples_up_to ts (λ j. values_at values j a) (λ j. take (bound + 1) (V a j)) (λ j. plain_tuples (tuples_at tuples j (suc p))) (λ j. take (bound + 1) (tuples_weighing V (arguments_at os (suc p)) j)) n n (omega arith)
          (λ j some m. have j a (omega (arith, m, size)) among) (λ j m. lists j (suc p) m (omega (arith, behind)))) in
          subst (λ l. AreTuplesOf ts l (take (bound + 1) (tuples_weighing V (arguments_at os p) n))) (sym (is.others p a e))
          (subst (λ ss. AreTuplesOf ts (take (bound + 1) (weighing_up_to (λ id ids. id ∷ ids) (λ j. values_at values j a) (λ j. plain_tuples (tuples_at tuples j (suc p))) n n)) (take (bound + 1) (tuples_weighing V ss n))) (sym (arguments_begin os p a e))
          (subst (AreTuplesOf ts (take (bound + 1) (weighing_up_to (λ id ids. id ∷ ids) (λ j. values_at values j a) (λ j. plain_tuples (tuples_at tuples j (suc p))) n n))) (alike_weighing value_then (bound + 1) (V a) (tuples_weighing V (arguments_at os (suc p))) n n) made))

  pub tuples_more : (values : List ValueRow) (tuples : List TupleRow) (row : TupleRow) → length values ≡ length tuples + 1 → 0 < length tuples → HaveValues (shape_of g sh) sh.sorts.keys (bound + 1) ts values → HaveTuples (shape_of g sh) os (bound + 1) ts tuples
      → IsTupleRow os values tuples (length tuples) bound row → HaveTuples (shape_of g sh) os (bound + 1) ts (tuples ++ row ∷ [])
  tuples_more values tuples row size some have lists is w p l k =
      ⊎_elim
      (λ before. subst (λ o. AreTuplesOf ts (plain_tuples (option_map_or (λ (r : TupleRow). list_at r.by_place.items p) o [])) (take (bound + 1) (tuples_weighing (values_weighing (shape_of g sh)) (arguments_at os p) w))) (sym (row_before tuples row w before))
      (lists w p before k))
      (λ last. subst (λ n. AreTuplesOf ts (plain_tuples (tuples_at (tuples ++ row ∷ []) n p)) (take (bound + 1) (tuples_weighing (values_weighing (shape_of g sh)) (arguments_at os p) n))) (sym last)
      (subst (λ o. AreTuplesOf ts (plain_tuples (option_map_or (λ (r : TupleRow). list_at r.by_place.items p) o [])) (take (bound + 1) (tuples_weighing (values_weighing (shape_of g sh)) (arguments_at os p) (length tuples)))) (sym (row_last tuples row)) (tuples_next values tuples row size some have lists is p k)))
      (before_or_last w (length tuples) (let e = rows_length tuples row in omega (arith, l, e)))

  -- the level of weight 0
  pub first_tuples_right : (row : TupleRow) → IsFirstTupleRow os row → HaveTuples (shape_of g sh) os (bound + 1) ts (row ∷ [])
  unfolding tuples_weighing
  first_tuples_right row is (suc w) p l k = absurd (omega (arith, l))
  first_tuples_right row is zero p l k = by_entry (entry_at os p k).0 (entry_at os p k).1
    where
      V : SortId → ℕ → List ConstructorValue
      V = values_weighing (shape_of g sh)

      one_taken : (n : ℕ) → take (n + 1) (no_value ∷ []) ≡ no_value ∷ []
      one_taken n = ap (λ k. take k (no_value ∷ [])) (let e : n + 1 ≡ suc n = omega arith in e) ∙ ap (λ l. no_value ∷ l) (nothing_taken n)

      by_entry : (o : Option SortId) → slice_get os p ≡ Some o → AreTuplesOf ts (plain_tuples (list_at row.by_place.items p)) (take (bound + 1) (tuples_weighing V (arguments_at os p) 0))
      by_entry None e =
          subst (λ l. AreTuplesOf ts l (take (bound + 1) (tuples_weighing V (arguments_at os p) 0))) (sym (is.ends p e))
          (subst (λ ss. AreTuplesOf ts ([] ∷ []) (take (bound + 1) (tuples_weighing V ss 0))) (sym (arguments_end os p e)) (subst (AreTuplesOf ts ([] ∷ [])) (sym (one_taken bound)) (tuple_then empty no_tuples)))
      by_entry (Some a) e =
          subst (λ l. AreTuplesOf ts l (take (bound + 1) (tuples_weighing V (arguments_at os p) 0))) (sym (is.others p a e))
          (subst (λ ss. AreTuplesOf ts [] (take (bound + 1) (tuples_weighing V ss 0))) (sym (arguments_begin os p a e)) (subst (AreTuplesOf ts []) (sym (nothing_taken (bound + 1))) no_tuples))

pub first_values_right : (sh : Shape) (sorts : List SortId) (count : ℕ) (ts : List Tree) (row : ValueRow) → row.by_sort.items ≡ [] → HaveValues sh sorts count ts (row ∷ [])
first_values_right sh sorts count ts row e (suc w) s l among = absurd (omega (arith, l))
first_values_right sh sorts count ts row e zero s l among =
    subst (λ (ids : List TermId). AreTermsOf ts ids (take count (values_weighing sh s 0))) (ap (λ (vs : List (Vec TermId)). list_at vs s.0) (sym e)) (subst (AreTermsOf ts []) (sym (ap (take count) (no_light_values sh s) ∙ nothing_taken count)) no_terms)
