-- Indexes that find the place of each entry of a table.
use Rattle.std.proofs.Common.{◌≡◌, ℕ, ◌⊎◌, inl, inr, List, [], ◌∷◌, ◌++◌, take, length, get_or, map, ◌<◌, Bool, true, false, cond, Option, Some, None, Global, String, refl, sym, ap, ◌∙◌, subst}
use Rattle.std.specs.Prelude.{slice_get, option_map}
use Rattle.std.specs.List.{Contains}
use Rattle.std.specs.Str.{bytes_eq}
use Rattle.std.specs.String.{string_bytes, string_cmp}
use Rattle.std.specs.BTreeMap.{BTreeMap, Updates, get_by_text}
use Rattle.std.proofs.lemmas.Slice.Eq.{bytes_eq-Decides}
use Rattle.std.proofs.lemmas.Option.{slice_get-map, slice_get-get_or}
use Rattle.std.proofs.lemmas.Map.Text.{btree_map_updates_text}
use Rattle.data_theory.specs.Places.{HaveOnePlace, KnowsPlaces}
use Rattle.data_theory.proofs.PlaceLemmas.{read_contained, contains_read, pushed_by_place, read_taken}

module _ {A : Type 0} (find : A → Option ℕ) (xs : List A) (knows : KnowsPlaces find xs) where
  -- no entry stands at two places
  pub known_once : HaveOnePlace xs
  known_once i j x p q = let same : Some i ≡ Some j = sym (knows i x p) ∙ knows j x q in cc

  -- what the index doesn't find isn't there
  pub unknown : (x : A) → find x ≡ None → Contains xs x → ⊥
  unknown x e c =
      let h = read_contained xs x c in
      let never : None ≡ Some h.0 = sym e ∙ knows h.0 x h.1 in cc

  -- nor is what doesn't stand where the index says
  pub not_there : (x : A) (n : ℕ) → find x ≡ Some n → (slice_get xs n ≡ Some x → ⊥) → Contains xs x → ⊥
  not_there x n e free c =
      let h = read_contained xs x c in
      let same : Some n ≡ Some h.0 = sym e ∙ knows h.0 x h.1 in
      let place : h.0 ≡ n = cc in
      free (subst (λ i. slice_get xs i ≡ Some x) place h.1)

  pub known_of_fewer : (n : ℕ) → KnowsPlaces find (take n xs)
  known_of_fewer n i x p = knows i x (read_taken n xs i x p).1

  -- an index that finds something else at one that isn't there alone
  module _ (new : A → Option ℕ) (x : A) (absent : Contains xs x → ⊥) (others : (y : A) → (x ≡ y → ⊥) → new y ≡ find y) where
    pub known_still : KnowsPlaces new xs
    known_still i y p = others y (λ e. absent (subst (Contains xs) (sym e) (contains_read xs i y p))) ∙ knows i y p

    pub known_with : new x ≡ Some (length xs) → KnowsPlaces new (xs ++ x ∷ [])
    known_with here i y p = by_place (pushed_by_place xs x y i p)
      where
        by_place : (slice_get xs i ≡ Some y) ⊎ ((i ≡ length xs) × (x ≡ y)) → new y ≡ Some i
        by_place (inl q) = known_still i y q
        by_place (inr q) = ap new (sym q.1) ∙ here ∙ ap Some (sym q.0)

-- ---- the text at a place
pub text_at : (texts : List (String Global)) (i : ℕ) (s : String Global) → i < length texts → s ≡ get_or texts i s → slice_get (map string_bytes texts) i ≡ Some (string_bytes s)
text_at texts i s l e = slice_get-map string_bytes texts i ∙ ap (option_map string_bytes) (slice_get-get_or texts i s l) ∙ ap (λ (u : String Global). Some (string_bytes u)) (sym e)

-- ---- an index of texts, after a text was put in
module _ (m n : BTreeMap (String Global) ℕ) (k : String Global) (w : Option ℕ) (updates : Updates string_cmp m n k w) (t : List ℕ) (is : string_bytes k ≡ t) where
  after : (u : List ℕ) → get_by_text n u ≡ cond (bytes_eq t u) w (get_by_text m u)
  after u = subst (λ s. get_by_text n u ≡ cond (bytes_eq s u) w (get_by_text m u)) is (btree_map_updates_text (string_bytes k) m n w updates u)

  pub text_put : get_by_text n t ≡ w
  text_put = after t ∙ ap (λ b. cond b w (get_by_text m t)) ((bytes_eq-Decides t t).1 refl)

  pub other_texts : (u : List ℕ) → (t ≡ u → ⊥) → get_by_text n u ≡ get_by_text m u
  other_texts u ne = after u ∙ ap (λ b. cond b w (get_by_text m u)) (differs (bytes_eq t u) refl)
    where
      differs : (b : Bool) → bytes_eq t u ≡ b → b ≡ false
      differs true e = absurd (ne ((bytes_eq-Decides t u).0 e))
      differs false e = refl
