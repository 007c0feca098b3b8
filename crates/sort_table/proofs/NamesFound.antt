-- The sort of a name, as the vocabulary of a signature has it.
use Rattle.std.proofs.Common.{◌≡◌, ◌<◌, ℕ, zero, suc, Bool, true, false, cond, List, [], ◌∷◌, length, map, refl, ap, sym, ◌∙◌}
use Rattle.std.specs.Prelude.{Some, None, bytes_eq, slice_get}
use Rattle.std.specs.List.{All}
use Rattle.std.proofs.lemmas.Option.{slice_get-get_or}
use Rattle.std.proofs.lemmas.List.Elements.{All-head, All-tail}
use Rattle.std.proofs.lemmas.Slice.Eq.{bytes_eq-Decides}
use Rattle.data_theory.specs.declared.ids.NameId.{NameId}
use Rattle.data_theory.specs.declared.ids.SortId.{SortId}
use Rattle.data_theory.specs.Places.{HaveOnePlace}
use Rattle.data_theory.specs.SortNames.{IsName, IsSortName}
use Rattle.data_theory.specs.Signature.{Sig}
use Rattle.data_theory.specs.IdTerms.{sort_under}
use Rattle.data_theory.specs.WholeSignatures.{IsSignature}
use Rattle.data_theory.proofs.PlaceLemmas.{contains_read, read_contained}
use Rattle.sort_table.specs.NamedLists.{first_named}
use Rattle.sort_table.specs.SignatureVocabularies.{text_under, sort_name_under}

abbrev Entry : Type 0
Entry = NameId × SortId

abbrev name_of : Entry → NameId
name_of e = e.0

abbrev IsNameWithin : Sig → Entry → Type 0
IsNameWithin g e = (e.0.0 < length g.texts) × (e.1.0 < length g.sorts)

same_name : (a b : NameId) → a.0 ≡ b.0 → a ≡ b
same_name a b e = ap numbered e
  where
    numbered : ℕ → NameId
    numbered n = record { 0 = n }

-- names with one text are one
one_name : (g : Sig) → IsSignature g → (a b : NameId) → a.0 < length g.texts → b.0 < length g.texts → text_under g a ≡ text_under g b → a ≡ b
one_name g stands a b l m same = same_name a b (stands.table.different a.0 b.0 (text_under g a) (slice_get-get_or g.texts a.0 [] l) (slice_get-get_or g.texts b.0 [] m ∙ ap Some (sym same)))

module _ (g : Sig) (stands : IsSignature g) (n : NameId) (within : n.0 < length g.texts) where
  found_in : (es : List Entry) → All (IsNameWithin g) es → HaveOnePlace (map name_of es) → (s : SortId) → (k : ℕ) → slice_get es k ≡ Some (n, s) → first_named (text_under g n) (map (sort_name_under g) es) ≡ Some (sort_under g s)
  found_in [] all once s k at = cc
  found_in (e ∷ es) all once s zero at =
      let here : e ≡ (n, s) = cc in
      let name : text_under g e.0 ≡ text_under g n = ap (λ (x : Entry). text_under g x.0) here in
      let value : Some (sort_under g e.1) ≡ Some (sort_under g s) = ap (λ (x : Entry). Some (sort_under g x.1)) here in
      ap (λ b. cond b (Some (sort_under g e.1)) (first_named (text_under g n) (map (sort_name_under g) es))) ((bytes_eq-Decides (text_under g e.0) (text_under g n)).1 name) ∙ value
  found_in (e ∷ es) all once s (suc k) at =
      by_test (bytes_eq (text_under g e.0) (text_under g n)) refl (found_in es (All-tail (IsNameWithin g) e es all) (λ i j u p q. (let z : suc i ≡ suc j = once (suc i) (suc j) u p q in cc)) s k at)
    where
      by_test : (b : Bool) → bytes_eq (text_under g e.0) (text_under g n) ≡ b → first_named (text_under g n) (map (sort_name_under g) es) ≡ Some (sort_under g s) → cond b (Some (sort_under g e.1)) (first_named (text_under g n) (map (sort_name_under g) es)) ≡ Some (sort_under g s)
      by_test false told later = later
      by_test true told later =
          let name : e.0 ≡ n = one_name g stands e.0 n (All-head (IsNameWithin g) e es all).0 within ((bytes_eq-Decides (text_under g e.0) (text_under g n)).0 told) in
          let wrong : 0 ≡ suc k = once 0 (suc k) n (ap Some name) (read_name es k at) in
          cc
        where
          read_name : (xs : List Entry) (i : ℕ) → slice_get xs i ≡ Some (n, s) → slice_get (map name_of xs) i ≡ Some n
          read_name [] i p = cc
          read_name (x ∷ xs) zero p = let same : x ≡ (n, s) = cc in ap (λ (y : Entry). Some y.0) same
          read_name (x ∷ xs) (suc i) p = read_name xs i p

  -- a name of the signature has its sort in the vocabulary
  pub name_found : (s : SortId) → IsSortName g.sort_names n s → first_named (text_under g n) (map (sort_name_under g) g.sort_names) ≡ Some (sort_under g s)
  name_found s is = let place = read_contained g.sort_names (n, s) is in found_in g.sort_names stands.complete.within.sort_names stands.sort_names_differ s place.0 place.1

  absent_in : (es : List Entry) → All (IsNameWithin g) es → ((k : ℕ) (s : SortId) → slice_get es k ≡ Some (n, s) → ⊥) → first_named (text_under g n) (map (sort_name_under g) es) ≡ None
  absent_in [] all never = refl
  absent_in (e ∷ es) all never = by_test (bytes_eq (text_under g e.0) (text_under g n)) refl (absent_in es (All-tail (IsNameWithin g) e es all) (λ k s at. never (suc k) s at))
    where
      by_test : (b : Bool) → bytes_eq (text_under g e.0) (text_under g n) ≡ b → first_named (text_under g n) (map (sort_name_under g) es) ≡ None → cond b (Some (sort_under g e.1)) (first_named (text_under g n) (map (sort_name_under g) es)) ≡ None
      by_test false told later = later
      by_test true told later =
          let name : e.0 ≡ n = one_name g stands e.0 n (All-head (IsNameWithin g) e es all).0 within ((bytes_eq-Decides (text_under g e.0) (text_under g n)).0 told) in
          absurd (never 0 e.1 (ap (λ (m : NameId). Some (m, e.1)) name))

  -- what is no name of the signature has none
  pub name_absent : ¬ (IsName g.sort_names n) → first_named (text_under g n) (map (sort_name_under g) g.sort_names) ≡ None
  name_absent never = absent_in g.sort_names stands.complete.within.sort_names (λ k s at. never (s, contains_read g.sort_names k (n, s) at))
