-- A table of texts, which are the lists of their bytes.
use Rattle.std.specs.Prelude.{◌≡◌, ◌⊎◌, ℕ, List, [], ◌∷◌, ◌++◌, suc, Some, slice_get, cond, bytes_eq, map}
use Rattle.std.specs.List.{Contains, list_any}
use Rattle.data_theory.specs.declared.ids.NameId.{NameId}

-- a text stands at one place at most
abbrev pub AreDifferent : List (List ℕ) → Type 0
AreDifferent texts = (i j : ℕ) (text : List ℕ) → slice_get texts i ≡ Some text → slice_get texts j ≡ Some text → i ≡ j

-- the table stays where it has the text, and else has it behind the others
abbrev pub Enters : List (List ℕ) → List ℕ → List (List ℕ) → Type 0
Enters old text new = (Contains old text × (new ≡ old)) ⊎ ((¬ (Contains old text)) × (new ≡ old ++ text ∷ []))

-- with a text, behind the others where it isn't there
abbrev pub with_text : List (List ℕ) → List ℕ → List (List ℕ)
with_text texts t = cond (list_any (bytes_eq t) texts) texts (texts ++ t ∷ [])

abbrev pub with_texts : List (List ℕ) → List (List ℕ) → List (List ℕ)
with_texts texts [] = texts
with_texts texts (t ∷ ts) = with_texts (with_text texts t) ts

-- the first place of a text in the table of texts
abbrev pub first_place : List (List ℕ) → List ℕ → ℕ
first_place [] t = 0
first_place (x ∷ xs) t = cond (bytes_eq t x) 0 (suc (first_place xs t))

abbrev pub place_in : List (List ℕ) → List ℕ → NameId
place_in texts t = record { 0 = first_place texts t }

abbrev pub places_in : List (List ℕ) → List (List ℕ) → List NameId
places_in texts ts = map (place_in texts) ts
