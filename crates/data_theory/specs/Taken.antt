-- The names that are taken.
use Rattle.std.specs.Prelude.{◌≡◌, ◌==◌, ℕ, List, [], ◌∷◌, ◌++◌, cond}
use Rattle.std.specs.List.{list_any}
use Rattle.data_theory.specs.declared.ids.NameId.{NameId}
use Rattle.data_theory.specs.Names.{places_in, with_texts}

-- with a name, where it isn't there
abbrev pub with_name : List NameId → NameId → List NameId
with_name ns n = cond (list_any (λ m. n.0 == m.0) ns) ns (ns ++ n ∷ [])

abbrev pub with_names : List NameId → List NameId → List NameId
with_names ns [] = ns
with_names ns (m ∷ ms) = with_names (with_name ns m) ms

-- texts are entered, and their names are taken
pub record Takes (texts : List (List ℕ)) (taken : List NameId) (ts : List (List ℕ)) (new_texts : List (List ℕ)) (new_taken : List NameId) : Type 0 where
  pub entered : new_texts ≡ with_texts texts ts
  pub named : new_taken ≡ with_names taken (places_in new_texts ts)
