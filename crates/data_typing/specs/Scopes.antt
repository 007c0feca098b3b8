-- The variables in scope in code: where the innermost one of a name stands.
use Rattle.std.specs.Prelude.{◌≡◌, ◌<◌, ◌==◌, ℕ, suc, cond, List, [], ◌∷◌, ◌++◌, map, length, get_or, Option, Some, None}
use Rattle.std.specs.List.{All}
use Rattle.data_typing.specs.declared.scope.Bound.{Bound}
use Rattle.data_typing.specs.declared.scope.Entry.{Entry}

abbrev pub bounds_of : List Entry → List Bound
bounds_of es = map (λ (e : Entry). e.bound) es

-- the place of the last variable of a name among those that stand at this place and behind it, or else the one that was found before
abbrev pub place_behind : ℕ → ℕ → Option ℕ → List Bound → Option ℕ
place_behind n k o [] = o
place_behind n k o (b ∷ bs) = place_behind n (suc k) (cond (b.name.0 == n) (Some k) o) bs

abbrev pub last_place : ℕ → List Bound → Option ℕ
last_place n bs = place_behind n 0 None bs

-- each name's innermost variable is known, and each variable has the place of the one that it hides
pub record AreFound (es : List Entry) (innermost : List (Option ℕ)) : Type 0 where
  pub places : (n : ℕ) → get_or innermost n None ≡ last_place n (bounds_of es)
  pub within : All (λ (e : Entry). e.bound.name.0 < length innermost) es
  pub hidden : (front back : List Entry) (e : Entry) → es ≡ front ++ e ∷ back → e.hidden ≡ last_place e.bound.name.0 (bounds_of front)
