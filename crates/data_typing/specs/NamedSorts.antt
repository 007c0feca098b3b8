-- The numbers of declared sorts.
use Rattle.std.specs.Prelude.{◌≡◌, ◌<◌, ◌+◌, ℕ, List, [], ◌∷◌, map, length, take, drop}
use Rattle.data_theory.specs.declared.ids.SortId.{SortId}
use Rattle.data_theory.specs.Terms.{named}
use Rattle.data_theory.specs.Signature.{Sig}
use Rattle.data_theory.specs.IdSorts.{constructions, meanings_behind}
use Rattle.data_theory.specs.IdTerms.{sort_under}
use Rattle.data_typing.specs.declared.flat_sorts.FlatSort.{FlatSort}
use Rattle.data_typing.specs.FlatSorts.{flat_sort}

-- sorts with these numbers are the declared ones from this one on
abbrev pub AreNamedFrom : Sig → ℕ → List SortId → Type 0
AreNamedFrom g d [] = Unit {0}
AreNamedFrom g d (s ∷ ss) = ((s.0 < length g.sorts) × (sort_under g s ≡ named d)) × AreNamedFrom g (d + 1) ss

unfoldable pub AreNamedSorts : Sig → List SortId → Type 0
AreNamedSorts g ss = AreNamedFrom g 0 ss

-- what the first sorts of a signature are, and the numbers of the declared ones among these
pub record AreFrontOf (g : Sig) (n : ℕ) (fs : List FlatSort) (ds : List SortId) : Type 0 where
  pub many : length fs ≡ n
  pub flats : meanings_behind [] 0 g.sorts ≡ meanings_behind (map flat_sort fs) (length ds) (drop n g.sorts)
  pub declared : AreNamedSorts g ds
  pub count : length ds ≡ length (constructions (take n g.sorts))
