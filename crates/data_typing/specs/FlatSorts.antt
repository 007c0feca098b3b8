-- What sorts in code mean.
use Rattle.std.specs.Prelude.{ℕ, zero, suc}
use Rattle.data_typing.specs.declared.flat_sorts.Base.{Base}
use Rattle.data_typing.specs.declared.flat_sorts.Base.TheVariants as bases
use Rattle.data_typing.specs.declared.flat_sorts.FlatSort.{FlatSort}
use Rattle.data_typing.specs.declared.flat_sorts.SortPlace.{SortPlace}
use Rattle.data_typing.specs.declared.flat_sorts.SortPlace.TheVariants as places
use Rattle.data_theory.specs.Terms.{Sort, boolean, positive, natural, integer, list, named}
use Rattle.data_typing.specs.Typings.{Place, itself, elements, settled}

abbrev pub base_sort : Base → Sort
base_sort bases.Bool = boolean
base_sort bases.Pos = positive
base_sort bases.Nat = natural
base_sort bases.Int = integer
base_sort (bases.Named d) = named d

abbrev pub lists : ℕ → Sort → Sort
lists zero s = s
lists (suc n) s = list (lists n s)

abbrev pub flat_sort : FlatSort → Sort
flat_sort f = lists f.depth (base_sort f.base)

abbrev pub place_of : SortPlace → Place
place_of places.Itself = itself
place_of places.Elements = elements
place_of (places.Settled s) = settled (flat_sort s)
