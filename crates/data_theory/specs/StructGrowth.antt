-- A `struct` lets a signature grow.
use Rattle.std.specs.Prelude.{List}
use Rattle.data_theory.specs.declared.ids.NameId.{NameId}
use Rattle.data_theory.specs.Structs.{Con}
use Rattle.data_theory.specs.Signature.{Sig, with_struct_sort}
use Rattle.data_theory.specs.IdTerms.{IsGrown}

abbrev pub WithAStructSortItIsGrown : Type 0
WithAStructSortItIsGrown = (g : Sig) (n : NameId) (cons : List Con) → IsGrown g (with_struct_sort g n cons)
