-- Which calls let a signature grow.
use Rattle.std.specs.Prelude.{ℕ, List}
use Rattle.data_theory.specs.declared.ids.NameId.{NameId}
use Rattle.data_theory.specs.declared.ids.SortId.{SortId}
use Rattle.data_theory.specs.declared.signature.Variable.{Variable}
use Rattle.data_theory.specs.Functions.{Function}
use Rattle.data_theory.specs.Signature.{Sig, with_taken, with_variable, with_function, with_alias, with_sort, with_list, with_action}
use Rattle.data_theory.specs.IdTerms.{IsGrown}

abbrev pub WithATextItIsGrown : Type 0
WithATextItIsGrown = (g : Sig) (t : List ℕ) → IsGrown g (with_taken g t)

abbrev pub WithAnActionItIsGrown : Type 0
WithAnActionItIsGrown = (g : Sig) (t : List ℕ) (sorts : List SortId) → IsGrown g (with_action g t sorts)

abbrev pub WithAVariableItIsGrown : Type 0
WithAVariableItIsGrown = (g : Sig) (v : Variable) → IsGrown g (with_variable g v)

abbrev pub WithAnAliasItIsGrown : Type 0
WithAnAliasItIsGrown = (g : Sig) (n : NameId) (s : SortId) → IsGrown g (with_alias g n s)

abbrev pub WithAFunctionItIsGrown : Type 0
WithAFunctionItIsGrown = (g : Sig) (f : Function) → IsGrown g (with_function g f)

abbrev pub WithASortItIsGrown : Type 0
WithASortItIsGrown = (g : Sig) (n : NameId) → IsGrown g (with_sort g n)

abbrev pub WithAListSortItIsGrown : Type 0
WithAListSortItIsGrown = (g : Sig) (e : SortId) → IsGrown g (with_list g e)

-- growth after growth
abbrev pub GrowthAfterGrowthIsGrowth : Type 0
GrowthAfterGrowthIsGrowth = (g h k : Sig) → IsGrown g h → IsGrown h k → IsGrown g k
