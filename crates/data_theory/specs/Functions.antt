-- The functions of a signature.
use Rattle.std.specs.Prelude.{◌≡◌, ℕ, Bool, false, [], cond, List, Option, map, Some, None, slice_get}
use Rattle.std.specs.List.{All}
use Rattle.data_theory.specs.declared.ids.NameId.{NameId}
use Rattle.data_theory.specs.declared.ids.SortId.{SortId}
use Rattle.data_theory.specs.declared.ids.FunId.{FunId}
use Rattle.data_theory.specs.declared.words.Word.{Word}
use Rattle.data_theory.specs.declared.functions.FunEntry.{FunEntry}
use Rattle.data_theory.specs.Keys.{Key, key}
use Rattle.data_theory.specs.Places.{HaveOnePlace}

-- A function with the sorts by which it is found: its arguments' sorts, and for `[]` its list sort. A built-in function has
-- its word. The constructor of a `struct` has for each field its projection, if there is one, and may have a recogniser.
pub record Function : Type 0 where
  pub name : NameId
  pub sorts : List SortId
  pub result : SortId
  pub word : Option Word
  pub is_list_constant : Bool
  pub projections : List (Option FunId)
  pub test : Option FunId

abbrev pub function_of : FunEntry → Function
function_of f = record { name = f.name; sorts = f.sorts.items; result = f.to; word = f.word; is_list_constant = f.is_list_constant; projections = f.projections.items; test = f.test }

abbrev pub functions_of : List FunEntry → List Function
functions_of fs = map function_of fs

abbrev pub key_of : Function → Key
key_of f = key f.name f.sorts

-- the function with this number is found by this key
abbrev pub HasKey : List Function → Key → ℕ → Type 0
HasKey fs k n = (f : Function) × (slice_get fs n ≡ Some f) × (key_of f ≡ k)

-- the sorts of its arguments
abbrev pub arguments_of : Function → List SortId
arguments_of f = cond f.is_list_constant [] f.sorts

-- no two of the functions are found by one key, and none by the key of an old one
pub record AreNew (old added : List Function) : Type 0 where
  pub different : HaveOnePlace (map key_of added)
  pub absent : All (λ f. (k : ℕ) → HasKey old (key_of f) k → ⊥) added

-- a function that was declared
abbrev pub declared_function : NameId → List SortId → SortId → Function
declared_function n args to = record { name = n; sorts = args; result = to; word = None; is_list_constant = false; projections = []; test = None }
