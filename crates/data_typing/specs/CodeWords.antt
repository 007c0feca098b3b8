-- What words mean over a signature and the variables in scope in code.
use Rattle.std.specs.Prelude.{◌≡◌, ◌==◌, Bool, true, false, cond, List, [], ◌∷◌, map, get_or, slice_get, Option, Some, None}
use Rattle.data_theory.specs.declared.ids.NameId.{NameId}
use Rattle.data_theory.specs.declared.ids.FunId.{FunId}
use Rattle.data_theory.specs.Terms.{Sort, boolean}
use Rattle.data_theory.specs.Functions.{Function, arguments_of}
use Rattle.data_theory.specs.Signature.{Sig}
use Rattle.data_theory.specs.IdSorts.{meanings_behind}
use Rattle.data_theory.specs.IdTerms.{sort_under, symbol_under}
use Rattle.sort_table.specs.Expressions.{Name}
use Rattle.sort_table.specs.SignatureVocabularies.{vocabulary_of}
use Rattle.data_typing.specs.declared.flat_sorts.FlatSort.{FlatSort}
use Rattle.data_typing.specs.declared.scope.Bound as code
use Rattle.data_typing.specs.Typings.{Signature, Typing, Meaning}
use Rattle.data_typing.specs.Meanings.{Bound, Scope, meaning}
use Rattle.data_typing.specs.FlatSorts.{flat_sort}

-- the flat sorts of the signature's sorts, by their numbers
abbrev pub AreFlat : Sig → List FlatSort → Type 0
AreFlat g flats = map flat_sort flats ≡ meanings_behind [] 0 g.sorts

abbrev pub bound_of : List Name → code.Bound → Bound
bound_of texts b = record { name = get_or texts b.name.0 []; number = b.var.0; sort = flat_sort b.sort }

-- variables in code behind a scope; the innermost one stands last in code and first in the scope
abbrev pub scope_behind : List Name → Scope → List code.Bound → Scope
scope_behind texts scope [] = scope
scope_behind texts scope (b ∷ bs) = scope_behind texts (bound_of texts b ∷ scope) bs

abbrev pub scope_of : List Name → List code.Bound → Scope
scope_of texts bs = scope_behind texts [] bs

-- the last variable of a name, or else the one that was found before
abbrev pub found_behind : NameId → Option code.Bound → List code.Bound → Option code.Bound
found_behind n o [] = o
found_behind n o (b ∷ bs) = found_behind n (cond (b.name.0 == n.0) (Some b) o) bs

-- what words mean by the vocabulary of a signature
abbrev pub meaning_in : Sig → List code.Bound → Name → Meaning
meaning_in g bs = meaning (vocabulary_of g) (scope_of g.texts bs)

-- the signature of a function by its number
abbrev pub sorts_of_function : Sig → Option Function → List Sort
sorts_of_function g None = []
sorts_of_function g (Some f) = map (sort_under g) (arguments_of f)

abbrev pub result_of_function : Sig → Option Function → Sort
result_of_function g None = boolean
result_of_function g (Some f) = sort_under g f.result

abbrev pub fun_signature : Sig → FunId → Signature
fun_signature g i = record { symbol = symbol_under g i; arguments = sorts_of_function g (slice_get g.functions i.0); result = result_of_function g (slice_get g.functions i.0) }

-- whether there are no arguments
abbrev pub is_empty_list : List Typing → Bool
is_empty_list [] = true
is_empty_list (t ∷ ts) = false

abbrev pub IsAlone : Bool → List Typing → Type 0
IsAlone alone ts = alone ≡ is_empty_list ts
