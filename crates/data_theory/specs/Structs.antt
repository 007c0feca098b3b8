-- What a structured sort declares.
use Rattle.std.specs.Prelude.{ℕ, ◌+◌, ◌<◌, IfSome, List, [], ◌∷◌, ◌++◌, Option, Some, None, false, length, map, option_map}
use Rattle.std.specs.List.{All, flat_map, range_with_len, sum_by}
use Rattle.data_theory.specs.declared.ids.NameId.{NameId}
use Rattle.data_theory.specs.declared.ids.SortId.{SortId}
use Rattle.data_theory.specs.declared.ids.FunId.{FunId}
use Rattle.data_theory.specs.declared.structs.ConDecl.{ConDecl}
use Rattle.data_theory.specs.Functions.{Function, declared_function}
use Rattle.data_theory.specs.Table.{bool_sort}

-- a constructor with its fields, which may have names, and its recogniser, if it has one
pub record Con : Type 0 where
  pub name : NameId
  pub fields : List (Option NameId × SortId)
  pub test : Option NameId

abbrev pub con_of : ConDecl → Con
con_of c = record { name = c.name; fields = c.fields.items; test = c.test }

abbrev pub cons_of : List ConDecl → List Con
cons_of cs = map con_of cs

-- a function of one argument, where it has a name
abbrev pub named_function : SortId → Option NameId → SortId → List Function
named_function s None to = []
named_function s (Some n) to = declared_function n (s ∷ []) to ∷ []

-- the projections of fields, and the recogniser of a constructor
abbrev pub projections_of : SortId → List (Option NameId × SortId) → List Function
projections_of s fields = flat_map (λ f. named_function s f.0 f.1) fields

abbrev pub recogniser_of : SortId → Con → List Function
recogniser_of s c = named_function s c.test bool_sort

abbrev pub all_projections : SortId → List Con → List Function
all_projections s cs = flat_map (λ c. projections_of s c.fields) cs

abbrev pub all_recognisers : SortId → List Con → List Function
all_recognisers s cs = flat_map (recogniser_of s) cs

-- how many names are there
abbrev pub count_of : Option NameId → ℕ
count_of None = 0
count_of (Some n) = 1

abbrev pub named_fields : List (Option NameId × SortId) → ℕ
named_fields fields = sum_by (λ f. count_of f.0) fields

-- the number of a function that comes next, where it has a name
abbrev pub number_of : ℕ → Option NameId → Option FunId
number_of k name = option_map (λ _. record { 0 = k }) name

-- the numbers of the projections of fields, from this one on
abbrev pub numbers_of : ℕ → List (Option NameId × SortId) → List (Option FunId)
numbers_of k [] = []
numbers_of k (f ∷ fields) = number_of k f.0 ∷ numbers_of (k + count_of f.0) fields

-- a constructor, whose projections and recogniser have the numbers from these on
abbrev pub constructor_of : SortId → ℕ → ℕ → Con → Function
constructor_of s p t c = record { name = c.name; sorts = map (λ f. f.1) c.fields; result = s; word = None; is_list_constant = false; projections = numbers_of p c.fields; test = number_of t c.test }

abbrev pub constructors_of : SortId → ℕ → ℕ → List Con → List Function
constructors_of s p t [] = []
constructors_of s p t (c ∷ cs) = constructor_of s p t c ∷ constructors_of s (p + named_fields c.fields) (t + count_of c.test) cs

-- the constructors, then the projections constructor by constructor, then the recognisers, behind so many functions
abbrev pub struct_functions : SortId → ℕ → List Con → List Function
struct_functions s n cs =
    let projections : List Function = all_projections s cs in
    constructors_of s (n + length cs) (n + length cs + length projections) cs ++ projections ++ all_recognisers s cs

-- so many numbers of functions, from one on
abbrev pub numbers_from : ℕ → ℕ → List FunId
numbers_from n k = map (λ i. record { 0 = i }) (range_with_len n k)

-- the ids in a constructor are below these numbers of texts and sorts
pub record IsConWithin (texts sorts : ℕ) (c : Con) : Type 0 where
  pub named : c.name.0 < texts
  pub over : All (λ f. (f.1.0 < sorts) × IfSome f.0 (λ n. n.0 < texts)) c.fields
  pub recognised : IfSome c.test (λ n. n.0 < texts)
