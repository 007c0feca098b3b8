-- A signature: what stands under each number.
use Rattle.std.specs.Prelude.{◌≡◌, ℕ, List, [], ◌∷◌, ◌++◌, length, Some, map, slice_get}
use Rattle.std.specs.List.{Contains}
use Rattle.data_theory.specs.declared.ids.NameId.{NameId}
use Rattle.data_theory.specs.declared.ids.SortId.{SortId}
use Rattle.data_theory.specs.declared.ids.FunId.{FunId}
use Rattle.data_theory.specs.declared.signature.Variable.{Variable}
use Rattle.data_theory.specs.Keys.{Key, key}
use Rattle.data_theory.specs.Functions.{Function, AreNew}
use Rattle.data_theory.specs.Sorts.{SortInfo, by_declarations, structured, with_kind, first_sorts, abstract_sort, list_sort}
use Rattle.data_theory.specs.Names.{place_in, places_in, with_text, with_texts}
use Rattle.data_theory.specs.Taken.{with_name, with_names}
use Rattle.data_theory.specs.Rows.{built_ins}
use Rattle.data_theory.specs.Table.{first_table, sort_rows, list_table}
use Rattle.data_theory.specs.Structs.{Con, struct_functions, numbers_from}
use Rattle.data_theory.specs.FirstNames.{first_names}

pub record Sig : Type 0 where
  -- the table of texts
  pub texts : List (List ℕ)
  -- the names that are taken
  pub taken : List NameId
  pub sorts : List SortInfo
  -- the names and aliases of the declared sorts
  pub sort_names : List (NameId × SortId)
  pub functions : List Function
  -- the declared ones among them
  pub declared : List FunId
  pub actions : List Key
  pub variables : List Variable

-- a signature of built-in sorts and functions alone, over given texts with those that are taken from the start
unfoldable pub first_signature : List (List ℕ) → Sig
first_signature given =
    let texts : List (List ℕ) = with_texts given first_names in
    record {
      texts = texts;
      taken = with_names [] (places_in texts first_names);
      sorts = first_sorts;
      sort_names = [];
      functions = built_ins texts first_table;
      declared = [];
      actions = [];
      variables = [];
    }

-- the function with this number has this name, and is found by these sorts
abbrev pub IsFunAmong : List Function → List (List ℕ) → List ℕ → List SortId → ℕ → Type 0
IsFunAmong fs texts t sorts k = (f : Function) × (slice_get fs k ≡ Some f) × (slice_get texts f.name.0 ≡ Some t) × (f.sorts ≡ sorts)

abbrev pub IsFun : Sig → List ℕ → List SortId → ℕ → Type 0
IsFun s = IsFunAmong s.functions s.texts

-- a text has a name that is taken
abbrev pub IsTakenAmong : List (List ℕ) → List NameId → List ℕ → Type 0
IsTakenAmong texts taken t = (n : NameId) × (slice_get texts n.0 ≡ Some t) × Contains taken n

abbrev pub IsTaken : Sig → List ℕ → Type 0
IsTaken s = IsTakenAmong s.texts s.taken

-- with a text, whose name is taken
abbrev pub with_taken : Sig → List ℕ → Sig
with_taken s t = record s { texts = with_text s.texts t; taken = with_name s.taken (place_in (with_text s.texts t) t) }

abbrev pub with_variable : Sig → Variable → Sig
with_variable s v = record s { variables = s.variables ++ v ∷ [] }

-- with a declared function, whose name is taken
abbrev pub with_function : Sig → Function → Sig
with_function s f = record s { functions = s.functions ++ f ∷ []; declared = s.declared ++ record { 0 = length s.functions } ∷ []; taken = with_name s.taken f.name }

-- with a further name of a sort, which is taken
abbrev pub with_alias : Sig → NameId → SortId → Sig
with_alias s n sort = record s { sort_names = s.sort_names ++ (n, sort) ∷ []; taken = with_name s.taken n }

-- with a declared sort without constructors, the functions over it, and its name, which is taken
abbrev pub with_sort : Sig → NameId → Sig
with_sort s n =
    let sort : SortId = record { 0 = length s.sorts } in
    record s { sorts = s.sorts ++ abstract_sort n ∷ []; sort_names = s.sort_names ++ (n, sort) ∷ []; functions = s.functions ++ built_ins s.texts (sort_rows sort); taken = with_name s.taken n }

-- with a list sort, and the functions over it
abbrev pub with_list : Sig → SortId → Sig
with_list s e = record s { sorts = s.sorts ++ list_sort e ∷ []; functions = s.functions ++ built_ins s.texts (list_table e (record { 0 = length s.sorts })) }

-- with constructors of a sort, which are declared functions
abbrev pub with_constructors : Sig → SortId → List FunId → Sig
with_constructors s sort cons = record s { sorts = with_kind s.sorts sort.0 (by_declarations cons) }

-- there is an action with this name and these sorts
abbrev pub IsAct : Sig → List ℕ → List SortId → Type 0
IsAct s t sorts = (n : NameId) × (slice_get s.texts n.0 ≡ Some t) × Contains s.actions (key n sorts)

-- with an action, whose name is entered
abbrev pub with_action : Sig → List ℕ → List SortId → Sig
with_action s t sorts = record s { texts = with_text s.texts t; actions = s.actions ++ key (place_in (with_text s.texts t) t) sorts ∷ [] }

-- with what a struct declares of a sort, of which all names are taken
abbrev pub with_struct : Sig → SortId → List Con → Sig
with_struct s sort cs =
    let n : ℕ = length s.functions in
    let fs : List Function = struct_functions sort n cs in
    record s { sorts = with_kind s.sorts sort.0 (structured (numbers_from n (length cs))); functions = s.functions ++ fs; declared = s.declared ++ numbers_from n (length fs); taken = with_names s.taken (map (λ f. f.name) fs) }

-- with a sort that is a struct
abbrev pub with_struct_sort : Sig → NameId → List Con → Sig
with_struct_sort s n cs = with_struct (with_sort s n) (record { 0 = length s.sorts }) cs

-- no function has a key that such a struct declares, and it declares no key twice
abbrev pub IsNewStruct : Sig → NameId → List Con → Type 0
IsNewStruct s n cs = let fs : List Function = (with_sort s n).functions in AreNew fs (struct_functions (record { 0 = length s.sorts }) (length fs) cs)
