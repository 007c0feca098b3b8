-- The sort of the stack in a signature.
use Rattle.std.specs.Prelude.{◌≡◌, ◌≢◌, ◌+◌, ℕ, List, [], ◌∷◌, ◌++◌, map, length, take, Option, Some, None, slice_get}
use Rattle.data_theory.specs.declared.ids.NameId.{NameId}
use Rattle.data_theory.specs.declared.ids.SortId.{SortId}
use Rattle.data_theory.specs.declared.ids.FunId.{FunId}
use Rattle.data_theory.specs.Sorts.{SortInfo, structured}
use Rattle.data_theory.specs.Functions.{Function}
use Rattle.data_theory.specs.Structs.{Con, numbers_from}
use Rattle.data_theory.specs.Table.{pos_sort}
use Rattle.data_theory.specs.Signature.{Sig, with_sort, with_struct_sort}
use Rattle.data_theory.specs.IdTables.{IsTable}
use Rattle.data_theory.specs.IdRoles.{AreRoles, declared_number}
use Rattle.data_theory.specs.IdSorts.{constructions}
use Rattle.data_theory.specs.IdData.{data_meant}
use Rattle.data_theory.specs.IdTerms.{sort_under}
use Rattle.process_terms.specs.Processes.{Bound}
use Rattle.bisim_laws.specs.LinearProcesses.{sorts}
use Rattle.stack_encoder.specs.StackEncoding.{StackSymbols, IsStack}

-- the ids of the sort and of its functions
pub record StackIds : Type 0 where
  pub sort : SortId
  pub push : FunId
  pub empty : FunId
  pub is_push : FunId
  pub pc : FunId
  pub fields : List FunId
  pub rest : FunId

-- their numbers in the data
abbrev pub symbols_meant : Sig → StackIds → StackSymbols
symbols_meant g i = record {
  names = record { sort = length (constructions (take i.sort.0 g.sorts)); push = declared_number g.functions i.push; empty = declared_number g.functions i.empty };
  is_push = declared_number g.functions i.is_push;
  pc = declared_number g.functions i.pc;
  fields = map (declared_number g.functions) i.fields;
  rest = declared_number g.functions i.rest;
}

-- the entries of the sort and of its constructors, over columns of these sorts
pub record StackStands (g : Sig) (i : StackIds) (columns : List SortId) : Type 0 where
  pub info : SortInfo
  pub sort_at : slice_get g.sorts i.sort.0 ≡ Some info
  pub kind : info.kind ≡ structured (i.push ∷ i.empty ∷ [])
  pub push : Function
  pub push_at : slice_get g.functions i.push.0 ≡ Some push
  pub push_sorts : push.sorts ≡ pos_sort ∷ (columns ++ i.sort ∷ [])
  pub push_projections : push.projections ≡ Some i.pc ∷ (map Some i.fields ++ Some i.rest ∷ [])
  pub push_test : push.test ≡ Some i.is_push
  pub empty : Function
  pub empty_at : slice_get g.functions i.empty.0 ≡ Some empty
  pub empty_sorts : empty.sorts ≡ []
  pub long : length i.fields ≡ length columns
  pub differ : i.empty.0 ≢ i.push.0

-- where they stand, the data have the sort of the stack
abbrev pub StandingStackIsAStack : Type 0
StandingStackIsAStack =
    (g : Sig) (i : StackIds) (columns : List SortId) (xs : List Bound) → IsTable g → AreRoles g → StackStands g i columns → sorts xs ≡ map (sort_under g) columns → IsStack (data_meant g) (symbols_meant g i) xs

-- ---- what is declared
-- the constructors, with names for the number, for each column's field, for the rest and for the recogniser
abbrev pub named_field : NameId × SortId → Option NameId × SortId
named_field f = (Some f.0, f.1)

abbrev pub push_declared : NameId → NameId → List (NameId × SortId) → NameId → NameId → SortId → Con
push_declared name pc fields rest test sort = record { name = name; fields = (Some pc, pos_sort) ∷ (map named_field fields ++ (Some rest, sort) ∷ []); test = Some test }

abbrev pub empty_declared : NameId → Con
empty_declared name = record { name = name; fields = []; test = None }

-- the ids that these get, behind so many sorts and functions
abbrev pub ids_behind : ℕ → ℕ → ℕ → StackIds
ids_behind d n columns = record {
  sort = record { 0 = d };
  push = record { 0 = n };
  empty = record { 0 = n + 1 };
  is_push = record { 0 = n + 4 + columns };
  pc = record { 0 = n + 2 };
  fields = numbers_from (n + 3) columns;
  rest = record { 0 = n + 3 + columns };
}

abbrev pub DeclaredStackStands : Type 0
DeclaredStackStands =
    (g : Sig) (name push pc rest test empty : NameId) (fields : List (NameId × SortId))
    → StackStands (with_struct_sort g name (push_declared push pc fields rest test (record { 0 = length g.sorts }) ∷ empty_declared empty ∷ [])) (ids_behind (length g.sorts) (length (with_sort g name).functions) (length fields)) (map (λ f. f.1) fields)
