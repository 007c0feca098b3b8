-- What keeps the tables of a signature.
use Rattle.std.specs.Prelude.{◌≡◌, ◌<◌, ◌⊎◌, ℕ, List, [], ◌∷◌, ◌++◌, length}
use Rattle.std.specs.List.{All}
use Rattle.data_theory.specs.declared.ids.NameId.{NameId}
use Rattle.data_theory.specs.declared.ids.SortId.{SortId}
use Rattle.data_theory.specs.declared.rows.Row.{Row}
use Rattle.data_theory.specs.declared.signature.Variable.{Variable}
use Rattle.data_theory.specs.Names.{AreDifferent}
use Rattle.data_theory.specs.Keys.{key}
use Rattle.data_theory.specs.Sorts.{Kind, SortInfo, lists_over, IsBare, with_kind, IsAnyListOver}
use Rattle.data_theory.specs.Functions.{HasKey, AreNew, declared_function}
use Rattle.data_theory.specs.Rows.{built_ins, AreNamed}
use Rattle.data_theory.specs.Structs.{Con, IsConWithin, struct_functions}
use Rattle.data_theory.specs.Signature.{Sig, first_signature, with_taken, with_variable, with_function, with_alias, with_sort, with_list, with_struct, with_action}
use Rattle.data_theory.specs.Complete.{IsComplete}
use Rattle.data_theory.specs.IdSorts.{IsDeclaredKind}
use Rattle.data_theory.specs.IdTables.{IsRow, IsTable}

-- a signature holds them from the start
abbrev pub TheFirstSignatureIsATable : Type 0
TheFirstSignatureIsATable = (given : List (List ℕ)) → AreDifferent given → IsTable (first_signature given)

-- ---- what is added
abbrev pub TextsKeepTheTables : Type 0
TextsKeepTheTables = (g : Sig) (t : List ℕ) → IsTable g → IsTable (with_taken g t)

abbrev pub ActionsKeepTheTables : Type 0
ActionsKeepTheTables = (g : Sig) (t : List ℕ) (sorts : List SortId) → IsTable g → IsTable (with_action g t sorts)

abbrev pub VariablesKeepTheTables : Type 0
VariablesKeepTheTables = (g : Sig) (v : Variable) → IsTable g → IsTable (with_variable g v)

abbrev pub AliasesKeepTheTables : Type 0
AliasesKeepTheTables = (g : Sig) (n : NameId) (s : SortId) → IsTable g → IsTable (with_alias g n s)

abbrev pub FunctionsKeepTheTables : Type 0
FunctionsKeepTheTables =
    (g : Sig) (n : NameId) (args : List SortId) (to : SortId) → IsTable g → All (λ (s : SortId). s.0 < length g.sorts) args → to.0 < length g.sorts
    → ((k : ℕ) → HasKey g.functions (key n args) k → ⊥) → IsTable (with_function g (declared_function n args to))

-- a sort is declared, or it is the list sort over one that has none
abbrev pub IsNewSort : List SortInfo → SortInfo → Type 0
IsNewSort ss s = IsDeclaredKind s.kind ⊎ ((e : SortId) × (s.kind ≡ lists_over e) × (e.0 < length ss) × (¬ (IsAnyListOver ss e)))

-- a sort comes with functions of rows over the sorts
abbrev pub with_rows : Sig → SortInfo → List Row → Sig
with_rows g s rows = record g { sorts = g.sorts ++ s ∷ []; functions = g.functions ++ built_ins g.texts rows }

abbrev pub SortsKeepTheTables : Type 0
SortsKeepTheTables =
    (g : Sig) (s : SortInfo) (rows : List Row) → IsTable g → IsNewSort g.sorts s → All (IsRow (g.sorts ++ s ∷ [])) rows
    → AreNamed g.texts rows → AreNew g.functions (built_ins g.texts rows) → IsTable (with_rows g s rows)

-- so they do where nothing is missing from the signature
abbrev pub DeclaredSortsKeepTheTables : Type 0
DeclaredSortsKeepTheTables = (g : Sig) (n : NameId) → IsComplete g → IsTable g → IsTable (with_sort g n)

abbrev pub ListSortsKeepTheTables : Type 0
ListSortsKeepTheTables = (g : Sig) (e : SortId) → IsComplete g → IsTable g → e.0 < length g.sorts → ¬ (IsAnyListOver g.sorts e) → IsTable (with_list g e)

-- a declared sort gets its constructors
abbrev pub ConstructorsKeepTheTables : Type 0
ConstructorsKeepTheTables = (g : Sig) (s : SortId) (k : Kind) → IsTable g → IsBare g.sorts s → IsDeclaredKind k → IsTable (record g { sorts = with_kind g.sorts s.0 k })

-- a declared sort gets the constructors of a `struct`, with their projections and recognisers
abbrev pub StructsKeepTheTables : Type 0
StructsKeepTheTables =
    (g : Sig) (s : SortId) (cs : List Con) → IsTable g → IsBare g.sorts s → All (IsConWithin (length g.texts) (length g.sorts)) cs
    → AreNew g.functions (struct_functions s (length g.functions) cs) → IsTable (with_struct g s cs)
