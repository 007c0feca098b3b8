-- What the entries of a signature keep of constructors, projections and recognisers.
use Rattle.std.specs.Prelude.{◌≡◌, ◌<◌, ℕ, List, [], ◌∷◌, length, take, Some, None, slice_get}
use Rattle.std.specs.List.{All, Contains}
use Rattle.data_theory.specs.declared.ids.NameId.{NameId}
use Rattle.data_theory.specs.declared.ids.SortId.{SortId}
use Rattle.data_theory.specs.declared.ids.FunId.{FunId}
use Rattle.data_theory.specs.declared.signature.Variable.{Variable}
use Rattle.data_theory.specs.Declarations.{Role, constructor, projection, recogniser, IsData}
use Rattle.data_theory.specs.EqualityLaws.{Grows}
use Rattle.data_theory.specs.Sorts.{SortInfo, structured, IsBare}
use Rattle.data_theory.specs.Functions.{Function, declared_function}
use Rattle.data_theory.specs.Table.{bool_sort}
use Rattle.data_theory.specs.Structs.{Con}
use Rattle.data_theory.specs.Signature.{Sig, first_signature, with_taken, with_variable, with_function, with_alias, with_sort, with_list, with_constructors, with_struct, with_struct_sort, with_action}
use Rattle.data_theory.specs.IdSymbols.{declared_from}
use Rattle.data_theory.specs.IdTables.{IsTable}
use Rattle.data_theory.specs.IdData.{constructors_of, role_meant, data_meant}
use Rattle.data_theory.specs.IdTerms.{IsGrown}

-- the number of a function among the declared ones
abbrev pub declared_number : List Function → FunId → ℕ
declared_number fs i = length (declared_from 0 (take i.0 fs))

-- ---- what the entries say
-- a function is a constructor of a sort, the projection of a place of a constructor, or the recogniser of a constructor
pub data HasRole (ss : List SortInfo) (fs : List Function) (i : FunId) : Role → Type 0 where
  constructs : (s : SortId) (t : SortInfo) → slice_get ss s.0 ≡ Some t → Contains (constructors_of t.kind) i → HasRole ss fs i constructor
  projects : (c : FunId) (h : Function) (k : ℕ) → slice_get fs c.0 ≡ Some h → slice_get h.projections k ≡ Some (Some i) → HasRole ss fs i (projection (declared_number fs c) k)
  recognises : (c : FunId) (h : Function) → slice_get fs c.0 ≡ Some h → h.test ≡ Some i → HasRole ss fs i (recogniser (declared_number fs c))

-- a function has none: it is a mapping
abbrev pub HasNoRole : Sig → FunId → Type 0
HasNoRole g i = (r : Role) → HasRole g.sorts g.functions i r → ⊥

-- ---- what they keep
-- the function was declared with this result, and with these sorts
abbrev pub IsDeclaredTo : List Function → FunId → SortId → Type 0
IsDeclaredTo fs i to = (f : Function) × (slice_get fs i.0 ≡ Some f) × (f.word ≡ None) × (f.result ≡ to)

abbrev pub IsDeclaredAs : List Function → FunId → List SortId → SortId → Type 0
IsDeclaredAs fs i args to = (f : Function) × (slice_get fs i.0 ≡ Some f) × (f.word ≡ None) × (f.result ≡ to) × (f.sorts ≡ args)

-- the sort is a `struct`, and the function one of its constructors
abbrev pub IsStructConstructor : List SortInfo → FunId → SortId → Type 0
IsStructConstructor ss c s = (t : SortInfo) × (cs : List FunId) × (slice_get ss s.0 ≡ Some t) × (t.kind ≡ structured cs) × Contains cs c

-- A constructor gives its sort. A `struct`'s constructor alone has projections, each from its sort to that of the place, and a
-- recogniser. No function has two roles.
pub record HaveRoles (ss : List SortInfo) (fs : List Function) : Type 0 where
  pub constructors : (s : SortId) (t : SortInfo) (c : FunId) → slice_get ss s.0 ≡ Some t → Contains (constructors_of t.kind) c → IsDeclaredTo fs c s
  pub projections : (c p : FunId) (h : Function) (k : ℕ) → slice_get fs c.0 ≡ Some h → slice_get h.projections k ≡ Some (Some p)
      → IsStructConstructor ss c h.result × ((to : SortId) × (slice_get h.sorts k ≡ Some to) × IsDeclaredAs fs p (h.result ∷ []) to)
  pub recognisers : (c r : FunId) (h : Function) → slice_get fs c.0 ≡ Some h → h.test ≡ Some r → IsStructConstructor ss c h.result × IsDeclaredAs fs r (h.result ∷ []) bool_sort
  pub one_role : (i : FunId) (q r : Role) → HasRole ss fs i q → HasRole ss fs i r → q ≡ r

abbrev pub AreRoles : Sig → Type 0
AreRoles g = HaveRoles g.sorts g.functions

-- a signature has them from the start, and keeps them
abbrev pub TheFirstSignatureHasRoles : Type 0
TheFirstSignatureHasRoles = (given : List (List ℕ)) → AreRoles (first_signature given)

abbrev pub TextsKeepTheRoles : Type 0
TextsKeepTheRoles = (g : Sig) (t : List ℕ) → AreRoles g → AreRoles (with_taken g t)

abbrev pub ActionsKeepTheRoles : Type 0
ActionsKeepTheRoles = (g : Sig) (t : List ℕ) (sorts : List SortId) → AreRoles g → AreRoles (with_action g t sorts)

abbrev pub VariablesKeepTheRoles : Type 0
VariablesKeepTheRoles = (g : Sig) (v : Variable) → AreRoles g → AreRoles (with_variable g v)

abbrev pub AliasesKeepTheRoles : Type 0
AliasesKeepTheRoles = (g : Sig) (n : NameId) (s : SortId) → AreRoles g → AreRoles (with_alias g n s)

abbrev pub FunctionsKeepTheRoles : Type 0
FunctionsKeepTheRoles = (g : Sig) (n : NameId) (args : List SortId) (to : SortId) → AreRoles g → AreRoles (with_function g (declared_function n args to))

abbrev pub DeclaredSortsKeepTheRoles : Type 0
DeclaredSortsKeepTheRoles = (g : Sig) (n : NameId) → AreRoles g → AreRoles (with_sort g n)

abbrev pub ListSortsKeepTheRoles : Type 0
ListSortsKeepTheRoles = (g : Sig) (e : SortId) → AreRoles g → AreRoles (with_list g e)

-- constructors that are declared into a bare sort and have no other role
abbrev pub ConstructorsKeepTheRoles : Type 0
ConstructorsKeepTheRoles =
    (g : Sig) (s : SortId) (cons : List FunId) → AreRoles g → IsBare g.sorts s → All (λ (c : FunId). IsDeclaredTo g.functions c s) cons
    → ((c : FunId) (r : Role) → Contains cons c → HasRole g.sorts g.functions c r → ⊥) → AreRoles (with_constructors g s cons)

-- the constructors of a `struct`, with their projections and recognisers
abbrev pub StructsKeepTheRoles : Type 0
StructsKeepTheRoles = (g : Sig) (s : SortId) (cs : List Con) → AreRoles g → IsBare g.sorts s → AreRoles (with_struct g s cs)

abbrev pub StructSortsKeepTheRoles : Type 0
StructSortsKeepTheRoles = (g : Sig) (n : NameId) (cs : List Con) → AreRoles g → AreRoles (with_struct_sort g n cs)

-- ---- functions without a role
-- a function that was declared by itself has none
abbrev pub NewFunctionsHaveNoRole : Type 0
NewFunctionsHaveNoRole = (g : Sig) (n : NameId) (args : List SortId) (to : SortId) → AreRoles g → HasNoRole (with_function g (declared_function n args to)) (record { 0 = length g.functions })

-- it gets none by what else is declared, nor by constructors among which it isn't
abbrev pub FunctionsGiveNoRole : Type 0
FunctionsGiveNoRole = (g : Sig) (n : NameId) (args : List SortId) (to : SortId) → AreRoles g → (i : FunId) → HasNoRole g i → HasNoRole (with_function g (declared_function n args to)) i

abbrev pub DeclaredSortsGiveNoRole : Type 0
DeclaredSortsGiveNoRole = (g : Sig) (n : NameId) → AreRoles g → (i : FunId) → HasNoRole g i → HasNoRole (with_sort g n) i

abbrev pub ListSortsGiveNoRole : Type 0
ListSortsGiveNoRole = (g : Sig) (e : SortId) → AreRoles g → (i : FunId) → HasNoRole g i → HasNoRole (with_list g e) i

abbrev pub ConstructorsGiveNoRoleToOthers : Type 0
ConstructorsGiveNoRoleToOthers =
    (g : Sig) (s : SortId) (cons : List FunId) → AreRoles g → IsBare g.sorts s → (i : FunId) → ¬ (Contains cons i) → HasNoRole g i → HasNoRole (with_constructors g s cons) i

abbrev pub StructsGiveNoRoleToOthers : Type 0
StructsGiveNoRoleToOthers =
    (g : Sig) (s : SortId) (cs : List Con) → AreRoles g → IsBare g.sorts s → (i : FunId) → i.0 < length g.functions → HasNoRole g i → HasNoRole (with_struct g s cs) i

abbrev pub StructSortsGiveNoRoleToOthers : Type 0
StructSortsGiveNoRoleToOthers =
    (g : Sig) (n : NameId) (cs : List Con) → AreRoles g → (i : FunId) → i.0 < length g.functions → HasNoRole g i → HasNoRole (with_struct_sort g n cs) i

-- ---- the laws of the data that a signature means
abbrev pub RolesAreFound : Type 0
RolesAreFound = (g : Sig) → AreRoles g → (i : FunId) (r : Role) → HasRole g.sorts g.functions i r → role_meant g i ≡ r

abbrev pub MeantDataAreData : Type 0
MeantDataAreData = (g : Sig) → IsTable g → AreRoles g → IsData (data_meant g)

abbrev pub GrowthKeepsMeantData : Type 0
GrowthKeepsMeantData = (g h : Sig) → IsTable g → AreRoles g → AreRoles h → IsGrown g h → Grows (data_meant g) (data_meant h)
