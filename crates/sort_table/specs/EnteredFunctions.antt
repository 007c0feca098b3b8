-- Functions of a text that a signature has.
use Rattle.std.specs.Prelude.{◌≡◌, ◌<◌, ℕ, List, length, Option, Some, None, slice_get}
use Rattle.std.specs.List.{Contains, AllByRecursion}
use Rattle.std.specs.Str.{IsUtf8}
use Rattle.data_theory.specs.declared.ids.NameId.{NameId}
use Rattle.data_theory.specs.declared.ids.SortId.{SortId}
use Rattle.data_theory.specs.declared.ids.FunId.{FunId}
use Rattle.data_theory.specs.Sorts.{SortInfo}
use Rattle.data_theory.specs.IdData.{constructors_of}
use Rattle.data_theory.specs.Functions.{Function}
use Rattle.data_theory.specs.Structs.{Con}
use Rattle.data_theory.specs.Signature.{Sig, IsTaken}
use Rattle.data_theory.specs.IdRoles.{HasNoRole}
use Rattle.data_theory.specs.IdTerms.{sort_under}
use Rattle.sort_table.specs.Expressions.{Name}
use Rattle.sort_table.specs.BareSorts.{SortExpression}
use Rattle.sort_table.specs.BareDeclarations as bare
use Rattle.sort_table.specs.TextFunctions.{TextRole, struct_constructor, declared_constructor, projection, recogniser, mapping, Named}
use Rattle.sort_table.specs.Vocabularies.{sort_in, EachPair}
use Rattle.sort_table.specs.NamedSorts.{sort_names_of, sort_count}

-- a sort of the signature is that of an expression
pub record HasSortOf (g : Sig) (e : SortExpression) (s : SortId) : Type 0 where
  pub within : s.0 < length g.sorts
  pub meant : sort_in (sort_names_of g) e ≡ Some (sort_under g s)

abbrev pub HaveSortsOf : Sig → List SortExpression → List SortId → Type 0
HaveSortsOf g = EachPair (HasSortOf g)

-- the expression has a sort
abbrev pub IsReadable : Sig → SortExpression → Type 0
IsReadable g e = (s : SortId) × HasSortOf g e s

-- a name that is text and taken
pub record IsKnownName (g : Sig) (n : Name) : Type 0 where
  pub is_text : IsUtf8 n
  pub is_taken : IsTaken g n

abbrev pub IsKnownOption : Sig → Option Name → Type 0
IsKnownOption g None = Unit {0}
IsKnownOption g (Some n) = IsKnownName g n

-- what the entry of a constructor's argument and of a constructor needs
abbrev pub IsReadyField : Sig → bare.Field → Type 0
IsReadyField g f = IsKnownOption g f.name × IsReadable g f.sort

pub record IsReadyConstructor (g : Sig) (c : bare.Constructor) : Type 0 where
  pub name : IsKnownName g c.name
  pub fields : AllByRecursion (IsReadyField g) c.fields
  pub recogniser : IsKnownOption g c.recogniser

-- ---- constructors of a struct, as they are handed to a signature
abbrev pub IsNameId : Sig → Name → NameId → Type 0
IsNameId g n i = slice_get g.texts i.0 ≡ Some n

abbrev pub IsOptionalId : Sig → Option Name → Option NameId → Type 0
IsOptionalId g None None = Unit {0}
IsOptionalId g (Some n) (Some i) = IsNameId g n i
IsOptionalId g None (Some i) = ⊥
IsOptionalId g (Some n) None = ⊥

abbrev pub IsFieldOf : Sig → bare.Field → Option NameId × SortId → Type 0
IsFieldOf g f x = IsOptionalId g f.name x.0 × HasSortOf g f.sort x.1

pub record IsConOf (g : Sig) (c : bare.Constructor) (d : Con) : Type 0 where
  pub name : IsNameId g c.name d.name
  pub fields : EachPair (IsFieldOf g) c.fields d.fields
  pub recogniser : IsOptionalId g c.recogniser d.test

-- ---- functions
-- the entry of a function has its name and its sorts
pub record IsEntryOf (g : Sig) (f : Named) (h : Function) : Type 0 where
  pub declared : h.word ≡ None
  pub name : IsNameId g f.0 h.name
  pub arguments : HaveSortsOf g f.1.arguments h.sorts
  pub result : HasSortOf g f.1.result h.result

-- a constructor's entry, by its name and arguments
pub record IsConstructorAt (g : Sig) (c : Name) (es : List SortExpression) (i : FunId) (h : Function) : Type 0 where
  pub there : slice_get g.functions i.0 ≡ Some h
  pub declared : h.word ≡ None
  pub name : IsNameId g c h.name
  pub arguments : HaveSortsOf g es h.sorts

-- it is a constructor of a sort
abbrev pub Constructs : Sig → FunId → Type 0
Constructs g i = (s : SortId) × (t : SortInfo) × (slice_get g.sorts s.0 ≡ Some t) × Contains (constructors_of t.kind) i

-- The function has its role by the entries of constructors. Constructors of `cons` have none yet, as mappings.
pub data HasTextRole (g : Sig) (i : FunId) : TextRole → Type 0 where
  of_struct : Constructs g i → HasTextRole g i struct_constructor
  of_cons : HasNoRole g i → HasTextRole g i declared_constructor
  of_map : HasNoRole g i → HasTextRole g i mapping
  of_place : (c : Name) (es : List SortExpression) (k : ℕ) (j : FunId) (h : Function) → IsConstructorAt g c es j h → slice_get h.projections k ≡ Some (Some i) → HasTextRole g i (projection c es k)
  of_test : (c : Name) (es : List SortExpression) (j : FunId) (h : Function) → IsConstructorAt g c es j h → h.test ≡ Some i → HasTextRole g i (recogniser c es)

pub record IsEntered (g : Sig) (f : Named) (i : FunId) : Type 0 where
  pub entry : Function
  pub there : slice_get g.functions i.0 ≡ Some entry
  pub is : IsEntryOf g f entry
  pub role : HasTextRole g i f.1.role

-- these are the declared functions of a signature, in their order
abbrev pub AreEntered : List Named → Sig → Type 0
AreEntered fs g = EachPair (IsEntered g) fs g.declared

-- ---- what stays while functions are entered
pub record Keeps (g h : Sig) : Type 0 where
  pub texts : h.texts ≡ g.texts
  pub taken : h.taken ≡ g.taken
  pub variables : h.variables ≡ g.variables
  pub actions : h.actions ≡ g.actions
  pub names : sort_names_of h ≡ sort_names_of g
  pub count : sort_count h ≡ sort_count g
  pub sorts : (s : SortId) → s.0 < length g.sorts → (s.0 < length h.sorts) × (sort_under h s ≡ sort_under g s)
  pub functions : (i : ℕ) (f : Function) → slice_get g.functions i ≡ Some f → slice_get h.functions i ≡ Some f
  pub free : (i : FunId) → i.0 < length g.functions → HasNoRole g i → HasNoRole h i
  pub constructs : (i : FunId) → Constructs g i → Constructs h i
