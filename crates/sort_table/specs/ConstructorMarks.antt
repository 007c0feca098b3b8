-- Which functions of a text `cons` declares, and the constructors that its sorts get.
use Rattle.std.specs.Prelude.{◌≡◌, ◌<◌, ◌≤◌, ◌++◌, ℕ, Bool, true, false, List, [], ◌∷◌, map, length, Option, Some, None, slice_get}
use Rattle.std.specs.List.{Contains, flat_map}
use Rattle.std.specs.Global.{Vec}
use Rattle.graphs.specs.Graphs.{successors}
use Rattle.data_theory.specs.declared.ids.SortId.{SortId}
use Rattle.data_theory.specs.declared.ids.FunId.{FunId}
use Rattle.data_theory.specs.Sorts.{Kind, booleans, positives, naturals, integers, lists_over, without_constructors, by_declarations, structured, SortInfo, IsBare}
use Rattle.data_theory.specs.Functions.{Function}
use Rattle.data_theory.specs.Places.{HaveOnePlace}
use Rattle.data_theory.specs.IdRoles.{HasNoRole}
use Rattle.data_theory.specs.Signature.{Sig, with_constructors}
use Rattle.sort_table.specs.Expressions.{Name}
use Rattle.sort_table.specs.BareDeclarations.{Field, Constructor}
use Rattle.sort_table.specs.Vocabularies.{EachPair}
use Rattle.sort_table.specs.TextFunctions.{TextRole, struct_constructor, declared_constructor, projection, recogniser, mapping, Named}

abbrev pub is_declared_role : TextRole → Bool
is_declared_role struct_constructor = false
is_declared_role declared_constructor = true
is_declared_role (projection c es i) = false
is_declared_role (recogniser c es) = false
is_declared_role mapping = false

-- for each function whether a `cons` declares it
abbrev pub marks_of : List Named → List Bool
marks_of fs = map (λ (f : Named). is_declared_role f.1.role) fs

-- ---- those of a struct
abbrev pub mark_where : Option Name → List Bool
mark_where None = []
mark_where (Some n) = false ∷ []

abbrev pub field_marks : List Field → List Bool
field_marks fs = flat_map (λ (f : Field). mark_where f.name) fs

abbrev pub own_marks : List Constructor → List Bool
own_marks cs = map (λ (c : Constructor). false) cs

abbrev pub projection_marks : List Constructor → List Bool
projection_marks cs = flat_map (λ (c : Constructor). field_marks c.fields) cs

abbrev pub recogniser_marks : List Constructor → List Bool
recogniser_marks cs = flat_map (λ (c : Constructor). mark_where c.recogniser) cs

abbrev pub struct_marks : List Constructor → List Bool
struct_marks cs = own_marks cs ++ (projection_marks cs ++ recogniser_marks cs)

-- ---- constructors
abbrev pub is_bare_kind : Kind → Bool
is_bare_kind booleans = false
is_bare_kind positives = false
is_bare_kind naturals = false
is_bare_kind integers = false
is_bare_kind (lists_over e) = false
is_bare_kind without_constructors = true
is_bare_kind (by_declarations fs) = false
is_bare_kind (structured fs) = false

-- the declared function at this place is one of a `cons` into this sort
pub record IsConsAt (g : Sig) (marks : List Bool) (s : SortId) (p : ℕ) (i : FunId) : Type 0 where
  pub marked : slice_get marks p ≡ Some true
  pub there : slice_get g.declared p ≡ Some i
  pub entry : Function
  pub at : slice_get g.functions i.0 ≡ Some entry
  pub result : entry.result ≡ s

-- a function of a `cons` into this sort
abbrev pub IsConsOf : Sig → List Bool → SortId → FunId → Type 0
IsConsOf g marks s i = (p : ℕ) × IsConsAt g marks s p i

-- What a sort becomes: one without constructors gets the functions of each `cons` into it, where there are some.
pub data IsGiven (g : Sig) (marks : List Bool) (s : SortId) (t : SortInfo) : SortInfo → Type 0 where
  has_others : ¬ (t.kind ≡ without_constructors) → IsGiven g marks s t t
  has_none : t.kind ≡ without_constructors → ((i : FunId) → ¬ (IsConsOf g marks s i)) → IsGiven g marks s t t
  has_these : (fs : List FunId) → t.kind ≡ without_constructors → ((i : FunId) → Contains fs i → IsConsOf g marks s i) → ((i : FunId) → IsConsOf g marks s i → Contains fs i) → (i : FunId) → Contains fs i → IsGiven g marks s t (record t { kind = by_declarations fs })

-- the sorts get their constructors, and nothing else changes
pub record GivesConstructors (marks : List Bool) (g h : Sig) : Type 0 where
  pub same : h ≡ record g { sorts = h.sorts }
  pub long : length h.sorts ≡ length g.sorts
  pub given : (s : SortId) (t u : SortInfo) → slice_get g.sorts s.0 ≡ Some t → slice_get h.sorts s.0 ≡ Some u → IsGiven g marks s t u

-- ---- places by the numbers of sorts
-- of the first n places each that is marked for a sort stands in the sort's row, once
pub record ArePlaces (g : Sig) (marks : List Bool) (n : ℕ) (table : List (Vec ℕ)) : Type 0 where
  pub size : length table ≡ length g.sorts
  pub all : (s : SortId) (p : ℕ) (i : FunId) → p < n → IsConsAt g marks s p i → Contains (successors table s.0) p
  pub only : (s : SortId) (p : ℕ) → Contains (successors table s.0) p → (p < n) × ((i : FunId) × IsConsAt g marks s p i)
  pub once : (r : ℕ) → HaveOnePlace (successors table r)

-- ---- one sort after the other
-- a declared function without a role stands at this place, and its result is the sort
pub record IsPlainAt (g : Sig) (s : SortId) (p : ℕ) : Type 0 where
  pub function : FunId
  pub there : slice_get g.declared p ≡ Some function
  pub entry : Function
  pub at : slice_get g.functions function.0 ≡ Some entry
  pub result : entry.result ≡ s
  pub free : HasNoRole g function

abbrev pub AreAt : Sig → List ℕ → List FunId → Type 0
AreAt g = EachPair (λ p i. slice_get g.declared p ≡ Some i)

-- a sort without constructors gets the functions at these places, where there are some; any other stays
pub data GivesOne (s : SortId) (ps : List ℕ) (g : Sig) : Sig → Type 0 where
  no_places : ps ≡ [] → GivesOne s ps g g
  other_kind : (t : SortInfo) → slice_get g.sorts s.0 ≡ Some t → ¬ (t.kind ≡ without_constructors) → GivesOne s ps g g
  gives : (fs : List FunId) → ¬ (ps ≡ []) → IsBare g.sorts s → AreAt g ps fs → GivesOne s ps g (with_constructors g s fs)

-- the sorts below this number have got their constructors, and no others
pub record GivesBelow (marks : List Bool) (n : ℕ) (g h : Sig) : Type 0 where
  pub same : h ≡ record g { sorts = h.sorts }
  pub long : length h.sorts ≡ length g.sorts
  pub given : (s : SortId) (t u : SortInfo) → s.0 < n → slice_get g.sorts s.0 ≡ Some t → slice_get h.sorts s.0 ≡ Some u → IsGiven g marks s t u
  pub rest : (s : SortId) → n ≤ s.0 → slice_get h.sorts s.0 ≡ slice_get g.sorts s.0
