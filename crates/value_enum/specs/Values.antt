-- The constructor values of a sort, and the first ones of them in their order.
use Rattle.std.specs.Prelude.{◌≡◌, ◌≤◌, ◌⊎◌, ◌↔◌, ℕ, List, [], ◌∷◌, length, Some, slice_get, IsTrue}
use Rattle.std.specs.List.{Contains}
use Rattle.data_theory.specs.declared.ids.SortId.{SortId}
use Rattle.data_theory.specs.declared.ids.FunId.{FunId}
use Rattle.data_theory.specs.declared.ids.TermId.{TermId}
use Rattle.data_theory.specs.Functions.{Function, arguments_of}
use Rattle.data_theory.specs.Sorts.{IsBare}
use Rattle.data_theory.specs.Signature.{Sig}
use Rattle.data_theory.specs.IdTrees.{Tree}
use Rattle.term_pool.specs.HeadTrees.{tree_at, IsIn}
use Rattle.term_pool.specs.ConstructorValues.{ConstructorValue, ConstructorValues, a_number, built, a_constant, no_value, value_then, IsConstructorAt, IsValueOf, ComesBefore}
use Rattle.term_pool.specs.Constants.{tree_with}
use Rattle.value_enum.specs.declared.listed.Values.{Values}
use Rattle.value_enum.specs.Ascending.{Ascending}

-- ---- constructor values
-- it is made of constructors and numbers alone, and no constant of a sort without constructors stands in it
abbrev mutual
  pub IsPlain : ConstructorValue → Type 0
  IsPlain (a_number s z) = Unit {0}
  IsPlain (built f vs) = ArePlain vs
  IsPlain (a_constant d) = ⊥

  pub ArePlain : ConstructorValues → Type 0
  ArePlain no_value = Unit {0}
  ArePlain (value_then v vs) = IsPlain v × ArePlain vs

abbrev pub IsPlainValueOf : Sig → SortId → ConstructorValue → Type 0
IsPlainValueOf g s v = IsValueOf g v s × IsPlain v

-- ---- the first ones
-- The first values of a sort: they are in order, no more than the bound, and each other value of the sort comes behind all of them, of which
-- there are as many as the bound then.
pub record AreFirst (g : Sig) (s : SortId) (bound : ℕ) (vs : List ConstructorValue) : Type 0 where
  pub values : (v : ConstructorValue) → Contains vs v → IsPlainValueOf g s v
  pub ascending : Ascending (ComesBefore g s) vs
  pub few : length vs ≤ bound
  pub first : (w : ConstructorValue) → IsPlainValueOf g s w → Contains vs w ⊎ ((length vs ≡ bound) × ((v : ConstructorValue) → Contains vs v → ComesBefore g s v w))

-- ---- sorts to which constructors lead
-- the second sort is the first one, or that of an argument of a constructor of a sort to which the first one leads
pub data LeadsTo (g : Sig) (s : SortId) : SortId → Type 0 where
  itself : LeadsTo g s s
  by_argument : {t a : SortId} (k : ℕ) (f : FunId) (e : Function) → LeadsTo g s t → IsConstructorAt g t k f → slice_get g.functions f.0 ≡ Some e → Contains (arguments_of e) a → LeadsTo g s a

-- the sort has no constructors, or its constructors lead to such a sort
abbrev pub LeadsToBare : Sig → SortId → Type 0
LeadsToBare g s = (d : SortId) × LeadsTo g s d × IsBare g.sorts d

-- no other values of the sort, and none with unknown parts
pub record AreWhole (g : Sig) (s : SortId) (vs : List ConstructorValue) : Type 0 where
  pub all : (w : ConstructorValue) → IsPlainValueOf g s w → Contains vs w
  pub known : ¬ (LeadsToBare g s)

-- ---- their terms
-- the tree of a value; a plain one has no constants
abbrev pub value_tree : ConstructorValue → Tree
value_tree v = tree_with (λ d. record { 0 = 0 }) v

pub record IsTermOf (ts : List Tree) (id : TermId) (v : ConstructorValue) : Type 0 where
  pub within : IsIn ts id
  pub tree : tree_at ts id ≡ value_tree v

-- the terms with these numbers are those of the values, one by one
pub data AreTermsOf (ts : List Tree) : List TermId → List ConstructorValue → Type 0 where
  no_terms : AreTermsOf ts [] []
  term_then : {id : TermId} {v : ConstructorValue} {ids : List TermId} {vs : List ConstructorValue} → IsTermOf ts id v → AreTermsOf ts ids vs → AreTermsOf ts (id ∷ ids) (v ∷ vs)

-- The first values of a sort are listed, and whether they are all.
pub record AreListed (g : Sig) (s : SortId) (bound : ℕ) (ts : List Tree) (found : Values) : Type 0 where
  pub values : List ConstructorValue
  pub first : AreFirst g s bound values
  pub terms : AreTermsOf ts found.list.items values
  pub whole : IsTrue found.whole ↔ AreWhole g s values
