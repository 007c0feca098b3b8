-- The columns of a form: their names and sorts, the places of the parameters, and the first values.
use Rattle.std.specs.Prelude.{◌≡◌, ◌==◌, ◌&&◌, ◌⊎◌, ◌<◌, ℕ, Bool, List, [], ◌∷◌, ◌++◌, map, length, cond, codes, slice_get, Option, Some, None, option_to_list, Vec}
use Rattle.std.specs.List.{All, AllZip, Contains, list_any}
use Rattle.std.specs.Global.{Global}
use Rattle.data_theory.specs.declared.ids.NameId.{NameId}
use Rattle.data_theory.specs.declared.ids.SortId.{SortId}
use Rattle.data_theory.specs.declared.ids.VarId.{VarId}
use Rattle.data_theory.specs.declared.ids.TermId.{TermId}
use Rattle.data_theory.specs.Table.{pos_sort}
use Rattle.data_theory.specs.Terms.{Term}
use Rattle.data_theory.specs.Declarations.{HaveSorts}
use Rattle.data_theory.specs.Environments.{terms_of}
use Rattle.data_theory.specs.Signature.{Sig, with_variable}
use Rattle.data_theory.specs.Fresh.{IsFreshIn}
use Rattle.data_theory.specs.IdData.{data_meant}
use Rattle.data_theory.specs.WholeSignatures.{IsSignature}
use Rattle.data_theory.specs.IdTrees.{Tree}
use Rattle.data_theory.specs.IdTerms.{variable_sorts}
use Rattle.term_pool.specs.Pools.{PoolContents}
use Rattle.process_terms.specs.Meanings.{bound_at, term_at}
use Rattle.process_terms.specs.SignatureEntries.{entries_of}
use Rattle.bisim_laws.specs.LinearProcesses.{sorts, AreDeclared, HaveDataSorts}
use Rattle.bisim_laws.specs.BaseStates.{Columns, control_of}
use Rattle.lps_core.specs.Fitting.{AreTermsOf, IsVariable, sort_of_variable, HasTakenName}
use Rattle.lps_core.specs.MadeTerms.{IsClosedTerm}
use Rattle.lps_core.specs.Naming.{name_of, names_of, function_names, ParamsHaveOwnNames}
use Rattle.greibach.specs.FittingForms.{FormFits}
use Rattle.greibach.specs.PlainForms.{PlainEquation, PlainForm, form_of}
use Rattle.regular_encoder.specs.Encoding.{encoded_params, first_terms, IsLayout}
use Rattle.regular_encoder.specs.TreeEncoding.{PlainLayout, place_at}
use Rattle.regular_encoder.specs.MeantEncoding.{MeansColumns}
use Rattle.regular_encoder.specs.Layouts.{LaidOut, columns_meant, control_variable}

-- ---- a column for each name and sort
-- a variable's name and sort
abbrev pub kind_of : Sig → VarId → NameId × SortId
kind_of g x = (name_of g x, sort_of_variable g x)

-- the parameters of all equations, in their order
abbrev pub all_params : List PlainEquation → List VarId
all_params [] = []
all_params (q ∷ qs) = q.params ++ all_params qs

abbrev pub is_same_kind : NameId × SortId → NameId × SortId → Bool
is_same_kind k m = (k.0.0 == m.0.0) && (k.1.0 == m.1.0)

-- a name and sort that isn't there comes last
abbrev pub with_kind : List (NameId × SortId) → NameId × SortId → List (NameId × SortId)
with_kind ks k = cond (list_any (is_same_kind k) ks) ks (ks ++ k ∷ [])

abbrev pub with_kinds : List (NameId × SortId) → List (NameId × SortId) → List (NameId × SortId)
with_kinds ks [] = ks
with_kinds ks (k ∷ more) = with_kinds (with_kind ks k) more

-- the names and sorts of all parameters, each once
abbrev pub column_kinds : Sig → PlainForm → List (NameId × SortId)
column_kinds g f = with_kinds [] (map (kind_of g) (all_params f.equations))

-- ---- their names
-- a name that is none of these, or a fresh one with it as the base
pub data IsOwnName (IsOne : NameId → Type 0) (g : Sig) (n : NameId) : Sig → NameId → Type 0 where
  the_name : ¬ (IsOne n) → IsOwnName IsOne g n g n
  a_new_name : {h : Sig} {base : List ℕ} {name : NameId} → IsOne n → slice_get g.texts n.0 ≡ Some base → IsFreshIn g base name h → IsOwnName IsOne g n h name

-- a new variable of this sort, with such a name
pub data IsColumn (IsOne : NameId → Type 0) (g : Sig) (k : NameId × SortId) : Sig → VarId → Type 0 where
  a_column : {h : Sig} {name : NameId} → IsOwnName IsOne g k.0 h name → IsColumn IsOne g k (with_variable h (record { name = name; sort = k.1 })) (record { 0 = length h.variables })

-- a column for each, from the left: none has the name of a function or of an earlier one
pub data AreColumns (g : Sig) : List (NameId × SortId) → Sig → List VarId → Type 0 where
  no_column : AreColumns g [] g []
  one_more_column : {ks : List (NameId × SortId)} {cs : List VarId} {h i : Sig} {k : NameId × SortId} {c : VarId} → AreColumns g ks h cs → IsColumn (λ n. Contains (function_names g) n ⊎ Contains (names_of h cs) n) h k i c
      → AreColumns g (ks ++ k ∷ []) i (cs ++ c ∷ [])

-- there is a control parameter where the form has several equations
pub data IsControl (g : Sig) : ℕ → Sig → Option VarId → Type 0 where
  no_control : IsControl g 1 g None
  a_control : {n : ℕ} {h : Sig} {name : NameId} → 1 < n → IsFreshIn g (codes "s") name h → IsControl g n (with_variable h (record { name = name; sort = pos_sort })) (Some (record { 0 = length h.variables }))

-- ---- the places of parameters
-- the column of a parameter has its name and sort
abbrev pub IsColumnOf : Sig → List (NameId × SortId) → List VarId → VarId → VarId → Type 0
IsColumnOf g ks cs x c = (i : ℕ) × (slice_get ks i ≡ Some (kind_of g x)) × (slice_get cs i ≡ Some c)

abbrev pub ArePlaces : Sig → List (NameId × SortId) → List VarId → List PlainEquation → List (List VarId) → Type 0
ArePlaces g ks cs qs places = AllZip (λ (q : PlainEquation) place. AllZip (IsColumnOf g ks cs) q.params place) qs places

-- ---- the first values
-- the argument at a column's place
abbrev pub argument_of : List VarId → List TermId → VarId → Option TermId
argument_of [] ts c = None
argument_of (x ∷ xs) [] c = None
argument_of (x ∷ xs) (t ∷ ts) c = cond (x.0 == c.0) (Some t) (argument_of xs ts c)

-- a column's first value is the argument at its place, or else its sort's closed term
pub data IsFirstTerm (place : List VarId) (args : List TermId) (g : Sig) (p : PoolContents) (c : VarId) : Sig → PoolContents → TermId → Type 0 where
  an_argument : {t : TermId} → argument_of place args c ≡ Some t → IsFirstTerm place args g p c g p t
  a_closed_term : {h : Sig} {q : PoolContents} {t : TermId} → argument_of place args c ≡ None → IsClosedTerm g p (sort_of_variable g c) h q t → IsFirstTerm place args g p c h q t

-- those of the columns, from the left
pub data AreFirstTerms (place : List VarId) (args : List TermId) (g : Sig) (p : PoolContents) : List VarId → Sig → PoolContents → List TermId → Type 0 where
  no_first_term : AreFirstTerms place args g p [] g p []
  one_more_first_term : {cs : List VarId} {ts : List TermId} {h i : Sig} {q r : PoolContents} {c : VarId} {t : TermId} → AreFirstTerms place args g p cs h q ts → IsFirstTerm place args h q c i r t
      → AreFirstTerms place args g p (cs ++ c ∷ []) i r (ts ++ t ∷ [])

-- ---- all of it
-- the columns are named first, then the control parameter, and last come the first values: those of the first equation are its arguments
pub record HasItsColumns (g : Sig) (p : PoolContents) (f : PlainForm) (h : Sig) (q : PoolContents) (l : PlainLayout) (firsts : List TermId) : Type 0 where
  pub with_columns : Sig
  pub with_control : Sig
  pub columns : AreColumns g (column_kinds g f) with_columns l.columns
  pub control : IsControl with_columns (length f.equations) with_control l.control
  pub places : ArePlaces g (column_kinds g f) l.columns f.equations l.places
  pub values : AreFirstTerms (place_at l 1) f.init with_control p l.columns h q firsts

-- ---- what the encoding asks of it
abbrev pub layout_params : PlainLayout → List VarId
layout_params l = option_to_list l.control ++ l.columns

abbrev pub meant_firsts : Sig → List Tree → List TermId → List Term
meant_firsts h us firsts = map (term_at (entries_of h us)) firsts

abbrev pub layout_meant : Sig → List Tree → PlainLayout → List TermId → Columns
layout_meant h us l firsts = columns_meant h l (meant_firsts h us firsts)

-- The layout means columns that lay the form out. The parameters are declared, each of its sort, and their names are taken. The
-- first values are closed and of the columns' sorts, and they are what the encoding starts with.
pub record ServesTheEncoding (h : Sig) (us : List Tree) (f : PlainForm) (l : PlainLayout) (firsts : List TermId) : Type 0 where
  pub layout : IsLayout (layout_meant h us l firsts) (control_variable l.control) (form_of (entries_of h us) f)
  pub meant : MeansColumns l (layout_meant h us l firsts) (control_variable l.control)
  pub params : map (bound_at (entries_of h us)) (layout_params l) ≡ encoded_params (layout_meant h us l firsts) (control_variable l.control)
  pub variables : All (IsVariable h) (layout_params l)
  pub taken : All (HasTakenName h) (layout_params l)
  pub declared : AreDeclared (variable_sorts h) (encoded_params (layout_meant h us l firsts) (control_variable l.control))
  pub sorted : HaveDataSorts (data_meant h) (encoded_params (layout_meant h us l firsts) (control_variable l.control))
  pub terms : AreTermsOf h us (map (sort_of_variable h) l.columns) firsts
  pub closed : HaveSorts (data_meant h) [] (terms_of (meant_firsts h us firsts)) (sorts (layout_meant h us l firsts).columns)
  pub starts : first_terms (layout_meant h us l firsts) (map (term_at (entries_of h us)) f.init) ≡ control_of (layout_meant h us l firsts).control 0 ++ meant_firsts h us firsts

-- ---- the law
abbrev pub WhatIsLaidOutServes : Type 0
WhatIsLaidOutServes =
    (g h : Sig) (p q : PoolContents) (f : PlainForm) (l : PlainLayout) (firsts : List TermId) → IsSignature g → IsSignature h → FormFits g p.trees f → length f.equations < 340282366920938463463374607431768211456
    → HasItsColumns g p f h q l firsts → LaidOut (length g.variables) h f l × ServesTheEncoding h q.trees f l firsts × ParamsHaveOwnNames h (layout_params l)

-- with one equation there is no control parameter, and the columns are the equation's parameters with their initial terms
abbrev pub OneEquationKeepsItsParameters : Type 0
OneEquationKeepsItsParameters =
    (g h : Sig) (p q : PoolContents) (f : PlainForm) (l : PlainLayout) (firsts : List TermId) (e : PlainEquation) → IsSignature g → IsSignature h → FormFits g p.trees f → f.equations ≡ e ∷ [] → HasItsColumns g p f h q l firsts
    → (l.control ≡ None) × (column_kinds g f ≡ map (kind_of g) e.params) × (place_at l 1 ≡ l.columns) × (firsts ≡ f.init)

-- ---- as the code finds them
-- the places of names and sorts
abbrev pub AreKindsAt : Sig → List (NameId × SortId) → List VarId → List ℕ → Type 0
AreKindsAt g ks = AllZip (λ x i. slice_get ks i ≡ Some (kind_of g x))

abbrev pub IsKindIn : Sig → NameId × SortId → Type 0
IsKindIn g k = (k.0.0 < length g.texts) × (k.1.0 < length g.sorts)

abbrev pub places_in : List (Vec ℕ Global) → List (List ℕ)
places_in vs = map (λ v. v.items) vs
