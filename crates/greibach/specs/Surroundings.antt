-- What stands around a place under way, and the summands that are made, over a pool and a signature.
use Rattle.std.specs.Prelude.{◌≡◌, ◌<◌, ◌≤◌, ℕ, true, List, [], ◌∷◌, ◌++◌, map, length, Some, slice_get}
use Rattle.std.specs.List.{All, Contains}
use Rattle.mcrl2_lexer.specs.declared.kind.Kind.TheVariants.{Identifier}
use Rattle.mcrl2_lexer.specs.Words.{is_name, word_kind}
use Rattle.data_theory.specs.declared.ids.VarId.{VarId}
use Rattle.data_theory.specs.declared.ids.TermId.{TermId}
use Rattle.data_theory.specs.Environments.{Apart, AreDistinct}
use Rattle.data_theory.specs.Table.{bool_sort}
use Rattle.data_theory.specs.Signature.{Sig}
use Rattle.data_theory.specs.Complete.{BeginsWith}
use Rattle.data_theory.specs.IdTrees.{Tree}
use Rattle.data_theory.specs.WholeSignatures.{IsSignature}
use Rattle.lps_core.specs.Fitting.{IsVariable, sort_of_variable, HasTakenName}
use Rattle.lps_core.specs.Naming.{name_of, names_of}
use Rattle.lps_core.specs.TreeSummands.{numbers_of}
use Rattle.proc_unfold.specs.FittingModels.{TermFits, TermsFit, ActionFits}
use Rattle.greibach.specs.declared.heads.Around.{Around}
use Rattle.greibach.specs.declared.heads.Unfolding.{Unfolding}
use Rattle.greibach.specs.MeetingOrder.{IsNumberOf}
use Rattle.greibach.specs.PlainForms.{PlainFormSummand, PlainEquation, plain_form_summand}
use Rattle.greibach.specs.PlacesInCode.{PlainPlace, PlainEntry, PlainPlaces, plain_calls}
use Rattle.greibach.specs.ListedVariables.{listed_variables}
use Rattle.greibach.specs.FittingPlaces.{PlacesFitSince}

-- ---- as plain data
pub record PlainAround : Type 0 where
  pub params : List VarId
  pub sums : List VarId
  pub by : List (VarId × TermId)
  pub parts : List TermId

abbrev pub plain_around : Around → PlainAround
plain_around a = record { params = a.params.now; sums = a.sums.now; by = a.by.now; parts = a.parts.now }

pub record PlainUnfolding : Type 0 where
  pub met : List ℕ
  pub waiting : List (ℕ × List TermId)
  pub summands : List PlainFormSummand

abbrev pub plain_unfolding : Unfolding → PlainUnfolding
plain_unfolding u = record { met = u.met.keys; waiting = plain_calls u.waiting.items; summands = map plain_form_summand u.summands.items }

-- ---- what fits
-- a name that is no word
abbrev pub IsIdentifier : List ℕ → Type 0
IsIdentifier t = (is_name t ≡ true) × (word_kind t ≡ Identifier)

-- the name of a variable is taken, and is an identifier
pub record HasUsableName (g : Sig) (x : VarId) : Type 0 where
  pub taken : HasTakenName g x
  pub text : List ℕ
  pub named : slice_get g.texts (name_of g x).0 ≡ Some text
  pub identifier : IsIdentifier text

-- so is that of each variable
abbrev pub HasUsableNames : Sig → Type 0
HasUsableNames g = (x : VarId) → IsVariable g x → HasUsableName g x

-- a variable with a term of its sort
pub record BindingFits (g : Sig) (ts : List Tree) (xs : List VarId) (p : VarId × TermId) : Type 0 where
  pub variable : IsVariable g p.0
  pub term : TermFits g ts xs (sort_of_variable g p.0) p.1

-- a place, with terms of the sorts of its parameters
pub record CallOfPlace (g : Sig) (ts : List Tree) (ps : List PlainPlace) (xs : List VarId) (c : ℕ × List TermId) : Type 0 where
  pub place : PlainPlace
  pub stands : slice_get ps c.0 ≡ Some place
  pub variables : All (IsVariable g) place.params
  pub args : TermsFit g ts xs (map (sort_of_variable g) place.params) c.1

-- the same, with the place's number
pub record NumberedCall (g : Sig) (ts : List Tree) (ps : List PlainPlace) (met : List ℕ) (xs : List VarId) (c : ℕ × List TermId) : Type 0 where
  pub place : ℕ
  pub number : IsNumberOf met place c.0
  pub call : CallOfPlace g ts ps xs (place, c.1)

-- the sums are variables of their own, and what is around is over these and the equation's parameters
pub record Surrounds (g : Sig) (ts : List Tree) (ps : List PlainPlace) (a : PlainAround) (waiting : List (ℕ × List TermId)) : Type 0 where
  pub params : All (IsVariable g) a.params
  pub sums : All (IsVariable g) a.sums
  pub distinct : AreDistinct (numbers_of a.sums)
  pub apart : Apart (numbers_of a.sums) (numbers_of a.params)
  pub listed : All (BindingFits g ts (a.sums ++ a.params)) a.by
  pub parts : All (TermFits g ts (a.sums ++ a.params) bool_sort) a.parts
  pub waiting_fits : All (CallOfPlace g ts ps (a.sums ++ a.params)) waiting

-- a summand of an equation with these parameters, whose calls are those of places that were met
pub record SummandStands (g : Sig) (ts : List Tree) (ps : List PlainPlace) (met : List ℕ) (params : List VarId) (s : PlainFormSummand) : Type 0 where
  pub sums : All (IsVariable g) s.sums
  pub distinct : AreDistinct (numbers_of s.sums)
  pub apart : Apart (numbers_of s.sums) (numbers_of params)
  pub condition : TermFits g ts (s.sums ++ params) bool_sort s.condition
  pub label : All (ActionFits g ts (s.sums ++ params)) s.label
  pub next : All (NumberedCall g ts ps met (s.sums ++ params)) s.next

-- the place is there, and a term is listed for each of its parameters
pub record IsCovered (ps : List PlainPlace) (by : List (VarId × TermId)) (n : ℕ) : Type 0 where
  pub place : PlainPlace
  pub stands : slice_get ps n ≡ Some place
  pub covers : (x : VarId) → Contains place.params x → Contains (listed_variables by) x

-- the same where one more variable is listed
pub record IsCoveredBut (ps : List PlainPlace) (by : List (VarId × TermId)) (x : VarId) (n : ℕ) : Type 0 where
  pub place : PlainPlace
  pub stands : slice_get ps n ≡ Some place
  pub covers : (y : VarId) → Contains place.params y → Contains (x ∷ listed_variables by) y

-- a call of a reached definition, over the listed variables
pub record CallStands (g : Sig) (ts : List Tree) (t : PlainPlaces) (by : List (VarId × TermId)) (k : ℕ) (ids : List TermId) : Type 0 where
  pub entry : PlainEntry
  pub stands : slice_get t.entries k ≡ Some entry
  pub args : TermsFit g ts (listed_variables by) (map (sort_of_variable g) entry.params) ids
  pub variables : All (IsVariable g) entry.params
  pub place : PlainPlace
  pub at : slice_get t.places entry.place ≡ Some place
  pub all : place.params ≡ entry.params

-- ---- steps
-- the places that were met are there, and the summands so far stand
pub record AreStanding (g : Sig) (ts : List Tree) (ps : List PlainPlace) (params : List VarId) (u : PlainUnfolding) : Type 0 where
  pub met_there : All (λ (n : ℕ). n < length ps) u.met
  pub summands : All (SummandStands g ts ps u.met params) u.summands

pub record CanAdd (g : Sig) (ts : List Tree) (t : PlainPlaces) (a : PlainAround) (u : PlainUnfolding) : Type 0 where
  pub signature : IsSignature g
  pub names : HasUsableNames g
  pub table : PlacesFitSince g ts t
  pub around : Surrounds g ts t.places a u.waiting
  pub standing : AreStanding g ts t.places a.params u

-- signature and pool keep what they have, what waits stays, further places were met, and the summands stand
pub record Added (g h : Sig) (ts us : List Tree) (t : PlainPlaces) (params : List VarId) (u v : PlainUnfolding) : Type 0 where
  pub names : HasUsableNames h
  pub waiting : v.waiting ≡ u.waiting
  pub met : BeginsWith u.met v.met
  pub standing : AreStanding h us t.places params v

-- ---- equations
-- An equation of a place: parameters of its own with names that differ, of the sorts of the place's, and summands that stand.
pub record EquationStands (g : Sig) (ts : List Tree) (ps : List PlainPlace) (met : List ℕ) (n : ℕ) (q : PlainEquation) : Type 0 where
  pub params : All (IsVariable g) q.params
  pub distinct : AreDistinct (numbers_of q.params)
  pub named : AreDistinct (map (λ m. m.0) (names_of g q.params))
  pub place : PlainPlace
  pub stands : slice_get ps n ≡ Some place
  pub sorts : map (sort_of_variable g) q.params ≡ map (sort_of_variable g) place.params
  pub summands : All (SummandStands g ts ps met q.params) q.summands

-- each equation is that of the place with its number
abbrev pub AreEquations : Sig → List Tree → List PlainPlace → List ℕ → List PlainEquation → Type 0
AreEquations g ts ps met qs = (k : ℕ) (q : PlainEquation) → slice_get qs k ≡ Some q → (n : ℕ) × (slice_get met k ≡ Some n) × EquationStands g ts ps met n q

-- other variables of the same sorts, whose names differ
pub record ParametersStand (g h : Sig) (vars params : List VarId) : Type 0 where
  pub variables : All (IsVariable h) params
  pub sorts : map (sort_of_variable h) params ≡ map (sort_of_variable g) vars
  pub distinct : AreDistinct (numbers_of params)
  pub named : AreDistinct (map (λ m. m.0) (names_of h params))
  pub names : HasUsableNames h

-- the equation of a place was made, and nothing waits any more
pub record EquationMade (g : Sig) (ts : List Tree) (ps : List PlainPlace) (n : ℕ) (u v : PlainUnfolding) (q : PlainEquation) : Type 0 where
  pub names : HasUsableNames g
  pub met : BeginsWith u.met v.met
  pub met_there : All (λ (m : ℕ). m < length ps) v.met
  pub waiting : v.waiting ≡ []
  pub summands : v.summands ≡ []
  pub equation : EquationStands g ts ps v.met n q

-- each place that was met has its equation, and the first one is where the component starts
pub record FormMade (g : Sig) (ts : List Tree) (t : PlainPlaces) (qs : List PlainEquation) : Type 0 where
  pub names : HasUsableNames g
  pub met : List ℕ
  pub starts : slice_get met 0 ≡ Some t.start
  pub all : length met ≤ length qs
  pub equations : AreEquations g ts t.places met qs
