-- The listed values of sum variables.
use Rattle.std.specs.Prelude.{◌≡◌, ◌↔◌, ℕ, Bool, not, List, [], map, IsTrue}
use Rattle.std.specs.List.{All, AllZip, list_any}
use Rattle.data_theory.specs.declared.ids.SortId.{SortId}
use Rattle.data_theory.specs.declared.ids.VarId.{VarId}
use Rattle.data_theory.specs.declared.ids.TermId.{TermId}
use Rattle.data_theory.specs.Terms.{Term}
use Rattle.data_theory.specs.Declarations.{HasSort}
use Rattle.data_theory.specs.Signature.{Sig}
use Rattle.data_theory.specs.IdData.{data_meant}
use Rattle.data_theory.specs.IdTrees.{Tree}
use Rattle.data_theory.specs.IdTerms.{sort_under, term_under}
use Rattle.term_pool.specs.ConstructorValues.{ConstructorValue}
use Rattle.value_enum.specs.Values.{AreFirst, AreWhole, value_tree}
use Rattle.data_rewriter.specs.Standing.{term_at}
use Rattle.lps_core.specs.Fitting.{IsTermOf, sort_of_variable}

-- the term of a value
abbrev pub value_term : Sig → ConstructorValue → Term
value_term g v = term_under g (value_tree v)

-- terms, and whether there are no others
pub record Listed : Type 0 where
  pub terms : List Term
  pub whole : Bool

-- These are the first values of a variable's sort for a bound, in their order, and it is told whether the sort has no others.
pub record AreListedFor (g : Sig) (bound : ℕ) (x : VarId) (found : Listed) : Type 0 where
  pub values : List ConstructorValue
  pub first : AreFirst g (sort_of_variable g x) bound values
  pub terms : found.terms ≡ map (value_term g) values
  pub whole : IsTrue found.whole ↔ AreWhole g (sort_of_variable g x) values

abbrev pub terms_of_each : List Listed → List (List Term)
terms_of_each found = map (λ (l : Listed). l.terms) found

-- some variable has others
abbrev pub is_cut : List Listed → Bool
is_cut found = list_any (λ (l : Listed). not l.whole) found

-- ---- in a pool
-- a closed term with a sort of the signature
pub record IsClosedTerm (g : Sig) (ts : List Tree) (s : SortId) (id : TermId) : Type 0 where
  pub term : IsTermOf g ts s id
  pub closed : HasSort (data_meant g) [] (term_at g ts id) (sort_under g s)

-- closed terms of the variables' sorts, for each of these variables
abbrev pub AreListsFor : Sig → List Tree → List VarId → List (List TermId) → Type 0
AreListsFor g ts xs lists = AllZip (λ (x : VarId) (ids : List TermId). All (IsClosedTerm g ts (sort_of_variable g x)) ids) xs lists

pub record AreSumValues (g : Sig) (bound : ℕ) (ts : List Tree) (xs : List VarId) (lists : List (List TermId)) (cut : Bool) : Type 0 where
  pub listed : List Listed
  pub each : AllZip (AreListedFor g bound) xs listed
  pub closed : AreListsFor g ts xs lists
  pub terms : map (map (term_at g ts)) lists ≡ terms_of_each listed
  pub cut_is : cut ≡ is_cut listed
