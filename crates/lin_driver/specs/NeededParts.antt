-- Conditions without needless parts `true`.
use Rattle.std.specs.Prelude.{◌≡◌, ◌==◌, Bool, false, List, [], ◌∷◌, map, cond, if◌then◌else◌, Contains}
use Rattle.std.specs.List.{AllZip}
use Rattle.data_theory.specs.Terms.{Term, boolean, conjunction, application, none, more, put}
use Rattle.data_theory.specs.Declarations.{HasSort}
use Rattle.data_theory.specs.Environments.{Environment, term_in}
use Rattle.data_theory.specs.IdTrees as trees
use Rattle.data_theory.specs.IdTrees.{Tree}
use Rattle.term_pool.specs.HeadTrees.{tree_at, IsIn}
use Rattle.process_terms.specs.Communication.{conjunction_of}
use Rattle.process_terms.specs.Theories.{Theory, Equal}
use Rattle.bisim_laws.specs.LinearProcesses.{Summand, Linear, is_true}
use Rattle.lps_core.specs.CanonicalConditions.{HasNoNeedlessTrue}
use Rattle.lps_core.specs.Conditions.{parts}
use Rattle.lps_core.specs.MadeTerms.{StandsIn}
use Rattle.lps_core.specs.PlainLinears.{PlainSummand, PlainLinear}
use Rattle.lps_core.specs.TreeConditions.{is_true_tree, conjunction_tree}

-- ---- what is left of a condition
-- A condition in front of the parts that are needed behind it, if there are any: it is one part, which is left out if it is `true`. If there
-- are none, the parts that it needs itself.
abbrev pub in_front : Term → List Term → List Term → List Term
in_front c own [] = own
in_front c own (d ∷ ds) = if is_true c then d ∷ ds else c ∷ d ∷ ds

-- the parts that a condition needs
abbrev pub needed_parts : Term → List Term
needed_parts (application conjunction (more x (more y none))) = in_front x (needed_parts x) (needed_parts y)
needed_parts c = if is_true c then [] else c ∷ []

-- the chain of these, or `true`
abbrev pub tidied : Term → Term
tidied c = conjunction_of (needed_parts c)

-- a linear process with what is left of its conditions
abbrev pub tidied_summand : Summand → Summand
tidied_summand s = record { sums = s.sums; condition = tidied s.condition; label = s.label; next = s.next }

abbrev pub tidied_linear : Linear → Linear
tidied_linear l = record { params = l.params; summands = map tidied_summand l.summands }

-- ---- over the trees of a pool
-- whether a tree is a `&&`
abbrev pub is_and_tree : Tree → Bool
is_and_tree (trees.function f (trees.more t (trees.more u trees.none))) = f.0 == 9
is_and_tree _ = false

abbrev pub tree_in_front : Tree → List Tree → List Tree → List Tree
tree_in_front t own [] = own
tree_in_front t own (u ∷ us) = if is_true_tree t then u ∷ us else t ∷ u ∷ us

abbrev pub needed_trees : Tree → List Tree
needed_trees (trees.function f (trees.more t (trees.more u trees.none))) = cond (f.0 == 9) (tree_in_front t (needed_trees t) (needed_trees u)) (trees.function f (trees.more t (trees.more u trees.none)) ∷ [])
needed_trees t = if is_true_tree t then [] else t ∷ []

abbrev pub tidied_tree : Tree → Tree
tidied_tree t = conjunction_tree (needed_trees t)

-- the same summand with what is left of its condition
pub record IsTidied (ts us : List Tree) (s t : PlainSummand) : Type 0 where
  pub sums : t.sums ≡ s.sums
  pub within : IsIn us t.condition
  pub condition : tree_at us t.condition ≡ tidied_tree (tree_at ts s.condition)
  pub label : t.label ≡ s.label
  pub next : t.next ≡ s.next

-- nothing but the conditions changes
pub record TidiesConditions (ts us : List Tree) (l k : PlainLinear) : Type 0 where
  pub params : k.params ≡ l.params
  pub init : k.init ≡ l.init
  pub summands : AllZip (IsTidied ts us) l.summands k.summands

-- ---- laws
abbrev pub TidiedConditionsHaveNoNeedlessTrue : Type 0
TidiedConditionsHaveNoNeedlessTrue = (c : Term) → HasNoNeedlessTrue (tidied c)

-- each part of what is left stands in the condition
abbrev pub TidiedPartsStandInTheCondition : Type 0
TidiedPartsStandInTheCondition = (c p : Term) → Contains (parts (tidied c)) p → StandsIn c p

-- what has none stays as it is
abbrev pub TidyConditionsStay : Type 0
TidyConditionsStay = (c : Term) → HasNoNeedlessTrue c → tidied c ≡ c

-- and what is left is provably equal to it, once terms are put in that close it
abbrev pub TidiedConditionsAreEqual : Type 0
TidiedConditionsAreEqual = (th : Theory) (e : Environment) (c : Term) → HasSort th.declared [] (put (term_in e) c) boolean → Equal th (put (term_in e) c) (put (term_in e) (tidied c))
