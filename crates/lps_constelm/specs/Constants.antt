-- Parameters that keep their initial terms.
use Rattle.std.specs.Prelude.{◌≡◌, ℕ, List, [], ◌∷◌, map, option_map}
use Rattle.std.specs.List.{Contains}
use Rattle.data_theory.specs.Terms.{Term, put}
use Rattle.data_theory.specs.Environments.{Environment, term_in, bound_variables}
use Rattle.process_terms.specs.Labels.{put_label}
use Rattle.bisim_laws.specs.LinearProcesses.{Summand, Linear, variables}
use Rattle.bisim_laws.specs.BaseStates.{Fate, kept, constant, not_needed}
use Rattle.lps_parelm.specs.Keeping.{keep}
use Rattle.lps_parelm.specs.Needed.{IsNextTerm}

-- ---- sets
-- a set of parameters, each with its initial term; the others are kept
abbrev pub AreInitial : List Fate → List Term → Type 0
AreInitial [] [] = Unit {0}
AreInitial [] (t ∷ ts) = ⊥
AreInitial (f ∷ fates) [] = ⊥
AreInitial (kept ∷ fates) (t ∷ ts) = AreInitial fates ts
AreInitial (constant c ∷ fates) (t ∷ ts) = (c ≡ t) × AreInitial fates ts
AreInitial (not_needed ∷ fates) (t ∷ ts) = ⊥

-- the initial terms that are put in for the parameters of a set
abbrev pub put_in : List Fate → List ℕ → Environment
put_in [] xs = []
put_in (f ∷ fates) [] = []
put_in (kept ∷ fates) (x ∷ xs) = put_in fates xs
put_in (constant t ∷ fates) (x ∷ xs) = record { var = x; term = t } ∷ put_in fates xs
put_in (not_needed ∷ fates) (x ∷ xs) = put_in fates xs

abbrev pub putting : List Fate → Linear → Environment
putting fates l = put_in fates (variables l.params)

abbrev pub members : List Fate → Linear → List ℕ
members fates l = bound_variables (putting fates l)

-- Each next term of each of them, with the initial terms of all of them put in, is its initial term, as the same tree.
pub record IsConstantSet (l : Linear) (init : List Term) (fates : List Fate) : Type 0 where
  pub initial : AreInitial fates init
  pub stays : (v : ℕ) (t : Term) → Contains (members fates l) v → IsNextTerm l v t → put (term_in (putting fates l)) t ≡ term_in (putting fates l) v

-- it has the parameters of each other one
pub record IsGreatestConstantSet (l : Linear) (init : List Term) (fates : List Fate) : Type 0 where
  pub constant_set : IsConstantSet l init fates
  pub greatest : (others : List Fate) → IsConstantSet l init others → (v : ℕ) → Contains (members others l) v → Contains (members fates l) v

abbrev pub HasNoConstantSet : Linear → List Term → Type 0
HasNoConstantSet l init = (fates : List Fate) → IsConstantSet l init fates → members fates l ≡ []

-- ---- the process without them
abbrev pub put_summand : Environment → List Fate → Summand → Summand
put_summand r fates s = record { sums = s.sums; condition = put (term_in r) s.condition; label = put_label r s.label; next = option_map (λ ts. map (put (term_in r)) (keep fates ts)) s.next }

-- the kept parameters, with the initial terms put in for the others
abbrev pub without_constants : List Fate → Linear → Linear
without_constants fates l = record { params = keep fates l.params; summands = map (put_summand (putting fates l) fates) l.summands }

-- what happens to the parameters first, and then to those that are left
abbrev pub then_fates : List Fate → List Fate → List Fate
then_fates [] later = []
then_fates (kept ∷ fates) [] = kept ∷ then_fates fates []
then_fates (kept ∷ fates) (f ∷ later) = f ∷ then_fates fates later
then_fates (constant t ∷ fates) later = constant t ∷ then_fates fates later
then_fates (not_needed ∷ fates) later = not_needed ∷ then_fates fates later
