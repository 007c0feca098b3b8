-- What becomes of a linear process where its terms are simplified.
use Rattle.std.specs.Prelude.{◌≡◌, ℕ, List, Option, Some, None}
use Rattle.std.specs.List.{All, AllZip}
use Rattle.data_theory.specs.Terms.{Sort, Term, put}
use Rattle.data_theory.specs.Declarations.{Data, HasSort}
use Rattle.data_theory.specs.Environments.{IsOver}
use Rattle.data_theory.specs.Provable.{Equation, ProvablyEqual}
use Rattle.data_theory.specs.Rewriting.{AreSorts, Closes}
use Rattle.data_theory.specs.Signature.{Sig}
use Rattle.data_theory.specs.IdData.{data_meant}
use Rattle.data_rewriter.specs.Simplifying.{AreLater}
use Rattle.process_terms.specs.Labels.{Action}
use Rattle.bisim_laws.specs.LinearProcesses.{Summand, Linear}

-- A simple term with the sort of t and without a variable that t hasn't, which is provably equal to t in every closed instance over all
-- later data.
pub record IsSimplerTerm (g : Sig) (own : List Equation) (IsSimple : Term → Type 0) (t u : Term) : Type 0 where
  pub simple : IsSimple u
  pub variables : (xs : List ℕ) → IsOver xs t → IsOver xs u
  pub sort : (vs : List Sort) → AreSorts (data_meant g) vs → (s : Sort) → HasSort (data_meant g) vs t s → HasSort (data_meant g) vs u s
  pub equal : (vs : List Sort) → AreSorts (data_meant g) vs → (s : Sort) → HasSort (data_meant g) vs t s → (h : Data) (theirs : List Equation) → AreLater g own h theirs → (e : ℕ → Term) → Closes h vs e
      → ProvablyEqual h theirs (put e t) (put e u)

-- ---- term by term
pub record ActionBecomes (R : Term → Term → Type 0) (a b : Action) : Type 0 where
  pub name : b.name ≡ a.name
  pub sorts : b.sorts ≡ a.sorts
  pub args : AllZip R a.args b.args

pub data NextBecomes (R : Term → Term → Type 0) : Option (List Term) → Option (List Term) → Type 0 where
  both_end : NextBecomes R None None
  both_go_on : {ts us : List Term} → AllZip R ts us → NextBecomes R (Some ts) (Some us)

pub record SummandBecomes (R : Term → Term → Type 0) (s t : Summand) : Type 0 where
  pub sums : t.sums ≡ s.sums
  pub condition : R s.condition t.condition
  pub label : AllZip (ActionBecomes R) s.label t.label
  pub next : NextBecomes R s.next t.next

-- l with its initial terms becomes k with its own, by what R says of each term
pub record Becomes (R : Term → Term → Type 0) (l : Linear) (init : List Term) (k : Linear) (first : List Term) : Type 0 where
  pub params : k.params ≡ l.params
  pub initial : AllZip R init first
  pub summands : AllZip (SummandBecomes R) l.summands k.summands

-- ---- all terms
pub record IsAllOfSummand (P : Term → Type 0) (s : Summand) : Type 0 where
  pub condition : P s.condition
  pub label : All (λ (a : Action). All P a.args) s.label
  pub next : (ts : List Term) → s.next ≡ Some ts → All P ts

-- what holds of each term of a linear process and of each initial one
pub record IsAllOf (P : Term → Type 0) (l : Linear) (init : List Term) : Type 0 where
  pub initial : All P init
  pub summands : All (IsAllOfSummand P) l.summands
