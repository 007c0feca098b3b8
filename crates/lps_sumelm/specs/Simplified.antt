-- Summands whose terms were simplified.
use Rattle.std.specs.Prelude.{◌≡◌, ℕ, List, Option, Some, None}
use Rattle.std.specs.List.{AllByRecursion, AllZip}
use Rattle.data_theory.specs.Terms.{Sort, Term, put}
use Rattle.data_theory.specs.Declarations.{Data, HasSort}
use Rattle.data_theory.specs.Environments.{IsOver}
use Rattle.data_theory.specs.Provable.{Equation, ProvablyEqual}
use Rattle.data_theory.specs.Rewriting.{AreSorts, Closes}
use Rattle.data_theory.specs.Signature.{Sig}
use Rattle.data_theory.specs.IdData.{data_meant}
use Rattle.data_rewriter.specs.Simplifying.{AreLater}
use Rattle.process_terms.specs.Labels.{Action}
use Rattle.bisim_laws.specs.LinearProcesses.{Summand}

-- What a simplifier may answer for a term: a simple one with the term's sort, without a variable that the term hasn't, and provably equal
-- to it in every closed instance over all later data.
pub record IsAnswer (g : Sig) (own : List Equation) (IsSimple : Term → Type 0) (t u : Term) : Type 0 where
  pub variables : (xs : List ℕ) → IsOver xs t → IsOver xs u
  pub sort : (vs : List Sort) → AreSorts (data_meant g) vs → (s : Sort) → HasSort (data_meant g) vs t s → HasSort (data_meant g) vs u s
  pub equal : (vs : List Sort) → AreSorts (data_meant g) vs → (s : Sort) → HasSort (data_meant g) vs t s → (h : Data) (theirs : List Equation) → AreLater g own h theirs → (e : ℕ → Term) → Closes h vs e
      → ProvablyEqual h theirs (put e t) (put e u)
  pub simple : IsSimple u

-- ---- summands, by what terms may become
pub record ActionBecomes (To : Term → Term → Type 0) (a b : Action) : Type 0 where
  pub name : b.name ≡ a.name
  pub sorts : b.sorts ≡ a.sorts
  pub args : AllZip To a.args b.args

pub data NextBecomes (To : Term → Term → Type 0) : Option (List Term) → Option (List Term) → Type 0 where
  neither_goes_on : NextBecomes To None None
  both_go_on : {ts us : List Term} → AllZip To ts us → NextBecomes To (Some ts) (Some us)

-- each term of the summand becomes one that it may
pub record SummandBecomes (To : Term → Term → Type 0) (s t : Summand) : Type 0 where
  pub sums : t.sums ≡ s.sums
  pub condition : To s.condition t.condition
  pub label : AllZip (ActionBecomes To) s.label t.label
  pub next : NextBecomes To s.next t.next

-- ---- all terms of a summand
abbrev pub NextHas : (Term → Type 0) → Option (List Term) → Type 0
NextHas P None = Unit {0}
NextHas P (Some ts) = AllByRecursion P ts

pub record EachTermIs (P : Term → Type 0) (s : Summand) : Type 0 where
  pub condition : P s.condition
  pub label : AllByRecursion (λ (a : Action). AllByRecursion P a.args) s.label
  pub next : NextHas P s.next
