-- Runs of a simplifier over several terms.
use Rattle.std.specs.Prelude.{◌≡◌, ◌↔◌, List, Option, Some, None, IfSome}
use Rattle.std.specs.List.{All, AllZip}
use Rattle.data_theory.specs.declared.ids.TermId.{TermId}
use Rattle.data_theory.specs.Provable.{Equation}
use Rattle.data_theory.specs.Signature.{Sig}
use Rattle.data_theory.specs.Terms.{Term}
use Rattle.data_theory.specs.IdTrees.{Tree}
use Rattle.term_pool.specs.Pools.{Extends}
use Rattle.process_terms.specs.PlainProcesses.{PlainAction}
use Rattle.lps_core.specs.PlainLinears.{PlainSummand, PlainLinear}
use Rattle.data_rewriter.specs.Standing.{IsTerm, term_at}
use Rattle.data_rewriter.specs.Simplifying.{AreWellFormed}
use Rattle.lps_constelm.specs.Simplified.{IsSimplerTerm}

-- ---- terms of the data
abbrev pub AreTerms : Sig → List Tree → List TermId → Type 0
AreTerms g ts ids = All (IsTerm g ts) ids

abbrev pub IsActionWithin : Sig → List Tree → PlainAction → Type 0
IsActionWithin g ts a = AreTerms g ts a.args

pub record IsSummandWithin (g : Sig) (ts : List Tree) (s : PlainSummand) : Type 0 where
  pub condition : IsTerm g ts s.condition
  pub label : All (IsActionWithin g ts) s.label
  pub next : IfSome s.next (AreTerms g ts)

pub record IsLinearWithin (g : Sig) (ts : List Tree) (l : PlainLinear) : Type 0 where
  pub init : AreTerms g ts l.init
  pub summands : All (IsSummandWithin g ts) l.summands

-- ---- what has become of them
pub record TermBecomes (g : Sig) (own : List Equation) (IsSimple : Term → Type 0) (ts us : List Tree) (t u : TermId) : Type 0 where
  pub within : IsTerm g us u
  pub simpler : IsSimplerTerm g own IsSimple (term_at g ts t) (term_at g us u)

pub record ActionBecomes (g : Sig) (own : List Equation) (IsSimple : Term → Type 0) (ts us : List Tree) (a b : PlainAction) : Type 0 where
  pub act : b.act ≡ a.act
  pub args : AllZip (TermBecomes g own IsSimple ts us) a.args b.args

pub data NextBecomes (g : Sig) (own : List Equation) (IsSimple : Term → Type 0) (ts us : List Tree) : Option (List TermId) → Option (List TermId) → Type 0 where
  both_end : NextBecomes g own IsSimple ts us None None
  both_go_on : {xs ys : List TermId} → AllZip (TermBecomes g own IsSimple ts us) xs ys → NextBecomes g own IsSimple ts us (Some xs) (Some ys)

pub record SummandBecomes (g : Sig) (own : List Equation) (IsSimple : Term → Type 0) (ts us : List Tree) (s t : PlainSummand) : Type 0 where
  pub sums : t.sums ≡ s.sums
  pub condition : TermBecomes g own IsSimple ts us s.condition t.condition
  pub label : AllZip (ActionBecomes g own IsSimple ts us) s.label t.label
  pub next : NextBecomes g own IsSimple ts us s.next t.next

pub record LinearBecomes (g : Sig) (own : List Equation) (IsSimple : Term → Type 0) (ts us : List Tree) (l k : PlainLinear) : Type 0 where
  pub params : k.params ≡ l.params
  pub init : AllZip (TermBecomes g own IsSimple ts us) l.init k.init
  pub summands : AllZip (SummandBecomes g own IsSimple ts us) l.summands k.summands

-- ---- runs
-- From the first state of a simplifier and a pool to the second ones: the simplifier fits still where it fitted and what it was given is fine,
-- and the same terms are simple.
pub record Runs (fits fits' : Sig → List Equation → List Tree → Type 0) (simple simple' : Sig → List Equation → Term → Type 0) (IsFine : Sig → Type 0) (ts us : List Tree) : Type 0 where
  pub kept : Extends ts us
  pub fitting : (g : Sig) (own : List Equation) → fits g own ts → IsFine g → fits' g own us
  pub same : (g : Sig) (own : List Equation) (t : Term) → simple' g own t ↔ simple g own t

-- over data that the simplifier fits, with well-formed equations, this was made
abbrev pub Makes : (Sig → List Equation → List Tree → Type 0) → (Sig → List Equation → Term → Type 0) → (Sig → Type 0) → List Tree → (Sig → List Equation → (Term → Type 0) → Type 0) → Type 0
Makes fits simple IsFine ts IsMade = (g : Sig) (own : List Equation) → fits g own ts → AreWellFormed g own → IsFine g → IsMade g own (simple g own)
