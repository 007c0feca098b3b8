-- Terms that are put in for variables, and what becomes of a term then.
use Rattle.std.specs.Prelude.{◌≡◌, ◌⊎◌, ℕ, List, map, Option, Some, None, slice_get}
use Rattle.std.specs.List.{All, AllZip}
use Rattle.data_theory.specs.declared.ids.VarId.{VarId}
use Rattle.data_theory.specs.declared.ids.TermId.{TermId}
use Rattle.data_theory.specs.Terms.{Term, put}
use Rattle.data_theory.specs.Declarations.{Data}
use Rattle.data_theory.specs.Environments.{Environment, term_in}
use Rattle.data_theory.specs.Keys.{Key}
use Rattle.data_theory.specs.Provable.{Equation}
use Rattle.data_theory.specs.Rewriting.{GoesTo, ChainOfMoreThan, Decision, yes_decided, no_decided, stuck, spent}
use Rattle.data_theory.specs.Signature.{Sig}
use Rattle.data_theory.specs.IdData.{data_meant}
use Rattle.data_theory.specs.IdTrees.{Tree}
use Rattle.data_rewriter.specs.declared.rewriter.Truth.{Truth}
use Rattle.data_rewriter.specs.declared.rewriter.Truth.TheVariants.{Yes, No, Stuck, Spent}
use Rattle.data_rewriter.specs.Standing.{IsTerm, term_at}
use Rattle.process_terms.specs.Labels.{Action, Label}
use Rattle.process_terms.specs.PlainProcesses.{PlainAction}

-- What becomes of a term with some fuel: what it goes to, or the term itself, where a chain of more uses starts at it.
abbrev pub IsRewritten : Data → List Equation → ℕ → Term → Term → Type 0
IsRewritten g own fuel t u = ((n : ℕ) × GoesTo g own t u n) ⊎ ((u ≡ t) × ChainOfMoreThan g own fuel t)

-- the arguments of an action, place by place
pub record ActionIsRewritten (g : Data) (own : List Equation) (fuel : ℕ) (a b : Action) : Type 0 where
  pub name : b.name ≡ a.name
  pub sorts : b.sorts ≡ a.sorts
  pub args : AllZip (IsRewritten g own fuel) a.args b.args

abbrev pub LabelIsRewritten : Data → List Equation → ℕ → Label → Label → Type 0
LabelIsRewritten g own fuel m n = AllZip (ActionIsRewritten g own fuel) m n

-- and next terms
pub data NextIsRewritten (g : Data) (own : List Equation) (fuel : ℕ) : Option (List Term) → Option (List Term) → Type 0 where
  both_end : NextIsRewritten g own fuel None None
  both_go_on : {ts us : List Term} → AllZip (IsRewritten g own fuel) ts us → NextIsRewritten g own fuel (Some ts) (Some us)

-- ---- in code
-- how the rewriter says that a term is decided
abbrev pub decision_of : Truth → Decision
decision_of Yes = yes_decided
decision_of No = no_decided
decision_of (Stuck t) = stuck
decision_of (Spent t) = spent

-- variables, each with the term that stands for it
abbrev pub environment_of : Sig → List Tree → List (VarId × TermId) → Environment
environment_of g ts by = map (λ (p : VarId × TermId). record { var = p.0.0; term = term_at g ts p.1 }) by

-- an action of the signature over terms of the pool
pub record IsActionOver (g : Sig) (ts : List Tree) (a : PlainAction) : Type 0 where
  pub key : Key
  pub stands : slice_get g.actions a.act.0 ≡ Some key
  pub args : All (IsTerm g ts) a.args

-- with the environment's terms put in, the term of the old pool becomes the one of the new pool
pub record IsRewrittenTerm (g : Sig) (own : List Equation) (fuel : ℕ) (e : Environment) (old new : List Tree) (t u : TermId) : Type 0 where
  pub term : IsTerm g new u
  pub becomes : IsRewritten (data_meant g) own fuel (put (term_in e) (term_at g old t)) (term_at g new u)

pub record IsRewrittenAction (g : Sig) (own : List Equation) (fuel : ℕ) (e : Environment) (old new : List Tree) (a b : PlainAction) : Type 0 where
  pub act : b.act ≡ a.act
  pub args : AllZip (IsRewrittenTerm g own fuel e old new) a.args b.args

pub data IsRewrittenNext (g : Sig) (own : List Equation) (fuel : ℕ) (e : Environment) (old new : List Tree) : Option (List TermId) → Option (List TermId) → Type 0 where
  no_next : IsRewrittenNext g own fuel e old new None None
  next_terms : {ids made : List TermId} → AllZip (IsRewrittenTerm g own fuel e old new) ids made → IsRewrittenNext g own fuel e old new (Some ids) (Some made)
