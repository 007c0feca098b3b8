-- What parts of a process in code stand for, here and wherever more is added.
use Rattle.std.specs.Prelude.{◌≡◌, List, map}
use Rattle.std.specs.List.{All}
use Rattle.data_theory.specs.declared.ids.VarId.{VarId}
use Rattle.data_theory.specs.declared.ids.TermId.{TermId}
use Rattle.data_theory.specs.Terms.{Term}
use Rattle.data_theory.specs.Signature.{Sig}
use Rattle.term_pool.specs.Pools.{PoolContents}
use Rattle.process_terms.specs.Labels.{Label}
use Rattle.process_terms.specs.Processes.{Around, Body, Bound}
use Rattle.process_terms.specs.PlainProcesses.{PlainAction, PlainAround, PlainProcess, processes_of}
use Rattle.process_terms.specs.Meanings.{term_at, label_of, around_of, bound_at, body_of, bodies_of, HasTerm, HasLabel, HasAround, HasVariable, HasProcess, HasProcesses}
use Rattle.process_terms.specs.SignatureEntries.{entries_of}
use Rattle.sort_checker.specs.Additions.{GoesOn}

-- the number is that of the term
pub record IsTerm (g : Sig) (p : PoolContents) (id : TermId) (t : Term) : Type 0 where
  pub there : (h : Sig) (q : PoolContents) → GoesOn g p h q → HasTerm (entries_of h q.trees) id
  pub means : (h : Sig) (q : PoolContents) → GoesOn g p h q → term_at (entries_of h q.trees) id ≡ t

pub record AreTerms (g : Sig) (p : PoolContents) (ids : List TermId) (ts : List Term) : Type 0 where
  pub there : (h : Sig) (q : PoolContents) → GoesOn g p h q → All (HasTerm (entries_of h q.trees)) ids
  pub means : (h : Sig) (q : PoolContents) → GoesOn g p h q → map (term_at (entries_of h q.trees)) ids ≡ ts

-- the actions stand for the label
pub record IsLabel (g : Sig) (p : PoolContents) (as_ : List PlainAction) (m : Label) : Type 0 where
  pub there : (h : Sig) (q : PoolContents) → GoesOn g p h q → HasLabel (entries_of h q.trees) as_
  pub means : (h : Sig) (q : PoolContents) → GoesOn g p h q → label_of (entries_of h q.trees) as_ ≡ m

-- the operator, whose names are numbers, stands for the one of the text
pub record IsAround (g : Sig) (o : PlainAround) (around : Around) : Type 0 where
  pub there : (h : Sig) (p q : PoolContents) → GoesOn g p h q → HasAround (entries_of h q.trees) o
  pub means : (h : Sig) (p q : PoolContents) → GoesOn g p h q → around_of (entries_of h q.trees) o ≡ around

-- the variables stand for the binders
pub record AreBinders (g : Sig) (xs : List VarId) (bs : List Bound) : Type 0 where
  pub there : (h : Sig) (p q : PoolContents) → GoesOn g p h q → All (HasVariable (entries_of h q.trees)) xs
  pub means : (h : Sig) (p q : PoolContents) → GoesOn g p h q → map (bound_at (entries_of h q.trees)) xs ≡ bs

-- the process term in code stands for the body
pub record IsBody (g : Sig) (p : PoolContents) (x : PlainProcess) (b : Body) : Type 0 where
  pub there : (h : Sig) (q : PoolContents) → GoesOn g p h q → HasProcess (entries_of h q.trees) x
  pub means : (h : Sig) (q : PoolContents) → GoesOn g p h q → body_of (entries_of h q.trees) x ≡ b

pub record AreBodies (g : Sig) (p : PoolContents) (xs : List PlainProcess) (bs : List Body) : Type 0 where
  pub there : (h : Sig) (q : PoolContents) → GoesOn g p h q → HasProcesses (entries_of h q.trees) (processes_of xs)
  pub means : (h : Sig) (q : PoolContents) → GoesOn g p h q → bodies_of (entries_of h q.trees) (processes_of xs) ≡ bs
