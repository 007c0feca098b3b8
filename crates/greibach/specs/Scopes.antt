-- Scopes of variables in process terms.
use Rattle.std.specs.Prelude.{◌≡◌, ℕ, List, [], ◌∷◌, Some, slice_get, Contains}
use Rattle.data_theory.specs.Environments.{AreDistinct}
use Rattle.process_terms.specs.PlainProcesses.{PlainModel, PlainComponent}
use Rattle.process_terms.specs.Meanings.{Entries, table_of, component_body}
use Rattle.proc_unfold.specs.Parallel.{IsSequential}
use Rattle.process_terms.specs.Processes.{Body, written_delta, written_act, written_choice, written_seq, written_cond, written_sum, written_call, written_merge, written_starting, written_around, Definition, Table}

-- over these variables, no sum binds one that is in scope
abbrev pub BindsAnew : List ℕ → Body → Type 0
BindsAnew xs written_delta = Unit {0}
BindsAnew xs (written_act m) = Unit {0}
BindsAnew xs (written_choice p q) = BindsAnew xs p × BindsAnew xs q
BindsAnew xs (written_seq p q) = BindsAnew xs p × BindsAnew xs q
BindsAnew xs (written_cond c p q) = BindsAnew xs p × BindsAnew xs q
BindsAnew xs (written_sum x p) = (Contains xs x.var → ⊥) × BindsAnew (x.var ∷ xs) p
BindsAnew xs (written_call x ts) = Unit {0}
BindsAnew xs (written_merge p q) = BindsAnew xs p × BindsAnew xs q
BindsAnew xs (written_starting start p q) = BindsAnew xs p × BindsAnew xs q
BindsAnew xs (written_around o p) = BindsAnew xs p

-- the parameters differ
pub record HasOwnVariables (f : Definition) : Type 0 where
  pub distinct : AreDistinct f.params
  pub binds : BindsAnew f.params f.body

-- of each definition, and of a term without variables in scope
pub record HaveOwnVariables (d : Table) (p : Body) : Type 0 where
  pub definitions : (x : ℕ) (f : Definition) → slice_get d x ≡ Some f → HasOwnVariables f
  pub start : BindsAnew [] p

-- ---- of a component of a specification, whatever stands under its numbers
abbrev pub HasSequentialBodies : PlainModel → PlainComponent → Type 0
HasSequentialBodies m c = (e : Entries) → IsSequential (table_of e m.definitions) (component_body e c)

abbrev pub BindsItsVariablesOnce : PlainModel → PlainComponent → Type 0
BindsItsVariablesOnce m c = (e : Entries) → HaveOwnVariables (table_of e m.definitions) (component_body e c)

-- ---- laws
-- one way to read the numbers tells it for all
abbrev pub SequentialBodiesAreSequential : Type 0
SequentialBodiesAreSequential = (e : Entries) (m : PlainModel) (c : PlainComponent) → IsSequential (table_of e m.definitions) (component_body e c) → HasSequentialBodies m c

abbrev pub VariablesAreBoundOnce : Type 0
VariablesAreBoundOnce = (e : Entries) (m : PlainModel) (c : PlainComponent) → HaveOwnVariables (table_of e m.definitions) (component_body e c) → BindsItsVariablesOnce m c
