-- What labels, process terms and specifications in code mean: the written ones that they stand for.
use Rattle.std.specs.Prelude.{◌<◌, ◌+◌, ℕ, List, [], ◌∷◌, map, length, take, get_or, All, max}
use Rattle.data_theory.specs.Terms.{Sort, boolean, Term}
use Rattle.data_theory.specs.Environments.{IsOver}
use Rattle.data_theory.specs.Equations.{trueᵗ}
use Rattle.data_theory.specs.Declarations.{Data}
use Rattle.data_theory.specs.Complete.{BeginsWith}
use Rattle.data_theory.specs.Provable.{Equation}
use Rattle.data_theory.specs.declared.ids.NameId.{NameId}
use Rattle.data_theory.specs.declared.ids.ActId.{ActId}
use Rattle.data_theory.specs.declared.ids.VarId.{VarId}
use Rattle.data_theory.specs.declared.ids.TermId.{TermId}
use Rattle.process_terms.specs.Names.{Name}
use Rattle.process_terms.specs.Theories.{Theory}
use Rattle.process_terms.specs.Labels.{Action, Label}
use Rattle.process_terms.specs.Communication.{Rule}
use Rattle.process_terms.specs.Processes as written
use Rattle.process_terms.specs.Processes.{Renaming, Around, Bound, Body, written_delta, written_act, written_seq, written_cond, written_call, written_starting, written_around, choice_of, seq_of, merge_of, sync_of, sums_around, Definition, Table, Process, close}
use Rattle.process_terms.specs.PlainProcesses.{PlainAction, PlainRule, PlainAround, allow, block, hide, rename, comm, PlainProcess, PlainProcesses, delta, act, call, choice, seq, cond, sum, merge, left_merge, sync, around, no_processes, more_processes, PlainDefinition, PlainEquation, PlainModel, PlainComponent, call_of, term_of}

-- an action of a text
pub record ActionEntry : Type 0 where
  pub name : Name
  pub sorts : List Sort

-- what stands under the numbers in code, each from 0: the texts, the actions, the sorts of the variables, and the terms
pub record Entries : Type 0 where
  pub texts : List Name
  pub actions : List ActionEntry
  pub variables : List Sort
  pub terms : List Term

-- what stands under a number; where nothing does, anything will do
abbrev pub name_at : Entries → NameId → Name
name_at g n = get_or g.texts n.0 []

abbrev pub action_at : Entries → ActId → ActionEntry
action_at g a = get_or g.actions a.0 (record { name = []; sorts = [] })

abbrev pub bound_at : Entries → VarId → Bound
bound_at g x = record { var = x.0; sort = get_or g.variables x.0 boolean }

abbrev pub term_at : Entries → TermId → Term
term_at g t = get_or g.terms t.0 trueᵗ

-- ---- meanings
abbrev pub action_of : Entries → PlainAction → Action
action_of g a = record { name = (action_at g a.act).name; sorts = (action_at g a.act).sorts; args = map (term_at g) a.args }

abbrev pub label_of : Entries → List PlainAction → Label
label_of g m = map (action_of g) m

abbrev pub rule_of : Entries → PlainRule → Rule
rule_of g c = record { left = map (name_at g) c.left; result = name_at g c.result }

abbrev pub renaming_of : Entries → NameId × NameId → Renaming
renaming_of g r = record { from = name_at g r.0; to = name_at g r.1 }

abbrev pub around_of : Entries → PlainAround → Around
around_of g (allow sets) = written.allow (map (map (name_at g)) sets)
around_of g (block names) = written.block (map (name_at g) names)
around_of g (hide names) = written.hide (map (name_at g) names)
around_of g (rename renamings) = written.rename (map (renaming_of g) renamings)
around_of g (comm rules) = written.comm (map (rule_of g) rules)

abbrev mutual
  pub body_of : Entries → PlainProcess → Body
  body_of g delta = written_delta
  body_of g (act m) = written_act (label_of g m)
  body_of g (call x ts) = written_call x.0 (map (term_at g) ts)
  body_of g (choice ps) = choice_of (bodies_of g ps)
  body_of g (seq ps) = seq_of (bodies_of g ps)
  body_of g (cond c p q) = written_cond (term_at g c) (body_of g p) (body_of g q)
  body_of g (sum xs p) = sums_around (map (bound_at g) xs) (body_of g p)
  body_of g (merge ps) = merge_of (bodies_of g ps)
  body_of g (left_merge p q) = written_starting written.left_merge (body_of g p) (body_of g q)
  body_of g (sync ps) = sync_of (bodies_of g ps)
  body_of g (around o p) = written_around (around_of g o) (body_of g p)

  pub bodies_of : Entries → PlainProcesses → List Body
  bodies_of g no_processes = []
  bodies_of g (more_processes p ps) = body_of g p ∷ bodies_of g ps

abbrev pub definition_of : Entries → PlainDefinition → Definition
definition_of g d = record { params = map (λ (x : VarId). x.0) d.params; body = body_of g d.body }

abbrev pub table_of : Entries → List PlainDefinition → Table
table_of g ds = map (definition_of g) ds

-- a number above those of the variables
abbrev pub above : List VarId → ℕ
above [] = 0
above (x ∷ xs) = max (x.0 + 1) (above xs)

-- the sorts of an equation are those of the variables up to its own last one
abbrev pub equation_of : Entries → PlainEquation → Equation
equation_of g q = record { sorts = take (above q.variables) g.variables; condition = term_at g q.condition; left = term_at g q.left; right = term_at g q.right }

-- the theory of a specification, over what the signature declares
abbrev pub theory_of : Data → Entries → PlainModel → Theory
theory_of d g m = record { declared = d; equations = map (equation_of g) m.equations }

-- the closed process that starts
abbrev pub process_of : Entries → PlainModel → Process
process_of g m = close (table_of g m.definitions) [] (body_of g m.init)

abbrev pub component_body : Entries → PlainComponent → Body
component_body g (call_of x ts) = written_call x.0 (map (term_at g) ts)
component_body g (term_of p) = body_of g p

-- ---- something stands under each number
abbrev pub HasName : Entries → NameId → Type 0
HasName g n = n.0 < length g.texts

abbrev pub HasTerm : Entries → TermId → Type 0
HasTerm g t = t.0 < length g.terms

abbrev pub HasVariable : Entries → VarId → Type 0
HasVariable g x = x.0 < length g.variables

abbrev pub HasAction : Entries → PlainAction → Type 0
HasAction g a = (a.act.0 < length g.actions) × All (HasTerm g) a.args

abbrev pub HasLabel : Entries → List PlainAction → Type 0
HasLabel g m = All (HasAction g) m

abbrev pub HasRule : Entries → PlainRule → Type 0
HasRule g c = All (HasName g) c.left × HasName g c.result

abbrev pub HasRenaming : Entries → NameId × NameId → Type 0
HasRenaming g r = HasName g r.0 × HasName g r.1

abbrev pub HasAround : Entries → PlainAround → Type 0
HasAround g (allow sets) = All (All (HasName g)) sets
HasAround g (block names) = All (HasName g) names
HasAround g (hide names) = All (HasName g) names
HasAround g (rename renamings) = All (HasRenaming g) renamings
HasAround g (comm rules) = All (HasRule g) rules

abbrev mutual
  pub HasProcess : Entries → PlainProcess → Type 0
  HasProcess g delta = Unit {0}
  HasProcess g (act m) = HasLabel g m
  HasProcess g (call x ts) = All (HasTerm g) ts
  HasProcess g (choice ps) = HasProcesses g ps
  HasProcess g (seq ps) = HasProcesses g ps
  HasProcess g (cond c p q) = HasTerm g c × HasProcess g p × HasProcess g q
  HasProcess g (sum xs p) = All (HasVariable g) xs × HasProcess g p
  HasProcess g (merge ps) = HasProcesses g ps
  HasProcess g (left_merge p q) = HasProcess g p × HasProcess g q
  HasProcess g (sync ps) = HasProcesses g ps
  HasProcess g (around o p) = HasAround g o × HasProcess g p

  pub HasProcesses : Entries → PlainProcesses → Type 0
  HasProcesses g no_processes = Unit {0}
  HasProcesses g (more_processes p ps) = HasProcess g p × HasProcesses g ps

abbrev pub HasDefinition : Entries → PlainDefinition → Type 0
HasDefinition g d = All (HasVariable g) d.params × HasProcess g d.body

-- the variables of a term are all among these
abbrev pub ReadsOnly : Entries → List VarId → TermId → Type 0
ReadsOnly g xs t = IsOver (map (λ (x : VarId). x.0) xs) (term_at g t)

-- the condition and the sides of an equation are over its own variables
abbrev pub HasEquation : Entries → PlainEquation → Type 0
HasEquation g q =
    All (HasVariable g) q.variables × HasTerm g q.condition × HasTerm g q.left × HasTerm g q.right
    × ReadsOnly g q.variables q.condition × ReadsOnly g q.variables q.left × ReadsOnly g q.variables q.right

abbrev pub HasModel : Entries → PlainModel → Type 0
HasModel g m = All (HasEquation g) m.equations × All (HasDefinition g) m.definitions × HasProcess g m.init

abbrev pub HasComponent : Entries → PlainComponent → Type 0
HasComponent g (call_of x ts) = All (HasTerm g) ts
HasComponent g (term_of p) = HasProcess g p

-- ---- growth
-- new entries come behind the old ones
pub record Grows (old new : Entries) : Type 0 where
  pub texts : BeginsWith old.texts new.texts
  pub actions : BeginsWith old.actions new.actions
  pub variables : BeginsWith old.variables new.variables
  pub terms : BeginsWith old.terms new.terms
