-- Process terms that are the same but for the numbers of bound variables.
use Rattle.std.specs.Prelude.{◌≡◌, ℕ, List, length}
use Rattle.data_theory.specs.Terms.{Sort, Term}
use Rattle.data_theory.specs.Environments.{bound}
use Rattle.process_terms.specs.Labels.{Label}
use Rattle.process_terms.specs.Processes.{Around, Start, Definition, Table, Process, delta, act, choice, seq, cond, sum, call, merge, starting, around, close}
use Rattle.sort_table.specs.Vocabularies.{EachPair}

-- as many parameters, and the same process for the same arguments, under whatever table
pub record SameDefinition (f g : Definition) : Type 0 where
  pub params : length f.params ≡ length g.params
  pub bodies : (d : Table) (ts : List Term) → length ts ≡ length f.params → close d (bound f.params ts) f.body ≡ close d (bound g.params ts) g.body

abbrev pub SameDefinitions : Table → Table → Type 0
SameDefinitions d e = EachPair SameDefinition d e

-- Closed terms have no variables but those that definitions bind: they are the same but for the definitions of their calls.
pub data SameProcess : Process → Process → Type 0 where
  same_delta : SameProcess delta delta
  same_act : {m : Label} → SameProcess (act m) (act m)
  same_choice : {p p' q q' : Process} → SameProcess p p' → SameProcess q q' → SameProcess (choice p q) (choice p' q')
  same_seq : {p p' q q' : Process} → SameProcess p p' → SameProcess q q' → SameProcess (seq p q) (seq p' q')
  same_cond : {c : Term} {p p' q q' : Process} → SameProcess p p' → SameProcess q q' → SameProcess (cond c p q) (cond c p' q')
  same_sum : {s : Sort} {f g : Term → Process} → ((t : Term) → SameProcess (f t) (g t)) → SameProcess (sum s f) (sum s g)
  same_call : {d e : Table} {x : ℕ} {ts : List Term} → SameDefinitions d e → SameProcess (call d x ts) (call e x ts)
  same_merge : {p p' q q' : Process} → SameProcess p p' → SameProcess q q' → SameProcess (merge p q) (merge p' q')
  same_starting : {o : Start} {p p' q q' : Process} → SameProcess p p' → SameProcess q q' → SameProcess (starting o p q) (starting o p' q')
  same_around : {o : Around} {p p' : Process} → SameProcess p p' → SameProcess (around o p) (around o p')
