-- Process terms, as they are written and closed.
use Rattle.std.specs.Prelude.{◌≡◌, ℕ, List, [], ◌∷◌, map, length, Some, slice_get}
use Rattle.data_theory.specs.Terms.{Sort, Term, put}
use Rattle.data_theory.specs.Environments.{Environment, term_in, bound}
use Rattle.process_terms.specs.Names.{Name}
use Rattle.process_terms.specs.Labels.{Label, put_label}
use Rattle.process_terms.specs.Communication.{Rule}

-- a name that another one replaces
pub record Renaming : Type 0 where
  pub from : Name
  pub to : Name

-- an operator around a process
pub data Around : Type 0 where
  allow : List (List Name) → Around
  block : List Name → Around
  hide : List Name → Around
  rename : List Renaming → Around
  comm : List Rule → Around

-- what the first step of two processes side by side is: one of the left process alone, `p ||_ q`, or one of both, `p | q`
pub data Start : Type 0 where
  left_merge : Start
  sync : Start

-- a variable that a `sum` or a parameter list binds, with its sort
pub record Bound : Type 0 where
  pub var : ℕ
  pub sort : Sort

-- A process term as it is written. A name that it calls is the place of its definition, from 0.
pub data Body : Type 0 where
  written_delta : Body
  written_act : Label → Body
  written_choice : Body → Body → Body
  written_seq : Body → Body → Body
  written_cond : Term → Body → Body → Body
  written_sum : Bound → Body → Body
  written_call : ℕ → List Term → Body
  written_merge : Body → Body → Body
  written_starting : Start → Body → Body → Body
  written_around : Around → Body → Body

pub record Definition : Type 0 where
  pub params : List ℕ
  pub body : Body

abbrev pub Table : Type 0
Table = List Definition

-- A closed process term. A sum holds a process term for each closed term, and a call its table of definitions.
pub data Process : Type 0 where
  delta : Process
  act : Label → Process
  choice : Process → Process → Process
  seq : Process → Process → Process
  cond : Term → Process → Process → Process
  sum : Sort → (Term → Process) → Process
  call : Table → ℕ → List Term → Process
  merge : Process → Process → Process
  starting : Start → Process → Process → Process
  around : Around → Process → Process

-- what is written, under a table and an environment
abbrev pub close : Table → Environment → Body → Process
close d e written_delta = delta
close d e (written_act m) = act (put_label e m)
close d e (written_choice p q) = choice (close d e p) (close d e q)
close d e (written_seq p q) = seq (close d e p) (close d e q)
close d e (written_cond c p q) = cond (put (term_in e) c) (close d e p) (close d e q)
close d e (written_sum x p) = sum x.sort (λ t. close d (record { var = x.var; term = t } ∷ e) p)
close d e (written_call x ts) = call d x (map (put (term_in e)) ts)
close d e (written_merge p q) = merge (close d e p) (close d e q)
close d e (written_starting o p q) = starting o (close d e p) (close d e q)
close d e (written_around o p) = around o (close d e p)

-- the body of a call, with its arguments for the parameters; there is none where the table has no such place, or where the
-- number of arguments isn't that of the parameters
pub data BodyOf (d : Table) : ℕ → List Term → Process → Type 0 where
  the_body : {x : ℕ} {ts : List Term} (f : Definition) → slice_get d x ≡ Some f → length ts ≡ length f.params → BodyOf d x ts (close d (bound f.params ts) f.body)

-- ---- what is written with several operands
-- `+` and `.` nest to the right; without operands a chain does nothing
abbrev pub chain_of : (Body → Body → Body) → List Body → Body
chain_of op [] = written_delta
chain_of op (p ∷ []) = p
chain_of op (p ∷ ps) = op p (chain_of op ps)

abbrev pub choice_of : List Body → Body
choice_of ps = chain_of written_choice ps

abbrev pub seq_of : List Body → Body
seq_of ps = chain_of written_seq ps

-- `||` nests to the left
abbrev pub merged_with : Body → List Body → Body
merged_with p [] = p
merged_with p (q ∷ qs) = merged_with (written_merge p q) qs

abbrev pub merge_of : List Body → Body
merge_of [] = written_delta
merge_of (p ∷ ps) = merged_with p ps

-- `|` nests to the left
abbrev pub synced_with : Body → List Body → Body
synced_with p [] = p
synced_with p (q ∷ qs) = synced_with (written_starting sync p q) qs

abbrev pub sync_of : List Body → Body
sync_of [] = written_delta
sync_of (p ∷ ps) = synced_with p ps

abbrev pub sums_around : List Bound → Body → Body
sums_around [] p = p
sums_around (x ∷ xs) p = written_sum x (sums_around xs p)
