-- Processes that are equal up to provably equal data.
use Rattle.std.specs.Prelude.{◌≡◌, length, ℕ, List, ◌∷◌, map, Option, Some, None, slice_get}
use Rattle.data_theory.specs.Terms.{Sort, Term, put}
use Rattle.data_theory.specs.Environments.{Environment, term_in, bound}
use Rattle.process_terms.specs.Theories.{Theory, Equal, Equals}
use Rattle.process_terms.specs.Labels.{Label, put_label, AgreeInOrder}
use Rattle.process_terms.specs.Processes.{Around, Start, Body, written_delta, written_act, written_choice, written_seq, written_cond, written_sum, written_call, written_merge, written_starting, written_around, Definition, Table, Process, delta, act, choice, seq, cond, sum, call, merge, starting, around, BodyOf}

-- what is written, each under its own environment: the same up to provably equal data; the variables that a sum binds may differ
pub data SameBody (th : Theory) : Environment → Body → Environment → Body → Type 0 where
  same_delta : {d e : Environment} → SameBody th d written_delta e written_delta
  same_act : {d e : Environment} {m n : Label} → AgreeInOrder th (put_label d m) (put_label e n) → SameBody th d (written_act m) e (written_act n)
  same_choice : {d e : Environment} {p p' q q' : Body} → SameBody th d p e p' → SameBody th d q e q' → SameBody th d (written_choice p q) e (written_choice p' q')
  same_seq : {d e : Environment} {p p' q q' : Body} → SameBody th d p e p' → SameBody th d q e q' → SameBody th d (written_seq p q) e (written_seq p' q')
  same_cond : {d e : Environment} {c c' : Term} {p p' q q' : Body} → Equal th (put (term_in d) c) (put (term_in e) c') → SameBody th d p e p' → SameBody th d q e q' → SameBody th d (written_cond c p q) e (written_cond c' p' q')
  same_sum : {d e : Environment} {x y : ℕ} {s : Sort} {p q : Body} → ((t : Term) → SameBody th (record { var = x; term = t } ∷ d) p (record { var = y; term = t } ∷ e) q)
      → SameBody th d (written_sum (record { var = x; sort = s }) p) e (written_sum (record { var = y; sort = s }) q)
  same_call : {d e : Environment} {x : ℕ} {ts us : List Term} → Equals th (map (put (term_in d)) ts) (map (put (term_in e)) us) → SameBody th d (written_call x ts) e (written_call x us)
  same_merge : {d e : Environment} {p p' q q' : Body} → SameBody th d p e p' → SameBody th d q e q' → SameBody th d (written_merge p q) e (written_merge p' q')
  same_starting : {d e : Environment} {o : Start} {p p' q q' : Body} → SameBody th d p e p' → SameBody th d q e q' → SameBody th d (written_starting o p q) e (written_starting o p' q')
  same_around : {d e : Environment} {o : Around} {p p' : Body} → SameBody th d p e p' → SameBody th d (written_around o p) e (written_around o p')

-- definitions with as many parameters that give the same for provably equal arguments; the names of the parameters may differ
pub data SameDefinition (th : Theory) : Option Definition → Option Definition → Type 0 where
  both_missing : SameDefinition th None None
  both_there : {f g : Definition} → length f.params ≡ length g.params → ((ts us : List Term) → length ts ≡ length f.params → Equals th ts us → SameBody th (bound f.params ts) f.body (bound g.params us) g.body) → SameDefinition th (Some f) (Some g)

pub record SameTables (th : Theory) (d e : Table) : Type 0 where
  pub at : (x : ℕ) → SameDefinition th (slice_get d x) (slice_get e x)

-- closed terms of one shape with provably equal data
pub data EqualData (th : Theory) : Process → Process → Type 0 where
  equal_delta : EqualData th delta delta
  equal_act : {m n : Label} → AgreeInOrder th m n → EqualData th (act m) (act n)
  equal_choice : {p p' q q' : Process} → EqualData th p p' → EqualData th q q' → EqualData th (choice p q) (choice p' q')
  equal_seq : {p p' q q' : Process} → EqualData th p p' → EqualData th q q' → EqualData th (seq p q) (seq p' q')
  equal_cond : {c c' : Term} {p p' q q' : Process} → Equal th c c' → EqualData th p p' → EqualData th q q' → EqualData th (cond c p q) (cond c' p' q')
  equal_sum : {s : Sort} {f g : Term → Process} → ((t : Term) → EqualData th (f t) (g t)) → EqualData th (sum s f) (sum s g)
  equal_call : {d e : Table} {x : ℕ} {ts us : List Term} → SameTables th d e → Equals th ts us → EqualData th (call d x ts) (call e x us)
  equal_merge : {p p' q q' : Process} → EqualData th p p' → EqualData th q q' → EqualData th (merge p q) (merge p' q')
  equal_starting : {o : Start} {p p' q q' : Process} → EqualData th p p' → EqualData th q q' → EqualData th (starting o p q) (starting o p' q')
  equal_around : {o : Around} {p p' : Process} → EqualData th p p' → EqualData th (around o p) (around o p')

-- The same where a call and its body count as equal, and where the brackets in a chain of `.` or of `||` don't count: the least
-- equivalence that goes through all operators.
pub data Alike (th : Theory) : Process → Process → Type 0 where
  by_data : {p q : Process} → EqualData th p q → Alike th p q
  by_body : {d : Table} {x : ℕ} {ts : List Term} {p : Process} → BodyOf d x ts p → Alike th (call d x ts) p
  turned : {p q : Process} → Alike th p q → Alike th q p
  joined_up : {p q r : Process} → Alike th p q → Alike th q r → Alike th p r
  seq_regrouped : {p q r : Process} → Alike th (seq (seq p q) r) (seq p (seq q r))
  merge_regrouped : {p q r : Process} → Alike th (merge (merge p q) r) (merge p (merge q r))
  alike_choice : {p p' q q' : Process} → Alike th p p' → Alike th q q' → Alike th (choice p q) (choice p' q')
  alike_seq : {p p' q q' : Process} → Alike th p p' → Alike th q q' → Alike th (seq p q) (seq p' q')
  alike_cond : {c : Term} {p p' q q' : Process} → Alike th p p' → Alike th q q' → Alike th (cond c p q) (cond c p' q')
  alike_sum : {s : Sort} {f g : Term → Process} → ((t : Term) → Alike th (f t) (g t)) → Alike th (sum s f) (sum s g)
  alike_merge : {p p' q q' : Process} → Alike th p p' → Alike th q q' → Alike th (merge p q) (merge p' q')
  alike_starting : {o : Start} {p p' q q' : Process} → Alike th p p' → Alike th q q' → Alike th (starting o p q) (starting o p' q')
  alike_around : {o : Around} {p p' : Process} → Alike th p p' → Alike th (around o p) (around o p')
