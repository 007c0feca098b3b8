-- The steps of closed process terms.
use Rattle.std.specs.Prelude.{ℕ, List, [], ◌∷◌, ◌++◌, Contains}
use Rattle.data_theory.specs.Terms.{Sort, Term}
use Rattle.process_terms.specs.Names.{Name}
use Rattle.process_terms.specs.Theories.{Theory, IsTrue, IsFalse, IsOfSort}
use Rattle.process_terms.specs.Labels.{Action, Label, names, Permuted}
use Rattle.process_terms.specs.Communication.{Rule, Communicates}
use Rattle.process_terms.specs.Processes.{Renaming, Around, allow, block, hide, rename, comm, left_merge, sync, Process, act, choice, seq, cond, sum, Table, call, merge, starting, around, BodyOf}

-- what a step leads to
pub data Outcome : Type 0 where
  ended : Outcome
  goes_on : Process → Outcome

-- q comes after
abbrev pub before : Outcome → Process → Outcome
before ended q = goes_on q
before (goes_on p) q = goes_on (seq p q)

-- two sides; one that hasn't ended stands alone
abbrev pub beside : Outcome → Outcome → Outcome
beside ended ended = ended
beside ended (goes_on q) = goes_on q
beside (goes_on p) ended = goes_on p
beside (goes_on p) (goes_on q) = goes_on (merge p q)

-- the operator stays around what goes on
abbrev pub within : Around → Outcome → Outcome
within o ended = ended
within o (goes_on p) = goes_on (around o p)

-- a name is replaced once
pub data Renames (renamings : List Renaming) : Name → Name → Type 0 where
  replaced : {x y : Name} → Contains renamings (record { from = x; to = y }) → Renames renamings x y
  unchanged : {x : Name} → ((y : Name) → Contains renamings (record { from = x; to = y }) → ⊥) → Renames renamings x x

-- under the operator the first label comes out as the second one
pub data Passes (th : Theory) : Around → Label → Label → Type 0 where
  silent_allowed : {allowed : List (List Name)} → Passes th (allow allowed) [] []
  named_allowed : {allowed : List (List Name)} {m : Label} (v : List Name) → Contains allowed v → Permuted (names m) v → Passes th (allow allowed) m m
  not_blocked : {blocked : List Name} {m : Label} → ((x : Name) → Contains (names m) x → Contains blocked x → ⊥) → Passes th (block blocked) m m
  nothing_hidden : {hidden : List Name} → Passes th (hide hidden) [] []
  one_hidden : {hidden : List Name} {a : Action} {m n : Label} → Contains hidden a.name → Passes th (hide hidden) m n → Passes th (hide hidden) (a ∷ m) n
  one_shown : {hidden : List Name} {a : Action} {m n : Label} → (Contains hidden a.name → ⊥) → Passes th (hide hidden) m n → Passes th (hide hidden) (a ∷ m) (a ∷ n)
  nothing_renamed : {renamings : List Renaming} → Passes th (rename renamings) [] []
  one_renamed : {renamings : List Renaming} {a : Action} {m n : Label} (x : Name) → Renames renamings a.name x → Passes th (rename renamings) m n
      → Passes th (rename renamings) (a ∷ m) (record { name = x; sorts = a.sorts; args = a.args } ∷ n)
  communicated : {rules : List Rule} {m n : Label} → Communicates th rules m n → Passes th (comm rules) m n

-- The process does the label and comes to the outcome: a constructor for each rule.
pub data Step (th : Theory) : Process → Label → Outcome → Type 0 where
  by_act : {m : Label} → Step th (act m) m ended
  by_left : {p q : Process} {m : Label} {r : Outcome} → Step th p m r → Step th (choice p q) m r
  by_right : {p q : Process} {m : Label} {r : Outcome} → Step th q m r → Step th (choice p q) m r
  by_seq : {p q : Process} {m : Label} {r : Outcome} → Step th p m r → Step th (seq p q) m (before r q)
  by_true : {c : Term} {p q : Process} {m : Label} {r : Outcome} → IsTrue th c → Step th p m r → Step th (cond c p q) m r
  by_false : {c : Term} {p q : Process} {m : Label} {r : Outcome} → IsFalse th c → Step th q m r → Step th (cond c p q) m r
  by_sum : {s : Sort} {f : Term → Process} {m : Label} {r : Outcome} (t : Term) → IsOfSort th s t → Step th (f t) m r → Step th (sum s f) m r
  by_call : {d : Table} {x : ℕ} {ts : List Term} {p : Process} {m : Label} {r : Outcome} → BodyOf d x ts p → Step th p m r → Step th (call d x ts) m r
  by_left_alone : {p q : Process} {m : Label} {r : Outcome} → Step th p m r → Step th (merge p q) m (beside r (goes_on q))
  by_right_alone : {p q : Process} {m : Label} {r : Outcome} → Step th q m r → Step th (merge p q) m (beside (goes_on p) r)
  by_both : {p q : Process} {m n : Label} {r s : Outcome} → Step th p m r → Step th q n s → Step th (merge p q) (m ++ n) (beside r s)
  by_left_merge : {p q : Process} {m : Label} {r : Outcome} → Step th p m r → Step th (starting left_merge p q) m (beside r (goes_on q))
  by_sync : {p q : Process} {m n : Label} {r s : Outcome} → Step th p m r → Step th q n s → Step th (starting sync p q) (m ++ n) (beside r s)
  by_around : {o : Around} {p : Process} {m n : Label} {r : Outcome} → Step th p m r → Passes th o m n → Step th (around o p) n (within o r)
