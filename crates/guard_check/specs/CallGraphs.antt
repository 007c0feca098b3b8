-- The calls of process terms in code, and the graphs of them.
use Rattle.std.specs.Prelude.{◌≡◌, ◌↔◌, ℕ, Bool, List, [], ◌∷◌, ◌++◌, map, length}
use Rattle.std.specs.Global.{Vec}
use Rattle.graphs.specs.Graphs.{HasEdge, IsGraph, IsMarked}
use Rattle.process_terms.specs.declared.definitions.ProcDef.{ProcDef}
use Rattle.process_terms.specs.PlainProcesses.{PlainProcess, PlainProcesses, delta, act, call, choice, seq, cond, sum, merge, left_merge, sync, around, no_processes, more_processes, PlainModel, plain_definition}
use Rattle.process_terms.specs.Meanings.{Entries, table_of, body_of}
use Rattle.process_terms.specs.Processes.{Definition}
use Rattle.guard_check.specs.declared.calls.Extent.{Extent}
use Rattle.guard_check.specs.declared.calls.Extent.TheVariants.{Everywhere, BeforeActions}
use Rattle.guard_check.specs.Calls.{calls, Calls, Reaches}

abbrev mutual
  pub plain_calls : Extent → PlainProcess → List ℕ
  plain_calls n delta = []
  plain_calls n (act m) = []
  plain_calls n (call x ts) = x.0 ∷ []
  plain_calls n (choice ps) = all_calls n ps
  plain_calls Everywhere (seq ps) = all_calls Everywhere ps
  plain_calls BeforeActions (seq ps) = calls_of_first ps
  plain_calls n (cond c p q) = plain_calls n p ++ plain_calls n q
  plain_calls n (sum xs p) = plain_calls n p
  plain_calls n (merge ps) = all_calls n ps
  plain_calls n (left_merge p q) = plain_calls n p ++ plain_calls n q
  plain_calls n (sync ps) = all_calls n ps
  plain_calls n (around o p) = plain_calls n p

  -- of all operands
  pub all_calls : Extent → PlainProcesses → List ℕ
  all_calls n no_processes = []
  all_calls n (more_processes p ps) = plain_calls n p ++ all_calls n ps

  -- of the first operand, before any action
  pub calls_of_first : PlainProcesses → List ℕ
  calls_of_first no_processes = []
  calls_of_first (more_processes p ps) = plain_calls BeforeActions p

-- the list of the calls of each definition
abbrev pub call_table : Extent → List Definition → List (List ℕ)
call_table n d = map (λ (f : Definition). calls n f.body) d

-- these are the lists of the calls of each definition
pub record AreCallLists (n : Extent) (ds : List ProcDef) (lists : Vec (Vec ℕ)) : Type 0 where
  pub lists_are : (g : Entries) → map (λ (v : Vec ℕ). v.items) lists.items ≡ call_table n (table_of g (map plain_definition ds))

-- the edges are the calls, and exactly the reached names are marked
pub record IsCallGraph (n : Extent) (m : PlainModel) (edges : List (Vec ℕ)) (reached : List Bool) : Type 0 where
  pub size : length edges ≡ length m.definitions
  pub marks : length reached ≡ length edges
  pub graph : IsGraph edges
  pub edges_are : (g : Entries) (x y : ℕ) → HasEdge edges x y ↔ Calls n (table_of g m.definitions) x y
  pub reached_are : (g : Entries) (x : ℕ) → IsMarked reached x ↔ Reaches (table_of g m.definitions) (body_of g m.init) x
