-- Process terms in code with terms put in for their variables.
use Rattle.std.specs.Prelude.{◌≡◌, ◌==◌, Bool, not, List, map}
use Rattle.std.specs.List.{All, filter, list_any}
use Rattle.data_theory.specs.declared.ids.ProcId.{ProcId}
use Rattle.data_theory.specs.declared.ids.VarId.{VarId}
use Rattle.data_theory.specs.declared.ids.TermId.{TermId}
use Rattle.data_theory.specs.IdTrees.{Tree, put_tree}
use Rattle.term_pool.specs.HeadTrees.{tree_at, trees_at, IsIn, AreIn}
use Rattle.term_pool.specs.Bindings.{listed}
use Rattle.term_pool.specs.Pools.{Extends}
use Rattle.process_terms.specs.PlainProcesses.{PlainAction, PlainAround, PlainProcess, PlainProcesses, delta, act, call, choice, seq, cond, sum, merge, left_merge, sync, around, no_processes, more_processes}
use Rattle.lps_core.specs.TreeSummands.{IsActionIn, trees_of_label, put_actions}

-- the ids of the terms are those of the pool
abbrev mutual
  pub IsProcessIn : List Tree → PlainProcess → Type 0
  IsProcessIn ts delta = Unit {0}
  IsProcessIn ts (act m) = All (IsActionIn ts) m
  IsProcessIn ts (call x ids) = AreIn ts ids
  IsProcessIn ts (choice ps) = AreProcessesIn ts ps
  IsProcessIn ts (seq ps) = AreProcessesIn ts ps
  IsProcessIn ts (cond c p q) = IsIn ts c × IsProcessIn ts p × IsProcessIn ts q
  IsProcessIn ts (sum xs p) = IsProcessIn ts p
  IsProcessIn ts (merge ps) = AreProcessesIn ts ps
  IsProcessIn ts (left_merge p q) = IsProcessIn ts p × IsProcessIn ts q
  IsProcessIn ts (sync ps) = AreProcessesIn ts ps
  IsProcessIn ts (around o p) = IsProcessIn ts p

  pub AreProcessesIn : List Tree → PlainProcesses → Type 0
  AreProcessesIn ts no_processes = Unit {0}
  AreProcessesIn ts (more_processes p ps) = IsProcessIn ts p × AreProcessesIn ts ps

-- the variable is one of these
abbrev pub is_among : List VarId → VarId → Bool
is_among xs v = list_any (λ (x : VarId). x.0 == v.0) xs

-- the bindings of other variables
abbrev pub without : List VarId → List (VarId × TermId) → List (VarId × TermId)
without xs by = filter (λ (b : VarId × TermId). not (is_among xs b.0)) by

-- ---- with these put in, over the trees ts
-- terms of the pool that are the first ones with these put in
pub record ArePut (ts : List Tree) (by : List (VarId × TermId)) (ids made : List TermId) : Type 0 where
  pub read : AreIn ts ids
  pub within : AreIn ts made
  pub trees : trees_at ts made ≡ map (put_tree (listed ts by)) (trees_at ts ids)

pub record IsTermPut (ts : List Tree) (by : List (VarId × TermId)) (id made : TermId) : Type 0 where
  pub read : IsIn ts id
  pub within : IsIn ts made
  pub tree : tree_at ts made ≡ put_tree (listed ts by) (tree_at ts id)

pub record IsLabelPut (ts : List Tree) (by : List (VarId × TermId)) (m made : List PlainAction) : Type 0 where
  pub read : All (IsActionIn ts) m
  pub within : All (IsActionIn ts) made
  pub trees : trees_of_label ts made ≡ put_actions (listed ts by) (trees_of_label ts m)

mutual
  -- the second process term is the first one with these put in for its free variables
  pub data IsPutIn (ts : List Tree) : List (VarId × TermId) → PlainProcess → PlainProcess → Type 0 where
    put_delta : {by : List (VarId × TermId)} → IsPutIn ts by delta delta
    put_act : {by : List (VarId × TermId)} {m n : List PlainAction} → IsLabelPut ts by m n → IsPutIn ts by (act m) (act n)
    put_call : {by : List (VarId × TermId)} {x : ProcId} {ids made : List TermId} → ArePut ts by ids made → IsPutIn ts by (call x ids) (call x made)
    put_choice : {by : List (VarId × TermId)} {ps qs : PlainProcesses} → ArePutIn ts by ps qs → IsPutIn ts by (choice ps) (choice qs)
    put_seq : {by : List (VarId × TermId)} {ps qs : PlainProcesses} → ArePutIn ts by ps qs → IsPutIn ts by (seq ps) (seq qs)
    put_cond : {by : List (VarId × TermId)} {c d : TermId} {p q r s : PlainProcess} → IsTermPut ts by c d → IsPutIn ts by p r → IsPutIn ts by q s → IsPutIn ts by (cond c p q) (cond d r s)
    put_sum : {by : List (VarId × TermId)} {xs : List VarId} {p q : PlainProcess} → IsPutIn ts (without xs by) p q → IsPutIn ts by (sum xs p) (sum xs q)
    put_merge : {by : List (VarId × TermId)} {ps qs : PlainProcesses} → ArePutIn ts by ps qs → IsPutIn ts by (merge ps) (merge qs)
    put_left : {by : List (VarId × TermId)} {p q r s : PlainProcess} → IsPutIn ts by p r → IsPutIn ts by q s → IsPutIn ts by (left_merge p q) (left_merge r s)
    put_sync : {by : List (VarId × TermId)} {ps qs : PlainProcesses} → ArePutIn ts by ps qs → IsPutIn ts by (sync ps) (sync qs)
    put_around : {by : List (VarId × TermId)} {o : PlainAround} {p q : PlainProcess} → IsPutIn ts by p q → IsPutIn ts by (around o p) (around o q)

  pub data ArePutIn (ts : List Tree) : List (VarId × TermId) → PlainProcesses → PlainProcesses → Type 0 where
    none_put : {by : List (VarId × TermId)} → ArePutIn ts by no_processes no_processes
    more_put : {by : List (VarId × TermId)} {p q : PlainProcess} {ps qs : PlainProcesses} → IsPutIn ts by p q → ArePutIn ts by ps qs → ArePutIn ts by (more_processes p ps) (more_processes q qs)

-- ---- over these trees and all that come behind them
pub record PutsTerms (new : List Tree) (by : List (VarId × TermId)) (ids made : List TermId) : Type 0 where
  pub later : (ts : List Tree) → Extends new ts → ArePut ts by ids made

pub record PutsIn (new : List Tree) (by : List (VarId × TermId)) (p q : PlainProcess) : Type 0 where
  pub later : (ts : List Tree) → Extends new ts → IsPutIn ts by p q

pub record PutsAllIn (new : List Tree) (by : List (VarId × TermId)) (ps qs : PlainProcesses) : Type 0 where
  pub later : (ts : List Tree) → Extends new ts → ArePutIn ts by ps qs
