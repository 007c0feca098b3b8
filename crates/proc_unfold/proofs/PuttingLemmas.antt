-- Terms put in, step by step.
use Rattle.std.proofs.Common.{◌≡◌, ◌∙◌, ◌<◌, ◌+◌, ℕ, zero, suc, List, [], ◌∷◌, ◌++◌, map, take, length, get_or, refl, sym, ap, subst, arith, Vec}
use Rattle.std.specs.List.{All}
use Rattle.std.specs.Global.{Global, Box}
use Rattle.std.proofs.lemmas.List.{map-append, take_more}
use Rattle.data_theory.specs.declared.ids.ProcId.{ProcId}
use Rattle.data_theory.specs.declared.ids.VarId.{VarId}
use Rattle.data_theory.specs.declared.ids.TermId.{TermId}
use Rattle.data_theory.specs.IdTrees.{Tree, put_tree}
use Rattle.term_pool.specs.HeadTrees.{tree_at, trees_at, IsIn, AreIn}
use Rattle.term_pool.specs.Bindings.{listed, listed_terms}
use Rattle.term_pool.specs.Pools.{Extends}
use Rattle.process_terms.specs.declared.labels.Label.{Label}
use Rattle.process_terms.specs.declared.processes.Proc.{Proc}
use Rattle.process_terms.specs.declared.processes.Proc.TheVariants as procs
use Rattle.process_terms.specs.PlainProcesses.{PlainAround, PlainProcess, PlainProcesses, delta, act, call, choice, seq, cond, sum, merge, left_merge, sync, around, no_processes, more_processes, processes_of, plain_label, plain_process}
use Rattle.lps_core.specs.TreeSummands.{IsActionIn, trees_of_label, put_actions}
use Rattle.lps_core.proofs.PoolTrees.{extends_on, tree_kept, all_in_kept, trees_kept, listed_kept, put_along, args_along, actions_in_kept, actions_kept, actions_along}
use Rattle.proc_unfold.specs.PutTerms.{IsProcessIn, AreProcessesIn, without, ArePut, IsTermPut, IsPutIn, ArePutIn, put_delta, put_act, put_call, put_choice, put_seq, put_cond, put_sum, put_merge, put_left, put_sync, put_around, none_put, more_put, PutsTerms, PutsIn, PutsAllIn}
use Rattle.proc_unfold.proofs.ProcessSteps.{delta_step, act_step, call_step, choice_step, seq_step, cond_step, sum_step, merge_step, left_merge_step, sync_step}

-- ---- ids of the pool stay so
mutual
  pub process_kept : (ts us : List Tree) → Extends ts us → (p : PlainProcess) → IsProcessIn ts p → IsProcessIn us p
  process_kept ts us e delta h = h
  process_kept ts us e (act m) h = actions_in_kept ts us m e h
  process_kept ts us e (call x ids) h = all_in_kept ts us ids e h
  process_kept ts us e (choice ps) h = processes_kept ts us e ps h
  process_kept ts us e (seq ps) h = processes_kept ts us e ps h
  process_kept ts us e (cond c p q) h = ((tree_kept ts us c e h.0).1, process_kept ts us e p h.1, process_kept ts us e q h.2)
  process_kept ts us e (sum xs p) h = process_kept ts us e p h
  process_kept ts us e (merge ps) h = processes_kept ts us e ps h
  process_kept ts us e (left_merge p q) h = (process_kept ts us e p h.0, process_kept ts us e q h.1)
  process_kept ts us e (sync ps) h = processes_kept ts us e ps h
  process_kept ts us e (around o p) h = process_kept ts us e p h

  pub processes_kept : (ts us : List Tree) → Extends ts us → (ps : PlainProcesses) → AreProcessesIn ts ps → AreProcessesIn us ps
  processes_kept ts us e no_processes h = h
  processes_kept ts us e (more_processes p ps) h = (process_kept ts us e p h.0, processes_kept ts us e ps h.1)

pub part_in : (ts : List Tree) (ps : List Proc) (k : ℕ) (p : Proc) → k < length ps → p ≡ get_or ps k p → AreProcessesIn ts (processes_of (map plain_process ps)) → IsProcessIn ts (plain_process p)
part_in ts [] k p l e h = absurd (omega (arith, l))
part_in ts (q ∷ ps) zero p l e h = subst (λ r. IsProcessIn ts (plain_process r)) (sym e) h.0
part_in ts (q ∷ ps) (suc k) p l e h = part_in ts ps k p (omega (arith, l)) e h.1

pub under_in : (ts : List Tree) (p q : Proc) (o : PlainAround) (part : Box Proc) → plain_process p ≡ around o (plain_process part.value) → q ≡ part.value → IsProcessIn ts (plain_process p) → IsProcessIn ts (plain_process q)
under_in ts p q o part is e h = subst (λ r. IsProcessIn ts (plain_process r)) (sym e) (subst (IsProcessIn ts) is h)

-- ---- what the calls for terms give
pub terms_put : (old new : List Tree) (by : List (VarId × TermId)) (ids made : List TermId) → AreIn old ids → AreIn old (listed_terms by) → Extends old new → AreIn new made
    → trees_at new made ≡ map (put_tree (listed old by)) (trees_at old ids) → PutsTerms new by ids made
terms_put old new by ids made read own grow within is = record {
  later = λ ts e.
      let all = extends_on old new ts grow e in
      record {
        read = all_in_kept old ts ids all read;
        within = all_in_kept new ts made e within;
        trees = trees_kept new ts made e within ∙ (is ∙ (args_along (listed old by) (listed ts by) (λ v. sym (listed_kept old ts by all own v)) (trees_at old ids) ∙ ap (map (put_tree (listed ts by))) (sym (trees_kept old ts ids all read))));
      };
}

pub record PutsTerm (new : List Tree) (by : List (VarId × TermId)) (id made : TermId) : Type 0 where
  pub later : (ts : List Tree) → Extends new ts → IsTermPut ts by id made

pub term_put : (old new : List Tree) (by : List (VarId × TermId)) (id made : TermId) → IsIn old id → AreIn old (listed_terms by) → Extends old new → IsIn new made
    → tree_at new made ≡ put_tree (listed old by) (tree_at old id) → PutsTerm new by id made
term_put old new by id made read own grow within is = record {
  later = λ ts e.
      let all = extends_on old new ts grow e in
      record {
        read = (tree_kept old ts id all read).1;
        within = (tree_kept new ts made e within).1;
        tree = (tree_kept new ts made e within).0 ∙ (is ∙ (put_along (listed old by) (listed ts by) (λ v. sym (listed_kept old ts by all own v)) (tree_at old id) ∙ ap (put_tree (listed ts by)) (sym (tree_kept old ts id all read).0)));
      };
}

-- ---- process terms
module _ (new : List Tree) (by : List (VarId × TermId)) where
  at_parts : {p p' q q' : PlainProcess} → p ≡ p' → q ≡ q' → ((ts : List Tree) → Extends new ts → IsPutIn ts by p' q') → PutsIn new by p q
  at_parts {p} {p'} {q} {q'} e f h = record { later = λ ts k. subst (λ z. IsPutIn ts by z q) (sym e) (subst (λ z. IsPutIn ts by p' z) (sym f) (h ts k)) }

  pub delta_put : (p : Proc) → p ≡ procs.Delta → PutsIn new by (plain_process p) (plain_process procs.Delta)
  delta_put p is = at_parts (ap plain_process is ∙ delta_step) delta_step (λ ts k. put_delta)

  pub act_put : (old : List Tree) (p : Proc) (m made : Label) → p ≡ procs.Act m → All (IsActionIn old) (plain_label m) → AreIn old (listed_terms by) → Extends old new → All (IsActionIn new) (plain_label made)
      → trees_of_label new (plain_label made) ≡ put_actions (listed old by) (trees_of_label old (plain_label m)) → PutsIn new by (plain_process p) (plain_process (procs.Act made))
  act_put old p m made is read own grow within same = at_parts (ap plain_process is ∙ act_step m) (act_step made) (λ ts e.
      let all = extends_on old new ts grow e in
      put_act (record {
        read = actions_in_kept old ts (plain_label m) all read;
        within = actions_in_kept new ts (plain_label made) e within;
        trees = actions_kept new ts (plain_label made) e within ∙ (same ∙ (actions_along (listed old by) (listed ts by) (λ v. sym (listed_kept old ts by all own v)) (trees_of_label old (plain_label m)) ∙ ap (put_actions (listed ts by)) (sym (actions_kept old ts (plain_label m) all read))));
      }))

  pub call_put : (p : Proc) (x : ProcId) (ids made : Vec TermId Global) (us : List TermId) → p ≡ procs.Call x ids → us ≡ ids.items → PutsTerms new by us made.items → PutsIn new by (plain_process p) (plain_process (procs.Call x made))
  call_put p x ids made us is e h = at_parts (ap plain_process is ∙ call_step x ids) (call_step x made) (λ ts k. put_call (subst (λ l. ArePut ts by l made.items) e (h.later ts k)))

  pub choice_put : (p : Proc) (parts made : Vec Proc Global) (ps : List Proc) → p ≡ procs.Choice parts → ps ≡ parts.items → PutsAllIn new by (processes_of (map plain_process ps)) (processes_of (map plain_process made.items))
      → PutsIn new by (plain_process p) (plain_process (procs.Choice made))
  choice_put p parts made ps is e h =
      at_parts (ap plain_process is ∙ choice_step parts) (choice_step made) (λ ts k. put_choice (subst (λ l. ArePutIn ts by (processes_of (map plain_process l)) (processes_of (map plain_process made.items))) e (h.later ts k)))

  pub seq_put : (p : Proc) (parts made : Vec Proc Global) (ps : List Proc) → p ≡ procs.Seq parts → ps ≡ parts.items → PutsAllIn new by (processes_of (map plain_process ps)) (processes_of (map plain_process made.items))
      → PutsIn new by (plain_process p) (plain_process (procs.Seq made))
  seq_put p parts made ps is e h =
      at_parts (ap plain_process is ∙ seq_step parts) (seq_step made) (λ ts k. put_seq (subst (λ l. ArePutIn ts by (processes_of (map plain_process l)) (processes_of (map plain_process made.items))) e (h.later ts k)))

  pub merge_put : (p : Proc) (parts made : Vec Proc Global) (ps : List Proc) → p ≡ procs.Merge parts → ps ≡ parts.items → PutsAllIn new by (processes_of (map plain_process ps)) (processes_of (map plain_process made.items))
      → PutsIn new by (plain_process p) (plain_process (procs.Merge made))
  merge_put p parts made ps is e h =
      at_parts (ap plain_process is ∙ merge_step parts) (merge_step made) (λ ts k. put_merge (subst (λ l. ArePutIn ts by (processes_of (map plain_process l)) (processes_of (map plain_process made.items))) e (h.later ts k)))

  pub sync_put : (p : Proc) (parts made : Vec Proc Global) (ps : List Proc) → p ≡ procs.Sync parts → ps ≡ parts.items → PutsAllIn new by (processes_of (map plain_process ps)) (processes_of (map plain_process made.items))
      → PutsIn new by (plain_process p) (plain_process (procs.Sync made))
  sync_put p parts made ps is e h =
      at_parts (ap plain_process is ∙ sync_step parts) (sync_step made) (λ ts k. put_sync (subst (λ l. ArePutIn ts by (processes_of (map plain_process l)) (processes_of (map plain_process made.items))) e (h.later ts k)))

  pub left_put : (mid : List Tree) (p : Proc) (first second made made' : Box Proc) (q r : Proc) → p ≡ procs.LeftMerge first second → q ≡ first.value → r ≡ second.value → Extends mid new
      → PutsIn mid by (plain_process q) (plain_process made.value) → PutsIn new by (plain_process r) (plain_process made'.value) → PutsIn new by (plain_process p) (plain_process (procs.LeftMerge made made'))
  left_put mid p first second made made' q r is e f grow i k =
      at_parts (ap plain_process is ∙ left_merge_step first second) (left_merge_step made made') (λ ts j. put_left
      (subst (λ z. IsPutIn ts by (plain_process z) (plain_process made.value)) e (i.later ts (extends_on mid new ts grow j)))
      (subst (λ z. IsPutIn ts by (plain_process z) (plain_process made'.value)) f (k.later ts j)))

  pub cond_put : (first mid : List Tree) (p : Proc) (c d : TermId) (then other made made' : Box Proc) (q r : Proc) → p ≡ procs.Cond c then other → q ≡ then.value → r ≡ other.value → Extends first mid → Extends mid new
      → PutsTerm first by c d → PutsIn mid by (plain_process q) (plain_process made.value) → PutsIn new by (plain_process r) (plain_process made'.value) → PutsIn new by (plain_process p) (plain_process (procs.Cond d made made'))
  cond_put first mid p c d then other made made' q r is e f grow grow' h i k =
      at_parts (ap plain_process is ∙ cond_step c then other) (cond_step d made made') (λ ts j. put_cond (h.later ts (extends_on first new ts (extends_on first mid new grow grow') j))
      (subst (λ z. IsPutIn ts by (plain_process z) (plain_process made.value)) e (i.later ts (extends_on mid new ts grow' j)))
      (subst (λ z. IsPutIn ts by (plain_process z) (plain_process made'.value)) f (k.later ts j)))

  pub sum_put : (p : Proc) (xs ys : Vec VarId Global) (part made : Box Proc) (q : Proc) (zs : List VarId) (left by' : List (VarId × TermId)) → p ≡ procs.Sum xs part → q ≡ part.value → zs ≡ xs.items → left ≡ without zs by → by' ≡ left → ys.items ≡ xs.items
      → PutsIn new by' (plain_process q) (plain_process made.value) → PutsIn new by (plain_process p) (plain_process (procs.Sum ys made))
  sum_put p xs ys part made q zs left by' is e f own lent copied h =
      at_parts (ap plain_process is ∙ sum_step xs part) (sum_step ys made ∙ ap (λ l. sum l (plain_process made.value)) copied)
      (λ ts j. put_sum (subst (λ b. IsPutIn ts b (plain_process part.value) (plain_process made.value)) (lent ∙ (own ∙ ap (λ l. without l by) f)) (subst (λ z. IsPutIn ts by' (plain_process z) (plain_process made.value)) e (h.later ts j))))

  pub around_put : (o : PlainAround) (p : PlainProcess) (q r : PlainProcess) → q ≡ around o r → PutsIn new by p r → PutsIn new by (around o p) q
  around_put o p q r is h = at_parts refl is (λ ts k. put_around (h.later ts k))

-- ---- operands one by one
pub none_puts : (new : List Tree) (by : List (VarId × TermId)) (ps made : List Proc) → made ≡ [] → PutsAllIn new by (processes_of (map plain_process (take 0 ps))) (processes_of (map plain_process made))
none_puts new by ps made e = record { later = λ ts k. subst (λ l. ArePutIn ts by no_processes (processes_of (map plain_process l))) (sym e) none_put }

one_more : {ts : List Tree} {by : List (VarId × TermId)} (ps qs : List PlainProcess) (p q : PlainProcess) → ArePutIn ts by (processes_of ps) (processes_of qs) → IsPutIn ts by p q → ArePutIn ts by (processes_of (ps ++ p ∷ [])) (processes_of (qs ++ q ∷ []))
one_more [] [] p q h o = more_put o none_put
one_more [] (r ∷ qs) p q h o = elim h [ ]
one_more (r ∷ ps) [] p q h o = elim h [ ]
one_more (r ∷ ps) (s ∷ qs) p q (more_put i h) o = more_put i (one_more ps qs p q h o)

pub more_puts : (mid new : List Tree) (by : List (VarId × TermId)) (ps : List Proc) (k : ℕ) (p q : Proc) (made made' : List Proc) → k < length ps → p ≡ get_or ps k p → made' ≡ made ++ q ∷ []
    → PutsAllIn mid by (processes_of (map plain_process (take k ps))) (processes_of (map plain_process made)) → Extends mid new → PutsIn new by (plain_process p) (plain_process q)
    → PutsAllIn new by (processes_of (map plain_process (take (k + 1) ps))) (processes_of (map plain_process made'))
more_puts mid new by ps k p q made made' l e f all grow h =
    let seen : map plain_process (take (k + 1) ps) ≡ map plain_process (take k ps) ++ plain_process p ∷ [] =
    ap (map plain_process) (take_more ps k p l) ∙ (map-append plain_process (take k ps) (get_or ps k p ∷ []) ∙ ap (λ q. map plain_process (take k ps) ++ plain_process q ∷ []) (sym e)) in
    let pushed : map plain_process made' ≡ map plain_process made ++ plain_process q ∷ [] = ap (map plain_process) f ∙ map-append plain_process made (q ∷ []) in
    record {
      later = λ ts i. subst (λ qs. ArePutIn ts by (processes_of qs) (processes_of (map plain_process made'))) (sym seen)
          (subst (λ qs. ArePutIn ts by (processes_of (map plain_process (take k ps) ++ plain_process p ∷ [])) (processes_of qs)) (sym pushed)
          (one_more (map plain_process (take k ps)) (map plain_process made) (plain_process p) (plain_process q) (all.later ts (extends_on mid new ts grow i)) (h.later ts i)));
    }
