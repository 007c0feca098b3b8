-- What process terms unfold to, step by step.
use Rattle.std.proofs.Common.{◌≡◌, ◌∙◌, ◌<◌, ◌+◌, ◌&&◌, Bool, true, false, ℕ, zero, suc, List, [], ◌∷◌, ◌++◌, map, take, length, get_or, refl, sym, ap, subst, Some, arith, Vec}
use Rattle.std.specs.Prelude.{slice_get, Result, IfOk}
use Rattle.std.proofs.lemmas.Result.{IfOk-weaker}
use Rattle.std.specs.List.{Contains, zip}
use Rattle.std.specs.Global.{Global, Box}
use Rattle.std.proofs.lemmas.List.{map-append, take_more}
use Rattle.std.proofs.lemmas.List.Elements.{Contains-append_left, Contains-append_right, All-nil, All-cons, All-head, All-tail}
use Rattle.data_theory.specs.declared.ids.ProcId.{ProcId}
use Rattle.data_theory.specs.declared.ids.VarId.{VarId}
use Rattle.data_theory.specs.declared.ids.TermId.{TermId}
use Rattle.data_theory.specs.IdTrees.{Tree}
use Rattle.graphs.specs.Graphs.{IsMarked}
use Rattle.graphs.proofs.Marks.{contains_last}
use Rattle.term_pool.specs.HeadTrees.{IsIn, AreIn}
use Rattle.term_pool.specs.Bindings.{listed_terms}
use Rattle.term_pool.specs.Pools.{Extends}
use Rattle.process_terms.specs.declared.components.Component.TheVariants as components
use Rattle.process_terms.specs.declared.processes.Proc.{Proc}
use Rattle.process_terms.specs.declared.processes.Proc.TheVariants as procs
use Rattle.process_terms.specs.PlainProcesses.{PlainProcess, call, sum, around, PlainDefinition, PlainModel, processes_of, plain_process}
use Rattle.guard_check.specs.declared.calls.Extent.TheVariants.{Everywhere}
use Rattle.guard_check.specs.CallGraphs.{plain_calls, all_calls}
use Rattle.lps_core.proofs.PoolTrees.{extends_on, all_in_kept}
use Rattle.proc_unfold.specs.declared.outside.Parallelism.{Parallelism}
use Rattle.proc_unfold.specs.declared.networks.NetOp.{NetOp}
use Rattle.proc_unfold.specs.declared.networks.Network.{Network}
use Rattle.proc_unfold.specs.declared.networks.Network.TheVariants as nets
use Rattle.proc_unfold.specs.declared.opening.Entered.{Entered}
use Rattle.proc_unfold.specs.ParallelTests.{is_sequential, is_outside, all_outside}
use Rattle.proc_unfold.specs.Networks.{PlainNetwork, networks_of, plain_network, plain_operator}
use Rattle.proc_unfold.specs.PutTerms.{ArePut, PutsTerms, PutsIn}
use Rattle.proc_unfold.specs.Opening.{Opens, AllOpen, term_kept, call_kept, call_opened, beside, one_choice, one_step, left_merged, synced, no_sum, within, none_open, more_open, OpensTo, AllOpenTo, AreReached, IsReady, HasReadyBodies, is_parallel_call, Enters, IsSettled}
use Rattle.proc_unfold.proofs.LoopLemmas.{one_is}
use Rattle.proc_unfold.proofs.ProcessSteps.{call_step, choice_step, seq_step, sum_step, merge_step, left_merge_step, sync_step, leaf_step, side_step, left_merged_step, synced_step, under_step}
use Rattle.proc_unfold.proofs.PuttingLemmas.{process_kept}

-- ---- what is known stays as the pool grows
pub ready_kept : (m : PlainModel) (found : Parallelism) (ts us : List Tree) → Extends ts us → (rank : ℕ) (p : PlainProcess) → IsReady m found ts rank p → IsReady m found us rank p
ready_kept m found ts us e rank p h = record { within = process_kept ts us e p h.within; outside = h.outside; reached = h.reached; below = h.below }

pub bodies_kept : (m : PlainModel) (found : Parallelism) (ts us : List Tree) → Extends ts us → HasReadyBodies m found ts → HasReadyBodies m found us
bodies_kept m found ts us e h = record { marks = h.marks; ranks = h.ranks; bodies = λ x f at r p. ready_kept m found ts us e _ f.body (h.bodies x f at r p) }

-- ---- operands
pub part_calls : (ps : List Proc) (k : ℕ) (p : Proc) → k < length ps → p ≡ get_or ps k p → (x : ℕ) → Contains (plain_calls Everywhere (plain_process p)) x → Contains (all_calls Everywhere (processes_of (map plain_process ps))) x
part_calls [] k p l e x h = absurd (omega (arith, l))
part_calls (q ∷ ps) zero p l e x h = Contains-append_left (plain_calls Everywhere (plain_process q)) (all_calls Everywhere (processes_of (map plain_process ps))) x (subst (λ r. Contains (plain_calls Everywhere (plain_process r)) x) e h)
part_calls (q ∷ ps) (suc k) p l e x h = Contains-append_right (plain_calls Everywhere (plain_process q)) (all_calls Everywhere (processes_of (map plain_process ps))) x (part_calls ps k p (omega (arith, l)) e x h)

pub part_outside : (marks : List Bool) (ps : List Proc) (k : ℕ) (p : Proc) → k < length ps → p ≡ get_or ps k p → all_outside marks (processes_of (map plain_process ps)) ≡ true → is_outside marks (plain_process p) ≡ true
part_outside marks [] k p l e h = absurd (omega (arith, l))
part_outside marks (q ∷ ps) zero p l e h = subst (λ r. is_outside marks (plain_process r) ≡ true) (sym e) (left_of (is_outside marks (plain_process q)) _ h)
  where
    left_of : (a b : Bool) → (a && b) ≡ true → a ≡ true
    left_of true b e = refl
    left_of false b e = cc
part_outside marks (q ∷ ps) (suc k) p l e h = part_outside marks ps k p (omega (arith, l)) e (right_of (is_outside marks (plain_process q)) _ h)
  where
    right_of : (a b : Bool) → (a && b) ≡ true → b ≡ true
    right_of true b e = e
    right_of false b e = cc

-- ---- one level
module _ (m : PlainModel) (found : Parallelism) (new : List Tree) (by : List (VarId × TermId)) where
  abbrev Unfolding : List Tree → PlainProcess → PlainNetwork → Type 0
  Unfolding ts = Opens m.definitions found.parallel.items ts by

  opens_at : {p p' : PlainProcess} {n : Network} {n' : PlainNetwork} → p ≡ p' → plain_network n ≡ n' → ((ts : List Tree) → Extends new ts → Unfolding ts p' n') → OpensTo m found new by p n
  opens_at {p} {p'} {n} {n'} e f h = record { later = λ ts k. subst (λ q. Unfolding ts q (plain_network n)) (sym e) (subst (λ z. Unfolding ts p' z) (sym f) (h ts k)) }

  pub term_opens : (p : PlainProcess) (q : Proc) → is_sequential found.parallel.items p ≡ true → PutsIn new by p (plain_process q) → OpensTo m found new by p (nets.Leaf (components.Term q))
  term_opens p q s put = opens_at refl (leaf_step (components.Term q)) (λ ts e. term_kept s (put.later ts e))

  pub call_opens : (p : Proc) (x : ProcId) (ids made : Vec TermId Global) (us : List TermId) → p ≡ procs.Call x ids → us ≡ ids.items → is_parallel_call found.parallel.items (plain_process p) ≡ false → PutsTerms new by us made.items
      → OpensTo m found new by (plain_process p) (nets.Leaf (components.Call x made))
  call_opens p x ids made us is e kept put =
      let unmarked = subst (λ q. is_parallel_call found.parallel.items q ≡ false) (ap plain_process is ∙ call_step x ids) kept in
      opens_at (ap plain_process is ∙ call_step x ids) (leaf_step (components.Call x made)) (λ ts k. call_kept (λ marked. (let wrong : ⊥ = cc in wrong)) (subst (λ l. ArePut ts by l made.items) e (put.later ts k)))

  pub merge_opens : (p : Proc) (parts : Vec Proc Global) (items : List Proc) (ns : Vec Network Global) → p ≡ procs.Merge parts → items ≡ parts.items
      → AllOpenTo m found new by (processes_of (map plain_process items)) ns → OpensTo m found new by (plain_process p) (nets.Merge ns)
  merge_opens p parts items ns is e all =
      let all' : AllOpenTo m found new by (processes_of (map plain_process parts.items)) ns = subst (λ l. AllOpenTo m found new by (processes_of (map plain_process l)) ns) e all in
      opens_at (ap plain_process is ∙ merge_step parts) (side_step ns) (λ ts k. beside (all'.later ts k))

  pub sync_opens : (p : Proc) (parts : Vec Proc Global) (items : List Proc) (ns : Vec Network Global) → p ≡ procs.Sync parts → items ≡ parts.items
      → AllOpenTo m found new by (processes_of (map plain_process items)) ns → OpensTo m found new by (plain_process p) (nets.Sync ns)
  sync_opens p parts items ns is e all =
      let all' : AllOpenTo m found new by (processes_of (map plain_process parts.items)) ns = subst (λ l. AllOpenTo m found new by (processes_of (map plain_process l)) ns) e all in
      opens_at (ap plain_process is ∙ sync_step parts) (synced_step ns) (λ ts k. synced (all'.later ts k))

  pub left_opens : (mid : List Tree) (p q r : Proc) (first second : Box Proc) (a b : Box Network) → p ≡ procs.LeftMerge first second → q ≡ first.value → r ≡ second.value → Extends mid new
      → OpensTo m found mid by (plain_process q) a.value → OpensTo m found new by (plain_process r) b.value → OpensTo m found new by (plain_process p) (nets.LeftMerge a b)
  left_opens mid p q r first second a b is e f grow h k =
      opens_at (ap plain_process is ∙ left_merge_step first second) (left_merged_step a b) (λ ts j. left_merged
      (subst (λ z. Unfolding ts (plain_process z) (plain_network a.value)) e (h.later ts (extends_on mid new ts grow j)))
      (subst (λ z. Unfolding ts (plain_process z) (plain_network b.value)) f (k.later ts j)))

  pub choice_opens : (p : Proc) (parts : Vec Proc Global) (items : List Proc) (ns : Vec Network Global) → p ≡ procs.Choice parts → items ≡ parts.items → length parts.items ≡ 1
      → AllOpenTo m found new by (processes_of (map plain_process items)) ns → OpensTo m found new by (plain_process p) (nets.Merge ns)
  choice_opens p parts items ns is e l all =
      let all' : AllOpenTo m found new by (processes_of (map plain_process parts.items)) ns = subst (λ l. AllOpenTo m found new by (processes_of (map plain_process l)) ns) e all in
      opens_at (ap plain_process is ∙ choice_step parts) (side_step ns) (λ ts k. one_choice (one_is parts.items l) (all'.later ts k))

  pub seq_opens : (p : Proc) (parts : Vec Proc Global) (items : List Proc) (ns : Vec Network Global) → p ≡ procs.Seq parts → items ≡ parts.items → length parts.items ≡ 1
      → AllOpenTo m found new by (processes_of (map plain_process items)) ns → OpensTo m found new by (plain_process p) (nets.Merge ns)
  seq_opens p parts items ns is e l all =
      let all' : AllOpenTo m found new by (processes_of (map plain_process parts.items)) ns = subst (λ l. AllOpenTo m found new by (processes_of (map plain_process l)) ns) e all in
      opens_at (ap plain_process is ∙ seq_step parts) (side_step ns) (λ ts k. one_step (one_is parts.items l) (all'.later ts k))

  pub no_variables : (p : Proc) (xs : Vec VarId Global) (part : Box Proc) → p ≡ procs.Sum xs part → length xs.items ≡ 0 → plain_process p ≡ sum [] (plain_process part.value)
  no_variables p xs part is l = ap plain_process is ∙ (sum_step xs part ∙ ap (λ l. sum l (plain_process part.value)) (none_are xs.items l))
    where
      none_are : (l : List VarId) → length l ≡ 0 → l ≡ []
      none_are [] e = refl
      none_are (x ∷ l) e = absurd (omega (arith, e))

  pub sum_opens : (p : Proc) (xs : Vec VarId Global) (part : Box Proc) (q : Proc) (n : Network) → p ≡ procs.Sum xs part → length xs.items ≡ 0 → q ≡ part.value → OpensTo m found new by (plain_process q) n → OpensTo m found new by (plain_process p) n
  sum_opens p xs part q n is l e h = opens_at (no_variables p xs part is l) refl (λ ts k. no_sum (subst (λ z. Unfolding ts (plain_process z) (plain_network n)) e (h.later ts k)))

  pub under_opens : (o : NetOp) (p : PlainProcess) (n : Network) (b : Box Network) → b.value ≡ n → OpensTo m found new by p n → OpensTo m found new by (around (plain_operator o) p) (nets.Op o b)
  under_opens o p n b e h = opens_at refl (under_step o b) (λ ts k. within (subst (λ z. Unfolding ts p (plain_network z)) (sym e) (h.later ts k)))

  pub all_open_none : (ps : List Proc) (ns : Vec Network Global) → ns.items ≡ [] → AllOpenTo m found new by (processes_of (map plain_process (take 0 ps))) ns
  all_open_none ps ns e = record { later = λ ts k. subst (λ l. AllOpen m.definitions found.parallel.items ts by (processes_of (map plain_process (take 0 ps))) (networks_of (map plain_network l))) (sym e) none_open }

  one_more : {ts : List Tree} (ps : List PlainProcess) (ns : List PlainNetwork) (p : PlainProcess) (n : PlainNetwork) → AllOpen m.definitions found.parallel.items ts by (processes_of ps) (networks_of ns) → Unfolding ts p n
      → AllOpen m.definitions found.parallel.items ts by (processes_of (ps ++ p ∷ [])) (networks_of (ns ++ n ∷ []))
  one_more [] [] p n h o = more_open o none_open
  one_more [] (k ∷ ns) p n h o = elim h [ ]
  one_more (q ∷ ps) [] p n h o = elim h [ ]
  one_more (q ∷ ps) (k ∷ ns) p n (more_open i h) o = more_open i (one_more ps ns p n h o)

  pub all_open_more : (mid : List Tree) (ps : List Proc) (k : ℕ) (p : Proc) (n : Network) (ns ms : Vec Network Global) → k < length ps → p ≡ get_or ps k p → ms.items ≡ ns.items ++ n ∷ []
      → AllOpenTo m found mid by (processes_of (map plain_process (take k ps))) ns → Extends mid new → OpensTo m found new by (plain_process p) n → AllOpenTo m found new by (processes_of (map plain_process (take (k + 1) ps))) ms
  all_open_more mid ps k p n ns ms l e f all grow h =
      let seen : map plain_process (take (k + 1) ps) ≡ map plain_process (take k ps) ++ plain_process p ∷ [] =
      ap (map plain_process) (take_more ps k p l) ∙ (map-append plain_process (take k ps) (get_or ps k p ∷ []) ∙ ap (λ q. map plain_process (take k ps) ++ plain_process q ∷ []) (sym e)) in
      let made : map plain_network ms.items ≡ map plain_network ns.items ++ plain_network n ∷ [] = ap (map plain_network) f ∙ map-append plain_network ns.items (n ∷ []) in
      record {
        later = λ ts i. subst (λ qs. AllOpen m.definitions found.parallel.items ts by (processes_of qs) (networks_of (map plain_network ms.items))) (sym seen)
            (subst (λ qs. AllOpen m.definitions found.parallel.items ts by (processes_of (map plain_process (take k ps) ++ plain_process p ∷ [])) (networks_of qs)) (sym made)
            (one_more (map plain_process (take k ps)) (map plain_network ns.items) (plain_process p) (plain_network n) (all.later ts (extends_on mid new ts grow i)) (h.later ts i)));
      }

-- ---- calls
pub bound_in : (ts : List Tree) (xs : List VarId) (ids : List TermId) → AreIn ts ids → AreIn ts (listed_terms (zip xs ids))
bound_in ts [] ids h = All-nil (IsIn ts)
bound_in ts (x ∷ xs) [] h = All-nil (IsIn ts)
bound_in ts (x ∷ xs) (id ∷ ids) h = All-cons (IsIn ts) id (listed_terms (zip xs ids)) (All-head (IsIn ts) id ids h) (bound_in ts xs ids (All-tail (IsIn ts) id ids h))

same_definition : (ds : List PlainDefinition) (x : ℕ) (c f : PlainDefinition) → slice_get ds x ≡ Some c → slice_get ds x ≡ Some f → c ≡ f
same_definition ds x c f e h = let both : Some c ≡ Some f = sym e ∙ h in cc

-- the process that a call enters
pub call_enters : (m : PlainModel) (found : Parallelism) (new : List Tree) (by : List (VarId × TermId)) (x : ProcId) (us vs : List TermId) (c : PlainDefinition) (entered : Entered) → AreReached m found (x.0 ∷ []) → IsMarked found.parallel.items x.0
    → slice_get m.definitions x.0 ≡ Some c → PutsTerms new by us vs → AreIn new vs → entered.process ≡ x → entered.by.items ≡ zip c.params vs → Enters m found new by (call x us) entered
call_enters m found new by x us vs c entered reached marked at put inside is bound_is = record {
  there = subst (λ (y : ProcId). y.0 < length m.definitions) (sym is) (reached x.0 (contains_last x.0)).0;
  reached = subst (λ (y : ProcId). IsMarked found.reached.items y.0) (sym is) (reached x.0 (contains_last x.0)).1;
  parallel = subst (λ (y : ProcId). IsMarked found.parallel.items y.0) (sym is) marked;
  listed = subst (λ l. AreIn new (listed_terms l)) (sym bound_is) (bound_in new c.params vs inside);
  ranked = λ rank below. subst (λ (y : ProcId). get_or found.ranks.items y.0 0 < rank) (sym is) (below x.0 (contains_last x.0) marked);
  opens = λ ts f n e at_f h.
      let same : f ≡ c = same_definition m.definitions x.0 f c (subst (λ (y : ProcId). slice_get m.definitions y.0 ≡ Some f) is at_f) at in
      call_opened c at marked (put.later ts e) (subst (λ l. Opens m.definitions found.parallel.items ts l c.body n) bound_is (subst (λ d. Opens m.definitions found.parallel.items ts entered.by.items d.body n) same h));
}

-- the next one, where the body is such a call again
pub enters_on : (m : PlainModel) (found : Parallelism) (mid new : List Tree) (by : List (VarId × TermId)) (p : PlainProcess) (e next : Entered) (f : PlainDefinition) → HasReadyBodies m found mid → slice_get m.definitions e.process.0 ≡ Some f → Extends mid new
    → Enters m found mid by p e → Enters m found new e.by.items f.body next → Enters m found new by p next
enters_on m found mid new by p e next f bodies at grow h k =
    let ready = bodies.bodies e.process.0 f at h.reached h.parallel in
    record {
      there = k.there;
      reached = k.reached;
      parallel = k.parallel;
      listed = k.listed;
      ranked = λ rank below.
          let a = k.ranked (get_or found.ranks.items e.process.0 0) ready.below in
          let b = h.ranked rank below in
          omega (arith, a, b);
      opens = λ ts d n ext at_d o. h.opens ts f n (extends_on mid new ts grow ext) at (k.opens ts d n ext at_d o);
    }

pub entered_falls : (m : PlainModel) (found : Parallelism) (mid new : List Tree) (e next : Entered) (f : PlainDefinition) → HasReadyBodies m found mid → slice_get m.definitions e.process.0 ≡ Some f → IsMarked found.reached.items e.process.0 → IsMarked found.parallel.items e.process.0
    → Enters m found new e.by.items f.body next → get_or found.ranks.items next.process.0 0 < get_or found.ranks.items e.process.0 0
entered_falls m found mid new e next f bodies at r p k = k.ranked (get_or found.ranks.items e.process.0 0) (bodies.bodies e.process.0 f at r p).below

-- ... and it stays so as the pool grows
pub enters_kept : (m : PlainModel) (found : Parallelism) (mid new : List Tree) (by : List (VarId × TermId)) (p : PlainProcess) (e : Entered) → Extends mid new → Enters m found mid by p e → Enters m found new by p e
enters_kept m found mid new by p e grow h = record {
  there = h.there;
  reached = h.reached;
  parallel = h.parallel;
  listed = all_in_kept mid new (listed_terms e.by.items) grow h.listed;
  ranked = h.ranked;
  opens = λ ts f n ext at o. h.opens ts f n (extends_on mid new ts grow ext) at o;
}

pub settled_at : (m : PlainModel) (found : Parallelism) (e : Entered) (f : PlainDefinition) → slice_get m.definitions e.process.0 ≡ Some f → is_parallel_call found.parallel.items f.body ≡ false → IsSettled m found e
settled_at m found e f at h c at_c = subst (λ (d : PlainDefinition). is_parallel_call found.parallel.items d.body ≡ false) (same_definition m.definitions e.process.0 f c at at_c) h

-- what the body of the entered process unfolds to
pub body_opens : {E : Type 0} (r : Result Network E) (m : PlainModel) (found : Parallelism) (mid new : List Tree) (by items : List (VarId × TermId)) (p : PlainProcess) (e : Entered) (f : PlainDefinition) → Enters m found mid by p e → slice_get m.definitions e.process.0 ≡ Some f
    → Extends mid new → items ≡ e.by.items → IfOk r (OpensTo m found new items f.body) → IfOk r (OpensTo m found new by p)
body_opens r m found mid new by items p e f h at grow same ok =
    IfOk-weaker r (OpensTo m found new items f.body) (OpensTo m found new by p)
    (λ n k. record { later = λ ts ext. h.opens ts f (plain_network n) (extends_on mid new ts grow ext) at (subst (λ l. Opens m.definitions found.parallel.items ts l f.body (plain_network n)) same (k.later ts ext)) }) ok
