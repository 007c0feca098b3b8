-- The calls of process terms in code are those of what they mean.
use Rattle.std.proofs.Common.{◌≡◌, ◌<◌, ◌+◌, ℕ, List, [], ◌∷◌, ◌++◌, map, take, length, get_or, refl, sym, ap, ◌∙◌, Result}
use Rattle.std.proofs.lemmas.Result.{on_ok_weaker}
use Rattle.std.specs.Result.{OnOk}
use Rattle.std.proofs.lemmas.List.{append-nil, map-append, append_assoc, take_more}
use Rattle.process_terms.specs.Processes as written
use Rattle.process_terms.specs.Processes.{Bound, Body, written_merge, written_starting, choice_of, seq_of, merged_with, merge_of, synced_with, sync_of, sums_around}
use Rattle.process_terms.specs.declared.processes.Proc.{Proc}
use Rattle.process_terms.specs.declared.processes.Proc.TheVariants.{Cond, rolls-Cond, LeftMerge, rolls-LeftMerge}
use Rattle.process_terms.specs.declared.processes.Proc.TheFolds.{fold-roll-Proc}
use Rattle.data_theory.specs.declared.ids.TermId.{TermId}
use Rattle.std.specs.Global.{Box}
use Rattle.process_terms.specs.PlainProcesses.{PlainProcess, PlainProcesses, delta, act, call, choice, seq, cond, sum, merge, left_merge, sync, around, no_processes, more_processes, processes_of, plain_process, plain_process_step}
use Rattle.process_terms.specs.Meanings.{Entries, body_of, bodies_of, bound_at}
use Rattle.guard_check.specs.declared.calls.Extent.{Extent}
use Rattle.guard_check.specs.declared.calls.Extent.TheVariants.{Everywhere, BeforeActions}
use Rattle.guard_check.specs.Calls.{calls}
use Rattle.guard_check.specs.CallGraphs.{plain_calls, all_calls, calls_of_first}

pub appended : {A : Type 0} (a b c xs ys : List A) → b ≡ a ++ xs → c ≡ b ++ ys → c ≡ a ++ (xs ++ ys)
appended a b c xs ys h k = k ∙ (ap (λ l. l ++ ys) h ∙ append_assoc a xs ys)

all_append : (n : Extent) (ps qs : List PlainProcess) → all_calls n (processes_of (ps ++ qs)) ≡ all_calls n (processes_of ps) ++ all_calls n (processes_of qs)
all_append n [] qs = refl
all_append n (p ∷ ps) qs = ap (λ l. plain_calls n p ++ l) (all_append n ps qs) ∙ sym (append_assoc (plain_calls n p) (all_calls n (processes_of ps)) (all_calls n (processes_of qs)))

all_more : (n : Extent) (ps : List Proc) (k : ℕ) (p : Proc) → k < length ps → p ≡ get_or ps k p
    → all_calls n (processes_of (map plain_process (take (k + 1) ps))) ≡ all_calls n (processes_of (map plain_process (take k ps))) ++ plain_calls n (plain_process p)
all_more n ps k p l e =
    ap (λ qs. all_calls n (processes_of (map plain_process qs))) (take_more ps k p l)
    ∙ (ap (λ qs. all_calls n (processes_of qs)) (map-append plain_process (take k ps) (get_or ps k p ∷ []))
    ∙ (all_append n (map plain_process (take k ps)) (plain_process (get_or ps k p) ∷ [])
    ∙ (ap (λ l. all_calls n (processes_of (map plain_process (take k ps))) ++ l) (append-nil (plain_calls n (plain_process (get_or ps k p))))
    ∙ ap (λ q. all_calls n (processes_of (map plain_process (take k ps))) ++ plain_calls n (plain_process q)) (sym e))))

-- one more operand is walked
pub walked_more : (n : Extent) (ps : List Proc) (k : ℕ) (p : Proc) (start mid end : List ℕ) → k < length ps → p ≡ get_or ps k p
    → mid ≡ start ++ all_calls n (processes_of (map plain_process (take k ps))) → end ≡ mid ++ plain_calls n (plain_process p)
    → end ≡ start ++ all_calls n (processes_of (map plain_process (take (k + 1) ps)))
walked_more n ps k p start mid end l e h i = appended start mid end _ _ h i ∙ ap (λ c. start ++ c) (sym (all_more n ps k p l e))

sums_calls : (n : Extent) (xs : List Bound) (p : Body) → calls n (sums_around xs p) ≡ calls n p
sums_calls n [] p = refl
sums_calls n (x ∷ xs) p = sums_calls n xs p

mutual
  pub same_calls : (n : Extent) (g : Entries) (p : PlainProcess) → plain_calls n p ≡ calls n (body_of g p)
  same_calls n g delta = refl
  same_calls n g (act m) = refl
  same_calls n g (call x ts) = refl
  same_calls n g (choice ps) = choice_calls n g ps
  same_calls Everywhere g (seq ps) = chain_calls g ps
  same_calls BeforeActions g (seq ps) = first_calls g ps
  same_calls n g (cond c p q) = λ i. same_calls n g p i ++ same_calls n g q i
  same_calls n g (sum xs p) = same_calls n g p ∙ sym (sums_calls n (map (bound_at g) xs) (body_of g p))
  same_calls n g (merge ps) = merge_calls n g ps
  same_calls n g (left_merge p q) = λ i. same_calls n g p i ++ same_calls n g q i
  same_calls n g (sync ps) = sync_calls n g ps
  same_calls n g (around o p) = same_calls n g p

  choice_calls : (n : Extent) (g : Entries) (ps : PlainProcesses) → all_calls n ps ≡ calls n (choice_of (bodies_of g ps))
  choice_calls n g no_processes = refl
  choice_calls n g (more_processes p no_processes) = append-nil (plain_calls n p) ∙ same_calls n g p
  choice_calls n g (more_processes p (more_processes q ps)) = λ i. same_calls n g p i ++ choice_calls n g (more_processes q ps) i

  merge_calls : (n : Extent) (g : Entries) (ps : PlainProcesses) → all_calls n ps ≡ calls n (merge_of (bodies_of g ps))
  merge_calls n g no_processes = refl
  merge_calls n g (more_processes p ps) = (λ i. same_calls n g p i ++ all_calls n ps) ∙ merged_calls n g (body_of g p) ps

  merged_calls : (n : Extent) (g : Entries) (q : Body) (ps : PlainProcesses) → calls n q ++ all_calls n ps ≡ calls n (merged_with q (bodies_of g ps))
  merged_calls n g q no_processes = append-nil (calls n q)
  merged_calls n g q (more_processes p ps) = sym (append_assoc (calls n q) (plain_calls n p) (all_calls n ps)) ∙ ((λ i. (calls n q ++ same_calls n g p i) ++ all_calls n ps) ∙ merged_calls n g (written_merge q (body_of g p)) ps)

  sync_calls : (n : Extent) (g : Entries) (ps : PlainProcesses) → all_calls n ps ≡ calls n (sync_of (bodies_of g ps))
  sync_calls n g no_processes = refl
  sync_calls n g (more_processes p ps) = (λ i. same_calls n g p i ++ all_calls n ps) ∙ synced_calls n g (body_of g p) ps

  synced_calls : (n : Extent) (g : Entries) (q : Body) (ps : PlainProcesses) → calls n q ++ all_calls n ps ≡ calls n (synced_with q (bodies_of g ps))
  synced_calls n g q no_processes = append-nil (calls n q)
  synced_calls n g q (more_processes p ps) = sym (append_assoc (calls n q) (plain_calls n p) (all_calls n ps)) ∙ ((λ i. (calls n q ++ same_calls n g p i) ++ all_calls n ps) ∙ synced_calls n g (written_starting written.sync q (body_of g p)) ps)

  chain_calls : (g : Entries) (ps : PlainProcesses) → all_calls Everywhere ps ≡ calls Everywhere (seq_of (bodies_of g ps))
  chain_calls g no_processes = refl
  chain_calls g (more_processes p no_processes) = append-nil (plain_calls Everywhere p) ∙ same_calls Everywhere g p
  chain_calls g (more_processes p (more_processes q ps)) = λ i. same_calls Everywhere g p i ++ chain_calls g (more_processes q ps) i

  first_calls : (g : Entries) (ps : PlainProcesses) → calls_of_first ps ≡ calls BeforeActions (seq_of (bodies_of g ps))
  first_calls g no_processes = refl
  first_calls g (more_processes p no_processes) = same_calls BeforeActions g p
  first_calls g (more_processes p (more_processes q ps)) = same_calls BeforeActions g p ∙ sym (append-nil (calls BeforeActions (body_of g p)))

cond_step : (c : TermId) (p q : Box Proc) → plain_process (Cond c p q) ≡ cond c (plain_process p.value) (plain_process q.value)
cond_step c p q = ap plain_process (sym (rolls-Cond c p q)) ∙ fold-roll-Proc PlainProcess plain_process_step _

pub cond_calls : (n : Extent) (c : TermId) (p q : Box Proc) → plain_calls n (plain_process (Cond c p q)) ≡ plain_calls n (plain_process p.value) ++ plain_calls n (plain_process q.value)
cond_calls n c p q = ap (plain_calls n) (cond_step c p q)

-- both sides of a condition are walked
pub both_walked : {T E : Type 0} (r : Result T E) (n : Extent) (p : Proc) (c : TermId) (then other : Box Proc) (q q' : Proc) (start mid end : List ℕ) → p ≡ Cond c then other → q ≡ then.value → q' ≡ other.value
    → mid ≡ start ++ plain_calls n (plain_process q) → OnOk r (end ≡ mid ++ plain_calls n (plain_process q')) → OnOk r (end ≡ start ++ plain_calls n (plain_process p))
both_walked r n p c then other q q' start mid end is e f h k =
    on_ok_weaker r (λ j. appended start mid end _ _ h j ∙ ap (λ l. start ++ l) ((λ i. plain_calls n (plain_process (e i)) ++ plain_calls n (plain_process (f i))) ∙ sym (ap (λ q. plain_calls n (plain_process q)) is ∙ cond_calls n c then other))) k

left_step : (p q : Box Proc) → plain_process (LeftMerge p q) ≡ left_merge (plain_process p.value) (plain_process q.value)
left_step p q = ap plain_process (sym (rolls-LeftMerge p q)) ∙ fold-roll-Proc PlainProcess plain_process_step _

pub left_calls : (n : Extent) (p q : Box Proc) → plain_calls n (plain_process (LeftMerge p q)) ≡ plain_calls n (plain_process p.value) ++ plain_calls n (plain_process q.value)
left_calls n p q = ap (plain_calls n) (left_step p q)

-- both sides of a `||_` are walked
pub left_walked : {T E : Type 0} (r : Result T E) (n : Extent) (p : Proc) (first second : Box Proc) (q q' : Proc) (start mid end : List ℕ) → p ≡ LeftMerge first second → q ≡ first.value → q' ≡ second.value
    → mid ≡ start ++ plain_calls n (plain_process q) → OnOk r (end ≡ mid ++ plain_calls n (plain_process q')) → OnOk r (end ≡ start ++ plain_calls n (plain_process p))
left_walked r n p first second q q' start mid end is e f h k =
    on_ok_weaker r (λ j. appended start mid end _ _ h j ∙ ap (λ l. start ++ l) ((λ i. plain_calls n (plain_process (e i)) ++ plain_calls n (plain_process (f i))) ∙ sym (ap (λ q. plain_calls n (plain_process q)) is ∙ left_calls n first second))) k
