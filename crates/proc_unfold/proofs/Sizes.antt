-- The number of nodes of process terms, and that parts have fewer.
use Rattle.std.proofs.Common.{◌≡◌, ◌∙◌, ◌+◌, ◌*◌, ◌≤◌, ◌<◌, ℕ, zero, suc, List, [], ◌∷◌, map, length, get_or, refl, ap, arith, Vec, max}
use Rattle.std.proofs.Math.Nat.{le-max_left, le-max_right, le_trans, mul-le-mul_right}
use Rattle.std.specs.Global.{Global, Box}
use Rattle.data_theory.specs.declared.ids.VarId.{VarId}
use Rattle.data_theory.specs.declared.ids.TermId.{TermId}
use Rattle.process_terms.specs.declared.definitions.ProcDef.{ProcDef}
use Rattle.process_terms.specs.declared.processes.Proc.{Proc}
use Rattle.process_terms.specs.declared.processes.Proc.TheVariants as procs
use Rattle.process_terms.specs.PlainProcesses.{PlainAround, PlainProcess, PlainProcesses, delta, act, call, choice, seq, cond, sum, merge, left_merge, sync, around, no_processes, more_processes, processes_of, plain_process}
use Rattle.proc_unfold.proofs.ProcessSteps.{choice_step, seq_step, cond_step, sum_step, merge_step, left_merge_step, sync_step}

mutual
  pub nodes : PlainProcess → ℕ
  nodes delta = 1
  nodes (act m) = 1
  nodes (call x ids) = 1
  nodes (choice ps) = 1 + all_nodes ps
  nodes (seq ps) = 1 + all_nodes ps
  nodes (cond c p q) = 1 + (nodes p + nodes q)
  nodes (sum xs p) = 1 + nodes p
  nodes (merge ps) = 1 + all_nodes ps
  nodes (left_merge p q) = 1 + (nodes p + nodes q)
  nodes (sync ps) = 1 + all_nodes ps
  nodes (around o p) = 1 + nodes p

  pub all_nodes : PlainProcesses → ℕ
  all_nodes no_processes = 0
  all_nodes (more_processes p ps) = nodes p + all_nodes ps

-- ---- one level
cond_nodes : (c : TermId) (p q : PlainProcess) → nodes (cond c p q) ≡ 1 + (nodes p + nodes q)
unfolding nodes
cond_nodes c p q = refl

sum_nodes : (xs : List VarId) (p : PlainProcess) → nodes (sum xs p) ≡ 1 + nodes p
unfolding nodes
sum_nodes xs p = refl

around_nodes : (o : PlainAround) (p : PlainProcess) → nodes (around o p) ≡ 1 + nodes p
unfolding nodes
around_nodes o p = refl

choice_nodes : (ps : PlainProcesses) → nodes (choice ps) ≡ 1 + all_nodes ps
unfolding nodes
choice_nodes ps = refl

seq_nodes : (ps : PlainProcesses) → nodes (seq ps) ≡ 1 + all_nodes ps
unfolding nodes
seq_nodes ps = refl

merge_nodes : (ps : PlainProcesses) → nodes (merge ps) ≡ 1 + all_nodes ps
unfolding nodes
merge_nodes ps = refl

left_nodes : (p q : PlainProcess) → nodes (left_merge p q) ≡ 1 + (nodes p + nodes q)
unfolding nodes
left_nodes p q = refl

sync_nodes : (ps : PlainProcesses) → nodes (sync ps) ≡ 1 + all_nodes ps
unfolding nodes
sync_nodes ps = refl

more_nodes : (p : PlainProcess) (ps : PlainProcesses) → all_nodes (more_processes p ps) ≡ nodes p + all_nodes ps
unfolding all_nodes
more_nodes p ps = refl

-- ---- parts
pub then_smaller : (p q : Proc) (c : TermId) (then other : Box Proc) → p ≡ procs.Cond c then other → q ≡ then.value → nodes (plain_process q) < nodes (plain_process p)
then_smaller p q c then other is e =
    let whole : nodes (plain_process p) ≡ 1 + (nodes (plain_process then.value) + nodes (plain_process other.value)) = ap nodes (ap plain_process is ∙ cond_step c then other) ∙ cond_nodes c (plain_process then.value) (plain_process other.value) in
    let part : nodes (plain_process q) ≡ nodes (plain_process then.value) = ap (λ r. nodes (plain_process r)) e in
    omega (arith, whole, part)

pub other_smaller : (p q : Proc) (c : TermId) (then other : Box Proc) → p ≡ procs.Cond c then other → q ≡ other.value → nodes (plain_process q) < nodes (plain_process p)
other_smaller p q c then other is e =
    let whole : nodes (plain_process p) ≡ 1 + (nodes (plain_process then.value) + nodes (plain_process other.value)) = ap nodes (ap plain_process is ∙ cond_step c then other) ∙ cond_nodes c (plain_process then.value) (plain_process other.value) in
    let part : nodes (plain_process q) ≡ nodes (plain_process other.value) = ap (λ r. nodes (plain_process r)) e in
    omega (arith, whole, part)

pub summed_smaller : (p q : Proc) (xs : Vec VarId Global) (part : Box Proc) → p ≡ procs.Sum xs part → q ≡ part.value → nodes (plain_process q) < nodes (plain_process p)
summed_smaller p q xs part is e =
    let whole : nodes (plain_process p) ≡ 1 + nodes (plain_process part.value) = ap nodes (ap plain_process is ∙ sum_step xs part) ∙ sum_nodes xs.items (plain_process part.value) in
    let same : nodes (plain_process q) ≡ nodes (plain_process part.value) = ap (λ r. nodes (plain_process r)) e in
    omega (arith, whole, same)

pub around_smaller : (p : Proc) (o : PlainAround) (part : Box Proc) (q : Proc) → plain_process p ≡ around o (plain_process part.value) → q ≡ part.value → nodes (plain_process q) < nodes (plain_process p)
around_smaller p o part q is e =
    let whole : nodes (plain_process p) ≡ 1 + nodes (plain_process part.value) = ap nodes is ∙ around_nodes o (plain_process part.value) in
    let same : nodes (plain_process q) ≡ nodes (plain_process part.value) = ap (λ r. nodes (plain_process r)) e in
    omega (arith, whole, same)

pub choices_smaller : (p : Proc) (parts : Vec Proc Global) (items : List Proc) → p ≡ procs.Choice parts → items ≡ parts.items → all_nodes (processes_of (map plain_process items)) < nodes (plain_process p)
choices_smaller p parts items is e =
    let whole : nodes (plain_process p) ≡ 1 + all_nodes (processes_of (map plain_process parts.items)) = ap nodes (ap plain_process is ∙ choice_step parts) ∙ choice_nodes (processes_of (map plain_process parts.items)) in
    let same : all_nodes (processes_of (map plain_process items)) ≡ all_nodes (processes_of (map plain_process parts.items)) = ap (λ l. all_nodes (processes_of (map plain_process l))) e in
    omega (arith, whole, same)

pub steps_smaller : (p : Proc) (parts : Vec Proc Global) (items : List Proc) → p ≡ procs.Seq parts → items ≡ parts.items → all_nodes (processes_of (map plain_process items)) < nodes (plain_process p)
steps_smaller p parts items is e =
    let whole : nodes (plain_process p) ≡ 1 + all_nodes (processes_of (map plain_process parts.items)) = ap nodes (ap plain_process is ∙ seq_step parts) ∙ seq_nodes (processes_of (map plain_process parts.items)) in
    let same : all_nodes (processes_of (map plain_process items)) ≡ all_nodes (processes_of (map plain_process parts.items)) = ap (λ l. all_nodes (processes_of (map plain_process l))) e in
    omega (arith, whole, same)

pub merged_smaller : (p : Proc) (parts : Vec Proc Global) (items : List Proc) → p ≡ procs.Merge parts → items ≡ parts.items → all_nodes (processes_of (map plain_process items)) < nodes (plain_process p)
merged_smaller p parts items is e =
    let whole : nodes (plain_process p) ≡ 1 + all_nodes (processes_of (map plain_process parts.items)) = ap nodes (ap plain_process is ∙ merge_step parts) ∙ merge_nodes (processes_of (map plain_process parts.items)) in
    let same : all_nodes (processes_of (map plain_process items)) ≡ all_nodes (processes_of (map plain_process parts.items)) = ap (λ l. all_nodes (processes_of (map plain_process l))) e in
    omega (arith, whole, same)

pub synced_smaller : (p : Proc) (parts : Vec Proc Global) (items : List Proc) → p ≡ procs.Sync parts → items ≡ parts.items → all_nodes (processes_of (map plain_process items)) < nodes (plain_process p)
synced_smaller p parts items is e =
    let whole : nodes (plain_process p) ≡ 1 + all_nodes (processes_of (map plain_process parts.items)) = ap nodes (ap plain_process is ∙ sync_step parts) ∙ sync_nodes (processes_of (map plain_process parts.items)) in
    let same : all_nodes (processes_of (map plain_process items)) ≡ all_nodes (processes_of (map plain_process parts.items)) = ap (λ l. all_nodes (processes_of (map plain_process l))) e in
    omega (arith, whole, same)

pub first_smaller : (p q : Proc) (first second : Box Proc) → p ≡ procs.LeftMerge first second → q ≡ first.value → nodes (plain_process q) < nodes (plain_process p)
first_smaller p q first second is e =
    let whole : nodes (plain_process p) ≡ 1 + (nodes (plain_process first.value) + nodes (plain_process second.value)) = ap nodes (ap plain_process is ∙ left_merge_step first second) ∙ left_nodes (plain_process first.value) (plain_process second.value) in
    let part : nodes (plain_process q) ≡ nodes (plain_process first.value) = ap (λ r. nodes (plain_process r)) e in
    omega (arith, whole, part)

pub second_smaller : (p q : Proc) (first second : Box Proc) → p ≡ procs.LeftMerge first second → q ≡ second.value → nodes (plain_process q) < nodes (plain_process p)
second_smaller p q first second is e =
    let whole : nodes (plain_process p) ≡ 1 + (nodes (plain_process first.value) + nodes (plain_process second.value)) = ap nodes (ap plain_process is ∙ left_merge_step first second) ∙ left_nodes (plain_process first.value) (plain_process second.value) in
    let part : nodes (plain_process q) ≡ nodes (plain_process second.value) = ap (λ r. nodes (plain_process r)) e in
    omega (arith, whole, part)

pub operand_no_larger : (ps : List Proc) (k : ℕ) (p : Proc) → k < length ps → p ≡ get_or ps k p → nodes (plain_process p) ≤ all_nodes (processes_of (map plain_process ps))
operand_no_larger [] k p l e = absurd (omega (arith, l))
operand_no_larger (q ∷ ps) zero p l e =
    let whole = more_nodes (plain_process q) (processes_of (map plain_process ps)) in
    let same : nodes (plain_process p) ≡ nodes (plain_process q) = ap (λ r. nodes (plain_process r)) e in
    omega (arith, whole, same)
operand_no_larger (q ∷ ps) (suc k) p l e =
    let whole = more_nodes (plain_process q) (processes_of (map plain_process ps)) in
    let rest = operand_no_larger ps k p (omega (arith, l)) e in
    omega (arith, whole, rest)

-- ---- bodies
pub deepest : List ProcDef → ℕ
deepest [] = 0
deepest (d ∷ ds) = max (nodes (plain_process d.body)) (deepest ds)

pub body_depth : (ds : List ProcDef) (x : ℕ) (d : ProcDef) → x < length ds → nodes (plain_process (get_or ds x d).body) ≤ deepest ds
unfolding deepest
body_depth [] x d l = absurd (omega (arith, l))
body_depth (c ∷ ds) zero d l = le-max_left (nodes (plain_process c.body)) (deepest ds)
body_depth (c ∷ ds) (suc x) d l = le_trans (body_depth ds x d (omega (arith, l))) (le-max_right (nodes (plain_process c.body)) (deepest ds))

-- a smaller rank makes up for a larger body
pub rank_falls : (t r s deep b n : ℕ) → r < s → b ≤ deep → s * (3 * deep + 1) + (3 * n + 1) ≡ t → r * (3 * deep + 1) + 3 * b < t
rank_falls t r s deep b n h k e =
    let m : (r + 1) * (3 * deep + 1) ≤ s * (3 * deep + 1) = mul-le-mul_right (3 * deep + 1) (omega arith) in
    omega (arith, m, e, k)
