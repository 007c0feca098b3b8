-- What the loops over operands and marks keep.
use Rattle.std.proofs.Common.{◌≡◌, ◌<◌, ◌≤◌, ◌+◌, inl, inr, Bool, true, false, not, ◌&&◌, ◌||◌, if◌then◌else◌, ℕ, zero, suc, List, [], ◌∷◌, ◌++◌, map, take, length, get_or, refl, sym, ap, ◌∙◌, subst, arith, length-append, Vec}
use Rattle.std.specs.Global.{Global}
use Rattle.std.proofs.lemmas.List.{get_or_append_left}
use Rattle.std.proofs.Math.Seq.{get_or-append_seam}
use Rattle.graphs.specs.Graphs.{IsMarked}
use Rattle.graphs.proofs.Marks.{same_or_not, marked_below, read_any}
use Rattle.process_terms.specs.declared.processes.Proc.{Proc}
use Rattle.process_terms.specs.declared.processes.Proc.TheVariants as procs
use Rattle.process_terms.specs.PlainProcesses.{PlainProcess, PlainProcesses, processes_of, plain_process}
use Rattle.std.specs.Prelude.{Result, IfOk}
use Rattle.std.proofs.lemmas.Result.{IfOk-weaker}
use Rattle.process_terms.specs.Meanings.{Entries, body_of}
use Rattle.guard_check.specs.declared.calls.Extent.TheVariants.{Everywhere}
use Rattle.guard_check.specs.Calls.{calls}
use Rattle.guard_check.specs.CallGraphs.{plain_calls}
use Rattle.guard_check.proofs.CallLemmas.{same_calls}
use Rattle.proc_unfold.specs.ParallelTests.{has_one, has_two, has_parallel, any_parallel, none_marked, is_outside, all_outside, is_sequential}
use Rattle.proc_unfold.specs.ParallelMarks.{MarksBoth}
use Rattle.proc_unfold.proofs.ProcessSteps.{choice_step, seq_step, merge_step, sync_step}

-- ---- operands with a parallel operator
two_are : (ps : List Proc) → 2 ≤ length ps → has_two (processes_of (map plain_process ps)) ≡ true
two_are [] l = absurd (omega arith)
two_are (p ∷ []) l = absurd (omega arith)
two_are (p ∷ q ∷ ps) l = refl

two_are_not : (ps : List Proc) → length ps < 2 → has_two (processes_of (map plain_process ps)) ≡ false
two_are_not [] l = refl
two_are_not (p ∷ []) l = refl
two_are_not (p ∷ q ∷ ps) l = absurd (omega arith)

pub merge_parallel : (p : Proc) (parts : Vec Proc Global) → p ≡ procs.Merge parts → 2 ≤ length parts.items → has_parallel (plain_process p) ≡ true
merge_parallel p parts is l = ap (λ q. has_parallel (plain_process q)) is ∙ (ap has_parallel (merge_step parts) ∙ ap (λ b. b || any_parallel (processes_of (map plain_process parts.items))) (two_are parts.items l))

pub short_merge : (p : Proc) (parts : Vec Proc Global) → p ≡ procs.Merge parts → length parts.items < 2 → has_parallel (plain_process p) ≡ any_parallel (processes_of (map plain_process parts.items))
short_merge p parts is l = ap (λ q. has_parallel (plain_process q)) is ∙ (ap has_parallel (merge_step parts) ∙ ap (λ b. b || any_parallel (processes_of (map plain_process parts.items))) (two_are_not parts.items l))

pub sync_parallel : (p : Proc) (parts : Vec Proc Global) → p ≡ procs.Sync parts → 2 ≤ length parts.items → has_parallel (plain_process p) ≡ true
sync_parallel p parts is l = ap (λ q. has_parallel (plain_process q)) is ∙ (ap has_parallel (sync_step parts) ∙ ap (λ b. b || any_parallel (processes_of (map plain_process parts.items))) (two_are parts.items l))

pub short_sync : (p : Proc) (parts : Vec Proc Global) → p ≡ procs.Sync parts → length parts.items < 2 → has_parallel (plain_process p) ≡ any_parallel (processes_of (map plain_process parts.items))
short_sync p parts is l = ap (λ q. has_parallel (plain_process q)) is ∙ (ap has_parallel (sync_step parts) ∙ ap (λ b. b || any_parallel (processes_of (map plain_process parts.items))) (two_are_not parts.items l))

none_before : (p : PlainProcess) (b : Bool) → has_parallel p ≡ false → b ≡ false → (has_parallel p || b) ≡ false
none_before p b e f = (λ i. e i || b) ∙ f

any_after : (ps : List Proc) (k : ℕ) (p : Proc) → k < length ps → p ≡ get_or ps k p → any_parallel (processes_of (map plain_process (take k ps))) ≡ false → has_parallel (plain_process p) ≡ false → any_parallel (processes_of (map plain_process (take (suc k) ps))) ≡ false
any_after [] k p l e h i = absurd (omega arith)
any_after (q ∷ ps) zero p l e h i = none_before (plain_process q) false (subst (λ r. has_parallel (plain_process r) ≡ false) e i) refl
any_after (q ∷ ps) (suc k) p l e h i = first (has_parallel (plain_process q)) (any_parallel (processes_of (map plain_process (take k ps)))) (any_parallel (processes_of (map plain_process (take (suc k) ps)))) h (λ j. any_after ps k p (omega arith) e j i)
  where
    first : (a b c : Bool) → (a || b) ≡ false → (b ≡ false → c ≡ false) → (a || c) ≡ false
    first true b c h f = cc
    first false b c h f = f h

pub any_more : (ps : List Proc) (k : ℕ) (p : Proc) → k < length ps → p ≡ get_or ps k p → any_parallel (processes_of (map plain_process (take k ps))) ≡ false → has_parallel (plain_process p) ≡ false → any_parallel (processes_of (map plain_process (take (k + 1) ps))) ≡ false
any_more ps k p l e h i = let one : suc k ≡ k + 1 = omega arith in subst (λ (n : ℕ). any_parallel (processes_of (map plain_process (take n ps))) ≡ false) one (any_after ps k p l e h i)

pub any_at : (ps : List Proc) (k : ℕ) (p : Proc) → k < length ps → p ≡ get_or ps k p → has_parallel (plain_process p) ≡ true → any_parallel (processes_of (map plain_process ps)) ≡ true
any_at [] k p l e i = absurd (omega arith)
any_at (q ∷ ps) zero p l e i = ap (λ b. b || any_parallel (processes_of (map plain_process ps))) (subst (λ r. has_parallel (plain_process r) ≡ true) e i)
any_at (q ∷ ps) (suc k) p l e i = or_true (has_parallel (plain_process q)) _ (any_at ps k p (omega arith) e i)
  where
    or_true : (a b : Bool) → b ≡ true → (a || b) ≡ true
    or_true true b h = refl
    or_true false b h = h

-- ---- operands in which nothing parallel stands within
outside_after : (marks : List Bool) (ps : List Proc) (k : ℕ) (p : Proc) → k < length ps → p ≡ get_or ps k p → all_outside marks (processes_of (map plain_process (take k ps))) ≡ true → is_outside marks (plain_process p) ≡ true → all_outside marks (processes_of (map plain_process (take (suc k) ps))) ≡ true
outside_after marks [] k p l e h i = absurd (omega arith)
outside_after marks (q ∷ ps) zero p l e h i = ap (λ b. b && true) (subst (λ r. is_outside marks (plain_process r) ≡ true) e i)
outside_after marks (q ∷ ps) (suc k) p l e h i = first (is_outside marks (plain_process q)) (all_outside marks (processes_of (map plain_process (take k ps)))) (all_outside marks (processes_of (map plain_process (take (suc k) ps)))) h (λ j. outside_after marks ps k p (omega arith) e j i)
  where
    first : (a b c : Bool) → (a && b) ≡ true → (b ≡ true → c ≡ true) → (a && c) ≡ true
    first true b c h f = f h
    first false b c h f = cc

pub outside_more : (marks : List Bool) (ps : List Proc) (k : ℕ) (p : Proc) → k < length ps → p ≡ get_or ps k p → all_outside marks (processes_of (map plain_process (take k ps))) ≡ true → is_outside marks (plain_process p) ≡ true → all_outside marks (processes_of (map plain_process (take (k + 1) ps))) ≡ true
outside_more marks ps k p l e h i = let one : suc k ≡ k + 1 = omega arith in subst (λ (n : ℕ). all_outside marks (processes_of (map plain_process (take n ps))) ≡ true) one (outside_after marks ps k p l e h i)

pub outside_not : (marks : List Bool) (ps : List Proc) (k : ℕ) (p : Proc) → k < length ps → p ≡ get_or ps k p → is_outside marks (plain_process p) ≡ false → all_outside marks (processes_of (map plain_process ps)) ≡ false
outside_not marks [] k p l e i = absurd (omega arith)
outside_not marks (q ∷ ps) zero p l e i = ap (λ b. b && all_outside marks (processes_of (map plain_process ps))) (subst (λ r. is_outside marks (plain_process r) ≡ false) e i)
outside_not marks (q ∷ ps) (suc k) p l e i = and_false (is_outside marks (plain_process q)) _ (outside_not marks ps k p (omega arith) e i)
  where
    and_false : (a b : Bool) → b ≡ false → (a && b) ≡ false
    and_false true b h = h
    and_false false b h = refl

-- ---- chains of one operand and others
pub one_is : (ps : List Proc) → length ps ≡ 1 → has_one (processes_of (map plain_process ps)) ≡ true
one_is [] l = absurd (omega arith)
one_is (p ∷ []) l = refl
one_is (p ∷ q ∷ ps) l = absurd (omega arith)

one_is_not : (ps : List Proc) → (length ps ≡ 1 → ⊥) → has_one (processes_of (map plain_process ps)) ≡ false
one_is_not [] l = refl
one_is_not (p ∷ []) l = absurd (l refl)
one_is_not (p ∷ q ∷ ps) l = refl

chosen : (marks : List Bool) (a b : Bool) (ps : PlainProcesses) → has_one ps ≡ a → (if has_one ps then all_outside marks ps else b) ≡ (if a then all_outside marks ps else b)
chosen marks a b ps e = ap (λ c. if c then all_outside marks ps else b) e

pub choice_of_one : (marks : List Bool) (p : Proc) (parts : Vec Proc Global) → p ≡ procs.Choice parts → length parts.items ≡ 1 → is_outside marks (plain_process p) ≡ all_outside marks (processes_of (map plain_process parts.items))
choice_of_one marks p parts is l = ap (λ q. is_outside marks (plain_process q)) is ∙ (ap (is_outside marks) (choice_step parts) ∙ chosen marks true _ (processes_of (map plain_process parts.items)) (one_is parts.items l))

pub seq_of_one : (marks : List Bool) (p : Proc) (parts : Vec Proc Global) → p ≡ procs.Seq parts → length parts.items ≡ 1 → is_outside marks (plain_process p) ≡ all_outside marks (processes_of (map plain_process parts.items))
seq_of_one marks p parts is l = ap (λ q. is_outside marks (plain_process q)) is ∙ (ap (is_outside marks) (seq_step parts) ∙ chosen marks true _ (processes_of (map plain_process parts.items)) (one_is parts.items l))

pub choice_of_others : (marks : List Bool) (p : Proc) (parts : Vec Proc Global) → p ≡ procs.Choice parts → (length parts.items ≡ 1 → ⊥) → is_outside marks (plain_process p) ≡ is_sequential marks (plain_process p)
choice_of_others marks p parts is l =
    ap (λ q. is_outside marks (plain_process q)) is ∙ (ap (is_outside marks) (choice_step parts) ∙ (chosen marks false _ (processes_of (map plain_process parts.items)) (one_is_not parts.items l) ∙ sym (ap (λ q. is_sequential marks (plain_process q)) is ∙ ap (is_sequential marks) (choice_step parts))))

pub seq_of_others : (marks : List Bool) (p : Proc) (parts : Vec Proc Global) → p ≡ procs.Seq parts → (length parts.items ≡ 1 → ⊥) → is_outside marks (plain_process p) ≡ is_sequential marks (plain_process p)
seq_of_others marks p parts is l =
    ap (λ q. is_outside marks (plain_process q)) is ∙ (ap (is_outside marks) (seq_step parts) ∙ (chosen marks false _ (processes_of (map plain_process parts.items)) (one_is_not parts.items l) ∙ sym (ap (λ q. is_sequential marks (plain_process q)) is ∙ ap (is_sequential marks) (seq_step parts))))

-- ---- marks in both
pub both_none : (left right both : List Bool) → both ≡ [] → MarksBoth left right 0 both
both_none left right both is = record {
  size = ap length is;
  exact = λ x. (λ marked. absurd (let below = marked_below [] x (subst (λ (l : List Bool). IsMarked l x) is marked) in omega arith), λ h. absurd (omega (arith, h.0)));
}

pub both_more : (left right : List Bool) (k : ℕ) (a b : Bool) (both both' : List Bool) → k < length left → length right ≡ length left → get_or left k a ≡ a → get_or right k b ≡ b → MarksBoth left right k both → both' ≡ both ++ (a && b) ∷ [] → MarksBoth left right (k + 1) both'
both_more left right k a b both both' below size at_a at_b so push_is = record {
  size = ap length push_is ∙ (length-append both ((a && b) ∷ []) ∙ (let was = so.size in omega arith));
  exact = λ x. elim (same_or_not x k) [
    | inl is ↦ (
      λ marked. let both_are = parts a b (sym (at_end x is) ∙ marked) in (omega arith, subst (IsMarked left) (sym is) (read_any left k false a below ∙ (at_a ∙ both_are.0)), subst (IsMarked right) (sym is) (read_any right k false b (omega arith) ∙ (at_b ∙ both_are.1))),
      λ h. at_end x is ∙ joined a b (sym at_a ∙ (read_any left k a false below ∙ subst (IsMarked left) is h.1)) (sym at_b ∙ (read_any right k b false (omega arith) ∙ subst (IsMarked right) is h.2)),
    )
    | inr differs ↦ (
      λ marked.
          let within = marked_below both' x marked in
          let short : x < length both = omega (arith, within, ap length push_is, length-append both ((a && b) ∷ []), so.size) in
          let was = (so.exact x).0 (sym (before x short) ∙ marked) in
          (omega (arith, was.0), was.1, was.2),
      λ h. before x (omega (arith, h.0, so.size)) ∙ (so.exact x).1 (omega (arith, h.0), h.1, h.2),
    )
  ];
}
  where
    parts : (a b : Bool) → (a && b) ≡ true → (a ≡ true) × (b ≡ true)
    parts true b e = (refl, e)
    parts false b e = cc

    joined : (a b : Bool) → a ≡ true → b ≡ true → (a && b) ≡ true
    joined true b e f = f
    joined false b e f = cc

    at_end : (x : ℕ) → x ≡ k → get_or both' x false ≡ (a && b)
    at_end x is = ap (λ (l : List Bool). get_or l x false) push_is ∙ (ap (λ n. get_or (both ++ (a && b) ∷ []) n false) (is ∙ sym so.size) ∙ get_or-append_seam both (a && b) [] false)

    before : (x : ℕ) → x < length both → get_or both' x false ≡ get_or both x false
    before x short = ap (λ (l : List Bool). get_or l x false) push_is ∙ get_or_append_left both ((a && b) ∷ []) false x short

-- ---- sequential terms
any_entries : Entries
any_entries = record { texts = []; actions = []; variables = []; terms = [] }

pub names_are : (p : PlainProcess) (xs : List ℕ) → ((g : Entries) → xs ≡ calls Everywhere (body_of g p)) → xs ≡ plain_calls Everywhere p
names_are p xs are = are any_entries ∙ sym (same_calls Everywhere any_entries p)

pub sequential_if_none : (marks : List Bool) (p : PlainProcess) (none : Bool) (xs : List ℕ) → not (has_parallel p) ≡ true → xs ≡ plain_calls Everywhere p → none ≡ none_marked marks xs → none ≡ is_sequential marks p
sequential_if_none marks p none xs e is told = told ∙ (ap (none_marked marks) is ∙ sym (ap (λ b. b && none_marked marks (plain_calls Everywhere p)) e))

pub not_sequential : (marks : List Bool) (p : PlainProcess) → not (has_parallel p) ≡ false → false ≡ is_sequential marks p
not_sequential marks p e = sym (ap (λ b. b && none_marked marks (plain_calls Everywhere p)) e)

pub if_ok_turned : {E : Type 0} (r : Result Bool E) (a b : Bool) → a ≡ b → IfOk r (λ x. x ≡ a) → IfOk r (λ x. x ≡ b)
if_ok_turned r a b e h = IfOk-weaker r (λ x. x ≡ a) (λ x. x ≡ b) (λ x i. i ∙ e) h

pub both_outside : (a b : Bool) → (a && b) ≡ true → (a ≡ true) × (b ≡ true)
both_outside true b e = (refl, e)
both_outside false b e = cc
