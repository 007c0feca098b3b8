-- Process terms of a text, with those that code makes of them.
use Rattle.std.proofs.Common.{◌≡◌, List, map, Vec, sym, subst, ap, ◌∙◌}
use Rattle.std.specs.Global.{Global, Box}
use Rattle.data_theory.specs.declared.ids.TermId.{TermId}
use Rattle.data_theory.specs.declared.ids.VarId.{VarId}
use Rattle.data_theory.specs.Terms.{Term, boolean}
use Rattle.data_theory.specs.Signature.{Sig}
use Rattle.data_theory.specs.WholeSignatures.{IsSignature}
use Rattle.term_pool.specs.Pools.{PoolContents}
use Rattle.process_terms.specs.declared.processes.Proc.{Proc}
use Rattle.process_terms.specs.declared.processes.Proc.TheVariants as procs
use Rattle.process_terms.specs.PlainProcesses as code
use Rattle.process_terms.specs.PlainProcesses.{plain_process}
use Rattle.sort_table.specs.Expressions.{Expression}
use Rattle.sort_table.specs.BareProcesses as bare
use Rattle.sort_table.specs.BareProcesses.{Variables, Process, Processes}
use Rattle.data_typing.specs.declared.scope.Bound.{Bound}
use Rattle.data_typing.specs.CodeWords.{scope_of}
use Rattle.data_typing.specs.Meanings.{Scope, ChecksAs}
use Rattle.sort_checker.specs.declared.process_tables.ProcessTable.{ProcessTable}
use Rattle.sort_checker.specs.FullVocabularies.{FullVocabulary}
use Rattle.sort_checker.specs.Additions.{GoesOn}
use Rattle.sort_checker.specs.ElaboratedParts.{IsTerm}
use Rattle.sort_checker.specs.CodeContexts.{Sees, AreBound, IsElaborated, AreElaborated}
use Rattle.sort_checker.proofs.CodeForms.{delta_step, choice_step, seq_step, merge_step, sync_step, left_merge_step, cond_step, sum_step}
use Rattle.sort_checker.proofs.ElaboratedForms.{delta_elaborated, when_elaborated, either_elaborated, sequence_elaborated, choice_elaborated, parallel_elaborated, sync_elaborated, left_merge_elaborated, sum_elaborated}
use Rattle.sort_checker.proofs.ElaboratedInside.{sees_inside}

-- ---- by their parts
module _ (v : FullVocabulary) (scope : Scope) where
  pub delta_in_code : (g : Sig) (o : PoolContents) → IsElaborated v scope bare.delta g o (plain_process procs.Delta)
  delta_in_code g o = subst (IsElaborated v scope bare.delta g o) (sym delta_step) (delta_elaborated v scope g o)

  pub sequence_in_code : (ps : Processes) (g : Sig) (o : PoolContents) (made : Vec Proc Global) → AreElaborated v scope ps g o (map plain_process made.items) → IsElaborated v scope (bare.sequence ps) g o (plain_process (procs.Seq made))
  sequence_in_code ps g o made are = subst (IsElaborated v scope (bare.sequence ps) g o) (sym (seq_step made)) (sequence_elaborated v scope ps g o (map plain_process made.items) are)

  pub choice_in_code : (ps : Processes) (g : Sig) (o : PoolContents) (made : Vec Proc Global) → AreElaborated v scope ps g o (map plain_process made.items) → IsElaborated v scope (bare.choice ps) g o (plain_process (procs.Choice made))
  choice_in_code ps g o made are = subst (IsElaborated v scope (bare.choice ps) g o) (sym (choice_step made)) (choice_elaborated v scope ps g o (map plain_process made.items) are)

  pub parallel_in_code : (ps : Processes) (g : Sig) (o : PoolContents) (made : Vec Proc Global) → AreElaborated v scope ps g o (map plain_process made.items) → IsElaborated v scope (bare.parallel ps) g o (plain_process (procs.Merge made))
  parallel_in_code ps g o made are = subst (IsElaborated v scope (bare.parallel ps) g o) (sym (merge_step made)) (parallel_elaborated v scope ps g o (map plain_process made.items) are)

  pub sync_in_code : (ps : Processes) (g : Sig) (o : PoolContents) (made : Vec Proc Global) → AreElaborated v scope ps g o (map plain_process made.items) → IsElaborated v scope (bare.sync ps) g o (plain_process (procs.Sync made))
  sync_in_code ps g o made are = subst (IsElaborated v scope (bare.sync ps) g o) (sym (sync_step made)) (sync_elaborated v scope ps g o (map plain_process made.items) are)

  pub left_merge_in_code : (p r : Process) (m : Sig) (n : PoolContents) (h : Sig) (q : PoolContents) → GoesOn m n h q → (first second : Box Proc) → IsElaborated v scope p m n (plain_process first.value) → IsElaborated v scope r h q (plain_process second.value)
      → IsElaborated v scope (bare.left_merge p r) h q (plain_process (procs.LeftMerge first second))
  left_merge_in_code p r m n h q further first second one made =
      subst (IsElaborated v scope (bare.left_merge p r) h q) (sym (left_merge_step first second)) (left_merge_elaborated v scope p r m n h q further (plain_process first.value) (plain_process second.value) one made)

  pub when_in_code : (e : Expression) (p : Process) (g : Sig) (o : PoolContents) (h : Sig) (q : PoolContents) → GoesOn g o h q → (id : TermId) (then other : Box Proc) → other.value ≡ procs.Delta → (t : Term) × ChecksAs v.declared scope e boolean t × IsTerm g o id t
      → IsElaborated v scope p h q (plain_process then.value) → IsElaborated v scope (bare.when e p) h q (plain_process (procs.Cond id then other))
  when_in_code e p g o h q on id then other none checks made =
      subst (IsElaborated v scope (bare.when e p) h q) (sym (cond_step id then other ∙ ap (code.cond id (plain_process then.value)) (ap plain_process none ∙ delta_step))) (when_elaborated v scope e p g o h q on id (plain_process then.value) checks made)

  pub either_in_code : (e : Expression) (p r : Process) (g : Sig) (o : PoolContents) (m : Sig) (n : PoolContents) (h : Sig) (q : PoolContents) → GoesOn g o h q → GoesOn m n h q → (id : TermId) (then other : Box Proc)
      → (t : Term) × ChecksAs v.declared scope e boolean t × IsTerm g o id t → IsElaborated v scope p m n (plain_process then.value) → IsElaborated v scope r h q (plain_process other.value)
      → IsElaborated v scope (bare.either e p r) h q (plain_process (procs.Cond id then other))
  either_in_code e p r g o m n h q on further id then other checks one made =
      subst (IsElaborated v scope (bare.either e p r) h q) (sym (cond_step id then other)) (either_elaborated v scope e p r g o m n h q on further id (plain_process then.value) (plain_process other.value) checks one made)

-- ---- sums: variables came into scope first
pub sum_in_code : (g : Sig) (o : PoolContents) (h : Sig) (m : PoolContents) (k : Sig) (q : PoolContents) → IsSignature g → GoesOn g o h m → GoesOn h m k q → (t : ProcessTable) (bs cs : List Bound) (xs : Variables) (p : Process) (ids : Vec VarId Global) (made : Box Proc)
    → AreBound g bs xs h cs ids.items → ((v : FullVocabulary) (scope : Scope) → Sees h t cs v scope → IsElaborated v scope p k q (plain_process made.value)) → (v : FullVocabulary) (scope : Scope) → Sees g t bs v scope
    → IsElaborated v scope (bare.sum xs p) k q (plain_process (procs.Sum ids made))
sum_in_code g o h m k q signature before on t bs cs xs p ids made bound inside v scope sees =
    let entered = bound.bind v.declared scope sees.sees_data in
    subst (IsElaborated v scope (bare.sum xs p) k q) (sym (sum_step ids made))
    (sum_elaborated v scope xs p (scope_of h.texts cs) entered.0 h m k q on ids.items (plain_process made.value) entered.1 entered.2 (inside v (scope_of h.texts cs) (sees_inside g o h m signature before t bs xs cs ids.items bound v scope sees)))
