use Rattle.std.proofs.Common.{◌≡◌, ◌+◌, ◌-◌, ◌*◌, map, take}
use denote.Param.Weighed.{most}
use Rattle.mcrl2_syntax.proofs.process_tree.ProcTree.TheLaws.{the_size}
use Rattle.process_terms.specs.PlainProcesses.{plain_process}
use Rattle.data_typing.specs.Meanings.{Scope}
use Rattle.sort_checker.specs.FullVocabularies.{FullVocabulary}
use Rattle.sort_checker.specs.Additions.{GoesOn}
use Rattle.sort_checker.specs.CodeContexts.{IsReady, Sees, AreElaborated}
use Rattle.sort_checker.proofs.ProcessTreeForms.{bare_all}
use Rattle.sort_checker.proofs.process_elaborating.+elaborating.Given as goal

abbrev pub decreases-process_of : goal.decreases-process_of
decreases-process_of l = 3 * the_size l.tree.now

abbrev pub decreases-boxed_process : goal.decreases-boxed_process
decreases-boxed_process l = 3 * the_size l.inner.now + 1

abbrev pub decreases-processes_of : goal.decreases-processes_of
decreases-processes_of l = 3 * most the_size l.parts.now + 1

abbrev pub decreases-sum_of : goal.decreases-sum_of
decreases-sum_of l = 3 * the_size l.inner.now + 2

abbrev pub decreases-when_of : goal.decreases-when_of
decreases-when_of l = 3 * the_size l.then.now + 2

-- by the greater one
abbrev pub decreases-either_of : goal.decreases-either_of
decreases-either_of l = 3 * (the_size l.then.now + (the_size l.other.now - the_size l.then.now)) + 2

abbrev pub decreases-left_merge_of : goal.decreases-left_merge_of
decreases-left_merge_of l = 3 * (the_size l.first.now + (the_size l.second.now - the_size l.first.now)) + 2

abbrev pub invariant-processes_of-loop-part : goal.invariant-processes_of-loop-part
invariant-processes_of-loop-part l = record {
  kept : GoesOn l.fn.sig l.fn.pool l.sig l.pool;
  ready : IsReady l.sig l.pool l.tables l.scope;
  scope : l.scope ≡ l.fn.scope;
  means : (v : FullVocabulary) (variables : Scope) → Sees l.fn.sig l.processes l.fn.scope v variables → AreElaborated v variables (bare_all (take l.part-index l.parts)) l.sig l.pool (map plain_process l.made.items);
}
