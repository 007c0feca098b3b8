use Rattle.std.proofs.Common.{◌≡◌, map, take}
use Rattle.process_terms.specs.PlainProcesses.{plain_process}
use Rattle.data_typing.specs.Meanings.{Scope}
use Rattle.sort_checker.specs.FullVocabularies.{FullVocabulary}
use Rattle.sort_checker.specs.Additions.{GoesOn}
use Rattle.sort_checker.specs.CodeContexts.{IsReady, Sees, AreElaborated}
use Rattle.sort_checker.proofs.AloneInCode.{all_alone}
use Rattle.sort_checker.proofs.labels.each_alone.Given as goal

abbrev pub invariant-loop-action : goal.invariant-loop-action
invariant-loop-action l = record {
  kept : GoesOn l.fn.sig l.fn.pool l.sig l.pool;
  ready : IsReady l.sig l.pool l.tables l.scope;
  scope : l.scope ≡ l.fn.scope;
  means : (v : FullVocabulary) (variables : Scope) → Sees l.fn.sig l.processes l.fn.scope v variables → AreElaborated v variables (all_alone (take l.action-index l.actions)) l.sig l.pool (map plain_process l.made.items);
}
