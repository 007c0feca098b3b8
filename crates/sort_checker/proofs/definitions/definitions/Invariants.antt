use Rattle.std.proofs.Common.{◌≡◌, [], map, take}
use Rattle.process_terms.specs.PlainProcesses.{plain_definition}
use Rattle.sort_checker.specs.Additions.{GoesOn}
use Rattle.sort_checker.specs.FullVocabularies.{FullVocabulary}
use Rattle.sort_checker.specs.CodeContexts.{IsReady, Sees}
use Rattle.sort_checker.specs.ElaboratedTexts.{declarations_listed, numbered_processes, AreElaboratedDefinitions}
use Rattle.sort_checker.proofs.definitions.definitions.Given as goal

abbrev pub invariant-loop-i : goal.invariant-loop-i
invariant-loop-i l = record {
  kept : GoesOn l.fn.sig l.fn.pool l.sig l.pool;
  ready : IsReady l.sig l.pool l.tables l.scope;
  empty : l.scope ≡ [];
  means : (v : FullVocabulary) → Sees l.fn.sig l.processes [] v [] → AreElaboratedDefinitions v l.sig l.pool (numbered_processes 1 (declarations_listed (take l.i l.list))) (map plain_definition l.made.items);
}
