use Rattle.std.proofs.Common.{◌≡◌, [], map, take}
use Rattle.std.specs.List.{flat_map}
use Rattle.process_terms.specs.PlainProcesses.{plain_equation}
use Rattle.sort_table.specs.SignatureVocabularies.{vocabulary_of}
use Rattle.sort_checker.specs.Additions.{GoesOn}
use Rattle.sort_checker.specs.FullVocabularies.{FullVocabulary}
use Rattle.sort_checker.specs.ScopedTrees.{scoped_items}
use Rattle.sort_checker.specs.CodeContexts.{IsReady}
use Rattle.sort_checker.specs.ElaboratedTexts.{equations_by, AreElaboratedEquations}
use Rattle.sort_checker.proofs.written_equations.written_equations.Given as goal

abbrev pub invariant-loop-item : goal.invariant-loop-item
invariant-loop-item l = record {
  kept : GoesOn l.fn.sig l.fn.pool l.sig l.pool;
  ready : IsReady l.sig l.pool l.tables l.scope;
  empty : l.scope ≡ [];
  means : (v : FullVocabulary) → v.declared ≡ vocabulary_of l.fn.sig → AreElaboratedEquations v l.sig l.pool (flat_map equations_by (scoped_items (take l.item-index l.list))) (map plain_equation l.equations.items);
}
