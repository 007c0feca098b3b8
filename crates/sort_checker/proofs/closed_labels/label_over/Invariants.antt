use Rattle.std.proofs.Common.{◌≡◌, map, take}
use Rattle.std.specs.Prelude.{Some}
use Rattle.mcrl2_syntax.specs.ProcessParts.{plain_action}
use Rattle.process_terms.specs.Labels.{Label}
use Rattle.process_terms.specs.PlainProcesses as code
use Rattle.sort_table.specs.BareProcesses.{bare_action}
use Rattle.sort_table.specs.Vocabularies.{Vocabulary}
use Rattle.data_typing.specs.Meanings.{Scope}
use Rattle.sort_checker.specs.Additions.{GoesOn}
use Rattle.sort_checker.specs.CodeContexts.{IsReady, SeesData}
use Rattle.sort_checker.specs.ElaboratedParts.{IsLabel}
use Rattle.sort_checker.specs.PartTypings.{label_in}
use Rattle.sort_checker.specs.TypedLabels.{LabelHasItsSortsIn}
use Rattle.sort_checker.proofs.closed_labels.label_over.Given as goal

abbrev pub invariant-loop-tree : goal.invariant-loop-tree
invariant-loop-tree l = record {
  kept : GoesOn l.sig l.fn.pool l.sig l.pool;
  ready : IsReady l.sig l.pool l.tables l.scope;
  means : (v : Vocabulary) (s : Scope) → SeesData l.sig l.scope v s
      → (m : Label) × (label_in v s (map bare_action (map plain_action (take l.tree-index l.trees))) ≡ Some m) × IsLabel l.sig l.pool (map code.plain_action l.list.items) m × LabelHasItsSortsIn l.sig m;
}
