use Rattle.std.proofs.Common.{List, map, take}
use Rattle.data_theory.specs.Provable.{Equation}
use Rattle.data_rewriter.specs.Rewriters.{Fits as FitsPool}
use Rattle.process_terms.specs.Meanings.{label_of}
use Rattle.process_terms.specs.PlainProcesses.{plain_action}
use Rattle.process_terms.specs.SignatureEntries.{entries_of}
use Rattle.trace_replay.specs.Keeping.{Keeps}
use Rattle.aut_check.specs.Comparing.{setting, AreActionRows}
use Rattle.aut_check.specs.Tables.{tables_of}
use Rattle.aut_check.proofs.labels.compare_each.Given as goal

abbrev pub invariant-loop-action : goal.invariant-loop-action
invariant-loop-action g l = record {
  kept : Keeps l.sig l.fn.pool.trees l.pool.trees l.fn.rewriter l.rewriter;
  so_far : (own : List Equation) → FitsPool l.fn.rewriter l.sig own l.fn.pool.trees
      → AreActionRows (setting l.sig own l.fuel) (label_of (entries_of l.sig l.fn.pool.trees) (map plain_action (take l.action-index l.actions))) (label_of (entries_of l.sig l.fn.pool.trees) (map plain_action l.others)) (tables_of l.rows.items);
}
