use Rattle.std.proofs.Common.{map}
use Rattle.process_terms.specs.PlainProcesses.{PlainAction, plain_action}
use Rattle.lps_constelm.specs.Runs.{IsActionWithin, ActionBecomes}
use Rattle.lps_constelm.proofs.RunLoops.{Along}
use Rattle.lps_constelm.proofs.simplifying.simplify_actions.Given as goal

abbrev pub invariant-loop-action : goal.invariant-loop-action
invariant-loop-action g l = Along PlainAction IsActionWithin ActionBecomes (g.S.Simplifier.fits l.fn.simp) (g.S.Simplifier.fits l.simp) (g.S.Simplifier.simple l.fn.simp) (g.S.Simplifier.simple l.simp) l.fn.pool.trees l.pool.trees (map plain_action l.actions) l.action-index (map plain_action l.made.items)
