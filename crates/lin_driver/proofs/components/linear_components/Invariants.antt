use Rattle.std.proofs.Common.{◌≡◌, map, take}
use Rattle.std.specs.List.{All, AllZip}
use Rattle.term_pool.specs.Pools.{Extends}
use Rattle.process_terms.specs.PlainProcesses.{plain_component, plain_model}
use Rattle.process_terms.specs.SignatureEntries.{entries_of}
use Rattle.lps_core.specs.PlainLinears.{plain_linear}
use Rattle.lin_driver.specs.AddedSorts.{NeedsNoStack}
use Rattle.lin_driver.specs.KeptTexts.{KeepsComponent}
use Rattle.lin_driver.specs.LinearLeaves.{AreLeavesMade}
use Rattle.lin_driver.specs.PlainlyMade.{ArePlainLeaves}
use Rattle.lin_driver.proofs.components.linear_components.Given as goal

abbrev pub invariant-loop-place : goal.invariant-loop-place
invariant-loop-place l =
    AreLeavesMade l.method l.fn.sig l.fn.pool l.sig l.pool (plain_model l.guarded.model.now) (map plain_component (take l.place l.components)) (map plain_linear l.made.items) × Extends l.fn.pool.trees l.pool.trees
    × ArePlainLeaves l.fn.sig l.fn.pool l.sig l.pool (plain_model l.guarded.model.now) (map plain_component (take l.place l.components)) (map plain_linear l.made.items)
    × (All (NeedsNoStack l.method (plain_model l.guarded.model.now)) (map plain_component (take l.place l.components)) → l.sig.sorts ≡ l.fn.sig.sorts)
    × AllZip (KeepsComponent l.method (entries_of l.sig l.pool.trees) (plain_model l.guarded.model.now)) (map plain_component (take l.place l.components)) (map plain_linear l.made.items)
