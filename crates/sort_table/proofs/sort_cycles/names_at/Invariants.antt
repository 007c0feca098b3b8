use Rattle.std.proofs.Common.{take, map}
use denote.Ref.{Bor}
use Rattle.sort_table.specs.Expressions.{Name}
use Rattle.sort_table.specs.AliasGraphs.{AreNamesAt}
use Rattle.sort_table.specs.IndexedKinds.{kinds_of_index}
use Rattle.sort_table.proofs.sort_cycles.names_at.Given as goal

abbrev pub invariant-loop-place : goal.invariant-loop-place
invariant-loop-place l = AreNamesAt (kinds_of_index l.index) (take l.place-index l.places) (map (λ (n : Bor Name). n.now) l.names.items)
