use Rattle.std.proofs.Common.{◌≡◌, List, map, drop}
use Rattle.std.specs.Prelude.{is_some}
use Rattle.data_theory.specs.Signature.{Sig}
use Rattle.data_typing.specs.FlatSorts.{flat_sort}
use Rattle.data_typing.specs.Typings.{Typing, all_at}
use Rattle.sort_checker.specs.TypedTrees.{AreReadings, how_of}
use Rattle.sort_checker.proofs.typed_parts.all_fit.Given as goal

abbrev pub invariant-loop-place : goal.invariant-loop-place
invariant-loop-place l = (g : Sig) (ts : List Typing) → AreReadings g l.readings ts → is_some (all_at (how_of l.way) (map flat_sort (drop l.place l.sorts)) (drop l.place ts)) ≡ is_some (all_at (how_of l.way) (map flat_sort l.sorts) ts)
