use Rattle.std.proofs.Common.{◌≡◌, map, drop}
use Rattle.std.specs.Prelude.{slice_get}
use Rattle.std.specs.List.{filter}
use Rattle.data_typing.specs.BuiltIns.{is_over_any, row_scheme}
use Rattle.data_typing.proofs.words.first_over_any.Given as goal

abbrev pub invariant-loop-row : goal.invariant-loop-row
invariant-loop-row l = slice_get (map row_scheme (filter is_over_any l.rows)) 0 ≡ slice_get (map row_scheme (filter is_over_any (drop l.row-index l.rows))) 0
