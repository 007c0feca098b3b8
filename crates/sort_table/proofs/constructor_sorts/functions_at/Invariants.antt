use Rattle.std.proofs.Common.{◌≡◌, take}
use Rattle.std.specs.Prelude.{Some, slice_get}
use Rattle.sort_table.specs.Vocabularies.{EachPair}
use Rattle.sort_table.proofs.constructor_sorts.functions_at.Given as goal

abbrev pub invariant-loop-place : goal.invariant-loop-place
invariant-loop-place l = EachPair (λ place fun. slice_get l.funs place ≡ Some fun) (take l.place-index l.places) l.found.items
