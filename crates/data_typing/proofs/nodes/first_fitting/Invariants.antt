use Rattle.std.proofs.Common.{◌≡◌, map, drop}
use Rattle.data_typing.specs.Nodes.{profile_of, sortings_at, sortings}
use Rattle.data_typing.specs.Sortings.{first_fitting_sort}
use Rattle.data_typing.proofs.nodes.first_fitting.Given as goal

abbrev pub invariant-loop-signature : goal.invariant-loop-signature
invariant-loop-signature l = first_fitting_sort (sortings_at (sortings l.nodes) l.arguments) (map profile_of l.signatures) ≡ first_fitting_sort (sortings_at (sortings l.nodes) l.arguments) (map profile_of (drop l.signature-index l.signatures))
