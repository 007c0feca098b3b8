use Rattle.std.proofs.Common.{◌≡◌, ◌+◌, map, drop}
use Rattle.std.specs.Prelude.{option_map}
use Rattle.data_typing.specs.Nodes.{profile_of, sortings_at, sortings}
use Rattle.data_typing.specs.Sortings.{Profile, all_same}
use Rattle.data_typing.specs.Plans.{place_where}
use Rattle.data_typing.proofs.plans.exact_place.Given as goal

abbrev pub invariant-loop-k : goal.invariant-loop-k
invariant-loop-k l = place_where (λ (f : Profile). all_same f.arguments (sortings_at (sortings l.nodes) l.arguments)) (map profile_of l.signatures) ≡ option_map (λ n. n + l.k) (place_where (λ (f : Profile). all_same f.arguments (sortings_at (sortings l.nodes) l.arguments)) (map profile_of (drop l.k l.signatures)))
