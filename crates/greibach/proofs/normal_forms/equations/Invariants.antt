use Rattle.std.proofs.Common.{◌≡◌, ◌<◌, ◌-◌, ℕ, [], Some, map, length}
use Rattle.std.specs.Prelude.{slice_get}
use Rattle.std.specs.List.{All}
use Rattle.term_pool.specs.Pools.{Extends}
use Rattle.lps_core.specs.Naming.{GrowsByNames}
use Rattle.greibach.specs.PlainForms.{plain_equation}
use Rattle.greibach.specs.PlacesInCode.{plain_place, plain_places}
use Rattle.greibach.specs.AddedHeads.{Later}
use Rattle.greibach.specs.MadeEquations.{Makes}
use Rattle.greibach.specs.Surroundings.{HasUsableNames, AreEquations}
use Rattle.greibach.proofs.normal_forms.equations.Given as goal

abbrev pub invariant-loop-alloc : goal.invariant-loop-alloc
invariant-loop-alloc l =
    record {
      grown : GrowsByNames l.fn.sig l.sig;
      kept : Extends l.fn.pool.trees l.pool.trees;
      constants : l.pool.constants ≡ l.fn.pool.constants;
      names : HasUsableNames l.sig;
      met : All (λ (n : ℕ). n < length l.places.places.items) l.under_way.met.keys;
      waiting : l.under_way.waiting.items ≡ [];
      summands : l.under_way.summands.items ≡ [];
      starts : slice_get l.under_way.met.keys 0 ≡ Some l.places.start;
      made : AreEquations l.sig l.pool.trees (map plain_place l.places.places.items) l.under_way.met.keys (map plain_equation l.equations.items);
      heads : Later l.sig l.pool.trees (λ e. Makes e (plain_places l.places) l.places.start (map plain_equation l.equations.items) l.under_way.met.keys);
    }

abbrev pub decreases-loop-alloc : goal.decreases-loop-alloc
decreases-loop-alloc l = length l.places.places.items - length l.equations.items
