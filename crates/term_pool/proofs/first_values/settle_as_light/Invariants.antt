use Rattle.std.proofs.Common.{◌≤◌}
use Rattle.term_pool.specs.FirstValues.{AreFirstSoFar, OpenWeighAtLeast, open_count}
use Rattle.term_pool.proofs.first_values.settle_as_light.Given as goal

abbrev pub invariant-loop-number : goal.invariant-loop-number
invariant-loop-number l =
    record {
      entries : AreFirstSoFar l.sig l.entries.items;
      least : OpenWeighAtLeast l.sig l.entries.items l.weight;
      fewer : open_count l.entries.items ≤ open_count l.fn.entries.items;
    }
