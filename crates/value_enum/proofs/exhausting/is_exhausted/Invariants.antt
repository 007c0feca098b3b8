use Rattle.std.proofs.Common.{◌≡◌, ◌<◌, true, false, length, get_or}
use Rattle.data_theory.specs.declared.ids.SortId.{SortId}
use Rattle.term_pool.specs.Inhabited.{unmarked_count}
use Rattle.value_enum.specs.Levels.{is_number_sort}
use Rattle.value_enum.proofs.HeavierValues.{AreAbove}
use Rattle.value_enum.proofs.exhausting.is_exhausted.Given as goal

abbrev pub invariant-loop-number : goal.invariant-loop-number
invariant-loop-number l =
    record {
      size : length l.unbounded.items ≡ l.number;
      numbers : (s : SortId) → s.0 < l.number → get_or l.unbounded.items s.0 false ≡ is_number_sort s;
    }

abbrev pub invariant-loop-grows : goal.invariant-loop-grows
invariant-loop-grows l =
    record {
      size : length l.unbounded.items ≡ length l.heaviest;
      numbers : (s : SortId) → s.0 < length l.heaviest → is_number_sort s ≡ true → get_or l.unbounded.items s.0 false ≡ true;
      above : AreAbove l.sig l.shapes.sorts.keys l.unbounded.items l.weight;
    }

abbrev pub decreases-loop-grows : goal.decreases-loop-grows
decreases-loop-grows l = unmarked_count l.unbounded.items
