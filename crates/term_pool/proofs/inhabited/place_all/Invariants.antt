use Rattle.std.proofs.Common.{◌≡◌, ◌+◌, length, drop}
use Rattle.term_pool.specs.Inhabited.{IsSearch, unmarked_count}
use Rattle.term_pool.proofs.inhabited.place_all.Given as goal

abbrev pub invariant-loop-candidate : goal.invariant-loop-candidate
invariant-loop-candidate l =
    record {
      search : IsSearch l.sig l.marks.items l.ready.items l.waiting.items (drop l.candidate-index l.candidates);
      left : unmarked_count l.marks.items + length l.ready.items ≡ unmarked_count l.fn.marks.items + length l.fn.ready.items;
    }
