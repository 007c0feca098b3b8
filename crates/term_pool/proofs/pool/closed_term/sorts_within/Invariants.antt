use Rattle.std.proofs.Common.{length}
use Rattle.term_pool.proofs.SortSearch.{IsSearch, search_left}
use Rattle.term_pool.proofs.pool.closed_term.sorts_within.Given as goal

abbrev pub invariant-loop-next : goal.invariant-loop-next
invariant-loop-next l = IsSearch l.sig.functions l.firsts l.fn.sort l.sorts.keys l.waiting.items

abbrev pub decreases-loop-next : goal.decreases-loop-next
decreases-loop-next l = search_left (length l.firsts) l.sorts.keys l.waiting.items
