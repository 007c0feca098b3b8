use Rattle.std.proofs.Common.{◌≡◌, ◌<◌, length}
use Rattle.data_theory.specs.IdTerms.{sort_under}
use Rattle.data_typing.specs.FlatSorts.{lists}
use Rattle.data_typing.proofs.standing.lists_in.Given as goal

abbrev pub invariant-loop-step : goal.invariant-loop-step
invariant-loop-step l = record {
  meant : sort_under l.sig l.sort ≡ lists l._step (sort_under l.sig l.fn.base);
  within : l.sort.0 < length l.sig.sorts;
}
