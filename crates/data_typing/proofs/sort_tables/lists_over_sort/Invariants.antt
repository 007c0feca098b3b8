use Rattle.std.proofs.Common.{◌≡◌, ◌<◌, length}
use Rattle.data_theory.specs.IdTerms.{sort_under, IsGrown}
use Rattle.sort_table.specs.NamedSorts.{AddsLists}
use Rattle.data_typing.specs.FlatSorts.{lists}
use Rattle.data_typing.proofs.sort_tables.lists_over_sort.Given as goal

abbrev pub invariant-loop-step : goal.invariant-loop-step
invariant-loop-step l = record {
  meant : sort_under l.sig l.sort ≡ lists l._step (sort_under l.fn.sig l.fn.base);
  within : l.sort.0 < length l.sig.sorts;
  grown : IsGrown l.fn.sig l.sig;
  added : AddsLists l.fn.sig l.sig;
}
