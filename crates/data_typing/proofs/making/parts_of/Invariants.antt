use Rattle.std.proofs.Common.{◌≡◌, take}
use Rattle.std.specs.List.{All}
use Rattle.data_theory.specs.IdTerms.{symbol_under, IsGrown}
use Rattle.sort_table.specs.NamedSorts.{AddsLists}
use Rattle.data_typing.specs.NamedSorts.{AreNamedSorts}
use Rattle.data_typing.specs.CodeSteps.{items_of}
use Rattle.data_typing.specs.CodeParts.{part_items, IsPartWithin}
use Rattle.data_typing.proofs.making.parts_of.Given as goal

abbrev pub invariant-loop-step : goal.invariant-loop-step
invariant-loop-step l = record {
  mean : part_items l.sig l.parts.items ≡ items_of (symbol_under l.fn.sig) (take l.step-index l.steps);
  within : All (IsPartWithin l.sig) l.parts.items;
  named : AreNamedSorts l.sig l.named;
  grown : IsGrown l.fn.sig l.sig;
  added : AddsLists l.fn.sig l.sig;
}
