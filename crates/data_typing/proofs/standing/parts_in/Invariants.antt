use Rattle.std.proofs.Common.{◌≡◌, take}
use Rattle.std.specs.List.{All}
use Rattle.data_theory.specs.IdTerms.{symbol_under}
use Rattle.data_typing.specs.CodeSteps.{items_of}
use Rattle.data_typing.specs.CodeParts.{part_items, IsPartWithin}
use Rattle.data_typing.proofs.standing.parts_in.Given as goal

abbrev pub invariant-loop-step : goal.invariant-loop-step
invariant-loop-step l = record {
  mean : part_items l.sig l.parts.items ≡ items_of (symbol_under l.sig) (take l.step-index l.steps);
  within : All (IsPartWithin l.sig) l.parts.items;
}
