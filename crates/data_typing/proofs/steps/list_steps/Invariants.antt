use Rattle.std.proofs.Common.{◌≡◌, ℕ}
use Rattle.std.specs.List.{AllByRecursion}
use Rattle.data_theory.specs.declared.ids.FunId.{FunId}
use Rattle.data_theory.specs.Terms.{Symbol}
use Rattle.data_typing.specs.FlatSorts.{flat_sort}
use Rattle.data_typing.specs.CodeSteps.{items_of, IsStepWithin}
use Rattle.data_typing.specs.Within.{IsFlatWithin}
use Rattle.data_typing.proofs.StepLemmas.{conses}
use Rattle.data_typing.proofs.steps.list_steps.Given as goal

abbrev pub invariant-loop-k : goal.invariant-loop-k
invariant-loop-k l = record {
  items : (y : FunId → Symbol) → items_of y l.steps.items ≡ conses (flat_sort l.element) l._k;
  within : (n c : ℕ) → IsFlatWithin n l.element → AllByRecursion (IsStepWithin n c) l.steps.items;
}
