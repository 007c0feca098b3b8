use Rattle.std.proofs.Common.{◌≡◌, map, take}
use Rattle.std.specs.List.{AllByRecursion, filter}
use Rattle.data_theory.specs.declared.ids.FunId.{FunId}
use Rattle.data_theory.specs.Terms.{Symbol}
use Rattle.data_typing.specs.BuiltIns.{is_settled, row_signature}
use Rattle.data_typing.specs.NodeTypings.{signature_of}
use Rattle.data_typing.specs.Within.{IsOverloadWithin}
use Rattle.data_typing.proofs.words.settled_overloads.Given as goal

abbrev pub invariant-loop-row : goal.invariant-loop-row
invariant-loop-row l = record {
  mean : (y : FunId → Symbol) → map (signature_of y) l.overloads.items ≡ map row_signature (filter is_settled (take l.row-index l.rows));
  within : AllByRecursion (IsOverloadWithin 0 0) l.overloads.items;
}
