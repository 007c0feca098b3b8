use Rattle.std.proofs.Common.{ℕ, List, drop}
use Rattle.lps_printer.specs.declared.copied_tokens.Place.{Place}
use Rattle.lps_printer.specs.CopiedPlaces.{AddsTokens}
use Rattle.lps_printer.specs.TreeTokens.{token}
use Rattle.lps_printer.proofs.CopiedTrees.{expressions_tokens, signed_tokens, left_expressions}
use Rattle.lps_printer.proofs.copied_tokens.CopiedText.+data.Given as goal

abbrev pub invariant-datas-loop-tree : goal.invariant-datas-loop-tree
invariant-datas-loop-tree l =
    (final : List ℕ) (next : Place) → AddsTokens l.self.bytes.items l.self.place final next (left_expressions l.is_first (token l.kind l.separator) (drop l.tree-index l.trees))
    → AddsTokens l.initial.self.bytes.items l.initial.self.place final next (expressions_tokens (token l.kind l.separator) l.trees)

abbrev pub invariant-operands-loop-operand : goal.invariant-operands-loop-operand
invariant-operands-loop-operand l =
    (final : List ℕ) (next : Place) → AddsTokens l.self.bytes.items l.self.place final next (signed_tokens (drop l.operand-index l.operands)) → AddsTokens l.initial.self.bytes.items l.initial.self.place final next (signed_tokens l.operands)
