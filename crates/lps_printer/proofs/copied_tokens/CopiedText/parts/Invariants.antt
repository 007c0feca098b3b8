use Rattle.std.proofs.Common.{ℕ, List, drop}
use Rattle.lps_printer.specs.declared.copied_tokens.Place.{Place}
use Rattle.lps_printer.specs.CopiedPlaces.{AddsTokens}
use Rattle.lps_printer.specs.TreeTokens.{listed_tokens, token}
use Rattle.lps_printer.proofs.AddingTokens.{left_tokens}
use Rattle.lps_printer.proofs.copied_tokens.CopiedText.parts.Given as goal

abbrev pub invariant-loop-part : goal.invariant-loop-part
invariant-loop-part g l =
    (final : List ℕ) (next : Place) → AddsTokens l.self.bytes.items l.self.place final next (left_tokens l.is_first g.T.Part.tokens (token l.kind l.separator) (drop l.part-index l.parts))
    → AddsTokens l.initial.self.bytes.items l.initial.self.place final next (listed_tokens g.T.Part.tokens (token l.kind l.separator) l.parts)
