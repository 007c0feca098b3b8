use Rattle.std.proofs.Common.{◌≡◌, ◌+◌, drop}
use Rattle.std.specs.List.{prefix_len}
use Rattle.aut_check.specs.LineParts.{is_of}
use Rattle.aut_check.proofs.line_parts.front_len.Given as goal

abbrev pub invariant-loop-place : goal.invariant-loop-place
invariant-loop-place l = prefix_len (is_of l.kind) l.text ≡ l.place + prefix_len (is_of l.kind) (drop l.place l.text)
