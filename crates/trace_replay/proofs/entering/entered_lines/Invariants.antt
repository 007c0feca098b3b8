use Rattle.std.proofs.Common.{◌≡◌, map, take}
use Rattle.trace_replay.specs.Entering.{entered_line}
use Rattle.trace_replay.specs.ReadTraces.{plain_line}
use Rattle.trace_replay.proofs.entering.entered_lines.Given as goal

abbrev pub invariant-loop-line : goal.invariant-loop-line
invariant-loop-line l = map plain_line l.made.items ≡ map (entered_line l.ids) (map plain_line (take l.line-index l.lines))
