use Rattle.trace_replay.specs.Entering.{LineHasPlaces}
use Rattle.trace_replay.specs.ReadTraces.{plain_line}
use Rattle.trace_replay.proofs.EnteredTerms.{mapped_at}
use Rattle.trace_replay.proofs.entering.entered_lines.Goals as goal

pub entered_label-requires : goal.entered_label-requires
entered_label-requires c = mapped_at (LineHasPlaces c.args.ids.now) plain_line c.args.lines.now c.loop-line.line-index c.line-item.result c.loop-line-test.true c.line-item.is c.requires
