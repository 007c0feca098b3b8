use Rattle.std.proofs.Common.{◌≤◌, subst}
use Rattle.lin_words.specs.Commands.{IsSized}
use Rattle.lin_run.proofs.LineLengths.{short_line}
use Rattle.lin_run.proofs.text_in_hand.text_for.Goals as goal

pub returns-in-Generate-clause-short : goal.returns-in-Generate-clause-short
returns-in-Generate-clause-short g c =
    let size = c.in-Generate.size in
    let sized : (2 ≤ size) × (size ≤ 40) = subst IsSized c.in-Generate.is c.requires in
    short_line size c.in_ok-buffer_line.field-0.items sized.0 sized.1 c.in_ok-buffer_line.ensures.written
