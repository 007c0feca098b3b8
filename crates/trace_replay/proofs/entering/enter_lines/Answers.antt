use Rattle.std.proofs.Common.{◌≡◌, ◌∙◌, List, map, sym, subst, ap}
use Rattle.std.specs.Prelude.{Vec}
use Rattle.std.specs.Global.{Global}
use Rattle.std.specs.List.{All}
use Rattle.data_theory.specs.declared.ids.TermId.{TermId}
use Rattle.data_theory.specs.Signature.{Sig}
use Rattle.trace_replay.specs.declared.reading.Line.{Line}
use Rattle.trace_replay.specs.Entering.{entered_line, LineHasPlaces}
use Rattle.trace_replay.specs.ReadTraces.{plain_line}
use Rattle.trace_replay.specs.Replays.{Entry}
use Rattle.trace_replay.specs.Verdicts.{LinesAre}
use Rattle.trace_replay.proofs.EnteredTerms.{lines_places, made_entered, then_ok}
use Rattle.trace_replay.proofs.entering.enter_lines.Goals as goal

pub entered_lines-requires : goal.entered_lines-requires
entered_lines-requires c =
    let r = c.requires in
    subst (λ (z : List TermId). All (LineHasPlaces z) (map plain_line c.args.lines.now)) (sym c.as_slice.ensures.value)
    (lines_places r.0 c.args.from.now.trees c.enter_all.new.to.trees c.in_ok-ids.ids.items c.in_ok-ids.ensures.entered (map plain_line c.args.lines.now) r.1 r.2)

pub returns-clause-lines : goal.returns-clause-lines
returns-clause-lines c =
    then_ok c.entered_lines.result (λ (made : Vec Line Global). map plain_line made.items ≡ map (entered_line c.as_slice.result.now) (map plain_line c.args.lines.now))
    (λ (made : Vec Line Global). (g : Sig) (es : List Entry) → LinesAre g c.args.from.now.trees (map plain_line c.args.lines.now) es → LinesAre g c.enter_all.new.to.trees (map plain_line made.items) es)
    (λ made is g es lines.
    made_entered g c.args.from.now.trees c.enter_all.new.to.trees c.in_ok-ids.ids.items c.in_ok-ids.ensures.entered (map plain_line c.args.lines.now) (map plain_line made.items) es
    (is ∙ ap (λ (z : List TermId). map (entered_line z) (map plain_line c.args.lines.now)) c.as_slice.ensures.value) lines)
    c.entered_lines.ensures
