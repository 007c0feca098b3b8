use Rattle.std.proofs.Common.{Option, sym, ap, ◌∙◌, map}
use Rattle.std.specs.Global.{Vec}
use Rattle.std.proofs.lemmas.Result.{err_from_is_err_and}
use Rattle.mcrl2_syntax.specs.declared.declaration.Section.{Section}
use Rattle.mcrl2_syntax.specs.declared.declaration.SectionWord.{SectionWord}
use Rattle.mcrl2_syntax.specs.Declarations.{section_of}
use Rattle.mcrl2_parser.specs.Declarations.{listed, ended_at, section_past, start_past}
use Rattle.mcrl2_parser.proofs.ReadSoFar.{nothing_read, past_plain, past_word, past_end, never_spelled, refused_there, refused_last, all_read}
use Rattle.mcrl2_parser.proofs.parsing.read_all.Goals as goal
use Rattle.mcrl2_parser.proofs.parsing.read_all.Goals.{in-Some+in_ok-tree+in_ok-put_last+in_ok-note_init, in_default, in-Some-word+in_ok-begin, in_default-word}

pub loop-at-init : goal.loop-at-init
loop-at-init c = rw (c.new-sections.ensures.items, c.new-inits.ensures.items, c.new-cut.ensures) (nothing_read c.args.text.now c.args.tokens.now)

pub returns-in_err-tree-clause-fault : goal.returns-in_err-tree-clause-fault
returns-in_err-tree-clause-fault c =
    let same = err_from_is_err_and c.from_residual.result c.from_residual.ensures.1 in
    rw (same.1, same.2) (λ counts. refused_there c.loop-at.cut.section c.loop-at.cut.start _ c.section_of_kind-word.result c.is_semicolon.result c.in-Some.declaration c.in_err-tree.field-0.0
    c.loop-at.invariant c.loop-at-test.true c.section_of_kind-word.ensures c.is_semicolon.ensures (ap listed (sym c.in-Some.is) ∙ c.pass.ensures.ended) (c.in_err-tree.ensures.refused counts))

pub loop-at-preserved : goal.loop-at-preserved
loop-at-preserved c =
    elim c.match-pass.branch [
      | in-Some+in_ok-tree+in_ok-put_last+in_ok-note_init w ↦
          elim c.match-word.branch [
            | in-Some-word+in_ok-begin v ↦
                absurd (never_spelled c.loop-at.cut.section c.loop-at.cut.start c.loop-at.at w.in-Some.declaration (ap listed (sym w.in-Some.is) ∙ (c.pass.ensures.ended ∙ ap (λ (o : Option SectionWord). ended_at o c.is_semicolon.result c.loop-at.cut.section c.loop-at.cut.start c.loop-at.at) v.in-Some-word.is)) w.in_ok-tree.ensures.spelled)
            | in_default-word v ↦
                rw (v.sections-is, w.sections-is, w.inits-is, w.number-is)
                (past_end c.loop-at.cut.section c.loop-at.cut.start _ c.is_semicolon.result w.in-Some.declaration _ c.loop-at.invariant c.loop-at-test.true (sym v.in_default-word.is ∙ c.section_of_kind-word.ensures) c.is_semicolon.ensures
                (ap listed (sym w.in-Some.is) ∙ (c.pass.ensures.ended ∙ ap (λ (o : Option SectionWord). ended_at o c.is_semicolon.result c.loop-at.cut.section c.loop-at.cut.start c.loop-at.at) v.in_default-word.is)) w.in_ok-tree.ensures.spelled w.in_ok-tree.ensures.sound w.in_ok-put_last.ensures w.in_ok-note_init.ensures
                (c.pass.ensures.section ∙ ap (λ (o : Option SectionWord). section_past o c.loop-at.cut.section) v.in_default-word.is) (c.pass.ensures.start ∙ ap (λ (o : Option SectionWord). start_past o c.is_semicolon.result c.loop-at.cut.section c.loop-at.cut.start c.loop-at.at) v.in_default-word.is))
          ]
      | in_default w ↦
          elim c.match-word.branch [
            | in-Some-word+in_ok-begin v ↦
                rw (v.sections-is, w.inits-is, w.number-is)
                (past_word c.loop-at.cut.section c.loop-at.cut.start _ v.in-Some-word.word c.is_semicolon.result c.loop-at.invariant c.loop-at-test.true (sym v.in-Some-word.is ∙ c.section_of_kind-word.ensures) c.is_semicolon.ensures
                (ap listed (sym w.in_default.is) ∙ (c.pass.ensures.ended ∙ ap (λ (o : Option SectionWord). ended_at o c.is_semicolon.result c.loop-at.cut.section c.loop-at.cut.start c.loop-at.at) v.in-Some-word.is))
                v.in_ok-begin.ensures (ap (λ (x : Vec Section). map section_of x.items) w.sections-is)
                (c.pass.ensures.section ∙ ap (λ (o : Option SectionWord). section_past o c.loop-at.cut.section) v.in-Some-word.is) (c.pass.ensures.start ∙ ap (λ (o : Option SectionWord). start_past o c.is_semicolon.result c.loop-at.cut.section c.loop-at.cut.start c.loop-at.at) v.in-Some-word.is))
            | in_default-word v ↦
                rw (v.sections-is, w.sections-is, w.inits-is, w.number-is)
                (past_plain c.loop-at.cut.section c.loop-at.cut.start _ c.is_semicolon.result c.loop-at.invariant c.loop-at-test.true (sym v.in_default-word.is ∙ c.section_of_kind-word.ensures) c.is_semicolon.ensures
                (ap listed (sym w.in_default.is) ∙ (c.pass.ensures.ended ∙ ap (λ (o : Option SectionWord). ended_at o c.is_semicolon.result c.loop-at.cut.section c.loop-at.cut.start c.loop-at.at) v.in_default-word.is))
                (c.pass.ensures.section ∙ ap (λ (o : Option SectionWord). section_past o c.loop-at.cut.section) v.in_default-word.is) (c.pass.ensures.start ∙ ap (λ (o : Option SectionWord). start_past o c.is_semicolon.result c.loop-at.cut.section c.loop-at.cut.start c.loop-at.at) v.in_default-word.is))
          ]
    ]

pub returns-in-Some-left_over-clause-fault : goal.returns-in-Some-left_over-clause-fault
returns-in-Some-left_over-clause-fault c = λ counts.
    refused_last c.in-Some-left_over.left c.fault_of.result c.loop-at.invariant c.loop-at-test.false c.loop-at.auto.at-end (ap listed (sym c.in-Some-left_over.is) ∙ c.left_over.ensures)
    (c.fault_of.ensures c.args.text.now counts)

pub returns-in-None-clause-spelled : goal.returns-in-None-clause-spelled
returns-in-None-clause-spelled c =
    rw c.new.ensures (all_read c.loop-at.invariant c.loop-at-test.false c.loop-at.auto.at-end (ap listed (sym c.in-None.is) ∙ c.left_over.ensures)).spelled

pub returns-in-None-clause-inits : goal.returns-in-None-clause-inits
returns-in-None-clause-inits c = (all_read c.loop-at.invariant c.loop-at-test.false c.loop-at.auto.at-end (ap listed (sym c.in-None.is) ∙ c.left_over.ensures)).inits_are

pub returns-in-None-clause-sound : goal.returns-in-None-clause-sound
returns-in-None-clause-sound c = (all_read c.loop-at.invariant c.loop-at-test.false c.loop-at.auto.at-end (ap listed (sym c.in-None.is) ∙ c.left_over.ensures)).sound
