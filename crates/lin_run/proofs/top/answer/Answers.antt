use Rattle.std.proofs.Common.{rules, ◌≡◌, Option, None, Some, map, string_bytes, ap, refl, sym, subst, true≢false}
use Rattle.std.specs.Prelude.{option_map, IfSome, IsSome}
use Rattle.lin_words.specs.Commands.{Asked, asked_by, further_asked, NeedsFurther}
use Rattle.lin_words.specs.declared.command.Command.{Command}
use Rattle.lin_run.proofs.AnswerStatuses.{answers_question, has_its_status, no_when_asked, open_when_asked, with_any_further}
use Rattle.lin_run.proofs.FurtherAnswers.{further_answers, further_reads, further_refused, further_says_no, further_stays_open, further_told, no_words, rose_before}
use Rattle.lin_run.proofs.Told.{has_cause}
use Rattle.lin_refusals.proofs.FaultNames.{are_named}
use Rattle.lin_run.proofs.top.answer.Goals as goal

pub answer_with-requires-clause-needs : goal.answer_with-requires-clause-needs
answer_with-requires-clause-needs g c =
    subst (λ (o : Option Command). IfSome o (λ (x : Command). IsSome x.further → NeedsFurther x.task)) c.in_ok-command.ensures.ok_part c.in_ok-command_of.ensures.needs (subst IsSome (sym c.in-Some.is) refl)

pub answer_with-requires-clause-short : goal.answer_with-requires-clause-short
answer_with-requires-clause-short g c = search rules

pub answer_to-requires : goal.answer_to-requires
answer_to-requires g c = λ needs.
    let some : IsSome c.in_ok-command.command.further = subst (λ (o : Option Command). IfSome o (λ (x : Command). NeedsFurther x.task → IsSome x.further)) c.in_ok-command.ensures.ok_part c.in_ok-command_of.ensures.further needs in
    true≢false (sym (subst IsSome c.in_default.is some))

pub returns-in-Some-clause-words : goal.returns-in-Some-clause-words
returns-in-Some-clause-words g c = λ is. absurd (no_words _ c.answer_with.result c.answer_with.ensures.cause is)

pub returns-in-Some-clause-read_fault : goal.returns-in-Some-clause-read_fault
returns-in-Some-clause-read_fault g c = λ is.
    rose_before (g.H.Shelf.faults c.args.shelf.now) (g.H.Shelf.faults c.text_for.new.shelf) (g.H.Shelf.faults c.answer_with.new.shelf) c.text_for.ensures.faults (c.answer_with.ensures.read_fault is)

pub returns-in-Some-clause-shelf_kept : goal.returns-in-Some-clause-shelf_kept
returns-in-Some-clause-shelf_kept g c =
    let command = c.in_ok-command.command in
    let a : Asked = record { task = command.task; file = command.file.now; further = option_map (λ s. s.now) command.further; ending = command.ending } in
    let asked : asked_by (map string_bytes c.args.words.now) ≡ Some a = search rules in
    let needs : NeedsFurther command.task =
    subst (λ (o : Option Command). IfSome o (λ (x : Command). IsSome x.further → NeedsFurther x.task)) c.in_ok-command.ensures.ok_part c.in_ok-command_of.ensures.needs (subst IsSome (sym c.in-Some.is) refl) in
    λ never. absurd (never (further_reads (map string_bytes c.args.words.now) a asked needs))

pub returns-in-Some-clause-refused : goal.returns-in-Some-clause-refused
returns-in-Some-clause-refused g c =
    let command = c.in_ok-command.command in
    let a : Asked = record { task = command.task; file = command.file.now; further = option_map (λ s. s.now) command.further; ending = command.ending } in
    let asked : asked_by (map string_bytes c.args.words.now) ≡ Some a = search rules in
    let text_of = g.H.Shelf.text_of c.args.shelf.now in
    further_refused text_of (map string_bytes c.args.words.now) a c.in_ok-text.text.items asked (search rules) (search rules) (g.H.Shelf.text_of c.text_for.new.shelf c.in-Some.further.now)
    (further_told text_of (g.H.Shelf.text_of c.text_for.new.shelf) a c.in-Some.further.now c.text_for.ensures.texts (ap (option_map (λ s. s.now)) c.in-Some.is)) c.answer_with.result (search rules)

pub returns-in-Some-clause-answered : goal.returns-in-Some-clause-answered
returns-in-Some-clause-answered g c =
    let command = c.in_ok-command.command in
    let a : Asked = record { task = command.task; file = command.file.now; further = option_map (λ s. s.now) command.further; ending = command.ending } in
    let asked : asked_by (map string_bytes c.args.words.now) ≡ Some a = search rules in
    let text_of = g.H.Shelf.text_of c.args.shelf.now in
    further_answers text_of (map string_bytes c.args.words.now) a c.in_ok-text.text.items asked (search rules) (search rules) (g.H.Shelf.text_of c.text_for.new.shelf c.in-Some.further.now)
    (further_told text_of (g.H.Shelf.text_of c.text_for.new.shelf) a c.in-Some.further.now c.text_for.ensures.texts (ap (option_map (λ s. s.now)) c.in-Some.is)) c.answer_with.result (search rules)

pub returns-in-Some-clause-stays_open : goal.returns-in-Some-clause-stays_open
returns-in-Some-clause-stays_open g c =
    let command = c.in_ok-command.command in
    let a : Asked = record { task = command.task; file = command.file.now; further = option_map (λ s. s.now) command.further; ending = command.ending } in
    let asked : asked_by (map string_bytes c.args.words.now) ≡ Some a = search rules in
    let text_of = g.H.Shelf.text_of c.args.shelf.now in
    further_stays_open text_of (map string_bytes c.args.words.now) a c.in_ok-text.text.items asked (search rules) (search rules) (g.H.Shelf.text_of c.text_for.new.shelf c.in-Some.further.now)
    (further_told text_of (g.H.Shelf.text_of c.text_for.new.shelf) a c.in-Some.further.now c.text_for.ensures.texts (ap (option_map (λ s. s.now)) c.in-Some.is)) c.answer_with.result (search rules)

pub returns-in-Some-clause-says_no : goal.returns-in-Some-clause-says_no
returns-in-Some-clause-says_no g c =
    let command = c.in_ok-command.command in
    let a : Asked = record { task = command.task; file = command.file.now; further = option_map (λ s. s.now) command.further; ending = command.ending } in
    let asked : asked_by (map string_bytes c.args.words.now) ≡ Some a = search rules in
    let text_of = g.H.Shelf.text_of c.args.shelf.now in
    further_says_no text_of (map string_bytes c.args.words.now) a c.in_ok-text.text.items asked (search rules) (search rules) (g.H.Shelf.text_of c.text_for.new.shelf c.in-Some.further.now)
    (further_told text_of (g.H.Shelf.text_of c.text_for.new.shelf) a c.in-Some.further.now c.text_for.ensures.texts (ap (option_map (λ s. s.now)) c.in-Some.is)) c.answer_with.result (search rules)

pub returns-in-Ok-clause-answered : goal.returns-in-Ok-clause-answered
returns-in-Ok-clause-answered g c =
    let command = c.in_ok-command.command in
    let a : Asked = record { task = command.task; file = command.file.now; further = option_map (λ s. s.now) command.further; ending = command.ending } in
    let asked : asked_by (map string_bytes c.args.words.now) ≡ Some a = search rules in
    let text_of = g.H.Shelf.text_of c.args.shelf.now in
    let none : ¬ (NeedsFurther a.task) = λ needs.
    let some : IsSome command.further = subst (λ (o : Option Command). IfSome o (λ (x : Command). NeedsFurther x.task → IsSome x.further)) c.in_ok-command.ensures.ok_part c.in_ok-command_of.ensures.further needs in
    true≢false (sym (subst IsSome c.in_default.is some)) in
    let is = with_any_further a.ending a.task none c.in_ok-text.text.items (further_asked text_of a) c.in-Ok.answer.status c.in-Ok.answer.text.items (search rules) in (
      (has_its_status a.ending a.task c.in_ok-text.text.items (further_asked text_of a) c.in-Ok.answer.status c.in-Ok.answer.text.items is).answered,
      answers_question text_of (map string_bytes c.args.words.now) a c.in_ok-text.text.items c.in-Ok.answer.status c.in-Ok.answer.text.items asked (search rules) (search rules) is,
    )

pub returns-in-Ok-clause-stays_open : goal.returns-in-Ok-clause-stays_open
returns-in-Ok-clause-stays_open g c =
    let command = c.in_ok-command.command in
    let a : Asked = record { task = command.task; file = command.file.now; further = option_map (λ s. s.now) command.further; ending = command.ending } in
    let asked : asked_by (map string_bytes c.args.words.now) ≡ Some a = search rules in
    open_when_asked (map string_bytes c.args.words.now) a c.in-Ok.answer.status asked (has_its_status a.ending a.task c.in_ok-text.text.items None c.in-Ok.answer.status c.in-Ok.answer.text.items (search rules))

pub returns-in-Ok-clause-says_no : goal.returns-in-Ok-clause-says_no
returns-in-Ok-clause-says_no g c =
    let command = c.in_ok-command.command in
    let a : Asked = record { task = command.task; file = command.file.now; further = option_map (λ s. s.now) command.further; ending = command.ending } in
    let asked : asked_by (map string_bytes c.args.words.now) ≡ Some a = search rules in
    no_when_asked (map string_bytes c.args.words.now) a c.in-Ok.answer.status asked (has_its_status a.ending a.task c.in_ok-text.text.items None c.in-Ok.answer.status c.in-Ok.answer.text.items (search rules))

pub returns-clause-refused : goal.returns-clause-refused
returns-clause-refused g c =
    let command = c.in_ok-command.command in
    let a : Asked = record { task = command.task; file = command.file.now; further = option_map (λ s. s.now) command.further; ending = command.ending } in
    let asked : asked_by (map string_bytes c.args.words.now) ≡ Some a = search rules in
    has_cause (g.H.Shelf.text_of c.args.shelf.now) (map string_bytes c.args.words.now) a c.in_ok-text.text.items c.answer_to.new.names c.in-Err.fault c.for_fault.result asked (search rules) (search rules)
    c.in-Err.ensures.of_the_task (search (rules, c.in-Err.ensures.refused)) c.for_fault.ensures

pub for_fault-requires : goal.for_fault-requires
for_fault-requires g c = are_named c.deref-2.result.now c.answer_to.new.names c.in-Err.fault c.in-Err.ensures.refused
