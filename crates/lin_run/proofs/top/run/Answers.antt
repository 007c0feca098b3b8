use Rattle.std.proofs.Common.{rules, ◌≡◌, ◌∙◌, ◌++◌, Some, None, IfSome, map, string_bytes, sym, subst}
use Rattle.mcrl2_text.specs.Bytes.{TakesPrefix}
use Rattle.mcrl2_text.specs.Faults.{Rose}
use Rattle.lin_words.specs.Commands.{asked_by, question}
use Rattle.lin_run.specs.Ends.{IsAnswered}
use Rattle.lin_answers.specs.declared.status.Status.TheVariants as status
use Rattle.lin_refusals.specs.declared.stop.Stop.TheVariants.{Words, ReadFault}
use Rattle.lin_run.proofs.EndLines.{failed_or_whole, line_of-stop, nothing_asked, answered_ends, other_status, stops_unanswered, part_of_answer, whole_answer, taken_stops_well, linearised_stops_well, taken_ends_well, linearised_ends_well}
use Rattle.lin_run.proofs.top.run.Goals as goal

pub returns-in-Err-clause-err : goal.returns-in-Err-clause-err
returns-in-Err-clause-err g c =
    let asked = question (g.H.Shelf.text_of c.args.shelf.now) (map string_bytes c.args.words.now.items) in
    let says = line_of-stop c.in-Err.stop asked (search rules) in
    record {
      line = c.line.result.now;
      says = rw (c.line.ensures, c.status_of.ensures) says;
      prefix = search rules;
      whole = search (rules, failed_or_whole);
    }

pub returns-in-Err-clause-complete : goal.returns-in-Err-clause-complete
returns-in-Err-clause-complete g c =
    let asked = question (g.H.Shelf.text_of c.args.shelf.now) (map string_bytes c.args.words.now.items) in
    let none : c.in-Err.stop ≡ Words → asked_by (map string_bytes c.args.words.now.items) ≡ None = search rules in
    let rose : c.in-Err.stop ≡ ReadFault → Rose (g.H.Shelf.faults c.args.shelf.now) (g.H.Shelf.faults c.answer.new.shelf) = search rules in
    rw c.status_of.ensures
    (linearised_stops_well asked (g.H.Shelf.faults c.args.shelf.now) (g.H.Shelf.faults c.answer.new.shelf) (g.O.Sink.faults c.args.out.now) (g.O.Sink.faults c.args.out.now) (g.O.Sink.taken c.args.out.now) (g.O.Sink.taken c.args.out.now) c.in-Err.stop
    (λ is. nothing_asked (g.H.Shelf.text_of c.args.shelf.now) (map string_bytes c.args.words.now.items) (none is)) rose (search rules))

pub returns-in-Err-clause-headline : goal.returns-in-Err-clause-headline
returns-in-Err-clause-headline g c =
    let asked = question (g.H.Shelf.text_of c.args.shelf.now) (map string_bytes c.args.words.now.items) in
    let none : c.in-Err.stop ≡ Words → asked_by (map string_bytes c.args.words.now.items) ≡ None = search rules in
    let rose : c.in-Err.stop ≡ ReadFault → Rose (g.H.Shelf.faults c.args.shelf.now) (g.H.Shelf.faults c.answer.new.shelf) = search rules in
    rw c.status_of.ensures
    (taken_stops_well asked (g.H.Shelf.faults c.args.shelf.now) (g.H.Shelf.faults c.answer.new.shelf) (g.O.Sink.faults c.args.out.now) (g.O.Sink.faults c.args.out.now) (g.O.Sink.taken c.args.out.now) (g.O.Sink.taken c.args.out.now) c.in-Err.stop
    (λ is. nothing_asked (g.H.Shelf.text_of c.args.shelf.now) (map string_bytes c.args.words.now.items) (none is)) rose (search rules))

pub returns-in-Err-clause-done : goal.returns-in-Err-clause-done
returns-in-Err-clause-done g c = λ is. absurd (stops_unanswered c.in-Err.stop (rw c.status_of.ensures at is))

pub returns-in-Err-clause-err_kept : goal.returns-in-Err-clause-err_kept
returns-in-Err-clause-err_kept g c = λ is. absurd (stops_unanswered c.in-Err.stop (rw c.status_of.ensures at is))

pub returns-in-Err-clause-undecided : goal.returns-in-Err-clause-undecided
returns-in-Err-clause-undecided g c = λ is. absurd (stops_unanswered c.in-Err.stop (subst IsAnswered (sym (sym c.status_of.ensures ∙ is)) tt))

pub returns-in-Err-clause-no : goal.returns-in-Err-clause-no
returns-in-Err-clause-no g c = λ is. absurd (stops_unanswered c.in-Err.stop (subst IsAnswered (sym (sym c.status_of.ensures ∙ is)) tt))

pub returns-then-is_ok-clause-undecided : goal.returns-then-is_ok-clause-undecided
returns-then-is_ok-clause-undecided g c = rw c.deref.ensures.value at c.in-Ok.ensures.stays_open

pub returns-then-is_ok-clause-no : goal.returns-then-is_ok-clause-no
returns-then-is_ok-clause-no g c = rw c.deref.ensures.value at c.in-Ok.ensures.says_no

pub returns-then-is_ok-clause-words : goal.returns-then-is_ok-clause-words
returns-then-is_ok-clause-words g c = λ is. absurd (other_status c.in-Ok.answer.status status.Words c.in-Ok.ensures.answered.0 (λ a. a) is)

pub returns-then-is_ok-clause-read_fault : goal.returns-then-is_ok-clause-read_fault
returns-then-is_ok-clause-read_fault g c = λ is. absurd (other_status c.in-Ok.answer.status status.ReadFault c.in-Ok.ensures.answered.0 (λ a. a) is)

pub returns-then-is_ok-clause-write_fault : goal.returns-then-is_ok-clause-write_fault
returns-then-is_ok-clause-write_fault g c = λ is. absurd (other_status c.in-Ok.answer.status status.WriteFault c.in-Ok.ensures.answered.0 (λ a. a) is)

pub returns-then-is_ok-clause-cut_off : goal.returns-then-is_ok-clause-cut_off
returns-then-is_ok-clause-cut_off g c = λ is. absurd (other_status c.in-Ok.answer.status status.WriteFault c.in-Ok.ensures.answered.0 (λ a. a) is)

pub returns-then-is_ok-clause-out_kept : goal.returns-then-is_ok-clause-out_kept
returns-then-is_ok-clause-out_kept g c = λ never other. absurd (never c.in-Ok.ensures.answered.0)

pub returns-then-is_ok-clause-err : goal.returns-then-is_ok-clause-err
returns-then-is_ok-clause-err g c =
    answered_ends c.in-Ok.answer.status (question (g.H.Shelf.text_of c.args.shelf.now) (map string_bytes c.args.words.now.items)) (g.E.Sink.taken c.args.err.now) (g.E.Sink.faults c.args.err.now) c.in-Ok.ensures.answered.0

pub returns-then-is_ok-clause-done : goal.returns-then-is_ok-clause-done
returns-then-is_ok-clause-done g c = λ is.
    let asked = question (g.H.Shelf.text_of c.args.shelf.now) (map string_bytes c.args.words.now.items) in
    let whole : IfSome (g.O.Sink.taken c.args.out.now) (λ before. g.O.Sink.taken c.write_all.new.sink ≡ Some (before ++ c.in-Ok.answer.text.items)) = search rules in
    whole_answer asked (g.H.Shelf.faults c.args.shelf.now) (g.H.Shelf.faults c.answer.new.shelf) (g.O.Sink.faults c.args.out.now) (g.O.Sink.faults c.write_all.new.sink) (g.O.Sink.taken c.args.out.now) (g.O.Sink.taken c.write_all.new.sink)
    c.in-Ok.answer.status c.in-Ok.answer.text.items (rw c.deref.ensures.value at c.in-Ok.ensures.answered.1) whole

pub returns-then-is_ok-clause-complete : goal.returns-then-is_ok-clause-complete
returns-then-is_ok-clause-complete g c =
    let asked = question (g.H.Shelf.text_of c.args.shelf.now) (map string_bytes c.args.words.now.items) in
    let whole : IfSome (g.O.Sink.taken c.args.out.now) (λ before. g.O.Sink.taken c.write_all.new.sink ≡ Some (before ++ c.in-Ok.answer.text.items)) = search rules in
    linearised_ends_well asked (g.H.Shelf.faults c.args.shelf.now) (g.H.Shelf.faults c.answer.new.shelf) (g.O.Sink.faults c.args.out.now) (g.O.Sink.faults c.write_all.new.sink) (g.O.Sink.taken c.args.out.now) (g.O.Sink.taken c.write_all.new.sink)
    c.in-Ok.answer.status c.in-Ok.answer.text.items c.in-Ok.ensures.answered.0 (rw c.deref.ensures.value at c.in-Ok.ensures.answered.1) whole

pub returns-then-is_ok-clause-headline : goal.returns-then-is_ok-clause-headline
returns-then-is_ok-clause-headline g c =
    let asked = question (g.H.Shelf.text_of c.args.shelf.now) (map string_bytes c.args.words.now.items) in
    let whole : IfSome (g.O.Sink.taken c.args.out.now) (λ before. g.O.Sink.taken c.write_all.new.sink ≡ Some (before ++ c.in-Ok.answer.text.items)) = search rules in
    taken_ends_well asked (g.H.Shelf.faults c.args.shelf.now) (g.H.Shelf.faults c.answer.new.shelf) (g.O.Sink.faults c.args.out.now) (g.O.Sink.faults c.write_all.new.sink) (g.O.Sink.taken c.args.out.now) (g.O.Sink.taken c.write_all.new.sink)
    c.in-Ok.answer.status c.in-Ok.answer.text.items c.in-Ok.ensures.answered.0 (rw c.deref.ensures.value at c.in-Ok.ensures.answered.1) whole

pub returns-else-is_ok-clause-cut_off : goal.returns-else-is_ok-clause-cut_off
returns-else-is_ok-clause-cut_off g c = λ is.
    let asked = question (g.H.Shelf.text_of c.args.shelf.now) (map string_bytes c.args.words.now.items) in
    let part : IfSome (g.O.Sink.taken c.args.out.now) (λ before. TakesPrefix before (g.O.Sink.taken c.write_all.new.sink) c.in-Ok.answer.text.items) = search rules in
    part_of_answer asked (g.H.Shelf.faults c.args.shelf.now) (g.H.Shelf.faults c.answer.new.shelf) (g.O.Sink.faults c.args.out.now) (g.O.Sink.faults c.write_all.new.sink) (g.O.Sink.taken c.args.out.now) (g.O.Sink.taken c.write_all.new.sink)
    c.in-Ok.answer.status c.in-Ok.answer.text.items (rw c.deref.ensures.value at c.in-Ok.ensures.answered.1) part
