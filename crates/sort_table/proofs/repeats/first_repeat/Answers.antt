use Rattle.std.proofs.Common.{◌≡◌, ℕ, List, length, subst, arith}
use Rattle.std.specs.Prelude.{Some, slice_get}
use Rattle.sort_table.specs.Repeats.{Mark, marks_of, mark_of, Meets, IsLeastPair}
use Rattle.sort_table.proofs.MeetingMarks.{meets_none, known_none, meets_more, read_map}
use Rattle.sort_table.proofs.repeats.first_repeat.Goals as goal

pub loop-entry-init : goal.loop-entry-init
loop-entry-init c = record { known = known_none c.new-least.result (marks_of c.args.entries.now) c.new-least.ensures.empty; least = meets_none (marks_of c.args.entries.now) }

pub loop-entry-preserved : goal.loop-entry-preserved
loop-entry-preserved c =
    let ms : List Mark = marks_of c.args.entries.now in
    let at : slice_get ms c.loop-entry.entry-index ≡ Some (mark_of c.entry-item.result) = read_map mark_of c.args.entries.now c.loop-entry.entry-index c.entry-item.result c.loop-entry-test.true c.entry-item.is in
    record {
      known = c.in_ok-leave.ensures ms c.loop-entry.entry-index at c.loop-entry.invariant.known;
      least = meets_more ms c.loop-entry.entry-index (mark_of c.entry-item.result) c.loop-entry.least c.loop-entry.found c.met_by.result c.lesser-found.result at c.loop-entry.invariant.known c.loop-entry.invariant.least c.met_by.ensures c.lesser-found.ensures;
    }

pub returns : goal.returns
returns c =
    let end : c.loop-entry.entry-index ≡ length c.args.entries.now = omega arith in
    subst (λ (i : ℕ). IsLeastPair (Meets (marks_of c.args.entries.now) i) c.loop-entry.found) end c.loop-entry.invariant.least
