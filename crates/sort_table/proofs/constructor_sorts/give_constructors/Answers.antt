use Rattle.std.proofs.Common.{◌<◌, ◌∙◌, length, subst, sym, arith}
use Rattle.data_theory.specs.declared.ids.SortId.{SortId}
use Rattle.data_theory.specs.Places.{HaveOnePlace}
use Rattle.graphs.proofs.Marks.{successors_at}
use Rattle.sort_table.proofs.GivenConstructors.{one_given, all_given, next_plain, row_marked}
use Rattle.sort_table.proofs.constructor_sorts.give_constructors.Goals as goal

pub give_one-requires-clause-places : goal.give_one-requires-clause-places
give_one-requires-clause-places c =
    let s : SortId = record { 0 = c.loop-number.number } in
    let low : c.loop-number.number < length c.in_ok-places.places.items = omega (arith, c.loop-number-test.true, c.next_sort-number-end.ensures.number, c.in_ok-places.ensures.size) in
    let row = successors_at c.in_ok-places.places.items c.loop-number.number c.index.result.now low c.index.ensures ∙ sym c.as_slice.ensures.value in
    next_plain c.args.marks.now c.args.signature.now c.loop-number.signature s c.as_slice.result.now c.next_sort-number-end.ensures.stands.table c.loop-number.invariant (c.requires.free s)
    (row_marked c.args.signature.now c.args.marks.now c.in_ok-places.places.items s c.as_slice.result.now c.in_ok-places.ensures row).only

pub give_one-requires-clause-different : goal.give_one-requires-clause-different
give_one-requires-clause-different c =
    let low : c.loop-number.number < length c.in_ok-places.places.items = omega (arith, c.loop-number-test.true, c.next_sort-number-end.ensures.number, c.in_ok-places.ensures.size) in
    let row = successors_at c.in_ok-places.places.items c.loop-number.number c.index.result.now low c.index.ensures ∙ sym c.as_slice.ensures.value in
    subst HaveOnePlace row (c.in_ok-places.ensures.once c.loop-number.number)

pub loop-number-preserved : goal.loop-number-preserved
loop-number-preserved c =
    let s : SortId = record { 0 = c.loop-number.number } in
    let low : c.loop-number.number < length c.in_ok-places.places.items = omega (arith, c.loop-number-test.true, c.next_sort-number-end.ensures.number, c.in_ok-places.ensures.size) in
    let row = successors_at c.in_ok-places.places.items c.loop-number.number c.index.result.now low c.index.ensures ∙ sym c.as_slice.ensures.value in
    one_given c.args.marks.now c.args.signature.now c.loop-number.signature c.give_one.new.signature s c.as_slice.result.now c.loop-number.invariant
    (row_marked c.args.signature.now c.args.marks.now c.in_ok-places.places.items s c.as_slice.result.now c.in_ok-places.ensures row) c.in_ok-give_one.ensures

pub returns : goal.returns
returns c =
    all_given c.args.marks.now c.loop-number.number c.args.signature.now c.loop-number.signature (omega (arith, c.loop-number-test.false, c.loop-number.auto.number-end, c.next_sort-number-end.ensures.number)) c.loop-number.invariant
