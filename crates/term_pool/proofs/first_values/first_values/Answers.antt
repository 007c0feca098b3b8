use Rattle.std.proofs.Common.{ℕ, Some, set, sym, subst, arith}
use Rattle.term_pool.specs.FirstValues.{OpenWeighAtLeast}
use Rattle.term_pool.proofs.FirstTables.{one_more_entry, whole_table, open_count-set, fewer_open, open_weigh_as_next}
use Rattle.term_pool.proofs.FirstLoops.{found_next, found_none, arguments_within}
use Rattle.term_pool.proofs.first_values.first_values.Goals as goal

pub settle_as_light-requires-clause-entries : goal.settle_as_light-requires-clause-entries
settle_as_light-requires-clause-entries c =
    let g = c.args.sig.now in
    let es = c.loop-entries.entries.items in
    let next = found_next g es c.as_slice.result.now c.in_ok-sort.field-0 c.in-Some.sort c.in-Some.first c.as_slice.ensures.value c.in-Some.is c.in_ok-sort.ensures in
    one_more_entry g es (arguments_within g es c.in_ok-entries.ensures.stands.complete c.loop-entries.invariant.count) c.loop-entries.invariant c.in-Some.sort c.in-Some.first next

pub settle_as_light-requires-clause-least : goal.settle_as_light-requires-clause-least
settle_as_light-requires-clause-least c =
    let g = c.args.sig.now in
    let es = c.loop-entries.entries.items in
    let s = c.in-Some.sort in
    let first = c.in-Some.first in
    let within = arguments_within g es c.in_ok-entries.ensures.stands.complete c.loop-entries.invariant.count in
    let next = found_next g es c.as_slice.result.now c.in_ok-sort.field-0 s first c.as_slice.ensures.value c.in-Some.is c.in_ok-sort.ensures in
    subst (λ (n : ℕ). OpenWeighAtLeast g (set es s.0 (Some first)) n) (sym c.in_ok-weight.ensures) (fewer_open g es first.weight s.0 first next.unsettled (open_weigh_as_next g es within s first next))

pub loop-entries-smaller : goal.loop-entries-smaller
loop-entries-smaller c =
    let es = c.loop-entries.entries.items in
    let next = found_next c.args.sig.now es c.as_slice.result.now c.in_ok-sort.field-0 c.in-Some.sort c.in-Some.first c.as_slice.ensures.value c.in-Some.is c.in_ok-sort.ensures in
    let falls = open_count-set es c.in-Some.sort.0 c.in-Some.first next.unsettled in
    let fewer = c.settle_as_light.ensures.fewer in
    omega (arith, falls, fewer)

pub returns-clause-entries : goal.returns-clause-entries
returns-clause-entries c =
    let g = c.args.sig.now in
    let es = c.loop-entries.entries.items in
    whole_table g es (arguments_within g es c.in_ok-entries.ensures.stands.complete c.loop-entries.invariant.count) c.loop-entries.invariant
    (found_none g es c.as_slice.result.now c.in_ok-sort.field-0 c.as_slice.ensures.value c.in_default.is c.in_ok-sort.ensures)
