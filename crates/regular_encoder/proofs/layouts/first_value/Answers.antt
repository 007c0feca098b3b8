use Rattle.std.proofs.Common.{◌≤◌, length, arith}
use Rattle.term_pool.proofs.DeclaredConstants.{grown_itself}
use Rattle.regular_encoder.specs.FormColumns.{an_argument}
use Rattle.regular_encoder.proofs.FirstTerms.{argument_found, argument_nowhere, closed_made, inhabited_as}
use Rattle.regular_encoder.proofs.layouts.first_value.Goals as goal

pub returns-then-place-number-clause-value : goal.returns-then-place-number-clause-value
returns-then-place-number-clause-value c =
    an_argument (argument_found c.args.place.now c.args.args.now c.args.column c.loop-number.number (record { 0 = 0 }) (record { 0 = 0 }) c.requires.long c.loop-number-test.true c.loop-number.invariant c.if-place-number.true)

pub returns-then-place-number-clause-grown : goal.returns-then-place-number-clause-grown
returns-then-place-number-clause-grown c = grown_itself _

pub closed_term-requires-clause-inhabited : goal.closed_term-requires-clause-inhabited
closed_term-requires-clause-inhabited c = inhabited_as c.args.sig.now c.args.column c.var_sort-sort.result c.requires.variable c.requires.inhabited c.var_sort-sort.ensures

pub returns-clause-value : goal.returns-clause-value
returns-clause-value c =
    let n = c.loop-number-test.false in
    let l : length c.args.place.now ≤ c.loop-number.number = omega (arith, n) in
    closed_made c.args.place.now c.args.args.now c.args.column c.args.sig.now c.args.pool.now c.closed_term.new.sig c.closed_term.new.self c.in_ok-closed_term.field-0 c.var_sort-sort.result
    c.requires.variable c.var_sort-sort.ensures (argument_nowhere c.args.place.now c.args.args.now c.args.column c.loop-number.number l c.loop-number.invariant)
    c.in_ok-closed_term.ensures.has c.in_ok-closed_term.ensures.first c.in_ok-closed_term.ensures.declared c.in_ok-closed_term.ensures.within c.in_ok-closed_term.ensures.sorted c.closed_term.ensures.grown c.closed_term.ensures.kept
