use Rattle.std.proofs.Common.{get_or, inr, arith}
use Rattle.std.proofs.lemmas.Option.{slice_get-get_or, slice_get_within}
use Rattle.data_theory.specs.declared.ids.NameId.{NameId}
use Rattle.data_theory.proofs.PlaceLemmas.{contains_read}
use Rattle.sort_table.proofs.FirstEmpty.{one_more_name, found_empty, none_empty, all_have_values, value_by_mark, no_value_by_mark, is_mark}
use Rattle.sort_table.proofs.empty_sorts.empty_sort.Goals as goal

abbrev first : NameId
first = record { 0 = 0 }

pub loop-name-preserved-in_default : goal.loop-name-preserved-in_default
loop-name-preserved-in_default c = one_more_name c.args.sig.now c.args.names.now c.loop-name.name-index first c.loop-name.invariant (inr c.in_default.ensures)

pub index-requires : goal.index-requires
index-requires c =
    let below = is_mark c.args.sig.now c.in_ok-inhabited.ensures.stands c.in_ok-inhabited.inhabited.items c.in_ok-inhabited.ensures.marks (get_or c.args.names.now c.loop-name.name-index first) c.in-Some.sort c.in-Some.ensures in
    omega (arith, below, c.in_ok-inhabited.inhabited.ok.0)

pub returns-then-not-index-clause-found : goal.returns-then-not-index-clause-found
returns-then-not-index-clause-found c =
    let g = c.args.sig.now in
    let stands = c.in_ok-inhabited.ensures.stands in
    let marks = c.in_ok-inhabited.inhabited.items in
    let n = get_or c.args.names.now c.loop-name.name-index first in
    let below = is_mark g stands marks c.in_ok-inhabited.ensures.marks n c.in-Some.sort c.in-Some.ensures in
    λ ds is so.
    found_empty g stands ds is c.args.names.now so c.loop-name.name-index n c.in-Some.sort (slice_get-get_or c.args.names.now c.loop-name.name-index first c.loop-name-test.true) c.loop-name.invariant c.in-Some.ensures
    (no_value_by_mark g marks c.in_ok-inhabited.ensures.marks c.in-Some.sort c.index.result.now below c.index.ensures c.if-not-index.true)

pub loop-name-preserved : goal.loop-name-preserved
loop-name-preserved c =
    let g = c.args.sig.now in
    let marks = c.in_ok-inhabited.inhabited.items in
    let n = get_or c.args.names.now c.loop-name.name-index first in
    let below = is_mark g c.in_ok-inhabited.ensures.stands marks c.in_ok-inhabited.ensures.marks n c.in-Some.sort c.in-Some.ensures in
    one_more_name g c.args.names.now c.loop-name.name-index first c.loop-name.invariant
    (value_by_mark g marks c.in_ok-inhabited.ensures.marks n c.in-Some.sort c.index.result.now below c.index.ensures c.in-Some.ensures c.if-not-index.false)

pub returns-clause-found : goal.returns-clause-found
returns-clause-found c = λ ds is so.
    none_empty c.args.sig.now c.in_ok-inhabited.ensures.stands ds is c.args.names.now so (λ j i at. (let within = slice_get_within c.args.names.now j i at in c.loop-name.invariant j i (omega (arith, within, c.loop-name-test.false)) at))

pub returns-then-not-index-clause-inhabited : goal.returns-then-not-index-clause-inhabited
returns-then-not-index-clause-inhabited c = λ ds is so. tt

pub returns-clause-inhabited : goal.returns-clause-inhabited
returns-clause-inhabited c = λ ds is so.
    all_have_values c.args.sig.now c.in_ok-inhabited.ensures.stands ds is c.args.names.now so (λ j i at. (let within = slice_get_within c.args.names.now j i at in c.loop-name.invariant j i (omega (arith, within, c.loop-name-test.false)) at))

pub returns-then-not-index-clause-among : goal.returns-then-not-index-clause-among
returns-then-not-index-clause-among c =
    let n = get_or c.args.names.now c.loop-name.name-index first in
    contains_read c.args.names.now c.loop-name.name-index n (slice_get-get_or c.args.names.now c.loop-name.name-index first c.loop-name-test.true)
