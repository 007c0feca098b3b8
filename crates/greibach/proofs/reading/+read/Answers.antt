use Rattle.std.proofs.Common.{◌≡◌, ◌∙◌, ◌+◌, ◌-◌, ◌<◌, ◌++◌, [], ◌∷◌, Some, length, map, take, drop, arith, rules, refl, sym, ap, subst}
use Rattle.std.specs.List.{Contains}
use Rattle.lps_core.specs.TreeSummands.{numbers_of}
use Rattle.process_terms.specs.PlainProcesses.{plain_process, sum}
use Rattle.proc_unfold.proofs.Sizes.{nodes, then_smaller, other_smaller, choices_smaller, steps_smaller, summed_smaller, merged_smaller, synced_smaller, operand_no_larger}
use Rattle.greibach.specs.FittingPlaces.{IsThere, FitsInScope, ReadsFittingly, HasRead}
use Rattle.greibach.specs.Readings.{definitions_in, places_in}
use Rattle.greibach.proofs.ReadPlaces.{begins_itself, begins_then, among_front, there_grown, rest_wider, needed_items, rest_in_items, params_items, read_then}
use Rattle.std.proofs.lemmas.List.{take_all, length-map, append-nil}
use Rattle.greibach.specs.Readings.{ReadsTerm}
use Rattle.greibach.specs.TableReadings.{AreNeededIn}
use Rattle.greibach.proofs.ReadTables.{ReadsRow, row_none, row_pushed, needed_alone, needed_one_more, needed_grown, operand_there, choice_reads, cond_reads, merge_reads, sync_reads, drop_all, steps_from, last_step, step_before, sum_before}
use Rattle.greibach.proofs.ReadParts.{choice_fits, merge_fits, sync_fits, seq_fits, cond_fits, sum_fits, part_fits, inside_fits, larger_left, larger_right, larger_below, taken_front, taken_again, choosing_none, choosing_more, choice_ok, cond_ok, more_variables, sum_on}
use Rattle.greibach.proofs.reading.+read.Goals as goal

pub read-read_choice-requires : goal.read-read_choice-requires
read-read_choice-requires t c = (
  omega (arith, choices_smaller c.args.process.now c.in-Choice.parts c.as_slice-in-Choice.result.now c.in-Choice.is c.as_slice-in-Choice.ensures.value, c.decreases),
  (
    choice_fits c.args.source.sig.now c.args.source.pool.now.trees (definitions_in c.args.source) c.args.reader.now.scope.items c.args.process.now c.in-Choice.parts c.as_slice-in-Choice.result.now c.in-Choice.is c.as_slice-in-Choice.ensures.value c.requires.fits,
    (c.requires.so_far, c.requires.rest),
  ),
)

pub read-read_chain-requires : goal.read-read_chain-requires
read-read_chain-requires t c = (
  omega (arith, steps_smaller c.args.process.now c.in-Seq.parts c.as_slice-in-Seq.result.now c.in-Seq.is c.as_slice-in-Seq.ensures.value, c.decreases),
  (
    seq_fits c.args.source.sig.now c.args.source.pool.now.trees (definitions_in c.args.source) c.args.reader.now.scope.items c.args.process.now c.in-Seq.parts c.as_slice-in-Seq.result.now c.in-Seq.is c.as_slice-in-Seq.ensures.value c.requires.fits,
    (c.requires.so_far, c.requires.rest),
  ),
)

pub read-read_cond-requires : goal.read-read_cond-requires
read-read_cond-requires t c = (
  omega (
    arith,
    larger_below (nodes (plain_process c.deref.result.now)) (nodes (plain_process c.deref-in-Cond.result.now)) (nodes (plain_process c.args.process.now))
        (then_smaller c.args.process.now c.deref.result.now c.in-Cond.condition c.in-Cond.then c.in-Cond.other c.in-Cond.is c.deref.ensures)
        (other_smaller c.args.process.now c.deref-in-Cond.result.now c.in-Cond.condition c.in-Cond.then c.in-Cond.other c.in-Cond.is c.deref-in-Cond.ensures),
    c.decreases,
  ),
  (
    cond_fits c.args.source.sig.now c.args.source.pool.now.trees (definitions_in c.args.source) c.args.reader.now.scope.items c.args.process.now c.deref.result.now c.deref-in-Cond.result.now c.in-Cond.condition c.in-Cond.then c.in-Cond.other c.in-Cond.is c.deref.ensures c.deref-in-Cond.ensures c.requires.fits,
    (c.requires.so_far, c.requires.rest),
  ),
)

pub read-read_sum-requires : goal.read-read_sum-requires
read-read_sum-requires t c = (
  omega (arith, summed_smaller c.args.process.now c.deref-in-Sum.result.now c.in-Sum.vars c.in-Sum.part c.in-Sum.is c.deref-in-Sum.ensures, c.decreases),
  (
    sum_fits c.args.source.sig.now c.args.source.pool.now.trees (definitions_in c.args.source) c.args.reader.now.scope.items c.args.process.now c.deref-in-Sum.result.now c.in-Sum.vars c.as_slice-in-Sum.result.now c.in-Sum.part c.in-Sum.is c.as_slice-in-Sum.ensures.value c.deref-in-Sum.ensures c.requires.fits,
    (c.requires.so_far, c.requires.rest),
  ),
)

pub read_chain-read-requires : goal.read_chain-read-requires
read_chain-read-requires t c =
    let l : length c.args.parts.now - 1 < length c.args.parts.now = search rules in (
      omega (arith, operand_no_larger c.args.parts.now (length c.args.parts.now - 1) c.index-parts-left.result l c.index-parts-left.is, c.decreases),
      (
        part_fits c.args.source.sig.now c.args.source.pool.now.trees (definitions_in c.args.source) c.args.reader.now.scope.items c.args.parts.now (length c.args.parts.now - 1) c.index-parts-left.result l c.index-parts-left.is c.requires.fits,
        (c.requires.so_far, c.requires.rest),
      ),
    )

pub read_chain-read-requires-in-loop-left : goal.read_chain-read-requires-in-loop-left
read_chain-read-requires-in-loop-left t c =
    let i = c.loop-left.invariant in
    let most = i.2 in
    let some = c.loop-left-test.true in
    let l : c.loop-left.left - 1 < length c.args.parts.now = omega (arith, most, some) in (
      omega (arith, operand_no_larger c.args.parts.now (c.loop-left.left - 1) c.index-parts-left-in-loop-left.result l c.index-parts-left-in-loop-left.is, c.decreases),
      (
        subst (λ z. FitsInScope c.args.source.sig.now c.args.source.pool.now.trees (definitions_in c.args.source) z (plain_process c.index-parts-left-in-loop-left.result)) (sym i.1)
            (part_fits c.args.source.sig.now c.args.source.pool.now.trees (definitions_in c.args.source) c.args.reader.now.scope.items c.args.parts.now (c.loop-left.left - 1) c.index-parts-left-in-loop-left.result l c.index-parts-left-in-loop-left.is c.requires.fits),
        (
          subst (λ z. ReadsFittingly c.args.source.sig.now c.args.source.pool.now.trees (definitions_in c.args.source) (places_in c.loop-left.reader) c.loop-left.reader.reached.keys z) (sym i.1) i.0.fits,
          subst (λ z. IsThere (places_in c.loop-left.reader) z c.loop-left.place) (sym i.1) i.0.there,
        ),
      ),
    )

pub read_choice-read-requires : goal.read_choice-read-requires
read_choice-read-requires t c =
    let l : 0 < length c.args.parts.now = omega arith in (
      omega (arith, operand_no_larger c.args.parts.now 0 c.index-parts-0.result l c.index-parts-0.is, c.decreases),
      (
        part_fits c.args.source.sig.now c.args.source.pool.now.trees (definitions_in c.args.source) c.args.reader.now.scope.items c.args.parts.now 0 c.index-parts-0.result l c.index-parts-0.is c.requires.fits,
        (c.requires.so_far, c.requires.rest),
      ),
    )

pub read_choice-needed_for-requires-clause-there : goal.read_choice-needed_for-requires-clause-there
read_choice-needed_for-requires-clause-there t c = rest_in_items c.args.reader.now.places.items c.as_slice.result.now c.args.reader.now.scope.items c.args.rest c.requires.rest c.as_slice.ensures.value

pub read_choice-read-requires-in-loop-part : goal.read_choice-read-requires-in-loop-part
read_choice-read-requires-in-loop-part t c =
    let i = c.loop-part.invariant in (
      omega (arith, operand_no_larger c.args.parts.now c.loop-part.part-index c.part-item.result c.loop-part-test.true c.part-item.is, c.decreases),
      (
        subst (λ z. FitsInScope c.args.source.sig.now c.args.source.pool.now.trees (definitions_in c.args.source) z (plain_process c.part-item.result)) (sym i.1)
            (part_fits c.args.source.sig.now c.args.source.pool.now.trees (definitions_in c.args.source) c.args.reader.now.scope.items c.args.parts.now c.loop-part.part-index c.part-item.result c.loop-part-test.true c.part-item.is c.requires.fits),
        (
          subst (λ z. ReadsFittingly c.args.source.sig.now c.args.source.pool.now.trees (definitions_in c.args.source) (places_in c.loop-part.reader) c.loop-part.reader.reached.keys z) (sym i.1) i.0.fits,
          rest_wider (places_in c.args.reader.now) (places_in c.loop-part.reader) c.args.reader.now.scope.items c.loop-part.reader.scope.items c.args.rest i.0.places_begin (λ v j. subst (λ z. Contains (numbers_of z) v) (sym i.1) j) c.requires.rest,
        ),
      ),
    )

pub read_choice-loop-part-init : goal.read_choice-loop-part-init
read_choice-loop-part-init t c = (
  choosing_none c.args.source.sig.now c.args.source.pool.now.trees (definitions_in c.args.source) (places_in c.args.reader.now) c.args.reader.now.reached.keys c.args.reader.now.scope.items c.args.rest [] c.in_ok-needed.needed.keys c.new-operands.result.items c.requires.so_far
      (needed_items c.args.source.pool.now.trees [] c.args.reader.now.places.items c.as_slice.result.now c.args.rest c.in_ok-needed.needed.keys c.as_slice.ensures.value c.in_ok-needed.ensures) c.new-operands.ensures.items,
  refl,
  subst (λ ns. ReadsRow c.args.source.pool.now.trees c.args.reader.now.scope.items c.args.rest (places_in c.args.reader.now) c.args.reader.now.reached.keys [] (places_in c.args.reader.now) c.args.reader.now.reached.keys ns) (sym c.new-operands.ensures.items) row_none,
  subst (λ ns. AreNeededIn c.args.source.pool.now.trees (places_in c.args.reader.now) [] c.args.rest ns c.in_ok-needed.needed.keys) (sym c.new-operands.ensures.items)
      (needed_alone c.args.source.pool.now.trees (places_in c.args.reader.now) [] c.args.rest c.in_ok-needed.needed.keys
      (needed_items c.args.source.pool.now.trees [] c.args.reader.now.places.items c.as_slice.result.now c.args.rest c.in_ok-needed.needed.keys c.as_slice.ensures.value c.in_ok-needed.ensures)),
)

pub read_choice-add_params-requires : goal.read_choice-add_params-requires
read_choice-add_params-requires t c = rest_in_items c.read-in-loop-part.new.reader.places.items c.as_slice-in-loop-part.result.now c.loop-part.reader.scope.items (Some c.in_ok-place.place) c.in_ok-place.ensures.read.there c.as_slice-in-loop-part.ensures.value

pub read_choice-loop-part-preserved : goal.read_choice-loop-part-preserved
read_choice-loop-part-preserved t c =
    let i = c.loop-part.invariant in (
      choosing_more c.args.source.sig.now c.args.source.pool.now.trees (definitions_in c.args.source) (places_in c.args.reader.now) (places_in c.loop-part.reader) (places_in c.read-in-loop-part.new.reader) c.args.reader.now.reached.keys c.loop-part.reader.reached.keys c.read-in-loop-part.new.reader.reached.keys c.args.reader.now.scope.items c.args.rest c.loop-part.needed.keys c.add_params.new.set.keys
          c.loop-part.operands.items c.push.new.self.items c.in_ok-place.place i.0
          (subst (λ z. HasRead c.args.source.sig.now c.args.source.pool.now.trees (definitions_in c.args.source) (places_in c.loop-part.reader) (places_in c.read-in-loop-part.new.reader) c.loop-part.reader.reached.keys c.read-in-loop-part.new.reader.reached.keys z c.in_ok-place.place) i.1 c.in_ok-place.ensures.read)
          (params_items c.read-in-loop-part.new.reader.places.items c.as_slice-in-loop-part.result.now c.in_ok-place.place c.loop-part.needed.keys c.add_params.new.set.keys c.as_slice-in-loop-part.ensures.value c.in_ok-add_params.ensures) c.in_ok-push.ensures.items,
      c.in_ok-place.ensures.scope ∙ i.1,
      row_pushed c.args.source.pool.now.trees c.args.reader.now.scope.items c.args.rest (places_in c.args.reader.now) c.args.reader.now.reached.keys c.args.parts.now c.loop-part.part-index c.part-item.result (places_in c.loop-part.reader) (places_in c.read-in-loop-part.new.reader) c.loop-part.reader.reached.keys c.read-in-loop-part.new.reader.reached.keys c.loop-part.reader.scope.items
          c.loop-part.operands.items c.push.new.self.items c.in_ok-place.place c.loop-part-test.true c.part-item.is i.1 i.2 c.in_ok-place.ensures.read.places_begin c.in_ok-place.ensures.read.reached_begin c.in_ok-place.ensures.reads c.in_ok-push.ensures.items,
      subst (λ ns. AreNeededIn c.args.source.pool.now.trees (places_in c.read-in-loop-part.new.reader) [] c.args.rest ns c.add_params.new.set.keys) (sym c.in_ok-push.ensures.items)
          (needed_one_more c.args.source.pool.now.trees (places_in c.read-in-loop-part.new.reader) [] c.args.rest c.loop-part.operands.items c.loop-part.needed.keys c.add_params.new.set.keys c.in_ok-place.place
          (needed_grown c.args.source.pool.now.trees (places_in c.loop-part.reader) (places_in c.read-in-loop-part.new.reader) c.args.reader.now.scope.items c.args.reader.now.scope.items [] c.args.rest c.loop-part.operands.items c.loop-part.needed.keys c.in_ok-place.ensures.read.places_begin
          (rest_wider (places_in c.args.reader.now) (places_in c.loop-part.reader) c.args.reader.now.scope.items c.args.reader.now.scope.items c.args.rest i.0.places_begin (λ v j. j) c.requires.rest)
          (λ n k. (operand_there (places_in c.loop-part.reader) c.args.reader.now.scope.items c.loop-part.needed.keys c.loop-part.operands.items n i.0.operands_needed k)) i.3)
          (params_items c.read-in-loop-part.new.reader.places.items c.as_slice-in-loop-part.result.now c.in_ok-place.place c.loop-part.needed.keys c.add_params.new.set.keys c.as_slice-in-loop-part.ensures.value c.in_ok-add_params.ensures)),
    )

pub read_choice-returns-clause-reads : goal.read_choice-returns-clause-reads
read_choice-returns-clause-reads t c =
    let i = c.loop-part.invariant in
    choice_reads c.args.source.pool.now.trees c.args.reader.now.scope.items c.args.rest (places_in c.args.reader.now) c.args.reader.now.reached.keys c.push-2.result (map plain_process c.args.parts.now) (places_in c.loop-part.reader) (places_in c.push-2.new.reader) c.loop-part.reader.reached.keys c.push-2.new.reader.reached.keys c.loop-part.reader.scope.items c.loop-part.needed.keys c.loop-part.operands.items
    (subst (λ l. ReadsRow c.args.source.pool.now.trees c.args.reader.now.scope.items c.args.rest (places_in c.args.reader.now) c.args.reader.now.reached.keys (map plain_process l) (places_in c.loop-part.reader) c.loop-part.reader.reached.keys c.loop-part.operands.items) (take_all c.loop-part.part-index c.args.parts.now (search rules)) i.2)
    (λ one. let l = length-map c.args.parts.now plain_process in c.if-parts-eq1.false (omega (arith, one, l)))
    (rest_wider (places_in c.args.reader.now) (places_in c.loop-part.reader) c.args.reader.now.scope.items c.args.reader.now.scope.items c.args.rest i.0.places_begin (λ v j. j) c.requires.rest)
    (λ n k. operand_there (places_in c.loop-part.reader) c.args.reader.now.scope.items c.loop-part.needed.keys c.loop-part.operands.items n i.0.operands_needed k) i.3 i.1 c.push-2.ensures.reached c.push-2.ensures.pushed

pub read_choice-returns-clause-read : goal.read_choice-returns-clause-read
read_choice-returns-clause-read t c =
    let i = c.loop-part.invariant in
    choice_ok c.args.source.sig.now c.args.source.pool.now.trees (definitions_in c.args.source) c.push-2.result (places_in c.args.reader.now) (places_in c.loop-part.reader) (places_in c.push-2.new.reader) c.args.reader.now.reached.keys c.loop-part.reader.reached.keys c.push-2.new.reader.reached.keys c.args.reader.now.scope.items c.loop-part.reader.scope.items c.args.rest c.loop-part.needed.keys c.loop-part.operands.items
    i.0 c.requires.rest i.1 c.push-2.ensures.reached c.push-2.ensures.pushed

pub read_cond-read-requires : goal.read_cond-read-requires
read_cond-read-requires t c = (
  omega (arith, larger_left (nodes (plain_process c.args.then.now)) (nodes (plain_process c.args.other.now)), c.decreases),
  (
    record { variables = c.requires.fits.variables; among = c.requires.fits.among; fits = c.requires.fits.fits.1 },
    (c.requires.so_far, c.requires.rest),
  ),
)

pub read_cond-read-requires-2 : goal.read_cond-read-requires-2
read_cond-read-requires-2 t c =
    let same = c.in_ok-first.ensures.scope in
    let r = c.in_ok-first.ensures.read in (
      omega (arith, larger_right (nodes (plain_process c.args.then.now)) (nodes (plain_process c.args.other.now)), c.decreases),
      (
        subst (λ z. FitsInScope c.args.source.sig.now c.args.source.pool.now.trees (definitions_in c.args.source) z (plain_process c.args.other.now)) (sym same) (record { variables = c.requires.fits.variables; among = c.requires.fits.among; fits = c.requires.fits.fits.2 }),
        (
          subst (λ z. ReadsFittingly c.args.source.sig.now c.args.source.pool.now.trees (definitions_in c.args.source) (places_in c.read.new.reader) c.read.new.reader.reached.keys z) (sym same) r.fits,
          rest_wider (places_in c.args.reader.now) (places_in c.read.new.reader) c.args.reader.now.scope.items c.read.new.reader.scope.items c.args.rest r.places_begin (λ v j. subst (λ z. Contains (numbers_of z) v) (sym same) j) c.requires.rest,
        ),
      ),
    )

pub read_cond-needed_for-requires-clause-there : goal.read_cond-needed_for-requires-clause-there
read_cond-needed_for-requires-clause-there t c =
    rest_in_items c.read-2.new.reader.places.items c.as_slice.result.now c.args.reader.now.scope.items c.args.rest
    (rest_wider (places_in c.args.reader.now) (places_in c.read-2.new.reader) c.args.reader.now.scope.items c.args.reader.now.scope.items c.args.rest
    (begins_then (places_in c.args.reader.now) (places_in c.read.new.reader) (places_in c.read-2.new.reader) c.in_ok-first.ensures.read.places_begin c.in_ok-second.ensures.read.places_begin) (λ v j. j) c.requires.rest) c.as_slice.ensures.value

pub read_cond-add_params-requires : goal.read_cond-add_params-requires
read_cond-add_params-requires t c =
    rest_in_items c.read-2.new.reader.places.items c.as_slice-2.result.now c.args.reader.now.scope.items (Some c.in_ok-first.first)
    (there_grown (places_in c.read.new.reader) (places_in c.read-2.new.reader) c.args.reader.now.scope.items c.in_ok-first.first c.in_ok-second.ensures.read.places_begin c.in_ok-first.ensures.read.there) c.as_slice-2.ensures.value

pub read_cond-add_params-requires-2 : goal.read_cond-add_params-requires-2
read_cond-add_params-requires-2 t c = rest_in_items c.read-2.new.reader.places.items c.as_slice-3.result.now c.read.new.reader.scope.items (Some c.in_ok-second.second) c.in_ok-second.ensures.read.there c.as_slice-3.ensures.value

pub read_cond-returns-clause-reads : goal.read_cond-returns-clause-reads
read_cond-returns-clause-reads t c =
    let us = c.read-2.new.reader.places.items in
    let one = c.in_ok-first.ensures.read in
    let two = c.in_ok-second.ensures.read in
    cond_reads c.args.source.pool.now.trees c.push.result (places_in c.args.reader.now) (places_in c.read.new.reader) (places_in c.read-2.new.reader) (places_in c.push.new.reader) c.args.reader.now.reached.keys c.read.new.reader.reached.keys c.read-2.new.reader.reached.keys c.push.new.reader.reached.keys c.args.reader.now.scope.items c.read.new.reader.scope.items
    c.read-2.new.reader.scope.items c.in_ok-needed.needed.keys c.add_params.new.set.keys c.add_params-2.new.set.keys (plain_process c.args.then.now) (plain_process c.args.other.now) c.args.condition c.args.rest c.in_ok-first.first c.in_ok-second.second two.places_begin two.reached_begin c.requires.fits.fits.0.term.within
    (rest_wider (places_in c.args.reader.now) (places_in c.read-2.new.reader) c.args.reader.now.scope.items c.args.reader.now.scope.items c.args.rest (begins_then (places_in c.args.reader.now) (places_in c.read.new.reader) (places_in c.read-2.new.reader) one.places_begin two.places_begin) (λ v j. j) c.requires.rest)
    (there_grown (places_in c.read.new.reader) (places_in c.read-2.new.reader) c.args.reader.now.scope.items c.in_ok-first.first two.places_begin one.there)
    (subst (λ l. IsThere (places_in c.read-2.new.reader) l c.in_ok-second.second) c.in_ok-first.ensures.scope two.there)
    c.in_ok-first.ensures.reads c.in_ok-first.ensures.scope c.in_ok-second.ensures.reads c.in_ok-second.ensures.scope (needed_items c.args.source.pool.now.trees (c.args.condition ∷ []) us c.as_slice.result.now c.args.rest c.in_ok-needed.needed.keys c.as_slice.ensures.value c.in_ok-needed.ensures)
    (params_items us c.as_slice-2.result.now c.in_ok-first.first c.in_ok-needed.needed.keys c.add_params.new.set.keys c.as_slice-2.ensures.value c.in_ok-add_params.ensures)
    (params_items us c.as_slice-3.result.now c.in_ok-second.second c.add_params.new.set.keys c.add_params-2.new.set.keys c.as_slice-3.ensures.value c.in_ok-add_params-2.ensures) c.push.ensures.reached c.push.ensures.pushed

pub read_cond-returns-clause-read : goal.read_cond-returns-clause-read
read_cond-returns-clause-read t c =
    let us = c.read-2.new.reader.places.items in
    cond_ok c.args.source.sig.now c.args.source.pool.now.trees (definitions_in c.args.source) c.push.result (places_in c.args.reader.now) (places_in c.read.new.reader) (places_in c.read-2.new.reader) (places_in c.push.new.reader) c.args.reader.now.reached.keys c.read.new.reader.reached.keys c.read-2.new.reader.reached.keys c.push.new.reader.reached.keys c.args.reader.now.scope.items c.read.new.reader.scope.items
    c.read-2.new.reader.scope.items c.requires.fits.variables c.args.rest c.args.condition c.in_ok-first.first c.in_ok-second.second c.in_ok-needed.needed.keys c.add_params.new.set.keys c.add_params-2.new.set.keys c.requires.fits.fits.0 c.requires.fits.among c.requires.rest c.in_ok-first.ensures.read c.in_ok-first.ensures.scope
    c.in_ok-second.ensures.read c.in_ok-second.ensures.scope (needed_items c.args.source.pool.now.trees (c.args.condition ∷ []) us c.as_slice.result.now c.args.rest c.in_ok-needed.needed.keys c.as_slice.ensures.value c.in_ok-needed.ensures)
    (params_items us c.as_slice-2.result.now c.in_ok-first.first c.in_ok-needed.needed.keys c.add_params.new.set.keys c.as_slice-2.ensures.value c.in_ok-add_params.ensures)
    (params_items us c.as_slice-3.result.now c.in_ok-second.second c.add_params.new.set.keys c.add_params-2.new.set.keys c.as_slice-3.ensures.value c.in_ok-add_params-2.ensures) c.push.ensures.reached c.push.ensures.pushed

pub read_sum-read-requires : goal.read_sum-read-requires
read_sum-read-requires t c =
    let e = c.in_ok-extend_from_slice.ensures.items in (
      omega (arith, c.decreases),
      (
        inside_fits c.args.source.sig.now c.args.source.pool.now.trees (definitions_in c.args.source) c.args.reader.now.scope.items c.args.vars.now (plain_process c.args.part.now) c.extend_from_slice.new.self.items e c.requires.fits,
        (
          more_variables c.args.source.sig.now c.args.source.pool.now.trees (definitions_in c.args.source) (places_in c.args.reader.now) c.args.reader.now.reached.keys c.args.reader.now.scope.items c.args.vars.now c.extend_from_slice.new.self.items c.requires.so_far c.requires.fits.fits.0 e,
          rest_wider (places_in c.args.reader.now) (places_in c.args.reader.now) c.args.reader.now.scope.items c.extend_from_slice.new.self.items c.args.rest (begins_itself (places_in c.args.reader.now)) (λ v j. subst (λ z. Contains (numbers_of z) v) (sym e) (among_front c.args.reader.now.scope.items c.args.vars.now v j)) c.requires.rest,
        ),
      ),
    )

pub read_sum-needed_for-requires-clause-there : goal.read_sum-needed_for-requires-clause-there
read_sum-needed_for-requires-clause-there t c =
    rest_in_items c.loop-left.reader.places.items c.as_slice.result.now c.args.reader.now.scope.items c.args.rest
    (rest_wider (places_in c.args.reader.now) (places_in c.loop-left.reader) c.args.reader.now.scope.items c.args.reader.now.scope.items c.args.rest c.loop-left.invariant.0.places_begin (λ v j. j) c.requires.rest) c.as_slice.ensures.value

pub read_sum-add_params-requires : goal.read_sum-add_params-requires
read_sum-add_params-requires t c =
    rest_in_items c.loop-left.reader.places.items c.as_slice-in-loop-left.result.now (c.args.reader.now.scope.items ++ take c.loop-left.left c.args.vars.now) (Some c.loop-left.place) c.loop-left.invariant.0.there c.as_slice-in-loop-left.ensures.value

pub read_sum-loop-left-preserved : goal.read_sum-loop-left-preserved
read_sum-loop-left-preserved t c =
    let i = c.loop-left.invariant in
    let most = i.2 in
    let some = c.loop-left-test.true in
    let outer = c.args.reader.now.scope.items in
    let long : c.len-outer.result ≡ length outer = search rules in
    let cut : c.truncate.new.self.items ≡ outer ++ take (c.loop-left.left - 1) c.args.vars.now =
    c.truncate.ensures.items
    ∙ ap (λ z. take (c.len-outer.result + (c.loop-left.left - 1)) z) i.1
    ∙ taken_front outer (take c.loop-left.left c.args.vars.now) c.len-outer.result (c.loop-left.left - 1) long
    ∙ ap (λ z. outer ++ z) (taken_again (c.loop-left.left - 1) c.loop-left.left c.args.vars.now (omega arith)) in (
      sum_on c.args.source.sig.now c.args.source.pool.now.trees (definitions_in c.args.source) (places_in c.args.reader.now) (places_in c.loop-left.reader) (places_in c.push.new.reader) c.args.reader.now.reached.keys c.loop-left.reader.reached.keys c.push.new.reader.reached.keys outer c.args.vars.now c.truncate.new.self.items c.args.rest c.loop-left.left _ c.loop-left.place c.in_ok-place-2.place c.in_ok-needed.needed.keys c.add_params.new.set.keys
          i.0 some most cut c.requires.rest (needed_items c.args.source.pool.now.trees [] c.loop-left.reader.places.items c.as_slice.result.now c.args.rest c.in_ok-needed.needed.keys c.as_slice.ensures.value c.in_ok-needed.ensures)
          (params_items c.loop-left.reader.places.items c.as_slice-in-loop-left.result.now c.loop-left.place c.in_ok-needed.needed.keys c.add_params.new.set.keys c.as_slice-in-loop-left.ensures.value c.in_ok-add_params.ensures) c.in_ok-place-2.ensures.reached c.in_ok-place-2.ensures.pushed,
      c.in_ok-place-2.ensures.scope ∙ cut,
      omega (arith, most),
      sum_before c.args.source.pool.now.trees (places_in c.args.reader.now) (places_in c.loop-left.reader) (places_in c.push.new.reader) c.args.reader.now.reached.keys c.loop-left.reader.reached.keys c.push.new.reader.reached.keys outer c.truncate.new.self.items c.in_ok-needed.needed.keys c.add_params.new.set.keys c.args.vars.now (plain_process c.args.part.now) c.loop-left.left _ c.args.rest c.loop-left.place c.in_ok-place-2.place
          some most (search rules) cut (rest_wider (places_in c.args.reader.now) (places_in c.loop-left.reader) outer outer c.args.rest i.0.places_begin (λ v j. j) c.requires.rest) i.0.there i.3
          (needed_items c.args.source.pool.now.trees [] c.loop-left.reader.places.items c.as_slice.result.now c.args.rest c.in_ok-needed.needed.keys c.as_slice.ensures.value c.in_ok-needed.ensures)
          (params_items c.loop-left.reader.places.items c.as_slice-in-loop-left.result.now c.loop-left.place c.in_ok-needed.needed.keys c.add_params.new.set.keys c.as_slice-in-loop-left.ensures.value c.in_ok-add_params.ensures) c.in_ok-place-2.ensures.reached c.in_ok-place-2.ensures.pushed,
    )

pub read-read_merge-requires : goal.read-read_merge-requires
read-read_merge-requires t c = (
  omega (arith, merged_smaller c.args.process.now c.in-Merge.parts c.as_slice-in-Merge.result.now c.in-Merge.is c.as_slice-in-Merge.ensures.value, c.decreases),
  (
    merge_fits c.args.source.sig.now c.args.source.pool.now.trees (definitions_in c.args.source) c.args.reader.now.scope.items c.args.process.now c.in-Merge.parts c.as_slice-in-Merge.result.now c.in-Merge.is c.as_slice-in-Merge.ensures.value c.requires.fits,
    (c.requires.so_far, c.requires.rest),
  ),
)

pub read_merge-read-requires : goal.read_merge-read-requires
read_merge-read-requires t c =
    let l : 0 < length c.args.parts.now = omega arith in (
      omega (arith, operand_no_larger c.args.parts.now 0 c.index-parts-0.result l c.index-parts-0.is, c.decreases),
      (
        part_fits c.args.source.sig.now c.args.source.pool.now.trees (definitions_in c.args.source) c.args.reader.now.scope.items c.args.parts.now 0 c.index-parts-0.result l c.index-parts-0.is c.requires.fits,
        (c.requires.so_far, c.requires.rest),
      ),
    )

pub read_chain-loop-left-init : goal.read_chain-loop-left-init
read_chain-loop-left-init t c =
    let l : length c.args.parts.now - 1 < length c.args.parts.now = search rules in (
      c.in_ok-place.ensures.read,
      c.in_ok-place.ensures.scope,
      l,
      last_step c.args.source.pool.now.trees (places_in c.args.reader.now) (places_in c.read.new.reader) c.args.reader.now.reached.keys c.read.new.reader.reached.keys c.args.reader.now.scope.items c.args.parts.now (length c.args.parts.now - 1) c.index-parts-left.result c.args.rest c.in_ok-place.place (omega (arith, l)) refl c.index-parts-left.is c.in_ok-place.ensures.reads,
    )

pub read_chain-loop-left-preserved : goal.read_chain-loop-left-preserved
read_chain-loop-left-preserved t c =
    let i = c.loop-left.invariant in
    let most = i.2 in
    let some = c.loop-left-test.true in
    let r = subst (λ l. HasRead c.args.source.sig.now c.args.source.pool.now.trees (definitions_in c.args.source) (places_in c.loop-left.reader) (places_in c.read-in-loop-left.new.reader) c.loop-left.reader.reached.keys c.read-in-loop-left.new.reader.reached.keys l c.in_ok-place-2.place) i.1 c.in_ok-place-2.ensures.read in (
      read_then c.args.source.sig.now c.args.source.pool.now.trees (definitions_in c.args.source) (places_in c.args.reader.now) (places_in c.loop-left.reader) (places_in c.read-in-loop-left.new.reader) c.args.reader.now.reached.keys c.loop-left.reader.reached.keys c.read-in-loop-left.new.reader.reached.keys c.args.reader.now.scope.items c.args.reader.now.scope.items
          c.loop-left.place c.in_ok-place-2.place i.0 r,
      c.in_ok-place-2.ensures.scope ∙ i.1,
      omega (arith, most),
      step_before c.args.source.pool.now.trees (places_in c.args.reader.now) (places_in c.loop-left.reader) (places_in c.read-in-loop-left.new.reader) c.args.reader.now.reached.keys c.loop-left.reader.reached.keys c.read-in-loop-left.new.reader.reached.keys c.args.reader.now.scope.items c.loop-left.reader.scope.items c.args.parts.now c.loop-left.left
          c.index-parts-left-in-loop-left.result c.args.rest c.loop-left.place c.in_ok-place-2.place some most c.index-parts-left-in-loop-left.is i.1 r.places_begin r.reached_begin i.3 c.in_ok-place-2.ensures.reads,
    )

pub read_chain-returns-clause-reads : goal.read_chain-returns-clause-reads
read_chain-returns-clause-reads t c =
    let f = c.loop-left-test.false in
    let z : c.loop-left.left ≡ 0 = omega (arith, f) in
    subst (λ k. ReadsTerm c.args.source.pool.now.trees (places_in c.args.reader.now) (places_in c.loop-left.reader) c.args.reader.now.reached.keys c.loop-left.reader.reached.keys c.args.reader.now.scope.items (steps_from c.args.source.pool.now.trees c.args.parts.now k) c.args.rest c.loop-left.place) z c.loop-left.invariant.3

pub read_sum-loop-left-init : goal.read_sum-loop-left-init
read_sum-loop-left-init t c =
    let scope = c.args.reader.now.scope.items in
    let vars = c.args.vars.now in
    let same : c.extend_from_slice.new.self.items ≡ scope ++ take (length vars) vars = c.in_ok-extend_from_slice.ensures.items ∙ ap (λ z. scope ++ z) (sym (take_all (length vars) vars (omega arith))) in (
      subst (λ l. HasRead c.args.source.sig.now c.args.source.pool.now.trees (definitions_in c.args.source) (places_in c.args.reader.now) (places_in c.read.new.reader) c.args.reader.now.reached.keys c.read.new.reader.reached.keys l c.in_ok-place.place) same c.in_ok-place.ensures.read,
      c.in_ok-place.ensures.scope ∙ same,
      omega arith,
      subst (λ xs. ReadsTerm c.args.source.pool.now.trees (places_in c.args.reader.now) (places_in c.read.new.reader) c.args.reader.now.reached.keys c.read.new.reader.reached.keys (scope ++ take (length vars) vars) (sum xs (plain_process c.args.part.now)) c.args.rest c.in_ok-place.place) (sym (drop_all vars (length vars) (omega arith)))
          (subst (λ l. ReadsTerm c.args.source.pool.now.trees (places_in c.args.reader.now) (places_in c.read.new.reader) c.args.reader.now.reached.keys c.read.new.reader.reached.keys l (sum [] (plain_process c.args.part.now)) c.args.rest c.in_ok-place.place) same c.in_ok-place.ensures.reads),
    )

pub read_sum-returns-clause-reads : goal.read_sum-returns-clause-reads
read_sum-returns-clause-reads t c =
    let f = c.loop-left-test.false in
    let z : c.loop-left.left ≡ 0 = omega (arith, f) in
    let scope = c.args.reader.now.scope.items in
    let here : ReadsTerm c.args.source.pool.now.trees (places_in c.args.reader.now) (places_in c.loop-left.reader) c.args.reader.now.reached.keys c.loop-left.reader.reached.keys (scope ++ take 0 c.args.vars.now) (sum (drop 0 c.args.vars.now) (plain_process c.args.part.now)) c.args.rest c.loop-left.place =
    subst (λ k. ReadsTerm c.args.source.pool.now.trees (places_in c.args.reader.now) (places_in c.loop-left.reader) c.args.reader.now.reached.keys c.loop-left.reader.reached.keys (scope ++ take k c.args.vars.now) (sum (drop k c.args.vars.now) (plain_process c.args.part.now)) c.args.rest c.loop-left.place) z c.loop-left.invariant.3 in
    subst (λ l. ReadsTerm c.args.source.pool.now.trees (places_in c.args.reader.now) (places_in c.loop-left.reader) c.args.reader.now.reached.keys c.loop-left.reader.reached.keys l (sum c.args.vars.now (plain_process c.args.part.now)) c.args.rest c.loop-left.place) (append-nil scope) here

pub read_merge-returns-clause-reads : goal.read_merge-returns-clause-reads
read_merge-returns-clause-reads t c =
    merge_reads c.args.source.pool.now.trees c.read_delta.result (places_in c.args.reader.now) (places_in c.read_delta.new.reader) c.args.reader.now.reached.keys c.read_delta.new.reader.reached.keys c.args.reader.now.scope.items c.args.rest (map plain_process c.args.parts.now)
    (λ one. let l = length-map c.args.parts.now plain_process in c.if-parts-eq1.false (omega (arith, one, l)))
    c.read_delta.ensures.reads

pub read-read_sync-requires : goal.read-read_sync-requires
read-read_sync-requires t c = (
  omega (arith, synced_smaller c.args.process.now c.in-Sync.parts c.as_slice-in-Sync.result.now c.in-Sync.is c.as_slice-in-Sync.ensures.value, c.decreases),
  (
    sync_fits c.args.source.sig.now c.args.source.pool.now.trees (definitions_in c.args.source) c.args.reader.now.scope.items c.args.process.now c.in-Sync.parts c.as_slice-in-Sync.result.now c.in-Sync.is c.as_slice-in-Sync.ensures.value c.requires.fits,
    (c.requires.so_far, c.requires.rest),
  ),
)

pub read_sync-read-requires : goal.read_sync-read-requires
read_sync-read-requires t c =
    let l : 0 < length c.args.parts.now = omega arith in (
      omega (arith, operand_no_larger c.args.parts.now 0 c.index-parts-0.result l c.index-parts-0.is, c.decreases),
      (
        part_fits c.args.source.sig.now c.args.source.pool.now.trees (definitions_in c.args.source) c.args.reader.now.scope.items c.args.parts.now 0 c.index-parts-0.result l c.index-parts-0.is c.requires.fits,
        (c.requires.so_far, c.requires.rest),
      ),
    )

pub read_sync-returns-clause-reads : goal.read_sync-returns-clause-reads
read_sync-returns-clause-reads t c =
    sync_reads c.args.source.pool.now.trees c.read_delta.result (places_in c.args.reader.now) (places_in c.read_delta.new.reader) c.args.reader.now.reached.keys c.read_delta.new.reader.reached.keys c.args.reader.now.scope.items c.args.rest (map plain_process c.args.parts.now)
    (λ one. let l = length-map c.args.parts.now plain_process in c.if-parts-eq1.false (omega (arith, one, l)))
    c.read_delta.ensures.reads
