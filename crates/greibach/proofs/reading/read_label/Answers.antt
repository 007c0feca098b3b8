use Rattle.std.proofs.Common.{◌∙◌, map, sym, subst, inl}
use Rattle.term_pool.specs.HeadTrees.{AreIn}
use Rattle.process_terms.specs.PlainProcesses.{plain_label}
use Rattle.greibach.specs.PlacesInCode.{act, plain_place}
use Rattle.greibach.specs.OccurringVariables.{label_terms}
use Rattle.greibach.specs.Readings.{definitions_in, places_in, AreNeeded}
use Rattle.greibach.proofs.ReadPlaces.{placed, needed_items, label_within, label_narrowed, rest_in_items}
use Rattle.greibach.proofs.ReadTables.{act_reads}
use Rattle.greibach.proofs.reading.read_label.Goals as goal

pub needed_for-requires-clause-within : goal.needed_for-requires-clause-within
needed_for-requires-clause-within c =
    subst (AreIn c.args.source.pool.now.trees) (sym (c.as_slice-2.ensures.value ∙ c.in_ok-terms.ensures))
    (label_within c.args.source.sig.now c.args.source.pool.now.trees c.requires.fits.variables (plain_label c.args.label.now) c.requires.fits.fits)

pub needed_for-requires-clause-there : goal.needed_for-requires-clause-there
needed_for-requires-clause-there c = rest_in_items c.args.reader.now.places.items c.as_slice.result.now c.args.reader.now.scope.items c.args.rest c.requires.rest c.as_slice.ensures.value

pub returns-clause-read : goal.returns-clause-read
returns-clause-read c =
    let terms = label_terms (plain_label c.args.label.now) in
    let needed : AreNeeded c.args.source.pool.now.trees terms (places_in c.args.reader.now) c.args.rest c.in_ok-needed.needed.keys =
    needed_items c.args.source.pool.now.trees terms c.args.reader.now.places.items c.as_slice.result.now c.args.rest c.in_ok-needed.needed.keys c.as_slice.ensures.value
    (subst (λ l. AreNeeded c.args.source.pool.now.trees l (map plain_place c.as_slice.result.now) c.args.rest c.in_ok-needed.needed.keys) (c.as_slice-2.ensures.value ∙ c.in_ok-terms.ensures) c.in_ok-needed.ensures) in
    placed c.args.source.sig.now c.args.source.pool.now.trees (definitions_in c.args.source) (places_in c.args.reader.now) c.push.result c.args.reader.now.reached.keys c.push.new.reader.reached.keys c.args.reader.now.scope.items c.in_ok-needed.needed.keys (act (plain_label c.args.label.now)) c.args.rest terms (places_in c.push.new.reader)
    c.requires.so_far c.push.ensures.reached c.requires.rest needed
    (label_narrowed c.args.source.sig.now c.args.source.pool.now.trees c.requires.fits.variables c.args.reader.now.scope.items c.in_ok-needed.needed.keys c.requires.fits.among (plain_label c.args.label.now) (λ v i. (needed v).1 (inl i)) c.requires.fits.fits) c.push.ensures.pushed

pub returns-clause-reads : goal.returns-clause-reads
returns-clause-reads c =
    let terms = label_terms (plain_label c.args.label.now) in
    let needed : AreNeeded c.args.source.pool.now.trees terms (places_in c.args.reader.now) c.args.rest c.in_ok-needed.needed.keys =
    needed_items c.args.source.pool.now.trees terms c.args.reader.now.places.items c.as_slice.result.now c.args.rest c.in_ok-needed.needed.keys c.as_slice.ensures.value
    (subst (λ l. AreNeeded c.args.source.pool.now.trees l (map plain_place c.as_slice.result.now) c.args.rest c.in_ok-needed.needed.keys) (c.as_slice-2.ensures.value ∙ c.in_ok-terms.ensures) c.in_ok-needed.ensures) in
    act_reads c.args.source.pool.now.trees (places_in c.args.reader.now) c.push.result c.args.reader.now.reached.keys c.push.new.reader.reached.keys c.args.reader.now.scope.items c.in_ok-needed.needed.keys (plain_label c.args.label.now) c.args.rest (places_in c.push.new.reader) c.push.ensures.reached c.requires.rest needed (label_within c.args.source.sig.now c.args.source.pool.now.trees c.requires.fits.variables (plain_label c.args.label.now) c.requires.fits.fits) c.push.ensures.pushed
