use Rattle.greibach.specs.Readings.{definitions_in, places_in}
use Rattle.greibach.proofs.ReadPlaces.{called, needed_items}
use Rattle.greibach.proofs.ReadTables.{call_reads}
use Rattle.greibach.proofs.reading.read_call.Goals as goal

pub returns-clause-read : goal.returns-clause-read
returns-clause-read c =
    called c.args.source.sig.now c.args.source.pool.now.trees (definitions_in c.args.source) (places_in c.args.reader.now) c.push.result c.args.reader.now.reached.keys c.reach.new.reached.keys c.push.new.reader.reached.keys c.args.reader.now.scope.items c.in_ok-needed.needed.keys c.requires.fits.variables
    c.in_ok-number.number c.args.callee c.args.args.now c.args.rest (places_in c.push.new.reader) c.requires.so_far c.in_ok-number.ensures.begins c.in_ok-number.ensures.known c.in_ok-number.ensures.only c.push.ensures.reached c.requires.rest
    (needed_items c.args.source.pool.now.trees c.args.args.now c.args.reader.now.places.items c.as_slice.result.now c.args.rest c.in_ok-needed.needed.keys c.as_slice.ensures.value c.in_ok-needed.ensures) c.requires.fits.among c.requires.fits.fits c.push.ensures.pushed

pub returns-clause-reads : goal.returns-clause-reads
returns-clause-reads c =
    call_reads c.args.source.pool.now.trees (places_in c.args.reader.now) c.push.result c.args.reader.now.reached.keys c.reach.new.reached.keys c.push.new.reader.reached.keys c.args.reader.now.scope.items c.in_ok-needed.needed.keys c.in_ok-number.number c.args.callee c.args.args.now c.args.rest (places_in c.push.new.reader)
    c.in_ok-number.ensures.known c.in_ok-number.ensures.only c.push.ensures.reached c.requires.rest
    (needed_items c.args.source.pool.now.trees c.args.args.now c.args.reader.now.places.items c.as_slice.result.now c.args.rest c.in_ok-needed.needed.keys c.as_slice.ensures.value c.in_ok-needed.ensures) c.requires.fits.fits.args.terms.within c.push.ensures.pushed
