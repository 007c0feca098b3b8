use Rattle.std.proofs.Common.{[]}
use Rattle.greibach.specs.PlacesInCode.{delta}
use Rattle.greibach.specs.Readings.{definitions_in, places_in}
use Rattle.greibach.proofs.ReadPlaces.{placed, needed_items}
use Rattle.greibach.proofs.ReadTables.{delta_reads}
use Rattle.greibach.proofs.reading.read_delta.Goals as goal

pub returns-clause-read : goal.returns-clause-read
returns-clause-read c =
    placed c.args.source.sig.now c.args.source.pool.now.trees (definitions_in c.args.source) (places_in c.args.reader.now) c.push.result c.args.reader.now.reached.keys c.push.new.reader.reached.keys c.args.reader.now.scope.items c.in_ok-needed.needed.keys delta c.args.rest [] (places_in c.push.new.reader)
    c.requires.so_far c.push.ensures.reached c.requires.rest (needed_items c.args.source.pool.now.trees [] c.args.reader.now.places.items c.as_slice.result.now c.args.rest c.in_ok-needed.needed.keys c.as_slice.ensures.value c.in_ok-needed.ensures) tt c.push.ensures.pushed

pub returns-clause-reads : goal.returns-clause-reads
returns-clause-reads c =
    delta_reads c.args.source.pool.now.trees (places_in c.args.reader.now) c.push.result c.args.reader.now.reached.keys c.push.new.reader.reached.keys c.args.reader.now.scope.items c.in_ok-needed.needed.keys c.args.rest (places_in c.push.new.reader) c.push.ensures.reached c.requires.rest
    (needed_items c.args.source.pool.now.trees [] c.args.reader.now.places.items c.as_slice.result.now c.args.rest c.in_ok-needed.needed.keys c.as_slice.ensures.value c.in_ok-needed.ensures) c.push.ensures.pushed
