use Rattle.std.proofs.Common.{◌≡◌, ◌++◌, ◌∷◌, [], ◌∙◌, map, length, None, sym, ap, subst, rules}
use Rattle.std.proofs.lemmas.List.{map-append, length-map}
use Rattle.process_terms.specs.PlainProcesses.{plain_process}
use Rattle.greibach.specs.PlacesInCode.{whole, PlainPlace, plain_place}
use Rattle.greibach.specs.FittingPlaces.{HasRead}
use Rattle.greibach.specs.Readings.{definitions_in, places_in, ReadsTerm}
use Rattle.greibach.proofs.ReadParts.{definition_read}
use Rattle.greibach.proofs.reading.read_whole.Goals as goal

pub returns-clause-read : goal.returns-clause-read
returns-clause-read c =
    let first : c.in_ok-reader.field-0.items ≡ c.args.params.now = search rules in
    let second : c.in_ok-to_vec.field-0.items ≡ c.args.params.now = search rules in
    let p : PlainPlace = record { part = whole c.in_ok-body.body; rest = None; params = c.in_ok-to_vec.field-0.items } in
    let is : map plain_place c.push.new.self.items ≡ places_in c.read.new.reader ++ p ∷ [] = ap (map plain_place) c.in_ok-push.ensures.items ∙ map-append plain_place c.read.new.reader.places.items _ in
    let count : c.len-place.result ≡ length c.read.new.reader.places.items = search rules in
    let long : c.len-place.result ≡ length (places_in c.read.new.reader) = count ∙ sym (length-map c.read.new.reader.places.items plain_place) in
    subst (λ l. HasRead c.args.source.sig.now c.args.source.pool.now.trees (definitions_in c.args.source) (places_in c.args.reader.now) (map plain_place c.push.new.self.items) c.args.reader.now.reached.keys c.read.new.reader.reached.keys l c.len-place.result) first
    (definition_read c.args.source.sig.now c.args.source.pool.now.trees (definitions_in c.args.source) (places_in c.args.reader.now) (places_in c.read.new.reader) (map plain_place c.push.new.self.items) c.args.reader.now.reached.keys c.read.new.reader.reached.keys c.args.params.now
    c.in_ok-reader.field-0.items c.in_ok-to_vec.field-0.items c.in_ok-body.body c.len-place.result first second c.requires.params c.in_ok-body.ensures.read is long)

pub returns-clause-whole : goal.returns-clause-whole
returns-clause-whole c =
    let first : c.in_ok-reader.field-0.items ≡ c.args.params.now = search rules in
    let second : c.in_ok-to_vec.field-0.items ≡ c.args.params.now = search rules in
    let is : map plain_place c.push.new.self.items ≡ places_in c.read.new.reader ++ record { part = whole c.in_ok-body.body; rest = None; params = c.in_ok-to_vec.field-0.items } ∷ [] = ap (map plain_place) c.in_ok-push.ensures.items ∙ map-append plain_place c.read.new.reader.places.items _ in
    let count : c.len-place.result ≡ length c.read.new.reader.places.items = search rules in
    record {
      mid = places_in c.read.new.reader;
      begins = c.in_ok-body.body;
      reads = subst (λ l. ReadsTerm c.args.source.pool.now.trees (places_in c.args.reader.now) (places_in c.read.new.reader) c.args.reader.now.reached.keys c.read.new.reader.reached.keys l (plain_process c.args.process.now) None c.in_ok-body.body) first c.in_ok-body.ensures.reads;
      is = is ∙ ap (λ l. places_in c.read.new.reader ++ record { part = whole c.in_ok-body.body; rest = None; params = l } ∷ []) second;
      at = count ∙ sym (length-map c.read.new.reader.places.items plain_place);
    }
