use Rattle.std.proofs.Common.{◌≡◌, ◌++◌, ◌∷◌, [], None, Some, refl, sym, subst}
use Rattle.std.specs.Prelude.{slice_get}
use Rattle.std.specs.List.{All}
use Rattle.data_theory.proofs.PlaceLemmas.{read_last}
use Rattle.lps_core.specs.Fitting.{IsVariable}
use Rattle.process_terms.specs.PlainProcesses.{plain_process}
use Rattle.proc_unfold.specs.FittingModels.{ProcessFits}
use Rattle.greibach.specs.PlacesInCode.{whole, PlainPlace}
use Rattle.greibach.specs.FittingPlaces.{ReadsFittingly}
use Rattle.greibach.specs.Readings.{definitions_in, places_in}
use Rattle.greibach.specs.TablesRead.{ReadsWhole}
use Rattle.greibach.proofs.reading.read_definition.Goals as goal

pub read_whole-requires-clause-params : goal.read_whole-requires-clause-params
read_whole-requires-clause-params c = subst (All (IsVariable c.args.source.sig.now)) (sym c.as_slice-params.ensures.value) c.requires.definition.params

pub read_whole-requires-clause-fits : goal.read_whole-requires-clause-fits
read_whole-requires-clause-fits c = subst (λ l. ProcessFits c.args.source.sig.now c.args.source.pool.now.trees (definitions_in c.args.source) l (plain_process c.args.definition.now.body)) (sym c.as_slice-params.ensures.value) c.requires.definition.body

pub returns-clause-read : goal.returns-clause-read
returns-clause-read c =
    let own = c.as_slice-params.ensures.value in
    let r = c.in_ok-place.ensures.read in
    let w = c.in_ok-place.ensures.whole in
    let p : PlainPlace = record { part = whole w.begins; rest = None; params = c.as_slice-params.result.now } in
    record {
      places_begin = r.places_begin;
      reached_begin = r.reached_begin;
      reading = subst (λ l. ReadsFittingly c.args.source.sig.now c.args.source.pool.now.trees (definitions_in c.args.source) (places_in c.read_whole.new.reader) c.read_whole.new.reader.reached.keys l) (sym c.in_ok-place.ensures.scope) r.fits;
      process = refl;
      params = own;
      place = p;
      at = subst (λ l. slice_get l c.in_ok-place.place ≡ Some p) (sym w.is) (subst (λ n. slice_get (w.mid ++ p ∷ []) n ≡ Some p) (sym w.at) (read_last w.mid p));
      all = refl;
    }

pub returns-clause-whole : goal.returns-clause-whole
returns-clause-whole c = subst (λ l. ReadsWhole c.args.source.pool.now.trees (places_in c.args.reader.now) (places_in c.read_whole.new.reader) c.args.reader.now.reached.keys c.read_whole.new.reader.reached.keys l (plain_process c.args.definition.now.body) c.in_ok-place.place) c.as_slice-params.ensures.value c.in_ok-place.ensures.whole
