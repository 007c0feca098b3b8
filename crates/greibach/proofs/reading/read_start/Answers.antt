use Rattle.std.proofs.Common.{⊎_elim, None, refl, sym, subst}
use Rattle.std.specs.List.{Contains}
use Rattle.term_pool.proofs.Lists.{contains_none}
use Rattle.std.proofs.lemmas.Option.{slice_get_within}
use Rattle.process_terms.specs.PlainProcesses.{plain_component}
use Rattle.proc_unfold.specs.FittingModels.{ComponentFits}
use Rattle.greibach.specs.Readings.{definitions_in, places_in, HasBegun}
use Rattle.greibach.specs.TablesRead.{Begins}
use Rattle.greibach.proofs.ReadParts.{reached_reading, first_reached}
use Rattle.greibach.proofs.reading.read_start.Goals as goal

pub returns-in_ok-reach-in-Call-clause-so_far : goal.returns-in_ok-reach-in-Call-clause-so_far
returns-in_ok-reach-in-Call-clause-so_far c =
    let fits = subst (λ z. ComponentFits c.args.source.sig.now c.args.source.pool.now.trees (definitions_in c.args.source) (plain_component z)) c.in-Call.is c.requires.fits in
    reached_reading c.args.source.sig.now c.args.source.pool.now.trees (definitions_in c.args.source) (places_in c.args.reader.now) c.args.reader.now.reached.keys c.reach.new.reached.keys c.args.reader.now.scope.items c.in-Call.process c.requires.so_far c.in_ok-reach-in-Call.ensures.begins c.in_ok-reach-in-Call.ensures.only
    (slice_get_within (definitions_in c.args.source) c.in-Call.process.0 fits.definition fits.stands)

pub returns-in_ok-reach-in-Call-clause-begun : goal.returns-in_ok-reach-in-Call-clause-begun
returns-in_ok-reach-in-Call-clause-begun c =
    subst (λ z. HasBegun (places_in c.args.reader.now) c.reach.new.reached.keys (plain_component z) None) (sym c.in-Call.is)
    (refl, first_reached c.args.reader.now.reached.keys c.reach.new.reached.keys c.in-Call.process c.in_ok-reach-in-Call.field-0 c.requires.none c.in_ok-reach-in-Call.ensures.known c.in_ok-reach-in-Call.ensures.only)

pub returns-in_ok-reach-in-Call-clause-begins : goal.returns-in_ok-reach-in-Call-clause-begins
returns-in_ok-reach-in-Call-clause-begins c =
    subst (λ z. Begins c.args.source.pool.now.trees (plain_component z) (places_in c.args.reader.now) c.reach.new.reached.keys None) (sym c.in-Call.is) (
      refl,
      c.requires.places,
      first_reached c.args.reader.now.reached.keys c.reach.new.reached.keys c.in-Call.process c.in_ok-reach-in-Call.field-0 c.requires.none c.in_ok-reach-in-Call.ensures.known c.in_ok-reach-in-Call.ensures.only,
      λ y i. ⊎_elim (λ j. absurd (contains_none y (subst (λ l. Contains l y) c.requires.none j))) (λ e. e) (c.in_ok-reach-in-Call.ensures.only y i),
    )
