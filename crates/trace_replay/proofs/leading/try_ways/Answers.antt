use Rattle.std.proofs.Common.{◌≡◌, ◌∙◌, ◌<◌, List, map, length, refl, sym, subst, arith}
use Rattle.std.specs.List.{All}
use Rattle.data_theory.specs.declared.ids.TermId.{TermId}
use Rattle.std.proofs.lemmas.List.{take_all}
use Rattle.data_rewriter.specs.Standing.{term_at, IsTerm}
use Rattle.process_terms.specs.SignatureEntries.{entries_of}
use Rattle.lps_core.specs.PlainLinears.{plain_linear, plain_summand, linear_of, summand_of}
use Rattle.lps_simulator.proofs.Bindings.{terms_stay}
use Rattle.lps_simulator.proofs.SessionLemmas.{linear_stays}
use Rattle.trace_replay.specs.declared.ways.Way.{Way}
use Rattle.trace_replay.specs.Attempts.{AreTried, OfSummand}
use Rattle.trace_replay.specs.DecidedConditions.{setting}
use Rattle.trace_replay.specs.States.{meant_states}
use Rattle.trace_replay.specs.Ways.{plain_way, OfWays}
use Rattle.trace_replay.proofs.Keepings.{keeps_itself, keeps_then, known_on}
use Rattle.trace_replay.proofs.TriedWays.{summand_among, way_stands, way_turn, ways_none}
use Rattle.trace_replay.proofs.leading.try_ways.Goals as goal

pub loop-way-init : goal.loop-way-init
loop-way-init g c = record {
  kept = keeps_itself c.args.sig.now c.args.pool.now.trees c.args.rewriter.now;
  states = c.requires.states;
  tried = λ own h.
      ways_none c.args.sig.now c.args.pool.now.trees (setting c.args.sig.now own c.args.fuel c.args.bound) (linear_of (entries_of c.args.sig.now c.args.pool.now.trees) (plain_linear c.args.lin.now)) (map (term_at c.args.sig.now c.args.pool.now.trees) c.args.state.now) (meant_states c.args.sig.now c.args.pool.now.trees c.args.to.now);
}

pub try_summand-requires-clause-known : goal.try_summand-requires-clause-known
try_summand-requires-clause-known g c = known_on c.args.sig.now c.args.pool.now.trees c.loop-way.pool.trees c.args.rewriter.now c.loop-way.rewriter c.loop-way.invariant.kept c.requires.known

pub try_summand-requires-clause-rules : goal.try_summand-requires-clause-rules
try_summand-requires-clause-rules g c = rw c.loop-way.invariant.kept.rules c.requires.rules

pub try_summand-requires-clause-lin : goal.try_summand-requires-clause-lin
try_summand-requires-clause-lin g c = linear_stays c.args.sig.now c.signature_stands.ensures c.args.pool.now.trees c.loop-way.pool.trees (plain_linear c.args.lin.now) c.loop-way.invariant.kept.pool c.requires.lin

pub try_summand-requires-clause-state : goal.try_summand-requires-clause-state
try_summand-requires-clause-state g c = terms_stay c.args.sig.now c.args.pool.now.trees c.loop-way.pool.trees c.args.state.now c.loop-way.invariant.kept.pool c.requires.state

pub try_summand-requires-clause-states : goal.try_summand-requires-clause-states
try_summand-requires-clause-states g c = c.loop-way.invariant.states

pub returns-in_err-is_open-clause-kept : goal.returns-in_err-is_open-clause-kept
returns-in_err-is_open-clause-kept g c = keeps_then c.args.sig.now c.args.pool.now.trees c.loop-way.pool.trees c.try_summand.new.pool.trees c.args.rewriter.now c.loop-way.rewriter c.try_summand.new.rewriter c.loop-way.invariant.kept c.try_summand.ensures.kept

pub returns-clause-tried : goal.returns-clause-tried
returns-clause-tried g c = λ own h.
    subst (λ (z : List Way). AreTried (setting c.args.sig.now own c.args.fuel c.args.bound) (OfWays c.args.sig.now c.args.pool.now.trees (setting c.args.sig.now own c.args.fuel c.args.bound) (linear_of (entries_of c.args.sig.now c.args.pool.now.trees) (plain_linear c.args.lin.now)) (map (term_at c.args.sig.now c.args.pool.now.trees) c.args.state.now) (map plain_way z)) (meant_states c.args.sig.now c.args.pool.now.trees c.args.to.now) (meant_states c.args.sig.now c.loop-way.pool.trees c.loop-way.to) c.loop-way.doubt)
    (take_all c.loop-way.way-index c.args.ways.now c.loop-way-test.false) (c.loop-way.invariant.tried own h)

pub index-summand-requires : goal.index-summand-requires
index-summand-requires g c = let h : c.way-item.result.summand < length c.args.lin.now.summands.items = (way_stands c.args.sig.now c.args.pool.now.trees c.args.lin.now.summands.items c.args.ways.now c.loop-way.way-index c.way-item.result c.loop-way-test.true c.way-item.is c.requires.ways).number in omega (arith, h, c.args.lin.now.summands.ok.0)

pub try_summand-requires-clause-summand : goal.try_summand-requires-clause-summand
try_summand-requires-clause-summand g c =
    summand_among (plain_linear c.args.lin.now) c.args.lin.now.summands.items c.way-item.result.summand c.index-summand.result.now refl (way_stands c.args.sig.now c.args.pool.now.trees c.args.lin.now.summands.items c.args.ways.now c.loop-way.way-index c.way-item.result c.loop-way-test.true c.way-item.is c.requires.ways).number c.index-summand.ensures

pub try_summand-requires-clause-conditions : goal.try_summand-requires-clause-conditions
try_summand-requires-clause-conditions g c =
    subst (λ (ids : List TermId). All (IsTerm c.args.sig.now c.loop-way.pool.trees) ids) (sym c.as_slice-conditions.ensures.value)
    (terms_stay c.args.sig.now c.args.pool.now.trees c.loop-way.pool.trees c.way-item.result.conditions.items c.loop-way.invariant.kept.pool (way_stands c.args.sig.now c.args.pool.now.trees c.args.lin.now.summands.items c.args.ways.now c.loop-way.way-index c.way-item.result c.loop-way-test.true c.way-item.is c.requires.ways).over)

pub loop-way-preserved : goal.loop-way-preserved
loop-way-preserved g c = record {
  kept = keeps_then c.args.sig.now c.args.pool.now.trees c.loop-way.pool.trees c.try_summand.new.pool.trees c.args.rewriter.now c.loop-way.rewriter c.try_summand.new.rewriter c.loop-way.invariant.kept c.try_summand.ensures.kept;
  states = c.in_ok-is_open.ensures.states;
  tried = λ own h.
      way_turn c.args.sig.now c.signature_stands.ensures own c.args.fuel c.args.bound c.args.pool.now.trees c.loop-way.pool.trees c.loop-way.invariant.kept.pool (plain_linear c.args.lin.now) c.requires.lin c.args.lin.now.summands.items refl c.args.state.now c.requires.state
      c.args.ways.now c.loop-way.way-index c.way-item.result c.loop-way-test.true c.way-item.is c.requires.ways c.index-summand.result.now c.index-summand.ensures
      (meant_states c.args.sig.now c.args.pool.now.trees c.args.to.now) (meant_states c.args.sig.now c.loop-way.pool.trees c.loop-way.to) (meant_states c.args.sig.now c.try_summand.new.pool.trees c.try_summand.new.to) c.loop-way.doubt c.in_ok-is_open.is_open c.either-doubt.result c.either-doubt.ensures
      (c.loop-way.invariant.tried own h)
      (subst (λ (ids : List TermId). AreTried (setting c.args.sig.now own c.args.fuel c.args.bound)
      (OfSummand (setting c.args.sig.now own c.args.fuel c.args.bound) (linear_of (entries_of c.args.sig.now c.loop-way.pool.trees) (plain_linear c.args.lin.now)) (summand_of (entries_of c.args.sig.now c.loop-way.pool.trees) (plain_summand c.index-summand.result.now)) (map (term_at c.args.sig.now c.loop-way.pool.trees) c.args.state.now) (map (term_at c.args.sig.now c.loop-way.pool.trees) ids))
      (meant_states c.args.sig.now c.loop-way.pool.trees c.loop-way.to) (meant_states c.args.sig.now c.try_summand.new.pool.trees c.try_summand.new.to) c.in_ok-is_open.is_open) c.as_slice-conditions.ensures.value
      (c.in_ok-is_open.ensures.tried own (c.loop-way.invariant.kept.fits own h)));
}
