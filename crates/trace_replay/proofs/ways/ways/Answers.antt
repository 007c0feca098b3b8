use Rattle.std.proofs.Common.{◌≡◌, ◌∙◌, ◌<◌, ◌+◌, List, [], get_or, length, map, refl, sym, ap, subst}
use Rattle.std.specs.List.{Contains}
use Rattle.process_terms.specs.Labels.{Label}
use Rattle.process_terms.specs.PlainProcesses.{plain_label}
use Rattle.process_terms.specs.SignatureEntries.{entries_of}
use Rattle.lps_core.specs.declared.linears.Summand.{Summand}
use Rattle.lps_core.specs.PlainLinears.{plain_linear, plain_summand, linear_of, summand_of}
use Rattle.lps_core.proofs.PoolTrees.{extends_itself, extends_on}
use Rattle.lps_simulator.proofs.FittingSummands.{fitting_over}
use Rattle.lps_simulator.proofs.SessionLemmas.{linear_stays}
use Rattle.trace_replay.specs.declared.ways.Way.{Way}
use Rattle.trace_replay.specs.Ways.{PlainWay, plain_way, AreWays, summand_at}
use Rattle.trace_replay.proofs.EqualityTerms.{label_stays}
use Rattle.trace_replay.proofs.TriedWays.{linear_kept, summand_among, summand_in}
use Rattle.trace_replay.proofs.WayLemmas.{ways_first, ways_more}
use Rattle.trace_replay.proofs.WaysInCode.{summand_label}
use Rattle.trace_replay.proofs.ways.ways.Goals as goal

pub loop-number-init : goal.loop-number-init
loop-number-init c = record {
  kept = extends_itself c.args.pool.now.trees;
  ways = λ m h.
      subst (λ (z : List Way). AreWays c.args.sig.now c.args.pool.now.trees (linear_of (entries_of c.args.sig.now c.args.pool.now.trees) (plain_linear c.args.lin.now)) m 0 (map plain_way z)) (sym c.new-ways.ensures.items)
      (ways_first c.args.sig.now c.args.pool.now.trees (linear_of (entries_of c.args.sig.now c.args.pool.now.trees) (plain_linear c.args.lin.now)) m);
}

pub add_ways-requires-clause-summand : goal.add_ways-requires-clause-summand
add_ways-requires-clause-summand c =
    let inside : c.loop-number.number < length c.args.lin.now.summands.items = subst (λ (xs : List Summand). c.loop-number.number < length xs) c.deref-summand-items.ensures.value c.loop-number-test.true in
    let is = c.summand-item.is ∙ ap (λ (xs : List Summand). get_or xs c.loop-number.number c.summand-item.result) c.deref-summand-items.ensures.value in
    summand_label c.args.sig.now c.signature_stands.ensures c.loop-number.pool.trees (plain_linear c.args.lin.now) (plain_summand c.summand-item.result)
    (linear_stays c.args.sig.now c.signature_stands.ensures c.args.pool.now.trees c.loop-number.pool.trees (plain_linear c.args.lin.now) c.loop-number.invariant.kept c.requires.lin)
    (summand_among (plain_linear c.args.lin.now) c.args.lin.now.summands.items c.loop-number.number c.summand-item.result refl inside is)

pub add_ways-requires-clause-cond : goal.add_ways-requires-clause-cond
add_ways-requires-clause-cond c =
    let inside : c.loop-number.number < length c.args.lin.now.summands.items = subst (λ (xs : List Summand). c.loop-number.number < length xs) c.deref-summand-items.ensures.value c.loop-number-test.true in
    let is = c.summand-item.is ∙ ap (λ (xs : List Summand). get_or xs c.loop-number.number c.summand-item.result) c.deref-summand-items.ensures.value in
    (fitting_over c.args.sig.now c.signature_stands.ensures c.loop-number.pool.trees (plain_linear c.args.lin.now) (plain_summand c.summand-item.result)
    (linear_stays c.args.sig.now c.signature_stands.ensures c.args.pool.now.trees c.loop-number.pool.trees (plain_linear c.args.lin.now) c.loop-number.invariant.kept c.requires.lin)
    (summand_among (plain_linear c.args.lin.now) c.args.lin.now.summands.items c.loop-number.number c.summand-item.result refl inside is)).condition

pub add_ways-requires-clause-label : goal.add_ways-requires-clause-label
add_ways-requires-clause-label c = let r = c.requires.label in (r.0, label_stays c.args.sig.now c.args.pool.now.trees c.loop-number.pool.trees c.loop-number.invariant.kept (plain_label c.args.label.now) r.0 r.1)

pub loop-number-preserved : goal.loop-number-preserved
loop-number-preserved c =
    let inside : c.loop-number.number < length c.args.lin.now.summands.items = subst (λ (xs : List Summand). c.loop-number.number < length xs) c.deref-summand-items.ensures.value c.loop-number-test.true in
    let is = c.summand-item.is ∙ ap (λ (xs : List Summand). get_or xs c.loop-number.number c.summand-item.result) c.deref-summand-items.ensures.value in
    record {
      kept = extends_on c.args.pool.now.trees c.loop-number.pool.trees c.add_ways.new.pool.trees c.loop-number.invariant.kept c.add_ways.ensures.kept;
      ways = λ m h.
          let l = linear_of (entries_of c.args.sig.now c.args.pool.now.trees) (plain_linear c.args.lin.now) in
          let r = c.in_ok-add_ways.ensures.ways m (label_stays c.args.sig.now c.args.pool.now.trees c.loop-number.pool.trees c.loop-number.invariant.kept (plain_label c.args.label.now) m h) in
          subst (λ (z : List PlainWay). AreWays c.args.sig.now c.add_ways.new.pool.trees l m (c.loop-number.number + 1) z) (sym r.1.0)
          (ways_more c.args.sig.now c.loop-number.pool.trees c.add_ways.new.pool.trees c.add_ways.ensures.kept l m c.loop-number.number (map plain_way c.loop-number.ways.items) r.0 (summand_of (entries_of c.args.sig.now c.loop-number.pool.trees) (plain_summand c.summand-item.result))
          (summand_in c.args.sig.now c.loop-number.pool.trees (plain_linear c.args.lin.now) c.args.lin.now.summands.items c.loop-number.number c.summand-item.result refl inside is
          ∙ ap (λ z. summand_at z c.loop-number.number) (linear_kept c.args.sig.now c.signature_stands.ensures c.args.pool.now.trees c.loop-number.pool.trees (plain_linear c.args.lin.now) c.loop-number.invariant.kept c.requires.lin))
          (c.loop-number.invariant.ways m h) r.1.1);
    }
