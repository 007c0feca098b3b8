use Rattle.std.proofs.Common.{◌≡◌, ◌∙◌, ◌<◌, ◌≤◌, ◌++◌, map, length, min, refl, sym, ap, subst, arith}
use Rattle.std.specs.Prelude.{List}
use Rattle.std.specs.List.{All}
use Rattle.std.proofs.lemmas.List.Elements.{All-push}
use Rattle.data_theory.specs.declared.ids.TermId.{TermId}
use Rattle.data_rewriter.specs.Standing.{term_at, IsTerm}
use Rattle.lps_core.proofs.PoolTrees.{extends_itself, extends_on}
use Rattle.lps_simulator.proofs.Bindings.{terms_stay}
use Rattle.trace_replay.proofs.EqualityTerms.{equalities_end, equalities_turn}
use Rattle.trace_replay.proofs.WaysInCode.{min_inside}
use Rattle.trace_replay.proofs.ways.add_term_equalities.Goals as goal

pub loop-index-init : goal.loop-index-init
loop-index-init c = record { kept = extends_itself c.args.pool.now.trees; over = c.requires.conditions; left = refl }

pub returns-in_err-push-clause-kept : goal.returns-in_err-push-clause-kept
returns-in_err-push-clause-kept c = extends_on c.args.pool.now.trees c.loop-index.pool.trees c.equality.new.pool.trees c.loop-index.invariant.kept c.equality.ensures.kept

pub loop-index-preserved : goal.loop-index-preserved
loop-index-preserved c =
    let inside = min_inside (length c.args.sorts.now) (length c.args.firsts.now) (length c.args.seconds.now) c.min-count.result c.loop-index.index (c.min-count.ensures ∙ ap (λ k. min k (length c.args.seconds.now)) c.min.ensures) c.loop-index-test.true in
    record {
      kept = extends_on c.args.pool.now.trees c.loop-index.pool.trees c.equality.new.pool.trees c.loop-index.invariant.kept c.equality.ensures.kept;
      over = subst (λ (ids : List TermId). All (IsTerm c.args.sig.now c.equality.new.pool.trees) ids) (sym c.in_ok-push.ensures.items)
          (All-push (IsTerm c.args.sig.now c.equality.new.pool.trees) c.loop-index.conditions.items c.in_ok-equality.field-0 (terms_stay c.args.sig.now c.loop-index.pool.trees c.equality.new.pool.trees c.loop-index.conditions.items c.equality.ensures.kept c.loop-index.invariant.over) c.in_ok-equality.ensures.means.term);
      left = equalities_turn c.args.sig.now c.args.pool.now.trees c.loop-index.pool.trees c.equality.new.pool.trees c.loop-index.invariant.kept c.equality.ensures.kept c.args.sorts.now c.args.firsts.now c.args.seconds.now c.loop-index.index (record { 0 = 0 }) (record { 0 = 0 }) (record { 0 = 0 }) inside.0 inside.1 inside.2 c.requires.firsts c.requires.seconds
          c.loop-index.conditions.items c.push.new.self.items c.in_ok-equality.field-0 _ c.loop-index.invariant.over c.in_ok-push.ensures.items c.in_ok-equality.ensures.means c.loop-index.invariant.left;
    }

pub returns-clause-added : goal.returns-clause-added
returns-clause-added c =
    equalities_end c.args.sig.now c.args.pool.now.trees c.args.sorts.now c.args.firsts.now c.args.seconds.now c.loop-index.index (subst (λ k. k ≤ c.loop-index.index) (c.min-count.ensures ∙ ap (λ k. min k (length c.args.seconds.now)) c.min.ensures) c.loop-index-test.false)
    (map (term_at c.args.sig.now c.loop-index.pool.trees) c.loop-index.conditions.items) _ c.loop-index.invariant.left
