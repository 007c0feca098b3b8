use Rattle.std.proofs.Common.{◌-◌, ◌+◌, ℕ, sym, subst, arith}
use Rattle.data_theory.specs.Terms.{conjunction}
use Rattle.data_rewriter.specs.Standing.{StandsFor}
use Rattle.term_pool.proofs.NodeTrees.{extends_on}
use Rattle.data_rewriter.proofs.Standings.{stands_still_for}
use Rattle.data_rewriter.proofs.FixedFunctions.{and_at}
use Rattle.data_rewriter.proofs.PlaceEqualities.{starts, here_stands, last_stands, more_stands}
use Rattle.data_rewriter.proofs.making.all_equal.Goals as goal

pub loop-back-init : goal.loop-back-init
loop-back-init c = (
  c.in_ok-all.ensures.kept,
  c.in_ok-all.ensures.inside,
  λ sig ok ss eq xs ys. subst (StandsFor sig c.truth.new.pool.trees c.in_ok-all.all) (sym (starts sig c.args.pool.now.trees c.args.equals.now c.args.xs.now c.args.ys.now ss eq c.least-count.result (c.least-count.result - 0) (omega arith) c.least-count.ensures.one)) (c.in_ok-all.ensures.made sig ok),
)

pub loop-back-preserved-then-are_all : goal.loop-back-preserved-then-are_all
loop-back-preserved-then-are_all c =
    let i : ℕ = c.least-count.result - c.loop-back.back - 1 in
    let at = c.loop-back-test.true in
    let below = c.least-count.ensures.below in
    let l = below.0 in
    let m = below.1 in
    let n = below.2 in
    let all = (c.are_all.ensures).0 c.if-are_all.true in
    let a = all.0 in
    let b = all.1 in
    let d = all.2 in (
      extends_on c.args.pool.now.trees c.loop-back.pool.trees c.two.new.pool.trees c.loop-back.invariant.0 c.in_ok-here.ensures.kept,
      c.in_ok-here.ensures.inside,
      λ sig ok ss eq xs ys. last_stands sig c.args.pool.now.trees c.args.equals.now c.args.xs.now c.args.ys.now ss eq xs ys c.loop-back.pool.trees c.two.new.pool.trees c.loop-back.invariant.0 i (omega (arith, at, l)) (omega (arith, at, m)) (omega (arith, at, n)) (record { 0 = 0 }) (record { 0 = 0 }) c.in_ok-here.here (c.in_ok-here.ensures.made sig ok.table)
          (c.least-count.result - (c.loop-back.back + 1)) (omega (arith, at)) (omega (arith, at, a)) (omega (arith, at, b)) (omega (arith, at, d)),
    )

pub loop-back-preserved : goal.loop-back-preserved
loop-back-preserved c =
    let i : ℕ = c.least-count.result - c.loop-back.back - 1 in
    let at = c.loop-back-test.true in
    let below = c.least-count.ensures.below in
    let l = below.0 in
    let m = below.1 in
    let n = below.2 in
    let k1 = extends_on c.args.pool.now.trees c.loop-back.pool.trees c.two.new.pool.trees c.loop-back.invariant.0 c.in_ok-here.ensures.kept in (
      extends_on c.args.pool.now.trees c.two.new.pool.trees c.two-in-loop-back.new.pool.trees k1 c.in_ok-all-2.ensures.kept,
      c.in_ok-all-2.ensures.inside,
      λ sig ok ss eq xs ys.
          let here = here_stands sig c.args.pool.now.trees c.args.equals.now c.args.xs.now c.args.ys.now ss eq xs ys c.loop-back.pool.trees c.two.new.pool.trees c.loop-back.invariant.0 i (omega (arith, at, l)) (omega (arith, at, m)) (omega (arith, at, n)) (record { 0 = 0 }) (record { 0 = 0 }) c.in_ok-here.here (c.in_ok-here.ensures.made sig ok.table) in
          let rest = stands_still_for sig c.loop-back.pool.trees c.two.new.pool.trees c.in_ok-here.ensures.kept c.loop-back.all _ (c.loop-back.invariant.2 sig ok ss eq xs ys) in
          more_stands sig c.args.pool.now.trees c.args.equals.now c.args.xs.now c.args.ys.now ss eq xs ys c.loop-back.pool.trees c.two.new.pool.trees c.loop-back.invariant.0 i (omega (arith, at, l)) (omega (arith, at, m)) (omega (arith, at, n)) (record { 0 = 0 }) (record { 0 = 0 }) c.in_ok-here.here (c.in_ok-here.ensures.made sig ok.table)
          c.two-in-loop-back.new.pool.trees c.in_ok-all-2.all (c.least-count.result - (c.loop-back.back + 1)) (c.least-count.result - c.loop-back.back) (omega (arith, at)) (omega (arith, at))
          (λ x y z. let t = (c.are_all.ensures).1 (omega (arith, at, x), omega (arith, at, y), omega (arith, at, z)) in let f = c.if-are_all.false in cc)
          (c.in_ok-all-2.ensures.made sig ok.table conjunction _ _ (and_at sig ok) here rest),
    )
