use Rattle.std.proofs.Common.{rules, arith}
use Rattle.eqn_check.specs.declared.filled.FilledTerm.{FilledTerm}
use Rattle.eqn_check.specs.ExcludedPairs.{CantHoldWith}
use Rattle.eqn_check.proofs.ExcludedPairLemmas.{found_here, none_so_far, one_cant, none_cant}
use Rattle.eqn_check.proofs.exclusion.cant_all_hold.Goals as goal

pub loop-i-init : goal.loop-i-init
loop-i-init c j u l = absurd (omega (arith, l))

pub returns-then-cant : goal.returns-then-cant
returns-then-cant c =
    one_cant c.args.sig.now c.args.pool.now.trees c.args.opposites.now c.args.parts.now _
    (found_here (λ (u : FilledTerm). CantHoldWith c.args.sig.now c.args.pool.now.trees c.args.opposites.now u c.args.parts.now)
    c.args.parts.now c.loop-i.i _ c.loop-i-test.true (search rules) c.in_ok-cant.cant c.in_ok-cant.ensures c.if-cant.true)

pub loop-i-preserved : goal.loop-i-preserved
loop-i-preserved c =
    none_so_far (λ (u : FilledTerm). CantHoldWith c.args.sig.now c.args.pool.now.trees c.args.opposites.now u c.args.parts.now)
    c.args.parts.now c.loop-i.i _ c.loop-i-test.true (search rules) c.in_ok-cant.cant c.in_ok-cant.ensures c.if-cant.false c.loop-i.invariant

pub returns : goal.returns
returns c =
    none_cant c.args.sig.now c.args.pool.now.trees c.args.opposites.now c.args.parts.now c.loop-i.i (let l = c.loop-i-test.false in search (rules, arith, l)) c.loop-i.invariant
