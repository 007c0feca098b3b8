use Rattle.std.proofs.Common.{rules, arith}
use Rattle.eqn_check.specs.declared.filled.FilledTerm.{FilledTerm}
use Rattle.eqn_check.specs.Conditions.{AreContrary}
use Rattle.eqn_check.specs.Fillings.{filled_at}
use Rattle.eqn_check.proofs.Deciding.{either_yes}
use Rattle.eqn_check.proofs.JudgedLemmas.{not_so}
use Rattle.eqn_check.proofs.ExcludedPairLemmas.{found_here, none_so_far, one_contrary, none_contrary}
use Rattle.eqn_check.proofs.exclusion.cant_hold_with.Goals as goal

pub returns-then-wrong : goal.returns-then-wrong
returns-then-wrong c = either_yes c.in_ok-wrong.wrong c.in_ok-wrong.ensures c.if-wrong.true

pub loop-i-init : goal.loop-i-init
loop-i-init c j u l = absurd (omega (arith, l))

pub returns-then-contrary : goal.returns-then-contrary
returns-then-contrary c =
    one_contrary c.args.sig.now c.args.pool.now.trees c.args.opposites.now c.args.part _ c.args.others.now
    (found_here (λ (u : FilledTerm). AreContrary (filled_at c.args.sig.now c.args.pool.now.trees c.args.opposites.now c.args.part) (filled_at c.args.sig.now c.args.pool.now.trees c.args.opposites.now u))
    c.args.others.now c.loop-i.i _ c.loop-i-test.true (search rules) c.in_ok-contrary.contrary c.in_ok-contrary.ensures c.if-contrary.true)

pub loop-i-preserved : goal.loop-i-preserved
loop-i-preserved c =
    none_so_far (λ (u : FilledTerm). AreContrary (filled_at c.args.sig.now c.args.pool.now.trees c.args.opposites.now c.args.part) (filled_at c.args.sig.now c.args.pool.now.trees c.args.opposites.now u))
    c.args.others.now c.loop-i.i _ c.loop-i-test.true (search rules) c.in_ok-contrary.contrary c.in_ok-contrary.ensures c.if-contrary.false c.loop-i.invariant

pub returns : goal.returns
returns c =
    none_contrary c.args.sig.now c.args.pool.now.trees c.args.opposites.now c.args.part c.args.others.now c.loop-i.i (let l = c.loop-i-test.false in search (rules, arith, l))
    (not_so c.in_ok-wrong.wrong c.in_ok-wrong.ensures c.if-wrong.false) c.loop-i.invariant
