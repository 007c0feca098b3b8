use Rattle.std.proofs.Common.{[], refl}
use Rattle.data_theory.specs.Keys.{key}
use Rattle.lps_core.proofs.DoneSealing.{ending_done}
use Rattle.lps_core.proofs.sealing.seal_ending.Goals as goal

pub add_phase-requires : goal.add_phase-requires
add_phase-requires c = λ a. c.requires.absent a.0 (key a.0 []) a.1 a.2 refl

pub returns-clause-done : goal.returns-clause-done
returns-clause-done c =
    ending_done c.args.sig.now c.add_phase.new.sig c.args.pool.now.trees c.all_sealed.new.pool.trees c.numeral.new.pool.trees _ _ c.in_ok-act.act c.in_ok-act.phase c.requires.ends c.signature_stands.ensures c.signature_stands-2.ensures c.add_phase.ensures.grown c.all_sealed.ensures.kept c.numeral.ensures.kept
    c.requires.fits c.in_ok-act.ensures.phase c.in_ok-push.ensures.items c.in_ok-first.first c.in_ok-push-2.ensures.items c.in_ok-first.ensures.within c.in_ok-first.ensures.tree c.in_ok-summands.ensures.sealed
