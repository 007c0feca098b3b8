use Rattle.std.proofs.Common.{◌≡◌, ◌∙◌, List, get_or, refl, sym, subst}
use Rattle.std.proofs.lemmas.List.Elements.{All-get_or}
use Rattle.data_theory.specs.declared.ids.TermId.{TermId}
use Rattle.data_theory.specs.IdData.{data_meant}
use Rattle.data_theory.specs.Rewriting.{IsDecided}
use Rattle.data_rewriter.specs.Standing.{IsTerm}
use Rattle.lps_core.proofs.PoolTrees.{extends_on}
use Rattle.lps_simulator.specs.LeadingParts.{instance_at, GoesToTrue, GoesToFalse}
use Rattle.lps_simulator.specs.Rewritten.{decision_of}
use Rattle.lps_simulator.proofs.DroppedCombinations.{instance_kept}
use Rattle.lps_simulator.proofs.FalseChains.{true_more, fails_at}
use Rattle.lps_simulator.proofs.rewriting.failing_part.Goals as goal

pub loop-place-preserved : goal.loop-place-preserved
loop-place-preserved g c =
    let inv = c.loop-place.invariant in
    let part : TermId = get_or c.args.parts.now c.loop-place.place (record { 0 = 0 }) in
    record {
      kept = extends_on c.args.pool.now.trees c.loop-place.pool.trees c.decide_left.new.pool.trees inv.kept c.decide_left.ensures.kept;
      rules = c.decide_left.ensures.rules ∙ inv.rules;
      fits = λ own h. c.decide_left.ensures.fits own (inv.fits own h);
      hold = λ own h.
          true_more (data_meant c.args.sig.now) own (instance_at c.args.sig.now c.args.pool.now.trees c.args.by.now) c.args.parts.now c.loop-place.place (record { 0 = 0 }) c.loop-place-test.true (inv.hold own h)
          (subst (GoesToTrue (data_meant c.args.sig.now) own) (instance_kept c.args.sig.now c.args.pool.now.trees c.loop-place.pool.trees c.args.by.now part inv.kept c.requires.listed (All-get_or (IsTerm c.args.sig.now c.args.pool.now.trees) c.args.parts.now c.loop-place.place (record { 0 = 0 }) c.loop-place-test.true c.requires.parts).inside)
          (subst (λ z. IsDecided (data_meant c.args.sig.now) own c.loop-place.left (instance_at c.args.sig.now c.loop-place.pool.trees c.args.by.now part) (decision_of z)) c.in-Yes.is (c.in_ok-truth.ensures.decided own (inv.fits own h))));
    }

pub returns-in-No-clause-fails : goal.returns-in-No-clause-fails
returns-in-No-clause-fails g c = λ own h.
    let inv = c.loop-place.invariant in
    let part : TermId = get_or c.args.parts.now c.loop-place.place (record { 0 = 0 }) in
    fails_at (data_meant c.args.sig.now) own (instance_at c.args.sig.now c.args.pool.now.trees c.args.by.now) c.args.parts.now c.loop-place.place (record { 0 = 0 }) c.loop-place-test.true (inv.hold own h)
    (subst (GoesToFalse (data_meant c.args.sig.now) own) (instance_kept c.args.sig.now c.args.pool.now.trees c.loop-place.pool.trees c.args.by.now part inv.kept c.requires.listed (All-get_or (IsTerm c.args.sig.now c.args.pool.now.trees) c.args.parts.now c.loop-place.place (record { 0 = 0 }) c.loop-place-test.true c.requires.parts).inside)
    (subst (λ z. IsDecided (data_meant c.args.sig.now) own c.loop-place.left (instance_at c.args.sig.now c.loop-place.pool.trees c.args.by.now part) (decision_of z)) c.in-No.is (c.in_ok-truth.ensures.decided own (inv.fits own h))))
