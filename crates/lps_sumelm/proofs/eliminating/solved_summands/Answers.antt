use Rattle.std.proofs.Common.{◌+◌, ◌∷◌, [], map, take, sym, subst}
use Rattle.std.specs.List.{All, AllZip}
use Rattle.std.proofs.lemmas.List.{map-append}
use Rattle.std.proofs.lemmas.List.Elements.{All-push}
use Rattle.lps_core.specs.PlainLinears.{plain_linear, plain_summand}
use Rattle.lps_core.proofs.PoolTrees.{extends_on}
use Rattle.lps_sumelm.specs.Simplified.{IsAnswer}
use Rattle.lps_sumelm.specs.Solving.{IsSolvedSummand}
use Rattle.lps_sumelm.specs.SummandsInCode.{summand_at, SummandStands}
use Rattle.lps_sumelm.proofs.SimplifiedInCode.{same_on, mapped_item}
use Rattle.lps_sumelm.proofs.StandingSummands.{stands_still}
use Rattle.lps_sumelm.proofs.WholeProcess.{all_stand, solved_more, all_still}
use Rattle.lps_sumelm.proofs.eliminating.solved_summands.Goals as goal

pub solved_summand-requires-clause-stands : goal.solved_summand-requires-clause-stands
solved_summand-requires-clause-stands g c =
    let sig = c.args.sig.now in
    let stands = c.signature_stands.ensures in
    let ts = c.args.pool.now.trees in
    let us = c.loop-summand.pool.trees in
    let ps = (plain_linear c.args.lin.now).params in
    let inv = c.loop-summand.invariant in
    let items = c.deref-summand-items.result.now in
    let item = c.summand-item.result in
    let stand = mapped_item plain_summand (SummandStands sig ts ps) items c.loop-summand.summand-index item item c.loop-summand-test.true c.summand-item.is
    (subst (λ z. All (SummandStands sig ts ps) (map plain_summand z)) (sym c.deref-summand-items.ensures.value) (all_stand sig stands ts (plain_linear c.args.lin.now) c.requires.fits)) in
    (ps, stands_still sig ts us inv.kept ps (plain_summand item) stand)

pub loop-summand-preserved : goal.loop-summand-preserved
loop-summand-preserved g c =
    let sig = c.args.sig.now in
    let stands = c.signature_stands.ensures in
    let ts = c.args.pool.now.trees in
    let us = c.loop-summand.pool.trees in
    let ps = (plain_linear c.args.lin.now).params in
    let inv = c.loop-summand.invariant in
    let items = c.deref-summand-items.result.now in
    let item = c.summand-item.result in
    let stand = mapped_item plain_summand (SummandStands sig ts ps) items c.loop-summand.summand-index item item c.loop-summand-test.true c.summand-item.is
    (subst (λ z. All (SummandStands sig ts ps) (map plain_summand z)) (sym c.deref-summand-items.ensures.value) (all_stand sig stands ts (plain_linear c.args.lin.now) c.requires.fits)) in
    let vs = c.solved_summand.new.pool.trees in
    let kept = c.solved_summand.ensures.kept in
    let made = c.loop-summand.summands.items in
    let new = c.in_ok-solved_summand.field-0 in
    let new_stands = c.in_ok-solved_summand.ensures.stands ps (stands_still sig ts us inv.kept ps (plain_summand item) stand) in
    record {
      kept = extends_on ts us vs inv.kept kept;
      fitting = λ own f. c.solved_summand.ensures.fitting own (inv.fitting own f);
      same = λ own t. same_on (c.solved_summand.ensures.same own t) (inv.same own t);
      stand = subst (λ z. All (SummandStands sig vs ps) (map plain_summand z)) (sym c.in_ok-push.ensures.items)
          (subst (λ z. All (SummandStands sig vs ps) z) (sym (map-append plain_summand made (new ∷ [])))
          (All-push (SummandStands sig vs ps) (map plain_summand made) (plain_summand new) (all_still sig us vs kept ps (map plain_summand made) inv.stand) new_stands));
      solved = λ own f fine.
          let P = g.S.Simplifier.simple c.args.simp.now sig own in
          subst (λ z. AllZip (IsSolvedSummand (IsAnswer sig own P)) (map (summand_at sig ts) (map plain_summand (take (c.loop-summand.summand-index + 1) items))) (map (summand_at sig vs) (map plain_summand z))) (sym c.in_ok-push.ensures.items)
          (subst (λ z. AllZip (IsSolvedSummand (IsAnswer sig own P)) (map (summand_at sig ts) (map plain_summand (take (c.loop-summand.summand-index + 1) items))) (map (summand_at sig vs) z)) (sym (map-append plain_summand made (new ∷ [])))
          (solved_more sig own P (g.S.Simplifier.simple c.loop-summand.simp sig own) (λ t. (inv.same own t).0) ts us vs inv.kept kept ps items c.loop-summand.summand-index item (map plain_summand made) (plain_summand new)
          c.loop-summand-test.true c.summand-item.is stand inv.stand (inv.solved own f fine) (c.in_ok-solved_summand.ensures.solved own (inv.fitting own f) fine)));
    }
