use Rattle.std.proofs.Common.{map, refl, sym, subst}
use Rattle.std.specs.List.{All}
use Rattle.process_terms.specs.PlainProcesses.{plain_label}
use Rattle.action_filters.specs.Filters.{AreActionsIn}
use Rattle.action_filters.proofs.Loops.{mapped_item}
use Rattle.summand_expander.specs.Drafts.{PlainMove, lone_drafts, plain_move, plain_side}
use Rattle.summand_expander.specs.KeptDrafts.{draft_stays, is_last}
use Rattle.summand_expander.specs.PlainAllowed.{plain_allowed}
use Rattle.summand_expander.proofs.KeptDrafts.{keeps_alone, keeps_more}
use Rattle.summand_expander.proofs.kept_drafts.add_all_alone_within.Goals as goal

pub label_stays-requires-clause-actions : goal.label_stays-requires-clause-actions
label_stays-requires-clause-actions c =
    mapped_item plain_move (λ (m : PlainMove). AreActionsIn c.args.sig.now m.label) c.deref-step-items.result.now c.loop-step.step-index c.step-item.result c.step-item.result c.loop-step-test.true c.step-item.is
    (subst (λ z. All (λ (m : PlainMove). AreActionsIn c.args.sig.now m.label) (map plain_move z)) (sym c.deref-step-items.ensures.value) c.requires.actions)

pub loop-step-preserved : goal.loop-step-preserved
loop-step-preserved c =
    let g = c.args.sig.now in
    let a = plain_allowed c.args.allowed.now in
    let own = plain_side c.args.own.now in
    let other = plain_side c.args.other.now in
    record {
      answers = c.in_ok-stays.ensures.kept;
      keeps = keeps_more (draft_stays g a) is_last (lone_drafts c.args.own_first own other) plain_move _ _ c.step-item.result _ _ _ _ _ _ c.loop-step-test.true c.step-item.is c.loop-step.invariant.keeps
          (keeps_alone g a c.args.own_first own other (plain_move c.step-item.result) (plain_label c.step-item.result.label) c.in_ok-stays.stays _ _ _ _ refl c.in_ok-stays.ensures.can c.in_ok-add_alone_within.ensures);
    }
