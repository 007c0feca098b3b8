use Rattle.std.proofs.Common.{map, sym, subst, ◌∙◌}
use Rattle.std.specs.List.{All}
use Rattle.std.proofs.lemmas.List.{take_all}
use Rattle.action_filters.specs.Filters.{AreActionsIn}
use Rattle.action_filters.proofs.Loops.{mapped_item}
use Rattle.summand_expander.specs.Drafts.{PlainMove, plain_move}
use Rattle.summand_expander.specs.Nearby.{IsPartnerOf}
use Rattle.summand_expander.specs.PlainAllowed.{plain_allowed}
use Rattle.summand_expander.proofs.NamedPartners.{one_partner_more}
use Rattle.summand_expander.proofs.partners.partners_of.Goals as goal

pub add_partners-requires-clause-actions : goal.add_partners-requires-clause-actions
add_partners-requires-clause-actions c =
    mapped_item plain_move (λ (m : PlainMove). AreActionsIn c.args.sig.now m.label) c.deref-step-items.result.now c.loop-step.step-index c.step-item.result c.step-item.result c.loop-step-test.true c.step-item.is
    (subst (λ z. All (λ (m : PlainMove). AreActionsIn c.args.sig.now m.label) (map plain_move z)) (sym c.deref-step-items.ensures.value) c.requires.actions)

pub loop-step-preserved : goal.loop-step-preserved
loop-step-preserved c =
    one_partner_more c.args.sig.now (plain_allowed c.args.allowed.now) _ _ c.step-item.result _ _ c.loop-step-test.true c.step-item.is c.in_ok-add_partners.ensures.kept c.in_ok-add_partners.ensures.partners c.loop-step.invariant

pub returns : goal.returns
returns c =
    subst (λ ms. All (IsPartnerOf c.args.sig.now (plain_allowed c.args.allowed.now) c.loop-step.found.keys) (map plain_move ms))
    (take_all c.loop-step.step-index c.deref-step-items.result.now c.loop-step-test.false ∙ c.deref-step-items.ensures.value) c.loop-step.invariant
