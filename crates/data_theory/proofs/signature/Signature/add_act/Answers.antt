use Rattle.std.proofs.Common.{◌∙◌, ap, sym, subst}
use Rattle.data_theory.specs.SignatureView.{sig_of}
use Rattle.data_theory.specs.WholeSignatures.{IsSignature}
use Rattle.data_theory.specs.Signature.{Sig, IsAct, with_action}
use Rattle.data_theory.proofs.NameLemmas.{entered_is, place_is}
use Rattle.data_theory.proofs.CompleteLemmas.{action_added, no_action}
use Rattle.data_theory.proofs.WholeSignatureLemmas.{signature_as, action_stands}
use Rattle.data_theory.proofs.signature.Signature.add_act.Goals as goal

pub push-requires : goal.push-requires
push-requires c =
    no_action (sig_of c.self.inside) c.args.name.now c.args.sorts.items c.enter.new.self c.in_ok-id.id c.self.invariant.complete (subst (λ (s : Sig). IsAct s c.args.name.now c.args.sorts.items → ⊥) (sym c.self.view_is) c.requires.absent)
    c.in_ok-id.ensures.entered c.in_ok-id.ensures.place

pub invariant_of-self-in-Ok-1 : goal.invariant_of-self-in-Ok-1
invariant_of-self-in-Ok-1 c =
    signature_as (with_action c.args.self.now c.args.name.now c.args.sorts.items) _ (action_stands c.args.self.now c.args.name.now c.args.sorts.items (subst IsSignature c.self.view_is c.self.invariant) c.requires.sorts c.requires.absent)
    (action_added (sig_of c.self.inside) c.args.name.now c.args.sorts.items c.in_ok-id.id c.enter.new.self c.push.new.self (entered_is _ _ _ c.in_ok-id.ensures.entered) (place_is c.enter.new.self c.args.name.now c.in_ok-id.id.0 c.in_ok-id.ensures.different c.in_ok-id.ensures.place) c.in-Ok.ensures.pushed
    ∙ ap (λ s. with_action s c.args.name.now c.args.sorts.items) c.self.view_is)

pub returns-clause-added : goal.returns-clause-added
returns-clause-added c =
    action_added (sig_of c.self.inside) c.args.name.now c.args.sorts.items c.in_ok-id.id c.enter.new.self c.push.new.self (entered_is _ _ _ c.in_ok-id.ensures.entered) (place_is c.enter.new.self c.args.name.now c.in_ok-id.id.0 c.in_ok-id.ensures.different c.in_ok-id.ensures.place) c.in-Ok.ensures.pushed
    ∙ ap (λ s. with_action s c.args.name.now c.args.sorts.items) c.self.view_is
