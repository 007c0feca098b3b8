use Rattle.std.proofs.Common.{◌≡◌, ◌∙◌, ap, subst, rules}
use Rattle.data_theory.specs.Taken.{with_name}
use Rattle.data_theory.specs.SignatureView.{sig_of}
use Rattle.data_theory.specs.WholeSignatures.{IsSignature}
use Rattle.data_theory.specs.Signature.{with_taken}
use Rattle.data_theory.proofs.NameLemmas.{entered_is, place_is}
use Rattle.data_theory.proofs.SignatureLemmas.{name_taken}
use Rattle.data_theory.proofs.WholeSignatureLemmas.{signature_as, text_stands}
use Rattle.data_theory.proofs.signature.Signature.take_name.Goals as goal
use Rattle.data_theory.proofs.signature.Signature.take_name.Goals.{After-insert}

-- the fields as they are behind the call
taken : (c : After-insert) → record (sig_of c.self.inside) { texts = c.enter.new.self; taken = c.insert.new.self.keys } ≡ with_taken c.args.self.now c.args.text.now
taken c =
    let kept : c.insert.new.self.keys ≡ with_name c.self.inside.taken.keys c.in_ok-name.name = search rules in
    name_taken (sig_of c.self.inside) c.args.text.now c.enter.new.self c.insert.new.self.keys c.in_ok-name.name (entered_is _ _ _ c.in_ok-name.ensures.entered) kept (place_is c.enter.new.self c.args.text.now c.in_ok-name.name.0 c.in_ok-name.ensures.different c.in_ok-name.ensures.place)
    ∙ ap (λ s. with_taken s c.args.text.now) c.self.view_is

pub invariant_of-self-2 : goal.invariant_of-self-2
invariant_of-self-2 c =
    signature_as (with_taken c.args.self.now c.args.text.now) _ (text_stands c.args.self.now c.args.text.now (subst IsSignature c.self.view_is c.self.invariant)) (taken c)

pub returns-clause-taken : goal.returns-clause-taken
returns-clause-taken c = taken c
