use Rattle.std.proofs.Common.{◌∙◌, ap, subst}
use Rattle.data_theory.specs.SignatureView.{sig_of}
use Rattle.data_theory.specs.WholeSignatures.{IsSignature}
use Rattle.data_theory.specs.Signature.{with_constructors}
use Rattle.data_theory.proofs.WholeSignatureLemmas.{signature_as, constructors_stand}
use Rattle.data_theory.proofs.signature.Signature.set_cons.Goals as goal

pub invariant_of-self : goal.invariant_of-self
invariant_of-self c =
    signature_as (with_constructors c.args.self.now c.args.sort c.args.cons.items) _ (constructors_stand c.args.self.now c.args.sort c.args.cons.items (subst IsSignature c.self.view_is c.self.invariant) c.requires.bare c.requires.declared c.requires.results c.requires.free)
    (ap (λ ss. record (sig_of c.self.inside) { sorts = ss }) c.set_kind.ensures ∙ ap (λ s. with_constructors s c.args.sort c.args.cons.items) c.self.view_is)
