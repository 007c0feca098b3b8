use Rattle.std.proofs.Common.{◌∙◌, ap, sym, subst}
use Rattle.data_theory.specs.SignatureView.{sig_of}
use Rattle.data_theory.specs.WholeSignatures.{IsSignature}
use Rattle.data_theory.specs.Signature.{with_variable}
use Rattle.data_theory.proofs.WholeSignatureLemmas.{variable_stands}
use Rattle.data_theory.proofs.signature.Signature.add_var.Goals as goal

pub invariant_of-self-2 : goal.invariant_of-self-2
invariant_of-self-2 c =
    subst IsSignature (sym (ap (λ vs. record (sig_of c.self.inside) { variables = vs }) c.in_ok-push.ensures.items ∙ ap (λ s. with_variable s (record { name = c.args.name; sort = c.args.sort })) c.self.view_is))
    (variable_stands c.args.self.now (record { name = c.args.name; sort = c.args.sort }) (subst IsSignature c.self.view_is c.self.invariant) c.requires.name c.requires.sort)
