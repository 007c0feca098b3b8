use Rattle.std.proofs.Common.{◌≡◌, true, subst, sym}
use Rattle.std.specs.Prelude.{◌↔◌}
use Rattle.greibach.specs.PlainForms.{plain_form}
use Rattle.greibach.specs.Tails.{HasTails}
use Rattle.greibach.proofs.TailLemmas.{form_told}
use Rattle.greibach.proofs.forms.Greibach.is_tail.Goals as goal

pub returns : goal.returns
returns c = subst (λ b. (b ≡ true) ↔ HasTails (plain_form c.args.self.now)) (sym c.all_are_tail.ensures) (form_told c.args.self.now)
