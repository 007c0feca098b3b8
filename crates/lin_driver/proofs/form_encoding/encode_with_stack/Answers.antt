use Rattle.lps_core.specs.PlainLinears.{plain_linear}
use Rattle.greibach.specs.PlainForms.{plain_form}
use Rattle.lin_driver.proofs.MethodForms.{stack_leads}
use Rattle.lin_driver.proofs.PlainLeaves.{stack_plain}
use Rattle.lin_driver.proofs.form_encoding.encode_with_stack.Goals as goal

pub returns-clause-leads : goal.returns-clause-leads
returns-clause-leads c =
    stack_leads c.args.sig.now c.encode.new.sig c.args.pool.now c.encode.new.pool (plain_form c.args.form.now) (plain_linear c.in_ok-made.made) c.signature_stands.ensures c.in_ok-made.ensures.stands c.requires.form c.requires.names c.in_ok-made.ensures.fits
    c.in_ok-made.ensures.encoded c.in_ok-made.ensures.bisimilar

pub returns-clause-plain : goal.returns-clause-plain
returns-clause-plain c = stack_plain c.args.sig.now c.encode.new.sig c.encode.new.pool (plain_form c.args.form.now) (plain_linear c.in_ok-made.made) c.in_ok-made.ensures.plain c.in_ok-made.ensures.fits
