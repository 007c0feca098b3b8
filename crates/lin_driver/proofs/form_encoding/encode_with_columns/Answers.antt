use Rattle.std.proofs.Common.{◌<◌, length, arith}
use Rattle.std.proofs.lemmas.List.{length-map}
use Rattle.lps_core.specs.PlainLinears.{plain_linear}
use Rattle.greibach.specs.PlainForms.{plain_equation, plain_form}
use Rattle.lin_driver.proofs.MethodForms.{columns_lead}
use Rattle.lin_driver.proofs.PlainLeaves.{columns_plain}
use Rattle.lin_driver.proofs.form_encoding.encode_with_columns.Goals as goal

pub returns-clause-leads : goal.returns-clause-leads
returns-clause-leads c =
    let f = plain_form c.args.form.now in
    let long = length-map c.args.form.now.equations.items plain_equation in
    let small = c.args.form.now.equations.ok.0 in
    let few : length f.equations < 340282366920938463463374607431768211456 = omega (arith, small, long) in
    columns_lead c.args.sig.now c.encode.new.sig c.args.pool.now c.encode.new.pool f (plain_linear c.in_ok-made.made) c.signature_stands.ensures c.in_ok-made.ensures.stands c.requires.form c.requires.names c.in_ok-made.ensures.fits few
    c.in_ok-made.ensures.encoded c.in_ok-made.ensures.bisimilar

pub returns-clause-plain : goal.returns-clause-plain
returns-clause-plain c =
    columns_plain c.args.sig.now c.encode.new.sig c.args.pool.now c.encode.new.pool (plain_form c.args.form.now) (plain_linear c.in_ok-made.made) c.in_ok-made.ensures.encoded c.in_ok-made.ensures.plain c.in_ok-made.ensures.fits
