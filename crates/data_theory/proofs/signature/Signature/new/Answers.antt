use Rattle.std.proofs.Common.{◌∙◌}
use Rattle.data_theory.specs.Signature.{first_signature}
use Rattle.data_theory.proofs.WholeSignatureLemmas.{signature_as, first_stands}
use Rattle.data_theory.proofs.TableLemmas.{first_rows_fit}
use Rattle.data_theory.proofs.SignatureLemmas.{first_signature_is}
use Rattle.data_theory.proofs.signature.Signature.new.Goals as goal

pub add_rows-requires : goal.add_rows-requires
add_rows-requires c =
    let fit = first_rows_fit c.args.names c.take_first_names.new.names c.deref-2.result.now c.new-functions.result c.in_ok-take_first_names.ensures.entered (c.deref-2.ensures.value ∙ c.in_ok-rows.ensures) c.new-functions.ensures in
    record { named = fit.0; new = fit.1 }

pub invariant_of-result-2 : goal.invariant_of-result-2
invariant_of-result-2 c = signature_as (first_signature c.args.names) _ (first_stands c.args.names c.differ.ensures)
    ((λ i. record { texts = c.names-2.view_is i; taken = (c.taken-2.view_is i).keys; sorts = c.in_ok-new.field-0; sort_names = c.new-2.result; functions = c.add_rows.new.functions; declared = c.new-3.result.items; actions = c.new-4.result; variables = c.new-5.result.items })
    ∙ first_signature_is c.args.names c.take_first_names.new.names c.take_first_names.new.taken.keys c.new-taken.result.keys c.in_ok-new.field-0 c.new-2.result c.add_rows.new.functions c.new-functions.result c.new-3.result.items c.new-4.result c.new-5.result.items c.deref-2.result.now
    c.in_ok-take_first_names.ensures c.new-taken.ensures.empty c.in_ok-new.ensures c.new-2.ensures c.in_ok-add_rows.ensures.added c.new-functions.ensures (c.deref-2.ensures.value ∙ c.in_ok-rows.ensures) c.new-3.ensures.items c.new-4.ensures c.new-5.ensures.items)

pub returns : goal.returns
returns c =
    (λ i. record { texts = c.names-2.view_is i; taken = (c.taken-2.view_is i).keys; sorts = c.in_ok-new.field-0; sort_names = c.new-2.result; functions = c.add_rows.new.functions; declared = c.new-3.result.items; actions = c.new-4.result; variables = c.new-5.result.items })
    ∙ first_signature_is c.args.names c.take_first_names.new.names c.take_first_names.new.taken.keys c.new-taken.result.keys c.in_ok-new.field-0 c.new-2.result c.add_rows.new.functions c.new-functions.result c.new-3.result.items c.new-4.result c.new-5.result.items c.deref-2.result.now
    c.in_ok-take_first_names.ensures c.new-taken.ensures.empty c.in_ok-new.ensures c.new-2.ensures c.in_ok-add_rows.ensures.added c.new-functions.ensures (c.deref-2.ensures.value ∙ c.in_ok-rows.ensures) c.new-3.ensures.items c.new-4.ensures c.new-5.ensures.items
