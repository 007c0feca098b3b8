use Rattle.std.proofs.lemmas.Result.{on_ok_weaker}
use Rattle.std.proofs.Common.{◌≡◌}
use Rattle.data_theory.specs.Functions.{Function, arguments_of}
use Rattle.lps_printer.proofs.AddedSections.{at_function, constructor_added}
use Rattle.lps_printer.proofs.added_sections.push_constructor.Goals as goal

pub returns : goal.returns
returns c =
    let g = c.args.sig.now in
    let f = c.args.cons in
    on_ok_weaker c.push_recogniser.result (λ p n k. constructor_added g n f c.projections.result.now c.args_of.result.now c.test.result
    (at_function g f (λ (e : Function). e.projections ≡ c.projections.result.now) c.requires c.projections.ensures) (at_function g f (λ (e : Function). arguments_of e ≡ c.args_of.result.now) c.requires c.args_of.ensures) (at_function g f (λ (e : Function). e.test ≡ c.test.result) c.requires c.test.ensures)
    c.in_ok-push_name.ensures (c.in_ok-push_fields.ensures n k) p) c.push_recogniser.ensures
