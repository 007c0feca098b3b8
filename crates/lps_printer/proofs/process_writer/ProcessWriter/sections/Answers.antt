use Rattle.std.proofs.Common.{◌≡◌, [], ◌∷◌, ◌++◌, map, rules, ap, ◌∙◌, sym}
use Rattle.lps_core.specs.PlainLinears.{plain_linear, plain_summand}
use Rattle.lps_printer.proofs.PrintedTexts.{process_added}
use Rattle.lps_printer.proofs.process_writer.ProcessWriter.sections.Goals as goal

pub returns : goal.returns
returns c = λ t k q.
    let self = c.args.self.now in
    let end : c.extend_from_slice.new.self.items ≡ c.push_token-4.new.out.items ++ 10 ∷ [] = search rules in
    process_added self t (plain_linear c.args.lin.now) c.requires.same c.args.gap.now c.as_slice.result.now c.init.result.now c.requires.params (ap (map plain_summand) c.as_slice.ensures.value) c.init.ensures
    c.in_ok-push_token.ensures (c.in_ok-definition.ensures t k q) c.in_ok-push_token-2.ensures c.in_ok-push_token-3.ensures (c.in_ok-start.ensures t k q) c.in_ok-push_token-4.ensures ∙ sym end
