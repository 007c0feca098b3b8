use Rattle.std.proofs.Common.{◌-◌, length, get_or, take, drop, sym, ◌∙◌}
use Rattle.std.proofs.lemmas.Result.{on_ok_weaker}
use Rattle.mcrl2_lexer.specs.declared.kind.Kind.TheVariants.{LeftParen, RightParen}
use Rattle.lps_printer.specs.TextWordings.{NamesVariables}
use Rattle.lps_printer.proofs.AddingPieces.{adds_none, adds_both, adds_same}
use Rattle.lps_printer.proofs.CodeActions.{none_of, some_of}
use Rattle.lps_printer.proofs.CodeSorts.{first_variable}
use Rattle.lps_printer.proofs.CodeSummands.{parted}
use Rattle.lps_printer.proofs.CodeDefinitions.{no_parameters, with_parameters}
use Rattle.lps_printer.proofs.process_writer.ProcessWriter.parameters.Goals as goal

pub returns-then-is_empty : goal.returns-then-is_empty
returns-then-is_empty c = λ t k.
    let none = none_of c.args.self.now.params.now (sym c.is_empty.ensures ∙ c.if-is_empty.true) in
    adds_same (λ rest. no_parameters c.args.self.now t none rest) (adds_none c.args.out.now.items)

pub returns : goal.returns
returns c =
    let self = c.args.self.now in
    let xs = self.params.now in
    let some = some_of xs (sym c.is_empty.ensures ∙ c.if-is_empty.false) in
    on_ok_weaker c.push_token-2.result (λ p t k.
    let named : NamesVariables self.terms.sig.now t.names = record { named = k.terms.variables } in
    adds_same (λ rest. with_parameters self t (get_or xs 0 first_variable) (take (length xs - 1) (drop 1 xs)) (parted xs first_variable some) rest)
    (adds_both (c.in_ok-push_token.ensures LeftParen) (adds_both (c.in_ok-push_variables.ensures t.names k.sorts named) (p RightParen)))) c.push_token-2.ensures
