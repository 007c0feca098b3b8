use Rattle.std.proofs.Common.{◌-◌, length, get_or, take, drop, sym, ◌∙◌}
use Rattle.std.proofs.lemmas.Result.{on_ok_weaker}
use Rattle.mcrl2_lexer.specs.declared.kind.Kind.TheVariants.{Sum, Dot}
use Rattle.lps_printer.specs.TextWordings.{NamesVariables}
use Rattle.lps_printer.proofs.AddingPieces.{adds_both, adds_same}
use Rattle.lps_printer.proofs.CodeActions.{none_of, some_of}
use Rattle.lps_printer.proofs.CodeSorts.{first_variable}
use Rattle.lps_printer.proofs.CodeSummands.{no_sums, with_sums, parted}
use Rattle.lps_printer.proofs.process_writer.ProcessWriter.summand.Goals as goal

pub returns-then-is_empty : goal.returns-then-is_empty
returns-then-is_empty c =
    let none = sym c.as_slice-sums.ensures.value ∙ none_of c.as_slice-sums.result.now (sym c.is_empty.ensures ∙ c.if-is_empty.true) in
    on_ok_weaker c.guarded.result (λ p t k q. adds_same (λ rest. no_sums c.args.self.now t c.args.summand.now none c.args.gap.now rest) (p t k q)) c.guarded.ensures

pub returns : goal.returns
returns c =
    let self = c.args.self.now in
    let xs = c.as_slice-sums.result.now in
    let some = some_of xs (sym c.is_empty.ensures ∙ c.if-is_empty.false) in
    let parts = parted xs first_variable some ∙ c.as_slice-sums.ensures.value in
    on_ok_weaker c.guarded-2.result (λ p t k q.
    let named : NamesVariables self.terms.sig.now t.names = record { named = k.terms.variables } in
    adds_same (λ rest. with_sums self t c.args.summand.now (get_or xs 0 first_variable) (take (length xs - 1) (drop 1 xs)) c.requires.sums parts c.args.gap.now rest)
    (adds_both (c.in_ok-push_token.ensures Sum) (adds_both (c.in_ok-push_variables.ensures t.names k.sorts named) (adds_both (c.in_ok-push_token-2.ensures Dot) (p t k q))))) c.guarded-2.ensures
