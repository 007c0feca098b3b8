use Rattle.std.proofs.Common.{◌∷◌, Some, sym, ap, ◌∙◌, subst}
use Rattle.std.proofs.lemmas.Result.{on_ok_weaker}
use Rattle.mcrl2_lexer.specs.declared.kind.Kind.TheVariants.{Dot, Identifier, LeftParen, RightParen}
use Rattle.lps_core.specs.PlainLinears.{plain_next}
use Rattle.lps_printer.specs.DataLayout.{piece, space}
use Rattle.lps_printer.specs.Adding.{Adds}
use Rattle.lps_printer.specs.CodeProcesses.{assignments_from, next_by}
use Rattle.lps_printer.proofs.AddingPieces.{adds_both, adds_same}
use Rattle.lps_printer.proofs.CodeActions.{none_of, some_of}
use Rattle.lps_printer.proofs.CodeNexts.{next_adds, bare_next, called_next, goes_printed}
use Rattle.lps_printer.proofs.process_writer.ProcessWriter.next.Goals as goal

pub returns-then-is_empty : goal.returns-then-is_empty
returns-then-is_empty c = λ t k q.
    let self = c.args.self.now in
    let none = none_of self.params.now (sym c.is_empty.ensures ∙ c.if-is_empty.true) in
    next_adds (bare_next self t c.in-Some.next.items none ∙ ap (next_by self t) (ap plain_next (sym c.in-Some.is)))
    (adds_both (c.in_ok-push_token.ensures Dot) (subst (λ x. Adds c.push_token.new.out.items c.push_token-2.new.out.items (λ rest. piece space Identifier x ∷ rest)) (sym q) (c.in_ok-push_token-2.ensures Identifier)))

pub returns : goal.returns
returns c =
    let self = c.args.self.now in
    let some = some_of self.params.now (sym c.is_empty.ensures ∙ c.if-is_empty.false) in
    on_ok_weaker c.push_token-4.result (λ p t k q.
    let ids = c.as_slice.result.now in
    next_adds (called_next self t ids some ∙ ap (next_by self t) (ap Some c.as_slice.ensures.value ∙ ap plain_next (sym c.in-Some.is)))
    (adds_same (λ rest. goes_printed t.names.process (assignments_from self t ids 0) rest)
    (adds_both (c.in_ok-push_token.ensures Dot) (adds_both (subst (λ x. Adds c.push_token.new.out.items c.push_token-2.new.out.items (λ rest. piece space Identifier x ∷ rest)) (sym q) (c.in_ok-push_token-2.ensures Identifier))
    (adds_both (c.in_ok-push_token-3.ensures LeftParen) (adds_both (c.in_ok-assignments.ensures t k) (p RightParen))))))) c.push_token-4.ensures
