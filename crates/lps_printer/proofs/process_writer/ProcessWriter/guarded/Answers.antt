use Rattle.std.proofs.Common.{sym, ◌∙◌}
use Rattle.std.proofs.lemmas.Result.{on_ok_weaker}
use Rattle.mcrl2_lexer.specs.declared.kind.Kind.TheVariants.{LeftParen, RightParen, Arrow}
use Rattle.lps_printer.specs.TextWordings.{of_terms}
use Rattle.lps_printer.proofs.AddingPieces.{adds_both, adds_same}
use Rattle.lps_printer.proofs.CodeSummands.{condition_left_out, condition_kept}
use Rattle.lps_printer.proofs.process_writer.ProcessWriter.guarded.Goals as goal

pub returns-then-is_true : goal.returns-then-is_true
returns-then-is_true c =
    on_ok_weaker c.next.result (λ p t k q.
    adds_same (λ rest. condition_left_out c.args.self.now t c.args.summand.now c.requires.condition.within (sym c.is_true.ensures ∙ c.if-is_true.true) c.args.gap.now rest)
    (adds_both (c.in_ok-label.ensures t k) (p t k q))) c.next.ensures

pub returns : goal.returns
returns c =
    on_ok_weaker c.next-2.result (λ p t k q.
    adds_same (λ rest. condition_kept c.args.self.now t c.args.summand.now c.requires.condition.within (sym c.is_true.ensures ∙ c.if-is_true.false) c.args.gap.now rest)
    (adds_both (c.in_ok-push_token.ensures LeftParen) (adds_both (c.in_ok-term.ensures (of_terms t) k.terms) (adds_both (c.in_ok-push_token-2.ensures RightParen) (adds_both (c.in_ok-push_token-3.ensures Arrow)
    (adds_both (c.in_ok-label-2.ensures t k) (p t k q))))))) c.next-2.ensures
