use Rattle.std.proofs.Common.{◌++◌, ◌∷◌, [], ◌+◌, ap, sym, ◌∙◌}
use Rattle.stack_encoder.proofs.FreshWords.{numbers_more}
use Rattle.stack_encoder.proofs.symbols.numbered.Goals as goal

pub loop-number-preserved : goal.loop-number-preserved
loop-number-preserved c = c.in_ok-push.ensures.items ∙ ap (λ l. l ++ record { 0 = c.args.first + c.loop-number.number } ∷ []) c.loop-number.invariant ∙ sym (numbers_more c.args.first c.loop-number.number)
