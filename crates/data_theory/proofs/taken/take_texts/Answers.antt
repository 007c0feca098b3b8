use Rattle.std.proofs.Common.{List, ℕ, Bor}
use Rattle.data_theory.proofs.NameLemmas.{takes_more}
use Rattle.data_theory.proofs.taken.take_texts.Goals as goal

pub loop-text-preserved : goal.loop-text-preserved
loop-text-preserved c =
    takes_more (λ (text : Bor (List ℕ)). text.now) c.args.texts.now c.loop-text.text-index _ c.args.names.now c.args.taken.now.keys c.loop-text.names c.loop-text.taken.keys c.take_text.new.names c.take_text.new.taken.keys c.loop-text-test.true c.loop-text.invariant
    c.in_ok-take_text.ensures.texts c.in_ok-take_text.ensures.taken
