use Rattle.std.proofs.Common.{◌∙◌, ◌++◌, ap, arith}
use Rattle.std.specs.Option.{option_to_list}
use Rattle.data_theory.proofs.NamedLemmas.{cut_more, cut_named}
use Rattle.data_theory.proofs.functions.cut.Goals as goal

pub loop-entries-preserved : goal.loop-entries-preserved
loop-entries-preserved c = record {
  front = cut_more c.args.entries.now.items c.loop-entries.entries.items c.pop.new.self.items c.args.length _ (omega (arith, c.loop-entries-test.true, c.len.ensures)) c.pop.ensures.rest c.loop-entries.invariant.front;
  named = cut_named c.loop-entries.entries.items c.pop.new.self.items c.unwrap-entry.result c.loop-entries.named c.forget.new.self (c.pop.ensures.items ∙ ap (λ o. c.pop.new.self.items ++ option_to_list o) c.unwrap-entry.ensures) c.loop-entries.invariant.named c.forget.ensures;
}
