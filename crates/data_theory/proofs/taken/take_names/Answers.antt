use Rattle.std.proofs.Common.{arith}
use Rattle.data_theory.proofs.NameLemmas.{names_more, on_ok}
use Rattle.data_theory.proofs.taken.take_names.Goals as goal

pub loop-name-preserved : goal.loop-name-preserved
loop-name-preserved c = record {
  taken =
      names_more c.args.names.now c.loop-name.name-index _ c.args.taken.now.keys c.loop-name.taken.keys c.insert.new.self.keys c.loop-name-test.true c.loop-name.invariant.taken
      (on_ok c.insert.result (c.insert.ensures.succeeds (omega (arith, c.loop-name.invariant.room, c.loop-name-test.true))) c.insert.ensures.keys);
  room = omega (arith, c.loop-name.invariant.room, c.insert.ensures.spare);
}
