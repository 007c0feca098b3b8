use Rattle.std.proofs.Common.{rules}
use Rattle.std.proofs.lemmas.Iterator.Adapters.{YieldsList-from_vec}
use Rattle.std.proofs.lemmas.Iterator.Consumers.{YieldsList-so_far, YieldsList-turn}
use Rattle.data_theory.proofs.FunctionLemmas.{taken_functions}
use Rattle.data_theory.proofs.functions.Functions.push_all.Goals as goal

pub push-requires : goal.push-requires
push-requires c =
    let items = YieldsList-from_vec {s = c.into_iter-entry-iterator.result} c.args.added.items (search rules) (search rules) in
    let turn = YieldsList-turn items c.loop-entry.yielded c.loop-entry.entry-iterator c.loop-entry.yielded_by c.next.result c.next.new.self c.in-Some.entry c.in-Some.is c.next.ensures.steps in
    let so_far = YieldsList-so_far items c.loop-entry.yielded c.loop-entry.entry-iterator c.loop-entry.yielded_by in
    taken_functions c.args.self.now c.args.added.items c.loop-entry.self c.loop-entry.yielded c.in-Some.entry c.requires c.loop-entry.invariant so_far turn.0 turn.1
