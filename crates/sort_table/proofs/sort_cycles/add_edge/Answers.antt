use Rattle.std.proofs.Common.{ℕ, List, ◌++◌, ◌∷◌, [], ap, sym, ◌∙◌}
use Rattle.graphs.proofs.Kept.{turns_none, turns_more}
use Rattle.graphs.proofs.Marks.{successors_at}
use Rattle.sort_table.proofs.sort_cycles.add_edge.Goals as goal

pub returns : goal.returns
returns c =
    turns_more c.args.edges.now.items c.args.to [] c.args.edges.now.items c.args.from c.push.new.self (turns_none c.args.edges.now.items c.args.to) c.requires
    (c.in_ok-push.ensures.items ∙ ap (λ (l : List ℕ). l ++ c.args.to ∷ []) (sym (successors_at c.args.edges.now.items c.args.from c.index_mut.result.now c.requires c.index_mut.ensures.value)))
