use Rattle.std.proofs.Common.{◌++◌, ◌∷◌, [], ◌∙◌, ℕ, List, ap, sym}
use Rattle.graphs.proofs.Kept.{successors-set_same, successors-set_other}
use Rattle.graphs.proofs.Marks.{successors_at}
use Rattle.sort_table.proofs.constructor_sorts.put_place.Goals as goal

pub returns-clause-here : goal.returns-clause-here
returns-clause-here c =
    successors-set_same c.args.places.now.items c.args.row c.push.new.self c.requires
    ∙ (c.in_ok-push.ensures.items ∙ ap (λ (l : List ℕ). l ++ c.args.place ∷ []) (sym (successors_at c.args.places.now.items c.args.row c.index_mut.result.now c.requires c.index_mut.ensures.value)))

pub returns-clause-others : goal.returns-clause-others
returns-clause-others c = λ r other. successors-set_other c.args.places.now.items c.args.row c.push.new.self r other
