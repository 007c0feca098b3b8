use Rattle.std.proofs.Common.{sym}
use Rattle.data_theory.proofs.PlaceLemmas.{found_by}
use Rattle.data_theory.proofs.IdLemmas.{lists_agree}
use Rattle.data_theory.proofs.sort_lists.SortLists.find.Goals as goal

pub returns-clause-found : goal.returns-clause-found
returns-clause-found c =
    rw (← c.self.view_is) (found_by (λ v. v.items) c.args.sorts.now _ c.self.inside.lists.keys
    (λ v e. sym ((lists_agree c.args.sorts.now v.items).0 e)) (λ v _ e. (lists_agree c.args.sorts.now v.items).1 (sym e))
    _ c.get_index_of.ensures.index c.get_index_of.ensures.found)
