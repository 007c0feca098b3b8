use Rattle.data_theory.specs.Keys.{key, key_at}
use Rattle.data_theory.proofs.PlaceLemmas.{found_by}
use Rattle.data_theory.proofs.KeyLemmas.{no_list_no_key, names_key, is_place_of_key, places_tell, places_told}
use Rattle.data_theory.proofs.keys.Keys.find.Goals as goal

pub returns-in_err-list : goal.returns-in_err-list
returns-in_err-list c =
    rw c.from_residual.ensures (rw (← c.self.view_is) (no_list_no_key c.self.inside.lists c.self.inside.places.keys c.self.invariant c.args.name c.args.sorts.now c.in_err-list.ensures.found))

pub returns : goal.returns
returns c =
    rw (← c.self.view_is) (found_by (key_at c.self.inside.lists) (key c.args.name c.args.sorts.now) _ c.self.inside.places.keys
    (λ p e. names_key c.self.inside.lists c.args.name c.args.sorts.now c.in_ok-list.list p c.in_ok-list.ensures.found (places_tell _ p e))
    (λ p h e. places_told _ p (is_place_of_key c.self.inside.lists c.self.inside.places.keys c.self.invariant c.args.name c.args.sorts.now c.in_ok-list.list p c.in_ok-list.ensures.found h e))
    _ c.get_index_of.ensures.index c.get_index_of.ensures.found)
