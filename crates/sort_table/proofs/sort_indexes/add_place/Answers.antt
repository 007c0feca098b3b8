use Rattle.std.proofs.Common.{◌≡◌, ℕ, refl, sym, ap, ◌∙◌}
use Rattle.std.specs.Prelude.{Option, Some, None, is_some}
use Rattle.std.specs.Option.{option_copied}
use denote.Ref.{Bor}
use Rattle.std.proofs.lemmas.Map.Text.{btree_map_updates_str}
use Rattle.sort_table.proofs.IndexPlaces.{put_first}
use Rattle.sort_table.proofs.sort_indexes.add_place.Goals as goal

copied_is : (o : Option (Bor ℕ)) → is_some (option_copied o) ≡ is_some o
copied_is None = refl
copied_is (Some b) = refl

pub returns-clause-added : goal.returns-clause-added
returns-clause-added c =
    put_first c.args.places.now c.insert.new.self c.args.name.now c.args.place
    (sym (ap is_some c.get.ensures.value) ∙ (copied_is c.get.result ∙ (sym c.is_some.ensures ∙ c.if-is_some.false)))
    (btree_map_updates_str c.args.name.now c.args.places.now c.insert.new.self (Some c.args.place) c.in_ok-insert.ensures.updates)
