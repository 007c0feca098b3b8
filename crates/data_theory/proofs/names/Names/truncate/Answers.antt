use Rattle.std.proofs.Common.{◌≡◌, ◌∙◌, ap, sym, subst, take, map}
use Rattle.std.specs.String.{string_bytes}
use Rattle.std.specs.BTreeMap.{get_by_text}
use Rattle.data_theory.specs.Places.{KnowsPlaces}
use Rattle.data_theory.proofs.PlaceLemmas.{map_taken}
use Rattle.data_theory.proofs.IndexLemmas.{known_of_fewer}
use Rattle.data_theory.proofs.names.Names.truncate.Goals as goal
use Rattle.data_theory.proofs.names.Names.truncate.Goals.{After-truncate}

cut : (c : After-truncate) → map string_bytes c.truncate.new.self.items ≡ take c.args.length (map string_bytes c.self.inside.texts.items)
cut c = ap (map string_bytes) c.truncate.ensures.items ∙ map_taken string_bytes c.args.length c.self.inside.texts.items

pub invariant_of-self : goal.invariant_of-self
invariant_of-self c = subst (KnowsPlaces (get_by_text c.self.inside.index)) (sym (cut c)) (known_of_fewer (get_by_text c.self.inside.index) _ c.self.invariant c.args.length)

pub returns : goal.returns
returns c = cut c ∙ ap (take c.args.length) c.self.view_is
