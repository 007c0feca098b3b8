use Rattle.std.proofs.Common.{◌∙◌, ap}
use Rattle.lps_simulator.specs.Combinations.{rows, behind_places}
use Rattle.lps_simulator.proofs.Placing.{gives_next}
use Rattle.lps_simulator.proofs.combinations.Combinations.next.Goals as goal

pub returns-clause-next : goal.returns-clause-next
returns-clause-next c = gives_next c.self.inside.lists.items c.as_slice-lists.result.now c.self.inside.places.items c.fill.new.places.items c.as_slice.result.now c.pass.new.places.items c.self.inside.over c.in_ok-more.more c.args.self.now c.in_ok-values.values.items
    c.self.view_is c.if-self.false c.as_slice-lists.ensures.value c.fill.ensures.left c.fill.ensures.within c.in_ok-fill.ensures.full c.as_slice.ensures.value c.in_ok-values.ensures (c.in_ok-more.ensures.left ∙ ap (behind_places (rows c.as_slice-lists.result.now)) (c.in_ok-places.ensures.items ∙ c.as_slice-2.ensures.value))
