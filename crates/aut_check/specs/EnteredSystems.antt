-- Edges and states over the numbers of their terms in another pool.
use Rattle.std.specs.Prelude.{List, map, option_map, Option, IfSome}
use Rattle.std.specs.List.{All}
use Rattle.data_theory.specs.declared.ids.TermId.{TermId}
use Rattle.trace_replay.specs.Entering.{entered_action, number_in, ActionHasPlaces, HavePlaces}
use Rattle.aut_check.specs.PlainSystems.{PlainEdge}

abbrev pub EdgeHasPlaces : List TermId → PlainEdge → Type 0
EdgeHasPlaces ids x = All (ActionHasPlaces ids) x.label

abbrev pub StateHasPlaces : List TermId → Option (List TermId) → Type 0
StateHasPlaces ids o = IfSome o (HavePlaces ids)

abbrev pub entered_edge : List TermId → PlainEdge → PlainEdge
entered_edge ids x = record { from = x.from; label = map (entered_action ids) x.label; to = x.to }

abbrev pub entered_state : List TermId → Option (List TermId) → Option (List TermId)
entered_state ids o = option_map (map (number_in ids)) o
