use Rattle.std.proofs.Common.{◌≡◌, ◌<◌, ◌∙◌, [], length, map, refl, sym, subst, ap, ap₂}
use Rattle.std.specs.List.{All}
use Rattle.data_theory.specs.declared.ids.SortId.{SortId}
use Rattle.lps_core.specs.Fitting.{sort_of_variable}
use Rattle.lps_core.specs.PlainLinears.{plain_linear, plain_next}
use Rattle.lps_simulator.proofs.FittingSummands.{sorts_within}
use Rattle.aut_check.specs.EnteredSystems.{entered_edge, entered_state, EdgeHasPlaces, StateHasPlaces}
use Rattle.aut_check.specs.LineParts.{counts_of}
use Rattle.aut_check.specs.PlainSystems.{plain_edge, plain_system}
use Rattle.aut_check.specs.ReadSystems.{sorts_of_parameters, AreReadStates, EdgesAre, FileStatesAre, IsSystemFault}
use Rattle.aut_check.proofs.EnteredSystems.{aut_fault, edges_entered, edges_places, passed_on, states_entered, states_fault, states_places, system_read}
use Rattle.aut_check.proofs.ReadEdges.{edges_stay}
use Rattle.aut_check.proofs.reading.read_lts.Goals as goal

pub read_states-requires-clause-sorts : goal.read_states-requires-clause-sorts
read_states-requires-clause-sorts c =
    let g = c.args.sig.now in
    let params = (plain_linear c.args.lin.now).params in
    let sorts : c.as_slice-sorts.result.now ≡ sorts_of_parameters g params = c.as_slice-sorts.ensures.value ∙ c.in_ok-sorts.ensures ∙ ap (map (sort_of_variable g)) c.as_slice.ensures.value in
    subst (All (λ (s : SortId). s.0 < length g.sorts)) (sym sorts) (sorts_within g c.signature_stands.ensures [] params c.requires)

pub entered_edges-requires : goal.entered_edges-requires
entered_edges-requires c =
    let g = c.args.sig.now in
    let read = c.in_ok-counts.ensures.read in
    let xs = map plain_edge c.in_ok-counts.edges.items in
    let are = edges_stay g c.read_aut.new.pool.trees c.read_states.new.pool.trees c.read_states.ensures.kept xs read.edges read.are in
    subst (λ ids. All (EdgeHasPlaces ids) (map plain_edge c.as_slice-2.result.now)) (sym c.as_slice-ids.ensures.value)
    (subst (λ edges. All (EdgeHasPlaces c.in_ok-ids.ids.items) (map plain_edge edges)) (sym c.as_slice-2.ensures.value)
    (edges_places g c.read_states.new.pool.trees c.enter_all.new.to.trees c.in_ok-ids.ids.items c.in_ok-ids.ensures.entered xs read.edges are))

pub entered_states-requires : goal.entered_states-requires
entered_states-requires c =
    let g = c.args.sig.now in
    let read = c.in_ok-states.ensures.read in
    let xs = map plain_next c.in_ok-states.states.items in
    subst (λ ids. All (StateHasPlaces ids) (map plain_next c.as_slice-3.result.now)) (sym c.as_slice-ids.ensures.value)
    (subst (λ states. All (StateHasPlaces c.in_ok-ids.ids.items) (map plain_next states)) (sym c.as_slice-3.ensures.value)
    (states_places g c.read_states.new.pool.trees c.enter_all.new.to.trees c.in_ok-ids.ids.items c.in_ok-ids.ensures.entered c.as_slice-sorts.result.now xs read.states read.are))

pub returns-in_err-counts-clause-fault : goal.returns-in_err-counts-clause-fault
returns-in_err-counts-clause-fault c =
    passed_on (IsSystemFault c.args.sig.now (plain_linear c.args.lin.now).params c.args.aut.now c.args.states.now) c.from_residual-in_err-counts.result c.in_err-counts.field-0.0
    (aut_fault c.args.sig.now (plain_linear c.args.lin.now).params c.args.aut.now c.args.states.now c.in_err-counts.field-0.0 c.in_err-counts.ensures.fault) c.from_residual-in_err-counts.ensures.1

pub returns-in_err-states-clause-fault : goal.returns-in_err-states-clause-fault
returns-in_err-states-clause-fault c =
    let g = c.args.sig.now in
    let params = (plain_linear c.args.lin.now).params in
    let sorts : c.as_slice-sorts.result.now ≡ sorts_of_parameters g params = c.as_slice-sorts.ensures.value ∙ c.in_ok-sorts.ensures ∙ ap (map (sort_of_variable g)) c.as_slice.ensures.value in
    passed_on (IsSystemFault g params c.args.aut.now c.args.states.now) c.from_residual-in_err-states.result c.in_err-states.field-0.0
    (states_fault g c.read_aut.new.pool.trees params c.as_slice-sorts.result.now c.args.aut.now c.args.states.now (counts_of c.in_ok-counts.counts) (map plain_edge c.in_ok-counts.edges.items) c.in_err-states.field-0.0 sorts c.in_ok-counts.ensures.read c.in_err-states.ensures.fault)
    c.from_residual-in_err-states.ensures.1

pub returns-clause-read : goal.returns-clause-read
returns-clause-read c =
    let g = c.args.sig.now in
    let params = (plain_linear c.args.lin.now).params in
    let own = c.read_states.new.pool.trees in
    let us = c.enter_all.new.to.trees in
    let ids = c.in_ok-ids.ids.items in
    let sorts : c.as_slice-sorts.result.now ≡ sorts_of_parameters g params = c.as_slice-sorts.ensures.value ∙ c.in_ok-sorts.ensures ∙ ap (map (sort_of_variable g)) c.as_slice.ensures.value in
    let edges = c.in_ok-counts.ensures.read in
    let xs = map plain_edge c.in_ok-counts.edges.items in
    let are = edges_stay g c.read_aut.new.pool.trees own c.read_states.ensures.kept xs edges.edges edges.are in
    let made = c.in_ok-entered_edges.ensures ∙ ap₂ (λ i e. map (entered_edge i) (map plain_edge e)) c.as_slice-ids.ensures.value c.as_slice-2.ensures.value in
    let read : AreReadStates g own (sorts_of_parameters g params) c.args.states.now c.in_ok-counts.counts.states (map plain_next c.in_ok-states.states.items) = subst (λ ss. AreReadStates g own ss c.args.states.now c.in_ok-counts.counts.states (map plain_next c.in_ok-states.states.items)) sorts c.in_ok-states.ensures.read in
    let placed = c.in_ok-entered_states.ensures ∙ ap₂ (λ i s. map (entered_state i) (map plain_next s)) c.as_slice-ids.ensures.value c.as_slice-3.ensures.value in
    system_read g c.signature_stands.ensures us params c.requires c.args.aut.now c.args.states.now (counts_of c.in_ok-counts.counts)
    (plain_system (record { first = c.in_ok-counts.counts.first; edges = c.in_ok-entered_edges.field-0; states = c.in_ok-entered_states.field-0 })) edges.edges read.states refl edges.is_aut
    (subst (λ ys. EdgesAre g us ys edges.edges) (sym made) (edges_entered g own us ids c.in_ok-ids.ensures.entered xs edges.edges are)) read.are_states
    (subst (λ ys. FileStatesAre g us (sorts_of_parameters g params) ys read.states) (sym placed) (states_entered g own us ids c.in_ok-ids.ensures.entered (sorts_of_parameters g params) (map plain_next c.in_ok-states.states.items) read.states read.are))
