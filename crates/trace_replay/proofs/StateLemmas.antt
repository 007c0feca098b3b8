-- States as the pool grows.
use Rattle.std.specs.Prelude.{◌≡◌, List, [], ◌∷◌, map, Option, Some, None, IfSome}
use Rattle.std.proofs.Common.{refl, sym, subst, ap, ap₂, ◌∙◌}
use Rattle.std.specs.List.{All, Contains}
use Rattle.std.proofs.lemmas.List.Elements.{All-nil, All-cons, All-head, All-tail, All-contains, All-weaker}
use Rattle.data_theory.specs.declared.ids.TermId.{TermId}
use Rattle.data_theory.specs.Signature.{Sig}
use Rattle.data_theory.specs.IdTrees.{Tree}
use Rattle.data_theory.specs.Terms.{Term}
use Rattle.term_pool.specs.Pools.{Extends}
use Rattle.data_rewriter.specs.Standing.{IsTerm, term_at}
use Rattle.data_rewriter.proofs.Standings.{term_kept}
use Rattle.lps_core.proofs.Members.{all_from}
use Rattle.lps_simulator.proofs.Bindings.{terms_stay}
use Rattle.trace_replay.specs.declared.states.States.{States}
use Rattle.trace_replay.specs.States.{plain_states, meant_state, meant_states, StateStands, StatesStand}

module _ (g : Sig) (ts us : List Tree) (e : Extends ts us) where
  pub terms_kept : (ids : List TermId) → All (IsTerm g ts) ids → map (term_at g us) ids ≡ map (term_at g ts) ids
  terms_kept [] h = refl
  terms_kept (id ∷ ids) h = ap₂ (λ (t : Term) (z : List Term). t ∷ z) (term_kept g ts us id e (All-head (IsTerm g ts) id ids h).inside) (terms_kept ids (All-tail (IsTerm g ts) id ids h))

  state_kept : (o : Option (List TermId)) → StateStands g ts o → meant_state g us o ≡ meant_state g ts o
  state_kept None h = refl
  state_kept (Some ids) h = ap (λ (z : List Term). Some z) (terms_kept ids h)

  state_stays : (o : Option (List TermId)) → StateStands g ts o → StateStands g us o
  state_stays None h = tt
  state_stays (Some ids) h = terms_stay g ts us ids e h

  all_kept : (os : List (Option (List TermId))) → All (StateStands g ts) os → map (meant_state g us) os ≡ map (meant_state g ts) os
  all_kept [] h = refl
  all_kept (o ∷ os) h = ap₂ (λ x z. x ∷ z) (state_kept o (All-head (StateStands g ts) o os h)) (all_kept os (All-tail (StateStands g ts) o os h))

  pub states_kept : (states : States) → StatesStand g ts states → meant_states g us states ≡ meant_states g ts states
  states_kept states h = all_kept (plain_states states) h

  pub states_stay : (states : States) → StatesStand g ts states → StatesStand g us states
  states_stay states h = All-weaker (StateStands g ts) (StateStands g us) state_stays (plain_states states) h
