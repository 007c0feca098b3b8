-- How the start comes out, in code.
use Rattle.std.specs.Prelude.{◌≡◌, ◌<◌, List, length, Option, Some, None, Vec, slice_index_or}
use Rattle.std.specs.Global.{Global}
use Rattle.std.proofs.Common.{subst}
use Rattle.data_theory.specs.IdTrees.{Tree}
use Rattle.data_theory.specs.declared.ids.TermId.{TermId}
use Rattle.process_terms.specs.Communication.{equalities}
use Rattle.lps_core.specs.PlainLinears.{PlainLinear, plain_next}
use Rattle.lps_simulator.specs.OptionsInCode.{terms_at}
use Rattle.trace_replay.specs.Decidings.{Answer, fail, ComeOut}
use Rattle.trace_replay.specs.Settings.{Setting}
use Rattle.aut_check.specs.declared.systems.Lts.{Lts}
use Rattle.aut_check.specs.Comparing.{TheStart}
use Rattle.aut_check.specs.Matching.{has_ended, compared}
use Rattle.aut_check.specs.PlainSystems.{meant_state, plain_system}
use Rattle.aut_check.specs.Systems.{IsStateAt}
use Rattle.aut_check.specs.Verdicts.{sorts_in, system_in}
use Rattle.aut_check.proofs.GoodFiles.{map_at}
use Rattle.aut_check.proofs.RunningStates.{state_read}

module _ (s : Setting) (ts : List Tree) (l : PlainLinear) (f : Lts) (state : Option (Vec TermId Global)) (inside : f.first < length f.states.items) (is : state ≡ slice_index_or f.states.items f.first state) where
  state_stands : IsStateAt (system_in s ts (plain_system f)) f.first (meant_state s.signature ts (plain_next state))
  state_stands = map_at (meant_state s.signature ts) (plain_system f).states f.first (plain_next state) (state_read f.states.items f.first state inside is)

  pub start_ended : state ≡ None → TheStart s ts l (plain_system f) fail
  start_ended e = record {
    state = None;
    at = subst (λ (z : Option (Vec TermId Global)). IsStateAt (system_in s ts (plain_system f)) f.first (meant_state s.signature ts (plain_next z))) e state_stands;
    comes = has_ended;
  }

  pub start_compared : (terms : Vec TermId Global) → state ≡ Some terms → (a : Answer) → ComeOut s (equalities (sorts_in s ts l) (terms_at s.signature ts l.init) (terms_at s.signature ts terms.items)) a → TheStart s ts l (plain_system f) a
  start_compared terms e a c = record {
    state = Some (terms_at s.signature ts terms.items);
    at = subst (λ (z : Option (Vec TermId Global)). IsStateAt (system_in s ts (plain_system f)) f.first (meant_state s.signature ts (plain_next z))) e state_stands;
    comes = compared c;
  }
