-- What no good link can pair.
use Rattle.std.proofs.Common.{◌≡◌, List, [], ◌∷◌, subst}
use Rattle.data_theory.specs.Terms.{Term}
use Rattle.process_terms.specs.Theories.{Theory, AreOfSorts}
use Rattle.process_terms.specs.Labels.{Label}
use Rattle.process_terms.specs.Processes.{Process, delta, act, seq}
use Rattle.process_terms.specs.Steps.{Outcome, ended, goes_on, Step, by_act, by_seq}
use Rattle.bisim_laws.specs.Bisimulations.{Lands, UpTo, up_to}
use Rattle.bisim_laws.specs.LinearProcesses.{Linear, sorts}
use Rattle.bisim_laws.specs.BaseStates.{kept, AfterDropping, one_kept, DroppedState, dropped_state}
use Rattle.bisim_laws.specs.LinkChecks.{NothingDoneIsNoAnswer, EndingIsNotStopping, NothingPairedIsNotGood, AMissingParameterPairsNothing}

delta_stays : {th : Theory} {m : Label} {r : Outcome} → Step th delta m r → ⊥
delta_stays s = elim s [ ]

pub nothing_done : NothingDoneIsNoAnswer
nothing_done th l p m r s g = delta_stays (g.follows.forth p delta m r g.starts s).step

ended_goes_on : {R : Process → Process → Type 0} {p : Process} → Lands R ended (goes_on p) → ⊥
ended_goes_on h = elim h [ ]

stops_after : {th : Theory} {R : Process → Process → Type 0} {a m : Label} {r : Outcome} → Step th (seq (act a) delta) m r → Lands R ended r → ⊥
stops_after (by_seq by_act) h = ended_goes_on h

pub not_stopping : EndingIsNotStopping
not_stopping th l a g =
    let k = g.follows.forth (act a) (seq (act a) delta) a ended g.starts by_act in
    stops_after k.step k.lands

pub nothing_paired : NothingPairedIsNotGood
nothing_paired th l p q f g = f p q g.starts

no_sorts_left : (th : Theory) (l : Linear) → l.params ≡ [] → {ts us : List Term} → AfterDropping th (kept ∷ []) ts us → AreOfSorts th (sorts l.params) ts → ⊥
no_sorts_left th l e (one_kept {t = t} {ts = ts} h k) a = subst (λ ps. AreOfSorts th (sorts ps) (t ∷ ts)) e a

missing : (th : Theory) (l : Linear) → l.params ≡ [] → {p q : Process} → DroppedState th (kept ∷ []) l l p q → ⊥
missing th l e (dropped_state a b k) = no_sorts_left th l e k a

missing_up_to : (th : Theory) (l : Linear) → l.params ≡ [] → {p q : Process} → UpTo th (DroppedState th (kept ∷ []) l l) p q → ⊥
missing_up_to th l e (up_to h s k) = missing th l e s

pub missing_parameter : AMissingParameterPairsNothing
missing_parameter th l e p q h = missing_up_to th l e h
