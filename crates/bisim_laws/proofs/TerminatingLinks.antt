-- Links that are good with `Terminate`.
use Rattle.std.proofs.Common.{◌≡◌, [], refl, subst}
use Rattle.process_terms.specs.Names.{Name}
use Rattle.process_terms.specs.Theories.{Theory, no_terms}
use Rattle.process_terms.specs.Labels.{Label, AgreeInOrder, both_silent, next_agree, equal_args}
use Rattle.process_terms.specs.Processes.{Process, delta, act, seq, call, the_body}
use Rattle.process_terms.specs.Steps.{Outcome, ended, goes_on, Step, by_act, by_seq, by_call}
use Rattle.process_terms.proofs.AgreeingLabels.{agree_trans}
use Rattle.bisim_laws.specs.Sameness.{Alike, turned, joined_up}
use Rattle.bisim_laws.specs.Bisimulations.{Lands, both_end, both_go_on, Answers, Replies, Flipped, Bisimulation, Joined, joined, UpTo, up_to}
use Rattle.bisim_laws.specs.Terminations.{without_arguments, terminate_name, terminate_label, ComesToDeadlock, comes_to_deadlock, Terminates, LandsOrTerminates, the_first_ends, the_first_goes_on, Exchanged, TerminatingBisimulation, EndJoined, end_joined, TerminatingProgress}
use Rattle.bisim_laws.specs.LinkLaws.{ThenIsGoodWithTerminate, SealedIsGoodWithTerminate, UpToSameIsEnoughWithTerminate}
use Rattle.bisim_laws.specs.LinkChecks.{again_and_again, WhatEndsIsNotGoodWithTerminate, StoppingIsNotTerminating, DeadlockIsNotTerminating, TerminatingAgainIsNotTerminating}
use Rattle.bisim_laws.proofs.AlikeProcesses.{alike_answers, alike_bisimulation}

-- ---- what takes the place of the end goes along a bisimulation
alone_agrees : {th : Theory} (a : Name) {m : Label} → AgreeInOrder th m (without_arguments a) → m ≡ without_arguments a
alone_agrees a (next_agree (equal_args no_terms) both_silent) = refl

last_label : {th : Theory} {m n : Label} → AgreeInOrder th m n → n ≡ terminate_label → m ≡ terminate_label
last_label {th} {m} {n} h e = alone_agrees terminate_name (subst (λ z. AgreeInOrder th m z) e h)

deadlocks_along : {th : Theory} {S : Process → Process → Type 0} → Answers th S S → {r o : Outcome} → Lands S r o → ComesToDeadlock th o → ComesToDeadlock th r
deadlocks_along f both_end k = elim k [ ]
deadlocks_along f (both_go_on {p = p} {q = q} h) (comes_to_deadlock k) = comes_to_deadlock (λ m r s. let a = f p q m r h s in k a.label a.outcome a.step)

pub terminates_along : {th : Theory} {S : Process → Process → Type 0} → Bisimulation th S → (z q : Process) → S z q → Terminates th z → Terminates th q
terminates_along {th} {S} f z q h t =
    let a = f.forth z q t.label t.outcome h t.step in
    record {
      label = a.label;
      outcome = a.outcome;
      step = a.step;
      each = λ m r s.
          let b = f.back q z m r h s in
          let c = t.each b.label b.outcome b.step in
          record { label = last_label b.agree c.label; deadlock = deadlocks_along f.back b.lands c.deadlock };
    }

-- ---- one relation after another
lands_then : {R S : Process → Process → Type 0} {E : Process → Type 0} {r s t : Outcome} → LandsOrTerminates R E r s → Lands S s t → LandsOrTerminates (Joined R S) (EndJoined E S) r t
lands_then (the_first_ends e) (both_go_on k) = the_first_ends (end_joined e k)
lands_then (the_first_goes_on h) (both_go_on k) = the_first_goes_on (joined h k)

lands_then_back : {R S : Process → Process → Type 0} {E : Process → Type 0} {r s t : Outcome} → Lands (Flipped S) t s → LandsOrTerminates R E r s → LandsOrTerminates (Joined R S) (EndJoined E S) r t
lands_then_back both_end h = elim h [ ]
lands_then_back (both_go_on k) (the_first_ends e) = the_first_ends (end_joined e k)
lands_then_back (both_go_on k) (the_first_goes_on h) = the_first_goes_on (joined h k)

then_forth : {th : Theory} {R S : Process → Process → Type 0} {E : Process → Type 0} → TerminatingBisimulation th R E → Bisimulation th S → Replies th (Joined R S) (LandsOrTerminates (Joined R S) (EndJoined E S))
then_forth f g p q m r (joined {z = z} h k) s =
    let a = f.forth p z m r h s in
    let b = g.forth z q a.label a.outcome k a.step in
    record { label = b.label; outcome = b.outcome; step = b.step; agree = agree_trans a.agree b.agree; lands = lands_then a.lands b.lands }

then_back : {th : Theory} {R S : Process → Process → Type 0} {E : Process → Type 0} → TerminatingBisimulation th R E → Bisimulation th S → Replies th (Flipped (Joined R S)) (Exchanged (LandsOrTerminates (Joined R S) (EndJoined E S)))
then_back f g q p m r (joined {z = z} h k) s =
    let a = g.back q z m r k s in
    let b = f.back z p a.label a.outcome h a.step in
    record { label = b.label; outcome = b.outcome; step = b.step; agree = agree_trans a.agree b.agree; lands = lands_then_back a.lands b.lands }

then_ends : {th : Theory} {R S : Process → Process → Type 0} {E : Process → Type 0} → TerminatingBisimulation th R E → Bisimulation th S → (q : Process) → EndJoined E S q → Terminates th q
then_ends f g q (end_joined {z = z} e k) = terminates_along g z q k (f.terminates z e)

pub terminating_then : {th : Theory} {R S : Process → Process → Type 0} {E : Process → Type 0} → TerminatingBisimulation th R E → Bisimulation th S → TerminatingBisimulation th (Joined R S) (EndJoined E S)
terminating_then f g = record { forth = then_forth f g; back = then_back f g; terminates = then_ends f g }

-- ---- behind a bisimulation
lands_behind : {R S : Process → Process → Type 0} {E : Process → Type 0} {r s t : Outcome} → Lands R r s → LandsOrTerminates S E s t → LandsOrTerminates (Joined R S) E r t
lands_behind both_end (the_first_ends e) = the_first_ends e
lands_behind (both_go_on h) (the_first_goes_on k) = the_first_goes_on (joined h k)

lands_behind_back : {R S : Process → Process → Type 0} {E : Process → Type 0} {r s t : Outcome} → LandsOrTerminates S E s t → Lands (Flipped R) s r → LandsOrTerminates (Joined R S) E r t
lands_behind_back (the_first_ends e) both_end = the_first_ends e
lands_behind_back (the_first_goes_on k) (both_go_on h) = the_first_goes_on (joined h k)

behind_forth : {th : Theory} {R S : Process → Process → Type 0} {E : Process → Type 0} → Bisimulation th R → TerminatingBisimulation th S E → Replies th (Joined R S) (LandsOrTerminates (Joined R S) E)
behind_forth f g p q m r (joined {z = z} h k) s =
    let a = f.forth p z m r h s in
    let b = g.forth z q a.label a.outcome k a.step in
    record { label = b.label; outcome = b.outcome; step = b.step; agree = agree_trans a.agree b.agree; lands = lands_behind a.lands b.lands }

behind_back : {th : Theory} {R S : Process → Process → Type 0} {E : Process → Type 0} → Bisimulation th R → TerminatingBisimulation th S E → Replies th (Flipped (Joined R S)) (Exchanged (LandsOrTerminates (Joined R S) E))
behind_back f g q p m r (joined {z = z} h k) s =
    let a = g.back q z m r k s in
    let b = f.back z p a.label a.outcome h a.step in
    record { label = b.label; outcome = b.outcome; step = b.step; agree = agree_trans a.agree b.agree; lands = lands_behind_back a.lands b.lands }

pub terminating_behind : {th : Theory} {R S : Process → Process → Type 0} {E : Process → Type 0} → Bisimulation th R → TerminatingBisimulation th S E → TerminatingBisimulation th (Joined R S) E
terminating_behind f g = record { forth = behind_forth f g; back = behind_back f g; terminates = g.terminates }

-- ---- up to what is the same
lands_same : {th : Theory} {R : Process → Process → Type 0} {E : Process → Type 0} {a b c d : Outcome} → Lands (Alike th) a b → LandsOrTerminates (UpTo th R) (EndJoined E (Alike th)) b c → Lands (Alike th) c d
    → LandsOrTerminates (UpTo th R) (EndJoined E (Alike th)) a d
lands_same both_end (the_first_ends (end_joined e k)) (both_go_on j) = the_first_ends (end_joined e (joined_up k j))
lands_same (both_go_on h) (the_first_goes_on (up_to i r j)) (both_go_on k) = the_first_goes_on (up_to (joined_up h i) r (joined_up j k))

lands_same_back : {th : Theory} {R : Process → Process → Type 0} {E : Process → Type 0} {a b c d : Outcome} → Lands (Alike th) d c → LandsOrTerminates (UpTo th R) (EndJoined E (Alike th)) b c → Lands (Alike th) b a
    → LandsOrTerminates (UpTo th R) (EndJoined E (Alike th)) a d
lands_same_back both_end h k = elim h [ ]
lands_same_back (both_go_on j) (the_first_ends (end_joined e k)) both_end = the_first_ends (end_joined e (joined_up k (turned j)))
lands_same_back (both_go_on k) (the_first_goes_on (up_to i r j)) (both_go_on h) = the_first_goes_on (up_to (joined_up (turned h) i) r (joined_up j (turned k)))

up_to_forth : {th : Theory} {R : Process → Process → Type 0} {E : Process → Type 0} → TerminatingProgress th R E → Replies th (UpTo th R) (LandsOrTerminates (UpTo th R) (EndJoined E (Alike th)))
up_to_forth {th} f p q m r (up_to {x = x} {y = y} h i k) s =
    let a = alike_answers th p x m r h s in
    let b = f.forth x y a.label a.outcome i a.step in
    let c = alike_answers th y q b.label b.outcome k b.step in
    record { label = c.label; outcome = c.outcome; step = c.step; agree = agree_trans (agree_trans a.agree b.agree) c.agree; lands = lands_same a.lands b.lands c.lands }

up_to_back : {th : Theory} {R : Process → Process → Type 0} {E : Process → Type 0} → TerminatingProgress th R E → Replies th (Flipped (UpTo th R)) (Exchanged (LandsOrTerminates (UpTo th R) (EndJoined E (Alike th))))
up_to_back {th} f q p m r (up_to {x = x} {y = y} h i k) s =
    let a = alike_answers th q y m r (turned k) s in
    let b = f.back y x a.label a.outcome i a.step in
    let c = alike_answers th x p b.label b.outcome (turned h) b.step in
    record { label = c.label; outcome = c.outcome; step = c.step; agree = agree_trans (agree_trans a.agree b.agree) c.agree; lands = lands_same_back a.lands b.lands c.lands }

up_to_ends : {th : Theory} {R : Process → Process → Type 0} {E : Process → Type 0} → TerminatingProgress th R E → (q : Process) → EndJoined E (Alike th) q → Terminates th q
up_to_ends {th} f q (end_joined {z = z} e k) = terminates_along (alike_bisimulation th) z q k (f.terminates z e)

pub up_to_terminating : {th : Theory} {R : Process → Process → Type 0} {E : Process → Type 0} → TerminatingProgress th R E → TerminatingBisimulation th (UpTo th R) (EndJoined E (Alike th))
up_to_terminating f = record { forth = up_to_forth f; back = up_to_back f; terminates = up_to_ends f }

-- ---- the laws
pub then_terminating : ThenIsGoodWithTerminate
then_terminating th k l p z q g h = record { starts = joined g.starts h.starts; follows = terminating_then g.follows h.follows }

pub sealed_terminating : SealedIsGoodWithTerminate
sealed_terminating th b l k j p x q g h = record { starts = joined g.starts h.starts; follows = terminating_behind g.follows h.follows }

pub enough_terminating : UpToSameIsEnoughWithTerminate
enough_terminating th b l k f = up_to_terminating f

-- ---- what no link pairs
never_both_end : {R : Process → Process → Type 0} {E : Process → Type 0} {r : Outcome} → LandsOrTerminates R E r ended → ⊥
never_both_end h = elim h [ ]

pub what_ends : WhatEndsIsNotGoodWithTerminate
what_ends th l p q m g s = never_both_end (g.follows.back q p m ended g.starts s).lands

-- where the first one ends after one step, the second one terminates after some step
terminates_then : {th : Theory} {R : Process → Process → Type 0} {E : Process → Type 0} {a m : Label} {q : Process} {r : Outcome} → TerminatingBisimulation th R E → Step th (seq (act a) q) m r → LandsOrTerminates R E ended r → Terminates th q
terminates_then {q = q} f (by_seq by_act) (the_first_ends e) = f.terminates q e

delta_stays : {th : Theory} {m : Label} {r : Outcome} → Step th delta m r → ⊥
delta_stays s = elim s [ ]

pub stopping_not_terminating : StoppingIsNotTerminating
stopping_not_terminating th l a g =
    let k = g.follows.forth (act a) (seq (act a) delta) a ended g.starts by_act in
    delta_stays (terminates_then g.follows k.step k.lands).step

-- where the first one is in a deadlock after one step, the second one does no further step
does_no_more : {th : Theory} {R : Process → Process → Type 0} {E : Process → Type 0} {a m n : Label} {q : Process} {r : Outcome} → TerminatingBisimulation th R E → Step th (seq (act a) (seq (act n) q)) m r
    → LandsOrTerminates R E (goes_on delta) r → ⊥
does_no_more {n = n} {q = q} f (by_seq by_act) (the_first_goes_on h) = delta_stays (f.back (seq (act n) q) delta n (goes_on q) h (by_seq by_act)).step

pub deadlock_not_terminating : DeadlockIsNotTerminating
deadlock_not_terminating th l a g =
    let k = g.follows.forth (seq (act a) delta) (seq (act a) (seq (act terminate_label) delta)) a (goes_on delta) g.starts (by_seq by_act) in
    does_no_more g.follows k.step k.lands

again : {th : Theory} → Step th (call again_and_again 0 []) terminate_label (goes_on (call again_and_again 0 []))
again = by_call (the_body _ refl refl) (by_seq by_act)

no_deadlock : {th : Theory} {p : Process} {m : Label} {r : Outcome} → Step th p m r → ComesToDeadlock th (goes_on p) → ⊥
no_deadlock {m = m} {r = r} s (comes_to_deadlock k) = k m r s

pub again_not_terminating : TerminatingAgainIsNotTerminating
again_not_terminating th l a g =
    let k = g.follows.forth (act a) (seq (act a) (call again_and_again 0 [])) a ended g.starts by_act in
    let t = terminates_then g.follows k.step k.lands in
    no_deadlock again (t.each terminate_label (goes_on (call again_and_again 0 [])) again).deadlock
