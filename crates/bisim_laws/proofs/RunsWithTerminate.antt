-- Runs of two processes of which the second one never ends.
use Rattle.std.proofs.Common.{◌≡◌, List, [], ◌∷◌, refl, sym, subst}
use Rattle.process_terms.specs.Theories.{Theory}
use Rattle.process_terms.specs.Labels.{Label}
use Rattle.process_terms.specs.Processes.{Process}
use Rattle.process_terms.specs.Steps.{Outcome, ended, goes_on, Step}
use Rattle.bisim_laws.specs.Terminations.{terminate_label, ComesToDeadlock, comes_to_deadlock, LandsOrTerminates, the_first_ends, the_first_goes_on, TerminatingBisimulation}
use Rattle.bisim_laws.specs.Runs.{Run, no_step, one_step}
use Rattle.bisim_laws.specs.TerminatingRuns.{AgreeEach, no_labels, one_label, ComesFrom, from_a_run, from_an_end, AnswersRun, RunsComeFromRuns, RunsAreAnswered}

module _ {th : Theory} {R : Process → Process → Type 0} {E : Process → Type 0} (f : TerminatingBisimulation th R E) where
  -- one step more in front
  in_front : {p p' : Process} {m n : Label} {ms : List Label} {r : Outcome} → Step th p n (goes_on p') → AgreeEach th (m ∷ []) (n ∷ []) → ComesFrom th R E p' ms r → ComesFrom th R E p (m ∷ ms) r
  in_front s (one_label a no_labels) (from_a_run k b l) = from_a_run (one_step s k) (one_label a b) l
  in_front {m = m} s (one_label a no_labels) (from_an_end {ms = ms} k b w) = from_an_end {ms = m ∷ ms} (one_step s k) (one_label a b) w

  -- behind the last step there is nothing
  nothing_more : {ms : List Label} {o r : Outcome} → ComesToDeadlock th o → Run th o ms r → (ms ≡ []) × ComesToDeadlock th r
  nothing_more h no_step = (refl, h)
  nothing_more (comes_to_deadlock k) (one_step {q = q} {m = m} s t) = absurd (k m q s)

  deadlock_from : {p : Process} {m n : Label} {o : Outcome} → Step th p n ended → AgreeEach th (m ∷ []) (n ∷ []) → {k : Label} → k ≡ terminate_label → ComesToDeadlock th o → ComesFrom th R E p (m ∷ k ∷ []) o
  deadlock_from {p} {m} s a e (comes_to_deadlock {p = q} w) = subst (λ z. ComesFrom th R E p (m ∷ z ∷ []) (goes_on q)) (sym e) (from_an_end {ms = m ∷ []} (one_step s no_step) a w)

  -- behind the first one's end
  behind_end : {p q : Process} {m n : Label} {ms : List Label} {r : Outcome} → Step th p n ended → AgreeEach th (m ∷ []) (n ∷ []) → E q → Run th (goes_on q) ms r → ComesFrom th R E p (m ∷ ms) r
  behind_end s a e no_step = from_a_run (one_step s no_step) a (the_first_ends e)
  behind_end {p} {q} {m} s a e (one_step {q = o} {r = r} {m = k} {ms = ms} t w) =
      let c = (f.terminates q e).each k o t in
      let d = nothing_more c.deadlock w in
      subst (λ z. ComesFrom th R E p (m ∷ k ∷ z) r) (sym d.0) (deadlock_from s a c.label d.1)

  -- what comes of an outcome
  data ComesOut : Outcome → List Label → Outcome → Type 0 where
    it_goes_on : {p : Process} {ms : List Label} {r : Outcome} → ComesFrom th R E p ms r → ComesOut (goes_on p) ms r
    it_ended : {q : Process} {ms : List Label} {r : Outcome} → E q → Run th (goes_on q) ms r → ComesOut ended ms r

  comes_behind : {p : Process} {m n : Label} {u r : Outcome} {ms : List Label} → Step th p n u → AgreeEach th (m ∷ []) (n ∷ []) → ComesOut u ms r → ComesFrom th R E p (m ∷ ms) r
  comes_behind s a (it_goes_on k) = in_front s a k
  comes_behind s a (it_ended e k) = behind_end s a e k

  comes_out : {o r : Outcome} {ms : List Label} → Run th o ms r → (u : Outcome) → LandsOrTerminates R E u o → ComesOut u ms r
  comes_out no_step _ (the_first_goes_on h) = it_goes_on (from_a_run no_step no_labels (the_first_goes_on h))
  comes_out no_step _ (the_first_ends e) = it_ended e no_step
  comes_out (one_step {q = o} {m = m} s t) _ (the_first_goes_on {p = p} {q = q} h) = let a = f.back q p m o h s in it_goes_on (comes_behind a.step (one_label a.agree no_labels) (comes_out t a.outcome a.lands))
  comes_out (one_step s t) _ (the_first_ends e) = it_ended e (one_step s t)

  it_comes : {p : Process} {ms : List Label} {r : Outcome} → ComesOut (goes_on p) ms r → ComesFrom th R E p ms r
  it_comes (it_goes_on k) = k

  pub comes_from : {p q : Process} {ms : List Label} {r : Outcome} → R p q → Run th (goes_on q) ms r → ComesFrom th R E p ms r
  comes_from h k = it_comes (comes_out k _ (the_first_goes_on h))

  -- ---- the other way round
  data AnswersOut : Outcome → List Label → Outcome → Type 0 where
    by_a_run : {q : Process} {ns : List Label} {o : Outcome} → AnswersRun th R E q ns o → AnswersOut (goes_on q) ns o

  answers_behind : {q : Process} {m n : Label} {r o : Outcome} {ns : List Label} → Step th q n r → AgreeEach th (m ∷ []) (n ∷ []) → AnswersOut r ns o → AnswersRun th R E q (m ∷ ns) o
  answers_behind {n = n} s (one_label a no_labels) (by_a_run k) = record { labels = n ∷ k.labels; outcome = k.outcome; run = one_step s k.run; agree = one_label a k.agree; lands = k.lands }

  answers_out : {u o : Outcome} {ns : List Label} → Run th u ns o → (r : Outcome) → LandsOrTerminates R E u r → AnswersOut r ns o
  answers_out no_step _ (the_first_goes_on {q = q} h) = by_a_run (record { labels = []; outcome = goes_on q; run = no_step; agree = no_labels; lands = the_first_goes_on h })
  answers_out no_step _ (the_first_ends {q = q} e) = by_a_run (record { labels = []; outcome = goes_on q; run = no_step; agree = no_labels; lands = the_first_ends e })
  answers_out (one_step {q = u} {m = m} s t) _ (the_first_goes_on {p = p} {q = q} h) = let a = f.forth p q m u h s in by_a_run (answers_behind a.step (one_label a.agree no_labels) (answers_out t a.outcome a.lands))

  it_answers : {q : Process} {ns : List Label} {o : Outcome} → AnswersOut (goes_on q) ns o → AnswersRun th R E q ns o
  it_answers (by_a_run k) = k

  pub answers : {p q : Process} {ns : List Label} {o : Outcome} → R p q → Run th (goes_on p) ns o → AnswersRun th R E q ns o
  answers h k = it_answers (answers_out k _ (the_first_goes_on h))

pub runs_come_from : RunsComeFromRuns
runs_come_from th l p q g ms r k = comes_from g.follows g.starts k

pub runs_answered : RunsAreAnswered
runs_answered th l p q g ns o k = answers g.follows g.starts k
