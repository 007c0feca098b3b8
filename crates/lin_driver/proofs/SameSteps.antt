-- Process terms that are the same but for the numbers of bound variables have the same steps.
use Rattle.std.proofs.Common.{◌≡◌, ℕ, zero, suc, List, [], ◌∷◌, Some, refl, sym, ◌∙◌, subst}
use Rattle.std.specs.Prelude.{slice_get}
use Rattle.std.proofs.lemmas.Option.{none-some, same_Some}
use Rattle.data_theory.specs.Terms.{Term}
use Rattle.data_theory.specs.Environments.{Environment, bound}
use Rattle.process_terms.specs.Theories.{Theory}
use Rattle.process_terms.specs.Labels.{Label}
use Rattle.process_terms.specs.Processes.{Body, written_delta, written_act, written_choice, written_seq, written_cond, written_sum, written_call, written_merge, written_starting, written_around, Definition, Table, Process, close, BodyOf, the_body}
use Rattle.process_terms.specs.Steps.{Outcome, ended, goes_on, before, beside, within, Step, by_act, by_left, by_right, by_seq, by_true, by_false, by_sum, by_call, by_left_alone, by_right_alone, by_both, by_left_merge, by_sync, by_around}
use Rattle.bisim_laws.specs.Bisimulations.{Lands, both_end, both_go_on}
use Rattle.bisim_laws.proofs.AlikeProcesses.{lands_before, lands_beside, lands_within}
use Rattle.lin_driver.specs.SameProcesses.{SameDefinition, SameDefinitions, SameProcess, same_delta, same_act, same_choice, same_seq, same_cond, same_sum, same_call, same_merge, same_starting, same_around}

pub closed_same : (d e : Table) → SameDefinitions d e → (k : Environment) (b : Body) → SameProcess (close d k b) (close e k b)
closed_same d e h k written_delta = same_delta
closed_same d e h k (written_act m) = same_act
closed_same d e h k (written_choice p q) = same_choice (closed_same d e h k p) (closed_same d e h k q)
closed_same d e h k (written_seq p q) = same_seq (closed_same d e h k p) (closed_same d e h k q)
closed_same d e h k (written_cond c p q) = same_cond (closed_same d e h k p) (closed_same d e h k q)
closed_same d e h k (written_sum x p) = same_sum (λ t. closed_same d e h (record { var = x.var; term = t } ∷ k) p)
closed_same d e h k (written_call x ts) = same_call h
closed_same d e h k (written_merge p q) = same_merge (closed_same d e h k p) (closed_same d e h k q)
closed_same d e h k (written_starting o p q) = same_starting (closed_same d e h k p) (closed_same d e h k q)
closed_same d e h k (written_around o p) = same_around (closed_same d e h k p)

-- ---- the other way round
definition_turned : (f g : Definition) → SameDefinition f g → SameDefinition g f
definition_turned f g h = record { params = sym h.params; bodies = λ d ts l. sym (h.bodies d ts (l ∙ sym h.params)) }

definitions_turned : (d e : Table) → SameDefinitions d e → SameDefinitions e d
definitions_turned [] [] h = tt
definitions_turned [] (g ∷ e) h = absurd h
definitions_turned (f ∷ d) [] h = absurd h
definitions_turned (f ∷ d) (g ∷ e) h = (definition_turned f g h.0, definitions_turned d e h.1)

pub process_turned : {p q : Process} → SameProcess p q → SameProcess q p
process_turned same_delta = same_delta
process_turned same_act = same_act
process_turned (same_choice h k) = same_choice (process_turned h) (process_turned k)
process_turned (same_seq h k) = same_seq (process_turned h) (process_turned k)
process_turned (same_cond h k) = same_cond (process_turned h) (process_turned k)
process_turned (same_sum h) = same_sum (λ t. process_turned (h t))
process_turned (same_call {d = d} {e = e} h) = same_call (definitions_turned d e h)
process_turned (same_merge h k) = same_merge (process_turned h) (process_turned k)
process_turned (same_starting h k) = same_starting (process_turned h) (process_turned k)
process_turned (same_around h) = same_around (process_turned h)

pub lands_turned : {o u : Outcome} → Lands SameProcess o u → Lands SameProcess u o
lands_turned both_end = both_end
lands_turned (both_go_on h) = both_go_on (process_turned h)

-- ---- steps
definition_at : (d e : Table) → SameDefinitions d e → (x : ℕ) (f : Definition) → slice_get d x ≡ Some f → (g : Definition) × (slice_get e x ≡ Some g) × SameDefinition f g
definition_at [] e h x f at = absurd (none-some f at)
definition_at (c ∷ d) [] h x f at = absurd h
definition_at (c ∷ d) (g ∷ e) h zero f at = (g, refl, subst (λ (z : Definition). SameDefinition z g) (same_Some c f at) h.0)
definition_at (c ∷ d) (g ∷ e) h (suc x) f at = definition_at d e h.1 x f at

same_body : {d e : Table} → SameDefinitions d e → {x : ℕ} {ts : List Term} {p : Process} → BodyOf d x ts p → (q : Process) × BodyOf e x ts q × SameProcess p q
same_body {d} {e} h (the_body {x = x} {ts = ts} f at l) =
    let g = definition_at d e h x f at in
    (close e (bound g.0.params ts) g.0.body, the_body g.0 g.1 (l ∙ g.2.params), subst (λ (q : Process). SameProcess (close d (bound f.params ts) f.body) q) (g.2.bodies e ts l) (closed_same d e h (bound f.params ts) f.body))

pub same_step : (th : Theory) {p q : Process} {m : Label} {o : Outcome} → SameProcess p q → Step th p m o → (u : Outcome) × Step th q m u × Lands SameProcess o u
same_step th same_delta s = elim s [ ]
same_step th same_act by_act = (ended, by_act, both_end)
same_step th (same_choice h k) (by_left s) = let r = same_step th h s in (r.0, by_left r.1, r.2)
same_step th (same_choice h k) (by_right s) = let r = same_step th k s in (r.0, by_right r.1, r.2)
same_step th (same_seq {q = q} {q' = q'} h k) (by_seq s) = let r = same_step th h s in (before r.0 q', by_seq r.1, lands_before q q' k (λ x y i. same_seq i k) r.2)
same_step th (same_cond h k) (by_true c s) = let r = same_step th h s in (r.0, by_true c r.1, r.2)
same_step th (same_cond h k) (by_false c s) = let r = same_step th k s in (r.0, by_false c r.1, r.2)
same_step th (same_sum h) (by_sum t i s) = let r = same_step th (h t) s in (r.0, by_sum t i r.1, r.2)
same_step th (same_call h) (by_call b s) = let c = same_body h b in let r = same_step th c.2 s in (r.0, by_call c.1 r.1, r.2)
same_step th (same_merge {q' = q'} h k) (by_left_alone s) = let r = same_step th h s in (beside r.0 (goes_on q'), by_left_alone r.1, lands_beside (λ a b c d i j. same_merge i j) r.2 (both_go_on k))
same_step th (same_merge {p' = p'} h k) (by_right_alone s) = let r = same_step th k s in (beside (goes_on p') r.0, by_right_alone r.1, lands_beside (λ a b c d i j. same_merge i j) (both_go_on h) r.2)
same_step th (same_merge h k) (by_both s t) = let r = same_step th h s in let z = same_step th k t in (beside r.0 z.0, by_both r.1 z.1, lands_beside (λ a b c d i j. same_merge i j) r.2 z.2)
same_step th (same_starting {q' = q'} h k) (by_left_merge s) = let r = same_step th h s in (beside r.0 (goes_on q'), by_left_merge r.1, lands_beside (λ a b c d i j. same_merge i j) r.2 (both_go_on k))
same_step th (same_starting h k) (by_sync s t) = let r = same_step th h s in let z = same_step th k t in (beside r.0 z.0, by_sync r.1 z.1, lands_beside (λ a b c d i j. same_merge i j) r.2 z.2)
same_step th (same_around {o = w} h) (by_around s i) = let r = same_step th h s in (within w r.0, by_around r.1 i, lands_within w (λ x y j. same_around j) r.2)
