-- Compositions without their brackets.
use Rattle.std.proofs.Common.{◌≡◌, List, [], ◌∷◌, ◌++◌, true, false, refl, sym, ◌∙◌, subst, append_assoc}
use Rattle.data_theory.specs.Environments.{Environment}
use Rattle.process_terms.specs.Theories.{Theory}
use Rattle.process_terms.specs.Processes.{Body, written_delta, written_act, written_choice, written_seq, written_cond, written_sum, written_call, written_merge, written_starting, written_around, Table, Process, seq, close, seq_of}
use Rattle.process_terms.specs.Steps.{Outcome, ended, goes_on, before}
use Rattle.bisim_laws.specs.Sameness.{Alike, turned, joined_up, seq_regrouped, alike_seq}
use Rattle.bisim_laws.specs.Bisimulations.{Lands, both_end, both_go_on}
use Rattle.bisim_laws.specs.Compositions.{LeftOver, pieces_left_over}
use Rattle.bisim_laws.proofs.AlikeProcesses.{alike_refl}
use Rattle.greibach.specs.Places.{Path, Factor, factors, bodies}

pub record SomeFactor (fs : List Factor) : Type 0 where
  pub first : Factor
  pub others : List Factor
  pub is : fs ≡ first ∷ others

pub some_factor : (path : Path) (q : Body) (rest : List Factor) → SomeFactor (factors path q ++ rest)
some_factor path (written_seq p q) rest =
    let k = some_factor (path ++ false ∷ []) p (factors (path ++ true ∷ []) q ++ rest) in
    record { first = k.first; others = k.others; is = append_assoc (factors (path ++ false ∷ []) p) (factors (path ++ true ∷ []) q) rest ∙ k.is }
some_factor path written_delta rest = record { first = _; others = rest; is = refl }
some_factor path (written_act m) rest = record { first = _; others = rest; is = refl }
some_factor path (written_choice p q) rest = record { first = _; others = rest; is = refl }
some_factor path (written_cond c p q) rest = record { first = _; others = rest; is = refl }
some_factor path (written_sum x p) rest = record { first = _; others = rest; is = refl }
some_factor path (written_call x ts) rest = record { first = _; others = rest; is = refl }
some_factor path (written_merge p q) rest = record { first = _; others = rest; is = refl }
some_factor path (written_starting start p q) rest = record { first = _; others = rest; is = refl }
some_factor path (written_around o p) rest = record { first = _; others = rest; is = refl }

-- the factors one after another, as a closed process
abbrev pub run : Table → Environment → List Factor → Process
run d e fs = close d e (seq_of (bodies fs))

run_front : (d : Table) (e : Environment) (p : Body) (fs : List Factor) → SomeFactor fs → close d e (seq_of (p ∷ bodies fs)) ≡ seq (close d e p) (run d e fs)
run_front d e p fs k = subst (λ l. close d e (seq_of (p ∷ bodies l)) ≡ seq (close d e p) (run d e l)) (sym k.is) refl

-- the factors of a body are the body
pub flat : (th : Theory) (d : Table) (e : Environment) (path : Path) (q : Body) (rest : List Factor) → Alike th (run d e (factors path q ++ rest)) (close d e (seq_of (q ∷ bodies rest)))
flat th d e path (written_seq p q) rest =
    let fp = factors (path ++ false ∷ []) p in
    let fq = factors (path ++ true ∷ []) q in
    let one : Alike th (run d e ((fp ++ fq) ++ rest)) (close d e (seq_of (p ∷ bodies (fq ++ rest)))) =
    subst (λ l. Alike th (run d e l) (close d e (seq_of (p ∷ bodies (fq ++ rest))))) (sym (append_assoc fp fq rest)) (flat th d e (path ++ false ∷ []) p (fq ++ rest)) in
    let two : Alike th (close d e (seq_of (p ∷ bodies (fq ++ rest)))) (seq (close d e p) (close d e (seq_of (q ∷ bodies rest)))) =
    subst (λ z. Alike th z (seq (close d e p) (close d e (seq_of (q ∷ bodies rest))))) (sym (run_front d e p (fq ++ rest) (some_factor (path ++ true ∷ []) q rest)))
    (alike_seq (alike_refl th (close d e p)) (flat th d e (path ++ true ∷ []) q rest)) in
    joined_up one (joined_up two (regrouped rest))
  where
    regrouped : (rest : List Factor) → Alike th (seq (close d e p) (close d e (seq_of (q ∷ bodies rest)))) (close d e (seq_of (written_seq p q ∷ bodies rest)))
    regrouped [] = alike_refl th (seq (close d e p) (close d e q))
    regrouped (f ∷ fs) = turned seq_regrouped
flat th d e path written_delta rest = alike_refl th _
flat th d e path (written_act m) rest = alike_refl th _
flat th d e path (written_choice p q) rest = alike_refl th _
flat th d e path (written_cond c p q) rest = alike_refl th _
flat th d e path (written_sum x p) rest = alike_refl th _
flat th d e path (written_call x ts) rest = alike_refl th _
flat th d e path (written_merge p q) rest = alike_refl th _
flat th d e path (written_starting start p q) rest = alike_refl th _
flat th d e path (written_around o p) rest = alike_refl th _

-- an outcome, and then a rest
abbrev pub following : Table → Environment → Outcome → List Factor → Outcome
following d e r [] = r
following d e r (f ∷ fs) = before r (run d e (f ∷ fs))

pub left_alike : {A : Type 0} {th : Theory} {P : Process → A → Type 0} {r s : Outcome} {xs : List A} → Lands (Alike th) r s → LeftOver th P r xs → LeftOver th P s xs
left_alike both_end k = k
left_alike (both_go_on h) (pieces_left_over k c) = pieces_left_over (joined_up (turned h) k) c

pub before_alike : (th : Theory) {p q : Process} → Alike th p q → (r : Outcome) → Lands (Alike th) (before r p) (before r q)
before_alike th h ended = both_go_on h
before_alike th h (goes_on o) = both_go_on (alike_seq (alike_refl th o) h)

before_both : (th : Theory) {p q s : Process} → Alike th p (seq q s) → (r : Outcome) → Lands (Alike th) (before r p) (before (before r q) s)
before_both th h ended = both_go_on h
before_both th h (goes_on o) = both_go_on (joined_up (alike_seq (alike_refl th o) h) (turned seq_regrouped))

following_front : (d : Table) (e : Environment) (r : Outcome) (fs : List Factor) → SomeFactor fs → following d e r fs ≡ before r (run d e fs)
following_front d e r fs k = subst (λ l. following d e r l ≡ before r (run d e l)) (sym k.is) refl

-- a body behind an outcome, and then a rest
pub regroup : (th : Theory) (d : Table) (e : Environment) (path : Path) (q : Body) (rest : List Factor) (r : Outcome)
    → Lands (Alike th) (following d e r (factors path q ++ rest)) (following d e (before r (close d e q)) rest)
regroup th d e path q rest r =
    subst (λ z. Lands (Alike th) z (following d e (before r (close d e q)) rest)) (sym (following_front d e r (factors path q ++ rest) (some_factor path q rest))) (at rest (flat th d e path q rest))
  where
    at : (rest : List Factor) → Alike th (run d e (factors path q ++ rest)) (close d e (seq_of (q ∷ bodies rest))) → Lands (Alike th) (before r (run d e (factors path q ++ rest))) (following d e (before r (close d e q)) rest)
    at [] h = before_alike th h r
    at (f ∷ fs) h = before_both th h r
