-- Processes that are the same answer each other's steps.
use Rattle.std.proofs.Common.{◌≡◌, ℕ, List, ◌++◌, ap, subst, append_assoc, Some}
use Rattle.std.specs.Prelude.{slice_get}
use Rattle.data_theory.specs.Environments.{bound}
use Rattle.data_theory.specs.Terms.{Sort, Term}
use Rattle.data_theory.specs.Provable.{reflexive, symmetric, transitive}
use Rattle.process_terms.specs.Theories.{Theory}
use Rattle.process_terms.specs.Labels.{Label, AgreeInOrder}
use Rattle.process_terms.specs.Processes.{Around, Start, Table, Process, delta, act, choice, seq, cond, sum, call, merge, starting, around, Definition, close, BodyOf, the_body}
use Rattle.process_terms.specs.Steps.{Outcome, ended, goes_on, before, beside, within, Step, by_act, by_left, by_right, by_seq, by_true, by_false, by_sum, by_call, by_left_alone, by_right_alone, by_both, by_left_merge, by_sync, by_around}
use Rattle.process_terms.proofs.AgreeingLabels.{equals_refl, equals_sym, agree_refl, agree_sym, agree_trans, agree_append}
use Rattle.process_terms.proofs.OperatorLemmas.{passes_along}
use Rattle.bisim_laws.specs.Sameness.{EqualData, equal_delta, equal_act, equal_choice, equal_seq, equal_cond, equal_sum, equal_call, equal_merge, equal_starting, equal_around, Alike, by_data, by_body, turned, joined_up, seq_regrouped, merge_regrouped, alike_choice, alike_seq, alike_cond, alike_sum, alike_merge, alike_starting, alike_around}
use Rattle.bisim_laws.specs.Bisimulations.{Lands, both_end, both_go_on, Answer, Bisimulation}
use Rattle.bisim_laws.proofs.PuttingEqualData.{bodies_equal, tables_refl, tables_sym}

-- ---- provably equal data
pub data_refl : (th : Theory) (p : Process) → EqualData th p p
data_refl th delta = equal_delta
data_refl th (act m) = equal_act (agree_refl th m)
data_refl th (choice p q) = equal_choice (data_refl th p) (data_refl th q)
data_refl th (seq p q) = equal_seq (data_refl th p) (data_refl th q)
data_refl th (cond c p q) = equal_cond reflexive (data_refl th p) (data_refl th q)
data_refl th (sum s f) = equal_sum (λ t. data_refl th (f t))
data_refl th (call d x ts) = equal_call (tables_refl th d) (equals_refl th ts)
data_refl th (merge p q) = equal_merge (data_refl th p) (data_refl th q)
data_refl th (starting o p q) = equal_starting (data_refl th p) (data_refl th q)
data_refl th (around o p) = equal_around (data_refl th p)

pub data_sym : {th : Theory} {p q : Process} → EqualData th p q → EqualData th q p
data_sym equal_delta = equal_delta
data_sym (equal_act h) = equal_act (agree_sym h)
data_sym (equal_choice h k) = equal_choice (data_sym h) (data_sym k)
data_sym (equal_seq h k) = equal_seq (data_sym h) (data_sym k)
data_sym (equal_cond e h k) = equal_cond (symmetric e) (data_sym h) (data_sym k)
data_sym (equal_sum h) = equal_sum (λ t. data_sym (h t))
data_sym (equal_call k e) = equal_call (tables_sym k) (equals_sym e)
data_sym (equal_merge h k) = equal_merge (data_sym h) (data_sym k)
data_sym (equal_starting h k) = equal_starting (data_sym h) (data_sym k)
data_sym (equal_around h) = equal_around (data_sym h)

-- ---- where outcomes land
pub lands_weaken : {R S : Process → Process → Type 0} → ((p q : Process) → R p q → S p q) → {r s : Outcome} → Lands R r s → Lands S r s
lands_weaken f both_end = both_end
lands_weaken f (both_go_on h) = both_go_on (f _ _ h)

pub answer_weaken : {th : Theory} {R S : Process → Process → Type 0} → ((p q : Process) → R p q → S p q) → {q : Process} {m : Label} {r : Outcome} → Answer th R q m r → Answer th S q m r
answer_weaken f a = record { label = a.label; outcome = a.outcome; step = a.step; agree = a.agree; lands = lands_weaken f a.lands }

pub lands_before : {R : Process → Process → Type 0} (q q' : Process) → R q q' → ((p p' : Process) → R p p' → R (seq p q) (seq p' q')) → {r r' : Outcome} → Lands R r r' → Lands R (before r q) (before r' q')
lands_before q q' k f both_end = both_go_on k
lands_before q q' k f (both_go_on h) = both_go_on (f _ _ h)

pub lands_beside : {R : Process → Process → Type 0} → ((p p' q q' : Process) → R p p' → R q q' → R (merge p q) (merge p' q')) → {r r' s s' : Outcome} → Lands R r r' → Lands R s s' → Lands R (beside r s) (beside r' s')
lands_beside f both_end both_end = both_end
lands_beside f both_end (both_go_on k) = both_go_on k
lands_beside f (both_go_on h) both_end = both_go_on h
lands_beside f (both_go_on h) (both_go_on k) = both_go_on (f _ _ _ _ h k)

pub lands_within : {R : Process → Process → Type 0} (o : Around) → ((p p' : Process) → R p p' → R (around o p) (around o p')) → {r r' : Outcome} → Lands R r r' → Lands R (within o r) (within o r')
lands_within o f both_end = both_end
lands_within o f (both_go_on h) = both_go_on (f _ _ h)

-- ---- steps with provably equal data
data_answers : {th : Theory} {p : Process} {m : Label} {r : Outcome} → Step th p m r → (q : Process) → EqualData th p q → Answer th (EqualData th) q m r
data_answers by_act q (equal_act h) = record { label = _; outcome = ended; step = by_act; agree = h; lands = both_end }
data_answers (by_left s) q (equal_choice h k) =
    let a = data_answers s _ h in record { label = a.label; outcome = a.outcome; step = by_left a.step; agree = a.agree; lands = a.lands }
data_answers (by_right s) q (equal_choice h k) =
    let a = data_answers s _ k in record { label = a.label; outcome = a.outcome; step = by_right a.step; agree = a.agree; lands = a.lands }
data_answers (by_seq s) q (equal_seq h k) =
    let a = data_answers s _ h in record { label = a.label; outcome = _; step = by_seq a.step; agree = a.agree; lands = lands_before _ _ k (λ x y j. equal_seq j k) a.lands }
data_answers (by_true c s) q (equal_cond e h k) =
    let a = data_answers s _ h in record { label = a.label; outcome = a.outcome; step = by_true (transitive (symmetric e) c) a.step; agree = a.agree; lands = a.lands }
data_answers (by_false c s) q (equal_cond e h k) =
    let a = data_answers s _ k in record { label = a.label; outcome = a.outcome; step = by_false (transitive (symmetric e) c) a.step; agree = a.agree; lands = a.lands }
data_answers (by_sum t i s) q (equal_sum h) =
    let a = data_answers s _ (h t) in record { label = a.label; outcome = a.outcome; step = by_sum t i a.step; agree = a.agree; lands = a.lands }
data_answers (by_call b s) q (equal_call {us = us} k e) =
    let c = bodies_equal k b us e in
    let a = data_answers s c.other c.same in
    record { label = a.label; outcome = a.outcome; step = by_call c.body a.step; agree = a.agree; lands = a.lands }
data_answers (by_left_alone s) q (equal_merge h k) =
    let a = data_answers s _ h in
    record { label = a.label; outcome = _; step = by_left_alone a.step; agree = a.agree; lands = lands_beside (λ x x' y y' h k. equal_merge h k) a.lands (both_go_on k) }
data_answers (by_right_alone s) q (equal_merge h k) =
    let a = data_answers s _ k in
    record { label = a.label; outcome = _; step = by_right_alone a.step; agree = a.agree; lands = lands_beside (λ x x' y y' h k. equal_merge h k) (both_go_on h) a.lands }
data_answers (by_both s t) q (equal_merge h k) =
    let a = data_answers s _ h in
    let b = data_answers t _ k in
    record { label = _; outcome = _; step = by_both a.step b.step; agree = agree_append a.agree b.agree; lands = lands_beside (λ x x' y y' h k. equal_merge h k) a.lands b.lands }
data_answers (by_left_merge s) q (equal_starting h k) =
    let a = data_answers s _ h in
    record { label = a.label; outcome = _; step = by_left_merge a.step; agree = a.agree; lands = lands_beside (λ x x' y y' h k. equal_merge h k) a.lands (both_go_on k) }
data_answers (by_sync s t) q (equal_starting h k) =
    let a = data_answers s _ h in
    let b = data_answers t _ k in
    record { label = _; outcome = _; step = by_sync a.step b.step; agree = agree_append a.agree b.agree; lands = lands_beside (λ x x' y y' h k. equal_merge h k) a.lands b.lands }
data_answers (by_around {o = o} s f) q (equal_around h) =
    let a = data_answers s _ h in
    let g = passes_along f a.agree in
    record { label = g.0; outcome = _; step = by_around a.step g.1.0; agree = g.1.1; lands = lands_within o (λ x y h. equal_around h) a.lands }

-- ---- steps of what is the same
abbrev AnswersAlike : Theory → Process → Process → Type 0
AnswersAlike th p q = (m : Label) (r : Outcome) → Step th p m r → Answer th (Alike th) q m r

-- each one answers the other's steps
record Mutual (th : Theory) (p q : Process) : Type 0 where
  forth : AnswersAlike th p q
  back : AnswersAlike th q p

pub alike_refl : (th : Theory) (p : Process) → Alike th p p
alike_refl th p = by_data (data_refl th p)

pub lands_joined_up : {th : Theory} {r s t : Outcome} → Lands (Alike th) r s → Lands (Alike th) s t → Lands (Alike th) r t
lands_joined_up both_end both_end = both_end
lands_joined_up (both_go_on h) (both_go_on k) = both_go_on (joined_up h k)

pub lands_refl : (th : Theory) (r : Outcome) → Lands (Alike th) r r
lands_refl th ended = both_end
lands_refl th (goes_on p) = both_go_on (alike_refl th p)

through_both : {th : Theory} {p q r : Process} → AnswersAlike th p q → AnswersAlike th q r → AnswersAlike th p r
through_both f g m o s =
    let x = f m o s in
    let y = g x.label x.outcome x.step in
    record { label = y.label; outcome = y.outcome; step = y.step; agree = agree_trans x.agree y.agree; lands = lands_joined_up x.lands y.lands }

through_data : {th : Theory} {p q : Process} → EqualData th p q → AnswersAlike th p q
through_data h m r s = answer_weaken (λ x y k. by_data k) (data_answers s _ h)

-- a call has one body
pub one_body : {d : Table} {x : ℕ} {ts : List Term} {p q : Process} → BodyOf d x ts p → BodyOf d x ts q → p ≡ q
one_body {d = d} {ts = ts} b (the_body f at l) = is_that b f at
  where
    is_that : {x : ℕ} {p : Process} → BodyOf d x ts p → (f : Definition) → slice_get d x ≡ Some f → p ≡ close d (bound f.params ts) f.body
    is_that (the_body f' at' l') f at = let same : f' ≡ f = cc in ap (λ z. close d (bound z.params ts) z.body) same

into_body : {th : Theory} {d : Table} {x : ℕ} {ts : List Term} {p : Process} → BodyOf d x ts p → AnswersAlike th (call d x ts) p
into_body {th} b m r (by_call c s) = record { label = m; outcome = r; step = subst (λ q. Step th q m r) (one_body c b) s; agree = agree_refl th m; lands = lands_refl th r }

out_of_body : {th : Theory} {d : Table} {x : ℕ} {ts : List Term} {p : Process} → BodyOf d x ts p → AnswersAlike th p (call d x ts)
out_of_body {th} b m r s = record { label = m; outcome = r; step = by_call b s; agree = agree_refl th m; lands = lands_refl th r }

through_choice : {th : Theory} {p p' q q' : Process} → AnswersAlike th p p' → AnswersAlike th q q' → AnswersAlike th (choice p q) (choice p' q')
through_choice f g m r (by_left s) = let a = f m r s in record { label = a.label; outcome = a.outcome; step = by_left a.step; agree = a.agree; lands = a.lands }
through_choice f g m r (by_right s) = let a = g m r s in record { label = a.label; outcome = a.outcome; step = by_right a.step; agree = a.agree; lands = a.lands }

through_seq : {th : Theory} {p p' q q' : Process} → AnswersAlike th p p' → Alike th q q' → AnswersAlike th (seq p q) (seq p' q')
through_seq f k m r (by_seq s) = let a = f m _ s in record { label = a.label; outcome = _; step = by_seq a.step; agree = a.agree; lands = lands_before _ _ k (λ x y j. alike_seq j k) a.lands }

through_cond : {th : Theory} {c : Term} {p p' q q' : Process} → AnswersAlike th p p' → AnswersAlike th q q' → AnswersAlike th (cond c p q) (cond c p' q')
through_cond f g m r (by_true c s) = let a = f m r s in record { label = a.label; outcome = a.outcome; step = by_true c a.step; agree = a.agree; lands = a.lands }
through_cond f g m r (by_false c s) = let a = g m r s in record { label = a.label; outcome = a.outcome; step = by_false c a.step; agree = a.agree; lands = a.lands }

through_sum : {th : Theory} {o : Sort} {f g : Term → Process} → ((t : Term) → AnswersAlike th (f t) (g t)) → AnswersAlike th (sum o f) (sum o g)
through_sum h m r (by_sum t i s) = let a = h t m r s in record { label = a.label; outcome = a.outcome; step = by_sum t i a.step; agree = a.agree; lands = a.lands }

through_merge : {th : Theory} {p p' q q' : Process} → AnswersAlike th p p' → Alike th p p' → AnswersAlike th q q' → Alike th q q' → AnswersAlike th (merge p q) (merge p' q')
through_merge f h g k m r (by_left_alone s) =
    let a = f m _ s in
    record { label = a.label; outcome = _; step = by_left_alone a.step; agree = a.agree; lands = lands_beside (λ x x' y y' h k. alike_merge h k) a.lands (both_go_on k) }
through_merge f h g k m r (by_right_alone s) =
    let a = g m _ s in
    record { label = a.label; outcome = _; step = by_right_alone a.step; agree = a.agree; lands = lands_beside (λ x x' y y' h k. alike_merge h k) (both_go_on h) a.lands }
through_merge f h g k m r (by_both s t) =
    let a = f _ _ s in
    let b = g _ _ t in
    record { label = _; outcome = _; step = by_both a.step b.step; agree = agree_append a.agree b.agree; lands = lands_beside (λ x x' y y' h k. alike_merge h k) a.lands b.lands }

through_starting : {th : Theory} {o : Start} {p p' q q' : Process} → AnswersAlike th p p' → AnswersAlike th q q' → Alike th q q' → AnswersAlike th (starting o p q) (starting o p' q')
through_starting f g k m r (by_left_merge s) =
    let a = f m _ s in
    record { label = a.label; outcome = _; step = by_left_merge a.step; agree = a.agree; lands = lands_beside (λ x x' y y' h k. alike_merge h k) a.lands (both_go_on k) }
through_starting f g k m r (by_sync s t) =
    let a = f _ _ s in
    let b = g _ _ t in
    record { label = _; outcome = _; step = by_sync a.step b.step; agree = agree_append a.agree b.agree; lands = lands_beside (λ x x' y y' h k. alike_merge h k) a.lands b.lands }

through_around : {th : Theory} {o : Around} {p p' : Process} → AnswersAlike th p p' → AnswersAlike th (around o p) (around o p')
through_around {o = o} f m r (by_around s i) =
    let a = f _ _ s in
    let g = passes_along i a.agree in
    record { label = g.0; outcome = _; step = by_around a.step g.1.0; agree = g.1.1; lands = lands_within o (λ x y h. alike_around h) a.lands }

-- ---- brackets
pub lands_turned : {th : Theory} {r s : Outcome} → Lands (Alike th) r s → Lands (Alike th) s r
lands_turned both_end = both_end
lands_turned (both_go_on h) = both_go_on (turned h)

before_regrouped : (th : Theory) (q r : Process) (o : Outcome) → Lands (Alike th) (before (before o q) r) (before o (seq q r))
before_regrouped th q r ended = lands_refl th (goes_on (seq q r))
before_regrouped th q r (goes_on p) = both_go_on seq_regrouped

seq_to_right : {th : Theory} {p : Process} (q r : Process) → AnswersAlike th (seq (seq p q) r) (seq p (seq q r))
seq_to_right {th} q r m _ (by_seq (by_seq {r = o} s)) = record { label = m; outcome = before o (seq q r); step = by_seq s; agree = agree_refl th m; lands = before_regrouped th q r o }

seq_to_left : {th : Theory} {p : Process} (q r : Process) → AnswersAlike th (seq p (seq q r)) (seq (seq p q) r)
seq_to_left {th} q r m _ (by_seq {r = o} s) = record { label = m; outcome = before (before o q) r; step = by_seq (by_seq s); agree = agree_refl th m; lands = lands_turned (before_regrouped th q r o) }

beside_regrouped : (th : Theory) (o o' o'' : Outcome) → Lands (Alike th) (beside (beside o o') o'') (beside o (beside o' o''))
beside_regrouped th ended ended ended = both_end
beside_regrouped th ended ended (goes_on r) = lands_refl th (goes_on r)
beside_regrouped th ended (goes_on q) ended = lands_refl th (goes_on q)
beside_regrouped th ended (goes_on q) (goes_on r) = lands_refl th (goes_on (merge q r))
beside_regrouped th (goes_on p) ended ended = lands_refl th (goes_on p)
beside_regrouped th (goes_on p) ended (goes_on r) = lands_refl th (goes_on (merge p r))
beside_regrouped th (goes_on p) (goes_on q) ended = lands_refl th (goes_on (merge p q))
beside_regrouped th (goes_on p) (goes_on q) (goes_on r) = both_go_on merge_regrouped

labels_regrouped : (th : Theory) (l m n : Label) → AgreeInOrder th ((l ++ m) ++ n) (l ++ (m ++ n))
labels_regrouped th l m n = subst (λ k. AgreeInOrder th ((l ++ m) ++ n) k) (append_assoc l m n) (agree_refl th ((l ++ m) ++ n))

merge_to_right : {th : Theory} (p q r : Process) → AnswersAlike th (merge (merge p q) r) (merge p (merge q r))
merge_to_right {th} p q r m _ (by_left_alone (by_left_alone {r = o} s)) =
    record { label = m; outcome = _; step = by_left_alone s; agree = agree_refl th m; lands = beside_regrouped th o (goes_on q) (goes_on r) }
merge_to_right {th} p q r m _ (by_left_alone (by_right_alone {r = o} s)) =
    record { label = m; outcome = _; step = by_right_alone (by_left_alone s); agree = agree_refl th m; lands = beside_regrouped th (goes_on p) o (goes_on r) }
merge_to_right {th} p q r m _ (by_left_alone (by_both {r = o} {s = o'} s t)) =
    record { label = m; outcome = _; step = by_both s (by_left_alone t); agree = agree_refl th m; lands = beside_regrouped th o o' (goes_on r) }
merge_to_right {th} p q r m _ (by_right_alone {r = o} s) =
    record { label = m; outcome = _; step = by_right_alone (by_right_alone s); agree = agree_refl th m; lands = beside_regrouped th (goes_on p) (goes_on q) o }
merge_to_right {th} p q r m _ (by_both {s = o'} (by_left_alone {r = o} s) t) =
    record { label = m; outcome = _; step = by_both s (by_right_alone t); agree = agree_refl th m; lands = beside_regrouped th o (goes_on q) o' }
merge_to_right {th} p q r m _ (by_both {s = o'} (by_right_alone {r = o} s) t) =
    record { label = m; outcome = _; step = by_right_alone (by_both s t); agree = agree_refl th m; lands = beside_regrouped th (goes_on p) o o' }
merge_to_right {th} p q r _ _ (by_both {n = n} {s = o''} (by_both {m = l} {n = k} {r = o} {s = o'} s t) u) =
    record { label = _; outcome = _; step = by_both s (by_both t u); agree = labels_regrouped th l k n; lands = beside_regrouped th o o' o'' }

merge_to_left : {th : Theory} (p q r : Process) → AnswersAlike th (merge p (merge q r)) (merge (merge p q) r)
merge_to_left {th} p q r m _ (by_left_alone {r = o} s) =
    record { label = m; outcome = _; step = by_left_alone (by_left_alone s); agree = agree_refl th m; lands = lands_turned (beside_regrouped th o (goes_on q) (goes_on r)) }
merge_to_left {th} p q r m _ (by_right_alone (by_left_alone {r = o} s)) =
    record { label = m; outcome = _; step = by_left_alone (by_right_alone s); agree = agree_refl th m; lands = lands_turned (beside_regrouped th (goes_on p) o (goes_on r)) }
merge_to_left {th} p q r m _ (by_right_alone (by_right_alone {r = o} s)) =
    record { label = m; outcome = _; step = by_right_alone s; agree = agree_refl th m; lands = lands_turned (beside_regrouped th (goes_on p) (goes_on q) o) }
merge_to_left {th} p q r m _ (by_right_alone (by_both {r = o} {s = o'} s t)) =
    record { label = m; outcome = _; step = by_both (by_right_alone s) t; agree = agree_refl th m; lands = lands_turned (beside_regrouped th (goes_on p) o o') }
merge_to_left {th} p q r m _ (by_both {r = o} s (by_left_alone {r = o'} t)) =
    record { label = m; outcome = _; step = by_left_alone (by_both s t); agree = agree_refl th m; lands = lands_turned (beside_regrouped th o o' (goes_on r)) }
merge_to_left {th} p q r m _ (by_both {r = o} s (by_right_alone {r = o'} t)) =
    record { label = m; outcome = _; step = by_both (by_left_alone s) t; agree = agree_refl th m; lands = lands_turned (beside_regrouped th o (goes_on q) o') }
merge_to_left {th} p q r _ _ (by_both {m = l} {r = o} s (by_both {m = k} {n = n} {r = o'} {s = o''} t u)) =
    record { label = _; outcome = _; step = by_both (by_both s t) u; agree = agree_sym (labels_regrouped th l k n); lands = lands_turned (beside_regrouped th o o' o'') }

mutual_of : {th : Theory} {p q : Process} → Alike th p q → Mutual th p q
mutual_of (by_data h) = record { forth = through_data h; back = through_data (data_sym h) }
mutual_of (by_body b) = record { forth = into_body b; back = out_of_body b }
mutual_of (turned h) = let a = mutual_of h in record { forth = a.back; back = a.forth }
mutual_of (joined_up h k) = let a = mutual_of h in let b = mutual_of k in record { forth = through_both a.forth b.forth; back = through_both b.back a.back }
mutual_of (seq_regrouped {q = q} {r = r}) = record { forth = seq_to_right q r; back = seq_to_left q r }
mutual_of (merge_regrouped {p = p} {q = q} {r = r}) = record { forth = merge_to_right p q r; back = merge_to_left p q r }
mutual_of (alike_choice h k) = let a = mutual_of h in let b = mutual_of k in record { forth = through_choice a.forth b.forth; back = through_choice a.back b.back }
mutual_of (alike_seq h k) = let a = mutual_of h in record { forth = through_seq a.forth k; back = through_seq a.back (turned k) }
mutual_of (alike_cond h k) = let a = mutual_of h in let b = mutual_of k in record { forth = through_cond a.forth b.forth; back = through_cond a.back b.back }
mutual_of (alike_sum h) = record { forth = through_sum (λ t. (mutual_of (h t)).forth); back = through_sum (λ t. (mutual_of (h t)).back) }
mutual_of (alike_merge h k) =
    let a = mutual_of h in
    let b = mutual_of k in
    record { forth = through_merge a.forth h b.forth k; back = through_merge a.back (turned h) b.back (turned k) }
mutual_of (alike_starting h k) =
    let a = mutual_of h in
    let b = mutual_of k in
    record { forth = through_starting a.forth b.forth k; back = through_starting a.back b.back (turned k) }
mutual_of (alike_around h) = let a = mutual_of h in record { forth = through_around a.forth; back = through_around a.back }

pub alike_answers : (th : Theory) (p q : Process) (m : Label) (r : Outcome) → Alike th p q → Step th p m r → Answer th (Alike th) q m r
alike_answers th p q m r h s = (mutual_of h).forth m r s

pub alike_bisimulation : (th : Theory) → Bisimulation th (Alike th)
alike_bisimulation th = record {
  forth = alike_answers th;
  back = λ p q m r h s. answer_weaken (λ x y k. turned k) (alike_answers th p q m r (turned h) s);
}
