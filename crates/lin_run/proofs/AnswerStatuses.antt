-- The statuses of answers.
use Rattle.std.proofs.Common.{◌≡◌, ◌≤◌, ℕ, List, [], ◌∷◌, Option, None, Some, IfSome, length, sym, subst}
use Rattle.mcrl2_text.specs.declared.loading.TheConstants.{MAX_TEXT_LEN}
use Rattle.lps_simulator.specs.declared.options.Open.{Open}
use Rattle.eqn_check.specs.declared.answers.Answer.{Answer as Judged}
use Rattle.eqn_check.specs.declared.answers.Answer.TheVariants as judged
use Rattle.trace_replay.specs.declared.replaying.Verdict.{Verdict}
use Rattle.trace_replay.specs.declared.replaying.Verdict.TheVariants as verdict
use Rattle.data_theory.specs.declared.ids.NameId.{NameId}
use Rattle.data_theory.specs.IdTrees.{Tree}
use Rattle.data_theory.specs.Signature.{Sig}
use Rattle.mcrl2_syntax.specs.Declarations.{PlainSpec}
use Rattle.lps_invariant.specs.declared.judging.Judged.{Judged as Found}
use Rattle.lps_invariant.specs.declared.judging.Judged.TheVariants as found
use Rattle.lin_driver.specs.declared.ending.Ending.{Ending}
use Rattle.lin_words.specs.Commands.{Asked, asked_by, further_asked, NeedsFurther, question, text_asked}
use Rattle.lin_run.specs.Ends.{IsAnswer, IsAnswered, MayStayOpen, MaySayNo}
use Rattle.lin_answers.specs.Statuses.{status_with}
use Rattle.lin_tasks.specs.JudgedConditions.{IsShownAs}
use Rattle.lin_tasks.specs.JudgedEquations.{status_of_judged}
use Rattle.lin_tasks.specs.ShownVerdicts.{status_of_verdict}
use Rattle.lin_words.specs.declared.command.Task.{Task}
use Rattle.lin_words.specs.declared.command.Task.TheVariants.{Check, Linearise, Constelm, Parelm, Sumelm, Steps, StepsAfter, Walk, Equations, Generate, Replay, Invariant}
use Rattle.lin_answers.specs.declared.status.Status.{Status}
use Rattle.lin_answers.specs.declared.status.Status.TheVariants.{Done, Undecided, No}
use Rattle.lin_run.proofs.Told.{of_loaded}

-- an answer has one of the statuses of answers, is `No` where its task may say so, and leaves nothing undecided where its task may not
pub record HasItsStatus (task : Task) (s : Status) : Type 0 where
  pub answered : IsAnswered s
  pub says_no : s ≡ No → MaySayNo task
  pub stays_open : s ≡ Undecided → MayStayOpen task

when_done : (task : Task) (s : Status) → s ≡ Done → HasItsStatus task s
when_done task s e = subst (HasItsStatus task) (sym e) (record { answered = tt; says_no = λ n. let never : ⊥ = cc in absurd never; stays_open = λ u. let never : ⊥ = cc in absurd never })

when_left : (task : Task) (undecided : List Open) → MayStayOpen task → (s : Status) → s ≡ status_with undecided → HasItsStatus task s
when_left task undecided may s e = subst (HasItsStatus task) (sym e) (by_list undecided)
  where
    by_list : (os : List Open) → HasItsStatus task (status_with os)
    by_list [] = record { answered = tt; says_no = λ n. let never : ⊥ = cc in absurd never; stays_open = λ u. may }
    by_list (o ∷ os) = record { answered = tt; says_no = λ n. let never : ⊥ = cc in absurd never; stays_open = λ u. may }

when_judged : (task : Task) (a : Judged) → MayStayOpen task → (s : Status) → s ≡ status_of_judged a → HasItsStatus task s
when_judged task a may s e = subst (HasItsStatus task) (sym e) (by_answer a)
  where
    by_answer : (b : Judged) → HasItsStatus task (status_of_judged b)
    by_answer judged.Consistent = record { answered = tt; says_no = λ n. let never : ⊥ = cc in absurd never; stays_open = λ u. may }
    by_answer (judged.Unproved number reason) = record { answered = tt; says_no = λ n. let never : ⊥ = cc in absurd never; stays_open = λ u. may }

when_replayed : (task : Task) (v : Verdict) → MayStayOpen task → MaySayNo task → (s : Status) → s ≡ status_of_verdict v → HasItsStatus task s
when_replayed task v may says s e = subst (HasItsStatus task) (sym e) (by_verdict v)
  where
    by_verdict : (v : Verdict) → HasItsStatus task (status_of_verdict v)
    by_verdict verdict.Accepted = record { answered = tt; says_no = λ n. says; stays_open = λ u. may }
    by_verdict (verdict.Rejected number) = record { answered = tt; says_no = λ n. says; stays_open = λ u. may }
    by_verdict (verdict.Undecided number) = record { answered = tt; says_no = λ n. says; stays_open = λ u. may }

-- where what is found of a condition is shown
when_shown : (task : Task) → MayStayOpen task → (spec : PlainSpec) (g : Sig) (ts : List Tree) (n : NameId) (j : Found) (s : Status) (x : List ℕ) → IsShownAs spec g ts n j s x → HasItsStatus task s
when_shown task may spec g ts n (found.Holds lin truths) s x is = when_done task s is.0
when_shown task may spec g ts n (found.Unproved place part truths) s x is = subst (HasItsStatus task) (sym is.0) (record { answered = tt; says_no = λ n. let never : ⊥ = cc in absurd never; stays_open = λ u. may })

pub has_its_status : (ending : Ending) (task : Task) (text : List ℕ) (further : Option (List ℕ)) (s : Status) (x : List ℕ) → IsAnswer ending task text further s x → HasItsStatus task s
has_its_status ending Check text further s x is = when_done Check s is.1
has_its_status ending (Linearise method) text further s x is = when_done (Linearise method) s is.1
has_its_status ending (Constelm method fuel) text further s x is = when_done (Constelm method fuel) s is.1
has_its_status ending (Parelm method) text further s x is = when_done (Parelm method) s is.1
has_its_status ending (Sumelm method fuel) text further s x is = when_done (Sumelm method fuel) s is.1
has_its_status ending (Steps method fuel bound) text further s x is = when_left (Steps method fuel bound) is.1.options.found.undecided tt s is.1.options.status_is
has_its_status ending (StepsAfter method fuel bound) text further s x is = when_left (StepsAfter method fuel bound) is.1.steps.shows.options.found.undecided tt s is.1.steps.shows.options.status_is
has_its_status ending (Walk method plan) text further s x is = when_left (Walk method plan) is.1.walk.undecided tt s is.1.walk.status_is
has_its_status ending (Equations method) text further s x is = when_judged (Equations method) is.1.answer tt s is.1.status_is
has_its_status ending (Generate size) text further s x is = when_done (Generate size) s is.1
has_its_status ending (Replay method fuel bound) text further s x is = when_replayed (Replay method fuel bound) is.1.replayed.answer.verdict tt tt s is.1.replayed.answer.status_is
has_its_status ending (Invariant method fuel) text further s x is =
    let answer = is.2.judged.answer in
    when_shown (Invariant method fuel) tt is.2.judged.spec is.2.judged.signature answer.later is.2.judged.name answer.judged s x answer.shows

-- what answers the bytes that were loaded answers the question
pub answers_question : (text_of : List ℕ → Option (List ℕ)) (words : List (List ℕ)) (a : Asked) (bytes : List ℕ) (s : Status) (x : List ℕ) → asked_by words ≡ Some a → IfSome (text_asked text_of a) (λ text. bytes ≡ text) → length bytes ≤ MAX_TEXT_LEN
    → IsAnswer a.ending a.task bytes (further_asked text_of a) s x → IfSome (question text_of words) (λ q. (length q.text ≤ MAX_TEXT_LEN) × IsAnswer q.ending q.task q.text q.further s x)
answers_question text_of words a bytes s x asked told short is = of_loaded text_of words a bytes (λ q. (length q.text ≤ MAX_TEXT_LEN) × IsAnswer q.ending q.task q.text q.further s x) asked told (short, is)

pub open_when_asked : (words : List (List ℕ)) (a : Asked) (s : Status) → asked_by words ≡ Some a → HasItsStatus a.task s → s ≡ Undecided → IfSome (asked_by words) (λ b. MayStayOpen b.task)
open_when_asked words a s asked has u = subst (λ (o : Option Asked). IfSome o (λ b. MayStayOpen b.task)) (sym asked) (has.stays_open u)

pub no_when_asked : (words : List (List ℕ)) (a : Asked) (s : Status) → asked_by words ≡ Some a → HasItsStatus a.task s → s ≡ No → IfSome (asked_by words) (λ b. MaySayNo b.task)
no_when_asked words a s asked has n = subst (λ (o : Option Asked). IfSome o (λ b. MaySayNo b.task)) (sym asked) (has.says_no n)

-- a task that needs no further file has the same answer for each
pub with_any_further : (ending : Ending) (task : Task) → ¬ (NeedsFurther task) → (text : List ℕ) (further : Option (List ℕ)) (s : Status) (x : List ℕ) → IsAnswer ending task text None s x → IsAnswer ending task text further s x
with_any_further ending Check none text further s x is = is
with_any_further ending (Linearise method) none text further s x is = is
with_any_further ending (Constelm method fuel) none text further s x is = is
with_any_further ending (Parelm method) none text further s x is = is
with_any_further ending (Sumelm method fuel) none text further s x is = is
with_any_further ending (Steps method fuel bound) none text further s x is = is
with_any_further ending (StepsAfter method fuel bound) none text further s x is = absurd (none tt)
with_any_further ending (Walk method plan) none text further s x is = is
with_any_further ending (Equations method) none text further s x is = is
with_any_further ending (Generate size) none text further s x is = is
with_any_further ending (Replay method fuel bound) none text further s x is = absurd (none tt)
with_any_further ending (Invariant method fuel) none text further s x is = absurd (none tt)
