-- What a task with a further file answers, and why it stops.
use Rattle.std.proofs.Common.{◌≡◌, ◌≢◌, ◌≤◌, ◌<◌, ℕ, List, Option, Some, Result, Ok, Err, IfSome, IfOk, IfErr, OnOk, inl, inr, length, refl, sym, subst, ap, ◌∙◌, arith}
use Rattle.std.specs.Prelude.{IsErrOf, option_and_then}
use Rattle.mcrl2_text.specs.Faults.{Rose}
use Rattle.mcrl2_text.specs.declared.loading.TheConstants.{MAX_TEXT_LEN}
use Rattle.lin_driver.specs.Accepted.{CanBeLinearised}
use Rattle.lin_driver.specs.Headline.{StandsFor}
use Rattle.lin_driver.specs.LinearOfTexts.{HasLinear}
use Rattle.lin_driver.specs.Refusals.{IsRefusedWith}
use Rattle.lin_driver.specs.declared.fault.LinFault.{LinFault}
use Rattle.lin_driver.specs.declared.fault.LinFault.TheVariants as lin
use Rattle.lin_driver.specs.declared.ending.Ending.{Ending}
use Rattle.lin_driver.specs.declared.methods.Method.{Method}
use Rattle.lin_words.specs.Commands.{Asked, asked_by, further_asked, NeedsFurther, Question, question, ReadsAFile, ReadsFor, text_asked}
use Rattle.lin_run.specs.Ends.{IsAnswer, IsAnswered, MayStayOpen, MaySayNo}
use Rattle.lin_run.specs.Causes.{HasCause, IsFaultFor}
use Rattle.lin_refusals.specs.Stops.{IsChoiceStop, IsConditionStop, IsStopFor, IsTraceStop}
use Rattle.lin_answers.specs.declared.answers.Answer.{Answer}
use Rattle.lin_tasks.specs.ShownInvariants.{IsJudgedAsTold}
use Rattle.lin_words.specs.declared.command.Task.{Task}
use Rattle.lin_words.specs.declared.command.Task.TheVariants.{Check, Linearise, Constelm, Parelm, Sumelm, Steps, StepsAfter, Walk, Equations, Generate, Replay, Invariant}
use Rattle.lin_answers.specs.declared.status.Status.{Status}
use Rattle.lin_answers.specs.declared.status.Status.TheVariants.{Done, Undecided, No}
use Rattle.lin_refusals.specs.declared.stop.Stop.{Stop}
use Rattle.lin_refusals.specs.declared.stop.Stop.TheVariants.{Words, ReadFault, TooLong, Refused, NoMemory}
use Rattle.lin_run.proofs.AnswerStatuses.{answers_question, has_its_status, no_when_asked, open_when_asked}
use Rattle.lin_run.proofs.Told.{cause_asked}

-- ---- one text of many
-- what is so for each text that has this linear process with an ending by a method is so for one
pub stopped_for : (IsLinear : Ending → Method → List ℕ → Type 0) (IsStop : Ending → Method → List ℕ → Stop → Type 0) (r : Result Answer Stop) (ending : Ending) (method : Method) (text : List ℕ) → IsLinear ending method text
    → IfErr r (λ stop. (ending : Ending) (method : Method) (text : List ℕ) → IsLinear ending method text → IsStop ending method text stop) → IfErr r (λ stop. IsStop ending method text stop)
stopped_for IsLinear IsStop (Ok x) ending method text has is = tt
stopped_for IsLinear IsStop (Err stop) ending method text has is = is ending method text has

pub answered_for : (IsLinear : Ending → Method → List ℕ → Type 0) (Shows : Ending → Method → List ℕ → Status → List ℕ → Type 0) (r : Result Answer Stop) (ending : Ending) (method : Method) (text : List ℕ) → CanBeLinearised text → IsLinear ending method text
    → IfOk r (λ answer. (ending : Ending) (method : Method) (text : List ℕ) → IsLinear ending method text → Shows ending method text answer.status answer.text.items)
    → IfOk r (λ answer. CanBeLinearised text × Shows ending method text answer.status answer.text.items)
answered_for IsLinear Shows (Ok answer) ending method text accepted has is = (accepted, is ending method text has)
answered_for IsLinear Shows (Err stop) ending method text accepted has is = tt

-- ---- causes
-- the question of an ending, a task, a text and a further file that is told or not
abbrev pub asks : Ending → Task → List ℕ → Option (List ℕ) → Question
asks ending task text told = record { task = task; text = text; further = told; ending = ending }

abbrev pub StopsFor : Ending → Task → List ℕ → Option (List ℕ) → Stop → Type 0
StopsFor ending task text told stop = (stop ≢ Words) × HasCause stop (Some (asks ending task text told))

module _ (text : List ℕ) (told : Option (List ℕ)) (ending : Ending) (method : Method) (fuel bound : ℕ) (short : length text ≤ MAX_TEXT_LEN) (accepted : CanBeLinearised text) (has : HasLinear ending method text) where
  trace_cause : (stop : Stop) → IsTraceStop ending method text told stop → StopsFor ending (Replay method fuel bound) text told stop
  trace_cause Words is = absurd is
  trace_cause ReadFault is = (λ e. cc, tt)
  trace_cause TooLong is = (λ e. cc, inr (record { needs = tt; short = short; linearised = accepted; linear = has }, is))
  trace_cause (Refused line) is = (λ e. cc, inr (inl (record { number = is.0; says = inl is.1; due = (record { needs = tt; short = short; linearised = accepted; linear = has }, (is.1, is.2)) })))
  trace_cause NoMemory is = (λ e. cc, tt)

  choice_cause : (stop : Stop) → IsChoiceStop ending method fuel bound text told stop → StopsFor ending (StepsAfter method fuel bound) text told stop
  choice_cause Words is = absurd is
  choice_cause ReadFault is = (λ e. cc, tt)
  choice_cause TooLong is = (λ e. cc, inr (record { needs = tt; short = short; linearised = accepted; linear = has }, is))
  choice_cause (Refused line) is = (λ e. cc, inr (inl (record { number = is.0; says = inr is.1; due = (record { needs = tt; short = short; linearised = accepted; linear = has }, (is.1, is.2)) })))
  choice_cause NoMemory is = (λ e. cc, tt)

  pub trace_stops : (r : Result Answer Stop) → IfErr r (λ stop. IsTraceStop ending method text told stop) → IfErr r (λ stop. StopsFor ending (Replay method fuel bound) text told stop)
  trace_stops (Ok answer) is = tt
  trace_stops (Err stop) is = trace_cause stop is

  pub choices_stop : (r : Result Answer Stop) → IfErr r (λ stop. IsChoiceStop ending method fuel bound text told stop) → IfErr r (λ stop. StopsFor ending (StepsAfter method fuel bound) text told stop)
  choices_stop (Ok answer) is = tt
  choices_stop (Err stop) is = choice_cause stop is

module _ (text : List ℕ) (told : Option (List ℕ)) (ending : Ending) (method : Method) (fuel : ℕ) (short : length text ≤ MAX_TEXT_LEN) (accepted : CanBeLinearised text) (has : HasLinear ending method text) where
  condition_cause : (stop : Stop) → IsConditionStop ending method text told stop → StopsFor ending (Invariant method fuel) text told stop
  condition_cause Words is = absurd is
  condition_cause ReadFault is = (λ e. cc, tt)
  condition_cause TooLong is = (λ e. cc, inr (record { needs = tt; short = short; linearised = accepted; linear = has }, is))
  condition_cause (Refused line) is = (λ e. cc, inr (inr (record { says = is.0; due = (record { needs = tt; short = short; linearised = accepted; linear = has }, is.1) })))
  condition_cause NoMemory is = (λ e. cc, tt)

  pub condition_stops : (r : Result Answer Stop) → IfErr r (λ stop. IsConditionStop ending method text told stop) → IfErr r (λ stop. StopsFor ending (Invariant method fuel) text told stop)
  condition_stops (Ok answer) is = tt
  condition_stops (Err stop) is = condition_cause stop is

-- what is answered of a condition, where the text was made linear
pub condition_answers : (IsLinear : Ending → Method → List ℕ → Type 0) (IsMade : Ending → List ℕ → Type 0) (r : Result Answer Stop) (ending : Ending) (method : Method) (fuel : ℕ) (text : List ℕ) (told : Option (List ℕ)) → CanBeLinearised text → IsLinear ending method text → IsMade ending text
    → IfOk r (λ answer. (ending : Ending) (method : Method) (text : List ℕ) → IsLinear ending method text → IsJudgedAsTold ending method fuel text told answer.status answer.text.items)
    → IfOk r (λ answer. answer.status ≡ Done → (ending : Ending) (text : List ℕ) → IsMade ending text → StandsFor ending text answer.text.items)
    → IfOk r (λ answer. IsAnswer ending (Invariant method fuel) text told answer.status answer.text.items)
condition_answers IsLinear IsMade (Ok answer) ending method fuel text told accepted has made judged stands = (accepted, λ done. stands done ending text made, judged ending method text has)
condition_answers IsLinear IsMade (Err stop) ending method fuel text told accepted has made judged stands = tt

-- the text itself is refused
pub text_stops : (ending : Ending) (task : Task) (text : List ℕ) (told : Option (List ℕ)) (texts : List (List ℕ)) (fault : LinFault) (stop : Stop) → length text ≤ MAX_TEXT_LEN → IsFaultFor ending task fault → (fault ≢ lin.NoMemory → IsRefusedWith text texts fault) → IsStopFor texts fault stop
    → StopsFor ending task text told stop
text_stops ending task text told texts fault Words short by refused is = absurd is
text_stops ending task text told texts fault ReadFault short by refused is = absurd is
text_stops ending task text told texts fault TooLong short by refused is = absurd is
text_stops ending task text told texts fault (Refused line) short by refused is = (λ e. cc, inl (record { texts = texts; fault = fault; named = is.0; says = is.1; due = (short, by, refused is.0) }))
text_stops ending task text told texts fault NoMemory short by refused is = (λ e. cc, tt)

-- ---- for what is asked
module _ (text_of : List ℕ → Option (List ℕ)) (words : List (List ℕ)) (a : Asked) (bytes : List ℕ) (asked : asked_by words ≡ Some a) (told : IfSome (text_asked text_of a) (λ text. bytes ≡ text)) (short : length bytes ≤ MAX_TEXT_LEN)
    (further : Option (List ℕ)) (same : further ≡ further_asked text_of a) where
  as_asked : (s : Status) (x : List ℕ) → IsAnswer a.ending a.task bytes further s x → IsAnswer a.ending a.task bytes (further_asked text_of a) s x
  as_asked s x is = subst (λ (o : Option (List ℕ)). IsAnswer a.ending a.task bytes o s x) same is

  pub further_answers : (r : Result Answer Stop) → IfOk r (λ answer. IsAnswer a.ending a.task bytes further answer.status answer.text.items)
      → IfOk r (λ answer. IsAnswered answer.status × IfSome (question text_of words) (λ q. (length q.text ≤ MAX_TEXT_LEN) × IsAnswer q.ending q.task q.text q.further answer.status answer.text.items))
  further_answers (Ok answer) is =
      let h = as_asked answer.status answer.text.items is in (
        (has_its_status a.ending a.task bytes (further_asked text_of a) answer.status answer.text.items h).answered,
        answers_question text_of words a bytes answer.status answer.text.items asked told short h,
      )
  further_answers (Err stop) is = tt

  pub further_stays_open : (r : Result Answer Stop) → IfOk r (λ answer. IsAnswer a.ending a.task bytes further answer.status answer.text.items) → IfOk r (λ answer. answer.status ≡ Undecided → IfSome (asked_by words) (λ b. MayStayOpen b.task))
  further_stays_open (Ok answer) is = open_when_asked words a answer.status asked (has_its_status a.ending a.task bytes (further_asked text_of a) answer.status answer.text.items (as_asked answer.status answer.text.items is))
  further_stays_open (Err stop) is = tt

  pub further_says_no : (r : Result Answer Stop) → IfOk r (λ answer. IsAnswer a.ending a.task bytes further answer.status answer.text.items) → IfOk r (λ answer. answer.status ≡ No → IfSome (asked_by words) (λ b. MaySayNo b.task))
  further_says_no (Ok answer) is = no_when_asked words a answer.status asked (has_its_status a.ending a.task bytes (further_asked text_of a) answer.status answer.text.items (as_asked answer.status answer.text.items is))
  further_says_no (Err stop) is = tt

  pub further_refused : (r : Result Answer Stop) → IfErr r (λ stop. StopsFor a.ending a.task bytes further stop) → IfErr r (λ stop. HasCause stop (question text_of words))
  further_refused (Ok answer) causes = tt
  further_refused (Err stop) causes = cause_asked text_of words a bytes stop asked told (subst (λ (o : Option (List ℕ)). HasCause stop (Some (asks a.ending a.task bytes o))) same causes.1)

-- a file is read for a task with a further file
needing_reads : (task : Task) → NeedsFurther task → ReadsFor task
needing_reads Check needs = tt
needing_reads (Linearise method) needs = tt
needing_reads (Constelm method fuel) needs = tt
needing_reads (Parelm method) needs = tt
needing_reads (Sumelm method fuel) needs = tt
needing_reads (Steps method fuel bound) needs = tt
needing_reads (StepsAfter method fuel bound) needs = tt
needing_reads (Walk method plan) needs = tt
needing_reads (Equations method) needs = tt
needing_reads (Generate size) needs = absurd needs
needing_reads (Replay method fuel bound) needs = tt
needing_reads (Invariant method fuel) needs = tt

pub further_reads : (words : List (List ℕ)) (a : Asked) → asked_by words ≡ Some a → NeedsFurther a.task → ReadsAFile (asked_by words)
further_reads words a asked needs = subst ReadsAFile (sym asked) (needing_reads a.task needs)

-- it never stops for its words
pub no_words : (q : Question) (r : Result Answer Stop) → IfErr r (λ stop. (stop ≢ Words) × HasCause stop (Some q)) → IsErrOf r Words → ⊥
no_words q r causes is = (subst (λ (z : Result Answer Stop). IfErr z (λ stop. (stop ≢ Words) × HasCause stop (Some q))) is causes).0 refl

-- the text of the further file, on the shelf as it was
pub further_told : (before after : List ℕ → Option (List ℕ)) (a : Asked) (name : List ℕ) → after ≡ before → a.further ≡ Some name → after name ≡ further_asked before a
further_told before after a name same named = ap (λ (f : List ℕ → Option (List ℕ)). f name) same ∙ sym (ap (λ (o : Option (List ℕ)). option_and_then before o) named)

-- a count that rose in a later call rose
pub rose_before : (a b c : ℕ) → a ≤ b → Rose b c → Rose a c
rose_before a b c l r = elim r [ inl up ↦ inl (omega (arith, l, up)) | inr full ↦ inr full ]

-- ---- tasks
-- one that needs a further file is one of three
pub one_of_three : (t : Task) → NeedsFurther t → ((m : Method) (f b : ℕ) → t ≡ Replay m f b → ⊥) → ((m : Method) (f b : ℕ) → t ≡ StepsAfter m f b → ⊥) → ((m : Method) (f : ℕ) → t ≡ Invariant m f → ⊥) → ⊥
one_of_three Check n r s i = n
one_of_three (Linearise m) n r s i = n
one_of_three (Constelm m f) n r s i = n
one_of_three (Parelm m) n r s i = n
one_of_three (Sumelm m f) n r s i = n
one_of_three (Steps m f b) n r s i = n
one_of_three (StepsAfter m f b) n r s i = s m f b refl
one_of_three (Walk m p) n r s i = n
one_of_three (Equations m) n r s i = n
one_of_three (Generate z) n r s i = n
one_of_three (Replay m f b) n r s i = r m f b refl
one_of_three (Invariant m f) n r s i = i m f refl
