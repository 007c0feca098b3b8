-- How a run ended, and the line that says so.
use Rattle.std.proofs.Common.{◌≡◌, ◌≤◌, ◌⊎◌, ℕ, List, [], Option, Some, None, IfSome, OnOk, OnErr, Result, Ok, Err, inl, inr, ◌++◌, length, append-nil, refl, sym, ap, subst, arith, rules}
use Rattle.std.specs.Prelude.{option_and_then, option_map}
use Rattle.mcrl2_text.specs.declared.loading.TheConstants.{MAX_TEXT_LEN}
use Rattle.mcrl2_text.specs.Bytes.{TakesPrefix}
use Rattle.mcrl2_text.specs.Faults.{Rose}
use Rattle.lin_driver.specs.Faults.{IsFaultBy}
use Rattle.lin_driver.specs.Refusals.{IsRefusedWith}
use Rattle.lin_driver.specs.declared.fault.LinFault.{LinFault}
use Rattle.lin_driver.specs.declared.fault.LinFault.TheVariants as lin
use Rattle.lin_driver.specs.declared.ending.Ending.{Ending}
use Rattle.lin_driver.specs.declared.ending.Ending.TheVariants.{End}
use Rattle.lin_driver.specs.declared.methods.Method.{Method}
use Rattle.lin_driver.specs.declared.methods.Method.TheVariants.{Auto}
use Rattle.lin_driver.proofs.AcceptedTexts.{faulty_texts_cannot_be_linearised}
use Rattle.lin_run.specs.Ends.{HasGoodFurther}
use Rattle.lin_refusals.specs.BadTerms.{IsBadTermAsTold, IsBadTermFor, IsGoodCondition}
use Rattle.lin_refusals.specs.BadTraces.{IsBadAsTold, IsBadTraceFor, IsGoodTrace, IsLongAsTold}
use Rattle.lin_refusals.specs.BadChoices.{AreGoodChoices, IsBadChoiceAsTold, IsBadChoiceFor}
use Rattle.lin_words.specs.Commands.{Asked, asked_by, further_asked, NeedsFurther, Question, question, text_asked}
use Rattle.lin_run.specs.Ends.{IsAnswer, IsAnswered, IsTaken, IsTakenBy, IsLineOf, EndsWithLine, TookAnswer, EndsWell}
use Rattle.lin_refusals.specs.Lines.{line_of}
use Rattle.lin_run.specs.Causes.{HasCause, IsBadConditionFor, IsBadLineFor, IsConditionRefusal, IsFaultFor, IsFileRefusal, IsTooLong, status_of_stop}
use Rattle.lin_words.specs.declared.command.Task.{Task}
use Rattle.lin_words.specs.declared.command.Task.TheVariants.{Check, Linearise, Constelm, Parelm, Sumelm, Steps, StepsAfter, Walk, Equations, Generate, Replay, Invariant}
use Rattle.lin_refusals.specs.declared.stop.Stop.{Stop}
use Rattle.lin_refusals.specs.declared.stop.Stop.TheVariants.{Words, ReadFault, TooLong, Refused, NoMemory}
use Rattle.lin_answers.specs.declared.status.Status.{Status}
use Rattle.lin_answers.specs.declared.status.Status.TheVariants as status
use Rattle.lin_run.proofs.Told.{on_told}

-- the line of a stop is that of its status
pub line_of-stop : (stop : Stop) (asked : Option Question) → HasCause stop asked → IsLineOf (status_of_stop stop) asked (line_of stop)
line_of-stop Words asked cause = refl
line_of-stop ReadFault asked cause = refl
line_of-stop TooLong asked cause = inl (refl, cause)
line_of-stop (Refused line) asked cause = inr cause
line_of-stop NoMemory asked cause = refl

pub failed_or_whole : {T E : Type 0} (r : Result T E) (P Q : Type 0) → OnOk r P → OnErr r Q → Q ⊎ P
failed_or_whole (Ok x) P Q whole failed = inr whole
failed_or_whole (Err e) P Q whole failed = inl failed

-- ---- the statuses of an answer
pub other_status : (s t : Status) → IsAnswered s → (IsAnswered t → ⊥) → s ≡ t → ⊥
other_status s t is never same = never (subst IsAnswered same is)

pub stops_unanswered : (stop : Stop) → IsAnswered (status_of_stop stop) → ⊥
stops_unanswered Words is = is
stops_unanswered ReadFault is = is
stops_unanswered TooLong is = is
stops_unanswered (Refused line) is = is
stops_unanswered NoMemory is = is

-- its line is empty
answered_line : (s : Status) (asked : Option Question) → IsAnswered s → IsLineOf s asked []
answered_line status.Done asked is = refl
answered_line status.Undecided asked is = refl
answered_line status.No asked is = refl
answered_line status.Refused asked is = absurd is
answered_line status.Words asked is = absurd is
answered_line status.ReadFault asked is = absurd is
answered_line status.WriteFault asked is = absurd is
answered_line status.NoMemory asked is = absurd is

pub answered_ends : (s : Status) (asked : Option Question) (told : Option (List ℕ)) (faults : ℕ) → IsAnswered s → EndsWithLine s asked told told faults faults
answered_ends s asked told faults is = record { line = []; says = answered_line s asked is; prefix = nothing_taken told; whole = inr (nothing_more told) }
  where
    nothing_taken : (told : Option (List ℕ)) → IfSome told (λ bytes. TakesPrefix bytes told [])
    nothing_taken None = tt
    nothing_taken (Some bytes) = search rules

    nothing_more : (told : Option (List ℕ)) → IfSome told (λ bytes. told ≡ Some (bytes ++ []))
    nothing_more None = tt
    nothing_more (Some bytes) = ap Some (sym (append-nil bytes))

-- ---- where nothing counted a fault
-- a text that is made linear with an ending by a method has none of the faults for which that refuses one
never_refused_by : (ending : Ending) (method : Method) (text : List ℕ) → IsTakenBy ending method text → (texts : List (List ℕ)) (fault : LinFault) → IsFaultBy ending method fault → IsRefusedWith text texts fault → ⊥
never_refused_by ending method text is texts (lin.Lex fault) of has = faulty_texts_cannot_be_linearised text texts (lin.Lex fault) tt has is.0
never_refused_by ending method text is texts (lin.Parse fault) of has = faulty_texts_cannot_be_linearised text texts (lin.Parse fault) tt has is.0
never_refused_by ending method text is texts (lin.Sort fault) of has = faulty_texts_cannot_be_linearised text texts (lin.Sort fault) tt has is.0
never_refused_by ending method text is texts (lin.«Type» fault) of has = faulty_texts_cannot_be_linearised text texts (lin.«Type» fault) tt has is.0
never_refused_by ending method text is texts (lin.Net fault) of has = faulty_texts_cannot_be_linearised text texts (lin.Net fault) tt has is.0
never_refused_by ending method text is texts (lin.Guard fault) of has = faulty_texts_cannot_be_linearised text texts (lin.Guard fault) tt has is.0
never_refused_by ending method text is texts (lin.NotTail component summand) of has = is.1 of texts component summand has
never_refused_by ending method text is texts (lin.TerminateDeclared number) of has = is.2 of texts number has
never_refused_by ending method text is texts lin.NoMemory of has = has

-- a text that a task takes has none of the faults for which it refuses one
never_refused : (ending : Ending) (task : Task) (text : List ℕ) → IsTaken ending task text → (texts : List (List ℕ)) (fault : LinFault) → IsFaultFor ending task fault → IsRefusedWith text texts fault → ⊥
never_refused ending Check text is texts fault of has = faulty_texts_cannot_be_linearised text texts fault of has is
never_refused ending (Linearise method) text is texts fault of has = never_refused_by ending method text is texts fault of has
never_refused ending (Constelm method fuel) text is texts fault of has = never_refused_by ending method text is texts fault of has
never_refused ending (Parelm method) text is texts fault of has = never_refused_by ending method text is texts fault of has
never_refused ending (Sumelm method fuel) text is texts fault of has = never_refused_by ending method text is texts fault of has
never_refused ending (Steps method fuel bound) text is texts fault of has = never_refused_by ending method text is texts fault of has
never_refused ending (StepsAfter method fuel bound) text is texts fault of has = never_refused_by ending method text is texts fault of has
never_refused ending (Walk method plan) text is texts fault of has = never_refused_by ending method text is texts fault of has
never_refused ending (Equations method) text is texts fault of has = never_refused_by ending method text is texts fault of has
never_refused ending (Replay method fuel bound) text is texts fault of has = never_refused_by ending method text is texts fault of has
never_refused ending (Generate size) text is texts fault of has = never_refused_by End Auto text (is, λ e. let never : ⊥ = cc in absurd never, λ e. let never : ⊥ = cc in absurd never) texts fault of has
never_refused ending (Invariant method fuel) text is texts fault of has = never_refused_by ending method text is texts fault of has

-- ---- good further files
-- a text that is told is the one that was read
told_is_read : (told : Option (List ℕ)) (read text : List ℕ) → told ≡ Some text → IfSome told (λ t. read ≡ t) → read ≡ text
told_is_read told read text is same = subst (λ (o : Option (List ℕ)). IfSome o (λ t. read ≡ t)) is same

-- and isn't long where it is short
not_long : (told : Option (List ℕ)) (text : List ℕ) → told ≡ Some text → length text ≤ MAX_TEXT_LEN → IsLongAsTold told → ⊥
not_long told text is short long = let l = subst IsLongAsTold is long in omega (arith, short, l)

trace_is_not_bad : (ending : Ending) (method : Method) (text : List ℕ) (told : Option (List ℕ)) (number : ℕ) → IsGoodTrace ending method text told → IsBadAsTold ending method text told number → ⊥
trace_is_not_bad ending method text told number good bad = good.good number (subst (λ (t : List ℕ). IsBadTraceFor ending method text t number) (told_is_read told bad.trace good.trace good.is_told bad.is_told) bad.bad)

choices_are_not_bad : (ending : Ending) (method : Method) (fuel bound : ℕ) (text : List ℕ) (told : Option (List ℕ)) (number : ℕ) → AreGoodChoices ending method fuel bound text told → IsBadChoiceAsTold ending method fuel bound text told number → ⊥
choices_are_not_bad ending method fuel bound text told number good bad =
    good.good number (subst (λ (t : List ℕ). IsBadChoiceFor ending method fuel bound text t number) (told_is_read told bad.choices good.choices good.is_told bad.is_told) bad.bad)

condition_is_not_bad : (ending : Ending) (method : Method) (text : List ℕ) (told : Option (List ℕ)) → IsGoodCondition ending method text told → IsBadTermAsTold ending method text told → ⊥
condition_is_not_bad ending method text told good bad = good.good (subst (λ (t : List ℕ). IsBadTermFor ending method text t) (told_is_read told bad.condition good.condition good.is_told bad.is_told) bad.bad)

not_long_for : (ending : Ending) (task : Task) (text : List ℕ) (told : Option (List ℕ)) → NeedsFurther task → HasGoodFurther ending task text told → IsLongAsTold told → ⊥
not_long_for ending Check text told needs good = absurd needs
not_long_for ending (Linearise method) text told needs good = absurd needs
not_long_for ending (Constelm method fuel) text told needs good = absurd needs
not_long_for ending (Parelm method) text told needs good = absurd needs
not_long_for ending (Sumelm method fuel) text told needs good = absurd needs
not_long_for ending (Steps method fuel bound) text told needs good = absurd needs
not_long_for ending (StepsAfter method fuel bound) text told needs good = not_long told good.choices good.is_told good.short
not_long_for ending (Walk method plan) text told needs good = absurd needs
not_long_for ending (Equations method) text told needs good = absurd needs
not_long_for ending (Generate size) text told needs good = absurd needs
not_long_for ending (Replay method fuel bound) text told needs good = not_long told good.trace good.is_told good.short
not_long_for ending (Invariant method fuel) text told needs good = not_long told good.condition good.is_told good.short

never_too_long : (q : Question) → length q.text ≤ MAX_TEXT_LEN → HasGoodFurther q.ending q.task q.text q.further → IsTooLong q → ⊥
never_too_long q short good long = elim long [ inl l ↦ omega (arith, short, l) | inr t ↦ not_long_for q.ending q.task q.text q.further t.0.needs good t.1 ]

not_bad_for : (ending : Ending) (task : Task) (text : List ℕ) (told : Option (List ℕ)) (number : ℕ) (line : List ℕ) → HasGoodFurther ending task text told → IsBadLineFor ending task text told number line → ⊥
not_bad_for ending Check text told number line good bad = bad
not_bad_for ending (Linearise method) text told number line good bad = bad
not_bad_for ending (Constelm method fuel) text told number line good bad = bad
not_bad_for ending (Parelm method) text told number line good bad = bad
not_bad_for ending (Sumelm method fuel) text told number line good bad = bad
not_bad_for ending (Steps method fuel bound) text told number line good bad = bad
not_bad_for ending (StepsAfter method fuel bound) text told number line good bad = choices_are_not_bad ending method fuel bound text told number good bad.1
not_bad_for ending (Walk method plan) text told number line good bad = bad
not_bad_for ending (Equations method) text told number line good bad = bad
not_bad_for ending (Generate size) text told number line good bad = bad
not_bad_for ending (Replay method fuel bound) text told number line good bad = trace_is_not_bad ending method text told number good bad.1
not_bad_for ending (Invariant method fuel) text told number line good bad = bad

never_a_bad_file : (q : Question) (line : List ℕ) → HasGoodFurther q.ending q.task q.text q.further → IsFileRefusal (Some q) line → ⊥
never_a_bad_file q line good r = not_bad_for q.ending q.task q.text q.further r.number line good r.due.1

not_bad_condition_for : (ending : Ending) (task : Task) (text : List ℕ) (told : Option (List ℕ)) → HasGoodFurther ending task text told → IsBadConditionFor ending task text told → ⊥
not_bad_condition_for ending Check text told good bad = bad
not_bad_condition_for ending (Linearise method) text told good bad = bad
not_bad_condition_for ending (Constelm method fuel) text told good bad = bad
not_bad_condition_for ending (Parelm method) text told good bad = bad
not_bad_condition_for ending (Sumelm method fuel) text told good bad = bad
not_bad_condition_for ending (Steps method fuel bound) text told good bad = bad
not_bad_condition_for ending (StepsAfter method fuel bound) text told good bad = bad
not_bad_condition_for ending (Walk method plan) text told good bad = bad
not_bad_condition_for ending (Equations method) text told good bad = bad
not_bad_condition_for ending (Generate size) text told good bad = bad
not_bad_condition_for ending (Replay method fuel bound) text told good bad = bad
not_bad_condition_for ending (Invariant method fuel) text told good bad = condition_is_not_bad ending method text told good bad

never_a_bad_condition : (q : Question) (line : List ℕ) → HasGoodFurther q.ending q.task q.text q.further → IsConditionRefusal (Some q) line → ⊥
never_a_bad_condition q line good r = not_bad_condition_for q.ending q.task q.text q.further good r.due.1

-- nor does it refuse the further file
never_a_bad_further : (q : Question) (line : List ℕ) → HasGoodFurther q.ending q.task q.text q.further → IsFileRefusal (Some q) line ⊎ IsConditionRefusal (Some q) line → ⊥
never_a_bad_further q line good bad = elim bad [ inl t ↦ never_a_bad_file q line good t | inr t ↦ never_a_bad_condition q line good t ]

module _ (asked : Option Question) (a b c d : ℕ) (before after : Option (List ℕ)) where
  -- a stop is for want of memory where the text asked for has none of the faults for which its task refuses one, and the further file is good
  stopped_well : (P : Question → Type 0) → ((q : Question) → P q → (texts : List (List ℕ)) (fault : LinFault) → IsFaultFor q.ending q.task fault → IsRefusedWith q.text texts fault → ⊥)
      → (stop : Stop) → (stop ≡ Words → asked ≡ None) → (stop ≡ ReadFault → Rose a b) → HasCause stop asked → IfSome asked (λ q. P q → HasGoodFurther q.ending q.task q.text q.further → length q.text ≤ MAX_TEXT_LEN → ¬ (Rose a b) → EndsWell (status_of_stop stop) q before after)
  stopped_well P never stop none rose cause = by_question stop asked none rose cause
    where
      by_question : (s : Stop) (o : Option Question) → (s ≡ Words → o ≡ None) → (s ≡ ReadFault → Rose a b) → HasCause s o → IfSome o (λ q. P q → HasGoodFurther q.ending q.task q.text q.further → length q.text ≤ MAX_TEXT_LEN → ¬ (Rose a b) → EndsWell (status_of_stop s) q before after)
      by_question s None none r h = tt
      by_question Words (Some q) none r h = λ is good short quiet. let no : Some q ≡ None = none refl in cc
      by_question ReadFault (Some q) none r h = λ is good short quiet. quiet (r refl)
      by_question TooLong (Some q) none r h = λ is good short quiet. absurd (never_too_long q short good h)
      by_question (Refused line) (Some q) none r h = λ is good short quiet. absurd (elim h [ inl t ↦ never q is t.texts t.fault t.due.1 t.due.2 | inr t ↦ never_a_bad_further q line.items good t ])
      by_question NoMemory (Some q) none r h = λ is good short quiet. tt

  pub taken_stops_well : (stop : Stop) → (stop ≡ Words → asked ≡ None) → (stop ≡ ReadFault → Rose a b) → HasCause stop asked
      → IfSome asked (λ q. IsTaken q.ending q.task q.text → HasGoodFurther q.ending q.task q.text q.further → length q.text ≤ MAX_TEXT_LEN → ¬ (Rose a b) → ¬ (Rose c d) → EndsWell (status_of_stop stop) q before after)
  taken_stops_well stop none rose cause =
      let P : Question → Type 0 = λ q. IsTaken q.ending q.task q.text in
      on_told asked (λ q. P q → HasGoodFurther q.ending q.task q.text q.further → length q.text ≤ MAX_TEXT_LEN → ¬ (Rose a b) → EndsWell (status_of_stop stop) q before after)
      (λ q. IsTaken q.ending q.task q.text → HasGoodFurther q.ending q.task q.text q.further → length q.text ≤ MAX_TEXT_LEN → ¬ (Rose a b) → ¬ (Rose c d) → EndsWell (status_of_stop stop) q before after)
      (λ q well is good short quiet still. well is good short quiet)
      (stopped_well P (λ q is texts fault of has. never_refused q.ending q.task q.text is texts fault of has) stop none rose cause)

  pub linearised_stops_well : (stop : Stop) → (stop ≡ Words → asked ≡ None) → (stop ≡ ReadFault → Rose a b) → HasCause stop asked
      → IfSome asked (λ q. ((texts : List (List ℕ)) (fault : LinFault) → IsFaultFor q.ending q.task fault → ¬ (IsRefusedWith q.text texts fault)) → HasGoodFurther q.ending q.task q.text q.further → length q.text ≤ MAX_TEXT_LEN → ¬ (Rose a b) → ¬ (Rose c d) → EndsWell (status_of_stop stop) q before after)
  linearised_stops_well stop none rose cause =
      let P : Question → Type 0 = λ q. (texts : List (List ℕ)) (fault : LinFault) → IsFaultFor q.ending q.task fault → ¬ (IsRefusedWith q.text texts fault) in
      on_told asked (λ q. P q → HasGoodFurther q.ending q.task q.text q.further → length q.text ≤ MAX_TEXT_LEN → ¬ (Rose a b) → EndsWell (status_of_stop stop) q before after)
      (λ q. ((texts : List (List ℕ)) (fault : LinFault) → IsFaultFor q.ending q.task fault → ¬ (IsRefusedWith q.text texts fault)) → HasGoodFurther q.ending q.task q.text q.further → length q.text ≤ MAX_TEXT_LEN → ¬ (Rose a b) → ¬ (Rose c d) → EndsWell (status_of_stop stop) q before after)
      (λ q well free good short quiet still. well free good short quiet)
      (stopped_well P (λ q free texts fault of has. free texts fault of has) stop none rose cause)

  -- the whole answer was written
  ends_well : (s : Status) (answer : List ℕ) → IsAnswered s → IfSome before (λ bytes. after ≡ Some (bytes ++ answer)) → (q : Question) → IsAnswer q.ending q.task q.text q.further s answer → EndsWell s q before after
  ends_well s answer answered whole q is = by_status s answered (on_told before (λ bytes. after ≡ Some (bytes ++ answer)) (λ bytes. (printed : List ℕ) × (after ≡ Some (bytes ++ printed)) × IsAnswer q.ending q.task q.text q.further s printed) (λ bytes took. (answer, took, is)) whole)
    where
      by_status : (s : Status) → IsAnswered s → TookAnswer s q before after → EndsWell s q before after
      by_status status.Done a took = took
      by_status status.Undecided a took = took
      by_status status.No a took = took
      by_status status.Refused a took = absurd a
      by_status status.Words a took = absurd a
      by_status status.ReadFault a took = absurd a
      by_status status.WriteFault a took = absurd a
      by_status status.NoMemory a took = absurd a

  pub whole_answer : (s : Status) (answer : List ℕ) → IfSome asked (λ q. (length q.text ≤ MAX_TEXT_LEN) × IsAnswer q.ending q.task q.text q.further s answer) → IfSome before (λ bytes. after ≡ Some (bytes ++ answer))
      → IfSome asked (λ q. (length q.text ≤ MAX_TEXT_LEN) × (x : List ℕ) × IsAnswer q.ending q.task q.text q.further s x × IfSome before (λ bytes. after ≡ Some (bytes ++ x)))
  whole_answer s answer answered whole =
      on_told asked (λ q. (length q.text ≤ MAX_TEXT_LEN) × IsAnswer q.ending q.task q.text q.further s answer) (λ q. (length q.text ≤ MAX_TEXT_LEN) × (x : List ℕ) × IsAnswer q.ending q.task q.text q.further s x × IfSome before (λ bytes. after ≡ Some (bytes ++ x)))
      (λ q is. (is.0, answer, is.1, whole)) answered

  pub part_of_answer : (s : Status) (answer : List ℕ) → IfSome asked (λ q. (length q.text ≤ MAX_TEXT_LEN) × IsAnswer q.ending q.task q.text q.further s answer) → IfSome before (λ bytes. TakesPrefix bytes after answer)
      → IfSome asked (λ q. (length q.text ≤ MAX_TEXT_LEN) × (t : Status) × (x : List ℕ) × IsAnswer q.ending q.task q.text q.further t x × IfSome before (λ bytes. TakesPrefix bytes after x))
  part_of_answer s answer answered part =
      on_told asked (λ q. (length q.text ≤ MAX_TEXT_LEN) × IsAnswer q.ending q.task q.text q.further s answer) (λ q. (length q.text ≤ MAX_TEXT_LEN) × (t : Status) × (x : List ℕ) × IsAnswer q.ending q.task q.text q.further t x × IfSome before (λ bytes. TakesPrefix bytes after x))
      (λ q is. (is.0, s, answer, is.1, part)) answered

  pub taken_ends_well : (s : Status) (answer : List ℕ) → IsAnswered s → IfSome asked (λ q. (length q.text ≤ MAX_TEXT_LEN) × IsAnswer q.ending q.task q.text q.further s answer) → IfSome before (λ bytes. after ≡ Some (bytes ++ answer))
      → IfSome asked (λ q. IsTaken q.ending q.task q.text → HasGoodFurther q.ending q.task q.text q.further → length q.text ≤ MAX_TEXT_LEN → ¬ (Rose a b) → ¬ (Rose c d) → EndsWell s q before after)
  taken_ends_well s answer ok answered whole =
      on_told asked (λ q. (length q.text ≤ MAX_TEXT_LEN) × IsAnswer q.ending q.task q.text q.further s answer) (λ q. IsTaken q.ending q.task q.text → HasGoodFurther q.ending q.task q.text q.further → length q.text ≤ MAX_TEXT_LEN → ¬ (Rose a b) → ¬ (Rose c d) → EndsWell s q before after)
      (λ q is taken good short quiet still. ends_well s answer ok whole q is.1) answered

  pub linearised_ends_well : (s : Status) (answer : List ℕ) → IsAnswered s → IfSome asked (λ q. (length q.text ≤ MAX_TEXT_LEN) × IsAnswer q.ending q.task q.text q.further s answer) → IfSome before (λ bytes. after ≡ Some (bytes ++ answer))
      → IfSome asked (λ q. ((texts : List (List ℕ)) (fault : LinFault) → IsFaultFor q.ending q.task fault → ¬ (IsRefusedWith q.text texts fault)) → HasGoodFurther q.ending q.task q.text q.further → length q.text ≤ MAX_TEXT_LEN → ¬ (Rose a b) → ¬ (Rose c d) → EndsWell s q before after)
  linearised_ends_well s answer ok answered whole =
      on_told asked (λ q. (length q.text ≤ MAX_TEXT_LEN) × IsAnswer q.ending q.task q.text q.further s answer)
      (λ q. ((texts : List (List ℕ)) (fault : LinFault) → IsFaultFor q.ending q.task fault → ¬ (IsRefusedWith q.text texts fault)) → HasGoodFurther q.ending q.task q.text q.further → length q.text ≤ MAX_TEXT_LEN → ¬ (Rose a b) → ¬ (Rose c d) → EndsWell s q before after)
      (λ q is free good short quiet still. ends_well s answer ok whole q is.1) answered

-- words that give no command ask for no text
pub nothing_asked : (text_of : List ℕ → Option (List ℕ)) (words : List (List ℕ)) → asked_by words ≡ None → question text_of words ≡ None
nothing_asked text_of words none = ap (option_and_then (λ (x : Asked). option_map (λ t. record { task = x.task; text = t; further = further_asked text_of x; ending = x.ending }) (text_asked text_of x))) none
