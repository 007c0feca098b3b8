-- The causes of stops, in what is asked.
use Rattle.std.specs.Prelude.{⊤, ◌≡◌, ◌≢◌, ◌≤◌, ◌<◌, ◌⊎◌, ℕ, List, Option, IfSome, length}
use Rattle.mcrl2_text.specs.declared.loading.TheConstants.{MAX_TEXT_LEN}
use Rattle.lin_driver.specs.Accepted.{CanBeLinearised, IsOfTheText}
use Rattle.lin_driver.specs.Faults.{IsFaultBy}
use Rattle.lin_driver.specs.LinearOfTexts.{HasLinear}
use Rattle.lin_driver.specs.Refusals.{IsRefusedWith}
use Rattle.lin_driver.specs.declared.fault.LinFault.{LinFault}
use Rattle.lin_driver.specs.declared.fault.LinFault.TheVariants as lin
use Rattle.lin_driver.specs.declared.ending.Ending.{Ending}
use Rattle.lin_driver.specs.declared.ending.Ending.TheVariants.{End}
use Rattle.lin_driver.specs.declared.methods.Method.TheVariants.{Auto}
use Rattle.lin_answers.specs.declared.status.Status.{Status}
use Rattle.lin_answers.specs.declared.status.Status.TheVariants as status
use Rattle.lin_refusals.specs.BadChoices.{IsBadChoiceAsTold}
use Rattle.lin_refusals.specs.BadTerms.{IsBadTermAsTold}
use Rattle.lin_refusals.specs.BadTraces.{IsBadAsTold, IsLongAsTold}
use Rattle.lin_refusals.specs.Lines.{bad_choice_line, bad_term_line, bad_trace_line, refusal_line}
use Rattle.lin_refusals.specs.declared.stop.Stop.{Stop}
use Rattle.lin_refusals.specs.declared.stop.Stop.TheVariants.{Words, ReadFault, TooLong, Refused, NoMemory}
use Rattle.lin_words.specs.Commands.{NeedsFurther, Question}
use Rattle.lin_words.specs.declared.command.Task.{Task}
use Rattle.lin_words.specs.declared.command.Task.TheVariants.{Check, Linearise, Constelm, Parelm, Sumelm, Steps, StepsAfter, Walk, Equations, Generate, Replay, Invariant}

-- A task with this ending refuses a text for this fault. To check one never asks for its form, to linearise one does so by the method `Regular` alone, and for an action `Terminate` it asks with
-- this ending alone.
abbrev pub IsFaultFor : Ending → Task → LinFault → Type 0
IsFaultFor ending Check fault = IsOfTheText fault
IsFaultFor ending (Linearise method) fault = IsFaultBy ending method fault
IsFaultFor ending (Constelm method fuel) fault = IsFaultBy ending method fault
IsFaultFor ending (Parelm method) fault = IsFaultBy ending method fault
IsFaultFor ending (Sumelm method fuel) fault = IsFaultBy ending method fault
IsFaultFor ending (Steps method fuel bound) fault = IsFaultBy ending method fault
IsFaultFor ending (StepsAfter method fuel bound) fault = IsFaultBy ending method fault
IsFaultFor ending (Walk method plan) fault = IsFaultBy ending method fault
IsFaultFor ending (Equations method) fault = IsFaultBy ending method fault
IsFaultFor ending (Generate size) fault = IsFaultBy End Auto fault
IsFaultFor ending (Replay method fuel bound) fault = IsFaultBy ending method fault
IsFaultFor ending (Invariant method fuel) fault = IsFaultBy ending method fault

-- the line refuses the text for a fault, and where the text is told, for one that it has
pub record IsRefusal (asked : Option Question) (line : List ℕ) : Type 0 where
  pub texts : List (List ℕ)
  pub fault : LinFault
  pub named : fault ≢ lin.NoMemory
  pub says : line ≡ refusal_line texts fault
  pub due : IfSome asked (λ q. (length q.text ≤ MAX_TEXT_LEN) × IsFaultFor q.ending q.task fault × IsRefusedWith q.text texts fault)

-- ---- a further file
-- the task needs a further file, and the linear process of the text was made with the ending by the task's method
abbrev pub HasLinearFor : Ending → Task → List ℕ → Type 0
HasLinearFor ending (StepsAfter method fuel bound) text = HasLinear ending method text
HasLinearFor ending (Replay method fuel bound) text = HasLinear ending method text
HasLinearFor ending (Invariant method fuel) text = HasLinear ending method text
HasLinearFor ending _ text = ⊥

-- the task needs a further file, and is done with the text up to there
pub record ComesToTheFile (q : Question) : Type 0 where
  pub needs : NeedsFurther q.task
  pub short : length q.text ≤ MAX_TEXT_LEN
  pub linearised : CanBeLinearised q.text
  pub linear : HasLinearFor q.ending q.task q.text

-- the text is too long, or behind it the further file
abbrev pub IsTooLong : Question → Type 0
IsTooLong q = (MAX_TEXT_LEN < length q.text) ⊎ (ComesToTheFile q × IsLongAsTold q.further)

-- the line refuses the trace for its line with this number, or the choices
abbrev pub IsBadLineFor : Ending → Task → List ℕ → Option (List ℕ) → ℕ → List ℕ → Type 0
IsBadLineFor ending Check text told number line = ⊥
IsBadLineFor ending (Linearise method) text told number line = ⊥
IsBadLineFor ending (Constelm method fuel) text told number line = ⊥
IsBadLineFor ending (Parelm method) text told number line = ⊥
IsBadLineFor ending (Sumelm method fuel) text told number line = ⊥
IsBadLineFor ending (Steps method fuel bound) text told number line = ⊥
IsBadLineFor ending (StepsAfter method fuel bound) text told number line = (line ≡ bad_choice_line number) × IsBadChoiceAsTold ending method fuel bound text told number
IsBadLineFor ending (Walk method plan) text told number line = ⊥
IsBadLineFor ending (Equations method) text told number line = ⊥
IsBadLineFor ending (Generate size) text told number line = ⊥
IsBadLineFor ending (Replay method fuel bound) text told number line = (line ≡ bad_trace_line number) × IsBadAsTold ending method text told number
IsBadLineFor ending (Invariant method fuel) text told number line = ⊥

-- the line refuses a trace or choices for a line, which is the first bad one, where the text is told
pub record IsFileRefusal (asked : Option Question) (line : List ℕ) : Type 0 where
  pub number : ℕ
  pub says : (line ≡ bad_trace_line number) ⊎ (line ≡ bad_choice_line number)
  pub due : IfSome asked (λ q. ComesToTheFile q × IsBadLineFor q.ending q.task q.text q.further number line)

-- the condition that the task reads spells no term over the parameters
abbrev pub IsBadConditionFor : Ending → Task → List ℕ → Option (List ℕ) → Type 0
IsBadConditionFor ending Check text told = ⊥
IsBadConditionFor ending (Linearise method) text told = ⊥
IsBadConditionFor ending (Constelm method fuel) text told = ⊥
IsBadConditionFor ending (Parelm method) text told = ⊥
IsBadConditionFor ending (Sumelm method fuel) text told = ⊥
IsBadConditionFor ending (Steps method fuel bound) text told = ⊥
IsBadConditionFor ending (StepsAfter method fuel bound) text told = ⊥
IsBadConditionFor ending (Walk method plan) text told = ⊥
IsBadConditionFor ending (Equations method) text told = ⊥
IsBadConditionFor ending (Generate size) text told = ⊥
IsBadConditionFor ending (Replay method fuel bound) text told = ⊥
IsBadConditionFor ending (Invariant method fuel) text told = IsBadTermAsTold ending method text told

-- the line refuses a condition, which is a bad one, where the text is told
pub record IsConditionRefusal (asked : Option Question) (line : List ℕ) : Type 0 where
  pub says : line ≡ bad_term_line
  pub due : IfSome asked (λ q. ComesToTheFile q × IsBadConditionFor q.ending q.task q.text q.further)

-- ---- causes
-- a stop that refuses has its cause in the text or in the further file, where the text is told
abbrev pub HasCause : Stop → Option Question → Type 0
HasCause Words asked = ⊤
HasCause ReadFault asked = ⊤
HasCause TooLong asked = IfSome asked IsTooLong
HasCause (Refused line) asked = IsRefusal asked line.items ⊎ (IsFileRefusal asked line.items ⊎ IsConditionRefusal asked line.items)
HasCause NoMemory asked = ⊤

abbrev pub status_of_stop : Stop → Status
status_of_stop Words = status.Words
status_of_stop ReadFault = status.ReadFault
status_of_stop TooLong = status.Refused
status_of_stop (Refused line) = status.Refused
status_of_stop NoMemory = status.NoMemory
