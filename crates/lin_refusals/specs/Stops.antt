-- What stops the program.
use Rattle.std.specs.Prelude.{⊤, ◌≡◌, ◌≢◌, ℕ, List, Option}
use Rattle.mcrl2_text.specs.declared.loading.LoadFault.{LoadFault}
use Rattle.mcrl2_text.specs.declared.loading.LoadFault.TheVariants as load
use Rattle.lin_driver.specs.declared.fault.LinFault.{LinFault}
use Rattle.lin_driver.specs.declared.fault.LinFault.TheVariants as lin
use Rattle.lin_driver.specs.declared.ending.Ending.{Ending}
use Rattle.lin_driver.specs.declared.methods.Method.{Method}
use Rattle.lin_refusals.specs.BadChoices.{IsBadChoiceAsTold}
use Rattle.lin_refusals.specs.BadTerms.{IsBadTermAsTold}
use Rattle.lin_refusals.specs.BadTraces.{IsBadAsTold, IsLongAsTold}
use Rattle.lin_refusals.specs.Lines.{bad_choice_line, bad_term_line, bad_trace_line, refusal_line}
use Rattle.lin_refusals.specs.declared.stop.Stop.{Stop}
use Rattle.lin_refusals.specs.declared.stop.Stop.TheVariants.{Words, ReadFault, TooLong, Refused, NoMemory}

abbrev pub stop_of_load : LoadFault → Stop
stop_of_load load.ReadFault = ReadFault
stop_of_load load.TooLong = TooLong
stop_of_load load.NoMemory = NoMemory

-- the stops where there is no text in hand
abbrev pub IsOfLoading : Stop → Type 0
IsOfLoading Words = ⊥
IsOfLoading ReadFault = ⊤
IsOfLoading TooLong = ⊤
IsOfLoading (Refused line) = ⊥
IsOfLoading NoMemory = ⊤

-- the stop is a refusal for that fault, whose names stand among these texts, or want of memory
abbrev pub IsStopFor : List (List ℕ) → LinFault → Stop → Type 0
IsStopFor texts fault Words = ⊥
IsStopFor texts fault ReadFault = ⊥
IsStopFor texts fault TooLong = ⊥
IsStopFor texts fault (Refused line) = (fault ≢ lin.NoMemory) × (line.items ≡ refusal_line texts fault)
IsStopFor texts fault NoMemory = ⊤

-- Why a trace has no verdict, after the text was made linear. Only a line that is no label refuses it.
abbrev pub IsTraceStop : Ending → Method → List ℕ → Option (List ℕ) → Stop → Type 0
IsTraceStop ending method text told Words = ⊥
IsTraceStop ending method text told ReadFault = ⊤
IsTraceStop ending method text told TooLong = IsLongAsTold told
IsTraceStop ending method text told (Refused line) = (number : ℕ) × (line.items ≡ bad_trace_line number) × IsBadAsTold ending method text told number
IsTraceStop ending method text told NoMemory = ⊤

-- Why nothing is said of a condition, after the text was made linear. Only a text that is no term over the parameters refuses it.
abbrev pub IsConditionStop : Ending → Method → List ℕ → Option (List ℕ) → Stop → Type 0
IsConditionStop ending method text told Words = ⊥
IsConditionStop ending method text told ReadFault = ⊤
IsConditionStop ending method text told TooLong = IsLongAsTold told
IsConditionStop ending method text told (Refused line) = (line.items ≡ bad_term_line) × IsBadTermAsTold ending method text told
IsConditionStop ending method text told NoMemory = ⊤

-- Why there is no answer behind chosen moves, after the text was made linear. Only a line that is no move refuses them.
abbrev pub IsChoiceStop : Ending → Method → (fuel bound : ℕ) → List ℕ → Option (List ℕ) → Stop → Type 0
IsChoiceStop ending method fuel bound text told Words = ⊥
IsChoiceStop ending method fuel bound text told ReadFault = ⊤
IsChoiceStop ending method fuel bound text told TooLong = IsLongAsTold told
IsChoiceStop ending method fuel bound text told (Refused line) = (number : ℕ) × (line.items ≡ bad_choice_line number) × IsBadChoiceAsTold ending method fuel bound text told number
IsChoiceStop ending method fuel bound text told NoMemory = ⊤
