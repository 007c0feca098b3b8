-- What the task `equations` shows of a text.
use Rattle.std.specs.Prelude.{◌≡◌, ◌++◌, ℕ, List, codes, decimal}
use Rattle.eqn_check.specs.declared.answers.Answer.{Answer}
use Rattle.eqn_check.specs.declared.answers.Answer.TheVariants.{Consistent, Unproved}
use Rattle.eqn_check.specs.declared.answers.Reason.{Reason}
use Rattle.eqn_check.specs.declared.answers.Reason.TheVariants.{Shape, Repeat, Overlap, Recursion}
use Rattle.lin_driver.specs.ConsistentTexts.{HoldsOutright}
use Rattle.lin_driver.specs.Headline.{StandsFor}
use Rattle.lin_driver.specs.JudgedTexts.{IsJudged}
use Rattle.lin_driver.specs.declared.ending.Ending.{Ending}
use Rattle.lin_answers.specs.declared.status.Status.{Status}
use Rattle.lin_answers.specs.declared.status.Status.TheVariants as statuses

-- ---- answers as they are shown
abbrev pub reason_word : Reason → List ℕ
reason_word Shape = codes "shape"
reason_word Repeat = codes "repeat"
reason_word Overlap = codes "overlap"
reason_word Recursion = codes "recursion"

abbrev pub broken_line : ℕ → Reason → List ℕ
broken_line number reason = codes "unproved " ++ decimal number ++ codes " " ++ reason_word reason ++ codes "\n"

abbrev pub judged_line : Answer → List ℕ
judged_line Consistent = codes "consistent\n"
judged_line (Unproved number reason) = broken_line number reason

abbrev pub status_of_judged : Answer → Status
status_of_judged Consistent = statuses.Done
status_of_judged (Unproved number reason) = statuses.Undecided

-- The bytes show whether the text's equations keep all rules, or the first one that breaks a rule, with the first rule that it breaks. `Undecided` is the status exactly
-- where one breaks a rule. Where none does, whatever printed text stands for the text, with either ending, does so outright: its equations don't prove `true` equal to `false`.
pub record AreJudgedEquations (text : List ℕ) (status : Status) (shown : List ℕ) : Type 0 where
  pub answer : Answer
  pub judged : IsJudged text answer
  pub shows : shown ≡ judged_line answer
  pub status_is : status ≡ status_of_judged answer
  pub outright : answer ≡ Consistent → (ending : Ending) (printed : List ℕ) (one : StandsFor ending text printed) → HoldsOutright one
