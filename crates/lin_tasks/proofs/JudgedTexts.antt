-- What is printed for a text whose equations are consistent holds outright.
use Rattle.std.proofs.Common.{◌≡◌, ℕ, List, subst}
use Rattle.data_theory.specs.IdData.{data_meant}
use Rattle.eqn_check.specs.Judged.{IsAnswer}
use Rattle.eqn_check.specs.declared.answers.Answer.{Answer}
use Rattle.eqn_check.specs.declared.answers.Answer.TheVariants.{Consistent}
use Rattle.lin_driver.specs.ConsistentTexts.{HoldsOutright}
use Rattle.lin_driver.specs.Headline.{StandsFor}
use Rattle.lin_driver.specs.JudgedTexts.{equations_of_model, IsJudged}
use Rattle.lin_driver.specs.declared.ending.Ending.{Ending}
use Rattle.lin_driver.proofs.ConsistentTexts.{accepted_models_are_of_accepted_texts, accepted_texts_need_no_premise}

pub judged_outright : (text : List ℕ) (answer : Answer) → IsJudged text answer → answer ≡ Consistent → (ending : Ending) (printed : List ℕ) (one : StandsFor ending text printed) → HoldsOutright one
judged_outright text answer is same ending printed one =
    let j = is.judged in
    let g = j.signature in
    accepted_texts_need_no_premise ending text printed one
    (accepted_models_are_of_accepted_texts text is.tokens is.spec g j.pool j.model is.cut is.spelled j.is_model (subst (IsAnswer (data_meant g) (equations_of_model g j.pool j.model)) same j.is_answer))
