-- What is answered of the written equations of a text.
use Rattle.std.specs.Prelude.{◌≡◌, ℕ, List, map}
use Rattle.data_theory.specs.IdData.{data_meant}
use Rattle.data_theory.specs.Provable.{Equation}
use Rattle.data_theory.specs.Signature.{Sig}
use Rattle.mcrl2_lexer.specs.declared.token.Token.{Token}
use Rattle.mcrl2_lexer.specs.Lexing.{HasTokens}
use Rattle.mcrl2_syntax.specs.Declarations.{PlainSpec}
use Rattle.mcrl2_syntax.specs.SpelledDeclarations.{SpellsSpec}
use Rattle.term_pool.specs.Pools.{PoolContents}
use Rattle.process_terms.specs.Meanings.{equation_of}
use Rattle.process_terms.specs.PlainProcesses.{PlainModel}
use Rattle.process_terms.specs.SignatureEntries.{entries_of}
use Rattle.sort_checker.specs.TextModels.{IsModelOf}
use Rattle.eqn_check.specs.Judged.{IsAnswer}
use Rattle.eqn_check.specs.declared.answers.Answer.{Answer}

-- the written equations of a model
abbrev pub equations_of_model : Sig → PoolContents → PlainModel → List Equation
equations_of_model g p m = map (equation_of (entries_of g p.trees)) m.equations

-- the specification has a model, and the answer is right of its equations
pub record IsJudgedFor (spec : PlainSpec) (answer : Answer) : Type 0 where
  pub signature : Sig
  pub pool : PoolContents
  pub model : PlainModel
  pub is_model : IsModelOf spec signature pool model
  pub is_answer : IsAnswer (data_meant signature) (equations_of_model signature pool model) answer

-- and the text spells that specification
pub record IsJudged (text : List ℕ) (answer : Answer) : Type 0 where
  pub tokens : List Token
  pub cut : HasTokens text tokens
  pub spec : PlainSpec
  pub spelled : SpellsSpec text spec tokens
  pub judged : IsJudgedFor spec answer
