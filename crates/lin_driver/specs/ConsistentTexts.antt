-- Texts of which it is proved that their equations are consistent, so that what is said of their printed text holds without a premise.
use Rattle.std.specs.Prelude.{◌≡◌, ℕ, List, [], map}
use Rattle.mcrl2_lexer.specs.declared.token.Token.{Token}
use Rattle.mcrl2_lexer.specs.Lexing.{HasTokens}
use Rattle.mcrl2_syntax.specs.Declarations.{PlainSpec}
use Rattle.mcrl2_syntax.specs.SpelledDeclarations.{SpellsSpec}
use Rattle.data_theory.specs.IdData.{data_meant}
use Rattle.data_theory.specs.Signature.{Sig}
use Rattle.term_pool.specs.Pools.{PoolContents}
use Rattle.sort_table.specs.BareDeclarations.{bare_sections}
use Rattle.sort_checker.specs.FullVocabularies.{FullVocabulary}
use Rattle.sort_checker.specs.Systems.{equations_in}
use Rattle.sort_checker.specs.TextModels.{IsModelOf}
use Rattle.process_terms.specs.Meanings.{equation_of}
use Rattle.process_terms.specs.PlainProcesses.{PlainModel}
use Rattle.process_terms.specs.Processes.{Process}
use Rattle.process_terms.specs.SignatureEntries.{entries_of}
use Rattle.process_terms.specs.Theories.{Theory, IsConsistent}
use Rattle.bisim_laws.specs.Links.{IsGood}
use Rattle.eqn_check.specs.Rules.{AreAccepted}
use Rattle.lin_driver.specs.Headline.{IsGoodBy, Specifies, StandsFor}
use Rattle.lin_driver.specs.declared.ending.Ending.{Ending}

-- the text spells a specification without written equations
pub record HasNoEquations (text : List ℕ) : Type 0 where
  pub tokens : List Token
  pub cut : HasTokens text tokens
  pub spec : PlainSpec
  pub spelled : SpellsSpec text spec tokens
  pub none : equations_in (bare_sections spec) ≡ []

-- in some reading of the text, its written equations keep the rules for them
pub record HasAcceptedEquations (text : List ℕ) : Type 0 where
  pub vocabulary : FullVocabulary
  pub theory : Theory
  pub process : Process
  pub specifies : Specifies text vocabulary theory process
  pub accepted : AreAccepted theory.declared theory.equations

-- The theory of the printed text doesn't prove `true` equal to `false`, nor does it in any other reading of it; so the link is good.
pub record HoldsOutright {ending : Ending} {text printed : List ℕ} (one : StandsFor ending text printed) : Type 0 where
  pub consistent : IsConsistent one.theory
  pub bisimilar : IsGoodBy ending one.theory one.link one.process one.linear
  pub in_each_reading : (w : FullVocabulary) (ti : Theory) (q : Process) → Specifies printed w ti q → IsConsistent ti

-- ---- laws
-- of a text without written equations what is said of its printed text holds without a premise
abbrev pub TextsWithoutEquationsNeedNoPremise : Type 0
TextsWithoutEquationsNeedNoPremise = (ending : Ending) (text printed : List ℕ) (one : StandsFor ending text printed) → HasNoEquations text → HoldsOutright one

-- and so it does of a text whose written equations are accepted
abbrev pub AcceptedTextsNeedNoPremise : Type 0
AcceptedTextsNeedNoPremise = (ending : Ending) (text printed : List ℕ) (one : StandsFor ending text printed) → HasAcceptedEquations text → HoldsOutright one

-- the equations of a text are accepted where those of its model are
abbrev pub AcceptedModelsAreOfAcceptedTexts : Type 0
AcceptedModelsAreOfAcceptedTexts =
    (text : List ℕ) (tokens : List Token) (spec : PlainSpec) (g : Sig) (p : PoolContents) (m : PlainModel) → HasTokens text tokens → SpellsSpec text spec tokens → IsModelOf spec g p m
    → AreAccepted (data_meant g) (map (equation_of (entries_of g p.trees)) m.equations) → HasAcceptedEquations text
