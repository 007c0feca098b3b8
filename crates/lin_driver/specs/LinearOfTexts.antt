-- The linear process of a text by a method.
use Rattle.std.specs.Prelude.{◌≡◌, ℕ, List}
use Rattle.data_theory.specs.declared.ids.NameId.{NameId}
use Rattle.data_theory.specs.Signature.{Sig}
use Rattle.mcrl2_lexer.specs.declared.token.Token.{Token}
use Rattle.mcrl2_lexer.specs.Lexing.{HasTokens}
use Rattle.mcrl2_syntax.specs.Declarations.{PlainSpec}
use Rattle.mcrl2_syntax.specs.SpelledDeclarations.{SpellsSpec}
use Rattle.term_pool.specs.Pools.{PoolContents}
use Rattle.process_terms.specs.PlainProcesses.{PlainEquation}
use Rattle.process_terms.specs.SignatureEntries.{entries_of}
use Rattle.lps_core.specs.CanonicalConditions.{HaveNoNeedlessTrue}
use Rattle.lps_core.specs.Naming.{HaveOwnNames, ParamsHaveOwnNames}
use Rattle.lps_core.specs.PlainLinears.{PlainLinear}
use Rattle.lin_driver.specs.AddedSorts.{IsWithoutStacks}
use Rattle.lin_driver.specs.KeptTexts.{KeepsModel}
use Rattle.lin_driver.specs.Leaves.{HasLeaves}
use Rattle.lin_driver.specs.Headline.{LeavesTerminate}
use Rattle.lin_driver.specs.Linearised.{IsMadeFor, IsEndedBy, IsMadeOf}
use Rattle.lin_driver.specs.MadeFromLeaves.{IsMadeAlongNetwork}
use Rattle.lin_driver.specs.PlainlyMade.{IsPlainFor, written_in_model}
use Rattle.lin_driver.specs.declared.ending.Ending.{Ending}
use Rattle.lin_driver.specs.declared.methods.Method.{Method}

-- Of one model of the specification the linear process was made, and all this is said of that model. The linear process is plainly conditioned for what the
-- model writes, and none of its conditions of two or more parts has the part `true`. Its parameters and the sums of a summand have names of their own. No
-- sort was added, where no component needs a stack. Where the model is that of a linear text, the linear process keeps it. It was made along the network by the
-- method, and the network has so many components.
pub record IsMadeBy (method : Method) (spec : PlainSpec) (h : Sig) (q : PoolContents) (equations : List PlainEquation) (x : NameId) (l : PlainLinear) (components : ℕ) : Type 0 where
  pub made : IsMadeFor spec h q.trees equations x l
  pub plain : IsPlainFor made.signature h q (written_in_model (entries_of h q.trees) made.model) l
  pub conditions : HaveNoNeedlessTrue h q.trees l
  pub parameters : ParamsHaveOwnNames h l.params
  pub sums : HaveOwnNames h l
  pub sorts : IsWithoutStacks method made.model → h.sorts ≡ made.signature.sorts
  pub keeps : KeepsModel method (entries_of h q.trees) made.model l
  pub along : IsMadeAlongNetwork method made.model h q.trees l
  pub leaves : HasLeaves made.model components

-- The tokens of the text spell the specification of which that was made, and then it was ended: so this is the linear process of the text by the ending and the
-- method, with the name of its process and the number of the text's components. It is plainly conditioned and canonical as the one was that may end.
pub record IsLinearOf (ending : Ending) (method : Method) (text : List ℕ) (spec : PlainSpec) (h : Sig) (q : PoolContents) (equations : List PlainEquation) (x : NameId) (l : PlainLinear) (components : ℕ) : Type 0 where
  pub tokens : List Token
  pub cut : HasTokens text tokens
  pub spelled : SpellsSpec text spec tokens
  pub leaves_terminate : LeavesTerminate ending spec
  pub signature : Sig
  pub pool : PoolContents
  pub linear : PlainLinear
  pub by : IsMadeBy method spec signature pool equations x linear components
  pub ended : IsEndedBy signature pool.trees linear ending h q.trees l
  pub plain : IsPlainFor by.made.signature h q (written_in_model (entries_of signature pool.trees) by.made.model) l
  pub conditions : HaveNoNeedlessTrue h q.trees l
  pub parameters : ParamsHaveOwnNames h l.params
  pub sums : HaveOwnNames h l

-- it was made of the text
abbrev pub is_made : {ending : Ending} {method : Method} {text : List ℕ} {spec : PlainSpec} {h : Sig} {q : PoolContents} {equations : List PlainEquation} {x : NameId} {l : PlainLinear} {components : ℕ}
    → IsLinearOf ending method text spec h q equations x l components → IsMadeOf ending text spec h q.trees equations x l
is_made i = record {
  tokens = i.tokens;
  cut = i.cut;
  spelled = i.spelled;
  leaves_terminate = i.leaves_terminate;
  signature = i.signature;
  trees = i.pool.trees;
  linear = i.linear;
  made = i.by.made;
  ended = i.ended;
}

-- there is one
pub record HasLinear (ending : Ending) (method : Method) (text : List ℕ) : Type 0 where
  pub spec : PlainSpec
  pub signature : Sig
  pub pool : PoolContents
  pub equations : List PlainEquation
  pub name : NameId
  pub linear : PlainLinear
  pub components : ℕ
  pub is_linear : IsLinearOf ending method text spec signature pool equations name linear components
