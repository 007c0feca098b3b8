-- A linear process in code that was made of a text and stands for it, what is printed for it, and that the printed text then stands for the
-- text.
use Rattle.std.specs.Prelude.{◌≡◌, ◌↔◌, ◌⊎◌, ℕ, List, []}
use Rattle.std.specs.List.{Contains}
use Rattle.data_theory.specs.declared.ids.NameId.{NameId}
use Rattle.data_theory.specs.Terms.{Sort, Term}
use Rattle.data_theory.specs.Declarations.{NoSortIsEmpty}
use Rattle.data_theory.specs.FirstNames.{first_names}
use Rattle.data_theory.specs.Signature.{Sig, IsTaken}
use Rattle.data_theory.specs.WholeSignatures.{IsSignature}
use Rattle.data_theory.specs.IdData.{data_meant}
use Rattle.data_theory.specs.IdTrees.{Tree}
use Rattle.data_theory.specs.IdTerms.{IsGrown}
use Rattle.mcrl2_lexer.specs.declared.token.Token.{Token}
use Rattle.mcrl2_lexer.specs.Lexing.{HasTokens}
use Rattle.mcrl2_syntax.specs.Declarations.{PlainSpec}
use Rattle.mcrl2_syntax.specs.SpelledDeclarations.{SpellsSpec}
use Rattle.term_pool.specs.Pools.{PoolContents}
use Rattle.sort_table.specs.Expressions.{Name}
use Rattle.sort_table.specs.Identifiers.{copied_identifiers}
use Rattle.sort_table.specs.Growth.{More, with_more}
use Rattle.sort_table.specs.SignatureVocabularies.{vocabulary_of}
use Rattle.sort_checker.specs.FullVocabularies.{FullVocabulary}
use Rattle.sort_checker.specs.TextModels.{IsSignatureOf, IsModelOf}
use Rattle.process_terms.specs.Theories.{Theory, IsConsistent, Equals, AreOfSorts}
use Rattle.process_terms.specs.Processes.{Process}
use Rattle.process_terms.specs.PlainProcesses.{PlainEquation, PlainModel}
use Rattle.process_terms.specs.Meanings.{process_of}
use Rattle.process_terms.specs.SignatureEntries.{entries_of, BothGrow}
use Rattle.bisim_laws.specs.LinearProcesses.{Linear, sorts, state_of, IsLinear, IsWellSorted, IsLinearText}
use Rattle.bisim_laws.specs.Links.{Link}
use Rattle.lps_core.specs.Fitting.{Fits}
use Rattle.lps_core.specs.GoingOn.{GoesOn}
use Rattle.lps_core.specs.PlainLinears.{PlainLinear, linear_of, initial_of, linear_state}
use Rattle.lps_core.specs.SealedTrees.{SealingIsGood}
use Rattle.lps_core.specs.Sealing.{NeverEnds}
use Rattle.proc_unfold.specs.FittingModels.{ModelFits}
use Rattle.lin_driver.specs.ModelLinears.{IsProcessName, LeadsToLinear}
use Rattle.lin_driver.specs.EqualLinears.{AreEqualLinears}
use Rattle.lin_driver.specs.Headline.{IsGoodBy, EndsBy, LeavesTerminate, Specifies, AddsOnly, AreAddedActions, StandsFor}
use Rattle.lin_driver.specs.SealedLinears.{SealsLinear}
use Rattle.lin_driver.specs.declared.ending.Ending.{Ending}
use Rattle.lin_driver.specs.declared.ending.Ending.TheVariants.{End, Terminate}

-- ---- what it is made of
-- A signature had what the specification declares. The names that were taken there are those that are taken from the start, and the identifiers that are copied
-- of the specification. Over it the specification had a model, whose equations these are. From there the linear process and the name of its process were made.
pub record IsMadeFor (spec : PlainSpec) (h : Sig) (us : List Tree) (equations : List PlainEquation) (x : NameId) (l : PlainLinear) : Type 0 where
  pub signature : Sig
  pub stands : IsSignature signature
  pub declares : IsSignatureOf spec signature
  pub taken : (t : Name) → IsTaken signature t ↔ (Contains first_names t ⊎ Contains (copied_identifiers spec) t)
  pub pool : PoolContents
  pub model : PlainModel
  pub is_model : IsModelOf spec signature pool model
  pub its_equations : model.equations ≡ equations
  pub fits : ModelFits signature pool.trees model
  pub grow : BothGrow signature h pool.trees us
  pub leads : LeadsToLinear signature (process_of (entries_of h us) model) h us l
  pub name : IsProcessName signature h x

-- What becomes of its end: by `End` it stays as it is, with signature and terms. By `Terminate` it is sealed, and never ends.
pub data IsEndedBy (g : Sig) (ts : List Tree) (l : PlainLinear) : Ending → Sig → List Tree → PlainLinear → Type 0 where
  it_stays : IsEndedBy g ts l End g ts l
  it_is_sealed : {h : Sig} {us : List Tree} {k : PlainLinear} → SealsLinear g h ts us l k → NeverEnds (linear_of (entries_of h us) k) → SealingIsGood g ts l h us k → IsEndedBy g ts l Terminate h us k

-- The tokens of the text spell the specification, and with `Terminate` it declares no action of this name. The linear process was made for it, and then ended.
pub record IsMadeOf (ending : Ending) (text : List ℕ) (spec : PlainSpec) (h : Sig) (us : List Tree) (equations : List PlainEquation) (x : NameId) (l : PlainLinear) : Type 0 where
  pub tokens : List Token
  pub cut : HasTokens text tokens
  pub spelled : SpellsSpec text spec tokens
  pub leaves_terminate : LeavesTerminate ending spec
  pub signature : Sig
  pub trees : List Tree
  pub linear : PlainLinear
  pub made : IsMadeFor spec signature trees equations x linear
  pub ended : IsEndedBy signature trees linear ending h us l

-- ---- what it is to the text
-- over every theory that goes on from the signature, the link is good in the form of the ending
abbrev pub IsGoodOverBy : Ending → Sig → Link → Process → Process → Type 0
IsGoodOverBy ending g k p q = (th : Theory) → GoesOn g th → IsConsistent th → IsGoodBy ending th k p q

-- The text has this specification. The signature has its vocabulary and more behind it, and a link leads from the text's process to the linear process, over
-- every theory that goes on from the signature.
pub record IsLinearised (ending : Ending) (text : List ℕ) (spec : PlainSpec) (g : Sig) (ts : List Tree) (l : PlainLinear) : Type 0 where
  pub vocabulary : FullVocabulary
  pub theory : Theory
  pub process : Process
  pub specifies : Specifies text vocabulary theory process
  pub spec_is : specifies.spec ≡ spec
  pub stands : IsSignature g
  pub leaves_terminate : LeavesTerminate ending spec
  pub numbers : (m : More) × (vocabulary_of g ≡ with_more vocabulary.declared m) × AreAddedActions ending m.actions
  pub fits : Fits g ts l
  pub ends : EndsBy ending (linear_of (entries_of g ts) l)
  pub link : Link
  pub bisimilar : IsGoodOverBy ending g link process (linear_state (entries_of g ts) l)

-- The bytes have a specification with the declarations of the given one and at most what may be added, over the vocabulary of a signature
-- that has grown. It is a linear text, of a linear process that is provably equal to the one in code.
pub record ReadsBack (ending : Ending) (spec : PlainSpec) (g : Sig) (ts : List Tree) (l : PlainLinear) (printed : List ℕ) : Type 0 where
  pub signature : Sig
  pub stands : IsSignature signature
  pub grown : IsGrown g signature
  pub actions : signature.actions ≡ g.actions
  pub inhabited : NoSortIsEmpty (data_meant signature)
  pub vocabulary : FullVocabulary
  pub declared : vocabulary.declared ≡ vocabulary_of signature
  pub theory : Theory
  pub linear : Linear
  pub initial : List Term
  pub specifies : Specifies printed vocabulary theory (state_of linear initial)
  pub adds_only : AddsOnly ending spec specifies.spec
  pub is_linear_text : IsLinearText theory (state_of linear initial)
  pub is_linear : IsLinear linear
  pub variable_sorts : List Sort
  pub is_sorted : IsWellSorted theory.declared variable_sorts linear
  pub of_sorts : AreOfSorts theory (sorts linear.params) initial
  pub equal : AreEqualLinears theory (linear_of (entries_of g ts) l) linear
  pub starts_equal : Equals theory (initial_of (entries_of g ts) l) initial

-- ---- the laws
-- what is made of a text stands for it
abbrev pub WhatIsMadeStandsForTheText : Type 0
WhatIsMadeStandsForTheText =
    (ending : Ending) (text : List ℕ) (spec : PlainSpec) (h : Sig) (us : List Tree) (equations : List PlainEquation) (x : NameId) (l : PlainLinear) → IsMadeOf ending text spec h us equations x l → IsLinearised ending text spec h us l

-- the linear process to which the process of a text leads stands for the text
abbrev pub WhatIsLedToStandsForTheText : Type 0
WhatIsLedToStandsForTheText =
    (text : List ℕ) (v : FullVocabulary) (th : Theory) (g h : Sig) (ts us : List Tree) (m : PlainModel) (l : PlainLinear) → (s : Specifies text v th (process_of (entries_of g ts) m)) → v.declared ≡ vocabulary_of g
    → IsSignature g → ModelFits g ts m → BothGrow g h ts us → LeadsToLinear g (process_of (entries_of h us) m) h us l → IsLinearised End text s.spec h us l

-- and what is printed for that one stands for the text, too
abbrev pub WhatIsPrintedStandsForTheText : Type 0
WhatIsPrintedStandsForTheText =
    (ending : Ending) (text printed : List ℕ) (spec : PlainSpec) (g : Sig) (ts : List Tree) (l : PlainLinear) → IsLinearised ending text spec g ts l → ReadsBack ending spec g ts l printed → StandsFor ending text printed
