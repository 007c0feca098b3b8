-- What a linear process keeps as it is sealed, and that one that never ends stays so.
use Rattle.std.specs.Prelude.{◌≡◌, Bool, true, false, List, [], ◌∷◌, ◌++◌, Contains}
use Rattle.data_theory.specs.declared.ids.NameId.{NameId}
use Rattle.data_theory.specs.Declarations.{NoSortIsEmpty}
use Rattle.data_theory.specs.Keys.{key}
use Rattle.data_theory.specs.Provable.{Equation}
use Rattle.data_theory.specs.Signature.{Sig}
use Rattle.data_theory.specs.IdData.{data_meant}
use Rattle.data_theory.specs.IdTrees.{Tree}
use Rattle.data_theory.specs.IdTerms.{IsGrown}
use Rattle.data_theory.specs.WholeSignatures.{IsSignature}
use Rattle.term_pool.specs.Pools.{PoolContents, Extends}
use Rattle.sort_table.specs.SignatureVocabularies.{text_under}
use Rattle.process_terms.specs.SignatureEntries.{entries_of}
use Rattle.process_terms.specs.Theories.{Theory}
use Rattle.bisim_laws.specs.LinearProcesses.{Summand, Linear}
use Rattle.bisim_laws.specs.Terminations.{terminate_name}
use Rattle.lps_core.specs.CanonicalConditions.{HaveNoNeedlessTrue}
use Rattle.lps_core.specs.Fitting.{Fits}
use Rattle.lps_core.specs.MadeTerms.{Written}
use Rattle.lps_core.specs.Naming.{HaveOwnNames, ParamsHaveOwnNames}
use Rattle.lps_core.specs.PlainLinears.{PlainLinear, can_end, linear_of}
use Rattle.lps_core.specs.Sealing.{NeverEnds}
use Rattle.lps_core.specs.SealedTrees.{IsNoAction, IsSealed}
use Rattle.lps_printer.specs.GrowingByAdditions.{GrowsByAdditions, added_structs, added_constants, added_actions}
use Rattle.lin_driver.specs.Eliminations.{HasEffect}
use Rattle.lin_driver.specs.EqualLinears.{AreEqualLinears}
use Rattle.lin_driver.specs.PlainlyMade.{IsPlainFor}
use Rattle.lin_driver.specs.TakenNames.{HaveIdentifiers}
use Rattle.lin_driver.specs.declared.eliminations.Elimination.{Elimination}

-- ---- sealing
-- A linear process that fits was sealed as signature and pool grew, and what was made fits, too. No action had the name `Terminate`.
pub record SealsLinear (g h : Sig) (ts us : List Tree) (l k : PlainLinear) : Type 0 where
  pub old : IsSignature g
  pub new : IsSignature h
  pub grown : IsGrown g h
  pub kept : Extends ts us
  pub fits : Fits g ts l
  pub made_fits : Fits h us k
  pub absent : IsNoAction g terminate_name
  pub sealed : IsSealed g ts l h us k

-- nothing is added, or the action `Terminate` without arguments
pub data IsTerminateAdded (g h : Sig) : Bool → List NameId → Type 0 where
  nothing_is_added : h ≡ g → IsTerminateAdded g h false []
  it_is_added : {name : NameId} → text_under h name ≡ terminate_name → h.actions ≡ g.actions ++ key name [] ∷ [] → IsTerminateAdded g h true (name ∷ [])

-- the signature grows by that action alone, where the process can end
pub record GrowsByTerminate (g h : Sig) (ends : Bool) : Type 0 where
  pub grows : GrowsByAdditions g h
  pub structs : added_structs grows ≡ []
  pub constants : added_constants grows ≡ []
  pub actions : IsTerminateAdded g h ends (added_actions grows)

-- ---- laws of sealing
abbrev pub SealingAddsTerminate : Type 0
SealingAddsTerminate = (g h : Sig) (p q : PoolContents) (l k : PlainLinear) → SealsLinear g h p.trees q.trees l k → GrowsByTerminate g h (can_end l)

abbrev pub SealingEmptiesNoSort : Type 0
SealingEmptiesNoSort = (g h : Sig) (p q : PoolContents) (l k : PlainLinear) → SealsLinear g h p.trees q.trees l k → NoSortIsEmpty (data_meant g) → NoSortIsEmpty (data_meant h)

abbrev pub SealingKeepsIdentifiers : Type 0
SealingKeepsIdentifiers = (g h : Sig) (p q : PoolContents) (l k : PlainLinear) → SealsLinear g h p.trees q.trees l k → HaveIdentifiers g → HaveIdentifiers h

-- the phase has a name of its own, as the names of the parameters and the sums were taken
abbrev pub SealedParamsHaveOwnNames : Type 0
SealedParamsHaveOwnNames = (g h : Sig) (p q : PoolContents) (l k : PlainLinear) → SealsLinear g h p.trees q.trees l k → ParamsHaveOwnNames g l.params → ParamsHaveOwnNames h k.params

abbrev pub SealedSumsHaveOwnNames : Type 0
SealedSumsHaveOwnNames = (g h : Sig) (p q : PoolContents) (l k : PlainLinear) → SealsLinear g h p.trees q.trees l k → HaveOwnNames g l → HaveOwnNames h k

abbrev pub SealedConditionsHaveNoNeedlessTrue : Type 0
SealedConditionsHaveNoNeedlessTrue = (g h : Sig) (p q : PoolContents) (l k : PlainLinear) → SealsLinear g h p.trees q.trees l k → HaveNoNeedlessTrue g p.trees l → HaveNoNeedlessTrue h q.trees k

-- from an earlier signature on, and for whatever is written
abbrev pub SealedLinearsArePlain : Type 0
SealedLinearsArePlain = (s g h : Sig) (p q : PoolContents) (w : Written) (l k : PlainLinear) → SealsLinear g h p.trees q.trees l k → IsGrown s g → IsPlainFor s g p w l → IsPlainFor s h q w k

-- ---- what never ends
-- none of these passes makes an end
abbrev pub EliminationsMakeNoEnd : Type 0
EliminationsMakeNoEnd =
    (e : Elimination) (g : Sig) (own : List Equation) (ts : List Tree) (l k : PlainLinear) → HasEffect e g own ts l k → NeverEnds (linear_of (entries_of g ts) l) → NeverEnds (linear_of (entries_of g ts) k)

abbrev pub EqualLinearsNeverEnd : Type 0
EqualLinearsNeverEnd = (th : Theory) (l k : Linear) → AreEqualLinears th l k → NeverEnds l → NeverEnds k

-- what has some of the summands
abbrev pub SomeSummandsNeverEnd : Type 0
SomeSummandsNeverEnd = (l k : Linear) → ((s : Summand) → Contains k.summands s → Contains l.summands s) → NeverEnds l → NeverEnds k
