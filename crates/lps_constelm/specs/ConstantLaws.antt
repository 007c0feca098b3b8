-- Laws of constant parameters.
use Rattle.std.specs.Prelude.{◌≡◌, ℕ, Bool, false, List, [], length, Some, slice_get}
use Rattle.data_theory.specs.Terms.{Sort, Term}
use Rattle.data_theory.specs.Declarations.{Data, HaveSorts}
use Rattle.data_theory.specs.Environments.{terms_of}
use Rattle.data_theory.specs.Provable.{Equation}
use Rattle.data_theory.specs.EqualityLaws.{AreAmong}
use Rattle.data_theory.specs.Rewriting.{AreSorts}
use Rattle.data_theory.specs.Signature.{Sig}
use Rattle.data_theory.specs.WholeSignatures.{IsSignature}
use Rattle.data_theory.specs.IdData.{data_meant}
use Rattle.data_theory.specs.IdTrees.{Tree}
use Rattle.term_pool.specs.Pools.{Extends}
use Rattle.process_terms.specs.Theories.{Theory, AreOfSorts}
use Rattle.process_terms.specs.SignatureEntries.{entries_of}
use Rattle.bisim_laws.specs.LinearProcesses.{Linear, sorts, state_of, IsLinear, IsWellSorted}
use Rattle.bisim_laws.specs.BaseStates.{Fate}
use Rattle.bisim_laws.specs.Links.{Dropped, IsGood}
use Rattle.lps_core.specs.Fitting.{Fits}
use Rattle.lps_core.specs.GoingOn.{GoesOn}
use Rattle.lps_core.specs.PlainLinears.{PlainLinear, linear_of, initial_of}
use Rattle.lps_parelm.specs.Keeping.{keep}
use Rattle.lps_constelm.specs.Simplified.{IsSimplerTerm, Becomes}
use Rattle.lps_constelm.specs.Constants.{AreInitial, IsConstantSet, IsGreatestConstantSet, HasNoConstantSet, without_constants}
use Rattle.lps_constelm.specs.Eliminating.{Eliminates}
use Rattle.lps_constelm.specs.Putting.{AreNotConstant, IsWithoutUnmarked, set_of}
use Rattle.lps_constelm.specs.Runs.{LinearBecomes}

-- ---- one constant set
abbrev pub RemovedConstantsKeepTheShape : Type 0
RemovedConstantsKeepTheShape = (g : Data) (fates : List Fate) (l : Linear) (init : List Term) → IsLinear l → HaveSorts g [] (terms_of init) (sorts l.params) → AreInitial fates init → IsLinear (without_constants fates l)

abbrev pub RemovedConstantsKeepTheSorts : Type 0
RemovedConstantsKeepTheSorts =
    (g : Data) (vs : List Sort) (fates : List Fate) (l : Linear) (init : List Term) → IsWellSorted g vs l → HaveSorts g [] (terms_of init) (sorts l.params) → AreInitial fates init → IsWellSorted g vs (without_constants fates l)

abbrev pub RemovedConstantsAreGood : Type 0
RemovedConstantsAreGood =
    (th : Theory) (vs : List Sort) (fates : List Fate) (l : Linear) (init : List Term) → IsLinear l → IsWellSorted th.declared vs l → AreOfSorts th (sorts l.params) init → IsConstantSet l init fates
    → IsGood th (Dropped fates l (without_constants fates l)) (state_of l init) (state_of (without_constants fates l) (keep fates init))

-- ---- the greatest ones, one after another; of what is simple nothing is asked
abbrev pub EliminatedProcessesAreGood : Type 0
EliminatedProcessesAreGood =
    (g : Sig) (own : List Equation) (vs : List Sort) (l k : Linear) (init first : List Term) (fates : List Fate) → AreSorts (data_meant g) vs → IsLinear l → IsWellSorted (data_meant g) vs l
    → HaveSorts (data_meant g) [] (terms_of init) (sorts l.params) → Eliminates (IsSimplerTerm g own (λ t. Unit {0})) l init k first fates → (th : Theory) → GoesOn g th → AreAmong own th.equations → IsGood th (Dropped fates l k) (state_of l init) (state_of k first)

-- ---- the greatest one, by what uses what
abbrev pub WhatIsNotReachedIsGreatest : Type 0
WhatIsNotReachedIsGreatest =
    (g : Sig) (ts : List Tree) (l : PlainLinear) (marks : List Bool) → IsSignature g → Fits g ts l → AreNotConstant ts l marks
    → IsGreatestConstantSet (linear_of (entries_of g ts) l) (initial_of (entries_of g ts) l) (set_of marks (initial_of (entries_of g ts) l))

abbrev pub AllMarkedIsNoConstantSet : Type 0
AllMarkedIsNoConstantSet = (l : Linear) (init : List Term) (marks : List Bool) → ((place : ℕ) → ¬ (slice_get marks place ≡ Some false)) → IsGreatestConstantSet l init (set_of marks init) → HasNoConstantSet l init

-- ---- in code
abbrev pub SimplifiedCodeMeansSimplerTerms : Type 0
SimplifiedCodeMeansSimplerTerms =
    (g : Sig) (own : List Equation) (ts us : List Tree) (l k : PlainLinear) → IsSignature g → Fits g ts l → LinearBecomes g own (λ t. Unit {0}) ts us l k
    → Becomes (IsSimplerTerm g own (λ t. Unit {0})) (linear_of (entries_of g ts) l) (initial_of (entries_of g ts) l) (linear_of (entries_of g us) k) (initial_of (entries_of g us) k)

abbrev pub SimplifiedCodeFits : Type 0
SimplifiedCodeFits = (g : Sig) (own : List Equation) (ts us : List Tree) (l k : PlainLinear) → IsSignature g → Fits g ts l → LinearBecomes g own (λ t. Unit {0}) ts us l k → Fits g us k

abbrev pub WhatIsPutInMeansTheRemoval : Type 0
WhatIsPutInMeansTheRemoval =
    (g : Sig) (ts us : List Tree) (marks : List Bool) (l k : PlainLinear) → IsSignature g → Fits g ts l → Extends ts us → length marks ≡ length l.params → IsWithoutUnmarked ts us marks l k
    → linear_of (entries_of g us) k ≡ without_constants (set_of marks (initial_of (entries_of g ts) l)) (linear_of (entries_of g ts) l)

abbrev pub WhatIsPutInFits : Type 0
WhatIsPutInFits = (g : Sig) (ts us : List Tree) (marks : List Bool) (l k : PlainLinear) → IsSignature g → Fits g ts l → Extends ts us → length marks ≡ length l.params → IsWithoutUnmarked ts us marks l k → Fits g us k
