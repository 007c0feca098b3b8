-- What is printed of a linear process in which a condition holds stands for the text, and the condition is an invariant.
use Rattle.std.proofs.Common.{◌≡◌, ◌∙◌, ℕ, List, [], ◌∷◌, map, refl, sym, ap, ap₂, subst}
use Rattle.std.specs.List.{All, Contains}
use Rattle.data_theory.specs.declared.ids.NameId.{NameId}
use Rattle.data_theory.specs.declared.ids.TermId.{TermId}
use Rattle.data_theory.specs.declared.ids.VarId.{VarId}
use Rattle.data_theory.specs.Environments.{AreDistinct, IsOver}
use Rattle.data_theory.specs.IdTrees.{Tree}
use Rattle.data_theory.specs.Provable.{Equation}
use Rattle.data_theory.specs.Signature.{Sig}
use Rattle.data_theory.specs.WholeSignatures.{IsSignature}
use Rattle.data_rewriter.specs.declared.rewriter.Truth.{Truth}
use Rattle.data_rewriter.specs.Simplifying.{AreWellFormed}
use Rattle.data_rewriter.specs.Standing.{term_at}
use Rattle.mcrl2_syntax.specs.Declarations.{PlainSpec}
use Rattle.term_pool.specs.Pools.{Extends}
use Rattle.term_pool.proofs.DeclaredConstants.{grown_itself}
use Rattle.process_terms.specs.Meanings.{bound_at}
use Rattle.process_terms.specs.PlainProcesses.{PlainEquation}
use Rattle.process_terms.specs.Processes.{Bound, Process}
use Rattle.process_terms.specs.SignatureEntries.{entries_of}
use Rattle.bisim_laws.specs.LinearProcesses.{state_of, variables, Linear}
use Rattle.bisim_laws.specs.Links.{Held}
use Rattle.lps_core.specs.Fitting.{Fits}
use Rattle.lps_core.specs.GoingOn.{IsGoodOverEquations}
use Rattle.lps_core.specs.Naming.{name_of, names_of, function_names, HasOwnNames}
use Rattle.lps_core.specs.PlainLinears.{PlainSummand, PlainLinear, plain_linear, linear_of, linear_state}
use Rattle.lps_core.proofs.PoolTrees.{extends_itself, extends_on}
use Rattle.lps_core.proofs.Staying.{what_fits_stays}
use Rattle.lps_core.proofs.StayingFits.{what_fits_fits_still}
use Rattle.lps_invariant.specs.declared.judging.Judged.{Judged}
use Rattle.lps_invariant.specs.declared.judging.Judged.TheVariants.{Holds, Unproved}
use Rattle.lps_invariant.specs.Judging.{plain_truths, HoldsWith, IsInvariantIn}
use Rattle.lps_invariant.specs.HoldingLaws.{HoldsAsAnInvariant}
use Rattle.lps_invariant.proofs.HoldingWith.{what_holds}
use Rattle.lps_invariant.proofs.NeverEnding.{what_holds_makes_no_end}
use Rattle.lps_invariant.proofs.Sifting.{sifted_all}
use Rattle.lps_printer.specs.FittingLinears.{HasIdentifier, VariablesHaveOwnNames, NamesAreIdentifiers}
use Rattle.lin_driver.specs.Eliminations.{equations_at}
use Rattle.lin_driver.specs.Headline.{EndsBy, StandsFor}
use Rattle.lin_driver.specs.Linearised.{IsMadeOf, IsLinearised}
use Rattle.lin_driver.specs.ReadingBack.{CanBePrinted}
use Rattle.lin_driver.specs.declared.ending.Ending.{Ending}
use Rattle.lin_driver.specs.declared.ending.Ending.TheVariants.{End, Terminate}
use Rattle.lin_driver.proofs.LeftTexts.{left_stands_for, linearised}
use Rattle.lin_driver.proofs.MadeTexts.{made_can_be_printed}
use Rattle.lin_answers.specs.declared.status.Status.{Status}
use Rattle.lin_answers.specs.declared.status.Status.TheVariants.{Done, Undecided}
use Rattle.lin_tasks.specs.JudgedConditions.{IsJudged, IsReadAs, IsShownAs, IsTextOf, ShowsJudgement}
use Rattle.lin_tasks.specs.ShownInvariants.{ShowsThatItHolds}

-- ---- the pool grows
pub fits_later : (g : Sig) (ts us : List Tree) (l : PlainLinear) → IsSignature g → Extends ts us → Fits g ts l → Fits g us l
fits_later g ts us l stands kept fits = what_fits_fits_still g g ts us l stands.table stands.complete stands.table (record { signature = grown_itself g; pool = kept }) fits

means_later : (g : Sig) (ts us : List Tree) (l : PlainLinear) → IsSignature g → Extends ts us → Fits g ts l → linear_of (entries_of g us) l ≡ linear_of (entries_of g ts) l
means_later g ts us l stands kept fits = (what_fits_stays g g ts us l stands.table stands.complete (record { signature = grown_itself g; pool = kept }) fits).0

state_later : (g : Sig) (ts us : List Tree) (l : PlainLinear) → IsSignature g → Extends ts us → Fits g ts l → linear_state (entries_of g us) l ≡ linear_state (entries_of g ts) l
state_later g ts us l stands kept fits =
    let same = what_fits_stays g g ts us l stands.table stands.complete (record { signature = grown_itself g; pool = kept }) fits in
    ap₂ state_of same.0 same.1

-- ---- the condition over the parameters
numbers_are : (g : Sig) (ts : List Tree) (xs : List VarId) → variables (map (bound_at (entries_of g ts)) xs) ≡ map (λ (x : VarId). x.0) xs
numbers_are g ts [] = refl
numbers_are g ts (x ∷ xs) = ap (λ (ns : List ℕ). x.0 ∷ ns) (numbers_are g ts xs)

pub read_is_invariant : (g : Sig) (ts : List Tree) (l : PlainLinear) (condition : List ℕ) (inv : TermId) → IsReadAs g l.params condition ts inv → IsInvariantIn g ts l inv
read_is_invariant g ts l condition inv read =
    record { term = read.term; over = subst (λ (ns : List ℕ). IsOver ns (term_at g ts inv)) (sym (numbers_are g ts l.params)) read.over }

-- ---- what is left
module _ (g : Sig) (own : List Equation) (fuel : ℕ) (ts us : List Tree) (l : PlainLinear) (inv : TermId) (k : PlainLinear) (truths : List (List Truth)) (h : HoldsWith g own fuel ts us l inv k truths) where
  left_has_own_names : VariablesHaveOwnNames g l → VariablesHaveOwnNames g k
  left_has_own_names n = record {
    differ = subst (λ (xs : List VarId). AreDistinct (map (λ (m : NameId). m.0) (names_of g xs))) (sym h.params) n.differ;
    unused = subst (All (λ (x : VarId). ¬ (Contains (function_names g) (name_of g x)))) (sym h.params) n.unused;
    sums = subst (λ (xs : List VarId). All (HasOwnNames g xs) k.summands) (sym h.params) (sifted_all _ _ (HasOwnNames g l.params) h.summands n.sums);
  }

  left_has_identifiers : NamesAreIdentifiers g l → NamesAreIdentifiers g k
  left_has_identifiers n = record {
    params = subst (All (HasIdentifier g)) (sym h.params) n.params;
    sums = sifted_all _ _ (λ (s : PlainSummand). All (HasIdentifier g) s.sums) h.summands n.sums;
    functions = n.functions;
    sorts = n.sorts;
    actions = n.actions;
  }

  left_ends_by : (ending : Ending) → EndsBy ending (linear_of (entries_of g us) l) → EndsBy ending (linear_of (entries_of g us) k)
  left_ends_by End ends = tt
  left_ends_by Terminate ends = what_holds_makes_no_end (entries_of g us) g own fuel ts us l inv k truths h ends

-- ---- where it is shown to hold
-- of a linear process that fits
module _ (spec : PlainSpec) (g : Sig) (own : List Equation) (fuel : ℕ) (ts : List Tree) (x : NameId) (l : PlainLinear) (condition : List ℕ) (stands : IsSignature g) (fine : AreWellFormed g own) (fits : Fits g ts l) where
  shown_held : (later : List Tree) (judged : Judged) (status : Status) (shown : List ℕ) → IsJudged g own fuel ts later l condition judged → IsShownAs spec g later x judged status shown → status ≡ Done → ShowsThatItHolds spec g own ts x l condition shown
  shown_held later (Holds lin truths) status shown j shows done = record {
    trees = j.trees;
    invariant = j.invariant;
    kept = j.read_on;
    read = j.read;
    later = later;
    kept_later = j.judged_on;
    left = plain_linear lin;
    truths = plain_truths truths.items;
    holds = what_holds g own fuel j.trees later l j.invariant (plain_linear lin) (plain_truths truths.items) stands fine (fits_later g ts j.trees l stands j.read_on fits) (read_is_invariant g j.trees l condition j.invariant j.read) j.judged_on j.judgement;
    text = shows.1;
  }
  shown_held later (Unproved place part truths) status shown j shows done = let never : Undecided ≡ Done = sym shows.0 ∙ done in let no : ⊥ = cc in absurd no

  pub shows_that_it_holds : (status : Status) (shown : List ℕ) → ShowsJudgement spec g own fuel ts x l condition status shown → status ≡ Done → ShowsThatItHolds spec g own ts x l condition shown
  shows_that_it_holds status shown s done = shown_held s.later s.judged status shown s.is_judged s.shows done

-- of one that was made of a text
module _ (ending : Ending) (text : List ℕ) (spec : PlainSpec) (g : Sig) (ts : List Tree) (equations : List PlainEquation) (x : NameId) (l : PlainLinear) (made : IsMadeOf ending text spec g ts equations x l) (fine : AreWellFormed g (equations_at g ts equations)) (fuel : ℕ) (condition : List ℕ) where
  abbrev own : List Equation
  own = equations_at g ts equations

  abbrev its : IsLinearised ending text spec g ts l
  its = linearised ending text spec g ts ts equations x l made (extends_itself ts)

  abbrev can : CanBePrinted ending spec g ts x l
  can = made_can_be_printed ending text spec g ts equations x l made

  held_stands : (later : List Tree) (judged : Judged) (status : Status) (shown : List ℕ) → IsJudged g own fuel ts later l condition judged → IsShownAs spec g later x judged status shown → status ≡ Done → StandsFor ending text shown
  held_stands later (Holds lin truths) status shown j shows done =
      let k = plain_linear lin in
      let h : HoldsWith g own fuel j.trees later l j.invariant k (plain_truths truths.items) = j.judgement in
      let kept : Extends ts later = extends_on ts j.trees later j.read_on j.judged_on in
      let there : Fits g j.trees l = fits_later g ts j.trees l its.stands j.read_on its.fits in
      let proved = what_holds g own fuel j.trees later l j.invariant k (plain_truths truths.items) its.stands fine there (read_is_invariant g j.trees l condition j.invariant j.read) j.judged_on h in
      left_stands_for ending text spec g ts later equations x l made kept shown k proved.fits (left_has_own_names g own fuel j.trees later l j.invariant k (plain_truths truths.items) h can.names)
      (left_has_identifiers g own fuel j.trees later l j.invariant k (plain_truths truths.items) h can.identifiers) shows.1.signature shows.1.stands shows.1.is_printed
      (left_ends_by g own fuel j.trees later l j.invariant k (plain_truths truths.items) h ending (linearised ending text spec g ts later equations x l made kept).ends)
      (Held (term_at g j.trees j.invariant) (linear_of (entries_of g j.trees) l) (linear_of (entries_of g later) k))
      (subst (λ (p : Process). IsGoodOverEquations g own (Held (term_at g j.trees j.invariant) (linear_of (entries_of g j.trees) l) (linear_of (entries_of g later) k)) p (linear_state (entries_of g later) k)) (sym (state_later g j.trees later l its.stands j.judged_on there)) proved.good)
  held_stands later (Unproved place part truths) status shown j shows done = let never : Undecided ≡ Done = sym shows.0 ∙ done in let no : ⊥ = cc in absurd no

  pub held_stands_for : (status : Status) (shown : List ℕ) → ShowsJudgement spec g own fuel ts x l condition status shown → status ≡ Done → StandsFor ending text shown
  held_stands_for status shown s done = held_stands s.later s.judged status shown s.is_judged s.shows done
