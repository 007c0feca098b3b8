-- What the calls that eliminate say, as what is left.
use Rattle.std.proofs.Common.{◌≡◌, ◌↔◌, List, refl, sym, subst, Result, Ok, Err}
use Rattle.std.specs.Prelude.{ℕ, IfOk}
use Rattle.std.specs.List.{All, AllZip}
use Rattle.std.proofs.lemmas.List.Elements.{All-weaker}
use Rattle.data_theory.specs.IdTrees.{Tree}
use Rattle.data_theory.specs.Provable.{Equation}
use Rattle.data_theory.specs.Signature.{Sig}
use Rattle.data_theory.specs.Terms.{Term}
use Rattle.data_theory.specs.WholeSignatures.{IsSignature}
use Rattle.data_rewriter.specs.Simplifying.{AreWellFormed, IsSimpleWith}
use Rattle.term_pool.specs.Pools.{Extends}
use Rattle.term_pool.proofs.DeclaredConstants.{grown_itself}
use Rattle.process_terms.specs.SignatureEntries.{entries_of}
use Rattle.bisim_laws.specs.LinearProcesses as theory
use Rattle.bisim_laws.specs.LinearProcesses.{state_of}
use Rattle.bisim_laws.specs.Links.{Solved}
use Rattle.lps_core.specs.declared.linears.Linear.{Linear}
use Rattle.lps_core.specs.Fitting.{Fits}
use Rattle.lps_core.specs.GoingOn.{IsGoodOverEquations}
use Rattle.lps_core.specs.PlainLinears.{PlainLinear, plain_linear, linear_of, initial_of, linear_state}
use Rattle.lps_core.proofs.Staying.{what_fits_stays}
use Rattle.lps_parelm.specs.Needed.{IsWithoutTheUnneeded}
use Rattle.lps_constelm.specs.Eliminating.{IsWithoutConstants}
use Rattle.lps_sumelm.specs.Simplified.{EachTermIs, IsAnswer}
use Rattle.lps_sumelm.specs.SolvedLinears.{SolvingIsGood}
use Rattle.lps_sumelm.specs.Solving.{IsSolvedSummand}
use Rattle.lps_sumelm.specs.SolvingLaws.{HasNoSolution, HasNoUnused}
use Rattle.lps_sumelm.proofs.WholeProcess.{each_along}
use Rattle.lin_driver.specs.Eliminations.{IsLeft}
use Rattle.lin_driver.specs.declared.eliminations.Elimination.TheVariants.{Constants, Parameters, Sums}

-- what follows of what was made
pub if_so : {A E : Type 0} (r : Result A E) (P Q : A → Type 0) → IfOk r P → ((a : A) → P a → Q a) → IfOk r Q
if_so (Ok a) P Q h f = f a h
if_so (Err e) P Q h f = h

module _ (g : Sig) (stands : IsSignature g) (ts us : List Tree) (kept : Extends ts us) (l : PlainLinear) (fits : Fits g ts l) where
  pub left_without_parameters : {E : Type 0} (r : Result Linear E) → IfOk r (λ made. (h : Sig) → IsSignature h → Fits h ts l → Fits h us (plain_linear made)) → IfOk r (λ made. (h : Sig) → IsSignature h → Fits h ts l → IsWithoutTheUnneeded h us l (plain_linear made))
      → IfOk r (λ left. (own : List Equation) → IsLeft Parameters g own ts us l (plain_linear left))
  left_without_parameters (Ok made) fit needed = λ own. record { kept = kept; fits = fit g stands fits; effect = needed g stands fits }
  left_without_parameters (Err e) fit needed = tt

  -- ---- constants
  pub left_without_constants : {E : Type 0} (own : List Equation) (fuel : ℕ) (r : Result Linear E) → IfOk r (λ made. Fits g us (plain_linear made)) → IfOk r (λ made. IsWithoutConstants g own (IsSimpleWith g own fuel) us l (plain_linear made))
      → IfOk r (λ left. IsLeft (Constants fuel) g own ts us l (plain_linear left))
  left_without_constants own fuel (Ok made) fit eliminated = record { kept = kept; fits = fit; effect = eliminated }
  left_without_constants own fuel (Err e) fit eliminated = tt

  -- ---- sums
  stays : (linear_of (entries_of g us) l ≡ linear_of (entries_of g ts) l) × (initial_of (entries_of g us) l ≡ initial_of (entries_of g ts) l)
  stays = what_fits_stays g g ts us l stands.table stands.complete (record { signature = grown_itself g; pool = kept }) fits

  good_later : (own : List Equation) (k : PlainLinear) → SolvingIsGood g own ts us l k → SolvingIsGood g own us us l k
  good_later own k good =
      let K = linear_of (entries_of g us) k in
      let to = linear_state (entries_of g us) k in
      subst (λ (is : List Term). IsGoodOverEquations g own (Solved (linear_of (entries_of g us) l) K) (state_of (linear_of (entries_of g us) l) is) to) (sym stays.1)
      (subst (λ (L : theory.Linear). IsGoodOverEquations g own (Solved L K) (state_of L (initial_of (entries_of g ts) l)) to) (sym stays.0) good)

  pub left_without_sums : {E : Type 0} (own : List Equation) (fuel : ℕ) (Simple : Term → Type 0) → ((t : Term) → Simple t → IsSimpleWith g own fuel t) → (r : Result Linear E)
      → IfOk r (λ made. (plain_linear made).params ≡ l.params) → IfOk r (λ made. (plain_linear made).init ≡ l.init) → IfOk r (λ made. Fits g us (plain_linear made))
      → IfOk r (λ made. AllZip (IsSolvedSummand (IsAnswer g own (IsSimpleWith g own fuel))) (linear_of (entries_of g ts) l).summands (linear_of (entries_of g us) (plain_linear made)).summands)
      → IfOk r (λ made. All HasNoSolution (linear_of (entries_of g us) (plain_linear made)).summands) → IfOk r (λ made. All HasNoUnused (linear_of (entries_of g us) (plain_linear made)).summands)
      → IfOk r (λ made. All (EachTermIs Simple) (linear_of (entries_of g us) (plain_linear made)).summands) → IfOk r (λ made. SolvingIsGood g own ts us l (plain_linear made)) → IfOk r (λ left. IsLeft (Sums fuel) g own ts us l (plain_linear left))
  left_without_sums own fuel Simple same (Ok made) params init fit summands solved used simple good =
      let k = plain_linear made in
      record {
        kept = kept;
        fits = fit;
        effect = record {
          params = params;
          init = init;
          summands = subst (λ (L : theory.Linear). AllZip (IsSolvedSummand (IsAnswer g own (IsSimpleWith g own fuel))) L.summands (linear_of (entries_of g us) k).summands) (sym stays.0) summands;
          solved = solved;
          used = used;
          simple = All-weaker (EachTermIs Simple) (EachTermIs (IsSimpleWith g own fuel)) (λ s h. each_along Simple (IsSimpleWith g own fuel) same h) (linear_of (entries_of g us) k).summands simple;
          bisimilar = good_later own k good;
        };
      }
  left_without_sums own fuel Simple same (Err e) params init fit summands solved used simple good = tt
