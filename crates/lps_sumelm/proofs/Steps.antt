-- One step in code.
use Rattle.std.proofs.Common.{◌≡◌, ◌<◌, ◌++◌, ℕ, suc, List, [], take, drop, length, sym, subst, Option, Some, None}
use Rattle.std.specs.Prelude.{MatchOption}
use Rattle.std.specs.List.{All}
use Rattle.std.proofs.lemmas.List.Elements.{All-append, All-take, All-drop}
use Rattle.data_theory.specs.declared.ids.VarId.{VarId}
use Rattle.data_theory.specs.declared.ids.TermId.{TermId}
use Rattle.data_theory.specs.Terms.{Term}
use Rattle.data_theory.specs.Provable.{Equation}
use Rattle.data_theory.specs.Signature.{Sig}
use Rattle.data_theory.specs.WholeSignatures.{IsSignature}
use Rattle.data_theory.specs.IdTrees.{Tree}
use Rattle.term_pool.specs.HeadTrees.{tree_at, trees_at}
use Rattle.bisim_laws.specs.LinearProcesses.{variables}
use Rattle.data_rewriter.specs.Standing.{IsTerm, listed_at}
use Rattle.lps_core.specs.PlainLinears.{PlainSummand}
use Rattle.lps_core.specs.TreeConditions.{tree_parts, trees_without_true}
use Rattle.lps_core.specs.TreeSummands.{trees_of_summand, IsSummandIn, numbers_of}
use Rattle.lps_core.proofs.MeantTrees.{numbers_meant}
use Rattle.lps_sumelm.specs.declared.solutions.Solution.{Solution}
use Rattle.lps_sumelm.specs.Simplified.{IsAnswer, SummandBecomes}
use Rattle.lps_sumelm.specs.Solutions.{IsFirst, NoneGives}
use Rattle.lps_sumelm.specs.Solving.{conditions_of}
use Rattle.lps_sumelm.specs.SummandsInCode.{meant_solution, summand_at, sums_but, solved_trees, IsFirstAt, IsSummandOver, SummandStands, IsSummandAnswer, IsStep}
use Rattle.lps_sumelm.proofs.Loops.{but_fewer}
use Rattle.lps_sumelm.proofs.SimplifiedInCode.{becomes_along}
use Rattle.lps_sumelm.proofs.SolvableParts.{first_is_found}
use Rattle.lps_sumelm.proofs.SolvedTrees.{parts_mean, solved_over}
use Rattle.lps_sumelm.proofs.StandingSummands.{answer_stands, step_means, step_stands}

-- what a look for the first solvable part answers
abbrev Answered : Sig → List Tree → List VarId → List TermId → Option (ℕ × Solution) → Type 0
Answered g ts xs cs o = MatchOption o (NoneGives (numbers_of xs) (listed_at g ts cs)) (λ p. IsFirstAt g ts (numbers_of xs) cs p.0 p.1)

pub first_found : (g : Sig) (ts : List Tree) (xs ys : List VarId) (cs ds : List TermId) (o : Option (ℕ × Solution)) (place : ℕ) (f : Solution) → xs ≡ ys → cs ≡ ds → o ≡ Some (place, f) → Answered g ts xs cs o → IsFirstAt g ts (numbers_of ys) ds place f
first_found g ts xs ys cs ds o place f a b is h = subst (λ zs. IsFirstAt g ts (numbers_of zs) ds place f) a (subst (λ z. IsFirstAt g ts (numbers_of xs) z place f) b (subst (Answered g ts xs cs) is h))

pub none_found : (g : Sig) (ts : List Tree) (xs ys : List VarId) (cs ds : List TermId) (o : Option (ℕ × Solution)) → xs ≡ ys → cs ≡ ds → o ≡ None → Answered g ts xs cs o → NoneGives (numbers_of ys) (listed_at g ts ds)
none_found g ts xs ys cs ds o a b is h = subst (λ zs. NoneGives (numbers_of zs) (listed_at g ts ds)) a (subst (λ z. NoneGives (numbers_of xs) (listed_at g ts z)) b (subst (Answered g ts xs cs) is h))

pub without_one : (P : TermId → Type 0) (xs : List TermId) (i : ℕ) → All P xs → All P (take i xs ++ drop (suc i) xs)
without_one P xs i h = All-append P (take i xs) (drop (suc i) xs) (All-take P i xs h) (All-drop P (suc i) xs h)

module _ (g : Sig) (stands : IsSignature g) (ts : List Tree) (s : PlainSummand) (over : IsSummandOver g ts s) (parts : List TermId) (are : trees_at ts parts ≡ trees_without_true (tree_parts (tree_at ts s.condition))) where
  same_sums : numbers_of s.sums ≡ variables (summand_at g ts s).sums
  same_sums = sym (numbers_meant g [] s.sums)

  same_parts : listed_at g ts parts ≡ conditions_of (summand_at g ts s)
  same_parts = parts_mean g stands ts s.condition parts over.condition are

  pub none_in_summand : NoneGives (numbers_of s.sums) (listed_at g ts parts) → NoneGives (variables (summand_at g ts s).sums) (conditions_of (summand_at g ts s))
  none_in_summand h = subst (λ xs. NoneGives xs (conditions_of (summand_at g ts s))) same_sums (subst (NoneGives (numbers_of s.sums)) same_parts h)

  module _ (place : ℕ) (f : Solution) (at : IsFirstAt g ts (numbers_of s.sums) parts place f) where
    abbrev pub rest : List TermId
    rest = take place parts ++ drop (suc place) parts

    pub first_in_summand : IsFirst (variables (summand_at g ts s).sums) (conditions_of (summand_at g ts s)) (meant_solution g ts f) (listed_at g ts rest)
    first_in_summand =
        subst (λ xs. IsFirst xs (conditions_of (summand_at g ts s)) (meant_solution g ts f) (listed_at g ts rest)) same_sums
        (subst (λ cs. IsFirst (numbers_of s.sums) cs (meant_solution g ts f) (listed_at g ts rest)) same_parts at.first)

    pub fewer_sums : (made : List VarId) → made ≡ sums_but f.var s.sums → length made < length s.sums
    fewer_sums made e = subst (λ z. length z < length s.sums) (sym e) (but_fewer f.var s.sums (first_is_found at.first).solvable.among)

    module _ (us : List Tree) (solved : PlainSummand) (all : All (IsTerm g ts) parts) (q : trees_of_summand us solved ≡ solved_trees ts f (trees_at ts rest) (trees_of_summand ts s)) (within : IsSummandIn us solved) where
      pub solved_is_over : IsSummandOver g us solved
      solved_is_over = solved_over g stands ts f at.term rest (without_one (IsTerm g ts) parts place all) us s solved q within over

      pub solved_stands : (ps : List VarId) → SummandStands g ts ps s → SummandStands g us ps solved
      solved_stands ps h = step_stands g stands ts us ps s solved h f rest at.term (without_one (IsTerm g ts) parts place all) q within first_in_summand

      pub made_stands : (own : List Equation) (P : Term → Type 0) (vs : List Tree) (made : PlainSummand) → made.sums ≡ solved.sums → IsSummandAnswer g own P us vs solved made → (ps : List VarId) → SummandStands g ts ps s → SummandStands g vs ps made
      made_stands own P vs made sums answer ps h = answer_stands g stands us vs ps solved made (solved_stands ps h) own P sums answer

      pub is_step : (own : List Equation) (P Q : Term → Type 0) → ((t : Term) → P t → Q t) → (vs : List Tree) (made : PlainSummand) → IsSummandAnswer g own P us vs solved made → (ps : List VarId) → SummandStands g ts ps s → IsStep (IsAnswer g own Q) (summand_at g ts s) (summand_at g vs made)
      is_step own P Q w vs made answer ps h = record {
        binding = meant_solution g ts f;
        rest = listed_at g ts rest;
        first = first_in_summand;
        becomes = becomes_along g own P Q w _ (summand_at g vs made)
            (subst (λ z. SummandBecomes (IsAnswer g own P) z (summand_at g vs made)) (step_means g stands ts us ps s solved h f rest at.term (without_one (IsTerm g ts) parts place all) q within) answer.becomes);
      }
