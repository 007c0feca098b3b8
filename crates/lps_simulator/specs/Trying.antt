-- What is made of a summand, step by step.
use Rattle.std.specs.Prelude.{◌≡◌, ◌++◌, ℕ, Bool, List, [], ◌∷◌, map, Option, Some, None, IfSome}
use Rattle.std.specs.List.{All, AllZip, zip}
use Rattle.data_theory.specs.declared.ids.VarId.{VarId}
use Rattle.data_theory.specs.declared.ids.TermId.{TermId}
use Rattle.data_theory.specs.Terms.{Term, put}
use Rattle.data_theory.specs.Environments.{Environment, term_in}
use Rattle.data_theory.specs.Provable.{Equation}
use Rattle.data_theory.specs.Rewriting.{yes_decided, no_decided, IsDecided}
use Rattle.data_theory.specs.Signature.{Sig}
use Rattle.data_theory.specs.IdData.{data_meant}
use Rattle.data_theory.specs.IdTrees.{Tree}
use Rattle.data_rewriter.specs.Standing.{IsTerm, term_at}
use Rattle.process_terms.specs.SignatureEntries.{entries_of}
use Rattle.lps_core.specs.PlainLinears.{PlainSummand, PlainLinear, summand_of, linear_of}
use Rattle.term_pool.specs.HeadTrees.{tree_at, trees_at}
use Rattle.lps_core.specs.TreeConditions.{conjunction_tree}
use Rattle.lps_simulator.specs.LeadingParts.{GoesToFalse, instance_at}
use Rattle.lps_simulator.specs.Rewritten.{environment_of, IsActionOver, IsRewrittenAction, IsRewrittenNext}
use Rattle.lps_simulator.specs.Options.{Answer, IsAnswer, Tried, environment_at, moves_of, first_open, open_decision, open_with, cut_with}
use Rattle.lps_simulator.specs.OptionsInCode.{PlainMove, PlainOptions, IsMove, meant_move, terms_at, IsTriedAt}

-- the terms are those of the pool and the signature
pub record IsSummandOver (g : Sig) (ts : List Tree) (s : PlainSummand) : Type 0 where
  pub condition : IsTerm g ts s.condition
  pub label : All (IsActionOver g ts) s.label
  pub next : IfSome s.next (All (IsTerm g ts))

-- ---- one combination, whose terms are put in by the environment
-- the move is made of the summand
pub record IsMade (g : Sig) (own : List Equation) (fuel : ℕ) (e : Environment) (old new : List Tree) (number : ℕ) (s : PlainSummand) (m : PlainMove) : Type 0 where
  pub summand : m.summand ≡ number
  pub label : AllZip (IsRewrittenAction g own fuel e old new) s.label m.label
  pub next : IsRewrittenNext g own fuel e old new s.next m.next

-- what is added to the moves, and why the condition isn't decided
pub data TriesWith (g : Sig) (own : List Equation) (fuel : ℕ) (e : Environment) (old new : List Tree) (number : ℕ) (s : PlainSummand) (moves : List PlainMove) : List PlainMove → Option Bool → Type 0 where
  with_move : {more : List PlainMove} (m : PlainMove) → IsDecided (data_meant g) own fuel (put (term_in e) (term_at g old s.condition)) yes_decided → IsMade g own fuel e old new number s m → more ≡ moves ++ m ∷ [] → TriesWith g own fuel e old new number s moves more None
  without_move : {more : List PlainMove} → IsDecided (data_meant g) own fuel (put (term_in e) (term_at g old s.condition)) no_decided → more ≡ moves → TriesWith g own fuel e old new number s moves more None
  left_open : {more : List PlainMove} (by_fuel : Bool) → IsDecided (data_meant g) own fuel (put (term_in e) (term_at g old s.condition)) (open_decision by_fuel) → more ≡ moves → TriesWith g own fuel e old new number s moves more (Some by_fuel)

-- the condition is the chain of these parts
pub record AreLeadingParts (g : Sig) (ts : List Tree) (condition : TermId) (parts : List TermId) : Type 0 where
  pub chain : tree_at ts condition ≡ conjunction_tree (trees_at ts parts)
  pub terms : All (IsTerm g ts) parts

-- what is made of a combination, and the condition goes to `false` for those that are left out behind it
pub record TriesOne (g : Sig) (own : List Equation) (fuel : ℕ) (old new : List Tree) (sums : List VarId) (rest : List (VarId × TermId)) (c : List TermId) (number : ℕ) (s : PlainSummand) (moves more : List PlainMove) (left next : List (List TermId)) (why : Option Bool) : Type 0 where
  pub tries : TriesWith g own fuel (environment_of g old (zip sums c ++ rest)) old new number s moves more why
  pub left_out : List (List TermId)
  pub split : left ≡ left_out ++ next
  pub all_false : All (λ (d : List TermId). GoesToFalse (data_meant g) own (instance_at g new (zip sums d ++ rest) s.condition)) left_out

-- ---- some combinations of a summand, the others being left
pub record SumsAreTried (g : Sig) (own : List Equation) (fuel : ℕ) (ts us : List Tree) (l : PlainLinear) (state : List TermId) (number : ℕ) (s : PlainSummand) (all left : List (List TermId)) (old new : List PlainMove) (why : Option Bool) : Type 0 where
  pub done : List (List TermId)
  pub split : all ≡ done ++ left
  pub answers : List Answer
  pub each : AllZip (λ (c : List TermId). IsAnswer (data_meant g) own fuel (summand_of (entries_of g ts) s) (environment_at (linear_of (entries_of g ts) l) (summand_of (entries_of g ts) s) (terms_at g ts state) (map (term_at g ts) c))) done answers
  pub made : List PlainMove
  pub added : new ≡ old ++ made
  pub stand : All (IsMove g us l.params) made
  pub moves : map (meant_move g us) made ≡ moves_of number answers
  pub open_is : why ≡ first_open answers

-- ---- one summand
pub record ListsSummand (g : Sig) (own : List Equation) (fuel bound : ℕ) (ts us : List Tree) (l : PlainLinear) (state : List TermId) (number : ℕ) (s : PlainSummand) (old new : PlainOptions) : Type 0 where
  pub tried : Tried
  pub is_tried : IsTriedAt g own fuel bound ts l state s tried
  pub made : List PlainMove
  pub added : new.moves ≡ old.moves ++ made
  pub stand : All (IsMove g us l.params) made
  pub moves : map (meant_move g us) made ≡ moves_of number tried.answers
  pub undecided : new.undecided ≡ old.undecided ++ open_with number (first_open tried.answers)
  pub cut : new.cut ≡ old.cut ++ cut_with number tried.cut
