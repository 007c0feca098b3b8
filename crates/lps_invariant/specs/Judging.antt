-- What is answered of an invariant, with its causes.
use Rattle.std.specs.Prelude.{◌≡◌, ◌≢◌, ◌<◌, ◌++◌, ◌⊎◌, ℕ, suc, List, [], ◌∷◌, map, zero, Some, Contains, slice_get, Vec}
use Rattle.std.specs.Global.{Global}
use Rattle.std.specs.List.{AllZip}
use Rattle.data_theory.specs.declared.ids.TermId.{TermId}
use Rattle.data_theory.specs.Terms.{Term}
use Rattle.data_theory.specs.Equations.{trueᵗ, falseᵗ}
use Rattle.data_theory.specs.Environments.{IsOver}
use Rattle.data_theory.specs.Provable.{Equation}
use Rattle.data_theory.specs.Rewriting.{GoesTo, ChainOfMoreThan, yes_decided, no_decided, IsDecided}
use Rattle.data_theory.specs.Signature.{Sig}
use Rattle.data_theory.specs.Table.{bool_sort}
use Rattle.data_theory.specs.IdData.{data_meant}
use Rattle.data_theory.specs.IdTrees.{Tree}
use Rattle.data_rewriter.specs.declared.rewriter.Truth.{Truth}
use Rattle.data_rewriter.specs.declared.rewriter.Truth.TheVariants.{Yes, No, Stuck, Spent}
use Rattle.data_rewriter.specs.Standing.{IsTerm, term_at}
use Rattle.process_terms.specs.SignatureEntries.{entries_of}
use Rattle.bisim_laws.specs.LinearProcesses.{variables}
use Rattle.lps_core.specs.Fitting.{IsTermOf, Fits}
use Rattle.lps_core.specs.PlainLinears.{PlainSummand, PlainLinear, plain_linear, linear_of, summand_of, initial_of}
use Rattle.lps_invariant.specs.declared.judging.Judged.{Judged}
use Rattle.lps_invariant.specs.declared.judging.Judged.TheVariants.{Holds, Unproved}
use Rattle.lps_invariant.specs.Places.{Place, first_place, SolvedPlaceIs}
use Rattle.lps_invariant.specs.Decisions.{IsProved, IsProvedWhole, IsRefuted}

-- a term of sort Bool that has no variables but the parameters
pub record IsInvariantIn (g : Sig) (ts : List Tree) (l : PlainLinear) (inv : TermId) : Type 0 where
  pub term : IsTermOf g ts bool_sort inv
  pub over : IsOver (variables (linear_of (entries_of g ts) l).params) (term_at g ts inv)

-- ---- answers
-- how a term was decided, with its cause
abbrev pub IsTruthFor : Sig → List Equation → ℕ → List Tree → Term → Truth → Type 0
IsTruthFor g own fuel us t Yes = IsDecided (data_meant g) own fuel t yes_decided
IsTruthFor g own fuel us t No = IsDecided (data_meant g) own fuel t no_decided
IsTruthFor g own fuel us t (Stuck u) = IsTerm g us u × ((n : ℕ) × GoesTo (data_meant g) own t (term_at g us u) n) × (term_at g us u ≢ trueᵗ) × (term_at g us u ≢ falseᵗ)
IsTruthFor g own fuel us t (Spent u) = IsTerm g us u × (term_at g us u ≡ t) × ChainOfMoreThan (data_meant g) own fuel t

-- the answers for the hypotheses, in order and none of them No
abbrev pub AreAnswered : Sig → List Equation → ℕ → List Tree → List Term → List Truth → Type 0
AreAnswered g own fuel us ts answers = AllZip (λ t a. IsTruthFor g own fuel us t a × (a ≢ No)) ts answers

-- it isn't contradictory, and each goal is proved
pub record IsShownWith (g : Sig) (own : List Equation) (fuel : ℕ) (us : List Tree) (truths : List Truth) (p : Place) : Type 0 where
  pub hypotheses : AreAnswered g own fuel us p.hypotheses truths
  pub goals : IsProvedWhole (data_meant g) own fuel p

abbrev pub IsShownBy : Sig → List Equation → ℕ → List Tree → Place → Type 0
IsShownBy g own fuel us p = (truths : List Truth) × IsShownWith g own fuel us truths p

-- this is the first goal that isn't proved, from 1 among all goals, with the answer for it
pub record IsFirstOpen (g : Sig) (own : List Equation) (fuel : ℕ) (us : List Tree) (part : ℕ) (answer : Truth) (p : Place) : Type 0 where
  pub number : ℕ
  pub from_one : part ≡ suc number
  pub goal : Term
  pub there : slice_get p.goals number ≡ Some goal
  pub before : (i : ℕ) (t : Term) → i < number → slice_get p.goals i ≡ Some t → IsProved (data_meant g) own fuel p t
  pub no_hypothesis : ¬ (Contains p.hypotheses goal)
  pub answered : IsTruthFor g own fuel us goal answer
  pub not_yes : answer ≢ Yes

-- it isn't contradictory, and this is its first goal that isn't proved; the last answer is for that goal
pub record IsOpenAt (g : Sig) (own : List Equation) (fuel : ℕ) (us : List Tree) (part : ℕ) (truths : List Truth) (p : Place) : Type 0 where
  pub for_hypotheses : List Truth
  pub for_goal : Truth
  pub are : truths ≡ for_hypotheses ++ for_goal ∷ []
  pub hypotheses : AreAnswered g own fuel us p.hypotheses for_hypotheses
  pub goal : IsFirstOpen g own fuel us part for_goal p

-- ---- some of a list
-- these with some left out: something is told of each that stays, and those that go are as is said
pub data AreSifted {A B : Type 0} (Stays : A → B → Type 0) (Goes : A → Type 0) : List A → List A → List B → Type 0 where
  none_to_sift : AreSifted Stays Goes [] [] []
  one_stays : {x : A} {b : B} {xs ys : List A} {bs : List B} → Stays x b → AreSifted Stays Goes xs ys bs → AreSifted Stays Goes (x ∷ xs) (x ∷ ys) (b ∷ bs)
  one_goes : {x : A} {xs ys : List A} {bs : List B} → Goes x → AreSifted Stays Goes xs ys bs → AreSifted Stays Goes (x ∷ xs) ys bs

-- ---- the answer for a process
-- the place of a summand, solved
abbrev pub PlaceOf : (Place → Type 0) → Sig → List Tree → PlainLinear → TermId → PlainSummand → Type 0
PlaceOf P g ts l inv s = SolvedPlaceIs P (linear_of (entries_of g ts) l).params (term_at g ts inv) (summand_of (entries_of g ts) s)

-- the place at the start
abbrev pub StartIs : (Place → Type 0) → Sig → List Tree → PlainLinear → TermId → Type 0
StartIs P g ts l inv = P (first_place (linear_of (entries_of g ts) l).params (term_at g ts inv) (initial_of (entries_of g ts) l))

-- the place with this number: 0 is the start, and the others are those of the summands
pub data PlaceIs (P : Place → Type 0) (g : Sig) (ts : List Tree) (l : PlainLinear) (inv : TermId) : ℕ → Type 0 where
  the_start : StartIs P g ts l inv → PlaceIs P g ts l inv zero
  a_summand : {n : ℕ} {s : PlainSummand} → slice_get l.summands n ≡ Some s → PlaceOf P g ts l inv s → PlaceIs P g ts l inv (suc n)

-- What is left has the parameters and the initial terms, and of the summands those whose places aren't contradictory. At each of these the
-- goals are proved, and the answers are those for its hypotheses.
pub record HoldsWith (g : Sig) (own : List Equation) (fuel : ℕ) (ts us : List Tree) (l : PlainLinear) (inv : TermId) (k : PlainLinear) (truths : List (List Truth)) : Type 0 where
  pub params : k.params ≡ l.params
  pub init : k.init ≡ l.init
  pub start : StartIs (IsProvedWhole (data_meant g) own fuel) g ts l inv
  pub summands : AreSifted (λ s answers. PlaceOf (IsShownWith g own fuel us answers) g ts l inv s) (PlaceOf (IsRefuted (data_meant g) own fuel) g ts l inv) l.summands k.summands truths

-- the first place that isn't contradictory and has a goal that isn't proved
pub record UnprovedAt (g : Sig) (own : List Equation) (fuel : ℕ) (ts us : List Tree) (l : PlainLinear) (inv : TermId) (place part : ℕ) (truths : List Truth) : Type 0 where
  pub unproved : PlaceIs (IsOpenAt g own fuel us part truths) g ts l inv place
  pub before : (n : ℕ) → n < place → PlaceIs (IsShownBy g own fuel us) g ts l inv n ⊎ PlaceIs (IsRefuted (data_meant g) own fuel) g ts l inv n

abbrev pub plain_truths : List (Vec Truth Global) → List (List Truth)
plain_truths answers = map (λ (v : Vec Truth Global). v.items) answers

abbrev pub IsJudgement : Sig → List Equation → ℕ → List Tree → List Tree → PlainLinear → TermId → Judged → Type 0
IsJudgement g own fuel ts us l inv (Holds lin truths) = HoldsWith g own fuel ts us l inv (plain_linear lin) (plain_truths truths.items)
IsJudgement g own fuel ts us l inv (Unproved place part truths) = UnprovedAt g own fuel ts us l inv place part truths.items

-- what is left fits
abbrev pub LeavesWhatFits : Sig → List Tree → Judged → Type 0
LeavesWhatFits g us (Holds lin truths) = Fits g us (plain_linear lin)
LeavesWhatFits g us (Unproved place part truths) = Unit {0}
