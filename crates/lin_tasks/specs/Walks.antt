-- Walks of a linear process.
use Rattle.std.specs.Prelude.{◌≡◌, ◌==◌, ◌<◌, ◌+◌, ◌^◌, ◌/◌, ◌%◌, ◌++◌, ℕ, zero, suc, List, [], ◌∷◌, Option, Some, None, cond, length, slice_get}
use Rattle.std.specs.List.{flat_map}
use Rattle.data_theory.specs.declared.ids.TermId.{TermId}
use Rattle.data_theory.specs.IdTrees.{Tree}
use Rattle.data_theory.specs.Provable.{Equation}
use Rattle.data_theory.specs.Signature.{Sig}
use Rattle.process_terms.specs.Labels.{Label}
use Rattle.lps_core.specs.PlainLinears.{PlainLinear}
use Rattle.lps_simulator.specs.declared.options.Open.{Open}
use Rattle.lps_simulator.specs.OptionLaws.{HasOptions}
use Rattle.lps_simulator.specs.OptionsInCode.{PlainMove, PlainOptions, meant_move}
use Rattle.lps_simulator.specs.Walks.{next_word}
use Rattle.chosen_moves.specs.TakenMoves.{Pick, TakesMoves}
use Rattle.lin_tasks.specs.Shown.{label_line, walk_text}
use Rattle.lin_answers.specs.Statuses.{status_with}
use Rattle.lin_answers.specs.declared.status.Status.{Status}
use Rattle.lin_answers.specs.declared.status.Status.TheVariants.{Done}
use Rattle.lin_answers.specs.declared.plan.Plan.{Plan}

-- the place that a word picks of n
abbrev pub picked : (word n : ℕ) → ℕ
picked word n = (word / 2 ^ 33) % n

-- the place that a word picks of n, where there is one
abbrev pub place_picked : (word n : ℕ) → Option ℕ
place_picked word n = cond (n == 0) None (Some (picked word n))

-- as many picks, each by the next one of the words behind a word
abbrev pub picks_by_words : ℕ → ℕ → List Pick
picks_by_words zero word = []
picks_by_words (suc n) word = place_picked (next_word word) ∷ picks_by_words n (next_word word)

-- Where a walk stops that could take so many moves more: where it can take none more, at the end, or at a state without a move; then the summands that are undecided there are the
-- walk's. The pool grows from the first trees to the second ones.
pub data StopsThere (g : Sig) (own : List Equation) (fuel bound : ℕ) (l : PlainLinear) : ℕ → List Tree → Option (List TermId) → List Tree → List Open → Type 0 where
  most_taken : {ts : List Tree} {state : Option (List TermId)} → StopsThere g own fuel bound l zero ts state ts []
  at_the_end : {left : ℕ} {ts us : List Tree} → StopsThere g own fuel bound l left ts None us []
  no_move : {left : ℕ} {ts us : List Tree} {state : List TermId} (found : PlainOptions) → HasOptions g own fuel bound ts us l state found → found.moves ≡ []
      → StopsThere g own fuel bound l (suc left) ts (Some state) us found.undecided

-- A walk of a linear process from a state, or from its end, by the words behind one: at most so many moves, each picked by the next word among the options of where the
-- walk stands, up to where it stops. It has the labels of these moves, and the summands that are undecided where it stops without a move.
pub record Walks (g : Sig) (own : List Equation) (fuel bound : ℕ) (l : PlainLinear) (most word : ℕ) (ts : List Tree) (state : Option (List TermId)) (us : List Tree) (labels : List Label) (undecided : List Open) : Type 0 where
  pub taken : ℕ
  pub left : ℕ
  pub at_most : taken + left ≡ most
  pub trees : List Tree
  pub last : Option (List TermId)
  pub takes : TakesMoves g own fuel bound l (picks_by_words taken word) ts state trees last labels
  pub stops : StopsThere g own fuel bound l left trees last us undecided

-- The bytes show the labels of a walk of the linear process from its initial state. `Undecided` is the status exactly where it stops before the depth, without a move, at a
-- state with an undecided summand.
pub record ShowsWalk (g : Sig) (own : List Equation) (plan : Plan) (ts : List Tree) (l : PlainLinear) (status : Status) (shown : List ℕ) : Type 0 where
  pub later : List Tree
  pub labels : List Label
  pub undecided : List Open
  pub walks : Walks g own plan.fuel plan.bound l plan.depth plan.seed ts (Some l.init) later labels undecided
  pub shows : shown ≡ walk_text g labels
  pub status_is : status ≡ status_with undecided

-- ---- in code
-- for every word and every n a chooser may be called, and answers the place that the word picks, where there is one
pub record PicksByWords (calls : ℕ → ℕ → Type 0) (answers : ℕ → ℕ → Option ℕ → Type 0) : Type 0 where
  pub callable : (word n : ℕ) → word < 2 ^ 64 → n < 2 ^ 64 → calls word n
  pub picks : (word n : ℕ) → word < 2 ^ 64 → n < 2 ^ 64 → (answer : Option ℕ) → answers word n answer → answer ≡ place_picked word n

-- From a state one move is taken, which the word picks, and its label is put behind a text; or there is none, and the status says why.
pub data TakesOne (g : Sig) (own : List Equation) (fuel bound word : ℕ) (l : PlainLinear) (ts us : List Tree) (old : List ℕ) : Option (List TermId) → Option (List TermId) → List ℕ → Option Status → Type 0 where
  none_behind_the_end : {next : Option (List TermId)} → TakesOne g own fuel bound word l ts us old None next old (Some Done)
  none_there : {state : List TermId} {next : Option (List TermId)} (found : PlainOptions) → HasOptions g own fuel bound ts us l state found → found.moves ≡ []
      → TakesOne g own fuel bound word l ts us old (Some state) next old (Some (status_with found.undecided))
  takes_one : {state : List TermId} {next : Option (List TermId)} {new : List ℕ} (found : PlainOptions) (m : PlainMove) (place : ℕ) → HasOptions g own fuel bound ts us l state found
      → place_picked word (length found.moves) ≡ Some place → slice_get found.moves place ≡ Some m → next ≡ m.next → new ≡ old ++ label_line g (meant_move g us m).label
      → TakesOne g own fuel bound word l ts us old (Some state) next new None

-- a walk from a state, whose labels are put behind a text
pub record HasWalked (g : Sig) (own : List Equation) (plan : Plan) (word : ℕ) (l : PlainLinear) (ts us : List Tree) (state : Option (List TermId)) (old new : List ℕ) (taken : ℕ) (status : Status) : Type 0 where
  pub labels : List Label
  pub undecided : List Open
  pub walks : Walks g own plan.fuel plan.bound l plan.depth word ts state us labels undecided
  pub text : new ≡ old ++ flat_map (label_line g) labels
  pub counted : taken ≡ length labels
  pub status_is : status ≡ status_with undecided
