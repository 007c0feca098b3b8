-- The moves that the lines of a text choose.
use Rattle.std.specs.Prelude.{◌≡◌, ◌==◌, ◌||◌, ◌-◌, ℕ, List, [], ◌∷◌, ◌++◌, cond, length, map, nat_lt, Option, Some, None}
use Rattle.data_theory.specs.declared.ids.TermId.{TermId}
use Rattle.data_theory.specs.IdTrees.{Tree}
use Rattle.data_theory.specs.Provable.{Equation}
use Rattle.data_theory.specs.Signature.{Sig}
use Rattle.process_terms.specs.Labels.{Label}
use Rattle.lps_core.specs.PlainLinears.{PlainLinear}
use Rattle.lps_simulator.specs.OptionsInCode.{PlainOptions}
use Rattle.trace_replay.specs.Lines.{lines_of}
use Rattle.chosen_moves.specs.declared.choices.Choice.{Choice}
use Rattle.chosen_moves.specs.declared.following.ChoiceFault.{ChoiceFault}
use Rattle.chosen_moves.specs.declared.following.ChoiceFault.TheVariants.{BadChoice, NoMemory}
use Rattle.chosen_moves.specs.Choices.{HaveChoices}
use Rattle.chosen_moves.specs.TakenMoves.{Pick, TakesMoves, HasOptionsIn}

-- the place of the move with this number among so many; moves count from 1
abbrev pub place_of : ℕ → ℕ → Option ℕ
place_of number count = cond ((number == 0) || nat_lt count number) None (Some (number - 1))

abbrev pub pick_of : Choice → Pick
pick_of c = place_of c.number

abbrev pub picks_of : List Choice → List Pick
picks_of cs = map pick_of cs

-- From a state the moves that the text chooses are taken, all of them, and lead to the last state.
pub record FollowsText (g : Sig) (own : List Equation) (fuel bound : ℕ) (l : PlainLinear) (text : List ℕ) (ts : List Tree) (state : Option (List TermId)) (us : List Tree) (last : Option (List TermId)) : Type 0 where
  pub choices : List Choice
  pub chosen : HaveChoices 1 (lines_of text) choices None
  pub labels : List Label
  pub takes : TakesMoves g own fuel bound l (picks_of choices) ts state us last labels

-- The moves that these choices are have been taken, and the next one is none of the state where the process then stands.
pub record StopsAt (g : Sig) (own : List Equation) (fuel bound : ℕ) (l : PlainLinear) (ts : List Tree) (state : Option (List TermId)) (front : List Choice) (c : Choice) : Type 0 where
  pub trees : List Tree
  pub last : Option (List TermId)
  pub labels : List Label
  pub takes : TakesMoves g own fuel bound l (picks_of front) ts state trees last labels
  pub later : List Tree
  pub found : PlainOptions
  pub options : HasOptionsIn g own fuel bound trees later l last found
  pub no_move : pick_of c (length found.moves) ≡ None

-- The line of a text with this number is the first one that is neither blank nor the number of a move of the state where the process stands behind the moves that the lines before it
-- choose.
pub data IsBadChoice (g : Sig) (own : List Equation) (fuel bound : ℕ) (l : PlainLinear) (text : List ℕ) (ts : List Tree) (state : Option (List TermId)) (number : ℕ) : Type 0 where
  no_number : {choices : List Choice} {us : List Tree} {last : Option (List TermId)} {labels : List Label} → HaveChoices 1 (lines_of text) choices (Some number) → TakesMoves g own fuel bound l (picks_of choices) ts state us last labels
      → IsBadChoice g own fuel bound l text ts state number
  no_move : {front : List Choice} {bad : Option ℕ} (c : Choice) (behind : List Choice) → HaveChoices 1 (lines_of text) (front ++ c ∷ behind) bad → StopsAt g own fuel bound l ts state front c → number ≡ c.line → IsBadChoice g own fuel bound l text ts state number

-- ---- in code
-- the choice is no move of the state; want of memory says nothing
abbrev pub IsOneFault : Sig → List Equation → ℕ → ℕ → PlainLinear → List Tree → Option (List TermId) → Choice → ChoiceFault → Type 0
IsOneFault g own fuel bound l ts state c (BadChoice number) = (number ≡ c.line) × StopsAt g own fuel bound l ts state [] c
IsOneFault g own fuel bound l ts state c NoMemory = Unit {0}

-- one of these choices is none of the state to which those before it lead
pub record IsStopAmong (g : Sig) (own : List Equation) (fuel bound : ℕ) (l : PlainLinear) (ts : List Tree) (state : Option (List TermId)) (choices : List Choice) (number : ℕ) : Type 0 where
  pub front : List Choice
  pub choice : Choice
  pub behind : List Choice
  pub split : choices ≡ front ++ choice ∷ behind
  pub stops : StopsAt g own fuel bound l ts state front choice
  pub line : number ≡ choice.line

abbrev pub IsMoveFault : Sig → List Equation → ℕ → ℕ → PlainLinear → List Tree → Option (List TermId) → List Choice → ChoiceFault → Type 0
IsMoveFault g own fuel bound l ts state choices (BadChoice number) = IsStopAmong g own fuel bound l ts state choices number
IsMoveFault g own fuel bound l ts state choices NoMemory = Unit {0}

-- a line of the text is bad
abbrev pub IsChoiceFault : Sig → List Equation → ℕ → ℕ → PlainLinear → List ℕ → List Tree → Option (List TermId) → ChoiceFault → Type 0
IsChoiceFault g own fuel bound l text ts state (BadChoice number) = IsBadChoice g own fuel bound l text ts state number
IsChoiceFault g own fuel bound l text ts state NoMemory = Unit {0}
