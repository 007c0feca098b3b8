-- Options, states and walks as they are shown.
use Rattle.std.specs.Prelude.{ℕ, suc, List, [], ◌∷◌, ◌++◌, ◌≡◌, codes, cond, decimal, length, map, Option, Some, None}
use Rattle.std.specs.List.{All, flat_map}
use Rattle.data_theory.specs.declared.ids.TermId.{TermId}
use Rattle.data_theory.specs.IdTrees.{Tree}
use Rattle.data_theory.specs.Provable.{Equation}
use Rattle.data_theory.specs.Signature.{Sig}
use Rattle.data_theory.specs.Terms.{Term}
use Rattle.process_terms.specs.Labels.{Label}
use Rattle.lps_printer.specs.CodeProcesses.{print_label}
use Rattle.lps_printer.specs.DefinitionTexts.{start_text}
use Rattle.lps_printer.specs.Pieces.{bytes_of}
use Rattle.lps_printer.specs.SignatureNames.{text_names_under}
use Rattle.lps_core.specs.Fitting.{IsActionOf}
use Rattle.lps_core.specs.PlainLinears.{PlainLinear}
use Rattle.lps_simulator.specs.Options.{TermMove}
use Rattle.lps_simulator.specs.OptionsInCode.{PlainMove, PlainOptions, meant_move}
use Rattle.lps_simulator.specs.declared.options.Open.{Open}
use Rattle.sort_table.specs.Expressions.{Name}
use Rattle.chosen_moves.specs.TakenMoves.{HasOptionsIn}
use Rattle.lin_answers.specs.declared.status.Status.{Status}
use Rattle.lin_answers.specs.Statuses.{status_with}

-- a label by the names of a signature, on a line; nothing stands for an empty list in an open place
unfoldable pub label_line : Sig → Label → List ℕ
label_line g m = bytes_of (print_label (text_names_under g []) m [] []) [] ++ codes "\n"

-- ---- options
-- the label of a move is one of the signature and the pool
abbrev pub CanBeShown : Sig → List Tree → PlainMove → Type 0
CanBeShown g ts m = All (IsActionOf g ts) m.label

-- a move by its number
abbrev pub move_line : Sig → ℕ → TermMove → List ℕ
move_line g k m = decimal k ++ codes " " ++ label_line g m.label

-- moves by their numbers
abbrev pub move_lines : Sig → ℕ → List TermMove → List ℕ
move_lines g k [] = []
move_lines g k (m ∷ ms) = move_line g k m ++ move_lines g (suc k) ms

abbrev pub open_line : Open → List ℕ
open_line o = codes "undecided " ++ decimal o.summand ++ cond o.spent (codes " spent\n") (codes " stuck\n")

abbrev pub cut_line : ℕ → List ℕ
cut_line summand = codes "cut " ++ decimal summand ++ codes "\n"

abbrev pub counts_line : (moves undecided cut : ℕ) → List ℕ
counts_line moves undecided cut = codes "moves " ++ decimal moves ++ codes ", undecided " ++ decimal undecided ++ codes ", cut " ++ decimal cut ++ codes "\n"

-- the moves by their numbers, then the undecided summands, those that are cut, and how many there are of each
abbrev pub options_text : Sig → List TermMove → List Open → List ℕ → List ℕ
options_text g moves undecided cut = move_lines g 1 moves ++ flat_map open_line undecided ++ flat_map cut_line cut ++ counts_line (length moves) (length undecided) (length cut)

-- ---- states
-- the process under a name with the terms of a state, as its start is written; or that it has ended
unfoldable pub state_line : Sig → Name → Option (List Term) → List ℕ
state_line g x None = codes "ended\n"
state_line g x (Some ts) = codes "state" ++ start_text (text_names_under g x) ts

-- ---- walks
-- the labels that were taken, and their number
abbrev pub walk_text : Sig → List Label → List ℕ
walk_text g labels = flat_map (label_line g) labels ++ codes "taken " ++ decimal (length labels) ++ codes "\n"

-- ---- what is shown of a linear process
-- The bytes show the options of the linear process in a state, or behind its end, where it has none. `Undecided` is the status exactly where a summand is listed as undecided.
pub record ShowsOptionsIn (g : Sig) (own : List Equation) (fuel bound : ℕ) (ts : List Tree) (l : PlainLinear) (state : Option (List TermId)) (status : Status) (shown : List ℕ) : Type 0 where
  pub later : List Tree
  pub found : PlainOptions
  pub options : HasOptionsIn g own fuel bound ts later l state found
  pub shows : shown ≡ options_text g (map (meant_move g later) found.moves) found.undecided found.cut
  pub status_is : status ≡ status_with found.undecided

-- those in its initial state
abbrev pub ShowsOptions : Sig → List Equation → (fuel bound : ℕ) → List Tree → PlainLinear → Status → List ℕ → Type 0
ShowsOptions g own fuel bound ts l status shown = ShowsOptionsIn g own fuel bound ts l (Some l.init) status shown

-- the moves that are shown
abbrev pub shown_moves : {g : Sig} {own : List Equation} {fuel bound : ℕ} {ts : List Tree} {l : PlainLinear} {state : Option (List TermId)} {status : Status} {shown : List ℕ} → ShowsOptionsIn g own fuel bound ts l state status shown → List TermMove
shown_moves {g = g} s = map (meant_move g s.later) s.found.moves
