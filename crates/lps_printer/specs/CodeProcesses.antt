-- What processes are worded with in code.
use Rattle.std.specs.Prelude.{◌≡◌, ℕ, Bool, true, false, List, [], ◌∷◌, ◌++◌, length, map, drop, Option, option_map, IfSome, Vec}
use Rattle.std.specs.Global.{Global}
use Rattle.std.specs.List.{All}
use Rattle.data_theory.specs.declared.ids.TermId.{TermId}
use Rattle.data_theory.specs.declared.ids.VarId.{VarId}
use Rattle.process_terms.specs.PlainProcesses.{PlainAction, plain_label}
use Rattle.process_terms.specs.Labels.{Label}
use Rattle.process_terms.specs.Meanings.{Entries, bound_at, term_at, action_of, label_of}
use Rattle.process_terms.specs.SignatureEntries.{entries_of}
use Rattle.lps_core.specs.Fitting.{IsVariable, IsActionOf}
use Rattle.lps_core.specs.declared.linears.Summand.{Summand}
use Rattle.lps_core.specs.PlainLinears.{PlainSummand, PlainLinear, plain_summand, summand_of, linear_of, initial_of}
use Rattle.lps_printer.specs.declared.process_writer.ProcessWriter as code
use Rattle.lps_printer.specs.Pieces.{Piece, bytes_of}
use Rattle.lps_printer.specs.PrintedProcesses as printed_
use Rattle.lps_printer.specs.SummandLayout.{print_action, print_bars, print_assignment, print_assignments, print_when}
use Rattle.lps_printer.specs.FilledLinears.{filled_terms, filled_action, filled_label, filled_summand, filled_linear}
use Rattle.lps_printer.specs.WrittenProcesses.{TextNames, action_written, first_written, others_written, assignments_written, next_written, summand_written}
use Rattle.lps_printer.specs.Adding.{Adds}
use Rattle.lps_printer.specs.CodeWordings.{IsTermBy}
use Rattle.lps_printer.specs.DefinitionTexts.{start_action}
use Rattle.lps_printer.specs.TextSections.{print_sections}
use Rattle.lps_printer.specs.WholeTexts.{linear_sections}
use Rattle.lps_printer.specs.TextWordings.{TextWording, variable_by, IsTextWordedBy}

abbrev pub IsTextWording : code.ProcessWriter → TextWording → Type 0
IsTextWording c t = IsTextWordedBy c.terms.sig.now c.terms.once.now c.terms.constants.now c.once.now t

abbrev pub entries_by : code.ProcessWriter → Entries
entries_by c = entries_of c.terms.sig.now c.terms.pool.now.trees

-- the bytes go on by pieces, as each wording of this kind says
abbrev pub AddsText : code.ProcessWriter → List ℕ → List ℕ → (TextWording → List Piece → List Piece) → Type 0
AddsText c old new in_front = (t : TextWording) → IsTextWording c t → Adds old new (in_front t)

-- ---- actions and labels
abbrev pub IsActionBy : code.ProcessWriter → PlainAction → Type 0
IsActionBy c a = IsActionOf c.terms.sig.now c.terms.pool.now.trees a

abbrev pub action_by : code.ProcessWriter → TextWording → PlainAction → printed_.Action
action_by c t a = action_written t.names (filled_action t.constant t.names (action_of (entries_by c) a))

-- a label with its constants in the place of empty lists
abbrev pub label_by : code.ProcessWriter → TextWording → List PlainAction → Label
label_by c t m = filled_label t.constant t.names (label_of (entries_by c) m)

-- the layout of a label
abbrev pub print_label : TextNames → Label → List ℕ → List Piece → List Piece
print_label n m gap rest = print_action (first_written n m) gap (print_bars (others_written n m) rest)

-- ---- calls
-- the assignments of next terms to parameters, without those that stay
abbrev pub assignments_by : code.ProcessWriter → TextWording → List VarId → List TermId → List printed_.Assignment
assignments_by c t vs ids = assignments_written t.names (map (bound_at (entries_by c)) vs) (filled_terms t.constant t.names true (map (term_at (entries_by c)) ids))

-- those behind this place
abbrev pub assignments_from : code.ProcessWriter → TextWording → List TermId → ℕ → List printed_.Assignment
assignments_from c t ids i = assignments_by c t (drop i c.params.now) (drop i ids)

-- assignments with commas between them; where others stand in front, the first one has a comma too
abbrev pub print_listed : Bool → List printed_.Assignment → List Piece → List Piece
print_listed true [] rest = rest
print_listed true (x ∷ xs) rest = print_assignment x [] (print_assignments xs rest)
print_listed false xs rest = print_assignments xs rest

-- how a summand goes on
abbrev pub next_by : code.ProcessWriter → TextWording → Option (List TermId) → printed_.Next
next_by c t next = next_written t.names (map (bound_at (entries_by c)) c.params.now) (option_map (filled_terms t.constant t.names true) (option_map (map (term_at (entries_by c))) next))

-- a term for each parameter
pub record AreNextBy (c : code.ProcessWriter) (ids : List TermId) : Type 0 where
  pub long : length ids ≡ length c.params.now
  pub terms : All (IsTermBy c.terms) ids

-- the wordings that have the name of the process
abbrev pub AddsProcess : code.ProcessWriter → List ℕ → List ℕ → (TextWording → List Piece → List Piece) → Type 0
AddsProcess c old new in_front = (t : TextWording) → IsTextWording c t → t.names.process ≡ c.process.now → Adds old new (in_front t)

-- ---- summands
-- its parts fit the tables, and it goes on with a term for each parameter
pub record IsSummandBy (c : code.ProcessWriter) (s : Summand) : Type 0 where
  pub params : All (IsVariable c.terms.sig.now) c.params.now
  pub sums : All (IsVariable c.terms.sig.now) s.sums.items
  pub condition : IsTermBy c.terms s.cond
  pub label : All (IsActionBy c) (plain_label s.label)
  pub next : IfSome s.next (λ (ids : Vec TermId Global). AreNextBy c ids.items)

-- a summand with its constants in the place of empty lists
abbrev pub summand_by : code.ProcessWriter → TextWording → PlainSummand → printed_.Summand
summand_by c t s = summand_written t.names (map (bound_at (entries_by c)) c.params.now) (filled_summand t.constant t.names (summand_of (entries_by c) s))

-- the layout of a summand without its sums
abbrev pub print_guarded : printed_.Summand → List ℕ → List Piece → List Piece
print_guarded s gap rest = print_when s.condition s.first s.others s.next gap rest

-- ---- definitions
abbrev pub parameters_by : code.ProcessWriter → TextWording → List printed_.Variable
parameters_by c t = map (variable_by c.terms.sig.now t.names) c.params.now

abbrev pub summands_by : code.ProcessWriter → TextWording → List Summand → List printed_.Summand
summands_by c t ss = map (summand_by c t) (map plain_summand ss)

-- the call with its initial terms
abbrev pub start_by : code.ProcessWriter → TextWording → List TermId → printed_.Action
start_by c t ids = start_action t.names (filled_terms t.constant t.names true (map (term_at (entries_by c)) ids))

-- ---- sections
-- the bytes go on by the sections of the process and its start behind a gap, up to the end of the text
abbrev pub AddsLinear : code.ProcessWriter → PlainLinear → List ℕ → List ℕ → List ℕ → Type 0
AddsLinear c l gap old new =
    (t : TextWording) → IsTextWording c t → t.names.process ≡ c.process.now
    → old ++ bytes_of (print_sections gap (linear_sections [] t.names (filled_linear t.constant t.names (linear_of (entries_by c) l)) (filled_terms t.constant t.names true (initial_of (entries_by c) l)))) (10 ∷ []) ≡ new
