-- No token of a printed definition ends a declaration.
use Rattle.std.proofs.Common.{◌≡◌, ℕ, true, List, [], ◌∷◌, codes, refl, ◌∙◌}
use Rattle.std.specs.Prelude.{Option, Some, None}
use Rattle.mcrl2_lexer.specs.declared.kind.Kind.TheVariants as kind_
use Rattle.sort_table.specs.BareSorts.{SortExpression, truth_values, positives, naturals, integers, lists_of, a_name}
use Rattle.lps_printer.specs.Pieces.{Piece}
use Rattle.lps_printer.specs.PrintedExpressions.{Expression, none, more}
use Rattle.lps_printer.specs.DataLayout.{piece, space, print_more}
use Rattle.lps_printer.specs.PrintedProcesses.{Action, tau_, act, Assignment, Next, ends, goes_bare, goes, Variable, Summand}
use Rattle.lps_printer.specs.SummandLayout.{print_sort, print_action, print_bars, print_assignments, print_next, print_variables, print_body, print_when, print_sum, print_summand, print_summands}
use Rattle.lps_printer.specs.DefinitionTexts.{print_parameters, print_choice, print_definition, print_start}
use Rattle.lps_printer.specs.TextSections.{all_inside}
use Rattle.lps_printer.proofs.Appending.{print_inside, more_inside}

abbrev closed : List Piece → List Piece
closed rest = piece [] kind_.RightParen (codes ")") ∷ rest

pub sort_inside : (s : SortExpression) (gap : List ℕ) (rest : List Piece) → all_inside (print_sort s gap rest) ≡ all_inside rest
sort_inside truth_values gap rest = refl
sort_inside positives gap rest = refl
sort_inside naturals gap rest = refl
sort_inside integers gap rest = refl
sort_inside (lists_of s) gap rest = sort_inside s [] (closed rest)
sort_inside (a_name x) gap rest = refl

pub action_inside : (a : Action) (gap : List ℕ) (rest : List Piece) → all_inside (print_action a gap rest) ≡ all_inside rest
action_inside tau_ gap rest = refl
action_inside (act x none) gap rest = refl
action_inside (act x (more e es)) gap rest = print_inside e [] (print_more es (closed rest)) ∙ more_inside es (closed rest)

bars_inside : (as_ : List Action) (rest : List Piece) → all_inside (print_bars as_ rest) ≡ all_inside rest
bars_inside [] rest = refl
bars_inside (a ∷ as_) rest = action_inside a [] (print_bars as_ rest) ∙ bars_inside as_ rest

assignments_inside : (xs : List Assignment) (rest : List Piece) → all_inside (print_assignments xs rest) ≡ all_inside rest
assignments_inside [] rest = refl
assignments_inside (x ∷ xs) rest = print_inside x.value space (print_assignments xs rest) ∙ assignments_inside xs rest

next_inside : (n : Next) (rest : List Piece) → all_inside (print_next n rest) ≡ all_inside rest
next_inside ends rest = refl
next_inside (goes_bare x) rest = refl
next_inside (goes x []) rest = refl
next_inside (goes x (a ∷ as_)) rest = print_inside a.value space (print_assignments as_ (closed rest)) ∙ assignments_inside as_ (closed rest)

variables_inside : (vs : List Variable) (rest : List Piece) → all_inside (print_variables vs rest) ≡ all_inside rest
variables_inside [] rest = refl
variables_inside (v ∷ vs) rest = sort_inside v.sort space (print_variables vs rest) ∙ variables_inside vs rest

body_inside : (a : Action) (as_ : List Action) (n : Next) (gap : List ℕ) (rest : List Piece) → all_inside (print_body a as_ n gap rest) ≡ all_inside rest
body_inside a as_ n gap rest = action_inside a gap (print_bars as_ (print_next n rest)) ∙ bars_inside as_ (print_next n rest) ∙ next_inside n rest

when_inside : (c : Option Expression) (a : Action) (as_ : List Action) (n : Next) (gap : List ℕ) (rest : List Piece) → all_inside (print_when c a as_ n gap rest) ≡ all_inside rest
when_inside None a as_ n gap rest = body_inside a as_ n gap rest
when_inside (Some c) a as_ n gap rest = print_inside c [] (closed (piece space kind_.Arrow (codes "->") ∷ print_body a as_ n space rest)) ∙ body_inside a as_ n space rest

sum_inside : (vs : List Variable) (c : Option Expression) (a : Action) (as_ : List Action) (n : Next) (gap : List ℕ) (rest : List Piece) → all_inside (print_sum vs c a as_ n gap rest) ≡ all_inside rest
sum_inside [] c a as_ n gap rest = when_inside c a as_ n gap rest
sum_inside (v ∷ vs) c a as_ n gap rest =
    sort_inside v.sort space (print_variables vs (piece space kind_.Dot (codes ".") ∷ print_when c a as_ n space rest)) ∙ variables_inside vs (piece space kind_.Dot (codes ".") ∷ print_when c a as_ n space rest) ∙ when_inside c a as_ n space rest

summand_inside : (s : Summand) (gap : List ℕ) (rest : List Piece) → all_inside (print_summand s gap rest) ≡ all_inside rest
summand_inside s gap rest = sum_inside s.sums s.condition s.first s.others s.next gap rest

summands_inside : (ss : List Summand) (rest : List Piece) → all_inside (print_summands ss rest) ≡ all_inside rest
summands_inside [] rest = refl
summands_inside (s ∷ ss) rest = summand_inside s space (print_summands ss rest) ∙ summands_inside ss rest

choice_inside : (ss : List Summand) (rest : List Piece) → all_inside (print_choice ss rest) ≡ all_inside rest
choice_inside [] rest = refl
choice_inside (s ∷ ss) rest = summand_inside s space (print_summands ss rest) ∙ summands_inside ss rest

parameters_inside : (vs : List Variable) (rest : List Piece) → all_inside (print_parameters vs rest) ≡ all_inside rest
parameters_inside [] rest = refl
parameters_inside (v ∷ vs) rest = sort_inside v.sort space (print_variables vs (closed rest)) ∙ variables_inside vs (closed rest)

pub definition_inside : (x : List ℕ) (vs : List Variable) (ss : List Summand) → all_inside (print_definition x vs ss []) ≡ true
definition_inside x vs ss = parameters_inside vs (piece space kind_.Equals (codes "=") ∷ print_choice ss []) ∙ choice_inside ss []

pub start_inside : (a : Action) → all_inside (print_start a []) ≡ true
start_inside a = action_inside a space []
