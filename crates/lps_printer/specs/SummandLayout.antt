-- The layout of the summands of a linear process.
use Rattle.std.specs.Prelude.{ℕ, List, [], ◌∷◌, Option, Some, None, codes}
use Rattle.mcrl2_lexer.specs.declared.kind.Kind.TheVariants as kind_
use Rattle.lps_printer.specs.Pieces.{Piece}
use Rattle.lps_printer.specs.PrintedExpressions.{Expression, none, more}
use Rattle.lps_printer.specs.DataLayout.{piece, space, print, print_more}
use Rattle.sort_table.specs.BareSorts.{SortExpression, truth_values, positives, naturals, integers, lists_of, a_name}
use Rattle.lps_printer.specs.PrintedProcesses.{Action, tau_, act, Assignment, Next, ends, goes_bare, goes, Variable, Summand}

abbrev pub print_sort : SortExpression → List ℕ → List Piece → List Piece
print_sort truth_values gap rest = piece gap kind_.BoolWord (codes "Bool") ∷ rest
print_sort positives gap rest = piece gap kind_.PosWord (codes "Pos") ∷ rest
print_sort naturals gap rest = piece gap kind_.NatWord (codes "Nat") ∷ rest
print_sort integers gap rest = piece gap kind_.IntWord (codes "Int") ∷ rest
print_sort (lists_of s) gap rest = piece gap kind_.ListWord (codes "List") ∷ piece [] kind_.LeftParen (codes "(") ∷ print_sort s [] (piece [] kind_.RightParen (codes ")") ∷ rest)
print_sort (a_name x) gap rest = piece gap kind_.Identifier x ∷ rest

abbrev pub print_action : Action → List ℕ → List Piece → List Piece
print_action tau_ gap rest = piece gap kind_.Tau (codes "tau") ∷ rest
print_action (act x none) gap rest = piece gap kind_.Identifier x ∷ rest
print_action (act x (more e es)) gap rest = piece gap kind_.Identifier x ∷ piece [] kind_.LeftParen (codes "(") ∷ print e [] (print_more es (piece [] kind_.RightParen (codes ")") ∷ rest))

abbrev pub print_bars : List Action → List Piece → List Piece
print_bars [] rest = rest
print_bars (a ∷ as_) rest = piece [] kind_.Bar (codes "|") ∷ print_action a [] (print_bars as_ rest)

abbrev pub print_assignment : Assignment → List ℕ → List Piece → List Piece
print_assignment x gap rest = piece gap kind_.Identifier x.name ∷ piece space kind_.Equals (codes "=") ∷ print x.value space rest

abbrev pub print_assignments : List Assignment → List Piece → List Piece
print_assignments [] rest = rest
print_assignments (x ∷ xs) rest = piece [] kind_.Comma (codes ",") ∷ print_assignment x space (print_assignments xs rest)

abbrev pub print_next : Next → List Piece → List Piece
print_next ends rest = rest
print_next (goes_bare x) rest = piece space kind_.Dot (codes ".") ∷ piece space kind_.Identifier x ∷ rest
print_next (goes x []) rest = piece space kind_.Dot (codes ".") ∷ piece space kind_.Identifier x ∷ piece [] kind_.LeftParen (codes "(") ∷ piece [] kind_.RightParen (codes ")") ∷ rest
print_next (goes x (a ∷ as_)) rest =
    piece space kind_.Dot (codes ".") ∷ piece space kind_.Identifier x ∷ piece [] kind_.LeftParen (codes "(") ∷ print_assignment a [] (print_assignments as_ (piece [] kind_.RightParen (codes ")") ∷ rest))

abbrev pub print_variable : Variable → List ℕ → List Piece → List Piece
print_variable v gap rest = piece gap kind_.Identifier v.name ∷ piece [] kind_.Colon (codes ":") ∷ print_sort v.sort space rest

abbrev pub print_variables : List Variable → List Piece → List Piece
print_variables [] rest = rest
print_variables (v ∷ vs) rest = piece [] kind_.Comma (codes ",") ∷ print_variable v space (print_variables vs rest)

abbrev pub print_body : Action → List Action → Next → List ℕ → List Piece → List Piece
print_body a as_ next gap rest = print_action a gap (print_bars as_ (print_next next rest))

abbrev pub print_when : Option Expression → Action → List Action → Next → List ℕ → List Piece → List Piece
print_when None a as_ next gap rest = print_body a as_ next gap rest
print_when (Some c) a as_ next gap rest = piece gap kind_.LeftParen (codes "(") ∷ print c [] (piece [] kind_.RightParen (codes ")") ∷ piece space kind_.Arrow (codes "->") ∷ print_body a as_ next space rest)

abbrev pub print_sum : List Variable → Option Expression → Action → List Action → Next → List ℕ → List Piece → List Piece
print_sum [] c a as_ next gap rest = print_when c a as_ next gap rest
print_sum (v ∷ vs) c a as_ next gap rest =
    piece gap kind_.Sum (codes "sum") ∷ print_variable v space (print_variables vs (piece space kind_.Dot (codes ".") ∷ print_when c a as_ next space rest))

abbrev pub print_summand : Summand → List ℕ → List Piece → List Piece
print_summand s gap rest = print_sum s.sums s.condition s.first s.others s.next gap rest

-- further summands, each on a line of its own
abbrev pub print_summands : List Summand → List Piece → List Piece
print_summands [] rest = rest
print_summands (s ∷ ss) rest = piece (10 ∷ 32 ∷ 32 ∷ []) kind_.Plus (codes "+") ∷ print_summand s space (print_summands ss rest)
