-- What is left to write of a term.
use Rattle.std.specs.Prelude.{◌≡◌, ◌<◌, ◌+◌, ℕ, Bool, true, false, List, [], ◌∷◌, ◌++◌, codes, Option, Some, None}
use Rattle.std.specs.List.{All}
use Rattle.mcrl2_lexer.specs.declared.kind.Kind.TheVariants as kind_
use Rattle.mcrl2_syntax.specs.declared.data_tree.InfixSign.TheVariants.{Prepend}
use Rattle.sort_table.specs.BareData.{infix_text}
use Rattle.data_theory.specs.declared.ids.TermId.{TermId}
use Rattle.data_theory.specs.Terms as terms
use Rattle.data_theory.specs.Terms.{Term, Terms}
use Rattle.lps_printer.specs.declared.parts.Part.{Part}
use Rattle.lps_printer.specs.declared.parts.Part.TheVariants as parts
use Rattle.lps_printer.specs.declared.term_writer.TermWriter as code
use Rattle.lps_printer.specs.Pieces.{Piece, bytes_of}
use Rattle.lps_printer.specs.PrintedExpressions as printed
use Rattle.lps_printer.specs.PrintedExpressions.{Expression, Expressions, binary}
use Rattle.lps_printer.specs.DataLayout.{piece, space, print, print_more, operand, infix_kind}
use Rattle.lps_printer.specs.Wordings.{Wording, opened, in_place}
use Rattle.lps_printer.specs.TermParts.{ends_in_empty, worded, rest_of}
use Rattle.lps_printer.specs.CodeWordings.{term_by, terms_by, IsTermBy, IsWording}

-- the new bytes go on by the second pieces where the old ones go on by the first, whatever comes behind
pub record GoesOn (old new : List ℕ) (first second : List Piece → List Piece) : Type 0 where
  pub bytes : (rest : List Piece) (end : List ℕ) → old ++ bytes_of (first rest) end ≡ new ++ bytes_of (second rest) end

-- ---- the pieces of parts
-- the elements of a chain that ends in `[]`
abbrev pub elements_or_none : Option Expressions → Expressions
elements_or_none None = printed.none
elements_or_none (Some es) = es

abbrev pub part_pieces : code.TermWriter → Wording → Part → List Piece → List Piece
part_pieces c w (parts.Term id placed gap) rest = print (in_place w placed (term_by c id)) gap.now rest
part_pieces c w (parts.Operand id brackets gap) rest = operand brackets (λ g r. print (opened w (term_by c id)) g r) gap.now rest
part_pieces c w (parts.Pair first others) rest =
    piece space kind_.LeftParen (codes "(") ∷ print (binary Prepend (opened w (term_by c first)) (opened w (term_by c others))) [] (piece [] kind_.RightParen (codes ")") ∷ rest)
part_pieces c w (parts.Sign sign) rest = piece space (infix_kind sign) (infix_text sign) ∷ rest
part_pieces c w (parts.Further ids placed) rest = print_more (worded w placed (terms_by c ids.now)) rest
part_pieces c w (parts.Elements id) rest = print_more (elements_or_none (rest_of w (term_by c id)).chain) rest
part_pieces c w parts.CloseBracket rest = piece [] kind_.RightParen (codes ")") ∷ rest
part_pieces c w parts.CloseList rest = piece [] kind_.RightBracket (codes "]") ∷ rest

-- those of all parts, of which the last one is written first
abbrev pub pieces_left : code.TermWriter → Wording → List Part → List Piece → List Piece
pieces_left c w [] rest = rest
pieces_left c w (p ∷ ps) rest = pieces_left c w ps (part_pieces c w p rest)

-- the terms of a part fit, and its chain ends as the part says
abbrev pub PartStands : code.TermWriter → Part → Type 0
PartStands c (parts.Term id placed gap) = IsTermBy c id
PartStands c (parts.Operand id brackets gap) = IsTermBy c id
PartStands c (parts.Pair first others) = IsTermBy c first × IsTermBy c others × (ends_in_empty (term_by c others) ≡ false)
PartStands c (parts.Sign sign) = Unit {0}
PartStands c (parts.Further ids placed) = All (IsTermBy c) ids.now
PartStands c (parts.Elements id) = IsTermBy c id × (ends_in_empty (term_by c id) ≡ true)
PartStands c parts.CloseBracket = Unit {0}
PartStands c parts.CloseList = Unit {0}

-- ---- how much is left
abbrev mutual
  pub size : Term → ℕ
  size (terms.variable v) = 1
  size (terms.numeral s z) = 1
  size (terms.unknown d k) = 1
  size (terms.application f ts) = 4 + sizes ts

  pub sizes : Terms → ℕ
  sizes terms.none = 0
  sizes (terms.more t ts) = (2 + size t) + sizes ts

abbrev pub part_weight : code.TermWriter → Part → ℕ
part_weight c (parts.Term id placed gap) = size (term_by c id)
part_weight c (parts.Operand id brackets gap) = 1 + size (term_by c id)
part_weight c (parts.Pair first others) = 5 + (size (term_by c first) + size (term_by c others))
part_weight c (parts.Sign sign) = 1
part_weight c (parts.Further ids placed) = 1 + sizes (terms_by c ids.now)
part_weight c (parts.Elements id) = 1 + size (term_by c id)
part_weight c parts.CloseBracket = 1
part_weight c parts.CloseList = 1

abbrev pub weight_left : code.TermWriter → List Part → ℕ
weight_left c [] = 0
weight_left c (p ∷ ps) = part_weight c p + weight_left c ps

-- ---- steps
-- Some parts are left behind the earlier ones, which weigh less than the limit. Their pieces come behind the new bytes where these pieces
-- come behind the old ones.
pub record Leaves (c : code.TermWriter) (limit : ℕ) (old new : List ℕ) (before after : List Part) (pieces : Wording → List Piece → List Piece) : Type 0 where
  pub left : List Part
  pub are : after ≡ before ++ left
  pub stand : All (PartStands c) left
  pub less : weight_left c left < limit
  pub bytes : (w : Wording) → IsWording c w → GoesOn old new (pieces w) (pieces_left c w left)

-- the same for an expression behind a gap
abbrev pub LeavesExpression : code.TermWriter → ℕ → List ℕ → List ℕ → List Part → List Part → List ℕ → (Wording → Expression) → Type 0
LeavesExpression c limit old new before after gap e = Leaves c limit old new before after (λ w rest. print (e w) gap rest)
