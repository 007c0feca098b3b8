-- The layout of a data expression: its tokens, with the white space before each.
use Rattle.std.specs.Prelude.{◌≡◌, ◌<◌, ◌^◌, ℕ, Bool, true, false, cond, ◌&&◌, ◌||◌, List, [], ◌∷◌, codes}
use Rattle.std.specs.Fmt.{decimal}
use Rattle.mcrl2_lexer.specs.declared.kind.Kind.{Kind}
use Rattle.mcrl2_lexer.specs.declared.kind.Kind.TheVariants as kind_
use Rattle.mcrl2_lexer.specs.Words.{is_name, word_kind}
use Rattle.mcrl2_syntax.specs.declared.data_tree.PrefixSign.{PrefixSign}
use Rattle.mcrl2_syntax.specs.declared.data_tree.PrefixSign.TheVariants.{Not, Negate, Size}
use Rattle.mcrl2_syntax.specs.declared.data_tree.InfixSign.{InfixSign}
use Rattle.mcrl2_syntax.specs.declared.data_tree.InfixSign.TheVariants.{Implies, Or, And, Equal, NotEqual, Less, LessEqual, Greater, GreaterEqual, In, Prepend, Append, Concat, Add, Subtract, Div, Mod, Multiply, At}
use Rattle.sort_table.specs.BareData.{prefix_text, infix_text}
use Rattle.lps_printer.specs.Pieces.{Piece}
use Rattle.lps_printer.specs.PrintedExpressions.{Expression, Expressions, named, numeral, true_, false_, listed, applied, prefix, binary, none, more}

abbrev pub infix_kind : InfixSign → Kind
infix_kind Implies = kind_.Implies
infix_kind Or = kind_.BarBar
infix_kind And = kind_.AndAnd
infix_kind Equal = kind_.EqualsEquals
infix_kind NotEqual = kind_.NotEquals
infix_kind Less = kind_.Less
infix_kind LessEqual = kind_.LessEquals
infix_kind Greater = kind_.Greater
infix_kind GreaterEqual = kind_.GreaterEquals
infix_kind In = kind_.In
infix_kind Prepend = kind_.Prepend
infix_kind Append = kind_.Append
infix_kind Concat = kind_.Concat
infix_kind Add = kind_.Plus
infix_kind Subtract = kind_.Minus
infix_kind Div = kind_.Div
infix_kind Mod = kind_.Mod
infix_kind Multiply = kind_.Star
infix_kind At = kind_.Dot

abbrev pub prefix_kind : PrefixSign → Kind
prefix_kind Not = kind_.Exclamation
prefix_kind Negate = kind_.Minus
prefix_kind Size = kind_.Hash

abbrev pub piece : List ℕ → Kind → List ℕ → Piece
piece gap kind bytes = record { gap = gap; kind = kind; bytes = bytes }

abbrev pub space : List ℕ
space = 32 ∷ []

abbrev pub is_and : InfixSign → Bool
is_and And = true
is_and _ = false

abbrev pub is_or : InfixSign → Bool
is_or Or = true
is_or _ = false

-- an operand in brackets: infix ones, a prefix minus, and so a negative numeral
abbrev pub needs_brackets : Expression → Bool
needs_brackets (named x) = false
needs_brackets (numeral n) = false
needs_brackets true_ = false
needs_brackets false_ = false
needs_brackets (listed es) = false
needs_brackets (applied x es) = false
needs_brackets (prefix Not e) = false
needs_brackets (prefix Negate e) = true
needs_brackets (prefix Size e) = false
needs_brackets (binary sign e f) = true

-- the right operand of `&&` under `&&`, and of `||` under `||`, has none
abbrev pub is_same_chain : InfixSign → InfixSign → Bool
is_same_chain sign other = (is_and sign && is_and other) || (is_or sign && is_or other)

abbrev pub goes_on : InfixSign → Expression → Bool
goes_on sign (named x) = false
goes_on sign (numeral n) = false
goes_on sign true_ = false
goes_on sign false_ = false
goes_on sign (listed es) = false
goes_on sign (applied x es) = false
goes_on sign (prefix other e) = false
goes_on sign (binary other e f) = is_same_chain sign other

abbrev pub right_needs : InfixSign → Expression → Bool
right_needs sign e = cond (goes_on sign e) false (needs_brackets e)

-- what is printed in front of pieces, behind a gap
abbrev pub Printer : Type 0
Printer = List ℕ → List Piece → List Piece

-- in brackets where the test says so
abbrev pub operand : Bool → Printer → Printer
operand false print gap rest = print gap rest
operand true print gap rest = piece gap kind_.LeftParen (codes "(") ∷ print [] (piece [] kind_.RightParen (codes ")") ∷ rest)

abbrev mutual
  -- the pieces of an expression, in front of others
  pub print : Expression → Printer
  print (named x) gap rest = piece gap kind_.Identifier x ∷ rest
  print (numeral n) gap rest = piece gap kind_.Numeral (decimal n) ∷ rest
  print true_ gap rest = piece gap kind_.TrueWord (codes "true") ∷ rest
  print false_ gap rest = piece gap kind_.FalseWord (codes "false") ∷ rest
  print (listed none) gap rest = piece gap kind_.LeftBracket (codes "[") ∷ piece [] kind_.RightBracket (codes "]") ∷ rest
  print (listed (more e es)) gap rest = piece gap kind_.LeftBracket (codes "[") ∷ print e [] (print_more es (piece [] kind_.RightBracket (codes "]") ∷ rest))
  print (applied x none) gap rest = piece gap kind_.Identifier x ∷ rest
  print (applied x (more e es)) gap rest = piece gap kind_.Identifier x ∷ piece [] kind_.LeftParen (codes "(") ∷ print e [] (print_more es (piece [] kind_.RightParen (codes ")") ∷ rest))
  print (prefix sign e) gap rest = piece gap (prefix_kind sign) (prefix_text sign) ∷ operand (needs_brackets e) (λ g r. print e g r) [] rest
  print (binary sign e f) gap rest =
      operand (needs_brackets e) (λ g r. print e g r) gap (piece space (infix_kind sign) (infix_text sign) ∷ operand (right_needs sign f) (λ g r. print f g r) space rest)

  -- further items, each behind a comma
  pub print_more : Expressions → List Piece → List Piece
  print_more none rest = rest
  print_more (more e es) rest = piece [] kind_.Comma (codes ",") ∷ print e space (print_more es rest)

-- a name that is no word
abbrev pub IsIdentifier : List ℕ → Type 0
IsIdentifier x = (is_name x ≡ true) × (word_kind x ≡ kind_.Identifier)

abbrev mutual
  -- names are identifiers, and numerals are small enough
  pub IsSpellable : Expression → Type 0
  IsSpellable (named x) = IsIdentifier x
  IsSpellable (numeral n) = n < 2 ^ 128
  IsSpellable true_ = Unit {0}
  IsSpellable false_ = Unit {0}
  IsSpellable (listed es) = AreSpellable es
  IsSpellable (applied x none) = ⊥
  IsSpellable (applied x (more e es)) = IsIdentifier x × IsSpellable e × AreSpellable es
  IsSpellable (prefix sign e) = IsSpellable e
  IsSpellable (binary sign e f) = IsSpellable e × IsSpellable f

  pub AreSpellable : Expressions → Type 0
  AreSpellable none = Unit {0}
  AreSpellable (more e es) = IsSpellable e × AreSpellable es
