-- What is printed doesn't hang on what stands behind it, and no token of it ends a declaration.
use Rattle.std.proofs.Common.{◌≡◌, ℕ, Bool, true, false, ◌&&◌, List, [], ◌∷◌, ◌++◌, None, codes, arith, refl, ap, sym, ◌∙◌}
use Rattle.std.proofs.lemmas.Bool.{and_parts}
use Rattle.std.proofs.lemmas.List.Elements.{All-nil, All-cons}
use Rattle.mcrl2_lexer.specs.declared.kind.Kind.{Kind}
use Rattle.mcrl2_lexer.specs.declared.kind.Kind.TheVariants as kind_
use Rattle.mcrl2_lexer.specs.declared.token.Token.{Token}
use Rattle.mcrl2_syntax.specs.declared.data_tree.PrefixSign.TheVariants.{Not, Negate, Size}
use Rattle.mcrl2_syntax.specs.declared.data_tree.InfixSign.{InfixSign}
use Rattle.mcrl2_syntax.specs.declared.data_tree.InfixSign.TheVariants.{Implies, Or, And, Equal, NotEqual, Less, LessEqual, Greater, GreaterEqual, In, Prepend, Append, Concat, Add, Subtract, Div, Mod, Multiply, At}
use Rattle.mcrl2_syntax.specs.SpelledDeclarations.{section_word, IsInside, CutsOff}
use Rattle.sort_table.specs.BareData.{infix_text}
use Rattle.lps_printer.specs.TextSections.{inside_kind, all_inside}
use Rattle.lps_printer.specs.Pieces.{Piece, bytes_of, Says, says_none, says_more}
use Rattle.lps_printer.specs.PrintedExpressions.{Expression, Expressions, named, true_, false_, listed, applied, prefix, binary, none, more}
use Rattle.lps_printer.specs.PrintedExpressions as form
use Rattle.lps_printer.specs.DataLayout.{infix_kind, piece, space, needs_brackets, right_needs, operand, print, print_more}

-- ---- bytes

abbrev Bytes : Expression → Type 0
Bytes e = (gap : List ℕ) (rest : List Piece) (end : List ℕ) → bytes_of (print e gap rest) end ≡ bytes_of (print e gap []) (bytes_of rest end)

operand_bytes : (b : Bool) (e : Expression) → Bytes e → (gap : List ℕ) (rest : List Piece) (end : List ℕ)
    → bytes_of (operand b (λ g r. print e g r) gap rest) end ≡ bytes_of (operand b (λ g r. print e g r) gap []) (bytes_of rest end)
operand_bytes false e h gap rest end = h gap rest end
operand_bytes true e h gap rest end =
    ap (λ (x : List ℕ). gap ++ (codes "(" ++ x)) (h [] (piece [] kind_.RightParen (codes ")") ∷ rest) end ∙ sym (h [] (piece [] kind_.RightParen (codes ")") ∷ []) (bytes_of rest end)))

items_bytes : (e : Expression) (es : Expressions) → Bytes e → ((rest : List Piece) (end : List ℕ) → bytes_of (print_more es rest) end ≡ bytes_of (print_more es []) (bytes_of rest end)) → (close : Piece) (rest : List Piece) (end : List ℕ)
    → bytes_of (print e [] (print_more es (close ∷ rest))) end ≡ bytes_of (print e [] (print_more es (close ∷ []))) (bytes_of rest end)
items_bytes e es h k close rest end =
    h [] (print_more es (close ∷ rest)) end ∙ ap (bytes_of (print e [] [])) (k (close ∷ rest) end ∙ sym (k (close ∷ []) (bytes_of rest end))) ∙ sym (h [] (print_more es (close ∷ [])) (bytes_of rest end))

mutual
  pub print_bytes : (e : Expression) (gap : List ℕ) (rest : List Piece) (end : List ℕ) → bytes_of (print e gap rest) end ≡ bytes_of (print e gap []) (bytes_of rest end)
  print_bytes (named x) gap rest end = refl
  print_bytes (form.numeral n) gap rest end = refl
  print_bytes true_ gap rest end = refl
  print_bytes false_ gap rest end = refl
  print_bytes (listed none) gap rest end = refl
  print_bytes (listed (more e es)) gap rest end = ap (λ (x : List ℕ). gap ++ (codes "[" ++ x)) (items_bytes e es (λ g r n. print_bytes e g r n) (λ r n. more_bytes es r n) (piece [] kind_.RightBracket (codes "]")) rest end)
  print_bytes (applied x none) gap rest end = refl
  print_bytes (applied x (more e es)) gap rest end = ap (λ (y : List ℕ). gap ++ (x ++ (codes "(" ++ y))) (items_bytes e es (λ g r n. print_bytes e g r n) (λ r n. more_bytes es r n) (piece [] kind_.RightParen (codes ")")) rest end)
  print_bytes (prefix Not e) gap rest end = ap (λ (x : List ℕ). gap ++ (codes "!" ++ x)) (operand_bytes (needs_brackets e) e (λ g r n. print_bytes e g r n) [] rest end)
  print_bytes (prefix Negate e) gap rest end = ap (λ (x : List ℕ). gap ++ (codes "-" ++ x)) (operand_bytes (needs_brackets e) e (λ g r n. print_bytes e g r n) [] rest end)
  print_bytes (prefix Size e) gap rest end = ap (λ (x : List ℕ). gap ++ (codes "#" ++ x)) (operand_bytes (needs_brackets e) e (λ g r n. print_bytes e g r n) [] rest end)
  print_bytes (binary s e f) gap rest end =
      let left = λ (r : List Piece) (n : List ℕ). operand_bytes (needs_brackets e) e (λ g r n. print_bytes e g r n) gap r n in
      let right = operand_bytes (right_needs s f) f (λ g r n. print_bytes f g r n) space rest end in
      left (piece space (infix_kind s) (infix_text s) ∷ operand (right_needs s f) (λ g r. print f g r) space rest) end
      ∙ ap (λ (x : List ℕ). bytes_of (operand (needs_brackets e) (λ g r. print e g r) gap []) (space ++ (infix_text s ++ x))) right
      ∙ sym (left (piece space (infix_kind s) (infix_text s) ∷ operand (right_needs s f) (λ g r. print f g r) space []) (bytes_of rest end))

  more_bytes : (es : Expressions) (rest : List Piece) (end : List ℕ) → bytes_of (print_more es rest) end ≡ bytes_of (print_more es []) (bytes_of rest end)
  more_bytes none rest end = refl
  more_bytes (more e es) rest end =
      ap (λ (x : List ℕ). codes "," ++ x) (print_bytes e space (print_more es rest) end ∙ ap (bytes_of (print e space [])) (more_bytes es rest end) ∙ sym (print_bytes e space (print_more es []) (bytes_of rest end)))

-- ---- kinds

inside_infix : (s : InfixSign) → inside_kind (infix_kind s) ≡ true
inside_infix Implies = refl
inside_infix Or = refl
inside_infix And = refl
inside_infix Equal = refl
inside_infix NotEqual = refl
inside_infix Less = refl
inside_infix LessEqual = refl
inside_infix Greater = refl
inside_infix GreaterEqual = refl
inside_infix In = refl
inside_infix Prepend = refl
inside_infix Append = refl
inside_infix Concat = refl
inside_infix Add = refl
inside_infix Subtract = refl
inside_infix Div = refl
inside_infix Mod = refl
inside_infix Multiply = refl
inside_infix At = refl

operand_inside : (b : Bool) (e : Expression) → ((gap : List ℕ) (rest : List Piece) → all_inside (print e gap rest) ≡ all_inside rest) → (gap : List ℕ) (rest : List Piece) → all_inside (operand b (λ g r. print e g r) gap rest) ≡ all_inside rest
operand_inside false e h gap rest = h gap rest
operand_inside true e h gap rest = h [] (piece [] kind_.RightParen (codes ")") ∷ rest)

mutual
  pub print_inside : (e : Expression) (gap : List ℕ) (rest : List Piece) → all_inside (print e gap rest) ≡ all_inside rest
  print_inside (named x) gap rest = refl
  print_inside (form.numeral n) gap rest = refl
  print_inside true_ gap rest = refl
  print_inside false_ gap rest = refl
  print_inside (listed none) gap rest = refl
  print_inside (listed (more e es)) gap rest = print_inside e [] (print_more es (piece [] kind_.RightBracket (codes "]") ∷ rest)) ∙ more_inside es (piece [] kind_.RightBracket (codes "]") ∷ rest)
  print_inside (applied x none) gap rest = refl
  print_inside (applied x (more e es)) gap rest = print_inside e [] (print_more es (piece [] kind_.RightParen (codes ")") ∷ rest)) ∙ more_inside es (piece [] kind_.RightParen (codes ")") ∷ rest)
  print_inside (prefix Not e) gap rest = operand_inside (needs_brackets e) e (λ g r. print_inside e g r) [] rest
  print_inside (prefix Negate e) gap rest = operand_inside (needs_brackets e) e (λ g r. print_inside e g r) [] rest
  print_inside (prefix Size e) gap rest = operand_inside (needs_brackets e) e (λ g r. print_inside e g r) [] rest
  print_inside (binary s e f) gap rest =
      operand_inside (needs_brackets e) e (λ g r. print_inside e g r) gap (piece space (infix_kind s) (infix_text s) ∷ operand (right_needs s f) (λ g r. print f g r) space rest)
      ∙ ap (λ (b : Bool). b && all_inside (operand (right_needs s f) (λ g r. print f g r) space rest)) (inside_infix s)
      ∙ operand_inside (right_needs s f) f (λ g r. print_inside f g r) space rest

  pub more_inside : (es : Expressions) (rest : List Piece) → all_inside (print_more es rest) ≡ all_inside rest
  more_inside none rest = refl
  more_inside (more e es) rest = print_inside e space (print_more es rest) ∙ more_inside es rest

-- ---- a declaration up to its semicolon

pub record Cut (text : List ℕ) (ps qs : List Piece) (ts : List Token) : Type 0 where
  pub front : List Token
  pub after : List Token
  pub cut : CutsOff front ts after
  pub says : Says text ps front
  pub others : Says text qs after

no_section_kind : (k : Kind) → inside_kind k ≡ true → section_word k ≡ None
no_section_kind k h = grind arith

inside : (t : Token) (k : Kind) → t.kind ≡ k → inside_kind k ≡ true → IsInside t
inside t k e h = record { no_semicolon = λ f. let g : k ≡ kind_.Semicolon = cc in let i : true ≡ false = sym h ∙ ap inside_kind g in cc; no_section = ap section_word e ∙ no_section_kind k h }

pub cut_off : (text : List ℕ) (ps qs : List Piece) (gap : List ℕ) (ts : List Token) → all_inside ps ≡ true → Says text (ps ++ piece gap kind_.Semicolon (codes ";") ∷ qs) ts → Cut text ps qs ts
cut_off text [] qs gap ts h (says_more {t = t} {ts = us} k slice says) = record { front = []; after = us; cut = record { sign = t; is = refl; semicolon = k; inside = All-nil IsInside }; says = says_none; others = says }
cut_off text (p ∷ ps) qs gap ts h (says_more {t = t} {ts = us} k slice says) =
    let both = and_parts (inside_kind p.kind) (all_inside ps) h in
    let c = cut_off text ps qs gap us both.1 says in
    record {
      front = t ∷ c.front;
      after = c.after;
      cut = record { sign = c.cut.sign; is = ap (λ (xs : List Token). t ∷ xs) c.cut.is; semicolon = c.cut.semicolon; inside = All-cons IsInside t c.front (inside t p.kind k both.0) c.cut.inside };
      says = says_more k slice c.says;
      others = c.others;
    }
