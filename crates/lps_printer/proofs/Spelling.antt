-- What is printed for an expression spells a tree of it.
use Rattle.std.proofs.Common.{◌≡◌, ℕ, zero, suc, ◌+◌, nat_eq, ◌&&◌, ◌||◌, ◌⊎◌, inl, inr, ◌^◌, ◌<◌, Bool, true, false, cond, List, [], ◌∷◌, map, codes, Some, refl, ap, ap₂, sym, ◌∙◌, subst, arith}
use Rattle.std.specs.Fmt.{decimal}
use Rattle.mcrl2_lexer.specs.declared.kind.Kind.TheVariants as kind_
use Rattle.mcrl2_lexer.specs.declared.token.Token.{Token}
use Rattle.mcrl2_lexer.specs.Tokens.{slice_of}
use Rattle.mcrl2_lexer.specs.Words.{decimal as value_of}
use Rattle.mcrl2_syntax.specs.declared.data_tree.PrefixSign.{PrefixSign}
use Rattle.mcrl2_syntax.specs.declared.data_tree.PrefixSign.TheVariants.{Not, Negate, Size}
use Rattle.mcrl2_syntax.specs.declared.data_tree.InfixSign.{InfixSign}
use Rattle.mcrl2_syntax.specs.declared.data_tree.InfixSign.TheVariants.{Implies, Or, And, Equal, NotEqual, Less, LessEqual, Greater, GreaterEqual, In, Prepend, Append, Concat, Add, Subtract, Div, Mod, Multiply, At}
use Rattle.mcrl2_syntax.specs.DataTrees.{PlainData, Operand, datas_of}
use Rattle.mcrl2_syntax.specs.InfixSigns.{prefix_of, infix_of, level_of, grouped}
use Rattle.mcrl2_syntax.specs.SpelledData.{SpellsUnit, unit_name, unit_numeral, unit_true, unit_false, unit_empty, unit_list, unit_apply, unit_brackets, unit_prefix, SpellsItems, items_last, items_more, SpellsLevel, level_unit, level_chain, SpellsTail, tail_end, tail_more}
use Rattle.sort_table.specs.BareData.{infix_text}
use Rattle.lps_printer.specs.Pieces.{Piece, Says, says_more}
use Rattle.lps_printer.specs.PrintedExpressions.{Expression, Expressions, named, numeral, true_, false_, listed, applied, prefix, binary, none, more, bare, bare_all, to_right}
use Rattle.lps_printer.specs.DataLayout.{infix_kind, prefix_kind, piece, space, needs_brackets, is_and, is_or, is_same_chain, goes_on, right_needs, operand, print, print_more, IsSpellable, AreSpellable}
use Rattle.lps_printer.proofs.Numerals.{value_of-decimal}

-- levels

either_way : (b : Bool) {x y d : PlainData} → x ≡ d → y ≡ d → cond b x y ≡ d
either_way true e f = e
either_way false e f = f

-- an operand alone is itself at each level
alone : (k : ℕ) (d : PlainData) → grouped k d [] ≡ d
alone k d = either_way (nat_eq k 1) refl (either_way (nat_eq k 3) refl (either_way (nat_eq k 6) refl (either_way (nat_eq k 9) refl (either_way (nat_eq k 10) refl (either_way (nat_eq k 11) refl refl)))))

level_up : {text : List ℕ} {d : PlainData} {ts r : List Token} (k : ℕ) → SpellsLevel text k d ts r → SpellsLevel text (suc k) d ts r
level_up {text = text} {d = d} {ts = ts} {r = r} k h = subst (λ (e : PlainData). SpellsLevel text (suc k) e ts r) (alone (suc k) d) (level_chain h tail_end)

unit_at : {text : List ℕ} {d : PlainData} {ts r : List Token} (k : ℕ) → SpellsUnit text d ts r → SpellsLevel text k d ts r
unit_at zero h = level_unit h
unit_at (suc k) h = level_up k (unit_at k h)

lifted : {text : List ℕ} {d : PlainData} {ts r : List Token} (j k n : ℕ) → j + k ≡ n → SpellsLevel text k d ts r → SpellsLevel text n d ts r
lifted {text = text} {d = d} {ts = ts} {r = r} zero k n e h = let same : k ≡ n = omega arith in subst (λ (m : ℕ). SpellsLevel text m d ts r) same h
lifted {text = text} {d = d} {ts = ts} {r = r} (suc j) k n e h =
    let same : suc (j + k) ≡ n = omega arith in subst (λ (m : ℕ). SpellsLevel text m d ts r) same (level_up (j + k) (lifted j k (j + k) refl h))

abbrev below : InfixSign → ℕ
below Implies = 10
below Or = 9
below And = 8
below Equal = 7
below NotEqual = 7
below Less = 6
below LessEqual = 6
below Greater = 6
below GreaterEqual = 6
below In = 6
below Prepend = 5
below Append = 4
below Concat = 3
below Add = 2
below Subtract = 2
below Div = 1
below Mod = 1
below Multiply = 0
below At = 0

-- what holds of each sign
record SignFacts (sign : InfixSign) : Type 0 where
  level : level_of sign ≡ suc (below sign)
  above : (j : ℕ) × (j + suc (below sign) ≡ 11)
  kind : infix_of (infix_kind sign) ≡ Some sign
  pair : (d e : PlainData) → bare (grouped (suc (below sign)) d ((sign, e) ∷ [])) ≡ binary sign (bare d) (bare e)

sign_facts : (sign : InfixSign) → SignFacts sign
sign_facts Implies = record { level = refl; above = (0, refl); kind = refl; pair = λ d e. refl }
sign_facts Or = record { level = refl; above = (1, refl); kind = refl; pair = λ d e. refl }
sign_facts And = record { level = refl; above = (2, refl); kind = refl; pair = λ d e. refl }
sign_facts Equal = record { level = refl; above = (3, refl); kind = refl; pair = λ d e. refl }
sign_facts NotEqual = record { level = refl; above = (3, refl); kind = refl; pair = λ d e. refl }
sign_facts Less = record { level = refl; above = (4, refl); kind = refl; pair = λ d e. refl }
sign_facts LessEqual = record { level = refl; above = (4, refl); kind = refl; pair = λ d e. refl }
sign_facts Greater = record { level = refl; above = (4, refl); kind = refl; pair = λ d e. refl }
sign_facts GreaterEqual = record { level = refl; above = (4, refl); kind = refl; pair = λ d e. refl }
sign_facts In = record { level = refl; above = (4, refl); kind = refl; pair = λ d e. refl }
sign_facts Prepend = record { level = refl; above = (5, refl); kind = refl; pair = λ d e. refl }
sign_facts Append = record { level = refl; above = (6, refl); kind = refl; pair = λ d e. refl }
sign_facts Concat = record { level = refl; above = (7, refl); kind = refl; pair = λ d e. refl }
sign_facts Add = record { level = refl; above = (8, refl); kind = refl; pair = λ d e. refl }
sign_facts Subtract = record { level = refl; above = (8, refl); kind = refl; pair = λ d e. refl }
sign_facts Div = record { level = refl; above = (9, refl); kind = refl; pair = λ d e. refl }
sign_facts Mod = record { level = refl; above = (9, refl); kind = refl; pair = λ d e. refl }
sign_facts Multiply = record { level = refl; above = (10, refl); kind = refl; pair = λ d e. refl }
sign_facts At = record { level = refl; above = (10, refl); kind = refl; pair = λ d e. refl }

-- the signs that make chains
data IsChain : InfixSign → Type 0 where
  of_and : IsChain And
  of_or : IsChain Or

only_and : (s : InfixSign) → is_and s ≡ true → s ≡ And
only_and Implies h = absurd cc
only_and Or h = absurd cc
only_and And h = refl
only_and Equal h = absurd cc
only_and NotEqual h = absurd cc
only_and Less h = absurd cc
only_and LessEqual h = absurd cc
only_and Greater h = absurd cc
only_and GreaterEqual h = absurd cc
only_and In h = absurd cc
only_and Prepend h = absurd cc
only_and Append h = absurd cc
only_and Concat h = absurd cc
only_and Add h = absurd cc
only_and Subtract h = absurd cc
only_and Div h = absurd cc
only_and Mod h = absurd cc
only_and Multiply h = absurd cc
only_and At h = absurd cc

only_or : (s : InfixSign) → is_or s ≡ true → s ≡ Or
only_or Implies h = absurd cc
only_or Or h = refl
only_or And h = absurd cc
only_or Equal h = absurd cc
only_or NotEqual h = absurd cc
only_or Less h = absurd cc
only_or LessEqual h = absurd cc
only_or Greater h = absurd cc
only_or GreaterEqual h = absurd cc
only_or In h = absurd cc
only_or Prepend h = absurd cc
only_or Append h = absurd cc
only_or Concat h = absurd cc
only_or Add h = absurd cc
only_or Subtract h = absurd cc
only_or Div h = absurd cc
only_or Mod h = absurd cc
only_or Multiply h = absurd cc
only_or At h = absurd cc

and_true : (a b : Bool) → (a && b) ≡ true → (a ≡ true) × (b ≡ true)
and_true true b h = (refl, h)
and_true false b h = absurd cc

or_true : (a b : Bool) → (a || b) ≡ true → (a ≡ true) ⊎ (b ≡ true)
or_true true b h = inl refl
or_true false b h = inr h

same_chain : (sign other : InfixSign) → is_same_chain sign other ≡ true → IsChain other × (other ≡ sign)
same_chain sign other h = elim (or_true (is_and sign && is_and other) (is_or sign && is_or other) h) [
  | inl w ↦ let p = and_true (is_and sign) (is_and other) w in let e = only_and other p.1 in (subst IsChain (sym e) of_and, e ∙ sym (only_and sign p.0))
  | inr w ↦ let p = and_true (is_or sign) (is_or other) w in let e = only_or other p.1 in (subst IsChain (sym e) of_or, e ∙ sym (only_or sign p.0))
]

abbrev rights : List Operand → List PlainData
rights os = map (λ x. x.1) os

-- a sign over its operands, where only a chain has more than two
grouped_bare : (s : InfixSign) (d e : PlainData) (os : List Operand) → ((os ≡ []) ⊎ IsChain s)
    → bare (grouped (suc (below s)) d ((s, e) ∷ os)) ≡ binary s (bare d) (to_right s (bare_all (datas_of (e ∷ rights os))))
grouped_bare s d e os (inl none_) = subst (λ (xs : List Operand). bare (grouped (suc (below s)) d ((s, e) ∷ xs)) ≡ binary s (bare d) (to_right s (bare_all (datas_of (e ∷ rights xs))))) (sym none_) ((sign_facts s).pair d e)
grouped_bare s d e os (inr of_and) = refl
grouped_bare s d e os (inr of_or) = refl

prefix_facts : (sign : PrefixSign) → prefix_of (prefix_kind sign) ≡ Some sign
prefix_facts Not = refl
prefix_facts Negate = refl
prefix_facts Size = refl

-- what the tokens of a printed expression spell, in front of those of the pieces behind it

record UnitRead (text : List ℕ) (e : Expression) (rest : List Piece) (ts : List Token) : Type 0 where
  tree : PlainData
  after : List Token
  spells : SpellsUnit text tree ts after
  says : Says text rest after
  is : bare tree ≡ e

pub record DataRead (text : List ℕ) (e : Expression) (rest : List Piece) (ts : List Token) : Type 0 where
  pub tree : PlainData
  pub after : List Token
  pub spells : SpellsLevel text 11 tree ts after
  pub says : Says text rest after
  pub is : bare tree ≡ e

pub record ItemsRead (text : List ℕ) (e : Expression) (es : Expressions) (rest : List Piece) (ts : List Token) : Type 0 where
  pub trees : List PlainData
  pub after : List Token
  pub spells : SpellsItems text trees ts after
  pub says : Says text rest after
  pub is : bare_all (datas_of trees) ≡ more e es

-- operands of a sign, the last of which may go on with it
record ChainRead (text : List ℕ) (k : ℕ) (sign : InfixSign) (e : Expression) (rest : List Piece) (ts : List Token) : Type 0 where
  first : PlainData
  others : List Operand
  between : List Token
  after : List Token
  head : SpellsLevel text k first ts between
  tail : SpellsTail text k others between after
  says : Says text rest after
  is : to_right sign (bare_all (datas_of (first ∷ rights others))) ≡ e
  ends : (others ≡ []) ⊎ IsChain sign

abbrev is_unit : Expression → Bool
is_unit (binary sign e f) = false
is_unit _ = true

record Reads (text : List ℕ) (e : Expression) : Type 0 where
  unit : is_unit e ≡ true → (gap : List ℕ) (rest : List Piece) (ts : List Token) → Says text (print e gap rest) ts → UnitRead text e rest ts
  data_ : (gap : List ℕ) (rest : List Piece) (ts : List Token) → Says text (print e gap rest) ts → DataRead text e rest ts
  chain : (sign : InfixSign) → goes_on sign e ≡ true → (gap : List ℕ) (rest : List Piece) (ts : List Token) → Says text (print e gap rest) ts → ChainRead text (below sign) sign e rest ts

of_unit : {text : List ℕ} {e : Expression} {rest : List Piece} {ts : List Token} → UnitRead text e rest ts → DataRead text e rest ts
of_unit u = record { tree = u.tree; after = u.after; spells = unit_at 11 u.spells; says = u.says; is = u.is }

of_units : (text : List ℕ) (e : Expression) → ((sign : InfixSign) → goes_on sign e ≡ false) → ((gap : List ℕ) (rest : List Piece) (ts : List Token) → Says text (print e gap rest) ts → UnitRead text e rest ts) → Reads text e
of_units text e ends read = record {
  unit = λ i gap rest ts says. read gap rest ts says;
  data_ = λ gap rest ts says. of_unit (read gap rest ts says);
  chain = λ sign g gap rest ts says. let f : goes_on sign e ≡ false = ends sign in absurd cc;
}

closed : (text : List ℕ) (e : Expression) (rest : List Piece) (t : Token) (ts us : List Token) (tree : PlainData) → t.kind ≡ kind_.LeftParen → SpellsLevel text 11 tree ts us → bare tree ≡ e
    → Says text (piece [] kind_.RightParen (codes ")") ∷ rest) us → UnitRead text e rest (t ∷ ts)
closed text e rest t ts us tree k spells is (says_more {t = v} {ts = vs} l s says) = record { tree = _; after = vs; spells = unit_brackets k spells l; says = says; is = is }

read_operand : (text : List ℕ) (e : Expression) (b : Bool) → (b ≡ false → is_unit e ≡ true) → Reads text e → (gap : List ℕ) (rest : List Piece) (ts : List Token)
    → Says text (operand b (λ g r. print e g r) gap rest) ts → UnitRead text e rest ts
read_operand text e false u r gap rest ts says = r.unit (u refl) gap rest ts says
read_operand text e true u r gap rest ts (says_more {t = t} {ts = us} k s says) =
    let d = r.data_ [] (piece [] kind_.RightParen (codes ")") ∷ rest) us says in
    closed text e rest t us d.after d.tree k d.spells d.is d.says

unbracketed : (e : Expression) → needs_brackets e ≡ false → is_unit e ≡ true
unbracketed (named x) h = refl
unbracketed (numeral n) h = refl
unbracketed true_ h = refl
unbracketed false_ h = refl
unbracketed (listed es) h = refl
unbracketed (applied x es) h = refl
unbracketed (prefix sign e) h = refl
unbracketed (binary sign e f) h = absurd cc

-- the right operand of a sign
right_chain : (text : List ℕ) (s : InfixSign) (b : Expression) → Reads text b → (g : Bool) → goes_on s b ≡ g → (rest : List Piece) (ts : List Token)
    → Says text (operand (cond g false (needs_brackets b)) (λ g r. print b g r) space rest) ts → ChainRead text (below s) s b rest ts
right_chain text s b r true e rest ts says = r.chain s e space rest ts says
right_chain text s b r false e rest ts says =
    let u = read_operand text b (needs_brackets b) (unbracketed b) r space rest ts says in
    record { first = u.tree; others = []; between = u.after; after = u.after; head = unit_at (below s) u.spells; tail = tail_end; says = u.says; is = u.is; ends = inl refl }

-- a sign with its right operand, behind the left one
record BinaryRead (text : List ℕ) (s : InfixSign) (a b : Expression) (rest : List Piece) (ts : List Token) : Type 0 where
  left : PlainData
  behind : List Token
  head : SpellsLevel text (below s) left ts behind
  is_left : bare left ≡ a
  first : PlainData
  others : List Operand
  after : List Token
  tail : SpellsTail text (below s) ((s, first) ∷ others) behind after
  says : Says text rest after
  is : to_right s (bare_all (datas_of (first ∷ rights others))) ≡ b
  ends : (others ≡ []) ⊎ IsChain s

behind_left : (text : List ℕ) (s : InfixSign) (a b : Expression) → Reads text b → (rest : List Piece) (ts us : List Token) (left : PlainData) → SpellsLevel text (below s) left ts us → bare left ≡ a
    → Says text (piece space (infix_kind s) (infix_text s) ∷ operand (right_needs s b) (λ g r. print b g r) space rest) us → BinaryRead text s a b rest ts
behind_left text s a b r rest ts us left head is_left (says_more {t = t} {ts = vs} k slice says) =
    let c = right_chain text s b r (goes_on s b) refl rest vs says in
    let f = sign_facts s in
    record {
      left = left;
      behind = us;
      head = head;
      is_left = is_left;
      first = c.first;
      others = c.others;
      after = c.after;
      tail = tail_more (ap infix_of k ∙ f.kind) f.level c.head c.tail;
      says = c.says;
      is = c.is;
      ends = c.ends;
    }

read_binary : (text : List ℕ) (s : InfixSign) (a b : Expression) → Reads text a → Reads text b → (gap : List ℕ) (rest : List Piece) (ts : List Token) → Says text (print (binary s a b) gap rest) ts → BinaryRead text s a b rest ts
read_binary text s a b ra rb gap rest ts says =
    let u = read_operand text a (needs_brackets a) (unbracketed a) ra gap _ ts says in
    behind_left text s a b rb rest ts u.after u.tree (unit_at (below s) u.spells) u.is u.says

of_binary : {text : List ℕ} (s : InfixSign) {a b : Expression} {rest : List Piece} {ts : List Token} → BinaryRead text s a b rest ts → DataRead text (binary s a b) rest ts
of_binary s r =
    let f = sign_facts s in
    record {
      tree = grouped (suc (below s)) r.left ((s, r.first) ∷ r.others);
      after = r.after;
      spells = lifted f.above.0 (suc (below s)) 11 f.above.1 (level_chain r.head r.tail);
      says = r.says;
      is = grouped_bare s r.left r.first r.others r.ends ∙ ap₂ (λ (x y : Expression). binary s x y) r.is_left r.is;
    }

of_chain : {text : List ℕ} (s : InfixSign) {a b : Expression} {rest : List Piece} {ts : List Token} → IsChain s → BinaryRead text s a b rest ts → ChainRead text (below s) s (binary s a b) rest ts
of_chain s c r =
    record { first = r.left; others = (s, r.first) ∷ r.others; between = r.behind; after = r.after; head = r.head; tail = r.tail; says = r.says; is = ap₂ (λ (x y : Expression). binary s x y) r.is_left r.is; ends = inr c }

-- further items behind a read one
record ItemsAfter (text : List ℕ) (e : Expression) (es : Expressions) (rest : List Piece) : Type 0 where
  read : (ts : List Token) → DataRead text e (print_more es rest) ts → ItemsRead text e es rest ts

end_items : (text : List ℕ) (e : Expression) (rest : List Piece) (ts : List Token) → DataRead text e rest ts → ItemsRead text e none rest ts
end_items text e rest ts d = record { trees = d.tree ∷ []; after = d.after; spells = items_last d.spells; says = d.says; is = ap (λ (x : Expression). more x none) d.is }

one_item : (text : List ℕ) (e f : Expression) (es : Expressions) (rest : List Piece) (ts us : List Token) (tree : PlainData) → SpellsLevel text 11 tree ts us → bare tree ≡ e
    → ((vs : List Token) → Says text (print f space (print_more es rest)) vs → ItemsRead text f es rest vs)
    → Says text (piece [] kind_.Comma (codes ",") ∷ print f space (print_more es rest)) us → ItemsRead text e (more f es) rest ts
one_item text e f es rest ts us tree spells is read (says_more {t = v} {ts = vs} k slice says) =
    let i = read vs says in
    record { trees = tree ∷ i.trees; after = i.after; spells = items_more spells k i.spells; says = i.says; is = ap₂ (λ (x : Expression) (y : Expressions). more x y) is i.is }

close_list : (text : List ℕ) (e : Expression) (es : Expressions) (rest : List Piece) (t : Token) (ts us : List Token) (trees : List PlainData) → t.kind ≡ kind_.LeftBracket → SpellsItems text trees ts us → bare_all (datas_of trees) ≡ more e es
    → Says text (piece [] kind_.RightBracket (codes "]") ∷ rest) us → UnitRead text (listed (more e es)) rest (t ∷ ts)
close_list text e es rest t ts us trees k spells is (says_more {t = v} {ts = vs} l slice says) =
    record { tree = _; after = vs; spells = unit_list k spells l; says = says; is = ap (λ (x : Expressions). listed x) is }

close_call : (text : List ℕ) (x : List ℕ) (e : Expression) (es : Expressions) (rest : List Piece) (t u : Token) (ts us : List Token) (trees : List PlainData) → t.kind ≡ kind_.Identifier → slice_of text t ≡ x → u.kind ≡ kind_.LeftParen
    → SpellsItems text trees ts us → bare_all (datas_of trees) ≡ more e es → Says text (piece [] kind_.RightParen (codes ")") ∷ rest) us → UnitRead text (applied x (more e es)) rest (t ∷ u ∷ ts)
close_call text x e es rest t u ts us trees k slice o spells is (says_more {t = v} {ts = vs} l s says) =
    record { tree = _; after = vs; spells = unit_apply k o spells l; says = says; is = ap₂ (λ (y : List ℕ) (z : Expressions). applied y z) slice is }

-- the leaves, and the closed ones

read_name : (text : List ℕ) (x gap : List ℕ) (rest : List Piece) (ts : List Token) → Says text (piece gap kind_.Identifier x ∷ rest) ts → UnitRead text (named x) rest ts
read_name text x gap rest ts (says_more {ts = us} k slice says) = record { tree = _; after = us; spells = unit_name k; says = says; is = ap (λ (y : List ℕ). named y) slice }

read_number : (text : List ℕ) (n : ℕ) → n < 2 ^ 128 → (gap : List ℕ) (rest : List Piece) (ts : List Token) → Says text (piece gap kind_.Numeral (decimal n) ∷ rest) ts → UnitRead text (numeral n) rest ts
read_number text n lt gap rest ts (says_more {ts = us} k slice says) =
    record { tree = _; after = us; spells = unit_numeral k; says = says; is = ap (λ (y : List ℕ). numeral (value_of y)) slice ∙ ap (λ (m : ℕ). numeral m) (value_of-decimal n lt) }

read_true : (text gap : List ℕ) (rest : List Piece) (ts : List Token) → Says text (piece gap kind_.TrueWord (codes "true") ∷ rest) ts → UnitRead text true_ rest ts
read_true text gap rest ts (says_more {ts = us} k slice says) = record { tree = _; after = us; spells = unit_true k; says = says; is = refl }

read_false : (text gap : List ℕ) (rest : List Piece) (ts : List Token) → Says text (piece gap kind_.FalseWord (codes "false") ∷ rest) ts → UnitRead text false_ rest ts
read_false text gap rest ts (says_more {ts = us} k slice says) = record { tree = _; after = us; spells = unit_false k; says = says; is = refl }

read_empty : (text gap : List ℕ) (rest : List Piece) (ts : List Token) → Says text (piece gap kind_.LeftBracket (codes "[") ∷ piece [] kind_.RightBracket (codes "]") ∷ rest) ts → UnitRead text (listed none) rest ts
read_empty text gap rest ts (says_more k slice (says_more {ts = us} l other says)) = record { tree = _; after = us; spells = unit_empty k l; says = says; is = refl }

read_list : (text : List ℕ) (e : Expression) (es : Expressions) → ((rest : List Piece) (ts : List Token) → Says text (print e [] (print_more es rest)) ts → ItemsRead text e es rest ts)
    → (gap : List ℕ) (rest : List Piece) (ts : List Token) → Says text (print (listed (more e es)) gap rest) ts → UnitRead text (listed (more e es)) rest ts
read_list text e es read gap rest ts (says_more {t = t} {ts = us} k slice says) =
    let i = read (piece [] kind_.RightBracket (codes "]") ∷ rest) us says in
    close_list text e es rest t us i.after i.trees k i.spells i.is i.says

read_call : (text : List ℕ) (x : List ℕ) (e : Expression) (es : Expressions) → ((rest : List Piece) (ts : List Token) → Says text (print e [] (print_more es rest)) ts → ItemsRead text e es rest ts)
    → (gap : List ℕ) (rest : List Piece) (ts : List Token) → Says text (print (applied x (more e es)) gap rest) ts → UnitRead text (applied x (more e es)) rest ts
read_call text x e es read gap rest ts (says_more {t = t} k slice (says_more {t = u} {ts = us} l other says)) =
    let i = read (piece [] kind_.RightParen (codes ")") ∷ rest) us says in
    close_call text x e es rest t u us i.after i.trees k slice l i.spells i.is i.says

read_prefix : (text : List ℕ) (sign : PrefixSign) (e : Expression) → Reads text e → (gap : List ℕ) (rest : List Piece) (ts : List Token) → Says text (print (prefix sign e) gap rest) ts → UnitRead text (prefix sign e) rest ts
read_prefix text sign e r gap rest ts (says_more {t = t} {ts = us} k slice says) =
    let u = read_operand text e (needs_brackets e) (unbracketed e) r [] rest us says in
    record { tree = _; after = u.after; spells = unit_prefix (ap prefix_of k ∙ prefix_facts sign) u.spells; says = u.says; is = ap (λ (x : Expression). prefix sign x) u.is }

mutual
  reads : (text : List ℕ) (e : Expression) → IsSpellable e → Reads text e
  reads text (named x) ok = of_units text (named x) (λ sign. refl) (λ gap rest ts says. read_name text x gap rest ts says)
  reads text (numeral n) ok = of_units text (numeral n) (λ sign. refl) (λ gap rest ts says. read_number text n ok gap rest ts says)
  reads text true_ ok = of_units text true_ (λ sign. refl) (λ gap rest ts says. read_true text gap rest ts says)
  reads text false_ ok = of_units text false_ (λ sign. refl) (λ gap rest ts says. read_false text gap rest ts says)
  reads text (listed none) ok = of_units text (listed none) (λ sign. refl) (λ gap rest ts says. read_empty text gap rest ts says)
  reads text (listed (more e es)) ok =
      of_units text (listed (more e es)) (λ sign. refl) (λ gap rest ts says. read_list text e es (λ q us s. read_more text es ok.1 e q us ((reads text e ok.0).data_ [] (print_more es q) us s)) gap rest ts says)
  reads text (applied x none) ok = absurd ok
  reads text (applied x (more e es)) ok =
      of_units text (applied x (more e es)) (λ sign. refl) (λ gap rest ts says. read_call text x e es (λ q us s. read_more text es ok.2 e q us ((reads text e ok.1).data_ [] (print_more es q) us s)) gap rest ts says)
  reads text (prefix sign e) ok = of_units text (prefix sign e) (λ other. refl) (λ gap rest ts says. read_prefix text sign e (reads text e ok) gap rest ts says)
  reads text (binary s a b) ok =
      let ra = reads text a ok.0 in
      let rb = reads text b ok.1 in
      record {
        unit = λ i gap rest ts says. absurd cc;
        data_ = λ gap rest ts says. of_binary s (read_binary text s a b ra rb gap rest ts says);
        chain = λ sign g gap rest ts says. let c = same_chain sign s g in subst (λ (o : InfixSign). ChainRead text (below o) o (binary s a b) rest ts) c.1 (of_chain s c.0 (read_binary text s a b ra rb gap rest ts says));
      }

  read_more : (text : List ℕ) (es : Expressions) → AreSpellable es → (e : Expression) (rest : List Piece) (ts : List Token) → DataRead text e (print_more es rest) ts → ItemsRead text e es rest ts
  read_more text none ok e rest ts d = end_items text e rest ts d
  read_more text (more f fs) ok e rest ts d =
      one_item text e f fs rest ts d.after d.tree d.spells d.is (λ vs says. read_more text fs ok.1 f rest vs ((reads text f ok.0).data_ space (print_more fs rest) vs says)) d.says

-- what is printed spells a tree of the expression
pub printed_reads : (text : List ℕ) (e : Expression) → IsSpellable e → (gap : List ℕ) (rest : List Piece) (ts : List Token) → Says text (print e gap rest) ts → DataRead text e rest ts
printed_reads text e ok gap rest ts says = (reads text e ok).data_ gap rest ts says

pub printed_items : (text : List ℕ) (e : Expression) (es : Expressions) → IsSpellable e → AreSpellable es → (rest : List Piece) (ts : List Token) → Says text (print e [] (print_more es rest)) ts → ItemsRead text e es rest ts
printed_items text e es ok oks rest ts says = read_more text es oks e rest ts ((reads text e ok).data_ [] (print_more es rest) ts says)
