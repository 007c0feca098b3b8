-- Bytes, words and signs.
use Rattle.std.specs.Prelude.{ℕ, Bool, true, false, List, [], ◌∷◌, Option, Some, None, length, nat_eq, nat_lt, ◌||◌, ◌&&◌, ◌+◌, ◌-◌, ◌*◌, if◌then◌else◌, codes, bytes_eq}
use Rattle.std.specs.List.{list_all}
use Rattle.mcrl2_lexer.specs.declared.kind.Kind.{Kind}
use Rattle.mcrl2_lexer.specs.declared.kind.Kind.TheVariants.{Identifier, Sort, Cons, Map, Var, Eqn, Act, Proc, Init, Struct, BoolWord, PosWord, NatWord, IntWord, ListWord, TrueWord, FalseWord, Div, Mod, In, Delta, Tau, Sum, Allow, Block, Hide, Rename, Comm, LeftParen, RightParen, LeftBracket, RightBracket, LeftBrace, RightBrace, Comma, Semicolon, Colon, Equals, Question, Hash, Exclamation, Dot, Plus, Minus, Star, Bar, BarBar, AndAnd, Implies, EqualsEquals, NotEquals, Less, LessEquals, Greater, GreaterEquals, Prepend, Append, Concat, Arrow, Else, Dist, Glob, RealWord, SetWord, BagWord, FSetWord, FBagWord, Lambda, Forall, Exists, Whr, End, At, Before, Slash, LeftMerge}

-- A to Z, a to z and _
abbrev pub is_letter : ℕ → Bool
is_letter b = (nat_lt 64 b && nat_lt b 91) || (nat_lt 96 b && nat_lt b 123) || nat_eq b 95

-- 0 to 9
abbrev pub is_digit : ℕ → Bool
is_digit b = nat_lt 47 b && nat_lt b 58

-- a byte of an identifier or a word behind the first: a letter, a digit or an apostrophe
abbrev pub is_name_byte : ℕ → Bool
is_name_byte b = is_letter b || is_digit b || nat_eq b 39

-- a letter with name bytes behind it
abbrev pub is_name : List ℕ → Bool
is_name [] = false
is_name (first ∷ others) = is_letter first && list_all is_name_byte others

-- tab, line feed, carriage return and space
abbrev pub is_space : ℕ → Bool
is_space b = nat_eq b 32 || nat_eq b 10 || nat_eq b 9 || nat_eq b 13

-- The words of each length. Other bytes are an identifier.
abbrev pub word_of_two : List ℕ → Kind
word_of_two w = if bytes_eq w (codes "in") then In else Identifier

abbrev pub word_of_three : List ℕ → Kind
word_of_three w = if bytes_eq w (codes "map") then Map
    else if bytes_eq w (codes "var") then Var
    else if bytes_eq w (codes "eqn") then Eqn
    else if bytes_eq w (codes "act") then Act
    else if bytes_eq w (codes "Pos") then PosWord
    else if bytes_eq w (codes "Nat") then NatWord
    else if bytes_eq w (codes "Int") then IntWord
    else if bytes_eq w (codes "div") then Div
    else if bytes_eq w (codes "mod") then Mod
    else if bytes_eq w (codes "tau") then Tau
    else if bytes_eq w (codes "sum") then Sum
    else if bytes_eq w (codes "Set") then SetWord
    else if bytes_eq w (codes "Bag") then BagWord
    else if bytes_eq w (codes "whr") then Whr
    else if bytes_eq w (codes "end") then End
    else Identifier

abbrev pub word_of_four : List ℕ → Kind
word_of_four w = if bytes_eq w (codes "sort") then Sort
    else if bytes_eq w (codes "cons") then Cons
    else if bytes_eq w (codes "proc") then Proc
    else if bytes_eq w (codes "init") then Init
    else if bytes_eq w (codes "Bool") then BoolWord
    else if bytes_eq w (codes "List") then ListWord
    else if bytes_eq w (codes "true") then TrueWord
    else if bytes_eq w (codes "hide") then Hide
    else if bytes_eq w (codes "comm") then Comm
    else if bytes_eq w (codes "dist") then Dist
    else if bytes_eq w (codes "glob") then Glob
    else if bytes_eq w (codes "Real") then RealWord
    else if bytes_eq w (codes "FSet") then FSetWord
    else if bytes_eq w (codes "FBag") then FBagWord
    else Identifier

abbrev pub word_of_five : List ℕ → Kind
word_of_five w = if bytes_eq w (codes "delta") then Delta
    else if bytes_eq w (codes "allow") then Allow
    else if bytes_eq w (codes "block") then Block
    else if bytes_eq w (codes "false") then FalseWord
    else Identifier

abbrev pub word_of_six : List ℕ → Kind
word_of_six w = if bytes_eq w (codes "struct") then Struct
    else if bytes_eq w (codes "rename") then Rename
    else if bytes_eq w (codes "lambda") then Lambda
    else if bytes_eq w (codes "forall") then Forall
    else if bytes_eq w (codes "exists") then Exists
    else Identifier

-- what a letter with name bytes behind it is: a word of that length, or an identifier
abbrev pub word_kind : List ℕ → Kind
word_kind w = if nat_eq (length w) 2 then word_of_two w
    else if nat_eq (length w) 3 then word_of_three w
    else if nat_eq (length w) 4 then word_of_four w
    else if nat_eq (length w) 5 then word_of_five w
    else if nat_eq (length w) 6 then word_of_six w
    else Identifier

-- The signs of each length.
abbrev pub sign_of_one : List ℕ → Option Kind
sign_of_one s = if bytes_eq s (codes "(") then Some LeftParen
    else if bytes_eq s (codes ")") then Some RightParen
    else if bytes_eq s (codes "[") then Some LeftBracket
    else if bytes_eq s (codes "]") then Some RightBracket
    else if bytes_eq s (codes "{") then Some LeftBrace
    else if bytes_eq s (codes "}") then Some RightBrace
    else if bytes_eq s (codes ",") then Some Comma
    else if bytes_eq s (codes ";") then Some Semicolon
    else if bytes_eq s (codes ":") then Some Colon
    else if bytes_eq s (codes "=") then Some Equals
    else if bytes_eq s (codes "?") then Some Question
    else if bytes_eq s (codes "#") then Some Hash
    else if bytes_eq s (codes "!") then Some Exclamation
    else if bytes_eq s (codes ".") then Some Dot
    else if bytes_eq s (codes "+") then Some Plus
    else if bytes_eq s (codes "-") then Some Minus
    else if bytes_eq s (codes "*") then Some Star
    else if bytes_eq s (codes "|") then Some Bar
    else if bytes_eq s (codes "<") then Some Less
    else if bytes_eq s (codes ">") then Some Greater
    else if bytes_eq s (codes "@") then Some At
    else if bytes_eq s (codes "/") then Some Slash
    else None

abbrev pub sign_of_two : List ℕ → Option Kind
sign_of_two s = if bytes_eq s (codes "||") then Some BarBar
    else if bytes_eq s (codes "&&") then Some AndAnd
    else if bytes_eq s (codes "=>") then Some Implies
    else if bytes_eq s (codes "==") then Some EqualsEquals
    else if bytes_eq s (codes "!=") then Some NotEquals
    else if bytes_eq s (codes "<=") then Some LessEquals
    else if bytes_eq s (codes ">=") then Some GreaterEquals
    else if bytes_eq s (codes "|>") then Some Prepend
    else if bytes_eq s (codes "<|") then Some Append
    else if bytes_eq s (codes "++") then Some Concat
    else if bytes_eq s (codes "->") then Some Arrow
    else if bytes_eq s (codes "<>") then Some Else
    else if bytes_eq s (codes "<<") then Some Before
    else None

abbrev pub sign_of_three : List ℕ → Option Kind
sign_of_three s = if bytes_eq s (codes "||_") then Some LeftMerge
    else None

-- the sign that the bytes are
abbrev pub sign_kind : List ℕ → Option Kind
sign_kind s = if nat_eq (length s) 1 then sign_of_one s
    else if nat_eq (length s) 2 then sign_of_two s
    else if nat_eq (length s) 3 then sign_of_three s
    else None

-- the words and signs of the language that aren't accepted
abbrev pub is_left_out : Kind → Bool
is_left_out Dist = true
is_left_out Glob = true
is_left_out RealWord = true
is_left_out SetWord = true
is_left_out BagWord = true
is_left_out FSetWord = true
is_left_out FBagWord = true
is_left_out Lambda = true
is_left_out Forall = true
is_left_out Exists = true
is_left_out Whr = true
is_left_out End = true
is_left_out At = true
is_left_out Before = true
is_left_out Slash = true
is_left_out _ = false

-- what digits say: the first one has the greatest weight
abbrev pub decimal_after : ℕ → List ℕ → ℕ
decimal_after n [] = n
decimal_after n (d ∷ ds) = decimal_after (n * 10 + (d - 48)) ds

abbrev pub decimal : List ℕ → ℕ
decimal ds = decimal_after 0 ds
