-- A word or a sign is told by its kind.
use Rattle.std.proofs.Common.{◌≡◌, ℕ, Bool, true, false, nat_eq, List, ◌∷◌, Option, Some, None, length, codes, refl, sym, ◌∙◌, subst, if◌then◌else◌}
use Rattle.std.specs.Prelude.{bytes_eq}
use Rattle.std.proofs.lemmas.Slice.Eq.{bytes_eq-Decides}
use Rattle.mcrl2_lexer.specs.declared.kind.Kind.{Kind}
use Rattle.mcrl2_lexer.specs.declared.kind.Kind.TheVariants as kind_
use Rattle.mcrl2_lexer.specs.Words.{word_of_two, word_of_three, word_of_four, word_of_five, word_of_six, word_kind, sign_of_one, sign_of_two, sign_of_three, sign_kind}
use Rattle.mcrl2_lexer.specs.Tokens.{IsToken, name_or_word, zero_numeral, numeral, sign}

-- the bytes of the words and signs of copied declarations
abbrev pub text_of_kind : Kind → Option (List ℕ)
text_of_kind kind_.BoolWord = Some (codes "Bool")
text_of_kind kind_.PosWord = Some (codes "Pos")
text_of_kind kind_.NatWord = Some (codes "Nat")
text_of_kind kind_.IntWord = Some (codes "Int")
text_of_kind kind_.ListWord = Some (codes "List")
text_of_kind kind_.TrueWord = Some (codes "true")
text_of_kind kind_.FalseWord = Some (codes "false")
text_of_kind kind_.Div = Some (codes "div")
text_of_kind kind_.Mod = Some (codes "mod")
text_of_kind kind_.In = Some (codes "in")
text_of_kind kind_.Struct = Some (codes "struct")
text_of_kind kind_.LeftParen = Some (codes "(")
text_of_kind kind_.RightParen = Some (codes ")")
text_of_kind kind_.LeftBracket = Some (codes "[")
text_of_kind kind_.RightBracket = Some (codes "]")
text_of_kind kind_.Comma = Some (codes ",")
text_of_kind kind_.Colon = Some (codes ":")
text_of_kind kind_.Equals = Some (codes "=")
text_of_kind kind_.Question = Some (codes "?")
text_of_kind kind_.Hash = Some (codes "#")
text_of_kind kind_.Exclamation = Some (codes "!")
text_of_kind kind_.Dot = Some (codes ".")
text_of_kind kind_.Plus = Some (codes "+")
text_of_kind kind_.Minus = Some (codes "-")
text_of_kind kind_.Star = Some (codes "*")
text_of_kind kind_.Bar = Some (codes "|")
text_of_kind kind_.BarBar = Some (codes "||")
text_of_kind kind_.AndAnd = Some (codes "&&")
text_of_kind kind_.Implies = Some (codes "=>")
text_of_kind kind_.EqualsEquals = Some (codes "==")
text_of_kind kind_.NotEquals = Some (codes "!=")
text_of_kind kind_.Less = Some (codes "<")
text_of_kind kind_.LessEquals = Some (codes "<=")
text_of_kind kind_.Greater = Some (codes ">")
text_of_kind kind_.GreaterEquals = Some (codes ">=")
text_of_kind kind_.Prepend = Some (codes "|>")
text_of_kind kind_.Append = Some (codes "<|")
text_of_kind kind_.Concat = Some (codes "++")
text_of_kind kind_.Arrow = Some (codes "->")
text_of_kind _ = None

record Reads (w : List ℕ) (k : Kind) : Type 0 where
  is : (t : List ℕ) → text_of_kind k ≡ Some t → w ≡ t

some_is : (u t : List ℕ) → Some u ≡ Some t → u ≡ t
some_is u t e = cc

none_is : (t : List ℕ) → None ≡ Some t → ⊥
none_is t e = cc

nothing : (w : List ℕ) (k : Kind) → text_of_kind k ≡ None → Reads w k
nothing w k e = record { is = λ t f. absurd (none_is t (sym e ∙ f)) }

by_test : (b : Bool) (w u : List ℕ) (k other : Kind) → (b ≡ true → w ≡ u) → text_of_kind k ≡ Some u → Reads w other → Reads w (if b then k else other)
by_test true w u k other same e h = record { is = λ t f. same refl ∙ some_is u t (sym e ∙ f) }
by_test false w u k other same e h = h

by_none : (b : Bool) (w : List ℕ) (k other : Kind) → text_of_kind k ≡ None → Reads w other → Reads w (if b then k else other)
by_none true w k other e h = nothing w k e
by_none false w k other e h = h

row : (w u : List ℕ) (k : Kind) {other : Kind} → text_of_kind k ≡ Some u → Reads w other → Reads w (if bytes_eq w u then k else other)
row w u k {other = other} e h = by_test (bytes_eq w u) w u k other (bytes_eq-Decides w u).0 e h

other_row : (w u : List ℕ) (k : Kind) {other : Kind} → text_of_kind k ≡ None → Reads w other → Reads w (if bytes_eq w u then k else other)
other_row w u k {other = other} e h = by_none (bytes_eq w u) w k other e h

either : (b : Bool) (w : List ℕ) (k other : Kind) → Reads w k → Reads w other → Reads w (if b then k else other)
either true w k other h i = h
either false w k other h i = i

read_word_of_two : (w : List ℕ) → Reads w (word_of_two w)
read_word_of_two w = row w (codes "in") kind_.In refl (nothing w kind_.Identifier refl)

read_word_of_three : (w : List ℕ) → Reads w (word_of_three w)
read_word_of_three w = other_row w (codes "map") kind_.Map refl (other_row w (codes "var") kind_.Var refl (other_row w (codes "eqn") kind_.Eqn refl (other_row w (codes "act") kind_.Act refl (row w (codes "Pos") kind_.PosWord refl (row w (codes "Nat") kind_.NatWord refl (row w (codes "Int") kind_.IntWord refl (row w (codes "div") kind_.Div refl (row w (codes "mod") kind_.Mod refl (other_row w (codes "tau") kind_.Tau refl (other_row w (codes "sum") kind_.Sum refl (other_row w (codes "Set") kind_.SetWord refl (other_row w (codes "Bag") kind_.BagWord refl (other_row w (codes "whr") kind_.Whr refl (other_row w (codes "end") kind_.End refl (nothing w kind_.Identifier refl)))))))))))))))

read_word_of_four : (w : List ℕ) → Reads w (word_of_four w)
read_word_of_four w = other_row w (codes "sort") kind_.Sort refl (other_row w (codes "cons") kind_.Cons refl (other_row w (codes "proc") kind_.Proc refl (other_row w (codes "init") kind_.Init refl (row w (codes "Bool") kind_.BoolWord refl (row w (codes "List") kind_.ListWord refl (row w (codes "true") kind_.TrueWord refl (other_row w (codes "hide") kind_.Hide refl (other_row w (codes "comm") kind_.Comm refl (other_row w (codes "dist") kind_.Dist refl (other_row w (codes "glob") kind_.Glob refl (other_row w (codes "Real") kind_.RealWord refl (other_row w (codes "FSet") kind_.FSetWord refl (other_row w (codes "FBag") kind_.FBagWord refl (nothing w kind_.Identifier refl))))))))))))))

read_word_of_five : (w : List ℕ) → Reads w (word_of_five w)
read_word_of_five w = other_row w (codes "delta") kind_.Delta refl (other_row w (codes "allow") kind_.Allow refl (other_row w (codes "block") kind_.Block refl (row w (codes "false") kind_.FalseWord refl (nothing w kind_.Identifier refl))))

read_word_of_six : (w : List ℕ) → Reads w (word_of_six w)
read_word_of_six w = row w (codes "struct") kind_.Struct refl (other_row w (codes "rename") kind_.Rename refl (other_row w (codes "lambda") kind_.Lambda refl (other_row w (codes "forall") kind_.Forall refl (other_row w (codes "exists") kind_.Exists refl (nothing w kind_.Identifier refl)))))

read_word : (w : List ℕ) → Reads w (word_kind w)
read_word w = either (nat_eq (length w) 2) w _ _ (read_word_of_two w) (either (nat_eq (length w) 3) w _ _ (read_word_of_three w) (either (nat_eq (length w) 4) w _ _ (read_word_of_four w)
    (either (nat_eq (length w) 5) w _ _ (read_word_of_five w) (either (nat_eq (length w) 6) w _ kind_.Identifier (read_word_of_six w) (nothing w kind_.Identifier refl)))))

-- ---- signs
record ReadsSign (w : List ℕ) (o : Option Kind) : Type 0 where
  is : (k : Kind) → o ≡ Some k → Reads w k

some_kind : (j k : Kind) → Some j ≡ Some k → j ≡ k
some_kind j k e = cc

none_kind : (k : Kind) → None ≡ Some k → ⊥
none_kind k e = cc

no_sign : (w : List ℕ) → ReadsSign w None
no_sign w = record { is = λ k e. absurd (none_kind k e) }

sign_by : (b : Bool) (w : List ℕ) (j : Kind) (o : Option Kind) → (b ≡ true → Reads w j) → ReadsSign w o → ReadsSign w (if b then Some j else o)
sign_by true w j o r h = record { is = λ k e. subst (λ i. Reads w i) (some_kind j k e) (r refl) }
sign_by false w j o r h = h

sign_row : (w u : List ℕ) (j : Kind) {o : Option Kind} → text_of_kind j ≡ Some u → ReadsSign w o → ReadsSign w (if bytes_eq w u then Some j else o)
sign_row w u j {o = o} e h = sign_by (bytes_eq w u) w j o (λ b. record { is = λ t f. (bytes_eq-Decides w u).0 b ∙ some_is u t (sym e ∙ f) }) h

other_sign : (w u : List ℕ) (j : Kind) {o : Option Kind} → text_of_kind j ≡ None → ReadsSign w o → ReadsSign w (if bytes_eq w u then Some j else o)
other_sign w u j {o = o} e h = sign_by (bytes_eq w u) w j o (λ b. nothing w j e) h

either_sign : (b : Bool) (w : List ℕ) (o p : Option Kind) → ReadsSign w o → ReadsSign w p → ReadsSign w (if b then o else p)
either_sign true w o p h i = h
either_sign false w o p h i = i

read_sign_of_one : (w : List ℕ) → ReadsSign w (sign_of_one w)
read_sign_of_one w = sign_row w (codes "(") kind_.LeftParen refl (sign_row w (codes ")") kind_.RightParen refl (sign_row w (codes "[") kind_.LeftBracket refl (sign_row w (codes "]") kind_.RightBracket refl (other_sign w (codes "{") kind_.LeftBrace refl (other_sign w (codes "}") kind_.RightBrace refl (sign_row w (codes ",") kind_.Comma refl (other_sign w (codes ";") kind_.Semicolon refl (sign_row w (codes ":") kind_.Colon refl (sign_row w (codes "=") kind_.Equals refl (sign_row w (codes "?") kind_.Question refl (sign_row w (codes "#") kind_.Hash refl (sign_row w (codes "!") kind_.Exclamation refl (sign_row w (codes ".") kind_.Dot refl (sign_row w (codes "+") kind_.Plus refl (sign_row w (codes "-") kind_.Minus refl (sign_row w (codes "*") kind_.Star refl (sign_row w (codes "|") kind_.Bar refl (sign_row w (codes "<") kind_.Less refl (sign_row w (codes ">") kind_.Greater refl (other_sign w (codes "@") kind_.At refl (other_sign w (codes "/") kind_.Slash refl (no_sign w))))))))))))))))))))))

read_sign_of_two : (w : List ℕ) → ReadsSign w (sign_of_two w)
read_sign_of_two w = sign_row w (codes "||") kind_.BarBar refl (sign_row w (codes "&&") kind_.AndAnd refl (sign_row w (codes "=>") kind_.Implies refl (sign_row w (codes "==") kind_.EqualsEquals refl (sign_row w (codes "!=") kind_.NotEquals refl (sign_row w (codes "<=") kind_.LessEquals refl (sign_row w (codes ">=") kind_.GreaterEquals refl (sign_row w (codes "|>") kind_.Prepend refl (sign_row w (codes "<|") kind_.Append refl (sign_row w (codes "++") kind_.Concat refl (sign_row w (codes "->") kind_.Arrow refl (other_sign w (codes "<>") kind_.Else refl (other_sign w (codes "<<") kind_.Before refl (no_sign w)))))))))))))

read_sign_of_three : (w : List ℕ) → ReadsSign w (sign_of_three w)
read_sign_of_three w = other_sign w (codes "||_") kind_.LeftMerge refl (no_sign w)

read_sign : (w : List ℕ) → ReadsSign w (sign_kind w)
read_sign w = either_sign (nat_eq (length w) 1) w _ _ (read_sign_of_one w) (either_sign (nat_eq (length w) 2) w _ _ (read_sign_of_two w) (either_sign (nat_eq (length w) 3) w _ None (read_sign_of_three w) (no_sign w)))

-- ---- tokens
read_token : {w : List ℕ} {k : Kind} → IsToken w k → Reads w k
read_token (name_or_word {first = first} {others = others} letter names) = read_word (first ∷ others)
read_token zero_numeral = nothing (codes "0") kind_.Numeral refl
read_token (numeral {first = first} {others = others} some digit digits) = nothing (first ∷ others) kind_.Numeral refl
read_token (sign {bytes = w} {kind = k} found) = (read_sign w).is k found

-- the bytes of a token of this kind
pub text_is : {w : List ℕ} {k : Kind} (t : List ℕ) → IsToken w k → text_of_kind k ≡ Some t → w ≡ t
text_is t token e = (read_token token).is t e
