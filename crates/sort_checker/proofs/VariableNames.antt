-- An identifier is no sign, and neither `true` nor `false`.
use Rattle.std.proofs.Common.{◌≡◌, ℕ, Bool, true, false, cond, ◌&&◌, ◌||◌, List, [], ◌∷◌, refl, sym, ap, ◌∙◌, subst, arith}
use Rattle.std.specs.Prelude.{Some, is_some, codes, bytes_eq}
use Rattle.std.specs.List.{find, list_any}
use Rattle.std.proofs.lemmas.Slice.Eq.{bytes_eq-Decides}
use Rattle.mcrl2_lexer.specs.declared.kind.Kind.{Kind}
use Rattle.mcrl2_lexer.specs.declared.kind.Kind.TheVariants.{Identifier}
use Rattle.mcrl2_lexer.specs.Tokens.{IsToken, name_or_word, zero_numeral, numeral, sign}
use Rattle.mcrl2_lexer.specs.Words.{word_kind, sign_kind, is_letter}
use Rattle.mcrl2_syntax.specs.declared.data_tree.PrefixSign.{PrefixSign}
use Rattle.mcrl2_syntax.specs.declared.data_tree.PrefixSign.TheVariants as prefixes
use Rattle.mcrl2_syntax.specs.declared.data_tree.InfixSign.{InfixSign}
use Rattle.mcrl2_syntax.specs.declared.data_tree.InfixSign.TheVariants as infixes
use Rattle.mcrl2_syntax.specs.DataTrees.{PlainData}
use Rattle.sort_table.specs.Expressions.{Name}
use Rattle.sort_table.specs.BareData.{prefix_text, infix_text, bare_data}
use Rattle.sort_table.specs.BareProcesses.{Variables}
use Rattle.sort_table.specs.Identifiers.{in_data}
use Rattle.sort_checker.specs.Faults.{words_in, names_of_variables}
use Rattle.sort_checker.specs.FreeTrees.{AreVariableNames}
use Rattle.sort_checker.specs.Operators.{stands_in}
use Rattle.sort_checker.proofs.DataWords.{PassesNoSign, identifier_passes}

abbrev is_identifier_kind : Kind → Bool
is_identifier_kind Identifier = true
is_identifier_kind _ = false

-- the test that identifiers pass
abbrev can_be_name : Name → Bool
can_be_name [] = false
can_be_name (b ∷ bs) = is_letter b && is_identifier_kind (word_kind (b ∷ bs))

sign_no_identifier : (s : List ℕ) → sign_kind s ≡ Some Identifier → ⊥
sign_no_identifier s is = grind arith

both : (a b : Bool) → a ≡ true → b ≡ true → (a && b) ≡ true
both a b h k = ap (λ (c : Bool). c && b) h ∙ k

passes : {bytes : Name} {kind : Kind} → IsToken bytes kind → kind ≡ Identifier → can_be_name bytes ≡ true
passes (name_or_word {first = first} {others = others} letter names) is = both (is_letter first) (is_identifier_kind (word_kind (first ∷ others))) letter (ap is_identifier_kind is)
passes zero_numeral is = cc
passes (numeral some digit digits) is = cc
passes (sign {bytes = bytes} {kind = kind} found) is = absurd (sign_no_identifier bytes (rw is at found))

infix_fails : (s : InfixSign) → can_be_name (infix_text s) ≡ false
infix_fails infixes.Implies = refl
infix_fails infixes.Or = refl
infix_fails infixes.And = refl
infix_fails infixes.Equal = refl
infix_fails infixes.NotEqual = refl
infix_fails infixes.Less = refl
infix_fails infixes.LessEqual = refl
infix_fails infixes.Greater = refl
infix_fails infixes.GreaterEqual = refl
infix_fails infixes.In = refl
infix_fails infixes.Prepend = refl
infix_fails infixes.Append = refl
infix_fails infixes.Concat = refl
infix_fails infixes.Add = refl
infix_fails infixes.Subtract = refl
infix_fails infixes.Div = refl
infix_fails infixes.Mod = refl
infix_fails infixes.Multiply = refl
infix_fails infixes.At = refl

prefix_fails : (s : PrefixSign) → can_be_name (prefix_text s) ≡ false
prefix_fails prefixes.Not = refl
prefix_fails prefixes.Negate = refl
prefix_fails prefixes.Size = refl

-- what fails the test is none of these names
not_equal : (x y : Name) → IsToken x Identifier → can_be_name y ≡ false → bytes_eq x y ≡ false
not_equal x y name fails = by_test (bytes_eq x y) refl
  where
    by_test : (b : Bool) → bytes_eq x y ≡ b → b ≡ false
    by_test false e = refl
    by_test true e = let same : x ≡ y = (bytes_eq-Decides x y).0 e in let never : true ≡ false = sym (passes name refl) ∙ (ap can_be_name same ∙ fails) in absurd cc

swapped : (x y : Name) → bytes_eq x y ≡ false → bytes_eq y x ≡ false
swapped x y fails = by_test (bytes_eq y x) refl
  where
    by_test : (b : Bool) → bytes_eq y x ≡ b → b ≡ false
    by_test false e = refl
    by_test true e = let never : true ≡ false = sym ((bytes_eq-Decides x y).1 (sym ((bytes_eq-Decides y x).0 e))) ∙ fails in absurd cc

-- ---- variables
-- what stands among the names of variables is an identifier
pub stands_as_name : (xs : Variables) → AreVariableNames xs → (x : Name) → stands_in x (names_of_variables xs) ≡ true → IsToken x Identifier
stands_as_name [] all x h = let never : false ≡ true = h in absurd cc
stands_as_name (y ∷ xs) all x h = by_test (stands_as_name xs all.1 x) (bytes_eq y.0 x) refl h
  where
    by_test : (stands_in x (names_of_variables xs) ≡ true → IsToken x Identifier) → (b : Bool) → bytes_eq y.0 x ≡ b → (b || stands_in x (names_of_variables xs)) ≡ true → IsToken x Identifier
    by_test later true e k = subst (λ (n : Name). IsToken n Identifier) ((bytes_eq-Decides y.0 x).0 e) all.0
    by_test later false e k = later k

none_stands : (xs : Variables) → AreVariableNames xs → (f : Name) → can_be_name f ≡ false → stands_in f (names_of_variables xs) ≡ false
none_stands [] all f fails = refl
none_stands (y ∷ xs) all f fails = ap (λ (b : Bool). b || stands_in f (names_of_variables xs)) (not_equal y.0 f all.0 fails) ∙ none_stands xs all.1 f fails

-- a test that only names of variables can pass
pub only_variables : (xs : Variables) → AreVariableNames xs → (q : Name → Bool) → PassesNoSign (λ x. stands_in x (names_of_variables xs) && q x)
only_variables xs all q = record {
  between = λ s. ap (λ (b : Bool). b && q (infix_text s)) (none_stands xs all (infix_text s) (infix_fails s));
  before = λ s. ap (λ (b : Bool). b && q (prefix_text s)) (none_stands xs all (prefix_text s) (prefix_fails s));
  truth = ap (λ (b : Bool). b && q (codes "true")) (none_stands xs all (codes "true") refl);
  falsehood = ap (λ (b : Bool). b && q (codes "false")) (none_stands xs all (codes "false") refl);
}

-- the test that one identifier passes
only_this : (x : Name) → IsToken x Identifier → PassesNoSign (λ y. bytes_eq y x)
only_this x name = record {
  between = λ s. swapped x (infix_text s) (not_equal x (infix_text s) name (infix_fails s));
  before = λ s. swapped x (prefix_text s) (not_equal x (prefix_text s) name (prefix_fails s));
  truth = swapped x (codes "true") (not_equal x (codes "true") name refl);
  falsehood = swapped x (codes "false") (not_equal x (codes "false") name refl);
}

any_found : (p : Name → Bool) (ns : List Name) → list_any p ns ≡ is_some (find p ns)
any_found p [] = refl
any_found p (n ∷ ns) = by_test (any_found p ns) (p n)
  where
    by_test : list_any p ns ≡ is_some (find p ns) → (b : Bool) → (b || list_any p ns) ≡ is_some (cond b (Some n) (find p ns))
    by_test later true = refl
    by_test later false = later

-- an identifier stands among an expression's words where it stands among its identifiers
pub stands_in_data : (x : Name) → IsToken x Identifier → (d : PlainData) → stands_in x (words_in (bare_data d)) ≡ stands_in x (in_data d)
stands_in_data x name d =
    any_found (λ y. bytes_eq y x) (words_in (bare_data d)) ∙ (ap is_some (identifier_passes (λ y. bytes_eq y x) (only_this x name) d) ∙ sym (any_found (λ y. bytes_eq y x) (in_data d)))
