-- Bytes that go on piece by piece.
use Rattle.std.proofs.Common.{◌≡◌, ℕ, Bool, false, cond, List, [], ◌∷◌, ◌++◌, refl, sym, ap, ◌∙◌, append_assoc, subst}
use Rattle.mcrl2_lexer.specs.declared.kind.Kind.{Kind}
use Rattle.mcrl2_syntax.specs.declared.data_tree.PrefixSign.{PrefixSign}
use Rattle.mcrl2_syntax.specs.declared.data_tree.PrefixSign.TheVariants.{Not, Negate, Size}
use Rattle.mcrl2_syntax.specs.declared.data_tree.InfixSign.{InfixSign}
use Rattle.mcrl2_syntax.specs.declared.data_tree.InfixSign.TheVariants.{Prepend}
use Rattle.sort_table.specs.BareData.{prefix_text, infix_text}
use Rattle.lps_printer.specs.Pieces.{Piece, bytes_of}
use Rattle.lps_printer.specs.PrintedExpressions as form
use Rattle.lps_printer.specs.PrintedExpressions.{Expression, Expressions, prefix, binary}
use Rattle.lps_printer.specs.DataLayout.{piece, space, print, print_more, operand, needs_brackets, right_needs, prefix_kind, infix_kind}
use Rattle.lps_printer.specs.declared.forms.Outermost.{Outermost}
use Rattle.lps_printer.specs.WordForms.{right_needs_in, IsOutermost}
use Rattle.lps_printer.specs.Adding.{Adds}

pub adds_none : (old : List ℕ) → Adds old old (λ rest. rest)
adds_none old = record { bytes = λ rest end. refl }

pub adds_both : {a b c : List ℕ} {f g : List Piece → List Piece} → Adds a b f → Adds b c g → Adds a c (λ rest. f (g rest))
adds_both {g = g} p q = record { bytes = λ rest end. p.bytes (g rest) end ∙ q.bytes rest end }

-- a token behind a gap
pub adds_token : (old mid new gap token : List ℕ) → mid ≡ old ++ gap → new ≡ mid ++ token → (kind : Kind) → Adds old new (λ rest. piece gap kind token ∷ rest)
adds_token old mid new gap token e f kind = record {
  bytes = λ rest end.
      sym (append_assoc old gap (token ++ bytes_of rest end))
      ∙ ap (λ (x : List ℕ). x ++ (token ++ bytes_of rest end)) (sym e)
      ∙ sym (append_assoc mid token (bytes_of rest end))
      ∙ ap (λ (x : List ℕ). x ++ bytes_of rest end) (sym f);
}

-- what stands in front is the same for each rest
pub adds_same : {a b : List ℕ} {f g : List Piece → List Piece} → ((rest : List Piece) → f rest ≡ g rest) → Adds a b f → Adds a b g
adds_same {a = a} e p = record { bytes = λ rest end. ap (λ ps. a ++ bytes_of ps end) (sym (e rest)) ∙ p.bytes rest end }

-- an expression that equals another one
pub adds_equal : {a b : List ℕ} {e f : Expression} (gap : List ℕ) → e ≡ f → Adds a b (λ rest. print e gap rest) → Adds a b (λ rest. print f gap rest)
adds_equal {a = a} {b = b} gap q p = subst (λ x. Adds a b (λ rest. print x gap rest)) q p

pub adds_further : {a b : List ℕ} {es fs : Expressions} → es ≡ fs → Adds a b (λ rest. print_more es rest) → Adds a b (λ rest. print_more fs rest)
adds_further {a = a} {b = b} q p = subst (λ x. Adds a b (λ rest. print_more x rest)) q p

-- ---- operands
pub right_is : {o : Outermost} {e : Expression} (sign : InfixSign) → IsOutermost o e → right_needs_in sign o ≡ right_needs sign e
right_is {o = o} {e = e} sign h = λ i. cond (sym (h.going sign) i) false (sym h.needs i)

pub right_of_prepend : (e : Expression) → needs_brackets e ≡ right_needs Prepend e
right_of_prepend (form.named x) = refl
right_of_prepend (form.numeral n) = refl
right_of_prepend form.true_ = refl
right_of_prepend form.false_ = refl
right_of_prepend (form.listed es) = refl
right_of_prepend (form.applied x es) = refl
right_of_prepend (prefix Not e) = refl
right_of_prepend (prefix Negate e) = refl
right_of_prepend (prefix Size e) = refl
right_of_prepend (binary sign e f) = refl

pub prefix_added : {a m n : List ℕ} (sign : PrefixSign) (gap text : List ℕ) (b : Bool) (e : Expression) → text ≡ prefix_text sign → b ≡ needs_brackets e → ((kind : Kind) → Adds a m (λ rest. piece gap kind text ∷ rest))
    → Adds m n (λ rest. operand b (λ g r. print e g r) [] rest) → Adds a n (λ rest. print (prefix sign e) gap rest)
prefix_added {a = a} {m = m} {n = n} sign gap text b e t q p r =
    adds_both (subst (λ x. Adds a m (λ rest. piece gap (prefix_kind sign) x ∷ rest)) t (p (prefix_kind sign))) (subst (λ x. Adds m n (λ rest. operand x (λ g r. print e g r) [] rest)) q r)

pub infix_added : {a m n o : List ℕ} (sign : InfixSign) (gap text : List ℕ) (b c : Bool) (e f : Expression) → text ≡ infix_text sign → b ≡ needs_brackets e → c ≡ right_needs sign f
    → Adds a m (λ rest. operand b (λ g r. print e g r) gap rest) → ((kind : Kind) → Adds m n (λ rest. piece space kind text ∷ rest)) → Adds n o (λ rest. operand c (λ g r. print f g r) space rest)
    → Adds a o (λ rest. print (binary sign e f) gap rest)
infix_added {a = a} {m = m} {n = n} {o = o} sign gap text b c e f t q r left p right =
    adds_both (subst (λ x. Adds a m (λ rest. operand x (λ g r. print e g r) gap rest)) q left)
    (adds_both (subst (λ x. Adds m n (λ rest. piece space (infix_kind sign) x ∷ rest)) t (p (infix_kind sign))) (subst (λ x. Adds n o (λ rest. operand x (λ g r. print f g r) space rest)) r right))
