-- What stands outermost in an expression.
use Rattle.std.proofs.Common.{◌≡◌, ℕ, suc, false, cond, List, Option, Some, None, pos, negsuc, nat_eq, arith, refl, sym, subst}
use Rattle.std.proofs.lemmas.Bool.{ne_eqb}
use Rattle.mcrl2_syntax.specs.declared.data_tree.PrefixSign.{PrefixSign}
use Rattle.mcrl2_syntax.specs.declared.data_tree.PrefixSign.TheVariants.{Not, Negate, Size}
use Rattle.mcrl2_syntax.specs.declared.data_tree.InfixSign.{InfixSign}
use Rattle.data_theory.specs.declared.words.Word.{Word}
use Rattle.lps_printer.specs.declared.forms.Form.{Form}
use Rattle.lps_printer.specs.declared.forms.Form.TheVariants as forms
use Rattle.lps_printer.specs.declared.forms.Outermost.{Outermost}
use Rattle.lps_printer.specs.declared.forms.Outermost.TheVariants as outermosts
use Rattle.lps_printer.specs.PrintedExpressions as form
use Rattle.lps_printer.specs.PrintedExpressions.{Expression, Expressions, named, numeral, true_, false_, listed, applied, prefix, binary}
use Rattle.lps_printer.specs.WrittenTerms.{call, build}
use Rattle.lps_printer.specs.WordForms.{shape_by, IsOutermost, with_cast, cast_text, number_worded, minus_or_closed, outermost_in}

abbrev IsClosed : Expression → Type 0
IsClosed e = IsOutermost outermosts.Closed e

pub closed_name : (x : List ℕ) → IsClosed (named x)
closed_name x = record { needs = refl; going = λ sign. refl }

pub closed_true : IsClosed true_
closed_true = record { needs = refl; going = λ sign. refl }

closed_false : IsClosed false_
closed_false = record { needs = refl; going = λ sign. refl }

pub closed_list : (es : Expressions) → IsClosed (listed es)
closed_list es = record { needs = refl; going = λ sign. refl }

pub closed_call : (x : List ℕ) (es : Expressions) → IsClosed (call x es)
closed_call x form.none = record { needs = refl; going = λ sign. refl }
closed_call x (form.more e es) = record { needs = refl; going = λ sign. refl }

pub outermost_infix : (sign : InfixSign) (e f : Expression) → IsOutermost (outermosts.Infix sign) (binary sign e f)
outermost_infix sign e f = record { needs = refl; going = λ other. refl }

pub outermost_prefix : (sign : PrefixSign) (e : Expression) → IsOutermost (minus_or_closed sign) (prefix sign e)
outermost_prefix Not e = record { needs = refl; going = λ other. refl }
outermost_prefix Negate e = record { needs = refl; going = λ other. refl }
outermost_prefix Size e = record { needs = refl; going = λ other. refl }

-- ---- numerals
pub cast_closed : (o : Option (List ℕ)) (n : ℕ) → IsClosed (with_cast o n)
cast_closed None n = record { needs = refl; going = λ sign. refl }
cast_closed (Some x) n = record { needs = refl; going = λ sign. refl }

pub outermost_positive : (s n : ℕ) → IsClosed (number_worded false s (pos n))
outermost_positive s n = cast_closed (cast_text s n) n

pub outermost_negative : (s n : ℕ) → IsOutermost outermosts.Minus (number_worded false s (negsuc n))
outermost_negative s n = record { needs = refl; going = λ sign. refl }

-- ---- built-in functions
abbrev pub length_of : Expressions → ℕ
length_of form.none = 0
length_of (form.more e es) = suc (length_of es)

not_one : (n : ℕ) → nat_eq (suc (suc n)) 1 ≡ false
not_one n = ne_eqb (suc (suc n)) 1 (λ e. absurd (omega (arith, e)))

not_two : (n : ℕ) → nat_eq (suc (suc (suc n))) 2 ≡ false
not_two n = ne_eqb (suc (suc (suc n))) 2 (λ e. absurd (omega (arith, e)))

pub outermost_built : (w : Word) (f : Form) (es : Expressions) → IsOutermost (outermost_in f (length_of es)) (build (shape_by w f) es)
outermost_built w forms.Truth es = closed_true
outermost_built w forms.Falsity es = closed_false
outermost_built w (forms.Before sign) form.none = closed_true
outermost_built w (forms.Before sign) (form.more e form.none) = outermost_prefix sign e
outermost_built w (forms.Before sign) (form.more e (form.more f es)) = subst (λ b. IsOutermost (cond b (minus_or_closed sign) outermosts.Closed) true_) (sym (not_one (length_of es))) closed_true
outermost_built w (forms.Between sign) form.none = closed_true
outermost_built w (forms.Between sign) (form.more e form.none) = closed_true
outermost_built w (forms.Between sign) (form.more e (form.more f form.none)) = outermost_infix sign e f
outermost_built w (forms.Between sign) (form.more e (form.more f (form.more g es))) = subst (λ b. IsOutermost (cond b (outermosts.Infix sign) outermosts.Closed) true_) (sym (not_two (length_of es))) closed_true
outermost_built w forms.Called es = closed_call _ es

pub outermost_equal : {o : Outermost} {e f : Expression} → e ≡ f → IsOutermost o e → IsOutermost o f
outermost_equal {o = o} q h = subst (IsOutermost o) q h
