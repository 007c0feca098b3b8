-- Numerals as they are written.
use Rattle.std.proofs.Common.{◌≡◌, ℕ, zero, suc, Bool, true, false, cond, codes, Some, None, inl, inr, ℤ, pos, negsuc, refl, sym, ap, ◌∙◌}
use lib.IntN.{neg_ℤ}
use Rattle.std.proofs.Math.Dec.{eqb-suc-zero}
use Rattle.mcrl2_syntax.specs.declared.data_tree.PrefixSign.TheVariants.{Negate}
use Rattle.data_theory.specs.declared.ids.SortId.{SortId}
use Rattle.data_theory.specs.declared.num.Num.{Num}
use Rattle.data_theory.specs.Terms.{Sort, positive, natural, integer}
use Rattle.data_theory.specs.Terms as terms
use Rattle.data_theory.specs.Whole.{whole_of}
use Rattle.data_theory.specs.Signature.{Sig}
use Rattle.data_theory.specs.IdTables.{IsTable}
use Rattle.data_theory.specs.IdTerms.{sort_under}
use Rattle.data_theory.specs.IdTreeSorts.{IsNumberIn, HasNumber}
use Rattle.data_theory.proofs.IdSymbolLemmas.{positive_is, natural_is, integer_is}
use Rattle.lps_printer.specs.PrintedExpressions.{numeral, prefix}
use Rattle.lps_printer.specs.WrittenTerms.{open_numeral, placed_numeral}
use Rattle.lps_printer.specs.WordForms.{cast_text, with_cast, number_worded}
use Rattle.lps_printer.specs.Wordings.{Wording, in_place}

-- ---- by sign and magnitude
negated : (b : Bool) (s m : ℕ) → (m ≡ 0 → ⊥) → number_worded b s (neg_ℤ (pos m)) ≡ prefix Negate (numeral m)
negated b s zero h = absurd (h refl)
negated true s (suc m) h = refl
negated false s (suc m) h = refl

pub negative_worded : (b : Bool) (s : ℕ) (n : Num) → n.negative ≡ true → number_worded b s (whole_of n) ≡ prefix Negate (numeral n.magnitude)
negative_worded b s n e =
    ap (λ x. number_worded b s (cond x (neg_ℤ (pos n.magnitude)) (pos n.magnitude))) e
    ∙ negated b s n.magnitude (λ z. let p : true ≡ false = sym e ∙ n.zero_is_not_negative z in cc)

pub placed_worded : (s : ℕ) (n : Num) → n.negative ≡ false → number_worded true s (whole_of n) ≡ numeral n.magnitude
placed_worded s n e = ap (λ x. number_worded true s (cond x (neg_ℤ (pos n.magnitude)) (pos n.magnitude))) e

pub opened_worded : (s : ℕ) (n : Num) → n.negative ≡ false → number_worded false s (whole_of n) ≡ with_cast (cast_text s n.magnitude) n.magnitude
opened_worded s n e = ap (λ x. number_worded false s (cond x (neg_ℤ (pos n.magnitude)) (pos n.magnitude))) e

-- ---- by sorts
placed_so : (s : ℕ) (z : ℤ) → placed_numeral z ≡ number_worded true s z
placed_so s (pos n) = refl
placed_so s (negsuc n) = refl

open_positive : (z : ℤ) → open_numeral positive z ≡ number_worded false 1 z
open_positive (pos n) = refl
open_positive (negsuc n) = refl

open_natural : (z : ℤ) → open_numeral natural z ≡ number_worded false 2 z
open_natural (pos zero) = refl
open_natural (pos (suc n)) = ap (λ b. with_cast (cond b None (Some (codes "Pos2Nat"))) (suc n)) (sym (eqb-suc-zero n))
open_natural (negsuc n) = refl

open_integer : (z : ℤ) → open_numeral integer z ≡ number_worded false 3 z
open_integer (pos zero) = refl
open_integer (pos (suc n)) = ap (λ b. with_cast (cond b (Some (codes "Nat2Int")) (Some (codes "Pos2Int"))) (suc n)) (sym (eqb-suc-zero n))
open_integer (negsuc n) = refl

opened_so : (g : Sig) → IsTable g → (s : SortId) (z : ℤ) → IsNumberIn s z → open_numeral (sort_under g s) z ≡ number_worded false s.0 z
opened_so g table s z (inl h) = ap (λ a. open_numeral (sort_under g a) z) h.0 ∙ ap (λ a. open_numeral a z) (positive_is g table) ∙ open_positive z ∙ ap (λ (a : SortId). number_worded false a.0 z) (sym h.0)
opened_so g table s z (inr (inl h)) = ap (λ a. open_numeral (sort_under g a) z) h.0 ∙ ap (λ a. open_numeral a z) (natural_is g table) ∙ open_natural z ∙ ap (λ (a : SortId). number_worded false a.0 z) (sym h.0)
opened_so g table s z (inr (inr h)) = ap (λ a. open_numeral (sort_under g a) z) h ∙ ap (λ a. open_numeral a z) (integer_is g table) ∙ open_integer z ∙ ap (λ (a : SortId). number_worded false a.0 z) (sym h)

-- a numeral of a sort of numbers is written by the number of its sort
pub numeral_worded : (w : Wording) (g : Sig) → IsTable g → (b : Bool) (s : SortId) (z : ℤ) → HasNumber s z → number_worded b s.0 z ≡ in_place w b (terms.numeral (sort_under g s) z)
numeral_worded w g table true s z h = sym (placed_so s.0 z)
numeral_worded w g table false s z h = sym (opened_so g table s z h.0)

pub placed_at : {d : Bool} (b : Bool) (s : ℕ) (n : Num) → b ≡ d → number_worded b s (whole_of n) ≡ number_worded d s (whole_of n)
placed_at b s n e = ap (λ x. number_worded x s (whole_of n)) e
