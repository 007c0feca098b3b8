use Rattle.std.proofs.Common.{◌≡◌, inl, inr, refl, sym, ap, ◌∙◌, subst, rules}
use Rattle.std.specs.Prelude.{None}
use Rattle.data_theory.specs.Equations.{falseᵗ}
use Rattle.data_rewriter.specs.Standing.{StandsFor, IsSymbolOf}
use Rattle.data_rewriter.proofs.Deciding.{plainly}
use Rattle.data_rewriter.proofs.EqualClauses.{struct_decided, numeral_not_made, made_by, made_number}
use Rattle.data_theory.specs.Terms.{function, application, named}
use Rattle.data_theory.specs.declared.ids.FunId.{FunId}
use Rattle.data_theory.specs.IdData.{data_meant}
use Rattle.data_rewriter.proofs.EqualClauses.{same_function, equal_nums, numbers_right, same_numbers, places_equal}
use Rattle.data_rewriter.proofs.equal_lines.struct_line.Goals as goal

pub returns-in_default-number_over : goal.returns-in_default-number_over
returns-in_default-number_over c = λ sig ts d t u table so st sx sy vx vy differ.
    let m = c.in-Some.ensures sig ts (named d) t table so vx in
    struct_decided sig ts d t u st None (inr (differ, inr ((λ h. c.in_default-number_over.ensures sig ts (named d) u table so vy h.1 h.3), inr ((λ h. numeral_not_made m.0 h.4), inr ((λ h. numeral_not_made m.0 h.3), tt)))))

pub returns-in-Some : goal.returns-in-Some
returns-in-Some c = λ sig ts d t u table so st sx sy vx vy differ.
    let m = c.in-Some.ensures sig ts (named d) t table so vx in
    let n = c.in-Some-number_over.ensures sig ts (named d) u table so vy in
    struct_decided sig ts d t u st _ (inr (differ, inl ((_, _, m.0, n.0), plainly sig ts 29 _ (same_numbers t u) _ c.line.ensures (numbers_right (named d) t u _ _ _ m.0 n.0 (c.eq.ensures ∙ equal_nums c.in-Some.first c.in-Some-number_over.second)))))

pub returns-in_default-constructor_of : goal.returns-in_default-constructor_of
returns-in_default-constructor_of c = λ sig ts d t u table so st sx sy vx vy differ.
    struct_decided sig ts d t u st None (inr (differ, inr ((λ h. c.in_default.ensures sig ts (named d) t table so vx h.0 h.2), inr ((λ h. c.in_default-constructor_of.ensures sig ts t vx h.0 h.2 h.6 h.4), inr ((λ h. c.in_default-constructor_of.ensures sig ts t vx h.0 h.1 h.5 h.3), tt)))))

pub returns-in_default-constructor_of-2 : goal.returns-in_default-constructor_of-2
returns-in_default-constructor_of-2 c = λ sig ts d t u table so st sx sy vx vy differ.
    struct_decided sig ts d t u st None (inr (differ, inr ((λ h. c.in_default.ensures sig ts (named d) t table so vx h.0 h.2), inr ((λ h. c.in_default-constructor_of-2.ensures sig ts u vy h.1 h.3 h.7 h.5), inr ((λ h. c.in_default-constructor_of-2.ensures sig ts u vy h.0 h.2 h.5 h.4), tt)))))

pub returns-then-ne : goal.returns-then-ne
returns-then-ne c = λ sig ts d t u table so st sx sy vx vy differ.
    let m = c.in-Some-constructor_of.ensures sig ts t vx in
    let n = c.in-Some-constructor_of-2.ensures sig ts u vy in
    struct_decided sig ts d t u st _ (inr (differ, inr ((λ h. c.in_default.ensures sig ts (named d) t table so vx h.0 h.2), inl ((m.number, n.number, m.arguments, n.arguments, m.is, n.is, m.constructs, n.constructs, (λ e. let same = same_function sig table c.in-Some-constructor_of.first c.in-Some-constructor_of-2.second (function n.number) (subst (λ k. IsSymbolOf sig c.in-Some-constructor_of.first (function k)) e m.symbol) n.symbol in let x : c.in-Some-constructor_of.first.0 ≡ c.in-Some-constructor_of-2.second.0 = ap (λ (f : FunId). f.0) same in let y = c.if-ne.ensures in search (rules, x, y))), plainly sig ts 50 _ falseᵗ _ c.line-then-ne.ensures refl))))

pub returns : goal.returns
returns c = λ sig ts d t u table so st sx sy vx vy differ.
    let m = c.in-Some-constructor_of.ensures sig ts t vx in
    let n = c.in-Some-constructor_of-2.ensures sig ts u vy in
    let x : c.in-Some-constructor_of.first.0 ≡ c.in-Some-constructor_of-2.second.0 = let y = c.if-ne.ensures in search (rules, y) in
    let e = made_by sig c.in-Some-constructor_of.first c.in-Some-constructor_of-2.second m.number n.number m.symbol n.symbol (λ i. record { 0 = x i }) in
    let is : u ≡ application (function m.number) n.arguments = n.is ∙ ap (λ k. application (function k) n.arguments) (sym e) in
    struct_decided sig ts d t u st _ (inr (differ, inr ((λ h. c.in_default.ensures sig ts (named d) t table so vx h.0 h.2), inr ((λ h. h.8 (made_number (sym h.4 ∙ m.is) ∙ sym (made_number (sym h.5 ∙ is)))), inl ((m.number, m.arguments, n.arguments, m.is, is, m.constructs), plainly sig ts 51 _ (places_equal (data_meant sig) t u) _ c.line-2.ensures (m.number, m.arguments, n.arguments, m.symbol, subst (StandsFor sig ts c.args.x) m.is sx, subst (StandsFor sig ts c.args.y) is sy, (λ i. places_equal (data_meant sig) (m.is i) (is i))))))))
