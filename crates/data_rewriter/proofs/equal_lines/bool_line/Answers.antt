use Rattle.std.proofs.Common.{inl, inr, refl, ◌∙◌}
use Rattle.std.specs.Prelude.{None}
use Rattle.data_rewriter.proofs.Deciding.{plainly, told, denied}
use Rattle.data_rewriter.proofs.EqualClauses.{bool_decided}
use Rattle.data_theory.specs.Terms.{boolean}
use Rattle.data_theory.specs.Equations.{ !ᵗ◌}
use Rattle.data_rewriter.proofs.EqualClauses.{equal_nums, numbers_right, same_numbers}
use Rattle.data_rewriter.proofs.equal_lines.bool_line.Goals as goal

pub returns-then-is_true : goal.returns-then-is_true
returns-then-is_true c = λ sig ts t u table so sx sy vx vy differ.
    bool_decided sig ts t u _ (inr (differ, inl ((told (c.is_true.ensures sig ts u vy) c.if-is_true.true), plainly sig ts 21 _ t _ c.line.ensures sx)))

pub returns-then-is_true-2 : goal.returns-then-is_true-2
returns-then-is_true-2 c = λ sig ts t u table so sx sy vx vy differ.
    bool_decided sig ts t u _ (inr (differ, inr (denied (c.is_true.ensures sig ts u vy) c.if-is_true.false, inl ((told (c.is_true-2.ensures sig ts t vx) c.if-is_true-2.true), plainly sig ts 22 _ u _ c.line-then-is_true-2.ensures sy))))

pub returns-then-is_false : goal.returns-then-is_false
returns-then-is_false c = λ sig ts t u table so sx sy vx vy differ.
    bool_decided sig ts t u _ (inr (differ, inr (denied (c.is_true.ensures sig ts u vy) c.if-is_true.false, inr (denied (c.is_true-2.ensures sig ts t vx) c.if-is_true-2.false, inl ((told (c.is_false.ensures sig ts u vy) c.if-is_false.true), plainly sig ts 23 _ (!ᵗ t) _ c.line-then-is_false.ensures (t, sx, refl))))))

pub returns-then-is_false-2 : goal.returns-then-is_false-2
returns-then-is_false-2 c = λ sig ts t u table so sx sy vx vy differ.
    bool_decided sig ts t u _ (inr (differ, inr (denied (c.is_true.ensures sig ts u vy) c.if-is_true.false, inr (denied (c.is_true-2.ensures sig ts t vx) c.if-is_true-2.false, inr (denied (c.is_false.ensures sig ts u vy) c.if-is_false.false, inl ((told (c.is_false-2.ensures sig ts t vx) c.if-is_false-2.true), plainly sig ts 24 _ (!ᵗ u) _ c.line-then-is_false-2.ensures (u, sy, refl)))))))

pub returns-in_default : goal.returns-in_default
returns-in_default c = λ sig ts t u table so sx sy vx vy differ.
    bool_decided sig ts t u None (inr (differ, inr (denied (c.is_true.ensures sig ts u vy) c.if-is_true.false, inr (denied (c.is_true-2.ensures sig ts t vx) c.if-is_true-2.false, inr (denied (c.is_false.ensures sig ts u vy) c.if-is_false.false, inr (denied (c.is_false-2.ensures sig ts t vx) c.if-is_false-2.false, inr ((λ h. c.in_default.ensures sig ts boolean t table so vx h.0 h.2), tt)))))))

pub returns-in_default-number_over : goal.returns-in_default-number_over
returns-in_default-number_over c = λ sig ts t u table so sx sy vx vy differ.
    bool_decided sig ts t u None (inr (differ, inr (denied (c.is_true.ensures sig ts u vy) c.if-is_true.false, inr (denied (c.is_true-2.ensures sig ts t vx) c.if-is_true-2.false, inr (denied (c.is_false.ensures sig ts u vy) c.if-is_false.false, inr (denied (c.is_false-2.ensures sig ts t vx) c.if-is_false-2.false, inr ((λ h. c.in_default-number_over.ensures sig ts boolean u table so vy h.1 h.3), tt)))))))

pub returns : goal.returns
returns c = λ sig ts t u table so sx sy vx vy differ.
    let m = c.in-Some.ensures sig ts boolean t table so vx in
    let n = c.in-Some-number_over.ensures sig ts boolean u table so vy in
    bool_decided sig ts t u _ (inr (differ, inr (denied (c.is_true.ensures sig ts u vy) c.if-is_true.false, inr (denied (c.is_true-2.ensures sig ts t vx) c.if-is_true-2.false, inr (denied (c.is_false.ensures sig ts u vy) c.if-is_false.false, inr (denied (c.is_false-2.ensures sig ts t vx) c.if-is_false-2.false, inl ((_, _, m.0, n.0), plainly sig ts 29 _ (same_numbers t u) _ c.line-2.ensures (numbers_right boolean t u _ _ _ m.0 n.0 (c.eq.ensures ∙ equal_nums c.in-Some.first c.in-Some-number_over.second)))))))))
