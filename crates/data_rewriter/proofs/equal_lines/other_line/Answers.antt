use Rattle.std.proofs.Common.{inl, inr, ◌∙◌}
use Rattle.std.specs.Prelude.{None}
use Rattle.data_rewriter.proofs.Deciding.{plainly}
use Rattle.data_rewriter.proofs.EqualClauses.{other_decided}
use Rattle.data_rewriter.proofs.EqualClauses.{equal_nums, numbers_right, same_numbers}
use Rattle.data_rewriter.proofs.equal_lines.other_line.Goals as goal

pub returns-in_default : goal.returns-in_default
returns-in_default c = λ sig ts a t u table so look vx vy differ.
    other_decided sig ts a t u look None (inr (differ, inr ((λ h. c.in_default.ensures sig ts a t table so vx h.0 h.2), tt)))

pub returns-in_default-number_over : goal.returns-in_default-number_over
returns-in_default-number_over c = λ sig ts a t u table so look vx vy differ.
    other_decided sig ts a t u look None (inr (differ, inr ((λ h. c.in_default-number_over.ensures sig ts a u table so vy h.1 h.3), tt)))

pub returns : goal.returns
returns c = λ sig ts a t u table so look vx vy differ.
    let m = c.in-Some.ensures sig ts a t table so vx in
    let n = c.in-Some-number_over.ensures sig ts a u table so vy in
    other_decided sig ts a t u look _ (inr (differ, inl ((_, _, m.0, n.0), plainly sig ts 29 _ (same_numbers t u) _ c.line.ensures (numbers_right a t u _ _ _ m.0 n.0 (c.eq.ensures ∙ equal_nums c.in-Some.first c.in-Some-number_over.second)))))
