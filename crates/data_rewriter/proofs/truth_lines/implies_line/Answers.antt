use Rattle.std.proofs.Common.{inl, inr, refl}
use Rattle.data_rewriter.proofs.Deciding.{plainly, told, denied}
use Rattle.data_rewriter.proofs.TruthClauses.{implies_decided}
use Rattle.data_rewriter.proofs.truth_lines.implies_line.Goals as goal

pub returns-then-is_true : goal.returns-then-is_true
returns-then-is_true c = λ sig ts t u sx sy vx.
    implies_decided sig ts t u _ (inl ((told (c.is_true.ensures sig ts t vx) c.if-is_true.true), plainly sig ts 13 _ u _ c.line.ensures sy))

pub returns-then-is_false : goal.returns-then-is_false
returns-then-is_false c = λ sig ts t u sx sy vx.
    implies_decided sig ts t u _ (inr (denied (c.is_true.ensures sig ts t vx) c.if-is_true.false, inl ((told (c.is_false.ensures sig ts t vx) c.if-is_false.true), plainly sig ts 14 _ _ _ c.line-then-is_false.ensures refl)))

pub returns : goal.returns
returns c = λ sig ts t u sx sy vx.
    implies_decided sig ts t u _ (inr (denied (c.is_true.ensures sig ts t vx) c.if-is_true.false, inr (denied (c.is_false.ensures sig ts t vx) c.if-is_false.false, inl (tt, plainly sig ts 15 _ _ _ c.line-2.ensures (t, u, sx, sy, refl)))))
