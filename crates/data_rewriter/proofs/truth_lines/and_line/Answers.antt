use Rattle.std.proofs.Common.{inl, inr, subst}
use Rattle.std.specs.Prelude.{None}
use Rattle.data_rewriter.specs.Standing.{StandsFor}
use Rattle.data_rewriter.proofs.Deciding.{plainly, told, denied}
use Rattle.data_rewriter.proofs.TruthClauses.{and_decided}
use Rattle.data_rewriter.proofs.truth_lines.and_line.Goals as goal

pub returns-then-is_true : goal.returns-then-is_true
returns-then-is_true c = λ sig ts t u sx sy vx vy same.
    and_decided sig ts t u _ (inl ((told (c.is_true.ensures sig ts t vx) c.if-is_true.true), plainly sig ts 3 _ u _ c.line.ensures sy))

pub returns-then-is_true-2 : goal.returns-then-is_true-2
returns-then-is_true-2 c = λ sig ts t u sx sy vx vy same.
    and_decided sig ts t u _ (inr (denied (c.is_true.ensures sig ts t vx) c.if-is_true.false, inl ((told (c.is_true-2.ensures sig ts u vy) c.if-is_true-2.true), plainly sig ts 4 _ t _ c.line-then-is_true-2.ensures sx)))

pub returns-then-is_false : goal.returns-then-is_false
returns-then-is_false c = λ sig ts t u sx sy vx vy same.
    and_decided sig ts t u _ (inr (denied (c.is_true.ensures sig ts t vx) c.if-is_true.false, inr (denied (c.is_true-2.ensures sig ts u vy) c.if-is_true-2.false, inl ((told (c.is_false.ensures sig ts t vx) c.if-is_false.true), plainly sig ts 5 _ _ _ c.line-then-is_false.ensures (subst (StandsFor sig ts c.args.x) (told (c.is_false.ensures sig ts t vx) c.if-is_false.true) sx)))))

pub returns-then-is_false-2 : goal.returns-then-is_false-2
returns-then-is_false-2 c = λ sig ts t u sx sy vx vy same.
    and_decided sig ts t u _ (inr (denied (c.is_true.ensures sig ts t vx) c.if-is_true.false, inr (denied (c.is_true-2.ensures sig ts u vy) c.if-is_true-2.false, inr (denied (c.is_false.ensures sig ts t vx) c.if-is_false.false, inl ((told (c.is_false-2.ensures sig ts u vy) c.if-is_false-2.true), plainly sig ts 6 _ _ _ c.line-then-is_false-2.ensures (subst (StandsFor sig ts c.args.y) (told (c.is_false-2.ensures sig ts u vy) c.if-is_false-2.true) sy))))))

pub returns-then-same : goal.returns-then-same
returns-then-same c = λ sig ts t u sx sy vx vy same.
    and_decided sig ts t u _ (inr (denied (c.is_true.ensures sig ts t vx) c.if-is_true.false, inr (denied (c.is_true-2.ensures sig ts u vy) c.if-is_true-2.false, inr (denied (c.is_false.ensures sig ts t vx) c.if-is_false.false, inr (denied (c.is_false-2.ensures sig ts u vy) c.if-is_false-2.false, inl ((told same c.if-same.true), plainly sig ts 7 _ t _ c.line-then-same.ensures sx))))))

pub returns : goal.returns
returns c = λ sig ts t u sx sy vx vy same.
    and_decided sig ts t u None (inr (denied (c.is_true.ensures sig ts t vx) c.if-is_true.false, inr (denied (c.is_true-2.ensures sig ts u vy) c.if-is_true-2.false, inr (denied (c.is_false.ensures sig ts t vx) c.if-is_false.false, inr (denied (c.is_false-2.ensures sig ts u vy) c.if-is_false-2.false, inr (denied same c.if-same.false, tt))))))
