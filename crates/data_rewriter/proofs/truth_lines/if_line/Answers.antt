use Rattle.std.proofs.Common.{inl, inr}
use Rattle.std.specs.Prelude.{None}
use Rattle.data_rewriter.proofs.Deciding.{plainly, told, denied}
use Rattle.data_rewriter.proofs.TruthClauses.{if_decided}
use Rattle.data_rewriter.proofs.truth_lines.if_line.Goals as goal

pub returns-then-is_true : goal.returns-then-is_true
returns-then-is_true c = λ sig ts a b t u vb sx sy same.
    if_decided sig ts a b t u _ (inl ((told (c.is_true.ensures sig ts b vb) c.if-is_true.true), plainly sig ts 18 _ t _ c.line.ensures sx))

pub returns-then-is_false : goal.returns-then-is_false
returns-then-is_false c = λ sig ts a b t u vb sx sy same.
    if_decided sig ts a b t u _ (inr (denied (c.is_true.ensures sig ts b vb) c.if-is_true.false, inl ((told (c.is_false.ensures sig ts b vb) c.if-is_false.true), plainly sig ts 19 _ u _ c.line-then-is_false.ensures sy)))

pub returns-then-same : goal.returns-then-same
returns-then-same c = λ sig ts a b t u vb sx sy same.
    if_decided sig ts a b t u _ (inr (denied (c.is_true.ensures sig ts b vb) c.if-is_true.false, inr (denied (c.is_false.ensures sig ts b vb) c.if-is_false.false, inl ((told same c.if-same.true), plainly sig ts 20 _ t _ c.line-then-same.ensures sx))))

pub returns : goal.returns
returns c = λ sig ts a b t u vb sx sy same.
    if_decided sig ts a b t u None (inr (denied (c.is_true.ensures sig ts b vb) c.if-is_true.false, inr (denied (c.is_false.ensures sig ts b vb) c.if-is_false.false, inr (denied same c.if-same.false, tt))))
