use Rattle.std.proofs.Common.{inl, inr, ap}
use Rattle.std.specs.Prelude.{None}
use Rattle.data_theory.specs.Terms.{cons, concatenation}
use Rattle.data_theory.specs.Equations.{two, consᵗ}
use Rattle.data_rewriter.proofs.Deciding.{plainly, told, denied}
use Rattle.data_rewriter.proofs.ListClauses.{concat_decided, part}
use Rattle.data_rewriter.proofs.list_lines.concat_line.Goals as goal

pub returns-then-is_empty_over : goal.returns-then-is_empty_over
returns-then-is_empty_over c = λ sig ts a t u table so fun sx sy vx vy.
    concat_decided sig ts a t u _ (inl ((told (c.is_empty_over.ensures sig ts a t table so vx) c.if-is_empty_over.true), plainly sig ts 33 _ u _ c.line.ensures sy))

pub returns-then-is_empty_over-2 : goal.returns-then-is_empty_over-2
returns-then-is_empty_over-2 c = λ sig ts a t u table so fun sx sy vx vy.
    concat_decided sig ts a t u _ (inr (denied (c.is_empty_over.ensures sig ts a t table so vx) c.if-is_empty_over.false, inl ((told (c.is_empty_over-2.ensures sig ts a u table so vy) c.if-is_empty_over-2.true), plainly sig ts 34 _ t _ c.line-then-is_empty_over-2.ensures sx)))

pub returns-in_default : goal.returns-in_default
returns-in_default c = λ sig ts a t u table so fun sx sy vx vy.
    concat_decided sig ts a t u None (inr (denied (c.is_empty_over.ensures sig ts a t table so vx) c.if-is_empty_over.false, inr (denied (c.is_empty_over-2.ensures sig ts a u table so vy) c.if-is_empty_over-2.false, inr (c.in_default.ensures sig ts a t table so vx, tt))))

pub returns : goal.returns
returns c = λ sig ts a t u table so fun sx sy vx vy.
    let p = c.in-Some.ensures sig ts a t table so vx in
    concat_decided sig ts a t u _ (inr (denied (c.is_empty_over.ensures sig ts a t table so vx) c.if-is_empty_over.false, inr (denied (c.is_empty_over-2.ensures sig ts a u table so vy) c.if-is_empty_over-2.false, inl ((p.first, p.rest, p.is), plainly sig ts 35 _ (consᵗ a (part t 0) (two (concatenation a) (part t 1) u)) _ c.line-2.ensures (cons a, concatenation a, p.first, p.rest, u, p.cons, fun, p.first_is, p.rest_is, sy, ap (λ x. consᵗ a (part x 0) (two (concatenation a) (part x 1) u)) p.is)))))
