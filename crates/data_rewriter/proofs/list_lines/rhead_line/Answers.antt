use Rattle.std.proofs.Common.{inl, inr, sym, ap, ◌∙◌, subst}
use Rattle.std.specs.Prelude.{None}
use Rattle.data_theory.specs.Terms.{rhead}
use Rattle.data_theory.specs.Equations.{one, emptyᵗ, consᵗ}
use Rattle.data_rewriter.specs.Standing.{StandsFor}
use Rattle.data_rewriter.proofs.Deciding.{plainly, told, denied}
use Rattle.data_rewriter.proofs.ListClauses.{rhead_decided, part}
use Rattle.data_rewriter.proofs.ListClauses.{not_one_is, not_more_is}
use Rattle.data_rewriter.proofs.list_lines.rhead_line.Goals as goal

pub returns-in_default : goal.returns-in_default
returns-in_default c = λ sig ts a t table so fun vx vr.
    rhead_decided sig ts a t None (inr ((λ h. c.in_default.ensures sig ts a t table so vx (h.0, emptyᵗ a, h.1)), inr ((λ h. c.in_default.ensures sig ts a t table so vx (h.0, consᵗ a h.1 h.2, h.3)), tt)))

pub returns-then-is_empty_over : goal.returns-then-is_empty_over
returns-then-is_empty_over c = λ sig ts a t table so fun vx vr.
    let p = c.in-Some.ensures sig ts a t table so vx in
    let v = vr p.first p.rest p.is in
    let e = told (c.is_empty_over.ensures sig ts a p.rest table so v) c.if-is_empty_over.true in
    rhead_decided sig ts a t _ (inl ((p.first, p.is ∙ ap (consᵗ a p.first) e), plainly sig ts 42 _ (part t 0) _ c.line.ensures (subst (StandsFor sig ts c.in-Some.parts.first) (ap (λ x. part x 0) (sym p.is)) p.first_is)))

pub returns-in_default-parts_over : goal.returns-in_default-parts_over
returns-in_default-parts_over c = λ sig ts a t table so fun vx vr.
    let p = c.in-Some.ensures sig ts a t table so vx in
    let v = vr p.first p.rest p.is in
    rhead_decided sig ts a t None (inr (not_one_is a t p.first p.rest p.is (denied (c.is_empty_over.ensures sig ts a p.rest table so v) c.if-is_empty_over.false), inr (not_more_is a t p.first p.rest p.is (c.in_default-parts_over.ensures sig ts a p.rest table so v), tt)))

pub returns : goal.returns
returns c = λ sig ts a t table so fun vx vr.
    let p = c.in-Some.ensures sig ts a t table so vx in
    let v = vr p.first p.rest p.is in
    let q = c.in-Some-parts_over.ensures sig ts a p.rest table so v in
    rhead_decided sig ts a t _ (inr (not_one_is a t p.first p.rest p.is (denied (c.is_empty_over.ensures sig ts a p.rest table so v) c.if-is_empty_over.false), inl ((p.first, q.first, q.rest, p.is ∙ ap (consᵗ a p.first) q.is), plainly sig ts 43 _ (one (rhead a) (part t 1)) _ c.line-2.ensures (rhead a, p.rest, fun, p.rest_is, ap (λ x. one (rhead a) (part x 1)) p.is))))
