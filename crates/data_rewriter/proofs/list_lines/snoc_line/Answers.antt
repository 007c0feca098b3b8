use Rattle.std.proofs.Common.{inl, inr, refl, ap, subst}
use Rattle.std.specs.Prelude.{None}
use Rattle.data_theory.specs.Terms.{cons, snoc}
use Rattle.data_theory.specs.Equations.{two, emptyᵗ, consᵗ}
use Rattle.data_rewriter.specs.Standing.{StandsFor}
use Rattle.data_rewriter.proofs.Deciding.{plainly, told, denied}
use Rattle.data_rewriter.proofs.ListClauses.{snoc_decided, part}
use Rattle.data_rewriter.proofs.list_lines.snoc_line.Goals as goal

pub returns-then-is_empty_over : goal.returns-then-is_empty_over
returns-then-is_empty_over c = λ sig ts a t u table so fun con sx sy vx.
    let e = (told (c.is_empty_over.ensures sig ts a t table so vx) c.if-is_empty_over.true) in
    snoc_decided sig ts a t u _ (inl (e, plainly sig ts 36 _ (consᵗ a u (emptyᵗ a)) _ c.line.ensures (cons a, u, emptyᵗ a, con, sy, subst (StandsFor sig ts c.args.x) e sx, refl)))

pub returns-in_default : goal.returns-in_default
returns-in_default c = λ sig ts a t u table so fun con sx sy vx.
    snoc_decided sig ts a t u None (inr (denied (c.is_empty_over.ensures sig ts a t table so vx) c.if-is_empty_over.false, inr (c.in_default.ensures sig ts a t table so vx, tt)))

pub returns : goal.returns
returns c = λ sig ts a t u table so fun con sx sy vx.
    let p = c.in-Some.ensures sig ts a t table so vx in
    snoc_decided sig ts a t u _ (inr (denied (c.is_empty_over.ensures sig ts a t table so vx) c.if-is_empty_over.false, inl ((p.first, p.rest, p.is), plainly sig ts 37 _ (consᵗ a (part t 0) (two (snoc a) (part t 1) u)) _ c.line-2.ensures (cons a, snoc a, p.first, p.rest, u, p.cons, fun, p.first_is, p.rest_is, sy, ap (λ x. consᵗ a (part x 0) (two (snoc a) (part x 1) u)) p.is))))
