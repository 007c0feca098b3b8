use Rattle.std.proofs.Common.{inl, inr, sym, ap, subst}
use Rattle.std.specs.Prelude.{None}
use Rattle.data_rewriter.specs.Standing.{StandsFor}
use Rattle.data_rewriter.proofs.Deciding.{plainly}
use Rattle.data_rewriter.proofs.ListClauses.{head_decided, part}
use Rattle.data_rewriter.proofs.list_lines.head_line.Goals as goal

pub returns-in_default : goal.returns-in_default
returns-in_default c = λ sig ts a t table so vx.
    head_decided sig ts a t None (inr (c.in_default.ensures sig ts a t table so vx, tt))

pub returns : goal.returns
returns c = λ sig ts a t table so vx.
    let p = c.in-Some.ensures sig ts a t table so vx in
    head_decided sig ts a t _ (inl ((p.first, p.rest, p.is), plainly sig ts 40 _ (part t 0) _ c.line.ensures (subst (StandsFor sig ts c.in-Some.parts.first) (ap (λ x. part x 0) (sym p.is)) p.first_is)))
