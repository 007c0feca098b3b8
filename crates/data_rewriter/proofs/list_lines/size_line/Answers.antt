use Rattle.std.proofs.Common.{◌∷◌, [], inl, inr, refl, ap}
use Rattle.std.specs.Prelude.{None}
use Rattle.data_theory.specs.Terms.{natural, positive, size, upcast, arithmetic, successor}
use Rattle.data_theory.specs.Equations.{one, number}
use Rattle.data_rewriter.proofs.Deciding.{plainly, told, denied}
use Rattle.data_rewriter.proofs.ListClauses.{size_decided, part}
use Rattle.data_rewriter.proofs.NumberSorts.{naturals_are}
use Rattle.data_rewriter.proofs.list_lines.size_line.Goals as goal

pub returns-then-is_empty_over : goal.returns-then-is_empty_over
returns-then-is_empty_over c = λ sig ts a t table so fun vx.
    size_decided sig ts a t _ (inl ((told (c.is_empty_over.ensures sig ts a t table so vx) c.if-is_empty_over.true), plainly sig ts 38 _ (number 0) _ c.line.ensures (natural, naturals_are sig table, refl)))

pub returns-in_default : goal.returns-in_default
returns-in_default c = λ sig ts a t table so fun vx.
    size_decided sig ts a t None (inr (denied (c.is_empty_over.ensures sig ts a t table so vx) c.if-is_empty_over.false, inr (c.in_default.ensures sig ts a t table so vx, tt)))

pub returns : goal.returns
returns c = λ sig ts a t table so fun vx.
    let p = c.in-Some.ensures sig ts a t table so vx in
    size_decided sig ts a t _ (inr (denied (c.is_empty_over.ensures sig ts a t table so vx) c.if-is_empty_over.false, inl ((p.first, p.rest, p.is), plainly sig ts 39 _ (one (upcast positive natural) (one (arithmetic successor (natural ∷ []) positive) (one (size a) (part t 1)))) _ c.line-2.ensures (a, p.rest, fun, p.rest_is, ap (λ x. one (upcast positive natural) (one (arithmetic successor (natural ∷ []) positive) (one (size a) (part x 1)))) p.is))))
