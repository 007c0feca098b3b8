use Rattle.std.proofs.Common.{inl, inr, refl, ap}
use Rattle.std.specs.Prelude.{None}
use Rattle.data_theory.specs.Terms.{membership, equality}
use Rattle.data_theory.specs.Equations.{two, falseᵗ, ◌∨ᵗ◌, equals}
use Rattle.data_rewriter.proofs.Deciding.{plainly, told, denied}
use Rattle.data_rewriter.proofs.ListClauses.{in_decided, part}
use Rattle.data_rewriter.proofs.list_lines.in_line.Goals as goal

pub returns-then-is_empty_over : goal.returns-then-is_empty_over
returns-then-is_empty_over c = λ sig ts a t u table so fun eq sx vy.
    in_decided sig ts a t u _ (inl ((told (c.is_empty_over.ensures sig ts a u table so vy) c.if-is_empty_over.true), plainly sig ts 48 _ falseᵗ _ c.line.ensures refl))

pub returns-in_default : goal.returns-in_default
returns-in_default c = λ sig ts a t u table so fun eq sx vy.
    in_decided sig ts a t u None (inr (denied (c.is_empty_over.ensures sig ts a u table so vy) c.if-is_empty_over.false, inr (c.in_default.ensures sig ts a u table so vy, tt)))

pub returns : goal.returns
returns c = λ sig ts a t u table so fun eq sx vy.
    let p = c.in-Some.ensures sig ts a u table so vy in
    in_decided sig ts a t u _ (inr (denied (c.is_empty_over.ensures sig ts a u table so vy) c.if-is_empty_over.false, inl ((p.first, p.rest, p.is), plainly sig ts 49 _ (equals a t (part u 0) ∨ᵗ two (membership a) t (part u 1)) _ c.line-2.ensures (equality a, membership a, t, p.first, t, p.rest, eq, fun, sx, p.first_is, sx, p.rest_is, ap (λ x. equals a t (part x 0) ∨ᵗ two (membership a) t (part x 1)) p.is))))
