use Rattle.std.proofs.Common.{inl, inr, sym, ap, ◌∙◌}
use Rattle.std.specs.Prelude.{None}
use Rattle.data_theory.specs.Terms.{integer, numeral}
use Rattle.data_rewriter.proofs.Deciding.{plainly}
use Rattle.data_rewriter.proofs.NumberClauses.{minus_decided, minus_right, whole_in}
use lib.IntN.{neg_ℤ}
use Rattle.data_theory.specs.Whole.{whole_of}
use Rattle.data_rewriter.proofs.NumberSorts.{integers_are}
use Rattle.data_rewriter.proofs.number_lines.minus_line.Goals as goal

pub returns-in_default : goal.returns-in_default
returns-in_default c = λ sig ts a t table so vx.
    minus_decided sig ts a t None (inr ((λ h. c.in_default.ensures sig ts a t table so vx h.0 h.1), tt))

pub returns : goal.returns
returns c = λ sig ts a t table so vx.
    let n = c.in-Some.ensures sig ts a t table so vx in
    minus_decided sig ts a t _ (inl ((whole_of c.in-Some.num, n.0, n.1), plainly sig ts 27 _ (numeral integer (neg_ℤ (whole_in t))) _ c.line.ensures (integer, integers_are sig table, sym (minus_right a t _ n.0) ∙ ap (numeral integer) (sym c.negated.ensures))))
