use Rattle.std.proofs.Common.{inl, inr}
use Rattle.std.specs.Prelude.{None}
use Rattle.data_theory.specs.Equations.{truth_of}
use Rattle.data_rewriter.proofs.Deciding.{plainly}
use Rattle.data_rewriter.proofs.NumberClauses.{compare_decided, compare_right, whole_in}
use Rattle.data_theory.specs.Whole.{whole_of}
use Rattle.data_theory.specs.Arithmetic.{compares}
use Rattle.data_rewriter.specs.Signs.{comparison_of}
use Rattle.data_rewriter.proofs.number_lines.compare_line.Goals as goal

pub returns-in_default : goal.returns-in_default
returns-in_default c = λ sig ts a t u table so vx vy.
    compare_decided sig ts (comparison_of c.args.sign) a t u None (inr ((λ h. c.in_default.ensures sig ts a t table so vx h.0 h.2), tt))

pub returns-in_default-number_over : goal.returns-in_default-number_over
returns-in_default-number_over c = λ sig ts a t u table so vx vy.
    compare_decided sig ts (comparison_of c.args.sign) a t u None (inr ((λ h. c.in_default-number_over.ensures sig ts a u table so vy h.1 h.3), tt))

pub returns : goal.returns
returns c = λ sig ts a t u table so vx vy.
    let m = c.in-Some.ensures sig ts a t table so vx in
    let n = c.in-Some-number_over.ensures sig ts a u table so vy in
    compare_decided sig ts (comparison_of c.args.sign) a t u _ (inl ((whole_of c.in-Some.first, whole_of c.in-Some-number_over.second, m.0, n.0), plainly sig ts 28 _ (truth_of (compares (comparison_of c.args.sign) (whole_in t) (whole_in u))) _ c.line.ensures (compare_right (comparison_of c.args.sign) a t u _ _ c.compare.result m.0 n.0 c.compare.ensures)))
