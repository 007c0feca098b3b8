use Rattle.std.proofs.Common.{inl, inr, sym, ◌∙◌, arith}
use Rattle.std.specs.Prelude.{None}
use Rattle.data_rewriter.proofs.Deciding.{plainly}
use Rattle.data_rewriter.proofs.NumberClauses.{two_decided, two_right, answered, unanswered, computes}
use Rattle.data_theory.specs.Arithmetic as theory
use Rattle.data_theory.specs.Whole.{whole_of}
use Rattle.data_rewriter.proofs.NumberClauses.{number_in, within, two_result}
use Rattle.data_rewriter.proofs.number_lines.two_line.Goals as goal

pub returns-in_default : goal.returns-in_default
returns-in_default g c = λ sig ts o a b d t u table by sa sb sd vx vy.
    two_decided sig ts o a b d t u None (inr ((λ h. c.in_default.ensures sig ts a t table sa vx h.0 h.3), tt))

pub returns-in_default-number_over : goal.returns-in_default-number_over
returns-in_default-number_over g c = λ sig ts o a b d t u table by sa sb sd vx vy.
    two_decided sig ts o a b d t u None (inr ((λ h. c.in_default-number_over.ensures sig ts b u table sb vy h.1 h.4), tt))

pub returns-in_default-apply : goal.returns-in_default-apply
returns-in_default-apply g c = λ sig ts o a b d t u table by sa sb sd vx vy.
    let m = c.in-Some.ensures sig ts a t table sa vx in
    let n = c.in-Some-number_over.ensures sig ts b u table sb vy in
    two_decided sig ts o a b d t u None (inr ((λ h. unanswered _ h.2 c.in_default-apply.ensures (computes by _ _ ∙ ((λ i. theory.value_of o (number_in m.0 h.3 i) (number_in n.0 h.4 i)) ∙ h.5)) h.6), tt))

pub returns : goal.returns
returns g c = λ sig ts o a b d t u table by sa sb sd vx vy.
    let m = c.in-Some.ensures sig ts a t table sa vx in
    let n = c.in-Some-number_over.ensures sig ts b u table sb vy in
    let v = sym (computes by _ _) ∙ answered _ c.in-Some-apply.value c.in-Some-apply.ensures in
    two_decided sig ts o a b d t u _ (inl ((whole_of c.in-Some.first, whole_of c.in-Some-number_over.second, whole_of c.in-Some-apply.value, m.0, n.0, v, within c.in-Some-apply.value (omega arith)), plainly sig ts 26 _ (two_result o d t u) _ c.line.ensures (d, sd, sym (two_right o d a b t u _ _ _ m.0 n.0 v))))
