use Rattle.std.proofs.Common.{inl, inr, sym, ap, ◌∙◌, arith}
use Rattle.std.specs.Prelude.{None}
use Rattle.data_rewriter.proofs.Deciding.{plainly}
use Rattle.data_rewriter.proofs.NumberClauses.{one_decided, one_right, answered, unanswered, computes}
use Rattle.data_theory.specs.Arithmetic as theory
use Rattle.data_theory.specs.Whole.{whole_of}
use Rattle.std.specs.Prelude.{pos}
use Rattle.data_rewriter.proofs.NumberClauses.{number_in, within, one_result}
use Rattle.data_rewriter.proofs.number_lines.one_line.Goals as goal

pub returns-in_default : goal.returns-in_default
returns-in_default g c = λ sig ts o a b t table by sa sb vx.
    one_decided sig ts o a b t None (inr ((λ h. c.in_default.ensures sig ts a t table sa vx h.0 h.2), tt))

pub returns-in_default-apply : goal.returns-in_default-apply
returns-in_default-apply g c = λ sig ts o a b t table by sa sb vx.
    let n = c.in-Some.ensures sig ts a t table sa vx in
    one_decided sig ts o a b t None (inr ((λ h. unanswered _ h.1 c.in_default-apply.ensures (computes by _ _ ∙ (ap (λ z. theory.value_of o z (pos 0)) (number_in n.0 h.2) ∙ h.3)) h.4), tt))

pub returns : goal.returns
returns g c = λ sig ts o a b t table by sa sb vx.
    let n = c.in-Some.ensures sig ts a t table sa vx in
    let v = sym (computes by _ _) ∙ answered _ c.in-Some-apply.value c.in-Some-apply.ensures in
    one_decided sig ts o a b t _ (inl ((whole_of c.in-Some.num, whole_of c.in-Some-apply.value, n.0, v, within c.in-Some-apply.value (omega arith)), plainly sig ts 25 _ (one_result o b t) _ c.line.ensures (b, sb, sym (one_right o b a t _ _ n.0 v))))
