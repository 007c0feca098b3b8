use Rattle.std.proofs.Common.{◌≡◌, inl, inr, refl, sym, subst, ◌∙◌}
use Rattle.std.specs.Prelude.{None}
use Rattle.data_theory.specs.Terms.{Term}
use Rattle.data_theory.specs.Equations.{trueᵗ, falseᵗ, !ᵗ◌}
use Rattle.data_rewriter.specs.Views.{IsView}
use Rattle.data_rewriter.proofs.ViewLemmas.{not_true_view, not_false_view, not_not_view}
use Rattle.data_rewriter.specs.Standing.{StandsFor}
use Rattle.data_rewriter.proofs.Deciding.{plainly}
use Rattle.data_rewriter.proofs.TruthClauses.{not_decided, under_not}
use Rattle.data_rewriter.proofs.truth_lines.not_line.Goals as goal

pub returns-in-True : goal.returns-in-True
returns-in-True c = λ sig ts t v.
    let is : t ≡ trueᵗ = subst (IsView sig ts t) c.in-True.is v in
    not_decided sig ts t _ (inl (is, plainly sig ts 0 _ falseᵗ _ c.line.ensures refl))

pub returns-in-False : goal.returns-in-False
returns-in-False c = λ sig ts t v.
    let is : t ≡ falseᵗ = subst (IsView sig ts t) c.in-False.is v in
    not_decided sig ts t _ (inr ((λ e. let a = sym e ∙ is in cc), inl (is, plainly sig ts 1 _ trueᵗ _ c.line-in-False.ensures refl)))

pub returns-in-Not : goal.returns-in-Not
returns-in-Not c = λ sig ts t v.
    let is : (y : Term) × StandsFor sig ts c.in-Not.y y × (t ≡ !ᵗ y) = subst (IsView sig ts t) c.in-Not.is v in
    not_decided sig ts t _ (inr ((λ e. let a = sym e ∙ is.2 in cc), inr ((λ e. let a = sym e ∙ is.2 in cc), inl ((is.0, is.2), plainly sig ts 2 _ _ _ c.line-in-Not.ensures (subst (λ x. StandsFor sig ts c.in-Not.y (under_not x)) (sym is.2) is.1)))))

pub returns-in_default : goal.returns-in_default
returns-in_default c = λ sig ts t v.
    not_decided sig ts t None (inr (not_true_view sig ts t c.args.x c.in_default.not-True v, inr (not_false_view sig ts t c.args.x c.in_default.not-False v, inr ((λ e. not_not_view sig ts t c.args.x e.0 c.in_default.not-Not v e.1), tt))))
