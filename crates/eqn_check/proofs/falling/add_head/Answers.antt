use Rattle.std.proofs.Common.{◌≡◌, inl, inr, ⊎_elim, ap, ◌∙◌, sym}
use Rattle.data_theory.specs.declared.ids.VarId.{VarId}
use Rattle.term_pool.specs.declared.terms.Head.TheVariants.{Var}
use Rattle.eqn_check.proofs.falling.add_head.Goals as goal

same_variable : (x y : VarId) → Var x ≡ Var y → x ≡ y
same_variable x y e = cc

pub returns-in_ok-insert : goal.returns-in_ok-insert
returns-in_ok-insert c v = (
  (λ k. ⊎_elim (λ i. inl i) (λ e. inr (c.in-Var.is ∙ ap Var e)) ((c.in_ok-insert.ensures v).0 k)),
  (λ u. (c.in_ok-insert.ensures v).1 (⊎_elim (λ i. inl i) (λ e. inr (same_variable c.in-Var.var v (sym c.in-Var.is ∙ e))) u)),
)
