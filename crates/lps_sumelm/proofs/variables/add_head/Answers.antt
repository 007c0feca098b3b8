use Rattle.std.proofs.Common.{inl, inr, ⊎_elim, ap, ◌∙◌, sym}
use Rattle.term_pool.specs.declared.terms.Head.TheVariants.{Var}
use Rattle.term_pool.proofs.InsertedTerms.{HasToo}
use Rattle.lps_sumelm.proofs.AddedVariables.{has_key}
use Rattle.lps_sumelm.proofs.OccurringLemmas.{same_variable}
use Rattle.lps_sumelm.proofs.variables.add_head.Goals as goal

pub returns-in_ok-insert : goal.returns-in_ok-insert
returns-in_ok-insert c v =
    let has : HasToo c.args.set.now.keys c.in-Var.var c.insert.new.self.keys = rw (c.in_ok-insert.ensures.keys) (has_key c.args.set.now.keys c.in-Var.var) in (
      λ k. ⊎_elim (λ i. inl i) (λ e. inr (c.in-Var.is ∙ ap Var e)) ((has v).0 k),
      λ u. (has v).1 (⊎_elim (λ i. inl i) (λ e. inr (same_variable c.in-Var.var v (sym c.in-Var.is ∙ e))) u),
    )
