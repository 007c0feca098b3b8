use Rattle.std.proofs.Common.{◌<◌, inl, inr, ◌∷◌, [], List, ℕ, get_or, sym, subst}
use Rattle.std.specs.List.{Contains}
use Rattle.std.proofs.lemmas.List.Elements.{Contains-append_cases}
use Rattle.graphs.proofs.Marks.{only_one}
use Rattle.call_cases.proofs.questions.nodes_below.Goals as goal

pub loop-number-preserved : goal.loop-number-preserved
loop-number-preserved c = λ a stands.
    elim (Contains-append_cases _ (get_or c.args.numbers.now c.loop-number.number-index 0 ∷ []) a (subst (λ (l : List ℕ). Contains l a) c.in_ok-push.ensures.items stands)) [
      | inl before ↦ c.loop-number.invariant a before
      | inr last ↦ subst (λ (n : ℕ). n < c.args.count) (sym (only_one _ a last)) c.if-number-count.false
    ]
