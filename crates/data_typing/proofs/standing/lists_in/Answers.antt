use Rattle.std.proofs.Common.{◌≡◌, ◌+◌, suc, ap, ◌∙◌, arith}
use Rattle.data_theory.specs.Terms.{list}
use Rattle.data_theory.specs.IdTerms.{sort_under}
use Rattle.data_typing.specs.FlatSorts.{lists}
use Rattle.data_typing.proofs.SignatureSorts.{not_grown, list_meant, list_within}
use Rattle.data_typing.proofs.StandingLemmas.{no_lists_in}
use Rattle.data_typing.proofs.standing.lists_in.Goals as goal

pub returns-in_default-clause-absent : goal.returns-in_default-clause-absent
returns-in_default-clause-absent c = λ none.
    no_lists_in c.args.sig.now c.next_sort.ensures.stands c.args.depth c.loop-step._step c.args.base c.loop-step.sort c.loop-step-test.true c.loop-step.invariant.within c.loop-step.invariant.meant c.in_default.ensures

pub loop-step-preserved : goal.loop-step-preserved
loop-step-preserved c = record {
  meant = list_meant c.args.sig.now c.args.sig.now c.loop-step.sort c.in-Some.list c.next_sort.ensures.stands (not_grown c.args.sig.now) c.loop-step.invariant.within c.in-Some.ensures ∙ ap list c.loop-step.invariant.meant
      ∙ ap (λ k. lists k (sort_under c.args.sig.now c.args.base)) (let same : suc c.loop-step._step ≡ c.loop-step._step + 1 = omega arith in same);
  within = list_within c.args.sig.now c.loop-step.sort c.in-Some.list c.in-Some.ensures;
}
