use Rattle.std.proofs.Common.{◌≡◌, ◌+◌, suc, refl, ap, ◌∙◌, arith}
use Rattle.data_theory.specs.Terms.{list}
use Rattle.data_theory.specs.IdTerms.{sort_under}
use Rattle.data_theory.proofs.IdGrowthLemmas.{growth_after_growth_is_growth}
use Rattle.sort_table.specs.NamedSorts.{no_lists}
use Rattle.sort_table.proofs.DeclaringLemmas.{lists_then}
use Rattle.data_typing.specs.FlatSorts.{lists}
use Rattle.data_typing.proofs.SignatureSorts.{not_grown}
use Rattle.data_typing.proofs.sort_tables.lists_over_sort.Goals as goal

pub loop-step-init : goal.loop-step-init
loop-step-init c = record { meant = refl; within = c.requires; grown = not_grown c.args.sig.now; added = no_lists }

pub loop-step-preserved : goal.loop-step-preserved
loop-step-preserved c = record {
  meant = c.in_ok-sort.ensures.meant ∙ ap list c.loop-step.invariant.meant ∙ ap (λ k. lists k (sort_under c.args.sig.now c.args.base)) (let same : suc c.loop-step._step ≡ c.loop-step._step + 1 = omega arith in same);
  within = c.in_ok-sort.ensures.within;
  grown = growth_after_growth_is_growth c.args.sig.now c.loop-step.sig c.list_over_sort.new.sig c.loop-step.invariant.grown c.list_over_sort.ensures.grown;
  added = lists_then c.args.sig.now c.loop-step.sig c.list_over_sort.new.sig c.loop-step.invariant.added c.list_over_sort.ensures.added;
}

pub returns-in_err-sort-clause-grown : goal.returns-in_err-sort-clause-grown
returns-in_err-sort-clause-grown c = growth_after_growth_is_growth c.args.sig.now c.loop-step.sig c.list_over_sort.new.sig c.loop-step.invariant.grown c.list_over_sort.ensures.grown

pub returns-in_err-sort-clause-added : goal.returns-in_err-sort-clause-added
returns-in_err-sort-clause-added c = lists_then c.args.sig.now c.loop-step.sig c.list_over_sort.new.sig c.loop-step.invariant.added c.list_over_sort.ensures.added
