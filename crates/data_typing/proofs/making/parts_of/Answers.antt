use Rattle.std.proofs.Common.{rules, ◌<◌, ap, sym, subst, arith, length}
use Rattle.data_theory.specs.IdTerms.{symbol_under}
use Rattle.data_theory.proofs.IdGrowthLemmas.{growth_after_growth_is_growth}
use Rattle.data_theory.proofs.IdSymbolLemmas.{growth_keeps_meant_symbols}
use Rattle.sort_table.specs.NamedSorts.{no_lists}
use Rattle.sort_table.proofs.DeclaringLemmas.{lists_then}
use Rattle.data_typing.specs.CodeParts.{part_items}
use Rattle.data_typing.specs.CodeSteps.{IsStepWithin}
use Rattle.data_typing.proofs.StepsWithin.{all_read}
use Rattle.data_typing.proofs.SignatureSorts.{not_grown}
use Rattle.data_typing.proofs.FindingLemmas.{named_on}
use Rattle.data_typing.proofs.MakingLemmas.{functions_no_fewer, parts_more, parts_within}
use Rattle.data_typing.proofs.making.parts_of.Goals as goal

pub loop-step-init : goal.loop-step-init
loop-step-init c = record { mean = ap (part_items c.args.sig.now) c.new-parts.ensures.items; within = search rules; named = c.requires.named; grown = not_grown c.args.sig.now; added = no_lists }

pub part_of-requires-clause-count : goal.part_of-requires-clause-count
part_of-requires-clause-count c = let more = functions_no_fewer c.args.sig.now c.loop-step.sig c.loop-step.invariant.grown in omega (arith, more, c.fun_count-count.ensures)

pub returns-in_err-part-clause-grown : goal.returns-in_err-part-clause-grown
returns-in_err-part-clause-grown c = growth_after_growth_is_growth c.args.sig.now c.loop-step.sig c.part_of.new.sig c.loop-step.invariant.grown c.part_of.ensures.grown

pub loop-step-preserved : goal.loop-step-preserved
loop-step-preserved c = record {
  mean = parts_more c.loop-step.sig c.part_of.new.sig c.next_sort-in-loop-step.ensures.stands.table c.part_of.ensures.grown (symbol_under c.args.sig.now) c.loop-step.parts.items c.push.new.self.items c.loop-step.invariant.within c.args.steps.now c.loop-step.step-index c.loop-step.invariant.mean c.step-item.result c.loop-step-test.true c.step-item.is c.in_ok-part.part
      (c.in_ok-part.ensures.means (symbol_under c.args.sig.now) (λ k l. sym (growth_keeps_meant_symbols c.args.sig.now c.loop-step.sig c.next_sort.ensures.stands.table c.loop-step.invariant.grown k (let less : k.0 < length c.args.sig.now.functions = omega (arith, l, c.fun_count-count.ensures) in less)))) c.in_ok-push.ensures.items;
  within = parts_within c.loop-step.sig c.part_of.new.sig c.part_of.ensures.grown c.loop-step.parts.items c.push.new.self.items c.loop-step.invariant.within c.in_ok-part.part c.in_ok-part.ensures.within c.in_ok-push.ensures.items;
  named = named_on c.loop-step.sig c.part_of.new.sig c.part_of.ensures.grown c.args.named.now c.loop-step.invariant.named;
  grown = growth_after_growth_is_growth c.args.sig.now c.loop-step.sig c.part_of.new.sig c.loop-step.invariant.grown c.part_of.ensures.grown;
  added = lists_then c.args.sig.now c.loop-step.sig c.part_of.new.sig c.loop-step.invariant.added c.part_of.ensures.added;
}

pub returns-in_err-part-clause-added : goal.returns-in_err-part-clause-added
returns-in_err-part-clause-added c = lists_then c.args.sig.now c.loop-step.sig c.part_of.new.sig c.loop-step.invariant.added c.part_of.ensures.added

pub returns-in_err-push-clause-added : goal.returns-in_err-push-clause-added
returns-in_err-push-clause-added c = lists_then c.args.sig.now c.loop-step.sig c.part_of.new.sig c.loop-step.invariant.added c.part_of.ensures.added

pub part_of-requires-clause-there : goal.part_of-requires-clause-there
part_of-requires-clause-there c =
    subst (λ n. IsStepWithin (length c.args.named.now) n c.step-item.result) (sym c.fun_count-count.ensures)
    (all_read (IsStepWithin (length c.args.named.now) (length c.args.sig.now.functions)) c.args.steps.now c.loop-step.step-index c.step-item.result c.loop-step-test.true c.step-item.is c.requires.there)
