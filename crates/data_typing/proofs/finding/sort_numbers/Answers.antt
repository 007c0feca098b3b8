use Rattle.std.proofs.Common.{rules, length, ap, map}
use Rattle.data_theory.specs.IdTerms.{sort_under}
use Rattle.data_theory.proofs.IdGrowthLemmas.{growth_after_growth_is_growth}
use Rattle.sort_table.specs.NamedSorts.{no_lists}
use Rattle.sort_table.proofs.DeclaringLemmas.{lists_then}
use Rattle.data_typing.specs.declared.flat_sorts.Base.TheVariants as bases
use Rattle.data_typing.specs.Within.{IsFlatWithin}
use Rattle.data_typing.proofs.StepsWithin.{all_get}
use Rattle.data_typing.proofs.SignatureSorts.{not_grown}
use Rattle.data_typing.proofs.FindingLemmas.{named_on, numbers_more, numbers_within}
use Rattle.data_typing.proofs.finding.sort_numbers.Goals as goal

pub loop-flat-init : goal.loop-flat-init
loop-flat-init c = record { means = ap (map (sort_under c.args.sig.now)) c.new-sorts.ensures.items; within = search rules; named = c.requires.named; grown = not_grown c.args.sig.now; added = no_lists }

pub returns-in_err-sort-clause-grown : goal.returns-in_err-sort-clause-grown
returns-in_err-sort-clause-grown c = growth_after_growth_is_growth c.args.sig.now c.loop-flat.sig c.sort_number.new.sig c.loop-flat.invariant.grown c.sort_number.ensures.grown

pub loop-flat-preserved : goal.loop-flat-preserved
loop-flat-preserved c = record {
  means = numbers_more c.loop-flat.sig c.sort_number.new.sig c.sort_number.ensures.grown c.loop-flat.sorts.items c.push.new.self.items c.loop-flat.invariant.within c.args.flats.now c.loop-flat.flat-index c.loop-flat.invariant.means _ c.loop-flat-test.true (search rules) c.in_ok-sort.sort c.in_ok-sort.ensures.means c.in_ok-push.ensures.items;
  within = numbers_within c.loop-flat.sig c.sort_number.new.sig c.sort_number.ensures.grown c.loop-flat.sorts.items c.push.new.self.items c.loop-flat.invariant.within c.in_ok-sort.sort c.in_ok-sort.ensures.within c.in_ok-push.ensures.items;
  named = named_on c.loop-flat.sig c.sort_number.new.sig c.sort_number.ensures.grown c.args.named.now c.loop-flat.invariant.named;
  grown = growth_after_growth_is_growth c.args.sig.now c.loop-flat.sig c.sort_number.new.sig c.loop-flat.invariant.grown c.sort_number.ensures.grown;
  added = lists_then c.args.sig.now c.loop-flat.sig c.sort_number.new.sig c.loop-flat.invariant.added c.sort_number.ensures.added;
}

pub returns-in_err-sort-clause-added : goal.returns-in_err-sort-clause-added
returns-in_err-sort-clause-added c = lists_then c.args.sig.now c.loop-flat.sig c.sort_number.new.sig c.loop-flat.invariant.added c.sort_number.ensures.added

pub sort_number-requires-clause-there : goal.sort_number-requires-clause-there
sort_number-requires-clause-there c = all_get (IsFlatWithin (length c.args.named.now)) c.args.flats.now c.loop-flat.flat-index (record { depth = 0; base = bases.Bool }) c.loop-flat-test.true c.requires.there

pub returns-in_err-push-clause-added : goal.returns-in_err-push-clause-added
returns-in_err-push-clause-added c = lists_then c.args.sig.now c.loop-flat.sig c.sort_number.new.sig c.loop-flat.invariant.added c.sort_number.ensures.added
