use Rattle.std.proofs.Common.{arith}
use Rattle.sort_table.specs.IndexedKinds.{kinds_of_index}
use Rattle.sort_table.specs.DeclaringSorts.{OwnIsNamed}
use Rattle.sort_table.proofs.DeclaringLemmas.{goes_nowhere, goes_further, below_step}
use Rattle.sort_table.proofs.sort_declaring.SortNames.add_own_sorts.Goals as goal

pub loop-place-init : goal.loop-place-init
loop-place-init c = record {
  on = goes_nowhere (kinds_of_index c.args.self.now.index) c.args.self.now.ids.items c.args.signature.now c.requires;
  named = λ p l. absurd (omega (arith, l));
}

pub loop-place-preserved : goal.loop-place-preserved
loop-place-preserved c = record {
  on = goes_further (kinds_of_index c.args.self.now.index) c.args.self.now.ids.items c.args.signature.now c.loop-place.signature c.add_own_sort.new.signature c.loop-place.invariant.on c.in_ok-add_own_sort.ensures.goes_on;
  named = below_step (λ p. OwnIsNamed (kinds_of_index c.args.self.now.index) p c.add_own_sort.new.signature) c.loop-place.place
      (λ p l n k first own. c.in_ok-add_own_sort.ensures.goes_on.keeps n (c.loop-place.invariant.named p l n k first own)) c.in_ok-add_own_sort.ensures.named;
}

pub returns-clause-named : goal.returns-clause-named
returns-clause-named c = λ p l n k first own. c.loop-place.invariant.named p (omega (arith, l, c.len-place-end.ensures)) n k first own
