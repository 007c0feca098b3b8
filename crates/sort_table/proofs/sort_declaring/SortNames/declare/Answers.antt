use Rattle.std.proofs.Common.{sym, subst}
use Rattle.sort_table.specs.IndexedKinds.{kinds_of_index}
use Rattle.sort_table.specs.DeclaringSorts.{AreLevels}
use Rattle.sort_table.proofs.DeclaringLemmas.{starts, goes_further, all_named, have_names, reads}
use Rattle.sort_table.proofs.sort_declaring.SortNames.declare.Goals as goal

pub add_own_sorts-requires : goal.add_own_sorts-requires
add_own_sorts-requires c = starts (kinds_of_index c.args.self.now.index) c.args.self.now.ids.items c.args.signature.now c.requires.ids c.requires.no_names c.requires.no_sorts

pub add_levels-requires-clause-state : goal.add_levels-requires-clause-state
add_levels-requires-clause-state c = c.in_ok-add_own_sorts.ensures.goes_on.state

pub add_levels-requires-clause-levels : goal.add_levels-requires-clause-levels
add_levels-requires-clause-levels c = subst (AreLevels (kinds_of_index c.args.self.now.index)) (sym c.as_slice.ensures.value) c.in_ok-levels.ensures

pub returns-clause-sorts : goal.returns-clause-sorts
returns-clause-sorts c = λ ds same.
    let ks = kinds_of_index c.args.self.now.index in
    let h = c.add_levels.new.signature in
    have_names ks c.args.self.now.ids.items h c.requires.sound c.in_ok-add_levels.ensures.goes_on.state
    (all_named ks h (λ p l n k first own. c.in_ok-add_levels.ensures.goes_on.keeps n (c.in_ok-add_own_sorts.ensures.named p l n k first own)) c.in_ok-add_levels.ensures.named) ds same

pub returns-clause-added : goal.returns-clause-added
returns-clause-added c =
    (goes_further (kinds_of_index c.args.self.now.index) c.args.self.now.ids.items c.args.signature.now c.add_own_sorts.new.signature c.add_levels.new.signature c.in_ok-add_own_sorts.ensures.goes_on c.in_ok-add_levels.ensures.goes_on).adds

pub returns-clause-reads : goal.returns-clause-reads
returns-clause-reads c = reads (kinds_of_index c.args.self.now.index) c.args.self.now.ids.items c.add_levels.new.signature c.in_ok-add_levels.ensures.goes_on.state

pub returns-clause-lists : goal.returns-clause-lists
returns-clause-lists c =
    (goes_further (kinds_of_index c.args.self.now.index) c.args.self.now.ids.items c.args.signature.now c.add_own_sorts.new.signature c.add_levels.new.signature c.in_ok-add_own_sorts.ensures.goes_on c.in_ok-add_levels.ensures.goes_on).lists
