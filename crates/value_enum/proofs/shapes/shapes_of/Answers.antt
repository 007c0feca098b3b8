use Rattle.std.proofs.Common.{◌≡◌, ◌∙◌, true, false, length, refl, sym, arith}
use Rattle.value_enum.proofs.ShapeLemmas.{no_shapes, shapes_with, shapes_without}
use Rattle.term_pool.proofs.SortSearch.{is_among, among_contains, contains_among}
use Rattle.value_enum.proofs.shapes.shapes_of.Goals as goal

pub loop-number-init : goal.loop-number-init
loop-number-init c = no_shapes c.args.sig.now c.args.sorts.keys c.new-constructors.result.items c.new-arguments.result.items c.new-constructors.ensures.items c.new-arguments.ensures.items

pub loop-number-preserved-then-not-contains : goal.loop-number-preserved-then-not-contains
loop-number-preserved-then-not-contains c =
    let absent : is_among (record { 0 = c.loop-number.number }) c.args.sorts.keys ≡ false = cc in
    shapes_without c.args.sig.now c.args.sorts.keys c.requires.closed c.loop-number.number (record { 0 = c.loop-number.number }) c.loop-number.constructors.items c.push.new.self.items _ c.loop-number.arguments.items refl c.in_ok-push.ensures.items c.loop-number.invariant
    (λ has. (let there = contains_among (record { 0 = c.loop-number.number }) c.args.sorts.keys has in let wrong : true ≡ false = sym there ∙ absent in cc)) c.new.ensures.items

pub sort_shape-requires : goal.sort_shape-requires
sort_shape-requires c = omega (arith, c.next_sort-number-end.ensures.number)

pub loop-number-preserved : goal.loop-number-preserved
loop-number-preserved c =
    let there : is_among (record { 0 = c.loop-number.number }) c.args.sorts.keys ≡ true = cc in
    shapes_with c.args.sig.now c.args.sorts.keys c.requires.closed c.loop-number.number (record { 0 = c.loop-number.number }) c.loop-number.constructors.items c.push-in-loop-number.new.self.items c.in_ok-shape.shape c.loop-number.arguments.items c.sort_shape.new.arguments.items refl c.in_ok-push-2.ensures.items c.loop-number.invariant
    (among_contains (record { 0 = c.loop-number.number }) c.args.sorts.keys there) c.in_ok-shape.ensures

pub returns-clause-shapes : goal.returns-clause-shapes
returns-clause-shapes c =
    let p = c.loop-number.invariant in
    let e = p.count in
    let all : length c.args.sig.now.sorts ≡ c.loop-number.number = omega (arith, c.next_sort-number-end.ensures.number) in
    record {
      closed = c.requires.closed;
      within = c.requires.within;
      count = e ∙ sym all;
      constructors = λ s has. p.right s (let l = c.requires.within s has in omega (arith, l, all)) has;
      places = p.places;
      arguments = p.arguments;
      ended = p.ended;
    }
