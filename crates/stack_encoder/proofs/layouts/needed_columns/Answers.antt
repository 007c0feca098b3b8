use Rattle.std.proofs.Common.{◌≤◌, [], length, map, arith, sym, subst, ap, ap₂, ◌∙◌, ◌++◌}
use Rattle.std.specs.List.{All, flat_map}
use Rattle.std.proofs.lemmas.List.{append-nil, take_all}
use Rattle.greibach.specs.PlainForms.{plain_equation, plain_form_summand}
use Rattle.regular_encoder.specs.FormColumns.{places_in}
use Rattle.stack_encoder.specs.StackColumns.{unused, needed_in, numbered_place, with_numbers, SummandLeadsToPlaces, EquationLeadsToPlaces}
use Rattle.stack_encoder.proofs.NeededColumns.{equation_added, equation_item}
use Rattle.stack_encoder.proofs.layouts.needed_columns.Goals as goal

pub loop-equation-init : goal.loop-equation-init
loop-equation-init c =
    c.in_ok-add_unused.ensures ∙ ap₂ (λ keys place. with_numbers keys (unused c.args.columns place)) c.new-needed.ensures.empty c.place_of.ensures
    ∙ ap (with_numbers []) (sym (append-nil (unused c.args.columns (numbered_place (places_in c.args.places.now) 1))))

pub add_needed_in-requires : goal.add_needed_in-requires
add_needed_in-requires c =
    subst (λ z. All (SummandLeadsToPlaces (places_in c.args.places.now)) (map plain_form_summand z)) (sym c.as_slice.ensures.value)
    (equation_item (EquationLeadsToPlaces (places_in c.args.places.now)) c.args.equations.now c.loop-equation.equation-index c.equation-item.result c.loop-equation-test.true c.equation-item.is c.requires.calls)

pub loop-equation-preserved : goal.loop-equation-preserved
loop-equation-preserved c =
    equation_added (unused c.args.columns (numbered_place (places_in c.args.places.now) 1)) c.loop-equation.needed.keys c.add_needed_in.new.needed.keys c.args.columns (places_in c.args.places.now) c.args.equations.now c.loop-equation.equation-index
    c.equation-item.result c.as_slice.result.now c.loop-equation.invariant c.loop-equation-test.true c.equation-item.is c.as_slice.ensures.value c.in_ok-add_needed_in.ensures

pub returns : goal.returns
returns c =
    let n = c.loop-equation-test.false in
    let l : length c.args.equations.now ≤ c.loop-equation.equation-index = omega (arith, n) in
    c.loop-equation.invariant
    ∙ ap (λ z. with_numbers [] (unused c.args.columns (numbered_place (places_in c.args.places.now) 1) ++ flat_map (needed_in c.args.columns (places_in c.args.places.now)) (map plain_equation z))) (take_all c.loop-equation.equation-index c.args.equations.now l)
