use Rattle.std.proofs.Common.{◌<◌, length, map, sym, ap, subst, arith, ◌∙◌}
use Rattle.std.specs.List.{All}
use Rattle.std.proofs.lemmas.List.{length-map}
use Rattle.data_theory.proofs.IdGrowthLemmas.{growth_after_growth_is_growth}
use Rattle.term_pool.proofs.DeclaredConstants.{grown_itself, constants_stay}
use Rattle.term_pool.specs.ConstructorValues.{HasValue}
use Rattle.lps_core.specs.Fitting.{IsVariable, sort_of_variable}
use Rattle.lps_core.proofs.NamedSums.{names_then}
use Rattle.lps_core.specs.Naming.{ParamsHaveOwnNames}
use Rattle.greibach.specs.PlainForms.{plain_equation, plain_form}
use Rattle.regular_encoder.specs.declared.layouts.Layout.{Layout}
use Rattle.regular_encoder.specs.TreeEncoding.{plain_layout, plain_place}
use Rattle.regular_encoder.specs.Layouts.{LaidOut}
use Rattle.regular_encoder.specs.FormColumns.{layout_params, places_in, AreFirstTerms, HasItsColumns, ServesTheEncoding}
use Rattle.regular_encoder.proofs.LayingOut.{read_first, kinds_in, keys_known, placed, columns_made, places_within, variables_in, inhabited_in, some_place, place_long}
use Rattle.regular_encoder.proofs.LaidOutForms.{what_is_laid_out_serves}
use Rattle.regular_encoder.proofs.InhabitedColumns.{firsts_sorts, still_inhabited}
use Rattle.regular_encoder.proofs.layouts.lay_out.Goals as goal

pub returns-in_err-kinds_at-clause-grown : goal.returns-in_err-kinds_at-clause-grown
returns-in_err-kinds_at-clause-grown c = grown_itself _

pub add_columns-requires : goal.add_columns-requires
add_columns-requires c =
    kinds_in c.args.sig.now c.args.pool.now (plain_form c.args.form.now) c.signature_stands.ensures c.requires.fits c.add_all_kinds.new.kinds.keys (keys_known c.args.sig.now c.args.pool.now (plain_form c.args.form.now) c.signature_stands.ensures c.requires.fits c.new-kinds.result.keys c.add_all_kinds.new.kinds.keys (map plain_equation c.as_slice-equations.result.now) c.in_ok-kinds_at.ensures.kinds c.new-kinds.ensures.empty
    (ap (map plain_equation) c.as_slice-equations.ensures.value))

pub returns-in_err-columns-clause-constants : goal.returns-in_err-columns-clause-constants
returns-in_err-columns-clause-constants c = constants_stay c.args.sig.now c.add_columns.new.sig c.args.pool.now.constants c.add_columns.ensures.grown.grown c.requires.constants

pub all_columns_at-requires : goal.all_columns_at-requires
all_columns_at-requires c =
    places_within c.args.sig.now c.add_all_kinds.new.kinds.keys (map plain_equation c.as_slice-equations.result.now) c.in_ok-kinds_at.kinds_at.items c.as_slice-2.result.now c.add_columns.new.sig c.in_ok-columns.columns.items c.as_slice.result.now
    c.in_ok-kinds_at.ensures.places c.in_ok-columns.ensures.columns c.as_slice.ensures.value c.as_slice-2.ensures.value

pub returns-in_err-places-clause-constants : goal.returns-in_err-places-clause-constants
returns-in_err-places-clause-constants c = constants_stay c.args.sig.now c.add_columns.new.sig c.args.pool.now.constants c.add_columns.ensures.grown.grown c.requires.constants

pub returns-in_err-control-clause-constants : goal.returns-in_err-control-clause-constants
returns-in_err-control-clause-constants c =
    constants_stay c.args.sig.now c.add_control.new.sig c.args.pool.now.constants (growth_after_growth_is_growth _ _ _ c.add_columns.ensures.grown.grown c.add_control.ensures.grown.grown) c.requires.constants

pub index-requires : goal.index-requires
index-requires c =
    let places = placed c.args.sig.now c.args.pool.now (plain_form c.args.form.now) c.signature_stands.ensures c.requires.fits c.add_all_kinds.new.kinds.keys (map plain_equation c.as_slice-equations.result.now) (places_in c.in_ok-kinds_at.kinds_at.items) (places_in c.as_slice-2.result.now)
    c.in_ok-columns.columns.items c.as_slice.result.now (map plain_place c.in_ok-places.places.items) (ap (map plain_equation) c.as_slice-equations.ensures.value) c.in_ok-kinds_at.ensures.places c.as_slice.ensures.value (ap places_in c.as_slice-2.ensures.value) c.in_ok-places.ensures in
    subst (λ n. 0 < n) (sym c.in_ok-places.places.ok.0) (some_place c.args.sig.now c.args.pool.now (plain_form c.args.form.now) c.signature_stands.ensures c.requires.fits c.add_all_kinds.new.kinds.keys c.in_ok-columns.columns.items c.in_ok-places.places.items places.2)

pub first_values-requires-clause-variables : goal.first_values-requires-clause-variables
first_values-requires-clause-variables c =
    subst (All (IsVariable c.add_control.new.sig)) (sym c.as_slice-3.ensures.value)
    (variables_in c.args.sig.now c.args.pool.now (plain_form c.args.form.now) c.signature_stands.ensures c.requires.fits c.add_all_kinds.new.kinds.keys (keys_known c.args.sig.now c.args.pool.now (plain_form c.args.form.now) c.signature_stands.ensures c.requires.fits c.new-kinds.result.keys c.add_all_kinds.new.kinds.keys (map plain_equation c.as_slice-equations.result.now) c.in_ok-kinds_at.ensures.kinds c.new-kinds.ensures.empty
    (ap (map plain_equation) c.as_slice-equations.ensures.value)) c.add_columns.new.sig c.in_ok-columns.columns.items c.in_ok-columns.ensures.columns c.add_control.new.sig c.add_control.ensures.grown)

pub first_values-requires-clause-long : goal.first_values-requires-clause-long
first_values-requires-clause-long c =
    let places = placed c.args.sig.now c.args.pool.now (plain_form c.args.form.now) c.signature_stands.ensures c.requires.fits c.add_all_kinds.new.kinds.keys (map plain_equation c.as_slice-equations.result.now) (places_in c.in_ok-kinds_at.kinds_at.items) (places_in c.as_slice-2.result.now)
    c.in_ok-columns.columns.items c.as_slice.result.now (map plain_place c.in_ok-places.places.items) (ap (map plain_equation) c.as_slice-equations.ensures.value) c.in_ok-kinds_at.ensures.places c.as_slice.ensures.value (ap places_in c.as_slice-2.ensures.value) c.in_ok-places.ensures in
    ap length (c.as_slice-place.ensures.value ∙ ap (λ v. v.items) c.index.ensures ∙ sym (read_first c.in_ok-places.places.items _ (some_place c.args.sig.now c.args.pool.now (plain_form c.args.form.now) c.signature_stands.ensures c.requires.fits c.add_all_kinds.new.kinds.keys c.in_ok-columns.columns.items c.in_ok-places.places.items places.2)))
    ∙ place_long c.args.sig.now c.args.pool.now (plain_form c.args.form.now) c.signature_stands.ensures c.requires.fits c.add_all_kinds.new.kinds.keys c.in_ok-columns.columns.items (map plain_place c.in_ok-places.places.items) places.2
    ∙ sym (ap length c.as_slice-4.ensures.value)

pub first_values-requires-clause-inhabited : goal.first_values-requires-clause-inhabited
first_values-requires-clause-inhabited c =
    subst (All (λ x. HasValue c.add_control.new.sig (sort_of_variable c.add_control.new.sig x))) (sym c.as_slice-3.ensures.value)
    (inhabited_in c.args.sig.now c.args.pool.now (plain_form c.args.form.now) c.signature_stands.ensures c.requires.fits c.requires.inhabited c.add_control.new.sig c.in_ok-columns.columns.items (names_then _ _ _ c.add_columns.ensures.grown c.add_control.ensures.grown)
    (variables_in c.args.sig.now c.args.pool.now (plain_form c.args.form.now) c.signature_stands.ensures c.requires.fits c.add_all_kinds.new.kinds.keys (keys_known c.args.sig.now c.args.pool.now (plain_form c.args.form.now) c.signature_stands.ensures c.requires.fits c.new-kinds.result.keys c.add_all_kinds.new.kinds.keys (map plain_equation c.as_slice-equations.result.now) c.in_ok-kinds_at.ensures.kinds c.new-kinds.ensures.empty
    (ap (map plain_equation) c.as_slice-equations.ensures.value)) c.add_columns.new.sig c.in_ok-columns.columns.items c.in_ok-columns.ensures.columns c.add_control.new.sig c.add_control.ensures.grown))

pub first_values-requires-clause-constants : goal.first_values-requires-clause-constants
first_values-requires-clause-constants c =
    constants_stay c.args.sig.now c.add_control.new.sig c.args.pool.now.constants (growth_after_growth_is_growth _ _ _ c.add_columns.ensures.grown.grown c.add_control.ensures.grown.grown) c.requires.constants

pub returns-in_err-firsts-clause-grown : goal.returns-in_err-firsts-clause-grown
returns-in_err-firsts-clause-grown c = growth_after_growth_is_growth _ _ _ (growth_after_growth_is_growth _ _ _ c.add_columns.ensures.grown.grown c.add_control.ensures.grown.grown) c.first_values.ensures.grown

abbrev made : goal.After-drop-kinds-inside-5 → Layout
made c = record { columns = c.in_ok-columns.columns; places = c.in_ok-places.places; control = c.in_ok-control.control; firsts = c.in_ok-firsts.firsts }

columns : (c : goal.After-drop-kinds-inside-5) → HasItsColumns c.args.sig.now c.args.pool.now (plain_form c.args.form.now) c.first_values.new.sig c.first_values.new.pool (plain_layout (made c)) c.in_ok-firsts.firsts.items
columns c =
    let places = placed c.args.sig.now c.args.pool.now (plain_form c.args.form.now) c.signature_stands.ensures c.requires.fits c.add_all_kinds.new.kinds.keys (map plain_equation c.as_slice-equations.result.now) (places_in c.in_ok-kinds_at.kinds_at.items) (places_in c.as_slice-2.result.now)
    c.in_ok-columns.columns.items c.as_slice.result.now (map plain_place c.in_ok-places.places.items) (ap (map plain_equation) c.as_slice-equations.ensures.value) c.in_ok-kinds_at.ensures.places c.as_slice.ensures.value (ap places_in c.as_slice-2.ensures.value) c.in_ok-places.ensures in
    columns_made c.args.sig.now c.args.pool.now (plain_form c.args.form.now) c.signature_stands.ensures c.requires.fits c.add_all_kinds.new.kinds.keys (places_in c.in_ok-kinds_at.kinds_at.items) (map plain_place c.in_ok-places.places.items) c.add_columns.new.sig c.add_control.new.sig c.first_values.new.sig
    c.in_ok-columns.columns.items c.in_ok-control.control c.as_slice-place.result.now c.as_slice-4.result.now (length c.as_slice-equations.result.now) c.first_values.new.pool c.in_ok-firsts.firsts.items
    (keys_known c.args.sig.now c.args.pool.now (plain_form c.args.form.now) c.signature_stands.ensures c.requires.fits c.new-kinds.result.keys c.add_all_kinds.new.kinds.keys (map plain_equation c.as_slice-equations.result.now) c.in_ok-kinds_at.ensures.kinds c.new-kinds.ensures.empty
    (ap (map plain_equation) c.as_slice-equations.ensures.value))
    places.0 c.in_ok-columns.ensures.columns places.1 (sym (length-map c.as_slice-equations.result.now plain_equation) ∙ ap (λ z. length (map plain_equation z)) c.as_slice-equations.ensures.value) c.in_ok-control.ensures.control
    (c.as_slice-place.ensures.value ∙ ap (λ v. v.items) c.index.ensures ∙ sym (read_first c.in_ok-places.places.items _ (some_place c.args.sig.now c.args.pool.now (plain_form c.args.form.now) c.signature_stands.ensures c.requires.fits c.add_all_kinds.new.kinds.keys c.in_ok-columns.columns.items c.in_ok-places.places.items places.2)))
    c.as_slice-4.ensures.value
    (subst (λ z. AreFirstTerms c.as_slice-place.result.now c.as_slice-4.result.now c.add_control.new.sig c.args.pool.now z c.first_values.new.sig c.first_values.new.pool c.in_ok-firsts.firsts.items) c.as_slice-3.ensures.value c.in_ok-firsts.ensures.values)

served : (c : goal.After-drop-kinds-inside-5) → LaidOut (length c.args.sig.now.variables) c.first_values.new.sig (plain_form c.args.form.now) (plain_layout (made c)) × ServesTheEncoding c.first_values.new.sig c.first_values.new.pool.trees (plain_form c.args.form.now) (plain_layout (made c)) c.in_ok-firsts.firsts.items
    × ParamsHaveOwnNames c.first_values.new.sig (layout_params (plain_layout (made c)))
served c =
    let small = c.as_slice-equations.type_inv.0 in
    let e = sym (length-map c.as_slice-equations.result.now plain_equation) ∙ ap (λ z. length (map plain_equation z)) c.as_slice-equations.ensures.value in
    let few : length (plain_form c.args.form.now).equations < 340282366920938463463374607431768211456 = omega (arith, small, e) in
    what_is_laid_out_serves c.args.sig.now c.first_values.new.sig c.args.pool.now c.first_values.new.pool (plain_form c.args.form.now) (plain_layout (made c)) c.in_ok-firsts.firsts.items c.signature_stands.ensures c.signature_stands-2.ensures c.requires.fits few (columns c)

pub returns-clause-columns : goal.returns-clause-columns
returns-clause-columns c = columns c

pub returns-clause-laid : goal.returns-clause-laid
returns-clause-laid c = (served c).0

pub returns-clause-serves : goal.returns-clause-serves
returns-clause-serves c = (served c).1

pub returns-clause-names : goal.returns-clause-names
returns-clause-names c = (served c).2

pub returns-clause-grown : goal.returns-clause-grown
returns-clause-grown c = growth_after_growth_is_growth _ _ _ (growth_after_growth_is_growth _ _ _ c.add_columns.ensures.grown.grown c.add_control.ensures.grown.grown) c.first_values.ensures.grown

pub returns-clause-inhabited : goal.returns-clause-inhabited
returns-clause-inhabited c =
    still_inhabited c.args.sig.now c.first_values.new.sig c.signature_stands.ensures c.signature_stands-2.ensures
    (growth_after_growth_is_growth _ _ _ (growth_after_growth_is_growth _ _ _ c.add_columns.ensures.grown.grown c.add_control.ensures.grown.grown) c.first_values.ensures.grown)
    (firsts_sorts c.as_slice-place.result.now c.as_slice-4.result.now c.add_control.new.sig c.args.pool.now c.as_slice-3.result.now c.first_values.new.sig c.first_values.new.pool c.in_ok-firsts.firsts.items c.in_ok-firsts.ensures.values
    ∙ c.add_control.ensures.grown.sorts ∙ c.add_columns.ensures.grown.sorts)
    c.requires.inhabited
