use Rattle.std.proofs.Common.{◌≡◌, ◌<◌, ◌∙◌, ℕ, [], map, length, refl, sym, ap, subst}
use Rattle.std.specs.List.{All}
use Rattle.std.proofs.lemmas.List.{length-map}
use Rattle.std.proofs.lemmas.List.Elements.{All-weaker}
use Rattle.data_theory.specs.declared.ids.NameId.{NameId}
use Rattle.data_theory.specs.Environments.{AreDistinct}
use Rattle.data_theory.specs.IdTrees.{variable}
use Rattle.term_pool.specs.HeadTrees.{trees_at}
use Rattle.lps_core.specs.Fitting.{IsVariable}
use Rattle.lps_core.proofs.NamedSums.{variable_kept, names_kept, sorts_kept, names_then}
use Rattle.greibach.specs.PlainForms.{plain_form_summand}
use Rattle.greibach.specs.PlacesInCode.{plain_calls, plain_place, plain_places}
use Rattle.greibach.specs.ListedVariables.{paired}
use Rattle.greibach.specs.Surroundings.{plain_unfolding, IsCovered, CanAdd, ParametersStand, SummandStands}
use Rattle.greibach.proofs.GrownFits.{variables_grow}
use Rattle.greibach.proofs.FittingHeads.{place_fits}
use Rattle.greibach.proofs.HeadArms.{here_stands}
use Rattle.greibach.proofs.StartedEquations.{start_can, same_length, covered_start}
use Rattle.greibach.specs.AddedHeads.{Adds, Grew}
use Rattle.greibach.proofs.AddedArms.{params_is}
use Rattle.greibach.proofs.MadeHeads.{equation_heads}
use Rattle.greibach.proofs.normal_forms.equation.Goals as goal

pub parameters-requires-clause-variables : goal.parameters-requires-clause-variables
parameters-requires-clause-variables c =
    let q = c.index.result.now in
    let e = here_stands c.args.places.now.places.items c.args.place q c.index.ensures c.requires.place in
    let t = (plain_places c.args.places.now) in
    let since = c.requires.table in
    let vs : All (IsVariable c.args.sig.now) q.params.items = variables_grow since.old c.args.sig.now since.trees c.args.pool.now.trees since.signature since.grown q.params.items (place_fits c.args.sig.now c.args.pool.now.trees t since [] c.args.place (plain_place q) e).params in
    subst (All (IsVariable c.args.sig.now)) (sym c.as_slice-vars.ensures.value) vs

pub add-requires-clause-can : goal.add-requires-clause-can
add-requires-clause-can c =
    let q = c.index.result.now in
    let e = here_stands c.args.places.now.places.items c.args.place q c.index.ensures c.requires.place in
    let t = (plain_places c.args.places.now) in
    let since = c.requires.table in
    let vs : All (IsVariable c.args.sig.now) q.params.items = variables_grow since.old c.args.sig.now since.trees c.args.pool.now.trees since.signature since.grown q.params.items (place_fits c.args.sig.now c.args.pool.now.trees t since [] c.args.place (plain_place q) e).params in
    let h = c.parameters.new.sig in
    let us = c.variable_terms.new.pool.trees in
    let params = c.in_ok-params.params.items in
    let terms = c.in_ok-terms.terms.items in
    let p : ParametersStand c.args.sig.now h q.params.items params = subst (λ l. ParametersStand c.args.sig.now h l params) c.as_slice-vars.ensures.value c.in_ok-params.ensures.params in
    let trees : trees_at us terms ≡ map variable params = c.in_ok-terms.ensures.trees ∙ ap (map variable) c.as_slice.ensures.value in
    let by : c.as_slice-4.result.now ≡ paired q.params.items terms = c.as_slice-4.ensures.value ∙ c.in_ok-by.ensures ∙ ap (λ z. paired z c.as_slice-2.result.now) c.as_slice-vars.ensures.value ∙ ap (paired q.params.items) c.as_slice-2.ensures.value in
    let met : All (λ (n : ℕ). n < length t.places) c.args.under_way.now.met.keys = subst (λ l. All (λ (n : ℕ). n < l) c.args.under_way.now.met.keys) (sym (length-map c.args.places.now.places.items plain_place)) c.requires.met in
    let can = start_can c.args.sig.now h c.args.pool.now.trees us t q.params.items params terms (plain_unfolding c.args.under_way.now) since vs c.in_ok-params.ensures.grown p c.in_ok-terms.ensures.kept c.in_ok-terms.ensures.within trees met (ap plain_calls c.requires.waiting) (ap (map plain_form_summand) c.requires.summands) in
    subst (λ z. CanAdd h us t (record { params = z; sums = []; by = c.as_slice-4.result.now; parts = [] }) (plain_unfolding c.args.under_way.now)) (sym c.as_slice-3.ensures.value)
    (subst (λ z. CanAdd h us t (record { params = params; sums = []; by = z; parts = [] }) (plain_unfolding c.args.under_way.now)) (sym by) can)

pub add-requires-clause-place : goal.add-requires-clause-place
add-requires-clause-place c =
    let q = c.index.result.now in
    let e = here_stands c.args.places.now.places.items c.args.place q c.index.ensures c.requires.place in
    let t = (plain_places c.args.places.now) in
    let since = c.requires.table in
    let vs : All (IsVariable c.args.sig.now) q.params.items = variables_grow since.old c.args.sig.now since.trees c.args.pool.now.trees since.signature since.grown q.params.items (place_fits c.args.sig.now c.args.pool.now.trees t since [] c.args.place (plain_place q) e).params in
    let h = c.parameters.new.sig in
    let us = c.variable_terms.new.pool.trees in
    let params = c.in_ok-params.params.items in
    let terms = c.in_ok-terms.terms.items in
    let p : ParametersStand c.args.sig.now h q.params.items params = subst (λ l. ParametersStand c.args.sig.now h l params) c.as_slice-vars.ensures.value c.in_ok-params.ensures.params in
    let trees : trees_at us terms ≡ map variable params = c.in_ok-terms.ensures.trees ∙ ap (map variable) c.as_slice.ensures.value in
    let by : c.as_slice-4.result.now ≡ paired q.params.items terms = c.as_slice-4.ensures.value ∙ c.in_ok-by.ensures ∙ ap (λ z. paired z c.as_slice-2.result.now) c.as_slice-vars.ensures.value ∙ ap (paired q.params.items) c.as_slice-2.ensures.value in
    subst (λ z. IsCovered (map plain_place c.args.places.now.places.items) z c.args.place) (sym by) (covered_start (map plain_place c.args.places.now.places.items) c.args.place (plain_place q) q.params.items terms e refl (same_length us c.args.sig.now h q.params.items params terms trees p.sorts))

pub returns-clause-made : goal.returns-clause-made
returns-clause-made c =
    let q = c.index.result.now in
    let e = here_stands c.args.places.now.places.items c.args.place q c.index.ensures c.requires.place in
    let t = (plain_places c.args.places.now) in
    let since = c.requires.table in
    let vs : All (IsVariable c.args.sig.now) q.params.items = variables_grow since.old c.args.sig.now since.trees c.args.pool.now.trees since.signature since.grown q.params.items (place_fits c.args.sig.now c.args.pool.now.trees t since [] c.args.place (plain_place q) e).params in
    let h = c.parameters.new.sig in
    let us = c.variable_terms.new.pool.trees in
    let params = c.in_ok-params.params.items in
    let terms = c.in_ok-terms.terms.items in
    let p : ParametersStand c.args.sig.now h q.params.items params = subst (λ l. ParametersStand c.args.sig.now h l params) c.as_slice-vars.ensures.value c.in_ok-params.ensures.params in
    let trees : trees_at us terms ≡ map variable params = c.in_ok-terms.ensures.trees ∙ ap (map variable) c.as_slice.ensures.value in
    let by : c.as_slice-4.result.now ≡ paired q.params.items terms = c.as_slice-4.ensures.value ∙ c.in_ok-by.ensures ∙ ap (λ z. paired z c.as_slice-2.result.now) c.as_slice-vars.ensures.value ∙ ap (paired q.params.items) c.as_slice-2.ensures.value in
    let d = c.in_ok-add.ensures.added in
    let j = c.add.new.sig in
    let w = c.in_ok-add.ensures.grown in
    let all = names_then c.args.sig.now h j c.in_ok-params.ensures.grown w in
    record {
      names = d.names;
      met = d.met;
      met_there = d.standing.met_there;
      waiting = d.waiting ∙ ap plain_calls c.requires.waiting;
      summands = ap (map plain_form_summand) (ap (λ z. z.items) c.swap.ensures.y_after ∙ c.new-summands.ensures.items);
      equation = record {
        params = All-weaker (IsVariable h) (IsVariable j) (λ x l. variable_kept h j x w.grown l) params p.variables;
        distinct = p.distinct;
        named = subst (λ ns. AreDistinct (map (λ (m : NameId). m.0) ns)) (sym (names_kept h j params w.grown p.variables)) p.named;
        place = plain_place q;
        stands = e;
        sorts = sorts_kept h j params w.grown p.variables ∙ p.sorts ∙ sym (sorts_kept c.args.sig.now j q.params.items all.grown vs);
        summands = subst (λ z. All (SummandStands j c.add.new.pool.trees t.places c.add.new.under_way.met.keys params) (map plain_form_summand z)) (ap (λ z. z.items) (sym c.swap.ensures.x_after))
            (subst (λ z. All (SummandStands j c.add.new.pool.trees t.places c.add.new.under_way.met.keys z) (map plain_form_summand c.add.new.under_way.summands.items)) c.as_slice-3.ensures.value d.standing.summands);
      };
    }

pub returns-clause-heads : goal.returns-clause-heads
returns-clause-heads c =
    let q = c.index.result.now in
    let e = here_stands c.args.places.now.places.items c.args.place q c.index.ensures c.requires.place in
    let t = (plain_places c.args.places.now) in
    let since = c.requires.table in
    let vs : All (IsVariable c.args.sig.now) q.params.items = variables_grow since.old c.args.sig.now since.trees c.args.pool.now.trees since.signature since.grown q.params.items (place_fits c.args.sig.now c.args.pool.now.trees t since [] c.args.place (plain_place q) e).params in
    let h = c.parameters.new.sig in
    let us = c.variable_terms.new.pool.trees in
    let params = c.in_ok-params.params.items in
    let terms = c.in_ok-terms.terms.items in
    let p : ParametersStand c.args.sig.now h q.params.items params = subst (λ l. ParametersStand c.args.sig.now h l params) c.as_slice-vars.ensures.value c.in_ok-params.ensures.params in
    let trees : trees_at us terms ≡ map variable params = c.in_ok-terms.ensures.trees ∙ ap (map variable) c.as_slice.ensures.value in
    let by : c.as_slice-4.result.now ≡ paired q.params.items terms = c.as_slice-4.ensures.value ∙ c.in_ok-by.ensures ∙ ap (λ z. paired z c.as_slice-2.result.now) c.as_slice-vars.ensures.value ∙ ap (paired q.params.items) c.as_slice-2.ensures.value in
    let d = c.in_ok-add.ensures.added in
    let j = c.add.new.sig in
    let w = c.in_ok-add.ensures.grown in
    let all = names_then c.args.sig.now h j c.in_ok-params.ensures.grown w in
    let vars_now = All-weaker (IsVariable c.args.sig.now) (IsVariable j) (λ x l. variable_kept c.args.sig.now j x all.grown l) q.params.items vs in
    equation_heads j us c.add.new.pool.trees t c.args.place params q.params.items terms c.as_slice-4.result.now (plain_unfolding c.args.under_way.now) (plain_unfolding c.add.new.under_way) _ c.in_ok-add.ensures.kept c.in_ok-terms.ensures.within trees by
    (params_is t c.args.place (plain_place q) e) (All-weaker (IsVariable h) (IsVariable j) (λ x l. variable_kept h j x w.grown l) params p.variables) vars_now (sorts_kept h j params w.grown p.variables ∙ p.sorts ∙ sym (sorts_kept c.args.sig.now j q.params.items all.grown vs)) p.distinct
    (ap plain_calls c.requires.waiting) (ap (map plain_form_summand) c.requires.summands) refl (ap (map plain_form_summand) (ap (λ z. z.items) c.swap.ensures.x_after))
    (subst (λ z. Grew j c.add.new.pool.trees (plain_unfolding c.args.under_way.now) (plain_unfolding c.add.new.under_way) (λ e. Adds e t (record { params = z; sums = []; by = c.as_slice-4.result.now; parts = [] }) (plain_unfolding c.args.under_way.now).waiting c.args.place)) c.as_slice-3.ensures.value c.in_ok-add.ensures.heads)
