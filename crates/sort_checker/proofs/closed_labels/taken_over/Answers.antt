use Rattle.std.proofs.Common.{List, map, sym, subst}
use Rattle.std.specs.Prelude.{Option, Vec, option_map}
use Rattle.std.specs.Global.{Global}
use Rattle.std.specs.List.{AllByRecursion}
use Rattle.data_theory.specs.declared.ids.TermId.{TermId}
use Rattle.data_theory.specs.Declarations.{HaveSorts}
use Rattle.data_theory.specs.Environments.{terms_of}
use Rattle.data_theory.specs.IdData.{data_meant}
use Rattle.data_theory.specs.IdTerms.{variable_sorts}
use Rattle.data_typing.specs.declared.flat_sorts.FlatSort.{FlatSort}
use Rattle.data_typing.specs.declared.nodes.Reading.{Reading}
use Rattle.data_typing.specs.Contexts.{IsFlatOver}
use Rattle.data_typing.specs.FlatSorts.{flat_sort}
use Rattle.sort_checker.specs.ReadArguments.{HaveTermsAt}
use Rattle.sort_checker.specs.TypedLabels.{AreFoundIn}
use Rattle.sort_checker.specs.TypedTrees.{AreReadings, how_of}
use Rattle.sort_checker.proofs.LabelParts.{action_made}
use Rattle.sort_checker.proofs.closed_labels.taken_over.Goals as goal

pub terms_over-requires-clause-sorts : goal.terms_over-requires-clause-sorts
terms_over-requires-clause-sorts c = subst (AllByRecursion (IsFlatOver c.args.sig.now)) (sym c.as_slice-sorts.ensures.value) c.requires.chosen.3.sorted.over

pub terms_over-requires-clause-fit : goal.terms_over-requires-clause-fit
terms_over-requires-clause-fit c =
    let given = c.requires.chosen in (
      given.1,
      subst (λ (rs : List Reading). AreReadings c.args.sig.now rs given.1) (sym c.as_slice-readings.ensures.value) given.3.readings,
      given.2,
      subst (λ (fs : List FlatSort). HaveTermsAt (how_of c.args.chosen.now.way) (map flat_sort fs) given.1 given.2) (sym c.as_slice-sorts.ensures.value) given.3.have,
    )

pub returns-in_default-clause-means : goal.returns-in_default-clause-means
returns-in_default-clause-means c = λ x ts us given. λ fits in_.
    let g = c.args.sig.now in
    let found =
    c.in_ok-args.ensures.means ts us (subst (λ (rs : List Reading). AreReadings g rs ts) (sym c.as_slice-readings.ensures.value) given.readings)
    (subst (λ (fs : List FlatSort). HaveTermsAt (how_of c.args.chosen.now.way) (map flat_sort fs) ts us) (sym c.as_slice-sorts.ensures.value) given.have) in
    subst (λ (o : Option (Vec TermId Global)). AreFoundIn g c.terms_over.new.pool (map flat_sort c.as_slice-sorts.result.now) us (option_map (λ (ids : Vec TermId Global). ids.items) o)) c.in_default.is found
    (subst (λ (fs : List FlatSort). HaveSorts (data_meant g) (variable_sorts g) (terms_of us) (map flat_sort fs)) (sym c.as_slice-sorts.ensures.value) fits) in_

pub returns-clause-means : goal.returns-clause-means
returns-clause-means c = λ x ts us given.
    let g = c.args.sig.now in
    let found =
    c.in_ok-args.ensures.means ts us (subst (λ (rs : List Reading). AreReadings g rs ts) (sym c.as_slice-readings.ensures.value) given.readings)
    (subst (λ (fs : List FlatSort). HaveTermsAt (how_of c.args.chosen.now.way) (map flat_sort fs) ts us) (sym c.as_slice-sorts.ensures.value) given.have) in
    let these = subst (λ (o : Option (Vec TermId Global)). AreFoundIn g c.terms_over.new.pool (map flat_sort c.as_slice-sorts.result.now) us (option_map (λ (ids : Vec TermId Global). ids.items) o)) c.in-Some.is found in
    (action_made g c.terms_over.new.pool c.requires.ready.1.signature x c.args.chosen.now.action.now given.sorted c.in-Some.args.items us these.0, these.1)
