use Rattle.std.proofs.Common.{List, map, sym, subst}
use Rattle.std.specs.List.{AllByRecursion}
use Rattle.data_typing.specs.declared.flat_sorts.FlatSort.{FlatSort}
use Rattle.data_typing.specs.declared.nodes.Reading.{Reading}
use Rattle.data_typing.specs.Contexts.{IsFlatOver}
use Rattle.data_typing.specs.FlatSorts.{flat_sort}
use Rattle.sort_checker.specs.ReadArguments.{HaveTermsAt}
use Rattle.sort_checker.specs.TypedTrees.{AreReadings, how_of}
use Rattle.sort_checker.proofs.LabelParts.{action_made}
use Rattle.sort_checker.proofs.SortedGroups.{sorted_on}
use Rattle.sort_checker.proofs.labels.taken_action.Goals as goal

pub terms_at-requires-clause-sorts : goal.terms_at-requires-clause-sorts
terms_at-requires-clause-sorts c = subst (AllByRecursion (IsFlatOver c.args.sig.now)) (sym c.as_slice-sorts.ensures.value) c.requires.chosen.3.sorted.over

pub terms_at-requires-clause-fit : goal.terms_at-requires-clause-fit
terms_at-requires-clause-fit c =
    let given = c.requires.chosen in (
      given.1,
      subst (λ (rs : List Reading). AreReadings c.args.sig.now rs given.1) (sym c.as_slice-readings.ensures.value) given.3.readings,
      given.2,
      subst (λ (fs : List FlatSort). HaveTermsAt (how_of c.args.chosen.now.way) (map flat_sort fs) given.1 given.2) (sym c.as_slice-sorts.ensures.value) given.3.have,
    )

pub returns-clause-means : goal.returns-clause-means
returns-clause-means c = λ x ts us given.
    action_made c.terms_at.new.sig c.terms_at.new.pool (c.in_ok-args.ensures.ready c.requires.ready.0 c.requires.ready.1).signature x c.args.chosen.now.action.now
    (sorted_on c.args.sig.now c.args.pool.now c.terms_at.new.sig c.terms_at.new.pool c.requires.ready.1.signature c.terms_at.ensures.kept x c.args.chosen.now.action.now given.sorted) c.in_ok-args.args.items us
    (c.in_ok-args.ensures.means ts us (subst (λ (rs : List Reading). AreReadings c.args.sig.now rs ts) (sym c.as_slice-readings.ensures.value) given.readings)
    (subst (λ (fs : List FlatSort). HaveTermsAt (how_of c.args.chosen.now.way) (map flat_sort fs) ts us) (sym c.as_slice-sorts.ensures.value) given.have))
