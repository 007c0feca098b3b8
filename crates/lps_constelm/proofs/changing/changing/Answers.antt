use Rattle.std.proofs.Common.{◌≡◌, ◌<◌, ◌≤◌, ◌∙◌, ap, ap₂, length, get_or, subst, sym, map, arith}
use Rattle.std.specs.List.{All}
use Rattle.std.specs.Prelude.{IfSome}
use Rattle.std.proofs.lemmas.List.{get_or_default}
use Rattle.std.proofs.lemmas.Option.{slice_get-get_or}
use Rattle.std.proofs.lemmas.List.Elements.{All-get_or, All-weaker}
use Rattle.term_pool.specs.Bindings.{listed, listed_terms}
use Rattle.term_pool.specs.HeadTrees.{IsIn, AreIn}
use Rattle.graphs.proofs.Ranking.{on_true, on_false}
use Rattle.lps_core.specs.PlainLinears.{PlainSummand, plain_linear, plain_summand}
use Rattle.lps_core.specs.TreeSummands.{IsSummandIn}
use Rattle.lps_core.proofs.KeptSummands.{summand_in_kept}
use Rattle.lps_core.proofs.PoolTrees.{all_in_kept, tree_kept, extends_on, extends_itself}
use Rattle.lps_parelm.proofs.WholeElimination.{init_long, next_terms, summands_inside, some_place, variables_long}
use Rattle.lps_constelm.specs.Putting.{pairs_of, ChangesBy, StaysBy}
use Rattle.lps_constelm.proofs.ChangingLoops.{pairs_terms, none_changing, one_changes, one_stays, all_changing}
use Rattle.lps_constelm.proofs.ChangingSteps.{put_back, some_change_back, all_stay_back, changes_by_them, stays_by_them, own_put}
use Rattle.lps_constelm.proofs.changing.changing.Goals as goal

pub pairs-requires : goal.pairs-requires
pairs-requires c = ap length c.as_slice-2.ensures.value ∙ init_long c.requires.fits.0 c.args.pool.now.trees (plain_linear c.args.lin.now) c.requires.fits.2 ∙ sym (ap length c.as_slice.ensures.value)

pub loop-place-init : goal.loop-place-init
loop-place-init c = (extends_itself c.args.pool.now.trees, none_changing _ _ _ _ c.new-start.ensures.items)

pub index-requires : goal.index-requires
index-requires c =
    let l = plain_linear c.args.lin.now in
    let ts = c.args.pool.now.trees in
    let test = c.loop-place-test.true in
    let count = init_long c.requires.fits.0 ts l c.requires.fits.2 in
    let long = variables_long ts c.args.params.now l c.requires.params in
    let items = c.args.lin.now.init.ok.0 in
    omega (arith, test, count, long, items)

pub changes-requires-clause-place : goal.changes-requires-clause-place
changes-requires-clause-place c =
    let l = plain_linear c.args.lin.now in
    let ts = c.args.pool.now.trees in
    let place = c.loop-place.place in
    let test = c.loop-place-test.true in
    let long = variables_long ts c.args.params.now l c.requires.params in
    let below : place < length l.params = omega (arith, test, long) in
    subst (λ z. All (λ (s : PlainSummand). IfSome s.next (λ ids. place < length ids)) (map plain_summand z)) (sym c.as_slice-in-loop-place.ensures.value) (some_place (length l.params) place l.summands below (next_terms c.requires.fits.0 ts l c.requires.fits.2))

pub changes-requires-clause-within : goal.changes-requires-clause-within
changes-requires-clause-within c =
    let l = plain_linear c.args.lin.now in
    let ts = c.args.pool.now.trees in
    let us = c.loop-place.pool.trees in
    subst (λ z. All (IsSummandIn us) (map plain_summand z)) (sym c.as_slice-in-loop-place.ensures.value)
    (All-weaker (IsSummandIn ts) (IsSummandIn us) (λ s k. summand_in_kept ts us c.loop-place.invariant.0 s k) l.summands (summands_inside c.requires.fits.0 ts l c.requires.fits.2))

pub changes-requires-clause-own_in : goal.changes-requires-clause-own_in
changes-requires-clause-own_in c =
    let ts = c.args.pool.now.trees in
    let own = get_or c.args.params.now c.loop-place.place (record { 0 = 0 }) in
    (tree_kept ts c.loop-place.pool.trees own c.loop-place.invariant.0 (All-get_or (IsIn ts) c.args.params.now c.loop-place.place (record { 0 = 0 }) c.loop-place-test.true c.requires.within)).1

pub changes-requires-clause-own : goal.changes-requires-clause-own
changes-requires-clause-own c =
    let g = c.requires.fits.0 in
    let fits = c.requires.fits.2 in
    let l = plain_linear c.args.lin.now in
    let ts = c.args.pool.now.trees in
    let us = c.loop-place.pool.trees in
    let place = c.loop-place.place in
    let vars = c.args.params.now in
    let by = c.as_slice-in-loop-place-2.result.now in
    let init = c.index.result.now in
    let own = get_or vars place (record { 0 = 0 }) in
    let test = c.loop-place-test.true in
    let count = init_long g ts l fits in
    let long = variables_long ts vars l c.requires.params in
    let below : place < length l.params = omega (arith, test, long) in
    let pairs : by ≡ pairs_of l.params l.init = c.as_slice-in-loop-place-2.ensures.value ∙ c.in_ok-by.ensures ∙ ap₂ pairs_of c.as_slice.ensures.value c.as_slice-2.ensures.value in
    let read : init ≡ get_or l.init place (record { 0 = 0 }) = c.index.ensures ∙ get_or_default l.init place init (record { 0 = 0 }) (omega (arith, below, count)) in
    let are : AreIn ts (listed_terms by) = subst (AreIn ts) (sym (ap listed_terms pairs ∙ pairs_terms l.params l.init count)) fits.init.within in
    let init_in : IsIn ts init = subst (IsIn ts) (sym read) (All-get_or (IsIn ts) l.init place (record { 0 = 0 }) (omega (arith, below, count)) fits.init.within) in
    let own_in = All-get_or (IsIn ts) vars place (record { 0 = 0 }) test c.requires.within in
    put_back ts us by place init c.loop-place.invariant.0 are init_in own own_in ∙ own_put g ts l vars by place own init fits c.requires.params pairs below (slice_get-get_or vars place (record { 0 = 0 }) test) read ∙ sym (tree_kept ts us init c.loop-place.invariant.0 init_in).0

pub changes-requires-clause-listed : goal.changes-requires-clause-listed
changes-requires-clause-listed c =
    let g = c.requires.fits.0 in
    let fits = c.requires.fits.2 in
    let l = plain_linear c.args.lin.now in
    let ts = c.args.pool.now.trees in
    let by = c.as_slice-in-loop-place-2.result.now in
    let pairs : by ≡ pairs_of l.params l.init = c.as_slice-in-loop-place-2.ensures.value ∙ c.in_ok-by.ensures ∙ ap₂ pairs_of c.as_slice.ensures.value c.as_slice-2.ensures.value in
    all_in_kept ts c.loop-place.pool.trees (listed_terms by) c.loop-place.invariant.0 (subst (AreIn ts) (sym (ap listed_terms pairs ∙ pairs_terms l.params l.init (init_long g ts l fits))) fits.init.within)

pub changes-requires-clause-init : goal.changes-requires-clause-init
changes-requires-clause-init c =
    let fits = c.requires.fits.2 in
    let l = plain_linear c.args.lin.now in
    let ts = c.args.pool.now.trees in
    let place = c.loop-place.place in
    let init = c.index.result.now in
    let test = c.loop-place-test.true in
    let count = init_long c.requires.fits.0 ts l fits in
    let long = variables_long ts c.args.params.now l c.requires.params in
    let below : place < length l.init = omega (arith, test, long, count) in
    let init_in : IsIn ts init = subst (IsIn ts) (sym c.index.ensures) (All-get_or (IsIn ts) l.init place init below fits.init.within) in
    (tree_kept ts c.loop-place.pool.trees init c.loop-place.invariant.0 init_in).1

pub loop-place-preserved-then-not-branch : goal.loop-place-preserved-then-not-branch
loop-place-preserved-then-not-branch c =
    let g = c.requires.fits.0 in
    let fits = c.requires.fits.2 in
    let l = plain_linear c.args.lin.now in
    let ts = c.args.pool.now.trees in
    let us = c.loop-place.pool.trees in
    let place = c.loop-place.place in
    let by = c.as_slice-in-loop-place-2.result.now in
    let init = c.index.result.now in
    let test = c.loop-place-test.true in
    let count = init_long g ts l fits in
    let long = variables_long ts c.args.params.now l c.requires.params in
    let below : place < length l.params = omega (arith, test, long) in
    let pairs : by ≡ pairs_of l.params l.init = c.as_slice-in-loop-place-2.ensures.value ∙ c.in_ok-by.ensures ∙ ap₂ pairs_of c.as_slice.ensures.value c.as_slice-2.ensures.value in
    let read : init ≡ get_or l.init place (record { 0 = 0 }) = c.index.ensures ∙ get_or_default l.init place init (record { 0 = 0 }) (omega (arith, below, count)) in
    let are : AreIn ts (listed_terms by) = subst (AreIn ts) (sym (ap listed_terms pairs ∙ pairs_terms l.params l.init count)) fits.init.within in
    let init_in : IsIn ts init = subst (IsIn ts) (sym read) (All-get_or (IsIn ts) l.init place (record { 0 = 0 }) (omega (arith, below, count)) fits.init.within) in
    let nexts = some_place (length l.params) place l.summands below (next_terms g ts l fits) in
    let stays = subst (λ z. StaysBy (listed us by) us (map plain_summand z) place init) c.as_slice-in-loop-place.ensures.value (on_false _ _ _ c.if-not-branch.true c.in_ok-changes.ensures.changes) in (
      extends_on ts us c.changes.new.pool.trees c.loop-place.invariant.0 c.changes.ensures.kept,
      one_stays ts l c.args.params.now place c.loop-place.start.items c.loop-place.invariant.1 (stays_by_them ts l by place init pairs read (all_stay_back ts us by place init c.loop-place.invariant.0 are init_in l.summands (summands_inside g ts l fits) nexts stays)),
    )

pub loop-place-preserved : goal.loop-place-preserved
loop-place-preserved c =
    let g = c.requires.fits.0 in
    let fits = c.requires.fits.2 in
    let l = plain_linear c.args.lin.now in
    let ts = c.args.pool.now.trees in
    let us = c.loop-place.pool.trees in
    let place = c.loop-place.place in
    let vars = c.args.params.now in
    let by = c.as_slice-in-loop-place-2.result.now in
    let init = c.index.result.now in
    let test = c.loop-place-test.true in
    let count = init_long g ts l fits in
    let long = variables_long ts vars l c.requires.params in
    let below : place < length l.params = omega (arith, test, long) in
    let pairs : by ≡ pairs_of l.params l.init = c.as_slice-in-loop-place-2.ensures.value ∙ c.in_ok-by.ensures ∙ ap₂ pairs_of c.as_slice.ensures.value c.as_slice-2.ensures.value in
    let read : init ≡ get_or l.init place (record { 0 = 0 }) = c.index.ensures ∙ get_or_default l.init place init (record { 0 = 0 }) (omega (arith, below, count)) in
    let are : AreIn ts (listed_terms by) = subst (AreIn ts) (sym (ap listed_terms pairs ∙ pairs_terms l.params l.init count)) fits.init.within in
    let init_in : IsIn ts init = subst (IsIn ts) (sym read) (All-get_or (IsIn ts) l.init place (record { 0 = 0 }) (omega (arith, below, count)) fits.init.within) in
    let nexts = some_place (length l.params) place l.summands below (next_terms g ts l fits) in
    let change = subst (λ z. ChangesBy (listed us by) us (map plain_summand z) place init) c.as_slice-in-loop-place.ensures.value (on_true _ _ _ c.if-not-branch.false c.in_ok-changes.ensures.changes) in (
      extends_on ts us c.changes.new.pool.trees c.loop-place.invariant.0 c.changes.ensures.kept,
      one_changes ts l vars place c.loop-place.start.items c.push.new.self.items (get_or vars place (record { 0 = 0 })) c.loop-place.invariant.1 (slice_get-get_or vars place (record { 0 = 0 }) test)
          (changes_by_them ts l by place init pairs read (some_change_back ts us by place init c.loop-place.invariant.0 are init_in l.summands (summands_inside g ts l fits) nexts change)) c.in_ok-push.ensures.items,
    )

pub returns-clause-changing : goal.returns-clause-changing
returns-clause-changing c =
    let n = c.loop-place-test.false in
    let l : length c.args.params.now ≤ c.loop-place.place = omega (arith, n) in
    all_changing c.args.pool.now.trees (plain_linear c.args.lin.now) c.args.params.now c.loop-place.place c.loop-place.start.items c.loop-place.invariant.1 l
