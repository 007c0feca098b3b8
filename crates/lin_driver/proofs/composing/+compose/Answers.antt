use Rattle.std.proofs.Common.{◌≡◌, ◌≤◌, ◌+◌, ◌∙◌, map, length, arith, sym, ap, subst, IfOk}
use Rattle.lps_core.specs.PlainLinears.{plain_linear}
use Rattle.lps_core.specs.Fitting.{Fits}
use Rattle.lps_core.proofs.NamedSums.{names_none, names_then}
use Rattle.action_filters.specs.Filters.{IsGoodAround}
use Rattle.process_terms.specs.Processes as written
use Rattle.proc_unfold.specs.Networks.{left_merge, sync, no_networks, more_networks, networks_of, side_by_side, plain_network, plain_operator}
use Rattle.summand_expander.specs.StartedProducts.{IsProductFrom}
use Rattle.summand_expander.specs.WholeFirstSteps.{IsGoodProductFrom}
use Rattle.lin_driver.specs.NetworkProducts.{ComposedFrom, IsAround}
use Rattle.lin_driver.specs.NetworkScopes.{everything, beginning, plain_scope, plain_sign, those_or_all}
use Rattle.lin_driver.specs.Parts.{Composes, HasItsParts}
use Rattle.lin_driver.specs.PlainlyMade.{ComposesPlainly, StaysPlainAround}
use Rattle.lin_driver.proofs.TakenNames.{if_ok}
use Rattle.lin_driver.proofs.ComposedNetworks.{operator_parts, part_fits, operator_fits_then, operator_composes, beside_parts, beside_composes, left_merged_is, synced_is, whole_parts, whole_composes, left_merged_composed_from, synced_composed_from, all_with, from_place, none_composes, first_of_all, joining_at, joining_done, left_joining, left_joined, first_has, joins_first, next_has, joined_fits, next_one_fits, joins_next, joins_all, first_of_two, if_ok_all, if_ok_both, no_part, some_part, parts_smaller, left_merged_smaller, inner_smaller, part_no_larger, synced_smaller, operator_composed_from, beside_composed_from, none_composed_from, joined_from_all, scope_fits_then, leaf_composed_from}
use Rattle.lin_driver.proofs.PlainNetworks.{taken_plainly, operator_plainly, beside_plainly, whole_plainly, comms_go, comms_go_first, comms_go_second, first_plainly, next_plainly}
use Rattle.lin_driver.proofs.composing.+compose.Goals as goal

pub compose-compose_beside-requires : goal.compose-compose_beside-requires
compose-compose_beside-requires t c = (
  omega (arith, parts_smaller c.args.network.now c.in-Merge.networks c.deref.result.now c.in-Merge.is c.deref.ensures.value, c.decreases),
  beside_parts (plain_scope c.args.within.now) c.args.sig.now c.args.pool.now.trees c.args.network.now c.in-Merge.networks c.deref.result.now (map plain_linear c.args.parts.now.items) c.in-Merge.is c.deref.ensures.value c.requires,
)

pub compose-compose-requires : goal.compose-compose-requires
compose-compose-requires t c = (
  omega (arith, inner_smaller c.args.network.now c.in-Op.operator c.in-Op.part c.deref-in-Op.result.now c.in-Op.is c.deref-in-Op.ensures, c.decreases),
  operator_parts (plain_scope c.args.within.now) (plain_scope c.in_ok-inner-in-Op.inner) c.args.sig.now c.args.pool.now.trees c.args.network.now c.in-Op.operator c.in-Op.part c.deref-in-Op.result.now (map plain_linear c.args.parts.now.items) c.in-Op.is c.deref-in-Op.ensures c.in_ok-inner-in-Op.ensures c.requires,
)

pub compose-around-requires-clause-fits : goal.compose-around-requires-clause-fits
compose-around-requires-clause-fits t c =
    let queue = map plain_linear c.args.parts.now.items in
    part_fits (plain_scope c.in_ok-inner-in-Op.inner) c.args.sig.now c.compose.new.sig c.args.pool.now.trees c.compose.new.pool.trees (plain_network c.deref-in-Op.result.now) queue (map plain_linear c.compose.new.parts.items) (plain_linear c.in_ok-linear-in-Op.linear)
    (operator_parts (plain_scope c.args.within.now) (plain_scope c.in_ok-inner-in-Op.inner) c.args.sig.now c.args.pool.now.trees c.args.network.now c.in-Op.operator c.in-Op.part c.deref-in-Op.result.now queue c.in-Op.is c.deref-in-Op.ensures c.in_ok-inner-in-Op.ensures c.requires) c.in_ok-linear-in-Op.ensures.composed

pub compose-around-requires-clause-operator : goal.compose-around-requires-clause-operator
compose-around-requires-clause-operator t c =
    operator_fits_then (plain_scope c.args.within.now) c.args.sig.now c.compose.new.sig c.args.pool.now.trees c.args.network.now c.in-Op.operator c.in-Op.part (map plain_linear c.args.parts.now.items) c.in-Op.is c.compose.ensures.grown c.requires

pub compose-returns-in-Leaf-clause-grown : goal.compose-returns-in-Leaf-clause-grown
compose-returns-in-Leaf-clause-grown t c = names_none c.args.sig.now c.signature_stands.ensures

pub compose-returns-in-Merge-clause-composed : goal.compose-returns-in-Merge-clause-composed
compose-returns-in-Merge-clause-composed t c =
    let g = c.args.sig.now in
    let h = c.compose_beside.new.sig in
    let ts = c.args.pool.now.trees in
    let us = c.compose_beside.new.pool.trees in
    let queue = map plain_linear c.args.parts.now.items in
    let left = map plain_linear c.compose_beside.new.parts.items in
    if_ok c.compose_beside.result (λ made. Composes (plain_scope c.args.within.now) g ts (side_by_side (networks_of (map plain_network c.deref.result.now))) queue h us left (plain_linear made)) (λ made. Composes (plain_scope c.args.within.now) g ts (plain_network c.args.network.now) queue h us left (plain_linear made))
    (λ made f. beside_composes (plain_scope c.args.within.now) g h ts us c.args.network.now c.in-Merge.networks c.deref.result.now queue left (plain_linear made) c.in-Merge.is c.deref.ensures.value f) c.compose_beside.ensures.composed

pub compose-returns-in_ok-linear-in-Op-clause-composed : goal.compose-returns-in_ok-linear-in-Op-clause-composed
compose-returns-in_ok-linear-in-Op-clause-composed t c =
    let g = c.args.sig.now in
    let h = c.compose.new.sig in
    let ts = c.args.pool.now.trees in
    let us = c.compose.new.pool.trees in
    let vs = c.around.new.pool.trees in
    let queue = map plain_linear c.args.parts.now.items in
    let left = map plain_linear c.compose.new.parts.items in
    let l = plain_linear c.in_ok-linear-in-Op.linear in
    let a = plain_operator c.in-Op.operator in
    if_ok_all c.around.result (λ made. (plain_linear made).params ≡ l.params) (λ made. Fits h vs (plain_linear made)) (λ made. IsGoodAround h vs a l (plain_linear made)) (λ made. Composes (plain_scope c.args.within.now) g ts (plain_network c.args.network.now) queue h vs left (plain_linear made))
    (λ made params fits good.
    operator_composes (plain_scope c.args.within.now) (plain_scope c.in_ok-inner-in-Op.inner) g h ts us vs c.args.network.now c.in-Op.operator c.in-Op.part c.deref-in-Op.result.now queue left l (plain_linear made) c.in-Op.is c.deref-in-Op.ensures c.in_ok-inner-in-Op.ensures c.compose.ensures.grown c.in_ok-linear-in-Op.ensures.composed c.around.ensures.kept params fits good)
    c.around.ensures.params c.around.ensures.fits c.around.ensures.bisimilar

-- ---- plain conditions
pub compose-returns-in-Leaf-clause-plain : goal.compose-returns-in-Leaf-clause-plain
compose-returns-in-Leaf-clause-plain t c = taken_plainly c.args.sig.now c.args.pool.now (plain_network c.args.network.now) (map plain_linear c.args.parts.now.items) (map plain_linear c.take_first.new.parts.items) (plain_linear c.take_first.result) c.take_first.ensures

pub compose-returns-in-Merge-clause-plain : goal.compose-returns-in-Merge-clause-plain
compose-returns-in-Merge-clause-plain t c =
    let g = c.args.sig.now in
    let h = c.compose_beside.new.sig in
    let p = c.args.pool.now in
    let q = c.compose_beside.new.pool in
    let queue = map plain_linear c.args.parts.now.items in
    let left = map plain_linear c.compose_beside.new.parts.items in
    if_ok c.compose_beside.result (λ made. ComposesPlainly g p (side_by_side (networks_of (map plain_network c.deref.result.now))) queue h q left (plain_linear made)) (λ made. ComposesPlainly g p (plain_network c.args.network.now) queue h q left (plain_linear made))
    (λ made f. beside_plainly g h p q c.args.network.now c.in-Merge.networks c.deref.result.now queue left (plain_linear made) c.in-Merge.is c.deref.ensures.value f) c.compose_beside.ensures.plain

pub compose-returns-in_ok-linear-in-Op-clause-plain : goal.compose-returns-in_ok-linear-in-Op-clause-plain
compose-returns-in_ok-linear-in-Op-clause-plain t c =
    let g = c.args.sig.now in
    let h = c.compose.new.sig in
    let p = c.args.pool.now in
    let q = c.compose.new.pool in
    let r = c.around.new.pool in
    let queue = map plain_linear c.args.parts.now.items in
    let left = map plain_linear c.compose.new.parts.items in
    let l = plain_linear c.in_ok-linear-in-Op.linear in
    if_ok c.around.result (λ made. StaysPlainAround h q r (plain_operator c.in-Op.operator) l (plain_linear made)) (λ made. ComposesPlainly g p (plain_network c.args.network.now) queue h r left (plain_linear made))
    (λ made stays. operator_plainly g h p q r c.args.network.now c.in-Op.operator c.in-Op.part c.deref-in-Op.result.now queue left l (plain_linear made) c.in-Op.is c.deref-in-Op.ensures c.compose.ensures.grown.stands c.around.ensures.kept c.in_ok-linear-in-Op.ensures.plain stays) c.around.ensures.plain

pub compose-returns-in-Leaf-clause-first : goal.compose-returns-in-Leaf-clause-first
compose-returns-in-Leaf-clause-first t c = λ k e. c.take_first.ensures

-- ---- from what it is composed
pub compose-returns-in-Merge-clause-from : goal.compose-returns-in-Merge-clause-from
compose-returns-in-Merge-clause-from t c =
    let w = plain_scope c.args.within.now in
    let g = c.args.sig.now in
    let h = c.compose_beside.new.sig in
    let ts = c.args.pool.now.trees in
    let us = c.compose_beside.new.pool.trees in
    let queue = map plain_linear c.args.parts.now.items in
    let left = map plain_linear c.compose_beside.new.parts.items in
    if_ok c.compose_beside.result (λ made. ComposedFrom w g ts (side_by_side (networks_of (map plain_network c.deref.result.now))) queue h us left (plain_linear made)) (λ made. ComposedFrom w g ts (plain_network c.args.network.now) queue h us left (plain_linear made))
    (λ made f. beside_composed_from w g h ts us c.args.network.now c.in-Merge.networks c.deref.result.now queue left (plain_linear made) c.in-Merge.is c.deref.ensures.value f) c.compose_beside.ensures.from

pub compose-returns-in_ok-linear-in-Op-clause-from : goal.compose-returns-in_ok-linear-in-Op-clause-from
compose-returns-in_ok-linear-in-Op-clause-from t c =
    let w = plain_scope c.args.within.now in
    let v = plain_scope c.in_ok-inner-in-Op.inner in
    let g = c.args.sig.now in
    let h = c.compose.new.sig in
    let ts = c.args.pool.now.trees in
    let us = c.compose.new.pool.trees in
    let vs = c.around.new.pool.trees in
    let queue = map plain_linear c.args.parts.now.items in
    let left = map plain_linear c.compose.new.parts.items in
    let l = plain_linear c.in_ok-linear-in-Op.linear in
    if_ok_both c.around.result (λ made. Fits h vs (plain_linear made)) (λ made. IsAround h us vs (plain_operator c.in-Op.operator) l (plain_linear made)) (λ made. ComposedFrom w g ts (plain_network c.args.network.now) queue h vs left (plain_linear made))
    (λ made fits is. operator_composed_from w v g h ts us vs c.args.network.now c.in-Op.operator c.in-Op.part c.deref-in-Op.result.now queue left l (plain_linear made) c.in-Op.is c.deref-in-Op.ensures c.in_ok-inner-in-Op.ensures c.in_ok-linear-in-Op.ensures.from c.around.ensures.kept fits is)
    c.around.ensures.fits c.around.ensures.around

-- ---- a left merge
pub compose-compose_left_merge-requires : goal.compose-compose_left_merge-requires
compose-compose_left_merge-requires t c = (
  omega (arith, left_merged_smaller c.args.network.now c.in-LeftMerge.first c.in-LeftMerge.second c.deref-in-LeftMerge.result.now c.deref-in-LeftMerge-2.result.now c.in-LeftMerge.is c.deref-in-LeftMerge.ensures c.deref-in-LeftMerge-2.ensures, c.decreases),
  whole_parts (plain_scope c.args.within.now) c.args.sig.now c.args.pool.now.trees (plain_network c.args.network.now) (left_merge (plain_network c.deref-in-LeftMerge.result.now) (plain_network c.deref-in-LeftMerge-2.result.now)) (map plain_linear c.args.parts.now.items)
      (left_merged_is c.args.network.now c.in-LeftMerge.first c.in-LeftMerge.second c.deref-in-LeftMerge.result.now c.deref-in-LeftMerge-2.result.now c.in-LeftMerge.is c.deref-in-LeftMerge.ensures c.deref-in-LeftMerge-2.ensures) c.requires,
)

pub compose-returns-in-LeftMerge-clause-composed : goal.compose-returns-in-LeftMerge-clause-composed
compose-returns-in-LeftMerge-clause-composed t c =
    let g = c.args.sig.now in
    let h = c.compose_left_merge.new.sig in
    let ts = c.args.pool.now.trees in
    let us = c.compose_left_merge.new.pool.trees in
    let queue = map plain_linear c.args.parts.now.items in
    let left = map plain_linear c.compose_left_merge.new.parts.items in
    let m = left_merge (plain_network c.deref-in-LeftMerge.result.now) (plain_network c.deref-in-LeftMerge-2.result.now) in
    let is = left_merged_is c.args.network.now c.in-LeftMerge.first c.in-LeftMerge.second c.deref-in-LeftMerge.result.now c.deref-in-LeftMerge-2.result.now c.in-LeftMerge.is c.deref-in-LeftMerge.ensures c.deref-in-LeftMerge-2.ensures in
    if_ok c.compose_left_merge.result (λ made. Composes everything g ts m queue h us left (plain_linear made)) (λ made. Composes (plain_scope c.args.within.now) g ts (plain_network c.args.network.now) queue h us left (plain_linear made))
    (λ made f. whole_composes (plain_scope c.args.within.now) g h ts us (plain_network c.args.network.now) m queue left (plain_linear made) is f) c.compose_left_merge.ensures.composed

pub compose-returns-in-LeftMerge-clause-from : goal.compose-returns-in-LeftMerge-clause-from
compose-returns-in-LeftMerge-clause-from t c =
    let w = plain_scope c.args.within.now in
    let g = c.args.sig.now in
    let h = c.compose_left_merge.new.sig in
    let ts = c.args.pool.now.trees in
    let us = c.compose_left_merge.new.pool.trees in
    let queue = map plain_linear c.args.parts.now.items in
    let left = map plain_linear c.compose_left_merge.new.parts.items in
    let first = plain_network c.deref-in-LeftMerge.result.now in
    let second = plain_network c.deref-in-LeftMerge-2.result.now in
    let is = left_merged_is c.args.network.now c.in-LeftMerge.first c.in-LeftMerge.second c.deref-in-LeftMerge.result.now c.deref-in-LeftMerge-2.result.now c.in-LeftMerge.is c.deref-in-LeftMerge.ensures c.deref-in-LeftMerge-2.ensures in
    if_ok c.compose_left_merge.result (λ made. ComposedFrom everything g ts (left_merge first second) queue h us left (plain_linear made)) (λ made. ComposedFrom w g ts (plain_network c.args.network.now) queue h us left (plain_linear made))
    (λ made f. left_merged_composed_from w g h ts us (plain_network c.args.network.now) first second queue left (plain_linear made) is f) c.compose_left_merge.ensures.from

pub compose-returns-in-LeftMerge-clause-plain : goal.compose-returns-in-LeftMerge-clause-plain
compose-returns-in-LeftMerge-clause-plain t c =
    let g = c.args.sig.now in
    let h = c.compose_left_merge.new.sig in
    let p = c.args.pool.now in
    let q = c.compose_left_merge.new.pool in
    let queue = map plain_linear c.args.parts.now.items in
    let left = map plain_linear c.compose_left_merge.new.parts.items in
    let m = left_merge (plain_network c.deref-in-LeftMerge.result.now) (plain_network c.deref-in-LeftMerge-2.result.now) in
    let is = left_merged_is c.args.network.now c.in-LeftMerge.first c.in-LeftMerge.second c.deref-in-LeftMerge.result.now c.deref-in-LeftMerge-2.result.now c.in-LeftMerge.is c.deref-in-LeftMerge.ensures c.deref-in-LeftMerge-2.ensures in
    if_ok c.compose_left_merge.result (λ made. ComposesPlainly g p m queue h q left (plain_linear made)) (λ made. ComposesPlainly g p (plain_network c.args.network.now) queue h q left (plain_linear made))
    (λ made f. whole_plainly g h p q (plain_network c.args.network.now) m queue left (plain_linear made) is f) c.compose_left_merge.ensures.plain

-- ---- networks with `|` between them
pub compose-compose_beside-requires-in-Sync : goal.compose-compose_beside-requires-in-Sync
compose-compose_beside-requires-in-Sync t c = (
  omega (arith, synced_smaller c.args.network.now c.in-Sync.networks c.deref-in-Sync.result.now c.in-Sync.is c.deref-in-Sync.ensures.value, c.decreases),
  whole_parts (plain_scope c.args.within.now) c.args.sig.now c.args.pool.now.trees (plain_network c.args.network.now) (sync (networks_of (map plain_network c.deref-in-Sync.result.now))) (map plain_linear c.args.parts.now.items)
      (synced_is c.args.network.now c.in-Sync.networks c.deref-in-Sync.result.now c.in-Sync.is c.deref-in-Sync.ensures.value) c.requires,
)

pub compose-returns-in-Sync-clause-composed : goal.compose-returns-in-Sync-clause-composed
compose-returns-in-Sync-clause-composed t c =
    let g = c.args.sig.now in
    let h = c.compose_beside-in-Sync.new.sig in
    let ts = c.args.pool.now.trees in
    let us = c.compose_beside-in-Sync.new.pool.trees in
    let queue = map plain_linear c.args.parts.now.items in
    let left = map plain_linear c.compose_beside-in-Sync.new.parts.items in
    let m = sync (networks_of (map plain_network c.deref-in-Sync.result.now)) in
    let is = synced_is c.args.network.now c.in-Sync.networks c.deref-in-Sync.result.now c.in-Sync.is c.deref-in-Sync.ensures.value in
    if_ok c.compose_beside-in-Sync.result (λ made. Composes everything g ts m queue h us left (plain_linear made)) (λ made. Composes (plain_scope c.args.within.now) g ts (plain_network c.args.network.now) queue h us left (plain_linear made))
    (λ made f. whole_composes (plain_scope c.args.within.now) g h ts us (plain_network c.args.network.now) m queue left (plain_linear made) is f) c.compose_beside-in-Sync.ensures.composed

pub compose-returns-in-Sync-clause-from : goal.compose-returns-in-Sync-clause-from
compose-returns-in-Sync-clause-from t c =
    let w = plain_scope c.args.within.now in
    let g = c.args.sig.now in
    let h = c.compose_beside-in-Sync.new.sig in
    let ts = c.args.pool.now.trees in
    let us = c.compose_beside-in-Sync.new.pool.trees in
    let queue = map plain_linear c.args.parts.now.items in
    let left = map plain_linear c.compose_beside-in-Sync.new.parts.items in
    let ns = networks_of (map plain_network c.deref-in-Sync.result.now) in
    let is = synced_is c.args.network.now c.in-Sync.networks c.deref-in-Sync.result.now c.in-Sync.is c.deref-in-Sync.ensures.value in
    if_ok c.compose_beside-in-Sync.result (λ made. ComposedFrom everything g ts (sync ns) queue h us left (plain_linear made)) (λ made. ComposedFrom w g ts (plain_network c.args.network.now) queue h us left (plain_linear made))
    (λ made f. synced_composed_from w g h ts us (plain_network c.args.network.now) ns queue left (plain_linear made) is f) c.compose_beside-in-Sync.ensures.from

pub compose-returns-in-Sync-clause-plain : goal.compose-returns-in-Sync-clause-plain
compose-returns-in-Sync-clause-plain t c =
    let g = c.args.sig.now in
    let h = c.compose_beside-in-Sync.new.sig in
    let p = c.args.pool.now in
    let q = c.compose_beside-in-Sync.new.pool in
    let queue = map plain_linear c.args.parts.now.items in
    let left = map plain_linear c.compose_beside-in-Sync.new.parts.items in
    let m = sync (networks_of (map plain_network c.deref-in-Sync.result.now)) in
    let is = synced_is c.args.network.now c.in-Sync.networks c.deref-in-Sync.result.now c.in-Sync.is c.deref-in-Sync.ensures.value in
    if_ok c.compose_beside-in-Sync.result (λ made. ComposesPlainly g p m queue h q left (plain_linear made)) (λ made. ComposesPlainly g p (plain_network c.args.network.now) queue h q left (plain_linear made))
    (λ made f. whole_plainly g h p q (plain_network c.args.network.now) m queue left (plain_linear made) is f) c.compose_beside-in-Sync.ensures.plain

pub compose-returns-in_err-inner-in-Op-clause-grown : goal.compose-returns-in_err-inner-in-Op-clause-grown
compose-returns-in_err-inner-in-Op-clause-grown t c = names_none c.args.sig.now c.signature_stands.ensures

pub compose-returns-in-Leaf-clause-from : goal.compose-returns-in-Leaf-clause-from
compose-returns-in-Leaf-clause-from t c =
    leaf_composed_from (plain_scope c.args.within.now) c.args.sig.now c.args.pool.now.trees c.args.network.now c.in-Leaf.field-0 (map plain_linear c.args.parts.now.items) (map plain_linear c.take_first.new.parts.items) (plain_linear c.take_first.result) c.in-Leaf.is c.take_first.ensures

-- ---- both sides of a left merge
pub compose_left_merge-compose-requires : goal.compose_left_merge-compose-requires
compose_left_merge-compose-requires t c =
    let m = plain_network c.args.first.now in
    let n = plain_network c.args.second.now in
    (omega (arith, c.decreases), first_has (beginning written.left_merge) c.args.sig.now c.args.pool.now.trees m (left_merge m n) (more_networks n no_networks) (map plain_linear c.args.parts.now.items) (first_of_two m n) c.requires)

pub compose_left_merge-compose-requires-2 : goal.compose_left_merge-compose-requires-2
compose_left_merge-compose-requires-2 t c =
    let m = plain_network c.args.first.now in
    let n = plain_network c.args.second.now in
    let g = c.args.sig.now in
    let ts = c.args.pool.now.trees in
    let queue = map plain_linear c.args.parts.now.items in
    let left = map plain_linear c.compose.new.parts.items in
    let l = plain_linear c.in_ok-left.left in (
      omega (arith, c.decreases),
      next_has (beginning written.left_merge) g ts (left_merge m n) queue n no_networks c.compose.new.sig c.compose.new.pool.trees left l c.requires
          (left_joining g c.compose.new.sig ts c.compose.new.pool.trees m n queue left l c.signature_stands.ensures c.compose.ensures.grown c.compose.ensures.kept c.in_ok-left.ensures.composed c.in_ok-left.ensures.from),
    )

pub compose_left_merge-product_from-requires-clause-left : goal.compose_left_merge-product_from-requires-clause-left
compose_left_merge-product_from-requires-clause-left t c =
    let m = plain_network c.args.first.now in
    let n = plain_network c.args.second.now in
    let g = c.args.sig.now in
    let ts = c.args.pool.now.trees in
    let queue = map plain_linear c.args.parts.now.items in
    let left = map plain_linear c.compose.new.parts.items in
    let l = plain_linear c.in_ok-left.left in
    joined_fits (beginning written.left_merge) g ts (left_merge m n) queue (more_networks n no_networks) c.compose.new.sig c.compose-2.new.sig c.compose.new.pool.trees c.compose-2.new.pool.trees left l c.requires
    (left_joining g c.compose.new.sig ts c.compose.new.pool.trees m n queue left l c.signature_stands.ensures c.compose.ensures.grown c.compose.ensures.kept c.in_ok-left.ensures.composed c.in_ok-left.ensures.from) c.compose-2.ensures.grown c.compose-2.ensures.kept

pub compose_left_merge-product_from-requires-clause-right : goal.compose_left_merge-product_from-requires-clause-right
compose_left_merge-product_from-requires-clause-right t c =
    let m = plain_network c.args.first.now in
    let n = plain_network c.args.second.now in
    let g = c.args.sig.now in
    let ts = c.args.pool.now.trees in
    let queue = map plain_linear c.args.parts.now.items in
    let left = map plain_linear c.compose.new.parts.items in
    let l = plain_linear c.in_ok-left.left in
    next_one_fits (beginning written.left_merge) g ts (left_merge m n) queue n no_networks c.compose.new.sig c.compose-2.new.sig c.compose.new.pool.trees c.compose-2.new.pool.trees left (map plain_linear c.compose-2.new.parts.items) l (plain_linear c.in_ok-right.right) c.requires
    (left_joining g c.compose.new.sig ts c.compose.new.pool.trees m n queue left l c.signature_stands.ensures c.compose.ensures.grown c.compose.ensures.kept c.in_ok-left.ensures.composed c.in_ok-left.ensures.from) c.in_ok-right.ensures.composed

pub compose_left_merge-returns-in_err-right-clause-grown : goal.compose_left_merge-returns-in_err-right-clause-grown
compose_left_merge-returns-in_err-right-clause-grown t c = names_then c.args.sig.now c.compose.new.sig c.compose-2.new.sig c.compose.ensures.grown c.compose-2.ensures.grown

pub compose_left_merge-returns-clause-grown : goal.compose_left_merge-returns-clause-grown
compose_left_merge-returns-clause-grown t c =
    names_then c.args.sig.now c.compose-2.new.sig c.product_from.new.sig (names_then c.args.sig.now c.compose.new.sig c.compose-2.new.sig c.compose.ensures.grown c.compose-2.ensures.grown) c.product_from.ensures.grown

pub compose_left_merge-returns-clause-composed : goal.compose_left_merge-returns-clause-composed
compose_left_merge-returns-clause-composed t c =
    let m = plain_network c.args.first.now in
    let n = plain_network c.args.second.now in
    let g = c.args.sig.now in
    let h = c.compose.new.sig in
    let i = c.compose-2.new.sig in
    let j = c.product_from.new.sig in
    let ts = c.args.pool.now.trees in
    let us = c.compose.new.pool.trees in
    let vs = c.compose-2.new.pool.trees in
    let ws = c.product_from.new.pool.trees in
    let queue = map plain_linear c.args.parts.now.items in
    let between = map plain_linear c.compose.new.parts.items in
    let left = map plain_linear c.compose-2.new.parts.items in
    let l = plain_linear c.in_ok-left.left in
    let r = plain_linear c.in_ok-right.right in
    if_ok_all c.product_from.result (λ made. Fits j ws (plain_linear made)) (λ made. IsProductFrom written.left_merge i j ws l r (plain_linear made)) (λ made. IsGoodProductFrom written.left_merge j ws l r (plain_linear made))
    (λ made. Composes everything g ts (left_merge m n) queue j ws left (plain_linear made))
    (λ made fits is good.
    joins_all (beginning written.left_merge) g ts (left_merge m n) queue j ws left (plain_linear made)
    (left_joined g h i j ts us vs ws m n queue between left l r (plain_linear made) c.signature_stands.ensures c.compose.ensures.grown c.compose.ensures.kept c.in_ok-left.ensures.composed c.in_ok-left.ensures.from c.compose-2.ensures.grown c.compose-2.ensures.kept c.in_ok-right.ensures.composed
    c.in_ok-right.ensures.from c.product_from.ensures.grown c.product_from.ensures.kept fits is good))
    c.product_from.ensures.fits c.product_from.ensures.made c.product_from.ensures.bisimilar

pub compose_left_merge-returns-clause-from : goal.compose_left_merge-returns-clause-from
compose_left_merge-returns-clause-from t c =
    let m = plain_network c.args.first.now in
    let n = plain_network c.args.second.now in
    let g = c.args.sig.now in
    let h = c.compose.new.sig in
    let i = c.compose-2.new.sig in
    let j = c.product_from.new.sig in
    let ts = c.args.pool.now.trees in
    let us = c.compose.new.pool.trees in
    let vs = c.compose-2.new.pool.trees in
    let ws = c.product_from.new.pool.trees in
    let queue = map plain_linear c.args.parts.now.items in
    let between = map plain_linear c.compose.new.parts.items in
    let left = map plain_linear c.compose-2.new.parts.items in
    let l = plain_linear c.in_ok-left.left in
    let r = plain_linear c.in_ok-right.right in
    if_ok_all c.product_from.result (λ made. Fits j ws (plain_linear made)) (λ made. IsProductFrom written.left_merge i j ws l r (plain_linear made)) (λ made. IsGoodProductFrom written.left_merge j ws l r (plain_linear made))
    (λ made. ComposedFrom everything g ts (left_merge m n) queue j ws left (plain_linear made))
    (λ made fits is good.
    joined_from_all (beginning written.left_merge) g ts (left_merge m n) queue j ws left (plain_linear made)
    (left_joined g h i j ts us vs ws m n queue between left l r (plain_linear made) c.signature_stands.ensures c.compose.ensures.grown c.compose.ensures.kept c.in_ok-left.ensures.composed c.in_ok-left.ensures.from c.compose-2.ensures.grown c.compose-2.ensures.kept c.in_ok-right.ensures.composed
    c.in_ok-right.ensures.from c.product_from.ensures.grown c.product_from.ensures.kept fits is good))
    c.product_from.ensures.fits c.product_from.ensures.made c.product_from.ensures.bisimilar

pub compose_left_merge-returns-clause-plain : goal.compose_left_merge-returns-clause-plain
compose_left_merge-returns-clause-plain t c =
    let m = plain_network c.args.first.now in
    let n = plain_network c.args.second.now in
    let g = c.args.sig.now in
    let h = c.compose.new.sig in
    let i = c.compose-2.new.sig in
    let j = c.product_from.new.sig in
    let p = c.args.pool.now in
    let q = c.compose.new.pool in
    let r = c.compose-2.new.pool in
    let u = c.product_from.new.pool in
    let queue = map plain_linear c.args.parts.now.items in
    let between = map plain_linear c.compose.new.parts.items in
    let left = map plain_linear c.compose-2.new.parts.items in
    let a = plain_linear c.in_ok-left.left in
    let b = plain_linear c.in_ok-right.right in
    if_ok_both c.product_from.result (λ made. Fits j u.trees (plain_linear made)) (λ made. IsProductFrom written.left_merge i j u.trees a b (plain_linear made)) (λ made. ComposesPlainly g p (left_merge m n) queue j u left (plain_linear made))
    (λ made fits is.
    next_plainly (beginning written.left_merge) g h i j p q r u n (left_merge m n) queue between left a b (plain_linear made) (comms_go_second m n) c.compose.ensures.grown
    (first_plainly g h p q m (left_merge m n) queue between a (comms_go_first m n) c.in_ok-left.ensures.plain) c.compose-2.ensures.grown c.compose-2.ensures.kept c.in_ok-right.ensures.plain c.product_from.ensures.grown c.product_from.ensures.kept fits is)
    c.product_from.ensures.fits c.product_from.ensures.made

-- ---- one of networks with a sign between them
pub compose_one-compose-requires : goal.compose_one-compose-requires
compose_one-compose-requires t c = (
  omega (arith, c.decreases),
  subst (λ w. HasItsParts w c.args.sig.now c.args.pool.now.trees (plain_network c.args.network.now) (map plain_linear c.args.parts.now.items)) (sym (sym (ap those_or_all c.in-Some.is) ∙ c.beside.ensures)) c.requires,
)

pub compose_one-compose-requires-in-None : goal.compose_one-compose-requires-in-None
compose_one-compose-requires-in-None t c = (
  omega (arith, c.decreases),
  subst (λ w. HasItsParts w c.args.sig.now c.args.pool.now.trees (plain_network c.args.network.now) (map plain_linear c.args.parts.now.items)) (sym (sym (ap those_or_all c.in-None.is) ∙ c.beside.ensures)) c.requires,
)

pub compose_one-returns-in-Some-clause-composed : goal.compose_one-returns-in-Some-clause-composed
compose_one-returns-in-Some-clause-composed t c =
    subst (λ w. IfOk c.compose.result (λ made. Composes w c.args.sig.now c.args.pool.now.trees (plain_network c.args.network.now) (map plain_linear c.args.parts.now.items) c.compose.new.sig c.compose.new.pool.trees (map plain_linear c.compose.new.parts.items) (plain_linear made)))
    (sym (ap those_or_all c.in-Some.is) ∙ c.beside.ensures) c.compose.ensures.composed

pub compose_one-returns-in-Some-clause-from : goal.compose_one-returns-in-Some-clause-from
compose_one-returns-in-Some-clause-from t c =
    subst (λ w. IfOk c.compose.result (λ made. ComposedFrom w c.args.sig.now c.args.pool.now.trees (plain_network c.args.network.now) (map plain_linear c.args.parts.now.items) c.compose.new.sig c.compose.new.pool.trees (map plain_linear c.compose.new.parts.items) (plain_linear made)))
    (sym (ap those_or_all c.in-Some.is) ∙ c.beside.ensures) c.compose.ensures.from

pub compose_one-returns-in-None-clause-composed : goal.compose_one-returns-in-None-clause-composed
compose_one-returns-in-None-clause-composed t c =
    subst
    (λ w. IfOk c.compose-in-None.result (λ made. Composes w c.args.sig.now c.args.pool.now.trees (plain_network c.args.network.now) (map plain_linear c.args.parts.now.items) c.compose-in-None.new.sig c.compose-in-None.new.pool.trees (map plain_linear c.compose-in-None.new.parts.items) (plain_linear made)))
    (sym (ap those_or_all c.in-None.is) ∙ c.beside.ensures) c.compose-in-None.ensures.composed

pub compose_one-returns-in-None-clause-from : goal.compose_one-returns-in-None-clause-from
compose_one-returns-in-None-clause-from t c =
    subst
    (λ w. IfOk c.compose-in-None.result (λ made. ComposedFrom w c.args.sig.now c.args.pool.now.trees (plain_network c.args.network.now) (map plain_linear c.args.parts.now.items) c.compose-in-None.new.sig c.compose-in-None.new.pool.trees (map plain_linear c.compose-in-None.new.parts.items) (plain_linear made)))
    (sym (ap those_or_all c.in-None.is) ∙ c.beside.ensures) c.compose-in-None.ensures.from

-- ---- all of them
pub compose_beside-returns-then-is_empty-clause-grown : goal.compose_beside-returns-then-is_empty-clause-grown
compose_beside-returns-then-is_empty-clause-grown t c = names_none c.args.sig.now c.signature_stands.ensures

pub compose_beside-returns-then-is_empty-clause-composed : goal.compose_beside-returns-then-is_empty-clause-composed
compose_beside-returns-then-is_empty-clause-composed t c =
    none_composes c.args.sign c.args.sig.now c.args.pool.now.trees c.args.networks.now (map plain_linear c.args.parts.now.items) (map plain_linear c.take_first.new.parts.items) (plain_linear c.take_first.result)
    (no_part c.args.networks.now c.is_empty.result c.is_empty.ensures c.if-is_empty.true) c.take_first.ensures

pub compose_beside-returns-then-is_empty-clause-from : goal.compose_beside-returns-then-is_empty-clause-from
compose_beside-returns-then-is_empty-clause-from t c =
    none_composed_from c.args.sign c.args.sig.now c.args.pool.now.trees c.args.networks.now (map plain_linear c.args.parts.now.items) (map plain_linear c.take_first.new.parts.items) (plain_linear c.take_first.result)
    (no_part c.args.networks.now c.is_empty.result c.is_empty.ensures c.if-is_empty.true) c.take_first.ensures

pub compose_beside-returns-then-is_empty-clause-plain : goal.compose_beside-returns-then-is_empty-clause-plain
compose_beside-returns-then-is_empty-clause-plain t c =
    taken_plainly c.args.sig.now c.args.pool.now (all_with c.args.sign c.args.networks.now) (map plain_linear c.args.parts.now.items) (map plain_linear c.take_first.new.parts.items) (plain_linear c.take_first.result) c.take_first.ensures

pub compose_beside-compose_one-requires : goal.compose_beside-compose_one-requires
compose_beside-compose_one-requires t c =
    let xs = c.args.networks.now in
    let x = c.index-networks-0.result in
    let some = some_part xs c.is_empty.result c.is_empty.ensures c.if-is_empty.false in (
      omega (arith, part_no_larger xs 0 x some c.index-networks-0.is, c.decreases),
      first_has (plain_sign c.args.sign) c.args.sig.now c.args.pool.now.trees (plain_network x) (all_with c.args.sign xs) (from_place xs 1) (map plain_linear c.args.parts.now.items) (first_of_all c.args.sign xs x some c.index-networks-0.is) c.requires,
    )

pub compose_beside-loop-place-init : goal.compose_beside-loop-place-init
compose_beside-loop-place-init t c =
    let xs = c.args.networks.now in
    let x = c.index-networks-0.result in
    let whole = all_with c.args.sign xs in
    let queue = map plain_linear c.args.parts.now.items in
    let left = map plain_linear c.compose_one.new.parts.items in
    let l = plain_linear c.in_ok-joined.joined in
    let some = some_part xs c.is_empty.result c.is_empty.ensures c.if-is_empty.false in (
      joins_first (plain_sign c.args.sign) c.args.sig.now c.compose_one.new.sig c.args.pool.now.trees c.compose_one.new.pool.trees (plain_network x) whole (from_place xs 1) queue left l (first_of_all c.args.sign xs x some c.index-networks-0.is) c.signature_stands.ensures
          c.compose_one.ensures.grown c.compose_one.ensures.kept c.in_ok-joined.ensures.composed c.in_ok-joined.ensures.from,
      c.compose_one.ensures.constants,
      first_plainly c.args.sig.now c.compose_one.new.sig c.args.pool.now c.compose_one.new.pool (plain_network x) whole queue left l (comms_go c.args.sign xs 0 x some c.index-networks-0.is) c.in_ok-joined.ensures.plain,
    )

pub compose_beside-compose_one-requires-in-loop-place : goal.compose_beside-compose_one-requires-in-loop-place
compose_beside-compose_one-requires-in-loop-place t c =
    let xs = c.args.networks.now in
    let x = c.index-networks-place.result in
    let place = c.loop-place.place in (
      omega (arith, part_no_larger xs place x c.loop-place-test.true c.index-networks-place.is, c.decreases),
      next_has (plain_sign c.args.sign) c.args.sig.now c.args.pool.now.trees (all_with c.args.sign xs) (map plain_linear c.args.parts.now.items) (plain_network x) (from_place xs (place + 1)) c.loop-place.sig c.loop-place.pool.trees (map plain_linear c.loop-place.parts.items) (plain_linear c.loop-place.joined) c.requires
          (joining_at (plain_sign c.args.sign) c.args.sig.now c.args.pool.now.trees (all_with c.args.sign xs) (map plain_linear c.args.parts.now.items) xs place x c.loop-place.sig c.loop-place.pool.trees (map plain_linear c.loop-place.parts.items) (plain_linear c.loop-place.joined) c.loop-place-test.true
          c.index-networks-place.is c.loop-place.invariant.0),
    )

pub compose_beside-join-requires-clause-left : goal.compose_beside-join-requires-clause-left
compose_beside-join-requires-clause-left t c =
    joined_fits (plain_sign c.args.sign) c.args.sig.now c.args.pool.now.trees (all_with c.args.sign c.args.networks.now) (map plain_linear c.args.parts.now.items) (from_place c.args.networks.now c.loop-place.place) c.loop-place.sig c.compose_one-in-loop-place.new.sig c.loop-place.pool.trees
    c.compose_one-in-loop-place.new.pool.trees (map plain_linear c.loop-place.parts.items) (plain_linear c.loop-place.joined) c.requires c.loop-place.invariant.0 c.compose_one-in-loop-place.ensures.grown c.compose_one-in-loop-place.ensures.kept

pub compose_beside-join-requires-clause-right : goal.compose_beside-join-requires-clause-right
compose_beside-join-requires-clause-right t c =
    let xs = c.args.networks.now in
    let x = c.index-networks-place.result in
    let place = c.loop-place.place in
    next_one_fits (plain_sign c.args.sign) c.args.sig.now c.args.pool.now.trees (all_with c.args.sign xs) (map plain_linear c.args.parts.now.items) (plain_network x) (from_place xs (place + 1)) c.loop-place.sig c.compose_one-in-loop-place.new.sig c.loop-place.pool.trees c.compose_one-in-loop-place.new.pool.trees
    (map plain_linear c.loop-place.parts.items) (map plain_linear c.compose_one-in-loop-place.new.parts.items) (plain_linear c.loop-place.joined) (plain_linear c.in_ok-linear.linear) c.requires
    (joining_at (plain_sign c.args.sign) c.args.sig.now c.args.pool.now.trees (all_with c.args.sign xs) (map plain_linear c.args.parts.now.items) xs place x c.loop-place.sig c.loop-place.pool.trees (map plain_linear c.loop-place.parts.items) (plain_linear c.loop-place.joined) c.loop-place-test.true
    c.index-networks-place.is c.loop-place.invariant.0) c.in_ok-linear.ensures.composed

pub compose_beside-join-requires-clause-scope : goal.compose_beside-join-requires-clause-scope
compose_beside-join-requires-clause-scope t c =
    scope_fits_then (plain_sign c.args.sign) c.args.sig.now c.args.pool.now.trees (all_with c.args.sign c.args.networks.now) (map plain_linear c.args.parts.now.items) c.compose_one-in-loop-place.new.sig c.requires
    (names_then c.args.sig.now c.loop-place.sig c.compose_one-in-loop-place.new.sig c.loop-place.invariant.0.grown c.compose_one-in-loop-place.ensures.grown)

pub compose_beside-returns-in_err-joined-2-clause-grown : goal.compose_beside-returns-in_err-joined-2-clause-grown
compose_beside-returns-in_err-joined-2-clause-grown t c =
    names_then c.args.sig.now c.loop-place.sig c.join.new.sig c.loop-place.invariant.0.grown (names_then c.loop-place.sig c.compose_one-in-loop-place.new.sig c.join.new.sig c.compose_one-in-loop-place.ensures.grown c.join.ensures.grown)

pub compose_beside-loop-place-preserved : goal.compose_beside-loop-place-preserved
compose_beside-loop-place-preserved t c =
    let b = plain_sign c.args.sign in
    let xs = c.args.networks.now in
    let x = c.index-networks-place.result in
    let place = c.loop-place.place in
    let whole = all_with c.args.sign xs in
    let queue = map plain_linear c.args.parts.now.items in
    let between = map plain_linear c.loop-place.parts.items in
    let left = map plain_linear c.compose_one-in-loop-place.new.parts.items in
    let so_far = plain_linear c.loop-place.joined in
    let one = plain_linear c.in_ok-linear.linear in
    let made = plain_linear c.in_ok-joined-2.joined in (
      joins_next b c.args.sig.now c.args.pool.now.trees whole queue (plain_network x) (from_place xs (place + 1)) c.loop-place.sig c.compose_one-in-loop-place.new.sig c.join.new.sig c.loop-place.pool.trees c.compose_one-in-loop-place.new.pool.trees c.join.new.pool.trees between left so_far one made
          (joining_at b c.args.sig.now c.args.pool.now.trees whole queue xs place x c.loop-place.sig c.loop-place.pool.trees between so_far c.loop-place-test.true c.index-networks-place.is c.loop-place.invariant.0) c.compose_one-in-loop-place.ensures.grown
          c.compose_one-in-loop-place.ensures.kept c.in_ok-linear.ensures.composed c.in_ok-linear.ensures.from c.join.ensures.grown c.join.ensures.kept c.in_ok-joined-2.ensures.fits c.in_ok-joined-2.ensures.joint c.in_ok-joined-2.ensures.bisimilar,
      c.join.ensures.constants ∙ c.compose_one-in-loop-place.ensures.constants ∙ c.loop-place.invariant.1,
      next_plainly b c.args.sig.now c.loop-place.sig c.compose_one-in-loop-place.new.sig c.join.new.sig c.args.pool.now c.loop-place.pool c.compose_one-in-loop-place.new.pool c.join.new.pool (plain_network x) whole queue between left so_far one made
          (comms_go c.args.sign xs place x c.loop-place-test.true c.index-networks-place.is) c.loop-place.invariant.0.grown c.loop-place.invariant.2 c.compose_one-in-loop-place.ensures.grown c.compose_one-in-loop-place.ensures.kept c.in_ok-linear.ensures.plain c.join.ensures.grown c.join.ensures.kept
          c.in_ok-joined-2.ensures.fits c.in_ok-joined-2.ensures.joint,
    )

pub compose_beside-returns-clause-composed : goal.compose_beside-returns-clause-composed
compose_beside-returns-clause-composed t c =
    let done = c.loop-place-test.false in
    let xs = c.args.networks.now in
    let all : length xs ≤ c.loop-place.place = omega (arith, done) in
    joins_all (plain_sign c.args.sign) c.args.sig.now c.args.pool.now.trees (all_with c.args.sign xs) (map plain_linear c.args.parts.now.items) c.loop-place.sig c.loop-place.pool.trees (map plain_linear c.loop-place.parts.items) (plain_linear c.loop-place.joined)
    (joining_done (plain_sign c.args.sign) c.args.sig.now c.args.pool.now.trees (all_with c.args.sign xs) (map plain_linear c.args.parts.now.items) xs c.loop-place.place c.loop-place.sig c.loop-place.pool.trees (map plain_linear c.loop-place.parts.items) (plain_linear c.loop-place.joined) all c.loop-place.invariant.0)

pub compose_beside-returns-clause-from : goal.compose_beside-returns-clause-from
compose_beside-returns-clause-from t c =
    let done = c.loop-place-test.false in
    let xs = c.args.networks.now in
    let all : length xs ≤ c.loop-place.place = omega (arith, done) in
    joined_from_all (plain_sign c.args.sign) c.args.sig.now c.args.pool.now.trees (all_with c.args.sign xs) (map plain_linear c.args.parts.now.items) c.loop-place.sig c.loop-place.pool.trees (map plain_linear c.loop-place.parts.items) (plain_linear c.loop-place.joined)
    (joining_done (plain_sign c.args.sign) c.args.sig.now c.args.pool.now.trees (all_with c.args.sign xs) (map plain_linear c.args.parts.now.items) xs c.loop-place.place c.loop-place.sig c.loop-place.pool.trees (map plain_linear c.loop-place.parts.items) (plain_linear c.loop-place.joined) all c.loop-place.invariant.0)

pub compose_beside-returns-clause-plain : goal.compose_beside-returns-clause-plain
compose_beside-returns-clause-plain t c = c.loop-place.invariant.2
