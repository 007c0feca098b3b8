use Rattle.std.proofs.Common.{◌≡◌, ◌<◌, ◌+◌, ◌∙◌, ℕ, List, [], ◌∷◌, length, sym, ap, subst, arith}
use Rattle.std.specs.Prelude.{Some, slice_get}
use Rattle.std.proofs.lemmas.List.{length-append}
use Rattle.sort_table.specs.declared.flat_sorts.FlatSort.{FlatSort}
use Rattle.sort_table.specs.IndexedKinds.{kinds_of_index}
use Rattle.sort_table.specs.FlatSorts.{own_flat}
use Rattle.sort_table.proofs.FlatSortLemmas.{pushed_own, own_settled}
use Rattle.sort_table.proofs.flat_sorts.own_sorts.Goals as goal

pub loop-place-preserved : goal.loop-place-preserved
loop-place-preserved c =
    let l : length c.push.new.self.items ≡ length c.loop-place.sorts.items + 1 = ap (λ (ts : List FlatSort). length ts) c.in_ok-push.ensures.items ∙ length-append c.loop-place.sorts.items (own_flat c.loop-place.place ∷ []) in
    record {
      size = omega (arith, l, c.loop-place.invariant.size);
      own = λ p less. subst (λ (ts : List FlatSort). slice_get ts p ≡ Some (own_flat p)) (sym c.in_ok-push.ensures.items) (pushed_own c.loop-place.sorts.items c.loop-place.place c.loop-place.invariant.size c.loop-place.invariant.own p less);
    }

pub returns-clause-own : goal.returns-clause-own
returns-clause-own c =
    let end : c.loop-place.place ≡ length (kinds_of_index c.args.index.now) = omega (arith, c.len-place-end.ensures) in
    own_settled (kinds_of_index c.args.index.now) c.loop-place.sorts.items (λ p l. c.loop-place.invariant.own p (subst (λ (i : ℕ). p < i) (sym end) l))
