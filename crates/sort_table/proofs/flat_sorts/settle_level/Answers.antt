use Rattle.std.proofs.Common.{◌≡◌, ◌<◌, ◌∙◌, ap, ⊎_elim, ℕ, List, ◌∷◌, [], get_or, take, length, sym, subst, arith}
use Rattle.std.specs.List.{Contains}
use Rattle.std.proofs.lemmas.List.{take_more, length-take}
use Rattle.std.proofs.lemmas.List.Elements.{Contains-get_or, Contains-append_cases}
use Rattle.std.proofs.Math.Seq.{take-length}
use Rattle.graphs.proofs.Marks.{only_one}
use Rattle.sort_table.specs.IndexedKinds.{kinds_of_index}
use Rattle.sort_table.specs.FlatSorts.{AliasIsSettled}
use Rattle.sort_table.proofs.FlatSortLemmas.{keeps_all, keeps_on}
use Rattle.sort_table.proofs.flat_sorts.settle_level.Goals as goal

pub loop-place-init : goal.loop-place-init
loop-place-init c = record {
  on = keeps_all (kinds_of_index c.args.index.now) c.args.sorts.now.items c.requires.size;
  settled = λ p h. let l : h.0 < length (take 0 c.args.level.now) = h.1 in absurd (omega (arith, l, length-take 0 c.args.level.now));
}

pub settle-requires-clause-place : goal.settle-requires-clause-place
settle-requires-clause-place c = c.requires.within _ (Contains-get_or c.args.level.now c.loop-place.place-index 0 c.loop-place-test.true)

pub settle-requires-clause-size : goal.settle-requires-clause-size
settle-requires-clause-size c = c.loop-place.invariant.on.size

pub settle-requires-clause-ready : goal.settle-requires-clause-ready
settle-requires-clause-ready c = λ n e first m leaf.
    c.loop-place.invariant.on.keeps m (c.requires.ready _ (Contains-get_or c.args.level.now c.loop-place.place-index 0 c.loop-place-test.true) n e first m leaf)

pub loop-place-preserved : goal.loop-place-preserved
loop-place-preserved c = record {
  on = keeps_on (kinds_of_index c.args.index.now) c.args.sorts.now.items c.loop-place.sorts.items c.settle.new.sorts.items c.loop-place.invariant.on c.in_ok-settle.ensures.keeps;
  settled = λ p h n e first. ⊎_elim
      (λ before. c.in_ok-settle.ensures.keeps.keeps n (c.loop-place.invariant.settled p before n e first))
      (λ last. subst (λ (q : ℕ). AliasIsSettled (kinds_of_index c.args.index.now) q c.settle.new.sorts.items) (sym (only_one (get_or c.args.level.now c.loop-place.place-index 0) p last)) c.in_ok-settle.ensures.settled n e first)
      (Contains-append_cases (take c.loop-place.place-index c.args.level.now) (get_or c.args.level.now c.loop-place.place-index 0 ∷ []) p
      (subst (λ (l : List ℕ). Contains l p) (take_more c.args.level.now c.loop-place.place-index 0 c.loop-place-test.true) h));
}

pub returns-clause-settled : goal.returns-clause-settled
returns-clause-settled c = λ p h.
    let end : c.loop-place.place-index ≡ length c.args.level.now = omega arith in
    c.loop-place.invariant.settled p (subst (λ (l : List ℕ). Contains l p) (sym (ap (λ (i : ℕ). take i c.args.level.now) end ∙ take-length c.args.level.now)) h)
