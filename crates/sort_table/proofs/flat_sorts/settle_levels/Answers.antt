use Rattle.std.proofs.Common.{◌≡◌, ◌<◌, ◌∙◌, ⊎_elim, ℕ, List, length, sym, subst, arith}
use Rattle.std.specs.List.{Contains}
use Rattle.graphs.specs.Graphs.{successors, HasEdge}
use Rattle.graphs.proofs.Marks.{successors_at}
use Rattle.graphs.proofs.Kept.{edge_below}
use Rattle.sort_table.specs.IndexedKinds.{kinds_of_index}
use Rattle.sort_table.proofs.AliasCycles.{less_or_same}
use Rattle.sort_table.proofs.FlatSortLemmas.{keeps_all, keeps_on, ready_to_settle, all_settled}
use Rattle.sort_table.proofs.flat_sorts.settle_levels.Goals as goal

pub loop-level-init : goal.loop-level-init
loop-level-init c = record {
  on = keeps_all (kinds_of_index c.args.index.now) c.args.sorts.now.items c.requires.size;
  settled = λ r p l h. absurd (omega (arith, l));
}

pub settle_level-requires-clause-within : goal.settle_level-requires-clause-within
settle_level-requires-clause-within c = λ p h.
    let level : successors c.args.levels.now c.loop-level.level-index ≡ c.as_slice.result.now = successors_at c.args.levels.now c.loop-level.level-index c.level-item.result c.loop-level-test.true c.level-item.is ∙ sym c.as_slice.ensures.value in
    c.requires.levels.within c.loop-level.level-index p (subst (λ (l : List ℕ). Contains l p) (sym level) h)

pub settle_level-requires-clause-size : goal.settle_level-requires-clause-size
settle_level-requires-clause-size c = c.loop-level.invariant.on.size

pub settle_level-requires-clause-ready : goal.settle_level-requires-clause-ready
settle_level-requires-clause-ready c = λ p h.
    let level : successors c.args.levels.now c.loop-level.level-index ≡ c.as_slice.result.now = successors_at c.args.levels.now c.loop-level.level-index c.level-item.result c.loop-level-test.true c.level-item.is ∙ sym c.as_slice.ensures.value in
    ready_to_settle (kinds_of_index c.args.index.now) c.args.levels.now c.loop-level.sorts.items c.loop-level.level-index p c.requires.sound c.requires.levels
    (λ n k first own. c.loop-level.invariant.on.keeps n (c.requires.own n k first own))
    (λ q b l e. c.loop-level.invariant.settled q b l e) (subst (λ (l : List ℕ). Contains l p) (sym level) h)

pub loop-level-preserved : goal.loop-level-preserved
loop-level-preserved c =
    let level : successors c.args.levels.now c.loop-level.level-index ≡ c.as_slice.result.now = successors_at c.args.levels.now c.loop-level.level-index c.level-item.result c.loop-level-test.true c.level-item.is ∙ sym c.as_slice.ensures.value in
    record {
      on = keeps_on (kinds_of_index c.args.index.now) c.args.sorts.now.items c.loop-level.sorts.items c.settle_level.new.sorts.items c.loop-level.invariant.on c.in_ok-settle_level.ensures.keeps;
      settled = λ r p l h n e first. ⊎_elim
          (λ less. c.in_ok-settle_level.ensures.keeps.keeps n (c.loop-level.invariant.settled r p less h n e first))
          (λ same. c.in_ok-settle_level.ensures.settled p (subst (λ (l : List ℕ). Contains l p) level (subst (λ (q : ℕ). HasEdge c.args.levels.now q p) same h)) n e first)
          (less_or_same r c.loop-level.level-index (omega (arith, l)));
    }

pub returns : goal.returns
returns c =
    all_settled (kinds_of_index c.args.index.now) c.loop-level.sorts.items (λ n k first own. c.loop-level.invariant.on.keeps n (c.requires.own n k first own))
    (λ p l n e first.
    let at = c.requires.levels.each p l in
    let below : at.0 < length c.args.levels.now = edge_below c.args.levels.now at.0 p at.1 in
    c.loop-level.invariant.settled at.0 p (omega (arith, below)) at.1 n e first)
