use Rattle.std.proofs.Common.{◌≡◌, ◌<◌, ◌∙◌, ⊎_elim, ℕ, List, length, sym, subst, arith}
use Rattle.std.specs.List.{Contains}
use Rattle.graphs.specs.Graphs.{successors, HasEdge}
use Rattle.graphs.proofs.Marks.{successors_at}
use Rattle.graphs.proofs.Kept.{edge_below}
use Rattle.sort_table.specs.IndexedKinds.{kinds_of_index}
use Rattle.sort_table.proofs.AliasCycles.{less_or_same}
use Rattle.sort_table.proofs.DeclaringLemmas.{goes_nowhere, goes_further, ready_there}
use Rattle.sort_table.proofs.sort_declaring.SortNames.add_levels.Goals as goal

pub loop-level-init : goal.loop-level-init
loop-level-init c = record {
  on = goes_nowhere (kinds_of_index c.args.self.now.index) c.args.self.now.ids.items c.args.signature.now c.requires.state;
  named = λ r p l h. absurd (omega (arith, l));
}

pub add_level-requires-clause-within : goal.add_level-requires-clause-within
add_level-requires-clause-within c = λ p h.
    let level : successors c.args.levels.now c.loop-level.level-index ≡ c.as_slice.result.now = successors_at c.args.levels.now c.loop-level.level-index c.level-item.result c.loop-level-test.true c.level-item.is ∙ sym c.as_slice.ensures.value in
    c.requires.levels.within c.loop-level.level-index p (subst (λ (l : List ℕ). Contains l p) (sym level) h)

pub add_level-requires-clause-ready : goal.add_level-requires-clause-ready
add_level-requires-clause-ready c = λ p h.
    let level : successors c.args.levels.now c.loop-level.level-index ≡ c.as_slice.result.now = successors_at c.args.levels.now c.loop-level.level-index c.level-item.result c.loop-level-test.true c.level-item.is ∙ sym c.as_slice.ensures.value in
    ready_there (kinds_of_index c.args.self.now.index) c.args.levels.now c.args.signature.now c.loop-level.signature c.loop-level.level-index p c.requires.sound c.requires.levels c.requires.own c.loop-level.invariant.on.keeps
    (λ q b l e. c.loop-level.invariant.named q b l e) (subst (λ (l : List ℕ). Contains l p) (sym level) h)

pub loop-level-preserved : goal.loop-level-preserved
loop-level-preserved c =
    let level : successors c.args.levels.now c.loop-level.level-index ≡ c.as_slice.result.now = successors_at c.args.levels.now c.loop-level.level-index c.level-item.result c.loop-level-test.true c.level-item.is ∙ sym c.as_slice.ensures.value in
    record {
      on = goes_further (kinds_of_index c.args.self.now.index) c.args.self.now.ids.items c.args.signature.now c.loop-level.signature c.add_level.new.signature c.loop-level.invariant.on c.in_ok-add_level.ensures.goes_on;
      named = λ r p l h n e first. ⊎_elim
          (λ less. c.in_ok-add_level.ensures.goes_on.keeps n (c.loop-level.invariant.named r p less h n e first))
          (λ same. c.in_ok-add_level.ensures.named p (subst (λ (l : List ℕ). Contains l p) level (subst (λ (q : ℕ). HasEdge c.args.levels.now q p) same h)) n e first)
          (less_or_same r c.loop-level.level-index (omega (arith, l)));
    }

pub returns-clause-named : goal.returns-clause-named
returns-clause-named c = λ p l n e first.
    let at = c.requires.levels.each p l in
    let below : at.0 < length c.args.levels.now = edge_below c.args.levels.now at.0 p at.1 in
    c.loop-level.invariant.named at.0 p (omega (arith, below)) at.1 n e first
