-- What the ranks say of the graph.
use Rattle.std.proofs.Common.{◌≡◌, ◌<◌, ◌+◌, inl, inr, Bool, true, false, ℕ, zero, suc, List, [], ◌∷◌, length, get_or, refl, sym, ap, ◌∙◌, subst, arith}
use Rattle.std.proofs.Math.ListN.{length-map}
use Rattle.std.specs.Prelude.{map, MatchBool}
use Rattle.std.specs.Global.{Vec}
use Rattle.graphs.specs.declared.order.State.{State}
use Rattle.graphs.specs.Graphs.{HasEdge, HasEdgeAmong, IsGraph, IsPath, HasCycle, AreRanks}
use Rattle.graphs.specs.Marking.{KeepsAmong}
use Rattle.graphs.specs.Settling.{state_at, rank_in, IsDone, IsSettling}
use Rattle.graphs.proofs.Marks.{same_or_not}
use Rattle.graphs.proofs.Kept.{edge_below}

pub path_map : (E F : ℕ → ℕ → Type 0) → ((a b : ℕ) → E a b → F a b) → (a : ℕ) (xs : List ℕ) (b : ℕ) → IsPath E a xs b → IsPath F a xs b
path_map E F turns a [] b path = turns a b path
path_map E F turns a (x ∷ xs) b path = (turns a x path.0, path_map E F turns x xs b path.1)

pub kept_graph : (edges : List (Vec ℕ)) (among : List Bool) (kept : List (Vec ℕ)) → IsGraph edges → KeepsAmong edges among kept → IsGraph kept
kept_graph edges among kept graph keeps a b edge = subst (λ (n : ℕ). b < n) (sym keeps.size) (graph a b ((keeps.exact a b).0 edge).1)

pub kept_cycle : (edges : List (Vec ℕ)) (among : List Bool) (kept : List (Vec ℕ)) → KeepsAmong edges among kept → HasCycle (HasEdge kept) → HasCycle (HasEdgeAmong edges among)
kept_cycle edges among kept keeps cycle = (cycle.0, cycle.1, path_map (HasEdge kept) (HasEdgeAmong edges among) (λ a b. (keeps.exact a b).0) cycle.0 cycle.1 cycle.0 cycle.2)

rank_read : (states : List State) (a : ℕ) → get_or (map rank_in states) a 0 ≡ rank_in (state_at states a)
rank_read [] a = refl
rank_read (s ∷ ss) zero = refl
rank_read (s ∷ ss) (suc a) = rank_read ss a

pub ranked_all : (edges : List (Vec ℕ)) (among : List Bool) (kept : List (Vec ℕ)) (seen : List ℕ) (states : List State) (count : ℕ) (ranks : List ℕ) → KeepsAmong edges among kept → IsSettling kept seen states [] count → ((a : ℕ) → a < length kept → IsDone states a) → ranks ≡ map rank_in states → AreRanks edges among ranks
ranked_all edges among kept seen states count ranks keeps so done is = rw is (record {
  size = length-map states rank_in ∙ so.states_size ∙ keeps.size;
  below = λ a within.
      let at_a = done a (omega (arith, within, keeps.size)) in
      let read_a : get_or (map rank_in states) a 0 ≡ at_a.0 = rank_read states a ∙ ap rank_in at_a.1 in
      omega (arith, so.below a at_a.0 at_a.1, so.counted, keeps.size);
  smaller = λ a b edge.
      let edge' : HasEdge kept a b = (keeps.exact a b).1 edge in
      let at_a = done a (edge_below kept a b edge') in
      let after = so.ranked a b at_a.0 edge' at_a.1 in
      let read_a : get_or (map rank_in states) a 0 ≡ at_a.0 = rank_read states a ∙ ap rank_in at_a.1 in
      let read_b : get_or (map rank_in states) b 0 ≡ after.0 = rank_read states b ∙ ap rank_in after.1 in
      omega (arith, after.2);
})

falls : (E : ℕ → ℕ → Type 0) (rank : ℕ → ℕ) → ((a b : ℕ) → E a b → rank b < rank a) → (a : ℕ) (xs : List ℕ) (b : ℕ) → IsPath E a xs b → rank b < rank a
falls E rank smaller a [] b path = smaller a b path
falls E rank smaller a (x ∷ xs) b path = let first = smaller a x path.0 in let rest = falls E rank smaller x xs b path.1 in omega arith

pub no_cycle : (edges : List (Vec ℕ)) (among : List Bool) (ranks : List ℕ) → AreRanks edges among ranks → HasCycle (HasEdgeAmong edges among) → ⊥
no_cycle edges among ranks are cycle =
    let less = falls (HasEdgeAmong edges among) (λ a. get_or ranks a 0) are.smaller cycle.0 cycle.1 cycle.0 cycle.2 in
    omega (arith, less)

-- one more node is done
pub done_more : (states states' : List State) (n : ℕ) → ((a : ℕ) → a < n → IsDone states a) → ((a : ℕ) → IsDone states a → IsDone states' a) → IsDone states' n → (a : ℕ) → a < n + 1 → IsDone states' a
done_more states states' n before kept here a below = elim (same_or_not a n) [
  | inl same ↦ subst (IsDone states') (sym same) here
  | inr differs ↦ kept a (before a (omega arith))
]

pub on_false : (P Q : Type 0) (b : Bool) → b ≡ false → MatchBool b P Q → Q
on_false P Q true is both = cc
on_false P Q false is both = both

pub on_true : (P Q : Type 0) (b : Bool) → b ≡ true → MatchBool b P Q → P
on_true P Q true is both = both
on_true P Q false is both = cc

pub cycle_kept : (edges : List (Vec ℕ)) (among : List Bool) (kept : List (Vec ℕ)) → KeepsAmong edges among kept → HasCycle (HasEdgeAmong edges among) → HasCycle (HasEdge kept)
cycle_kept edges among kept keeps cycle = (cycle.0, cycle.1, path_map (HasEdgeAmong edges among) (HasEdge kept) (λ a b. (keeps.exact a b).1) cycle.0 cycle.1 cycle.0 cycle.2)
