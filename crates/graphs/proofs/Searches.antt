-- A search of the reached nodes.
use Rattle.std.proofs.Common.{◌≡◌, ◌<◌, ◌⊎◌, inl, inr, Bool, ℕ, List, [], ◌∷◌, ◌++◌, length, sym, ◌∙◌, subst}
use Rattle.std.proofs.lemmas.List.Elements.{Contains-append_left, Contains-append_right, Contains-append_cases}
use Rattle.std.specs.List.{Contains}
use Rattle.std.specs.Global.{Vec}
use Rattle.graphs.specs.Graphs.{successors, HasEdge, IsMarked, IsPath, IsReached, AreReached}
use Rattle.graphs.specs.Marking.{MarksAll}
use Rattle.graphs.proofs.Marks.{marked_below, contains_last, only_one, none_contained}

-- a path goes on by an edge
pub path_on : (Edge : ℕ → ℕ → Type 0) (a : ℕ) (xs : List ℕ) (b c : ℕ) → IsPath Edge a xs b → Edge b c → IsPath Edge a (xs ++ b ∷ []) c
path_on Edge a [] b c path edge = (path, edge)
path_on Edge a (x ∷ xs) b c path edge = (path.0, path_on Edge x xs b c path.1 edge)

pub reached_on : (edges : List (Vec ℕ)) (start : List ℕ) (a b : ℕ) → IsReached edges start a → HasEdge edges a b → IsReached edges start b
reached_on edges start a b (inl begins) edge = inr (a, [], begins, edge)
reached_on edges start a b (inr (s, xs, begins, path)) edge = inr (s, xs ++ a ∷ [], begins, path_on (HasEdge edges) s xs a b path edge)

-- what is marked is reached; what follows a marked node that doesn't wait is marked
pub record IsSearch (edges : List (Vec ℕ)) (start : List ℕ) (reached : List Bool) (waiting : List ℕ) : Type 0 where
  pub size : length reached ≡ length edges
  pub sound : (b : ℕ) → IsMarked reached b → IsReached edges start b
  pub begun : (b : ℕ) → Contains start b → IsMarked reached b
  pub waits : (b : ℕ) → Contains waiting b → IsMarked reached b
  pub closed : (a b : ℕ) → IsMarked reached a → HasEdge edges a b → Contains waiting a ⊎ IsMarked reached b

pub search_begun : (edges : List (Vec ℕ)) (start : List ℕ) (none : List Bool) (reached : List Bool) (waiting : List ℕ) → length none ≡ length edges → ((b : ℕ) → IsMarked none b → ⊥) → MarksAll start none [] reached waiting → IsSearch edges start reached waiting
search_begun edges start none reached waiting size unmarked so = record {
  size = so.size ∙ size;
  sound = λ b marked. elim ((so.marked b).0 marked) [ inl was ↦ absurd (unmarked b was) | inr begins ↦ inl begins ];
  begun = λ b begins. (so.marked b).1 (inr begins);
  waits = λ b waits. elim (so.new b waits) [ inl was ↦ absurd (none_contained b was) | inr begins ↦ (so.marked b).1 (inr begins) ];
  closed = λ a b marked edge. elim (so.waits a marked) [ inl was ↦ absurd (unmarked a was) | inr waits ↦ inl waits ];
}

pub search_on : (edges : List (Vec ℕ)) (start : List ℕ) (reached : List Bool) (waiting all_waiting : List ℕ) (x : ℕ) (reached' : List Bool) (waiting' : List ℕ) → all_waiting ≡ waiting ++ x ∷ [] → IsSearch edges start reached all_waiting → MarksAll (successors edges x) reached waiting reached' waiting' → IsSearch edges start reached' waiting'
search_on edges start reached waiting all_waiting x reached' waiting' front was so =
    let earlier : (b : ℕ) → Contains (waiting ++ x ∷ []) b → IsMarked reached b = λ b waits. was.waits b (subst (λ (l : List ℕ). Contains l b) (sym front) waits) in
    let at_x : IsMarked reached x = earlier x (Contains-append_right waiting (x ∷ []) x (contains_last x)) in
    record {
      size = so.size ∙ was.size;
      sound = λ b marked. elim ((so.marked b).0 marked) [ inl before ↦ was.sound b before | inr follows ↦ reached_on edges start x b (was.sound x at_x) follows ];
      begun = λ b begins. (so.marked b).1 (inl (was.begun b begins));
      waits = λ b waits. elim (so.new b waits) [
        | inl before ↦ (so.marked b).1 (inl (earlier b (Contains-append_left waiting (x ∷ []) b before)))
        | inr follows ↦ (so.marked b).1 (inr follows)
      ];
      closed = λ a b marked edge. elim (so.waits a marked) [
        | inl before ↦ elim (was.closed a b before edge) [
          | inl waited ↦ elim (Contains-append_cases waiting (x ∷ []) a (subst (λ (l : List ℕ). Contains l a) front waited)) [
            | inl still ↦ inl (so.kept a still)
            | inr last ↦ inr ((so.marked b).1 (inr (subst (λ (n : ℕ). HasEdge edges n b) (only_one x a last) edge)))
          ]
          | inr done ↦ inr ((so.marked b).1 (inl done))
        ]
        | inr waits ↦ inl waits
      ];
    }

-- along a path from a marked node each node is marked
along : (edges : List (Vec ℕ)) (start : List ℕ) (reached : List Bool) → IsSearch edges start reached [] → (a : ℕ) (xs : List ℕ) (b : ℕ) → IsMarked reached a → IsPath (HasEdge edges) a xs b → IsMarked reached b
along edges start reached so a [] b marked path = elim (so.closed a b marked path) [ inl wrong ↦ absurd (none_contained a wrong) | inr done ↦ done ]
along edges start reached so a (x ∷ xs) b marked path = along edges start reached so x xs b (elim (so.closed a x marked path.0) [ inl wrong ↦ absurd (none_contained a wrong) | inr done ↦ done ]) path.1

pub search_ended : (edges : List (Vec ℕ)) (start : List ℕ) (reached : List Bool) (waiting : List ℕ) → waiting ≡ [] → IsSearch edges start reached waiting → AreReached edges start reached
search_ended edges start reached waiting none was =
    let so = subst (IsSearch edges start reached) none was in
    record {
      size = so.size;
      exact = λ b. (so.sound b, λ reaches. elim reaches [ inl begins ↦ so.begun b begins | inr (a, xs, begins, path) ↦ along edges start reached so a xs b (so.begun a begins) path ]);
    }

pub waiting_below : (edges : List (Vec ℕ)) (start : List ℕ) (reached : List Bool) (waiting all_waiting : List ℕ) (x : ℕ) → all_waiting ≡ waiting ++ x ∷ [] → IsSearch edges start reached all_waiting → x < length edges
waiting_below edges start reached waiting all_waiting x front was =
    let waits : Contains all_waiting x = subst (λ (l : List ℕ). Contains l x) (sym front) (Contains-append_right waiting (x ∷ []) x (contains_last x)) in
    subst (λ (n : ℕ). x < n) was.size (marked_below reached x (was.waits x waits))
