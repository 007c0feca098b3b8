-- Graphs made from graphs.
use Rattle.std.proofs.Common.{◌≡◌, ◌≢◌, ◌<◌, ◌+◌, ◌⊎◌, ◌↔◌, inl, inr, Bool, true, false, ℕ, zero, suc, List, [], ◌∷◌, ◌++◌, length, get_or, set, take, refl, sym, ap, ◌∙◌, subst, arith, length-append}
use Rattle.std.proofs.Math.ListN.{length-set}
use Rattle.std.proofs.lemmas.List.{take_more}
use Rattle.std.proofs.lemmas.List.Elements.{Contains-append_left, Contains-append_right, Contains-append_cases}
use Rattle.std.specs.List.{Contains}
use Rattle.std.specs.Global.{Vec}
use Rattle.std.specs.Prelude.{Result, Ok, Err, IfOk}
use Rattle.graphs.specs.Graphs.{successors, HasEdge, HasEdgeAmong, IsMarked, IsReversed}
use Rattle.graphs.specs.Marking.{KeepsMarked, KeepsAmong, AreTurned, TurnsEdges}
use Rattle.graphs.proofs.Marks.{contains_last, only_one, none_contained, same_or_not, marked_below, successors_at, read_any}

-- ---- successors in a longer and in a changed graph
pub successors-append_left : (vs : List (Vec ℕ)) (v : Vec ℕ) (a : ℕ) → a < length vs → successors (vs ++ v ∷ []) a ≡ successors vs a
successors-append_left [] v a below = absurd (omega arith)
successors-append_left (w ∷ ws) v zero below = refl
successors-append_left (w ∷ ws) v (suc a) below = successors-append_left ws v a (omega arith)

pub successors-append_last : (vs : List (Vec ℕ)) (v : Vec ℕ) (a : ℕ) → a ≡ length vs → successors (vs ++ v ∷ []) a ≡ v.items
successors-append_last [] v zero is = refl
successors-append_last [] v (suc a) is = absurd (omega arith)
successors-append_last (w ∷ ws) v zero is = absurd (omega arith)
successors-append_last (w ∷ ws) v (suc a) is = successors-append_last ws v a (omega arith)

pub edge_below : (vs : List (Vec ℕ)) (a b : ℕ) → HasEdge vs a b → a < length vs
edge_below [] a b edge = absurd (none_contained b edge)
edge_below (w ∷ ws) zero b edge = omega arith
edge_below (w ∷ ws) (suc a) b edge = let below = edge_below ws a b edge in omega arith

pub successors-set_same : (vs : List (Vec ℕ)) (i : ℕ) (v : Vec ℕ) → i < length vs → successors (set vs i v) i ≡ v.items
successors-set_same [] i v below = absurd (omega arith)
successors-set_same (w ∷ ws) zero v below = refl
successors-set_same (w ∷ ws) (suc i) v below = successors-set_same ws i v (omega arith)

pub successors-set_other : (vs : List (Vec ℕ)) (i : ℕ) (v : Vec ℕ) (a : ℕ) → a ≢ i → successors (set vs i v) a ≡ successors vs a
successors-set_other [] i v a differs = refl
successors-set_other (w ∷ ws) zero v zero differs = absurd (differs refl)
successors-set_other (w ∷ ws) zero v (suc a) differs = refl
successors-set_other (w ∷ ws) (suc i) v zero differs = refl
successors-set_other (w ∷ ws) (suc i) v (suc a) differs = successors-set_other ws i v a (λ same. differs (ap suc same))

-- ---- marked nodes
pub keeps_none : (marks : List Bool) → KeepsMarked [] marks []
keeps_none marks = record { exact = λ b. (λ wrong. absurd (none_contained b wrong), λ both. both.0) }

pub keeps_marked : (nodes : List ℕ) (marks : List Bool) (kept : List ℕ) (x : ℕ) → KeepsMarked nodes marks kept → IsMarked marks x → KeepsMarked (nodes ++ x ∷ []) marks (kept ++ x ∷ [])
keeps_marked nodes marks kept x so marked = record {
  exact = λ b. (
    λ has. elim (Contains-append_cases kept (x ∷ []) b has) [
      | inl before ↦ (Contains-append_left nodes (x ∷ []) b ((so.exact b).0 before).0, ((so.exact b).0 before).1)
      | inr last ↦ (Contains-append_right nodes (x ∷ []) b last, subst (IsMarked marks) (sym (only_one x b last)) marked)
    ],
    λ both. elim (Contains-append_cases nodes (x ∷ []) b both.0) [
      | inl before ↦ Contains-append_left kept (x ∷ []) b ((so.exact b).1 (before, both.1))
      | inr last ↦ Contains-append_right kept (x ∷ []) b last
    ],
  );
}

pub keeps_unmarked : (nodes : List ℕ) (marks : List Bool) (kept : List ℕ) (x : ℕ) → KeepsMarked nodes marks kept → (IsMarked marks x → ⊥) → KeepsMarked (nodes ++ x ∷ []) marks kept
keeps_unmarked nodes marks kept x so unmarked = record {
  exact = λ b. (
    λ has. (Contains-append_left nodes (x ∷ []) b ((so.exact b).0 has).0, ((so.exact b).0 has).1),
    λ both. elim (Contains-append_cases nodes (x ∷ []) b both.0) [
      | inl before ↦ (so.exact b).1 (before, both.1)
      | inr last ↦ absurd (unmarked (subst (IsMarked marks) (only_one x b last) both.1))
    ],
  );
}

-- ---- the graph between marked nodes, as far as its nodes are made
pub record KeepsFirst (edges : List (Vec ℕ)) (among : List Bool) (nodes : ℕ) (kept : List (Vec ℕ)) : Type 0 where
  pub size : length kept ≡ nodes
  pub exact : (a b : ℕ) → a < nodes → HasEdge kept a b ↔ HasEdgeAmong edges among a b

pub first_none : (edges : List (Vec ℕ)) (among : List Bool) (kept : List (Vec ℕ)) → kept ≡ [] → KeepsFirst edges among 0 kept
first_none edges among kept none = record { size = ap length none; exact = λ a b below. absurd (omega arith) }

pub first_more : (edges : List (Vec ℕ)) (among : List Bool) (nodes : ℕ) (kept kept' : List (Vec ℕ)) (v : Vec ℕ) → KeepsFirst edges among nodes kept → ((b : ℕ) → Contains v.items b ↔ HasEdgeAmong edges among nodes b) → kept' ≡ kept ++ v ∷ [] → KeepsFirst edges among (nodes + 1) kept'
first_more edges among nodes kept kept' v so exact push_is = rw push_is (record {
  size = omega (arith, length-append kept (v ∷ []), so.size);
  exact = λ a b below. elim (same_or_not a nodes) [
    | inl same ↦
        let last : successors (kept ++ v ∷ []) a ≡ v.items = successors-append_last kept v a (same ∙ sym so.size) in
        rw (last, same) (exact b)
    | inr differs ↦
        let before : a < nodes = omega arith in
        let left : successors (kept ++ v ∷ []) a ≡ successors kept a = successors-append_left kept v a (omega (arith, so.size)) in
        rw left (so.exact a b before)
  ];
})

pub first_all : (edges : List (Vec ℕ)) (among : List Bool) (kept : List (Vec ℕ)) → KeepsFirst edges among (length edges) kept → KeepsAmong edges among kept
first_all edges among kept so = record {
  size = so.size;
  exact = λ a b. (
    λ edge. (so.exact a b (subst (λ (n : ℕ). a < n) so.size (edge_below kept a b edge))).0 edge,
    λ edge. (so.exact a b (edge_below edges a b edge.1)).1 edge,
  );
}

-- ---- edges turned round
pub turns_none : (back : List (Vec ℕ)) (node : ℕ) → TurnsEdges back node [] back
turns_none back node = record {
  size = refl;
  exact = λ a b. (λ edge. inl edge, λ either. elim either [ inl edge ↦ edge | inr wrong ↦ absurd (none_contained b wrong.1) ]);
}

pub turns_more : (back : List (Vec ℕ)) (node : ℕ) (nodes : List ℕ) (back' : List (Vec ℕ)) (x : ℕ) (v : Vec ℕ) → TurnsEdges back node nodes back' → x < length back' → v.items ≡ successors back' x ++ node ∷ [] → TurnsEdges back node (nodes ++ x ∷ []) (set back' x v)
turns_more back node nodes back' x v so below pushed =
    let at_x : successors (set back' x v) x ≡ successors back' x ++ node ∷ [] = successors-set_same back' x v below ∙ pushed in
    record {
      size = length-set back' x v ∙ so.size;
      exact = λ a b. (
        λ edge. elim (same_or_not b x) [
          | inl same ↦ elim (Contains-append_cases (successors back' x) (node ∷ []) a (subst (λ (l : List ℕ). Contains l a) at_x (subst (λ (n : ℕ). HasEdge (set back' x v) n a) same edge))) [
            | inl before ↦ turned_left back node nodes x a b ((so.exact a b).0 (subst (λ (n : ℕ). HasEdge back' n a) (sym same) before))
            | inr last ↦ inr (only_one node a last, subst (Contains (nodes ++ x ∷ [])) (sym same) (Contains-append_right nodes (x ∷ []) x (contains_last x)))
          ]
          | inr differs ↦ turned_left back node nodes x a b ((so.exact a b).0 (subst (λ (l : List ℕ). Contains l a) (successors-set_other back' x v b differs) edge))
        ],
        λ either. elim (same_or_not b x) [
          | inl same ↦ subst (λ (n : ℕ). HasEdge (set back' x v) n a) (sym same) (subst (λ (l : List ℕ). Contains l a) (sym at_x) (elim either [
            | inl before ↦ Contains-append_left (successors back' x) (node ∷ []) a (subst (λ (n : ℕ). HasEdge back' n a) same ((so.exact a b).1 (inl before)))
            | inr one ↦ subst (Contains (successors back' x ++ node ∷ [])) (sym one.0) (Contains-append_right (successors back' x) (node ∷ []) node (contains_last node))
          ]))
          | inr differs ↦ subst (λ (l : List ℕ). Contains l a) (sym (successors-set_other back' x v b differs)) (elim either [
            | inl before ↦ (so.exact a b).1 (inl before)
            | inr one ↦ elim (Contains-append_cases nodes (x ∷ []) b one.1) [
              | inl earlier ↦ (so.exact a b).1 (inr (one.0, earlier))
              | inr last ↦ absurd (differs (only_one x b last))
            ]
          ])
        ],
      );
    }
  where
    turned_left : (back : List (Vec ℕ)) (node : ℕ) (nodes : List ℕ) (x a b : ℕ) → HasEdge back b a ⊎ ((a ≡ node) × Contains nodes b) → HasEdge back b a ⊎ ((a ≡ node) × Contains (nodes ++ x ∷ []) b)
    turned_left back node nodes x a b (inl before) = inl before
    turned_left back node nodes x a b (inr one) = inr (one.0, Contains-append_left nodes (x ∷ []) b one.1)

pub reversed_none : (edges back : List (Vec ℕ)) → length back ≡ length edges → ((a b : ℕ) → HasEdge back a b → ⊥) → AreTurned edges 0 back
reversed_none edges back size none = record {
  size = size;
  exact = λ a b. (λ edge. absurd (none b a edge), λ both. absurd (omega (arith, both.0)));
}

pub reversed_more : (edges : List (Vec ℕ)) (nodes : ℕ) (back back' : List (Vec ℕ)) → AreTurned edges nodes back → TurnsEdges back nodes (successors edges nodes) back' → AreTurned edges (nodes + 1) back'
reversed_more edges nodes back back' so turns = record {
  size = turns.size ∙ so.size;
  exact = λ a b. (
    λ edge. elim ((turns.exact a b).0 edge) [
      | inl before ↦ let both = (so.exact a b).0 before in (omega (arith, both.0), both.1)
      | inr one ↦ (omega (arith, one.0), subst (λ (n : ℕ). HasEdge edges n b) (sym one.0) one.1)
    ],
    λ both. (turns.exact a b).1 (elim (same_or_not a nodes) [
      | inl same ↦ inr (same, subst (λ (n : ℕ). HasEdge edges n b) same both.1)
      | inr differs ↦ inl ((so.exact a b).1 (omega (arith, both.0), both.1))
    ]),
  );
}

-- all edges are turned
pub turned_all : (edges : List (Vec ℕ)) (nodes : ℕ) (back : List (Vec ℕ)) → nodes ≡ length edges → AreTurned edges nodes back → IsReversed edges back
turned_all edges nodes back all so = record {
  size = so.size;
  exact = λ a b. (
    λ edge. ((so.exact a b).0 edge).1,
    λ edge. (so.exact a b).1 (subst (λ (n : ℕ). a < n) (sym all) (edge_below edges a b edge), edge),
  );
}

-- ---- what the loops and the calls say
pub if_ok_map : {T E : Type 0} (r : Result T E) (P Q : T → Type 0) → ((v : T) → P v → Q v) → IfOk r P → IfOk r Q
if_ok_map (Ok v) P Q turns holds = turns v holds
if_ok_map (Err e) P Q turns holds = tt

pub keeps_turn : (nodes : List ℕ) (i : ℕ) (marks : List Bool) (kept kept' : List ℕ) → KeepsMarked (take i nodes) marks kept → i < length nodes → IsMarked marks (get_or nodes i 0) → kept' ≡ kept ++ get_or nodes i 0 ∷ [] → KeepsMarked (take (i + 1) nodes) marks kept'
keeps_turn nodes i marks kept kept' so below marked push_is = rw (push_is, take_more nodes i 0 below) (keeps_marked (take i nodes) marks kept (get_or nodes i 0) so marked)

pub leaves_turn : (nodes : List ℕ) (i : ℕ) (marks : List Bool) (kept kept' : List ℕ) → KeepsMarked (take i nodes) marks kept → i < length nodes → (IsMarked marks (get_or nodes i 0) → ⊥) → kept' ≡ kept → KeepsMarked (take (i + 1) nodes) marks kept'
leaves_turn nodes i marks kept kept' so below unmarked same = rw (same, take_more nodes i 0 below) (keeps_unmarked (take i nodes) marks kept (get_or nodes i 0) so unmarked)

pub not_marked : (marks : List Bool) (x : ℕ) (d : Bool) → get_or marks x d ≡ false → IsMarked marks x → ⊥
not_marked marks x d unmarked marked =
    let same : get_or marks x d ≡ get_or marks x false = read_any marks x d false (marked_below marks x marked) in
    cc

pub marked_read : (marks : List Bool) (x : ℕ) (d : Bool) → x < length marks → get_or marks x d ≡ true → IsMarked marks x
marked_read marks x d below marked = read_any marks x false d below ∙ marked

pub turns_turn : (back : List (Vec ℕ)) (node : ℕ) (nodes : List ℕ) (i : ℕ) (back' : List (Vec ℕ)) (old new : Vec ℕ) (back'' : List (Vec ℕ)) → TurnsEdges back node (take i nodes) back' → i < length nodes → get_or nodes i 0 < length back' → old ≡ get_or back' (get_or nodes i 0) old → new.items ≡ old.items ++ node ∷ [] → back'' ≡ set back' (get_or nodes i 0) new → TurnsEdges back node (take (i + 1) nodes) back''
turns_turn back node nodes i back' old new back'' so below within is pushed set_is =
    let before : successors back' (get_or nodes i 0) ≡ old.items = successors_at back' (get_or nodes i 0) old within is in
    rw (set_is, take_more nodes i 0 below) (turns_more back node (take i nodes) back' (get_or nodes i 0) new so within (pushed ∙ ap (λ (l : List ℕ). l ++ node ∷ []) (sym before)))

pub none_more : (edges edges' : List (Vec ℕ)) (v : Vec ℕ) → ((a b : ℕ) → HasEdge edges a b → ⊥) → v.items ≡ [] → edges' ≡ edges ++ v ∷ [] → (a b : ℕ) → HasEdge edges' a b → ⊥
none_more edges edges' v none empty push_is a b edge =
    let edge' : HasEdge (edges ++ v ∷ []) a b = subst (λ (g : List (Vec ℕ)). HasEdge g a b) push_is edge in
    elim (same_or_not a (length edges)) [
      | inl same ↦ none_contained b (subst (λ (l : List ℕ). Contains l b) (successors-append_last edges v a same ∙ empty) edge')
      | inr differs ↦
          let below = edge_below (edges ++ v ∷ []) a b edge' in
          let left : successors (edges ++ v ∷ []) a ≡ successors edges a = successors-append_left edges v a (omega (arith, length-append edges (v ∷ []))) in
          none a b (subst (λ (l : List ℕ). Contains l b) left edge')
    ]
