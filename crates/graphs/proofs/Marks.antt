-- What marking nodes does.
use Rattle.std.proofs.Common.{◌≡◌, ◌≢◌, ◌<◌, ◌+◌, ◌⊎◌, ◌↔◌, inl, inr, Bool, true, false, ℕ, zero, suc, List, [], ◌∷◌, ◌++◌, length, get_or, set, take, replicate, refl, sym, ap, ◌∙◌, subst, arith, length-append, get_or-set_same, get_or-set_other}
use Rattle.std.proofs.lemmas.List.Elements.{Contains-append_left, Contains-append_right, Contains-append_cases}
use Rattle.std.proofs.lemmas.List.Sums.{sum_by-set}
use Rattle.std.proofs.lemmas.Bool.Decides.{eqb_tells}
use Rattle.std.proofs.Math.ListN.{length-set, length-replicate}
use Rattle.std.proofs.lemmas.List.{take_more, get_or-replicate}
use Rattle.std.specs.Prelude.{cond}
use Rattle.std.specs.List.{Contains}
use Rattle.std.specs.Global.{Vec}
use Rattle.graphs.specs.Graphs.{successors, IsMarked}
use Rattle.graphs.specs.Marking.{MarksAll}

-- a marked node is one of those that may be
pub marked_below : (marks : List Bool) (a : ℕ) → IsMarked marks a → a < length marks
marked_below [] a marked = cc
marked_below (m ∷ ms) zero marked = omega arith
marked_below (m ∷ ms) (suc a) marked = let below : a < length ms = marked_below ms a marked in omega arith

-- the only element of a list
pub contains_last : (x : ℕ) → Contains (x ∷ []) x
contains_last x = (0, omega arith, refl)

pub only_one : (x b : ℕ) → Contains (x ∷ []) b → b ≡ x
only_one x b (zero, _, is) = sym is
only_one x b (suc k, below, is) = absurd (omega arith)

pub none_contained : (b : ℕ) → Contains [] b → ⊥
none_contained b (k, below, _) = omega arith

-- the successors of the node of an index
pub successors_at : (edges : List (Vec ℕ)) (a : ℕ) (v : Vec ℕ) → a < length edges → v ≡ get_or edges a v → successors edges a ≡ v.items
successors_at [] a v below is = absurd (omega arith)
successors_at (w ∷ ws) zero v below is = ap (λ (u : Vec ℕ). u.items) (sym is)
successors_at (w ∷ ws) (suc a) v below is = successors_at ws a v (omega arith) is

pub marks_none : (marks : List Bool) (waiting : List ℕ) → MarksAll [] marks waiting marks waiting
marks_none marks waiting = record {
  size = refl;
  marked = λ b. (λ marked. inl marked, λ either. elim either [ inl marked ↦ marked | inr wrong ↦ absurd (none_contained b wrong) ]);
  waits = λ b marked. inl marked;
  kept = λ b waits. waits;
  new = λ b waits. inl waits;
  left = refl;
}

-- the next node is marked already
pub marks_old : (nodes : List ℕ) (marks : List Bool) (waiting : List ℕ) (marks' : List Bool) (waiting' : List ℕ) (x : ℕ) → MarksAll nodes marks waiting marks' waiting' → IsMarked marks' x → MarksAll (nodes ++ x ∷ []) marks waiting marks' waiting'
marks_old nodes marks waiting marks' waiting' x so old = record {
  size = so.size;
  marked = λ b. (
    λ marked. elim ((so.marked b).0 marked) [ inl was ↦ inl was | inr one ↦ inr (Contains-append_left nodes (x ∷ []) b one) ],
    λ either. elim either [
      | inl was ↦ (so.marked b).1 (inl was)
      | inr one ↦ elim (Contains-append_cases nodes (x ∷ []) b one) [ inl before ↦ (so.marked b).1 (inr before) | inr last ↦ subst (IsMarked marks') (sym (only_one x b last)) old ]
    ],
  );
  waits = so.waits;
  kept = so.kept;
  new = λ b waits. elim (so.new b waits) [ inl was ↦ inl was | inr one ↦ inr (Contains-append_left nodes (x ∷ []) b one) ];
  left = so.left;
}

pub same_or_not : (a b : ℕ) → (a ≡ b) ⊎ (a ≢ b)
same_or_not a b = elim (eqb_tells a b) [ inl w ↦ inl w.1 | inr w ↦ inr w.1 ]

-- a mark that is set
pub marked_set : (marks : List Bool) (x : ℕ) → x < length marks → IsMarked (set marks x true) x
marked_set marks x below = get_or-set_same marks x true false below

-- what is marked after a mark is set
pub marked_after : (marks : List Bool) (x b : ℕ) → x < length marks → IsMarked (set marks x true) b ↔ (IsMarked marks b ⊎ (b ≡ x))
marked_after marks x b below = (
  λ marked. elim (same_or_not b x) [ inl same ↦ inr same | inr differs ↦ inl (sym (get_or-set_other marks x b true false differs) ∙ marked) ],
  λ either. elim (same_or_not b x) [
    | inl same ↦ subst (IsMarked (set marks x true)) (sym same) (marked_set marks x below)
    | inr differs ↦ elim either [ inl was ↦ get_or-set_other marks x b true false differs ∙ was | inr same ↦ absurd (differs same) ]
  ],
)

abbrev unmarked_at : Bool → ℕ
unmarked_at mark = cond mark 0 1

-- the next node is marked now, and waits
pub marks_new : (nodes : List ℕ) (marks : List Bool) (waiting : List ℕ) (marks' : List Bool) (waiting' : List ℕ) (x : ℕ) → MarksAll nodes marks waiting marks' waiting' → x < length marks' → get_or marks' x false ≡ false → MarksAll (nodes ++ x ∷ []) marks waiting (set marks' x true) (waiting' ++ x ∷ [])
marks_new nodes marks waiting marks' waiting' x so below new = record {
  size = length-set marks' x true ∙ so.size;
  marked = λ b. (
    λ marked. elim ((marked_after marks' x b below).0 marked) [
      | inl before ↦ elim ((so.marked b).0 before) [ inl was ↦ inl was | inr one ↦ inr (Contains-append_left nodes (x ∷ []) b one) ]
      | inr same ↦ inr (subst (Contains (nodes ++ x ∷ [])) (sym same) (Contains-append_right nodes (x ∷ []) x (contains_last x)))
    ],
    λ either. (marked_after marks' x b below).1 (elim either [
      | inl was ↦ inl ((so.marked b).1 (inl was))
      | inr one ↦ elim (Contains-append_cases nodes (x ∷ []) b one) [ inl before ↦ inl ((so.marked b).1 (inr before)) | inr last ↦ inr (only_one x b last) ]
    ]),
  );
  waits = λ b marked. elim ((marked_after marks' x b below).0 marked) [
    | inl before ↦ elim (so.waits b before) [ inl was ↦ inl was | inr waits ↦ inr (Contains-append_left waiting' (x ∷ []) b waits) ]
    | inr same ↦ inr (subst (Contains (waiting' ++ x ∷ [])) (sym same) (Contains-append_right waiting' (x ∷ []) x (contains_last x)))
  ];
  kept = λ b waits. Contains-append_left waiting' (x ∷ []) b (so.kept b waits);
  new = λ b waits. elim (Contains-append_cases waiting' (x ∷ []) b waits) [
    | inl before ↦ elim (so.new b before) [ inl was ↦ inl was | inr one ↦ inr (Contains-append_left nodes (x ∷ []) b one) ]
    | inr last ↦ inr (Contains-append_right nodes (x ∷ []) b last)
  ];
  left =
      let counts = sum_by-set unmarked_at marks' x true false below in
      let old : unmarked_at (get_or marks' x false) ≡ 1 = ap unmarked_at new in
      let size = length-append waiting' (x ∷ []) in
      let before = so.left in
      omega arith;
}

pub none_left : {X : Type 0} (xs : List X) → (0 < length xs → ⊥) → xs ≡ []
none_left [] h = refl
none_left (x ∷ xs) h = absurd (h (omega arith))

-- an element doesn't hang on what is read behind the last one
pub read_any : {X : Type 0} (xs : List X) (i : ℕ) (d e : X) → i < length xs → get_or xs i d ≡ get_or xs i e
read_any [] i d e below = absurd (omega arith)
read_any (x ∷ xs) zero d e below = refl
read_any (x ∷ xs) (suc i) d e below = read_any xs i d e (omega arith)

-- a turn of the loop at a node that isn't marked yet, and at one that is
pub turn_new : (nodes : List ℕ) (i : ℕ) (marks : List Bool) (waiting : List ℕ) (marks' : List Bool) (waiting' : List ℕ) (marks'' : List Bool) (waiting'' : List ℕ) (read : Bool) → MarksAll (take i nodes) marks waiting marks' waiting' → i < length nodes → get_or nodes i 0 < length marks' → read ≡ get_or marks' (get_or nodes i 0) read → read ≡ false → marks'' ≡ set marks' (get_or nodes i 0) true → waiting'' ≡ waiting' ++ get_or nodes i 0 ∷ [] → MarksAll (take (i + 1) nodes) marks waiting marks'' waiting''
turn_new nodes i marks waiting marks' waiting' marks'' waiting'' read so below within is new set_is push_is =
    let unmarked = subst (λ (r : Bool). r ≡ get_or marks' (get_or nodes i 0) r) new is in
    rw (set_is, push_is, take_more nodes i 0 below) (marks_new (take i nodes) marks waiting marks' waiting' (get_or nodes i 0) so within (sym unmarked))

pub turn_old : (nodes : List ℕ) (i : ℕ) (marks : List Bool) (waiting : List ℕ) (marks' : List Bool) (waiting' : List ℕ) (marks'' : List Bool) (waiting'' : List ℕ) (read : Bool) → MarksAll (take i nodes) marks waiting marks' waiting' → i < length nodes → get_or nodes i 0 < length marks' → read ≡ get_or marks' (get_or nodes i 0) read → read ≡ true → marks'' ≡ marks' → waiting'' ≡ waiting' → MarksAll (take (i + 1) nodes) marks waiting marks'' waiting''
turn_old nodes i marks waiting marks' waiting' marks'' waiting'' read so below within is old same_marks same_waiting =
    let marked = subst (λ (r : Bool). r ≡ get_or marks' (get_or nodes i 0) r) old is in
    rw (same_marks, same_waiting, take_more nodes i 0 below) (marks_old (take i nodes) marks waiting marks' waiting' (get_or nodes i 0) so (read_any marks' (get_or nodes i 0) false true within ∙ sym marked))

pub unmarked_at_first : (n b : ℕ) → get_or (replicate n false) b false ≡ true → ⊥
unmarked_at_first n b marked =
    let below : b < n = subst (λ (l : ℕ). b < l) (length-replicate n false) (marked_below (replicate n false) b marked) in
    let unmarked : get_or (replicate n false) b false ≡ false = get_or-replicate n b false false below in
    cc
