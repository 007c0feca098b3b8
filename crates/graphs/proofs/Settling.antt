-- The steps of the search that ranks nodes.
use Rattle.std.proofs.Common.{◌≡◌, ◌≢◌, ◌<◌, ◌≤◌, ◌+◌, ◌-◌, inl, inr, ℕ, zero, suc, List, [], ◌∷◌, ◌++◌, length, get_or, set, refl, sym, ap, ◌∙◌, subst, arith, length-append, get_or-set_same, get_or-set_other}
use Rattle.std.proofs.Math.ListN.{length-set}
use Rattle.std.proofs.Math.Seq.{get_or-append_seam}
use Rattle.std.proofs.lemmas.List.{get_or_append_left}
use Rattle.std.proofs.lemmas.List.Elements.{Contains-append_left, Contains-append_right, Contains-append_cases, Contains-get_or}
use Rattle.std.proofs.lemmas.List.Quantifiers.{all_pairs_push}
use Rattle.std.proofs.lemmas.List.Sums.{sum_by-set}
use Rattle.std.specs.Prelude.{sum_by}
use Rattle.std.specs.List.{Contains}
use Rattle.std.specs.Global.{Vec}
use Rattle.graphs.specs.declared.order.State.{State}
use Rattle.graphs.specs.declared.order.State.TheVariants.{New, Open, Done}
use Rattle.graphs.specs.Graphs.{successors, HasEdge, IsPath, HasCycle}
use Rattle.graphs.specs.Settling.{state_at, IsDone, unfinished, IsSettling, Settles}
use Rattle.graphs.proofs.Marks.{contains_last, only_one, none_contained, same_or_not, read_any, successors_at}
use Rattle.graphs.proofs.Searches.{path_on}

-- ---- what is left to do
abbrev pub unseen : List (Vec ℕ) → List ℕ → ℕ
unseen [] ns = 0
unseen (v ∷ vs) [] = 0
unseen (v ∷ vs) (n ∷ ns) = (length v.items - n) + unseen vs ns

abbrev pub weight : State → ℕ
weight New = 2
weight Open = 1
weight (Done rank) = 0

abbrev pub work : List (Vec ℕ) → List ℕ → List State → ℕ
work edges seen states = unseen edges seen + sum_by weight states

unseen-set : (edges : List (Vec ℕ)) (seen : List ℕ) (a : ℕ) → a < length edges → a < length seen → get_or seen a 0 < length (successors edges a) → unseen edges (set seen a (get_or seen a 0 + 1)) + 1 ≡ unseen edges seen
unseen-set [] seen a in_edges in_seen more = absurd (omega arith)
unseen-set (v ∷ vs) [] a in_edges in_seen more = absurd (omega arith)
unseen-set (v ∷ vs) (n ∷ ns) zero in_edges in_seen more = omega arith
unseen-set (v ∷ vs) (n ∷ ns) (suc a) in_edges in_seen more = let less = unseen-set vs ns a (omega arith) (omega arith) more in omega arith

-- ---- the state of a node
state_same : (states : List State) (a b : ℕ) (s : State) → a < length states → b ≡ a → state_at (set states a s) b ≡ s
state_same states a b s below same = subst (λ (n : ℕ). state_at (set states a s) n ≡ s) (sym same) (get_or-set_same states a s New below)

state_other : (states : List State) (a b : ℕ) (s : State) → b ≢ a → state_at (set states a s) b ≡ state_at states b
state_other states a b s differs = get_or-set_other states a b s New differs

-- nodes of two states differ
apart : (states : List State) (a b : ℕ) (s t : State) → state_at states a ≡ s → state_at states b ≡ t → (s ≡ t → ⊥) → b ≢ a
apart states a b s t at_a at_b differ same = differ (sym at_a ∙ subst (λ (n : ℕ). state_at states n ≡ t) same at_b)

state_below : (states : List State) (a : ℕ) → (state_at states a ≡ New → ⊥) → a < length states
state_below [] a known = absurd (known refl)
state_below (s ∷ ss) zero known = omega arith
state_below (s ∷ ss) (suc a) known = let below = state_below ss a known in omega arith

new_open : New ≡ Open → ⊥
new_open wrong = cc

open_new : Open ≡ New → ⊥
open_new wrong = cc

new_done : (rank : ℕ) → New ≡ Done rank → ⊥
new_done rank wrong = cc

open_done : (rank : ℕ) → Open ≡ Done rank → ⊥
open_done rank wrong = cc

done_open : (rank : ℕ) → Done rank ≡ Open → ⊥
done_open rank wrong = cc

done_new : (rank : ℕ) → Done rank ≡ New → ⊥
done_new rank wrong = cc

done_same : (m n : ℕ) → Done m ≡ Done n → m ≡ n
done_same m n same = cc

-- ---- a new node goes on the path
pub settling_open : (edges : List (Vec ℕ)) (seen : List ℕ) (states : List State) (path : List ℕ) (count a : ℕ) → IsSettling edges seen states path count → a < length edges → state_at states a ≡ New → ((k : ℕ) → suc k ≡ length path → HasEdge edges (get_or path k 0) a) → IsSettling edges seen (set states a Open) (path ++ a ∷ []) count
settling_open edges seen states path count a so within new links =
    let below : a < length states = omega (arith, so.states_size) in
    let still : (b rank : ℕ) → state_at states b ≡ Done rank → state_at (set states a Open) b ≡ Done rank = λ b rank done. state_other states a b Open (apart states a b New (Done rank) new done (new_done rank)) ∙ done in
    let was : (b rank : ℕ) → state_at (set states a Open) b ≡ Done rank → state_at states b ≡ Done rank = λ b rank done. elim (same_or_not b a) [ inl same ↦ absurd (open_done rank (sym (state_same states a b Open below same) ∙ done)) | inr differs ↦ sym (state_other states a b Open differs) ∙ done ] in
    record {
      seen_size = so.seen_size;
      states_size = length-set states a Open ∙ so.states_size;
      seen_done = λ b k less. let done = so.seen_done b k less in (done.0, still _ done.0 done.1);
      ranked = λ b c rank edge done. let after = so.ranked b c rank edge (was b rank done) in (after.0, still c after.0 after.1, after.2);
      below = λ b rank done. so.below b rank (was b rank done);
      counted = let one : unfinished (state_at states a) ≡ 1 = ap unfinished new in let sums = sum_by-set unfinished states a Open New below in omega (arith, one, sums, so.counted);
      on_path = λ b is. elim (same_or_not b a) [
        | inl same ↦ subst (Contains (path ++ a ∷ [])) (sym same) (Contains-append_right path (a ∷ []) a (contains_last a))
        | inr differs ↦ Contains-append_left path (a ∷ []) b (so.on_path b (sym (state_other states a b Open differs) ∙ is))
      ];
      is_open = λ b stands. elim (Contains-append_cases path (a ∷ []) b stands) [
        | inl before ↦ state_other states a b Open (apart states a b New Open new (so.is_open b before) new_open) ∙ so.is_open b before
        | inr last ↦ state_same states a b Open below (only_one a b last)
      ];
      distinct = all_pairs_push (λ b c. b ≢ c) path a so.distinct (λ k d less same. new_open (sym new ∙ so.is_open a (subst (Contains path) same (Contains-get_or path k d less))));
      linked = λ k less. elim (same_or_not (suc k) (length path)) [
        | inl last ↦
            let at_k : get_or (path ++ a ∷ []) k 0 ≡ get_or path k 0 = get_or_append_left path (a ∷ []) 0 k (omega arith) in
            let at_end : get_or (path ++ a ∷ []) (suc k) 0 ≡ a = subst (λ (n : ℕ). get_or (path ++ a ∷ []) n 0 ≡ a) (sym last) (get_or-append_seam path a [] 0) in
            rw (at_k, at_end) (links k last)
        | inr differs ↦
            let short : suc k < length path = omega (arith, length-append path (a ∷ [])) in
            let at_k : get_or (path ++ a ∷ []) k 0 ≡ get_or path k 0 = get_or_append_left path (a ∷ []) 0 k (omega arith) in
            let at_next : get_or (path ++ a ∷ []) (suc k) 0 ≡ get_or path (suc k) 0 = get_or_append_left path (a ∷ []) 0 (suc k) short in
            rw (at_k, at_next) (so.linked k short)
      ];
    }

-- ---- the last node of the path is done
pub top_open : (edges : List (Vec ℕ)) (seen : List ℕ) (states : List State) (path : List ℕ) (count top : ℕ) → IsSettling edges seen states (path ++ top ∷ []) count → state_at states top ≡ Open
top_open edges seen states path count top so = so.is_open top (Contains-append_right path (top ∷ []) top (contains_last top))

pub top_below : (edges : List (Vec ℕ)) (seen : List ℕ) (states : List State) (path : List ℕ) (count top : ℕ) → IsSettling edges seen states (path ++ top ∷ []) count → top < length edges
top_below edges seen states path count top so = subst (λ (n : ℕ). top < n) so.states_size (state_below states top (λ new. open_new (sym (top_open edges seen states path count top so) ∙ new)))

pub settling_done : (edges : List (Vec ℕ)) (seen : List ℕ) (states : List State) (path : List ℕ) (count top : ℕ) → IsSettling edges seen states (path ++ top ∷ []) count → length (successors edges top) ≤ get_or seen top 0 → IsSettling edges seen (set states top (Done count)) path (count + 1)
settling_done edges seen states path count top so all_seen =
    let opened = top_open edges seen states path count top so in
    let within = top_below edges seen states path count top so in
    let below : top < length states = omega (arith, so.states_size) in
    let still : (b rank : ℕ) → state_at states b ≡ Done rank → state_at (set states top (Done count)) b ≡ Done rank = λ b rank done. state_other states top b (Done count) (apart states top b Open (Done rank) opened done (open_done rank)) ∙ done in
    record {
      seen_size = so.seen_size;
      states_size = length-set states top (Done count) ∙ so.states_size;
      seen_done = λ b k less. let done = so.seen_done b k less in (done.0, still _ done.0 done.1);
      ranked = λ b c rank edge done. elim (same_or_not b top) [
        | inl same ↦
            let is : count ≡ rank = done_same count rank (sym (state_same states top b (Done count) below same) ∙ done) in
            let edge' : HasEdge edges top c = subst (λ (n : ℕ). HasEdge edges n c) same edge in
            let known = so.seen_done top edge'.0 (omega (arith, edge'.1)) in
            let at_c : get_or (successors edges top) edge'.0 0 ≡ c = read_any (successors edges top) edge'.0 0 c edge'.1 ∙ edge'.2 in
            let done_c : state_at states c ≡ Done known.0 = subst (λ (n : ℕ). state_at states n ≡ Done known.0) at_c known.1 in
            (known.0, still c known.0 done_c, subst (λ (n : ℕ). known.0 < n) is (so.below c known.0 done_c))
        | inr differs ↦ let after = so.ranked b c rank edge (sym (state_other states top b (Done count) differs) ∙ done) in (after.0, still c after.0 after.1, after.2)
      ];
      below = λ b rank done. elim (same_or_not b top) [
        | inl same ↦ let is : count ≡ rank = done_same count rank (sym (state_same states top b (Done count) below same) ∙ done) in omega arith
        | inr differs ↦ let less = so.below b rank (sym (state_other states top b (Done count) differs) ∙ done) in omega arith
      ];
      counted = let one : unfinished (state_at states top) ≡ 1 = ap unfinished opened in let sums = sum_by-set unfinished states top (Done count) New below in omega (arith, one, sums, so.counted);
      on_path = λ b is. elim (same_or_not b top) [
        | inl same ↦ absurd (done_open count (sym (state_same states top b (Done count) below same) ∙ is))
        | inr differs ↦ elim (Contains-append_cases path (top ∷ []) b (so.on_path b (sym (state_other states top b (Done count) differs) ∙ is))) [
          | inl before ↦ before
          | inr last ↦ absurd (differs (only_one top b last))
        ]
      ];
      is_open = λ b stands.
          let differs : b ≢ top = λ same. so.distinct stands.0 (length path) b stands.1 (omega (arith, length-append path (top ∷ []))) (get_or_append_left path (top ∷ []) b stands.0 stands.1 ∙ stands.2 ∙ same ∙ sym (get_or-append_seam path top [] b)) in
          state_other states top b (Done count) differs ∙ so.is_open b (Contains-append_left path (top ∷ []) b stands);
      distinct = λ i j d less short same. so.distinct i j d less (omega (arith, length-append path (top ∷ []))) (get_or_append_left path (top ∷ []) d i (omega arith) ∙ same ∙ sym (get_or_append_left path (top ∷ []) d j short));
      linked = λ k short.
          let at_k : get_or (path ++ top ∷ []) k 0 ≡ get_or path k 0 = get_or_append_left path (top ∷ []) 0 k (omega arith) in
          let at_next : get_or (path ++ top ∷ []) (suc k) 0 ≡ get_or path (suc k) 0 = get_or_append_left path (top ∷ []) 0 (suc k) short in
          let edge = so.linked k (omega (arith, length-append path (top ∷ []))) in
          rw (at_k, at_next) at edge;
    }

-- ---- the next successor is done
pub settling_seen : (edges : List (Vec ℕ)) (seen : List ℕ) (states : List State) (path : List ℕ) (count top : ℕ) → IsSettling edges seen states path count → top < length edges → IsDone states (get_or (successors edges top) (get_or seen top 0) 0) → IsSettling edges (set seen top (get_or seen top 0 + 1)) states path count
settling_seen edges seen states path count top so within next = record {
  seen_size = length-set seen top _ ∙ so.seen_size;
  states_size = so.states_size;
  seen_done = λ b k less. elim (same_or_not b top) [
    | inl same ↦
        let at : get_or (set seen top (get_or seen top 0 + 1)) b 0 ≡ get_or seen top 0 + 1 = subst (λ (n : ℕ). get_or (set seen top (get_or seen top 0 + 1)) n 0 ≡ get_or seen top 0 + 1) (sym same) (get_or-set_same seen top (get_or seen top 0 + 1) 0 (omega (arith, so.seen_size))) in
        subst (λ (n : ℕ). IsDone states (get_or (successors edges n) k 0)) (sym same) (elim (same_or_not k (get_or seen top 0)) [
          | inl last ↦ subst (λ (n : ℕ). IsDone states (get_or (successors edges top) n 0)) (sym last) next
          | inr differs_k ↦ so.seen_done top k (omega arith)
        ])
    | inr differs ↦ so.seen_done b k (subst (λ (n : ℕ). k < n) (get_or-set_other seen top b (get_or seen top 0 + 1) 0 differs) less)
  ];
  ranked = so.ranked;
  below = so.below;
  counted = so.counted;
  on_path = so.on_path;
  is_open = so.is_open;
  distinct = so.distinct;
  linked = so.linked;
}

-- ---- a cycle is met
leads_on : (edges : List (Vec ℕ)) (path : List ℕ) → ((k : ℕ) → suc k < length path → HasEdge edges (get_or path k 0) (get_or path (suc k) 0)) → (k j : ℕ) → k < suc j → suc j < length path → (k < j → (xs : List ℕ) × IsPath (HasEdge edges) (get_or path k 0) xs (get_or path j 0)) → (xs : List ℕ) × IsPath (HasEdge edges) (get_or path k 0) xs (get_or path (suc j) 0)
leads_on edges path linked k j less short earlier = elim (same_or_not k j) [
  | inl same ↦ ([], subst (λ (n : ℕ). HasEdge edges (get_or path n 0) (get_or path (suc j) 0)) (sym same) (linked j short))
  | inr differs ↦ let front = earlier (omega arith) in (front.0 ++ get_or path j 0 ∷ [], path_on (HasEdge edges) (get_or path k 0) front.0 (get_or path j 0) (get_or path (suc j) 0) front.1 (linked j short))
]

pub leads : (edges : List (Vec ℕ)) (path : List ℕ) → ((k : ℕ) → suc k < length path → HasEdge edges (get_or path k 0) (get_or path (suc k) 0)) → (k j : ℕ) → k < j → j < length path → (xs : List ℕ) × IsPath (HasEdge edges) (get_or path k 0) xs (get_or path j 0)
leads edges path linked k zero less short = absurd (omega arith)
leads edges path linked k (suc j) less short = leads_on edges path linked k j less short (λ before. leads edges path linked k j before (omega arith))

pub cycle_met : (edges : List (Vec ℕ)) (seen : List ℕ) (states : List State) (path : List ℕ) (count top b : ℕ) → IsSettling edges seen states (path ++ top ∷ []) count → HasEdge edges top b → state_at states b ≡ Open → HasCycle (HasEdge edges)
cycle_met edges seen states path count top b so edge opened =
    let at_end : get_or (path ++ top ∷ []) (length path) 0 ≡ top = get_or-append_seam path top [] 0 in
    let size = length-append path (top ∷ []) in
    elim (Contains-append_cases path (top ∷ []) b (so.on_path b opened)) [
      | inl before ↦
          let at_k : get_or (path ++ top ∷ []) before.0 0 ≡ b = get_or_append_left path (top ∷ []) 0 before.0 before.1 ∙ read_any path before.0 0 b before.1 ∙ before.2 in
          let front = leads edges (path ++ top ∷ []) so.linked before.0 (length path) before.1 (omega arith) in
          let first : IsPath (HasEdge edges) b front.0 (get_or (path ++ top ∷ []) (length path) 0) = subst (λ (n : ℕ). IsPath (HasEdge edges) n front.0 (get_or (path ++ top ∷ []) (length path) 0)) at_k front.1 in
          let whole : IsPath (HasEdge edges) b front.0 top = subst (IsPath (HasEdge edges) b front.0) at_end first in
          (b, front.0 ++ top ∷ [], path_on (HasEdge edges) b front.0 top b whole edge)
      | inr last ↦ (top, [], subst (HasEdge edges top) (only_one top b last) edge)
    ]

-- ---- the whole search
pub record IsWalk (edges : List (Vec ℕ)) (node : ℕ) (before : List State) (seen : List ℕ) (states : List State) (path : List ℕ) (count : ℕ) : Type 0 where
  pub settling : IsSettling edges seen states path count
  pub started : state_at states node ≡ New → ⊥
  pub kept : (a : ℕ) → IsDone before a → IsDone states a

pub walk_ended : (edges : List (Vec ℕ)) (node : ℕ) (before : List State) (seen : List ℕ) (states : List State) (path : List ℕ) (count : ℕ) → path ≡ [] → IsWalk edges node before seen states path count → Settles edges node before seen states count
walk_ended edges node before seen states path count none was =
    let so : IsSettling edges seen states [] count = subst (λ (l : List ℕ). IsSettling edges seen states l count) none was.settling in
    record {
      settling = so;
      done = ended states node (state_at states node) refl was.started (λ opened. none_contained node (so.on_path node opened));
      kept = was.kept;
    }
  where
    ended : (states : List State) (node : ℕ) (s : State) → s ≡ state_at states node → (state_at states node ≡ New → ⊥) → (state_at states node ≡ Open → ⊥) → IsDone states node
    ended states node New is started closed = absurd (started (sym is))
    ended states node Open is started closed = absurd (closed (sym is))
    ended states node (Done rank) is started closed = (rank, sym is)

pub state_read : (states : List State) (b : ℕ) (read s : State) → b < length states → read ≡ get_or states b read → read ≡ s → state_at states b ≡ s
state_read states b read s below is same = read_any states b New read below ∙ sym is ∙ same

pub walk_begun_new : (edges : List (Vec ℕ)) (node : ℕ) (seen : List ℕ) (states : List State) (count : ℕ) (read : State) (path : List ℕ) → IsSettling edges seen states [] count → node < length edges → read ≡ get_or states node read → read ≡ New → path ≡ [] ++ node ∷ [] → IsWalk edges node states seen (set states node Open) path count
walk_begun_new edges node seen states count read path so within is same path_is =
    let below : node < length states = omega (arith, so.states_size) in
    let new = state_read states node read New below is same in
    subst (λ (l : List ℕ). IsWalk edges node states seen (set states node Open) l count) (sym path_is) (record {
      settling = settling_open edges seen states [] count node so within new (λ k last. absurd (omega arith));
      started = λ wrong. open_new (sym (state_same states node node Open below refl) ∙ wrong);
      kept = λ a done. (done.0, state_other states node a Open (apart states node a New (Done done.0) new done.1 (new_done done.0)) ∙ done.1);
    })

pub walk_begun_old : (edges : List (Vec ℕ)) (node : ℕ) (seen : List ℕ) (states : List State) (count : ℕ) (read : State) (path : List ℕ) → IsSettling edges seen states [] count → node < length edges → read ≡ get_or states node read → (read ≡ New → ⊥) → path ≡ [] → IsWalk edges node states seen states path count
walk_begun_old edges node seen states count read path so within is differs path_is =
    let below : node < length states = omega (arith, so.states_size) in
    subst (λ (l : List ℕ). IsWalk edges node states seen states l count) (sym path_is) (record {
      settling = so;
      started = λ new. differs (is ∙ read_any states node read New below ∙ new);
      kept = λ a done. done;
    })

-- ---- the walk before a turn: its last node, what was seen of it, and its successors
pub record IsTurn (edges : List (Vec ℕ)) (node : ℕ) (before : List State) (seen : List ℕ) (states : List State) (path : List ℕ) (count top : ℕ) (succs : List ℕ) (n : ℕ) : Type 0 where
  pub walk : IsWalk edges node before seen states (path ++ top ∷ []) count
  pub succs_are : successors edges top ≡ succs
  pub seen_is : get_or seen top 0 ≡ n

pub walk_top_below : (edges : List (Vec ℕ)) (node : ℕ) (before : List State) (seen : List ℕ) (states : List State) (path whole : List ℕ) (count top : ℕ) → whole ≡ path ++ top ∷ [] → IsWalk edges node before seen states whole count → top < length edges
walk_top_below edges node before seen states path whole count top front was = top_below edges seen states path count top (subst (λ (l : List ℕ). IsSettling edges seen states l count) front was.settling)

pub turn_begun : (edges : List (Vec ℕ)) (node : ℕ) (before : List State) (seen : List ℕ) (states : List State) (path whole : List ℕ) (count top : ℕ) (succs : List ℕ) (n : ℕ) (v : Vec ℕ) → whole ≡ path ++ top ∷ [] → IsWalk edges node before seen states whole count → v ≡ get_or edges top v → succs ≡ v.items → n ≡ get_or seen top n → IsTurn edges node before seen states path count top succs n
turn_begun edges node before seen states path whole count top succs n v front was is succs_is read =
    let so : IsWalk edges node before seen states (path ++ top ∷ []) count = subst (λ (l : List ℕ). IsWalk edges node before seen states l count) front was in
    let within = top_below edges seen states path count top so.settling in
    record {
      walk = so;
      succs_are = successors_at edges top v within is ∙ sym succs_is;
      seen_is = read_any seen top 0 n (omega (arith, so.settling.seen_size)) ∙ sym read;
    }

pub turn_edge : (edges : List (Vec ℕ)) (node : ℕ) (before : List State) (seen : List ℕ) (states : List State) (path : List ℕ) (count top : ℕ) (succs : List ℕ) (n : ℕ) → IsTurn edges node before seen states path count top succs n → n < length succs → HasEdge edges top (get_or succs n 0)
turn_edge edges node before seen states path count top succs n turn more = subst (λ (l : List ℕ). Contains l (get_or succs n 0)) (sym turn.succs_are) (Contains-get_or succs n 0 more)

pub walk_done : (edges : List (Vec ℕ)) (node : ℕ) (before : List State) (seen : List ℕ) (states : List State) (path : List ℕ) (count top : ℕ) (succs : List ℕ) (n : ℕ) → IsTurn edges node before seen states path count top succs n → length succs ≤ n → IsWalk edges node before seen (set states top (Done count)) path (count + 1)
walk_done edges node before seen states path count top succs n turn all_seen =
    let so = turn.walk.settling in
    let opened = top_open edges seen states path count top so in
    let below : top < length states = omega (arith, so.states_size, top_below edges seen states path count top so) in
    record {
      settling = settling_done edges seen states path count top so (omega (arith, ap length turn.succs_are, turn.seen_is));
      started = λ new. elim (same_or_not node top) [
        | inl same ↦ done_new count (sym (state_same states top node (Done count) below same) ∙ new)
        | inr differs ↦ turn.walk.started (sym (state_other states top node (Done count) differs) ∙ new)
      ];
      kept = λ a done. let was = turn.walk.kept a done in (was.0, state_other states top a (Done count) (apart states top a Open (Done was.0) opened was.1 (open_done was.0)) ∙ was.1);
    }

pub done_is_less : (edges : List (Vec ℕ)) (node : ℕ) (before : List State) (seen : List ℕ) (states : List State) (path : List ℕ) (count top : ℕ) (succs : List ℕ) (n : ℕ) → IsTurn edges node before seen states path count top succs n → work edges seen (set states top (Done count)) < work edges seen states
done_is_less edges node before seen states path count top succs n turn =
    let so = turn.walk.settling in
    let below : top < length states = omega (arith, so.states_size, top_below edges seen states path count top so) in
    let one : weight (state_at states top) ≡ 1 = ap weight (top_open edges seen states path count top so) in
    omega (arith, one, sum_by-set weight states top (Done count) New below)

pub walk_open : (edges : List (Vec ℕ)) (node : ℕ) (before : List State) (seen : List ℕ) (states : List State) (path : List ℕ) (count top : ℕ) (succs : List ℕ) (n : ℕ) (read : State) (whole : List ℕ) → IsTurn edges node before seen states path count top succs n → n < length succs → get_or succs n 0 < length edges → read ≡ get_or states (get_or succs n 0) read → read ≡ New → whole ≡ (path ++ top ∷ []) ++ get_or succs n 0 ∷ [] → IsWalk edges node before seen (set states (get_or succs n 0) Open) whole count
walk_open edges node before seen states path count top succs n read whole turn more within is same whole_is =
    let so = turn.walk.settling in
    let below : get_or succs n 0 < length states = omega (arith, so.states_size) in
    let new = state_read states (get_or succs n 0) read New below is same in
    let edge = turn_edge edges node before seen states path count top succs n turn more in
    let size = length-append path (top ∷ []) in
    subst (λ (l : List ℕ). IsWalk edges node before seen (set states (get_or succs n 0) Open) l count) (sym whole_is) (record {
      settling = settling_open edges seen states (path ++ top ∷ []) count (get_or succs n 0) so within new (λ k last.
          let at : k ≡ length path = omega arith in
          let end : get_or (path ++ top ∷ []) k 0 ≡ top = subst (λ (m : ℕ). get_or (path ++ top ∷ []) m 0 ≡ top) (sym at) (get_or-append_seam path top [] 0) in
          subst (λ (m : ℕ). HasEdge edges m (get_or succs n 0)) (sym end) edge);
      started = λ fresh. elim (same_or_not node (get_or succs n 0)) [
        | inl same_node ↦ open_new (sym (state_same states (get_or succs n 0) node Open below same_node) ∙ fresh)
        | inr differs ↦ turn.walk.started (sym (state_other states (get_or succs n 0) node Open differs) ∙ fresh)
      ];
      kept = λ a done. let was = turn.walk.kept a done in (was.0, state_other states (get_or succs n 0) a Open (apart states (get_or succs n 0) a New (Done was.0) new was.1 (new_done was.0)) ∙ was.1);
    })

pub open_is_less : (edges : List (Vec ℕ)) (seen : List ℕ) (states : List State) (b : ℕ) (read : State) → b < length states → read ≡ get_or states b read → read ≡ New → work edges seen (set states b Open) < work edges seen states
open_is_less edges seen states b read below is same =
    let two : weight (state_at states b) ≡ 2 = ap weight (state_read states b read New below is same) in
    omega (arith, two, sum_by-set weight states b Open New below)

pub walk_seen : (edges : List (Vec ℕ)) (node : ℕ) (before : List State) (seen : List ℕ) (states : List State) (path : List ℕ) (count top : ℕ) (succs : List ℕ) (n : ℕ) (read : State) (rank : ℕ) (whole : List ℕ) → IsTurn edges node before seen states path count top succs n → get_or succs n 0 < length edges → read ≡ get_or states (get_or succs n 0) read → read ≡ Done rank → whole ≡ path ++ top ∷ [] → IsWalk edges node before (set seen top (n + 1)) states whole count
walk_seen edges node before seen states path count top succs n read rank whole turn within is same whole_is =
    let so = turn.walk.settling in
    let done : state_at states (get_or succs n 0) ≡ Done rank = state_read states (get_or succs n 0) read (Done rank) (omega (arith, so.states_size)) is same in
    let next : IsDone states (get_or succs (get_or seen top 0) 0) = subst (λ (m : ℕ). IsDone states (get_or succs m 0)) (sym turn.seen_is) (rank, done) in
    let next' : IsDone states (get_or (successors edges top) (get_or seen top 0) 0) = subst (λ (l : List ℕ). IsDone states (get_or l (get_or seen top 0) 0)) (sym turn.succs_are) next in
    let seen' : IsSettling edges (set seen top (n + 1)) states (path ++ top ∷ []) count = subst (λ (m : ℕ). IsSettling edges (set seen top (m + 1)) states (path ++ top ∷ []) count) turn.seen_is (settling_seen edges seen states (path ++ top ∷ []) count top so (top_below edges seen states path count top so) next') in
    subst (λ (l : List ℕ). IsWalk edges node before (set seen top (n + 1)) states l count) (sym whole_is) (record { settling = seen'; started = turn.walk.started; kept = turn.walk.kept })

pub seen_is_less : (edges : List (Vec ℕ)) (node : ℕ) (before : List State) (seen : List ℕ) (states : List State) (path : List ℕ) (count top : ℕ) (succs : List ℕ) (n : ℕ) → IsTurn edges node before seen states path count top succs n → n < length succs → work edges (set seen top (n + 1)) states < work edges seen states
seen_is_less edges node before seen states path count top succs n turn more =
    let so = turn.walk.settling in
    let within = top_below edges seen states path count top so in
    let less = unseen-set edges seen top within (omega (arith, so.seen_size)) (omega (arith, ap length turn.succs_are, turn.seen_is)) in
    let less' : unseen edges (set seen top (n + 1)) + 1 ≡ unseen edges seen = subst (λ (m : ℕ). unseen edges (set seen top (m + 1)) + 1 ≡ unseen edges seen) turn.seen_is less in
    omega arith

pub turn_cycle : (edges : List (Vec ℕ)) (node : ℕ) (before : List State) (seen : List ℕ) (states : List State) (path : List ℕ) (count top : ℕ) (succs : List ℕ) (n : ℕ) (read : State) → IsTurn edges node before seen states path count top succs n → n < length succs → get_or succs n 0 < length edges → read ≡ get_or states (get_or succs n 0) read → read ≡ Open → HasCycle (HasEdge edges)
turn_cycle edges node before seen states path count top succs n read turn more within is same =
    let so = turn.walk.settling in
    cycle_met edges seen states path count top (get_or succs n 0) so (turn_edge edges node before seen states path count top succs n turn more) (state_read states (get_or succs n 0) read Open (omega (arith, so.states_size)) is same)

-- the count stays small
pub count_below : (edges : List (Vec ℕ)) (seen : List ℕ) (states : List State) (path : List ℕ) (count top : ℕ) → IsSettling edges seen states (path ++ top ∷ []) count → count < length edges
count_below edges seen states path count top so =
    let below : top < length states = omega (arith, so.states_size, top_below edges seen states path count top so) in
    let one : unfinished (state_at states top) ≡ 1 = ap unfinished (top_open edges seen states path count top so) in
    omega (arith, one, sum_by-set unfinished states top (Done 0) New below, so.counted)
