-- How moves and edges compare, and what their tables say of a state.
use Rattle.std.specs.Prelude.{◌≡◌, ◌<◌, ◌++◌, ◌⊎◌, ℕ, zero, suc, List, [], ◌∷◌, length, map, Contains, Option, Some, slice_get, slice_index_or}
use Rattle.std.proofs.Common.{refl, sym, subst, ap, arith, inl, inr, ⊎_elim}
use Rattle.std.specs.List.{AllZip}
use Rattle.std.proofs.lemmas.List.Elements.{Contains-append_left, Contains-append_right, Contains-get_or}
use Rattle.data_theory.specs.IdTrees.{Tree}
use Rattle.data_theory.specs.Terms.{Sort, Term}
use Rattle.data_theory.specs.declared.ids.TermId.{TermId}
use Rattle.process_terms.specs.Labels.{Label}
use Rattle.process_terms.specs.Meanings.{label_of}
use Rattle.process_terms.specs.SignatureEntries.{entries_of}
use Rattle.bisim_laws.proofs.Firing.{contains_none, contains_cases, contains_first, contains_later}
use Rattle.lps_core.proofs.Members.{contains_map, map_contains}
use Rattle.lps_simulator.specs.Options.{TermMove}
use Rattle.trace_replay.specs.Decidings.{Answer, hold, fail, stay_open, ComeOut, one_fails}
use Rattle.trace_replay.specs.Pairings.{Pairing, label_equalities}
use Rattle.trace_replay.specs.Settings.{Setting}
use Rattle.aut_check.specs.declared.verdicts.StateVerdict.{StateVerdict}
use Rattle.aut_check.specs.declared.verdicts.StateVerdict.TheVariants.{Good, Differs, Open}
use Rattle.aut_check.specs.Comparing.{AreEdgesFrom, AreMoveRows, EdgeComes, EdgeComesWith, EdgesAreStates, EdgesCome, IsMoveRow, LabelsCome, MoveComes, MovesCome, NextComes, end_alike, one_ended, PairComes}
use Rattle.aut_check.specs.Matching.{Match, CouldStillMatch, Differ, DoNotMatch, EndAlike, state_equalities}
use Rattle.aut_check.specs.PlainSystems.{PlainEdge, PlainSystem, meant_edge, meant_state}
use Rattle.aut_check.specs.Systems.{Edge, FileState, System, HasEdge, IsStateAt}
use Rattle.aut_check.specs.Tables.{both, column_answers, IsBest, IsWorst}
use Rattle.aut_check.specs.Verdicts.{EachEdge, EachMove, SomeEdge, SomeMove, system_in}
use Rattle.aut_check.proofs.ComparedStates.{contains_at}
use Rattle.aut_check.proofs.Firings.{member_at}
use Rattle.aut_check.proofs.GoodFiles.{at_place, map_at}
use Rattle.aut_check.proofs.PairedTables.{come_both, zip_at}

-- ---- a move and an edge
fails_first : (s : Setting) (cs ds : List Term) → ComeOut s cs fail → ComeOut s (cs ++ ds) fail
fails_first s cs ds (one_fails {c = c} h d) = one_fails (Contains-append_left cs ds c h) d

fails_second : (s : Setting) (cs ds : List Term) → ComeOut s ds fail → ComeOut s (cs ++ ds) fail
fails_second s cs ds (one_fails {c = c} h d) = one_fails (Contains-append_right cs ds c h) d

-- not all hold, where the second part is open
open_second : (s : Setting) (cs ds : List Term) (a : Answer) → ComeOut s cs a → ComeOut s ds stay_open → ComeOut s (cs ++ ds) fail ⊎ ComeOut s (cs ++ ds) stay_open
open_second s cs ds hold h k = inr (come_both s cs ds h k)
open_second s cs ds fail h k = inl (fails_first s cs ds h)
open_second s cs ds stay_open h k = inr (come_both s cs ds h k)

module _ (s : Setting) (ss : List Sort) (m : TermMove) (n : Label) (o : FileState) where
  abbrev by_labels : Pairing m.label n → List Term
  by_labels p = label_equalities m.label p.paired

  abbrev by_states : List Term
  by_states = state_equalities ss m.next o

  pub labels_fail : LabelsCome s m.label n fail → PairComes s ss m n o fail
  labels_fail h = λ p e. fails_first s (by_labels p) by_states (h p)

  states_fail : ComeOut s by_states fail → PairComes s ss m n o fail
  states_fail c = λ p e. fails_second s (by_labels p) by_states c

  with_states : (a b : Answer) → LabelsCome s m.label n a → EndAlike m.next o → ComeOut s by_states b → PairComes s ss m n o (both a b)
  with_states fail b h ends c = labels_fail h
  with_states hold fail h ends c = states_fail c
  with_states stay_open fail h ends c = states_fail c
  with_states hold hold h ends c = record { pairing = h.0.0; ends = ends; comes = come_both s (by_labels h.0.0) by_states h.0.1 c }
  with_states hold stay_open h ends c = (
    λ p e. let r = h.1 p in open_second s (by_labels p) by_states r.0 r.1 c,
    record { pairing = h.0.0; ends = ends; comes = come_both s (by_labels h.0.0) by_states h.0.1 c },
  )
  with_states stay_open hold h ends c = (
    λ p e. ⊎_elim (λ f. inl (fails_first s (by_labels p) by_states f)) (λ q. inr (come_both s (by_labels p) by_states q c)) (h.1 p),
    record { pairing = h.0.0; ends = ends; comes = come_both s (by_labels h.0.0) by_states h.0.1 c },
  )
  with_states stay_open stay_open h ends c = (
    λ p e. ⊎_elim (λ f. inl (fails_first s (by_labels p) by_states f)) (λ q. inr (come_both s (by_labels p) by_states q c)) (h.1 p),
    record { pairing = h.0.0; ends = ends; comes = come_both s (by_labels h.0.0) by_states h.0.1 c },
  )

  differ_in_ends : (a : Answer) → LabelsCome s m.label n a → (EndAlike m.next o → ⊥) → PairComes s ss m n o (both a fail)
  differ_in_ends fail h never = labels_fail h
  differ_in_ends hold h never = λ p e. absurd (never e)
  differ_in_ends stay_open h never = λ p e. absurd (never e)

  pub pair_comes : (a b : Answer) → LabelsCome s m.label n a → NextComes s ss m.next o b → PairComes s ss m n o (both a b)
  pair_comes a b h (end_alike ends c) = with_states a b h ends c
  pair_comes a _ h (one_ended never) = differ_in_ends a h never

-- ---- lists side by side
zip_contains : {A B : Type 0} (P : A → B → Type 0) (xs : List A) (ys : List B) → AllZip P xs ys → (x : A) → Contains xs x → (y : B) × (Contains ys y × P x y)
zip_contains P [] ys h x c = absurd (contains_none x c)
zip_contains P (z ∷ xs) [] h x c = absurd h
zip_contains P (z ∷ xs) (w ∷ ys) h x c = ⊎_elim
    (λ e. (w, (contains_first w ys, subst (λ (q : _). P q w) e h.0)))
    (λ j. let r = zip_contains P xs ys h.1 x j in (r.0, (contains_later w r.0 ys r.1.0, r.1.1)))
    (contains_cases z x xs c)

contains_zip : {A B : Type 0} (P : A → B → Type 0) (xs : List A) (ys : List B) → AllZip P xs ys → (y : B) → Contains ys y → (x : A) × (Contains xs x × P x y)
contains_zip P xs [] h y c = absurd (contains_none y c)
contains_zip P [] (w ∷ ys) h y c = absurd h
contains_zip P (z ∷ xs) (w ∷ ys) h y c = ⊎_elim
    (λ e. (z, (contains_first z xs, subst (λ (q : _). P z q) e h.0)))
    (λ j. let r = contains_zip P xs ys h.1 y j in (r.0, (contains_later z r.0 xs r.1.0, r.1.1)))
    (contains_cases w y ys c)

place_in : {A : Type 0} (xs : List A) (d x : A) → Contains xs x → (i : ℕ) × ((i < length xs) × (slice_index_or xs i d ≡ x))
place_in [] d x c = absurd (contains_none x c)
place_in (y ∷ xs) d x c = ⊎_elim
    (λ e. (zero, (omega arith, e)))
    (λ j. let r = place_in xs d x j in let l : r.0 < length xs = r.1.0 in (suc r.0, (omega (arith, l), r.1.1)))
    (contains_cases y x xs c)

zip_through : {A B C : Type 0} (P : A → B → Type 0) (Q : B → C → Type 0) (R : A → C → Type 0) → ((x : A) (y : B) (z : C) → P x y → Q y z → R x z) → (xs : List A) (ys : List B) (zs : List C) → AllZip P xs ys → AllZip Q ys zs → AllZip R xs zs
zip_through P Q R f [] [] [] h k = tt
zip_through P Q R f [] [] (z ∷ zs) h k = absurd k
zip_through P Q R f [] (y ∷ ys) zs h k = absurd h
zip_through P Q R f (x ∷ xs) [] zs h k = absurd h
zip_through P Q R f (x ∷ xs) (y ∷ ys) [] h k = absurd k
zip_through P Q R f (x ∷ xs) (y ∷ ys) (z ∷ zs) h k = (f x y z h.0 k.0, zip_through P Q R f xs ys zs h.1 k.1)

-- ---- the edges from a state
module _ (s : Setting) (ts : List Tree) (f : PlainSystem) (i : ℕ) (numbers : List ℕ) (from : AreEdgesFrom f i numbers) (within : EdgesAreStates f) where
  abbrev sys : System
  sys = system_in s ts f

  -- the edge of a number
  record IsEdgeOf (k : ℕ) : Type 0 where
    edge : PlainEdge
    at : slice_get f.edges k ≡ Some edge
    state : Option (List TermId)
    there : slice_get f.states edge.to ≡ Some state
    has : HasEdge sys i (label_of (entries_of s.signature ts) edge.label) edge.to
    is_state : IsStateAt sys edge.to (meant_state s.signature ts state)

  edge_of : (k : ℕ) → Contains numbers k → IsEdgeOf k
  edge_of k c =
      let e = from.within k c in
      let to = at_place f.states e.0.to (within k e.0 e.1.0) in
      let among : Contains (map (meant_edge s.signature ts) f.edges) (meant_edge s.signature ts e.0) = map_contains (meant_edge s.signature ts) f.edges e.0 (contains_at f.edges k e.0 e.1.0) in
      record {
        edge = e.0;
        at = e.1.0;
        state = to.0;
        there = to.1;
        has = subst (λ (z : ℕ). Contains (map (meant_edge s.signature ts) f.edges) (record { from = z; label = label_of (entries_of s.signature ts) e.0.label; to = e.0.to })) e.1.1 among;
        is_state = map_at (meant_state s.signature ts) f.states e.0.to to.0 to.1;
      }

  -- the number of an edge
  record IsNumberOf (n : Label) (j : ℕ) (o : FileState) : Type 0 where
    number : ℕ
    among : Contains numbers number
    edge : PlainEdge
    at : slice_get f.edges number ≡ Some edge
    state : Option (List TermId)
    there : slice_get f.states edge.to ≡ Some state
    label_is : label_of (entries_of s.signature ts) edge.label ≡ n
    state_is : meant_state s.signature ts state ≡ o

  number_of : (n : Label) (j : ℕ) (o : FileState) → HasEdge sys i n j → IsStateAt sys j o → IsNumberOf n j o
  number_of n j o edge at =
      let r = contains_map (meant_edge s.signature ts) f.edges (record { from = i; label = n; to = j }) edge in
      let k = member_at f.edges r.0 r.1.0 in
      let to = at_place f.states r.0.to (within k.0 r.0 k.1) in
      let meant : IsStateAt sys r.0.to (meant_state s.signature ts to.0) = map_at (meant_state s.signature ts) f.states r.0.to to.0 to.1 in
      let same : j ≡ r.0.to = ap (λ (e : Edge). e.to) r.1.1 in
      record {
        number = k.0;
        among = from.whole k.0 r.0 k.1 (sym (ap (λ (e : Edge). e.from) r.1.1));
        edge = r.0;
        at = k.1;
        state = to.0;
        there = to.1;
        label_is = sym (ap (λ (e : Edge). e.label) r.1.1);
        state_is = same_state (slice_get sys.states j) (subst (λ (z : ℕ). IsStateAt sys z (meant_state s.signature ts to.0)) (sym same) meant) at;
      }
    where
      same_state : {A : Type 0} {x y : A} (q : Option A) → q ≡ Some x → q ≡ Some y → x ≡ y
      same_state q e f = cc

  module _ (ss : List Sort) where
    -- ---- one move
    module _ (m : TermMove) (row : List Answer) (h : IsMoveRow s ss ts f numbers m row) where
      some_edge : (a : Answer) → Contains row a → (K : Label → FileState → Type 0) → ((n : Label) (o : FileState) → PairComes s ss m n o a → K n o) → SomeEdge sys i K
      some_edge a c K turn =
          let r = contains_zip (EdgeComesWith s ss ts f m) numbers row h a c in
          let e = edge_of r.0 r.1.0 in
          record {
            label = label_of (entries_of s.signature ts) e.edge.label;
            to = e.edge.to;
            state = meant_state s.signature ts e.state;
            edge = e.has;
            at = e.is_state;
            is = turn (label_of (entries_of s.signature ts) e.edge.label) (meant_state s.signature ts e.state) (r.1.1 e.edge e.state e.at e.there);
          }

      each_edge : (K : Label → FileState → Type 0) → ((a : Answer) (n : Label) (o : FileState) → Contains row a → PairComes s ss m n o a → K n o) → EachEdge sys i K
      each_edge K turn n j o edge at =
          let r = number_of n j o edge at in
          let q = zip_contains (EdgeComesWith s ss ts f m) numbers row h r.number r.among in
          turn q.0 n o q.1.0 (subst (λ (z : FileState). PairComes s ss m n z q.0) r.state_is (subst (λ (z : Label). PairComes s ss m z (meant_state s.signature ts r.state) q.0) r.label_is (q.1.1 r.edge r.state r.at r.there)))

      pub move_comes : (a : Answer) → IsBest row a → MoveComes s ss sys i m a
      move_comes hold best = some_edge hold best (Match s ss m) (λ n o p. p)
      move_comes stay_open best = (each_edge (DoNotMatch s ss m) turn, some_edge stay_open best.1 (CouldStillMatch s ss m) (λ n o p. p.1))
        where
          turn : (a : Answer) (n : Label) (o : FileState) → Contains row a → PairComes s ss m n o a → DoNotMatch s ss m n o
          turn hold n o c p = absurd (best.0 c)
          turn fail n o c p = λ q e. inl (p q e)
          turn stay_open n o c p = p.0
      move_comes fail best = each_edge (Differ s ss m) turn
        where
          turn : (a : Answer) (n : Label) (o : FileState) → Contains row a → PairComes s ss m n o a → Differ s ss m n o
          turn hold n o c p = absurd (best.0 c)
          turn fail n o c p = p
          turn stay_open n o c p = absurd (best.1 c)

    -- ---- all moves
    module _ (moves : List TermMove) (rows : List (List Answer)) (h : AreMoveRows s ss ts f numbers moves rows) where
      pub moves_come : (bests : List Answer) → AllZip IsBest rows bests → (v : StateVerdict) → IsWorst bests v → MovesCome s ss sys i moves v
      moves_come bests best v worst = by v worst
        where
          all : AllZip (MoveComes s ss sys i) moves bests
          all = zip_through (IsMoveRow s ss ts f numbers) IsBest (MoveComes s ss sys i) (λ m row a k b. move_comes m row k a b) moves rows bests h best

          by : (w : StateVerdict) → IsWorst bests w → MovesCome s ss sys i moves w
          by Good k = λ m c. let r = zip_contains (MoveComes s ss sys i) moves bests all m c in turn m r.0 r.1.0 r.1.1
            where
              turn : (m : TermMove) (a : Answer) → Contains bests a → MoveComes s ss sys i m a → SomeEdge sys i (Match s ss m)
              turn m hold c p = p
              turn m fail c p = absurd (k.1 c)
              turn m stay_open c p = absurd (k.0 c)
          by Differs k = (
            λ m c. let r = zip_contains (MoveComes s ss sys i) moves bests all m c in turn m r.0 r.1.0 r.1.1,
            let r = contains_zip (MoveComes s ss sys i) moves bests all fail k.1 in record { move = r.0; among = r.1.0; is = r.1.1 },
          )
            where
              turn : (m : TermMove) (a : Answer) → Contains bests a → MoveComes s ss sys i m a → SomeEdge sys i (Match s ss m) ⊎ EachEdge sys i (Differ s ss m)
              turn m hold c p = inl p
              turn m fail c p = inr p
              turn m stay_open c p = absurd (k.0 c)
          by Open k = let r = contains_zip (MoveComes s ss sys i) moves bests all stay_open k in record { move = r.0; among = r.1.0; is = r.1.1 }

    -- ---- one edge
    module _ (n : Label) (o : FileState) (moves : List TermMove) (answers : List Answer) (h : AllZip (λ (m : TermMove) (a : Answer). PairComes s ss m n o a) moves answers) where
      some_move : (a : Answer) → Contains answers a → (K : TermMove → Type 0) → ((m : TermMove) → PairComes s ss m n o a → K m) → SomeMove moves K
      some_move a c K turn = let r = contains_zip (λ (m : TermMove) (b : Answer). PairComes s ss m n o b) moves answers h a c in record { move = r.0; among = r.1.0; is = turn r.0 r.1.1 }

      each_move : (K : TermMove → Type 0) → ((a : Answer) (m : TermMove) → Contains answers a → PairComes s ss m n o a → K m) → EachMove moves K
      each_move K turn m c = let r = zip_contains (λ (m : TermMove) (b : Answer). PairComes s ss m n o b) moves answers h m c in turn r.0 m r.1.0 r.1.1

      edge_comes : (a : Answer) → IsBest answers a → EdgeComes s ss moves n o a
      edge_comes hold best = some_move hold best (λ m. Match s ss m n o) (λ m p. p)
      edge_comes stay_open best = (each_move (λ m. DoNotMatch s ss m n o) turn, some_move stay_open best.1 (λ m. CouldStillMatch s ss m n o) (λ m p. p.1))
        where
          turn : (a : Answer) (m : TermMove) → Contains answers a → PairComes s ss m n o a → DoNotMatch s ss m n o
          turn hold m c p = absurd (best.0 c)
          turn fail m c p = λ q e. inl (p q e)
          turn stay_open m c p = p.0
      edge_comes fail best = each_move (λ m. Differ s ss m n o) turn
        where
          turn : (a : Answer) (m : TermMove) → Contains answers a → PairComes s ss m n o a → Differ s ss m n o
          turn hold m c p = absurd (best.0 c)
          turn fail m c p = p
          turn stay_open m c p = absurd (best.1 c)

    -- ---- all edges
    -- the answers at one place
    column_zip : (place : ℕ) → place < length numbers → (moves : List TermMove) (rows : List (List Answer)) → AreMoveRows s ss ts f numbers moves rows
        → AllZip (λ (m : TermMove) (a : Answer). EdgeComesWith s ss ts f m (slice_index_or numbers place 0) a) moves (column_answers rows place)
    column_zip place l [] [] h = tt
    column_zip place l [] (row ∷ rows) h = absurd h
    column_zip place l (m ∷ moves) [] h = absurd h
    column_zip place l (m ∷ moves) (row ∷ rows) h = (zip_at (EdgeComesWith s ss ts f m) numbers row place 0 fail h.0 l, column_zip place l moves rows h.1)

    with_edge : (k : ℕ) (e : PlainEdge) (q : Option (List TermId)) → slice_get f.edges k ≡ Some e → slice_get f.states e.to ≡ Some q → (moves : List TermMove) (answers : List Answer) → AllZip (λ (m : TermMove) (a : Answer). EdgeComesWith s ss ts f m k a) moves answers
        → AllZip (λ (m : TermMove) (a : Answer). PairComes s ss m (label_of (entries_of s.signature ts) e.label) (meant_state s.signature ts q) a) moves answers
    with_edge k e q at there [] [] h = tt
    with_edge k e q at there [] (a ∷ answers) h = absurd h
    with_edge k e q at there (m ∷ moves) [] h = absurd h
    with_edge k e q at there (m ∷ moves) (a ∷ answers) h = (h.0 e q at there, with_edge k e q at there moves answers h.1)

    module _ (moves : List TermMove) (rows : List (List Answer)) (h : AreMoveRows s ss ts f numbers moves rows) (bests : List Answer) (long : length bests ≡ length numbers)
        (best : (place : ℕ) → place < length numbers → IsBest (column_answers rows place) (slice_index_or bests place fail)) where
      at_edge : (place : ℕ) (k : ℕ) (e : PlainEdge) (q : Option (List TermId)) → place < length numbers → slice_index_or numbers place 0 ≡ k → slice_get f.edges k ≡ Some e → slice_get f.states e.to ≡ Some q
          → EdgeComes s ss moves (label_of (entries_of s.signature ts) e.label) (meant_state s.signature ts q) (slice_index_or bests place fail)
      at_edge place k e q l is at there =
          edge_comes (label_of (entries_of s.signature ts) e.label) (meant_state s.signature ts q) moves (column_answers rows place)
          (with_edge k e q at there moves (column_answers rows place) (subst (λ (z : ℕ). AllZip (λ (m : TermMove) (a : Answer). EdgeComesWith s ss ts f m z a) moves (column_answers rows place)) is (column_zip place l moves rows h)))
          (slice_index_or bests place fail) (best place l)

      record IsAnswered (n : Label) (o : FileState) : Type 0 where
        answer : Answer
        among : Contains bests answer
        comes : EdgeComes s ss moves n o answer

      answered : (n : Label) (j : ℕ) (o : FileState) → HasEdge sys i n j → IsStateAt sys j o → IsAnswered n o
      answered n j o edge at =
          let r = number_of n j o edge at in
          let p = place_in numbers 0 r.number r.among in
          let l : p.0 < length bests = subst (λ (z : ℕ). p.0 < z) (sym long) p.1.0 in
          record {
            answer = slice_index_or bests p.0 fail;
            among = Contains-get_or bests p.0 fail l;
            comes = subst (λ (z : FileState). EdgeComes s ss moves n z (slice_index_or bests p.0 fail)) r.state_is
                (subst (λ (z : Label). EdgeComes s ss moves z (meant_state s.signature ts r.state) (slice_index_or bests p.0 fail)) r.label_is (at_edge p.0 r.number r.edge r.state p.1.0 p.1.1 r.at r.there));
          }

      some_answered : (a : Answer) → Contains bests a → (K : Label → FileState → Type 0) → ((n : Label) (o : FileState) → EdgeComes s ss moves n o a → K n o) → SomeEdge sys i K
      some_answered a c K turn =
          let p = place_in bests fail a c in
          let l : p.0 < length numbers = subst (λ (z : ℕ). p.0 < z) long p.1.0 in
          let e = edge_of (slice_index_or numbers p.0 0) (Contains-get_or numbers p.0 0 l) in
          record {
            label = label_of (entries_of s.signature ts) e.edge.label;
            to = e.edge.to;
            state = meant_state s.signature ts e.state;
            edge = e.has;
            at = e.is_state;
            is = turn (label_of (entries_of s.signature ts) e.edge.label) (meant_state s.signature ts e.state)
                (subst (EdgeComes s ss moves (label_of (entries_of s.signature ts) e.edge.label) (meant_state s.signature ts e.state)) p.1.1 (at_edge p.0 (slice_index_or numbers p.0 0) e.edge e.state l refl e.at e.there));
          }

      pub edges_come : (v : StateVerdict) → IsWorst bests v → EdgesCome s ss sys i moves v
      edges_come Good k = λ n j o edge at. let r = answered n j o edge at in turn n o r.answer r.among r.comes
        where
          turn : (n : Label) (o : FileState) (a : Answer) → Contains bests a → EdgeComes s ss moves n o a → SomeMove moves (λ m. Match s ss m n o)
          turn n o hold c p = p
          turn n o fail c p = absurd (k.1 c)
          turn n o stay_open c p = absurd (k.0 c)
      edges_come Differs k = (
        λ n j o edge at. let r = answered n j o edge at in turn n o r.answer r.among r.comes,
        some_answered fail k.1 (λ n o. EachMove moves (λ m. Differ s ss m n o)) (λ n o p. p),
      )
        where
          turn : (n : Label) (o : FileState) (a : Answer) → Contains bests a → EdgeComes s ss moves n o a → SomeMove moves (λ m. Match s ss m n o) ⊎ EachMove moves (λ m. Differ s ss m n o)
          turn n o hold c p = inl p
          turn n o fail c p = inr p
          turn n o stay_open c p = absurd (k.0 c)
      edges_come Open k = some_answered stay_open k (λ n o. EachMove moves (λ m. DoNotMatch s ss m n o) × SomeMove moves (λ m. CouldStillMatch s ss m n o)) (λ n o p. p)
