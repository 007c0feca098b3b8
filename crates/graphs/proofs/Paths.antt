-- First paths by distances.
use Rattle.std.proofs.Common.{◌≡◌, ◌≢◌, ◌<◌, ◌≤◌, ◌+◌, ◌-◌, ◌⊎◌, inl, inr, Bool, ℕ, zero, suc, List, [], ◌∷◌, ◌++◌, length, get_or, take, refl, sym, ap, ◌∙◌, subst, arith, append_assoc}
use Rattle.std.proofs.lemmas.List.{take_more, append-nil}
use Rattle.std.proofs.lemmas.List.Elements.{Contains-append_left, Contains-append_right, Contains-append_cases}
use Rattle.std.specs.Prelude.{Option, None, Some, MatchOption}
use Rattle.std.specs.List.{Contains, AllPairs}
use Rattle.std.specs.Global.{Vec}
use Rattle.graphs.specs.Graphs.{successors, HasEdge, HasEdgeAmong, IsPath, HasCycle, IsReversed, IsGraph}
use Rattle.graphs.specs.Cycles.{IsBeforeOrSame, IsFirstPath, IsFirstCycle}
use Rattle.graphs.specs.Marking.{KeepsAmong}
use Rattle.graphs.specs.Distances.{HasSteps, IsAt, AreDistances, EdgeTurned, IsNearest}
use Rattle.graphs.proofs.Marks.{contains_last, only_one, same_or_not}
use Rattle.graphs.proofs.Kept.{edge_below}
use Rattle.graphs.proofs.Distances.{at_same}
use Rattle.graphs.proofs.Ranking.{path_map}

-- ---- paths and steps
pub steps_of : (E : ℕ → ℕ → Type 0) (a : ℕ) (xs : List ℕ) (b : ℕ) → IsPath E a xs b → HasSteps E (suc (length xs)) a b
steps_of E a [] b path = (b, path, refl)
steps_of E a (x ∷ xs) b path = (x, path.0, steps_of E x xs b path.1)

pub path_of : (E : ℕ → ℕ → Type 0) (m a b : ℕ) → HasSteps E (suc m) a b → (xs : List ℕ) × IsPath E a xs b × (length xs ≡ m)
path_of E zero a b steps = ([], subst (E a) steps.2 steps.1, refl)
path_of E (suc m) a b steps = let rest = path_of E m steps.0 b steps.2 in (steps.0 ∷ rest.0, (steps.1, rest.1), omega (arith, rest.2))

steps_map : (E F : ℕ → ℕ → Type 0) → ((a b : ℕ) → E a b → F a b) → (n a b : ℕ) → HasSteps E n a b → HasSteps F n a b
steps_map E F turns zero a b steps = steps
steps_map E F turns (suc n) a b steps = (steps.0, turns a steps.0 steps.1, steps_map E F turns n steps.0 b steps.2)

pub distances_turned : (edges back : List (Vec ℕ)) (node : ℕ) (distances : List (Option ℕ)) → IsReversed edges back → AreDistances (EdgeTurned back) node distances → AreDistances (HasEdge edges) node distances
distances_turned edges back node distances turned are = record {
  sound = λ a d at. steps_map (EdgeTurned back) (HasEdge edges) (λ x y edge. (turned.exact x y).0 edge) d a node (are.sound a d at);
  least = λ a n steps. are.least a n (steps_map (HasEdge edges) (EdgeTurned back) (λ x y edge. (turned.exact x y).1 edge) n a node steps);
}

pub turned_graph : (edges back : List (Vec ℕ)) → IsReversed edges back → IsGraph back
turned_graph edges back turned a b edge = subst (λ (n : ℕ). b < n) (sym turned.size) (edge_below edges b a ((turned.exact b a).0 edge))

none_some : (d : ℕ) → None ≡ Some d → ⊥
none_some d wrong = cc

none_at : (ds : List (Option ℕ)) (x a d : ℕ) → get_or ds x None ≡ None → a ≡ x → IsAt ds a d → ⊥
none_at ds x a d none same at = none_some d (sym none ∙ subst (λ (n : ℕ). IsAt ds n d) same at)

-- ---- the nearest node
abbrev pub NearestSoFar : List ℕ → List (Option ℕ) → Option (ℕ × ℕ) → Type 0
NearestSoFar nodes distances found = MatchOption found ((a d : ℕ) → Contains nodes a → IsAt distances a d → ⊥) (λ f. IsNearest nodes distances f.1 f.0)

nearest_skip_plain : (nodes : List ℕ) (ds : List (Option ℕ)) (found : Option (ℕ × ℕ)) (x : ℕ) → NearestSoFar nodes ds found → get_or ds x None ≡ None → NearestSoFar (nodes ++ x ∷ []) ds found
nearest_skip_plain nodes ds None x so none = λ a d one at. elim (Contains-append_cases nodes (x ∷ []) a one) [ inl before ↦ so a d before at | inr last ↦ none_at ds x a d none (only_one x a last) at ]
nearest_skip_plain nodes ds (Some f) x so none = record {
  one = Contains-append_left nodes (x ∷ []) f.1 so.one;
  near = so.near;
  nearest = λ a d one at. elim (Contains-append_cases nodes (x ∷ []) a one) [ inl before ↦ so.nearest a d before at | inr last ↦ absurd (none_at ds x a d none (only_one x a last) at) ];
}

nearest_keep_plain : (nodes : List ℕ) (ds : List (Option ℕ)) (found : Option (ℕ × ℕ)) (x d : ℕ) → NearestSoFar nodes ds found → IsAt ds x d → MatchOption found ⊥ (λ f. (f.0 < d) ⊎ ((f.0 ≡ d) × (f.1 ≤ x))) → NearestSoFar (nodes ++ x ∷ []) ds found
nearest_keep_plain nodes ds None x d so at_x farther = absurd farther
nearest_keep_plain nodes ds (Some f) x d so at_x farther = record {
  one = Contains-append_left nodes (x ∷ []) f.1 so.one;
  near = so.near;
  nearest = λ a e one at. elim (Contains-append_cases nodes (x ∷ []) a one) [
    | inl before ↦ so.nearest a e before at
    | inr last ↦
        let same : a ≡ x = only_one x a last in
        let is : e ≡ d = at_same ds x e d (subst (λ (n : ℕ). IsAt ds n e) same at) at_x in
        elim farther [ inl less ↦ inl (omega (arith, less)) | inr tie ↦ inr (omega (arith, tie.0), omega (arith, tie.1)) ]
  ];
}

nearest_take_plain : (nodes : List ℕ) (ds : List (Option ℕ)) (found : Option (ℕ × ℕ)) (x d : ℕ) → NearestSoFar nodes ds found → IsAt ds x d → MatchOption found (Unit {0}) (λ f. (d < f.0) ⊎ ((d ≡ f.0) × (x < f.1))) → NearestSoFar (nodes ++ x ∷ []) ds (Some (d, x))
nearest_take_plain nodes ds found x d so at_x nearer = record {
  one = Contains-append_right nodes (x ∷ []) x (contains_last x);
  near = at_x;
  nearest = λ a e one at. elim (Contains-append_cases nodes (x ∷ []) a one) [
    | inl before ↦ earlier nodes ds found x d so nearer a e before at
    | inr last ↦
        let same : a ≡ x = only_one x a last in
        let is : e ≡ d = at_same ds x e d (subst (λ (n : ℕ). IsAt ds n e) same at) at_x in
        inr (sym is, omega arith)
  ];
}
  where
    earlier : (nodes : List ℕ) (ds : List (Option ℕ)) (found : Option (ℕ × ℕ)) (x d : ℕ) → NearestSoFar nodes ds found → MatchOption found (Unit {0}) (λ f. (d < f.0) ⊎ ((d ≡ f.0) × (x < f.1))) → (a e : ℕ) → Contains nodes a → IsAt ds a e → (d < e) ⊎ ((d ≡ e) × (x ≤ a))
    earlier nodes ds None x d so nearer a e before at = absurd (so a e before at)
    earlier nodes ds (Some f) x d so nearer a e before at = elim nearer [
      | inl less ↦ elim (so.nearest a e before at) [ inl far ↦ inl (omega (arith, less, far)) | inr tie ↦ inl (omega (arith, less, tie.0)) ]
      | inr same ↦ elim (so.nearest a e before at) [ inl far ↦ inl (omega (arith, same.0, far)) | inr tie ↦ inr (omega (arith, same.0, tie.0), omega (arith, same.1, tie.1)) ]
    ]

pub nearest_skip : (nodes : List ℕ) (i : ℕ) (ds : List (Option ℕ)) (found : Option (ℕ × ℕ)) → NearestSoFar (take i nodes) ds found → i < length nodes → get_or ds (get_or nodes i 0) None ≡ None → NearestSoFar (take (i + 1) nodes) ds found
nearest_skip nodes i ds found so below none = subst (λ (l : List ℕ). NearestSoFar l ds found) (sym (take_more nodes i 0 below)) (nearest_skip_plain (take i nodes) ds found (get_or nodes i 0) so none)

pub nearest_keep : (nodes : List ℕ) (i : ℕ) (ds : List (Option ℕ)) (found found' : Option (ℕ × ℕ)) (d : ℕ) → NearestSoFar (take i nodes) ds found → i < length nodes → IsAt ds (get_or nodes i 0) d → MatchOption found ⊥ (λ f. (f.0 < d) ⊎ ((f.0 ≡ d) × (f.1 ≤ get_or nodes i 0))) → found' ≡ found → NearestSoFar (take (i + 1) nodes) ds found'
nearest_keep nodes i ds found found' d so below at farther is = subst (λ (l : List ℕ). NearestSoFar l ds found') (sym (take_more nodes i 0 below)) (subst (λ (f : Option (ℕ × ℕ)). NearestSoFar (take i nodes ++ get_or nodes i 0 ∷ []) ds f) (sym is) (nearest_keep_plain (take i nodes) ds found (get_or nodes i 0) d so at farther))

pub nearest_take : (nodes : List ℕ) (i : ℕ) (ds : List (Option ℕ)) (found found' : Option (ℕ × ℕ)) (d : ℕ) → NearestSoFar (take i nodes) ds found → i < length nodes → IsAt ds (get_or nodes i 0) d → MatchOption found (Unit {0}) (λ f. (d < f.0) ⊎ ((d ≡ f.0) × (get_or nodes i 0 < f.1))) → found' ≡ Some (d, get_or nodes i 0) → NearestSoFar (take (i + 1) nodes) ds found'
nearest_take nodes i ds found found' d so below at nearer is = subst (λ (l : List ℕ). NearestSoFar l ds found') (sym (take_more nodes i 0 below)) (subst (λ (f : Option (ℕ × ℕ)). NearestSoFar (take i nodes ++ get_or nodes i 0 ∷ []) ds f) (sym is) (nearest_take_plain (take i nodes) ds found (get_or nodes i 0) d so at nearer))

-- ---- what is left of a path: nothing at its end, and else a first path
abbrev pub IsRest : (ℕ → ℕ → Type 0) → ℕ → ℕ → List ℕ → Type 0
IsRest E a b zs = ((a ≡ b) × (zs ≡ [])) ⊎ ((ys : List ℕ) × (zs ≡ a ∷ ys) × (a ≢ b) × IsFirstPath E a ys b)

rest_short : (E : ℕ → ℕ → Type 0) (a b : ℕ) (zs : List ℕ) (d : ℕ) → IsRest E a b zs → HasSteps E d a b → length zs ≤ d
rest_short E a b zs d (inl ended) steps = rw ended.1 (omega arith)
rest_short E a b zs zero (inr rest) steps = absurd (rest.2 steps)
rest_short E a b zs (suc m) (inr rest) steps =
    let other = path_of E m a b steps in
    let short = rest.3.shortest other.0 other.1 in
    omega (arith, other.2, ap length rest.1)

-- ---- a step to the nearest successor begins a first path
compared_with : (edges : List (Vec ℕ)) (ds : List (Option ℕ)) (a node next d : ℕ) (zs : List ℕ) → AreDistances (HasEdge edges) node ds → IsNearest (successors edges a) ds next d → IsRest (HasEdge edges) next node zs → (ys : List ℕ) → IsPath (HasEdge edges) a ys node → (length zs ≤ length ys) × (length ys ≡ length zs → IsBeforeOrSame zs ys)
compared_with edges ds a node next d zs are near rest [] path =
    let at_node = are.least node 0 refl in
    let zero_far : d ≡ 0 = elim (near.nearest node at_node.0 path at_node.1) [ inl less ↦ absurd (omega (arith, less, at_node.2)) | inr tie ↦ omega (arith, tie.0, at_node.2) ] in
    let steps = subst (λ (n : ℕ). HasSteps (HasEdge edges) n next node) zero_far (are.sound next d near.near) in
    let short = rest_short (HasEdge edges) next node zs 0 rest steps in
    (short, λ same. nothing_before zs short)
  where
    nothing_before : (zs : List ℕ) → length zs ≤ 0 → IsBeforeOrSame zs []
    nothing_before [] short = tt
    nothing_before (z ∷ zs) short = absurd (omega arith)
compared_with edges ds a node next d zs are near rest (y ∷ ys) path =
    let at_y = are.least y (suc (length ys)) (steps_of (HasEdge edges) y ys node path.1) in
    let short = rest_short (HasEdge edges) next node zs d rest (are.sound next d near.near) in
    let compared = near.nearest y at_y.0 path.0 at_y.1 in
    let within : length zs ≤ suc (length ys) = elim compared [ inl less ↦ omega (arith, less, short, at_y.2) | inr tie ↦ omega (arith, tie.0, short, at_y.2) ] in (
      within,
      λ same. elim compared [
        | inl less ↦ absurd (omega (arith, less, short, at_y.2, same))
        | inr tie ↦ elim rest [
          | inl ended ↦ absurd (omega (arith, ap length ended.1, same))
          | inr on ↦ subst (λ (l : List ℕ). IsBeforeOrSame l (y ∷ ys)) (sym on.1) (elim (same_or_not next y) [
            | inl one ↦ inr (one, on.3.first ys (subst (λ (n : ℕ). IsPath (HasEdge edges) n ys node) (sym one) path.1) (omega (arith, same, ap length on.1)))
            | inr differs ↦ inl (omega (arith, tie.1))
          ])
        ]
      ],
    )

pub first_step : (edges : List (Vec ℕ)) (ds : List (Option ℕ)) (a node next d : ℕ) (zs : List ℕ) → AreDistances (HasEdge edges) node ds → IsNearest (successors edges a) ds next d → IsRest (HasEdge edges) next node zs → IsFirstPath (HasEdge edges) a zs node
first_step edges ds a node next d zs are near rest = record {
  path = elim rest [
    | inl ended ↦ subst (λ (l : List ℕ). IsPath (HasEdge edges) a l node) (sym ended.1) (subst (HasEdge edges a) ended.0 near.one)
    | inr on ↦ subst (λ (l : List ℕ). IsPath (HasEdge edges) a l node) (sym on.1) (near.one, on.3.path)
  ];
  shortest = λ ys path. (compared_with edges ds a node next d zs are near rest ys path).0;
  first = λ ys path same. (compared_with edges ds a node next d zs are near rest ys path).1 same;
}

-- ---- the walk along nearest successors
pub record IsTrace (edges : List (Vec ℕ)) (ds : List (Option ℕ)) (node : ℕ) (cycle : List ℕ) (current left : ℕ) : Type 0 where
  pub within : current < length edges
  pub near : IsAt ds current left
  pub rest : (xs : List ℕ) × (cycle ≡ node ∷ xs) × ((zs : List ℕ) → IsRest (HasEdge edges) current node zs → IsFirstPath (HasEdge edges) node (xs ++ zs) node)

pub trace_begun : (edges : List (Vec ℕ)) (ds : List (Option ℕ)) (node : ℕ) (cycle : List ℕ) (current left : ℕ) → IsGraph edges → AreDistances (HasEdge edges) node ds → IsNearest (successors edges node) ds current left → cycle ≡ node ∷ [] → IsTrace edges ds node cycle current left
trace_begun edges ds node cycle current left graph are near is = record {
  within = graph node current near.one;
  near = near.near;
  rest = ([], is, λ zs rest. first_step edges ds node node current left zs are near rest);
}

pub trace_more : (edges : List (Vec ℕ)) (ds : List (Option ℕ)) (node : ℕ) (cycle : List ℕ) (current left : ℕ) (cycle' : List ℕ) (next less : ℕ) → IsGraph edges → AreDistances (HasEdge edges) node ds → IsTrace edges ds node cycle current left → current ≢ node → IsNearest (successors edges current) ds next less → cycle' ≡ cycle ++ current ∷ [] → IsTrace edges ds node cycle' next less
trace_more edges ds node cycle current left cycle' next less graph are was differs near is = record {
  within = graph current next near.one;
  near = near.near;
  rest = (
    was.rest.0 ++ current ∷ [],
    is ∙ ap (λ (l : List ℕ). l ++ current ∷ []) was.rest.1,
    λ zs rest.
        rw append_assoc (was.rest.2 (current ∷ zs) (inr (zs, refl, differs, first_step edges ds current node next less zs are near rest))),
  );
}

-- a node that isn't the last has a nearer successor
pub nearer_on : (edges : List (Vec ℕ)) (ds : List (Option ℕ)) (node current left : ℕ) → AreDistances (HasEdge edges) node ds → IsAt ds current left → current ≢ node → (b e : ℕ) × HasEdge edges current b × IsAt ds b e × (e < left)
nearer_on edges ds node current left are near differs = on left refl (are.sound current left near)
  where
    on : (n : ℕ) → left ≡ n → HasSteps (HasEdge edges) n current node → (b e : ℕ) × HasEdge edges current b × IsAt ds b e × (e < left)
    on zero is steps = absurd (differs steps)
    on (suc m) is steps = let at = are.least steps.0 m steps.2 in (steps.0, at.0, steps.1, at.1, omega (arith, at.2))

pub trace_less : (edges : List (Vec ℕ)) (ds : List (Option ℕ)) (node current left next less : ℕ) → AreDistances (HasEdge edges) node ds → IsAt ds current left → current ≢ node → IsNearest (successors edges current) ds next less → less < left
trace_less edges ds node current left next less are at differs near =
    let on = nearer_on edges ds node current left are at differs in
    elim (near.nearest on.0 on.1 on.2 on.3) [ inl far ↦ omega (arith, far, on.4) | inr tie ↦ omega (arith, tie.0, on.4) ]

pub trace_ended : (edges : List (Vec ℕ)) (ds : List (Option ℕ)) (node : ℕ) (cycle : List ℕ) (current left : ℕ) → IsTrace edges ds node cycle current left → current ≡ node → (xs : List ℕ) × (cycle ≡ node ∷ xs) × IsFirstPath (HasEdge edges) node xs node
trace_ended edges ds node cycle current left was same = (was.rest.0, was.rest.1, subst (λ (l : List ℕ). IsFirstPath (HasEdge edges) node l node) (append-nil was.rest.0) (was.rest.2 [] (inl (same, refl))))

pub no_way_back : (edges : List (Vec ℕ)) (ds : List (Option ℕ)) (node : ℕ) → AreDistances (HasEdge edges) node ds → ((a d : ℕ) → HasEdge edges node a → IsAt ds a d → ⊥) → (xs : List ℕ) → IsPath (HasEdge edges) node xs node → ⊥
no_way_back edges ds node are none [] path = let at = are.least node 0 refl in none node at.0 path at.1
no_way_back edges ds node are none (x ∷ xs) path = let at = are.least x (suc (length xs)) (steps_of (HasEdge edges) x xs node path.1) in none x at.0 path.0 at.1

lt_or_ge : (a b : ℕ) → (a < b) ⊎ (b ≤ a)
lt_or_ge zero zero = inr (omega arith)
lt_or_ge zero (suc b) = inl (omega arith)
lt_or_ge (suc a) zero = inr (omega arith)
lt_or_ge (suc a) (suc b) = elim (lt_or_ge a b) [ inl less ↦ inl (omega arith) | inr more ↦ inr (omega arith) ]

-- ---- a shortest path meets no node twice
path_end : (E : ℕ → ℕ → Type 0) (a : ℕ) (xs : List ℕ) (b : ℕ) → IsPath E a xs b → (j m d : ℕ) → m + j ≡ length xs → HasSteps E (suc m) (get_or (a ∷ xs) j d) b
path_end E a xs b path zero m d is =
    let all : length xs ≡ m = omega arith in
    subst (λ (n : ℕ). HasSteps E (suc n) a b) all (steps_of E a xs b path)
path_end E a [] b path (suc j) m d is = absurd (omega arith)
path_end E a (x ∷ xs) b path (suc j) m d is = path_end E x xs b path.1 j m d (omega arith)

path_front : (E : ℕ → ℕ → Type 0) (a : ℕ) (xs : List ℕ) (b : ℕ) → IsPath E a xs b → (i n d : ℕ) → i ≤ length xs → HasSteps E n (get_or (a ∷ xs) i d) b → (k : ℕ) × (k ≡ i + n) × HasSteps E k a b
path_front E a xs b path zero n d short steps = (n, omega arith, steps)
path_front E a [] b path (suc i) n d short steps = absurd (omega arith)
path_front E a (x ∷ xs) b path (suc i) n d short steps =
    let rest = path_front E x xs b path.1 i n d (omega arith) steps in
    (suc rest.0, omega (arith, rest.1), (x, path.0, rest.2))

first_distinct : (E : ℕ → ℕ → Type 0) (a : ℕ) (xs : List ℕ) (b : ℕ) → IsFirstPath E a xs b → AllPairs (λ x y. x ≢ y) (a ∷ xs)
first_distinct E a xs b so i j d less short same =
    let inside : j ≤ length xs = omega arith in
    let end : HasSteps E (suc (length xs - j)) (get_or (a ∷ xs) j d) b = path_end E a xs b so.path j (length xs - j) d (omega arith) in
    let end' : HasSteps E (suc (length xs - j)) (get_or (a ∷ xs) i d) b = subst (λ (n : ℕ). HasSteps E (suc (length xs - j)) n b) (sym same) end in
    let cut = path_front E a xs b so.path i (suc (length xs - j)) d (omega arith) end' in
    let is : cut.0 ≡ suc (i + (length xs - j)) = omega (arith, cut.1) in
    let other = path_of E (i + (length xs - j)) a b (subst (λ (n : ℕ). HasSteps E n a b) is cut.2) in
    let shortest = so.shortest other.0 other.1 in
    omega (arith, shortest, other.2)

-- ---- the cycle among the marked nodes
first_path_map : (E F : ℕ → ℕ → Type 0) → ((a b : ℕ) → E a b → F a b) → ((a b : ℕ) → F a b → E a b) → (a : ℕ) (xs : List ℕ) (b : ℕ) → IsFirstPath E a xs b → IsFirstPath F a xs b
first_path_map E F to from a xs b so = record {
  path = path_map E F to a xs b so.path;
  shortest = λ ys path. so.shortest ys (path_map F E from a ys b path);
  first = λ ys path same. so.first ys (path_map F E from a ys b path) same;
}

pub cycle_found : (edges : List (Vec ℕ)) (among : List Bool) (kept : List (Vec ℕ)) (node : ℕ) (cycle : List ℕ) → KeepsAmong edges among kept → ((y : ℕ) → y < node → (ys : List ℕ) → IsPath (HasEdge kept) y ys y → ⊥) → (xs : List ℕ) × (cycle ≡ node ∷ xs) × IsFirstPath (HasEdge kept) node xs node → IsFirstCycle (HasEdgeAmong edges among) cycle
cycle_found edges among kept node cycle keeps none found = subst (IsFirstCycle (HasEdgeAmong edges among)) (sym found.1) (
  first_path_map (HasEdge kept) (HasEdgeAmong edges among) (λ a b. (keeps.exact a b).0) (λ a b. (keeps.exact a b).1) node found.0 node found.2,
  λ y ys path. elim (lt_or_ge y node) [
    | inl less ↦ absurd (none y less ys (path_map (HasEdgeAmong edges among) (HasEdge kept) (λ a b. (keeps.exact a b).1) y ys y path))
    | inr more ↦ more
  ],
  first_distinct (HasEdge kept) node found.0 node found.2,
)

path_begins : (edges : List (Vec ℕ)) (a : ℕ) (xs : List ℕ) (b : ℕ) → IsPath (HasEdge edges) a xs b → a < length edges
path_begins edges a [] b path = edge_below edges a b path
path_begins edges a (x ∷ xs) b path = edge_below edges a x path.0

pub no_cycle_left : (edges : List (Vec ℕ)) (among : List Bool) (kept : List (Vec ℕ)) → KeepsAmong edges among kept → ((y : ℕ) → y < length kept → (ys : List ℕ) → IsPath (HasEdge kept) y ys y → ⊥) → HasCycle (HasEdgeAmong edges among) → ⊥
no_cycle_left edges among kept keeps none cycle =
    let path = path_map (HasEdgeAmong edges among) (HasEdge kept) (λ a b. (keeps.exact a b).1) cycle.0 cycle.1 cycle.0 cycle.2 in
    none cycle.0 (path_begins kept cycle.0 cycle.1 cycle.0 path) cycle.1 path

pub none_more : (E : ℕ → ℕ → Type 0) (n : ℕ) → ((y : ℕ) → y < n → (ys : List ℕ) → IsPath E y ys y → ⊥) → ((ys : List ℕ) → IsPath E n ys n → ⊥) → (y : ℕ) → y < n + 1 → (ys : List ℕ) → IsPath E y ys y → ⊥
none_more E n before here y below ys path = elim (same_or_not y n) [
  | inl same ↦ here ys (subst (λ (m : ℕ). IsPath E m ys m) same path)
  | inr differs ↦ before y (omega arith) ys path
]

-- ---- the first cycle along the same edges
pub first_cycle_map : (E F : ℕ → ℕ → Type 0) → ((a b : ℕ) → E a b → F a b) → ((a b : ℕ) → F a b → E a b) → (cycle : List ℕ) → IsFirstCycle E cycle → IsFirstCycle F cycle
first_cycle_map E F to from [] first = first
first_cycle_map E F to from (x ∷ xs) first = (first_path_map E F to from x xs x first.0, λ y ys path. first.1 y ys (path_map F E from y ys y path), first.2)

-- each node of a path but the last has an edge
path_edge : (E : ℕ → ℕ → Type 0) (a : ℕ) (xs : List ℕ) (b c : ℕ) → IsPath E a xs b → Contains (a ∷ xs) c → (e : ℕ) × E c e
path_edge E a [] b c path stands = (b, subst (λ (n : ℕ). E n b) (sym (only_one a c stands)) path)
path_edge E a (x ∷ xs) b c path (zero, below, same) = (x, subst (λ (n : ℕ). E n x) same path.0)
path_edge E a (x ∷ xs) b c path (suc k, below, same) = path_edge E x xs b c path.1 (k, omega arith, same)

pub cycle_below : (edges : List (Vec ℕ)) (among : List Bool) (cycle : List ℕ) → IsFirstCycle (HasEdgeAmong edges among) cycle → (a : ℕ) → Contains cycle a → a < length edges
cycle_below edges among [] first a stands = absurd first
cycle_below edges among (x ∷ xs) first a stands = let edge = path_edge (HasEdgeAmong edges among) x xs x a first.0.path stands in edge_below edges a edge.0 edge.1.1
