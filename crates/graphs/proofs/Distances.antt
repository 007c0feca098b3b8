-- The search in breadth that gives distances.
use Rattle.std.proofs.Common.{◌≡◌, ◌≢◌, ◌<◌, ◌≤◌, ◌+◌, inl, inr, ℕ, zero, suc, List, [], ◌∷◌, ◌++◌, length, get_or, set, take, replicate, refl, sym, ap, ◌∙◌, subst, arith, length-append, get_or-set_same, get_or-set_other}
use Rattle.std.proofs.Math.ListN.{length-set, length-replicate}
use Rattle.std.proofs.lemmas.List.{take_more}
use Rattle.std.proofs.lemmas.List.Elements.{Contains-append_left, Contains-append_right, Contains-append_cases}
use Rattle.std.proofs.lemmas.List.Sums.{sum_by-set, sum_by-cons}
use Rattle.std.specs.Prelude.{Option, None, Some, is_some, true, false, sum_by, ◌==◌}
use Rattle.std.proofs.lemmas.Bool.Decides.{eqb_tells}
use Rattle.std.specs.List.{Contains}
use Rattle.std.specs.Global.{Vec}
use Rattle.graphs.specs.Graphs.{successors, HasEdge}
use Rattle.graphs.specs.Distances.{HasSteps, IsAt, AreDistances, EdgeTurned, lacks, ReachesAll, ReachesLevel}
use Rattle.graphs.proofs.Marks.{contains_last, only_one, none_contained, same_or_not, read_any}

some_same : (d e : ℕ) → Some d ≡ Some e → d ≡ e
some_same d e same = cc

none_some : (d : ℕ) → None ≡ Some d → ⊥
none_some d wrong = cc

pub at_same : (ds : List (Option ℕ)) (a d e : ℕ) → IsAt ds a d → IsAt ds a e → d ≡ e
at_same ds a d e at_d at_e = some_same d e (sym at_d ∙ at_e)

at_set : (ds : List (Option ℕ)) (x d : ℕ) → x < length ds → IsAt (set ds x (Some d)) x d
at_set ds x d below = get_or-set_same ds x (Some d) None below

at_other : (ds : List (Option ℕ)) (x d a : ℕ) → a ≢ x → get_or (set ds x (Some d)) a None ≡ get_or ds a None
at_other ds x d a differs = get_or-set_other ds x a (Some d) None differs

-- ---- all of some nodes are reached
pub reaches_none : (distance : ℕ) (old : List (Option ℕ)) (next : List ℕ) → ReachesAll [] distance old next old next
reaches_none distance old next = record {
  size = refl;
  kept = λ a d at. at;
  all = λ a wrong. absurd (none_contained a wrong);
  given = λ a d at. inl at;
  stay = λ a stands. stands;
  put = λ a stands. inl stands;
  left = refl;
}

pub reaches_old : (nodes : List ℕ) (distance : ℕ) (old : List (Option ℕ)) (next : List ℕ) (new : List (Option ℕ)) (next' : List ℕ) (x k : ℕ) → ReachesAll nodes distance old next new next' → IsAt new x k → ReachesAll (nodes ++ x ∷ []) distance old next new next'
reaches_old nodes distance old next new next' x k so at_x = record {
  size = so.size;
  kept = so.kept;
  all = λ a one. elim (Contains-append_cases nodes (x ∷ []) a one) [ inl before ↦ so.all a before | inr last ↦ (k, subst (λ (n : ℕ). IsAt new n k) (sym (only_one x a last)) at_x) ];
  given = λ a d at. elim (so.given a d at) [ inl was ↦ inl was | inr fresh ↦ inr (fresh.0, Contains-append_left nodes (x ∷ []) a fresh.1, fresh.2) ];
  stay = so.stay;
  put = so.put;
  left = so.left;
}

pub reaches_new : (nodes : List ℕ) (distance : ℕ) (old : List (Option ℕ)) (next : List ℕ) (new : List (Option ℕ)) (next' : List ℕ) (x : ℕ) → ReachesAll nodes distance old next new next' → x < length new → get_or new x None ≡ None → ReachesAll (nodes ++ x ∷ []) distance old next (set new x (Some distance)) (next' ++ x ∷ [])
reaches_new nodes distance old next new next' x so below none =
    let last_one : Contains (next' ++ x ∷ []) x = Contains-append_right next' (x ∷ []) x (contains_last x) in
    let still : (a d : ℕ) → IsAt new a d → IsAt (set new x (Some distance)) a d = λ a d at. at_other new x distance a (λ same. none_some d (sym none ∙ subst (λ (n : ℕ). IsAt new n d) same at)) ∙ at in
    record {
      size = length-set new x (Some distance) ∙ so.size;
      kept = λ a d at. still a d (so.kept a d at);
      all = λ a one. elim (Contains-append_cases nodes (x ∷ []) a one) [
        | inl before ↦ let was = so.all a before in (was.0, still a was.0 was.1)
        | inr last ↦ (distance, subst (λ (n : ℕ). IsAt (set new x (Some distance)) n distance) (sym (only_one x a last)) (at_set new x distance below))
      ];
      given = λ a d at. elim (same_or_not a x) [
        | inl same ↦ inr (some_same d distance (sym at ∙ subst (λ (n : ℕ). IsAt (set new x (Some distance)) n distance) (sym same) (at_set new x distance below)), subst (Contains (nodes ++ x ∷ [])) (sym same) (Contains-append_right nodes (x ∷ []) x (contains_last x)), subst (Contains (next' ++ x ∷ [])) (sym same) last_one)
        | inr differs ↦ elim (so.given a d (sym (at_other new x distance a differs) ∙ at)) [
          | inl was ↦ inl was
          | inr fresh ↦ inr (fresh.0, Contains-append_left nodes (x ∷ []) a fresh.1, Contains-append_left next' (x ∷ []) a fresh.2)
        ]
      ];
      stay = λ a stands. Contains-append_left next' (x ∷ []) a (so.stay a stands);
      put = λ a stands. elim (Contains-append_cases next' (x ∷ []) a stands) [
        | inl before ↦ elim (so.put a before) [ inl was ↦ inl was | inr at ↦ inr (still a distance at) ]
        | inr last ↦ inr (subst (λ (n : ℕ). IsAt (set new x (Some distance)) n distance) (sym (only_one x a last)) (at_set new x distance below))
      ];
      left =
          let one : lacks (get_or new x None) ≡ 1 = ap lacks none in
          let sums = sum_by-set lacks new x (Some distance) None below in
          omega (arith, one, sums, so.left, length-append next' (x ∷ []));
    }

pub reach_turn_new : (nodes : List ℕ) (i distance : ℕ) (old : List (Option ℕ)) (next : List ℕ) (new : List (Option ℕ)) (next' : List ℕ) (new' : List (Option ℕ)) (next'' : List ℕ) → ReachesAll (take i nodes) distance old next new next' → i < length nodes → get_or nodes i 0 < length new → get_or new (get_or nodes i 0) None ≡ None → new' ≡ set new (get_or nodes i 0) (Some distance) → next'' ≡ next' ++ get_or nodes i 0 ∷ [] → ReachesAll (take (i + 1) nodes) distance old next new' next''
reach_turn_new nodes i distance old next new next' new' next'' so below within none set_is push_is = rw (set_is, push_is, take_more nodes i 0 below) (reaches_new (take i nodes) distance old next new next' (get_or nodes i 0) so within none)

pub reach_turn_old : (nodes : List ℕ) (i distance : ℕ) (old : List (Option ℕ)) (next : List ℕ) (new : List (Option ℕ)) (next' : List ℕ) (new' : List (Option ℕ)) (next'' : List ℕ) (k : ℕ) → ReachesAll (take i nodes) distance old next new next' → i < length nodes → IsAt new (get_or nodes i 0) k → new' ≡ new → next'' ≡ next' → ReachesAll (take (i + 1) nodes) distance old next new' next''
reach_turn_old nodes i distance old next new next' new' next'' k so below at same_new same_next = rw (same_new, same_next, take_more nodes i 0 below) (reaches_old (take i nodes) distance old next new next' (get_or nodes i 0) k so at)

-- ---- a level
pub level_none : (back : List (Vec ℕ)) (distance : ℕ) (old : List (Option ℕ)) (next : List ℕ) → next ≡ [] → ReachesLevel back [] distance old old next
level_none back distance old next none = rw none (record {
  size = refl;
  kept = λ a d at. at;
  all = λ a b wrong edge. absurd (none_contained b wrong);
  given = λ a d at. inl at;
  put = λ a wrong. absurd (none_contained a wrong);
  left = omega arith;
})

pub level_more : (back : List (Vec ℕ)) (level : List ℕ) (i distance : ℕ) (old new : List (Option ℕ)) (next : List ℕ) (new' : List (Option ℕ)) (next' : List ℕ) → ReachesLevel back (take i level) distance old new next → i < length level → ReachesAll (successors back (get_or level i 0)) distance new next new' next' → ReachesLevel back (take (i + 1) level) distance old new' next'
level_more back level i distance old new next new' next' so below reaches = rw (take_more level i 0 below) (record {
  size = reaches.size ∙ so.size;
  kept = λ a d at. reaches.kept a d (so.kept a d at);
  all = λ a b stands edge. elim (Contains-append_cases (take i level) (get_or level i 0 ∷ []) b stands) [
    | inl before ↦ let was = so.all a b before edge in (was.0, reaches.kept a was.0 was.1)
    | inr last ↦ reaches.all a (subst (λ (n : ℕ). HasEdge back n a) (only_one (get_or level i 0) b last) edge)
  ];
  given = λ a d at. elim (reaches.given a d at) [
    | inl before ↦ elim (so.given a d before) [
      | inl was ↦ inl was
      | inr fresh ↦ inr (fresh.0, reaches.stay a fresh.1, (fresh.2.0, Contains-append_left (take i level) (get_or level i 0 ∷ []) fresh.2.0 fresh.2.1, fresh.2.2))
    ]
    | inr fresh ↦ inr (fresh.0, fresh.2, (get_or level i 0, Contains-append_right (take i level) (get_or level i 0 ∷ []) (get_or level i 0) (contains_last (get_or level i 0)), fresh.1))
  ];
  put = λ a stands. elim (reaches.put a stands) [ inl before ↦ reaches.kept a distance (so.put a before) | inr at ↦ at ];
  left = omega (arith, so.left, reaches.left);
})

-- ---- the levels up to a distance
pub record IsLevel (back : List (Vec ℕ)) (node : ℕ) (distances : List (Option ℕ)) (level : List ℕ) (d : ℕ) : Type 0 where
  pub size : length distances ≡ length back
  pub sound : (a e : ℕ) → IsAt distances a e → HasSteps (EdgeTurned back) e a node
  pub bound : (a e : ℕ) → IsAt distances a e → e ≤ d
  pub least : (a n : ℕ) → n ≤ d → HasSteps (EdgeTurned back) n a node → (e : ℕ) × IsAt distances a e × (e ≤ n)
  pub on_level : (a : ℕ) → Contains level a → IsAt distances a d
  pub whole : (a : ℕ) → IsAt distances a d → Contains level a
  pub budget : d + sum_by lacks distances + length level ≤ length back

abbrev nothing : Option ℕ
nothing = None

lacks_below : (ds : List (Option ℕ)) → sum_by lacks ds ≤ length ds
lacks_below [] = omega arith
lacks_below (None ∷ ds) = let below = lacks_below ds in omega (arith, sum_by-cons lacks None ds)
lacks_below (Some d ∷ ds) = let below = lacks_below ds in omega (arith, sum_by-cons lacks (Some d) ds)

none_at_first : (n a e : ℕ) → get_or (replicate n None) a None ≡ Some e → ⊥
none_at_first zero a e at = none_some e at
none_at_first (suc n) zero e at = none_some e at
none_at_first (suc n) (suc a) e at = none_at_first n a e at

pub level_begun : (back : List (Vec ℕ)) (node : ℕ) (distances : List (Option ℕ)) (level : List ℕ) → node < length back → distances ≡ set (replicate (length back) None) node (Some 0) → level ≡ node ∷ [] → IsLevel back node distances level 0
level_begun back node distances level within is level_is =
    let size : length (replicate (length back) nothing) ≡ length back = length-replicate (length back) None in
    let below : node < length (replicate (length back) nothing) = omega arith in
    let at_node = at_set (replicate (length back) None) node 0 below in
    let only : (a e : ℕ) → IsAt (set (replicate (length back) None) node (Some 0)) a e → (a ≡ node) × (e ≡ 0) = λ a e at. elim (same_or_not a node) [
      | inl same ↦ (same, at_same (set (replicate (length back) None) node (Some 0)) a e 0 at (subst (λ (n : ℕ). IsAt (set (replicate (length back) None) node (Some 0)) n 0) (sym same) at_node))
      | inr differs ↦ absurd (none_at_first (length back) a e (sym (at_other (replicate (length back) None) node 0 a differs) ∙ at))
    ] in
    rw (is, level_is) (record {
      size = length-set (replicate (length back) None) node (Some 0) ∙ size;
      sound = λ a e at. subst (λ (n : ℕ). HasSteps (EdgeTurned back) n a node) (sym (only a e at).1) (only a e at).0;
      bound = λ a e at. omega (arith, (only a e at).1);
      least = λ a n small steps. (0, begun back node a n small steps at_node, omega arith);
      on_level = λ a stands. subst (λ (n : ℕ). IsAt (set (replicate (length back) None) node (Some 0)) n 0) (sym (only_one node a stands)) at_node;
      whole = λ a at. subst (Contains (node ∷ [])) (sym (only a 0 at).0) (contains_last node);
      budget =
          let sums = sum_by-set lacks (replicate (length back) None) node (Some 0) None below in
          let one : get_or (replicate (length back) None) node None ≡ None = begun_none (length back) node in
          let one' : lacks (get_or (replicate (length back) None) node None) ≡ 1 = ap lacks one in
          omega (arith, sums, one', size, lacks_below (replicate (length back) None));
    })
  where
    begun : (back : List (Vec ℕ)) (node a n : ℕ) → n ≤ 0 → HasSteps (EdgeTurned back) n a node → IsAt (set (replicate (length back) None) node (Some 0)) node 0 → IsAt (set (replicate (length back) None) node (Some 0)) a 0
    begun back node a zero small steps at = subst (λ (m : ℕ). IsAt (set (replicate (length back) None) node (Some 0)) m 0) (sym steps) at
    begun back node a (suc n) small steps at = absurd (omega arith)

    begun_none : (n a : ℕ) → get_or (replicate n nothing) a None ≡ None
    begun_none zero a = refl
    begun_none (suc n) zero = refl
    begun_none (suc n) (suc a) = begun_none n a

pub level_next : (back : List (Vec ℕ)) (node : ℕ) (distances : List (Option ℕ)) (level : List ℕ) (d : ℕ) (new : List (Option ℕ)) (next : List ℕ) → IsLevel back node distances level d → 0 < length level → ReachesLevel back level (d + 1) distances new next → IsLevel back node new next (d + 1)
level_next back node distances level d new next so some reaches = record {
  size = reaches.size ∙ so.size;
  sound = λ a e at. elim (reaches.given a e at) [
    | inl was ↦ so.sound a e was
    | inr fresh ↦
        let is : suc d ≡ e = omega (arith, fresh.0) in
        subst (λ (n : ℕ). HasSteps (EdgeTurned back) n a node) is (fresh.2.0, fresh.2.2, so.sound fresh.2.0 d (so.on_level fresh.2.0 fresh.2.1))
  ];
  bound = bound;
  least = λ a n small steps. elim (same_or_not n (suc d)) [
    | inl last ↦
        let steps' : HasSteps (EdgeTurned back) (suc d) a node = subst (λ (m : ℕ). HasSteps (EdgeTurned back) m a node) last steps in
        let after = so.least steps'.0 d (omega arith) steps'.2 in
        elim (same_or_not after.0 d) [
          | inl same ↦
              let on : Contains level steps'.0 = so.whole steps'.0 (subst (IsAt distances steps'.0) same after.1) in
              let found = reaches.all a steps'.0 on steps'.1 in
              (found.0, found.1, (let up = bound a found.0 found.1 in omega arith))
          | inr differs ↦
              let shorter : HasSteps (EdgeTurned back) (suc after.0) a node = (steps'.0, steps'.1, so.sound steps'.0 after.0 after.1) in
              let found = so.least a (suc after.0) (omega (arith, after.2)) shorter in
              (found.0, reaches.kept a found.0 found.1, omega (arith, found.2, after.2))
        ]
    | inr differs ↦ let found = so.least a n (omega arith) steps in (found.0, reaches.kept a found.0 found.1, found.2)
  ];
  on_level = reaches.put;
  whole = λ a at. elim (reaches.given a (d + 1) at) [ inl was ↦ absurd (let up = so.bound a (d + 1) was in omega arith) | inr fresh ↦ fresh.1 ];
  budget = omega (arith, so.budget, reaches.left);
}
  where
    bound : (a e : ℕ) → IsAt new a e → e ≤ d + 1
    bound a e at = elim (reaches.given a e at) [ inl was ↦ let up = so.bound a e was in omega arith | inr fresh ↦ omega (arith, fresh.0) ]

all_least : (back : List (Vec ℕ)) (node : ℕ) (distances : List (Option ℕ)) (d : ℕ) → IsLevel back node distances [] d → (n a : ℕ) → HasSteps (EdgeTurned back) n a node → (e : ℕ) × IsAt distances a e × (e ≤ n)
all_least back node distances d so zero a steps = so.least a 0 (omega arith) steps
all_least back node distances d so (suc n) a steps =
    let after = all_least back node distances d so n steps.0 steps.2 in
    let up = so.bound steps.0 after.0 after.1 in
    let differs : after.0 ≢ d = λ same. none_contained steps.0 (so.whole steps.0 (subst (IsAt distances steps.0) same after.1)) in
    let found = so.least a (suc after.0) (omega arith) (steps.0, steps.1, so.sound steps.0 after.0 after.1) in
    (found.0, found.1, omega (arith, found.2, after.2))

pub level_ended : (back : List (Vec ℕ)) (node : ℕ) (distances : List (Option ℕ)) (level : List ℕ) (d : ℕ) → level ≡ [] → IsLevel back node distances level d → AreDistances (EdgeTurned back) node distances
level_ended back node distances level d none was =
    let so : IsLevel back node distances [] d = subst (λ (l : List ℕ). IsLevel back node distances l d) none was in
    record { sound = so.sound; least = λ a n steps. all_least back node distances d so n a steps }

pub none_read : (ds : List (Option ℕ)) (x : ℕ) (read : Option ℕ) → x < length ds → read ≡ get_or ds x read → is_some read ≡ false → get_or ds x None ≡ None
none_read ds x None below is none = sym is
none_read ds x (Some d) below is none = cc

pub some_read : (ds : List (Option ℕ)) (x : ℕ) (read : Option ℕ) → x < length ds → read ≡ get_or ds x read → is_some read ≡ true → (d : ℕ) × IsAt ds x d
some_read ds x None below is some = cc
some_read ds x (Some d) below is some = (d, read_any ds x None (Some d) below ∙ sym is)

pub at_below : (ds : List (Option ℕ)) (a d : ℕ) → IsAt ds a d → a < length ds
at_below [] a d at = absurd (none_some d at)
at_below (x ∷ xs) zero d at = omega arith
at_below (x ∷ xs) (suc a) d at = let below = at_below xs a d at in omega arith

true_false : true ≡ false → ⊥
true_false wrong = cc

pub some_left : (n : ℕ) → false ≡ (n == 0) → 0 < n
some_left n is = elim (eqb_tells n 0) [ inl w ↦ absurd (true_false (sym w.0 ∙ sym is)) | inr w ↦ omega arith ]

pub nothing_left : (n : ℕ) → true ≡ (n == 0) → n ≡ 0
nothing_left n is = elim (eqb_tells n 0) [ inl w ↦ w.1 | inr w ↦ absurd (true_false (is ∙ w.0)) ]
