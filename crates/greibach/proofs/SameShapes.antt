-- Forms of one text have one shape.
use Rattle.std.proofs.Common.{◌≡◌, ℕ, zero, suc, ◌<◌, List, [], ◌∷◌, ◌++◌, map, length, Some, refl, sym, ap, ap₂, ◌∙◌, subst, arith}
use Rattle.std.specs.Prelude.{slice_get}
use Rattle.std.proofs.lemmas.List.{map-append}
use Rattle.std.proofs.lemmas.Option.{slice_get_within}
use Rattle.data_theory.specs.Terms.{put}
use Rattle.data_theory.specs.Equations.{ !ᵗ◌}
use Rattle.data_theory.specs.Declarations.{Data}
use Rattle.data_theory.specs.Environments.{Environment, term_in, bound}
use Rattle.process_terms.specs.Processes.{Body, written_delta, written_act, written_choice, written_seq, written_cond, written_sum, written_call, written_merge, written_starting, written_around}
use Rattle.bisim_laws.specs.LinearProcesses.{variables}
use Rattle.bisim_laws.specs.BaseStates.{Piece}
use Rattle.greibach.specs.Places.{Path, Place, whole, Factor, Text, factors_at, factors_from, follow, body_of_owner, body_among}
use Rattle.greibach.specs.Unfolding.{PlaceCall, Head, summed, guarded, followed, rest_call, onward_call, onward, Unfolds, un_delta, un_act, un_choice, un_seq, un_cond, un_sum, un_call}
use Rattle.greibach.specs.UnfoldedForms.{UnfoldedEquation}
use Rattle.greibach.specs.MeetingOrder.{places_of, places_called, Meets, none_met, met_before, met_now, Collects, all_collected, next_collected, Shape, shape_of, FormsHaveOneShape}

abbrev place_list : List PlaceCall → List Place
place_list cs = map (λ (c : PlaceCall). c.place) cs

shapes : List Head → List (List Place)
shapes hs = map places_of hs

rest_places : (t u : Text) (o : ℕ) (d e : Environment) (rest : List Factor) → place_list (rest_call t o d rest) ≡ place_list (rest_call u o e rest)
rest_places t u o d e [] = refl
rest_places t u o d e (f ∷ fs) = refl

onward_places_at : (t u : Text) (o : ℕ) (d e : Environment) (f : Factor) (b : Body) (fs : List Factor) → place_list (onward_call t o d f b fs) ≡ place_list (onward_call u o e f b fs)
onward_places_at t u o d e f (written_call x ts) fs = ap (λ l. whole x ∷ l) (rest_places t u o d e fs)
onward_places_at t u o d e f written_delta fs = refl
onward_places_at t u o d e f (written_act m) fs = refl
onward_places_at t u o d e f (written_choice p q) fs = refl
onward_places_at t u o d e f (written_seq p q) fs = refl
onward_places_at t u o d e f (written_cond c p q) fs = refl
onward_places_at t u o d e f (written_sum x p) fs = refl
onward_places_at t u o d e f (written_merge p q) fs = refl
onward_places_at t u o d e f (written_starting start p q) fs = refl
onward_places_at t u o d e f (written_around c p) fs = refl

onward_places : (t u : Text) (o : ℕ) (d e : Environment) (rest : List Factor) → place_list (onward t o d rest) ≡ place_list (onward u o e rest)
onward_places t u o d e [] = refl
onward_places t u o d e (f ∷ fs) = onward_places_at t u o d e f f.body fs

-- ---- heads that are changed
map_same : (f g : Head → Head) → ((h k : Head) → places_of h ≡ places_of k → places_of (f h) ≡ places_of (g k)) → (hs ks : List Head) → map places_of hs ≡ map places_of ks → map places_of (map f hs) ≡ map places_of (map g ks)
map_same f g s [] [] e = refl
map_same f g s [] (k ∷ ks) e = cc
map_same f g s (h ∷ hs) [] e = cc
map_same f g s (h ∷ hs) (k ∷ ks) e =
    let first : places_of h ≡ places_of k = cc in
    let others : map places_of hs ≡ map places_of ks = cc in
    ap₂ (λ x xs. x ∷ xs) (s h k first) (map_same f g s hs ks others)

both_same : (hs ks xs ys : List Head) → map places_of hs ≡ map places_of xs → map places_of ks ≡ map places_of ys → map places_of (hs ++ ks) ≡ map places_of (xs ++ ys)
both_same hs ks xs ys e f = map-append places_of hs ks ∙ ap₂ (λ a b. a ++ b) e f ∙ sym (map-append places_of xs ys)

followed_same : (cs ds : List PlaceCall) → place_list cs ≡ place_list ds → (h k : Head) → places_of h ≡ places_of k → places_of (followed cs h) ≡ places_of (followed ds k)
followed_same cs ds e h k f = map-append (λ (c : PlaceCall). c.place) h.next cs ∙ ap₂ (λ a b. a ++ b) f e ∙ sym (map-append (λ (c : PlaceCall). c.place) k.next ds)

one_definition : {fs gs : List Piece} → fs ≡ gs → (x : ℕ) (f g : Piece) → slice_get fs x ≡ Some f → slice_get gs x ≡ Some g → f ≡ g
one_definition e x f g h k = cc

pub same_shape : (t u : Text) → t.definitions ≡ u.definitions → {over over' : List ℕ} {o : ℕ} {d e : Environment} {path : Path} {b : Body} {rest : List Factor} {hs ks : List Head}
    → Unfolds t over o d path b rest hs → Unfolds u over' o e path b rest ks → map places_of hs ≡ map places_of ks
same_shape t u s un_delta un_delta = refl
same_shape t u s (un_act {o = o} {e = d} {rest = rest} p) (un_act {e = e} q) = ap (λ l. l ∷ []) (onward_places t u o d e rest)
same_shape t u s (un_choice {hs = hs} {ks = ks} a b) (un_choice {hs = xs} {ks = ys} c k) = both_same hs ks xs ys (same_shape t u s a c) (same_shape t u s b k)
same_shape t u s (un_seq a) (un_seq b) = same_shape t u s a b
same_shape t u s (un_cond {e = d} {c = c} {hs = hs} {ks = ks} a b) (un_cond {e = e} {hs = xs} {ks = ys} a' b') =
    both_same (map (guarded (put (term_in d) c)) hs) (map (guarded (!ᵗ put (term_in d) c)) ks) (map (guarded (put (term_in e) c)) xs) (map (guarded (!ᵗ put (term_in e) c)) ys)
    (map_same (guarded (put (term_in d) c)) (guarded (put (term_in e) c)) (λ h k f. f) hs xs (same_shape t u s a a'))
    (map_same (guarded (!ᵗ put (term_in d) c)) (guarded (!ᵗ put (term_in e) c)) (λ h k f. f) ks ys (same_shape t u s b b'))
same_shape t u s (un_sum {x = x} {hs = hs} y n1 n2 a) (un_sum {hs = ks} z m1 m2 b) =
    map_same (summed (record { var = y; sort = x.sort })) (summed (record { var = z; sort = x.sort })) (λ h k f. f) hs ks (same_shape t u s a b)
same_shape t u s (un_call {o = o} {e = d} {x = x} {rest = rest} {hs = hs} f at p a) (un_call {over = over'} {e = e} {ts = ts} {hs = ks} f' at' p' b) =
    let same : f' ≡ f = sym (one_definition s x f f' at at') in
    map_same (followed (rest_call t o d rest)) (followed (rest_call u o e rest)) (followed_same (rest_call t o d rest) (rest_call u o e rest) (rest_places t u o d e rest)) hs ks
    (same_shape t u s a (subst (λ z. Unfolds u over' (suc x) (bound (variables z.params) (map (put (term_in e)) ts)) [] z.body [] ks) same b))

-- ---- places that are met
called_same : (hs ks : List Head) → map places_of hs ≡ map places_of ks → places_called hs ≡ places_called ks
called_same [] [] e = refl
called_same [] (k ∷ ks) e = cc
called_same (h ∷ hs) [] e = cc
called_same (h ∷ hs) (k ∷ ks) e =
    let first : places_of h ≡ places_of k = cc in
    let others : map places_of hs ≡ map places_of ks = cc in
    ap₂ (λ x xs. x ++ xs) first (called_same hs ks others)

meets_once : {ks ps ls ms : List Place} → Meets ks ps ls → Meets ks ps ms → ls ≡ ms
meets_once none_met none_met = refl
meets_once (met_before i h) (met_before j k) = meets_once h k
meets_once (met_before i h) (met_now n k) = absurd (n i)
meets_once (met_now n h) (met_before j k) = absurd (n j)
meets_once (met_now n h) (met_now m k) = meets_once h k

-- ---- forms
same_bodies : (t u : Text) → t.definitions ≡ u.definitions → t.start ≡ u.start → (place : Place) → factors_at t place ≡ factors_at u place
same_bodies t u s e place = by_path place.owner place.path
  where
    body : (o : ℕ) → body_of_owner t o ≡ body_of_owner u o
    body zero = e
    body (suc x) = ap (λ l. body_among l x) s

    by_path : (o : ℕ) (path : Path) → factors_from t o path ≡ factors_from u o path
    by_path o [] = ap (λ b. record { path = []; body = b } ∷ []) (body o)
    by_path o (step ∷ path) = ap (λ b. follow [] b [] (step ∷ path)) (body o)

read_once : (ks : List Place) (n : ℕ) {p q : Place} → slice_get ks n ≡ Some p → slice_get ks n ≡ Some q → p ≡ q
read_once ks n e f = cc

pub unfolds_at : (u : Text) {over : List ℕ} {o o' : ℕ} {e : Environment} {f f' : Factor} {rest rest' : List Factor} {ks : List Head} → o ≡ o' → f ∷ rest ≡ f' ∷ rest'
    → Unfolds u over o e f.path f.body rest ks → Unfolds u over o' e f'.path f'.body rest' ks
unfolds_at u {over} {o} {o'} {e} {f} {f'} {rest} {rest'} {ks} p q h =
    let first : f ≡ f' = cc in
    let others : rest ≡ rest' = cc in
    subst (λ z. Unfolds u over z e f'.path f'.body rest' ks) p (subst (λ l. Unfolds u over o e f'.path f'.body l ks) others (subst (λ z. Unfolds u over o e z.path z.body rest ks) first h))

one_shape : (g h : Data) (t u : Text) → t.definitions ≡ u.definitions → t.start ≡ u.start → {ks ls last end : List Place} {n : ℕ} {form other : List UnfoldedEquation} → ks ≡ ls
    → Collects g t ks n form last → Collects h u ls n other end → map shape_of form ≡ map shape_of other
one_shape g h t u s e q (all_collected a) (all_collected b) = refl
one_shape g h t u s e {n = n} q (all_collected a) (next_collected k at k' m b) = absurd (past n (ap length q) a (slice_get_within _ n k.place at))
  where
    past : {x y : ℕ} (n : ℕ) → x ≡ y → n ≡ x → n < y → ⊥
    past n q a b = omega (arith, q, a, b)
one_shape g h t u s e {n = n} q (next_collected k at k' m b) (all_collected a) = absurd (past n (ap length q) a (slice_get_within _ n k.place at))
  where
    past : {x y : ℕ} (n : ℕ) → x ≡ y → n ≡ y → n < x → ⊥
    past n q a b = omega (arith, q, a, b)
one_shape g h t u s e {ks = ks} {ls = ls} {n = n} q (next_collected {ls = ks'} k at i m a) (next_collected {ls = ls'} l at' j m' b) =
    let place : k.place ≡ l.place = read_once ks n at (subst (λ z. slice_get z n ≡ Some l.place) (sym q) at') in
    let from : j.first ∷ j.others ≡ i.first ∷ i.others = sym j.at ∙ sym (same_bodies t u s e l.place) ∙ sym (ap (factors_at t) place) ∙ i.at in
    let heads : map places_of k.heads ≡ map places_of l.heads = same_shape t u s i.unfolds (unfolds_at u (ap (λ p. p.owner) (sym place)) from j.unfolds) in
    let met : ks' ≡ ls' = meets_once m (subst (λ z. Meets z (places_called k.heads) ls') (sym q) (subst (λ z. Meets ls z ls') (sym (called_same k.heads l.heads heads)) m')) in
    ap₂ (λ (x : Shape) xs. x ∷ xs) (λ r. record { place = place r; next = heads r }) (one_shape g h t u s e met a b)

pub forms_have_one_shape : FormsHaveOneShape
forms_have_one_shape g h t u s e start form other last end a b = one_shape g h t u s e refl a b
