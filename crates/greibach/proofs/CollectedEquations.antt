-- The equations that are made are those that are collected.
use Rattle.std.proofs.Common.{◌≡◌, ◌≤◌, ◌-◌, ◌⊎◌, inl, inr, ⊎_elim, ℕ, zero, suc, Bool, true, false, List, [], ◌∷◌, ◌++◌, map, length, refl, sym, ap, ap₂, ◌∙◌, subst, arith, append_assoc, append-nil, Some, cond as cond_of}
use Rattle.std.specs.Prelude.{slice_get, option_map}
use Rattle.std.specs.List.{AllZip, AllByRecursion, Contains, filter, list_any}
use Rattle.std.proofs.lemmas.List.{map-append, length-append, length-map}
use Rattle.std.proofs.lemmas.Option.{slice_get_within, slice_get-map}
use Rattle.data_theory.proofs.PlaceLemmas.{contains_read, read_contained}
use Rattle.term_pool.proofs.Lists.{contains_none, contains_cons, contains_head, contains_tail}
use Rattle.data_theory.specs.declared.ids.ProcId.{ProcId}
use Rattle.data_theory.specs.declared.ids.VarId.{VarId}
use Rattle.data_theory.specs.declared.ids.TermId.{TermId}
use Rattle.data_theory.specs.Terms.{Term, variable}
use Rattle.data_theory.specs.Declarations.{Data}
use Rattle.data_theory.specs.Environments.{bound, bound_variables, AreDistinct}
use Rattle.process_terms.specs.Processes.{Bound, seq_of}
use Rattle.process_terms.specs.Meanings.{Entries, bound_at, term_at, label_of}
use Rattle.bisim_laws.specs.LinearProcesses.{variables, sorts, AreDeclared}
use Rattle.bisim_laws.specs.BaseStates.{GreibachCall, Piece}
use Rattle.lps_core.specs.Conditions.{joined}
use Rattle.lps_core.specs.TreeSummands.{numbers_of}
use Rattle.lps_core.proofs.Members.{contains_map, map_contains}
use Rattle.greibach.specs.Forms.{FormSummand, FormEquation}
use Rattle.greibach.specs.PlainForms.{PlainFormSummand, PlainEquation, call_of, form_summand_of, equation_of}
use Rattle.greibach.specs.Places.{Place, Factor, bodies, Text, IsSortedBody, body_of_owner, factors_from}
use Rattle.greibach.specs.Unfolding.{PlaceCall, Head, followed, Unfolds}
use Rattle.greibach.specs.UnfoldedForms.{numbered_call, summand_with, UnfoldedEquation, equation_with, form_with, IsUnfoldedEquation}
use Rattle.greibach.specs.ComponentForms.{occurs_free, free_in, params_of_owner, piece_from}
use Rattle.greibach.specs.MeetingOrder.{Meets, none_met, met_before, met_now, places_called, Collects, all_collected, next_collected, number_in}
use Rattle.greibach.specs.PlacesInCode.{PlainPlaces}
use Rattle.greibach.specs.ListedVariables.{paired}
use Rattle.greibach.specs.OnwardCalls.{params_of_place}
use Rattle.greibach.specs.Surroundings.{PlainAround}
use Rattle.greibach.specs.AddedHeads.{environment_of}
use Rattle.greibach.specs.MadeEquations.{IsEquationAt, Makes, makes_none, makes_more}
use Rattle.greibach.proofs.AddedArms.{params_is}
use Rattle.greibach.proofs.ComponentViews.{AreApart, one_number}
use Rattle.greibach.proofs.FreeVariables.{left_true, right_true, occurs_any}
use Rattle.greibach.proofs.MetPlaces.{meets_behind}
use Rattle.greibach.proofs.NumberedPlaces.{number_reads}
use Rattle.greibach.proofs.ReadPlaces.{still_read}
use Rattle.greibach.proofs.ScopeLemmas.{sorted_moved, IsScoped}
use Rattle.greibach.proofs.Views.{View, place_of, first_factor}
use Rattle.greibach.proofs.ViewPaths.{all_both}
use Rattle.greibach.proofs.ViewedTables.{params_of_view}
use Rattle.greibach.proofs.ViewedHeads.{spot, spot_is, BeginsEquation, IsViewed, CallIs, IsSummandOf, IsAround, RestPiece, rest_piece, heads_are}

-- ---- free variables are variables in scope
module _ {A : Type 0} where
  in_filter : (p : A → Bool) (xs : List A) (x : A) → Contains (filter p xs) x → Contains xs x
  in_filter p [] x i = i
  in_filter p (y ∷ xs) x i = by_test (p y) (λ j. in_filter p xs x j) i
    where
      by_test : (b : Bool) → (Contains (filter p xs) x → Contains xs x) → Contains (cond_of b (y ∷ filter p xs) (filter p xs)) x → Contains (y ∷ xs) x
      by_test true f j = ⊎_elim (λ q. subst (Contains (y ∷ xs)) q (contains_head y xs)) (λ k. contains_tail y x xs (f k)) (contains_cons y x (filter p xs) j)
      by_test false f j = contains_tail y x xs (f j)

  to_filter : (p : A → Bool) (xs : List A) (x : A) → Contains xs x → p x ≡ true → Contains (filter p xs) x
  to_filter p [] x i q = i
  to_filter p (y ∷ xs) x i q = by_test (p y) refl (λ j. to_filter p xs x j q) (contains_cons y x xs i)
    where
      by_test : (b : Bool) → p y ≡ b → (Contains xs x → Contains (filter p xs) x) → (y ≡ x) ⊎ Contains xs x → Contains (cond_of b (y ∷ filter p xs) (filter p xs)) x
      by_test true e f (inl s) = subst (Contains (y ∷ filter p xs)) s (contains_head y (filter p xs))
      by_test true e f (inr j) = contains_tail y x (filter p xs) (f j)
      by_test false e f (inl s) = absurd (differ (sym e ∙ ap p s ∙ q))
        where
          differ : false ≡ true → ⊥
          differ r = cc
      by_test false e f (inr j) = f j

fewer_distinct : (p : Bound → Bool) (xs : List Bound) → AreDistinct (variables xs) → AreDistinct (variables (filter p xs))
fewer_distinct p [] d = tt
fewer_distinct p (x ∷ xs) d = by_test (p x) (fewer_distinct p xs d.1)
  where
    by_test : (b : Bool) → AreDistinct (variables (filter p xs)) → AreDistinct (variables (cond_of b (x ∷ filter p xs) (filter p xs)))
    by_test true k = (λ i. let r = contains_map (λ (z : Bound). z.var) (filter p xs) x.var i in d.0 (subst (Contains (variables xs)) (sym r.1.1) (map_contains (λ (z : Bound). z.var) xs r.0 (in_filter p xs r.0 r.1.0))), k)
    by_test false k = k

-- a composition of factors, over the variables that occur free in them
seq_sorted : (g : Data) (t : Text) (xs ys : List ℕ) (f : Factor) (fs : List Factor) → ((h : Factor) → Contains (f ∷ fs) h → IsSortedBody g t xs h.body) → ((v : ℕ) → Contains xs v → occurs_any v (f ∷ fs) ≡ true → Contains ys v) → IsSortedBody g t ys (seq_of (bodies (f ∷ fs)))
seq_sorted g t xs ys f [] s w = sorted_moved g t xs ys f.body (λ v i e. w v i (left_true (occurs_free v f.body) false e)) (s f (contains_head f []))
seq_sorted g t xs ys f (h ∷ fs) s w = (
  sorted_moved g t xs ys f.body (λ v i e. w v i (left_true (occurs_free v f.body) (occurs_any v (h ∷ fs)) e)) (s f (contains_head f (h ∷ fs))),
  seq_sorted g t xs ys h fs (λ z i. s z (contains_tail f z (h ∷ fs) i)) (λ v i e. w v i (right_true (occurs_free v f.body) (occurs_any v (h ∷ fs)) e)),
)

-- ---- lists that don't repeat
abbrev StandsOnce : List ℕ → Type 0
StandsOnce ks = (i j k : ℕ) → slice_get ks i ≡ Some k → slice_get ks j ≡ Some k → i ≡ j

last_or_before : (ks : List ℕ) (p i k : ℕ) → slice_get (ks ++ p ∷ []) i ≡ Some k → (slice_get ks i ≡ Some k) ⊎ ((i ≡ length ks) × (p ≡ k))
last_or_before [] p zero k q = inr (refl, (let s : p ≡ k = cc in s))
last_or_before [] p (suc i) k q = cc
last_or_before (x ∷ ks) p zero k q = inl q
last_or_before (x ∷ ks) p (suc i) k q = ⊎_elim inl (λ r. inr (ap suc r.0, r.1)) (last_or_before ks p i k q)

once_more : (ks : List ℕ) (p : ℕ) → StandsOnce ks → (Contains ks p → ⊥) → StandsOnce (ks ++ p ∷ [])
once_more ks p h n i j k a b = ⊎_elim
    (λ r. ⊎_elim (λ s. h i j k r s) (λ s. absurd (n (subst (Contains ks) (sym s.1) (contains_read ks i k r)))) (last_or_before ks p j k b))
    (λ r. ⊎_elim (λ s. absurd (n (subst (Contains ks) (sym r.1) (contains_read ks j k s)))) (λ s. r.0 ∙ sym s.0) (last_or_before ks p j k b))
    (last_or_before ks p i k a)

meets_once : {ks ps ls : List ℕ} → Meets ks ps ls → StandsOnce ks → StandsOnce ls
meets_once none_met h = h
meets_once (met_before c m) h = meets_once m h
meets_once (met_now {ks = ks} {p = p} n m) h = meets_once m (once_more ks p h n)

one_once : (p : ℕ) → StandsOnce (p ∷ [])
one_once p zero zero k a b = refl
one_once p zero (suc j) k a b = cc
one_once p (suc i) j k a b = cc

at_all : {A : Type 0} (P : A → Type 0) (xs : List A) → AllByRecursion P xs → (k : ℕ) (x : A) → slice_get xs k ≡ Some x → P x
at_all P [] h k x q = cc
at_all P (y ∷ xs) h zero x q = let s : y ≡ x = cc in subst P s h.0
at_all P (y ∷ xs) h (suc k) x q = at_all P xs h.1 k x q

followed_none : (hs : List Head) → map (followed []) hs ≡ hs
followed_none [] = refl
followed_none (h ∷ hs) = ap₂ (λ next l. record { sums = h.sums; conditions = h.conditions; label = h.label; next = next } ∷ l) (append-nil h.next) (followed_none hs)

module _ (e : Entries) (reached : List ProcId) (views : List View) (g : Data) (t : Text) (table : PlainPlaces) (known : IsViewed e reached views g t table) (apart : AreApart views) where
  -- where equations begin, places differ
  spots_differ : (m n : ℕ) → BeginsEquation views m → BeginsEquation views n → spot views m ≡ spot views n → m ≡ n
  spots_differ m n b c q =
      let s : place_of b.view ≡ place_of c.view = sym (spot_is views m b.view b.at) ∙ q ∙ spot_is views n c.view c.at in
      one_number views apart m n b.view c.view b.at c.at (b.is, c.is, ap (λ (p : Place). p.owner) s, ap (λ (p : Place). p.path) s)

  spots_meet : {ks ps ls : List ℕ} → Meets ks ps ls → AllByRecursion (BeginsEquation views) ks → AllByRecursion (BeginsEquation views) ps → Meets (map (spot views) ks) (map (spot views) ps) (map (spot views) ls)
  spots_meet none_met h k = none_met
  spots_meet (met_before {ks = ks} {p = p} c m) h k = met_before (map_contains (spot views) ks p c) (spots_meet m h k.1)
  spots_meet (met_now {ks = ks} {ps = ps} {ls = ls} {p = p} n m) h k =
      met_now
      (λ i. let r = contains_map (spot views) ks (spot views p) i in
      let at = read_contained ks r.0 r.1.0 in
      n (subst (Contains ks) (spots_differ r.0 p (at_all (BeginsEquation views) ks h at.0 r.0 at.1) k.0 (sym r.1.1)) r.1.0))
      (subst (λ l. Meets l (map (spot views) ps) (map (spot views) ls)) (map-append (spot views) ks (p ∷ [])) (spots_meet m (all_both (BeginsEquation views) ks (p ∷ []) h (k.0, tt)) k.1))

  meets_begin : {ks ps ls : List ℕ} → Meets ks ps ls → AllByRecursion (BeginsEquation views) ks → AllByRecursion (BeginsEquation views) ps → AllByRecursion (BeginsEquation views) ls
  meets_begin none_met h k = h
  meets_begin (met_before c m) h k = meets_begin m h k.1
  meets_begin (met_now {ks = ks} {p = p} n m) h k = meets_begin m (all_both (BeginsEquation views) ks (p ∷ []) h (k.0, tt)) k.1

  -- ---- numbers
  module _ (last : List ℕ) (all : AllByRecursion (BeginsEquation views) last) (once : StandsOnce last) where
    number_found : (k n : ℕ) → slice_get last n ≡ Some k → number_in (map (spot views) last) (spot views k) ≡ n
    number_found k n at =
        let there : slice_get (map (spot views) last) n ≡ Some (spot views k) = slice_get-map (spot views) last n ∙ ap (option_map (spot views)) at in
        let j = number_in (map (spot views) last) (spot views k) in
        let r = read_mapped_some (spot views) last j (spot views k) (number_reads (map (spot views) last) (spot views k) n there) in
        let same : r.0 ≡ k = spots_differ r.0 k (at_all (BeginsEquation views) last all j r.0 r.1) (at_all (BeginsEquation views) last all n k at) r.2 in
        once j n k (r.1 ∙ ap Some same) at
      where
        read_mapped_some : {A B : Type 0} (f : A → B) (xs : List A) (i : ℕ) (y : B) → slice_get (map f xs) i ≡ Some y → (x : A) × (slice_get xs i ≡ Some x) × (f x ≡ y)
        read_mapped_some f [] i y q = cc
        read_mapped_some f (x ∷ xs) zero y q = (x, refl, (let s : f x ≡ y = cc in s))
        read_mapped_some f (x ∷ xs) (suc i) y q = read_mapped_some f xs i y q

    numbers : Place → ℕ
    numbers = number_in (map (spot views) last)

    calls_same : (new more : List ℕ) → last ≡ new ++ more → (ps : List PlaceCall) (cs : List (ℕ × List TermId)) → AllZip (CallIs e reached views g t table new) ps cs → map (call_of e) cs ≡ map (numbered_call (number_in (map (spot views) last))) ps
    calls_same new more is [] [] h = refl
    calls_same new more is [] (c ∷ cs) h = absurd h
    calls_same new more is (p ∷ ps) [] h = absurd h
    calls_same new more is (p ∷ ps) (c ∷ cs) h =
        let k = h.0 in
        let number : number_in (map (spot views) last) p.place ≡ c.0 - 1 = ap (number_in (map (spot views) last)) (sym k.is) ∙ number_found k.place (c.0 - 1) (still_read new last (c.0 - 1) k.place (more, is) k.number.1) in
        ap₂ (λ (z : GreibachCall) l. z ∷ l) (ap₂ (λ n (us : List Term). record { equation = n; args = us }) (sym number) k.args) (calls_same new more is ps cs h.1)

    summands_same : (new more : List ℕ) → last ≡ new ++ more → (a : PlainAround) → a.sums ≡ [] → (hs : List Head) (ss : List PlainFormSummand) → AllZip (IsSummandOf e reached views g t table new a [] []) hs ss → map (form_summand_of e) ss ≡ map (summand_with (number_in (map (spot views) last))) hs
    summands_same new more is a none [] [] h = refl
    summands_same new more is a none [] (s ∷ ss) h = absurd h
    summands_same new more is a none (x ∷ hs) [] h = absurd h
    summands_same new more is a none (x ∷ hs) (s ∷ ss) h =
        let k = h.0 in
        let sums : map (bound_at e) s.sums ≡ x.sums = k.sums ∙ ap (λ l. map (bound_at e) l ++ x.sums) none in
        let next = calls_same new more is (x.next ++ []) s.next k.next ∙ ap (map (numbered_call (number_in (map (spot views) last)))) (append-nil x.next) in
        ap₂ (λ (z : FormSummand) l. z ∷ l)
        (ap₂ (λ b c. record { sums = b; condition = c; label = label_of e s.label; next = map (call_of e) s.next }) sums k.condition ∙ ap₂ (λ m n. record { sums = x.sums; condition = joined x.conditions; label = m; next = n }) k.label next)
        (summands_same new more is a none hs ss h.1)

  -- ---- the equation of a place
  paired_bound : (xs : List VarId) (ids : List TermId) → environment_of e (paired xs ids) ≡ bound (numbers_of xs) (map (term_at e) ids)
  paired_bound [] ids = refl
  paired_bound (x ∷ xs) [] = refl
  paired_bound (x ∷ xs) (id ∷ ids) = ap (λ l. record { var = x.0; term = term_at e id } ∷ l) (paired_bound xs ids)

  paired_among : (xs : List VarId) (ids : List TermId) (y : ℕ) → Contains (bound_variables (environment_of e (paired xs ids))) y → Contains (numbers_of xs) y
  paired_among [] ids y i = i
  paired_among (x ∷ xs) [] y i = absurd (contains_none y i)
  paired_among (x ∷ xs) (id ∷ ids) y i = ⊎_elim (λ q. subst (Contains (x.0 ∷ numbers_of xs)) q (contains_head x.0 (numbers_of xs))) (λ j. contains_tail x.0 y (numbers_of xs) (paired_among xs ids y j)) (contains_cons x.0 y (bound_variables (environment_of e (paired xs ids))) i)

  var_numbers : (xs : List VarId) → variables (map (bound_at e) xs) ≡ numbers_of xs
  var_numbers [] = refl
  var_numbers (x ∷ xs) = ap (λ l. x.0 ∷ l) (var_numbers xs)

  few_params : (b : Bool) (scope free : List Bound) → ((x : Bound) → Contains free x → Contains scope x) → (x : Bound) → Contains (cond_of b scope free) x → Contains scope x
  few_params true scope free f x i = i
  few_params false scope free f x i = f x i

  distinct_params : (b : Bool) (scope free : List Bound) → AreDistinct (variables scope) → AreDistinct (variables free) → AreDistinct (variables (cond_of b scope free))
  distinct_params true scope free d f = d
  distinct_params false scope free d f = f

  among_params : (b : Bool) (scope : List Bound) (fs : List Factor) (y : ℕ) → Contains (variables scope) y → occurs_any y fs ≡ true → Contains (variables (cond_of b scope (free_in fs scope))) y
  among_params true scope fs y i o = i
  among_params false scope fs y i o =
      let r = contains_map (λ (z : Bound). z.var) scope y i in
      subst (Contains (variables (free_in fs scope))) (sym r.1.1) (map_contains (λ (z : Bound). z.var) (free_in fs scope) r.0 (to_filter (λ (x : Bound). list_any (λ (f : Factor). occurs_free x.var f.body) fs) scope r.0 r.1.0 (subst (λ z. occurs_any z fs ≡ true) r.1.1 o)))

  -- what stands where an equation begins
  record BegunAt (n : ℕ) (v : View) : Type 0 where
    piece : RestPiece e reached views g t table v n
    params : map (bound_at e) (params_of_place table n) ≡ params_of_view v
    scoped : IsScoped g t v.scope v.body v.others

  begun_at : (n : ℕ) (b : BeginsEquation views n) → BegunAt n b.view
  begun_at n b =
      let v = b.view in
      let p = known.long n v b.at in
      let k = known.places n p.0 p.1 in
      let same : k.view ≡ v = some_same (sym k.at ∙ b.at) in
      record {
        piece = ⊎_elim
            (λ all.
            let w = k.all (ap (λ (z : View). z.all) same ∙ all) in
            whole_piece n v (ap (λ (z : View). body_of_owner t z.owner) (sym same) ∙ w.0 ∙ ap (λ (z : View). z.body) same) (ap (λ (z : View). params_of_owner t z.owner) (sym same) ∙ w.1 ∙ ap (λ (z : View). z.scope) same) (ap (λ (z : View). z.path) (sym same) ∙ w.2) (ap (λ (z : View). z.others) (sym same) ∙ w.3)
            (ap (map (bound_at e)) (params_is table n k.place k.stands) ∙ k.params ∙ ap params_of_view same ∙ ap (λ c. cond_of c v.scope (free_in (first_factor v ∷ v.others) v.scope)) all))
            (λ part. rest_piece e reached views g t table known n v b.at part.0 part.1)
            b.is;
        params = ap (map (bound_at e)) (params_is table n k.place k.stands) ∙ k.params ∙ ap params_of_view same;
        scoped = subst (λ z. IsScoped g t z.scope z.body z.others) same k.scoped;
      }
    where
      some_same : {A : Type 0} {x y : A} → Some x ≡ Some y → x ≡ y
      some_same q = cc

      whole_piece : (n : ℕ) (v : View) → body_of_owner t v.owner ≡ v.body → params_of_owner t v.owner ≡ v.scope → v.path ≡ [] → v.others ≡ [] → map (bound_at e) (params_of_place table n) ≡ v.scope → RestPiece e reached views g t table v n
      whole_piece n v b s path others own = record {
        piece = known.pieces (place_of v)
            ∙ ap (piece_from t v.owner) path
            ∙ ap₂ (λ x y. record { params = x; body = y }) (s ∙ sym own) b
            ∙ ap (λ l. record { params = map (bound_at e) (params_of_place table n); body = seq_of (bodies (first_factor v ∷ l)) }) (sym others);
        at = ap (λ p. factors_from t v.owner p) path ∙ ap₂ (λ p x. record { path = p; body = x } ∷ []) (sym path) b ∙ ap (λ l. first_factor v ∷ l) (sym others);
      }

  record EquationFound (n : ℕ) (q : PlainEquation) (old new : List ℕ) : Type 0 where
    unfolded : UnfoldedEquation
    place : unfolded.place ≡ spot views n
    is : IsUnfoldedEquation g t unfolded
    meets : Meets (map (spot views) old) (places_called unfolded.heads) (map (spot views) new)
    met : (ps : List ℕ) × Meets old ps new
    begin : AllByRecursion (BeginsEquation views) new
    same : (last : List ℕ) (all : AllByRecursion (BeginsEquation views) last) → StandsOnce last → (more : List ℕ) → last ≡ new ++ more → equation_of e q ≡ equation_with (number_in (map (spot views) last)) unfolded

  equation_found : (n : ℕ) (q : PlainEquation) (old new : List ℕ) → IsEquationAt e table n q old new → BeginsEquation views n → AllByRecursion (BeginsEquation views) old → EquationFound n q old new
  equation_found n q old new made b before =
      let v = b.view in
      let k = begun_at n b in
      let ps = params_of_place table n in
      let fs = first_factor v ∷ v.others in
      let a : PlainAround = record { params = q.params; sums = []; by = paired ps made.terms; parts = [] } in
      let in_scope : (x : Bound) → Contains (map (bound_at e) ps) x → Contains v.scope x = λ x i. few_params v.all v.scope (free_in fs v.scope) (λ z j. in_filter (λ (y : Bound). list_any (λ (f : Factor). occurs_free y.var f.body) fs) v.scope z j) x (subst (λ l. Contains l x) k.params i) in
      let around : IsAround e reached views g t table v (numbers_of q.params) a [] [] = record {
        over_few = λ y i. i;
        scope = λ y i.
            let j = subst (λ l. Contains l y) (sym (var_numbers ps)) (paired_among ps made.terms y i) in
            let r = contains_map (λ (z : Bound). z.var) (map (bound_at e) ps) y j in
            subst (Contains (variables v.scope)) (sym r.1.1) (map_contains (λ (z : Bound). z.var) v.scope r.0 (in_scope r.0 r.1.0));
        parts = refl;
        waiting = tt;
      } in
      let h = heads_are e reached views g t table known made.adds v (numbers_of q.params) [] b.at around in
      let calls : map (spot views) h.called ≡ places_called h.heads = h.calls ∙ ap places_called (followed_none h.heads) in
      let piece = k.piece.piece in
      let env : environment_of e (paired ps made.terms) ≡ bound (variables (t.piece (place_of v)).params) (map variable (variables (map (bound_at e) q.params))) =
      paired_bound ps made.terms ∙ ap₂ bound (sym (ap (λ (z : Piece). variables z.params) piece ∙ var_numbers ps)) (made.themselves ∙ ap (map variable) (sym (var_numbers q.params))) in
      let sorted : IsSortedBody g t (variables (map (bound_at e) ps)) (seq_of (bodies fs)) = seq_sorted g t (variables v.scope) (variables (map (bound_at e) ps)) (first_factor v) v.others
      (λ z i. ⊎_elim (λ s. subst (λ (f : Factor). IsSortedBody g t (variables v.scope) f.body) s k.scoped.body) (λ j. k.scoped.others z j) (contains_cons (first_factor v) z v.others i))
      (λ y i o. subst (λ l. Contains (variables l) y) (sym k.params) (among_params v.all v.scope fs y i o)) in
      record {
        unfolded = record { place = place_of v; params = map (bound_at e) q.params; heads = h.heads };
        place = sym (spot_is views n v b.at);
        is = record {
          first = first_factor v;
          others = v.others;
          at = k.piece.at;
          body = ap (λ (z : Piece). z.body) piece;
          sorted_body = subst (λ (z : Piece). IsSortedBody g t (variables z.params) z.body) (sym piece) sorted;
          declared = subst (λ (z : Piece). AreDeclared t.variables z.params) (sym piece) (λ x i. k.scoped.declared x (in_scope x i));
          distinct = subst (λ (z : Piece). AreDistinct (variables z.params)) (sym piece) (subst (λ l. AreDistinct (variables l)) (sym k.params) (distinct_params v.all v.scope (free_in fs v.scope) k.scoped.distinct (fewer_distinct (λ (y : Bound). list_any (λ (f : Factor). occurs_free y.var f.body) fs) v.scope k.scoped.distinct)));
          same_sorts = made.same_sorts ∙ ap (λ (z : Piece). sorts z.params) (sym piece);
          renewed = subst AreDistinct (sym (var_numbers q.params)) made.distinct;
          unfolds = subst (λ over. Unfolds t over v.owner (bound (variables (t.piece (place_of v)).params) (map variable (variables (map (bound_at e) q.params)))) v.path v.body v.others h.heads) (sym (var_numbers q.params))
              (subst (λ z. Unfolds t (numbers_of q.params) v.owner z v.path v.body v.others h.heads) env h.unfolds);
        };
        meets = subst (λ l. Meets (map (spot views) old) l (map (spot views) new)) calls (spots_meet h.met before h.begin);
        met = (h.called, h.met);
        begin = meets_begin h.met before h.begin;
        same = λ last all once more is. ap (λ l. record { params = map (bound_at e) q.params; summands = l }) (summands_same last all once new more is a refl h.heads q.summands h.are);
      }

  -- ---- all of them
  record Collected (start : ℕ) (qs : List PlainEquation) (met : List ℕ) : Type 0 where
    forms : List UnfoldedEquation
    collects : (rest : List UnfoldedEquation) (end : List Place) → Collects g t (map (spot views) met) (length qs) rest end → Collects g t (spot views start ∷ []) 0 (forms ++ rest) end
    begin : AllByRecursion (BeginsEquation views) met
    once : StandsOnce met
    few : length qs ≤ length met
    same : (last : List ℕ) (all : AllByRecursion (BeginsEquation views) last) → StandsOnce last → (more : List ℕ) → last ≡ met ++ more → map (equation_of e) qs ≡ map (equation_with (number_in (map (spot views) last))) forms

  collect : {start : ℕ} {qs : List PlainEquation} {met : List ℕ} → Makes e table start qs met → BeginsEquation views start → Collected start qs met
  collect {start} makes_none b = record { forms = []; collects = λ rest end k. k; begin = (b, tt); once = one_once start; few = omega arith; same = λ last all once more is. refl }
  collect {start} (makes_more {qs = qs} {met = met} q n new prev at made) b =
      let k = collect prev b in
      let f = equation_found n q met new made (at_all (BeginsEquation views) met k.begin (length qs) n at) k.begin in
      let behind = meets_behind f.met.1 in
      let count = length-append qs (q ∷ []) in
      record {
        forms = k.forms ++ f.unfolded ∷ [];
        collects = λ rest end c. subst (λ l. Collects g t (spot views start ∷ []) 0 l end) (sym (append_assoc k.forms (f.unfolded ∷ []) rest))
            (k.collects (f.unfolded ∷ rest) end (next_collected f.unfolded (slice_get-map (spot views) met (length qs) ∙ ap (option_map (spot views)) at ∙ ap Some (sym f.place)) f.is f.meets
            (subst (λ i. Collects g t (map (spot views) new) i rest end) (let m : length (qs ++ q ∷ []) ≡ suc (length qs) = omega (arith, count) in m) c)));
        begin = f.begin;
        once = meets_once f.met.1 k.once;
        few = let l = slice_get_within met (length qs) n at in let m : length new ≡ length (met ++ behind.0) = ap length behind.1 in let o = length-append met behind.0 in omega (arith, l, m, o, count);
        same = λ last all once more is. map-append (equation_of e) qs (q ∷ [])
            ∙ ap₂ (λ xs (z : FormEquation). xs ++ z ∷ []) (k.same last all once (behind.0 ++ more) (is ∙ ap (λ l. l ++ more) behind.1 ∙ append_assoc met behind.0 more)) (f.same last all once more is)
            ∙ sym (map-append (equation_with (number_in (map (spot views) last))) k.forms (f.unfolded ∷ []));
      }

  pub record CollectedAll (start : ℕ) (qs : List PlainEquation) (met : List ℕ) : Type 0 where
    pub forms : List UnfoldedEquation
    pub collects : Collects g t (spot views start ∷ []) 0 forms (map (spot views) met)
    pub same : map (equation_of e) qs ≡ form_with (number_in (map (spot views) met)) forms

  pub collect_all : (start : ℕ) (qs : List PlainEquation) (met : List ℕ) → Makes e table start qs met → BeginsEquation views start → length met ≤ length qs → CollectedAll start qs met
  collect_all start qs met made b all =
      let k = collect made b in
      let count = length-map met (spot views) in
      let few = k.few in
      record {
        forms = k.forms;
        collects = subst (λ l. Collects g t (spot views start ∷ []) 0 l (map (spot views) met)) (append-nil k.forms) (k.collects [] (map (spot views) met) (all_collected (omega (arith, count, few, all))));
        same = k.same met k.begin k.once [] (sym (append-nil met));
      }
