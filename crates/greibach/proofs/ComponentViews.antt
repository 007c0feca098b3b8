-- What the numbers of a component's table stand for.
use Rattle.std.proofs.Common.{◌≡◌, ◌<◌, ◌≤◌, ◌+◌, ◌==◌, ◌⊎◌, inl, inr, ⊎_elim, ℕ, zero, suc, Bool, true, false, List, [], ◌∷◌, ◌++◌, map, length, get_or, refl, sym, ap, ap₂, ◌∙◌, subst, arith, append_assoc, append-nil, Option, None, Some}
use Rattle.std.specs.Prelude.{slice_get, option_map}
use Rattle.std.specs.List.{All, AllByRecursion, Contains, IsDistinct}
use Rattle.std.proofs.lemmas.List.{length-append}
use Rattle.std.proofs.lemmas.Bool.Decides.{eqb_tells}
use Rattle.std.proofs.lemmas.Option.{slice_get_within, slice_get-get_or, slice_get-map}
use Rattle.std.proofs.lemmas.List.Elements.{All-nil, Contains-append_left, Contains-append_right, Contains-append_cases}
use Rattle.data_theory.proofs.PlaceLemmas.{contains_read, read_front, read_behind, read_last}
use Rattle.term_pool.proofs.Lists.{contains_none, contains_cons}
use Rattle.data_theory.proofs.EnvironmentLemmas.{contains_first}
use Rattle.data_theory.specs.declared.ids.ProcId.{ProcId}
use Rattle.data_theory.specs.declared.ids.VarId.{VarId}
use Rattle.data_theory.specs.Complete.{BeginsWith}
use Rattle.data_theory.specs.Environments.{AreDistinct}
use Rattle.data_theory.specs.Signature.{Sig}
use Rattle.data_theory.specs.WholeSignatures.{IsSignature}
use Rattle.data_theory.specs.IdData.{data_meant}
use Rattle.data_theory.specs.IdTrees.{Tree}
use Rattle.process_terms.specs.PlainProcesses.{PlainProcess, PlainDefinition, PlainComponent, call_of, term_of}
use Rattle.process_terms.specs.Processes.{Bound, Body, Table}
use Rattle.process_terms.specs.Meanings.{Entries, bound_at, body_of, definition_of, table_of, component_body}
use Rattle.process_terms.specs.SignatureEntries.{entries_of, BothGrow}
use Rattle.guard_check.specs.declared.calls.Extent.TheVariants.{Everywhere}
use Rattle.guard_check.specs.Calls.{calls, Calls}
use Rattle.proc_unfold.specs.Parallel.{HasParallel, IsParallelName, IsSequential}
use Rattle.proc_unfold.specs.FittingModels.{ProcessFits, DefinitionFits, ComponentFits}
use Rattle.lps_core.specs.Fitting.{IsVariable}
use Rattle.lps_core.specs.TreeSummands.{numbers_of}
use Rattle.lps_core.proofs.Members.{all_at, map_contains}
use Rattle.lps_core.proofs.Staying.{variables_declared}
use Rattle.lps_core.proofs.MeantTrees.{numbers_meant}
use Rattle.greibach.specs.Places.{Path, IsSortedBody, Text, body_of_owner, follow}
use Rattle.greibach.specs.ComponentForms.{scope_at, params_of_owner, piece_from, piece_of, own_body, bare_text, text_of}
use Rattle.greibach.specs.Scopes.{BindsAnew, HaveOwnVariables}
use Rattle.greibach.specs.PlacesInCode.{PlainPlace, PlainEntry, PlainPlaces, delta, whole}
use Rattle.greibach.specs.TableReadings.{Reads, ReadsEach, reads_delta, reads_nothing, reads_act, reads_call, reads_seq, reads_cond, reads_sum, reads_choice, reads_last, reads_more}
use Rattle.greibach.specs.TablesRead.{ReadsWhole, ReadsTable, reads_called, reads_own, reads_entry}
use Rattle.greibach.proofs.AddedTerms.{term_lifted}
use Rattle.greibach.proofs.FormsOfComponents.{among_at}
use Rattle.greibach.proofs.FreeVariables.{MeansTrees}
use Rattle.greibach.proofs.GrownFits.{variables_grow}
use Rattle.greibach.proofs.ReadPlaces.{begins_itself, begins_then, begins_pushed, still_read}
use Rattle.greibach.proofs.ScopeLemmas.{IsScoped}
use Rattle.greibach.proofs.SortedBodies.{body_sorted}
use Rattle.greibach.proofs.Views.{View, IsAt, views_of, views_long}
use Rattle.greibach.proofs.ViewPaths.{IsUnder, Differ, all_weaker, all_both, all_under, all_differ}
use Rattle.greibach.proofs.ViewedTables.{IsSlice, Viewed, Seen, seen}
use Rattle.greibach.proofs.ViewedHeads.{EntryIs, IsViewed}

-- ---- calls that are reached
module _ {e : Entries} {ts : List Tree} {reached : List ProcId} {table : List PlainPlace} where
  mutual
    calls_from : {scope : List VarId} {b : Body} {rest : Option ℕ} {a c : ℕ} {rs ss : List ProcId} {n : ℕ} → Reads e ts reached table scope b rest a c rs ss n → (y : ProcId) → Contains ss y → Contains rs y ⊎ Contains (calls Everywhere b) y.0
    calls_from (reads_delta h) y i = inl i
    calls_from (reads_nothing h) y i = inl i
    calls_from (reads_act m h) y i = inl i
    calls_from (reads_call k x ids at only h) y i = ⊎_elim inl (λ q. inr (subst (λ (z : ProcId). Contains (x.0 ∷ []) z.0) q (contains_first x.0 []))) (only y i)
    calls_from (reads_seq {p = p} {q = q} r s) y i = ⊎_elim (λ j. ⊎_elim inl (λ k. inr (Contains-append_right (calls Everywhere p) (calls Everywhere q) y.0 k)) (calls_from r y j)) (λ j. inr (Contains-append_left (calls Everywhere p) (calls Everywhere q) y.0 j)) (calls_from s y i)
    calls_from (reads_cond {p = p} {q = q} id r s h) y i = ⊎_elim (λ j. ⊎_elim inl (λ k. inr (Contains-append_left (calls Everywhere p) (calls Everywhere q) y.0 k)) (calls_from r y j)) (λ j. inr (Contains-append_right (calls Everywhere p) (calls Everywhere q) y.0 j)) (calls_from s y i)
    calls_from (reads_sum x r h) y i = calls_from r y i
    calls_from (reads_choice {p = p} {q = q} r s h) y i = ⊎_elim (λ j. ⊎_elim inl (λ k. inr (Contains-append_left (calls Everywhere p) (calls Everywhere q) y.0 k)) (calls_from r y j)) (λ j. inr (Contains-append_right (calls Everywhere p) (calls Everywhere q) y.0 j)) (calls_each s y i)

    calls_each : {scope : List VarId} {b : Body} {rest : Option ℕ} {a c : ℕ} {rs ss : List ProcId} {ns : List ℕ} → ReadsEach e ts reached table scope b rest a c rs ss ns → (y : ProcId) → Contains ss y → Contains rs y ⊎ Contains (calls Everywhere b) y.0
    calls_each (reads_last r) y i = calls_from r y i
    calls_each (reads_more {p = p} {q = q} r s) y i = ⊎_elim (λ j. ⊎_elim inl (λ k. inr (Contains-append_left (calls Everywhere p) (calls Everywhere q) y.0 k)) (calls_from r y j)) (λ j. inr (Contains-append_right (calls Everywhere p) (calls Everywhere q) y.0 j)) (calls_each s y i)

  mutual
    calls_into : {scope : List VarId} {b : Body} {rest : Option ℕ} {a c : ℕ} {rs ss : List ProcId} {n : ℕ} → Reads e ts reached table scope b rest a c rs ss n → (x : ℕ) → Contains (calls Everywhere b) x → Contains (map (λ (y : ProcId). y.0) reached) x
    calls_into (reads_delta h) x i = absurd (contains_none x i)
    calls_into (reads_nothing h) x i = absurd (contains_none x i)
    calls_into (reads_act m h) x i = absurd (contains_none x i)
    calls_into (reads_call k y ids at only h) x i = ⊎_elim (λ q. subst (Contains (map (λ (z : ProcId). z.0) reached)) q (map_contains (λ (z : ProcId). z.0) reached y (contains_read reached k y at))) (λ j. absurd (contains_none x j)) (contains_cons y.0 x [] i)
    calls_into (reads_seq {p = p} {q = q} r s) x i = ⊎_elim (λ j. calls_into s x j) (λ j. calls_into r x j) (Contains-append_cases (calls Everywhere p) (calls Everywhere q) x i)
    calls_into (reads_cond {p = p} {q = q} id r s h) x i = ⊎_elim (λ j. calls_into r x j) (λ j. calls_into s x j) (Contains-append_cases (calls Everywhere p) (calls Everywhere q) x i)
    calls_into (reads_sum y r h) x i = calls_into r x i
    calls_into (reads_choice {p = p} {q = q} r s h) x i = ⊎_elim (λ j. calls_into r x j) (λ j. calls_into_each s x j) (Contains-append_cases (calls Everywhere p) (calls Everywhere q) x i)

    calls_into_each : {scope : List VarId} {b : Body} {rest : Option ℕ} {a c : ℕ} {rs ss : List ProcId} {ns : List ℕ} → ReadsEach e ts reached table scope b rest a c rs ss ns → (x : ℕ) → Contains (calls Everywhere b) x → Contains (map (λ (y : ProcId). y.0) reached) x
    calls_into_each (reads_last r) x i = calls_into r x i
    calls_into_each (reads_more {p = p} {q = q} r s) x i = ⊎_elim (λ j. calls_into r x j) (λ j. calls_into_each s x j) (Contains-append_cases (calls Everywhere p) (calls Everywhere q) x i)

-- what calls a parallel name is parallel
called_parallel : (d : Table) (x y : ℕ) → Calls Everywhere d x y → IsParallelName d y → IsParallelName d x
called_parallel d x y link (inl has) = inr (y, ([], link), has)
called_parallel d x y link (inr (z, path, has)) = inr (z, (y ∷ path.0, (link, path.1)), has)

-- ---- views with different places
abbrev pub BeginsView : View → Type 0
BeginsView v = (v.all ≡ true) ⊎ ((v.all ≡ false) × (v.path ≡ [] → ⊥))

abbrev pub HaveOnePlace : View → View → Type 0
HaveOnePlace v w = BeginsView v × BeginsView w × (v.owner ≡ w.owner) × (v.path ≡ w.path)

abbrev pub AreApart : List View → Type 0
AreApart [] = Unit {0}
AreApart (v ∷ vs) = AllByRecursion (λ (w : View). HaveOnePlace v w → ⊥) vs × AreApart vs

apart_both : (P Q : View → Type 0) → ((v w : View) → P v → Q w → HaveOnePlace v w → ⊥) → (xs ys : List View) → AllByRecursion P xs → AllByRecursion Q ys → AreApart xs → AreApart ys → AreApart (xs ++ ys)
apart_both P Q f [] ys h k d e = e
apart_both P Q f (x ∷ xs) ys h k d e = (all_both (λ (w : View). HaveOnePlace x w → ⊥) xs ys d.0 (all_weaker Q (λ (w : View). HaveOnePlace x w → ⊥) (λ w q. f x w h.0 q) ys k), apart_both P Q f xs ys h.1 k d.1 e)

apart_paths : (vs : List View) → Differ vs → AreApart vs
apart_paths [] d = tt
apart_paths (v ∷ vs) d = (all_weaker (λ (w : View). v.path ≡ w.path → ⊥) (λ (w : View). HaveOnePlace v w → ⊥) (λ w f o. f o.3) vs d.0, apart_paths vs d.1)

one_place_back : (v w : View) → HaveOnePlace v w → HaveOnePlace w v
one_place_back v w h = (h.1, h.0, sym h.2, sym h.3)

apart_at : (P : View → Type 0) (vs : List View) → AllByRecursion P vs → (k : ℕ) (v : View) → slice_get vs k ≡ Some v → P v
apart_at P [] h k v q = cc
apart_at P (x ∷ vs) h zero v q = let s : x ≡ v = cc in subst P s h.0
apart_at P (x ∷ vs) h (suc k) v q = apart_at P vs h.1 k v q

pub one_number : (vs : List View) → AreApart vs → (i j : ℕ) (v w : View) → slice_get vs i ≡ Some v → slice_get vs j ≡ Some w → HaveOnePlace v w → i ≡ j
one_number [] d i j v w p q o = cc
one_number (x ∷ vs) d zero zero v w p q o = refl
one_number (x ∷ vs) d zero (suc j) v w p q o = let s : x ≡ v = cc in absurd (apart_at (λ (z : View). HaveOnePlace x z → ⊥) vs d.0 j w q (subst (λ z. HaveOnePlace z w) (sym s) o))
one_number (x ∷ vs) d (suc i) zero v w p q o = let s : x ≡ w = cc in absurd (apart_at (λ (z : View). HaveOnePlace x z → ⊥) vs d.0 i v p (one_place_back v x (subst (λ z. HaveOnePlace v z) (sym s) o)))
one_number (x ∷ vs) d (suc i) (suc j) v w p q o = ap suc (one_number vs d.1 i j v w p q o)

-- a process is reached once
apart_process : (x : ProcId) (xs : List ProcId) → AllByRecursion (λ (y : ProcId). (x.0 == y.0) ≡ false) xs → (j : ℕ) (y : ProcId) → slice_get xs j ≡ Some y → x.0 ≡ y.0 → ⊥
apart_process x [] h j y q s = cc
apart_process x (z ∷ xs) h zero y q s = let t : z ≡ y = cc in ⊎_elim (λ k. differ (sym h.0 ∙ k.0)) (λ k. k.1 (s ∙ ap (λ (u : ProcId). u.0) (sym t))) (eqb_tells x.0 z.0)
  where
    differ : false ≡ true → ⊥
    differ r = cc
apart_process x (z ∷ xs) h (suc j) y q s = apart_process x xs h.1 j y q s

reached_once : (xs : List ProcId) → IsDistinct (λ (x y : ProcId). x.0 == y.0) xs → (i j : ℕ) (x y : ProcId) → slice_get xs i ≡ Some x → slice_get xs j ≡ Some y → x.0 ≡ y.0 → i ≡ j
unfolding IsDistinct
reached_once [] d i j x y p q s = cc
reached_once (z ∷ xs) d zero zero x y p q s = refl
reached_once (z ∷ xs) d zero (suc j) x y p q s = let t : z ≡ x = cc in absurd (apart_process z xs d.0 j y q (ap (λ (u : ProcId). u.0) t ∙ s))
reached_once (z ∷ xs) d (suc i) zero x y p q s = let t : z ≡ y = cc in absurd (apart_process z xs d.0 i x p (ap (λ (u : ProcId). u.0) t ∙ sym s))
reached_once (z ∷ xs) d (suc i) (suc j) x y p q s = ap suc (reached_once xs d.1 i j x y p q s)

slice_of : (V front vs back : List View) (a : ℕ) → V ≡ front ++ (vs ++ back) → length front ≡ a → IsSlice V a vs
slice_of V front vs back a is l i v q = subst (λ z. slice_get z (a + i) ≡ Some v) (sym is) (subst (λ n. slice_get (front ++ (vs ++ back)) (n + i) ≡ Some v) l (read_behind front (vs ++ back) i v (read_front vs back i v q)))

pub same_pieces : (e : Entries) (ds : List PlainDefinition) (reached : List ℕ) (c : PlainComponent) (o : ℕ) (path : Path) → piece_from (bare_text e ds reached c) o path ≡ piece_from (text_of e ds reached c) o path
same_pieces e ds reached c zero [] = refl
same_pieces e ds reached c (suc x) [] = refl
same_pieces e ds reached c zero (s ∷ path) = refl
same_pieces e ds reached c (suc x) (s ∷ path) = refl

-- ---- the views of a table
module _ (g h : Sig) (ts us : List Tree) (sg : IsSignature g) (sh : IsSignature h) (grow : BothGrow g h ts us) (ds : List PlainDefinition) (fit : All (DefinitionFits g ts ds) ds) (c : PlainComponent) (reached : List ProcId) (once : IsDistinct (λ (x y : ProcId). x.0 == y.0) reached) (places : List PlainPlace)
    (sequential : IsSequential (table_of (entries_of h us) ds) (component_body (entries_of h us) c)) (own : HaveOwnVariables (table_of (entries_of h us) ds) (component_body (entries_of h us) c)) where
  abbrev e : Entries
  e = entries_of h us

  abbrev pub text : Text
  text = text_of (entries_of h us) ds (map (λ (x : ProcId). x.0) reached) c

  means : MeansTrees h (entries_of h us) ts
  means = record { means = λ id w. term_lifted h sh.table sh.complete us ts id grow.pool w }

  abbrev whole_view : ℕ → List VarId → PlainProcess → View
  whole_view o params p = record { all = true; owner = o; path = []; body = body_of (entries_of h us) p; others = []; scope = map (bound_at (entries_of h us)) params }

  begins_at : (o : ℕ) (b : Body) (xs : List Bound) (all : Bool) → body_of_owner text o ≡ b → params_of_owner text o ≡ xs → IsAt text (record { all = all; owner = o; path = []; body = b; others = []; scope = xs })
  begins_at o b xs all q s = record { follows = λ down. ap (λ z. follow [] z [] down) q; scopes = λ down. ap₂ (λ z y. scope_at z y down) s q }

  -- a body with its own variables
  scoped : (params : List VarId) (p : PlainProcess) → All (IsVariable g) params → AreDistinct (numbers_of params) → BindsAnew (numbers_of params) (body_of (entries_of h us) p) → ProcessFits g ts ds params p → (HasParallel (body_of (entries_of h us) p) → ⊥)
      → ((x : ℕ) → Contains (calls Everywhere (body_of (entries_of h us) p)) x → Contains (map (λ (y : ProcId). y.0) reached) x) → IsScoped (data_meant h) text (map (bound_at (entries_of h us)) params) (body_of (entries_of h us) p) []
  scoped params p vs distinct binds fits none known =
      let numbers = numbers_meant h us params in
      record {
        body = subst (λ l. IsSortedBody (data_meant h) text l (body_of (entries_of h us) p)) (sym numbers) (body_sorted g h ts us sg sh grow ds fit text refl refl params (numbers_of params) p fits (λ v i. i) none known);
        others = λ f i. absurd (contains_none f i);
        binds = subst (λ l. BindsAnew l (body_of (entries_of h us) p)) (sym numbers) binds;
        distinct = subst AreDistinct (sym numbers) distinct;
        declared = variables_declared h us params (variables_grow g h ts us sg grow params vs);
      }

  abbrev Owned : ℕ → View → Type 0
  Owned n v = (v.owner ≡ 0) ⊎ ((k : ℕ) × (x : ProcId) × (k < n) × (slice_get reached k ≡ Some x) × (v.owner ≡ suc x.0))

  abbrev OwnedBy : ℕ → View → Type 0
  OwnedBy o v = v.owner ≡ o

  -- a body that was read, from a number on
  record Piecewise (ps qs : List PlainPlace) (rs ss : List ProcId) (o : ℕ) (params : List VarId) (p : PlainProcess) (n : ℕ) : Type 0 where
    views : List View
    long : length ps + length views ≡ length qs
    owned : AllByRecursion (OwnedBy o) views
    apart : AreApart views
    calls : (y : ProcId) → Contains ss y → Contains rs y ⊎ Contains (calls Everywhere (body_of (entries_of h us) p)) y.0
    viewed : (V front back : List View) → V ≡ front ++ (views ++ back) → length front ≡ length ps → (k : ℕ) → length ps ≤ k → k < length qs → Viewed (entries_of h us) reached V (data_meant h) text places k
    at : (V front back : List View) → V ≡ front ++ (views ++ back) → length front ≡ length ps → slice_get V n ≡ Some (whole_view o params p)

  piecewise : (ps qs : List PlainPlace) (rs ss : List ProcId) (o : ℕ) (params : List VarId) (p : PlainProcess) (n : ℕ) → ReadsWhole ts ps qs rs ss params p n → BeginsWith qs places → BeginsWith ss reached → body_of_owner text o ≡ body_of (entries_of h us) p → params_of_owner text o ≡ map (bound_at (entries_of h us)) params → All (IsVariable g) params → AreDistinct (numbers_of params)
      → BindsAnew (numbers_of params) (body_of (entries_of h us) p) → ProcessFits g ts ds params p → (HasParallel (body_of (entries_of h us) p) → ⊥) → Piecewise ps qs rs ss o params p n
  piecewise ps qs rs ss o params p n w more there body_is params_are vs distinct binds fits none =
      let place : PlainPlace = record { part = whole w.begins; rest = None; params = params } in
      let inner = begins_then w.mid qs places (begins_pushed w.mid qs place w.is) more in
      let r = w.reads (entries_of h us) reached places there inner none in
      let xs = map (bound_at (entries_of h us)) params in
      let own_view = whole_view o params p in
      let first = views_of r o xs [] [] in
      let count = views_long r o xs [] [] in
      let sc = scoped params p vs distinct binds fits none (calls_into r) in
      let under = all_under r o xs [] [] in
      let joined : (back : List View) → (first ++ own_view ∷ []) ++ back ≡ first ++ (own_view ∷ back) = λ back. append_assoc first (own_view ∷ []) back in
      let here : (V front back : List View) → V ≡ front ++ ((first ++ own_view ∷ []) ++ back) → length front ≡ length ps → Seen h (data_meant h) text (entries_of h us) ts means reached places V params o xs [] (body_of (entries_of h us) p) [] w.begins (length ps) (length w.mid) =
      λ V front back is l. seen h (data_meant h) text (entries_of h us) ts means reached places V r o xs [] [] refl (begins_at o (body_of (entries_of h us) p) xs false body_is params_are) sc refl (slice_of V front first (own_view ∷ back) (length ps) (is ∙ ap (λ z. front ++ z) (joined back)) l) in
      let at : (V front back : List View) → V ≡ front ++ ((first ++ own_view ∷ []) ++ back) → length front ≡ length ps → slice_get V (length w.mid) ≡ Some own_view = λ V front back is l.
      let m = length-append front first in
      subst (λ z. slice_get z (length w.mid) ≡ Some own_view) (sym (is ∙ ap (λ z. front ++ z) (joined back) ∙ sym (append_assoc front first (own_view ∷ back)))) (subst (λ i. slice_get ((front ++ first) ++ own_view ∷ back) i ≡ Some own_view) (let q : length (front ++ first) ≡ length w.mid = omega (arith, m, l, count) in q) (front_then (front ++ first) own_view back)) in
      record {
        views = first ++ own_view ∷ [];
        long = let m = length-append first (own_view ∷ []) in let k = length-append w.mid (place ∷ []) in let q : length qs ≡ length (w.mid ++ place ∷ []) = ap length w.is in omega (arith, m, k, q, count);
        owned = all_both (OwnedBy o) first (own_view ∷ []) (all_weaker (IsUnder o []) (OwnedBy o) (λ v k. k.owner) first under) (refl, tt);
        apart = apart_both (λ v. v.all ≡ false) (λ v. (v.all ≡ true) × (v.path ≡ [])) (λ v u a b q. ⊎_elim (λ z. differ (sym a ∙ z)) (λ z. z.1 (q.3 ∙ b.1)) q.0) first (own_view ∷ []) (all_weaker (IsUnder o []) (λ v. v.all ≡ false) (λ v k. k.part) first under) ((refl, refl), tt) (apart_paths first (all_differ r o xs [] [])) (tt, tt);
        calls = calls_from r;
        viewed = λ V front back is l k low high. ⊎_elim
            (λ s. (here V front back is l).all k low s)
            (λ s. subst (Viewed (entries_of h us) reached V (data_meant h) text places) s (record {
              place = place;
              view = own_view;
              stands = still_read qs places (length w.mid) place more (subst (λ z. slice_get z (length w.mid) ≡ Some place) (sym w.is) (read_last w.mid place));
              at = at V front back is l;
              params = refl;
              rest = refl;
              part = (refl, refl, refl, (here V front back is l).at);
              position = begins_at o (body_of (entries_of h us) p) xs true body_is params_are;
              scoped = sc;
              one = λ q. absurd (differ (sym q));
              all = λ q. (body_is, params_are, refl, refl);
            }))
            (below_or_last k (length w.mid) (let m = length-append w.mid (place ∷ []) in let q : length qs ≡ length (w.mid ++ place ∷ []) = ap length w.is in omega (arith, m, q, high)));
        at = λ V front back is l. subst (λ i. slice_get V i ≡ Some own_view) (sym w.at) (at V front back is l);
      }
    where
      differ : false ≡ true → ⊥
      differ q = cc

      front_then : (xs : List View) (v : View) (ys : List View) → slice_get (xs ++ v ∷ ys) (length xs) ≡ Some v
      front_then [] v ys = refl
      front_then (x ∷ xs) v ys = front_then xs v ys

      below_or_last : (a b : ℕ) → a < suc b → (a < b) ⊎ (b ≡ a)
      below_or_last zero zero m = inr refl
      below_or_last zero (suc b) m = inl (omega arith)
      below_or_last (suc a) zero m = absurd (omega (arith, m))
      below_or_last (suc a) (suc b) m = ⊎_elim (λ k. inl (omega (arith, k))) (λ k. inr (ap suc k)) (below_or_last a b (omega (arith, m)))

  abbrev pub NotParallel : ProcId → Type 0
  NotParallel x = IsParallelName (table_of (entries_of h us) ds) x.0 → ⊥

  -- where the component starts
  abbrev pub StartIs : PlainComponent → List View → ℕ → Type 0
  StartIs (call_of x ids) V n = Unit {0}
  StartIs (term_of p) V n = slice_get V n ≡ Some (whole_view 0 [] p)

  record Built (b : PlainComponent) (ps : List PlainPlace) (rs : List ProcId) (es : List PlainEntry) (first : ℕ) : Type 0 where
    views : List View
    long : length views ≡ length ps
    owned : AllByRecursion (Owned (length es)) views
    apart : AreApart views
    sequential_ones : (x : ProcId) → Contains rs x → NotParallel x
    viewed : (V back : List View) → V ≡ views ++ back → (k : ℕ) → k < length ps → Viewed (entries_of h us) reached V (data_meant h) text places k
    entries : (table : PlainPlaces) (V back : List View) → V ≡ views ++ back → (k : ℕ) (entry : PlainEntry) → slice_get es k ≡ Some entry → EntryIs (entries_of h us) reached V (data_meant h) text table k entry
    starts : (V back : List View) → V ≡ views ++ back → StartIs b V first

  last_or_old : (es : List PlainEntry) (z : PlainEntry) (k : ℕ) (entry : PlainEntry) → slice_get (es ++ z ∷ []) k ≡ Some entry → (slice_get es k ≡ Some entry) ⊎ ((k ≡ length es) × (z ≡ entry))
  last_or_old [] z zero entry q = inr (refl, (let s : z ≡ entry = cc in s))
  last_or_old [] z (suc k) entry q = cc
  last_or_old (x ∷ es) z zero entry q = inl q
  last_or_old (x ∷ es) z (suc k) entry q = ⊎_elim inl (λ r. inr (ap suc r.0, r.1)) (last_or_old es z k entry q)

  not_first : (k : ℕ) → suc k ≡ 0 → ⊥
  not_first k q = absurd (omega (arith, q))

  below_or : (i j : ℕ) → (i < j) ⊎ (j ≤ i)
  below_or zero zero = inr (omega arith)
  below_or zero (suc j) = inl (omega arith)
  below_or (suc i) zero = inr (omega arith)
  below_or (suc i) (suc j) = ⊎_elim (λ s. inl (omega (arith, s))) (λ s. inr (omega (arith, s))) (below_or i j)

  build : {b : PlainComponent} {ps : List PlainPlace} {rs : List ProcId} {es : List PlainEntry} {first : ℕ} → ReadsTable ts ds b ps rs es first → b ≡ c → ComponentFits g ts ds b → BeginsWith ps places → BeginsWith rs reached → Built b ps rs es first
  build (reads_called {x = x} {ids = ids} {rs = rs} at only first) same fits more there = record {
    views = [];
    long = refl;
    owned = tt;
    apart = tt;
    sequential_ones = λ y i. subst NotParallel (only y i) ((subst (λ z. IsSequential (table_of (entries_of h us) ds) (component_body (entries_of h us) z)) (sym same) sequential).1 x.0 (contains_first x.0 []));
    viewed = λ V back is k l. absurd (omega (arith, l));
    entries = λ table V back is k entry q. absurd (nothing_there k entry q);
    starts = λ V back is. tt;
  }
    where
      nothing_there : (k : ℕ) (entry : PlainEntry) → slice_get [] k ≡ Some entry → ⊥
      nothing_there k entry q = cc
  build (reads_own {p = p} {ps = ps} {rs = rs} n w) same fits more there =
      let s = subst (λ z. IsSequential (table_of (entries_of h us) ds) (component_body (entries_of h us) z)) (sym same) sequential in
      let binds : BindsAnew [] (body_of (entries_of h us) p) = subst (λ z. BindsAnew [] (component_body (entries_of h us) z)) (sym same) own.start in
      let k = piecewise [] ps [] rs 0 [] p n w more there (ap (own_body (entries_of h us)) (sym same)) refl (All-nil (IsVariable g)) tt binds fits s.0 in
      record {
        views = k.views;
        long = let l = k.long in omega (arith, l);
        owned = all_weaker (OwnedBy 0) (Owned 0) (λ v q. inl q) k.views k.owned;
        apart = k.apart;
        sequential_ones = λ y i. ⊎_elim (λ j. absurd (contains_none y j)) (λ j. s.1 y.0 j) (k.calls y i);
        viewed = λ V back is i l. k.viewed V [] back is refl i (omega arith) l;
        entries = λ table V back is i entry q. absurd (nothing_there i entry q);
        starts = λ V back is. k.at V [] back is refl;
      }
    where
      nothing_there : (k : ℕ) (entry : PlainEntry) → slice_get [] k ≡ Some entry → ⊥
      nothing_there k entry q = cc
  build (reads_entry {ps = ps} {us = qs} {rs = rs} {ss = ss} {es = es} x d n prev at stands b r w) same fits more there =
      let old = build prev same fits (begins_then ps qs places b more) (begins_then rs ss reached r there) in
      let notp = old.sequential_ones x (contains_read rs (length es) x at) in
      let f = definition_of (entries_of h us) d in
      let in_table : slice_get (table_of (entries_of h us) ds) x.0 ≡ Some f = slice_get-map (definition_of (entries_of h us)) ds x.0 ∙ ap (option_map (definition_of (entries_of h us))) stands in
      let in_text : slice_get text.definitions x.0 ≡ Some (piece_of (entries_of h us) d) = slice_get-map (piece_of (entries_of h us)) ds x.0 ∙ ap (option_map (piece_of (entries_of h us))) stands in
      let mine = own.definitions x.0 f in_table in
      let among = among_at text.definitions x.0 (piece_of (entries_of h us) d) in_text in
      let dfit = all_at (DefinitionFits g ts ds) ds x.0 d fit stands in
      let k = piecewise ps qs rs ss (suc x.0) d.params d.body n w more there among.1 among.0 dfit.params mine.distinct mine.binds dfit.body (λ j. notp (inl (f, in_table, j))) in
      let z : PlainEntry = record { process = x; place = n; params = d.params } in
      let here = still_read rs reached (length es) x (begins_then rs ss reached r there) at in
      let count = length-append es (z ∷ []) in
      let apart_from : (V back : List View) → V ≡ (old.views ++ k.views) ++ back → V ≡ old.views ++ (k.views ++ back) = λ V back is. is ∙ append_assoc old.views k.views back in
      record {
        views = old.views ++ k.views;
        long = let l = length-append old.views k.views in let m = old.long in let o = k.long in omega (arith, l, m, o);
        owned = all_both (Owned (length (es ++ z ∷ []))) old.views k.views
            (all_weaker (Owned (length es)) (Owned (length (es ++ z ∷ []))) (λ v q. ⊎_elim inl (λ s. inr (s.0, s.1, (let t = s.2 in omega (arith, t, count)), s.3, s.4)) q) old.views old.owned)
            (all_weaker (OwnedBy (suc x.0)) (Owned (length (es ++ z ∷ []))) (λ v q. inr (length es, x, omega (arith, count), here, q)) k.views k.owned);
        apart = apart_both (Owned (length es)) (OwnedBy (suc x.0)) (λ v u a q o. ⊎_elim
            (λ s. not_first x.0 (sym q ∙ sym o.2 ∙ s))
            (λ s. let same_number : suc s.1.0 ≡ suc x.0 = sym s.4 ∙ o.2 ∙ q in let i = reached_once reached once s.0 (length es) s.1 x s.3 here (omega (arith, same_number)) in let t = s.2 in absurd (omega (arith, i, t)))
            a) old.views k.views old.owned k.owned old.apart k.apart;
        sequential_ones = λ y i. ⊎_elim (λ j. old.sequential_ones y j) (λ j hp. notp (called_parallel (table_of (entries_of h us) ds) x.0 y.0 (f, in_table, j) hp)) (k.calls y i);
        viewed = λ V back is i l. ⊎_elim (λ s. old.viewed V (k.views ++ back) (apart_from V back is) i s) (λ s. k.viewed V old.views back (apart_from V back is) old.long i s l) (below_or i (length ps));
        entries = λ table V back is i entry q. ⊎_elim
            (λ s. old.entries table V (k.views ++ back) (apart_from V back is) i entry s)
            (λ s. subst (EntryIs (entries_of h us) reached V (data_meant h) text table i) s.1 (record {
              process = ap (slice_get reached) s.0 ∙ here;
              view = whole_view (suc x.0) d.params d.body;
              at = k.at V old.views back (apart_from V back is) old.long;
              all = refl;
              owner = refl;
              path = refl;
              others = refl;
              scope = refl;
              piece = piece_of (entries_of h us) d;
              stands = in_text;
              params = refl;
              body = refl;
            }))
            (last_or_old es z i entry q);
        starts = λ V back is. old.starts V (k.views ++ back) (apart_from V back is);
      }

  -- ---- the whole table
  pub record IsSeen (t : PlainPlaces) : Type 0 where
    pub views : List View
    pub known : IsViewed (entries_of h us) reached views (data_meant h) text t
    pub apart : AreApart views
    pub starts : StartIs c views t.start
    pub sequential_ones : (x : ProcId) → Contains reached x → NotParallel x

  pub table_seen : (start : ℕ) (entries : List PlainEntry) → ReadsTable ts ds c places reached entries start → ComponentFits g ts ds c → length reached ≤ length entries → IsSeen (record { places = places; start = start; entries = entries })
  table_seen start entries table fits all =
      let k = build table refl fits (begins_itself places) (begins_itself reached) in
      let is = sym (append-nil k.views) in
      record {
        views = k.views;
        known = record {
          places = λ i p at. k.viewed k.views [] is i (slice_get_within places i p at);
          entries = λ i entry at. k.entries (record { places = places; start = start; entries = entries }) k.views [] is i entry at;
          called = λ i x at. let l = slice_get_within reached i x at in (get_or entries i (record { process = x; place = 0; params = [] }), slice_get-get_or entries i (record { process = x; place = 0; params = [] }) (omega (arith, l, all)));
          pieces = λ place. same_pieces (entries_of h us) ds (map (λ (x : ProcId). x.0) reached) c place.owner place.path;
          long = λ i v at. let l = slice_get_within k.views i v at in let m = k.long in (get_or places i (record { part = delta; rest = None; params = [] }), slice_get-get_or places i (record { part = delta; rest = None; params = [] }) (omega (arith, l, m)));
        };
        apart = k.apart;
        starts = k.starts k.views [] is;
        sequential_ones = k.sequential_ones;
      }
