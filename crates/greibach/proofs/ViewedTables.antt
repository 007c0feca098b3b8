-- A table that was read has its views.
use Rattle.std.proofs.Common.{◌≡◌, ◌<◌, ◌≤◌, ◌+◌, ◌==◌, ◌||◌, ◌&&◌, ◌⊎◌, inl, inr, ⊎_elim, ℕ, zero, suc, Bool, true, false, not, cond as by_test, List, [], ◌∷◌, ◌++◌, map, length, refl, sym, ap, ◌∙◌, subst, arith, append_assoc, append-nil, Option, None, Some}
use Rattle.std.specs.Prelude.{◌↔◌, slice_get}
use Rattle.std.specs.List.{All, Contains}
use Rattle.std.proofs.lemmas.List.Elements.{All-nil, All-cons, All-head, All-contains, Contains-append_left, Contains-append_right}
use Rattle.std.proofs.lemmas.List.{map-append, length-append}
use Rattle.std.proofs.lemmas.Bool.Decides.{eqb_tells}
use Rattle.std.proofs.lemmas.Option.{get_or_from_slice_get}
use Rattle.data_theory.proofs.PlaceLemmas.{read_front, read_behind}
use Rattle.data_theory.specs.Declarations.{Data}
use Rattle.data_theory.specs.declared.ids.ProcId.{ProcId}
use Rattle.data_theory.specs.declared.ids.VarId.{VarId}
use Rattle.data_theory.specs.declared.ids.TermId.{TermId}
use Rattle.data_theory.specs.Signature.{Sig}
use Rattle.data_theory.specs.IdTrees.{Tree}
use Rattle.term_pool.specs.HeadTrees.{IsIn, AreIn}
use Rattle.term_pool.proofs.Lists.{contains_none, contains_cons, contains_head, contains_tail}
use Rattle.process_terms.specs.PlainProcesses.{PlainAction}
use Rattle.process_terms.specs.Processes.{Bound, Body, written_delta, written_act, written_choice, written_seq, written_cond, written_sum, written_call, written_merge, written_starting, written_around}
use Rattle.process_terms.specs.Meanings.{Entries, bound_at, term_at, label_of}
use Rattle.bisim_laws.specs.LinearProcesses.{variables}
use Rattle.lps_core.specs.TreeSummands.{IsActionIn, numbers_of}
use Rattle.lps_core.proofs.Members.{all_from, contains_map}
use Rattle.data_theory.specs.Environments.{terms_of}
use Rattle.greibach.specs.Places.{Path, Factor, factors, Text, IsSortedBody, body_of_owner}
use Rattle.greibach.specs.ComponentForms.{occurs, occurs_in, occurs_in_label, occurs_free, free_in, params_of_owner}
use Rattle.greibach.specs.PlacesInCode.{PlainPart, delta, act, choice, cond, sum, call, whole, PlainPlace}
use Rattle.greibach.specs.OccurringVariables.{OccursIn, label_terms, those_among, params_at, rest_params}
use Rattle.greibach.specs.TableReadings.{HasPlace, Reads, ReadsEach, reads_delta, reads_nothing, reads_act, reads_call, reads_seq, reads_cond, reads_sum, reads_choice, reads_last, reads_more}
use Rattle.greibach.proofs.AddedVariables.{kept_among, among_is_there}
use Rattle.greibach.proofs.FreeVariables.{MeansTrees, either_true, left_true, right_true, or_assoc, occurs_any, any_both, any_factors, terms_occur, term_occurs, label_occurs, needed_are_free}
use Rattle.greibach.proofs.ScopeLemmas.{IsScoped, sorted_closed, with_more, with_part, with_bound}
use Rattle.greibach.proofs.Views.{View, view_at, first_factor, first_view, begins_with_first, first_owner, IsAt, seq_first, seq_second, choice_first, choice_second, cond_first, cond_second, sum_inside, views_of, views_of_each, views_long, each_long}

-- ---- a part of a list, from a number on
abbrev pub IsSlice : List View → ℕ → List View → Type 0
IsSlice views a vs = (i : ℕ) (v : View) → slice_get vs i ≡ Some v → slice_get views (a + i) ≡ Some v

slice_front : (views : List View) (a : ℕ) (vs us : List View) → IsSlice views a (vs ++ us) → IsSlice views a vs
slice_front views a vs us h i v e = h i v (read_front vs us i v e)

slice_behind : (views : List View) (a b : ℕ) (vs us : List View) → a + length vs ≡ b → IsSlice views a (vs ++ us) → IsSlice views b us
slice_behind views a b vs us l h i v e = subst (λ n. slice_get views n ≡ Some v) (let n : a + (length vs + i) ≡ b + i = omega (arith, l) in n) (h (length vs + i) v (read_behind vs us i v e))

slice_one : (views : List View) (a : ℕ) (v : View) → IsSlice views a (v ∷ []) → slice_get views a ≡ Some v
slice_one views a v h = subst (λ n. slice_get views n ≡ Some v) (let n : a + 0 ≡ a = omega arith in n) (h 0 v refl)

-- ---- what a number stands for
abbrev pub params_of_view : View → List Bound
params_of_view v = by_test v.all v.scope (free_in (first_factor v ∷ v.others) v.scope)

abbrev pub RestIs : List View → View → Option ℕ → Type 0
RestIs views v None = v.others ≡ []
RestIs views v (Some m) = (w : View) × (slice_get views m ≡ Some w) × (w.owner ≡ v.owner) × (w.all ≡ false) × (w.path ≡ [] → ⊥) × (v.others ≡ first_factor w ∷ w.others)

pub data OperandsAt (views : List View) (o : ℕ) (xs : List Bound) (fs : List Factor) : Path → Body → List ℕ → Type 0 where
  last_at : {path : Path} {b : Body} {n : ℕ} → slice_get views n ≡ Some (first_view o xs path b fs) → OperandsAt views o xs fs path b (n ∷ [])
  more_at : {path : Path} {p q : Body} {n : ℕ} {ns : List ℕ} → slice_get views n ≡ Some (first_view o xs (path ++ false ∷ []) p fs) → OperandsAt views o xs fs (path ++ true ∷ []) q ns → OperandsAt views o xs fs path (written_choice p q) (n ∷ ns)

module _ (e : Entries) (reached : List ProcId) (views : List View) where
  abbrev pub PartIs : View → PlainPart → Type 0
  PartIs v delta = v.body ≡ written_delta
  PartIs v (act m) = v.body ≡ written_act (label_of e m)
  PartIs v (choice []) = v.body ≡ written_delta
  PartIs v (choice (n ∷ ns)) = (p : Body) × (q : Body) × (v.body ≡ written_choice p q) × (slice_get views n ≡ Some (first_view v.owner v.scope (v.path ++ false ∷ []) p v.others)) × OperandsAt views v.owner v.scope v.others (v.path ++ true ∷ []) q ns
  PartIs v (cond c i j) = (p : Body) × (q : Body) × (v.body ≡ written_cond (term_at e c) p q) × (slice_get views i ≡ Some (first_view v.owner v.scope (v.path ++ false ∷ []) p v.others)) × (slice_get views j ≡ Some (first_view v.owner v.scope (v.path ++ true ∷ []) q v.others))
  PartIs v (sum x i) = (p : Body) × (v.body ≡ written_sum (bound_at e x) p) × (Contains (variables v.scope) x.0 → ⊥) × (slice_get views i ≡ Some (first_view v.owner (v.scope ++ bound_at e x ∷ []) (v.path ++ false ∷ []) p v.others))
  PartIs v (call k ids) = (x : ProcId) × (slice_get reached k ≡ Some x) × (v.body ≡ written_call x.0 (map (term_at e) ids))
  PartIs v (whole i) = (v.path ≡ []) × (v.others ≡ []) × (v.all ≡ true) × (slice_get views i ≡ Some (first_view v.owner v.scope [] v.body []))

  pub record Viewed (g : Data) (t : Text) (table : List PlainPlace) (k : ℕ) : Type 0 where
    pub place : PlainPlace
    pub view : View
    pub stands : slice_get table k ≡ Some place
    pub at : slice_get views k ≡ Some view
    pub params : map (bound_at e) place.params ≡ params_of_view view
    pub rest : RestIs views view place.rest
    pub part : PartIs view place.part
    pub position : IsAt t view
    pub scoped : IsScoped g t view.scope view.body view.others
    pub one : view.all ≡ false → factors view.path view.body ≡ first_factor view ∷ []
    pub all : view.all ≡ true → (body_of_owner t view.owner ≡ view.body) × (params_of_owner t view.owner ≡ view.scope) × (view.path ≡ []) × (view.others ≡ [])

tests_differ : false ≡ true → ⊥
tests_differ q = cc

-- ---- paths of first factors
first_deeper : (o : ℕ) (xs : List Bound) (path : Path) (b : Body) (fs : List Factor) → (d : Path) × ((first_view o xs path b fs).path ≡ path ++ d)
first_deeper o xs path (written_seq p q) fs = let r = first_deeper o xs (path ++ false ∷ []) p (factors (path ++ true ∷ []) q ++ fs) in (false ∷ r.0, r.1 ∙ append_assoc path (false ∷ []) r.0)
first_deeper o xs path written_delta fs = ([], sym (append-nil path))
first_deeper o xs path (written_act m) fs = ([], sym (append-nil path))
first_deeper o xs path (written_choice p q) fs = ([], sym (append-nil path))
first_deeper o xs path (written_cond c p q) fs = ([], sym (append-nil path))
first_deeper o xs path (written_sum x p) fs = ([], sym (append-nil path))
first_deeper o xs path (written_call x ts) fs = ([], sym (append-nil path))
first_deeper o xs path (written_merge p q) fs = ([], sym (append-nil path))
first_deeper o xs path (written_starting start p q) fs = ([], sym (append-nil path))
first_deeper o xs path (written_around a p) fs = ([], sym (append-nil path))

longer_than_none : (path : Path) (s : Bool) (d : Path) → (path ++ s ∷ []) ++ d ≡ [] → ⊥
longer_than_none path s d q = let l = length-append (path ++ s ∷ []) d in let m = length-append path (s ∷ []) in let n : length ((path ++ s ∷ []) ++ d) ≡ 0 = ap length q in absurd (omega (arith, l, m, n))

-- ---- variables of the scope, by their numbers
to_numbers : (e : Entries) (scope : List VarId) (x : VarId) → Contains scope x → Contains (variables (map (bound_at e) scope)) x.0
to_numbers e [] x i = absurd (contains_none x i)
to_numbers e (y ∷ scope) x i = ⊎_elim (λ q. subst (λ (z : VarId). Contains (variables (map (bound_at e) (y ∷ scope))) z.0) q (contains_head y.0 _)) (λ j. contains_tail y.0 x.0 _ (to_numbers e scope x j)) (contains_cons y x scope i)

in_scope : (e : Entries) (scope : List VarId) (x : VarId) → Contains (variables (map (bound_at e) scope)) x.0 → Contains scope x
in_scope e scope x i = by_number (vars_are e scope) i
  where
    vars_are : (e : Entries) (ys : List VarId) → variables (map (bound_at e) ys) ≡ numbers_of ys
    vars_are e [] = refl
    vars_are e (y ∷ ys) = ap (λ l. y.0 ∷ l) (vars_are e ys)

    by_number : variables (map (bound_at e) scope) ≡ numbers_of scope → Contains (variables (map (bound_at e) scope)) x.0 → Contains scope x
    by_number q j =
        let r = contains_map (λ (y : VarId). y.0) scope x.0 (subst (λ l. Contains l x.0) q j) in
        let same : r.0 ≡ x = ap (λ n. record { 0 = n }) (sym r.1.1) in
        subst (Contains scope) same r.1.0

module _ (sig : Sig) (g : Data) (t : Text) (e : Entries) (ts : List Tree) (m : MeansTrees sig e ts) (reached : List ProcId) (table : List PlainPlace) (views : List View) where
  -- exactly the variables that occur free from a place on are its parameters
  abbrev pub IsFreeAt : Body → List Factor → VarId → Type 0
  IsFreeAt b fs x = (occurs_free x.0 b || occurs_any x.0 fs) ≡ true

  abbrev pub IsExact : List VarId → Body → List Factor → ℕ → Type 0
  IsExact scope b fs n = (x : VarId) → Contains (params_at table n) x ↔ (Contains scope x × IsFreeAt b fs x)

  abbrev pub RestSeen : ℕ → List Factor → Option ℕ → Type 0
  RestSeen o fs None = fs ≡ []
  RestSeen o fs (Some n) = (w : View) × (slice_get views n ≡ Some w) × (w.owner ≡ o) × (w.all ≡ false) × (w.path ≡ [] → ⊥) × (fs ≡ first_factor w ∷ w.others) × ((x : VarId) → Contains (params_at table n) x ↔ (occurs_any x.0 fs ≡ true))

  rest_needed : (o : ℕ) (fs : List Factor) (rest : Option ℕ) → RestSeen o fs rest → (x : VarId) → Contains (rest_params table rest) x ↔ (occurs_any x.0 fs ≡ true)
  rest_needed o fs None h x = (λ i. absurd (contains_none x i), λ q. absurd (nothing (ap (occurs_any x.0) (sym h) ∙ q)))
    where
      nothing : false ≡ true → ⊥
      nothing r = cc
  rest_needed o fs (Some n) h x = h.6 x

  rest_is : (v : View) (rest : Option ℕ) → RestSeen v.owner v.others rest → RestIs views v rest
  rest_is v None h = h
  rest_is v (Some n) h = (h.0, h.1, h.2, h.3, h.4, h.5)

  -- a place with its view
  seen_place : (scope : List VarId) (v : View) (part : PlainPart) (rest : Option ℕ) (terms : List TermId) (inner : List ℕ) (n : ℕ) → v.all ≡ false → v.scope ≡ map (bound_at e) scope → (h : HasPlace ts table scope part rest terms inner n) → slice_get views n ≡ Some v → IsAt t v → IsScoped g t v.scope v.body v.others → RestSeen v.owner v.others rest → factors v.path v.body ≡ first_factor v ∷ [] → PartIs e reached views v part
      → ((x : VarId) → Contains scope x → Contains h.keys x ↔ IsFreeAt v.body v.others x) → Viewed e reached views g t table n × IsExact scope v.body v.others n
  seen_place scope v part rest terms inner n some own h at is scoped seen alone_here fits keys = (
    record {
      place = record { part = part; rest = rest; params = those_among scope h.keys };
      view = v;
      stands = h.stands;
      at = at;
      params = needed_are_free e scope h.keys (first_factor v ∷ v.others) keys ∙ ap (free_in (first_factor v ∷ v.others)) (sym own) ∙ sym (ap (λ b. by_test b v.scope (free_in (first_factor v ∷ v.others) v.scope)) some);
      rest = rest_is v rest seen;
      part = fits;
      position = is;
      scoped = scoped;
      one = λ q. alone_here;
      all = λ q. absurd (tests_differ (sym some ∙ q));
    },
    λ x. let same : params_at table n ≡ those_among scope h.keys = ap (λ (p : PlainPlace). p.params) (get_or_from_slice_get table n (record { part = part; rest = rest; params = those_among scope h.keys }) _ h.stands) in (
      λ i. let r = among_is_there scope h.keys x (subst (λ l. Contains l x) same i) in (r.0, (keys x r.0).0 r.1),
      λ q. subst (λ l. Contains l x) (sym same) (kept_among scope h.keys x q.0 ((keys x q.0).1 q.1)),
    ),
  )

  pub record Seen (scope : List VarId) (o : ℕ) (xs : List Bound) (path : Path) (b : Body) (fs : List Factor) (n a c : ℕ) : Type 0 where
    pub at : slice_get views n ≡ Some (first_view o xs path b fs)
    pub exact : IsExact scope b fs n
    pub all : (k : ℕ) → a ≤ k → k < c → Viewed e reached views g t table k

  pub record SeenEach (scope : List VarId) (o : ℕ) (xs : List Bound) (path : Path) (b : Body) (fs : List Factor) (ns : List ℕ) (a c : ℕ) : Type 0 where
    pub at : OperandsAt views o xs fs path b ns
    pub exact : (x : VarId) → Contains scope x → ((n : ℕ) × Contains ns n × Contains (params_at table n) x) ↔ IsFreeAt b fs x
    pub all : (k : ℕ) → a ≤ k → k < c → Viewed e reached views g t table k

  -- numbers of two parts and of a last one
  two_parts : (a b c : ℕ) → ((k : ℕ) → a ≤ k → k < b → Viewed e reached views g t table k) → ((k : ℕ) → b ≤ k → k < c → Viewed e reached views g t table k) → (k : ℕ) → a ≤ k → k < c → Viewed e reached views g t table k
  two_parts a b c f h k l u = ⊎_elim (λ s. f k l s) (λ s. h k s u) (below_or k b)
    where
      below_or : (i j : ℕ) → (i < j) ⊎ (j ≤ i)
      below_or zero zero = inr (omega arith)
      below_or zero (suc j) = inl (omega arith)
      below_or (suc i) zero = inr (omega arith)
      below_or (suc i) (suc j) = ⊎_elim (λ s. inl (omega (arith, s))) (λ s. inr (omega (arith, s))) (below_or i j)

  last_part : (a : ℕ) → Viewed e reached views g t table a → (k : ℕ) → a ≤ k → k < suc a → Viewed e reached views g t table k
  last_part a v k l u = subst (Viewed e reached views g t table) (same a k l u) v
    where
      same : (i j : ℕ) → i ≤ j → j < suc i → i ≡ j
      same i j p q = omega (arith, p, q)

  one_place : (scope : List VarId) (v : View) (n : ℕ) → v.all ≡ false → slice_get views n ≡ Some v → first_view v.owner v.scope v.path v.body v.others ≡ v → Viewed e reached views g t table n × IsExact scope v.body v.others n → Seen scope v.owner v.scope v.path v.body v.others n n (suc n)
  one_place scope v n some at is h = record { at = at ∙ ap Some (sym is); exact = h.1; all = last_part n h.0 }

  actions_in : (n : List PlainAction) → AreIn ts (label_terms n) → All (IsActionIn ts) n
  actions_in [] w = All-nil (IsActionIn ts)
  actions_in (a ∷ n) w = All-cons (IsActionIn ts) a n (all_from (IsIn ts) a.args (λ id i. All-contains (IsIn ts) (a.args ++ label_terms n) id w (Contains-append_left a.args (label_terms n) id i)))
      (actions_in n (all_from (IsIn ts) (label_terms n) (λ id i. All-contains (IsIn ts) (a.args ++ label_terms n) id w (Contains-append_right a.args (label_terms n) id i))))

  -- ---- what is needed at a place
  keys_with : (scope : List VarId) (part : PlainPart) (rest : Option ℕ) (terms : List TermId) (inner : List ℕ) (n : ℕ) (h : HasPlace ts table scope part rest terms inner n) (x : VarId) (a b c : Bool) → OccursIn ts terms x ↔ (a ≡ true) → ((k : ℕ) × Contains inner k × Contains (params_at table k) x) ↔ (b ≡ true)
      → Contains (rest_params table rest) x ↔ (c ≡ true) → Contains h.keys x ↔ ((a || (c || b)) ≡ true)
  keys_with scope part rest terms inner n h x a b c own inside behind = (
    λ i. ⊎_elim (λ j. left_true a (c || b) (own.0 j)) (λ u. right_true a (c || b) (⊎_elim (λ j. left_true c b (behind.0 j)) (λ j. right_true c b (inside.0 j)) u)) ((h.needed x).0 i),
    λ q. (h.needed x).1 (⊎_elim (λ j. inl (own.1 j)) (λ u. inr (⊎_elim (λ j. inl (behind.1 j)) (λ j. inr (inside.1 j)) (either_true c b u))) (either_true a (c || b) q)),
  )

  none_inside : (x : VarId) → ((k : ℕ) × Contains [] k × Contains (params_at table k) x) ↔ (false ≡ true)
  none_inside x = (λ h. absurd (contains_none h.0 h.1), λ q. absurd (differ q))
    where
      differ : false ≡ true → ⊥
      differ r = cc

  no_terms : (x : VarId) → OccursIn ts [] x ↔ (false ≡ true)
  no_terms x = (λ h. absurd (contains_none h.0 h.1), λ q. absurd (differ q))
    where
      differ : false ≡ true → ⊥
      differ r = cc

  alone : (a c : Bool) → (a || (c || false)) ≡ (a || c)
  alone true c = refl
  alone false true = refl
  alone false false = refl

  branches : (a p q c : Bool) → (a || (c || ((p || c) || (q || c)))) ≡ ((a || (p || q)) || c)
  branches true p q c = refl
  branches false true q true = refl
  branches false true q false = refl
  branches false false true true = refl
  branches false false true false = refl
  branches false false false true = refl
  branches false false false false = refl

  summed : (p c : Bool) → (c || (p || c)) ≡ (p || c)
  summed true true = refl
  summed true false = refl
  summed false true = refl
  summed false false = refl

  either_way : (p q c : Bool) → ((p || c) || (q || c)) ≡ ((p || q) || c)
  either_way true q c = refl
  either_way false true true = refl
  either_way false true false = refl
  either_way false false true = refl
  either_way false false false = refl

  turned : (a b : Bool) (P : Type 0) → a ≡ b → P ↔ (a ≡ true) → P ↔ (b ≡ true)
  turned a b P q h = (λ i. sym q ∙ h.0 i, λ k. h.1 (q ∙ k))

  -- a place without inner ones
  keys_alone : (scope : List VarId) (part : PlainPart) (rest : Option ℕ) (terms : List TermId) (n : ℕ) (h : HasPlace ts table scope part rest terms [] n) (o : ℕ) (fs : List Factor) → RestSeen o fs rest → (x : VarId) (a : Bool) → OccursIn ts terms x ↔ (a ≡ true) → Contains h.keys x ↔ ((a || occurs_any x.0 fs) ≡ true)
  keys_alone scope part rest terms n h o fs seen x a own = turned (a || (occurs_any x.0 fs || false)) (a || occurs_any x.0 fs) (Contains h.keys x) (alone a (occurs_any x.0 fs)) (keys_with scope part rest terms [] n h x a false (occurs_any x.0 fs) own (none_inside x) (rest_needed o fs rest seen x))

  two_inside : (x : VarId) (m n : ℕ) (a b : Bool) → Contains (params_at table m) x ↔ (a ≡ true) → Contains (params_at table n) x ↔ (b ≡ true) → ((k : ℕ) × Contains (m ∷ n ∷ []) k × Contains (params_at table k) x) ↔ ((a || b) ≡ true)
  two_inside x m n a b f s = (
    λ h. ⊎_elim (λ q. left_true a b (f.0 (subst (λ k. Contains (params_at table k) x) (sym q) h.2)))
        (λ j. ⊎_elim (λ q. right_true a b (s.0 (subst (λ k. Contains (params_at table k) x) (sym q) h.2))) (λ l. absurd (contains_none h.0 l)) (contains_cons n h.0 [] j))
        (contains_cons m h.0 (n ∷ []) h.1),
    λ q. ⊎_elim (λ j. (m, contains_head m (n ∷ []), f.1 j)) (λ j. (n, contains_tail m n (n ∷ []) (contains_head n []), s.1 j)) (either_true a b q),
  )

  one_inside : (x : VarId) (m : ℕ) (a : Bool) → Contains (params_at table m) x ↔ (a ≡ true) → ((k : ℕ) × Contains (m ∷ []) k × Contains (params_at table k) x) ↔ (a ≡ true)
  one_inside x m a f = (
    λ h. ⊎_elim (λ q. f.0 (subst (λ k. Contains (params_at table k) x) (sym q) h.2)) (λ l. absurd (contains_none h.0 l)) (contains_cons m h.0 [] h.1),
    λ q. (m, contains_head m [], f.1 q),
  )

  more_inside : (x : VarId) (m : ℕ) (ns : List ℕ) (a b : Bool) → Contains (params_at table m) x ↔ (a ≡ true) → ((k : ℕ) × Contains ns k × Contains (params_at table k) x) ↔ (b ≡ true) → ((k : ℕ) × Contains (m ∷ ns) k × Contains (params_at table k) x) ↔ ((a || b) ≡ true)
  more_inside x m ns a b f s = (
    λ h. ⊎_elim (λ q. left_true a b (f.0 (subst (λ k. Contains (params_at table k) x) (sym q) h.2))) (λ j. right_true a b (s.0 (h.0, j, h.2))) (contains_cons m h.0 ns h.1),
    λ q. ⊎_elim (λ j. (m, contains_head m ns, f.1 j)) (λ j. let r = s.1 j in (r.0, contains_tail m r.0 ns r.1, r.2)) (either_true a b q),
  )

  in_here : (scope : List VarId) (b : Body) (fs : List Factor) (n : ℕ) (x : VarId) → IsExact scope b fs n → Contains scope x → Contains (params_at table n) x ↔ IsFreeAt b fs x
  in_here scope b fs n x h i = (λ j. ((h x).0 j).1, λ q. (h x).1 (i, q))

  -- what occurs free at a place is in scope
  closed_here : (scope : List VarId) (xs : List Bound) (b : Body) (fs : List Factor) → xs ≡ map (bound_at e) scope → IsScoped g t xs b fs → (x : VarId) → IsFreeAt b fs x → Contains scope x
  closed_here scope xs b fs own h x q = in_scope e scope x (subst (λ l. Contains (variables l) x.0) own (⊎_elim (λ k. sorted_closed g t (variables xs) b h.body x.0 k) (λ k. any_closed fs h.others k) (either_true (occurs_free x.0 b) (occurs_any x.0 fs) q)))
    where
      any_closed : (hs : List Factor) → ((f : Factor) → Contains hs f → IsSortedBody g t (variables xs) f.body) → occurs_any x.0 hs ≡ true → Contains (variables xs) x.0
      any_closed [] s k = cc
      any_closed (f ∷ hs) s k = ⊎_elim (λ j. sorted_closed g t (variables xs) f.body (s f (contains_head f hs)) x.0 j) (λ j. any_closed hs (λ z i. s z (contains_tail f z hs i)) j) (either_true (occurs_free x.0 f.body) (occurs_any x.0 hs) k)

  -- a rest that was seen
  rest_seen : (scope : List VarId) (o : ℕ) (xs : List Bound) (path : Path) (s : Bool) (q : Body) (fs : List Factor) (m a b : ℕ) → xs ≡ map (bound_at e) scope → IsScoped g t xs q fs → Seen scope o xs (path ++ s ∷ []) q fs m a b → RestSeen o (factors (path ++ s ∷ []) q ++ fs) (Some m)
  rest_seen scope o xs path s q fs m a b own scoped h =
      let v = first_view o xs (path ++ s ∷ []) q fs in
      let k = first_owner o xs (path ++ s ∷ []) q fs in (
        v,
        h.at,
        k.0,
        k.1,
        λ none. let r = first_deeper o xs (path ++ s ∷ []) q fs in longer_than_none path s r.0 (sym r.1 ∙ none),
        begins_with_first o xs (path ++ s ∷ []) q fs,
        λ x. let same : (occurs_free x.0 q || occurs_any x.0 fs) ≡ occurs_any x.0 (factors (path ++ s ∷ []) q ++ fs) = ap (λ z. z || occurs_any x.0 fs) (sym (any_factors x.0 (path ++ s ∷ []) q)) ∙ sym (any_both x.0 (factors (path ++ s ∷ []) q) fs) in (
          λ i. sym same ∙ ((h.exact x).0 i).1,
          λ r. (h.exact x).1 (closed_here scope xs q fs own scoped x (same ∙ r), same ∙ r),
        ),
      )

  mutual
    pub seen : {scope : List VarId} {b : Body} {rest : Option ℕ} {a c : ℕ} {rs ss : List ProcId} {n : ℕ} (r : Reads e ts reached table scope b rest a c rs ss n) (o : ℕ) (xs : List Bound) (path : Path) (fs : List Factor) → xs ≡ map (bound_at e) scope → IsAt t (view_at o xs path b fs) → IsScoped g t xs b fs → RestSeen o fs rest
        → IsSlice views a (views_of r o xs path fs) → Seen scope o xs path b fs n a c
    seen (reads_delta {scope = scope} {rest = rest} {n = n} h) o xs path fs own is scoped behind slice =
        let v = view_at o xs path written_delta fs in
        one_place scope v n refl (slice_one views n v slice) refl (seen_place scope v delta rest [] [] n refl own h (slice_one views n v slice) is scoped behind refl refl (λ x i. keys_alone scope delta rest [] n h o fs behind x false (no_terms x)))
    seen (reads_nothing {scope = scope} {rest = rest} {n = n} h) o xs path fs own is scoped behind slice =
        let v = view_at o xs path written_delta fs in
        one_place scope v n refl (slice_one views n v slice) refl (seen_place scope v (choice []) rest [] [] n refl own h (slice_one views n v slice) is scoped behind refl refl (λ x i. keys_alone scope (choice []) rest [] n h o fs behind x false (no_terms x)))
    seen (reads_act {scope = scope} {rest = rest} {n = n} l h) o xs path fs own is scoped behind slice =
        let v = view_at o xs path (written_act (label_of e l)) fs in
        one_place scope v n refl (slice_one views n v slice) refl (seen_place scope v (act l) rest (label_terms l) [] n refl own h (slice_one views n v slice) is scoped behind refl refl
        (λ x i. keys_alone scope (act l) rest (label_terms l) n h o fs behind x (occurs_in_label x.0 (label_of e l)) (label_occurs sig e ts m l (actions_in l h.within) x)))
    seen (reads_call {scope = scope} {rest = rest} {n = n} k z ids at only h) o xs path fs own is scoped behind slice =
        let v = view_at o xs path (written_call z.0 (map (term_at e) ids)) fs in
        one_place scope v n refl (slice_one views n v slice) refl (seen_place scope v (call k ids) rest ids [] n refl own h (slice_one views n v slice) is scoped behind refl (z, at, refl)
        (λ x i. keys_alone scope (call k ids) rest ids n h o fs behind x (occurs_in x.0 (terms_of (map (term_at e) ids))) (terms_occur sig e ts m ids h.within x)))
    seen (reads_seq {scope = scope} {p = p} {q = q} {a = a} {b = b} {c = c} {m = k} {n = n} r s) o xs path fs own is scoped behind slice =
        let one = views_of r o xs (path ++ true ∷ []) fs in
        let hs = factors (path ++ true ∷ []) q ++ fs in
        let two = views_of s o xs (path ++ false ∷ []) hs in
        let later = with_part g t xs (written_seq p q) q fs scoped.body.1 scoped.binds.1 scoped in
        let second = seen r o xs (path ++ true ∷ []) fs own (seq_second t o xs path p q fs is) later behind (slice_front views a one two slice) in
        let first = seen s o xs (path ++ false ∷ []) hs own (seq_first t o xs path p q fs is) (with_more g t xs p q (path ++ true ∷ []) fs scoped) (rest_seen scope o xs path true q fs k a b own later second) (slice_behind views a b one two (views_long r o xs (path ++ true ∷ []) fs) slice) in
        record {
          at = first.at;
          exact = λ x. let same : (occurs_free x.0 p || occurs_any x.0 hs) ≡ ((occurs_free x.0 p || occurs_free x.0 q) || occurs_any x.0 fs) =
              ap (λ z. occurs_free x.0 p || z) (any_both x.0 (factors (path ++ true ∷ []) q) fs ∙ ap (λ z. z || occurs_any x.0 fs) (any_factors x.0 (path ++ true ∷ []) q)) ∙ sym (or_assoc (occurs_free x.0 p) (occurs_free x.0 q) (occurs_any x.0 fs)) in (
                λ i. let h = (first.exact x).0 i in (h.0, sym same ∙ h.1),
                λ h. (first.exact x).1 (h.0, same ∙ h.1),
              );
          all = two_parts a b c second.all first.all;
        }
    seen (reads_cond {scope = scope} {p = p} {q = q} {rest = rest} {a = a} {b = b} {c = c} {m = k} {n = l} id r s h) o xs path fs own is scoped behind slice =
        let v = view_at o xs path (written_cond (term_at e id) p q) fs in
        let one = views_of r o xs (path ++ false ∷ []) fs in
        let two = views_of s o xs (path ++ true ∷ []) fs in
        let first = seen r o xs (path ++ false ∷ []) fs own (cond_first t o xs path (term_at e id) p q fs is) (with_part g t xs (written_cond (term_at e id) p q) p fs scoped.body.2 scoped.binds.0 scoped) behind (slice_front views a one (two ++ v ∷ []) slice) in
        let others = slice_behind views a b one (two ++ v ∷ []) (views_long r o xs (path ++ false ∷ []) fs) slice in
        let second = seen s o xs (path ++ true ∷ []) fs own (cond_second t o xs path (term_at e id) p q fs is) (with_part g t xs (written_cond (term_at e id) p q) q fs scoped.body.3 scoped.binds.1 scoped) behind (slice_front views b two (v ∷ []) others) in
        let at = slice_one views c v (slice_behind views b c two (v ∷ []) (views_long s o xs (path ++ true ∷ []) fs) others) in
        let here = seen_place scope v (cond id k l) rest (id ∷ []) (k ∷ l ∷ []) c refl own h at is scoped behind refl (p, q, refl, first.at, second.at)
        (λ x i. turned (occurs x.0 (term_at e id) || (occurs_any x.0 fs || ((occurs_free x.0 p || occurs_any x.0 fs) || (occurs_free x.0 q || occurs_any x.0 fs)))) ((occurs x.0 (term_at e id) || (occurs_free x.0 p || occurs_free x.0 q)) || occurs_any x.0 fs) (Contains h.keys x)
        (branches (occurs x.0 (term_at e id)) (occurs_free x.0 p) (occurs_free x.0 q) (occurs_any x.0 fs))
        (keys_with scope (cond id k l) rest (id ∷ []) (k ∷ l ∷ []) c h x (occurs x.0 (term_at e id)) ((occurs_free x.0 p || occurs_any x.0 fs) || (occurs_free x.0 q || occurs_any x.0 fs)) (occurs_any x.0 fs) (term_occurs sig e ts m id (All-head (IsIn ts) id [] h.within) x)
        (two_inside x k l (occurs_free x.0 p || occurs_any x.0 fs) (occurs_free x.0 q || occurs_any x.0 fs) (in_here scope p fs k x first.exact i) (in_here scope q fs l x second.exact i)) (rest_needed o fs rest behind x))) in
        record { at = at; exact = here.1; all = two_parts a b (suc c) first.all (two_parts b c (suc c) second.all (last_part c here.0)) }
    seen (reads_sum {scope = scope} {p = p} {rest = rest} {a = a} {b = b} {m = k} y r h) o xs path fs own is scoped behind slice =
        let v = view_at o xs path (written_sum (bound_at e y) p) fs in
        let ys = xs ++ bound_at e y ∷ [] in
        let one = views_of r o ys (path ++ false ∷ []) fs in
        let wider : ys ≡ map (bound_at e) (scope ++ y ∷ []) = ap (λ l. l ++ bound_at e y ∷ []) own ∙ sym (map-append (bound_at e) scope (y ∷ [])) in
        let inside = seen r o ys (path ++ false ∷ []) fs wider (sum_inside t o xs path (bound_at e y) p fs is) (with_bound g t xs (bound_at e y) p fs scoped) behind (slice_front views a one (v ∷ []) slice) in
        let at = slice_one views b v (slice_behind views a b one (v ∷ []) (views_long r o ys (path ++ false ∷ []) fs) slice) in
        let other : (x : VarId) → Contains scope x → (y.0 == x.0) ≡ false = λ x i. ⊎_elim (λ q. absurd (scoped.binds.0 (subst (Contains (variables xs)) (sym q.1) (subst (λ l. Contains (variables l) x.0) (sym own) (to_numbers e scope x i))))) (λ q. q.0) (eqb_tells y.0 x.0) in
        let here = seen_place scope v (sum y k) rest [] (k ∷ []) b refl own h at is scoped behind refl (p, refl, scoped.binds.0, inside.at)
        (λ x i. turned (occurs_any x.0 fs || (occurs_free x.0 p || occurs_any x.0 fs)) ((not (y.0 == x.0) && occurs_free x.0 p) || occurs_any x.0 fs) (Contains h.keys x)
        (summed (occurs_free x.0 p) (occurs_any x.0 fs) ∙ ap (λ z. (not z && occurs_free x.0 p) || occurs_any x.0 fs) (sym (other x i)))
        (keys_with scope (sum y k) rest [] (k ∷ []) b h x false (occurs_free x.0 p || occurs_any x.0 fs) (occurs_any x.0 fs) (no_terms x) (one_inside x k (occurs_free x.0 p || occurs_any x.0 fs) (in_here (scope ++ y ∷ []) p fs k x inside.exact (Contains-append_left scope (y ∷ []) x i))) (rest_needed o fs rest behind x))) in
        record { at = at; exact = here.1; all = two_parts a b (suc b) inside.all (last_part b here.0) }
    seen (reads_choice {scope = scope} {p = p} {q = q} {rest = rest} {a = a} {b = b} {c = c} {n = k} {ns = ns} r s h) o xs path fs own is scoped behind slice =
        let v = view_at o xs path (written_choice p q) fs in
        let one = views_of r o xs (path ++ false ∷ []) fs in
        let two = views_of_each s o xs (path ++ true ∷ []) fs in
        let first = seen r o xs (path ++ false ∷ []) fs own (choice_first t o xs path p q fs is) (with_part g t xs (written_choice p q) p fs scoped.body.0 scoped.binds.0 scoped) behind (slice_front views a one (two ++ v ∷ []) slice) in
        let others = slice_behind views a b one (two ++ v ∷ []) (views_long r o xs (path ++ false ∷ []) fs) slice in
        let second = seen_each s o xs (path ++ true ∷ []) fs own (choice_second t o xs path p q fs is) (with_part g t xs (written_choice p q) q fs scoped.body.1 scoped.binds.1 scoped) behind (slice_front views b two (v ∷ []) others) in
        let at = slice_one views c v (slice_behind views b c two (v ∷ []) (each_long s o xs (path ++ true ∷ []) fs) others) in
        let here = seen_place scope v (choice (k ∷ ns)) rest [] (k ∷ ns) c refl own h at is scoped behind refl (p, q, refl, first.at, second.at)
        (λ x i. turned (occurs_any x.0 fs || ((occurs_free x.0 p || occurs_any x.0 fs) || (occurs_free x.0 q || occurs_any x.0 fs))) ((occurs_free x.0 p || occurs_free x.0 q) || occurs_any x.0 fs) (Contains h.keys x)
        (branches false (occurs_free x.0 p) (occurs_free x.0 q) (occurs_any x.0 fs))
        (keys_with scope (choice (k ∷ ns)) rest [] (k ∷ ns) c h x false ((occurs_free x.0 p || occurs_any x.0 fs) || (occurs_free x.0 q || occurs_any x.0 fs)) (occurs_any x.0 fs) (no_terms x)
        (more_inside x k ns (occurs_free x.0 p || occurs_any x.0 fs) (occurs_free x.0 q || occurs_any x.0 fs) (in_here scope p fs k x first.exact i) (second.exact x i)) (rest_needed o fs rest behind x))) in
        record { at = at; exact = here.1; all = two_parts a b (suc c) first.all (two_parts b c (suc c) second.all (last_part c here.0)) }

    pub seen_each : {scope : List VarId} {b : Body} {rest : Option ℕ} {a c : ℕ} {rs ss : List ProcId} {ns : List ℕ} (r : ReadsEach e ts reached table scope b rest a c rs ss ns) (o : ℕ) (xs : List Bound) (path : Path) (fs : List Factor) → xs ≡ map (bound_at e) scope → IsAt t (view_at o xs path b fs) → IsScoped g t xs b fs → RestSeen o fs rest
        → IsSlice views a (views_of_each r o xs path fs) → SeenEach scope o xs path b fs ns a c
    seen_each (reads_last {scope = scope} {p = p} {n = n} r) o xs path fs own is scoped behind slice =
        let h = seen r o xs path fs own is scoped behind slice in
        record { at = last_at h.at; exact = λ x i. one_inside x n (occurs_free x.0 p || occurs_any x.0 fs) (in_here scope p fs n x h.exact i); all = h.all }
    seen_each (reads_more {scope = scope} {p = p} {q = q} {a = a} {b = b} {c = c} {n = n} {ns = ns} r s) o xs path fs own is scoped behind slice =
        let one = views_of r o xs (path ++ false ∷ []) fs in
        let two = views_of_each s o xs (path ++ true ∷ []) fs in
        let first = seen r o xs (path ++ false ∷ []) fs own (choice_first t o xs path p q fs is) (with_part g t xs (written_choice p q) p fs scoped.body.0 scoped.binds.0 scoped) behind (slice_front views a one two slice) in
        let second = seen_each s o xs (path ++ true ∷ []) fs own (choice_second t o xs path p q fs is) (with_part g t xs (written_choice p q) q fs scoped.body.1 scoped.binds.1 scoped) behind (slice_behind views a b one two (views_long r o xs (path ++ false ∷ []) fs) slice) in
        record {
          at = more_at first.at second.at;
          exact = λ x i. turned ((occurs_free x.0 p || occurs_any x.0 fs) || (occurs_free x.0 q || occurs_any x.0 fs)) ((occurs_free x.0 p || occurs_free x.0 q) || occurs_any x.0 fs) ((k : ℕ) × Contains (n ∷ ns) k × Contains (params_at table k) x) (either_way (occurs_free x.0 p) (occurs_free x.0 q) (occurs_any x.0 fs))
              (more_inside x n ns (occurs_free x.0 p || occurs_any x.0 fs) (occurs_free x.0 q || occurs_any x.0 fs) (in_here scope p fs n x first.exact i) (second.exact x i));
          all = two_parts a b c first.all second.all;
        }
