-- Constant parameters are dropped, with their initial terms put in for them.
use Rattle.std.proofs.Common.{◌≡◌, ℕ, suc, List, [], ◌∷◌, ◌++◌, map, length, refl, sym, ap, ◌∙◌, subst, arith, cond, ⊎_elim, Option, Some, None}
use Rattle.std.specs.Prelude.{Contains, slice_get, option_map}
use Rattle.std.proofs.lemmas.List.{length-map}
use Rattle.std.proofs.lemmas.Bool.Decides.{eqb_tells}
use Rattle.std.proofs.lemmas.List.Elements.{Contains-append_cases, Contains-append_left, Contains-append_right}
use Rattle.data_theory.specs.Terms.{Sort, Term, Terms, variable, numeral, unknown, application, none, more, put}
use Rattle.data_theory.specs.Declarations.{Data, Declares, argument_sorts, HasSort, HaveSorts}
use Rattle.data_theory.specs.Provable.{reflexive, symmetric}
use Rattle.data_theory.specs.Environments.{Environment, term_in, bound_variables, terms_of, IsOver, AreOver, AreDistinct}
use Rattle.data_theory.proofs.EnvironmentLemmas.{contains_nothing, contains_cases as number_cases, contains_first as number_first, contains_later as number_later, putting_in_twice, putting_in_keeps_sorts, closed_terms_stay, closed_terms_fit}
use Rattle.data_theory.proofs.EqualityLemmas.{put_equal}
use Rattle.process_terms.specs.Theories.{Theory, Equal, Equals, no_terms, more_terms, AreOfSorts}
use Rattle.process_terms.specs.Labels.{Label, put_label, equal_args, AgreeInOrder, both_silent, next_agree}
use Rattle.process_terms.specs.Processes.{Bound}
use Rattle.bisim_laws.specs.LinearProcesses.{Summand, Linear, IsLinear, IsWellSorted, variables, sorts, reading, put_next, NextIsOver, no_next, next_over, IsSummand, NextIsSorted, no_next_to_sort, next_sorted, SummandIsSorted, AreDeclared}
use Rattle.bisim_laws.specs.BaseStates.{Fate, kept, constant, not_needed}
use Rattle.bisim_laws.proofs.Firing.{contains_first, contains_later}
use Rattle.lps_core.proofs.OverVariables.{put_over, puts_over, label_over, ArePutOver}
use Rattle.lps_core.proofs.SortedTerms.{label_sorted, puts_sorted, one_sort, columns_long, HaveTheirSorts}
use Rattle.lps_core.proofs.Members.{contains_map}
use Rattle.lps_parelm.specs.Keeping.{keep}
use Rattle.lps_parelm.proofs.KeptPlaces.{keep_map, keep_among, keep_variables, keep_sorts, keep_sorted, keep_distinct, keep_long}
use Rattle.lps_parelm.proofs.WhatIsLeft.{each_dropped}
use Rattle.lps_constelm.specs.Constants.{AreInitial, put_in, putting, IsConstantSet, put_summand, without_constants}
use Rattle.lps_parelm.proofs.Drops.{Stay, NextDropped, neither_goes_on, both_go_on, Drops}

-- the terms at the places of the constant parameters become those that are put in, as the same trees
abbrev pub AllStay : (ℕ → Term) → List Fate → List Term → Type 0
AllStay r [] ts = Unit {0}
AllStay r (f ∷ fates) [] = Unit {0}
AllStay r (kept ∷ fates) (t ∷ ts) = AllStay r fates ts
AllStay r (constant c ∷ fates) (t ∷ ts) = (put r t ≡ c) × AllStay r fates ts
AllStay r (not_needed ∷ fates) (t ∷ ts) = AllStay r fates ts

abbrev pub NextStays : (ℕ → Term) → List Fate → Option (List Term) → Type 0
NextStays r fates None = Unit {0}
NextStays r fates (Some ts) = AllStay r fates ts

-- the kept terms, with what is put in
abbrev pub put_kept : Environment → List Fate → List Term → List Term
put_kept r fates ts = map (put (term_in r)) (keep fates ts)

-- ---- closed terms
mutual
  pub closed_over : (g : Data) (xs : List ℕ) (t : Term) (s : Sort) → HasSort g [] t s → IsOver xs t
  closed_over g xs (variable v) s h = absurd h
  closed_over g xs (numeral a z) s h = tt
  closed_over g xs (unknown d k) s h = tt
  closed_over g xs (application f ts) s h = closed_all_over g xs ts (argument_sorts g f) h.1

  closed_all_over : (g : Data) (xs : List ℕ) (ts : Terms) (ss : List Sort) → HaveSorts g [] ts ss → AreOver xs ts
  closed_all_over g xs none ss h = tt
  closed_all_over g xs (more t ts) [] h = absurd h
  closed_all_over g xs (more t ts) (s ∷ ss) h = (closed_over g xs t s h.0, closed_all_over g xs ts ss h.1)

-- the constant ones are closed terms of the sorts at their places
abbrev pub Closed : Data → List Fate → List Sort → Type 0
Closed g [] ss = Unit {0}
Closed g (f ∷ fates) [] = ⊥
Closed g (kept ∷ fates) (s ∷ ss) = Closed g fates ss
Closed g (constant c ∷ fates) (s ∷ ss) = HasSort g [] c s × Closed g fates ss
Closed g (not_needed ∷ fates) (s ∷ ss) = ⊥

pub initial_closed : (g : Data) (fates : List Fate) (init : List Term) (ss : List Sort) → AreInitial fates init → HaveSorts g [] (terms_of init) ss → Closed g fates ss
initial_closed g [] init ss i h = tt
initial_closed g (f ∷ fates) [] ss i h = absurd i
initial_closed g (f ∷ fates) (t ∷ ts) [] i h = absurd h
initial_closed g (kept ∷ fates) (t ∷ ts) (s ∷ ss) i h = initial_closed g fates ts ss i h.1
initial_closed g (constant c ∷ fates) (t ∷ ts) (s ∷ ss) i h = (subst (λ z. HasSort g [] z s) (sym i.0) h.0, initial_closed g fates ts ss i.1 h.1)
initial_closed g (not_needed ∷ fates) (t ∷ ts) (s ∷ ss) i h = absurd i

-- ---- what is put in
pub unbound : (fates : List Fate) (xs : List ℕ) (v : ℕ) → (Contains xs v → ⊥) → term_in (put_in fates xs) v ≡ variable v
unbound [] xs v n = refl
unbound (f ∷ fates) [] v n = refl
unbound (kept ∷ fates) (x ∷ xs) v n = unbound fates xs v (λ i. n (number_later x v xs i))
unbound (constant c ∷ fates) (x ∷ xs) v n = ⊎_elim
    (λ k. absurd (n (subst (λ z. Contains (x ∷ xs) z) k.1 (number_first x xs))))
    (λ k. ap (λ b. cond b c (term_in (put_in fates xs) v)) k.0 ∙ unbound fates xs v (λ i. n (number_later x v xs i)))
    (eqb_tells x v)
unbound (not_needed ∷ fates) (x ∷ xs) v n = unbound fates xs v (λ i. n (number_later x v xs i))

equal_in : (th : Theory) (fates : List Fate) (xs : List Bound) (e : Environment) → Closed th.declared fates (sorts xs) → Stay th fates (reading e (variables xs)) → (v : ℕ) → Equal th (put (term_in e) (term_in (put_in fates (variables xs)) v)) (term_in e v)
equal_in th [] xs e c s v = reflexive
equal_in th (f ∷ fates) [] e c s v = absurd c
equal_in th (kept ∷ fates) (x ∷ xs) e c s v = equal_in th fates xs e c s v
equal_in th (constant t ∷ fates) (x ∷ xs) e c s v = ⊎_elim
    (λ k. subst (λ b. Equal th (put (term_in e) (cond b t (term_in (put_in fates (variables xs)) v))) (term_in e v)) (sym k.0)
    (subst (λ z. Equal th z (term_in e v)) (sym (closed_terms_stay th.declared (term_in e) t x.sort c.0)) (subst (λ z. Equal th t (term_in e z)) k.1 (symmetric s.0))))
    (λ k. subst (λ b. Equal th (put (term_in e) (cond b t (term_in (put_in fates (variables xs)) v))) (term_in e v)) (sym k.0) (equal_in th fates xs e c.1 s.1 v))
    (eqb_tells x.var v)
equal_in th (not_needed ∷ fates) (x ∷ xs) e c s v = absurd c

module _ (th : Theory) (r e : Environment) (h : (v : ℕ) → Equal th (put (term_in e) (term_in r v)) (term_in e v)) where
  pub term_equal_in : (t : Term) → Equal th (put (term_in e) t) (put (term_in e) (put (term_in r) t))
  term_equal_in t = symmetric (subst (λ z. Equal th z (put (term_in e) t)) (sym (putting_in_twice (term_in r) (term_in e) t)) (put_equal th.declared th.equations (λ v. put (term_in e) (term_in r v)) (term_in e) h t))

  pub terms_equal_in : (ts : List Term) → Equals th (map (put (term_in e)) ts) (map (put (term_in e)) (map (put (term_in r)) ts))
  terms_equal_in [] = no_terms
  terms_equal_in (t ∷ ts) = more_terms (term_equal_in t) (terms_equal_in ts)

  pub label_equal_in : (m : Label) → AgreeInOrder th (put_label e m) (put_label e (put_label r m))
  label_equal_in [] = both_silent
  label_equal_in (a ∷ m) = next_agree (equal_args (terms_equal_in a.args)) (label_equal_in m)

  stay_in : (fates : List Fate) (ts : List Term) (ss : List Sort) → Closed th.declared fates ss → length ts ≡ length fates → AllStay (term_in r) fates ts → Stay th fates (map (put (term_in e)) ts)
  stay_in [] [] ss c l a = tt
  stay_in [] (t ∷ ts) ss c l a = absurd (omega (arith, l))
  stay_in (f ∷ fates) [] ss c l a = absurd (omega (arith, l))
  stay_in (f ∷ fates) (t ∷ ts) [] c l a = absurd c
  stay_in (kept ∷ fates) (t ∷ ts) (s ∷ ss) c l a = stay_in fates ts ss c (omega (arith, l)) a
  stay_in (constant d ∷ fates) (t ∷ ts) (s ∷ ss) c l a =
      (subst (λ z. Equal th (put (term_in e) t) z) (ap (put (term_in e)) a.0 ∙ closed_terms_stay th.declared (term_in e) d s c.0) (term_equal_in t), stay_in fates ts ss c.1 (omega (arith, l)) a.1)
  stay_in (not_needed ∷ fates) (t ∷ ts) (s ∷ ss) c l a = absurd c

  next_in : (fates : List Fate) (ps : List Bound) {xs : List ℕ} → Closed th.declared fates (sorts ps) → length ps ≡ length fates → (next : Option (List Term)) → NextIsOver xs ps next → NextStays (term_in r) fates next → NextDropped th fates (put_next e next) (put_next e (option_map (put_kept r fates) next))
  next_in fates ps c l _ no_next a = neither_goes_on
  next_in fates ps c l _ (next_over {ts = ts} i n) a = both_go_on (stay_in fates ts (sorts ps) c (n ∙ l) a)
      (subst (λ z. Equals th z (map (put (term_in e)) (map (put (term_in r)) (keep fates ts)))) (sym (keep_map (put (term_in e)) fates ts)) (terms_equal_in (keep fates ts)))

pub initial_long : (fates : List Fate) (init : List Term) → AreInitial fates init → length init ≡ length fates
initial_long [] [] i = refl
initial_long [] (t ∷ ts) i = absurd i
initial_long (f ∷ fates) [] i = absurd i
initial_long (kept ∷ fates) (t ∷ ts) i = ap suc (initial_long fates ts i)
initial_long (constant c ∷ fates) (t ∷ ts) i = ap suc (initial_long fates ts i.1)
initial_long (not_needed ∷ fates) (t ∷ ts) i = absurd i

-- ---- what stays, place by place
same_term : {t u : Term} → Some t ≡ Some u → t ≡ u
same_term e = cc

pub bound_is_variable : (fates : List Fate) (xs : List ℕ) (v : ℕ) → Contains (bound_variables (put_in fates xs)) v → Contains xs v
bound_is_variable [] xs v i = absurd (contains_nothing v i)
bound_is_variable (f ∷ fates) [] v i = absurd (contains_nothing v i)
bound_is_variable (kept ∷ fates) (x ∷ xs) v i = number_later x v xs (bound_is_variable fates xs v i)
bound_is_variable (constant c ∷ fates) (x ∷ xs) v i = ⊎_elim (λ q. subst (λ z. Contains (x ∷ xs) z) q (number_first x xs)) (λ j. number_later x v xs (bound_is_variable fates xs v j)) (number_cases x v (bound_variables (put_in fates xs)) i)
bound_is_variable (not_needed ∷ fates) (x ∷ xs) v i = number_later x v xs (bound_is_variable fates xs v i)

-- a variable that is bound behind another one reads the same
pub read_first : (x : ℕ) (c : Term) (e : Environment) → term_in (record { var = x; term = c } ∷ e) x ≡ c
read_first x c e = ⊎_elim (λ k. ap (λ b. cond b c (term_in e x)) k.0) (λ k. absurd (k.1 refl)) (eqb_tells x x)

pub read_later : (x v : ℕ) (c : Term) (e : Environment) → (x ≡ v → ⊥) → term_in (record { var = x; term = c } ∷ e) v ≡ term_in e v
read_later x v c e n = ⊎_elim (λ k. absurd (n k.1)) (λ k. ap (λ b. cond b c (term_in e v)) k.0) (eqb_tells x v)

pub stay_by_places : (r : ℕ → Term) (fates : List Fate) (xs : List ℕ) (ts : List Term) → AreDistinct xs → length ts ≡ length xs
    → ((k v : ℕ) (t : Term) → slice_get xs k ≡ Some v → slice_get ts k ≡ Some t → Contains (bound_variables (put_in fates xs)) v → put r t ≡ term_in (put_in fates xs) v) → AllStay r fates ts
stay_by_places r [] xs ts d l h = tt
stay_by_places r (f ∷ fates) xs [] d l h = tt
stay_by_places r (f ∷ fates) [] (t ∷ ts) d l h = absurd (omega (arith, l))
stay_by_places r (kept ∷ fates) (x ∷ xs) (t ∷ ts) d l h = stay_by_places r fates xs ts d.1 (omega (arith, l)) (λ k v u e q i. h (suc k) v u e q i)
stay_by_places r (constant c ∷ fates) (x ∷ xs) (t ∷ ts) d l h = (
  h 0 x t refl refl (number_first x (bound_variables (put_in fates xs))) ∙ read_first x c (put_in fates xs),
  stay_by_places r fates xs ts d.1 (omega (arith, l)) (λ k v u e q i. h (suc k) v u e q (number_later x v (bound_variables (put_in fates xs)) i) ∙ read_later x v c (put_in fates xs) (λ s. d.0 (subst (λ z. Contains xs z) (sym s) (bound_is_variable fates xs v i)))),
)
stay_by_places r (not_needed ∷ fates) (x ∷ xs) (t ∷ ts) d l h = stay_by_places r fates xs ts d.1 (omega (arith, l)) (λ k v u e q i. h (suc k) v u e q i)

pub next_stays : (l : Linear) (init : List Term) (fates : List Fate) → IsLinear l → IsConstantSet l init fates → (s : Summand) → Contains l.summands s → {xs : List ℕ} (next : Option (List Term)) → s.next ≡ next → NextIsOver xs l.params next → NextStays (term_in (putting fates l)) fates next
next_stays l init fates is c s i _ e no_next = tt
next_stays l init fates is c s i _ e (next_over {ts = ts} o n) =
    stay_by_places (term_in (putting fates l)) fates (variables l.params) ts is.distinct (n ∙ sym (length-map l.params (λ (x : Bound). x.var)))
    (λ k v t p q j. c.stays v t j (record { place = k; param = p; summand = s; among = i; terms = ts; next = e; is = q }))

pub constants_drop : (th : Theory) (fates : List Fate) (l : Linear) (init : List Term) → IsLinear l → AreOfSorts th (sorts l.params) init → IsConstantSet l init fates → Drops th fates l (without_constants fates l)
constants_drop th fates l init is a c =
    let r = put_in fates (variables l.params) in
    let closed = initial_closed th.declared fates init (sorts l.params) c.initial a in
    let long : length l.params ≡ length fates = sym (columns_long th.declared [] init l.params a) ∙ initial_long fates init c.initial in
    record {
      params = refl;
      summands = each_dropped {l = l} (put_summand r fates) l.summands (λ s i. record {
        sums = refl;
        condition = λ e h. term_equal_in th r e (equal_in th fates l.params e closed h.stay) s.condition;
        label = λ e h. label_equal_in th r e (equal_in th fates l.params e closed h.stay) s.label;
        next = λ e h. next_in th r e (equal_in th fates l.params e closed h.stay) fates l.params closed long s.next (is.summands s i).next (next_stays l init fates is c s i s.next refl (is.summands s i).next);
      });
    }

-- ---- the shape
over_in : (g : Data) (fates : List Fate) (xs : List Bound) (ys : List ℕ) (v : ℕ) → Closed g fates (sorts xs) → length xs ≡ length fates → AreDistinct (variables xs) → ((u : ℕ) → Contains (keep fates (variables xs)) u → Contains ys u) → Contains (variables xs) v → IsOver ys (term_in (put_in fates (variables xs)) v)
over_in g [] [] ys v c l d w i = absurd (contains_nothing v i)
over_in g [] (x ∷ xs) ys v c l d w i = absurd (omega (arith, l))
over_in g (f ∷ fates) [] ys v c l d w i = absurd (contains_nothing v i)
over_in g (kept ∷ fates) (x ∷ xs) ys v c l d w i = ⊎_elim
    (λ q. subst (λ z. IsOver ys (term_in (put_in fates (variables xs)) z)) q (subst (λ z. IsOver ys z) (sym (unbound fates (variables xs) x.var d.0)) (w x.var (number_first x.var (keep fates (variables xs))))))
    (λ j. over_in g fates xs ys v c (omega (arith, l)) d.1 (λ u k. w u (number_later x.var u (keep fates (variables xs)) k)) j)
    (number_cases x.var v (variables xs) i)
over_in g (constant t ∷ fates) (x ∷ xs) ys v c l d w i = ⊎_elim
    (λ k. subst (λ b. IsOver ys (cond b t (term_in (put_in fates (variables xs)) v))) (sym k.0) (closed_over g ys t x.sort c.0))
    (λ k. subst (λ b. IsOver ys (cond b t (term_in (put_in fates (variables xs)) v))) (sym k.0)
    (⊎_elim (λ q. absurd (k.1 q)) (λ j. over_in g fates xs ys v c.1 (omega (arith, l)) d.1 w j) (number_cases x.var v (variables xs) i)))
    (eqb_tells x.var v)
over_in g (not_needed ∷ fates) (x ∷ xs) ys v c l d w i = absurd c

next_put_over : (r : Environment) (fates : List Fate) (ps : List Bound) (xs ys : List ℕ) → ArePutOver xs ys (term_in r) → (next : Option (List Term)) → NextIsOver xs ps next → NextIsOver ys (keep fates ps) (option_map (put_kept r fates) next)
next_put_over r fates ps xs ys h _ no_next = no_next
next_put_over r fates ps xs ys h _ (next_over {ts = ts} i l) = next_over (puts_over xs ys (term_in r) h (keep fates ts) (keep_over fates xs ts i)) (length-map (keep fates ts) (put (term_in r)) ∙ keep_long fates ts ps l)
  where
    keep_over : (fates : List Fate) (xs : List ℕ) (ts : List Term) → AreOver xs (terms_of ts) → AreOver xs (terms_of (keep fates ts))
    keep_over [] xs ts i = tt
    keep_over (f ∷ fates) xs [] i = tt
    keep_over (kept ∷ fates) xs (t ∷ ts) i = (i.0, keep_over fates xs ts i.1)
    keep_over (constant c ∷ fates) xs (t ∷ ts) i = keep_over fates xs ts i.1
    keep_over (not_needed ∷ fates) xs (t ∷ ts) i = keep_over fates xs ts i.1

pub constants_linear : (g : Data) (fates : List Fate) (l : Linear) (init : List Term) → IsLinear l → HaveSorts g [] (terms_of init) (sorts l.params) → AreInitial fates init → IsLinear (without_constants fates l)
constants_linear g fates l init is a c =
    let r = put_in fates (variables l.params) in
    let closed = initial_closed g fates init (sorts l.params) c a in
    let long : length l.params ≡ length fates = sym (columns_long g [] init l.params a) ∙ initial_long fates init c in
    record {
      distinct = subst AreDistinct (sym (keep_variables fates l.params)) (keep_distinct fates (variables l.params) is.distinct);
      summands = λ t i.
          let w = contains_map (put_summand r fates) l.summands t i in
          let s = w.0 in
          let f = is.summands s w.1.0 in
          let xs = variables s.sums ++ variables l.params in
          let ys = variables s.sums ++ variables (keep fates l.params) in
          let over : ArePutOver xs ys (term_in r) = λ v j. ⊎_elim
          (λ k. subst (λ z. IsOver ys z) (sym (unbound fates (variables l.params) v (f.apart v k))) (Contains-append_left (variables s.sums) (variables (keep fates l.params)) v k))
          (λ k. over_in g fates l.params ys v closed long is.distinct (λ u b. Contains-append_right (variables s.sums) (variables (keep fates l.params)) u (subst (λ z. Contains z u) (sym (keep_variables fates l.params)) b)) k)
          (Contains-append_cases (variables s.sums) (variables l.params) v j) in
          subst (λ z. IsSummand (keep fates l.params) z) (sym w.1.1) (record {
            condition = put_over xs ys (term_in r) over s.condition f.condition;
            label = label_over xs ys r over s.label f.label;
            next = next_put_over r fates l.params xs ys over s.next f.next;
            apart = λ v k b. f.apart v k (keep_among fates (variables l.params) v (subst (λ z. Contains z v) (keep_variables fates l.params) b));
            distinct = f.distinct;
          });
    }

-- ---- sorts
sorted_in : (g : Data) (vs : List Sort) (fates : List Fate) (xs : List Bound) → Closed g fates (sorts xs) → AreDeclared vs xs → HaveTheirSorts g vs vs (term_in (put_in fates (variables xs)))
sorted_in g vs [] xs c d v s h = h
sorted_in g vs (f ∷ fates) [] c d v s h = h
sorted_in g vs (kept ∷ fates) (x ∷ xs) c d v s h = sorted_in g vs fates xs c (λ y i. d y (contains_later x y xs i)) v s h
sorted_in g vs (constant t ∷ fates) (x ∷ xs) c d v s h = ⊎_elim
    (λ k. subst (λ b. HasSort g vs (cond b t (term_in (put_in fates (variables xs)) v)) s) (sym k.0)
    (subst (λ z. HasSort g vs t z) (one_sort vs v x.sort s (subst (λ z. Declares vs z x.sort) k.1 (d x (contains_first x xs))) h) (closed_terms_fit g vs t x.sort c.0)))
    (λ k. subst (λ b. HasSort g vs (cond b t (term_in (put_in fates (variables xs)) v)) s) (sym k.0) (sorted_in g vs fates xs c.1 (λ y i. d y (contains_later x y xs i)) v s h))
    (eqb_tells x.var v)
sorted_in g vs (not_needed ∷ fates) (x ∷ xs) c d v s h = absurd c

next_put_sorted : (g : Data) (vs ss : List Sort) (r : Environment) (fates : List Fate) → HaveTheirSorts g vs vs (term_in r) → (next : Option (List Term)) → NextIsSorted g vs ss next → NextIsSorted g vs (keep fates ss) (option_map (put_kept r fates) next)
next_put_sorted g vs ss r fates h _ no_next_to_sort = no_next_to_sort
next_put_sorted g vs ss r fates h _ (next_sorted {ts = ts} i) = next_sorted (puts_sorted g vs vs (term_in r) h (keep fates ts) (keep fates ss) (keep_sorted g vs fates ts ss i))

pub constants_sorted : (g : Data) (vs : List Sort) (fates : List Fate) (l : Linear) (init : List Term) → IsWellSorted g vs l → HaveSorts g [] (terms_of init) (sorts l.params) → AreInitial fates init → IsWellSorted g vs (without_constants fates l)
constants_sorted g vs fates l init w a c =
    let r = put_in fates (variables l.params) in
    let h = sorted_in g vs fates l.params (initial_closed g fates init (sorts l.params) c a) w.params in
    record {
      params = λ x i. w.params x (keep_among fates l.params x i);
      param_sorts = λ x i. w.param_sorts x (keep_among fates l.params x i);
      summands = λ t i.
          let m = contains_map (put_summand r fates) l.summands t i in
          let s = m.0 in
          let f = w.summands s m.1.0 in
          subst (λ z. SummandIsSorted g vs (keep fates l.params) z) (sym m.1.1) (record {
            sums = f.sums;
            sum_sorts = f.sum_sorts;
            condition = putting_in_keeps_sorts g vs vs (term_in r) h s.condition _ f.condition;
            label = label_sorted g vs vs r h s.label f.label;
            next = subst (λ z. NextIsSorted g vs z (option_map (put_kept r fates) s.next)) (sym (keep_sorts fates l.params)) (next_put_sorted g vs (sorts l.params) r fates h s.next f.next);
          });
    }
