-- What is left of a linear process fits and is bisimilar, where the needed parameters are kept.
use Rattle.std.proofs.Common.{◌≡◌, ⊎_elim, ℕ, suc, List, [], ◌∷◌, ◌++◌, map, length, refl, sym, ap, ap₂, ◌∙◌, subst, arith, Option, Some, None}
use Rattle.std.specs.Prelude.{Contains, slice_get, option_map, IfSome}
use Rattle.std.specs.List.{All}
use Rattle.std.proofs.lemmas.List.{length-map}
use Rattle.std.proofs.lemmas.List.Elements.{All-nil, All-cons, All-head, All-tail, Contains-append_left, Contains-append_right, Contains-append_cases}
use Rattle.data_theory.specs.declared.ids.SortId.{SortId}
use Rattle.data_theory.specs.declared.ids.VarId.{VarId}
use Rattle.data_theory.specs.declared.ids.TermId.{TermId}
use Rattle.data_theory.specs.Terms.{Term, Terms, variable, numeral, unknown, application, none, more, put, variables_of, variables_of_all}
use Rattle.data_theory.specs.Declarations.{HaveSorts}
use Rattle.data_theory.specs.Environments.{Environment, term_in, terms_of, IsOver, AreOver, AreDistinct}
use Rattle.data_theory.specs.Provable.{reflexive}
use Rattle.data_theory.specs.Signature.{Sig}
use Rattle.data_theory.specs.IdData.{data_meant}
use Rattle.data_theory.specs.IdTrees.{Tree, trees_of}
use Rattle.data_theory.specs.IdTreeSorts.{HaveTreeSorts}
use Rattle.data_theory.specs.IdTerms.{variable_sorts}
use Rattle.data_theory.specs.WholeSignatures.{IsSignature}
use Rattle.term_pool.specs.HeadTrees.{tree_at, trees_at, IsIn}
use Rattle.process_terms.specs.Theories.{Theory, Equals, AreOfSorts}
use Rattle.process_terms.specs.Labels.{Action, Label}
use Rattle.process_terms.specs.Processes.{Bound}
use Rattle.process_terms.specs.Meanings.{Entries, bound_at, term_at}
use Rattle.process_terms.specs.SignatureEntries.{entries_of}
use Rattle.process_terms.proofs.AgreeingLabels.{equals_refl, agree_refl}
use Rattle.bisim_laws.specs.LinearProcesses as theory
use Rattle.bisim_laws.specs.LinearProcesses.{Linear, variables, sorts, put_next, LabelIsOver, no_action_left, action_over, NextIsOver, no_next, next_over, IsSummand, IsLinear, IsWellSorted}
use Rattle.bisim_laws.specs.BaseStates.{Fate, kept, constant, not_needed}
use Rattle.bisim_laws.specs.Links.{Dropped}
use Rattle.bisim_laws.proofs.Firing.{contains_none, contains_first, contains_later, contains_cases}
use Rattle.lps_core.specs.PlainLinears.{PlainSummand, PlainLinear, summand_of, linear_of, initial_of, linear_state}
use Rattle.lps_core.specs.Fitting.{AreTermsOf, IsVariable, sort_of_variable, SummandFits, HasTakenName, Fits}
use Rattle.lps_core.specs.GoingOn.{IsGoodOver}
use Rattle.lps_core.proofs.Members.{contains_map}
use Rattle.lps_core.proofs.GrowingData.{linear_grown, terms_grown}
use Rattle.lps_core.proofs.Staying.{what_fits_is_sorted}
use Rattle.lps_parelm.specs.Keeping.{keep, kept_summand, kept_linear}
use Rattle.lps_parelm.specs.Needed.{a_condition, an_argument, IsNeeded, shown, handed_on, AreKeptOrNotNeeded, KeepTheNeeded}
use Rattle.lps_parelm.proofs.Drops.{Stay, NextDropped, neither_goes_on, both_go_on, IsDropped, AreDropped, no_summand, one_summand, Drops}
use Rattle.lps_parelm.proofs.KeptPlaces.{keep_map, keep_among, keep_variables, keep_sorts, keep_sorted, keep_distinct, keep_long, keep_all}
use Rattle.lps_parelm.proofs.DroppedArguments.{sorts_long, dropped_bisimilar}

-- ---- what is left, over terms
abbrev pub left_summand : List Fate → theory.Summand → theory.Summand
left_summand fates s = record { sums = s.sums; condition = s.condition; label = s.label; next = option_map (keep fates) s.next }

abbrev pub left_of : List Fate → Linear → Linear
left_of fates l = record { params = keep fates l.params; summands = map (left_summand fates) l.summands }

next_meant : (e : Entries) (fates : List Fate) (next : Option (List TermId)) → option_map (map (term_at e)) (option_map (keep fates) next) ≡ option_map (keep fates) (option_map (map (term_at e)) next)
next_meant e fates None = refl
next_meant e fates (Some ids) = ap (λ z. Some z) (sym (keep_map (term_at e) fates ids))

summands_meant : (e : Entries) (fates : List Fate) (ss : List PlainSummand) → map (summand_of e) (map (kept_summand fates) ss) ≡ map (left_summand fates) (map (summand_of e) ss)
summands_meant e fates [] = refl
summands_meant e fates (s ∷ ss) = ap₂ (λ n rest. record { sums = (summand_of e s).sums; condition = (summand_of e s).condition; label = (summand_of e s).label; next = n } ∷ rest) (next_meant e fates s.next) (summands_meant e fates ss)

pub left_meant : (e : Entries) (fates : List Fate) (l : PlainLinear) → linear_of e (kept_linear fates l) ≡ left_of fates (linear_of e l)
left_meant e fates l = ap₂ (λ ps ss. record { params = ps; summands = ss }) (sym (keep_map (bound_at e) fates l.params)) (summands_meant e fates l.summands)

-- ---- its shape
mutual
  pub over_kept : (xs ys : List ℕ) (t : Term) → IsOver xs t → ((v : ℕ) → Contains (variables_of t) v → Contains xs v → Contains ys v) → IsOver ys t
  over_kept xs ys (variable v) h w = w v (contains_first v []) h
  over_kept xs ys (numeral a z) h w = h
  over_kept xs ys (unknown d k) h w = h
  over_kept xs ys (application f ts) h w = all_over_kept xs ys ts h w

  pub all_over_kept : (xs ys : List ℕ) (ts : Terms) → AreOver xs ts → ((v : ℕ) → Contains (variables_of_all ts) v → Contains xs v → Contains ys v) → AreOver ys ts
  all_over_kept xs ys none h w = h
  all_over_kept xs ys (more t ts) h w = (
    over_kept xs ys t h.0 (λ v i. w v (Contains-append_left (variables_of t) (variables_of_all ts) v i)),
    all_over_kept xs ys ts h.1 (λ v i. w v (Contains-append_right (variables_of t) (variables_of_all ts) v i)),
  )

each_over_kept : (xs ys : List ℕ) (ts : List Term) → AreOver xs (terms_of ts) → ((t : Term) → Contains ts t → (v : ℕ) → Contains (variables_of t) v → Contains xs v → Contains ys v) → AreOver ys (terms_of ts)
each_over_kept xs ys [] h w = h
each_over_kept xs ys (t ∷ ts) h w = (over_kept xs ys t h.0 (w t (contains_first t ts)), each_over_kept xs ys ts h.1 (λ u i. w u (contains_later t u ts i)))

label_over_kept : (xs ys : List ℕ) (m : Label) → LabelIsOver xs m → ((a : Action) → Contains m a → (t : Term) → Contains a.args t → (v : ℕ) → Contains (variables_of t) v → Contains xs v → Contains ys v) → LabelIsOver ys m
label_over_kept xs ys _ no_action_left w = no_action_left
label_over_kept xs ys _ (action_over {a = a} {m = m} h k) w = action_over (each_over_kept xs ys a.args h (w a (contains_first a m))) (label_over_kept xs ys m k (λ b i. w b (contains_later a b m i)))

-- a term that is kept stands at the place of a kept variable
record KeptAt (fates : List Fate) (xs : List ℕ) (ts : List Term) (t : Term) : Type 0 where
  place : ℕ
  var : ℕ
  var_at : slice_get xs place ≡ Some var
  term_at : slice_get ts place ≡ Some t
  is_kept : Contains (keep fates xs) var

kept_at : (fates : List Fate) (xs : List ℕ) (ts : List Term) → length ts ≡ length xs → (t : Term) → Contains (keep fates ts) t → KeptAt fates xs ts t
kept_at [] xs ts l t i = absurd (contains_none t i)
kept_at (f ∷ fates) xs [] l t i = absurd (contains_none t i)
kept_at (f ∷ fates) [] (u ∷ ts) l t i = absurd (omega (arith, l))
kept_at (kept ∷ fates) (x ∷ xs) (u ∷ ts) l t i = ⊎_elim
    (λ q. record { place = 0; var = x; var_at = refl; term_at = ap (λ z. Some z) q; is_kept = contains_first x (keep fates xs) })
    (λ j. let k = kept_at fates xs ts (omega (arith, l)) t j in record { place = suc k.place; var = k.var; var_at = k.var_at; term_at = k.term_at; is_kept = contains_later x k.var (keep fates xs) k.is_kept })
    (contains_cases u t (keep fates ts) i)
kept_at (constant c ∷ fates) (x ∷ xs) (u ∷ ts) l t i = let k = kept_at fates xs ts (omega (arith, l)) t i in record { place = suc k.place; var = k.var; var_at = k.var_at; term_at = k.term_at; is_kept = k.is_kept }
kept_at (not_needed ∷ fates) (x ∷ xs) (u ∷ ts) l t i = let k = kept_at fates xs ts (omega (arith, l)) t i in record { place = suc k.place; var = k.var; var_at = k.var_at; term_at = k.term_at; is_kept = k.is_kept }

keep_over : (xs : List ℕ) (fates : List Fate) (ts : List Term) → AreOver xs (terms_of ts) → AreOver xs (terms_of (keep fates ts))
keep_over xs [] ts h = tt
keep_over xs (f ∷ fates) [] h = tt
keep_over xs (kept ∷ fates) (t ∷ ts) h = (h.0, keep_over xs fates ts h.1)
keep_over xs (constant c ∷ fates) (t ∷ ts) h = keep_over xs fates ts h.1
keep_over xs (not_needed ∷ fates) (t ∷ ts) h = keep_over xs fates ts h.1

module _ (l : Linear) (fates : List Fate) (is : IsLinear l) (needed : KeepTheNeeded l fates) where
  -- a variable that is a sum or needed is a variable of what is left
  stays_in : (s : theory.Summand) (v : ℕ) → (Contains (variables l.params) v → IsNeeded l v) → Contains (variables s.sums ++ variables l.params) v → Contains (variables s.sums ++ variables (keep fates l.params)) v
  stays_in s v w i = ⊎_elim
      (λ j. Contains-append_left (variables s.sums) (variables (keep fates l.params)) v j)
      (λ j. Contains-append_right (variables s.sums) (variables (keep fates l.params)) v (subst (λ xs. Contains xs v) (sym (keep_variables fates l.params)) ((needed.exact v).1 (w j))))
      (Contains-append_cases (variables s.sums) (variables l.params) v i)

  left_next : (s : theory.Summand) → Contains l.summands s → (next : Option (List Term)) → s.next ≡ next → NextIsOver (variables s.sums ++ variables l.params) l.params next → NextIsOver (variables s.sums ++ variables (keep fates l.params)) (keep fates l.params) (option_map (keep fates) next)
  left_next s i _ e no_next = no_next
  left_next s i _ e (next_over {ts = ts} h long) =
      next_over
      (each_over_kept (variables s.sums ++ variables l.params) (variables s.sums ++ variables (keep fates l.params)) (keep fates ts) (keep_over (variables s.sums ++ variables l.params) fates ts h) (λ t j v k m.
      let at = kept_at fates (variables l.params) ts (long ∙ sym (length-map l.params (λ (x : Bound). x.var))) t j in
      stays_in s v (λ p. handed_on ((needed.exact at.var).0 at.is_kept) (record { place = at.place; param = at.var_at; summand = s; among = i; terms = ts; next = e; is = at.term_at }) (record { param = p; inside = k })) m))
      (keep_long fates ts l.params long)

  pub left_is_linear : IsLinear (left_of fates l)
  left_is_linear = record {
    distinct = subst (λ xs. AreDistinct xs) (sym (keep_variables fates l.params)) (keep_distinct fates (variables l.params) is.distinct);
    summands = λ t i.
        let r = contains_map (left_summand fates) l.summands t i in
        let s = r.0 in
        let f = is.summands s r.1.0 in
        subst (λ z. IsSummand (keep fates l.params) z) (sym r.1.1) (record {
          condition = over_kept (variables s.sums ++ variables l.params) (variables s.sums ++ variables (keep fates l.params)) s.condition f.condition (λ v j k. stays_in s v (λ p. shown (a_condition {s = s} r.1.0) (record { param = p; inside = j })) k);
          label = label_over_kept (variables s.sums ++ variables l.params) (variables s.sums ++ variables (keep fates l.params)) s.label f.label (λ a b u c v j k. stays_in s v (λ p. shown (an_argument {s = s} {a = a} r.1.0 b c) (record { param = p; inside = j })) k);
          next = left_next s r.1.0 s.next refl f.next;
          apart = λ v a b. f.apart v a (keep_among fates (variables l.params) v (subst (λ xs. Contains xs v) (keep_variables fates l.params) b));
          distinct = f.distinct;
        });
  }

-- ---- nothing else is dropped
stay_each : (th : Theory) (fates : List Fate) (xs : List ℕ) (ts : List Term) → AreKeptOrNotNeeded fates xs → length ts ≡ length xs → Stay th fates ts
stay_each th [] [] [] m l = tt
stay_each th [] [] (t ∷ ts) m l = absurd (omega (arith, l))
stay_each th [] (x ∷ xs) ts m l = absurd m
stay_each th (f ∷ fates) [] ts m l = absurd m
stay_each th (f ∷ fates) (x ∷ xs) [] m l = absurd (omega (arith, l))
stay_each th (kept ∷ fates) (x ∷ xs) (t ∷ ts) m l = stay_each th fates xs ts m (omega (arith, l))
stay_each th (constant c ∷ fates) (x ∷ xs) (t ∷ ts) m l = absurd m
stay_each th (not_needed ∷ fates) (x ∷ xs) (t ∷ ts) m l = stay_each th fates xs ts m (omega (arith, l))

next_left : (th : Theory) (fates : List Fate) (ps : List Bound) (e : Environment) {xs : List ℕ} → AreKeptOrNotNeeded fates (variables ps) → (next : Option (List Term)) → NextIsOver xs ps next → NextDropped th fates (put_next e next) (put_next e (option_map (keep fates) next))
next_left th fates ps e m _ no_next = neither_goes_on
next_left th fates ps e m _ (next_over {ts = ts} i l) =
    both_go_on (stay_each th fates (variables ps) (map (put (term_in e)) ts) m (length-map ts (put (term_in e)) ∙ l ∙ sym (length-map ps (λ (x : Bound). x.var))))
    (subst (λ z. Equals th z (map (put (term_in e)) (keep fates ts))) (sym (keep_map (put (term_in e)) fates ts)) (equals_refl th (map (put (term_in e)) (keep fates ts))))

-- each summand by itself
pub each_dropped : {th : Theory} {fates : List Fate} {l : Linear} (f : theory.Summand → theory.Summand) (ss : List theory.Summand) → ((s : theory.Summand) → Contains ss s → IsDropped th fates l s (f s)) → AreDropped th fates l ss (map f ss)
each_dropped f [] h = no_summand
each_dropped {l = l} f (s ∷ ss) h = one_summand (h s (contains_first s ss)) (each_dropped {l = l} f ss (λ t i. h t (contains_later s t ss i)))

left_drops : (th : Theory) (fates : List Fate) (l : Linear) → IsLinear l → AreKeptOrNotNeeded fates (variables l.params) → Drops th fates l (left_of fates l)
left_drops th fates l is m = record {
  params = refl;
  summands = each_dropped {l = l} (left_summand fates) l.summands (λ s i. record {
    sums = refl;
    condition = λ e h. reflexive;
    label = λ e h. agree_refl th _;
    next = λ e h. next_left th fates l.params e m s.next (is.summands s i).next;
  });
}

-- ---- it fits
keep_tree_sorted : (g : Sig) (fates : List Fate) (us : List Tree) (ss : List SortId) → HaveTreeSorts g (trees_of us) ss → HaveTreeSorts g (trees_of (keep fates us)) (keep fates ss)
keep_tree_sorted g [] us ss h = tt
keep_tree_sorted g (f ∷ fates) [] [] h = tt
keep_tree_sorted g (f ∷ fates) [] (s ∷ ss) h = absurd h
keep_tree_sorted g (f ∷ fates) (t ∷ us) [] h = absurd h
keep_tree_sorted g (kept ∷ fates) (t ∷ us) (s ∷ ss) h = (h.0, keep_tree_sorted g fates us ss h.1)
keep_tree_sorted g (constant c ∷ fates) (t ∷ us) (s ∷ ss) h = keep_tree_sorted g fates us ss h.1
keep_tree_sorted g (not_needed ∷ fates) (t ∷ us) (s ∷ ss) h = keep_tree_sorted g fates us ss h.1

pub kept_terms : (g : Sig) (ts : List Tree) (fates : List Fate) (params : List VarId) (ids : List TermId) → AreTermsOf g ts (map (sort_of_variable g) params) ids → AreTermsOf g ts (map (sort_of_variable g) (keep fates params)) (keep fates ids)
kept_terms g ts fates params ids h = record {
  within = keep_all (IsIn ts) fates ids h.within;
  sorted = subst (λ us. HaveTreeSorts g (trees_of us) (map (sort_of_variable g) (keep fates params))) (keep_map (tree_at ts) fates ids)
      (subst (λ ss. HaveTreeSorts g (trees_of (keep fates (trees_at ts ids))) ss) (keep_map (sort_of_variable g) fates params) (keep_tree_sorted g fates (trees_at ts ids) (map (sort_of_variable g) params) h.sorted));
}

kept_next_fits : (g : Sig) (ts : List Tree) (fates : List Fate) (params : List VarId) (next : Option (List TermId)) → IfSome next (AreTermsOf g ts (map (sort_of_variable g) params)) → IfSome (option_map (keep fates) next) (AreTermsOf g ts (map (sort_of_variable g) (keep fates params)))
kept_next_fits g ts fates params None h = h
kept_next_fits g ts fates params (Some ids) h = kept_terms g ts fates params ids h

all_kept_summands : (P Q : PlainSummand → Type 0) (fates : List Fate) → ((s : PlainSummand) → P s → Q (kept_summand fates s)) → (ss : List PlainSummand) → All P ss → All Q (map (kept_summand fates) ss)
all_kept_summands P Q fates w [] h = All-nil Q
all_kept_summands P Q fates w (s ∷ ss) h = All-cons Q (kept_summand fates s) (map (kept_summand fates) ss) (w s (All-head P s ss h)) (all_kept_summands P Q fates w ss (All-tail P s ss h))

pub left_closed : (g : Sig) (ts : List Tree) (fates : List Fate) (l : PlainLinear) → Fits g ts l → HaveSorts (data_meant g) [] (terms_of (initial_of (entries_of g ts) (kept_linear fates l))) (sorts (linear_of (entries_of g ts) (kept_linear fates l)).params)
left_closed g ts fates l fits =
    let L = linear_of (entries_of g ts) l in
    subst (λ us. HaveSorts (data_meant g) [] (terms_of us) (sorts (map (bound_at (entries_of g ts)) (keep fates l.params)))) (keep_map (term_at (entries_of g ts)) fates l.init)
    (subst (λ xs. HaveSorts (data_meant g) [] (terms_of (keep fates (initial_of (entries_of g ts) l))) (sorts xs)) (keep_map (bound_at (entries_of g ts)) fates l.params)
    (subst (λ ss. HaveSorts (data_meant g) [] (terms_of (keep fates (initial_of (entries_of g ts) l))) ss) (sym (keep_sorts fates L.params))
    (keep_sorted (data_meant g) [] fates (initial_of (entries_of g ts) l) (sorts L.params) fits.closed)))

pub left_fits : (g : Sig) (ts : List Tree) (fates : List Fate) (l : PlainLinear) → Fits g ts l → KeepTheNeeded (linear_of (entries_of g ts) l) fates → Fits g ts (kept_linear fates l)
left_fits g ts fates l fits needed = record {
  params = keep_all (IsVariable g) fates l.params fits.params;
  init = kept_terms g ts fates l.params l.init fits.init;
  closed = left_closed g ts fates l fits;
  summands = all_kept_summands (SummandFits g ts l.params) (SummandFits g ts (keep fates l.params)) fates (λ s h. record { sums = h.sums; condition = h.condition; label = h.label; next = kept_next_fits g ts fates l.params s.next h.next }) l.summands fits.summands;
  linear = subst (λ z. IsLinear z) (sym (left_meant (entries_of g ts) fates l)) (left_is_linear (linear_of (entries_of g ts) l) fates fits.linear needed);
  taken = keep_all (HasTakenName g) fates l.params fits.taken;
  sums_taken = all_kept_summands (λ (s : PlainSummand). All (HasTakenName g) s.sums) (λ (s : PlainSummand). All (HasTakenName g) s.sums) fates (λ s h. h) l.summands fits.sums_taken;
}

-- ---- and is bisimilar
pub left_bisimilar : (g : Sig) (ts : List Tree) (fates : List Fate) (l : PlainLinear) → IsSignature g → Fits g ts l → KeepTheNeeded (linear_of (entries_of g ts) l) fates
    → IsGoodOver g (Dropped fates (linear_of (entries_of g ts) l) (linear_of (entries_of g ts) (kept_linear fates l))) (linear_state (entries_of g ts) l) (linear_state (entries_of g ts) (kept_linear fates l))
left_bisimilar g ts fates l stands fits needed th on sane =
    let e = entries_of g ts in
    let L = linear_of e l in
    let k = kept_linear fates l in
    let left = left_fits g ts fates l fits needed in
    let sorted : (m : PlainLinear) → Fits g ts m → IsWellSorted th.declared (variable_sorts g) (linear_of e m) = λ m f. linear_grown (data_meant g) th.declared on.grows (variable_sorts g) (linear_of e m) (what_fits_is_sorted g ts m stands.table stands.complete f) in
    let closed : (m : PlainLinear) → Fits g ts m → AreOfSorts th (sorts (linear_of e m).params) (initial_of e m) = λ m f. terms_grown (data_meant g) th.declared on.grows [] (terms_of (initial_of e m)) (sorts (linear_of e m).params) f.closed in
    dropped_bisimilar th (variable_sorts g) fates L (linear_of e k) (initial_of e l) (initial_of e k) fits.linear left.linear (sorted l fits) (sorted k left)
    (subst (λ z. Drops th fates L z) (sym (left_meant e fates l)) (left_drops th fates L fits.linear needed.each))
    (closed l fits) (closed k left)
    (stay_each th fates (variables L.params) (initial_of e l) needed.each (sorts_long th L.params (initial_of e l) (closed l fits)))
    (subst (λ us. Equals th (keep fates (initial_of e l)) us) (keep_map (term_at e) fates l.init) (equals_refl th (keep fates (initial_of e l))))
