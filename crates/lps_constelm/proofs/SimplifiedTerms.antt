-- Simplified terms drop nothing.
use Rattle.std.proofs.Common.{◌≡◌, ℕ, List, [], ◌∷◌, ◌++◌, map, length, refl, sym, ap, ap₂, ◌∙◌, subst, arith, ⊎_elim, Option, Some}
use Rattle.std.specs.Prelude.{Contains}
use Rattle.std.specs.List.{All, AllZip}
use Rattle.std.proofs.lemmas.List.{length-map}
use Rattle.std.proofs.lemmas.List.Elements.{All-nil, All-cons, length_all_zip}
use Rattle.data_theory.specs.Terms.{Sort, Term, put}
use Rattle.data_theory.specs.Declarations.{HaveSorts, NoSortIsEmpty}
use Rattle.data_theory.specs.Environments.{Environment, term_in, terms_of, AreOver, AreDistinct}
use Rattle.data_theory.specs.Provable.{Equation}
use Rattle.data_theory.specs.Rewriting.{AreSorts}
use Rattle.data_theory.specs.Signature.{Sig}
use Rattle.data_theory.specs.IdData.{data_meant}
use Rattle.data_theory.proofs.EnvironmentLemmas.{closed_terms_stay}
use Rattle.data_rewriter.specs.Simplifying.{AreLater}
use Rattle.process_terms.specs.Theories.{Theory, Equal, Equals, no_terms, more_terms}
use Rattle.process_terms.specs.Labels.{Action, Label, put_label, equal_args, AgreeInOrder, both_silent, next_agree}
use Rattle.process_terms.specs.Processes.{Bound}
use Rattle.bisim_laws.specs.LinearProcesses.{Summand, Linear, variables, sorts, put_next, LabelIsOver, no_action_left, action_over, NextIsOver, no_next, next_over, IsSummand, IsLinear, LabelIsSorted, no_action_to_sort, action_sorted, NextIsSorted, no_next_to_sort, next_sorted, SummandIsSorted, IsWellSorted}
use Rattle.bisim_laws.proofs.Firing.{contains_none, contains_first, contains_later, contains_cases}
use Rattle.lps_core.specs.Moving.{all_kept}
use Rattle.lps_core.proofs.SortedTerms.{HaveTerms, bound_have_terms, read_bound, both_have_terms}
use Rattle.lps_parelm.specs.Keeping.{keep}
use Rattle.lps_parelm.proofs.Drops.{Stay, IsAt, NextDropped, neither_goes_on, both_go_on, IsDropped, AreDropped, no_summand, one_summand, Drops}
use Rattle.lps_constelm.specs.Simplified.{IsSimplerTerm, ActionBecomes, NextBecomes, both_end, both_go_on as both_become, SummandBecomes, Becomes, IsAllOfSummand, IsAllOf}
use Rattle.lps_constelm.proofs.ConstantParameters.{closed_over}
use Rattle.lps_constelm.proofs.Values.{simpler_is_equal}

-- ---- what is all kept
pub stay_all : (th : Theory) (xs : List Bound) (ts : List Term) → length ts ≡ length xs → Stay th (all_kept xs) ts
stay_all th [] [] l = tt
stay_all th [] (t ∷ ts) l = absurd (omega (arith, l))
stay_all th (x ∷ xs) [] l = absurd (omega (arith, l))
stay_all th (x ∷ xs) (t ∷ ts) l = stay_all th xs ts (omega (arith, l))

pub keep_whole : {A : Type 0} (xs : List Bound) (ts : List A) → length ts ≡ length xs → keep (all_kept xs) ts ≡ ts
keep_whole [] [] l = refl
keep_whole [] (t ∷ ts) l = absurd (omega (arith, l))
keep_whole (x ∷ xs) [] l = refl
keep_whole (x ∷ xs) (t ∷ ts) l = ap (λ r. t ∷ r) (keep_whole xs ts (omega (arith, l)))

-- ---- lists side by side
pub zip_left : {A B : Type 0} (R : A → B → Type 0) (xs : List A) (ys : List B) (y : B) → AllZip R xs ys → Contains ys y → (x : A) × (Contains xs x × R x y)
zip_left R xs [] y z i = absurd (contains_none y i)
zip_left R [] (w ∷ ys) y z i = absurd z
zip_left R (x ∷ xs) (w ∷ ys) y z i = ⊎_elim
    (λ q. (x, (contains_first x xs, subst (λ u. R x u) q z.0)))
    (λ j. let r = zip_left R xs ys y z.1 j in (r.0, (contains_later x r.0 xs r.1.0, r.1.1)))
    (contains_cases w y ys i)

module _ (g : Sig) (own : List Equation) (IsSimple : Term → Type 0) where
  abbrev R : Term → Term → Type 0
  R = IsSimplerTerm g own IsSimple

  -- ---- variables
  terms_over : (xs : List ℕ) (ts us : List Term) → AllZip R ts us → AreOver xs (terms_of ts) → AreOver xs (terms_of us)
  terms_over xs [] [] z i = tt
  terms_over xs [] (u ∷ us) z i = absurd z
  terms_over xs (t ∷ ts) [] z i = absurd z
  terms_over xs (t ∷ ts) (u ∷ us) z i = (z.0.variables xs i.0, terms_over xs ts us z.1 i.1)

  label_over : (xs : List ℕ) (m n : Label) → AllZip (ActionBecomes R) m n → LabelIsOver xs m → LabelIsOver xs n
  label_over xs _ [] z no_action_left = no_action_left
  label_over xs _ (b ∷ n) z no_action_left = absurd z
  label_over xs _ [] z (action_over i k) = absurd z
  label_over xs _ (b ∷ n) z (action_over {a = a} {m = m} i k) = action_over (terms_over xs a.args b.args z.0.args i) (label_over xs m n z.1 k)

  next_over_become : (xs : List ℕ) (ps : List Bound) {o p : Option (List Term)} → NextBecomes R o p → NextIsOver xs ps o → NextIsOver xs ps p
  next_over_become xs ps both_end no_next = no_next
  next_over_become xs ps (both_become {ts = ts} {us = us} z) (next_over i l) = next_over (terms_over xs ts us z i) (sym (length_all_zip R ts us z) ∙ l)

  pub becomes_linear : (l k : Linear) (init first : List Term) → Becomes R l init k first → IsLinear l → IsLinear k
  becomes_linear l k init first b is = record {
    distinct = subst (λ ps. AreDistinct (variables ps)) (sym b.params) is.distinct;
    summands = λ t i.
        let r = zip_left (SummandBecomes R) l.summands k.summands t b.summands i in
        let s = r.0 in
        let f = is.summands s r.1.0 in
        let w = r.1.1 in
        subst (λ ps. IsSummand ps t) (sym b.params) (subst (λ xs. IsSummand l.params (record { sums = xs; condition = t.condition; label = t.label; next = t.next })) (sym w.sums) (record {
          condition = w.condition.variables (variables s.sums ++ variables l.params) f.condition;
          label = label_over (variables s.sums ++ variables l.params) s.label t.label w.label f.label;
          next = next_over_become (variables s.sums ++ variables l.params) l.params w.next f.next;
          apart = f.apart;
          distinct = f.distinct;
        }));
  }

  -- ---- sorts
  module _ (vs : List Sort) (are : AreSorts (data_meant g) vs) where
    terms_sorted : (ts us : List Term) (ss : List Sort) → AllZip R ts us → HaveSorts (data_meant g) vs (terms_of ts) ss → HaveSorts (data_meant g) vs (terms_of us) ss
    terms_sorted [] [] ss z h = h
    terms_sorted [] (u ∷ us) ss z h = absurd z
    terms_sorted (t ∷ ts) [] ss z h = absurd z
    terms_sorted (t ∷ ts) (u ∷ us) [] z h = absurd h
    terms_sorted (t ∷ ts) (u ∷ us) (s ∷ ss) z h = (z.0.sort vs are s h.0, terms_sorted ts us ss z.1 h.1)

    label_sorted : (m n : Label) → AllZip (ActionBecomes R) m n → LabelIsSorted (data_meant g) vs m → LabelIsSorted (data_meant g) vs n
    label_sorted _ [] z no_action_to_sort = no_action_to_sort
    label_sorted _ (b ∷ n) z no_action_to_sort = absurd z
    label_sorted _ [] z (action_sorted i k) = absurd z
    label_sorted _ (b ∷ n) z (action_sorted {a = a} {m = m} i k) =
        action_sorted (subst (λ ss. HaveSorts (data_meant g) vs (terms_of b.args) ss) (sym z.0.sorts) (terms_sorted a.args b.args a.sorts z.0.args i)) (label_sorted m n z.1 k)

    next_sorted_become : (ss : List Sort) {o p : Option (List Term)} → NextBecomes R o p → NextIsSorted (data_meant g) vs ss o → NextIsSorted (data_meant g) vs ss p
    next_sorted_become ss both_end no_next_to_sort = no_next_to_sort
    next_sorted_become ss (both_become {ts = ts} {us = us} z) (next_sorted h) = next_sorted (terms_sorted ts us ss z h)

    pub becomes_sorted : (l k : Linear) (init first : List Term) → Becomes R l init k first → IsWellSorted (data_meant g) vs l → IsWellSorted (data_meant g) vs k
    becomes_sorted l k init first b is = record {
      params = λ x i. is.params x (subst (λ ps. Contains ps x) b.params i);
      param_sorts = λ x i. is.param_sorts x (subst (λ ps. Contains ps x) b.params i);
      summands = λ t i.
          let r = zip_left (SummandBecomes R) l.summands k.summands t b.summands i in
          let s = r.0 in
          let f = is.summands s r.1.0 in
          let w = r.1.1 in
          subst (λ ps. SummandIsSorted (data_meant g) vs ps t) (sym b.params) (record {
            sums = λ x j. f.sums x (subst (λ xs. Contains xs x) w.sums j);
            sum_sorts = λ x j. f.sum_sorts x (subst (λ xs. Contains xs x) w.sums j);
            condition = w.condition.sort vs are _ f.condition;
            label = label_sorted s.label t.label w.label f.label;
            next = next_sorted_become (sorts l.params) w.next f.next;
          });
    }

  no_sorts : AreSorts (data_meant g) []
  no_sorts v s h = absurd h

  pub becomes_closed : (l k : Linear) (init first : List Term) → Becomes R l init k first → HaveSorts (data_meant g) [] (terms_of init) (sorts l.params) → HaveSorts (data_meant g) [] (terms_of first) (sorts k.params)
  becomes_closed l k init first b h = subst (λ ps. HaveSorts (data_meant g) [] (terms_of first) (sorts ps)) (sym b.params) (terms_sorted [] no_sorts init first (sorts l.params) b.initial h)

  -- ---- provable equality
  module _ (th : Theory) (later : AreLater g own th.declared th.equations) (some : NoSortIsEmpty th.declared) where
    module _ (vs : List Sort) (are : AreSorts (data_meant g) vs) (xs : List ℕ) (e : Environment) (terms : HaveTerms th.declared vs xs (term_in e)) where
      terms_equal : (ts us : List Term) (ss : List Sort) → AllZip R ts us → AreOver xs (terms_of ts) → HaveSorts (data_meant g) vs (terms_of ts) ss → Equals th (map (put (term_in e)) ts) (map (put (term_in e)) us)
      terms_equal [] [] ss z i h = no_terms
      terms_equal [] (u ∷ us) ss z i h = absurd z
      terms_equal (t ∷ ts) [] ss z i h = absurd z
      terms_equal (t ∷ ts) (u ∷ us) [] z i h = absurd h
      terms_equal (t ∷ ts) (u ∷ us) (s ∷ ss) z i h = more_terms (simpler_is_equal g own th later some vs are xs (term_in e) terms IsSimple t u s z.0 i.0 h.0) (terms_equal ts us ss z.1 i.1 h.1)

      label_equal : (m n : Label) → AllZip (ActionBecomes R) m n → LabelIsOver xs m → LabelIsSorted (data_meant g) vs m → AgreeInOrder th (put_label e m) (put_label e n)
      label_equal _ [] z no_action_left no_action_to_sort = both_silent
      label_equal _ (b ∷ n) z no_action_left no_action_to_sort = absurd z
      label_equal _ [] z (action_over i k) s = absurd z
      label_equal _ (b ∷ n) z (action_over {a = a} {m = m} i k) (action_sorted h j) =
          subst (λ w. AgreeInOrder th (put_label e (a ∷ m)) (put_label e (w ∷ n))) (sym (same_action a b z.0))
          (next_agree (equal_args (terms_equal a.args b.args a.sorts z.0.args i h)) (label_equal m n z.1 k j))
        where
          same_action : (a b : Action) → ActionBecomes R a b → b ≡ record { name = a.name; sorts = a.sorts; args = b.args }
          same_action a b w = ap₂ (λ n s. record { name = n; sorts = s; args = b.args }) w.name w.sorts

      next_equal : (ps : List Bound) {o p : Option (List Term)} → NextBecomes R o p → NextIsOver xs ps o → NextIsSorted (data_meant g) vs (sorts ps) o → NextDropped th (all_kept ps) (put_next e o) (put_next e p)
      next_equal ps both_end no_next no_next_to_sort = neither_goes_on
      next_equal ps (both_become {ts = ts} {us = us} z) (next_over i l) (next_sorted h) =
          let long : length (map (put (term_in e)) ts) ≡ length ps = length-map ts (put (term_in e)) ∙ l in
          both_go_on (stay_all th ps (map (put (term_in e)) ts) long) (subst (λ w. Equals th w (map (put (term_in e)) us)) (sym (keep_whole ps (map (put (term_in e)) ts) long)) (terms_equal ts us (sorts ps) z i h))

    module _ (vs : List Sort) (are : AreSorts (data_meant g) vs) (l : Linear) (is : IsLinear l) (sorted : IsWellSorted (data_meant g) vs l) where
      at : (s : Summand) → Contains l.summands s → (e : Environment) → IsAt th (all_kept l.params) l s.sums e → HaveTerms th.declared vs (variables s.sums ++ variables l.params) (term_in e)
      at s i e h = both_have_terms th.declared vs (variables s.sums) (variables l.params) (term_in e) (bound_have_terms th vs s.sums e (sorted.summands s i).sums h.sums) (bound_have_terms th vs l.params e sorted.params (read_bound th l.params e h.params))

      one_dropped : (s t : Summand) → Contains l.summands s → SummandBecomes R s t → IsDropped th (all_kept l.params) l s t
      one_dropped s t i w =
          let f = is.summands s i in
          let o = sorted.summands s i in
          let xs = variables s.sums ++ variables l.params in
          record {
            sums = w.sums;
            condition = λ e h. simpler_is_equal g own th later some vs are xs (term_in e) (at s i e h) IsSimple s.condition t.condition _ w.condition f.condition o.condition;
            label = λ e h. label_equal vs are xs e (at s i e h) s.label t.label w.label f.label o.label;
            next = λ e h. next_equal vs are xs e (at s i e h) l.params w.next f.next o.next;
          }

      all_dropped : (ss ts : List Summand) → ((s : Summand) → Contains ss s → Contains l.summands s) → AllZip (SummandBecomes R) ss ts → AreDropped th (all_kept l.params) l ss ts
      all_dropped [] [] w z = no_summand
      all_dropped [] (t ∷ ts) w z = absurd z
      all_dropped (s ∷ ss) [] w z = absurd z
      all_dropped (s ∷ ss) (t ∷ ts) w z = one_summand (one_dropped s t (w s (contains_first s ss)) z.0) (all_dropped ss ts (λ u i. w u (contains_later s u ss i)) z.1)

      pub becomes_drops : (k : Linear) (init first : List Term) → Becomes R l init k first → Drops th (all_kept l.params) l k
      becomes_drops k init first b = record {
        params = b.params ∙ sym (keep_whole l.params l.params refl);
        summands = all_dropped l.summands k.summands (λ s i. i) b.summands;
      }

    pub initial_equal : (ts us : List Term) (ss : List Sort) → AllZip R ts us → HaveSorts (data_meant g) [] (terms_of ts) ss → Equals th ts us
    initial_equal [] [] ss z h = no_terms
    initial_equal [] (u ∷ us) ss z h = absurd z
    initial_equal (t ∷ ts) [] ss z h = absurd z
    initial_equal (t ∷ ts) (u ∷ us) [] z h = absurd h
    initial_equal (t ∷ ts) (u ∷ us) (s ∷ ss) z h =
        let e : Environment = [] in
        more_terms
        (subst (λ w. Equal th w u) (closed_terms_stay (data_meant g) (term_in e) t s h.0)
        (subst (λ w. Equal th (put (term_in e) t) w) (closed_terms_stay (data_meant g) (term_in e) u s (z.0.sort [] no_sorts s h.0))
        (simpler_is_equal g own th later some [] no_sorts [] (term_in e) (λ v a i. absurd (contains_none v i)) IsSimple t u s z.0 (closed_over (data_meant g) [] t s h.0) h.0)))
        (initial_equal ts us ss z.1 h.1)

  -- ---- all terms are simple
  zip_simple : (ts us : List Term) → AllZip R ts us → All IsSimple us
  zip_simple [] [] z = All-nil IsSimple
  zip_simple [] (u ∷ us) z = absurd z
  zip_simple (t ∷ ts) [] z = absurd z
  zip_simple (t ∷ ts) (u ∷ us) z = All-cons IsSimple u us z.0.simple (zip_simple ts us z.1)

  label_simple : (m n : Label) → AllZip (ActionBecomes R) m n → All (λ (a : Action). All IsSimple a.args) n
  label_simple [] [] z = All-nil (λ (a : Action). All IsSimple a.args)
  label_simple [] (b ∷ n) z = absurd z
  label_simple (a ∷ m) [] z = absurd z
  label_simple (a ∷ m) (b ∷ n) z = All-cons (λ (x : Action). All IsSimple x.args) b n (zip_simple a.args b.args z.0.args) (label_simple m n z.1)

  next_simple : {o p : Option (List Term)} → NextBecomes R o p → (ts : List Term) → p ≡ Some ts → All IsSimple ts
  next_simple both_end ts e = absurd (let wrong : ⊥ = cc in wrong)
  next_simple (both_become {ts = us} {us = ws} z) ts e = let same : ws ≡ ts = cc in subst (λ r. All IsSimple r) same (zip_simple us ws z)

  summands_simple : (ss ts : List Summand) → AllZip (SummandBecomes R) ss ts → All (IsAllOfSummand IsSimple) ts
  summands_simple [] [] z = All-nil (IsAllOfSummand IsSimple)
  summands_simple [] (t ∷ ts) z = absurd z
  summands_simple (s ∷ ss) [] z = absurd z
  summands_simple (s ∷ ss) (t ∷ ts) z = All-cons (IsAllOfSummand IsSimple) t ts (record { condition = z.0.condition.simple; label = label_simple s.label t.label z.0.label; next = next_simple z.0.next }) (summands_simple ss ts z.1)

  pub becomes_simple : (l k : Linear) (init first : List Term) → Becomes R l init k first → IsAllOf IsSimple k first
  becomes_simple l k init first b = record { initial = zip_simple init first b.initial; summands = summands_simple l.summands k.summands b.summands }
