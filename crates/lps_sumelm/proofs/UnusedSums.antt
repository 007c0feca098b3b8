-- Sums that don't occur.
use Rattle.std.proofs.Common.{◌≡◌, ℕ, Bool, true, false, List, [], ◌∷◌, ◌++◌, refl, sym, ap, ap₂, ◌∙◌, subst, cond, ◌⊎◌, inl, inr, ⊎_elim, Option, Some, None}
use Rattle.std.specs.Prelude.{Contains}
use Rattle.std.proofs.lemmas.List.Elements.{Contains-append_cases, Contains-append_left, Contains-append_right}
use Rattle.data_theory.specs.Terms.{Sort, Term, variables_of, variables_of_all}
use Rattle.data_theory.specs.Declarations.{Data}
use Rattle.data_theory.specs.Environments.{Environment, term_in, terms_of, AreDistinct, Agree}
use Rattle.data_theory.proofs.EnvironmentLemmas.{agreeing_give_the_same_term, agreeing_give_the_same_terms}
use Rattle.process_terms.specs.Theories.{Theory, IsTrue, IsOfSort}
use Rattle.process_terms.specs.Labels.{Label, put_label, AgreeInOrder}
use Rattle.process_terms.specs.Processes.{Bound}
use Rattle.process_terms.proofs.AgreeingLabels.{agree_refl}
use Rattle.bisim_laws.specs.LinearProcesses.{Summand, variables, reading, put_next, NextEquals, LabelIsOver, no_action_left, action_over, NextIsOver, no_next, next_over, IsSummand, SummandIsSorted, AreBound}
use Rattle.bisim_laws.proofs.Firing.{contains_none, contains_first, contains_later, contains_cases, reading_same, variable_among, read_now, read_later}
use Rattle.lps_sumelm.specs.Solutions.{is_among}
use Rattle.lps_sumelm.specs.Solving.{action_variables, next_variables, summand_variables, used, without_unused}
use Rattle.lps_sumelm.specs.SolvingLaws.{IsAnswered, AnswerEachOther, HasNoUnused}
use Rattle.lps_sumelm.proofs.SolvableParts.{tests_differ, among_is, not_there}
use Rattle.lps_sumelm.proofs.SolvingSteps.{over_others, all_over_others, over_own, all_over_own, same_next}

-- ---- those that occur
used_among : (ws : List ℕ) (xs : List Bound) (y : Bound) → Contains (used ws xs) y → Contains xs y × Contains ws y.var
used_among ws [] y i = absurd (contains_none y i)
used_among ws (x ∷ xs) y i = by_test (is_among x.var ws) refl (used_among ws xs y) i
  where
    by_test : (b : Bool) → is_among x.var ws ≡ b → (Contains (used ws xs) y → Contains xs y × Contains ws y.var) → Contains (cond b (x ∷ used ws xs) (used ws xs)) y → Contains (x ∷ xs) y × Contains ws y.var
    by_test true q again i = ⊎_elim
        (λ e. (subst (λ z. Contains (x ∷ xs) z) e (contains_first x xs), subst (λ z. Contains ws z.var) e (among_is x.var ws q)))
        (λ j. let r = again j in (contains_later x y xs r.0, r.1))
        (contains_cases x y (used ws xs) i)
    by_test false q again i = let r = again i in (contains_later x y xs r.0, r.1)

used_stay : (ws : List ℕ) (xs : List Bound) (y : Bound) → Contains xs y → Contains ws y.var → Contains (used ws xs) y
used_stay ws [] y i j = absurd (contains_none y i)
used_stay ws (x ∷ xs) y i j = by_test (is_among x.var ws) refl (λ k. used_stay ws xs y k j)
  where
    by_test : (b : Bool) → is_among x.var ws ≡ b → (Contains xs y → Contains (used ws xs) y) → Contains (cond b (x ∷ used ws xs) (used ws xs)) y
    by_test true q again = ⊎_elim (λ e. subst (λ z. Contains (x ∷ used ws xs) z) e (contains_first x (used ws xs))) (λ k. contains_later x y (used ws xs) (again k)) (contains_cases x y xs i)
    by_test false q again = ⊎_elim (λ e. absurd (not_there x.var ws q (subst (λ z. Contains ws z.var) (sym e) j))) (λ k. again k) (contains_cases x y xs i)

pub used_number : (ws : List ℕ) (xs : List Bound) (u : ℕ) → Contains (variables (used ws xs)) u → Contains (variables xs) u
used_number ws [] u i = absurd (contains_none u i)
used_number ws (x ∷ xs) u i = by_test (is_among x.var ws) (λ j. used_number ws xs u j) i
  where
    by_test : (b : Bool) → (Contains (variables (used ws xs)) u → Contains (variables xs) u) → Contains (variables (cond b (x ∷ used ws xs) (used ws xs))) u → Contains (x.var ∷ variables xs) u
    by_test true again i = ⊎_elim (λ e. subst (λ z. Contains (x.var ∷ variables xs) z) e (contains_first x.var (variables xs))) (λ j. contains_later x.var u (variables xs) (again j)) (contains_cases x.var u (variables (used ws xs)) i)
    by_test false again i = contains_later x.var u (variables xs) (again i)

number_used : (ws : List ℕ) (xs : List Bound) (u : ℕ) → Contains (variables xs) u → Contains ws u → Contains (variables (used ws xs)) u
number_used ws [] u i j = absurd (contains_none u i)
number_used ws (x ∷ xs) u i j = by_test (is_among x.var ws) refl (λ k. number_used ws xs u k j)
  where
    by_test : (b : Bool) → is_among x.var ws ≡ b → (Contains (variables xs) u → Contains (variables (used ws xs)) u) → Contains (variables (cond b (x ∷ used ws xs) (used ws xs))) u
    by_test true q again = ⊎_elim (λ e. subst (λ z. Contains (x.var ∷ variables (used ws xs)) z) e (contains_first x.var (variables (used ws xs)))) (λ k. contains_later x.var u (variables (used ws xs)) (again k)) (contains_cases x.var u (variables xs) i)
    by_test false q again = ⊎_elim (λ e. absurd (not_there x.var ws q (subst (λ z. Contains ws z) (sym e) j))) (λ k. again k) (contains_cases x.var u (variables xs) i)

used_distinct : (ws : List ℕ) (xs : List Bound) → AreDistinct (variables xs) → AreDistinct (variables (used ws xs))
used_distinct ws [] d = tt
used_distinct ws (x ∷ xs) d = by_test (is_among x.var ws) (used_distinct ws xs d.1)
  where
    by_test : (b : Bool) → AreDistinct (variables (used ws xs)) → AreDistinct (variables (cond b (x ∷ used ws xs) (used ws xs)))
    by_test true r = (λ i. d.0 (used_number ws xs x.var i), r)
    by_test false r = r

pub none_unused : (s : Summand) → HasNoUnused (without_unused s)
none_unused s x i = (used_among (summand_variables s) s.sums x i).1

-- ---- closed terms for those that don't occur, in front of an environment
abbrev fill : List ℕ → (Bound → Term) → List Bound → Environment → Environment
fill ws t [] e = e
fill ws t (x ∷ xs) e = cond (is_among x.var ws) (fill ws t xs e) (record { var = x.var; term = t x } ∷ fill ws t xs e)

-- what occurs, and what is no sum, is read as before
fill_keeps : (ws : List ℕ) (t : Bound → Term) (xs : List Bound) (e : Environment) (u : ℕ) → Contains ws u ⊎ (Contains (variables xs) u → ⊥) → term_in (fill ws t xs e) u ≡ term_in e u
fill_keeps ws t [] e u h = refl
fill_keeps ws t (x ∷ xs) e u h = by_test (is_among x.var ws) refl (fill_keeps ws t xs e u (⊎_elim (λ i. inl i) (λ n. inr (λ i. n (contains_later x.var u (variables xs) i))) h))
  where
    differs : is_among x.var ws ≡ false → Contains ws u ⊎ (Contains (x.var ∷ variables xs) u → ⊥) → x.var ≡ u → ⊥
    differs q (inl i) k = not_there x.var ws q (subst (λ z. Contains ws z) (sym k) i)
    differs q (inr n) k = n (subst (λ z. Contains (x.var ∷ variables xs) z) k (contains_first x.var (variables xs)))

    by_test : (b : Bool) → is_among x.var ws ≡ b → term_in (fill ws t xs e) u ≡ term_in e u → term_in (cond b (fill ws t xs e) (record { var = x.var; term = t x } ∷ fill ws t xs e)) u ≡ term_in e u
    by_test true q r = r
    by_test false q r = read_later x.var (t x) (fill ws t xs e) u (differs q h) ∙ r

fill_gives : (ws : List ℕ) (t : Bound → Term) (xs : List Bound) (e : Environment) → AreDistinct (variables xs) → (y : Bound) → Contains xs y → is_among y.var ws ≡ false → term_in (fill ws t xs e) y.var ≡ t y
fill_gives ws t [] e d y i q = absurd (contains_none y i)
fill_gives ws t (x ∷ xs) e d y i q = by_test (is_among x.var ws) refl (λ j. fill_gives ws t xs e d.1 y j q)
  where
    by_test : (b : Bool) → is_among x.var ws ≡ b → (Contains xs y → term_in (fill ws t xs e) y.var ≡ t y) → term_in (cond b (fill ws t xs e) (record { var = x.var; term = t x } ∷ fill ws t xs e)) y.var ≡ t y
    by_test true p again = ⊎_elim (λ k. absurd (tests_differ (sym p ∙ ap (λ z. is_among z.var ws) k ∙ q))) (λ j. again j) (contains_cases x y xs i)
    by_test false p again = ⊎_elim
        (λ k. subst (λ z. term_in (record { var = x.var; term = t x } ∷ fill ws t xs e) z.var ≡ t z) k (read_now x.var (t x) (fill ws t xs e)))
        (λ j. read_later x.var (t x) (fill ws t xs e) y.var (λ k. d.0 (subst (λ z. Contains (variables xs) z) (sym k) (variable_among xs y j))) ∙ again j)
        (contains_cases x y xs i)

label_same : (d e : Environment) (m : Label) → Agree (action_variables m) (term_in d) (term_in e) → put_label d m ≡ put_label e m
label_same d e [] g = refl
label_same d e (a ∷ m) g = ap₂ (λ ts n. record { name = a.name; sorts = a.sorts; args = ts } ∷ n)
    (agreeing_give_the_same_terms (variables_of_all (terms_of a.args)) (term_in d) (term_in e) (λ v i. g v (Contains-append_left (variables_of_all (terms_of a.args)) (action_variables m) v i)) a.args (all_over_own (terms_of a.args)))
    (label_same d e m (λ v i. g v (Contains-append_right (variables_of_all (terms_of a.args)) (action_variables m) v i)))

next_same : (d e : Environment) (next : Option (List Term)) → Agree (next_variables next) (term_in d) (term_in e) → put_next d next ≡ put_next e next
next_same d e None g = refl
next_same d e (Some ts) g = ap (λ us. Some us) (agreeing_give_the_same_terms (variables_of_all (terms_of ts)) (term_in d) (term_in e) g ts (all_over_own (terms_of ts)))

-- ---- what the summand does
module _ (th : Theory) (params : List Bound) (s : Summand) (is : IsSummand params s) (terms : Bound → Term) (closed : (x : Bound) → Contains s.sums x → IsOfSort th x.sort (terms x)) where
  abbrev W : Summand
  W = without_unused s

  abbrev ws : List ℕ
  ws = summand_variables s

  back_used : IsAnswered th params W s
  back_used e b a h =
      let d = fill ws terms s.sums e in
      let agree : Agree ws (term_in d) (term_in e) = λ v i. fill_keeps ws terms s.sums e v (inl i) in
      let reads : reading d (variables params) ≡ reading e (variables params) = reading_same (variables params) d e (λ v i. fill_keeps ws terms s.sums e v (inr (λ j. is.apart v j i))) in
      record {
        environment = d;
        reads = reads;
        bound = λ x i. by_test e b x i (is_among x.var ws) refl;
        holds = subst (λ z. IsTrue th z) (sym (agreeing_give_the_same_term (variables_of s.condition) (term_in d) (term_in e) (λ v i. agree v (Contains-append_left (variables_of s.condition) (action_variables s.label ++ next_variables s.next) v i)) s.condition (over_own s.condition))) h;
        label = subst (λ z. AgreeInOrder th (put_label e s.label) z)
            (sym (label_same d e s.label (λ v i. agree v (Contains-append_right (variables_of s.condition) (action_variables s.label ++ next_variables s.next) v (Contains-append_left (action_variables s.label) (next_variables s.next) v i))))) (agree_refl th (put_label e s.label));
        next = subst (λ z. NextEquals th (put_next e s.next) z)
            (sym (next_same d e s.next (λ v i. agree v (Contains-append_right (variables_of s.condition) (action_variables s.label ++ next_variables s.next) v (Contains-append_right (action_variables s.label) (next_variables s.next) v i))))) (same_next th (put_next e s.next));
      }
    where
      by_test : (e : Environment) → AreBound th W.sums e → (x : Bound) → Contains s.sums x → (t : Bool) → is_among x.var ws ≡ t → IsOfSort th x.sort (term_in (fill ws terms s.sums e) x.var)
      by_test e b x i true q = let j = among_is x.var ws q in subst (λ z. IsOfSort th x.sort z) (sym (fill_keeps ws terms s.sums e x.var (inl j))) (b x (used_stay ws s.sums x i j))
      by_test e b x i false q = subst (λ z. IsOfSort th x.sort z) (sym (fill_gives ws terms s.sums e is.distinct x i q)) (closed x i)

  pub unused_answers : AnswerEachOther th params s W
  unused_answers = record {
    forth = λ e b a h. record { environment = e; reads = refl; bound = λ x i. b x (used_among ws s.sums x i).0; holds = h; label = agree_refl th (put_label e s.label); next = same_next th (put_next e s.next) };
    back = back_used;
  }

-- ---- its shape and its sorts
label_over_others : (xs ys : List ℕ) (m : Label) → LabelIsOver xs m → ((u : ℕ) → Contains (action_variables m) u → Contains xs u → Contains ys u) → LabelIsOver ys m
label_over_others xs ys _ no_action_left w = no_action_left
label_over_others xs ys _ (action_over {a = a} {m = m} h k) w = action_over
    (all_over_others xs ys (terms_of a.args) h (λ u i. w u (Contains-append_left (variables_of_all (terms_of a.args)) (action_variables m) u i)))
    (label_over_others xs ys m k (λ u i. w u (Contains-append_right (variables_of_all (terms_of a.args)) (action_variables m) u i)))

next_over_others : (xs ys : List ℕ) (ps : List Bound) (next : Option (List Term)) → NextIsOver xs ps next → ((u : ℕ) → Contains (next_variables next) u → Contains xs u → Contains ys u) → NextIsOver ys ps next
next_over_others xs ys ps _ no_next w = no_next
next_over_others xs ys ps _ (next_over {ts = ts} h l) w = next_over (all_over_others xs ys (terms_of ts) h w) l

pub unused_shape : (params : List Bound) (s : Summand) → IsSummand params s → IsSummand params (without_unused s)
unused_shape params s is =
    let ws = summand_variables s in
    let xs = variables s.sums ++ variables params in
    let ys = variables (used ws s.sums) ++ variables params in
    let w : (u : ℕ) → Contains ws u → Contains xs u → Contains ys u = λ u j i. ⊎_elim
    (λ k. Contains-append_left (variables (used ws s.sums)) (variables params) u (number_used ws s.sums u k j))
    (λ k. Contains-append_right (variables (used ws s.sums)) (variables params) u k)
    (Contains-append_cases (variables s.sums) (variables params) u i) in
    record {
      condition = over_others xs ys s.condition is.condition (λ u j. w u (Contains-append_left (variables_of s.condition) (action_variables s.label ++ next_variables s.next) u j));
      label = label_over_others xs ys s.label is.label (λ u j. w u (Contains-append_right (variables_of s.condition) (action_variables s.label ++ next_variables s.next) u (Contains-append_left (action_variables s.label) (next_variables s.next) u j)));
      next = next_over_others xs ys params s.next is.next (λ u j. w u (Contains-append_right (variables_of s.condition) (action_variables s.label ++ next_variables s.next) u (Contains-append_right (action_variables s.label) (next_variables s.next) u j)));
      apart = λ v i. is.apart v (used_number ws s.sums v i);
      distinct = used_distinct ws s.sums is.distinct;
    }

pub unused_sorts : (g : Data) (vs : List Sort) (params : List Bound) (s : Summand) → SummandIsSorted g vs params s → SummandIsSorted g vs params (without_unused s)
unused_sorts g vs params s h = record {
  sums = λ x i. h.sums x (used_among (summand_variables s) s.sums x i).0;
  sum_sorts = λ x i. h.sum_sorts x (used_among (summand_variables s) s.sums x i).0;
  condition = h.condition;
  label = h.label;
  next = h.next;
}
