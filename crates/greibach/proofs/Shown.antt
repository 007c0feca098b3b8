-- Each head of a body is a step of it.
use Rattle.std.proofs.Common.{◌≡◌, ℕ, List, [], ◌∷◌, ◌++◌, map, length, true, refl, sym, ◌∙◌, subst}
use Rattle.std.proofs.lemmas.List.{length-map}
use Rattle.data_theory.specs.Terms.{boolean, Term, variable, put}
use Rattle.data_theory.specs.Declarations.{Data, HasSort}
use Rattle.data_theory.specs.Equations.{ !ᵗ◌}
use Rattle.data_theory.specs.Environments.{Environment, term_in, bound_variables, Agree}
use Rattle.data_theory.proofs.EnvironmentLemmas.{contains_later as in_more}
use Rattle.data_theory.proofs.BooleanLemmas.{negation_true}
use Rattle.process_terms.specs.Theories.{Theory, IsTrue, IsOfSort, AllTrue, true_and_more}
use Rattle.process_terms.specs.Labels.{put_label}
use Rattle.process_terms.specs.Processes.{Body, written_act, written_choice, written_cond, written_sum, written_call, close}
use Rattle.process_terms.specs.Steps.{Outcome, ended, before, Step, by_act, by_left, by_right, by_seq, by_true, by_false, by_sum, by_call}
use Rattle.bisim_laws.specs.LinearProcesses.{variables}
use Rattle.bisim_laws.specs.Compositions.{LeftOver}
use Rattle.bisim_laws.proofs.Firing.{SumsBound, no_sum, one_sum}
use Rattle.bisim_laws.proofs.SortedFiring.{HaveTerms}
use Rattle.lps_core.proofs.Members.{In, here, there, append_front, append_back, map_in}
use Rattle.lps_core.specs.Conditions.{AreConditionsOnce}
use Rattle.greibach.specs.Places.{Path, Place, Factor, Text, table_in}
use Rattle.greibach.specs.Unfolding.{Head, summed, guarded, followed, rest_call, onward, Unfolds, un_delta, un_act, un_choice, un_seq, un_cond, un_sum, un_call}
use Rattle.greibach.specs.UnfoldedForms.{UnfoldedEquation, IsUnfolded}
use Rattle.greibach.proofs.Under.{under, under_label}
use Rattle.greibach.proofs.Flattening.{following, left_alike, regroup}
use Rattle.greibach.proofs.Situations.{Situation, other_body, first_of_two, with_sum, agree_behind, under_sum, inside_sum, inside_call, under_call, has_body, call_long, sorts_long}
use Rattle.greibach.proofs.Continuations.{Stands, closed_calls, left_after_label, left_after_call}
use Rattle.greibach.proofs.Found.{Numbered, numbered_inside, condition_closed, condition_sorted, not_sorted, out_of_sum}

-- ---- each of several heads
for_both : (P : Head → Type 0) (hs ks : List Head) → ((h : Head) → In h hs → P h) → ((h : Head) → In h ks → P h) → (h : Head) → In h (hs ++ ks) → P h
for_both P [] ks f g h i = g h i
for_both P (x ∷ hs) ks f g _ here = f x here
for_both P (x ∷ hs) ks f g h (there i) = for_both P hs ks (λ y j. f y (there j)) g h i

for_mapped : (P : Head → Type 0) (f : Head → Head) (hs : List Head) → ((h : Head) → In h hs → P (f h)) → (h : Head) → In h (map f hs) → P h
for_mapped P f [] g h i = elim i [ ]
for_mapped P f (x ∷ hs) g _ here = g x here
for_mapped P f (x ∷ hs) g h (there i) = for_mapped P f hs (λ y j. g y (there j)) h i

for_one : (P : Head → Type 0) (x : Head) → P x → (h : Head) → In h (x ∷ []) → P h
for_one P x p _ here = p
for_one P x p h (there i) = elim i [ ]

-- closed terms for the sums leave the equation's variables as they are, and the conditions are well sorted
pub record Settled (g : Data) (over : List ℕ) (f f' : Environment) (conditions : List Term) : Type 0 where
  pub agree : Agree over (term_in f) (term_in f')
  pub sorted : AreConditionsOnce g (term_in f') conditions

abbrev Settles : Theory → List ℕ → Environment → Head → Type 0
Settles th over f h = (f' : Environment) → SumsBound th h.sums f f' → Settled th.declared over f f' h.conditions

pub record Shown (th : Theory) (t : Text) (number : Place → ℕ) (form : List UnfoldedEquation) (g f' : Environment) (b : Body) (rest : List Factor) (h : Head) : Type 0 where
  pub outcome : Outcome
  pub step : Step th (close (table_in t) g b) (put_label f' h.label) outcome
  pub left : LeftOver th (Stands th t form) (following (table_in t) g outcome rest) (closed_calls number f' h.next)

abbrev Shows : Theory → Text → (Place → ℕ) → List UnfoldedEquation → Environment → Environment → Body → List Factor → Head → Type 0
Shows th t number form f g b rest h = (f' : Environment) → SumsBound th h.sums f f' → AllTrue th (map (put (term_in f')) h.conditions) → Shown th t number form g f' b rest h

module _ (th : Theory) (t : Text) (number : Place → ℕ) (form : List UnfoldedEquation) (is : IsUnfolded th.declared t number form) where
  pub settled : {over : List ℕ} {o : ℕ} {e : Environment} {path : Path} {b : Body} {rest : List Factor} {hs : List Head} → Unfolds t over o e path b rest hs → (f : Environment)
      → Situation th.declared t over f e b rest → (h : Head) → In h hs → Settles th over f h
  settled un_delta f w h i = elim i [ ]
  settled (un_act {over = over} p) f w h i = for_one (Settles th over f) _ (λ f' k. nothing f' k) h i
    where
      nothing : (f' : Environment) → SumsBound th [] f f' → Settled th.declared over f f' []
      nothing _ no_sum = record { agree = λ v i. refl; sorted = tt }
  settled (un_choice {over = over} {hs = hs} {ks = ks} a b) f w h i = for_both (Settles th over f) hs ks (settled a f (other_body w w.sorted_body.0)) (settled b f (other_body w w.sorted_body.1)) h i
  settled (un_seq {path = path} a) f w h i = settled a f (first_of_two (path ++ true ∷ []) w) h i
  settled (un_cond {over = over} {e = e} {c = c} {hs = hs} {ks = ks} a b) f w h i =
      for_both (Settles th over f) (map (guarded (put (term_in e) c)) hs) (map (guarded (!ᵗ put (term_in e) c)) ks)
      (for_mapped (Settles th over f) (guarded (put (term_in e) c)) hs (λ x j f' k. let s = settled a f (other_body w w.sorted_body.2) x j f' k in
      record { agree = s.agree; sorted = (subst (λ z. HasSort th.declared [] z boolean) (sym (condition_closed th t number form is w f' s.agree)) (condition_sorted th t number form is w), s.sorted) }))
      (for_mapped (Settles th over f) (guarded (!ᵗ put (term_in e) c)) ks (λ x j f' k. let s = settled b f (other_body w w.sorted_body.3) x j f' k in
      record { agree = s.agree; sorted = (subst (λ z. HasSort th.declared [] (!ᵗ z) boolean) (sym (condition_closed th t number form is w f' s.agree)) (not_sorted th t number form is _ (condition_sorted th t number form is w)), s.sorted) }))
      h i
  settled (un_sum {over = over} {e = e} {x = x} {hs = hs} y n1 n2 a) f w h i = for_mapped (Settles th over f) (summed (record { var = y; sort = x.sort })) hs (λ z j f' k. inside z f' (λ u s. settled a (with_sum f y u) (inside_sum y u n1 s w) z j f') k) h i
    where
      inside : (z : Head) (f' : Environment) → ((u : Term) → IsOfSort th x.sort u → SumsBound th z.sums (with_sum f y u) f' → Settled th.declared (y ∷ over) (with_sum f y u) f' z.conditions)
          → SumsBound th (record { var = y; sort = x.sort } ∷ z.sums) f f' → Settled th.declared over f f' z.conditions
      inside z f' go (one_sum u s k) = let r = go u s k in
          record { agree = λ v l. agree_behind over f y u n1 v l ∙ r.agree v (in_more y v over l); sorted = r.sorted }
  settled (un_call {over = over} {o = o} {e = e} {rest = rest} {hs = hs} q at p a) f w h i =
      for_mapped (Settles th over f) (followed (rest_call t o e rest)) hs (settled a f (inside_call th t q is.definitions at w)) h i

  pub shown : {over : List ℕ} {o : ℕ} {e : Environment} {path : Path} {b : Body} {rest : List Factor} {hs : List Head} → Unfolds t over o e path b rest hs → (f : Environment)
      → Situation th.declared t over f e b rest → Numbered number form hs → (h : Head) → In h hs → Shows th t number form f (under f e) b rest h
  shown un_delta f w n h i = elim i [ ]
  shown (un_act {o = o} {e = e} {m = m} {rest = rest} p) f w n h i = for_one (Shows th t number form f (under f e) (written_act m) rest) _ (λ f' k _. nothing f' k) h i
    where
      nothing : (f' : Environment) → SumsBound th [] f f' → Shown th t number form (under f e) f' (written_act m) rest (record { sums = []; conditions = []; label = put_label e m; next = onward t o e rest })
      nothing _ no_sum = record {
        outcome = ended;
        step = subst (λ l. Step th (close (table_in t) (under f e) (written_act m)) l ended) (sym (under_label f e m w.sorted_body)) by_act;
        left = left_after_label th t number form is o f e w.has rest p w.sorted_rest (n _ here);
      }
  shown (un_choice {e = e} {p = p} {q = q} {rest = rest} {hs = hs} {ks = ks} a b) f w n h i =
      for_both (Shows th t number form f (under f e) (written_choice p q) rest) hs ks
      (λ x j f' k c. let s = shown a f (other_body w w.sorted_body.0) (λ x i. n x (append_front _ ks i)) x j f' k c in record { outcome = s.outcome; step = by_left s.step; left = s.left })
      (λ x j f' k c. let s = shown b f (other_body w w.sorted_body.1) (λ x i. n x (append_back hs i)) x j f' k c in record { outcome = s.outcome; step = by_right s.step; left = s.left })
      h i
  shown (un_seq {e = e} {path = path} {q = q} {rest = rest} a) f w n h i = λ f' k c.
      let s = shown a f (first_of_two (path ++ true ∷ []) w) n h i f' k c in
      record { outcome = before s.outcome (close (table_in t) (under f e) q); step = by_seq s.step; left = left_alike (regroup th (table_in t) (under f e) (path ++ true ∷ []) q rest s.outcome) s.left }
  shown (un_cond {over = over} {e = e} {c = c} {p = p} {q = q} {rest = rest} {hs = hs} {ks = ks} a b) f w n h i =
      for_both (Shows th t number form f (under f e) (written_cond c p q) rest) (map (guarded (put (term_in e) c)) hs) (map (guarded (!ᵗ put (term_in e) c)) ks)
      (for_mapped (Shows th t number form f (under f e) (written_cond c p q) rest) (guarded (put (term_in e) c)) hs (λ x j f' k d. yes x f' (settled a f (other_body w w.sorted_body.2) x j f' k) (shown a f (other_body w w.sorted_body.2) (numbered_inside number form (guarded (put (term_in e) c)) (λ x. refl) hs (λ x j. n x (append_front _ (map (guarded (!ᵗ put (term_in e) c)) ks) j))) x j f' k) d))
      (for_mapped (Shows th t number form f (under f e) (written_cond c p q) rest) (guarded (!ᵗ put (term_in e) c)) ks (λ x j f' k d. no x f' (settled b f (other_body w w.sorted_body.3) x j f' k) (shown b f (other_body w w.sorted_body.3) (numbered_inside number form (guarded (!ᵗ put (term_in e) c)) (λ x. refl) ks (λ x j. n x (append_back (map (guarded (put (term_in e) c)) hs) j))) x j f' k) d))
      h i
    where
      yes : (x : Head) (f' : Environment) → Settled th.declared over f f' x.conditions → (AllTrue th (map (put (term_in f')) x.conditions) → Shown th t number form (under f e) f' p rest x)
          → AllTrue th (put (term_in f') (put (term_in e) c) ∷ map (put (term_in f')) x.conditions) → Shown th t number form (under f e) f' (written_cond c p q) rest (guarded (put (term_in e) c) x)
      yes x f' g go (true_and_more d ds) =
          let s = go ds in
          record { outcome = s.outcome; step = by_true (subst (λ z. IsTrue th z) (condition_closed th t number form is w f' g.agree) d) s.step; left = s.left }

      no : (x : Head) (f' : Environment) → Settled th.declared over f f' x.conditions → (AllTrue th (map (put (term_in f')) x.conditions) → Shown th t number form (under f e) f' q rest x)
          → AllTrue th ((!ᵗ put (term_in f') (put (term_in e) c)) ∷ map (put (term_in f')) x.conditions) → Shown th t number form (under f e) f' (written_cond c p q) rest (guarded (!ᵗ put (term_in e) c) x)
      no x f' g go (true_and_more d ds) =
          let s = go ds in
          let u = negation_true th.declared th.equations (put (term_in (under f e)) c) (condition_sorted th t number form is w) in
          record { outcome = s.outcome; step = by_false (u.0 (subst (λ z. IsTrue th (!ᵗ z)) (condition_closed th t number form is w f' g.agree) d)) s.step; left = s.left }
  shown (un_sum {over = over} {e = e} {x = x} {p = p} {rest = rest} {hs = hs} y n1 n2 a) f w n h i =
      for_mapped (Shows th t number form f (under f e) (written_sum x p) rest) (summed (record { var = y; sort = x.sort })) hs
      (λ z j f' k d. inside z f' (λ u s k'. shown a (with_sum f y u) (inside_sum y u n1 s w) (numbered_inside number form (summed (record { var = y; sort = x.sort })) (λ z. refl) hs n) z j f' k' d) k) h i
    where
      inside : (z : Head) (f' : Environment)
          → ((u : Term) → IsOfSort th x.sort u → SumsBound th z.sums (with_sum f y u) f' → Shown th t number form (under (with_sum f y u) (record { var = x.var; term = variable y } ∷ e)) f' p rest z)
          → SumsBound th (record { var = y; sort = x.sort } ∷ z.sums) f f'
          → Shown th t number form (under f e) f' (written_sum x p) rest (summed (record { var = y; sort = x.sort }) z)
      inside z f' go (one_sum u s k) =
          let r = go u s k in
          record {
            outcome = r.outcome;
            step = by_sum u s (subst (λ l. Step th (close (table_in t) l p) (put_label f' z.label) r.outcome) (under_sum x.var y u w n1) r.step);
            left = left_alike (out_of_sum th t number form is y u n1 n2 w r.outcome) r.left;
          }
  shown (un_call {over = over} {o = o} {e = e} {x = x} {ts = ts} {rest = rest} {hs = hs} q at p a) f w n h i =
      for_mapped (Shows th t number form f (under f e) (written_call x ts) rest) (followed (rest_call t o e rest)) hs
      (λ z j f' k d.
      let s = settled a f (inside_call th t q is.definitions at w) z j f' k in
      let r = shown a f (inside_call th t q is.definitions at w) (λ z i c j. n _ (map_in (followed (rest_call t o e rest)) i) c (append_front _ (rest_call t o e rest) j)) z j f' k d in
      let us : List Term = map (put (term_in (under f e))) ts in
      let long : length us ≡ length (variables q.params) = length-map ts (put (term_in (under f e))) ∙ sorts_long th.declared t.variables ts q.params (call_long q at w) in
      record {
        outcome = r.outcome;
        step = by_call (has_body t x us q at long) (subst (λ l. Step th (close (table_in t) l q.body) (put_label f' z.label) r.outcome) (under_call (variables q.params) w) r.step);
        left = subst (λ l. LeftOver th (Stands th t form) (following (table_in t) l r.outcome rest) (closed_calls number f' (z.next ++ rest_call t o e rest))) (w.stable f' s.agree)
            (left_after_call th t number form is o f' e (subst (λ l. HaveTerms th.declared t.variables (bound_variables e) (term_in l)) (sym (w.stable f' s.agree)) w.has) rest p z.next
            (n _ (map_in (followed (rest_call t o e rest)) j)) r.outcome r.left);
      })
      h i
