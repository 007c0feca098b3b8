-- Each step of a body is one of its heads, and each head is a step.
use Rattle.std.proofs.Common.{◌≡◌, ℕ, List, [], ◌∷◌, ◌++◌, map, true, refl, sym, ap, ◌∙◌, subst}
use Rattle.std.specs.Prelude.{Contains}
use Rattle.data_theory.specs.Terms.{boolean, Term, variable, put}
use Rattle.data_theory.specs.Declarations.{Data, HasSort}
use Rattle.data_theory.specs.Equations.{ !ᵗ◌}
use Rattle.data_theory.specs.Environments.{Environment, term_in, bound_variables, Agree}
use Rattle.data_theory.proofs.EnvironmentLemmas.{contains_later as in_more}
use Rattle.data_theory.proofs.BooleanLemmas.{negation_true}
use Rattle.process_terms.specs.Theories.{Theory, IsTrue, IsFalse, AllTrue, none_left, true_and_more}
use Rattle.process_terms.specs.Labels.{Label, put_label}
use Rattle.process_terms.specs.Processes.{Bound, Body, written_cond, written_sum, close, seq_of}
use Rattle.process_terms.specs.Steps.{Outcome, Step, by_act, by_left, by_right, by_seq, by_true, by_false, by_sum, by_call}
use Rattle.bisim_laws.specs.LinearProcesses.{variables}
use Rattle.bisim_laws.specs.Sameness.{Alike}
use Rattle.bisim_laws.specs.Bisimulations.{Lands}
use Rattle.bisim_laws.specs.Compositions.{LeftOver}
use Rattle.bisim_laws.proofs.AlikeProcesses.{lands_refl}
use Rattle.bisim_laws.proofs.Firing.{SumsBound, no_sum, one_sum, read_later}
use Rattle.bisim_laws.proofs.SortedFiring.{HaveTerms, put_sorted}
use Rattle.lps_core.proofs.Members.{In, here, there, append_front, append_back, map_in}
use Rattle.lps_core.specs.Conditions.{AreConditionsOnce}
use Rattle.greibach.specs.Places.{Path, Place, Factor, bodies, Text, table_in, IsSortedBody}
use Rattle.greibach.specs.Unfolding.{Head, summed, guarded, followed, rest_call, Unfolds, un_delta, un_act, un_choice, un_seq, un_cond, un_sum, un_call}
use Rattle.greibach.specs.UnfoldedForms.{UnfoldedEquation, IsUnfolded}
use Rattle.greibach.proofs.Under.{under, under_term, under_label}
use Rattle.greibach.proofs.Flattening.{following, left_alike, before_alike, regroup}
use Rattle.greibach.proofs.Situations.{Situation, other_body, first_of_two, with_sum, agree_behind, under_sum, inside_sum, inside_call, under_call, body_is}
use Rattle.greibach.proofs.Continuations.{Stands, closed_calls, AreNumbered, same_runs, left_after_label, left_after_call}

-- ---- a rest under another environment
seq_sorted : (g : Data) (t : Text) (xs : List ℕ) (fs : List Factor) → ((r : Factor) → In r fs → IsSortedBody g t xs r.body) → IsSortedBody g t xs (seq_of (bodies fs))
seq_sorted g t xs [] h = tt
seq_sorted g t xs (f ∷ []) h = h f here
seq_sorted g t xs (f ∷ k ∷ fs) h = (h f here, seq_sorted g t xs (k ∷ fs) (λ r i. h r (there i)))

same_following : (th : Theory) (t : Text) (xs : List ℕ) (d e : Environment) → Agree xs (term_in d) (term_in e) → (rest : List Factor) → ((r : Factor) → In r rest → IsSortedBody th.declared t xs r.body) → (r : Outcome)
    → Lands (Alike th) (following (table_in t) d r rest) (following (table_in t) e r rest)
same_following th t xs d e g [] h r = lands_refl th r
same_following th t xs d e g (f ∷ fs) h r = before_alike th (same_runs th t xs d e g (seq_of (bodies (f ∷ fs))) (seq_sorted th.declared t xs (f ∷ fs) h)) r

-- ---- heads that are calls of numbered places
abbrev pub Numbered : (Place → ℕ) → List UnfoldedEquation → List Head → Type 0
Numbered number form hs = (h : Head) → In h hs → AreNumbered number form h.next

pub numbered_inside : (number : Place → ℕ) (form : List UnfoldedEquation) (f : Head → Head) → ((h : Head) → (f h).next ≡ h.next) → (hs : List Head) → Numbered number form (map f hs) → Numbered number form hs
numbered_inside number form f q hs n h i c j = n (f h) (map_in f i) c (subst (λ l. In c l) (sym (q h)) j)

-- a head in an environment that gives closed terms to its sums
pub record Happens (th : Theory) (t : Text) (number : Place → ℕ) (form : List UnfoldedEquation) (over : List ℕ) (f g : Environment) (rest : List Factor) (h : Head) (m : Label) (r : Outcome) : Type 0 where
  pub environment : Environment
  pub sums : SumsBound th h.sums f environment
  pub agree : Agree over (term_in f) (term_in environment)
  pub holds : AllTrue th (map (put (term_in environment)) h.conditions)
  pub sorted : AreConditionsOnce th.declared (term_in environment) h.conditions
  pub label : m ≡ put_label environment h.label
  pub left : LeftOver th (Stands th t form) (following (table_in t) g r rest) (closed_calls number environment h.next)

pub record Found (th : Theory) (t : Text) (number : Place → ℕ) (form : List UnfoldedEquation) (over : List ℕ) (f g : Environment) (rest : List Factor) (hs : List Head) (m : Label) (r : Outcome) : Type 0 where
  pub head : Head
  pub among : In head hs
  pub happens : Happens th t number form over f g rest head m r

module _ (th : Theory) (t : Text) (number : Place → ℕ) (form : List UnfoldedEquation) (is : IsUnfolded th.declared t number form) where
  inside_found : {over : List ℕ} {f g : Environment} {rest : List Factor} {hs ks : List Head} {m : Label} {r : Outcome} → ((h : Head) → In h hs → In h ks)
      → Found th t number form over f g rest hs m r → Found th t number form over f g rest ks m r
  inside_found w k = record { head = k.head; among = w k.head k.among; happens = k.happens }

  guard_happens : {over : List ℕ} {f g : Environment} {rest : List Factor} {h : Head} {m : Label} {r : Outcome} (c : Term)
      → ((f' : Environment) → Agree over (term_in f) (term_in f') → IsTrue th (put (term_in f') c) × HasSort th.declared [] (put (term_in f') c) boolean)
      → Happens th t number form over f g rest h m r → Happens th t number form over f g rest (guarded c h) m r
  guard_happens c w k = let x = w k.environment k.agree in record {
    environment = k.environment;
    sums = k.sums;
    agree = k.agree;
    holds = true_and_more x.0 k.holds;
    sorted = (x.1, k.sorted);
    label = k.label;
    left = k.left;
  }

  -- a condition and its negation, as terms over the equation's variables
  pub condition_closed : {over : List ℕ} {f e : Environment} {c : Term} {p q : Body} {rest : List Factor} → Situation th.declared t over f e (written_cond c p q) rest
      → (f' : Environment) → Agree over (term_in f) (term_in f') → put (term_in f') (put (term_in e) c) ≡ put (term_in (under f e)) c
  condition_closed {e = e} {c = c} w f' k = under_term f' e c w.sorted_body.0 ∙ ap (λ l. put (term_in l) c) (w.stable f' k)

  pub condition_sorted : {over : List ℕ} {f e : Environment} {c : Term} {p q : Body} {rest : List Factor} → Situation th.declared t over f e (written_cond c p q) rest → HasSort th.declared [] (put (term_in (under f e)) c) boolean
  condition_sorted {f = f} {e = e} {c = c} w = put_sorted th.declared t.variables (bound_variables e) (term_in (under f e)) w.has c boolean w.sorted_body.0 w.sorted_body.1

  pub not_sorted : (c : Term) → HasSort th.declared [] c boolean → HasSort th.declared [] (!ᵗ c) boolean
  not_sorted c h = (tt, (h, tt), refl, refl)

  true_under : {over : List ℕ} {f e : Environment} {c : Term} {p q : Body} {rest : List Factor} → Situation th.declared t over f e (written_cond c p q) rest → IsTrue th (put (term_in (under f e)) c)
      → (f' : Environment) → Agree over (term_in f) (term_in f') → IsTrue th (put (term_in f') (put (term_in e) c)) × HasSort th.declared [] (put (term_in f') (put (term_in e) c)) boolean
  true_under w h f' k = (subst (λ z. IsTrue th z) (sym (condition_closed w f' k)) h, subst (λ z. HasSort th.declared [] z boolean) (sym (condition_closed w f' k)) (condition_sorted w))

  false_under : {over : List ℕ} {f e : Environment} {c : Term} {p q : Body} {rest : List Factor} → Situation th.declared t over f e (written_cond c p q) rest → IsFalse th (put (term_in (under f e)) c)
      → (f' : Environment) → Agree over (term_in f) (term_in f') → IsTrue th (put (term_in f') (!ᵗ put (term_in e) c)) × HasSort th.declared [] (put (term_in f') (!ᵗ put (term_in e) c)) boolean
  false_under {f = f} {e = e} {c = c} w h f' k =
      let q = sym (condition_closed w f' k) in
      let n = negation_true th.declared th.equations (put (term_in (under f e)) c) (condition_sorted w) in
      (subst (λ z. IsTrue th (!ᵗ z)) q (n.1 h), subst (λ z. HasSort th.declared [] (!ᵗ z) boolean) q (not_sorted (put (term_in (under f e)) c) (condition_sorted w)))

  -- the rest outside a sum is the same
  pub out_of_sum : {over : List ℕ} {f e : Environment} {x : Bound} {p : Body} {rest : List Factor} (y : ℕ) (u : Term) → (Contains over y → ⊥) → (Contains (bound_variables e) x.var → ⊥)
      → Situation th.declared t over f e (written_sum x p) rest → (r : Outcome)
      → Lands (Alike th) (following (table_in t) (under (with_sum f y u) (record { var = x.var; term = variable y } ∷ e)) r rest) (following (table_in t) (under f e) r rest)
  out_of_sum {f = f} {e = e} {x = x} {rest = rest} y u n k w r =
      subst (λ l. Lands (Alike th) (following (table_in t) l r rest) (following (table_in t) (under f e) r rest)) (sym (under_sum x.var y u w n))
      (same_following th t (bound_variables e) (record { var = x.var; term = u } ∷ under f e) (under f e)
      (λ v i. read_later x.var u (under f e) v (λ q. k (subst (λ z. Contains (bound_variables e) z) (sym q) i))) rest w.sorted_rest r)

  pub found : {over : List ℕ} {o : ℕ} {e : Environment} {path : Path} {b : Body} {rest : List Factor} {hs : List Head} → Unfolds t over o e path b rest hs → (f : Environment)
      → Situation th.declared t over f e b rest → Numbered number form hs → {m : Label} {r : Outcome} → Step th (close (table_in t) (under f e) b) m r → Found th t number form over f (under f e) rest hs m r
  found un_delta f w n s = elim s [ ]
  found (un_act {o = o} {e = e} {m = m} {rest = rest} p) f w n by_act = record {
    head = _;
    among = here;
    happens = record {
      environment = f;
      sums = no_sum;
      agree = λ v i. refl;
      holds = none_left;
      sorted = tt;
      label = sym (under_label f e m w.sorted_body);
      left = left_after_label th t number form is o f e w.has rest p w.sorted_rest (n _ here);
    };
  }
  found (un_choice {hs = hs} {ks = ks} h k) f w n (by_left s) = inside_found (λ x i. append_front _ ks i) (found h f (other_body w w.sorted_body.0) (λ x i. n x (append_front _ ks i)) s)
  found (un_choice {hs = hs} {ks = ks} h k) f w n (by_right s) = inside_found (λ x i. append_back hs i) (found k f (other_body w w.sorted_body.1) (λ x i. n x (append_back hs i)) s)
  found (un_seq {e = e} {path = path} {q = q} {rest = rest} h) f w n (by_seq {r = r} s) =
      let k = found h f (first_of_two (path ++ true ∷ []) w) n s in
      let a = k.happens in
      record {
        head = k.head;
        among = k.among;
        happens = record {
          environment = a.environment;
          sums = a.sums;
          agree = a.agree;
          holds = a.holds;
          sorted = a.sorted;
          label = a.label;
          left = left_alike (regroup th (table_in t) (under f e) (path ++ true ∷ []) q rest r) a.left;
        };
      }
  found (un_cond {e = e} {c = c} {hs = hs} {ks = ks} h k) f w n (by_true i s) =
      let a = found h f (other_body w w.sorted_body.2) (numbered_inside number form (guarded (put (term_in e) c)) (λ x. refl) hs (λ x j. n x (append_front _ (map (guarded (!ᵗ put (term_in e) c)) ks) j))) s in
      record { head = guarded (put (term_in e) c) a.head; among = append_front _ (map (guarded (!ᵗ put (term_in e) c)) ks) (map_in (guarded (put (term_in e) c)) a.among); happens = guard_happens (put (term_in e) c) (true_under w i) a.happens }
  found (un_cond {e = e} {c = c} {hs = hs} {ks = ks} h k) f w n (by_false i s) =
      let a = found k f (other_body w w.sorted_body.3) (numbered_inside number form (guarded (!ᵗ put (term_in e) c)) (λ x. refl) ks (λ x j. n x (append_back (map (guarded (put (term_in e) c)) hs) j))) s in
      record { head = guarded (!ᵗ put (term_in e) c) a.head; among = append_back (map (guarded (put (term_in e) c)) hs) (map_in (guarded (!ᵗ put (term_in e) c)) a.among); happens = guard_happens (!ᵗ put (term_in e) c) (false_under w i) a.happens }
  found (un_sum {over = over} {e = e} {x = x} {p = p} {rest = rest} {hs = hs} y n1 n2 h) f w n {m} {r} (by_sum u i s) =
      let a = found h (with_sum f y u) (inside_sum y u n1 i w) (numbered_inside number form (summed (record { var = y; sort = x.sort })) (λ z. refl) hs n) (subst (λ l. Step th (close (table_in t) l p) m r) (sym (under_sum x.var y u w n1)) s) in
      let b = a.happens in
      record {
        head = summed (record { var = y; sort = x.sort }) a.head;
        among = map_in (summed (record { var = y; sort = x.sort })) a.among;
        happens = record {
          environment = b.environment;
          sums = one_sum u i b.sums;
          agree = λ v j. agree_behind over f y u n1 v j ∙ b.agree v (in_more y v over j);
          holds = b.holds;
          sorted = b.sorted;
          label = b.label;
          left = left_alike (out_of_sum y u n1 n2 w r) b.left;
        };
      }
  found (un_call {over = over} {o = o} {e = e} {x = x} {ts = ts} {rest = rest} {hs = hs} q at p h) f w n {m} {r} (by_call b s) =
      let a = found h f (inside_call th t q is.definitions at w) (λ z i c j. n _ (map_in (followed (rest_call t o e rest)) i) c (append_front _ (rest_call t o e rest) j))
      (subst (λ l. Step th (close (table_in t) l q.body) m r) (sym (under_call (variables q.params) w)) (subst (λ z. Step th z m r) (body_is t q at b) s)) in
      let k = a.happens in
      record {
        head = followed (rest_call t o e rest) a.head;
        among = map_in (followed (rest_call t o e rest)) a.among;
        happens = record {
          environment = k.environment;
          sums = k.sums;
          agree = k.agree;
          holds = k.holds;
          sorted = k.sorted;
          label = k.label;
          left = subst (λ l. LeftOver th (Stands th t form) (following (table_in t) l r rest) (closed_calls number k.environment (a.head.next ++ rest_call t o e rest))) (w.stable k.environment k.agree)
              (left_after_call th t number form is o k.environment e (subst (λ l. HaveTerms th.declared t.variables (bound_variables e) (term_in l)) (sym (w.stable k.environment k.agree)) w.has) rest p a.head.next
              (n _ (map_in (followed (rest_call t o e rest)) a.among)) r k.left);
        };
      }
