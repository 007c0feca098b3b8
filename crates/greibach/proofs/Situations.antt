-- A body under way: what is known of its environment and of its rest.
use Rattle.std.proofs.Common.{◌≡◌, ℕ, suc, ⊎_elim, List, [], ◌∷◌, ◌++◌, map, length, true, false, cond, Some, refl, sym, ap, ap₂, ◌∙◌, subst}
use Rattle.std.specs.Prelude.{Contains, slice_get, option_map}
use Rattle.std.proofs.lemmas.List.{length-map}
use Rattle.std.proofs.lemmas.Option.{slice_get-map}
use Rattle.std.proofs.lemmas.Bool.Decides.{eqb_tells}
use Rattle.data_theory.specs.Terms.{Sort, Term, variable, put}
use Rattle.data_theory.specs.Declarations.{Data, Declares, HasSort, HaveSorts}
use Rattle.data_theory.specs.Environments.{Environment, term_in, bound, bound_variables, terms_of, AreOver, Agree, AreDistinct}
use Rattle.data_theory.proofs.EnvironmentLemmas.{contains_first, contains_later, contains_cases, bound_are_the_parameters, putting_in_goes_through_lists}
use Rattle.process_terms.specs.Theories.{Theory, AreOfSorts}
use Rattle.process_terms.specs.Processes.{Bound, Body, written_delta, written_act, written_choice, written_seq, written_cond, written_sum, written_call, written_merge, written_starting, written_around, Process, close, BodyOf, the_body}
use Rattle.bisim_laws.specs.LinearProcesses.{variables, sorts, AreDeclared, reading}
use Rattle.bisim_laws.specs.BaseStates.{Piece}
use Rattle.bisim_laws.proofs.Firing.{read_now, read_later, bound_reads, contains_first as bound_first, contains_later as bound_later}
use Rattle.bisim_laws.proofs.SortedFiring.{HaveTerms, put_all_sorted, one_sort, bound_sorted, read_sorted}
use Rattle.lps_core.proofs.Members.{In, here, there, in_append}
use Rattle.lps_core.proofs.OverVariables.{Within}
use Rattle.greibach.specs.Places.{Path, Factor, factors, Text, definition_in, table_in, IsSortedBody}
use Rattle.greibach.specs.UnfoldedForms.{HasDefinitions}
use Rattle.greibach.proofs.Under.{under, under_terms, under_bound, within_first, sorted_more}

-- ---- factors
pub factors_sorted : (g : Data) (t : Text) (xs : List ℕ) (path : Path) (q : Body) → IsSortedBody g t xs q → (r : Factor) → In r (factors path q) → IsSortedBody g t xs r.body
factors_sorted g t xs path (written_seq p q) h r i = ⊎_elim
    (λ j. factors_sorted g t xs (path ++ false ∷ []) p h.0 r j)
    (λ j. factors_sorted g t xs (path ++ true ∷ []) q h.1 r j)
    (in_append (factors (path ++ false ∷ []) p) (factors (path ++ true ∷ []) q) i)
factors_sorted g t xs path written_delta h _ here = h
factors_sorted g t xs path written_delta h r (there i) = elim i [ ]
factors_sorted g t xs path (written_act m) h _ here = h
factors_sorted g t xs path (written_act m) h r (there i) = elim i [ ]
factors_sorted g t xs path (written_choice p q) h _ here = h
factors_sorted g t xs path (written_choice p q) h r (there i) = elim i [ ]
factors_sorted g t xs path (written_cond c p q) h _ here = h
factors_sorted g t xs path (written_cond c p q) h r (there i) = elim i [ ]
factors_sorted g t xs path (written_sum x p) h _ here = h
factors_sorted g t xs path (written_sum x p) h r (there i) = elim i [ ]
factors_sorted g t xs path (written_call x ts) h _ here = h
factors_sorted g t xs path (written_call x ts) h r (there i) = elim i [ ]
factors_sorted g t xs path (written_merge p q) h _ i = absurd h
factors_sorted g t xs path (written_starting start p q) h _ i = absurd h
factors_sorted g t xs path (written_around o p) h _ i = absurd h

-- ---- terms of sorts
pub have_first : (g : Data) (vs : List Sort) (xs : List ℕ) (x : Bound) (u : Term) (e : Environment) → Declares vs x.var x.sort → HasSort g [] u x.sort → HaveTerms g vs xs (term_in e)
    → HaveTerms g vs (x.var ∷ xs) (term_in (record { var = x.var; term = u } ∷ e))
have_first g vs xs x u e k h f v s i d = ⊎_elim
    (λ y. subst (λ z. HasSort g [] z s) (sym (ap (λ c. cond c u (term_in e v)) y.0)) (subst (λ z. HasSort g [] u z) (one_sort vs v x.sort s (subst (λ z. Declares vs z x.sort) y.1 k) d) h))
    (λ n. subst (λ z. HasSort g [] z s) (sym (ap (λ c. cond c u (term_in e v)) n.0)) (f v s (⊎_elim (λ q. absurd (n.1 q)) (λ j. j) (contains_cases x.var v xs i)) d))
    (eqb_tells x.var v)

pub reads_sorted : (g : Data) (vs : List Sort) (xs : List ℕ) (e : Environment) → HaveTerms g vs xs (term_in e) → (ps : List Bound) → AreDeclared vs ps → Within (variables ps) xs
    → HaveSorts g [] (terms_of (reading e (variables ps))) (sorts ps)
reads_sorted g vs xs e f [] d w = tt
reads_sorted g vs xs e f (p ∷ ps) d w =
    (f p.var p.sort (w p.var (contains_first p.var (variables ps))) (d p (bound_first p ps)), reads_sorted g vs xs e f ps (λ y i. d y (bound_later p y ps i)) (λ v i. w v (contains_later p.var v (variables ps) i)))

pub puts_sorted : (g : Data) (vs : List Sort) (xs : List ℕ) (e : Environment) → HaveTerms g vs xs (term_in e) → (ts : List Term) (ss : List Sort) → AreOver xs (terms_of ts) → HaveSorts g vs (terms_of ts) ss
    → HaveSorts g [] (terms_of (map (put (term_in e)) ts)) ss
puts_sorted g vs xs e f ts ss o h = subst (λ l. HaveSorts g [] l ss) (putting_in_goes_through_lists (term_in e) ts) (put_all_sorted g vs xs (term_in e) f (terms_of ts) ss o h)

pub sorts_long : (g : Data) (vs : List Sort) (ts : List Term) (ps : List Bound) → HaveSorts g vs (terms_of ts) (sorts ps) → length ts ≡ length (variables ps)
sorts_long g vs [] [] h = refl
sorts_long g vs [] (p ∷ ps) h = absurd h
sorts_long g vs (t ∷ ts) [] h = absurd h
sorts_long g vs (t ∷ ts) (p ∷ ps) h = ap suc (sorts_long g vs ts ps h.1)

-- ---- a body under way
-- f gives closed terms to the equation's variables, and e the terms over these for the body's own variables
pub record Situation (g : Data) (t : Text) (over : List ℕ) (f e : Environment) (b : Body) (rest : List Factor) : Type 0 where
  pub sorted_body : IsSortedBody g t (bound_variables e) b
  pub sorted_rest : (r : Factor) → In r rest → IsSortedBody g t (bound_variables e) r.body
  pub has : HaveTerms g t.variables (bound_variables e) (term_in (under f e))
  pub stable : (f' : Environment) → Agree over (term_in f) (term_in f') → under f' e ≡ under f e

pub other_body : {g : Data} {t : Text} {over : List ℕ} {f e : Environment} {b c : Body} {rest : List Factor} → Situation g t over f e b rest → IsSortedBody g t (bound_variables e) c → Situation g t over f e c rest
other_body w h = record { sorted_body = h; sorted_rest = w.sorted_rest; has = w.has; stable = w.stable }

pub first_of_two : {g : Data} {t : Text} {over : List ℕ} {f e : Environment} {p q : Body} {rest : List Factor} (path : Path) → Situation g t over f e (written_seq p q) rest → Situation g t over f e p (factors path q ++ rest)
first_of_two {g} {t} {e = e} {q = q} {rest = rest} path w = record {
  sorted_body = w.sorted_body.0;
  sorted_rest = λ r i. ⊎_elim (λ j. factors_sorted g t (bound_variables e) path q w.sorted_body.1 r j) (λ j. w.sorted_rest r j) (in_append (factors path q) rest i);
  has = w.has;
  stable = w.stable;
}

-- a term for a renewed sum variable
abbrev pub with_sum : Environment → ℕ → Term → Environment
with_sum f y u = record { var = y; term = u } ∷ f

pub agree_behind : (over : List ℕ) (f : Environment) (y : ℕ) (u : Term) → (Contains over y → ⊥) → Agree over (term_in f) (term_in (with_sum f y u))
agree_behind over f y u n v i = sym (read_later y u f v (λ q. n (subst (λ z. Contains over z) (sym q) i)))

pub under_sum : {g : Data} {t : Text} {over : List ℕ} {f e : Environment} {b : Body} {rest : List Factor} (x y : ℕ) (u : Term) → Situation g t over f e b rest → (Contains over y → ⊥)
    → under (with_sum f y u) (record { var = x; term = variable y } ∷ e) ≡ record { var = x; term = u } ∷ under f e
under_sum {over = over} {f = f} {e = e} x y u w n = ap₂ (λ z l. record { var = x; term = z } ∷ l) (read_now y u f) (w.stable (with_sum f y u) (agree_behind over f y u n))

pub inside_sum : {g : Data} {t : Text} {over : List ℕ} {f e : Environment} {x : Bound} {p : Body} {rest : List Factor} (y : ℕ) (u : Term) → (Contains over y → ⊥) → HasSort g [] u x.sort
    → Situation g t over f e (written_sum x p) rest → Situation g t (y ∷ over) (with_sum f y u) (record { var = x.var; term = variable y } ∷ e) p rest
inside_sum {g} {t} {over} {f} {e} {x} {p} {rest} y u n h w = record {
  sorted_body = w.sorted_body.1;
  sorted_rest = λ r i. sorted_more g t (bound_variables e) (x.var ∷ bound_variables e) (within_first x.var (bound_variables e)) r.body (w.sorted_rest r i);
  has = subst (λ l. HaveTerms g t.variables (x.var ∷ bound_variables e) (term_in l)) (sym (under_sum x.var y u w n)) (have_first g t.variables (bound_variables e) x u (under f e) w.sorted_body.0 h w.has);
  stable = λ f' k. ap₂ (λ z l. record { var = x.var; term = z } ∷ l) (sym (k y (contains_first y over)))
      (w.stable f' (λ v i. agree_behind over f y u n v i ∙ k v (contains_later y v over i)) ∙ sym (w.stable (with_sum f y u) (agree_behind over f y u n)));
}

pub call_long : {g : Data} {t : Text} {over : List ℕ} {f e : Environment} {x : ℕ} {ts : List Term} {rest : List Factor} (q : Piece) → slice_get t.definitions x ≡ Some q → Situation g t over f e (written_call x ts) rest
    → HaveSorts g t.variables (terms_of ts) (sorts q.params)
call_long {g} {t} {ts = ts} q at w = let k = w.sorted_body.1 in let same : k.0 ≡ q = cc in subst (λ z. HaveSorts g t.variables (terms_of ts) (sorts z.params)) same k.2

pub under_call : {g : Data} {t : Text} {over : List ℕ} {f e : Environment} {x : ℕ} {ts : List Term} {rest : List Factor} (xs : List ℕ) → Situation g t over f e (written_call x ts) rest
    → under f (bound xs (map (put (term_in e)) ts)) ≡ bound xs (map (put (term_in (under f e))) ts)
under_call {f = f} {e = e} {ts = ts} xs w = under_bound f xs (map (put (term_in e)) ts) ∙ ap (bound xs) (under_terms f e ts w.sorted_body.0)

-- arguments of a definition's sorts, bound to its parameters
pub bound_has : (th : Theory) (t : Text) (q : Piece) (us : List Term) → AreDeclared t.variables q.params → AreDistinct (variables q.params) → AreOfSorts th (sorts q.params) us
    → HaveTerms th.declared t.variables (variables q.params) (term_in (bound (variables q.params) us))
bound_has th t q us d n h =
    bound_sorted th t.variables q.params (bound (variables q.params) us) d
    (read_sorted th q.params (bound (variables q.params) us)
    (subst (λ l. AreOfSorts th (sorts q.params) l) (sym (bound_reads (variables q.params) us (sorts_long th.declared [] us q.params h) n)) h))

pub inside_call : (th : Theory) (t : Text) {over : List ℕ} {f e : Environment} {x : ℕ} {ts : List Term} {rest : List Factor} (q : Piece) → HasDefinitions th.declared t → slice_get t.definitions x ≡ Some q
    → Situation th.declared t over f e (written_call x ts) rest → Situation th.declared t over f (bound (variables q.params) (map (put (term_in e)) ts)) q.body []
inside_call th t {over} {f} {e} {x} {ts} {rest} q defs at w =
    let s = call_long q at w in
    let d = defs x q at (w.sorted_body.1).3 in
    let long : length (map (put (term_in e)) ts) ≡ length (variables q.params) = length-map ts (put (term_in e)) ∙ sorts_long th.declared t.variables ts q.params s in
    let vars : bound_variables (bound (variables q.params) (map (put (term_in e)) ts)) ≡ variables q.params = bound_are_the_parameters (variables q.params) (map (put (term_in e)) ts) long in
    let us : List Term = map (put (term_in (under f e))) ts in
    let u : under f (bound (variables q.params) (map (put (term_in e)) ts)) ≡ bound (variables q.params) us = under_call (variables q.params) w in
    record {
      sorted_body = subst (λ l. IsSortedBody th.declared t l q.body) (sym vars) d.1;
      sorted_rest = λ r i. elim i [ ];
      has = subst (λ l. HaveTerms th.declared t.variables l (term_in (under f (bound (variables q.params) (map (put (term_in e)) ts))))) (sym vars)
          (subst (λ l. HaveTerms th.declared t.variables (variables q.params) (term_in l)) (sym u)
          (bound_has th t q us d.2 d.3 (puts_sorted th.declared t.variables (bound_variables e) (under f e) w.has ts (sorts q.params) w.sorted_body.0 s)));
      stable = λ f' k.
          under_bound f' (variables q.params) (map (put (term_in e)) ts)
          ∙ ap (bound (variables q.params)) (under_terms f' e ts w.sorted_body.0 ∙ ap (λ l. map (put (term_in l)) ts) (w.stable f' k))
          ∙ sym u;
    }

-- ---- definitions
pub definition_at : (t : Text) (x : ℕ) (q : Piece) → slice_get t.definitions x ≡ Some q → slice_get (table_in t) x ≡ Some (definition_in q)
definition_at t x q at = slice_get-map definition_in t.definitions x ∙ ap (option_map definition_in) at

pub body_is : (t : Text) {x : ℕ} {us : List Term} {p : Process} (q : Piece) → slice_get t.definitions x ≡ Some q → BodyOf (table_in t) x us p → p ≡ close (table_in t) (bound (variables q.params) us) q.body
body_is t q at (the_body {x = x} {ts = us} f k l) = let there : slice_get (table_in t) x ≡ Some (definition_in q) = definition_at t x q at in
    let same : f ≡ definition_in q = cc in ap (λ z. close (table_in t) (bound z.params us) z.body) same

pub has_body : (t : Text) (x : ℕ) (us : List Term) (q : Piece) → slice_get t.definitions x ≡ Some q → length us ≡ length (variables q.params) → BodyOf (table_in t) x us (close (table_in t) (bound (variables q.params) us) q.body)
has_body t x us q at l = the_body (definition_in q) (definition_at t x q at) l
