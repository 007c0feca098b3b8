-- Provably equal arguments give the same bodies.
use Rattle.std.proofs.Common.{◌≡◌, ℕ, suc, List, [], ◌∷◌, map, length, refl, sym, ap, ◌∙◌, subst, true, false, cond as by_test, ◌==◌, Option, Some, None}
use Rattle.std.specs.Prelude.{slice_get}
use Rattle.data_theory.specs.Terms.{Term, put}
use Rattle.data_theory.specs.Provable.{reflexive, symmetric}
use Rattle.data_theory.specs.Environments.{Environment, term_in, bound}
use Rattle.data_theory.proofs.EqualityLemmas.{put_equal}
use Rattle.process_terms.specs.Theories.{Theory, Equal, Equals, no_terms, more_terms}
use Rattle.process_terms.specs.Labels.{Label, put_label, equal_args, AgreeInOrder, both_silent, next_agree}
use Rattle.process_terms.specs.Processes.{Body, written_delta, written_act, written_choice, written_seq, written_cond, written_sum, written_call, written_merge, written_starting, written_around, Definition, Table, Process, close, BodyOf, the_body}
use Rattle.process_terms.proofs.AgreeingLabels.{equals_sym, agree_sym}
use Rattle.bisim_laws.specs.Sameness.{SameBody, same_delta, same_act, same_choice, same_seq, same_cond, same_sum, same_call, same_merge, same_starting, same_around, SameDefinition, both_missing, both_there, SameTables, EqualData, equal_delta, equal_act, equal_choice, equal_seq, equal_cond, equal_sum, equal_call, equal_merge, equal_starting, equal_around}

-- bindings of the same variables to provably equal terms
pub data EqualBindings (th : Theory) : Environment → Environment → Type 0 where
  no_bindings : EqualBindings th [] []
  one_binding : {x : ℕ} {t u : Term} {d e : Environment} → Equal th t u → EqualBindings th d e → EqualBindings th (record { var = x; term = t } ∷ d) (record { var = x; term = u } ∷ e)

pub value_equal : {th : Theory} {d e : Environment} (v : ℕ) → EqualBindings th d e → Equal th (term_in d v) (term_in e v)
value_equal v no_bindings = reflexive
value_equal {th} v (one_binding {x = x} {t = t} {u = u} {d = d} {e = e} h k) =
    elim (x == v) as (λ b. Equal th (by_test b t (term_in d v)) (by_test b u (term_in e v))) [ true ↦ h | false ↦ value_equal v k ]

pub term_equal : (th : Theory) (d e : Environment) → EqualBindings th d e → (t : Term) → Equal th (put (term_in d) t) (put (term_in e) t)
term_equal th d e h t = put_equal th.declared th.equations (term_in d) (term_in e) (λ v. value_equal v h) t

pub terms_equal : (th : Theory) (d e : Environment) → EqualBindings th d e → (ts : List Term) → Equals th (map (put (term_in d)) ts) (map (put (term_in e)) ts)
terms_equal th d e h [] = no_terms
terms_equal th d e h (t ∷ ts) = more_terms (term_equal th d e h t) (terms_equal th d e h ts)

pub label_equal : (th : Theory) (d e : Environment) → EqualBindings th d e → (m : Label) → AgreeInOrder th (put_label d m) (put_label e m)
label_equal th d e h [] = both_silent
label_equal th d e h (a ∷ m) = next_agree (equal_args (terms_equal th d e h a.args)) (label_equal th d e h m)

pub body_refl : (th : Theory) (d e : Environment) → EqualBindings th d e → (p : Body) → SameBody th d p e p
body_refl th d e h written_delta = same_delta
body_refl th d e h (written_act m) = same_act (label_equal th d e h m)
body_refl th d e h (written_choice p q) = same_choice (body_refl th d e h p) (body_refl th d e h q)
body_refl th d e h (written_seq p q) = same_seq (body_refl th d e h p) (body_refl th d e h q)
body_refl th d e h (written_cond c p q) = same_cond (term_equal th d e h c) (body_refl th d e h p) (body_refl th d e h q)
body_refl th d e h (written_sum x p) = same_sum (λ t. body_refl th (record { var = x.var; term = t } ∷ d) (record { var = x.var; term = t } ∷ e) (one_binding reflexive h) p)
body_refl th d e h (written_call x ts) = same_call (terms_equal th d e h ts)
body_refl th d e h (written_merge p q) = same_merge (body_refl th d e h p) (body_refl th d e h q)
body_refl th d e h (written_starting o p q) = same_starting (body_refl th d e h p) (body_refl th d e h q)
body_refl th d e h (written_around o p) = same_around (body_refl th d e h p)

pub closed_equal : {th : Theory} {d d' : Table} → SameTables th d d' → {e f : Environment} {p q : Body} → SameBody th e p f q → EqualData th (close d e p) (close d' f q)
closed_equal k same_delta = equal_delta
closed_equal k (same_act h) = equal_act h
closed_equal k (same_choice h i) = equal_choice (closed_equal k h) (closed_equal k i)
closed_equal k (same_seq h i) = equal_seq (closed_equal k h) (closed_equal k i)
closed_equal k (same_cond c h i) = equal_cond c (closed_equal k h) (closed_equal k i)
closed_equal k (same_sum h) = equal_sum (λ t. closed_equal k (h t))
closed_equal k (same_call h) = equal_call k h
closed_equal k (same_merge h i) = equal_merge (closed_equal k h) (closed_equal k i)
closed_equal k (same_starting h i) = equal_starting (closed_equal k h) (closed_equal k i)
closed_equal k (same_around h) = equal_around (closed_equal k h)

pub bound_equal : {th : Theory} {ts us : List Term} (xs : List ℕ) → Equals th ts us → EqualBindings th (bound xs ts) (bound xs us)
bound_equal [] h = no_bindings
bound_equal (x ∷ xs) no_terms = no_bindings
bound_equal (x ∷ xs) (more_terms h k) = one_binding h (bound_equal xs k)

definition_refl : (th : Theory) (f : Option Definition) → SameDefinition th f f
definition_refl th None = both_missing
definition_refl th (Some f) = both_there refl (λ ts us l h. body_refl th (bound f.params ts) (bound f.params us) (bound_equal f.params h) f.body)

pub tables_refl : (th : Theory) (d : Table) → SameTables th d d
tables_refl th d = record { at = λ x. definition_refl th (slice_get d x) }

pub equals_long : {th : Theory} {ts us : List Term} → Equals th ts us → length ts ≡ length us
equals_long no_terms = refl
equals_long (more_terms h k) = ap suc (equals_long k)

-- the bodies of two calls
pub record Bodies (th : Theory) (e : Table) (x : ℕ) (us : List Term) (p : Process) : Type 0 where
  pub other : Process
  pub body : BodyOf e x us other
  pub same : EqualData th p other

definitions_equal : (th : Theory) (d e : Table) → SameTables th d e → {o o' : Option Definition} → SameDefinition th o o' → (x : ℕ) → slice_get e x ≡ o' → (f : Definition) → o ≡ Some f
    → (ts us : List Term) → length ts ≡ length f.params → Equals th ts us → Bodies th e x us (close d (bound f.params ts) f.body)
definitions_equal th d e k both_missing x at f q ts us l h = absurd (nothing_there q)
  where
    nothing_there : None ≡ Some f → ⊥
    nothing_there q = cc
definitions_equal th d e k (both_there {f = f'} {g = g} n b) x at f q ts us l h =
    let same : f' ≡ f = cc in
    let l' : length ts ≡ length f'.params = l ∙ sym (ap (λ z. length z.params) same) in
    subst (λ z. Bodies th e x us (close d (bound z.params ts) z.body)) same
    (record { other = close e (bound g.params us) g.body; body = the_body g at (sym (equals_long h) ∙ l' ∙ n); same = closed_equal k (b ts us l' h) })

pub bodies_equal : {th : Theory} {d e : Table} → SameTables th d e → {x : ℕ} {ts : List Term} {p : Process} → BodyOf d x ts p → (us : List Term) → Equals th ts us → Bodies th e x us p
bodies_equal {th} {d} {e} k (the_body {x = x} {ts = ts} f at l) us h = definitions_equal th d e k (k.at x) x refl f at ts us l h

-- ---- the other way round
body_sym : {th : Theory} {d e : Environment} {p q : Body} → SameBody th d p e q → SameBody th e q d p
body_sym same_delta = same_delta
body_sym (same_act h) = same_act (agree_sym h)
body_sym (same_choice h i) = same_choice (body_sym h) (body_sym i)
body_sym (same_seq h i) = same_seq (body_sym h) (body_sym i)
body_sym (same_cond c h i) = same_cond (symmetric c) (body_sym h) (body_sym i)
body_sym (same_sum h) = same_sum (λ t. body_sym (h t))
body_sym (same_call h) = same_call (equals_sym h)
body_sym (same_merge h i) = same_merge (body_sym h) (body_sym i)
body_sym (same_starting h i) = same_starting (body_sym h) (body_sym i)
body_sym (same_around h) = same_around (body_sym h)

definition_sym : {th : Theory} {f g : Option Definition} → SameDefinition th f g → SameDefinition th g f
definition_sym both_missing = both_missing
definition_sym (both_there n h) = both_there (sym n) (λ ts us l e. body_sym (h us ts (sym (equals_long e) ∙ l ∙ sym n) (equals_sym e)))

pub tables_sym : {th : Theory} {d e : Table} → SameTables th d e → SameTables th e d
tables_sym k = record { at = λ x. definition_sym (k.at x) }
