-- Closed terms in a pool, and how their equalities come out.
use Rattle.std.specs.Prelude.{◌≡◌, ◌<◌, ◌+◌, ◌++◌, ℕ, List, [], ◌∷◌, length, map, take, slice_index_or, None, Result, Ok, Err, IfOk}
use Rattle.std.proofs.Common.{refl, sym, subst, ap, ap₂, ◌∙◌}
use Rattle.std.specs.List.{All, AllByRecursion}
use Rattle.std.proofs.lemmas.List.{map-append}
use Rattle.std.proofs.lemmas.List.Elements.{All-nil, All-cons, All-head, All-tail, All-weaker}
use Rattle.data_theory.specs.Declarations.{IsData, HasSort, HaveSorts}
use Rattle.data_theory.specs.Environments.{Environment, term_in, terms_of}
use Rattle.data_theory.specs.Equations.{equals}
use Rattle.data_theory.specs.IdData.{data_meant}
use Rattle.data_theory.specs.IdTerms.{sort_under}
use Rattle.data_theory.specs.IdTrees.{Tree}
use Rattle.data_theory.specs.Keys.{Key}
use Rattle.data_theory.specs.Signature.{Sig}
use Rattle.data_theory.specs.Terms.{Sort, boolean, Term, put}
use Rattle.data_theory.specs.WholeSignatures.{IsSignature}
use Rattle.data_theory.specs.declared.ids.ActId.{ActId}
use Rattle.data_theory.specs.declared.ids.SortId.{SortId}
use Rattle.data_theory.specs.declared.ids.TermId.{TermId}
use Rattle.data_theory.specs.declared.ids.VarId.{VarId}
use Rattle.data_theory.proofs.EnvironmentLemmas.{closed_terms_stay}
use Rattle.data_theory.proofs.IdDataLemmas.{meant_data_are_data}
use Rattle.data_theory.proofs.WellSorted.{sort_of_term}
use Rattle.term_pool.specs.Pools.{Extends}
use Rattle.data_rewriter.specs.Standing.{IsTerm, term_at}
use Rattle.process_terms.specs.declared.labels.Action.{Action as CodeAction}
use Rattle.process_terms.specs.Communication.{equalities}
use Rattle.process_terms.specs.Labels.{Action}
use Rattle.process_terms.specs.Meanings.{action_of, label_of}
use Rattle.process_terms.specs.PlainProcesses.{PlainAction, plain_action}
use Rattle.process_terms.specs.SignatureEntries.{entries_of}
use Rattle.bisim_laws.specs.LinearProcesses.{LabelIsSorted, no_action_to_sort, action_sorted}
use Rattle.lps_core.specs.Fitting.{sort_of_variable, IsActionOf, IsVariable}
use Rattle.lps_core.proofs.Staying.{sort_is_within, sorts_of_variables}
use Rattle.lps_simulator.specs.OptionsInCode.{PlainMove, IsMove, IsState, terms_at}
use Rattle.lps_simulator.proofs.FittingSummands.{all_sorted_within, label_stays, move_stays}
use Rattle.trace_replay.specs.DecidedConditions.{conditions_with}
use Rattle.trace_replay.specs.Decidings.{Answer, hold, fail, stay_open, ComeOut}
use Rattle.trace_replay.specs.Settings.{Setting}
use Rattle.trace_replay.specs.Ways.{key_at, ActionIs}
use Rattle.trace_replay.proofs.BegunWays.{alike_same, same_alike}
use Rattle.trace_replay.proofs.EqualityTerms.{equalities_are, fitting_action, key_is, terms_meant}
use Rattle.aut_check.specs.Comparing.{ActionsCome, AreClosed, IsClosedIn}
use Rattle.aut_check.proofs.TableLaws.{taken}

pub if_ok_then : {A E : Type 0} {P Q : A → Type 0} (r : Result A E) → ((a : A) → P a → Q a) → IfOk r P → IfOk r Q
if_ok_then (Ok a) f h = f a h
if_ok_then (Err e) f h = h

pub same_act : (i j : ActId) → i.0 ≡ j.0 → i ≡ j
same_act i j e = ap (λ (n : ℕ). record { 0 = n }) e

-- ---- equalities of closed terms
module _ (g : Sig) (stands : IsSignature g) where
  are_data : IsData (data_meant g)
  are_data = meant_data_are_data g stands.table stands.roles

  equalities_sorted : (ss : List Sort) (ts us : List Term) → HaveSorts (data_meant g) [] (terms_of ts) ss → HaveSorts (data_meant g) [] (terms_of us) ss → AllByRecursion (λ (c : Term). HasSort (data_meant g) [] c boolean) (equalities ss ts us)
  equalities_sorted [] ts us h k = tt
  equalities_sorted (s ∷ ss) [] us h k = tt
  equalities_sorted (s ∷ ss) (t ∷ ts) [] h k = tt
  equalities_sorted (s ∷ ss) (t ∷ ts) (u ∷ us) h k = (one s t u h.0 k.0, equalities_sorted ss ts us h.1 k.1)
    where
      one : (a : Sort) (x y : Term) → HasSort (data_meant g) [] x a → HasSort (data_meant g) [] y a → HasSort (data_meant g) [] (equals a x y) boolean
      one a x y p q = (sort_of_term (data_meant g) are_data x a p, (p, (q, tt)), refl, refl)

  all_stay : (e : Environment) (cs : List Term) → AllByRecursion (λ (c : Term). HasSort (data_meant g) [] c boolean) cs → map (put (term_in e)) cs ≡ cs
  all_stay e [] h = refl
  all_stay e (c ∷ cs) h = ap₂ (λ (t : Term) (ts : List Term). t ∷ ts) (closed_terms_stay (data_meant g) (term_in e) c boolean h.0) (all_stay e cs h.1)

  -- decided with nothing put in
  pub equal_decided : (s : Setting) (ts us : List Tree) (ss : List SortId) (xs ys ids old : List TermId) (a : Answer) → AreClosed g ts ss xs → AreClosed g ts ss ys → old ≡ []
      → map (term_at g us) ids ≡ map (term_at g ts) old ++ equalities (map (sort_under g) ss) (map (term_at g ts) xs) (map (term_at g ts) ys) → ComeOut s (conditions_with g us [] ids) a
      → ComeOut s (equalities (map (sort_under g) ss) (map (term_at g ts) xs) (map (term_at g ts) ys)) a
  equal_decided s ts us ss xs ys ids old a h k none made c =
      let all : List Term = equalities (map (sort_under g) ss) (map (term_at g ts) xs) (map (term_at g ts) ys) in
      let are : map (term_at g us) ids ≡ all = made ∙ ap (λ (zs : List TermId). map (term_at g ts) zs ++ all) none in
      subst (λ (cs : List Term). ComeOut s cs a) (ap (map (put (term_in []))) are ∙ all_stay [] all (equalities_sorted (map (sort_under g) ss) (map (term_at g ts) xs) (map (term_at g ts) ys) h.closed k.closed)) c

  -- ---- states
  pub sorts_within : (vs : List VarId) → All (IsVariable g) vs → All (λ (s : SortId). s.0 < length g.sorts) (map (sort_of_variable g) vs)
  sorts_within [] h = All-nil (λ (s : SortId). s.0 < length g.sorts)
  sorts_within (v ∷ vs) h =
      All-cons (λ (s : SortId). s.0 < length g.sorts) (sort_of_variable g v) (map (sort_of_variable g) vs) (sort_is_within g v stands.complete (All-head (IsVariable g) v vs h)) (sorts_within vs (All-tail (IsVariable g) v vs h))

  pub state_closed : (ts : List Tree) (vs : List VarId) (ss : List SortId) (ids : List TermId) → All (IsVariable g) vs → ss ≡ map (sort_of_variable g) vs → IsState g ts vs ids → AreClosed g ts ss ids
  state_closed ts vs ss ids declared e h =
      let over : All (IsTerm g ts) ids = all_sorted_within g stands ts (map (sort_of_variable g) vs) ids h.terms in
      record {
        over = over;
        closed = subst (λ (zs : List SortId). HaveSorts (data_meant g) [] (terms_of (map (term_at g ts) ids)) (map (sort_under g) zs)) (sym e)
            (subst (λ (us : List Term). HaveSorts (data_meant g) [] (terms_of us) (map (sort_under g) (map (sort_of_variable g) vs))) (sym (terms_meant g ts ids over))
            (subst (HaveSorts (data_meant g) [] (terms_of (terms_at g ts ids))) (sorts_of_variables g ts vs declared) h.closed));
      }

  -- ---- actions
  pub action_is : (ts : List Tree) (x : PlainAction) → IsClosedIn g ts x → ActionIs g ts x (action_of (entries_of g ts) x)
  action_is ts x h = fitting_action g stands ts x h.stands

  pub first_closed : (ts : List Tree) (x : PlainAction) (ss : List SortId) (ids : List TermId) → IsClosedIn g ts x → ss ≡ (key_at g x).sorts → ids ≡ x.args → AreClosed g ts ss ids
  first_closed ts x ss ids h e q = closed_as ts x (action_of (entries_of g ts) x).sorts ss ids h (ap (map (sort_under g)) (e ∙ ap (λ (k : Key). k.sorts) (key_is g ts x (action_of (entries_of g ts) x) (action_is ts x h))) ∙ (action_is ts x h).sorts) refl q
    where
      closed_as : (ts : List Tree) (x : PlainAction) (sorts : List Sort) (ss : List SortId) (ids : List TermId) → IsClosedIn g ts x → map (sort_under g) ss ≡ sorts → (action_of (entries_of g ts) x).sorts ≡ sorts → ids ≡ x.args → AreClosed g ts ss ids
      closed_as ts x sorts ss ids h e same q =
          let is = action_is ts x h in
          record {
            over = subst (All (IsTerm g ts)) (sym q) is.over;
            closed = subst (λ (zs : List Sort). HaveSorts (data_meant g) [] (terms_of (map (term_at g ts) ids)) zs) (same ∙ sym e)
                (subst (λ (us : List Term). HaveSorts (data_meant g) [] (terms_of us) (action_of (entries_of g ts) x).sorts) (sym (ap (map (term_at g ts)) q ∙ is.args)) h.closed);
          }

  -- of an action with the same number
  pub second_closed : (ts : List Tree) (x y : PlainAction) (ss : List SortId) (ids : List TermId) → IsClosedIn g ts x → IsClosedIn g ts y → y.act ≡ x.act → ss ≡ (key_at g x).sorts → ids ≡ y.args → AreClosed g ts ss ids
  second_closed ts x y ss ids h k same e q = first_closed ts y ss ids k (e ∙ ap (λ i. (key_at g (record { act = i; args = [] })).sorts) (sym same)) q

  pub actions_differ : (s : Setting) (ts : List Tree) (x y : PlainAction) → IsClosedIn g ts x → IsClosedIn g ts y → (y.act ≡ x.act → ⊥) → ActionsCome s (action_of (entries_of g ts) x) (action_of (entries_of g ts) y) fail
  actions_differ s ts x y h k other e q = absurd (other (alike_same g stands ts ts x y (action_of (entries_of g ts) x) (action_of (entries_of g ts) y) (action_is ts x h) (action_is ts y k) e q))

  pub actions_come_so : (s : Setting) (ts : List Tree) (x y : PlainAction) (ss : List SortId) (xs ys : List TermId) (a : Answer) → IsClosedIn g ts x → IsClosedIn g ts y → y.act ≡ x.act → ss ≡ (key_at g x).sorts → xs ≡ x.args → ys ≡ y.args
      → ComeOut s (equalities (map (sort_under g) ss) (map (term_at g ts) xs) (map (term_at g ts) ys)) a → ActionsCome s (action_of (entries_of g ts) x) (action_of (entries_of g ts) y) a
  actions_come_so s ts x y ss xs ys a h k same e q r c =
      by a (subst (λ (cs : List Term). ComeOut s cs a) (equalities_are g ts x y (action_of (entries_of g ts) x) (action_of (entries_of g ts) y) (action_is ts x h) (action_is ts y k) ss xs ys e q r) c)
      (same_alike g ts ts x y (action_of (entries_of g ts) x) (action_of (entries_of g ts) y) (action_is ts x h) (action_is ts y k) same)
    where
      by : (b : Answer) → ComeOut s (equalities (action_of (entries_of g ts) x).sorts (action_of (entries_of g ts) x).args (action_of (entries_of g ts) y).args) b
          → ((action_of (entries_of g ts) x).name ≡ (action_of (entries_of g ts) y).name) × ((action_of (entries_of g ts) x).sorts ≡ (action_of (entries_of g ts) y).sorts) → ActionsCome s (action_of (entries_of g ts) x) (action_of (entries_of g ts) y) b
      by hold d alike = (alike, d)
      by fail d alike = λ _ _. d
      by stay_open d alike = (alike, d)

-- ---- as the pool grows
module _ (g : Sig) (stands : IsSignature g) (ts us : List Tree) (grows : Extends ts us) where
  pub action_means : (x : PlainAction) → IsActionOf g ts x → action_of (entries_of g us) x ≡ action_of (entries_of g ts) x
  action_means x h = head_of (label_stays g ts us grows (x ∷ []) (All-cons (IsActionOf g ts) x [] h (All-nil (IsActionOf g ts))))
    where
      head_of : {a b : Action} → a ∷ [] ≡ b ∷ [] → a ≡ b
      head_of e = cc

  pub closed_stays : (x : PlainAction) → IsClosedIn g ts x → IsClosedIn g us x
  closed_stays x h =
      let m : PlainMove = record { summand = 0; label = x ∷ []; next = None } in
      let k : IsMove g us [] m = move_stays g ts us grows [] m (record { label = All-cons (IsActionOf g ts) x [] h.stands (All-nil (IsActionOf g ts)); closed = action_sorted h.closed no_action_to_sort; next = tt }) in
      record {
        stands = All-head (IsActionOf g us) x [] k.label;
        closed = subst (λ (a : Action). HaveSorts (data_meant g) [] (terms_of a.args) a.sorts) (sym (action_means x h.stands)) h.closed;
      }

  pub all_closed_stay : (xs : List PlainAction) → All (IsClosedIn g ts) xs → All (IsClosedIn g us) xs
  all_closed_stay xs h = All-weaker (IsClosedIn g ts) (IsClosedIn g us) closed_stays xs h

  pub closed_label_means : (xs : List PlainAction) → All (IsClosedIn g ts) xs → label_of (entries_of g us) xs ≡ label_of (entries_of g ts) xs
  closed_label_means xs h = label_stays g ts us grows xs (All-weaker (IsClosedIn g ts) (IsActionOf g ts) (λ x k. k.stands) xs h)

-- a label over closed terms
pub label_closed : (g : Sig) (ts : List Tree) (xs : List PlainAction) → All (IsActionOf g ts) xs → LabelIsSorted (data_meant g) [] (label_of (entries_of g ts) xs) → All (IsClosedIn g ts) xs
label_closed g ts [] h k = All-nil (IsClosedIn g ts)
label_closed g ts (x ∷ xs) h (action_sorted k rest) = All-cons (IsClosedIn g ts) x xs (record { stands = All-head (IsActionOf g ts) x xs h; closed = k }) (label_closed g ts xs (All-tail (IsActionOf g ts) x xs h) rest)

-- one action more of those that are gone through
pub label_taken : (g : Sig) (ts : List Tree) (xs : List CodeAction) (i : ℕ) (x : CodeAction) → i < length xs → x ≡ slice_index_or xs i x
    → label_of (entries_of g ts) (map plain_action (take (i + 1) xs)) ≡ label_of (entries_of g ts) (map plain_action (take i xs)) ++ action_of (entries_of g ts) (plain_action x) ∷ []
label_taken g ts xs i x l e = ap (label_of (entries_of g ts)) (taken plain_action xs i x l e) ∙ map-append (action_of (entries_of g ts)) (map plain_action (take i xs)) (plain_action x ∷ [])
