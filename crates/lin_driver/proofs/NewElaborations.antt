-- Process terms under new numbers of sorts and functions: what one elaborates to is the same but for the numbers of bound variables.
use Rattle.std.proofs.Common.{◌≡◌, ◌≢◌, ⊎_elim, ℕ, zero, suc, Bool, true, false, cond, List, [], ◌∷◌, map, length, refl, sym, ap, ap₂, ◌∙◌, subst, append-nil}
use Rattle.std.specs.Prelude.{Option, Some, None, option_map, option_and_then, Contains, bytes_eq}
use Rattle.std.proofs.lemmas.Option.{same_Some}
use Rattle.std.proofs.lemmas.Bool.Decides.{eqb_tells}
use Rattle.data_theory.specs.Terms.{Sort, boolean, list, Symbol, Term, Terms, variable, apply, put, put_all}
use Rattle.data_theory.specs.Terms as terms
use Rattle.data_theory.specs.Environments.{Environment, term_in, bound, Apart, AreDistinct}
use Rattle.data_theory.specs.Environments as lists
use Rattle.data_theory.proofs.EnvironmentLemmas.{put-apply, contains_first, contains_later, contains_cases, contains_nothing, parameters_read_back}
use Rattle.process_terms.specs.Labels as written
use Rattle.process_terms.specs.Labels.{Label, put_action, put_label}
use Rattle.process_terms.specs.Processes as processes
use Rattle.process_terms.specs.Processes.{Body, Definition, Table, written_delta, written_act, written_choice, written_seq, written_cond, written_sum, written_call, written_merge, written_starting, written_around, choice_of, seq_of, merge_of, merged_with, sync_of, synced_with, sums_around, close}
use Rattle.sort_table.specs.Expressions.{Name, Expression}
use Rattle.sort_table.specs.NamedLists.{all_named, first_named}
use Rattle.sort_table.specs.BareSorts.{SortExpression, truth_values, positives, naturals, integers, lists_of, a_name}
use Rattle.sort_table.specs.BareProcesses as bare
use Rattle.sort_table.specs.BareProcesses.{Variables, Action, tau, act}
use Rattle.sort_table.specs.Vocabularies.{Vocabulary, sort_in, EachPair}
use Rattle.data_typing.specs.Typings.{Typing, exactly, checked}
use Rattle.data_typing.specs.Meanings.{Bound, Scope, typing_in}
use Rattle.sort_checker.specs.FullVocabularies.{Parameters, FullVocabulary, process_from, process_named, Written}
use Rattle.sort_checker.specs.Scopes.{numbers_of, Binds, binds_none, binds_more}
use Rattle.sort_checker.specs.PartTypings.{action_at, action_of, label_in, arguments_in, variable_at, assigned_or, assigned_in}
use Rattle.sort_checker.specs.Operators.{renaming_of, rule_of}
use Rattle.sort_checker.specs.Elaborations.{Elaborates, nothing, label, call_in_order, one_by_one, call_by_name, only_these, none_of_these, unseen, renamed, joined, in_sequence, one_of, at_once, left_first, side_by_side, for_each, where_true, by_truth, AllElaborate, all_done, one_and_more, ElaboratesDefinition}
use Rattle.sort_checker.specs.ClosingLaws.{NamesApart}
use Rattle.sort_checker.specs.ScopeLaws.{Both, neither, both}
use Rattle.sort_checker.proofs.RelatedTypings.{AllRelated, related_none, related_more, map_both, then_both, or_both}
use Rattle.lin_driver.specs.Renumberings.{Renumbering, new_sort, new_symbol, new_term, new_terms, new_action, new_label, new_body, new_definition, new_table, TakesVocabulary, new_parameters, TakesFullVocabulary}
use Rattle.lin_driver.specs.SameProcesses.{SameDefinition, SameDefinitions}
use Rattle.lin_driver.proofs.NewTerms.{new_apply}
use Rattle.lin_driver.proofs.AlikeTypings.{EachWith, each_none, each_more, first_along, test_both}
use Rattle.lin_driver.proofs.OperandLabels.{no_labels}
use Rattle.lin_driver.proofs.SameSorts.{met}
use Rattle.lin_driver.proofs.NewTypings.{IsNew, KeepsNew, NewTypings, KeptNew, exactly_new, checked_new, all_new, equal_new, each_new, NewScopes, scopes_none, scopes_more, NewBounds, found_new, typed_new, all_typed_new}

-- ---- the sorts of expressions
list_later : (r : Renumbering) (o : Option Sort) → option_map list (option_map (new_sort r) o) ≡ option_map (new_sort r) (option_map list o)
list_later r None = refl
list_later r (Some s) = refl

pub new_sort_in : (r : Renumbering) (v w : Vocabulary) → TakesVocabulary r v w → (e : SortExpression) → sort_in w.sort_names e ≡ option_map (new_sort r) (sort_in v.sort_names e)
new_sort_in r v w takes truth_values = refl
new_sort_in r v w takes positives = refl
new_sort_in r v w takes naturals = refl
new_sort_in r v w takes integers = refl
new_sort_in r v w takes (lists_of e) = ap (option_map list) (new_sort_in r v w takes e) ∙ list_later r (sort_in v.sort_names e)
new_sort_in r v w takes (a_name n) = takes.sorts n

pub bound_sort : (r : Renumbering) (v w : Vocabulary) → TakesVocabulary r v w → (e : SortExpression) (s q : Sort) → sort_in v.sort_names e ≡ Some s → sort_in w.sort_names e ≡ Some q → new_sort r s ≡ q
bound_sort r v w takes e s q f g = same_Some (new_sort r s) q (sym (ap (option_map (new_sort r)) f) ∙ sym (new_sort_in r v w takes e) ∙ g)

sorts_from : (r : Renumbering) {ss qs : List Sort} → EachWith (IsNew r) ss qs → map (new_sort r) ss ≡ qs
sorts_from r each_none = refl
sorts_from r (each_more h hs) = ap₂ (λ (s : Sort) (ss : List Sort). s ∷ ss) h (sorts_from r hs)

each_lists : (r : Renumbering) (sss : List (List Sort)) → EachWith (EachWith (IsNew r)) sss (map (map (new_sort r)) sss)
each_lists r [] = each_none
each_lists r (ss ∷ sss) = each_more (each_new r ss) (each_lists r sss)

parameter_sorts : (r : Renumbering) (ps : Parameters) → EachWith (IsNew r) (map (λ (p : Name × Sort). p.1) ps) (map (λ (p : Name × Sort). p.1) (new_parameters r ps))
parameter_sorts r [] = each_none
parameter_sorts r (p ∷ ps) = each_more refl (parameter_sorts r ps)

-- ---- variables in scope
read_here : (n : ℕ) (t : Term) (e : Environment) → term_in (record { var = n; term = t } ∷ e) n ≡ t
read_here n t e = ap (λ (b : Bool). cond b t (term_in e n)) (⊎_elim (λ y. y.0) (λ y. absurd (y.1 refl)) (eqb_tells n n))

read_behind : (n m : ℕ) (t : Term) (e : Environment) → n ≢ m → term_in (record { var = n; term = t } ∷ e) m ≡ term_in e m
read_behind n m t e h = ap (λ (b : Bool). cond b t (term_in e m)) (⊎_elim (λ y. absurd (h y.1)) (λ y. y.0) (eqb_tells n m))

abbrev with_term : ℕ → Term → Environment → Environment
with_term n t e = record { var = n; term = t } ∷ e

abbrev pub vars_of : List processes.Bound → List ℕ
vars_of bs = map (λ (x : processes.Bound). x.var) bs

pub binds_apart : {v : Vocabulary} {scope inner : Scope} {xs : Variables} {bs : List processes.Bound} → Binds v scope xs inner bs → AreDistinct (vars_of bs) × ((n : ℕ) → Contains (vars_of bs) n → Contains (numbers_of scope) n → ⊥)
binds_apart binds_none = (tt, λ n i j. contains_nothing n i)
binds_apart (binds_more {scope = scope} {n = k} {bs = bs} e w r) =
    let p = binds_apart r in (
      (λ i. p.1 k i (contains_first k (numbers_of scope)), p.0),
      λ n i j. ⊎_elim (λ q. w (subst (λ z. Contains (numbers_of scope) z) (sym q) j)) (λ l. p.1 n l (contains_later k n (numbers_of scope) j)) (contains_cases k n (vars_of bs) i),
    )

-- ---- parameters that are read
abbrev pub Reads : Environment → List ℕ → List Term → Type 0
Reads e xs ts = map (put (term_in e)) (map variable xs) ≡ ts

pub first_read : (t : Term) (ts us : List Term) (u : Term) → t ∷ ts ≡ u ∷ us → t ≡ u
first_read t ts us u e = cc

pub rest_read : (t : Term) (ts us : List Term) (u : Term) → t ∷ ts ≡ u ∷ us → ts ≡ us
rest_read t ts us u e = cc

pub bounds_long : {v w : Vocabulary} {one other inner deeper : Scope} {xs : Variables} {bs cs : List processes.Bound} → Binds v one xs inner bs → Binds w other xs deeper cs → length (vars_of bs) ≡ length (vars_of cs)
bounds_long binds_none binds_none = refl
bounds_long (binds_more a b ds) (binds_more c d ds') = ap suc (bounds_long ds ds')

pub reads_bound : (xs : List ℕ) (ts : List Term) → length ts ≡ length xs → AreDistinct xs → Reads (bound xs ts) xs ts
reads_bound xs ts l d = subst (λ (e : Environment). Reads e xs ts) (append-nil (bound xs ts)) (parameters_read_back [] [] xs ts l (λ n i j. contains_nothing n i) d)

module _ (r : Renumbering) where
  -- a term under the new numbers and another one are the same in these environments
  abbrev pub Alike : Environment → Environment → Term → Term → Type 0
  Alike e k t u = put (term_in e) (new_term r t) ≡ put (term_in k) u

  all_put : (e k : Environment) {ts us : Terms} → AllRelated (Alike e k) ts us → put_all (term_in e) (new_terms r ts) ≡ put_all (term_in k) us
  all_put e k related_none = refl
  all_put e k (related_more h hs) = ap₂ terms.more h (all_put e k hs)

  list_put : (e k : Environment) {ts us : Terms} → AllRelated (Alike e k) ts us → map (put (term_in e)) (map (new_term r) (lists.list_of ts)) ≡ map (put (term_in k)) (lists.list_of us)
  list_put e k related_none = refl
  list_put e k (related_more h hs) = ap₂ (λ (t : Term) (ts : List Term). t ∷ ts) h (list_put e k hs)

  pub keeps : (e k : Environment) → KeepsNew r (Alike e k)
  keeps e k = record {
    numerals = λ s z. refl;
    applications = λ f ts us h. ap (put (term_in e)) (new_apply r f ts) ∙ put-apply (term_in e) (new_symbol r f) (new_terms r ts) ∙ ap (apply (new_symbol r f)) (all_put e k h) ∙ sym (put-apply (term_in k) (new_symbol r f) us);
  }

  scopes_behind : (e k : Environment) (n l : ℕ) (t u : Term) {one other : Scope} → (Contains (numbers_of one) n → ⊥) → (Contains (numbers_of other) l → ⊥) → NewScopes r (Alike e k) one other → NewScopes r (Alike (with_term n t e) (with_term l u k)) one other
  scopes_behind e k n l t u f g scopes_none = scopes_none
  scopes_behind e k n l t u f g (scopes_more {n = a} {l = b} {one = one} {other = other} s h hs) =
      let first : term_in (with_term n t e) a ≡ term_in e a = read_behind n a t e (λ q. f (subst (λ (m : ℕ). Contains (a ∷ numbers_of one) m) (sym q) (contains_first a (numbers_of one)))) in
      let second : term_in (with_term l u k) b ≡ term_in k b = read_behind l b u k (λ q. g (subst (λ (m : ℕ). Contains (b ∷ numbers_of other) m) (sym q) (contains_first b (numbers_of other)))) in
      scopes_more s (first ∙ h ∙ sym second) (scopes_behind e k n l t u (λ c. f (contains_later a n (numbers_of one) c)) (λ c. g (contains_later b l (numbers_of other) c)) hs)

  -- ---- several operands
  abbrev AlikeBodies : Environment → Environment → Body → Body → Type 0
  AlikeBodies e k b c = (d : Table) → close d e (new_body r b) ≡ close d k c

  choices : {e k : Environment} {bs cs : List Body} → EachWith (AlikeBodies e k) bs cs → AlikeBodies e k (choice_of bs) (choice_of cs)
  choices each_none = λ d. refl
  choices (each_more h each_none) = h
  choices (each_more h (each_more g hs)) = λ d. ap₂ processes.choice (h d) (choices (each_more g hs) d)

  sequences : {e k : Environment} {bs cs : List Body} → EachWith (AlikeBodies e k) bs cs → AlikeBodies e k (seq_of bs) (seq_of cs)
  sequences each_none = λ d. refl
  sequences (each_more h each_none) = h
  sequences (each_more h (each_more g hs)) = λ d. ap₂ processes.seq (h d) (sequences (each_more g hs) d)

  merged : {e k : Environment} (p q : Body) {bs cs : List Body} → AlikeBodies e k p q → EachWith (AlikeBodies e k) bs cs → AlikeBodies e k (merged_with p bs) (merged_with q cs)
  merged p q h each_none = h
  merged p q h (each_more {x = b} {y = c} g hs) = merged (written_merge p b) (written_merge q c) (λ d. ap₂ processes.merge (h d) (g d)) hs

  merges : {e k : Environment} {bs cs : List Body} → EachWith (AlikeBodies e k) bs cs → AlikeBodies e k (merge_of bs) (merge_of cs)
  merges each_none = λ d. refl
  merges (each_more {x = b} {y = c} h hs) = merged b c h hs

  synced : {e k : Environment} (p q : Body) {bs cs : List Body} → AlikeBodies e k p q → EachWith (AlikeBodies e k) bs cs → AlikeBodies e k (synced_with p bs) (synced_with q cs)
  synced p q h each_none = h
  synced p q h (each_more {x = b} {y = c} g hs) = synced (written_starting processes.sync p b) (written_starting processes.sync q c) (λ d. ap₂ (processes.starting processes.sync) (h d) (g d)) hs

  syncs : {e k : Environment} {bs cs : List Body} → EachWith (AlikeBodies e k) bs cs → AlikeBodies e k (sync_of bs) (sync_of cs)
  syncs each_none = λ d. refl
  syncs (each_more {x = b} {y = c} h hs) = synced b c h hs

  module _ (v w : FullVocabulary) (takes : TakesFullVocabulary r v w) (first_apart : NamesApart v) (second_apart : NamesApart w) where
    -- ---- parts
    module _ (e k : Environment) (one other : Scope) (scopes : NewScopes r (Alike e k) one other) where
      typed : (x : Expression) → NewTypings r (Alike e k) (typing_in v.declared one x) (typing_in w.declared other x)
      typed x = typed_new r (Alike e k) (keeps e k) v.declared w.declared takes.declared one other scopes x

      all_typed : (es : List Expression) → EachWith (NewTypings r (Alike e k)) (map (typing_in v.declared one) es) (map (typing_in w.declared other) es)
      all_typed es = all_typed_new r (Alike e k) (keeps e k) v.declared w.declared takes.declared one other scopes es

      abbrev AlikeActions : written.Action → written.Action → Type 0
      AlikeActions a b = put_action e (new_action r a) ≡ put_action k b

      action_at_new : (x : Name) (how : Sort → Typing → Option Term) → KeptNew r (Alike e k) how → {ts us : List Typing} → EachWith (NewTypings r (Alike e k)) ts us → (ss qs : List Sort) → EachWith (IsNew r) ss qs → Both AlikeActions (action_at x how ts ss) (action_at x how us qs)
      action_at_new x how kept is ss qs h =
          map_both (λ (us : Terms). record { name = x; sorts = ss; args = lists.list_of us }) (λ (us : Terms). record { name = x; sorts = qs; args = lists.list_of us }) (all_new r (Alike e k) (keeps e k) how kept h is)
          (λ a b z i. record { name = x; sorts = sorts_from r h i; args = list_put e k z i })

      action_new : (x : Name) (es : List Expression) → Both AlikeActions (action_of x (map (typing_in v.declared one) es) (all_named x v.declared.actions)) (action_of x (map (typing_in w.declared other) es) (all_named x w.declared.actions))
      action_new x es =
          let ts : List Typing = map (typing_in v.declared one) es in
          let us : List Typing = map (typing_in w.declared other) es in
          let each : EachWith (EachWith (IsNew r)) (all_named x v.declared.actions) (all_named x w.declared.actions) =
          subst (EachWith (EachWith (IsNew r)) (all_named x v.declared.actions)) (sym (takes.declared.actions x)) (each_lists r (all_named x v.declared.actions)) in
          or_both (first_along (action_at x exactly ts) (action_at x exactly us) (λ ss qs h. action_at_new x exactly (exactly_new r (Alike e k) (keeps e k)) (all_typed es) ss qs h) each)
          (first_along (action_at x checked ts) (action_at x checked us) (λ ss qs h. action_at_new x checked (checked_new r (Alike e k) (keeps e k)) (all_typed es) ss qs h) each)

      abbrev AlikeLabels : Label → Label → Type 0
      AlikeLabels m l = put_label e (new_label r m) ≡ put_label k l

      pub label_new : (as_ : List Action) → Both AlikeLabels (label_in v.declared one as_) (label_in w.declared other as_)
      label_new [] = both refl
      label_new (tau ∷ as_) = label_new as_
      label_new (act x es ∷ as_) =
          then_both (λ (a : written.Action). option_map (λ (m : Label). a ∷ m) (label_in v.declared one as_)) (λ (a : written.Action). option_map (λ (m : Label). a ∷ m) (label_in w.declared other as_)) (action_new x es)
          (λ a b q. map_both (λ (m : Label). a ∷ m) (λ (m : Label). b ∷ m) (label_new as_) (λ m l z. ap₂ (λ (c : written.Action) (n : Label). c ∷ n) q z))

      abbrev AlikeLists : List Term → List Term → Type 0
      AlikeLists ts us = map (put (term_in e)) (map (new_term r) ts) ≡ map (put (term_in k)) us

      arguments_new : (ps : Parameters) (es : List Expression) → Both AlikeLists (arguments_in v.declared one ps es) (arguments_in w.declared other (new_parameters r ps) es)
      arguments_new ps es = map_both lists.list_of lists.list_of (all_new r (Alike e k) (keeps e k) checked (checked_new r (Alike e k) (keeps e k)) (parameter_sorts r ps) (all_typed es)) (λ a b z. list_put e k z)

      variable_new : (s : Sort) (b c : Bound) → NewBounds r (Alike e k) b c → Both (Alike e k) (variable_at s b) (variable_at (new_sort r s) c)
      variable_new s b c h = test_both (equal_new r (Alike e k) (keeps e k) b.sort c.sort s (new_sort r s) h.sort refl) (both h.number) neither

      assigned_new : (p : Name × Sort) (o : Option Expression) → Both (Alike e k) (assigned_or v.declared one p o) (assigned_or w.declared other (p.0, new_sort r p.1) o)
      assigned_new p None = then_both (variable_at p.1) (variable_at (new_sort r p.1)) (found_new r (Alike e k) p.0 scopes) (λ b c h. variable_new p.1 b c h)
      assigned_new p (Some x) = (typed x).checks p.1 (new_sort r p.1) refl

      all_assigned : (ps : Parameters) (ds : List (Name × Expression)) → Both AlikeLists (assigned_in v.declared one ps ds) (assigned_in w.declared other (new_parameters r ps) ds)
      all_assigned [] ds = both refl
      all_assigned (p ∷ ps) ds =
          then_both (λ (t : Term). option_map (λ (ts : List Term). t ∷ ts) (assigned_in v.declared one ps ds)) (λ (t : Term). option_map (λ (ts : List Term). t ∷ ts) (assigned_in w.declared other (new_parameters r ps) ds)) (assigned_new p (first_named p.0 ds))
          (λ a b q. map_both (λ (ts : List Term). a ∷ ts) (λ (ts : List Term). b ∷ ts) (all_assigned ps ds) (λ m n z. ap₂ (λ (t : Term) (ts : List Term). t ∷ ts) q z))

    -- ---- calls
    abbrev new_entry : ℕ × Parameters → ℕ × Parameters
    new_entry x = (x.0, new_parameters r x.1)

    place_new : (n : ℕ) (x : Name) (rs : List (Name × Parameters)) → process_from n x (map (λ (p : Name × Parameters). (p.0, new_parameters r p.1)) rs) ≡ option_map new_entry (process_from n x rs)
    place_new n x [] = refl
    place_new n x (p ∷ rs) = by_test (bytes_eq p.0 x) (place_new (suc n) x rs)
      where
        by_test : (b : Bool) → process_from (suc n) x (map (λ (q : Name × Parameters). (q.0, new_parameters r q.1)) rs) ≡ option_map new_entry (process_from (suc n) x rs)
            → cond b (Some (n, new_parameters r p.1)) (process_from (suc n) x (map (λ (q : Name × Parameters). (q.0, new_parameters r q.1)) rs)) ≡ option_map new_entry (cond b (Some (n, p.1)) (process_from (suc n) x rs))
        by_test true h = refl
        by_test false h = h

    entry_new : (x : Name) (p q : ℕ × Parameters) → process_named v x ≡ Some p → process_named w x ≡ Some q → new_entry p ≡ q
    entry_new x p q f g = same_Some (new_entry p) q (sym (ap (option_map new_entry) f) ∙ sym (ap (process_from zero x) takes.processes ∙ place_new zero x v.processes) ∙ g)

    no_label : (z : FullVocabulary) (scope : Scope) (x : Name) (es : List Expression) (m : Label) → all_named x z.declared.actions ≡ [] → label_in z.declared scope (act x es ∷ []) ≡ Some m → ⊥
    no_label z scope x es m none g =
        let h : None ≡ Some m = sym (ap (λ (sss : List (List Sort)). option_and_then (λ (a : written.Action). option_map (λ (l : Label). a ∷ l) (label_in z.declared scope [])) (action_of x (map (typing_in z.declared scope) es) sss)) none) ∙ g in absurd cc

    none_mapped : (sss : List (List Sort)) → [] ≡ map (map (new_sort r)) sss → sss ≡ []
    none_mapped [] h = refl
    none_mapped (ss ∷ sss) h = absurd (never h)
      where
        never : [] ≡ map (new_sort r) ss ∷ map (map (new_sort r)) sss → ⊥
        never h = cc

    no_action_first : (x : Name) → all_named x w.declared.actions ≡ [] → all_named x v.declared.actions ≡ []
    no_action_first x h = none_mapped (all_named x v.declared.actions) (sym h ∙ takes.declared.actions x)

    no_action_second : (x : Name) → all_named x v.declared.actions ≡ [] → all_named x w.declared.actions ≡ []
    no_action_second x h = takes.declared.actions x ∙ ap (map (map (new_sort r))) h

    called : (e k : Environment) (i j : ℕ) (ts us : List Term) → i ≡ j → map (put (term_in e)) (map (new_term r) ts) ≡ map (put (term_in k)) us → AlikeBodies e k (written_call i ts) (written_call j us)
    called e k i j ts us same h d = ap₂ (λ (n : ℕ) (xs : List Term). processes.call d n xs) same h

    -- ---- sums
    sums : {one other inner deeper : Scope} {xs : Variables} {bs cs : List processes.Bound} (p q : Body) → Binds v.declared one xs inner bs → Binds w.declared other xs deeper cs
        → ((e k : Environment) → NewScopes r (Alike e k) inner deeper → AlikeBodies e k p q) → (e k : Environment) → NewScopes r (Alike e k) one other → AlikeBodies e k (sums_around bs p) (sums_around cs q)
    sums p q binds_none binds_none f e k h = f e k h
    sums {one = one} {other = other} p q (binds_more {x = x} {n = n} {s = s} {e = y} {bs = bs} se fr ds) (binds_more {n = l} {s = z} {bs = cs} te gr ts) f e k h =
        let same : new_sort r s ≡ z = bound_sort r v.declared w.declared takes.declared y s z se te in
        let agree : (t : Term) → NewScopes r (Alike (with_term n t e) (with_term l t k)) (record { name = x; number = n; sort = s } ∷ one) (record { name = x; number = l; sort = z } ∷ other)
        = λ t. scopes_more same (read_here n t e ∙ sym (read_here l t k)) (scopes_behind e k n l t t fr gr h) in
        let inside : (t : Term) → AlikeBodies (with_term n t e) (with_term l t k) (sums_around bs p) (sums_around cs q) = λ t. sums p q ds ts f (with_term n t e) (with_term l t k) (agree t) in
        λ d i. processes.sum (same i) (λ t. inside t d i)

    -- ---- the whole
    mutual
      pub same_new : {one other : Scope} {p : bare.Process} {b c : Body} → Elaborates v one p b → Elaborates w other p c → (e k : Environment) → NewScopes r (Alike e k) one other → AlikeBodies e k b c
      same_new nothing nothing e k h = λ d. refl
      same_new {one = one} {other = other} (label {as_ = as_} f) (label g) e k h = λ d. ap processes.act (met (label_new e k one other h as_) f g)
      same_new {one = one} (label {m = m} f) (call_in_order {x = x} {es = es} {k = j} {ps = ps} g q) e k h = absurd (no_label v one x es m (no_action_first x (second_apart x (j, ps) g)) f)
      same_new {other = other} (call_in_order {x = x} {es = es} {k = j} {ps = ps} g q) (label {m = m} f) e k h = absurd (no_label w other x es m (no_action_second x (first_apart x (j, ps) g)) f)
      same_new {one = one} {other = other} (call_in_order {x = x} {es = es} {k = i} {ps = ps} {ts = ts} f g) (call_in_order {k = j} {ps = qs} {ts = us} f' g') e k h =
          let same = entry_new x (i, ps) (j, qs) f f' in
          called e k i j ts us (ap (λ (z : ℕ × Parameters). z.0) same) (met (arguments_new e k one other h ps es) g (subst (λ (z : Parameters). arguments_in w.declared other z es ≡ Some us) (sym (ap (λ (z : ℕ × Parameters). z.1) same)) g'))
      same_new {one = one} (label {m = m} f) (one_by_one {a = x} {b = y} {as_ = as_} n ys) e k h = absurd (no_labels v.declared w (λ z q g. no_action_first z (second_apart z q g)) one (x ∷ y ∷ as_) m n f)
      same_new {other = other} (one_by_one {a = x} {b = y} {as_ = as_} n ys) (label {m = m} f) e k h = absurd (no_labels w.declared v (λ z q g. no_action_second z (first_apart z q g)) other (x ∷ y ∷ as_) m n f)
      same_new (one_by_one n xs) (one_by_one m ys) e k h = syncs (all_same_new xs ys e k h)
      same_new {one = one} {other = other} (call_by_name {x = x} {ds = ds} {k = i} {ps = ps} {ts = ts} f y g) (call_by_name {k = j} {ps = qs} {ts = us} f' y' g') e k h =
          let same = entry_new x (i, ps) (j, qs) f f' in
          called e k i j ts us (ap (λ (z : ℕ × Parameters). z.0) same) (met (all_assigned e k one other h ps ds) g (subst (λ (z : Parameters). assigned_in w.declared other z ds ≡ Some us) (sym (ap (λ (z : ℕ × Parameters). z.1) same)) g'))
      same_new (only_these {sets = sets} f x) (only_these g y) e k h = λ d. ap (processes.around (processes.allow sets)) (same_new x y e k h d)
      same_new (none_of_these {xs = xs} f x) (none_of_these g y) e k h = λ d. ap (processes.around (processes.block xs)) (same_new x y e k h d)
      same_new (unseen {xs = xs} f x) (unseen g y) e k h = λ d. ap (processes.around (processes.hide xs)) (same_new x y e k h d)
      same_new (renamed {rs = rs} f x) (renamed g y) e k h = λ d. ap (processes.around (processes.rename (map renaming_of rs))) (same_new x y e k h d)
      same_new (joined {cs = cs} f x) (joined g y) e k h = λ d. ap (processes.around (processes.comm (map rule_of cs))) (same_new x y e k h d)
      same_new (in_sequence xs) (in_sequence ys) e k h = sequences (all_same_new xs ys e k h)
      same_new (one_of xs) (one_of ys) e k h = choices (all_same_new xs ys e k h)
      same_new (at_once xs) (at_once ys) e k h = syncs (all_same_new xs ys e k h)
      same_new (left_first x y) (left_first x' y') e k h =
          let p = same_new x x' e k h in
          let q = same_new y y' e k h in
          λ d. ap₂ (processes.starting processes.left_merge) (p d) (q d)
      same_new (side_by_side xs) (side_by_side ys) e k h = merges (all_same_new xs ys e k h)
      same_new (for_each {b = p} bs x) (for_each {b = q} cs y) e k h = sums p q bs cs (λ e' k' h'. same_new x y e' k' h') e k h
      same_new {one = one} {other = other} (where_true {e = c} f x) (where_true g y) e k h =
          let t = met ((typed e k one other h c).checks boolean boolean refl) f g in
          let p = same_new x y e k h in
          λ d i. processes.cond (t i) (p d i) processes.delta
      same_new {one = one} {other = other} (by_truth {e = c} f x y) (by_truth g x' y') e k h =
          let t = met ((typed e k one other h c).checks boolean boolean refl) f g in
          let p = same_new x x' e k h in
          let q = same_new y y' e k h in
          λ d i. processes.cond (t i) (p d i) (q d i)

      all_same_new : {one other : Scope} {ps : bare.Processes} {bs cs : List Body} → AllElaborate v one ps bs → AllElaborate w other ps cs → (e k : Environment) → NewScopes r (Alike e k) one other → EachWith (AlikeBodies e k) bs cs
      all_same_new all_done all_done e k h = each_none
      all_same_new (one_and_more x xs) (one_and_more y ys) e k h = each_more (same_new x y e k h) (all_same_new xs ys e k h)

    -- ---- definitions
    parameters_new : {one other inner deeper : Scope} {xs : Variables} {bs cs : List processes.Bound} → Binds v.declared one xs inner bs → Binds w.declared other xs deeper cs → (ts : List Term)
        → (e k : Environment) → Reads e (vars_of bs) ts → Reads k (vars_of cs) ts → NewScopes r (Alike e k) one other → NewScopes r (Alike e k) inner deeper
    parameters_new binds_none binds_none ts e k a b h = h
    parameters_new (binds_more {e = y} se fr ds) (binds_more te gr ds') [] e k a b h = absurd (never a)
      where
        never : {t : Term} {ts : List Term} → t ∷ ts ≡ [] → ⊥
        never h = cc
    parameters_new (binds_more {n = n} {s = s} {e = y} {bs = bs} se fr ds) (binds_more {n = l} {s = z} {bs = cs} te gr ds') (t ∷ ts) e k a b h =
        let one : term_in e n ≡ t = first_read (term_in e n) (map (put (term_in e)) (map variable (vars_of bs))) ts t a in
        let other : term_in k l ≡ t = first_read (term_in k l) (map (put (term_in k)) (map variable (vars_of cs))) ts t b in
        parameters_new ds ds' ts e k (rest_read (term_in e n) (map (put (term_in e)) (map variable (vars_of bs))) ts t a) (rest_read (term_in k l) (map (put (term_in k)) (map variable (vars_of cs))) ts t b)
        (scopes_more (bound_sort r v.declared w.declared takes.declared y s z se te) (one ∙ sym other) h)

    definition_new : (x : Written) (f g : Definition) → ElaboratesDefinition v x f → ElaboratesDefinition w x g → SameDefinition (new_definition r f) g
    definition_new x f g a b =
        let long : length f.params ≡ length g.params = ap length a.params ∙ bounds_long a.binds b.binds ∙ sym (ap length b.params) in
        record {
          params = long;
          bodies = λ d ts l. (
              let one : Reads (bound f.params ts) (vars_of a.bounds) ts = subst (λ (xs : List ℕ). Reads (bound f.params ts) xs ts) a.params (reads_bound f.params ts l (subst AreDistinct (sym a.params) (binds_apart a.binds).0)) in
              let other : Reads (bound g.params ts) (vars_of b.bounds) ts = subst (λ (xs : List ℕ). Reads (bound g.params ts) xs ts) b.params (reads_bound g.params ts (l ∙ long) (subst AreDistinct (sym b.params) (binds_apart b.binds).0)) in
              same_new a.body b.body (bound f.params ts) (bound g.params ts) (parameters_new a.binds b.binds ts (bound f.params ts) (bound g.params ts) one other scopes_none) d
              );
        }

    pub definitions_new : (xs : List Written) (d e : Table) → EachPair (ElaboratesDefinition v) xs d → EachPair (ElaboratesDefinition w) xs e → SameDefinitions (new_table r d) e
    definitions_new [] [] [] a b = tt
    definitions_new [] (f ∷ d) e a b = absurd a
    definitions_new [] [] (g ∷ e) a b = absurd b
    definitions_new (x ∷ xs) [] e a b = absurd a
    definitions_new (x ∷ xs) (f ∷ d) [] a b = absurd b
    definitions_new (x ∷ xs) (f ∷ d) (g ∷ e) a b = (definition_new x f g a.0 b.0, definitions_new xs d e a.1 b.1)
