-- Other numbers of the variables in scope.
use Rattle.std.proofs.Common.{◌≡◌, ◌<◌, ◌+◌, ℕ, suc, List, [], ◌∷◌, ⊎_elim, if◌then◌else◌, map, refl, sym, ap, ap₂, ◌∙◌, subst, arith}
use Rattle.std.specs.Prelude.{Option, Some, None, option_map, Contains}
use Rattle.data_theory.specs.Terms.{Sort, boolean, Term, Terms, variable, apply, put_all}
use Rattle.data_theory.specs.Environments as lists
use Rattle.data_theory.proofs.EnvironmentLemmas.{put-apply, contains_cases, contains_nothing}
use Rattle.process_terms.specs.Labels as written
use Rattle.process_terms.specs.Labels.{Label}
use Rattle.process_terms.specs.Processes as processes
use Rattle.process_terms.specs.Processes.{Body, written_delta, written_act, written_cond, written_call, written_starting, written_around, choice_of, seq_of, merge_of, sync_of, sums_around}
use Rattle.sort_table.specs.Expressions.{Name, Expression}
use Rattle.data_typing.specs.Typings.{sort_eq, Typing, exactly, checked}
use Rattle.sort_table.specs.NamedLists.{all_named, first_named}
use Rattle.sort_table.specs.Vocabularies.{Vocabulary}
use Rattle.data_typing.specs.Meanings.{Bound, Scope, typing_in}
use Rattle.sort_table.specs.BareProcesses.{Variables, Action, tau, act, Process, Processes}
use Rattle.sort_checker.specs.FullVocabularies.{Parameters, FullVocabulary}
use Rattle.sort_checker.specs.Scopes.{numbers_of, Binds, binds_none, binds_more}
use Rattle.sort_checker.specs.PartTypings.{action_at, action_of, label_in, arguments_in, variable_at, assigned_or, assigned_in}
use Rattle.sort_checker.specs.Operators.{renaming_of, rule_of}
use Rattle.sort_checker.specs.Elaborations.{Elaborates, nothing, label, call_in_order, one_by_one, call_by_name, only_these, none_of_these, unseen, renamed, joined, in_sequence, one_of, at_once, left_first, side_by_side, for_each, where_true, by_truth, AllElaborate, all_done, one_and_more}
use Rattle.sort_checker.specs.ScopeLaws.{Both, neither, both, with_number, IsRenamed, TypingsAreRenamed, SameNames, same_none, same_more, AnyTerms, TypingNeedsNoNumbers, ElaboratingNeedsNoNumbers, DefinitionsNeedNoNumbers}
use Rattle.sort_checker.proofs.RelatedTypings.{AllRelated, related_none, related_more, Keeps, map_both, then_both, or_both, cond_both, first_both, AllTypings, exactly_kept, checked_kept, Kept, all_both, RelatedScopes, scopes_none, scopes_more, RelatedBounds, found_both, scoped_both, all_scoped}

-- ---- by a function
all_renamed : (f : ℕ → ℕ) {ts us : Terms} → AllRelated (IsRenamed f) ts us → put_all (λ n. variable (f n)) ts ≡ us
all_renamed f related_none = refl
all_renamed f (related_more h hs) = ap₂ Terms.more h (all_renamed f hs)

renaming_keeps : (f : ℕ → ℕ) → Keeps (IsRenamed f)
renaming_keeps f = record { numerals = λ s z. refl; applications = λ g ts us h. put-apply (λ n. variable (f n)) g ts ∙ ap (apply g) (all_renamed f h) }

renumbered : (f : ℕ → ℕ) (scope : Scope) → RelatedScopes (IsRenamed f) scope (map (with_number f) scope)
renumbered f [] = scopes_none
renumbered f (b ∷ scope) = scopes_more refl (renumbered f scope)

pub typings_are_renamed : TypingsAreRenamed
typings_are_renamed v f scope e = scoped_both (IsRenamed f) (renaming_keeps f) v scope (map (with_number f) scope) (renumbered f scope) e

-- ---- any
any_keeps : Keeps AnyTerms
any_keeps = record { numerals = λ s z. tt; applications = λ f ts us h. tt }

any_scopes : {one other : Scope} → SameNames one other → RelatedScopes AnyTerms one other
any_scopes same_none = scopes_none
any_scopes (same_more h) = scopes_more tt (any_scopes h)

pub typing_needs_no_numbers : TypingNeedsNoNumbers
typing_needs_no_numbers v one other h e = scoped_both AnyTerms any_keeps v one other (any_scopes h) e

abbrev Anything : {A B : Type 0} → A → B → Type 0
Anything x y = Unit {0}

there : {A B : Type 0} {R : A → B → Type 0} {o : Option A} {p : Option B} {x : A} → Both R o p → o ≡ Some x → (y : B) × (p ≡ Some y)
there neither e = absurd cc
there (both {y = y} r) e = (y, refl)

all_typed : (v : Vocabulary) {one other : Scope} → SameNames one other → (es : List Expression) → AllTypings AnyTerms (map (typing_in v one) es) (map (typing_in v other) es)
all_typed v {one = one} {other = other} h es = all_scoped AnyTerms any_keeps v one other (any_scopes h) es

action_at_any : (x : Name) (how : Sort → Typing → Option Term) → Kept AnyTerms how → {ts us : List Typing} → AllTypings AnyTerms ts us → (ss : List Sort) → Both (Anything {A = written.Action} {B = written.Action}) (action_at x how ts ss) (action_at x how us ss)
action_at_any x how k is ss =
    map_both (λ (us : Terms). record { name = x; sorts = ss; args = lists.list_of us }) (λ (us : Terms). record { name = x; sorts = ss; args = lists.list_of us }) (all_both AnyTerms how k ss is) (λ a b h. tt)

action_any : (x : Name) {ts us : List Typing} → AllTypings AnyTerms ts us → (sss : List (List Sort)) → Both (Anything {A = written.Action} {B = written.Action}) (action_of x ts sss) (action_of x us sss)
action_any x {ts = ts} {us = us} is sss =
    or_both (first_both (action_at x exactly ts) (action_at x exactly us) (action_at_any x exactly (exactly_kept AnyTerms) is) sss) (first_both (action_at x checked ts) (action_at x checked us) (action_at_any x checked (checked_kept AnyTerms) is) sss)

label_any : (v : Vocabulary) {one other : Scope} → SameNames one other → (as_ : List Action) → Both (Anything {A = Label} {B = Label}) (label_in v one as_) (label_in v other as_)
label_any v h [] = both tt
label_any v h (tau ∷ as_) = label_any v h as_
label_any v {one = one} {other = other} h (act x es ∷ as_) =
    then_both (λ (a : written.Action). option_map (λ (m : Label). a ∷ m) (label_in v one as_)) (λ (a : written.Action). option_map (λ (m : Label). a ∷ m) (label_in v other as_)) (action_any x (all_typed v h es) (all_named x v.actions))
    (λ a b k. map_both (λ (m : Label). a ∷ m) (λ (m : Label). b ∷ m) (label_any v h as_) (λ m n l. tt))

arguments_any : (v : Vocabulary) {one other : Scope} → SameNames one other → (ps : Parameters) (es : List Expression) → Both (Anything {A = List Term} {B = List Term}) (arguments_in v one ps es) (arguments_in v other ps es)
arguments_any v h ps es = map_both lists.list_of lists.list_of (all_both AnyTerms checked (checked_kept AnyTerms) (map (λ (p : Name × Sort). p.1) ps) (all_typed v h es)) (λ a b k. tt)

variable_any : (s : Sort) (b c : Bound) → RelatedBounds AnyTerms b c → Both (Anything {A = Term} {B = Term}) (variable_at s b) (variable_at s c)
variable_any s b c h = subst (λ (r : Sort). Both (Anything {A = Term} {B = Term}) (variable_at s b) (if sort_eq r s then Some (variable c.number) else None)) h.sort (cond_both (sort_eq b.sort s) (both tt) neither)

assigned_any : (v : Vocabulary) {one other : Scope} → SameNames one other → (p : Name × Sort) (o : Option Expression) → Both (Anything {A = Term} {B = Term}) (assigned_or v one p o) (assigned_or v other p o)
assigned_any v h p None = then_both (variable_at p.1) (variable_at p.1) (found_both AnyTerms p.0 (any_scopes h)) (variable_any p.1)
assigned_any v {one = one} {other = other} h p (Some e) = (typing_needs_no_numbers v one other h e).checks p.1

all_assigned : (v : Vocabulary) {one other : Scope} → SameNames one other → (ps : Parameters) (ds : List (Name × Expression)) → Both (Anything {A = List Term} {B = List Term}) (assigned_in v one ps ds) (assigned_in v other ps ds)
all_assigned v h [] ds = both tt
all_assigned v {one = one} {other = other} h (p ∷ ps) ds =
    then_both (λ (t : Term). option_map (λ (ts : List Term). t ∷ ts) (assigned_in v one ps ds)) (λ (t : Term). option_map (λ (ts : List Term). t ∷ ts) (assigned_in v other ps ds)) (assigned_any v h p (first_named p.0 ds))
    (λ a b k. map_both (λ (ts : List Term). a ∷ ts) (λ (ts : List Term). b ∷ ts) (all_assigned v h ps ds) (λ m n l. tt))

-- a number that isn't in scope
above : Scope → ℕ
above [] = 0
above (b ∷ scope) = suc (b.number + above scope)

below : (scope : Scope) (n : ℕ) → Contains (numbers_of scope) n → n < above scope
unfolding above
below [] n h = absurd (contains_nothing n h)
below (b ∷ scope) n h = ⊎_elim (λ e. omega arith) (λ k. let l = below scope n k in omega arith) (contains_cases b.number n (numbers_of scope) h)

free : (scope : Scope) → Contains (numbers_of scope) (above scope) → ⊥
free scope h = let l = below scope (above scope) h in omega arith

record Again (v : Vocabulary) (other : Scope) (xs : Variables) (inner : Scope) : Type 0 where
  scope : Scope
  bounds : List processes.Bound
  binds : Binds v other xs scope bounds
  same : SameNames inner scope

binds_anew : {v : Vocabulary} {one other : Scope} {xs : Variables} {inner : Scope} {bs : List processes.Bound} → SameNames one other → Binds v one xs inner bs → Again v other xs inner
binds_anew {other = other} h binds_none = record { scope = other; bounds = []; binds = binds_none; same = h }
binds_anew {other = other} h (binds_more {x = x} {n = n} {s = s} e f bs) =
    let r = binds_anew {other = record { name = x; number = above other; sort = s } ∷ other} (same_more h) bs in
    record { scope = r.scope; bounds = record { var = above other; sort = s } ∷ r.bounds; binds = binds_more e (free other) r.binds; same = r.same }

mutual
  pub anew : {v : FullVocabulary} {one other : Scope} {p : Process} {b : Body} → SameNames one other → Elaborates v one p b → (c : Body) × Elaborates v other p c
  anew h nothing = (written_delta, nothing)
  anew {v = v} h (label {as_ = as_} e) = let r = there (label_any v.declared h as_) e in (written_act r.0, label r.1)
  anew {v = v} h (call_in_order {es = es} {k = k} {ps = ps} e f) = let r = there (arguments_any v.declared h ps es) f in (written_call k r.0, call_in_order e r.1)
  anew h (one_by_one n ds) = let r = all_anew h ds in (sync_of r.0, one_by_one n r.1)
  anew {v = v} h (call_by_name {ds = ds} {k = k} {ps = ps} e a f) = let r = there (all_assigned v.declared h ps ds) f in (written_call k r.0, call_by_name e a r.1)
  anew h (only_these {sets = sets} f d) = let r = anew h d in (written_around (processes.allow sets) r.0, only_these f r.1)
  anew h (none_of_these {xs = xs} f d) = let r = anew h d in (written_around (processes.block xs) r.0, none_of_these f r.1)
  anew h (unseen {xs = xs} f d) = let r = anew h d in (written_around (processes.hide xs) r.0, unseen f r.1)
  anew h (renamed {rs = rs} f d) = let r = anew h d in (written_around (processes.rename (map renaming_of rs)) r.0, renamed f r.1)
  anew h (joined {cs = cs} f d) = let r = anew h d in (written_around (processes.comm (map rule_of cs)) r.0, joined f r.1)
  anew h (in_sequence ds) = let r = all_anew h ds in (seq_of r.0, in_sequence r.1)
  anew h (one_of ds) = let r = all_anew h ds in (choice_of r.0, one_of r.1)
  anew h (at_once ds) = let r = all_anew h ds in (sync_of r.0, at_once r.1)
  anew h (left_first d f) = let r = anew h d in let q = anew h f in (written_starting processes.left_merge r.0 q.0, left_first r.1 q.1)
  anew h (side_by_side ds) = let r = all_anew h ds in (merge_of r.0, side_by_side r.1)
  anew h (for_each bs d) = let i = binds_anew h bs in let r = anew i.same d in (sums_around i.bounds r.0, for_each i.binds r.1)
  anew {v = v} {one = one} {other = other} h (where_true {e = e} c d) = let t = there ((typing_needs_no_numbers v.declared one other h e).checks boolean) c in let r = anew h d in (written_cond t.0 r.0 written_delta, where_true t.1 r.1)
  anew {v = v} {one = one} {other = other} h (by_truth {e = e} c d f) =
      let t = there ((typing_needs_no_numbers v.declared one other h e).checks boolean) c in let r = anew h d in let q = anew h f in (written_cond t.0 r.0 q.0, by_truth t.1 r.1 q.1)

  all_anew : {v : FullVocabulary} {one other : Scope} {ps : Processes} {bs : List Body} → SameNames one other → AllElaborate v one ps bs → (cs : List Body) × AllElaborate v other ps cs
  all_anew h all_done = ([], all_done)
  all_anew h (one_and_more d ds) = let r = anew h d in let rs = all_anew h ds in (r.0 ∷ rs.0, one_and_more r.1 rs.1)

pub elaborating_needs_no_numbers : ElaboratingNeedsNoNumbers
elaborating_needs_no_numbers v one other h p b d = anew h d

pub bound_alike : {v : Vocabulary} {one other : Scope} {xs : Variables} {i j : Scope} {bs cs : List processes.Bound} → SameNames one other → Binds v one xs i bs → Binds v other xs j cs → SameNames i j
bound_alike h binds_none binds_none = h
bound_alike {one = one} {other = other} {j = j} h (binds_more {x = x} {n = n} {s = s} e f bs) (binds_more {n = k} {s = r} d g cs) =
    let same : r ≡ s = cc in
    bound_alike (subst (λ (q : Sort). SameNames (record { name = x; number = n; sort = s } ∷ one) (record { name = x; number = k; sort = q } ∷ other)) (sym same) (same_more h)) bs cs

pub definitions_need_no_numbers : DefinitionsNeedNoNumbers
definitions_need_no_numbers v w d h scope bounds bs =
    let r = anew (bound_alike same_none h.binds bs) h.body in
    (r.0, record { scope = scope; bounds = bounds; binds = bs; params = refl; body = r.1 })
