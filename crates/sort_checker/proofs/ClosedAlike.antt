-- Under one table, a process term of a text closes to one process, whatever its numbers.
use Rattle.std.proofs.Common.{◌≡◌, ◌≢◌, ℕ, Bool, true, false, ◌||◌, cond, List, [], ◌∷◌, ⊎_elim, if◌then◌else◌, map, refl, sym, ap, ap₂, ◌∙◌, subst}
use Rattle.std.specs.Prelude.{Option, Some, None, is_some, option_map, option_and_then, Contains}
use Rattle.std.proofs.lemmas.Bool.Decides.{eqb_tells}
use Rattle.data_theory.specs.Terms.{Sort, boolean, Term, Terms, variable, apply, put, put_all}
use Rattle.data_theory.specs.Terms as terms
use Rattle.data_theory.specs.Environments.{Environment, term_in}
use Rattle.data_theory.specs.Environments as lists
use Rattle.data_theory.proofs.EnvironmentLemmas.{put-apply, contains_first, contains_later}
use Rattle.process_terms.specs.Labels as written
use Rattle.process_terms.specs.Labels.{Label, put_action, put_label}
use Rattle.process_terms.specs.Processes as processes
use Rattle.process_terms.specs.Processes.{Body, Table, close, written_choice, written_seq, written_merge, written_starting, chain_of, choice_of, seq_of, merge_of, merged_with, sync_of, synced_with, sums_around, act, cond as either, choice, seq, merge, starting, call, around, delta}
use Rattle.sort_table.specs.Expressions.{Name, Expression}
use Rattle.data_typing.specs.Typings.{sort_eq, Typing, exactly, checked}
use Rattle.sort_table.specs.NamedLists.{all_named, first_named}
use Rattle.sort_table.specs.Vocabularies.{Vocabulary}
use Rattle.data_typing.specs.Meanings.{Bound, Scope, typing_in}
use Rattle.sort_table.specs.BareProcesses as bare
use Rattle.sort_table.specs.BareProcesses.{Variables, Action, tau, act as named}
use Rattle.sort_checker.specs.FullVocabularies.{Parameters, FullVocabulary, process_named}
use Rattle.sort_checker.specs.Scopes.{numbers_of, Binds, binds_none, binds_more}
use Rattle.sort_checker.specs.PartTypings.{action_at, action_of, label_in, arguments_in, variable_at, assigned_or, assigned_in}
use Rattle.sort_checker.specs.Operators.{renaming_of, rule_of}
use Rattle.sort_checker.specs.Elaborations.{names_process, Elaborates, nothing, label, call_in_order, one_by_one, call_by_name, only_these, none_of_these, unseen, renamed, joined, in_sequence, one_of, at_once, left_first, side_by_side, for_each, where_true, by_truth, AllElaborate, all_done, one_and_more}
use Rattle.sort_checker.specs.ScopeLaws.{Both, neither, both}
use Rattle.sort_checker.specs.ClosingLaws.{NamesApart, ScopesAgree, agree_none, agree_more, ElaborationsCloseAlike}
use Rattle.sort_checker.proofs.RelatedTypings.{AllRelated, related_none, related_more, Keeps, map_both, then_both, or_both, cond_both, first_both, AllTypings, exactly_kept, checked_kept, Kept, all_both, RelatedScopes, scopes_none, scopes_more, RelatedBounds, found_both, scoped_both, all_scoped}

abbrev Same : Environment → Environment → Term → Term → Type 0
Same e k t u = put (term_in e) t ≡ put (term_in k) u

abbrev SameLists : Environment → Environment → List Term → List Term → Type 0
SameLists e k ts us = map (put (term_in e)) ts ≡ map (put (term_in k)) us

all_put : (e k : Environment) {ts us : Terms} → AllRelated (Same e k) ts us → put_all (term_in e) ts ≡ put_all (term_in k) us
all_put e k related_none = refl
all_put e k (related_more h hs) = ap₂ terms.more h (all_put e k hs)

list_put : (e k : Environment) {ts us : Terms} → AllRelated (Same e k) ts us → SameLists e k (lists.list_of ts) (lists.list_of us)
list_put e k related_none = refl
list_put e k (related_more h hs) = ap₂ (λ (t : Term) (ts : List Term). t ∷ ts) h (list_put e k hs)

keeps : (e k : Environment) → Keeps (Same e k)
keeps e k = record { numerals = λ s z. refl; applications = λ f ts us h. put-apply (term_in e) f ts ∙ ap (apply f) (all_put e k h) ∙ sym (put-apply (term_in k) f us) }

related : (e k : Environment) {one other : Scope} → ScopesAgree e k one other → RelatedScopes (Same e k) one other
related e k agree_none = scopes_none
related e k (agree_more h hs) = scopes_more h (related e k hs)

module _ (v : Vocabulary) (e k : Environment) where
  typed : {one other : Scope} → ScopesAgree e k one other → (es : List Expression) → AllTypings (Same e k) (map (typing_in v one) es) (map (typing_in v other) es)
  typed {one = one} {other = other} h es = all_scoped (Same e k) (keeps e k) v one other (related e k h) es

  action_at_same : (x : Name) (how : Sort → Typing → Option Term) → Kept (Same e k) how → {ts us : List Typing} → AllTypings (Same e k) ts us → (ss : List Sort) → Both (λ (a b : written.Action). put_action e a ≡ put_action k b) (action_at x how ts ss) (action_at x how us ss)
  action_at_same x how kept is ss =
      map_both (λ (us : Terms). record { name = x; sorts = ss; args = lists.list_of us }) (λ (us : Terms). record { name = x; sorts = ss; args = lists.list_of us }) (all_both (Same e k) how kept ss is)
      (λ a b h. ap (λ (ts : List Term). record { name = x; sorts = ss; args = ts }) (list_put e k h))

  action_same : (x : Name) {ts us : List Typing} → AllTypings (Same e k) ts us → (sss : List (List Sort)) → Both (λ (a b : written.Action). put_action e a ≡ put_action k b) (action_of x ts sss) (action_of x us sss)
  action_same x {ts = ts} {us = us} is sss =
      or_both (first_both (action_at x exactly ts) (action_at x exactly us) (action_at_same x exactly (exactly_kept (Same e k)) is) sss) (first_both (action_at x checked ts) (action_at x checked us) (action_at_same x checked (checked_kept (Same e k)) is) sss)

  label_same : {one other : Scope} → ScopesAgree e k one other → (as_ : List Action) → Both (λ (m n : Label). put_label e m ≡ put_label k n) (label_in v one as_) (label_in v other as_)
  label_same h [] = both refl
  label_same h (tau ∷ as_) = label_same h as_
  label_same {one = one} {other = other} h (named x es ∷ as_) =
      then_both (λ (a : written.Action). option_map (λ (m : Label). a ∷ m) (label_in v one as_)) (λ (a : written.Action). option_map (λ (m : Label). a ∷ m) (label_in v other as_)) (action_same x (typed h es) (all_named x v.actions))
      (λ a b q. map_both (λ (m : Label). a ∷ m) (λ (m : Label). b ∷ m) (label_same h as_) (λ m n r. ap₂ (λ (c : written.Action) (l : Label). c ∷ l) q r))

  arguments_same : {one other : Scope} → ScopesAgree e k one other → (ps : Parameters) (es : List Expression) → Both (SameLists e k) (arguments_in v one ps es) (arguments_in v other ps es)
  arguments_same h ps es = map_both lists.list_of lists.list_of (all_both (Same e k) checked (checked_kept (Same e k)) (map (λ (p : Name × Sort). p.1) ps) (typed h es)) (λ a b r. list_put e k r)

  variable_same : (s : Sort) (b c : Bound) → RelatedBounds (Same e k) b c → Both (Same e k) (variable_at s b) (variable_at s c)
  variable_same s b c h = subst (λ (r : Sort). Both (Same e k) (variable_at s b) (if sort_eq r s then Some (variable c.number) else None)) h.sort (cond_both (sort_eq b.sort s) (both h.number) neither)

  assigned_same : {one other : Scope} → ScopesAgree e k one other → (p : Name × Sort) (o : Option Expression) → Both (Same e k) (assigned_or v one p o) (assigned_or v other p o)
  assigned_same h p None = then_both (variable_at p.1) (variable_at p.1) (found_both (Same e k) p.0 (related e k h)) (variable_same p.1)
  assigned_same {one = one} {other = other} h p (Some d) = (scoped_both (Same e k) (keeps e k) v one other (related e k h) d).checks p.1

  all_assigned : {one other : Scope} → ScopesAgree e k one other → (ps : Parameters) (ds : List (Name × Expression)) → Both (SameLists e k) (assigned_in v one ps ds) (assigned_in v other ps ds)
  all_assigned h [] ds = both refl
  all_assigned {one = one} {other = other} h (p ∷ ps) ds =
      then_both (λ (t : Term). option_map (λ (ts : List Term). t ∷ ts) (assigned_in v one ps ds)) (λ (t : Term). option_map (λ (ts : List Term). t ∷ ts) (assigned_in v other ps ds)) (assigned_same h p (first_named p.0 ds))
      (λ a b q. map_both (λ (ts : List Term). a ∷ ts) (λ (ts : List Term). b ∷ ts) (all_assigned h ps ds) (λ m n r. ap₂ (λ (t : Term) (ts : List Term). t ∷ ts) q r))

met : {A B : Type 0} {S : A → B → Type 0} {o : Option A} {p : Option B} {x : A} {y : B} → Both S o p → o ≡ Some x → p ≡ Some y → S x y
met neither f g = absurd cc
met {S = S} {x = x} {y = y} (both {x = a} {y = b} r) f g = let one : a ≡ x = cc in let two : b ≡ y = cc in subst (λ q. S x q) two (subst (λ q. S q b) one r)

some_same : {A : Type 0} {o : Option A} {x y : A} → o ≡ Some x → o ≡ Some y → x ≡ y
some_same f g = cc

-- ---- sums
read_here : (n : ℕ) (t : Term) (e : Environment) → term_in (record { var = n; term = t } ∷ e) n ≡ t
read_here n t e = ap (λ (b : Bool). cond b t (term_in e n)) (⊎_elim (λ y. y.0) (λ y. absurd (y.1 refl)) (eqb_tells n n))

read_behind : (n m : ℕ) (t : Term) (e : Environment) → n ≢ m → term_in (record { var = n; term = t } ∷ e) m ≡ term_in e m
read_behind n m t e h = ap (λ (b : Bool). cond b t (term_in e m)) (⊎_elim (λ y. absurd (h y.1)) (λ y. y.0) (eqb_tells n m))

abbrev with_term : ℕ → Term → Environment → Environment
with_term n t e = record { var = n; term = t } ∷ e

agree_behind : (e k : Environment) (n l : ℕ) (t : Term) {one other : Scope} → (Contains (numbers_of one) n → ⊥) → (Contains (numbers_of other) l → ⊥) → ScopesAgree e k one other → ScopesAgree (with_term n t e) (with_term l t k) one other
agree_behind e k n l t f g agree_none = agree_none
agree_behind e k n l t f g (agree_more {n = a} {l = b} {one = one} {other = other} h hs) =
    agree_more (read_behind n a t e (λ q. f (subst (λ (m : ℕ). Contains (a ∷ numbers_of one) m) (sym q) (contains_first a (numbers_of one))))
    ∙ h ∙ sym (read_behind l b t k (λ q. g (subst (λ (m : ℕ). Contains (b ∷ numbers_of other) m) (sym q) (contains_first b (numbers_of other))))))
    (agree_behind e k n l t (λ c. f (contains_later a n (numbers_of one) c)) (λ c. g (contains_later b l (numbers_of other) c)) hs)

sums_same : {v : Vocabulary} (d : Table) {one other : Scope} {xs : Variables} {i j : Scope} {bs cs : List processes.Bound} (p q : Body) → Binds v one xs i bs → Binds v other xs j cs
    → ((e k : Environment) → ScopesAgree e k i j → close d e p ≡ close d k q) → (e k : Environment) → ScopesAgree e k one other → close d e (sums_around bs p) ≡ close d k (sums_around cs q)
sums_same d p q binds_none binds_none f e k h = f e k h
sums_same {v = v} d {one = one} {other = other} p q (binds_more {x = x} {n = n} {s = s} {bs = bs} se fr ds) (binds_more {n = l} {s = r} {bs = cs} te gr ts) f e k h =
    let same : s ≡ r = cc in
    let agree : (t : Term) → ScopesAgree (with_term n t e) (with_term l t k) (record { name = x; number = n; sort = s } ∷ one) (record { name = x; number = l; sort = r } ∷ other)
    = λ t. subst (λ (w : Sort). ScopesAgree (with_term n t e) (with_term l t k) (record { name = x; number = n; sort = s } ∷ one) (record { name = x; number = l; sort = w } ∷ other)) same
    (agree_more (read_here n t e ∙ sym (read_here l t k)) (agree_behind e k n l t fr gr h)) in
    let inside : (t : Term) → close d (with_term n t e) (sums_around bs p) ≡ close d (with_term l t k) (sums_around cs q) = λ t. sums_same d p q ds ts f (with_term n t e) (with_term l t k) (agree t) in
    λ i. processes.sum (same i) (λ t. inside t i)

-- ---- several operands
data AllClose (d : Table) (e k : Environment) : List Body → List Body → Type 0 where
  close_none : AllClose d e k [] []
  close_more : {b c : Body} {bs cs : List Body} → close d e b ≡ close d k c → AllClose d e k bs cs → AllClose d e k (b ∷ bs) (c ∷ cs)

choices : {d : Table} {e k : Environment} {bs cs : List Body} → AllClose d e k bs cs → close d e (choice_of bs) ≡ close d k (choice_of cs)
choices close_none = refl
choices (close_more h close_none) = h
choices (close_more h (close_more g hs)) = ap₂ choice h (choices (close_more g hs))

seqs : {d : Table} {e k : Environment} {bs cs : List Body} → AllClose d e k bs cs → close d e (seq_of bs) ≡ close d k (seq_of cs)
seqs close_none = refl
seqs (close_more h close_none) = h
seqs (close_more h (close_more g hs)) = ap₂ seq h (seqs (close_more g hs))

merged_same : {d : Table} {e k : Environment} (p q : Body) {bs cs : List Body} → close d e p ≡ close d k q → AllClose d e k bs cs → close d e (merged_with p bs) ≡ close d k (merged_with q cs)
merged_same p q h close_none = h
merged_same p q h (close_more {b = b} {c = c} g hs) = merged_same (written_merge p b) (written_merge q c) (ap₂ merge h g) hs

merges : {d : Table} {e k : Environment} {bs cs : List Body} → AllClose d e k bs cs → close d e (merge_of bs) ≡ close d k (merge_of cs)
merges close_none = refl
merges (close_more {b = b} {c = c} h hs) = merged_same b c h hs

synced_same : {d : Table} {e k : Environment} (p q : Body) {bs cs : List Body} → close d e p ≡ close d k q → AllClose d e k bs cs → close d e (synced_with p bs) ≡ close d k (synced_with q cs)
synced_same p q h close_none = h
synced_same p q h (close_more {b = b} {c = c} g hs) = synced_same (written_starting processes.sync p b) (written_starting processes.sync q c) (ap₂ (starting processes.sync) h g) hs

syncs : {d : Table} {e k : Environment} {bs cs : List Body} → AllClose d e k bs cs → close d e (sync_of bs) ≡ close d k (sync_of cs)
syncs close_none = refl
syncs (close_more {b = b} {c = c} h hs) = synced_same b c h hs

-- ---- the whole
no_label : (v : FullVocabulary) → NamesApart v → (scope : Scope) (x : Name) (es : List Expression) (r : ℕ × Parameters) (m : Label) → process_named v x ≡ Some r → label_in v.declared scope (named x es ∷ []) ≡ Some m → ⊥
no_label v apart scope x es r m f g =
    let h : None ≡ Some m = sym (ap (λ (sss : List (List Sort)). option_and_then (λ (a : written.Action). option_map (λ (l : Label). a ∷ l) (label_in v.declared scope [])) (action_of x (map (typing_in v.declared scope) es) sss)) (apart x r f)) ∙ g in absurd cc

-- nor are several, one of which is a process
label_behind : (o : Option written.Action) (q : Option Label) (m : Label) → option_and_then (λ (a : written.Action). option_map (λ (l : Label). a ∷ l) q) o ≡ Some m → (l : Label) × (q ≡ Some l)
label_behind None q m e = absurd cc
label_behind (Some a) None m e = absurd cc
label_behind (Some a) (Some l) m e = (l, refl)

no_labels : (v : FullVocabulary) → NamesApart v → (scope : Scope) (as_ : List Action) (m : Label) → names_process v as_ ≡ true → label_in v.declared scope as_ ≡ Some m → ⊥
no_labels v apart scope [] m f g = let never : false ≡ true = f in absurd cc
no_labels v apart scope (tau ∷ as_) m f g = no_labels v apart scope as_ m f g
no_labels v apart scope (named x es ∷ as_) m f g = by_process (no_labels v apart scope as_) (process_named v x) refl f
  where
    by_process : ((l : Label) → names_process v as_ ≡ true → label_in v.declared scope as_ ≡ Some l → ⊥) → (o : Option (ℕ × Parameters)) → process_named v x ≡ o → (is_some o || names_process v as_) ≡ true → ⊥
    by_process later (Some r) e k =
        let h : None ≡ Some m = sym (ap (λ (sss : List (List Sort)). option_and_then (λ (a : written.Action). option_map (λ (l : Label). a ∷ l) (label_in v.declared scope as_)) (action_of x (map (typing_in v.declared scope) es) sss)) (apart x r e)) ∙ g in absurd cc
    by_process later None e k =
        let rest = label_behind (action_of x (map (typing_in v.declared scope) es) (all_named x v.declared.actions)) (label_in v.declared scope as_) m g in later rest.0 k rest.1

mutual
  closing : {v : FullVocabulary} → NamesApart v → {one other : Scope} {p : bare.Process} {b c : Body} → Elaborates v one p b → Elaborates v other p c → (d : Table) (e k : Environment) → ScopesAgree e k one other → close d e b ≡ close d k c
  closing a nothing nothing d e k h = refl
  closing {v = v} a (label {as_ = as_} f) (label g) d e k h = ap act (met (label_same v.declared e k h as_) f g)
  closing {v = v} a {one = one} (label {m = m} f) (call_in_order {x = x} {es = es} {k = j} {ps = ps} g q) d e k h = absurd (no_label v a one x es (j, ps) m g f)
  closing {v = v} a {other = other} (call_in_order {x = x} {es = es} {k = j} {ps = ps} g q) (label {m = m} f) d e k h = absurd (no_label v a other x es (j, ps) m g f)
  closing {v = v} a {one = one} {other = other} (call_in_order {es = es} {k = i} {ps = ps} f g) (call_in_order {k = j} {ps = qs} {ts = us} f' g') d e k h =
      let same = some_same f f' in
      ap₂ (λ (n : ℕ) (ts : List Term). call d n ts) (ap (λ (r : ℕ × Parameters). r.0) same)
      (met (arguments_same v.declared e k h ps es) g (subst (λ (r : Parameters). arguments_in v.declared other r es ≡ Some us) (sym (ap (λ (r : ℕ × Parameters). r.1) same)) g'))
  closing {v = v} a {one = one} (label {m = m} f) (one_by_one {a = x} {b = y} {as_ = as_} n ys) d e k h = absurd (no_labels v a one (x ∷ y ∷ as_) m n f)
  closing {v = v} a {other = other} (one_by_one {a = x} {b = y} {as_ = as_} n ys) (label {m = m} f) d e k h = absurd (no_labels v a other (x ∷ y ∷ as_) m n f)
  closing a (one_by_one n xs) (one_by_one m ys) d e k h = syncs (all_closing a xs ys d e k h)
  closing {v = v} a {one = one} {other = other} (call_by_name {ds = ds} {k = i} {ps = ps} f y g) (call_by_name {k = j} {ps = qs} {ts = us} f' y' g') d e k h =
      let same = some_same f f' in
      ap₂ (λ (n : ℕ) (ts : List Term). call d n ts) (ap (λ (r : ℕ × Parameters). r.0) same)
      (met (all_assigned v.declared e k h ps ds) g (subst (λ (r : Parameters). assigned_in v.declared other r ds ≡ Some us) (sym (ap (λ (r : ℕ × Parameters). r.1) same)) g'))
  closing a (only_these {sets = sets} f x) (only_these g y) d e k h = ap (around (processes.allow sets)) (closing a x y d e k h)
  closing a (none_of_these {xs = xs} f x) (none_of_these g y) d e k h = ap (around (processes.block xs)) (closing a x y d e k h)
  closing a (unseen {xs = xs} f x) (unseen g y) d e k h = ap (around (processes.hide xs)) (closing a x y d e k h)
  closing a (renamed {rs = rs} f x) (renamed g y) d e k h = ap (around (processes.rename (map renaming_of rs))) (closing a x y d e k h)
  closing a (joined {cs = cs} f x) (joined g y) d e k h = ap (around (processes.comm (map rule_of cs))) (closing a x y d e k h)
  closing a (in_sequence xs) (in_sequence ys) d e k h = seqs (all_closing a xs ys d e k h)
  closing a (one_of xs) (one_of ys) d e k h = choices (all_closing a xs ys d e k h)
  closing a (at_once xs) (at_once ys) d e k h = syncs (all_closing a xs ys d e k h)
  closing a (left_first x y) (left_first x' y') d e k h = ap₂ (starting processes.left_merge) (closing a x x' d e k h) (closing a y y' d e k h)
  closing a (side_by_side xs) (side_by_side ys) d e k h = merges (all_closing a xs ys d e k h)
  closing a (for_each {b = p} bs x) (for_each {b = q} cs y) d e k h = sums_same d p q bs cs (λ e' k' h'. closing a x y d e' k' h') e k h
  closing {v = v} a {one = one} {other = other} (where_true {e = w} f x) (where_true g y) d e k h =
      ap₂ (λ (t : Term) (p : processes.Process). either t p delta) (met ((scoped_both (Same e k) (keeps e k) v.declared one other (related e k h) w).checks boolean) f g) (closing a x y d e k h)
  closing {v = v} a {one = one} {other = other} (by_truth {e = w} f x y) (by_truth g x' y') d e k h =
      let t = met ((scoped_both (Same e k) (keeps e k) v.declared one other (related e k h) w).checks boolean) f g in
      let p = closing a x x' d e k h in
      let q = closing a y y' d e k h in
      λ i. either (t i) (p i) (q i)

  all_closing : {v : FullVocabulary} → NamesApart v → {one other : Scope} {ps : bare.Processes} {bs cs : List Body} → AllElaborate v one ps bs → AllElaborate v other ps cs → (d : Table) (e k : Environment) → ScopesAgree e k one other → AllClose d e k bs cs
  all_closing a all_done all_done d e k h = close_none
  all_closing a (one_and_more x xs) (one_and_more y ys) d e k h = close_more (closing a x y d e k h) (all_closing a xs ys d e k h)

pub elaborations_close_alike : ElaborationsCloseAlike
elaborations_close_alike v a one other p b c x y d e k h = closing a x y d e k h
