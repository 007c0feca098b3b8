-- In a text that declares nothing twice, no process has the name of an action.
use Rattle.std.proofs.Common.{◌≡◌, ◌⊎◌, inl, inr, ℕ, zero, suc, Bool, true, false, cond, List, [], ◌∷◌, ◌++◌, map, refl, ap, sym, ◌∙◌, subst}
use Rattle.std.specs.Prelude.{Option, Some, None, bytes_eq, slice_get}
use Rattle.std.specs.List.{flat_map}
use Rattle.std.proofs.lemmas.List.{append-nil}
use Rattle.std.proofs.lemmas.Option.{none-some, same_Some}
use Rattle.std.proofs.lemmas.Slice.Eq.{bytes_eq-Decides}
use Rattle.data_theory.specs.Terms.{Sort}
use Rattle.sort_table.specs.Expressions.{Name}
use Rattle.sort_table.specs.NamedLists.{all_named}
use Rattle.sort_table.specs.BareSorts.{SortExpression}
use Rattle.sort_table.specs.BareDeclarations.{Declaration, sorts, alias, struct, constructors, mappings, variables, equation, actions, process, initial, Section, declarations_in}
use Rattle.sort_table.specs.SortMeanings.{under_names, actions_by, actions_in}
use Rattle.sort_table.specs.Duplicates.{Item, an_action, a_process, items_of, IsAgain, process_as_action, action_as_process, NothingAgain}
use Rattle.sort_table.specs.Vocabularies.{EachPair, AreSortsOf}
use Rattle.sort_table.proofs.NothingTwice.{HasPart, at_one_place}
use Rattle.sort_checker.specs.FullVocabularies.{Parameters, FullVocabulary, process_from, process_named, Written, process_by, processes_in, IsEntry, IsFullVocabularyOf}

-- ---- elements of lists
data Among {A : Type 0} (x : A) : List A → Type 0 where
  first_one : {xs : List A} → Among x (x ∷ xs)
  one_behind : {y : A} {xs : List A} → Among x xs → Among x (y ∷ xs)

among_none : {A : Type 0} {x : A} → Among x [] → ⊥
among_none h = elim h [ ]

among_front : {A : Type 0} {x : A} {xs : List A} (ys : List A) → Among x xs → Among x (xs ++ ys)
among_front ys first_one = first_one
among_front ys (one_behind h) = one_behind (among_front ys h)

among_behind : {A : Type 0} {x : A} (xs : List A) {ys : List A} → Among x ys → Among x (xs ++ ys)
among_behind [] h = h
among_behind (y ∷ xs) h = one_behind (among_behind xs h)

among_either : {A : Type 0} {x : A} (xs ys : List A) → Among x (xs ++ ys) → Among x xs ⊎ Among x ys
among_either [] ys h = inr h
among_either (z ∷ xs) ys first_one = inl first_one
among_either {x = x} (z ∷ xs) ys (one_behind h) = further (among_either xs ys h)
  where
    further : Among x xs ⊎ Among x ys → Among x (z ∷ xs) ⊎ Among x ys
    further (inl k) = inl (one_behind k)
    further (inr k) = inr k

among_mapped : {A B : Type 0} (f : A → B) {x : A} {xs : List A} → Among x xs → Among (f x) (map f xs)
among_mapped f first_one = first_one
among_mapped f (one_behind h) = one_behind (among_mapped f h)

among_all : {D A B : Type 0} (f : A → B) (by : D → List A) (to : D → List B) → ((d : D) (x : A) → Among x (by d) → Among (f x) (to d)) → (ds : List D) (x : A) → Among x (flat_map by ds) → Among (f x) (flat_map to ds)
among_all f by to w [] x h = absurd (among_none h)
among_all f by to w (d ∷ ds) x h = of_either (among_all f by to w ds x) (among_either (by d) (flat_map by ds) h)
  where
    of_either : (Among x (flat_map by ds) → Among (f x) (flat_map to ds)) → Among x (by d) ⊎ Among x (flat_map by ds) → Among (f x) (to d ++ flat_map to ds)
    of_either rest (inl k) = among_front (flat_map to ds) (w d x k)
    of_either rest (inr k) = among_behind (to d) (rest k)

place_of : {A : Type 0} {x : A} {xs : List A} → Among x xs → (i : ℕ) × (slice_get xs i ≡ Some x)
place_of first_one = (0, refl)
place_of (one_behind h) = let r = place_of h in (suc r.0, r.1)

among_rows : {A : Type 0} (x : Name) (rs : List (Name × A)) (a : A) → Among a (all_named x rs) → Among (x, a) rs
among_rows x [] a h = absurd (among_none h)
among_rows {A = A} x (r ∷ rs) a h = by_test (among_rows x rs) (bytes_eq r.0 x) refl h
  where
    here : ((b : A) → Among b (all_named x rs) → Among (x, b) rs) → r.0 ≡ x → (b : A) → Among b (r.1 ∷ all_named x rs) → Among (x, b) (r ∷ rs)
    here rest e b first_one = subst (λ (n : Name). Among (n, r.1) (r ∷ rs)) e first_one
    here rest e b (one_behind k) = one_behind (rest b k)

    by_test : ((b : A) → Among b (all_named x rs) → Among (x, b) rs) → (b : Bool) → bytes_eq r.0 x ≡ b → Among a (cond b (r.1 ∷ all_named x rs) (all_named x rs)) → Among (x, a) (r ∷ rs)
    by_test rest true e k = here rest ((bytes_eq-Decides r.0 x).0 e) a k
    by_test rest false e k = one_behind (rest a k)

-- ---- processes and actions
-- the name of a process, or an action with its sorts
abbrev Entry : Type 0
Entry = Name ⊎ (Name × List SortExpression)

abbrev item : Entry → Item
item (inl n) = a_process n
item (inr a) = an_action a.0 a.1

abbrev process_entry : Written → Entry
process_entry w = inl w.name

abbrev action_entry : Name × List SortExpression → Entry
action_entry a = inr a

abbrev entries_by : Declaration → List Entry
entries_by d = map process_entry (process_by d) ++ map action_entry (actions_by d)

acts_of : (as_ : List Name) (es : List SortExpression) → map (λ a. an_action a es) as_ ≡ map item (map action_entry (map (λ a. (a, es)) as_))
acts_of [] es = refl
acts_of (a ∷ as_) es = ap (λ xs. an_action a es ∷ xs) (acts_of as_ es)

has_entries : (k : ℕ) (d : Declaration) → HasPart item (items_of k d) (entries_by d)
has_entries k (sorts ns) = record { front = []; behind = items_of k (sorts ns); is = refl }
has_entries k (alias n e) = record { front = []; behind = items_of k (alias n e); is = refl }
has_entries k (struct n cs) = record { front = []; behind = items_of k (struct n cs); is = refl }
has_entries k (constructors fs es to) = record { front = []; behind = items_of k (constructors fs es to); is = refl }
has_entries k (mappings fs es to) = record { front = []; behind = items_of k (mappings fs es to); is = refl }
has_entries k (variables vs) = record { front = []; behind = items_of k (variables vs); is = refl }
has_entries k (equation c l r) = record { front = []; behind = []; is = refl }
has_entries k (actions as_ es) = record { front = []; behind = []; is = acts_of as_ es ∙ sym (append-nil (map item (map action_entry (map (λ a. (a, es)) as_)))) }
has_entries k (process p vs body) = record { front = []; behind = []; is = refl }
has_entries k (initial body) = record { front = []; behind = []; is = refl }

process_among : (k : ℕ) (x : Name) (v : FullVocabulary) (ws : List Written) (rs : List (Name × Parameters)) (r : ℕ × Parameters) → EachPair (IsEntry v.declared) ws rs → process_from k x rs ≡ Some r → (p : Written) × Among p ws × (p.name ≡ x)
process_among k x v [] [] r all h = absurd (none-some r h)
process_among k x v [] (q ∷ rs) r all h = absurd all
process_among k x v (p ∷ ws) [] r all h = absurd all
process_among k x v (p ∷ ws) (q ∷ rs) r all h = by_test (process_among (suc k) x v ws rs r all.1) (bytes_eq q.0 x) refl h
  where
    by_test : (process_from (suc k) x rs ≡ Some r → (o : Written) × Among o ws × (o.name ≡ x)) → (b : Bool) → bytes_eq q.0 x ≡ b → cond b (Some (k, q.1)) (process_from (suc k) x rs) ≡ Some r → (o : Written) × Among o (p ∷ ws) × (o.name ≡ x)
    by_test rest true e g = (p, first_one, all.0.name ∙ (bytes_eq-Decides q.0 x).0 e)
    by_test rest false e g = let o = rest g in (o.0, one_behind o.1, o.2)

module _ (ss : List Section) (none : NothingAgain ss) where
  never_both : (x : Name) (es : List SortExpression) → Among (inl x) (flat_map entries_by (declarations_in ss)) → Among (action_entry (x, es)) (flat_map entries_by (declarations_in ss)) → ⊥
  never_both x es p a =
      let i = place_of p in
      let j = place_of a in
      let same : i.0 ≡ j.0 = at_one_place item entries_by has_entries ss none i.0 j.0 (inl x) (inr (x, es)) i.1 j.1 (process_as_action x es) (action_as_process x es) in
      let one : Entry = inl x in
      let other : Entry = inr (x, es) in
      let met : Some one ≡ Some other = sym i.1 ∙ (ap (slice_get (flat_map entries_by (declarations_in ss))) same ∙ j.1) in
      let equal : one ≡ other = same_Some one other met in
      cc

  -- nothing stands under the name of a process among the actions
  pub no_action : (v : FullVocabulary) → IsFullVocabularyOf (declarations_in ss) v → (w : FullVocabulary) → IsFullVocabularyOf (declarations_in ss) w → (x : Name) (r : ℕ × Parameters) → process_named v x ≡ Some r → all_named x w.declared.actions ≡ []
  no_action v iv w iw x r h = by_actions (all_named x (actions_in (declarations_in ss))) refl (all_named x w.declared.actions) (iw.declared.actions x)
    where
      by_actions : (ess : List (List SortExpression)) → all_named x (actions_in (declarations_in ss)) ≡ ess → (sss : List (List Sort)) → EachPair (AreSortsOf w.declared) ess sss → sss ≡ []
      by_actions [] e [] all = refl
      by_actions [] e (s ∷ sss) all = absurd all
      by_actions (es ∷ ess) e [] all = absurd all
      by_actions (es ∷ ess) e (s ∷ sss) all =
          let p = process_among 0 x v (processes_in (declarations_in ss)) v.processes r iv.processes h in
          let its : Among (inl x) (flat_map entries_by (declarations_in ss)) =
          subst (λ (n : Name). Among (inl n) (flat_map entries_by (declarations_in ss))) p.2
          (among_all process_entry process_by entries_by (λ d o k. among_front (map action_entry (actions_by d)) (among_mapped process_entry k)) (declarations_in ss) p.0 p.1) in
          let row : Among (x, es) (actions_in (declarations_in ss)) = among_rows x (actions_in (declarations_in ss)) es (subst (λ (xs : List (List SortExpression)). Among es xs) (sym e) first_one) in
          let act = among_all action_entry actions_by entries_by (λ d o k. among_behind (map process_entry (process_by d)) (among_mapped action_entry k)) (declarations_in ss) (x, es) row in
          absurd (never_both x es its act)
