-- The actions of a signature as elaborating takes them, one after the other.
use Rattle.std.proofs.Common.{◌≡◌, ◌≢◌, ◌<◌, ◌≤◌, ◌+◌, ◌==◌, ℕ, zero, suc, Bool, true, false, cond, List, [], ◌∷◌, ◌++◌, length, map, take, get_or, slice_set, refl, sym, subst, ap, ap₂, ◌∙◌, arith}
use Rattle.std.specs.Prelude.{Some, Vec, bytes_eq, slice_get, option_map}
use Rattle.std.specs.Global.{Global}
use Rattle.std.specs.List.{AllByRecursion}
use Rattle.std.proofs.lemmas.List.{map-append, take_more}
use Rattle.std.proofs.lemmas.Option.{slice_get-map, get_or_from_slice_get, slice_get_within}
use Rattle.std.proofs.lemmas.Bool.{eq-eqb, eqb-true}
use Rattle.std.proofs.lemmas.Slice.Eq.{bytes_eq-Decides}
use Rattle.data_theory.specs.declared.actions.ActEntry.{ActEntry}
use Rattle.data_theory.specs.Actions.{actions_of}
use Rattle.data_theory.specs.Keys.{Key, key}
use Rattle.data_theory.specs.Terms.{Sort}
use Rattle.data_theory.specs.Signature.{Sig}
use Rattle.data_theory.specs.IdTerms.{sort_under}
use Rattle.data_theory.specs.WholeSignatures.{IsSignature}
use Rattle.sort_table.specs.Expressions.{Name}
use Rattle.sort_table.specs.NamedLists.{all_named}
use Rattle.sort_table.specs.SignatureVocabularies.{text_under, action_under, vocabulary_of}
use Rattle.sort_table.specs.Vocabularies.{Vocabulary}
use Rattle.data_typing.specs.Contexts.{IsFlatOver}
use Rattle.data_typing.specs.FlatSorts.{flat_sort}
use Rattle.data_typing.proofs.Contexts.{flat_stays}
use Rattle.term_pool.specs.Pools.{PoolContents}
use Rattle.sort_checker.specs.declared.sorted_actions.SortedAction.{SortedAction}
use Rattle.sort_checker.specs.declared.sorted_actions.SortedActions.{SortedActions}
use Rattle.sort_checker.specs.Additions.{GoesOn}
use Rattle.sort_checker.specs.SortedActions.{sorts_of, actions_at, PutsBehind, IsSortedAction, AreActionsOf}
use Rattle.sort_checker.proofs.ActionGroups.{entry_within}
use Rattle.sort_checker.proofs.Adding.{it_is_grown, vocabulary_stays, texts_stay}
use Rattle.sort_checker.proofs.FreeParts.{same_name}
use Rattle.sort_checker.proofs.SortedParts.{all_weaker}

-- ---- groups
abbrev Group : Type 0
Group = Vec SortedAction Global

-- an empty group more is none
pub room_same : (gs : List Group) (v : Group) → v.items ≡ [] → (n : ℕ) → actions_at (gs ++ v ∷ []) n ≡ actions_at gs n
room_same [] v e zero = e
room_same [] v e (suc n) = refl
room_same (g ∷ gs) v e zero = refl
room_same (g ∷ gs) v e (suc n) = room_same gs v e n

pub group_at : (gs : List Group) (k : ℕ) (v : Group) → k < length gs → v ≡ get_or gs k v → actions_at gs k ≡ v.items
group_at [] k v l e = let never : ⊥ = omega (arith, l) in absurd never
group_at (g ∷ gs) zero v l e = ap (λ (w : Group). w.items) (sym e)
group_at (g ∷ gs) (suc k) v l e = group_at gs k v (omega (arith, l)) e

pub no_group : (gs : List Group) (k : ℕ) → length gs ≤ k → actions_at gs k ≡ []
no_group [] k l = none_there k
  where
    none_there : (n : ℕ) → actions_at [] n ≡ []
    none_there zero = refl
    none_there (suc n) = refl
no_group (g ∷ gs) zero l = let never : ⊥ = omega (arith, l) in absurd never
no_group (g ∷ gs) (suc k) l = no_group gs k (omega (arith, l))

-- one action more in one group
set_here : (gs : List Group) (k : ℕ) (w : Group) → k < length gs → actions_at (slice_set gs k w) k ≡ w.items
set_here [] k w l = let never : ⊥ = omega (arith, l) in absurd never
set_here (g ∷ gs) zero w l = refl
set_here (g ∷ gs) (suc k) w l = set_here gs k w (omega (arith, l))

set_there : (gs : List Group) (k : ℕ) (w : Group) (n : ℕ) → n ≢ k → actions_at (slice_set gs k w) n ≡ actions_at gs n
set_there [] k w n other = refl
set_there (g ∷ gs) zero w zero other = absurd (other refl)
set_there (g ∷ gs) zero w (suc n) other = refl
set_there (g ∷ gs) (suc k) w zero other = refl
set_there (g ∷ gs) (suc k) w (suc n) other = set_there gs k w n (λ e. other (ap suc e))

pub put_behind : (gs : List Group) (k : ℕ) (v w : Group) (a : SortedAction) → k < length gs → v ≡ get_or gs k v → w.items ≡ v.items ++ a ∷ [] → PutsBehind gs k a (slice_set gs k w)
put_behind gs k v w a l e pushed n = by_test (k == n) refl
  where
    by_test : (b : Bool) → (k == n) ≡ b → actions_at (slice_set gs k w) n ≡ cond b (actions_at gs n ++ a ∷ []) (actions_at gs n)
    by_test true q =
        let same : k ≡ n = eqb-true k n q in
        ap (actions_at (slice_set gs k w)) (sym same) ∙ (set_here gs k w l ∙ (pushed ∙ ap (λ (xs : List SortedAction). xs ++ a ∷ []) (sym (group_at gs k v l e) ∙ ap (actions_at gs) same)))
    by_test false q = set_there gs k w n (λ o. let never : true ≡ false = sym (eq-eqb k n (sym o)) ∙ q in cc)

-- one more behind those of which something holds
all_with : {A : Type 0} (P : A → Type 0) (xs : List A) (x : A) → AllByRecursion P xs → P x → AllByRecursion P (xs ++ x ∷ [])
all_with P [] x all one = (one, tt)
all_with P (y ∷ xs) x all one = (all.0, all_with P xs x all.1 one)

-- ---- the actions up to a place
-- of the name
pub record AreNamedUpTo (g : Sig) (keys : List Key) (x : Name) (as_ : List SortedAction) : Type 0 where
  pub sorts : map sorts_of as_ ≡ all_named x (map (action_under g) keys)
  pub each : AllByRecursion (IsSortedAction g x) as_

abbrev pub AreUpTo : Sig → List ActEntry → List Group → Type 0
AreUpTo g es gs = (n : ℕ) (x : Name) → slice_get g.texts n ≡ Some x → AreNamedUpTo g (actions_of es) x (actions_at gs n)

pub none_up_to : (g : Sig) (gs : List Group) → gs ≡ [] → AreUpTo g [] gs
none_up_to g gs e n x at = subst (AreNamedUpTo g [] x) (sym (ap (λ (hs : List Group). actions_at hs n) e)) (record { sorts = refl; each = tt })

pub all_up_to : (g : Sig) (es : List ActEntry) → actions_of es ≡ g.actions → (t : SortedActions) → AreUpTo g es t.groups.items → AreActionsOf g t
all_up_to g es all t are n x at = let r = are n x at in record { sorts = r.sorts ∙ ap (λ (ks : List Key). all_named x (map (action_under g) ks)) all; each = r.each }

named_behind : (x : Name) (rs : List (Name × List Sort)) (r : Name × List Sort) → all_named x (rs ++ r ∷ []) ≡ cond (bytes_eq r.0 x) (all_named x rs ++ r.1 ∷ []) (all_named x rs)
named_behind x [] r = refl
named_behind x (q ∷ rs) r = by_tests (bytes_eq q.0 x) (bytes_eq r.0 x) (named_behind x rs r)
  where
    by_tests : (b c : Bool) → all_named x (rs ++ r ∷ []) ≡ cond c (all_named x rs ++ r.1 ∷ []) (all_named x rs)
        → cond b (q.1 ∷ all_named x (rs ++ r ∷ [])) (all_named x (rs ++ r ∷ [])) ≡ cond c (cond b (q.1 ∷ all_named x rs) (all_named x rs) ++ r.1 ∷ []) (cond b (q.1 ∷ all_named x rs) (all_named x rs))
    by_tests true true e = ap (λ (xs : List (List Sort)). q.1 ∷ xs) e
    by_tests true false e = ap (λ (xs : List (List Sort)). q.1 ∷ xs) e
    by_tests false true e = e
    by_tests false false e = e

module _ (g : Sig) (is : IsSignature g) (es : List ActEntry) (all : actions_of es ≡ g.actions) (i : ℕ) (e : ActEntry) (inside : i < length es) (at : e ≡ get_or es i e) (a : SortedAction) (numbered : a.act.0 ≡ i)
    (sorts : map flat_sort a.sorts.items ≡ map (sort_under g) e.sorts.items) (over : AllByRecursion (IsFlatOver g) a.sorts.items) where
  its_key : Key
  its_key = key e.name e.sorts.items

  key_at : (fs : List ActEntry) (k : ℕ) → k < length fs → e ≡ get_or fs k e → slice_get (actions_of fs) k ≡ Some (key e.name e.sorts.items)
  key_at [] k l q = let never : ⊥ = omega (arith, l) in absurd never
  key_at (f ∷ fs) zero l q = ap (λ (d : ActEntry). Some (key d.name d.sorts.items)) (sym q)
  key_at (f ∷ fs) (suc k) l q = key_at fs k (omega (arith, l)) q

  its_entry : slice_get (vocabulary_of g).actions a.act.0 ≡ Some (text_under g e.name, sorts_of a)
  its_entry =
      ap (slice_get (map (action_under g) g.actions)) numbered ∙ (slice_get-map (action_under g) g.actions i
      ∙ ap (option_map (action_under g)) (ap (λ (ks : List Key). slice_get ks i) (sym all) ∙ key_at es i inside at) ∙ ap (λ (ss : List Sort). Some (text_under g e.name, ss)) (sym sorts))

  keys_more : map (action_under g) (actions_of (take (i + 1) es)) ≡ map (action_under g) (actions_of (take i es)) ++ (text_under g e.name, map (sort_under g) e.sorts.items) ∷ []
  keys_more =
      ap (λ (fs : List ActEntry). map (action_under g) (actions_of fs)) (take_more es i e inside)
      ∙ (ap (map (action_under g)) (map-append (λ (d : ActEntry). key d.name d.sorts.items) (take i es) (get_or es i e ∷ []))
      ∙ (map-append (action_under g) (actions_of (take i es)) (key (get_or es i e).name (get_or es i e).sorts.items ∷ [])
      ∙ ap (λ (d : ActEntry). map (action_under g) (actions_of (take i es)) ++ (text_under g d.name, map (sort_under g) d.sorts.items) ∷ []) (sym at)))

  pub more_up_to : (old new : List Group) → PutsBehind old e.name.0 a new → AreUpTo g (take i es) old → AreUpTo g (take (i + 1) es) new
  more_up_to old new puts before n x there =
      let text : text_under g (record { 0 = n }) ≡ x = get_or_from_slice_get g.texts n x [] there in
      let test : bytes_eq (text_under g e.name) x ≡ (e.name.0 == n) = ap (bytes_eq (text_under g e.name)) (sym text) ∙ same_name g.texts is.table.different e.name.0 n (entry_within g is es all i e inside at).named (slice_get_within g.texts n x there) in
      subst (AreNamedUpTo g (actions_of (take (i + 1) es)) x) (sym (puts n)) (by_test (e.name.0 == n) test (before n x there))
    where
      rows : List (Name × List Sort)
      rows = map (action_under g) (actions_of (take i es))

      more : (b : Bool) → bytes_eq (text_under g e.name) x ≡ b → all_named x (map (action_under g) (actions_of (take (i + 1) es))) ≡ cond b (all_named x rows ++ map (sort_under g) e.sorts.items ∷ []) (all_named x rows)
      more b q =
          ap (all_named x) keys_more ∙ (named_behind x rows (text_under g e.name, map (sort_under g) e.sorts.items) ∙ ap (λ (c : Bool). cond c (all_named x rows ++ map (sort_under g) e.sorts.items ∷ []) (all_named x rows)) q)

      by_test : (b : Bool) → bytes_eq (text_under g e.name) x ≡ b → AreNamedUpTo g (actions_of (take i es)) x (actions_at old n) → AreNamedUpTo g (actions_of (take (i + 1) es)) x (cond b (actions_at old n ++ a ∷ []) (actions_at old n))
      by_test true q so = record {
        sorts = map-append sorts_of (actions_at old n) (a ∷ []) ∙ (ap₂ (λ (sss : List (List Sort)) (ss : List Sort). sss ++ ss ∷ []) so.sorts sorts ∙ sym (more true q));
        each = all_with (IsSortedAction g x) (actions_at old n) a so.each (record { numbered = its_entry ∙ ap (λ (t : Name). Some (t, sorts_of a)) ((bytes_eq-Decides (text_under g e.name) x).0 q); over = over });
      }
      by_test false q so = record { sorts = so.sorts ∙ sym (more false q); each = so.each }

-- ---- along what is added
pub sorted_on : (g : Sig) (p : PoolContents) (h : Sig) (q : PoolContents) → IsSignature g → GoesOn g p h q → (x : Name) (a : SortedAction) → IsSortedAction g x a → IsSortedAction h x a
sorted_on g p h q stands on x a is = record {
  numbered = ap (λ (v : Vocabulary). slice_get v.actions a.act.0) (vocabulary_stays g h stands on.added) ∙ is.numbered;
  over = all_weaker (IsFlatOver g) (IsFlatOver h) (λ f k. flat_stays g h (it_is_grown g h stands on.added) f k) a.sorts.items is.over;
}

pub actions_on : (g : Sig) (p : PoolContents) (h : Sig) (q : PoolContents) → IsSignature g → GoesOn g p h q → (t : SortedActions) → AreActionsOf g t → AreActionsOf h t
actions_on g p h q stands on t are n x at =
    let words = vocabulary_stays g h stands on.added in
    let r = are n x (ap (λ (ts : List Name). slice_get ts n) (sym (texts_stay g h stands on.added)) ∙ at) in
    record {
      sorts = r.sorts ∙ ap (λ (v : Vocabulary). all_named x v.actions) (sym words);
      each = all_weaker (IsSortedAction g x) (IsSortedAction h x) (λ a is. sorted_on g p h q stands on x a is) (actions_at t.groups.items n) r.each;
    }
