-- The actions of a signature's vocabulary are those of the signature.
use Rattle.std.proofs.Common.{◌≡◌, ◌<◌, ⊎_elim, ℕ, zero, suc, Bool, true, false, cond, ◌&&◌, ◌||◌, List, [], ◌∷◌, length, map, get_or, refl, sym, ap, ap₂, ◌∙◌, subst, arith}
use Rattle.std.specs.Prelude.{Some, bytes_eq, slice_get}
use Rattle.std.specs.List.{All, AllByRecursion, Contains, list_any}
use Rattle.std.proofs.lemmas.Option.{none-some, same_Some}
use Rattle.std.proofs.lemmas.Slice.Eq.{bytes_eq-Decides}
use Rattle.data_theory.specs.declared.ids.NameId.{NameId}
use Rattle.data_theory.specs.declared.ids.SortId.{SortId}
use Rattle.data_theory.specs.Terms.{Sort}
use Rattle.data_theory.specs.Keys.{Key, key}
use Rattle.data_theory.specs.Signature.{Sig}
use Rattle.data_theory.specs.Complete.{IsActionWithin}
use Rattle.data_theory.specs.IdTables.{IsTable}
use Rattle.data_theory.specs.IdTerms.{sort_under}
use Rattle.data_theory.proofs.IdSortLemmas.{different_sorts_mean_different_sorts}
use Rattle.sort_table.specs.Expressions.{Name}
use Rattle.sort_table.specs.NamedLists.{all_named}
use Rattle.sort_table.specs.SignatureVocabularies.{text_under, action_under}
use Rattle.data_typing.specs.Typings.{sort_eq, sorts_eq}
use Rattle.data_typing.proofs.SortTests.{sorts_told, sort_told_itself}
use Rattle.sort_checker.specs.ActionLaws.{ActionsAreFoundByNumbers}
use Rattle.sort_checker.proofs.Members.{contains_first, contains_later, contains_cases, contains_none}
use Rattle.sort_checker.proofs.SoundElaborations.{both_true}

-- ---- elements of lists
pub all_by : {A : Type 0} (P : A → Type 0) (xs : List A) → All P xs → AllByRecursion P xs
all_by P [] h = tt
all_by P (x ∷ xs) h = (h 0 x (omega arith), all_by P xs (λ k d l. h (suc k) d (omega (arith, l))))

-- ---- texts
text_at : (ts : List Name) (i : ℕ) (x : Name) → slice_get ts i ≡ Some x → get_or ts i [] ≡ x
text_at [] i x h = absurd (none-some x h)
text_at (t ∷ ts) zero x h = same_Some t x h
text_at (t ∷ ts) (suc i) x h = text_at ts i x h

pub text_there : (ts : List Name) (i : ℕ) → i < length ts → slice_get ts i ≡ Some (get_or ts i [])
text_there [] i l = let never : ⊥ = omega (arith, l) in absurd never
text_there (t ∷ ts) zero l = refl
text_there (t ∷ ts) (suc i) l = text_there ts i (omega (arith, l))

-- ---- sorts
sorts_themselves : (ss : List Sort) → sorts_eq ss ss ≡ true
sorts_themselves [] = refl
sorts_themselves (s ∷ ss) = ap₂ (λ (a b : Bool). a && b) (sort_told_itself s) (sorts_themselves ss)

same_numbers : (g : Sig) → IsTable g → (ids js : List SortId) → AllByRecursion (λ s. s.0 < length g.sorts) ids → AllByRecursion (λ s. s.0 < length g.sorts) js → sorts_eq (map (sort_under g) ids) (map (sort_under g) js) ≡ true → ids ≡ js
same_numbers g table [] [] h k e = refl
same_numbers g table [] (j ∷ js) h k e = let never : false ≡ true = e in cc
same_numbers g table (i ∷ ids) [] h k e = let never : false ≡ true = e in cc
same_numbers g table (i ∷ ids) (j ∷ js) h k e =
    let both = both_true (sort_eq (sort_under g i) (sort_under g j)) (sorts_eq (map (sort_under g) ids) (map (sort_under g) js)) e in
    ap₂ (λ (s : SortId) (ss : List SortId). s ∷ ss) (different_sorts_mean_different_sorts g table i j h.0 k.0 (sorts_told (sort_under g i) (sort_under g j) both.0)) (same_numbers g table ids js h.1 k.1 both.1)

-- ---- actions
record IsFoundAs (g : Sig) (x : Name) (ss : List Sort) (actions : List Key) : Type 0 where
  action : Key
  among : Contains actions action
  named : text_under g action.name ≡ x
  within : IsActionWithin (length g.texts) (length g.sorts) action
  sorts : sorts_eq ss (map (sort_under g) action.sorts) ≡ true

found_action : (g : Sig) (x : Name) (ss : List Sort) (actions : List Key) → AllByRecursion (IsActionWithin (length g.texts) (length g.sorts)) actions → list_any (sorts_eq ss) (all_named x (map (action_under g) actions)) ≡ true → IsFoundAs g x ss actions
found_action g x ss [] h e = let never : false ≡ true = e in cc
found_action g x ss (a ∷ actions) h e = by_name (bytes_eq (text_under g a.name) x) refl (found_action g x ss actions h.1) e
  where
    later : IsFoundAs g x ss actions → IsFoundAs g x ss (a ∷ actions)
    later r = record { action = r.action; among = contains_later a r.action actions r.among; named = r.named; within = r.within; sorts = r.sorts }

    by_sorts : (b : Bool) → sorts_eq ss (map (sort_under g) a.sorts) ≡ b → text_under g a.name ≡ x → (list_any (sorts_eq ss) (all_named x (map (action_under g) actions)) ≡ true → IsFoundAs g x ss actions)
        → (b || list_any (sorts_eq ss) (all_named x (map (action_under g) actions))) ≡ true → IsFoundAs g x ss (a ∷ actions)
    by_sorts true s n f k = record { action = a; among = contains_first a actions; named = n; within = h.0; sorts = s }
    by_sorts false s n f k = later (f k)

    by_name : (b : Bool) → bytes_eq (text_under g a.name) x ≡ b → (list_any (sorts_eq ss) (all_named x (map (action_under g) actions)) ≡ true → IsFoundAs g x ss actions)
        → list_any (sorts_eq ss) (cond b (map (sort_under g) a.sorts ∷ all_named x (map (action_under g) actions)) (all_named x (map (action_under g) actions))) ≡ true → IsFoundAs g x ss (a ∷ actions)
    by_name true n f k = by_sorts (sorts_eq ss (map (sort_under g) a.sorts)) refl ((bytes_eq-Decides (text_under g a.name) x).0 n) f k
    by_name false n f k = later (f k)

is_found : (g : Sig) (x : Name) (n : NameId) (ids : List SortId) (actions : List Key) → text_under g n ≡ x → Contains actions (key n ids) → list_any (sorts_eq (map (sort_under g) ids)) (all_named x (map (action_under g) actions)) ≡ true
is_found g x n ids [] t c = absurd (contains_none (key n ids) c)
is_found g x n ids (a ∷ actions) t c = ⊎_elim here (λ d. by_test (bytes_eq (text_under g a.name) x) (is_found g x n ids actions t d)) (contains_cases a (key n ids) actions c)
  where
    here : a ≡ key n ids → list_any (sorts_eq (map (sort_under g) ids)) (cond (bytes_eq (text_under g a.name) x) (map (sort_under g) a.sorts ∷ all_named x (map (action_under g) actions)) (all_named x (map (action_under g) actions))) ≡ true
    here e =
        ap (λ (k : Key). list_any (sorts_eq (map (sort_under g) ids)) (cond (bytes_eq (text_under g k.name) x) (map (sort_under g) k.sorts ∷ all_named x (map (action_under g) actions)) (all_named x (map (action_under g) actions)))) e
        ∙ (ap (λ (b : Bool). list_any (sorts_eq (map (sort_under g) ids)) (cond b (map (sort_under g) ids ∷ all_named x (map (action_under g) actions)) (all_named x (map (action_under g) actions)))) ((bytes_eq-Decides (text_under g n) x).1 t)
        ∙ ap (λ (b : Bool). b || list_any (sorts_eq (map (sort_under g) ids)) (all_named x (map (action_under g) actions))) (sorts_themselves (map (sort_under g) ids)))

    or_true : (b : Bool) → (b || true) ≡ true
    or_true true = refl
    or_true false = refl

    by_test : (b : Bool) → list_any (sorts_eq (map (sort_under g) ids)) (all_named x (map (action_under g) actions)) ≡ true
        → list_any (sorts_eq (map (sort_under g) ids)) (cond b (map (sort_under g) a.sorts ∷ all_named x (map (action_under g) actions)) (all_named x (map (action_under g) actions))) ≡ true
    by_test true k = ap (λ (b : Bool). sorts_eq (map (sort_under g) ids) (map (sort_under g) a.sorts) || b) k ∙ or_true (sorts_eq (map (sort_under g) ids) (map (sort_under g) a.sorts))
    by_test false k = k

pub actions_are_found_by_numbers : ActionsAreFoundByNumbers
actions_are_found_by_numbers g is x ids within = (
  λ e.
      let f = found_action g x (map (sort_under g) ids) g.actions (all_by (IsActionWithin (length g.texts) (length g.sorts)) g.actions is.complete.within.actions) e in
      let same : ids ≡ f.action.sorts = same_numbers g is.table ids f.action.sorts (all_by (λ (s : SortId). s.0 < length g.sorts) ids within) (all_by (λ (s : SortId). s.0 < length g.sorts) f.action.sorts f.within.takes) f.sorts in
      (f.action.name, text_there g.texts f.action.name.0 f.within.named ∙ ap (λ (t : Name). Some t) f.named, subst (λ (js : List SortId). Contains g.actions (key f.action.name js)) (sym same) f.among),
  λ a. is_found g x a.0 ids g.actions (text_at g.texts a.0.0 x a.1) a.2,
)
