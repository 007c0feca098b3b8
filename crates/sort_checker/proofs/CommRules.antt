-- Rules of `comm`: which actions are declared, when a rule fits, and when left sides are apart.
use Rattle.std.proofs.Common.{◌≡◌, ◌<◌, ℕ, Bool, true, false, not, cond, ◌&&◌, ◌||◌, List, [], ◌∷◌, ◌++◌, length, map, refl, sym, ap, ap₂, ◌∙◌, subst, ⊎_elim}
use Rattle.std.specs.Prelude.{Some, bytes_eq, slice_get}
use Rattle.std.specs.List.{All, AllByRecursion, Contains, list_any, list_all}
use Rattle.std.proofs.lemmas.List.Elements.{All-contains}
use Rattle.std.proofs.lemmas.Slice.Eq.{bytes_eq-Decides}
use Rattle.data_theory.specs.declared.ids.NameId.{NameId}
use Rattle.data_theory.specs.declared.ids.SortId.{SortId}
use Rattle.data_theory.specs.Terms.{Sort}
use Rattle.data_theory.specs.Keys.{Key, key}
use Rattle.data_theory.specs.Signature.{Sig}
use Rattle.data_theory.specs.IdTerms.{sort_under}
use Rattle.data_theory.specs.WholeSignatures.{IsSignature}
use Rattle.data_theory.specs.Complete.{IsActionWithin}
use Rattle.process_terms.specs.Communication.{Rule}
use Rattle.sort_table.specs.Expressions.{Name}
use Rattle.sort_table.specs.NamedLists.{all_named}
use Rattle.sort_table.specs.Vocabularies.{Vocabulary}
use Rattle.sort_table.specs.SignatureVocabularies.{text_under, action_under, vocabulary_of}
use Rattle.data_typing.specs.Typings.{sort_eq, sorts_eq}
use Rattle.data_typing.proofs.SortTests.{sorts_told}
use Rattle.sort_checker.specs.Operators.{stands_in, has_action, share_a_name, are_apart, rule_fits_at, rule_fits}
use Rattle.sort_checker.specs.ActionTables.{actions_named}
use Rattle.sort_checker.specs.CommTrees.{left_names}
use Rattle.sort_checker.proofs.Members.{contains_first, contains_later, contains_cases, contains_none}
use Rattle.sort_checker.proofs.SoundElaborations.{both_true}
use Rattle.sort_checker.proofs.NumberedActions.{actions_are_found_by_numbers, text_there}
use Rattle.sort_checker.proofs.SortedParts.{all_weaker, named_rows}

-- ---- the actions of a name
pub named_actions : (g : Sig) (x : Name) (as_ : List Key) → AllByRecursion (λ (a : Key). text_under g a.name ≡ x) (actions_named g x as_)
named_actions g x [] = tt
named_actions g x (a ∷ as_) = by_test (bytes_eq (text_under g a.name) x) refl (named_actions g x as_)
  where
    by_test : (b : Bool) → bytes_eq (text_under g a.name) x ≡ b → AllByRecursion (λ (c : Key). text_under g c.name ≡ x) (actions_named g x as_)
        → AllByRecursion (λ (c : Key). text_under g c.name ≡ x) (cond b (a ∷ actions_named g x as_) (actions_named g x as_))
    by_test true e r = ((bytes_eq-Decides (text_under g a.name) x).0 e, r)
    by_test false e r = r

pub among_actions : (g : Sig) (x : Name) (as_ : List Key) → AllByRecursion (Contains as_) (actions_named g x as_)
among_actions g x [] = tt
among_actions g x (a ∷ as_) = by_test (bytes_eq (text_under g a.name) x) (all_weaker (Contains as_) (Contains (a ∷ as_)) (λ b c. contains_later a b as_ c) (actions_named g x as_) (among_actions g x as_))
  where
    by_test : (b : Bool) → AllByRecursion (Contains (a ∷ as_)) (actions_named g x as_) → AllByRecursion (Contains (a ∷ as_)) (cond b (a ∷ actions_named g x as_) (actions_named g x as_))
    by_test true r = (contains_first a as_, r)
    by_test false r = r

abbrev pub sorts_at : Sig → Key → List Sort
sorts_at g a = map (sort_under g) a.sorts

-- the declarations of a name
pub named_sorts : (g : Sig) (x : Name) (as_ : List Key) → all_named x (map (action_under g) as_) ≡ map (sorts_at g) (actions_named g x as_)
named_sorts g x [] = refl
named_sorts g x (a ∷ as_) = by_test (bytes_eq (text_under g a.name) x) (named_sorts g x as_)
  where
    by_test : (b : Bool) → all_named x (map (action_under g) as_) ≡ map (sorts_at g) (actions_named g x as_)
        → cond b (sorts_at g a ∷ all_named x (map (action_under g) as_)) (all_named x (map (action_under g) as_)) ≡ map (sorts_at g) (cond b (a ∷ actions_named g x as_) (actions_named g x as_))
    by_test true r = ap (λ (sss : List (List Sort)). sorts_at g a ∷ sss) r
    by_test false r = r

-- ---- whether an action is declared
pub none_declared : (g : Sig) (x : Name) (ss : List Sort) → actions_named g x g.actions ≡ [] → has_action (vocabulary_of g) x ss ≡ false
none_declared g x ss e = ap (λ (sss : List (List Sort)). list_any (sorts_eq ss) sss) (named_sorts g x g.actions ∙ ap (map (sorts_at g)) e)

not_true : (b : Bool) → (b ≡ true → ⊥) → b ≡ false
not_true true h = absurd (h refl)
not_true false h = refl

module _ (g : Sig) (is : IsSignature g) (x : Name) (ids : List SortId) (within : All (λ s. s.0 < length g.sorts) ids) (a : Key) (among : Contains g.actions a) (named : text_under g a.name ≡ x) where
  text_is : slice_get g.texts a.name.0 ≡ Some x
  text_is = text_there g.texts a.name.0 (All-contains (IsActionWithin (length g.texts) (length g.sorts)) g.actions a is.complete.within.actions among).named ∙ ap (λ (t : Name). Some t) named

  -- found under the number of the name
  pub is_declared : Contains g.actions (key a.name ids) → has_action (vocabulary_of g) x (map (sort_under g) ids) ≡ true
  is_declared c = (actions_are_found_by_numbers g is x ids within).1 (a.name, text_is, c)

  pub isn_t_declared : (Contains g.actions (key a.name ids) → ⊥) → has_action (vocabulary_of g) x (map (sort_under g) ids) ≡ false
  isn_t_declared absent =
      not_true (has_action (vocabulary_of g) x (map (sort_under g) ids))
      (λ e. let found = (actions_are_found_by_numbers g is x ids within).0 e in
      let same : found.0.0 ≡ a.name.0 = is.table.different found.0.0 a.name.0 x found.1 text_is in
      let one : found.0 ≡ a.name = ap (λ (m : ℕ). record { 0 = m }) same in
      absent (subst (λ (m : NameId). Contains g.actions (key m ids)) one found.2))

-- ---- whether a rule fits
sorts_same : (ss rs : List Sort) → sorts_eq ss rs ≡ true → rs ≡ ss
sorts_same [] [] h = refl
sorts_same (s ∷ ss) (r ∷ rs) h = let b = both_true (sort_eq s r) (sorts_eq ss rs) h in ap₂ (λ (q : Sort) (qs : List Sort). q ∷ qs) (sym (sorts_told s r b.0)) (sorts_same ss rs b.1)
sorts_same [] (r ∷ rs) h = let never : false ≡ true = h in absurd cc
sorts_same (s ∷ ss) [] h = let never : false ≡ true = h in absurd cc

same_there : (ss : List Sort) (sss : List (List Sort)) → list_any (sorts_eq ss) sss ≡ true → Contains sss ss
same_there ss [] e = let never : false ≡ true = e in absurd cc
same_there ss (rs ∷ sss) e = by_test (sorts_eq ss rs) refl (same_there ss sss) e
  where
    by_test : (b : Bool) → sorts_eq ss rs ≡ b → (list_any (sorts_eq ss) sss ≡ true → Contains sss ss) → (b || list_any (sorts_eq ss) sss) ≡ true → Contains (rs ∷ sss) ss
    by_test true q f k = subst (λ (ts : List Sort). Contains (ts ∷ sss) ss) (sym (sorts_same ss rs q)) (contains_first ss sss)
    by_test false q f k = contains_later rs ss sss (f k)

pub all_of : {A : Type 0} (p : A → Bool) (x : A) (xs : List A) → list_all p xs ≡ true → Contains xs x → p x ≡ true
all_of p x [] h c = absurd (contains_none x c)
all_of p x (y ∷ ys) h c = let r = both_true (p y) (list_all p ys) h in ⊎_elim (λ (e : y ≡ x). subst (λ z. p z ≡ true) e r.0) (λ d. all_of p x ys r.1 d) (contains_cases y x ys c)

both_are : (a b : Bool) → a ≡ true → b ≡ true → (a && b) ≡ true
both_are true true h k = refl
both_are true false h k = k
both_are false b h k = h

to_all : {A : Type 0} (p : A → Bool) (xs : List A) → ((x : A) → Contains xs x → p x ≡ true) → list_all p xs ≡ true
to_all p [] h = refl
to_all p (x ∷ xs) h = both_are (p x) (list_all p xs) (h x (contains_first x xs)) (to_all p xs (λ y c. h y (contains_later x y xs c)))

same_test : (a b : Bool) → (a ≡ true → b ≡ true) → (b ≡ true → a ≡ true) → a ≡ b
same_test true true h k = refl
same_test true false h k = sym (h refl)
same_test false true h k = k refl
same_test false false h k = refl

-- sorts with which a name isn't declared
fits_where_absent : (v : Vocabulary) (c : Rule) (x : Name) (ss : List Sort) → Contains c.left x → has_action v x ss ≡ false → rule_fits_at v c ss ≡ true
fits_where_absent v c x ss among h = ap (λ (b : Bool). cond b (has_action v c.result ss) true) (not_true (list_all (λ y. has_action v y ss) c.left) (λ e. let never : true ≡ false = sym (all_of (λ y. has_action v y ss) x c.left e among) ∙ h in absurd cc))

rows_of_name : {A : Type 0} (x : Name) (rs : List (Name × A)) (a : A) → Contains (all_named x rs) a → Contains rs (x, a)
rows_of_name x rs a c = by_place (all_named x rs) (named_rows x rs) c
  where
    by_place : (as_ : List _) → AllByRecursion (λ b. Contains rs (x, b)) as_ → Contains as_ a → Contains rs (x, a)
    by_place [] h d = absurd (contains_none a d)
    by_place (b ∷ bs) h d = ⊎_elim (λ (e : b ≡ a). subst (λ y. Contains rs (x, y)) e h.0) (λ f. by_place bs h.1 f) (contains_cases b a bs d)

-- the sorts of one name of the left side are enough
pub fits_by_name : (v : Vocabulary) (c : Rule) (x : Name) → Contains c.left x → list_all (rule_fits_at v c) (all_named x v.actions) ≡ rule_fits v c
fits_by_name v c x among =
    same_test (list_all (rule_fits_at v c) (all_named x v.actions)) (rule_fits v c)
    (λ h. to_all (λ (a : Name × List Sort). rule_fits_at v c a.1) v.actions (λ a there. by_test (has_action v x a.1) a.1 refl h))
    (λ h. to_all (rule_fits_at v c) (all_named x v.actions) (λ ss there. all_of (λ (a : Name × List Sort). rule_fits_at v c a.1) (x, ss) v.actions h (rows_of_name x v.actions ss there)))
  where
    by_test : (b : Bool) (ss : List Sort) → has_action v x ss ≡ b → list_all (rule_fits_at v c) (all_named x v.actions) ≡ true → rule_fits_at v c ss ≡ true
    by_test true ss e h = all_of (rule_fits_at v c) ss (all_named x v.actions) h (same_there ss (all_named x v.actions) e)
    by_test false ss e h = fits_where_absent v c x ss among e

-- ---- left sides that are apart
some_of : {A : Type 0} (p : A → Bool) (xs : List A) → list_any p xs ≡ true → (x : A) × (Contains xs x × (p x ≡ true))
some_of p [] h = let never : false ≡ true = h in absurd cc
some_of {A = A} p (x ∷ xs) h = by_test (p x) refl (some_of p xs) h
  where
    by_test : (b : Bool) → p x ≡ b → (list_any p xs ≡ true → (y : A) × (Contains xs y × (p y ≡ true))) → (b || list_any p xs) ≡ true → (y : A) × (Contains (x ∷ xs) y × (p y ≡ true))
    by_test true e f k = (x, (contains_first x xs, e))
    by_test false e f k = let r = f k in (r.0, (contains_later x r.0 xs r.1.0, r.1.1))

or_true : (b : Bool) → (b || true) ≡ true
or_true true = refl
or_true false = refl

to_some : {A : Type 0} (p : A → Bool) (xs : List A) (x : A) → Contains xs x → p x ≡ true → list_any p xs ≡ true
to_some p [] x c h = absurd (contains_none x c)
to_some p (y ∷ ys) x c h = ⊎_elim (λ (e : y ≡ x). ap (λ (b : Bool). b || list_any p ys) (subst (λ z. p z ≡ true) (sym e) h)) (λ d. ap (λ (b : Bool). p y || b) (to_some p ys x d h) ∙ or_true (p y)) (contains_cases y x ys c)

or_assoc : (a b c : Bool) → (a || (b || c)) ≡ ((a || b) || c)
or_assoc true b c = refl
or_assoc false b c = refl

any_both : {A : Type 0} (p : A → Bool) (xs ys : List A) → list_any p (xs ++ ys) ≡ (list_any p xs || list_any p ys)
any_both p [] ys = refl
any_both p (x ∷ xs) ys = ap (λ (b : Bool). p x || b) (any_both p xs ys) ∙ or_assoc (p x) (list_any p xs) (list_any p ys)

stands_behind : (x : Name) (d : Rule) (ds : List Rule) → Contains ds d → stands_in x d.left ≡ true → stands_in x (left_names ds) ≡ true
stands_behind x d [] c h = absurd (contains_none d c)
stands_behind x d (e ∷ ds) c h =
    any_both (λ y. bytes_eq y x) e.left (left_names ds)
    ∙ ⊎_elim (λ (q : e ≡ d). ap (λ (b : Bool). b || stands_in x (left_names ds)) (ap (λ (r : Rule). stands_in x r.left) q ∙ h)) (λ f. ap (λ (b : Bool). stands_in x e.left || b) (stands_behind x d ds f h) ∙ or_true (stands_in x e.left)) (contains_cases e d ds c)

stands_before : (x : Name) (ds : List Rule) → stands_in x (left_names ds) ≡ true → (d : Rule) × (Contains ds d × (stands_in x d.left ≡ true))
stands_before x [] h = let never : false ≡ true = h in absurd cc
stands_before x (e ∷ ds) h = by_test (stands_in x e.left) refl (stands_before x ds) (sym (any_both (λ y. bytes_eq y x) e.left (left_names ds)) ∙ h)
  where
    by_test : (b : Bool) → stands_in x e.left ≡ b → (stands_in x (left_names ds) ≡ true → (d : Rule) × (Contains ds d × (stands_in x d.left ≡ true))) → (b || stands_in x (left_names ds)) ≡ true → (d : Rule) × (Contains (e ∷ ds) d × (stands_in x d.left ≡ true))
    by_test true q f k = (e, (contains_first e ds, q))
    by_test false q f k = let r = f k in (r.0, (contains_later e r.0 ds r.1.0, r.1.1))

-- a name of the left side stands further behind
shared_behind : (c : Rule) (cs : List Rule) → list_any (share_a_name c) cs ≡ list_any (λ x. stands_in x (left_names cs)) c.left
shared_behind c cs =
    same_test (list_any (share_a_name c) cs) (list_any (λ x. stands_in x (left_names cs)) c.left)
    (λ h. let d = some_of (share_a_name c) cs h in let x = some_of (λ y. stands_in y d.0.left) c.left d.1.1 in to_some (λ y. stands_in y (left_names cs)) c.left x.0 x.1.0 (stands_behind x.0 d.0 cs d.1.0 x.1.1))
    (λ h. let x = some_of (λ y. stands_in y (left_names cs)) c.left h in let d = stands_before x.0 cs x.1.1 in to_some (share_a_name c) cs d.0 d.1.0 (to_some (λ y. stands_in y d.0.left) c.left x.0 x.1.0 d.1.1))

any_alike : (p q : Name → Bool) → ((x : Name) → p x ≡ q x) → (xs : List Name) → list_any p xs ≡ list_any q xs
any_alike p q e [] = refl
any_alike p q e (x ∷ xs) = ap₂ (λ (a b : Bool). a || b) (e x) (any_alike p q e xs)

-- by a test that tells the names behind
pub apart_with : (has : Name → Bool) (c : Rule) (cs : List Rule) → ((x : Name) → has x ≡ stands_in x (left_names cs)) → are_apart (c ∷ cs) ≡ (not (list_any has c.left) && are_apart cs)
apart_with has c cs h = ap (λ (b : Bool). not b && are_apart cs) (shared_behind c cs ∙ sym (any_alike has (λ x. stands_in x (left_names cs)) h c.left))
