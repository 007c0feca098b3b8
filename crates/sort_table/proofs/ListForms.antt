-- What holds of a text's names, from what holds along its lists.
use Rattle.std.proofs.Common.{◌≡◌, ◌<◌, ℕ, zero, suc, Bool, true, false, cond, List, [], ◌∷◌, length, refl, ap, sym, ◌∙◌, subst}
use Rattle.std.specs.Prelude.{Option, Some, None, is_some, bytes_eq, slice_get}
use Rattle.std.specs.List.{AllByRecursion}
use Rattle.std.proofs.lemmas.Option.{none-some, same_Some}
use Rattle.std.proofs.lemmas.Slice.Eq.{bytes_eq-Decides}
use Rattle.data_theory.specs.Terms.{named}
use Rattle.data_theory.specs.Places.{HaveOnePlace}
use Rattle.sort_table.specs.Expressions.{Name}
use Rattle.sort_table.specs.NamedLists.{all_named, first_named}
use Rattle.sort_table.proofs.Choices.{chosen}
use Rattle.sort_table.specs.BareSorts.{SortExpression, a_name}
use Rattle.sort_table.specs.BareDeclarations.{Declaration}
use Rattle.sort_table.specs.SortMeanings.{Kind, alone, a_struct, equal_to, kinds_in, UnderNames, under_names, StandsFor, for_plain, for_struct, for_alias}
use Rattle.sort_table.specs.Vocabularies.{Vocabulary, sort_in, IsOwn, declared_alone, declared_as_struct, IsSortNamed, HasSorts, EachPair}

-- what holds of all entries holds of the one found
pub found_entry : {A : Type 0} (P : Name → A → Type 0) (n : Name) (rs : List (Name × A)) (x : A) → AllByRecursion (λ r. P r.0 r.1) rs → first_named n rs ≡ Some x → P n x
found_entry P n [] x all e = absurd (none-some x e)
found_entry P n (r ∷ rs) x all e =
    chosen (bytes_eq r.0 n) (Some r.1) (first_named n rs) x e
    (λ same here. subst (λ m. P m x) ((bytes_eq-Decides r.0 n).0 same) (subst (P r.0) (same_Some r.1 x here) all.0))
    (λ other there. found_entry P n rs x all.1 there)

-- ---- places
abbrev pub EachOf : {A : Type 0} → (ℕ → A → Type 0) → List A → Type 0
EachOf Q [] = Unit {0}
EachOf Q (x ∷ xs) = Q 0 x × EachOf (λ i. Q (suc i)) xs

pub each_at : {A : Type 0} (Q : ℕ → A → Type 0) (xs : List A) (i : ℕ) (x : A) → EachOf Q xs → slice_get xs i ≡ Some x → Q i x
each_at Q [] i x all h = absurd (none-some x h)
each_at Q (y ∷ ys) zero x all h = subst (Q 0) (same_Some y x h) all.0
each_at Q (y ∷ ys) (suc i) x all h = each_at (λ j. Q (suc j)) ys i x all.1 h

-- where the place can be told from the entry
pub have_one_place : {A : Type 0} (place : A → ℕ) (xs : List A) → EachOf (λ i x. i ≡ place x) xs → HaveOnePlace xs
have_one_place place xs all i j x h k = each_at (λ l y. l ≡ place y) xs i x all h ∙ sym (each_at (λ l y. l ≡ place y) xs j x all k)

-- ---- the functions of each name
abbrev pub SameNames : {A B : Type 0} → (A → B → Type 0) → List (Name × A) → List (Name × B) → Type 0
SameNames Q [] [] = Unit {0}
SameNames Q (x ∷ xs) (y ∷ ys) = (x.0 ≡ y.0) × Q x.1 y.1 × SameNames Q xs ys
SameNames Q _ _ = ⊥

if_this : {A B : Type 0} (Q : A → B → Type 0) (b : Bool) (x : A) (y : B) (xs : List A) (ys : List B) → Q x y → EachPair Q xs ys → EachPair Q (cond b (x ∷ xs) xs) (cond b (y ∷ ys) ys)
if_this Q true x y xs ys h all = (h, all)
if_this Q false x y xs ys h all = all

pub each_named : {A B : Type 0} (Q : A → B → Type 0) (xs : List (Name × A)) (ys : List (Name × B)) → SameNames Q xs ys → (f : Name) → EachPair Q (all_named f xs) (all_named f ys)
each_named Q [] [] all f = tt
each_named Q (x ∷ xs) (y ∷ ys) all f =
    subst (λ b. EachPair Q (cond (bytes_eq x.0 f) (x.1 ∷ all_named f xs) (all_named f xs)) (cond b (y.1 ∷ all_named f ys) (all_named f ys)))
    (ap (λ n. bytes_eq n f) all.0)
    (if_this Q (bytes_eq x.0 f) x.1 y.1 (all_named f xs) (all_named f ys) all.1 (each_named Q xs ys all.2 f))
each_named Q [] (y ∷ ys) all f = absurd all
each_named Q (x ∷ xs) [] all f = absurd all

-- ---- the sorts
-- what stands for a sort is declared
pub is_declared : (u : UnderNames) (n : Name) (s : SortExpression) → StandsFor u (a_name n) s → (k : Kind) × (u.sort n ≡ Some k)
is_declared u _ _ (for_plain n h) = (alone, h)
is_declared u _ _ (for_struct n h) = (a_struct, h)
is_declared u _ _ (for_alias n e s h r) = (equal_to e, h)

-- the name has a number of its own, which tells the name
abbrev pub HasOwn : UnderNames → Vocabulary → (ℕ → Name) → Name → Type 0
HasOwn u v by_number n = ((d : ℕ) × IsSortNamed u v n d) × ((d : ℕ) → first_named n v.sort_names ≡ Some (named d) → n ≡ by_number d)

abbrev pub Fits : UnderNames → Vocabulary → (ℕ → Name) → Name → Kind → Type 0
Fits u v by_number n alone = HasOwn u v by_number n
Fits u v by_number n a_struct = HasOwn u v by_number n
Fits u v by_number n (equal_to e) = first_named n v.sort_names ≡ sort_in v.sort_names e

own_fits : (ds : List Declaration) (v : Vocabulary) (by_number : ℕ → Name) → AllByRecursion (λ r. Fits (under_names ds) v by_number r.0 r.1) (kinds_in ds)
    → (n : Name) → IsOwn (under_names ds) n → HasOwn (under_names ds) v by_number n
own_fits ds v by_number all n (declared_alone h) = found_entry (Fits (under_names ds) v by_number) n (kinds_in ds) alone all h
own_fits ds v by_number all n (declared_as_struct h) = found_entry (Fits (under_names ds) v by_number) n (kinds_in ds) a_struct all h

pub entry_found : {A : Type 0} (o : Option A) → is_some o ≡ true → (x : A) × (o ≡ Some x)
entry_found None e = let never : false ≡ true = e in cc
entry_found (Some x) e = (x, refl)

abbrev pub NameStands : UnderNames → Name → Type 0
NameStands u n = (e : SortExpression) × StandsFor u (a_name n) e

pub has_sorts : (ds : List Declaration) (v : Vocabulary) (by_number : ℕ → Name)
    → AllByRecursion (λ r. Fits (under_names ds) v by_number r.0 r.1) (kinds_in ds)
    → AllByRecursion (λ r. is_some (first_named r.0 v.sort_names) ≡ true) (kinds_in ds)
    → AllByRecursion (λ r. NameStands (under_names ds) r.0) v.sort_names
    → ((d : ℕ) → d < length v.tables.sorts → (n : Name) × IsOwn (under_names ds) n × IsSortNamed (under_names ds) v n d)
    → HasSorts (under_names ds) v
has_sorts ds v by_number all there stands more = record {
  named = λ n. (
    λ s. found_entry (λ m _. NameStands (under_names ds) m) n v.sort_names s.0 stands s.1,
    λ e. let k : (k : Kind) × (first_named n (kinds_in ds) ≡ Some k) = is_declared (under_names ds) n e.0 e.1 in
        entry_found (first_named n v.sort_names) (found_entry (λ m _. is_some (first_named m v.sort_names) ≡ true) n (kinds_in ds) k.0 there k.1),
  );
  aliases = λ n e h. found_entry (Fits (under_names ds) v by_number) n (kinds_in ds) (equal_to e) all h;
  others = λ n own. (own_fits ds v by_number all n own).0;
  different = λ n m d p q h k. (own_fits ds v by_number all n p).1 d h.0 ∙ sym ((own_fits ds v by_number all m q).1 d k.0);
  no_more = more;
}
