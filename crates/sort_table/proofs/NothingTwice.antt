-- Where nothing is declared twice, functions, actions and sort names differ.
use Rattle.std.proofs.Common.{◌≡◌, ◌<◌, ◌+◌, ◌⊎◌, inl, inr, ℕ, zero, suc, List, [], ◌∷◌, ◌++◌, length, map, refl, ap, sym, ◌∙◌, subst, arith}
use Rattle.std.specs.Prelude.{Some, slice_get}
use Rattle.std.specs.List.{Contains, flat_map}
use Rattle.std.proofs.lemmas.List.{append-nil, map-append}
use Rattle.std.proofs.lemmas.Option.{none-some, same_Some, slice_get_within}
use Rattle.data_theory.specs.Places.{HaveOnePlace}
use Rattle.data_theory.proofs.PlaceLemmas.{read_front, read_behind, contains_read}
use Rattle.sort_table.specs.Expressions.{Name}
use Rattle.sort_table.specs.BareSorts.{SortExpression}
use Rattle.sort_table.specs.BareDeclarations.{Declaration, sorts, alias, struct, constructors, mappings, variables, equation, actions, process, initial, Section, declarations_in}
use Rattle.sort_table.specs.SortMeanings.{Kind, alone, kinds_by, kinds_in, UnderNames, under_names, actions_by, actions_in}
use Rattle.sort_table.specs.TextFunctions.{Named, functions_by, functions_in}
use Rattle.sort_table.specs.Duplicates.{Item, a_sort, a_function, a_variable, an_action, a_process, function_item, items_of, all_items, SameSorts, IsAgain, sort_again, function_again, action_again, two_of_them, within_one, built_in, NothingAgain}
use Rattle.sort_table.specs.Vocabularies.{EachPair}
use Rattle.sort_table.specs.FunctionStates.{FunctionsDiffer, struct_name, structs_in}

-- ---- parts of the items of declarations
-- what a declaration has of some kind stands among its items
pub record HasPart {A : Type 0} (item : A → Item) (xs : List Item) (as_ : List A) : Type 0 where
  pub front : List Item
  pub behind : List Item
  pub is : xs ≡ front ++ (map item as_ ++ behind)

nothing_of : {A : Type 0} (item : A → Item) (xs : List Item) → HasPart item xs []
nothing_of item xs = record { front = []; behind = xs; is = refl }

all_of : {A : Type 0} (item : A → Item) (as_ : List A) → HasPart item (map item as_) as_
all_of item as_ = record { front = []; behind = []; is = sym (append-nil (map item as_)) }

-- an entry of a list stands in its first part or in the rest
read_either : {A : Type 0} (xs ys : List A) (i : ℕ) (x : A) → slice_get (xs ++ ys) i ≡ Some x → (slice_get xs i ≡ Some x) ⊎ ((j : ℕ) × (i ≡ length xs + j) × (slice_get ys j ≡ Some x))
read_either [] ys i x at = inr (i, omega arith, at)
read_either (z ∷ xs) ys zero x at = inl at
read_either (z ∷ xs) ys (suc i) x at = step (read_either xs ys i x at)
  where
    step : (slice_get xs i ≡ Some x) ⊎ ((j : ℕ) × (i ≡ length xs + j) × (slice_get ys j ≡ Some x)) → (slice_get xs i ≡ Some x) ⊎ ((j : ℕ) × (suc i ≡ suc (length xs) + j) × (slice_get ys j ≡ Some x))
    step (inl old) = inl old
    step (inr (j, e, here)) = inr (j, omega (arith, e), here)

pub mapped_at : {A B : Type 0} (f : A → B) (xs : List A) (i : ℕ) (x : A) → slice_get xs i ≡ Some x → slice_get (map f xs) i ≡ Some (f x)
mapped_at f [] i x h = absurd (none-some x h)
mapped_at f (y ∷ xs) zero x h = ap (λ z. Some (f z)) (same_Some y x h)
mapped_at f (y ∷ xs) (suc i) x h = mapped_at f xs i x h

-- a thing stands among the items of a declaration
record IsItem {A : Type 0} (item : A → Item) (xss : List (List Item)) (x : A) : Type 0 where
  place : ℕ
  items : List Item
  there : slice_get xss place ≡ Some items
  among : Contains items (item x)

-- two things, one before the other
data AreItems {A : Type 0} (item : A → Item) (xss : List (List Item)) (x y : A) : Type 0 where
  apart : (i j : ℕ) (xs ys : List Item) → i < j → slice_get xss i ≡ Some xs → slice_get xss j ≡ Some ys → Contains xs (item x) → Contains ys (item y) → AreItems item xss x y
  together : (i k l : ℕ) (xs : List Item) → slice_get xss i ≡ Some xs → k < l → slice_get xs k ≡ Some (item x) → slice_get xs l ≡ Some (item y) → AreItems item xss x y

cases_lt : (i j : ℕ) → (i < j) ⊎ ((i ≡ j) ⊎ (j < i))
cases_lt zero zero = inr (inl refl)
cases_lt zero (suc j) = inl (omega arith)
cases_lt (suc i) zero = inr (inr (omega arith))
cases_lt (suc i) (suc j) = step (cases_lt i j)
  where
    step : (i < j) ⊎ ((i ≡ j) ⊎ (j < i)) → (suc i < suc j) ⊎ ((suc i ≡ suc j) ⊎ (suc j < suc i))
    step (inl h) = inl (omega (arith, h))
    step (inr (inl h)) = inr (inl (ap suc h))
    step (inr (inr h)) = inr (inr (omega (arith, h)))

module _ {A : Type 0} (item : A → Item) (by : Declaration → List A) (has : (k : ℕ) (d : Declaration) → HasPart item (items_of k d) (by d)) where
  abbrev joined : List (List A) → List A
  joined [] = []
  joined (as_ ∷ ass) = as_ ++ joined ass

  joined_is : (ds : List Declaration) → flat_map by ds ≡ joined (map by ds)
  joined_is [] = refl
  joined_is (d ∷ ds) = ap (λ as_. by d ++ as_) (joined_is ds)

  paired_declarations : (k : ℕ) (ds : List Declaration) (xss : List (List Item)) (es : List Declaration) → EachPair (HasPart item) xss (map by es) → EachPair (HasPart item) (map (items_of k) ds ++ xss) (map by (ds ++ es))
  paired_declarations k [] xss es all = all
  paired_declarations k (d ∷ ds) xss es all = (has k d, paired_declarations k ds xss es all)

  paired_items : (k : ℕ) (ss : List Section) → EachPair (HasPart item) (all_items k ss) (map by (declarations_in ss))
  paired_items k [] = tt
  paired_items k (s ∷ ss) = paired_declarations k s.declarations (all_items (suc k) ss) (declarations_in ss) (paired_items (suc k) ss)

  item_at : (xs : List Item) (as_ : List A) (i : ℕ) (x : A) → (part : HasPart item xs as_) → slice_get as_ i ≡ Some x → slice_get xs (length part.front + i) ≡ Some (item x)
  item_at xs as_ i x part at =
      ap (λ ys. slice_get ys (length part.front + i)) part.is ∙ read_behind part.front (map item as_ ++ part.behind) i (item x) (read_front (map item as_) part.behind i (item x) (mapped_at item as_ i x at))

  is_item : (xss : List (List Item)) (ass : List (List A)) → EachPair (HasPart item) xss ass → (i : ℕ) (x : A) → slice_get (joined ass) i ≡ Some x → IsItem item xss x
  is_item [] [] all i x at = absurd (none-some x at)
  is_item [] (as_ ∷ ass) all i x at = absurd all
  is_item (xs ∷ xss) [] all i x at = absurd all
  is_item (xs ∷ xss) (as_ ∷ ass) all i x at = elim (read_either as_ (joined ass) i x at) [
    | inl here ↦ record { place = 0; items = xs; there = refl; among = contains_read xs (length all.0.front + i) (item x) (item_at xs as_ i x all.0 here) }
    | inr (j, e, later) ↦ let r = is_item xss ass all.1 j x later in record { place = suc r.place; items = r.items; there = r.there; among = r.among }
  ]

  items_later : (xs : List Item) (xss : List (List Item)) (x y : A) → AreItems item xss x y → AreItems item (xs ∷ xss) x y
  items_later xs xss x y (apart i j ys zs l a b c d) = apart (suc i) (suc j) ys zs (omega (arith, l)) a b c d
  items_later xs xss x y (together i k l ys a b c d) = together (suc i) k l ys a b c d

  are_items : (xss : List (List Item)) (ass : List (List A)) → EachPair (HasPart item) xss ass → (i j : ℕ) (x y : A) → i < j → slice_get (joined ass) i ≡ Some x → slice_get (joined ass) j ≡ Some y → AreItems item xss x y
  are_items [] [] all i j x y l a b = absurd (none-some x a)
  are_items [] (as_ ∷ ass) all i j x y l a b = absurd all
  are_items (xs ∷ xss) [] all i j x y l a b = absurd all
  are_items (xs ∷ xss) (as_ ∷ ass) all i j x y l a b =
      by_parts (are_items xss ass all.1) (read_either as_ (joined ass) i x a) (read_either as_ (joined ass) j y b)
    where
      by_parts : ((m n : ℕ) (u v : A) → m < n → slice_get (joined ass) m ≡ Some u → slice_get (joined ass) n ≡ Some v → AreItems item xss u v)
          → (slice_get as_ i ≡ Some x) ⊎ ((m : ℕ) × (i ≡ length as_ + m) × (slice_get (joined ass) m ≡ Some x)) → (slice_get as_ j ≡ Some y) ⊎ ((m : ℕ) × (j ≡ length as_ + m) × (slice_get (joined ass) m ≡ Some y)) → AreItems item (xs ∷ xss) x y
      by_parts later (inl p) (inl q) = together 0 (length all.0.front + i) (length all.0.front + j) xs refl (omega (arith, l)) (item_at xs as_ i x all.0 p) (item_at xs as_ j y all.0 q)
      by_parts later (inl p) (inr (m, e, q)) =
          let r = is_item xss ass all.1 m y q in
          apart 0 (suc r.place) xs r.items (omega arith) refl r.there (contains_read xs (length all.0.front + i) (item x) (item_at xs as_ i x all.0 p)) r.among
      by_parts later (inr (m, e, p)) (inl q) = let low = slice_get_within as_ j y q in absurd (omega (arith, l, e, low))
      by_parts later (inr (m, e, p)) (inr (n, d, q)) = items_later xs xss x y (later m n x y (omega (arith, l, e, d)) p q)

  -- ---- what is declared once
  module _ (ss : List Section) (none : NothingAgain ss) where
    part_at : (i : ℕ) (x : A) → slice_get (flat_map by (declarations_in ss)) i ≡ Some x → slice_get (joined (map by (declarations_in ss))) i ≡ Some x
    part_at i x at = ap (λ as_. slice_get as_ i) (sym (joined_is (declarations_in ss))) ∙ at

    its_item : (i : ℕ) (x : A) → slice_get (flat_map by (declarations_in ss)) i ≡ Some x → IsItem item (all_items 0 ss) x
    its_item i x at = is_item (all_items 0 ss) (map by (declarations_in ss)) (paired_items 0 ss) i x (part_at i x at)

    never_again : (x y : A) → IsAgain (under_names (declarations_in ss)) (item x) (item y) → AreItems item (all_items 0 ss) x y → ⊥
    never_again x y again (apart i j xs ys l a b c d) = none (suc i) (suc j) (two_of_them i j xs ys (item x) (item y) l a b c d again)
    never_again x y again (together i k l xs a b c d) = none (suc i) (suc i) (within_one i k l xs (item x) (item y) a b c d again)

    pub at_one_place : (i j : ℕ) (x y : A) → slice_get (flat_map by (declarations_in ss)) i ≡ Some x → slice_get (flat_map by (declarations_in ss)) j ≡ Some y
        → IsAgain (under_names (declarations_in ss)) (item x) (item y) → IsAgain (under_names (declarations_in ss)) (item y) (item x) → i ≡ j
    at_one_place i j x y a b again back = elim (cases_lt i j) [
      | inl less ↦ absurd (never_again x y again (are_items (all_items 0 ss) (map by (declarations_in ss)) (paired_items 0 ss) i j x y less (part_at i x a) (part_at j y b)))
      | inr (inl e) ↦ e
      | inr (inr more) ↦ absurd (never_again y x back (are_items (all_items 0 ss) (map by (declarations_in ss)) (paired_items 0 ss) j i y x more (part_at j y b) (part_at i x a)))
    ]

-- ---- functions
has_functions : (k : ℕ) (d : Declaration) → HasPart function_item (items_of k d) (functions_by d)
has_functions k (sorts ns) = nothing_of function_item (map a_sort ns)
has_functions k (alias n e) = nothing_of function_item (a_sort n ∷ [])
has_functions k (struct n cs) = record { front = a_sort n ∷ []; behind = []; is = ap (λ xs. a_sort n ∷ xs) (sym (append-nil (map function_item (functions_by (struct n cs))))) }
has_functions k (constructors fs es to) = all_of function_item (functions_by (constructors fs es to))
has_functions k (mappings fs es to) = all_of function_item (functions_by (mappings fs es to))
has_functions k (variables vs) = nothing_of function_item (map (λ (v : Name × SortExpression). a_variable k v.0) vs)
has_functions k (equation c l r) = nothing_of function_item []
has_functions k (actions as_ es) = nothing_of function_item (map (λ a. an_action a es) as_)
has_functions k (process p vs body) = nothing_of function_item (a_process p ∷ [])
has_functions k (initial body) = nothing_of function_item []

-- ---- actions
abbrev pub action_item : Name × List SortExpression → Item
action_item a = an_action a.0 a.1

acts_of : (as_ : List Name) (es : List SortExpression) → map (λ a. an_action a es) as_ ≡ map action_item (map (λ a. (a, es)) as_)
acts_of [] es = refl
acts_of (a ∷ as_) es = ap (λ xs. an_action a es ∷ xs) (acts_of as_ es)

has_actions : (k : ℕ) (d : Declaration) → HasPart action_item (items_of k d) (actions_by d)
has_actions k (sorts ns) = nothing_of action_item (map a_sort ns)
has_actions k (alias n e) = nothing_of action_item (a_sort n ∷ [])
has_actions k (struct n cs) = nothing_of action_item (items_of k (struct n cs))
has_actions k (constructors fs es to) = nothing_of action_item (items_of k (constructors fs es to))
has_actions k (mappings fs es to) = nothing_of action_item (items_of k (mappings fs es to))
has_actions k (variables vs) = nothing_of action_item (map (λ (v : Name × SortExpression). a_variable k v.0) vs)
has_actions k (equation c l r) = nothing_of action_item []
has_actions k (actions as_ es) = record { front = []; behind = []; is = acts_of as_ es ∙ sym (append-nil (map action_item (map (λ a. (a, es)) as_))) }
has_actions k (process p vs body) = nothing_of action_item (a_process p ∷ [])
has_actions k (initial body) = nothing_of action_item []

-- ---- structs
has_struct : (k : ℕ) (d : Declaration) → HasPart a_sort (items_of k d) (struct_name d)
has_struct k (sorts ns) = nothing_of a_sort (map a_sort ns)
has_struct k (alias n e) = nothing_of a_sort (a_sort n ∷ [])
has_struct k (struct n cs) = record { front = []; behind = map function_item (functions_by (struct n cs)); is = refl }
has_struct k (constructors fs es to) = nothing_of a_sort (items_of k (constructors fs es to))
has_struct k (mappings fs es to) = nothing_of a_sort (items_of k (mappings fs es to))
has_struct k (variables vs) = nothing_of a_sort (map (λ (v : Name × SortExpression). a_variable k v.0) vs)
has_struct k (equation c l r) = nothing_of a_sort []
has_struct k (actions as_ es) = nothing_of a_sort (map (λ a. an_action a es) as_)
has_struct k (process p vs body) = nothing_of a_sort (a_process p ∷ [])
has_struct k (initial body) = nothing_of a_sort []

-- ---- sort names
abbrev names_by : Declaration → List Name
names_by (sorts ns) = ns
names_by (alias n e) = n ∷ []
names_by (struct n cs) = n ∷ []
names_by (constructors fs es to) = []
names_by (mappings fs es to) = []
names_by (variables vs) = []
names_by (equation c l r) = []
names_by (actions as_ es) = []
names_by (process p vs body) = []
names_by (initial body) = []

has_names : (k : ℕ) (d : Declaration) → HasPart a_sort (items_of k d) (names_by d)
has_names k (sorts ns) = all_of a_sort ns
has_names k (alias n e) = all_of a_sort (n ∷ [])
has_names k (struct n cs) = has_struct k (struct n cs)
has_names k (constructors fs es to) = nothing_of a_sort (items_of k (constructors fs es to))
has_names k (mappings fs es to) = nothing_of a_sort (items_of k (mappings fs es to))
has_names k (variables vs) = nothing_of a_sort (map (λ (v : Name × SortExpression). a_variable k v.0) vs)
has_names k (equation c l r) = nothing_of a_sort []
has_names k (actions as_ es) = nothing_of a_sort (map (λ a. an_action a es) as_)
has_names k (process p vs body) = nothing_of a_sort (a_process p ∷ [])
has_names k (initial body) = nothing_of a_sort []

abbrev pub names_of_kinds : List (Name × Kind) → List Name
names_of_kinds ks = map (λ (r : Name × Kind). r.0) ks

names_alone : (ns : List Name) → names_of_kinds (map (λ n. (n, alone)) ns) ≡ ns
names_alone [] = refl
names_alone (n ∷ ns) = ap (λ xs. n ∷ xs) (names_alone ns)

names_declared : (d : Declaration) → names_of_kinds (kinds_by d) ≡ names_by d
names_declared (sorts ns) = names_alone ns
names_declared (alias n e) = refl
names_declared (struct n cs) = refl
names_declared (constructors fs es to) = refl
names_declared (mappings fs es to) = refl
names_declared (variables vs) = refl
names_declared (equation c l r) = refl
names_declared (actions as_ es) = refl
names_declared (process p vs body) = refl
names_declared (initial body) = refl

all_names : (ds : List Declaration) → names_of_kinds (kinds_in ds) ≡ flat_map names_by ds
all_names [] = refl
all_names (d ∷ ds) =
    let here = names_declared d in
    let rest = all_names ds in
    map-append (λ (r : Name × Kind). r.0) (kinds_by d) (kinds_in ds) ∙ (λ i. here i ++ rest i)

-- ---- what is asked
module _ (ss : List Section) (none : NothingAgain ss) where
  abbrev u : UnderNames
  u = under_names (declarations_in ss)

  functions_again : (f g : Named) → f.0 ≡ g.0 → SameSorts u f.1.arguments g.1.arguments → IsAgain u (function_item f) (function_item g)
  functions_again f g named same = subst (λ n. IsAgain u (function_item f) (a_function n g.1.arguments)) named (function_again f.0 f.1.arguments g.1.arguments same)

  pub functions_differ : FunctionsDiffer u (functions_in (declarations_in ss))
  functions_differ = record {
    once = λ i j f g a b named same. at_one_place function_item functions_by has_functions ss none i j f g a b (functions_again f g named same) (functions_again g f (sym named) (same.0, same.2, same.1));
    new = λ i f rs at stand is. (
        let r = its_item function_item functions_by has_functions ss none i f at in
        none (suc r.place) (suc r.place) (built_in r.place r.items f.0 f.1.arguments rs r.there r.among stand is)
        );
  }

  actions_again : (a b : Name × List SortExpression) → a.0 ≡ b.0 → SameSorts u a.1 b.1 → IsAgain u (action_item a) (action_item b)
  actions_again a b named same = subst (λ n. IsAgain u (action_item a) (an_action n b.1)) named (action_again a.0 a.1 b.1 same)

  -- no action is declared twice
  pub actions_differ : (i j : ℕ) (a b : Name × List SortExpression) → slice_get (actions_in (declarations_in ss)) i ≡ Some a → slice_get (actions_in (declarations_in ss)) j ≡ Some b → a.0 ≡ b.0 → SameSorts u a.1 b.1 → i ≡ j
  actions_differ i j a b at here named same = at_one_place action_item actions_by has_actions ss none i j a b at here (actions_again a b named same) (actions_again b a (sym named) (same.0, same.2, same.1))

  -- no struct is declared twice
  pub structs_differ : HaveOnePlace (structs_in (declarations_in ss))
  structs_differ i j n a b = at_one_place a_sort struct_name has_struct ss none i j n n a b (sort_again n) (sort_again n)

  -- no sort name is declared twice
  pub kinds_differ : HaveOnePlace (names_of_kinds (kinds_in (declarations_in ss)))
  kinds_differ i j n a b =
      let all = all_names (declarations_in ss) in
      at_one_place a_sort names_by has_names ss none i j n n (ap (λ xs. slice_get xs i) (sym all) ∙ a) (ap (λ xs. slice_get xs j) (sym all) ∙ b) (sort_again n) (sort_again n)
