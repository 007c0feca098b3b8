-- What sections declare as one list of items: nothing is declared again where no two of them are.
use Rattle.std.proofs.Common.{◌≡◌, ◌≢◌, ◌<◌, ◌≤◌, ◌⊎◌, inl, inr, ℕ, zero, suc, Bool, true, false, List, [], ◌∷◌, ◌++◌, map, refl, ap, sym, ◌∙◌, subst, arith, append_assoc}
use Rattle.std.specs.Prelude.{Some, slice_get}
use Rattle.std.specs.List.{AllByRecursion, Contains, flat_map}
use Rattle.std.proofs.lemmas.List.{append-nil, map-append}
use Rattle.std.proofs.lemmas.Option.{none-some, same_Some}
use Rattle.data_theory.proofs.PlaceLemmas.{contains_read}
use Rattle.sort_table.specs.Expressions.{Name}
use Rattle.sort_table.specs.BareSorts.{SortExpression}
use Rattle.sort_table.specs.BareProcesses.{Variables}
use Rattle.sort_table.specs.BareDeclarations.{Declaration, sorts, alias, struct, constructors, mappings, variables, equation, actions, process, initial, Section, declarations_in}
use Rattle.sort_table.specs.SortMeanings.{UnderNames, under_names, StandForEach}
use Rattle.sort_table.specs.TextFunctions.{Named, functions_by}
use Rattle.sort_table.specs.Duplicates.{Item, a_sort, a_function, an_action, a_process, a_variable, function_item, items_of, all_items, IsAgain, sort_again, function_again, action_again, process_again, process_as_action, action_as_process, variable_again, IsBuiltIn, StandsTwice, variable_lists, DeclaresAgain, two_of_them, within_one, built_in, its_variables, NothingAgain}
use Rattle.sort_table.proofs.AddedStructs.{all_contained}
use Rattle.sort_table.proofs.Growing.{contains_behind, contains_after, in_either}
use Rattle.sort_table.proofs.GrowingTexts.{flat_behind}
use Rattle.lps_printer.specs.LinearBack.{EachTwo}
use Rattle.lps_printer.proofs.TwoOfLists.{in_nothing, in_mapped, all_mapped, all_flat, all_from, two_both, two_front, two_back, two_across, two_at, two_from, two_weaker, two_mapped, two_unmapped, Within, within_itself, within_both, front_within, back_within, within_contains, within_two}

-- ---- the items of a declaration
-- what isn't a variable, which stands in no section of its own
abbrev pub fixed_by : Declaration → List Item
fixed_by (sorts ns) = items_of 0 (sorts ns)
fixed_by (alias n e) = items_of 0 (alias n e)
fixed_by (struct n cs) = items_of 0 (struct n cs)
fixed_by (constructors fs es to) = items_of 0 (constructors fs es to)
fixed_by (mappings fs es to) = items_of 0 (mappings fs es to)
fixed_by (variables vs) = []
fixed_by (equation c l r) = []
fixed_by (actions as_ es) = items_of 0 (actions as_ es)
fixed_by (process p vs body) = a_process p ∷ []
fixed_by (initial body) = []

abbrev pub vars_by : Declaration → List Name
vars_by (variables vs) = map (λ (v : Name × SortExpression). v.0) vs
vars_by _ = []

variables_named : (k : ℕ) (vs : Variables) → map (λ (v : Name × SortExpression). a_variable k v.0) vs ≡ map (a_variable k) (map (λ (v : Name × SortExpression). v.0) vs)
variables_named k [] = refl
variables_named k (v ∷ vs) = ap (λ xs. a_variable k v.0 ∷ xs) (variables_named k vs)

items_are : (k : ℕ) (d : Declaration) → items_of k d ≡ fixed_by d ++ map (a_variable k) (vars_by d)
items_are k (sorts ns) = sym (append-nil (map a_sort ns))
items_are k (alias n e) = refl
items_are k (struct n cs) = sym (append-nil (a_sort n ∷ map function_item (functions_by (struct n cs))))
items_are k (constructors fs es to) = sym (append-nil (map function_item (functions_by (constructors fs es to))))
items_are k (mappings fs es to) = sym (append-nil (map function_item (functions_by (mappings fs es to))))
items_are k (variables vs) = variables_named k vs
items_are k (equation c l r) = refl
items_are k (actions as_ es) = sym (append-nil (map (λ a. an_action a es) as_))
items_are k (process p vs body) = refl
items_are k (initial body) = refl

-- ---- what an item is
abbrev pub is_variable : Item → Bool
is_variable (a_variable k x) = true
is_variable (a_sort n) = false
is_variable (a_function f es) = false
is_variable (an_action a es) = false
is_variable (a_process p) = false

abbrev pub is_function : Item → Bool
is_function (a_function f es) = true
is_function (a_variable k x) = false
is_function (a_sort n) = false
is_function (an_action a es) = false
is_function (a_process p) = false

abbrev pub is_action : Item → Bool
is_action (an_action a es) = true
is_action (a_function f es) = false
is_action (a_variable k x) = false
is_action (a_sort n) = false
is_action (a_process p) = false

abbrev pub is_process : Item → Bool
is_process (a_process p) = true
is_process (an_action a es) = false
is_process (a_function f es) = false
is_process (a_variable k x) = false
is_process (a_sort n) = false

abbrev pub name_of : Item → Name
name_of (a_variable k x) = x
name_of (a_sort n) = n
name_of (a_function f es) = f
name_of (an_action a es) = a
name_of (a_process p) = p

abbrev section_of : Item → ℕ
section_of (a_variable k x) = k
section_of (a_sort n) = 0
section_of (a_function f es) = 0
section_of (an_action a es) = 0
section_of (a_process p) = 0

module _ {u : UnderNames} where
  again_variable : (x y : Item) → IsAgain u x y → is_variable x ≡ is_variable y
  again_variable _ _ (sort_again n) = refl
  again_variable _ _ (function_again f es fs s) = refl
  again_variable _ _ (action_again a es fs s) = refl
  again_variable _ _ (process_again p) = refl
  again_variable _ _ (process_as_action n es) = refl
  again_variable _ _ (action_as_process n es) = refl
  again_variable _ _ (variable_again k x) = refl

  pub again_function : (x y : Item) → IsAgain u x y → is_function x ≡ is_function y
  again_function _ _ (sort_again n) = refl
  again_function _ _ (function_again f es fs s) = refl
  again_function _ _ (action_again a es fs s) = refl
  again_function _ _ (process_again p) = refl
  again_function _ _ (process_as_action n es) = refl
  again_function _ _ (action_as_process n es) = refl
  again_function _ _ (variable_again k x) = refl

  pub again_name : (x y : Item) → IsAgain u x y → name_of x ≡ name_of y
  again_name _ _ (sort_again n) = refl
  again_name _ _ (function_again f es fs s) = refl
  again_name _ _ (action_again a es fs s) = refl
  again_name _ _ (process_again p) = refl
  again_name _ _ (process_as_action n es) = refl
  again_name _ _ (action_as_process n es) = refl
  again_name _ _ (variable_again k x) = refl

  again_section : (x y : Item) → IsAgain u x y → section_of x ≡ section_of y
  again_section _ _ (sort_again n) = refl
  again_section _ _ (function_again f es fs s) = refl
  again_section _ _ (action_again a es fs s) = refl
  again_section _ _ (process_again p) = refl
  again_section _ _ (process_as_action n es) = refl
  again_section _ _ (action_as_process n es) = refl
  again_section _ _ (variable_again k x) = refl

abbrev IsNoVariable : Item → Type 0
IsNoVariable x = is_variable x ≡ false

plain_functions : (fs : List Named) → AllByRecursion IsNoVariable (map function_item fs)
plain_functions fs = all_mapped IsNoVariable function_item fs (all_from (λ f. IsNoVariable (function_item f)) fs (λ f c. refl))

no_variable_by : (d : Declaration) → AllByRecursion IsNoVariable (fixed_by d)
no_variable_by (sorts ns) = all_mapped IsNoVariable a_sort ns (all_from (λ n. IsNoVariable (a_sort n)) ns (λ n c. refl))
no_variable_by (alias n e) = (refl, tt)
no_variable_by (struct n cs) = (refl, plain_functions (functions_by (struct n cs)))
no_variable_by (constructors fs es to) = plain_functions (functions_by (constructors fs es to))
no_variable_by (mappings fs es to) = plain_functions (functions_by (mappings fs es to))
no_variable_by (variables vs) = tt
no_variable_by (equation c l r) = tt
no_variable_by (actions as_ es) = all_mapped IsNoVariable (λ a. an_action a es) as_ (all_from (λ a. IsNoVariable (an_action a es)) as_ (λ a c. refl))
no_variable_by (process p vs body) = (refl, tt)
no_variable_by (initial body) = tt

no_variable_in : (ds : List Declaration) (x : Item) → Contains (flat_map fixed_by ds) x → IsNoVariable x
no_variable_in ds x c = all_contained IsNoVariable (flat_map fixed_by ds) x (all_flat IsNoVariable fixed_by ds (all_from (λ d. AllByRecursion IsNoVariable (fixed_by d)) ds (λ d k. no_variable_by d))) c

-- ---- items of sections as one list
abbrev pub joined : List (List Item) → List Item
joined [] = []
joined (xs ∷ xss) = xs ++ joined xss

-- of sections whose numbers count from k
abbrev pub text_items : ℕ → List Section → List Item
text_items k [] = []
text_items k (s ∷ ss) = flat_map (items_of k) s.declarations ++ text_items (suc k) ss

joined_declarations : (k : ℕ) (ds : List Declaration) (xss : List (List Item)) → joined (map (items_of k) ds ++ xss) ≡ flat_map (items_of k) ds ++ joined xss
joined_declarations k [] xss = refl
joined_declarations k (d ∷ ds) xss = ap (λ xs. items_of k d ++ xs) (joined_declarations k ds xss) ∙ sym (append_assoc (items_of k d) (flat_map (items_of k) ds) (joined xss))

joined_text : (k : ℕ) (ss : List Section) → joined (all_items k ss) ≡ text_items k ss
joined_text k [] = refl
joined_text k (s ∷ ss) = joined_declarations k s.declarations (all_items (suc k) ss) ∙ ap (λ xs. flat_map (items_of k) s.declarations ++ xs) (joined_text (suc k) ss)

joined_contains : (xss : List (List Item)) (j : ℕ) (ys : List Item) (y : Item) → slice_get xss j ≡ Some ys → Contains ys y → Contains (joined xss) y
joined_contains [] j ys y a c = absurd (none-some ys a)
joined_contains (xs ∷ xss) zero ys y a c = contains_behind xs (joined xss) y (subst (λ zs. Contains zs y) (sym (same_Some xs ys a)) c)
joined_contains (xs ∷ xss) (suc j) ys y a c = contains_after xs (joined xss) y (joined_contains xss j ys y a c)

pub contains_joined : (xss : List (List Item)) (y : Item) → Contains (joined xss) y → (j : ℕ) × (ys : List Item) × (slice_get xss j ≡ Some ys) × Contains ys y
contains_joined [] y c = in_nothing y c
contains_joined (xs ∷ xss) y c = elim (in_either xs (joined xss) y c) [ inl here ↦ (zero, xs, refl, here) | inr later ↦ (let r = contains_joined xss y later in (suc r.0, r.1, r.2, r.3)) ]

module _ (R : Item → Item → Type 0) where
  two_joined : (xss : List (List Item)) → ((i j : ℕ) (xs ys : List Item) (x y : Item) → i < j → slice_get xss i ≡ Some xs → slice_get xss j ≡ Some ys → Contains xs x → Contains ys y → R x y)
      → ((i k l : ℕ) (xs : List Item) (x y : Item) → slice_get xss i ≡ Some xs → k < l → slice_get xs k ≡ Some x → slice_get xs l ≡ Some y → R x y) → EachTwo R (joined xss)
  two_joined [] apart together = tt
  two_joined (xs ∷ xss) apart together =
      two_both R xs (joined xss) (two_from R xs (λ k l x y m a b. together 0 k l xs x y refl m a b))
      (two_joined xss (λ i j ys zs x y l a b c d. apart (suc i) (suc j) ys zs x y (omega (arith, l)) a b c d) (λ i k l ys x y a m b c. together (suc i) k l ys x y a m b c))
      (λ x y c d. (let r = contains_joined xss y d in apart 0 (suc r.0) xs r.1 x y (omega arith) refl r.2 c r.3))

  apart_joined : (xss : List (List Item)) (i j : ℕ) (xs ys : List Item) (x y : Item) → EachTwo R (joined xss) → i < j → slice_get xss i ≡ Some xs → slice_get xss j ≡ Some ys → Contains xs x → Contains ys y → R x y
  apart_joined [] i j xs ys x y e l a b c d = absurd (none-some xs a)
  apart_joined (zs ∷ xss) i zero xs ys x y e l a b c d = absurd (omega (arith, l))
  apart_joined (zs ∷ xss) zero (suc j) xs ys x y e l a b c d = two_across R zs (joined xss) x y e (subst (λ us. Contains us x) (sym (same_Some zs xs a)) c) (joined_contains xss j ys y b d)
  apart_joined (zs ∷ xss) (suc i) (suc j) xs ys x y e l a b c d = apart_joined xss i j xs ys x y (two_back R zs (joined xss) e) (omega (arith, l)) a b c d

  together_joined : (xss : List (List Item)) (i k l : ℕ) (xs : List Item) (x y : Item) → EachTwo R (joined xss) → slice_get xss i ≡ Some xs → k < l → slice_get xs k ≡ Some x → slice_get xs l ≡ Some y → R x y
  together_joined [] i k l xs x y e a m b c = absurd (none-some xs a)
  together_joined (zs ∷ xss) zero k l xs x y e a m b c = two_at R xs k l x y (subst (EachTwo R) (same_Some zs xs a) (two_front R zs (joined xss) e)) m b c
  together_joined (zs ∷ xss) (suc i) k l xs x y e a m b c = together_joined xss i k l xs x y (two_back R zs (joined xss) e) a m b c

-- ---- items that differ
abbrev pub NotAgain : UnderNames → Item → Item → Type 0
NotAgain u x y = ¬ (IsAgain u x y)

abbrev pub AreOthers : List Name → Type 0
AreOthers = EachTwo (λ (x y : Name). x ≢ y)

abbrev pub HasOtherVariables : Section → Type 0
HasOtherVariables s = AreOthers (flat_map vars_by s.declarations)

-- no two items but variables are the same, and no two variables of a section are
pub record ItemsDiffer (u : UnderNames) (ss : List Section) : Type 0 where
  pub fixed : EachTwo (NotAgain u) (flat_map fixed_by (declarations_in ss))
  pub variables : AllByRecursion HasOtherVariables ss

-- ---- from a text in which nothing is declared again
module _ (k : ℕ) where
  fixed_among : (ds : List Declaration) → Within (flat_map fixed_by ds) (flat_map (items_of k) ds)
  fixed_among [] = within_itself []
  fixed_among (d ∷ ds) =
      within_both (flat_map fixed_by ds) (flat_map (items_of k) ds) (subst (Within (fixed_by d)) (sym (items_are k d)) (front_within (fixed_by d) (map (a_variable k) (vars_by d)))) (fixed_among ds)

  variables_among : (ds : List Declaration) → Within (map (a_variable k) (flat_map vars_by ds)) (flat_map (items_of k) ds)
  variables_among [] = within_itself []
  variables_among (d ∷ ds) =
      subst (λ xs. Within xs (flat_map (items_of k) (d ∷ ds))) (sym (map-append (a_variable k) (vars_by d) (flat_map vars_by ds)))
      (within_both (map (a_variable k) (flat_map vars_by ds)) (flat_map (items_of k) ds) (subst (Within (map (a_variable k) (vars_by d))) (sym (items_are k d)) (back_within (fixed_by d) (map (a_variable k) (vars_by d)))) (variables_among ds))

fixed_in_text : (k : ℕ) (ss : List Section) → Within (flat_map fixed_by (declarations_in ss)) (text_items k ss)
fixed_in_text k [] = within_itself []
fixed_in_text k (s ∷ ss) =
    subst (λ xs. Within xs (text_items k (s ∷ ss))) (sym (flat_behind fixed_by s.declarations (declarations_in ss)))
    (within_both (flat_map fixed_by (declarations_in ss)) (text_items (suc k) ss) (fixed_among k s.declarations) (fixed_in_text (suc k) ss))

module _ (u : UnderNames) where
  variables_differ : (k : ℕ) (ds : List Declaration) → EachTwo (NotAgain u) (flat_map (items_of k) ds) → AreOthers (flat_map vars_by ds)
  variables_differ k ds e =
      two_weaker (λ (x y : Name). NotAgain u (a_variable k x) (a_variable k y)) (λ (x y : Name). x ≢ y) (λ x y no q. no (subst (λ z. IsAgain u (a_variable k x) (a_variable k z)) q (variable_again k x))) (flat_map vars_by ds)
      (two_unmapped (NotAgain u) (a_variable k) (flat_map vars_by ds) (within_two (NotAgain u) (variables_among k ds) e))

  all_variables_differ : (k : ℕ) (ss : List Section) → EachTwo (NotAgain u) (text_items k ss) → AllByRecursion HasOtherVariables ss
  all_variables_differ k [] e = tt
  all_variables_differ k (s ∷ ss) e =
      (variables_differ k s.declarations (two_front (NotAgain u) (flat_map (items_of k) s.declarations) (text_items (suc k) ss) e), all_variables_differ (suc k) ss (two_back (NotAgain u) (flat_map (items_of k) s.declarations) (text_items (suc k) ss) e))

pub items_differ : (ss : List Section) → NothingAgain ss → ItemsDiffer (under_names (declarations_in ss)) ss
items_differ ss none =
    let u : UnderNames = under_names (declarations_in ss) in
    let two : EachTwo (NotAgain u) (text_items 0 ss) = subst (EachTwo (NotAgain u)) (joined_text 0 ss)
    (two_joined (NotAgain u) (all_items 0 ss) (λ i j xs ys x y l a b c d again. none (suc i) (suc j) (two_of_them i j xs ys x y l a b c d again)) (λ i k l xs x y a m b c again. none (suc i) (suc i) (within_one i k l xs x y a m b c again))) in
    record { fixed = within_two (NotAgain u) (fixed_in_text 0 ss) two; variables = all_variables_differ u 0 ss two }

-- what isn't a variable stands in the text
pub fixed_stands : (ss : List Section) (x : Item) → Contains (flat_map fixed_by (declarations_in ss)) x → (j : ℕ) × (xs : List Item) × (slice_get (all_items 0 ss) j ≡ Some xs) × Contains xs x
fixed_stands ss x c = contains_joined (all_items 0 ss) x (subst (λ xs. Contains xs x) (sym (joined_text 0 ss)) (within_contains x (fixed_in_text 0 ss) c))

-- ---- and back
module _ (k : ℕ) where
  split_one : (d : Declaration) (x : Item) → Contains (items_of k d) x → Contains (fixed_by d) x ⊎ Contains (map (a_variable k) (vars_by d)) x
  split_one d x c = in_either (fixed_by d) (map (a_variable k) (vars_by d)) x (subst (λ xs. Contains xs x) (items_are k d) c)

  split_items : (ds : List Declaration) (x : Item) → Contains (flat_map (items_of k) ds) x → Contains (flat_map fixed_by ds) x ⊎ Contains (map (a_variable k) (flat_map vars_by ds)) x
  split_items [] x c = in_nothing x c
  split_items (d ∷ ds) x c = elim (in_either (items_of k d) (flat_map (items_of k) ds) x c) [
    | inl here ↦ elim (split_one d x here) [
      | inl fixed ↦ inl (contains_behind (fixed_by d) (flat_map fixed_by ds) x fixed)
      | inr var ↦ inr (joins (contains_behind (map (a_variable k) (vars_by d)) (map (a_variable k) (flat_map vars_by ds)) x var))
    ]
    | inr later ↦ elim (split_items ds x later) [
      | inl fixed ↦ inl (contains_after (fixed_by d) (flat_map fixed_by ds) x fixed)
      | inr var ↦ inr (joins (contains_after (map (a_variable k) (vars_by d)) (map (a_variable k) (flat_map vars_by ds)) x var))
    ]
  ]
    where
      joins : Contains (map (a_variable k) (vars_by d) ++ map (a_variable k) (flat_map vars_by ds)) x → Contains (map (a_variable k) (vars_by d ++ flat_map vars_by ds)) x
      joins h = subst (λ xs. Contains xs x) (sym (map-append (a_variable k) (vars_by d) (flat_map vars_by ds))) h

-- a variable of one of these sections
abbrev IsVariableBehind : ℕ → Item → Type 0
IsVariableBehind k x = (j : ℕ) × (z : Name) × (k ≤ j) × (a_variable j z ≡ x)

split_text : (k : ℕ) (ss : List Section) (x : Item) → Contains (text_items k ss) x → Contains (flat_map fixed_by (declarations_in ss)) x ⊎ IsVariableBehind k x
split_text k [] x c = in_nothing x c
split_text k (s ∷ ss) x c = elim (in_either (flat_map (items_of k) s.declarations) (text_items (suc k) ss) x c) [
  | inl here ↦ elim (split_items k s.declarations x here) [
    | inl fixed ↦ inl (joins (contains_behind (flat_map fixed_by s.declarations) (flat_map fixed_by (declarations_in ss)) x fixed))
    | inr var ↦ (let r = in_mapped (a_variable k) (flat_map vars_by s.declarations) x var in inr (k, r.0, omega arith, r.2))
  ]
  | inr later ↦ elim (split_text (suc k) ss x later) [
    | inl fixed ↦ inl (joins (contains_after (flat_map fixed_by s.declarations) (flat_map fixed_by (declarations_in ss)) x fixed))
    | inr (j, z, l, e) ↦ inr (j, z, omega (arith, l), e)
  ]
]
  where
    joins : Contains (flat_map fixed_by s.declarations ++ flat_map fixed_by (declarations_in ss)) x → Contains (flat_map fixed_by (declarations_in (s ∷ ss))) x
    joins h = subst (λ xs. Contains xs x) (sym (flat_behind fixed_by s.declarations (declarations_in ss))) h

module _ (u : UnderNames) where
  -- what is no variable, and a variable
  other_kinds : (x y : Item) (a b : Bool) → is_variable x ≡ a → is_variable y ≡ b → a ≢ b → NotAgain u x y
  other_kinds x y a b p q differ again = differ (sym p ∙ again_variable x y again ∙ q)

  is_one : (k : ℕ) (z : Name) (x : Item) → a_variable k z ≡ x → is_variable x ≡ true
  is_one k z x e = ap is_variable (sym e)

  variables_two : (k : ℕ) (ns : List Name) → AreOthers ns → EachTwo (NotAgain u) (map (a_variable k) ns)
  variables_two k ns e =
      two_mapped (NotAgain u) (a_variable k) ns (two_weaker (λ (x y : Name). x ≢ y) (λ (x y : Name). NotAgain u (a_variable k x) (a_variable k y)) (λ x y no again. no (again_name (a_variable k x) (a_variable k y) again)) ns e)

  -- variables of one section
  in_one : (k : ℕ) (ns ms : List Name) → AreOthers (ns ++ ms) → (x y : Item) → Contains (map (a_variable k) ns) x → Contains (map (a_variable k) ms) y → NotAgain u x y
  in_one k ns ms e x y c d again =
      let r = in_mapped (a_variable k) ns x c in
      let s = in_mapped (a_variable k) ms y d in
      two_across (λ (a b : Name). a ≢ b) ns ms r.0 s.0 e r.1 s.1 (ap name_of r.2 ∙ again_name x y again ∙ ap name_of (sym s.2))

  mixed : (k : ℕ) (ds : List Declaration) (ns : List Name) (x y : Item) → Contains (flat_map fixed_by ds) x → Contains (map (a_variable k) ns) y → NotAgain u x y
  mixed k ds ns x y c d = let s = in_mapped (a_variable k) ns y d in other_kinds x y false true (no_variable_in ds x c) (is_one k s.0 y s.2) (λ e. cc)

  mixed_back : (k : ℕ) (ds : List Declaration) (ns : List Name) (x y : Item) → Contains (map (a_variable k) ns) x → Contains (flat_map fixed_by ds) y → NotAgain u x y
  mixed_back k ds ns x y c d = let s = in_mapped (a_variable k) ns x c in other_kinds x y true false (is_one k s.0 x s.2) (no_variable_in ds y d) (λ e. cc)

  alone : (d : Declaration) (x : Item) → Contains (fixed_by d) x → Contains (flat_map fixed_by (d ∷ [])) x
  alone d x c = subst (λ xs. Contains xs x) (sym (append-nil (fixed_by d))) c

  section_two : (k : ℕ) (ds : List Declaration) → EachTwo (NotAgain u) (flat_map fixed_by ds) → AreOthers (flat_map vars_by ds) → EachTwo (NotAgain u) (flat_map (items_of k) ds)
  section_two k [] e f = tt
  section_two k (d ∷ ds) e f =
      two_both (NotAgain u) (items_of k d) (flat_map (items_of k) ds) of_one
      (section_two k ds (two_back (NotAgain u) (fixed_by d) (flat_map fixed_by ds) e) (two_back (λ (a b : Name). a ≢ b) (vars_by d) (flat_map vars_by ds) f)) across
    where
      of_one : EachTwo (NotAgain u) (items_of k d)
      of_one =
          subst (EachTwo (NotAgain u)) (sym (items_are k d))
          (two_both (NotAgain u) (fixed_by d) (map (a_variable k) (vars_by d)) (two_front (NotAgain u) (fixed_by d) (flat_map fixed_by ds) e)
          (variables_two k (vars_by d) (two_front (λ (a b : Name). a ≢ b) (vars_by d) (flat_map vars_by ds) f))
          (λ x y c g. mixed k (d ∷ []) (vars_by d) x y (alone d x c) g))

      across : (x y : Item) → Contains (items_of k d) x → Contains (flat_map (items_of k) ds) y → NotAgain u x y
      across x y c g = elim (split_one k d x c) [
        | inl fixed ↦ elim (split_items k ds y g) [
          | inl other ↦ two_across (NotAgain u) (fixed_by d) (flat_map fixed_by ds) x y e fixed other
          | inr var ↦ mixed k (d ∷ []) (flat_map vars_by ds) x y (alone d x fixed) var
        ]
        | inr var ↦ elim (split_items k ds y g) [
          | inl other ↦ mixed_back k ds (vars_by d) x y var other
          | inr other ↦ in_one k (vars_by d) (flat_map vars_by ds) f x y var other
        ]
      ]

  text_two : (k : ℕ) (ss : List Section) → EachTwo (NotAgain u) (flat_map fixed_by (declarations_in ss)) → AllByRecursion HasOtherVariables ss → EachTwo (NotAgain u) (text_items k ss)
  text_two k [] e f = tt
  text_two k (s ∷ ss) e f =
      two_both (NotAgain u) (flat_map (items_of k) s.declarations) (text_items (suc k) ss) (section_two k s.declarations (two_front (NotAgain u) (flat_map fixed_by s.declarations) (flat_map fixed_by (declarations_in ss)) parts) f.0)
      (text_two (suc k) ss (two_back (NotAgain u) (flat_map fixed_by s.declarations) (flat_map fixed_by (declarations_in ss)) parts) f.1) across
    where
      parts : EachTwo (NotAgain u) (flat_map fixed_by s.declarations ++ flat_map fixed_by (declarations_in ss))
      parts = subst (EachTwo (NotAgain u)) (flat_behind fixed_by s.declarations (declarations_in ss)) e

      across : (x y : Item) → Contains (flat_map (items_of k) s.declarations) x → Contains (text_items (suc k) ss) y → NotAgain u x y
      across x y c g = elim (split_items k s.declarations x c) [
        | inl fixed ↦ elim (split_text (suc k) ss y g) [
          | inl other ↦ two_across (NotAgain u) (flat_map fixed_by s.declarations) (flat_map fixed_by (declarations_in ss)) x y parts fixed other
          | inr (j, z, l, q) ↦ other_kinds x y false true (no_variable_in s.declarations x fixed) (is_one j z y q) (λ h. cc)
        ]
        | inr var ↦ (
            let r = in_mapped (a_variable k) (flat_map vars_by s.declarations) x var in
            elim (split_text (suc k) ss y g) [
              | inl other ↦ other_kinds x y true false (is_one k r.0 x r.2) (no_variable_in (declarations_in ss) y other) (λ h. cc)
              | inr (j, z, l, q) ↦ (λ again. (let same : k ≡ j = ap section_of r.2 ∙ again_section x y again ∙ ap section_of (sym q) in absurd (omega (arith, l, same))))
            ]
            )
      ]

-- what is asked of a text in which nothing is declared again
module _ (ss : List Section) (differ : ItemsDiffer (under_names (declarations_in ss)) ss)
    (built : (f : Name) (es rs : List SortExpression) → Contains (flat_map fixed_by (declarations_in ss)) (a_function f es) → StandForEach (under_names (declarations_in ss)) es rs → ¬ (IsBuiltIn f rs))
    (lists : (d : Declaration) (vs : Variables) → Contains (declarations_in ss) d → Contains (variable_lists d) vs → ¬ (StandsTwice vs)) where
  abbrev w : UnderNames
  w = under_names (declarations_in ss)

  two : EachTwo (NotAgain w) (joined (all_items 0 ss))
  two = subst (EachTwo (NotAgain w)) (sym (joined_text 0 ss)) (text_two w 0 ss differ.fixed differ.variables)

  is_fixed : (f : Name) (es : List SortExpression) → Contains (joined (all_items 0 ss)) (a_function f es) → Contains (flat_map fixed_by (declarations_in ss)) (a_function f es)
  is_fixed f es c = elim (split_text 0 ss (a_function f es) (subst (λ xs. Contains xs (a_function f es)) (joined_text 0 ss) c)) [
    | inl fixed ↦ fixed
    | inr (j, z, l, q) ↦ (let never : true ≡ false = ap is_variable q in absurd cc)
  ]

  never : (i j : ℕ) → DeclaresAgain ss i j → ⊥
  never _ _ (two_of_them i j xs ys x y l a b c d again) = apart_joined (NotAgain w) (all_items 0 ss) i j xs ys x y two l a b c d again
  never _ _ (within_one i k l xs x y a m b c again) = together_joined (NotAgain w) (all_items 0 ss) i k l xs x y two a m b c again
  never _ _ (built_in i xs f es rs a c stand is) = built f es rs (is_fixed f es (joined_contains (all_items 0 ss) i xs (a_function f es) a c)) stand is
  never _ _ (its_variables i d vs a c twice) = lists d vs (contains_read (declarations_in ss) i d a) c twice

  pub nothing_again : NothingAgain ss
  nothing_again i j again = never i j again
