-- Whether a part of a text has a fault of typing doesn't hang on the numbers of sorts and functions.
use Rattle.std.proofs.Common.{◌≡◌, ℕ, zero, suc, Bool, true, false, not, cond, ◌&&◌, ◌||◌, List, [], ◌∷◌, ◌++◌, if◌then◌else◌, map, length, refl, ap, ap₂, sym, ◌∙◌, subst}
use Rattle.std.specs.Prelude.{Option, Some, None, is_some, is_none, option_map, option_and_then, option_to_list, bytes_eq, slice_get}
use Rattle.std.specs.List.{AllByRecursion, find, list_all, list_any}
use Rattle.std.proofs.lemmas.Option.{none-some, same_Some}
use Rattle.std.proofs.lemmas.Slice.Eq.{bytes_eq-Decides}
use Rattle.data_theory.specs.Terms.{Sort, boolean, named, Term, Terms, variable}
use Rattle.data_theory.specs.Environments as lists
use Rattle.data_theory.specs.Declarations.{Construction, sort_at}
use Rattle.process_terms.specs.Communication.{Rule}
use Rattle.process_terms.specs.Labels as written
use Rattle.process_terms.specs.Labels.{Label}
use Rattle.process_terms.specs.Processes.{Renaming, Around, allow, block, hide, rename, comm}
use Rattle.sort_table.specs.Expressions.{Name, Expression}
use Rattle.sort_table.specs.NamedLists.{all_named, first_named}
use Rattle.sort_table.specs.BareSorts.{SortExpression}
use Rattle.sort_table.specs.BareProcesses.{Variables, Action, tau, act}
use Rattle.sort_table.specs.SortMeanings.{UnderNames}
use Rattle.sort_table.specs.Vocabularies.{Vocabulary, sort_in, IsConstruction, by_struct, by_cons, by_none, EachPair, AreSortsOf, IsVocabularyOf}
use Rattle.data_typing.specs.BuiltIns.{scheme_named}
use Rattle.data_typing.specs.Typings.{sort_eq, sorts_eq, Inferred, Typing, first_of, exactly, checked, all_at}
use Rattle.data_typing.specs.Meanings.{Bound, Scope, bound_row, signatures_named, typing_in}
use Rattle.data_typing.proofs.NamedParts.{all_named_are}
use Rattle.sort_checker.specs.FullVocabularies.{Parameters, FullVocabulary, parameters_in, process_from, process_named, Written, IsEntry}
use Rattle.sort_checker.specs.Faults.{Use, of_data, of_process, of_action, name_of, uses_of, names_of_variables, is_function, is_action, is_known, unknown_name, is_call_typed, is_value_typed, are_values_typed, are_renamings_typed, is_no_struct, is_plain_sort, is_typed_in, is_typed, first_left_out, free_among, free_variable}
use Rattle.sort_checker.specs.Operators.{stands_in, first_again, has_action, renaming_fits, are_apart, rule_fits_at, rule_fits, has_comm_fault}
use Rattle.sort_checker.specs.Parts.{Part, a_label, a_call, a_condition, an_operator, an_equation, a_result, ScopedPart}
use Rattle.sort_checker.specs.PartTypings.{action_at, action_of, label_in, arguments_in, variable_at, left_out, assigned_names, are_assignments, left_side, right_side, condition_at}
use Rattle.sort_checker.specs.ScopeLaws.{Both, neither, both, AnyTerms}
use Rattle.sort_checker.specs.Scopes.{numbered, scope_behind, scope_of}
use Rattle.sort_checker.proofs.RelatedTypings.{map_both, then_both, or_both, same_some}
use Rattle.lin_driver.proofs.AlikeTypings.{EachWith, each_none, each_more, AreSame, first_along, test_both, AnyAll, AlikeTypings, Kept, exactly_kept, checked_kept, all_alike, AlikeScopes, scopes_none, scopes_more, AlikeBounds, found_alike}
use Rattle.lin_driver.proofs.SameSorts.{SameSort, same_booleans, same_positives, same_naturals, same_integers, same_lists, same_named, met, are_same, sorts_both, all_sorts_both, functions_alike, typed_alike, all_typed}

-- ---- lists
all_along : {A B : Type 0} {Q : A → B → Type 0} (f : A → Bool) (g : B → Bool) {xs : List A} {ys : List B} → ((x : A) (y : B) → Q x y → f x ≡ g y) → EachWith Q xs ys → list_all f xs ≡ list_all g ys
all_along f g w each_none = refl
all_along f g w (each_more {x = x} {y = y} h hs) = ap₂ (λ (b c : Bool). b && c) (w x y h) (all_along f g w hs)

any_along : {A B : Type 0} {Q : A → B → Type 0} (f : A → Bool) (g : B → Bool) {xs : List A} {ys : List B} → ((x : A) (y : B) → Q x y → f x ≡ g y) → EachWith Q xs ys → list_any f xs ≡ list_any g ys
any_along f g w each_none = refl
any_along f g w (each_more {x = x} {y = y} h hs) = ap₂ (λ (b c : Bool). b || c) (w x y h) (any_along f g w hs)

find_along : {A B : Type 0} {Q : A → B → Type 0} (f : A → Bool) (g : B → Bool) {xs : List A} {ys : List B} → ((x : A) (y : B) → Q x y → f x ≡ g y) → EachWith Q xs ys → Both Q (find f xs) (find g ys)
find_along f g w each_none = neither
find_along f g w (each_more {x = x} {y = y} h hs) = test_both (w x y h) (both h) (find_along f g w hs)

there_along : {A B : Type 0} {Q : A → B → Type 0} {xs : List A} {ys : List B} → EachWith Q xs ys → is_some (slice_get xs 0) ≡ is_some (slice_get ys 0)
there_along each_none = refl
there_along (each_more h hs) = refl

none_same : {A B : Type 0} {R : A → B → Type 0} {o : Option A} {p : Option B} → Both R o p → is_none o ≡ is_none p
none_same neither = refl
none_same (both r) = refl

mapped_same : {A B C : Type 0} {R : A → B → Type 0} (f : A → C) (g : B → C) {o : Option A} {p : Option B} → ((x : A) (y : B) → R x y → f x ≡ g y) → Both R o p → option_map f o ≡ option_map g p
mapped_same f g w neither = refl
mapped_same f g w (both {x = x} {y = y} r) = ap (λ z. Some z) (w x y r)

true_both : (b c : Bool) → (b ≡ true → c ≡ true) → (c ≡ true → b ≡ true) → b ≡ c
true_both true c f g = sym (f refl)
true_both false true f g = g refl
true_both false false f g = refl

each_true : {A : Type 0} (f : A → Bool) (xs : List A) → list_all f xs ≡ true → AllByRecursion (λ x. f x ≡ true) xs
each_true f [] h = tt
each_true f (x ∷ xs) h = by_first (f x) refl (each_true f xs) h
  where
    by_first : (b : Bool) → f x ≡ b → (list_all f xs ≡ true → AllByRecursion (λ y. f y ≡ true) xs) → (b && list_all f xs) ≡ true → AllByRecursion (λ y. f y ≡ true) (x ∷ xs)
    by_first true e rest k = (e, rest k)
    by_first false e rest k = let never : false ≡ true = k in cc

all_true : {A : Type 0} (f : A → Bool) (xs : List A) → AllByRecursion (λ x. f x ≡ true) xs → list_all f xs ≡ true
all_true f [] h = refl
all_true f (x ∷ xs) h = ap₂ (λ (b c : Bool). b && c) h.0 (all_true f xs h.1)

moved_along : {A B : Type 0} {Q : A → B → Type 0} (P : A → Type 0) (R : B → Type 0) {xs : List A} {ys : List B} → ((x : A) (y : B) → Q x y → P x → R y) → EachWith Q xs ys → AllByRecursion P xs → AllByRecursion R ys
moved_along P R w each_none h = tt
moved_along P R w (each_more {x = x} {y = y} k ks) h = (w x y k h.0, moved_along P R w ks h.1)

moved_back : {A B : Type 0} {Q : A → B → Type 0} (P : A → Type 0) (R : B → Type 0) {xs : List A} {ys : List B} → ((x : A) (y : B) → Q x y → R y → P x) → EachWith Q xs ys → AllByRecursion R ys → AllByRecursion P xs
moved_back P R w each_none h = tt
moved_back P R w (each_more {x = x} {y = y} k ks) h = (w x y k h.0, moved_back P R w ks h.1)

-- what holds of all rows under each name holds of all rows
from_names : {A : Type 0} (P : A → Type 0) (rs : List (Name × A)) → ((x : Name) → AllByRecursion P (all_named x rs)) → AllByRecursion (λ (r : Name × A). P r.1) rs
from_names P [] h = tt
from_names {A = A} P (r ∷ rs) h =
    let first : AllByRecursion P (r.1 ∷ all_named r.0 rs) = subst (λ (b : Bool). AllByRecursion P (cond b (r.1 ∷ all_named r.0 rs) (all_named r.0 rs))) ((bytes_eq-Decides r.0 r.0).1 refl) (h r.0) in
    (first.0, from_names P rs (λ x. behind x (bytes_eq r.0 x) (h x)))
  where
    behind : (x : Name) (b : Bool) → AllByRecursion P (cond b (r.1 ∷ all_named x rs) (all_named x rs)) → AllByRecursion P (all_named x rs)
    behind x true k = k.1
    behind x false k = k

-- the first row under a name is there where one is
named_there : {A : Type 0} (x : Name) (rs : List (Name × A)) → is_some (first_named x rs) ≡ is_some (slice_get (all_named x rs) 0)
named_there x [] = refl
named_there x (r ∷ rs) = by_test (bytes_eq r.0 x) (named_there x rs)
  where
    by_test : (b : Bool) → is_some (first_named x rs) ≡ is_some (slice_get (all_named x rs) 0) → is_some (cond b (Some r.1) (first_named x rs)) ≡ is_some (slice_get (cond b (r.1 ∷ all_named x rs) (all_named x rs)) 0)
    by_test true h = refl
    by_test false h = h

abbrev pub AnyLabels : Label → Label → Type 0
AnyLabels m l = Unit {0}

abbrev pub AnyLists : List Term → List Term → Type 0
AnyLists ts us = Unit {0}

abbrev AnyActions : written.Action → written.Action → Type 0
AnyActions a b = Unit {0}

-- a parameter of the same name and sort
abbrev pub SameParameter : UnderNames → Vocabulary → Vocabulary → Name × Sort → Name × Sort → Type 0
SameParameter u v w p q = (p.0 ≡ q.0) × SameSort u v w p.1 q.1

-- a process at the same place, with the same parameters
abbrev pub SamePlace : UnderNames → Vocabulary → Vocabulary → ℕ × Parameters → ℕ × Parameters → Type 0
SamePlace u v w r q = (r.0 ≡ q.0) × EachWith (SameParameter u v w) r.1 q.1

module _ (u : UnderNames) (v w : Vocabulary) (iv : IsVocabularyOf u v) (iw : IsVocabularyOf u w) where
  abbrev S : Sort → Sort → Type 0
  S = SameSort u v w

  -- ---- scopes
  one_more : {one other : Scope} (x : Name) (n l : ℕ) {o q : Option Sort} → AlikeScopes S one other → Both S o q
      → AlikeScopes S (option_to_list (option_map (λ s. record { name = x; number = n; sort = s }) o) ++ one) (option_to_list (option_map (λ s. record { name = x; number = l; sort = s }) q) ++ other)
  one_more x n l h neither = h
  one_more x n l h (both k) = scopes_more k h

  behind_alike : (xs : Variables) {one other : Scope} → AlikeScopes S one other → AlikeScopes S (scope_behind v one xs) (scope_behind w other xs)
  behind_alike [] h = h
  behind_alike (x ∷ xs) {one = one} {other = other} h = behind_alike xs (one_more x.0 (length one) (length other) h (sorts_both u v w iv.sorts iw.sorts x.1))

  pub scopes_alike : (xs : Variables) → AlikeScopes S (scope_of v xs) (scope_of w xs)
  scopes_alike xs = behind_alike xs scopes_none

  -- ---- parameters and processes
  parameters_both : (xs : Variables) → Both (EachWith (SameParameter u v w)) (parameters_in v.sort_names xs) (parameters_in w.sort_names xs)
  parameters_both [] = both each_none
  parameters_both (x ∷ xs) =
      then_both (λ (s : Sort). option_map (λ (ps : Parameters). (x.0, s) ∷ ps) (parameters_in v.sort_names xs)) (λ (s : Sort). option_map (λ (ps : Parameters). (x.0, s) ∷ ps) (parameters_in w.sort_names xs)) (sorts_both u v w iv.sorts iw.sorts x.1)
      (λ s r h. map_both (λ (ps : Parameters). (x.0, s) ∷ ps) (λ (ps : Parameters). (x.0, r) ∷ ps) (parameters_both xs) (λ ps qs hs. each_more (refl, h) hs))

  pub places_both : (k : ℕ) (x : Name) (ws : List Written) (rs qs : List (Name × Parameters)) → EachPair (IsEntry v) ws rs → EachPair (IsEntry w) ws qs → Both (SamePlace u v w) (process_from k x rs) (process_from k x qs)
  places_both k x [] [] [] a b = neither
  places_both k x [] (r ∷ rs) qs a b = absurd a
  places_both k x [] [] (q ∷ qs) a b = absurd b
  places_both k x (p ∷ ws) [] qs a b = absurd a
  places_both k x (p ∷ ws) (r ∷ rs) [] a b = absurd b
  places_both k x (p ∷ ws) (r ∷ rs) (q ∷ qs) a b =
      test_both (ap (λ n. bytes_eq n x) (sym a.0.name ∙ b.0.name)) (both (refl, met (parameters_both p.parameters) a.0.parameters b.0.parameters)) (places_both (suc k) x ws rs qs a.1 b.1)

  -- ---- actions
  pairs_of_sorts : (ess : List (List SortExpression)) (sss rss : List (List Sort)) → EachPair (AreSortsOf v) ess sss → EachPair (AreSortsOf w) ess rss → EachWith (EachWith S) sss rss
  pairs_of_sorts [] [] [] a b = each_none
  pairs_of_sorts [] (ss ∷ sss) rss a b = absurd a
  pairs_of_sorts [] [] (rs ∷ rss) a b = absurd b
  pairs_of_sorts (es ∷ ess) [] rss a b = absurd a
  pairs_of_sorts (es ∷ ess) (ss ∷ sss) [] a b = absurd b
  pairs_of_sorts (es ∷ ess) (ss ∷ sss) (rs ∷ rss) a b = each_more (met (all_sorts_both u v w iv.sorts iw.sorts es) a.0 b.0) (pairs_of_sorts ess sss rss a.1 b.1)

  pub actions_alike : (x : Name) → EachWith (EachWith S) (all_named x v.actions) (all_named x w.actions)
  actions_alike x = pairs_of_sorts (u.actions x) (all_named x v.actions) (all_named x w.actions) (iv.actions x) (iw.actions x)

  pub action_there : (x : Name) → is_action v x ≡ is_action w x
  action_there x = named_there x v.actions ∙ there_along (actions_alike x) ∙ sym (named_there x w.actions)

  pub function_there : (f : Name) → is_function v f ≡ is_function w f
  function_there f = ap (λ (b : Bool). b || is_some (scheme_named f)) (there_along (functions_alike u v w iv.sorts iw.sorts iv.functions iw.functions f))

  sorts_equal : (ss rs ps qs : List Sort) → EachWith S ss rs → EachWith S ps qs → sorts_eq ss ps ≡ sorts_eq rs qs
  sorts_equal _ _ _ _ each_none each_none = refl
  sorts_equal _ _ _ _ each_none (each_more k ks) = refl
  sorts_equal _ _ _ _ (each_more h hs) each_none = refl
  sorts_equal _ _ _ _ (each_more {x = s} {y = r} {xs = ss} {ys = rs} h hs) (each_more {x = p} {y = q} {xs = ps} {ys = qs} k ks) =
      ap₂ (λ (b c : Bool). b && c) ((are_same u v w iv.sorts iw.sorts).equal s r p q h k) (sorts_equal ss rs ps qs hs ks)

  has_same : (x : Name) (ss rs : List Sort) → EachWith S ss rs → has_action v x ss ≡ has_action w x rs
  has_same x ss rs h = any_along (sorts_eq ss) (sorts_eq rs) (λ ps qs k. sorts_equal ss rs ps qs h k) (actions_alike x)

  renaming_same : (r : Renaming) → renaming_fits v r ≡ renaming_fits w r
  renaming_same r = all_along (has_action v r.to) (has_action w r.to) (λ ss rs h. has_same r.to ss rs h) (actions_alike r.from)

  renamings_same : (rs : List Renaming) → list_all (renaming_fits v) rs ≡ list_all (renaming_fits w) rs
  renamings_same [] = refl
  renamings_same (r ∷ rs) = ap₂ (λ (b c : Bool). b && c) (renaming_same r) (renamings_same rs)

  left_same : (ss rs : List Sort) (xs : List Name) → EachWith S ss rs → list_all (λ x. has_action v x ss) xs ≡ list_all (λ x. has_action w x rs) xs
  left_same ss rs [] h = refl
  left_same ss rs (x ∷ xs) h = ap₂ (λ (b c : Bool). b && c) (has_same x ss rs h) (left_same ss rs xs h)

  fits_at : (c : Rule) (ss rs : List Sort) → EachWith S ss rs → rule_fits_at v c ss ≡ rule_fits_at w c rs
  fits_at c ss rs h = ap₂ (λ (a b : Bool). cond a b true) (left_same ss rs c.left h) (has_same c.result ss rs h)

  rule_same : (c : Rule) → rule_fits v c ≡ rule_fits w c
  rule_same c =
      let P : List Sort → Type 0 = λ ss. rule_fits_at v c ss ≡ true in
      let R : List Sort → Type 0 = λ rs. rule_fits_at w c rs ≡ true in
      true_both (rule_fits v c) (rule_fits w c)
      (λ h. all_true (λ (a : Name × List Sort). rule_fits_at w c a.1) w.actions (from_names R w.actions
      (λ x. moved_along P R (λ ss rs k p. sym (fits_at c ss rs k) ∙ p) (actions_alike x) (all_named_are P x v.actions (each_true (λ (a : Name × List Sort). rule_fits_at v c a.1) v.actions h)))))
      (λ h. all_true (λ (a : Name × List Sort). rule_fits_at v c a.1) v.actions (from_names P v.actions
      (λ x. moved_back P R (λ ss rs k p. fits_at c ss rs k ∙ p) (actions_alike x) (all_named_are R x w.actions (each_true (λ (a : Name × List Sort). rule_fits_at w c a.1) w.actions h)))))

  rules_same : (cs : List Rule) → list_all (rule_fits v) cs ≡ list_all (rule_fits w) cs
  rules_same [] = refl
  rules_same (c ∷ cs) = ap₂ (λ (a b : Bool). a && b) (rule_same c) (rules_same cs)

  pub comm_same : (o : Around) → has_comm_fault v o ≡ has_comm_fault w o
  comm_same (comm cs) = ap (λ (b : Bool). not (are_apart cs && b)) (rules_same cs)
  comm_same (allow sets) = refl
  comm_same (block xs) = refl
  comm_same (hide xs) = refl
  comm_same (rename rs) = refl

  pub operators_same : (o : Around) → are_renamings_typed v o ≡ are_renamings_typed w o
  operators_same (rename rs) = renamings_same rs
  operators_same (comm cs) = refl
  operators_same (allow sets) = refl
  operators_same (block xs) = refl
  operators_same (hide xs) = refl

  -- ---- sorts declared without a definition
  struct_same : (n : Name) (a b : Construction) → IsConstruction u n a → IsConstruction u n b → is_no_struct a ≡ is_no_struct b
  struct_same n _ _ (by_struct h) (by_struct k) = refl
  struct_same n _ _ (by_struct h) (by_cons k c) = cc
  struct_same n _ _ (by_struct h) (by_none k c) = cc
  struct_same n _ _ (by_cons h c) (by_struct k) = cc
  struct_same n _ _ (by_cons h c) (by_cons k d) = refl
  struct_same n _ _ (by_cons h c) (by_none k d) = refl
  struct_same n _ _ (by_none h c) (by_struct k) = cc
  struct_same n _ _ (by_none h c) (by_cons k d) = refl
  struct_same n _ _ (by_none h c) (by_none k d) = refl

  pub plain_same : {o q : Option Sort} → Both S o q → is_plain_sort v.tables o ≡ is_plain_sort w.tables q
  plain_same neither = refl
  plain_same (both same_booleans) = refl
  plain_same (both same_positives) = refl
  plain_same (both same_naturals) = refl
  plain_same (both same_integers) = refl
  plain_same (both (same_lists h)) = refl
  plain_same (both (same_named {d = d} {k = k} n own a b)) = struct_same n (sort_at v.tables d) (sort_at w.tables k) a.2 b.2

  -- ---- labels, calls and equations
  module _ (one other : Scope) (scopes : AlikeScopes S one other) where
    pub here : (e : Expression) → AlikeTypings S (typing_in v one e) (typing_in w other e)
    here e = typed_alike u v w iv.sorts iw.sorts iv.functions iw.functions one other scopes e

    all_here : (es : List Expression) → EachWith (AlikeTypings S) (map (typing_in v one) es) (map (typing_in w other) es)
    all_here es = all_typed u v w iv.sorts iw.sorts iv.functions iw.functions one other scopes es

    same : AreSame S
    same = are_same u v w iv.sorts iw.sorts

    at_both : (x : Name) (how : Sort → Typing → Option Term) → Kept S how → {ts us : List Typing} → EachWith (AlikeTypings S) ts us → (ss rs : List Sort) → EachWith S ss rs → Both AnyActions (action_at x how ts ss) (action_at x how us rs)
    at_both x how kept is ss rs h =
        map_both (λ (us : Terms). record { name = x; sorts = ss; args = lists.list_of us }) (λ (us : Terms). record { name = x; sorts = rs; args = lists.list_of us }) (all_alike S same how kept h is) (λ a b z. tt)

    action_both : (x : Name) (es : List Expression) → Both AnyActions (action_of x (map (typing_in v one) es) (all_named x v.actions)) (action_of x (map (typing_in w other) es) (all_named x w.actions))
    action_both x es =
        let ts : List Typing = map (typing_in v one) es in
        let us : List Typing = map (typing_in w other) es in
        or_both (first_along (action_at x exactly ts) (action_at x exactly us) (λ ss rs h. at_both x exactly (exactly_kept S same) (all_here es) ss rs h) (actions_alike x))
        (first_along (action_at x checked ts) (action_at x checked us) (λ ss rs h. at_both x checked (checked_kept S same) (all_here es) ss rs h) (actions_alike x))

    pub label_both : (as_ : List Action) → Both AnyLabels (label_in v one as_) (label_in w other as_)
    label_both [] = both tt
    label_both (tau ∷ as_) = label_both as_
    label_both (act x es ∷ as_) =
        then_both (λ (a : written.Action). option_map (λ (m : Label). a ∷ m) (label_in v one as_)) (λ (a : written.Action). option_map (λ (m : Label). a ∷ m) (label_in w other as_)) (action_both x es)
        (λ a b q. map_both (λ (m : Label). a ∷ m) (λ (m : Label). b ∷ m) (label_both as_) (λ m l z. tt))

    sorts_of_parameters : {ps qs : Parameters} → EachWith (SameParameter u v w) ps qs → EachWith S (map (λ (p : Name × Sort). p.1) ps) (map (λ (p : Name × Sort). p.1) qs)
    sorts_of_parameters each_none = each_none
    sorts_of_parameters (each_more h hs) = each_more h.1 (sorts_of_parameters hs)

    pub arguments_both : (es : List Expression) {ps qs : Parameters} → EachWith (SameParameter u v w) ps qs → Both AnyLists (arguments_in v one ps es) (arguments_in w other qs es)
    arguments_both es h = map_both lists.list_of lists.list_of (all_alike S same checked (checked_kept S same) (sorts_of_parameters h) (all_here es)) (λ a b z. tt)

    names_same : {ps qs : Parameters} → EachWith (SameParameter u v w) ps qs → map (λ (p : Name × Sort). p.0) ps ≡ map (λ (p : Name × Sort). p.0) qs
    names_same each_none = refl
    names_same (each_more h hs) = ap₂ (λ (x : Name) (xs : List Name). x ∷ xs) h.0 (names_same hs)

    assigns_same : (ds : List (Name × Expression)) {ps qs : Parameters} → EachWith (SameParameter u v w) ps qs → are_assignments ps ds ≡ are_assignments qs ds
    assigns_same ds h = ap (λ (xs : List Name). list_all (λ x. stands_in x xs) (assigned_names ds) && is_none (first_again (assigned_names ds))) (names_same h)

    value_checks : (s r : Sort) (o : Option Expression) → S s r → Both AnyTerms (option_and_then (λ e. (typing_in v one e).checks s) o) (option_and_then (λ e. (typing_in w other e).checks r) o)
    value_checks s r None h = neither
    value_checks s r (Some e) h = (here e).checks s r h

    value_same : (ds : List (Name × Expression)) (p q : Name × Sort) → SameParameter u v w p q → is_value_typed v one ds p ≡ is_value_typed w other ds q
    value_same ds p q h =
        ap (λ (b : Bool). b || is_none (first_named p.0 ds)) (same_some (value_checks p.1 q.1 (first_named p.0 ds) h.1))
        ∙ ap (λ (x : Name). is_some (option_and_then (λ e. (typing_in w other e).checks q.1) (first_named x ds)) || is_none (first_named x ds)) h.0

    pub values_same : (ds : List (Name × Expression)) {o q : Option (ℕ × Parameters)} → Both (SamePlace u v w) o q → are_values_typed v one ds o ≡ are_values_typed w other ds q
    values_same ds neither = refl
    values_same ds (both h) = ap₂ (λ (b c : Bool). b && c) (assigns_same ds h.1) (all_along (is_value_typed v one ds) (is_value_typed w other ds) (λ p q k. value_same ds p q k) h.1)

    sides_both : (l r : Expression) → Both (λ (i j : Inferred). S i.sort j.sort) (left_side (typing_in v one l) (typing_in v one r)) (left_side (typing_in w other l) (typing_in w other r))
    sides_both l r =
        or_both (here l).infers
        (then_both (λ (i : Inferred). option_map (λ t. record { term = t; sort = i.sort }) ((typing_in v one l).checks i.sort)) (λ (i : Inferred). option_map (λ t. record { term = t; sort = i.sort }) ((typing_in w other l).checks i.sort)) (here r).infers
        (λ i j h. map_both (λ t. record { term = t; sort = i.sort }) (λ t. record { term = t; sort = j.sort }) ((here l).checks i.sort j.sort h) (λ t x z. h)))

    pub right_both : (l r : Expression) → Both AnyTerms (right_side (typing_in v one l) (typing_in v one r)) (right_side (typing_in w other l) (typing_in w other r))
    right_both l r = then_both (λ (i : Inferred). (typing_in v one r).checks i.sort) (λ (i : Inferred). (typing_in w other r).checks i.sort) (sides_both l r) (λ i j h. (here r).checks i.sort j.sort h)

    pub condition_both : (o : Option Expression) → Both AnyTerms (condition_at v one o) (condition_at w other o)
    condition_both None = both tt
    condition_both (Some e) = (here e).checks boolean boolean same_booleans

    -- ---- parameters that are left out
    variable_both : (s r : Sort) (b c : Bound) → S s r → AlikeBounds S b c → Both AnyTerms (variable_at s b) (variable_at r c)
    variable_both s r b c h k = test_both (same.equal b.sort c.sort s r k h) (both tt) neither

    left_out_both : (p q : Name × Sort) → SameParameter u v w p q → Both AnyTerms (left_out one p) (left_out other q)
    left_out_both p q h =
        subst (λ (x : Name). Both AnyTerms (left_out one p) (option_and_then (variable_at q.1) (first_named x (map bound_row other)))) h.0
        (then_both (variable_at p.1) (variable_at q.1) (found_alike S p.0 scopes) (λ b c k. variable_both p.1 q.1 b c h.1 k))

    pub left_out_same : (ds : List (Name × Expression)) {o q : Option (ℕ × Parameters)} → Both (SamePlace u v w) o q → first_left_out one ds o ≡ first_left_out other ds q
    left_out_same ds neither = refl
    left_out_same ds (both h) =
        mapped_same (λ (p : Name × Sort). p.0) (λ (p : Name × Sort). p.0) (λ p q k. k.0)
        (find_along (λ (p : Name × Sort). is_none (first_named p.0 ds) && is_none (left_out one p)) (λ (p : Name × Sort). is_none (first_named p.0 ds) && is_none (left_out other p))
        (λ p q k. ap₂ (λ (b c : Bool). b && c) (ap (λ (x : Name). is_none (first_named x ds)) k.0) (none_same (left_out_both p q k))) h.1)
