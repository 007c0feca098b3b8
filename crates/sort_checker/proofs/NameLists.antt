-- Lists of names that trees give, one after the other.
use Rattle.std.proofs.Common.{◌≡◌, ◌<◌, ◌≤◌, ◌+◌, ◌++◌, ◌&&◌, ◌||◌, ℕ, zero, suc, Bool, true, false, List, [], ◌∷◌, length, map, take, get_or, refl, ap, ap₂, sym, ◌∙◌, subst, append_assoc, arith}
use Rattle.std.specs.Prelude.{Option, Some, None, option_map, bytes_eq, slice_get}
use Rattle.std.specs.Global.{Box, Vec}
use Rattle.std.proofs.lemmas.Option.{none-some, same_Some}
use Rattle.std.proofs.lemmas.List.{take_more}
use Rattle.std.specs.Option.{option_or}
use Rattle.std.proofs.lemmas.List.Folds.{find-append}
use denote.Ref.{Bor}
use Rattle.std.specs.List.{Contains, AllByRecursion, flat_map, list_any, list_all}
use Rattle.mcrl2_syntax.specs.declared.data_tree.Chain.{Chain}
use Rattle.mcrl2_syntax.specs.declared.data_tree.DataTree.{DataTree}
use Rattle.mcrl2_syntax.specs.declared.data_tree.InfixSign.{InfixSign}
use Rattle.mcrl2_syntax.specs.declared.word.Word.{Word}
use Rattle.mcrl2_syntax.specs.declared.process_tree.Assignment.{Assignment}
use Rattle.mcrl2_syntax.specs.declared.process_tree.NameSet.{NameSet}
use Rattle.mcrl2_syntax.specs.declared.process_tree.Renaming.{Renaming}
use Rattle.mcrl2_syntax.specs.declared.process_tree.CommRule.{CommRule}
use Rattle.mcrl2_syntax.specs.declared.word.Span.{Span}
use Rattle.mcrl2_syntax.specs.declared.data_tree.DataTree.TheVariants.{Infix, Sum, Product, rolls-Infix, rolls-Sum, rolls-Product}
use Rattle.mcrl2_syntax.specs.declared.data_tree.DataTree.TheFolds.{fold-roll-DataTree}
use Rattle.mcrl2_syntax.specs.DataTrees.{PlainData, plain_data, plain_data_step, plain_operands, datas_of, operands_of}
use Rattle.mcrl2_syntax.specs.ProcessParts.{PlainAssignment, assignment_of, name_set_of, renaming_of, comm_rule_of}
use Rattle.mcrl2_syntax.specs.Words.{PlainWord, word_of}
use Rattle.data_theory.specs.declared.actions.ActEntry.{ActEntry}
use Rattle.data_theory.specs.Actions.{actions_of}
use Rattle.data_theory.specs.Keys.{Key, key}
use Rattle.sort_table.specs.Expressions.{Name}
use Rattle.sort_table.specs.BareProcesses.{bare_names}
use Rattle.sort_table.specs.Identifiers.{in_data, in_datas, in_operands, in_renaming, in_rule}
use Rattle.sort_table.proofs.Searches.{IsListed, listed_more}
use Rattle.sort_checker.specs.declared.name_numbers.NameNumbers.{NameNumbers}
use Rattle.sort_checker.specs.NameNumbers.{has_name, AddsNames}
use Rattle.sort_checker.specs.Operators.{stands_in}
use Rattle.sort_checker.specs.UnknownTrees.{is_unknown_word, unknown_word, is_unknown_action, unknown_action, names_in_sets}
use Rattle.sort_checker.specs.declared.known_names.KnownNames.{KnownNames}
use Rattle.sort_checker.proofs.Members.{contains_first}
use Rattle.sort_checker.proofs.LeftSides.{adds_more}

-- ---- one element more
pub appended_more : {A B : Type 0} (h : List A → List B) (f : A → List B) → IsListed h f → (start old new : List B) (xs : List A) (i : ℕ) (x : A) → i < length xs → x ≡ get_or xs i x → old ≡ start ++ h (take i xs) → new ≡ old ++ f x
    → new ≡ start ++ h (take (i + 1) xs)
appended_more {B = B} h f is start old new xs i x l e before then =
    then ∙ (ap (λ (bs : List B). bs ++ f x) before ∙ (append_assoc start (h (take i xs)) (f x) ∙ ap (λ (bs : List B). start ++ bs) (sym (listed_more h f is xs i x l e))))

pub added_more : {A : Type 0} (h : List A → List Name) (f : A → List Name) → IsListed h f → (start old new : NameNumbers) (xs : List A) (i : ℕ) (x : A) → i < length xs → x ≡ get_or xs i x → AddsNames start old (h (take i xs)) → AddsNames old new (f x)
    → AddsNames start new (h (take (i + 1) xs))
added_more h f is start old new xs i x l e before then = subst (AddsNames start new) (sym (listed_more h f is xs i x l e)) (adds_more start old new (h (take i xs)) (f x) before then)

abbrev pub of_data : DataTree → List Name
of_data t = in_data (plain_data t)

abbrev pub of_datas : List DataTree → List Name
of_datas ts = in_datas (datas_of (map plain_data ts))

pub datas_listed : IsListed of_datas of_data
datas_listed = record { of_none = refl; of_more = λ t ts. refl }

abbrev pub of_operand : InfixSign × DataTree → List Name
of_operand o = in_data (plain_data o.1)

abbrev pub of_operands : List (InfixSign × DataTree) → List Name
of_operands os = in_operands (operands_of (plain_operands os))

pub operands_listed : IsListed of_operands of_operand
operands_listed = record { of_none = refl; of_more = λ o os. refl }

abbrev pub of_value : Assignment → List Name
of_value a = in_data (plain_data a.value)

abbrev pub of_values : List Assignment → List Name
of_values as_ = flat_map (λ (x : PlainAssignment). in_data x.value) (map assignment_of as_)

pub values_listed : IsListed of_values of_value
values_listed = record { of_none = refl; of_more = λ a as_. refl }

abbrev pub of_word : Word → List Name
of_word w = w.bytes.items ∷ []

abbrev pub of_words : List Word → List Name
of_words ws = bare_names (map word_of ws)

pub words_listed : IsListed of_words of_word
words_listed = record { of_none = refl; of_more = λ w ws. refl }

abbrev pub of_set : NameSet → List Name
of_set s = bare_names (map word_of s.names.items)

abbrev pub of_sets : List NameSet → List Name
of_sets ss = names_in_sets (map name_set_of ss)

pub sets_listed : IsListed of_sets of_set
sets_listed = record { of_none = refl; of_more = λ s ss. refl }

abbrev pub of_renaming : Renaming → List Name
of_renaming r = in_renaming (renaming_of r)

abbrev pub of_renamings : List Renaming → List Name
of_renamings rs = flat_map in_renaming (map renaming_of rs)

pub renamings_listed : IsListed of_renamings of_renaming
renamings_listed = record { of_none = refl; of_more = λ r rs. refl }

abbrev pub of_rule : CommRule → List Name
of_rule c = in_rule (comm_rule_of c)

abbrev pub of_rules : List CommRule → List Name
of_rules cs = flat_map in_rule (map comm_rule_of cs)

pub rules_listed : IsListed of_rules of_rule
rules_listed = record { of_none = refl; of_more = λ c cs. refl }

-- ---- names added
pub any_append : {A : Type 0} (p : A → Bool) (xs ys : List A) → list_any p (xs ++ ys) ≡ (list_any p xs || list_any p ys)
any_append p [] ys = refl
any_append p (x ∷ xs) ys = ap (λ (b : Bool). p x || b) (any_append p xs ys) ∙ or_assoc (p x) (list_any p xs) (list_any p ys)
  where
    or_assoc : (a b c : Bool) → (a || (b || c)) ≡ ((a || b) || c)
    or_assoc true b c = refl
    or_assoc false b c = refl

pub added_then : (a b c : NameNumbers) (ms ns : List Name) → AddsNames a b ms → AddsNames b c ns → AddsNames a c (ms ++ ns)
added_then a b c ms ns one two n = two n ∙ (ap (λ (k : Bool). k || stands_in n ns) (one n) ∙ (grouped (has_name a n) (stands_in n ms) (stands_in n ns) ∙ ap (λ (k : Bool). has_name a n || k) (sym (any_append (λ y. bytes_eq y n) ms ns))))
  where
    grouped : (p q r : Bool) → ((p || q) || r) ≡ (p || (q || r))
    grouped true q r = refl
    grouped false q r = refl

pub told_more : {A : Type 0} (h : List A → List Name) (f : A → List Name) → IsListed h f → (old new : NameNumbers) (xs : List A) (i : ℕ) (x : A) → i < length xs → x ≡ get_or xs i x → ((n : Name) → has_name old n ≡ stands_in n (h (take i xs))) → AddsNames old new (f x)
    → (n : Name) → has_name new n ≡ stands_in n (h (take (i + 1) xs))
told_more h f is old new xs i x l e before then n =
    then n ∙ (ap (λ (b : Bool). b || stands_in n (f x)) (before n) ∙ (sym (any_append (λ y. bytes_eq y n) (h (take i xs)) (f x)) ∙ ap (stands_in n) (sym (listed_more h f is xs i x l e))))

-- ---- items of lists
pub action_holds : (P : Key → Type 0) (es : List ActEntry) → AllByRecursion P (actions_of es) → (i : ℕ) (e : ActEntry) → i < length es → e ≡ get_or es i e → P (key e.name e.sorts.items)
action_holds P [] h i e l q = let never : ⊥ = omega (arith, l) in absurd never
action_holds P (x ∷ es) h zero e l q = subst (λ (y : ActEntry). P (key y.name y.sorts.items)) (sym q) h.0
action_holds P (x ∷ es) h (suc i) e l q = action_holds P es h.1 i e (omega (arith, l)) q

-- one word passes, or doesn't
pub one_passes : (p : Name → Bool) (ws : List Word) (i : ℕ) (w : Word) → i < length ws → w ≡ get_or ws i w → p w.bytes.items ≡ true → list_any p (of_words ws) ≡ true
one_passes p [] i w l q h = let never : ⊥ = omega (arith, l) in absurd never
one_passes p (x ∷ ws) zero w l q h = ap (λ (b : Bool). b || list_any p (of_words ws)) (ap (λ (y : Word). p y.bytes.items) (sym q) ∙ h)
one_passes p (x ∷ ws) (suc i) w l q h = ap (λ (b : Bool). p x.bytes.items || b) (one_passes p ws i w (omega (arith, l)) q h) ∙ or_true (p x.bytes.items)
  where
    or_true : (b : Bool) → (b || true) ≡ true
    or_true true = refl
    or_true false = refl

pub one_fails : {A : Type 0} (p : A → Bool) (xs : List A) (i : ℕ) (x : A) → i < length xs → x ≡ get_or xs i x → p x ≡ false → list_all p xs ≡ false
one_fails p [] i w l q h = let never : ⊥ = omega (arith, l) in absurd never
one_fails p (y ∷ ys) zero x l q h = ap (λ (b : Bool). b && list_all p ys) (ap p (sym q) ∙ h)
one_fails p (y ∷ ys) (suc i) x l q h = ap (λ (b : Bool). p y && b) (one_fails p ys i x (omega (arith, l)) q h) ∙ and_false (p y)
  where
    and_false : (b : Bool) → (b && false) ≡ false
    and_false true = refl
    and_false false = refl

pub all_mapped : {A B : Type 0} (p : B → Bool) (f : A → B) (xs : List A) → list_all p (map f xs) ≡ list_all (λ x. p (f x)) xs
all_mapped p f [] = refl
all_mapped p f (x ∷ xs) = ap (λ (b : Bool). p (f x) && b) (all_mapped p f xs)

-- through a function
pub one_image_fails : {A B : Type 0} (p : B → Bool) (f : A → B) (xs : List A) (i : ℕ) (x : A) → i < length xs → x ≡ get_or xs i x → p (f x) ≡ false → list_all p (map f xs) ≡ false
one_image_fails p f xs i x l q h = all_mapped p f xs ∙ one_fails (λ y. p (f y)) xs i x l q h

pub one_word_fails : (p : Name → Bool) (ws : List Word) (i : ℕ) (w : Word) → i < length ws → w ≡ get_or ws i w → p w.bytes.items ≡ false → list_all p (of_words ws) ≡ false
one_word_fails p ws i w l q h = all_mapped p (λ (x : PlainWord). x.bytes) (map word_of ws) ∙ (all_mapped (λ (x : PlainWord). p x.bytes) word_of ws ∙ one_fails (λ (x : Word). p x.bytes.items) ws i w l q h)

-- ---- in front or behind
pub found_front : (front back : Option Name) (o : Option (Bor Name)) (b : Bor Name) → option_map (λ n. n.now) o ≡ front → o ≡ Some b → Some b.now ≡ option_or front back
found_front front back o b told is = ap (λ (p : Option Name). option_or p back) (sym (ap (option_map (λ n. n.now)) is) ∙ told)

pub found_back : (front back : Option Name) (o q : Option (Bor Name)) → option_map (λ n. n.now) o ≡ front → o ≡ None → option_map (λ n. n.now) q ≡ back → option_map (λ n. n.now) q ≡ option_or front back
found_back front back o q told is then = then ∙ ap (λ (p : Option Name). option_or p back) (sym (ap (option_map (λ n. n.now)) is) ∙ told)

pub action_joined : (k : KnownNames) (xs ys : List Name) → unknown_action k (xs ++ ys) ≡ option_or (unknown_action k xs) (unknown_action k ys)
action_joined k xs ys = find-append (is_unknown_action k) xs ys

pub word_joined : (k : KnownNames) (scope xs ys : List Name) → unknown_word k scope (xs ++ ys) ≡ option_or (unknown_word k scope xs) (unknown_word k scope ys)
word_joined k scope xs ys = find-append (is_unknown_word k scope) xs ys

-- ---- one of a list, or none
pub one_any : {A : Type 0} (p : A → Bool) (xs : List A) (i : ℕ) (x : A) → i < length xs → x ≡ get_or xs i x → p x ≡ true → list_any p xs ≡ true
one_any p [] i x l q h = let never : ⊥ = omega (arith, l) in absurd never
one_any p (y ∷ ys) zero x l q h = ap (λ (b : Bool). b || list_any p ys) (ap p (sym q) ∙ h)
one_any p (y ∷ ys) (suc i) x l q h = ap (λ (b : Bool). p y || b) (one_any p ys i x (omega (arith, l)) q h) ∙ or_true (p y)
  where
    or_true : (b : Bool) → (b || true) ≡ true
    or_true true = refl
    or_true false = refl

pub none_any : {A : Type 0} (p : A → Bool) (xs : List A) (i : ℕ) (x : A) → i < length xs → x ≡ get_or xs i x → list_any p (take i xs) ≡ false → p x ≡ false → list_any p (take (i + 1) xs) ≡ false
none_any p xs i x l q before h =
    ap (list_any p) (take_more xs i x l) ∙ (any_append p (take i xs) (get_or xs i x ∷ []) ∙ ap₂ (λ (a b : Bool). a || b) before (ap (λ (b : Bool). b || false) (ap p (sym q) ∙ h)))

taken_whole : {A : Type 0} (xs : List A) (n : ℕ) → length xs ≤ n → take n xs ≡ xs
taken_whole [] zero h = refl
taken_whole [] (suc n) h = refl
taken_whole (x ∷ xs) zero h = let never : ⊥ = omega (arith, h) in absurd never
taken_whole (x ∷ xs) (suc n) h = ap (λ ys. x ∷ ys) (taken_whole xs n (omega (arith, h)))

pub none_at_all : {A : Type 0} (p : A → Bool) (xs : List A) (n : ℕ) → length xs ≤ n → list_any p (take n xs) ≡ false → list_any p xs ≡ false
none_at_all p xs n l h = ap (list_any p) (sym (taken_whole xs n l)) ∙ h

pub first_among : (ws : List Word) (w : Word) → Some w ≡ slice_get ws 0 → Contains (of_words ws) w.bytes.items
first_among [] w e = absurd (none-some w (sym e))
first_among (x ∷ ws) w e = subst (λ (y : Word). Contains (of_words (x ∷ ws)) y.bytes.items) (same_Some x w (sym e)) (contains_first x.bytes.items (of_words ws))

-- ---- what trees of data are
pub infix_names : (span : Span) (sign : InfixSign) (left right : Box DataTree) → of_data (Infix span sign left right) ≡ of_data left.value ++ of_data right.value
infix_names span sign left right = ap in_data (ap plain_data (sym (rolls-Infix span sign left right)) ∙ fold-roll-DataTree PlainData plain_data_step _)

pub sum_names : (span : Span) (chain : Box (Chain DataTree)) → of_data (Sum span chain) ≡ of_data chain.value.first ++ of_operands chain.value.further.items
sum_names span chain = ap in_data (ap plain_data (sym (rolls-Sum span chain)) ∙ fold-roll-DataTree PlainData plain_data_step _)

pub product_names : (span : Span) (chain : Box (Chain DataTree)) → of_data (Product span chain) ≡ of_data chain.value.first ++ of_operands chain.value.further.items
product_names span chain = ap in_data (ap plain_data (sym (rolls-Product span chain)) ∙ fold-roll-DataTree PlainData plain_data_step _)
