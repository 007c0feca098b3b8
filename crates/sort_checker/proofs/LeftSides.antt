-- Left sides, names of variables, and numbers of declarations.
use Rattle.std.proofs.Common.{◌≡◌, ◌<◌, ◌≤◌, ◌+◌, ◌||◌, ℕ, zero, suc, Bool, true, false, cond, List, [], ◌∷◌, ◌++◌, length, map, take, drop, get_or, refl, ap, ap₂, sym, ◌∙◌, arith}
use Rattle.std.specs.Prelude.{Option, Some, None, option_map, bytes_eq}
use Rattle.std.specs.Option.{option_or}
use Rattle.std.specs.List.{list_any}
use Rattle.std.proofs.lemmas.List.{take_more, take-append-drop, map-append, length-map}
use Rattle.sort_checker.proofs.ScopedLists.{tree_under}
use Rattle.std.proofs.lemmas.Simd.{map-map}
use Rattle.mcrl2_syntax.specs.declared.declaration.Decl.{Decl}
use Rattle.mcrl2_syntax.specs.declared.process_tree.VarGroup.{VarGroup}
use Rattle.mcrl2_syntax.specs.Words.{PlainWord, word_of}
use Rattle.mcrl2_syntax.specs.ProcessParts.{var_group_of}
use Rattle.mcrl2_syntax.specs.declared.data_tree.DataTree.{DataTree}
use Rattle.mcrl2_syntax.specs.declared.data_tree.InfixSign.{InfixSign}
use Rattle.mcrl2_syntax.specs.DataTrees.{PlainOperands, no_operands, more_operands, datas_of, operands_of, plain_data, plain_operands}
use Rattle.sort_table.specs.Expressions.{Name, Expression, numeral, listed, word, none, more}
use Rattle.sort_table.specs.BareSorts.{SortExpression, bare_sort}
use Rattle.sort_table.specs.BareData.{bare_data, bare_datas, infix_text, to_the_left, to_the_right}
use Rattle.sort_table.specs.BareProcesses.{Variables, bare_group, bare_variables}
use Rattle.sort_table.specs.BareDeclarations as bare
use Rattle.sort_table.specs.BareDeclarations.{Declaration}
use Rattle.sort_table.specs.DeclarationTrees.{declaration_of}
use Rattle.sort_table.proofs.Searches.{IsListed}
use Rattle.sort_checker.specs.declared.name_numbers.NameNumbers.{NameNumbers}
use Rattle.sort_checker.specs.NameNumbers.{has_name, AddsNames}
use Rattle.sort_checker.specs.Operators.{stands_in}
use Rattle.sort_checker.specs.Faults.{names_of_variables, is_variable, is_left_variable, has_variable_left}
use Rattle.sort_checker.specs.Refusals.{number_from}
use Rattle.sort_checker.specs.LeftTrees.{lone_word, passes, is_left_word, left_from, names_of_words, names_of_groups, names_before}
use Rattle.sort_checker.specs.ScopedTrees.{variables_under, scoped_under}

-- ---- names added
or_assoc : (a b c : Bool) → ((a || b) || c) ≡ (a || (b || c))
or_assoc true b c = refl
or_assoc false b c = refl

any_append : {A : Type 0} (p : A → Bool) (xs ys : List A) → list_any p (xs ++ ys) ≡ (list_any p xs || list_any p ys)
any_append p [] ys = refl
any_append p (x ∷ xs) ys = ap (λ (b : Bool). p x || b) (any_append p xs ys) ∙ sym (or_assoc (p x) (list_any p xs) (list_any p ys))

pub adds_more : (a b c : NameNumbers) (xs ys : List Name) → AddsNames a b xs → AddsNames b c ys → AddsNames a c (xs ++ ys)
adds_more a b c xs ys h k n =
    k n ∙ (ap (λ (t : Bool). t || stands_in n ys) (h n) ∙ (or_assoc (has_name a n) (stands_in n xs) (stands_in n ys) ∙ ap (λ (t : Bool). has_name a n || t) (sym (any_append (λ y. bytes_eq y n) xs ys))))

-- ---- lists of names
words_of_group : (g : VarGroup) → names_of_variables (bare_group (var_group_of g)) ≡ names_of_words g.names.items
words_of_group g =
    map-map (λ (x : Name × SortExpression). x.0) (λ (w : PlainWord). (w.bytes, bare_sort (var_group_of g).sort)) (var_group_of g).names ∙ map-map (λ (w : PlainWord). w.bytes) word_of g.names.items

pub groups_listed : IsListed names_of_groups (λ (g : VarGroup). names_of_words g.names.items)
groups_listed = record {
  of_none = refl;
  of_more = λ g gs. map-append (λ (x : Name × SortExpression). x.0) (bare_group (var_group_of g)) (bare_variables (map var_group_of gs)) ∙ ap (λ (ns : List Name). ns ++ names_of_groups gs) (words_of_group g);
}

-- ---- words
not_behind : (e : Expression) (os : PlainOperands) → lone_word e ≡ None → lone_word (to_the_left e os) ≡ None
not_behind e no_operands h = h
not_behind e (more_operands sign d os) h = not_behind (word (infix_text sign) (more e (more (bare_data d) none))) os refl

-- a first operand with others behind it
pub others_behind : (e : Expression) (os : List (InfixSign × DataTree)) → 0 < length os → None ≡ lone_word (to_the_left e (operands_of (plain_operands os)))
others_behind e [] h = let never : ⊥ = omega (arith, h) in absurd never
others_behind e (o ∷ os) h = sym (not_behind (word (infix_text o.0) (more e (more (bare_data (plain_data o.1)) none))) (operands_of (plain_operands os)) refl)

-- a chain to the right
abbrev pub chained : Name → List DataTree → Expression
chained f ts = to_the_right f (datas_of (map plain_data ts))

pub two_operands : (f : Name) (ts : List DataTree) → 2 ≤ length ts → None ≡ lone_word (chained f ts)
two_operands f [] h = let never : ⊥ = omega (arith, h) in absurd never
two_operands f (t ∷ []) h = let never : ⊥ = omega (arith, h) in absurd never
two_operands f (t ∷ u ∷ ts) h = refl

-- a word with arguments
abbrev pub called : Name → List DataTree → Expression
called f ts = word f (bare_datas (datas_of (map plain_data ts)))

pub some_argument : (f : Name) (ts : List DataTree) → 0 < length ts → None ≡ lone_word (called f ts)
some_argument f [] h = let never : ⊥ = omega (arith, h) in absurd never
some_argument f (t ∷ ts) h = refl

-- ---- tests
lone_test : (test : Name → Bool) (xs : Variables) → ((n : Name) → test n ≡ stands_in n (names_of_variables xs)) → (e : Expression) → passes test (lone_word e) ≡ is_variable xs e
lone_test test xs h (numeral n) = refl
lone_test test xs h (listed es) = refl
lone_test test xs h (word x none) = h x
lone_test test xs h (word x (more e es)) = refl

pub left_test : (test : Name → Bool) (xs : Variables) → ((n : Name) → test n ≡ stands_in n (names_of_variables xs)) → (d : Declaration) → is_left_word test d ≡ is_left_variable xs d
left_test test xs h (bare.sorts ns) = refl
left_test test xs h (bare.alias n e) = refl
left_test test xs h (bare.struct n cs) = refl
left_test test xs h (bare.constructors fs es to) = refl
left_test test xs h (bare.mappings fs es to) = refl
left_test test xs h (bare.variables ys) = refl
left_test test xs h (bare.equation c l r) = lone_test test xs h l
left_test test xs h (bare.actions as_ es) = refl
left_test test xs h (bare.process n ys p) = refl
left_test test xs h (bare.initial p) = refl

-- ---- numbers
pub numbers_alike : {C D E : Type 0} (t : D → Bool) (u : E → Bool) (f : C → D) (g : C → E) → ((c : C) → t (f c) ≡ u (g c)) → (k : ℕ) (cs : List C) → number_from t k (map f cs) ≡ number_from u k (map g cs)
numbers_alike t u f g h k [] = refl
numbers_alike t u f g h k (c ∷ cs) = ap₂ (λ (b : Bool) (o : Option ℕ). cond b (Some k) o) (h c) (numbers_alike t u f g h (suc k) cs)

pub numbers_shift : {D : Type 0} (t : D → Bool) (k i : ℕ) (ds : List D) → number_from t (k + i) ds ≡ option_map (λ (n : ℕ). k + n) (number_from t i ds)
numbers_shift t k i [] = refl
numbers_shift t k i (d ∷ ds) = ap (λ (o : Option ℕ). cond (t d) (Some (k + i)) o) (ap (λ (n : ℕ). number_from t n ds) (omega arith) ∙ numbers_shift t k (suc i) ds) ∙ by_test (t d) (number_from t (suc i) ds)
  where
    by_test : (b : Bool) (o : Option ℕ) → cond b (Some (k + i)) (option_map (λ (n : ℕ). k + n) o) ≡ option_map (λ (n : ℕ). k + n) (cond b (Some i) o)
    by_test true o = refl
    by_test false o = refl

numbers_append : {D : Type 0} (t : D → Bool) (k : ℕ) (xs ys : List D) → number_from t k (xs ++ ys) ≡ option_or (number_from t k xs) (number_from t (k + length xs) ys)
numbers_append t k [] ys = ap (λ (n : ℕ). number_from t n ys) (omega arith)
numbers_append t k (x ∷ xs) ys = ap (λ (o : Option ℕ). cond (t x) (Some k) o) (numbers_append t (suc k) xs ys ∙ ap (λ (n : ℕ). option_or (number_from t (suc k) xs) (number_from t n ys)) (omega arith)) ∙ by_test (t x) (number_from t (suc k) xs)
  where
    by_test : (b : Bool) (o : Option ℕ) → cond b (Some k) (option_or o (number_from t (k + suc (length xs)) ys)) ≡ option_or (cond b (Some k) o) (number_from t (k + suc (length xs)) ys)
    by_test true o = refl
    by_test false o = refl

pub numbers_found : {D : Type 0} (t : D → Bool) (k n : ℕ) (xs ys : List D) → number_from t k xs ≡ Some n → number_from t k (xs ++ ys) ≡ Some n
numbers_found t k n xs ys h = numbers_append t k xs ys ∙ ap (λ (o : Option ℕ). option_or o (number_from t (k + length xs) ys)) h

pub numbers_behind : {D : Type 0} (t : D → Bool) (k : ℕ) (xs ys : List D) → number_from t k xs ≡ None → number_from t k (xs ++ ys) ≡ number_from t (k + length xs) ys
numbers_behind t k xs ys h = numbers_append t k xs ys ∙ ap (λ (o : Option ℕ). option_or o (number_from t (k + length xs) ys)) h

number_one : {D : Type 0} (t : D → Bool) (k : ℕ) (ds : List D) (d : D) → number_from t k ds ≡ None → number_from t k (ds ++ d ∷ []) ≡ cond (t d) (Some (k + length ds)) None
number_one t k ds d h = numbers_behind t k ds (d ∷ []) h

length_mapped : {C D : Type 0} (g : C → D) (cs : List C) (i : ℕ) → i < length cs → length (map g (take i cs)) ≡ i
length_mapped g [] i l = let never : ⊥ = omega (arith, l) in absurd never
length_mapped g (c ∷ cs) zero l = refl
length_mapped g (c ∷ cs) (suc i) l = ap suc (length_mapped g cs i (omega (arith, l)))

next_number : {C D : Type 0} (g : C → D) (t : D → Bool) (k : ℕ) (cs : List C) (i : ℕ) (c : C) → i < length cs → c ≡ get_or cs i c → number_from t k (map g (take i cs)) ≡ None
    → number_from t k (map g (take (i + 1) cs)) ≡ cond (t (g c)) (Some (k + i)) None
next_number {C = C} g t k cs i c l e absent =
    ap (λ (xs : List C). number_from t k (map g xs)) (take_more cs i c l)
    ∙ (ap (number_from t k) (map-append g (take i cs) (get_or cs i c ∷ []))
    ∙ (number_one t k (map g (take i cs)) (g (get_or cs i c)) absent
    ∙ ap₂ (λ (x : C) (n : ℕ). cond (t (g x)) (Some (k + n)) None) (sym e) (length_mapped g cs i l)))

pub not_numbered : {C D : Type 0} (g : C → D) (t : D → Bool) (k : ℕ) (cs : List C) (i : ℕ) (c : C) → i < length cs → c ≡ get_or cs i c → number_from t k (map g (take i cs)) ≡ None → t (g c) ≡ false
    → number_from t k (map g (take (i + 1) cs)) ≡ None
not_numbered g t k cs i c l e absent h = next_number g t k cs i c l e absent ∙ ap (λ (b : Bool). cond b (Some (k + i)) None) h

pub numbered : {C D : Type 0} (g : C → D) (t : D → Bool) (k : ℕ) (cs : List C) (i : ℕ) (c : C) → i < length cs → c ≡ get_or cs i c → number_from t k (map g (take i cs)) ≡ None → t (g c) ≡ true
    → number_from t k (map g cs) ≡ Some (k + i)
numbered {C = C} g t k cs i c l e absent h =
    ap (λ (xs : List C). number_from t k (map g xs)) (sym (take-append-drop (i + 1) cs))
    ∙ (ap (number_from t k) (map-append g (take (i + 1) cs) (drop (i + 1) cs))
    ∙ numbers_found t k (k + i) (map g (take (i + 1) cs)) (map g (drop (i + 1) cs)) (next_number g t k cs i c l e absent ∙ ap (λ (b : Bool). cond b (Some (k + i)) None) h))

-- ---- a section
pub section_told : (names : NameNumbers) (before ds : List Decl) (k : ℕ) → ((n : Name) → has_name names n ≡ stands_in n (names_before before))
    → left_from k (scoped_under before ds) ≡ option_map (λ (n : ℕ). k + n) (number_from (is_left_word (has_name names)) 0 (map declaration_of ds))
section_told names before ds k h =
    let at : k ≡ k + 0 = omega arith in
    numbers_alike has_variable_left (is_left_word (has_name names)) (tree_under (variables_under before)) declaration_of (λ (d : Decl). sym (left_test (has_name names) (variables_under before) h (declaration_of d))) k ds
    ∙ (ap (λ (n : ℕ). number_from (is_left_word (has_name names)) n (map declaration_of ds)) at ∙ numbers_shift (is_left_word (has_name names)) k 0 (map declaration_of ds))

pub section_length : (before ds : List Decl) → length (scoped_under before ds) ≡ length ds
section_length before ds = length-map ds (tree_under (variables_under before))
