-- What is assigned in a call, in code.
use Rattle.std.proofs.Common.{◌≡◌, ◌<◌, ◌+◌, ℕ, suc, Bool, true, false, not, cond, ◌&&◌, ◌||◌, List, [], ◌∷◌, ◌++◌, length, map, take, drop, get_or, refl, sym, ap, ap₂, ◌∙◌, subst}
use Rattle.std.specs.Prelude.{Option, Some, None, IfSome, is_some, is_none, option_map, option_and_then, bytes_eq}
use Rattle.std.specs.BTreeMap.{BTreeMap, IsEmpty, is_at}
use Rattle.std.specs.Cmp.Lexicographic.{slice_cmp}
use Rattle.std.specs.Map.{lookup}
use Rattle.std.specs.Ordering.{nat_cmp}
use Rattle.std.proofs.lemmas.Option.{none-some, same_Some}
use Rattle.std.proofs.lemmas.Slice.Eq.{bytes_eq-Decides}
use denote.Ref.{Bor}
use Rattle.mcrl2_syntax.specs.declared.process_tree.Assignment.{Assignment}
use Rattle.mcrl2_syntax.specs.DataTrees.{plain_data}
use Rattle.data_theory.specs.Signature.{Sig}
use Rattle.data_theory.specs.Terms.{Sort}
use Rattle.sort_table.specs.BareData.{bare_data}
use Rattle.sort_table.specs.Expressions.{Name, Expression}
use Rattle.sort_table.specs.NamedLists.{first_named}
use Rattle.sort_table.proofs.Searches.{IsListed, listed_more, split_map}
use Rattle.data_typing.specs.declared.nodes.Reading.{Reading}
use Rattle.data_typing.specs.Contexts.{IsRead, IsReadingOf}
use Rattle.data_typing.specs.Typings.{Typing}
use Rattle.sort_checker.specs.declared.text_contexts.TextContext.{TextContext}
use Rattle.sort_checker.specs.declared.variable_scopes.VariableScope.{VariableScope}
use Rattle.sort_checker.specs.FreeTrees.{assigned}
use Rattle.sort_checker.specs.Operators.{stands_in, first_again}
use Rattle.sort_checker.specs.PartTypings.{assigned_names}
use Rattle.sort_checker.specs.ScopeLaws.{Both, neither, both}
use Rattle.sort_checker.specs.TypedTrees.{typing_of, value_under, HasValues, value_checks}
use Rattle.sort_checker.proofs.NameLists.{any_append}
use Rattle.sort_checker.proofs.RelatedTypings.{same_some}

-- ---- names that stand again
differs_back : (x y : Name) → bytes_eq y x ≡ false → bytes_eq x y ≡ false
differs_back x y h = by_test (bytes_eq x y) refl
  where
    by_test : (b : Bool) → bytes_eq x y ≡ b → bytes_eq x y ≡ false
    by_test false e = e
    by_test true e = let never : true ≡ false = sym ((bytes_eq-Decides y x).1 (sym ((bytes_eq-Decides x y).0 e))) ∙ h in cc

-- a name that stands in front stands again
pub again_behind : (x : Name) (xs ys : List Name) → stands_in x xs ≡ true → is_none (first_again (xs ++ x ∷ ys)) ≡ false
again_behind x [] ys h = let never : false ≡ true = h in absurd cc
again_behind x (y ∷ xs) ys h = by_test (bytes_eq y x) refl h (again_behind x xs ys)
  where
    either_way : (b : Bool) → is_none (first_again (xs ++ x ∷ ys)) ≡ false → is_none (cond b (Some y) (first_again (xs ++ x ∷ ys))) ≡ false
    either_way true k = refl
    either_way false k = k

    or_true : (b : Bool) → (b || true) ≡ true
    or_true true = refl
    or_true false = refl

    same_there : bytes_eq y x ≡ true → stands_in y (xs ++ x ∷ ys) ≡ true
    same_there e =
        let back : bytes_eq x y ≡ true = (bytes_eq-Decides x y).1 (sym ((bytes_eq-Decides y x).0 e)) in
        any_append (λ z. bytes_eq z y) xs (x ∷ ys) ∙ (ap (λ (b : Bool). stands_in y xs || (b || stands_in y ys)) back ∙ or_true (stands_in y xs))

    by_test : (b : Bool) → bytes_eq y x ≡ b → (b || stands_in x xs) ≡ true → (stands_in x xs ≡ true → is_none (first_again (xs ++ x ∷ ys)) ≡ false) → is_none (first_again (y ∷ (xs ++ x ∷ ys))) ≡ false
    by_test true e k later = ap (λ (b : Bool). is_none (cond b (Some y) (first_again (xs ++ x ∷ ys)))) (same_there e)
    by_test false e k later = either_way (stands_in y (xs ++ x ∷ ys)) (later k)

-- one that doesn't stand in front
pub none_again : (x : Name) (xs : List Name) → is_none (first_again xs) ≡ true → stands_in x xs ≡ false → is_none (first_again (xs ++ x ∷ [])) ≡ true
none_again x [] h k = refl
none_again x (y ∷ xs) h k = by_tests (stands_in y xs) refl h (bytes_eq y x) refl k (none_again x xs)
  where
    by_tests : (a : Bool) → stands_in y xs ≡ a → is_none (cond a (Some y) (first_again xs)) ≡ true → (b : Bool) → bytes_eq y x ≡ b → (b || stands_in x xs) ≡ false
        → (is_none (first_again xs) ≡ true → stands_in x xs ≡ false → is_none (first_again (xs ++ x ∷ [])) ≡ true) → is_none (first_again (y ∷ (xs ++ x ∷ []))) ≡ true
    by_tests true e i b d j later = let never : false ≡ true = i in absurd cc
    by_tests false e i true d j later = let never : true ≡ false = j in absurd cc
    by_tests false e i false d j later =
        ap (λ (c : Bool). is_none (cond c (Some y) (first_again (xs ++ x ∷ []))))
        (any_append (λ z. bytes_eq z y) xs (x ∷ []) ∙ ap₂ (λ (p q : Bool). p || (q || false)) e (differs_back x y d))
        ∙ later i j

-- ---- names and values of assignments
abbrev pub name_at : Assignment → Name
name_at a = a.name.bytes.items

abbrev row_at : Assignment → Name × Expression
row_at a = (a.name.bytes.items, bare_data (plain_data a.value))

assigned_listed : IsListed assigned (λ (a : Assignment). row_at a ∷ [])
assigned_listed = record { of_none = refl; of_more = λ a as_. refl }

pub names_assigned : (ds : List Assignment) → assigned_names (assigned ds) ≡ map name_at ds
names_assigned [] = refl
names_assigned (d ∷ ds) = ap (λ (ns : List Name). name_at d ∷ ns) (names_assigned ds)

stands_assigned : (x : Name) (ds : List (Name × Expression)) → stands_in x (assigned_names ds) ≡ is_some (first_named x ds)
stands_assigned x [] = refl
stands_assigned x (d ∷ ds) = by_test (bytes_eq d.0 x) (stands_assigned x ds)
  where
    by_test : (b : Bool) → stands_in x (assigned_names ds) ≡ is_some (first_named x ds) → (b || stands_in x (assigned_names ds)) ≡ is_some (cond b (Some d.1) (first_named x ds))
    by_test true later = refl
    by_test false later = later

named_last : (x m : Name) (e : Expression) (ds : List (Name × Expression)) → bytes_eq m x ≡ false → first_named x (ds ++ (m, e) ∷ []) ≡ first_named x ds
named_last x m e [] h = ap (λ (b : Bool). cond b (Some e) None) h
named_last x m e (d ∷ ds) h = ap (λ (o : Option Expression). cond (bytes_eq d.0 x) (Some d.1) o) (named_last x m e ds h)

named_new : (x : Name) (e : Expression) (ds : List (Name × Expression)) → first_named x ds ≡ None → first_named x (ds ++ (x, e) ∷ []) ≡ Some e
named_new x e [] h = ap (λ (b : Bool). cond b (Some e) None) ((bytes_eq-Decides x x).1 refl)
named_new x e (d ∷ ds) h = by_test (bytes_eq d.0 x) h (named_new x e ds)
  where
    by_test : (b : Bool) → cond b (Some d.1) (first_named x ds) ≡ None → (first_named x ds ≡ None → first_named x (ds ++ (x, e) ∷ []) ≡ Some e) → cond b (Some d.1) (first_named x (ds ++ (x, e) ∷ [])) ≡ Some e
    by_test true k later = absurd (none-some d.1 (sym k))
    by_test false k later = later k

-- ---- what is looked up
other_absent : {A B : Type 0} {R : A → B → Type 0} {o : Option A} {p : Option B} → Both R o p → o ≡ None → p ≡ None
other_absent neither e = refl
other_absent (both {x = x} r) e = absurd (none-some x (sym e))

other_there : {A B : Type 0} {R : A → B → Type 0} {o : Option A} {p : Option B} (x : A) → Both R o p → o ≡ Some x → (y : B) × (p ≡ Some y) × R x y
other_there x neither e = absurd (none-some x e)
other_there {R = R} x (both {x = z} {y = y} r) e = (y, refl, subst (λ a. R a y) (same_Some z x e) r)

no_value : {A : Type 0} (o : Option (Bor A)) (p : Option A) → option_map (λ v. v.now) o ≡ p → is_some o ≡ false → p ≡ None
no_value None p told none = sym told
no_value (Some x) p told none = let never : true ≡ false = none in absurd cc

some_value : {A : Type 0} (o : Option (Bor A)) (p : Option A) → option_map (λ v. v.now) o ≡ p → is_some o ≡ true → is_some p ≡ true
some_value None p told some = let never : false ≡ true = some in absurd cc
some_value (Some x) p told some = ap is_some (sym told)

module _ (c : TextContext) (s : VariableScope) where
  abbrev Reads : Reading → Expression → Type 0
  Reads r e = IsReadingOf c.sig.now r (typing_of c s e)

  pub values_are_read : (ds : List (Name × Expression)) (m : BTreeMap (Bor Name) Reading) → HasValues c s ds m → (x : Name) → IfSome (value_under m x) IsRead
  values_are_read ds m has x = of_both (has x)
    where
      of_both : {o : Option Reading} {p : Option Expression} → Both Reads o p → IfSome o IsRead
      of_both neither = tt
      of_both (both r) = r.over.read

  -- a name to which something is assigned already
  pub assigned_again : (ds : List Assignment) (i : ℕ) (a : Assignment) (m : BTreeMap (Bor Name) Reading) (x : Name) (o : Option (Bor Reading)) → i < length ds → a ≡ get_or ds i a → HasValues c s (assigned (take i ds)) m → x ≡ name_at a
      → option_map (λ v. v.now) o ≡ value_under m x → is_some o ≡ true → false ≡ is_none (first_again (assigned_names (assigned ds)))
  assigned_again ds i a m x o l e has named told some =
      let there : is_some (first_named x (assigned (take i ds))) ≡ true = sym (same_some (has x)) ∙ some_value o (value_under m x) told some in
      let stands : stands_in (name_at a) (map name_at (take i ds)) ≡ true = ap₂ stands_in (sym named) (sym (names_assigned (take i ds))) ∙ (stands_assigned x (assigned (take i ds)) ∙ there) in
      sym (ap (λ (ns : List Name). is_none (first_again ns)) (names_assigned ds ∙ split_map name_at ds i a l e) ∙ again_behind (name_at a) (map name_at (take i ds)) (map name_at (drop (suc i) ds)) stands)

  -- one value more
  module _ (ds : List Assignment) (i : ℕ) (a : Assignment) (l : i < length ds) (e : a ≡ get_or ds i a) (m n : BTreeMap (Bor Name) Reading) (has : HasValues c s (assigned (take i ds)) m) (x : Name) (named : x ≡ name_at a)
      (o : Option (Bor Reading)) (told : option_map (λ v. v.now) o ≡ value_under m x) (none : is_some o ≡ false) where
    absent : first_named x (assigned (take i ds)) ≡ None
    absent = other_absent (has x) (no_value o (value_under m x) told none)

    pub once_more : is_none (first_again (assigned_names (assigned (take i ds)))) ≡ true → is_none (first_again (assigned_names (assigned (take (i + 1) ds)))) ≡ true
    once_more once =
        let new : stands_in (name_at a) (assigned_names (assigned (take i ds))) ≡ false = ap (λ (z : Name). stands_in z (assigned_names (assigned (take i ds)))) (sym named) ∙ (stands_assigned x (assigned (take i ds)) ∙ ap is_some absent) in
        ap (λ (ns : List Name). is_none (first_again ns)) (listed_more (λ (bs : List Assignment). assigned_names (assigned bs)) (λ (b : Assignment). name_at b ∷ []) (record { of_none = refl; of_more = λ b bs. refl }) ds i a l e)
        ∙ none_again (name_at a) (assigned_names (assigned (take i ds))) once new

    pub value_more : (r : Reading) → Reads r (bare_data (plain_data a.value)) → ((y : Name) → value_under n y ≡ cond (bytes_eq x y) (Some r) (value_under m y)) → HasValues c s (assigned (take (i + 1) ds)) n
    value_more r reads put y = subst (λ (rows : List (Name × Expression)). Both Reads (value_under n y) (first_named y rows)) (sym rows_are) (subst (λ (p : Option Reading). Both Reads p (first_named y (assigned (take i ds) ++ (x, bare_data (plain_data a.value)) ∷ []))) (sym (put y)) (by_test (bytes_eq x y) refl))
      where
        rows_are : assigned (take (i + 1) ds) ≡ assigned (take i ds) ++ (x, bare_data (plain_data a.value)) ∷ []
        rows_are = listed_more assigned (λ (b : Assignment). row_at b ∷ []) assigned_listed ds i a l e ∙ ap (λ (z : Name). assigned (take i ds) ++ (z, bare_data (plain_data a.value)) ∷ []) (sym named)

        by_test : (b : Bool) → bytes_eq x y ≡ b → Both Reads (cond b (Some r) (value_under m y)) (first_named y (assigned (take i ds) ++ (x, bare_data (plain_data a.value)) ∷ []))
        by_test true is =
            let same : x ≡ y = (bytes_eq-Decides x y).0 is in
            subst (λ (p : Option Expression). Both Reads (Some r) p) (sym (ap (λ (z : Name). first_named z (assigned (take i ds) ++ (x, bare_data (plain_data a.value)) ∷ [])) (sym same) ∙ named_new x (bare_data (plain_data a.value)) (assigned (take i ds)) absent)) (both reads)
        by_test false is = subst (λ (p : Option Expression). Both Reads (value_under m y) p) (sym (named_last y x (bare_data (plain_data a.value)) (assigned (take i ds)) is)) (has y)

  -- ---- whether a value checks
  module _ (ds : List (Name × Expression)) (m : BTreeMap (Bor Name) Reading) (has : HasValues c s ds m) (x : Name) (sort : Sort) (o : Option (Bor Reading)) (told : option_map (λ v. v.now) o ≡ value_under m x) where
    pub value_told : (r : Bor Reading) → o ≡ Some r → (b : Bool) → ((g : Sig) (t : Typing) → IsReadingOf g r.now t → b ≡ is_some (t.checks sort)) → b ≡ value_checks c s ds (x, sort)
    value_told r is b checks =
        let there = other_there r.now (has x) (sym told ∙ ap (option_map (λ v. v.now)) is) in
        checks c.sig.now (typing_of c s there.0) there.2
        ∙ (or_false (is_some ((typing_of c s there.0).checks sort))
        ∙ ap (λ (p : Option Expression). is_some (option_and_then (λ e. (typing_of c s e).checks sort) p) || is_none p) (sym there.1))
      where
        or_false : (d : Bool) → d ≡ (d || false)
        or_false true = refl
        or_false false = refl

-- before anything is assigned
pub no_values : (c : TextContext) (s : VariableScope) (m : BTreeMap (Bor Name) Reading) → IsEmpty m → HasValues c s [] m
no_values c s m empty x =
    let none : value_under m x ≡ None = ap (lookup (is_at (λ (k : Bor Name). slice_cmp nat_cmp x k.now))) empty in
    subst (λ (o : Option Reading). Both (λ r e. IsReadingOf c.sig.now r (typing_of c s e)) o None) (sym none) neither
