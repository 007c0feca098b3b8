-- Declarations in lists, with their numbers.
use Rattle.std.proofs.Common.{◌≡◌, ◌<◌, ◌≤◌, ◌+◌, ◌++◌, ℕ, zero, suc, List, [], ◌∷◌, map, take, drop, length, get_or, refl, sym, ap, ap₂, ◌∙◌, subst, arith, append_assoc}
use Rattle.std.specs.Prelude.{Option, Some, None, option_map}
use Rattle.std.specs.Option.{option_or}
use Rattle.std.specs.List.{AllByRecursion, flat_map}
use Rattle.std.proofs.lemmas.Grind.{flat_map-append}
use Rattle.std.proofs.lemmas.List.{length-map, take_more, map-append, append-nil}
use Rattle.std.proofs.lemmas.Simd.{map-map}
use Rattle.std.proofs.lemmas.Option.{none-some, same_Some}
use Rattle.sort_table.specs.BareDeclarations as bare
use Rattle.sort_table.specs.BareDeclarations.{Declaration, initial, declarations_in}
use Rattle.sort_table.specs.BareProcesses.{Variables, Process}
use Rattle.sort_table.specs.BareSorts.{SortExpression}
use Rattle.sort_table.specs.DeclarationTrees.{declaration_of}
use Rattle.sort_table.specs.Expressions.{Name}
use Rattle.mcrl2_syntax.specs.declared.declaration.Decl.{Decl}
use Rattle.sort_checker.specs.declared.scoped_declarations.ScopedDecl.{ScopedDecl}
use Rattle.mcrl2_syntax.proofs.Lists.{all_front, all_back}
use Rattle.sort_checker.specs.Elaborations.{WrittenEquation}
use Rattle.sort_checker.specs.FullVocabularies.{Written, process_by, processes_in}
use Rattle.sort_checker.specs.Parts.{ScopedDeclaration, variables_by, scoped_behind, scoped_declarations}
use Rattle.sort_checker.specs.Refusals.{first_from}
use Rattle.sort_checker.specs.ScopedTrees.{scoped_item, scoped_items, variables_under}
use Rattle.sort_checker.specs.Systems.{initial_by}
use Rattle.sort_checker.proofs.ReadyLeaves.{holds_along}
use Rattle.sort_checker.specs.ElaboratedTexts.{equations_by, numbered_from, processes_at, numbered_processes, initial_in, declarations_listed}

-- ---- one more
module _ {A B : Type 0} (f : A → List B) where
  pub flat_more : (xs : List A) (x : A) → flat_map f (xs ++ x ∷ []) ≡ flat_map f xs ++ f x
  flat_more xs x = flat_map-append f xs (x ∷ []) ∙ ap (λ ys. flat_map f xs ++ ys) (append-nil (f x))

pub items_more : (ds : List ScopedDecl) (i : ℕ) (d : ScopedDecl) → i < length ds → d ≡ get_or ds i d → scoped_items (take (i + 1) ds) ≡ scoped_items (take i ds) ++ scoped_item d ∷ []
items_more ds i d l is = ap scoped_items (take_more ds i d l) ∙ (map-append scoped_item (take i ds) (get_or ds i d ∷ []) ∙ ap (λ (x : ScopedDecl). scoped_items (take i ds) ++ scoped_item x ∷ []) (sym is))

pub listed_more : (ds : List ScopedDecl) (i : ℕ) (d : ScopedDecl) → i < length ds → d ≡ get_or ds i d → declarations_listed (take (i + 1) ds) ≡ declarations_listed (take i ds) ++ declaration_of d.declaration.now ∷ []
listed_more ds i d l is = ap (map (λ (x : ScopedDeclaration). x.declaration)) (items_more ds i d l is) ∙ map-append (λ (x : ScopedDeclaration). x.declaration) (scoped_items (take i ds)) (scoped_item d ∷ [])

-- ---- numbers
numbered_more : {A : Type 0} (k : ℕ) (xs : List A) (x : A) → numbered_from k (xs ++ x ∷ []) ≡ numbered_from k xs ++ (k + length xs, x) ∷ []
numbered_more k [] x = let same : k ≡ k + 0 = omega arith in ap (λ n. (n, x) ∷ []) same
numbered_more k (y ∷ xs) x = let same : suc k + length xs ≡ k + suc (length xs) = omega arith in ap (λ rs. (k, y) ∷ rs) (numbered_more (suc k) xs x ∙ ap (λ n. numbered_from (suc k) xs ++ (n, x) ∷ []) same)

pub numbered_processes_more : (k : ℕ) (ds : List Declaration) (d : Declaration) → numbered_processes k (ds ++ d ∷ []) ≡ numbered_processes k ds ++ processes_at (k + length ds, d)
numbered_processes_more k ds d = ap (flat_map processes_at) (numbered_more k ds d) ∙ flat_more processes_at (numbered_from k ds) (k + length ds, d)

take_length : {A : Type 0} (i : ℕ) (xs : List A) → i ≤ length xs → length (take i xs) ≡ i
take_length zero xs l = refl
take_length (suc i) [] l = let never : ⊥ = omega (arith, l) in absurd never
take_length (suc i) (x ∷ xs) l = ap suc (take_length i xs (omega (arith, l)))

pub listed_length : (i : ℕ) (ds : List ScopedDecl) → i ≤ length ds → length (declarations_listed (take i ds)) ≡ i
listed_length i ds l = length-map (scoped_items (take i ds)) (λ (x : ScopedDeclaration). x.declaration) ∙ (length-map (take i ds) scoped_item ∙ take_length i ds l)

-- without the numbers
of_number : (n : ℕ) (ws : List Written) → map (λ (r : ℕ × Written). r.1) (map (λ (w : Written). (n, w)) ws) ≡ ws
of_number n [] = refl
of_number n (w ∷ ws) = ap (λ us. w ∷ us) (of_number n ws)

pub without_numbers : (k : ℕ) (ds : List Declaration) → map (λ (r : ℕ × Written). r.1) (numbered_processes k ds) ≡ processes_in ds
without_numbers k [] = refl
without_numbers k (d ∷ ds) =
    map-append (λ (r : ℕ × Written). r.1) (processes_at (k, d)) (numbered_processes (suc k) ds)
    ∙ ap₂ (λ (ws us : List Written). ws ++ us) (of_number k (process_by d)) (without_numbers (suc k) ds)

-- ---- the declarations of sections
under_same : (xs : Variables) (ds : List Declaration) → map (λ (x : ScopedDeclaration). x.declaration) (map (λ d. record { variables = xs; declaration = d }) ds) ≡ ds
under_same xs [] = refl
under_same xs (d ∷ ds) = ap (λ es. d ∷ es) (under_same xs ds)

scoped_are : (xs : Variables) (ss : List bare.Section) → map (λ (x : ScopedDeclaration). x.declaration) (scoped_behind xs ss) ≡ declarations_in ss
scoped_are xs [] = refl
scoped_are xs (s ∷ ss) =
    map-append (λ (x : ScopedDeclaration). x.declaration) (map (λ d. record { variables = xs; declaration = d }) s.declarations) (scoped_behind (flat_map variables_by s.declarations) ss)
    ∙ ap₂ (λ (ds es : List Declaration). ds ++ es) (under_same xs s.declarations) (scoped_are (flat_map variables_by s.declarations) ss)

pub all_declarations : (ss : List bare.Section) → map (λ (x : ScopedDeclaration). x.declaration) (scoped_declarations ss) ≡ declarations_in ss
all_declarations ss = scoped_are [] ss

-- ---- `init`
option_as_list : (d : Declaration) → (p : Process) → initial_in d ≡ Some p → initial_by d ≡ p ∷ []
option_as_list (initial q) p e = ap (λ x. x ∷ []) (same_Some q p e)
option_as_list (bare.sorts ns) p e = absurd (none-some p e)
option_as_list (bare.alias n s) p e = absurd (none-some p e)
option_as_list (bare.struct n cs) p e = absurd (none-some p e)
option_as_list (bare.constructors fs es to) p e = absurd (none-some p e)
option_as_list (bare.mappings fs es to) p e = absurd (none-some p e)
option_as_list (bare.variables xs) p e = absurd (none-some p e)
option_as_list (bare.equation c l r) p e = absurd (none-some p e)
option_as_list (bare.actions as_ es) p e = absurd (none-some p e)
option_as_list (bare.process n xs q) p e = absurd (none-some p e)

none_as_list : (d : Declaration) → initial_in d ≡ None → initial_by d ≡ []
none_as_list (initial q) e = absurd (none-some q (sym e))
none_as_list (bare.sorts ns) e = refl
none_as_list (bare.alias n s) e = refl
none_as_list (bare.struct n cs) e = refl
none_as_list (bare.constructors fs es to) e = refl
none_as_list (bare.mappings fs es to) e = refl
none_as_list (bare.variables xs) e = refl
none_as_list (bare.equation c l r) e = refl
none_as_list (bare.actions as_ es) e = refl
none_as_list (bare.process n xs q) e = refl

first_of_list : {A : Type 0} (x y : A) (xs ys : List A) → x ∷ xs ≡ y ∷ ys → x ≡ y
first_of_list x y xs ys e = cc

-- the one `init` is the first one
pub one_is_first : (k : ℕ) (ds : List Declaration) (p : Process) → flat_map initial_by ds ≡ p ∷ [] → (n : ℕ) × (first_from initial_in k ds ≡ Some (n, p))
one_is_first k [] p e = let never : ⊥ = cc in absurd never
one_is_first k (d ∷ ds) p e = by_form (one_is_first (suc k) ds p) (initial_in d) refl
  where
    by_form : (flat_map initial_by ds ≡ p ∷ [] → (n : ℕ) × (first_from initial_in (suc k) ds ≡ Some (n, p))) → (o : Option Process) → initial_in d ≡ o → (n : ℕ) × (option_or (option_map (λ q. (k, q)) (initial_in d)) (first_from initial_in (suc k) ds) ≡ Some (n, p))
    by_form later (Some q) is =
        let same : q ≡ p = first_of_list q p (flat_map initial_by ds) [] (ap (λ xs. xs ++ flat_map initial_by ds) (sym (option_as_list d q is)) ∙ e) in
        (k, ap (λ (o : Option Process). option_or (option_map (λ x. (k, x)) o) (first_from initial_in (suc k) ds)) is ∙ ap (λ x. Some (k, x)) same)
    by_form later None is =
        let rest = later (ap (λ xs. xs ++ flat_map initial_by ds) (sym (none_as_list d is)) ∙ e) in
        (rest.0, ap (λ (o : Option Process). option_or (option_map (λ x. (k, x)) o) (first_from initial_in (suc k) ds)) is ∙ rest.1)

-- what holds of all of a text holds of the first
pub first_holds : (P : Process → Type 0) (k : ℕ) (ds : List Declaration) → AllByRecursion P (flat_map initial_by ds) → (n : ℕ) (p : Process) → first_from initial_in k ds ≡ Some (n, p) → P p
first_holds P k [] all n p e = absurd (none-some (n, p) e)
first_holds P k (d ∷ ds) all n p e = by_form (λ a f. first_holds P (suc k) ds a n p f) (initial_in d) refl
  where
    by_form : (AllByRecursion P (flat_map initial_by ds) → first_from initial_in (suc k) ds ≡ Some (n, p) → P p) → (o : Option Process) → initial_in d ≡ o → P p
    by_form later (Some q) is =
        let same : (k, q) ≡ (n, p) = same_Some (k, q) (n, p) (ap (λ (o : Option Process). option_or (option_map (λ x. (k, x)) o) (first_from initial_in (suc k) ds)) (sym is) ∙ e) in
        let here : AllByRecursion P (q ∷ flat_map initial_by ds) = subst (λ xs. AllByRecursion P (xs ++ flat_map initial_by ds)) (option_as_list d q is) all in
        subst P (ap (λ (r : ℕ × Process). r.1) same) here.0
    by_form later None is =
        later (subst (λ xs. AllByRecursion P (xs ++ flat_map initial_by ds)) (none_as_list d is) all) (ap (λ (o : Option Process). option_or (option_map (λ x. (k, x)) o) (first_from initial_in (suc k) ds)) (sym is) ∙ e)

-- ---- variables
abbrev variables_of : Decl → Variables
variables_of d = variables_by (declaration_of d)

under_flat : (ds : List Decl) → variables_under ds ≡ flat_map variables_of ds
under_flat [] = refl
under_flat (d ∷ ds) = ap (λ (xs : Variables). variables_of d ++ xs) (under_flat ds)

pub variables_more : (ds : List Decl) (i : ℕ) (d : Decl) → i < length ds → d ≡ get_or ds i d → variables_under (take (i + 1) ds) ≡ variables_under (take i ds) ++ variables_by (declaration_of d)
variables_more ds i d l is =
    under_flat (take (i + 1) ds)
    ∙ (ap (flat_map variables_of) (take_more ds i d l) ∙ (flat_more variables_of (take i ds) (get_or ds i d) ∙ ap₂ (λ (xs : Variables) (x : Decl). xs ++ variables_of x) (sym (under_flat (take i ds))) (sym is)))

pub variables_part : (P : Name × SortExpression → Type 0) (ds : List Decl) (i : ℕ) (d : Decl) → i < length ds → d ≡ get_or ds i d → AllByRecursion P (variables_under ds) → AllByRecursion P (variables_by (declaration_of d))
variables_part P ds i d l is all = holds_along variables_of P ds (subst (AllByRecursion P) (under_flat ds) all) i d l is

-- ---- equations
pub equations_more : (ds : List ScopedDecl) (i : ℕ) (d : ScopedDecl) → i < length ds → d ≡ get_or ds i d → flat_map equations_by (scoped_items (take (i + 1) ds)) ≡ flat_map equations_by (scoped_items (take i ds)) ++ equations_by (scoped_item d)
equations_more ds i d l is = ap (flat_map equations_by) (items_more ds i d l is) ∙ flat_more equations_by (scoped_items (take i ds)) (scoped_item d)

pub equations_part : (P : WrittenEquation → Type 0) (ds : List ScopedDecl) (i : ℕ) (d : ScopedDecl) → i < length ds → d ≡ get_or ds i d → AllByRecursion P (flat_map equations_by (scoped_items ds)) → AllByRecursion P (equations_by (scoped_item d))
equations_part P [] i d l is all = let never : ⊥ = omega (arith, l) in absurd never
equations_part P (x ∷ ds) zero d l is all = subst (λ (y : ScopedDecl). AllByRecursion P (equations_by (scoped_item y))) (sym is) (all_front P (equations_by (scoped_item x)) (flat_map equations_by (scoped_items ds)) all)
equations_part P (x ∷ ds) (suc i) d l is all = equations_part P ds i d (omega (arith, l)) is (all_back P (equations_by (scoped_item x)) (flat_map equations_by (scoped_items ds)) all)

pub processes_part : (P : Written → Type 0) (ds : List ScopedDecl) (i : ℕ) (d : ScopedDecl) → i < length ds → d ≡ get_or ds i d → AllByRecursion P (processes_in (declarations_listed ds)) → AllByRecursion P (process_by (declaration_of d.declaration.now))
processes_part P [] i d l is all = let never : ⊥ = omega (arith, l) in absurd never
processes_part P (x ∷ ds) zero d l is all = subst (λ (y : ScopedDecl). AllByRecursion P (process_by (declaration_of y.declaration.now))) (sym is) (all_front P (process_by (declaration_of x.declaration.now)) (processes_in (declarations_listed ds)) all)
processes_part P (x ∷ ds) (suc i) d l is all = processes_part P ds i d (omega (arith, l)) is (all_back P (process_by (declaration_of x.declaration.now)) (processes_in (declarations_listed ds)) all)

-- ---- the first `init`
module _ {D A : Type 0} (f : D → Option A) where
  first_behind : (k : ℕ) (ds es : List D) → first_from f k ds ≡ None → first_from f k (ds ++ es) ≡ first_from f (k + length ds) es
  first_behind k [] es none = let same : k ≡ k + 0 = omega arith in ap (λ n. first_from f n es) same
  first_behind k (d ∷ ds) es none =
      let both = neither (option_map (λ a. (k, a)) (f d)) (first_from f (suc k) ds) none in
      let same : suc k + length ds ≡ k + suc (length ds) = omega arith in
      ap (λ o. option_or o (first_from f (suc k) (ds ++ es))) both.0 ∙ (first_behind (suc k) ds es both.1 ∙ ap (λ n. first_from f n es) same)
    where
      neither : (o p : Option (ℕ × A)) → option_or o p ≡ None → (o ≡ None) × (p ≡ None)
      neither None p h = (refl, h)
      neither (Some x) p h = absurd (none-some x (sym h))

rest_of : (ds : List ScopedDecl) (i : ℕ) (d : ScopedDecl) → i < length ds → d ≡ get_or ds i d → declarations_listed ds ≡ declarations_listed (take i ds) ++ (declaration_of d.declaration.now ∷ declarations_listed (drop (suc i) ds))
rest_of [] i d l is = let never : ⊥ = omega (arith, l) in absurd never
rest_of (x ∷ ds) zero d l is = ap (λ (y : ScopedDecl). declaration_of y.declaration.now ∷ declarations_listed ds) (sym is)
rest_of (x ∷ ds) (suc i) d l is = ap (λ es. declaration_of x.declaration.now ∷ es) (rest_of ds i d (omega (arith, l)) is)

module _ (ds : List ScopedDecl) (i : ℕ) (d : ScopedDecl) (l : i < length ds) (is : d ≡ get_or ds i d) (none : first_from initial_in 1 (declarations_listed (take i ds)) ≡ None) where
  number_here : 1 + length (declarations_listed (take i ds)) ≡ i + 1
  number_here = let same = listed_length i ds (let within : i ≤ length ds = omega (arith, l) in within) in omega (arith, same)

  pub first_here : (p : Process) → initial_in (declaration_of d.declaration.now) ≡ Some p → first_from initial_in 1 (declarations_listed ds) ≡ Some (i + 1, p)
  first_here p it =
      ap (first_from initial_in 1) (rest_of ds i d l is)
      ∙ (first_behind initial_in 1 (declarations_listed (take i ds)) (declaration_of d.declaration.now ∷ declarations_listed (drop (suc i) ds)) none
      ∙ (ap (λ (o : Option Process). option_or (option_map (λ a. (1 + length (declarations_listed (take i ds)), a)) o) (first_from initial_in (suc (1 + length (declarations_listed (take i ds)))) (declarations_listed (drop (suc i) ds)))) it
      ∙ ap (λ (n : ℕ). Some (n, p)) number_here))

  pub first_not_here : initial_in (declaration_of d.declaration.now) ≡ None → first_from initial_in 1 (declarations_listed (take (i + 1) ds)) ≡ None
  first_not_here it =
      ap (first_from initial_in 1) (listed_more ds i d l is)
      ∙ (first_behind initial_in 1 (declarations_listed (take i ds)) (declaration_of d.declaration.now ∷ []) none
      ∙ ap (λ (o : Option Process). option_or (option_map (λ a. (1 + length (declarations_listed (take i ds)), a)) o) None) it)
