-- What the names of a text's sorts are declared as, and that the names that it uses have sorts.
use Rattle.std.proofs.Common.{◌≡◌, inl, inr, ℕ, zero, suc, Bool, true, false, cond, List, [], ◌∷◌, ◌++◌, map, refl, ap, sym, ◌∙◌, subst, arith}
use Rattle.std.specs.Prelude.{Some, None, not, is_some, bytes_eq, slice_get}
use Rattle.std.specs.List.{Contains, AllByRecursion, find, flat_map}
use Rattle.std.proofs.lemmas.Option.{none-some, same_Some}
use Rattle.std.proofs.lemmas.Slice.Eq.{bytes_eq-Decides}
use Rattle.data_theory.specs.Places.{HaveOnePlace}
use Rattle.data_theory.specs.Terms.{Sort}
use Rattle.data_theory.proofs.PlaceLemmas.{read_contained}
use Rattle.sort_table.specs.Expressions.{Name}
use Rattle.sort_table.specs.NamedLists.{first_named}
use Rattle.sort_table.specs.BareSorts.{SortExpression}
use Rattle.sort_table.specs.BareProcesses.{Variables, sums_in}
use Rattle.sort_table.specs.BareDeclarations.{Field, Constructor, Declaration, sorts, alias, struct, constructors, mappings, variables, equation, actions, process, initial}
use Rattle.sort_table.specs.SortMeanings.{Kind, alone, a_struct, equal_to, kinds_by, kinds_in, under_names}
use Rattle.sort_table.specs.UnknownSorts.{name_in, names_in, names_of_variables, names_of_fields, sorts_used, is_declared, HasKnownSorts, AllAreKnown}
use Rattle.sort_table.specs.UsedNames.{leaf_of}
use Rattle.sort_table.specs.SortCycles.{NoCycle}
use Rattle.sort_table.specs.NamedSorts.{HaveSortNames}
use Rattle.sort_table.specs.FunctionStates.{struct_name, structs_in}
use Rattle.sort_table.specs.Built.{sorts_of_variables, sorts_of_constructor, expressions_in}
use Rattle.sort_table.proofs.Growing.{contains_behind, contains_after, in_either}
use Rattle.sort_table.proofs.ListForms.{entry_found}
use Rattle.sort_table.proofs.NothingTwice.{names_of_kinds, mapped_at}
use Rattle.sort_table.proofs.StandingNames.{in_list, declared_names_stand}
use Rattle.sort_table.proofs.UsedNameLemmas.{its_leaf}

-- ---- joined lists
pub contains_flat : {A B : Type 0} (f : A → List B) (xs : List A) (x : A) (y : B) → Contains xs x → Contains (f x) y → Contains (flat_map f xs) y
contains_flat f [] x y c d = absurd (let low = c.1 in omega (arith, low))
contains_flat f (z ∷ xs) x y (zero, l, e) d = contains_behind (f z) (flat_map f xs) y (subst (λ w. Contains (f w) y) (sym e) d)
contains_flat f (z ∷ xs) x y (suc k, l, e) d = contains_after (f z) (flat_map f xs) y (contains_flat f xs x y (k, omega (arith, l), e) d)

pub flat_contains : {A B : Type 0} (f : A → List B) (xs : List A) (y : B) → Contains (flat_map f xs) y → (x : A) × Contains xs x × Contains (f x) y
flat_contains f [] y c = absurd (let low = c.1 in omega (arith, low))
flat_contains f (x ∷ xs) y c = elim (in_either (f x) (flat_map f xs) y c) [
  | inl here ↦ (x, (zero, omega arith, refl), here)
  | inr rest ↦ (let r = flat_contains f xs y rest in let low = r.1.1 in (r.0, (suc r.1.0, omega (arith, low), r.1.2), r.2))
]

pub mapped_contains : {A B : Type 0} (f : A → B) (xs : List A) (y : B) → Contains (map f xs) y → (x : A) × Contains xs x × (f x ≡ y)
mapped_contains f [] y c = absurd (let low = c.1 in omega (arith, low))
mapped_contains f (x ∷ xs) y (zero, l, e) = (x, (zero, omega arith, refl), e)
mapped_contains f (x ∷ xs) y (suc k, l, e) = (let r = mapped_contains f xs y (k, omega (arith, l), e) in let low = r.1.1 in (r.0, (suc r.1.0, omega (arith, low), r.1.2), r.2))

-- ---- the names that expressions use
module _ (e : SortExpression) (n : Name) (leaf : leaf_of e ≡ Some n) where
  in_this : (x : SortExpression) → x ≡ e → Contains (name_in x) n
  in_this x same = subst (λ ns. Contains ns n) (sym (ap name_in same ∙ its_leaf e n leaf)) (zero, omega arith, refl)

  in_these : (es : List SortExpression) → Contains es e → Contains (names_in es) n
  in_these es c = contains_flat name_in es e n c (in_this e refl)

  in_variables : (vs : Variables) → Contains (sorts_of_variables vs) e → Contains (names_of_variables vs) n
  in_variables vs c =
      let v = mapped_contains (λ (x : Name × SortExpression). x.1) vs e c in
      contains_flat (λ (x : Name × SortExpression). name_in x.1) vs v.0 n v.1 (in_this v.0.1 v.2)

  in_lists : (vss : List Variables) → Contains (flat_map sorts_of_variables vss) e → Contains (flat_map names_of_variables vss) n
  in_lists vss c = (let vs = flat_contains sorts_of_variables vss e c in contains_flat names_of_variables vss vs.0 n vs.1 (in_variables vs.0 vs.2))

  in_constructor : (c : Constructor) → Contains (sorts_of_constructor c) e → Contains (names_of_fields c) n
  in_constructor c among =
      let f = mapped_contains (λ (x : Field). x.sort) c.fields e among in
      contains_flat (λ (x : Field). name_in x.sort) c.fields f.0 n f.1 (in_this f.0.sort f.2)

  of_type : (es : List SortExpression) (to : SortExpression) → Contains (es ++ to ∷ []) e → Contains (names_in es ++ name_in to) n
  of_type es to c = elim (in_either es (to ∷ []) e c) [
    | inl among ↦ contains_behind (names_in es) (name_in to) n (in_these es among)
    | inr last ↦ contains_after (names_in es) (name_in to) n (in_this to (only last))
  ]
    where
      only : Contains (to ∷ []) e → to ≡ e
      only (zero, l, same) = same
      only (suc k, l, same) = absurd (omega (arith, l))

  used_by : (d : Declaration) → Contains (expressions_in d) e → Contains (sorts_used d) n
  used_by (sorts ns) c = absurd (let low = c.1 in omega (arith, low))
  used_by (alias m x) (zero, l, same) = in_this x same
  used_by (alias m x) (suc k, l, same) = absurd (omega (arith, l))
  used_by (struct m cs) c = (let k = flat_contains sorts_of_constructor cs e c in contains_flat names_of_fields cs k.0 n k.1 (in_constructor k.0 k.2))
  used_by (constructors fs es to) c = of_type es to c
  used_by (mappings fs es to) c = of_type es to c
  used_by (variables vs) c = in_variables vs c
  used_by (equation k l r) c = absurd (let low = c.1 in omega (arith, low))
  used_by (actions as_ es) c = in_these es c
  used_by (process p vs body) c = elim (in_either (sorts_of_variables vs) (flat_map sorts_of_variables (sums_in body)) e c) [
    | inl own ↦ contains_behind (names_of_variables vs) (flat_map names_of_variables (sums_in body)) n (in_variables vs own)
    | inr sum ↦ contains_after (names_of_variables vs) (flat_map names_of_variables (sums_in body)) n (in_lists (sums_in body) sum)
  ]
  used_by (initial body) c = in_lists (sums_in body) c

none_found : (p : Name → Bool) (ns : List Name) (n : Name) → find (λ m. not (p m)) ns ≡ None → Contains ns n → p n ≡ true
none_found p [] n none c = absurd (let low = c.1 in omega (arith, low))
none_found p (m ∷ ns) n none c = by_test (none_found p ns n) (p m) refl none c
  where
    by_test : (find (λ x. not (p x)) ns ≡ None → Contains ns n → p n ≡ true) → (b : Bool) → p m ≡ b → cond (not b) (Some m) (find (λ x. not (p x)) ns) ≡ None → Contains (m ∷ ns) n → p n ≡ true
    by_test later true is rest (zero, l, e) = ap p (sym e) ∙ is
    by_test later true is rest (suc k, l, e) = later rest (k, omega (arith, l), e)
    by_test later false is never d = absurd (none-some m (sym never))

holds_of : (P : Declaration → Type 0) (ds : List Declaration) (d : Declaration) → AllByRecursion P ds → Contains ds d → P d
holds_of P [] d all c = absurd (let low = c.1 in omega (arith, low))
holds_of P (x ∷ ds) d all (zero, l, e) = subst P e all.0
holds_of P (x ∷ ds) d all (suc k, l, e) = holds_of P ds d all.1 (k, omega (arith, l), e)

-- a name that an expression of the text uses is declared
pub leaf_declared : (ds : List Declaration) (e : SortExpression) (n : Name) → AllAreKnown ds → Contains (flat_map expressions_in ds) e → leaf_of e ≡ Some n → (k : Kind) × (first_named n (kinds_in ds) ≡ Some k)
leaf_declared ds e n known c leaf =
    let d = flat_contains expressions_in ds e c in
    entry_found (first_named n (kinds_in ds)) (none_found (is_declared ds) (sorts_used d.0) n (holds_of (HasKnownSorts ds) ds d.0 known d.1) (used_by e n leaf d.0 d.2))

-- a declared name has a sort
pub declared_named : (ds : List Declaration) (ns : List (Name × Sort)) (count : ℕ) → HaveSortNames (under_names ds) ns count → AllAreKnown ds → NoCycle ds → (n : Name) (k : Kind) → first_named n (kinds_in ds) ≡ Some k → (s : Sort) × (first_named n ns ≡ Some s)
declared_named ds ns count have known round n k is = (have.named n).1 (declared_names_stand ds known round n k is)

-- ---- what names are declared as
some_first : (ks : List (Name × Kind)) (n : Name) (k : Kind) → Contains ks (n, k) → is_some (first_named n ks) ≡ true
some_first [] n k c = absurd (let low = c.1 in omega (arith, low))
some_first (r ∷ ks) n k c = by_test (some_first ks n k) (bytes_eq r.0 n) refl c
  where
    by_test : (Contains ks (n, k) → is_some (first_named n ks) ≡ true) → (b : Bool) → bytes_eq r.0 n ≡ b → Contains (r ∷ ks) (n, k) → is_some (cond b (Some r.1) (first_named n ks)) ≡ true
    by_test later true is d = refl
    by_test later false is (zero, l, e) = (let told : true ≡ false = sym ((bytes_eq-Decides r.0 n).1 (ap (λ (x : Name × Kind). x.0) e)) ∙ is in cc)
    by_test later false is (suc i, l, e) = later (i, omega (arith, l), e)

-- where no name is declared twice, each is declared as what it says
pub one_kind : (ks : List (Name × Kind)) (n : Name) (k : Kind) → HaveOnePlace (names_of_kinds ks) → Contains ks (n, k) → first_named n ks ≡ Some k
one_kind ks n k differ c =
    let first = entry_found (first_named n ks) (some_first ks n k c) in
    let a = read_contained ks (n, k) c in
    let b = read_contained ks (n, first.0) (in_list n ks first.0 first.1) in
    let place : b.0 ≡ a.0 = differ b.0 a.0 n (mapped_at (λ (r : Name × Kind). r.0) ks b.0 (n, first.0) b.1) (mapped_at (λ (r : Name × Kind). r.0) ks a.0 (n, k) a.1) in
    let same : (n, first.0) ≡ (n, k) = same_Some (n, first.0) (n, k) (sym b.1 ∙ (ap (slice_get ks) place ∙ a.1)) in
    first.1 ∙ ap (λ (r : Name × Kind). Some r.1) same

nothing_there : {A : Type 0} {B : Type 0} (x : A) → Contains [] x → B
nothing_there x c = absurd (let low = c.1 in omega (arith, low))

no_struct_alone : (ns : List Name) (n : Name) → Contains {X = Name × Kind} (map (λ m. (m, alone)) ns) (n, a_struct) → ⊥
no_struct_alone [] n (k, l, e) = omega (arith, l)
no_struct_alone (m ∷ ns) n (zero, l, e) = let both : alone ≡ a_struct = ap (λ (r : Name × Kind). r.1) e in cc
no_struct_alone (m ∷ ns) n (suc k, l, e) = no_struct_alone ns n (k, omega (arith, l), e)

struct_by_kind : (d : Declaration) (n : Name) → Contains (kinds_by d) (n, a_struct) → Contains (struct_name d) n
struct_by_kind (sorts ns) n c = absurd (no_struct_alone ns n c)
struct_by_kind (alias m e) n (zero, l, same) = let both : equal_to e ≡ a_struct = ap (λ (r : Name × Kind). r.1) same in cc
struct_by_kind (alias m e) n (suc k, l, same) = absurd (omega (arith, l))
struct_by_kind (struct m cs) n (zero, l, same) = (zero, omega arith, ap (λ (r : Name × Kind). r.0) same)
struct_by_kind (struct m cs) n (suc k, l, same) = absurd (omega (arith, l))
struct_by_kind (constructors fs es to) n (k, l, same) = absurd (omega (arith, l))
struct_by_kind (mappings fs es to) n (k, l, same) = absurd (omega (arith, l))
struct_by_kind (variables vs) n (k, l, same) = absurd (omega (arith, l))
struct_by_kind (equation x y z) n (k, l, same) = absurd (omega (arith, l))
struct_by_kind (actions as_ es) n (k, l, same) = absurd (omega (arith, l))
struct_by_kind (process p vs body) n (k, l, same) = absurd (omega (arith, l))
struct_by_kind (initial body) n (k, l, same) = absurd (omega (arith, l))

kind_by_struct : (d : Declaration) (n : Name) → Contains (struct_name d) n → Contains (kinds_by d) (n, a_struct)
kind_by_struct (struct m cs) n (zero, l, same) = (zero, omega arith, (λ i. (same i, a_struct)))
kind_by_struct (struct m cs) n (suc k, l, same) = absurd (omega (arith, l))
kind_by_struct (sorts ns) n c = nothing_there n c
kind_by_struct (alias m e) n c = nothing_there n c
kind_by_struct (constructors fs es to) n c = nothing_there n c
kind_by_struct (mappings fs es to) n c = nothing_there n c
kind_by_struct (variables vs) n c = nothing_there n c
kind_by_struct (equation x y z) n c = nothing_there n c
kind_by_struct (actions as_ es) n c = nothing_there n c
kind_by_struct (process p vs body) n c = nothing_there n c
kind_by_struct (initial body) n c = nothing_there n c

-- a name is declared as a struct exactly where a struct has it
pub struct_declared : (ds : List Declaration) (n : Name) → first_named n (kinds_in ds) ≡ Some a_struct → Contains (structs_in ds) n
struct_declared ds n is =
    let d = flat_contains kinds_by ds (n, a_struct) (in_list n (kinds_in ds) a_struct is) in
    contains_flat struct_name ds d.0 n d.1 (struct_by_kind d.0 n d.2)

pub declared_struct : (ds : List Declaration) (n : Name) → HaveOnePlace (names_of_kinds (kinds_in ds)) → Contains (structs_in ds) n → first_named n (kinds_in ds) ≡ Some a_struct
declared_struct ds n differ c =
    let d = flat_contains struct_name ds n c in
    one_kind (kinds_in ds) n a_struct differ (contains_flat kinds_by ds d.0 (n, a_struct) d.1 (kind_by_struct d.0 n d.2))
