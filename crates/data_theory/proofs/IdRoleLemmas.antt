-- The roles of functions are kept.
use Rattle.std.proofs.Common.{◌≡◌, ◌<◌, ℕ, zero, suc, ◌⊎◌, inl, inr, List, [], ◌∷◌, ◌++◌, length, Some, None, refl, sym, ap, ◌∙◌, subst, arith}
use Rattle.std.specs.Prelude.{slice_get}
use Rattle.std.proofs.lemmas.List.Elements.{All-contains}
use Rattle.std.specs.List.{All, Contains}
use Rattle.std.proofs.lemmas.List.{take-append-le}
use Rattle.std.proofs.lemmas.Option.{slice_get_within}
use Rattle.data_theory.specs.declared.ids.NameId.{NameId}
use Rattle.data_theory.specs.declared.ids.SortId.{SortId}
use Rattle.data_theory.specs.declared.ids.FunId.{FunId}
use Rattle.data_theory.specs.Declarations.{Role, constructor, projection, recogniser}
use Rattle.data_theory.specs.Sorts as sorts
use Rattle.data_theory.specs.Sorts.{Kind, SortInfo, with_kind, IsBare, abstract_sort, list_sort, first_sorts}
use Rattle.data_theory.specs.Functions.{Function, declared_function}
use Rattle.data_theory.specs.Table.{bool_sort, sort_rows, list_table, first_table}
use Rattle.data_theory.specs.Signature.{Sig, first_signature}
use Rattle.data_theory.specs.declared.rows.Row.{Row}
use Rattle.data_theory.specs.Rows.{built_in, built_ins}
use Rattle.data_theory.specs.Names.{with_texts}
use Rattle.data_theory.specs.FirstNames.{first_names}
use Rattle.data_theory.specs.IdSymbols.{declared_from}
use Rattle.data_theory.specs.IdData.{constructors_of}
use Rattle.data_theory.specs.IdRoles.{IsDeclaredTo, IsDeclaredAs, declared_number, HasRole, constructs, projects, recognises, HaveRoles, TheFirstSignatureHasRoles, TextsKeepTheRoles, ActionsKeepTheRoles, VariablesKeepTheRoles, AliasesKeepTheRoles, ConstructorsKeepTheRoles, FunctionsKeepTheRoles, HasNoRole, NewFunctionsHaveNoRole, FunctionsGiveNoRole, DeclaredSortsGiveNoRole, ListSortsGiveNoRole, ConstructorsGiveNoRoleToOthers, DeclaredSortsKeepTheRoles, ListSortsKeepTheRoles, IsStructConstructor, AreRoles}
use Rattle.data_theory.proofs.PlaceLemmas.{pushed_by_place, read_front}
use Rattle.data_theory.proofs.FunctionLemmas.{read_mapped}
use Rattle.data_theory.proofs.IdTableLemmas.{read_joined}
use Rattle.std.proofs.lemmas.Bool.{cases_eq}
use Rattle.data_theory.proofs.ListSortLemmas.{kind_here, kind_elsewhere}

-- further functions don't change the number of a declared one
pub same_declared_number : (fs new : List Function) (c : FunId) (h : Function) → slice_get fs c.0 ≡ Some h → declared_number (fs ++ new) c ≡ declared_number fs c
same_declared_number fs new c h at = ap (λ l. length (declared_from 0 l)) (take-append-le c.0 fs new (omega (arith, slice_get_within fs c.0 h at)))

-- where functions without projections and recogniser come behind, and no constructor comes
module _ (ss ts : List SortInfo) (fs new : List Function) (roles : HaveRoles ss fs)
    (plain : (j : ℕ) (f : Function) → slice_get new j ≡ Some f → (f.projections ≡ []) × (f.test ≡ None))
    (stay : (s : SortId) (t : SortInfo) → slice_get ss s.0 ≡ Some t → slice_get ts s.0 ≡ Some t)
    (back : (s : SortId) (t : SortInfo) (c : FunId) → slice_get ts s.0 ≡ Some t → Contains (constructors_of t.kind) c → slice_get ss s.0 ≡ Some t) where
  abbrev all : List Function
  all = fs ++ new

  to_kept : (i : FunId) (to : SortId) → IsDeclaredTo fs i to → IsDeclaredTo all i to
  to_kept i to h = (h.0, read_front fs new i.0 h.0 h.1, h.2, h.3)

  as_kept : (i : FunId) (args : List SortId) (to : SortId) → IsDeclaredAs fs i args to → IsDeclaredAs all i args to
  as_kept i args to h = (h.0, read_front fs new i.0 h.0 h.1, h.2, h.3, h.4)

  struct_kept : (c : FunId) (s : SortId) → IsStructConstructor ss c s → IsStructConstructor ts c s
  struct_kept c s h = (h.0, h.1, stay s h.0 h.2, h.3, h.4)

  -- an entry with a projection or a recogniser is an old one
  old_entry : (c : FunId) (h : Function) → slice_get all c.0 ≡ Some h → ((h.projections ≡ []) × (h.test ≡ None) → ⊥) → slice_get fs c.0 ≡ Some h
  old_entry c h at some = elim (read_joined fs new c.0 h at) [ inl e ↦ e | inr e ↦ absurd (some (plain e.0 h e.2)) ]

  with_place : (c : FunId) (h : Function) (k : ℕ) (p : FunId) → slice_get all c.0 ≡ Some h → slice_get h.projections k ≡ Some (Some p) → slice_get fs c.0 ≡ Some h
  with_place c h k p at e = old_entry c h at (λ n. let z : None ≡ Some (Some p) = sym (ap (λ l. slice_get l k) n.0) ∙ e in cc)

  with_test : (c : FunId) (h : Function) (r : FunId) → slice_get all c.0 ≡ Some h → h.test ≡ Some r → slice_get fs c.0 ≡ Some h
  with_test c h r at e = old_entry c h at (λ n. let z : None ≡ Some r = sym n.1 ∙ e in cc)

  same_number : (c : FunId) (h : Function) → slice_get fs c.0 ≡ Some h → declared_number all c ≡ declared_number fs c
  same_number c h at = same_declared_number fs new c h at

  pub old_role : (i : FunId) (r : Role) → HasRole ts all i r → HasRole ss fs i r
  old_role i r (constructs s t at c) = constructs s t (back s t i at c) c
  old_role i r (projects c h k at p) = let o = with_place c h k i at p in subst (λ n. HasRole ss fs i (projection n k)) (sym (same_number c h o)) (projects c h k o p)
  old_role i r (recognises c h at t) = let o = with_test c h i at t in subst (λ n. HasRole ss fs i (recogniser n)) (sym (same_number c h o)) (recognises c h o t)

  pub roles_are_kept : HaveRoles ts all
  roles_are_kept = record {
    constructors = λ s t c at in'. to_kept c s (roles.constructors s t c (back s t c at in') in');
    projections = λ c p h k at e. let r = roles.projections c p h k (with_place c h k p at e) e in (struct_kept c h.result r.0, (r.1.0, r.1.1, as_kept p (h.result ∷ []) r.1.0 r.1.2));
    recognisers = λ c r h at e. let k = roles.recognisers c r h (with_test c h r at e) e in (struct_kept c h.result k.0, as_kept r (h.result ∷ []) bool_sort k.1);
    one_role = λ i q r a b. roles.one_role i q r (old_role i q a) (old_role i r b);
  }

nothing_in : {A : Type 0} (x : A) → Contains [] x → ⊥
nothing_in x c = omega (arith, c.1)

no_roles : (ss : List SortInfo) → ((s : SortId) (t : SortInfo) → slice_get ss s.0 ≡ Some t → constructors_of t.kind ≡ []) → HaveRoles ss []
no_roles ss bare = record {
  constructors = λ s t c at in'. absurd (nothing_in c (subst (λ l. Contains l c) (bare s t at) in'));
  projections = λ c p h k at e. cc;
  recognisers = λ c r h at e. cc;
  one_role = λ i q r a b. absurd (none i q a);
}
  where
    none : (i : FunId) (q : Role) → HasRole ss [] i q → ⊥
    none i q (constructs s t at c) = nothing_in i (subst (λ l. Contains l i) (bare s t at) c)
    none i q (projects c h k at p) = cc
    none i q (recognises c h at t) = cc

first_are_bare : (i : ℕ) (t : SortInfo) → slice_get first_sorts i ≡ Some t → constructors_of t.kind ≡ []
first_are_bare zero t e = let p : record { kind = sorts.booleans; name = None } ≡ t = cc in ap (λ (x : SortInfo). constructors_of x.kind) (sym p)
first_are_bare (suc zero) t e = let p : record { kind = sorts.positives; name = None } ≡ t = cc in ap (λ (x : SortInfo). constructors_of x.kind) (sym p)
first_are_bare (suc (suc zero)) t e = let p : record { kind = sorts.naturals; name = None } ≡ t = cc in ap (λ (x : SortInfo). constructors_of x.kind) (sym p)
first_are_bare (suc (suc (suc zero))) t e = let p : record { kind = sorts.integers; name = None } ≡ t = cc in ap (λ (x : SortInfo). constructors_of x.kind) (sym p)
first_are_bare (suc (suc (suc (suc i)))) t e = cc

rows_are_plain : (texts : List (List ℕ)) (rs : List Row) (j : ℕ) (f : Function) → slice_get (built_ins texts rs) j ≡ Some f → (f.projections ≡ []) × (f.test ≡ None)
rows_are_plain texts rs j f at =
    let h = read_mapped (built_in texts) rs j f at in
    (ap (λ (x : Function). x.projections) (sym h.2), ap (λ (x : Function). x.test) (sym h.2))

pub the_first_signature_has_roles : TheFirstSignatureHasRoles
unfolding first_signature
the_first_signature_has_roles given =
    roles_are_kept first_sorts first_sorts [] (built_ins (with_texts given first_names) first_table) (no_roles first_sorts (λ s t at. first_are_bare s.0 t at)) (rows_are_plain (with_texts given first_names) first_table)
    (λ s t at. at) (λ s t c at in'. at)

pub texts_keep_the_roles : TextsKeepTheRoles
texts_keep_the_roles g t roles = roles

pub actions_keep_the_roles : ActionsKeepTheRoles
actions_keep_the_roles g t sorts roles = roles

pub variables_keep_the_roles : VariablesKeepTheRoles
variables_keep_the_roles g v roles = roles

pub aliases_keep_the_roles : AliasesKeepTheRoles
aliases_keep_the_roles g n s roles = roles

declared_is_plain : (n : NameId) (args : List SortId) (to : SortId) (j : ℕ) (f : Function) → slice_get (declared_function n args to ∷ []) j ≡ Some f → (f.projections ≡ []) × (f.test ≡ None)
declared_is_plain n args to zero f at = let p : declared_function n args to ≡ f = cc in (ap (λ (x : Function). x.projections) (sym p), ap (λ (x : Function). x.test) (sym p))
declared_is_plain n args to (suc j) f at = cc

-- what has a role is an old function
pub role_below : (g : Sig) → AreRoles g → (i : FunId) (r : Role) → HasRole g.sorts g.functions i r → i.0 < length g.functions
role_below g roles i r (constructs s t at c) = let d = roles.constructors s t i at c in slice_get_within g.functions i.0 d.0 d.1
role_below g roles i r (projects c h k at p) = let d = (roles.projections c i h k at p).1.2 in slice_get_within g.functions i.0 d.0 d.1
role_below g roles i r (recognises c h at t) = let d = (roles.recognisers c i h at t).1 in slice_get_within g.functions i.0 d.0 d.1

pub functions_keep_the_roles : FunctionsKeepTheRoles
functions_keep_the_roles g n args to roles = roles_are_kept g.sorts g.sorts g.functions (declared_function n args to ∷ []) roles (declared_is_plain n args to) (λ s t at. at) (λ s t c at in'. at)

-- a sort without constructors
constructed_before : (ss : List SortInfo) (s : SortInfo) → constructors_of s.kind ≡ [] → (i : SortId) (t : SortInfo) (c : FunId) → slice_get (ss ++ s ∷ []) i.0 ≡ Some t → Contains (constructors_of t.kind) c → slice_get ss i.0 ≡ Some t
constructed_before ss s bare i t c at in' = elim (pushed_by_place ss s t i.0 at) [
  | inl e ↦ e
  | inr e ↦ absurd (nothing_in c (subst (λ l. Contains l c) (ap (λ (x : SortInfo). constructors_of x.kind) (sym e.1) ∙ bare) in'))
]

sort_kept : (g : Sig) (s : SortInfo) (rs : List Row) → AreRoles g → constructors_of s.kind ≡ [] → HaveRoles (g.sorts ++ s ∷ []) (g.functions ++ built_ins g.texts rs)
sort_kept g s rs roles bare =
    roles_are_kept g.sorts (g.sorts ++ s ∷ []) g.functions (built_ins g.texts rs) roles (rows_are_plain g.texts rs) (λ i t at. read_front g.sorts (s ∷ []) i.0 t at) (constructed_before g.sorts s bare)

pub declared_sorts_keep_the_roles : DeclaredSortsKeepTheRoles
declared_sorts_keep_the_roles g n roles = sort_kept g (abstract_sort n) (sort_rows (record { 0 = length g.sorts })) roles refl

pub list_sorts_keep_the_roles : ListSortsKeepTheRoles
list_sorts_keep_the_roles g e roles = sort_kept g (list_sort e) (list_table e (record { 0 = length g.sorts })) roles refl

-- ---- a declared sort gets its constructors
-- a `struct` is another sort
pub struct_stays : (ss : List SortInfo) (sort : SortId) (d : Kind) → IsBare ss sort → (c : FunId) (s : SortId) → IsStructConstructor ss c s → IsStructConstructor (with_kind ss sort.0 d) c s
struct_stays ss sort d bare c s h = (h.0, h.1, kind_elsewhere ss sort.0 d s.0 other ∙ h.2, h.3, h.4)
  where
    other : s.0 ≡ sort.0 → ⊥
    other e =
        let same : h.0 ≡ bare.0 = (let z : Some h.0 ≡ Some bare.0 = sym h.2 ∙ ap (slice_get ss) e ∙ bare.1 in cc) in
        let z : sorts.structured h.1 ≡ sorts.without_constructors = sym h.3 ∙ ap (λ (x : SortInfo). x.kind) same ∙ bare.2 in
        cc

module _ (g : Sig) (sort : SortId) (cons : List FunId) (roles : AreRoles g) (bare : IsBare g.sorts sort) (made : All (λ (c : FunId). IsDeclaredTo g.functions c sort) cons)
    (free : (c : FunId) (r : Role) → Contains cons c → HasRole g.sorts g.functions c r → ⊥) where
  abbrev after : List SortInfo
  after = with_kind g.sorts sort.0 (sorts.by_declarations cons)

  -- a constructor of a sort is one of these, or it was one before
  constructor_cases : (s : SortId) (t : SortInfo) (c : FunId) → slice_get after s.0 ≡ Some t → Contains (constructors_of t.kind) c
      → ((s.0 ≡ sort.0) × Contains cons c) ⊎ (slice_get g.sorts s.0 ≡ Some t)
  constructor_cases s t c at in' = elim (cases_eq s.0 sort.0) [
    | inl e ↦ inl (e, subst (λ (k : Kind). Contains (constructors_of k) c) (kind_here g.sorts sort.0 (sorts.by_declarations cons) t (subst (λ n. slice_get after n ≡ Some t) e at)) in')
    | inr n ↦ inr (sym (kind_elsewhere g.sorts sort.0 (sorts.by_declarations cons) s.0 n) ∙ at)
  ]

  declared_after : (s : SortId) (t : SortInfo) (c : FunId) → slice_get after s.0 ≡ Some t → Contains (constructors_of t.kind) c → IsDeclaredTo g.functions c s
  declared_after s t c at in' = by_cases (constructor_cases s t c at in')
    where
      by_cases : ((s.0 ≡ sort.0) × Contains cons c) ⊎ (slice_get g.sorts s.0 ≡ Some t) → IsDeclaredTo g.functions c s
      by_cases (inl h) =
          let d = All-contains (λ (x : FunId). IsDeclaredTo g.functions x sort) cons c made h.1 in
          (d.0, d.1, d.2, d.3 ∙ ap (λ (n : ℕ). record { 0 = n }) (sym h.0))
      by_cases (inr e) = roles.constructors s t c e in'

  role_after : (i : FunId) (r : Role) → HasRole after g.functions i r → (Contains cons i × (r ≡ constructor)) ⊎ HasRole g.sorts g.functions i r
  role_after i r (constructs s t at c) = elim (constructor_cases s t i at c) [ inl h ↦ inl (h.1, refl) | inr e ↦ inr (constructs s t e c) ]
  role_after i r (projects c h k at p) = inr (projects c h k at p)
  role_after i r (recognises c h at t) = inr (recognises c h at t)

  one_role_after : (i : FunId) (q r : Role) → HasRole after g.functions i q → HasRole after g.functions i r → q ≡ r
  one_role_after i q r a b = by_cases (role_after i q a) (role_after i r b)
    where
      by_cases : (Contains cons i × (q ≡ constructor)) ⊎ HasRole g.sorts g.functions i q → (Contains cons i × (r ≡ constructor)) ⊎ HasRole g.sorts g.functions i r → q ≡ r
      by_cases (inl x) (inl y) = x.1 ∙ sym y.1
      by_cases (inl x) (inr y) = absurd (free i r x.0 y)
      by_cases (inr x) (inl y) = absurd (free i q y.0 x)
      by_cases (inr x) (inr y) = roles.one_role i q r x y

  roles_after : HaveRoles after g.functions
  roles_after = record {
    constructors = declared_after;
    projections = λ c p h k at e. let x = roles.projections c p h k at e in (struct_stays g.sorts sort (sorts.by_declarations cons) bare c h.result x.0, x.1);
    recognisers = λ c r h at e. let x = roles.recognisers c r h at e in (struct_stays g.sorts sort (sorts.by_declarations cons) bare c h.result x.0, x.1);
    one_role = one_role_after;
  }

pub constructors_keep_the_roles : ConstructorsKeepTheRoles
constructors_keep_the_roles g sort cons roles bare made free = roles_after g sort cons roles bare made free

-- ---- functions without a role
pub functions_give_no_role : FunctionsGiveNoRole
functions_give_no_role g n args to roles i none r h =
    none r (old_role g.sorts g.sorts g.functions (declared_function n args to ∷ []) roles (declared_is_plain n args to) (λ s t at. at) (λ s t c at in'. at) i r h)

pub new_functions_have_no_role : NewFunctionsHaveNoRole
new_functions_have_no_role g n args to roles =
    functions_give_no_role g n args to roles (record { 0 = length g.functions }) (λ r h. let below = role_below g roles (record { 0 = length g.functions }) r h in omega (arith, below))

sort_gives_no_role : (g : Sig) (s : SortInfo) (rs : List Row) → AreRoles g → constructors_of s.kind ≡ [] → (i : FunId) → HasNoRole g i → (r : Role) → HasRole (g.sorts ++ s ∷ []) (g.functions ++ built_ins g.texts rs) i r → ⊥
sort_gives_no_role g s rs roles bare i none r h =
    none r (old_role g.sorts (g.sorts ++ s ∷ []) g.functions (built_ins g.texts rs) roles (rows_are_plain g.texts rs) (λ i t at. read_front g.sorts (s ∷ []) i.0 t at) (constructed_before g.sorts s bare) i r h)

pub declared_sorts_give_no_role : DeclaredSortsGiveNoRole
declared_sorts_give_no_role g n roles i none = sort_gives_no_role g (abstract_sort n) (sort_rows (record { 0 = length g.sorts })) roles refl i none

pub list_sorts_give_no_role : ListSortsGiveNoRole
list_sorts_give_no_role g e roles i none = sort_gives_no_role g (list_sort e) (list_table e (record { 0 = length g.sorts })) roles refl i none

pub constructors_give_no_role_to_others : ConstructorsGiveNoRoleToOthers
constructors_give_no_role_to_others g sort cons roles bare i other none r (constructs s t at c) = elim (cases_eq s.0 sort.0) [
  | inl e ↦ other (subst (λ (k : Kind). Contains (constructors_of k) i) (kind_here g.sorts sort.0 (sorts.by_declarations cons) t (subst (λ n. slice_get (with_kind g.sorts sort.0 (sorts.by_declarations cons)) n ≡ Some t) e at)) c)
  | inr n ↦ none constructor (constructs s t (sym (kind_elsewhere g.sorts sort.0 (sorts.by_declarations cons) s.0 n) ∙ at) c)
]
constructors_give_no_role_to_others g sort cons roles bare i other none r (projects c h k at p) = none _ (projects c h k at p)
constructors_give_no_role_to_others g sort cons roles bare i other none r (recognises c h at t) = none _ (recognises c h at t)
