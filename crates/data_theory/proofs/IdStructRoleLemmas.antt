-- What a `struct` declares keeps the roles of functions.
use Rattle.std.proofs.Common.{◌≡◌, ℕ, zero, suc, ◌<◌, ◌≤◌, ◌+◌, ◌⊎◌, inl, inr, List, [], ◌∷◌, ◌++◌, map, length, Option, Some, None, refl, sym, ap, ◌∙◌, subst, arith, length-append}
use Rattle.std.specs.Prelude.{slice_get}
use Rattle.std.specs.List.{Contains}
use Rattle.std.proofs.lemmas.List.Elements.{All-contains}
use Rattle.std.proofs.lemmas.Option.{slice_get_within}
use Rattle.std.proofs.lemmas.Bool.{cases_eq}
use Rattle.data_theory.specs.declared.ids.NameId.{NameId}
use Rattle.data_theory.specs.declared.ids.SortId.{SortId}
use Rattle.data_theory.specs.declared.ids.FunId.{FunId}
use Rattle.data_theory.specs.Declarations.{Role, constructor, projection, recogniser}
use Rattle.data_theory.specs.Rows.{built_ins}
use Rattle.data_theory.specs.Table.{bool_sort, sort_rows}
use Rattle.data_theory.specs.Sorts.{SortInfo, structured, with_kind, IsBare}
use Rattle.data_theory.specs.Functions.{Function, declared_function}
use Rattle.data_theory.specs.Structs.{Con, named_function, projections_of, recogniser_of, all_projections, all_recognisers, count_of, named_fields, number_of, numbers_of, constructor_of, struct_functions, numbers_from}
use Rattle.data_theory.specs.Structs as structs
use Rattle.data_theory.specs.Signature.{Sig, with_sort}
use Rattle.data_theory.specs.IdData.{constructors_of}
use Rattle.data_theory.specs.IdRoles.{IsDeclaredTo, IsDeclaredAs, declared_number, HasRole, constructs, projects, recognises, HaveRoles, IsStructConstructor, AreRoles, StructsKeepTheRoles, StructSortsKeepTheRoles, StructsGiveNoRoleToOthers, StructSortsGiveNoRoleToOthers}
use Rattle.data_theory.proofs.PlaceLemmas.{contains_read, read_front, read_behind}
use Rattle.data_theory.proofs.ListSortLemmas.{kind_here, kind_there, kind_elsewhere, abstract_is_bare}
use Rattle.data_theory.proofs.StructLemmas.{length-named, length-projections}
use Rattle.data_theory.proofs.StructWithin.{length-constructors}
use Rattle.data_theory.proofs.IdTableLemmas.{read_joined}
use Rattle.data_theory.proofs.IdStructLemmas.{all_projections_are, all_recognisers_are}
use Rattle.data_theory.proofs.IdRoleLemmas.{struct_stays, same_declared_number, role_below, declared_sorts_keep_the_roles, declared_sorts_give_no_role}

-- a declared function stands among these, which stand behind n others
abbrev StandsBehind : ℕ → List Function → FunId → List SortId → SortId → Type 0
StandsBehind n fs q args to = (i : ℕ) × (f : Function) × (q.0 ≡ n + i) × (slice_get fs i ≡ Some f) × (f.word ≡ None) × (f.result ≡ to) × (f.sorts ≡ args)

in_front : (n : ℕ) (fs more : List Function) (q : FunId) (args : List SortId) (to : SortId) → StandsBehind n fs q args to → StandsBehind n (fs ++ more) q args to
in_front n fs more q args to h = (h.0, h.1, h.2, read_front fs more h.0 h.1 h.3, h.4, h.5, h.6)

behind : (n m : ℕ) (front fs : List Function) (q : FunId) (args : List SortId) (to : SortId) → m ≡ n + length front → StandsBehind m fs q args to → StandsBehind n (front ++ fs) q args to
behind n m front fs q args to e h = (length front + h.0, h.1, omega (arith, e, h.2), read_behind front fs h.0 h.1 h.3, h.4, h.5, h.6)

where_it_stands : (n : ℕ) (fs : List Function) (q : FunId) (args : List SortId) (to : SortId) → StandsBehind n fs q args to → (n ≤ q.0) × (q.0 < n + length fs)
where_it_stands n fs q args to h = let w = slice_get_within fs h.0 h.1 h.3 in (omega (arith, h.2), omega (arith, h.2, w))

-- ---- the function of a name
number_is : (p : ℕ) (o : Option NameId) (q : FunId) → number_of p o ≡ Some q → (q.0 ≡ p) × (count_of o ≡ 1)
number_is p None q e = cc
number_is p (Some n) q e = let same : record { 0 = p } ≡ q = cc in (ap (λ (x : FunId). x.0) (sym same), refl)

name_stands : (s : SortId) (p : ℕ) (o : Option NameId) (to : SortId) (q : FunId) → number_of p o ≡ Some q → StandsBehind p (named_function s o to) q (s ∷ []) to
name_stands s p None to q e = cc
name_stands s p (Some n) to q e = let is = number_is p (Some n) q e in (0, declared_function n (s ∷ []) to, omega (arith, is.0), refl, refl, refl, refl)

-- ---- the projections of fields
field_stands : (s : SortId) (p : ℕ) (fields : List (Option NameId × SortId)) (k : ℕ) (q : FunId) → slice_get (numbers_of p fields) k ≡ Some (Some q)
    → (to : SortId) × (slice_get (map (λ f. f.1) fields) k ≡ Some to) × StandsBehind p (projections_of s fields) q (s ∷ []) to
field_stands s p [] k q e = cc
field_stands s p (f ∷ fields) zero q e =
    let here : number_of p f.0 ≡ Some q = cc in
    (f.1, refl, in_front p (named_function s f.0 f.1) (projections_of s fields) q (s ∷ []) f.1 (name_stands s p f.0 f.1 q here))
field_stands s p (f ∷ fields) (suc k) q e =
    let h = field_stands s (p + count_of f.0) fields k q e in
    (h.0, h.1, behind p (p + count_of f.0) (named_function s f.0 f.1) (projections_of s fields) q (s ∷ []) h.0 (omega (arith, length-named s f.0 f.1)) h.2)

-- the number of a name, and a number of fields behind it
not_both : (s : SortId) (p : ℕ) (f : Option NameId × SortId) (fields : List (Option NameId × SortId)) (l : ℕ) (q : FunId) → number_of p f.0 ≡ Some q → slice_get (numbers_of (p + count_of f.0) fields) l ≡ Some (Some q) → ⊥
not_both s p f fields l q a b =
    let is = number_is p f.0 q a in
    let h = field_stands s (p + count_of f.0) fields l q b in
    omega (arith, is.0, is.1, (where_it_stands (p + count_of f.0) (projections_of s fields) q (s ∷ []) h.0 h.2).0)

one_field : (s : SortId) (p : ℕ) (fields : List (Option NameId × SortId)) (k l : ℕ) (q : FunId) → slice_get (numbers_of p fields) k ≡ Some (Some q) → slice_get (numbers_of p fields) l ≡ Some (Some q) → k ≡ l
one_field s p [] k l q a b = cc
one_field s p (f ∷ fields) zero zero q a b = refl
one_field s p (f ∷ fields) zero (suc l) q a b = absurd (not_both s p f fields l q (let z : number_of p f.0 ≡ Some q = cc in z) b)
one_field s p (f ∷ fields) (suc k) zero q a b = absurd (not_both s p f fields k q (let z : number_of p f.0 ≡ Some q = cc in z) a)
one_field s p (f ∷ fields) (suc k) (suc l) q a b = ap suc (one_field s (p + count_of f.0) fields k l q a b)

-- ---- the projections and the recogniser of a constructor
module _ (s : SortId) where
  constructor_here : (p t : ℕ) (cs : List Con) (j : ℕ) → j < length cs → (h : Function) × (slice_get (structs.constructors_of s p t cs) j ≡ Some h) × (h.word ≡ None) × (h.result ≡ s)
  constructor_here p t [] j l = absurd (omega (arith, l))
  constructor_here p t (c ∷ cs) zero l = (constructor_of s p t c, refl, refl, refl)
  constructor_here p t (c ∷ cs) (suc j) l = constructor_here (p + named_fields c.fields) (t + count_of c.test) cs j (omega (arith, l))

  constructor_result : (p t : ℕ) (cs : List Con) (j : ℕ) (h : Function) → slice_get (structs.constructors_of s p t cs) j ≡ Some h → h.result ≡ s
  constructor_result p t [] j h e = cc
  constructor_result p t (c ∷ cs) zero h e = let same : constructor_of s p t c ≡ h = cc in ap (λ (x : Function). x.result) (sym same)
  constructor_result p t (c ∷ cs) (suc j) h e = constructor_result (p + named_fields c.fields) (t + count_of c.test) cs j h e

  projection_stands : (p t : ℕ) (cs : List Con) (j : ℕ) (h : Function) (k : ℕ) (q : FunId) → slice_get (structs.constructors_of s p t cs) j ≡ Some h → slice_get h.projections k ≡ Some (Some q)
      → (to : SortId) × (slice_get h.sorts k ≡ Some to) × StandsBehind p (all_projections s cs) q (s ∷ []) to
  projection_stands p t [] j h k q e at = cc
  projection_stands p t (c ∷ cs) zero h k q e at =
      let same : constructor_of s p t c ≡ h = cc in
      let r = field_stands s p c.fields k q (ap (λ (x : Function). slice_get x.projections k) same ∙ at) in
      (r.0, ap (λ (x : Function). slice_get x.sorts k) (sym same) ∙ r.1, in_front p (projections_of s c.fields) (all_projections s cs) q (s ∷ []) r.0 r.2)
  projection_stands p t (c ∷ cs) (suc j) h k q e at =
      let r = projection_stands (p + named_fields c.fields) (t + count_of c.test) cs j h k q e at in
      (r.0, r.1, behind p (p + named_fields c.fields) (projections_of s c.fields) (all_projections s cs) q (s ∷ []) r.0 (omega (arith, length-projections s c.fields)) r.2)

  recogniser_stands : (p t : ℕ) (cs : List Con) (j : ℕ) (h : Function) (q : FunId) → slice_get (structs.constructors_of s p t cs) j ≡ Some h → h.test ≡ Some q → StandsBehind t (all_recognisers s cs) q (s ∷ []) bool_sort
  recogniser_stands p t [] j h q e at = cc
  recogniser_stands p t (c ∷ cs) zero h q e at =
      let same : constructor_of s p t c ≡ h = cc in
      in_front t (recogniser_of s c) (all_recognisers s cs) q (s ∷ []) bool_sort (name_stands s t c.test bool_sort q (ap (λ (x : Function). x.test) same ∙ at))
  recogniser_stands p t (c ∷ cs) (suc j) h q e at =
      behind t (t + count_of c.test) (recogniser_of s c) (all_recognisers s cs) q (s ∷ []) bool_sort (omega (arith, length-named s c.test bool_sort)) (recogniser_stands (p + named_fields c.fields) (t + count_of c.test) cs j h q e at)

  -- a projection of the first constructor, and one of a later one
  not_both_project : (p t : ℕ) (c : Con) (cs : List Con) (h g : Function) (j k l : ℕ) (q : FunId) → constructor_of s p t c ≡ h → slice_get h.projections k ≡ Some (Some q)
      → slice_get (structs.constructors_of s (p + named_fields c.fields) (t + count_of c.test) cs) j ≡ Some g → slice_get g.projections l ≡ Some (Some q) → ⊥
  not_both_project p t c cs h g j k l q same a e b =
      let x = field_stands s p c.fields k q (ap (λ (x : Function). slice_get x.projections k) same ∙ a) in
      let y = projection_stands (p + named_fields c.fields) (t + count_of c.test) cs j g l q e b in
      omega (arith, (where_it_stands p (projections_of s c.fields) q (s ∷ []) x.0 x.2).1, length-projections s c.fields, (where_it_stands (p + named_fields c.fields) (all_projections s cs) q (s ∷ []) y.0 y.2).0)

  one_place : (p t : ℕ) (cs : List Con) (i j : ℕ) (h g : Function) (k l : ℕ) (q : FunId) → slice_get (structs.constructors_of s p t cs) i ≡ Some h → slice_get (structs.constructors_of s p t cs) j ≡ Some g
      → slice_get h.projections k ≡ Some (Some q) → slice_get g.projections l ≡ Some (Some q) → (i ≡ j) × (k ≡ l)
  one_place p t [] i j h g k l q d e a b = cc
  one_place p t (c ∷ cs) zero zero h g k l q d e a b =
      let x : constructor_of s p t c ≡ h = cc in
      let y : constructor_of s p t c ≡ g = cc in
      (refl, one_field s p c.fields k l q (ap (λ (f : Function). slice_get f.projections k) x ∙ a) (ap (λ (f : Function). slice_get f.projections l) y ∙ b))
  one_place p t (c ∷ cs) zero (suc j) h g k l q d e a b = absurd (not_both_project p t c cs h g j k l q (let z : constructor_of s p t c ≡ h = cc in z) a e b)
  one_place p t (c ∷ cs) (suc i) zero h g k l q d e a b = absurd (not_both_project p t c cs g h i l k q (let z : constructor_of s p t c ≡ g = cc in z) b d a)
  one_place p t (c ∷ cs) (suc i) (suc j) h g k l q d e a b = let r = one_place (p + named_fields c.fields) (t + count_of c.test) cs i j h g k l q d e a b in (ap suc r.0, r.1)

  not_both_recognise : (p t : ℕ) (c : Con) (cs : List Con) (h g : Function) (j : ℕ) (q : FunId) → constructor_of s p t c ≡ h → h.test ≡ Some q
      → slice_get (structs.constructors_of s (p + named_fields c.fields) (t + count_of c.test) cs) j ≡ Some g → g.test ≡ Some q → ⊥
  not_both_recognise p t c cs h g j q same a e b =
      let x = number_is t c.test q (ap (λ (x : Function). x.test) same ∙ a) in
      omega (arith, x.0, x.1, (where_it_stands (t + count_of c.test) (all_recognisers s cs) q (s ∷ []) bool_sort (recogniser_stands (p + named_fields c.fields) (t + count_of c.test) cs j g q e b)).0)

  one_recognised : (p t : ℕ) (cs : List Con) (i j : ℕ) (h g : Function) (q : FunId) → slice_get (structs.constructors_of s p t cs) i ≡ Some h → slice_get (structs.constructors_of s p t cs) j ≡ Some g → h.test ≡ Some q → g.test ≡ Some q → i ≡ j
  one_recognised p t [] i j h g q d e a b = cc
  one_recognised p t (c ∷ cs) zero zero h g q d e a b = refl
  one_recognised p t (c ∷ cs) zero (suc j) h g q d e a b = absurd (not_both_recognise p t c cs h g j q (let z : constructor_of s p t c ≡ h = cc in z) a e b)
  one_recognised p t (c ∷ cs) (suc i) zero h g q d e a b = absurd (not_both_recognise p t c cs g h i q (let z : constructor_of s p t c ≡ g = cc in z) b d a)
  one_recognised p t (c ∷ cs) (suc i) (suc j) h g q d e a b = ap suc (one_recognised (p + named_fields c.fields) (t + count_of c.test) cs i j h g q d e a b)

-- ---- the numbers of the constructors
pub number_among : (n m : ℕ) (c : FunId) → Contains (numbers_from n m) c → (i : ℕ) × (i < m) × (c.0 ≡ n + i)
number_among n zero c h = absurd (omega (arith, h.1))
number_among n (suc m) c (zero, l, e) = (0, omega arith, (let z : n ≡ c.0 = ap (λ (x : FunId). x.0) e in omega (arith, z)))
number_among n (suc m) c (suc i, l, e) = let h = number_among (n + 1) m c (i, omega (arith, l), e) in (suc h.0, omega (arith, h.1), omega (arith, h.2))

pub among_numbers : (n m i : ℕ) (c : FunId) → i < m → c.0 ≡ n + i → Contains (numbers_from n m) c
among_numbers n zero i c l e = absurd (omega (arith, l))
among_numbers n (suc m) zero c l e = (zero, omega arith, ap (λ (k : ℕ). record { 0 = k }) (let z : n ≡ c.0 = omega (arith, e) in z))
among_numbers n (suc m) (suc i) c l e = let h = among_numbers (n + 1) m i c (omega (arith, l)) (omega (arith, e)) in (suc h.0, omega (arith, h.1), h.2)

-- what one of the new functions is: one of m constructors behind n functions, a projection or a recogniser
data IsNewRole (all made : List Function) (n m : ℕ) (i : FunId) : Role → Type 0 where
  constructs_one : n ≤ i.0 → i.0 < n + m → IsNewRole all made n m i constructor
  projects_one : (j k : ℕ) (h : Function) → slice_get made j ≡ Some h → slice_get h.projections k ≡ Some (Some i) → IsNewRole all made n m i (projection (declared_number all (record { 0 = n + j })) k)
  recognises_one : (j : ℕ) (h : Function) → slice_get made j ≡ Some h → h.test ≡ Some i → IsNewRole all made n m i (recogniser (declared_number all (record { 0 = n + j })))

-- ---- a sort without constructors gets those of a `struct`
module _ (g : Sig) (sort : SortId) (cs : List Con) (roles : AreRoles g) (bare : IsBare g.sorts sort) where
  abbrev n : ℕ
  n = length g.functions

  abbrev ps : List Function
  ps = all_projections sort cs

  abbrev rs : List Function
  rs = all_recognisers sort cs

  abbrev projections_at : ℕ
  projections_at = n + length cs

  abbrev recognisers_at : ℕ
  recognisers_at = n + length cs + length ps

  abbrev made : List Function
  made = structs.constructors_of sort projections_at recognisers_at cs

  abbrev all : List Function
  all = g.functions ++ ((made ++ ps) ++ rs)

  abbrev numbers : List FunId
  numbers = numbers_from n (length cs)

  abbrev after : List SortInfo
  after = with_kind g.sorts sort.0 (structured numbers)

  as_many : length made ≡ length cs
  as_many = length-constructors sort projections_at recognisers_at cs

  -- where a new function stands
  declared_here : (q : FunId) (args : List SortId) (to : SortId) → StandsBehind n ((made ++ ps) ++ rs) q args to → IsDeclaredAs all q args to
  declared_here q args to h =
      let at : slice_get all (length g.functions + h.0) ≡ Some h.1 = read_behind g.functions ((made ++ ps) ++ rs) h.0 h.1 h.3 in
      (h.1, ap (slice_get all) h.2 ∙ at, h.4, h.5, h.6)

  projection_here : (q : FunId) (to : SortId) → StandsBehind projections_at ps q (sort ∷ []) to → IsDeclaredAs all q (sort ∷ []) to
  projection_here q to h =
      declared_here q (sort ∷ []) to (in_front n (made ++ ps) rs q (sort ∷ []) to (behind n projections_at made ps q (sort ∷ []) to (omega (arith, as_many)) h))

  recogniser_here : (q : FunId) → StandsBehind recognisers_at rs q (sort ∷ []) bool_sort → IsDeclaredAs all q (sort ∷ []) bool_sort
  recogniser_here q h =
      declared_here q (sort ∷ []) bool_sort (behind n recognisers_at (made ++ ps) rs q (sort ∷ []) bool_sort (omega (arith, as_many, length-append made ps)) h)

  -- an entry is without projections and recogniser, or an old one, or one of the constructors
  abbrev IsPlain : Function → Type 0
  IsPlain h = (h.projections ≡ []) × (h.test ≡ None)

  entry_cases : (c : FunId) (h : Function) → slice_get all c.0 ≡ Some h → IsPlain h ⊎ ((slice_get g.functions c.0 ≡ Some h) ⊎ ((j : ℕ) × (c.0 ≡ n + j) × (slice_get made j ≡ Some h)))
  entry_cases c h at = elim (read_joined g.functions ((made ++ ps) ++ rs) c.0 h at) [
    | inl e ↦ inr (inl e)
    | inr e ↦ elim (read_joined (made ++ ps) rs e.0 h e.2) [
      | inl f ↦ elim (read_joined made ps e.0 h f) [
        | inl m ↦ inr (inr (e.0, e.1, m))
        | inr p ↦ inl (All-contains IsPlain ps h (all_projections_are sort IsPlain (λ k to. (refl, refl)) cs) (contains_read ps p.0 h p.2))
      ]
      | inr r ↦ inl (All-contains IsPlain rs h (all_recognisers_are sort IsPlain (λ k to. (refl, refl)) cs) (contains_read rs r.0 h r.2))
    ]
  ]

  with_place : (c : FunId) (h : Function) (k : ℕ) (p : FunId) → slice_get all c.0 ≡ Some h → slice_get h.projections k ≡ Some (Some p) → (slice_get g.functions c.0 ≡ Some h) ⊎ ((j : ℕ) × (c.0 ≡ n + j) × (slice_get made j ≡ Some h))
  with_place c h k p at e = elim (entry_cases c h at) [ inl x ↦ absurd (let z : None ≡ Some (Some p) = sym (ap (λ l. slice_get l k) x.0) ∙ e in cc) | inr x ↦ x ]

  with_test : (c : FunId) (h : Function) (r : FunId) → slice_get all c.0 ≡ Some h → h.test ≡ Some r → (slice_get g.functions c.0 ≡ Some h) ⊎ ((j : ℕ) × (c.0 ≡ n + j) × (slice_get made j ≡ Some h))
  with_test c h r at e = elim (entry_cases c h at) [ inl x ↦ absurd (let z : None ≡ Some r = sym x.1 ∙ e in cc) | inr x ↦ x ]

  -- a constructor of a sort is a new one of this sort, or an old one
  constructor_cases : (s : SortId) (t : SortInfo) (c : FunId) → slice_get after s.0 ≡ Some t → Contains (constructors_of t.kind) c → ((s.0 ≡ sort.0) × Contains numbers c) ⊎ (slice_get g.sorts s.0 ≡ Some t)
  constructor_cases s t c at in' = elim (cases_eq s.0 sort.0) [
    | inl e ↦ inl (e, subst (λ k. Contains (constructors_of k) c) (kind_here g.sorts sort.0 (structured numbers) t (subst (λ k. slice_get after k ≡ Some t) e at)) in')
    | inr d ↦ inr (sym (kind_elsewhere g.sorts sort.0 (structured numbers) s.0 d) ∙ at)
  ]

  to_kept : (i : FunId) (to : SortId) → IsDeclaredTo g.functions i to → IsDeclaredTo all i to
  to_kept i to h = (h.0, read_front g.functions ((made ++ ps) ++ rs) i.0 h.0 h.1, h.2, h.3)

  as_kept : (i : FunId) (args : List SortId) (to : SortId) → IsDeclaredAs g.functions i args to → IsDeclaredAs all i args to
  as_kept i args to h = (h.0, read_front g.functions ((made ++ ps) ++ rs) i.0 h.0 h.1, h.2, h.3, h.4)

  declared_after : (s : SortId) (t : SortInfo) (c : FunId) → slice_get after s.0 ≡ Some t → Contains (constructors_of t.kind) c → IsDeclaredTo all c s
  declared_after s t c at in' = by_cases (constructor_cases s t c at in')
    where
      by_cases : ((s.0 ≡ sort.0) × Contains numbers c) ⊎ (slice_get g.sorts s.0 ≡ Some t) → IsDeclaredTo all c s
      by_cases (inl h) =
          let i = number_among n (length cs) c h.1 in
          let f = constructor_here sort projections_at recognisers_at cs i.0 i.1 in
          let at : slice_get all (n + i.0) ≡ Some f.0 = read_behind g.functions ((made ++ ps) ++ rs) i.0 f.0 (read_front (made ++ ps) rs i.0 f.0 (read_front made ps i.0 f.0 f.1)) in
          (f.0, ap (slice_get all) i.2 ∙ at, f.2, f.3 ∙ ap (λ (k : ℕ). record { 0 = k }) (sym h.0))
      by_cases (inr e) = to_kept c s (roles.constructors s t c e in')

  -- the new constructors are those of a `struct`
  struct_here : (c : FunId) (j : ℕ) (h : Function) → c.0 ≡ n + j → slice_get made j ≡ Some h → IsStructConstructor after c h.result
  struct_here c j h e at =
      let is : h.result ≡ sort = constructor_result sort projections_at recognisers_at cs j h at in
      let l : j < length cs = omega (arith, slice_get_within made j h at, as_many) in
      subst (IsStructConstructor after c) (sym is)
      (record bare.0 { kind = structured numbers }, numbers, kind_there g.sorts sort.0 (structured numbers) bare.0 bare.1, refl, among_numbers n (length cs) j c l e)

  projections_after : (c p : FunId) (h : Function) (k : ℕ) → slice_get all c.0 ≡ Some h → slice_get h.projections k ≡ Some (Some p)
      → IsStructConstructor after c h.result × ((to : SortId) × (slice_get h.sorts k ≡ Some to) × IsDeclaredAs all p (h.result ∷ []) to)
  projections_after c p h k at e = by_cases (with_place c h k p at e)
    where
      by_cases : (slice_get g.functions c.0 ≡ Some h) ⊎ ((j : ℕ) × (c.0 ≡ n + j) × (slice_get made j ≡ Some h)) → IsStructConstructor after c h.result × ((to : SortId) × (slice_get h.sorts k ≡ Some to) × IsDeclaredAs all p (h.result ∷ []) to)
      by_cases (inl o) = let r = roles.projections c p h k o e in (struct_stays g.sorts sort (structured numbers) bare c h.result r.0, (r.1.0, r.1.1, as_kept p (h.result ∷ []) r.1.0 r.1.2))
      by_cases (inr m) =
          let r = projection_stands sort projections_at recognisers_at cs m.0 h k p m.2 e in
          let is : h.result ≡ sort = constructor_result sort projections_at recognisers_at cs m.0 h m.2 in
          (struct_here c m.0 h m.1 m.2, (r.0, r.1, subst (λ (s : SortId). IsDeclaredAs all p (s ∷ []) r.0) (sym is) (projection_here p r.0 r.2)))

  recognisers_after : (c r : FunId) (h : Function) → slice_get all c.0 ≡ Some h → h.test ≡ Some r → IsStructConstructor after c h.result × IsDeclaredAs all r (h.result ∷ []) bool_sort
  recognisers_after c r h at e = by_cases (with_test c h r at e)
    where
      by_cases : (slice_get g.functions c.0 ≡ Some h) ⊎ ((j : ℕ) × (c.0 ≡ n + j) × (slice_get made j ≡ Some h)) → IsStructConstructor after c h.result × IsDeclaredAs all r (h.result ∷ []) bool_sort
      by_cases (inl o) = let k = roles.recognisers c r h o e in (struct_stays g.sorts sort (structured numbers) bare c h.result k.0, as_kept r (h.result ∷ []) bool_sort k.1)
      by_cases (inr m) =
          let is : h.result ≡ sort = constructor_result sort projections_at recognisers_at cs m.0 h m.2 in
          (struct_here c m.0 h m.1 m.2, subst (λ (s : SortId). IsDeclaredAs all r (s ∷ []) bool_sort) (sym is) (recogniser_here r (recogniser_stands sort projections_at recognisers_at cs m.0 h r m.2 e)))

  -- ---- no function has two roles
  same_number : (c : FunId) (h : Function) → slice_get g.functions c.0 ≡ Some h → declared_number all c ≡ declared_number g.functions c
  same_number c h at = same_declared_number g.functions ((made ++ ps) ++ rs) c h at

  this_number : (c : FunId) (j : ℕ) → c.0 ≡ n + j → c ≡ record { 0 = n + j }
  this_number c j e = ap (λ (k : ℕ). record { 0 = k }) e

  role_cases : (i : FunId) (r : Role) → HasRole after all i r → HasRole g.sorts g.functions i r ⊎ IsNewRole all made n (length cs) i r
  role_cases i r (constructs s t at c) = elim (constructor_cases s t i at c) [
    | inl h ↦ inr (let k = number_among n (length cs) i h.1 in constructs_one (omega (arith, k.2)) (omega (arith, k.1, k.2)))
    | inr e ↦ inl (constructs s t e c)
  ]
  role_cases i r (projects c h k at p) = elim (with_place c h k i at p) [
    | inl o ↦ inl (subst (λ m. HasRole g.sorts g.functions i (projection m k)) (sym (same_number c h o)) (projects c h k o p))
    | inr m ↦ inr (subst (λ (d : FunId). IsNewRole all made n (length cs) i (projection (declared_number all d) k)) (sym (this_number c m.0 m.1)) (projects_one m.0 k h m.2 p))
  ]
  role_cases i r (recognises c h at t) = elim (with_test c h i at t) [
    | inl o ↦ inl (subst (λ m. HasRole g.sorts g.functions i (recogniser m)) (sym (same_number c h o)) (recognises c h o t))
    | inr m ↦ inr (subst (λ (d : FunId). IsNewRole all made n (length cs) i (recogniser (declared_number all d))) (sym (this_number c m.0 m.1)) (recognises_one m.0 h m.2 t))
  ]

  among_projections : (i : FunId) (j k : ℕ) (h : Function) → slice_get made j ≡ Some h → slice_get h.projections k ≡ Some (Some i) → (projections_at ≤ i.0) × (i.0 < recognisers_at)
  among_projections i j k h at p = let r = projection_stands sort projections_at recognisers_at cs j h k i at p in where_it_stands projections_at ps i (sort ∷ []) r.0 r.2

  among_recognisers : (i : FunId) (j : ℕ) (h : Function) → slice_get made j ≡ Some h → h.test ≡ Some i → recognisers_at ≤ i.0
  among_recognisers i j h at t = (where_it_stands recognisers_at rs i (sort ∷ []) bool_sort (recogniser_stands sort projections_at recognisers_at cs j h i at t)).0

  new_above : (i : FunId) (r : Role) → IsNewRole all made n (length cs) i r → n ≤ i.0
  new_above i r (constructs_one a b) = a
  new_above i r (projects_one j k h at p) = let w = among_projections i j k h at p in omega (arith, w.0)
  new_above i r (recognises_one j h at t) = let w = among_recognisers i j h at t in omega (arith, w)

  one_new_role : (i : FunId) (q r : Role) → IsNewRole all made n (length cs) i q → IsNewRole all made n (length cs) i r → q ≡ r
  one_new_role i q r (constructs_one a b) (constructs_one c d) = refl
  one_new_role i q r (constructs_one a b) (projects_one j k h at p) = let w = among_projections i j k h at p in absurd (omega (arith, b, w.0))
  one_new_role i q r (constructs_one a b) (recognises_one j h at t) = let w = among_recognisers i j h at t in absurd (omega (arith, b, w))
  one_new_role i q r (projects_one j k h at p) (constructs_one a b) = let w = among_projections i j k h at p in absurd (omega (arith, b, w.0))
  one_new_role i q r (projects_one j k h at p) (projects_one j' k' h' at' p') =
      let same = one_place sort projections_at recognisers_at cs j j' h h' k k' i at at' p p' in
      (λ x. projection (declared_number all (record { 0 = n + same.0 x })) (same.1 x))
  one_new_role i q r (projects_one j k h at p) (recognises_one j' h' at' t) =
      let v = among_projections i j k h at p in
      let w = among_recognisers i j' h' at' t in
      absurd (omega (arith, v.1, w))
  one_new_role i q r (recognises_one j h at t) (constructs_one a b) = let w = among_recognisers i j h at t in absurd (omega (arith, b, w))
  one_new_role i q r (recognises_one j' h' at' t) (projects_one j k h at p) =
      let v = among_projections i j k h at p in
      let w = among_recognisers i j' h' at' t in
      absurd (omega (arith, v.1, w))
  one_new_role i q r (recognises_one j h at t) (recognises_one j' h' at' t') =
      let same = one_recognised sort projections_at recognisers_at cs j j' h h' i at at' t t' in
      (λ x. recogniser (declared_number all (record { 0 = n + same x })))

  one_role_after : (i : FunId) (q r : Role) → HasRole after all i q → HasRole after all i r → q ≡ r
  one_role_after i q r a b = by_cases (role_cases i q a) (role_cases i r b)
    where
      by_cases : HasRole g.sorts g.functions i q ⊎ IsNewRole all made n (length cs) i q → HasRole g.sorts g.functions i r ⊎ IsNewRole all made n (length cs) i r → q ≡ r
      by_cases (inl x) (inl y) = roles.one_role i q r x y
      by_cases (inl x) (inr y) = let low = role_below g roles i q x in let high = new_above i r y in absurd (omega (arith, low, high))
      by_cases (inr x) (inl y) = let low = role_below g roles i r y in let high = new_above i q x in absurd (omega (arith, low, high))
      by_cases (inr x) (inr y) = one_new_role i q r x y

  struct_roles : HaveRoles after all
  struct_roles = record { constructors = declared_after; projections = projections_after; recognisers = recognisers_after; one_role = one_role_after }

pub structs_keep_the_roles : StructsKeepTheRoles
structs_keep_the_roles g s cs roles bare = struct_roles g s cs roles bare

pub struct_sorts_keep_the_roles : StructSortsKeepTheRoles
struct_sorts_keep_the_roles g name cs roles =
    let sort : SortId = record { 0 = length g.sorts } in
    struct_roles (with_sort g name) sort cs (declared_sorts_keep_the_roles g name roles) (abstract_is_bare g.sorts name sort refl)

-- ---- functions without a role
pub structs_give_no_role_to_others : StructsGiveNoRoleToOthers
structs_give_no_role_to_others g s cs roles bare i below none r h = elim (role_cases g s cs roles bare i r h) [
  | inl o ↦ none r o
  | inr n ↦ let above = new_above g s cs roles bare i r n in omega (arith, above, below)
]

pub struct_sorts_give_no_role_to_others : StructSortsGiveNoRoleToOthers
struct_sorts_give_no_role_to_others g name cs roles i below none =
    let sort : SortId = record { 0 = length g.sorts } in
    let there : i.0 < length (with_sort g name).functions = omega (arith, below, length-append g.functions (built_ins g.texts (sort_rows sort))) in
    structs_give_no_role_to_others (with_sort g name) sort cs (declared_sorts_keep_the_roles g name roles) (abstract_is_bare g.sorts name sort refl) i there (declared_sorts_give_no_role g name roles i none)
