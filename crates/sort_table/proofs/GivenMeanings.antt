-- What stays of a signature whose sorts get the constructors of `cons`.
use Rattle.std.proofs.Common.{◌≡◌, ◌+◌, ℕ, suc, Bool, List, [], ◌∷◌, ◌++◌, length, map, refl, ap, sym, ◌∙◌, subst, arith}
use Rattle.std.specs.Prelude.{Some, slice_get}
use Rattle.std.specs.List.{Contains}
use Rattle.std.proofs.lemmas.List.{length-append}
use Rattle.std.proofs.lemmas.Option.{slice_get_within}
use Rattle.data_theory.specs.declared.ids.NameId.{NameId}
use Rattle.data_theory.specs.declared.ids.SortId.{SortId}
use Rattle.data_theory.specs.declared.ids.FunId.{FunId}
use Rattle.data_theory.specs.Terms.{Sort}
use Rattle.data_theory.specs.Sorts.{Kind, SortInfo, lists_over, without_constructors, by_declarations, structured, IsListOver}
use Rattle.data_theory.specs.Signature.{Sig}
use Rattle.data_theory.specs.IdSorts.{constructions, construction_of, meaning_of, meant_by, meanings_behind}
use Rattle.data_theory.specs.IdData.{constructors_of}
use Rattle.data_theory.specs.IdRoles.{declared_number, constructs, projects, recognises, HasNoRole}
use Rattle.data_theory.specs.Declarations.{constructor, projection, recogniser}
use Rattle.data_theory.specs.IdTerms.{sort_under}
use Rattle.data_theory.proofs.IdSortLemmas.{read_within}
use Rattle.sort_table.specs.Expressions.{Name}
use Rattle.sort_table.specs.SignatureVocabularies.{text_under, sort_name_under}
use Rattle.sort_table.specs.NamedSorts.{sort_count}
use Rattle.sort_table.specs.EnteredFunctions.{IsNameId, Constructs}
use Rattle.sort_table.specs.ConstructorMarks.{IsConsOf, IsGiven, has_others, has_none, has_these, GivesConstructors}
use Rattle.sort_table.proofs.KeptMeanings.{KeepsMeanings}

-- ---- sorts that count alike and mean alike
abbrev AreAlike : SortInfo → SortInfo → Type 0
AreAlike s t = (length (construction_of s.kind) ≡ length (construction_of t.kind)) × ((m : SortId → Sort) (d : ℕ) → meaning_of m d s.kind ≡ meaning_of m d t.kind)

meanings_alike : (ss ts : List SortInfo) → length ts ≡ length ss → ((i : ℕ) (s t : SortInfo) → slice_get ss i ≡ Some s → slice_get ts i ≡ Some t → AreAlike s t)
    → (ms : List Sort) (d : ℕ) → meanings_behind ms d ts ≡ meanings_behind ms d ss
meanings_alike [] [] long each ms d = refl
meanings_alike [] (t ∷ ts) long each ms d = absurd (omega (arith, long))
meanings_alike (s ∷ ss) [] long each ms d = absurd (omega (arith, long))
meanings_alike (s ∷ ss) (t ∷ ts) long each ms d =
    let here = each 0 s t refl refl in
    let means : meaning_of (meant_by ms) d t.kind ≡ meaning_of (meant_by ms) d s.kind = sym (here.1 (meant_by ms) d) in
    let many : length (construction_of t.kind) ≡ length (construction_of s.kind) = sym here.0 in
    meanings_alike ss ts (omega (arith, long)) (λ i a b x y. each (suc i) a b x y) (ms ++ meaning_of (meant_by ms) d t.kind ∷ []) (d + length (construction_of t.kind))
    ∙ (λ j. meanings_behind (ms ++ means j ∷ []) (d + many j) ss)

counts_alike : (ss ts : List SortInfo) → length ts ≡ length ss → ((i : ℕ) (s t : SortInfo) → slice_get ss i ≡ Some s → slice_get ts i ≡ Some t → AreAlike s t) → length (constructions ts) ≡ length (constructions ss)
counts_alike [] [] long each = refl
counts_alike [] (t ∷ ts) long each = absurd (omega (arith, long))
counts_alike (s ∷ ss) [] long each = absurd (omega (arith, long))
counts_alike (s ∷ ss) (t ∷ ts) long each =
    let here = (each 0 s t refl refl).0 in
    let rest = counts_alike ss ts (omega (arith, long)) (λ i a b x y. each (suc i) a b x y) in
    let a = length-append (construction_of s.kind) (constructions ss) in
    let b = length-append (construction_of t.kind) (constructions ts) in
    omega (arith, here, rest, a, b)

map_alike : {A B : Type 0} (f k : A → B) → ((x : A) → f x ≡ k x) → (xs : List A) → map f xs ≡ map k xs
map_alike f k e [] = refl
map_alike f k e (x ∷ xs) = let head = e x in let rest = map_alike f k e xs in (λ i. head i ∷ rest i)

-- ---- one sort
module _ (g : Sig) (marks : List Bool) (s : SortId) (t : SortInfo) where
  alike : (u : SortInfo) → IsGiven g marks s t u → AreAlike t u
  alike _ (has_others other) = (refl, λ m d. refl)
  alike _ (has_none bare none) = (refl, λ m d. refl)
  alike _ (has_these fs bare only all i c) = (ap (λ (k : Kind). length (construction_of k)) bare, λ m d. ap (meaning_of m d) bare)

  list_before : (u : SortInfo) (e : SortId) → IsGiven g marks s t u → u.kind ≡ lists_over e → t.kind ≡ lists_over e
  list_before _ e (has_others other) k = k
  list_before _ e (has_none bare none) k = k
  list_before _ e (has_these fs bare only all i c) k = (let both : by_declarations fs ≡ lists_over e = k in cc)

  pub struct_after : (u : SortInfo) (cs : List FunId) → IsGiven g marks s t u → t.kind ≡ structured cs → u.kind ≡ structured cs
  struct_after _ cs (has_others other) k = k
  struct_after _ cs (has_none bare none) k = k
  struct_after _ cs (has_these fs bare only all i c) k = (let both : without_constructors ≡ structured cs = sym bare ∙ k in cc)

  constructor_after : (u : SortInfo) (i : FunId) → IsGiven g marks s t u → Contains (constructors_of t.kind) i → Contains (constructors_of u.kind) i
  constructor_after _ i (has_others other) c = c
  constructor_after _ i (has_none bare none) c = c
  constructor_after _ i (has_these fs bare only all j d) c = (let never = subst (λ (k : Kind). Contains (constructors_of k) i) bare c in let low = never.1 in absurd (omega (arith, low)))

  -- a constructor was one before, or comes from a `cons`
  constructor_before : (u : SortInfo) (i : FunId) → IsGiven g marks s t u → Contains (constructors_of u.kind) i → (Contains (constructors_of t.kind) i → ⊥) → (t.kind ≡ without_constructors) × IsConsOf g marks s i
  constructor_before _ i (has_others other) c never = absurd (never c)
  constructor_before _ i (has_none bare none) c never = absurd (never c)
  constructor_before _ i (has_these fs bare only all j d) c never = (bare, only i c)

  pub given_constructor : (u : SortInfo) (i : FunId) → IsGiven g marks s t u → t.kind ≡ without_constructors → IsConsOf g marks s i → Contains (constructors_of u.kind) i
  given_constructor _ i (has_others other) bare is = absurd (other bare)
  given_constructor _ i (has_none now none) bare is = absurd (none i is)
  given_constructor _ i (has_these fs now only all j d) bare is = all i is

-- ---- the whole signature
module _ (marks : List Bool) (g h : Sig) (gives : GivesConstructors marks g h) where
  alike_at : (i : ℕ) (s t : SortInfo) → slice_get g.sorts i ≡ Some s → slice_get h.sorts i ≡ Some t → AreAlike s t
  alike_at i s t a b = alike g marks (record { 0 = i }) s t (gives.given (record { 0 = i }) s t a b)

  same_sort : (s : SortId) → sort_under h s ≡ sort_under g s
  same_sort s = ap (λ (ms : List Sort). meant_by ms s) (meanings_alike g.sorts h.sorts gives.long alike_at [] 0)

  pub same_texts : h.texts ≡ g.texts
  same_texts = ap (λ (x : Sig). x.texts) gives.same

  pub same_functions : h.functions ≡ g.functions
  same_functions = ap (λ (x : Sig). x.functions) gives.same

  pub same_declared : h.declared ≡ g.declared
  same_declared = ap (λ (x : Sig). x.declared) gives.same

  same_name : (e : NameId × SortId) → sort_name_under h e ≡ sort_name_under g e
  same_name e =
      let name : text_under h e.0 ≡ text_under g e.0 = ap (λ (x : Sig). text_under x e.0) gives.same in
      let sort : sort_under h e.1 ≡ sort_under g e.1 = same_sort e.1 in
      (λ i. (name i, sort i))

  pub meanings_given : KeepsMeanings g h
  meanings_given = record {
    names = ap (λ (x : Sig). map (sort_name_under h) x.sort_names) gives.same ∙ map_alike (sort_name_under h) (sort_name_under g) same_name g.sort_names;
    sorts = λ s l. (let long = gives.long in omega (arith, l, long), same_sort s);
  }

  pub count_given : sort_count h ≡ sort_count g
  count_given = counts_alike g.sorts h.sorts gives.long alike_at

  -- what a sort was
  pub sort_before : (s : SortId) (u : SortInfo) → slice_get h.sorts s.0 ≡ Some u → (t : SortInfo) × (slice_get g.sorts s.0 ≡ Some t) × IsGiven g marks s t u
  sort_before s u at =
      let low = slice_get_within h.sorts s.0 u at in
      let long = gives.long in
      let r = read_within g.sorts s.0 (omega (arith, low, long)) in
      (r.0, r.1, gives.given s r.0 u r.1 at)

  -- what a sort becomes
  pub sort_after : (s : SortId) (t : SortInfo) → slice_get g.sorts s.0 ≡ Some t → (u : SortInfo) × (slice_get h.sorts s.0 ≡ Some u) × IsGiven g marks s t u
  sort_after s t at =
      let low = slice_get_within g.sorts s.0 t at in
      let long = gives.long in
      let r = read_within h.sorts s.0 (omega (arith, low, long)) in
      (r.0, r.1, gives.given s t r.0 at r.1)

  pub lists_given : (e l : SortId) → IsListOver h.sorts e l → IsListOver g.sorts e l
  lists_given e l (u, at, kind) = (let r = sort_before l u at in (r.0, r.1, list_before g marks l r.0 u e r.2 kind))

  pub constructs_given : (i : FunId) → Constructs g i → Constructs h i
  constructs_given i (s, t, at, among) = (let r = sort_after s t at in (s, r.0, r.1, constructor_after g marks s t r.0 i r.2 among))

  -- a function without a role that no `cons` gives to a sort without constructors still has none
  pub free_given : (i : FunId) → HasNoRole g i → ((s : SortId) (t : SortInfo) → slice_get g.sorts s.0 ≡ Some t → t.kind ≡ without_constructors → ¬ (IsConsOf g marks s i)) → HasNoRole h i
  free_given i none never r (constructs s u at c) =
      let before = sort_before s u at in
      let made = constructor_before g marks s before.0 u i before.2 c (λ d. none constructor (constructs s before.0 before.1 d)) in
      never s before.0 before.1 made.0 made.1
  free_given i none never _ (projects c f k at p) = none (projection (declared_number g.functions c) k) (projects c f k (ap (λ fs. slice_get fs c.0) (sym same_functions) ∙ at) p)
  free_given i none never _ (recognises c f at t) = none (recogniser (declared_number g.functions c)) (recognises c f (ap (λ fs. slice_get fs c.0) (sym same_functions) ∙ at) t)

  pub name_given : (n : Name) (i : NameId) → IsNameId g n i → IsNameId h n i
  name_given n i at = ap (λ ts. slice_get ts i.0) same_texts ∙ at
