-- The first empty sort of a text, read off a signature.
use Rattle.std.proofs.Common.{◌≡◌, ◌<◌, ◌⊎◌, inl, inr, ℕ, zero, suc, Bool, true, false, cond, List, [], ◌∷◌, ◌++◌, ◌+◌, length, map, get_or, refl, ap, sym, ◌∙◌, subst, arith}
use Rattle.std.specs.Prelude.{Option, Some, None, slice_get, pos, bytes_eq}
use Rattle.std.specs.List.{AllByRecursion}
use Rattle.std.proofs.lemmas.Option.{none-some, same_Some, slice_get_within, slice_get_read, get_or_from_slice_get}
use Rattle.std.proofs.lemmas.List.Elements.{All-contains}
use Rattle.std.proofs.lemmas.Slice.Eq.{bytes_eq-Decides}
use Rattle.data_theory.specs.declared.ids.NameId.{NameId}
use Rattle.data_theory.specs.declared.ids.SortId.{SortId}
use Rattle.data_theory.specs.Terms.{Sort, Term, boolean, positive, natural, integer, list, named, truth, empty, numeral, unknown, application, none}
use Rattle.data_theory.specs.Declarations.{IsSort, HasSort, IsConstructed, NoSortIsEmpty}
use Rattle.data_theory.specs.SortNames.{IsName, IsSortName}
use Rattle.data_theory.specs.Signature.{Sig}
use Rattle.data_theory.specs.IdData.{data_meant}
use Rattle.data_theory.specs.IdTerms.{sort_under}
use Rattle.data_theory.specs.WholeSignatures.{IsSignature}
use Rattle.data_theory.proofs.IdSymbolLemmas.{sort_is}
use Rattle.term_pool.specs.ConstructorValues.{HasValue}
use Rattle.term_pool.specs.Inhabited.{AreInhabited}
use Rattle.term_pool.proofs.InhabitedSorts.{values_are_constructed_terms}
use Rattle.sort_table.specs.Expressions.{Name}
use Rattle.sort_table.specs.NamedLists.{first_named}
use Rattle.sort_table.specs.BareSorts.{a_name}
use Rattle.sort_table.specs.BareDeclarations.{Declaration}
use Rattle.sort_table.specs.SortMeanings.{Kind, alone, a_struct, equal_to, kinds_in, UnderNames, under_names}
use Rattle.sort_table.specs.Vocabularies.{IsOwn, declared_alone, declared_as_struct, IsVocabularyOf}
use Rattle.sort_table.specs.SignatureVocabularies.{text_under, vocabulary_of}
use Rattle.sort_table.specs.EmptySorts.{IsEmpty, IsEmptySort, NoEmptySort, IsFirstEmptySort}
use Rattle.sort_table.specs.DeclaredNames.{is_own_kind, own_among, AreNamesOf}
use Rattle.sort_table.proofs.Choices.{chosen}
use Rattle.sort_table.proofs.Growing.{near_or_far}
use Rattle.sort_table.proofs.OneSort.{what_stands_for_a_sort_has_it}
use Rattle.sort_table.proofs.ListForms.{found_entry, is_declared}
use Rattle.sort_table.proofs.SameEmptiness.{own_of, empty_sorts_are_empty_in_each_vocabulary}
use Rattle.sort_table.proofs.NamesFound.{name_found, name_absent}

-- ---- lists

-- ids and the names beside them, one by one
abbrev AreBeside : Sig → List NameId → List (Name × Kind) → Type 0
AreBeside g ids ks = map (λ (i : NameId). slice_get g.texts i.0) ids ≡ map (λ (r : Name × Kind). Some r.0) ks

read_text : (g : Sig) (i : NameId) (r : Name × Kind) → slice_get g.texts i.0 ≡ Some r.0 → text_under g i ≡ r.0
read_text g i r at = get_or_from_slice_get g.texts i.0 r.0 [] at

record HasFirst (P : Name → Type 0) (ks : List (Name × Kind)) (name : Name) : Type 0 where
  front : List (Name × Kind)
  kind : Kind
  behind : List (Name × Kind)
  names : ks ≡ front ++ ((name, kind) ∷ behind)
  earlier : AllByRecursion (λ (e : Name × Kind). ¬ (P e.0)) front

module _ (g : Sig) (P : Name → Type 0) where
  first_of_them : (ids : List NameId) (ks : List (Name × Kind)) → AreBeside g ids ks → (k : ℕ) (n : NameId) → slice_get ids k ≡ Some n → ((j : ℕ) (i : NameId) → j < k → slice_get ids j ≡ Some i → ¬ (P (text_under g i))) → HasFirst P ks (text_under g n)
  first_of_them [] ks so k n at free = cc
  first_of_them (i ∷ ids) [] so k n at free = cc
  first_of_them (i ∷ ids) (r ∷ ks) so zero n at free =
      let here : slice_get g.texts i.0 ≡ Some r.0 = cc in
      let same : i ≡ n = cc in
      let name : text_under g n ≡ r.0 = ap (text_under g) (sym same) ∙ read_text g i r here in
      record { front = []; kind = r.1; behind = ks; names = ap (λ (m : Name). (m, r.1) ∷ ks) (sym name); earlier = tt }
  first_of_them (i ∷ ids) (r ∷ ks) so (suc k) n at free =
      let here : slice_get g.texts i.0 ≡ Some r.0 = cc in
      let there : AreBeside g ids ks = cc in
      let later = first_of_them ids ks there k n at (λ j m l a. free (suc j) m (omega (arith, l)) a) in
      record {
        front = r ∷ later.front;
        kind = later.kind;
        behind = later.behind;
        names = ap (λ xs. r ∷ xs) later.names;
        earlier = ((λ p. free 0 i (omega arith) refl (subst P (sym (read_text g i r here)) p)), later.earlier);
      }

  none_of_them : (ids : List NameId) (ks : List (Name × Kind)) → AreBeside g ids ks → ((j : ℕ) (i : NameId) → slice_get ids j ≡ Some i → ¬ (P (text_under g i))) → AllByRecursion (λ (e : Name × Kind). ¬ (P e.0)) ks
  none_of_them [] [] so free = tt
  none_of_them [] (r ∷ ks) so free = cc
  none_of_them (i ∷ ids) [] so free = cc
  none_of_them (i ∷ ids) (r ∷ ks) so free =
      let here : slice_get g.texts i.0 ≡ Some r.0 = cc in
      let there : AreBeside g ids ks = cc in
      ((λ p. free 0 i refl (subst P (sym (read_text g i r here)) p)), none_of_them ids ks there (λ j m a. free (suc j) m a))

-- ---- names that are no aliases
before_all : (P : Name → Type 0) (ks : List (Name × Kind)) (r : Name × Kind) (name : Name) → ¬ (P r.0) → HasFirst P ks name → HasFirst P (r ∷ ks) name
before_all P ks r name never first = record { front = r ∷ first.front; kind = first.kind; behind = first.behind; names = ap (λ xs. r ∷ xs) first.names; earlier = (never, first.earlier) }

module _ (kind : Name → Option Kind) (P : Name → Type 0) (own : (n : Name) → P n → is_own_kind (kind n) ≡ true) where
  never_alias : (n : Name) → is_own_kind (kind n) ≡ false → ¬ (P n)
  never_alias n alias p = let both : true ≡ false = sym (own n p) ∙ alias in cc

  -- the first of those is the first of all
  first_of_all : (ks : List (Name × Kind)) (name : Name) → HasFirst P (own_among kind ks) name → HasFirst P ks name
  first_of_all [] name first = first
  first_of_all (r ∷ ks) name first = by_test (first_of_all ks name) (is_own_kind (kind r.0)) refl first
    where
      by_front : (HasFirst P (own_among kind ks) name → HasFirst P ks name) → (front : List (Name × Kind)) (k : Kind) (behind : List (Name × Kind)) → r ∷ own_among kind ks ≡ front ++ ((name, k) ∷ behind) → AllByRecursion (λ (e : Name × Kind). ¬ (P e.0)) front → HasFirst P (r ∷ ks) name
      by_front later [] k behind same earlier = let here : r ≡ (name, k) = cc in record { front = []; kind = k; behind = ks; names = ap (λ x. x ∷ ks) here; earlier = tt }
      by_front later (x ∷ front) k behind same earlier =
          let here : x ≡ r = cc in
          let there : own_among kind ks ≡ front ++ ((name, k) ∷ behind) = cc in
          before_all P ks r name (subst (λ (y : Name × Kind). ¬ (P y.0)) here earlier.0) (later (record { front = front; kind = k; behind = behind; names = there; earlier = earlier.1 }))

      by_test : (HasFirst P (own_among kind ks) name → HasFirst P ks name) → (b : Bool) → is_own_kind (kind r.0) ≡ b → HasFirst P (cond b (r ∷ own_among kind ks) (own_among kind ks)) name → HasFirst P (r ∷ ks) name
      by_test later true test first = by_front later first.front first.kind first.behind first.names first.earlier
      by_test later false test first = before_all P ks r name (never_alias r.0 test) (later first)

  -- where none of those is, none of all is
  none_of_all : (ks : List (Name × Kind)) → AllByRecursion (λ (e : Name × Kind). ¬ (P e.0)) (own_among kind ks) → AllByRecursion (λ (e : Name × Kind). ¬ (P e.0)) ks
  none_of_all [] never = tt
  none_of_all (r ∷ ks) never = by_test (none_of_all ks) (is_own_kind (kind r.0)) refl never
    where
      by_test : (AllByRecursion (λ (e : Name × Kind). ¬ (P e.0)) (own_among kind ks) → AllByRecursion (λ (e : Name × Kind). ¬ (P e.0)) ks) → (b : Bool) → is_own_kind (kind r.0) ≡ b → AllByRecursion (λ (e : Name × Kind). ¬ (P e.0)) (cond b (r ∷ own_among kind ks) (own_among kind ks)) → AllByRecursion (λ (e : Name × Kind). ¬ (P e.0)) (r ∷ ks)
      by_test later true test all = (all.0, later all.1)
      by_test later false test all = (never_alias r.0 test, later all)

-- an own name is found among those
found_among : (kind : Name → Option Kind) (ks : List (Name × Kind)) (n : Name) → is_own_kind (kind n) ≡ true → first_named n (own_among kind ks) ≡ first_named n ks
found_among kind [] n own = refl
found_among kind (r ∷ ks) n own = by_test (found_among kind ks n own) (is_own_kind (kind r.0)) refl
  where
    by_name : first_named n (own_among kind ks) ≡ first_named n ks → (b : Bool) → bytes_eq r.0 n ≡ b → is_own_kind (kind r.0) ≡ false → first_named n (own_among kind ks) ≡ cond b (Some r.1) (first_named n ks)
    by_name later true same alias = let both : true ≡ false = sym own ∙ (ap (λ m. is_own_kind (kind m)) (sym ((bytes_eq-Decides r.0 n).0 same)) ∙ alias) in cc
    by_name later false other alias = later

    by_test : first_named n (own_among kind ks) ≡ first_named n ks → (b : Bool) → is_own_kind (kind r.0) ≡ b → first_named n (cond b (r ∷ own_among kind ks) (own_among kind ks)) ≡ cond (bytes_eq r.0 n) (Some r.1) (first_named n ks)
    by_test later true test = ap (cond (bytes_eq r.0 n) (Some r.1)) later
    by_test later false test = by_name later (bytes_eq r.0 n) refl test

-- a name beside one of those is no alias
own_beside : (g : Sig) (kind : Name → Option Kind) (ks : List (Name × Kind)) (ids : List NameId) → AreBeside g ids (own_among kind ks) → (k : ℕ) (n : NameId) → slice_get ids k ≡ Some n → is_own_kind (kind (text_under g n)) ≡ true
own_beside g kind [] [] so k n at = absurd (none-some n at)
own_beside g kind [] (i ∷ ids) so k n at = cc
own_beside g kind (r ∷ ks) ids so k n at = by_test (own_beside g kind ks) (is_own_kind (kind r.0)) refl so
  where
    by_place : ((is : List NameId) → AreBeside g is (own_among kind ks) → (j : ℕ) (m : NameId) → slice_get is j ≡ Some m → is_own_kind (kind (text_under g m)) ≡ true) → (is : List NameId) (j : ℕ) → is_own_kind (kind r.0) ≡ true → AreBeside g is (r ∷ own_among kind ks) → slice_get is j ≡ Some n → is_own_kind (kind (text_under g n)) ≡ true
    by_place later [] j own same there = cc
    by_place later (i ∷ is) zero own same there =
        let here : slice_get g.texts i.0 ≡ Some r.0 = cc in
        let one : i ≡ n = cc in
        ap (λ m. is_own_kind (kind m)) (ap (text_under g) (sym one) ∙ read_text g i r here) ∙ own
    by_place later (i ∷ is) (suc j) own same there = let rest : AreBeside g is (own_among kind ks) = cc in later is rest j n there

    by_test : ((is : List NameId) → AreBeside g is (own_among kind ks) → (j : ℕ) (m : NameId) → slice_get is j ≡ Some m → is_own_kind (kind (text_under g m)) ≡ true) → (b : Bool) → is_own_kind (kind r.0) ≡ b → AreBeside g ids (cond b (r ∷ own_among kind ks) (own_among kind ks)) → is_own_kind (kind (text_under g n)) ≡ true
    by_test later true test same = by_place later ids k test same at
    by_test later false test same = later ids same k n at

own_is_kind : (u : UnderNames) (n : Name) → IsOwn u n → is_own_kind (u.sort n) ≡ true
own_is_kind u n (declared_alone h) = ap is_own_kind h
own_is_kind u n (declared_as_struct h) = ap is_own_kind h

kind_is_own : (u : UnderNames) (n : Name) → is_own_kind (u.sort n) ≡ true → IsOwn u n
kind_is_own u n own = by_kind (u.sort n) refl own
  where
    by_kind : (o : Option Kind) → u.sort n ≡ o → is_own_kind o ≡ true → IsOwn u n
    by_kind (Some alone) same own = declared_alone same
    by_kind (Some a_struct) same own = declared_as_struct same
    by_kind (Some (equal_to e)) same own = let no_way : false ≡ true = own in cc
    by_kind None same own = let no_way : false ≡ true = own in cc

pub text_within : (g : Sig) (ids : List NameId) (ks : List (Name × Kind)) → AreBeside g ids ks → (k : ℕ) (n : NameId) → slice_get ids k ≡ Some n → n.0 < length g.texts
text_within g [] ks so k n at = cc
text_within g (i ∷ ids) [] so k n at = cc
text_within g (i ∷ ids) (r ∷ ks) so zero n at =
    let same : i ≡ n = cc in
    let here : slice_get g.texts i.0 ≡ Some r.0 = cc in
    subst (λ (m : NameId). m.0 < length g.texts) same (slice_get_within g.texts i.0 r.0 here)
text_within g (i ∷ ids) (r ∷ ks) so (suc k) n at = let there : AreBeside g ids ks = cc in text_within g ids ks there k n at

-- ---- sorts
-- the sort of the name has a value, or the name is that of no sort
abbrev pub IsInhabitedName : Sig → NameId → Type 0
IsInhabitedName g n = ((s : SortId) × IsSortName g.sort_names n s × HasValue g s) ⊎ ¬ (IsName g.sort_names n)

pub one_more_name : (g : Sig) (ids : List NameId) (k : ℕ) (d : NameId) → ((j : ℕ) (i : NameId) → j < k → slice_get ids j ≡ Some i → IsInhabitedName g i) → IsInhabitedName g (get_or ids k d) → (j : ℕ) (i : NameId) → j < k + 1 → slice_get ids j ≡ Some i → IsInhabitedName g i
one_more_name g ids k d before here j i l at = elim (near_or_far j k) [
  | inl near ↦ before j i near at
  | inr far ↦
      let same : j ≡ k = omega (arith, l, far) in
      subst (IsInhabitedName g) (get_or_from_slice_get ids k i d (ap (slice_get ids) (sym same) ∙ at)) here
]

module _ (g : Sig) (stands : IsSignature g) where
  -- a sort without a value is a declared one
  declared_where_empty : (s : SortId) → s.0 < length g.sorts → ¬ (HasValue g s) → (d : ℕ) × (sort_under g s ≡ named d)
  declared_where_empty s within never = by_sort (sort_under g s) refl
    where
      value : (t : Term) → IsConstructed (data_meant g) t → HasSort (data_meant g) [] t (sort_under g s) → (d : ℕ) × (sort_under g s ≡ named d)
      value t c h = absurd (never ((values_are_constructed_terms g stands s within).1 (t, (c, h))))

      by_sort : (m : Sort) → sort_under g s ≡ m → (d : ℕ) × (sort_under g s ≡ named d)
      by_sort boolean e = value (application truth none) tt (subst (HasSort (data_meant g) [] (application truth none)) (sym e) (tt, tt, refl, refl))
      by_sort positive e = value (numeral positive (pos 1)) tt (subst (HasSort (data_meant g) [] (numeral positive (pos 1))) (sym e) (refl, (record { le = tt }, omega arith)))
      by_sort natural e = value (numeral natural (pos 0)) tt (subst (HasSort (data_meant g) [] (numeral natural (pos 0))) (sym e) (refl, (record { le = tt }, omega arith)))
      by_sort integer e = value (numeral integer (pos 0)) tt (subst (HasSort (data_meant g) [] (numeral integer (pos 0))) (sym e) (refl, (tt, omega arith)))
      by_sort (list m) e =
          let there : IsSort (data_meant g) (list m) = subst (IsSort (data_meant g)) e (sort_is g stands.table s within) in
          value (application (empty m) none) tt (subst (HasSort (data_meant g) [] (application (empty m) none)) (sym e) (there, tt, refl, refl))
      by_sort (named d) e = (d, e)

  empty_where_no_value : (s : SortId) (d : ℕ) → s.0 < length g.sorts → sort_under g s ≡ named d → ¬ (HasValue g s) → IsEmpty (data_meant g) d
  empty_where_no_value s d within is never = (
    λ bare. (
        let there : IsSort (data_meant g) (named d) = subst (IsSort (data_meant g)) is (sort_is g stands.table s within) in
        never ((values_are_constructed_terms g stands s within).1 (unknown d 0, (tt, subst (HasSort (data_meant g) [] (unknown d 0)) (sym is) (refl, there, bare))))
        ),
    λ t c h. never ((values_are_constructed_terms g stands s within).1 (t, (c, subst (HasSort (data_meant g) [] t) (sym is) h))),
  )

  within_sorts : (n : NameId) (s : SortId) → IsSortName g.sort_names n s → s.0 < length g.sorts
  within_sorts n s is = (All-contains (λ (e : NameId × SortId). (e.0.0 < length g.texts) × (e.1.0 < length g.sorts)) g.sort_names (n, s) stands.complete.within.sort_names is).1

  module _ (ds : List Declaration) (is : IsVocabularyOf (under_names ds) (vocabulary_of g)) where
    -- an empty sort has a name of the signature, with no value
    inhabited_is_not_empty : (n : NameId) → n.0 < length g.texts → IsInhabitedName g n → ¬ (IsEmptySort ds (text_under g n))
    inhabited_is_not_empty n within full e =
        let u = under_names ds in
        let own = own_of u e.vocabulary e.declared.sorts (text_under g n) e.number e.named_so in
        let there = is.sorts.others own.own own.is_own in
        let has : first_named (text_under g n) (vocabulary_of g).sort_names ≡ Some (named there.0) = what_stands_for_a_sort_has_it u (vocabulary_of g) is.sorts (a_name (text_under g n)) (a_name own.own) own.stands ∙ there.1.0 in
        let empty_here : IsEmpty (data_meant g) there.0 = empty_sorts_are_empty_in_each_vocabulary u e.vocabulary (vocabulary_of g) e.declared is (text_under g n) e.number there.0 e.named_so has e.empty in
        elim full [
          | inl (s, its, value) ↦
              let found = name_found g stands n within s its in
              let sort : sort_under g s ≡ named there.0 = same_Some (sort_under g s) (named there.0) (sym found ∙ has) in
              let term = (values_are_constructed_terms g stands s (within_sorts n s its)).0 value in
              empty_here.1 term.0 term.1.0 (subst (HasSort (data_meant g) [] term.0) sort term.1.1)
          | inr never ↦ none-some (named there.0) (sym (name_absent g stands n within never) ∙ has)
        ]

    no_value_is_empty : (n : NameId) → n.0 < length g.texts → IsOwn (under_names ds) (text_under g n) → (s : SortId) → IsSortName g.sort_names n s → ¬ (HasValue g s) → IsEmptySort ds (text_under g n)
    no_value_is_empty n within own s its never =
        let low = within_sorts n s its in
        let d = declared_where_empty s low never in
        let name : first_named (text_under g n) (vocabulary_of g).sort_names ≡ Some (named d.0) = name_found g stands n within s its ∙ ap Some d.1 in
        record {
          vocabulary = vocabulary_of g;
          number = d.0;
          declared = is;
          own = own;
          named_so = name;
          within = (own_of (under_names ds) (vocabulary_of g) is.sorts (text_under g n) d.0 name).has.1;
          empty = empty_where_no_value s d.0 low d.1 never;
        }

    -- ---- the answers
    pub found_empty : (ids : List NameId) → AreNamesOf g ids ds → (k : ℕ) (n : NameId) (s : SortId) → slice_get ids k ≡ Some n → ((j : ℕ) (i : NameId) → j < k → slice_get ids j ≡ Some i → IsInhabitedName g i) → IsSortName g.sort_names n s → ¬ (HasValue g s) → IsFirstEmptySort ds (text_under g n)
    found_empty ids so k n s at full its never =
        let u = under_names ds in
        let own = own_among u.sort (kinds_in ds) in
        let first = first_of_all u.sort (IsEmptySort ds) (λ m e. own_is_kind u m e.own) (kinds_in ds) (text_under g n)
        (first_of_them g (IsEmptySort ds) ids own so k n at (λ j i l a. inhabited_is_not_empty i (text_within g ids own so j i a) (full j i l a))) in
        record {
          front = first.front;
          kind = first.kind;
          behind = first.behind;
          names = first.names;
          empty = no_value_is_empty n (text_within g ids own so k n at) (kind_is_own u (text_under g n) (own_beside g u.sort (kinds_in ds) ids so k n at)) s its never;
          earlier = first.earlier;
        }

    pub none_empty : (ids : List NameId) → AreNamesOf g ids ds → ((j : ℕ) (i : NameId) → slice_get ids j ≡ Some i → IsInhabitedName g i) → NoEmptySort ds
    none_empty ids so full n e =
        let u = under_names ds in
        let own = own_among u.sort (kinds_in ds) in
        let all = none_of_all u.sort (IsEmptySort ds) (λ m h. own_is_kind u m h.own) (kinds_in ds)
        (none_of_them g (IsEmptySort ds) ids own so (λ j i a. inhabited_is_not_empty i (text_within g ids own so j i a) (full j i a))) in
        let stood = (e.declared.sorts.named n).0 (named e.number, e.named_so) in
        let known : (k : Kind) × (first_named n (kinds_in ds) ≡ Some k) = is_declared u n stood.0 stood.1 in
        found_entry (λ m _. ¬ (IsEmptySort ds m)) n (kinds_in ds) known.0 all known.1 e

    -- each sort has a value
    pub all_have_values : (ids : List NameId) → AreNamesOf g ids ds → ((j : ℕ) (i : NameId) → slice_get ids j ≡ Some i → IsInhabitedName g i) → NoSortIsEmpty (data_meant g)
    all_have_values ids so full d l =
        let own = is.sorts.no_more d l in
        let u = under_names ds in
        let known = declared_kind own.0 own.1 in
        let at = id_beside ids (own_among u.sort (kinds_in ds)) so own.0 known.0 (found_among u.sort (kinds_in ds) own.0 (own_is_kind u own.0 own.1) ∙ known.1) in
        let name : text_under g at.1 ≡ own.0 = get_or_from_slice_get g.texts at.1.0 own.0 [] at.3 in
        let within = slice_get_within g.texts at.1.0 own.0 at.3 in
        let has : first_named (text_under g at.1) (vocabulary_of g).sort_names ≡ Some (named d) = ap (λ (m : Name). first_named m (vocabulary_of g).sort_names) name ∙ own.2.0 in
        elim (full at.0 at.1 at.2) [
          | inl (s, its, value) ↦
              let found = name_found g stands at.1 within s its in
              let sort : sort_under g s ≡ named d = same_Some (sort_under g s) (named d) (sym found ∙ has) in
              let term = (values_are_constructed_terms g stands s (within_sorts at.1 s its)).0 value in
              (term.0, (term.1.0, subst (HasSort (data_meant g) [] term.0) sort term.1.1))
          | inr never ↦ absurd (none-some (named d) (sym (name_absent g stands at.1 within never) ∙ has))
        ]
      where
        declared_kind : (n : Name) → IsOwn (under_names ds) n → (k : Kind) × (first_named n (kinds_in ds) ≡ Some k)
        declared_kind n (declared_alone h) = (alone, h)
        declared_kind n (declared_as_struct h) = (a_struct, h)

        id_beside : (is : List NameId) (ks : List (Name × Kind)) → AreBeside g is ks → (n : Name) (k : Kind) → first_named n ks ≡ Some k → (j : ℕ) × (i : NameId) × (slice_get is j ≡ Some i) × (slice_get g.texts i.0 ≡ Some n)
        id_beside [] [] same n k h = absurd (none-some k h)
        id_beside [] (r ∷ ks) same n k h = cc
        id_beside (i ∷ is) [] same n k h = cc
        id_beside (i ∷ is) (r ∷ ks) same n k h =
            let here : slice_get g.texts i.0 ≡ Some r.0 = cc in
            let there : AreBeside g is ks = cc in
            chosen (bytes_eq r.0 n) (Some r.1) (first_named n ks) k h
            (λ test found. (0, i, refl, here ∙ ap Some ((bytes_eq-Decides r.0 n).0 test)))
            (λ other later. (let rest = id_beside is ks there n k later in (suc rest.0, rest.1, rest.2, rest.3)))

-- ---- marks
mark_read : (marks : List Bool) (k : ℕ) (r : Bool) → k < length marks → r ≡ get_or marks k r → get_or marks k false ≡ r
mark_read marks k r below is = get_or_from_slice_get marks k r false (slice_get_read marks (length marks) k r refl below is)

pub value_by_mark : (g : Sig) (marks : List Bool) → AreInhabited g marks → (n : NameId) (s : SortId) (r : Bool) → s.0 < length marks → r ≡ get_or marks s.0 r → IsSortName g.sort_names n s → r ≡ true → IsInhabitedName g n
value_by_mark g marks are n s r below is its set = inl (s, its, (are.exact s).0 (mark_read marks s.0 r below is ∙ set))

pub no_value_by_mark : (g : Sig) (marks : List Bool) → AreInhabited g marks → (s : SortId) (r : Bool) → s.0 < length marks → r ≡ get_or marks s.0 r → r ≡ false → ¬ (HasValue g s)
no_value_by_mark g marks are s r below is unset has = let set : r ≡ true = sym (mark_read marks s.0 r below is) ∙ (are.exact s).1 has in let both : true ≡ false = sym set ∙ unset in cc

pub is_mark : (g : Sig) → IsSignature g → (marks : List Bool) → AreInhabited g marks → (n : NameId) (s : SortId) → IsSortName g.sort_names n s → s.0 < length marks
is_mark g stands marks are n s its = omega (arith, are.size, within_sorts g stands n s its)
