-- The vocabulary of a signature whose functions are entered, and whose sorts have got the constructors of `cons`.
use Rattle.std.proofs.Common.{◌≡◌, ◌<◌, ◌+◌, ◌⊎◌, inl, inr, ℕ, zero, suc, Bool, true, false, cond, List, [], ◌∷◌, length, map, take, refl, ap, sym, ◌∙◌, subst, arith}
use Rattle.std.specs.Prelude.{Some, None, slice_get, bytes_eq, option_map, option_and_then}
use Rattle.std.specs.List.{Contains}
use Rattle.std.proofs.lemmas.Option.{none-some, same_Some}
use Rattle.std.proofs.lemmas.Slice.Eq.{bytes_eq-Decides}
use Rattle.data_theory.specs.declared.ids.SortId.{SortId}
use Rattle.data_theory.specs.declared.ids.FunId.{FunId}
use Rattle.data_theory.specs.Terms.{Sort, list, named}
use Rattle.data_theory.specs.Declarations as theory
use Rattle.data_theory.specs.Declarations.{Construction, Role, DeclaredFunction, constructor, projection, recogniser, mapping, IsSort, function_at, sort_at}
use Rattle.data_theory.specs.Sorts as kinds
use Rattle.data_theory.specs.Sorts.{Kind, SortInfo, without_constructors, by_declarations, structured}
use Rattle.data_theory.specs.Functions.{Function}
use Rattle.data_theory.specs.Signature.{Sig}
use Rattle.data_theory.specs.IdSorts.{constructions, construction_of, meaning_of}
use Rattle.data_theory.specs.IdTables.{IsTable}
use Rattle.data_theory.specs.IdTerms.{sort_under}
use Rattle.data_theory.specs.IdData.{constructors_of, role_meant, data_meant}
use Rattle.data_theory.specs.IdRoles.{constructs, projects, recognises, HasNoRole, declared_number}
use Rattle.data_theory.specs.WholeSignatures.{IsSignature}
use Rattle.data_theory.proofs.IdDataLemmas.{holds_of_role, constructor_tells, roles_are_found}
use Rattle.data_theory.proofs.IdSortLemmas.{read_within, declared_sorts_stand_in_the_data, different_sorts_mean_different_sorts}
use Rattle.data_theory.proofs.IdSymbolLemmas.{read_sort, sort_is}
use Rattle.sort_table.specs.Expressions.{Name}
use Rattle.sort_table.specs.NamedLists.{all_named}
use Rattle.sort_table.specs.BareSorts.{SortExpression, a_name}
use Rattle.sort_table.specs.BareDeclarations.{Declaration}
use Rattle.sort_table.specs.SortMeanings.{alone, a_struct, UnderNames, under_names, StandsFor, for_truth_values, for_positives, for_naturals, for_integers, for_lists, for_plain, for_struct, for_alias, StandForEach, and_sort}
use Rattle.sort_table.specs.TextFunctions as text
use Rattle.sort_table.specs.TextFunctions.{TextRole, TextFunction, Named, struct_constructor, declared_constructor, functions_in}
use Rattle.sort_table.specs.Vocabularies.{Vocabulary, sort_in, sorts_in, HasConstructor, IsConstruction, by_struct, by_cons, by_none, IsOwn, declared_alone, declared_as_struct, HasSorts, HasNumber, GivesPlain, IsRole, of_cons, of_no_cons, IsFunction, EachPair, HasFunctions}
use Rattle.sort_table.specs.Vocabularies as vocabulary
use Rattle.sort_table.specs.SignatureVocabularies.{function_name_of, function_names_from, vocabulary_of}
use Rattle.sort_table.specs.NamedSorts.{HaveSortNames, HasSortNumber, sort_names_of, sort_count}
use Rattle.sort_table.specs.EnteredFunctions as entered
use Rattle.sort_table.specs.EnteredFunctions.{HasSortOf, HasTextRole, IsConstructorAt, IsEntered, AreEntered}
use Rattle.sort_table.specs.FunctionStates.{HasBareSort, IsStructured}
use Rattle.sort_table.specs.ConstructorMarks.{is_declared_role, marks_of, IsConsAt, IsConsOf, IsGiven, has_others, has_none, has_these, GivesConstructors}
use Rattle.sort_table.proofs.OneSort.{one_sort}
use Rattle.sort_table.proofs.SortTablesOfNames.{have_same_sorts}
use Rattle.sort_table.proofs.ListForms.{SameNames, each_named}
use Rattle.sort_table.proofs.NamedSignatures.{text_of_id}
use Rattle.sort_table.proofs.NewFunctions.{pair_at, sorts_meant}
use Rattle.sort_table.proofs.EnteringStructs.{as_many}
use Rattle.sort_table.proofs.NothingTwice.{mapped_at}
use Rattle.sort_table.proofs.ListedFunctions.{one_listed, listed_place, within_listed, listed_within, place_of_listed, listed_meant}
use Rattle.sort_table.proofs.KeptMeanings.{KeepsMeanings, sort_stays, sorts_stay}
use Rattle.sort_table.proofs.GivenConstructors.{pair_along, bare_or_not}
use Rattle.sort_table.proofs.GivenMeanings.{struct_after, given_constructor, same_functions, same_declared, meanings_given, count_given, sort_after, constructs_given, free_given, name_given}

-- ---- entries of a name
named_among : (fs : List Named) (p : ℕ) (f : Named) → slice_get fs p ≡ Some f → Contains (all_named f.0 fs) f.1
named_among [] p f at = absurd (none-some f at)
named_among (x ∷ fs) zero f at =
    let same : x ≡ f = same_Some x f at in
    let is : bytes_eq x.0 f.0 ≡ true = (bytes_eq-Decides x.0 f.0).1 (ap (λ (y : Named). y.0) same) in
    subst (λ (b : Bool). Contains (cond b (x.1 ∷ all_named f.0 fs) (all_named f.0 fs)) f.1) (sym is) (zero, omega arith, ap (λ (y : Named). y.1) same)
named_among (x ∷ fs) (suc p) f at = by_test (bytes_eq x.0 f.0) (named_among fs p f at)
  where
    by_test : (b : Bool) → Contains (all_named f.0 fs) f.1 → Contains (cond b (x.1 ∷ all_named f.0 fs) (all_named f.0 fs)) f.1
    by_test true c = (let low = c.1 in (suc c.0, omega (arith, low), c.2))
    by_test false c = c

named_place : (fs : List Named) (c : Name) (f : TextFunction) → Contains (all_named c fs) f → (p : ℕ) × (slice_get fs p ≡ Some (c, f))
named_place [] c f among = absurd (let low = among.1 in omega (arith, low))
named_place (x ∷ fs) c f among = by_test (named_place fs c f) (bytes_eq x.0 c) refl among
  where
    Place : List Named → Type 0
    Place xs = (p : ℕ) × (slice_get xs p ≡ Some (c, f))

    by_test : (Contains (all_named c fs) f → Place fs) → (b : Bool) → bytes_eq x.0 c ≡ b → Contains (cond b (x.1 ∷ all_named c fs) (all_named c fs)) f → Place (x ∷ fs)
    by_test later true is (zero, l, e) = (let name = (bytes_eq-Decides x.0 c).0 is in (0, λ i. Some (name i, e i)))
    by_test later true is (suc k, l, e) = (let r = later (k, omega (arith, l), e) in (suc r.0, r.1))
    by_test later false is d = (let r = later d in (suc r.0, r.1))

pub declared_by_mark : (r : TextRole) → is_declared_role r ≡ true → r ≡ declared_constructor
declared_by_mark struct_constructor e = let never : false ≡ true = e in cc
declared_by_mark declared_constructor e = refl
declared_by_mark (text.projection c es i) e = let never : false ≡ true = e in cc
declared_by_mark (text.recogniser c es) e = let never : false ≡ true = e in cc
declared_by_mark text.mapping e = let never : false ≡ true = e in cc

-- ---- what stands for one name
names_agree : (u : UnderNames) (ns : List (Name × Sort)) (count : ℕ) → HaveSortNames u ns count → (e s : SortExpression) → StandsFor u e s → sort_in ns e ≡ sort_in ns s
names_agree u ns count have _ _ for_truth_values = refl
names_agree u ns count have _ _ for_positives = refl
names_agree u ns count have _ _ for_naturals = refl
names_agree u ns count have _ _ for_integers = refl
names_agree u ns count have _ _ (for_lists e s h) = ap (option_map list) (names_agree u ns count have e s h)
names_agree u ns count have _ _ (for_plain n h) = refl
names_agree u ns count have _ _ (for_struct n h) = refl
names_agree u ns count have _ _ (for_alias n e s h r) = have.aliases n e h ∙ names_agree u ns count have e s r

first_stands : (u : UnderNames) (e f : SortExpression) (rs : List SortExpression) → StandForEach u (e ∷ []) rs → StandForEach u (f ∷ []) rs → (s : SortExpression) × StandsFor u e s × StandsFor u f s
first_stands u e f _ (and_sort _ s _ _ h hs) (and_sort _ _ _ _ k ks) = (s, h, k)

stands_itself : (u : UnderNames) (n : Name) → IsOwn u n → StandsFor u (a_name n) (a_name n)
stands_itself u n (declared_alone h) = for_plain n h
stands_itself u n (declared_as_struct h) = for_struct n h

-- ---- kinds
means_number : (m : SortId → Sort) (d : ℕ) (k : Kind) (c : Construction) → construction_of k ≡ c ∷ [] → meaning_of m d k ≡ named d
means_number m d kinds.booleans c e = let never : [] ≡ c ∷ [] = e in cc
means_number m d kinds.positives c e = let never : [] ≡ c ∷ [] = e in cc
means_number m d kinds.naturals c e = let never : [] ≡ c ∷ [] = e in cc
means_number m d kinds.integers c e = let never : [] ≡ c ∷ [] = e in cc
means_number m d (kinds.lists_over x) c e = let never : [] ≡ c ∷ [] = e in cc
means_number m d kinds.without_constructors c e = refl
means_number m d (kinds.by_declarations fs) c e = refl
means_number m d (kinds.structured fs) c e = refl

same_number : (a b : ℕ) → named a ≡ named b → a ≡ b
same_number a b e = cc

-- the construction of a sort, by its kind
kind_meant : (h : Sig) → IsTable h → (s : SortId) (t : SortInfo) (c : Construction) (d : ℕ) → slice_get h.sorts s.0 ≡ Some t → construction_of t.kind ≡ c ∷ [] → sort_under h s ≡ named d → sort_at (data_meant h) d ≡ c
kind_meant h table s t c d at is number =
    let place : ℕ = length (constructions (take s.0 h.sorts)) in
    let one : place ≡ d = same_number place d (sym (read_sort h table s t at ∙ means_number (sort_under h) place t.kind c is) ∙ number) in
    ap (sort_at (data_meant h)) (sym one) ∙ declared_sorts_stand_in_the_data h s t c at is

-- ---- the names of listed functions
name_listed : (h : Sig) (is : List FunId) (k p : ℕ) (i : FunId) → slice_get is p ≡ Some i → Contains (function_names_from h k is) (function_name_of h (slice_get h.functions i.0), k + p)
name_listed h [] k p i at = absurd (none-some i at)
name_listed h (j ∷ is) k zero i at =
    let same : j ≡ i = same_Some j i at in
    let number : k ≡ k + 0 = omega arith in
    (zero, omega arith, (λ l. (function_name_of h (slice_get h.functions (same l).0), number l)))
name_listed h (j ∷ is) k (suc p) i at =
    let number : suc k + p ≡ k + suc p = omega arith in
    let c = subst (λ (m : ℕ). Contains (function_names_from h (suc k) is) (function_name_of h (slice_get h.functions i.0), m)) number (name_listed h is (suc k) p i at) in
    let low = c.1 in
    (suc c.0, omega (arith, low), c.2)

number_listed : (h : Sig) (is : List FunId) (k p x : ℕ) → slice_get (map (λ (r : Name × ℕ). r.1) (function_names_from h k is)) p ≡ Some x → x ≡ k + p
number_listed h [] k p x at = absurd (none-some x at)
number_listed h (j ∷ is) k zero x at = (let same = same_Some k x at in omega (arith, same))
number_listed h (j ∷ is) k (suc p) x at = (let rest = number_listed h is (suc k) p x at in omega (arith, rest))

same_from : (h : Sig) (Q : TextFunction → ℕ → Type 0) (fs : List Named) (is : List FunId) (k : ℕ) → length fs ≡ length is
    → ((p : ℕ) (f : Named) (i : FunId) → slice_get fs p ≡ Some f → slice_get is p ≡ Some i → (f.0 ≡ function_name_of h (slice_get h.functions i.0)) × Q f.1 (k + p)) → SameNames Q fs (function_names_from h k is)
same_from h Q [] [] k long each = tt
same_from h Q [] (i ∷ is) k long each = absurd (omega (arith, long))
same_from h Q (f ∷ fs) [] k long each = absurd (omega (arith, long))
same_from h Q (f ∷ fs) (i ∷ is) k long each =
    let here = each 0 f i refl refl in
    let number : k + 0 ≡ k = omega arith in (
      here.0,
      subst (Q f.1) number here.1,
      same_from h Q fs is (suc k) (omega (arith, long)) (λ p y j a b. (let r = each (suc p) y j a b in let next : k + suc p ≡ suc k + p = omega arith in (r.0, subst (Q y.1) next r.1))),
    )

-- ---- a function without a role is a mapping
no_role : (h : Sig) (i : FunId) → HasNoRole h i → role_meant h i ≡ mapping
no_role h i none =
    holds_of_role h i (λ r. r ≡ mapping) refl (λ c x k at p. absurd (none (projection (declared_number h.functions c) k) (projects c x k at p)))
    (λ c x at t. absurd (none (recogniser (declared_number h.functions c)) (recognises c x at t)))
    (λ made. (let r = constructor_tells h.sorts i made in absurd (none constructor (constructs (record { 0 = r.0 }) r.1 r.2 r.3))))

-- ---- a signature whose functions are entered, and what it becomes
module _ (ds : List Declaration) (g h : Sig) (stands : IsSignature g) (later : IsSignature h) (have : HaveSortNames (under_names ds) (sort_names_of g) (sort_count g)) (are : AreEntered (functions_in ds) g)
    (bare : (n : Name) → (under_names ds).sort n ≡ Some alone → HasBareSort g n) (made : (n : Name) → (under_names ds).sort n ≡ Some a_struct → (s : SortId) × HasSortOf g (a_name n) s × IsStructured g s)
    (gives : GivesConstructors (marks_of (functions_in ds)) g h) where
  abbrev u : UnderNames
  u = under_names ds

  abbrev fs : List Named
  fs = functions_in ds

  abbrev marks : List Bool
  marks = marks_of fs

  abbrev v : Vocabulary
  v = vocabulary_of h

  keeps : KeepsMeanings g h
  keeps = meanings_given marks g h gives

  names_later : HaveSortNames u (sort_names_of h) (sort_count h)
  names_later = subst (λ ns. HaveSortNames u ns (sort_count h)) (sym keeps.names) (subst (HaveSortNames u (sort_names_of g)) (sym (count_given marks g h gives)) have)

  -- ---- sorts of expressions
  same_sort_of : (e f : SortExpression) (s t : SortId) → HasSortOf g e s → HasSortOf g f t → sort_in (sort_names_of g) e ≡ sort_in (sort_names_of g) f → s ≡ t
  same_sort_of e f s t a b same = different_sorts_mean_different_sorts g stands.table s t a.within b.within (same_Some (sort_under g s) (sort_under g t) (sym a.meant ∙ (same ∙ b.meant)))

  stood_sort : (e : SortExpression) (n : Name) (s t : SortId) → StandsFor u e (a_name n) → HasSortOf g e s → HasSortOf g (a_name n) t → s ≡ t
  stood_sort e n s t stand a b = same_sort_of e (a_name n) s t a b (names_agree u (sort_names_of g) (sort_count g) have e (a_name n) stand)

  stands_own : (e : SortExpression) (n : Name) (s : SortId) → HasSortOf g e s → HasSortOf g (a_name n) s → IsOwn u n → StandsFor u e (a_name n)
  stands_own e n s a b own =
      let sorts : (x : SortExpression) → HasSortOf g x s → sorts_in (sort_names_of g) (x ∷ []) ≡ Some (sort_under g s ∷ []) = λ x has. ap (option_and_then (λ (y : Sort). option_map (λ ys. y ∷ ys) (Some []))) has.meant in
      let r = have_same_sorts u (sort_names_of g) (sort_count g) have (e ∷ []) (a_name n ∷ []) (sort_under g s ∷ []) (sorts e a) (sorts (a_name n) b) in
      let one = first_stands u e (a_name n) r.0 r.1 r.2 in
      subst (StandsFor u e) (one_sort u (a_name n) one.0 (a_name n) one.2 (stands_itself u n own)) one.1

  -- ---- the functions of `cons`
  entered_at : (p : ℕ) (f : Named) → slice_get fs p ≡ Some f → (i : FunId) × (slice_get g.declared p ≡ Some i) × IsEntered g f i
  entered_at p f at = pair_along (IsEntered g) fs g.declared p f are at

  cons_at : (p : ℕ) (f : Named) (i : FunId) → slice_get fs p ≡ Some f → slice_get g.declared p ≡ Some i → (is : IsEntered g f i) → f.1.role ≡ declared_constructor → IsConsAt g marks is.entry.result p i
  cons_at p f i at there is role = record {
    marked = mapped_at (λ (x : Named). is_declared_role x.1.role) fs p f at ∙ ap (λ r. Some (is_declared_role r)) role;
    there = there;
    entry = is.entry;
    at = is.there;
    result = refl;
  }

  pub record IsConsFunction (s : SortId) (p : ℕ) : Type 0 where
    pub function : Named
    pub there : slice_get fs p ≡ Some function
    pub role : function.1.role ≡ declared_constructor
    pub result : HasSortOf g function.1.result s

  cons_is : (s : SortId) (p : ℕ) (i : FunId) → IsConsAt g marks s p i → IsConsFunction s p
  cons_is s p i is =
      let f = pair_at (IsEntered g) fs g.declared p i are is.there in
      let mark = same_Some (is_declared_role f.0.1.role) true (sym (mapped_at (λ (x : Named). is_declared_role x.1.role) fs p f.0 f.1) ∙ is.marked) in
      let entry = same_Some f.2.entry is.entry (sym f.2.there ∙ is.at) in
      let result : f.2.entry.result ≡ s = ap (λ (x : Function). x.result) entry ∙ is.result in
      record { function = f.0; there = f.1; role = declared_by_mark f.0.1.role mark; result = subst (HasSortOf g f.0.1.result) result f.2.is.result }

  has_constructor : (n : Name) (s : SortId) → IsOwn u n → HasSortOf g (a_name n) s → (i : FunId) → IsConsOf g marks s i → HasConstructor u n
  has_constructor n s own has i (p, is) =
      let f = cons_is s p i is in
      (f.function.0, f.function.1, named_among fs p f.function f.there, f.role, stands_own f.function.1.result n s f.result has own)

  its_cons : (n : Name) (s : SortId) → HasSortOf g (a_name n) s → HasConstructor u n → (i : FunId) × IsConsOf g marks s i
  its_cons n s has (c, f, among, role, stand) =
      let p = named_place fs c f among in
      let i = entered_at p.0 (c, f) p.1 in
      let same : i.2.entry.result ≡ s = stood_sort f.result n i.2.entry.result s stand i.2.is.result has in
      (i.0, (p.0, subst (λ r. IsConsAt g marks r p.0 i.0) same (cons_at p.0 (c, f) i.0 p.1 i.1 i.2 role)))

  -- ---- sorts
  numbered_later : (n : Name) (s : SortId) (d : ℕ) → HasSortOf g (a_name n) s → HasSortNumber (sort_names_of h) n d → sort_under h s ≡ named d
  numbered_later n s d has number = same_Some (sort_under h s) (named d) (sym (sort_stays g h keeps (a_name n) s has).meant ∙ number)

  is_construction : (n : Name) (d : ℕ) → IsOwn u n → HasSortNumber (sort_names_of h) n d → IsConstruction u n (sort_at (data_meant h) d)
  is_construction n d (declared_alone q) number =
      let b = bare n q in
      let after = sort_after marks g h gives b.0 b.2.0 b.2.1 in
      by_given after.0 after.2 after.1
    where
      s : SortId
      s = (bare n q).0

      has : HasSortOf g (a_name n) s
      has = (bare n q).1

      t : SortInfo
      t = (bare n q).2.0

      by_given : (w : SortInfo) → IsGiven g marks s t w → slice_get h.sorts s.0 ≡ Some w → IsConstruction u n (sort_at (data_meant h) d)
      by_given _ (has_others other) at = absurd (other (bare n q).2.2)
      by_given _ (has_none now none) at =
          subst (IsConstruction u n) (sym (kind_meant h later.table s t theory.without_constructors d at (ap construction_of now) (numbered_later n s d has number)))
          (by_none q (λ c. (let i = its_cons n s has c in none i.0 i.1)))
      by_given _ (has_these cs now only all i c) at =
          subst (IsConstruction u n) (sym (kind_meant h later.table s (record t { kind = by_declarations cs }) theory.by_declarations d at refl (numbered_later n s d has number)))
          (by_cons q (has_constructor n s (declared_alone q) has i (only i c)))
  is_construction n d (declared_as_struct q) number =
      let m = made n q in
      let t = m.2.0 in
      let after = sort_after marks g h gives m.0 t m.2.2 in
      let kind = struct_after g marks m.0 t after.0 m.2.1 after.2 m.2.3 in
      subst (IsConstruction u n) (sym (kind_meant h later.table m.0 after.0 theory.structured d after.1 (ap construction_of kind) (numbered_later n m.0 d m.1 number))) (by_struct q)

  pub sorts_have : HasSorts u v
  sorts_have = record {
    named = names_later.named;
    aliases = names_later.aliases;
    others = λ n own. (let d = names_later.others n own in (d.0, (d.1, d.2, is_construction n d.0 own d.1)));
    different = λ n m d p q a b. names_later.different n m d p q a.0 b.0;
    no_more = λ d l. (let o = names_later.no_more d l in (o.0, o.1, (o.2, l, is_construction o.0 d o.1 o.2)));
  }

  -- ---- functions
  at_later : (p : ℕ) (i : FunId) → slice_get g.declared p ≡ Some i → slice_get h.declared p ≡ Some i
  at_later p i at = ap (λ (is : List FunId). slice_get is p) (same_declared marks g h gives) ∙ at

  there_later : (i : FunId) (x : Function) → slice_get g.functions i.0 ≡ Some x → slice_get h.functions i.0 ≡ Some x
  there_later i x at = ap (λ (xs : List Function). slice_get xs i.0) (same_functions marks g h gives) ∙ at

  named_later : (n : Name) (i : FunId) (x : Function) → slice_get g.functions i.0 ≡ Some x → entered.IsNameId g n x.name → function_name_of h (slice_get h.functions i.0) ≡ n
  named_later n i x at name = ap (function_name_of h) (there_later i x at) ∙ text_of_id h x.name n (name_given marks g h gives n x.name name)

  arguments_later : (es : List SortExpression) (p : ℕ) (i : FunId) (x : Function) → slice_get g.declared p ≡ Some i → slice_get g.functions i.0 ≡ Some x → x.word ≡ None → entered.HaveSortsOf g es x.sorts
      → sorts_in v.sort_names es ≡ Some (function_at v.tables p).arguments
  arguments_later es p i x at there none have_sorts =
      sorts_meant h es x.sorts (sorts_stay g h keeps es x.sorts have_sorts) ∙ ap (λ (f : DeclaredFunction). Some f.arguments) (sym (listed_meant h later.table p i x (at_later p i at) (there_later i x there) none))

  has_number : (c : Name) (es : List SortExpression) (j : FunId) (x : Function) → IsConstructorAt g c es j x → HasNumber v c es (declared_number h.functions j)
  has_number c es j x is =
      let p = listed_place g stands.table j x is.there is.declared in
      let at = at_later p.0 j p.1 in
      let number : p.0 ≡ declared_number h.functions j = sym (place_of_listed h later.table p.0 j x at (there_later j x is.there) is.declared) in
      let name = named_later c j x is.there is.name in
      let place : 0 + p.0 ≡ p.0 = omega arith in
      subst (HasNumber v c es) number
      (subst (Contains v.function_names) (λ l. (name l, place l)) (name_listed h h.declared 0 p.0 j at), within_listed h later.table p.0 j at, arguments_later es p.0 j x p.1 is.there is.declared is.arguments)

  -- a sort without constructors is that of a name that is declared alone
  gives_plain : (e : SortExpression) (s : SortId) (t : SortInfo) → HasSortOf g e s → slice_get g.sorts s.0 ≡ Some t → t.kind ≡ without_constructors → GivesPlain u e
  gives_plain e s t has at kind =
      let d : ℕ = length (constructions (take s.0 g.sorts)) in
      let meant : sort_under g s ≡ named d = read_sort g stands.table s t at ∙ ap (meaning_of (sort_under g) d) kind in
      let low : d < sort_count g = subst (IsSort (data_meant g)) meant (sort_is g stands.table s has.within) in
      let o = have.no_more d low in
      by_own o.0 o.1 (record { within = has.within; meant = o.2 ∙ ap Some (sym meant) })
    where
      by_own : (n : Name) → IsOwn u n → HasSortOf g (a_name n) s → GivesPlain u e
      by_own n (declared_alone q) its = (n, q, stands_own e n s has its (declared_alone q))
      by_own n (declared_as_struct q) its =
          let m = made n q in
          let same : m.0 ≡ s = same_sort_of (a_name n) (a_name n) m.0 s m.1 its refl in
          let info = same_Some m.2.0 t (sym m.2.2 ∙ (ap (λ (x : SortId). slice_get g.sorts x.0) same ∙ at)) in
          let both : structured m.2.1 ≡ without_constructors = sym m.2.3 ∙ (ap (λ (x : SortInfo). x.kind) info ∙ kind) in
          cc

  is_plain : (e : SortExpression) (s : SortId) (t : SortInfo) → HasSortOf g e s → slice_get g.sorts s.0 ≡ Some t → GivesPlain u e → t.kind ≡ without_constructors
  is_plain e s t has at (n, q, stand) =
      let b = bare n q in
      let same : s ≡ b.0 = stood_sort e n s b.0 stand has b.1 in
      let info = same_Some t b.2.0 (sym at ∙ (ap (λ (x : SortId). slice_get g.sorts x.0) same ∙ b.2.1)) in
      ap (λ (x : SortInfo). x.kind) info ∙ b.2.2

  -- ---- roles
  by_constructor : (i : FunId) (s : SortId) (w : SortInfo) → slice_get h.sorts s.0 ≡ Some w → Contains (constructors_of w.kind) i → role_meant h i ≡ constructor
  by_constructor i s w at c = roles_are_found h later.roles i constructor (constructs s w at c)

  cons_role : (p : ℕ) (f : Named) (i : FunId) → slice_get fs p ≡ Some f → slice_get g.declared p ≡ Some i → (is : IsEntered g f i) → f.1.role ≡ declared_constructor → HasNoRole g i → IsRole u v f.1.result declared_constructor (role_meant h i)
  cons_role p f i at there is role none =
      let s = is.entry.result in
      let has = is.is.result in
      let t = read_within g.sorts s.0 has.within in
      by_kind s t.0 t.1 has refl (bare_or_not t.0.kind)
    where
      by_kind : (s : SortId) (t : SortInfo) → slice_get g.sorts s.0 ≡ Some t → HasSortOf g f.1.result s → is.entry.result ≡ s → (t.kind ≡ without_constructors) ⊎ (¬ (t.kind ≡ without_constructors)) → IsRole u v f.1.result declared_constructor (role_meant h i)
      by_kind s t here has same (inl kind) =
          let after = sort_after marks g h gives s t here in
          let cons : IsConsOf g marks s i = (p, subst (λ r. IsConsAt g marks r p i) same (cons_at p f i at there is role)) in
          subst (IsRole u v f.1.result declared_constructor) (sym (by_constructor i s after.0 after.1 (given_constructor g marks s t after.0 i after.2 kind cons))) (of_cons (gives_plain f.1.result s t has here kind))
      by_kind s t here has same (inr other) =
          let free : HasNoRole h i = free_given marks g h gives i none (λ r w place kind cons. other (of_result s t here same r w place kind cons)) in
          subst (IsRole u v f.1.result declared_constructor) (sym (no_role h i free)) (of_no_cons (λ plain. other (is_plain f.1.result s t has here plain)))
        where
          of_result : (s : SortId) (t : SortInfo) → slice_get g.sorts s.0 ≡ Some t → is.entry.result ≡ s → (r : SortId) (w : SortInfo) → slice_get g.sorts r.0 ≡ Some w → w.kind ≡ without_constructors → IsConsOf g marks r i → t.kind ≡ without_constructors
          of_result s t here same r w place kind (q, cons) =
              let entry = same_Some cons.entry is.entry (sym cons.at ∙ is.there) in
              let one : r ≡ s = sym cons.result ∙ (ap (λ (x : Function). x.result) entry ∙ same) in
              let info = same_Some w t (sym place ∙ (ap (λ (x : SortId). slice_get g.sorts x.0) one ∙ here)) in
              sym (ap (λ (x : SortInfo). x.kind) info) ∙ kind

  map_role : (p : ℕ) (f : Named) (i : FunId) → slice_get fs p ≡ Some f → slice_get g.declared p ≡ Some i → f.1.role ≡ text.mapping → HasNoRole g i → role_meant h i ≡ mapping
  map_role p f i at there role none = no_role h i (free_given marks g h gives i none (λ s t here kind cons. never s cons.0 cons.1))
    where
      never : (s : SortId) (q : ℕ) → IsConsAt g marks s q i → ⊥
      never s q cons =
          let place = one_listed g stands.table p q i there cons.there in
          let mark : slice_get marks q ≡ Some (is_declared_role f.1.role) = ap (slice_get marks) (sym place) ∙ mapped_at (λ (x : Named). is_declared_role x.1.role) fs p f at in
          let told = same_Some true (is_declared_role f.1.role) (sym cons.marked ∙ mark) in
          let both : true ≡ false = told ∙ ap is_declared_role role in
          cc

  role_is : (p : ℕ) (f : Named) (i : FunId) → slice_get fs p ≡ Some f → slice_get g.declared p ≡ Some i → IsEntered g f i → IsRole u v f.1.result f.1.role (role_meant h i)
  role_is p f i at there is = by_role f.1.role refl is.role
    where
      by_role : (r : TextRole) → f.1.role ≡ r → HasTextRole g i r → IsRole u v f.1.result r (role_meant h i)
      by_role _ same (entered.of_struct c) =
          let made_later = constructs_given marks g h gives i c in
          subst (IsRole u v f.1.result struct_constructor) (sym (by_constructor i made_later.0 made_later.1 made_later.2 made_later.3)) vocabulary.of_struct
      by_role _ same (entered.of_cons none) = cons_role p f i at there is same none
      by_role _ same (entered.of_map none) = subst (IsRole u v f.1.result text.mapping) (sym (map_role p f i at there same none)) vocabulary.of_map
      by_role _ same (entered.of_place c es k j x con place) =
          subst (IsRole u v f.1.result (text.projection c es k)) (sym (roles_are_found h later.roles i (projection (declared_number h.functions j) k) (projects j x k (there_later j x con.there) place)))
          (vocabulary.of_place c es k (declared_number h.functions j) (has_number c es j x con))
      by_role _ same (entered.of_test c es j x con test) =
          subst (IsRole u v f.1.result (text.recogniser c es)) (sym (roles_are_found h later.roles i (recogniser (declared_number h.functions j)) (recognises j x (there_later j x con.there) test)))
          (vocabulary.of_test c es (declared_number h.functions j) (has_number c es j x con))

  is_function : (p : ℕ) (f : Named) (i : FunId) → slice_get fs p ≡ Some f → slice_get g.declared p ≡ Some i → IsEntered g f i → IsFunction u v f.1 p
  is_function p f i at there is =
      let meant = listed_meant h later.table p i is.entry (at_later p i there) (there_later i is.entry is.there) is.is.declared in
      record {
        within = within_listed h later.table p i (at_later p i there);
        arguments = arguments_later f.1.arguments p i is.entry there is.there is.is.declared is.is.arguments;
        result = (sort_stays g h keeps f.1.result is.entry.result is.is.result).meant ∙ ap (λ (x : DeclaredFunction). Some x.result) (sym meant);
        role = subst (IsRole u v f.1.result f.1.role) (ap (λ (x : DeclaredFunction). x.role) (sym meant)) (role_is p f i at there is);
      }

  all_functions : SameNames (IsFunction u v) fs v.function_names
  all_functions =
      same_from h (IsFunction u v) fs h.declared 0 (as_many (IsEntered g) fs g.declared are ∙ ap length (sym (same_declared marks g h gives)))
      (λ p f i at there. (
      let e = entered_at p f at in
      let one : e.0 ≡ i = same_Some e.0 i (sym (at_later p e.0 e.1) ∙ there) in
      let is : IsEntered g f i = subst (IsEntered g f) one e.2 in
      let here : slice_get g.declared p ≡ Some i = subst (λ j. slice_get g.declared p ≡ Some j) one e.1 in
      let number : p ≡ 0 + p = omega arith in
      (sym (named_later f.0 i is.entry is.there is.is.name), subst (IsFunction u v f.1) number (is_function p f i at here is))
      ))

  pub functions_have : HasFunctions u v
  functions_have = record {
    each = each_named (IsFunction u v) fs v.function_names all_functions;
    no_more = λ k l. (
        let i = read_within h.declared k (listed_within h later.table k l) in
        let number : 0 + k ≡ k = omega arith in
        (function_name_of h (slice_get h.functions i.0.0), subst (Contains v.function_names) (λ j. (function_name_of h (slice_get h.functions i.0.0), number j)) (name_listed h h.declared 0 k i.0 i.1))
        );
    once = λ i j x a b. (let first = number_listed h h.declared 0 i x a in let second = number_listed h h.declared 0 j x b in omega (arith, first, second));
  }
