-- Lists of sorts and their numbers.
use Rattle.std.proofs.Common.{◌≡◌, ◌<◌, ◌+◌, ◌⊎◌, inl, inr, ⊎_elim, ℕ, zero, suc, Bool, true, false, cond, List, [], ◌∷◌, ◌++◌, length, map, take, get_or, refl, ap, sym, ◌∙◌, subst, arith, append_assoc}
use Rattle.std.specs.Prelude.{⊤, Option, Some, None, option_map, option_and_then, is_some, slice_get, bytes_eq}
use Rattle.std.specs.Option.{IsSome}
use Rattle.std.specs.List.{Contains, AllByRecursion, flat_map}
use Rattle.std.specs.BTreeMap.{BTreeMap, btree_map_len, IsEmpty, is_at, UpdatesBy}
use Rattle.std.specs.Map.{lookup, KeepsOthers, IsKeyTest, AreApart}
use Rattle.std.specs.Cmp.{eq_by_cmp_equiv}
use Rattle.std.specs.Cmp.Lexicographic.{slice_cmp, nat_list_cmp_total, nat_list_eq_equiv}
use Rattle.std.specs.Ordering.{is_eq, nat_cmp}
use Rattle.std.proofs.lemmas.Map.Text.{is_eq-slice_cmp}
use Rattle.std.specs.Global.{Vec}
use Rattle.std.proofs.lemmas.Option.{none-some, same_Some}
use Rattle.std.proofs.lemmas.Slice.Eq.{bytes_eq-Decides}
use Rattle.sort_table.specs.declared.flat_sorts.FlatSort.{FlatSort}
use Rattle.sort_table.specs.Expressions.{Name}
use Rattle.sort_table.specs.BareSorts.{SortExpression, truth_values, a_name}
use Rattle.sort_table.specs.BareProcesses.{Variables}
use Rattle.sort_table.specs.BareDeclarations.{Field, Constructor, Declaration, sorts, alias, struct, constructors, mappings, variables, equation, actions, process, initial, Section, declarations_in}
use Rattle.sort_table.specs.SortMeanings.{Kind}
use Rattle.sort_table.specs.TextFunctions.{Named, TextRole, struct_constructor, projection, recogniser, declared, where_named, fields_of, projections_from, functions_by}
use Rattle.sort_table.specs.Duplicates.{Item, a_sort, a_function, an_action, a_variable, function_item, items_of, all_items}
use Rattle.sort_table.specs.FlatSorts.{flats_in}
use Rattle.sort_table.specs.Domains.{sorts_code, value_under, number_under, TellsApart, IsNumbering, KeepsNumbers, with_number, domain_in, domains_of, domains_in, HasNumber, HaveNumbers, NumbersList, AddsNumbers}
use Rattle.data_theory.proofs.PlaceLemmas.{read_contained}
use Rattle.sort_table.proofs.Searches.{IsListed, listed_more}

-- ---- codes spell lists of sorts
abbrev first_sort : ℕ → ℕ → ℕ → List FlatSort → List FlatSort
first_sort d k p ss = record { depth = d; kind = k; place = p } ∷ ss

abbrev read_code : List ℕ → List FlatSort
read_code (d ∷ k ∷ p ∷ r) = first_sort d k p (read_code r)
read_code _ = []

code_read : (ss : List FlatSort) → read_code (sorts_code ss) ≡ ss
code_read [] = refl
code_read (s ∷ ss) = ap (first_sort s.depth s.kind s.place) (code_read ss)

pub tells_apart : (m : BTreeMap (Vec ℕ) ℕ) → IsNumbering m → TellsApart (number_under m)
tells_apart m is ss ts k a b = sym (code_read ss) ∙ (ap read_code (is.apart (sorts_code ss) (sorts_code ts) k a b) ∙ code_read ts)

-- ---- a map with keys that are vectors, after a change at the numbers of one
same_entries : {K X : Type 0} (eq : K → K → Bool) (test : K → Bool) (old new : List (K × X)) → KeepsOthers eq test old new → (other : K → Bool) → IsKeyTest eq other → AreApart test other → lookup other new ≡ lookup other old
unfolding KeepsOthers
same_entries eq test old new h = h

other_codes : (code cs ks : List ℕ) → bytes_eq code cs ≡ false → is_eq (slice_cmp nat_cmp code ks) ≡ true → is_eq (slice_cmp nat_cmp cs ks) ≡ false
other_codes code cs ks n y =
    is_eq-slice_cmp cs ks ∙ (nat_list_eq_equiv.symm cs ks ∙ (sym (nat_list_eq_equiv.congr code ks cs (sym (is_eq-slice_cmp code ks) ∙ y)) ∙ n))

pub updated_under : (old new : BTreeMap (Vec ℕ) ℕ) (code : List ℕ) (w : Option ℕ) → UpdatesBy (λ (x y : Vec ℕ). slice_cmp nat_cmp x.items y.items) (λ (k : Vec ℕ). slice_cmp nat_cmp code k.items) old new w
    → (cs : List ℕ) → value_under new cs ≡ cond (bytes_eq code cs) w (value_under old cs)
updated_under old new code w h cs = by_test (bytes_eq code cs) refl
  where
    by_test : (b : Bool) → bytes_eq code cs ≡ b → value_under new cs ≡ cond b w (value_under old cs)
    by_test true e = ap (value_under new) (sym ((bytes_eq-Decides code cs).0 e)) ∙ h.1
    by_test false e = same_entries _ _ old.entries new.entries h.3 _ (λ (x y : Vec ℕ). (eq_by_cmp_equiv nat_list_cmp_total).congr cs x.items y.items) (λ (k : Vec ℕ). other_codes code cs k.items e)

pub nothing_under : (m : BTreeMap (Vec ℕ) ℕ) → IsEmpty m → (cs : List ℕ) → value_under m cs ≡ None
nothing_under m empty cs = ap (lookup (is_at (λ (k : Vec ℕ). slice_cmp nat_cmp cs k.items))) empty

pub numbering_none : (m : BTreeMap (Vec ℕ) ℕ) → IsEmpty m → IsNumbering m
numbering_none m empty = record {
  apart = λ xs ys k a b. absurd (none-some k (sym (nothing_under m empty xs) ∙ a));
  below = λ xs k a. absurd (none-some k (sym (nothing_under m empty xs) ∙ a));
}

-- ---- a map that has one list more
abbrev pub PutsUnder : BTreeMap (Vec ℕ) ℕ → List ℕ → ℕ → BTreeMap (Vec ℕ) ℕ → Type 0
PutsUnder old code number new = (cs : List ℕ) → value_under new cs ≡ cond (bytes_eq code cs) (Some number) (value_under old cs)

module _ (old : BTreeMap (Vec ℕ) ℕ) (code : List ℕ) (number : ℕ) (new : BTreeMap (Vec ℕ) ℕ) (put : PutsUnder old code number new) where
  after : (cs : List ℕ) (k : ℕ) → value_under new cs ≡ Some k → ((code ≡ cs) × (number ≡ k)) ⊎ (value_under old cs ≡ Some k)
  after cs k at = by_test (bytes_eq code cs) refl
    where
      by_test : (b : Bool) → bytes_eq code cs ≡ b → ((code ≡ cs) × (number ≡ k)) ⊎ (value_under old cs ≡ Some k)
      by_test true e = inl ((bytes_eq-Decides code cs).0 e, same_Some number k (sym (ap (λ (b : Bool). cond b (Some number) (value_under old cs)) e) ∙ (sym (put cs) ∙ at)))
      by_test false e = inr (sym (ap (λ (b : Bool). cond b (Some number) (value_under old cs)) e) ∙ (sym (put cs) ∙ at))

  pub numbering_more : number ≡ btree_map_len old → btree_map_len new ≡ btree_map_len old + 1 → IsNumbering old → IsNumbering new
  numbering_more counted grown is = record {
    apart = λ xs ys k a b. ⊎_elim
        (λ (p : (code ≡ xs) × (number ≡ k)). ⊎_elim (λ (q : (code ≡ ys) × (number ≡ k)). sym p.0 ∙ q.0) (λ q. absurd (too_low k p.1 (is.below ys k q))) (after ys k b))
        (λ p. ⊎_elim (λ (q : (code ≡ ys) × (number ≡ k)). absurd (too_low k q.1 (is.below xs k p))) (λ q. is.apart xs ys k p q) (after ys k b))
        (after xs k a);
    below = λ xs k a. ⊎_elim (λ (p : (code ≡ xs) × (number ≡ k)). let e : number ≡ k = p.1 in omega (arith, e, counted, grown)) (λ p. let l : k < btree_map_len old = is.below xs k p in omega (arith, l, grown)) (after xs k a);
  }
    where
      too_low : (k : ℕ) → number ≡ k → k < btree_map_len old → ⊥
      too_low k e l = omega (arith, e, l, counted)

  pub numbers_kept : is_some (value_under old code) ≡ false → KeepsNumbers old new
  numbers_kept absent ss k at = put (sorts_code ss) ∙ (by_test (bytes_eq code (sorts_code ss)) refl ∙ at)
    where
      none_there : (o : Option ℕ) → is_some o ≡ false → o ≡ Some k → Some number ≡ o
      none_there None h e = absurd (none-some k e)
      none_there (Some j) h e = cc

      by_test : (b : Bool) → bytes_eq code (sorts_code ss) ≡ b → cond b (Some number) (value_under old (sorts_code ss)) ≡ value_under old (sorts_code ss)
      by_test true e = none_there (value_under old (sorts_code ss)) (ap (λ (cs : List ℕ). is_some (value_under old cs)) (sym ((bytes_eq-Decides code (sorts_code ss)).0 e)) ∙ absent) at
      by_test false e = refl

  pub number_there : IsSome (value_under new code)
  number_there = ap is_some (put code ∙ ap (λ (b : Bool). cond b (Some number) (value_under old code)) ((bytes_eq-Decides code code).1 refl))

-- ---- what has a number keeps one
some_stays : (o p : Option ℕ) → ((k : ℕ) → o ≡ Some k → p ≡ Some k) → IsSome o → IsSome p
some_stays None p h is = absurd (never is)
  where
    never : false ≡ true → ⊥
    never e = cc
some_stays (Some k) p h is = ap is_some (h k refl)

module _ (flats : List SortExpression → Option (List FlatSort)) where
  have_still : (old new : BTreeMap (Vec ℕ) ℕ) (ess : List (List SortExpression)) → KeepsNumbers old new → HaveNumbers (number_under old) flats ess → HaveNumbers (number_under new) flats ess
  have_still old new [] kept have = tt
  have_still old new (es ∷ ess) kept have = (λ ss at. some_stays (number_under old ss) (number_under new ss) (kept ss) (have.0 ss at), have_still old new ess kept have.1)

  have_both : (by : List FlatSort → Option ℕ) (xs ys : List (List SortExpression)) → HaveNumbers by flats xs → HaveNumbers by flats ys → HaveNumbers by flats (xs ++ ys)
  have_both by [] ys h k = k
  have_both by (x ∷ xs) ys h k = (h.0, have_both by xs ys h.1 k)

  pub adds_none : (m : BTreeMap (Vec ℕ) ℕ) → AddsNumbers flats [] m m
  adds_none m = record { sound = λ is. is; kept = λ ss k at. at; have = tt }

  pub adds_list : (found : Option (List FlatSort)) (es : List SortExpression) (old new : BTreeMap (Vec ℕ) ℕ) → found ≡ flats es → NumbersList found old new → AddsNumbers flats (es ∷ []) old new
  adds_list found es old new read one = record { sound = one.sound; kept = one.kept; have = (λ ss at. one.has ss (read ∙ at), tt) }

  pub adds_both : (xs ys : List (List SortExpression)) (old mid new : BTreeMap (Vec ℕ) ℕ) → AddsNumbers flats xs old mid → AddsNumbers flats ys mid new → AddsNumbers flats (xs ++ ys) old new
  adds_both xs ys old mid new a b = record {
    sound = λ is. b.sound (a.sound is);
    kept = λ ss k at. b.kept ss k (a.kept ss k at);
    have = have_both (number_under new) xs ys (have_still mid new xs b.kept a.have) b.have;
  }

  -- one element more in a loop
  pub adds_more : {A : Type 0} (h : List A → List (List SortExpression)) (f : A → List (List SortExpression)) → IsListed h f → (xs : List A) (i : ℕ) (x : A) (old mid new : BTreeMap (Vec ℕ) ℕ) → i < length xs → x ≡ get_or xs i x
      → AddsNumbers flats (h (take i xs)) old mid → AddsNumbers flats (f x) mid new → AddsNumbers flats (h (take (i + 1) xs)) old new
  adds_more h f is xs i x old mid new l e before step = subst (λ ess. AddsNumbers flats ess old new) (sym (listed_more h f is xs i x l e)) (adds_both (h (take i xs)) (f x) old mid new before step)

  pub have_more : {A : Type 0} (h : List A → List (List SortExpression)) (f : A → List (List SortExpression)) → IsListed h f → (xs : List A) (i : ℕ) (x : A) (mid new : BTreeMap (Vec ℕ) ℕ) → i < length xs → x ≡ get_or xs i x
      → HaveNumbers (number_under mid) flats (h (take i xs)) → AddsNumbers flats (f x) mid new → HaveNumbers (number_under new) flats (h (take (i + 1) xs))
  have_more h f is xs i x mid new l e before step =
      subst (λ ess. HaveNumbers (number_under new) flats ess) (sym (listed_more h f is xs i x l e)) (have_both (number_under new) (h (take i xs)) (f x) (have_still mid new (h (take i xs)) step.kept before) step.have)

-- ---- domains
pub some_there : (o : Option ℕ) → IsSome o → (k : ℕ) × (o ≡ Some k)
some_there None is = absurd (never is)
  where
    never : false ≡ true → ⊥
    never e = cc
some_there (Some k) is = (k, refl)

module _ (by : List FlatSort → Option ℕ) (ks : List (Name × Kind)) (table : List FlatSort) (es : List SortExpression) where
  pub record ReadsDomain (k : ℕ) (ss : List FlatSort) : Type 0 where
    pub flats : flats_in ks table es ≡ Some ss
    pub number : by ss ≡ Some k

  pub domain_read : (k : ℕ) (ss : List FlatSort) → domain_in by ks table es ≡ Some (k, ss) → ReadsDomain k ss
  domain_read k ss at = by_flats (flats_in ks table es) refl at
    where
      by_number : (ts : List FlatSort) (o : Option ℕ) → flats_in ks table es ≡ Some ts → by ts ≡ o → option_map {U = ℕ × List FlatSort} (λ (j : ℕ). (j, ts)) o ≡ Some (k, ss) → ReadsDomain k ss
      by_number ts None q r e = absurd (none-some (k, ss) e)
      by_number ts (Some j) q r e =
          let pair : (j, ts) ≡ (k, ss) = same_Some (j, ts) (k, ss) e in
          record { flats = q ∙ ap (λ (p : ℕ × List FlatSort). Some p.1) pair; number = ap by (sym (ap (λ (p : ℕ × List FlatSort). p.1) pair)) ∙ (r ∙ ap (λ (p : ℕ × List FlatSort). Some p.0) pair) }

      by_flats : (o : Option (List FlatSort)) → flats_in ks table es ≡ o → option_and_then (with_number by) o ≡ Some (k, ss) → ReadsDomain k ss
      by_flats None q e = absurd (none-some (k, ss) e)
      by_flats (Some ts) q e = by_number ts (by ts) q refl e

  pub read_domain : (k : ℕ) (ss : List FlatSort) → flats_in ks table es ≡ Some ss → by ss ≡ Some k → domain_in by ks table es ≡ Some (k, ss)
  read_domain k ss q r = ap (option_and_then (with_number by)) q ∙ ap (option_map {U = ℕ × List FlatSort} (λ (j : ℕ). (j, ss))) r

-- ---- each item's domain is one of its declaration's
module _ (by : List FlatSort → Option ℕ) (flats : List SortExpression → Option (List FlatSort)) where
  abbrev pub ItsDomainHasNumber : Item → Type 0
  ItsDomainHasNumber (a_function f es) = HasNumber by flats es
  ItsDomainHasNumber (an_action a es) = HasNumber by flats es
  ItsDomainHasNumber x = ⊤

  abbrev FunctionHasNumber : Named → Type 0
  FunctionHasNumber f = HasNumber by flats f.1.arguments

  both : {A : Type 0} (P : A → Type 0) (xs ys : List A) → AllByRecursion P xs → AllByRecursion P ys → AllByRecursion P (xs ++ ys)
  both P [] ys h k = k
  both P (x ∷ xs) ys h k = (h.0, both P xs ys h.1 k)

  of_functions : (fs : List Named) → AllByRecursion FunctionHasNumber fs → AllByRecursion ItsDomainHasNumber (map function_item fs)
  of_functions [] h = tt
  of_functions (f ∷ fs) h = (h.0, of_functions fs h.1)

  declared_have : (es : List SortExpression) (to : SortExpression) (role : TextRole) (ns : List Name) → HasNumber by flats es → AllByRecursion FunctionHasNumber (map (declared es to role) ns)
  declared_have es to role [] h = tt
  declared_have es to role (n ∷ ns) h = (h, declared_have es to role ns h)

  actions_have : (es : List SortExpression) (ns : List Name) → HasNumber by flats es → AllByRecursion ItsDomainHasNumber (map (λ a. an_action a es) ns)
  actions_have es [] h = tt
  actions_have es (n ∷ ns) h = (h, actions_have es ns h)

  sorts_have : (ns : List Name) → AllByRecursion ItsDomainHasNumber (map a_sort ns)
  sorts_have [] = tt
  sorts_have (n ∷ ns) = (tt, sorts_have ns)

  variables_have : (k : ℕ) (vs : Variables) → AllByRecursion ItsDomainHasNumber (map (λ (v : Name × SortExpression). a_variable k v.0) vs)
  variables_have k [] = tt
  variables_have k (v ∷ vs) = (tt, variables_have k vs)

  -- ---- structs
  constructors_have : (to : SortExpression) (cs : List Constructor) → AllByRecursion (HasNumber by flats) (map fields_of cs) → AllByRecursion FunctionHasNumber (map (λ (c : Constructor). declared (fields_of c) to struct_constructor c.name) cs)
  constructors_have to [] h = tt
  constructors_have to (c ∷ cs) h = (h.0, constructors_have to cs h.1)

  module _ (e : SortExpression) (one : HasNumber by flats (e ∷ [])) where
    where_named_has : (to : SortExpression) (role : TextRole) (o : Option Name) → AllByRecursion FunctionHasNumber (where_named e to role o)
    where_named_has to role None = tt
    where_named_has to role (Some f) = (one, tt)

    fields_have : (c : Constructor) (i : ℕ) (fs : List Field) → AllByRecursion FunctionHasNumber (projections_from e c i fs)
    fields_have c i [] = tt
    fields_have c i (f ∷ fs) = both FunctionHasNumber (where_named e f.sort (projection c.name (fields_of c) i) f.name) (projections_from e c (suc i) fs) (where_named_has f.sort (projection c.name (fields_of c) i) f.name) (fields_have c (suc i) fs)

    projections_have : (cs : List Constructor) → AllByRecursion FunctionHasNumber (flat_map (λ (c : Constructor). projections_from e c 0 c.fields) cs)
    projections_have [] = tt
    projections_have (c ∷ cs) = both FunctionHasNumber (projections_from e c 0 c.fields) (flat_map (λ (c : Constructor). projections_from e c 0 c.fields) cs) (fields_have c 0 c.fields) (projections_have cs)

    recognisers_have : (cs : List Constructor) → AllByRecursion FunctionHasNumber (flat_map (λ (c : Constructor). where_named e truth_values (recogniser c.name (fields_of c)) c.recogniser) cs)
    recognisers_have [] = tt
    recognisers_have (c ∷ cs) = both FunctionHasNumber (where_named e truth_values (recogniser c.name (fields_of c)) c.recogniser) (flat_map (λ (c : Constructor). where_named e truth_values (recogniser c.name (fields_of c)) c.recogniser) cs)
        (where_named_has truth_values (recogniser c.name (fields_of c)) c.recogniser) (recognisers_have cs)

  struct_has : (n : Name) (cs : List Constructor) → HaveNumbers by flats (domains_of (struct n cs)) → AllByRecursion FunctionHasNumber (functions_by (struct n cs))
  struct_has n cs h = both FunctionHasNumber (map (λ (c : Constructor). declared (fields_of c) (a_name n) struct_constructor c.name) cs) _ (constructors_have (a_name n) cs h.1)
      (both FunctionHasNumber (flat_map (λ (c : Constructor). projections_from (a_name n) c 0 c.fields) cs) _ (projections_have (a_name n) h.0 cs) (recognisers_have (a_name n) h.0 cs))

  -- ---- declarations
  items_have : (k : ℕ) (d : Declaration) → HaveNumbers by flats (domains_of d) → AllByRecursion ItsDomainHasNumber (items_of k d)
  items_have k (sorts ns) h = sorts_have ns
  items_have k (alias n e) h = (tt, tt)
  items_have k (struct n cs) h = (tt, of_functions (functions_by (struct n cs)) (struct_has n cs h))
  items_have k (constructors fs es to) h = of_functions (functions_by (constructors fs es to)) (declared_have es to _ fs h.0)
  items_have k (mappings fs es to) h = of_functions (functions_by (mappings fs es to)) (declared_have es to _ fs h.0)
  items_have k (variables vs) h = variables_have k vs
  items_have k (equation c l r) h = tt
  items_have k (actions as_ es) h = actions_have es as_ h.0
  items_have k (process p vs body) h = (tt, tt)
  items_have k (initial body) h = tt

  -- ---- in lists
  front_have : (xs ys : List (List SortExpression)) → HaveNumbers by flats (xs ++ ys) → HaveNumbers by flats xs
  front_have [] ys h = tt
  front_have (x ∷ xs) ys h = (h.0, front_have xs ys h.1)

  back_have : (xs ys : List (List SortExpression)) → HaveNumbers by flats (xs ++ ys) → HaveNumbers by flats ys
  back_have [] ys h = h
  back_have (x ∷ xs) ys h = back_have xs ys h.1

  abbrev AllHave : List Item → Type 0
  AllHave xs = AllByRecursion ItsDomainHasNumber xs

  declarations_have : (k : ℕ) (ds : List Declaration) → HaveNumbers by flats (domains_in ds) → AllByRecursion AllHave (map (items_of k) ds)
  declarations_have k [] h = tt
  declarations_have k (d ∷ ds) h = (items_have k d (front_have (domains_of d) (domains_in ds) h), declarations_have k ds (back_have (domains_of d) (domains_in ds) h))

  domains_behind : (ds es : List Declaration) → domains_in (ds ++ es) ≡ domains_in ds ++ domains_in es
  domains_behind [] es = refl
  domains_behind (d ∷ ds) es = ap (λ l. domains_of d ++ l) (domains_behind ds es) ∙ sym (append_assoc (domains_of d) (domains_in ds) (domains_in es))

  sections_have : (k : ℕ) (ss : List Section) → HaveNumbers by flats (domains_in (declarations_in ss)) → AllByRecursion AllHave (all_items k ss)
  sections_have k [] h = tt
  sections_have k (s ∷ ss) h =
      let both_parts : HaveNumbers by flats (domains_in s.declarations ++ domains_in (declarations_in ss)) = subst (λ ess. HaveNumbers by flats ess) (domains_behind s.declarations (declarations_in ss)) h in
      both AllHave (map (items_of k) s.declarations) (all_items (suc k) ss) (declarations_have k s.declarations (front_have (domains_in s.declarations) (domains_in (declarations_in ss)) both_parts))
      (sections_have (suc k) ss (back_have (domains_in s.declarations) (domains_in (declarations_in ss)) both_parts))

  read_all : {A : Type 0} (P : A → Type 0) (xs : List A) (i : ℕ) (x : A) → AllByRecursion P xs → slice_get xs i ≡ Some x → P x
  read_all P [] i x h at = absurd (none-some x at)
  read_all P (y ∷ xs) zero x h at = subst P (same_Some y x at) h.0
  read_all P (y ∷ xs) (suc i) x h at = read_all P xs i x h.1 at

  pub items_have_numbers : (k : ℕ) (ss : List Section) → HaveNumbers by flats (domains_in (declarations_in ss)) → (i : ℕ) (xs : List Item) (x : Item) → slice_get (all_items k ss) i ≡ Some xs → Contains xs x → ItsDomainHasNumber x
  items_have_numbers k ss h i xs x at there =
      let r = read_contained xs x there in
      read_all ItsDomainHasNumber xs r.0 x (read_all AllHave (all_items k ss) i xs (sections_have k ss h) at) r.1
