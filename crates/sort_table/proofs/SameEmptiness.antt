-- A sort that is empty in one vocabulary of a text is empty in each.
use Rattle.std.proofs.Common.{◌≡◌, ◌<◌, ℕ, zero, suc, Bool, true, false, cond, List, [], ◌∷◌, length, refl, ap, sym, ◌∙◌, subst, arith}
use Rattle.std.specs.Prelude.{Option, Some, None, bytes_eq, option_map, option_and_then, pos}
use Rattle.std.specs.List.{Contains}
use Rattle.std.proofs.lemmas.Option.{none-some, same_Some}
use Rattle.std.proofs.lemmas.Slice.Eq.{bytes_eq-Decides}
use Rattle.data_theory.specs.Terms.{Sort, Term, Terms, boolean, positive, natural, integer, list, named, truth, falsity, empty, cons, function, variable, numeral, unknown, application, none, more}
use Rattle.data_theory.specs.Declarations as theory
use Rattle.data_theory.specs.Declarations.{Data, Role, Construction, function_at, sort_at, without_constructors, IsSort, HasNumeral, HasSort, HaveSorts, IsConstructed, AreConstructed}
use Rattle.sort_table.specs.Expressions.{Name}
use Rattle.sort_table.specs.NamedLists.{all_named, first_named}
use Rattle.sort_table.specs.BareSorts.{SortExpression, truth_values, positives, naturals, integers, lists_of, a_name}
use Rattle.sort_table.specs.SortMeanings.{alone, UnderNames, StandsFor, for_truth_values, for_positives, for_naturals, for_integers, for_lists, for_plain, for_struct, for_alias}
use Rattle.sort_table.specs.TextFunctions.{TextFunction, TextRole}
use Rattle.sort_table.specs.Vocabularies.{Vocabulary, sort_in, sorts_in, HasConstructor, IsConstruction, by_struct, by_cons, by_none, IsOwn, declared_alone, declared_as_struct, IsSortNamed, HasSorts, IsRole, of_struct, of_cons, of_no_cons, of_place, of_test, of_map, IsFunction, EachPair, HasFunctions}
use Rattle.sort_table.specs.EmptinessLaws.{EmptySortsAreEmptyInEachVocabulary}
use Rattle.sort_table.proofs.OneSort.{what_stands_for_a_sort_has_it}
use Rattle.sort_table.proofs.Growing.{paired, has_stood}

-- ---- lists
paired_second : {A B : Type 0} (Q : A → B → Type 0) (xs : List A) (ys : List B) (y : B) → EachPair Q xs ys → Contains ys y → (x : A) × Contains xs x × Q x y
paired_second Q [] [] y h (k, l, e) = let never : ⊥ = omega (arith, l) in absurd never
paired_second Q [] (z ∷ zs) y h c = absurd h
paired_second Q (x ∷ xs) [] y h c = absurd h
paired_second Q (x ∷ xs) (z ∷ zs) y h (zero, l, e) = (x, (zero, omega arith, refl), subst (Q x) e h.0)
paired_second Q (x ∷ xs) (z ∷ zs) y h (suc k, l, e) =
    let m : k < length zs = omega (arith, l) in
    let r = paired_second Q xs zs y h.1 (k, m, e) in
    let within : r.1.0 < length xs = r.1.1 in
    (r.0, (suc r.1.0, omega (arith, within), r.1.2), r.2)

under_its_name : {A : Type 0} (f : Name) (rs : List (Name × A)) (x : A) → Contains rs (f, x) → Contains (all_named f rs) x
under_its_name f [] x (k, l, e) = let never : ⊥ = omega (arith, l) in absurd never
under_its_name f (r ∷ rs) x (zero, l, e) =
    let name : r.0 ≡ f = ap (λ (p : Name × _). p.0) e in
    let entry : r.1 ≡ x = ap (λ (p : Name × _). p.1) e in
    subst (λ (b : Bool). Contains (cond b (r.1 ∷ all_named f rs) (all_named f rs)) x) (sym ((bytes_eq-Decides r.0 f).1 name)) (zero, omega arith, entry)
under_its_name f (r ∷ rs) x (suc k, l, e) =
    let m : k < length rs = omega (arith, l) in
    let c = under_its_name f rs x (k, m, e) in
    by_test (bytes_eq r.0 f) c
  where
    by_test : (b : Bool) → Contains (all_named f rs) x → Contains (cond b (r.1 ∷ all_named f rs) (all_named f rs)) x
    by_test true (j, within, is) = (suc j, omega (arith, within), is)
    by_test false c = c

-- the sorts of a list, one by one
pub record SortsThen (ns : List (Name × Sort)) (x : SortExpression) (xs : List SortExpression) (ss : List Sort) : Type 0 where
  pub first : Sort
  pub rest : List Sort
  pub head : sort_in ns x ≡ Some first
  pub tail : sorts_in ns xs ≡ Some rest
  pub whole : ss ≡ first ∷ rest

pub sorts_then : (ns : List (Name × Sort)) (x : SortExpression) (xs : List SortExpression) (ss : List Sort) → sorts_in ns (x ∷ xs) ≡ Some ss → SortsThen ns x xs ss
sorts_then ns x xs ss h = by_first (sort_in ns x) refl (sorts_in ns xs) refl h
  where
    by_first : (o : Option Sort) → sort_in ns x ≡ o → (p : Option (List Sort)) → sorts_in ns xs ≡ p → option_and_then (λ s. option_map (λ rs. s ∷ rs) p) o ≡ Some ss → SortsThen ns x xs ss
    by_first None a p b k = absurd (none-some ss k)
    by_first (Some s) a None b k = absurd (none-some ss k)
    by_first (Some s) a (Some rs) b k = record { first = s; rest = rs; head = a; tail = b; whole = sym (same_Some (s ∷ rs) ss k) }

-- an expression of a declared sort is a name
name_of_sort : (ns : List (Name × Sort)) (x : SortExpression) (d : ℕ) → sort_in ns x ≡ Some (named d) → (n : Name) × (x ≡ a_name n)
name_of_sort ns truth_values d h = let same : boolean ≡ named d = same_Some boolean (named d) h in cc
name_of_sort ns positives d h = let same : positive ≡ named d = same_Some positive (named d) h in cc
name_of_sort ns naturals d h = let same : natural ≡ named d = same_Some natural (named d) h in cc
name_of_sort ns integers d h = let same : integer ≡ named d = same_Some integer (named d) h in cc
name_of_sort ns (lists_of x) d h = no_list (sort_in ns x) h
  where
    no_list : (o : Option Sort) → option_map list o ≡ Some (named d) → (n : Name) × (lists_of x ≡ a_name n)
    no_list None k = absurd (none-some (named d) k)
    no_list (Some s) k = let same : list s ≡ named d = same_Some (list s) (named d) k in cc
name_of_sort ns (a_name n) d h = (n, refl)

no_list_named : (o : Option Sort) (d : ℕ) → option_map list o ≡ Some (named d) → ⊥
no_list_named None d k = none-some (named d) k
no_list_named (Some s) d k = let same : list s ≡ named d = same_Some (list s) (named d) k in cc

-- ---- names
pub record IsOwnOf (u : UnderNames) (v : Vocabulary) (n : Name) (d : ℕ) : Type 0 where
  pub own : Name
  pub stands : StandsFor u (a_name n) (a_name own)
  pub is_own : IsOwn u own
  pub has : IsSortNamed u v own d

last_name : (u : UnderNames) (ns : List (Name × Sort)) (x e : SortExpression) (d : ℕ) → StandsFor u x e → sort_in ns e ≡ Some (named d) → (m : Name) × (e ≡ a_name m) × IsOwn u m
last_name u ns _ _ d for_truth_values h = let same : boolean ≡ named d = same_Some boolean (named d) h in cc
last_name u ns _ _ d for_positives h = let same : positive ≡ named d = same_Some positive (named d) h in cc
last_name u ns _ _ d for_naturals h = let same : natural ≡ named d = same_Some natural (named d) h in cc
last_name u ns _ _ d for_integers h = let same : integer ≡ named d = same_Some integer (named d) h in cc
last_name u ns _ _ d (for_lists e s r) h = absurd (no_list_named (sort_in ns s) d h)
last_name u ns _ _ d (for_plain n k) h = (n, refl, declared_alone k)
last_name u ns _ _ d (for_struct n k) h = (n, refl, declared_as_struct k)
last_name u ns _ _ d (for_alias n e s k r) h = last_name u ns e s d r h

same_number : (a b : ℕ) → named a ≡ named b → a ≡ b
same_number a b e = cc

pub own_of : (u : UnderNames) (v : Vocabulary) → HasSorts u v → (n : Name) (d : ℕ) → first_named n v.sort_names ≡ Some (named d) → IsOwnOf u v n d
own_of u v is n d h =
    let stood = (is.named n).0 (named d, h) in
    let its : sort_in v.sort_names stood.0 ≡ Some (named d) = sym (what_stands_for_a_sort_has_it u v is (a_name n) stood.0 stood.1) ∙ h in
    let last = last_name u v.sort_names (a_name n) stood.0 d stood.1 its in
    let own = is.others last.0 last.2 in
    let there : first_named last.0 v.sort_names ≡ Some (named d) = ap (sort_in v.sort_names) (sym last.1) ∙ its in
    let number : own.0 ≡ d = same_number own.0 d (same_Some (named own.0) (named d) (sym own.1.0 ∙ there)) in
    record { own = last.0; stands = subst (StandsFor u (a_name n)) last.1 stood.1; is_own = last.2; has = subst (IsSortNamed u v last.0) number own.1 }

-- names with one sort in a vocabulary have one in each
same_sort : (u : UnderNames) (v w : Vocabulary) → HasSorts u v → HasSorts u w → (n m : Name) (d : ℕ) → first_named n v.sort_names ≡ Some (named d) → first_named m v.sort_names ≡ Some (named d) → first_named n w.sort_names ≡ first_named m w.sort_names
same_sort u v w hv hw n m d h k =
    let a = own_of u v hv n d h in
    let b = own_of u v hv m d k in
    let same : a.own ≡ b.own = hv.different a.own b.own d a.is_own b.is_own a.has b.has in
    what_stands_for_a_sort_has_it u w hw (a_name n) (a_name a.own) a.stands ∙ ap (λ x. first_named x w.sort_names) same ∙ sym (what_stands_for_a_sort_has_it u w hw (a_name m) (a_name b.own) b.stands)

-- what a declared sort without constructors is in one vocabulary, it is in each
bare_tells : (u : UnderNames) (n : Name) (k : Construction) → IsConstruction u n k → k ≡ without_constructors → (u.sort n ≡ Some alone) × ¬ (HasConstructor u n)
bare_tells u n _ (by_struct h) e = cc
bare_tells u n _ (by_cons h c) e = cc
bare_tells u n _ (by_none h c) e = (h, c)

is_bare : (u : UnderNames) (n : Name) (k : Construction) → IsConstruction u n k → u.sort n ≡ Some alone → ¬ (HasConstructor u n) → k ≡ without_constructors
is_bare u n _ (by_struct h) a c = cc
is_bare u n _ (by_cons h x) a c = absurd (c x)
is_bare u n _ (by_none h x) a c = refl

bare_in_each : (u : UnderNames) (v w : Vocabulary) → HasSorts u v → HasSorts u w → (n : Name) (d e : ℕ) → first_named n v.sort_names ≡ Some (named d) → first_named n w.sort_names ≡ Some (named e) → sort_at v.tables d ≡ without_constructors → (e < length w.tables.sorts) × (sort_at w.tables e ≡ without_constructors)
bare_in_each u v w hv hw n d e h k bare =
    let a = own_of u v hv n d h in
    let b = own_of u w hw n e k in
    let in_w : first_named a.own w.sort_names ≡ Some (named e) = sym (what_stands_for_a_sort_has_it u w hw (a_name n) (a_name a.own) a.stands) ∙ k in
    let there = hw.others a.own a.is_own in
    let number : there.0 ≡ e = same_number there.0 e (same_Some (named there.0) (named e) (sym there.1.0 ∙ in_w)) in
    let its : IsSortNamed u w a.own e = subst (IsSortNamed u w a.own) number there.1 in
    let told = bare_tells u a.own (sort_at v.tables d) a.has.2 bare in
    (its.1, is_bare u a.own (sort_at w.tables e) its.2 told.0 told.1)

-- ---- roles
constructs_in_each : (u : UnderNames) (v w : Vocabulary) (to : SortExpression) (t : TextRole) (r q : Role) → IsRole u v to t r → IsRole u w to t q → r ≡ theory.constructor → q ≡ theory.constructor
constructs_in_each u v w to _ _ _ of_struct of_struct e = refl
constructs_in_each u v w to _ _ _ (of_cons g) (of_cons h) e = refl
constructs_in_each u v w to _ _ _ (of_cons g) (of_no_cons h) e = absurd (h g)
constructs_in_each u v w to _ _ _ (of_no_cons g) (of_cons h) e = refl
constructs_in_each u v w to _ _ _ (of_no_cons g) (of_no_cons h) e = e
constructs_in_each u v w to _ _ _ (of_place c es i k n) (of_place _ _ _ l m) e = cc
constructs_in_each u v w to _ _ _ (of_test c es k n) (of_test _ _ l m) e = cc
constructs_in_each u v w to _ _ _ of_map of_map e = e

-- ---- terms
module _ (u : UnderNames) (v w : Vocabulary) (hv : HasSorts u v) (hw : HasSorts u w) (fv : HasFunctions u v) (fw : HasFunctions u w) where
  abbrev IsTermOf : Term → Sort → Type 0
  IsTermOf t s = IsConstructed w.tables t × HasSort w.tables [] t s

  -- a final expression has a sort of the tables
  sort_there : (x e : SortExpression) (s : Sort) → StandsFor u x e → sort_in w.sort_names e ≡ Some s → IsSort w.tables s
  sort_there _ _ s for_truth_values h = subst (IsSort w.tables) (same_Some boolean s h) tt
  sort_there _ _ s for_positives h = subst (IsSort w.tables) (same_Some positive s h) tt
  sort_there _ _ s for_naturals h = subst (IsSort w.tables) (same_Some natural s h) tt
  sort_there _ _ s for_integers h = subst (IsSort w.tables) (same_Some integer s h) tt
  sort_there _ _ s (for_lists e f r) h = by_element (λ a. sort_there e f a r) (sort_in w.sort_names f) refl h
    where
      by_element : ((a : Sort) → sort_in w.sort_names f ≡ Some a → IsSort w.tables a) → (o : Option Sort) → sort_in w.sort_names f ≡ o → option_map list o ≡ Some s → IsSort w.tables s
      by_element deeper None a k = absurd (none-some s k)
      by_element deeper (Some a) b k = subst (IsSort w.tables) (same_Some (list a) s k) (deeper a b)
  sort_there _ _ s (for_plain n k) h = let o = hw.others n (declared_alone k) in subst (IsSort w.tables) (same_Some (named o.0) s (sym o.1.0 ∙ h)) o.1.1
  sort_there _ _ s (for_struct n k) h = let o = hw.others n (declared_as_struct k) in subst (IsSort w.tables) (same_Some (named o.0) s (sym o.1.0 ∙ h)) o.1.1
  sort_there _ _ s (for_alias n e f k r) h = sort_there e f s r h

  last_is_own : (x : SortExpression) (n : Name) → StandsFor u x (a_name n) → IsOwn u n
  last_is_own _ _ (for_plain n k) = declared_alone k
  last_is_own _ _ (for_struct n k) = declared_as_struct k
  last_is_own _ _ (for_alias m e n k r) = last_is_own e _ r

  term_of_sort : (t : Term) → ((n : Name) (d e : ℕ) → first_named n v.sort_names ≡ Some (named d) → first_named n w.sort_names ≡ Some (named e) → HasSort v.tables [] t (named d) → (y : Term) × IsTermOf y (named e)) → (x e : SortExpression) (s r : Sort) → StandsFor u x e → sort_in v.sort_names e ≡ Some s → sort_in w.sort_names e ≡ Some r → HasSort v.tables [] t s → (y : Term) × IsTermOf y r
  term_of_sort t by_name x truth_values s r st a b h = (application truth none, (tt, subst (HasSort w.tables [] (application truth none)) (same_Some boolean r b) (tt, tt, refl, refl)))
  term_of_sort t by_name x positives s r st a b h = (numeral positive (pos 1), (tt, subst (HasSort w.tables [] (numeral positive (pos 1))) (same_Some positive r b) (refl, (record { le = tt }, omega arith))))
  term_of_sort t by_name x naturals s r st a b h = (numeral natural (pos 0), (tt, subst (HasSort w.tables [] (numeral natural (pos 0))) (same_Some natural r b) (refl, (record { le = tt }, omega arith))))
  term_of_sort t by_name x integers s r st a b h = (numeral integer (pos 0), (tt, subst (HasSort w.tables [] (numeral integer (pos 0))) (same_Some integer r b) (refl, (tt, omega arith))))
  term_of_sort t by_name x (lists_of e) s r st a b h = by_element (sort_in w.sort_names e) b (sort_there x (lists_of e) r st b)
    where
      by_element : (o : Option Sort) → option_map list o ≡ Some r → IsSort w.tables r → (y : Term) × IsTermOf y r
      by_element None k i = absurd (none-some r k)
      by_element (Some f) k i =
          let same : list f ≡ r = same_Some (list f) r k in
          let there : IsSort w.tables (list f) = subst (IsSort w.tables) (sym same) i in
          (application (empty f) none, (tt, subst (HasSort w.tables [] (application (empty f) none)) same (there, tt, refl, refl)))
  term_of_sort t by_name x (a_name n) s r st a b h =
      let own = last_is_own x n st in
      let in_v = hv.others n own in
      let in_w = hw.others n own in
      let of_v : named in_v.0 ≡ s = same_Some (named in_v.0) s (sym in_v.1.0 ∙ a) in
      let of_w : named in_w.0 ≡ r = same_Some (named in_w.0) r (sym in_w.1.0 ∙ b) in
      let y = by_name n in_v.0 in_w.0 in_v.1.0 in_w.1.0 (subst (HasSort v.tables [] t) (sym of_v) h) in
      (y.0, (y.1.0, subst (HasSort w.tables [] y.0) of_w y.1.1))

  mutual
    term_of_name : (t : Term) (n : Name) (d e : ℕ) → first_named n v.sort_names ≡ Some (named d) → first_named n w.sort_names ≡ Some (named e) → IsConstructed v.tables t → HasSort v.tables [] t (named d) → (r : Term) × IsTermOf r (named e)
    term_of_name (variable x) n d e h k c s = absurd c
    term_of_name (numeral a z) n d e h k c s = absurd s.1.0
    term_of_name (unknown b j) n d e h k c s =
        let same : d ≡ b = same_number d b s.0 in
        let bare = bare_in_each u v w hv hw n d e h k (ap (sort_at v.tables) same ∙ s.2) in
        (unknown e 0, (tt, (refl, bare.0, bare.1)))
    term_of_name (application truth ts) n d e h k c s = absurd (let z : boolean ≡ named d = s.2 in cc)
    term_of_name (application falsity ts) n d e h k c s = absurd (let z : boolean ≡ named d = s.2 in cc)
    term_of_name (application (empty a) ts) n d e h k c s = absurd (let z : list a ≡ named d = s.2 in cc)
    term_of_name (application (cons a) ts) n d e h k c s = absurd (let z : list a ≡ named d = s.2 in cc)
    term_of_name (application (function i) ts) n d e h k c s =
        let under = fv.no_more i s.0 in
        let f = under.0 in
        let in_text = paired_second (IsFunction u v) (u.functions f) (all_named f v.function_names) i (fv.each f) (under_its_name f v.function_names i under.1) in
        let g : TextFunction = in_text.0 in
        let in_w = paired (IsFunction u w) (u.functions f) (all_named f w.function_names) g (fw.each f) in_text.1 in
        let j = in_w.0 in
        let role = constructs_in_each u v w g.result g.role (function_at v.tables i).role (function_at w.tables j).role in_text.2.role in_w.1.role c.0 in
        let gives : sort_in v.sort_names g.result ≡ Some (named d) = in_text.2.result ∙ ap Some s.2 in
        let its = name_of_sort v.sort_names g.result d gives in
        let name : first_named its.0 v.sort_names ≡ Some (named d) = ap (sort_in v.sort_names) (sym its.1) ∙ gives in
        let there : sort_in w.sort_names g.result ≡ Some (named e) = ap (sort_in w.sort_names) its.1 ∙ (same_sort u v w hv hw its.0 n d name h ∙ k) in
        let result : (function_at w.tables j).result ≡ named e = same_Some (function_at w.tables j).result (named e) (sym in_w.1.result ∙ there) in
        let rs = terms_of_each ts g.arguments (function_at v.tables i).arguments (function_at w.tables j).arguments in_text.2.arguments in_w.1.arguments c.1 s.1 in
        (application (function j) rs.0, ((role, rs.1.0), (in_w.1.within, rs.1.1, result, refl)))
    term_of_name (application f ts) n d e h k c s = absurd c

    terms_of_each : (ts : Terms) (xs : List SortExpression) (ss rs : List Sort) → sorts_in v.sort_names xs ≡ Some ss → sorts_in w.sort_names xs ≡ Some rs → AreConstructed v.tables ts → HaveSorts v.tables [] ts ss → (us : Terms) × (AreConstructed w.tables us × HaveSorts w.tables [] us rs)
    terms_of_each none [] ss rs a b c s = (none, (tt, subst (HaveSorts w.tables [] none) (same_Some [] rs b) tt))
    terms_of_each none (x ∷ xs) ss rs a b c s =
        let p = sorts_then v.sort_names x xs ss a in
        let never : HaveSorts v.tables [] none (p.first ∷ p.rest) = subst (HaveSorts v.tables [] none) p.whole s in
        absurd never
    terms_of_each (more t ts) [] ss rs a b c s = let never : HaveSorts v.tables [] (more t ts) [] = subst (HaveSorts v.tables [] (more t ts)) (sym (same_Some [] ss a)) s in absurd never
    terms_of_each (more t ts) (x ∷ xs) ss rs a b c s =
        let p = sorts_then v.sort_names x xs ss a in
        let q = sorts_then w.sort_names x xs rs b in
        let have : HaveSorts v.tables [] (more t ts) (p.first ∷ p.rest) = subst (HaveSorts v.tables [] (more t ts)) p.whole s in
        let stood = has_stood u v hv x p.first p.head in
        let in_v : sort_in v.sort_names stood.0 ≡ Some p.first = sym (what_stands_for_a_sort_has_it u v hv x stood.0 stood.1) ∙ p.head in
        let in_w : sort_in w.sort_names stood.0 ≡ Some q.first = sym (what_stands_for_a_sort_has_it u w hw x stood.0 stood.1) ∙ q.head in
        let first = term_of_sort t (λ n d e h k a. term_of_name t n d e h k c.0 a) x stood.0 p.first q.first stood.1 in_v in_w have.0 in
        let rest = terms_of_each ts xs p.rest q.rest p.tail q.tail c.1 have.1 in
        (more first.0 rest.0, ((first.1.0, rest.1.0), subst (HaveSorts w.tables [] (more first.0 rest.0)) (sym q.whole) (first.1.1, rest.1.1)))

pub empty_sorts_are_empty_in_each_vocabulary : EmptySortsAreEmptyInEachVocabulary
empty_sorts_are_empty_in_each_vocabulary u v w iv iw n d e h k is = (
  λ bare. is.0 (bare_in_each u w v iw.sorts iv.sorts n e d k h bare).1,
  λ t c s. (let r = term_of_name u w v iw.sorts iv.sorts iw.functions iv.functions t n e d k h c s in is.1 r.0 r.1.0 r.1.1),
)
