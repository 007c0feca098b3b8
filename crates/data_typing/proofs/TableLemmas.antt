-- The tables of a signature's sorts.
use Rattle.std.proofs.Common.{◌≡◌, ◌<◌, ◌≤◌, ◌+◌, ℕ, zero, suc, List, [], ◌∷◌, ◌++◌, length, map, take, drop, get_or, refl, sym, subst, ap, ◌∙◌, arith, length-append, append-nil}
use Rattle.std.specs.Prelude.{Some, None, IfSome, slice_get}
use Rattle.std.specs.List.{All, AllByRecursion}
use Rattle.std.proofs.lemmas.List.{append_assoc, length-map, take_more}
use Rattle.std.proofs.lemmas.List.Elements.{All-nil, All-cons}
use Rattle.std.proofs.lemmas.Option.{slice_get-get_or}
use Rattle.data_theory.specs.declared.ids.SortId.{SortId}
use Rattle.data_theory.specs.Terms.{Sort, boolean, named}
use Rattle.data_theory.specs.Sorts as kinds
use Rattle.data_theory.specs.Sorts.{Kind, SortInfo, list_sort}
use Rattle.data_theory.specs.Signature.{Sig}
use Rattle.data_theory.specs.IdSorts.{construction_of, constructions, meaning_of, meant_by, meanings_behind}
use Rattle.data_theory.specs.IdTables.{IsTable}
use Rattle.data_theory.specs.IdTerms.{sort_under, IsGrown}
use Rattle.data_theory.proofs.IdSortLemmas.{sorts_mean_their_kinds}
use Rattle.data_theory.proofs.IdGrowthLemmas.{growth_after_growth_is_growth, with_a_list_sort_it_is_grown}
use Rattle.sort_table.specs.NamedSorts.{AddsLists, no_lists, one_list, sort_count}
use Rattle.data_typing.specs.declared.flat_sorts.FlatSort.{FlatSort}
use Rattle.data_typing.specs.FlatSorts.{flat_sort}
use Rattle.data_typing.specs.CodeWords.{AreFlat}
use Rattle.data_typing.specs.NamedSorts.{AreNamedSorts, AreFrontOf}
use Rattle.data_typing.specs.Within.{IsFlatWithin}
use Rattle.data_typing.proofs.SignatureSorts.{not_grown}
use Rattle.data_typing.proofs.SortTables.{flats_pushed}
use Rattle.data_typing.proofs.FindingLemmas.{none_named, named_more, named_on, flats_long}
use Rattle.data_typing.proofs.WithinLemmas.{IsSortWithin, flat_back, sort_more}

-- ---- list sorts
pub lists_grow : (g h : Sig) → AddsLists g h → IsGrown g h
lists_grow g _ no_lists = not_grown g
lists_grow g _ (one_list h e l absent a) = growth_after_growth_is_growth g h _ (lists_grow g h a) (with_a_list_sort_it_is_grown h e)

pub constructions_both : (xs ys : List SortInfo) → constructions (xs ++ ys) ≡ constructions xs ++ constructions ys
constructions_both [] ys = refl
constructions_both (x ∷ xs) ys = ap (λ cs. construction_of x.kind ++ cs) (constructions_both xs ys) ∙ sym (append_assoc (construction_of x.kind) (constructions xs) (constructions ys))

record IsBehind (g h : Sig) : Type 0 where
  more : List SortInfo
  are : h.sorts ≡ g.sorts ++ more
  none : constructions more ≡ []

behind : (g h : Sig) → AddsLists g h → IsBehind g h
behind g _ no_lists = record { more = []; are = sym (append-nil g.sorts); none = refl }
behind g _ (one_list h e l absent a) =
    let b = behind g h a in
    record {
      more = b.more ++ list_sort e ∷ [];
      are = ap (λ ss. ss ++ list_sort e ∷ []) b.are ∙ append_assoc g.sorts b.more (list_sort e ∷ []);
      none = constructions_both b.more (list_sort e ∷ []) ∙ ap (λ cs. cs ++ []) b.none;
    }

meanings_both : (xs ys : List SortInfo) (ms : List Sort) (d : ℕ) → meanings_behind ms d (xs ++ ys) ≡ meanings_behind (meanings_behind ms d xs) (d + length (constructions xs)) ys
meanings_both [] ys ms d = ap (λ n. meanings_behind ms n ys) (let same : d ≡ d + 0 = omega arith in same)
meanings_both (x ∷ xs) ys ms d =
    let m : Sort = meaning_of (meant_by ms) d x.kind in
    meanings_both xs ys (ms ++ m ∷ []) (d + length (construction_of x.kind))
    ∙ ap (λ n. meanings_behind (meanings_behind (ms ++ m ∷ []) (d + length (construction_of x.kind)) xs) n ys)
    (let long = length-append (construction_of x.kind) (constructions xs) in let same : d + length (construction_of x.kind) + length (constructions xs) ≡ d + length (construction_of x.kind ++ constructions xs) = omega (arith, long) in same)

taken_front : {A : Type 0} (xs ys : List A) (n : ℕ) → n ≡ length xs → take n (xs ++ ys) ≡ xs
taken_front [] ys zero e = refl
taken_front [] ys (suc n) e = absurd (omega (arith, e))
taken_front (x ∷ xs) ys zero e = absurd (omega (arith, e))
taken_front (x ∷ xs) ys (suc n) e = ap (λ zs. x ∷ zs) (taken_front xs ys n (omega (arith, e)))

dropped_front : {A : Type 0} (xs ys : List A) (n : ℕ) → n ≡ length xs → drop n (xs ++ ys) ≡ ys
dropped_front [] ys zero e = refl
dropped_front [] ys (suc n) e = absurd (omega (arith, e))
dropped_front (x ∷ xs) ys zero e = absurd (omega (arith, e))
dropped_front (x ∷ xs) ys (suc n) e = dropped_front xs ys n (omega (arith, e))

-- the tables stand in front where list sorts were added
pub tables_in_front : (g h : Sig) (fs : List FlatSort) (ds : List SortId) → AreFlat g fs → AreNamedSorts g ds → length ds ≡ sort_count g → AddsLists g h → AreFrontOf h (length fs) fs ds
tables_in_front g h fs ds flat are many a =
    let b = behind g h a in
    let long : length fs ≡ length g.sorts = flats_long g fs flat in
    record {
      many = refl;
      flats =
          ap (meanings_behind [] 0) b.are ∙ meanings_both g.sorts b.more [] 0 ∙ ap (λ n. meanings_behind (meanings_behind [] 0 g.sorts) n b.more) (let same : 0 + length (constructions g.sorts) ≡ length ds = omega (arith, many) in same)
          ∙ ap (λ ms. meanings_behind ms (length ds) b.more) (sym flat) ∙ ap (meanings_behind (map flat_sort fs) (length ds)) (sym (ap (drop (length fs)) b.are ∙ dropped_front g.sorts b.more (length fs) long));
      declared = named_on g h (lists_grow g h a) ds are;
      count = many ∙ ap (λ ss. length (constructions ss)) (sym (ap (take (length fs)) b.are ∙ taken_front g.sorts b.more (length fs) long));
    }

pub front_of_none : (g : Sig) (fs : List FlatSort) (ds : List SortId) → fs ≡ [] → ds ≡ [] → AreFrontOf g (length fs) fs ds
front_of_none g fs ds e f = subst (λ xs. AreFrontOf g (length xs) xs ds) (sym e) (subst (AreFrontOf g 0 []) (sym f) (record { many = refl; flats = refl; declared = none_named g [] refl; count = refl }))

-- ---- one sort more
named_pushed : (g : Sig) → IsTable g → (i : ℕ) (s : SortInfo) → slice_get g.sorts i ≡ Some s → i < length g.sorts → (k : Kind) → s.kind ≡ k → (old new : List SortId) → new ≡ old ++ map (λ c. record { 0 = i }) (construction_of k)
    → length old ≡ length (constructions (take i g.sorts)) → AreNamedSorts g old → AreNamedSorts g new
named_pushed g table i s at l k is old new e many are = by k is e
  where
    meant : (k : Kind) → s.kind ≡ k → sort_under g (record { 0 = i }) ≡ meaning_of (sort_under g) (length (constructions (take i g.sorts))) k
    meant k q = sorts_mean_their_kinds g.sorts table.sorts (record { 0 = i }) s at ∙ ap (meaning_of (sort_under g) (length (constructions (take i g.sorts)))) q

    same : new ≡ old ++ [] → AreNamedSorts g new
    same q = subst (AreNamedSorts g) (sym (q ∙ append-nil old)) are

    by : (k : Kind) → s.kind ≡ k → new ≡ old ++ map (λ c. record { 0 = i }) (construction_of k) → AreNamedSorts g new
    by kinds.booleans q f = same f
    by kinds.positives q f = same f
    by kinds.naturals q f = same f
    by kinds.integers q f = same f
    by (kinds.lists_over x) q f = same f
    by kinds.without_constructors q f = named_more g old new (record { 0 = i }) f are l (meant kinds.without_constructors q ∙ ap named (sym many))
    by (kinds.by_declarations fs) q f = named_more g old new (record { 0 = i }) f are l (meant (kinds.by_declarations fs) q ∙ ap named (sym many))
    by (kinds.structured fs) q f = named_more g old new (record { 0 = i }) f are l (meant (kinds.structured fs) q ∙ ap named (sym many))

pub front_more : (g : Sig) → IsTable g → (i : ℕ) (fs new : List FlatSort) (ds more : List SortId) (k : Kind) (f : FlatSort) → i < length g.sorts → IfSome (slice_get g.sorts i) (λ s. s.kind ≡ k) → flat_sort f ≡ meaning_of (meant_by (map flat_sort fs)) (length ds) k
    → new ≡ fs ++ f ∷ [] → more ≡ ds ++ map (λ c. record { 0 = i }) (construction_of k) → AreFrontOf g i fs ds → AreFrontOf g (i + 1) new more
front_more g table i fs new ds more k f l is meant e q front =
    let none : SortInfo = record { kind = kinds.booleans; name = None } in
    let s : SortInfo = get_or g.sorts i none in
    let at : slice_get g.sorts i ≡ Some s = slice_get-get_or g.sorts i none l in
    let kind : s.kind ≡ k = subst (λ o. IfSome o (λ (x : SortInfo). x.kind ≡ k)) at is in
    let grown : length more ≡ length ds + length (construction_of k) = ap length q ∙ length-append ds (map (λ c. record { 0 = i }) (construction_of k)) ∙ ap (λ n. length ds + n) (length-map (construction_of k) (λ c. record { 0 = i })) in
    let many = front.many in
    record {
      many = ap length e ∙ length-append fs (f ∷ []) ∙ ap (λ n. n + 1) many;
      flats = flats_pushed g.sorts fs new (length ds) i (length (construction_of k)) k f l is meant refl e front.flats ∙ ap (λ n. meanings_behind (map flat_sort new) n (drop (i + 1) g.sorts)) (sym grown);
      declared = named_pushed g table i s at l k kind ds more q front.count front.declared;
      count =
          grown ∙ ap (λ n. n + length (construction_of k)) front.count
          ∙ sym (ap (λ ss. length (constructions ss)) (take_more g.sorts i none l) ∙ ap length (constructions_both (take i g.sorts) (s ∷ [])) ∙ length-append (constructions (take i g.sorts)) (constructions (s ∷ []))
          ∙ ap (λ cs. length (constructions (take i g.sorts)) + length cs) (append-nil (construction_of s.kind) ∙ ap construction_of kind));
    }

nothing_left : {A : Type 0} (n : ℕ) (xs : List A) → length xs ≤ n → drop n xs ≡ []
nothing_left zero [] h = refl
nothing_left zero (x ∷ xs) h = absurd (omega (arith, h))
nothing_left (suc n) [] h = refl
nothing_left (suc n) (x ∷ xs) h = nothing_left n xs (omega (arith, h))

all_left : {A : Type 0} (n : ℕ) (xs : List A) → length xs ≤ n → take n xs ≡ xs
all_left zero [] h = refl
all_left zero (x ∷ xs) h = absurd (omega (arith, h))
all_left (suc n) [] h = refl
all_left (suc n) (x ∷ xs) h = ap (λ ys. x ∷ ys) (all_left n xs (omega (arith, h)))

pub front_is_flat : (g : Sig) (i : ℕ) (fs : List FlatSort) (ds : List SortId) → length g.sorts ≤ i → AreFrontOf g i fs ds → AreFlat g fs
front_is_flat g i fs ds h front = sym (front.flats ∙ ap (meanings_behind (map flat_sort fs) (length ds)) (nothing_left i g.sorts h))

pub front_counts : (g : Sig) (i : ℕ) (fs : List FlatSort) (ds : List SortId) → length g.sorts ≤ i → AreFrontOf g i fs ds → length ds ≡ sort_count g
front_counts g i fs ds h front = front.count ∙ ap (λ ss. length (constructions ss)) (all_left i g.sorts h)

-- ---- sorts of the data
meant_within : (n : ℕ) (ms : List Sort) → AllByRecursion (IsSortWithin n) ms → (k : ℕ) → IsSortWithin n (get_or ms k boolean)
meant_within n [] all k = tt
meant_within n (m ∷ ms) all zero = all.0
meant_within n (m ∷ ms) all (suc k) = meant_within n ms all.1 k

all_more : (n m : ℕ) → n ≤ m → (ss : List Sort) → AllByRecursion (IsSortWithin n) ss → AllByRecursion (IsSortWithin m) ss
all_more n m le [] all = tt
all_more n m le (s ∷ ss) all = (sort_more n m le s all.0, all_more n m le ss all.1)

all_pushed : (n : ℕ) (ss : List Sort) (s : Sort) → AllByRecursion (IsSortWithin n) ss → IsSortWithin n s → AllByRecursion (IsSortWithin n) (ss ++ s ∷ [])
all_pushed n [] s all h = (h, tt)
all_pushed n (x ∷ ss) s all h = (all.0, all_pushed n ss s all.1 h)

kind_meant_within : (ms : List Sort) (d : ℕ) → AllByRecursion (IsSortWithin d) ms → (k : Kind) → IsSortWithin (d + length (construction_of k)) (meaning_of (meant_by ms) d k)
kind_meant_within ms d all kinds.booleans = tt
kind_meant_within ms d all kinds.positives = tt
kind_meant_within ms d all kinds.naturals = tt
kind_meant_within ms d all kinds.integers = tt
kind_meant_within ms d all (kinds.lists_over e) = sort_more d (d + 0) (omega arith) (get_or ms e.0 boolean) (meant_within d ms all e.0)
kind_meant_within ms d all kinds.without_constructors = omega arith
kind_meant_within ms d all (kinds.by_declarations fs) = omega arith
kind_meant_within ms d all (kinds.structured fs) = omega arith

meanings_within : (ms : List Sort) (d : ℕ) → AllByRecursion (IsSortWithin d) ms → (ss : List SortInfo) → AllByRecursion (IsSortWithin (d + length (constructions ss))) (meanings_behind ms d ss)
meanings_within ms d all [] = all_more d (d + 0) (omega arith) ms all
meanings_within ms d all (s ∷ ss) =
    let n : ℕ = d + length (construction_of s.kind) in
    let long = length-append (construction_of s.kind) (constructions ss) in
    let same : n + length (constructions ss) ≡ d + length (construction_of s.kind ++ constructions ss) = omega (arith, long) in
    subst (λ k. AllByRecursion (IsSortWithin k) (meanings_behind (ms ++ meaning_of (meant_by ms) d s.kind ∷ []) n ss)) same
    (meanings_within (ms ++ meaning_of (meant_by ms) d s.kind ∷ []) n (all_pushed n ms (meaning_of (meant_by ms) d s.kind) (all_more d n (omega arith) ms all) (kind_meant_within ms d all s.kind)) ss)

flats_back : (n : ℕ) (fs : List FlatSort) → AllByRecursion (IsSortWithin n) (map flat_sort fs) → All (IsFlatWithin n) fs
flats_back n [] all = All-nil (IsFlatWithin n)
flats_back n (f ∷ fs) all = All-cons (IsFlatWithin n) f fs (flat_back n f all.0) (flats_back n fs all.1)

-- flat sorts of a signature are sorts of its data
pub flats_are_within : (g : Sig) (fs : List FlatSort) → AreFlat g fs → All (IsFlatWithin (sort_count g)) fs
flats_are_within g fs e = flats_back (sort_count g) fs (subst (AllByRecursion (IsSortWithin (sort_count g))) (sym e) (subst (λ n. AllByRecursion (IsSortWithin n) (meanings_behind [] 0 g.sorts)) (let same : 0 + length (constructions g.sorts) ≡ sort_count g = omega arith in same) (meanings_within [] 0 tt g.sorts)))
