-- Numbers of sorts without aliases, and what they mean.
use Rattle.std.proofs.Common.{◌≡◌, ◌<◌, ◌+◌, ◌⊎◌, inl, inr, ⊎_elim, ℕ, zero, suc, Bool, true, false, List, [], ◌∷◌, ◌++◌, length, set, take, drop, get_or, refl, ap, sym, ◌∙◌, subst, arith}
use Rattle.std.specs.Prelude.{Option, Some, None, is_some, option_map, option_and_then, slice_get}
use Rattle.std.specs.List.{Contains}
use Rattle.std.specs.Global.{Vec}
use Rattle.std.proofs.lemmas.Option.{none-some, same_Some}
use Rattle.std.proofs.lemmas.List.{take-append-drop}
use Rattle.data_theory.proofs.PlaceLemmas.{read_last, read_front}
use Rattle.sort_table.proofs.AliasCycles.{less_or_same}
use Rattle.sort_table.proofs.Searches.{IsListed, listed_more, listed_behind}
use Rattle.graphs.specs.Graphs.{HasEdge}
use Rattle.sort_table.specs.declared.flat_sorts.FlatSort.{FlatSort}
use Rattle.sort_table.specs.Expressions.{Name}
use Rattle.sort_table.specs.NamedLists.{first_named}
use Rattle.sort_table.specs.BareSorts.{SortExpression, truth_values, positives, naturals, integers, lists_of, a_name}
use Rattle.sort_table.specs.BareDeclarations.{alias}
use Rattle.sort_table.specs.SortMeanings.{Kind, alone, a_struct, equal_to, UnderNames, StandsFor, for_truth_values, for_positives, for_naturals, for_integers, for_lists, for_plain, for_struct, for_alias, StandForEach, no_sorts, and_sort}
use Rattle.sort_table.specs.SortIndexes.{first_place}
use Rattle.sort_table.specs.UsedNames.{leaf_of}
use Rattle.sort_table.specs.SortCycles.{place_of}
use Rattle.sort_table.specs.AliasGraphs.{HasAliasEdge}
use Rattle.sort_table.specs.NamedSorts.{IsOwnKind, AreSoundKinds}
use Rattle.sort_table.specs.DeclaringSorts.{IsFirst, AreLevels}
use Rattle.sort_table.specs.Duplicates.{SameSorts}
use Rattle.sort_table.specs.FlatSorts.{lists_over, IsBase, bool_base, pos_base, nat_base, int_base, own_base, IsFlat, AreFlat, no_flats, and_flat, built_in_flat, own_flat, list_flat, flat_in, flats_in, sorts_only, IsSettled, KeepsFlat, OwnAreSettled, AliasIsSettled, IsReadyToSettle, AllAreSettled}
use Rattle.sort_table.proofs.AliasPlaces.{entry_at, declared_place, edge_is}
use Rattle.sort_table.proofs.IndexPlaces.{placed}
use Rattle.sort_table.proofs.ListForms.{entry_found}
use Rattle.sort_table.proofs.StandingNames.{in_list, alias_stands, used_is_declared}
use Rattle.sort_table.proofs.UsedNameLemmas.{its_leaf}
use Rattle.sort_table.proofs.DeclaringLemmas.{first_within}
use Rattle.sort_table.proofs.OneSort.{one_sorts}

-- ---- one name at a place
pub name_at_place : (ks : List (Name × Kind)) (n m : Name) (p : ℕ) → first_place n ks ≡ Some p → first_place m ks ≡ Some p → n ≡ m
name_at_place ks n m p h k =
    let e : (j : Kind) × (slice_get ks p ≡ Some (n, j)) = entry_at n ks p h in
    let f : (j : Kind) × (slice_get ks p ≡ Some (m, j)) = entry_at m ks p k in
    ap (λ (r : Name × Kind). r.0) (same_Some (n, e.0) (m, f.0) (sym e.1 ∙ f.1))

-- ---- bases
base_is_one : (ks : List (Name × Kind)) (k p : ℕ) (b c : SortExpression) → IsBase ks k p b → IsBase ks k p c → b ≡ c
base_is_one ks _ _ _ _ bool_base bool_base = refl
base_is_one ks _ _ _ _ pos_base pos_base = refl
base_is_one ks _ _ _ _ nat_base nat_base = refl
base_is_one ks _ _ _ _ int_base int_base = refl
base_is_one ks _ _ _ _ (own_base p n k f o) (own_base _ m l g q) = ap a_name (name_at_place ks n m p f.place_is g.place_is)

base_numbers : (ks : List (Name × Kind)) (k p l q : ℕ) (b : SortExpression) → IsBase ks k p b → IsBase ks l q b → (k ≡ l) × (p ≡ q)
base_numbers ks _ _ _ _ _ bool_base bool_base = (refl, refl)
base_numbers ks _ _ _ _ _ pos_base pos_base = (refl, refl)
base_numbers ks _ _ _ _ _ nat_base nat_base = (refl, refl)
base_numbers ks _ _ _ _ _ int_base int_base = (refl, refl)
base_numbers ks _ _ _ _ _ (own_base p n k f o) (own_base q _ l g r) = (refl, same_Some p q (sym f.place_is ∙ g.place_is))

abbrev pub is_list : SortExpression → Bool
is_list truth_values = false
is_list positives = false
is_list naturals = false
is_list integers = false
is_list (lists_of e) = true
is_list (a_name n) = false

pub base_is_no_list : (ks : List (Name × Kind)) (k p : ℕ) (b : SortExpression) → IsBase ks k p b → is_list b ≡ false
base_is_no_list ks _ _ _ bool_base = refl
base_is_no_list ks _ _ _ pos_base = refl
base_is_no_list ks _ _ _ nat_base = refl
base_is_no_list ks _ _ _ int_base = refl
base_is_no_list ks _ _ _ (own_base p n k f o) = refl

element : SortExpression → SortExpression
element truth_values = truth_values
element positives = positives
element naturals = naturals
element integers = integers
element (lists_of e) = e
element (a_name n) = a_name n

same_lists : (d c : ℕ) (a b : SortExpression) → is_list a ≡ false → is_list b ≡ false → lists_over d a ≡ lists_over c b → (d ≡ c) × (a ≡ b)
unfolding element
same_lists zero zero a b f g e = (refl, e)
same_lists zero (suc c) a b f g e = let never : true ≡ false = sym (ap is_list e) ∙ f in cc
same_lists (suc d) zero a b f g e = let never : true ≡ false = ap is_list e ∙ g in cc
same_lists (suc d) (suc c) a b f g e = let r : (d ≡ c) × (a ≡ b) = same_lists d c a b f g (ap element e) in (ap suc r.0, r.1)

-- ---- numbers and meanings go together, both ways
pub flat_is_one : (ks : List (Name × Kind)) (s : FlatSort) (e f : SortExpression) → IsFlat ks s e → IsFlat ks s f → e ≡ f
flat_is_one ks s e f a b = a.lists ∙ (ap (lists_over s.depth) (base_is_one ks s.kind s.place a.base b.base a.is_base b.is_base) ∙ sym b.lists)

pub numbers_are_one : (ks : List (Name × Kind)) (s t : FlatSort) (e : SortExpression) → IsFlat ks s e → IsFlat ks t e → s ≡ t
numbers_are_one ks s t e a b =
    let same : (s.depth ≡ t.depth) × (a.base ≡ b.base) = same_lists s.depth t.depth a.base b.base (base_is_no_list ks s.kind s.place a.base a.is_base) (base_is_no_list ks t.kind t.place b.base b.is_base) (sym a.lists ∙ b.lists) in
    let rest : (s.kind ≡ t.kind) × (s.place ≡ t.place) = base_numbers ks s.kind s.place t.kind t.place a.base a.is_base (subst (IsBase ks t.kind t.place) (sym same.1) b.is_base) in
    λ i. record { depth = same.0 i; kind = rest.0 i; place = rest.1 i }

pub flats_are_one : (ks : List (Name × Kind)) (ss : List FlatSort) (es fs : List SortExpression) → AreFlat ks ss es → AreFlat ks ss fs → es ≡ fs
flats_are_one ks _ _ _ no_flats no_flats = refl
flats_are_one ks _ _ _ (and_flat s ss e es h hs) (and_flat _ _ f fs k ks2) = λ i. flat_is_one ks s e f h k i ∷ flats_are_one ks ss es fs hs ks2 i

pub all_numbers_are_one : (ks : List (Name × Kind)) (ss ts : List FlatSort) (es : List SortExpression) → AreFlat ks ss es → AreFlat ks ts es → ss ≡ ts
all_numbers_are_one ks _ _ _ no_flats no_flats = refl
all_numbers_are_one ks _ _ _ (and_flat s ss e es h hs) (and_flat t ts _ _ k ks2) = λ i. numbers_are_one ks s t e h k i ∷ all_numbers_are_one ks ss ts es hs ks2 i

list_is_flat : (ks : List (Name × Kind)) (s : FlatSort) (e : SortExpression) → IsFlat ks s e → IsFlat ks (list_flat s) (lists_of e)
list_is_flat ks s e f = record { base = f.base; is_base = f.is_base; lists = ap lists_of f.lists }

-- ---- what an expression stands for has its numbers
pub record HasFlat (ks : List (Name × Kind)) (table : List FlatSort) (e : SortExpression) : Type 0 where
  pub sort : FlatSort
  pub meaning : SortExpression
  pub read : flat_in ks table e ≡ Some sort
  pub stands : StandsFor (sorts_only ks) e meaning
  pub flat : IsFlat ks sort meaning

built_in_is_flat : (ks : List (Name × Kind)) (k : ℕ) (b : SortExpression) → IsBase ks k zero b → IsFlat ks (built_in_flat k) b
built_in_is_flat ks k b is = record { base = b; is_base = is; lists = refl }

pub has_flat : (ks : List (Name × Kind)) (table : List FlatSort) (e : SortExpression) → ((n : Name) → leaf_of e ≡ Some n → IsSettled ks table n) → HasFlat ks table e
has_flat ks table truth_values known = record { sort = built_in_flat 0; meaning = truth_values; read = refl; stands = for_truth_values; flat = built_in_is_flat ks 0 truth_values bool_base }
has_flat ks table positives known = record { sort = built_in_flat 1; meaning = positives; read = refl; stands = for_positives; flat = built_in_is_flat ks 1 positives pos_base }
has_flat ks table naturals known = record { sort = built_in_flat 2; meaning = naturals; read = refl; stands = for_naturals; flat = built_in_is_flat ks 2 naturals nat_base }
has_flat ks table integers known = record { sort = built_in_flat 3; meaning = integers; read = refl; stands = for_integers; flat = built_in_is_flat ks 3 integers int_base }
has_flat ks table (lists_of e) known =
    let h : HasFlat ks table e = has_flat ks table e known in
    record { sort = list_flat h.sort; meaning = lists_of h.meaning; read = ap (option_map list_flat) h.read; stands = for_lists e h.meaning h.stands; flat = list_is_flat ks h.sort h.meaning h.flat }
has_flat ks table (a_name n) known =
    let s : IsSettled ks table n = known n refl in
    record { sort = s.sort; meaning = s.expression; read = ap (option_and_then (λ (p : ℕ). slice_get table p)) s.at ∙ s.read; stands = s.stands; flat = s.flat }

-- ---- levels
pub ready_to_settle : (ks : List (Name × Kind)) (levels : List (Vec ℕ)) (table : List FlatSort) (r p : ℕ) → AreSoundKinds ks → AreLevels ks levels → OwnAreSettled ks table
    → ((q b : ℕ) → q < r → HasEdge levels q b → AliasIsSettled ks b table) → HasEdge levels r p → IsReadyToSettle ks p table
ready_to_settle ks levels table r p (ds, same, known, round) are own below edge n e first m leaf =
    let there : Contains ks (n, equal_to e) = in_list n ks (equal_to e) first.kind_is in
    let in_text : Contains ds (alias n e) = alias_stands ds n e (subst (λ (rs : List (Name × Kind)). Contains rs (n, equal_to e)) same there) in
    let declared : is_some (first_named m ks) ≡ true = ap (λ (rs : List (Name × Kind)). is_some (first_named m rs)) same ∙ used_is_declared ds n m e known in_text (its_leaf e m leaf) in
    let at : first_place m ks ≡ Some (place_of m ks) = declared_place m ks declared in
    let kind : (k : Kind) × (first_named m ks ≡ Some k) = entry_found (first_named m ks) declared in
    let step : HasAliasEdge ks ks p (place_of m ks) = ((n, equal_to e), there, edge_is ks n e m p (place_of m ks) leaf first.place_is at) in
    let down : (q : ℕ) × (q < r) × HasEdge levels q (place_of m ks) = are.down r p (place_of m ks) edge step in
    of_kind m kind.0 (record { place_is = at; kind_is = kind.1 }) down
  where
    of_kind : (m : Name) (k : Kind) → IsFirst ks (place_of m ks) m k → (q : ℕ) × (q < r) × HasEdge levels q (place_of m ks) → IsSettled ks table m
    of_kind m alone f down = own m alone f.kind_is tt
    of_kind m a_struct f down = own m a_struct f.kind_is tt
    of_kind m (equal_to e) f down = below down.0 (place_of m ks) down.1 down.2 m e f

pub all_settled : (ks : List (Name × Kind)) (table : List FlatSort) → OwnAreSettled ks table → ((p : ℕ) → p < length ks → AliasIsSettled ks p table) → AllAreSettled ks table
all_settled ks table own aliases n k h =
    let at : first_place n ks ≡ Some (place_of n ks) = declared_place n ks (ap is_some h) in
    of_kind k (record { place_is = at; kind_is = h })
  where
    of_kind : (l : Kind) → IsFirst ks (place_of n ks) n l → IsSettled ks table n
    of_kind alone f = own n alone f.kind_is tt
    of_kind a_struct f = own n a_struct f.kind_is tt
    of_kind (equal_to e) f = aliases (place_of n ks) (first_within ks (place_of n ks) n (equal_to e) f) n e f

-- ---- an alias gets its sort
set_here : (table : List FlatSort) (p : ℕ) (s : FlatSort) → p < length table → slice_get (set table p s) p ≡ Some s
set_here [] p s l = absurd (omega (arith, l))
set_here (x ∷ xs) zero s l = refl
set_here (x ∷ xs) (suc p) s l = let m : p < length xs = omega (arith, l) in set_here xs p s m

set_other : (table : List FlatSort) (p q : ℕ) (s : FlatSort) → ¬ (p ≡ q) → slice_get (set table p s) q ≡ slice_get table q
set_other [] p q s d = refl
set_other (x ∷ xs) zero zero s d = absurd (d refl)
set_other (x ∷ xs) zero (suc q) s d = refl
set_other (x ∷ xs) (suc p) zero s d = refl
set_other (x ∷ xs) (suc p) (suc q) s d = set_other xs p q s (λ e. d (ap suc e))

set_size : (table : List FlatSort) (p : ℕ) (s : FlatSort) → length (set table p s) ≡ length table
set_size [] p s = refl
set_size (x ∷ xs) zero s = refl
set_size (x ∷ xs) (suc p) s = ap suc (set_size xs p s)

module _ (ks : List (Name × Kind)) (table : List FlatSort) (n : Name) (e : SortExpression) (p : ℕ) (s : FlatSort) (size : length table ≡ length ks) (first : IsFirst ks p n (equal_to e))
    (ready : IsReadyToSettle ks p table) (is : flat_in ks table e ≡ Some s) where
  pub alias_settled : IsSettled ks (set table p s) n
  alias_settled =
      let h : HasFlat ks table e = has_flat ks table e (ready n e first) in
      let same : h.sort ≡ s = same_Some h.sort s (sym h.read ∙ is) in
      let l : p < length table = subst (λ (i : ℕ). p < i) (sym size) (first_within ks p n (equal_to e) first) in
      record {
        place = p;
        sort = s;
        expression = h.meaning;
        at = first.place_is;
        read = set_here table p s l;
        stands = for_alias n e h.meaning first.kind_is h.stands;
        flat = subst (λ (t : FlatSort). IsFlat ks t h.meaning) same h.flat;
      }

  pub alias_keeps : KeepsFlat ks table (set table p s)
  alias_keeps = record { size = set_size table p s ∙ size; keeps = λ m old. by_place m old (decide p old.place) }
    where
      decide : (a b : ℕ) → (a ≡ b) ⊎ ¬ (a ≡ b)
      decide zero zero = inl refl
      decide zero (suc b) = inr (λ h. absurd (omega (arith, h)))
      decide (suc a) zero = inr (λ h. absurd (omega (arith, h)))
      decide (suc a) (suc b) = more (decide a b)
        where
          more : (a ≡ b) ⊎ ¬ (a ≡ b) → (suc a ≡ suc b) ⊎ ¬ (suc a ≡ suc b)
          more (inl h) = inl (ap suc h)
          more (inr d) = inr (λ (h : suc a ≡ suc b). d (omega (arith, h)))

      by_place : (m : Name) (old : IsSettled ks table m) → (p ≡ old.place) ⊎ ¬ (p ≡ old.place) → IsSettled ks (set table p s) m
      by_place m old (inl same) = subst (IsSettled ks (set table p s)) (name_at_place ks n m p first.place_is (subst (λ (i : ℕ). first_place m ks ≡ Some i) (sym same) old.at)) alias_settled
      by_place m old (inr d) = record { place = old.place; sort = old.sort; expression = old.expression; at = old.at; read = set_other table p old.place s d ∙ old.read; stands = old.stands; flat = old.flat }

pub keeps_all : (ks : List (Name × Kind)) (table : List FlatSort) → length table ≡ length ks → KeepsFlat ks table table
keeps_all ks table size = record { size = size; keeps = λ n old. old }

pub keeps_on : (ks : List (Name × Kind)) (a b c : List FlatSort) → KeepsFlat ks a b → KeepsFlat ks b c → KeepsFlat ks a c
keeps_on ks a b c f g = record { size = g.size; keeps = λ n old. g.keeps n (f.keeps n old) }

-- ---- the first table
pub own_settled : (ks : List (Name × Kind)) (table : List FlatSort) → ((p : ℕ) → p < length ks → slice_get table p ≡ Some (own_flat p)) → OwnAreSettled ks table
own_settled ks table are n k h own =
    let at : first_place n ks ≡ Some (place_of n ks) = declared_place n ks (ap is_some h) in
    let p : ℕ = place_of n ks in
    let first : IsFirst ks p n k = record { place_is = at; kind_is = h } in
    record {
      place = p;
      sort = own_flat p;
      expression = a_name n;
      at = at;
      read = are p (first_within ks p n k first);
      stands = of_kind k h own;
      flat = record { base = a_name n; is_base = own_base p n k first own; lists = refl };
    }
  where
    of_kind : (l : Kind) → first_named n ks ≡ Some l → IsOwnKind l → StandsFor (sorts_only ks) (a_name n) (a_name n)
    of_kind alone f o = for_plain n f
    of_kind a_struct f o = for_struct n f
    of_kind (equal_to e) f o = absurd o

pub pushed_own : (table : List FlatSort) (n : ℕ) → length table ≡ n → ((p : ℕ) → p < n → slice_get table p ≡ Some (own_flat p)) → (p : ℕ) → p < n + 1 → slice_get (table ++ own_flat n ∷ []) p ≡ Some (own_flat p)
pushed_own table n size are p l = ⊎_elim
    (λ less. read_front table (own_flat n ∷ []) p (own_flat p) (are p less))
    (λ same. subst (λ (q : ℕ). slice_get (table ++ own_flat n ∷ []) q ≡ Some (own_flat q)) (sym same) (subst (λ (q : ℕ). slice_get (table ++ own_flat n ∷ []) q ≡ Some (own_flat n)) size (read_last table (own_flat n))))
    (less_or_same p n (omega (arith, l)))

-- ---- the sorts of several expressions
abbrev both_lists : Option (List FlatSort) → Option (List FlatSort) → Option (List FlatSort)
both_lists o p = option_and_then (λ ss. option_map (λ ts. ss ++ ts) p) o

flats_append : (ks : List (Name × Kind)) (table : List FlatSort) (es fs : List SortExpression) → flats_in ks table (es ++ fs) ≡ both_lists (flats_in ks table es) (flats_in ks table fs)
flats_append ks table [] fs = alone_again (flats_in ks table fs)
  where
    alone_again : (p : Option (List FlatSort)) → p ≡ option_map (λ ts. ts) p
    alone_again None = refl
    alone_again (Some ts) = refl
flats_append ks table (e ∷ es) fs =
    by_first (flat_in ks table e) (flats_in ks table (es ++ fs)) (flats_in ks table es) (flats_in ks table fs) (flats_append ks table es fs)
  where
    by_rest : (s : FlatSort) (o p : Option (List FlatSort)) → option_map (λ ss. s ∷ ss) (both_lists o p) ≡ both_lists (option_map (λ ss. s ∷ ss) o) p
    by_rest s None p = refl
    by_rest s (Some ss) None = refl
    by_rest s (Some ss) (Some ts) = refl

    by_first : (f : Option FlatSort) (a o p : Option (List FlatSort)) → a ≡ both_lists o p → option_and_then (λ s. option_map (λ ss. s ∷ ss) a) f ≡ both_lists (option_and_then (λ s. option_map (λ ss. s ∷ ss) o) f) p
    by_first None a o p h = refl
    by_first (Some s) a o p h = ap (option_map (λ ss. s ∷ ss)) h ∙ by_rest s o p

module _ {A : Type 0} (ks : List (Name × Kind)) (table : List FlatSort) (h : List A → List SortExpression) (f : A → SortExpression) (is : IsListed h (λ x. f x ∷ [])) where
  next_flats : (xs : List A) (i : ℕ) (x : A) (o : Option FlatSort) (ss : List FlatSort) → i < length xs → x ≡ get_or xs i x → flats_in ks table (h (take i xs)) ≡ Some ss → o ≡ flat_in ks table (f x)
      → flats_in ks table (h (take (i + 1) xs)) ≡ both_lists (Some ss) (option_and_then (λ s. Some (s ∷ [])) o)
  next_flats xs i x o ss l e front one =
      ap (flats_in ks table) (listed_more h (λ x. f x ∷ []) is xs i x l e)
      ∙ (flats_append ks table (h (take i xs)) (f x ∷ [])
      ∙ λ j. both_lists (front j) (option_and_then (λ s. Some (s ∷ [])) (sym one j)))

  pub flats_further : (xs : List A) (i : ℕ) (x : A) (s : FlatSort) (ss : List FlatSort) → i < length xs → x ≡ get_or xs i x → flats_in ks table (h (take i xs)) ≡ Some ss → Some s ≡ flat_in ks table (f x)
      → flats_in ks table (h (take (i + 1) xs)) ≡ Some (ss ++ s ∷ [])
  flats_further xs i x s ss l e front one = next_flats xs i x (Some s) ss l e front one

  pub flats_stop : (xs : List A) (i : ℕ) (x : A) (ss : List FlatSort) → i < length xs → x ≡ get_or xs i x → flats_in ks table (h (take i xs)) ≡ Some ss → None ≡ flat_in ks table (f x) → None ≡ flats_in ks table (h xs)
  flats_stop xs i x ss l e front one =
      sym (ap (λ ys. flats_in ks table (h ys)) (sym (take-append-drop (i + 1) xs))
      ∙ (ap (flats_in ks table) (listed_behind h (λ x. f x ∷ []) is (take (i + 1) xs) (drop (i + 1) xs))
      ∙ (flats_append ks table (h (take (i + 1) xs)) (h (drop (i + 1) xs))
      ∙ ap (λ o. both_lists o (flats_in ks table (h (drop (i + 1) xs)))) (next_flats xs i x None ss l e front one))))

-- ---- lists of expressions stand for the same where their numbers are the same
pub record HaveFlats (ks : List (Name × Kind)) (table : List FlatSort) (es : List SortExpression) : Type 0 where
  pub sorts : List FlatSort
  pub meanings : List SortExpression
  pub read : flats_in ks table es ≡ Some sorts
  pub stand : StandForEach (sorts_only ks) es meanings
  pub flat : AreFlat ks sorts meanings

pub stands_by_sorts : (u w : UnderNames) → ((n : Name) → u.sort n ≡ w.sort n) → (e s : SortExpression) → StandsFor u e s → StandsFor w e s
stands_by_sorts u w same _ _ for_truth_values = for_truth_values
stands_by_sorts u w same _ _ for_positives = for_positives
stands_by_sorts u w same _ _ for_naturals = for_naturals
stands_by_sorts u w same _ _ for_integers = for_integers
stands_by_sorts u w same _ _ (for_lists e s h) = for_lists e s (stands_by_sorts u w same e s h)
stands_by_sorts u w same _ _ (for_plain n h) = for_plain n (sym (same n) ∙ h)
stands_by_sorts u w same _ _ (for_struct n h) = for_struct n (sym (same n) ∙ h)
stands_by_sorts u w same _ _ (for_alias n e s h r) = for_alias n e s (sym (same n) ∙ h) (stands_by_sorts u w same e s r)

pub each_stands_by_sorts : (u w : UnderNames) → ((n : Name) → u.sort n ≡ w.sort n) → (es ss : List SortExpression) → StandForEach u es ss → StandForEach w es ss
each_stands_by_sorts u w same _ _ no_sorts = no_sorts
each_stands_by_sorts u w same _ _ (and_sort e s es ss h hs) = and_sort e s es ss (stands_by_sorts u w same e s h) (each_stands_by_sorts u w same es ss hs)

module _ (ks : List (Name × Kind)) (table : List FlatSort) (all : AllAreSettled ks table) where
  -- of what stands for something the name is declared
  leaf_declared : (e s : SortExpression) → StandsFor (sorts_only ks) e s → (n : Name) → leaf_of e ≡ Some n → (k : Kind) × (first_named n ks ≡ Some k)
  leaf_declared _ _ for_truth_values n l = absurd (none-some n l)
  leaf_declared _ _ for_positives n l = absurd (none-some n l)
  leaf_declared _ _ for_naturals n l = absurd (none-some n l)
  leaf_declared _ _ for_integers n l = absurd (none-some n l)
  leaf_declared _ _ (for_lists e s h) n l = leaf_declared e s h n l
  leaf_declared _ _ (for_plain m h) n l = (alone, ap (λ (i : Name). first_named i ks) (sym (same_Some m n l)) ∙ h)
  leaf_declared _ _ (for_struct m h) n l = (a_struct, ap (λ (i : Name). first_named i ks) (sym (same_Some m n l)) ∙ h)
  leaf_declared _ _ (for_alias m e s h r) n l = (equal_to e, ap (λ (i : Name). first_named i ks) (sym (same_Some m n l)) ∙ h)

  flat_of_standing : (e s : SortExpression) → StandsFor (sorts_only ks) e s → HasFlat ks table e
  flat_of_standing e s h = has_flat ks table e (λ n l. let k : (k : Kind) × (first_named n ks ≡ Some k) = leaf_declared e s h n l in all n k.0 k.1)

  pub flats_of_standing : (es rs : List SortExpression) → StandForEach (sorts_only ks) es rs → HaveFlats ks table es
  flats_of_standing _ _ no_sorts = record { sorts = []; meanings = []; read = refl; stand = no_sorts; flat = no_flats }
  flats_of_standing _ _ (and_sort e s es ss h hs) =
      let one : HasFlat ks table e = flat_of_standing e s h in
      let rest : HaveFlats ks table es = flats_of_standing es ss hs in
      record {
        sorts = one.sort ∷ rest.sorts;
        meanings = one.meaning ∷ rest.meanings;
        read = λ i. option_and_then (λ s. option_map (λ ss. s ∷ ss) (rest.read i)) (one.read i);
        stand = and_sort e one.meaning es rest.meanings one.stands rest.stand;
        flat = and_flat one.sort rest.sorts one.meaning rest.meanings one.flat rest.flat;
      }

  -- what has numbers has a declared name
  read_declared : (e : SortExpression) (s : FlatSort) → flat_in ks table e ≡ Some s → (n : Name) → leaf_of e ≡ Some n → (k : Kind) × (first_named n ks ≡ Some k)
  read_declared truth_values s h n l = absurd (none-some n l)
  read_declared positives s h n l = absurd (none-some n l)
  read_declared naturals s h n l = absurd (none-some n l)
  read_declared integers s h n l = absurd (none-some n l)
  read_declared (lists_of e) s h n l = under (flat_in ks table e) refl (λ t q. read_declared e t q n l) h
    where
      under : (o : Option FlatSort) → flat_in ks table e ≡ o → ((t : FlatSort) → flat_in ks table e ≡ Some t → (k : Kind) × (first_named n ks ≡ Some k)) → option_map list_flat o ≡ Some s → (k : Kind) × (first_named n ks ≡ Some k)
      under None q f g = absurd (none-some s g)
      under (Some t) q f g = f t q
  read_declared (a_name m) s h n l = by_place (first_place m ks) refl h
    where
      by_place : (o : Option ℕ) → first_place m ks ≡ o → option_and_then (λ (p : ℕ). slice_get table p) o ≡ Some s → (k : Kind) × (first_named n ks ≡ Some k)
      by_place None q g = absurd (none-some s g)
      by_place (Some p) q g = entry_found (first_named n ks) (ap (λ (i : Name). is_some (first_named i ks)) (sym (same_Some m n l)) ∙ (sym (placed m ks) ∙ ap is_some q))

  flat_of_read : (e : SortExpression) (s : FlatSort) → flat_in ks table e ≡ Some s → HasFlat ks table e
  flat_of_read e s h = has_flat ks table e (λ n l. let k : (k : Kind) × (first_named n ks ≡ Some k) = read_declared e s h n l in all n k.0 k.1)

  pub flats_of_read : (es : List SortExpression) (ss : List FlatSort) → flats_in ks table es ≡ Some ss → HaveFlats ks table es
  flats_of_read [] ss h = record { sorts = []; meanings = []; read = refl; stand = no_sorts; flat = no_flats }
  flats_of_read (e ∷ es) ss h = by_first (flat_in ks table e) refl (λ ts r. flats_of_read es ts r) h
    where
      by_rest : (s : FlatSort) (o : Option (List FlatSort)) → flat_in ks table e ≡ Some s → flats_in ks table es ≡ o → ((ts : List FlatSort) → flats_in ks table es ≡ Some ts → HaveFlats ks table es) → option_map (λ ts. s ∷ ts) o ≡ Some ss → HaveFlats ks table (e ∷ es)
      by_rest s None q r f g = absurd (none-some ss g)
      by_rest s (Some ts) q r f g =
          let one : HasFlat ks table e = flat_of_read e s q in
          let rest : HaveFlats ks table es = f ts r in
          record {
            sorts = one.sort ∷ rest.sorts;
            meanings = one.meaning ∷ rest.meanings;
            read = λ i. option_and_then (λ s. option_map (λ ss. s ∷ ss) (rest.read i)) (one.read i);
            stand = and_sort e one.meaning es rest.meanings one.stands rest.stand;
            flat = and_flat one.sort rest.sorts one.meaning rest.meanings one.flat rest.flat;
          }

      by_first : (o : Option FlatSort) → flat_in ks table e ≡ o → ((ts : List FlatSort) → flats_in ks table es ≡ Some ts → HaveFlats ks table es) → option_and_then (λ s. option_map (λ ts. s ∷ ts) (flats_in ks table es)) o ≡ Some ss → HaveFlats ks table (e ∷ es)
      by_first None q f g = absurd (none-some ss g)
      by_first (Some s) q f g = by_rest s (flats_in ks table es) q refl f g

  pub numbers_of_same : (es fs : List SortExpression) → SameSorts (sorts_only ks) es fs → (ss : List FlatSort) × (flats_in ks table es ≡ Some ss) × (flats_in ks table fs ≡ Some ss)
  numbers_of_same es fs (rs, h, k) =
      let a : HaveFlats ks table es = flats_of_standing es rs h in
      let b : HaveFlats ks table fs = flats_of_standing fs rs k in
      let x : a.meanings ≡ rs = one_sorts (sorts_only ks) es a.meanings rs a.stand h in
      let y : b.meanings ≡ rs = one_sorts (sorts_only ks) fs b.meanings rs b.stand k in
      let same : b.sorts ≡ a.sorts = all_numbers_are_one ks b.sorts a.sorts rs (subst (AreFlat ks b.sorts) y b.flat) (subst (AreFlat ks a.sorts) x a.flat) in
      (a.sorts, a.read, b.read ∙ ap (λ (ss : List FlatSort). Some ss) same)

  pub same_of_numbers : (es fs : List SortExpression) (ss : List FlatSort) → flats_in ks table es ≡ Some ss → flats_in ks table fs ≡ Some ss → SameSorts (sorts_only ks) es fs
  same_of_numbers es fs ss h k =
      let a : HaveFlats ks table es = flats_of_read es ss h in
      let b : HaveFlats ks table fs = flats_of_read fs ss k in
      let x : a.sorts ≡ ss = same_Some a.sorts ss (sym a.read ∙ h) in
      let y : b.sorts ≡ ss = same_Some b.sorts ss (sym b.read ∙ k) in
      let same : b.meanings ≡ a.meanings = flats_are_one ks ss b.meanings a.meanings (subst (λ (ts : List FlatSort). AreFlat ks ts b.meanings) y b.flat) (subst (λ (ts : List FlatSort). AreFlat ks ts a.meanings) x a.flat) in
      (a.meanings, a.stand, subst (StandForEach (sorts_only ks) fs) same b.stand)
