-- The test of built-in functions.
use Rattle.std.proofs.Common.{◌≡◌, ◌<◌, ◌-◌, inl, inr, ℕ, zero, suc, Bool, true, false, cond, ◌&&◌, ◌||◌, List, [], ◌∷◌, length, map, get_or, refl, ap, sym, ◌∙◌, subst, arith}
use Rattle.std.specs.Prelude.{nat_eq, nat_lt}
use Rattle.std.specs.List.{list_any, list_all, filter}
use Rattle.std.specs.Str.{IsUtf8}
use Rattle.std.proofs.lemmas.Str.{IsUtf8-from_ascii}
use Rattle.std.proofs.lemmas.Str.Ascii.{IsAscii-from_all}
use Rattle.std.proofs.lemmas.Slice.Eq.{bytes_eq-Decides}
use Rattle.std.proofs.lemmas.Bool.Decides.{Decides-eqb, Decides-ltb}
use Rattle.data_theory.specs.declared.ids.SortId.{SortId}
use Rattle.data_theory.specs.declared.rows.Row.{Row}
use Rattle.data_theory.specs.declared.words.Word.{Word}
use Rattle.data_theory.specs.declared.words.Word.TheVariants as words
use Rattle.data_theory.specs.declared.words.NumberWord.{NumberWord}
use Rattle.data_theory.specs.declared.words.NumberWord.TheVariants as numbers
use Rattle.data_theory.specs.declared.words.ListWord.{ListWord}
use Rattle.data_theory.specs.declared.words.ListWord.TheVariants as lists
use Rattle.data_theory.specs.Words.{text_of, number_text, list_text}
use Rattle.data_theory.specs.Rows.{row_text, row_sorts, row_word}
use Rattle.data_theory.specs.Table.{language_table}
use Rattle.data_theory.specs.RowsOfWords.{has_name}
use Rattle.sort_table.specs.declared.flat_sorts.FlatSort.{FlatSort}
use Rattle.sort_table.specs.Expressions.{Name}
use Rattle.sort_table.specs.BareSorts.{SortExpression, truth_values, positives, naturals, integers, lists_of}
use Rattle.sort_table.specs.SortMeanings.{Kind}
use Rattle.sort_table.specs.Duplicates.{any_sort, lists_of_any, sort_numbered, IsBuiltIn}
use Rattle.sort_table.specs.FlatSorts.{lists_over, IsBase, bool_base, pos_base, nat_base, int_base, IsFlat, AreFlat, no_flats, and_flat, built_in_flat}
use Rattle.sort_table.specs.BuiltInTests.{flat_eq, shorter, fits_place, fit_places, read_off, chosen_sort, fits_row, is_built_in}
use Rattle.sort_table.proofs.FlatSortLemmas.{flat_is_one, numbers_are_one, is_list, base_is_no_list}
use Rattle.sort_table.proofs.MarkedItems.{In, in_of_contains, contains_of_in}

-- ---- tests
both_true : (a b : Bool) → a && b ≡ true → (a ≡ true) × (b ≡ true)
both_true true b h = (refl, h)
both_true false b h = let never : false ≡ true = h in cc

true_both : (a b : Bool) → a ≡ true → b ≡ true → a && b ≡ true
true_both a b h k = λ i. h i && k i

nat_eq_true : (a b : ℕ) → nat_eq a b ≡ true → a ≡ b
nat_eq_true a b h = (Decides-eqb a b).0 h

nat_eq_same : (a : ℕ) → nat_eq a a ≡ true
nat_eq_same a = (Decides-eqb a a).1 refl

flat_eq_true : (s t : FlatSort) → flat_eq s t ≡ true → s ≡ t
flat_eq_true s t h =
    let a = both_true (nat_eq s.depth t.depth) (nat_eq s.kind t.kind && nat_eq s.place t.place) h in
    let b = both_true (nat_eq s.kind t.kind) (nat_eq s.place t.place) a.1 in
    λ i. record { depth = nat_eq_true s.depth t.depth a.0 i; kind = nat_eq_true s.kind t.kind b.0 i; place = nat_eq_true s.place t.place b.1 i }

flat_eq_self : (s : FlatSort) → flat_eq s s ≡ true
flat_eq_self s = true_both (nat_eq s.depth s.depth) (nat_eq s.kind s.kind && nat_eq s.place s.place) (nat_eq_same s.depth) (true_both (nat_eq s.kind s.kind) (nat_eq s.place s.place) (nat_eq_same s.kind) (nat_eq_same s.place))

flat_eq_same : (s t : FlatSort) → s ≡ t → flat_eq s t ≡ true
flat_eq_same s t e = subst (λ (u : FlatSort). flat_eq s u ≡ true) e (flat_eq_self s)

-- ---- places
-- of which kind a place is
pub data PlaceKind : ℕ → Type 0 where
  bool_place : PlaceKind 0
  pos_place : PlaceKind 1
  nat_place : PlaceKind 2
  int_place : PlaceKind 3
  list_place : PlaceKind 5
  sort_place : (k : ℕ) → nat_lt k 4 ≡ false → nat_eq k 5 ≡ false → ((e : SortExpression) → sort_numbered e (record { 0 = k }) ≡ e) → PlaceKind k

place_kind : (k : ℕ) → PlaceKind k
place_kind zero = bool_place
place_kind (suc zero) = pos_place
place_kind (suc (suc zero)) = nat_place
place_kind (suc (suc (suc zero))) = int_place
place_kind (suc (suc (suc (suc zero)))) = sort_place 4 refl refl (λ e. refl)
place_kind (suc (suc (suc (suc (suc zero))))) = list_place
place_kind (suc (suc (suc (suc (suc (suc k)))))) = sort_place (suc (suc (suc (suc (suc (suc k)))))) (not_low (suc (suc (suc (suc (suc (suc k)))))) (omega arith)) (not_five (suc (suc (suc (suc (suc (suc k)))))) (omega arith)) (λ e. refl)
  where
    not_low : (n : ℕ) → 5 < n → nat_lt n 4 ≡ false
    not_low n l = by_test (nat_lt n 4) refl
      where
        by_test : (b : Bool) → nat_lt n 4 ≡ b → b ≡ false
        by_test true h = let less : n < 4 = (Decides-ltb n 4).0 h in absurd (omega (arith, less, l))
        by_test false h = refl

    not_five : (n : ℕ) → 5 < n → nat_eq n 5 ≡ false
    not_five n l = by_test (nat_eq n 5) refl
      where
        by_test : (b : Bool) → nat_eq n 5 ≡ b → b ≡ false
        by_test true h = let same : n ≡ 5 = nat_eq_true n 5 h in absurd (omega (arith, same, l))
        by_test false h = refl

module _ (ks : List (Name × Kind)) where
  built_in_is : (k : ℕ) (b : SortExpression) → IsBase ks k zero b → IsFlat ks (built_in_flat k) b
  built_in_is k b is = record { base = b; is_base = is; lists = refl }

  -- a list's element
  element_is : (s : FlatSort) (r : SortExpression) → IsFlat ks s r → nat_eq s.depth 0 ≡ false → (e : SortExpression) × IsFlat ks (shorter s) e × (r ≡ lists_of e)
  element_is s r f d = by_depth s.depth refl d
    where
      by_depth : (n : ℕ) → s.depth ≡ n → nat_eq n 0 ≡ false → (e : SortExpression) × IsFlat ks (shorter s) e × (r ≡ lists_of e)
      by_depth zero q h = let never : true ≡ false = sym (nat_eq_same 0) ∙ h in cc
      by_depth (suc n) q h =
          let less : s.depth - 1 ≡ n = omega (arith, q) in
          (lists_over n f.base, record { base = f.base; is_base = f.is_base; lists = ap (λ (i : ℕ). lists_over i f.base) (sym less) }, f.lists ∙ ap (λ (i : ℕ). lists_over i f.base) q)

  list_depth : (s : FlatSort) (e : SortExpression) → IsFlat ks s (lists_of e) → nat_eq s.depth 0 ≡ false
  list_depth s e f = by_depth s.depth refl
    where
      by_test : (n : ℕ) (b : Bool) → nat_eq (suc n) 0 ≡ b → b ≡ false
      by_test n true h = let never : suc n ≡ 0 = nat_eq_true (suc n) 0 h in absurd (omega (arith, never))
      by_test n false h = refl

      by_depth : (n : ℕ) → s.depth ≡ n → nat_eq n 0 ≡ false
      by_depth zero q =
          let here : lists_of e ≡ f.base = f.lists ∙ ap (λ (i : ℕ). lists_over i f.base) q in
          let never : true ≡ false = ap is_list here ∙ base_is_no_list ks s.kind s.place f.base f.is_base in
          cc
      by_depth (suc n) q = by_test n (nat_eq (suc n) 0) refl

  -- ---- what fits means the sorts of the row
  place_means : (e s : FlatSort) (x r : SortExpression) (k : ℕ) → IsFlat ks e x → IsFlat ks s r → fits_place e k s ≡ true → sort_numbered x (record { 0 = k }) ≡ r
  place_means e s x r k f g h = by_kind k (place_kind k) h
    where
      closed : (n : ℕ) (b : SortExpression) → IsBase ks n zero b → flat_eq (built_in_flat n) s ≡ true → b ≡ r
      closed n b is q = flat_is_one ks s b r (subst (λ (t : FlatSort). IsFlat ks t b) (flat_eq_true (built_in_flat n) s q) (built_in_is n b is)) g

      list_case : (b : Bool) → nat_eq s.depth 0 ≡ b → cond b false (flat_eq e (shorter s)) ≡ true → lists_of x ≡ r
      list_case true d q = let never : false ≡ true = q in cc
      list_case false d q =
          let t = element_is s r g d in
          ap lists_of (flat_is_one ks e x t.0 f (subst (λ (u : FlatSort). IsFlat ks u t.0) (sym (flat_eq_true e (shorter s) q)) t.1)) ∙ sym t.2

      by_kind : (k : ℕ) → PlaceKind k → fits_place e k s ≡ true → sort_numbered x (record { 0 = k }) ≡ r
      by_kind _ bool_place q = closed 0 truth_values bool_base q
      by_kind _ pos_place q = closed 1 positives pos_base q
      by_kind _ nat_place q = closed 2 naturals nat_base q
      by_kind _ int_place q = closed 3 integers int_base q
      by_kind _ list_place q = list_case (nat_eq s.depth 0) refl q
      by_kind _ (sort_place n low five is) q =
          let here : flat_eq e s ≡ true = sym (ap (λ (b : Bool). cond b (flat_eq (built_in_flat n) s) (cond (nat_eq n 5) (cond (nat_eq s.depth 0) false (flat_eq e (shorter s))) (flat_eq e s))) low
          ∙ ap (λ (b : Bool). cond b (cond (nat_eq s.depth 0) false (flat_eq e (shorter s))) (flat_eq e s)) five) ∙ q in
          is x ∙ flat_is_one ks s x r (subst (λ (u : FlatSort). IsFlat ks u x) (flat_eq_true e s here) f) g

  means_place : (e s : FlatSort) (x r : SortExpression) (k : ℕ) → IsFlat ks e x → IsFlat ks s r → sort_numbered x (record { 0 = k }) ≡ r → fits_place e k s ≡ true
  means_place e s x r k f g h = by_kind k (place_kind k) h
    where
      closed : (n : ℕ) (b : SortExpression) → IsBase ks n zero b → b ≡ r → flat_eq (built_in_flat n) s ≡ true
      closed n b is q = flat_eq_same (built_in_flat n) s (numbers_are_one ks (built_in_flat n) s r (subst (IsFlat ks (built_in_flat n)) q (built_in_is n b is)) g)

      list_case : (b : Bool) → nat_eq s.depth 0 ≡ b → lists_of x ≡ r → cond b false (flat_eq e (shorter s)) ≡ true
      list_case true d q = let no : nat_eq s.depth 0 ≡ false = list_depth s x (subst (IsFlat ks s) (sym q) g) in cc
      list_case false d q =
          let t = element_is s r g d in
          let same : t.0 ≡ x = one_element t.0 x (sym t.2 ∙ sym q) in
          flat_eq_same e (shorter s) (numbers_are_one ks e (shorter s) x f (subst (IsFlat ks (shorter s)) same t.1))
        where
          one_element : (a b : SortExpression) → lists_of a ≡ lists_of b → a ≡ b
          one_element a b w = cc

      by_kind : (k : ℕ) → PlaceKind k → sort_numbered x (record { 0 = k }) ≡ r → fits_place e k s ≡ true
      by_kind _ bool_place q = closed 0 truth_values bool_base q
      by_kind _ pos_place q = closed 1 positives pos_base q
      by_kind _ nat_place q = closed 2 naturals nat_base q
      by_kind _ int_place q = closed 3 integers int_base q
      by_kind _ list_place q = list_case (nat_eq s.depth 0) refl q
      by_kind _ (sort_place n low five is) q =
          ap (λ (b : Bool). cond b (flat_eq (built_in_flat n) s) (cond (nat_eq n 5) (cond (nat_eq s.depth 0) false (flat_eq e (shorter s))) (flat_eq e s))) low
          ∙ (ap (λ (b : Bool). cond b (cond (nat_eq s.depth 0) false (flat_eq e (shorter s))) (flat_eq e s)) five
          ∙ flat_eq_same e s (numbers_are_one ks e s x f (subst (IsFlat ks s) (sym (sym (is x) ∙ q)) g)))

  row_means : (e : FlatSort) (x : SortExpression) (ps : List SortId) (ss : List FlatSort) (rs : List SortExpression) → IsFlat ks e x → AreFlat ks ss rs → fit_places e ps ss ≡ true → map (sort_numbered x) ps ≡ rs
  row_means e x [] _ _ f no_flats h = refl
  row_means e x [] _ _ f (and_flat s ss r rs g gs) h = let never : false ≡ true = h in cc
  row_means e x (p ∷ ps) _ _ f no_flats h = let never : false ≡ true = h in cc
  row_means e x (p ∷ ps) _ _ f (and_flat s ss r rs g gs) h =
      let t = both_true (fits_place e p.0 s) (fit_places e ps ss) h in
      λ i. place_means e s x r p.0 f g t.0 i ∷ row_means e x ps ss rs f gs t.1 i

  means_row : (e : FlatSort) (x : SortExpression) (ps : List SortId) (ss : List FlatSort) (rs : List SortExpression) → IsFlat ks e x → AreFlat ks ss rs → map (sort_numbered x) ps ≡ rs → fit_places e ps ss ≡ true
  means_row e x [] _ _ f no_flats h = refl
  means_row e x [] _ _ f (and_flat s ss r rs g gs) h = let never : [] ≡ r ∷ rs = h in cc
  means_row e x (p ∷ ps) _ _ f no_flats h = let never : sort_numbered x p ∷ map (sort_numbered x) ps ≡ [] = h in cc
  means_row e x (p ∷ ps) _ _ f (and_flat s ss r rs g gs) h =
      let both : sort_numbered x p ∷ map (sort_numbered x) ps ≡ r ∷ rs = h in
      let one : sort_numbered x p ≡ r = cc in
      let rest : map (sort_numbered x) ps ≡ rs = cc in
      true_both (fits_place e p.0 s) (fit_places e ps ss) (means_place e s x r p.0 f g one) (means_row e x ps ss rs f gs rest)

  -- ---- the chosen sort means something
  any_flat : (x : SortExpression) × IsFlat ks (built_in_flat 0) x
  any_flat = (truth_values, built_in_is 0 truth_values bool_base)

  chosen_of_fit : (e : FlatSort) (ps : List SortId) (ss : List FlatSort) (rs : List SortExpression) → AreFlat ks ss rs → fit_places e ps ss ≡ true → (x : SortExpression) × IsFlat ks (chosen_sort ps ss) x
  chosen_of_fit e [] _ _ no_flats h = any_flat
  chosen_of_fit e [] _ _ (and_flat s ss r rs g gs) h = any_flat
  chosen_of_fit e (p ∷ ps) _ _ no_flats h = any_flat
  chosen_of_fit e (p ∷ ps) _ _ (and_flat s ss r rs g gs) h =
      let t = both_true (fits_place e p.0 s) (fit_places e ps ss) h in
      by_kind p.0 (place_kind p.0) t.0 (chosen_of_fit e ps ss rs gs t.1)
    where
      of_list : (b : Bool) → nat_eq s.depth 0 ≡ b → cond b false (flat_eq e (shorter s)) ≡ true → (x : SortExpression) × IsFlat ks (shorter s) x
      of_list true d q = let never : false ≡ true = q in cc
      of_list false d q = let t = element_is s r g d in (t.0, t.1)

      by_kind : (k : ℕ) → PlaceKind k → fits_place e k s ≡ true → (x : SortExpression) × IsFlat ks (chosen_sort ps ss) x → (x : SortExpression) × IsFlat ks (read_off k s (chosen_sort ps ss)) x
      by_kind _ bool_place q c = c
      by_kind _ pos_place q c = c
      by_kind _ nat_place q c = c
      by_kind _ int_place q c = c
      by_kind _ list_place q c = of_list (nat_eq s.depth 0) refl q
      by_kind _ (sort_place n low five is) q c =
          (r, subst (λ (u : FlatSort). IsFlat ks u r) (sym (ap (λ (b : Bool). cond b (chosen_sort ps ss) (cond (nat_eq n 5) (shorter s) s)) low ∙ ap (λ (b : Bool). cond b (shorter s) s) five)) g)

  -- S may be taken from the chosen sort
  abbrev Chosen : List SortId → List FlatSort → List SortExpression → Type 0
  Chosen ps ss rs = (x : SortExpression) × IsFlat ks (chosen_sort ps ss) x × (map (sort_numbered x) ps ≡ rs)

  chosen_of_means : (y : SortExpression) (ps : List SortId) (ss : List FlatSort) (rs : List SortExpression) → AreFlat ks ss rs → map (sort_numbered y) ps ≡ rs → Chosen ps ss rs
  chosen_of_means y [] _ _ no_flats h = (truth_values, built_in_is 0 truth_values bool_base, refl)
  chosen_of_means y [] _ _ (and_flat s ss r rs g gs) h = let never : [] ≡ r ∷ rs = h in cc
  chosen_of_means y (p ∷ ps) _ _ no_flats h = let never : sort_numbered y p ∷ map (sort_numbered y) ps ≡ [] = h in cc
  chosen_of_means y (p ∷ ps) _ _ (and_flat s ss r rs g gs) h =
      let both : sort_numbered y p ∷ map (sort_numbered y) ps ≡ r ∷ rs = h in
      let one : sort_numbered y p ≡ r = cc in
      let rest : map (sort_numbered y) ps ≡ rs = cc in
      by_kind p.0 (place_kind p.0) one rest (chosen_of_means y ps ss rs gs rest)
    where
      whole : (k : ℕ) → (x : SortExpression) → IsFlat ks (read_off k s (chosen_sort ps ss)) x → sort_numbered x (record { 0 = k }) ≡ r → map (sort_numbered x) ps ≡ rs → (x : SortExpression) × IsFlat ks (read_off k s (chosen_sort ps ss)) x × (sort_numbered x (record { 0 = k }) ∷ map (sort_numbered x) ps ≡ r ∷ rs)
      whole k x f a b = (x, f, λ i. a i ∷ b i)

      by_kind : (k : ℕ) → PlaceKind k → sort_numbered y (record { 0 = k }) ≡ r → map (sort_numbered y) ps ≡ rs → Chosen ps ss rs
          → (x : SortExpression) × IsFlat ks (read_off k s (chosen_sort ps ss)) x × (sort_numbered x (record { 0 = k }) ∷ map (sort_numbered x) ps ≡ r ∷ rs)
      by_kind _ bool_place q w c = whole 0 c.0 c.1 q c.2
      by_kind _ pos_place q w c = whole 1 c.0 c.1 q c.2
      by_kind _ nat_place q w c = whole 2 c.0 c.1 q c.2
      by_kind _ int_place q w c = whole 3 c.0 c.1 q c.2
      by_kind _ list_place q w c =
          let t = element_is s r g (list_depth s y (subst (IsFlat ks s) (sym q) g)) in
          let same : t.0 ≡ y = one_element t.0 y (sym t.2 ∙ sym q) in
          whole 5 y (subst (IsFlat ks (shorter s)) same t.1) q w
        where
          one_element : (a b : SortExpression) → lists_of a ≡ lists_of b → a ≡ b
          one_element a b v = cc
      by_kind _ (sort_place n low five is) q w c =
          let r_is : r ≡ y = sym (sym (is y) ∙ q) in
          whole n y (subst (λ (u : FlatSort). IsFlat ks u y) (sym (ap (λ (b : Bool). cond b (chosen_sort ps ss) (cond (nat_eq n 5) (shorter s) s)) low ∙ ap (λ (b : Bool). cond b (shorter s) s) five)) (subst (IsFlat ks s) r_is g)) q w

-- ---- rows of a name
any_named : (f : Name) (q : Row → Bool) (rs : List Row) → list_any q (filter (has_name f) rs) ≡ true → (r : Row) × In rs r × (row_text r ≡ f) × (q r ≡ true)
any_named f q [] h = let never : false ≡ true = h in cc
any_named f q (r ∷ rs) h = by_name (has_name f r) refl h (any_named f q rs)
  where
    later : (w : Row) × In rs w × (row_text w ≡ f) × (q w ≡ true) → (w : Row) × In (r ∷ rs) w × (row_text w ≡ f) × (q w ≡ true)
    later w = (w.0, inr w.1, w.2, w.3)

    by_test : (b : Bool) → q r ≡ b → row_text r ≡ f → b || list_any q (filter (has_name f) rs) ≡ true → (list_any q (filter (has_name f) rs) ≡ true → (w : Row) × In rs w × (row_text w ≡ f) × (q w ≡ true)) → (w : Row) × In (r ∷ rs) w × (row_text w ≡ f) × (q w ≡ true)
    by_test true e n k rec = (r, inl refl, n, e)
    by_test false e n k rec = later (rec k)

    by_name : (b : Bool) → has_name f r ≡ b → list_any q (cond b (r ∷ filter (has_name f) rs) (filter (has_name f) rs)) ≡ true → (list_any q (filter (has_name f) rs) ≡ true → (w : Row) × In rs w × (row_text w ≡ f) × (q w ≡ true)) → (w : Row) × In (r ∷ rs) w × (row_text w ≡ f) × (q w ≡ true)
    by_name true e k rec = by_test (q r) refl ((bytes_eq-Decides (row_text r) f).0 e) k rec
    by_name false e k rec = later (rec k)

named_any : (f : Name) (q : Row → Bool) (rs : List Row) (r : Row) → In rs r → row_text r ≡ f → q r ≡ true → list_any q (filter (has_name f) rs) ≡ true
named_any f q [] r h n t = absurd h
named_any f q (w ∷ rs) r (inl e) n t =
    let yes : has_name f w ≡ true = (bytes_eq-Decides (row_text w) f).1 (ap row_text e ∙ n) in
    ap (λ (b : Bool). list_any q (cond b (w ∷ filter (has_name f) rs) (filter (has_name f) rs))) yes ∙ ap (λ (b : Bool). b || list_any q (filter (has_name f) rs)) (ap q e ∙ t)
named_any f q (w ∷ rs) r (inr h) n t = by_name (has_name f w) (named_any f q rs r h n t)
  where
    by_name : (b : Bool) → list_any q (filter (has_name f) rs) ≡ true → list_any q (cond b (w ∷ filter (has_name f) rs) (filter (has_name f) rs)) ≡ true
    by_name true k = or_right (q w) (list_any q (filter (has_name f) rs)) k
      where
        or_right : (a b : Bool) → b ≡ true → a || b ≡ true
        or_right true b h = refl
        or_right false b h = h
    by_name false k = k

pub tested_is_built_in : (ks : List (Name × Kind)) (f : Name) (ss : List FlatSort) (rs : List SortExpression) → AreFlat ks ss rs → is_built_in f ss ≡ true → IsBuiltIn f rs
tested_is_built_in ks f ss rs flat t =
    let w = any_named f (fits_row ss) (language_table any_sort lists_of_any) t in
    let c = chosen_of_fit ks (chosen_sort (row_sorts w.0) ss) (row_sorts w.0) ss rs flat w.3 in
    (w.0, c.0, contains_of_in (language_table any_sort lists_of_any) w.0 w.1, w.2, row_means ks (chosen_sort (row_sorts w.0) ss) c.0 (row_sorts w.0) ss rs c.1 flat w.3)

pub built_in_is_tested : (ks : List (Name × Kind)) (f : Name) (ss : List FlatSort) (rs : List SortExpression) → AreFlat ks ss rs → IsBuiltIn f rs → is_built_in f ss ≡ true
built_in_is_tested ks f ss rs flat (r, e, there, name, means) =
    let c : Chosen ks (row_sorts r) ss rs = chosen_of_means ks e (row_sorts r) ss rs flat means in
    named_any f (fits_row ss) (language_table any_sort lists_of_any) r (in_of_contains (language_table any_sort lists_of_any) r there) name (means_row ks (chosen_sort (row_sorts r) ss) c.0 (row_sorts r) ss rs c.1 flat c.2)

-- ---- names that aren't UTF-8
abbrev is_low : ℕ → Bool
is_low b = nat_lt b 128

all_low : (bs : List ℕ) → list_all is_low bs ≡ true → (k d : ℕ) → k < length bs → get_or bs k d < 128
all_low [] t k d l = absurd (omega (arith, l))
all_low (b ∷ bs) t zero d l = (Decides-ltb b 128).0 (both_true (is_low b) (list_all is_low bs) t).0
all_low (b ∷ bs) t (suc k) d l = let m : k < length bs = omega (arith, l) in all_low bs (both_true (is_low b) (list_all is_low bs) t).1 k d m

low_is_text : (bs : List ℕ) → list_all is_low bs ≡ true → IsUtf8 bs
low_is_text bs t = IsUtf8-from_ascii bs (IsAscii-from_all bs (all_low bs t))

number_is_text : (w : NumberWord) → list_all is_low (number_text w) ≡ true
number_is_text numbers.Plus = refl
number_is_text numbers.Minus = refl
number_is_text numbers.Times = refl
number_is_text numbers.Div = refl
number_is_text numbers.Mod = refl
number_is_text numbers.Exp = refl
number_is_text numbers.Min = refl
number_is_text numbers.Max = refl
number_is_text numbers.Abs = refl
number_is_text numbers.Succ = refl
number_is_text numbers.Pred = refl
number_is_text numbers.PosToNat = refl
number_is_text numbers.NatToInt = refl
number_is_text numbers.PosToInt = refl
number_is_text numbers.NatToPos = refl
number_is_text numbers.IntToNat = refl
number_is_text numbers.IntToPos = refl

list_is_text : (w : ListWord) → list_all is_low (list_text w) ≡ true
list_is_text lists.Empty = refl
list_is_text lists.Cons = refl
list_is_text lists.Snoc = refl
list_is_text lists.Concat = refl
list_is_text lists.Size = refl
list_is_text lists.At = refl
list_is_text lists.Head = refl
list_is_text lists.Rhead = refl
list_is_text lists.Tail = refl
list_is_text lists.Rtail = refl
list_is_text lists.In = refl

word_is_text : (w : Word) → list_all is_low (text_of w) ≡ true
word_is_text words.True = refl
word_is_text words.False = refl
word_is_text words.Not = refl
word_is_text words.And = refl
word_is_text words.Or = refl
word_is_text words.Implies = refl
word_is_text words.Equal = refl
word_is_text words.Different = refl
word_is_text words.If = refl
word_is_text words.Less = refl
word_is_text words.AtMost = refl
word_is_text words.Greater = refl
word_is_text words.AtLeast = refl
word_is_text (words.Number w) = number_is_text w
word_is_text (words.List w) = list_is_text w

pub no_text_no_rows : (f : Name) (ss : List FlatSort) → ¬ (IsUtf8 f) → is_built_in f ss ≡ false
no_text_no_rows f ss not = by_test (is_built_in f ss) refl
  where
    by_test : (b : Bool) → is_built_in f ss ≡ b → b ≡ false
    by_test false e = refl
    by_test true e =
        let w = any_named f (fits_row ss) (language_table any_sort lists_of_any) e in
        absurd (not (subst IsUtf8 w.2 (low_is_text (row_text w.0) (word_is_text (row_word w.0)))))

-- ---- three places want three sorts
and_none : (t u : Bool) → false ≡ u → false ≡ t && u
and_none true u h = h
and_none false u h = refl

pub too_few : (e : FlatSort) (a b c : SortId) (ss : List FlatSort) → length ss < 3 → false ≡ fit_places e (a ∷ b ∷ c ∷ []) ss
too_few e a b c [] l = refl
too_few e a b c (x ∷ []) l = and_none (fits_place e a.0 x) false refl
too_few e a b c (x ∷ y ∷ []) l = and_none (fits_place e a.0 x) (fits_place e b.0 y && false) (and_none (fits_place e b.0 y) false refl)
too_few e a b c (x ∷ y ∷ z ∷ ss) l = absurd (omega (arith, l))

pub too_many : (e : FlatSort) (a b c : SortId) (ss : List FlatSort) → 3 < length ss → false ≡ fit_places e (a ∷ b ∷ c ∷ []) ss
too_many e a b c [] l = absurd (omega (arith, l))
too_many e a b c (x ∷ []) l = absurd (omega (arith, l))
too_many e a b c (x ∷ y ∷ []) l = absurd (omega (arith, l))
too_many e a b c (x ∷ y ∷ z ∷ []) l = absurd (omega (arith, l))
too_many e a b c (x ∷ y ∷ z ∷ w ∷ ss) l =
    and_none (fits_place e a.0 x) (fits_place e b.0 y && (fits_place e c.0 z && false)) (and_none (fits_place e b.0 y) (fits_place e c.0 z && false) (and_none (fits_place e c.0 z) false refl))
