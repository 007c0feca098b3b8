-- What the numbers of functions mean.
use Rattle.std.proofs.Common.{◌≡◌, ℕ, zero, suc, ◌<◌, ◌≤◌, ◌+◌, ◌⊎◌, inl, inr, List, [], ◌∷◌, ◌++◌, map, length, get_or, take, Bool, true, false, cond, Option, Some, None, refl, sym, ap, ◌∙◌, subst, arith, length-append, append_assoc}
use Rattle.std.specs.Prelude.{slice_get, option_map}
use Rattle.std.specs.List.{All}
use Rattle.std.proofs.Math.Seq.{take-length}
use Rattle.std.proofs.lemmas.Bool.{cases_lt, cases_order}
use Rattle.std.proofs.lemmas.List.{get_or_past, take-append-le, length-map}
use Rattle.std.proofs.lemmas.List.Elements.{All-head, All-tail, All-contains}
use Rattle.std.proofs.lemmas.Option.{slice_get_within, slice_get-map}
use Rattle.data_theory.specs.declared.ids.SortId.{SortId}
use Rattle.data_theory.specs.declared.ids.FunId.{FunId}
use Rattle.data_theory.specs.declared.words.Word.{Word}
use Rattle.data_theory.specs.declared.rows.Row.{Row}
use Rattle.data_theory.specs.Terms.{Sort, boolean, positive, natural, integer, list, Symbol, truth, minus, upcast, function}
use Rattle.data_theory.specs.Declarations as theory
use Rattle.data_theory.specs.Declarations.{Data, IsSort, IsSymbol, argument_sorts, result_sort, mapping}
use Rattle.data_theory.specs.Words.{text_of}
use Rattle.data_theory.specs.Sorts.{SortInfo, IsListOver}
use Rattle.data_theory.specs.Keys.{key}
use Rattle.data_theory.specs.Functions.{Function, key_of, arguments_of}
use Rattle.data_theory.specs.Rows.{row_word, row_text, row_sorts, row_result, row_is_list_constant, row_function}
use Rattle.data_theory.specs.Table.{bool_sort, pos_sort, nat_sort, int_sort, first_rows}
use Rattle.data_theory.specs.Signature.{Sig}
use Rattle.data_theory.specs.IdSorts.{meaning_of, constructions, meanings_behind, sort_meant}
use Rattle.data_theory.specs.IdSymbols.{if_declared, declared_from, symbol_of, symbol_at, symbol_meant, word_symbol}
use Rattle.data_theory.specs.IdTables.{IsTable, IsRow, IsEntry, declared, built_in, HasSortsIn}
use Rattle.data_theory.specs.IdData.{function_at_meant, function_meant, data_meant}
use Rattle.data_theory.specs.IdTerms.{sort_under, symbol_under}
use Rattle.data_theory.specs.IdLaws.{ListedFunctionsMeanTheirPlaces, DeclaredFunctionsStandInTheData, DifferentFunctionsMeanDifferentSymbols, GrowthKeepsMeantSymbols}
use Rattle.data_theory.proofs.PlaceLemmas.{read_front, contains_read}
use Rattle.data_theory.proofs.IdSortLemmas.{as_many, read_within, same_meant_sort, sorts_mean_their_kinds, sort_in_grown, meant_is_sort}
use Rattle.data_theory.proofs.IdRowLemmas.{word_of, sorts_of, is_declared, Tells, row_tells}

-- ---- the declared ones among functions
as_many_from : (fs : List Function) (j k : ℕ) → length (declared_from j fs) ≡ length (declared_from k fs)
as_many_from [] j k = refl
as_many_from (f ∷ fs) j k = by_word (as_many_from fs (suc j) (suc k)) f.word
  where
    by_word : length (declared_from (suc j) fs) ≡ length (declared_from (suc k) fs) → (w : Option Word) → length (if_declared j w ++ declared_from (suc j) fs) ≡ length (if_declared k w ++ declared_from (suc k) fs)
    by_word rest None = ap suc rest
    by_word rest (Some w) = rest

-- a declared function counts for those behind it
counted : (fs : List Function) (k i j : ℕ) (f : Function) → slice_get fs i ≡ Some f → f.word ≡ None → i < j
    → length (declared_from k (take i fs)) < length (declared_from k (take j fs))
counted [] k i j f e w l = cc
counted (x ∷ fs) k zero zero f e w l = absurd (omega (arith, l))
counted (x ∷ fs) k zero (suc j) f e w l =
    let p : x.word ≡ None = (let q : x ≡ f = cc in ap (λ (h : Function). h.word) q ∙ w) in
    rw p (omega arith)
counted (x ∷ fs) k (suc i) zero f e w l = absurd (omega (arith, l))
counted (x ∷ fs) k (suc i) (suc j) f e w l = by_word (counted fs (suc k) i j f e w (omega (arith, l))) x.word
  where
    by_word : length (declared_from (suc k) (take i fs)) < length (declared_from (suc k) (take j fs)) → (o : Option Word) → length (if_declared k o ++ declared_from (suc k) (take i fs)) < length (if_declared k o ++ declared_from (suc k) (take j fs))
    by_word rest None = omega (arith, rest)
    by_word rest (Some v) = rest

-- the entry of a declared function, at its number
declared_read : {A : Type 0} (F : FunId → A) (d : A) (fs : List Function) (k i : ℕ) (f : Function) → slice_get fs i ≡ Some f → f.word ≡ None
    → get_or (map F (declared_from k fs)) (length (declared_from k (take i fs))) d ≡ F (record { 0 = k + i })
declared_read F d [] k i f e w = cc
declared_read F d (x ∷ fs) k zero f e w =
    let p : x.word ≡ None = (let q : x ≡ f = cc in ap (λ (h : Function). h.word) q ∙ w) in
    let z : k ≡ k + 0 = omega arith in
    rw p (ap (λ (n : ℕ). F (record { 0 = n })) z)
declared_read F d (x ∷ fs) k (suc i) f e w = by_word (declared_read F d fs (suc k) i f e w) x.word ∙ ap (λ (n : ℕ). F (record { 0 = n })) (let z : suc k + i ≡ k + suc i = omega arith in z)
  where
    by_word : get_or (map F (declared_from (suc k) fs)) (length (declared_from (suc k) (take i fs))) d ≡ F (record { 0 = suc k + i }) → (o : Option Word) → get_or (map F (if_declared k o ++ declared_from (suc k) fs)) (length (if_declared k o ++ declared_from (suc k) (take i fs))) d ≡ F (record { 0 = suc k + i })
    by_word rest None = rest
    by_word rest (Some v) = rest

-- one list behind another
pub declared_both : (xs ys : List Function) (k : ℕ) → declared_from k (xs ++ ys) ≡ declared_from k xs ++ declared_from (k + length xs) ys
declared_both [] ys k = ap (λ n. declared_from n ys) (let z : k ≡ k + 0 = omega arith in z)
declared_both (f ∷ xs) ys k =
    ap (λ l. if_declared k f.word ++ l) (declared_both xs ys (suc k) ∙ ap (λ n. declared_from (suc k) xs ++ declared_from n ys) (let z : suc k + length xs ≡ k + suc (length xs) = omega arith in z))
    ∙ sym (append_assoc (if_declared k f.word) (declared_from (suc k) xs) (declared_from (k + suc (length xs)) ys))

-- the function that stands at a place among the declared ones
abbrev pub StandsAt : List Function → ℕ → ℕ → FunId → Type 0
StandsAt fs n k i = (j : ℕ) × (f : Function) × (i ≡ record { 0 = n + j }) × (slice_get fs j ≡ Some f) × (f.word ≡ None) × (length (declared_from n (take j fs)) ≡ k)

stands_behind : (x : Function) (fs : List Function) (n k : ℕ) (i : FunId) → StandsAt fs (suc n) k i → StandsAt (x ∷ fs) n (length (if_declared n x.word) + k) i
stands_behind x fs n k i h = (
  suc h.0,
  h.1,
  h.2 ∙ ap (λ (m : ℕ). record { 0 = m }) (let z : suc n + h.0 ≡ n + suc h.0 = omega arith in z),
  h.3,
  h.4,
  length-append (if_declared n x.word) (declared_from (suc n) (take h.0 fs)) ∙ ap (λ m. length (if_declared n x.word) + m) h.5,
)

listed_read : (fs : List Function) (n k : ℕ) (i : FunId) → slice_get (declared_from n fs) k ≡ Some i → StandsAt fs n k i
listed_read [] n k i e = cc
listed_read (x ∷ fs) n k i e = by_word (λ m h. stands_behind x fs n m i (listed_read fs (suc n) m i h)) x.word refl k e
  where
    by_word : ((m : ℕ) → slice_get (declared_from (suc n) fs) m ≡ Some i → StandsAt (x ∷ fs) n (length (if_declared n x.word) + m) i)
        → (w : Option Word) → x.word ≡ w → (m : ℕ) → slice_get (if_declared n w ++ declared_from (suc n) fs) m ≡ Some i → StandsAt (x ∷ fs) n m i
    by_word rest None e zero h =
        let here : record { 0 = n } ≡ i = cc in
        (0, x, sym here ∙ ap (λ (m : ℕ). record { 0 = m }) (let z : n ≡ n + 0 = omega arith in z), refl, e, refl)
    by_word rest None e (suc m) h = subst (λ c. StandsAt (x ∷ fs) n c i) (ap (λ w. length (if_declared n w) + m) e ∙ (let z : 1 + m ≡ suc m = omega arith in z)) (rest m h)
    by_word rest (Some w) e m h = subst (λ c. StandsAt (x ∷ fs) n c i) (ap (λ v. length (if_declared n v) + m) e ∙ (let z : 0 + m ≡ m = omega arith in z)) (rest m h)

-- ---- lists of sorts
same_sorts : (ss : List SortInfo) (m : SortId → Sort) → ((i j : SortId) → i.0 < length ss → j.0 < length ss → m i ≡ m j → i ≡ j)
    → (xs ys : List SortId) → All (λ (s : SortId). s.0 < length ss) xs → All (λ (s : SortId). s.0 < length ss) ys → map m xs ≡ map m ys → xs ≡ ys
same_sorts ss m same [] [] a b e = refl
same_sorts ss m same [] (y ∷ ys) a b e = cc
same_sorts ss m same (x ∷ xs) [] a b e = cc
same_sorts ss m same (x ∷ xs) (y ∷ ys) a b e =
    let P : SortId → Type 0 = λ s. s.0 < length ss in
    let h : m x ≡ m y = cc in
    let t : map m xs ≡ map m ys = cc in
    let p = same x y (All-head P x xs a) (All-head P y ys b) h in
    let q = same_sorts ss m same xs ys (All-tail P x xs a) (All-tail P y ys b) t in
    (λ i. p i ∷ q i)

-- ---- entries
pub holds_at : {A : Type 0} (P : A → Type 0) (xs : List A) (i : ℕ) (x : A) → All P xs → slice_get xs i ≡ Some x → P x
holds_at P xs i x all at = All-contains P xs x all (contains_read xs i x at)

-- a function with a word is that of a row
row_of : (texts : List (List ℕ)) (ss : List SortInfo) (f : Function) (w : Word) → IsEntry texts ss f → f.word ≡ Some w
    → (r : Row) × IsRow ss r × (f ≡ row_function f.name r) × (slice_get texts f.name.0 ≡ Some (row_text r))
row_of texts ss f w (declared e c) q = absurd (let z : None ≡ Some w = sym e ∙ q in cc)
row_of texts ss f w (built_in r i e t) q = (r, i, e, t)

-- one without a word is no list constant
plain_of : (texts : List (List ℕ)) (ss : List SortInfo) (f : Function) → IsEntry texts ss f → f.word ≡ None → f.is_list_constant ≡ false
plain_of texts ss f (declared e c) q = c
plain_of texts ss f (built_in r i e t) q = absurd (let z : None ≡ Some (row_word r) = sym q ∙ ap (λ (x : Function). x.word) e in cc)

-- ---- what a function's symbol tells
-- the symbol of the function with this number in a signature
module _ (g : Sig) (table : IsTable g) where
  pub read_sort : (i : SortId) (s : SortInfo) → slice_get g.sorts i.0 ≡ Some s → sort_under g i ≡ meaning_of (sort_under g) (length (constructions (take i.0 g.sorts))) s.kind
  read_sort i s at = sorts_mean_their_kinds g.sorts table.sorts i s at

  pub boolean_is : sort_under g bool_sort ≡ boolean
  boolean_is = let h = (table.sorts.boolean_first 0).1 refl in read_sort bool_sort h.0 h.1 ∙ ap (meaning_of (sort_under g) _) h.2

  pub positive_is : sort_under g pos_sort ≡ positive
  positive_is = let h = (table.sorts.positive_second 1).1 refl in read_sort pos_sort h.0 h.1 ∙ ap (meaning_of (sort_under g) _) h.2

  pub natural_is : sort_under g nat_sort ≡ natural
  natural_is = let h = (table.sorts.natural_third 2).1 refl in read_sort nat_sort h.0 h.1 ∙ ap (meaning_of (sort_under g) _) h.2

  pub integer_is : sort_under g int_sort ≡ integer
  integer_is = let h = (table.sorts.integer_fourth 3).1 refl in read_sort int_sort h.0 h.1 ∙ ap (meaning_of (sort_under g) _) h.2

  list_is : (e l : SortId) → IsListOver g.sorts e l → sort_under g l ≡ list (sort_under g e)
  list_is e l o = read_sort l o.0 o.1 ∙ ap (meaning_of (sort_under g) _) o.2

  element_is : (e l : SortId) → IsListOver g.sorts e l → e.0 < length g.sorts
  element_is e l o = omega (arith, table.sorts.behind_element e l o, slice_get_within g.sorts l.0 o.0 o.1)

  pub sort_is : (s : SortId) → s.0 < length g.sorts → IsSort (data_meant g) (sort_under g s)
  sort_is s l = meant_is_sort (data_meant g) g.sorts table.sorts refl (sort_under g s) s l refl

  symbol_read : (i : FunId) (f : Function) → slice_get g.functions i.0 ≡ Some f → symbol_under g i ≡ symbol_of (sort_under g) (length (declared_from 0 (take i.0 g.functions))) f f.word
  symbol_read i f at = ap (symbol_at (sort_under g) (length (declared_from 0 (take i.0 g.functions)))) at

  pub built_in_is : (i : FunId) (f : Function) (r : Row) → slice_get g.functions i.0 ≡ Some f → f ≡ row_function f.name r
      → symbol_under g i ≡ word_symbol (row_word r) (map (sort_under g) (row_sorts r)) (sort_under g (row_result r))
  built_in_is i f r at e = symbol_read i f at ∙ ap (λ (h : Function). symbol_of (sort_under g) (length (declared_from 0 (take i.0 g.functions))) h h.word) e

  -- a built-in function's symbol tells its word and its sorts
  pub built_in_tells : (i : FunId) (f : Function) (w : Word) → slice_get g.functions i.0 ≡ Some f → f.word ≡ Some w
      → Tells (data_meant g) w (map (sort_under g) f.sorts) f.is_list_constant (sort_under g f.result) (symbol_under g i)
  built_in_tells i f w at e =
      let h = row_of g.texts g.sorts f w (holds_at (IsEntry g.texts g.sorts) g.functions i.0 f table.entries at) e in
      let r = h.0 in
      let same : row_function f.name r ≡ f = sym h.2 in
      let told = row_tells (data_meant g) g.sorts (sort_under g) boolean_is positive_is natural_is integer_is list_is sort_is element_is r h.1 in
      let by_row = subst (Tells (data_meant g) (row_word r) (map (sort_under g) (row_sorts r)) (row_is_list_constant r) (sort_under g (row_result r))) (sym (built_in_is i f r at h.2)) told in
      let word : row_word r ≡ w = (let p : Some (row_word r) ≡ Some w = ap (λ (x : Function). x.word) same ∙ e in cc) in
      subst (λ v. Tells (data_meant g) v (map (sort_under g) f.sorts) f.is_list_constant (sort_under g f.result) (symbol_under g i)) word
      (subst (λ (x : Function). Tells (data_meant g) (row_word r) (map (sort_under g) x.sorts) x.is_list_constant (sort_under g x.result) (symbol_under g i)) same by_row)

  -- a declared function's symbol is that with its number
  pub declared_is : (i : FunId) (f : Function) → slice_get g.functions i.0 ≡ Some f → f.word ≡ None → symbol_under g i ≡ function (length (declared_from 0 (take i.0 g.functions)))
  declared_is i f at e = symbol_read i f at ∙ ap (symbol_of (sort_under g) (length (declared_from 0 (take i.0 g.functions))) f) e

  -- ---- different numbers mean different symbols
  same_name : (f h : Function) (v w : Word) → v ≡ w → slice_get g.texts f.name.0 ≡ Some (text_of v) → slice_get g.texts h.name.0 ≡ Some (text_of w) → f.name ≡ h.name
  same_name f h v w e a b = ap (λ (n : ℕ). record { 0 = n }) (table.different f.name.0 h.name.0 (text_of w) (a ∙ ap (λ x. Some (text_of x)) e) b)

  name_text : (i : ℕ) (f : Function) (w : Word) → slice_get g.functions i ≡ Some f → f.word ≡ Some w → slice_get g.texts f.name.0 ≡ Some (text_of w)
  name_text i f w at e =
      let h = row_of g.texts g.sorts f w (holds_at (IsEntry g.texts g.sorts) g.functions i f table.entries at) e in
      let p : Some (row_word h.0) ≡ Some w = sym (ap (λ (x : Function). x.word) h.2) ∙ e in
      let word : row_word h.0 ≡ w = cc in
      h.3 ∙ ap (λ x. Some (text_of x)) word

  same_function : (i j : FunId) (f h : Function) → slice_get g.functions i.0 ≡ Some f → slice_get g.functions j.0 ≡ Some h → symbol_under g i ≡ symbol_under g j
      → (v w : Option Word) → f.word ≡ v → h.word ≡ w → i.0 ≡ j.0
  same_function i j f h at at' same None None e e' = by_order (cases_order i.0 j.0)
    where
      numbers : function (length (declared_from 0 (take i.0 g.functions))) ≡ function (length (declared_from 0 (take j.0 g.functions)))
      numbers = sym (declared_is i f at e) ∙ (same ∙ declared_is j h at' e')

      number : length (declared_from 0 (take i.0 g.functions)) ≡ length (declared_from 0 (take j.0 g.functions))
      number = let n = numbers in cc

      by_order : (i.0 ≡ j.0) ⊎ ((i.0 < j.0) ⊎ (j.0 < i.0)) → i.0 ≡ j.0
      by_order (inl p) = p
      by_order (inr (inl l)) = let c = counted g.functions 0 i.0 j.0 f at e l in absurd (omega (arith, c, number))
      by_order (inr (inr l)) = let c = counted g.functions 0 j.0 i.0 h at' e' l in absurd (omega (arith, c, number))
  same_function i j f h at at' same None (Some w) e e' =
      let told = (built_in_tells j h w at' e').2 in
      absurd (let z : true ≡ false = ap is_declared (sym (declared_is i f at e) ∙ same) ∙ told in cc)
  same_function i j f h at at' same (Some v) None e e' =
      let told = (built_in_tells i f v at e).2 in
      absurd (let z : true ≡ false = ap is_declared (sym (declared_is j h at' e') ∙ sym same) ∙ told in cc)
  same_function i j f h at at' same (Some v) (Some w) e e' =
      let a = built_in_tells i f v at e in
      let b = built_in_tells j h w at' e' in
      let word : v ≡ w = sym a.0 ∙ ap word_of same ∙ b.0 in
      let meant : map (sort_under g) f.sorts ≡ map (sort_under g) h.sorts = sym a.1 ∙ ap sorts_of same ∙ b.1 in
      let sorts = same_sorts g.sorts (sort_under g) (same_meant_sort g.sorts table.sorts) f.sorts h.sorts (holds_at (HasSortsIn g.sorts) g.functions i.0 f table.within at).0 (holds_at (HasSortsIn g.sorts) g.functions j.0 h table.within at').0 meant in
      let name = same_name f h v w word (name_text i.0 f v at e) (name_text j.0 h w at' e') in
      let keys : key_of f ≡ key_of h = (λ k. key (name k) (sorts k)) in
      table.once i.0 j.0 (key_of h) (slice_get-map key_of g.functions i.0 ∙ ap (option_map key_of) at ∙ ap Some keys) (slice_get-map key_of g.functions j.0 ∙ ap (option_map key_of) at')

  pub same_meant_symbol : (i j : FunId) → i.0 < length g.functions → j.0 < length g.functions → symbol_under g i ≡ symbol_under g j → i ≡ j
  same_meant_symbol i j l k e =
      let x = read_within g.functions i.0 l in
      let y = read_within g.functions j.0 k in
      ap (λ (n : ℕ). record { 0 = n }) (same_function i j x.0 y.0 x.1 y.1 e x.0.word y.0.word refl refl)

pub different_functions_mean_different_symbols : DifferentFunctionsMeanDifferentSymbols
different_functions_mean_different_symbols g table i j l k e = same_meant_symbol g table i j l k e

-- ---- growth
symbol_in_grown : (ms ns : SortId → Sort) (ss : List SortInfo) → ((i : SortId) → i.0 < length ss → ns i ≡ ms i) → (fs more : List Function) (i : FunId) (f : Function)
    → slice_get fs i.0 ≡ Some f → HasSortsIn ss f → symbol_meant ns (fs ++ more) i ≡ symbol_meant ms fs i
symbol_in_grown ms ns ss stay fs more i f at within =
    let l = slice_get_within fs i.0 f at in
    let number : length (declared_from 0 (take i.0 (fs ++ more))) ≡ length (declared_from 0 (take i.0 fs)) = ap (λ x. length (declared_from 0 x)) (take-append-le i.0 fs more (omega (arith, l))) in
    ap (symbol_at ns (length (declared_from 0 (take i.0 (fs ++ more))))) (read_front fs more i.0 f at)
    ∙ (λ k. symbol_by f.word (number k) k)
    ∙ sym (ap (symbol_at ms (length (declared_from 0 (take i.0 fs)))) at)
  where
    sorts_stay : (xs : List SortId) → All (λ (s : SortId). s.0 < length ss) xs → map ns xs ≡ map ms xs
    sorts_stay [] a = refl
    sorts_stay (x ∷ xs) a =
        let P : SortId → Type 0 = λ s. s.0 < length ss in
        let p = stay x (All-head P x xs a) in
        let q = sorts_stay xs (All-tail P x xs a) in
        (λ k. p k ∷ q k)

    symbol_by : (w : Option Word) (d : ℕ) → symbol_of ns d f w ≡ symbol_of ms d f w
    symbol_by None d = refl
    symbol_by (Some w) d = λ k. word_symbol w (sorts_stay f.sorts within.0 k) (stay f.result within.1 k)

pub growth_keeps_meant_symbols : GrowthKeepsMeantSymbols
growth_keeps_meant_symbols g h table grown i l =
    let x = read_within g.functions i.0 l in
    ap (λ fs. symbol_meant (sort_under h) fs i) grown.functions
    ∙ symbol_in_grown (sort_under g) (sort_under h) g.sorts (λ s k. ap (λ ss. sort_meant ss s) grown.sorts ∙ sort_in_grown g.sorts grown.new_sorts s k) g.functions grown.new_functions i x.0 x.1 (holds_at (HasSortsIn g.sorts) g.functions i.0 x.0 table.within x.1)

-- ---- the sorts of a function's symbol
-- the symbol is there, and takes and gives what the function's sorts mean
abbrev pub SymbolFits : Sig → Function → Symbol → Type 0
SymbolFits g f y = IsSymbol (data_meant g) y × (argument_sorts (data_meant g) y ≡ map (sort_under g) (arguments_of f)) × (result_sort (data_meant g) y ≡ sort_under g f.result)

map_if : (m : SortId → Sort) (c : Bool) (xs : List SortId) → cond c [] (map m xs) ≡ map m (cond c [] xs)
map_if m true xs = refl
map_if m false xs = refl

declared_entry : (g : Sig) (i : FunId) (f : Function) → slice_get g.functions i.0 ≡ Some f → f.word ≡ None
    → theory.function_at (data_meant g) (length (declared_from 0 (take i.0 g.functions))) ≡ function_at_meant g i (Some f)
declared_entry g i f at e =
    declared_read (function_meant g) (record { arguments = []; result = boolean; role = mapping }) g.functions 0 i.0 f at e
    ∙ ap (λ (n : ℕ). function_meant g (record { 0 = n })) (let z : 0 + i.0 ≡ i.0 = omega arith in z)
    ∙ ap (function_at_meant g i) at

pub declared_functions_stand_in_the_data : DeclaredFunctionsStandInTheData
declared_functions_stand_in_the_data g i f at e =
    (ap (symbol_at (sort_under g) (length (declared_from 0 (take i.0 g.functions)))) at ∙ ap (symbol_of (sort_under g) (length (declared_from 0 (take i.0 g.functions))) f) e, declared_entry g i f at e)

module _ (g : Sig) (table : IsTable g) where
  declared_fits : (i : FunId) (f : Function) → slice_get g.functions i.0 ≡ Some f → f.word ≡ None → SymbolFits g f (function (length (declared_from 0 (take i.0 g.functions))))
  declared_fits i f at e =
      let c = counted g.functions 0 i.0 (length g.functions) f at e (slice_get_within g.functions i.0 f at) in
      let whole : length (declared_from 0 (take (length g.functions) g.functions)) ≡ length (declared_from 0 g.functions) = ap (λ l. length (declared_from 0 l)) (take-length g.functions) in
      let many : length (map (function_meant g) (declared_from 0 g.functions)) ≡ length (declared_from 0 g.functions) = length-map (declared_from 0 g.functions) (function_meant g) in
      let plain = plain_of g.texts g.sorts f (holds_at (IsEntry g.texts g.sorts) g.functions i.0 f table.entries at) e in
      let entry = declared_entry g i f at e in
      (omega (arith, c, whole, many), ap (λ (x : theory.DeclaredFunction). x.arguments) entry ∙ ap (λ b. map (sort_under g) (cond b [] f.sorts)) (sym plain), ap (λ (x : theory.DeclaredFunction). x.result) entry)

  pub symbol_fits : (i : FunId) (f : Function) → slice_get g.functions i.0 ≡ Some f → SymbolFits g f (symbol_under g i)
  symbol_fits i f at = by_word f.word refl
    where
      by_word : (w : Option Word) → f.word ≡ w → SymbolFits g f (symbol_under g i)
      by_word None e = subst (SymbolFits g f) (sym (declared_is g table i f at e)) (declared_fits i f at e)
      by_word (Some w) e =
          let told = built_in_tells g table i f w at e in
          (told.3, told.4 ∙ map_if (sort_under g) f.is_list_constant f.sorts, told.5)

-- ---- the functions with the numbers 0 to 5
module _ (g : Sig) (table : IsTable g) where
  first_is : (k : ℕ) (r : Row) → slice_get first_rows k ≡ Some r → symbol_under g (record { 0 = k }) ≡ word_symbol (row_word r) (map (sort_under g) (row_sorts r)) (sort_under g (row_result r))
  first_is k r at = let h = table.first k r at in built_in_is g table (record { 0 = k }) h.0 r h.1 h.2

  pub minus_positive_is : symbol_under g (record { 0 = 0 }) ≡ minus positive
  unfolding first_rows
  minus_positive_is = first_is 0 _ refl ∙ ap minus (positive_is g table)

  pub minus_natural_is : symbol_under g (record { 0 = 1 }) ≡ minus natural
  unfolding first_rows
  minus_natural_is = first_is 1 _ refl ∙ ap minus (natural_is g table)

  pub minus_integer_is : symbol_under g (record { 0 = 2 }) ≡ minus integer
  unfolding first_rows
  minus_integer_is = first_is 2 _ refl ∙ ap minus (integer_is g table)

  pub pos2nat_is : symbol_under g (record { 0 = 3 }) ≡ upcast positive natural
  unfolding first_rows
  pos2nat_is = first_is 3 _ refl ∙ (λ i. upcast (positive_is g table i) (natural_is g table i))

  pub nat2int_is : symbol_under g (record { 0 = 4 }) ≡ upcast natural integer
  unfolding first_rows
  nat2int_is = first_is 4 _ refl ∙ (λ i. upcast (natural_is g table i) (integer_is g table i))

  pub pos2int_is : symbol_under g (record { 0 = 5 }) ≡ upcast positive integer
  unfolding first_rows
  pos2int_is = first_is 5 _ refl ∙ (λ i. upcast (positive_is g table i) (integer_is g table i))

  -- they alone mean these symbols
  pub first_alone : (k : ℕ) (r : Row) (y : Symbol) → slice_get first_rows k ≡ Some r → symbol_under g (record { 0 = k }) ≡ y → (truth ≡ y → ⊥) → (i : FunId) → symbol_under g i ≡ y → i.0 ≡ k
  first_alone k r y at is other i e = by_place (cases_lt i.0 (length g.functions))
    where
      by_place : (i.0 < length g.functions) ⊎ (length g.functions ≤ i.0) → i.0 ≡ k
      by_place (inl l) =
          let h = table.first k r at in
          ap (λ (x : FunId). x.0) (same_meant_symbol g table i (record { 0 = k }) l (slice_get_within g.functions k h.0 h.1) (e ∙ sym is))
      by_place (inr l) = absurd (other (sym (ap (symbol_at (sort_under g) (length (declared_from 0 (take i.0 g.functions)))) (past g.functions i.0 l)) ∙ e))
        where
          past : (fs : List Function) (n : ℕ) → length fs ≤ n → slice_get fs n ≡ None
          past [] n l = refl
          past (f ∷ fs) zero l = absurd (omega (arith, l))
          past (f ∷ fs) (suc n) l = past fs n (omega (arith, l))

  -- and the sorts 1 to 3 alone mean the sorts of numbers
  pub number_sort_alone : (n : SortId) (s : Sort) → n.0 < length g.sorts → sort_under g n ≡ s → (boolean ≡ s → ⊥) → (i : SortId) → sort_under g i ≡ s → i.0 ≡ n.0
  number_sort_alone n s within is other i e = by_place (cases_lt i.0 (length g.sorts))
    where
      by_place : (i.0 < length g.sorts) ⊎ (length g.sorts ≤ i.0) → i.0 ≡ n.0
      by_place (inl l) = ap (λ (x : SortId). x.0) (same_meant_sort g.sorts table.sorts i n l within (e ∙ sym is))
      by_place (inr l) = absurd (other (sym (get_or_past (meanings_behind [] 0 g.sorts) i.0 boolean (omega (arith, l, as_many g.sorts [] 0))) ∙ e))

  pub positive_within : 1 < length g.sorts
  positive_within = let h = (table.sorts.positive_second 1).1 refl in slice_get_within g.sorts 1 h.0 h.1

  pub natural_within : 2 < length g.sorts
  natural_within = let h = (table.sorts.natural_third 2).1 refl in slice_get_within g.sorts 2 h.0 h.1

  pub integer_within : 3 < length g.sorts
  integer_within = let h = (table.sorts.integer_fourth 3).1 refl in slice_get_within g.sorts 3 h.0 h.1

-- ---- the listed functions
pub listed_functions_mean_their_places : ListedFunctionsMeanTheirPlaces
listed_functions_mean_their_places g table k i at =
    let h = listed_read g.functions 0 k i (ap (λ l. slice_get l k) (sym table.listed) ∙ at) in
    let same : i.0 ≡ h.0 = ap (λ (x : FunId). x.0) h.2 ∙ (let z : 0 + h.0 ≡ h.0 = omega arith in z) in
    (declared_functions_stand_in_the_data g i h.1 (ap (slice_get g.functions) same ∙ h.3) h.4).0
    ∙ ap function (ap (λ n. length (declared_from 0 (take n g.functions))) same ∙ h.5)
