-- A function with a word has the name and the sorts of a row of the language's table, at some sort.
use Rattle.std.proofs.Common.{◌≡◌, ◌<◌, ◌⊎◌, inl, inr, ⊎_elim, ℕ, zero, suc, Bool, true, false, List, [], ◌∷◌, ◌++◌, length, map, get_or, refl, ap, sym, ◌∙◌, subst, arith}
use Rattle.std.specs.Prelude.{◌&&◌}
use Rattle.std.specs.List.{Contains, list_all}
use Rattle.data_theory.specs.declared.ids.SortId.{SortId}
use Rattle.data_theory.specs.declared.rows.Row.{Row}
use Rattle.data_theory.specs.declared.rows.Row.TheVariants.{Constant, ListConstant, One, Two, Three}
use Rattle.data_theory.specs.Terms.{Sort, boolean, positive, natural, integer, list}
use Rattle.data_theory.specs.Sorts.{IsListOver}
use Rattle.data_theory.specs.Rows.{row_text, row_sorts}
use Rattle.data_theory.specs.Table.{bool_sort, pos_sort, nat_sort, int_sort, first_rows, truth_rows, sort_rows, comparison_rows, sum_rows, quotient_rows, extreme_rows, step_rows, list_rows, first_table, language_table}
use Rattle.data_theory.specs.Signature.{Sig}
use Rattle.data_theory.specs.IdTables.{IsRow, of_front, over_sort, over_list}
use Rattle.data_theory.specs.IdTerms.{sort_under}
use Rattle.data_theory.specs.WholeSignatures.{IsSignature}
use Rattle.data_theory.proofs.IdSymbolLemmas.{boolean_is, positive_is, natural_is, integer_is}
use Rattle.sort_table.specs.Duplicates.{any_sort, lists_of_any}
use Rattle.sort_table.proofs.Growing.{contains_behind, contains_after, in_either}
use Rattle.sort_table.proofs.NamedSignatures.{list_meaning}

-- a row of the table with sorts in the place of those that are open
abbrev at_sorts : SortId → SortId → SortId → SortId
at_sorts s l k = get_or (bool_sort ∷ pos_sort ∷ nat_sort ∷ int_sort ∷ s ∷ l ∷ []) k.0 s

abbrev row_at : SortId → SortId → Row → Row
row_at s l (Constant w to) = Constant w (at_sorts s l to)
row_at s l (ListConstant w to) = ListConstant w (at_sorts s l to)
row_at s l (One w a to) = One w (at_sorts s l a) (at_sorts s l to)
row_at s l (Two w a b to) = Two w (at_sorts s l a) (at_sorts s l b) (at_sorts s l to)
row_at s l (Three w a b c to) = Three w (at_sorts s l a) (at_sorts s l b) (at_sorts s l c) (at_sorts s l to)

same_text : (s l : SortId) (r : Row) → row_text (row_at s l r) ≡ row_text r
same_text s l (Constant w to) = refl
same_text s l (ListConstant w to) = refl
same_text s l (One w a to) = refl
same_text s l (Two w a b to) = refl
same_text s l (Three w a b c to) = refl

sorts_at : (s l : SortId) (r : Row) → row_sorts (row_at s l r) ≡ map (at_sorts s l) (row_sorts r)
sorts_at s l (Constant w to) = refl
sorts_at s l (ListConstant w to) = refl
sorts_at s l (One w a to) = refl
sorts_at s l (Two w a b to) = refl
sorts_at s l (Three w a b c to) = refl

mapped : {A B : Type 0} (f : A → B) (xs : List A) (y : B) → Contains (map f xs) y → (x : A) × Contains xs x × (f x ≡ y)
mapped f [] y (k, l, e) = let never : ⊥ = omega (arith, l) in absurd never
mapped f (x ∷ xs) y (zero, l, e) = (x, (zero, omega arith, refl), e)
mapped f (x ∷ xs) y (suc k, l, e) =
    let r = mapped f xs y (k, omega (arith, l), e) in
    (r.0, (let c = r.1 in let n : c.0 < length xs = c.1 in (suc c.0, omega (arith, n), c.2)), r.2)

-- ---- the parts of the table
truth_rows_in : (q : Row) → Contains truth_rows q → Contains (language_table any_sort lists_of_any) q
unfolding language_table
truth_rows_in q c = (contains_behind (((((((truth_rows ++ (sort_rows any_sort)) ++ comparison_rows) ++ sum_rows) ++ first_rows) ++ quotient_rows) ++ extreme_rows) ++ step_rows) (list_rows any_sort lists_of_any) q (contains_behind ((((((truth_rows ++ (sort_rows any_sort)) ++ comparison_rows) ++ sum_rows) ++ first_rows) ++ quotient_rows) ++ extreme_rows) step_rows q (contains_behind (((((truth_rows ++ (sort_rows any_sort)) ++ comparison_rows) ++ sum_rows) ++ first_rows) ++ quotient_rows) extreme_rows q (contains_behind ((((truth_rows ++ (sort_rows any_sort)) ++ comparison_rows) ++ sum_rows) ++ first_rows) quotient_rows q (contains_behind (((truth_rows ++ (sort_rows any_sort)) ++ comparison_rows) ++ sum_rows) first_rows q (contains_behind ((truth_rows ++ (sort_rows any_sort)) ++ comparison_rows) sum_rows q (contains_behind (truth_rows ++ (sort_rows any_sort)) comparison_rows q (contains_behind truth_rows (sort_rows any_sort) q c))))))))

sort_rows_in : (q : Row) → Contains (sort_rows any_sort) q → Contains (language_table any_sort lists_of_any) q
unfolding language_table
sort_rows_in q c = (contains_behind (((((((truth_rows ++ (sort_rows any_sort)) ++ comparison_rows) ++ sum_rows) ++ first_rows) ++ quotient_rows) ++ extreme_rows) ++ step_rows) (list_rows any_sort lists_of_any) q (contains_behind ((((((truth_rows ++ (sort_rows any_sort)) ++ comparison_rows) ++ sum_rows) ++ first_rows) ++ quotient_rows) ++ extreme_rows) step_rows q (contains_behind (((((truth_rows ++ (sort_rows any_sort)) ++ comparison_rows) ++ sum_rows) ++ first_rows) ++ quotient_rows) extreme_rows q (contains_behind ((((truth_rows ++ (sort_rows any_sort)) ++ comparison_rows) ++ sum_rows) ++ first_rows) quotient_rows q (contains_behind (((truth_rows ++ (sort_rows any_sort)) ++ comparison_rows) ++ sum_rows) first_rows q (contains_behind ((truth_rows ++ (sort_rows any_sort)) ++ comparison_rows) sum_rows q (contains_behind (truth_rows ++ (sort_rows any_sort)) comparison_rows q (contains_after truth_rows (sort_rows any_sort) q c))))))))

comparison_rows_in : (q : Row) → Contains comparison_rows q → Contains (language_table any_sort lists_of_any) q
unfolding language_table
comparison_rows_in q c = (contains_behind (((((((truth_rows ++ (sort_rows any_sort)) ++ comparison_rows) ++ sum_rows) ++ first_rows) ++ quotient_rows) ++ extreme_rows) ++ step_rows) (list_rows any_sort lists_of_any) q (contains_behind ((((((truth_rows ++ (sort_rows any_sort)) ++ comparison_rows) ++ sum_rows) ++ first_rows) ++ quotient_rows) ++ extreme_rows) step_rows q (contains_behind (((((truth_rows ++ (sort_rows any_sort)) ++ comparison_rows) ++ sum_rows) ++ first_rows) ++ quotient_rows) extreme_rows q (contains_behind ((((truth_rows ++ (sort_rows any_sort)) ++ comparison_rows) ++ sum_rows) ++ first_rows) quotient_rows q (contains_behind (((truth_rows ++ (sort_rows any_sort)) ++ comparison_rows) ++ sum_rows) first_rows q (contains_behind ((truth_rows ++ (sort_rows any_sort)) ++ comparison_rows) sum_rows q (contains_after (truth_rows ++ (sort_rows any_sort)) comparison_rows q c)))))))

sum_rows_in : (q : Row) → Contains sum_rows q → Contains (language_table any_sort lists_of_any) q
unfolding language_table
sum_rows_in q c = (contains_behind (((((((truth_rows ++ (sort_rows any_sort)) ++ comparison_rows) ++ sum_rows) ++ first_rows) ++ quotient_rows) ++ extreme_rows) ++ step_rows) (list_rows any_sort lists_of_any) q (contains_behind ((((((truth_rows ++ (sort_rows any_sort)) ++ comparison_rows) ++ sum_rows) ++ first_rows) ++ quotient_rows) ++ extreme_rows) step_rows q (contains_behind (((((truth_rows ++ (sort_rows any_sort)) ++ comparison_rows) ++ sum_rows) ++ first_rows) ++ quotient_rows) extreme_rows q (contains_behind ((((truth_rows ++ (sort_rows any_sort)) ++ comparison_rows) ++ sum_rows) ++ first_rows) quotient_rows q (contains_behind (((truth_rows ++ (sort_rows any_sort)) ++ comparison_rows) ++ sum_rows) first_rows q (contains_after ((truth_rows ++ (sort_rows any_sort)) ++ comparison_rows) sum_rows q c))))))

first_rows_in : (q : Row) → Contains first_rows q → Contains (language_table any_sort lists_of_any) q
unfolding language_table
first_rows_in q c = (contains_behind (((((((truth_rows ++ (sort_rows any_sort)) ++ comparison_rows) ++ sum_rows) ++ first_rows) ++ quotient_rows) ++ extreme_rows) ++ step_rows) (list_rows any_sort lists_of_any) q (contains_behind ((((((truth_rows ++ (sort_rows any_sort)) ++ comparison_rows) ++ sum_rows) ++ first_rows) ++ quotient_rows) ++ extreme_rows) step_rows q (contains_behind (((((truth_rows ++ (sort_rows any_sort)) ++ comparison_rows) ++ sum_rows) ++ first_rows) ++ quotient_rows) extreme_rows q (contains_behind ((((truth_rows ++ (sort_rows any_sort)) ++ comparison_rows) ++ sum_rows) ++ first_rows) quotient_rows q (contains_after (((truth_rows ++ (sort_rows any_sort)) ++ comparison_rows) ++ sum_rows) first_rows q c)))))

quotient_rows_in : (q : Row) → Contains quotient_rows q → Contains (language_table any_sort lists_of_any) q
unfolding language_table
quotient_rows_in q c = (contains_behind (((((((truth_rows ++ (sort_rows any_sort)) ++ comparison_rows) ++ sum_rows) ++ first_rows) ++ quotient_rows) ++ extreme_rows) ++ step_rows) (list_rows any_sort lists_of_any) q (contains_behind ((((((truth_rows ++ (sort_rows any_sort)) ++ comparison_rows) ++ sum_rows) ++ first_rows) ++ quotient_rows) ++ extreme_rows) step_rows q (contains_behind (((((truth_rows ++ (sort_rows any_sort)) ++ comparison_rows) ++ sum_rows) ++ first_rows) ++ quotient_rows) extreme_rows q (contains_after ((((truth_rows ++ (sort_rows any_sort)) ++ comparison_rows) ++ sum_rows) ++ first_rows) quotient_rows q c))))

extreme_rows_in : (q : Row) → Contains extreme_rows q → Contains (language_table any_sort lists_of_any) q
unfolding language_table
extreme_rows_in q c = (contains_behind (((((((truth_rows ++ (sort_rows any_sort)) ++ comparison_rows) ++ sum_rows) ++ first_rows) ++ quotient_rows) ++ extreme_rows) ++ step_rows) (list_rows any_sort lists_of_any) q (contains_behind ((((((truth_rows ++ (sort_rows any_sort)) ++ comparison_rows) ++ sum_rows) ++ first_rows) ++ quotient_rows) ++ extreme_rows) step_rows q (contains_after (((((truth_rows ++ (sort_rows any_sort)) ++ comparison_rows) ++ sum_rows) ++ first_rows) ++ quotient_rows) extreme_rows q c)))

step_rows_in : (q : Row) → Contains step_rows q → Contains (language_table any_sort lists_of_any) q
unfolding language_table
step_rows_in q c = (contains_behind (((((((truth_rows ++ (sort_rows any_sort)) ++ comparison_rows) ++ sum_rows) ++ first_rows) ++ quotient_rows) ++ extreme_rows) ++ step_rows) (list_rows any_sort lists_of_any) q (contains_after ((((((truth_rows ++ (sort_rows any_sort)) ++ comparison_rows) ++ sum_rows) ++ first_rows) ++ quotient_rows) ++ extreme_rows) step_rows q c))

list_rows_in : (q : Row) → Contains (list_rows any_sort lists_of_any) q → Contains (language_table any_sort lists_of_any) q
unfolding language_table
list_rows_in q c = (contains_after (((((((truth_rows ++ (sort_rows any_sort)) ++ comparison_rows) ++ sum_rows) ++ first_rows) ++ quotient_rows) ++ extreme_rows) ++ step_rows) (list_rows any_sort lists_of_any) q c)

-- ---- which sorts are open
-- no list sort stands in the row
abbrev below_five : ℕ → Bool
below_five zero = true
below_five (suc zero) = true
below_five (suc (suc zero)) = true
below_five (suc (suc (suc zero))) = true
below_five (suc (suc (suc (suc zero)))) = true
below_five (suc (suc (suc (suc (suc k))))) = false

abbrev is_small : Row → Bool
is_small r = list_all (λ (k : SortId). below_five k.0) (row_sorts r)

-- the sort for a number of the table, at a sort
abbrev pub meant_at : Sort → SortId → Sort
meant_at a k = get_or (boolean ∷ positive ∷ natural ∷ integer ∷ a ∷ list a ∷ []) k.0 a

-- the row has the name and the sorts of one of the table, at this sort
pub record IsOfTable (g : Sig) (r : Row) : Type 0 where
  pub at : Sort
  pub row : Row
  pub within : Contains (language_table any_sort lists_of_any) row
  pub text : row_text row ≡ row_text r
  pub sorts : map (sort_under g) (row_sorts r) ≡ map (meant_at at) (row_sorts row)

module _ (g : Sig) (stands : IsSignature g) where
  -- the sort at the place of a number means what it should
  means : (s l : SortId) (k : ℕ) → (below_five k ≡ true) ⊎ (sort_under g l ≡ list (sort_under g s)) → sort_under g (at_sorts s l (record { 0 = k })) ≡ meant_at (sort_under g s) (record { 0 = k })
  means s l zero h = boolean_is g stands.table
  means s l (suc zero) h = positive_is g stands.table
  means s l (suc (suc zero)) h = natural_is g stands.table
  means s l (suc (suc (suc zero))) h = integer_is g stands.table
  means s l (suc (suc (suc (suc zero)))) h = refl
  means s l (suc (suc (suc (suc (suc zero))))) (inl small) = let never : false ≡ true = small in cc
  means s l (suc (suc (suc (suc (suc zero))))) (inr over) = over
  means s l (suc (suc (suc (suc (suc (suc k)))))) h = refl

  small_head : (k : SortId) (ks : List SortId) → list_all (λ (j : SortId). below_five j.0) (k ∷ ks) ≡ true → (below_five k.0 ≡ true) × (list_all (λ (j : SortId). below_five j.0) ks ≡ true)
  small_head k ks h = by_test (below_five k.0) refl h
    where
      by_test : (b : Bool) → below_five k.0 ≡ b → (b && list_all (λ (j : SortId). below_five j.0) ks) ≡ true → (below_five k.0 ≡ true) × (list_all (λ (j : SortId). below_five j.0) ks ≡ true)
      by_test true e rest = (e, rest)
      by_test false e rest = let never : false ≡ true = rest in cc

  each_means : (s l : SortId) (ks : List SortId) → (list_all (λ (k : SortId). below_five k.0) ks ≡ true) ⊎ (sort_under g l ≡ list (sort_under g s)) → map (sort_under g) (map (at_sorts s l) ks) ≡ map (meant_at (sort_under g s)) ks
  each_means s l [] h = refl
  each_means s l (k ∷ ks) (inl small) = let both = small_head k ks small in let rest = each_means s l ks (inl both.1) in let head = means s l k.0 (inl both.0) in (λ i. head i ∷ rest i)
  each_means s l (k ∷ ks) (inr over) = let rest = each_means s l ks (inr over) in let head = means s l k.0 (inr over) in (λ i. head i ∷ rest i)

  from_row : (s l : SortId) (q : Row) → Contains (language_table any_sort lists_of_any) q → (is_small q ≡ true) ⊎ (sort_under g l ≡ list (sort_under g s)) → (r : Row) → row_at s l q ≡ r → IsOfTable g r
  from_row s l q there h r e = record {
    at = sort_under g s;
    row = q;
    within = there;
    text = sym (same_text s l q) ∙ ap row_text e;
    sorts = ap (λ (x : Row). map (sort_under g) (row_sorts x)) (sym e) ∙ (ap (map (sort_under g)) (sorts_at s l q) ∙ each_means s l (row_sorts q) h);
  }

  small_in : (rows : List Row) (q : Row) → list_all is_small rows ≡ true → Contains rows q → is_small q ≡ true
  small_in [] q all (k, l, e) = let never : ⊥ = omega (arith, l) in absurd never
  small_in (x ∷ rows) q all (zero, l, e) = subst (λ y. is_small y ≡ true) e (first_of (is_small x) (list_all is_small rows) all)
    where
      first_of : (a b : Bool) → (a && b) ≡ true → a ≡ true
      first_of true b h = refl
      first_of false b h = h
  small_in (x ∷ rows) q all (suc k, l, e) = small_in rows q (rest_of (is_small x) (list_all is_small rows) all) (k, omega (arith, l), e)
    where
      rest_of : (a b : Bool) → (a && b) ≡ true → b ≡ true
      rest_of true b h = h
      rest_of false b h = let never : false ≡ true = h in cc

  -- rows that stand in the table, at these sorts
  from_rows : (s l : SortId) (table rows : List Row) → map (row_at s l) table ≡ rows → ((q : Row) → Contains table q → Contains (language_table any_sort lists_of_any) q)
      → (list_all is_small table ≡ true) ⊎ (sort_under g l ≡ list (sort_under g s)) → (r : Row) → Contains rows r → IsOfTable g r
  from_rows s l table rows e into h r c =
      let q = mapped (row_at s l) table r (subst (λ (rs : List Row). Contains rs r) (sym e) c) in
      elim h [
        | inl small ↦ from_row s l q.0 (into q.0 q.1) (inl (small_in table q.0 small q.1)) r q.2
        | inr over ↦ from_row s l q.0 (into q.0 q.1) (inr over) r q.2
      ]

  of_sort_rows : (s : SortId) (r : Row) → Contains (sort_rows s) r → IsOfTable g r
  unfolding sort_rows
  of_sort_rows s r c = from_rows s s (sort_rows any_sort) (sort_rows s) refl sort_rows_in (inl refl) r c

  of_list_rows : (e l : SortId) → IsListOver g.sorts e l → (r : Row) → Contains (list_rows e l) r → IsOfTable g r
  unfolding list_rows
  of_list_rows e l over r c = from_rows e l (list_rows any_sort lists_of_any) (list_rows e l) refl list_rows_in (inr (list_meaning g e l stands.table over)) r c

  of_first : (r : Row) → Contains first_rows r → IsOfTable g r
  unfolding first_rows
  of_first r c = from_rows bool_sort bool_sort first_rows first_rows refl first_rows_in (inl refl) r c

  of_truth : (r : Row) → Contains truth_rows r → IsOfTable g r
  unfolding truth_rows
  of_truth r c = from_rows bool_sort bool_sort truth_rows truth_rows refl truth_rows_in (inl refl) r c

  of_comparison : (r : Row) → Contains comparison_rows r → IsOfTable g r
  unfolding comparison_rows
  of_comparison r c = from_rows bool_sort bool_sort comparison_rows comparison_rows refl comparison_rows_in (inl refl) r c

  of_sum : (r : Row) → Contains sum_rows r → IsOfTable g r
  unfolding sum_rows
  of_sum r c = from_rows bool_sort bool_sort sum_rows sum_rows refl sum_rows_in (inl refl) r c

  of_quotient : (r : Row) → Contains quotient_rows r → IsOfTable g r
  unfolding quotient_rows
  of_quotient r c = from_rows bool_sort bool_sort quotient_rows quotient_rows refl quotient_rows_in (inl refl) r c

  of_extreme : (r : Row) → Contains extreme_rows r → IsOfTable g r
  unfolding extreme_rows
  of_extreme r c = from_rows bool_sort bool_sort extreme_rows extreme_rows refl extreme_rows_in (inl refl) r c

  of_step : (r : Row) → Contains step_rows r → IsOfTable g r
  unfolding step_rows
  of_step r c = from_rows bool_sort bool_sort step_rows step_rows refl step_rows_in (inl refl) r c

  of_first_rows : (r : Row) → Contains first_table r → IsOfTable g r
  unfolding first_table
  of_first_rows r c = ⊎_elim (λ c9. ⊎_elim (λ c8. ⊎_elim (λ c7. ⊎_elim (λ c6. ⊎_elim (λ c5. ⊎_elim (λ c4. ⊎_elim (λ c3. ⊎_elim (λ c2. ⊎_elim (λ c1. ⊎_elim (λ c0. of_first r c0) (of_truth r) (in_either first_rows truth_rows r c1)) (of_sort_rows bool_sort r) (in_either (first_rows ++ truth_rows) (sort_rows bool_sort) r c2)) (of_sort_rows pos_sort r) (in_either ((first_rows ++ truth_rows) ++ (sort_rows bool_sort)) (sort_rows pos_sort) r c3)) (of_sort_rows nat_sort r) (in_either (((first_rows ++ truth_rows) ++ (sort_rows bool_sort)) ++ (sort_rows pos_sort)) (sort_rows nat_sort) r c4)) (of_sort_rows int_sort r) (in_either ((((first_rows ++ truth_rows) ++ (sort_rows bool_sort)) ++ (sort_rows pos_sort)) ++ (sort_rows nat_sort)) (sort_rows int_sort) r c5)) (of_comparison r) (in_either (((((first_rows ++ truth_rows) ++ (sort_rows bool_sort)) ++ (sort_rows pos_sort)) ++ (sort_rows nat_sort)) ++ (sort_rows int_sort)) comparison_rows r c6)) (of_sum r) (in_either ((((((first_rows ++ truth_rows) ++ (sort_rows bool_sort)) ++ (sort_rows pos_sort)) ++ (sort_rows nat_sort)) ++ (sort_rows int_sort)) ++ comparison_rows) sum_rows r c7)) (of_quotient r) (in_either (((((((first_rows ++ truth_rows) ++ (sort_rows bool_sort)) ++ (sort_rows pos_sort)) ++ (sort_rows nat_sort)) ++ (sort_rows int_sort)) ++ comparison_rows) ++ sum_rows) quotient_rows r c8)) (of_extreme r) (in_either ((((((((first_rows ++ truth_rows) ++ (sort_rows bool_sort)) ++ (sort_rows pos_sort)) ++ (sort_rows nat_sort)) ++ (sort_rows int_sort)) ++ comparison_rows) ++ sum_rows) ++ quotient_rows) extreme_rows r c9)) (of_step r) (in_either (((((((((first_rows ++ truth_rows) ++ (sort_rows bool_sort)) ++ (sort_rows pos_sort)) ++ (sort_rows nat_sort)) ++ (sort_rows int_sort)) ++ comparison_rows) ++ sum_rows) ++ quotient_rows) ++ extreme_rows) step_rows r c)

  pub row_of_table : (r : Row) → IsRow g.sorts r → IsOfTable g r
  row_of_table r (of_front c) = of_first_rows r c
  row_of_table r (over_sort s l c) = of_sort_rows s r c
  row_of_table r (over_list e l o c) = of_list_rows e l o r c
