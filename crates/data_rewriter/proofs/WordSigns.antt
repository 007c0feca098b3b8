-- The signs of built-in functions, word by word.
use Rattle.std.proofs.Common.{take, Vec, ◌≡◌, ◌≢◌, ◌⊎◌, inl, inr, ◌<◌, ℕ, length, get_or, List, [], ◌∷◌, refl, sym, ap, ◌∙◌, subst, arith, Some, None}
use Rattle.std.specs.Prelude.{Option, MatchOption, IfSome, IsSome, slice_get}
use Rattle.std.specs.Global.{Global}
use Rattle.std.proofs.lemmas.Option.{slice_get_within}
use Rattle.data_theory.specs.declared.ids.SortId.{SortId}
use Rattle.data_theory.specs.declared.ids.FunId.{FunId}
use Rattle.data_theory.specs.declared.words.NumberWord.{NumberWord}
use Rattle.data_theory.specs.declared.words.NumberWord.TheVariants as numbers
use Rattle.data_theory.specs.declared.words.ListWord.{ListWord}
use Rattle.data_theory.specs.declared.words.ListWord.TheVariants as lists
use Rattle.data_theory.specs.declared.words.Word.{Word}
use Rattle.data_theory.specs.declared.words.Word.TheVariants as words
use Rattle.data_theory.specs.declared.rows.Row.{Row}
use Rattle.data_theory.specs.declared.rows.Row.TheVariants as rows
use Rattle.data_theory.specs.Terms as terms
use Rattle.data_theory.specs.Terms.{Sort, list, Operation, Symbol}
use Rattle.data_theory.specs.declared.sort_table.SortKind.{SortKind}
use Rattle.data_theory.specs.declared.sort_table.SortKind.TheVariants.{Bool as BoolKind, Pos as PosKind, Nat as NatKind, Int as IntKind, List as ListKind, Abstract as AbstractKind, Cons as ConsKind, Struct as StructKind}
use Rattle.data_theory.specs.Declarations as theory
use Rattle.data_theory.specs.Declarations.{Construction, sort_at}
use Rattle.data_theory.specs.Sorts as sorts
use Rattle.data_theory.specs.Sorts.{Kind, booleans, positives, naturals, integers, kind_of, SortInfo, IsListOver}
use Rattle.data_theory.specs.IdSorts.{construction_of, constructions, meaning_of}
use Rattle.data_theory.specs.IdData.{data_meant}
use Rattle.data_theory.specs.Signature.{Sig, IsFun}
use Rattle.data_theory.specs.SignatureLaws.{RowStands, symbol_of_row}
use Rattle.data_theory.specs.Rows.{row_sorts, row_text}
use Rattle.data_theory.specs.Table.{sort_rows, list_rows, bool_sort}
use Rattle.data_theory.specs.IdSymbols.{word_symbol, number_symbol, list_symbol, element_of}
use Rattle.data_theory.specs.IdTables.{IsTable, IsRow}
use Rattle.data_theory.specs.IdTerms.{sort_under}
use Rattle.data_theory.specs.WholeSignatures.{IsSignature}
use Rattle.data_theory.proofs.IdSymbolLemmas.{read_sort}
use Rattle.data_theory.proofs.StandingLemmas.{functions_over_sorts_stand, functions_over_lists_stand}
use Rattle.data_theory.proofs.IdSortLemmas.{read_within, declared_sorts_stand_in_the_data}
use Rattle.number_rules.specs.declared.num_op.NumOp.{NumOp}
use Rattle.data_rewriter.specs.declared.signs.Comparison.{Comparison}
use Rattle.data_rewriter.specs.declared.signs.Equals.TheVariants as equals
use Rattle.data_rewriter.specs.declared.signs.Sign.{Sign}
use Rattle.data_rewriter.specs.declared.signs.Sign.TheVariants as signs
use Rattle.data_rewriter.specs.Standing.{IsSortOf, IsSymbolOf}
use Rattle.data_rewriter.specs.Signs.{HasSign, LooksAt, ComputesBy, comparison_of}
use Rattle.data_rewriter.specs.Marking.{IsSignOf, IsOfRow}
use Rattle.data_rewriter.proofs.RowShapes.{no_row, list_place, over_a_list}

list_is : (sig : Sig) → IsTable sig → (e l : SortId) → IsListOver sig.sorts e l → sort_under sig l ≡ list (sort_under sig e)
list_is sig table e l o = read_sort sig table l o.0 o.1 ∙ ap (meaning_of (sort_under sig) _) o.2

module _ (sig : Sig) where
  pub sort_itself : (s : SortId) → s.0 < length sig.sorts → IsSortOf sig s (sort_under sig s)
  sort_itself s l = record { inside = l; is = refl }

  -- ---- numbers
  pub computes_two : (w : NumberWord) (v : NumberWord) → w ≡ v → (o : Operation) (op : NumOp) → ComputesBy o op → ((p q d : Sort) → number_symbol v (p ∷ q ∷ []) d ≡ terms.arithmetic o (p ∷ q ∷ []) d)
      → (a b to : SortId) → a.0 < length sig.sorts → b.0 < length sig.sorts → to.0 < length sig.sorts → HasSign sig (symbol_of_row sig (rows.Two (words.Number w) a b to)) (signs.Two op a b to)
  computes_two w v e o op by is a b to i j k =
      (o, by, sort_under sig a, sort_itself a i, sort_under sig b, sort_itself b j, sort_under sig to, sort_itself to k, ap (λ (x : NumberWord). number_symbol x (sort_under sig a ∷ sort_under sig b ∷ []) (sort_under sig to)) e ∙ is (sort_under sig a) (sort_under sig b) (sort_under sig to))

  pub computes_one : (w : NumberWord) (v : NumberWord) → w ≡ v → (o : Operation) (op : NumOp) → ComputesBy o op → ((p d : Sort) → number_symbol v (p ∷ []) d ≡ terms.arithmetic o (p ∷ []) d)
      → (a to : SortId) → a.0 < length sig.sorts → to.0 < length sig.sorts → HasSign sig (symbol_of_row sig (rows.One (words.Number w) a to)) (signs.One op a to)
  computes_one w v e o op by is a to i k =
      (o, by, sort_under sig a, sort_itself a i, sort_under sig to, sort_itself to k, ap (λ (x : NumberWord). number_symbol x (sort_under sig a ∷ []) (sort_under sig to)) e ∙ is (sort_under sig a) (sort_under sig to))

  pub is_minus_of : (w : NumberWord) → w ≡ numbers.Minus → (a to : SortId) → a.0 < length sig.sorts → HasSign sig (symbol_of_row sig (rows.One (words.Number w) a to)) (signs.Minus a)
  is_minus_of w e a to i = (sort_under sig a, sort_itself a i, ap (λ (x : NumberWord). number_symbol x (sort_under sig a ∷ []) (sort_under sig to)) e)

  pub other_of_two : (w : NumberWord) (a b to : SortId) → w ≢ numbers.Plus → w ≢ numbers.Minus → w ≢ numbers.Times → w ≢ numbers.Div → w ≢ numbers.Mod → w ≢ numbers.Exp → w ≢ numbers.Min → w ≢ numbers.Max → IsSignOf sig (rows.Two (words.Number w) a b to) signs.Other
  other_of_two numbers.Plus a b to p q r s t u v x row = absurd (p refl)
  other_of_two numbers.Minus a b to p q r s t u v x row = absurd (q refl)
  other_of_two numbers.Times a b to p q r s t u v x row = absurd (r refl)
  other_of_two numbers.Div a b to p q r s t u v x row = absurd (s refl)
  other_of_two numbers.Mod a b to p q r s t u v x row = absurd (t refl)
  other_of_two numbers.Exp a b to p q r s t u v x row = absurd (u refl)
  other_of_two numbers.Min a b to p q r s t u v x row = absurd (v refl)
  other_of_two numbers.Max a b to p q r s t u v x row = absurd (x refl)
  other_of_two numbers.Abs a b to p q r s t u v x row = no_row sig.sorts (rows.Two (words.Number numbers.Abs) a b to) refl row
  other_of_two numbers.Succ a b to p q r s t u v x row = no_row sig.sorts (rows.Two (words.Number numbers.Succ) a b to) refl row
  other_of_two numbers.Pred a b to p q r s t u v x row = no_row sig.sorts (rows.Two (words.Number numbers.Pred) a b to) refl row
  other_of_two numbers.PosToNat a b to p q r s t u v x row = no_row sig.sorts (rows.Two (words.Number numbers.PosToNat) a b to) refl row
  other_of_two numbers.NatToInt a b to p q r s t u v x row = no_row sig.sorts (rows.Two (words.Number numbers.NatToInt) a b to) refl row
  other_of_two numbers.PosToInt a b to p q r s t u v x row = no_row sig.sorts (rows.Two (words.Number numbers.PosToInt) a b to) refl row
  other_of_two numbers.NatToPos a b to p q r s t u v x row = no_row sig.sorts (rows.Two (words.Number numbers.NatToPos) a b to) refl row
  other_of_two numbers.IntToNat a b to p q r s t u v x row = no_row sig.sorts (rows.Two (words.Number numbers.IntToNat) a b to) refl row
  other_of_two numbers.IntToPos a b to p q r s t u v x row = no_row sig.sorts (rows.Two (words.Number numbers.IntToPos) a b to) refl row

  pub other_of_one : (w : NumberWord) (a to : SortId) → w ≢ numbers.Minus → w ≢ numbers.Abs → w ≢ numbers.Succ → w ≢ numbers.Pred → w ≢ numbers.NatToPos → w ≢ numbers.IntToPos → w ≢ numbers.IntToNat → IsSignOf sig (rows.One (words.Number w) a to) signs.Other
  other_of_one numbers.Minus a to p q r s t u v row = absurd (p refl)
  other_of_one numbers.Abs a to p q r s t u v row = absurd (q refl)
  other_of_one numbers.Succ a to p q r s t u v row = absurd (r refl)
  other_of_one numbers.Pred a to p q r s t u v row = absurd (s refl)
  other_of_one numbers.NatToPos a to p q r s t u v row = absurd (t refl)
  other_of_one numbers.IntToPos a to p q r s t u v row = absurd (u refl)
  other_of_one numbers.IntToNat a to p q r s t u v row = absurd (v refl)
  other_of_one numbers.PosToNat a to p q r s t u v row = tt
  other_of_one numbers.NatToInt a to p q r s t u v row = tt
  other_of_one numbers.PosToInt a to p q r s t u v row = tt
  other_of_one numbers.Plus a to p q r s t u v row = no_row sig.sorts (rows.One (words.Number numbers.Plus) a to) refl row
  other_of_one numbers.Times a to p q r s t u v row = no_row sig.sorts (rows.One (words.Number numbers.Times) a to) refl row
  other_of_one numbers.Div a to p q r s t u v row = no_row sig.sorts (rows.One (words.Number numbers.Div) a to) refl row
  other_of_one numbers.Mod a to p q r s t u v row = no_row sig.sorts (rows.One (words.Number numbers.Mod) a to) refl row
  other_of_one numbers.Exp a to p q r s t u v row = no_row sig.sorts (rows.One (words.Number numbers.Exp) a to) refl row
  other_of_one numbers.Min a to p q r s t u v row = no_row sig.sorts (rows.One (words.Number numbers.Min) a to) refl row
  other_of_one numbers.Max a to p q r s t u v row = no_row sig.sorts (rows.One (words.Number numbers.Max) a to) refl row

  -- ---- lists
  pub other_of_one_list : (w : ListWord) (a to : SortId) → w ≢ lists.Size → w ≢ lists.Head → w ≢ lists.Rhead → w ≢ lists.Tail → w ≢ lists.Rtail → IsSignOf sig (rows.One (words.List w) a to) signs.Other
  other_of_one_list lists.Size a to p q r s t row = absurd (p refl)
  other_of_one_list lists.Head a to p q r s t row = absurd (q refl)
  other_of_one_list lists.Rhead a to p q r s t row = absurd (r refl)
  other_of_one_list lists.Tail a to p q r s t row = absurd (s refl)
  other_of_one_list lists.Rtail a to p q r s t row = absurd (t refl)
  other_of_one_list lists.Empty a to p q r s t row = no_row sig.sorts (rows.One (words.List lists.Empty) a to) refl row
  other_of_one_list lists.Cons a to p q r s t row = no_row sig.sorts (rows.One (words.List lists.Cons) a to) refl row
  other_of_one_list lists.Snoc a to p q r s t row = no_row sig.sorts (rows.One (words.List lists.Snoc) a to) refl row
  other_of_one_list lists.Concat a to p q r s t row = no_row sig.sorts (rows.One (words.List lists.Concat) a to) refl row
  other_of_one_list lists.At a to p q r s t row = no_row sig.sorts (rows.One (words.List lists.At) a to) refl row
  other_of_one_list lists.In a to p q r s t row = no_row sig.sorts (rows.One (words.List lists.In) a to) refl row

  pub other_of_two_lists : (w : ListWord) (a b to : SortId) → w ≢ lists.Cons → w ≢ lists.Snoc → w ≢ lists.Concat → w ≢ lists.At → w ≢ lists.In → IsSignOf sig (rows.Two (words.List w) a b to) signs.Other
  other_of_two_lists lists.Cons a b to p q r s t row = absurd (p refl)
  other_of_two_lists lists.Snoc a b to p q r s t row = absurd (q refl)
  other_of_two_lists lists.Concat a b to p q r s t row = absurd (r refl)
  other_of_two_lists lists.At a b to p q r s t row = absurd (s refl)
  other_of_two_lists lists.In a b to p q r s t row = absurd (t refl)
  other_of_two_lists lists.Empty a b to p q r s t row = no_row sig.sorts (rows.Two (words.List lists.Empty) a b to) refl row
  other_of_two_lists lists.Size a b to p q r s t row = no_row sig.sorts (rows.Two (words.List lists.Size) a b to) refl row
  other_of_two_lists lists.Head a b to p q r s t row = no_row sig.sorts (rows.Two (words.List lists.Head) a b to) refl row
  other_of_two_lists lists.Rhead a b to p q r s t row = no_row sig.sorts (rows.Two (words.List lists.Rhead) a b to) refl row
  other_of_two_lists lists.Tail a b to p q r s t row = no_row sig.sorts (rows.Two (words.List lists.Tail) a b to) refl row
  other_of_two_lists lists.Rtail a b to p q r s t row = no_row sig.sorts (rows.Two (words.List lists.Rtail) a b to) refl row

  -- ---- all words
  pub other_of_constants : (w : Word) (to : SortId) → w ≢ words.True → w ≢ words.False → IsSignOf sig (rows.Constant w to) signs.Other
  other_of_constants words.True to p q row = absurd (p refl)
  other_of_constants words.False to p q row = absurd (q refl)
  other_of_constants words.Not to p q row = no_row sig.sorts (rows.Constant words.Not to) refl row
  other_of_constants words.And to p q row = no_row sig.sorts (rows.Constant words.And to) refl row
  other_of_constants words.Or to p q row = no_row sig.sorts (rows.Constant words.Or to) refl row
  other_of_constants words.Implies to p q row = no_row sig.sorts (rows.Constant words.Implies to) refl row
  other_of_constants words.Equal to p q row = no_row sig.sorts (rows.Constant words.Equal to) refl row
  other_of_constants words.Different to p q row = no_row sig.sorts (rows.Constant words.Different to) refl row
  other_of_constants words.If to p q row = no_row sig.sorts (rows.Constant words.If to) refl row
  other_of_constants words.Less to p q row = no_row sig.sorts (rows.Constant words.Less to) refl row
  other_of_constants words.AtMost to p q row = no_row sig.sorts (rows.Constant words.AtMost to) refl row
  other_of_constants words.Greater to p q row = no_row sig.sorts (rows.Constant words.Greater to) refl row
  other_of_constants words.AtLeast to p q row = no_row sig.sorts (rows.Constant words.AtLeast to) refl row
  other_of_constants (words.Number w) to p q row = no_row sig.sorts (rows.Constant (words.Number w) to) refl row
  other_of_constants (words.List w) to p q row = no_row sig.sorts (rows.Constant (words.List w) to) refl row

  pub other_of_list_constants : (w : Word) (to : SortId) (s : Sign) → ((v : ListWord) → w ≢ words.List v) → IsSignOf sig (rows.ListConstant w to) s
  other_of_list_constants words.True to s p row = no_row sig.sorts (rows.ListConstant words.True to) refl row
  other_of_list_constants words.False to s p row = no_row sig.sorts (rows.ListConstant words.False to) refl row
  other_of_list_constants words.Not to s p row = no_row sig.sorts (rows.ListConstant words.Not to) refl row
  other_of_list_constants words.And to s p row = no_row sig.sorts (rows.ListConstant words.And to) refl row
  other_of_list_constants words.Or to s p row = no_row sig.sorts (rows.ListConstant words.Or to) refl row
  other_of_list_constants words.Implies to s p row = no_row sig.sorts (rows.ListConstant words.Implies to) refl row
  other_of_list_constants words.Equal to s p row = no_row sig.sorts (rows.ListConstant words.Equal to) refl row
  other_of_list_constants words.Different to s p row = no_row sig.sorts (rows.ListConstant words.Different to) refl row
  other_of_list_constants words.If to s p row = no_row sig.sorts (rows.ListConstant words.If to) refl row
  other_of_list_constants words.Less to s p row = no_row sig.sorts (rows.ListConstant words.Less to) refl row
  other_of_list_constants words.AtMost to s p row = no_row sig.sorts (rows.ListConstant words.AtMost to) refl row
  other_of_list_constants words.Greater to s p row = no_row sig.sorts (rows.ListConstant words.Greater to) refl row
  other_of_list_constants words.AtLeast to s p row = no_row sig.sorts (rows.ListConstant words.AtLeast to) refl row
  other_of_list_constants (words.Number w) to s p row = no_row sig.sorts (rows.ListConstant (words.Number w) to) refl row
  other_of_list_constants (words.List v) to s p row = absurd (p v refl)

  pub no_constant_of_lists : (w : Word) (v : ListWord) → w ≡ words.List v → (to : SortId) (s : Sign) → IsSignOf sig (rows.Constant w to) s
  no_constant_of_lists w v q to s = subst (λ (x : Word). IsSignOf sig (rows.Constant x to) s) (sym q) (λ row. no_row sig.sorts (rows.Constant (words.List v) to) refl row)

  -- a word of numbers and a word of lists
  pub by_number_word : (w : Word) (v : NumberWord) → w ≡ words.Number v → (a to : SortId) (s : Sign) → IsSignOf sig (rows.One (words.Number v) a to) s → IsSignOf sig (rows.One w a to) s
  by_number_word w v q a to s h = subst (λ (x : Word). IsSignOf sig (rows.One x a to) s) (sym q) h

  pub by_list_word : (w : Word) (v : ListWord) → w ≡ words.List v → (a to : SortId) (s : Sign) → IsSignOf sig (rows.One (words.List v) a to) s → IsSignOf sig (rows.One w a to) s
  by_list_word w v q a to s h = subst (λ (x : Word). IsSignOf sig (rows.One x a to) s) (sym q) h

  pub other_of_one_word : (w : Word) (a to : SortId) → w ≢ words.Not → ((v : NumberWord) → w ≢ words.Number v) → ((v : ListWord) → w ≢ words.List v) → IsSignOf sig (rows.One w a to) signs.Other
  other_of_one_word words.True a to p q r row = no_row sig.sorts (rows.One words.True a to) refl row
  other_of_one_word words.False a to p q r row = no_row sig.sorts (rows.One words.False a to) refl row
  other_of_one_word words.Not a to p q r row = absurd (p refl)
  other_of_one_word words.And a to p q r row = no_row sig.sorts (rows.One words.And a to) refl row
  other_of_one_word words.Or a to p q r row = no_row sig.sorts (rows.One words.Or a to) refl row
  other_of_one_word words.Implies a to p q r row = no_row sig.sorts (rows.One words.Implies a to) refl row
  other_of_one_word words.Equal a to p q r row = no_row sig.sorts (rows.One words.Equal a to) refl row
  other_of_one_word words.Different a to p q r row = no_row sig.sorts (rows.One words.Different a to) refl row
  other_of_one_word words.If a to p q r row = no_row sig.sorts (rows.One words.If a to) refl row
  other_of_one_word words.Less a to p q r row = no_row sig.sorts (rows.One words.Less a to) refl row
  other_of_one_word words.AtMost a to p q r row = no_row sig.sorts (rows.One words.AtMost a to) refl row
  other_of_one_word words.Greater a to p q r row = no_row sig.sorts (rows.One words.Greater a to) refl row
  other_of_one_word words.AtLeast a to p q r row = no_row sig.sorts (rows.One words.AtLeast a to) refl row
  other_of_one_word (words.Number v) a to p q r row = absurd (q v refl)
  other_of_one_word (words.List v) a to p q r row = absurd (r v refl)

  -- ---- list sorts
  module _ (table : IsTable sig) where
    pub over_its_element : (r : Row) (l e : SortId) → IsRow sig.sorts r → list_place r ≡ Some l → ((x : SortId) → IsListOver sig.sorts x l → e ≡ x) → IsListOver sig.sorts e l × (element_of (sort_under sig l) ≡ sort_under sig e)
    over_its_element r l e row at is =
        let o = over_a_list sig.sorts r l row at in
        let same : o.0 ≡ e = sym (is o.0 o.1) in
        let here = subst (λ (x : SortId). IsListOver sig.sorts x l) same o.1 in
        (here, ap element_of (list_is sig table e l here))

    pub element_in : (e l : SortId) → IsListOver sig.sorts e l → e.0 < length sig.sorts
    element_in e l o = let b = table.sorts.behind_element e l o in let w = slice_get_within sig.sorts l.0 o.0 o.1 in omega (arith, b, w)

    -- the parts of signs that are elements of list sorts
    pub sized : (w : ListWord) → w ≡ lists.Size → (a to e : SortId) → ((x : SortId) → IsListOver sig.sorts x a → e ≡ x) → IsSignOf sig (rows.One (words.List w) a to) (signs.Size e)
    sized w q a to e is = subst (λ (x : ListWord). IsSignOf sig (rows.One (words.List x) a to) (signs.Size e)) (sym q) (λ row.
        let o = over_its_element (rows.One (words.List lists.Size) a to) a e row refl is in
        (sort_under sig e, sort_itself e (element_in e a o.0), ap terms.size o.1))

    pub tailed : (w : ListWord) → w ≡ lists.Tail → (a to e : SortId) → ((x : SortId) → IsListOver sig.sorts x to → e ≡ x) → IsSignOf sig (rows.One (words.List w) a to) (signs.Tail e)
    tailed w q a to e is = subst (λ (x : ListWord). IsSignOf sig (rows.One (words.List x) a to) (signs.Tail e)) (sym q) (λ row.
        let o = over_its_element (rows.One (words.List lists.Tail) a to) to e row refl is in
        (sort_under sig e, sort_itself e (element_in e to o.0), ap terms.tail o.1))

    pub rtailed : (w : ListWord) → w ≡ lists.Rtail → (a to e : SortId) → ((x : SortId) → IsListOver sig.sorts x to → e ≡ x) → IsSignOf sig (rows.One (words.List w) a to) (signs.Rtail e)
    rtailed w q a to e is = subst (λ (x : ListWord). IsSignOf sig (rows.One (words.List x) a to) (signs.Rtail e)) (sym q) (λ row.
        let o = over_its_element (rows.One (words.List lists.Rtail) a to) to e row refl is in
        (sort_under sig e, sort_itself e (element_in e to o.0), ap terms.rtail o.1))

    pub emptied : (w : Word) (v : ListWord) → w ≡ words.List v → (to e : SortId) → ((x : SortId) → IsListOver sig.sorts x to → e ≡ x) → IsSignOf sig (rows.ListConstant w to) (signs.Empty e)
    emptied w v q to e is = subst (λ (x : Word). IsSignOf sig (rows.ListConstant x to) (signs.Empty e)) (sym q) (by_word v)
      where
        by_word : (v : ListWord) → IsSignOf sig (rows.ListConstant (words.List v) to) (signs.Empty e)
        by_word lists.Empty row =
            let o = over_its_element (rows.ListConstant (words.List lists.Empty) to) to e row refl is in
            (sort_under sig e, sort_itself e (element_in e to o.0), ap terms.empty o.1)
        by_word lists.Cons row = no_row sig.sorts (rows.ListConstant (words.List lists.Cons) to) refl row
        by_word lists.Snoc row = no_row sig.sorts (rows.ListConstant (words.List lists.Snoc) to) refl row
        by_word lists.Concat row = no_row sig.sorts (rows.ListConstant (words.List lists.Concat) to) refl row
        by_word lists.Size row = no_row sig.sorts (rows.ListConstant (words.List lists.Size) to) refl row
        by_word lists.At row = no_row sig.sorts (rows.ListConstant (words.List lists.At) to) refl row
        by_word lists.Head row = no_row sig.sorts (rows.ListConstant (words.List lists.Head) to) refl row
        by_word lists.Rhead row = no_row sig.sorts (rows.ListConstant (words.List lists.Rhead) to) refl row
        by_word lists.Tail row = no_row sig.sorts (rows.ListConstant (words.List lists.Tail) to) refl row
        by_word lists.Rtail row = no_row sig.sorts (rows.ListConstant (words.List lists.Rtail) to) refl row
        by_word lists.In row = no_row sig.sorts (rows.ListConstant (words.List lists.In) to) refl row

    pub joined : (w : ListWord) → w ≡ lists.Concat → (a b to e : SortId) → ((x : SortId) → IsListOver sig.sorts x to → e ≡ x) → IsSignOf sig (rows.Two (words.List w) a b to) (signs.Concat e)
    joined w q a b to e is = subst (λ (x : ListWord). IsSignOf sig (rows.Two (words.List x) a b to) (signs.Concat e)) (sym q) (λ row.
        let o = over_its_element (rows.Two (words.List lists.Concat) a b to) to e row refl is in
        (sort_under sig e, sort_itself e (element_in e to o.0), ap terms.concatenation o.1))

    pub linked : (w : ListWord) → w ≡ lists.Cons → (a b to : SortId) → IsSignOf sig (rows.Two (words.List w) a b to) (signs.Cons a)
    linked w q a b to = subst (λ (x : ListWord). IsSignOf sig (rows.Two (words.List x) a b to) (signs.Cons a)) (sym q) (λ row.
        let o = over_a_list sig.sorts (rows.Two (words.List lists.Cons) a b to) to row refl in
        let here = subst (λ (x : SortId). IsListOver sig.sorts x to) (o.2 a refl) o.1 in
        (sort_under sig a, sort_itself a (element_in a to here), ap terms.cons (ap element_of (list_is sig table a to here))))

    pub snoc_list : (w : ListWord) → w ≡ lists.Snoc → (a b to : SortId) → IsRow sig.sorts (rows.Two (words.List w) a b to) → IsListOver sig.sorts b to
    snoc_list w q a b to row =
        let o = over_a_list sig.sorts (rows.Two (words.List lists.Snoc) a b to) to (subst (λ (x : ListWord). IsRow sig.sorts (rows.Two (words.List x) a b to)) q row) refl in
        subst (λ (x : SortId). IsListOver sig.sorts x to) (o.2 b refl) o.1

    pub put_last : (w : ListWord) → w ≡ lists.Snoc → (a b to : SortId) (f : FunId) → IsRow sig.sorts (rows.Two (words.List w) a b to) → IsSymbolOf sig f (terms.cons (sort_under sig b)) → HasSign sig (symbol_of_row sig (rows.Two (words.List w) a b to)) (signs.Snoc b f)
    put_last w q a b to f row is =
        let here = snoc_list w q a b to row in
        subst (λ (x : ListWord). HasSign sig (symbol_of_row sig (rows.Two (words.List x) a b to)) (signs.Snoc b f)) (sym q)
        (sort_under sig b, sort_itself b (element_in b to here), ap terms.snoc (ap element_of (list_is sig table b to here)), is)

  -- ---- signs that ask for the sorts alone
  pub headed : (w : ListWord) → w ≡ lists.Head → (a to : SortId) → to.0 < length sig.sorts → HasSign sig (symbol_of_row sig (rows.One (words.List w) a to)) (signs.Head to)
  headed w q a to l = (sort_under sig to, sort_itself to l, ap (λ (x : ListWord). list_symbol x (sort_under sig a ∷ []) (sort_under sig to)) q)

  pub rheaded : (w : ListWord) → w ≡ lists.Rhead → (a to : SortId) → to.0 < length sig.sorts → HasSign sig (symbol_of_row sig (rows.One (words.List w) a to)) (signs.Rhead to)
  rheaded w q a to l = (sort_under sig to, sort_itself to l, ap (λ (x : ListWord). list_symbol x (sort_under sig a ∷ []) (sort_under sig to)) q)

  pub placed : (w : ListWord) → w ≡ lists.At → (a b to : SortId) → to.0 < length sig.sorts → HasSign sig (symbol_of_row sig (rows.Two (words.List w) a b to)) (signs.At to)
  placed w q a b to l = (sort_under sig to, sort_itself to l, ap (λ (x : ListWord). list_symbol x (sort_under sig a ∷ sort_under sig b ∷ []) (sort_under sig to)) q)

  pub inside : (w : ListWord) → w ≡ lists.In → (a b to : SortId) (f : FunId) → a.0 < length sig.sorts → IsSymbolOf sig f (terms.equality (sort_under sig a)) → HasSign sig (symbol_of_row sig (rows.Two (words.List w) a b to)) (signs.In a f)
  inside w q a b to f l is = (sort_under sig a, sort_itself a l, ap (λ (x : ListWord). list_symbol x (sort_under sig a ∷ sort_under sig b ∷ []) (sort_under sig to)) q, is)

  pub symbol_of_word : (w v : Word) → w ≡ v → (ss : List Sort) (to : Sort) → word_symbol w ss to ≡ word_symbol v ss to
  symbol_of_word w v q ss to = ap (λ (x : Word). word_symbol x ss to) q

  pub compared : (w v : Word) → w ≡ v → (c : Comparison) → ((a b d : Sort) → word_symbol v (a ∷ b ∷ []) d ≡ terms.comparison (comparison_of c) a) → (a b to : SortId) → a.0 < length sig.sorts → HasSign sig (symbol_of_row sig (rows.Two w a b to)) (signs.Compare c a)
  compared w v q c is a b to l = (sort_under sig a, sort_itself a l, symbol_of_word w v q (sort_under sig a ∷ sort_under sig b ∷ []) (sort_under sig to) ∙ is (sort_under sig a) (sort_under sig b) (sort_under sig to))

  pub other_of_two_words : (w : Word) (a b to : SortId) → w ≢ words.And → w ≢ words.Or → w ≢ words.Implies → w ≢ words.Equal → w ≢ words.Different → w ≢ words.Less → w ≢ words.AtMost → w ≢ words.Greater → w ≢ words.AtLeast → ((v : NumberWord) → w ≢ words.Number v) → ((v : ListWord) → w ≢ words.List v) → IsSignOf sig (rows.Two w a b to) signs.Other
  other_of_two_words words.True a b to p1 p2 p3 p4 p5 p6 p7 p8 p9 q r row = no_row sig.sorts (rows.Two words.True a b to) refl row
  other_of_two_words words.False a b to p1 p2 p3 p4 p5 p6 p7 p8 p9 q r row = no_row sig.sorts (rows.Two words.False a b to) refl row
  other_of_two_words words.Not a b to p1 p2 p3 p4 p5 p6 p7 p8 p9 q r row = no_row sig.sorts (rows.Two words.Not a b to) refl row
  other_of_two_words words.If a b to p1 p2 p3 p4 p5 p6 p7 p8 p9 q r row = no_row sig.sorts (rows.Two words.If a b to) refl row
  other_of_two_words words.And a b to p1 p2 p3 p4 p5 p6 p7 p8 p9 q r row = absurd (p1 refl)
  other_of_two_words words.Or a b to p1 p2 p3 p4 p5 p6 p7 p8 p9 q r row = absurd (p2 refl)
  other_of_two_words words.Implies a b to p1 p2 p3 p4 p5 p6 p7 p8 p9 q r row = absurd (p3 refl)
  other_of_two_words words.Equal a b to p1 p2 p3 p4 p5 p6 p7 p8 p9 q r row = absurd (p4 refl)
  other_of_two_words words.Different a b to p1 p2 p3 p4 p5 p6 p7 p8 p9 q r row = absurd (p5 refl)
  other_of_two_words words.Less a b to p1 p2 p3 p4 p5 p6 p7 p8 p9 q r row = absurd (p6 refl)
  other_of_two_words words.AtMost a b to p1 p2 p3 p4 p5 p6 p7 p8 p9 q r row = absurd (p7 refl)
  other_of_two_words words.Greater a b to p1 p2 p3 p4 p5 p6 p7 p8 p9 q r row = absurd (p8 refl)
  other_of_two_words words.AtLeast a b to p1 p2 p3 p4 p5 p6 p7 p8 p9 q r row = absurd (p9 refl)
  other_of_two_words (words.Number v) a b to p1 p2 p3 p4 p5 p6 p7 p8 p9 q r row = absurd (q v refl)
  other_of_two_words (words.List v) a b to p1 p2 p3 p4 p5 p6 p7 p8 p9 q r row = absurd (r v refl)

  -- ---- what the equality of a sort looks at
  module _ (table : IsTable sig) (s : SortId) where
    pub kind_at : (k : SortKind) → s.0 < length sig.sorts → IfSome (slice_get sig.sorts s.0) (λ (i : SortInfo). i.kind ≡ kind_of k) → (i : SortInfo) × (slice_get sig.sorts s.0 ≡ Some i) × (i.kind ≡ kind_of k)
    kind_at k l h = let r = read_within sig.sorts s.0 l in (r.0, r.1, subst (λ (o : Option SortInfo). IfSome o (λ (i : SortInfo). i.kind ≡ kind_of k)) r.1 h)

    abbrev d : ℕ
    d = length (constructions (take s.0 sig.sorts))

    meant : (i : SortInfo) (k : Kind) → slice_get sig.sorts s.0 ≡ Some i → i.kind ≡ k → sort_under sig s ≡ meaning_of (sort_under sig) d k
    meant i k at is = read_sort sig table s i at ∙ ap (meaning_of (sort_under sig) d) is

    built : (i : SortInfo) (k : Kind) (c : Construction) → slice_get sig.sorts s.0 ≡ Some i → i.kind ≡ k → construction_of k ≡ c ∷ [] → sort_at (data_meant sig) d ≡ c
    built i k c at is made = declared_sorts_stand_in_the_data sig s i c at (ap construction_of is ∙ made)

    pub looks_at_bool : (k : SortKind) → k ≡ BoolKind → s.0 < length sig.sorts → IfSome (slice_get sig.sorts s.0) (λ (i : SortInfo). i.kind ≡ kind_of k) → LooksAt sig equals.Bool (sort_under sig s)
    looks_at_bool k q l h = let i = kind_at k l h in meant i.0 booleans i.1 (i.2 ∙ ap kind_of q)

    pub list_over : (k : SortKind) (e : SortId) → k ≡ ListKind e → s.0 < length sig.sorts → IfSome (slice_get sig.sorts s.0) (λ (i : SortInfo). i.kind ≡ kind_of k) → IsListOver sig.sorts e s
    list_over k e q l h = let i = kind_at k l h in (i.0, i.1, i.2 ∙ ap kind_of q)

    pub looks_at_list : (e : SortId) (f : FunId) → IsListOver sig.sorts e s → IsSymbolOf sig f (terms.equality (sort_under sig e)) → LooksAt sig (equals.List e f) (sort_under sig s)
    looks_at_list e f o is = (sort_under sig e, sort_itself e (element_in table e s o), list_is sig table e s o, is)

    pub looks_at_struct : (k : SortKind) (v : Vec FunId Global) → k ≡ StructKind v → s.0 < length sig.sorts → IfSome (slice_get sig.sorts s.0) (λ (i : SortInfo). i.kind ≡ kind_of k) → LooksAt sig equals.Struct (sort_under sig s)
    looks_at_struct k v q l h =
        let i = kind_at k l h in
        (d, meant i.0 (sorts.structured v.items) i.1 (i.2 ∙ ap kind_of q), built i.0 (sorts.structured v.items) theory.structured i.1 (i.2 ∙ ap kind_of q) refl)

    abbrev number_of : Sort → ℕ
    number_of (terms.named n) = n
    number_of a = 0

    not_structured : (c : Construction) → c ≢ theory.structured → (n : ℕ) → sort_under sig s ≡ terms.named d → sort_at (data_meant sig) d ≡ c → sort_under sig s ≡ terms.named n → sort_at (data_meant sig) n ≡ theory.structured → ⊥
    not_structured c other n is at e made =
        let same : d ≡ n = ap number_of (sym is ∙ e) in
        other (sym at ∙ ap (sort_at (data_meant sig)) same ∙ made)

    pub looks_at_other : (k : SortKind) → k ≢ BoolKind → ((e : SortId) → k ≢ ListKind e) → ((v : Vec FunId Global) → k ≢ StructKind v) → s.0 < length sig.sorts → IfSome (slice_get sig.sorts s.0) (λ (i : SortInfo). i.kind ≡ kind_of k) → LooksAt sig equals.Other (sort_under sig s)
    looks_at_other BoolKind a b c l h = absurd (a refl)
    looks_at_other (ListKind e) a b c l h = absurd (b e refl)
    looks_at_other (StructKind v) a b c l h = absurd (c v refl)
    looks_at_other PosKind a b c l h = let i = kind_at PosKind l h in let is = meant i.0 positives i.1 i.2 in
        ((λ e. let z : terms.positive ≡ terms.boolean = sym is ∙ e in cc), (λ x e. let z : terms.positive ≡ list x = sym is ∙ e in cc), (λ n e made. let z : terms.positive ≡ terms.named n = sym is ∙ e in cc))
    looks_at_other NatKind a b c l h = let i = kind_at NatKind l h in let is = meant i.0 naturals i.1 i.2 in
        ((λ e. let z : terms.natural ≡ terms.boolean = sym is ∙ e in cc), (λ x e. let z : terms.natural ≡ list x = sym is ∙ e in cc), (λ n e made. let z : terms.natural ≡ terms.named n = sym is ∙ e in cc))
    looks_at_other IntKind a b c l h = let i = kind_at IntKind l h in let is = meant i.0 integers i.1 i.2 in
        ((λ e. let z : terms.integer ≡ terms.boolean = sym is ∙ e in cc), (λ x e. let z : terms.integer ≡ list x = sym is ∙ e in cc), (λ n e made. let z : terms.integer ≡ terms.named n = sym is ∙ e in cc))
    looks_at_other AbstractKind a b c l h = let i = kind_at AbstractKind l h in let is = meant i.0 sorts.without_constructors i.1 i.2 in let at = built i.0 sorts.without_constructors theory.without_constructors i.1 i.2 refl in
        ((λ e. let z : terms.named d ≡ terms.boolean = sym is ∙ e in cc), (λ x e. let z : terms.named d ≡ list x = sym is ∙ e in cc), (λ n e made. not_structured theory.without_constructors (λ z. let y : theory.without_constructors ≡ theory.structured = z in cc) n is at e made))
    looks_at_other (ConsKind v) a b c l h = let i = kind_at (ConsKind v) l h in let is = meant i.0 (sorts.by_declarations v.items) i.1 i.2 in let at = built i.0 (sorts.by_declarations v.items) theory.by_declarations i.1 i.2 refl in
        ((λ e. let z : terms.named d ≡ terms.boolean = sym is ∙ e in cc), (λ x e. let z : terms.named d ≡ list x = sym is ∙ e in cc), (λ n e made. not_structured theory.by_declarations (λ z. let y : theory.by_declarations ≡ theory.structured = z in cc) n is at e made))

-- ---- functions that are found
pub row_found : (sig : Sig) (r : Row) → RowStands sig r → (o : Option FunId) → MatchOption o ((k : ℕ) → IsFun sig (row_text r) (row_sorts r) k → ⊥) (λ f. IsFun sig (row_text r) (row_sorts r) f.0) → IsSome o
row_found sig r stands None h = absurd (h stands.0 stands.1.found)
row_found sig r stands (Some f) h = refl

pub found_means : (sig : Sig) (r : Row) → RowStands sig r → (o : Option FunId) → MatchOption o ((k : ℕ) → IsFun sig (row_text r) (row_sorts r) k → ⊥) (λ f. IsFun sig (row_text r) (row_sorts r) f.0) → (f : FunId) → o ≡ Some f → IsSymbolOf sig f (symbol_of_row sig r)
found_means sig r stands None h f e = absurd cc
found_means sig r stands (Some g) h f e =
    let same : g ≡ f = cc in
    let at : f.0 ≡ stands.0 = subst (λ (x : FunId). x.0 ≡ stands.0) same (stands.1.alone g.0 h) in
    let is : record { 0 = stands.0 } ≡ f = ap (λ (n : ℕ). record { 0 = n }) (sym at) in
    subst (λ (x : FunId). IsSymbolOf sig x (symbol_of_row sig r)) is (record { inside = slice_get_within sig.functions stands.0 _ stands.1.stands; is = stands.1.means })

pub equality_stands : (sig : Sig) → IsSignature sig → (s : SortId) → s.0 < length sig.sorts → RowStands sig (rows.Two words.Equal s s bool_sort)
unfolding sort_rows
equality_stands sig stands s l = functions_over_sorts_stand sig stands s l (rows.Two words.Equal s s bool_sort) (0, omega arith, refl)

pub cons_stands : (sig : Sig) → IsSignature sig → (e l : SortId) → IsListOver sig.sorts e l → RowStands sig (rows.Two (words.List lists.Cons) e l l)
unfolding list_rows
cons_stands sig stands e l o = functions_over_lists_stand sig stands e l o (rows.Two (words.List lists.Cons) e l l) (1, omega arith, refl)

pub cons_means : (sig : Sig) → IsSignature sig → (e l : SortId) → IsListOver sig.sorts e l → (f : FunId) → IsSymbolOf sig f (symbol_of_row sig (rows.Two (words.List lists.Cons) e l l)) → IsSymbolOf sig f (terms.cons (sort_under sig e))
cons_means sig stands e l o f is = record { inside = is.inside; is = is.is ∙ ap terms.cons (ap element_of (list_is sig stands.table e l o)) }

-- ---- rows by their arguments
pub of_none : (r : Row) (w : Word) (args : List SortId) (to : SortId) → IsOfRow r w args to → length args ≡ 0 → (r ≡ rows.Constant w to) ⊎ (r ≡ rows.ListConstant w to)
of_none (rows.Constant v s) w args to is n = inl (λ i. rows.Constant (is.word i) (is.result i))
of_none (rows.ListConstant v s) w args to is n = inr (λ i. rows.ListConstant (is.word i) (is.result i))
of_none (rows.One v a s) w args to is n = let l = ap length is.arguments in absurd (omega (arith, l, n))
of_none (rows.Two v a b s) w args to is n = let l = ap length is.arguments in absurd (omega (arith, l, n))
of_none (rows.Three v a b c s) w args to is n = let l = ap length is.arguments in absurd (omega (arith, l, n))

pub of_one : (r : Row) (w : Word) (args : List SortId) (to a : SortId) → IsOfRow r w args to → length args ≡ 1 → a ≡ get_or args 0 a → r ≡ rows.One w a to
of_one (rows.Constant v s) w args to a is n e = let l = ap length is.arguments in absurd (omega (arith, l, n))
of_one (rows.ListConstant v s) w args to a is n e = let l = ap length is.arguments in absurd (omega (arith, l, n))
of_one (rows.One v b s) w args to a is n e =
    let same : b ≡ a = sym (e ∙ ap (λ (l : List SortId). get_or l 0 a) (sym is.arguments)) in
    λ i. rows.One (is.word i) (same i) (is.result i)
of_one (rows.Two v b c s) w args to a is n e = let l = ap length is.arguments in absurd (omega (arith, l, n))
of_one (rows.Three v b c d s) w args to a is n e = let l = ap length is.arguments in absurd (omega (arith, l, n))

pub of_two : (r : Row) (w : Word) (args : List SortId) (to a b : SortId) → IsOfRow r w args to → length args ≡ 2 → a ≡ get_or args 0 a → b ≡ get_or args 1 b → r ≡ rows.Two w a b to
of_two (rows.Constant v s) w args to a b is n e f = let l = ap length is.arguments in absurd (omega (arith, l, n))
of_two (rows.ListConstant v s) w args to a b is n e f = let l = ap length is.arguments in absurd (omega (arith, l, n))
of_two (rows.One v c s) w args to a b is n e f = let l = ap length is.arguments in absurd (omega (arith, l, n))
of_two (rows.Two v c d s) w args to a b is n e f =
    let same : c ≡ a = sym (e ∙ ap (λ (l : List SortId). get_or l 0 a) (sym is.arguments)) in
    let too : d ≡ b = sym (f ∙ ap (λ (l : List SortId). get_or l 1 b) (sym is.arguments)) in
    λ i. rows.Two (is.word i) (same i) (too i) (is.result i)
of_two (rows.Three v c d g s) w args to a b is n e f = let l = ap length is.arguments in absurd (omega (arith, l, n))

if_of_three : (sig : Sig) (w : Word) (a b c to : SortId) → IsSignOf sig (rows.Three w a b c to) signs.If
if_of_three sig words.If a b c to row = (sort_under sig to, refl)
if_of_three sig words.True a b c to row = no_row sig.sorts (rows.Three words.True a b c to) refl row
if_of_three sig words.False a b c to row = no_row sig.sorts (rows.Three words.False a b c to) refl row
if_of_three sig words.Not a b c to row = no_row sig.sorts (rows.Three words.Not a b c to) refl row
if_of_three sig words.And a b c to row = no_row sig.sorts (rows.Three words.And a b c to) refl row
if_of_three sig words.Or a b c to row = no_row sig.sorts (rows.Three words.Or a b c to) refl row
if_of_three sig words.Implies a b c to row = no_row sig.sorts (rows.Three words.Implies a b c to) refl row
if_of_three sig words.Equal a b c to row = no_row sig.sorts (rows.Three words.Equal a b c to) refl row
if_of_three sig words.Different a b c to row = no_row sig.sorts (rows.Three words.Different a b c to) refl row
if_of_three sig words.Less a b c to row = no_row sig.sorts (rows.Three words.Less a b c to) refl row
if_of_three sig words.AtMost a b c to row = no_row sig.sorts (rows.Three words.AtMost a b c to) refl row
if_of_three sig words.Greater a b c to row = no_row sig.sorts (rows.Three words.Greater a b c to) refl row
if_of_three sig words.AtLeast a b c to row = no_row sig.sorts (rows.Three words.AtLeast a b c to) refl row
if_of_three sig (words.Number w) a b c to row = no_row sig.sorts (rows.Three (words.Number w) a b c to) refl row
if_of_three sig (words.List w) a b c to row = no_row sig.sorts (rows.Three (words.List w) a b c to) refl row

-- a row without arguments, by what both kinds have
pub sign_of_none : (sig : Sig) (r : Row) (w : Word) (args : List SortId) (to : SortId) (s : Sign) → IsSignOf sig (rows.Constant w to) s → IsSignOf sig (rows.ListConstant w to) s → length args ≡ 0 → IsRow sig.sorts r → IsOfRow r w args to → HasSign sig (symbol_of_row sig r) s
sign_of_none sig r w args to s a b n row is = elim (of_none r w args to is n) [
  | inl e ↦ subst (λ (x : Row). IsSignOf sig x s) (sym e) a row
  | inr e ↦ subst (λ (x : Row). IsSignOf sig x s) (sym e) b row
]

pub sign_of_row : (sig : Sig) (r q : Row) (s : Sign) → r ≡ q → IsSignOf sig q s → IsRow sig.sorts r → HasSign sig (symbol_of_row sig r) s
sign_of_row sig r q s e h row = subst (λ (x : Row). IsSignOf sig x s) (sym e) h row

pub if_of_more : (sig : Sig) (r : Row) (w : Word) (args : List SortId) (to : SortId) → IsOfRow r w args to → length args ≢ 0 → length args ≢ 1 → length args ≢ 2 → IsSignOf sig r signs.If
if_of_more sig (rows.Constant v s) w args to is x y z row = absurd (x (ap length (sym is.arguments)))
if_of_more sig (rows.ListConstant v s) w args to is x y z row = absurd (x (ap length (sym is.arguments)))
if_of_more sig (rows.One v a s) w args to is x y z row = absurd (y (ap length (sym is.arguments)))
if_of_more sig (rows.Two v a b s) w args to is x y z row = absurd (z (ap length (sym is.arguments)))
if_of_more sig (rows.Three v a b c s) w args to is x y z row = if_of_three sig v a b c s row
