-- Declared functions are told apart by their names and the sorts of their arguments, from one another and from the built-in ones.
use Rattle.std.proofs.Common.{◌≡◌, ◌+◌, ◌<◌, ◌==◌, ℕ, zero, suc, Bool, true, false, cond, ⊎_elim, List, [], ◌∷◌, ◌++◌, length, map, take, get_or, Option, Some, None, refl, sym, ap, ◌∙◌, subst, arith}
use Rattle.std.specs.Prelude.{slice_get, option_map, bytes_eq, nat_lt}
use Rattle.std.specs.List.{All, Contains, filter, list_all}
use Rattle.std.proofs.lemmas.Bool.{and_parts}
use Rattle.std.proofs.lemmas.Bool.Decides.{Decides-eqb, Decides-ltb}
use Rattle.std.proofs.lemmas.List.{length-map}
use Rattle.std.proofs.lemmas.List.Elements.{All-head, All-tail}
use Rattle.std.proofs.lemmas.Option.{none-some, same_Some, slice_get_within, slice_get-map, slice_get-get_or, get_or_from_slice_get}
use Rattle.std.proofs.lemmas.Slice.Eq.{bytes_eq-Decides}
use Rattle.data_theory.specs.declared.ids.FunId.{FunId}
use Rattle.data_theory.specs.declared.ids.NameId.{NameId}
use Rattle.data_theory.specs.declared.ids.SortId.{SortId}
use Rattle.data_theory.specs.declared.rows.Row.{Row}
use Rattle.data_theory.specs.declared.rows.Row.TheVariants as rows
use Rattle.data_theory.specs.declared.words.ListWord.TheVariants as lists
use Rattle.data_theory.specs.declared.words.Word.{Word}
use Rattle.data_theory.specs.declared.words.Word.TheVariants as words
use Rattle.data_theory.specs.Words.{text_of}
use Rattle.data_theory.specs.Terms.{Sort, boolean, natural, list, Symbol, truth, falsity, negation, conjunction, disjunction, implication, equality, inequality, conditional, comparison, arithmetic, minus, upcast, empty, cons, snoc, concatenation, size, element_at, head, rhead, tail, rtail, membership, function}
use Rattle.data_theory.specs.Declarations.{Data, function_at, argument_sorts}
use Rattle.data_theory.specs.Functions.{Function, key_of}
use Rattle.data_theory.specs.Sorts as kinds
use Rattle.data_theory.specs.Complete.{IsFunctionWithin}
use Rattle.data_theory.specs.Rows.{row_word, row_text, row_sorts, row_result, built_in as function_of_row}
use Rattle.data_theory.specs.Table.{bool_sort, nat_sort, language_table, truth_rows, sort_rows, comparison_rows, sum_rows, first_rows, quotient_rows, extreme_rows, step_rows, list_rows}
use Rattle.data_theory.specs.RowsOfWords.{has_name}
use Rattle.data_theory.specs.Signature.{Sig, IsFun}
use Rattle.data_theory.specs.IdTables.{IsEntry, declared, built_in}
use Rattle.data_theory.specs.IdData.{data_meant, function_meant}
use Rattle.data_theory.specs.IdSorts.{constructions, meaning_of}
use Rattle.data_theory.specs.IdSymbols.{if_declared, declared_from}
use Rattle.data_theory.specs.IdTerms.{sort_under, symbol_under}
use Rattle.data_theory.specs.NamedFunctions.{named_from, functions_named}
use Rattle.data_theory.specs.WholeSignatures.{IsSignature}
use Rattle.data_theory.proofs.PlaceLemmas.{contains_read}
use Rattle.data_theory.proofs.IdSortLemmas.{same_meant_sort, sorts_mean_their_kinds, read_within}
use Rattle.data_theory.proofs.IdSymbolLemmas.{holds_at, boolean_is, positive_is, natural_is, integer_is, positive_within, natural_within, integer_within, symbol_fits, listed_functions_mean_their_places}
use Rattle.data_theory.proofs.IdDataLemmas.{declared_found}
use Rattle.term_pool.proofs.Lists.{contains_none, contains_cons, contains_head, contains_tail, contained_from_map}
use Rattle.sort_table.specs.Duplicates.{any_sort, lists_of_any}
use Rattle.sort_table.specs.Expressions.{Name}
use Rattle.sort_table.specs.NamedLists.{all_named}
use Rattle.sort_table.specs.SignatureVocabularies.{text_under, function_name_of, function_names_from, vocabulary_of}
use Rattle.data_typing.specs.BuiltIns.{place_numbered, hangs, is_settled, row_signature, row_scheme, named_rows, built_ins, scheme_named}
use Rattle.data_typing.specs.BuiltIns as tables
use Rattle.data_typing.specs.FoundRows.{IsFoundRow}
use Rattle.data_typing.specs.Meanings.{declared_signature, signatures_named}
use Rattle.data_typing.specs.Typings.{sorts_eq, over, Signature}
use Rattle.data_typing.proofs.RowNumbers.{row_is_found}
use Rattle.lps_printer.specs.ReadableNames.{signature, find_exact, symbol_text}
use Rattle.lps_printer.specs.FittingNames.{is_over_any, declared_signatures}
use Rattle.lps_printer.specs.SignatureNames.{is_free, is_function_once, once_functions, declared_name_of, is_declared_once, names_under}
use Rattle.lps_printer.proofs.Exact.{all_sorts_told}
use Rattle.lps_printer.proofs.LinearBack.{sorts_themselves}

-- a declared function with its entry in a signature
pub record StandsAs (g : Sig) (k : ℕ) : Type 0 where
  pub id : FunId
  pub entry : Function
  pub listed : slice_get g.declared k ≡ Some id
  pub stands : slice_get g.functions id.0 ≡ Some entry
  pub plain : entry.word ≡ None
  pub arguments : (function_at (data_meant g) k).arguments ≡ map (sort_under g) entry.sorts
  pub text : slice_get g.texts entry.name.0 ≡ Some ((names_under g).function k)

-- ---- lists
contains_filtered : {A : Type 0} (p : A → Bool) (xs : List A) (x : A) → Contains (filter p xs) x → Contains xs x × (p x ≡ true)
contains_filtered p [] x c = absurd (contains_none x c)
contains_filtered p (y ∷ ys) x c = by_test (λ k. let r = contains_filtered p ys x k in (contains_tail y x ys r.0, r.1)) (p y) refl c
  where
    by_test : (Contains (filter p ys) x → Contains (y ∷ ys) x × (p x ≡ true)) → (b : Bool) → p y ≡ b → Contains (cond b (y ∷ filter p ys) (filter p ys)) x → Contains (y ∷ ys) x × (p x ≡ true)
    by_test later false e k = later k
    by_test later true e k = ⊎_elim (λ q. (subst (λ z. Contains (y ∷ ys) z) q (contains_head y ys), ap p (sym q) ∙ e)) later (contains_cons y x (filter p ys) k)

tested : {A : Type 0} (p : A → Bool) (xs : List A) → list_all p xs ≡ true → (x : A) → Contains xs x → p x ≡ true
tested p [] e x c = absurd (contains_none x c)
tested p (y ∷ ys) e x c = let b = and_parts (p y) (list_all p ys) e in ⊎_elim (λ q. ap p (sym q) ∙ b.0) (λ j. tested p ys b.1 x j) (contains_cons y x ys c)

one_of_one : {A : Type 0} (xs : List A) (x y : A) → length xs ≡ 1 → Contains xs x → Contains xs y → x ≡ y
one_of_one [] x y l c d = absurd (contains_none x c)
one_of_one (z ∷ []) x y l c d = ⊎_elim (λ p. ⊎_elim (λ q. sym p ∙ q) (λ j. absurd (contains_none y j)) (contains_cons z y [] d)) (λ j. absurd (contains_none x j)) (contains_cons z x [] c)
one_of_one (z ∷ w ∷ xs) x y l c d = absurd (omega (arith, l))

nothing_long : {A : Type 0} (xs : List A) → length xs ≡ 0 → xs ≡ []
nothing_long [] e = refl
nothing_long (x ∷ xs) e = absurd (omega (arith, e))

-- ---- the first signature of given argument sorts
none_exact : (ss : List Sort) (fs : List Signature) → ((f : Signature) → Contains fs f → f.arguments ≡ ss → ⊥) → find_exact ss fs ≡ None
none_exact ss [] never = refl
none_exact ss (f ∷ fs) never = by_test (none_exact ss fs (λ h c. never h (contains_tail f h fs c))) (sorts_eq ss f.arguments) refl
  where
    by_test : find_exact ss fs ≡ None → (b : Bool) → sorts_eq ss f.arguments ≡ b → cond b (Some f) (find_exact ss fs) ≡ None
    by_test rest true e = absurd (never f (contains_head f fs) (sym (all_sorts_told ss f.arguments e)))
    by_test rest false e = rest

exact_behind : (ss : List Sort) (fs hs : List Signature) → find_exact ss fs ≡ None → find_exact ss (fs ++ hs) ≡ find_exact ss hs
exact_behind ss [] hs e = refl
exact_behind ss (f ∷ fs) hs e = by_test (λ q. exact_behind ss fs hs q) (sorts_eq ss f.arguments) e
  where
    by_test : (find_exact ss fs ≡ None → find_exact ss (fs ++ hs) ≡ find_exact ss hs) → (b : Bool) → cond b (Some f) (find_exact ss fs) ≡ None → cond b (Some f) (find_exact ss (fs ++ hs)) ≡ find_exact ss hs
    by_test rest true q = absurd (none-some f (sym q))
    by_test rest false q = rest q

found_exact : (d : Data) (ss : List Sort) (ks : List ℕ) (k : ℕ) → Contains ks k → (function_at d k).arguments ≡ ss → ((j : ℕ) → Contains ks j → (function_at d j).arguments ≡ ss → j ≡ k)
    → find_exact ss (map (declared_signature d) ks) ≡ Some (declared_signature d k)
found_exact d ss [] k c e one = absurd (contains_none k c)
found_exact d ss (x ∷ ks) k c e one = by_test (λ j. found_exact d ss ks k j e (λ i h. one i (contains_tail x i ks h))) (sorts_eq ss (function_at d x).arguments) refl
  where
    by_test : (Contains ks k → find_exact ss (map (declared_signature d) ks) ≡ Some (declared_signature d k)) → (b : Bool) → sorts_eq ss (function_at d x).arguments ≡ b
        → cond b (Some (declared_signature d x)) (find_exact ss (map (declared_signature d) ks)) ≡ Some (declared_signature d k)
    by_test rest true q = ap (λ j. Some (declared_signature d j)) (one x (contains_head x ks) (sym (all_sorts_told ss (function_at d x).arguments q)))
    by_test rest false q = ⊎_elim
        (λ p. let itself : sorts_eq ss (function_at d x).arguments ≡ true = ap (sorts_eq ss) (ap (λ j. (function_at d j).arguments) p ∙ e) ∙ sorts_themselves ss in let never : true ≡ false = sym itself ∙ q in absurd cc) rest
        (contains_cons x k ks c)

-- ---- the functions of a name
module _ (g : Sig) where
  abbrev name_of_id : FunId → Name
  name_of_id i = function_name_of g (slice_get g.functions i.0)

  named_at : (m : ℕ) (is : List FunId) (t : Name) (j : ℕ) → Contains (all_named t (function_names_from g m is)) j → (i : ℕ) × (id : FunId) × (j ≡ m + i) × (slice_get is i ≡ Some id) × (name_of_id id ≡ t)
  named_at m [] t j c = absurd (contains_none j c)
  named_at m (x ∷ is) t j c =
      by_test (λ k. let r = named_at (suc m) is t j k in (suc r.0, r.1, r.2 ∙ (let z : suc m + r.0 ≡ m + suc r.0 = omega arith in z), r.3, r.4)) (bytes_eq (name_of_id x) t) refl c
    where
      by_test : (Contains (all_named t (function_names_from g (suc m) is)) j → (i : ℕ) × (id : FunId) × (j ≡ m + i) × (slice_get (x ∷ is) i ≡ Some id) × (name_of_id id ≡ t)) → (b : Bool) → bytes_eq (name_of_id x) t ≡ b
          → Contains (cond b (m ∷ all_named t (function_names_from g (suc m) is)) (all_named t (function_names_from g (suc m) is))) j → (i : ℕ) × (id : FunId) × (j ≡ m + i) × (slice_get (x ∷ is) i ≡ Some id) × (name_of_id id ≡ t)
      by_test later false e k = later k
      by_test later true e k = ⊎_elim (λ q. (0, x, sym q ∙ (let z : m ≡ m + 0 = omega arith in z), refl, (bytes_eq-Decides (name_of_id x) t).0 e)) later (contains_cons m j (all_named t (function_names_from g (suc m) is)) k)

  at_named : (m : ℕ) (is : List FunId) (i : ℕ) (id : FunId) → slice_get is i ≡ Some id → (t : Name) → name_of_id id ≡ t → Contains (all_named t (function_names_from g m is)) (m + i)
  at_named m [] i id at t e = absurd (none-some id at)
  at_named m (x ∷ is) zero id at t e =
      let here : bytes_eq (name_of_id x) t ≡ true = (bytes_eq-Decides (name_of_id x) t).1 (ap name_of_id (same_Some x id at) ∙ e) in
      let z : m ≡ m + 0 = omega arith in
      subst (λ b. Contains (cond b (m ∷ all_named t (function_names_from g (suc m) is)) (all_named t (function_names_from g (suc m) is))) (m + 0)) (sym here)
      (subst (Contains (m ∷ all_named t (function_names_from g (suc m) is))) z (contains_head m (all_named t (function_names_from g (suc m) is))))
  at_named m (x ∷ is) (suc i) id at t e =
      let z : suc m + i ≡ m + suc i = omega arith in
      by_test (bytes_eq (name_of_id x) t) (subst (Contains (all_named t (function_names_from g (suc m) is))) z (at_named (suc m) is i id at t e))
    where
      by_test : (b : Bool) → Contains (all_named t (function_names_from g (suc m) is)) (m + suc i) → Contains (cond b (m ∷ all_named t (function_names_from g (suc m) is)) (all_named t (function_names_from g (suc m) is))) (m + suc i)
      by_test false c = c
      by_test true c = contains_tail m (m + suc i) (all_named t (function_names_from g (suc m) is)) c

  nothing_named : (m : ℕ) (is : List FunId) (t : Name) → ((j : ℕ) (x : FunId) → slice_get is j ≡ Some x → name_of_id x ≡ t → ⊥) → all_named t (function_names_from g m is) ≡ []
  nothing_named m is t never = by_list (all_named t (function_names_from g m is)) refl
    where
      by_list : (ks : List ℕ) → all_named t (function_names_from g m is) ≡ ks → ks ≡ []
      by_list [] e = refl
      by_list (k ∷ ks) e = let r = named_at m is t k (subst (λ js. Contains js k) (sym e) (contains_head k ks)) in absurd (never r.0 r.1 r.3 r.4)

  one_named : (m : ℕ) (is : List FunId) (t : Name) (i : ℕ) (id : FunId) → slice_get is i ≡ Some id → name_of_id id ≡ t → ((j : ℕ) (x : FunId) → slice_get is j ≡ Some x → name_of_id x ≡ t → j ≡ i)
      → all_named t (function_names_from g m is) ≡ (m + i) ∷ []
  one_named m [] t i id at e one = absurd (none-some id at)
  one_named m (x ∷ is) t zero id at e one =
      let here : bytes_eq (name_of_id x) t ≡ true = (bytes_eq-Decides (name_of_id x) t).1 (ap name_of_id (same_Some x id at) ∙ e) in
      let rest : all_named t (function_names_from g (suc m) is) ≡ [] = nothing_named (suc m) is t (λ j y p q. let never : suc j ≡ 0 = one (suc j) y p q in omega (arith, never)) in
      let z : m ≡ m + 0 = omega arith in
      ap (λ b. cond b (m ∷ all_named t (function_names_from g (suc m) is)) (all_named t (function_names_from g (suc m) is))) here
      ∙ ap (λ ks. m ∷ ks) rest ∙ ap (λ k. k ∷ []) z
  one_named m (x ∷ is) t (suc i) id at e one =
      by_test (one_named (suc m) is t i id at e (λ j y p r. let same : suc j ≡ suc i = one (suc j) y p r in omega (arith, same))) (bytes_eq (name_of_id x) t) refl
    where
      z : suc m + i ≡ m + suc i
      z = omega arith

      by_test : all_named t (function_names_from g (suc m) is) ≡ (suc m + i) ∷ [] → (b : Bool) → bytes_eq (name_of_id x) t ≡ b
          → cond b (m ∷ all_named t (function_names_from g (suc m) is)) (all_named t (function_names_from g (suc m) is)) ≡ (m + suc i) ∷ []
      by_test rest true q = let never : 0 ≡ suc i = one 0 x refl ((bytes_eq-Decides (name_of_id x) t).0 q) in absurd (omega (arith, never))
      by_test rest false q = rest ∙ ap (λ k. k ∷ []) z

-- those of a name in the table
named_listed : (m : ℕ) (n : NameId) (fs : List Function) (i : ℕ) (e : Function) → slice_get fs i ≡ Some e → e.word ≡ None → e.name ≡ n → Contains (named_from m n fs) (record { 0 = m + i })
named_listed m n [] i e at plain name = absurd (none-some e at)
named_listed m n (f ∷ fs) zero e at plain name =
    let same : f ≡ e = same_Some f e at in
    let number : (f.name.0 == n.0) ≡ true = (Decides-eqb f.name.0 n.0).1 (ap (λ (h : Function). h.name.0) same ∙ ap (λ (x : NameId). x.0) name) in
    let word : f.word ≡ None = ap (λ (h : Function). h.word) same ∙ plain in
    let z : m ≡ m + 0 = omega arith in
    subst (λ b. Contains (cond b (if_declared m f.word) [] ++ named_from (suc m) n fs) (record { 0 = m + 0 })) (sym number)
    (subst (λ w. Contains (if_declared m w ++ named_from (suc m) n fs) (record { 0 = m + 0 })) (sym word)
    (subst (λ k. Contains (record { 0 = m } ∷ named_from (suc m) n fs) (record { 0 = k })) z (contains_head (record { 0 = m }) (named_from (suc m) n fs))))
named_listed m n (f ∷ fs) (suc i) e at plain name =
    let z : suc m + i ≡ m + suc i = omega arith in
    by_test (f.name.0 == n.0) f.word (subst (λ k. Contains (named_from (suc m) n fs) (record { 0 = k })) z (named_listed (suc m) n fs i e at plain name))
  where
    by_test : (b : Bool) (w : Option Word) → Contains (named_from (suc m) n fs) (record { 0 = m + suc i }) → Contains (cond b (if_declared m w) [] ++ named_from (suc m) n fs) (record { 0 = m + suc i })
    by_test false w c = c
    by_test true (Some w) c = c
    by_test true None c = contains_tail (record { 0 = m }) (record { 0 = m + suc i }) (named_from (suc m) n fs) c

list_kind : (m : SortId → Sort) (d : ℕ) (k : kinds.Kind) (s : Sort) → meaning_of m d k ≡ list s → (e : SortId) × (k ≡ kinds.lists_over e) × (m e ≡ s)
list_kind m d kinds.booleans s h = absurd cc
list_kind m d kinds.positives s h = absurd cc
list_kind m d kinds.naturals s h = absurd cc
list_kind m d kinds.integers s h = absurd cc
list_kind m d (kinds.lists_over e) s h = (e, refl, (let same : m e ≡ s = cc in same))
list_kind m d kinds.without_constructors s h = absurd cc
list_kind m d (kinds.by_declarations fs) s h = absurd cc
list_kind m d (kinds.structured fs) s h = absurd cc

-- the result of a row of fixed sorts is one of the first four
abbrev has_fixed_result : Row → Bool
has_fixed_result r = cond (is_settled r) (nat_lt (row_result r).0 4) true

all_have_fixed_results : list_all has_fixed_result (language_table any_sort lists_of_any) ≡ true
unfolding language_table truth_rows sort_rows comparison_rows sum_rows first_rows quotient_rows extreme_rows step_rows list_rows
all_have_fixed_results = refl

settled_result : (r : Row) → Contains (language_table any_sort lists_of_any) r → is_settled r ≡ true → (row_result r).0 < 4
settled_result r c e =
    let t : has_fixed_result r ≡ true = tested has_fixed_result (language_table any_sort lists_of_any) all_have_fixed_results r c in
    (Decides-ltb (row_result r).0 4).0 (sym (ap (λ b. cond b (nat_lt (row_result r).0 4) true) e) ∙ t)

-- the rows over any sort
row_there : (i : ℕ) (r : Row) → slice_get (language_table any_sort lists_of_any) i ≡ Some r → Contains (language_table any_sort lists_of_any) r
row_there i r e = contains_read (language_table any_sort lists_of_any) i r e

abbrev any_row : Symbol → Row
any_row (equality s) = rows.Two words.Equal any_sort any_sort bool_sort
any_row (inequality s) = rows.Two words.Different any_sort any_sort bool_sort
any_row (conditional s) = rows.Three words.If bool_sort any_sort any_sort any_sort
any_row (cons s) = rows.Two (words.List lists.Cons) any_sort lists_of_any lists_of_any
any_row (snoc s) = rows.Two (words.List lists.Snoc) lists_of_any any_sort lists_of_any
any_row (concatenation s) = rows.Two (words.List lists.Concat) lists_of_any lists_of_any lists_of_any
any_row (size s) = rows.One (words.List lists.Size) lists_of_any nat_sort
any_row (element_at s) = rows.Two (words.List lists.At) lists_of_any nat_sort any_sort
any_row (head s) = rows.One (words.List lists.Head) lists_of_any any_sort
any_row (rhead s) = rows.One (words.List lists.Rhead) lists_of_any any_sort
any_row (tail s) = rows.One (words.List lists.Tail) lists_of_any lists_of_any
any_row (rtail s) = rows.One (words.List lists.Rtail) lists_of_any lists_of_any
any_row (membership s) = rows.Two (words.List lists.In) any_sort lists_of_any bool_sort
any_row _ = rows.Constant words.True bool_sort

module _ (g : Sig) (sg : IsSignature g) where
  abbrev d : Data
  d = data_meant g

  pub many_declared : length d.functions ≡ length g.declared
  many_declared = length-map (declared_from 0 g.functions) (function_meant g) ∙ sym (ap length sg.table.listed)

  not_constant : (f : Function) → IsEntry g.texts g.sorts f → f.word ≡ None → f.is_list_constant ≡ false
  not_constant f (declared w c) e = c
  not_constant f (built_in r i q t) e = absurd (none-some (row_word r) (sym e ∙ ap (λ (x : Function). x.word) q))

  sorts_within : (f : FunId) (e : Function) → slice_get g.functions f.0 ≡ Some e → All (λ (s : SortId). s.0 < length g.sorts) e.sorts
  sorts_within f e at = (holds_at (IsFunctionWithin (length g.texts) (length g.sorts) (length g.functions)) g.functions f.0 e sg.complete.within.functions_within at).found

  pub listed_stands : (k : ℕ) (id : FunId) (e : Function) → slice_get g.declared k ≡ Some id → slice_get g.functions id.0 ≡ Some e → e.word ≡ None → StandsAs g k
  listed_stands k id e listed stands plain =
      let fits = symbol_fits g sg.table id e stands in
      let number : symbol_under g id ≡ function k = listed_functions_mean_their_places g sg.table k id listed in
      let within = (holds_at (IsFunctionWithin (length g.texts) (length g.sorts) (length g.functions)) g.functions id.0 e sg.complete.within.functions_within stands).named in
      let bare = not_constant e (holds_at (IsEntry g.texts g.sorts) g.functions id.0 e sg.table.entries stands) plain in
      record {
        id = id;
        entry = e;
        listed = listed;
        stands = stands;
        plain = plain;
        arguments = ap (argument_sorts d) (sym number) ∙ fits.1 ∙ ap (λ b. map (sort_under g) (cond b [] e.sorts)) bare;
        text = slice_get-get_or g.texts e.name.0 [] within ∙ ap Some (sym (ap (declared_name_of g) listed ∙ ap (function_name_of g) stands));
      }

  pub stands_as : (k : ℕ) → k < length d.functions → StandsAs g k
  stands_as k l =
      let p = read_within g.declared k (omega (arith, l, many_declared)) in
      let at : slice_get (declared_from 0 g.functions) k ≡ Some p.0 = ap (λ ds. slice_get ds k) (sym sg.table.listed) ∙ p.1 in
      let q = declared_found g.functions 0 k p.0 (slice_get_within (declared_from 0 g.functions) k p.0 at) in
      let same : p.0.0 ≡ q.0 = ap (λ (x : FunId). x.0) (sym (get_or_from_slice_get (declared_from 0 g.functions) k p.0 p.0 at) ∙ q.2) ∙ (let z : 0 + q.0 ≡ q.0 = omega arith in z) in
      listed_stands k p.0 q.1 p.1 (ap (slice_get g.functions) same ∙ q.3) q.4

  -- ---- one key, one function
  same_sort : (a b : SortId) → a.0 < length g.sorts → b.0 < length g.sorts → sort_under g a ≡ sort_under g b → a ≡ b
  same_sort a b l k e = same_meant_sort g.sorts sg.table.sorts a b l k e

  same_sorts : (xs ys : List SortId) → All (λ (s : SortId). s.0 < length g.sorts) xs → All (λ (s : SortId). s.0 < length g.sorts) ys → map (sort_under g) xs ≡ map (sort_under g) ys → xs ≡ ys
  same_sorts [] [] a b e = refl
  same_sorts [] (y ∷ ys) a b e = absurd cc
  same_sorts (x ∷ xs) [] a b e = absurd cc
  same_sorts (x ∷ xs) (y ∷ ys) a b e =
      let P : SortId → Type 0 = λ s. s.0 < length g.sorts in
      let h : sort_under g x ≡ sort_under g y = cc in
      let t : map (sort_under g) xs ≡ map (sort_under g) ys = cc in
      let p = same_sort x y (All-head P x xs a) (All-head P y ys b) h in
      let q = same_sorts xs ys (All-tail P x xs a) (All-tail P y ys b) t in
      (λ i. p i ∷ q i)

  numbered : ℕ → FunId
  numbered n = record { 0 = n }

  same_number : (j k : ℕ) → function j ≡ function k → j ≡ k
  same_number j k e = cc

  same_id : (j k : ℕ) (a : StandsAs g j) (b : StandsAs g k) → a.id.0 ≡ b.id.0 → j ≡ k
  same_id j k a b e =
      same_number j k (sym (listed_functions_mean_their_places g sg.table j a.id a.listed) ∙ ap (λ n. symbol_under g (record { 0 = n })) e ∙ listed_functions_mean_their_places g sg.table k b.id b.listed)

  pub one_function : (j k : ℕ) (a : StandsAs g j) (b : StandsAs g k) → (names_under g).function j ≡ (names_under g).function k → (function_at d j).arguments ≡ (function_at d k).arguments → j ≡ k
  one_function j k a b e f =
      let name : a.entry.name.0 ≡ b.entry.name.0 = sg.table.different a.entry.name.0 b.entry.name.0 ((names_under g).function j) a.text (b.text ∙ ap Some (sym e)) in
      let sorts : a.entry.sorts ≡ b.entry.sorts = same_sorts a.entry.sorts b.entry.sorts (sorts_within a.id a.entry a.stands) (sorts_within b.id b.entry b.stands) (sym a.arguments ∙ f ∙ b.arguments) in
      let keys : key_of a.entry ≡ key_of b.entry = (λ i. record { name = record { 0 = name i }; sorts = sorts i }) in
      same_id j k a b (sg.table.once a.id.0 b.id.0 (key_of b.entry) (slice_get-map key_of g.functions a.id.0 ∙ ap (option_map key_of) a.stands ∙ ap Some keys) (slice_get-map key_of g.functions b.id.0 ∙ ap (option_map key_of) b.stands))

  not_a_row : (k : ℕ) (a : StandsAs g k) (w : Word) (to : SortId) → text_of w ≡ (names_under g).function k → IsFoundRow g w a.entry.sorts to → ⊥
  not_a_row k a w to e f =
      let this : IsFun g (row_text f.row) (row_sorts f.row) a.id.0 = (a.entry, a.stands, a.text ∙ ap Some (sym (ap text_of f.word ∙ e)), sym f.arguments) in
      let same : a.id.0 ≡ f.stands.0 = f.stands.1.alone a.id.0 this in
      let entry : Some a.entry ≡ Some (function_of_row g.texts f.row) = sym a.stands ∙ ap (slice_get g.functions) same ∙ f.stands.1.stands in
      none-some (row_word f.row) (sym a.plain ∙ ap (λ (x : Function). x.word) (same_Some a.entry (function_of_row g.texts f.row) entry))

  -- a row of the language's table, at this sort
  no_row : (k : ℕ) (a : StandsAs g k) (s : Sort) (r : Row) (to : SortId) → Contains (language_table any_sort lists_of_any) r → row_text r ≡ (names_under g).function k → to.0 < length g.sorts → sort_under g to ≡ over s (place_numbered (row_result r))
      → (function_at d k).arguments ≡ map (over s) (map place_numbered (row_sorts r)) → ⊥
  no_row k a s r to c e l m f = not_a_row k a (row_word r) to e (row_is_found g sg s r c a.entry.sorts to (sorts_within a.id a.entry a.stands) l (sym a.arguments ∙ f) m)

  -- ---- none is a built-in one of fixed sorts
  fixed_meant : (n : ℕ) → n < 4 → (n < length g.sorts) × (sort_under g (record { 0 = n }) ≡ over boolean (place_numbered (record { 0 = n })))
  fixed_meant zero l = ((let h = integer_within g sg.table in omega (arith, h)), boolean_is g sg.table)
  fixed_meant (suc zero) l = (positive_within g sg.table, positive_is g sg.table)
  fixed_meant (suc (suc zero)) l = (natural_within g sg.table, natural_is g sg.table)
  fixed_meant (suc (suc (suc zero))) l = (integer_within g sg.table, integer_is g sg.table)
  fixed_meant (suc (suc (suc (suc n)))) l = absurd (omega (arith, l))

  no_built_in : (k : ℕ) (a : StandsAs g k) (f : Signature) → Contains (built_ins ((names_under g).function k)) f → f.arguments ≡ (function_at d k).arguments → ⊥
  no_built_in k a f c e =
      let t : Name = (names_under g).function k in
      let m = contained_from_map row_signature (filter is_settled (named_rows t)) f c in
      let p = contains_filtered is_settled (named_rows t) m.0 m.1 in
      let q = contains_filtered (has_name t) (language_table any_sort lists_of_any) m.0 p.0 in
      let small = fixed_meant (row_result m.0).0 (settled_result m.0 q.0 p.1) in
      no_row k a boolean m.0 (row_result m.0) q.0 ((bytes_eq-Decides (row_text m.0) t).0 q.1) small.0 small.1 (sym e ∙ ap (λ (h : Signature). h.arguments) (sym m.2))

  -- ---- its name leads to it first
  its_name : (k : ℕ) (a : StandsAs g k) → function_name_of g (slice_get g.functions a.id.0) ≡ (names_under g).function k
  its_name k a = sym (ap (declared_name_of g) a.listed)

  among_its_name : (k : ℕ) (a : StandsAs g k) → Contains (all_named ((names_under g).function k) (vocabulary_of g).function_names) k
  among_its_name k a =
      let z : 0 + k ≡ k = omega arith in
      subst (Contains (all_named ((names_under g).function k) (vocabulary_of g).function_names)) z (at_named g 0 g.declared k a.id a.listed ((names_under g).function k) (its_name k a))

  of_the_name : (t : Name) (j : ℕ) → Contains (all_named t (vocabulary_of g).function_names) j → StandsAs g j × ((names_under g).function j ≡ t)
  of_the_name t j c =
      let r = named_at g 0 g.declared t j c in
      let same : j ≡ r.0 = r.2 ∙ (let z : 0 + r.0 ≡ r.0 = omega arith in z) in
      let listed : slice_get g.declared j ≡ Some r.1 = ap (slice_get g.declared) same ∙ r.3 in
      let low = slice_get_within g.declared j r.1 listed in
      (stands_as j (omega (arith, low, many_declared)), ap (declared_name_of g) listed ∙ r.4)

  pub own_sorts : (k : ℕ) → k < length d.functions → find_exact (argument_sorts d (function k)) (signatures_named (vocabulary_of g) ((names_under g).function k)) ≡ Some (signature d (function k))
  own_sorts k l =
      let t : Name = (names_under g).function k in
      let a = stands_as k l in
      exact_behind (function_at d k).arguments (built_ins t) (map (declared_signature d) (all_named t (vocabulary_of g).function_names)) (none_exact (function_at d k).arguments (built_ins t) (no_built_in k a))
      ∙ found_exact d (function_at d k).arguments (all_named t (vocabulary_of g).function_names) k (among_its_name k a) refl (λ j c e. let b = of_the_name t j c in one_function j k b.0 a b.1 e)

  -- ---- none is a built-in one over any sort
  sort_among : (xs : List SortId) (ss : List Sort) → map (sort_under g) xs ≡ ss → All (λ (s : SortId). s.0 < length g.sorts) xs → (i : ℕ) (s : Sort) → slice_get ss i ≡ Some s → (x : SortId) × (x.0 < length g.sorts) × (sort_under g x ≡ s)
  sort_among [] [] e a i s at = absurd (none-some s at)
  sort_among [] (r ∷ ss) e a i s at = absurd cc
  sort_among (x ∷ xs) [] e a i s at = absurd cc
  sort_among (x ∷ xs) (r ∷ ss) e a zero s at = let here : sort_under g x ≡ r = cc in (x, All-head (λ (y : SortId). y.0 < length g.sorts) x xs a, here ∙ same_Some r s at)
  sort_among (x ∷ xs) (r ∷ ss) e a (suc i) s at = let rest : map (sort_under g) xs ≡ ss = cc in sort_among xs ss rest (All-tail (λ (y : SortId). y.0 < length g.sorts) x xs a) i s at

  element_among : (l : SortId) (s : Sort) → l.0 < length g.sorts → sort_under g l ≡ list s → (x : SortId) × (x.0 < length g.sorts) × (sort_under g x ≡ s)
  element_among l s k e =
      let r = read_within g.sorts l.0 k in
      let p = list_kind (sort_under g) (length (constructions (take l.0 g.sorts))) r.0.kind s (sym (sorts_mean_their_kinds g.sorts sg.table.sorts l r.0 r.1) ∙ e) in
      let front = sg.table.sorts.behind_element p.0 l (r.0, r.1, p.1) in
      (p.0, omega (arith, front, k), p.2)

  no_declared : (t : Name) (ss : List Sort) → ((k : ℕ) (a : StandsAs g k) → (names_under g).function k ≡ t → (function_at d k).arguments ≡ ss → ⊥) → find_exact ss (declared_signatures (vocabulary_of g) t) ≡ None
  no_declared t ss never = none_exact ss (declared_signatures (vocabulary_of g) t)
      (λ f c e. let m = contained_from_map (declared_signature d) (all_named t (vocabulary_of g).function_names) f c in let b = of_the_name t m.0 m.1 in never m.0 b.0 b.1 (ap (λ (h : Signature). h.arguments) m.2 ∙ e))

  -- where the result's sort is that of an argument, of an argument's elements, or a fixed one
  bool_there : (x : SortId) × (x.0 < length g.sorts) × (sort_under g x ≡ boolean)
  bool_there = (bool_sort, (fixed_meant 0 (omega arith)).0, boolean_is g sg.table)

  nat_there : (x : SortId) × (x.0 < length g.sorts) × (sort_under g x ≡ natural)
  nat_there = (nat_sort, natural_within g sg.table, natural_is g sg.table)

  at_argument : (ss : List Sort) (i : ℕ) (s : Sort) → slice_get ss i ≡ Some s → (k : ℕ) (a : StandsAs g k) → (function_at d k).arguments ≡ ss → (x : SortId) × (x.0 < length g.sorts) × (sort_under g x ≡ s)
  at_argument ss i s at k a e = sort_among a.entry.sorts ss (sym a.arguments ∙ e) (sorts_within a.id a.entry a.stands) i s at

  at_element : (ss : List Sort) (i : ℕ) (s : Sort) → slice_get ss i ≡ Some (list s) → (k : ℕ) (a : StandsAs g k) → (function_at d k).arguments ≡ ss → (x : SortId) × (x.0 < length g.sorts) × (sort_under g x ≡ s)
  at_element ss i s at k a e = let x = at_argument ss i (list s) at k a e in element_among x.0 s x.1 x.2

  by_row : (i : ℕ) (r : Row) (s to : Sort) (ss : List Sort) → slice_get (language_table any_sort lists_of_any) i ≡ Some r → over s (place_numbered (row_result r)) ≡ to → map (over s) (map place_numbered (row_sorts r)) ≡ ss
      → ((k : ℕ) (a : StandsAs g k) → (function_at d k).arguments ≡ ss → (x : SortId) × (x.0 < length g.sorts) × (sort_under g x ≡ to)) → find_exact ss (declared_signatures (vocabulary_of g) (row_text r)) ≡ None
  by_row i r s to ss at result places there =
      no_declared (row_text r) ss (λ k a e f. let x = there k a f in no_row k a s r x.0 (row_there i r at) (sym e) x.1 (x.2 ∙ sym result) (f ∙ sym places))

  pub free : (f : Symbol) → is_over_any f ≡ true → find_exact (argument_sorts d f) (declared_signatures (vocabulary_of g) (symbol_text (names_under g) f)) ≡ None
  unfolding language_table truth_rows sort_rows comparison_rows sum_rows first_rows quotient_rows extreme_rows step_rows list_rows
  free (equality s) h = by_row 6 (any_row (equality s)) s boolean (s ∷ s ∷ []) refl refl refl (λ k a e. bool_there)
  free (inequality s) h = by_row 7 (any_row (inequality s)) s boolean (s ∷ s ∷ []) refl refl refl (λ k a e. bool_there)
  free (conditional s) h = by_row 8 (any_row (conditional s)) s s (boolean ∷ s ∷ s ∷ []) refl refl refl (at_argument (boolean ∷ s ∷ s ∷ []) 1 s refl)
  free (cons s) h = by_row 62 (any_row (cons s)) s (list s) (s ∷ list s ∷ []) refl refl refl (at_argument (s ∷ list s ∷ []) 1 (list s) refl)
  free (snoc s) h = by_row 63 (any_row (snoc s)) s (list s) (list s ∷ s ∷ []) refl refl refl (at_argument (list s ∷ s ∷ []) 0 (list s) refl)
  free (concatenation s) h = by_row 64 (any_row (concatenation s)) s (list s) (list s ∷ list s ∷ []) refl refl refl (at_argument (list s ∷ list s ∷ []) 0 (list s) refl)
  free (size s) h = by_row 65 (any_row (size s)) s natural (list s ∷ []) refl refl refl (λ k a e. nat_there)
  free (element_at s) h = by_row 66 (any_row (element_at s)) s s (list s ∷ natural ∷ []) refl refl refl (at_element (list s ∷ natural ∷ []) 0 s refl)
  free (head s) h = by_row 67 (any_row (head s)) s s (list s ∷ []) refl refl refl (at_element (list s ∷ []) 0 s refl)
  free (rhead s) h = by_row 68 (any_row (rhead s)) s s (list s ∷ []) refl refl refl (at_element (list s ∷ []) 0 s refl)
  free (tail s) h = by_row 69 (any_row (tail s)) s (list s) (list s ∷ []) refl refl refl (at_argument (list s ∷ []) 0 (list s) refl)
  free (rtail s) h = by_row 70 (any_row (rtail s)) s (list s) (list s ∷ []) refl refl refl (at_argument (list s ∷ []) 0 (list s) refl)
  free (membership s) h = by_row 71 (any_row (membership s)) s boolean (s ∷ list s ∷ []) refl refl refl (λ k a e. bool_there)
  free truth h = absurd cc
  free falsity h = absurd cc
  free negation h = absurd cc
  free conjunction h = absurd cc
  free disjunction h = absurd cc
  free implication h = absurd cc
  free (comparison c s) h = absurd cc
  free (arithmetic op ss to) h = absurd cc
  free (minus s) h = absurd cc
  free (upcast s to) h = absurd cc
  free (empty s) h = absurd cc
  free (function k) h = absurd cc

  -- ---- names that are declared once
  once_told : (k : ℕ) → (names_under g).once k ≡ true → (a : StandsAs g k) × (is_function_once g a.entry.name ≡ true)
  once_told k e = by_id (slice_get g.declared k) refl
    where
      by_id : (o : Option FunId) → slice_get g.declared k ≡ o → (a : StandsAs g k) × (is_function_once g a.entry.name ≡ true)
      by_id None at = let never : false ≡ true = sym (ap (is_declared_once g) at) ∙ e in absurd cc
      by_id (Some id) at =
          let low = slice_get_within g.declared k id at in
          let a = stands_as k (omega (arith, low, many_declared)) in
          let same : id ≡ a.id = same_Some id a.id (sym at ∙ a.listed) in
          let there : get_or (once_functions g) id.0 false ≡ true = sym (ap (is_declared_once g) at) ∙ e in (
            a,
            sym (get_or_from_slice_get (once_functions g) a.id.0 (is_function_once g a.entry.name) false (slice_get-map (λ (f : Function). is_function_once g f.name) g.functions a.id.0 ∙ ap (option_map (λ (f : Function). is_function_once g f.name)) a.stands))
                ∙ ap (λ (i : FunId). get_or (once_functions g) i.0 false) (sym same) ∙ there,
          )

  pub once_within : (k : ℕ) → (names_under g).once k ≡ true → k < length d.functions
  once_within k e = let a = (once_told k e).0 in let low = slice_get_within g.declared k a.id a.listed in omega (arith, low, many_declared)

  no_rows : (t : Name) → is_free t ≡ true → named_rows t ≡ []
  no_rows t e = nothing_long (named_rows t) ((Decides-eqb (length (named_rows t)) 0).0 e)

  pub once : (k : ℕ) → (names_under g).once k ≡ true → (signatures_named (vocabulary_of g) ((names_under g).function k) ≡ signature d (function k) ∷ []) × (scheme_named ((names_under g).function k) ≡ None)
  once k e =
      let t : Name = (names_under g).function k in
      let o = once_told k e in
      let a = o.0 in
      let b = and_parts (length (functions_named g.functions a.entry.name) == 1) (is_free (text_under g a.entry.name)) o.1 in
      let single : length (functions_named g.functions a.entry.name) ≡ 1 = (Decides-eqb (length (functions_named g.functions a.entry.name)) 1).0 b.0 in
      let name : text_under g a.entry.name ≡ t = get_or_from_slice_get g.texts a.entry.name.0 t [] a.text in
      let rows : named_rows t ≡ [] = no_rows t (ap is_free (sym name) ∙ b.1) in
      let member : (j : ℕ) (c : StandsAs g j) → (names_under g).function j ≡ t → Contains (functions_named g.functions a.entry.name) c.id = λ j c q.
      let number : c.entry.name.0 ≡ a.entry.name.0 = sg.table.different c.entry.name.0 a.entry.name.0 t (c.text ∙ ap Some q) a.text in
      let z : 0 + c.id.0 ≡ c.id.0 = omega arith in
      subst (λ n. Contains (functions_named g.functions a.entry.name) (record { 0 = n })) z (named_listed 0 a.entry.name g.functions c.id.0 c.entry c.stands c.plain (ap (λ (n : ℕ). record { 0 = n }) number)) in
      let alone : (j : ℕ) (x : FunId) → slice_get g.declared j ≡ Some x → function_name_of g (slice_get g.functions x.0) ≡ t → j ≡ k = λ j x at q.
      let low = slice_get_within g.declared j x at in
      let c = stands_as j (omega (arith, low, many_declared)) in
      let named = ap (declared_name_of g) at ∙ q in
      same_id j k c a (ap (λ (i : FunId). i.0) (one_of_one (functions_named g.functions a.entry.name) c.id a.id single (member j c named) (member k a refl))) in
      let z : 0 + k ≡ k = omega arith in
      let only : all_named t (vocabulary_of g).function_names ≡ k ∷ [] = one_named g 0 g.declared t k a.id a.listed (its_name k a) alone ∙ ap (λ n. n ∷ []) z in (
        ap (λ rs. map row_signature (filter is_settled rs) ++ map (declared_signature d) (all_named t (vocabulary_of g).function_names)) rows ∙ ap (map (declared_signature d)) only,
        ap (λ rs. slice_get (map row_scheme (filter tables.is_over_any rs)) 0) rows,
      )
