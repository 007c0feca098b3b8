-- The tables of a signature are kept.
use Rattle.std.proofs.Common.{◌≡◌, ℕ, zero, suc, ◌<◌, ◌≤◌, ◌+◌, ◌↔◌, ◌⊎◌, inl, inr, List, [], ◌∷◌, ◌++◌, map, length, Bool, true, false, cond, Some, None, refl, sym, ap, ◌∙◌, subst, arith, length-append, append-nil}
use Rattle.std.specs.Prelude.{slice_get, option_map, bytes_eq}
use Rattle.std.specs.List.{All, Contains, list_any}
use Rattle.std.proofs.lemmas.List.{map-append}
use Rattle.std.proofs.lemmas.List.Elements.{All-from_recursion, All-append, All-push, All-map, All-weaker, All-contains_itself, All-contains}
use Rattle.std.proofs.lemmas.Option.{slice_get_within, slice_get-map}
use Rattle.data_theory.specs.declared.ids.SortId.{SortId}
use Rattle.data_theory.specs.declared.rows.Row.{Row}
use Rattle.data_theory.specs.FirstNames.{first_names}
use Rattle.data_theory.specs.Names.{AreDifferent, with_text, with_texts}
use Rattle.data_theory.specs.Places.{HaveOnePlace}
use Rattle.data_theory.specs.Keys.{Key, key}
use Rattle.data_theory.specs.Sorts as sorts
use Rattle.data_theory.specs.Sorts.{Kind, SortInfo, with_kind, abstract_sort, list_sort, first_sorts, IsListOver, IsAnyListOver}
use Rattle.data_theory.specs.Functions.{Function, key_of, HasKey, AreNew, declared_function}
use Rattle.data_theory.specs.Rows.{row_text, row_sorts, row_function, built_in, built_ins, AreNamed}
use Rattle.data_theory.specs.Table.{bool_sort, pos_sort, nat_sort, int_sort, first_rows, truth_rows, comparison_rows, sum_rows, quotient_rows, extreme_rows, step_rows, sort_rows, list_rows, list_table, first_table}
use Rattle.data_theory.specs.Signature.{Sig, first_signature}
use Rattle.data_theory.specs.IdSorts.{construction_of, IsDeclaredKind, HasKind, AreSorts}
use Rattle.data_theory.specs.IdSymbols.{declared_from}
use Rattle.data_theory.specs.IdTables.{IsRow, of_front, over_sort, over_list, IsEntry, declared, built_in as of_row, HasSortsIn, AreTables, IsTable}
use Rattle.data_theory.specs.IdTableLaws.{TheFirstSignatureIsATable, TextsKeepTheTables, ActionsKeepTheTables, VariablesKeepTheTables, AliasesKeepTheTables, FunctionsKeepTheTables, IsNewSort, SortsKeepTheTables, DeclaredSortsKeepTheTables, ListSortsKeepTheTables, ConstructorsKeepTheTables}
use Rattle.data_theory.proofs.PlaceLemmas.{read_last, contains_read, pushed_by_place, read_front, one_place_pushed}
use Rattle.data_theory.proofs.IdRowLemmas.{row_within}
use Rattle.data_theory.proofs.IdSymbolLemmas.{declared_both}
use Rattle.data_theory.proofs.FunctionLemmas.{read_mapped, absent_key}
use Rattle.data_theory.proofs.NameLemmas.{place_reads, among_texts, Behind, text_behind}
use Rattle.data_theory.proofs.CompleteLemmas.{sort_rows_fit, list_rows_fit}
use Rattle.data_theory.proofs.TableLemmas.{HasWords, first_has_words, are_named, first_are_new}

-- ---- texts
different_with : (texts : List (List ℕ)) (t : List ℕ) → AreDifferent texts → AreDifferent (with_text texts t)
different_with texts t d = by_test (list_any (bytes_eq t) texts) refl
  where
    by_test : (b : Bool) → list_any (bytes_eq t) texts ≡ b → AreDifferent (cond b texts (texts ++ t ∷ []))
    by_test true e = d
    by_test false e = one_place_pushed texts t d (λ c. let z : true ≡ false = sym (among_texts texts t c) ∙ e in cc)

pub still_read : (old new : List (List ℕ)) → Behind old new → (i : ℕ) (u : List ℕ) → slice_get old i ≡ Some u → slice_get new i ≡ Some u
still_read old new h i u e = ap (λ l. slice_get l i) h.is ∙ read_front old h.more i u e

entry_renamed : (old new : List (List ℕ)) (ss : List SortInfo) → ((i : ℕ) (u : List ℕ) → slice_get old i ≡ Some u → slice_get new i ≡ Some u) → (f : Function) → IsEntry old ss f → IsEntry new ss f
entry_renamed old new ss still f (declared e c) = declared e c
entry_renamed old new ss still f (of_row r i e t) = of_row r i e (still f.name.0 (row_text r) t)

with_one_text : (g : Sig) (t : List ℕ) → IsTable g → AreTables (with_text g.texts t) g.sorts g.functions g.declared
with_one_text g t table =
    let texts = with_text g.texts t in
    record {
      different = different_with g.texts t table.different;
      sorts = table.sorts;
      entries = All-weaker (IsEntry g.texts g.sorts) (IsEntry texts g.sorts) (entry_renamed g.texts texts g.sorts (still_read g.texts texts (text_behind g.texts t))) g.functions table.entries;
      within = table.within;
      once = table.once;
      first = table.first;
      listed = table.listed;
    }

pub texts_keep_the_tables : TextsKeepTheTables
texts_keep_the_tables g t table = with_one_text g t table

pub actions_keep_the_tables : ActionsKeepTheTables
actions_keep_the_tables g t sorts table = with_one_text g t table

-- ---- variables and aliases
pub variables_keep_the_tables : VariablesKeepTheTables
variables_keep_the_tables g v table = table

pub aliases_keep_the_tables : AliasesKeepTheTables
aliases_keep_the_tables g n s table = table

-- ---- functions behind the others
pub first_stays : (fs new : List Function) → ((k : ℕ) (r : Row) → slice_get first_rows k ≡ Some r → (f : Function) × (slice_get fs k ≡ Some f) × (f ≡ row_function f.name r))
    → (k : ℕ) (r : Row) → slice_get first_rows k ≡ Some r → (f : Function) × (slice_get (fs ++ new) k ≡ Some f) × (f ≡ row_function f.name r)
first_stays fs new first k r at = let h = first k r at in (h.0, read_front fs new k h.0 h.1, h.2)

pub functions_keep_the_tables : FunctionsKeepTheTables
functions_keep_the_tables g n args to table w l none =
    let f = declared_function n args to in
    record {
      different = table.different;
      sorts = table.sorts;
      entries = All-push (IsEntry g.texts g.sorts) g.functions f table.entries (declared refl refl);
      within = All-push (HasSortsIn g.sorts) g.functions f table.within (w, l);
      once = subst HaveOnePlace (sym (map-append key_of g.functions (f ∷ []))) (one_place_pushed (map key_of g.functions) (key n args) table.once (absent_key g.functions (map key_of g.functions) (key n args) refl none));
      first = first_stays g.functions (f ∷ []) table.first;
      listed = (λ i. table.listed i ++ record { 0 = length g.functions } ∷ []) ∙ ap (λ n. declared_from 0 g.functions ++ record { 0 = n } ∷ []) (let z : length g.functions ≡ 0 + length g.functions = omega arith in z) ∙ sym (declared_both g.functions (f ∷ []) 0);
    }

-- ---- rows over the sorts
more_rows : (ss more : List SortInfo) (r : Row) → IsRow ss r → IsRow (ss ++ more) r
more_rows ss more r (of_front c) = of_front c
more_rows ss more r (over_sort s l c) = over_sort s (omega (arith, l, length-append ss more)) c
more_rows ss more r (over_list e l o c) = over_list e l (o.0, read_front ss more l.0 o.0 o.1, o.2) c

-- none of them was declared
none_declared : (texts : List (List ℕ)) (rs : List Row) (k : ℕ) → declared_from k (built_ins texts rs) ≡ []
none_declared texts [] k = refl
none_declared texts (r ∷ rs) k = none_declared texts rs (suc k)

row_entry : (texts : List (List ℕ)) (ss : List SortInfo) (r : Row) → Contains texts (row_text r) → IsRow ss r → IsEntry texts ss (built_in texts r)
row_entry texts ss r c i = of_row r i refl (place_reads texts (row_text r) c)

both_of : {A : Type 0} (P Q : A → Type 0) (xs : List A) → All P xs → All Q xs → All (λ x. P x × Q x) xs
both_of P Q xs a b k d l = (a k d l, b k d l)

module _ (texts : List (List ℕ)) (ss : List SortInfo) (are : AreSorts ss) (rs : List Row) (named : AreNamed texts rs) (in' : All (IsRow ss) rs) where
  rows_are_entries : All (IsEntry texts ss) (built_ins texts rs)
  rows_are_entries =
      All-map (IsEntry texts ss) (built_in texts) rs
      (All-weaker (λ r. Contains texts (row_text r) × IsRow ss r) (λ r. IsEntry texts ss (built_in texts r)) (λ r h. row_entry texts ss r h.0 h.1) rs
      (both_of (λ (r : Row). Contains texts (row_text r)) (IsRow ss) rs named in'))

  four : 4 ≤ length ss
  four = let h = (are.integer_fourth 3).1 refl in omega (arith, slice_get_within ss 3 h.0 h.1)

  list_within : (e l : SortId) → IsListOver ss e l → (e.0 < length ss) × (l.0 < length ss)
  list_within e l o = let w = slice_get_within ss l.0 o.0 o.1 in (omega (arith, w, are.behind_element e l o), w)

  row_sorts_in : (r : Row) → IsRow ss r → HasSortsIn ss (built_in texts r)
  row_sorts_in r i = let h = row_within ss four r i list_within in (All-from_recursion (λ (s : SortId). s.0 < length ss) (row_sorts r) h.0, h.1)

  rows_are_within : All (HasSortsIn ss) (built_ins texts rs)
  rows_are_within = All-map (HasSortsIn ss) (built_in texts) rs (All-weaker (IsRow ss) (λ r. HasSortsIn ss (built_in texts r)) row_sorts_in rs in')

-- ---- Bool, Pos, Nat and Int
abbrev tag : Kind → ℕ
tag sorts.booleans = 0
tag sorts.positives = 1
tag sorts.naturals = 2
tag sorts.integers = 3
tag (sorts.lists_over e) = 4
tag sorts.without_constructors = 4
tag (sorts.by_declarations fs) = 4
tag (sorts.structured fs) = 4

first_tag : (i : ℕ) (s : SortInfo) → slice_get first_sorts i ≡ Some s → tag s.kind ≡ i
first_tag zero s e = let p : record { kind = sorts.booleans; name = None } ≡ s = cc in ap (λ (x : SortInfo). tag x.kind) (sym p)
first_tag (suc zero) s e = let p : record { kind = sorts.positives; name = None } ≡ s = cc in ap (λ (x : SortInfo). tag x.kind) (sym p)
first_tag (suc (suc zero)) s e = let p : record { kind = sorts.naturals; name = None } ≡ s = cc in ap (λ (x : SortInfo). tag x.kind) (sym p)
first_tag (suc (suc (suc zero))) s e = let p : record { kind = sorts.integers; name = None } ≡ s = cc in ap (λ (x : SortInfo). tag x.kind) (sym p)
first_tag (suc (suc (suc (suc i)))) s e = cc

first_kind : (n : ℕ) (k : Kind) → tag k ≡ n → HasKind first_sorts n k → (i : ℕ) → HasKind first_sorts i k ↔ (i ≡ n)
first_kind n k t h i = (λ a. sym (first_tag i a.0 a.1) ∙ (ap tag a.2 ∙ t), λ e. subst (λ j. HasKind first_sorts j k) (sym e) h)

pub no_list_first : (e l : SortId) → IsListOver first_sorts e l → ⊥
no_list_first e l o =
    let t : l.0 ≡ 4 = sym (first_tag l.0 o.0 o.1) ∙ ap tag o.2 in
    let w = slice_get_within first_sorts l.0 o.0 o.1 in
    omega (arith, t, w)

first_sorts_are : AreSorts first_sorts
first_sorts_are = record {
  boolean_first = first_kind 0 sorts.booleans refl (_, refl, refl);
  positive_second = first_kind 1 sorts.positives refl (_, refl, refl);
  natural_third = first_kind 2 sorts.naturals refl (_, refl, refl);
  integer_fourth = first_kind 3 sorts.integers refl (_, refl, refl);
  behind_element = λ e l o. absurd (no_list_first e l o);
  once = λ e k l o p. absurd (no_list_first e k o);
}

-- the texts that a signature begins with
different_with_all : (ts texts : List (List ℕ)) → AreDifferent texts → AreDifferent (with_texts texts ts)
different_with_all [] texts d = d
different_with_all (t ∷ ts) texts d = different_with_all ts (with_text texts t) (different_with texts t d)

behind_first_rows : List Row
behind_first_rows = truth_rows ++ sort_rows bool_sort ++ sort_rows pos_sort ++ sort_rows nat_sort ++ sort_rows int_sort ++ comparison_rows ++ sum_rows ++ quotient_rows ++ extreme_rows ++ step_rows

first_rows_lead : first_table ≡ first_rows ++ behind_first_rows
unfolding first_table behind_first_rows first_rows truth_rows
first_rows_lead = refl

first_rows_read : (texts : List (List ℕ)) (k : ℕ) (r : Row) → slice_get first_rows k ≡ Some r → (f : Function) × (slice_get (built_ins texts first_table) k ≡ Some f) × (f ≡ row_function f.name r)
first_rows_read texts k r at = (
  built_in texts r,
  slice_get-map (built_in texts) first_table k ∙ ap (option_map (built_in texts)) (ap (λ rs. slice_get rs k) first_rows_lead ∙ read_front first_rows behind_first_rows k r at),
  refl,
)

first_tables : (texts : List (List ℕ)) → AreDifferent texts → HasWords texts → AreTables texts first_sorts (built_ins texts first_table) []
first_tables texts different has =
    let front = All-weaker (Contains first_table) (IsRow first_sorts) (λ r c. of_front c) first_table (All-contains_itself first_table) in
    let named = are_named texts has first_table in
    record {
      different = different;
      sorts = first_sorts_are;
      entries = rows_are_entries texts first_sorts first_sorts_are first_table named front;
      within = rows_are_within texts first_sorts first_sorts_are first_table named front;
      once = (first_are_new texts has).different;
      first = first_rows_read texts;
      listed = sym (none_declared texts first_table 0);
    }

pub the_first_signature_is_a_table : TheFirstSignatureIsATable
unfolding first_signature
the_first_signature_is_a_table given d = first_tables (with_texts given first_names) (different_with_all first_names given d) (first_has_words given)

-- ---- a further sort
new_tag : (ss : List SortInfo) (s : SortInfo) → IsNewSort ss s → tag s.kind ≡ 4
new_tag ss s (inl d) = by_kind s.kind d
  where
    by_kind : (k : Kind) → IsDeclaredKind k → tag k ≡ 4
    by_kind sorts.booleans d = absurd (omega (arith, d))
    by_kind sorts.positives d = absurd (omega (arith, d))
    by_kind sorts.naturals d = absurd (omega (arith, d))
    by_kind sorts.integers d = absurd (omega (arith, d))
    by_kind (sorts.lists_over e) d = refl
    by_kind sorts.without_constructors d = refl
    by_kind (sorts.by_declarations fs) d = refl
    by_kind (sorts.structured fs) d = refl
new_tag ss s (inr h) = ap tag h.1

module _ (ss : List SortInfo) (s : SortInfo) (are : AreSorts ss) (new : IsNewSort ss s) where
  kind_pushed : (n : ℕ) (k : Kind) → tag k < 4 → ((i : ℕ) → HasKind ss i k ↔ (i ≡ n)) → (i : ℕ) → HasKind (ss ++ s ∷ []) i k ↔ (i ≡ n)
  kind_pushed n k t old i = (λ h. by_place h.0 h.2 (pushed_by_place ss s h.0 i h.1), λ e. let h = (old i).1 e in (h.0, read_front ss (s ∷ []) i h.0 h.1, h.2))
    where
      by_place : (x : SortInfo) → x.kind ≡ k → (slice_get ss i ≡ Some x) ⊎ ((i ≡ length ss) × (s ≡ x)) → i ≡ n
      by_place x q (inl a) = (old i).0 (x, a, q)
      by_place x q (inr a) = let u : tag k ≡ 4 = sym (ap tag (ap (λ (y : SortInfo). y.kind) a.1 ∙ q)) ∙ new_tag ss s new in absurd (omega (arith, t, u))

  -- the list sort that is pushed
  pushed_list : (e : SortId) → s.kind ≡ sorts.lists_over e → (e.0 < length ss) × (IsAnyListOver ss e → ⊥)
  pushed_list e q = by_cases new
    where
      no_construction : IsDeclaredKind s.kind → ⊥
      no_construction d = let z : 0 ≡ 1 = sym (ap (λ k. length (construction_of k)) q) ∙ d in omega (arith, z)

      by_cases : IsNewSort ss s → (e.0 < length ss) × (IsAnyListOver ss e → ⊥)
      by_cases (inl d) = absurd (no_construction d)
      by_cases (inr h) = let p : sorts.lists_over h.0 ≡ sorts.lists_over e = sym h.1 ∙ q in let same : h.0 ≡ e = cc in (rw (sym same) h.2, λ a. h.3 (subst (IsAnyListOver ss) (sym same) a))

  list_cases : (e l : SortId) → IsListOver (ss ++ s ∷ []) e l → (IsListOver ss e l) ⊎ ((l.0 ≡ length ss) × (s.kind ≡ sorts.lists_over e))
  list_cases e l o = by_place (pushed_by_place ss s o.0 l.0 o.1)
    where
      by_place : (slice_get ss l.0 ≡ Some o.0) ⊎ ((l.0 ≡ length ss) × (s ≡ o.0)) → (IsListOver ss e l) ⊎ ((l.0 ≡ length ss) × (s.kind ≡ sorts.lists_over e))
      by_place (inl a) = inl (o.0, a, o.2)
      by_place (inr a) = inr (a.0, ap (λ (y : SortInfo). y.kind) a.1 ∙ o.2)

  behind_pushed : (e l : SortId) → IsListOver (ss ++ s ∷ []) e l → e.0 < l.0
  behind_pushed e l o = elim (list_cases e l o) [ inl a ↦ are.behind_element e l a | inr a ↦ let h = pushed_list e a.1 in omega (arith, h.0, a.0) ]

  once_pushed : (e k l : SortId) → IsListOver (ss ++ s ∷ []) e k → IsListOver (ss ++ s ∷ []) e l → k ≡ l
  once_pushed e k l o p = by_cases (list_cases e k o) (list_cases e l p)
    where
      by_cases : (IsListOver ss e k) ⊎ ((k.0 ≡ length ss) × (s.kind ≡ sorts.lists_over e)) → (IsListOver ss e l) ⊎ ((l.0 ≡ length ss) × (s.kind ≡ sorts.lists_over e)) → k ≡ l
      by_cases (inl a) (inl b) = are.once e k l a b
      by_cases (inl a) (inr b) = absurd ((pushed_list e b.1).1 (k.0, a))
      by_cases (inr a) (inl b) = absurd ((pushed_list e a.1).1 (l.0, b))
      by_cases (inr a) (inr b) = ap (λ (n : ℕ). record { 0 = n }) (a.0 ∙ sym b.0)

  sorts_pushed : AreSorts (ss ++ s ∷ [])
  sorts_pushed = record {
    boolean_first = kind_pushed 0 sorts.booleans (omega arith) are.boolean_first;
    positive_second = kind_pushed 1 sorts.positives (omega arith) are.positive_second;
    natural_third = kind_pushed 2 sorts.naturals (omega arith) are.natural_third;
    integer_fourth = kind_pushed 3 sorts.integers (omega arith) are.integer_fourth;
    behind_element = behind_pushed;
    once = once_pushed;
  }

entry_over_more : (texts : List (List ℕ)) (ss more : List SortInfo) (f : Function) → IsEntry texts ss f → IsEntry texts (ss ++ more) f
entry_over_more texts ss more f (declared e c) = declared e c
entry_over_more texts ss more f (of_row r i e t) = of_row r (more_rows ss more r i) e t

within_more : (ss more : List SortInfo) (f : Function) → HasSortsIn ss f → HasSortsIn (ss ++ more) f
within_more ss more f h =
    let l = length-append ss more in
    (All-weaker (λ (s : SortId). s.0 < length ss) (λ (s : SortId). s.0 < length (ss ++ more)) (λ s w. omega (arith, w, l)) f.sorts h.0, omega (arith, h.1, l))

-- functions that are new come behind
pub read_joined : {A : Type 0} (xs ys : List A) (i : ℕ) (u : A) → slice_get (xs ++ ys) i ≡ Some u → (slice_get xs i ≡ Some u) ⊎ ((j : ℕ) × (i ≡ length xs + j) × (slice_get ys j ≡ Some u))
read_joined [] ys i u e = inr (i, omega arith, e)
read_joined (x ∷ xs) ys zero u e = inl e
read_joined (x ∷ xs) ys (suc i) u e = elim (read_joined xs ys i u e) [ inl a ↦ inl a | inr b ↦ inr (b.0, omega (arith, b.1), b.2) ]

pub one_place_joined : (old new : List Function) → HaveOnePlace (map key_of old) → AreNew old new → HaveOnePlace (map key_of (old ++ new))
one_place_joined old new once fresh = subst HaveOnePlace (sym (map-append key_of old new)) joined
  where
    absent : (j : ℕ) (k : Key) → slice_get (map key_of new) j ≡ Some k → Contains (map key_of old) k → ⊥
    absent j k at =
        let f = read_mapped key_of new j k at in
        absent_key old (map key_of old) k refl (subst (λ x. (n : ℕ) → HasKey old x n → ⊥) f.2 (All-contains (λ (x : Function). (n : ℕ) → HasKey old (key_of x) n → ⊥) new f.0 fresh.absent (contains_read new j f.0 f.1)))

    joined : HaveOnePlace (map key_of old ++ map key_of new)
    joined i j k a b = by_places (read_joined (map key_of old) (map key_of new) i k a) (read_joined (map key_of old) (map key_of new) j k b)
      where
        by_places : (slice_get (map key_of old) i ≡ Some k) ⊎ ((m : ℕ) × (i ≡ length (map key_of old) + m) × (slice_get (map key_of new) m ≡ Some k))
            → (slice_get (map key_of old) j ≡ Some k) ⊎ ((m : ℕ) × (j ≡ length (map key_of old) + m) × (slice_get (map key_of new) m ≡ Some k)) → i ≡ j
        by_places (inl x) (inl y) = once i j k x y
        by_places (inl x) (inr y) = absurd (absent y.0 k y.2 (contains_read (map key_of old) i k x))
        by_places (inr x) (inl y) = absurd (absent x.0 k x.2 (contains_read (map key_of old) j k y))
        by_places (inr x) (inr y) = let same = fresh.different x.0 y.0 k x.2 y.2 in omega (arith, x.1, y.1, same)

pub sorts_keep_the_tables : SortsKeepTheTables
sorts_keep_the_tables g s rs table new in' named absent =
    let ss = g.sorts ++ s ∷ [] in
    let are = sorts_pushed g.sorts s table.sorts new in
    record {
      different = table.different;
      sorts = are;
      entries = All-append (IsEntry g.texts ss) g.functions (built_ins g.texts rs) (All-weaker (IsEntry g.texts g.sorts) (IsEntry g.texts ss) (entry_over_more g.texts g.sorts (s ∷ [])) g.functions table.entries) (rows_are_entries g.texts ss are rs named in');
      within = All-append (HasSortsIn ss) g.functions (built_ins g.texts rs) (All-weaker (HasSortsIn g.sorts) (HasSortsIn ss) (within_more g.sorts (s ∷ [])) g.functions table.within) (rows_are_within g.texts ss are rs named in');
      once = one_place_joined g.functions (built_ins g.texts rs) table.once absent;
      first = first_stays g.functions (built_ins g.texts rs) table.first;
      listed = table.listed ∙ sym (declared_both g.functions (built_ins g.texts rs) 0 ∙ ap (λ l. declared_from 0 g.functions ++ l) (none_declared g.texts rs (0 + length g.functions)) ∙ append-nil (declared_from 0 g.functions));
    }

-- the rows over a sort, and over a list sort
sort_rows_are_rows : (ss : List SortInfo) (s : SortId) → s.0 < length ss → All (IsRow ss) (sort_rows s)
sort_rows_are_rows ss s l = All-weaker (Contains (sort_rows s)) (IsRow ss) (λ r c. over_sort s l c) (sort_rows s) (All-contains_itself (sort_rows s))

list_table_are_rows : (ss : List SortInfo) (e l : SortId) → IsListOver ss e l → All (IsRow ss) (list_table e l)
unfolding list_table
list_table_are_rows ss e l o =
    All-append (IsRow ss) (sort_rows l) (list_rows e l) (sort_rows_are_rows ss l (slice_get_within ss l.0 o.0 o.1))
    (All-weaker (Contains (list_rows e l)) (IsRow ss) (λ r c. over_list e l o c) (list_rows e l) (All-contains_itself (list_rows e l)))

pub declared_sorts_keep_the_tables : DeclaredSortsKeepTheTables
declared_sorts_keep_the_tables g n complete table =
    let sort : SortId = record { 0 = length g.sorts } in
    let fit = sort_rows_fit g complete (length g.sorts) refl (sort_rows sort) refl in
    sorts_keep_the_tables g (abstract_sort n) (sort_rows sort) table (inl refl)
    (sort_rows_are_rows (g.sorts ++ abstract_sort n ∷ []) sort (omega (arith, length-append g.sorts (abstract_sort n ∷ [])))) fit.0 fit.1

pub list_sorts_keep_the_tables : ListSortsKeepTheTables
list_sorts_keep_the_tables g e complete table within none =
    let sort : SortId = record { 0 = length g.sorts } in
    let fit = list_rows_fit g complete e (length g.sorts) refl (list_table e sort) refl in
    sorts_keep_the_tables g (list_sort e) (list_table e sort) table (inr (e, refl, within, none))
    (list_table_are_rows (g.sorts ++ list_sort e ∷ []) e sort (list_sort e, read_last g.sorts (list_sort e), refl)) fit.0 fit.1

-- ---- a declared sort gets its constructors
-- what stands at a place after it, and before
read_after : (ss : List SortInfo) (i j : ℕ) (k : Kind) (y : SortInfo) → slice_get (with_kind ss i k) j ≡ Some y → (k ≡ y.kind) ⊎ (slice_get ss j ≡ Some y)
read_after [] i j k y e = inr e
read_after (z ∷ ss) zero zero k y e = inl (let p : record z { kind = k } ≡ y = cc in ap (λ (x : SortInfo). x.kind) p)
read_after (z ∷ ss) zero (suc j) k y e = inr e
read_after (z ∷ ss) (suc i) zero k y e = inr e
read_after (z ∷ ss) (suc i) (suc j) k y e = read_after ss i j k y e

read_before : (ss : List SortInfo) (i j : ℕ) (k : Kind) (s y : SortInfo) → slice_get ss i ≡ Some s → slice_get ss j ≡ Some y → (s ≡ y) ⊎ (slice_get (with_kind ss i k) j ≡ Some y)
read_before [] i j k s y a e = cc
read_before (z ∷ ss) zero zero k s y a e = inl (let p : s ≡ y = cc in p)
read_before (z ∷ ss) zero (suc j) k s y a e = inr e
read_before (z ∷ ss) (suc i) zero k s y a e = inr e
read_before (z ∷ ss) (suc i) (suc j) k s y a e = read_before ss i j k s y a e

pub as_many_after : (ss : List SortInfo) (i : ℕ) (k : Kind) → length (with_kind ss i k) ≡ length ss
as_many_after [] i k = refl
as_many_after (z ∷ ss) zero k = refl
as_many_after (z ∷ ss) (suc i) k = ap suc (as_many_after ss i k)

module _ (ss : List SortInfo) (i : ℕ) (s : SortInfo) (new : Kind) (are : AreSorts ss) (at : slice_get ss i ≡ Some s) (was : IsDeclaredKind s.kind) (is : IsDeclaredKind new) where
  abbrev after : List SortInfo
  after = with_kind ss i new

  -- the sorts that aren't declared stand where they stood
  same_kinds : (k : Kind) → (IsDeclaredKind k → ⊥) → (j : ℕ) → HasKind after j k ↔ HasKind ss j k
  same_kinds k other j = (λ h. by_new h.0 h.2 (read_after ss i j new h.0 h.1), λ h. by_old h.0 h.2 (read_before ss i j new s h.0 at h.1))
    where
      by_new : (x : SortInfo) → x.kind ≡ k → (new ≡ x.kind) ⊎ (slice_get ss j ≡ Some x) → HasKind ss j k
      by_new x q (inl e) = absurd (other (subst IsDeclaredKind (e ∙ q) is))
      by_new x q (inr e) = (x, e, q)

      by_old : (x : SortInfo) → x.kind ≡ k → (s ≡ x) ⊎ (slice_get after j ≡ Some x) → HasKind after j k
      by_old x q (inl e) = absurd (other (subst IsDeclaredKind (ap (λ (y : SortInfo). y.kind) e ∙ q) was))
      by_old x q (inr e) = (x, e, q)

  set_kind : (n : ℕ) (k : Kind) → (IsDeclaredKind k → ⊥) → ((j : ℕ) → HasKind ss j k ↔ (j ≡ n)) → (j : ℕ) → HasKind after j k ↔ (j ≡ n)
  set_kind n k other old j = (λ h. (old j).0 ((same_kinds k other j).0 h), λ e. (same_kinds k other j).1 ((old j).1 e))

  no_list : (e : SortId) → IsDeclaredKind (sorts.lists_over e) → ⊥
  no_list e d = omega (arith, d)

  pub list_before : (e l : SortId) → IsListOver after e l → IsListOver ss e l
  list_before e l o = (same_kinds (sorts.lists_over e) (no_list e) l.0).0 o

  sorts_set : AreSorts after
  sorts_set = record {
    boolean_first = set_kind 0 sorts.booleans (λ d. omega (arith, d)) are.boolean_first;
    positive_second = set_kind 1 sorts.positives (λ d. omega (arith, d)) are.positive_second;
    natural_third = set_kind 2 sorts.naturals (λ d. omega (arith, d)) are.natural_third;
    integer_fourth = set_kind 3 sorts.integers (λ d. omega (arith, d)) are.integer_fourth;
    behind_element = λ e l o. are.behind_element e l (list_before e l o);
    once = λ e k l o p. are.once e k l (list_before e k o) (list_before e l p);
  }

  row_set : (r : Row) → IsRow ss r → IsRow after r
  row_set r (of_front c) = of_front c
  row_set r (over_sort x l c) = over_sort x (rw (as_many_after ss i new) l) c
  row_set r (over_list e l o c) = over_list e l ((same_kinds (sorts.lists_over e) (no_list e) l.0).1 o) c

  entry_set : (texts : List (List ℕ)) (f : Function) → IsEntry texts ss f → IsEntry texts after f
  entry_set texts f (declared e c) = declared e c
  entry_set texts f (of_row r x e t) = of_row r (row_set r x) e t

  within_set : (f : Function) → HasSortsIn ss f → HasSortsIn after f
  within_set f h = rw (as_many_after ss i new) h

pub constructors_keep_the_tables : ConstructorsKeepTheTables
constructors_keep_the_tables g s k table bare is =
    let ss = with_kind g.sorts s.0 k in
    let was : IsDeclaredKind bare.0.kind = ap (λ x. length (construction_of x)) bare.2 in
    record {
      different = table.different;
      sorts = sorts_set g.sorts s.0 bare.0 k table.sorts bare.1 was is;
      entries = All-weaker (IsEntry g.texts g.sorts) (IsEntry g.texts ss) (entry_set g.sorts s.0 bare.0 k table.sorts bare.1 was is g.texts) g.functions table.entries;
      within = All-weaker (HasSortsIn g.sorts) (HasSortsIn ss) (within_set g.sorts s.0 bare.0 k table.sorts bare.1 was is) g.functions table.within;
      once = table.once;
      first = table.first;
      listed = table.listed;
    }
