-- Rows, names of sorts and actions that each signature keeps.
use Rattle.std.proofs.Common.{◌≡◌, ℕ, zero, suc, ◌<◌, ◌+◌, ◌⊎◌, inl, inr, List, [], ◌∷◌, ◌++◌, map, length, Bool, true, false, cond, Some, None, refl, sym, ap, ◌∙◌, subst, arith, length-append}
use Rattle.std.specs.Prelude.{slice_get, IfSome, bytes_eq}
use Rattle.std.specs.List.{Contains, list_any}
use Rattle.std.proofs.lemmas.List.{map-append}
use Rattle.std.proofs.lemmas.List.Elements.{All-weaker, All-contains_itself, Contains-append_left, Contains-append_right, Contains-push}
use Rattle.data_theory.specs.declared.ids.NameId.{NameId}
use Rattle.data_theory.specs.declared.ids.SortId.{SortId}
use Rattle.data_theory.specs.declared.ids.FunId.{FunId}
use Rattle.data_theory.specs.declared.rows.Row.{Row}
use Rattle.data_theory.specs.Names.{Enters, with_text, place_in}
use Rattle.data_theory.specs.Places.{HaveOnePlace}
use Rattle.data_theory.specs.Keys.{key}
use Rattle.data_theory.specs.Sorts as sorts
use Rattle.data_theory.specs.Sorts.{Kind, SortInfo, with_kind, first_sorts, abstract_sort, list_sort, IsListOver, IsBare}
use Rattle.data_theory.specs.SortNames.{IsName}
use Rattle.data_theory.specs.Functions.{Function}
use Rattle.data_theory.specs.Rows.{row_word, row_text, row_function, built_in, built_ins}
use Rattle.data_theory.specs.Table.{bool_sort, pos_sort, nat_sort, int_sort, first_rows, truth_rows, comparison_rows, sum_rows, quotient_rows, extreme_rows, step_rows, sort_rows, list_rows, list_table, first_table}
use Rattle.data_theory.specs.Signature.{Sig, IsAct}
use Rattle.data_theory.specs.Complete.{IsComplete}
use Rattle.data_theory.specs.IdSorts.{IsDeclaredKind, AreSorts, construction_of}
use Rattle.data_theory.specs.IdSymbols.{declared_from}
use Rattle.data_theory.specs.IdTables.{IsTable}
use Rattle.data_theory.specs.IdRoles.{IsDeclaredTo}
use Rattle.data_theory.specs.WholeSignatures.{AreThere, HaveTheirRows, LeadToTheirSorts}
use Rattle.data_theory.proofs.PlaceLemmas.{pushed_by_place, key_of_entry, one_place_pushed}
use Rattle.data_theory.proofs.NameLemmas.{Behind, still_there, text_among, among_texts, has_text, place_reads}
use Rattle.data_theory.proofs.TableLemmas.{HasWords}
use Rattle.data_theory.proofs.ListSortLemmas.{below_or_above}
use Rattle.data_theory.proofs.CompleteLemmas.{no_action}
use Rattle.data_theory.proofs.IdTableLemmas.{no_list_first, as_many_after, list_before}
use Rattle.data_theory.proofs.IdDataLemmas.{declared_found}

-- ---- rows
mapped : {A B : Type 0} (f : A → B) (xs : List A) (x : A) → Contains xs x → Contains (map f xs) (f x)
mapped f [] x c = absurd (omega (arith, c.1))
mapped f (y ∷ xs) x (zero, l, e) = (zero, omega arith, (λ i. f (e i)))
mapped f (y ∷ xs) x (suc k, l, e) = let c = mapped f xs x (k, omega (arith, l), e) in (suc c.0, omega (arith, c.1), c.2)

-- the functions of rows among those of a table
rows_there : (texts : List (List ℕ)) (fs : List Function) (rows some : List Row) → ((r : Row) → Contains some r → Contains rows r) → ((f : Function) → Contains (built_ins texts rows) f → Contains fs f) → AreThere texts fs some
rows_there texts fs rows some among stand =
    All-weaker (Contains some) (λ r. Contains fs (built_in texts r)) (λ r c. stand (built_in texts r) (mapped (built_in texts) rows r (among r c))) some (All-contains_itself some)

still_rows : (texts : List (List ℕ)) (fs more : List Function) (rows : List Row) → AreThere texts fs rows → AreThere texts (fs ++ more) rows
still_rows texts fs more rows all = All-weaker (λ (r : Row). Contains fs (built_in texts r)) (λ r. Contains (fs ++ more) (built_in texts r)) (λ r c. Contains-append_left fs more (built_in texts r) c) rows all

rows_renamed : (old new : List (List ℕ)) → Behind old new → HasWords old → (fs : List Function) (rows : List Row) → AreThere old fs rows → AreThere new fs rows
rows_renamed old new b has fs rows all =
    All-weaker (λ (r : Row). Contains fs (built_in old r)) (λ r. Contains fs (built_in new r))
    (λ r c. subst (Contains fs) (ap (λ (n : NameId). row_function n r) (sym (still_there old new (row_text r) b (has (row_word r))))) c)
    rows all

pub rows_with_texts : (old new : List (List ℕ)) (ss : List SortInfo) (fs : List Function) → Behind old new → HasWords old → HaveTheirRows old ss fs → HaveTheirRows new ss fs
rows_with_texts old new ss fs b has rows = record {
  over_sorts = λ s l. rows_renamed old new b has fs (sort_rows s) (rows.over_sorts s l);
  over_lists = λ e l o. rows_renamed old new b has fs (list_rows e l) (rows.over_lists e l o);
}

pub rows_with_functions : (texts : List (List ℕ)) (ss : List SortInfo) (fs more : List Function) → HaveTheirRows texts ss fs → HaveTheirRows texts ss (fs ++ more)
rows_with_functions texts ss fs more rows = record {
  over_sorts = λ s l. still_rows texts fs more (sort_rows s) (rows.over_sorts s l);
  over_lists = λ e l o. still_rows texts fs more (list_rows e l) (rows.over_lists e l o);
}

-- ---- the first ones
behind_front : {A : Type 0} (front xs : List A) (x : A) → Contains xs x → Contains (front ++ xs) x
behind_front front xs x c = Contains-append_right front xs x c

in_front : {A : Type 0} (xs more : List A) (x : A) → Contains xs x → Contains (xs ++ more) x
in_front xs more x c = Contains-append_left xs more x c

abbrev numbers : List Row
numbers = comparison_rows ++ sum_rows ++ quotient_rows ++ extreme_rows ++ step_rows

abbrev from_int : List Row
from_int = sort_rows int_sort ++ numbers

abbrev from_nat : List Row
from_nat = sort_rows nat_sort ++ from_int

abbrev from_pos : List Row
from_pos = sort_rows pos_sort ++ from_nat

abbrev from_bool : List Row
from_bool = sort_rows bool_sort ++ from_pos

first_parts : first_table ≡ first_rows ++ (truth_rows ++ from_bool)
unfolding first_table first_rows truth_rows extreme_rows sort_rows step_rows
first_parts = refl

first_sort_rows : (s : SortId) → s.0 < 4 → (r : Row) → Contains (sort_rows s) r → Contains first_table r
first_sort_rows s l r c = subst (λ rows. Contains rows r) (sym first_parts) (behind_front first_rows (truth_rows ++ from_bool) r (behind_front truth_rows from_bool r (by_number s.0 refl l)))
  where
    there : (n : ℕ) → s.0 ≡ n → Contains (sort_rows (record { 0 = n })) r
    there n e = subst (λ (k : ℕ). Contains (sort_rows (record { 0 = k })) r) e c

    by_number : (n : ℕ) → s.0 ≡ n → n < 4 → Contains from_bool r
    by_number zero e l = in_front (sort_rows bool_sort) from_pos r (there 0 e)
    by_number (suc zero) e l = behind_front (sort_rows bool_sort) from_pos r (in_front (sort_rows pos_sort) from_nat r (there 1 e))
    by_number (suc (suc zero)) e l = behind_front (sort_rows bool_sort) from_pos r (behind_front (sort_rows pos_sort) from_nat r (in_front (sort_rows nat_sort) from_int r (there 2 e)))
    by_number (suc (suc (suc zero))) e l =
        behind_front (sort_rows bool_sort) from_pos r (behind_front (sort_rows pos_sort) from_nat r (behind_front (sort_rows nat_sort) from_int r (in_front (sort_rows int_sort) numbers r (there 3 e))))
    by_number (suc (suc (suc (suc n)))) e l = absurd (omega (arith, l))

pub first_have_rows : (texts : List (List ℕ)) → HaveTheirRows texts first_sorts (built_ins texts first_table)
first_have_rows texts = record {
  over_sorts = λ s l. rows_there texts (built_ins texts first_table) first_table (sort_rows s) (first_sort_rows s l) (λ f c. c);
  over_lists = λ e l o. absurd (no_list_first e l o);
}

-- ---- a further sort
sort_cases : (ss : List SortInfo) (x : SortInfo) (s : SortId) → s.0 < length (ss ++ x ∷ []) → (s.0 < length ss) ⊎ (record { 0 = length ss } ≡ s)
sort_cases ss x s l = elim (below_or_above s.0 (length ss)) [
  | inl b ↦ inl b
  | inr a ↦ inr (ap (λ (n : ℕ). record { 0 = n }) (omega (arith, l, a, length-append ss (x ∷ []))))
]

-- where the functions of rows come behind, among which are those over the sort that comes behind
module _ (texts : List (List ℕ)) (ss : List SortInfo) (x : SortInfo) (fs : List Function) (new : List Row) (rows : HaveTheirRows texts ss fs) (own : (r : Row) → Contains (sort_rows (record { 0 = length ss })) r → Contains new r) where
  abbrev all : List Function
  all = fs ++ built_ins texts new

  new_there : (some : List Row) → ((r : Row) → Contains some r → Contains new r) → AreThere texts all some
  new_there some among = rows_there texts all new some among (λ f c. Contains-append_right fs (built_ins texts new) f c)

  over_all_sorts : (s : SortId) → s.0 < length (ss ++ x ∷ []) → AreThere texts all (sort_rows s)
  over_all_sorts s l = elim (sort_cases ss x s l) [
    | inl b ↦ still_rows texts fs (built_ins texts new) (sort_rows s) (rows.over_sorts s b)
    | inr e ↦ subst (λ (i : SortId). AreThere texts all (sort_rows i)) e (new_there (sort_rows (record { 0 = length ss })) own)
  ]

pub rows_with_sort : (texts : List (List ℕ)) (ss : List SortInfo) (fs : List Function) (n : NameId) → HaveTheirRows texts ss fs → HaveTheirRows texts (ss ++ abstract_sort n ∷ []) (fs ++ built_ins texts (sort_rows (record { 0 = length ss })))
rows_with_sort texts ss fs n rows = record {
  over_sorts = over_all_sorts texts ss (abstract_sort n) fs new rows (λ r c. c);
  over_lists = over_lists;
}
  where
    new : List Row
    new = sort_rows (record { 0 = length ss })

    over_lists : (e l : SortId) → IsListOver (ss ++ abstract_sort n ∷ []) e l → AreThere texts (fs ++ built_ins texts new) (list_rows e l)
    over_lists e l o = elim (pushed_by_place ss (abstract_sort n) o.0 l.0 o.1) [
      | inl at ↦ still_rows texts fs (built_ins texts new) (list_rows e l) (rows.over_lists e l (o.0, at, o.2))
      | inr at ↦ absurd (let z : sorts.without_constructors ≡ sorts.lists_over e = ap (λ (s : SortInfo). s.kind) at.1 ∙ o.2 in cc)
    ]

list_parts : (e l : SortId) → list_table e l ≡ sort_rows l ++ list_rows e l
unfolding list_table
list_parts e l = refl

pub rows_with_list : (texts : List (List ℕ)) (ss : List SortInfo) (fs : List Function) (d : SortId) → HaveTheirRows texts ss fs → HaveTheirRows texts (ss ++ list_sort d ∷ []) (fs ++ built_ins texts (list_table d (record { 0 = length ss })))
rows_with_list texts ss fs d rows = record {
  over_sorts = over_all_sorts texts ss (list_sort d) fs new rows own;
  over_lists = over_lists;
}
  where
    list : SortId
    list = record { 0 = length ss }

    new : List Row
    new = list_table d list

    own : (r : Row) → Contains (sort_rows list) r → Contains new r
    own r c = subst (λ rs. Contains rs r) (sym (list_parts d list)) (in_front (sort_rows list) (list_rows d list) r c)

    further : (r : Row) → Contains (list_rows d list) r → Contains new r
    further r c = subst (λ rs. Contains rs r) (sym (list_parts d list)) (behind_front (sort_rows list) (list_rows d list) r c)

    over_lists : (e l : SortId) → IsListOver (ss ++ list_sort d ∷ []) e l → AreThere texts (fs ++ built_ins texts new) (list_rows e l)
    over_lists e l o = elim (pushed_by_place ss (list_sort d) o.0 l.0 o.1) [
      | inl at ↦ still_rows texts fs (built_ins texts new) (list_rows e l) (rows.over_lists e l (o.0, at, o.2))
      | inr at ↦
          let kinds : sorts.lists_over d ≡ sorts.lists_over e = ap (λ (s : SortInfo). s.kind) at.1 ∙ o.2 in
          let element : d ≡ e = cc in
          let here : list ≡ l = ap (λ (n : ℕ). record { 0 = n }) (sym at.0) in
          subst (λ (i : SortId). AreThere texts (fs ++ built_ins texts new) (list_rows i l)) element
          (subst (λ (i : SortId). AreThere texts (fs ++ built_ins texts new) (list_rows d i)) here (new_there texts ss (list_sort d) fs new rows own (list_rows d list) further))
    ]

-- ---- a declared sort gets its constructors
pub rows_with_kind : (texts : List (List ℕ)) (ss : List SortInfo) (fs : List Function) (sort : SortId) (k : Kind) → AreSorts ss → IsBare ss sort → IsDeclaredKind k → HaveTheirRows texts ss fs → HaveTheirRows texts (with_kind ss sort.0 k) fs
rows_with_kind texts ss fs sort k are bare is rows =
    let was : IsDeclaredKind bare.0.kind = ap (λ x. length (construction_of x)) bare.2 in
    record {
      over_sorts = λ s l. rows.over_sorts s (subst (λ n. s.0 < n) (as_many_after ss sort.0 k) l);
      over_lists = λ e l o. rows.over_lists e l (list_before ss sort.0 bare.0 k are bare.1 was is e l o);
    }

name_kept : (ss : List SortInfo) (i j : ℕ) (k : Kind) (y : SortInfo) → slice_get (with_kind ss i k) j ≡ Some y → (x : SortInfo) × (slice_get ss j ≡ Some x) × (x.name ≡ y.name)
name_kept [] i j k y e = cc
name_kept (z ∷ ss) zero zero k y e = (z, refl, (let p : record z { kind = k } ≡ y = cc in ap (λ (x : SortInfo). x.name) p))
name_kept (z ∷ ss) zero (suc j) k y e = (y, e, refl)
name_kept (z ∷ ss) (suc i) zero k y e = (y, e, refl)
name_kept (z ∷ ss) (suc i) (suc j) k y e = name_kept ss i j k y e

-- ---- names of sorts
pub first_lead : (names : List (NameId × SortId)) → LeadToTheirSorts first_sorts names
first_lead names i s n at named = absurd (no_name i.0 at)
  where
    no_name : (k : ℕ) → slice_get first_sorts k ≡ Some s → ⊥
    no_name zero e = let z : None ≡ Some n = (let p : record { kind = sorts.booleans; name = None } ≡ s = cc in ap (λ (x : SortInfo). x.name) p ∙ named) in cc
    no_name (suc zero) e = let z : None ≡ Some n = (let p : record { kind = sorts.positives; name = None } ≡ s = cc in ap (λ (x : SortInfo). x.name) p ∙ named) in cc
    no_name (suc (suc zero)) e = let z : None ≡ Some n = (let p : record { kind = sorts.naturals; name = None } ≡ s = cc in ap (λ (x : SortInfo). x.name) p ∙ named) in cc
    no_name (suc (suc (suc zero))) e = let z : None ≡ Some n = (let p : record { kind = sorts.integers; name = None } ≡ s = cc in ap (λ (x : SortInfo). x.name) p ∙ named) in cc
    no_name (suc (suc (suc (suc k)))) e = cc

pub lead_with_name : (ss : List SortInfo) (names : List (NameId × SortId)) (n : NameId) (sort : SortId) → LeadToTheirSorts ss names → LeadToTheirSorts ss (names ++ (n, sort) ∷ [])
lead_with_name ss names n sort lead i s m at named = Contains-append_left names ((n, sort) ∷ []) (m, i) (lead i s m at named)

pub lead_with_sort : (ss : List SortInfo) (names : List (NameId × SortId)) (n : NameId) → LeadToTheirSorts ss names → LeadToTheirSorts (ss ++ abstract_sort n ∷ []) (names ++ (n, record { 0 = length ss }) ∷ [])
lead_with_sort ss names n lead i s m at named = elim (pushed_by_place ss (abstract_sort n) s i.0 at) [
  | inl e ↦ Contains-append_left names ((n, record { 0 = length ss }) ∷ []) (m, i) (lead i s m e named)
  | inr e ↦
      let names_are : Some n ≡ Some m = ap (λ (x : SortInfo). x.name) e.1 ∙ named in
      let name : n ≡ m = cc in
      let here : record { 0 = length ss } ≡ i = ap (λ (k : ℕ). record { 0 = k }) (sym e.0) in
      subst (λ (p : NameId × SortId). Contains (names ++ (n, record { 0 = length ss }) ∷ []) p) (λ k. (name k, here k)) (Contains-push names (n, record { 0 = length ss }))
]

pub lead_with_list : (ss : List SortInfo) (names : List (NameId × SortId)) (e : SortId) → LeadToTheirSorts ss names → LeadToTheirSorts (ss ++ list_sort e ∷ []) names
lead_with_list ss names e lead i s m at named = elim (pushed_by_place ss (list_sort e) s i.0 at) [
  | inl h ↦ lead i s m h named
  | inr h ↦ absurd (let z : None ≡ Some m = ap (λ (x : SortInfo). x.name) h.1 ∙ named in cc)
]

pub lead_with_kind : (ss : List SortInfo) (names : List (NameId × SortId)) (k : ℕ) (d : Kind) → LeadToTheirSorts ss names → LeadToTheirSorts (with_kind ss k d) names
lead_with_kind ss names k d lead i s m at named = let h = name_kept ss k i.0 d s at in lead i h.0 m h.1 (h.2 ∙ named)

pub names_still_differ : (names : List (NameId × SortId)) (n : NameId) (sort : SortId) → (IsName names n → ⊥) → HaveOnePlace (map (λ (e : NameId × SortId). e.0) names) → HaveOnePlace (map (λ (e : NameId × SortId). e.0) (names ++ (n, sort) ∷ []))
names_still_differ names n sort absent differ =
    subst HaveOnePlace (sym (map-append (λ (e : NameId × SortId). e.0) names ((n, sort) ∷ [])))
    (one_place_pushed (map (λ (e : NameId × SortId). e.0) names) n differ (λ c.
    let h = key_of_entry (λ (e : NameId × SortId). e.0) names n c in
    absent (h.0.1, subst (λ (m : NameId). Contains names (m, h.0.1)) h.1.1 h.1.0)))

-- ---- actions
text_enters : (texts : List (List ℕ)) (t : List ℕ) → Enters texts t (with_text texts t)
text_enters texts t = by_test (list_any (bytes_eq t) texts) refl
  where
    by_test : (b : Bool) → list_any (bytes_eq t) texts ≡ b → Enters texts t (cond b texts (texts ++ t ∷ []))
    by_test true e = inl (text_among texts t e, refl)
    by_test false e = inr ((λ c. let z : true ≡ false = sym (among_texts texts t c) ∙ e in cc), refl)

pub actions_still_differ : (g : Sig) (t : List ℕ) (ss : List SortId) → IsComplete g → (IsAct g t ss → ⊥) → HaveOnePlace g.actions → HaveOnePlace (g.actions ++ key (place_in (with_text g.texts t) t) ss ∷ [])
actions_still_differ g t ss complete absent differ =
    let texts : List (List ℕ) = with_text g.texts t in
    one_place_pushed g.actions (key (place_in texts t) ss) differ (no_action g t ss texts (place_in texts t) complete absent (text_enters g.texts t) (place_reads texts t (has_text g.texts t)))

-- ---- constructors
-- a function that is listed was declared
pub declared_to : (g : Sig) → IsTable g → (sort : SortId) (c : FunId) → Contains g.declared c → IfSome (slice_get g.functions c.0) (λ f. f.result ≡ sort) → IsDeclaredTo g.functions c sort
declared_to g table sort c has result =
    let there : Contains (declared_from 0 g.functions) c = subst (λ ds. Contains ds c) table.listed has in
    let h = declared_found g.functions 0 there.0 c there.1 in
    let number : c ≡ record { 0 = 0 + h.0 } = sym there.2 ∙ h.2 in
    let at : slice_get g.functions c.0 ≡ Some h.1 = ap (λ (i : FunId). slice_get g.functions i.0) number ∙ (ap (slice_get g.functions) (let z : 0 + h.0 ≡ h.0 = omega arith in z) ∙ h.3) in
    (h.1, at, h.4, subst (λ o. IfSome o (λ (f : Function). f.result ≡ sort)) at result)
