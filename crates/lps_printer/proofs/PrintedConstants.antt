-- Constants for empty lists in a printed text.
use Rattle.std.proofs.Common.{◌≡◌, ℕ, zero, suc, ◌+◌, ◌-◌, ◌<◌, ◌≤◌, ◌⊎◌, inl, inr, List, [], ◌∷◌, length, map, replicate, Option, Some, None, refl, sym, ap, ◌∙◌, subst, arith, length-append, ⊎_elim}
use Rattle.std.specs.Prelude.{slice_get}
use Rattle.std.specs.List.{All, range_with_len}
use Rattle.std.proofs.Math.ListN.{set}
use Rattle.std.proofs.lemmas.List.{length-map}
use Rattle.std.proofs.lemmas.List.Elements.{All-nil, All-cons, All-head, All-tail}
use Rattle.std.proofs.lemmas.Option.{none-some, same_Some}
use Rattle.data_theory.specs.declared.ids.FunId.{FunId}
use Rattle.data_theory.specs.declared.words.ListWord.TheVariants as lists
use Rattle.data_theory.specs.declared.words.Word.TheVariants as words
use Rattle.data_theory.specs.Terms.{list}
use Rattle.data_theory.specs.Declarations.{result_sort}
use Rattle.data_theory.specs.IdData.{data_meant}
use Rattle.data_theory.specs.IdSymbols.{declared_from}
use Rattle.data_theory.specs.IdTables.{IsTable}
use Rattle.data_theory.specs.IdTerms.{sort_under, symbol_under}
use Rattle.data_theory.specs.Signature.{Sig}
use Rattle.data_theory.specs.Structs.{numbers_from}
use Rattle.data_theory.specs.WholeSignatures.{IsSignature}
use Rattle.data_theory.proofs.IdSymbolLemmas.{built_in_tells}
use Rattle.data_theory.specs.IdTrees.{Tree}
use Rattle.mcrl2_syntax.specs.Declarations.{PlainSpec}
use Rattle.data_theory.specs.declared.ids.NameId.{NameId}
use Rattle.process_terms.specs.SignatureEntries.{entries_of}
use Rattle.lps_core.specs.PlainLinears.{PlainLinear, linear_of, initial_of}
use Rattle.sort_table.specs.SignatureVocabularies.{text_under}
use Rattle.lps_printer.specs.SignatureNames.{text_names_under}
use Rattle.lps_printer.specs.AddedConstants.{result_or, result_in, AddsConstants, bare_table, with_constants, AreConstants}
use Rattle.lps_printer.specs.NeededConstants.{Finds, linear_nils, IsNil, nil_sort}
use Rattle.lps_printer.specs.PrintedLinears.{HasText, IsPrinted, linear_text}
use Rattle.lps_printer.proofs.FilledLinears.{empty_manner}
use Rattle.lps_printer.proofs.NeededConstants.{nil_symbol}
use Rattle.lps_printer.proofs.ConstantWording.{constants_new, mapped_once, found_differ, constants_are_worded}

-- ---- entries of the table
set_read : {A : Type 0} (xs : List A) (i : ℕ) (y : A) (k : ℕ) (z : A) → slice_get (set xs i y) k ≡ Some z → (y ≡ z) ⊎ (slice_get xs k ≡ Some z)
set_read [] i y k z e = absurd (none-some z e)
set_read (x ∷ xs) zero y zero z e = inl (same_Some y z e)
set_read (x ∷ xs) zero y (suc k) z e = inr e
set_read (x ∷ xs) (suc i) y zero z e = inr e
set_read (x ∷ xs) (suc i) y (suc k) z e = set_read xs i y k z e

abbrev AreBelow : ℕ → List (Option FunId) → Type 0
AreBelow m table = (k : ℕ) (f : FunId) → slice_get table k ≡ Some (Some f) → f.0 < m

all_below : (n : ℕ) (nils : List FunId) (table : List (Option FunId)) (m : ℕ) → n + length nils ≤ m → AreBelow m table → AreBelow m (with_constants n nils table)
all_below n [] table m l b = b
all_below n (x ∷ nils) table m l b = all_below (suc n) nils (set table x.0 (Some (record { 0 = n }))) m (omega (arith, l)) (λ k f e. ⊎_elim (λ q. here f (same_Some _ _ q)) (λ q. b k f q) (set_read table x.0 (Some (record { 0 = n })) k (Some f) e))
  where
    here : (f : FunId) → record { 0 = n } ≡ f → f.0 < m
    here f q = let same : n ≡ f.0 = ap (λ (y : FunId). y.0) q in omega (arith, same, l)

none_below : (n m : ℕ) → AreBelow m (replicate n None)
none_below zero m k f e = absurd (none-some (Some f) e)
none_below (suc n) m zero f e = absurd (none-some f (same_Some None (Some f) e))
none_below (suc n) m (suc k) f e = none_below n m k f e

numbers_below : (n k m : ℕ) → n + k ≤ m → All (λ (f : FunId). f.0 < m) (numbers_from n k)
numbers_below n zero m l = All-nil (λ (f : FunId). f.0 < m)
numbers_below n (suc k) m l = All-cons (λ (f : FunId). f.0 < m) (record { 0 = n }) (map (λ i. record { 0 = i }) (range_with_len (n + 1) k)) (omega (arith, l)) (numbers_below (n + 1) k m (omega (arith, l)))

-- ---- sorts
nil_over : (g : Sig) (table : IsTable g) (f : FunId) → IsNil g f → sort_under g (result_in g f) ≡ list (nil_sort g f)
nil_over g table f h =
    let told = built_in_tells g table f h.0 (words.List lists.Empty) h.1 h.2 in
    ap (λ o. sort_under g (result_or o)) h.1 ∙ sym told.5 ∙ ap (result_sort (data_meant g)) (empty_manner (symbol_under g f) (nil_sort g f) (nil_symbol g table f h))

nils_over : (g : Sig) (table : IsTable g) (nils : List FunId) → All (IsNil g) nils → map (sort_under g) (map (result_in g) nils) ≡ map list (map (nil_sort g) nils)
nils_over g table [] a = refl
nils_over g table (f ∷ nils) a =
    let first = nil_over g table f (All-head (IsNil g) f nils a) in
    let rest = nils_over g table nils (All-tail (IsNil g) f nils a) in
    (λ i. first i ∷ rest i)

-- ---- what is printed with them
module _ (g h : Sig) (before : IsSignature g) (nils : List FunId) (added : AddsConstants g (map (result_in g) nils) h) where
  pub many_new : length h.functions ≡ length g.functions + length nils
  many_new =
      let new = constants_new g h (map (result_in g) nils) added in
      ap length new.behind ∙ length-append g.functions new.news ∙ ap (λ n. length g.functions + n) (new.many ∙ length-map nils (result_in g))

  pub table_below : (table : List (Option FunId)) → table ≡ with_constants (length g.functions) nils (bare_table g) → (k : ℕ) (f : FunId) → slice_get table k ≡ Some (Some f) → f.0 < length h.functions
  table_below table e = subst (AreBelow (length h.functions)) (sym e) (all_below (length g.functions) nils (bare_table g) (length h.functions) (omega (arith, many_new)) (none_below (length g.functions) (length h.functions)))

  pub added_below : (first last : ℕ) → first ≡ length g.functions → last ≡ length h.functions → (fs : List FunId) → fs ≡ numbers_from first (last - first) → All (λ (f : FunId). f.0 < length h.functions) fs
  added_below first last p q fs e = subst (All (λ (f : FunId). f.0 < length h.functions)) (sym e) (numbers_below first (last - first) (length h.functions) (omega (arith, p, q, many_new)))

  pub is_printed : (spec : PlainSpec) (ts : List Tree) (x : NameId) (l : PlainLinear) (text : List ℕ) (table : List (Option FunId)) (first last : ℕ) (fs : List FunId) → IsSignature h → All (IsNil g) nils
      → Finds [] (linear_nils (text_names_under g []) (linear_of (entries_of g ts) l) (initial_of (entries_of g ts) l)) (map (nil_sort g) nils)
      → table ≡ with_constants (length g.functions) nils (bare_table g) → first ≡ length g.functions → last ≡ length h.functions → fs ≡ numbers_from first (last - first) → HasText spec h ts table (text_under h x) l fs text → IsPrinted spec g h ts x l text
  is_printed spec ts x l text table first last fs after all finds same p q numbers has =
      let count : last - first ≡ length (map (nil_sort g) nils) = omega (arith, p, q, many_new, length-map nils (nil_sort g)) in
      record {
        needed = map (nil_sort g) nils;
        finds = finds;
        sorts = map (result_in g) nils;
        over = nils_over g before.table nils all;
        added = added;
        written = λ c are.
            let here : AreConstants (length (declared_from 0 g.functions)) (map (nil_sort g) nils) c = subst (λ d. AreConstants (length d) (map (nil_sort g) nils) c) before.table.listed are in
            let worded = constants_are_worded g h before after nils all (mapped_once (nil_sort g) nils (found_differ finds)) added c here (text_under h x) in
            subst (λ t. HasText spec h ts t (text_under h x) l fs text) same has c worded
            ∙ ap (λ ns. linear_text spec h ts (text_under h x) l ns c) (numbers ∙ (λ i. numbers_from (p i) (count i)));
      }

-- by the keys of a set, which are a slice
pub printed_by_keys : (g h : Sig) (before : IsSignature g) (keys nils : List FunId) → nils ≡ keys → (added : AddsConstants g (map (result_in g) nils) h) (spec : PlainSpec) (ts : List Tree) (x : NameId) (l : PlainLinear) (text : List ℕ) (table : List (Option FunId)) (first last : ℕ) (fs : List FunId) → IsSignature h → All (IsNil g) keys
    → Finds [] (linear_nils (text_names_under g []) (linear_of (entries_of g ts) l) (initial_of (entries_of g ts) l)) (map (nil_sort g) keys)
    → table ≡ with_constants (length g.functions) nils (bare_table g) → first ≡ length g.functions → last ≡ length h.functions → fs ≡ numbers_from first (last - first) → HasText spec h ts table (text_under h x) l fs text → IsPrinted spec g h ts x l text
printed_by_keys g h before keys nils e added spec ts x l text table first last fs after all finds =
    is_printed g h before nils added spec ts x l text table first last fs after (subst (All (IsNil g)) (sym e) all) (subst (λ xs. Finds [] (linear_nils (text_names_under g []) (linear_of (entries_of g ts) l) (initial_of (entries_of g ts) l)) (map (nil_sort g) xs)) (sym e) finds)
