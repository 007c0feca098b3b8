-- The constants that are added are of the lists that they stand for.
use Rattle.std.proofs.Common.{◌≡◌, ℕ, zero, suc, ◌+◌, ◌<◌, List, [], ◌∷◌, ◌++◌, length, map, codes, Option, Some, None, refl, sym, ap, ◌∙◌, subst, arith, length-append}
use Rattle.std.specs.Prelude.{slice_get, option_map}
use Rattle.std.specs.List.{Contains}
use Rattle.std.proofs.Math.Seq.{take-length}
use Rattle.std.proofs.lemmas.List.{length-map}
use Rattle.std.proofs.lemmas.Option.{none-some, same_Some, slice_get_within, slice_get-map}
use Rattle.data_theory.specs.declared.ids.SortId.{SortId}
use Rattle.data_theory.specs.Terms.{Sort, list}
use Rattle.data_theory.specs.Declarations.{DeclaredFunction, function_at}
use Rattle.data_theory.specs.Functions.{Function, declared_function}
use Rattle.data_theory.specs.Signature.{Sig, with_taken}
use Rattle.data_theory.specs.IdData.{data_meant, function_meant}
use Rattle.data_theory.specs.IdSorts.{sort_meant}
use Rattle.data_theory.specs.IdSymbols.{declared_from}
use Rattle.data_theory.specs.IdTerms.{sort_under}
use Rattle.data_theory.specs.WholeSignatures.{IsSignature}
use Rattle.data_theory.proofs.PlaceLemmas.{read_contained, read_behind}
use Rattle.data_theory.proofs.IdSortLemmas.{read_within}
use Rattle.data_theory.proofs.IdSymbolLemmas.{declared_both, declared_functions_stand_in_the_data}
use Rattle.term_pool.proofs.DeclaredConstants.{still_read}
use Rattle.lps_printer.specs.EmptyLists.{HasNils}
use Rattle.lps_printer.specs.Wordings.{place_of}
use Rattle.lps_printer.specs.AddedConstants.{AddsEach, none_left, adds, AddsConstants, AreConstants}
use Rattle.lps_printer.specs.NeedLaws.{AddedConstantsAreNils}
use Rattle.lps_printer.proofs.AddedConstants.{one_function_more}
use Rattle.lps_printer.proofs.ConstantWording.{HasNew, each_grows, constants_new, new_place, all_counted}

-- ---- the entries that are added
pub record EntryAt (fs : List Function) (k : ℕ) (s : SortId) : Type 0 where
  pub entry : Function
  pub stands : slice_get fs k ≡ Some entry
  pub plain : entry.word ≡ None
  pub alone : entry.sorts ≡ []
  pub gives : entry.result ≡ s

each_entry : (g h : Sig) (ss : List SortId) → AddsEach g ss h → (i : ℕ) (r : SortId) → slice_get ss i ≡ Some r → EntryAt h.functions (length g.functions + i) r
each_entry g h [] none_left i r at = absurd (none-some r at)
each_entry g k (s ∷ ss) (adds {h = h} one rest) zero r at =
    let f = declared_function one.name [] s in
    let first : h.functions ≡ g.functions ++ f ∷ [] = ap (λ (x : Sig). x.functions) one.declared ∙ ap (λ (x : Sig). x.functions ++ f ∷ []) one.fresh.taken in
    let w = each_grows h k ss rest in
    record {
      entry = f;
      stands = still_read h.functions k.functions w.new_functions w.functions (length g.functions + 0) f (ap (λ fs. slice_get fs (length g.functions + 0)) first ∙ read_behind g.functions (f ∷ []) 0 f refl);
      plain = refl;
      alone = refl;
      gives = same_Some s r at;
    }
each_entry g k (s ∷ ss) (adds {h = h} one rest) (suc i) r at =
    let z : length h.functions + i ≡ length g.functions + suc i = omega (arith, one_function_more g h s one) in
    subst (λ n. EntryAt k.functions n r) z (each_entry h k ss rest i r at)

constants_entry : (g h : Sig) (ss : List SortId) → AddsConstants g ss h → (i : ℕ) (r : SortId) → slice_get ss i ≡ Some r → EntryAt h.functions (length g.functions + i) r
constants_entry g h [] e i r at = absurd (none-some r at)
constants_entry g h (s ∷ ss) run i r at = each_entry (with_taken g (codes "nil")) h (s ∷ ss) run i r at

-- no sort is added
each_sorts : (g h : Sig) (ss : List SortId) → AddsEach g ss h → h.sorts ≡ g.sorts
each_sorts g h [] none_left = refl
each_sorts g k (s ∷ ss) (adds {h = h} one rest) = each_sorts h k ss rest ∙ ap (λ (x : Sig). x.sorts) one.declared ∙ ap (λ (x : Sig). x.sorts) one.fresh.taken

constants_sorts : (g h : Sig) (ss : List SortId) → AddsConstants g ss h → h.sorts ≡ g.sorts
constants_sorts g h [] e = ap (λ (x : Sig). x.sorts) e
constants_sorts g h (s ∷ ss) run = each_sorts (with_taken g (codes "nil")) h (s ∷ ss) run

-- ---- what they mean
module _ (g h : Sig) (before : IsSignature g) (after : IsSignature h) (needed : List Sort) (sorts : List SortId) (over : map (sort_under g) sorts ≡ map list needed) (added : AddsConstants g sorts h) (c : Sort → Option ℕ) (are : AreConstants (length g.declared) needed c) where
  many : length sorts ≡ length needed
  many = sym (length-map sorts (sort_under g)) ∙ ap length over ∙ length-map needed list

  new : HasNew g h (length sorts)
  new = constants_new g h sorts added

  declared_many : length (data_meant h).functions ≡ length (declared_from 0 g.functions) + length sorts
  declared_many =
      length-map (declared_from 0 h.functions) (function_meant h) ∙ ap (λ fs. length (declared_from 0 fs)) new.behind ∙ ap length (declared_both g.functions new.news 0)
      ∙ length-append (declared_from 0 g.functions) (declared_from (0 + length g.functions) new.news)
      ∙ ap (λ n. length (declared_from 0 g.functions) + n) (ap (λ fs. length (declared_from (0 + length g.functions) fs)) (sym (take-length new.news)) ∙ all_counted new.news (0 + length g.functions) (length new.news) new.plain (omega arith) ∙ new.many)

  pub has_nils : HasNils (data_meant h) (Contains needed) c
  has_nils s k =
      let p = read_contained needed s k in
      let i = p.0 in
      let low : i < length sorts = subst (λ n. i < n) (sym many) (slice_get_within needed i s p.1) in
      let r = read_within sorts i low in
      let e = constants_entry g h sorts added i r.0 r.1 in
      let meant : Some (sort_under g r.0) ≡ Some (list s) = sym (slice_get-map (sort_under g) sorts i ∙ ap (option_map (sort_under g)) r.1) ∙ ap (λ xs. slice_get xs i) over ∙ slice_get-map list needed i ∙ ap (option_map list) p.1 in
      let stands = declared_functions_stand_in_the_data h (record { 0 = length g.functions + i }) e.entry e.stands e.plain in
      let place : place_of h (record { 0 = length g.functions + i }) ≡ length (declared_from 0 g.functions) + i = new_place g h (length sorts) new i low in
      let is : function_at (data_meant h) (length (declared_from 0 g.functions) + i) ≡ function_at (data_meant h) (place_of h (record { 0 = length g.functions + i })) = ap (function_at (data_meant h)) (sym place) in (
        length (declared_from 0 g.functions) + i,
        are.stands i s p.1 ∙ ap (λ ds. Some (length ds + i)) before.table.listed,
        omega (arith, low, declared_many),
        ap (λ (f : DeclaredFunction). f.arguments) (is ∙ stands.1) ∙ ap (map (sort_under h)) e.alone,
        ap (λ (f : DeclaredFunction). f.result) (is ∙ stands.1) ∙ ap (sort_under h) e.gives ∙ ap (λ ss. sort_meant ss r.0) (constants_sorts g h sorts added) ∙ same_Some (sort_under g r.0) (list s) meant,
      )

pub added_constants_are_nils : AddedConstantsAreNils
added_constants_are_nils g h before after needed sorts over added c are = has_nils g h before after needed sorts over added c are
