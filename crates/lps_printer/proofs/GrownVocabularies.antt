-- The vocabulary of a signature that has grown by structs, constants and actions has names of functions behind the old ones that weren't taken.
use Rattle.std.proofs.Common.{◌≡◌, ◌+◌, ◌<◌, ℕ, suc, List, [], ◌∷◌, length, map, sym, ap, ◌∙◌, subst, Some}
use Rattle.std.specs.Prelude.{option_map, slice_get}
use Rattle.std.specs.List.{AllByRecursion}
use Rattle.std.proofs.lemmas.List.Elements.{All-tail}
use Rattle.std.proofs.lemmas.Option.{slice_get-map}
use Rattle.mcrl2_syntax.proofs.Lists.{all_both}
use Rattle.data_theory.specs.declared.ids.FunId.{FunId}
use Rattle.data_theory.specs.declared.ids.NameId.{NameId}
use Rattle.data_theory.specs.declared.ids.SortId.{SortId}
use Rattle.data_theory.specs.Complete.{IsFunctionWithin}
use Rattle.data_theory.specs.Functions.{Function}
use Rattle.data_theory.specs.Signature.{Sig, IsTaken}
use Rattle.data_theory.specs.IdTerms.{IsGrown}
use Rattle.data_theory.specs.Structs.{numbers_from}
use Rattle.data_theory.specs.WholeSignatures.{IsSignature}
use Rattle.data_theory.proofs.IdGrowthLemmas.{growth_after_growth_is_growth}
use Rattle.data_theory.proofs.IdSortLemmas.{read_within}
use Rattle.data_theory.proofs.IdSymbolLemmas.{holds_at}
use Rattle.data_theory.proofs.PlaceLemmas.{read_front, read_behind, contains_read}
use Rattle.term_pool.proofs.DeclaredConstants.{grown_itself}
use Rattle.sort_table.specs.Expressions.{Name}
use Rattle.sort_table.specs.Growth.{More, with_more}
use Rattle.sort_table.specs.SignatureVocabularies.{text_under, function_name_of, function_names_from, vocabulary_of}
use Rattle.sort_table.proofs.GrowingSignatures.{grown_signatures_have_more}
use Rattle.lps_printer.specs.GrowingByConstants.{GrowsByConstants}
use Rattle.lps_printer.specs.GrowingByAdditions.{GrowsByStruct, GrowsByAdditions, nothing_added, then_constants, then_struct, then_action}
use Rattle.lps_printer.proofs.AddedVocabularies.{constant_within}
use Rattle.lps_printer.proofs.ConstantVocabularies.{same_rest, names_long, names_after}
use Rattle.lps_printer.proofs.DeclaredAdditions.{all_numbers}
use Rattle.lps_printer.proofs.GrowingByAdditions.{still_stands, additions_grow, added_numbers, numbers_are}
use Rattle.lps_printer.proofs.GrowingByConstants.{still_taken}
use Rattle.lps_printer.proofs.GrownIdentifiers.{constant_there}
use Rattle.lps_printer.proofs.GrownSorts.{text_still}
use Rattle.lps_printer.proofs.GrownStructs.{bare, first, fs, it_is_grown}
use Rattle.lps_printer.proofs.TwoOfLists.{all_weaker}

abbrev pub HasNewName : Sig → Name × ℕ → Type 0
HasNewName g r = ¬ (IsTaken g r.0)

-- functions stand behind it, whose names weren't taken
pub record GrownVocabulary (g h : Sig) : Type 0 where
  pub more : More
  pub is : vocabulary_of h ≡ with_more (vocabulary_of g) more
  pub new : AllByRecursion (HasNewName g) more.function_names

abbrev NamedNewly : Sig → Sig → FunId → Type 0
NamedNewly g h f = ¬ (IsTaken g (function_name_of h (slice_get h.functions f.0)))

module _ (g h : Sig) where
  numbered_newly : (k : ℕ) (is : List FunId) → AllByRecursion (NamedNewly g h) is → AllByRecursion (HasNewName g) (function_names_from h k is)
  numbered_newly k [] all = tt
  numbered_newly k (i ∷ is) all = (all.0, numbered_newly (suc k) is all.1)

-- the function with this number, and its name later on
module _ (j k h : Sig) (grown : IsGrown k h) (after : IsSignature k) where
  newly : (p : ℕ) (f : Function) → slice_get k.functions p ≡ Some f → f.name.0 < length k.texts → ¬ (IsTaken j (text_under k f.name)) → NamedNewly j h (record { 0 = p })
  newly p f at low new taken =
      let there : slice_get h.functions p ≡ Some f = ap (λ fs. slice_get fs p) grown.functions ∙ read_front k.functions grown.new_functions p f at in
      new (subst (IsTaken j) (ap (function_name_of h) there ∙ text_still k h after grown [] f.name low) taken)

  by_constants : (w : GrowsByConstants j k) → AllByRecursion (NamedNewly j h) (numbers_from (length j.functions) (length w.constants))
  by_constants w = all_numbers (NamedNewly j h) (length j.functions) (length w.constants) (λ i l.
      let c = read_within w.constants i l in
      newly (length j.functions + i) _ (constant_there j k w i c.0 c.1) (constant_within j k after w c.0 (contains_read w.constants i c.0 c.1)).0 (holds_at (λ (d : NameId × SortId). ¬ (IsTaken j (text_under k d.0))) w.constants i c.0 w.taken c.1))

  by_struct : (before : IsSignature j) (w : GrowsByStruct j k) → AllByRecursion (NamedNewly j h) (numbers_from (first j k before w) (length (fs j k before w)))
  by_struct before w = all_numbers (NamedNewly j h) (first j k before w) (length (fs j k before w)) (λ i l.
      let its = fs j k before w in
      let f = read_within its i l in
      let at : slice_get k.functions (first j k before w + i) ≡ Some f.0 = ap (λ (x : Sig). slice_get x.functions (first j k before w + i)) w.is ∙ read_behind (bare j k before w).functions its i f.0 f.1 in
      let IsNewId = λ (n : NameId). ¬ (IsTaken j (text_under k n)) in
      newly (first j k before w + i) f.0 at (holds_at (IsFunctionWithin (length k.texts) (length k.sorts) (length k.functions)) k.functions (first j k before w + i) f.0 after.complete.within.functions_within at).named
      (holds_at IsNewId (map (λ (e : Function). e.name) its) i f.0.name (All-tail IsNewId w.declared.0 (map (λ (e : Function). e.name) its) w.new) (slice_get-map (λ (e : Function). e.name) its i ∙ ap (option_map (λ (e : Function). e.name)) f.1)))

all_newly : (g h : Sig) (stands : IsSignature g) {k : Sig} (w : GrowsByAdditions g k) → IsGrown k h → AllByRecursion (NamedNewly g h) (added_numbers g stands w)
all_newly g h stands nothing_added grown = tt
all_newly g h stands (then_constants {h = j} {k = k} earlier by after) grown =
    let own = numbers_from (length j.functions) (length by.constants) in
    let since : (f : FunId) → NamedNewly j h f → NamedNewly g h f = λ f new taken. new (still_taken g j _ (additions_grow g stands earlier) taken) in
    all_both (NamedNewly g h) (added_numbers g stands earlier) own (all_newly g h stands earlier (growth_after_growth_is_growth j k h by.grown grown)) (all_weaker (NamedNewly j h) (NamedNewly g h) since own (by_constants j k h grown after by))
all_newly g h stands (then_struct {h = j} {k = k} earlier by after) grown =
    let its = still_stands g stands earlier in
    let own = numbers_from (first j k its by) (length (fs j k its by)) in
    let since : (f : FunId) → NamedNewly j h f → NamedNewly g h f = λ f new taken. new (still_taken g j _ (additions_grow g stands earlier) taken) in
    all_both (NamedNewly g h) (added_numbers g stands earlier) own (all_newly g h stands earlier (growth_after_growth_is_growth j k h (it_is_grown j k its by) grown)) (all_weaker (NamedNewly j h) (NamedNewly g h) since own (by_struct j k h grown after its by))
all_newly g h stands (then_action {h = j} {k = k} earlier by after) grown = all_newly g h stands earlier (growth_after_growth_is_growth j k h by.grown grown)

pub grown_vocabulary : (g h : Sig) → IsSignature g → IsSignature h → GrowsByAdditions g h → GrownVocabulary g h
grown_vocabulary g h before after w =
    let m = grown_signatures_have_more g h before.complete before.table before.roles after.roles (additions_grow g before w) in
    let numbers = added_numbers g before w in
    let rest = function_names_from h (0 + length g.declared) numbers in
    let functions : m.0.function_names ≡ rest =
    same_rest (function_names_from g 0 g.declared) (function_names_from h 0 g.declared) m.0.function_names rest
    (sym (ap (λ v. v.function_names) m.1) ∙ (ap (function_names_from h 0) (numbers_are g before w) ∙ names_after h 0 g.declared numbers)) (names_long g 0 g.declared ∙ sym (names_long h 0 g.declared)) in
    record {
      more = m.0;
      is = m.1;
      new = subst (AllByRecursion (HasNewName g)) (sym functions) (numbered_newly g h (0 + length g.declared) numbers (all_newly g h before w (grown_itself h)));
    }
