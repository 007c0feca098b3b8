-- No name that was taken becomes a function's as structs, constants and actions are added.
use Rattle.std.proofs.Common.{◌<◌, ⊎_elim, [], ◌++◌, map, length, Some, sym, ap, ◌∙◌, subst}
use Rattle.std.specs.List.{Contains}
use Rattle.std.proofs.lemmas.Option.{slice_get-get_or}
use Rattle.std.proofs.lemmas.List.Elements.{All-contains, All-tail, Contains-append_cases, Contains-append_left, Contains-append_right}
use Rattle.data_theory.specs.declared.ids.NameId.{NameId}
use Rattle.data_theory.specs.declared.ids.SortId.{SortId}
use Rattle.data_theory.specs.Functions.{Function, declared_function}
use Rattle.data_theory.specs.Rows.{built_ins}
use Rattle.data_theory.specs.Signature.{Sig, IsTaken}
use Rattle.data_theory.specs.Table.{sort_rows}
use Rattle.data_theory.specs.WholeSignatures.{IsSignature}
use Rattle.data_theory.specs.IdTerms.{IsGrown}
use Rattle.data_theory.proofs.PlaceLemmas.{read_contained}
use Rattle.process_terms.proofs.MeaningLemmas.{entry_stays}
use Rattle.lps_core.specs.Naming.{list_names, table_names, function_names}
use Rattle.lps_core.proofs.FunctionNames.{list_names_stay, function_names_stay}
use Rattle.lps_core.proofs.Members.{contains_map, map_contains}
use Rattle.sort_table.specs.SignatureVocabularies.{text_under}
use Rattle.stack_encoder.proofs.FreshWords.{over_sort_taken}
use Rattle.lps_printer.specs.GrowingByConstants.{GrowsByConstants}
use Rattle.lps_printer.specs.GrowingByAdditions.{functions_of_struct, GrowsByStruct, GrowsByAdditions, nothing_added, then_constants, then_struct, then_action}
use Rattle.lps_printer.proofs.GrowingByAdditions.{still_stands, additions_grow}
use Rattle.lps_printer.proofs.GrownStructs.{it_is_grown}

-- no name that was taken has become a function's
abbrev pub NewNamesAreFresh : Sig → Sig → Type 0
NewNamesAreFresh g h = (n : NameId) → Contains g.taken n → Contains (function_names h) n → Contains (function_names g) n

-- where the entries are old ones, or have names that weren't taken, or names that functions have
by_entries : (g h : Sig) → IsSignature g → IsGrown g h → ((f : Function) → Contains h.functions f → Contains g.taken f.name → Contains (table_names g) f.name) → NewNamesAreFresh g h
by_entries g h s w each n t i = ⊎_elim
    (λ j. Contains-append_left (list_names g.texts) (table_names g) n (subst (λ ns. Contains ns n) (list_names_stay g h s w) j))
    (λ j. (
    let r = contains_map (λ (f : Function). f.name) h.functions n j in
    Contains-append_right (list_names g.texts) (table_names g) n (subst (Contains (table_names g)) (sym r.1.1) (each r.0 r.1.0 (subst (Contains g.taken) r.1.1 t)))
    ))
    (Contains-append_cases (list_names h.texts) (table_names h) n i)

-- a name that is taken has its text
module _ (g h : Sig) (s : IsSignature g) (w : IsGrown g h) (n : NameId) (t : Contains g.taken n) where
  pub taken_later : IsTaken g (text_under h n)
  taken_later =
      let low = All-contains (λ (m : NameId). m.0 < length g.texts) g.taken n s.complete.within.taken t in
      let same = (entry_stays g.texts h.texts [] n.0 (w.new_texts, w.texts) low).0 in
      (n, slice_get-get_or g.texts n.0 [] low ∙ ap Some (sym same), t)

pub fresh_by_constants : (g h : Sig) → IsSignature g → GrowsByConstants g h → NewNamesAreFresh g h
fresh_by_constants g h s w = by_entries g h s w.grown (λ f i t. ⊎_elim
    (λ old. map_contains (λ (e : Function). e.name) g.functions f old)
    (λ new. (
    let r = contains_map (λ (c : NameId × SortId). declared_function c.0 [] c.1) w.constants f new in
    let its : Contains g.taken r.0.0 = subst (Contains g.taken) (ap (λ (e : Function). e.name) r.1.1) t in
    absurd (All-contains (λ (c : NameId × SortId). ¬ (IsTaken g (text_under h c.0))) w.constants r.0 w.taken r.1.0 (taken_later g h s w.grown r.0.0 its))
    ))
    (Contains-append_cases g.functions (map (λ (c : NameId × SortId). declared_function c.0 [] c.1) w.constants) f (subst (λ fs. Contains fs f) w.functions i)))

pub fresh_by_struct : (g h : Sig) → IsSignature g → GrowsByStruct g h → NewNamesAreFresh g h
fresh_by_struct g h s w =
    let sort : SortId = record { 0 = length w.named.sorts } in
    let rows = built_ins w.named.texts (sort_rows sort) in
    let new = functions_of_struct w.named w.declared in
    let grown = it_is_grown g h s w in
    let name = λ (e : Function). e.name in
    by_entries g h s grown (λ f i t. ⊎_elim
    (λ old. ⊎_elim
    (λ named. map_contains name g.functions f (subst (λ fs. Contains fs f) w.by_names.functions named))
    (λ row. (let at = read_contained rows f row in subst (λ fs. Contains (map name fs) f.name) w.by_names.functions (over_sort_taken w.named w.by_names.stands sort at.0 f at.1)))
    (Contains-append_cases w.named.functions rows f old))
    (λ its. absurd (All-contains (λ (n : NameId). ¬ (IsTaken g (text_under h n))) (map name new) f.name (All-tail (λ (n : NameId). ¬ (IsTaken g (text_under h n))) w.declared.0 (map name new) w.new) (map_contains name new f its) (taken_later g h s grown f.name t)))
    (Contains-append_cases (w.named.functions ++ rows) new f (subst (λ fs. Contains fs f) (ap (λ (z : Sig). z.functions) w.is) i)))

still_taken : (g h : Sig) → IsGrown g h → (n : NameId) → Contains g.taken n → Contains h.taken n
still_taken g h w n c = subst (λ ns. Contains ns n) (sym w.taken) (Contains-append_left g.taken w.new_taken n c)

pub fresh_by_additions : (g : Sig) → IsSignature g → {h : Sig} → GrowsByAdditions g h → NewNamesAreFresh g h
fresh_by_additions g s nothing_added n t i = i
fresh_by_additions g s (then_constants {h = j} {k = k} before by after) n t i = fresh_by_additions g s before n t (fresh_by_constants j k (still_stands g s before) by n (still_taken g j (additions_grow g s before) n t) i)
fresh_by_additions g s (then_struct {h = j} {k = k} before by after) n t i = fresh_by_additions g s before n t (fresh_by_struct j k (still_stands g s before) by n (still_taken g j (additions_grow g s before) n t) i)
fresh_by_additions g s (then_action {h = j} {k = k} before by after) n t i =
    fresh_by_additions g s before n t (subst (λ ns. Contains ns n) (function_names_stay j k (still_stands g s before) by.grown by.functions) i)
