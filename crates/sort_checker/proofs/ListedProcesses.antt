-- The table of a text's processes tells what the vocabulary says.
use Rattle.std.proofs.Common.{◌≡◌, ◌<◌, ◌+◌, ◌++◌, ℕ, zero, suc, List, [], ◌∷◌, map, length, get_or, cond, Bool, true, false, refl, sym, ap, ap₂, ◌∙◌, subst, arith, append_assoc, length-append}
use Rattle.std.specs.Prelude.{Option, Some, None, Vec, option_map, bytes_eq}
use Rattle.std.specs.Global.{Global}
use Rattle.std.specs.List.{AllByRecursion}
use Rattle.std.specs.Option.{option_or}
use Rattle.std.proofs.lemmas.List.{length-map, map-append, append-nil}
use Rattle.std.proofs.lemmas.Option.{none-some, same_Some}
use Rattle.data_theory.specs.Signature.{Sig}
use Rattle.data_theory.specs.Terms.{Sort}
use Rattle.mcrl2_syntax.proofs.Lists.{all_both}
use Rattle.sort_table.specs.Expressions.{Name}
use Rattle.sort_table.specs.SignatureVocabularies.{vocabulary_of}
use Rattle.sort_table.specs.Vocabularies.{Vocabulary, EachPair}
use Rattle.sort_checker.specs.declared.process_tables.Parameter.{Parameter}
use Rattle.sort_checker.specs.declared.process_tables.ProcessTable.{ProcessTable}
use Rattle.sort_checker.specs.NameNumbers.{number_under}
use Rattle.sort_checker.specs.FullVocabularies.{Parameters, FullVocabulary, process_from, process_named, Written, IsEntry}
use Rattle.sort_checker.specs.CodeContexts.{parameter_of, process_in}
use Rattle.sort_checker.specs.TextProcesses.{place_from, parameters_listed, parameters_by, ListsProcesses}
use Rattle.sort_checker.proofs.ParameterLists.{all_sorted}

-- ---- what a place tells
at_length : {A : Type 0} (xs : List A) (x : A) (ys : List A) (d : A) → get_or (xs ++ x ∷ ys) (length xs) d ≡ x
at_length [] x ys d = refl
at_length (z ∷ xs) x ys d = at_length xs x ys d

read_listed : (pss : List (Vec Parameter Global)) (k : ℕ) → map parameter_of (get_or (map (λ (ps : Vec Parameter Global). ps.items) pss) k []) ≡ get_or (parameters_listed pss) k []
read_listed [] k = refl
read_listed (ps ∷ pss) zero = refl
read_listed (ps ∷ pss) (suc k) = read_listed pss k

found_at : (v : Vocabulary) (x : Name) (front : List Parameters) (ws : List Written) (rs : List (Name × Parameters)) → EachPair (IsEntry v) ws rs
    → process_from (length front) x rs ≡ option_map (λ n. (n, get_or (front ++ map (λ (r : Name × Parameters). r.1) rs) n [])) (place_from (length front) x ws)
found_at v x front [] [] all = refl
found_at v x front [] (r ∷ rs) all = absurd all
found_at v x front (w ∷ ws) [] all = absurd all
found_at v x front (w ∷ ws) (r ∷ rs) all =
    let long : length (front ++ r.1 ∷ []) ≡ suc (length front) = length-append front (r.1 ∷ []) ∙ (let one : length front + 1 ≡ suc (length front) = omega arith in one) in
    let rest : process_from (suc (length front)) x rs ≡ option_map there (place_from (suc (length front)) x ws) =
    ap (λ n. process_from n x rs) (sym long) ∙ (found_at v x (front ++ r.1 ∷ []) ws rs all.1
    ∙ ap₂ (λ (ps : List Parameters) (n : ℕ). option_map (λ m. (m, get_or ps m [])) (place_from n x ws)) (append_assoc front (r.1 ∷ []) (map (λ (s : Name × Parameters). s.1) rs)) long) in
    ap (λ n. cond (bytes_eq n x) (Some (length front, r.1)) (process_from (suc (length front)) x rs)) (sym all.0.name) ∙ by_test (bytes_eq w.name x) rest
  where
    there : ℕ → ℕ × Parameters
    there n = (n, get_or (front ++ r.1 ∷ map (λ (s : Name × Parameters). s.1) rs) n [])

    by_test : (b : Bool) → process_from (suc (length front)) x rs ≡ option_map there (place_from (suc (length front)) x ws)
        → cond b (Some (length front, r.1)) (process_from (suc (length front)) x rs) ≡ option_map there (cond b (Some (length front)) (place_from (suc (length front)) x ws))
    by_test true later = ap (λ (ps : Parameters). Some (length front, ps)) (sym (at_length front r.1 (map (λ (s : Name × Parameters). s.1) rs) []))
    by_test false later = later

same_parameters : (g : Sig) (v : Vocabulary) → v ≡ vocabulary_of g → (ws : List Written) (rs : List (Name × Parameters)) → EachPair (IsEntry v) ws rs → map (parameters_by g) ws ≡ map (λ (r : Name × Parameters). r.1) rs
same_parameters g v is [] [] all = refl
same_parameters g v is [] (r ∷ rs) all = absurd all
same_parameters g v is (w ∷ ws) [] all = absurd all
same_parameters g v is (w ∷ ws) (r ∷ rs) all =
    ap₂ (λ (ps : Parameters) (pss : List Parameters). ps ∷ pss) (all_sorted (vocabulary_of g).sort_names w.parameters r.1 (subst (λ (u : Vocabulary). IsEntry u w r) is all.0).parameters) (same_parameters g v is ws rs all.1)

abbrev place_in : List Parameters → ℕ → ℕ × Parameters
place_in pss n = (n, get_or pss n [])

pub table_tells : (g : Sig) (ws : List Written) (t : ProcessTable) → ListsProcesses g ws t → (v : FullVocabulary) → v.declared ≡ vocabulary_of g → EachPair (IsEntry v.declared) ws v.processes → (x : Name) → process_named v x ≡ process_in t x
table_tells g ws t lists v is all x =
    let same : parameters_listed t.parameters.items ≡ map (λ (r : Name × Parameters). r.1) v.processes = lists.parameters ∙ same_parameters g v.declared is ws v.processes all in
    found_at v.declared x [] ws v.processes all
    ∙ (ap₂ (λ (o : Option ℕ) (pss : List Parameters). option_map (place_in pss) o) (sym (lists.places x)) (sym same)
    ∙ by_option (number_under t.places x))
  where
    by_option : (o : Option ℕ) → option_map (place_in (parameters_listed t.parameters.items)) o ≡ option_map (λ k. (k, map parameter_of (get_or (map (λ (ps : Vec Parameter Global). ps.items) t.parameters.items) k []))) o
    by_option None = refl
    by_option (Some k) = ap (λ (ps : Parameters). Some (k, ps)) (sym (read_listed t.parameters.items k))

-- ---- one process more
place_both : (k : ℕ) (x : Name) (ws : List Written) (w : Written) → place_from k x (ws ++ w ∷ []) ≡ option_or (place_from k x ws) (cond (bytes_eq w.name x) (Some (k + length ws)) None)
place_both k x [] w = let same : k ≡ k + 0 = omega arith in ap (λ n. cond (bytes_eq w.name x) (Some n) None) same
place_both k x (u ∷ ws) w =
    let same : suc k + length ws ≡ k + suc (length ws) = omega arith in
    by_test (bytes_eq u.name x) (place_both (suc k) x ws w ∙ ap (λ n. option_or (place_from (suc k) x ws) (cond (bytes_eq w.name x) (Some n) None)) same)
  where
    by_test : (b : Bool) → place_from (suc k) x (ws ++ w ∷ []) ≡ option_or (place_from (suc k) x ws) (cond (bytes_eq w.name x) (Some (k + suc (length ws))) None)
        → cond b (Some k) (place_from (suc k) x (ws ++ w ∷ [])) ≡ option_or (cond b (Some k) (place_from (suc k) x ws)) (cond (bytes_eq w.name x) (Some (k + suc (length ws))) None)
    by_test true later = refl
    by_test false later = later

pub lists_length : (g : Sig) (ws : List Written) (t : ProcessTable) → ListsProcesses g ws t → length t.parameters.items ≡ length ws
lists_length g ws t lists =
    sym (length-map t.parameters.items (λ (ps : Vec Parameter Global). map parameter_of ps.items)) ∙ (ap length lists.parameters ∙ length-map ws (parameters_by g))

pub lists_more : (g : Sig) (ws : List Written) (t u : ProcessTable) (w : Written) (ps : Vec Parameter Global) → ListsProcesses g ws t
    → ((x : Name) → number_under u.places x ≡ option_or (number_under t.places x) (cond (bytes_eq w.name x) (Some (length t.parameters.items)) None))
    → u.parameters.items ≡ t.parameters.items ++ ps ∷ [] → map parameter_of ps.items ≡ parameters_by g w → ListsProcesses g (ws ++ w ∷ []) u
lists_more g ws t u w ps lists put pushed are = record {
  places = λ x.
      let long : length t.parameters.items ≡ 0 + length ws = (let same = lists_length g ws t lists in omega (arith, same)) in
      put x ∙ (ap₂ (λ (o : Option ℕ) (n : ℕ). option_or o (cond (bytes_eq w.name x) (Some n) None)) (lists.places x) long ∙ sym (place_both zero x ws w));
  parameters =
      ap parameters_listed pushed ∙ (map-append (λ (qs : Vec Parameter Global). map parameter_of qs.items) t.parameters.items (ps ∷ [])
      ∙ (ap₂ (λ (xs : List Parameters) (x : Parameters). xs ++ x ∷ []) lists.parameters are ∙ sym (map-append (parameters_by g) ws (w ∷ []))));
}

-- places stay in the list
pub places_within : (old new : Option ℕ) (b : Bool) (long : ℕ) → new ≡ option_or old (cond b (Some long) None) → ((k : ℕ) → old ≡ Some k → k < long) → (k : ℕ) → new ≡ Some k → k < long + 1
places_within None new true long put within k is = let same : long ≡ k = same_Some long k (sym put ∙ is) in omega (arith, same)
places_within None new false long put within k is = absurd (none-some k (sym put ∙ is))
places_within (Some n) new b long put within k is = let same : n ≡ k = same_Some n k (sym put ∙ is) in let less = within n refl in omega (arith, same, less)
