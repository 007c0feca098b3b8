-- The parameters of processes in code are those of a full vocabulary.
use Rattle.std.proofs.Common.{◌≡◌, ℕ, suc, Bool, true, false, cond, List, [], ◌∷◌, ◌++◌, map, refl, sym, ap, ap₂, ◌∙◌, subst}
use Rattle.std.specs.Prelude.{Option, Some, None, Vec, is_some, option_map, option_and_then, option_to_list, bytes_eq}
use Rattle.std.specs.Global.{Global}
use denote.Ref.{Bor}
use Rattle.std.specs.Option.{option_or}
use Rattle.std.specs.List.{AllByRecursion}
use Rattle.std.proofs.lemmas.Option.{none-some, same_Some}
use Rattle.std.proofs.lemmas.Slice.Eq.{bytes_eq-Decides}
use Rattle.mcrl2_syntax.specs.declared.declaration.Section.{Section}
use Rattle.mcrl2_syntax.specs.declared.word.Word.{Word}
use Rattle.mcrl2_syntax.specs.Words.{PlainWord, word_of}
use Rattle.data_theory.specs.Signature.{Sig}
use Rattle.data_theory.specs.Terms.{Sort}
use Rattle.sort_table.specs.Expressions.{Name}
use Rattle.sort_table.specs.BareSorts.{SortExpression}
use Rattle.sort_table.specs.BareProcesses.{Variables}
use Rattle.sort_table.specs.BareDeclarations as bare
use Rattle.sort_table.specs.BareDeclarations.{Declaration, bare_declaration, declarations_in}
use Rattle.sort_table.specs.DeclarationTrees.{declaration_of}
use Rattle.sort_table.proofs.Searches.{IsListed}
use Rattle.mcrl2_syntax.specs.Declarations.{plain_decl}
use Rattle.std.proofs.lemmas.Grind.{flat_map-append}
use Rattle.std.proofs.lemmas.Simd.{map-map}
use Rattle.sort_checker.proofs.ScopedLists.{bare_of}
use Rattle.sort_table.specs.SignatureVocabularies.{vocabulary_of}
use Rattle.sort_table.specs.Vocabularies.{Vocabulary, sort_in, EachPair}
use Rattle.sort_checker.specs.declared.parameter_tables.Parameter.{Parameter}
use Rattle.sort_checker.specs.declared.parameter_tables.ParameterTable.{ParameterTable}
use Rattle.sort_checker.specs.FullVocabularies.{Parameters, FullVocabulary, parameters_in, process_from, process_named, Written, process_by, processes_in, IsEntry, IsOver}
use Rattle.sort_checker.specs.ParameterTables.{sorted_variables, IsParameterOver, first_parameters, parameters_of, parameters_under, HasProcesses}

-- ---- variables of one sort
abbrev pub sorted_words : Sort → List Word → Parameters
sorted_words s ws = map (λ (w : PlainWord). (w.bytes, s)) (map word_of ws)

pub sorted_words_listed : (s : Sort) → IsListed (sorted_words s) (λ (w : Word). (w.bytes.items, s) ∷ [])
sorted_words_listed s = record { of_none = refl; of_more = λ w ws. refl }

pub none_sorted : (ns : List (Name × Sort)) (e : SortExpression) → sort_in ns e ≡ None → (ws : List PlainWord) → sorted_variables ns (map (λ (w : PlainWord). (w.bytes, e)) ws) ≡ []
none_sorted ns e none [] = refl
none_sorted ns e none (w ∷ ws) = ap₂ (λ (o : Option Sort) (ps : Parameters). option_to_list (option_map (λ s. (w.bytes, s)) o) ++ ps) none (none_sorted ns e none ws)

pub all_alike : (ns : List (Name × Sort)) (e : SortExpression) (s : Sort) → sort_in ns e ≡ Some s → (ws : List PlainWord) → sorted_variables ns (map (λ (w : PlainWord). (w.bytes, e)) ws) ≡ map (λ (w : PlainWord). (w.bytes, s)) ws
all_alike ns e s is [] = refl
all_alike ns e s is (w ∷ ws) = ap₂ (λ (o : Option Sort) (ps : Parameters). option_to_list (option_map (λ r. (w.bytes, r)) o) ++ ps) is (all_alike ns e s is ws)

-- ---- where all sorts are known
pub all_sorted : (ns : List (Name × Sort)) (xs : Variables) (ps : Parameters) → parameters_in ns xs ≡ Some ps → sorted_variables ns xs ≡ ps
all_sorted ns [] ps e = same_Some [] ps e
all_sorted ns (x ∷ xs) ps e = of_sort (all_sorted ns xs) (sort_in ns x.1) refl (parameters_in ns xs) refl e
  where
    of_sort : ((qs : Parameters) → parameters_in ns xs ≡ Some qs → sorted_variables ns xs ≡ qs) → (o : Option Sort) → sort_in ns x.1 ≡ o → (rest : Option Parameters) → parameters_in ns xs ≡ rest → option_and_then (λ s. option_map (λ qs. (x.0, s) ∷ qs) (parameters_in ns xs)) (sort_in ns x.1) ≡ Some ps → sorted_variables ns (x ∷ xs) ≡ ps
    of_sort later None sort rest told h = absurd (none-some ps (sym (ap (option_and_then (λ s. option_map (λ qs. (x.0, s) ∷ qs) (parameters_in ns xs))) sort) ∙ h))
    of_sort later (Some s) sort None told h = absurd (none-some ps (sym (ap₂ (λ (o : Option Sort) (q : Option Parameters). option_and_then (λ r. option_map (λ qs. (x.0, r) ∷ qs) q) o) sort told) ∙ h))
    of_sort later (Some s) sort (Some qs) told h =
        ap₂ (λ (o : Option Sort) (us : Parameters). option_to_list (option_map (λ r. (x.0, r)) o) ++ us) sort (later qs told)
        ∙ same_Some ((x.0, s) ∷ qs) ps (sym (ap₂ (λ (o : Option Sort) (q : Option Parameters). option_and_then (λ r. option_map (λ us. (x.0, r) ∷ us) q) o) sort told) ∙ h)

first_told : (v : Vocabulary) (x : Name) (k : ℕ) (ws : List Written) (rs : List (Name × Parameters)) → EachPair (IsEntry v) ws rs → first_parameters v.sort_names x ws ≡ option_map (λ (r : ℕ × Parameters). r.1) (process_from k x rs)
first_told v x k [] [] all = refl
first_told v x k [] (r ∷ rs) all = absurd all
first_told v x k (w ∷ ws) [] all = absurd all
first_told v x k (w ∷ ws) (r ∷ rs) all =
    ap₂ (λ (n : Name) (ps : Parameters). cond (bytes_eq n x) (Some ps) (first_parameters v.sort_names x ws)) all.0.name (all_sorted v.sort_names w.parameters r.1 all.0.parameters) ∙ by_test (first_told v x (suc k) ws rs all.1) (bytes_eq r.0 x)
  where
    by_test : first_parameters v.sort_names x ws ≡ option_map (λ (q : ℕ × Parameters). q.1) (process_from (suc k) x rs) → (b : Bool) → cond b (Some r.1) (first_parameters v.sort_names x ws) ≡ option_map (λ (q : ℕ × Parameters). q.1) (cond b (Some (k, r.1)) (process_from (suc k) x rs))
    by_test later true = refl
    by_test later false = later

-- what the table tells is what a full vocabulary says
pub told_over : (g : Sig) (ss : List bare.Section) (v : FullVocabulary) (t : ParameterTable) → IsOver g ss v → HasProcesses g (processes_in (declarations_in ss)) t → (x : Name)
    → option_map (parameters_of g) (parameters_under t x) ≡ option_map (λ (r : ℕ × Parameters). r.1) (process_named v x)
told_over g ss v t over has x = has.tells x ∙ (ap (λ (w : Vocabulary). first_parameters w.sort_names x (processes_in (declarations_in ss))) (sym over.declared) ∙ first_told v.declared x 0 (processes_in (declarations_in ss)) v.processes over.processes)

-- ---- the processes of sections
pub sections_listed : IsListed (λ (ss : List Section). processes_in (declarations_in (bare_of ss))) (λ (s : Section). processes_in (map declaration_of s.declarations.items))
sections_listed = record {
  of_none = refl;
  of_more = λ s ss.
      flat_map-append process_by (map bare_declaration (map plain_decl s.declarations.items)) (declarations_in (bare_of ss))
      ∙ ap (λ (ds : List Declaration). processes_in ds ++ processes_in (declarations_in (bare_of ss))) (map-map bare_declaration plain_decl s.declarations.items);
}

some_there : {A : Type 0} (o : Option A) → is_some o ≡ true → (x : A) × (o ≡ Some x)
some_there None h = let never : false ≡ true = h in absurd cc
some_there (Some x) h = (x, refl)

pub entry_there : (t : ParameterTable) (x : Name) (o : Option (Bor (List Parameter))) → option_map (λ ps. ps.now) o ≡ parameters_under t x → is_some o ≡ true → (ps : List Parameter) × (parameters_under t x ≡ Some ps)
entry_there t x o told some = let r = some_there o some in (r.0.now, sym told ∙ ap (option_map (λ ps. ps.now)) r.1)

pub entry_absent : (t : ParameterTable) (x : Name) (o : Option (Bor (List Parameter))) → option_map (λ ps. ps.now) o ≡ parameters_under t x → is_some o ≡ false → parameters_under t x ≡ None
entry_absent t x None told none = sym told
entry_absent t x (Some ps) told none = let never : true ≡ false = none in absurd cc

pub items_put : (b : Bool) (v : Vec Parameter Global) (o : Option (Vec Parameter Global)) → option_map (λ (u : Vec Parameter Global). u.items) (cond b (Some v) o) ≡ cond b (Some v.items) (option_map (λ (u : Vec Parameter Global). u.items) o)
items_put true v o = refl
items_put false v o = refl

-- ---- one process more
first_both : (ns : List (Name × Sort)) (x : Name) (ws us : List Written) → first_parameters ns x (ws ++ us) ≡ option_or (first_parameters ns x ws) (first_parameters ns x us)
first_both ns x [] us = refl
first_both ns x (w ∷ ws) us = by_test (first_both ns x ws us) (bytes_eq w.name x)
  where
    by_test : first_parameters ns x (ws ++ us) ≡ option_or (first_parameters ns x ws) (first_parameters ns x us) → (b : Bool) → cond b (Some (sorted_variables ns w.parameters)) (first_parameters ns x (ws ++ us)) ≡ option_or (cond b (Some (sorted_variables ns w.parameters)) (first_parameters ns x ws)) (first_parameters ns x us)
    by_test later true = refl
    by_test later false = later

pub told_again : (g : Sig) (ws : List Written) (t : ParameterTable) (w : Written) (ps : List Parameter) → HasProcesses g ws t → parameters_under t w.name ≡ Some ps → HasProcesses g (ws ++ w ∷ []) t
told_again g ws t w ps has there = record {
  tells = λ x. has.tells x ∙ sym (first_both (vocabulary_of g).sort_names x ws (w ∷ []) ∙ by_test x (bytes_eq w.name x) refl);
  over = has.over;
}
  where
    first : Name → Option Parameters
    first x = first_parameters (vocabulary_of g).sort_names x ws

    found : (x : Name) → w.name ≡ x → first x ≡ Some (parameters_of g ps)
    found x same = ap first (sym same) ∙ (sym (has.tells w.name) ∙ ap (option_map (parameters_of g)) there)

    by_test : (x : Name) (b : Bool) → bytes_eq w.name x ≡ b → option_or (first x) (cond (bytes_eq w.name x) (Some (sorted_variables (vocabulary_of g).sort_names w.parameters)) None) ≡ first x
    by_test x false e = ap (λ (b : Bool). option_or (first x) (cond b (Some (sorted_variables (vocabulary_of g).sort_names w.parameters)) None)) e ∙ or_nothing (first x)
      where
        or_nothing : (o : Option Parameters) → option_or o None ≡ o
        or_nothing None = refl
        or_nothing (Some y) = refl
    by_test x true e =
        let is : first x ≡ Some (parameters_of g ps) = found x ((bytes_eq-Decides w.name x).0 e) in
        ap (λ (o : Option Parameters). option_or o (cond (bytes_eq w.name x) (Some (sorted_variables (vocabulary_of g).sort_names w.parameters)) None)) is ∙ sym is

pub told_new : (g : Sig) (ws : List Written) (t new : ParameterTable) (w : Written) (ps : List Parameter) → HasProcesses g ws t → parameters_under t w.name ≡ None
    → ((x : Name) → parameters_under new x ≡ cond (bytes_eq w.name x) (Some ps) (parameters_under t x)) → parameters_of g ps ≡ sorted_variables (vocabulary_of g).sort_names w.parameters
    → AllByRecursion (IsParameterOver g) ps → HasProcesses g (ws ++ w ∷ []) new
told_new g ws t new w ps has absent put are over = record {
  tells = λ x. ap (option_map (parameters_of g)) (put x) ∙ (by_test x (bytes_eq w.name x) refl ∙ sym (first_both ns x ws (w ∷ [])));
  over = λ x qs e. by_entry x qs (bytes_eq w.name x) (sym (put x) ∙ e);
}
  where
    ns : List (Name × Sort)
    ns = (vocabulary_of g).sort_names

    by_test : (x : Name) (b : Bool) → bytes_eq w.name x ≡ b → option_map (parameters_of g) (cond (bytes_eq w.name x) (Some ps) (parameters_under t x)) ≡ option_or (first_parameters ns x ws) (cond (bytes_eq w.name x) (Some (sorted_variables ns w.parameters)) None)
    by_test x true e =
        let none_yet : first_parameters ns x ws ≡ None = ap (λ (n : Name). first_parameters ns n ws) (sym ((bytes_eq-Decides w.name x).0 e)) ∙ (sym (has.tells w.name) ∙ ap (option_map (parameters_of g)) absent) in
        ap (λ (b : Bool). option_map (parameters_of g) (cond b (Some ps) (parameters_under t x))) e
        ∙ (ap (λ (us : Parameters). Some us) are ∙ sym (ap₂ (λ (o : Option Parameters) (b : Bool). option_or o (cond b (Some (sorted_variables ns w.parameters)) None)) none_yet e))
    by_test x false e =
        ap (λ (b : Bool). option_map (parameters_of g) (cond b (Some ps) (parameters_under t x))) e
        ∙ (has.tells x ∙ sym (ap (λ (b : Bool). option_or (first_parameters ns x ws) (cond b (Some (sorted_variables ns w.parameters)) None)) e ∙ or_nothing (first_parameters ns x ws)))
      where
        or_nothing : (o : Option Parameters) → option_or o None ≡ o
        or_nothing None = refl
        or_nothing (Some y) = refl

    by_entry : (x : Name) (qs : List Parameter) (b : Bool) → cond b (Some ps) (parameters_under t x) ≡ Some qs → AllByRecursion (IsParameterOver g) qs
    by_entry x qs true e = subst (AllByRecursion (IsParameterOver g)) (same_Some ps qs e) over
    by_entry x qs false e = has.over x qs e
