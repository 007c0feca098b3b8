-- The built-in functions stand in every signature.
use Rattle.std.proofs.Common.{◌≡◌, ℕ, zero, suc, ◌<◌, List, [], ◌∷◌, map, length, Some, refl, sym, ap, ◌∙◌, subst}
use Rattle.std.specs.Prelude.{slice_get, option_map}
use Rattle.std.specs.List.{All, Contains}
use Rattle.std.proofs.lemmas.List.Elements.{All-weaker, All-contains, All-head, All-tail}
use Rattle.std.proofs.lemmas.Option.{slice_get-map}
use Rattle.data_theory.specs.declared.ids.SortId.{SortId}
use Rattle.data_theory.specs.declared.rows.Row.{Row}
use Rattle.data_theory.specs.declared.signature.Variable.{Variable}
use Rattle.data_theory.specs.Terms.{Sort}
use Rattle.data_theory.specs.Declarations.{IsSort, Declares}
use Rattle.data_theory.specs.Keys.{key}
use Rattle.data_theory.specs.Functions.{key_of}
use Rattle.data_theory.specs.Rows.{row_word, row_sorts, row_text, built_in, built_ins}
use Rattle.data_theory.specs.Table.{first_rows, truth_rows, sort_rows, list_rows, first_table}
use Rattle.data_theory.specs.Signature.{Sig, IsFun}
use Rattle.data_theory.specs.IdTables.{IsTable}
use Rattle.data_theory.specs.IdData.{data_meant}
use Rattle.data_theory.specs.IdTerms.{sort_under}
use Rattle.data_theory.specs.WholeSignatures.{IsSignature}
use Rattle.data_theory.specs.SignatureLaws.{RowStandsAt, RowStands, FirstFunctionsStand, FunctionsOverSortsStand, FunctionsOverListsStand, SignaturesHaveTruthFunctions, VariablesHaveSortsOfTheData}
use Rattle.data_theory.proofs.PlaceLemmas.{read_front, read_contained}
use Rattle.data_theory.proofs.NameLemmas.{place_reads}
use Rattle.data_theory.proofs.IdSymbolLemmas.{built_in_is, sort_is}

-- a function is found at one place
pub found_once : (g : Sig) → IsTable g → (t : List ℕ) (ss : List SortId) (a b : ℕ) → IsFun g t ss a → IsFun g t ss b → a ≡ b
found_once g table t ss a b p q =
    let name : p.0.name ≡ q.0.name = ap (λ (n : ℕ). record { 0 = n }) (table.different p.0.name.0 q.0.name.0 t p.2 q.2) in
    let same : key_of p.0 ≡ key_of q.0 = (λ i. key (name i) ((p.3 ∙ sym q.3) i)) in
    table.once a b (key_of p.0) (slice_get-map key_of g.functions a ∙ ap (option_map key_of) p.1) (slice_get-map key_of g.functions b ∙ ap (option_map key_of) q.1 ∙ ap Some (sym same))

row_stands : (g : Sig) → IsSignature g → (r : Row) (k : ℕ) → slice_get g.functions k ≡ Some (built_in g.texts r) → RowStandsAt g r k
row_stands g s r k at =
    let found : IsFun g (row_text r) (row_sorts r) k = (built_in g.texts r, at, place_reads g.texts (row_text r) (s.complete.words (row_word r)), refl) in
    record {
      stands = at;
      found = found;
      alone = λ j h. found_once g s.table (row_text r) (row_sorts r) j k h found;
      means = built_in_is g s.table (record { 0 = k }) (built_in g.texts r) r at refl;
    }

there : (g : Sig) → IsSignature g → (rows : List Row) (r : Row) → All (λ x. Contains g.functions (built_in g.texts x)) rows → Contains rows r → RowStands g r
there g s rows r all c = let at = read_contained g.functions (built_in g.texts r) (All-contains (λ (x : Row). Contains g.functions (built_in g.texts x)) rows r all c) in (at.0, row_stands g s r at.0 at.1)

pub functions_over_sorts_stand : FunctionsOverSortsStand
functions_over_sorts_stand g s sort l r c = there g s (sort_rows sort) r (s.rows.over_sorts sort l) c

pub functions_over_lists_stand : FunctionsOverListsStand
functions_over_lists_stand g s e l o r c = there g s (list_rows e l) r (s.rows.over_lists e l o) c

pub first_functions_stand : FirstFunctionsStand
first_functions_stand g s k r at =
    let begin = s.complete.first_functions_stay in
    let first : slice_get (built_ins g.texts first_table) k ≡ Some (built_in g.texts r) = slice_get-map (built_in g.texts) first_table k ∙ ap (option_map (built_in g.texts)) at in
    row_stands g s r k (ap (λ fs. slice_get fs k) begin.1 ∙ read_front (built_ins g.texts first_table) begin.0 k (built_in g.texts r) first)

pub signatures_have_truth_functions : SignaturesHaveTruthFunctions
unfolding first_table first_rows truth_rows
signatures_have_truth_functions g s =
    let true' = first_functions_stand g s 6 _ refl in
    let false' = first_functions_stand g s 7 _ refl in
    let not' = first_functions_stand g s 8 _ refl in
    let and' = first_functions_stand g s 9 _ refl in
    let or' = first_functions_stand g s 10 _ refl in
    let implies' = first_functions_stand g s 11 _ refl in
    record {
      true_stands = true';
      false_stands = false';
      not_stands = not';
      and_stands = and';
      or_stands = or';
      implies_stands = implies';
      true_means = true'.means;
      false_means = false'.means;
      not_means = not'.means;
      and_means = and'.means;
      or_means = or'.means;
      implies_means = implies'.means;
    }

-- ---- the sorts of variables
declared_variable : (g : Sig) (vs : List Variable) → All (λ (v : Variable). IsSort (data_meant g) (sort_under g v.sort)) vs → (n : ℕ) (s : Sort) → Declares (map (λ (v : Variable). sort_under g v.sort) vs) n s → IsSort (data_meant g) s
declared_variable g [] all n s d = absurd d
declared_variable g (v ∷ vs) all zero s d = subst (IsSort (data_meant g)) d (All-head (λ (x : Variable). IsSort (data_meant g) (sort_under g x.sort)) v vs all)
declared_variable g (v ∷ vs) all (suc n) s d = declared_variable g vs (All-tail (λ (x : Variable). IsSort (data_meant g) (sort_under g x.sort)) v vs all) n s d

pub variables_have_sorts_of_the_data : VariablesHaveSortsOfTheData
variables_have_sorts_of_the_data g s n sort d =
    declared_variable g g.variables
    (All-weaker (λ (v : Variable). (v.name.0 < length g.texts) × (v.sort.0 < length g.sorts)) (λ v. IsSort (data_meant g) (sort_under g v.sort)) (λ v w. sort_is g s.table v.sort w.1) g.variables s.complete.within.variables)
    n sort d
