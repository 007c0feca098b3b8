-- The names of variables aren't those of functions.
use Rattle.std.proofs.Common.{◌≡◌, ◌<◌, ⊎_elim, ℕ, List, [], ◌∷◌, length, map, codes, Some, refl, sym, ap, ◌∙◌, subst}
use Rattle.std.specs.Prelude.{slice_get}
use Rattle.std.specs.List.{Contains}
use Rattle.std.proofs.lemmas.List.Elements.{Contains-append_left, Contains-append_right}
use Rattle.std.proofs.lemmas.Option.{slice_get-get_or}
use Rattle.data_theory.specs.declared.ids.NameId.{NameId}
use Rattle.data_theory.specs.declared.ids.VarId.{VarId}
use Rattle.data_theory.specs.declared.rows.Row.{Row}
use Rattle.data_theory.specs.declared.rows.Row.TheVariants as rows
use Rattle.data_theory.specs.declared.words.NumberWord.TheVariants as numbers
use Rattle.data_theory.specs.declared.words.ListWord.{ListWord}
use Rattle.data_theory.specs.declared.words.ListWord.TheVariants as lists
use Rattle.data_theory.specs.declared.words.Word.TheVariants as words
use Rattle.data_theory.specs.Words.{list_text}
use Rattle.data_theory.specs.Names.{place_in}
use Rattle.data_theory.specs.Terms.{Sort, Comparison, less, at_most, greater, at_least, Operation, Symbol, truth, falsity, negation, conjunction, disjunction, implication, equality, inequality, conditional, comparison, arithmetic, minus, upcast, empty, cons, snoc, concatenation, size, element_at, head, rhead, tail, rtail, membership, function}
use Rattle.data_theory.specs.Declarations.{IsSymbol, IsUpcast, pos2nat, nat2int, pos2int, IsOperation, add_pos_pos, add_pos_nat, add_nat_pos, add_nat_nat, add_int_int, subtract_pos, subtract_nat, subtract_int, multiply_pos, multiply_nat, multiply_int, div_nat, div_int, mod_nat, mod_int, exp_pos, exp_nat, exp_int, min_pos, min_nat, min_int, max_pos, max_nat, max_int, abs_int, succ_pos, succ_nat, succ_int, pred_pos, pred_nat, pred_int, nat2pos, int2nat, int2pos}
use Rattle.data_theory.specs.Functions.{Function}
use Rattle.data_theory.specs.Rows.{row_text}
use Rattle.data_theory.specs.Table.{bool_sort, pos_sort, nat_sort, int_sort, first_table, first_rows, truth_rows, sort_rows, comparison_rows, sum_rows, quotient_rows, extreme_rows, step_rows}
use Rattle.data_theory.specs.Signature.{Sig}
use Rattle.data_theory.specs.IdData.{data_meant}
use Rattle.data_theory.specs.WholeSignatures.{IsSignature}
use Rattle.data_theory.proofs.NameLemmas.{place_is}
use Rattle.data_theory.proofs.PlaceLemmas.{contains_read}
use Rattle.data_theory.proofs.StandingLemmas.{first_functions_stand}
use Rattle.term_pool.proofs.Lists.{contains_none, contains_cons, contains_map}
use Rattle.data_theory.specs.Environments.{AreDistinct}
use Rattle.lps_core.specs.Fitting.{IsVariable}
use Rattle.lps_core.specs.Naming.{name_of, names_of, list_words, list_names, table_names, function_names}
use Rattle.lps_core.proofs.NamedSums.{variable_there}
use Rattle.sort_table.specs.SignatureVocabularies.{text_under}
use Rattle.lps_printer.specs.DataLayout.{IsIdentifier}
use Rattle.lps_printer.specs.ReadableNames.{symbol_text}
use Rattle.lps_printer.specs.SignatureNames.{variable_name_of, names_under}
use Rattle.lps_printer.proofs.OwnFunctions.{stands_as}

-- ---- names that differ belong to one variable each
pub same_variable : (g : Sig) (xs : List VarId) → AreDistinct (map (λ (n : NameId). n.0) (names_of g xs)) → (x y : VarId) → Contains xs x → Contains xs y → (name_of g x).0 ≡ (name_of g y).0 → x ≡ y
same_variable g [] d x y c k e = absurd (contains_none x c)
same_variable g (z ∷ xs) d x y c k e = ⊎_elim
    (λ p. ⊎_elim (λ q. sym p ∙ q) (λ j. absurd (d.0 (subst (Contains (map (λ (n : NameId). n.0) (names_of g xs))) (sym e ∙ ap (λ w. (name_of g w).0) (sym p)) (among xs y j)))) (contains_cons z y xs k))
    (λ i. ⊎_elim (λ q. absurd (d.0 (subst (Contains (map (λ (n : NameId). n.0) (names_of g xs))) (e ∙ ap (λ w. (name_of g w).0) (sym q)) (among xs x i)))) (λ j. same_variable g xs d.1 x y i j e) (contains_cons z y xs k))
    (contains_cons z x xs c)
  where
    among : (ys : List VarId) (v : VarId) → Contains ys v → Contains (map (λ (n : NameId). n.0) (names_of g ys)) (name_of g v).0
    among ys v i = contains_map (λ (n : NameId). n.0) (names_of g ys) (name_of g v) (contains_map (name_of g) ys v i)

module _ (g : Sig) (sg : IsSignature g) where
  -- ---- the text of its name
  pub name_within : (x : VarId) → IsVariable g x → (name_of g x).0 < length g.texts
  name_within x l = (sg.complete.within.variables x.0 (record { name = record { 0 = 0 }; sort = record { 0 = 0 } }) l).0

  pub name_read : (x : VarId) → IsVariable g x → slice_get g.texts (name_of g x).0 ≡ Some (text_under g (name_of g x))
  name_read x l = slice_get-get_or g.texts (name_of g x).0 [] (name_within x l)

  pub variable_named : (x : VarId) → IsVariable g x → (names_under g).variable x.0 ≡ text_under g (name_of g x)
  variable_named x l = ap (variable_name_of g) (variable_there g x l (record { name = record { 0 = 0 }; sort = record { 0 = 0 } }))

  pub same_name : (x y : VarId) → IsVariable g x → IsVariable g y → text_under g (name_of g x) ≡ text_under g (name_of g y) → (name_of g x).0 ≡ (name_of g y).0
  same_name x y l k e = sg.table.different (name_of g x).0 (name_of g y).0 (text_under g (name_of g x)) (name_read x l) (name_read y k ∙ ap Some (sym e))

  -- ---- it isn't a function's
  module _ (x : VarId) (l : IsVariable g x) (own : Contains (function_names g) (name_of g x) → ⊥) (identifier : IsIdentifier (text_under g (name_of g x))) where
    not_in_table : (k : ℕ) (f : Function) → slice_get g.functions k ≡ Some f → slice_get g.texts f.name.0 ≡ Some (text_under g (name_of g x)) → ⊥
    not_in_table k f at text =
        let number : f.name.0 ≡ (name_of g x).0 = sg.table.different f.name.0 (name_of g x).0 (text_under g (name_of g x)) text (name_read x l) in
        let name : f.name ≡ name_of g x = (λ i. record { 0 = number i }) in
        own (Contains-append_right (list_names g.texts) (table_names g) (name_of g x) (subst (Contains (table_names g)) name (contains_map (λ (h : Function). h.name) g.functions f (contains_read g.functions k f at))))

    not_of_row : (k : ℕ) (r : Row) → slice_get first_table k ≡ Some r → text_under g (name_of g x) ≡ row_text r → ⊥
    not_of_row k r at e =
        let s = first_functions_stand g sg k r at in
        not_in_table k s.found.0 s.found.1 (s.found.2 ∙ ap Some (sym e))

    not_of_list : (i : ℕ) (w : ListWord) → slice_get list_words i ≡ Some w → text_under g (name_of g x) ≡ list_text w → ⊥
    not_of_list i w at e =
        let place : name_of g x ≡ place_in g.texts (list_text w) = place_is g.texts (list_text w) (name_of g x).0 sg.table.different (name_read x l ∙ ap Some e) in
        own (Contains-append_left (list_names g.texts) (table_names g) (name_of g x) (subst (Contains (list_names g.texts)) (sym place) (contains_map (λ v. place_in g.texts (list_text v)) list_words w (contains_read list_words i w at))))

    -- a sign, or a word that is no identifier
    no_name : (t : List ℕ) → (IsIdentifier t → ⊥) → text_under g (name_of g x) ≡ t → ⊥
    no_name t never e = never (subst IsIdentifier e identifier)

    not_an_operation : {op : Operation} {ss : List Sort} {to : Sort} → IsOperation op ss to → text_under g (name_of g x) ≡ symbol_text (names_under g) (arithmetic op ss to) → ⊥
    unfolding first_table first_rows truth_rows sort_rows comparison_rows sum_rows quotient_rows extreme_rows step_rows
    not_an_operation add_pos_pos e = no_name (codes "+") (λ h. absurd cc) e
    not_an_operation add_pos_nat e = no_name (codes "+") (λ h. absurd cc) e
    not_an_operation add_nat_pos e = no_name (codes "+") (λ h. absurd cc) e
    not_an_operation add_nat_nat e = no_name (codes "+") (λ h. absurd cc) e
    not_an_operation add_int_int e = no_name (codes "+") (λ h. absurd cc) e
    not_an_operation subtract_pos e = no_name (codes "-") (λ h. absurd cc) e
    not_an_operation subtract_nat e = no_name (codes "-") (λ h. absurd cc) e
    not_an_operation subtract_int e = no_name (codes "-") (λ h. absurd cc) e
    not_an_operation multiply_pos e = no_name (codes "*") (λ h. absurd cc) e
    not_an_operation multiply_nat e = no_name (codes "*") (λ h. absurd cc) e
    not_an_operation multiply_int e = no_name (codes "*") (λ h. absurd cc) e
    not_an_operation div_nat e = no_name (codes "div") (λ h. absurd cc) e
    not_an_operation div_int e = no_name (codes "div") (λ h. absurd cc) e
    not_an_operation mod_nat e = no_name (codes "mod") (λ h. absurd cc) e
    not_an_operation mod_int e = no_name (codes "mod") (λ h. absurd cc) e
    not_an_operation exp_pos e = not_of_row 51 (rows.Two (words.Number numbers.Exp) pos_sort nat_sort pos_sort) refl e
    not_an_operation exp_nat e = not_of_row 51 (rows.Two (words.Number numbers.Exp) pos_sort nat_sort pos_sort) refl e
    not_an_operation exp_int e = not_of_row 51 (rows.Two (words.Number numbers.Exp) pos_sort nat_sort pos_sort) refl e
    not_an_operation min_pos e = not_of_row 54 (rows.Two (words.Number numbers.Min) pos_sort pos_sort pos_sort) refl e
    not_an_operation min_nat e = not_of_row 54 (rows.Two (words.Number numbers.Min) pos_sort pos_sort pos_sort) refl e
    not_an_operation min_int e = not_of_row 54 (rows.Two (words.Number numbers.Min) pos_sort pos_sort pos_sort) refl e
    not_an_operation max_pos e = not_of_row 57 (rows.Two (words.Number numbers.Max) pos_sort pos_sort pos_sort) refl e
    not_an_operation max_nat e = not_of_row 57 (rows.Two (words.Number numbers.Max) pos_sort pos_sort pos_sort) refl e
    not_an_operation max_int e = not_of_row 57 (rows.Two (words.Number numbers.Max) pos_sort pos_sort pos_sort) refl e
    not_an_operation abs_int e = not_of_row 60 (rows.One (words.Number numbers.Abs) int_sort nat_sort) refl e
    not_an_operation succ_pos e = not_of_row 61 (rows.One (words.Number numbers.Succ) pos_sort pos_sort) refl e
    not_an_operation succ_nat e = not_of_row 61 (rows.One (words.Number numbers.Succ) pos_sort pos_sort) refl e
    not_an_operation succ_int e = not_of_row 61 (rows.One (words.Number numbers.Succ) pos_sort pos_sort) refl e
    not_an_operation pred_pos e = not_of_row 64 (rows.One (words.Number numbers.Pred) pos_sort nat_sort) refl e
    not_an_operation pred_nat e = not_of_row 64 (rows.One (words.Number numbers.Pred) pos_sort nat_sort) refl e
    not_an_operation pred_int e = not_of_row 64 (rows.One (words.Number numbers.Pred) pos_sort nat_sort) refl e
    not_an_operation nat2pos e = not_of_row 67 (rows.One (words.Number numbers.NatToPos) nat_sort pos_sort) refl e
    not_an_operation int2nat e = not_of_row 68 (rows.One (words.Number numbers.IntToNat) int_sort nat_sort) refl e
    not_an_operation int2pos e = not_of_row 69 (rows.One (words.Number numbers.IntToPos) int_sort pos_sort) refl e

    not_an_upcast : {s to : Sort} → IsUpcast s to → text_under g (name_of g x) ≡ symbol_text (names_under g) (upcast s to) → ⊥
    unfolding first_table first_rows truth_rows sort_rows comparison_rows sum_rows quotient_rows extreme_rows step_rows
    not_an_upcast pos2nat e = not_of_row 3 (rows.One (words.Number numbers.PosToNat) pos_sort nat_sort) refl e
    not_an_upcast nat2int e = not_of_row 4 (rows.One (words.Number numbers.NatToInt) nat_sort int_sort) refl e
    not_an_upcast pos2int e = not_of_row 5 (rows.One (words.Number numbers.PosToInt) pos_sort int_sort) refl e

    not_a_comparison : (c : Comparison) (s : Sort) → text_under g (name_of g x) ≡ symbol_text (names_under g) (comparison c s) → ⊥
    not_a_comparison less s e = no_name (codes "<") (λ h. absurd cc) e
    not_a_comparison at_most s e = no_name (codes "<=") (λ h. absurd cc) e
    not_a_comparison greater s e = no_name (codes ">") (λ h. absurd cc) e
    not_a_comparison at_least s e = no_name (codes ">=") (λ h. absurd cc) e

    pub no_function : (f : Symbol) → IsSymbol (data_meant g) f → text_under g (name_of g x) ≡ symbol_text (names_under g) f → ⊥
    unfolding list_words first_table first_rows truth_rows sort_rows comparison_rows sum_rows quotient_rows extreme_rows step_rows
    no_function truth is e = no_name (codes "true") (λ h. absurd cc) e
    no_function falsity is e = no_name (codes "false") (λ h. absurd cc) e
    no_function negation is e = no_name (codes "!") (λ h. absurd cc) e
    no_function conjunction is e = no_name (codes "&&") (λ h. absurd cc) e
    no_function disjunction is e = no_name (codes "||") (λ h. absurd cc) e
    no_function implication is e = no_name (codes "=>") (λ h. absurd cc) e
    no_function (equality s) is e = no_name (codes "==") (λ h. absurd cc) e
    no_function (inequality s) is e = no_name (codes "!=") (λ h. absurd cc) e
    no_function (conditional s) is e = not_of_row 14 (rows.Three words.If bool_sort bool_sort bool_sort bool_sort) refl e
    no_function (comparison c s) is e = not_a_comparison c s e
    no_function (arithmetic op ss to) is e = not_an_operation is e
    no_function (minus s) is e = no_name (codes "-") (λ h. absurd cc) e
    no_function (upcast s to) is e = not_an_upcast is e
    no_function (empty s) is e = no_name (codes "[]") (λ h. absurd cc) e
    no_function (cons s) is e = no_name (codes "|>") (λ h. absurd cc) e
    no_function (snoc s) is e = no_name (codes "<|") (λ h. absurd cc) e
    no_function (concatenation s) is e = no_name (codes "++") (λ h. absurd cc) e
    no_function (size s) is e = no_name (codes "#") (λ h. absurd cc) e
    no_function (element_at s) is e = no_name (codes ".") (λ h. absurd cc) e
    no_function (head s) is e = not_of_list 0 lists.Head refl e
    no_function (rhead s) is e = not_of_list 1 lists.Rhead refl e
    no_function (tail s) is e = not_of_list 2 lists.Tail refl e
    no_function (rtail s) is e = not_of_list 3 lists.Rtail refl e
    no_function (membership s) is e = no_name (codes "in") (λ h. absurd cc) e
    no_function (function k) is e = let a = stands_as g sg k is in not_in_table a.id.0 a.entry a.stands (a.text ∙ ap Some (sym e))
