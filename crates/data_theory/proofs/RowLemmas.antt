-- Rows of the table of built-in functions.
use Rattle.std.proofs.Common.{◌≡◌, ℕ, ◌<◌, ◌+◌, List, [], ◌∷◌, ◌++◌, length, take, get_or, Option, Some, None, refl, ap, ◌∙◌, sym, subst}
use Rattle.std.specs.Prelude.{IsSome, MatchOption, slice_get}
use Rattle.std.specs.List.{Contains}
use Rattle.std.proofs.lemmas.List.{map-append, take_more}
use Rattle.data_theory.specs.declared.ids.NameId.{NameId}
use Rattle.data_theory.specs.declared.rows.Row.{Row}
use Rattle.data_theory.specs.declared.functions.FunEntry.{FunEntry}
use Rattle.data_theory.specs.Functions.{Function, function_of, functions_of}
use Rattle.data_theory.specs.Names.{AreDifferent}
use Rattle.data_theory.specs.Rows.{row_text, row_function, built_in, built_ins}
use Rattle.data_theory.proofs.NameLemmas.{place_is}

-- a look-up of what is there finds something
pub some_if_there : {A : Type 0} (r : Option A) {P : Type 0} (Q : A → Type 0) → MatchOption r (P → ⊥) Q → P → IsSome r
some_if_there None Q h p = absurd (h p)
some_if_there (Some x) Q h p = refl

-- one more row
row_added : (texts : List (List ℕ)) (mid new : List Function) (rows : List Row) (i : ℕ) (d : Row) → i < length rows
    → mid ≡ built_ins texts (take i rows) → new ≡ mid ++ built_in texts (get_or rows i d) ∷ [] → new ≡ built_ins texts (take (i + 1) rows)
row_added texts mid new rows i d l e f =
    f ∙ ap (λ fs. fs ++ built_in texts (get_or rows i d) ∷ []) e ∙ sym (map-append (built_in texts) (take i rows) (get_or rows i d ∷ [])) ∙ ap (built_ins texts) (sym (take_more rows i d l))

-- the same, with the name that a look-up found
pub row_entered : (texts : List (List ℕ)) (mid new : List FunEntry) (entry : FunEntry) (rows : List Row) (i : ℕ) (d : Row) (t : List ℕ) (name : NameId) (r : Option NameId) → i < length rows
    → functions_of mid ≡ built_ins texts (take i rows) → AreDifferent texts → r ≡ Some name → MatchOption r (Contains texts t → ⊥) (λ n. slice_get texts n.0 ≡ Some t) → t ≡ row_text (get_or rows i d)
    → function_of entry ≡ row_function name (get_or rows i d) → new ≡ mid ++ entry ∷ [] → functions_of new ≡ built_ins texts (take (i + 1) rows)
row_entered texts mid new entry rows i d t name r l e different is found text function pushed =
    let at : slice_get texts name.0 ≡ Some t = subst (λ (o : Option NameId). MatchOption o (Contains texts t → ⊥) (λ n. slice_get texts n.0 ≡ Some t)) is found in
    let here : function_of entry ≡ built_in texts (get_or rows i d) =
    function ∙ ap (λ n. row_function n (get_or rows i d)) (place_is texts (row_text (get_or rows i d)) name.0 different (at ∙ ap Some text)) in
    row_added texts (functions_of mid) (functions_of new) rows i d l e (ap functions_of pushed ∙ map-append function_of mid (entry ∷ []) ∙ ap (λ f. functions_of mid ++ f ∷ []) here)

-- rows behind what was there
pub rows_appended : (front mid new rows named : List Row) → mid ≡ front → new ≡ mid ++ rows → rows ≡ named → new ≡ front ++ named
rows_appended front mid new rows named e f g = f ∙ (λ i. e i ++ g i)
