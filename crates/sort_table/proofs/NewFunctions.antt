-- A function that comes next in a text isn't in the signature yet.
use Rattle.std.proofs.Common.{◌≡◌, ◌<◌, ◌≤◌, ◌+◌, ℕ, zero, suc, List, [], ◌∷◌, ◌++◌, length, map, get_or, refl, ap, sym, ◌∙◌, subst, arith}
use Rattle.std.specs.Prelude.{Option, Some, None, slice_get, option_map, option_and_then}
use Rattle.std.specs.List.{All}
use Rattle.std.proofs.lemmas.Option.{none-some, same_Some, slice_get_within, slice_get-get_or}
use Rattle.data_theory.specs.declared.ids.NameId.{NameId}
use Rattle.data_theory.specs.declared.ids.SortId.{SortId}
use Rattle.data_theory.specs.declared.ids.FunId.{FunId}
use Rattle.data_theory.specs.declared.rows.Row.{Row}
use Rattle.data_theory.specs.Terms.{Sort}
use Rattle.data_theory.specs.Keys.{Key, key}
use Rattle.data_theory.specs.Places.{HaveOnePlace}
use Rattle.data_theory.specs.Functions.{Function, key_of, HasKey, AreNew}
use Rattle.data_theory.specs.Rows.{row_text, row_sorts}
use Rattle.data_theory.specs.Signature.{Sig}
use Rattle.data_theory.specs.declared.words.Word.{Word}
use Rattle.data_theory.specs.IdSymbols.{declared_from, if_declared}
use Rattle.data_theory.specs.IdTables.{IsRow, IsEntry, declared, built_in}
use Rattle.data_theory.specs.IdTerms.{sort_under}
use Rattle.data_theory.specs.WholeSignatures.{IsSignature}
use Rattle.data_theory.proofs.IdSymbolLemmas.{holds_at}
use Rattle.data_theory.proofs.FunctionLemmas.{read_mapped}
use Rattle.sort_table.specs.BareSorts.{SortExpression}
use Rattle.sort_table.specs.SortMeanings.{UnderNames, StandForEach}
use Rattle.sort_table.specs.TextFunctions.{Named}
use Rattle.sort_table.specs.Duplicates.{SameSorts, IsBuiltIn, sort_numbered}
use Rattle.sort_table.specs.Vocabularies.{sort_in, sorts_in, EachPair}
use Rattle.sort_table.specs.NamedSorts.{HaveSortNames, sort_names_of, sort_count}
use Rattle.sort_table.specs.EnteredFunctions.{HaveSortsOf, IsNameId, IsEntryOf, IsEntered, AreEntered}
use Rattle.sort_table.specs.FunctionStates.{FunctionsDiffer, StartsWith, StandsFrom}
use Rattle.sort_table.proofs.SortsOfLists.{expression_of, expressions_of}
use Rattle.sort_table.proofs.SortTablesOfNames.{sorts_alone, plain_vocabulary, plain_sorts, have_same_sorts, stand_for_expressions}
use Rattle.sort_table.proofs.BuiltInRows.{meant_at, row_of_table}

-- ---- sorts of lists
both_sorts : (o : Option Sort) (s : Sort) (p : Option (List Sort)) (ss : List Sort) → o ≡ Some s → p ≡ Some ss → option_and_then (λ t. option_map (λ ts. t ∷ ts) p) o ≡ Some (s ∷ ss)
both_sorts o s p ss a b = ap (option_and_then (λ t. option_map (λ ts. t ∷ ts) p)) a ∙ ap (option_map (λ ts. s ∷ ts)) b

pub sorts_meant : (g : Sig) (es : List SortExpression) (ss : List SortId) → HaveSortsOf g es ss → sorts_in (sort_names_of g) es ≡ Some (map (sort_under g) ss)
sorts_meant g [] [] have = refl
sorts_meant g (e ∷ es) (s ∷ ss) have = both_sorts (sort_in (sort_names_of g) e) (sort_under g s) (sorts_in (sort_names_of g) es) (map (sort_under g) ss) have.0.meant (sorts_meant g es ss have.1)
sorts_meant g [] (s ∷ ss) have = absurd have
sorts_meant g (e ∷ es) [] have = absurd have

-- ---- pairs by their places
pub pair_at : {A B : Type 0} (Q : A → B → Type 0) (xs : List A) (ys : List B) (j : ℕ) (y : B) → EachPair Q xs ys → slice_get ys j ≡ Some y → (x : A) × (slice_get xs j ≡ Some x) × Q x y
pair_at Q [] [] j y all h = absurd (none-some y h)
pair_at Q (x ∷ xs) (z ∷ ys) zero y all h = (x, refl, subst (Q x) (same_Some z y h) all.0)
pair_at Q (x ∷ xs) (z ∷ ys) (suc j) y all h = pair_at Q xs ys j y all.1 h
pair_at Q [] (z ∷ ys) j y all h = absurd all
pair_at Q (x ∷ xs) [] j y all h = absurd all

-- a function without a word stands among the declared ones
pub declared_place : (fs : List Function) (k i : ℕ) (h : Function) → slice_get fs i ≡ Some h → h.word ≡ None → (j : ℕ) × (slice_get (declared_from k fs) j ≡ Some (record { 0 = k + i }))
declared_place [] k i h at none = absurd (none-some h at)
declared_place (f ∷ fs) k zero h at none = by_word f.word (ap (λ (x : Function). x.word) (same_Some f h at) ∙ none)
  where
    by_word : (w : Option Word) → w ≡ None → (j : ℕ) × (slice_get (if_declared k w ++ declared_from (suc k) fs) j ≡ Some (record { 0 = k + 0 }))
    by_word None e = (0, (let same : k ≡ k + 0 = omega arith in ap (λ n. Some (record { 0 = n })) same))
    by_word (Some w) e = absurd (none-some w (sym e))
declared_place (f ∷ fs) k (suc i) h at none = by_word f.word (declared_place fs (suc k) i h at none)
  where
    by_word : (w : Option Word) → (j : ℕ) × (slice_get (declared_from (suc k) fs) j ≡ Some (record { 0 = suc k + i })) → (j : ℕ) × (slice_get (if_declared k w ++ declared_from (suc k) fs) j ≡ Some (record { 0 = k + suc i }))
    by_word None r = (suc r.0, r.1 ∙ (let same : suc k + i ≡ k + suc i = omega arith in ap (λ n. Some (record { 0 = n })) same))
    by_word (Some w) r = (r.0, r.1 ∙ (let same : suc k + i ≡ k + suc i = omega arith in ap (λ n. Some (record { 0 = n })) same))

pub each_place : {A : Type 0} (P : A → Type 0) (xs : List A) → ((i : ℕ) (x : A) → slice_get xs i ≡ Some x → P x) → All P xs
each_place P xs f = λ k d l. f k (get_or xs k d) (slice_get-get_or xs k d l)

module _ (u : UnderNames) (g : Sig) (stands : IsSignature g) (names : HaveSortNames u (sort_names_of g) (sort_count g)) where
  abbrev expression : Sort → SortExpression
  expression = expression_of (sorts_alone u (sort_names_of g) (sort_count g) names) (plain_vocabulary u (sort_names_of g) (sort_count g) names) (plain_sorts u (sort_names_of g) (sort_count g) names)

  abbrev expressions : List Sort → List SortExpression
  expressions = expressions_of (sorts_alone u (sort_names_of g) (sort_count g) names) (plain_vocabulary u (sort_names_of g) (sort_count g) names) (plain_sorts u (sort_names_of g) (sort_count g) names)

  expression_at : (a : Sort) (k : ℕ) → sort_numbered (expression a) (record { 0 = k }) ≡ expression (meant_at a (record { 0 = k }))
  unfolding expression_of
  expression_at a zero = refl
  expression_at a (suc zero) = refl
  expression_at a (suc (suc zero)) = refl
  expression_at a (suc (suc (suc zero))) = refl
  expression_at a (suc (suc (suc (suc zero)))) = refl
  expression_at a (suc (suc (suc (suc (suc zero))))) = refl
  expression_at a (suc (suc (suc (suc (suc (suc k)))))) = refl

  expressions_at : (a : Sort) (ks : List SortId) → map (sort_numbered (expression a)) ks ≡ expressions (map (meant_at a) ks)
  unfolding expressions_of
  expressions_at a [] = refl
  expressions_at a (k ∷ ks) = let head = expression_at a k.0 in let rest = expressions_at a ks in (λ i. head i ∷ rest i)

  -- the arguments of a text's function aren't those of a row with its name
  no_row : (f : Named) (args : List SortId) (r : Row) → ((rs : List SortExpression) → StandForEach u f.1.arguments rs → ¬ (IsBuiltIn f.0 rs)) → HaveSortsOf g f.1.arguments args → IsRow g.sorts r → row_text r ≡ f.0 → row_sorts r ≡ args → ⊥
  no_row f args r new have row text same =
      let q = row_of_table g stands r row in
      let ss = map (sort_under g) args in
      let meant : map (meant_at q.at) (row_sorts q.row) ≡ ss = sym q.sorts ∙ ap (map (sort_under g)) same in
      new (expressions ss) (stand_for_expressions u (sort_names_of g) (sort_count g) names f.1.arguments ss (sorts_meant g f.1.arguments args have))
      (q.row, expression q.at, q.within, q.text ∙ text, expressions_at q.at (row_sorts q.row) ∙ ap expressions meant)

  same_arguments : (es fs : List SortExpression) (ss ts : List SortId) → HaveSortsOf g es ss → HaveSortsOf g fs ts → ss ≡ ts → SameSorts u es fs
  same_arguments es fs ss ts a b same =
      have_same_sorts u (sort_names_of g) (sort_count g) names es fs (map (sort_under g) ts) (sorts_meant g es ss a ∙ ap (λ xs. Some (map (sort_under g) xs)) same) (sorts_meant g fs ts b)

  -- ---- the next function
  module _ (all done : List Named) (differ : FunctionsDiffer u all) (entered : AreEntered done g) (front : StartsWith all done) where
    pub not_there : (i : ℕ) (f : Named) (n : NameId) (args : List SortId) → length done ≤ i → slice_get all i ≡ Some f → IsNameId g f.0 n → HaveSortsOf g f.1.arguments args → (k : ℕ) → HasKey g.functions (key n args) k → ⊥
    not_there i f n args high at name have k (h, there, same) = by_entry (holds_at (IsEntry g.texts g.sorts) g.functions k h stands.table.entries there)
      where
        name_is : h.name ≡ n
        name_is = ap (λ (x : Key). x.name) same

        sorts_are : h.sorts ≡ args
        sorts_are = ap (λ (x : Key). x.sorts) same

        by_entry : IsEntry g.texts g.sorts h → ⊥
        by_entry (declared none plain) =
            let p = declared_place g.functions 0 k h there none in
            let x = pair_at (IsEntered g) done g.declared p.0 (record { 0 = k }) entered (ap (λ (ds : List FunId). slice_get ds p.0) stands.table.listed ∙ (p.1 ∙ ap (λ m. Some (record { 0 = m })) (let z : 0 + k ≡ k = omega arith in z))) in
            let e = x.2 in
            let entry : e.entry ≡ h = same_Some e.entry h (sym e.there ∙ there) in
            let named : x.0.0 ≡ f.0 = same_Some x.0.0 f.0 (sym e.is.name ∙ (ap (λ (y : Function). slice_get g.texts y.name.0) entry ∙ (ap (λ (m : NameId). slice_get g.texts m.0) name_is ∙ name))) in
            let sorts : SameSorts u x.0.1.arguments f.1.arguments = same_arguments x.0.1.arguments f.1.arguments e.entry.sorts args e.is.arguments have (ap (λ (y : Function). y.sorts) entry ∙ sorts_are) in
            let one : p.0 ≡ i = differ.once p.0 i x.0 f (front p.0 x.0 x.1) at named sorts in
            let low : p.0 < length done = slice_get_within done p.0 x.0 x.1 in
            omega (arith, one, low, high)
        by_entry (built_in r row is text) =
            let written : row_text r ≡ f.0 = same_Some (row_text r) f.0 (sym text ∙ (ap (λ (m : NameId). slice_get g.texts m.0) name_is ∙ name)) in
            no_row f args r (λ rs. differ.new i f rs at) have row written (ap (λ (y : Function). y.sorts) (sym is) ∙ sorts_are)

    -- ---- several functions
    module _ (new : List Named) (fs : List Function) (places : StandsFrom all (length done) new) (are : EachPair (IsEntryOf g) new fs) where
      absent_each : (i : ℕ) (h : Function) → slice_get fs i ≡ Some h → (k : ℕ) → HasKey g.functions (key_of h) k → ⊥
      absent_each i h at k has =
          let x = pair_at (IsEntryOf g) new fs i h are at in
          not_there (length done + i) x.0 h.name h.sorts (omega arith) (places i x.0 x.1) x.2.name x.2.arguments k has

      different_each : HaveOnePlace (map key_of fs)
      different_each i j x a b =
          let p = read_mapped key_of fs i x a in
          let q = read_mapped key_of fs j x b in
          let f = pair_at (IsEntryOf g) new fs i p.0 are p.1 in
          let h = pair_at (IsEntryOf g) new fs j q.0 are q.1 in
          let same : key_of p.0 ≡ key_of q.0 = p.2 ∙ sym q.2 in
          let named : f.0.0 ≡ h.0.0 = same_Some f.0.0 h.0.0 (sym f.2.name ∙ (ap (λ (y : Key). slice_get g.texts y.name.0) same ∙ h.2.name)) in
          let sorts = same_arguments f.0.1.arguments h.0.1.arguments p.0.sorts q.0.sorts f.2.arguments h.2.arguments (ap (λ (y : Key). y.sorts) same) in
          let one : length done + i ≡ length done + j = differ.once (length done + i) (length done + j) f.0 h.0 (places i f.0 f.1) (places j h.0 h.1) named sorts in
          omega (arith, one)

      pub are_new : AreNew g.functions fs
      are_new = record {
        different = different_each;
        absent = each_place (λ (h : Function). (k : ℕ) → HasKey g.functions (key_of h) k → ⊥) fs absent_each;
      }
