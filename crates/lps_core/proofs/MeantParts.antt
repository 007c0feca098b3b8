-- What conditions over trees mean.
use Rattle.std.proofs.Common.{◌≡◌, ◌<◌, ◌==◌, ℕ, true, false, List, [], ◌∷◌, ◌++◌, map, length, take, refl, sym, ap, ap₂, ◌∙◌, cond, if◌then◌else◌, ⊎_elim, Some}
use Rattle.std.specs.Prelude.{slice_get}
use Rattle.std.specs.List.{AllByRecursion}
use Rattle.std.proofs.lemmas.Bool.Decides.{eqb_tells}
use Rattle.std.proofs.lemmas.Option.{slice_get_within}
use Rattle.data_theory.specs.Terms.{positive, Symbol, truth, conjunction, equality, Term, Terms, application, none as no_terms, more as and_more}
use Rattle.data_theory.specs.declared.ids.FunId.{FunId}
use Rattle.data_theory.specs.Rows.{built_in, built_ins}
use Rattle.data_theory.specs.Functions.{Function}
use Rattle.data_theory.specs.Table.{first_rows, truth_rows, sort_rows, first_table, pos_sort, bool_sort}
use Rattle.data_theory.specs.declared.words.Word.TheVariants as words
use Rattle.data_theory.specs.declared.rows.Row.TheVariants as rows
use Rattle.data_theory.specs.Signature.{Sig}
use Rattle.data_theory.specs.Complete.{IsComplete}
use Rattle.data_theory.specs.IdTables.{IsTable}
use Rattle.data_theory.specs.IdSorts.{constructions, meaning_of}
use Rattle.data_theory.specs.IdSymbols.{declared_from, symbol_at}
use Rattle.data_theory.specs.IdTrees.{Tree, variable, numeral, function, none, more}
use Rattle.data_theory.specs.IdTerms.{sort_under, symbol_under, term_under, IsTreeWithin}
use Rattle.data_theory.proofs.IdSortLemmas.{sorts_mean_their_kinds}
use Rattle.data_theory.proofs.IdSymbolLemmas.{different_functions_mean_different_symbols}
use Rattle.process_terms.specs.Communication.{conjunction_of}
use Rattle.bisim_laws.specs.LinearProcesses.{is_true}
use Rattle.lps_core.specs.Conditions.{parts, without_true}
use Rattle.lps_core.specs.TreeConditions.{true_function, and_function, tree_parts, is_true_tree, trees_without_true, conjunction_tree}
use Rattle.lps_core.specs.MeantConditions.{NumbersMeanTheirSymbols, PartsMeanParts, ChainsMeanChains}

-- ---- the table
true_at : (texts : List (List ℕ)) (new : List Function) → slice_get (built_ins texts first_table ++ new) 6 ≡ Some (built_in texts (rows.Constant words.True bool_sort))
unfolding first_table first_rows truth_rows sort_rows
true_at texts new = refl

and_at : (texts : List (List ℕ)) (new : List Function) → slice_get (built_ins texts first_table ++ new) 9 ≡ Some (built_in texts (rows.Two words.And bool_sort bool_sort bool_sort))
unfolding first_table first_rows truth_rows sort_rows
and_at texts new = refl

equal_at : (texts : List (List ℕ)) (new : List Function) → slice_get (built_ins texts first_table ++ new) 15 ≡ Some (built_in texts (rows.Two words.Equal pos_sort pos_sort bool_sort))
unfolding first_table first_rows truth_rows sort_rows
equal_at texts new = refl

symbol_is : (g : Sig) (i : FunId) (f : Function) → slice_get g.functions i.0 ≡ Some f → symbol_under g i ≡ symbol_at (sort_under g) (length (declared_from 0 (take i.0 g.functions))) (Some f)
symbol_is g i f e = ap (symbol_at (sort_under g) (length (declared_from 0 (take i.0 g.functions)))) e

read_at : (g : Sig) → IsComplete g → (k : ℕ) (f : Function) → ((new : List Function) → slice_get (built_ins g.texts first_table ++ new) k ≡ Some f) → slice_get g.functions k ≡ Some f
read_at g c k f h = ap (λ fs. slice_get fs k) c.first_functions_stay.1 ∙ h c.first_functions_stay.0

pub positive_meant : (g : Sig) → IsTable g → sort_under g pos_sort ≡ positive
positive_meant g table =
    let k = (table.sorts.positive_second 1).1 refl in
    sorts_mean_their_kinds g.sorts table.sorts pos_sort k.0 k.1 ∙ ap (λ z. meaning_of (sort_under g) (length (constructions (take pos_sort.0 g.sorts))) z) k.2

pub numbers_mean : NumbersMeanTheirSymbols
numbers_mean g table complete = (
  symbol_is g true_function _ (read_at g complete 6 _ (true_at g.texts)),
  symbol_is g and_function _ (read_at g complete 9 _ (and_at g.texts)),
  symbol_is g (record { 0 = 15 }) _ (read_at g complete 15 _ (equal_at g.texts)) ∙ ap equality (positive_meant g table),
)

-- ---- parts
parts_other : (s : Symbol) (ts : Terms) → (s ≡ conjunction → ⊥) → parts (application s ts) ≡ application s ts ∷ []
parts_other conjunction (and_more x (and_more y no_terms)) n = absurd (n refl)
parts_other s ts n = refl

parts_none : (s : Symbol) → parts (application s no_terms) ≡ application s no_terms ∷ []
parts_none conjunction = refl
parts_none s = refl

parts_one : (s : Symbol) (t : Term) → parts (application s (and_more t no_terms)) ≡ application s (and_more t no_terms) ∷ []
parts_one conjunction t = refl
parts_one s t = refl

parts_many : (s : Symbol) (t u v : Term) (ts : Terms) → parts (application s (and_more t (and_more u (and_more v ts)))) ≡ application s (and_more t (and_more u (and_more v ts))) ∷ []
parts_many conjunction t u v ts = refl
parts_many s t u v ts = refl

is_true_other : (s : Symbol) → (s ≡ truth → ⊥) → is_true (application s no_terms) ≡ false
is_true_other truth n = absurd (n refl)
is_true_other s n = refl

is_true_over : (s : Symbol) (t : Term) (ts : Terms) → is_true (application s (and_more t ts)) ≡ false
is_true_over truth t ts = refl
is_true_over s t ts = refl

module _ (g : Sig) (table : IsTable g) (complete : IsComplete g) where
  true_symbol : symbol_under g true_function ≡ truth
  true_symbol = (numbers_mean g table complete).0

  and_symbol : symbol_under g and_function ≡ conjunction
  and_symbol = (numbers_mean g table complete).1

  not_and : (f : FunId) → f.0 < length g.functions → (f.0 ≡ 9 → ⊥) → symbol_under g f ≡ conjunction → ⊥
  not_and f l n e =
      let w = slice_get_within g.functions 9 _ (read_at g complete 9 _ (and_at g.texts)) in
      n (ap (λ z. z.0) (different_functions_mean_different_symbols g table f and_function l w (e ∙ sym and_symbol)))

  not_true : (f : FunId) → f.0 < length g.functions → (f.0 ≡ 6 → ⊥) → symbol_under g f ≡ truth → ⊥
  not_true f l n e =
      let w = slice_get_within g.functions 6 _ (read_at g complete 6 _ (true_at g.texts)) in
      n (ap (λ z. z.0) (different_functions_mean_different_symbols g table f true_function l w (e ∙ sym true_symbol)))

  parts_mean : (t : Tree) → IsTreeWithin g t → map (term_under g) (tree_parts t) ≡ parts (term_under g t)
  parts_mean (variable v) w = refl
  parts_mean (numeral s z) w = refl
  parts_mean (function f none) w = sym (parts_none (symbol_under g f))
  parts_mean (function f (more t none)) w = sym (parts_one (symbol_under g f) (term_under g t))
  parts_mean (function f (more t (more u none))) w = ⊎_elim
      (λ k. ap (λ b. map (term_under g) (cond b (t ∷ tree_parts u) (function f (more t (more u none)) ∷ []))) k.0
      ∙ ap (λ ts. term_under g t ∷ ts) (parts_mean u w.1.1.0)
      ∙ ap (λ s. parts (application s (and_more (term_under g t) (and_more (term_under g u) no_terms)))) (sym (ap (λ z. symbol_under g (record { 0 = z })) k.1 ∙ and_symbol)))
      (λ k. ap (λ b. map (term_under g) (cond b (t ∷ tree_parts u) (function f (more t (more u none)) ∷ []))) k.0
      ∙ sym (parts_other (symbol_under g f) (and_more (term_under g t) (and_more (term_under g u) no_terms)) (not_and f w.0 k.1)))
      (eqb_tells f.0 9)
  parts_mean (function f (more t (more u (more v ts)))) w = sym (parts_many (symbol_under g f) (term_under g t) (term_under g u) (term_under g v) _)

  true_means : (t : Tree) → IsTreeWithin g t → is_true (term_under g t) ≡ is_true_tree t
  true_means (variable v) w = refl
  true_means (numeral s z) w = refl
  true_means (function f none) w = ⊎_elim
      (λ k. ap (λ s. is_true (application s no_terms)) (ap (λ z. symbol_under g (record { 0 = z })) k.1 ∙ true_symbol) ∙ sym k.0)
      (λ k. is_true_other (symbol_under g f) (not_true f w.0 k.1) ∙ sym k.0)
      (eqb_tells f.0 6)
  true_means (function f (more t ts)) w = is_true_over (symbol_under g f) (term_under g t) _

  parts_within : (t : Tree) → IsTreeWithin g t → AllByRecursion (IsTreeWithin g) (tree_parts t)
  parts_within (variable v) w = (w, tt)
  parts_within (numeral s z) w = (w, tt)
  parts_within (function f none) w = (w, tt)
  parts_within (function f (more t none)) w = (w, tt)
  parts_within (function f (more t (more u none))) w = elim (f.0 == 9) as (λ b. AllByRecursion (IsTreeWithin g) (cond b (t ∷ tree_parts u) (function f (more t (more u none)) ∷ []))) [ true ↦ (w.1.0, parts_within u w.1.1.0) | false ↦ (w, tt) ]
  parts_within (function f (more t (more u (more v ts)))) w = (w, tt)

  without_means : (ts : List Tree) → AllByRecursion (IsTreeWithin g) ts → map (term_under g) (trees_without_true ts) ≡ without_true (map (term_under g) ts)
  without_means [] w = refl
  without_means (t ∷ ts) w =
      elim (is_true_tree t) as (λ b. map (term_under g) (if b then trees_without_true ts else t ∷ trees_without_true ts) ≡ (if b then without_true (map (term_under g) ts) else term_under g t ∷ without_true (map (term_under g) ts)))
      [ true ↦ without_means ts w.1 | false ↦ ap (λ us. term_under g t ∷ us) (without_means ts w.1) ]
      ∙ ap (λ b. if b then without_true (map (term_under g) ts) else term_under g t ∷ without_true (map (term_under g) ts)) (sym (true_means t w.0))

  chain_means : (ts : List Tree) → term_under g (conjunction_tree ts) ≡ conjunction_of (map (term_under g) ts)
  chain_means [] = ap (λ s. application s no_terms) true_symbol
  chain_means (t ∷ []) = refl
  chain_means (t ∷ u ∷ ts) = ap₂ (λ s c. application s (and_more (term_under g t) (and_more c no_terms))) and_symbol (chain_means (u ∷ ts))

pub parts_mean_parts : PartsMeanParts
parts_mean_parts g table complete t w = without_means g table complete (tree_parts t) (parts_within g table complete t w) ∙ ap without_true (parts_mean g table complete t w)

pub chains_mean_chains : ChainsMeanChains
chains_mean_chains g table complete ts = chain_means g table complete ts
