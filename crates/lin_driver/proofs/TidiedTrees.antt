-- What is left of a condition, over the trees of a pool, means what is left of the condition.
use Rattle.std.proofs.Common.{◌≡◌, ◌<◌, ◌==◌, true, false, cond, if◌then◌else◌, List, [], ◌∷◌, map, length, refl, sym, ap, ap₂, ◌∙◌, ⊎_elim}
use Rattle.std.specs.List.{AllByRecursion}
use Rattle.std.proofs.lemmas.Bool.Decides.{eqb_tells}
use Rattle.std.proofs.lemmas.Option.{slice_get_within}
use Rattle.data_theory.specs.Terms.{Symbol, truth, conjunction, Term, Terms, application, none as no_terms, more as and_more}
use Rattle.data_theory.specs.declared.ids.FunId.{FunId}
use Rattle.data_theory.specs.Signature.{Sig}
use Rattle.data_theory.specs.WholeSignatures.{IsSignature}
use Rattle.data_theory.specs.IdTrees.{Tree, variable, numeral, function, none, more}
use Rattle.data_theory.specs.IdTerms.{symbol_under, term_under, IsTreeWithin}
use Rattle.data_theory.proofs.IdSymbolLemmas.{different_functions_mean_different_symbols}
use Rattle.data_theory.proofs.StandingLemmas.{signatures_have_truth_functions}
use Rattle.process_terms.specs.Communication.{conjunction_of}
use Rattle.bisim_laws.specs.LinearProcesses.{is_true}
use Rattle.lps_core.specs.TreeConditions.{true_function, and_function, is_true_tree, conjunction_tree}
use Rattle.lps_core.proofs.MeantParts.{chains_mean_chains}
use Rattle.lin_driver.specs.NeededParts.{in_front, needed_parts, tidied, tree_in_front, needed_trees, tidied_tree}

-- ---- symbols
needed_other : (s : Symbol) (t u : Term) → (s ≡ conjunction → ⊥) → needed_parts (application s (and_more t (and_more u no_terms))) ≡ application s (and_more t (and_more u no_terms)) ∷ []
needed_other conjunction t u n = absurd (n refl)
needed_other s t u n = refl

needed_alone : (s : Symbol) → needed_parts (application s no_terms) ≡ (if is_true (application s no_terms) then [] else application s no_terms ∷ [])
needed_alone conjunction = refl
needed_alone s = refl

needed_one : (s : Symbol) (t : Term) → needed_parts (application s (and_more t no_terms)) ≡ application s (and_more t no_terms) ∷ []
needed_one conjunction t = refl
needed_one s t = refl

needed_many : (s : Symbol) (t u v : Term) (ts : Terms) → needed_parts (application s (and_more t (and_more u (and_more v ts)))) ≡ application s (and_more t (and_more u (and_more v ts))) ∷ []
needed_many conjunction t u v ts = refl
needed_many s t u v ts = refl

other_is_not_true : (s : Symbol) → (s ≡ truth → ⊥) → is_true (application s no_terms) ≡ false
other_is_not_true truth n = absurd (n refl)
other_is_not_true s n = refl

over_is_not_true : (s : Symbol) (t : Term) (ts : Terms) → is_true (application s (and_more t ts)) ≡ false
over_is_not_true truth t ts = refl
over_is_not_true s t ts = refl

module _ (g : Sig) (stands : IsSignature g) where
  true_symbol : symbol_under g true_function ≡ truth
  true_symbol = (signatures_have_truth_functions g stands).true_means

  and_symbol : symbol_under g and_function ≡ conjunction
  and_symbol = (signatures_have_truth_functions g stands).and_means

  true_there : 6 < length g.functions
  true_there = slice_get_within g.functions 6 _ (signatures_have_truth_functions g stands).true_stands.stands

  and_there : 9 < length g.functions
  and_there = slice_get_within g.functions 9 _ (signatures_have_truth_functions g stands).and_stands.stands

  not_and : (f : FunId) → f.0 < length g.functions → (f.0 ≡ 9 → ⊥) → symbol_under g f ≡ conjunction → ⊥
  not_and f l n e = n (ap (λ z. z.0) (different_functions_mean_different_symbols g stands.table f and_function l and_there (e ∙ sym and_symbol)))

  not_truth : (f : FunId) → f.0 < length g.functions → (f.0 ≡ 6 → ⊥) → symbol_under g f ≡ truth → ⊥
  not_truth f l n e = n (ap (λ z. z.0) (different_functions_mean_different_symbols g stands.table f true_function l true_there (e ∙ sym true_symbol)))

  true_means : (t : Tree) → IsTreeWithin g t → is_true (term_under g t) ≡ is_true_tree t
  true_means (variable v) w = refl
  true_means (numeral s z) w = refl
  true_means (function f none) w = ⊎_elim
      (λ k. ap (λ s. is_true (application s no_terms)) (ap (λ z. symbol_under g (record { 0 = z })) k.1 ∙ true_symbol) ∙ sym k.0)
      (λ k. other_is_not_true (symbol_under g f) (not_truth f w.0 k.1) ∙ sym k.0)
      (eqb_tells f.0 6)
  true_means (function f (more t ts)) w = over_is_not_true (symbol_under g f) (term_under g t) _

  -- ---- the parts
  front_means : (t : Tree) (own us : List Tree) → IsTreeWithin g t → map (term_under g) (tree_in_front t own us) ≡ in_front (term_under g t) (map (term_under g) own) (map (term_under g) us)
  front_means t own [] w = refl
  front_means t own (u ∷ us) w =
      elim (is_true_tree t) as (λ b. map (term_under g) (if b then u ∷ us else t ∷ u ∷ us) ≡ (if b then map (term_under g) (u ∷ us) else term_under g t ∷ map (term_under g) (u ∷ us))) [ true ↦ refl | false ↦ refl ]
      ∙ ap (λ b. if b then map (term_under g) (u ∷ us) else term_under g t ∷ map (term_under g) (u ∷ us)) (sym (true_means t w))

  alone_means : (t : Tree) → IsTreeWithin g t → map (term_under g) (if is_true_tree t then [] else t ∷ []) ≡ (if is_true (term_under g t) then [] else term_under g t ∷ [])
  alone_means t w =
      elim (is_true_tree t) as (λ b. map (term_under g) (if b then [] else t ∷ []) ≡ (if b then [] else term_under g t ∷ [])) [ true ↦ refl | false ↦ refl ]
      ∙ ap (λ b. if b then [] else term_under g t ∷ []) (sym (true_means t w))

  needed_mean : (t : Tree) → IsTreeWithin g t → map (term_under g) (needed_trees t) ≡ needed_parts (term_under g t)
  needed_mean (variable v) w = refl
  needed_mean (numeral s z) w = refl
  needed_mean (function f none) w = alone_means (function f none) w ∙ sym (needed_alone (symbol_under g f))
  needed_mean (function f (more t none)) w = sym (needed_one (symbol_under g f) (term_under g t))
  needed_mean (function f (more t (more u none))) w = ⊎_elim
      (λ k. ap (λ b. map (term_under g) (cond b (tree_in_front t (needed_trees t) (needed_trees u)) (function f (more t (more u none)) ∷ []))) k.0
      ∙ front_means t (needed_trees t) (needed_trees u) w.1.0
      ∙ ap₂ (λ own us. in_front (term_under g t) own us) (needed_mean t w.1.0) (needed_mean u w.1.1.0)
      ∙ ap (λ s. needed_parts (application s (and_more (term_under g t) (and_more (term_under g u) no_terms)))) (sym (ap (λ z. symbol_under g (record { 0 = z })) k.1 ∙ and_symbol)))
      (λ k. ap (λ b. map (term_under g) (cond b (tree_in_front t (needed_trees t) (needed_trees u)) (function f (more t (more u none)) ∷ []))) k.0
      ∙ sym (needed_other (symbol_under g f) (term_under g t) (term_under g u) (not_and f w.0 k.1)))
      (eqb_tells f.0 9)
  needed_mean (function f (more t (more u (more v ts)))) w = sym (needed_many (symbol_under g f) (term_under g t) (term_under g u) (term_under g v) _)

  pub tidied_means : (t : Tree) → IsTreeWithin g t → term_under g (tidied_tree t) ≡ tidied (term_under g t)
  tidied_means t w = chains_mean_chains g stands.table stands.complete (needed_trees t) ∙ ap conjunction_of (needed_mean t w)

  -- ---- the tables have what stands in them
  abbrev AreWithin : List Tree → Type 0
  AreWithin ts = AllByRecursion (IsTreeWithin g) ts

  front_within : (t : Tree) (own us : List Tree) → IsTreeWithin g t → AreWithin own → AreWithin us → AreWithin (tree_in_front t own us)
  front_within t own [] w h k = h
  front_within t own (u ∷ us) w h k = elim (is_true_tree t) as (λ b. AreWithin (if b then u ∷ us else t ∷ u ∷ us)) [ true ↦ k | false ↦ (w, k) ]

  needed_within : (t : Tree) → IsTreeWithin g t → AreWithin (needed_trees t)
  needed_within (variable v) w = (w, tt)
  needed_within (numeral s z) w = (w, tt)
  needed_within (function f none) w = elim (f.0 == 6) as (λ b. AreWithin (if b then [] else function f none ∷ [])) [ true ↦ tt | false ↦ (w, tt) ]
  needed_within (function f (more t none)) w = (w, tt)
  needed_within (function f (more t (more u none))) w =
      let own = needed_within t w.1.0 in
      let behind = needed_within u w.1.1.0 in
      elim (f.0 == 9) as (λ b. AreWithin (cond b (tree_in_front t (needed_trees t) (needed_trees u)) (function f (more t (more u none)) ∷ []))) [
        | true ↦ front_within t (needed_trees t) (needed_trees u) w.1.0 own behind
        | false ↦ (w, tt)
      ]
  needed_within (function f (more t (more u (more v ts)))) w = (w, tt)

  chain_within : (ts : List Tree) → AreWithin ts → IsTreeWithin g (conjunction_tree ts)
  chain_within [] h = (true_there, tt)
  chain_within (t ∷ []) h = h.0
  chain_within (t ∷ u ∷ ts) h = (and_there, (h.0, (chain_within (u ∷ ts) h.1, tt)))

  pub tidied_within : (t : Tree) → IsTreeWithin g t → IsTreeWithin g (tidied_tree t)
  tidied_within t w = chain_within (needed_trees t) (needed_within t w)
