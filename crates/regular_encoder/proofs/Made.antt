-- What the code makes means the encoding.
use Rattle.std.proofs.Common.{◌≡◌, ◌≤◌, ◌-◌, ℕ, suc, List, [], ◌∷◌, ◌++◌, map, refl, ap, ap₂, ◌∙◌, arith}
use Rattle.std.specs.List.{AllByRecursion}
use Rattle.std.proofs.lemmas.List.{map-append}
use Rattle.data_theory.specs.Signature.{Sig}
use Rattle.data_theory.specs.Complete.{IsComplete}
use Rattle.data_theory.specs.IdTables.{IsTable}
use Rattle.data_theory.specs.IdTrees.{Tree, put_tree}
use Rattle.data_theory.specs.IdTerms.{IsTreeWithin}
use Rattle.term_pool.specs.HeadTrees.{tree_at}
use Rattle.process_terms.specs.SignatureEntries.{entries_of}
use Rattle.bisim_laws.specs.BaseStates.{Columns}
use Rattle.greibach.specs.PlainForms.{PlainEquation, PlainFormSummand, equation_of, form_summand_of}
use Rattle.lps_core.specs.TreeSummands.{meant_summand}
use Rattle.lps_core.proofs.MeantTrees.{numbers_meant, summands_read}
use Rattle.regular_encoder.specs.Encoding.{encoded_summand, encoded_from}
use Rattle.regular_encoder.specs.TreeEncoding.{PlainLayout, tree_encoded, IsFormSummandIn}
use Rattle.regular_encoder.specs.MeantEncoding.{MeansColumns}
use Rattle.regular_encoder.specs.WholeEncoding.{moves_of, trees_encoded_from, AreEquationsIn, WhatIsMadeMeansTheEncoding}
use Rattle.regular_encoder.proofs.MeantTrees.{encoded_trees_mean}

module _ (g : Sig) (ts : List Tree) (l : PlainLayout) (c : Columns) (v : ℕ) (table : IsTable g) (complete : IsComplete g) (m : MeansColumns l c v) where
  equation_means : (i : ℕ) (q : PlainEquation) (ss : List PlainFormSummand) → 1 ≤ i → AllByRecursion (λ (s : PlainFormSummand). IsFormSummandIn ts l s × IsTreeWithin g (put_tree (moves_of l i q) (tree_at ts s.condition))) ss
      → map (meant_summand g) (map (tree_encoded l i (moves_of l i q) ts) ss) ≡ map (encoded_summand c v (i - 1) (equation_of (entries_of g ts) q)) (map (form_summand_of (entries_of g ts)) ss)
  equation_means i q [] one h = refl
  equation_means i q (s ∷ ss) one h =
      ap₂ (λ x xs. x ∷ xs) (encoded_trees_mean g l c v i q.params (equation_of (entries_of g ts) q) ts s table complete m one (numbers_meant g ts q.params) h.0.0 h.0.1) (equation_means i q ss one h.1)

  equations_mean : (i : ℕ) (qs : List PlainEquation) → AreEquationsIn g ts l (suc i) qs → map (meant_summand g) (trees_encoded_from l (suc i) ts qs) ≡ encoded_from c v i (map (equation_of (entries_of g ts)) qs)
  equations_mean i [] h = refl
  equations_mean i (q ∷ qs) h =
      map-append (meant_summand g) (map (tree_encoded l (suc i) (moves_of l (suc i) q) ts) q.summands) (trees_encoded_from l (suc (suc i)) ts qs)
      ∙ ap₂ (λ xs ys. xs ++ ys)
      (equation_means (suc i) q q.summands (let k : 1 ≤ suc i = omega arith in k) h.0
      ∙ ap (λ k. map (encoded_summand c v k (equation_of (entries_of g ts) q)) (map (form_summand_of (entries_of g ts)) q.summands)) (let k : suc i - 1 ≡ i = omega arith in k))
      (equations_mean (suc i) qs h.1)

pub made_means : WhatIsMadeMeansTheEncoding
made_means g ts l c v f made table complete m within params made_in trees =
    ap₂ (λ xs ss. record { params = xs; summands = ss }) params
    (summands_read g ts made.summands made_in ∙ ap (map (meant_summand g)) trees ∙ equations_mean g ts l c v table complete m 0 f.equations within)
