-- A sort has a value exactly where it has an entry in the table of first values.
use Rattle.std.proofs.Common.{◌≡◌, ◌<◌, ◌≤◌, List, Option, Some, None, false, refl, arith}
use Rattle.std.specs.Prelude.{◌↔◌, IsTrue, is_some, length, get_or}
use Rattle.std.proofs.lemmas.Option.{slice_get_read}
use Rattle.data_theory.specs.declared.ids.SortId.{SortId}
use Rattle.data_theory.specs.Signature.{Sig}
use Rattle.data_theory.specs.WholeSignatures.{IsSignature}
use Rattle.term_pool.specs.declared.first_values.First.{First}
use Rattle.term_pool.specs.ConstructorValues.{HasValue}
use Rattle.term_pool.specs.FirstValues.{AreFirstValues}
use Rattle.term_pool.proofs.SortSearch.{entry_within}
use Rattle.term_pool.proofs.FirstTermLemmas.{has_entry}

module _ (g : Sig) (entries : List (Option First)) (table : AreFirstValues g entries) (s : SortId) where
  pub entry_tells : (e : Option First) → s.0 < length entries → e ≡ get_or entries s.0 e → IsTrue (is_some e) ↔ HasValue g s
  entry_tells None below at =
      let none = table.first s None (slice_get_read entries (length entries) s.0 None refl below at) in
      (λ there. absurd cc, λ has. absurd (none has))
  entry_tells (Some f) below at =
      let first = table.first s (Some f) (slice_get_read entries (length entries) s.0 (Some f) refl below at) in
      (λ there. (first.0, first.1.of_sort), λ has. refl)

  pub none_beyond : IsSignature g → length entries ≤ s.0 → IsTrue false ↔ HasValue g s
  none_beyond stands beyond =
      (λ there. absurd cc, λ has. let within = entry_within entries s (has_entry g stands entries table s has) in absurd (omega (arith, beyond, within)))
