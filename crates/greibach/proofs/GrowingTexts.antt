-- Forms that unfold a text, over data that grow.
use Rattle.std.proofs.Common.{ℕ, List, [], ◌∷◌}
use Rattle.data_theory.specs.Terms.{boolean}
use Rattle.data_theory.specs.Declarations.{Data}
use Rattle.data_theory.specs.Environments.{terms_of}
use Rattle.data_theory.specs.EqualityLaws.{Grows}
use Rattle.data_theory.proofs.GrowthLemmas.{growth_keeps_sorts}
use Rattle.process_terms.specs.Processes.{Body, written_delta, written_act, written_choice, written_seq, written_cond, written_sum, written_call, written_merge, written_starting, written_around}
use Rattle.bisim_laws.specs.LinearProcesses.{variables, sorts}
use Rattle.lps_core.proofs.GrowingData.{terms_grown}
use Rattle.greibach.specs.Places.{Place, Text, IsSortedBody}
use Rattle.greibach.specs.UnfoldedForms.{UnfoldedEquation, IsUnfoldedEquation, HasDefinitions}
use Rattle.greibach.specs.MeetingOrder.{Collects, all_collected, next_collected, CollectedFormsAreGoodOver}
use Rattle.greibach.proofs.NumberedPlaces.{collected_good_from_start}

module _ (g h : Data) (w : Grows g h) (t : Text) where
  body_grown : (xs : List ℕ) (b : Body) → IsSortedBody g t xs b → IsSortedBody h t xs b
  body_grown xs written_delta k = tt
  body_grown xs (written_act m) k = k
  body_grown xs (written_choice p q) k = (body_grown xs p k.0, body_grown xs q k.1)
  body_grown xs (written_seq p q) k = (body_grown xs p k.0, body_grown xs q k.1)
  body_grown xs (written_cond c p q) k = (k.0, growth_keeps_sorts g h w t.variables c boolean k.1, body_grown xs p k.2, body_grown xs q k.3)
  body_grown xs (written_sum x p) k = (k.0, body_grown (x.var ∷ xs) p k.1)
  body_grown xs (written_call x ts) k = let c = k.1 in (k.0, (c.0, c.1, terms_grown g h w t.variables (terms_of ts) (sorts c.0.params) c.2, c.3))
  body_grown xs (written_merge p q) k = k
  body_grown xs (written_starting start p q) k = k
  body_grown xs (written_around o p) k = k

  pub definitions_grown : HasDefinitions g t → HasDefinitions h t
  definitions_grown defs x f at r = let d = defs x f at r in (d.0, body_grown (variables f.params) f.body d.1, d.2, d.3)

  equation_grown : (q : UnfoldedEquation) → IsUnfoldedEquation g t q → IsUnfoldedEquation h t q
  equation_grown q k = record {
    first = k.first;
    others = k.others;
    at = k.at;
    body = k.body;
    sorted_body = body_grown (variables (t.piece q.place).params) (t.piece q.place).body k.sorted_body;
    declared = k.declared;
    distinct = k.distinct;
    same_sorts = k.same_sorts;
    renewed = k.renewed;
    unfolds = k.unfolds;
  }

  pub collected_grown : {ks last : List Place} {n : ℕ} {form : List UnfoldedEquation} → Collects g t ks n form last → Collects h t ks n form last
  collected_grown (all_collected l) = all_collected l
  collected_grown (next_collected q at k met rest) = next_collected q at (equation_grown q k) met (collected_grown rest)

pub collected_good_over : CollectedFormsAreGoodOver
collected_good_over g t defs start form last c us s th on con =
    collected_good_from_start th t (definitions_grown _ th.declared on.grows t defs) start form last (collected_grown _ th.declared on.grows t c) us
    (terms_grown _ th.declared on.grows [] (terms_of us) (sorts (t.piece start).params) s)
