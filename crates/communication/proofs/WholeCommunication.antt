-- What the process of the made summands is: it fits, and is good for `comm` in each later theory.
use Rattle.std.proofs.Common.{◌≡◌, List, map, ap, sym, refl, subst, ◌∙◌}
use Rattle.std.specs.Prelude.{flat_map}
use Rattle.data_theory.specs.Signature.{Sig}
use Rattle.data_theory.specs.IdData.{data_meant}
use Rattle.data_theory.specs.IdTrees.{Tree}
use Rattle.data_theory.specs.IdTerms.{variable_sorts}
use Rattle.data_theory.specs.WholeSignatures.{IsSignature}
use Rattle.data_theory.proofs.IdDataLemmas.{meant_data_are_data}
use Rattle.term_pool.specs.Pools.{Extends}
use Rattle.term_pool.proofs.DeclaredConstants.{grown_itself}
use Rattle.process_terms.specs.Communication.{Rule}
use Rattle.process_terms.specs.PlainProcesses.{PlainRule, comm}
use Rattle.process_terms.specs.Meanings.{bound_at, rule_of}
use Rattle.process_terms.specs.SignatureEntries.{entries_of, BothGrow}
use Rattle.bisim_laws.specs.LinearProcesses.{IsLinear}
use Rattle.lps_core.specs.PlainLinears.{PlainSummand, PlainLinear, linear_of, summand_of}
use Rattle.lps_core.specs.Fitting.{Fits}
use Rattle.lps_core.proofs.GrowingData.{linear_grown}
use Rattle.lps_core.proofs.Staying.{what_fits_is_sorted, what_fits_stays}
use Rattle.lps_core.proofs.StayingFits.{what_fits_fits_still}
use Rattle.action_filters.specs.Filters.{IsGoodAround}
use Rattle.action_filters.proofs.Around.{good_around}
use Rattle.communication.specs.Communicated.{communicated, communicating}
use Rattle.communication.specs.GrownSummands.{AreSummands}
use Rattle.communication.proofs.Communicating.{communication}
use Rattle.communication.proofs.CommunicationWhole.{communicating_is_linear}

module _ (g : Sig) (stands : IsSignature g) (ts us : List Tree) (e : Extends ts us) (rules : List PlainRule) (l : PlainLinear) (fits : Fits g ts l) (ss : List PlainSummand)
    (are : AreSummands g us l.params ss (flat_map (communicated (map (rule_of (entries_of g ts)) rules)) (map (summand_of (entries_of g ts)) l.summands))) where
  abbrev meant_rules : List Rule
  meant_rules = map (rule_of (entries_of g ts)) rules

  abbrev pub made : PlainLinear
  made = record { params = l.params; init = l.init; summands = ss }

  grow : BothGrow g g ts us
  grow = record { signature = grown_itself g; pool = e }

  pub made_means : linear_of (entries_of g us) made ≡ communicating meant_rules (linear_of (entries_of g ts) l)
  made_means = ap (λ xs. record { params = map (bound_at (entries_of g ts)) l.params; summands = xs }) are.mean

  stays : linear_of (entries_of g us) l ≡ linear_of (entries_of g ts) l
  stays = (what_fits_stays g g ts us l stands.table stands.complete grow fits).0

  still : Fits g us l
  still = what_fits_fits_still g g ts us l stands.table stands.complete stands.table grow fits

  pub made_fits : Fits g us made
  made_fits = record {
    params = still.params;
    init = still.init;
    closed = still.closed;
    summands = are.fit;
    linear = subst (λ z. IsLinear z) (sym made_means)
        (communicating_is_linear (data_meant g) (meant_data_are_data g stands.table stands.roles) (variable_sorts g) meant_rules (linear_of (entries_of g ts) l) fits.linear
        (what_fits_is_sorted g ts l stands.table stands.complete fits)).0;
    taken = still.taken;
    sums_taken = are.taken;
  }

  pub made_good : IsGoodAround g us (comm rules) l made
  made_good =
      good_around g us l made (comm rules) (communicated meant_rules) stands still
      (λ th on sane.
      let sorted = linear_grown (data_meant g) th.declared on.grows (variable_sorts g) (linear_of (entries_of g us) l) (what_fits_is_sorted g us l stands.table stands.complete still) in
      communication th sane on.is_data (variable_sorts g) meant_rules (linear_of (entries_of g us) l).params sorted.params sorted.param_sorts)
      (made_means ∙ ap (λ z. communicating meant_rules z) (sym stays)) refl
