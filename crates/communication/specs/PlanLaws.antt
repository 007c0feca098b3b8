-- What the plans of a label's ways mean, and that they fit.
use Rattle.std.specs.Prelude.{◌≡◌, Bool, List, [], ◌∷◌, map, flat_map, length, option_map, if◌then◌else◌}
use Rattle.std.specs.List.{All, list_any}
use Rattle.data_theory.specs.declared.ids.NameId.{NameId}
use Rattle.data_theory.specs.Signature.{Sig}
use Rattle.data_theory.specs.IdTrees.{Tree}
use Rattle.data_theory.specs.WholeSignatures.{IsSignature}
use Rattle.process_terms.specs.PlainProcesses.{PlainAction, PlainRule}
use Rattle.process_terms.specs.Meanings.{bound_at, term_at, label_of, rule_of}
use Rattle.process_terms.specs.SignatureEntries.{entries_of}
use Rattle.bisim_laws.specs.LinearProcesses.{Summand}
use Rattle.lps_core.specs.PlainLinears.{PlainSummand, summand_of}
use Rattle.lps_core.specs.Fitting.{IsActionOf}
use Rattle.action_filters.specs.NameTests.{is_nothing}
use Rattle.communication.specs.declared.places.Place.{Place}
use Rattle.communication.specs.Ways.{Item, ItemHas}
use Rattle.communication.specs.Communicated.{communicated}
use Rattle.communication.specs.Plans.{PlainPlan, planned}
use Rattle.communication.specs.PlaceConditions.{IsWithin, ItemHasResult, RuleNamesIn, HaveResults}
use Rattle.communication.specs.PlanMeanings.{planned_condition, PlanFits}
use Rattle.communication.specs.WayMeanings.{place_ways}

-- whether a plan has a further group without equalities
abbrev pub is_shut : PlainPlan → Bool
is_shut p = list_any is_nothing p.further

-- the summand that a plan makes of one; there is none where it has a further group without equalities
abbrev pub planned_summand : Sig → List Tree → PlainSummand → PlainPlan → List Summand
planned_summand g ts s p =
    if is_shut p then []
    else record {
      sums = map (bound_at (entries_of g ts)) s.sums;
      condition = planned_condition g ts (term_at (entries_of g ts) s.condition) p;
      label = label_of (entries_of g ts) p.label;
      next = option_map (map (term_at (entries_of g ts))) s.next;
    } ∷ []

-- a way of a label whose plan can be made and fits
pub record WayServes (g : Sig) (ts : List Tree) (rules : List PlainRule) (m : List PlainAction) (v : List (Item Place NameId)) : Type 0 where
  pub within : All (ItemHas (IsWithin (length m))) v
  pub results : All (ItemHasResult g m) v
  pub fits : PlanFits g ts (planned g rules m v)
  pub label : All (IsActionOf g ts) (planned g rules m v).label

-- ---- laws
abbrev pub WaysServe : Type 0
WaysServe =
    (g : Sig) (ts : List Tree) → IsSignature g → (rules : List PlainRule) → All (RuleNamesIn g) rules → HaveResults g rules → (m : List PlainAction) → All (IsActionOf g ts) m
    → All (WayServes g ts rules m) (place_ways g rules m)

-- the plans of the ways of a summand's label make the summands that it becomes
abbrev pub PlansMeanWays : Type 0
PlansMeanWays =
    (g : Sig) (ts : List Tree) → IsSignature g → (rules : List PlainRule) → All (RuleNamesIn g) rules → HaveResults g rules → (s : PlainSummand) → All (IsActionOf g ts) s.label
    → flat_map (λ v. planned_summand g ts s (planned g rules s.label v)) (place_ways g rules s.label) ≡ communicated (map (rule_of (entries_of g ts)) rules) (summand_of (entries_of g ts) s)
