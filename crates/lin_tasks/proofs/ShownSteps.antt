-- What is shown of a linear process that a link leads to, as runs and steps of the process that it leads from.
use Rattle.std.proofs.Common.{◌≡◌, ℕ, List, [], ◌∷◌, refl, sym, subst, Option, Some}
use Rattle.std.specs.Prelude.{Contains, option_map}
use Rattle.data_theory.specs.declared.ids.TermId.{TermId}
use Rattle.data_theory.specs.IdTrees.{Tree}
use Rattle.data_theory.specs.Provable.{Equation}
use Rattle.data_theory.specs.Signature.{Sig}
use Rattle.process_terms.specs.Labels.{Label}
use Rattle.process_terms.specs.Processes.{Process}
use Rattle.process_terms.specs.SignatureEntries.{entries_of}
use Rattle.process_terms.specs.Steps.{Outcome, Step}
use Rattle.process_terms.specs.Theories.{Theory}
use Rattle.process_terms.proofs.AgreeingLabels.{agree_trans}
use Rattle.bisim_laws.specs.LinearProcesses.{Linear, outcome_of}
use Rattle.bisim_laws.specs.Links.{Link, Pairs}
use Rattle.lps_core.specs.PlainLinears.{PlainLinear, linear_of, linear_state}
use Rattle.lps_core.proofs.Members.{contains_map}
use Rattle.lps_simulator.specs.declared.options.Open.{Open}
use Rattle.lps_simulator.specs.OptionLaws.{HasCause}
use Rattle.lps_simulator.specs.Options.{TermMove}
use Rattle.lps_simulator.specs.OptionsInCode.{meant_move, terms_at}
use Rattle.chosen_moves.specs.TakenMoves.{Pick, TakesMoves}
use Rattle.lps_simulator.proofs.OptionLaws.{moves_are_steps, undecided_summands_have_causes}
use Rattle.lin_driver.specs.Headline.{IsGoodBy}
use Rattle.lin_driver.specs.Linearised.{IsGoodOverBy}
use Rattle.lin_driver.specs.declared.ending.Ending.{Ending}
use Rattle.lin_driver.specs.declared.ending.Ending.TheVariants.{End, Terminate}
use Rattle.lin_tasks.specs.FirstSteps.{nothing_done, one_done, CanPerform, CanPerformBy, HasNoSums, IsListed, IsTheoryFor}
use Rattle.lin_tasks.specs.Shown.{shown_moves, ShowsOptions}
use Rattle.lin_tasks.specs.ShownAfter.{LeadsToPairedBy}
use Rattle.lin_tasks.specs.Walks.{ShowsWalk}
use Rattle.lin_answers.specs.declared.status.Status.{Status}
use Rattle.lin_answers.specs.declared.plan.Plan.{Plan}
use Rattle.lin_tasks.proofs.ListedSteps.{step_is_listed}
use Rattle.lin_tasks.proofs.Performing.{has_step_back, has_step_forth, leads_first, leads_further, led, performs_by, HasLed}

module _ (ending : Ending) (g : Sig) (own : List Equation) (ts : List Tree) (l : PlainLinear) (k : Link) (p : Process) (good : IsGoodOverBy ending g k p (linear_state (entries_of g ts) l)) where
  abbrev lin : Linear
  lin = linear_of (entries_of g ts) l

  pub good_in : (th : Theory) → IsTheoryFor g own th → IsGoodBy ending th k p (linear_state (entries_of g ts) l)
  good_in th is = good th is.goes_on is.consistent

  -- the link pairs both
  pub starts_in : (th : Theory) → IsTheoryFor g own th → Pairs th k p (linear_state (entries_of g ts) l)
  starts_in th is = starts_by ending (good_in th is)
    where
      starts_by : (e : Ending) → IsGoodBy e th k p (linear_state (entries_of g ts) l) → Pairs th k p (linear_state (entries_of g ts) l)
      starts_by End there = there.starts
      starts_by Terminate there = there.starts

  -- ---- options
  module _ (fuel bound : ℕ) (status : Status) (shown : List ℕ) (o : ShowsOptions g own fuel bound ts l status shown) where
    pub shown_causes : (u : Open) → Contains o.found.undecided u → HasCause g own fuel bound ts l l.init u
    shown_causes u among = undecided_summands_have_causes g own fuel bound ts o.later l l.init o.found o.options u among

    pub shown_steps : (th : Theory) → IsTheoryFor g own th → (m : TermMove) → Contains (shown_moves o) m → CanPerform th p (m.label ∷ [])
    shown_steps th is m among =
        let c = contains_map (meant_move g o.later) o.found.moves m among in
        let s = moves_are_steps g own fuel bound ts o.later l l.init o.found o.options c.0 c.1.0 th is.later in
        let a = has_step_back ending th k p (linear_state (entries_of g ts) l) (good_in th is) s.label (outcome_of lin s.next) s.step in
        subst (λ (n : TermMove). CanPerform th p (n.label ∷ [])) (sym c.1.1) (a.outcome, one_done (agree_trans s.agrees a.agrees) a.step nothing_done)

    pub shown_whole : o.found.undecided ≡ [] → HasNoSums l → (th : Theory) → IsTheoryFor g own th → (label : Label) (r : Outcome) → Step th p label r → IsListed th (shown_moves o) label
    shown_whole decided no_sums th is label r step =
        let q = linear_state (entries_of g ts) l in
        step_is_listed g own fuel bound ts o.later l l.init o.found o.options decided th is no_sums label (has_step_forth ending th k p q (good_in th is) p q (starts_in th is) label r step)

  -- ---- moves that are taken
  pub led_by : (th : Theory) (is : IsTheoryFor g own th) (fuel bound : ℕ) {picks : List Pick} {us : List Tree} {last : Option (List TermId)} {labels : List Label} → TakesMoves g own fuel bound l picks ts (Some l.init) us last labels
      → HasLed g own fuel bound l th is.later lin (LeadsToPairedBy ending th k lin p) (leads_further th k lin ending p (linear_state (entries_of g ts) l) (good_in th is) p) labels us last
  led_by th is fuel bound takes =
      led g own fuel bound l th is.later lin (LeadsToPairedBy ending th k lin p) (leads_further th k lin ending p (linear_state (entries_of g ts) l) (good_in th is) p) takes refl (leads_first th k lin ending p (terms_at g ts l.init) (good_in th is))

  pub shown_run : (plan : Plan) (status : Status) (shown : List ℕ) (w : ShowsWalk g own plan ts l status shown) → (th : Theory) → IsTheoryFor g own th → CanPerformBy ending th p w.labels
  shown_run plan status shown w th is = performs_by th k lin ending p w.labels (option_map (terms_at g w.walks.trees) w.walks.last) (led_by th is plan.fuel plan.bound w.walks.takes).leads
