-- What is shown behind chosen moves of a linear process that a link leads to, as runs and steps of the process that it leads from.
use Rattle.std.proofs.Common.{◌≡◌, ◌≤◌, ◌++◌, ℕ, List, [], ◌∷◌, Option, Some, None, IfSome, length, refl, sym, ap, subst}
use Rattle.std.specs.Prelude.{Contains, option_map}
use Rattle.data_theory.specs.declared.ids.NameId.{NameId}
use Rattle.data_theory.specs.declared.ids.TermId.{TermId}
use Rattle.data_theory.specs.IdTrees.{Tree}
use Rattle.data_theory.specs.Provable.{Equation}
use Rattle.data_theory.specs.Signature.{Sig}
use Rattle.data_theory.specs.Terms.{Term}
use Rattle.mcrl2_syntax.specs.Declarations.{PlainSpec}
use Rattle.mcrl2_text.specs.declared.loading.TheConstants.{MAX_TEXT_LEN}
use Rattle.process_terms.specs.Labels.{Label, AgreeInOrder}
use Rattle.term_pool.specs.Pools.{PoolContents}
use Rattle.process_terms.specs.PlainProcesses.{PlainEquation}
use Rattle.process_terms.specs.Processes.{Process}
use Rattle.process_terms.specs.SignatureEntries.{entries_of}
use Rattle.process_terms.specs.Steps.{Outcome, Step}
use Rattle.process_terms.specs.Theories.{Theory}
use Rattle.process_terms.proofs.AgreeingLabels.{agree_refl}
use Rattle.bisim_laws.specs.LinearProcesses.{Linear, state_of}
use Rattle.bisim_laws.specs.Links.{Link, Same, Then}
use Rattle.bisim_laws.specs.Terminations.{terminate_label}
use Rattle.bisim_laws.proofs.Firing.{contains_none}
use Rattle.lps_core.specs.PlainLinears.{PlainLinear, linear_of, linear_state}
use Rattle.lps_core.proofs.Members.{contains_map}
use Rattle.lps_simulator.specs.declared.options.Open.{Open}
use Rattle.lps_simulator.specs.OptionLaws.{HasCause, HasOptions, IsStepOf}
use Rattle.lps_simulator.specs.Options.{TermMove}
use Rattle.lps_simulator.specs.OptionsInCode.{PlainOptions, meant_move, terms_at}
use Rattle.lps_simulator.proofs.OptionLaws.{moves_are_steps, undecided_summands_have_causes}
use Rattle.chosen_moves.specs.TakenMoves.{HasOptionsIn}
use Rattle.lin_driver.specs.Eliminations.{equations_at}
use Rattle.lin_driver.specs.Headline.{IsGoodBy}
use Rattle.lin_driver.specs.Linearised.{IsGoodOverBy, IsLinearised}
use Rattle.lin_driver.specs.LinearOfTexts.{IsLinearOf, is_made}
use Rattle.lin_driver.specs.declared.ending.Ending.{Ending}
use Rattle.lin_driver.specs.declared.ending.Ending.TheVariants.{End, Terminate}
use Rattle.lin_driver.specs.declared.methods.Method.{Method}
use Rattle.lin_driver.proofs.LinearisedTexts.{made_stands_for}
use Rattle.lin_tasks.specs.FirstSteps.{CanPerformBy, HasNoSums, IsListed, IsTheoryFor}
use Rattle.lin_tasks.specs.Shown.{shown_moves, ShowsOptionsIn}
use Rattle.lin_tasks.specs.ShownAfter.{AreShownStepsAfter, IsPairedWith, IsPairedWithEnd, LeadsToPairedBy, ShowsStepsAfter}
use Rattle.lin_answers.specs.declared.status.Status.{Status}
use Rattle.lin_tasks.proofs.ListedSteps.{step_is_listed}
use Rattle.lin_tasks.proofs.Performing.{has_step_forth, leads_further, performs_by, same_behind, HasLed, HasStep}
use Rattle.lin_tasks.proofs.ShownSteps.{good_in, led_by}
use Rattle.lin_tasks.proofs.ShownTexts.{own_are}

-- a state that is paired with the end has a step by `Terminate`
end_has_step : (ending : Ending) (th : Theory) (k : Link) (l : Linear) (x y : Process) → IsGoodBy ending th k x y → (ts : List Term) → IsPairedWithEnd ending th k l ts → HasStep th (state_of l ts) terminate_label
end_has_step End th k l x y good ts paired = absurd paired
end_has_step Terminate th k l x y good ts paired =
    let t = (same_behind th k l Terminate x y good).follows.terminates (state_of l ts) paired in
    record { label = t.label; outcome = t.outcome; step = t.step; agrees = subst (λ (m : Label). AgreeInOrder th m t.label) (t.each t.label t.outcome t.step).label (agree_refl th t.label) }

module _ (ending : Ending) (g : Sig) (own : List Equation) (ts : List Tree) (x : NameId) (l : PlainLinear) (k : Link) (p : Process) (good : IsGoodOverBy ending g k p (linear_state (entries_of g ts) l)) (fuel bound : ℕ) (choices : List ℕ) (status : Status) (shown : List ℕ)
    (s : ShowsStepsAfter g own fuel bound ts x l choices status shown) where
  -- the options in a state
  has_options : (state : List TermId) → s.last ≡ Some state → HasOptions g own fuel bound s.trees s.options.later l state s.options.found
  has_options state is = subst (λ (o : Option (List TermId)). HasOptionsIn g own fuel bound s.trees s.options.later l o s.options.found) is s.options.options

  pub causes_after : (state : List TermId) → s.last ≡ Some state → (o : Open) → Contains s.options.found.undecided o → HasCause g own fuel bound s.trees l state o
  causes_after state is o among = undecided_summands_have_causes g own fuel bound s.trees s.options.later l state s.options.found (has_options state is) o among

  module _ (th : Theory) (is : IsTheoryFor g own th) where
    abbrev lin : Linear
    lin = linear_of (entries_of g ts) l

    abbrev q : Process
    q = linear_state (entries_of g ts) l

    abbrev good_there : IsGoodBy ending th k p q
    good_there = good_in ending g own ts l k p good th is

    abbrev Leads : List Label → Option (List Term) → Type 0
    Leads = LeadsToPairedBy ending th k lin p

    done : HasLed g own fuel bound l th is.later lin Leads (leads_further th k lin ending p q good_there p) s.follows.labels s.trees s.last
    done = led_by ending g own ts l k p good th is fuel bound s.follows.takes

    pub run_after : LeadsToPairedBy ending th k (linear_of (entries_of g s.trees) l) p s.follows.labels (option_map (terms_at g s.trees) s.last)
    run_after = subst (λ (m : Linear). LeadsToPairedBy ending th k m p s.follows.labels (option_map (terms_at g s.trees) s.last)) (sym done.same) done.leads

    pub steps_after : (m : TermMove) → Contains (shown_moves s.options) m → CanPerformBy ending th p (s.follows.labels ++ m.label ∷ [])
    steps_after m among = by_state s.last s.options.options done.leads
      where
        by_state : (last : Option (List TermId)) → HasOptionsIn g own fuel bound s.trees s.options.later l last s.options.found → Leads s.follows.labels (option_map (terms_at g s.trees) last) → CanPerformBy ending th p (s.follows.labels ++ m.label ∷ [])
        by_state None none led =
            let c = contains_map (meant_move g s.options.later) s.options.found.moves m among in
            absurd (contains_none c.0 (subst (λ (f : PlainOptions). Contains f.moves c.0) none c.1.0))
        by_state (Some state) has led =
            let c = contains_map (meant_move g s.options.later) s.options.found.moves m among in
            let n = meant_move g s.options.later c.0 in
            let step = moves_are_steps g own fuel bound s.trees s.options.later l state s.options.found has c.0 c.1.0 th is.later in
            let there : IsStepOf th lin (terms_at g s.trees state) n = subst (λ (z : Linear). IsStepOf th z (terms_at g s.trees state) n) done.same step in
            subst (λ (z : TermMove). CanPerformBy ending th p (s.follows.labels ++ z.label ∷ [])) (sym c.1.1)
            (performs_by th k lin ending p (s.follows.labels ++ n.label ∷ []) n.next (leads_further th k lin ending p q good_there p s.follows.labels (terms_at g s.trees state) n led there))

    -- each step of the shown state is shown
    listed_after : (state : List TermId) → s.last ≡ Some state → s.options.found.undecided ≡ [] → HasNoSums l → (label : Label) → HasStep th (state_of (linear_of (entries_of g s.trees) l) (terms_at g s.trees state)) label
        → IsListed th (shown_moves s.options) label
    listed_after state there decided no_sums label has_step = step_is_listed g own fuel bound s.trees s.options.later l state s.options.found (has_options state there) decided th is no_sums label has_step

    pub whole_after : (state : List TermId) → s.last ≡ Some state → s.options.found.undecided ≡ [] → HasNoSums l → (y : Process) → IsPairedWith th k (linear_of (entries_of g s.trees) l) y (terms_at g s.trees state)
        → (label : Label) (r : Outcome) → Step th y label r → IsListed th (shown_moves s.options) label
    whole_after state there decided no_sums y paired label r step =
        listed_after state there decided no_sums label
        (has_step_forth ending th (Then k Same) p q (same_behind th k lin ending p q good_there) y (state_of (linear_of (entries_of g s.trees) l) (terms_at g s.trees state)) paired label r step)

    pub whole_at_the_end : (state : List TermId) → s.last ≡ Some state → s.options.found.undecided ≡ [] → HasNoSums l → IsPairedWithEnd ending th k (linear_of (entries_of g s.trees) l) (terms_at g s.trees state)
        → IsListed th (shown_moves s.options) terminate_label
    whole_at_the_end state there decided no_sums paired =
        listed_after state there decided no_sums terminate_label (end_has_step ending th k (linear_of (entries_of g s.trees) l) p q good_there (terms_at g s.trees state) paired)

-- ---- of the linear process of a text
module _ (ending : Ending) (method : Method) (text : List ℕ) (spec : PlainSpec) (g : Sig) (q : PoolContents) (equations : List PlainEquation) (x : NameId) (l : PlainLinear) (components : ℕ) (is_linear : IsLinearOf ending method text spec g q equations x l components) where
  abbrev from : IsLinearised ending text spec g q.trees l
  from = made_stands_for ending text spec g q.trees equations x l (is_made is_linear)

  pub made_after : (fuel bound : ℕ) (choices : List ℕ) (status : Status) (shown : List ℕ) → ShowsStepsAfter g (equations_at g q.trees equations) fuel bound q.trees x l choices status shown → AreShownStepsAfter ending method fuel bound text choices status shown
  made_after fuel bound choices status shown given =
      let own = from.theory.equations in
      let s : ShowsStepsAfter g own fuel bound q.trees x l choices status shown =
      subst (λ (qs : List Equation). ShowsStepsAfter g qs fuel bound q.trees x l choices status shown) (sym (own_are ending text spec g q.trees equations x l (is_made is_linear))) given in
      record {
        spec = spec;
        signature = g;
        pool = q;
        equations = equations;
        name = x;
        linear = l;
        components = components;
        is_linear = is_linear;
        linearised = from;
        shows = s;
        causes = causes_after ending g own q.trees x l from.link from.process from.bisimilar fuel bound choices status shown s;
        run = run_after ending g own q.trees x l from.link from.process from.bisimilar fuel bound choices status shown s;
        steps = steps_after ending g own q.trees x l from.link from.process from.bisimilar fuel bound choices status shown s;
        whole = λ state there decided no_sums th is. whole_after ending g own q.trees x l from.link from.process from.bisimilar fuel bound choices status shown s th is state there decided no_sums;
        whole_at_the_end = λ state there decided no_sums th is. whole_at_the_end ending g own q.trees x l from.link from.process from.bisimilar fuel bound choices status shown s th is state there decided no_sums;
      }
