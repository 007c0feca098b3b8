-- Each first step of a linear process without sums is listed, where nothing is undecided.
use Rattle.std.proofs.Common.{◌≡◌, ℕ, suc, List, [], ◌∷◌, ◌++◌, map, refl, sym, ap, ◌∙◌, subst, Option, Some}
use Rattle.std.specs.Prelude.{Contains, slice_get}
use Rattle.std.specs.List.{AllZip}
use Rattle.std.proofs.lemmas.List.Elements.{All-contains}
use Rattle.data_theory.specs.declared.ids.TermId.{TermId}
use Rattle.data_theory.specs.declared.ids.VarId.{VarId}
use Rattle.data_theory.specs.Declarations.{HaveSorts}
use Rattle.data_theory.specs.Environments.{Environment, term_in, terms_of, Agree}
use Rattle.data_theory.specs.IdData.{data_meant}
use Rattle.data_theory.specs.IdTerms.{variable_sorts}
use Rattle.data_theory.specs.IdTrees.{Tree}
use Rattle.data_theory.specs.Provable.{Equation, symmetric, transitive}
use Rattle.data_theory.specs.Signature.{Sig}
use Rattle.data_theory.specs.Terms.{Term, put}
use Rattle.data_theory.proofs.IdDataLemmas.{meant_data_are_data}
use Rattle.process_terms.specs.Labels.{Label, put_label, AgreeInOrder}
use Rattle.process_terms.specs.Meanings.{bound_at}
use Rattle.process_terms.specs.Processes.{Bound}
use Rattle.process_terms.specs.SignatureEntries.{entries_of}
use Rattle.process_terms.specs.Steps.{Outcome, Step}
use Rattle.process_terms.specs.Theories.{Theory, IsFalse}
use Rattle.process_terms.proofs.AgreeingLabels.{agree_sym, agree_trans}
use Rattle.bisim_laws.specs.LinearProcesses.{Linear, Summand, variables, sorts, state_of, reading, IsSummand, Does}
use Rattle.bisim_laws.proofs.Firing.{fired, reading_agrees, does_along}
use Rattle.lps_core.specs.PlainLinears.{PlainSummand, PlainLinear, summand_of, linear_of}
use Rattle.lps_core.proofs.Members.{In, here, there, contains_in, in_contains, in_map}
use Rattle.lps_simulator.specs.declared.options.Open.{Open}
use Rattle.lps_simulator.specs.OptionLaws.{HasOptions, environment_for}
use Rattle.lps_simulator.specs.Options.{TermMove}
use Rattle.lps_simulator.specs.OptionsInCode.{PlainOptions, meant_move, terms_at}
use Rattle.lps_simulator.specs.SumValues.{AreListedFor}
use Rattle.lps_simulator.proofs.ClosedInstances.{IsInstance, is_instance}
use Rattle.lps_simulator.proofs.FittingSummands.{fitting_shape, fitting_sorted, fitting_declared}
use Rattle.lps_simulator.proofs.OptionLaws.{nothing_is_missed}
use Rattle.lps_simulator.proofs.RewrittenClosed.{label_agrees}
use Rattle.lin_tasks.specs.FirstSteps.{IsTheoryFor, IsListed, HasNoSums}
use Rattle.lin_tasks.proofs.Performing.{HasStep}

-- where an element stands
in_at : {A : Type 0} (xs : List A) {x : A} → In x xs → (i : ℕ) × (slice_get xs i ≡ Some x)
in_at [] i = elim i [ ]
in_at (y ∷ xs) here = (0, refl)
in_at (y ∷ xs) (there i) = let r = in_at xs i in (suc r.0, r.1)

module _ (g : Sig) (own : List Equation) (fuel bound : ℕ) (ts us : List Tree) (l : PlainLinear) (state : List TermId) (found : PlainOptions) (has : HasOptions g own fuel bound ts us l state found) (decided : found.undecided ≡ []) (th : Theory) (is : IsTheoryFor g own th) where
  abbrev lin : Linear
  lin = linear_of (entries_of g ts) l

  abbrev terms : List Term
  terms = terms_at g ts state

  abbrev moves : List TermMove
  moves = map (meant_move g us) found.moves

  -- the summand s at a place, which has no sum, does the label in some environment
  module _ (s : PlainSummand) (place : ℕ) (stands : slice_get l.summands place ≡ Some s) (among : Contains l.summands s) (no_sum : s.sums ≡ []) where
    abbrev S : Summand
    S = summand_of (entries_of g ts) s

    abbrev e : Environment
    e = environment_for g ts l state s []

    no_bound : S.sums ≡ []
    no_bound = ap (map (bound_at (entries_of g ts))) no_sum

    shape : IsSummand lin.params S
    shape = fitting_shape g has.signature ts l s has.fits among

    instance : IsInstance (data_meant g) lin S terms []
    instance =
        is_instance (data_meant g) (variable_sorts g) lin S terms [] shape (fitting_sorted g has.signature ts l s has.fits among) (fitting_declared g has.signature ts l has.fits) has.fits.linear.distinct has.stands.closed
        (subst (λ (xs : List Bound). HaveSorts (data_meant g) [] (terms_of []) (sorts xs)) (sym no_bound) tt)

    agree : (d : Environment) → reading d (variables lin.params) ≡ terms → Agree (variables S.sums ++ variables lin.params) (term_in d) (term_in e)
    agree d reads = subst (λ (xs : List Bound). Agree (variables xs ++ variables lin.params) (term_in d) (term_in e)) (sym no_bound) (reading_agrees (variables lin.params) d e (reads ∙ sym instance.reads))

    of_summand : (d : Environment) → reading d (variables lin.params) ≡ terms → (label : Label) (next : Option (List Term)) → Does th S d label next → IsListed th moves label
    of_summand d reads label next does =
        let here_too = does_along th lin.params S d e label next shape (agree d reads) does in
        let not_false : IsFalse th (put (term_in e) S.condition) → ⊥ = λ f. is.consistent (transitive (symmetric here_too.holds) f) in
        let none_open : (o : Open) → Contains found.undecided o → o.summand ≡ suc place → ⊥ = λ o i n. elim (contains_in [] (subst (λ (os : List Open). Contains os o) decided i)) [ ] in
        let m = nothing_is_missed g own fuel bound ts us l state found has place s stands none_open [] (subst (λ (xs : List VarId). AllZip (AreListedFor g bound) xs []) (sym no_sum) tt) [] (in_contains (here {xs = []})) th is.later not_false in
        let formed = meant_data_are_data g has.signature.table has.signature.roles in
        let agrees = label_agrees (data_meant g) own formed has.fine fuel th is.later.grows is.later.is_data is.later.among (put_label e S.label) m.0.label instance.label m.1.1.label in
        record { move = m.0; among = m.1.0; agrees = subst (λ (n : Label). AgreeInOrder th m.0.label n) (sym here_too.label) agrees }

  pub fired_is_listed : HasNoSums l → (label : Label) (r : Outcome) → Step th (state_of lin terms) label r → IsListed th moves label
  fired_is_listed no_sums label r step =
      let f = fired th lin terms label r has.fits.linear step in
      let fires = f.1.0 in
      let s = in_map (summand_of (entries_of g ts)) l.summands (contains_in lin.summands fires.among) in
      let at = in_at l.summands s.1 in
      let among = in_contains s.1 in
      of_summand s.0 at.0 at.1 among (All-contains (λ (z : PlainSummand). z.sums ≡ []) l.summands s.0 no_sums among) fires.environment fires.reads label f.0
      (subst (λ (z : Summand). Does th z fires.environment label f.0) s.2 fires.does)

  -- and so is what another process does that is paired with it
  pub step_is_listed : HasNoSums l → (label : Label) → HasStep th (state_of lin terms) label → IsListed th moves label
  step_is_listed no_sums label has_step =
      let found_there = fired_is_listed no_sums has_step.label has_step.outcome has_step.step in
      record { move = found_there.move; among = found_there.among; agrees = agree_trans found_there.agrees (agree_sym has_step.agrees) }
