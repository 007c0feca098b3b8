-- The steps of an equation of a form that unfolds are its heads.
use Rattle.std.proofs.Common.{◌≡◌, ℕ, List, [], ◌∷◌, map, sym, ap, ◌∙◌, subst}
use Rattle.data_theory.specs.Terms.{put}
use Rattle.data_theory.specs.Environments.{Environment, term_in}
use Rattle.process_terms.specs.Theories.{Theory, IsTrue}
use Rattle.process_terms.specs.Labels.{Label, put_label}
use Rattle.process_terms.specs.Processes.{choice_of, seq_of, Table, close}
use Rattle.process_terms.specs.Steps.{Outcome, Step}
use Rattle.bisim_laws.specs.BaseStates.{Chain, one_piece, more_pieces, IsCall, is_call}
use Rattle.bisim_laws.specs.Compositions.{LeftOver, nothing_left_over, pieces_left_over}
use Rattle.bisim_laws.proofs.AlikeProcesses.{alike_refl}
use Rattle.bisim_laws.proofs.Firing.{SumsBound}
use Rattle.lps_core.specs.Conditions.{joined}
use Rattle.lps_core.proofs.Members.{In, in_contains, contains_in, map_contains, contains_map}
use Rattle.greibach.specs.Forms.{FormSummand, call_body, form_summand_body, after_calls}
use Rattle.greibach.specs.Places.{Place}
use Rattle.greibach.specs.Unfolding.{PlaceCall, Head}
use Rattle.greibach.specs.UnfoldedForms.{numbered_call, summand_with}
use Rattle.greibach.proofs.FormFiring.{body_step, step_body, step_summand}
use Rattle.greibach.proofs.Continuations.{closed_call, closed_calls}

-- the calls of a summand, closed
calls_chain : (d : Table) (number : Place → ℕ) (e : Environment) (c : PlaceCall) (cs : List PlaceCall)
    → Chain (IsCall d) (close d e (seq_of (map call_body (map (numbered_call number) (c ∷ cs))))) (closed_calls number e (c ∷ cs))
calls_chain d number e c [] = one_piece is_call
calls_chain d number e c (k ∷ cs) = more_pieces (closed_call number e c ∷ []) (closed_calls number e (k ∷ cs)) (one_piece is_call) (calls_chain d number e k cs)

pub calls_left : (th : Theory) (d : Table) (number : Place → ℕ) (e : Environment) (cs : List PlaceCall) → LeftOver th (IsCall d) (after_calls d e (map (numbered_call number) cs)) (closed_calls number e cs)
calls_left th d number e [] = nothing_left_over
calls_left th d number e (c ∷ cs) = pieces_left_over (alike_refl th _) (calls_chain d number e c cs)

pub record HeadStep (th : Theory) (d : Table) (number : Place → ℕ) (e : Environment) (hs : List Head) (m : Label) (r : Outcome) : Type 0 where
  pub head : Head
  pub among : In head hs
  pub environment : Environment
  pub sums : SumsBound th head.sums e environment
  pub holds : IsTrue th (put (term_in environment) (joined head.conditions))
  pub label : m ≡ put_label environment head.label
  pub left : LeftOver th (IsCall d) r (closed_calls number environment head.next)

pub heads_step : (th : Theory) (d : Table) (number : Place → ℕ) (e : Environment) (hs : List Head) {m : Label} {r : Outcome} → Step th (close d e (choice_of (map form_summand_body (map (summand_with number) hs)))) m r
    → HeadStep th d number e hs m r
heads_step th d number e hs {m} {r} s =
    let k = body_step th d (map (summand_with number) hs) e s in
    let h = contains_map (summand_with number) hs k.summand k.among in
    let same : k.summand ≡ summand_with number h.0 = h.1.1 in
    let next : r ≡ after_calls d k.environment (map (numbered_call number) h.0.next) = k.outcome ∙ ap (λ (z : FormSummand). after_calls d k.environment z.next) same in
    record {
      head = h.0;
      among = contains_in hs h.1.0;
      environment = k.environment;
      sums = subst (λ (z : FormSummand). SumsBound th z.sums e k.environment) same k.sums;
      holds = subst (λ (z : FormSummand). IsTrue th (put (term_in k.environment) z.condition)) same k.holds;
      label = k.label ∙ ap (λ (z : FormSummand). put_label k.environment z.label) same;
      left = subst (λ o. LeftOver th (IsCall d) o (closed_calls number k.environment h.0.next)) (sym next) (calls_left th d number k.environment h.0.next);
    }

pub step_heads : (th : Theory) (d : Table) (number : Place → ℕ) (e e' : Environment) (hs : List Head) (h : Head) → In h hs → SumsBound th h.sums e e' → IsTrue th (put (term_in e') (joined h.conditions))
    → Step th (close d e (choice_of (map form_summand_body (map (summand_with number) hs)))) (put_label e' h.label) (after_calls d e' (map (numbered_call number) h.next))
step_heads th d number e e' hs h i k c =
    step_body th d (map (summand_with number) hs) (summand_with number h) e (map_contains (summand_with number) hs h (in_contains i)) (step_summand th d (summand_with number h) e e' k c)
