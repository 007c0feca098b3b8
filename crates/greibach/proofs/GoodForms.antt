-- What the equations of a form stand for and its calls answer each other.
use Rattle.std.proofs.Common.{◌≡◌, ℕ, List, [], ◌∷◌, map, length, Some, refl, sym, ap, ◌∙◌, subst}
use Rattle.std.specs.Prelude.{Contains, slice_get, option_map}
use Rattle.std.proofs.lemmas.List.{length-map}
use Rattle.std.proofs.lemmas.Option.{slice_get-map}
use Rattle.data_theory.specs.Terms.{Term, variable}
use Rattle.data_theory.specs.Declarations.{Data}
use Rattle.data_theory.specs.Environments.{Environment, term_in, bound, bound_variables}
use Rattle.data_theory.proofs.EnvironmentLemmas.{bound_are_the_parameters}
use Rattle.data_theory.proofs.PlaceLemmas.{contains_read}
use Rattle.process_terms.specs.Theories.{Theory, AreOfSorts}
use Rattle.process_terms.specs.Labels.{Label, put_label, AgreeInOrder}
use Rattle.process_terms.proofs.AgreeingLabels.{agree_refl}
use Rattle.process_terms.specs.Processes.{Body, Table, Process, call, close, choice_of, seq_of, BodyOf, the_body, Definition}
use Rattle.process_terms.specs.Steps.{Outcome, Step, by_seq, by_call}
use Rattle.bisim_laws.specs.LinearProcesses.{variables, sorts, reading}
use Rattle.bisim_laws.specs.BaseStates.{IsCall, is_call, stands_for}
use Rattle.bisim_laws.specs.Compositions.{LeftOver, PieceAnswer, PiecesAnswer}
use Rattle.bisim_laws.proofs.Firing.{reading_put, reading_same, bound_reads}
use Rattle.bisim_laws.proofs.SortedFiring.{HaveTerms}
use Rattle.bisim_laws.proofs.PieceByPiece.{pieces_enough}
use Rattle.lps_core.proofs.Members.{In, here, there, in_contains, mapped_at}
use Rattle.lps_core.proofs.Chains.{joined_true}
use Rattle.greibach.specs.Places.{Place, Factor, bodies, Text, table_in, IsSortedBody}
use Rattle.greibach.specs.Forms.{form_summand_body, form_definition, form_table, after_calls}
use Rattle.greibach.specs.UnfoldedForms.{numbered_call, summand_with, UnfoldedEquation, equation_with, form_with, pieces_in, IsUnfolded, UnfoldedFormsAreGood}
use Rattle.greibach.proofs.FormFiring.{definition_at}
use Rattle.greibach.proofs.Under.{under, under_bound}
use Rattle.greibach.proofs.Flattening.{following}
use Rattle.greibach.proofs.Situations.{Situation, bound_has, sorts_long}
use Rattle.greibach.proofs.Continuations.{Stands, closed_calls}
use Rattle.greibach.proofs.Found.{Numbered, found}
use Rattle.greibach.proofs.Shown.{settled, shown}
use Rattle.greibach.proofs.FormSteps.{calls_left, heads_step, step_heads}

-- ---- a composition does what its first factor does
record RunStep (th : Theory) (d : Table) (e : Environment) (b : Body) (rest : List Factor) (m : Label) (r : Outcome) : Type 0 where
  outcome : Outcome
  step : Step th (close d e b) m outcome
  is : r ≡ following d e outcome rest

run_step : (th : Theory) (d : Table) (e : Environment) (b : Body) (rest : List Factor) {m : Label} {r : Outcome} → Step th (close d e (seq_of (b ∷ bodies rest))) m r → RunStep th d e b rest m r
run_step th d e b [] {r = r} s = record { outcome = r; step = s; is = refl }
run_step th d e b (f ∷ fs) (by_seq {r = r} s) = record { outcome = r; step = s; is = refl }

step_run : (th : Theory) (d : Table) (e : Environment) (b : Body) (rest : List Factor) {m : Label} {r : Outcome} → Step th (close d e b) m r → Step th (close d e (seq_of (b ∷ bodies rest))) m (following d e r rest)
step_run th d e b [] s = s
step_run th d e b (f ∷ fs) s = by_seq s

first_sorted : (g : Data) (t : Text) (xs : List ℕ) (b : Body) (fs : List Factor) → IsSortedBody g t xs (seq_of (b ∷ bodies fs)) → IsSortedBody g t xs b
first_sorted g t xs b [] h = h
first_sorted g t xs b (f ∷ fs) h = h.0

others_sorted : (g : Data) (t : Text) (xs : List ℕ) (b : Body) (fs : List Factor) → IsSortedBody g t xs (seq_of (b ∷ bodies fs)) → (r : Factor) → In r fs → IsSortedBody g t xs r.body
others_sorted g t xs b [] h r i = elim i [ ]
others_sorted g t xs b (f ∷ fs) h _ here = first_sorted g t xs f.body fs h.1
others_sorted g t xs b (f ∷ fs) h r (there i) = others_sorted g t xs f.body fs h.1 r i

-- ---- equations of the form
numbered_at : (number : Place → ℕ) (form : List UnfoldedEquation) (i : ℕ) (q : UnfoldedEquation) → slice_get form i ≡ Some q
    → slice_get (form_table (form_with number form)) i ≡ Some (form_definition (equation_with number q))
numbered_at number form i q at =
    definition_at (form_with number form) i (equation_with number q) (slice_get-map (equation_with number) form i ∙ ap (option_map (equation_with number)) at)

-- the body of an equation's call
form_body_is : (number : Place → ℕ) (form : List UnfoldedEquation) {us : List Term} {p : Process} (i : ℕ) (q : UnfoldedEquation) → slice_get form i ≡ Some q → BodyOf (form_table (form_with number form)) i us p
    → p ≡ close (form_table (form_with number form)) (bound (variables q.params) us) (choice_of (map form_summand_body (map (summand_with number) q.heads)))
form_body_is number form i q at (the_body {ts = us} f k l) =
    let there : slice_get (form_table (form_with number form)) i ≡ Some (form_definition (equation_with number q)) = numbered_at number form i q at in
    let same : f ≡ form_definition (equation_with number q) = cc in
    ap (λ (z : Definition). close (form_table (form_with number form)) (bound z.params us) z.body) same

module _ (th : Theory) (t : Text) (number : Place → ℕ) (form : List UnfoldedEquation) (is : IsUnfolded th.declared t number form) where
  -- ---- one equation, with arguments
  module _ (q : UnfoldedEquation) (among : Contains form q) (us : List Term) (sorted : AreOfSorts th (sorts (t.piece q.place).params) us) where
    abbrev params : List ℕ
    params = variables (t.piece q.place).params

    abbrev own : Environment
    own = bound (variables q.params) us

    abbrev renaming : Environment
    renaming = bound params (map variable (variables q.params))

    long : length us ≡ length params
    long = sorts_long th.declared [] us (t.piece q.place).params sorted

    as_long : length (variables q.params) ≡ length params
    as_long =
        length-map q.params (λ x. x.var) ∙ sym (length-map q.params (λ x. x.sort)) ∙ ap length (is.equations q among).same_sorts
        ∙ length-map (t.piece q.place).params (λ x. x.sort) ∙ sym (length-map (t.piece q.place).params (λ x. x.var))

    own_long : length us ≡ length (variables q.params)
    own_long = long ∙ sym as_long

    -- the parameters' own names are put in for the text's
    renamed : (f : Environment) → under f renaming ≡ bound params (reading f (variables q.params))
    renamed f = under_bound f params (map variable (variables q.params)) ∙ ap (bound params) (reading_put f (variables q.params))

    beginning : under own renaming ≡ bound params us
    beginning = renamed own ∙ ap (bound params) (bound_reads (variables q.params) us own_long (is.equations q among).renewed)

    vars : bound_variables renaming ≡ params
    vars = bound_are_the_parameters params (map variable (variables q.params)) (length-map (variables q.params) variable ∙ as_long)

    situation : Situation th.declared t (variables q.params) own renaming (is.equations q among).first.body (is.equations q among).others
    situation =
        let e = is.equations q among in
        let sorted_body : IsSortedBody th.declared t params (seq_of (e.first.body ∷ bodies e.others)) = subst (λ b. IsSortedBody th.declared t params b) e.body e.sorted_body in
        record {
          sorted_body = subst (λ xs. IsSortedBody th.declared t xs e.first.body) (sym vars) (first_sorted th.declared t params e.first.body e.others sorted_body);
          sorted_rest = λ r i. subst (λ xs. IsSortedBody th.declared t xs r.body) (sym vars) (others_sorted th.declared t params e.first.body e.others sorted_body r i);
          has = subst (λ xs. HaveTerms th.declared t.variables xs (term_in (under own renaming))) (sym vars)
              (subst (λ l. HaveTerms th.declared t.variables params (term_in l)) (sym beginning) (bound_has th t (t.piece q.place) us e.declared e.distinct sorted));
          stable = λ f k. renamed f ∙ ap (bound params) (sym (reading_same (variables q.params) own f k)) ∙ sym (renamed own);
        }

    numbered : Numbered number form q.heads
    numbered h i c j = is.numbered q h c among (in_contains i) (in_contains j)

    -- a step of what it stands for is one of its heads, and so one of its call
    text_answered : {m : Label} {r : Outcome} (i : ℕ) → slice_get form i ≡ Some q → Step th (close (table_in t) (bound params us) (t.piece q.place).body) m r
        → PieceAnswer th (Stands th t form) (IsCall (form_table (form_with number form))) (call (form_table (form_with number form)) i us) m r
    text_answered {m} {r} i at s =
        let e = is.equations q among in
        let s' : Step th (close (table_in t) (under own renaming) (seq_of (e.first.body ∷ bodies e.others))) m r =
        subst (λ l. Step th (close (table_in t) l (seq_of (e.first.body ∷ bodies e.others))) m r) (sym beginning) (subst (λ b. Step th (close (table_in t) (bound params us) b) m r) e.body s) in
        let k = run_step th (table_in t) (under own renaming) e.first.body e.others s' in
        let f = found th t number form is e.unfolds own situation numbered k.step in
        let h = f.happens in
        let c = (joined_true th (term_in h.environment) f.head.conditions h.sorted).0 h.holds in
        let b = step_heads th (form_table (form_with number form)) number own h.environment q.heads f.head f.among h.sums c in
        record {
          label = put_label h.environment f.head.label;
          outcome = after_calls (form_table (form_with number form)) h.environment (map (numbered_call number) f.head.next);
          left = closed_calls number h.environment f.head.next;
          step = by_call (the_body (form_definition (equation_with number q)) (numbered_at number form i q at) own_long) b;
          agree = subst (λ l. AgreeInOrder th m l) h.label (agree_refl th m);
          here = subst (λ o. LeftOver th (Stands th t form) o (closed_calls number h.environment f.head.next)) (sym k.is) h.left;
          there = calls_left th (form_table (form_with number form)) number h.environment f.head.next;
        }

    -- and the other way round
    form_answered : {m : Label} {r : Outcome} (i : ℕ) → Step th (close (form_table (form_with number form)) own (choice_of (map form_summand_body (map (summand_with number) q.heads)))) m r
        → PieceAnswer th (IsCall (form_table (form_with number form))) (Stands th t form) (close (table_in t) (bound params us) (t.piece q.place).body) m r
    form_answered {m} {r} i s =
        let e = is.equations q among in
        let k = heads_step th (form_table (form_with number form)) number own q.heads s in
        let a = settled th t number form is e.unfolds own situation k.head k.among k.environment k.sums in
        let c = (joined_true th (term_in k.environment) k.head.conditions a.sorted).1 k.holds in
        let b = shown th t number form is e.unfolds own situation numbered k.head k.among k.environment k.sums c in
        let step : Step th (close (table_in t) (under own renaming) (seq_of (e.first.body ∷ bodies e.others))) (put_label k.environment k.head.label) (following (table_in t) (under own renaming) b.outcome e.others) =
        step_run th (table_in t) (under own renaming) e.first.body e.others b.step in
        record {
          label = put_label k.environment k.head.label;
          outcome = following (table_in t) (under own renaming) b.outcome e.others;
          left = closed_calls number k.environment k.head.next;
          step = subst (λ b'. Step th (close (table_in t) (bound params us) b') (put_label k.environment k.head.label) (following (table_in t) (under own renaming) b.outcome e.others)) (sym e.body)
              (subst (λ l. Step th (close (table_in t) l (seq_of (e.first.body ∷ bodies e.others))) (put_label k.environment k.head.label) (following (table_in t) (under own renaming) b.outcome e.others)) beginning step);
          agree = subst (λ l. AgreeInOrder th m l) k.label (agree_refl th m);
          here = k.left;
          there = b.left;
        }

  -- ---- all of them
  text_answers : PiecesAnswer th (Stands th t form) (IsCall (form_table (form_with number form)))
  text_answers a p q m r (stands_for {i = i} {ts = ts} f at sorted) is_call s =
      let k = mapped_at (λ (q : UnfoldedEquation). t.piece q.place) form i f at in
      text_answered k.0 (contains_read form i k.0 k.1.0) ts (subst (λ z. AreOfSorts th (sorts z.params) ts) k.1.1 sorted) i k.1.0
      (subst (λ z. Step th (close (table_in t) (bound (variables z.params) ts) z.body) m r) k.1.1 s)

  form_answers : PiecesAnswer th (IsCall (form_table (form_with number form))) (Stands th t form)
  form_answers a p q m r is_call (stands_for {i = i} {ts = ts} f at sorted) (by_call b s) =
      let k = mapped_at (λ (q : UnfoldedEquation). t.piece q.place) form i f at in
      subst (λ z. PieceAnswer th (IsCall (form_table (form_with number form))) (Stands th t form) (close (table_in t) (bound (variables z.params) ts) z.body) m r) (sym k.1.1)
      (form_answered k.0 (contains_read form i k.0 k.1.0) ts (subst (λ z. AreOfSorts th (sorts z.params) ts) k.1.1 sorted) i
      (subst (λ z. Step th z m r) (form_body_is number form i k.0 k.1.0 b) s))

pub forms_good : UnfoldedFormsAreGood
forms_good th t number form is = pieces_enough th (table_in t) (pieces_in t form) (form_table (form_with number form)) (text_answers th t number form is) (form_answers th t number form is)
