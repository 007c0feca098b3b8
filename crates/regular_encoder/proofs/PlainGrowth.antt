-- What is plainly conditioned stays so as a signature and a pool grow.
use Rattle.std.proofs.Common.{ℕ, zero, suc, List, [], ◌∷◌, ◌++◌, map, refl, sym, ap, ◌∙◌, subst, arith}
use Rattle.std.specs.List.{AllByRecursion}
use Rattle.data_theory.specs.Terms.{Sort, Term, Terms, variable, numeral, unknown, application, none, more}
use Rattle.data_theory.specs.Declarations.{Data, Declares, HasSort, HaveSorts}
use Rattle.data_theory.specs.Environments.{terms_of}
use Rattle.data_theory.specs.EqualityLaws.{Grows}
use Rattle.data_theory.specs.Signature.{Sig}
use Rattle.data_theory.specs.WholeSignatures.{IsSignature}
use Rattle.data_theory.specs.IdData.{data_meant}
use Rattle.data_theory.specs.IdTerms.{term_under, variable_sorts}
use Rattle.data_theory.proofs.IdDataLemmas.{growth_keeps_meant_data}
use Rattle.data_theory.proofs.IdGrowthLemmas.{growth_after_growth_is_growth}
use Rattle.data_theory.proofs.IdTermLemmas.{growth_keeps_meant_terms, sorted_trees_are_within}
use Rattle.term_pool.specs.HeadTrees.{tree_at}
use Rattle.term_pool.specs.Pools.{PoolContents}
use Rattle.process_terms.specs.Meanings.{term_at}
use Rattle.process_terms.specs.Labels.{Label}
use Rattle.process_terms.specs.Processes.{Bound}
use Rattle.process_terms.specs.SignatureEntries.{entries_of, BothGrow}
use Rattle.process_terms.proofs.EntryLemmas.{signatures_add_entries}
use Rattle.bisim_laws.specs.LinearProcesses.{Linear, sorts}
use Rattle.lps_core.specs.MadeTerms.{Written, StackSort, WasAnswered, Origin, IsStack, IsMade, a_variable, the_true, the_false, a_number, a_closed_term, of_an_action, of_a_call, no_frame, a_frame, frames_below, a_column, AreMade, none_made, more_made, IsInstance, an_instance, IsActionArgument, action_argument, IsArgumentEquality, equal_arguments, IsPlainCondition, as_written, against_a_written_one, an_equality, against_equalities, a_flag, against_a_flag, a_control_number, a_frame_on_top, a_frame_below, no_frame_below, a_number_on_top, IsPlainPart, true_part, plain_part, HasActionArguments, IsPlainlyConditioned, origin_of}
use Rattle.lps_core.specs.PlainLinears.{linear_of, initial_of}
use Rattle.lps_core.proofs.GrowingData.{terms_grown}
use Rattle.lps_core.proofs.PoolTrees.{extends_on, tree_kept}
use Rattle.lps_core.proofs.Staying.{terms_stay, what_fits_stays}
use Rattle.lps_core.proofs.StayingFits.{term_fits}
use Rattle.greibach.specs.Forms.{Form}
use Rattle.greibach.specs.PlainForms.{form_of}
use Rattle.greibach.specs.PlainTerms.{FormIsPlainlyConditioned}
use Rattle.greibach.proofs.StayingForms.{forms_stay}
use Rattle.regular_encoder.specs.PlainGrowth.{PlainFormsStayPlain, PlainLinearsStayPlain}

-- ---- over more variables
module _ (d : Data) (vs ws : List Sort) (declares : (v : ℕ) (s : Sort) → Declares vs v s → Declares ws v s) where
  mutual
    sorted_still : (t : Term) (s : Sort) → HasSort d vs t s → HasSort d ws t s
    sorted_still (variable v) s h = declares v s h
    sorted_still (numeral a z) s h = h
    sorted_still (unknown n k) s h = h
    sorted_still (application f ts) s h = (h.0, all_sorted_still ts _ h.1, h.2, h.3)

    all_sorted_still : (ts : Terms) (ss : List Sort) → HaveSorts d vs ts ss → HaveSorts d ws ts ss
    all_sorted_still none [] h = tt
    all_sorted_still none (s ∷ ss) h = absurd h
    all_sorted_still (more t ts) [] h = absurd h
    all_sorted_still (more t ts) (s ∷ ss) h = (sorted_still t s h.0, all_sorted_still ts ss h.1)

-- ---- made terms
module _ (d e : Data) (vs ws : List Sort) (V W : Term → Type 0) (w : Written) (stacks : List StackSort) (grows : Grows d e) (declares : (v : ℕ) (s : Sort) → Declares vs v s → Declares ws v s) (answers : (t : Term) → V t → W t) where
  abbrev o : Origin
  o = record { declared = d; variable_sorts = vs; written = w; WasAnswered = V; stacks = stacks }

  abbrev u : Origin
  u = record { declared = e; variable_sorts = ws; written = w; WasAnswered = W; stacks = stacks }

  stack_stays : (ps : List Bound) (k : StackSort) (q : Bound) → IsStack o ps k q → IsStack u ps k q
  stack_stays ps k q s = record { sort = s.sort; parameter = s.parameter; is = s.is }

  mutual
    made_stays : (ps xs : List Bound) (t : Term) → IsMade o ps xs t → IsMade u ps xs t
    made_stays ps xs _ (a_variable i) = a_variable i
    made_stays ps xs _ the_true = the_true
    made_stays ps xs _ the_false = the_false
    made_stays ps xs _ a_number = a_number
    made_stays ps xs _ (a_closed_term {t = t} k) = a_closed_term (answers t k)
    made_stays ps xs _ (of_an_action {t = t} {u = r} c i) = of_an_action c (instance_stays ps xs t r i)
    made_stays ps xs _ (of_a_call {t = t} {u = r} c i) = of_a_call c (instance_stays ps xs t r i)
    made_stays ps xs _ (no_frame c) = no_frame c
    made_stays ps xs _ (a_frame {ts = ts} c m) = a_frame c (all_made_stay ps xs ts m)
    made_stays ps xs _ (frames_below {k = k} {q = q} s) = frames_below (stack_stays ps k q s)
    made_stays ps xs _ (a_column {k = k} {q = q} s i) = a_column (stack_stays ps k q s) i

    all_made_stay : (ps xs : List Bound) (ts : List Term) → AreMade o ps xs ts → AreMade u ps xs ts
    all_made_stay ps xs _ none_made = none_made
    all_made_stay ps xs _ (more_made {t = t} {ts = ts} m ms) = more_made (made_stays ps xs t m) (all_made_stay ps xs ts ms)

    instance_stays : (ps xs : List Bound) (t r : Term) → IsInstance o ps xs t r → IsInstance u ps xs t r
    instance_stays ps xs _ _ (an_instance zs us over declared fit m) =
        an_instance zs us over (λ x i. declares x.var x.sort (declared x i)) (all_sorted_still e vs ws declares (terms_of us) (sorts zs) (terms_grown d e grows vs (terms_of us) (sorts zs) fit)) (all_made_stay ps xs us m)

  argument_stays : (ps xs : List Bound) (t : Term) → IsActionArgument o ps xs t → IsActionArgument u ps xs t
  argument_stays ps xs _ (action_argument {t = t} {u = r} c i) = action_argument c (instance_stays ps xs t r i)

  arguments_stay : (ps xs : List Bound) (ts : List Term) → AllByRecursion (IsActionArgument o ps xs) ts → AllByRecursion (IsActionArgument u ps xs) ts
  arguments_stay ps xs [] h = tt
  arguments_stay ps xs (t ∷ ts) h = (argument_stays ps xs t h.0, arguments_stay ps xs ts h.1)

  label_stays : (ps xs : List Bound) (m : Label) → HasActionArguments o ps xs m → HasActionArguments u ps xs m
  label_stays ps xs [] h = tt
  label_stays ps xs (a ∷ m) h = (arguments_stay ps xs a.args h.0, label_stays ps xs m h.1)

  equality_stays : (ps xs : List Bound) (t : Term) → IsArgumentEquality o ps xs t → IsArgumentEquality u ps xs t
  equality_stays ps xs _ (equal_arguments {t = t} {u = r} a b) = equal_arguments (argument_stays ps xs t a) (argument_stays ps xs r b)

  equalities_stay : (ps xs : List Bound) (ts : List Term) → AllByRecursion (IsArgumentEquality o ps xs) ts → AllByRecursion (IsArgumentEquality u ps xs) ts
  equalities_stay ps xs [] h = tt
  equalities_stay ps xs (t ∷ ts) h = (equality_stays ps xs t h.0, equalities_stay ps xs ts h.1)

  condition_stays : (added ps xs : List Bound) (c : Term) → IsPlainCondition o added ps xs c → IsPlainCondition u added ps xs c
  condition_stays added ps xs _ (as_written {c = c} {t = t} k i) = as_written k (instance_stays ps xs c t i)
  condition_stays added ps xs _ (against_a_written_one {c = c} {t = t} k i) = against_a_written_one k (instance_stays ps xs c t i)
  condition_stays added ps xs _ (an_equality {t = t} k i) = an_equality k (equality_stays ps xs t i)
  condition_stays added ps xs _ (against_equalities t ts k i) = against_equalities t ts k (equalities_stay ps xs (t ∷ ts) i)
  condition_stays added ps xs _ (a_flag a s) = a_flag a s
  condition_stays added ps xs _ (against_a_flag a s) = against_a_flag a s
  condition_stays added ps xs _ (a_control_number a s) = a_control_number a s
  condition_stays added ps xs _ (a_frame_on_top {k = k} {q = q} s) = a_frame_on_top (stack_stays ps k q s)
  condition_stays added ps xs _ (a_frame_below {k = k} {q = q} s) = a_frame_below (stack_stays ps k q s)
  condition_stays added ps xs _ (no_frame_below {k = k} {q = q} s) = no_frame_below (stack_stays ps k q s)
  condition_stays added ps xs _ (a_number_on_top {k = k} {q = q} s) = a_number_on_top (stack_stays ps k q s)

  part_stays : (added ps xs : List Bound) (t : Term) → IsPlainPart o added ps xs t → IsPlainPart u added ps xs t
  part_stays added ps xs _ true_part = true_part
  part_stays added ps xs _ (plain_part {c = c} k s) = plain_part (condition_stays added ps xs c k) s

  pub linear_stays_plain : (added : List Bound) (l : Linear) (init : List Term) → IsPlainlyConditioned o added l init → IsPlainlyConditioned u added l init
  linear_stays_plain added l init plain = record {
    starts = all_made_stay [] [] init plain.starts;
    summands = λ s i.
        let k = plain.summands s i in
        record {
          sums = k.sums;
          condition = λ t j. part_stays added l.params (s.sums ++ l.params) t (k.condition t j);
          label = label_stays l.params (s.sums ++ l.params) s.label k.label;
          next = λ ts e. all_made_stay l.params (s.sums ++ l.params) ts (k.next ts e);
        };
  }

  pub form_stays_plain : (form : Form) (init : List Term) → FormIsPlainlyConditioned o form init → FormIsPlainlyConditioned u form init
  form_stays_plain form init plain = record {
    starts = all_made_stay [] [] init plain.starts;
    summands = λ i q s at among.
        let k = plain.summands i q s at among in
        record {
          sums = k.sums;
          condition = λ t j. part_stays [] q.params (s.sums ++ q.params) t (k.condition t j);
          label = label_stays q.params (s.sums ++ q.params) s.label k.label;
          next = λ c j. all_made_stay q.params (s.sums ++ q.params) c.args (k.next c j);
        };
  }

-- ---- in code
declares_more : (vs ws : List Sort) (v : ℕ) (s : Sort) → Declares vs v s → Declares (vs ++ ws) v s
declares_more [] ws v s h = absurd h
declares_more (r ∷ vs) ws zero s h = h
declares_more (r ∷ vs) ws (suc v) s h = declares_more vs ws v s h

module _ (g h : Sig) (p q : PoolContents) (old : IsSignature g) (new : IsSignature h) (grow : BothGrow g h p.trees q.trees) where
  declared_still : (v : ℕ) (s : Sort) → Declares (variable_sorts g) v s → Declares (variable_sorts h) v s
  declared_still v s k =
      let more = (signatures_add_entries g h [] q.trees old.table old.complete (λ k d i. absurd (omega (arith, i))) (record { signature = grow.signature; pool = (q.trees, refl) })).variables in
      subst (λ vs. Declares vs v s) (sym more.1) (declares_more (variable_sorts g) more.0 v s k)

  answered_still : (t : Term) → WasAnswered g p t → WasAnswered h q t
  answered_still t k =
      let fits = term_fits k.after g k.pool_after.trees p.trees (record { signature = k.grown; pool = k.kept }) k.sort k.term k.answer.stands in
      let same = tree_kept p.trees q.trees k.term grow.pool fits.within in
      record {
        before = k.before;
        pool_before = k.pool_before;
        after = k.after;
        pool_after = k.pool_after;
        sort = k.sort;
        term = k.term;
        answer = k.answer;
        grown = growth_after_growth_is_growth k.after g h k.grown grow.signature;
        kept = extends_on k.pool_after.trees p.trees q.trees k.kept grow.pool;
        is = k.is ∙ sym (growth_keeps_meant_terms g h old.table grow.signature (tree_at p.trees k.term) (sorted_trees_are_within g old.table (tree_at p.trees k.term) k.sort fits.sorted)) ∙ ap (term_under h) (sym same.0);
      }

  data_grows : Grows (data_meant g) (data_meant h)
  data_grows = growth_keeps_meant_data g h old.table old.roles new.roles grow.signature

pub plain_forms_stay_plain : PlainFormsStayPlain
plain_forms_stay_plain g h p q w stacks f old new grow fits plain =
    let form = forms_stay g h p.trees q.trees f old.table old.complete grow fits in
    let init = terms_stay g h p.trees q.trees old.table old.complete grow _ f.init fits.init in
    subst (λ ts. FormIsPlainlyConditioned (origin_of h q w stacks) (form_of (entries_of h q.trees) f) ts) (sym init)
    (subst (λ F. FormIsPlainlyConditioned (origin_of h q w stacks) F (map (term_at (entries_of g p.trees)) f.init)) (sym form)
    (form_stays_plain (data_meant g) (data_meant h) (variable_sorts g) (variable_sorts h) (WasAnswered g p) (WasAnswered h q) w stacks (data_grows g h p q old new grow) (declared_still g h p q old new grow) (answered_still g h p q old new grow)
    (form_of (entries_of g p.trees) f) (map (term_at (entries_of g p.trees)) f.init) plain))

pub plain_linears_stay_plain : PlainLinearsStayPlain
plain_linears_stay_plain g h p q w stacks added l old new grow fits plain =
    let stays = what_fits_stays g h p.trees q.trees l old.table old.complete grow fits in
    subst (λ ts. IsPlainlyConditioned (origin_of h q w stacks) added (linear_of (entries_of h q.trees) l) ts) (sym stays.1)
    (subst (λ L. IsPlainlyConditioned (origin_of h q w stacks) added L (initial_of (entries_of g p.trees) l)) (sym stays.0)
    (linear_stays_plain (data_meant g) (data_meant h) (variable_sorts g) (variable_sorts h) (WasAnswered g p) (WasAnswered h q) w stacks (data_grows g h p q old new grow) (declared_still g h p q old new grow) (answered_still g h p q old new grow)
    added (linear_of (entries_of g p.trees) l) (initial_of (entries_of g p.trees) l) plain))
