-- As it is sealed, a linear process stays plainly conditioned: the phase is a parameter that was added.
use Rattle.std.proofs.Common.{◌≡◌, ℕ, List, [], ◌∷◌, ◌++◌, map, refl, sym, ap, ◌∙◌, subst, ⊎_elim, Option, Some, None}
use Rattle.std.specs.Prelude.{Contains}
use Rattle.std.proofs.lemmas.List.{map-append}
use Rattle.std.proofs.lemmas.List.Elements.{All-push, Contains-append_cases, Contains-append_left, Contains-append_right}
use Rattle.data_theory.specs.declared.ids.ActId.{ActId}
use Rattle.data_theory.specs.declared.ids.VarId.{VarId}
use Rattle.data_theory.specs.Terms.{Term, variable}
use Rattle.data_theory.specs.Signature.{Sig}
use Rattle.data_theory.specs.IdTerms.{IsGrown}
use Rattle.data_theory.specs.WholeSignatures.{IsSignature}
use Rattle.term_pool.specs.Pools.{PoolContents, Extends}
use Rattle.term_pool.proofs.DeclaredConstants.{grown_itself}
use Rattle.process_terms.specs.Meanings.{Entries, bound_at}
use Rattle.process_terms.specs.Processes.{Bound}
use Rattle.process_terms.specs.SignatureEntries.{entries_of, BothGrow}
use Rattle.bisim_laws.specs.BaseStates.{phase_running, phase_ended, phase_done}
use Rattle.bisim_laws.specs.LinearProcesses.{Summand, Linear}
use Rattle.bisim_laws.proofs.Firing.{contains_first, contains_later, contains_cases, contains_none}
use Rattle.lps_core.specs.Columns.{as_terms}
use Rattle.lps_core.specs.Conditions.{parts}
use Rattle.lps_core.specs.Fitting.{Fits}
use Rattle.lps_core.specs.MadeTerms.{Written, Origin, origin_of, a_variable, a_number, AreMade, none_made, more_made, IsAdded, a_control_number, the_whole, IsPlainPart, plain_part, HasPlainParts, SummandIsPlain, IsPlainlyConditioned}
use Rattle.lps_core.specs.PlainLinears.{PlainLinear, linear_of, initial_of}
use Rattle.lps_core.specs.Sealing.{phase, phase_is, sealed_next, sealed_summand, last_summand, sealed}
use Rattle.lps_core.specs.SealedTrees.{HasPhase, IsSealed, it_never_ends, it_is_sealed}
use Rattle.lps_core.proofs.Members.{contains_map}
use Rattle.lps_core.proofs.SealedInCode.{phase_stands}
use Rattle.lps_core.proofs.Staying.{what_fits_stays}
use Rattle.regular_encoder.proofs.FirstTerms.{some_is}
use Rattle.stack_encoder.proofs.WiderOrigins.{IsWider, all_made_in_more, label_in_more, parts_in_more, only_stacks}
use Rattle.lin_driver.specs.PlainlyMade.{IsAddedParameter, a_phase, IsPlainFor}
use Rattle.lin_driver.specs.SealedLinears.{SealedLinearsArePlain}
use Rattle.lin_driver.proofs.PlainGrowing.{plain_on}
use Rattle.lin_driver.proofs.PlainlyConjoined.{each_of, both_of, both_made, conjoined_plain}

module _ (o : Origin) (added all : List Bound) (v : ℕ) where
  abbrev added_now : List Bound
  added_now = added ++ phase v ∷ []

  abbrev all_now : List Bound
  all_now = all ++ phase v ∷ []

  phase_is_added : IsAdded added_now all_now (phase v)
  phase_is_added = record { by_a_pass = Contains-append_right added (phase v ∷ []) (phase v) (contains_first (phase v) []); parameter = Contains-append_right all (phase v ∷ []) (phase v) (contains_first (phase v) []) }

  wider : IsWider o.declared o.variable_sorts o.WasAnswered o.written o.written o.stacks o.stacks
  wider = only_stacks o.declared o.variable_sorts o.WasAnswered o.written o.stacks o.stacks (λ k i. i)

  -- the parameters, each for itself
  params_made : (ys ps : List Bound) → ((x : Bound) → Contains ps x → Contains ys x) → AreMade o all_now ys (as_terms ps)
  params_made ys [] among = none_made
  params_made ys (p ∷ ps) among = more_made (a_variable {x = p} (among p (contains_first p ps))) (params_made ys ps (λ x i. among x (contains_later p x ps i)))

  -- ---- a summand that was there
  module _ (s : Summand) (plain : SummandIsPlain o added all s) where
    abbrev xs : List Bound
    xs = s.sums ++ all

    abbrev ys : List Bound
    ys = s.sums ++ all_now

    params_in : (x : Bound) → Contains all x → Contains all_now x
    params_in x i = Contains-append_left all (phase v ∷ []) x i

    variables_in : (x : Bound) → Contains xs x → Contains ys x
    variables_in x i = ⊎_elim (λ j. Contains-append_left s.sums all_now x j) (λ j. Contains-append_right s.sums all_now x (params_in x j)) (Contains-append_cases s.sums all x i)

    condition_now : HasPlainParts o added_now all_now ys s.condition
    condition_now =
        parts_in_more o.declared o.variable_sorts o.WasAnswered o.written o.written o.stacks o.stacks wider all all_now xs ys params_in variables_in added added_now (λ x i. Contains-append_left added (phase v ∷ []) x i) s.condition plain.condition

    condition : HasPlainParts o added_now all_now ys (sealed_summand all v s).condition
    condition =
        conjoined_plain o added_now all_now ys (phase_is v phase_running ∷ (parts s.condition ++ []))
        (plain_part (a_control_number phase_is_added refl) the_whole, both_of (IsPlainPart o added_now all_now ys) (parts s.condition) [] (each_of (IsPlainPart o added_now all_now ys) (parts s.condition) condition_now) tt)

    next : (n : Option (List Term)) → ((ts : List Term) → n ≡ Some ts → AreMade o all xs ts) → AreMade o all_now ys (sealed_next all v n)
    next None h = both_made o all_now ys (as_terms all) (phase_ended ∷ []) (params_made ys all (λ x i. Contains-append_right s.sums all_now x (params_in x i))) (more_made a_number none_made)
    next (Some ts) h =
        both_made o all_now ys ts (variable v ∷ []) (all_made_in_more o.declared o.variable_sorts o.WasAnswered o.written o.written o.stacks o.stacks wider all all_now xs ys params_in variables_in ts (h ts refl))
        (more_made (a_variable {x = phase v} (Contains-append_right s.sums all_now (phase v) phase_is_added.parameter)) none_made)

    summand_is_plain : SummandIsPlain o added_now all_now (sealed_summand all v s)
    summand_is_plain = record {
      sums = plain.sums;
      condition = condition;
      label = label_in_more o.declared o.variable_sorts o.WasAnswered o.written o.written o.stacks o.stacks wider all all_now xs ys params_in variables_in s.label plain.label;
      next = λ us e. subst (λ z. AreMade o all_now ys z) (some_is e) (next s.next plain.next);
    }

  -- ---- the last one
  last_is_plain : SummandIsPlain o added_now all_now (last_summand all v)
  last_is_plain = record {
    sums = λ x i. absurd (contains_none x i);
    condition = λ p i. ⊎_elim (λ e. subst (λ z. IsPlainPart o added_now all_now all_now z) e (plain_part (a_control_number phase_is_added refl) the_whole)) (λ j. absurd (contains_none p j)) (contains_cases (phase_is v phase_ended) p [] i);
    label = (tt, tt);
    next = λ us e. subst (λ z. AreMade o all_now all_now z) (some_is e)
        (both_made o all_now all_now (as_terms all) (phase_done ∷ []) (params_made all_now all (λ x i. Contains-append_left all (phase v ∷ []) x i)) (more_made a_number none_made));
  }

pub sealed_is_plain : (o : Origin) (added : List Bound) (v : ℕ) (l : Linear) (init : List Term) → IsPlainlyConditioned o added l init → IsPlainlyConditioned o (added ++ phase v ∷ []) (sealed v l) (init ++ phase_running ∷ [])
sealed_is_plain o added v l init plain = record {
  starts = both_made o [] [] init (phase_running ∷ []) plain.starts (more_made a_number none_made);
  summands = λ y i.
      let olds = map (sealed_summand l.params v) l.summands in
      ⊎_elim
      (λ j. let r = contains_map (sealed_summand l.params v) l.summands y j in subst (SummandIsPlain o (added ++ phase v ∷ []) (l.params ++ phase v ∷ [])) (sym r.1.1) (summand_is_plain o added l.params v r.0 (plain.summands r.0 r.1.0)))
      (λ j. ⊎_elim (λ e. subst (SummandIsPlain o (added ++ phase v ∷ []) (l.params ++ phase v ∷ [])) e (last_is_plain o added l.params v)) (λ n. absurd (contains_none y n)) (contains_cases (last_summand l.params v) y [] j))
      (Contains-append_cases olds (last_summand l.params v ∷ []) y i);
}

-- ---- in code
module _ (s g h : Sig) (p q : PoolContents) (w : Written) (l k : PlainLinear) (act : ActId) (v : VarId) (old : IsSignature g) (new : IsSignature h) (since : IsGrown s g) (grown : IsGrown g h) (kept : Extends p.trees q.trees) (made_fits : Fits h q.trees k) (phase_added : HasPhase g h act v) (params : k.params ≡ l.params ++ v ∷ []) (linear : linear_of (entries_of h q.trees) k ≡ sealed v.0 (linear_of (entries_of g p.trees) l)) (initial : initial_of (entries_of h q.trees) k ≡ initial_of (entries_of g p.trees) l ++ phase_running ∷ []) (before : IsPlainFor s g p w l) where
  abbrev e : Entries
  e = entries_of h q.trees

  grow : BothGrow g h p.trees q.trees
  grow = record { signature = grown; pool = kept }

  own : IsPlainFor s h q w l
  own = plain_on s g h p q w l old new grow before

  stays : (linear_of e l ≡ linear_of (entries_of g p.trees) l) × (initial_of e l ≡ initial_of (entries_of g p.trees) l)
  stays = what_fits_stays g h p.trees q.trees l old.table old.complete grow before.fits

  abbrev o : Origin
  o = origin_of h q w own.stacks

  abbrev bounds : List Bound
  bounds = map (bound_at e) own.added

  bounds_now : map (bound_at e) (own.added ++ v ∷ []) ≡ bounds ++ phase v.0 ∷ []
  bounds_now = map-append (bound_at e) own.added (v ∷ []) ∙ ap (λ b. bounds ++ b ∷ []) (phase_stands g h act v new phase_added).bound

  conditioned : IsPlainlyConditioned o bounds (linear_of (entries_of g p.trees) l) (initial_of (entries_of g p.trees) l)
  conditioned = subst (λ ts. IsPlainlyConditioned o bounds (linear_of (entries_of g p.trees) l) ts) stays.1 (subst (λ z. IsPlainlyConditioned o bounds z (initial_of e l)) stays.0 own.plain)

  pub ending_is_plain : IsPlainFor s h q w k
  ending_is_plain = record {
    fits = made_fits;
    stacks = own.stacks;
    stacks_added = own.stacks_added;
    added = own.added ++ v ∷ [];
    are_added = All-push (IsAddedParameter s h) own.added v own.are_added (a_phase since phase_added (grown_itself h));
    are_parameters = λ x i. subst (λ xs. Contains xs x) (sym params)
        (⊎_elim (λ j. Contains-append_left l.params (v ∷ []) x (own.are_parameters x j)) (λ j. Contains-append_right l.params (v ∷ []) x j) (Contains-append_cases own.added (v ∷ []) x i));
    plain = subst (λ xs. IsPlainlyConditioned o xs (linear_of e k) (initial_of e k)) (sym bounds_now)
        (subst (λ z. IsPlainlyConditioned o (bounds ++ phase v.0 ∷ []) z (initial_of e k)) (sym linear)
        (subst (λ ts. IsPlainlyConditioned o (bounds ++ phase v.0 ∷ []) (sealed v.0 (linear_of (entries_of g p.trees) l)) ts) (sym initial)
        (sealed_is_plain o bounds v.0 (linear_of (entries_of g p.trees) l) (initial_of (entries_of g p.trees) l) conditioned)));
  }

still_plain : (s : Sig) (p q : PoolContents) (w : Written) {g : Sig} {l : PlainLinear} {h : Sig} {k : PlainLinear} → IsSealed g p.trees l h q.trees k → IsSignature g → IsSignature h → IsGrown s g → IsGrown g h → Extends p.trees q.trees → Fits h q.trees k → IsPlainFor s g p w l
    → IsPlainFor s h q w k
still_plain s p q w {g = g} {l = l} (it_never_ends _ same) old new since grown kept fits before =
    subst (λ (z : PlainLinear). IsPlainFor s g q w z) (sym same) (plain_on s g g p q w l old new (record { signature = grown_itself g; pool = kept }) before)
still_plain s p q w {g = g} {l = l} {h = h} {k = k} (it_is_sealed act v ends added params linear initial) old new since grown kept fits before =
    ending_is_plain s g h p q w l k act v old new since grown kept fits added params linear initial before

pub sealed_linears_are_plain : SealedLinearsArePlain
sealed_linears_are_plain s g h p q w l k seals since before = still_plain s p q w seals.sealed seals.old seals.new since seals.grown seals.kept seals.made_fits before
