-- What is shown of a trace and of what was made of a text.
use Rattle.std.proofs.Common.{◌≡◌, ℕ, List, [], ◌∷◌, map, refl, sym, ap, subst, ◌∙◌, append-nil, Some, false}
use Rattle.std.specs.Prelude.{Contains}
use Rattle.std.specs.List.{AllByRecursion}
use Rattle.std.proofs.lemmas.List.Elements.{All-contains}
use Rattle.data_theory.specs.declared.ids.NameId.{NameId}
use Rattle.data_theory.specs.Declarations.{NoSortIsEmpty}
use Rattle.data_theory.specs.IdData.{data_meant}
use Rattle.data_theory.specs.IdTrees.{Tree}
use Rattle.data_theory.specs.Provable.{Equation}
use Rattle.data_theory.specs.Signature.{Sig}
use Rattle.data_theory.specs.WholeSignatures.{IsSignature}
use Rattle.data_theory.proofs.IdDataLemmas.{meant_data_are_data}
use Rattle.data_rewriter.specs.Simplifying.{AreWellFormed}
use Rattle.mcrl2_syntax.specs.Declarations.{PlainSpec}
use Rattle.process_terms.specs.Meanings.{bound_at}
use Rattle.process_terms.specs.PlainProcesses.{PlainEquation}
use Rattle.term_pool.specs.Pools.{PoolContents}
use Rattle.process_terms.specs.Processes.{Process}
use Rattle.process_terms.specs.SignatureEntries.{entries_of}
use Rattle.process_terms.specs.Theories.{Theory, IsConsistent}
use Rattle.bisim_laws.specs.LinearProcesses.{Linear, Summand}
use Rattle.bisim_laws.specs.Links.{Link}
use Rattle.lps_core.specs.Fitting.{Fits}
use Rattle.lps_core.specs.GoingOn.{GoesOn}
use Rattle.lps_core.specs.PlainLinears.{PlainLinear, PlainSummand, linear_of, linear_state, initial_of, summand_of}
use Rattle.lps_core.proofs.Members.{contains_map}
use Rattle.trace_replay.specs.declared.replaying.Verdict.{Verdict}
use Rattle.trace_replay.specs.declared.replaying.Verdict.TheVariants.{Accepted, Rejected}
use Rattle.trace_replay.specs.DecidedConditions.{setting}
use Rattle.trace_replay.specs.Pairings.{IsClosedLabel}
use Rattle.trace_replay.specs.ReplayLaws.{meant, start, HasRun, IsReplayable}
use Rattle.trace_replay.specs.Replays.{Entry, Replays}
use Rattle.trace_replay.specs.Settings.{Setting, theory_in}
use Rattle.trace_replay.proofs.VerdictLaws.{accepted_traces_are_runs, rejected_traces_are_no_runs, runs_without_sums_are_by_values}
use Rattle.lin_driver.specs.Eliminations.{equations_at}
use Rattle.lin_driver.specs.Linearised.{IsGoodOverBy, IsLinearised, IsMadeOf}
use Rattle.lin_driver.specs.LinearOfTexts.{IsLinearOf, is_made}
use Rattle.lin_driver.specs.declared.ending.Ending.{Ending}
use Rattle.lin_driver.specs.declared.methods.Method.{Method}
use Rattle.lin_driver.proofs.EndedTexts.{ended_as}
use Rattle.lin_driver.proofs.LinearisedTexts.{made_stands_for}
use Rattle.lin_tasks.specs.FirstSteps.{HasNoSums, IsTheoryFor}
use Rattle.lin_tasks.specs.ShownVerdicts.{CanFollowBy, HasNoRunUpTo, IsReplayed, ShowsVerdict}
use Rattle.lin_answers.specs.declared.status.Status.{Status}
use Rattle.lin_tasks.proofs.FollowedTraces.{agree_later, first_entries, follows_by, is_followed_by, runs_later}
use Rattle.lin_tasks.proofs.ShownTexts.{own_are}

-- ---- by a link that leads to the linear process
module _ (ending : Ending) (g : Sig) (own : List Equation) (fuel bound : ℕ) (ts : List Tree) (l : PlainLinear) (stands : IsSignature g) (inhabited : NoSortIsEmpty (data_meant g)) (fine : AreWellFormed g own) (fits : Fits g ts l)
    (k : Link) (p : Process) (good : IsGoodOverBy ending g k p (linear_state (entries_of g ts) l)) where
  abbrev s : Setting
  s = setting g own fuel bound

  abbrev lin : Linear
  lin = linear_of (entries_of g ts) l

  own_theory_goes_on : GoesOn g (theory_in s)
  own_theory_goes_on = record {
    grows = record { new_sorts = []; new_functions = []; sorts = sym (append-nil (data_meant g).sorts); functions = sym (append-nil (data_meant g).functions) };
    is_data = meant_data_are_data g stands.table stands.roles;
    inhabited = inhabited;
  }

  module _ (es : List Entry) (closed : AllByRecursion (λ (e : Entry). IsClosedLabel (data_meant g) e.label) es) where
    replayable : IsReplayable s ts l es
    replayable = record { signature = stands; equations = fine; fits = fits; labels = closed }

    -- the process has the run of a trace that is accepted
    pub accepted_is_followed : Replays s (meant s ts l) (start s ts l ∷ []) false es Accepted → (th : Theory) → IsTheoryFor g own th → CanFollowBy ending th p es
    accepted_is_followed replays th is =
        let h : HasRun s ts l es = accepted_traces_are_runs s ts l es replayable replays in
        let there = runs_later (theory_in s) th is.later.grows is.later.among lin fits.linear h.labels (Some (initial_of (entries_of g ts) l)) h.run refl in
        let agree = agree_later (theory_in s) th is.later.grows is.later.among h.agree in
        follows_by ending th k p (linear_state (entries_of g ts) l) (good th is.goes_on is.consistent) there.run agree

  no_sums : HasNoSums l → (a : Summand) → Contains lin.summands a → a.sums ≡ []
  no_sums none a among =
      let c = contains_map (summand_of (entries_of g ts)) l.summands a among in
      ap (λ (z : Summand). z.sums) c.1.1 ∙ ap (map (bound_at (entries_of g ts))) (All-contains (λ (z : PlainSummand). z.sums ≡ []) l.summands c.0 none c.1.0)

  -- and none of one that is rejected, up to there
  pub rejected_is_not_followed : (es : List Entry) → AllByRecursion (λ (e : Entry). IsClosedLabel (data_meant g) e.label) es → (number : ℕ) → Replays s (meant s ts l) (start s ts l ∷ []) false es (Rejected number) → IsConsistent (theory_in s)
      → HasNoRunUpTo ending number s ts l p es
  rejected_is_not_followed es closed number replays consistent =
      let r = rejected_traces_are_no_runs s ts l es number (replayable es closed) consistent replays in
      let front = replayable r.0 (first_entries number (λ (e : Entry). IsClosedLabel (data_meant g) e.label) r.1 closed) in
      record {
        front = r.0;
        up_to = r.1;
        by_values = r.2;
        without_sums = λ none h.
            let f = is_followed_by ending (theory_in s) k p (linear_state (entries_of g ts) l) (good (theory_in s) own_theory_goes_on consistent) {es = r.0} h in
            r.2 (runs_without_sums_are_by_values s ts l r.0 front (no_sums none) (record { labels = f.labels; outcome = f.outcome; run = f.run; agree = f.agree }));
      }

-- ---- of the linear process of a text
module _ (ending : Ending) (method : Method) (text : List ℕ) (spec : PlainSpec) (g : Sig) (q : PoolContents) (equations : List PlainEquation) (x : NameId) (l : PlainLinear) (components : ℕ) (is : IsLinearOf ending method text spec g q equations x l components)
    (fine : AreWellFormed g (equations_at g q.trees equations)) where
  abbrev from : IsLinearised ending text spec g q.trees l
  from = made_stands_for ending text spec g q.trees equations x l (is_made is)

  inhabited : NoSortIsEmpty (data_meant g)
  inhabited =
      let m : IsMadeOf ending text spec g q.trees equations x l = is_made is in
      (ended_as spec m.signature m.trees equations x m.linear m.made ending g q.trees l m.ended).inhabited

  same : from.theory.equations ≡ equations_at g q.trees equations
  same = own_are ending text spec g q.trees equations x l (is_made is)

  pub made_replay : (fuel bound : ℕ) (trace : List ℕ) (status : Status) (shown : List ℕ) → ShowsVerdict g (equations_at g q.trees equations) fuel bound q.trees l trace status shown → IsReplayed ending method fuel bound text trace status shown
  made_replay fuel bound trace status shown v =
      let answer : ShowsVerdict g from.theory.equations fuel bound q.trees l trace status shown = subst (λ (qs : List Equation). ShowsVerdict g qs fuel bound q.trees l trace status shown) (sym same) v in
      let fine_here : AreWellFormed g from.theory.equations = subst (AreWellFormed g) (sym same) fine in
      let on = answer.on_trace in
      let s = setting g from.theory.equations fuel bound in
      record {
        spec = spec;
        signature = g;
        pool = q;
        equations = equations;
        name = x;
        linear = l;
        components = components;
        is_linear = is;
        linearised = from;
        answer = answer;
        accepted = λ v. accepted_is_followed ending g from.theory.equations fuel bound q.trees l from.stands inhabited fine_here from.fits from.link from.process from.bisimilar on.entries on.closed
            (subst (λ (d : Verdict). Replays s (meant s q.trees l) (start s q.trees l ∷ []) false on.entries d) v on.replays);
        rejected = λ number v. rejected_is_not_followed ending g from.theory.equations fuel bound q.trees l from.stands inhabited fine_here from.fits from.link from.process from.bisimilar on.entries on.closed number
            (subst (λ (d : Verdict). Replays s (meant s q.trees l) (start s q.trees l ∷ []) false on.entries d) v on.replays);
      }
