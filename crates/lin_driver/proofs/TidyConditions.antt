-- As conditions are tidied, a linear process stays that of its process, plainly conditioned, and the names stay.
use Rattle.std.proofs.Common.{true, false, if◌then◌else◌, List, [], ◌∷◌, ◌++◌, map, sym, subst, None}
use Rattle.std.specs.Prelude.{Contains}
use Rattle.std.specs.List.{All, AllZip, AllByRecursion}
use Rattle.std.proofs.lemmas.List.Elements.{All-nil, All-cons, All-head, All-tail, All-weaker}
use Rattle.data_theory.specs.declared.ids.VarId.{VarId}
use Rattle.data_theory.specs.Terms.{Term, conjunction, application, none, more}
use Rattle.data_theory.specs.Signature.{Sig}
use Rattle.data_theory.specs.WholeSignatures.{IsSignature}
use Rattle.data_theory.specs.IdTrees.{Tree}
use Rattle.term_pool.specs.HeadTrees.{IsIn}
use Rattle.term_pool.specs.Pools.{PoolContents, Extends}
use Rattle.term_pool.proofs.DeclaredConstants.{grown_itself}
use Rattle.process_terms.specs.Meanings.{bound_at, term_at}
use Rattle.process_terms.specs.Processes.{Bound, Process}
use Rattle.process_terms.specs.SignatureEntries.{entries_of}
use Rattle.bisim_laws.specs.LinearProcesses.{Summand, Linear, is_true}
use Rattle.bisim_laws.specs.Links.{Then, Dropped}
use Rattle.bisim_laws.proofs.ComposedLinks.{then_good}
use Rattle.bisim_laws.proofs.Firing.{contains_first, contains_later}
use Rattle.lps_core.specs.Conditions.{parts}
use Rattle.lps_core.specs.Fitting.{SummandFits, Fits}
use Rattle.lps_core.specs.MadeTerms.{Written, Origin, origin_of, IsPlainPart, HasPlainParts, SummandIsPlain, IsPlainlyConditioned}
use Rattle.lps_core.specs.Moving.{all_kept}
use Rattle.lps_core.specs.Naming.{HasOwnNames, ParamsHaveOwnNames}
use Rattle.lps_core.specs.PlainLinears.{PlainSummand, PlainLinear, linear_of, initial_of, linear_state}
use Rattle.lps_core.proofs.Members.{contains_map}
use Rattle.greibach.proofs.PlainParts.{parts_are_plain}
use Rattle.lin_driver.specs.ModelLinears.{LeadsToLinear}
use Rattle.lin_driver.specs.NeededParts.{in_front, needed_parts, tidied, tidied_summand, tidied_linear, IsTidied, TidiesConditions}
use Rattle.lin_driver.specs.PlainlyMade.{IsPlainFor}
use Rattle.lin_driver.proofs.PlainGrowing.{plain_on}
use Rattle.lin_driver.proofs.PlainlyConjoined.{chain_is_plain}
use Rattle.lin_driver.proofs.TidiedLinears.{tidied_fits, tidied_good, tidied_linear_means}

-- ---- plain conditions
module _ (o : Origin) (added ps xs : List Bound) where
  abbrev IsPlainOne : Term → Type 0
  IsPlainOne = IsPlainPart o added ps xs

  front_plain : (c : Term) (own ds : List Term) → IsPlainOne c → AllByRecursion IsPlainOne own → AllByRecursion IsPlainOne ds → AllByRecursion IsPlainOne (in_front c own ds)
  front_plain c own [] h k i = k
  front_plain c own (d ∷ ds) h k i = elim (is_true c) as (λ b. AllByRecursion IsPlainOne (if b then d ∷ ds else c ∷ d ∷ ds)) [ true ↦ i | false ↦ (h, i) ]

  needed_plain : (c : Term) → HasPlainParts o added ps xs c → AllByRecursion IsPlainOne (needed_parts c)
  needed_plain (application conjunction (more x (more y none))) h =
      let first = h x (contains_first x (parts y)) in
      front_plain x (needed_parts x) (needed_parts y) first (needed_plain x (parts_are_plain o added ps xs x first)) (needed_plain y (λ p i. h p (contains_later x p (parts y) i)))
  needed_plain c h = elim (is_true c) as (λ b. AllByRecursion IsPlainOne (if b then [] else c ∷ [])) [ true ↦ tt | false ↦ (h c (contains_first c []), tt) ]

  condition_plain : (c : Term) → HasPlainParts o added ps xs c → HasPlainParts o added ps xs (tidied c)
  condition_plain c h = chain_is_plain o added ps xs (needed_parts c) (needed_plain c h)

linear_plain : (o : Origin) (added : List Bound) (l : Linear) (init : List Term) → IsPlainlyConditioned o added l init → IsPlainlyConditioned o added (tidied_linear l) init
linear_plain o added l init plain = record { starts = plain.starts; summands = each }
  where
    each : (t : Summand) → Contains (map tidied_summand l.summands) t → SummandIsPlain o added l.params t
    each t i =
        let r = contains_map tidied_summand l.summands t i in
        let s = r.0 in
        let h = plain.summands s r.1.0 in
        subst (λ z. SummandIsPlain o added l.params z) (sym r.1.1) (record { sums = h.sums; condition = condition_plain o added l.params (s.sums ++ l.params) s.condition h.condition; label = h.label; next = h.next })

pub tidying_is_plain : (s h : Sig) (p q : PoolContents) (w : Written) (l k : PlainLinear) → IsSignature h → Extends p.trees q.trees → TidiesConditions p.trees q.trees l k → IsPlainFor s h p w l → IsPlainFor s h q w k
tidying_is_plain s h p q w l k stands kept t before =
    let e = entries_of h q.trees in
    let own = plain_on s h h p q w l stands stands (record { signature = grown_itself h; pool = kept }) before in
    let o = origin_of h q w own.stacks in
    let added = map (bound_at e) own.added in
    let meant = tidied_linear_means h stands p.trees q.trees kept l k before.fits t in
    record {
      fits = tidied_fits h stands p.trees q.trees kept l k before.fits t;
      stacks = own.stacks;
      stacks_added = own.stacks_added;
      added = own.added;
      are_added = own.are_added;
      are_parameters = λ x i. subst (λ xs. Contains xs x) (sym t.params) (own.are_parameters x i);
      plain = subst (λ ids. IsPlainlyConditioned o added (linear_of e k) (map (term_at e) ids)) (sym t.init)
          (subst (λ z. IsPlainlyConditioned o added z (initial_of e l)) (sym meant) (linear_plain o added (linear_of e l) (initial_of e l) own.plain));
    }

-- ---- the names, and the link
sums_same : (P : List VarId → Type 0) (ts us : List Tree) (ss made : List PlainSummand) → AllZip (IsTidied ts us) ss made → All (λ (s : PlainSummand). P s.sums) ss → All (λ (s : PlainSummand). P s.sums) made
sums_same P ts us [] [] z h = All-nil (λ (s : PlainSummand). P s.sums)
sums_same P ts us [] (t ∷ made) z h = absurd z
sums_same P ts us (s ∷ ss) [] z h = absurd z
sums_same P ts us (s ∷ ss) (t ∷ made) z h =
    All-cons (λ (s : PlainSummand). P s.sums) t made (subst P (sym z.0.sums) (All-head (λ (s : PlainSummand). P s.sums) s ss h)) (sums_same P ts us ss made z.1 (All-tail (λ (s : PlainSummand). P s.sums) s ss h))

pub tidying_leads : (g h : Sig) (p : Process) (ts us : List Tree) (l k : PlainLinear) → Extends ts us → TidiesConditions ts us l k → LeadsToLinear g p h ts l → LeadsToLinear g p h us k
tidying_leads g h p ts us l k kept t w =
    let last = Dropped (all_kept (linear_of (entries_of h ts) l).params) (linear_of (entries_of h ts) l) (linear_of (entries_of h us) k) in
    record {
      stands = w.stands;
      inhabited = w.inhabited;
      grows = w.grows;
      no_actions = w.no_actions;
      fits = tidied_fits h w.stands ts us kept l k w.fits t;
      identifiers = w.identifiers;
      params = subst (ParamsHaveOwnNames h) (sym t.params) w.params;
      names = subst (λ ps. All (HasOwnNames h ps) k.summands) (sym t.params)
          (sums_same (λ xs. HasOwnNames h l.params (record { sums = xs; condition = record { 0 = 0 }; label = []; next = None })) ts us l.summands k.summands t.summands w.names);
      link = Then w.link last;
      bisimilar = λ th on con. then_good th w.link last p (linear_state (entries_of h ts) l) (linear_state (entries_of h us) k) (w.bisimilar th on con) (tidied_good h w.stands ts us kept l k w.fits t th on con);
    }

-- what fits has its conditions in the pool
pub conditions_are_in : (g : Sig) (ts : List Tree) (l : PlainLinear) → Fits g ts l → All (λ (s : PlainSummand). IsIn ts s.condition) l.summands
conditions_are_in g ts l fits = All-weaker (SummandFits g ts l.params) (λ (s : PlainSummand). IsIn ts s.condition) (λ s h. h.condition.within) l.summands fits.summands
