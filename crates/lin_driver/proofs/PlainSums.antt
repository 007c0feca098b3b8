-- As sums are named, a linear process stays plainly conditioned.
use Rattle.std.proofs.Common.{◌≡◌, suc, cond, List, ◌++◌, map, length, refl, sym, ap, ◌∙◌, subst, ⊎_elim, Option, Some, None}
use Rattle.std.specs.Prelude.{Contains}
use Rattle.std.proofs.lemmas.Bool.Decides.{eqb_tells}
use Rattle.std.proofs.lemmas.List.Elements.{All-weaker, Contains-append_cases, Contains-append_left, Contains-append_right}
use Rattle.data_theory.specs.Terms.{Term, variable, put}
use Rattle.data_theory.specs.Environments.{Environment, term_in}
use Rattle.data_theory.specs.Signature.{Sig}
use Rattle.data_theory.specs.WholeSignatures.{IsSignature}
use Rattle.term_pool.specs.Pools.{PoolContents, Extends}
use Rattle.process_terms.specs.Meanings.{bound_at, term_at}
use Rattle.process_terms.specs.Processes.{Bound}
use Rattle.process_terms.specs.SignatureEntries.{entries_of}
use Rattle.bisim_laws.specs.LinearProcesses.{Summand, Linear, variables, put_next, IsLinear, IsWellSorted}
use Rattle.bisim_laws.proofs.Firing.{contains_first, contains_later, contains_cases, contains_none, variable_among}
use Rattle.lps_core.specs.Fitting.{SummandFits, Fits}
use Rattle.lps_core.specs.MadeTerms.{Written, StackSort, Origin, origin_of, IsStack, IsMade, a_variable, AreMade, IsAdded, SummandIsPlain, IsPlainlyConditioned}
use Rattle.lps_core.specs.Moving.{SameSorts, no_more, one_more, renaming_to, with_sums, HaveOtherSums, no_summand, one_summand, RenewsSums}
use Rattle.lps_core.specs.Naming.{GrowsByNames, SumsAreNamed}
use Rattle.lps_core.specs.PlainLinears.{PlainLinear, linear_of, initial_of}
use Rattle.lps_core.specs.TreeSummands.{IsSummandIn}
use Rattle.lps_core.proofs.Environments.{unrenamed_stay}
use Rattle.lps_core.proofs.NamedLinears.{naming_stands, fitting_is_in}
use Rattle.lps_core.proofs.SortedTerms.{HaveTheirSorts, renamed_sorted}
use Rattle.lps_core.proofs.Staying.{what_fits_is_sorted}
use Rattle.greibach.proofs.GrownFits.{both_by_names}
use Rattle.regular_encoder.proofs.FirstTerms.{some_is, no_some}
use Rattle.regular_encoder.proofs.PlainTerms.{all_moved, label_moved, parts_moved}
use Rattle.stack_encoder.proofs.AnsweredTerms.{answered_stays}
use Rattle.lin_driver.specs.PlainlyMade.{IsPlainFor}
use Rattle.lin_driver.proofs.PlainGrowing.{plain_on}

-- ---- other sums
renamed_to : {xs ys : List Bound} → SameSorts xs ys → (x : Bound) → Contains xs x → (y : Bound) × (Contains ys y × (term_in (renaming_to (variables xs) (variables ys)) x.var ≡ variable y.var))
renamed_to no_more x i = absurd (contains_none x i)
renamed_to (one_more {x = a} {y = b} {xs = xs} {ys = ys} e k) x i = ⊎_elim
    (λ w. (b, (contains_first b ys, ap (λ t. cond t (variable b.var) (term_in (renaming_to (variables xs) (variables ys)) x.var)) w.0)))
    (λ w.
    let r = renamed_to k x (⊎_elim (λ q. absurd (w.1 (ap (λ (z : Bound). z.var) q))) (λ j. j) (contains_cases a x xs i)) in
    (r.0, (contains_later b r.0 ys r.1.0, ap (λ t. cond t (variable b.var) (term_in (renaming_to (variables xs) (variables ys)) x.var)) w.0 ∙ r.1.1)))
    (eqb_tells a.var x.var)

same_sorts_long : {xs ys : List Bound} → SameSorts xs ys → length (variables ys) ≡ length (variables xs)
same_sorts_long no_more = refl
same_sorts_long (one_more e k) = ap suc (same_sorts_long k)

-- the summand behind one with other sums
record IsNamedOf (ss : List Summand) (y : Summand) : Type 0 where
  summand : Summand
  among : Contains ss summand
  sums : List Bound
  same : SameSorts summand.sums sums
  is : y ≡ with_sums sums summand

named_of : {ss ts : List Summand} → HaveOtherSums ss ts → (y : Summand) → Contains ts y → IsNamedOf ss y
named_of no_summand y i = absurd (contains_none y i)
named_of (one_summand {s = s} {ss = ss} {ts = ts} ys k h) y i = ⊎_elim
    (λ q. record { summand = s; among = contains_first s ss; sums = ys; same = k; is = sym q })
    (λ j. let r = named_of h y j in record { summand = r.summand; among = contains_later s r.summand ss r.among; sums = r.sums; same = r.same; is = r.is })
    (contains_cases (with_sums ys s) y ts i)

module _ (o : Origin) (added : List Bound) (l k : Linear) (linear : IsLinear l) (sorted : IsWellSorted o.declared o.variable_sorts l) (sorted' : IsWellSorted o.declared o.variable_sorts k) (closed : (t : Term) → o.WasAnswered t → (e : Environment) → put (term_in e) t ≡ t) where
  module _ (s : Summand) (ys : List Bound) (same : SameSorts s.sums ys) (among : Contains l.summands s) (among' : Contains k.summands (with_sums ys s)) (plain : SummandIsPlain o added l.params s) (written : (y : Bound) → Contains ys y → Contains o.written.sums y.sort) where
    abbrev r : Environment
    r = renaming_to (variables s.sums) (variables ys)

    abbrev zs : List Bound
    zs = ys ++ l.params

    parameter_stays : (x : Bound) → Contains l.params x → term_in r x.var ≡ variable x.var
    parameter_stays x i = unrenamed_stay (variables s.sums) (variables ys) x.var (same_sorts_long same) (λ j. (linear.summands s among).apart x.var j (variable_among l.params x i))

    moved : (x : Bound) → Contains (s.sums ++ l.params) x → IsMade o l.params zs (term_in r x.var)
    moved x i = ⊎_elim
        (λ j. let m = renamed_to same x j in subst (λ z. IsMade o l.params zs z) (sym m.1.1) (a_variable (Contains-append_left ys l.params m.0 m.1.0)))
        (λ j. subst (λ z. IsMade o l.params zs z) (sym (parameter_stays x j)) (a_variable (Contains-append_right ys l.params x j)))
        (Contains-append_cases s.sums l.params x i)

    keeps : HaveTheirSorts o.declared o.variable_sorts o.variable_sorts (term_in r)
    keeps = renamed_sorted o.declared o.variable_sorts same (sorted.summands s among).sums (sorted'.summands (with_sums ys s) among').sums

    stacked : (m : StackSort) (x : Bound) → IsStack o l.params m x → (u : Bound) × (IsStack o l.params m u × (term_in r x.var ≡ variable u.var))
    stacked m x w = (x, (w, parameter_stays x w.parameter))

    flags : (x : Bound) → IsAdded added l.params x → (y : Bound) × (IsAdded added l.params y × (y.sort ≡ x.sort) × (term_in r x.var ≡ variable y.var))
    flags x a = (x, (a, refl, parameter_stays x a.parameter))

    closed_kept : (t : Term) → o.WasAnswered t → put (term_in r) t ≡ t
    closed_kept t w = closed t w r

    next_named : (n : Option (List Term)) → ((ts : List Term) → n ≡ Some ts → AreMade o l.params (s.sums ++ l.params) ts) → (us : List Term) → put_next r n ≡ Some us → AreMade o l.params zs us
    next_named None h us e = absurd (no_some e)
    next_named (Some ts) h us e = subst (λ z. AreMade o l.params zs z) (some_is e) (all_moved o l.params (s.sums ++ l.params) l.params zs r closed_kept moved keeps stacked ts (h ts refl))

    summand_named : SummandIsPlain o added l.params (with_sums ys s)
    summand_named = record {
      sums = written;
      condition = parts_moved o l.params (s.sums ++ l.params) l.params zs r closed_kept moved keeps stacked added added flags s.condition plain.condition;
      label = label_moved o l.params (s.sums ++ l.params) l.params zs r closed_kept moved keeps stacked s.label plain.label;
      next = next_named s.next plain.next;
    }

  -- the new sums have the sorts of the old ones
  sums_written : {xs ys : List Bound} → SameSorts xs ys → ((x : Bound) → Contains xs x → Contains o.written.sums x.sort) → (y : Bound) → Contains ys y → Contains o.written.sums y.sort
  sums_written no_more h y i = absurd (contains_none y i)
  sums_written (one_more {x = a} {y = b} {xs = xs} {ys = ys} e m) h y i = ⊎_elim
      (λ q. subst (λ (z : Bound). Contains o.written.sums z.sort) q (subst (λ z. Contains o.written.sums z) e (h a (contains_first a xs))))
      (λ j. sums_written m (λ x n. h x (contains_later a x xs n)) y j)
      (contains_cases b y ys i)

  pub renewed_sums_plain : (init : List Term) → RenewsSums l k → IsPlainlyConditioned o added l init → IsPlainlyConditioned o added k init
  renewed_sums_plain init renews plain = record {
    starts = plain.starts;
    summands = λ y i.
        let n = named_of renews.summands y i in
        let own = plain.summands n.summand n.among in
        subst (λ ps. SummandIsPlain o added ps y) (sym renews.params)
        (subst (λ z. SummandIsPlain o added l.params z) (sym n.is) (summand_named n.summand n.sums n.same n.among (subst (λ z. Contains k.summands z) n.is i) own (sums_written n.same own.sums)));
  }

-- ---- in code
pub naming_is_plain : (s g h : Sig) (p q : PoolContents) (w : Written) (l k : PlainLinear) → IsSignature g → GrowsByNames g h → Extends p.trees q.trees → SumsAreNamed g h p.trees q.trees l k → Fits h q.trees k → IsPlainFor s g p w l → IsPlainFor s h q w k
naming_is_plain s g h p q w l k old by kept named fits before =
    let e = entries_of h q.trees in
    let own = plain_on s g h p q w l old by.stands (both_by_names g h p.trees q.trees by kept) before in
    let o = origin_of h q w own.stacks in
    let added = map (bound_at e) own.added in
    let within = All-weaker (SummandFits h q.trees k.params) (IsSummandIn q.trees) (λ t f. fitting_is_in h q.trees k.params t f) k.summands fits.summands in
    let stands = naming_stands g h p.trees q.trees l k old kept before.fits named within in
    record {
      fits = fits;
      stacks = own.stacks;
      stacks_added = own.stacks_added;
      added = own.added;
      are_added = own.are_added;
      are_parameters = λ x i. subst (λ xs. Contains xs x) (sym named.params) (own.are_parameters x i);
      plain = subst (λ ids. IsPlainlyConditioned o added (linear_of e k) (map (term_at e) ids)) (sym named.init)
          (renewed_sums_plain o added (linear_of e l) (linear_of e k) stands.before.linear (what_fits_is_sorted h q.trees l by.stands.table by.stands.complete stands.before) (what_fits_is_sorted h q.trees k by.stands.table by.stands.complete fits)
          (answered_stays h q by.stands) (initial_of e l) stands.renews own.plain);
    }
