-- A linear process with new variables fits, and means the renewed one.
use Rattle.std.proofs.Common.{◌≡◌, ◌<◌, ◌+◌, ⊎_elim, ℕ, List, [], ◌∷◌, ◌++◌, map, take, length, get_or, refl, sym, ap, ap₂, ◌∙◌, subst, arith, Option, Some, None}
use Rattle.std.specs.Prelude.{option_map, IfSome}
use Rattle.std.specs.List.{All, AllZip, Contains}
use Rattle.std.proofs.lemmas.List.{map-append, take_more}
use Rattle.std.proofs.lemmas.List.Elements.{All-nil, All-cons, All-push, All-head, All-tail, All-contains, All-weaker, Contains-append_cases}
use Rattle.data_theory.specs.declared.ids.SortId.{SortId}
use Rattle.data_theory.specs.declared.ids.VarId.{VarId}
use Rattle.data_theory.specs.declared.ids.TermId.{TermId}
use Rattle.data_theory.specs.Environments.{Environment, term_in, terms_of}
use Rattle.data_theory.specs.Terms.{Term, variable as var, put}
use Rattle.data_theory.specs.Declarations.{HaveSorts}
use Rattle.data_theory.specs.Signature.{Sig}
use Rattle.data_theory.specs.IdData.{data_meant}
use Rattle.data_theory.specs.IdTables.{IsTable}
use Rattle.data_theory.specs.IdTrees.{Tree, put_tree}
use Rattle.data_theory.specs.IdTreeSorts.{HasTreeSort}
use Rattle.data_theory.specs.IdTerms.{variable_sorts, term_under}
use Rattle.data_theory.specs.WholeSignatures.{IsSignature}
use Rattle.term_pool.specs.HeadTrees.{tree_at, trees_at, IsIn}
use Rattle.term_pool.specs.Pools.{Extends}
use Rattle.term_pool.specs.Bindings.{listed, listed_terms}
use Rattle.term_pool.proofs.KeptSorts.{keeps_put}
use Rattle.process_terms.specs.Labels.{Label, put_label}
use Rattle.process_terms.specs.Processes.{Bound}
use Rattle.process_terms.specs.Meanings.{Entries, bound_at, term_at, label_of}
use Rattle.process_terms.specs.SignatureEntries.{entries_of}
use Rattle.bisim_laws.specs.LinearProcesses.{Linear, sorts, variables, put_next, IsLinear}
use Rattle.bisim_laws.specs.LinearProcesses as theory
use Rattle.lps_core.specs.declared.linears.Summand.{Summand}
use Rattle.lps_core.specs.Fitting.{Fits, SummandFits, AreTermsOf, IsVariable, sort_of_variable, HasTakenName}
use Rattle.lps_core.specs.Moving.{renaming_to}
use Rattle.lps_core.specs.PlainLinears.{PlainSummand, PlainLinear, plain_summand, summand_of, linear_of, initial_of}
use Rattle.lps_core.specs.TreeSummands.{TreeSummand, trees_of_label, trees_of_summand, IsActionIn, IsSummandIn, put_actions, put_in_summand, renaming_tree, numbers_of, meant_action, meant_summand}
use Rattle.lps_core.proofs.PoolTrees.{extends_itself, extends_on, tree_kept, actions_kept, put_along, args_along, actions_along, listed_kept, all_in_kept}
use Rattle.lps_core.proofs.KeptSummands.{next_trees_kept, summand_kept, summand_in_kept}
use Rattle.lps_core.proofs.Members.{contains_map}
use Rattle.lps_core.proofs.MeantTrees.{Means, put_pointwise, put_means, label_means, next_puts_mean, numbers_meant, renaming_means, summand_read}
use Rattle.lps_core.proofs.Staying.{term_is, what_fits_is_sorted}
use Rattle.lps_core.proofs.NamedSums.{zip_push}
use Rattle.lps_core.proofs.NamedLinears.{fitting_is_in, put_summand_fits, first_functions}
use Rattle.summand_expander.specs.Renewing.{renewed_bounds, renewed_terms, renewed_label, renewed_next, renewed_summand, renewed, Renews}
use Rattle.summand_expander.specs.Renewals.{renewed_variable, renewed_variables, AreListed, IsRenewedSummand, AreRenewedSummands, IsRenewedLinear}
use Rattle.summand_expander.specs.WholeProducts.{renewed_number}
use Rattle.summand_expander.proofs.GivingWay.{NewOnes}
use Rattle.summand_expander.proofs.NewVariables.{renaming_is_term, tree_renewed, variable_renewed, taken_renewed, sorts_renewed, meant_renewed, declared_renewed, all_renewed, renewed_apart}
use Rattle.summand_expander.proofs.RenewedSides.{renewed_is_linear}

-- ---- one summand, as the pool grows
next_along : (d e : VarId → Tree) → ((v : VarId) → d v ≡ e v) → (next : Option (List Tree)) → option_map (map (put_tree d)) next ≡ option_map (map (put_tree e)) next
next_along d e h None = refl
next_along d e h (Some ts) = ap Some (args_along d e h ts)

pub summand_renewed : (by : List (VarId × TermId)) (os ns : List VarId) (s made : PlainSummand) (ts t2 t3 t4 : List Tree) → IsSummandIn ts s → AreListed ts os ns by → Extends ts t2 → Extends t2 t3 → Extends t3 t4 → made.sums ≡ renewed_variables os ns s.sums
    → IsIn t2 made.condition → tree_at t2 made.condition ≡ put_tree (listed ts by) (tree_at ts s.condition)
    → All (IsActionIn t3) made.label → trees_of_label t3 made.label ≡ put_actions (listed t2 by) (trees_of_label t2 s.label)
    → option_map (trees_at t4) made.next ≡ option_map (map (put_tree (listed t3 by))) (option_map (trees_at t3) s.next)
    → IsRenewedSummand ts t4 os ns s made
summand_renewed by os ns s made ts t2 t3 t4 within l e2 e3 e4 sums cond_in cond label_in label next =
    let r = renaming_tree os ns in
    let e03 = extends_on ts t2 t3 e2 e3 in
    let same2 : (v : VarId) → listed t2 by v ≡ r v = λ v. listed_kept ts t2 by e2 l.within v ∙ l.moves v in
    let same3 : (v : VarId) → listed t3 by v ≡ r v = λ v. listed_kept ts t3 by e03 l.within v ∙ l.moves v in
    let condition : tree_at t4 made.condition ≡ put_tree r (tree_at ts s.condition) =
    (tree_kept t2 t4 made.condition (extends_on t2 t3 t4 e3 e4) cond_in).0 ∙ cond ∙ put_along (listed ts by) r l.moves (tree_at ts s.condition) in
    let labels : trees_of_label t4 made.label ≡ put_actions r (trees_of_label ts s.label) =
    actions_kept t3 t4 made.label e4 label_in ∙ label ∙ ap (put_actions (listed t2 by)) (actions_kept ts t2 s.label e2 within.label) ∙ actions_along (listed t2 by) r same2 (trees_of_label ts s.label) in
    ap₂ (λ c m. record { sums = made.sums; condition = c; label = m; next = option_map (trees_at t4) made.next }) condition labels
    ∙ ap₂ (λ xs n. record { sums = xs; condition = put_tree r (tree_at ts s.condition); label = put_actions r (trees_of_label ts s.label); next = n }) sums
    (next ∙ ap (option_map (map (put_tree (listed t3 by)))) (next_trees_kept ts t3 e03 s.next within.next) ∙ next_along (listed t3 by) r same3 (option_map (trees_at ts) s.next))

pub listed_still : (ts us : List Tree) (os ns : List VarId) (by : List (VarId × TermId)) → Extends ts us → AreListed ts os ns by → AreListed us os ns by
listed_still ts us os ns by e l = record { within = all_in_kept ts us (listed_terms by) e l.within; moves = λ v. listed_kept ts us by e l.within v ∙ l.moves v }

pub all_in_still : (ts us : List Tree) → Extends ts us → (ss : List PlainSummand) → All (IsSummandIn ts) ss → All (IsSummandIn us) ss
all_in_still ts us e ss h = All-weaker (IsSummandIn ts) (IsSummandIn us) (λ s k. summand_in_kept ts us e s k) ss h

-- ---- summands one after another
pub record IsRenewing (ts : List Tree) (os ns : List VarId) (items : List Summand) (i : ℕ) (us : List Tree) (made : List Summand) : Type 0 where
  pub kept : Extends ts us
  pub so_far : AreRenewedSummands ts us os ns (map plain_summand (take i items)) (map plain_summand made)

pub renewing_none : (ts : List Tree) (os ns : List VarId) (items : List Summand) → IsRenewing ts os ns items 0 ts []
renewing_none ts os ns items = record { kept = extends_itself ts; so_far = record { summands = tt; within = All-nil (IsSummandIn ts) } }

zip_kept : (ts us vs : List Tree) (os ns : List VarId) (ss made : List PlainSummand) → Extends us vs → All (IsSummandIn us) made → AllZip (IsRenewedSummand ts us os ns) ss made → AllZip (IsRenewedSummand ts vs os ns) ss made
zip_kept ts us vs os ns [] [] e h z = tt
zip_kept ts us vs os ns [] (m ∷ made) e h z = absurd z
zip_kept ts us vs os ns (s ∷ ss) [] e h z = absurd z
zip_kept ts us vs os ns (s ∷ ss) (m ∷ made) e h z = (summand_kept us vs e m (All-head (IsSummandIn us) m made h) ∙ z.0, zip_kept ts us vs os ns ss made e (All-tail (IsSummandIn us) m made h) z.1)

pub renewing_more : (ts : List Tree) (os ns : List VarId) (items : List Summand) (i : ℕ) (us : List Tree) (made : List Summand) (s : Summand) → IsRenewing ts os ns items i us made → i < length items → s ≡ get_or items i s → IsSummandIn ts (plain_summand s)
    → (vs : List Tree) (new : Summand) → Extends us vs → IsSummandIn vs (plain_summand new) → IsRenewedSummand us vs os ns (plain_summand s) (plain_summand new) → IsRenewing ts os ns items (i + 1) vs (made ++ new ∷ [])
renewing_more ts os ns items i us made s r l at own vs new e within is =
    let more : map plain_summand (take (i + 1) items) ≡ map plain_summand (take i items) ++ plain_summand s ∷ [] =
    ap (map plain_summand) (take_more items i s l ∙ ap (λ y. take i items ++ y ∷ []) (sym at)) ∙ map-append plain_summand (take i items) (s ∷ []) in
    let last : map plain_summand (made ++ new ∷ []) ≡ map plain_summand made ++ plain_summand new ∷ [] = map-append plain_summand made (new ∷ []) in
    record {
      kept = extends_on ts us vs r.kept e;
      so_far = subst (λ z. AreRenewedSummands ts vs os ns z (map plain_summand (made ++ new ∷ []))) (sym more) (subst (λ z. AreRenewedSummands ts vs os ns (map plain_summand (take i items) ++ plain_summand s ∷ []) z) (sym last) (record {
        summands = zip_push (IsRenewedSummand ts vs os ns) (map plain_summand (take i items)) (map plain_summand made) (plain_summand s) (plain_summand new)
            (zip_kept ts us vs os ns (map plain_summand (take i items)) (map plain_summand made) e r.so_far.within r.so_far.summands)
            (is ∙ ap (put_in_summand (renaming_tree os ns) (renewed_variables os ns s.sums.items)) (summand_kept ts us r.kept (plain_summand s) own));
        within = All-push (IsSummandIn vs) (map plain_summand made) (plain_summand new) (all_in_still us vs e (map plain_summand made) r.so_far.within) within;
      }));
    }

-- ---- what it means
label_is : (env : Environment) (r : ℕ → ℕ) → ((v : ℕ) → term_in env v ≡ var (r v)) → (m : Label) → put_label env m ≡ renewed_label r m
label_is env r h [] = refl
label_is env r h (a ∷ m) = ap₂ (λ args z. record { name = a.name; sorts = a.sorts; args = args } ∷ z) (terms_are a.args) (label_is env r h m)
  where
    terms_are : (ts : List Term) → map (put (term_in env)) ts ≡ renewed_terms r ts
    terms_are [] = refl
    terms_are (t ∷ ts) = ap₂ (λ x xs. x ∷ xs) (put_pointwise (term_in env) (λ v. var (r v)) h t) (terms_are ts)

next_is : (env : Environment) (r : ℕ → ℕ) → ((v : ℕ) → term_in env v ≡ var (r v)) → (next : Option (List Term)) → put_next env next ≡ renewed_next r next
next_is env r h None = refl
next_is env r h (Some ts) = ap Some (terms_are ts)
  where
    terms_are : (ts : List Term) → map (put (term_in env)) ts ≡ renewed_terms r ts
    terms_are [] = refl
    terms_are (t ∷ ts) = ap₂ (λ x xs. x ∷ xs) (put_pointwise (term_in env) (λ v. var (r v)) h t) (terms_are ts)

module _ (g h : Sig) (os ns : List VarId) (n : NewOnes g h os ns) (table : IsTable h) (us : List Tree) where
  abbrev e : Entries
  e = entries_of h us

  abbrev r : ℕ → ℕ
  r = renewed_number os ns

  abbrev env : Environment
  env = renaming_to (numbers_of os) (numbers_of ns)

  env_is : (v : ℕ) → term_in env v ≡ var (r v)
  env_is v = renaming_is_term os ns (record { 0 = v })

  pub bounds_renewed : (xs : List VarId) → All (IsVariable h) xs → map (bound_at e) (renewed_variables os ns xs) ≡ renewed_bounds r (map (bound_at e) xs)
  bounds_renewed [] l = refl
  bounds_renewed (x ∷ xs) l =
      ap₂ (λ s ys. record { var = (renewed_variable os ns x).0; sort = s } ∷ ys) (meant_renewed g h os ns n x (All-head (IsVariable h) x xs l)) (bounds_renewed xs (All-tail (IsVariable h) x xs l))

  summand_means : (params : List VarId) (s t : PlainSummand) → SummandFits h us params s → IsSummandIn us t → IsRenewedSummand us us os ns s t → summand_of e t ≡ renewed_summand r (summand_of e s)
  summand_means params s t fit w is =
      let m : Means h (renaming_tree os ns) env = renaming_means h os ns in
      let own = fitting_is_in h us params s fit in
      let d = renaming_tree os ns in
      summand_read h us t w ∙ ap (meant_summand h) is
      ∙ ap₂ (λ xs c. record { sums = xs; condition = c; label = map (meant_action h) (put_actions d (trees_of_label us s.label)); next = option_map (map (term_under h)) (option_map (map (put_tree d)) (option_map (trees_at us) s.next)) }) (bounds_renewed s.sums fit.sums)
      (put_means h table d env m (tree_at us s.condition) ∙ ap (put (term_in env)) (sym (term_is h us s.condition own.condition)) ∙ put_pointwise (term_in env) (λ v. var (r v)) env_is (term_at e s.condition))
      ∙ ap₂ (λ l x. record { sums = renewed_bounds r (map (bound_at e) s.sums); condition = put (λ v. var (r v)) (term_at e s.condition); label = l; next = x })
      (label_means h table d env m us s.label own.label ∙ label_is env r env_is (label_of e s.label))
      (next_puts_mean h table d env m us s.next own.next ∙ next_is env r env_is (option_map (map (term_at e)) s.next))

  summands_mean : (params : List VarId) (ss made : List PlainSummand) → All (SummandFits h us params) ss → All (IsSummandIn us) made → AllZip (IsRenewedSummand us us os ns) ss made → map (summand_of e) made ≡ map (λ s. renewed_summand r s) (map (summand_of e) ss)
  summands_mean params [] [] f w z = refl
  summands_mean params [] (t ∷ made) f w z = absurd z
  summands_mean params (s ∷ ss) [] f w z = absurd z
  summands_mean params (s ∷ ss) (t ∷ made) f w z = ap₂ (λ x xs. x ∷ xs)
      (summand_means params s t (All-head (SummandFits h us params) s ss f) (All-head (IsSummandIn us) t made w) z.0)
      (summands_mean params ss made (All-tail (SummandFits h us params) s ss f) (All-tail (IsSummandIn us) t made w) z.1)

  pub renewed_means : (l k : PlainLinear) → Fits h us l → IsRenewedLinear us us os ns l k → linear_of e k ≡ renewed r (linear_of e l)
  renewed_means l k fits is = ap₂ (λ ps ss. record { params = ps; summands = ss })
      (ap (map (bound_at e)) is.params ∙ bounds_renewed l.params fits.params)
      (summands_mean l.params l.summands k.summands fits.summands is.summands.within is.summands.summands)

  -- ---- that it fits
  keeps_sorts : IsSignature h → (t : Tree) (s : SortId) → HasTreeSort h t s → HasTreeSort h (put_tree (renaming_tree os ns) t) s
  keeps_sorts whole = keeps_put h (first_functions h whole.complete) (renaming_tree os ns) (λ v s j. tree_renewed g h os ns n v s j)

  is_variable_of : (xs : List VarId) → All (IsVariable g) xs → (v : ℕ) → Contains (variables (map (bound_at e) xs)) v → v < length g.variables
  is_variable_of xs l v i =
      let k = contains_map (λ (x : VarId). x.0) xs v (subst (λ zs. Contains zs v) (numbers_meant h us xs) i) in
      let w : k.0.0 < length g.variables = All-contains (IsVariable g) xs k.0 l k.1.0 in
      let q = k.1.1 in
      omega (arith, w, q)

  apart_numbers : (x y : ℕ) → x < length g.variables → y < length g.variables → r x ≡ r y → x ≡ y
  apart_numbers x y l m q = ap (λ (z : VarId). z.0) (renewed_apart g h os ns n (record { 0 = x }) (record { 0 = y }) l m (ap (λ z. record { 0 = z }) q))

  pub renews : (l : PlainLinear) → All (IsVariable g) l.params → All (λ (s : PlainSummand). All (IsVariable g) s.sums) l.summands → Renews (variable_sorts h) r (linear_of e l)
  renews l ps ss = record {
    params = λ x y i j q. apart_numbers x y (is_variable_of l.params ps x i) (is_variable_of l.params ps y j) q;
    summands = λ s i x y j k q.
        let t = contains_map (summand_of e) l.summands s i in
        let own : All (IsVariable g) t.0.sums = All-contains (λ (z : PlainSummand). All (IsVariable g) z.sums) l.summands t.0 ss t.1.0 in
        let within : (v : ℕ) → Contains (variables s.sums ++ variables (linear_of e l).params) v → v < length g.variables = λ v c.
        ⊎_elim
        (λ d. is_variable_of t.0.sums own v (subst (λ (z : theory.Summand). Contains (variables z.sums) v) t.1.1 d))
        (λ d. is_variable_of l.params ps v d)
        (Contains-append_cases (variables s.sums) (variables (linear_of e l).params) v c) in
        apart_numbers x y (within x j) (within y k) q;
    sorts = λ v s d. declared_renewed g h os ns n v s d;
  }

  sums_of_renewed : (s t : PlainSummand) → IsRenewedSummand us us os ns s t → t.sums ≡ renewed_variables os ns s.sums
  sums_of_renewed s t is = ap (λ (z : TreeSummand). z.sums) is

  summand_fits_renewed : IsSignature h → (params : List VarId) (s t : PlainSummand) → SummandFits h us params s → IsSummandIn us t → IsRenewedSummand us us os ns s t → SummandFits h us (renewed_variables os ns params) t
  summand_fits_renewed whole params s t fit w is =
      let q = sums_of_renewed s t is in
      let f = put_summand_fits h us (renaming_tree os ns) (keeps_sorts whole) params s t
      (subst (λ xs. All (IsVariable h) xs) (sym q) (all_renewed g h os ns n (IsVariable h) (variable_renewed g h os ns n) s.sums fit.sums))
      (is ∙ ap (λ xs. put_in_summand (renaming_tree os ns) xs (trees_of_summand us s)) (sym q)) w fit in
      record { sums = f.sums; condition = f.condition; label = f.label; next = subst (λ ss. IfSome t.next (AreTermsOf h us ss)) (sym (sorts_renewed g h os ns n params)) f.next }

  summands_fit_renewed : IsSignature h → (params : List VarId) (ss made : List PlainSummand) → All (SummandFits h us params) ss → All (IsSummandIn us) made → AllZip (IsRenewedSummand us us os ns) ss made → All (SummandFits h us (renewed_variables os ns params)) made
  summands_fit_renewed whole params [] [] f w z = All-nil (SummandFits h us (renewed_variables os ns params))
  summands_fit_renewed whole params [] (t ∷ made) f w z = absurd z
  summands_fit_renewed whole params (s ∷ ss) [] f w z = absurd z
  summands_fit_renewed whole params (s ∷ ss) (t ∷ made) f w z = All-cons (SummandFits h us (renewed_variables os ns params)) t made
      (summand_fits_renewed whole params s t (All-head (SummandFits h us params) s ss f) (All-head (IsSummandIn us) t made w) z.0)
      (summands_fit_renewed whole params ss made (All-tail (SummandFits h us params) s ss f) (All-tail (IsSummandIn us) t made w) z.1)

  sums_taken_renewed : (ss made : List PlainSummand) → All (λ (s : PlainSummand). All (HasTakenName h) s.sums) ss → AllZip (IsRenewedSummand us us os ns) ss made → All (λ (s : PlainSummand). All (HasTakenName h) s.sums) made
  sums_taken_renewed [] [] f z = All-nil (λ (s : PlainSummand). All (HasTakenName h) s.sums)
  sums_taken_renewed [] (t ∷ made) f z = absurd z
  sums_taken_renewed (s ∷ ss) [] f z = absurd z
  sums_taken_renewed (s ∷ ss) (t ∷ made) f z =
      let P : PlainSummand → Type 0 = λ (x : PlainSummand). All (HasTakenName h) x.sums in
      All-cons P t made (subst (λ xs. All (HasTakenName h) xs) (sym (sums_of_renewed s t z.0)) (all_renewed g h os ns n (HasTakenName h) (taken_renewed g h os ns n) s.sums (All-head P s ss f))) (sums_taken_renewed ss made (All-tail P s ss f) z.1)

  sorts_of_renewed : (xs : List Bound) → sorts (renewed_bounds r xs) ≡ sorts xs
  sorts_of_renewed [] = refl
  sorts_of_renewed (x ∷ xs) = ap (λ ss. x.sort ∷ ss) (sorts_of_renewed xs)

  pub renewed_fits : IsSignature h → (l k : PlainLinear) → Fits h us l → All (IsVariable g) l.params → All (λ (s : PlainSummand). All (IsVariable g) s.sums) l.summands → IsRenewedLinear us us os ns l k → Fits h us k
  renewed_fits whole l k fits ps ss is =
      let means = renewed_means l k fits is in
      let ls = sorts_renewed g h os ns n l.params in
      record {
        params = subst (λ xs. All (IsVariable h) xs) (sym is.params) (all_renewed g h os ns n (IsVariable h) (variable_renewed g h os ns n) l.params fits.params);
        init = subst (λ ts. AreTermsOf h us (map (sort_of_variable h) k.params) ts) (sym is.init) (subst (λ xs. AreTermsOf h us (map (sort_of_variable h) xs) l.init) (sym is.params) (subst (λ zs. AreTermsOf h us zs l.init) (sym ls) fits.init));
        closed = subst (λ ts. HaveSorts (data_meant h) [] (terms_of (map (term_at e) ts)) (sorts (linear_of e k).params)) (sym is.init)
            (subst (λ zs. HaveSorts (data_meant h) [] (terms_of (initial_of e l)) zs) (sym (ap (λ (z : Linear). sorts z.params) means ∙ sorts_of_renewed (linear_of e l).params)) fits.closed);
        summands = subst (λ xs. All (SummandFits h us xs) k.summands) (sym is.params) (summands_fit_renewed whole l.params l.summands k.summands fits.summands is.summands.within is.summands.summands);
        linear = subst (λ z. IsLinear z) (sym means) (renewed_is_linear (data_meant h) (variable_sorts h) (linear_of e l) fits.linear (what_fits_is_sorted h us l whole.table whole.complete fits) r (renews l ps ss)).0;
        taken = subst (λ xs. All (HasTakenName h) xs) (sym is.params) (all_renewed g h os ns n (HasTakenName h) (taken_renewed g h os ns n) l.params fits.taken);
        sums_taken = sums_taken_renewed l.summands k.summands fits.sums_taken is.summands.summands;
      }

-- at the end, where the pool has grown
pub renewed_at_end : (ts us vs : List Tree) (os ns : List VarId) (l k : PlainLinear) → Extends ts us → Extends us vs → All (IsSummandIn ts) l.summands → IsRenewedLinear ts us os ns l k → IsRenewedLinear vs vs os ns l k
renewed_at_end ts us vs os ns l k e f within is = record {
  params = is.params;
  init = is.init;
  summands = record {
    summands = all_at l.summands k.summands within is.summands.within is.summands.summands;
    within = All-weaker (IsSummandIn us) (IsSummandIn vs) (λ s h. summand_in_kept us vs f s h) k.summands is.summands.within;
  };
}
  where
    all_at : (ss made : List PlainSummand) → All (IsSummandIn ts) ss → All (IsSummandIn us) made → AllZip (IsRenewedSummand ts us os ns) ss made → AllZip (IsRenewedSummand vs vs os ns) ss made
    all_at [] [] h w z = tt
    all_at [] (m ∷ made) h w z = absurd z
    all_at (s ∷ ss) [] h w z = absurd z
    all_at (s ∷ ss) (m ∷ made) h w z = (
      summand_kept us vs f m (All-head (IsSummandIn us) m made w) ∙ z.0
          ∙ ap (put_in_summand (renaming_tree os ns) (renewed_variables os ns s.sums)) (sym (summand_kept ts vs (extends_on ts us vs e f) s (All-head (IsSummandIn ts) s ss h))),
      all_at ss made (All-tail (IsSummandIn ts) s ss h) (All-tail (IsSummandIn us) m made w) z.1,
    )

-- what was made of summands of an older pool
pub renewed_since : (ts us vs : List Tree) (os ns : List VarId) (ss made : List PlainSummand) → Extends ts us → All (IsSummandIn ts) ss → AreRenewedSummands us vs os ns ss made → AreRenewedSummands ts vs os ns ss made
renewed_since ts us vs os ns ss made e within is = record { summands = all_since ss made within is.summands; within = is.within }
  where
    all_since : (ss made : List PlainSummand) → All (IsSummandIn ts) ss → AllZip (IsRenewedSummand us vs os ns) ss made → AllZip (IsRenewedSummand ts vs os ns) ss made
    all_since [] [] h z = tt
    all_since [] (m ∷ made) h z = absurd z
    all_since (s ∷ ss) [] h z = absurd z
    all_since (s ∷ ss) (m ∷ made) h z = (z.0 ∙ ap (put_in_summand (renaming_tree os ns) (renewed_variables os ns s.sums)) (summand_kept ts us e s (All-head (IsSummandIn ts) s ss h)), all_since ss made (All-tail (IsSummandIn ts) s ss h) z.1)
