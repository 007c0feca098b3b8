-- A definition in the shape of a linear process is kept as its form is encoded, and as sums are named.
use Rattle.std.proofs.Common.{◌≡◌, ◌==◌, ℕ, true, false, cond, List, [], ◌∷◌, map, length, refl, sym, ap, ap₂, ◌∙◌, subst, Option, Some, None}
use Rattle.std.specs.Prelude.{slice_get, option_map, Contains}
use Rattle.std.specs.List.{All, AllZip, AllByRecursion}
use Rattle.std.proofs.lemmas.List.{append-nil, length-map}
use Rattle.std.proofs.lemmas.List.Elements.{All-head, All-tail, All-weaker}
use Rattle.data_theory.specs.declared.ids.VarId.{VarId}
use Rattle.data_theory.specs.declared.ids.TermId.{TermId}
use Rattle.data_theory.specs.Table.{bool_sort}
use Rattle.data_theory.specs.Terms.{Term, variable as var, put}
use Rattle.data_theory.specs.Environments.{Environment, term_in, bound, Apart, AreDistinct}
use Rattle.data_theory.specs.Signature.{Sig}
use Rattle.data_theory.specs.WholeSignatures.{IsSignature}
use Rattle.data_theory.specs.IdTrees.{Tree, variable, put_tree}
use Rattle.data_theory.specs.IdTerms.{sort_under, term_under, IsGrown, IsTreeWithin}
use Rattle.data_theory.proofs.IdTermLemmas.{sorted_trees_are_within}
use Rattle.term_pool.specs.HeadTrees.{tree_at, trees_at}
use Rattle.process_terms.specs.Labels.{put_label}
use Rattle.process_terms.specs.Processes.{Bound}
use Rattle.process_terms.specs.Meanings.{Entries, bound_at, term_at, label_of}
use Rattle.process_terms.specs.SignatureEntries.{entries_of, BothGrow}
use Rattle.process_terms.specs.Communication.{conjunction_of}
use Rattle.bisim_laws.specs.BaseStates.{GreibachCall}
use Rattle.bisim_laws.specs.LinearProcesses.{Summand, Linear, variables, sorts, put_next, IsSummand, IsLinear}
use Rattle.bisim_laws.proofs.Firing.{contains_first, contains_later}
use Rattle.lps_core.specs.Conditions.{parts, without_true, joined}
use Rattle.lps_core.specs.Fitting.{IsActionOf, SummandFits, Fits, sort_of_variable}
use Rattle.lps_core.specs.Moving as moving
use Rattle.lps_core.specs.Moving.{SameSorts, no_more, one_more, renaming_to, HaveOtherSums, no_summand, one_summand, RenewsSums}
use Rattle.lps_core.specs.PlainLinears.{PlainLinear, summand_of, linear_of, initial_of}
use Rattle.lps_core.specs.TreeConditions.{tree_parts, trees_without_true}
use Rattle.lps_core.specs.TreeSummands.{trees_of_summand, IsActionIn, IsSummandIn, renaming_tree, numbers_of, meant_summand}
use Rattle.lps_core.proofs.Members.{all_at, all_from, map_contains}
use Rattle.lps_core.proofs.MeantParts.{parts_mean_parts, chains_mean_chains}
use Rattle.lps_core.proofs.MeantTrees.{Means, put_means, puts_mean, label_means, numbers_meant, renaming_means, summands_read}
use Rattle.lps_core.proofs.NamedLinears.{fitting_is_in}
use Rattle.lps_core.proofs.NamedSums.{sorts_kept}
use Rattle.lps_core.proofs.PoolTrees.{extends_itself}
use Rattle.lps_core.proofs.PutWithin.{put_within}
use Rattle.lps_core.proofs.Renewing.{same_long}
use Rattle.lps_core.proofs.Staying.{term_is, terms_are, sorts_of_variables, terms_stay}
use Rattle.greibach.specs.Forms.{FormSummand, FormEquation, IsFormEquation}
use Rattle.greibach.specs.FittingForms.{CallFits, FormSummandFits, EquationFits, FormFits}
use Rattle.greibach.specs.LinearShapes.{WrittenSummand, with_sums, conditions_in, calls_in, IsKeptSummand, IsKeptLinear}
use Rattle.greibach.specs.PlainForms.{PlainFormSummand, PlainEquation, PlainForm, call_of, form_summand_of, equation_of, form_of}
use Rattle.greibach.proofs.StayingForms.{forms_stay}
use Rattle.regular_encoder.specs.EncodedForms.{called_with, kept_summand, IsTheEquation, OneEquationIsKept}
use Rattle.regular_encoder.proofs.FormsInPlace.{form_fits_still}
use Rattle.lin_driver.specs.KeptTexts.{condition_in, KeepsSummand, KeepsDefinition}
use Rattle.lin_driver.specs.NeededParts.{tidied, tidied_summand, tidied_linear}
use Rattle.lin_driver.proofs.KeptConditions.{tidied_when_joined, bound_variables_are}
use Rattle.lin_driver.proofs.KeptVariables.{IsInScope, parameters_through, sums_through, renamed_read, apart_read, summand_moved}

sorts_long : (xs ys : List Bound) → sorts xs ≡ sorts ys → length (variables xs) ≡ length (variables ys)
sorts_long xs ys e = length-map xs (λ (x : Bound). x.var) ∙ sym (length-map xs (λ (x : Bound). x.sort)) ∙ ap length e ∙ length-map ys (λ (x : Bound). x.sort) ∙ sym (length-map ys (λ (x : Bound). x.var))

bounds_long : (xs ys : List Bound) → sorts xs ≡ sorts ys → length xs ≡ length ys
bounds_long xs ys e = sym (length-map xs (λ (x : Bound). x.sort)) ∙ ap length e ∙ length-map ys (λ (x : Bound). x.sort)

-- ---- a form's summand as one of a linear process
abbrev next_of : List GreibachCall → Option (List Term)
next_of [] = None
next_of (c ∷ cs) = Some c.args

abbrev summand_in : FormSummand → Summand
summand_in k = record { sums = k.sums; condition = k.condition; label = k.label; next = next_of k.next }

calls_next : (e : Environment) (n : Option (List Term)) → next_of (calls_in e n) ≡ put_next e n
calls_next e None = refl
calls_next e (Some ts) = refl

conditions_left : (e : Environment) (c : Option Term) → tidied (joined (conditions_in e c)) ≡ condition_in e c
conditions_left e None = refl
conditions_left e (Some c) = tidied_when_joined (put (term_in e) c)

form_summand_kept : (e : Environment) (s : WrittenSummand) (k : FormSummand) → IsKeptSummand e s k → KeepsSummand e s (tidied_summand (summand_in k))
form_summand_kept e s k h = record {
  same_sorts = h.same_sorts;
  condition = ap tidied h.condition ∙ conditions_left (with_sums e s.sums k.sums) s.condition;
  label = h.label;
  next = ap next_of h.next ∙ calls_next (with_sums e s.sums k.sums) s.next;
}

-- ---- what an encoded summand means
renaming_within : (g : Sig) (xs ys : List VarId) (v : VarId) → IsTreeWithin g (renaming_tree xs ys v)
renaming_within g [] ys v = tt
renaming_within g (x ∷ xs) [] v = tt
renaming_within g (x ∷ xs) (y ∷ ys) v = elim (x.0 == v.0) as (λ b. IsTreeWithin g (cond b (variable y) (renaming_tree xs ys v))) [ true ↦ tt | false ↦ renaming_within g xs ys v ]

-- a form's summand with other parameters
abbrev renamed : List VarId → List VarId → Summand → Summand
renamed xs ys k = record {
  sums = k.sums;
  condition = joined (put (term_in (renaming_to (numbers_of xs) (numbers_of ys))) k.condition ∷ []);
  label = put_label (renaming_to (numbers_of xs) (numbers_of ys)) k.label;
  next = put_next (renaming_to (numbers_of xs) (numbers_of ys)) k.next;
}

module _ (g : Sig) (ts : List Tree) (f : PlainForm) (s : IsSignature g) (xs ys : List VarId) where
  calls_mean : (cs : List (ℕ × List TermId)) → All (CallFits g ts f) cs
      → option_map (map (term_under g)) (called_with (renaming_tree xs ys) ts cs) ≡ put_next (renaming_to (numbers_of xs) (numbers_of ys)) (next_of (map (call_of (entries_of g ts)) cs))
  calls_mean [] k = refl
  calls_mean (c ∷ cs) k =
      let r = renaming_to (numbers_of xs) (numbers_of ys) in
      ap Some (puts_mean g s.table (renaming_tree xs ys) r (renaming_means g xs ys) (trees_at ts c.1) ∙ ap (map (put (term_in r))) (sym (terms_are g ts c.1 (All-head (CallFits g ts f) c cs k).args.within)))

  summand_means : (k : PlainFormSummand) → FormSummandFits g ts f k → meant_summand g (kept_summand (renaming_tree xs ys) ts k) ≡ renamed xs ys (summand_in (form_summand_of (entries_of g ts) k))
  summand_means k fits =
      let e = renaming_tree xs ys in
      let r = renaming_to (numbers_of xs) (numbers_of ys) in
      let t = tree_at ts k.condition in
      let within = put_within g s.complete e (renaming_within g xs ys) t (sorted_trees_are_within g s.table t bool_sort fits.condition.sorted) in
      let means : Means g e r = renaming_means g xs ys in
      let label = All-weaker (IsActionOf g ts) (IsActionIn ts) (λ a i. i.args.within) k.label fits.label in
      let condition : term_under g (kept_summand e ts k).condition ≡ joined (put (term_in r) (term_at (entries_of g ts) k.condition) ∷ []) =
      chains_mean_chains g s.table s.complete (trees_without_true (tree_parts (put_tree e t)))
      ∙ ap conjunction_of (parts_mean_parts g s.table s.complete (put_tree e t) within)
      ∙ ap (λ z. conjunction_of (without_true (parts z))) (put_means g s.table e r means t ∙ ap (put (term_in r)) (sym (term_is g ts k.condition fits.condition.within)))
      ∙ ap (λ l. conjunction_of (without_true l)) (sym (append-nil (parts (put (term_in r) (term_at (entries_of g ts) k.condition))))) in
      ap₂ (λ c m. record { sums = map (bound_at (entries_of g ts)) k.sums; condition = c; label = m; next = option_map (map (term_under g)) (called_with e ts k.next) }) condition (label_means g s.table e r means ts k.label label)
      ∙ ap (λ n. record { sums = map (bound_at (entries_of g ts)) k.sums; condition = joined (put (term_in r) (term_at (entries_of g ts) k.condition) ∷ []); label = put_label r (label_of (entries_of g ts) k.label); next = n }) (calls_mean k.next fits.next)

-- ---- the summands of an encoding
module _ (g : Sig) (ts : List Tree) (f : PlainForm) (s : IsSignature g) (ps : List ℕ) (xs ys : List VarId) (as_many : length (numbers_of ys) ≡ length (numbers_of xs)) (params_long : length (numbers_of xs) ≡ length ps) (distinct : AreDistinct (numbers_of xs)) where
  abbrev e : Entries
  e = entries_of g ts

  abbrev r : Environment
  r = renaming_to (numbers_of xs) (numbers_of ys)

  abbrev before : Environment
  before = bound ps (map var (numbers_of xs))

  abbrev after : Environment
  after = bound ps (map var (numbers_of ys))

  abbrev IsApart : PlainFormSummand → Type 0
  IsApart k = Apart (variables (map (bound_at (entries_of g ts)) k.sums)) (numbers_of xs)

  renamed_keeps : (w : WrittenSummand) (k : PlainFormSummand) → IsInScope ps w → IsApart k → KeepsSummand before w (tidied_summand (summand_in (form_summand_of e k))) → KeepsSummand after w (tidied_summand (renamed xs ys (summand_in (form_summand_of e k))))
  renamed_keeps w k scope apart kept =
      let sums = map (bound_at (entries_of g ts)) k.sums in
      let c = put (term_in r) (term_at (entries_of g ts) k.condition) in
      summand_moved ps before after r w (summand_in (form_summand_of e k)) (renamed xs ys (summand_in (form_summand_of e k))) scope (bound_variables_are (numbers_of xs) (numbers_of ys)) refl
      (sums_through r w.sums sums sums ps before after (bounds_long sums w.sums kept.same_sorts) (apart_read (numbers_of xs) (numbers_of ys) (variables sums) as_many apart)
      (parameters_through r ps (numbers_of xs) (numbers_of ys) params_long (renamed_read (numbers_of xs) (numbers_of ys) as_many distinct)))
      (tidied_when_joined c) refl refl kept

  pub each_keeps : (ws : List WrittenSummand) (ks : List PlainFormSummand) → AllByRecursion (IsInScope ps) ws → All (FormSummandFits g ts f) ks → All IsApart ks → AllZip (IsKeptSummand before) ws (map (form_summand_of e) ks)
      → AllZip (KeepsSummand after) ws (map tidied_summand (map (meant_summand g) (map (kept_summand (renaming_tree xs ys) ts) ks)))
  each_keeps [] [] scope fits apart z = tt
  each_keeps [] (k ∷ ks) scope fits apart z = absurd z
  each_keeps (w ∷ ws) [] scope fits apart z = absurd z
  each_keeps (w ∷ ws) (k ∷ ks) scope fits apart z = (
    subst (λ z. KeepsSummand after w (tidied_summand z)) (sym (summand_means g ts f s xs ys k (All-head (FormSummandFits g ts f) k ks fits)))
        (renamed_keeps w k scope.0 (All-head IsApart k ks apart) (form_summand_kept before w (form_summand_of e k) z.0)),
    each_keeps ws ks scope.1 (All-tail (FormSummandFits g ts f) k ks fits) (All-tail IsApart k ks apart) z.1,
  )

-- ---- a form of one equation
pub record IsOne (e : Entries) (f : PlainForm) (q : FormEquation) : Type 0 where
  pub equation : PlainEquation
  pub one : f.equations ≡ equation ∷ []
  pub means : equation_of e equation ≡ q

pub one_equation : (e : Entries) (q : FormEquation) (init : List TermId) (qs : List PlainEquation) → map (equation_of e) qs ≡ q ∷ [] → IsOne e (record { equations = qs; init = init }) q
one_equation e q init [] h = cc
one_equation e q init (p ∷ []) h = record { equation = p; one = refl; means = (let same : equation_of e p ≡ q = cc in same) }
one_equation e q init (p ∷ p' ∷ qs) h = cc

module _ (g : Sig) (ts us : List Tree) (f : PlainForm) (l : PlainLinear) (s : IsSignature g) (params : List Bound) (ws : List WrittenSummand) (scope : AllByRecursion (IsInScope (variables params)) ws) where
  over_one_signature : FormFits g ts f → Fits g us l → (q : PlainEquation) → f.equations ≡ q ∷ [] → map (sort_of_variable g) l.params ≡ map (sort_of_variable g) q.params → map (trees_of_summand us) l.summands ≡ map (kept_summand (renaming_tree q.params l.params) ts) q.summands
      → sorts (equation_of (entries_of g ts) q).params ≡ sorts params
      → AllZip (IsKeptSummand (bound (variables params) (map var (variables (equation_of (entries_of g ts) q).params)))) ws (equation_of (entries_of g ts) q).summands
      → AllZip (KeepsSummand (bound (variables params) (map var (variables (linear_of (entries_of g us) l).params)))) ws (map tidied_summand (linear_of (entries_of g us) l).summands)
  over_one_signature fits lfits q one same_sorts summands written kept =
      let e = entries_of g ts in
      let ps = variables params in
      let xs = q.params in
      let ys = l.params in
      let at : slice_get f.equations 0 ≡ Some q = ap (λ qs. slice_get qs 0) one in
      let own = all_at (EquationFits g ts f) f.equations 0 q fits.equations at in
      let is : IsFormEquation (form_of e f) (equation_of e q) = fits.form 0 (equation_of e q) (ap (λ qs. slice_get (map (equation_of e) qs) 0) one) in
      let distinct : AreDistinct (numbers_of xs) = subst AreDistinct (numbers_meant g ts xs) is.distinct in
      let many : length (numbers_of ys) ≡ length (numbers_of xs) = length-map ys (λ (x : VarId). x.0) ∙ sym (length-map ys (sort_of_variable g)) ∙ ap length same_sorts ∙ length-map xs (sort_of_variable g) ∙ sym (length-map xs (λ (x : VarId). x.0)) in
      let long : length (numbers_of xs) ≡ length ps = ap length (sym (numbers_meant g ts xs)) ∙ sorts_long (equation_of e q).params params written in
      let apart = all_from (λ (k : PlainFormSummand). Apart (variables (map (bound_at e) k.sums)) (numbers_of xs)) q.summands
      (λ k i. subst (Apart (variables (map (bound_at e) k.sums))) (numbers_meant g ts xs) (is.summands (form_summand_of e k) (map_contains (form_summand_of e) q.summands k i)).apart) in
      let each = each_keeps g ts f s ps xs ys many long distinct ws q.summands scope own.summands apart (subst (λ v. AllZip (IsKeptSummand (bound ps (map var v))) ws (map (form_summand_of e) q.summands)) (numbers_meant g ts xs) kept) in
      let read : map (summand_of (entries_of g us)) l.summands ≡ map (meant_summand g) (map (kept_summand (renaming_tree xs ys) ts) q.summands) =
      summands_read g us l.summands (All-weaker (SummandFits g us l.params) (IsSummandIn us) (λ t k. fitting_is_in g us l.params t k) l.summands lfits.summands) ∙ ap (map (meant_summand g)) summands in
      subst (λ v. AllZip (KeepsSummand (bound ps (map var v))) ws (map tidied_summand (map (summand_of (entries_of g us)) l.summands))) (sym (numbers_meant g us ys))
      (subst (λ ss. AllZip (KeepsSummand (bound ps (map var (numbers_of ys)))) ws (map tidied_summand ss)) (sym read) each)

-- the encoding keeps what the form keeps
pub encoding_keeps : (g h : Sig) (ts us : List Tree) (f : PlainForm) (l : PlainLinear) (params : List Bound) (ws : List WrittenSummand) → IsSignature g → IsSignature h → IsGrown g h → FormFits g ts f → Fits h us l → OneEquationIsKept g ts h us f l
    → AllByRecursion (IsInScope (variables params)) ws → IsKeptLinear params ws (form_of (entries_of g ts) f) → KeepsDefinition params (map (term_at (entries_of g ts)) f.init) ws (tidied_linear (linear_of (entries_of h us) l)) (initial_of (entries_of h us) l)
encoding_keeps g h ts us f l params ws sg sh grown fits lfits keeps scope kept =
    let e = entries_of h ts in
    let both : BothGrow g h ts ts = record { signature = grown; pool = extends_itself ts } in
    let later = form_fits_still g h ts ts f sg.table sg.complete sh.table both fits in
    let now : IsKeptLinear params ws (form_of e f) = subst (IsKeptLinear params ws) (sym (forms_stay g h ts ts f sg.table sg.complete both fits)) kept in
    let o = one_equation e now.equation f.init f.equations now.one in
    let q = o.equation in
    let is : IsTheEquation g ts h us q f.init l = keeps q o.one in
    let at : slice_get f.equations 0 ≡ Some q = ap (λ qs. slice_get qs 0) o.one in
    let own = all_at (EquationFits g ts f) f.equations 0 q fits.equations at in
    let theirs = all_at (EquationFits h ts f) f.equations 0 q later.equations at in
    let same : map (sort_of_variable h) l.params ≡ map (sort_of_variable h) q.params = is.sorts ∙ sym (sorts_kept g h q.params grown own.params) in
    let written : sorts (equation_of e q).params ≡ sorts params = ap (λ (z : FormEquation). sorts z.params) o.means ∙ now.same_sorts in
    record {
      same_sorts = sorts_of_variables h us l.params lfits.params ∙ ap (map (sort_under h)) same ∙ sym (sorts_of_variables h ts q.params theirs.params) ∙ written;
      starts = terms_are h us l.init lfits.init.within ∙ ap (map (term_under h)) is.starts ∙ sym (terms_are h ts f.init later.init.within) ∙ terms_stay g h ts ts sg.table sg.complete both (map (sort_of_variable g) fits.first.params) f.init fits.init;
      summands = over_one_signature h ts us f l sh params ws scope later lfits q o.one same is.summands written
          (subst (λ (z : FormEquation). AllZip (IsKeptSummand (bound (variables params) (map var (variables z.params)))) ws z.summands) (sym o.means) now.summands);
    }

-- ---- as sums are named
sorts_same : {xs ys : List Bound} → SameSorts xs ys → sorts ys ≡ sorts xs
sorts_same no_more = refl
sorts_same (one_more e k) = ap₂ (λ s ss. s ∷ ss) (sym e) (sorts_same k)

module _ (ps : List ℕ) (params : List Bound) (params_long : length (variables params) ≡ length ps) where
  abbrev place : Environment
  place = bound ps (map var (variables params))

  renewed_keeps : {ks ms : List Summand} → HaveOtherSums ks ms → (ws : List WrittenSummand) → AllByRecursion (IsInScope ps) ws → ((k : Summand) → Contains ks k → IsSummand params k) → AllZip (KeepsSummand place) ws (map tidied_summand ks) → AllZip (KeepsSummand place) ws (map tidied_summand ms)
  renewed_keeps no_summand [] scope is z = tt
  renewed_keeps no_summand (w ∷ ws) scope is z = absurd z
  renewed_keeps (one_summand ys same h) [] scope is z = absurd z
  renewed_keeps (one_summand {s = k} {ss = ks} {ts = ms} ys same h) (w ∷ ws) scope is z =
      let own = is k (contains_first k ks) in
      let r = renaming_to (variables k.sums) (variables ys) in
      let long = same_long same in (
        summand_moved ps place place r w k (moving.with_sums ys k) scope.0 (bound_variables_are (variables k.sums) (variables ys)) (sorts_same same)
            (sums_through r w.sums k.sums ys ps place place (bounds_long k.sums w.sums z.0.same_sorts) (renamed_read (variables k.sums) (variables ys) long own.distinct)
            (parameters_through r ps (variables params) (variables params) params_long (apart_read (variables k.sums) (variables ys) (variables params) long (λ v i j. own.apart v j i))))
            refl refl refl z.0,
        renewed_keeps h ws scope.1 (λ m i. is m (contains_later k m ks i)) z.1,
      )

pub naming_keeps : (l k : Linear) (params : List Bound) (arguments initial : List Term) (ws : List WrittenSummand) → IsLinear l → RenewsSums l k → AllByRecursion (IsInScope (variables params)) ws → KeepsDefinition params arguments ws (tidied_linear l) initial → KeepsDefinition params arguments ws (tidied_linear k) initial
naming_keeps l k params arguments initial ws is renews scope kept = record {
  same_sorts = ap sorts renews.params ∙ kept.same_sorts;
  starts = kept.starts;
  summands = subst (λ zs. AllZip (KeepsSummand (bound (variables params) (map var (variables zs)))) ws (map tidied_summand k.summands)) (sym renews.params)
      (renewed_keeps (variables params) l.params (sorts_long l.params params kept.same_sorts) renews.summands ws scope is.summands kept.summands);
}
