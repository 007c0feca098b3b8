-- Linear processes keep what linear texts write: those of components, of a network, and of a specification.
use Rattle.std.proofs.Common.{◌≡◌, ◌≢◌, ◌≤◌, ⊎_elim, ℕ, List, [], ◌∷◌, ◌++◌, map, take, length, refl, sym, ap, ap₂, ◌∙◌, subst, arith, Option, Some, None}
use Rattle.std.specs.Prelude.{slice_get, option_map, Contains}
use Rattle.std.specs.List.{All, AllZip}
use Rattle.std.proofs.lemmas.List.{take-map, length-map}
use Rattle.std.proofs.lemmas.List.Elements.{All-nil, All-cons, All-head, All-tail, All-take, All-weaker}
use Rattle.std.proofs.lemmas.Option.{slice_get-map}
use Rattle.data_theory.specs.declared.ids.ProcId.{ProcId}
use Rattle.data_theory.specs.declared.ids.TermId.{TermId}
use Rattle.data_theory.specs.Terms.{Sort, Term, variable, put}
use Rattle.data_theory.specs.Declarations.{Data, HaveSorts}
use Rattle.data_theory.specs.Environments.{Environment, term_in, bound, terms_of}
use Rattle.data_theory.specs.Signature.{Sig}
use Rattle.data_theory.specs.WholeSignatures.{IsSignature}
use Rattle.data_theory.specs.IdData.{data_meant}
use Rattle.data_theory.specs.IdTrees.{Tree}
use Rattle.data_theory.specs.IdTerms.{term_under, IsGrown}
use Rattle.data_theory.proofs.EnvironmentLemmas.{closed_terms_stay}
use Rattle.term_pool.specs.Bindings.{listed}
use Rattle.term_pool.specs.HeadTrees.{trees_at}
use Rattle.term_pool.specs.Pools.{PoolContents, Extends}
use Rattle.term_pool.proofs.DeclaredConstants.{grown_itself}
use Rattle.process_terms.specs.declared.components.Component.{Component}
use Rattle.process_terms.specs.Meanings.{Entries, bound_at, term_at, body_of, definition_of, table_of}
use Rattle.process_terms.specs.PlainProcesses.{call, PlainDefinition, PlainModel, PlainComponent, call_of, plain_component}
use Rattle.process_terms.specs.Processes.{Bound, Definition}
use Rattle.process_terms.specs.SignatureEntries.{entries_of, BothGrow}
use Rattle.process_terms.proofs.MeaningLemmas.{all_same}
use Rattle.bisim_laws.specs.LinearProcesses.{Linear, variables, sorts}
use Rattle.graphs.specs.Graphs.{IsPath}
use Rattle.guard_check.specs.declared.calls.Extent.TheVariants.{Everywhere}
use Rattle.guard_check.specs.Calls.{calls, Calls}
use Rattle.lps_core.specs.Fitting.{IsVariable, SummandFits, Fits}
use Rattle.lps_core.specs.Naming.{GrowsByNames, SumsAreNamed}
use Rattle.lps_core.specs.PlainLinears.{PlainLinear, linear_of, initial_of}
use Rattle.lps_core.specs.TreeSummands.{IsSummandIn}
use Rattle.lps_core.proofs.Members.{all_at}
use Rattle.lps_core.proofs.MeantTrees.{puts_mean}
use Rattle.lps_core.proofs.NamedLinears.{naming_stands, fitting_is_in}
use Rattle.lps_core.proofs.PoolTrees.{all_in_kept, trees_kept}
use Rattle.lps_core.proofs.Staying.{terms_are, variable_stays, terms_stay, what_fits_stays}
use Rattle.lps_core.proofs.StayingFits.{closed_terms_fit, what_fits_fits_still}
use Rattle.proc_unfold.specs.FittingModels.{CallFits, ProcessFits, DefinitionFits, ModelFits, ComponentFits}
use Rattle.proc_unfold.specs.Networks.{PlainNetwork, PlainNetworks, leaf, side_by_side}
use Rattle.proc_unfold.specs.Parallel.{HasParallel, HasParallelBody, IsParallelName}
use Rattle.proc_unfold.specs.PutTerms.{ArePut}
use Rattle.greibach.specs.ComponentForms.{arguments_of, IsFormOf}
use Rattle.greibach.specs.FittingForms.{FormFits}
use Rattle.greibach.specs.Forms.{FormEquation}
use Rattle.greibach.specs.LinearShapes.{WrittenSummand, linear_body, with_sums, calls_in, IsKeptSummand, IsKeptLinear, KeepsLinearShape}
use Rattle.greibach.specs.PlainForms.{PlainFormSummand, PlainEquation, PlainForm, call_of as meant_call, form_summand_of, equation_of, form_of}
use Rattle.greibach.specs.Tails.{HasTail, HasTails}
use Rattle.greibach.proofs.AssembledForms.{all_closed_over_none, all_over}
use Rattle.greibach.proofs.GrownFits.{both_by_names}
use Rattle.regular_encoder.specs.EncodedForms.{IsEncodedForm}
use Rattle.regular_encoder.proofs.KeptEquation.{one_equation_is_kept}
use Rattle.lin_driver.specs.KeptTexts.{KeepsDefinition, KeepsModel, KeepsComponent, KeepsNetwork, TakesTheFirst}
use Rattle.lin_driver.specs.Leaves.{leaves}
use Rattle.lin_driver.specs.LinearLeaves.{IsReady, IsLeafOf, AreLeavesMade}
use Rattle.lin_driver.specs.MethodForms.{IsEncodedBy, by_columns, by_stack}
use Rattle.lin_driver.specs.NeededParts.{tidied_linear, TidiesConditions}
use Rattle.lin_driver.specs.Parts.{component_in, IsLinearFor}
use Rattle.lin_driver.specs.SettledNetworks.{KeepsTheCall}
use Rattle.lin_driver.specs.declared.methods.Method.{Method}
use Rattle.lin_driver.specs.declared.methods.Method.TheVariants as method
use Rattle.lin_driver.proofs.GrownModels.{model_grows, component_grows, table_stays}
use Rattle.lin_driver.proofs.KeptScopes.{linear_not_parallel, linear_calls_itself, written_in_scope}
use Rattle.lin_driver.proofs.KeptSteps.{one_equation, encoding_keeps, naming_keeps}
use Rattle.lin_driver.proofs.MadeLeaves.{zip_push}
use Rattle.lin_driver.proofs.TidiedLinears.{tidied_linear_means}

-- ---- over later signatures
some_same : {A : Type 0} {x y : A} → Some x ≡ Some y → x ≡ y
some_same q = cc

definition_at : (e : Entries) (m : PlainModel) (x : ℕ) (d : PlainDefinition) → slice_get m.definitions x ≡ Some d → slice_get (table_of e m.definitions) x ≡ Some (definition_of e d)
definition_at e m x d at = slice_get-map (definition_of e) m.definitions x ∙ ap (option_map (definition_of e)) at

module _ (g h : Sig) (ts us : List Tree) (m : PlainModel) (s : IsSignature g) (grow : BothGrow g h ts us) (fits : ModelFits g ts m) (x : ℕ) (d : PlainDefinition) (at : slice_get m.definitions x ≡ Some d) where
  body_stays : body_of (entries_of h us) d.body ≡ body_of (entries_of g ts) d.body
  body_stays =
      ap (λ (z : Definition). z.body)
      (some_same (sym (definition_at (entries_of h us) m x d at) ∙ ap (λ z. slice_get z x) (table_stays g h ts us s grow m fits) ∙ definition_at (entries_of g ts) m x d at))

  params_stay : map (bound_at (entries_of h us)) d.params ≡ map (bound_at (entries_of g ts)) d.params
  params_stay =
      all_same (IsVariable g) (bound_at (entries_of g ts)) (bound_at (entries_of h us)) (variable_stays g h ts us s.table s.complete grow) d.params
      (all_at (DefinitionFits g ts m.definitions) m.definitions x d fits.definitions at).params

-- the same definition and linear process, where these are equal
same_kept : (ps qs : List Bound) (as_ bs : List Term) (ss : List WrittenSummand) (l k : Linear) (is js : List Term) → ps ≡ qs → as_ ≡ bs → l ≡ k → is ≡ js → KeepsDefinition ps as_ ss l is → KeepsDefinition qs bs ss k js
same_kept ps qs as_ bs ss l k is js p a e i kept =
    subst (λ z. KeepsDefinition qs bs ss k z) i (subst (λ z. KeepsDefinition qs bs ss z is) e (subst (λ z. KeepsDefinition qs z ss l is) a (subst (λ z. KeepsDefinition z as_ ss l is) p kept)))

own_call : (g : Sig) (ts : List Tree) (m : PlainModel) (c : PlainComponent) (x : ProcId) (ids : List TermId) → c ≡ call_of x ids → ComponentFits g ts m.definitions c → CallFits g ts m.definitions [] x ids
own_call g ts m c x ids same own = subst (ComponentFits g ts m.definitions) same own

pub kept_grows : (by : Method) (g h : Sig) (ts us : List Tree) (m : PlainModel) (c : PlainComponent) (l : PlainLinear) → IsSignature g → BothGrow g h ts us → ModelFits g ts m → ComponentFits g ts m.definitions c → Fits g ts l → KeepsComponent by (entries_of g ts) m c l
    → KeepsComponent by (entries_of h us) m c l
kept_grows by g h ts us m c l s grow fits own lfits keeps none x ids d ss same at shape =
    let args = (own_call g ts m c x ids same own).args.terms in
    let stay = what_fits_stays g h ts us l s.table s.complete grow lfits in
    same_kept (map (bound_at (entries_of g ts)) d.params) (map (bound_at (entries_of h us)) d.params) (map (term_at (entries_of g ts)) ids) (map (term_at (entries_of h us)) ids) ss
    (tidied_linear (linear_of (entries_of g ts) l)) (tidied_linear (linear_of (entries_of h us) l)) (initial_of (entries_of g ts) l) (initial_of (entries_of h us) l)
    (sym (params_stay g h ts us m s grow fits x.0 d at)) (sym (terms_stay g h ts us s.table s.complete grow _ ids args)) (ap tidied_linear (sym stay.0)) (sym stay.1)
    (keeps none x ids d ss same at (sym (body_stays g h ts us m s grow fits x.0 d at) ∙ shape))

-- ---- a component
calls_short : (e : Environment) (n : Option (List Term)) → length (calls_in e n) ≤ 1
calls_short e None = omega arith
calls_short e (Some ts) = omega arith

tails_of : (e : Entries) (a : Environment) (ws : List WrittenSummand) (ks : List PlainFormSummand) → AllZip (IsKeptSummand a) ws (map (form_summand_of e) ks) → All HasTail ks
tails_of e a ws [] z = All-nil HasTail
tails_of e a [] (k ∷ ks) z = absurd z
tails_of e a (w ∷ ws) (k ∷ ks) z =
    let kept = z.0 in
    let as_many : length k.next ≡ length (calls_in (with_sums a w.sums (form_summand_of e k).sums) w.next) = sym (length-map k.next (meant_call e)) ∙ ap length kept.next in
    let short = calls_short (with_sums a w.sums (form_summand_of e k).sums) w.next in
    All-cons HasTail k ks (omega (arith, as_many, short)) (tails_of e a ws ks z.1)

-- a form that keeps a definition is tail
kept_is_tail : (e : Entries) (f : PlainForm) (params : List Bound) (ws : List WrittenSummand) → IsKeptLinear params ws (form_of e f) → HasTails f
kept_is_tail e f params ws kept =
    let o = one_equation e kept.equation f.init f.equations kept.one in
    let Tails = λ (q : PlainEquation). All HasTail q.summands in
    let place = bound (variables params) (map variable (variables (equation_of e o.equation).params)) in
    let each : Tails o.equation = tails_of e place ws o.equation.summands (subst (λ (z : FormEquation). AllZip (IsKeptSummand (bound (variables params) (map variable (variables z.params)))) ws z.summands) (sym o.means) kept.summands) in
    subst (All Tails) (sym o.one) (All-cons Tails o.equation [] each (All-nil Tails))

-- so it is encoded with columns
with_columns : (by : Method) (g h : Sig) (p q : PoolContents) (f : PlainForm) (l : PlainLinear) → by ≢ method.Stack → HasTails f → IsEncodedBy by g p h q f l → IsEncodedForm g p h q f l
with_columns by g h p q f l none tails (by_columns unused e) = e
with_columns method.Auto g h p q f l none tails (by_stack used e) = absurd (used tails)
with_columns method.Regular g h p q f l none tails (by_stack used e) = absurd used
with_columns method.Stack g h p q f l none tails (by_stack used e) = absurd (none refl)

pub leaf_kept : (by : Method) (g d h : Sig) (p q r : PoolContents) (m : PlainModel) (c : PlainComponent) (f : PlainForm) (l : PlainLinear) → IsReady g p m → IsLeafOf g p.trees m c → GrowsByNames g d → Extends p.trees q.trees → FormFits d q.trees f → IsFormOf d q.trees m c f
    → KeepsLinearShape d q.trees m c f → IsSignature h → IsGrown d h → Extends q.trees r.trees → IsEncodedBy by d q h r f l → Fits h r.trees l → KeepsComponent by (entries_of h r.trees) m c l
leaf_kept by g d h p q r m c f l ready is_leaf names kept form_fits is linear sh grown kept' encoded lfits none x ids dd ss same at shape =
    let gd = both_by_names g d p.trees q.trees names kept in
    let dh : BothGrow d h q.trees r.trees = record { signature = grown; pool = kept' } in
    let sd = names.stands in
    let fits = model_grows g d p.trees q.trees ready.stands gd m ready.fits in
    let own = own_call d q.trees m c x ids same (component_grows g d p.trees q.trees ready.stands gd m ready.fits c is_leaf.fits) in
    let before : body_of (entries_of d q.trees) dd.body ≡ linear_body x.0 ss = sym (body_stays d h q.trees r.trees m sd dh fits x.0 dd at) ∙ shape in
    let params = map (bound_at (entries_of d q.trees)) dd.params in
    let form : IsKeptLinear params ss (form_of (entries_of d q.trees) f) = linear x ids dd ss same at before in
    let starts : f.init ≡ ids = is.init ∙ ap arguments_of same in
    let one = one_equation_is_kept d h q r f l sd sh form_fits (with_columns by d h q r f l none (kept_is_tail (entries_of d q.trees) f params ss form) encoded) in
    let made = encoding_keeps d h q.trees r.trees f l params ss sd sh grown form_fits lfits one (written_in_scope d q.trees m x.0 dd ss sd fits at before) form in
    same_kept params (map (bound_at (entries_of h r.trees)) dd.params) (map (term_at (entries_of d q.trees)) f.init) (map (term_at (entries_of h r.trees)) ids) ss
    (tidied_linear (linear_of (entries_of h r.trees) l)) (tidied_linear (linear_of (entries_of h r.trees) l)) (initial_of (entries_of h r.trees) l) (initial_of (entries_of h r.trees) l)
    (sym (params_stay d h q.trees r.trees m sd dh fits x.0 dd at)) (ap (map (term_at (entries_of d q.trees))) starts ∙ sym (terms_stay d h q.trees r.trees sd.table sd.complete dh _ ids own.args.terms)) refl refl made

-- ---- one after another
zip_of_three : {A B : Type 0} (P : A → Type 0) (Q R S : A → B → Type 0) → ((x : A) (y : B) → P x → Q x y → R x y → S x y) → (xs : List A) (ys : List B) → All P xs → AllZip Q xs ys → AllZip R xs ys → AllZip S xs ys
zip_of_three P Q R S f [] [] h i j = tt
zip_of_three P Q R S f [] (y ∷ ys) h i j = absurd i
zip_of_three P Q R S f (x ∷ xs) [] h i j = absurd i
zip_of_three P Q R S f (x ∷ xs) (y ∷ ys) h i j = (f x y (All-head P x xs h) i.0 j.0, zip_of_three P Q R S f xs ys (All-tail P x xs h) i.1 j.1)

pub one_more_kept : (by : Method) (g h i : Sig) (p q r : PoolContents) (m : PlainModel) (cs : List PlainComponent) (ls : List PlainLinear) (c : PlainComponent) (l : PlainLinear) → IsReady g p m → All (IsLeafOf g p.trees m) cs → AreLeavesMade by g p h q m cs ls → IsGrown g h → IsGrown h i
    → Extends p.trees q.trees → Extends q.trees r.trees → AllZip (KeepsComponent by (entries_of h q.trees) m) cs ls → KeepsComponent by (entries_of i r.trees) m c l → AllZip (KeepsComponent by (entries_of i r.trees) m) (cs ++ c ∷ []) (ls ++ l ∷ [])
one_more_kept by g h i p q r m cs ls c l ready are_leaves so_far gh hi kept kept' keeps made =
    let both : BothGrow g h p.trees q.trees = record { signature = gh; pool = kept } in
    let on : BothGrow h i q.trees r.trees = record { signature = hi; pool = kept' } in
    zip_push (KeepsComponent by (entries_of i r.trees) m) cs ls c l
    (zip_of_three (IsLeafOf g p.trees m) (λ c l. IsLinearFor h q.trees (component_in (record { signature = g; trees = p.trees; model = m }) c) l) (KeepsComponent by (entries_of h q.trees) m) (KeepsComponent by (entries_of i r.trees) m)
    (λ c l k f w. kept_grows by h i q.trees r.trees m c l so_far.ready.stands on so_far.ready.fits (component_grows g h p.trees q.trees ready.stands both m ready.fits c k.fits) f.fits w) cs ls are_leaves so_far.linears keeps)
    made

pub first_leaves : (P : PlainComponent → Type 0) (xs : List Component) (i : ℕ) → All P (map plain_component xs) → All P (map plain_component (take i xs))
first_leaves P xs i h = subst (All P) (take-map plain_component i xs) (All-take P i (map plain_component xs) h)

-- ---- a network
pub beside_is_no_leaf : (ns : PlainNetworks) (c : PlainComponent) → side_by_side ns ≡ leaf c → ⊥
beside_is_no_leaf ns c e = cc

-- sums that are named
pub named_kept : (by : Method) (g h : Sig) (ts us : List Tree) (m : PlainModel) (c : PlainComponent) (l k : PlainLinear) → IsSignature g → GrowsByNames g h → Extends ts us → ModelFits g ts m → ComponentFits g ts m.definitions c → Fits g ts l → SumsAreNamed g h ts us l k → Fits h us k
    → KeepsComponent by (entries_of g ts) m c l → KeepsComponent by (entries_of h us) m c k
named_kept by g h ts us m c l k s names extends fits own lfits named kfits keeps none x ids d ss same at shape =
    let both = both_by_names g h ts us names extends in
    let e = entries_of h us in
    let now = model_grows g h ts us s both m fits in
    let within = All-weaker (SummandFits h us k.params) (IsSummandIn us) (λ t f. fitting_is_in h us k.params t f) k.summands kfits.summands in
    let stands = naming_stands g h ts us l k s extends lfits named within in
    let before = kept_grows by g h ts us m c l s both fits own lfits keeps none x ids d ss same at shape in
    subst (λ is. KeepsDefinition (map (bound_at e) d.params) (map (term_at e) ids) ss (tidied_linear (linear_of e k)) (map (term_at e) is)) (sym named.init)
    (naming_keeps (linear_of e l) (linear_of e k) (map (bound_at e) d.params) (map (term_at e) ids) (initial_of e l) ss stands.before.linear stands.renews (written_in_scope h us m x.0 d ss names.stands now at shape) before)

-- conditions that are tidied
tidied_kept : (by : Method) (h : Sig) (us vs : List Tree) (m : PlainModel) (x : ProcId) (ids : List TermId) (d : PlainDefinition) (ss : List WrittenSummand) (k t : PlainLinear) → IsSignature h → ModelFits h us m → ComponentFits h us m.definitions (call_of x ids) → Fits h us k
    → Extends us vs → TidiesConditions us vs k t → KeepsComponent by (entries_of h us) m (call_of x ids) k → by ≢ method.Stack → slice_get m.definitions x.0 ≡ Some d → body_of (entries_of h vs) d.body ≡ linear_body x.0 ss
    → KeepsDefinition (map (bound_at (entries_of h vs)) d.params) (map (term_at (entries_of h vs)) ids) ss (linear_of (entries_of h vs) t) (initial_of (entries_of h vs) t)
tidied_kept by h us vs m x ids d ss k t s fits own kfits extends tidies keeps none at shape =
    let e = entries_of h vs in
    let here : BothGrow h h us vs = record { signature = grown_itself h; pool = extends } in
    let later = kept_grows by h h us vs m (call_of x ids) k s here fits own kfits keeps none x ids d ss refl at shape in
    subst (λ is. KeepsDefinition (map (bound_at e) d.params) (map (term_at e) ids) ss (linear_of e t) (map (term_at e) is)) (sym tidies.init)
    (subst (λ z. KeepsDefinition (map (bound_at e) d.params) (map (term_at e) ids) ss z (initial_of e k)) (sym (tidied_linear_means h s us vs extends k t kfits tidies)) later)

pub network_kept : (by : Method) (g d b h : Sig) (p q r : PoolContents) (us vs : List Tree) (m : PlainModel) (n : PlainNetwork) (ls left : List PlainLinear) (l k t : PlainLinear) → IsReady g p m → All (IsLeafOf g p.trees m) (leaves n) → AreLeavesMade by g p d q m (leaves n) ls
    → AllZip (KeepsComponent by (entries_of d q.trees) m) (leaves n) ls → TakesTheFirst n ls left l → IsGrown g d → Extends p.trees q.trees → GrowsByNames d b → Extends q.trees r.trees → GrowsByNames b h → Extends r.trees us
    → SumsAreNamed b h r.trees us l k → Fits h us k → Extends us vs → TidiesConditions us vs k t → KeepsNetwork by (entries_of h vs) m n t
network_kept by g d b h p q r us vs m n ls left l k t ready are_leaves made keeps first gd pq db qr bh ru named kfits uv tidies none x ids dd ss is at shape =
    let c = call_of x ids in
    let alone : leaves n ≡ c ∷ [] = ap leaves is in
    let queue : ls ≡ l ∷ left = first c is in
    let both : BothGrow g d p.trees q.trees = record { signature = gd; pool = pq } in
    let on = both_by_names d b q.trees r.trees db qr in
    let last = both_by_names b h r.trees us bh ru in
    let one = All-head (IsLeafOf g p.trees m) c [] (subst (All (IsLeafOf g p.trees m)) alone are_leaves) in
    let For = λ (c : PlainComponent) (l : PlainLinear). IsLinearFor d q.trees (component_in (record { signature = g; trees = p.trees; model = m }) c) l in
    let lfits = (subst (λ zs. AllZip For (c ∷ []) zs) queue (subst (λ cs. AllZip For cs ls) alone made.linears)).0.fits in
    let own = (subst (λ zs. AllZip (KeepsComponent by (entries_of d q.trees) m) (c ∷ []) zs) queue (subst (λ cs. AllZip (KeepsComponent by (entries_of d q.trees) m) cs ls) alone keeps)).0 in
    let s = made.ready.stands in
    let cfits = component_grows g d p.trees q.trees ready.stands both m ready.fits c one.fits in
    let composed = kept_grows by d b q.trees r.trees m c l s on made.ready.fits cfits lfits own in
    let model_fits = model_grows d b q.trees r.trees s on m made.ready.fits in
    let call_fits = component_grows d b q.trees r.trees s on m made.ready.fits c cfits in
    let with_names = named_kept by b h r.trees us m c l k db.stands bh ru model_fits call_fits (what_fits_fits_still d b q.trees r.trees l s.table s.complete db.stands.table on lfits) named kfits composed in
    tidied_kept by h us vs m x ids dd ss k t bh.stands (model_grows b h r.trees us db.stands last m model_fits) (component_grows b h r.trees us db.stands last m model_fits c call_fits) kfits uv tidies with_names none at shape

-- ---- a specification
-- a definition in the shape of a linear process isn't parallel
module _ (e : Entries) (m : PlainModel) (x : ℕ) (d : PlainDefinition) (ss : List WrittenSummand) (at : slice_get m.definitions x ≡ Some d) (shape : body_of e d.body ≡ linear_body x ss) where
  body_found : (f : Definition) → slice_get (table_of e m.definitions) x ≡ Some f → f.body ≡ linear_body x ss
  body_found f found = ap (λ (z : Definition). z.body) (some_same (sym found ∙ definition_at e m x d at)) ∙ shape

  no_parallel_body : HasParallelBody (table_of e m.definitions) x → ⊥
  no_parallel_body h = linear_not_parallel x ss (subst HasParallel (body_found h.0 h.1) h.2)

  one_call : (y : ℕ) → Calls Everywhere (table_of e m.definitions) x y → x ≡ y
  one_call y h = linear_calls_itself x ss y (subst (λ b. Contains (calls Everywhere b) y) (body_found h.0 h.1) h.2)

  path_stays : (xs : List ℕ) (z y : ℕ) → x ≡ z → IsPath (Calls Everywhere (table_of e m.definitions)) z xs y → x ≡ y
  path_stays [] z y q h = one_call y (subst (λ v. Calls Everywhere (table_of e m.definitions) v y) (sym q) h)
  path_stays (v ∷ xs) z y q h = path_stays xs v y (one_call v (subst (λ w. Calls Everywhere (table_of e m.definitions) w v) (sym q) h.0)) h.1

  never_parallel : IsParallelName (table_of e m.definitions) x → ⊥
  never_parallel h = ⊎_elim no_parallel_body (λ k. no_parallel_body (subst (HasParallelBody (table_of e m.definitions)) (sym (path_stays k.1.0 x k.0 refl k.1.1)) k.2)) h

closed_stay : (g : Data) (ts : List Term) (ss : List Sort) → HaveSorts g [] (terms_of ts) ss → map (put (term_in [])) ts ≡ ts
closed_stay g [] ss h = refl
closed_stay g (t ∷ ts) [] h = absurd h
closed_stay g (t ∷ ts) (s ∷ ss) h = ap₂ (λ u us. u ∷ us) (closed_terms_stay g (term_in []) t s h.0) (closed_stay g ts ss h.1)

-- with nothing put in, the arguments of `init` mean what they meant
arguments_stay : (h : Sig) (ts us : List Tree) (m : PlainModel) (x : ProcId) (ids vs : List TermId) → IsSignature h → ModelFits h us m → Extends ts us → m.init ≡ call x ids → ArePut ts [] ids vs → map (term_at (entries_of h us)) vs ≡ map (term_at (entries_of h us)) ids
arguments_stay h ts us m x ids vs s fits extends starts args =
    let e = entries_of h us in
    let own : CallFits h us m.definitions [] x ids = subst (ProcessFits h us m.definitions []) starts fits.init in
    let d = own.definition in
    let params = (all_at (DefinitionFits h us m.definitions) m.definitions x.0 d fits.definitions own.stands).params in
    let closed : HaveSorts (data_meant h) [] (terms_of (map (term_at e) ids)) (sorts (map (bound_at e) d.params)) =
    closed_terms_fit h us d.params ids s.table params own.args.terms (all_closed_over_none (terms_of (map (term_at e) ids)) (all_over h us [] ids own.args.over)) in
    let before : map (term_at e) ids ≡ map (term_under h) (trees_at ts ids) = terms_are h us ids (all_in_kept ts us ids extends args.read) ∙ ap (map (term_under h)) (trees_kept ts us ids extends args.read) in
    terms_are h us vs (all_in_kept ts us vs extends args.within)
    ∙ ap (map (term_under h)) (trees_kept ts us vs extends args.within ∙ args.trees)
    ∙ puts_mean h s.table (listed ts []) [] (λ v. refl) (trees_at ts ids)
    ∙ ap (map (put (term_in []))) (sym before)
    ∙ closed_stay (data_meant h) (map (term_at e) ids) (sorts (map (bound_at e) d.params)) closed

pub model_kept : (by : Method) (h : Sig) (ts us : List Tree) (m : PlainModel) (n : PlainNetwork) (l : PlainLinear) → IsSignature h → ModelFits h us m → Extends ts us → KeepsTheCall m ts n → KeepsNetwork by (entries_of h us) m n l → KeepsModel by (entries_of h us) m l
model_kept by h ts us m n l s fits extends calls_kept keeps none t =
    let e = entries_of h us in
    let x = t.process in
    let o = calls_kept e x t.arguments t.starts (never_parallel e m x.0 t.definition t.summands t.defined t.shape) in
    let same = arguments_stay h ts us m x t.arguments o.arguments s fits extends t.starts o.put in
    subst (λ as_. KeepsDefinition (map (bound_at e) t.definition.params) as_ t.summands (linear_of e l) (initial_of e l)) same
    (keeps none x o.arguments t.definition t.summands o.is t.defined t.shape)
