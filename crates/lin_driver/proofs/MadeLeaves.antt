-- Components one after another get their linear processes.
use Rattle.std.proofs.Common.{◌≡◌, ◌<◌, ◌+◌, ◌-◌, ℕ, List, [], ◌∷◌, ◌++◌, map, take, length, get_or, refl, sym, ap, ap₂, subst, ◌∙◌, Some, arith}
use Rattle.std.specs.Prelude.{slice_get, IfErr, IsErrAnd, Result, Ok, Err}
use Rattle.std.specs.List.{All, AllZip}
use Rattle.std.specs.Option.{option_map}
use Rattle.std.proofs.lemmas.List.{map_more, take-map}
use Rattle.std.proofs.lemmas.Option.{slice_get-map, slice_get-get_or}
use Rattle.std.proofs.lemmas.List.Elements.{All-nil, All-push}
use Rattle.data_theory.specs.Signature.{Sig}
use Rattle.data_theory.specs.WholeSignatures.{IsSignature}
use Rattle.data_theory.specs.IdTrees.{Tree}
use Rattle.data_theory.specs.IdTerms.{IsGrown}
use Rattle.data_theory.specs.IdData.{data_meant}
use Rattle.data_theory.specs.Declarations.{NoSortIsEmpty}
use Rattle.data_theory.proofs.IdGrowthLemmas.{growth_after_growth_is_growth}
use Rattle.term_pool.specs.Pools.{PoolContents, Extends}
use Rattle.term_pool.specs.Constants.{AreConstants}
use Rattle.process_terms.specs.declared.components.Component.{Component}
use Rattle.process_terms.specs.PlainProcesses.{PlainModel, PlainComponent, plain_component}
use Rattle.process_terms.specs.Processes.{Process, call, close}
use Rattle.process_terms.specs.Meanings.{term_at, table_of}
use Rattle.process_terms.specs.SignatureEntries.{entries_of, BothGrow}
use Rattle.bisim_laws.specs.Links.{Link, Then, Form}
use Rattle.lps_core.specs.GoingOn.{IsGoodOver}
use Rattle.lps_core.specs.PlainLinears.{PlainLinear, linear_state}
use Rattle.lps_core.specs.Naming.{GrowsByNames}
use Rattle.lps_core.proofs.Members.{all_at}
use Rattle.lps_core.proofs.PoolTrees.{extends_on}
use Rattle.lps_core.proofs.Staying.{terms_stay}
use Rattle.proc_unfold.specs.FittingModels.{ModelFits, ComponentFits}
use Rattle.greibach.specs.ComponentForms.{IsFormOf, IsBisimilarForm}
use Rattle.greibach.specs.FittingForms.{FormFits}
use Rattle.greibach.specs.Forms.{form_table}
use Rattle.greibach.specs.PlainForms.{PlainForm, form_of}
use Rattle.greibach.proofs.GrownFits.{both_by_names}
use Rattle.greibach.proofs.StayingForms.{forms_stay}
use Rattle.regular_encoder.specs.declared.faults.EncodeFault.{EncodeFault}
use Rattle.regular_encoder.specs.declared.faults.EncodeFault.TheVariants as encode
use Rattle.lps_printer.specs.GrowingByAdditions.{nothing_added}
use Rattle.lps_printer.proofs.GrowingByAdditions.{additions_follow, no_actions_follow, additions_grow}
use Rattle.lin_driver.specs.Faults.{fault_of_encode, IsModelFaultBy}
use Rattle.lin_driver.specs.LinearLeaves.{IsReady, IsLeafOf, HasTailForm, IsLeafMade, AreLeavesMade, IsLeafFaultOf, IsLeavesFaultOf}
use Rattle.lin_driver.specs.MethodForms.{LeadsFromForm, IsMethodFaultOf, IsTailFor}
use Rattle.lin_driver.specs.declared.methods.Method.{Method}
use Rattle.lin_driver.specs.declared.methods.Method.TheVariants.{Regular}
use Rattle.lin_driver.specs.Parts.{Origin, IsLinearFor, component_in}
use Rattle.lin_driver.specs.declared.fault.ModelFault.{ModelFault}
use Rattle.lin_driver.specs.declared.fault.ModelFault.TheVariants.{Net, Guard, NotTail, NoMemory}
use Rattle.lin_driver.proofs.Links.{then_over}
use Rattle.lin_driver.proofs.GrownModels.{model_grows, component_grows, table_stays, component_stays}
use Rattle.lin_driver.proofs.StayingLinears.{both_additions, names_are_additions, names_add_no_actions, linear_stays, zip_weaker}

-- ---- a component over a later signature
component_kept : (g h : Sig) (ts us : List Tree) (m : PlainModel) (c : PlainComponent) → IsSignature g → BothGrow g h ts us → ModelFits g ts m → ComponentFits g ts m.definitions c
    → component_in (record { signature = h; trees = us; model = m }) c ≡ component_in (record { signature = g; trees = ts; model = m }) c
component_kept g h ts us m c s grow fits k = ap₂ (λ d b. close d [] b) (table_stays g h ts us s grow m fits) (component_stays g h ts us s grow m fits c k)

pub leaf_grows : (g h : Sig) (ts us : List Tree) (m : PlainModel) → IsSignature g → BothGrow g h ts us → ModelFits g ts m → (c : PlainComponent) → IsLeafOf g ts m c → IsLeafOf h us m c
leaf_grows g h ts us m s grow fits c k = record { fits = component_grows g h ts us s grow m fits c k.fits; sequential = k.sequential; own = k.own }

-- ---- from a component by its form and the form's encoding
-- g is the signature before, a that of the form and h that of the encoding
pub record LinksOver (h : Sig) (us : List Tree) (p : Process) (l : PlainLinear) : Type 0 where
  pub link : Link
  pub good : IsGoodOver h link p (linear_state (entries_of h us) l)

pub component_linked : (g a h : Sig) (ts as_ us : List Tree) (m : PlainModel) (c : PlainComponent) (f : PlainForm) (l : PlainLinear) → IsSignature g → IsSignature a → IsSignature h → BothGrow g a ts as_ → BothGrow a h as_ us
    → ModelFits g ts m → ComponentFits g ts m.definitions c → FormFits a as_ f → IsBisimilarForm a as_ m c f → LeadsFromForm a h us f l → LinksOver h us (component_in (record { signature = g; trees = ts; model = m }) c) l
component_linked g a h ts as_ us m c f l sg sa sh ga ah fits k form_fits form leads =
    let ea = entries_of a as_ in
    let eh = entries_of h us in
    let forms = form_table (form_of ea f) in
    let forms' = form_table (form_of eh f) in
    let k1 = Form (table_of ea m.definitions) form.0 forms in
    let start = component_in (record { signature = a; trees = as_; model = m }) c in
    let q = call forms 0 (map (term_at ea) f.init) in
    let q' = call forms' 0 (map (term_at eh) f.init) in
    let end = linear_state eh l in
    let same_call : q ≡ q' = ap₂ (λ d us. call d 0 us) (ap form_table (sym (forms_stay a h as_ us f sa.table sa.complete ah form_fits))) (sym (terms_stay a h as_ us sa.table sa.complete ah _ f.init form_fits.init)) in
    let same_start : start ≡ component_in (record { signature = g; trees = ts; model = m }) c = component_kept g a ts as_ m c sg ga fits k in
    record { link = Then k1 leads.link; good = subst (λ z. IsGoodOver h (Then k1 leads.link) z end) same_start (then_over a h sa sh ah.signature k1 leads.link start q q' end same_call form.1 leads.bisimilar) }

pub leaf_made : (method : Method) (g d h : Sig) (p q r : PoolContents) (m : PlainModel) (c : PlainComponent) (f : PlainForm) (l : PlainLinear) → IsReady g p m → IsLeafOf g p.trees m c → GrowsByNames g d → Extends p.trees q.trees
    → FormFits d q.trees f → IsFormOf d q.trees m c f → IsBisimilarForm d q.trees m c f → IsSignature h → NoSortIsEmpty (data_meant h) → IsGrown d h → Extends q.trees r.trees
    → AreConstants h r.constants → LeadsFromForm d h r.trees f l → IsTailFor method f → IsLeafMade method g p h r m c l
leaf_made method g d h p q r m c f l ready leaf w kept form_fits form good sh inhabited grown kept' constants leads tails =
    let gd = both_by_names g d p.trees q.trees w kept in
    let dh : BothGrow d h q.trees r.trees = record { signature = grown; pool = kept' } in
    let gh : BothGrow g h p.trees r.trees = record { signature = growth_after_growth_is_growth g d h w.grown grown; pool = extends_on p.trees q.trees r.trees kept kept' } in
    let links = component_linked g d h p.trees q.trees r.trees m c f l ready.stands w.stands sh gd dh ready.fits leaf.fits form_fits good leads in
    record {
      grows = additions_follow g d h (names_are_additions g d ready.stands w) leads.grows;
      no_actions = no_actions_follow g d h (names_are_additions g d ready.stands w) leads.grows (names_add_no_actions g d ready.stands w) leads.no_actions;
      ready = record { stands = sh; fits = model_grows g h p.trees r.trees ready.stands gh m ready.fits; inhabited = inhabited; constants = constants; names = leads.names };
      tail = λ regular. record { signature = d; trees = q.trees; form = f; is = form; tails = tails regular };
      linear = record { fits = leads.fits; params = leads.params; link = links.link; bisimilar = links.good };
    }

-- ---- one after another
pub none_made : (method : Method) (g : Sig) (p : PoolContents) (m : PlainModel) → IsReady g p m → AreLeavesMade method g p g p m [] []
none_made method g p m ready = record { grows = nothing_added; no_actions = refl; ready = ready; tails = λ regular. All-nil (HasTailForm m); linears = tt }

pub zip_push : {A B : Type 0} (R : A → B → Type 0) (xs : List A) (ys : List B) (x : A) (y : B) → AllZip R xs ys → R x y → AllZip R (xs ++ x ∷ []) (ys ++ y ∷ [])
zip_push R [] [] x y k r = (r, tt)
zip_push R [] (z ∷ ys) x y k r = absurd k
zip_push R (z ∷ xs) [] x y k r = absurd k
zip_push R (z ∷ xs) (w ∷ ys) x y k r = (k.0, zip_push R xs ys x y k.1 r)

pub one_more_made : (method : Method) (g h i : Sig) (p q r : PoolContents) (m : PlainModel) (cs : List PlainComponent) (ls : List PlainLinear) (c : PlainComponent) (l : PlainLinear) → IsReady g p m → IsLeafOf g p.trees m c → Extends p.trees q.trees → Extends q.trees r.trees
    → AreLeavesMade method g p h q m cs ls → IsLeafMade method h q i r m c l → AreLeavesMade method g p i r m (cs ++ c ∷ []) (ls ++ l ∷ [])
one_more_made method g h i p q r m cs ls c l ready leaf kept kept' so_far made =
    let s = so_far.ready.stands in
    let gh : BothGrow g h p.trees q.trees = record { signature = additions_grow g ready.stands so_far.grows; pool = kept } in
    let hi : BothGrow h i q.trees r.trees = record { signature = additions_grow h s made.grows; pool = kept' } in
    let before : Origin = record { signature = g; trees = p.trees; model = m } in
    let IsFor = λ (c : PlainComponent) (l : PlainLinear). IsLinearFor i r.trees (component_in before c) l in
    record {
      grows = additions_follow g h i so_far.grows made.grows;
      no_actions = no_actions_follow g h i so_far.grows made.grows so_far.no_actions made.no_actions;
      ready = made.ready;
      tails = λ regular. All-push (HasTailForm m) cs c (so_far.tails regular) (made.tail regular);
      linears = zip_push IsFor cs ls c l
          (zip_weaker (λ c l. IsLinearFor h q.trees (component_in before c) l) IsFor (λ c l. linear_stays h i q.trees r.trees (both_additions h i q.trees r.trees s made.grows hi) (component_in before c) l) cs ls so_far.linears)
          (subst (λ z. IsLinearFor i r.trees z l) (component_kept g h p.trees q.trees m c ready.stands gh ready.fits leaf.fits) made.linear);
    }

-- ---- why there is none
pub leaf_fault : (method : Method) (g : Sig) (ts : List Tree) (m : PlainModel) (c : PlainComponent) (f : PlainForm) (number : ℕ) (fault : EncodeFault) (given : ModelFault) → IsFormOf g ts m c f → IsMethodFaultOf method f fault → given ≡ fault_of_encode number fault
    → IsLeafFaultOf m c number given
leaf_fault method g ts m c f number (encode.NotTail k) given is has same = subst (IsLeafFaultOf m c number) (sym same) (refl, record { signature = g; trees = ts; form = f; is = is; first = has.1 })
leaf_fault method g ts m c f number encode.NoMemory given is has same = subst (IsLeafFaultOf m c number) (sym same) tt

pub fault_by : (method : Method) (f : PlainForm) (number : ℕ) (fault : EncodeFault) (given : ModelFault) → IsMethodFaultOf method f fault → given ≡ fault_of_encode number fault → IsModelFaultBy method given
fault_by method f number (encode.NotTail k) given has same = subst (IsModelFaultBy method) (sym same) has.0
fault_by method f number encode.NoMemory given has same = subst (IsModelFaultBy method) (sym same) tt

-- those in front have tail forms
pub leaves_fault : (method : Method) (m : PlainModel) (xs : List Component) (i : ℕ) (x : Component) (given : ModelFault) → i < length xs → x ≡ get_or xs i x → (method ≡ Regular → All (HasTailForm m) (map plain_component (take i xs))) → IsModelFaultBy method given → IsLeafFaultOf m (plain_component x) (i + 1) given
    → IsLeavesFaultOf m (map plain_component xs) given
leaves_fault method m xs i x (Net fault) l is tails by has = has
leaves_fault method m xs i x (Guard fault) l is tails by has = has
leaves_fault method m xs i x (NotTail number summand) l is tails by has =
    let before : number - 1 ≡ i = omega (arith, has.0) in
    record {
      from_one = omega (arith, has.0);
      component = plain_component x;
      stands = ap (slice_get (map plain_component xs)) before ∙ slice_get-map plain_component xs i ∙ ap (option_map plain_component) (slice_get-get_or xs i x l ∙ ap (λ z. Some z) (sym is));
      form = has.1;
      earlier = subst (λ k. All (HasTailForm m) (take k (map plain_component xs))) (sym before) (subst (All (HasTailForm m)) (sym (take-map plain_component i xs)) (tails by));
    }
leaves_fault method m xs i x NoMemory l is tails by has = has

-- from the function that finds it on
pub passed_on : {T : Type 0} (P : ModelFault → Type 0) (r : Result T ModelFault) (fault : ModelFault) → P fault → IsErrAnd r (λ given. given ≡ fault) → IfErr r P
passed_on P (Ok x) fault has same = absurd same
passed_on P (Err given) fault has same = subst P (sym same) has

-- ---- the components of a slice
pub one_of_slice : (P : PlainComponent → Type 0) (xs : List Component) (i : ℕ) (x : Component) → i < length xs → x ≡ get_or xs i x → All P (map plain_component xs) → P (plain_component x)
one_of_slice P xs i x l is all = all_at P (map plain_component xs) i (plain_component x) all (slice_get-map plain_component xs i ∙ ap (option_map plain_component) (slice_get-get_or xs i x l ∙ ap (λ z. Some z) (sym is)))

pub slice_more : (xs : List Component) (i : ℕ) (x : Component) → i < length xs → x ≡ get_or xs i x → map plain_component (take (i + 1) xs) ≡ map plain_component (take i xs) ++ plain_component x ∷ []
slice_more xs i x l is = map_more plain_component xs i x l ∙ ap (λ z. map plain_component (take i xs) ++ plain_component z ∷ []) (sym is)
