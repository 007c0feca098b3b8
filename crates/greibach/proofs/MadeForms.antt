-- The equations of all places that are met make a form that fits.
use Rattle.std.proofs.Common.{◌≡◌, ◌<◌, ◌∙◌, ℕ, List, [], ◌∷◌, ◌++◌, map, length, get_or, refl, sym, ap, subst, arith, Some}
use Rattle.std.specs.Prelude.{slice_get}
use Rattle.std.specs.List.{All, Contains}
use Rattle.std.proofs.lemmas.Option.{slice_get_within, slice_get-get_or}
use Rattle.std.proofs.lemmas.List.Elements.{All-nil}
use Rattle.data_theory.specs.declared.ids.VarId.{VarId}
use Rattle.data_theory.specs.declared.ids.TermId.{TermId}
use Rattle.data_theory.specs.Signature.{Sig}
use Rattle.data_theory.specs.WholeSignatures.{IsSignature}
use Rattle.data_theory.specs.IdTrees.{Tree}
use Rattle.term_pool.specs.HeadTrees.{IsIn}
use Rattle.term_pool.specs.Pools.{Extends}
use Rattle.term_pool.proofs.Lists.{contains_none, contains_head}
use Rattle.process_terms.specs.PlainProcesses.{PlainDefinition, PlainComponent, call_of, term_of}
use Rattle.process_terms.specs.Meanings.{ReadsOnly}
use Rattle.process_terms.specs.SignatureEntries.{entries_of}
use Rattle.lps_core.specs.Fitting.{IsVariable, sort_of_variable}
use Rattle.lps_core.specs.Naming.{GrowsByNames}
use Rattle.lps_core.proofs.NamedSums.{sorts_kept}
use Rattle.proc_unfold.specs.FittingModels.{TermsFit, ComponentFits}
use Rattle.greibach.specs.ComponentForms.{arguments_of}
use Rattle.greibach.specs.MeetingOrder.{Meets, none_met, met_before, met_now}
use Rattle.greibach.specs.FittingForms.{FormFits}
use Rattle.greibach.specs.PlainForms.{PlainEquation}
use Rattle.greibach.specs.PlacesInCode.{PlainPlace, PlainPlaces}
use Rattle.greibach.specs.FittingPlaces.{AreAmong, PlaceFits, PlacesFit, PlacesFitSince, StartsAt}
use Rattle.greibach.specs.Surroundings.{AreEquations, FormMade}
use Rattle.lps_core.proofs.Members.{all_at}
use Rattle.greibach.proofs.FittingHeads.{place_fits}
use Rattle.greibach.proofs.GrownFits.{both_by_names, terms_grow, variables_grow}
use Rattle.greibach.proofs.AssembledForms.{form_fits}

pub nothing_mapped : {A B : Type 0} (f : A → B) (xs : List A) → map f xs ≡ [] → xs ≡ []
nothing_mapped f [] e = refl
nothing_mapped f (x ∷ xs) e = cc

nothing_among : (xs : List VarId) → AreAmong xs [] → xs ≡ []
nothing_among [] h = refl
nothing_among (x ∷ xs) h = absurd (contains_none x.0 (h x.0 (contains_head x.0 (map (λ (z : VarId). z.0) xs))))

same_some : {A : Type 0} {x y : A} → Some x ≡ Some y → x ≡ y
same_some e = cc

-- the arguments with which a component starts have the sorts of the parameters there
pub first_fit : (g h : Sig) (ts us : List Tree) (t : PlainPlaces) (ds : List PlainDefinition) (c : PlainComponent) (n : PlainEquation) (p : PlainPlace) → IsSignature g → GrowsByNames g h → Extends ts us → All (IsVariable g) p.params → StartsAt ds c t → ComponentFits g ts ds c → slice_get t.places t.start ≡ Some p
    → map (sort_of_variable h) n.params ≡ map (sort_of_variable h) p.params → TermsFit h us [] (map (sort_of_variable h) n.params) (arguments_of c)
first_fit g h ts us t ds (call_of x ids) n p sg w e vs s f at sorts =
    let d : f.definition ≡ s.0 = same_some (sym f.stands ∙ s.1) in
    let q : p ≡ s.2 = same_some (sym at ∙ s.3) in
    let params : f.definition.params ≡ p.params = ap (λ (z : PlainDefinition). z.params) d ∙ sym (ap (λ (z : PlainPlace). z.params) q ∙ s.4) in
    let old : TermsFit g ts [] (map (sort_of_variable g) p.params) ids = subst (λ l. TermsFit g ts [] (map (sort_of_variable g) l) ids) params f.args in
    let now = terms_grow g h ts us sg (both_by_names g h ts us w e) [] (map (sort_of_variable g) p.params) ids old in
    subst (λ ss. TermsFit h us [] ss ids) (sym (sorts ∙ sorts_kept g h p.params w.grown vs)) now
first_fit g h ts us t ds (term_of b) n p sg w e vs s f at sorts =
    let q : p ≡ s.place = same_some (sym at ∙ s.stands) in
    let none : p.params ≡ [] = nothing_among p.params (subst (λ (z : PlainPlace). AreAmong z.params []) (sym q) s.among) in
    subst (λ ss. TermsFit h us [] ss []) (sym (sorts ∙ ap (map (sort_of_variable h)) none)) (record { terms = record { within = All-nil (IsIn us); sorted = tt }; over = All-nil (ReadsOnly (entries_of h us) []) })

pub made_fit : (g h : Sig) (ts us : List Tree) (t : PlainPlaces) (ds : List PlainDefinition) (c : PlainComponent) (qs : List PlainEquation) (init : List TermId) → IsSignature g → GrowsByNames g h → Extends ts us → PlacesFit g ts t → StartsAt ds c t → ComponentFits g ts ds c → FormMade h us t qs → init ≡ arguments_of c
    → FormFits h us (record { equations = qs; init = init })
made_fit g h ts us t ds c qs init sg w e fit s f made is =
    let l = slice_get_within made.met 0 t.start made.starts in
    let all = made.all in
    let first : PlainEquation = get_or qs 0 (record { params = []; summands = [] }) in
    let at : slice_get qs 0 ≡ Some first = slice_get-get_or qs 0 (record { params = []; summands = [] }) (omega (arith, l, all)) in
    let r = made.equations 0 first at in
    let place : r.0 ≡ t.start = same_some (sym r.1 ∙ made.starts) in
    let there : slice_get t.places t.start ≡ Some r.2.place = ap (slice_get t.places) (sym place) ∙ r.2.stands in
    let vs = (all_at (PlaceFits g ts fit.definitions fit.reached t.places) t.places t.start r.2.place fit.places there).params in
    subst (λ z. FormFits h us (record { equations = qs; init = z })) (sym is)
    (form_fits h w.stands made.names us t.places made.met qs made.equations made.all (arguments_of c) first at (first_fit g h ts us t ds c first r.2.place sg w e vs s f there r.2.sorts))

-- ---- the places of a table
pub start_within : (t : PlainPlaces) (ds : List PlainDefinition) (c : PlainComponent) → StartsAt ds c t → t.start < length t.places
start_within t ds (call_of x ids) s = slice_get_within t.places t.start s.2 s.3
start_within t ds (term_of p) s = slice_get_within t.places t.start s.place s.stands

pub params_of_signature : (g : Sig) (ts : List Tree) (t : PlainPlaces) → PlacesFitSince g ts t → (n : ℕ) (p : PlainPlace) → slice_get t.places n ≡ Some p → All (IsVariable g) p.params
params_of_signature g ts t since n p e = variables_grow since.old g since.trees ts since.signature since.grown p.params (place_fits g ts t since [] n p e).params

pub first_met : (p : ℕ) {ks ls : List ℕ} → Meets ks (p ∷ []) ls → ks ≡ [] → slice_get ls 0 ≡ Some p
first_met p (met_before i none_met) e = absurd (contains_none p (subst (λ l. Contains l p) e i))
first_met p (met_now n none_met) e = subst (λ l. slice_get (l ++ p ∷ []) 0 ≡ Some p) (sym e) refl

pub no_equations : (g : Sig) (ts : List Tree) (ps : List PlainPlace) (met : List ℕ) (qs : List PlainEquation) → qs ≡ [] → AreEquations g ts ps met qs
no_equations g ts ps met [] e k q at = cc
no_equations g ts ps met (r ∷ qs) e k q at = cc
