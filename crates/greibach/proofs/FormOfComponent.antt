-- The form that is made of a component's table is the form of the component.
use Rattle.std.proofs.Common.{◌≡◌, inl, ℕ, suc, List, [], ◌∷◌, map, refl, sym, ap, ap₂, ◌∙◌, subst, Some}
use Rattle.std.specs.Prelude.{slice_get}
use Rattle.data_theory.proofs.PlaceLemmas.{contains_read, read_contained}
use Rattle.data_theory.specs.declared.ids.ProcId.{ProcId}
use Rattle.data_theory.specs.declared.ids.TermId.{TermId}
use Rattle.data_theory.specs.Environments.{terms_of, AreDistinct}
use Rattle.data_theory.specs.Signature.{Sig}
use Rattle.data_theory.specs.WholeSignatures.{IsSignature}
use Rattle.data_theory.specs.IdData.{data_meant}
use Rattle.data_theory.specs.IdTrees.{Tree}
use Rattle.process_terms.specs.PlainProcesses.{PlainDefinition, PlainModel, PlainComponent, call_of, term_of}
use Rattle.process_terms.specs.Meanings.{term_at, table_of, component_body}
use Rattle.process_terms.specs.SignatureEntries.{entries_of, BothGrow}
use Rattle.bisim_laws.specs.LinearProcesses.{variables, AreDeclared}
use Rattle.bisim_laws.specs.BaseStates.{Piece}
use Rattle.proc_unfold.specs.Parallel.{IsSequential}
use Rattle.proc_unfold.specs.FittingModels.{ModelFits, ComponentFits, DefinitionFits}
use Rattle.lps_core.specs.Fitting.{sort_of_variable, AreTermsOf}
use Rattle.lps_core.proofs.Members.{all_at, contains_map, map_contains}
use Rattle.lps_core.proofs.NamedSums.{sorts_kept}
use Rattle.lps_core.proofs.StayingFits.{closed_terms_fit}
use Rattle.greibach.specs.PlainForms.{PlainEquation}
use Rattle.greibach.specs.Places.{IsSortedBody}
use Rattle.greibach.specs.ComponentForms.{text_of, start_of, arguments_of, StartFits, IsFormOf}
use Rattle.greibach.specs.MeetingOrder.{Collects}
use Rattle.greibach.specs.Scopes.{HaveOwnVariables}
use Rattle.greibach.specs.PlacesInCode.{PlainPlace, PlainEntry, PlainPlaces}
use Rattle.greibach.specs.TablesRead.{ReadsTable, reads_called, reads_entry, IsTableOf}
use Rattle.greibach.specs.MadeEquations.{MakesAll}
use Rattle.greibach.proofs.AssembledForms.{all_over, all_closed_over_none}
use Rattle.greibach.proofs.CollectedEquations.{collect_all}
use Rattle.greibach.proofs.ComponentViews.{IsSeen, table_seen}
use Rattle.greibach.proofs.FormsOfComponents.{among_at}
use Rattle.greibach.proofs.GrownFits.{terms_grow, variables_grow}
use Rattle.greibach.proofs.ReadPlaces.{still_read}
use Rattle.greibach.proofs.Views.{View}
use Rattle.greibach.proofs.ViewedHeads.{spot, spot_is, BeginsEquation}

some_same : {A : Type 0} {x y : A} → Some x ≡ Some y → x ≡ y
some_same q = cc

first_process : {ts : List Tree} {ds : List PlainDefinition} {x : ProcId} {ids : List TermId} {ps : List PlainPlace} {rs : List ProcId} {es : List PlainEntry} {first : ℕ} → ReadsTable ts ds (call_of x ids) ps rs es first → slice_get rs 0 ≡ Some x
first_process (reads_called at only first) = at
first_process {x = x} (reads_entry {rs = rs} {ss = ss} y d n prev at stands b r w) = still_read rs ss 0 x r (first_process prev)

module _ (g h : Sig) (ts us : List Tree) (sg : IsSignature g) (sh : IsSignature h) (grow : BothGrow g h ts us) (m : PlainModel) (fit : ModelFits g ts m) where
  -- where it starts
  record StartsThere (c : PlainComponent) (views : List View) (n : ℕ) : Type 0 where
    begins : BeginsEquation views n
    is : spot views n ≡ start_of c

  starts_there : (c : PlainComponent) (t : PlainPlaces) (k : IsTableOf ts m.definitions c t) (sequential : IsSequential (table_of (entries_of h us) m.definitions) (component_body (entries_of h us) c)) (own : HaveOwnVariables (table_of (entries_of h us) m.definitions) (component_body (entries_of h us) c))
      → (s : IsSeen g h ts us sg sh grow m.definitions fit.definitions c k.reached k.unique t.places sequential own t) → StartsThere c s.views t.start
  starts_there (call_of x ids) t k sequential own s =
      let at = first_process k.table in
      let entry = s.known.called 0 x at in
      let y = s.known.entries 0 entry.0 entry.1 in
      let same : entry.0.process ≡ x = some_same (sym y.process ∙ at) in
      let there : slice_get s.views t.start ≡ Some y.view = ap (slice_get s.views) (k.first entry.0 entry.1) ∙ y.at in
      record { begins = record { view = y.view; at = there; is = inl y.all }; is = spot_is s.views t.start y.view there ∙ ap₂ (λ o p. record { owner = o; path = p }) (y.owner ∙ ap (λ (z : ProcId). suc z.0) same) y.path }
  starts_there (term_of p) t k sequential own s = record { begins = record { view = _; at = s.starts; is = inl refl }; is = spot_is s.views t.start _ s.starts }

  start_fits : (c : PlainComponent) (t : PlainPlaces) (k : IsTableOf ts m.definitions c t) → ComponentFits g ts m.definitions c → StartFits h us m.definitions (map (λ (x : ProcId). x.0) k.reached) c
  start_fits (call_of x ids) t k f =
      let d = f.definition in
      let dfit = all_at (DefinitionFits g ts m.definitions) m.definitions x.0 d fit.definitions f.stands in
      let theirs = variables_grow g h ts us sg grow d.params dfit.params in
      let now = terms_grow g h ts us sg grow [] (map (sort_of_variable g) d.params) ids f.args in
      let args : AreTermsOf h us (map (sort_of_variable h) d.params) ids = subst (λ ss. AreTermsOf h us ss ids) (sym (sorts_kept g h d.params grow.signature dfit.params)) now.terms in (
        d,
        f.stands,
        closed_terms_fit h us d.params ids sh.table theirs args (all_closed_over_none (terms_of (map (term_at (entries_of h us)) ids)) (all_over h us [] ids now.over)),
        map_contains (λ (y : ProcId). y.0) k.reached x (contains_read k.reached 0 x (first_process k.table)),
      )
  start_fits (term_of p) t k f = tt

  pub form_of_component : (c : PlainComponent) (t : PlainPlaces) (qs : List PlainEquation) (init : List TermId) → ComponentFits g ts m.definitions c → IsSequential (table_of (entries_of h us) m.definitions) (component_body (entries_of h us) c) → HaveOwnVariables (table_of (entries_of h us) m.definitions) (component_body (entries_of h us) c)
      → IsTableOf ts m.definitions c t → MakesAll (entries_of h us) t qs → init ≡ arguments_of c → IsFormOf h us m c (record { equations = qs; init = init })
  form_of_component c t qs init f sequential own k made is =
      let e = entries_of h us in
      let s : IsSeen g h ts us sg sh grow m.definitions fit.definitions c k.reached k.unique t.places sequential own t = table_seen g h ts us sg sh grow m.definitions fit.definitions c k.reached k.unique t.places sequential own t.start t.entries k.table f k.all in
      let start = starts_there c t k sequential own s in
      let numbers = map (λ (x : ProcId). x.0) k.reached in
      let all = collect_all e k.reached s.views (data_meant h) (text_of e m.definitions numbers c) t s.known s.apart t.start qs made.met made.makes start.begins made.all in
      record {
        reached = numbers;
        equations = all.forms;
        last = map (spot s.views) made.met;
        definitions = λ x p at i.
            let r = contains_map (λ (y : ProcId). y.0) k.reached x i in
            let place = read_contained k.reached r.0 r.1.0 in
            let entry = s.known.called place.0 r.0 place.1 in
            let y = s.known.entries place.0 entry.0 entry.1 in
            let same : entry.0.process ≡ r.0 = some_same (sym y.process ∙ place.1) in
            let number : entry.0.process.0 ≡ x = ap (λ (z : ProcId). z.0) same ∙ sym r.1.1 in
            let piece : y.piece ≡ p = some_same (sym y.stands ∙ ap (slice_get (text_of e m.definitions numbers c).definitions) number ∙ at) in
            let found = s.known.long entry.0.place y.view y.at in
            let v = s.known.places entry.0.place found.0 found.1 in
            let view : v.view ≡ y.view = some_same (sym v.at ∙ y.at) in
            let scoped = v.scoped in
            let params : v.view.scope ≡ p.params = ap (λ (z : View). z.scope) view ∙ sym y.params ∙ ap (λ (z : Piece). z.params) piece in
            let body : v.view.body ≡ p.body = ap (λ (z : View). z.body) view ∙ sym y.body ∙ ap (λ (z : Piece). z.body) piece in
            let among = among_at (text_of e m.definitions numbers c).definitions x p at in (
              ap₂ (λ ps b. record { params = ps; body = b }) among.0 among.1,
              subst (λ b. IsSortedBody (data_meant h) (text_of e m.definitions numbers c) (variables p.params) b) body (subst (λ ps. IsSortedBody (data_meant h) (text_of e m.definitions numbers c) (variables ps) v.view.body) params scoped.body),
              subst (λ ps. AreDeclared (text_of e m.definitions numbers c).variables ps) params scoped.declared,
              subst (λ ps. AreDistinct (variables ps)) params scoped.distinct,
            );
        start = start_fits c t k f;
        collects = subst (λ p. Collects (data_meant h) (text_of e m.definitions numbers c) (p ∷ []) 0 all.forms (map (spot s.views) made.met)) start.is all.collects;
        form = all.same;
        init = is;
      }
