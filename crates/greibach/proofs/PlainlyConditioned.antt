-- The form of a component is plainly conditioned.
use Rattle.std.proofs.Common.{◌≡◌, ℕ, List, [], ◌∷◌, ◌++◌, map, Some, refl, sym, subst}
use Rattle.std.specs.Prelude.{Contains, slice_get}
use Rattle.std.proofs.lemmas.List.Elements.{Contains-append_left, Contains-append_right}
use Rattle.data_theory.specs.Terms.{Sort, Term, Terms, variable, numeral, unknown, application, none, more}
use Rattle.data_theory.specs.Declarations.{Data, argument_sorts, HasSort, HaveSorts}
use Rattle.data_theory.specs.Environments.{term_in, bound, bound_variables, terms_of, IsOver, AreOver}
use Rattle.data_theory.specs.Signature.{Sig}
use Rattle.data_theory.specs.IdData.{data_meant}
use Rattle.data_theory.specs.IdTerms.{variable_sorts}
use Rattle.data_theory.proofs.EnvironmentLemmas.{closed_terms_stay}
use Rattle.term_pool.specs.Pools.{PoolContents}
use Rattle.process_terms.specs.PlainProcesses.{PlainModel, PlainComponent, call_of, term_of}
use Rattle.process_terms.specs.Processes.{Bound, seq_of}
use Rattle.process_terms.specs.Meanings.{Entries, bound_at, term_at, component_body}
use Rattle.process_terms.specs.SignatureEntries.{entries_of}
use Rattle.bisim_laws.specs.LinearProcesses.{variables, sorts, AreDeclared}
use Rattle.bisim_laws.proofs.Firing.{contains_first, contains_later, contains_none}
use Rattle.lps_core.specs.MadeTerms.{Written, written_in, WasAnswered, Origin, origin_of, a_variable, of_a_call, AreMade, none_made, more_made, IsInstance, an_instance}
use Rattle.lps_core.proofs.Members.{In, here, there, in_map, contains_in, contains_map, mapped_at}
use Rattle.greibach.specs.Forms.{FormSummand, FormEquation, FormIsSorted}
use Rattle.greibach.specs.PlainForms.{PlainForm, form_of}
use Rattle.greibach.specs.PlainTerms.{FormSummandIsPlain}
use Rattle.greibach.specs.PlainComponents.{written_from, FormsOfComponentsArePlain}
use Rattle.greibach.specs.Places.{Place, Factor, bodies, Text, IsSortedBody}
use Rattle.greibach.specs.Unfolding.{Head}
use Rattle.greibach.specs.UnfoldedForms.{UnfoldedEquation, IsUnfoldedEquation, numbered_call, summand_with, equation_with}
use Rattle.greibach.specs.MeetingOrder.{number_in}
use Rattle.greibach.specs.ComponentForms.{arguments_of, text_of, IsFormOf}
use Rattle.greibach.proofs.FormsOfComponents.{among_at}
use Rattle.greibach.proofs.NumberedPlaces.{equations}
use Rattle.greibach.proofs.StayingForms.{forms_are_sorted}
use Rattle.greibach.proofs.PlainParts.{joined_plain}
use Rattle.greibach.proofs.WrittenParts.{IsWithin, AreWritten, place_written, definition_written, owner_written, component_written}
use Rattle.greibach.proofs.PlainHeads.{HasMadeTerms, are_bound, HeadIsPlain, heads_plain}

-- ---- closed arguments
mutual
  closed_over : (g : Data) (t : Term) (s : Sort) → HasSort g [] t s → IsOver [] t
  closed_over g (variable v) s h = absurd h
  closed_over g (numeral a z) s h = tt
  closed_over g (unknown d k) s h = tt
  closed_over g (application f ts) s h = all_closed_over g ts (argument_sorts g f) h.1

  all_closed_over : (g : Data) (ts : Terms) (ss : List Sort) → HaveSorts g [] ts ss → AreOver [] ts
  all_closed_over g none ss h = tt
  all_closed_over g (more t ts) [] h = absurd h
  all_closed_over g (more t ts) (s ∷ ss) h = (closed_over g t s h.0, all_closed_over g ts ss h.1)

-- a closed term is an instance of itself
closed_instance : (o : Origin) (u : Term) (s : Sort) → HasSort o.declared [] u s → IsInstance o [] [] u u
closed_instance o u s h = subst (λ z. IsInstance o [] [] u z) (closed_terms_stay o.declared (term_in []) u s h) (an_instance [] [] (closed_over o.declared u s h) (λ x i. absurd (contains_none x i)) tt none_made)

closed_made : (o : Origin) (us : List Term) (ss : List Sort) → HaveSorts o.declared [] (terms_of us) ss → ((t : Term) → Contains us t → Contains o.written.call_arguments t) → AreMade o [] [] us
closed_made o [] ss h f = none_made
closed_made o (u ∷ us) [] h f = absurd h
closed_made o (u ∷ us) (s ∷ ss) h f = more_made (of_a_call (f u (contains_first u us)) (closed_instance o u s h.0)) (closed_made o us ss h.1 (λ t i. f t (contains_later u t us i)))

starts_made : (o : Origin) (e : Entries) (c : PlainComponent) (ss : List Sort) → HaveSorts o.declared [] (terms_of (map (term_at e) (arguments_of c))) ss → IsWithin (written_in (component_body e c)) o.written → AreMade o [] [] (map (term_at e) (arguments_of c))
starts_made o e (call_of x ids) ss h w = closed_made o (map (term_at e) ids) ss h w.call_arguments
starts_made o e (term_of p) ss h w = none_made

-- ---- an equation's own parameters
params_made : (o : Origin) (ps all : List Bound) (xs : List Bound) → ((x : Bound) → Contains xs x → Contains all x) → AreMade o ps all (map variable (variables xs))
params_made o ps all [] w = none_made
params_made o ps all (x ∷ xs) w = more_made (a_variable {x = x} (w x (contains_first x xs))) (params_made o ps all xs (λ y i. w y (contains_later x y xs i)))

params_sorted : (g : Data) (vs : List Sort) (xs : List Bound) → AreDeclared vs xs → HaveSorts g vs (terms_of (map variable (variables xs))) (sorts xs)
params_sorted g vs [] d = tt
params_sorted g vs (x ∷ xs) d = (d x (contains_first x xs), params_sorted g vs xs (λ y i. d y (contains_later x y xs i)))

-- each factor of a composition is sorted
each_sorted : (g : Data) (t : Text) (xs : List ℕ) (f : Factor) (fs : List Factor) → IsSortedBody g t xs (seq_of (bodies (f ∷ fs))) → (r : Factor) → In r (f ∷ fs) → IsSortedBody g t xs r.body
each_sorted g t xs f [] h _ here = h
each_sorted g t xs f [] h r (there i) = elim i [ ]
each_sorted g t xs f (k ∷ ks) h _ here = h.0
each_sorted g t xs f (k ∷ ks) h r (there i) = each_sorted g t xs k ks h.1 r i

summand_plain : (o : Origin) (number : Place → ℕ) (ps : List Bound) (h : Head) → HeadIsPlain o ps (h.sums ++ ps) h → FormSummandIsPlain o ps (summand_with number h)
summand_plain o number ps h p = record {
  sums = p.sums;
  condition = joined_plain o [] ps (h.sums ++ ps) h.conditions p.conditions;
  label = p.label;
  next = λ a i. let r = in_map (numbered_call number) h.next (contains_in (map (numbered_call number) h.next) i) in subst (λ z. AreMade o ps (h.sums ++ ps) z.args) (sym r.2) (p.next r.0 r.1);
}

module _ (g : Sig) (q : PoolContents) (m : PlainModel) (c : PlainComponent) (f : PlainForm) (is : IsFormOf g q.trees m c f) where
  abbrev e : Entries
  e = entries_of g q.trees

  abbrev t : Text
  t = text_of (entries_of g q.trees) m.definitions is.reached c

  abbrev w : Written
  w = written_from (entries_of g q.trees) m c

  abbrev o : Origin
  o = origin_of g q w []

  head_plain : (k : UnfoldedEquation) → IsUnfoldedEquation (data_meant g) t k → AreDeclared (variable_sorts g) k.params → (h : Head) → In h k.heads → AreDeclared (variable_sorts g) h.sums → HeadIsPlain o k.params (h.sums ++ k.params) h
  head_plain k u d h i a =
      let piece = t.piece k.place in
      let terms = map variable (variables k.params) in
      let written : AreWritten w (u.first ∷ u.others) = subst (λ fs. AreWritten w fs) u.at (place_written w t k.place (owner_written e m.definitions is.reached c k.place.owner)) in
      let sorted : IsSortedBody (data_meant g) t (variables piece.params) (seq_of (bodies (u.first ∷ u.others))) = subst (λ b. IsSortedBody (data_meant g) t (variables piece.params) b) u.body u.sorted_body in
      let made : HasMadeTerms o k.params (h.sums ++ k.params) (bound (variables piece.params) terms) = record {
        vars = piece.params;
        terms = terms;
        is = refl;
        declared = u.declared;
        sorted = subst (λ ss. HaveSorts (data_meant g) (variable_sorts g) (terms_of terms) ss) u.same_sorts (params_sorted (data_meant g) (variable_sorts g) k.params d);
        made = params_made o k.params (h.sums ++ k.params) k.params (λ x j. Contains-append_right h.sums k.params x j);
      } in
      let vars : bound_variables (bound (variables piece.params) terms) ≡ variables piece.params = are_bound o k.params (h.sums ++ k.params) (bound (variables piece.params) terms) made in
      heads_plain (data_meant g) t w (WasAnswered g q) [] k.params (h.sums ++ k.params) is.definitions (λ x y at. definition_written e m.definitions (component_body e c) x y (among_at t.definitions x y at).1) u.unfolds
      (record {
        made = made;
        sorted_body = subst (λ l. IsSortedBody (data_meant g) t l u.first.body) (sym vars) (each_sorted (data_meant g) t (variables piece.params) u.first u.others sorted u.first here);
        sorted_rest = λ r j. subst (λ l. IsSortedBody (data_meant g) t l r.body) (sym vars) (each_sorted (data_meant g) t (variables piece.params) u.first u.others sorted r (there j));
        written = written u.first here;
        written_rest = λ r j. written r (there j);
      })
      h i (λ x j. (Contains-append_left h.sums k.params x j, a x j))

  form_plain : FormIsSorted (data_meant g) (variable_sorts g) (form_of e f) → (i : ℕ) (k : FormEquation) (s : FormSummand) → slice_get (form_of e f) i ≡ Some k → Contains k.summands s → FormSummandIsPlain o k.params s
  form_plain sorted i k s at among =
      let number = number_in is.last in
      let r = mapped_at (equation_with number) is.equations i k (subst (λ z. slice_get z i ≡ Some k) is.form at) in
      let same : k ≡ equation_with number r.0 = r.1.1 in
      let found = contains_map (summand_with number) r.0.heads s (subst (λ (z : FormEquation). Contains z.summands s) same among) in
      let same_summand : s ≡ summand_with number found.0 = found.1.1 in
      let fits = sorted i k at in
      let params : AreDeclared (variable_sorts g) r.0.params = subst (λ (z : FormEquation). AreDeclared (variable_sorts g) z.params) same fits.params in
      let sums : AreDeclared (variable_sorts g) found.0.sums = subst (λ (z : FormSummand). AreDeclared (variable_sorts g) z.sums) same_summand (fits.summands s among).sums in
      let plain : FormSummandIsPlain o r.0.params (summand_with number found.0) =
      summand_plain o number r.0.params found.0 (head_plain r.0 (equations is.collects i r.0 r.1.0) params found.0 (contains_in r.0.heads found.1.0) sums) in
      subst (λ (z : FormEquation). FormSummandIsPlain o z.params s) (sym same) (subst (λ z. FormSummandIsPlain o r.0.params z) (sym same_summand) plain)

pub forms_of_components_plain : FormsOfComponentsArePlain
forms_of_components_plain g q m c f table complete fits is =
    let e = entries_of g q.trees in
    let o : Origin = origin_of g q (written_from e m c) [] in
    let ss = sorts (map (bound_at e) fits.first.params) in
    record {
      starts = subst (λ ids. AreMade o [] [] (map (term_at e) ids)) (sym is.init)
          (starts_made o e c ss (subst (λ ids. HaveSorts (data_meant g) [] (terms_of (map (term_at e) ids)) ss) is.init fits.closed) (component_written e m.definitions c));
      summands = form_plain g q m c f is (forms_are_sorted g q.trees f table complete fits);
    }
