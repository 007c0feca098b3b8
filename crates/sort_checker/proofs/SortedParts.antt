-- Labels, arguments and assignments have the sorts of their places.
use Rattle.std.proofs.Common.{◌≡◌, ◌+◌, ℕ, suc, Bool, true, false, cond, List, [], ◌∷◌, map, refl, sym, ap, ◌∙◌, subst, arith}
use Rattle.std.specs.Prelude.{Option, Some, None, option_map, bytes_eq, slice_get}
use Rattle.std.specs.List.{Contains, AllByRecursion}
use Rattle.std.proofs.lemmas.Option.{none-some, same_Some, option_and_then_some}
use Rattle.std.proofs.lemmas.Slice.Eq.{bytes_eq-Decides}
use Rattle.data_theory.specs.Terms.{Sort, boolean, positive, natural, integer, list, Term, Terms, variable}
use Rattle.data_theory.specs.Terms as terms
use Rattle.data_theory.specs.Environments as lists
use Rattle.data_theory.specs.Environments.{terms_of}
use Rattle.data_theory.specs.Declarations.{Data, IsSort, Declares, HasSort, HaveSorts}
use Rattle.data_theory.proofs.EnvironmentLemmas.{terms_of_lists}
use Rattle.process_terms.specs.Labels as written
use Rattle.process_terms.specs.Labels.{Label}
use Rattle.sort_table.specs.Expressions.{Name, Expression}
use Rattle.sort_table.specs.NamedLists.{all_named, first_named}
use Rattle.sort_table.specs.BareSorts.{SortExpression, truth_values, positives, naturals, integers, lists_of, a_name}
use Rattle.sort_table.specs.BareProcesses.{Action, tau, act}
use Rattle.sort_table.specs.Vocabularies.{Vocabulary, sort_in}
use Rattle.data_typing.specs.Typings.{sort_eq, Inferred, Typing, first_of, exactly, checked, all_at}
use Rattle.data_typing.specs.TypingLaws.{HasSmallNumerals, IsOverData, IsScope}
use Rattle.data_typing.specs.Meanings.{Bound, Scope, bound_row, typing_in}
use Rattle.data_typing.proofs.Options.{one_or_other, mapped, chosen, first_there}
use Rattle.data_typing.proofs.SortTests.{sorts_told}
use Rattle.data_typing.proofs.NamedParts.{all_mapped, all_named_are, first_named_is}
use Rattle.data_typing.proofs.TypingSorts.{IsSound, AreSound, GivesSorts}
use Rattle.data_typing.proofs.MeaningSorts.{inferred_terms_have_their_sorts, checked_terms_have_the_sort}
use Rattle.sort_checker.specs.FullVocabularies.{Parameters, FullVocabulary, process_from, process_named}
use Rattle.sort_checker.specs.PartTypings.{action_at, action_of, label_in, arguments_in, variable_at, left_out, assigned_or, assigned_in}
use Rattle.sort_checker.proofs.Members.{contains_first, contains_later}
use Rattle.sort_checker.specs.FittingBodies.{AreSorted, IsTermOver, AreTermsOver, IsActionOver, IsLabelOver, IsOverSorts, EachValue, EachArgument, bounds_of, HasSorts, parameter_sorts, process_sorts}

-- ---- one way to a term
exact_has_sort : (g : Data) (vs : List Sort) → GivesSorts g vs exactly
exact_has_sort g vs s t u h is e =
    option_and_then_some (λ (i : Inferred). cond (sort_eq i.sort s) (Some i.term) None) t.infers u e
    (λ i there w. chosen (sort_eq i.sort s) (Some i.term) None u w
    (λ q v. subst (λ x. HasSort g vs x s) (same_Some _ _ v) (subst (λ r. HasSort g vs i.term r) (sorts_told i.sort s q) (h.infers i there).1))
    (λ q v. absurd (none-some u v)))

checked_has_sort : (g : Data) (vs : List Sort) → GivesSorts g vs checked
checked_has_sort g vs s t u h is e = h.checks s u is e

all_have_sorts : (g : Data) (vs : List Sort) (how : Sort → Typing → Option Term) → GivesSorts g vs how
    → (ss : List Sort) (ts : List Typing) (us : Terms) → AllByRecursion (IsSort g) ss → AreSound g vs ts → all_at how ss ts ≡ Some us → HaveSorts g vs us ss
all_have_sorts g vs how gives [] [] us is h e = subst (λ x. HaveSorts g vs x []) (same_Some _ _ e) tt
all_have_sorts g vs how gives (s ∷ ss) (t ∷ ts) us is h e =
    option_and_then_some (λ u. option_map (terms.more u) (all_at how ss ts)) (how s t) us e
    (λ u first w. mapped (terms.more u) (all_at how ss ts) us w
    (λ rest others q. subst (λ x. HaveSorts g vs x (s ∷ ss)) q (gives s t u h.0 is.0 first, all_have_sorts g vs how gives ss ts rest is.1 h.1 others)))
all_have_sorts g vs how gives [] (t ∷ ts) us is h e = absurd (none-some us e)
all_have_sorts g vs how gives (s ∷ ss) [] us is h e = absurd (none-some us e)

-- ---- scopes
pub is_scope : (g : Data) (vs : List Sort) (scope : Scope) → AllByRecursion (λ (b : Bound). IsSort g b.sort) scope → AreSorted vs (bounds_of scope) → IsScope g vs scope
is_scope g vs [] sorts h = tt
is_scope g vs (b ∷ scope) sorts h = ((h.0, sorts.0), is_scope g vs scope sorts.1 h.1)

sound : (v : Vocabulary) (vs : List Sort) (scope : Scope) → IsOverData v → IsScope v.tables vs scope → (e : Expression) → HasSmallNumerals e → IsSound v.tables vs (typing_in v scope e)
sound v vs scope over is e small = record {
  infers = λ i h. inferred_terms_have_their_sorts v vs scope over is e small i.term i.sort h;
  checks = λ s u is_sort h. checked_terms_have_the_sort v vs scope over is e small s u is_sort h;
}

all_sound : (v : Vocabulary) (vs : List Sort) (scope : Scope) → IsOverData v → IsScope v.tables vs scope → (es : List Expression) → AllByRecursion HasSmallNumerals es → AreSound v.tables vs (map (typing_in v scope) es)
all_sound v vs scope over is [] small = tt
all_sound v vs scope over is (e ∷ es) small = (sound v vs scope over is e small.0, all_sound v vs scope over is es small.1)

-- terms in a list
listed_sorts : (g : Data) (vs : List Sort) (ss : List Sort) (us : Terms) → HaveSorts g vs us ss → HaveSorts g vs (terms_of (lists.list_of us)) ss
listed_sorts g vs ss us h = subst (λ (ts : Terms). HaveSorts g vs ts ss) (sym (terms_of_lists us)) h

-- ---- rows under a name
pub all_weaker : {A : Type 0} (P Q : A → Type 0) → ((x : A) → P x → Q x) → (xs : List A) → AllByRecursion P xs → AllByRecursion Q xs
all_weaker P Q f [] h = tt
all_weaker P Q f (x ∷ xs) h = (f x h.0, all_weaker P Q f xs h.1)

-- what stands under a name is in the list with that name
pub named_rows : {A : Type 0} (x : Name) (rs : List (Name × A)) → AllByRecursion (λ a. Contains rs (x, a)) (all_named x rs)
named_rows x [] = tt
named_rows {A = A} x (r ∷ rs) = by_test (bytes_eq r.0 x) refl (all_weaker (λ a. Contains rs (x, a)) (λ a. Contains (r ∷ rs) (x, a)) (λ a c. contains_later r (x, a) rs c) (all_named x rs) (named_rows x rs))
  where
    by_test : (b : Bool) → bytes_eq r.0 x ≡ b → AllByRecursion (λ (a : A). Contains (r ∷ rs) (x, a)) (all_named x rs) → AllByRecursion (λ (a : A). Contains (r ∷ rs) (x, a)) (cond b (r.1 ∷ all_named x rs) (all_named x rs))
    by_test true e h = (subst (λ (y : Name). Contains (r ∷ rs) (y, r.1)) ((bytes_eq-Decides r.0 x).0 e) (contains_first r rs), h)
    by_test false e h = h

module _ (v : FullVocabulary) (over : IsOverSorts v) (scope : Scope) (sorts : HasSorts v scope) where
  in_scope : (vs : List Sort) → AreSorted vs (bounds_of scope) → IsScope v.declared.tables vs scope
  in_scope vs h = is_scope v.declared.tables vs scope sorts h

  pub term_fits : (s : Sort) (e : Expression) (t : Term) → HasSmallNumerals e → IsSort v.declared.tables s → (typing_in v.declared scope e).checks s ≡ Some t → IsTermOver v.declared.tables (bounds_of scope) s t
  term_fits s e t small is h vs sorted = checked_terms_have_the_sort v.declared vs scope over.data_are (in_scope vs sorted) e small s t is h

  -- ---- actions
  -- sorts with which the action is declared, which are sorts of the data
  IsDeclared : Name → List Sort → Type 0
  IsDeclared x ss = AllByRecursion (IsSort v.declared.tables) ss × Contains v.declared.actions (x, ss)

  at_fits : (x : Name) (how : Sort → Typing → Option Term) → ((vs : List Sort) → GivesSorts v.declared.tables vs how) → (es : List Expression) → AllByRecursion HasSmallNumerals es
      → (ss : List Sort) → IsDeclared x ss → (a : written.Action) → action_at x how (map (typing_in v.declared scope) es) ss ≡ Some a → IsActionOver v (bounds_of scope) a
  unfolding IsDeclared
  at_fits x how gives es small ss are a h =
      mapped (λ us. record { name = x; sorts = ss; args = lists.list_of us }) (all_at how ss (map (typing_in v.declared scope) es)) a h
      (λ us there is. subst (IsActionOver v (bounds_of scope)) is (
        are.1,
        λ vs sorted. listed_sorts v.declared.tables vs ss us (all_have_sorts v.declared.tables vs how (gives vs) ss (map (typing_in v.declared scope) es) us are.0 (all_sound v.declared vs scope over.data_are (in_scope vs sorted) es small) there),
      ))

  both_of : (P Q : List Sort → Type 0) (sss : List (List Sort)) → AllByRecursion P sss → AllByRecursion Q sss → AllByRecursion (λ ss. P ss × Q ss) sss
  both_of P Q [] h k = tt
  both_of P Q (ss ∷ sss) h k = ((h.0, k.0), both_of P Q sss h.1 k.1)

  action_fits : (x : Name) (es : List Expression) → AllByRecursion HasSmallNumerals es → (a : written.Action) → action_of x (map (typing_in v.declared scope) es) (all_named x v.declared.actions) ≡ Some a
      → IsActionOver v (bounds_of scope) a
  unfolding IsDeclared
  action_fits x es small a h =
      let ts : List Typing = map (typing_in v.declared scope) es in
      let sss : List (List Sort) = all_named x v.declared.actions in
      let are = both_of (AllByRecursion (IsSort v.declared.tables)) (λ ss. Contains v.declared.actions (x, ss)) sss (all_named_are (AllByRecursion (IsSort v.declared.tables)) x v.declared.actions over.actions) (named_rows x v.declared.actions) in
      one_or_other (first_of (action_at x exactly ts) sss) (first_of (action_at x checked ts) sss) a h
      (λ w. first_there (IsDeclared x) (action_at x exactly ts) sss a are w (λ ss is q. at_fits x exactly (exact_has_sort v.declared.tables) es small ss is a q))
      (λ w. first_there (IsDeclared x) (action_at x checked ts) sss a are w (λ ss is q. at_fits x checked (checked_has_sort v.declared.tables) es small ss is a q))

  pub label_fits : (as_ : List Action) (m : Label) → AllByRecursion (EachArgument HasSmallNumerals) as_ → label_in v.declared scope as_ ≡ Some m → IsLabelOver v (bounds_of scope) m
  label_fits [] m small h = subst (IsLabelOver v (bounds_of scope)) (same_Some _ _ h) tt
  label_fits (tau ∷ as_) m small h = label_fits as_ m small.1 h
  label_fits (act x es ∷ as_) m small h =
      option_and_then_some (λ (a : written.Action). option_map (λ (l : Label). a ∷ l) (label_in v.declared scope as_)) (action_of x (map (typing_in v.declared scope) es) (all_named x v.declared.actions)) m h
      (λ a first w. mapped (λ (l : Label). a ∷ l) (label_in v.declared scope as_) m w
      (λ l others q. subst (IsLabelOver v (bounds_of scope)) q (action_fits x es small.0 a first, label_fits as_ l small.1 others)))

  -- ---- calls
  pub arguments_fit : (ps : Parameters) (es : List Expression) (ts : List Term) → AllByRecursion (λ (x : Name × Sort). IsSort v.declared.tables x.1) ps → AllByRecursion HasSmallNumerals es
      → arguments_in v.declared scope ps es ≡ Some ts → AreTermsOver v.declared.tables (bounds_of scope) (map (λ (x : Name × Sort). x.1) ps) ts
  arguments_fit ps es ts are small h vs sorted =
      mapped lists.list_of (all_at checked (map (λ (x : Name × Sort). x.1) ps) (map (typing_in v.declared scope) es)) ts h
      (λ us there is. subst (λ (l : List Term). HaveSorts v.declared.tables vs (terms_of l) (map (λ (x : Name × Sort). x.1) ps)) is
      (listed_sorts v.declared.tables vs (map (λ (x : Name × Sort). x.1) ps) us
      (all_have_sorts v.declared.tables vs checked (checked_has_sort v.declared.tables vs) (map (λ (x : Name × Sort). x.1) ps) (map (typing_in v.declared scope) es) us (all_mapped (IsSort v.declared.tables) (λ (x : Name × Sort). x.1) ps are)
      (all_sound v.declared vs scope over.data_are (in_scope vs sorted) es small) there)))

  rows : (vs : List Sort) (bs : Scope) → AreSorted vs (bounds_of bs) → AllByRecursion (λ (r : Name × Bound). Declares vs r.1.number r.1.sort) (map bound_row bs)
  rows vs [] h = tt
  rows vs (b ∷ bs) h = (h.0, rows vs bs h.1)

  left_out_fits : (p : Name × Sort) (t : Term) → left_out scope p ≡ Some t → IsTermOver v.declared.tables (bounds_of scope) p.1 t
  left_out_fits p t h vs sorted =
      option_and_then_some (variable_at p.1) (first_named p.0 (map bound_row scope)) t h
      (λ b there w. chosen (sort_eq b.sort p.1) (Some (variable b.number)) None t w
      (λ q is. subst (λ (u : Term). HasSort v.declared.tables vs u p.1) (same_Some _ _ is)
      (subst (λ (s : Sort). Declares vs b.number s) (sorts_told b.sort p.1 q) (first_named_is (λ (c : Bound). Declares vs c.number c.sort) p.0 (map bound_row scope) (rows vs scope sorted) b there)))
      (λ q is. absurd (none-some t is)))

  one_assigned : (p : Name × Sort) (o : Option Expression) (t : Term) → IsSort v.declared.tables p.1 → ((e : Expression) → o ≡ Some e → HasSmallNumerals e) → assigned_or v.declared scope p o ≡ Some t
      → IsTermOver v.declared.tables (bounds_of scope) p.1 t
  one_assigned p None t is small h = left_out_fits p t h
  one_assigned p (Some e) t is small h = term_fits p.1 e t (small e refl) is h

  pub assigned_fit : (ps : Parameters) (ds : List (Name × Expression)) (ts : List Term) → AllByRecursion (λ (x : Name × Sort). IsSort v.declared.tables x.1) ps → EachValue HasSmallNumerals ds
      → assigned_in v.declared scope ps ds ≡ Some ts → AreTermsOver v.declared.tables (bounds_of scope) (map (λ (x : Name × Sort). x.1) ps) ts
  assigned_fit [] ds ts are small h vs sorted = subst (λ (l : List Term). HaveSorts v.declared.tables vs (terms_of l) []) (same_Some _ _ h) tt
  assigned_fit (p ∷ ps) ds ts are small h vs sorted =
      option_and_then_some (λ (t : Term). option_map (λ (us : List Term). t ∷ us) (assigned_in v.declared scope ps ds)) (assigned_or v.declared scope p (first_named p.0 ds)) ts h
      (λ t first w. mapped (λ (us : List Term). t ∷ us) (assigned_in v.declared scope ps ds) ts w
      (λ us others q. subst (λ (l : List Term). HaveSorts v.declared.tables vs (terms_of l) (map (λ (x : Name × Sort). x.1) (p ∷ ps))) q (
        one_assigned p (first_named p.0 ds) t are.0 (λ e there. first_named_is HasSmallNumerals p.0 ds small e there) first vs sorted,
        assigned_fit ps ds us are.1 small others vs sorted,
      )))

-- ---- processes by name
record IsFound (g : Data) (k : ℕ) (rs : List (Name × Parameters)) (j : ℕ) (ps : Parameters) : Type 0 where
  place : ℕ
  at : j ≡ k + place
  stands : slice_get (map parameter_sorts rs) place ≡ Some (map (λ (x : Name × Sort). x.1) ps)
  are : AllByRecursion (λ (x : Name × Sort). IsSort g x.1) ps

found_from : (g : Data) (k : ℕ) (x : Name) (rs : List (Name × Parameters)) (j : ℕ) (ps : Parameters) → AllByRecursion (λ (p : Name × Parameters). AllByRecursion (λ (y : Name × Sort). IsSort g y.1) p.1) rs
    → process_from k x rs ≡ Some (j, ps) → IsFound g k rs j ps
found_from g k x [] j ps are h = absurd (none-some (j, ps) h)
found_from g k x (r ∷ rs) j ps are h =
    chosen (bytes_eq r.0 x) (Some (k, r.1)) (process_from (suc k) x rs) (j, ps) h
    (λ q w. let same : (k, r.1) ≡ (j, ps) = same_Some _ _ w in
    let params : r.1 ≡ ps = ap (λ (y : ℕ × Parameters). y.1) same in
    record {
      place = 0;
      at = sym (ap (λ (y : ℕ × Parameters). y.0) same) ∙ omega arith;
      stands = ap (λ (qs : Parameters). Some (map (λ (y : Name × Sort). y.1) qs)) params;
      are = subst (λ (qs : Parameters). AllByRecursion (λ (y : Name × Sort). IsSort g y.1) qs) params are.0;
    })
    (λ q w. let f = found_from g (suc k) x rs j ps are.1 w in record { place = suc f.place; at = f.at ∙ omega arith; stands = f.stands; are = f.are })

pub process_found : (v : FullVocabulary) → IsOverSorts v → (x : Name) (k : ℕ) (ps : Parameters) → process_named v x ≡ Some (k, ps)
    → (slice_get (process_sorts v) k ≡ Some (map (λ (y : Name × Sort). y.1) ps)) × AllByRecursion (λ (y : Name × Sort). IsSort v.declared.tables y.1) ps
process_found v over x k ps h =
    let f = found_from v.declared.tables 0 x v.processes k ps over.parameters h in
    (ap (slice_get (process_sorts v)) (f.at ∙ omega arith) ∙ f.stands, f.are)

-- ---- sorts of variables
pub sort_is : (v : FullVocabulary) → IsOverSorts v → (e : SortExpression) (s : Sort) → sort_in v.declared.sort_names e ≡ Some s → IsSort v.declared.tables s
sort_is v over truth_values s h = subst (IsSort v.declared.tables) (same_Some _ _ h) tt
sort_is v over positives s h = subst (IsSort v.declared.tables) (same_Some _ _ h) tt
sort_is v over naturals s h = subst (IsSort v.declared.tables) (same_Some _ _ h) tt
sort_is v over integers s h = subst (IsSort v.declared.tables) (same_Some _ _ h) tt
sort_is v over (lists_of e) s h = mapped list (sort_in v.declared.sort_names e) s h (λ r there q. subst (IsSort v.declared.tables) q (sort_is v over e r there))
sort_is v over (a_name n) s h = first_named_is (IsSort v.declared.tables) n v.declared.sort_names over.names s h
