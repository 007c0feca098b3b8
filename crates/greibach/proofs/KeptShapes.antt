-- The form of a definition in the shape of a linear process is one equation with its summands.
use Rattle.std.proofs.Common.{◌≡◌, ℕ, suc, if◌then◌else◌, List, [], ◌∷◌, ◌++◌, map, Option, None, Some, refl, sym, ap, ◌∙◌, subst, arith}
use Rattle.std.specs.Prelude.{slice_get, option_map}
use Rattle.std.specs.List.{AllZip}
use Rattle.std.proofs.lemmas.Option.{slice_get-map}
use Rattle.data_theory.specs.Terms.{Term, variable, put}
use Rattle.data_theory.specs.Declarations.{Data}
use Rattle.data_theory.specs.Environments.{Environment, term_in, bound}
use Rattle.data_theory.specs.declared.ids.ProcId.{ProcId}
use Rattle.data_theory.specs.declared.ids.TermId.{TermId}
use Rattle.data_theory.specs.IdData.{data_meant}
use Rattle.data_theory.specs.IdTrees.{Tree}
use Rattle.data_theory.specs.Signature.{Sig}
use Rattle.process_terms.specs.Labels.{Label, put_label}
use Rattle.process_terms.specs.PlainProcesses.{PlainDefinition, PlainModel, call_of}
use Rattle.process_terms.specs.Processes.{Bound, sums_around}
use Rattle.process_terms.specs.Meanings.{Entries, bound_at, body_of}
use Rattle.process_terms.specs.SignatureEntries.{entries_of}
use Rattle.bisim_laws.specs.LinearProcesses.{variables, sorts}
use Rattle.bisim_laws.proofs.Firing.{contains_first}
use Rattle.lps_core.specs.Conditions.{joined}
use Rattle.greibach.specs.PlainForms.{PlainForm, form_of}
use Rattle.greibach.specs.Places.{Path, Place, whole, Factor, Text, body_among, factors_at}
use Rattle.greibach.specs.Unfolding.{PlaceCall, Head, summed, guarded, Unfolds, un_delta, un_act, un_choice, un_seq, un_cond, un_sum}
use Rattle.greibach.specs.UnfoldedForms.{UnfoldedEquation, IsUnfoldedEquation, numbered_call, summand_with, equation_with, form_with}
use Rattle.greibach.specs.MeetingOrder.{places_called, Meets, none_met, met_before, met_now, Collects, all_collected, next_collected, number_in}
use Rattle.greibach.specs.ComponentForms.{params_among, piece_of, text_of, IsFormOf}
use Rattle.greibach.specs.LinearShapes.{WrittenSummand, label_and_next, where_it_holds, linear_body, with_sums, conditions_in, calls_in, IsKeptSummand, IsKeptLinear, FormsKeepLinearShapes}
use Rattle.greibach.proofs.FormsOfComponents.{among_at}
use Rattle.greibach.proofs.NumberedPlaces.{place_itself}
use Rattle.greibach.proofs.SameShapes.{unfolds_at}

-- ---- heads of summands
abbrev calls_of_itself : ℕ → Environment → Option (List Term) → List PlaceCall
calls_of_itself x e None = []
calls_of_itself x e (Some ts) = record { place = whole x; args = map (put (term_in e)) ts } ∷ []

record IsHeadOf (x : ℕ) (e : Environment) (s : WrittenSummand) (h : Head) : Type 0 where
  same_sorts : sorts h.sums ≡ sorts s.sums
  conditions : h.conditions ≡ conditions_in (with_sums e s.sums h.sums) s.condition
  label : h.label ≡ put_label (with_sums e s.sums h.sums) s.label
  next : h.next ≡ calls_of_itself x (with_sums e s.sums h.sums) s.next

-- the only one of these heads
record OneHead (x : ℕ) (e : Environment) (s : WrittenSummand) (hs : List Head) : Type 0 where
  head : Head
  one : hs ≡ head ∷ []
  is : IsHeadOf x e s head

abbrev bare_head : ℕ → Environment → List Term → Label → Option (List Term) → Head
bare_head x e cs m n = record { sums = []; conditions = cs; label = put_label e m; next = calls_of_itself x e n }

label_head : (t : Text) (x : ℕ) {over : List ℕ} {o : ℕ} {e : Environment} {path : Path} {hs : List Head} (m : Label) (n : Option (List Term)) → Unfolds t over o e path (label_and_next x m n) [] hs → hs ≡ bare_head x e [] m n ∷ []
label_head t x m None (un_act p) = refl
label_head t x m (Some ts) (un_seq (un_act p)) = refl

condition_head : (t : Text) (x : ℕ) {over : List ℕ} {o : ℕ} {e : Environment} {path : Path} {hs : List Head} (c : Option Term) (m : Label) (n : Option (List Term))
    → Unfolds t over o e path (where_it_holds c (label_and_next x m n)) [] hs → hs ≡ bare_head x e (conditions_in e c) m n ∷ []
condition_head t x None m n u = label_head t x m n u
condition_head t x (Some c) m n (un_cond {e = e} u un_delta) = ap (λ l. map (guarded (put (term_in e) c)) l ++ []) (label_head t x m n u)

summand_head : (t : Text) (x : ℕ) {over : List ℕ} {o : ℕ} {e : Environment} {path : Path} {hs : List Head} (xs : List Bound) (c : Option Term) (m : Label) (n : Option (List Term))
    → Unfolds t over o e path (sums_around xs (where_it_holds c (label_and_next x m n))) [] hs → OneHead x e (record { sums = xs; condition = c; label = m; next = n }) hs
summand_head t x {e = e} [] c m n u = record {
  head = bare_head x e (conditions_in e c) m n;
  one = condition_head t x c m n u;
  is = record { same_sorts = refl; conditions = refl; label = refl; next = refl };
}
summand_head t x (y ∷ xs) c m n (un_sum z n1 n2 u) =
    let r = summand_head t x xs c m n u in
    let b : Bound = record { var = z; sort = y.sort } in
    record {
      head = summed b r.head;
      one = ap (map (summed b)) r.one;
      is = record { same_sorts = ap (λ l. y.sort ∷ l) r.is.same_sorts; conditions = r.is.conditions; label = r.is.label; next = r.is.next };
    }

body_heads : (t : Text) (x : ℕ) {over : List ℕ} {o : ℕ} {e : Environment} {path : Path} {hs : List Head} (ss : List WrittenSummand) → Unfolds t over o e path (linear_body x ss) [] hs → AllZip (IsHeadOf x e) ss hs
body_heads t x [] un_delta = tt
body_heads t x {e = e} (s ∷ []) u = let r = summand_head t x s.sums s.condition s.label s.next u in subst (λ l. AllZip (IsHeadOf x e) (s ∷ []) l) (sym r.one) (r.is, tt)
body_heads t x {e = e} (s ∷ s' ∷ ss) (un_choice {ks = ks} u v) =
    let r = summand_head t x s.sums s.condition s.label s.next u in
    subst (λ l. AllZip (IsHeadOf x e) (s ∷ s' ∷ ss) (l ++ ks)) (sym r.one) (r.is, body_heads t x (s' ∷ ss) v)

-- ---- no other place is met
data AllAre {A : Type 0} (k : A) : List A → Type 0 where
  none_is : AllAre k []
  one_is : {ps : List A} → AllAre k ps → AllAre k (k ∷ ps)

meets_none : {A : Type 0} {k : A} {ps ls : List A} → AllAre k ps → Meets (k ∷ []) ps ls → ls ≡ k ∷ []
meets_none none_is none_met = refl
meets_none (one_is a) (met_before i m) = meets_none a m
meets_none {k = k} (one_is a) (met_now n m) = absurd (n (contains_first k []))

are_itself : (x : ℕ) (e : Environment) (n : Option (List Term)) (ps : List Place) → AllAre (whole x) ps → AllAre (whole x) (map (λ (c : PlaceCall). c.place) (calls_of_itself x e n) ++ ps)
are_itself x e None ps a = a
are_itself x e (Some ts) ps a = one_is a

calls_itself : (x : ℕ) (e : Environment) (ss : List WrittenSummand) (hs : List Head) → AllZip (IsHeadOf x e) ss hs → AllAre (whole x) (places_called hs)
calls_itself x e [] [] a = none_is
calls_itself x e [] (h ∷ hs) a = absurd a
calls_itself x e (s ∷ ss) [] a = absurd a
calls_itself x e (s ∷ ss) (h ∷ hs) a =
    subst (λ l. AllAre (whole x) (map (λ (c : PlaceCall). c.place) l ++ places_called hs)) (sym a.0.next) (are_itself x (with_sums e s.sums h.sums) s.next (places_called hs) (calls_itself x e ss hs a.1))

-- ---- the one equation
record OneEquation (g : Data) (t : Text) (k : Place) (form : List UnfoldedEquation) (last : List Place) : Type 0 where
  equation : UnfoldedEquation
  unfolds : IsUnfoldedEquation g t equation
  place : equation.place ≡ k
  one : form ≡ equation ∷ []
  met : last ≡ k ∷ []

none_behind : {g : Data} {t : Text} {k : Place} {ls last : List Place} {form : List UnfoldedEquation} → ls ≡ k ∷ [] → Collects g t ls 1 form last → (form ≡ []) × (last ≡ k ∷ [])
none_behind e (all_collected n) = (refl, e)
none_behind {k = k} e (next_collected q at u m c) = absurd (none_there (sym (ap (λ l. slice_get l 1) e) ∙ at))
  where
    none_there : {p : Place} → slice_get (k ∷ []) 1 ≡ Some p → ⊥
    none_there w = cc

one_collected : {g : Data} {t : Text} {k : Place} {last : List Place} {form : List UnfoldedEquation} → ((q : UnfoldedEquation) → IsUnfoldedEquation g t q → q.place ≡ k → AllAre k (places_called q.heads)) → Collects g t (k ∷ []) 0 form last → OneEquation g t k form last
one_collected f (all_collected n) = absurd (omega (arith, n))
one_collected {k = k} f (next_collected q at u m c) =
    let place : q.place ≡ k = cc in
    let rest = none_behind (meets_none (f q u place) m) c in
    record { equation = q; unfolds = u; place = place; one = ap (λ l. q ∷ l) rest.0; met = rest.1 }

number_of_itself : (k : Place) → number_in (k ∷ []) k ≡ 0
number_of_itself k = ap (λ b. if b then 0 else 1) (place_itself k)

-- ---- its summands
calls_kept : (number : Place → ℕ) (x : ℕ) (e : Environment) (n : Option (List Term)) → number (whole x) ≡ 0 → map (numbered_call number) (calls_of_itself x e n) ≡ calls_in e n
calls_kept number x e None z = refl
calls_kept number x e (Some ts) z = ap (λ i. record { equation = i; args = map (put (term_in e)) ts } ∷ []) z

summands_kept : (number : Place → ℕ) (x : ℕ) (e : Environment) → number (whole x) ≡ 0 → (ss : List WrittenSummand) (hs : List Head) → AllZip (IsHeadOf x e) ss hs → AllZip (IsKeptSummand e) ss (map (summand_with number) hs)
summands_kept number x e z [] [] a = tt
summands_kept number x e z [] (h ∷ hs) a = absurd a
summands_kept number x e z (s ∷ ss) [] a = absurd a
summands_kept number x e z (s ∷ ss) (h ∷ hs) a = (
  record {
    same_sorts = a.0.same_sorts;
    condition = ap joined a.0.conditions;
    label = a.0.label;
    next = ap (map (numbered_call number)) a.0.next ∙ calls_kept number x (with_sums e s.sums h.sums) s.next z;
  },
  summands_kept number x e z ss hs a.1,
)

module _ (g : Sig) (ts : List Tree) (m : PlainModel) (x : ProcId) (ids : List TermId) (f : PlainForm) (is : IsFormOf g ts m (call_of x ids) f) (d : PlainDefinition) (at : slice_get m.definitions x.0 ≡ Some d) (ss : List WrittenSummand)
    (shape : body_of (entries_of g ts) d.body ≡ linear_body x.0 ss) where
  abbrev e : Entries
  e = entries_of g ts

  abbrev t : Text
  t = text_of (entries_of g ts) m.definitions is.reached (call_of x ids)

  abbrev params : List Bound
  params = map (bound_at (entries_of g ts)) d.params

  piece_found : slice_get t.definitions x.0 ≡ Some (piece_of e d)
  piece_found = slice_get-map (piece_of e) m.definitions x.0 ∙ ap (option_map (piece_of e)) at

  params_found : params_among t.definitions x.0 ≡ params
  params_found = (among_at t.definitions x.0 (piece_of e d) piece_found).0

  body_found : body_among t.definitions x.0 ≡ linear_body x.0 ss
  body_found = (among_at t.definitions x.0 (piece_of e d) piece_found).1 ∙ shape

  params_at : (q : UnfoldedEquation) → q.place ≡ whole x.0 → (t.piece q.place).params ≡ params
  params_at q place = ap (λ k. (t.piece k).params) place ∙ params_found

  heads_of : (q : UnfoldedEquation) → IsUnfoldedEquation (data_meant g) t q → q.place ≡ whole x.0 → AllZip (IsHeadOf x.0 (bound (variables params) (map variable (variables q.params)))) ss q.heads
  heads_of q u place =
      let env : List Bound → Environment = λ ps. bound (variables ps) (map variable (variables q.params)) in
      let here : Factor = record { path = []; body = linear_body x.0 ss } in
      let stands : u.first ∷ u.others ≡ here ∷ [] = sym u.at ∙ ap (factors_at t) place ∙ ap (λ b. record { path = []; body = b } ∷ []) body_found in
      body_heads t x.0 ss
      (subst (λ ps. Unfolds t (variables q.params) (suc x.0) (env ps) [] (linear_body x.0 ss) [] q.heads) (params_at q place)
      (unfolds_at t {f = u.first} {f' = here} {rest = u.others} {rest' = []} (ap (λ (k : Place). k.owner) place) stands u.unfolds))

  pub kept : IsKeptLinear params ss (form_of e f)
  kept =
      let one = one_collected (λ q u place. calls_itself x.0 (bound (variables params) (map variable (variables q.params))) ss q.heads (heads_of q u place)) is.collects in
      let q = one.equation in
      let number = number_in is.last in
      let zero_is : number (whole x.0) ≡ 0 = ap (λ l. number_in l (whole x.0)) one.met ∙ number_of_itself (whole x.0) in
      record {
        equation = equation_with number q;
        one = is.form ∙ ap (form_with number) one.one;
        same_sorts = one.unfolds.same_sorts ∙ ap sorts (params_at q one.place);
        summands = summands_kept number x.0 (bound (variables params) (map variable (variables q.params))) zero_is ss q.heads (heads_of q one.unfolds one.place);
      }

pub forms_keep_linear_shapes : FormsKeepLinearShapes
forms_keep_linear_shapes g ts m c f is x ids d ss same at shape = kept g ts m x ids f (subst (λ z. IsFormOf g ts m z f) same is) d at ss shape
