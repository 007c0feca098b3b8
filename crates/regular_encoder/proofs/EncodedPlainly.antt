-- The encoding of a form that is plainly conditioned is plainly conditioned.
use Rattle.std.proofs.Common.{◌≡◌, ◌==◌, ◌<◌, ◌⊎◌, inl, inr, ⊎_elim, ℕ, Bool, true, false, cond, List, [], ◌∷◌, ◌++◌, map, length, refl, sym, ap, ap₂, ◌∙◌, subst, arith, Option, Some, None}
use Rattle.std.specs.Prelude.{Contains, slice_get, is_some}
use Rattle.std.specs.List.{AllByRecursion}
use Rattle.std.proofs.lemmas.Bool.Decides.{eqb_tells}
use Rattle.std.proofs.lemmas.List.Elements.{Contains-append_cases, Contains-append_left, Contains-append_right}
use Rattle.data_theory.specs.declared.ids.SortId.{SortId}
use Rattle.data_theory.specs.declared.ids.VarId.{VarId}
use Rattle.data_theory.specs.declared.ids.TermId.{TermId}
use Rattle.data_theory.specs.Terms.{Sort, positive, Term, Terms, variable, numeral, unknown, application, none, more, apply, put, put_all, IsClosed, AreClosed}
use Rattle.data_theory.specs.Declarations.{Data, Declares, HasSort, HaveSorts}
use Rattle.data_theory.specs.Environments.{Environment, term_in, bound}
use Rattle.data_theory.specs.Equations.{equals}
use Rattle.data_theory.specs.Signature.{Sig}
use Rattle.data_theory.specs.WholeSignatures.{IsSignature}
use Rattle.data_theory.specs.IdData.{data_meant}
use Rattle.data_theory.specs.IdTerms.{sort_under, term_under, variable_sorts}
use Rattle.data_theory.proofs.IdTermLemmas.{sorted_trees_mean_sorted_terms}
use Rattle.term_pool.specs.HeadTrees.{tree_at}
use Rattle.term_pool.specs.Pools.{PoolContents}
use Rattle.term_pool.specs.Constants.{constant_of}
use Rattle.process_terms.specs.Meanings.{term_at}
use Rattle.process_terms.specs.Processes.{Bound}
use Rattle.process_terms.specs.SignatureEntries.{entries_of, BothGrow}
use Rattle.bisim_laws.specs.LinearProcesses.{Summand, Linear, variables, AreDeclared}
use Rattle.bisim_laws.specs.BaseStates.{GreibachCall, Columns, control_of, number_of}
use Rattle.bisim_laws.proofs.Firing.{contains_first, contains_later, contains_cases, contains_none, variable_among}
use Rattle.lps_core.specs.Moving.{SameSorts, no_more, one_more, renaming_to}
use Rattle.lps_core.specs.MadeTerms.{StackSort, IsClosedTerm, WasAnswered, Origin, origin_of, IsStack, IsMade, a_variable, a_number, a_closed_term, AreMade, none_made, more_made, IsAdded, a_control_number, the_whole, plain_part, HasPlainParts, SummandIsPlain}
use Rattle.lps_core.specs.PlainLinears.{PlainLinear, linear_of}
use Rattle.lps_core.proofs.Environments.{unrenamed_stay}
use Rattle.lps_core.proofs.PoolTrees.{extends_on, tree_kept}
use Rattle.lps_core.proofs.SortedTerms.{HaveTheirSorts, one_sort}
use Rattle.lps_core.proofs.Staying.{term_is}
use Rattle.lps_core.proofs.StayingFits.{term_fits}
use Rattle.greibach.specs.Forms.{FormSummand, FormEquation, Form, IsForm, FormIsSorted}
use Rattle.greibach.specs.PlainForms.{PlainEquation, PlainForm, form_of}
use Rattle.greibach.specs.PlainTerms.{FormSummandIsPlain}
use Rattle.regular_encoder.specs.Encoding.{control_params, control_parts, place_of, to_columns, next_columns, encoded_next, encoded_summand, encoded_params, encoded, IsLayout}
use Rattle.regular_encoder.specs.Layouts.{control_variable}
use Rattle.regular_encoder.specs.FormColumns.{argument_of, IsControl, no_control, a_control, IsFirstTerm, an_argument, a_closed_term as closed_first, AreFirstTerms, no_first_term, one_more_first_term}
use Rattle.regular_encoder.specs.EncodedForms.{IsEncodedForm, added_in_front, StaysPlain}
use Rattle.regular_encoder.proofs.Encoded.{is_among, place_long}
use Rattle.regular_encoder.proofs.EncodedForms.{EncodingMeans}
use Rattle.regular_encoder.proofs.FirstTerms.{HasNoVariable, closed_tree, value_is_closed, some_is, no_some, grow_then, grow_none}
use Rattle.regular_encoder.proofs.Fitting.{moves_sorted}
use Rattle.greibach.proofs.PlainParts.{parts_are_plain, joined_plain}
use Rattle.regular_encoder.proofs.PlainTerms.{all_moved, label_moved, parts_moved}

-- ---- parameters and columns
-- a parameter goes to a column of its sort
renamed : (vs : List Sort) {xs ys : List Bound} → SameSorts xs ys → AreDeclared vs xs → (x : Bound) → Contains xs x → (y : Bound) × (Contains ys y × (y.sort ≡ x.sort) × (term_in (renaming_to (variables xs) (variables ys)) x.var ≡ variable y.var))
renamed vs no_more d x i = absurd (contains_none x i)
renamed vs (one_more {x = a} {y = b} {xs = xs} {ys = ys} e k) d x i = ⊎_elim
    (λ w. (b, (contains_first b ys, sym e ∙ one_sort vs x.var a.sort x.sort (subst (λ z. Declares vs z a.sort) w.1 (d a (contains_first a xs))) (d x i), ap (λ t. cond t (variable b.var) (term_in (renaming_to (variables xs) (variables ys)) x.var)) w.0)))
    (λ w.
    let r = renamed vs k (λ y j. d y (contains_later a y xs j)) x (⊎_elim (λ q. absurd (w.1 (ap (λ (z : Bound). z.var) q))) (λ j. j) (contains_cases a x xs i)) in
    (r.0, (contains_later b r.0 ys r.1.0, r.1.1, ap (λ t. cond t (variable b.var) (term_in (renaming_to (variables xs) (variables ys)) x.var)) w.0 ∙ r.1.2)))
    (eqb_tells a.var x.var)

-- what is bound is made where the terms are
bound_made : (o : Origin) (ps ys : List Bound) (xs : List ℕ) (us : List Term) → AreMade o ps ys us → (x : ℕ) → IsMade o ps ys (variable x) → IsMade o ps ys (term_in (bound xs us) x)
bound_made o ps ys [] us m x h = h
bound_made o ps ys (y ∷ xs) _ none_made x h = h
bound_made o ps ys (y ∷ xs) _ (more_made {t = u} {ts = us} m ms) x h = elim (y == x) as (λ b. IsMade o ps ys (cond b u (term_in (bound xs us) x))) [ true ↦ m | false ↦ bound_made o ps ys xs us ms x h ]

-- ---- the summands
module _ (o : Origin) (added : List Bound) (c : Columns) (v : ℕ) (form : Form) (is : IsForm form) (sorted : FormIsSorted o.declared o.variable_sorts form) (layout : IsLayout c v form) (declared : AreDeclared o.variable_sorts (encoded_params c v))
    (closed : (t : Term) → o.WasAnswered t → (e : Environment) → put (term_in e) t ≡ t) (control : c.control ≡ true → Contains added (record { var = v; sort = positive })) where
  abbrev qs : List Bound
  qs = encoded_params c v

  among_params : (y : Bound) → Contains c.columns y → Contains qs y
  among_params y i = Contains-append_right (control_params c.control v) c.columns y i

  module _ (i : ℕ) (q : FormEquation) (s : FormSummand) (at : slice_get form i ≡ Some q) (among : Contains q.summands s) (plain : FormSummandIsPlain o q.params s) where
    abbrev ys : List Bound
    ys = s.sums ++ qs

    abbrev r : Environment
    r = to_columns c i q

    param_moved : (x : Bound) → Contains q.params x → (y : Bound) × (Contains qs y × (y.sort ≡ x.sort) × (term_in r x.var ≡ variable y.var))
    param_moved x k =
        let p = layout.places i q at in
        let m = renamed o.variable_sorts p.same (sorted i q at).params x k in
        (m.0, (among_params m.0 (p.among m.0 m.1.0), m.1.1, ap (λ z. term_in (renaming_to (variables q.params) z) x.var) p.is ∙ m.1.2))

    moved : (x : Bound) → Contains (s.sums ++ q.params) x → IsMade o qs ys (term_in r x.var)
    moved x k = ⊎_elim
        (λ a. subst (λ z. IsMade o qs ys z)
        (sym (unrenamed_stay (variables q.params) (place_of c i) x.var (place_long c q (place_of c i) (layout.places i q at)) (λ b. ((is i q at).summands s among).apart x.var (variable_among s.sums x a) b)))
        (a_variable (Contains-append_left s.sums qs x a)))
        (λ a. let m = param_moved x a in subst (λ z. IsMade o qs ys z) (sym m.1.2) (a_variable (Contains-append_right s.sums qs m.0 m.1.0)))
        (Contains-append_cases s.sums q.params x k)

    sorts_kept : HaveTheirSorts o.declared o.variable_sorts o.variable_sorts (term_in r)
    sorts_kept = moves_sorted o.declared o.variable_sorts c v form is sorted layout declared i q s at among

    stacked : (k : StackSort) (x : Bound) → IsStack o q.params k x → (u : Bound) × (IsStack o qs k u × (term_in r x.var ≡ variable u.var))
    stacked k x w = let m = param_moved x w.parameter in (m.0, (record { sort = w.sort; parameter = m.1.0; is = m.1.1 ∙ w.is }, m.1.2))

    closed_kept : (t : Term) → o.WasAnswered t → put (term_in r) t ≡ t
    closed_kept t w = closed t w r

    columns_made : (place : List ℕ) (us : List Term) (xs : List Bound) → ((x : Bound) → Contains xs x → Contains c.columns x) → AreMade o qs ys us → AreMade o qs ys (map (term_in (bound place us)) (variables xs))
    columns_made place us [] w m = none_made
    columns_made place us (x ∷ xs) w m =
        more_made (bound_made o qs ys place us m x.var (a_variable (Contains-append_right s.sums qs x (among_params x (w x (contains_first x xs)))))) (columns_made place us xs (λ y k. w y (contains_later x y xs k)) m)

    number_made : (b : Bool) (k : ℕ) (ts : List Term) → AreMade o qs ys ts → AreMade o qs ys (control_of b k ++ ts)
    number_made false k ts m = m
    number_made true k ts m = more_made a_number m

    next_made : (cs : List GreibachCall) → ((a : GreibachCall) → Contains cs a → AreMade o q.params (s.sums ++ q.params) a.args) → (ts : List Term) → encoded_next c r cs ≡ Some ts → AreMade o qs ys ts
    next_made [] h ts e = absurd (no_some e)
    next_made (a ∷ cs) h ts e =
        let us = map (put (term_in r)) a.args in
        subst (λ z. AreMade o qs ys z) (some_is e)
        (number_made c.control a.equation (next_columns c r a)
        (columns_made (place_of c a.equation) us c.columns (λ x k. k) (all_moved o q.params (s.sums ++ q.params) qs ys r closed_kept moved sorts_kept stacked a.args (h a (contains_first a cs)))))

    control_plain : (b : Bool) → (b ≡ true → IsAdded added qs (record { var = v; sort = positive })) → (cs : List Term) → AllByRecursion (HasPlainParts o added qs ys) cs → AllByRecursion (HasPlainParts o added qs ys) (control_parts b v i ++ cs)
    control_plain false w cs h = h
    control_plain true w cs h = (λ p k. parts_are_plain o added qs ys (equals positive (variable v) (number_of i)) (plain_part (a_control_number (w refl) refl) the_whole) p k, h)

    control_is_added : (b : Bool) → (b ≡ true → Contains added (record { var = v; sort = positive })) → b ≡ true → IsAdded added (control_params b v ++ c.columns) (record { var = v; sort = positive })
    control_is_added true w e = record { by_a_pass = w refl; parameter = contains_first (record { var = v; sort = positive }) c.columns }
    control_is_added false w e = cc

    pub summand_is_plain : SummandIsPlain o added qs (encoded_summand c v i q s)
    summand_is_plain = record {
      sums = plain.sums;
      condition = joined_plain o added qs ys (control_parts c.control v i ++ put (term_in r) s.condition ∷ [])
          (control_plain c.control (control_is_added c.control control) (put (term_in r) s.condition ∷ [])
          (parts_moved o q.params (s.sums ++ q.params) qs ys r closed_kept moved sorts_kept stacked [] added (λ x a. absurd (contains_none x a.by_a_pass)) s.condition plain.condition, tt));
      label = label_moved o q.params (s.sums ++ q.params) qs ys r closed_kept moved sorts_kept stacked s.label plain.label;
      next = next_made s.next plain.next;
    }

  pub summands_are_plain : ((i : ℕ) (q : FormEquation) (s : FormSummand) → slice_get form i ≡ Some q → Contains q.summands s → FormSummandIsPlain o q.params s) → (y : Summand) → Contains (encoded c v form).summands y → SummandIsPlain o added qs y
  summands_are_plain plain y h =
      let f = is_among c v form y h in
      subst (λ z. SummandIsPlain o added qs z) (sym f.is) (summand_is_plain f.place f.equation f.summand f.at f.among (plain f.place f.equation f.summand f.at f.among))

-- ---- closed terms
mutual
  closed_stays : (g : Data) (vs : List Sort) (t : Term) (s : Sort) → HasSort g vs t s → IsClosed t → (e : ℕ → Term) → put e t ≡ t
  closed_stays g vs (variable x) s h k e = absurd k
  closed_stays g vs (numeral a z) s h k e = refl
  closed_stays g vs (unknown d n) s h k e = refl
  closed_stays g vs (application f ts) s h k e = ap (apply f) (all_closed_stay g vs ts _ h.1 k e) ∙ h.3

  all_closed_stay : (g : Data) (vs : List Sort) (ts : Terms) (ss : List Sort) → HaveSorts g vs ts ss → AreClosed ts → (e : ℕ → Term) → put_all e ts ≡ ts
  all_closed_stay g vs none ss h k e = refl
  all_closed_stay g vs (more t ts) [] h k e = absurd h
  all_closed_stay g vs (more t ts) (s ∷ ss) h k e = ap₂ (λ u us. more u us) (closed_stays g vs t s h.0 k.0 e) (all_closed_stay g vs ts ss h.1 k.1 e)

answers_stay : (h : Sig) (q : PoolContents) → IsSignature h → (t : Term) → WasAnswered h q t → (e : Environment) → put (term_in e) t ≡ t
answers_stay h q stands t w e =
    let tree = tree_at q.trees w.term in
    let same = tree_kept w.pool_after.trees q.trees w.term w.kept w.answer.stands.within in
    let bare : HasNoVariable tree = subst HasNoVariable (sym (same.0 ∙ w.answer.tree)) (value_is_closed (constant_of w.pool_after.constants) w.answer.value) in
    let fits = term_fits w.after h w.pool_after.trees q.trees (record { signature = w.grown; pool = w.kept }) w.sort w.term w.answer.stands in
    let sorted = sorted_trees_mean_sorted_terms h stands.table tree w.sort fits.sorted in
    subst (λ z. put (term_in e) z ≡ z) (sym w.is) (closed_stays (data_meant h) (variable_sorts h) (term_under h tree) (sort_under h w.sort) sorted (closed_tree h tree bare) (term_in e))

-- ---- the first values
argument_among : (place : List VarId) (args : List TermId) (c : VarId) (t : TermId) → argument_of place args c ≡ Some t → Contains args t
argument_among [] args c t e = absurd (no_some e)
argument_among (x ∷ place) [] c t e = absurd (no_some e)
argument_among (x ∷ place) (a ∷ args) c t e = ⊎_elim
    (λ q. subst (λ z. Contains (a ∷ args) z) (some_is (sym (ap (λ b. cond b (Some a) (argument_of place args c)) q.0) ∙ e)) (contains_first a args))
    (λ q. contains_later a t args (argument_among place args c t (sym (ap (λ b. cond b (Some a) (argument_of place args c)) q.0) ∙ e)))
    (eqb_tells x.0 c.0)

-- an argument, or a closed term that was answered
pub record Answer (h : Sig) (q : PoolContents) (t : TermId) : Type 0 where
  pub before : Sig
  pub pool_before : PoolContents
  pub after : Sig
  pub pool_after : PoolContents
  pub sort : SortId
  pub answer : IsClosedTerm before pool_before sort after pool_after t
  pub grow : BothGrow after h pool_after.trees q.trees

answer_on : (h k : Sig) (q r : PoolContents) (t : TermId) → BothGrow h k q.trees r.trees → Answer h q t → Answer k r t
answer_on h k q r t w a = record { before = a.before; pool_before = a.pool_before; after = a.after; pool_after = a.pool_after; sort = a.sort; answer = a.answer; grow = grow_then a.after h k a.pool_after.trees q.trees r.trees a.grow w }

one_found : (place : List VarId) (args : List TermId) (g : Sig) (p : PoolContents) (c : VarId) (h : Sig) (q : PoolContents) (t : TermId) → IsFirstTerm place args g p c h q t → BothGrow g h p.trees q.trees × (Contains args t ⊎ Answer h q t)
one_found place args g p c _ _ _ (an_argument {t = t} e) = (grow_none g p.trees, inl (argument_among place args c t e))
one_found place args g p c _ _ _ (closed_first {h = h} {q = q} {t = t} e k) =
    (record { signature = k.grown; pool = k.kept }, inr (record { before = g; pool_before = p; after = h; pool_after = q; sort = _; answer = k; grow = grow_none h q.trees }))

firsts_found : (place : List VarId) (args : List TermId) (g : Sig) (p : PoolContents) (cs : List VarId) (h : Sig) (q : PoolContents) (ts : List TermId) → AreFirstTerms place args g p cs h q ts → (t : TermId) → Contains ts t → Contains args t ⊎ Answer h q t
firsts_found place args g p _ _ _ _ no_first_term t i = absurd (contains_none t i)
firsts_found place args g p _ k r _ (one_more_first_term {cs = cs} {ts = ts} {h = h} {q = q} {c = c} {t = u} a n) t i =
    let s = one_found place args h q c k r u n in ⊎_elim
    (λ j. ⊎_elim (λ x. inl x) (λ x. inr (answer_on h k q r t s.0 x)) (firsts_found place args g p cs h q ts a t j))
    (λ j. ⊎_elim (λ e. subst (λ z. Contains args z ⊎ Answer k r z) e s.1) (λ x. absurd (contains_none t x)) (contains_cases u t [] j))
    (Contains-append_cases ts (u ∷ []) t i)

one_made : (o : Origin) (ps xs : List Bound) (f : TermId → Term) (ids : List TermId) → AreMade o ps xs (map f ids) → (t : TermId) → Contains ids t → IsMade o ps xs (f t)
one_made o ps xs f [] m t i = absurd (contains_none t i)
one_made o ps xs f (a ∷ ids) (more_made m ms) t i = ⊎_elim (λ e. subst (λ z. IsMade o ps xs (f z)) e m) (λ j. one_made o ps xs f ids ms t j) (contains_cases a t ids i)

each_made : (o : Origin) (ps xs : List Bound) (f : TermId → Term) (ids : List TermId) → ((t : TermId) → Contains ids t → IsMade o ps xs (f t)) → AreMade o ps xs (map f ids)
each_made o ps xs f [] h = none_made
each_made o ps xs f (a ∷ ids) h = more_made (h a (contains_first a ids)) (each_made o ps xs f ids (λ t i. h t (contains_later a t ids i)))

number_in_front : (o : Origin) (ps xs : List Bound) (b : Bool) (ts : List Term) → AreMade o ps xs ts → AreMade o ps xs (control_of b 0 ++ ts)
number_in_front o ps xs false ts m = m
number_in_front o ps xs true ts m = more_made a_number m

-- ---- the control parameter is the one in front
several : (g : Sig) (n : ℕ) (k : Sig) (o : Option VarId) → IsControl g n k o → is_some o ≡ true → 1 < n
several g _ _ _ no_control e = cc
several g n _ _ (a_control l f) e = l

in_front : (g : Sig) (qs : List PlainEquation) (k : Sig) (o : Option VarId) (xs : List Bound) → IsControl g (length qs) k o → is_some o ≡ true → Contains (added_in_front qs (control_params (is_some o) (control_variable o) ++ xs)) (record { var = control_variable o; sort = positive })
in_front g qs k None xs w e = cc
in_front g [] k (Some x) xs w e = let n = several g 0 k (Some x) w e in absurd (omega (arith, n))
in_front g (q ∷ []) k (Some x) xs w e = let n = several g (length (q ∷ [])) k (Some x) w e in absurd (omega (arith, n))
in_front g (q ∷ r ∷ qs) k (Some x) xs w e = contains_first (record { var = x.0; sort = positive }) []

-- ---- the law
pub stays_plain : (g h : Sig) (p q : PoolContents) (f : PlainForm) (made : PlainLinear) (is : IsEncodedForm g p h q f made) → IsSignature h → EncodingMeans h q.trees f is.layout is.firsts made → StaysPlain h q f made
stays_plain g h p q f made is stands m w stacks plain =
    let e = entries_of h q.trees in
    let o = origin_of h q w stacks in
    let v = control_variable is.layout.control in
    let added = added_in_front f.equations (linear_of e made).params in
    let params : (linear_of e made).params ≡ encoded_params m.columns v = ap (λ (l : Linear). l.params) m.linear in
    let control : m.columns.control ≡ true → Contains added (record { var = v; sort = positive }) =
    λ c. subst (λ ps. Contains (added_in_front f.equations ps) (record { var = v; sort = positive })) (sym (params ∙ ap (λ b. control_params b v ++ m.columns.columns) m.control))
    (in_front is.columns.with_columns f.equations is.columns.with_control is.layout.control m.columns.columns is.columns.control (sym m.control ∙ c)) in
    let found = firsts_found _ f.init is.columns.with_control p is.layout.columns h is.between is.firsts is.columns.values in
    let made_first : (t : TermId) → Contains is.firsts t → IsMade o [] [] (term_at e t) = λ t i. ⊎_elim
    (λ a. one_made o [] [] (term_at e) f.init plain.starts t a)
    (λ (a : Answer h is.between t).
    let within = (tree_kept a.pool_after.trees q.trees t (extends_on a.pool_after.trees is.between.trees q.trees a.grow.pool is.kept) a.answer.stands.within).1 in
    a_closed_term (record { before = a.before; pool_before = a.pool_before; after = a.after; pool_after = a.pool_after; sort = a.sort; term = t; answer = a.answer; grown = a.grow.signature; kept = extends_on a.pool_after.trees is.between.trees q.trees a.grow.pool is.kept; is = term_is h q.trees t within }))
    (found t i) in
    record {
      starts = subst (λ ts. AreMade o [] [] ts) (sym m.initial) (number_in_front o [] [] (is_some is.layout.control) (map (term_at e) is.firsts) (each_made o [] [] (term_at e) is.firsts made_first));
      summands = λ y i. subst (λ ps. SummandIsPlain o added ps y) (sym params)
          (summands_are_plain o added m.columns v (form_of e f) m.form m.sorted m.layout m.declared (answers_stay h q stands) control plain.summands y (subst (λ (l : Linear). Contains l.summands y) m.linear i));
    }
