-- What isn't reached from the parameters that change is the greatest constant set.
use Rattle.std.proofs.Common.{◌≡◌, ◌<◌, ◌⊎◌, inl, inr, ⊎_elim, ℕ, zero, suc, Bool, true, false, cond, ◌==◌, List, [], ◌∷◌, map, length, get_or, refl, sym, ap, ap₂, ◌∙◌, subst, arith, Some, ℤ, pos}
use Rattle.std.specs.Prelude.{Contains, slice_get, option_map, IfSome}
use Rattle.std.specs.Global.{Vec}
use Rattle.std.proofs.lemmas.List.{length-map}
use Rattle.std.proofs.lemmas.Option.{slice_get-map, slice_get-get_or, slice_get_within, get_or_from_slice_get}
use Rattle.std.proofs.lemmas.List.Elements.{All-contains, All-tail, Contains-append_left, Contains-append_right, Contains-append_cases}
use lib.Signed.{lt_z}
use lib.IntN.{neg_ℤ}
use Rattle.data_theory.specs.declared.ids.SortId.{SortId}
use Rattle.data_theory.specs.declared.ids.VarId.{VarId}
use Rattle.data_theory.specs.declared.ids.TermId.{TermId}
use Rattle.data_theory.specs.Terms as terms
use Rattle.data_theory.specs.Terms.{Sort, positive, natural, integer, Symbol, upcast, minus, Term, Terms, numeral, unknown, application, none, more, negated, apply, put, put_all, variables_of, variables_of_all}
use Rattle.data_theory.specs.Declarations.{HasSort, HaveSorts}
use Rattle.data_theory.specs.Environments.{term_in, bound, bound_variables, terms_of, IsOver, AreOver, AreDistinct}
use Rattle.data_theory.specs.Signature.{Sig}
use Rattle.data_theory.specs.WholeSignatures.{IsSignature}
use Rattle.data_theory.specs.IdData.{data_meant}
use Rattle.data_theory.specs.IdTrees.{Tree, put_tree}
use Rattle.data_theory.specs.IdTerms.{term_under, IsTreeWithin}
use Rattle.data_theory.proofs.EnvironmentLemmas.{contains_nothing, contains_first, contains_later, contains_cases, unbound_stay, bound_are_the_parameters, agreeing_give_the_same_term}
use Rattle.data_theory.proofs.GoesToIsEqual.{over_contains}
use Rattle.data_theory.proofs.IdTermLemmas.{putting_in_trees_puts_in_terms, different_trees_mean_different_terms, sorted_trees_are_within}
use Rattle.term_pool.specs.HeadTrees.{tree_at, trees_at, IsIn}
use Rattle.process_terms.specs.Meanings.{bound_at, term_at}
use Rattle.process_terms.specs.SignatureEntries.{entries_of}
use Rattle.graphs.specs.Graphs.{IsReached, IsReversed}
use Rattle.bisim_laws.specs.LinearProcesses.{Linear, variables, sorts}
use Rattle.bisim_laws.specs.BaseStates.{Fate, kept, constant, not_needed}
use Rattle.lps_core.specs.PlainLinears.{PlainLinear, linear_of, initial_of}
use Rattle.lps_core.specs.Fitting.{AreTermsOf, sort_of_variable, SummandFits, Fits}
use Rattle.lps_core.specs.TreeSummands.{bound_tree}
use Rattle.lps_core.proofs.PutWithin.{put_within}
use Rattle.lps_core.proofs.MeantTrees.{numbers_meant, bound_means}
use Rattle.lps_core.proofs.Staying.{term_is, terms_are}
use Rattle.lps_parelm.specs.Needed.{IsNextTerm}
use Rattle.lps_parelm.proofs.UseGraphs.{under, Leads, no_edge, one_edge, EdgeMeans, an_argument_of, a_next_term_of, IsUseGraph, ParameterAt, at_contains, by_var, by_param, param_var, var_param, next_is, next_read, edge_means, leads_down, next_edge}
use Rattle.lps_parelm.specs.Uses.{HaveNextTerms}
use Rattle.lps_parelm.proofs.WholeElimination.{next_terms, init_long, summands_inside, variables_long}
use Rattle.lps_parelm.proofs.NeededParameters.{holds_where_reached, reached_on, mark_at, marked_var, NextId, next_term_id}
use Rattle.lps_constelm.specs.Constants.{AreInitial, put_in, putting, members, IsConstantSet, IsGreatestConstantSet, HasNoConstantSet}
use Rattle.lps_constelm.specs.Putting.{initial_tree, AreNotConstant, set_of}
use Rattle.lps_constelm.proofs.ConstantParameters.{closed_over, bound_is_variable, read_first, read_later, unbound}
use Rattle.lps_constelm.proofs.Values.{among_or_not}

-- ---- variables that stay where terms are put in
negated_reads_nothing : (s : Sort) (z : ℤ) → variables_of (negated s z) ≡ []
negated_reads_nothing s z = elim (lt_z (pos 0) z) as (λ b. variables_of (cond b (numeral integer (neg_ℤ z)) (application (minus s) (more (numeral s z) none))) ≡ []) [ true ↦ refl | false ↦ refl ]

applied_reads : (f : Symbol) (ts : Terms) → variables_of (apply f ts) ≡ variables_of_all ts
applied_reads (upcast positive natural) (more (numeral positive z) none) = refl
applied_reads (upcast natural integer) (more (numeral natural z) none) = refl
applied_reads (upcast positive integer) (more (numeral positive z) none) = refl
applied_reads (minus positive) (more (numeral positive z) none) = negated_reads_nothing positive z
applied_reads (minus natural) (more (numeral natural z) none) = negated_reads_nothing natural z
applied_reads (minus integer) (more (numeral integer z) none) = negated_reads_nothing integer z
applied_reads f ts = refl

mutual
  stays_read : (e : ℕ → Term) (v : ℕ) → e v ≡ terms.variable v → (t : Term) → Contains (variables_of t) v → Contains (variables_of (put e t)) v
  stays_read e v q (terms.variable w) i = ⊎_elim (λ s. subst (λ n. Contains (variables_of (e n)) v) (sym s) (subst (λ t. Contains (variables_of t) v) (sym q) (contains_first v []))) (λ j. absurd (contains_nothing v j)) (contains_cases w v [] i)
  stays_read e v q (numeral a z) i = absurd (contains_nothing v i)
  stays_read e v q (unknown d k) i = absurd (contains_nothing v i)
  stays_read e v q (application f ts) i = subst (λ z. Contains z v) (sym (applied_reads f (put_all e ts))) (all_stay_read e v q ts i)

  all_stay_read : (e : ℕ → Term) (v : ℕ) → e v ≡ terms.variable v → (ts : Terms) → Contains (variables_of_all ts) v → Contains (variables_of_all (put_all e ts)) v
  all_stay_read e v q none i = absurd (contains_nothing v i)
  all_stay_read e v q (more t ts) i = ⊎_elim
      (λ j. Contains-append_left (variables_of (put e t)) (variables_of_all (put_all e ts)) v (stays_read e v q t j))
      (λ j. Contains-append_right (variables_of (put e t)) (variables_of_all (put_all e ts)) v (all_stay_read e v q ts j))
      (Contains-append_cases (variables_of t) (variables_of_all ts) v i)

mutual
  over_itself : (xs : List ℕ) (t : Term) → ((v : ℕ) → Contains (variables_of t) v → Contains xs v) → IsOver xs t
  over_itself xs (terms.variable v) h = h v (contains_first v [])
  over_itself xs (numeral a z) h = tt
  over_itself xs (unknown d k) h = tt
  over_itself xs (application f ts) h = all_over_itself xs ts h

  all_over_itself : (xs : List ℕ) (ts : Terms) → ((v : ℕ) → Contains (variables_of_all ts) v → Contains xs v) → AreOver xs ts
  all_over_itself xs none h = tt
  all_over_itself xs (more t ts) h = (
    over_itself xs t (λ v i. h v (Contains-append_left (variables_of t) (variables_of_all ts) v i)),
    all_over_itself xs ts (λ v i. h v (Contains-append_right (variables_of t) (variables_of_all ts) v i)),
  )

-- terms that are the same for the variables of a term give the same
same_put : (d e : ℕ → Term) (t : Term) → ((v : ℕ) → Contains (variables_of t) v → d v ≡ e v) → put d t ≡ put e t
same_put d e t h = agreeing_give_the_same_term (variables_of t) d e h t (over_itself (variables_of t) t (λ v i. i))

-- ---- what is put in for the members of a set
unbound_variable : (fates : List Fate) (xs : List ℕ) (v : ℕ) → (Contains (bound_variables (put_in fates xs)) v → ⊥) → term_in (put_in fates xs) v ≡ terms.variable v
unbound_variable [] xs v n = refl
unbound_variable (f ∷ fates) [] v n = refl
unbound_variable (kept ∷ fates) (x ∷ xs) v n = unbound_variable fates xs v n
unbound_variable (constant c ∷ fates) (x ∷ xs) v n =
    read_later x v c (put_in fates xs) (λ q. n (subst (λ z. Contains (x ∷ bound_variables (put_in fates xs)) z) q (contains_first x (bound_variables (put_in fates xs))))) ∙ unbound_variable fates xs v (λ i. n (contains_later x v (bound_variables (put_in fates xs)) i))
unbound_variable (not_needed ∷ fates) (x ∷ xs) v n = unbound_variable fates xs v n

-- a member reads its initial term, as it does where all are put in
member_reads : (fates : List Fate) (xs : List ℕ) (init : List Term) (v : ℕ) → AreDistinct xs → length init ≡ length xs → AreInitial fates init → Contains (bound_variables (put_in fates xs)) v → term_in (put_in fates xs) v ≡ term_in (bound xs init) v
member_reads [] xs init v d l a i = absurd (contains_nothing v i)
member_reads (f ∷ fates) [] init v d l a i = absurd (contains_nothing v i)
member_reads (f ∷ fates) (x ∷ xs) [] v d l a i = absurd (omega (arith, l))
member_reads (kept ∷ fates) (x ∷ xs) (t ∷ init) v d l a i =
    member_reads fates xs init v d.1 (omega (arith, l)) a i ∙ sym (read_later x v t (bound xs init) (λ q. d.0 (subst (λ z. Contains xs z) (sym q) (bound_is_variable fates xs v i))))
member_reads (constant c ∷ fates) (x ∷ xs) (t ∷ init) v d l a i = ⊎_elim
    (λ q. subst (λ z. term_in (put_in (constant c ∷ fates) (x ∷ xs)) z ≡ term_in (bound (x ∷ xs) (t ∷ init)) z) q (read_first x c (put_in fates xs) ∙ a.0 ∙ sym (read_first x t (bound xs init))))
    (λ j.
    let n = λ (q : x ≡ v). d.0 (subst (λ z. Contains xs z) (sym q) (bound_is_variable fates xs v j)) in
    read_later x v c (put_in fates xs) n ∙ member_reads fates xs init v d.1 (omega (arith, l)) a.1 j ∙ sym (read_later x v t (bound xs init) n))
    (contains_cases x v (bound_variables (put_in fates xs)) i)
member_reads (not_needed ∷ fates) (x ∷ xs) (t ∷ init) v d l a i = absurd a

bound_at_place : (xs : List ℕ) (init : List Term) (place v : ℕ) (t : Term) → AreDistinct xs → slice_get xs place ≡ Some v → slice_get init place ≡ Some t → term_in (bound xs init) v ≡ t
bound_at_place [] init place v t d e q = absurd (let wrong : ⊥ = cc in wrong)
bound_at_place (x ∷ xs) [] place v t d e q = absurd (let wrong : ⊥ = cc in wrong)
bound_at_place (x ∷ xs) (u ∷ init) zero v t d e q = let same : x ≡ v = cc in let is : u ≡ t = cc in subst (λ z. term_in (bound (x ∷ xs) (u ∷ init)) z ≡ t) same (read_first x u (bound xs init) ∙ is)
bound_at_place (x ∷ xs) (u ∷ init) (suc place) v t d e q = read_later x v u (bound xs init) (λ s. d.0 (subst (λ z. Contains xs z) (sym s) (at_contains xs place v e))) ∙ bound_at_place xs init place v t d.1 e q

-- ---- the set of the unmarked ones
pub set_initial : (marks : List Bool) (init : List Term) → length marks ≡ length init → AreInitial (set_of marks init) init
set_initial [] [] l = tt
set_initial [] (t ∷ init) l = absurd (omega (arith, l))
set_initial (m ∷ marks) [] l = absurd (omega (arith, l))
set_initial (true ∷ marks) (t ∷ init) l = set_initial marks init (omega (arith, l))
set_initial (false ∷ marks) (t ∷ init) l = (refl, set_initial marks init (omega (arith, l)))

-- a member stands at an unmarked place
pub member_place : (marks : List Bool) (init : List Term) (xs : List ℕ) (v : ℕ) → Contains (bound_variables (put_in (set_of marks init) xs)) v → (place : ℕ) × ((slice_get xs place ≡ Some v) × (slice_get marks place ≡ Some false))
member_place [] init xs v i = absurd (contains_nothing v i)
member_place (m ∷ marks) [] xs v i = absurd (contains_nothing v i)
member_place (m ∷ marks) (t ∷ init) [] v i = absurd (contains_nothing v i)
member_place (true ∷ marks) (t ∷ init) (x ∷ xs) v i = let r = member_place marks init xs v i in (suc r.0, r.1)
member_place (false ∷ marks) (t ∷ init) (x ∷ xs) v i = ⊎_elim (λ q. (0, (ap (λ z. Some z) q, refl))) (λ j. let r = member_place marks init xs v j in (suc r.0, r.1)) (contains_cases x v (bound_variables (put_in (set_of marks init) xs)) i)

pub place_member : (marks : List Bool) (init : List Term) (xs : List ℕ) (v place : ℕ) → length marks ≡ length init → slice_get xs place ≡ Some v → slice_get marks place ≡ Some false → Contains (bound_variables (put_in (set_of marks init) xs)) v
place_member [] init xs v place l e m = absurd (let wrong : ⊥ = cc in wrong)
place_member (b ∷ marks) [] xs v place l e m = absurd (omega (arith, l))
place_member (b ∷ marks) (t ∷ init) [] v place l e m = absurd (let wrong : ⊥ = cc in wrong)
place_member (true ∷ marks) (t ∷ init) (x ∷ xs) v zero l e m = absurd (let wrong : ⊥ = cc in wrong)
place_member (false ∷ marks) (t ∷ init) (x ∷ xs) v zero l e m = let same : x ≡ v = cc in subst (λ z. Contains (x ∷ bound_variables (put_in (set_of marks init) xs)) z) same (contains_first x (bound_variables (put_in (set_of marks init) xs)))
place_member (true ∷ marks) (t ∷ init) (x ∷ xs) v (suc place) l e m = place_member marks init xs v place (omega (arith, l)) e m
place_member (false ∷ marks) (t ∷ init) (x ∷ xs) v (suc place) l e m = contains_later x v (bound_variables (put_in (set_of marks init) xs)) (place_member marks init xs v place (omega (arith, l)) e m)

-- closed terms at their places
closed_at : (g : Sig) (init : List Term) (ss : List Sort) (place : ℕ) (t : Term) → HaveSorts (data_meant g) [] (terms_of init) ss → slice_get init place ≡ Some t → (s : Sort) × HasSort (data_meant g) [] t s
closed_at g [] ss place t h e = absurd (let wrong : ⊥ = cc in wrong)
closed_at g (u ∷ init) [] place t h e = absurd h
closed_at g (u ∷ init) (s ∷ ss) zero t h e = let same : u ≡ t = cc in (s, subst (λ z. HasSort (data_meant g) [] z s) same h.0)
closed_at g (u ∷ init) (s ∷ ss) (suc place) t h e = closed_at g init ss place t h.1 e

-- a term that becomes a closed one has only variables for which something is put in
reads_bound : (g : Sig) (e : ℕ → Term) (t c : Term) (s : Sort) → HasSort (data_meant g) [] c s → put e t ≡ c → (v : ℕ) → Contains (variables_of t) v → e v ≡ terms.variable v → ⊥
reads_bound g e t c s h q v i n = contains_nothing v (over_contains [] c v (closed_over (data_meant g) [] c s h) (subst (λ z. Contains (variables_of z) v) q (stays_read e v n t i)))

-- ---- places
one_place : (xs : List ℕ) (i j v : ℕ) → AreDistinct xs → slice_get xs i ≡ Some v → slice_get xs j ≡ Some v → i ≡ j
one_place [] i j v d e q = absurd (let wrong : ⊥ = cc in wrong)
one_place (x ∷ xs) zero zero v d e q = refl
one_place (x ∷ xs) zero (suc j) v d e q = absurd (d.0 (subst (λ z. Contains xs z) (let same : v ≡ x = cc in same) (at_contains xs j v q)))
one_place (x ∷ xs) (suc i) zero v d e q = absurd (d.0 (subst (λ z. Contains xs z) (let same : v ≡ x = cc in same) (at_contains xs i v e)))
one_place (x ∷ xs) (suc i) (suc j) v d e q = ap suc (one_place xs i j v d.1 e q)

place_of : (xs : List ℕ) (v : ℕ) → Contains xs v → (k : ℕ) × (slice_get xs k ≡ Some v)
place_of xs v i = (i.0, slice_get-get_or xs i.0 v i.1 ∙ ap (λ z. Some z) i.2)

true_or_false : (marks : List Bool) (place : ℕ) → place < length marks → (slice_get marks place ≡ Some true) ⊎ (slice_get marks place ≡ Some false)
true_or_false [] place l = absurd (omega (arith, l))
true_or_false (true ∷ marks) zero l = inl refl
true_or_false (false ∷ marks) zero l = inr refl
true_or_false (m ∷ marks) (suc place) l = true_or_false marks place (omega (arith, l))

-- against the edges
reached_up : (edges back : List (Vec ℕ)) (start : List ℕ) → IsReversed edges back → {a b : ℕ} → IsReached back start b → Leads edges a b → IsReached back start a
reached_up edges back start t r (no_edge a) = r
reached_up edges back start t r (one_edge {a = a} {b = b} h k) = reached_on back start b a (reached_up edges back start t r k) ((t.exact a b).1 h)

-- ---- the theorem
module _ (g : Sig) (ts : List Tree) (l : PlainLinear) (marks : List Bool) (n : AreNotConstant ts l marks) (stands : IsSignature g) (fits : Fits g ts l) where
  abbrev L : Linear
  L = linear_of (entries_of g ts) l

  abbrev init : List Term
  init = initial_of (entries_of g ts) l

  abbrev ps : List ℕ
  ps = variables L.params

  abbrev all_in : ℕ → Term
  all_in = term_in (bound ps init)

  abbrev set : List Fate
  set = set_of marks init

  vars_long : length n.vars ≡ length l.params
  vars_long = variables_long ts n.vars l n.are

  graph : IsUseGraph ts l n.vars n.edges
  graph = record { uses = n.uses; inside = n.inside; are = n.are; next = subst (λ k. HaveNextTerms k l.summands) (sym vars_long) (next_terms g ts l fits); summands = summands_inside g ts l fits }

  ps_params : length ps ≡ length l.params
  ps_params = length-map L.params (λ x. x.var) ∙ length-map l.params (bound_at (entries_of g ts))

  ps_long : length init ≡ length ps
  ps_long = length-map l.init (term_at (entries_of g ts)) ∙ init_long g ts l fits ∙ sym ps_params

  pub marks_long : length marks ≡ length l.params
  marks_long = ap length n.lead.marks_are ∙ length-map n.vars _ ∙ vars_long

  marks_init : length marks ≡ length init
  marks_init = marks_long ∙ sym ps_params ∙ sym ps_long

  -- what the code puts in is what an environment puts in
  trees_put : (id : TermId) → term_under g (put_tree (initial_tree ts l) (tree_at ts id)) ≡ put all_in (under g ts id)
  trees_put id =
      putting_in_trees_puts_in_terms g stands.table (initial_tree ts l) (tree_at ts id)
      ∙ same_put (λ v. term_under g (initial_tree ts l (record { 0 = v }))) all_in (under g ts id)
      (λ v i. bound_means g l.params (trees_at ts l.init) (record { 0 = v }) ∙ ap₂ (λ xs us. term_in (bound xs us) v) (sym (numbers_meant g ts l.params)) (sym (terms_are g ts l.init fits.init.within)))

  -- the initial term at a place
  record InitialAt (place : ℕ) : Type 0 where
    term : Term
    at : slice_get init place ≡ Some term
    is_under : under g ts (get_or l.init place (record { 0 = 0 })) ≡ term
    sort : Sort
    is_closed : HasSort (data_meant g) [] term sort

  initial_at : (place : ℕ) → place < length l.params → InitialAt place
  initial_at place w =
      let count = init_long g ts l fits in
      let id = get_or l.init place (record { 0 = 0 }) in
      let read : slice_get l.init place ≡ Some id = slice_get-get_or l.init place (record { 0 = 0 }) (omega (arith, w, count)) in
      let at : slice_get init place ≡ Some (under g ts id) = slice_get-map (term_at (entries_of g ts)) l.init place ∙ ap (λ z. option_map (term_at (entries_of g ts)) z) read ∙ ap (λ z. Some z) (term_is g ts id (All-contains (IsIn ts) l.init id fits.init.within (at_contains l.init place id read))) in
      let k = closed_at g init (sorts L.params) place (under g ts id) fits.closed at in
      record { term = under g ts id; at = at; is_under = refl; sort = k.0; is_closed = k.1 }

  param_below : (place v : ℕ) → slice_get ps place ≡ Some v → place < length l.params
  param_below place v e = let w = slice_get_within ps place v e in let k = ps_params in omega (arith, w, k)

  all_reads : (place v : ℕ) (e : slice_get ps place ≡ Some v) → all_in v ≡ (initial_at place (param_below place v e)).term
  all_reads place v e = bound_at_place ps init place v _ fits.linear.distinct e (initial_at place (param_below place v e)).at

  -- ---- any constant set
  module _ (C : List Fate) (c : IsConstantSet L init C) where
    reads_all : (v : ℕ) → Contains (members C L) v → term_in (putting C L) v ≡ all_in v
    reads_all v i = member_reads C ps init v fits.linear.distinct ps_long c.initial i

    reads_members : (v : ℕ) (t : Term) → Contains (members C L) v → IsNextTerm L v t → (w : ℕ) → Contains (variables_of t) w → Contains (members C L) w
    reads_members v t i nt w j = ⊎_elim (λ k. k)
        (λ no.
        let e = nt.param in
        let first = initial_at nt.place (param_below nt.place v e) in
        absurd (reads_bound g (term_in (putting C L)) t first.term first.sort first.is_closed (c.stays v t i nt ∙ reads_all v i ∙ all_reads nt.place v e) w j (unbound_variable C ps w no)))
        (among_or_not (members C L) w)

    stays_all : (v : ℕ) (t : Term) → Contains (members C L) v → IsNextTerm L v t → put all_in t ≡ all_in v
    stays_all v t i nt = sym (same_put (term_in (putting C L)) all_in t (λ w j. reads_all w (reads_members v t i nt w j))) ∙ c.stays v t i nt ∙ reads_all v i

    -- a term reads a parameter that isn't a member
    record ReadsOther (a : ℕ) : Type 0 where
      var : ℕ
      inside : Contains (variables_of (under g ts (record { 0 = a }))) var
      other : Contains (members C L) var → ⊥

    inits_within : (x : VarId) (xs : List VarId) (ids : List TermId) (ss : List SortId) → AreTermsOf g ts ss ids → IsTreeWithin g (bound_tree xs (trees_at ts ids) x)
    inits_within x [] ids ss h = tt
    inits_within x (y ∷ xs) [] ss h = tt
    inits_within x (y ∷ xs) (id ∷ ids) [] h = absurd h.sorted
    inits_within x (y ∷ xs) (id ∷ ids) (s ∷ ss) h =
        by_test (y.0 == x.0) (sorted_trees_are_within g stands.table (tree_at ts id) s h.sorted.0) (inits_within x xs ids ss (record { within = All-tail (IsIn ts) id ids h.within; sorted = h.sorted.1 }))
      where
        by_test : (b : Bool) → IsTreeWithin g (tree_at ts id) → IsTreeWithin g (bound_tree xs (trees_at ts ids) x) → IsTreeWithin g (cond b (tree_at ts id) (bound_tree xs (trees_at ts ids) x))
        by_test true p q = p
        by_test false p q = q

    id_within : (ids : List TermId) (ss : List SortId) → AreTermsOf g ts ss ids → (place : ℕ) (id : TermId) → slice_get ids place ≡ Some id → IsTreeWithin g (tree_at ts id)
    id_within [] ss h place id e = absurd (let wrong : ⊥ = cc in wrong)
    id_within (x ∷ ids) [] h place id e = absurd h.sorted
    id_within (x ∷ ids) (s ∷ ss) h zero id e = let same : x ≡ id = cc in subst (λ z. IsTreeWithin g (tree_at ts z)) same (sorted_trees_are_within g stands.table (tree_at ts x) s h.sorted.0)
    id_within (x ∷ ids) (s ∷ ss) h (suc place) id e = id_within ids ss (record { within = All-tail (IsIn ts) x ids h.within; sorted = h.sorted.1 }) place id e

    changing_reads : (a : ℕ) → Contains n.start a → ReadsOther a
    changing_reads a i =
        let k = n.changing.sound a i in
        let p = by_var g ts l n.vars n.edges graph k.0 k.1 k.2 in
        let same : p.var ≡ k.1 = let q = k.2 in let r = p.var_at in cc in
        let e = param_var g ts l n.vars n.edges graph k.0 p.param p.at in
        let ch = k.4 in
        let read = next_read g ts l n.vars n.edges graph ch.summand ch.among ch.ids ch.next k.0 (slice_get_within n.vars k.0 k.1 k.2) in
        let id = get_or ch.ids k.0 (record { 0 = 0 }) in
        let nt = next_is g ts l n.vars n.edges graph k.0 p.param.0 e ch.summand ch.among ch.ids ch.next id read in
        let first = initial_at k.0 (param_below k.0 p.param.0 e) in
        let fit : IfSome ch.summand.next (AreTermsOf g ts (map (sort_of_variable g) l.params)) = (All-contains (SummandFits g ts l.params) l.summands ch.summand fits.summands ch.among).next in
        let within = id_within ch.ids (map (sort_of_variable g) l.params) (subst (λ z. IfSome z (AreTermsOf g ts (map (sort_of_variable g) l.params))) ch.next fit) k.0 id read in
        let count = init_long g ts l fits in
        let below = param_below k.0 p.param.0 e in
        let init_within = id_within l.init (map (sort_of_variable g) l.params) fits.init k.0 (get_or l.init k.0 (record { 0 = 0 })) (slice_get-get_or l.init k.0 (record { 0 = 0 }) (omega (arith, below, count))) in
        record {
          var = p.param.0;
          inside = subst (λ t. Contains (variables_of t) p.param.0) (sym (ap (λ m. under g ts (record { 0 = m })) (sym k.3) ∙ ap (under g ts) (sym same) ∙ ap (term_under g) p.tree)) (contains_first p.param.0 []);
          other = λ m. ch.differs
              (different_trees_mean_different_terms g stands.table (put_tree (initial_tree ts l) (tree_at ts id)) (tree_at ts (get_or l.init k.0 (record { 0 = 0 })))
              (put_within g stands.complete (initial_tree ts l) (λ x. inits_within x l.params l.init (map (sort_of_variable g) l.params) fits.init) (tree_at ts id) within) init_within
              (trees_put id ∙ stays_all p.param.0 (under g ts id) m nt ∙ all_reads k.0 p.param.0 e ∙ sym first.is_under));
        }

    by_edge : (a b : ℕ) → ReadsOther a → EdgeMeans L (under g ts (record { 0 = b })) (under g ts (record { 0 = a })) → ReadsOther b
    by_edge a b r (an_argument_of k) = record { var = r.var; inside = k r.var r.inside; other = r.other }
    by_edge a b r (a_next_term_of w i e nt) = record {
      var = w;
      inside = subst (λ t. Contains (variables_of t) w) (sym e) (contains_first w []);
      other = λ m. r.other (reads_members w (under g ts (record { 0 = a })) m nt r.var r.inside);
    }

    reached_reads : (b : ℕ) → IsReached n.lead.back n.start b → ReadsOther b
    reached_reads = holds_where_reached n.lead.back n.start ReadsOther changing_reads (λ a b r e. by_edge a b r (edge_means g ts l n.vars n.edges graph b a ((n.lead.turned.exact b a).0 e)))

    -- a member isn't marked
    not_marked : (v place : ℕ) → Contains (members C L) v → slice_get ps place ≡ Some v → slice_get marks place ≡ Some true → ⊥
    not_marked v place i e m =
        let r = marked_var n.lead.reached n.vars place (subst (λ z. slice_get z place ≡ Some true) n.lead.marks_are m) in
        let p = by_var g ts l n.vars n.edges graph place r.0 r.1.0 in
        let k = param_var g ts l n.vars n.edges graph place p.param p.at in
        let same : p.param.0 ≡ v = cc in
        let var : p.var ≡ r.0 = let q = r.1.0 in let s = p.var_at in cc in
        let o = reached_reads r.0.0 ((n.lead.exact.exact r.0.0).0 r.1.1) in
        let tree : under g ts r.0 ≡ terms.variable v = ap (under g ts) (sym var) ∙ ap (term_under g) p.tree ∙ ap terms.variable same in
        ⊎_elim (λ q. o.other (subst (λ z. Contains (members C L) z) q i)) (λ j. contains_nothing o.var j) (contains_cases v o.var [] (subst (λ t. Contains (variables_of t) o.var) tree o.inside))

    greater : (v : ℕ) → Contains (members C L) v → Contains (members set L) v
    greater v i =
        let k = place_of ps v (bound_is_variable C ps v i) in
        let below = param_below k.0 v k.1 in
        let count = marks_long in
        ⊎_elim (λ m. absurd (not_marked v k.0 i k.1 m)) (λ m. place_member marks init ps v k.0 marks_init k.1 m) (true_or_false marks k.0 (omega (arith, below, count)))

  -- ---- the unmarked ones are a constant set
  marked_where_reached : (place : ℕ) (p : ParameterAt ts l n.vars place) → IsReached n.lead.back n.start p.var.0 → slice_get marks place ≡ Some true
  marked_where_reached place p r = ap (λ z. slice_get z place) n.lead.marks_are ∙ mark_at n.lead.reached n.vars place p.var p.var_at ∙ ap (λ b. Some b) ((n.lead.exact.exact p.var.0).1 r)

  differ : (place : ℕ) → slice_get marks place ≡ Some false → slice_get marks place ≡ Some true → ⊥
  differ place e q = cc

  unmarked_stays : (v : ℕ) (t : Term) → Contains (members set L) v → IsNextTerm L v t → put (term_in (putting set L)) t ≡ term_in (putting set L) v
  unmarked_stays v t i nt =
      let r = member_place marks init ps v i in
      let same : nt.place ≡ r.0 = one_place ps nt.place r.0 v fits.linear.distinct nt.param r.1.0 in
      let unset : slice_get marks nt.place ≡ Some false = subst (λ k. slice_get marks k ≡ Some false) (sym same) r.1.1 in
      let from = var_param g ts l n.vars n.edges graph nt.place v nt.param in
      let p = by_param g ts l n.vars n.edges graph nt.place from.0 from.1.0 in
      let id = next_term_id g ts l n.vars n.edges graph nt in
      let stays = n.changing.others nt.place p.var p.var_at (λ s. differ nt.place unset (marked_where_reached nt.place p (inl s))) id.summand id.ids id.among id.next in
      let first = initial_at nt.place (param_below nt.place v nt.param) in
      let read : get_or id.ids nt.place (record { 0 = 0 }) ≡ id.id = get_or_from_slice_get id.ids nt.place id.id (record { 0 = 0 }) id.at in
      let all : put all_in t ≡ all_in v =
      ap (put all_in) id.same ∙ sym (trees_put id.id) ∙ ap (λ x. term_under g (put_tree (initial_tree ts l) (tree_at ts x))) (sym read) ∙ ap (term_under g) stays ∙ first.is_under ∙ sym (all_reads nt.place v nt.param) in
      same_put (term_in (putting set L)) all_in t (λ w j. reads_same nt.place p id unset w (subst (λ x. Contains (variables_of x) w) id.same j)) ∙ all ∙ sym (member_reads set ps init v fits.linear.distinct ps_long (set_initial marks init marks_init) i)
    where
      reads_same : (place : ℕ) (p : ParameterAt ts l n.vars place) (id : NextId g ts l n.vars n.edges graph place t) → slice_get marks place ≡ Some false → (w : ℕ) → Contains (variables_of (under g ts id.id)) w → term_in (putting set L) w ≡ all_in w
      reads_same place p id unset w j = ⊎_elim
          (λ k.
          let at = place_of ps w k in
          let from = var_param g ts l n.vars n.edges graph at.0 w at.1 in
          let q = by_param g ts l n.vars n.edges graph at.0 from.0 from.1.0 in
          let is : q.param.0 ≡ w = let a = q.at in let b = from.1.0 in let c = from.1.1 in let d : q.param ≡ from.0 = cc in ap (λ (x : VarId). x.0) d ∙ c in
          let down = leads_down g ts l n.vars n.edges graph at.0 q id.id id.inside (subst (λ m. Contains (variables_of (under g ts id.id)) m) (sym is) j) in
          let edge = next_edge g ts l n.vars n.edges graph place p id.summand id.ids id.id id.among id.next id.at in
          let below = param_below at.0 w at.1 in
          let count = marks_long in
          ⊎_elim
          (λ m. absurd (differ place unset (marked_where_reached place p (reached_up n.edges n.lead.back n.start n.lead.turned (marked_is_reached at.0 q m) (one_edge edge down)))))
          (λ m. member_reads set ps init w fits.linear.distinct ps_long (set_initial marks init marks_init) (place_member marks init ps w at.0 marks_init at.1 m))
          (true_or_false marks at.0 (omega (arith, below, count))))
          (λ no. unbound set ps w no ∙ sym (unbound_stay (bound ps init) w (λ k. no (subst (λ z. Contains z w) (bound_are_the_parameters ps init ps_long) k))))
          (among_or_not ps w)
        where
          marked_is_reached : (place : ℕ) (q : ParameterAt ts l n.vars place) → slice_get marks place ≡ Some true → IsReached n.lead.back n.start q.var.0
          marked_is_reached place q m =
              let r = marked_var n.lead.reached n.vars place (subst (λ z. slice_get z place ≡ Some true) n.lead.marks_are m) in
              let same : r.0 ≡ q.var = let a = r.1.0 in let b = q.var_at in cc in
              subst (λ (z : TermId). IsReached n.lead.back n.start z.0) same ((n.lead.exact.exact r.0.0).0 r.1.1)

  pub greatest_set : IsGreatestConstantSet L init set
  greatest_set = record {
    constant_set = record { initial = set_initial marks init marks_init; stays = unmarked_stays };
    greatest = λ others c. greater others c;
  }

-- ---- where all are marked, and where one isn't
all_marked_members : (marks : List Bool) (first : List Term) (xs : List ℕ) → ((place : ℕ) → slice_get marks place ≡ Some false → ⊥) → bound_variables (put_in (set_of marks first) xs) ≡ []
all_marked_members [] first xs h = refl
all_marked_members (m ∷ marks) [] xs h = refl
all_marked_members (m ∷ marks) (t ∷ first) [] h = no_name m
  where
    no_name : (m : Bool) → bound_variables (put_in (cond m kept (constant t) ∷ set_of marks first) []) ≡ []
    no_name true = refl
    no_name false = refl
all_marked_members (true ∷ marks) (t ∷ first) (x ∷ xs) h = all_marked_members marks first xs (λ place e. h (suc place) e)
all_marked_members (false ∷ marks) (t ∷ first) (x ∷ xs) h = absurd (h 0 refl)

pub none_left : (l : Linear) (init : List Term) (marks : List Bool) → ((place : ℕ) → slice_get marks place ≡ Some false → ⊥) → IsGreatestConstantSet l init (set_of marks init) → HasNoConstantSet l init
none_left l init marks h g fates c = no_members (members fates l) (λ v i. contains_nothing v (subst (λ z. Contains z v) (all_marked_members marks init (variables l.params) h) (g.greatest fates c v i)))
  where
    no_members : (xs : List ℕ) → ((v : ℕ) → Contains xs v → ⊥) → xs ≡ []
    no_members [] w = refl
    no_members (x ∷ xs) w = absurd (w x (contains_first x xs))

pub some_left : (l : Linear) (init : List Term) (marks : List Bool) (place v : ℕ) → length marks ≡ length init → slice_get (variables l.params) place ≡ Some v → slice_get marks place ≡ Some false → members (set_of marks init) l ≡ [] → ⊥
some_left l init marks place v k e m q = contains_nothing v (subst (λ z. Contains z v) q (place_member marks init (variables l.params) v place k e m))
