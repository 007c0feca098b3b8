-- What the edges between terms mean, and which variables they lead to.
use Rattle.std.proofs.Common.{◌≡◌, ◌<◌, inl, inr, ⊎_elim, ℕ, zero, suc, List, [], ◌∷◌, map, length, get_or, refl, sym, ap, ◌∙◌, subst, arith, Option, Some, None}
use Rattle.std.specs.Prelude.{Contains, slice_get, option_map, IfSome}
use Rattle.std.specs.List.{All}
use Rattle.std.specs.Global.{Vec}
use Rattle.std.proofs.lemmas.List.{length-map}
use Rattle.std.proofs.lemmas.Option.{slice_get-map, slice_get_within, slice_get-get_or}
use Rattle.std.proofs.lemmas.List.Elements.{All-contains, All-head, All-tail, Contains-append_left, Contains-append_right, Contains-append_cases}
use Rattle.data_theory.specs.declared.ids.FunId.{FunId}
use Rattle.data_theory.specs.declared.ids.VarId.{VarId}
use Rattle.data_theory.specs.declared.ids.TermId.{TermId}
use Rattle.data_theory.specs.Terms as terms
use Rattle.data_theory.specs.Terms.{Term, variables_of, variables_of_all}
use Rattle.data_theory.specs.Signature.{Sig}
use Rattle.data_theory.specs.IdTrees.{Tree, Trees, variable, numeral, function, none, more, trees_of}
use Rattle.data_theory.specs.IdTerms.{term_under, terms_under}
use Rattle.term_pool.specs.declared.terms.Head.{Head}
use Rattle.term_pool.specs.declared.terms.Head.TheVariants.{Var, Num, Fun}
use Rattle.term_pool.specs.HeadTrees.{written_tree, tree_at, trees_at, IsIn, AreIn, Stands}
use Rattle.process_terms.specs.Meanings.{bound_at, term_at}
use Rattle.process_terms.specs.SignatureEntries.{entries_of}
use Rattle.graphs.specs.Graphs.{HasEdge}
use Rattle.bisim_laws.specs.LinearProcesses.{Linear, variables}
use Rattle.bisim_laws.proofs.Firing.{contains_none, contains_first, contains_cases}
use Rattle.lps_core.specs.PlainLinears.{PlainSummand, PlainLinear, summand_of, linear_of}
use Rattle.lps_core.specs.TreeSummands.{IsSummandIn}
use Rattle.lps_core.proofs.Members.{In, here, there, in_contains, contains_in, in_each, each_in, contains_map, map_contains, mapped_at}
use Rattle.lps_core.proofs.Staying.{term_is}
use Rattle.lps_parelm.specs.Needed.{IsNextTerm}
use Rattle.lps_parelm.specs.Uses.{next_number, next_numbers, HaveNextTerms, IsNextUse, AreUses}

-- ---- edges one after another
pub data Leads (edges : List (Vec ℕ)) : ℕ → ℕ → Type 0 where
  no_edge : (a : ℕ) → Leads edges a a
  one_edge : {a b c : ℕ} → HasEdge edges a b → Leads edges b c → Leads edges a c

-- an edge begins at a node
pub edge_begins : (edges : List (Vec ℕ)) (a b : ℕ) → HasEdge edges a b → a < length edges
edge_begins [] a b h = absurd (contains_none b h)
edge_begins (v ∷ vs) zero b h = omega arith
edge_begins (v ∷ vs) (suc a) b h = let l = edge_begins vs a b h in omega (arith, l)

-- ---- arguments
no_numbers : {ids : List TermId} {id : TermId} → ids ≡ [] → Contains ids id → ⊥
no_numbers {id = id} e i = contains_none id (subst (λ z. Contains z id) e i)

arguments_are : (head : Head) (ts : List Tree) (vs : Trees) (f : FunId) → written_tree head ts ≡ function f vs → trees_of ts ≡ vs
arguments_are (Var v) ts vs f e = cc
arguments_are (Num s n) ts vs f e = cc
arguments_are (Fun k) ts vs f e = cc

module _ (g : Sig) (ts : List Tree) where
  abbrev pub under : TermId → Term
  under id = term_under g (tree_at ts id)

  -- an argument's variables are the term's
  argument_inside : (ids : List TermId) (id : TermId) → Contains ids id → (v : ℕ) → Contains (variables_of (under id)) v → Contains (variables_of_all (terms_under g (trees_of (trees_at ts ids)))) v
  argument_inside [] id i v j = absurd (contains_none id i)
  argument_inside (x ∷ ids) id i v j = ⊎_elim
      (λ q. Contains-append_left (variables_of (under x)) (variables_of_all (terms_under g (trees_of (trees_at ts ids)))) v (subst (λ z. Contains (variables_of (under z)) v) (sym q) j))
      (λ k. Contains-append_right (variables_of (under x)) (variables_of_all (terms_under g (trees_of (trees_at ts ids)))) v (argument_inside ids id k v j))
      (contains_cases x id ids i)

  argument_of : (head : Head) (ids : List TermId) → Stands head ids → (id : TermId) → Contains ids id → (v : ℕ) → Contains (variables_of (under id)) v → Contains (variables_of (term_under g (written_tree head (trees_at ts ids)))) v
  argument_of (Var x) ids s id i v j = absurd (no_numbers s i)
  argument_of (Num a n) ids s id i v j = absurd (no_numbers s.0 i)
  argument_of (Fun f) ids s id i v j = argument_inside ids id i v j

-- ---- the graph of a linear process
pub data EdgeMeans (l : Linear) (t u : Term) : Type 0 where
  an_argument_of : ((v : ℕ) → Contains (variables_of u) v → Contains (variables_of t) v) → EdgeMeans l t u
  a_next_term_of : (w : ℕ) → Contains (variables l.params) w → t ≡ terms.variable w → IsNextTerm l w u → EdgeMeans l t u

-- `vars` are the terms of the parameters, and all terms are those of the pool
pub record IsUseGraph (ts : List Tree) (l : PlainLinear) (vars : List TermId) (edges : List (Vec ℕ)) : Type 0 where
  pub uses : AreUses ts vars l.summands edges
  pub inside : AreIn ts vars
  pub are : trees_at ts vars ≡ map variable l.params
  pub next : HaveNextTerms (length vars) l.summands
  pub summands : All (IsSummandIn ts) l.summands

-- a parameter with its place and its term
pub record ParameterAt (ts : List Tree) (l : PlainLinear) (vars : List TermId) (place : ℕ) : Type 0 where
  pub param : VarId
  pub var : TermId
  pub at : slice_get l.params place ≡ Some param
  pub var_at : slice_get vars place ≡ Some var
  pub inside : IsIn ts var
  pub tree : tree_at ts var ≡ variable param

same_some : {A : Type 0} {x y : A} → Some x ≡ Some y → x ≡ y
same_some e = cc

none_some : {A : Type 0} {x : A} → None ≡ Some x → ⊥
none_some e = cc

pub at_contains : {A : Type 0} (xs : List A) (k : ℕ) (x : A) → slice_get xs k ≡ Some x → Contains xs x
at_contains [] k x e = absurd (none_some e)
at_contains (y ∷ xs) zero x e = subst (λ z. Contains (y ∷ xs) z) (same_some e) (contains_first y xs)
at_contains (y ∷ xs) (suc k) x e = let r = at_contains xs k x e in (suc r.0, (omega (arith, r.1)), r.2)

module _ (g : Sig) (ts : List Tree) (l : PlainLinear) (vars : List TermId) (edges : List (Vec ℕ)) (is : IsUseGraph ts l vars edges) where
  abbrev meant : Linear
  meant = linear_of (entries_of g ts) l

  -- ---- parameters by their places
  pub by_var : (place : ℕ) (var : TermId) → slice_get vars place ≡ Some var → ParameterAt ts l vars place
  by_var place var e =
      let tree = sym (ap (λ z. slice_get z place) is.are) ∙ slice_get-map (tree_at ts) vars place ∙ ap (λ z. option_map (tree_at ts) z) e in
      let r = mapped_at variable l.params place (tree_at ts var) tree in
      record { param = r.0; var = var; at = r.1.0; var_at = e; inside = All-contains (IsIn ts) vars var is.inside (at_contains vars place var e); tree = r.1.1 }

  vars_long : length vars ≡ length l.params
  vars_long = sym (length-map vars (tree_at ts)) ∙ ap length is.are ∙ length-map l.params variable

  pub by_param : (place : ℕ) (param : VarId) → slice_get l.params place ≡ Some param → ParameterAt ts l vars place
  by_param place param e =
      let within : place < length vars = let w = slice_get_within l.params place param e in let n = vars_long in omega (arith, w, n) in
      by_var place (get_or vars place (record { 0 = 0 })) (slice_get-get_or vars place (record { 0 = 0 }) within)

  pub param_var : (place : ℕ) (param : VarId) → slice_get l.params place ≡ Some param → slice_get (variables meant.params) place ≡ Some param.0
  param_var place param e = slice_get-map (λ x. x.var) meant.params place ∙ ap (λ z. option_map (λ x. x.var) z) (slice_get-map (bound_at (entries_of g ts)) l.params place ∙ ap (λ z. option_map (bound_at (entries_of g ts)) z) e)

  pub var_param : (place w : ℕ) → slice_get (variables meant.params) place ≡ Some w → (param : VarId) × ((slice_get l.params place ≡ Some param) × (param.0 ≡ w))
  var_param place w e =
      let r = mapped_at (λ x. x.var) meant.params place w e in
      let s = mapped_at (bound_at (entries_of g ts)) l.params place r.0 r.1.0 in
      (s.0, (s.1.0, sym (r.1.1 ∙ ap (λ x. x.var) s.1.1)))

  -- ---- next terms
  pub next_is : (place w : ℕ) → slice_get (variables meant.params) place ≡ Some w → (s : PlainSummand) → Contains l.summands s → (ids : List TermId) → s.next ≡ Some ids → (id : TermId) → slice_get ids place ≡ Some id → IsNextTerm meant w (under g ts id)
  next_is place w p s i ids e id read =
      let within : IsIn ts id = All-contains (IsIn ts) ids id (subst (λ z. IfSome z (AreIn ts)) e (All-contains (IsSummandIn ts) l.summands s is.summands i).next) (at_contains ids place id read) in
      record {
        place = place;
        param = p;
        summand = summand_of (entries_of g ts) s;
        among = map_contains (summand_of (entries_of g ts)) l.summands s i;
        terms = map (term_at (entries_of g ts)) ids;
        next = ap (λ z. option_map (map (term_at (entries_of g ts))) z) e;
        is = slice_get-map (term_at (entries_of g ts)) ids place ∙ ap (λ z. option_map (term_at (entries_of g ts)) z) read ∙ ap (λ z. Some z) (term_is g ts id within);
      }

  pub next_read : (s : PlainSummand) → Contains l.summands s → (ids : List TermId) → s.next ≡ Some ids → (place : ℕ) → place < length vars → slice_get ids place ≡ Some (get_or ids place (record { 0 = 0 }))
  next_read s i ids e place k =
      let long : length ids ≡ length vars = subst (λ z. IfSome z (λ us. length us ≡ length vars)) e (All-contains (λ (x : PlainSummand). IfSome x.next (λ us. length us ≡ length vars)) l.summands s is.next i) in
      slice_get-get_or ids place (record { 0 = 0 }) (omega (arith, long, k))

  has_next : (place : ℕ) (s : PlainSummand) → In s l.summands → (next : Option (List TermId)) → s.next ≡ next → (b : ℕ) → In b (next_number place next) → place < length vars → (w : ℕ) → slice_get (variables meant.params) place ≡ Some w
      → IsNextTerm meant w (under g ts (record { 0 = b }))
  has_next place s i None e b j k w p = elim j [ ]
  has_next place s i (Some ids) e _ here k w p = next_is place w p s (in_contains i) ids e (get_or ids place (record { 0 = 0 })) (next_read s (in_contains i) ids e place k)
  has_next place s i (Some ids) e b (there j) k w p = elim j [ ]

  argument_means : (a b : ℕ) → HasEdge is.uses.within a b → EdgeMeans meant (under g ts (record { 0 = a })) (under g ts (record { 0 = b }))
  argument_means a b h =
      let size = is.uses.arguments.size in
      let begins = edge_begins is.uses.within a b h in
      let k = is.uses.arguments.each a (omega (arith, size, begins)) in
      let r = contains_map (λ (id : TermId). id.0) k.args b (subst (λ z. Contains z b) k.are h) in
      an_argument_of (λ v j. subst (λ z. Contains (variables_of (term_under g z)) v) (sym k.tree) (argument_of g ts k.head k.args k.stands r.0 r.1.0 v (subst (λ n. Contains (variables_of (under g ts (record { 0 = n }))) v) r.1.1 j)))

  next_means : (a b : ℕ) → IsNextUse vars l.summands a b → EdgeMeans meant (under g ts (record { 0 = a })) (under g ts (record { 0 = b }))
  next_means a b h =
      let p = by_var h.0 h.1 h.2 in
      let within = slice_get_within vars h.0 h.1 h.2 in
      let r = in_each (λ (s : PlainSummand). next_number h.0 s.next) l.summands (contains_in (next_numbers h.0 l.summands) h.4) in
      let at = param_var h.0 p.param p.at in
      a_next_term_of p.param.0 (at_contains (variables meant.params) h.0 p.param.0 at) (ap (λ n. under g ts (record { 0 = n })) (sym h.3) ∙ ap (under g ts) (same_some (sym h.2 ∙ p.var_at)) ∙ ap (term_under g) p.tree)
      (has_next h.0 r.0 r.1 r.0.next refl b r.2 within p.param.0 at)

  pub edge_means : (a b : ℕ) → HasEdge edges a b → EdgeMeans meant (under g ts (record { 0 = a })) (under g ts (record { 0 = b }))
  edge_means a b h = ⊎_elim (argument_means a b) (next_means a b) ((is.uses.exact a b).0 h)

  -- ---- down to a variable
  abbrev Reads : TermId → ℕ → Type 0
  Reads id v = Contains (variables_of (under g ts id)) v

  argument_edges : (id : TermId) → IsIn ts id → (f : FunId) (us : Trees) → tree_at ts id ≡ function f us
      → (ids : List TermId) × ((trees_of (trees_at ts ids) ≡ us) × (AreIn ts ids × ((b : TermId) → Contains ids b → HasEdge edges id.0 b.0)))
  argument_edges id w f us e =
      let k = is.uses.arguments.each id.0 w in
      let below : (b : TermId) → Contains k.args b → IsIn ts b = λ b i. let low = All-contains (λ (x : TermId). x.0 < id.0) k.args b k.below i in omega (arith, low, w) in (
        k.args,
        (
          arguments_are k.head (trees_at ts k.args) us f (sym k.tree ∙ e),
          (
            λ n d h. below (get_or k.args n d) (n, h, index_same k.args n d h),
            λ b i. (is.uses.exact id.0 b.0).1 (inl (subst (λ z. Contains z b.0) (sym k.are) (map_contains (λ (x : TermId). x.0) k.args b i))),
          ),
        ),
      )
    where
      index_same : (xs : List TermId) (n : ℕ) (d : TermId) → n < length xs → get_or xs n (get_or xs n d) ≡ get_or xs n d
      index_same [] n d h = absurd (omega (arith, h))
      index_same (x ∷ xs) zero d h = refl
      index_same (x ∷ xs) (suc n) d h = index_same xs n d (omega (arith, h))

  module _ (place : ℕ) (p : ParameterAt ts l vars place) where
    mutual
      descend : (t : Tree) (id : TermId) → IsIn ts id → tree_at ts id ≡ t → Contains (variables_of (term_under g t)) p.param.0 → Leads edges id.0 p.var.0
      descend (variable y) id w e i = ⊎_elim
          (λ q. subst (λ n. Leads edges id.0 n) (is.uses.arguments.distinct id.0 p.var.0 w p.inside (e ∙ ap (λ n. variable (record { 0 = n })) q ∙ sym p.tree)) (no_edge id.0))
          (λ j. absurd (contains_none p.param.0 j)) (contains_cases y.0 p.param.0 [] i)
      descend (numeral s z) id w e i = absurd (contains_none p.param.0 i)
      descend (function f us) id w e i = let k = argument_edges id w f us e in descend_all us id k.0 k.1.0 k.1.1.0 k.1.1.1 i

      descend_all : (us : Trees) (id : TermId) (ids : List TermId) → trees_of (trees_at ts ids) ≡ us → AreIn ts ids → ((b : TermId) → Contains ids b → HasEdge edges id.0 b.0) → Contains (variables_of_all (terms_under g us)) p.param.0 → Leads edges id.0 p.var.0
      descend_all none id ids e w h i = absurd (contains_none p.param.0 i)
      descend_all (more u us) id [] e w h i = absurd (let wrong : ⊥ = cc in wrong)
      descend_all (more u us) id (x ∷ ids) e w h i =
          let first : tree_at ts x ≡ u = cc in
          let rest : trees_of (trees_at ts ids) ≡ us = cc in
          ⊎_elim
          (λ j. one_edge (h x (contains_first x ids)) (descend u x (All-head (IsIn ts) x ids w) first j))
          (λ j. descend_all us id ids rest (All-tail (IsIn ts) x ids w) (λ b k. h b (contains_later_one b k)) j)
          (Contains-append_cases (variables_of (term_under g u)) (variables_of_all (terms_under g us)) p.param.0 i)
        where
          contains_later_one : (b : TermId) → Contains ids b → Contains (x ∷ ids) b
          contains_later_one b k = (suc k.0, (omega (arith, k.1)), k.2)

    pub leads_down : (id : TermId) → IsIn ts id → Reads id p.param.0 → Leads edges id.0 p.var.0
    leads_down id w i = descend (tree_at ts id) id w refl i

  -- the parameter's next terms follow it
  pub next_edge : (place : ℕ) (p : ParameterAt ts l vars place) (s : PlainSummand) (ids : List TermId) (id : TermId) → Contains l.summands s → s.next ≡ Some ids → slice_get ids place ≡ Some id → HasEdge edges p.var.0 id.0
  next_edge place p s ids id i e at =
      (is.uses.exact p.var.0 id.0).1 (inr (place, p.var, p.var_at, refl, in_contains (each_in (λ (x : PlainSummand). next_number place x.next) (contains_in l.summands i) (subst (λ z. In id.0 (next_number place z)) (sym e) (by_place ids at)))))
    where
      by_place : (ids : List TermId) → slice_get ids place ≡ Some id → In id.0 (next_number place (Some ids))
      by_place ids q = subst (λ (z : TermId). In id.0 (z.0 ∷ [])) (sym (get_or_is ids place q)) here
        where
          get_or_is : (xs : List TermId) (n : ℕ) → slice_get xs n ≡ Some id → get_or xs n (record { 0 = 0 }) ≡ id
          get_or_is [] n q = absurd (none_some q)
          get_or_is (x ∷ xs) zero q = same_some q
          get_or_is (x ∷ xs) (suc n) q = get_or_is xs n q
