-- The marked parameters are the needed ones.
use Rattle.std.proofs.Common.{◌≡◌, inl, inr, ℕ, Bool, true, false, List, [], ◌∷◌, ◌++◌, map, length, refl, sym, ap, ◌∙◌, subst, arith, Option, Some, None}
use Rattle.std.specs.Prelude.{Contains, flat_map, slice_get, slice_index_or, option_map, IfSome}
use Rattle.std.specs.Global.{Vec}
use Rattle.std.proofs.lemmas.List.{length-map}
use Rattle.std.proofs.lemmas.Option.{slice_get-map, slice_get-get_or}
use Rattle.std.proofs.lemmas.List.Elements.{All-contains}
use Rattle.data_theory.specs.declared.ids.VarId.{VarId}
use Rattle.data_theory.specs.declared.ids.TermId.{TermId}
use Rattle.data_theory.specs.Terms as terms
use Rattle.data_theory.specs.Terms.{Term, variables_of}
use Rattle.data_theory.specs.Signature.{Sig}
use Rattle.data_theory.specs.IdTrees.{Tree}
use Rattle.data_theory.specs.IdTerms.{term_under}
use Rattle.term_pool.specs.HeadTrees.{IsIn, AreIn}
use Rattle.process_terms.specs.PlainProcesses.{PlainAction}
use Rattle.process_terms.specs.Meanings.{term_at, action_of}
use Rattle.process_terms.specs.SignatureEntries.{entries_of}
use Rattle.graphs.specs.Graphs.{HasEdge, IsPath, IsReached, IsMarked}
use Rattle.bisim_laws.specs.LinearProcesses.{Linear, variables}
use Rattle.bisim_laws.proofs.Firing.{contains_first}
use Rattle.lps_core.specs.PlainLinears.{PlainSummand, PlainLinear, summand_of, linear_of}
use Rattle.lps_core.specs.TreeSummands.{IsSummandIn, IsActionIn}
use Rattle.lps_core.proofs.Members.{In, here, there, in_contains, contains_in, in_map, map_in, in_each, each_in, contains_map, map_contains, mapped_at}
use Rattle.lps_core.proofs.Staying.{term_is}
use Rattle.lps_parelm.specs.Keeping.{keep, fates_of}
use Rattle.lps_parelm.specs.Needed.{IsShown, a_condition, an_argument, IsNextTerm, IsParameterIn, IsNeeded, shown, handed_on, AreKeptOrNotNeeded, KeepTheNeeded}
use Rattle.lps_parelm.specs.Uses.{numbers, argument_numbers, shown_numbers, AreMarked}
use Rattle.lps_parelm.proofs.KeptPlaces.{kept_is_marked, marked_is_kept}
use Rattle.lps_parelm.proofs.UseGraphs.{under, Leads, no_edge, one_edge, EdgeMeans, an_argument_of, a_next_term_of, IsUseGraph, ParameterAt, at_contains, by_var, by_param, param_var, var_param, edge_means, leads_down, next_edge}

-- ---- reached nodes
path_on : (E : ℕ → ℕ → Type 0) (a : ℕ) (xs : List ℕ) (b c : ℕ) → IsPath E a xs b → E b c → IsPath E a (xs ++ b ∷ []) c
path_on E a [] b c h k = (h, k)
path_on E a (x ∷ xs) b c h k = (h.0, path_on E x xs b c h.1 k)

pub reached_on : (edges : List (Vec ℕ)) (start : List ℕ) (a b : ℕ) → IsReached edges start a → HasEdge edges a b → IsReached edges start b
reached_on edges start a b (inl i) h = inr (a, [], i, h)
reached_on edges start a b (inr k) h = inr (k.0, k.1 ++ a ∷ [], k.2, path_on (HasEdge edges) k.0 k.1 a b k.3 h)

pub reached_down : (edges : List (Vec ℕ)) (start : List ℕ) {a b : ℕ} → IsReached edges start a → Leads edges a b → IsReached edges start b
reached_down edges start r (no_edge a) = r
reached_down edges start r (one_edge {a = a} {b = b} h k) = reached_down edges start (reached_on edges start a b r h) k

-- what holds at the start and along edges holds where a node is reached
pub along_path : (E : ℕ → ℕ → Type 0) (P : ℕ → Type 0) → ((a b : ℕ) → P a → E a b → P b) → (a : ℕ) (xs : List ℕ) (b : ℕ) → P a → IsPath E a xs b → P b
along_path E P step a [] b p h = step a b p h
along_path E P step a (x ∷ xs) b p h = along_path E P step x xs b (step a x p h.0) h.1

pub holds_where_reached : (edges : List (Vec ℕ)) (start : List ℕ) (P : ℕ → Type 0) → ((a : ℕ) → Contains start a → P a) → ((a b : ℕ) → P a → HasEdge edges a b → P b) → (b : ℕ) → IsReached edges start b → P b
holds_where_reached edges start P first step b (inl i) = first b i
holds_where_reached edges start P first step b (inr k) = along_path (HasEdge edges) P step k.0 k.1 b (first k.0 k.2) k.3

-- ---- marks of the parameters
pub mark_at : (reached : List Bool) (vars : List TermId) (place : ℕ) (var : TermId) → slice_get vars place ≡ Some var → slice_get (map (λ (x : TermId). slice_index_or reached x.0 false) vars) place ≡ Some (slice_index_or reached var.0 false)
mark_at reached vars place var e = slice_get-map (λ (x : TermId). slice_index_or reached x.0 false) vars place ∙ ap (λ z. option_map (λ (x : TermId). slice_index_or reached x.0 false) z) e

pub marked_var : (reached : List Bool) (vars : List TermId) (place : ℕ) → slice_get (map (λ (x : TermId). slice_index_or reached x.0 false) vars) place ≡ Some true → (var : TermId) × ((slice_get vars place ≡ Some var) × IsMarked reached var.0)
marked_var reached vars place e = let r = mapped_at (λ (x : TermId). slice_index_or reached x.0 false) vars place true e in (r.0, (r.1.0, sym r.1.1))

pub fates_each : (marks : List Bool) (xs : List ℕ) → length marks ≡ length xs → AreKeptOrNotNeeded (fates_of marks) xs
fates_each [] [] e = tt
fates_each [] (x ∷ xs) e = absurd (omega (arith, e))
fates_each (m ∷ marks) [] e = absurd (omega (arith, e))
fates_each (true ∷ marks) (x ∷ xs) e = fates_each marks xs (omega (arith, e))
fates_each (false ∷ marks) (x ∷ xs) e = fates_each marks xs (omega (arith, e))

module _ (g : Sig) (ts : List Tree) (l : PlainLinear) (vars : List TermId) (edges : List (Vec ℕ)) (is : IsUseGraph ts l vars edges) where
  abbrev meant : Linear
  meant = linear_of (entries_of g ts) l

  abbrev start : List ℕ
  start = flat_map shown_numbers l.summands

  -- ---- what is reached is needed
  argument_shown : (s : PlainSummand) → In s l.summands → (m : List PlainAction) → ((a : PlainAction) → In a m → In a s.label) → (n : ℕ) → In n (argument_numbers m) → IsShown meant (under g ts (record { 0 = n }))
  argument_shown s i m w n j =
      let r = in_each (λ (a : PlainAction). numbers a.args) m j in
      let q = in_map (λ (id : TermId). id.0) r.0.args r.2 in
      let a = in_contains (w r.0 r.1) in
      let id = in_contains q.1 in
      let inside : IsIn ts q.0 = All-contains (IsIn ts) r.0.args q.0 (All-contains (IsActionIn ts) s.label r.0 (All-contains (IsSummandIn ts) l.summands s is.summands (in_contains i)).label a) id in
      subst (λ z. IsShown meant z) (term_is g ts q.0 inside ∙ ap (λ k. under g ts (record { 0 = k })) (sym q.2))
      (an_argument {s = summand_of (entries_of g ts) s} {a = action_of (entries_of g ts) r.0} (map_contains (summand_of (entries_of g ts)) l.summands s (in_contains i)) (map_contains (action_of (entries_of g ts)) s.label r.0 a)
      (map_contains (term_at (entries_of g ts)) r.0.args q.0 id))

  start_shown : (n : ℕ) → Contains start n → IsShown meant (under g ts (record { 0 = n }))
  start_shown n i = let r = in_each shown_numbers l.summands (contains_in start i) in by_place n r.0 r.1 r.2
    where
      by_place : (k : ℕ) (s : PlainSummand) → In s l.summands → In k (shown_numbers s) → IsShown meant (under g ts (record { 0 = k }))
      by_place _ s i here =
          subst (λ z. IsShown meant z) (term_is g ts s.condition (All-contains (IsSummandIn ts) l.summands s is.summands (in_contains i)).condition)
          (a_condition {s = summand_of (entries_of g ts) s} (map_contains (summand_of (entries_of g ts)) l.summands s (in_contains i)))
      by_place k s i (there j) = argument_shown s i s.label (λ a q. q) k j

  -- the parameters in it are needed
  abbrev HasNeededOnes : ℕ → Type 0
  HasNeededOnes n = (v : ℕ) → IsParameterIn meant v (under g ts (record { 0 = n })) → IsNeeded meant v

  by_edge : (a b : ℕ) → HasNeededOnes a → EdgeMeans meant (under g ts (record { 0 = a })) (under g ts (record { 0 = b })) → HasNeededOnes b
  by_edge a b h (an_argument_of k) v p = h v (record { param = p.param; inside = k v p.inside })
  by_edge a b h (a_next_term_of w i e n) v p = handed_on (h w (record { param = i; inside = subst (λ t. Contains (variables_of t) w) (sym e) (contains_first w []) })) n p

  reached_needed : (n : ℕ) → IsReached edges start n → HasNeededOnes n
  reached_needed = holds_where_reached edges start HasNeededOnes (λ n i v p. shown (start_shown n i) p) (λ a b h e. by_edge a b h (edge_means g ts l vars edges is a b e))

  -- ---- what is needed is reached
  start_has : (s : PlainSummand) → Contains l.summands s → (n : ℕ) → In n (shown_numbers s) → Contains start n
  start_has s i n j = in_contains (each_in shown_numbers (contains_in l.summands i) j)

  shown_reached : {t : Term} → IsShown meant t → (place : ℕ) (p : ParameterAt ts l vars place) → Contains (variables_of t) p.param.0 → IsReached edges start p.var.0
  shown_reached (a_condition {s = s} i) place p j =
      let r = contains_map (summand_of (entries_of g ts)) l.summands s i in
      let inside = (All-contains (IsSummandIn ts) l.summands r.0 is.summands r.1.0).condition in
      reached_down edges start (inl (start_has r.0 r.1.0 r.0.condition.0 here))
      (leads_down g ts l vars edges is place p r.0.condition inside (subst (λ t. Contains (variables_of t) p.param.0) (ap (λ x. x.condition) r.1.1 ∙ term_is g ts r.0.condition inside) j))
  shown_reached (an_argument {s = s} {a = a} {t = t} i k m) place p j =
      let r = contains_map (summand_of (entries_of g ts)) l.summands s i in
      let q = contains_map (action_of (entries_of g ts)) r.0.label a (subst (λ x. Contains x.label a) r.1.1 k) in
      let u = contains_map (term_at (entries_of g ts)) q.0.args t (subst (λ x. Contains x.args t) q.1.1 m) in
      let inside : IsIn ts u.0 = All-contains (IsIn ts) q.0.args u.0 (All-contains (IsActionIn ts) r.0.label q.0 (All-contains (IsSummandIn ts) l.summands r.0 is.summands r.1.0).label q.1.0) u.1.0 in
      let number : In u.0.0 (argument_numbers r.0.label) = each_in (λ (b : PlainAction). numbers b.args) (contains_in r.0.label q.1.0) (map_in (λ (id : TermId). id.0) (contains_in q.0.args u.1.0)) in
      reached_down edges start (inl (start_has r.0 r.1.0 u.0.0 (there number)))
      (leads_down g ts l vars edges is place p u.0 inside (subst (λ x. Contains (variables_of x) p.param.0) (u.1.1 ∙ term_is g ts u.0 inside) j))

  -- the pool's term for a next term
  pub record NextId (place : ℕ) (t : Term) : Type 0 where
    pub summand : PlainSummand
    pub among : Contains l.summands summand
    pub ids : List TermId
    pub next : summand.next ≡ Some ids
    pub id : TermId
    pub at : slice_get ids place ≡ Some id
    pub inside : IsIn ts id
    pub same : t ≡ under g ts id

  next_id : (s : PlainSummand) → Contains l.summands s → (next : Option (List TermId)) → s.next ≡ next → (us : List Term) → option_map (map (term_at (entries_of g ts))) next ≡ Some us → (place : ℕ) (t : Term) → slice_get us place ≡ Some t → NextId place t
  next_id s i None e us q place t at = absurd (let wrong : ⊥ = cc in wrong)
  next_id s i (Some ids) e us q place t at =
      let same : map (term_at (entries_of g ts)) ids ≡ us = cc in
      let r = mapped_at (term_at (entries_of g ts)) ids place t (subst (λ z. slice_get z place ≡ Some t) (sym same) at) in
      let inside : IsIn ts r.0 = All-contains (IsIn ts) ids r.0 (subst (λ z. IfSome z (AreIn ts)) e (All-contains (IsSummandIn ts) l.summands s is.summands i).next) (at_contains ids place r.0 r.1.0) in
      record { summand = s; among = i; ids = ids; next = e; id = r.0; at = r.1.0; inside = inside; same = r.1.1 ∙ term_is g ts r.0 inside }

  pub next_term_id : {w : ℕ} {t : Term} (n : IsNextTerm meant w t) → NextId n.place t
  next_term_id {t = t} n =
      let r = contains_map (summand_of (entries_of g ts)) l.summands n.summand n.among in
      next_id r.0 r.1.0 r.0.next refl n.terms (sym (ap (λ x. x.next) r.1.1) ∙ n.next) n.place t n.is

  needed_reached : {v : ℕ} → IsNeeded meant v → (place : ℕ) (p : ParameterAt ts l vars place) → p.param.0 ≡ v → IsReached edges start p.var.0
  needed_reached (shown {v = v} {t = t} h k) place p e = shown_reached h place p (subst (λ n. Contains (variables_of t) n) (sym e) k.inside)
  needed_reached (handed_on {v = v} {w = w} {t = t} h n k) place p e =
      let from = var_param g ts l vars edges is n.place w n.param in
      let q = by_param g ts l vars edges is n.place from.0 from.1.0 in
      let same : q.param ≡ from.0 = let a = q.at in let b = from.1.0 in cc in
      let r = next_term_id n in
      let before = needed_reached h n.place q (ap (λ (x : VarId). x.0) same ∙ from.1.1) in
      let edge = next_edge g ts l vars edges is n.place q r.summand r.ids r.id r.among r.next r.at in
      reached_down edges start (reached_on edges start q.var.0 r.id.0 before edge)
      (leads_down g ts l vars edges is place p r.id r.inside (subst (λ x. Contains (variables_of x) p.param.0) r.same (subst (λ m. Contains (variables_of t) m) (sym e) k.inside)))

needed_is_parameter : {l : Linear} {v : ℕ} → IsNeeded l v → Contains (variables l.params) v
needed_is_parameter (shown h k) = k.param
needed_is_parameter (handed_on h n k) = k.param

contains_at : {A : Type 0} (xs : List A) (x : A) → Contains xs x → (k : ℕ) × (slice_get xs k ≡ Some x)
contains_at xs x i = (i.0, slice_get-get_or xs i.0 x i.1 ∙ ap (λ z. Some z) i.2)

-- ---- the marked ones are the needed ones
module _ (g : Sig) (ts : List Tree) (l : PlainLinear) (vars : List TermId) (marks : List Bool) (m : AreMarked ts vars l.summands marks) (is : IsUseGraph ts l vars m.edges) where
  abbrev process : Linear
  process = linear_of (entries_of g ts) l

  kept_needed : (v : ℕ) → Contains (keep (fates_of marks) (variables process.params)) v → IsNeeded process v
  kept_needed v i =
      let k = kept_is_marked marks (variables process.params) v i in
      let r = marked_var m.reached vars k.place (subst (λ z. slice_get z k.place ≡ Some true) m.are k.marked) in
      let p = by_var g ts l vars m.edges is k.place r.0 r.1.0 in
      let same : p.param.0 ≡ v = same_one (sym (param_var g ts l vars m.edges is k.place p.param p.at) ∙ k.is) in
      let tree : under g ts p.var ≡ terms.variable v = ap (term_under g) p.tree ∙ ap terms.variable same in
      reached_needed g ts l vars m.edges is p.var.0 ((m.exact.exact p.var.0).0 (subst (λ (z : TermId). IsMarked m.reached z.0) (same_id (sym r.1.0 ∙ p.var_at)) r.1.1)) v
      (record { param = at_contains (variables process.params) k.place v k.is; inside = subst (λ t. Contains (variables_of t) v) (sym tree) (contains_first v []) })
    where
      same_one : {x y : ℕ} → Some x ≡ Some y → x ≡ y
      same_one e = cc

      same_id : {x y : TermId} → Some x ≡ Some y → x ≡ y
      same_id e = cc

  needed_kept : (v : ℕ) → IsNeeded process v → Contains (keep (fates_of marks) (variables process.params)) v
  needed_kept v h =
      let at = contains_at (variables process.params) v (needed_is_parameter h) in
      let from = var_param g ts l vars m.edges is at.0 v at.1 in
      let p = by_param g ts l vars m.edges is at.0 from.0 from.1.0 in
      let same : p.param ≡ from.0 = let a = p.at in let b = from.1.0 in cc in
      let marked = (m.exact.exact p.var.0).1 (needed_reached g ts l vars m.edges is h at.0 p (ap (λ (x : VarId). x.0) same ∙ from.1.1)) in
      marked_is_kept marks (variables process.params) v at.0 (ap (λ z. slice_get z at.0) m.are ∙ mark_at m.reached vars at.0 p.var p.var_at ∙ ap (λ b. Some b) marked) at.1

  pub keep_the_needed : length marks ≡ length l.params → KeepTheNeeded process (fates_of marks)
  keep_the_needed long = record {
    each = fates_each marks (variables process.params) (long ∙ sym (length-map process.params (λ x. x.var) ∙ length-map l.params _));
    exact = λ v. (kept_needed v, needed_kept v);
  }
