-- Parameters of an equation, and what stands around its place.
use Rattle.std.proofs.Common.{◌≡◌, ◌<◌, ◌≤◌, ◌+◌, ◌||◌, eqb, Bool, true, false, Vec, ◌⊎◌, inl, inr, ⊎_elim, ℕ, zero, suc, List, [], ◌∷◌, ◌++◌, map, take, length, get_or, Some, refl, sym, ap, ap₂, ◌∙◌, subst, arith}
use Rattle.std.specs.Prelude.{slice_get, IfOk, Result, Ok, Err}
use Rattle.std.specs.Global.{Global}
use Rattle.std.proofs.lemmas.Bool.Decides.{Decides-eqb}
use Rattle.std.proofs.lemmas.Map.Steps.{length-le_from_distinct_below}
use Rattle.std.proofs.lemmas.Option.{get_or_from_slice_get}
use Rattle.data_theory.specs.Complete.{BeginsWith}
use Rattle.data_theory.proofs.PlaceLemmas.{pushed_by_place}
use Rattle.std.specs.List.{All, Contains, IsDistinct, list_any}
use Rattle.std.proofs.lemmas.List.{length-map, length-append, map-append, take_more}
use Rattle.std.proofs.lemmas.List.Elements.{All-nil, All-cons, All-head, All-tail, All-push, All-weaker, All-contains}
use Rattle.data_theory.specs.declared.ids.NameId.{NameId}
use Rattle.data_theory.specs.declared.ids.VarId.{VarId}
use Rattle.data_theory.specs.declared.ids.TermId.{TermId}
use Rattle.data_theory.specs.Environments.{AreDistinct, IsOver}
use Rattle.data_theory.specs.Table.{bool_sort}
use Rattle.data_theory.specs.Signature.{Sig}
use Rattle.data_theory.specs.WholeSignatures.{IsSignature}
use Rattle.data_theory.specs.IdTrees.{Tree, variable, trees_of}
use Rattle.data_theory.specs.IdTreeSorts.{HaveTreeSorts}
use Rattle.data_theory.specs.IdTerms.{term_under}
use Rattle.term_pool.specs.HeadTrees.{tree_at, trees_at, IsIn, AreIn}
use Rattle.term_pool.specs.Pools.{Extends}
use Rattle.term_pool.proofs.Lists.{contains_none, contains_head, contains_tail}
use Rattle.process_terms.specs.Meanings.{ReadsOnly}
use Rattle.process_terms.specs.SignatureEntries.{entries_of}
use Rattle.lps_core.specs.Fitting.{IsVariable, sort_of_variable}
use Rattle.lps_core.specs.Naming.{name_of, names_of, GrowsByNames, IsNamed, it_stays, it_is_new, AreNamed, no_sum, one_more_sum}
use Rattle.lps_core.specs.TreeSummands.{numbers_of}
use Rattle.lps_core.proofs.GrownSignatures.{fresh_variables}
use Rattle.lps_core.proofs.Members.{map_contains, contains_map}
use Rattle.lps_core.proofs.NamedSums.{SumStands, AreTaken, names_none, names_then, variable_there, variable_kept, name_kept, names_kept, sort_kept, sorts_kept, taken_name, name_taken, sum_named, sums_named, all_front, all_last}
use Rattle.lps_core.proofs.PoolTrees.{trees_kept}
use Rattle.lps_core.proofs.Staying.{term_is}
use Rattle.proc_unfold.specs.FittingModels.{TermFits, TermsFit}
use Rattle.greibach.specs.ListedVariables.{paired}
use Rattle.greibach.specs.RenewedVariables.{IsRenewed, renewed, AreRenewed, none_renewed, one_more_renewed}
use Rattle.greibach.specs.PlacesInCode.{PlainPlace, PlainPlaces}
use Rattle.greibach.specs.FittingPlaces.{PlacesFitSince}
use Rattle.greibach.specs.Surroundings.{PlainUnfolding, HasUsableName, HasUsableNames, IsCovered, CanAdd, SummandStands, CallOfPlace, ParametersStand, EquationStands, AreEquations}
use Rattle.greibach.proofs.OneByOne.{renewed_grows}
use Rattle.greibach.proofs.UsableNames.{still_usable, fresh_usable}
use Rattle.greibach.proofs.GrownFits.{both_by_names, variables_grow, since_grows, summands_grow}
use Rattle.greibach.proofs.ReadPlaces.{still_read}
use Rattle.greibach.specs.OccurringVariables.{params_at}
use Rattle.greibach.specs.PlainForms.{PlainEquation}
use Rattle.greibach.proofs.HeadArms.{renewed_names, renewed_is_variable, renewed_sort, paired_fit, paired_listed}

-- ---- renewed variables
pub record RenewedStand (g h : Sig) (xs ys : List VarId) : Type 0 where
  pub on : GrowsByNames g h
  pub variables : All (IsVariable h) ys
  pub sorts : map (sort_of_variable h) ys ≡ map (sort_of_variable g) xs
  pub names : HasUsableNames h

one_grows : (h : Sig) (x : VarId) {k : Sig} {y : VarId} → IsSignature h → IsVariable h x → IsRenewed h x k y → GrowsByNames h k
one_grows h x sh l renewed = renewed_grows h x (name_of h x) (sort_of_variable h x) _ sh l refl refl refl

pub renewed_stand : (g : Sig) → IsSignature g → HasUsableNames g → {xs : List VarId} {h : Sig} {ys : List VarId} → AreRenewed g xs h ys → All (IsVariable g) xs → RenewedStand g h xs ys
renewed_stand g sg names none_renewed vs = record { on = names_none g sg; variables = All-nil (IsVariable g); sorts = refl; names = names }
renewed_stand g sg names (one_more_renewed {xs = xs} {ys = ys} {h = h} {k = k} {x = x} {y = y} r n) vs =
    let f = renewed_stand g sg names r (all_front (IsVariable g) xs x vs) in
    let own = all_last (IsVariable g) xs x vs in
    let there = variable_kept g h x f.on.grown own in
    let w = one_grows h x f.on.stands there n in
    record {
      on = names_then g h k f.on w;
      variables = All-push (IsVariable k) ys y (All-weaker (IsVariable h) (IsVariable k) (λ z l. variable_kept h k z w.grown l) ys f.variables) (renewed_is_variable h x n);
      sorts =
          map-append (sort_of_variable k) ys (y ∷ [])
          ∙ ap₂ (λ ss s. ss ++ s ∷ []) (sorts_kept h k ys w.grown f.variables ∙ f.sorts) (renewed_sort h x n ∙ sort_kept g h x f.on.grown own)
          ∙ sym (map-append (sort_of_variable g) xs (x ∷ []));
      names = renewed_names h k x y f.on.stands f.names there w n;
    }

-- ---- names that differ
below_or_last : (a b : ℕ) → a < b + 1 → (a < b) ⊎ (a ≡ b)
below_or_last zero zero m = inr refl
below_or_last zero (suc b) m = inl (omega arith)
below_or_last (suc a) zero m = absurd (omega (arith, m))
below_or_last (suc a) (suc b) m = ⊎_elim (λ k. inl (omega (arith, k))) (λ k. inr (ap suc k)) (below_or_last a b (omega (arith, m)))

one_more_names : (P : NameId → Type 0) (h : Sig) (x : VarId) {k : Sig} {y : VarId} → IsNamed P h x k y → SumStands h k P x y → IsVariable h x → HasUsableNames h → (v : VarId) → IsVariable k v → HasUsableName k v
one_more_names P h x (it_stays n) s own names v l = names v l
one_more_names P h x {k} (it_is_new {h = j} {base = base} {name = name} i r f) s own names v l = ⊎_elim
    (λ old.
    let o : IsVariable h v = subst (λ vs. v.0 < length vs) (fresh_variables h j base name f) old in
    still_usable h k v v s.on.grown (name_kept h k v s.on.grown o) (name_taken k v l (subst (Contains k.taken) (sym (name_kept h k v s.on.grown o)) (s.on.taken (name_of h v) (taken_name h v o (names v o).taken)))) (names v o))
    (λ last. subst (λ z. HasUsableName k z) (ap (λ n. record { 0 = n }) (sym last)) (fresh_usable h j x base name (sort_of_variable h x) r f (names x own) (name_taken k (record { 0 = length j.variables }) s.variable s.taken)))
    (below_or_last v.0 (length j.variables) (subst (λ n. v.0 < n) (length-append j.variables (record { name = name; sort = sort_of_variable h x } ∷ [])) l))

abbrev pub NoName : NameId → Type 0
NoName n = Contains [] n

all_taken : (g : Sig) → HasUsableNames g → (xs : List VarId) → All (IsVariable g) xs → All (λ x. Contains g.taken (name_of g x)) xs
all_taken g names xs vs = All-weaker (IsVariable g) (λ x. Contains g.taken (name_of g x)) (λ x l. taken_name g x l (names x l).taken) xs vs

no_name_taken : (g : Sig) → AreTaken g NoName
no_name_taken g n i = absurd (contains_none n i)

named_names : (g : Sig) → IsSignature g → HasUsableNames g → {xs : List VarId} {h : Sig} {ys : List VarId} → AreNamed NoName g xs h ys → All (IsVariable g) xs → HasUsableNames h
named_names g sg names no_sum vs = names
named_names g sg names (one_more_sum {xs = xs} {ys = ys} {h = h} {k = k} {x = x} {y = y} a n) vs =
    let front = all_front (IsVariable g) xs x vs in
    let r = sums_named NoName g sg (no_name_taken g) xs h ys a front (all_taken g names xs front) in
    let before = named_names g sg names a front in
    let own = variable_kept g h x r.0.grown (all_last (IsVariable g) xs x vs) in
    let P : NameId → Type 0 = λ m. NoName m ⊎ Contains (names_of h ys) m in
    let used : (m : NameId) → P m → Contains h.taken m = λ m u. ⊎_elim (λ i. absurd (contains_none m i)) (λ i. names_are_taken h before ys r.1.variables m i) u in
    one_more_names P h x n (sum_named P h x k y r.0.stands own (taken_name h x own (before x own).taken) used n) own before
  where
    names_are_taken : (h : Sig) → HasUsableNames h → (ys : List VarId) → All (IsVariable h) ys → (m : NameId) → Contains (names_of h ys) m → Contains h.taken m
    names_are_taken h ns ys vs m i = let c = contains_map (name_of h) ys m i in subst (Contains h.taken) (sym c.1.1) (let l = All-contains (IsVariable h) ys c.0 vs c.1.0 in taken_name h c.0 l (ns c.0 l).taken)

pub parameters_stand : (g h k : Sig) (vars others params : List VarId) → IsSignature g → HasUsableNames g → All (IsVariable g) vars → AreRenewed g vars h others → GrowsByNames h k → AreNamed NoName h others k params → ParametersStand g k vars params
parameters_stand g h k vars others params sg names vs r w a =
    let f = renewed_stand g sg names r vs in
    let s = sums_named NoName h f.on.stands (no_name_taken h) others k params a f.variables (all_taken h f.names others f.variables) in
    record {
      variables = s.1.variables;
      sorts = s.1.sorts ∙ f.sorts;
      distinct = s.1.distinct;
      named = s.1.names_differ;
      names = named_names h f.on.stands f.names a f.variables;
    }

-- ---- the terms of variables
variables_sorted : (g : Sig) (xs : List VarId) → All (IsVariable g) xs → HaveTreeSorts g (trees_of (map variable xs)) (map (sort_of_variable g) xs)
variables_sorted g [] h = tt
variables_sorted g (x ∷ xs) h = ((get_or g.variables x.0 (record { name = record { 0 = 0 }; sort = bool_sort }), variable_there g x (All-head (IsVariable g) x xs h) _, refl), variables_sorted g xs (All-tail (IsVariable g) x xs h))

variables_read : (g : Sig) (ts : List Tree) (zs xs : List VarId) (ids : List TermId) → trees_at ts ids ≡ map variable xs → AreIn ts ids → ((x : VarId) → Contains xs x → Contains zs x) → All (ReadsOnly (entries_of g ts) zs) ids
variables_read g ts zs xs [] e w k = All-nil (ReadsOnly (entries_of g ts) zs)
variables_read g ts zs [] (id ∷ ids) e w k = cc
variables_read g ts zs (x ∷ xs) (id ∷ ids) e w k =
    let first : tree_at ts id ≡ variable x = cc in
    let rest : trees_at ts ids ≡ map variable xs = cc in
    All-cons (ReadsOnly (entries_of g ts) zs) id ids
    (subst (IsOver (numbers_of zs)) (sym (term_is g ts id (All-head (IsIn ts) id ids w))) (subst (λ t. IsOver (numbers_of zs) (term_under g t)) (sym first) (map_contains (λ (v : VarId). v.0) zs x (k x (contains_head x xs)))))
    (variables_read g ts zs xs ids rest (All-tail (IsIn ts) id ids w) (λ y i. k y (contains_tail x y xs i)))

-- ---- the start of an equation
pub start_can : (g h : Sig) (ts us : List Tree) (t : PlainPlaces) (vars params : List VarId) (terms : List TermId) (u : PlainUnfolding) → PlacesFitSince g ts t → All (IsVariable g) vars → GrowsByNames g h → ParametersStand g h vars params → Extends ts us → AreIn us terms → trees_at us terms ≡ map variable params
    → All (λ (n : ℕ). n < length t.places) u.met → u.waiting ≡ [] → u.summands ≡ [] → CanAdd h us t (record { params = params; sums = []; by = paired vars terms; parts = [] }) u
start_can g h ts us t vars params terms u since vs n p e w is met none bare =
    let sorts : map (sort_of_variable h) params ≡ map (sort_of_variable h) vars = p.sorts ∙ sym (sorts_kept g h vars n.grown vs) in
    let fit : TermsFit h us params (map (sort_of_variable h) vars) terms = record {
      terms = record { within = w; sorted = subst (HaveTreeSorts h (trees_of (trees_at us terms))) sorts (subst (λ z. HaveTreeSorts h (trees_of z) (map (sort_of_variable h) params)) (sym is) (variables_sorted h params p.variables)) };
      over = variables_read h us params params terms is w (λ x i. i);
    } in
    record {
      signature = n.stands;
      names = p.names;
      table = since_grows g h ts us t n e since;
      around = record {
        params = p.variables;
        sums = All-nil (IsVariable h);
        distinct = tt;
        apart = λ v i j. contains_none v i;
        listed = paired_fit h us params vars terms (All-weaker (IsVariable g) (IsVariable h) (λ x l. variable_kept g h x n.grown l) vars vs) fit;
        parts = All-nil (TermFits h us params bool_sort);
        waiting_fits = subst (All (CallOfPlace h us t.places params)) (sym none) (All-nil (CallOfPlace h us t.places params));
      };
      standing = record { met_there = met; summands = subst (All (SummandStands h us t.places u.met params)) (sym bare) (All-nil (SummandStands h us t.places u.met params)) };
    }

-- as many terms as variables
pub same_length : (us : List Tree) (g h : Sig) (vars params : List VarId) (terms : List TermId) → trees_at us terms ≡ map variable params → map (sort_of_variable h) params ≡ map (sort_of_variable g) vars → length terms ≡ length vars
same_length us g h vars params terms is sorts =
    sym (length-map terms (tree_at us)) ∙ ap length is ∙ length-map params variable ∙ sym (length-map params (sort_of_variable h)) ∙ ap length sorts ∙ length-map vars (sort_of_variable g)

pub covered_start : (ps : List PlainPlace) (n : ℕ) (p : PlainPlace) (vars : List VarId) (terms : List TermId) → slice_get ps n ≡ Some p → p.params ≡ vars → length terms ≡ length vars → IsCovered ps (paired vars terms) n
covered_start ps n p vars terms at e l = record { place = p; stands = at; covers = λ x i. subst (λ z. Contains z x) (sym (paired_listed vars terms l)) (subst (λ z. Contains z x) e i) }

-- ---- one after another
pub variable_more : (ts us : List Tree) (vars : List VarId) (i : ℕ) (d : VarId) (terms new : List TermId) (id : TermId) → Extends ts us → AreIn ts terms → trees_at ts terms ≡ map variable (take i vars) → i < length vars → tree_at us id ≡ variable (get_or vars i d) → new ≡ terms ++ id ∷ [] → trees_at us new ≡ map variable (take (i + 1) vars)
variable_more ts us vars i d terms new id e w h l t n =
    ap (trees_at us) n
    ∙ map-append (tree_at us) terms (id ∷ [])
    ∙ ap₂ (λ zs z. zs ++ z ∷ []) (trees_kept ts us terms e w ∙ h) t
    ∙ sym (ap (map variable) (take_more vars i d l) ∙ map-append variable (take i vars) (get_or vars i d ∷ []))

pub params_ok : {E : Type 0} (r : Result (Vec VarId Global) E) (g h k : Sig) (vars others : List VarId) (keys : List NameId) → IsSignature g → HasUsableNames g → All (IsVariable g) vars → AreRenewed g vars h others → GrowsByNames h k → keys ≡ []
    → IfOk r (λ named. AreNamed (λ n. Contains keys n) h others k named.items) → IfOk r (λ params. ParametersStand g k vars params.items)
params_ok (Err e) g h k vars others keys sg names vs r w no_keys a = tt
params_ok (Ok p) g h k vars others keys sg names vs r w no_keys a = parameters_stand g h k vars others p.items sg names vs r w (subst (λ l. AreNamed (λ n. Contains l n) h others k p.items) no_keys a)

abbrev place_params : List PlainPlace → ℕ → List VarId
place_params ps n = params_at ps n

place_told : (ps : List PlainPlace) (n : ℕ) (p : PlainPlace) → slice_get ps n ≡ Some p → place_params ps n ≡ p.params
place_told ps n p e = ap (λ (z : PlainPlace). z.params) (get_or_from_slice_get ps n p _ e)

module _ (g h : Sig) (ts us : List Tree) (sg : IsSignature g) (w : GrowsByNames g h) (e : Extends ts us) (ps : List PlainPlace) (met later : List ℕ) (b : BeginsWith met later) where
  equation_grows : (n : ℕ) (q : PlainEquation) → All (IsVariable g) (place_params ps n) → EquationStands g ts ps met n q → EquationStands h us ps later n q
  equation_grows n q vs k = record {
    params = variables_grow g h ts us sg (both_by_names g h ts us w e) q.params k.params;
    distinct = k.distinct;
    named = subst (λ ns. AreDistinct (map (λ (m : NameId). m.0) ns)) (sym (names_kept g h q.params w.grown k.params)) k.named;
    place = k.place;
    stands = k.stands;
    sorts = sorts_kept g h q.params w.grown k.params ∙ k.sorts ∙ sym (sorts_kept g h k.place.params w.grown (subst (All (IsVariable g)) (place_told ps n k.place k.stands) vs));
    summands = summands_grow g h ts us sg (both_by_names g h ts us w e) ps met later q.params q.summands b k.summands;
  }

  pub equations_grow : ((n : ℕ) (p : PlainPlace) → slice_get ps n ≡ Some p → All (IsVariable g) p.params) → (qs : List PlainEquation) → AreEquations g ts ps met qs → AreEquations h us ps later qs
  equations_grow vs qs are k q at =
      let r = are k q at in
      (r.0, still_read met later k r.0 b r.1, equation_grows r.0 q (subst (All (IsVariable g)) (sym (place_told ps r.0 r.2.place r.2.stands)) (vs r.0 r.2.place r.2.stands)) r.2)

pub equations_more : (g : Sig) (ts : List Tree) (ps : List PlainPlace) (met : List ℕ) (qs new : List PlainEquation) (n : ℕ) (q : PlainEquation) → AreEquations g ts ps met qs → slice_get met (length qs) ≡ Some n → EquationStands g ts ps met n q → new ≡ qs ++ q ∷ [] → AreEquations g ts ps met new
equations_more g ts ps met qs new n q are at stands is k r there = ⊎_elim
    (λ old. are k r old)
    (λ last. (n, subst (λ i. slice_get met i ≡ Some n) (sym last.0) at, subst (λ z. EquationStands g ts ps met n z) last.1 stands))
    (pushed_by_place qs q r k (subst (λ l. slice_get l k ≡ Some r) is there))

-- no more places are met than there are
below_number : (n : ℕ) (xs : List ℕ) (q : ℕ) → All (λ (x : ℕ). x < n) xs → list_any (eqb q) xs ≡ true → q < n
below_number n [] q all e = cc
below_number n (x ∷ xs) q all e = by_test (eqb q x) refl (below_number n xs q (All-tail (λ (x : ℕ). x < n) x xs all)) e
  where
    by_test : (b : Bool) → eqb q x ≡ b → (list_any (eqb q) xs ≡ true → q < n) → (b || list_any (eqb q) xs) ≡ true → q < n
    by_test true same rest h = let equal = (Decides-eqb q x).0 same in let within = All-head (λ (x : ℕ). x < n) x xs all in omega (arith, equal, within)
    by_test false same rest h = rest h

pub few_met : (n : ℕ) (xs : List ℕ) → IsDistinct eqb xs → All (λ (x : ℕ). x < n) xs → length xs ≤ n
few_met n xs different all = length-le_from_distinct_below xs n different (λ q h. below_number n xs q all h)
