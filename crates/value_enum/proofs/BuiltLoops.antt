-- Constructors over lists of arguments, made one after the other until the bound is passed.
use Rattle.std.proofs.Common.{◌≡◌, ◌<◌, ◌≤◌, ◌+◌, ◌^◌, ◌++◌, ℕ, zero, suc, true, false, List, [], ◌∷◌, map, take, length, get_or, Some, refl, sym, ap, ◌∙◌, subst, arith}
use Rattle.std.specs.Prelude.{slice_get, cond}
use Rattle.std.specs.List.{Contains}
use Rattle.std.proofs.lemmas.List.{take-take, take-map, take_more, take_all, map-append, append-nil}
use Rattle.std.proofs.lemmas.List.Elements.{Contains-get_or}
use Rattle.data_theory.specs.declared.ids.SortId.{SortId}
use Rattle.data_theory.specs.declared.ids.FunId.{FunId}
use Rattle.data_theory.specs.declared.ids.TermId.{TermId}
use Rattle.data_theory.specs.Signature.{Sig}
use Rattle.data_theory.specs.IdTrees.{Tree, numeral, trees_of, apply_tree}
use Rattle.data_theory.specs.WholeSignatures.{IsSignature}
use Rattle.data_theory.proofs.PlaceLemmas.{contains_read}
use Rattle.term_pool.specs.HeadTrees.{tree_at, trees_at, IsIn, AreIn}
use Rattle.term_pool.specs.Pools.{Extends}
use Rattle.term_pool.specs.FirstTerms.{function_arguments}
use Rattle.term_pool.specs.ConstructorValues.{ConstructorValue, ConstructorValues, a_number, built}
use Rattle.term_pool.proofs.Lists.{contains_map}
use Rattle.term_pool.proofs.ConstructorTrees.{constructor_unmerged}
use Rattle.value_enum.specs.declared.shapes.Constructor.{Constructor}
use Rattle.value_enum.specs.declared.shapes.Shapes.{Shapes}
use Rattle.value_enum.specs.declared.levels.TupleRow.{TupleRow}
use Rattle.value_enum.specs.Values.{IsTermOf, AreTermsOf, no_terms}
use Rattle.value_enum.specs.Shapes.{list_at, functions_of, AreShapes}
use Rattle.value_enum.specs.Levels.{shape_of, is_number_sort, number_weighing, tuples_weighing, built_over, values_weighing, tuples_at, plain_tuples, IsTupleOf, AreTuplesOf, tuple_then, HaveTuples, StandUnmerged}
use Rattle.value_enum.proofs.Orders.{contains_taken}
use Rattle.value_enum.proofs.Capped.{alike_append}
use Rattle.value_enum.proofs.CappedLoops.{pushing_goes_on, pushing_stops, pushing_ends}
use Rattle.value_enum.proofs.DepthLemmas.{level_of, built_more}
use Rattle.value_enum.proofs.RowLemmas.{nothing_taken}
use Rattle.value_enum.proofs.PlaceLemmas.{stands_at, within_at}
use Rattle.value_enum.proofs.WeighingValues.{values_of_constructor, number_sorts_stand_alone}
use Rattle.value_enum.proofs.TermLists.{terms_kept, tuples_kept, terms_length, terms_append, one_term, tuple_in_kept, tuple_within, built_tree}

-- a list of arguments at a place
pub tuple_at : (ts : List Tree) (idss : List (List TermId)) (us : List ConstructorValues) (i : ℕ) (d : List TermId) → AreTuplesOf ts idss us → i < length idss → (u : ConstructorValues) × (slice_get us i ≡ Some u) × IsTupleOf ts (get_or idss i d) u
tuple_at ts [] us i d p l = absurd (omega (arith, l))
tuple_at ts (ids ∷ idss) [] i d p l = elim p [ ]
tuple_at ts (ids ∷ idss) (u ∷ us) zero d (tuple_then is rest) l = (u, refl, is)
tuple_at ts (ids ∷ idss) (u ∷ us) (suc i) d (tuple_then is rest) l = tuple_at ts idss us i d rest (omega (arith, l))

-- its terms are in the pool
pub tuple_inside : (ts : List Tree) (idss : List (List TermId)) (us : List ConstructorValues) (i : ℕ) (d : List TermId) → AreTuplesOf ts idss us → i < length idss → AreIn ts (get_or idss i d)
tuple_inside ts idss us i d p l = let at = tuple_at ts idss us i d p l in tuple_within ts (get_or idss i d) at.0 at.2

read_or : {A : Type 0} (xs : List A) (i : ℕ) (x : A) → slice_get xs i ≡ Some x → (get_or xs i x ≡ x) × (i < length xs)
read_or [] i x e = absurd cc
read_or (y ∷ xs) zero x e = (let same : y ≡ x = cc in same, omega arith)
read_or (y ∷ xs) (suc i) x e = let h = read_or xs i x e in let l = h.1 in (h.0, omega (arith, l))

module _ (f : FunId) (bound : ℕ) (begun : List Tree) (old : List TermId) (tuples : List (List TermId)) where
  -- what was added so far
  abbrev pub AreAdded : List Tree → List TermId → ℕ → Type 0
  AreAdded ts now i = (vs : List ConstructorValue) (us : List ConstructorValues) → StandUnmerged f us → AreTermsOf begun old vs → AreTuplesOf begun tuples us → AreTermsOf ts now (take (bound + 1) (vs ++ map (built f) (take i us)))

  pub none_added : length old ≤ bound + 1 → AreAdded begun old 0
  none_added l vs us unmerged terms args =
      subst (AreTermsOf begun old) (sym (ap (take (bound + 1)) (append-nil vs) ∙ take_all (bound + 1) vs (let e = terms_length begun old vs terms in omega (arith, e, l)))) terms

  pub one_added : (t1 t2 : List Tree) (now new : List TermId) (i : ℕ) (d : List TermId) (id : TermId) → Extends begun t1 → Extends t1 t2 → i < length tuples → length now ≤ bound → tree_at t2 id ≡ apply_tree f (trees_of (trees_at t1 (get_or tuples i d))) → IsIn t2 id
      → new ≡ now ++ id ∷ [] → AreAdded t1 now i → AreAdded t2 new (i + 1)
  one_added t1 t2 now new i d id kept on l room tree within is sofar vs us unmerged terms args =
      let at = tuple_at begun tuples us i d args l in
      let u = at.0 in
      let read = read_or us i u at.1 in
      let before = sofar vs us unmerged terms args in
      let size = terms_length t1 now (take (bound + 1) (vs ++ map (built f) (take i us))) before in
      let whole = built_tree t1 f (get_or tuples i d) u (tuple_in_kept begun t1 kept (get_or tuples i d) u at.2) (unmerged u (contains_read us i u at.1)) in
      let last : IsTermOf t2 id (built f u) = record { within = within; tree = tree ∙ whole } in
      let all = terms_append t2 now (id ∷ []) (take (bound + 1) (vs ++ map (built f) (take i us))) (built f u ∷ []) (terms_kept t1 t2 on now (take (bound + 1) (vs ++ map (built f) (take i us))) before) (one_term t2 id (built f u) last) in
      let same = pushing_goes_on (built f) bound vs us i u (take (bound + 1) (vs ++ map (built f) (take i us))) (take (bound + 1) (vs ++ map (built f) (take i us)) ++ built f u ∷ []) read.1 refl (omega (arith, size, room))
      (ap (λ w. take (bound + 1) (vs ++ map (built f) (take i us)) ++ built f w ∷ []) (sym read.0)) in
      subst (λ ids. AreTermsOf t2 ids (take (bound + 1) (vs ++ map (built f) (take (i + 1) us)))) (sym is) (subst (AreTermsOf t2 (now ++ id ∷ [])) same all)

  abbrev pub AreAllAdded : List Tree → List TermId → Type 0
  AreAllAdded ts now = (vs : List ConstructorValue) (us : List ConstructorValues) → StandUnmerged f us → AreTermsOf begun old vs → AreTuplesOf begun tuples us → AreTermsOf ts now (take (bound + 1) (vs ++ map (built f) us))

  pub adding_stops : (ts : List Tree) (now : List TermId) (i : ℕ) → bound < length now → AreAdded ts now i → AreAllAdded ts now
  adding_stops ts now i more sofar vs us unmerged terms args =
      let before = sofar vs us unmerged terms args in
      let size = terms_length ts now (take (bound + 1) (vs ++ map (built f) (take i us))) before in
      subst (AreTermsOf ts now) (pushing_stops (built f) bound vs us i (take (bound + 1) (vs ++ map (built f) (take i us))) refl (omega (arith, size, more))) before

  tuples_length : (ts : List Tree) (idss : List (List TermId)) (us : List ConstructorValues) → AreTuplesOf ts idss us → length idss ≡ length us
  tuples_length ts [] [] p = refl
  tuples_length ts [] (u ∷ us) p = elim p [ ]
  tuples_length ts (ids ∷ idss) [] p = elim p [ ]
  tuples_length ts (ids ∷ idss) (u ∷ us) (tuple_then is rest) = ap suc (tuples_length ts idss us rest)

  pub adding_ends : (ts : List Tree) (now : List TermId) (i : ℕ) → length tuples ≤ i → AreAdded ts now i → AreAllAdded ts now
  adding_ends ts now i l sofar vs us unmerged terms args =
      let size = tuples_length begun tuples us args in
      subst (AreTermsOf ts now) (pushing_ends (built f) bound vs us i (take (bound + 1) (vs ++ map (built f) (take i us))) refl (omega (arith, size, l))) (sofar vs us unmerged terms args)

-- ---- the constructors of a sort
module _ (g : Sig) (stands : IsSignature g) (sh : Shapes) (shapes : AreShapes g sh) (bound : ℕ) (rows : List TupleRow) (begun : List Tree) (s : SortId) (among : Contains sh.sorts.keys s) (t : ℕ) (small : t < 2 ^ 64)
    (level : length rows ≡ t + 1) (have : HaveTuples (shape_of g sh) sh.arguments.items (bound + 1) begun rows) where
  abbrev V : SortId → ℕ → List ConstructorValue
  V = values_weighing (shape_of g sh)

  abbrev args : FunId → List SortId
  args = function_arguments g.functions

  abbrev cs : List Constructor
  cs = list_at sh.constructors.items s.0

  -- the lists of arguments of a constructor
  pub have_arguments : (ts : List Tree) → Extends begun ts → (c : Constructor) → Contains cs c → AreTuplesOf ts (plain_tuples (tuples_at rows t c.first)) (take (bound + 1) (tuples_weighing V (args c.fun) t))
  have_arguments ts on c has =
      let place = shapes.places s.0 c has in
      subst (λ ss. AreTuplesOf ts (plain_tuples (tuples_at rows t c.first)) (take (bound + 1) (tuples_weighing V ss t))) (stands_at g sh.arguments.items c place)
      (tuples_kept begun ts on _ _ (have t c.first (omega (arith, level)) (within_at g sh.arguments.items c place)))

  unmerged_arguments : (c : Constructor) → Contains cs c → StandUnmerged c.fun (take (bound + 1) (tuples_weighing V (args c.fun) t))
  unmerged_arguments c has u m =
      constructor_unmerged g stands (λ d. record { 0 = 0 }) s c.fun u
      (values_of_constructor g stands (λ r. functions_of (list_at sh.constructors.items r.0)) sh.sorts.keys shapes.constructors shapes.closed t small s among c.fun (contains_map (λ (d : Constructor). d.fun) cs c has) u (contains_taken (bound + 1) (tuples_weighing V (args c.fun) t) u m))

  abbrev pub AreBuilt : List Tree → List TermId → ℕ → Type 0
  AreBuilt ts ids i = AreTermsOf ts ids (take (bound + 1) (built_over args V (functions_of (take i cs)) t))

  pub none_built : (ts : List Tree) (ids : List TermId) → ids ≡ [] → AreBuilt ts ids 0
  unfolding built_over
  none_built ts ids e = subst (λ is. AreTermsOf ts is (take (bound + 1) [])) (sym e) (empty_kept (bound + 1))
    where
      empty_kept : (n : ℕ) → AreTermsOf ts [] (take n [])
      empty_kept zero = no_terms
      empty_kept (suc n) = no_terms

  pub more_built : (t1 t2 : List Tree) (ids new : List TermId) (i : ℕ) (d : Constructor) → i < length cs → Extends begun t1 → AreBuilt t1 ids i → AreAllAdded (get_or cs i d).fun bound t1 ids (plain_tuples (tuples_at rows t (get_or cs i d).first)) t2 new → AreBuilt t2 new (i + 1)
  more_built t1 t2 ids new i d l on sofar added =
      let c = get_or cs i d in
      let has = Contains-get_or cs i d l in
      let made = added (take (bound + 1) (built_over args V (functions_of (take i cs)) t)) (take (bound + 1) (tuples_weighing V (args c.fun) t)) (unmerged_arguments c has) sofar (have_arguments t1 on c has) in
      let listed : functions_of (take (i + 1) cs) ≡ functions_of (take i cs) ++ c.fun ∷ [] = ap functions_of (take_more cs i d l) ∙ map-append (λ (e : Constructor). e.fun) (take i cs) (c ∷ []) in
      let alike = alike_append (bound + 1) (take (bound + 1) (built_over args V (functions_of (take i cs)) t)) (built_over args V (functions_of (take i cs)) t) (map (built c.fun) (take (bound + 1) (tuples_weighing V (args c.fun) t))) (map (built c.fun) (tuples_weighing V (args c.fun) t))
      (take-take (bound + 1) (bound + 1) (built_over args V (functions_of (take i cs)) t) (omega arith))
      (take-map (built c.fun) (bound + 1) (take (bound + 1) (tuples_weighing V (args c.fun) t)) ∙ (ap (map (built c.fun)) (take-take (bound + 1) (bound + 1) (tuples_weighing V (args c.fun) t) (omega arith)) ∙ sym (take-map (built c.fun) (bound + 1) (tuples_weighing V (args c.fun) t)))) in
      subst (AreTermsOf t2 new) (alike ∙ ap (take (bound + 1)) (sym (ap (λ fs. built_over args V fs t) listed ∙ built_more args V (functions_of (take i cs)) c.fun t))) made

  pub all_built : (ts : List Tree) (ids : List TermId) (i : ℕ) → length cs ≤ i → is_number_sort s ≡ false → AreBuilt ts ids i → AreTermsOf ts ids (take (bound + 1) (V s (t + 1)))
  all_built ts ids i l no_number sofar =
      let all : functions_of (take i cs) ≡ functions_of cs = ap functions_of (take_all i cs l) in
      let level_list : V s (t + 1) ≡ built_over args V (functions_of cs) t = ap (V s) (one_more t) ∙ (level_of (shape_of g sh) s t ∙ ap (λ b. cond b (a_number s (number_weighing s (suc t)) ∷ []) [] ++ built_over args V (functions_of cs) t) no_number) in
      subst (AreTermsOf ts ids) (ap (take (bound + 1)) (ap (λ fs. built_over args V fs t) all ∙ sym level_list)) sofar
    where
      one_more : (n : ℕ) → n + 1 ≡ suc n
      one_more n = omega arith

  -- the number of the weight
  pub its_number : (ts : List Tree) (id : TermId) → is_number_sort s ≡ true → IsIn ts id → tree_at ts id ≡ numeral s (number_weighing s (t + 1)) → AreTermsOf ts (id ∷ []) (take (bound + 1) (V s (t + 1)))
  its_number ts id number within tree =
      let level_list : V s (t + 1) ≡ a_number s (number_weighing s (t + 1)) ∷ [] = number_sorts_stand_alone g stands (λ r. functions_of (list_at sh.constructors.items r.0)) sh.sorts.keys shapes.constructors shapes.closed s among t number in
      subst (AreTermsOf ts (id ∷ [])) (ap (take (bound + 1)) (sym level_list)) (one_kept bound)
    where
      is : IsTermOf ts id (a_number s (number_weighing s (t + 1)))
      is = record { within = within; tree = tree }

      one_kept : (n : ℕ) → AreTermsOf ts (id ∷ []) (take (n + 1) (a_number s (number_weighing s (t + 1)) ∷ []))
      one_kept n =
          subst (λ k. AreTermsOf ts (id ∷ []) (take k (a_number s (number_weighing s (t + 1)) ∷ []))) (let e : suc n ≡ n + 1 = omega arith in e)
          (subst (λ l. AreTermsOf ts (id ∷ []) (a_number s (number_weighing s (t + 1)) ∷ l)) (sym (nothing_taken n)) (one_term ts id (a_number s (number_weighing s (t + 1))) is))
