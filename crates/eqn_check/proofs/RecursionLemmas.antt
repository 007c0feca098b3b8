-- What the calls of the equations in code say of those that they mean.
use Rattle.std.proofs.Common.{◌≡◌, ℕ, ◌<◌, ◌⊎◌, inl, inr, ⊎_elim, List, ◌∷◌, length, get_or, Bool, true, false, refl, sym, ap, ◌∙◌, subst, arith}
use Rattle.std.specs.Prelude.{slice_get, Some, not}
use Rattle.std.specs.Bool.{Decides}
use Rattle.std.specs.List.{All}
use Rattle.std.specs.Global.{Vec}
use Rattle.std.proofs.lemmas.List.{length-map}
use Rattle.std.proofs.lemmas.Option.{slice_get_within}
use Rattle.std.proofs.lemmas.List.Elements.{All-contains, Contains-get_or}
use Rattle.data_theory.specs.declared.ids.FunId.{FunId}
use Rattle.data_theory.specs.declared.ids.TermId.{TermId}
use Rattle.data_theory.specs.Terms as terms
use Rattle.data_theory.specs.Terms.{Symbol, function, Term, Terms}
use Rattle.data_theory.specs.Declarations.{Data, function_at, argument_sorts}
use Rattle.data_theory.specs.Functions.{Function, arguments_of}
use Rattle.data_theory.specs.Provable.{Equation}
use Rattle.data_theory.specs.Signature.{Sig}
use Rattle.data_theory.specs.IdData.{data_meant}
use Rattle.data_theory.specs.IdTables.{IsTable}
use Rattle.data_theory.specs.IdTerms.{IsTreeWithin, AreTreesWithin, sort_under, symbol_under, term_under, terms_under}
use Rattle.data_theory.specs.IdTrees as trees
use Rattle.data_theory.specs.IdTrees.{Tree, Trees}
use Rattle.data_theory.proofs.IdSymbolLemmas.{different_functions_mean_different_symbols, symbol_fits}
use Rattle.term_pool.specs.declared.terms.Equation.{Equation as Written}
use Rattle.term_pool.specs.declared.terms.Head.{Head}
use Rattle.term_pool.specs.HeadTrees.{tree_at, written_tree, IsIn}
use Rattle.graphs.specs.Graphs.{HasEdge, HasCycle, IsGraph}
use Rattle.eqn_check.specs.declared.calls.EquationCalls.{EquationCalls}
use Rattle.eqn_check.specs.Patterns.{IsMapping, IsOf, IsLeftSide}
use Rattle.eqn_check.specs.Patterns as patterns
use Rattle.eqn_check.specs.Calls.{Calls, EquationCalls as CalledIn, FunctionCalls, ArgumentShrinks, ArgumentFalls, CallsAre, Falls}
use Rattle.eqn_check.specs.CallTrees.{CallIn, CallInOne, ListsCalls, IsCallGraph}
use Rattle.eqn_check.specs.CallTables.{CallsOther, CallsItself, StandsIn, ListsEquationCalls, IsLeftOf, AreEdgesUpTo, CallsRoundTo, FallsAmong, marks_of, AreFallingUpTo, AreCalls, HasMark}
use Rattle.eqn_check.specs.Judged.{term_at, IsTerm, IsEquationOf, AreEquationsOf, IsEquationOver}
use Rattle.eqn_check.specs.Roles.{IsMappingSymbol}
use Rattle.eqn_check.specs.Rules.{BreaksRecursion, CallsAround, CallsWithoutFall}
use Rattle.eqn_check.proofs.Elements.{contains_at, place_of_element}
use Rattle.eqn_check.proofs.JudgedLemmas.{as_long, pair_at, element_at_place, not_so}
use Rattle.eqn_check.proofs.CallTreeLemmas.{call_found, call_told, each_is, are_by_each, path_reaches, reaches_path}
use Rattle.eqn_check.proofs.PatternsLeftLemmas.{no_left_side}
use Rattle.term_pool.specs.declared.terms.Head.TheVariants.{Fun}
use Rattle.eqn_check.proofs.EdgeLemmas.{IsAt, one_root, other_stands, stands_other}

-- ---- symbols and trees
-- a mapping's symbol is a declared function's
pub mapping_is : (g : Data) (s : Symbol) → IsMappingSymbol g s → (k : ℕ) × (s ≡ function k) × IsMapping g k
mapping_is g (function k) m = (k, refl, m)
mapping_is g _ m = absurd m

pub is_mapping_symbol : (g : Data) (s : Symbol) (k : ℕ) → s ≡ function k → IsMapping g k → IsMappingSymbol g s
is_mapping_symbol g s k e m = subst (IsMappingSymbol g) (sym e) m

mutual
  pub called_within : (sig : Sig) (h : FunId) (us : Trees) (t : Tree) → IsTreeWithin sig t → CallIn h us t → h.0 < length sig.functions
  called_within sig h us (trees.variable v) w c = absurd c
  called_within sig h us (trees.numeral a z) w c = absurd c
  called_within sig h us (trees.function f ts) w (inl c) = subst (λ (z : FunId). z.0 < length sig.functions) c.0 w.0
  called_within sig h us (trees.function f ts) w (inr c) = calling_within sig h us ts w.1 c

  calling_within : (sig : Sig) (h : FunId) (us ts : Trees) → AreTreesWithin sig ts → CallInOne h us ts → h.0 < length sig.functions
  calling_within sig h us trees.none w c = absurd c
  calling_within sig h us (trees.more t ts) w (inl c) = called_within sig h us t w.0 c
  calling_within sig h us (trees.more t ts) w (inr c) = calling_within sig h us ts w.1 c

-- a declared function's term is its tree
pub of_tree : (sig : Sig) (f : ℕ) (t : Tree) → IsOf f (term_under sig t) → (i : FunId) × (us : Trees) × (t ≡ trees.function i us) × (symbol_under sig i ≡ function f)
of_tree sig f (trees.variable v) o = absurd o
of_tree sig f (trees.numeral a z) o = absurd o
of_tree sig f (trees.function i us) o = (i, us, refl, of_symbol (symbol_under sig i) (terms_under sig us) o)
  where
    of_symbol : (s : Symbol) (ts : Terms) → IsOf f (terms.application s ts) → s ≡ function f
    of_symbol (function k) ts o = ap function o
    of_symbol _ ts o = absurd o

tree_of : (sig : Sig) (f : ℕ) (t : Tree) (i : FunId) (us : Trees) → t ≡ trees.function i us → symbol_under sig i ≡ function f → IsOf f (term_under sig t)
tree_of sig f t i us e s = subst (λ (z : Tree). IsOf f (term_under sig z)) (sym e) (of_symbol (symbol_under sig i) s)
  where
    of_symbol : (y : Symbol) → y ≡ function f → IsOf f (terms.application y (terms_under sig us))
    of_symbol y k = subst (λ (z : Symbol). IsOf f (terms.application z (terms_under sig us))) (sym k) refl

left_arguments : (sig : Sig) (t : Tree) (i : FunId) (us : Trees) → t ≡ trees.function i us → patterns.arguments_of (term_under sig t) ≡ terms_under sig us
left_arguments sig t i us e = ap (λ (z : Tree). patterns.arguments_of (term_under sig z)) e

abbrev number_in : Symbol → ℕ
number_in (function k) = k
number_in _ = 0

left_mapping : (g : Data) (s : Symbol) (us : Terms) → IsLeftSide g (terms.application s us) → IsMappingSymbol g s
left_mapping g (function k) us l = l.0
left_mapping g _ us l = absurd l

-- ---- what stands in the signature
-- listed calls are terms
pub listed_are_terms : (sig : Sig) (ts : List Tree) (t : Tree) (found : List TermId) → ListsCalls sig ts t found → All (IsTerm sig ts) found
listed_are_terms sig ts t found l k d m = (l.each (get_or found k d) (Contains-get_or found k d m)).within

pub listed_inside : (sig : Sig) (ts : List Tree) (t : Tree) (found : List TermId) → ListsCalls sig ts t found → All (IsIn ts) found
listed_inside sig ts t found l k d m = (l.each (get_or found k d) (Contains-get_or found k d m)).within.inside

module _ (sig : Sig) (ts : List Tree) where
  module _ (e : Written) (inside : IsEquationOver sig ts e) where
    stands_within : (h : FunId) (us : Trees) → StandsIn ts e h us → h.0 < length sig.functions
    stands_within h us (inl c) = called_within sig h us (tree_at ts e.cond) inside.condition.within c
    stands_within h us (inr c) = called_within sig h us (tree_at ts e.right) inside.right.within c

    pub root_within : (f : FunId) → IsAt ts e.left f → f.0 < length sig.functions
    root_within f r = let w : IsTreeWithin sig (trees.function f r.0) = subst (IsTreeWithin sig) r.1 inside.left.within in w.0

    module _ (f : FunId) (found : EquationCalls) (lists : ListsEquationCalls sig ts e found) where
      listed : (h : FunId) (us : Trees) → StandsIn ts e h us → IsMappingSymbol (data_meant sig) (symbol_under sig h) → (h.0 ≡ f.0 → ⊥) → CallsOther ts f found.condition.items h.0 ⊎ CallsOther ts f found.right.items h.0
      listed h us (inl c) m n = inl (stands_other sig ts (tree_at ts e.cond) found.condition.items lists.condition f h.0 us c m n)
      listed h us (inr c) m n = inr (stands_other sig ts (tree_at ts e.right) found.right.items lists.right f h.0 us c m n)

      listed_stands : (b : ℕ) → CallsOther ts f found.condition.items b ⊎ CallsOther ts f found.right.items b → (us : Trees) × StandsIn ts e (record { 0 = b }) us × IsMappingSymbol (data_meant sig) (symbol_under sig (record { 0 = b })) × (b ≡ f.0 → ⊥)
      listed_stands b (inl o) = let s = other_stands sig ts (tree_at ts e.cond) found.condition.items lists.condition f b o in (s.0, inl s.1, s.2, o.3)
      listed_stands b (inr o) = let s = other_stands sig ts (tree_at ts e.right) found.right.items lists.right f b o in (s.0, inr s.1, s.2, o.3)

      pub listed_within : (b : ℕ) → CallsOther ts f found.condition.items b ⊎ CallsOther ts f found.right.items b → b < length sig.functions
      listed_within b o = let s = listed_stands b o in stands_within (record { 0 = b }) s.0 s.1

  module _ (es : List Written) (all : All (IsEquationOver sig ts) es) (edges : List (Vec ℕ)) (are : AreEdgesUpTo sig ts es (length es) edges) where
    ends : (a b : ℕ) → HasEdge edges a b → (a < length sig.functions) × (b < length sig.functions)
    ends a b h =
        let c = (are.exact a b).0 h in
        let i = All-contains (IsEquationOver sig ts) es c.equation all (contains_at es c.place c.equation c.stands) in
        (root_within c.equation i (record { 0 = a }) (c.patterns, c.left.is), stands_within c.equation i (record { 0 = b }) c.arguments c.calls)

    pub edges_are_graph : IsGraph edges
    edges_are_graph a b h = subst (λ n. b < n) (sym are.size) (ends a b h).1

-- a left side of the right shape is a function's
pub never_shaped : (sig : Sig) (ts : List Tree) (es : List Written) (own : List Equation) → AreEquationsOf sig ts es own → (number : ℕ) (e : Written) (q : Equation) → slice_get es number ≡ Some e → slice_get own number ≡ Some q
    → (h : Head) (us : List Tree) → tree_at ts e.left ≡ written_tree h us → ((f : FunId) → h ≡ Fun f → ⊥) → IsLeftSide (data_meant sig) q.left → ⊥
never_shaped sig ts es own eqs number e q at there h us is n l =
    no_left_side sig ts e.left h us is n (subst (IsLeftSide (data_meant sig)) (pair_at (IsEquationOf sig ts) es own number e q eqs at there).left l)

module _ (sig : Sig) (table : IsTable sig) (ts : List Tree) (es : List Written) (own : List Equation) (all : All (IsEquationOver sig ts) es) (eqs : AreEquationsOf sig ts es own) where
  one_function : (i j : FunId) (f : ℕ) → i.0 < length sig.functions → j.0 < length sig.functions → symbol_under sig i ≡ function f → symbol_under sig j ≡ function f → i ≡ j
  one_function i j f l m e k = different_functions_mean_different_symbols sig table i j l m (e ∙ sym k)

  as_many : length es ≡ length own
  as_many = as_long (IsEquationOf sig ts) es own eqs

  meant : (k : ℕ) (e : Written) (q : Equation) → slice_get es k ≡ Some e → slice_get own k ≡ Some q → IsEquationOf sig ts e q
  meant k e q a b = pair_at (IsEquationOf sig ts) es own k e q eqs a b

  over : (k : ℕ) (e : Written) → slice_get es k ≡ Some e → IsEquationOver sig ts e
  over k e a = All-contains (IsEquationOver sig ts) es e all (contains_at es k e a)

  written_at : (k : ℕ) (q : Equation) → slice_get own k ≡ Some q → (e : Written) × (slice_get es k ≡ Some e)
  written_at k q a = element_at_place es k (let l = slice_get_within own k q a in let m = as_many in omega (arith, l, m))

  meant_at : (k : ℕ) (e : Written) → slice_get es k ≡ Some e → (q : Equation) × (slice_get own k ≡ Some q)
  meant_at k e a = element_at_place own k (let l = slice_get_within es k e a in let m = as_many in omega (arith, l, m))

  -- ---- calls of one equation
  module _ (e : Written) (q : Equation) (is : IsEquationOf sig ts e q) where
    stands_called : (h : FunId) (us : Trees) (k : ℕ) → StandsIn ts e h us → symbol_under sig h ≡ function k → CalledIn q k
    stands_called h us k (inl c) s = inl (subst (λ t. Calls t k) (sym is.condition) (call_told sig h us (tree_at ts e.cond) k c s))
    stands_called h us k (inr c) s = inr (subst (λ t. Calls t k) (sym is.right) (call_told sig h us (tree_at ts e.right) k c s))

    called_stands : (k : ℕ) → CalledIn q k → (h : FunId) × (us : Trees) × StandsIn ts e h us × (symbol_under sig h ≡ function k)
    called_stands k (inl c) = let r = call_found sig (tree_at ts e.cond) k (subst (λ t. Calls t k) is.condition c) in (r.0, r.1, inl r.2, r.3)
    called_stands k (inr c) = let r = call_found sig (tree_at ts e.right) k (subst (λ t. Calls t k) is.right c) in (r.0, r.1, inr r.2, r.3)

  -- ---- the graph
  module _ (edges : List (Vec ℕ)) (are : AreEdgesUpTo sig ts es (length es) edges) where
    edge_sound : (a b : ℕ) → HasEdge edges a b → (f h : ℕ) × (symbol_under sig (record { 0 = a }) ≡ function f) × (symbol_under sig (record { 0 = b }) ≡ function h) × FunctionCalls (data_meant sig) own f h
    edge_sound a b edge =
        let c = (are.exact a b).0 edge in
        let q = meant_at c.place c.equation c.stands in
        let m = meant c.place c.equation q.0 c.stands q.1 in
        let f = mapping_is (data_meant sig) (symbol_under sig (record { 0 = a })) c.left.is_mapping in
        let h = mapping_is (data_meant sig) (symbol_under sig (record { 0 = b })) c.is_mapping in (
          f.0,
          h.0,
          f.1,
          h.1,
          record {
            equation = q.0;
            stands = contains_at own c.place q.0 q.1;
            is_of = subst (IsOf f.0) (sym m.left) (tree_of sig f.0 (tree_at ts c.equation.left) (record { 0 = a }) c.patterns c.left.is f.1);
            calls = stands_called c.equation q.0 m (record { 0 = b }) c.arguments h.0 c.calls h.1;
            is_mapping = h.2;
          },
        )

    edge_complete : (a f h : ℕ) → a < length sig.functions → symbol_under sig (record { 0 = a }) ≡ function f → IsMapping (data_meant sig) f → FunctionCalls (data_meant sig) own f h → (f ≡ h → ⊥)
        → (b : ℕ) × (b < length sig.functions) × (symbol_under sig (record { 0 = b }) ≡ function h) × HasEdge edges a b
    edge_complete a f h l e im c n =
        let p = place_of_element own c.equation c.stands in
        let w = written_at p.0 c.equation p.1 in
        let m = meant p.0 w.0 c.equation w.1 p.1 in
        let i = over p.0 w.0 w.1 in
        let left = of_tree sig f (tree_at ts w.0.left) (subst (IsOf f) m.left c.is_of) in
        let same : left.0 ≡ record { 0 = a } = one_function left.0 (record { 0 = a }) f (root_within sig ts w.0 i left.0 (left.1, left.2)) l left.3 e in
        let r = called_stands w.0 c.equation m h c.calls in (
          r.0.0,
          stands_within sig ts w.0 i r.0 r.1 r.2,
          r.3,
          (are.exact a r.0.0).1 (record {
            place = p.0;
            below = slice_get_within es p.0 w.0 w.1;
            equation = w.0;
            stands = w.1;
            patterns = left.1;
            left = record { is = left.2 ∙ ap (λ (z : FunId). trees.function z left.1) same; is_mapping = is_mapping_symbol (data_meant sig) (symbol_under sig (record { 0 = a })) f e im };
            arguments = r.1;
            calls = r.2;
            is_mapping = is_mapping_symbol (data_meant sig) (symbol_under sig r.0) h r.3 c.is_mapping;
            other = λ q. n (ap number_in (sym e ∙ (ap (λ (z : ℕ). symbol_under sig (record { 0 = z })) (sym q) ∙ r.3)));
          }),
        )

    pub call_graph : IsCallGraph sig own edges
    call_graph = record { nodes = ends sig ts es all edges are; sound = edge_sound; complete = edge_complete }

  -- ---- one equation of a mapping
  module _ (number : ℕ) (e : Written) (q : Equation) (at : slice_get es number ≡ Some e) (there : slice_get own number ≡ Some q) (shaped : IsLeftSide (data_meant sig) q.left) (f : FunId) (root : IsAt ts e.left f) where
    is : IsEquationOf sig ts e q
    is = meant number e q at there

    inside : IsEquationOver sig ts e
    inside = over number e at

    pub left_symbol : IsMappingSymbol (data_meant sig) (symbol_under sig f)
    left_symbol = left_mapping (data_meant sig) (symbol_under sig f) (terms_under sig root.0) (subst (λ (z : Tree). IsLeftSide (data_meant sig) (term_under sig z)) root.1 (subst (IsLeftSide (data_meant sig)) is.left shaped))

    map : (k : ℕ) × (symbol_under sig f ≡ function k) × IsMapping (data_meant sig) k
    map = mapping_is (data_meant sig) (symbol_under sig f) left_symbol

    within : f.0 < length sig.functions
    within = root_within sig ts e inside f root

    is_of : IsOf map.0 q.left
    is_of = subst (IsOf map.0) (sym is.left) (tree_of sig map.0 (tree_at ts e.left) f root.0 root.1 map.1)

    one_map : (k : ℕ) → IsOf k q.left → k ≡ map.0
    one_map k o =
        let l = of_tree sig k (tree_at ts e.left) (subst (IsOf k) is.left o) in
        let same : l.0 ≡ f = one_root ts e.left l.0 f (l.1, l.2) root in
        ap number_in (sym l.3 ∙ (ap (symbol_under sig) same ∙ map.1))

    module _ (found : EquationCalls) (lists : ListsEquationCalls sig ts e found) where
      module _ (edges : List (Vec ℕ)) (are : AreEdgesUpTo sig ts es (length es) edges) where
        round_tells : CallsRoundTo ts edges f found → CallsAround (data_meant sig) own q map.0
        round_tells r =
            let s = listed_stands sig ts e inside f found lists r.0 r.1 in
            let h = mapping_is (data_meant sig) (symbol_under sig (record { 0 = r.0 })) s.2 in
            record {
              other = h.0;
              is_other = λ k. s.3 (ap (λ (z : FunId). z.0) (one_function (record { 0 = r.0 }) f map.0 (listed_within sig ts e inside f found lists r.0 r.1) within (h.1 ∙ ap function k) map.1));
              is_mapping = h.2;
              calls = stands_called e q is (record { 0 = r.0 }) s.0 h.0 s.1 h.1;
              reaches = path_reaches sig table own edges (call_graph edges are) r.0 r.2.0 f.0 h.0 map.0 r.2.1 h.1 map.1;
            }

        round_told : CallsAround (data_meant sig) own q map.0 → CallsRoundTo ts edges f found
        round_told a =
            let r = called_stands e q is a.other a.calls in
            let m = is_mapping_symbol (data_meant sig) (symbol_under sig r.0) a.other r.3 a.is_mapping in (
              r.0.0,
              listed sig ts e inside f found lists r.0 r.1 r.2 m (λ k. a.is_other (ap number_in (sym r.3 ∙ (ap (λ (z : ℕ). symbol_under sig (record { 0 = z })) k ∙ map.1)))),
              reaches_path sig table own edges (call_graph edges are) a.other map.0 a.reaches a.is_mapping a.is_other r.0.0 f.0 (stands_within sig ts e inside r.0 r.1 r.2) within r.3 map.1,
            )

        -- no call leads round where the graph has no cycle
        pub round_cycle : CallsRoundTo ts edges f found → HasCycle (HasEdge edges)
        round_cycle r =
            let s = listed_stands sig ts e inside f found lists r.0 r.1 in (
              f.0,
              r.0 ∷ r.2.0,
              (
                (are.exact f.0 r.0).1 (record {
                  place = number;
                  below = slice_get_within es number e at;
                  equation = e;
                  stands = at;
                  patterns = root.0;
                  left = record { is = root.1; is_mapping = left_symbol };
                  arguments = s.0;
                  calls = s.1;
                  is_mapping = s.2;
                  other = s.3;
                }),
                r.2.1,
              ),
            )

        -- ---- its own calls
        itself_listed : (us : Trees) → StandsIn ts e f us → CallsItself ts f found.condition.items ⊎ CallsItself ts f found.right.items
        itself_listed us (inl c) = let k = lists.condition.all f us c left_symbol in inl (k.0, k.1, (us, k.2))
        itself_listed us (inr c) = let k = lists.right.all f us c left_symbol in inr (k.0, k.1, (us, k.2))

        itself_told : CalledIn q map.0 → CallsItself ts f found.condition.items ⊎ CallsItself ts f found.right.items
        itself_told c =
            let r = called_stands e q is map.0 c in
            let same : r.0 ≡ f = one_function r.0 f map.0 (stands_within sig ts e inside r.0 r.1 r.2) within r.3 map.1 in
            itself_listed r.1 (subst (λ (z : FunId). StandsIn ts e z r.1) same r.2)

        itself_tells : CallsItself ts f found.condition.items ⊎ CallsItself ts f found.right.items → CalledIn q map.0
        itself_tells (inl c) =
            let k = lists.condition.each c.0 c.1 in
            stands_called e q is k.map k.arguments map.0 (inl k.stands) (ap (symbol_under sig) (one_root ts c.0 k.map f (k.arguments, k.is) c.2) ∙ map.1)
        itself_tells (inr c) =
            let k = lists.right.each c.0 c.1 in
            stands_called e q is k.map k.arguments map.0 (inr k.stands) (ap (symbol_under sig) (one_root ts c.0 k.map f (k.arguments, k.is) c.2) ∙ map.1)

        -- ---- its places
        module _ (places : List (Vec Bool)) (falling : AreFallingUpTo sig ts es (length es) places) where
          entry : (h : Function) × (slice_get sig.functions f.0 ≡ Some h)
          entry = element_at_place sig.functions f.0 within

          arity : length (function_at (data_meant sig) map.0).arguments ≡ length (arguments_of entry.0)
          arity = ap (λ (s : Symbol). length (argument_sorts (data_meant sig) s)) (sym map.1) ∙ (ap length (symbol_fits sig table f entry.0 entry.1).1 ∙ length-map (arguments_of entry.0) (sort_under sig))

          -- the mapping of an equation of it, and its patterns
          left_in : (d : Written) (p : Equation) → IsEquationOf sig ts d p → IsEquationOver sig ts d → IsOf map.0 p.left → (ps : Trees) × IsLeftOf sig ts d f ps
          left_in d p m i o =
              let l = of_tree sig map.0 (tree_at ts d.left) (subst (IsOf map.0) m.left o) in
              let same : l.0 ≡ f = one_function l.0 f map.0 (root_within sig ts d i l.0 (l.1, l.2)) within l.3 map.1 in
              (l.1, record { is = l.2 ∙ ap (λ (z : FunId). trees.function z l.1) same; is_mapping = left_symbol })

          among_falls : (k : ℕ) → FallsAmong sig ts es (length es) f k → Falls (data_meant sig) own map.0 k
          among_falls k a p c o =
              let z = place_of_element own p c in
              let w = written_at z.0 p z.1 in
              let m = meant z.0 w.0 p w.1 z.1 in
              let i = over z.0 w.0 w.1 in
              let l = left_in w.0 p m i o in
              let each = a z.0 w.0 (slice_get_within es z.0 w.0 w.1) w.1 l.0 l.1 in
              let ps : patterns.arguments_of p.left ≡ terms_under sig l.0 = ap patterns.arguments_of m.left ∙ left_arguments sig (tree_at ts w.0.left) f l.0 l.1.is in
              let is_f : (h : FunId) (us : Trees) → StandsIn ts w.0 h us → symbol_under sig h ≡ function map.0 → h ≡ f = λ h us s y. one_function h f map.0 (stands_within sig ts w.0 i h us s) within y map.1 in (
                subst (CallsAre (ArgumentShrinks (data_meant sig) k (patterns.arguments_of p.left)) map.0) (sym m.condition) (subst (λ (z : Terms). CallsAre (ArgumentShrinks (data_meant sig) k z) map.0 (term_at sig ts w.0.cond)) (sym ps)
                    (are_by_each sig map.0 (ArgumentShrinks (data_meant sig) k (terms_under sig l.0)) (tree_at ts w.0.cond) (λ h us s y. each.condition us (subst (λ (z : FunId). CallIn z us (tree_at ts w.0.cond)) (is_f h us (inl s) y) s)))),
                subst (λ (c : Term). CallsAre (ArgumentFalls (data_meant sig) c k (patterns.arguments_of p.left)) map.0 p.right) (sym m.condition)
                    (subst (CallsAre (ArgumentFalls (data_meant sig) (term_at sig ts w.0.cond) k (patterns.arguments_of p.left)) map.0) (sym m.right)
                    (subst (λ (z : Terms). CallsAre (ArgumentFalls (data_meant sig) (term_at sig ts w.0.cond) k z) map.0 (term_at sig ts w.0.right)) (sym ps)
                    (are_by_each sig map.0 (ArgumentFalls (data_meant sig) (term_at sig ts w.0.cond) k (terms_under sig l.0)) (tree_at ts w.0.right)
                    (λ h us s y. each.right us (subst (λ (z : FunId). CallIn z us (tree_at ts w.0.right)) (is_f h us (inr s) y) s))))),
              )

          falls_among : (k : ℕ) → Falls (data_meant sig) own map.0 k → FallsAmong sig ts es (length es) f k
          falls_among k a j d l at_d ps left =
              let p = meant_at j d at_d in
              let m = meant j d p.0 at_d p.1 in
              let o = subst (IsOf map.0) (sym m.left) (tree_of sig map.0 (tree_at ts d.left) f ps left.is map.1) in
              let both = a p.0 (contains_at own j p.0 p.1) o in
              let args : patterns.arguments_of p.0.left ≡ terms_under sig ps = ap patterns.arguments_of m.left ∙ left_arguments sig (tree_at ts d.left) f ps left.is in
              let condition : CallsAre (ArgumentShrinks (data_meant sig) k (terms_under sig ps)) map.0 (term_at sig ts d.cond) =
              subst (λ (z : Terms). CallsAre (ArgumentShrinks (data_meant sig) k z) map.0 (term_at sig ts d.cond)) args (subst (CallsAre (ArgumentShrinks (data_meant sig) k (patterns.arguments_of p.0.left)) map.0) m.condition both.0) in
              let right : CallsAre (ArgumentFalls (data_meant sig) (term_at sig ts d.cond) k (terms_under sig ps)) map.0 (term_at sig ts d.right) =
              subst (λ (z : Terms). CallsAre (ArgumentFalls (data_meant sig) (term_at sig ts d.cond) k z) map.0 (term_at sig ts d.right)) args
              (subst (CallsAre (ArgumentFalls (data_meant sig) (term_at sig ts d.cond) k (patterns.arguments_of p.0.left)) map.0) m.right
              (subst (λ (c : Term). CallsAre (ArgumentFalls (data_meant sig) c k (patterns.arguments_of p.0.left)) map.0 p.0.right) m.condition both.1)) in
              record {
                condition = λ us c. each_is sig map.0 (ArgumentShrinks (data_meant sig) k (terms_under sig ps)) (tree_at ts d.cond) condition f us c map.1;
                right = λ us c. each_is sig map.0 (ArgumentFalls (data_meant sig) (term_at sig ts d.cond) k (terms_under sig ps)) (tree_at ts d.right) right f us c map.1;
              }

          -- ---- what is answered
          around_breaks : CallsRoundTo ts edges f found → BreaksRecursion (data_meant sig) own q
          around_breaks r = (map.0, is_of, inl (round_tells r))

          pub breaks_round : (b : Bool) → b ≡ true → CallsRoundTo ts edges f found → Decides b (BreaksRecursion (data_meant sig) own q)
          breaks_round b t r = ((λ z. around_breaks r), (λ z. t))

          module _ (no_round : CallsRoundTo ts edges f found → ⊥) where
            no_around : (k : ℕ) → IsOf k q.left → CallsAround (data_meant sig) own q k → ⊥
            no_around k o a = no_round (round_told (subst (CallsAround (data_meant sig) own q) (one_map k o) a))

            pub keeps_uncalled : (CallsItself ts f found.condition.items ⊎ CallsItself ts f found.right.items → ⊥) → Decides false (BreaksRecursion (data_meant sig) own q)
            keeps_uncalled n = ((λ z. cc), (λ b. absurd (⊎_elim (λ a. no_around b.0 b.1 a) (λ c. let d = subst (CallsWithoutFall (data_meant sig) own q) (one_map b.0 b.1) c in n (itself_told d.calls)) b.2)))

            -- it calls itself: is a place marked?
            pub by_marks : CallsItself ts f found.condition.items ⊎ CallsItself ts f found.right.items → (b : Bool) → Decides b (HasMark (marks_of places f.0)) → (r : Bool) → (b ≡ false → r ≡ true) → (r ≡ true → b ≡ false) → Decides r (BreaksRecursion (data_meant sig) own q)
            by_marks c b d r up down = (
              (λ t. (
                map.0,
                is_of,
                inr (record {
                  calls = itself_tells c;
                  no_place = λ k l falls. not_so b d (down t) (k, (falling.exact f entry.0 entry.1 left_symbol k).1 (subst (λ n. k < n) arity l, falls_among k falls));
                }),
              )),
              (λ x. up (marked_not x b d)),
            )
              where
                marked_not : BreaksRecursion (data_meant sig) own q → (b : Bool) → Decides b (HasMark (marks_of places f.0)) → b ≡ false
                marked_not x false d = refl
                marked_not x true d = absurd (⊎_elim (λ a. no_around x.0 x.1 a)
                    (λ w.
                    let v = subst (CallsWithoutFall (data_meant sig) own q) (one_map x.0 x.1) w in
                    let m = d.0 refl in
                    let k = (falling.exact f entry.0 entry.1 left_symbol m.0).0 m.1 in
                    v.no_place m.0 (subst (λ n. m.0 < n) (sym arity) k.0) (among_falls m.0 k.1))
                    x.2)

-- ---- what the code found
-- the equation at the number, its calls, and what was found of them
module _ (sig : Sig) (table : IsTable sig) (ts : List Tree) (es : List Written) (all : All (IsEquationOver sig ts) es) (lists : List EquationCalls) (edges : List (Vec ℕ)) (cyclic : Bool) (places : List (Vec Bool)) (are : AreCalls sig ts es lists edges cyclic places)
    (number : ℕ) (e : Written) (at : slice_get es number ≡ Some e) (found : EquationCalls) (there : slice_get lists number ≡ Some found) (f : FunId) (root : IsAt ts e.left f) where
  pub its_calls : ListsEquationCalls sig ts e found
  its_calls = pair_at (ListsEquationCalls sig ts) es lists number e found are.lists_are at there

  pub condition_inside : All (IsIn ts) found.condition.items
  condition_inside = listed_inside sig ts (tree_at ts e.cond) found.condition.items its_calls.condition

  pub right_inside : All (IsIn ts) found.right.items
  right_inside = listed_inside sig ts (tree_at ts e.right) found.right.items its_calls.right

  it_is_over : IsEquationOver sig ts e
  it_is_over = All-contains (IsEquationOver sig ts) es e all (contains_at es number e at)

  pub edges_graph : IsGraph edges
  edges_graph = edges_are_graph sig ts es all edges are.edges_are

  pub function_is_node : f.0 < length edges
  function_is_node = subst (λ n. f.0 < n) (sym are.edges_are.size) (root_within sig ts e it_is_over f root)

  pub callees_are_nodes : (b : ℕ) → CallsOther ts f found.condition.items b ⊎ CallsOther ts f found.right.items b → b < length edges
  callees_are_nodes b o = subst (λ n. b < n) (sym are.edges_are.size) (listed_within sig ts e it_is_over f found its_calls b o)

  pub function_has_marks : f.0 < length places
  function_has_marks = subst (λ n. f.0 < n) (sym are.falling_are.size) (root_within sig ts e it_is_over f root)

  module _ (own : List Equation) (eqs : AreEquationsOf sig ts es own) (q : Equation) (stands : slice_get own number ≡ Some q) (shaped : IsLeftSide (data_meant sig) q.left) (round : Bool) (told : round ≡ true → CallsRoundTo ts edges f found) (none : round ≡ false → CallsRoundTo ts edges f found → cyclic ≡ false) where
    no_round : round ≡ false → CallsRoundTo ts edges f found → ⊥
    no_round r c = are.acyclic (none r c) (round_cycle sig table ts es own all eqs number e q at stands shaped f root found its_calls edges are.edges_are c)

    pub answers_round : round ≡ true → (b : Bool) → b ≡ true → Decides b (BreaksRecursion (data_meant sig) own q)
    answers_round r b t = breaks_round sig table ts es own all eqs number e q at stands shaped f root found its_calls edges are.edges_are places are.falling_are b t (told r)

    pub answers_uncalled : round ≡ false → (i : Bool) → Decides i (CallsItself ts f found.condition.items ⊎ CallsItself ts f found.right.items) → i ≡ false → Decides false (BreaksRecursion (data_meant sig) own q)
    answers_uncalled r i d n = keeps_uncalled sig table ts es own all eqs number e q at stands shaped f root found its_calls edges are.edges_are places are.falling_are (no_round r) (not_so i d n)

    pub answers_marks : round ≡ false → (i : Bool) → Decides i (CallsItself ts f found.condition.items ⊎ CallsItself ts f found.right.items) → i ≡ true → (b : Bool) → Decides b (HasMark (marks_of places f.0)) → Decides (not b) (BreaksRecursion (data_meant sig) own q)
    answers_marks r i d y b m = by_marks sig table ts es own all eqs number e q at stands shaped f root found its_calls edges are.edges_are places are.falling_are (no_round r) (d.0 y) b m (not b) (λ n. ap not n) (not_true b)
      where
        not_true : (b : Bool) → not b ≡ true → b ≡ false
        not_true false k = refl
        not_true true k = cc
