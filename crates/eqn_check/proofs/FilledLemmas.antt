-- Terms in code with the most general terms put in.
use Rattle.std.proofs.Common.{◌≡◌, ℕ, zero, suc, ◌<◌, ◌+◌, ◌⊎◌, inl, inr, ⊎_elim, List, [], ◌∷◌, ◌++◌, length, get_or, take, Bool, true, false, refl, sym, ap, ap₂, ◌∙◌, subst, arith, append_assoc, append-nil}
use Rattle.std.specs.Prelude.{Option, None, Some}
use Rattle.std.specs.List.{All}
use Rattle.std.specs.Bool.{Decides}
use Rattle.std.proofs.lemmas.List.Elements.{All-nil, All-cons, All-head, All-tail, All-append}
use Rattle.data_theory.specs.declared.ids.TermId.{TermId}
use Rattle.data_theory.specs.declared.ids.FunId.{FunId}
use Rattle.data_theory.specs.declared.ids.VarId.{VarId}
use Rattle.data_theory.specs.Terms as terms
use Rattle.data_theory.specs.Terms.{Symbol, Term, Terms}
use Rattle.data_theory.specs.Signature.{Sig}
use Rattle.data_theory.specs.IdTables.{IsTable}
use Rattle.data_theory.specs.IdTerms.{symbol_under, sort_under, term_under, terms_under}
use Rattle.data_theory.specs.IdTrees.{Tree, Trees, variable, numeral, function, trees_of}
use Rattle.data_theory.proofs.IdSymbolLemmas.{different_functions_mean_different_symbols}
use Rattle.data_theory.proofs.IdTermLemmas.{different_trees_mean_different_terms}
use Rattle.term_pool.specs.declared.terms.Head.{Head}
use Rattle.term_pool.specs.declared.terms.Head.TheVariants.{Var, Num as Number, Fun}
use Rattle.term_pool.specs.HeadTrees.{tree_at, trees_at, written_tree}
use Rattle.term_pool.specs.Pools.{AreDistinct}
use Rattle.eqn_check.specs.declared.filled.Filling.{Filling}
use Rattle.eqn_check.specs.declared.filled.Filling.TheVariants.{First, Second, FirstAlone, SecondAlone}
use Rattle.eqn_check.specs.declared.filled.FilledTerm.{FilledTerm}
use Rattle.eqn_check.specs.declared.filled.Opposites.{Opposites}
use Rattle.eqn_check.specs.Alike.{Pair, pairs, IsVariableTree}
use Rattle.eqn_check.specs.Exclusion.{filled, all_filled, double, first_variable, second_variable}
use Rattle.eqn_check.specs.Fillings.{opposite_of, first_put, second_or, second_put, filling, filled_at, AreOppositesOver, IsAlone, IsResolved, first_given, IsLeaf, FilledPair, IsFilledPair, IsSamePair, with_filling, filled_pairs, ComparesFilled, AreFilledLeft}
use Rattle.eqn_check.specs.Judged.{IsTerm}
use Rattle.eqn_check.proofs.TermLemmas.{function_within, arguments_are_terms}
use Rattle.eqn_check.proofs.AlikePairs.{left_of, right_of, one_more}

some_same : {A : Type 0} {x y : A} → Some x ≡ Some y → x ≡ y
some_same e = cc

-- ---- numbers renamed apart
double_tells : (x y : ℕ) → double x ≡ double y → x ≡ y
double_tells zero zero e = refl
double_tells zero (suc y) e = absurd (omega (arith, e))
double_tells (suc x) zero e = absurd (omega (arith, e))
double_tells (suc x) (suc y) e = ap suc (double_tells x y (omega (arith, e)))

double_apart : (x y : ℕ) → double x ≡ suc (double y) → ⊥
double_apart zero y e = absurd (omega (arith, e))
double_apart (suc x) zero e = absurd (omega (arith, e))
double_apart (suc x) (suc y) e = double_apart x y (omega (arith, e))

abbrev number_of_variable : Term → ℕ
number_of_variable (terms.variable x) = x
number_of_variable _ = 0

-- ---- what stands for a variable
module _ (sig : Sig) (ts : List Tree) (o : Opposites) where
  pub first_stands : (f : FilledTerm) (v : VarId) → tree_at ts f.term ≡ variable v → f.by ≡ First → AreOppositesOver sig ts o → IsTerm sig ts f.term → IsResolved sig ts o f (first_given f.term (opposite_of o.first v.0))
  first_stands f v is by over within = by_option (opposite_of o.first v.0) refl
    where
      meant : filled_at sig ts o f ≡ first_put sig ts v.0 (opposite_of o.first v.0)
      meant = ap₂ (λ (b : Filling) (t : Tree). filled (filling sig ts o b) (term_under sig t)) by is

      by_option : (r : Option TermId) → opposite_of o.first v.0 ≡ r → IsResolved sig ts o f (first_given f.term r)
      by_option None e = record {
        term = within;
        same = ap (λ (t : Tree). filled (filling sig ts o FirstAlone) (term_under sig t)) is ∙ sym (meant ∙ ap (first_put sig ts v.0) e);
        alone = λ i. tt;
      }
      by_option (Some t) e = record {
        term = over.first v.0 t e;
        same = sym (meant ∙ ap (first_put sig ts v.0) e);
        alone = λ i. tt;
      }

  pub second_stands : (f : FilledTerm) (v : VarId) (t : TermId) → tree_at ts f.term ≡ variable v → f.by ≡ Second → AreOppositesOver sig ts o → opposite_of o.second v.0 ≡ Some t → (IsVariableTree (tree_at ts t) → ⊥) → IsResolved sig ts o f (record { term = t; by = FirstAlone })
  second_stands f v t is by over e n = record {
    term = over.second v.0 t e;
    same = sym (meant ∙ (ap (second_put sig ts v.0) e ∙ no_variable (tree_at ts t) n));
    alone = λ i. tt;
  }
    where
      meant : filled_at sig ts o f ≡ second_put sig ts v.0 (opposite_of o.second v.0)
      meant = ap₂ (λ (b : Filling) (u : Tree). filled (filling sig ts o b) (term_under sig u)) by is

      no_variable : (u : Tree) → (IsVariableTree u → ⊥) → second_or v.0 (term_under sig u) ≡ filled first_variable (term_under sig u)
      no_variable (variable w) m = absurd (m tt)
      no_variable (numeral a z) m = refl
      no_variable (function h us) m = refl

  pub second_alone : (f : FilledTerm) (v : VarId) → tree_at ts f.term ≡ variable v → f.by ≡ Second → IsTerm sig ts f.term
      → (opposite_of o.second v.0 ≡ None) ⊎ ((t : TermId) × (opposite_of o.second v.0 ≡ Some t) × IsVariableTree (tree_at ts t)) → IsResolved sig ts o f (record { term = f.term; by = SecondAlone })
  second_alone f v is by within either = record {
    term = within;
    same = ap (λ (t : Tree). filled (filling sig ts o SecondAlone) (term_under sig t)) is ∙ sym (meant ∙ stays either);
    alone = λ i. tt;
  }
    where
      meant : filled_at sig ts o f ≡ second_put sig ts v.0 (opposite_of o.second v.0)
      meant = ap₂ (λ (b : Filling) (u : Tree). filled (filling sig ts o b) (term_under sig u)) by is

      a_variable : (u : Tree) → IsVariableTree u → second_or v.0 (term_under sig u) ≡ second_variable v.0
      a_variable (variable w) m = refl
      a_variable (numeral a z) m = absurd m
      a_variable (function h us) m = absurd m

      stays : (opposite_of o.second v.0 ≡ None) ⊎ ((t : TermId) × (opposite_of o.second v.0 ≡ Some t) × IsVariableTree (tree_at ts t)) → second_put sig ts v.0 (opposite_of o.second v.0) ≡ second_variable v.0
      stays (inl e) = ap (second_put sig ts v.0) e
      stays (inr e) = ap (second_put sig ts v.0) e.1 ∙ a_variable (tree_at ts e.0) e.2

  -- ---- leaves
  alone_variable : (b : Filling) (v : VarId) → IsAlone b → (filling sig ts o b v.0 ≡ first_variable v.0) × (b ≡ FirstAlone) ⊎ ((filling sig ts o b v.0 ≡ second_variable v.0) × (b ≡ SecondAlone))
  alone_variable FirstAlone v a = inl (refl, refl)
  alone_variable SecondAlone v a = inr (refl, refl)
  alone_variable First v a = absurd a
  alone_variable Second v a = absurd a

  same_variables : (b c : Filling) (v w : VarId) → IsAlone b → IsAlone c → filling sig ts o b v.0 ≡ filling sig ts o c w.0 → (v ≡ w) × (b ≡ c)
  same_variables FirstAlone FirstAlone v w a d e = let n = double_tells v.0 w.0 (ap number_of_variable e) in ((λ i. record { 0 = n i }), refl)
  same_variables SecondAlone SecondAlone v w a d e = let m = ap number_of_variable e in let n = double_tells v.0 w.0 (omega (arith, m)) in ((λ i. record { 0 = n i }), refl)
  same_variables FirstAlone SecondAlone v w a d e = absurd (double_apart v.0 w.0 (ap number_of_variable e))
  same_variables SecondAlone FirstAlone v w a d e = absurd (double_apart w.0 v.0 (sym (ap number_of_variable e)))
  same_variables First c v w a d e = absurd a
  same_variables Second c v w a d e = absurd a
  same_variables FirstAlone First v w a d e = absurd d
  same_variables FirstAlone Second v w a d e = absurd d
  same_variables SecondAlone First v w a d e = absurd d
  same_variables SecondAlone Second v w a d e = absurd d

  -- a variable that stays is no other term
  pub alone_is_variable : (b : Filling) (v : VarId) → IsAlone b → (x : ℕ) × (filling sig ts o b v.0 ≡ terms.variable x)
  alone_is_variable FirstAlone v a = (double v.0, refl)
  alone_is_variable SecondAlone v a = (suc (double v.0), refl)
  alone_is_variable First v a = absurd a
  alone_is_variable Second v a = absurd a

  leaf_trees : (b c : Filling) (t u : Tree) → IsLeaf t → (IsVariableTree t → IsAlone b) → (IsVariableTree u → IsAlone c) → filled (filling sig ts o b) (term_under sig t) ≡ filled (filling sig ts o c) (term_under sig u)
      → (term_under sig t ≡ term_under sig u) × (IsVariableTree t → b ≡ c)
  leaf_trees b c (variable v) (variable w) l m n e = let s = same_variables b c v w (m tt) (n tt) e in (ap (λ (x : VarId). terms.variable x.0) s.0, λ i. s.1)
  leaf_trees b c (variable v) (numeral a z) l m n e = let x = alone_is_variable b v (m tt) in let d : terms.variable x.0 ≡ terms.numeral (sort_under sig a) z = sym x.1 ∙ e in cc
  leaf_trees b c (variable v) (function h us) l m n e =
      let x = alone_is_variable b v (m tt) in let d : terms.variable x.0 ≡ terms.application (symbol_under sig h) (all_filled (filling sig ts o c) (terms_under sig us)) = sym x.1 ∙ e in cc
  leaf_trees b c (numeral a z) (variable w) l m n e = let x = alone_is_variable c w (n tt) in let d : terms.numeral (sort_under sig a) z ≡ terms.variable x.0 = e ∙ x.1 in cc
  leaf_trees b c (numeral a z) (numeral r y) l m n e = (e, λ i. absurd i)
  leaf_trees b c (numeral a z) (function h us) l m n e = cc
  leaf_trees b c (function h us) u l m n e = absurd l

  module _ (one other : FilledTerm) (table : IsTable sig) (distinct : AreDistinct ts) (one_in : IsTerm sig ts one.term) (other_in : IsTerm sig ts other.term)
      (leaf : IsLeaf (tree_at ts one.term)) (one_alone : IsVariableTree (tree_at ts one.term) → IsAlone one.by) (other_alone : IsVariableTree (tree_at ts other.term) → IsAlone other.by) where
    leaves_tell : filled_at sig ts o one ≡ filled_at sig ts o other → (one.term ≡ other.term) × (IsVariableTree (tree_at ts one.term) → one.by ≡ other.by)
    leaves_tell e =
        let s = leaf_trees one.by other.by (tree_at ts one.term) (tree_at ts other.term) leaf one_alone other_alone e in
        let trees = different_trees_mean_different_terms sig table (tree_at ts one.term) (tree_at ts other.term) one_in.within other_in.within s.0 in
        let n : one.term.0 ≡ other.term.0 = distinct one.term.0 other.term.0 one_in.inside other_in.inside trees in
        ((λ i. record { 0 = n i }), s.1)

    no_leaf_filled : (b c : Filling) (t : Tree) → IsLeaf t → (IsVariableTree t → ⊥) → filled (filling sig ts o b) (term_under sig t) ≡ filled (filling sig ts o c) (term_under sig t)
    no_leaf_filled b c (variable v) l n = absurd (n tt)
    no_leaf_filled b c (numeral a z) l n = refl
    no_leaf_filled b c (function h us) l n = absurd l

    pub other_leaves : (b : Bool) → b ≡ false → (one.term ≡ other.term → ⊥) → Decides b (filled_at sig ts o one ≡ filled_at sig ts o other)
    other_leaves b f n = ((λ t. absurd (let z : true ≡ false = sym t ∙ f in cc)), (λ e. absurd (n (leaves_tell e).0)))

    -- the same id
    pub one_leaf : one.term ≡ other.term → (v b r : Bool) → Decides v (IsVariableTree (tree_at ts one.term)) → Decides b (one.by ≡ other.by) → Decides r ((v ≡ false) ⊎ (b ≡ true)) → Decides r (filled_at sig ts o one ≡ filled_at sig ts o other)
    one_leaf s v b r is_var same_by so = (
      (λ t. ⊎_elim
          (λ f. no_leaf_filled one.by other.by (tree_at ts one.term) leaf (λ i. let z : true ≡ false = sym (is_var.1 i) ∙ f in cc) ∙ ap (λ (x : TermId). filled_at sig ts o (record { term = x; by = other.by })) s)
          (λ y. ap₂ (λ (x : TermId) (z : Filling). filled_at sig ts o (record { term = x; by = z })) s (same_by.0 y)) (so.0 t)),
      (λ e. so.1 (by_test v refl (leaves_tell e).1)),
    )
      where
        by_test : (w : Bool) → v ≡ w → (IsVariableTree (tree_at ts one.term) → one.by ≡ other.by) → (v ≡ false) ⊎ (b ≡ true)
        by_test false e h = inl e
        by_test true e h = inr (same_by.1 (h (is_var.0 e)))

  -- ---- lists of pairs
  filled_over : (b c : Filling) (ps us : List TermId) → All (IsTerm sig ts) ps → All (IsTerm sig ts) us → All (IsFilledPair sig ts) (filled_pairs b c (pairs ps us))
  filled_over b c [] us h k = All-nil (IsFilledPair sig ts)
  filled_over b c (p ∷ ps) [] h k = All-nil (IsFilledPair sig ts)
  filled_over b c (p ∷ ps) (u ∷ us) h k = All-cons (IsFilledPair sig ts) (with_filling b p, with_filling c u) (filled_pairs b c (pairs ps us)) (All-head (IsTerm sig ts) p ps h, All-head (IsTerm sig ts) u us k)
      (filled_over b c ps us (All-tail (IsTerm sig ts) p ps h) (All-tail (IsTerm sig ts) u us k))

  abbrev arguments_filled : Filling → List TermId → Terms
  arguments_filled b ps = all_filled (filling sig ts o b) (terms_under sig (trees_of (trees_at ts ps)))

  all_same_pairs : (b c : Filling) (ps us : List TermId) → length ps ≡ length us → All (IsSamePair sig ts o) (filled_pairs b c (pairs ps us)) → arguments_filled b ps ≡ arguments_filled c us
  all_same_pairs b c [] [] l a = refl
  all_same_pairs b c [] (u ∷ us) l a = absurd (omega (arith, l))
  all_same_pairs b c (p ∷ ps) [] l a = absurd (omega (arith, l))
  all_same_pairs b c (p ∷ ps) (u ∷ us) l a =
      ap₂ terms.more (All-head (IsSamePair sig ts o) (with_filling b p, with_filling c u) (filled_pairs b c (pairs ps us)) a)
      (all_same_pairs b c ps us (omega (arith, l)) (All-tail (IsSamePair sig ts o) (with_filling b p, with_filling c u) (filled_pairs b c (pairs ps us)) a))

  abbrev front_of : Terms → Term
  front_of (terms.more t us) = t
  front_of terms.none = terms.variable 0

  abbrev behind_of : Terms → Terms
  behind_of (terms.more t us) = us
  behind_of terms.none = terms.none

  pairs_all_same : (b c : Filling) (ps us : List TermId) → arguments_filled b ps ≡ arguments_filled c us → All (IsSamePair sig ts o) (filled_pairs b c (pairs ps us))
  pairs_all_same b c [] us e = All-nil (IsSamePair sig ts o)
  pairs_all_same b c (p ∷ ps) [] e = All-nil (IsSamePair sig ts o)
  pairs_all_same b c (p ∷ ps) (u ∷ us) e =
      All-cons (IsSamePair sig ts o) (with_filling b p, with_filling c u) (filled_pairs b c (pairs ps us)) (ap front_of e) (pairs_all_same b c ps us (ap behind_of e))

  as_many_filled : (b c : Filling) (ps us : List TermId) → arguments_filled b ps ≡ arguments_filled c us → length ps ≡ length us
  as_many_filled b c [] [] e = refl
  as_many_filled b c [] (u ∷ us) e = cc
  as_many_filled b c (p ∷ ps) [] e = cc
  as_many_filled b c (p ∷ ps) (u ∷ us) e = ap suc (as_many_filled b c ps us (ap behind_of e))

  -- ---- one comparison
  module _ (one other first second : FilledTerm) (old : List FilledPair) (one_is : IsResolved sig ts o one first) (other_is : IsResolved sig ts o other second) where
    forth : filled_at sig ts o first ≡ filled_at sig ts o second → filled_at sig ts o one ≡ filled_at sig ts o other
    forth e = sym one_is.same ∙ (e ∙ other_is.same)

    back : filled_at sig ts o one ≡ filled_at sig ts o other → filled_at sig ts o first ≡ filled_at sig ts o second
    back e = one_is.same ∙ (e ∙ sym other_is.same)

    pub decided_here : (b : Bool) → Decides b (filled_at sig ts o first ≡ filled_at sig ts o second) → ComparesFilled sig ts o one other old old b
    decided_here b d = record {
      added = [];
      left = sym (append-nil old);
      within = All-nil (IsFilledPair sig ts);
      same = λ t h. forth (d.0 t);
      all_same = λ t e. All-nil (IsSamePair sig ts o);
      different = λ f e. let z : true ≡ false = sym (d.1 (back e)) ∙ f in cc;
    }

    apart_here : (filled_at sig ts o first ≡ filled_at sig ts o second → ⊥) → ComparesFilled sig ts o one other old old false
    apart_here n = decided_here false ((λ t. cc), (λ e. absurd (n e)))

    function_against : (b : Filling) (c : Filling) (f : FunId) (us : Trees) (u : Tree) → (IsVariableTree u → IsAlone c) → ((h : FunId) (vs : Trees) → u ≡ function h vs → ⊥) → filled (filling sig ts o b) (term_under sig (function f us)) ≡ filled (filling sig ts o c) (term_under sig u) → ⊥
    function_against b c f us (variable v) m k e =
        let x = alone_is_variable c v (m tt) in let d : terms.application (symbol_under sig f) (all_filled (filling sig ts o b) (terms_under sig us)) ≡ terms.variable x.0 = e ∙ x.1 in cc
    function_against b c f us (numeral a z) m k e = cc
    function_against b c f us (function h vs) m k e = k h vs refl

    no_function : (h : Head) (us : List Tree) → ((f : FunId) → h ≡ Fun f → ⊥) → (f : FunId) (vs : Trees) → written_tree h us ≡ function f vs → ⊥
    no_function (Var v) us n f vs e = cc
    no_function (Number s z) us n f vs e = cc
    no_function (Fun g) us n f vs e = n g refl

    -- the first is a function's, and the second isn't
    pub at_no_function : (f : FunId) (us : List Tree) (h : Head) (ws : List Tree) → tree_at ts first.term ≡ written_tree (Fun f) us → tree_at ts second.term ≡ written_tree h ws → ((k : FunId) → h ≡ Fun k → ⊥) → ComparesFilled sig ts o one other old old false
    at_no_function f us h ws is is_second k = apart_here (λ e. function_against first.by second.by f (trees_of us) (tree_at ts second.term) other_is.alone (λ g vs s. no_function h ws k g vs (sym is_second ∙ s))
        (sym (ap (λ (t : Tree). filled (filling sig ts o first.by) (term_under sig t)) is) ∙ e))

    module _ (table : IsTable sig) (f h : FunId) (ps us : List TermId) (is : tree_at ts first.term ≡ written_tree (Fun f) (trees_at ts ps)) (is_second : tree_at ts second.term ≡ written_tree (Fun h) (trees_at ts us)) where
      abbrev symbol_in : Term → Symbol
      symbol_in (terms.application s vs) = s
      symbol_in _ = terms.truth

      abbrev terms_in : Term → Terms
      terms_in (terms.application s vs) = vs
      terms_in _ = terms.none

      applied : filled_at sig ts o first ≡ filled_at sig ts o second → terms.application (symbol_under sig f) (arguments_filled first.by ps) ≡ terms.application (symbol_under sig h) (arguments_filled second.by us)
      applied e = sym (ap (λ (t : Tree). filled (filling sig ts o first.by) (term_under sig t)) is) ∙ (e ∙ ap (λ (t : Tree). filled (filling sig ts o second.by) (term_under sig t)) is_second)

      pub at_other_functions : (f ≡ h → ⊥) → ComparesFilled sig ts o one other old old false
      at_other_functions n = apart_here (λ e. n (different_functions_mean_different_symbols sig table f h (function_within sig ts first.term one_is.term f ps is).0 (function_within sig ts second.term other_is.term h us is_second).0 (ap symbol_in (applied e))))

      pub at_other_lengths : (length ps ≡ length us → ⊥) → ComparesFilled sig ts o one other old old false
      at_other_lengths n = apart_here (λ e. n (as_many_filled first.by second.by ps us (ap terms_in (applied e))))

      pub at_a_function : (new : List FilledPair) → new ≡ old ++ filled_pairs first.by second.by (pairs ps us) → f ≡ h → length ps ≡ length us → All (λ (arg : TermId). arg.0 < first.term.0) ps → All (λ (arg : TermId). arg.0 < second.term.0) us → ComparesFilled sig ts o one other old new true
      at_a_function new e same l below other_below = record {
        added = filled_pairs first.by second.by (pairs ps us);
        left = e;
        within = filled_over first.by second.by ps us (arguments_are_terms sig ts first.term one_is.term f ps is below) (arguments_are_terms sig ts second.term other_is.term h us is_second other_below);
        same = λ t a. forth (ap (λ (z : Tree). filled (filling sig ts o first.by) (term_under sig z)) is
            ∙ (ap₂ terms.application (ap (symbol_under sig) same) (all_same_pairs first.by second.by ps us l a)
            ∙ sym (ap (λ (z : Tree). filled (filling sig ts o second.by) (term_under sig z)) is_second)));
        all_same = λ t a. pairs_all_same first.by second.by ps us (ap terms_in (applied (back a)));
        different = λ t. cc;
      }

  -- ---- what is left to compare
  pub one_filled_left : (one other : FilledTerm) (left : List FilledPair) → left ≡ (one, other) ∷ [] → IsTerm sig ts one.term → IsTerm sig ts other.term → AreFilledLeft sig ts o one other left
  one_filled_left one other left e i j = subst (AreFilledLeft sig ts o one other) (sym e) (record {
    within = All-cons (IsFilledPair sig ts) (one, other) [] (i, j) (All-nil (IsFilledPair sig ts));
    same = λ a. All-head (IsSamePair sig ts o) (one, other) [] a;
    all_same = λ a. All-cons (IsSamePair sig ts o) (one, other) [] a (All-nil (IsSamePair sig ts o));
  })

  module _ (one other first second : FilledTerm) (left rest : List FilledPair) (a : AreFilledLeft sig ts o one other left) (e : left ≡ rest ++ (first, second) ∷ []) where
    pub popped_in : IsFilledPair sig ts (first, second)
    popped_in = All-head (IsFilledPair sig ts) (first, second) [] (right_of (IsFilledPair sig ts) rest ((first, second) ∷ []) (subst (All (IsFilledPair sig ts)) e a.within))

    pub compared_left : (new : List FilledPair) → ComparesFilled sig ts o first second rest new true → AreFilledLeft sig ts o one other new
    compared_left new c = subst (AreFilledLeft sig ts o one other) (sym c.left) (record {
      within = All-append (IsFilledPair sig ts) rest c.added (left_of (IsFilledPair sig ts) rest ((first, second) ∷ []) (subst (All (IsFilledPair sig ts)) e a.within)) c.within;
      same = λ h. a.same (subst (All (IsSamePair sig ts o)) (sym e) (All-append (IsSamePair sig ts o) rest ((first, second) ∷ []) (left_of (IsSamePair sig ts o) rest c.added h)
          (All-cons (IsSamePair sig ts o) (first, second) [] (c.same refl (right_of (IsSamePair sig ts o) rest c.added h)) (All-nil (IsSamePair sig ts o)))));
      all_same = λ h.
          let was = subst (All (IsSamePair sig ts o)) e (a.all_same h) in
          All-append (IsSamePair sig ts o) rest c.added (left_of (IsSamePair sig ts o) rest ((first, second) ∷ []) was) (c.all_same refl (All-head (IsSamePair sig ts o) (first, second) [] (right_of (IsSamePair sig ts o) rest ((first, second) ∷ []) was)));
    })

    pub compared_apart : (new : List FilledPair) → ComparesFilled sig ts o first second rest new false → filled_at sig ts o one ≡ filled_at sig ts o other → ⊥
    compared_apart new c h = c.different refl (All-head (IsSamePair sig ts o) (first, second) [] (right_of (IsSamePair sig ts o) rest ((first, second) ∷ []) (subst (All (IsSamePair sig ts o)) e (a.all_same h))))

  pub none_left : (one other : FilledTerm) (left : List FilledPair) → AreFilledLeft sig ts o one other left → left ≡ [] → filled_at sig ts o one ≡ filled_at sig ts o other
  none_left one other left a e = a.same (subst (All (IsSamePair sig ts o)) (sym e) (All-nil (IsSamePair sig ts o)))

-- ---- pushed pairs
filled_more : (b c : Filling) (xs : List Pair) (p : Pair) → filled_pairs b c (xs ++ p ∷ []) ≡ filled_pairs b c xs ++ (with_filling b p.0, with_filling c p.1) ∷ []
filled_more b c [] p = refl
filled_more b c (x ∷ xs) p = ap (λ zs. (with_filling b x.0, with_filling c x.1) ∷ zs) (filled_more b c xs p)

pub pushes_filled : (old mid new : List FilledPair) (b c : Filling) (ps us : List TermId) (k : ℕ) (p u : TermId) → length ps ≡ length us → k < length ps → p ≡ get_or ps k p → u ≡ get_or us k u
    → mid ≡ old ++ filled_pairs b c (pairs (take k ps) (take k us)) → new ≡ mid ++ (with_filling b p, with_filling c u) ∷ [] → new ≡ old ++ filled_pairs b c (pairs (take (k + 1) ps) (take (k + 1) us))
pushes_filled old mid new b c ps us k p u l h x y was is =
    let n : k + 1 ≡ suc k = omega arith in
    let r : filled_pairs b c (pairs (take (k + 1) ps) (take (k + 1) us)) ≡ filled_pairs b c (pairs (take k ps) (take k us)) ++ (with_filling b p, with_filling c u) ∷ [] =
    ap (λ j. filled_pairs b c (pairs (take j ps) (take j us))) n ∙ (ap (filled_pairs b c) (one_more ps us k p u (omega (arith, l, h)) h x y) ∙ filled_more b c (pairs (take k ps) (take k us)) (p, u)) in
    is ∙ (ap (λ (z : List FilledPair). z ++ (with_filling b p, with_filling c u) ∷ []) was ∙ (append_assoc old (filled_pairs b c (pairs (take k ps) (take k us))) ((with_filling b p, with_filling c u) ∷ []) ∙ ap (λ (z : List FilledPair). old ++ z) (sym r)))
