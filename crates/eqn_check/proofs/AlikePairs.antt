-- Pairs of terms that are compared.
use Rattle.std.proofs.Common.{◌≡◌, ℕ, zero, suc, ◌<◌, ◌≤◌, ◌+◌, ◌⊎◌, inl, inr, List, [], ◌∷◌, ◌++◌, length, get_or, take, Bool, true, false, refl, sym, ap, ◌∙◌, subst, arith, append_assoc, append-nil}
use Rattle.std.specs.List.{All}
use Rattle.std.proofs.lemmas.List.Elements.{All-nil, All-cons, All-head, All-tail, All-append}
use Rattle.data_theory.specs.declared.ids.TermId.{TermId}
use Rattle.data_theory.specs.declared.ids.FunId.{FunId}
use Rattle.data_theory.specs.Terms as terms
use Rattle.data_theory.specs.Terms.{Symbol, Term, Terms}
use Rattle.data_theory.specs.Signature.{Sig}
use Rattle.data_theory.specs.IdTables.{IsTable}
use Rattle.data_theory.specs.IdTerms.{symbol_under, term_under, terms_under}
use Rattle.data_theory.specs.IdTrees.{Tree, Trees, variable, numeral, function, trees_of}
use Rattle.data_theory.proofs.IdSymbolLemmas.{different_functions_mean_different_symbols}
use Rattle.data_theory.proofs.IdTermLemmas.{different_trees_mean_different_terms}
use Rattle.term_pool.specs.declared.terms.Head.{Head}
use Rattle.term_pool.specs.declared.terms.Head.TheVariants.{Var, Num as Number, Fun}
use Rattle.term_pool.specs.HeadTrees.{tree_at, trees_at, written_tree}
use Rattle.term_pool.specs.Pools.{AreDistinct}
use Rattle.eqn_check.specs.Alike.{AreAlike, AllAlike, Pair, IsAlikePair, IsPairOver, pairs, IsVariableTree, Compares, AreLeft}
use Rattle.eqn_check.specs.Judged.{term_at, IsTerm}
use Rattle.eqn_check.proofs.TermLemmas.{function_within, arguments_are_terms}

-- ---- lists of pairs
take-suc : {A : Type 0} (xs : List A) (k : ℕ) (x : A) → x ≡ get_or xs k x → k < length xs → take (suc k) xs ≡ take k xs ++ x ∷ []
take-suc [] k x e l = absurd (omega arith)
take-suc (y ∷ xs) zero x e l = ap (λ z. z ∷ []) (sym e)
take-suc (y ∷ xs) (suc k) x e l = ap (λ zs. y ∷ zs) (take-suc xs k x e (omega arith))

pub one_more : (ps us : List TermId) (k : ℕ) (p u : TermId) → k < length us → k < length ps → p ≡ get_or ps k p → u ≡ get_or us k u → pairs (take (suc k) ps) (take (suc k) us) ≡ pairs (take k ps) (take k us) ++ (p, u) ∷ []
one_more [] us k p u l h a b = absurd (omega arith)
one_more (x ∷ ps) [] k p u l h a b = absurd (omega arith)
one_more (x ∷ ps) (y ∷ us) zero p u l h a b = ap (λ (z : Pair). z ∷ []) (sym (let both : (p, u) ≡ (x, y) = λ i. (a i, b i) in both))
one_more (x ∷ ps) (y ∷ us) (suc k) p u l h a b = ap (λ zs. (x, y) ∷ zs) (one_more ps us k p u (omega (arith, l)) (omega (arith, h)) a b)

pub pushes_pair : (old mid new : List Pair) (ps us : List TermId) (k next : ℕ) (p u : TermId) → next ≡ k + 1 → k < length us → k < length ps → p ≡ get_or ps k p → u ≡ get_or us k u → mid ≡ old ++ pairs (take k ps) (take k us) → new ≡ mid ++ (p, u) ∷ [] → new ≡ old ++ pairs (take next ps) (take next us)
pushes_pair old mid new ps us k next p u n l h a b was is =
    let e : next ≡ suc k = omega (arith, n) in
    let r : pairs (take next ps) (take next us) ≡ pairs (take k ps) (take k us) ++ (p, u) ∷ [] = ap (λ j. pairs (take j ps) (take j us)) e ∙ one_more ps us k p u l h a b in
    is ∙ (ap (λ (x : List Pair). x ++ (p, u) ∷ []) was ∙ (append_assoc old (pairs (take k ps) (take k us)) ((p, u) ∷ []) ∙ ap (λ (x : List Pair). old ++ x) (sym r)))

-- all pairs are there where one of the lists has ended
no_more : (ps us : List TermId) (k : ℕ) → length us ≤ k → pairs (take k ps) (take k us) ≡ pairs ps us
no_more [] us zero l = refl
no_more [] us (suc k) l = refl
no_more (p ∷ ps) [] zero l = refl
no_more (p ∷ ps) [] (suc k) l = refl
no_more (p ∷ ps) (u ∷ us) zero l = absurd (omega (arith, l))
no_more (p ∷ ps) (u ∷ us) (suc k) l = ap (λ zs. (p, u) ∷ zs) (no_more ps us k (omega (arith, l)))

no_more_left : (ps us : List TermId) (k : ℕ) → length ps ≤ k → pairs (take k ps) (take k us) ≡ pairs ps us
no_more_left [] us zero l = refl
no_more_left [] us (suc k) l = refl
no_more_left (p ∷ ps) us zero l = absurd (omega (arith, l))
no_more_left (p ∷ ps) [] (suc k) l = refl
no_more_left (p ∷ ps) (u ∷ us) (suc k) l = ap (λ zs. (p, u) ∷ zs) (no_more_left ps us k (omega (arith, l)))

pub all_pushed_here : (old new : List Pair) (ps us : List TermId) (k : ℕ) → length ps ≤ k → new ≡ old ++ pairs (take k ps) (take k us) → new ≡ old ++ pairs ps us
all_pushed_here old new ps us k l e = e ∙ ap (λ zs. old ++ zs) (no_more_left ps us k l)

pub all_pushed : (old new : List Pair) (ps us : List TermId) (k : ℕ) → length us ≤ k → new ≡ old ++ pairs (take k ps) (take k us) → new ≡ old ++ pairs ps us
all_pushed old new ps us k l e = e ∙ ap (λ zs. old ++ zs) (no_more ps us k l)

pub left_of : {X : Type 0} (P : X → Type 0) (xs ys : List X) → All P (xs ++ ys) → All P xs
left_of P [] ys h = All-nil P
left_of P (x ∷ xs) ys h = All-cons P x xs (All-head P x (xs ++ ys) h) (left_of P xs ys (All-tail P x (xs ++ ys) h))

pub right_of : {X : Type 0} (P : X → Type 0) (xs ys : List X) → All P (xs ++ ys) → All P ys
right_of P [] ys h = h
right_of P (x ∷ xs) ys h = right_of P xs ys (All-tail P x (xs ++ ys) h)

pub pairs_over : (sig : Sig) (ts : List Tree) (ps us : List TermId) → All (IsTerm sig ts) ps → All (IsTerm sig ts) us → All (IsPairOver sig ts) (pairs ps us)
pairs_over sig ts [] us a b = All-nil (IsPairOver sig ts)
pairs_over sig ts (p ∷ ps) [] a b = All-nil (IsPairOver sig ts)
pairs_over sig ts (p ∷ ps) (u ∷ us) a b = All-cons (IsPairOver sig ts) (p, u) (pairs ps us) (All-head (IsTerm sig ts) p ps a, All-head (IsTerm sig ts) u us b) (pairs_over sig ts ps us (All-tail (IsTerm sig ts) p ps a) (All-tail (IsTerm sig ts) u us b))

-- ---- terms that are alike
alike_variable : (t : Term) (x : ℕ) → AreAlike t (terms.variable x)
alike_variable (terms.variable y) x = tt
alike_variable (terms.numeral s z) x = tt
alike_variable (terms.unknown d i) x = tt
alike_variable (terms.application f ts) x = tt

mutual
  alike_itself : (t : Term) → AreAlike t t
  alike_itself (terms.variable y) = tt
  alike_itself (terms.numeral s z) = refl
  alike_itself (terms.unknown d i) = refl
  alike_itself (terms.application f ts) = (refl, all_alike_itself ts)

  all_alike_itself : (ts : Terms) → AllAlike ts ts
  all_alike_itself terms.none = tt
  all_alike_itself (terms.more t ts) = (alike_itself t, all_alike_itself ts)

module _ (sig : Sig) (ts : List Tree) where
  -- the arguments are alike exactly where their pairs are
  all_alike_pairs : (ps us : List TermId) → length ps ≡ length us → All (IsAlikePair sig ts) (pairs ps us) → AllAlike (terms_under sig (trees_of (trees_at ts ps))) (terms_under sig (trees_of (trees_at ts us)))
  all_alike_pairs [] [] l a = tt
  all_alike_pairs [] (u ∷ us) l a = absurd (omega (arith, l))
  all_alike_pairs (p ∷ ps) [] l a = absurd (omega (arith, l))
  all_alike_pairs (p ∷ ps) (u ∷ us) l a = (All-head (IsAlikePair sig ts) (p, u) (pairs ps us) a, all_alike_pairs ps us (omega (arith, l)) (All-tail (IsAlikePair sig ts) (p, u) (pairs ps us) a))

  pairs_all_alike : (ps us : List TermId) → AllAlike (terms_under sig (trees_of (trees_at ts ps))) (terms_under sig (trees_of (trees_at ts us))) → All (IsAlikePair sig ts) (pairs ps us)
  pairs_all_alike [] us a = All-nil (IsAlikePair sig ts)
  pairs_all_alike (p ∷ ps) [] a = absurd a
  pairs_all_alike (p ∷ ps) (u ∷ us) a = All-cons (IsAlikePair sig ts) (p, u) (pairs ps us) a.0 (pairs_all_alike ps us a.1)

  as_many : (ps us : List TermId) → AllAlike (terms_under sig (trees_of (trees_at ts ps))) (terms_under sig (trees_of (trees_at ts us))) → length ps ≡ length us
  as_many [] [] a = refl
  as_many [] (u ∷ us) a = absurd a
  as_many (p ∷ ps) [] a = absurd a
  as_many (p ∷ ps) (u ∷ us) a = ap suc (as_many ps us a.1)

  same_left : (left : List Pair) → left ≡ left ++ []
  same_left left = sym (append-nil left)

  module _ (one other : TermId) (old : List Pair) where
    -- nothing is to be compared any more
    settled : AreAlike (term_at sig ts one) (term_at sig ts other) → Compares sig ts one other old old true
    settled a = record {
      added = [];
      left = same_left old;
      within = All-nil (IsPairOver sig ts);
      alike = λ e h. a;
      all_alike = λ e h. All-nil (IsAlikePair sig ts);
      different = λ e. cc;
    }

    apart : (AreAlike (term_at sig ts one) (term_at sig ts other) → ⊥) → Compares sig ts one other old old false
    apart n = record {
      added = [];
      left = same_left old;
      within = All-nil (IsPairOver sig ts);
      alike = λ e. cc;
      all_alike = λ e. cc;
      different = λ e a. n a;
    }

    alike_where_variable : (t u : Tree) → IsVariableTree t ⊎ IsVariableTree u → AreAlike (term_under sig t) (term_under sig u)
    alike_where_variable (variable v) u (inl i) = tt
    alike_where_variable (numeral s z) u (inl i) = absurd i
    alike_where_variable (function f us) u (inl i) = absurd i
    alike_where_variable t (variable v) (inr i) = alike_variable (term_under sig t) v.0
    alike_where_variable t (numeral s z) (inr i) = absurd i
    alike_where_variable t (function f us) (inr i) = absurd i

    pub at_a_variable : IsVariableTree (tree_at ts one) ⊎ IsVariableTree (tree_at ts other) → Compares sig ts one other old old true
    at_a_variable i = settled (alike_where_variable (tree_at ts one) (tree_at ts other) i)

    module _ (table : IsTable sig) (distinct : AreDistinct ts) (one_in : IsTerm sig ts one) (other_in : IsTerm sig ts other) where
      same_id : tree_at ts one ≡ tree_at ts other → one ≡ other
      same_id e = let n : one.0 ≡ other.0 = distinct one.0 other.0 one_in.inside other_in.inside e in λ i. record { 0 = n i }

      alike_number : (t u : Tree) → (IsVariableTree t → ⊥) → (IsVariableTree u → ⊥) → ((f : FunId) (us : Trees) → t ≡ function f us → ⊥) → AreAlike (term_under sig t) (term_under sig u) → term_under sig t ≡ term_under sig u
      alike_number (variable v) u n m k a = absurd (n tt)
      alike_number (numeral s z) (variable v) n m k a = absurd (m tt)
      alike_number (numeral s z) (numeral r y) n m k a = a
      alike_number (numeral s z) (function f us) n m k a = a
      alike_number (function f us) u n m k a = absurd (k f us refl)

      no_function : (h : Head) (us : List Tree) → ((f : FunId) → h ≡ Fun f → ⊥) → (f : FunId) (vs : Trees) → written_tree h us ≡ function f vs → ⊥
      no_function (Var v) us n f vs e = cc
      no_function (Number s z) us n f vs e = cc
      no_function (Fun g) us n f vs e = n g refl

      -- the first is a numeral
      pub at_a_number : (h : Head) (us : List Tree) (b : Bool) → tree_at ts one ≡ written_tree h us → (IsVariableTree (tree_at ts one) → ⊥) → (IsVariableTree (tree_at ts other) → ⊥) → ((f : FunId) → h ≡ Fun f → ⊥) → (b ≡ true → one ≡ other) → (b ≡ false → one ≡ other → ⊥) → Compares sig ts one other old old b
      at_a_number h us true is n m k same differ = settled (subst (λ (z : TermId). AreAlike (term_at sig ts one) (term_at sig ts z)) (same refl) (alike_itself (term_at sig ts one)))
      at_a_number h us false is n m k same differ = apart (λ a. differ refl (same_id (different_trees_mean_different_terms sig table (tree_at ts one) (tree_at ts other) one_in.within other_in.within
          (alike_number (tree_at ts one) (tree_at ts other) n m (λ f vs e. no_function h us k f vs (sym is ∙ e)) a))))

      function_against_number : (f : FunId) (us : Trees) (u : Tree) → (IsVariableTree u → ⊥) → ((h : FunId) (vs : Trees) → u ≡ function h vs → ⊥) → AreAlike (term_under sig (function f us)) (term_under sig u) → ⊥
      function_against_number f us (variable v) m k a = m tt
      function_against_number f us (numeral s z) m k a = cc
      function_against_number f us (function h vs) m k a = k h vs refl

      -- the first is a function's, and the second a numeral
      pub at_another_kind : (f : FunId) (us : List Tree) (h : Head) (ws : List Tree) → tree_at ts one ≡ written_tree (Fun f) us → tree_at ts other ≡ written_tree h ws → (IsVariableTree (tree_at ts other) → ⊥) → ((k : FunId) → h ≡ Fun k → ⊥) → Compares sig ts one other old old false
      at_another_kind f us h ws is other_is m k = apart (λ a. function_against_number f (trees_of us) (tree_at ts other) m (λ g vs e. no_function h ws k g vs (sym other_is ∙ e)) (subst (λ t. AreAlike (term_under sig t) (term_at sig ts other)) is a))

      -- both are functions'
      module _ (f h : FunId) (ps us : List TermId) (is : tree_at ts one ≡ written_tree (Fun f) (trees_at ts ps)) (other_is : tree_at ts other ≡ written_tree (Fun h) (trees_at ts us)) where
        applied : AreAlike (term_at sig ts one) (term_at sig ts other) → (symbol_under sig f ≡ symbol_under sig h) × AllAlike (terms_under sig (trees_of (trees_at ts ps))) (terms_under sig (trees_of (trees_at ts us)))
        applied a = let x : AreAlike (term_under sig (function f (trees_of (trees_at ts ps)))) (term_under sig (function h (trees_of (trees_at ts us)))) = subst (λ t. AreAlike (term_under sig t) (term_under sig (function h (trees_of (trees_at ts us))))) is (subst (λ t. AreAlike (term_at sig ts one) (term_under sig t)) other_is a) in x

        pub at_other_functions : (f ≡ h → ⊥) → Compares sig ts one other old old false
        at_other_functions n = apart (λ a. n (different_functions_mean_different_symbols sig table f h (function_within sig ts one one_in f ps is).0 (function_within sig ts other other_in h us other_is).0 (applied a).0))

        pub at_other_lengths : (length ps ≡ length us → ⊥) → Compares sig ts one other old old false
        at_other_lengths n = apart (λ a. n (as_many ps us (applied a).1))

        pub at_a_function : (new : List Pair) → new ≡ old ++ pairs ps us → f ≡ h → length ps ≡ length us → All (λ (arg : TermId). arg.0 < one.0) ps → All (λ (arg : TermId). arg.0 < other.0) us → Compares sig ts one other old new true
        at_a_function new e same l below other_below = record {
          added = pairs ps us;
          left = e;
          within = pairs_over sig ts ps us (arguments_are_terms sig ts one one_in f ps is below) (arguments_are_terms sig ts other other_in h us other_is other_below);
          alike = λ t a.
              let x : AreAlike (term_under sig (function f (trees_of (trees_at ts ps)))) (term_under sig (function h (trees_of (trees_at ts us)))) = (ap (symbol_under sig) same, all_alike_pairs ps us l a) in
              subst (λ t. AreAlike (term_under sig t) (term_at sig ts other)) (sym is) (subst (λ t. AreAlike (term_under sig (function f (trees_of (trees_at ts ps)))) (term_under sig t)) (sym other_is) x);
          all_alike = λ t a. pairs_all_alike ps us (applied a).1;
          different = λ t. cc;
        }

-- ---- what is left to compare
pub one_pair_left : (sig : Sig) (ts : List Tree) (one other : TermId) (left : List Pair) → left ≡ (one, other) ∷ [] → IsTerm sig ts one → IsTerm sig ts other → AreLeft sig ts one other left
one_pair_left sig ts one other left e i j = subst (AreLeft sig ts one other) (sym e) (record {
  within = All-cons (IsPairOver sig ts) (one, other) [] (i, j) (All-nil (IsPairOver sig ts));
  alike = λ a. All-head (IsAlikePair sig ts) (one, other) [] a;
  all_alike = λ a. All-cons (IsAlikePair sig ts) (one, other) [] a (All-nil (IsAlikePair sig ts));
})

pub popped_in : (sig : Sig) (ts : List Tree) (one other first second : TermId) (left rest : List Pair) → AreLeft sig ts one other left → left ≡ rest ++ (first, second) ∷ [] → IsPairOver sig ts (first, second)
popped_in sig ts one other first second left rest a e = All-head (IsPairOver sig ts) (first, second) [] (right_of (IsPairOver sig ts) rest ((first, second) ∷ []) (subst (All (IsPairOver sig ts)) e a.within))

-- a pair was compared, and was alike so far
pub compared_left : (sig : Sig) (ts : List Tree) (one other first second : TermId) (left rest new : List Pair) → AreLeft sig ts one other left → left ≡ rest ++ (first, second) ∷ [] → Compares sig ts first second rest new true → AreLeft sig ts one other new
compared_left sig ts one other first second left rest new a e c = subst (AreLeft sig ts one other) (sym c.left) (record {
  within = All-append (IsPairOver sig ts) rest c.added (left_of (IsPairOver sig ts) rest ((first, second) ∷ []) (subst (All (IsPairOver sig ts)) e a.within)) c.within;
  alike = λ h. a.alike (subst (All (IsAlikePair sig ts)) (sym e) (All-append (IsAlikePair sig ts) rest ((first, second) ∷ []) (left_of (IsAlikePair sig ts) rest c.added h)
      (All-cons (IsAlikePair sig ts) (first, second) [] (c.alike refl (right_of (IsAlikePair sig ts) rest c.added h)) (All-nil (IsAlikePair sig ts)))));
  all_alike = λ h.
      let was = subst (All (IsAlikePair sig ts)) e (a.all_alike h) in
      All-append (IsAlikePair sig ts) rest c.added (left_of (IsAlikePair sig ts) rest ((first, second) ∷ []) was) (c.all_alike refl (All-head (IsAlikePair sig ts) (first, second) [] (right_of (IsAlikePair sig ts) rest ((first, second) ∷ []) was)));
})

-- it wasn't
pub compared_apart : (sig : Sig) (ts : List Tree) (one other first second : TermId) (left rest new : List Pair) → AreLeft sig ts one other left → left ≡ rest ++ (first, second) ∷ [] → Compares sig ts first second rest new false → AreAlike (term_at sig ts one) (term_at sig ts other) → ⊥
compared_apart sig ts one other first second left rest new a e c h =
    c.different refl (All-head (IsAlikePair sig ts) (first, second) [] (right_of (IsAlikePair sig ts) rest ((first, second) ∷ []) (subst (All (IsAlikePair sig ts)) e (a.all_alike h))))

pub none_left : (sig : Sig) (ts : List Tree) (one other : TermId) (left : List Pair) → AreLeft sig ts one other left → left ≡ [] → AreAlike (term_at sig ts one) (term_at sig ts other)
none_left sig ts one other left a e = a.alike (subst (All (IsAlikePair sig ts)) (sym e) (All-nil (IsAlikePair sig ts)))
