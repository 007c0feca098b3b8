-- What parts of conditions say of two terms, in code.
use Rattle.std.proofs.Common.{◌≡◌, ◌≢◌, ℕ, ◌<◌, ◌≤◌, ◌==◌, ◌||◌, ◌⊎◌, inl, inr, ⊎_elim, List, [], ◌∷◌, length, get_or, Bool, true, false, refl, sym, ap, ap₂, ◌∙◌, subst, arith}
use Rattle.std.specs.Prelude.{Option, None, Some, MatchOption, ℤ, pos, negsuc, not}
use lib.Signed.{lt_z, le_z}
use lib.Dec.{leb, ltb}
use Rattle.std.specs.Bool.{Decides}
use Rattle.std.specs.List.{All}
use Rattle.std.proofs.lemmas.List.Elements.{All-head, All-tail}
use Rattle.std.proofs.lemmas.Bool.Decides.{leb_tells, eqb_tells, Decides-ltb}
use Rattle.data_theory.specs.declared.ids.TermId.{TermId}
use Rattle.data_theory.specs.declared.ids.FunId.{FunId}
use Rattle.data_theory.specs.declared.ids.SortId.{SortId}
use Rattle.data_theory.specs.Arithmetic.{equal_numbers}
use Rattle.data_theory.specs.Terms as terms
use Rattle.data_theory.specs.Terms.{Sort, Symbol, Term, Terms}
use Rattle.data_theory.specs.Declarations.{Data}
use Rattle.data_theory.specs.Signature.{Sig}
use Rattle.data_theory.specs.IdTerms.{symbol_under, sort_under, term_under, terms_under, IsTreeWithin}
use Rattle.data_theory.specs.IdTrees.{Tree, Trees, variable, numeral, function, none, more, trees_of}
use Rattle.term_pool.specs.declared.terms.Head.{Head}
use Rattle.term_pool.specs.declared.terms.Head.TheVariants.{Var, Num as Number, Fun}
use Rattle.term_pool.specs.HeadTrees.{tree_at, trees_at, written_tree, IsIn}
use Rattle.eqn_check.specs.declared.signs.Sign.{Sign}
use Rattle.eqn_check.specs.declared.signs.Sign.TheVariants as signs
use Rattle.eqn_check.specs.declared.comparisons.Comparison.{Comparison}
use Rattle.eqn_check.specs.declared.comparisons.Relation.{Relation as CodeRelation}
use Rattle.eqn_check.specs.declared.comparisons.Relation.TheVariants as relations
use Rattle.eqn_check.specs.declared.filled.Filling.{Filling}
use Rattle.eqn_check.specs.declared.filled.FilledTerm.{FilledTerm}
use Rattle.eqn_check.specs.declared.filled.Opposites.{Opposites}
use Rattle.eqn_check.specs.Alike.{IsVariableTree}
use Rattle.eqn_check.specs.Conditions.{Relation, below, up_to, equal, different, Reading, reading_of, reading, IsFalseOfNumerals, IsStrict, AreDifferent, BeginDifferently, holds, AreContraryAs, HaveSameSides, HaveTurnedSides}
use Rattle.eqn_check.specs.Comparisons.{sign_of, are_of_lists, relation_told, are_contrary_in_order, are_contrary_turned, tells_equal, tells_strict, comparison_by, meant_reading, AreComparable, IsComparisonOf, IsNotBinary, IsSides}
use Rattle.eqn_check.specs.Exclusion.{filled, all_filled}
use Rattle.eqn_check.specs.Fillings.{filling, filled_at, IsAlone, IsResolved, with_filling}
use Rattle.eqn_check.specs.Judged.{IsTerm}
use Rattle.eqn_check.specs.Patterns.{IsConstructor}
use Rattle.eqn_check.proofs.Deciding.{decides_no, decides_yes, decides_like}
use Rattle.eqn_check.proofs.FilledLemmas.{alone_is_variable}
use Rattle.eqn_check.proofs.JudgedLemmas.{not_so}

-- ---- readings by signs
abbrev pub reading_by : Sign → Term → Term → Option Reading
reading_by signs.Less u v = Some (record { relation = below; one = u; other = v })
reading_by signs.AtMost u v = Some (record { relation = up_to; one = u; other = v })
reading_by signs.Greater u v = Some (record { relation = below; one = v; other = u })
reading_by signs.AtLeast u v = Some (record { relation = up_to; one = v; other = u })
reading_by signs.Equal u v = Some (record { relation = equal; one = u; other = v })
reading_by signs.Different u v = Some (record { relation = different; one = u; other = v })
reading_by _ u v = None

pub reading_by_sign : (f : Symbol) (u v : Term) → reading_of f u v ≡ reading_by (sign_of f) u v
reading_by_sign (terms.comparison terms.less s) u v = refl
reading_by_sign (terms.comparison terms.at_most s) u v = refl
reading_by_sign (terms.comparison terms.greater s) u v = refl
reading_by_sign (terms.comparison terms.at_least s) u v = refl
reading_by_sign (terms.equality s) u v = refl
reading_by_sign (terms.inequality s) u v = refl
reading_by_sign (terms.arithmetic terms.subtract ss to) u v = refl
reading_by_sign (terms.arithmetic terms.to_positive ss to) u v = refl
reading_by_sign (terms.arithmetic terms.to_natural ss to) u v = refl
reading_by_sign terms.conjunction u v = refl
reading_by_sign terms.negation u v = refl
reading_by_sign terms.falsity u v = refl
reading_by_sign (terms.empty s) u v = refl
reading_by_sign (terms.cons s) u v = refl
reading_by_sign _ u v = refl

module _ (sig : Sig) (ts : List Tree) where
  -- ---- the sides of a term
  pub sides_within : (t : TermId) (f : FunId) (a b : TermId) → IsTerm sig ts t → IsSides ts t f a b → (f.0 < length sig.functions) × IsTerm sig ts a × IsTerm sig ts b
  sides_within t f a b i s =
      let w : IsTreeWithin sig (function f (more (tree_at ts a) (more (tree_at ts b) none))) = subst (IsTreeWithin sig) s.is i.within in
      (w.0, record { inside = s.one_in; within = w.1.0 }, record { inside = s.other_in; within = w.1.1.0 })

module _ (sig : Sig) (ts : List Tree) (o : Opposites) where
  by_comparison : (s : Sign) (a b : FilledTerm) → IsTerm sig ts a.term → IsTerm sig ts b.term
      → MatchOption (comparison_by s a b) (reading_by s (filled_at sig ts o a) (filled_at sig ts o b) ≡ None) (λ r. AreComparable sig ts r × (reading_by s (filled_at sig ts o a) (filled_at sig ts o b) ≡ Some (meant_reading sig ts o r)))
  by_comparison signs.Less a b i j = (record { one = i; other = j }, refl)
  by_comparison signs.AtMost a b i j = (record { one = i; other = j }, refl)
  by_comparison signs.Greater a b i j = (record { one = j; other = i }, refl)
  by_comparison signs.AtLeast a b i j = (record { one = j; other = i }, refl)
  by_comparison signs.Equal a b i j = (record { one = i; other = j }, refl)
  by_comparison signs.Different a b i j = (record { one = i; other = j }, refl)
  by_comparison signs.And a b i j = refl
  by_comparison signs.Not a b i j = refl
  by_comparison signs.False a b i j = refl
  by_comparison signs.Empty a b i j = refl
  by_comparison signs.Cons a b i j = refl
  by_comparison signs.Minus a b i j = refl
  by_comparison signs.ToPositive a b i j = refl
  by_comparison signs.ToNatural a b i j = refl
  by_comparison signs.Tail a b i j = refl
  by_comparison signs.Rtail a b i j = refl
  by_comparison signs.Other a b i j = refl

  no_reading : (b : Filling) (t : Tree) → (IsVariableTree t → IsAlone b) → IsNotBinary t → reading (filled (filling sig ts o b) (term_under sig t)) ≡ None
  no_reading b (variable v) m n = let x = alone_is_variable sig ts o b v (m tt) in ap reading x.1
  no_reading b (numeral a z) m n = refl
  no_reading b (function f none) m n = refl
  no_reading b (function f (more t none)) m n = refl
  no_reading b (function f (more t (more u none))) m n = absurd (n f t u refl)
  no_reading b (function f (more t (more u (more v vs)))) m n = refl

  module _ (part at : FilledTerm) (is : IsResolved sig ts o part at) where
    pub not_compared : IsNotBinary (tree_at ts at.term) → reading (filled_at sig ts o part) ≡ None
    not_compared n = ap reading (sym is.same) ∙ no_reading at.by (tree_at ts at.term) is.alone n

    pub compared : (f : FunId) (a b : TermId) → IsSides ts at.term f a b → (s : Sign) → s ≡ sign_of (symbol_under sig f) → (r : Option Comparison) → r ≡ comparison_by s (with_filling at.by a) (with_filling at.by b)
        → MatchOption r (reading (filled_at sig ts o part) ≡ None) (IsComparisonOf sig ts o part)
    compared f a b sides s signed r e =
        let w = sides_within sig ts at.term f a b is.term sides in
        subst (λ (q : Option Comparison). MatchOption q (reading (filled_at sig ts o part) ≡ None) (IsComparisonOf sig ts o part)) (sym e)
        (by_option (comparison_by s (with_filling at.by a) (with_filling at.by b)) (by_comparison s (with_filling at.by a) (with_filling at.by b) w.1 w.2))
      where
        meant : reading (filled_at sig ts o part) ≡ reading_by s (filled_at sig ts o (with_filling at.by a)) (filled_at sig ts o (with_filling at.by b))
        meant =
            ap reading (sym is.same)
            ∙ (ap (λ (t : Tree). reading (filled (filling sig ts o at.by) (term_under sig t))) sides.is
            ∙ (reading_by_sign (symbol_under sig f) (filled_at sig ts o (with_filling at.by a)) (filled_at sig ts o (with_filling at.by b))
            ∙ ap (λ z. reading_by z (filled_at sig ts o (with_filling at.by a)) (filled_at sig ts o (with_filling at.by b))) (sym signed)))

        by_option : (q : Option Comparison) → MatchOption q (reading_by s (filled_at sig ts o (with_filling at.by a)) (filled_at sig ts o (with_filling at.by b)) ≡ None) (λ c. AreComparable sig ts c × (reading_by s (filled_at sig ts o (with_filling at.by a)) (filled_at sig ts o (with_filling at.by b)) ≡ Some (meant_reading sig ts o c)))
            → MatchOption q (reading (filled_at sig ts o part) ≡ None) (IsComparisonOf sig ts o part)
        by_option None h = meant ∙ h
        by_option (Some c) h = record { within = h.0; reads = meant ∙ h.1 }

  -- ---- numerals
  module _ (part at : FilledTerm) (is : IsResolved sig ts o part at) where
    pub is_numeral : (a : SortId) (z : ℤ) → tree_at ts at.term ≡ numeral a z → filled_at sig ts o part ≡ terms.numeral (sort_under sig a) z
    is_numeral a z e = sym is.same ∙ ap (λ (t : Tree). filled (filling sig ts o at.by) (term_under sig t)) e

    pub is_application : (f : FunId) (us : Trees) → tree_at ts at.term ≡ function f us → filled_at sig ts o part ≡ terms.application (symbol_under sig f) (all_filled (filling sig ts o at.by) (terms_under sig us))
    is_application f us e = sym is.same ∙ ap (λ (t : Tree). filled (filling sig ts o at.by) (term_under sig t)) e

    by_tree_numeral : (b : Filling) (t : Tree) → (IsVariableTree t → IsAlone b) → ((a : SortId) (z : ℤ) → t ≡ numeral a z → ⊥) → (s : Sort) (z : ℤ) → filled (filling sig ts o b) (term_under sig t) ≡ terms.numeral s z → ⊥
    by_tree_numeral b (variable v) m n s z e = let x = alone_is_variable sig ts o b v (m tt) in let d : terms.variable x.0 ≡ terms.numeral s z = sym x.1 ∙ e in cc
    by_tree_numeral b (numeral a y) m n s z e = n a y refl
    by_tree_numeral b (function f us) m n s z e = cc

    pub no_numeral : ((a : SortId) (z : ℤ) → tree_at ts at.term ≡ numeral a z → ⊥) → (s : Sort) (z : ℤ) → filled_at sig ts o part ≡ terms.numeral s z → ⊥
    no_numeral n s z e = by_tree_numeral at.by (tree_at ts at.term) is.alone n s z (is.same ∙ e)

    by_tree_application : (b : Filling) (t : Tree) → (IsVariableTree t → IsAlone b) → ((f : FunId) (us : Trees) → t ≡ function f us → ⊥) → (c : Symbol) (us : Terms) → filled (filling sig ts o b) (term_under sig t) ≡ terms.application c us → ⊥
    by_tree_application b (variable v) m n c us e = let x = alone_is_variable sig ts o b v (m tt) in let d : terms.variable x.0 ≡ terms.application c us = sym x.1 ∙ e in cc
    by_tree_application b (numeral a y) m n c us e = cc
    by_tree_application b (function f vs) m n c us e = n f vs refl

    pub no_application : ((f : FunId) (us : Trees) → tree_at ts at.term ≡ function f us → ⊥) → (c : Symbol) (us : Terms) → filled_at sig ts o part ≡ terms.application c us → ⊥
    no_application n c us e = by_tree_application at.by (tree_at ts at.term) is.alone n c us (is.same ∙ e)

-- heads that are no numeral, or no function
pub no_number_head : (h : Head) (us : List Tree) (t : Tree) → t ≡ written_tree h us → ((s : SortId) (n : _) → h ≡ Number s n → ⊥) → (a : SortId) (z : ℤ) → t ≡ numeral a z → ⊥
no_number_head (Var v) us t e n a z i = let d : variable v ≡ numeral a z = sym e ∙ i in cc
no_number_head (Number s x) us t e n a z i = n s x refl
no_number_head (Fun f) us t e n a z i = let d : function f (trees_of us) ≡ numeral a z = sym e ∙ i in cc

pub no_function_head : (h : Head) (us : List Tree) (t : Tree) → t ≡ written_tree h us → ((f : FunId) → h ≡ Fun f → ⊥) → (f : FunId) (vs : Trees) → t ≡ function f vs → ⊥
no_function_head (Var v) us t e n f vs i = let d : variable v ≡ function f vs = sym e ∙ i in cc
no_function_head (Number s x) us t e n f vs i = let d : numeral s _ ≡ function f vs = sym e ∙ i in cc
no_function_head (Fun h) us t e n f vs i = n h refl

-- ---- a term with two arguments
abbrev trees_in : Tree → Trees
trees_in (function f us) = us
trees_in _ = none

pub not_two : (ts : List Tree) (t : Tree) (f : FunId) (args : List TermId) → t ≡ written_tree (Fun f) (trees_at ts args) → (length args ≡ 2 → ⊥) → IsNotBinary t
not_two ts t f args is n h x y e = by_arguments args n (ap trees_in (sym is ∙ e))
  where
    by_arguments : (args : List TermId) → (length args ≡ 2 → ⊥) → trees_of (trees_at ts args) ≡ more x (more y none) → ⊥
    by_arguments [] n e = cc
    by_arguments (a ∷ []) n e = cc
    by_arguments (a ∷ b ∷ []) n e = n refl
    by_arguments (a ∷ b ∷ c ∷ args) n e = cc

pub two_sides : (ts : List Tree) (term : TermId) (f : FunId) (args : List TermId) (a b : TermId) → tree_at ts term ≡ written_tree (Fun f) (trees_at ts args) → length args ≡ 2 → a ≡ get_or args 0 a → b ≡ get_or args 1 b → All (λ (arg : TermId). arg.0 < term.0) args → IsIn ts term → IsSides ts term f a b
two_sides ts term f (x ∷ y ∷ []) a b is l e k under i =
    let less = All-head (λ (arg : TermId). arg.0 < term.0) x (y ∷ []) under in
    let other_less = All-head (λ (arg : TermId). arg.0 < term.0) y [] (All-tail (λ (arg : TermId). arg.0 < term.0) x (y ∷ []) under) in
    let is_a : x.0 ≡ a.0 = ap (λ (z : TermId). z.0) (sym e) in
    let is_b : y.0 ≡ b.0 = ap (λ (z : TermId). z.0) (sym k) in
    record {
      is = is ∙ ap₂ (λ (u v : TermId). function f (more (tree_at ts u) (more (tree_at ts v) none))) (sym e) (sym k);
      one_in = omega (arith, less, i, is_a);
      other_in = omega (arith, other_less, i, is_b);
      other_less = omega (arith, other_less, is_b);
    }
two_sides ts term f [] a b is l e k under i = absurd (omega (arith, l))
two_sides ts term f (x ∷ []) a b is l e k under i = absurd (omega (arith, l))
two_sides ts term f (x ∷ y ∷ z ∷ args) a b is l e k under i = absurd (omega (arith, l))

-- ---- numbers
less_or_up_to : (x y : ℤ) → lt_z y x ≡ not (le_z x y)
less_or_up_to (pos a) (pos b) = of_numbers b a
  where
    of_numbers : (b a : ℕ) → ltb b a ≡ not (leb a b)
    of_numbers b a = elim (leb_tells a b) [
      | inl l ↦ by_test (ltb b a) refl l.0 l.1
      | inr l ↦ (Decides-ltb b a).1 l.1 ∙ sym (ap not l.0)
    ]
      where
        by_test : (t : Bool) → ltb b a ≡ t → leb a b ≡ true → a ≤ b → ltb b a ≡ not (leb a b)
        by_test false e k l = e ∙ sym (ap not k)
        by_test true e k l = absurd (let m = (Decides-ltb b a).0 e in omega (arith, l, m))
less_or_up_to (negsuc a) (negsuc b) = of_numbers a b
  where
    of_numbers : (b a : ℕ) → ltb b a ≡ not (leb a b)
    of_numbers b a = elim (leb_tells a b) [
      | inl l ↦ by_test (ltb b a) refl l.0 l.1
      | inr l ↦ (Decides-ltb b a).1 l.1 ∙ sym (ap not l.0)
    ]
      where
        by_test : (t : Bool) → ltb b a ≡ t → leb a b ≡ true → a ≤ b → ltb b a ≡ not (leb a b)
        by_test false e k l = e ∙ sym (ap not k)
        by_test true e k l = absurd (let m = (Decides-ltb b a).0 e in omega (arith, l, m))
less_or_up_to (pos a) (negsuc b) = refl
less_or_up_to (negsuc a) (pos b) = refl

-- numbers differ where one of them is less
module _ (a b : ℕ) where
  one_less : (x y : Bool) → ltb a b ≡ x → ltb b a ≡ y → (x || y) ≡ not (a == b)
  one_less x y e f = elim (eqb_tells a b) [
    | inl s ↦ equal_case x y e f s.0 s.1
    | inr d ↦ other_case x y e f d.0 d.1
  ]
    where
      equal_case : (x y : Bool) → ltb a b ≡ x → ltb b a ≡ y → (a == b) ≡ true → a ≡ b → (x || y) ≡ not (a == b)
      equal_case false false e f s t = sym (ap not s)
      equal_case true y e f s t = absurd (let l = (Decides-ltb a b).0 e in omega (arith, l, t))
      equal_case false true e f s t = absurd (let l = (Decides-ltb b a).0 f in omega (arith, l, t))

      other_case : (x y : Bool) → ltb a b ≡ x → ltb b a ≡ y → (a == b) ≡ false → a ≢ b → (x || y) ≡ not (a == b)
      other_case true y e f s t = sym (ap not s)
      other_case false true e f s t = sym (ap not s)
      other_case false false e f s t = absurd (let n : a ≢ b = t in let l = not_less a b e in let k = not_less b a f in omega (arith, n, l, k))
        where
          not_less : (c d : ℕ) → ltb c d ≡ false → d ≤ c
          not_less c d g = elim (leb_tells d c) [
            | inl m ↦ m.1
            | inr m ↦ absurd (let z : true ≡ false = sym ((Decides-ltb c d).1 m.1) ∙ g in cc)
          ]

pub differ_so : (x y : ℤ) → (lt_z x y || lt_z y x) ≡ not (equal_numbers x y)
differ_so (pos a) (pos b) = one_less a b (ltb a b) (ltb b a) refl refl
differ_so (negsuc a) (negsuc b) = one_less b a (ltb b a) (ltb a b) refl refl ∙ ap not (turned b a)
  where
    turned : (c d : ℕ) → (c == d) ≡ (d == c)
    turned c d = elim (eqb_tells c d) [
      | inl s ↦ s.0 ∙ sym (itself d c (sym s.1))
      | inr s ↦ s.0 ∙ sym (different_ones d c (λ e. s.1 (sym e)))
    ]
      where
        itself : (u v : ℕ) → u ≡ v → (u == v) ≡ true
        itself u v e = elim (eqb_tells u v) [
          | inl h ↦ h.0
          | inr h ↦ absurd (h.1 e)
        ]

        different_ones : (u v : ℕ) → (u ≡ v → ⊥) → (u == v) ≡ false
        different_ones u v n = elim (eqb_tells u v) [
          | inl h ↦ absurd (n h.1)
          | inr h ↦ h.0
        ]
differ_so (pos a) (negsuc b) = refl
differ_so (negsuc a) (pos b) = refl

pub up_to_fails : (x y : ℤ) → lt_z y x ≡ not (holds up_to x y)
up_to_fails x y = less_or_up_to x y

-- ---- numerals of which it doesn't hold
pub numerals_told : (r : Reading) (a b : Sort) (x y : ℤ) → r.one ≡ terms.numeral a x → r.other ≡ terms.numeral b y → (t : Bool) → t ≡ not (holds r.relation x y) → Decides t (IsFalseOfNumerals r)
numerals_told r a b x y e f t is = (
  (λ g. record { sort = a; other_sort = b; number = x; other_number = y; one = e; other = f; fails = was_false (holds r.relation x y) (sym is ∙ g) }),
  (λ n. is ∙ ap not (ap₂ (holds r.relation) (same_number a n.sort x n.number (sym e ∙ n.one)) (same_number b n.other_sort y n.other_number (sym f ∙ n.other)) ∙ n.fails)),
)
  where
    was_false : (u : Bool) → not u ≡ true → u ≡ false
    was_false false h = refl
    was_false true h = cc

    number_in : Term → ℤ
    number_in (terms.numeral s z) = z
    number_in _ = pos 0

    same_number : (s u : Sort) (z w : ℤ) → terms.numeral s z ≡ terms.numeral u w → z ≡ w
    same_number s u z w h = ap number_in h

-- ---- constructors that differ
abbrev ListsOrNot : Symbol → Symbol → Type 0
ListsOrNot f h = (are_of_lists (sign_of f) (sign_of h) ≡ true → AreDifferent f h → ⊥) × (are_of_lists (sign_of f) (sign_of h) ≡ false → f ≢ h → AreDifferent f h) × (AreDifferent f h → f ≢ h)

lists_or_not : (f h : Symbol) → ListsOrNot f h
lists_or_not (terms.empty s) (terms.empty t) = ((λ e d. d), (λ e n. cc), (λ d. absurd d))
lists_or_not (terms.cons s) (terms.cons t) = ((λ e d. d), (λ e n. cc), (λ d. absurd d))
lists_or_not (terms.empty s) (terms.comparison terms.less t) = ((λ e. cc), (λ e n. n), (λ d. d))
lists_or_not (terms.empty s) (terms.comparison terms.at_most t) = ((λ e. cc), (λ e n. n), (λ d. d))
lists_or_not (terms.empty s) (terms.comparison terms.greater t) = ((λ e. cc), (λ e n. n), (λ d. d))
lists_or_not (terms.empty s) (terms.comparison terms.at_least t) = ((λ e. cc), (λ e n. n), (λ d. d))
lists_or_not (terms.empty s) (terms.arithmetic terms.subtract ss to) = ((λ e. cc), (λ e n. n), (λ d. d))
lists_or_not (terms.empty s) (terms.arithmetic terms.to_positive ss to) = ((λ e. cc), (λ e n. n), (λ d. d))
lists_or_not (terms.empty s) (terms.arithmetic terms.to_natural ss to) = ((λ e. cc), (λ e n. n), (λ d. d))
lists_or_not (terms.empty s) _ = ((λ e. cc), (λ e n. n), (λ d. d))
lists_or_not (terms.cons s) (terms.comparison terms.less t) = ((λ e. cc), (λ e n. n), (λ d. d))
lists_or_not (terms.cons s) (terms.comparison terms.at_most t) = ((λ e. cc), (λ e n. n), (λ d. d))
lists_or_not (terms.cons s) (terms.comparison terms.greater t) = ((λ e. cc), (λ e n. n), (λ d. d))
lists_or_not (terms.cons s) (terms.comparison terms.at_least t) = ((λ e. cc), (λ e n. n), (λ d. d))
lists_or_not (terms.cons s) (terms.arithmetic terms.subtract ss to) = ((λ e. cc), (λ e n. n), (λ d. d))
lists_or_not (terms.cons s) (terms.arithmetic terms.to_positive ss to) = ((λ e. cc), (λ e n. n), (λ d. d))
lists_or_not (terms.cons s) (terms.arithmetic terms.to_natural ss to) = ((λ e. cc), (λ e n. n), (λ d. d))
lists_or_not (terms.cons s) _ = ((λ e. cc), (λ e n. n), (λ d. d))
lists_or_not (terms.comparison terms.less s) h = ((λ e. cc), (λ e n. n), (λ d. d))
lists_or_not (terms.comparison terms.at_most s) h = ((λ e. cc), (λ e n. n), (λ d. d))
lists_or_not (terms.comparison terms.greater s) h = ((λ e. cc), (λ e n. n), (λ d. d))
lists_or_not (terms.comparison terms.at_least s) h = ((λ e. cc), (λ e n. n), (λ d. d))
lists_or_not (terms.arithmetic terms.subtract ss to) h = ((λ e. cc), (λ e n. n), (λ d. d))
lists_or_not (terms.arithmetic terms.to_positive ss to) h = ((λ e. cc), (λ e n. n), (λ d. d))
lists_or_not (terms.arithmetic terms.to_natural ss to) h = ((λ e. cc), (λ e n. n), (λ d. d))
lists_or_not _ h = ((λ e. cc), (λ e n. n), (λ d. d))

pub different_so : (f h : Symbol) (l d : Bool) → l ≡ are_of_lists (sign_of f) (sign_of h) → l ≡ false → Decides d (f ≢ h) → Decides d (AreDifferent f h)
different_so f h l d is f_no k = let n = lists_or_not f h in decides_like d (λ x. n.1 (sym is ∙ f_no) x) n.2 k

pub never_different : (f h : Symbol) (l : Bool) → l ≡ are_of_lists (sign_of f) (sign_of h) → l ≡ true → Decides false (AreDifferent f h)
never_different f h l is f_yes = decides_no ((lists_or_not f h).0 (sym is ∙ f_yes))

-- ---- what is false by its form
pub strict_said : {A D : Type 0} (rel r : Relation) (b : Bool) → rel ≡ r → IsStrict r → (r ≡ equal → ⊥) → Decides b A → Decides b ((A × IsStrict rel) ⊎ ((rel ≡ equal) × D))
strict_said rel r b e s n d = decides_like b (λ a. inl (a, subst IsStrict (sym e) s)) (λ h. ⊎_elim (λ k. k.0) (λ k. absurd (n (sym e ∙ k.0))) h) d

pub equal_said : {A D : Type 0} (rel : Relation) (b : Bool) → rel ≡ equal → Decides b D → Decides b ((A × IsStrict rel) ⊎ ((rel ≡ equal) × D))
equal_said rel b e d = decides_like b (λ a. inr (e, a)) (λ h. ⊎_elim (λ k. absurd (subst IsStrict e k.1)) (λ k. k.1) h) d

pub nothing_said : {A D : Type 0} (rel : Relation) → rel ≡ up_to → Decides false ((A × IsStrict rel) ⊎ ((rel ≡ equal) × D))
nothing_said rel e = decides_no (λ h. ⊎_elim (λ k. subst IsStrict e k.1) (λ k. let d : up_to ≡ equal = sym e ∙ k.0 in cc) h)

-- ---- terms that begin with different constructors
module _ (g : Data) (t u : Term) where
  pub no_first : ((f : Symbol) (us : Terms) → t ≡ terms.application f us → ⊥) → Decides false (BeginDifferently g t u)
  no_first n = decides_no (by_terms t u n)
    where
      by_terms : (t u : Term) → ((f : Symbol) (us : Terms) → t ≡ terms.application f us → ⊥) → BeginDifferently g t u → ⊥
      by_terms (terms.application f ts) u n d = n f ts refl
      by_terms (terms.variable x) u n d = d
      by_terms (terms.numeral s z) u n d = d
      by_terms (terms.unknown b z) u n d = d

  pub no_second : ((f : Symbol) (us : Terms) → u ≡ terms.application f us → ⊥) → Decides false (BeginDifferently g t u)
  no_second n = decides_no (by_terms t u n)
    where
      by_terms : (t u : Term) → ((f : Symbol) (us : Terms) → u ≡ terms.application f us → ⊥) → BeginDifferently g t u → ⊥
      by_terms (terms.application f ts) (terms.application h us) n d = n h us refl
      by_terms (terms.application f ts) (terms.variable x) n d = d
      by_terms (terms.application f ts) (terms.numeral s z) n d = d
      by_terms (terms.application f ts) (terms.unknown b z) n d = d
      by_terms (terms.variable x) u n d = d
      by_terms (terms.numeral s z) u n d = d
      by_terms (terms.unknown b z) u n d = d

  pub both_begin : (f h : Symbol) (ts us : Terms) → t ≡ terms.application f ts → u ≡ terms.application h us → (b : Bool) → Decides b (IsConstructor g f × IsConstructor g h × AreDifferent f h) → Decides b (BeginDifferently g t u)
  both_begin f h ts us e k b d = subst (λ x. Decides b (BeginDifferently g x u)) (sym e) (subst (λ x. Decides b (BeginDifferently g (terms.application f ts) x)) (sym k) d)

-- ---- what can't both be true
module _ (r s : Reading) where
  abbrev AreContraryBy : CodeRelation → CodeRelation → Type 0
  AreContraryBy a b = AreContraryAs (relation_told a) (relation_told b) r s

  only_turned : (a b : CodeRelation) → are_contrary_in_order a b ≡ false → AreContraryBy a b → HaveTurnedSides r s
  only_turned relations.Equal relations.Different e c = cc
  only_turned relations.Below relations.Equal e c = cc
  only_turned relations.Below relations.Below e c = c
  only_turned relations.Below relations.UpTo e c = c
  only_turned relations.Equal relations.Equal e c = absurd c
  only_turned relations.Equal relations.Below e c = absurd c
  only_turned relations.Equal relations.UpTo e c = absurd c
  only_turned relations.Below relations.Different e c = absurd c
  only_turned relations.UpTo b e c = absurd c
  only_turned relations.Different b e c = absurd c

  never : (a b : CodeRelation) → are_contrary_turned a b ≡ false → AreContraryBy a b → ⊥
  never relations.Equal relations.Different e c = cc
  never relations.Below relations.Equal e c = cc
  never relations.Below relations.Below e c = cc
  never relations.Below relations.UpTo e c = cc
  never relations.Equal relations.Equal e c = c
  never relations.Equal relations.Below e c = c
  never relations.Equal relations.UpTo e c = c
  never relations.Below relations.Different e c = c
  never relations.UpTo b e c = c
  never relations.Different b e c = c

  when_turned : (a b : CodeRelation) → are_contrary_turned a b ≡ true → HaveTurnedSides r s → AreContraryBy a b
  when_turned relations.Equal relations.Different e t = inr t
  when_turned relations.Below relations.Equal e t = inr t
  when_turned relations.Below relations.Below e t = t
  when_turned relations.Below relations.UpTo e t = t
  when_turned relations.Equal relations.Equal e t = cc
  when_turned relations.Equal relations.Below e t = cc
  when_turned relations.Equal relations.UpTo e t = cc
  when_turned relations.Below relations.Different e t = cc
  when_turned relations.UpTo b e t = cc
  when_turned relations.Different b e t = cc

  when_same : (a b : CodeRelation) → are_contrary_in_order a b ≡ true → HaveSameSides r s → AreContraryBy a b
  when_same relations.Equal relations.Different e t = inl t
  when_same relations.Below relations.Equal e t = inl t
  when_same relations.Below relations.Below e t = cc
  when_same relations.Below relations.UpTo e t = cc
  when_same relations.Equal relations.Equal e t = cc
  when_same relations.Equal relations.Below e t = cc
  when_same relations.Equal relations.UpTo e t = cc
  when_same relations.Below relations.Different e t = cc
  when_same relations.UpTo b e t = cc
  when_same relations.Different b e t = cc

  either_way : (a b : CodeRelation) → AreContraryBy a b → HaveSameSides r s ⊎ HaveTurnedSides r s
  either_way relations.Equal relations.Different c = c
  either_way relations.Below relations.Equal c = c
  either_way relations.Below relations.Below c = inr c
  either_way relations.Below relations.UpTo c = inr c
  either_way relations.Equal relations.Equal c = absurd c
  either_way relations.Equal relations.Below c = absurd c
  either_way relations.Equal relations.UpTo c = absurd c
  either_way relations.Below relations.Different c = absurd c
  either_way relations.UpTo b c = absurd c
  either_way relations.Different b c = absurd c

  module _ (a b : CodeRelation) where
    pub never_contrary : (t : Bool) → t ≡ are_contrary_turned a b → t ≡ false → Decides false (AreContraryBy a b)
    never_contrary t is e = decides_no (never a b (sym is ∙ e))

    module _ (t : Bool) (is : t ≡ are_contrary_turned a b) (may : t ≡ true) (u : Bool) (turned : Decides u (HaveTurnedSides r s)) where
      pub turned_contrary : u ≡ true → Decides true (AreContraryBy a b)
      turned_contrary e = decides_yes (when_turned a b (sym is ∙ may) (turned.0 e))

      module _ (other : u ≡ false) (o : Bool) (o_is : o ≡ are_contrary_in_order a b) where
        pub out_of_order : o ≡ false → Decides false (AreContraryBy a b)
        out_of_order e = decides_no (λ c. not_so u turned other (only_turned a b (sym o_is ∙ e) c))

        pub same_contrary : o ≡ true → (v : Bool) → Decides v (HaveSameSides r s) → Decides v (AreContraryBy a b)
        same_contrary e v same = decides_like v (when_same a b (sym o_is ∙ e)) (λ c. ⊎_elim (λ h. h) (λ h. absurd (not_so u turned other h)) (either_way a b c)) same

-- ---- what relations tell
pub tells_equality : (a : CodeRelation) (b : Bool) → b ≡ tells_equal a → b ≡ true → relation_told a ≡ equal
tells_equality relations.Equal b is e = refl
tells_equality relations.Below b is e = let f : false ≡ true = sym is ∙ e in cc
tells_equality relations.UpTo b is e = let f : false ≡ true = sym is ∙ e in cc
tells_equality relations.Different b is e = let f : false ≡ true = sym is ∙ e in cc

-- the relation is strict, and no equality
pub tells_strictness : (a : CodeRelation) (b : Bool) → b ≡ tells_strict a → b ≡ true → IsStrict (relation_told a) × (relation_told a ≡ equal → ⊥)
tells_strictness relations.Below b is e = (tt, λ h. cc)
tells_strictness relations.Different b is e = (tt, λ h. cc)
tells_strictness relations.Equal b is e = let f : false ≡ true = sym is ∙ e in cc
tells_strictness relations.UpTo b is e = let f : false ≡ true = sym is ∙ e in cc

-- it is neither
pub tells_neither : (a : CodeRelation) (b c : Bool) → b ≡ tells_equal a → b ≡ false → c ≡ tells_strict a → c ≡ false → relation_told a ≡ up_to
tells_neither relations.UpTo b c is e so f = refl
tells_neither relations.Equal b c is e so f = let h : true ≡ false = sym is ∙ e in cc
tells_neither relations.Below b c is e so f = let h : true ≡ false = sym so ∙ f in cc
tells_neither relations.Different b c is e so f = let h : true ≡ false = sym so ∙ f in cc
