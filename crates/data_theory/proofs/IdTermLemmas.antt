-- What trees mean.
use Rattle.std.proofs.Common.{◌≡◌, ℕ, zero, suc, ◌<◌, ◌⊎◌, inl, inr, List, [], ◌∷◌, map, length, Bool, true, false, ◌&&◌, ◌||◌, ◌==◌, cond, Some, refl, sym, ap, ◌∙◌, subst}
use Rattle.std.proofs.lemmas.Bool.{and_parts, and_from, both_ways}
use Rattle.std.specs.Prelude.{slice_get, ℤ, pos}
use Rattle.std.proofs.lemmas.Bool.Decides.{Decides-eqb}
use Rattle.std.proofs.lemmas.Option.{slice_get_within}
use lib.Signed.{lt_z}
use lib.IntN.{neg_ℤ}
use Rattle.data_theory.specs.declared.ids.SortId.{SortId}
use Rattle.data_theory.specs.declared.ids.FunId.{FunId}
use Rattle.data_theory.specs.declared.ids.VarId.{VarId}
use Rattle.data_theory.specs.declared.signature.Variable.{Variable}
use Rattle.data_theory.specs.Terms as terms
use Rattle.data_theory.specs.Terms.{Sort, boolean, positive, natural, integer, Symbol, truth, minus, upcast, Term, Terms, apply, put, put_all}
use Rattle.data_theory.specs.Declarations.{Declares, IsNumberOf, HasNumeral, HasSort, HaveSorts}
use Rattle.data_theory.specs.Functions.{arguments_of}
use Rattle.data_theory.specs.Table.{pos_sort, nat_sort, int_sort, first_rows}
use Rattle.data_theory.specs.Signature.{Sig}
use Rattle.data_theory.specs.IdTrees.{Tree, Trees, variable, numeral, function, none, more, is_over, apply_to_numeral, apply_tree, put_tree, put_trees}
use Rattle.data_theory.specs.IdTreeSorts.{IsNumberIn, HasTreeSort, HaveTreeSorts}
use Rattle.data_theory.specs.IdSorts.{construction_of, IsDeclaredKind, meant_by}
use Rattle.data_theory.specs.IdSymbols.{symbol_meant}
use Rattle.data_theory.specs.IdTables.{IsTable}
use Rattle.data_theory.specs.IdData.{data_meant}
use Rattle.data_theory.specs.IdTerms.{term_by, sort_under, symbol_under, term_under, terms_under, variable_sorts, IsTreeWithin, AreTreesWithin, IsGrown}
use Rattle.data_theory.specs.IdLaws.{SettingConstructorsKeepsMeantTerms, DifferentTreesMeanDifferentTerms, MergingTreesMergesTerms, PuttingInTreesPutsInTerms, GrowthKeepsMeantTerms, SortedTreesMeanSortedTerms, SortedTreesAreWithin}
use Rattle.data_theory.proofs.IdSortLemmas.{meanings_set, same_meant_sort, growth_keeps_meant_sorts}
use Rattle.data_theory.proofs.IdSymbolLemmas.{same_meant_symbol, growth_keeps_meant_symbols, positive_is, natural_is, integer_is, minus_positive_is, minus_natural_is, minus_integer_is, pos2nat_is, nat2int_is, pos2int_is, first_alone, number_sort_alone, positive_within, natural_within, integer_within, symbol_fits}

-- ---- different trees mean different terms
module _ (g : Sig) (table : IsTable g) where
  mutual
    same_tree : (t u : Tree) → IsTreeWithin g t → IsTreeWithin g u → term_under g t ≡ term_under g u → t ≡ u
    same_tree (variable v) (variable w) l k e = let n : v.0 ≡ w.0 = cc in ap (λ (i : ℕ). variable (record { 0 = i })) n
    same_tree (variable v) (numeral b x) l k e = cc
    same_tree (variable v) (function h us) l k e = cc
    same_tree (numeral a z) (variable w) l k e = cc
    same_tree (numeral a z) (numeral b x) l k e =
        let s : sort_under g a ≡ sort_under g b = cc in
        let n : z ≡ x = cc in
        let q = same_meant_sort g.sorts table.sorts a b l k s in
        (λ i. numeral (q i) (n i))
    same_tree (numeral a z) (function h us) l k e = cc
    same_tree (function f ts) (variable w) l k e = cc
    same_tree (function f ts) (numeral b x) l k e = cc
    same_tree (function f ts) (function h us) l k e =
        let y : symbol_under g f ≡ symbol_under g h = cc in
        let n : terms_under g ts ≡ terms_under g us = cc in
        let p = same_meant_symbol g table f h l.0 k.0 y in
        let q = same_trees ts us l.1 k.1 n in
        (λ i. function (p i) (q i))

    same_trees : (ts us : Trees) → AreTreesWithin g ts → AreTreesWithin g us → terms_under g ts ≡ terms_under g us → ts ≡ us
    same_trees none none l k e = refl
    same_trees none (more u us) l k e = cc
    same_trees (more t ts) none l k e = cc
    same_trees (more t ts) (more u us) l k e =
        let h : term_under g t ≡ term_under g u = cc in
        let r : terms_under g ts ≡ terms_under g us = cc in
        let p = same_tree t u l.0 k.0 h in
        let q = same_trees ts us l.1 k.1 r in
        (λ i. more (p i) (q i))

pub different_trees_mean_different_terms : DifferentTreesMeanDifferentTerms
different_trees_mean_different_terms g table t u l k e = same_tree g table t u l k e

-- ---- growth
module _ (g h : Sig) (table : IsTable g) (grown : IsGrown g h) where
  mutual
    term_stays : (t : Tree) → IsTreeWithin g t → term_under h t ≡ term_under g t
    term_stays (variable v) l = refl
    term_stays (numeral a z) l = ap (λ s. terms.numeral s z) (growth_keeps_meant_sorts g h grown a l)
    term_stays (function f ts) l =
        let y = growth_keeps_meant_symbols g h table grown f l.0 in
        let r = terms_stay ts l.1 in
        (λ i. terms.application (y i) (r i))

    terms_stay : (ts : Trees) → AreTreesWithin g ts → terms_under h ts ≡ terms_under g ts
    terms_stay none l = refl
    terms_stay (more t ts) l = let p = term_stays t l.0 in let q = terms_stay ts l.1 in (λ i. terms.more (p i) (q i))

pub growth_keeps_meant_terms : GrowthKeepsMeantTerms
growth_keeps_meant_terms g h table grown t l = term_stays g h table grown t l

-- ---- a declared sort gets its constructors
pub setting_constructors_keeps_meant_terms : SettingConstructorsKeepsMeantTerms
setting_constructors_keeps_meant_terms g s k bare is t =
    let was : IsDeclaredKind bare.0.kind = ap (λ x. length (construction_of x)) bare.2 in
    ap (λ ms. term_by (meant_by ms) (symbol_meant (meant_by ms) g.functions) t) (meanings_set g.sorts s.0 bare.0 k [] 0 bare.1 was is)

-- ---- merging
IsNoNumeral : Terms → Type 0
IsNoNumeral (terms.more (terms.numeral a z) terms.none) = ⊥
IsNoNumeral ts = Unit {0}

-- a symbol merges with nothing but a single numeral
unmerged : (y : Symbol) (ts : Terms) → IsNoNumeral ts → apply y ts ≡ terms.application y ts
unfolding IsNoNumeral
unmerged (upcast positive natural) (terms.more (terms.numeral positive z) terms.none) h = absurd h
unmerged (upcast natural integer) (terms.more (terms.numeral natural z) terms.none) h = absurd h
unmerged (upcast positive integer) (terms.more (terms.numeral positive z) terms.none) h = absurd h
unmerged (minus positive) (terms.more (terms.numeral positive z) terms.none) h = absurd h
unmerged (minus natural) (terms.more (terms.numeral natural z) terms.none) h = absurd h
unmerged (minus integer) (terms.more (terms.numeral integer z) terms.none) h = absurd h
unmerged y ts h = refl

-- the symbols that merge with a numeral, by its sort
data Merges : Symbol → Sort → Type 0 where
  pos2nat : Merges (upcast positive natural) positive
  nat2int : Merges (upcast natural integer) natural
  pos2int : Merges (upcast positive integer) positive
  minus_pos : Merges (minus positive) positive
  minus_nat : Merges (minus natural) natural
  minus_int : Merges (minus integer) integer

merges_or_stays : (y : Symbol) (a : Sort) → Merges y a ⊎ ((z : ℤ) → apply y (terms.more (terms.numeral a z) terms.none) ≡ terms.application y (terms.more (terms.numeral a z) terms.none))
merges_or_stays (upcast positive natural) positive = inl pos2nat
merges_or_stays (upcast natural integer) natural = inl nat2int
merges_or_stays (upcast positive integer) positive = inl pos2int
merges_or_stays (minus positive) positive = inl minus_pos
merges_or_stays (minus natural) natural = inl minus_nat
merges_or_stays (minus integer) integer = inl minus_int
merges_or_stays y a = inr (λ z. refl)

-- what a test of numbers tells
over_tells : (n : ℕ) (a : SortId) (f : FunId) (s : SortId) → is_over n a f s ≡ true → (f ≡ record { 0 = n }) × (s ≡ a)
over_tells n a f s e =
    let h = and_parts (f.0 == n) (s.0 == a.0) e in
    (ap (λ (k : ℕ). record { 0 = k }) ((Decides-eqb f.0 n).0 h.0), ap (λ (k : ℕ). record { 0 = k }) ((Decides-eqb s.0 a.0).0 h.1))

over_told : (n : ℕ) (a : SortId) (f : FunId) (s : SortId) → f.0 ≡ n → s.0 ≡ a.0 → is_over n a f s ≡ true
over_told n a f s p q = and_from (f.0 == n) (s.0 == a.0) ((Decides-eqb f.0 n).1 p) ((Decides-eqb s.0 a.0).1 q)

module _ (g : Sig) (table : IsTable g) (f : FunId) (s : SortId) (z : ℤ) where
  -- the outcome, by the tests of an upcast to Nat, of one to Int, and of a minus sign
  abbrev outcome : Bool → Bool → Bool → Tree
  outcome b c d = cond b (numeral nat_sort z) (cond c (numeral int_sort z) (cond (d && lt_z (pos 0) z) (numeral int_sort (neg_ℤ z)) (function f (more (numeral s z) none))))

  abbrev Merged : Tree → Type 0
  Merged t = term_under g t ≡ apply (symbol_under g f) (terms.more (terms.numeral (sort_under g s) z) terms.none)

  abbrev merged : Symbol → Sort → Term
  merged y a = apply y (terms.more (terms.numeral a z) terms.none)

  -- what the tests tell of the meanings
  meant : (n : ℕ) (a : SortId) (y : Symbol) (t : Sort) → symbol_under g (record { 0 = n }) ≡ y → sort_under g a ≡ t → is_over n a f s ≡ true → merged (symbol_under g f) (sort_under g s) ≡ merged y t
  meant n a y t is sort e =
      let h = over_tells n a f s e in
      let p = ap (symbol_under g) h.0 ∙ is in
      let q = ap (sort_under g) h.1 ∙ sort in
      (λ i. merged (p i) (q i))

  to_nat : (b c d : Bool) → b ≡ true → is_over 3 pos_sort f s ≡ true → Merged (outcome b c d)
  to_nat b c d e t =
      ap (λ x. term_under g (outcome x c d)) e ∙ ap (λ a. terms.numeral a z) (natural_is g table)
      ∙ sym (meant 3 pos_sort (upcast positive natural) positive (pos2nat_is g table) (positive_is g table) t)

  int_from_nat : (b c d : Bool) → b ≡ false → c ≡ true → is_over 4 nat_sort f s ≡ true → Merged (outcome b c d)
  int_from_nat b c d e k t =
      (λ i. term_under g (outcome (e i) (k i) d)) ∙ ap (λ a. terms.numeral a z) (integer_is g table)
      ∙ sym (meant 4 nat_sort (upcast natural integer) natural (nat2int_is g table) (natural_is g table) t)

  int_from_pos : (b c d : Bool) → b ≡ false → c ≡ true → is_over 5 pos_sort f s ≡ true → Merged (outcome b c d)
  int_from_pos b c d e k t =
      (λ i. term_under g (outcome (e i) (k i) d)) ∙ ap (λ a. terms.numeral a z) (integer_is g table)
      ∙ sym (meant 5 pos_sort (upcast positive integer) positive (pos2int_is g table) (positive_is g table) t)

  -- a minus sign over a numeral of its sort
  negated_is : (n : ℕ) (a : SortId) (t : Sort) → symbol_under g (record { 0 = n }) ≡ minus t → sort_under g a ≡ t → ((b : Bool) → lt_z (pos 0) z ≡ b → merged (minus t) t ≡ cond b (terms.numeral integer (neg_ℤ z)) (terms.application (minus t) (terms.more (terms.numeral t z) terms.none)))
      → is_over n a f s ≡ true → (b c d : Bool) → b ≡ false → c ≡ false → d ≡ true → Merged (outcome b c d)
  negated_is n a t is sort merging e b c d p q r =
      (λ i. term_under g (outcome (p i) (q i) (r i))) ∙ (by_sign (lt_z (pos 0) z) refl ∙ sym (meant n a (minus t) t is sort e))
    where
      y_is : symbol_under g f ≡ minus t
      y_is = ap (symbol_under g) (over_tells n a f s e).0 ∙ is

      s_is : sort_under g s ≡ t
      s_is = ap (sort_under g) (over_tells n a f s e).1 ∙ sort

      by_sign : (x : Bool) → lt_z (pos 0) z ≡ x → term_under g (cond x (numeral int_sort (neg_ℤ z)) (function f (more (numeral s z) none))) ≡ merged (minus t) t
      by_sign true l = ap (λ i. terms.numeral i (neg_ℤ z)) (integer_is g table) ∙ sym (merging true l)
      by_sign false l = (λ i. terms.application (y_is i) (terms.more (terms.numeral (s_is i) z) terms.none)) ∙ sym (merging false l)

  sign_of : (t : Sort) (b : Bool) → lt_z (pos 0) z ≡ b → terms.negated t z ≡ cond b (terms.numeral integer (neg_ℤ z)) (terms.application (minus t) (terms.more (terms.numeral t z) terms.none))
  sign_of t b l = ap (λ x. cond x (terms.numeral integer (neg_ℤ z)) (terms.application (minus t) (terms.more (terms.numeral t z) terms.none))) l

  -- where no test passes, nothing merges
  module _ (e₀ : is_over 0 pos_sort f s ≡ false) (e₁ : is_over 1 nat_sort f s ≡ false) (e₂ : is_over 2 int_sort f s ≡ false)
      (e₃ : is_over 3 pos_sort f s ≡ false) (e₄ : is_over 4 nat_sort f s ≡ false) (e₅ : is_over 5 pos_sort f s ≡ false) where
    over_positive : sort_under g s ≡ positive → s.0 ≡ 1
    over_positive q = number_sort_alone g table pos_sort positive (positive_within g table) (positive_is g table) (λ x. cc) s q

    over_natural : sort_under g s ≡ natural → s.0 ≡ 2
    over_natural q = number_sort_alone g table nat_sort natural (natural_within g table) (natural_is g table) (λ x. cc) s q

    over_integer : sort_under g s ≡ integer → s.0 ≡ 3
    over_integer q = number_sort_alone g table int_sort integer (integer_within g table) (integer_is g table) (λ x. cc) s q

    never : (y : Symbol) (a : Sort) → Merges y a → symbol_under g f ≡ y → sort_under g s ≡ a → ⊥
    unfolding first_rows
    never y a pos2nat p q = both_ways (is_over 3 pos_sort f s) e₃ (over_told 3 pos_sort f s (first_alone g table 3 _ (upcast positive natural) refl (pos2nat_is g table) (λ x. cc) f p) (over_positive q))
    never y a nat2int p q = both_ways (is_over 4 nat_sort f s) e₄ (over_told 4 nat_sort f s (first_alone g table 4 _ (upcast natural integer) refl (nat2int_is g table) (λ x. cc) f p) (over_natural q))
    never y a pos2int p q = both_ways (is_over 5 pos_sort f s) e₅ (over_told 5 pos_sort f s (first_alone g table 5 _ (upcast positive integer) refl (pos2int_is g table) (λ x. cc) f p) (over_positive q))
    never y a minus_pos p q = both_ways (is_over 0 pos_sort f s) e₀ (over_told 0 pos_sort f s (first_alone g table 0 _ (minus positive) refl (minus_positive_is g table) (λ x. cc) f p) (over_positive q))
    never y a minus_nat p q = both_ways (is_over 1 nat_sort f s) e₁ (over_told 1 nat_sort f s (first_alone g table 1 _ (minus natural) refl (minus_natural_is g table) (λ x. cc) f p) (over_natural q))
    never y a minus_int p q = both_ways (is_over 2 int_sort f s) e₂ (over_told 2 int_sort f s (first_alone g table 2 _ (minus integer) refl (minus_integer_is g table) (λ x. cc) f p) (over_integer q))

    nothing_merges : Merged (function f (more (numeral s z) none))
    nothing_merges = elim (merges_or_stays (symbol_under g f) (sort_under g s)) [ inl h ↦ absurd (never (symbol_under g f) (sort_under g s) h refl refl) | inr h ↦ sym (h z) ]

  -- ---- one test after another
  all_tests : (b₃ b₄ b₅ b₀ b₁ b₂ : Bool) → is_over 3 pos_sort f s ≡ b₃ → is_over 4 nat_sort f s ≡ b₄ → is_over 5 pos_sort f s ≡ b₅ → is_over 0 pos_sort f s ≡ b₀ → is_over 1 nat_sort f s ≡ b₁ → is_over 2 int_sort f s ≡ b₂
      → Merged (outcome b₃ (b₄ || b₅) (b₀ || (b₁ || b₂)))
  all_tests true b₄ b₅ b₀ b₁ b₂ e₃ e₄ e₅ e₀ e₁ e₂ = to_nat true (b₄ || b₅) (b₀ || (b₁ || b₂)) refl e₃
  all_tests false true b₅ b₀ b₁ b₂ e₃ e₄ e₅ e₀ e₁ e₂ = int_from_nat false true (b₀ || (b₁ || b₂)) refl refl e₄
  all_tests false false true b₀ b₁ b₂ e₃ e₄ e₅ e₀ e₁ e₂ = int_from_pos false true (b₀ || (b₁ || b₂)) refl refl e₅
  all_tests false false false true b₁ b₂ e₃ e₄ e₅ e₀ e₁ e₂ = negated_is 0 pos_sort positive (minus_positive_is g table) (positive_is g table) (sign_of positive) e₀ false false true refl refl refl
  all_tests false false false false true b₂ e₃ e₄ e₅ e₀ e₁ e₂ = negated_is 1 nat_sort natural (minus_natural_is g table) (natural_is g table) (sign_of natural) e₁ false false true refl refl refl
  all_tests false false false false false true e₃ e₄ e₅ e₀ e₁ e₂ = negated_is 2 int_sort integer (minus_integer_is g table) (integer_is g table) (sign_of integer) e₂ false false true refl refl refl
  all_tests false false false false false false e₃ e₄ e₅ e₀ e₁ e₂ = nothing_merges e₀ e₁ e₂ e₃ e₄ e₅

  numeral_merges : Merged (apply_to_numeral f s z)
  numeral_merges =
      all_tests (is_over 3 pos_sort f s) (is_over 4 nat_sort f s) (is_over 5 pos_sort f s) (is_over 0 pos_sort f s) (is_over 1 nat_sort f s) (is_over 2 int_sort f s) refl refl refl refl refl refl

pub merging_trees_merges_terms : MergingTreesMergesTerms
unfolding IsNoNumeral
merging_trees_merges_terms g table f (more (numeral s z) none) = numeral_merges g table f s z
merging_trees_merges_terms g table f none = sym (unmerged (symbol_under g f) terms.none tt)
merging_trees_merges_terms g table f (more (variable v) ts) = sym (unmerged (symbol_under g f) (terms_under g (more (variable v) ts)) tt)
merging_trees_merges_terms g table f (more (function h us) ts) = sym (unmerged (symbol_under g f) (terms_under g (more (function h us) ts)) tt)
merging_trees_merges_terms g table f (more (numeral s z) (more t ts)) = sym (unmerged (symbol_under g f) (terms_under g (more (numeral s z) (more t ts))) tt)

-- ---- putting in
module _ (g : Sig) (table : IsTable g) (e : VarId → Tree) where
  abbrev put_under : ℕ → Term
  put_under v = term_under g (e (record { 0 = v }))

  mutual
    put_goes : (t : Tree) → term_under g (put_tree e t) ≡ put put_under (term_under g t)
    put_goes (variable v) = refl
    put_goes (numeral a z) = refl
    put_goes (function f ts) = merging_trees_merges_terms g table f (put_trees e ts) ∙ ap (apply (symbol_under g f)) (puts_go ts)

    puts_go : (ts : Trees) → terms_under g (put_trees e ts) ≡ put_all put_under (terms_under g ts)
    puts_go none = refl
    puts_go (more t ts) = let p = put_goes t in let q = puts_go ts in (λ i. terms.more (p i) (q i))

pub putting_in_trees_puts_in_terms : PuttingInTreesPutsInTerms
putting_in_trees_puts_in_terms g table e t = put_goes g table e t

-- ---- sorts
module _ (g : Sig) (table : IsTable g) where
  number_is : (a : SortId) (z : ℤ) → IsNumberIn a z → IsNumberOf (sort_under g a) z
  number_is a z (inl h) = subst (λ s. IsNumberOf s z) (sym (ap (sort_under g) h.0 ∙ positive_is g table)) h.1
  number_is a z (inr (inl h)) = subst (λ s. IsNumberOf s z) (sym (ap (sort_under g) h.0 ∙ natural_is g table)) h.1
  number_is a z (inr (inr h)) = subst (λ s. IsNumberOf s z) (sym (ap (sort_under g) h ∙ integer_is g table)) tt

  number_within : (a : SortId) (z : ℤ) → IsNumberIn a z → a.0 < length g.sorts
  number_within a z (inl h) = rw h.0 (positive_within g table)
  number_within a z (inr (inl h)) = rw h.0 (natural_within g table)
  number_within a z (inr (inr h)) = rw h (integer_within g table)

  variable_declared : (vs : List Variable) (v : ℕ) (x : Variable) (s : SortId) → slice_get vs v ≡ Some x → x.sort ≡ s → Declares (map (λ (y : Variable). sort_under g y.sort) vs) v (sort_under g s)
  variable_declared [] v x s at e = cc
  variable_declared (y ∷ vs) zero x s at e = let p : y ≡ x = cc in ap (λ (u : Variable). sort_under g u.sort) p ∙ ap (sort_under g) e
  variable_declared (y ∷ vs) (suc v) x s at e = variable_declared vs v x s at e

  stands_unmerged : (f : FunId) (ts : Trees) → apply_tree f ts ≡ function f ts → apply (symbol_under g f) (terms_under g ts) ≡ terms.application (symbol_under g f) (terms_under g ts)
  stands_unmerged f ts e = sym (merging_trees_merges_terms g table f ts) ∙ ap (term_under g) e

  mutual
    sorted : (t : Tree) (s : SortId) → HasTreeSort g t s → HasSort (data_meant g) (variable_sorts g) (term_under g t) (sort_under g s)
    sorted (variable v) s h = variable_declared g.variables v.0 h.0 s h.1 h.2
    sorted (numeral a z) s h = (ap (sort_under g) h.0, subst (λ b. HasNumeral b z) (ap (sort_under g) h.0) (number_is a z h.1.0, h.1.1))
    sorted (function f ts) s h =
        let fits = symbol_fits g table f h.0 h.1 in
        (fits.0, subst (HaveSorts (data_meant g) (variable_sorts g) (terms_under g ts)) (sym fits.1) (all_sorted ts (arguments_of h.0) h.3), fits.2 ∙ ap (sort_under g) h.2, stands_unmerged f ts h.4)

    all_sorted : (ts : Trees) (ss : List SortId) → HaveTreeSorts g ts ss → HaveSorts (data_meant g) (variable_sorts g) (terms_under g ts) (map (sort_under g) ss)
    all_sorted none [] h = tt
    all_sorted none (s ∷ ss) h = absurd h
    all_sorted (more t ts) [] h = absurd h
    all_sorted (more t ts) (s ∷ ss) h = (sorted t s h.0, all_sorted ts ss h.1)

  mutual
    within : (t : Tree) (s : SortId) → HasTreeSort g t s → IsTreeWithin g t
    within (variable v) s h = tt
    within (numeral a z) s h = number_within a z h.1.0
    within (function f ts) s h = (slice_get_within g.functions f.0 h.0 h.1, all_within ts (arguments_of h.0) h.3)

    all_within : (ts : Trees) (ss : List SortId) → HaveTreeSorts g ts ss → AreTreesWithin g ts
    all_within none ss h = tt
    all_within (more t ts) [] h = absurd h
    all_within (more t ts) (s ∷ ss) h = (within t s h.0, all_within ts ss h.1)

pub sorted_trees_mean_sorted_terms : SortedTreesMeanSortedTerms
sorted_trees_mean_sorted_terms g table t s h = sorted g table t s h

pub sorted_trees_are_within : SortedTreesAreWithin
sorted_trees_are_within g table t s h = within g table t s h
