-- Pairs of equations in code that exclude one another.
use Rattle.std.proofs.Common.{◌≡◌, ℕ, zero, suc, ◌<◌, ◌≤◌, ◌+◌, ◌==◌, ◌⊎◌, inl, inr, ⊎_elim, List, [], ◌∷◌, ◌++◌, length, map, get_or, Bool, true, false, refl, sym, ap, ap₂, ◌∙◌, subst, arith, append_assoc, append-nil}
use Rattle.std.specs.Prelude.{Option, None, Some, Contains, slice_get}
use Rattle.std.specs.Bool.{Decides}
use Rattle.std.specs.List.{All}
use Rattle.std.proofs.lemmas.Bool.Decides.{eqb_tells}
use Rattle.std.proofs.lemmas.List.Elements.{All-nil, All-cons, All-append}
use Rattle.std.proofs.lemmas.Option.{slice_get_read}
use Rattle.data_theory.specs.declared.ids.TermId.{TermId}
use Rattle.data_theory.specs.declared.ids.FunId.{FunId}
use Rattle.data_theory.specs.Terms as terms
use Rattle.data_theory.specs.Terms.{Symbol, Term, Terms, variables_of}
use Rattle.data_theory.specs.Declarations.{Data}
use Rattle.data_theory.specs.Environments.{AreDistinct}
use Rattle.data_theory.specs.Equations.{falseᵗ, !ᵗ◌}
use Rattle.data_theory.specs.Provable.{Equation}
use Rattle.data_theory.specs.Rewriting.{IsNoVariable}
use Rattle.data_theory.specs.Signature.{Sig}
use Rattle.data_theory.specs.IdData.{data_meant}
use Rattle.data_theory.specs.IdTerms.{symbol_under, term_under, terms_under}
use Rattle.data_theory.specs.IdTrees.{Tree, Trees, variable, numeral, function, none, more, trees_of}
use Rattle.term_pool.specs.declared.terms.Head.TheVariants.{Fun}
use Rattle.term_pool.specs.HeadTrees.{tree_at, trees_at, written_tree}
use Rattle.term_pool.specs.declared.terms.Equation.{Equation as Written}
use Rattle.eqn_check.specs.declared.signs.Sign.{Sign}
use Rattle.eqn_check.specs.declared.signs.Sign.TheVariants as signs
use Rattle.eqn_check.specs.declared.filled.Filling.{Filling}
use Rattle.eqn_check.specs.declared.filled.Filling.TheVariants.{First, Second}
use Rattle.eqn_check.specs.declared.filled.FilledTerm.{FilledTerm}
use Rattle.eqn_check.specs.declared.filled.Opposites.{Opposites}
use Rattle.eqn_check.specs.Conditions.{parts, Reading, reading, AreContrary, AreContraryReadings, CantAllHold, IsFalseByForm, IsFalseReading}
use Rattle.eqn_check.specs.Comparisons.{sign_of, IsNotBinary, IsSides}
use Rattle.eqn_check.specs.Exclusion.{filled, all_filled, first_variable, second_variable, StandsOpposite, AreMostGeneral, joined_parts, Exclude}
use Rattle.eqn_check.specs.ExcludedPairs.{IsFilledTerm, CantHoldWith, AreConjuncts, AddsParts, PushesParts, parts_at, AreOppositesOf, DecidesExclusion}
use Rattle.eqn_check.specs.Fillings.{opposite_of, first_put, second_or, second_put, filling, filled_at, with_filling, AreOppositesOver, IsResolved}
use Rattle.eqn_check.specs.Judged.{term_at, IsTerm, IsEquationOf}
use Rattle.eqn_check.proofs.ComparisonLemmas.{sides_within, is_application, no_application}
use Rattle.eqn_check.proofs.Deciding.{decides_no, decides_yes, decides_like}
use Rattle.eqn_check.proofs.Elements.{contains_front, contains_behind, front_or_behind, contains_nothing_of, contains_at, place_of_element}
use Rattle.eqn_check.proofs.ExclusionLemmas.{opposite_once, opposite_or_not, is_variable_or_not}
use Rattle.eqn_check.proofs.JudgedLemmas.{not_so}

-- ---- what signs tell
pub is_falsity : (f : Symbol) → sign_of f ≡ signs.False → f ≡ terms.falsity
is_falsity terms.falsity e = refl
is_falsity (terms.comparison terms.less s) e = cc
is_falsity (terms.comparison terms.at_most s) e = cc
is_falsity (terms.comparison terms.greater s) e = cc
is_falsity (terms.comparison terms.at_least s) e = cc
is_falsity (terms.arithmetic terms.subtract ss to) e = cc
is_falsity (terms.arithmetic terms.to_positive ss to) e = cc
is_falsity (terms.arithmetic terms.to_natural ss to) e = cc
is_falsity _ e = cc

pub is_negation : (f : Symbol) → sign_of f ≡ signs.Not → f ≡ terms.negation
is_negation terms.negation e = refl
is_negation (terms.comparison terms.less s) e = cc
is_negation (terms.comparison terms.at_most s) e = cc
is_negation (terms.comparison terms.greater s) e = cc
is_negation (terms.comparison terms.at_least s) e = cc
is_negation (terms.arithmetic terms.subtract ss to) e = cc
is_negation (terms.arithmetic terms.to_positive ss to) e = cc
is_negation (terms.arithmetic terms.to_natural ss to) e = cc
is_negation _ e = cc

pub is_conjunction : (f : Symbol) → sign_of f ≡ signs.And → f ≡ terms.conjunction
is_conjunction terms.conjunction e = refl
is_conjunction (terms.comparison terms.less s) e = cc
is_conjunction (terms.comparison terms.at_most s) e = cc
is_conjunction (terms.comparison terms.greater s) e = cc
is_conjunction (terms.comparison terms.at_least s) e = cc
is_conjunction (terms.arithmetic terms.subtract ss to) e = cc
is_conjunction (terms.arithmetic terms.to_positive ss to) e = cc
is_conjunction (terms.arithmetic terms.to_natural ss to) e = cc
is_conjunction _ e = cc

abbrev symbol_in : Term → Symbol
symbol_in (terms.application f ts) = f
symbol_in _ = terms.truth

abbrev terms_in : Term → Terms
terms_in (terms.application f ts) = ts
terms_in _ = terms.none

-- ---- readings
pub no_first_reading : (g : Data) (t u : Term) → reading t ≡ None → Decides false ((r : Reading) × (s : Reading) × (reading t ≡ Some r) × (reading u ≡ Some s) × AreContraryReadings r s)
no_first_reading g t u e = decides_no (λ h. let d : None ≡ Some h.0 = sym e ∙ h.2 in cc)

pub no_second_reading : (g : Data) (t u : Term) → reading u ≡ None → Decides false ((r : Reading) × (s : Reading) × (reading t ≡ Some r) × (reading u ≡ Some s) × AreContraryReadings r s)
no_second_reading g t u e = decides_no (λ h. let d : None ≡ Some h.1 = sym e ∙ h.3 in cc)

some_same : {A : Type 0} {x y : A} → Some x ≡ Some y → x ≡ y
some_same e = cc

pub both_readings : (t u : Term) (r s : Reading) → reading t ≡ Some r → reading u ≡ Some s → (b : Bool) → Decides b (AreContraryReadings r s) → Decides b ((r : Reading) × (s : Reading) × (reading t ≡ Some r) × (reading u ≡ Some s) × AreContraryReadings r s)
both_readings t u r s e f b d = decides_like b (λ c. (r, s, e, f, c)) (λ h. there h.0 h.1 h.2 h.3 h.4) d
  where
    there : (x y : Reading) → reading t ≡ Some x → reading u ≡ Some y → AreContraryReadings x y → AreContraryReadings r s
    there x y i j c =
        subst (λ z. AreContraryReadings z s) (some_same (sym i ∙ e)) (subst (λ z. AreContraryReadings x z) (some_same (sym j ∙ f)) c)

pub no_false_reading : (g : Data) (t : Term) → reading t ≡ None → Decides false ((r : Reading) × (reading t ≡ Some r) × IsFalseReading g r)
no_false_reading g t e = decides_no (λ h. let d : None ≡ Some h.0 = sym e ∙ h.1 in cc)

pub false_reading : (g : Data) (t : Term) (r : Reading) → reading t ≡ Some r → (b : Bool) → Decides b (IsFalseReading g r) → Decides b ((r : Reading) × (reading t ≡ Some r) × IsFalseReading g r)
false_reading g t r e b d = decides_like b (λ c. (r, e, c)) (λ h. there h.0 h.1 h.2) d
  where
    there : (x : Reading) → reading t ≡ Some x → IsFalseReading g x → IsFalseReading g r
    there x i c = subst (IsFalseReading g) (some_same (sym i ∙ e)) c

pub empty_so : {A : Type 0} (xs : List A) (b : Bool) (n : ℕ) → b ≡ (n == 0) → n ≡ length xs → Decides b (xs ≡ [])
empty_so xs b n is l = elim (eqb_tells n 0) [
  | inl h ↦ ((λ e. no_items xs (let k = h.1 in omega (arith, l, k))), (λ e. is ∙ h.0))
  | inr h ↦ ((λ e. absurd (let f : true ≡ false = sym e ∙ (is ∙ h.0) in cc)), (λ e. absurd (h.1 (l ∙ ap length e))))
]
  where
    no_items : {A : Type 0} (ys : List A) → length ys ≡ 0 → ys ≡ []
    no_items [] e = refl
    no_items (y ∷ ys) e = absurd (omega (arith, e))

-- ---- parts that are `false` or a negation
module _ (sig : Sig) (ts : List Tree) (o : Opposites) (part at : FilledTerm) (is : IsResolved sig ts o part at) where
  -- it is no application
  pub no_falsity : ((f : FunId) (us : Trees) → tree_at ts at.term ≡ function f us → ⊥) → Decides false (filled_at sig ts o part ≡ falseᵗ)
  no_falsity n = decides_no (λ e. no_application sig ts o part at is n terms.falsity terms.none e)

  pub no_negation : (t : Term) → ((f : FunId) (us : Trees) → tree_at ts at.term ≡ function f us → ⊥) → Decides false (filled_at sig ts o part ≡ !ᵗ t)
  no_negation t n = decides_no (λ e. no_application sig ts o part at is n terms.negation (terms.more t terms.none) e)

  module _ (f : FunId) (args : List TermId) (tree : tree_at ts at.term ≡ written_tree (Fun f) (trees_at ts args)) (s : Sign) (signed : s ≡ sign_of (symbol_under sig f)) where
    meant_part : filled_at sig ts o part ≡ terms.application (symbol_under sig f) (all_filled (filling sig ts o at.by) (terms_under sig (trees_of (trees_at ts args))))
    meant_part = is_application sig ts o part at is f (trees_of (trees_at ts args)) tree

    pub other_sign : (s ≡ signs.False → ⊥) → Decides false (filled_at sig ts o part ≡ falseᵗ)
    other_sign n = decides_no (λ e. n (signed ∙ ap sign_of (ap symbol_in (sym meant_part ∙ e))))

    pub false_sign : s ≡ signs.False → (b : Bool) → Decides b (args ≡ []) → Decides b (filled_at sig ts o part ≡ falseᵗ)
    false_sign y b d = decides_like b
        (λ e. meant_part ∙ ap₂ (λ (x : Symbol) (l : List TermId). terms.application x (all_filled (filling sig ts o at.by) (terms_under sig (trees_of (trees_at ts l))))) (is_falsity (symbol_under sig f) (sym signed ∙ y)) e)
        (λ e. no_arguments args (ap terms_in (sym meant_part ∙ e))) d
      where
        no_arguments : (l : List TermId) → all_filled (filling sig ts o at.by) (terms_under sig (trees_of (trees_at ts l))) ≡ terms.none → l ≡ []
        no_arguments [] e = refl
        no_arguments (x ∷ l) e = cc

    module _ (other : FilledTerm) where
      abbrev negated : Term
      negated = !ᵗ filled_at sig ts o other

      pub no_not : (s ≡ signs.Not → ⊥) → Decides false (filled_at sig ts o part ≡ negated)
      no_not n = decides_no (λ e. n (signed ∙ ap sign_of (ap symbol_in (sym meant_part ∙ e))))

      pub not_one : (length args ≡ 1 → ⊥) → Decides false (filled_at sig ts o part ≡ negated)
      not_one n = decides_no (λ e. n (one_argument args (ap terms_in (sym meant_part ∙ e))))
        where
          one_argument : (l : List TermId) → all_filled (filling sig ts o at.by) (terms_under sig (trees_of (trees_at ts l))) ≡ terms.more (filled_at sig ts o other) terms.none → length l ≡ 1
          one_argument [] e = cc
          one_argument (x ∷ []) e = refl
          one_argument (x ∷ y ∷ l) e = cc

      pub of_one : (x : TermId) → args ≡ x ∷ [] → s ≡ signs.Not → (b : Bool) → Decides b (filled_at sig ts o (with_filling at.by x) ≡ filled_at sig ts o other) → Decides b (filled_at sig ts o part ≡ negated)
      of_one x only y b d = decides_like b
          (λ e. meant_one ∙ ap (λ z. !ᵗ z) e)
          (λ e. ap argument_in (sym meant_one ∙ e)) d
        where
          meant_one : filled_at sig ts o part ≡ !ᵗ filled_at sig ts o (with_filling at.by x)
          meant_one = meant_part ∙ ap₂ (λ (c : Symbol) (l : List TermId). terms.application c (all_filled (filling sig ts o at.by) (terms_under sig (trees_of (trees_at ts l))))) (is_negation (symbol_under sig f) (sym signed ∙ y)) only

          argument_in : Term → Term
          argument_in (terms.application c (terms.more z zs)) = z
          argument_in _ = terms.variable 0

pub only_one : (args : List TermId) (x : TermId) → length args ≡ 1 → x ≡ get_or args 0 x → args ≡ x ∷ []
only_one [] x l e = absurd (omega (arith, l))
only_one (y ∷ []) x l e = ap (λ (z : TermId). z ∷ []) (sym e)
only_one (y ∷ z ∷ args) x l e = absurd (omega (arith, l))

-- ---- one part after another
module _ (sig : Sig) (ts : List Tree) (o : Opposites) where
  abbrev pub NoneContrary : FilledTerm → List FilledTerm → ℕ → Type 0
  NoneContrary f others n = (j : ℕ) (u : FilledTerm) → j < n → slice_get others j ≡ Some u → AreContrary (filled_at sig ts o f) (filled_at sig ts o u) → ⊥

  abbrev pub NoneCant : List FilledTerm → ℕ → Type 0
  NoneCant fs n = (j : ℕ) (u : FilledTerm) → j < n → slice_get fs j ≡ Some u → CantHoldWith sig ts o u fs → ⊥

one_place_more : {A : Type 0} (P : A → Type 0) (xs : List A) (n : ℕ) (x : A) → slice_get xs n ≡ Some x → (P x → ⊥) → ((j : ℕ) (u : A) → j < n → slice_get xs j ≡ Some u → P u → ⊥) → (j : ℕ) (u : A) → j < n + 1 → slice_get xs j ≡ Some u → P u → ⊥
one_place_more P xs n x at never before j u l at_u p = elim (eqb_tells j n) [
  | inl h ↦ never (subst P (some_same (sym (subst (λ k. slice_get xs k ≡ Some u) h.1 at_u) ∙ at)) p)
  | inr h ↦ before j u (let d : j ≡ n → ⊥ = h.1 in omega arith) at_u p
]

within_list : {A : Type 0} (xs : List A) (k : ℕ) (x : A) → slice_get xs k ≡ Some x → k < length xs
within_list [] k x e = cc
within_list (y ∷ xs) zero x e = omega arith
within_list (y ∷ xs) (suc k) x e = omega (arith, within_list xs k x e)

none_at_all : {A : Type 0} (P : A → Type 0) (xs : List A) (n : ℕ) → length xs ≤ n → ((j : ℕ) (u : A) → j < n → slice_get xs j ≡ Some u → P u → ⊥) → (x : A) → Contains xs x → P x → ⊥
none_at_all P xs n l before x i p = let k = place_of_element xs x i in let m = within_list xs k.0 x k.1 in before k.0 x (omega (arith, l, m)) k.1 p

module _ {A : Type 0} (P : A → Type 0) (xs : List A) (n : ℕ) (x : A) (l : n < length xs) (here : x ≡ get_or xs n x) (b : Bool) (so : Decides b (P x)) where
  stands_here : slice_get xs n ≡ Some x
  stands_here = slice_get_read xs (length xs) n x refl l here

  pub found_here : b ≡ true → Contains xs x × P x
  found_here e = (contains_at xs n x stands_here, so.0 e)

  pub none_so_far : b ≡ false → ((j : ℕ) (u : A) → j < n → slice_get xs j ≡ Some u → P u → ⊥) → (j : ℕ) (u : A) → j < n + 1 → slice_get xs j ≡ Some u → P u → ⊥
  none_so_far e before = one_place_more P xs n x stands_here (not_so b so e) before

module _ (sig : Sig) (ts : List Tree) (o : Opposites) where
  pub one_contrary : (f u : FilledTerm) (others : List FilledTerm) → Contains others u × AreContrary (filled_at sig ts o f) (filled_at sig ts o u) → Decides true (CantHoldWith sig ts o f others)
  one_contrary f u others c = decides_yes (inr (u, c.0, c.1))

  pub none_contrary : (f : FilledTerm) (others : List FilledTerm) (n : ℕ) → length others ≤ n → (IsFalseByForm (data_meant sig) (filled_at sig ts o f) → ⊥) → NoneContrary sig ts o f others n → Decides false (CantHoldWith sig ts o f others)
  none_contrary f others n l never before =
      decides_no (λ h. ⊎_elim never (λ c. none_at_all (λ (u : FilledTerm). AreContrary (filled_at sig ts o f) (filled_at sig ts o u)) others n l before c.0 c.1 c.2) h)

  -- ---- all of them
  filled_from : (fs : List FilledTerm) (t : Term) → Contains (map (filled_at sig ts o) fs) t → (f : FilledTerm) × Contains fs f × (filled_at sig ts o f ≡ t)
  filled_from [] t i = absurd (contains_nothing_of t i)
  filled_from (f ∷ fs) t i = ⊎_elim
      (λ e. (f, contains_front f fs, e))
      (λ j. let r = filled_from fs t j in (r.0, contains_behind r.0 f fs r.1, r.2)) (front_or_behind t (filled_at sig ts o f) (map (filled_at sig ts o) fs) i)

  filled_in : (fs : List FilledTerm) (f : FilledTerm) → Contains fs f → Contains (map (filled_at sig ts o) fs) (filled_at sig ts o f)
  filled_in [] f i = absurd (contains_nothing_of f i)
  filled_in (x ∷ fs) f i = ⊎_elim
      (λ e. subst (λ (z : FilledTerm). Contains (map (filled_at sig ts o) (x ∷ fs)) (filled_at sig ts o z)) e (contains_front (filled_at sig ts o x) (map (filled_at sig ts o) fs)))
      (λ j. contains_behind (filled_at sig ts o f) (filled_at sig ts o x) (map (filled_at sig ts o) fs) (filled_in fs f j)) (front_or_behind f x fs i)

  pub one_cant : (fs : List FilledTerm) (f : FilledTerm) → Contains fs f × CantHoldWith sig ts o f fs → Decides true (CantAllHold (data_meant sig) (map (filled_at sig ts o) fs))
  one_cant fs f (i, inl w) = decides_yes (inl (filled_at sig ts o f, filled_in fs f i, w))
  one_cant fs f (i, inr c) = decides_yes (inr (filled_at sig ts o f, filled_at sig ts o c.0, filled_in fs f i, filled_in fs c.0 c.1, c.2))

  pub none_cant : (fs : List FilledTerm) (n : ℕ) → length fs ≤ n → NoneCant sig ts o fs n → Decides false (CantAllHold (data_meant sig) (map (filled_at sig ts o) fs))
  none_cant fs n l before = decides_no by_case
    where
      by_case : CantAllHold (data_meant sig) (map (filled_at sig ts o) fs) → ⊥
      by_case (inl w) =
          let f = filled_from fs w.0 w.1 in
          none_at_all (λ (u : FilledTerm). CantHoldWith sig ts o u fs) fs n l before f.0 f.1 (inl (subst (IsFalseByForm (data_meant sig)) (sym f.2) w.2))
      by_case (inr c) =
          let f = filled_from fs c.0 c.2 in
          let u = filled_from fs c.1 c.3 in
          none_at_all (λ (z : FilledTerm). CantHoldWith sig ts o z fs) fs n l before f.0 f.1
          (inr (u.0, u.1, subst (λ z. AreContrary z (filled_at sig ts o u.0)) (sym f.2) (subst (λ z. AreContrary c.0 z) (sym u.2) c.4)))

-- ---- parts
other_parts : (s : Symbol) (us : Terms) → (s ≡ terms.conjunction → (a b : Term) → us ≡ terms.more a (terms.more b terms.none) → ⊥) → parts (terms.application s us) ≡ terms.application s us ∷ []
other_parts terms.conjunction terms.none n = refl
other_parts terms.conjunction (terms.more a terms.none) n = refl
other_parts terms.conjunction (terms.more a (terms.more b terms.none)) n = absurd (n refl a b refl)
other_parts terms.conjunction (terms.more a (terms.more b (terms.more c cs))) n = refl
other_parts _ us n = refl

module _ (sig : Sig) (ts : List Tree) where
  parts_of_tree : (t : Tree) → IsNotBinary t → parts (term_under sig t) ≡ term_under sig t ∷ []
  parts_of_tree (variable v) n = refl
  parts_of_tree (numeral a z) n = refl
  parts_of_tree (function f none) n = other_parts (symbol_under sig f) terms.none (λ e a b i. cc)
  parts_of_tree (function f (more x none)) n = other_parts (symbol_under sig f) (terms.more (term_under sig x) terms.none) (λ e a b i. cc)
  parts_of_tree (function f (more x (more y none))) n = absurd (n f x y refl)
  parts_of_tree (function f (more x (more y (more z zs)))) n = other_parts (symbol_under sig f) (terms_under sig (more x (more y (more z zs)))) (λ e a b i. cc)

  pub not_binary : (t : TermId) → IsNotBinary (tree_at ts t) → parts (term_at sig ts t) ≡ term_at sig ts t ∷ []
  not_binary t n = parts_of_tree (tree_at ts t) n

  module _ (t : TermId) (f : FunId) (a b : TermId) (sides : IsSides ts t f a b) (s : Sign) (signed : s ≡ sign_of (symbol_under sig f)) where
    meant : term_at sig ts t ≡ terms.application (symbol_under sig f) (terms.more (term_at sig ts a) (terms.more (term_at sig ts b) terms.none))
    meant = ap (term_under sig) sides.is

    pub conjuncts_are : IsTerm sig ts t → s ≡ signs.And → AreConjuncts sig ts t a b
    conjuncts_are i e =
        let w = sides_within sig ts t f a b i sides in
        record {
          one_in = w.1;
          other_in = w.2;
          parts = ap parts (meant ∙ ap (λ z. terms.application z (terms.more (term_at sig ts a) (terms.more (term_at sig ts b) terms.none))) (is_conjunction (symbol_under sig f) (sym signed ∙ e)));
          smaller = sides.other_less;
        }

    pub no_conjuncts : (s ≡ signs.And → ⊥) → parts (term_at sig ts t) ≡ term_at sig ts t ∷ []
    no_conjuncts n = subst (λ z. parts z ≡ z ∷ []) (sym meant) (other_parts (symbol_under sig f) (terms.more (term_at sig ts a) (terms.more (term_at sig ts b) terms.none)) (λ e x y i. n (signed ∙ ap sign_of e)))

  map_append : {A B : Type 0} (f : A → B) (xs ys : List A) → map f (xs ++ ys) ≡ map f xs ++ map f ys
  map_append f [] ys = refl
  map_append f (x ∷ xs) ys = ap (λ zs. f x ∷ zs) (map_append f xs ys)

  pub nothing_pushed : (condition : TermId) (by : Filling) (old : List FilledTerm) → IsTerm sig ts condition → PushesParts sig ts condition condition by old old
  nothing_pushed condition by old i = record { added = []; behind = sym (append-nil old); within = All-nil (IsFilledTerm sig ts); rest_in = i; parts = λ o. refl }

  module _ (condition rest : TermId) (by : Filling) (old new : List FilledTerm) (so_far : PushesParts sig ts condition rest by old new) where
    pub part_pushed : (a b : TermId) → AreConjuncts sig ts rest a b → (next : List FilledTerm) → next ≡ new ++ with_filling by a ∷ [] → PushesParts sig ts condition b by old next
    part_pushed a b c next e = record {
      added = so_far.added ++ with_filling by a ∷ [];
      behind = e ∙ (ap (λ (l : List FilledTerm). l ++ with_filling by a ∷ []) so_far.behind ∙ append_assoc old so_far.added (with_filling by a ∷ []));
      within = All-append (IsFilledTerm sig ts) so_far.added (with_filling by a ∷ []) so_far.within (All-cons (IsFilledTerm sig ts) (with_filling by a) [] c.one_in (All-nil (IsFilledTerm sig ts)));
      rest_in = c.other_in;
      parts = λ o.
          let later = map (filled (filling sig ts o by)) (parts (term_at sig ts b)) in
          ap (λ (l : List Term). l ++ later) (map_append (filled_at sig ts o) so_far.added (with_filling by a ∷ []))
          ∙ (append_assoc (map (filled_at sig ts o) so_far.added) (filled_at sig ts o (with_filling by a) ∷ []) later
          ∙ (ap (λ (l : List Term). map (filled_at sig ts o) so_far.added ++ map (filled (filling sig ts o by)) l) (sym c.parts) ∙ so_far.parts o));
    }

    pub last_pushed : parts (term_at sig ts rest) ≡ term_at sig ts rest ∷ [] → (next : List FilledTerm) → next ≡ new ++ with_filling by rest ∷ [] → AddsParts sig ts condition by old next
    last_pushed c next e = record {
      added = so_far.added ++ with_filling by rest ∷ [];
      behind = e ∙ (ap (λ (l : List FilledTerm). l ++ with_filling by rest ∷ []) so_far.behind ∙ append_assoc old so_far.added (with_filling by rest ∷ []));
      within = All-append (IsFilledTerm sig ts) so_far.added (with_filling by rest ∷ []) so_far.within (All-cons (IsFilledTerm sig ts) (with_filling by rest) [] so_far.rest_in (All-nil (IsFilledTerm sig ts)));
      parts = λ o.
          map_append (filled_at sig ts o) so_far.added (with_filling by rest ∷ [])
          ∙ (ap (λ (l : List Term). map (filled_at sig ts o) so_far.added ++ map (filled (filling sig ts o by)) l) (sym c) ∙ so_far.parts o);
    }

  -- the parts of two conditions
  module _ (e f : Written) (old new : List FilledTerm) (first : AddsParts sig ts e.cond First [] old) (second : AddsParts sig ts f.cond Second old new) where
    pub both_within : All (IsFilledTerm sig ts) new
    both_within = subst (All (IsFilledTerm sig ts)) (sym second.behind) (All-append (IsFilledTerm sig ts) old second.added (subst (All (IsFilledTerm sig ts)) (sym first.behind) first.within) second.within)

    pub both_parts : (o : Opposites) → map (filled_at sig ts o) new ≡ parts_at sig ts o e f
    both_parts o =
        ap (map (filled_at sig ts o)) second.behind
        ∙ (map_append (filled_at sig ts o) old second.added
        ∙ ap₂ (λ (x y : List Term). x ++ y) (ap (map (filled_at sig ts o)) first.behind ∙ first.parts o) (second.parts o))

-- ---- the most general terms
mutual
  filled_same : (a b : ℕ → Term) → ((x : ℕ) → a x ≡ b x) → (t : Term) → filled a t ≡ filled b t
  filled_same a b h (terms.variable x) = h x
  filled_same a b h (terms.numeral s z) = refl
  filled_same a b h (terms.unknown d i) = refl
  filled_same a b h (terms.application f ts) = ap (terms.application f) (all_filled_same a b h ts)

  all_filled_same : (a b : ℕ → Term) → ((x : ℕ) → a x ≡ b x) → (us : Terms) → all_filled a us ≡ all_filled b us
  all_filled_same a b h terms.none = refl
  all_filled_same a b h (terms.more u us) = ap₂ terms.more (filled_same a b h u) (all_filled_same a b h us)

map_same : {A B : Type 0} (f g : A → B) → ((x : A) → f x ≡ g x) → (xs : List A) → map f xs ≡ map g xs
map_same f g h [] = refl
map_same f g h (x ∷ xs) = ap₂ (λ y ys. y ∷ ys) (h x) (map_same f g h xs)

module _ (p q : Term) (a b c d : ℕ → Term) (one : AreMostGeneral p q a b) (other : AreMostGeneral p q c d) where
  firsts_agree : (x : ℕ) → a x ≡ c x
  firsts_agree x = elim (opposite_or_not x p q) [
    | inl o ↦ one.first x o.0 o.1 ∙ sym (other.first x o.0 o.1)
    | inr n ↦ one.first_alone x n ∙ sym (other.first_alone x n)
  ]

  seconds_agree : (y : ℕ) → b y ≡ d y
  seconds_agree y = elim (opposite_or_not y q p) [
    | inl o ↦ by_kind o.0 o.1 (is_variable_or_not o.0)
    | inr n ↦ one.second_alone y n ∙ sym (other.second_alone y n)
  ]
    where
      by_kind : (t : Term) → StandsOpposite y q p t → ((x : ℕ) × (t ≡ terms.variable x)) ⊎ IsNoVariable t → b y ≡ d y
      by_kind t o (inl v) = let s = subst (StandsOpposite y q p) v.1 o in one.second_renamed y v.0 s ∙ sym (other.second_renamed y v.0 s)
      by_kind t o (inr v) = one.second y t o v ∙ sym (other.second y t o v)

second_or_term : (y : ℕ) (t : Term) → IsNoVariable t → second_or y t ≡ filled first_variable t
second_or_term y (terms.variable x) n = absurd n
second_or_term y (terms.numeral s z) n = refl
second_or_term y (terms.unknown d i) n = refl
second_or_term y (terms.application f ts) n = refl

module _ (sig : Sig) (ts : List Tree) (e f : Written) (o : Opposites) (are : AreOppositesOf sig ts e.left f.left o) where
  pub opposites_over : AreOppositesOver sig ts o
  opposites_over = record { first = are.first.within; second = are.second.within }

  module _ (distinct : AreDistinct (variables_of (term_at sig ts e.left))) (other_distinct : AreDistinct (variables_of (term_at sig ts f.left))) where
    they_are_general : AreMostGeneral (term_at sig ts e.left) (term_at sig ts f.left) (filling sig ts o First) (filling sig ts o Second)
    they_are_general = record {
      first = λ x t s.
          let r = are.first.all x t s in
          ap (first_put sig ts x) r.1 ∙ ap (filled second_variable) (opposite_once x (term_at sig ts e.left) (term_at sig ts f.left) (term_at sig ts r.0) t distinct (are.first.sound x r.0 r.1) s);
      first_alone = λ x n. first_none x n (opposite_of o.first x) refl;
      second = λ y t s n.
          let r = are.second.all y t s in
          ap (second_put sig ts y) r.1 ∙ (ap (second_or y) (opposite_once y (term_at sig ts f.left) (term_at sig ts e.left) (term_at sig ts r.0) t other_distinct (are.second.sound y r.0 r.1) s) ∙ second_or_term y t n);
      second_renamed = λ y x s.
          let r = are.second.all y (terms.variable x) s in
          ap (second_put sig ts y) r.1 ∙ ap (second_or y) (opposite_once y (term_at sig ts f.left) (term_at sig ts e.left) (term_at sig ts r.0) (terms.variable x) other_distinct (are.second.sound y r.0 r.1) s);
      second_alone = λ y n. second_none y n (opposite_of o.second y) refl;
    }
      where
        first_none : (x : ℕ) → ((t : Term) → StandsOpposite x (term_at sig ts e.left) (term_at sig ts f.left) t → ⊥) → (r : Option TermId) → opposite_of o.first x ≡ r → first_put sig ts x (opposite_of o.first x) ≡ first_variable x
        first_none x n None s = ap (first_put sig ts x) s
        first_none x n (Some t) s = absurd (n (term_at sig ts t) (are.first.sound x t s))

        second_none : (y : ℕ) → ((t : Term) → StandsOpposite y (term_at sig ts f.left) (term_at sig ts e.left) t → ⊥) → (r : Option TermId) → opposite_of o.second y ≡ r → second_put sig ts y (opposite_of o.second y) ≡ second_variable y
        second_none y n None s = ap (second_put sig ts y) s
        second_none y n (Some t) s = absurd (n (term_at sig ts t) (are.second.sound y t s))

  -- ---- the answer
  abbrev AreSameRights : Type 0
  AreSameRights = filled_at sig ts o (with_filling First e.right) ≡ filled_at sig ts o (with_filling Second f.right)

  module _ (p q : Equation) (p_is : IsEquationOf sig ts e p) (q_is : IsEquationOf sig ts f q) (distinct : AreDistinct (variables_of p.left)) (other_distinct : AreDistinct (variables_of q.left)) where
    general : AreMostGeneral p.left q.left (filling sig ts o First) (filling sig ts o Second)
    general = subst (λ t. AreMostGeneral t q.left (filling sig ts o First) (filling sig ts o Second)) (sym p_is.left)
        (subst (λ t. AreMostGeneral (term_at sig ts e.left) t (filling sig ts o First) (filling sig ts o Second)) (sym q_is.left)
        (they_are_general (subst (λ t. AreDistinct (variables_of t)) p_is.left distinct) (subst (λ t. AreDistinct (variables_of t)) q_is.left other_distinct)))

    rights : filled (filling sig ts o First) p.right ≡ filled_at sig ts o (with_filling First e.right)
    rights = ap (filled (filling sig ts o First)) p_is.right

    other_rights : filled (filling sig ts o Second) q.right ≡ filled_at sig ts o (with_filling Second f.right)
    other_rights = ap (filled (filling sig ts o Second)) q_is.right

    joined : joined_parts p q (filling sig ts o First) (filling sig ts o Second) ≡ parts_at sig ts o e f
    joined = ap₂ (λ (c d : Term). map (filled (filling sig ts o First)) (parts c) ++ map (filled (filling sig ts o Second)) (parts d)) p_is.condition q_is.condition

    same_rights_exclude : AreSameRights → Exclude (data_meant sig) p q
    same_rights_exclude s = record { into_first = filling sig ts o First; into_second = filling sig ts o Second; general = general; so = inl (rights ∙ (s ∙ sym other_rights)) }

    conditions_exclude : CantAllHold (data_meant sig) (parts_at sig ts o e f) → Exclude (data_meant sig) p q
    conditions_exclude c = record { into_first = filling sig ts o First; into_second = filling sig ts o Second; general = general; so = inr (subst (CantAllHold (data_meant sig)) (sym joined) c) }

    excluded_so : Exclude (data_meant sig) p q → AreSameRights ⊎ CantAllHold (data_meant sig) (parts_at sig ts o e f)
    excluded_so x = ⊎_elim
        (λ s. inl (sym rights ∙ (filled_same (filling sig ts o First) x.into_first firsts p.right ∙ (s ∙ (sym (filled_same (filling sig ts o Second) x.into_second seconds q.right) ∙ other_rights)))))
        (λ c. inr (subst (CantAllHold (data_meant sig)) (sym same_parts ∙ joined) c)) x.so
      where
        firsts : (y : ℕ) → filling sig ts o First y ≡ x.into_first y
        firsts = firsts_agree p.left q.left (filling sig ts o First) (filling sig ts o Second) x.into_first x.into_second general x.general

        seconds : (y : ℕ) → filling sig ts o Second y ≡ x.into_second y
        seconds = seconds_agree p.left q.left (filling sig ts o First) (filling sig ts o Second) x.into_first x.into_second general x.general

        same_parts : joined_parts p q (filling sig ts o First) (filling sig ts o Second) ≡ joined_parts p q x.into_first x.into_second
        same_parts = ap₂ (λ (u v : List Term). u ++ v) (map_same (filled (filling sig ts o First)) (filled x.into_first) (filled_same (filling sig ts o First) x.into_first firsts) (parts p.condition))
            (map_same (filled (filling sig ts o Second)) (filled x.into_second) (filled_same (filling sig ts o Second) x.into_second seconds) (parts q.condition))

  pub same_rights_told : AreSameRights → DecidesExclusion sig ts e f true
  same_rights_told s p q p_is q_is d k = decides_yes (same_rights_exclude p q p_is q_is d k s)

  pub conditions_told : (AreSameRights → ⊥) → (b : Bool) → Decides b (CantAllHold (data_meant sig) (parts_at sig ts o e f)) → DecidesExclusion sig ts e f b
  conditions_told n b c p q p_is q_is d k = decides_like b (conditions_exclude p q p_is q_is d k) (λ x. ⊎_elim (λ s. absurd (n s)) (λ h. h) (excluded_so p q p_is q_is d k x)) c
