-- The walk over patterns.
use Rattle.std.proofs.Common.{◌≡◌, ◌<◌, List, [], ◌∷◌, ◌++◌, Bool, refl, sym, ap, subst, append-nil}
use Rattle.std.specs.Bool.{Decides}
use Rattle.std.specs.List.{All}
use Rattle.std.proofs.lemmas.List.Elements.{All-nil, All-cons, All-head, All-tail, All-append}
use Rattle.data_theory.specs.declared.ids.TermId.{TermId}
use Rattle.data_theory.specs.declared.ids.FunId.{FunId}
use Rattle.data_theory.specs.Terms as terms
use Rattle.data_theory.specs.Terms.{Symbol, Term, Terms, truth, falsity, empty, cons, function}
use Rattle.data_theory.specs.Declarations as theory
use Rattle.data_theory.specs.Declarations.{Data, function_at}
use Rattle.data_theory.specs.Signature.{Sig}
use Rattle.data_theory.specs.IdData.{data_meant}
use Rattle.data_theory.specs.IdTerms.{symbol_under, term_under, terms_under}
use Rattle.data_theory.specs.IdTrees as trees
use Rattle.data_theory.specs.IdTrees.{Tree, Trees, trees_of}
use Rattle.term_pool.specs.declared.terms.Head.{Head}
use Rattle.term_pool.specs.declared.terms.Head.TheVariants.{Var, Num as Number, Fun}
use Rattle.term_pool.specs.HeadTrees.{tree_at, trees_at, written_tree}
use Rattle.eqn_check.specs.declared.roles.Role.TheVariants.{Constructor, Mapping}
use Rattle.eqn_check.specs.Judged.{term_at, IsTerm}
use Rattle.eqn_check.specs.Patterns.{IsConstructor, IsPattern, ArePatterns, IsLeftSide}
use Rattle.eqn_check.specs.Roles.{role_of, role_told, IsMappingSymbol, PatternsLeft}
use Rattle.eqn_check.proofs.TermLemmas.{arguments_are_terms}

-- ---- roles of symbols
told_constructor : (r : theory.Role) → Constructor ≡ role_told r → r ≡ theory.constructor
told_constructor theory.constructor e = refl
told_constructor (theory.projection c i) e = cc
told_constructor (theory.recogniser c) e = cc
told_constructor theory.mapping e = cc

told_mapping : (r : theory.Role) → Mapping ≡ role_told r → r ≡ theory.mapping
told_mapping theory.constructor e = cc
told_mapping (theory.projection c i) e = cc
told_mapping (theory.recogniser c) e = cc
told_mapping theory.mapping e = refl

pub constructor_symbol : (g : Data) (s : Symbol) → Constructor ≡ role_of g s → IsConstructor g s
constructor_symbol g truth e = tt
constructor_symbol g falsity e = tt
constructor_symbol g (empty s) e = tt
constructor_symbol g (cons s) e = tt
constructor_symbol g (function k) e = told_constructor (function_at g k).role e
constructor_symbol g _ e = cc

pub symbol_constructor : (g : Data) (s : Symbol) → IsConstructor g s → Constructor ≡ role_of g s
symbol_constructor g truth k = refl
symbol_constructor g falsity k = refl
symbol_constructor g (empty s) k = refl
symbol_constructor g (cons s) k = refl
symbol_constructor g (function n) k = sym (ap role_told k)
symbol_constructor g _ k = absurd k

pub mapping_symbol : (g : Data) (s : Symbol) → Mapping ≡ role_of g s → IsMappingSymbol g s
mapping_symbol g (function k) e = told_mapping (function_at g k).role e
mapping_symbol g _ e = cc

pub symbol_mapping : (g : Data) (s : Symbol) → IsMappingSymbol g s → Mapping ≡ role_of g s
symbol_mapping g (function n) k = sym (ap role_told k)
symbol_mapping g _ k = absurd k

-- ---- the walk
module _ (sig : Sig) (ts : List Tree) where
  left_of : {X : Type 0} (P : X → Type 0) (xs ys : List X) → All P (xs ++ ys) → All P xs
  left_of P [] ys h = All-nil P
  left_of P (x ∷ xs) ys h = All-cons P x xs (All-head P x (xs ++ ys) h) (left_of P xs ys (All-tail P x (xs ++ ys) h))

  right_of : {X : Type 0} (P : X → Type 0) (xs ys : List X) → All P (xs ++ ys) → All P ys
  right_of P [] ys h = h
  right_of P (x ∷ xs) ys h = right_of P xs ys (All-tail P x (xs ++ ys) h)

  abbrev Is : TermId → Type 0
  Is t = IsPattern (data_meant sig) (term_at sig ts t)

  pub first_left : (ids waiting : List TermId) → waiting ≡ ids → All (IsTerm sig ts) ids → PatternsLeft sig ts ids waiting
  first_left ids waiting e i = subst (PatternsLeft sig ts ids) (sym e) (record { within = i; patterns = λ a. a; all_patterns = λ a. a })

  all_of : (args : List TermId) → ArePatterns (data_meant sig) (terms_under sig (trees_of (trees_at ts args))) → All Is args
  all_of [] a = All-nil Is
  all_of (x ∷ args) a = All-cons Is x args a.0 (all_of args a.1)

  of_all : (args : List TermId) → All Is args → ArePatterns (data_meant sig) (terms_under sig (trees_of (trees_at ts args)))
  of_all [] a = tt
  of_all (x ∷ args) a = (All-head Is x args a, of_all args (All-tail Is x args a))

  module _ (ids waiting rest : List TermId) (next : TermId) (left : PatternsLeft sig ts ids waiting) (popped : waiting ≡ rest ++ next ∷ []) where
    pub popped_in : IsTerm sig ts next
    popped_in = All-head (IsTerm sig ts) next [] (right_of (IsTerm sig ts) rest (next ∷ []) (subst (All (IsTerm sig ts)) popped left.within))

    -- the term was replaced by these
    replaced : (added : List TermId) → All (IsTerm sig ts) added → (All Is added → Is next) → (Is next → All Is added) → PatternsLeft sig ts ids (rest ++ added)
    replaced added i there back = record {
      within = All-append (IsTerm sig ts) rest added (left_of (IsTerm sig ts) rest (next ∷ []) (subst (All (IsTerm sig ts)) popped left.within)) i;
      patterns = λ a. left.patterns (subst (All Is) (sym popped) (All-append Is rest (next ∷ []) (left_of Is rest added a) (All-cons Is next [] (there (right_of Is rest added a)) (All-nil Is))));
      all_patterns = λ a. let was = subst (All Is) popped (left.all_patterns a) in All-append Is rest added (left_of Is rest (next ∷ []) was) (back (All-head Is next [] (right_of Is rest (next ∷ []) was)));
    }

    no_function_pattern : (h : Head) (us : List Tree) → ((f : FunId) → h ≡ Fun f → ⊥) → IsPattern (data_meant sig) (term_under sig (written_tree h us))
    no_function_pattern (Var v) us n = tt
    no_function_pattern (Number s z) us n = tt
    no_function_pattern (Fun f) us n = absurd (n f refl)

    pub a_pattern_less : (h : Head) (us : List Tree) → tree_at ts next ≡ written_tree h us → ((f : FunId) → h ≡ Fun f → ⊥) → PatternsLeft sig ts ids rest
    a_pattern_less h us is n =
        subst (PatternsLeft sig ts ids) (append-nil rest)
        (replaced [] (All-nil (IsTerm sig ts)) (λ a. subst (λ t. IsPattern (data_meant sig) (term_under sig t)) (sym is) (no_function_pattern h us n)) (λ a. All-nil Is))

    module _ (f : FunId) (args : List TermId) (is : tree_at ts next ≡ written_tree (Fun f) (trees_at ts args)) where
      applied : Is next → IsConstructor (data_meant sig) (symbol_under sig f) × ArePatterns (data_meant sig) (terms_under sig (trees_of (trees_at ts args)))
      applied a = let x : IsPattern (data_meant sig) (term_under sig (trees.function f (trees_of (trees_at ts args)))) = subst (λ t. IsPattern (data_meant sig) (term_under sig t)) is a in x

      pub arguments_left : IsConstructor (data_meant sig) (symbol_under sig f) → All (λ (arg : TermId). arg.0 < next.0) args → (now : List TermId) → now ≡ rest ++ args → PatternsLeft sig ts ids now
      arguments_left k below now e = subst (PatternsLeft sig ts ids) (sym e)
          (replaced args (arguments_are_terms sig ts next popped_in f args is below)
          (λ a. subst (λ t. IsPattern (data_meant sig) (term_under sig t)) (sym is) (let x : IsPattern (data_meant sig) (term_under sig (trees.function f (trees_of (trees_at ts args)))) = (k, of_all args a) in x))
          (λ a. all_of args (applied a).1))

      pub no_pattern : (IsConstructor (data_meant sig) (symbol_under sig f) → ⊥) → All Is ids → ⊥
      no_pattern n a = n (applied (All-head Is next [] (right_of Is rest (next ∷ []) (subst (All Is) popped (left.all_patterns a))))).0

  pub none_left : (ids waiting : List TermId) → PatternsLeft sig ts ids waiting → waiting ≡ [] → All Is ids
  none_left ids waiting left e = left.patterns (subst (All Is) (sym e) (All-nil Is))

  -- ---- the root
  pub no_left_side : (term : TermId) (h : Head) (us : List Tree) → tree_at ts term ≡ written_tree h us → ((f : FunId) → h ≡ Fun f → ⊥) → IsLeftSide (data_meant sig) (term_at sig ts term) → ⊥
  no_left_side term h us is n l = by_head h us n (subst (λ t. IsLeftSide (data_meant sig) (term_under sig t)) is l)
    where
      by_head : (h : Head) (us : List Tree) → ((f : FunId) → h ≡ Fun f → ⊥) → IsLeftSide (data_meant sig) (term_under sig (written_tree h us)) → ⊥
      by_head (Var v) us n l = l
      by_head (Number s z) us n l = l
      by_head (Fun f) us n l = n f refl

  by_symbol : (s : Symbol) (us : Terms) → IsLeftSide (data_meant sig) (terms.application s us) → IsMappingSymbol (data_meant sig) s × ArePatterns (data_meant sig) us
  by_symbol (function k) us l = l
  by_symbol _ us l = absurd l

  of_symbol : (s : Symbol) (us : Terms) → IsMappingSymbol (data_meant sig) s → ArePatterns (data_meant sig) us → IsLeftSide (data_meant sig) (terms.application s us)
  of_symbol (function k) us m a = (m, a)
  of_symbol _ us m a = absurd m

  module _ (term : TermId) (f : FunId) (args : List TermId) (is : tree_at ts term ≡ written_tree (Fun f) (trees_at ts args)) where
    pub no_mapping : (IsMappingSymbol (data_meant sig) (symbol_under sig f) → ⊥) → IsLeftSide (data_meant sig) (term_at sig ts term) → ⊥
    no_mapping n l = n (by_symbol (symbol_under sig f) (terms_under sig (trees_of (trees_at ts args))) (subst (λ t. IsLeftSide (data_meant sig) (term_under sig t)) is l)).0

    pub left_side_told : (b : Bool) → IsMappingSymbol (data_meant sig) (symbol_under sig f) → Decides b (All Is args) → Decides b (IsLeftSide (data_meant sig) (term_at sig ts term))
    left_side_told b m d = (
      (λ e. subst (λ t. IsLeftSide (data_meant sig) (term_under sig t)) (sym is) (of_symbol (symbol_under sig f) (terms_under sig (trees_of (trees_at ts args))) m (of_all args (d.0 e)))),
      (λ l. d.1 (all_of args (by_symbol (symbol_under sig f) (terms_under sig (trees_of (trees_at ts args))) (subst (λ t. IsLeftSide (data_meant sig) (term_under sig t)) is l)).1)),
    )
