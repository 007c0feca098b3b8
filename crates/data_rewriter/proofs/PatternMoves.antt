-- The steps of a match.
use Rattle.std.specs.Prelude.{Bool, true, false, cond, ◌==◌}
use Rattle.std.proofs.lemmas.Bool.Decides.{Decides-eqb}
use Rattle.term_pool.specs.Bindings.{listed}
use Rattle.std.proofs.Common.{◌≡◌, ◌↔◌, ℕ, zero, suc, ◌+◌, ◌<◌, take, get_or, append_assoc, List, [], ◌∷◌, ◌++◌, refl, sym, ap, ◌∙◌, subst, arith, length}
use Rattle.std.specs.List.{All, Contains}
use Rattle.std.proofs.lemmas.List.Elements.{All-nil, All-cons, All-head, All-tail, All-append, All-contains, All-weaker}
use Rattle.data_theory.specs.declared.ids.TermId.{TermId}
use Rattle.data_theory.specs.declared.ids.FunId.{FunId}
use Rattle.data_theory.specs.declared.ids.VarId.{VarId}
use Rattle.data_theory.specs.Terms as terms
use Rattle.data_theory.specs.Terms.{Symbol, Term, Terms, application}
use Rattle.data_theory.specs.Rewriting.{laid, laid_all}
use Rattle.data_theory.specs.Signature.{Sig}
use Rattle.data_theory.specs.IdTrees.{Tree}
use Rattle.data_theory.specs.IdTables.{IsTable}
use Rattle.data_theory.specs.IdTerms.{term_under, symbol_under, IsTreeWithin}
use Rattle.data_theory.proofs.IdTermLemmas.{different_trees_mean_different_terms}
use Rattle.data_theory.proofs.IdSymbolLemmas.{different_functions_mean_different_symbols}
use Rattle.term_pool.specs.Pools.{AreDistinct}
use Rattle.term_pool.specs.declared.terms.Head.{Head}
use Rattle.term_pool.specs.declared.terms.Head.TheVariants.{Var, Num as Number, Fun}
use Rattle.term_pool.specs.HeadTrees.{IsIn, tree_at, trees_at, written_tree}
use Rattle.data_rewriter.specs.Matching.{AreListed, Separates, Agrees, Lays, IsMatching, Misses, pairs}
use Rattle.data_rewriter.proofs.Standings.{application_at}
use Rattle.data_rewriter.specs.Standing.{IsTerm, terms_of, term_at, listed_at}

left_of : {X : Type 0} (P : X → Type 0) (xs ys : List X) → All P (xs ++ ys) → All P xs
left_of P [] ys h = All-nil P
left_of P (x ∷ xs) ys h = All-cons P x xs (All-head P x (xs ++ ys) h) (left_of P xs ys (All-tail P x (xs ++ ys) h))

right_of : {X : Type 0} (P : X → Type 0) (xs ys : List X) → All P (xs ++ ys) → All P ys
right_of P [] ys h = h
right_of P (x ∷ xs) ys h = right_of P xs ys (All-tail P x (xs ++ ys) h)

pub last_of : {X : Type 0} (P : X → Type 0) (xs : List X) (x : X) → All P (xs ++ x ∷ []) → All P xs × P x
last_of P xs x h = (left_of P xs (x ∷ []) h, All-head P x [] (right_of P xs (x ∷ []) h))

pub joined : {X : Type 0} (P : X → Type 0) (xs ys : List X) → All P xs → All P ys → All P (xs ++ ys)
joined P xs ys a b = All-append P xs ys a b

pub pushed : {X : Type 0} (P : X → Type 0) (xs : List X) (x : X) → All P xs → P x → All P (xs ++ x ∷ [])
pushed P xs x a b = All-append P xs (x ∷ []) a (All-cons P x [] b (All-nil P))

pub pairs_in : (ts : List Tree) (ps us : List TermId) → All (IsIn ts) ps → All (IsIn ts) us → All (λ (q : TermId × TermId). IsIn ts q.0 × IsIn ts q.1) (pairs ps us)
pairs_in ts [] us a b = All-nil (λ (q : TermId × TermId). IsIn ts q.0 × IsIn ts q.1)
pairs_in ts (p ∷ ps) [] a b = All-nil (λ (q : TermId × TermId). IsIn ts q.0 × IsIn ts q.1)
pairs_in ts (p ∷ ps) (u ∷ us) a b = All-cons (λ (q : TermId × TermId). IsIn ts q.0 × IsIn ts q.1) (p, u) (pairs ps us) (All-head (IsIn ts) p ps a, All-head (IsIn ts) u us b) (pairs_in ts ps us (All-tail (IsIn ts) p ps a) (All-tail (IsIn ts) u us b))

-- ---- equations of applications
abbrev symbol_in : Symbol → Term → Symbol
symbol_in d (application f ts) = f
symbol_in d _ = d

abbrev arguments_in : Term → Terms
arguments_in (application f ts) = ts
arguments_in _ = terms.none

abbrev first_in : Term → Terms → Term
first_in d (terms.more t ts) = t
first_in d terms.none = d

abbrev rest_in : Terms → Terms
rest_in (terms.more t ts) = ts
rest_in terms.none = terms.none

module _ (sig : Sig) (ts : List Tree) (e : ℕ → Term) where
  -- pair by pair
  lays_all : (ps us : List TermId) → length ps ≡ length us → laid_all e (terms_of (listed_at sig ts ps)) ≡ terms_of (listed_at sig ts us) → All (Lays sig ts e) (pairs ps us)
  lays_all [] us l h = All-nil (Lays sig ts e)
  lays_all (p ∷ ps) [] l h = absurd (omega (arith, l))
  lays_all (p ∷ ps) (u ∷ us) l h = All-cons (Lays sig ts e) (p, u) (pairs ps us) (unfolding_first h) (lays_all ps us (omega (arith, l)) (unfolding_rest h))
    where
      unfolding_first : terms.more (laid e (term_at sig ts p)) (laid_all e (terms_of (listed_at sig ts ps))) ≡ terms.more (term_at sig ts u) (terms_of (listed_at sig ts us)) → laid e (term_at sig ts p) ≡ term_at sig ts u
      unfolding_first h = cc

      unfolding_rest : terms.more (laid e (term_at sig ts p)) (laid_all e (terms_of (listed_at sig ts ps))) ≡ terms.more (term_at sig ts u) (terms_of (listed_at sig ts us)) → laid_all e (terms_of (listed_at sig ts ps)) ≡ terms_of (listed_at sig ts us)
      unfolding_rest h = cc

  all_lay : (ps us : List TermId) → length ps ≡ length us → All (Lays sig ts e) (pairs ps us) → laid_all e (terms_of (listed_at sig ts ps)) ≡ terms_of (listed_at sig ts us)
  all_lay [] [] l h = refl
  all_lay [] (u ∷ us) l h = absurd (omega (arith, l))
  all_lay (p ∷ ps) [] l h = absurd (omega (arith, l))
  all_lay (p ∷ ps) (u ∷ us) l h =
      let a = All-head (Lays sig ts e) (p, u) (pairs ps us) h in
      let b = all_lay ps us (omega (arith, l)) (All-tail (Lays sig ts e) (p, u) (pairs ps us) h) in
      λ i. terms.more (a i) (b i)

  -- an application over an application
  pub applications_lay : (p t : TermId) (f h : FunId) (ps us : List TermId) → tree_at ts p ≡ written_tree (Fun f) (trees_at ts ps) → tree_at ts t ≡ written_tree (Fun h) (trees_at ts us) → f ≡ h → length ps ≡ length us → Lays sig ts e (p, t) ↔ All (Lays sig ts e) (pairs ps us)
  applications_lay p t f h ps us at_p at_t same l =
      let a = application_at sig ts p f ps at_p in
      let b = application_at sig ts t h us at_t in (
        λ lays. lays_all ps us l (ap arguments_in (ap (laid e) (sym a) ∙ (lays ∙ b))),
        λ all. ap (laid e) a ∙ ((λ i. application (symbol_under sig (same i)) (all_lay ps us l all i)) ∙ sym b),
      )

  pub symbols_differ : Separates sig ts → (p t : TermId) (f h : FunId) (ps us : List TermId) → IsTerm sig ts p → IsTerm sig ts t → tree_at ts p ≡ written_tree (Fun f) (trees_at ts ps) → tree_at ts t ≡ written_tree (Fun h) (trees_at ts us) → (f ≡ h → ⊥) → Lays sig ts e (p, t) → ⊥
  symbols_differ apart p t f h ps us p_in t_in at_p at_t other lays =
      let a = application_at sig ts p f ps at_p in
      let b = application_at sig ts t h us at_t in
      other (apart.functions p t f h ps us p_in t_in at_p at_t (ap (symbol_in terms.truth) (ap (laid e) (sym a) ∙ (lays ∙ b))))

  pub variable_lays : (p t : TermId) (v : VarId) (us : List Tree) → tree_at ts p ≡ written_tree (Var v) us → Lays sig ts e (p, t) ↔ Agrees sig ts e (v, t)
  variable_lays p t v us at_p =
      let a : laid e (term_at sig ts p) ≡ e v.0 = ap (λ x. laid e (term_under sig x)) at_p in
      (λ lays. sym a ∙ lays, λ agrees. a ∙ agrees)

  -- a numeral lays over itself alone
  pub numeral_lays : (p : TermId) (h : Head) (us : List Tree) → ((v : VarId) → h ≡ Var v → ⊥) → ((f : FunId) → h ≡ Fun f → ⊥) → tree_at ts p ≡ written_tree h us → laid e (term_at sig ts p) ≡ term_at sig ts p
  numeral_lays p (Var v) us a b at_p = absurd (a v refl)
  numeral_lays p (Fun f) us a b at_p = absurd (b f refl)
  numeral_lays p (Number s n) us a b at_p = ap (λ x. laid e (term_under sig x)) at_p ∙ ap (term_under sig) (sym at_p)

  -- an application lays over no variable and no numeral
  pub application_misses : (p t : TermId) (f : FunId) (ps : List TermId) (h : Head) (us : List Tree) → tree_at ts p ≡ written_tree (Fun f) (trees_at ts ps) → ((g : FunId) → h ≡ Fun g → ⊥) → tree_at ts t ≡ written_tree h us → Lays sig ts e (p, t) → ⊥
  application_misses p t f ps (Fun g) us at_p other at_t lays = other g refl
  application_misses p t f ps (Var v) us at_p other at_t lays =
      let a : application (symbol_under sig f) (laid_all e (terms_of (listed_at sig ts ps))) ≡ terms.variable v.0 = ap (laid e) (sym (application_at sig ts p f ps at_p)) ∙ (lays ∙ ap (term_under sig) at_t) in cc
  application_misses p t f ps (Number s n) us at_p other at_t lays =
      let a : application (symbol_under sig f) (laid_all e (terms_of (listed_at sig ts ps))) ≡ term_under sig (written_tree (Number s n) us) = ap (laid e) (sym (application_at sig ts p f ps at_p)) ∙ (lays ∙ ap (term_under sig) at_t) in cc

  same_lengths : (ps us : List TermId) → laid_all e (terms_of (listed_at sig ts ps)) ≡ terms_of (listed_at sig ts us) → length ps ≡ length us
  same_lengths [] [] h = refl
  same_lengths [] (u ∷ us) h = absurd cc
  same_lengths (p ∷ ps) [] h = absurd cc
  same_lengths (p ∷ ps) (u ∷ us) h = let r : laid_all e (terms_of (listed_at sig ts ps)) ≡ terms_of (listed_at sig ts us) = ap rest_in h in let n = same_lengths ps us r in omega (arith, n)

  pub lengths_differ : (p t : TermId) (f h : FunId) (ps us : List TermId) → tree_at ts p ≡ written_tree (Fun f) (trees_at ts ps) → tree_at ts t ≡ written_tree (Fun h) (trees_at ts us) → (length ps ≡ length us → ⊥) → Lays sig ts e (p, t) → ⊥
  lengths_differ p t f h ps us at_p at_t other lays =
      other (same_lengths ps us (ap arguments_in (ap (laid e) (sym (application_at sig ts p f ps at_p)) ∙ (lays ∙ application_at sig ts t h us at_t))))

  pub other_differs : Separates sig ts → (t u : TermId) (v : VarId) (found : List (VarId × TermId)) → IsTerm sig ts t → IsTerm sig ts u → Contains found (v, u) → All (Agrees sig ts e) found → (u ≡ t → ⊥) → Agrees sig ts e (v, t) → ⊥
  other_differs apart t u v found t_in u_in has all other agrees =
      other (apart.ids u t u_in t_in (sym (All-contains (Agrees sig ts e) found (v, u) all has) ∙ agrees))

-- ---- one more pair
one_more : (ps us : List TermId) (k : ℕ) (d e : TermId) → length ps ≡ length us → k < length ps → pairs (take (suc k) ps) (take (suc k) us) ≡ pairs (take k ps) (take k us) ++ (get_or ps k d, get_or us k e) ∷ []
one_more [] us k d e l h = absurd (omega (arith, h))
one_more (p ∷ ps) [] k d e l h = absurd (omega (arith, l))
one_more (p ∷ ps) (u ∷ us) zero d e l h = refl
one_more (p ∷ ps) (u ∷ us) (suc k) d e l h = ap (λ (x : List (TermId × TermId)). (p, u) ∷ x) (one_more ps us k d e (omega (arith, l)) (omega (arith, h)))

pub pushes_pair : (old mid new : List (TermId × TermId)) (ps us : List TermId) (k next : ℕ) (p u : TermId) → next ≡ k + 1 → length ps ≡ length us → k < length ps → p ≡ get_or ps k p → u ≡ get_or us k u → mid ≡ old ++ pairs (take k ps) (take k us) → new ≡ mid ++ (p, u) ∷ [] → new ≡ old ++ pairs (take next ps) (take next us)
pushes_pair old mid new ps us k next p u n l h a b was is =
    let e : next ≡ suc k = omega (arith, n) in
    let pair : (get_or ps k p, get_or us k u) ≡ (p, u) = λ i. (sym a i, sym b i) in
    let r : pairs (take next ps) (take next us) ≡ pairs (take k ps) (take k us) ++ (p, u) ∷ [] = ap (λ j. pairs (take j ps) (take j us)) e ∙ (one_more ps us k p u l h ∙ ap (λ (x : TermId × TermId). pairs (take k ps) (take k us) ++ x ∷ []) pair) in
    is ∙ (ap (λ (x : List (TermId × TermId)). x ++ (p, u) ∷ []) was ∙ (append_assoc old (pairs (take k ps) (take k us)) ((p, u) ∷ []) ∙ ap (λ (x : List (TermId × TermId)). old ++ x) (sym r)))

-- ---- the state of a match; what is popped stands at the end
module _ (sig : Sig) (ts : List Tree) (pattern term : TermId) (found : List (VarId × TermId)) (left : List (TermId × TermId)) (p t : TermId) (is : IsMatching sig ts pattern term found (left ++ (p, t) ∷ [])) where
  -- the popped pair lays where these pairs lay
  pub replaced : (more : List (TermId × TermId)) → ((e : ℕ → Term) → Lays sig ts e (p, t) ↔ All (Lays sig ts e) more) → IsMatching sig ts pattern term found (left ++ more)
  replaced more same e = (
    λ lays.
        let a = (is e).0 lays in
        (a.0, All-append (Lays sig ts e) left more (left_of (Lays sig ts e) left ((p, t) ∷ []) a.1) ((same e).0 (All-head (Lays sig ts e) (p, t) [] (right_of (Lays sig ts e) left ((p, t) ∷ []) a.1)))),
    λ both. (is e).1 (both.0, All-append (Lays sig ts e) left ((p, t) ∷ []) (left_of (Lays sig ts e) left more both.1) (All-cons (Lays sig ts e) (p, t) [] ((same e).1 (right_of (Lays sig ts e) left more both.1)) (All-nil (Lays sig ts e)))),
  )

  -- the popped pair lays nowhere where what was found agrees
  pub missed : ((e : ℕ → Term) → All (Agrees sig ts e) found → Lays sig ts e (p, t) → ⊥) → Misses sig ts pattern term
  missed never e lays =
      let a = (is e).0 lays in
      never e a.0 (All-head (Lays sig ts e) (p, t) [] (right_of (Lays sig ts e) left ((p, t) ∷ []) a.1))

  -- it lays always where what was found agrees
  pub settled : ((e : ℕ → Term) → All (Agrees sig ts e) found → Lays sig ts e (p, t)) → IsMatching sig ts pattern term found left
  settled always e = (
    λ lays. let a = (is e).0 lays in (a.0, left_of (Lays sig ts e) left ((p, t) ∷ []) a.1),
    λ both. (is e).1 (both.0, All-append (Lays sig ts e) left ((p, t) ∷ []) both.1 (All-cons (Lays sig ts e) (p, t) [] (always e both.0) (All-nil (Lays sig ts e)))),
  )

  -- it lays where a new variable has the term
  pub found_more : (v : VarId) → ((e : ℕ → Term) → Lays sig ts e (p, t) ↔ Agrees sig ts e (v, t)) → IsMatching sig ts pattern term (found ++ (v, t) ∷ []) left
  found_more v same e = (
    λ lays.
        let a = (is e).0 lays in
        let h = All-head (Lays sig ts e) (p, t) [] (right_of (Lays sig ts e) left ((p, t) ∷ []) a.1) in
        (All-append (Agrees sig ts e) found ((v, t) ∷ []) a.0 (All-cons (Agrees sig ts e) (v, t) [] ((same e).0 h) (All-nil (Agrees sig ts e))), left_of (Lays sig ts e) left ((p, t) ∷ []) a.1),
    λ both.
        let h = (same e).1 (All-head (Agrees sig ts e) (v, t) [] (right_of (Agrees sig ts e) found ((v, t) ∷ []) both.0)) in
        (is e).1 (left_of (Agrees sig ts e) found ((v, t) ∷ []) both.0, All-append (Lays sig ts e) left ((p, t) ∷ []) both.1 (All-cons (Lays sig ts e) (p, t) [] h (All-nil (Lays sig ts e)))),
  )

pub arguments_in_pool : (ts : List Tree) (id : TermId) (ids : List TermId) → IsIn ts id → All (λ (arg : TermId). arg.0 < id.0) ids → All (IsIn ts) ids
arguments_in_pool ts id ids h below = All-weaker (λ (arg : TermId). arg.0 < id.0) (IsIn ts) (λ arg l. omega (arith, l, h)) ids below

pub paired_terms : (sig : Sig) (ts : List Tree) (ps us : List TermId) → All (IsTerm sig ts) ps → All (IsTerm sig ts) us → All (λ (q : TermId × TermId). IsTerm sig ts q.0 × IsTerm sig ts q.1) (pairs ps us)
paired_terms sig ts [] us a b = All-nil (λ (q : TermId × TermId). IsTerm sig ts q.0 × IsTerm sig ts q.1)
paired_terms sig ts (p ∷ ps) [] a b = All-nil (λ (q : TermId × TermId). IsTerm sig ts q.0 × IsTerm sig ts q.1)
paired_terms sig ts (p ∷ ps) (u ∷ us) a b = All-cons (λ (q : TermId × TermId). IsTerm sig ts q.0 × IsTerm sig ts q.1) (p, u) (pairs ps us) (All-head (IsTerm sig ts) p ps a, All-head (IsTerm sig ts) u us b) (paired_terms sig ts ps us (All-tail (IsTerm sig ts) p ps a) (All-tail (IsTerm sig ts) u us b))

-- different ids of terms over the signature mean different terms
pub separates : (sig : Sig) (ts : List Tree) → IsTable sig → AreDistinct ts → Separates sig ts
separates sig ts table apart = record {
  ids = λ i j a b e. let n : i.0 ≡ j.0 = apart i.0 j.0 a.inside b.inside (different_trees_mean_different_terms sig table (tree_at ts i) (tree_at ts j) a.within b.within e) in λ k. record { 0 = n k };
  functions = λ i j f h us ws a b e k same.
      different_functions_mean_different_symbols sig table f h (function_inside (tree_at ts i) f (trees_at ts us) e a.within) (function_inside (tree_at ts j) h (trees_at ts ws) k b.within) same;
}
  where
    function_inside : (t : Tree) (f : FunId) (us : List Tree) → t ≡ written_tree (Fun f) us → IsTreeWithin sig t → f.0 < length sig.functions
    function_inside t f us e w = let v : IsTreeWithin sig (written_tree (Fun f) us) = subst (IsTreeWithin sig) e w in v.0

-- ---- what is listed for variables
pub fresh_as : {v : VarId} {xs ys : List (VarId × TermId)} → xs ≡ ys → All (λ (p : VarId × TermId). p.0.0 ≡ v.0 → ⊥) xs → All (λ (p : VarId × TermId). p.0.0 ≡ v.0 → ⊥) ys
fresh_as {v} e h = subst (λ l. All (λ (p : VarId × TermId). p.0.0 ≡ v.0 → ⊥) l) e h

listed_new : (ts : List Tree) (found : List (VarId × TermId)) (v : VarId) (t : TermId) (more : List (VarId × TermId)) → All (λ (p : VarId × TermId). p.0.0 ≡ v.0 → ⊥) found → listed ts (found ++ (v, t) ∷ more) v ≡ tree_at ts t
listed_new ts [] v t more h = ap (λ (b : Bool). cond b (tree_at ts t) (listed ts more v)) ((Decides-eqb v.0 v.0).1 refl)
listed_new ts (p ∷ found) v t more h =
    let other = All-head (λ (p : VarId × TermId). p.0.0 ≡ v.0 → ⊥) p found h in
    let e : (p.0.0 == v.0) ≡ false = not_same (p.0.0 == v.0) (λ b. other ((Decides-eqb p.0.0 v.0).0 b)) in
    ap (λ (b : Bool). cond b (tree_at ts p.1) (listed ts (found ++ (v, t) ∷ more) v)) e ∙ listed_new ts found v t more (All-tail (λ (p : VarId × TermId). p.0.0 ≡ v.0 → ⊥) p found h)
  where
    not_same : (b : Bool) → (b ≡ true → ⊥) → b ≡ false
    not_same true n = absurd (n refl)
    not_same false n = refl

pub listed_more : (ts : List Tree) (found : List (VarId × TermId)) (v : VarId) (t : TermId) → All (λ (p : VarId × TermId). p.0.0 ≡ v.0 → ⊥) found → AreListed ts found found → AreListed ts (found ++ (v, t) ∷ []) (found ++ (v, t) ∷ [])
listed_more ts found v t fresh old =
    All-append (IsListedIn) found ((v, t) ∷ [])
    (All-weaker (λ (p : VarId × TermId). (more : List (VarId × TermId)) → listed ts (found ++ more) p.0 ≡ tree_at ts p.1) IsListedIn (λ p h more. ap (λ (l : List (VarId × TermId)). listed ts l p.0) (append_assoc found ((v, t) ∷ []) more) ∙ h ((v, t) ∷ more)) found old)
    (All-cons IsListedIn (v, t) [] (λ more. ap (λ (l : List (VarId × TermId)). listed ts l v) (append_assoc found ((v, t) ∷ []) more) ∙ listed_new ts found v t more fresh) (All-nil IsListedIn))
  where
    IsListedIn : VarId × TermId → Type 0
    IsListedIn p = (more : List (VarId × TermId)) → listed ts ((found ++ (v, t) ∷ []) ++ more) p.0 ≡ tree_at ts p.1
