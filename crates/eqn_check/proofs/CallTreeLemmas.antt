-- Calls in terms by calls in trees, and reached mappings by paths.
use Rattle.std.proofs.Common.{◌≡◌, ℕ, ◌<◌, inl, inr, List, [], ◌∷◌, length, refl, sym, ap, ◌∙◌, subst}
use Rattle.std.specs.Global.{Vec}
use Rattle.std.proofs.lemmas.Bool.Decides.{eqb_tells}
use Rattle.data_theory.specs.declared.ids.FunId.{FunId}
use Rattle.data_theory.specs.Terms.{Symbol, function, Terms}
use Rattle.data_theory.specs.Provable.{Equation}
use Rattle.data_theory.specs.Signature.{Sig}
use Rattle.data_theory.specs.IdData.{data_meant}
use Rattle.data_theory.specs.IdTables.{IsTable}
use Rattle.data_theory.specs.IdTerms.{symbol_under, term_under, terms_under}
use Rattle.data_theory.specs.IdTrees.{Tree, Trees, variable, numeral, none, more}
use Rattle.data_theory.specs.IdTrees as trees
use Rattle.data_theory.proofs.IdSymbolLemmas.{different_functions_mean_different_symbols}
use Rattle.graphs.specs.Graphs.{HasEdge, IsPath}
use Rattle.eqn_check.specs.Calls.{Calls, AreCalling, CallsAre, AllCallsAre, FunctionCalls, Reaches, at_once, by_way_of}
use Rattle.eqn_check.specs.Patterns.{IsMapping}
use Rattle.eqn_check.specs.CallTrees.{CallIn, CallInOne, IsCallGraph}

module _ (sig : Sig) where
  -- a call of the term is one of the tree
  mutual
    pub call_found : (t : Tree) (k : ℕ) → Calls (term_under sig t) k → (h : FunId) × (us : Trees) × CallIn h us t × (symbol_under sig h ≡ function k)
    call_found (variable v) k c = absurd c
    call_found (numeral a z) k c = absurd c
    call_found (trees.function f ts) k (inl e) = (f, ts, inl (refl, refl), e)
    call_found (trees.function f ts) k (inr c) = let r = calling_found ts k c in (r.0, r.1, inr r.2, r.3)

    calling_found : (ts : Trees) (k : ℕ) → AreCalling (terms_under sig ts) k → (h : FunId) × (us : Trees) × CallInOne h us ts × (symbol_under sig h ≡ function k)
    calling_found none k c = absurd c
    calling_found (more t ts) k (inl c) = let r = call_found t k c in (r.0, r.1, inl r.2, r.3)
    calling_found (more t ts) k (inr c) = let r = calling_found ts k c in (r.0, r.1, inr r.2, r.3)

  mutual
    pub call_told : (h : FunId) (us : Trees) (t : Tree) (k : ℕ) → CallIn h us t → symbol_under sig h ≡ function k → Calls (term_under sig t) k
    call_told h us (variable v) k c e = absurd c
    call_told h us (numeral a z) k c e = absurd c
    call_told h us (trees.function f ts) k (inl c) e = inl (ap (symbol_under sig) c.0 ∙ e)
    call_told h us (trees.function f ts) k (inr c) e = inr (calling_told h us ts k c e)

    calling_told : (h : FunId) (us ts : Trees) (k : ℕ) → CallInOne h us ts → symbol_under sig h ≡ function k → AreCalling (terms_under sig ts) k
    calling_told h us none k c e = absurd c
    calling_told h us (more t ts) k (inl c) e = inl (call_told h us t k c e)
    calling_told h us (more t ts) k (inr c) e = inr (calling_told h us ts k c e)

  -- the calls of a term are so exactly where each call of the tree is
  module _ (f : ℕ) (Are : Terms → Type 0) where
    mutual
      pub each_is : (t : Tree) → CallsAre Are f (term_under sig t) → (h : FunId) (us : Trees) → CallIn h us t → symbol_under sig h ≡ function f → Are (terms_under sig us)
      each_is (variable v) a h us c e = absurd c
      each_is (numeral s z) a h us c e = absurd c
      each_is (trees.function k ts) a h us (inl c) e = subst (λ (z : Trees). Are (terms_under sig z)) c.1 (a.0 (ap (symbol_under sig) c.0 ∙ e))
      each_is (trees.function k ts) a h us (inr c) e = all_each_are ts a.1 h us c e

      all_each_are : (ts : Trees) → AllCallsAre Are f (terms_under sig ts) → (h : FunId) (us : Trees) → CallInOne h us ts → symbol_under sig h ≡ function f → Are (terms_under sig us)
      all_each_are none a h us c e = absurd c
      all_each_are (more t ts) a h us (inl c) e = each_is t a.0 h us c e
      all_each_are (more t ts) a h us (inr c) e = all_each_are ts a.1 h us c e

    mutual
      pub are_by_each : (t : Tree) → ((h : FunId) (us : Trees) → CallIn h us t → symbol_under sig h ≡ function f → Are (terms_under sig us)) → CallsAre Are f (term_under sig t)
      are_by_each (variable v) a = tt
      are_by_each (numeral s z) a = tt
      are_by_each (trees.function k ts) a = ((λ e. a k ts (inl (refl, refl)) e), all_are_by_each ts (λ h us c e. a h us (inr c) e))

      all_are_by_each : (ts : Trees) → ((h : FunId) (us : Trees) → CallInOne h us ts → symbol_under sig h ≡ function f → Are (terms_under sig us)) → AllCallsAre Are f (terms_under sig ts)
      all_are_by_each none a = tt
      all_are_by_each (more t ts) a = (are_by_each t (λ h us c e. a h us (inl c) e), all_are_by_each ts (λ h us c e. a h us (inr c) e))

  -- ---- paths of the graph
  abbrev number_in : Symbol → ℕ
  number_in (function k) = k
  number_in _ = 0

  module _ (table : IsTable sig) (own : List Equation) (edges : List (Vec ℕ)) (is : IsCallGraph sig own edges) where
    -- a function means one symbol
    one_symbol : (a f h : ℕ) → symbol_under sig (record { 0 = a }) ≡ function f → symbol_under sig (record { 0 = a }) ≡ function h → f ≡ h
    one_symbol a f h e k = ap number_in (sym e ∙ k)

    one_function : (a b f : ℕ) → a < length sig.functions → b < length sig.functions → symbol_under sig (record { 0 = a }) ≡ function f → symbol_under sig (record { 0 = b }) ≡ function f → a ≡ b
    one_function a b f l m e k = ap (λ (i : FunId). i.0) (different_functions_mean_different_symbols sig table (record { 0 = a }) (record { 0 = b }) l m (e ∙ sym k))

    pub path_reaches : (a : ℕ) (xs : List ℕ) (b : ℕ) (f h : ℕ) → IsPath (HasEdge edges) a xs b → symbol_under sig (record { 0 = a }) ≡ function f → symbol_under sig (record { 0 = b }) ≡ function h → Reaches (data_meant sig) own f h
    path_reaches a [] b f h p e k =
        let s = is.sound a b p in
        subst (λ z. Reaches (data_meant sig) own z h) (one_symbol a s.0 f s.2 e) (subst (λ z. Reaches (data_meant sig) own s.0 z) (one_symbol b s.1 h s.3 k) (at_once s.4))
    path_reaches a (x ∷ xs) b f h p e k =
        let s = is.sound a x p.0 in
        subst (λ z. Reaches (data_meant sig) own z h) (one_symbol a s.0 f s.2 e) (by_way_of s.4 (path_reaches x xs b s.1 h p.1 s.3 k))

    -- without the calls of a mapping by itself
    pub reaches_path : (f h : ℕ) → Reaches (data_meant sig) own f h → IsMapping (data_meant sig) f → (f ≡ h → ⊥) → (a b : ℕ) → a < length sig.functions → b < length sig.functions → symbol_under sig (record { 0 = a }) ≡ function f → symbol_under sig (record { 0 = b }) ≡ function h → (xs : List ℕ) × IsPath (HasEdge edges) a xs b
    reaches_path f h (at_once c) i n a b l m e k =
        let s = is.complete a f h l e i c n in
        ([], subst (HasEdge edges a) (one_function s.0 b h s.1 m s.2 k) s.3)
    reaches_path f h (by_way_of {h = z} c way) i n a b l m e k = elim (eqb_tells f z) [
      | inl same ↦ reaches_path z h way c.is_mapping (λ q. n (same.1 ∙ q)) a b l m (e ∙ ap function same.1) k
      | inr other ↦ elim (eqb_tells z h) [
        | inl same ↦ let s = is.complete a f h l e i (subst (FunctionCalls (data_meant sig) own f) same.1 c) n in ([], subst (HasEdge edges a) (one_function s.0 b h s.1 m s.2 k) s.3)
        | inr differ ↦
            let s = is.complete a f z l e i c other.1 in
            let r = reaches_path z h way c.is_mapping differ.1 s.0 b s.1 m s.2 k in
            (s.0 ∷ r.0, (s.3, r.1))
      ]
    ]
