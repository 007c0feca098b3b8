-- Terms that are listed for variables.
use Rattle.std.proofs.Common.{◌≡◌, ◌<◌, ◌+◌, ℕ, zero, suc, arith, List, [], ◌∷◌, ◌++◌, length, map, take, drop, get_or, refl, sym, ap, ap₂, ◌∙◌}
use Rattle.std.specs.List.{Contains}
use Rattle.std.proofs.lemmas.List.{take_more, map-append}
use Rattle.data_theory.specs.declared.ids.VarId.{VarId}
use Rattle.data_theory.specs.declared.ids.TermId.{TermId}
use Rattle.data_theory.specs.IdTrees.{Tree}
use Rattle.term_pool.specs.HeadTrees.{tree_at, trees_at}
use Rattle.term_pool.specs.Bindings.{listed}
use Rattle.greibach.specs.ListedVariables.{listed_variables, paired}

-- none of the first i is listed for the variable
pub record IsLookingUp (by : List (VarId × TermId)) (v : VarId) (i : ℕ) : Type 0 where
  pub same : (ts : List Tree) → listed ts (drop i by) v ≡ listed ts by v
  pub among : Contains (listed_variables by) v → Contains (listed_variables (drop i by)) v

-- the terms for the first i variables
abbrev pub AreListedSoFar : List (VarId × TermId) → List VarId → ℕ → List TermId → Type 0
AreListedSoFar by vars i terms = (ts : List Tree) → trees_at ts terms ≡ map (listed ts by) (take i vars)

pub listed_more : (by : List (VarId × TermId)) (vars : List VarId) (i : ℕ) (terms : List TermId) (d : VarId) (t : TermId) → AreListedSoFar by vars i terms → i < length vars
    → ((ts : List Tree) → listed ts by (get_or vars i d) ≡ tree_at ts t) → AreListedSoFar by vars (i + 1) (terms ++ t ∷ [])
listed_more by vars i terms d t h l e ts =
    map-append (tree_at ts) terms (t ∷ [])
    ∙ ap₂ (λ xs x. xs ++ x ∷ []) (h ts) (sym (e ts))
    ∙ sym (ap (map (listed ts by)) (take_more vars i d l) ∙ map-append (listed ts by) (take i vars) (get_or vars i d ∷ []))

pub paired_more : (xs : List VarId) (ids : List TermId) (i : ℕ) (d : VarId) (e : TermId) → i < length xs → i < length ids → paired (take (i + 1) xs) (take (i + 1) ids) ≡ paired (take i xs) (take i ids) ++ (get_or xs i d, get_or ids i e) ∷ []
paired_more [] ids i d e l m = absurd (omega (arith, l))
paired_more (x ∷ xs) [] i d e l m = absurd (omega (arith, m))
paired_more (x ∷ xs) (id ∷ ids) zero d e l m = refl
paired_more (x ∷ xs) (id ∷ ids) (suc i) d e l m =
    let s : suc i + 1 ≡ suc (i + 1) = omega arith in
    ap (λ n. paired (take n (x ∷ xs)) (take n (id ∷ ids))) s ∙ ap (λ z. (x, id) ∷ z) (paired_more xs ids i d e (omega (arith, l)) (omega (arith, m)))

pub paired_pushed : (xs : List VarId) (ids : List TermId) (i : ℕ) (d : VarId) (e : TermId) (by new : List (VarId × TermId)) → i < length xs → i < length ids → by ≡ paired (take i xs) (take i ids) → new ≡ by ++ (get_or xs i d, get_or ids i e) ∷ [] → new ≡ paired (take (i + 1) xs) (take (i + 1) ids)
paired_pushed xs ids i d e by new l m h n = n ∙ ap (λ z. z ++ (get_or xs i d, get_or ids i e) ∷ []) h ∙ sym (paired_more xs ids i d e l m)
