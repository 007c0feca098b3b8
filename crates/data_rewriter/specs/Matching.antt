-- Patterns laid over terms of a pool.
use Rattle.std.specs.Prelude.{◌≡◌, ◌↔◌, ℕ, List, [], ◌∷◌, ◌++◌}
use Rattle.std.specs.List.{All}
use Rattle.data_theory.specs.declared.ids.TermId.{TermId}
use Rattle.data_theory.specs.declared.ids.FunId.{FunId}
use Rattle.data_theory.specs.declared.ids.VarId.{VarId}
use Rattle.data_theory.specs.Terms.{Term}
use Rattle.data_theory.specs.Rewriting.{laid}
use Rattle.data_theory.specs.Signature.{Sig}
use Rattle.data_theory.specs.IdTrees.{Tree}
use Rattle.data_theory.specs.IdTerms.{symbol_under}
use Rattle.term_pool.specs.declared.terms.Head.TheVariants.{Fun}
use Rattle.term_pool.specs.Bindings.{listed}
use Rattle.term_pool.specs.HeadTrees.{IsIn, tree_at, trees_at, written_tree}
use Rattle.data_rewriter.specs.Standing.{IsTerm, term_at}

-- different ids and functions of terms over the signature mean different terms and symbols
pub record Separates (sig : Sig) (ts : List Tree) : Type 0 where
  pub ids : (i j : TermId) → IsTerm sig ts i → IsTerm sig ts j → term_at sig ts i ≡ term_at sig ts j → i ≡ j
  pub functions : (i j : TermId) (f h : FunId) (us ws : List TermId) → IsTerm sig ts i → IsTerm sig ts j → tree_at ts i ≡ written_tree (Fun f) (trees_at ts us) → tree_at ts j ≡ written_tree (Fun h) (trees_at ts ws) → symbol_under sig f ≡ symbol_under sig h → f ≡ h

abbrev pub Agrees : Sig → List Tree → (ℕ → Term) → VarId × TermId → Type 0
Agrees sig ts e p = e p.0.0 ≡ term_at sig ts p.1

abbrev pub Lays : Sig → List Tree → (ℕ → Term) → TermId × TermId → Type 0
Lays sig ts e p = laid e (term_at sig ts p.0) ≡ term_at sig ts p.1

-- what lays the pattern over the term is what agrees with what was found and lays the pairs that are left
abbrev pub IsMatching : Sig → List Tree → TermId → TermId → List (VarId × TermId) → List (TermId × TermId) → Type 0
IsMatching sig ts pattern term found left = (e : ℕ → Term) → Lays sig ts e (pattern, term) ↔ (All (Agrees sig ts e) found × All (Lays sig ts e) left)

-- what is listed for the variables that were found is what was found for them, whatever comes behind
abbrev pub AreListed : List Tree → List (VarId × TermId) → List (VarId × TermId) → Type 0
AreListed ts found ps = All (λ (p : VarId × TermId). (more : List (VarId × TermId)) → listed ts (found ++ more) p.0 ≡ tree_at ts p.1) ps

-- the state of a match
abbrev pub IsMatchState : Sig → List Tree → TermId → TermId → List (VarId × TermId) → List (TermId × TermId) → Type 0
IsMatchState sig ts pattern term found left =
    IsMatching sig ts pattern term found left × All (λ (q : TermId × TermId). IsTerm sig ts q.0 × IsTerm sig ts q.1) left × All (λ (p : VarId × TermId). IsTerm sig ts p.1) found × AreListed ts found found

abbrev pub ArePairsIn : List Tree → List (TermId × TermId) → Type 0
ArePairsIn ts left = All (λ (p : TermId × TermId). IsIn ts p.0 × IsIn ts p.1) left

abbrev pub Misses : Sig → List Tree → TermId → TermId → Type 0
Misses sig ts pattern term = (e : ℕ → Term) → Lays sig ts e (pattern, term) → ⊥

abbrev pub pairs : List TermId → List TermId → List (TermId × TermId)
pairs [] ts = []
pairs (p ∷ ps) [] = []
pairs (p ∷ ps) (t ∷ ts) = (p, t) ∷ pairs ps ts
