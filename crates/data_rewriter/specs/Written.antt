-- Written equations and the rules that are kept of them.
use Rattle.std.specs.Prelude.{◌≡◌, List, [], ◌∷◌, map}
use Rattle.data_theory.specs.Provable.{Equation}
use Rattle.data_theory.specs.Signature.{Sig}
use Rattle.data_theory.specs.IdTrees.{Tree, variable}
use Rattle.term_pool.specs.HeadTrees.{tree_at}
use Rattle.term_pool.specs.declared.terms.Equation.{Equation as Written}
use Rattle.term_pool.specs.declared.terms.Theory.{Theory}
use Rattle.data_rewriter.specs.declared.tables.Rule.{Rule}
use Rattle.data_rewriter.specs.Standing.{IsTerm, term_at}

-- a written equation is over the signature, and its left side is no variable
abbrev pub IsLeft : Tree → Type 0
IsLeft (variable v) = ⊥
IsLeft _ = Unit {0}

pub record IsRule (sig : Sig) (ts : List Tree) (r : Rule) : Type 0 where
  pub condition : IsTerm sig ts r.cond
  pub left : IsTerm sig ts r.left
  pub right : IsTerm sig ts r.right
  pub no_variable : IsLeft (tree_at ts r.left)

-- the equation has this condition and these sides; rewriting doesn't look at the sorts of its variables
pub record IsEquationOf (sig : Sig) (ts : List Tree) (r : Rule) (q : Equation) : Type 0 where
  pub condition : q.condition ≡ term_at sig ts r.cond
  pub left : q.left ≡ term_at sig ts r.left
  pub right : q.right ≡ term_at sig ts r.right

abbrev pub AreEquationsOf : Sig → List Tree → List Rule → List Equation → Type 0
AreEquationsOf sig ts [] [] = Unit {0}
AreEquationsOf sig ts (r ∷ rs) (q ∷ qs) = IsEquationOf sig ts r q × AreEquationsOf sig ts rs qs
AreEquationsOf sig ts [] (q ∷ qs) = ⊥
AreEquationsOf sig ts (r ∷ rs) [] = ⊥

-- what is kept of a written equation
abbrev pub rule_of : Written → Rule
rule_of e = record { cond = e.cond; left = e.left; right = e.right }

abbrev pub rules_of : Theory → List Rule
rules_of theory = map rule_of theory.equations.items
