-- Environments: what stands for the variables of a term.
use Rattle.std.specs.Prelude.{◌≡◌, ℕ, List, [], ◌∷◌, map, cond, ◌==◌, Contains}
use Rattle.data_theory.specs.Terms.{Term, Terms, variable, numeral, unknown, application, none, more}

-- a variable with the term that stands for it
pub record Binding : Type 0 where
  pub var : ℕ
  pub term : Term

-- bindings, the one that counts first
abbrev pub Environment : Type 0
Environment = List Binding

-- the term for a variable; a variable without a binding stands for itself
abbrev pub term_in : Environment → ℕ → Term
term_in [] v = variable v
term_in (b ∷ e) v = cond (b.var == v) b.term (term_in e v)

-- variables bound to terms, place by place
abbrev pub bound : List ℕ → List Term → Environment
bound [] ts = []
bound (x ∷ xs) [] = []
bound (x ∷ xs) (t ∷ ts) = record { var = x; term = t } ∷ bound xs ts

abbrev pub bound_variables : Environment → List ℕ
bound_variables e = map (λ b. b.var) e

-- ---- lists of terms, as they stand behind a symbol and as lists
abbrev pub terms_of : List Term → Terms
terms_of [] = none
terms_of (t ∷ ts) = more t (terms_of ts)

abbrev pub list_of : Terms → List Term
list_of none = []
list_of (more t ts) = t ∷ list_of ts

-- ---- a term's variables are all among these
abbrev mutual
  pub IsOver : List ℕ → Term → Type 0
  IsOver xs (variable v) = Contains xs v
  IsOver xs (numeral a z) = Unit {0}
  IsOver xs (unknown d k) = Unit {0}
  IsOver xs (application f ts) = AreOver xs ts

  pub AreOver : List ℕ → Terms → Type 0
  AreOver xs none = Unit {0}
  AreOver xs (more t ts) = IsOver xs t × AreOver xs ts

-- two environments give the same terms for these variables
abbrev pub Agree : List ℕ → (ℕ → Term) → (ℕ → Term) → Type 0
Agree xs d e = (v : ℕ) → Contains xs v → d v ≡ e v

-- lists without a common element
abbrev pub Apart : List ℕ → List ℕ → Type 0
Apart xs ys = (v : ℕ) → Contains xs v → Contains ys v → ⊥

-- no element stands twice
abbrev pub AreDistinct : List ℕ → Type 0
AreDistinct [] = Unit {0}
AreDistinct (x ∷ xs) = (Contains xs x → ⊥) × AreDistinct xs
