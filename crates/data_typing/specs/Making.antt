-- How terms are made: a list of items, which is read from its end. Each is a term that comes behind those that are made, or a symbol
-- over the last so many of them.
use Rattle.std.specs.Prelude.{◌≡◌, ℕ, List, [], ◌∷◌, ◌++◌, length, Option, Some, option_map}
use Rattle.data_theory.specs.Terms.{Sort, Symbol, Term, Terms, apply}
use Rattle.data_theory.specs.Terms as terms
use Rattle.data_typing.specs.Typings.{Inferred, Typing}

-- an expression is wanted at the sort that it infers, or at this one
pub data Wish : Type 0 where
  as_inferred : Wish
  at_sort : Sort → Wish

abbrev pub wished : Wish → Typing → Option Term
wished as_inferred t = option_map (λ (i : Inferred). i.term) t.infers
wished (at_sort s) t = t.checks s

-- these typings have these terms, each as it is wished
abbrev pub HaveTerms : List (Wish × Typing) → List Term → Type 0
HaveTerms [] [] = Unit {0}
HaveTerms (w ∷ ws) (u ∷ us) = (wished w.0 w.1 ≡ Some u) × HaveTerms ws us
HaveTerms _ _ = ⊥

-- ---- items
pub data Item : Type 0 where
  leaf : Term → Item
  over : Symbol → ℕ → Item

abbrev pub terms_of : List Term → Terms
terms_of [] = terms.none
terms_of (t ∷ ts) = terms.more t (terms_of ts)

-- the last n of the terms xs, under a symbol
pub record Joins (f : Symbol) (n : ℕ) (xs ys : List Term) : Type 0 where
  pub front : List Term
  pub last : List Term
  pub are : xs ≡ front ++ last
  pub many : length last ≡ n
  pub become : ys ≡ front ++ apply f (terms_of last) ∷ []

abbrev pub Turns : Item → List Term → List Term → Type 0
Turns (leaf t) xs ys = ys ≡ xs ++ t ∷ []
Turns (over f n) xs ys = Joins f n xs ys

-- the items make the terms ys of the terms xs
abbrev pub Make : List Item → List Term → List Term → Type 0
Make [] xs ys = xs ≡ ys
Make (h ∷ hs) xs ys = (ws : List Term) × Make hs xs ws × Turns h ws ys
