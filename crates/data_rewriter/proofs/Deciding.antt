-- Tests that are made one after another.
use Rattle.std.proofs.Common.{◌≡◌, ◌⊎◌, ℕ, suc, ◌<◌, ◌≤◌, List, refl, sym, subst, arith, inl, inr}
use Rattle.std.specs.Prelude.{Option, Some, None, Bool, false, IsTrue, IsFalse, ◌↔◌, IfSome}
use Rattle.data_theory.specs.declared.ids.TermId.{TermId}
use Rattle.data_theory.specs.Terms as terms
use Rattle.data_theory.specs.Terms.{natural, comparison, Term}
use Rattle.data_theory.specs.Equations.{two, number, trueᵗ}
use Rattle.data_theory.specs.Declarations.{Data}
use Rattle.data_theory.specs.Signature.{Sig}
use Rattle.data_theory.specs.IdData.{data_meant}
use Rattle.data_theory.specs.IdTrees.{Tree}
use Rattle.data_rewriter.specs.declared.rights.Right.{Right}
use Rattle.data_rewriter.specs.declared.rights.Line.{Line}
use Rattle.data_rewriter.specs.FirstLines.{LineAt, RightIs, ConditionIs, IsFirstLine, IsFirstAt, IsRightIn, IsLineIn}
use Rattle.data_rewriter.specs.declared.rights.Right.TheVariants as rights
use Rattle.term_pool.specs.HeadTrees.{IsIn}

-- places of the order from the front, each with what it asks of the root and with its right side
pub data Clauses : Type 1 where
  no_more : Clauses
  clause : ℕ → Type 0 → Term → Clauses → Clauses

abbrev pub IsPlain : Sig → List Tree → ℕ → Term → Option Line → Type 0
IsPlain sig ts k r None = ⊥
IsPlain sig ts k r (Some l) = (l.number ≡ k) × (l.above_zero ≡ None) × RightIs sig ts l.right r

-- nothing was found
abbrev pub IsNothing : Option Line → Type 0
IsNothing None = Unit {0}
IsNothing (Some l) = ⊥

-- this is what the tests find
abbrev pub First : Sig → List Tree → Clauses → Option Line → Type 0
First sig ts no_more o = IsNothing o
First sig ts (clause k G r cs) o = (G × IsPlain sig ts k r o) ⊎ ((G → ⊥) × First sig ts cs o)

-- what a place asks holds
abbrev pub Holds : Clauses → ℕ → Type 0
Holds no_more i = ⊥
Holds (clause k G r cs) i = ((k ≡ i) × G) ⊎ Holds cs i

-- where a place's question holds its equation matches, and the places rise
abbrev pub IsSound : Data → Term → ℕ → Clauses → Type 0
IsSound g t j no_more = Unit {0}
IsSound g t j (clause k G r cs) = (j ≤ k) × (G → LineAt g k t trueᵗ r) × IsSound g t (suc k) cs

pub number_is : {k i : ℕ} → Some k ≡ Some i → k ≡ i
number_is e = cc

pub no_number : {i : ℕ} → None ≡ Some i → ⊥
no_number e = cc

module _ (sig : Sig) (ts : List Tree) (t : Term) where
  not_below : (cs : Clauses) (j i : ℕ) → IsSound (data_meant sig) t j cs → Holds cs i → i < j → ⊥
  not_below no_more j i s h l = h
  not_below (clause k G r cs) j i s (inl h) l = let a = s.0 in let b = h.0 in omega (arith, a, b, l)
  not_below (clause k G r cs) j i s (inr h) l = not_below cs (suc k) i s.2 h (let a = s.0 in omega (arith, a, l))

  none_holds : (cs : Clauses) (i : ℕ) → First sig ts cs None → Holds cs i → ⊥
  none_holds no_more i f h = h
  none_holds (clause k G r cs) i (inl f) h = f.1
  none_holds (clause k G r cs) i (inr f) (inl h) = f.0 h.1
  none_holds (clause k G r cs) i (inr f) (inr h) = none_holds cs i f.1 h

  none_before : (cs : Clauses) (j i : ℕ) (l : Line) → IsSound (data_meant sig) t j cs → First sig ts cs (Some l) → Holds cs i → i < l.number → ⊥
  none_before no_more j i l s f h less = h
  none_before (clause k G r cs) j i l s (inl f) (inl h) less = let a = f.1.0 in let b = h.0 in omega (arith, a, b, less)
  none_before (clause k G r cs) j i l s (inl f) (inr h) less = not_below cs (suc k) i s.2 h (let a = f.1.0 in omega (arith, a, less))
  none_before (clause k G r cs) j i l s (inr f) (inl h) less = f.0 h.1
  none_before (clause k G r cs) j i l s (inr f) (inr h) less = none_before cs (suc k) i l s.2 f.1 h less

  pub record Found (l : Line) : Type 0 where
    pub right : Term
    pub there : LineAt (data_meant sig) l.number t trueᵗ right
    pub plain : l.above_zero ≡ None
    pub makes : RightIs sig ts l.right right

  found : (cs : Clauses) (j : ℕ) (l : Line) → IsSound (data_meant sig) t j cs → First sig ts cs (Some l) → Found l
  found no_more j l s f = absurd f
  found (clause k G r cs) j l s (inl f) = record { right = r; there = subst (λ n. LineAt (data_meant sig) n t trueᵗ r) (sym f.1.0) (s.1 f.0); plain = f.1.1; makes = f.1.2 }
  found (clause k G r cs) j l s (inr f) = found cs (suc k) l s.2 f.1

  pub decided : (cs : Clauses) → IsSound (data_meant sig) t 0 cs → ((i : ℕ) (c r : Term) → LineAt (data_meant sig) i t c r → Holds cs i) → (o : Option Line) → First sig ts cs o → IsFirstLine sig ts t o
  decided cs s all None f = λ i c r b. none_holds cs i f (all i c r b)
  decided cs s all (Some l) f =
      let is = found cs 0 l s f in
      record {
        condition = trueᵗ;
        right = is.right;
        matches_there = is.there;
        condition_is = subst (λ n. ConditionIs sig ts n trueᵗ) (sym is.plain) refl;
        right_is = is.makes;
        none_before = λ i c r less b. none_before cs 0 i l s f (all i c r b) less;
      }

pub plainly : (sig : Sig) (ts : List Tree) (k : ℕ) (x : Right) (r : Term) (o : Option Line) → o ≡ Some (record { number = k; above_zero = None; right = x }) → RightIs sig ts x r → IsPlain sig ts k r o
plainly sig ts k x r o e h = subst (IsPlain sig ts k r) (sym e) (refl, refl, h)

pub nothing : (o : Option Line) → o ≡ None → IsNothing o
nothing o e = subst IsNothing (sym e) tt

-- what a test tells
pub told : {G : Type 0} {b : Bool} → IsTrue b ↔ G → IsTrue b → G
told both h = both.0 h

pub denied : {G : Type 0} {b : Bool} → IsTrue b ↔ G → IsFalse b → G → ⊥
denied both f g = let t = both.1 g in cc

pub falsum : IsTrue false → ⊥
falsum b = cc

pub condition_not_true : (u : Term) → two (comparison terms.less natural) (number 0) u ≡ trueᵗ → ⊥
condition_not_true u e = cc

-- the ids of what was found are in the pool
right_in : (sig : Sig) (ts : List Tree) (r : Right) (t : Term) → RightIs sig ts r t → IsRightIn ts r
right_in sig ts (rights.Is x) t h = h.term.inside
right_in sig ts (rights.Truth b) t h = tt
right_in sig ts (rights.Numeral s n) t h = tt
right_in sig ts (rights.Not x) t h = h.1.term.inside
right_in sig ts (rights.NotTwo f x y) t h = (h.4.term.inside, h.5.term.inside)
right_in sig ts (rights.NotOr x y) t h = (h.2.term.inside, h.3.term.inside)
right_in sig ts (rights.One f x) t h = h.3.term.inside
right_in sig ts (rights.Two f x y) t h = (h.4.term.inside, h.5.term.inside)
right_in sig ts (rights.TwoOne f x g y) t h = (h.6.term.inside, h.7.term.inside)
right_in sig ts (rights.TwoTwo f x g y z) t h = (h.7.term.inside, h.8.term.inside, h.9.term.inside)
right_in sig ts (rights.Both f x y g z w) t h = ((h.8.term.inside, h.9.term.inside), h.10.term.inside, h.11.term.inside)
right_in sig ts (rights.Either f x y g z w) t h = ((h.8.term.inside, h.9.term.inside), h.10.term.inside, h.11.term.inside)
right_in sig ts (rights.Longer f x) t h = h.3.term.inside
right_in sig ts (rights.Later f x y) t h = (h.4.term.inside, h.5.term.inside)
right_in sig ts (rights.Places f x y) t h = (h.4.term.inside, h.5.term.inside)

condition_in : (sig : Sig) (ts : List Tree) (o : Option TermId) (c : Term) → ConditionIs sig ts o c → IfSome o (IsIn ts)
condition_in sig ts None c h = tt
condition_in sig ts (Some n) c h = h.1.term.inside

pub line_in : (sig : Sig) (ts : List Tree) (t : Term) (l : Line) → IsFirstAt sig ts t l → IsLineIn ts l
line_in sig ts t l h = (right_in sig ts l.right h.right h.right_is, condition_in sig ts l.above_zero h.condition h.condition_is)
