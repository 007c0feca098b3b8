-- The first built-in equation that matches at a root.
use Rattle.std.specs.Prelude.{◌≡◌, ◌<◌, ℕ, List, [], ◌∷◌, Option, Some, None, IfSome}
use Rattle.data_theory.specs.declared.ids.TermId.{TermId}
use Rattle.data_theory.specs.Whole.{whole_of}
use Rattle.data_theory.specs.Terms as terms
use Rattle.data_theory.specs.Terms.{Sort, natural, positive, integer, Symbol, Term, Terms, application, none, more, numeral, apply}
use Rattle.data_theory.specs.Declarations.{Data, function_at}
use Rattle.data_theory.specs.Equations.{BuiltIn, one, two, trueᵗ, !ᵗ◌, ◌∧ᵗ◌, ◌∨ᵗ◌, number, truth_of, all_equal}
use Rattle.data_theory.specs.Rewriting.{place_of}
use Rattle.data_theory.specs.Signature.{Sig}
use Rattle.data_theory.specs.IdData.{data_meant}
use Rattle.data_theory.specs.IdTrees.{Tree}
use Rattle.term_pool.specs.HeadTrees.{IsIn}
use Rattle.data_rewriter.specs.declared.rights.Right.{Right}
use Rattle.data_rewriter.specs.declared.rights.Right.TheVariants.{Is, Truth, Numeral, Not, NotTwo, NotOr, One, Two, TwoOne, TwoTwo, Both, Either, Longer, Later, Places}
use Rattle.data_rewriter.specs.declared.rights.Line.{Line}
use Rattle.data_rewriter.specs.Standing.{StandsFor, IsSymbolOf, IsSortOf}

-- the built-in equation at this place of the order matches at the root of t, with this condition and right side
abbrev pub LineAt : Data → ℕ → Term → Term → Term → Type 0
LineAt g k t c r = (b : BuiltIn g c t r) × (place_of b ≡ Some k)

-- a right side over a pool is this term
abbrev pub RightIs : Sig → List Tree → Right → Term → Type 0
RightIs sig ts (Is x) t = StandsFor sig ts x t
RightIs sig ts (Truth b) t = t ≡ truth_of b
RightIs sig ts (Numeral s n) t = (a : Sort) × IsSortOf sig s a × (t ≡ numeral a (whole_of n))
RightIs sig ts (Not x) t = (u : Term) × StandsFor sig ts x u × (t ≡ !ᵗ u)
RightIs sig ts (NotTwo f x y) t = (z : Symbol) × (u v : Term) × IsSymbolOf sig f z × StandsFor sig ts x u × StandsFor sig ts y v × (t ≡ !ᵗ (apply z (more u (more v none))))
RightIs sig ts (NotOr x y) t = (u v : Term) × StandsFor sig ts x u × StandsFor sig ts y v × (t ≡ !ᵗ u ∨ᵗ v)
RightIs sig ts (One f x) t = (z : Symbol) × (u : Term) × IsSymbolOf sig f z × StandsFor sig ts x u × (t ≡ apply z (more u none))
RightIs sig ts (Two f x y) t = (z : Symbol) × (u v : Term) × IsSymbolOf sig f z × StandsFor sig ts x u × StandsFor sig ts y v × (t ≡ apply z (more u (more v none)))
RightIs sig ts (TwoOne f x g y) t = (z w : Symbol) × (u v : Term) × IsSymbolOf sig f z × IsSymbolOf sig g w × StandsFor sig ts x u × StandsFor sig ts y v × (t ≡ apply z (more u (more (apply w (more v none)) none)))
RightIs sig ts (TwoTwo f x g y k) t = (z w : Symbol) × (u v m : Term) × IsSymbolOf sig f z × IsSymbolOf sig g w × StandsFor sig ts x u × StandsFor sig ts y v × StandsFor sig ts k m × (t ≡ apply z (more u (more (apply w (more v (more m none))) none)))
RightIs sig ts (Both f x y g k l) t = (z w : Symbol) × (u v m n : Term) × IsSymbolOf sig f z × IsSymbolOf sig g w × StandsFor sig ts x u × StandsFor sig ts y v × StandsFor sig ts k m × StandsFor sig ts l n × (t ≡ apply z (more u (more v none)) ∧ᵗ apply w (more m (more n none)))
RightIs sig ts (Either f x y g k l) t = (z w : Symbol) × (u v m n : Term) × IsSymbolOf sig f z × IsSymbolOf sig g w × StandsFor sig ts x u × StandsFor sig ts y v × StandsFor sig ts k m × StandsFor sig ts l n × (t ≡ apply z (more u (more v none)) ∨ᵗ apply w (more m (more n none)))
RightIs sig ts (Longer f x) t = (z : Sort) × (u : Term) × IsSymbolOf sig f (terms.size z) × StandsFor sig ts x u × (t ≡ one (terms.upcast positive natural) (one (terms.arithmetic terms.successor (natural ∷ []) positive) (one (terms.size z) u)))
RightIs sig ts (Later f x y) t = (z : Symbol) × (u v : Term) × IsSymbolOf sig f z × StandsFor sig ts x u × StandsFor sig ts y v × (t ≡ apply z (more u (more (one (terms.arithmetic terms.to_natural (integer ∷ []) natural) (two (terms.arithmetic terms.subtract (natural ∷ natural ∷ []) integer) v (number 1))) none)))
RightIs sig ts (Places f x y) t = (c : ℕ) × (us vs : Terms) × IsSymbolOf sig f (terms.function c) × StandsFor sig ts x (application (terms.function c) us) × StandsFor sig ts y (application (terms.function c) vs) × (t ≡ all_equal (function_at (data_meant sig) c).arguments us vs)

-- a condition: `true`, or `0 < n` for this n
abbrev pub ConditionIs : Sig → List Tree → Option TermId → Term → Type 0
ConditionIs sig ts None c = c ≡ trueᵗ
ConditionIs sig ts (Some n) c = (u : Term) × StandsFor sig ts n u × (c ≡ two (terms.comparison terms.less natural) (number 0) u)

-- this one matches, and none before it
pub record IsFirstAt (sig : Sig) (ts : List Tree) (t : Term) (l : Line) : Type 0 where
  pub condition : Term
  pub right : Term
  pub matches_there : LineAt (data_meant sig) l.number t condition right
  pub condition_is : ConditionIs sig ts l.above_zero condition
  pub right_is : RightIs sig ts l.right right
  pub none_before : (i : ℕ) (c r : Term) → i < l.number → LineAt (data_meant sig) i t c r → ⊥

-- the first one that matches, or none where none does
abbrev pub IsFirstLine : Sig → List Tree → Term → Option Line → Type 0
IsFirstLine sig ts t None = (i : ℕ) (c r : Term) → LineAt (data_meant sig) i t c r → ⊥
IsFirstLine sig ts t (Some l) = IsFirstAt sig ts t l

-- the ids of a right side are in the pool
abbrev pub IsRightIn : List Tree → Right → Type 0
IsRightIn ts (Is x) = IsIn ts x
IsRightIn ts (Truth b) = Unit {0}
IsRightIn ts (Numeral s n) = Unit {0}
IsRightIn ts (Not x) = IsIn ts x
IsRightIn ts (NotTwo f x y) = IsIn ts x × IsIn ts y
IsRightIn ts (NotOr x y) = IsIn ts x × IsIn ts y
IsRightIn ts (One f x) = IsIn ts x
IsRightIn ts (Two f x y) = IsIn ts x × IsIn ts y
IsRightIn ts (TwoOne f x g y) = IsIn ts x × IsIn ts y
IsRightIn ts (TwoTwo f x g y z) = IsIn ts x × IsIn ts y × IsIn ts z
IsRightIn ts (Both f x y g k l) = (IsIn ts x × IsIn ts y) × IsIn ts k × IsIn ts l
IsRightIn ts (Either f x y g k l) = (IsIn ts x × IsIn ts y) × IsIn ts k × IsIn ts l
IsRightIn ts (Longer f x) = IsIn ts x
IsRightIn ts (Later f x y) = IsIn ts x × IsIn ts y
IsRightIn ts (Places f x y) = IsIn ts x × IsIn ts y

-- the ids of an equation that matches
abbrev pub IsLineIn : List Tree → Line → Type 0
IsLineIn ts l = IsRightIn ts l.right × IfSome l.above_zero (IsIn ts)

-- a condition that was made: none where it is `true`
abbrev pub IsConditionMade : Sig → List Tree → Option TermId → Term → Type 0
IsConditionMade sig ts None c = c ≡ trueᵗ
IsConditionMade sig ts (Some id) c = StandsFor sig ts id c × (c ≡ trueᵗ → ⊥)
