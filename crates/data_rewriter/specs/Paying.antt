-- What a rewriting in progress has paid.
use Rattle.std.specs.Prelude.{◌≡◌, ◌≢◌, ℕ, ◌+◌, ◌<◌, ◌≤◌, List, [], ◌∷◌, ◌++◌, length, map, Option, Some, None, Contains}
use Rattle.std.specs.HashMap.{HashMap}
use Rattle.data_theory.specs.declared.ids.TermId.{TermId}
use Rattle.data_theory.specs.Terms.{Symbol, Term, application}
use Rattle.data_theory.specs.Declarations.{Data}
use Rattle.data_theory.specs.Equations.{trueᵗ}
use Rattle.data_theory.specs.Provable.{Equation}
use Rattle.data_theory.specs.Rewriting.{lines, Applies, FirstDecides}
use Rattle.data_theory.specs.Signature.{Sig}
use Rattle.data_theory.specs.IdData.{data_meant}
use Rattle.data_theory.specs.IdTrees.{Tree}
use Rattle.term_pool.specs.Bindings.{result_of}
use Rattle.data_rewriter.specs.declared.machine.Hand.{Hand}
use Rattle.data_rewriter.specs.declared.machine.Hand.TheVariants.{Visit, Root, Answer, Spent}
use Rattle.data_rewriter.specs.Charges.{Known, AreKnown, ComesTo}
use Rattle.data_rewriter.specs.Frames.{Plain}
use Rattle.data_rewriter.specs.Places.{Place, whole, from_equation, Pending, applying, deciding}
use Rattle.data_rewriter.specs.Standing.{term_at, terms_of}
use Rattle.data_rewriter.specs.States.{pending_at, AreWithin}

-- what is known stays known
abbrev pub Keeps : Known → Known → Type 0
Keeps known later = (p : Term × Term) → Contains known p → Contains later p

-- the first place has come to the second one by so many paid uses, whatever more is known later
pub record Advances (g : Data) (own : List Equation) (known : Known) (p q : Place) (n : ℕ) : Type 0 where
  pub on : (later : Known) → Keeps known later → (o : Option Term) (m : ℕ) → ComesTo g own later q o m → ComesTo g own later p o (n + m)

-- an application waits for an argument in hand, and what is below it has its own uses
pub record HasArgument (g : Data) (own : List Equation) (known : Known) (Below : Term → ℕ → Type 0) (start : Term) (f : Symbol) (news later : List Term) (hand : Term) (n : ℕ) : Type 0 where
  pub before : ℕ
  pub moved : ℕ
  pub olds : List Term
  pub below : Below start before
  pub advances : Advances g own known (whole start) (whole (application f (terms_of (olds ++ hand ∷ later)))) moved
  pub arguments : AreKnown known (terms_of olds) (terms_of news)
  pub undecided : FirstDecides f (terms_of news) → ⊥
  pub uses_are : n ≡ before + moved

-- a root waits for the condition in hand, whose beginning is paid
pub record HasBegun (g : Data) (own : List Equation) (known : Known) (Below : Term → ℕ → Type 0) (start : Term) (e : ℕ) (t r : Term) (hand : Term) (n : ℕ) : Type 0 where
  pub before : ℕ
  pub moved : ℕ
  pub charge : ℕ
  pub below : Below start before
  pub advances : Advances g own known (whole start) (from_equation e t) moved
  pub is_inside : e < lines + length own
  pub applies_there : Applies g own e t hand r charge
  pub not_true : hand ≢ trueᵗ
  pub uses_are : n ≡ before + (moved + charge)

-- the pending places, with the uses that were paid at them
abbrev pub HavePaid : Data → List Equation → Known → Term → List Pending → Term → ℕ → Type 0
HavePaid g own known origin [] hand n = (hand ≡ origin) × (n ≡ 0)
HavePaid g own known origin (applying start f news later ∷ below) hand n = HasArgument g own known (HavePaid g own known origin below) start f news later hand n
HavePaid g own known origin (deciding start e t r ∷ below) hand n = HasBegun g own known (HavePaid g own known origin below) start e t r hand n

-- what was paid at the place in hand
abbrev pub HandHasPaid : Data → List Equation → Known → Term → (TermId → Term) → Hand → ℕ → Type 0
HandHasPaid g own known s at (Visit t) m = Advances g own known (whole s) (whole (at t)) m
HandHasPaid g own known s at (Root t k) m = (k ≤ lines + length own) × Advances g own known (whole s) (from_equation k (at t)) m
HandHasPaid g own known s at (Answer u) m = ComesTo g own known (whole s) (Some (at u)) m
HandHasPaid g own known s at Spent m = ComesTo g own known (whole s) None m

-- The state of a rewriting of the origin, where the fuel has fallen from `before` to `after` since something was found last.
pub record Pays (sig : Sig) (own : List Equation) (known : Known) (ts : List Tree) (origin : Term) (stack : List Plain) (start : TermId) (hand : Hand) (before after : ℕ) : Type 0 where
  pub behind : ℕ
  pub here : ℕ
  pub pending : HavePaid (data_meant sig) own known origin (map (pending_at sig ts) stack) (term_at sig ts start) behind
  pub paid : HandHasPaid (data_meant sig) own known (term_at sig ts start) (term_at sig ts) hand here
  pub fuel : before ≡ behind + here + after

-- each stored pair is known
abbrev pub IsKnownStore : {S : Type 0} → Sig → List Tree → HashMap TermId TermId S → Known → Type 0
IsKnownStore sig ts store known = (t u : TermId) → result_of store t ≡ Some u → Contains known (term_at sig ts t, term_at sig ts u)

-- what was paid in a first state and what is left is the same in a second one, where this holds of the data and of what is known
abbrev pub PaysOn : (Sig → List Equation → Known → Type 0) → List Tree → List Tree → List Plain → TermId → Hand → List Plain → TermId → Hand → ℕ → ℕ → Type 0
PaysOn Over old new stack start hand stack' start' hand' fuel fuel' =
    (sig : Sig) (own : List Equation) (known : Known) → Over sig own known → AreWithin sig old stack start hand
    → (origin : Term) (before : ℕ) → Pays sig own known old origin stack start hand before fuel → Pays sig own known new origin stack' start' hand' before fuel'

-- the same behind a place in hand whose answer is known by now
abbrev pub PaysBehind : (Sig → List Equation → Type 0) → List Tree → List Tree → List Plain → TermId → TermId → List Plain → TermId → Hand → ℕ → ℕ → Type 0
PaysBehind Over old new stack hand normal stack' start' hand' fuel fuel' =
    (sig : Sig) (own : List Equation) (known : Known) → Over sig own → AreWithin sig old stack hand (Answer normal) → Contains known (term_at sig old hand, term_at sig old normal)
    → (origin : Term) (behind : ℕ) → HavePaid (data_meant sig) own known origin (map (pending_at sig old) stack) (term_at sig old hand) behind → Pays sig own known new origin stack' start' hand' (behind + fuel) fuel'
