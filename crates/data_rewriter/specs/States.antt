-- What a rewriting in progress has shown of the term that it began with.
use Rattle.std.specs.Prelude.{◌≡◌, ◌≢◌, ◌⊎◌, slice_get, ℕ, suc, ◌+◌, ◌<◌, ◌≤◌, List, [], ◌∷◌, map, take, drop, length, Option, Some, None, IfSome, ℤ}
use Rattle.std.specs.List.{All, Contains}
use Rattle.data_theory.specs.declared.ids.FunId.{FunId}
use Rattle.std.specs.HashMap.{HashMap}
use Rattle.data_theory.specs.declared.ids.TermId.{TermId}
use Rattle.data_theory.specs.Terms.{Term, Terms, Sort, Symbol, numeral, application, apply}
use Rattle.data_theory.specs.Equations.{trueᵗ}
use Rattle.data_theory.specs.Declarations.{Data}
use Rattle.data_theory.specs.Provable.{Equation}
use Rattle.data_theory.specs.Rewriting.{lines, Applies, GoesTo, Chain, ChainOfMoreThan}
use Rattle.data_theory.specs.Signature.{Sig}
use Rattle.data_theory.specs.IdData.{data_meant}
use Rattle.data_theory.specs.IdTrees.{Tree, function}
use Rattle.data_theory.specs.IdTerms.{symbol_under, IsTreeWithin}
use Rattle.term_pool.specs.HeadTrees.{tree_at, IsIn, AreIn}
use Rattle.term_pool.specs.Bindings.{result_of}
use Rattle.data_rewriter.specs.declared.machine.Hand.{Hand}
use Rattle.data_rewriter.specs.declared.machine.Hand.TheVariants.{Visit, Root, Answer, Spent}
use Rattle.data_rewriter.specs.declared.machine.Normal.{Normal}
use Rattle.data_rewriter.specs.declared.machine.Normal.TheVariants.{Done, Spent as SpentAt}
use Rattle.data_rewriter.specs.declared.tables.Rule.{Rule}
use Rattle.data_rewriter.specs.declared.tables.Tables.{Tables}
use Rattle.data_rewriter.specs.declared.equations.Found.{Found}
use Rattle.data_rewriter.specs.Standing.{IsTerm, term_at, listed_at, terms_of}
use Rattle.data_rewriter.specs.Rules.{numbers_at}
use Rattle.data_rewriter.specs.Written.{IsRule, AreEquationsOf}
use Rattle.data_rewriter.specs.Signatures.{AreSignTables}
use Rattle.data_rewriter.specs.Places.{whole, from_equation, Leads, Pending, applying, deciding, Waits}
use Rattle.data_rewriter.specs.Frames.{Plain, applies, decides}

abbrev pub pending_at : Sig → List Tree → Plain → Pending
pending_at sig ts (applies start fun args done) = applying (term_at sig ts start) (symbol_under sig fun) (listed_at sig ts (take done args)) (listed_at sig ts (drop (suc done) args))
pending_at sig ts (decides start root number right) = deciding (term_at sig ts start) number (term_at sig ts root) (term_at sig ts right)

-- the ids of a pending place are in the pool
abbrev pub IsFrameIn : List Tree → Plain → Type 0
IsFrameIn ts (applies start fun args done) = IsIn ts start × AreIn ts args × (done < length args)
IsFrameIn ts (decides start root number right) = IsIn ts start × IsIn ts root × IsIn ts right

abbrev pub IsHandIn : List Tree → Hand → Type 0
IsHandIn ts (Visit t) = IsIn ts t
IsHandIn ts (Root t k) = IsIn ts t × ((k ≡ 0) ⊎ (lines ≤ k))
IsHandIn ts (Answer t) = IsIn ts t
IsHandIn ts Spent = Unit {0}

pub record AreIdsIn (ts : List Tree) (stack : List Plain) (start : TermId) (hand : Hand) : Type 0 where
  pub frames : All (IsFrameIn ts) stack
  pub begin : IsIn ts start
  pub held : IsHandIn ts hand

-- what the place in hand has shown in m uses of the term with which it began
abbrev pub HandShows : Data → List Equation → Term → (TermId → Term) → Hand → ℕ → Type 0
HandShows g own s at (Visit t) m = Leads g own (whole s) (whole (at t)) m
HandShows g own s at (Root t k) m = (k ≤ lines + length own) × Leads g own (whole s) (from_equation k (at t)) m
HandShows g own s at (Answer u) m = GoesTo g own s (at u) m
HandShows g own s at Spent m = Chain g own s (suc m)

-- The state of a rewriting of the origin, where the fuel has fallen from `before` to `after`.
pub record Shows (sig : Sig) (own : List Equation) (ts : List Tree) (origin : Term) (stack : List Plain) (start : TermId) (hand : Hand) (before after : ℕ) : Type 0 where
  pub behind : ℕ
  pub here : ℕ
  pub waits : Waits (data_meant sig) own origin (map (pending_at sig ts) stack) (term_at sig ts start) behind
  pub shown : HandShows (data_meant sig) own (term_at sig ts start) (term_at sig ts) hand here
  pub fuel : before ≤ behind + here + after

-- ---- terms over the signature
abbrev pub IsFrameWithin : Sig → List Tree → Plain → Type 0
IsFrameWithin sig ts (applies start fun args done) = IsTreeWithin sig (tree_at ts start) × (fun.0 < length sig.functions) × All (λ (a : TermId). IsTreeWithin sig (tree_at ts a)) args
IsFrameWithin sig ts (decides start root number right) = IsTreeWithin sig (tree_at ts start) × IsTreeWithin sig (tree_at ts root) × IsTreeWithin sig (tree_at ts right)

abbrev pub IsHandWithin : Sig → List Tree → Hand → Type 0
IsHandWithin sig ts (Visit t) = IsTreeWithin sig (tree_at ts t)
IsHandWithin sig ts (Root t k) = IsTreeWithin sig (tree_at ts t)
IsHandWithin sig ts (Answer t) = IsTreeWithin sig (tree_at ts t)
IsHandWithin sig ts Spent = Unit {0}

pub record AreWithin (sig : Sig) (ts : List Tree) (stack : List Plain) (start : TermId) (hand : Hand) : Type 0 where
  pub frames : All (IsFrameWithin sig ts) stack
  pub begin : IsTreeWithin sig (tree_at ts start)
  pub held : IsHandWithin sig ts hand

-- each stored pair is a term and the term that it goes to
abbrev pub IsStored : Sig → List Equation → List Tree → TermId → TermId → Type 0
IsStored sig own ts t u = IsIn ts t × IsIn ts u × ((n : ℕ) × GoesTo (data_meant sig) own (term_at sig ts t) (term_at sig ts u) n) × IsTreeWithin sig (tree_at ts t) × IsTreeWithin sig (tree_at ts u)

abbrev pub AreStored : {S : Type 0} → Sig → List Equation → List Tree → HashMap TermId TermId S → Type 0
AreStored sig own ts store = (t u : TermId) → result_of store t ≡ Some u → IsStored sig own ts t u

abbrev pub StartsIn : {S : Type 0} → List Tree → HashMap TermId TermId S → Type 0
StartsIn ts store = (t u : TermId) → result_of store t ≡ Some u → IsIn ts t × IsIn ts u

-- what holds in a first state holds in a second one, over all data for which this holds
abbrev pub Follows : (Sig → List Equation → Type 0) → List Tree → List Tree → List Plain → TermId → Hand → List Plain → TermId → Hand → ℕ → ℕ → Type 0
Follows Over old new stack start hand stack' start' hand' fuel fuel' =
    (sig : Sig) (own : List Equation) → Over sig own → AreWithin sig old stack start hand
    → AreWithin sig new stack' start' hand' × ((origin : Term) (before : ℕ) → Shows sig own old origin stack start hand before fuel → Shows sig own new origin stack' start' hand' before fuel')

-- ---- what the parts of a machine give
-- these numbers rise
abbrev pub Rise : List ℕ → Type 0
Rise [] = Unit {0}
Rise (n ∷ ns) = All (λ (m : ℕ). n < m) ns × Rise ns

abbrev pub HasHead : FunId → Tree → Type 0
HasHead f (function h ts) = f ≡ h
HasHead f _ = ⊥

-- the numbers of the rules that have this function at the root of their left side
pub record AreRulesAt (ts : List Tree) (rules : List Rule) (f : FunId) (numbers : List ℕ) : Type 0 where
  pub rise : Rise numbers
  pub inside : All (λ (n : ℕ). n < length rules) numbers
  pub all : (n : ℕ) (r : Rule) → slice_get rules n ≡ Some r → HasHead f (tree_at ts r.left) → Contains numbers n

-- the tables mean the signature's functions and the written equations
pub record AreTablesOf (tables : Tables) (sig : Sig) (own : List Equation) (ts : List Tree) : Type 0 where
  pub signs : AreSignTables tables sig
  pub equations : AreEquationsOf sig ts tables.rules.items own
  pub rules : All (IsRule sig ts) tables.rules.items
  pub heads : (f : FunId) → f.0 < length sig.functions → AreRulesAt ts tables.rules.items f (numbers_at tables f)

-- the root after the arguments: an application at which no equation was tried, or a numeral
abbrev pub EntersRoot : Sig → List Tree → List Tree → FunId → List TermId → Hand → Type 0
EntersRoot sig old new f ids (Root t k) = (k ≡ 0) × (term_at sig new t ≡ apply (symbol_under sig f) (terms_of (listed_at sig old ids))) × ((h : Symbol) × (ws : Terms) × (term_at sig new t ≡ application h ws))
EntersRoot sig old new f ids (Answer t) = (term_at sig new t ≡ apply (symbol_under sig f) (terms_of (listed_at sig old ids))) × ((a : Sort) × (z : ℤ) × (term_at sig new t ≡ numeral a z))
EntersRoot sig old new f ids h = ⊥

-- a use, or an end where there is no fuel
abbrev pub UsesRight : ℕ → ℕ → TermId → Hand → Type 0
UsesRight fuel fuel' right hand = ((fuel ≡ 0) × (fuel' ≡ 0) × (hand ≡ Spent)) ⊎ ((fuel ≡ suc fuel') × (hand ≡ Visit right))

-- an equation that applies, with its condition, where that isn't `true`
abbrev pub HasCondition : Sig → List Tree → ℕ → Term → ℕ → Option TermId → Type 0
HasCondition sig ts number c x None = c ≡ trueᵗ
HasCondition sig ts number c x (Some id) = (term_at sig ts id ≡ c) × (c ≢ trueᵗ) × (lines ≤ number → x ≡ 1)

pub record IsFirst (sig : Sig) (own : List Equation) (ts : List Tree) (root : TermId) (from : ℕ) (found : Found) : Type 0 where
  pub is_behind : from ≤ found.number
  pub is_inside : found.number < lines + length own
  pub passed_over : (i : ℕ) (c r : Term) (x : ℕ) → from ≤ i → i < found.number → Applies (data_meant sig) own i (term_at sig ts root) c r x → ⊥
  pub condition : Term
  pub charge : ℕ
  pub applies_there : Applies (data_meant sig) own found.number (term_at sig ts root) condition (term_at sig ts found.right) charge
  pub has_condition : HasCondition sig ts found.number condition charge found.cond

abbrev pub IsFirstOrNone : Sig → List Equation → List Tree → TermId → ℕ → Option Found → Type 0
IsFirstOrNone sig own ts root from None = (i : ℕ) (c r : Term) (x : ℕ) → from ≤ i → i < lines + length own → Applies (data_meant sig) own i (term_at sig ts root) c r x → ⊥
IsFirstOrNone sig own ts root from (Some found) = IsFirst sig own ts root from found

abbrev pub IsFoundWithin : Sig → List Tree → Found → Type 0
IsFoundWithin sig ts found = IsTreeWithin sig (tree_at ts found.right) × IfSome found.cond (λ (c : TermId). IsTreeWithin sig (tree_at ts c))

abbrev pub IsFoundIn : List Tree → Found → Type 0
IsFoundIn ts found = IsIn ts found.right × IfSome found.cond (IsIn ts)

-- ---- answers
abbrev pub Says : Sig → List Equation → List Tree → List Tree → TermId → ℕ → ℕ → Normal → Type 0
Says sig own old new t fuel fuel' (Done u) = IsTerm sig new u × ((n : ℕ) × (fuel ≤ n + fuel') × GoesTo (data_meant sig) own (term_at sig old t) (term_at sig new u) n)
Says sig own old new t fuel fuel' (SpentAt u) = (u ≡ t) × (fuel' ≡ 0) × ChainOfMoreThan (data_meant sig) own fuel (term_at sig old t)
