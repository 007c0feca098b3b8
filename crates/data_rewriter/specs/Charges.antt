-- What a rewriting has to pay where some terms are known to go to others: what is known is free.
use Rattle.std.specs.Prelude.{◌≡◌, ◌≢◌, ◌⊎◌, ℕ, suc, ◌+◌, ◌<◌, List, [], ◌∷◌, length, map, Contains, Option, Some, None, ℤ}
use Rattle.std.specs.HashMap.{HashMap}
use Rattle.data_theory.specs.declared.ids.TermId.{TermId}
use Rattle.data_theory.specs.Terms.{Sort, Symbol, Term, Terms, numeral, application, none, more, apply}
use Rattle.data_theory.specs.Declarations.{Data}
use Rattle.data_theory.specs.Equations.{trueᵗ}
use Rattle.data_theory.specs.Provable.{Equation}
use Rattle.data_theory.specs.Rewriting.{lines, Applies, FirstDecides}
use Rattle.data_theory.specs.Signature.{Sig}
use Rattle.data_theory.specs.IdTrees.{Tree}
use Rattle.data_rewriter.specs.declared.machine.Normal.{Normal}
use Rattle.data_rewriter.specs.declared.machine.Normal.TheVariants.{Done, Spent}
use Rattle.data_rewriter.specs.Places.{Place, whole, from_equation}
use Rattle.data_rewriter.specs.Standing.{term_at}
use Rattle.data_theory.specs.IdData.{data_meant}

-- terms, each with the term that it is known to go to
abbrev pub Known : Type 0
Known = List (Term × Term)

-- what these arguments go to is known, place by place
abbrev pub AreKnown : Known → Terms → Terms → Type 0
AreKnown known none none = Unit {0}
AreKnown known (more t ts) (more u us) = Contains known (t, u) × AreKnown known ts us
AreKnown known none (more u us) = ⊥
AreKnown known (more t ts) none = ⊥

-- what a condition goes to is known; the condition `true` needs no rewriting
abbrev pub IsKnownCondition : Known → Term → Term → Type 0
IsKnownCondition known c d = ((c ≡ trueᵗ) × (d ≡ trueᵗ)) ⊎ ((c ≢ trueᵗ) × Contains known (c, d))

abbrev pub IsNoApplication : Term → Type 0
IsNoApplication (application f ts) = ⊥
IsNoApplication _ = Unit {0}

-- From the place one comes to the term in so many uses, as by `GoesTo`, where it is known what arguments and conditions go to; or, where
-- no term is there, one comes so far and may go on. What is known of a term itself needs no use.
pub data ComesTo (g : Data) (own : List Equation) (known : Known) : Place → Option Term → ℕ → Type 0 where
  is_left : {p : Place} → ComesTo g own known p None 0
  is_known : {t u : Term} → Contains known (t, u) → ComesTo g own known (whole t) (Some u) 0
  stays_itself : {t : Term} → IsNoApplication t → ComesTo g own known (whole t) (Some t) 0
  by_a_known_first : {f : Symbol} {t b : Term} {ts : Terms} {o : Option Term} {n : ℕ} → Contains known (t, b) → FirstDecides f (more b ts) → ComesTo g own known (from_equation 0 (application f (more b ts))) o n → ComesTo g own known (whole (application f (more t ts))) o n
  by_known_arguments : {f h : Symbol} {ts ws : Terms} {o : Option Term} {n : ℕ} (us : Terms) → AreKnown known ts us → (FirstDecides f us → ⊥) → apply f us ≡ application h ws → ComesTo g own known (from_equation 0 (application h ws)) o n → ComesTo g own known (whole (application f ts)) o n
  merges : {f : Symbol} {ts : Terms} {a : Sort} {z : ℤ} (us : Terms) → AreKnown known ts us → (FirstDecides f us → ⊥) → apply f us ≡ numeral a z → ComesTo g own known (whole (application f ts)) (Some (numeral a z)) 0
  none_is_left : {k : ℕ} {t : Term} → k ≡ lines + length own → ComesTo g own known (from_equation k t) (Some t) 0
  passes_one : {k : ℕ} {t : Term} {o : Option Term} {n : ℕ} → k < lines + length own → ((c r : Term) (x : ℕ) → Applies g own k t c r x → ⊥) → ComesTo g own known (from_equation (suc k) t) o n → ComesTo g own known (from_equation k t) o n
  begins_a_condition : {k : ℕ} {t c r : Term} {x : ℕ} → k < lines + length own → Applies g own k t c r x → c ≢ trueᵗ → ComesTo g own known (from_equation k t) None x
  refuses_one : {k : ℕ} {t c r : Term} {o : Option Term} {x n : ℕ} (d : Term) → k < lines + length own → Applies g own k t c r x → IsKnownCondition known c d → d ≢ trueᵗ → ComesTo g own known (from_equation (suc k) t) o n → ComesTo g own known (from_equation k t) o (x + n)
  uses_one : {k : ℕ} {t c r : Term} {o : Option Term} {x n : ℕ} → k < lines + length own → Applies g own k t c r x → IsKnownCondition known c trueᵗ → ComesTo g own known (whole r) o n → ComesTo g own known (from_equation k t) o (suc (x + n))

-- What is known at first, and then what was found one after another, each from what was known before it, with all uses. A term that was
-- found to go to another one is known then, and the other one to go to itself.
pub data Found (g : Data) (own : List Equation) (first : Known) : Known → ℕ → Type 0 where
  nothing_yet : Found g own first first 0
  one_more : {known : Known} {t u : Term} {n m : ℕ} → Found g own first known n → ComesTo g own known (whole t) (Some u) m → Found g own first ((t, u) ∷ (u, u) ∷ known) (n + m)

-- terms whose rewritings were begun and left, with all uses
pub data AreBegun (g : Data) (own : List Equation) (known : Known) : List Term → ℕ → Type 0 where
  none_begun : AreBegun g own known [] 0
  one_begun : {ts : List Term} {t : Term} {n m : ℕ} → AreBegun g own known ts n → ComesTo g own known (whole t) None m → AreBegun g own known (t ∷ ts) (n + m)

-- the term was found to go to the other one, and the uses of all that was found, with what is left, are the fuel that there was
pub record IsPaid (g : Data) (own : List Equation) (first : Known) (t u : Term) (fuel left : ℕ) : Type 0 where
  pub known : Known
  pub uses : ℕ
  pub found : Found g own first known uses
  pub is_among : Contains known (t, u)
  pub all_fuel : fuel ≡ uses + left

-- the term was begun, and the uses of all that was found and of all that was begun are the fuel that there was
pub record IsUsedUp (g : Data) (own : List Equation) (first : Known) (t : Term) (fuel left : ℕ) : Type 0 where
  pub known : Known
  pub begun : List Term
  pub uses : ℕ
  pub further : ℕ
  pub found : Found g own first known uses
  pub are_begun : AreBegun g own known begun further
  pub is_among : Contains begun t
  pub all_fuel : (fuel ≡ uses + further) × (left ≡ 0)

-- the pairs of a store, as terms
abbrev pub pairs_of : {S : Type 0} → Sig → List Tree → HashMap TermId TermId S → Known
pairs_of sig ts store = map (λ p. (term_at sig ts p.0, term_at sig ts p.1)) store.entries

-- what an answer costs, where these pairs were stored at first
abbrev pub AnswerCosts : {S : Type 0} → Sig → List Equation → List Tree → List Tree → HashMap TermId TermId S → TermId → ℕ → ℕ → Normal → Type 0
AnswerCosts sig own old new store t fuel left (Done u) = IsPaid (data_meant sig) own (pairs_of sig old store) (term_at sig old t) (term_at sig new u) fuel left
AnswerCosts sig own old new store t fuel left (Spent u) = IsUsedUp (data_meant sig) own (pairs_of sig old store) (term_at sig old t) fuel left
