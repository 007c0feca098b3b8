-- The calls of process terms, and the names that they reach and lead to.
use Rattle.std.specs.Prelude.{◌≡◌, ◌⊎◌, ℕ, List, [], ◌∷◌, ◌++◌, Some, slice_get, Contains}
use Rattle.graphs.specs.Graphs.{IsPath}
use Rattle.process_terms.specs.Processes.{Body, written_delta, written_act, written_choice, written_seq, written_cond, written_sum, written_call, written_merge, written_starting, written_around, Definition, Table}
use Rattle.guard_check.specs.declared.calls.Extent.{Extent}
use Rattle.guard_check.specs.declared.calls.Extent.TheVariants.{Everywhere, BeforeActions}

-- of what stands behind a `.`, the calls that count
abbrev pub behind : Extent → List ℕ → List ℕ
behind Everywhere xs = xs
behind BeforeActions xs = []

-- The names that are called, in the order of the text: everywhere, or before any action. In `p . q` only p is before any
-- action; of every other operator all operands are.
abbrev pub calls : Extent → Body → List ℕ
calls n written_delta = []
calls n (written_act m) = []
calls n (written_choice p q) = calls n p ++ calls n q
calls n (written_seq p q) = calls n p ++ behind n (calls n q)
calls n (written_cond c p q) = calls n p ++ calls n q
calls n (written_sum x p) = calls n p
calls n (written_call x ts) = x ∷ []
calls n (written_merge p q) = calls n p ++ calls n q
calls n (written_starting o p q) = calls n p ++ calls n q
calls n (written_around o p) = calls n p

-- y is called in the body of x
abbrev pub Calls : Extent → Table → ℕ → ℕ → Type 0
Calls n d x y = (f : Definition) × (slice_get d x ≡ Some f) × Contains (calls n f.body) y

-- y is called in the body of x before any action
abbrev pub Leads : Table → ℕ → ℕ → Type 0
Leads = Calls BeforeActions

-- by one such link or more
abbrev pub By : (ℕ → ℕ → Type 0) → ℕ → ℕ → Type 0
By Link x y = (xs : List ℕ) × IsPath Link x xs y

-- x is called in p, or in the body of a name that p reaches
abbrev pub Reaches : Table → Body → ℕ → Type 0
Reaches d p x = Contains (calls Everywhere p) x ⊎ ((y : ℕ) × Contains (calls Everywhere p) y × By (Calls Everywhere d) y x)

-- a link from a name that p reaches
abbrev pub FromReached : Table → Body → (ℕ → ℕ → Type 0) → ℕ → ℕ → Type 0
FromReached d p Link x y = Reaches d p x × Link x y
