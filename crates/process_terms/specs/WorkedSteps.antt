-- Small processes whose steps are listed, as checks of the definitions.
use Rattle.std.specs.Prelude.{◌≡◌, ◌↔◌, ◌⊎◌, List, [], ◌∷◌, ◌++◌}
use Rattle.data_theory.specs.Terms.{Sort, named, function, Term, unknown, application, none}
use Rattle.data_theory.specs.Declarations.{mapping, without_constructors}
use Rattle.data_theory.specs.Equations.{equals}
use Rattle.process_terms.specs.Names.{Name}
use Rattle.process_terms.specs.Theories.{Theory, IsTrue, IsFalse, IsConsistent, IsOfSort}
use Rattle.process_terms.specs.Labels.{Action, Label}
use Rattle.process_terms.specs.Processes.{allow, comm, left_merge, sync, Process, delta, act, seq, sum, merge, starting, around}
use Rattle.process_terms.specs.Steps.{Outcome, ended, goes_on, within, Step}

-- `delta` does nothing
abbrev pub DeltaDoesNothing : Type 0
DeltaDoesNothing = (th : Theory) (m : Label) (r : Outcome) → Step th delta m r → ⊥

-- `a || b` does a, b and a|b, and nothing else
abbrev pub TwoActionsSideBySide : Type 0
TwoActionsSideBySide =
    (th : Theory) (a b m : Label) (r : Outcome)
    → (Step th (merge (act a) (act b)) m r ↔ (((m ≡ a) × (r ≡ goes_on (act b))) ⊎ (((m ≡ b) × (r ≡ goes_on (act a))) ⊎ ((m ≡ a ++ b) × (r ≡ ended)))))

-- ---- left merge and synchronisation
-- `a ||_ b` does a and goes on with b, and nothing else
abbrev pub LeftMergeBegins : Type 0
LeftMergeBegins = (th : Theory) (a b m : Label) (r : Outcome) → (Step th (starting left_merge (act a) (act b)) m r ↔ ((m ≡ a) × (r ≡ goes_on (act b))))

-- `(a . p) ||_ q` does a and goes on with `p || q`, and nothing else
abbrev pub LeftMergeGoesOn : Type 0
LeftMergeGoesOn =
    (th : Theory) (a m : Label) (p q : Process) (r : Outcome)
    → (Step th (starting left_merge (seq (act a) p) q) m r ↔ ((m ≡ a) × (r ≡ goes_on (merge p q))))

-- `(a . p) | (b . q)` does a|b and goes on with `p || q`, and nothing else
abbrev pub SyncGoesOn : Type 0
SyncGoesOn =
    (th : Theory) (a b m : Label) (p q : Process) (r : Outcome)
    → (Step th (starting sync (seq (act a) p) (seq (act b) q)) m r ↔ ((m ≡ a ++ b) × (r ≡ goes_on (merge p q))))

-- where one of both ends, `|` goes on with the other one
abbrev pub SyncGoesOnWithTheRight : Type 0
SyncGoesOnWithTheRight =
    (th : Theory) (a b m : Label) (q : Process) (r : Outcome)
    → (Step th (starting sync (act a) (seq (act b) q)) m r ↔ ((m ≡ a ++ b) × (r ≡ goes_on q)))

abbrev pub SyncGoesOnWithTheLeft : Type 0
SyncGoesOnWithTheLeft =
    (th : Theory) (a b m : Label) (p : Process) (r : Outcome)
    → (Step th (starting sync (seq (act a) p) (act b)) m r ↔ ((m ≡ a ++ b) × (r ≡ goes_on p)))

-- where both end, it ends: as processes `a | b` does what the label a|b does
abbrev pub SyncOfLabelsIsTheirLabel : Type 0
SyncOfLabelsIsTheirLabel = (th : Theory) (a b m : Label) (r : Outcome) → (Step th (starting sync (act a) (act b)) m r ↔ Step th (act (a ++ b)) m r)

-- ---- `comm({x|y -> z}, x(t)|y(u))`
abbrev pub with_argument : Name → Sort → Term → Action
with_argument x s t = record { name = x; sorts = s ∷ []; args = t ∷ [] }

abbrev pub two_joined : Name → Name → Name → Sort → Term → Term → Process
two_joined x y z s t u = around (comm (record { left = x ∷ y ∷ []; result = z } ∷ [])) (act (with_argument x s t ∷ with_argument y s u ∷ []))

-- where the arguments are provably equal the two actions join, and do nothing else
abbrev pub EqualDataJoin : Type 0
EqualDataJoin =
    (th : Theory) → IsConsistent th → (x y z : Name) (s : Sort) (t u : Term) → IsTrue th (equals s t u) → (m : Label) (r : Outcome)
    → (Step th (two_joined x y z s t u) m r ↔ ((m ≡ with_argument z s t ∷ []) × (r ≡ ended)))

-- where they are provably unequal both are left, and nothing else is done
abbrev pub UnequalDataStay : Type 0
UnequalDataStay =
    (th : Theory) → IsConsistent th → (x y z : Name) (s : Sort) (t u : Term) → IsFalse th (equals s t u) → (m : Label) (r : Outcome)
    → (Step th (two_joined x y z s t u) m r ↔ ((m ≡ with_argument x s t ∷ with_argument y s u ∷ []) × (r ≡ ended)))

-- where neither is provable nothing is done
abbrev pub UnknownDataDoNothing : Type 0
UnknownDataDoNothing =
    (th : Theory) (x y z : Name) (s : Sort) (t u : Term) → (IsTrue th (equals s t u) → ⊥) → (IsFalse th (equals s t u) → ⊥) → (m : Label) (r : Outcome)
    → Step th (two_joined x y z s t u) m r → ⊥

-- there are such data: `sort E; map f: E;`, where nothing says whether f is the unknown element E#0
abbrev pub unknown_data : Theory
unknown_data = record {
  declared = record { sorts = without_constructors ∷ []; functions = record { arguments = []; result = named 0; role = mapping } ∷ [] };
  equations = [];
}

abbrev pub whether_equal : Term
whether_equal = equals (named 0) (application (function 0) none) (unknown 0 0)

abbrev pub SomeDataAreUnknown : Type 0
SomeDataAreUnknown = IsConsistent unknown_data × ((IsTrue unknown_data whether_equal → ⊥) × (IsFalse unknown_data whether_equal → ⊥))

-- ---- other operators
-- `allow` keeps the empty label, whatever it allows
abbrev pub SilenceIsAllowed : Type 0
SilenceIsAllowed = (th : Theory) (allowed : List (List Name)) (p : Process) (r : Outcome) → Step th p [] r → Step th (around (allow allowed) p) [] (within (allow allowed) r)

-- a sum does what its process does for some closed term of the sort, and nothing else
abbrev pub SumTakesEveryTerm : Type 0
SumTakesEveryTerm = (th : Theory) (s : Sort) (f : Term → Process) (m : Label) (r : Outcome) → (Step th (sum s f) m r ↔ ((t : Term) × (IsOfSort th s t × Step th (f t) m r)))

-- what ends under `.` goes on with what follows
abbrev pub EndingGoesOn : Type 0
EndingGoesOn = (th : Theory) (a m : Label) (p : Process) (r : Outcome) → (Step th (seq (act a) p) m r ↔ ((m ≡ a) × (r ≡ goes_on p)))
