-- What no good link can pair, and what `Same` pairs, as checks of the definitions.
use Rattle.std.specs.Prelude.{◌≡◌, ℕ, List, [], ◌∷◌}
use Rattle.data_theory.specs.Terms.{Sort, Term, variable}
use Rattle.process_terms.specs.Names.{Name}
use Rattle.process_terms.specs.Theories.{Theory, AreOfSorts}
use Rattle.process_terms.specs.Labels.{Action, Label}
use Rattle.process_terms.specs.Processes.{Bound, written_act, written_choice, written_seq, written_sum, written_call, Table, Process, delta, act, seq, call, merge, close}
use Rattle.process_terms.specs.Steps.{Outcome, ended, goes_on, Step}
use Rattle.bisim_laws.specs.Terminations.{without_arguments, terminate_label}
use Rattle.bisim_laws.specs.LinearProcesses.{Linear, sorts, state_of, IsLinear, IsWellSorted}
use Rattle.bisim_laws.specs.BaseStates.{Piece, kept}
use Rattle.bisim_laws.specs.Links.{Link, Same, Form, Dropped, Solved, Pairs, IsGood, IsGoodWithTerminate}

-- a process that can do something has no good link with `delta`
abbrev pub NothingDoneIsNoAnswer : Type 0
NothingDoneIsNoAnswer = (th : Theory) (l : Link) (p : Process) (m : Label) (r : Outcome) → Step th p m r → IsGood th l p delta → ⊥

-- `a` has none with `a . delta`: the one ends, the other stops
abbrev pub EndingIsNotStopping : Type 0
EndingIsNotStopping = (th : Theory) (l : Link) (a : Label) → IsGood th l (act a) (seq (act a) delta) → ⊥

-- a link that pairs nothing isn't good
abbrev pub NothingPairedIsNotGood : Type 0
NothingPairedIsNotGood = (th : Theory) (l : Link) (p q : Process) → ((x y : Process) → Pairs th l x y → ⊥) → IsGood th l p q → ⊥

-- there are such links: one that keeps a parameter which isn't there
abbrev pub AMissingParameterPairsNothing : Type 0
AMissingParameterPairsNothing = (th : Theory) (l : Linear) → l.params ≡ [] → (p q : Process) → Pairs th (Dropped (kept ∷ []) l l) p q → ⊥

-- ---- what no link that is good with `Terminate` can pair
-- a process that ends
abbrev pub WhatEndsIsNotGoodWithTerminate : Type 0
WhatEndsIsNotGoodWithTerminate = (th : Theory) (l : Link) (p q : Process) (m : Label) → IsGoodWithTerminate th l p q → Step th q m ended → ⊥

-- `a` with `a . delta`: without the action `Terminate` the other one stops
abbrev pub StoppingIsNotTerminating : Type 0
StoppingIsNotTerminating = (th : Theory) (l : Link) (a : Label) → IsGoodWithTerminate th l (act a) (seq (act a) delta) → ⊥

-- `a . delta` with `a . Terminate . delta`: the first one doesn't end
abbrev pub DeadlockIsNotTerminating : Type 0
DeadlockIsNotTerminating = (th : Theory) (l : Link) (a : Label) → IsGoodWithTerminate th l (seq (act a) delta) (seq (act a) (seq (act terminate_label) delta)) → ⊥

-- `proc X = Terminate . X`
abbrev pub again_and_again : Table
again_and_again = record { params = []; body = written_seq (written_act terminate_label) (written_call 0 []) } ∷ []

-- `a` with `a . X`: the other one terminates again and again
abbrev pub TerminatingAgainIsNotTerminating : Type 0
TerminatingAgainIsNotTerminating = (th : Theory) (l : Link) (a : Label) → IsGoodWithTerminate th l (act a) (seq (act a) (call again_and_again 0 [])) → ⊥

-- ---- `Same` doesn't look at the names of variables
-- `proc P(x: S) = a(x)`, for any x
abbrev pub one_action : Action → ℕ → Table
one_action a x = record { params = x ∷ []; body = written_act (record { name = a.name; sorts = a.sorts; args = variable x ∷ [] } ∷ []) } ∷ []

abbrev pub NamesOfParametersDoNotCount : Type 0
NamesOfParametersDoNotCount = (th : Theory) (a : Action) (x y : ℕ) (t : Term) → Pairs th Same (call (one_action a x) 0 (t ∷ [])) (call (one_action a y) 0 (t ∷ []))

-- `sum x: S . a(x)`, for any x
abbrev pub one_sum : Action → Bound → Process
one_sum a x = close [] [] (written_sum x (written_act (record { name = a.name; sorts = a.sorts; args = variable x.var ∷ [] } ∷ [])))

abbrev pub NamesOfSumsDoNotCount : Type 0
NamesOfSumsDoNotCount = (th : Theory) (a : Action) (x y : Bound) → x.sort ≡ y.sort → Pairs th Same (one_sum a x) (one_sum a y)

-- ---- `Same` doesn't look at brackets
abbrev pub BracketsDoNotCount : Type 0
BracketsDoNotCount =
    (th : Theory) (p q r : Process) → Pairs th Same (seq (seq p q) r) (seq p (seq q r)) × Pairs th Same (merge (merge p q) r) (merge p (merge q r))

-- `proc X = (a . Y . b + d) . c . X; Y = e;`
abbrev pub straddling : Name → Name → Name → Name → Name → Table
straddling a b c d e =
    record {
      params = [];
      body = written_seq
          (written_choice (written_seq (written_act (without_arguments a)) (written_seq (written_call 1 []) (written_act (without_arguments b)))) (written_act (without_arguments d)))
          (written_seq (written_act (without_arguments c)) (written_call 0 []));
    }
    ∷ record { params = []; body = written_act (without_arguments e) }
    ∷ []

-- its Greibach form: `X = a . Y . Z + d . W; Y = e; Z = b . W; W = c . X;`
abbrev pub straddling_form : Name → Name → Name → Name → Name → Table
straddling_form a b c d e =
    record { params = []; body = written_choice (written_seq (written_act (without_arguments a)) (written_seq (written_call 1 []) (written_call 2 []))) (written_seq (written_act (without_arguments d)) (written_call 3 [])) }
    ∷ record { params = []; body = written_act (without_arguments e) }
    ∷ record { params = []; body = written_seq (written_act (without_arguments b)) (written_call 3 []) }
    ∷ record { params = []; body = written_seq (written_act (without_arguments c)) (written_call 0 []) }
    ∷ []

-- what its equations stand for: X, Y, `b . c . X` and `c . X`
abbrev pub straddling_pieces : Name → Name → List Piece
straddling_pieces b c =
    record { params = []; body = written_call 0 [] }
    ∷ record { params = []; body = written_call 1 [] }
    ∷ record { params = []; body = written_seq (written_act (without_arguments b)) (written_seq (written_act (without_arguments c)) (written_call 0 [])) }
    ∷ record { params = []; body = written_seq (written_act (without_arguments c)) (written_call 0 []) }
    ∷ []

-- `(Y . b) . (c . X)`, to which X comes by a
abbrev pub after_a : Table → Name → Name → Process
after_a d b c = seq (seq (call d 1 []) (act (without_arguments b))) (seq (act (without_arguments c)) (call d 0 []))

-- `Y . (b . (c . X))`, which is what Y and Z stand for: the piece of Z straddles the bracket
abbrev pub regrouped : Table → Name → Name → Process
regrouped d b c = seq (call d 1 []) (seq (act (without_arguments b)) (seq (act (without_arguments c)) (call d 0 [])))

abbrev pub PiecesMayStraddleABracket : Type 0
PiecesMayStraddleABracket =
    (th : Theory) (a b c d e : Name)
    → Step th (call (straddling a b c d e) 0 []) (without_arguments a) (goes_on (after_a (straddling a b c d e) b c))
    × Pairs th Same (after_a (straddling a b c d e) b c) (regrouped (straddling a b c d e) b c)
    × IsGood th (Form (straddling a b c d e) (straddling_pieces b c) (straddling_form a b c d e)) (call (straddling a b c d e) 0 []) (call (straddling_form a b c d e) 0 [])

-- ---- a base link that is good
-- the states of a linear process that have provably equal arguments, where no sum is removed
abbrev pub SolvedWithItselfIsGood : Type 0
SolvedWithItselfIsGood =
    (th : Theory) (vs : List Sort) (l : Linear) (ts : List Term) → IsLinear l → IsWellSorted th.declared vs l → AreOfSorts th (sorts l.params) ts
    → IsGood th (Solved l l) (state_of l ts) (state_of l ts)
