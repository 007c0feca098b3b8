-- What some small process terms in code mean.
use Rattle.std.specs.Prelude.{◌≡◌, [], ◌∷◌}
use Rattle.data_theory.specs.declared.ids.VarId.{VarId}
use Rattle.process_terms.specs.Processes.{written_delta, written_choice, written_seq, written_merge, written_sum, written_act}
use Rattle.process_terms.specs.PlainProcesses.{PlainProcess, act, choice, seq, merge, sum, processes_of}
use Rattle.process_terms.specs.Meanings.{Entries, bound_at, body_of}

-- chains of `+` and `.` are nested to the right, and chains of `||` to the left
abbrev pub ChainsAreNested : Type 0
ChainsAreNested =
    (g : Entries) (p q r : PlainProcess)
    → (body_of g (choice (processes_of (p ∷ q ∷ r ∷ []))) ≡ written_choice (body_of g p) (written_choice (body_of g q) (body_of g r)))
    × (body_of g (seq (processes_of (p ∷ q ∷ r ∷ []))) ≡ written_seq (body_of g p) (written_seq (body_of g q) (body_of g r)))
    × (body_of g (merge (processes_of (p ∷ q ∷ r ∷ []))) ≡ written_merge (written_merge (body_of g p) (body_of g q)) (body_of g r))

-- a chain of one operand means that operand, and a chain of none does nothing
abbrev pub ShortChainsAddNothing : Type 0
ShortChainsAddNothing =
    (g : Entries) (p : PlainProcess)
    → (body_of g (choice (processes_of (p ∷ []))) ≡ body_of g p)
    × (body_of g (seq (processes_of (p ∷ []))) ≡ body_of g p)
    × (body_of g (merge (processes_of (p ∷ []))) ≡ body_of g p)
    × (body_of g (choice (processes_of [])) ≡ written_delta)
    × (body_of g (merge (processes_of [])) ≡ written_delta)

-- a sum over two variables is one inside the other, the first one outside
abbrev pub SumsAreNested : Type 0
SumsAreNested = (g : Entries) (x y : VarId) (p : PlainProcess) → body_of g (sum (x ∷ y ∷ []) p) ≡ written_sum (bound_at g x) (written_sum (bound_at g y) (body_of g p))

-- no actions mean `tau`
abbrev pub NoActionsMeanTau : Type 0
NoActionsMeanTau = (g : Entries) → body_of g (act []) ≡ written_act []
