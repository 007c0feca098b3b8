use Rattle.std.proofs.Common.{◌≡◌, ◌≤◌, ◌+◌, ◌++◌, IfSome, Some, List, ℕ, vec_len}
use Rattle.mcrl2_text.specs.Calls.{OpensThen, ReadsOn}
use Rattle.mcrl2_text.proofs.loading.load.Given as goal

abbrev pub invariant-loop-missing : goal.invariant-loop-missing
invariant-loop-missing g l =
    (l.missing + vec_len l.text ≡ 16777217)
    × (g.H.Shelf.text_of l.shelf ≡ g.H.Shelf.text_of l.fn.shelf)
    × IfSome (g.H.Shelf.text_of l.fn.shelf l.fn.name) (λ all. (rest : List ℕ) × (g.H.Shelf.rest l.shelf ≡ Some rest) × (all ≡ l.text.items ++ rest))
    × OpensThen g.H.Shelf.opens l.fn.shelf l.fn.name (λ opened. ReadsOn g.H.Shelf.reads opened 16777217 l.missing l.shelf)
    × (g.H.Shelf.faults l.fn.shelf ≤ g.H.Shelf.faults l.shelf)

abbrev pub decreases-loop-missing : goal.decreases-loop-missing
decreases-loop-missing g l = l.missing
