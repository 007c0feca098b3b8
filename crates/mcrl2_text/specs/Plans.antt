-- Plans of shelves and sinks in memory: which calls fail, how much the others move, and how many were made.
use Rattle.std.specs.Prelude.{◌≡◌, ◌<◌, ◌≤◌, ◌+◌, ◌-◌, ◌^◌, ◌⊎◌, ◌↔◌, ℕ, List, length, min, Bool, false, Option, None, IfSome, Contains}

-- the number of the next call, which stays at 2^64 - 1 once it is there
abbrev pub next_call : ℕ → ℕ
next_call calls = min (calls + 1) (2 ^ 64 - 1)

pub record ShelfPlan : Type 0 where
  pub open_fails : List ℕ
  pub read_fails : List ℕ
  pub most : ℕ
  pub opens : ℕ
  pub reads : ℕ

-- an opening by a plan fails exactly where its number is listed or the text isn't there
pub record OpensByPlan (before : ShelfPlan) (text : Option (List ℕ)) (opened : Bool) (after : ShelfPlan) : Type 0 where
  pub fails : (opened ≡ false) ↔ (Contains before.open_fails (next_call before.opens) ⊎ (text ≡ None))
  pub counts : after ≡ record before { opens = next_call before.opens }

-- a read by a plan fails exactly where its number is listed; else it moves as many bytes as are left, allowed and fit
pub record ReadsByPlan (before : ShelfPlan) (rest : List ℕ) (room : ℕ) (read : Option ℕ) (after : ShelfPlan) : Type 0 where
  pub fails : (read ≡ None) ↔ Contains before.read_fails (next_call before.reads)
  pub moves : IfSome read (λ n. n ≡ min (length rest) (min before.most room))
  pub counts : after ≡ record before { reads = next_call before.reads }

pub record SinkPlan : Type 0 where
  pub write_fails : List ℕ
  pub most : ℕ
  pub room : ℕ
  pub writes : ℕ

-- a write by a plan fails where its number is listed, and else at most where the room doesn't suffice; it moves as many
-- bytes as there are and are allowed
pub record WritesByPlan (before : SinkPlan) (taken : ℕ) (piece : List ℕ) (wrote : Option ℕ) (after : SinkPlan) : Type 0 where
  pub listed : Contains before.write_fails (next_call before.writes) → wrote ≡ None
  pub fails : wrote ≡ None → Contains before.write_fails (next_call before.writes) ⊎ (before.room < taken + min (length piece) before.most)
  pub moves : IfSome wrote (λ n. n ≡ min (length piece) before.most)
  pub counts : after ≡ record before { writes = next_call before.writes; room = after.room }
  pub room : before.room ≤ after.room
