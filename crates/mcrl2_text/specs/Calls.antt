-- Which calls were made, one after the other.
use Rattle.std.specs.Prelude.{◌<◌, ◌+◌, ◌-◌, ℕ, List, drop, length, min, Bool, true, Option, Some, None}

-- A text is opened, and what follows starts from the shelf as the opening left it.
pub record OpensThen {S : Type 0} (opens : S → List ℕ → Bool → S → Type 0) (before : S) (name : List ℕ) (follows : S → Type 0) : Type 0 where
  pub opened : S
  pub opening : opens before name true opened
  pub following : follows opened

-- Reads that each gave bytes, the first one from `opened` with `all` bytes missing: how many are missing after them, and
-- the shelf that they left. Each got a buffer of 4,096 bytes, or of what was missing where that was less.
pub data ReadsOn {S : Type 0} (reads : S → ℕ → Option ℕ → S → Type 0) (opened : S) (all : ℕ) : ℕ → S → Type 0 where
  no_read : ReadsOn reads opened all all opened
  one_more : (missing n : ℕ) (before after : S) → ReadsOn reads opened all missing before → 0 < missing → 0 < n
      → reads before (min missing 4096) (Some n) after → ReadsOn reads opened all (missing - n) after

-- such reads, and after them one that ended the reading: it gave nothing, or failed
pub record EndsReading {S : Type 0} (reads : S → ℕ → Option ℕ → S → Type 0) (opened : S) (all : ℕ) (last : Option ℕ) (after : S) : Type 0 where
  pub missing : ℕ
  pub before : S
  pub reads_on : ReadsOn reads opened all missing before
  pub some_missing : 0 < missing
  pub ending : reads before (min missing 4096) last after

-- Writes that each took bytes, the first one from `start`: how many bytes of the piece are taken after them, and the sink
-- that they left. Each got the whole rest of the piece.
pub data WritesOn {S : Type 0} (writes : S → List ℕ → Option ℕ → S → Type 0) (start : S) (piece : List ℕ) : ℕ → S → Type 0 where
  no_write : WritesOn writes start piece 0 start
  one_more : (at n : ℕ) (before after : S) → WritesOn writes start piece at before → at < length piece → 0 < n
      → writes before (drop at piece) (Some n) after → WritesOn writes start piece (at + n) after

-- such writes, and after them one that failed
pub record EndsWriting {S : Type 0} (writes : S → List ℕ → Option ℕ → S → Type 0) (start : S) (piece : List ℕ) (after : S) : Type 0 where
  pub at : ℕ
  pub before : S
  pub writes_on : WritesOn writes start piece at before
  pub some_left : at < length piece
  pub failing : writes before (drop at piece) None after
