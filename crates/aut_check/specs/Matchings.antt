-- Matchings of a square table: each row gets a marked column of its own.
use Rattle.std.specs.Prelude.{◌≡◌, ◌<◌, ◌≤◌, ◌+◌, ◌⊎◌, ℕ, Bool, true, false, List, [], length, map, slice_index_or, sum_by, if◌then◌else◌}
use Rattle.std.specs.List.{Contains}
use Rattle.std.specs.Global.{Vec}
use Rattle.aut_check.specs.declared.matchings.Trial.{Trial}

abbrev pub rows : List (Vec Bool) → List (List Bool)
rows marks = map (λ (v : Vec Bool). v.items) marks

-- the mark in a row and a column
abbrev pub mark_at : List (List Bool) → ℕ → ℕ → Bool
mark_at marks row column = slice_index_or (slice_index_or marks row []) column false

-- there are as many columns as rows
abbrev pub IsSquare : List (List Bool) → Type 0
IsSquare marks = (row : ℕ) → row < length marks → length (slice_index_or marks row []) ≡ length marks

-- the column of a row
abbrev pub column_of : List ℕ → ℕ → ℕ
column_of columns row = slice_index_or columns row 0

-- the numbers below a number, each once, in any order
pub record IsOrder (count : ℕ) (columns : List ℕ) : Type 0 where
  pub long : length columns ≡ count
  pub within : (row : ℕ) → row < count → column_of columns row < count
  pub differ : (row other : ℕ) → row < count → other < count → column_of columns row ≡ column_of columns other → row ≡ other

-- each row has a marked column, and no two rows have the same one
pub record IsMatching (marks : List (List Bool)) (columns : List ℕ) : Type 0 where
  pub order : IsOrder (length marks) columns
  pub marked : (row : ℕ) → row < length marks → mark_at marks row (column_of columns row) ≡ true

abbrev pub HasMatching : List (List Bool) → Type 0
HasMatching marks = (columns : List ℕ) × IsMatching marks columns

-- ---- how one is found
-- the rows in front of this one have marked columns
abbrev pub IsMarkedBelow : List (List Bool) → ℕ → List ℕ → Type 0
IsMarkedBelow marks count columns = (row : ℕ) → row < count → mark_at marks row (column_of columns row) ≡ true

pub record PlainTrial : Type 0 where
  pub order : List ℕ
  pub loose : ℕ

abbrev pub plain_trial : Trial → PlainTrial
plain_trial t = record { order = t.order.items; loose = t.loose }

abbrev pub IsMoved : List Bool → ℕ → Type 0
IsMoved moved row = slice_index_or moved row false ≡ true

abbrev pub unmoved_count : List Bool → ℕ
unmoved_count moved = sum_by (λ mark. if mark then 0 else 1) moved

-- Each row up to this one but the loose one has a marked column. The loose one has the column that this row had first, and a row that wasn't moved
-- has the one that it had.
pub record IsTrial (marks : List (List Bool)) (row : ℕ) (first : List ℕ) (moved : List Bool) (t : PlainTrial) : Type 0 where
  pub order : IsOrder (length marks) t.order
  pub loose : IsMoved moved t.loose
  pub marked : (other : ℕ) → other ≤ row → (other ≡ t.loose → ⊥) → mark_at marks other (column_of t.order other) ≡ true
  pub hole : column_of t.order t.loose ≡ column_of first row
  pub kept : (other : ℕ) → (IsMoved moved other → ⊥) → column_of t.order other ≡ column_of first other

-- A trial more for each row below a count that wasn't moved and whose first column is marked in the loose row. Those rows are moved now.
pub record AddsTrials (marks : List (List Bool)) (row : ℕ) (first : List ℕ) (loose count : ℕ) (moved moved' : List Bool) (waiting waiting' : List PlainTrial) : Type 0 where
  pub size : length moved' ≡ length moved
  pub kept : (other : ℕ) → IsMoved moved other → IsMoved moved' other
  pub only : (other : ℕ) → IsMoved moved' other → IsMoved moved other ⊎ (other < row)
  pub reached : (other : ℕ) → other < count → mark_at marks loose (column_of first other) ≡ true → IsMoved moved' other
  pub waits : (other : ℕ) → IsMoved moved' other → IsMoved moved other ⊎ ((t : PlainTrial) × (Contains waiting' t × (t.loose ≡ other)))
  pub stay : (t : PlainTrial) → Contains waiting t → Contains waiting' t
  pub new : (t : PlainTrial) → Contains waiting' t → Contains waiting t ⊎ IsTrial marks row first moved' t
  pub left : unmoved_count moved' + length waiting' ≡ unmoved_count moved + length waiting

-- the rows in front of a row have marked columns, and this one and those behind it hold the free ones
pub record IsBegun (marks : List (List Bool)) (row : ℕ) (first : List ℕ) : Type 0 where
  pub order : IsOrder (length marks) first
  pub below : row < length marks
  pub marked : IsMarkedBelow marks row first
