-- Tables of answers, and what they say together.
use Rattle.std.specs.Prelude.{◌≡◌, ◌<◌, ℕ, Bool, true, false, List, length, map, slice_index_or}
use Rattle.std.specs.List.{AllZip, Contains}
use Rattle.std.specs.Global.{Vec}
use Rattle.trace_replay.specs.declared.deciding.Answer.{Answer as CodeAnswer}
use Rattle.trace_replay.specs.DecidedConditions.{answer_of}
use Rattle.trace_replay.specs.Decidings.{Answer, hold, fail, stay_open}
use Rattle.aut_check.specs.declared.verdicts.StateVerdict.{StateVerdict}
use Rattle.aut_check.specs.declared.verdicts.StateVerdict.TheVariants.{Good, Differs, Open}
use Rattle.aut_check.specs.Matchings.{HasMatching}

abbrev pub answers_of : List CodeAnswer → List Answer
answers_of row = map answer_of row

abbrev pub tables_of : List (Vec CodeAnswer) → List (List Answer)
tables_of rows = map (λ (v : Vec CodeAnswer). answers_of v.items) rows

-- of two parts that both have to hold: one that fails makes both fail
abbrev pub both : Answer → Answer → Answer
both fail b = fail
both hold b = b
both stay_open fail = fail
both stay_open hold = stay_open
both stay_open stay_open = stay_open

-- of two parts of which one has to hold
abbrev pub better : Answer → Answer → Answer
better hold b = hold
better fail b = b
better stay_open hold = hold
better stay_open fail = stay_open
better stay_open stay_open = stay_open

-- ---- pairings
-- the answer is that it holds; or, with the mark, that it is open
abbrev pub mark_of : Bool → Answer → Bool
mark_of open_too hold = true
mark_of open_too fail = false
mark_of open_too stay_open = open_too

abbrev pub marked : Bool → List (List Answer) → List (List Bool)
marked open_too rows = map (map (mark_of open_too)) rows

-- each row gets a column of its own where it holds; or where it may hold; or it doesn't
abbrev pub TableComes : List (List Answer) → Answer → Type 0
TableComes rows hold = HasMatching (marked false rows)
TableComes rows stay_open = (HasMatching (marked false rows) → ⊥) × HasMatching (marked true rows)
TableComes rows fail = HasMatching (marked true rows) → ⊥

-- the answers in a column
abbrev pub column_answers : List (List Answer) → ℕ → List Answer
column_answers rows column = map (λ (row : List Answer). slice_index_or row column fail) rows

-- ---- the best and the worst
-- one holds; or none holds and one is open; or all fail
abbrev pub IsBest : List Answer → Answer → Type 0
IsBest xs hold = Contains xs hold
IsBest xs stay_open = (Contains xs hold → ⊥) × Contains xs stay_open
IsBest xs fail = (Contains xs hold → ⊥) × (Contains xs stay_open → ⊥)

-- all hold; or none is open and one fails; or one is open
abbrev pub IsWorst : List Answer → StateVerdict → Type 0
IsWorst xs Good = (Contains xs stay_open → ⊥) × (Contains xs fail → ⊥)
IsWorst xs Differs = (Contains xs stay_open → ⊥) × Contains xs fail
IsWorst xs Open = Contains xs stay_open

-- of both ways
abbrev pub worse : StateVerdict → StateVerdict → StateVerdict
worse Open b = Open
worse Differs Open = Open
worse Differs Differs = Differs
worse Differs Good = Differs
worse Good b = b

-- none is open, and maybe one fails
abbrev pub settled_verdict : Bool → StateVerdict
settled_verdict true = Differs
settled_verdict false = Good

-- the verdict of the best answers of all rows, and of those of so many columns
pub record IsVerdictOn (rows : List (List Answer)) (count : ℕ) (v : StateVerdict) : Type 0 where
  pub row_bests : List Answer
  pub are_row_bests : AllZip IsBest rows row_bests
  pub by_rows : StateVerdict
  pub are_by_rows : IsWorst row_bests by_rows
  pub column_bests : List Answer
  pub long : length column_bests ≡ count
  pub are_column_bests : (column : ℕ) → column < count → IsBest (column_answers rows column) (slice_index_or column_bests column fail)
  pub by_columns : StateVerdict
  pub are_by_columns : IsWorst column_bests by_columns
  pub is : v ≡ worse by_rows by_columns
