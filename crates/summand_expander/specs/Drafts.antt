-- The summands of a product over numbers, with the parts of their conditions.
use Rattle.std.specs.Prelude.{Bool, true, false, List, [], ◌∷◌, ◌++◌, map, flat_map, if◌then◌else◌, Option, Some, None}
use Rattle.data_theory.specs.declared.ids.VarId.{VarId}
use Rattle.data_theory.specs.declared.ids.TermId.{TermId}
use Rattle.process_terms.specs.PlainProcesses.{PlainAction, plain_label}
use Rattle.lps_core.specs.PlainLinears.{plain_next}
use Rattle.summand_expander.specs.declared.sides.Move.{Move}
use Rattle.summand_expander.specs.declared.sides.Side.{Side}
use Rattle.summand_expander.specs.declared.sides.Draft.{Draft}

pub record PlainMove : Type 0 where
  pub sums : List VarId
  pub parts : List TermId
  pub label : List PlainAction
  pub onward : List TermId
  pub ends : Bool

pub record PlainSide : Type 0 where
  pub columns : List TermId
  pub running : List TermId
  pub flag : Option TermId
  pub moves : List PlainMove

pub record PlainDraft : Type 0 where
  pub sums : List VarId
  pub parts : List TermId
  pub label : List PlainAction
  pub next : Option (List TermId)

abbrev pub plain_move : Move → PlainMove
plain_move m = record { sums = m.sums.items; parts = m.parts.items; label = plain_label m.label; onward = m.onward.items; ends = m.ends }

abbrev pub plain_side : Side → PlainSide
plain_side a = record { columns = a.columns.items; running = a.running.items; flag = a.flag; moves = map plain_move a.moves.items }

abbrev pub plain_draft : Draft → PlainDraft
plain_draft d = record { sums = d.sums.items; parts = d.parts.items; label = plain_label d.label; next = plain_next d.next }

-- ---- one side alone
abbrev pub placed : Bool → List TermId → List TermId → List TermId
placed own_first own others = if own_first then (own ++ others) else (others ++ own)

abbrev pub behind : List TermId → PlainMove → Option (List TermId) → PlainDraft
behind ps m next = record { sums = m.sums; parts = ps ++ m.parts; label = m.label; next = next }

-- the part that the other side is running, where the one side ends
abbrev pub beside : PlainMove → PlainSide → List TermId
beside m b = if m.ends then b.running else []

abbrev pub going_alone : Bool → PlainSide → PlainSide → PlainMove → PlainDraft
going_alone own_first a b m = behind (a.running ++ beside m b) m (Some (placed own_first m.onward b.columns))

-- where the other side has ended
abbrev pub with_flag : PlainSide → PlainMove → Option TermId → List PlainDraft
with_flag a m None = []
with_flag a m (Some f) = behind (a.running ++ f ∷ []) m None ∷ []

abbrev pub ending_alone : PlainSide → PlainSide → PlainMove → List PlainDraft
ending_alone a b m = if m.ends then with_flag a m b.flag else []

abbrev pub lone_drafts : Bool → PlainSide → PlainSide → PlainMove → List PlainDraft
lone_drafts own_first a b m = going_alone own_first a b m ∷ ending_alone a b m

-- ---- pairs
abbrev pub next_of_both : PlainMove → PlainMove → Option (List TermId)
next_of_both m n = if m.ends then (if n.ends then None else Some (m.onward ++ n.onward)) else Some (m.onward ++ n.onward)

abbrev pub both_moves : PlainSide → PlainSide → PlainMove → PlainMove → PlainDraft
both_moves a b m n = record { sums = m.sums ++ n.sums; parts = ((a.running ++ b.running) ++ m.parts) ++ n.parts; label = m.label ++ n.label; next = next_of_both m n }

abbrev pub all_drafts : PlainSide → PlainSide → List PlainDraft
all_drafts a b = flat_map (lone_drafts true a b) a.moves ++ (flat_map (lone_drafts false b a) b.moves ++ flat_map (λ m. map (both_moves a b m) b.moves) a.moves)
