-- Sides and drafts whose terms have the sorts of their places.
use Rattle.std.specs.Prelude.{◌≡◌, List, IfSome}
use Rattle.std.specs.List.{All}
use Rattle.data_theory.specs.declared.ids.SortId.{SortId}
use Rattle.data_theory.specs.declared.ids.VarId.{VarId}
use Rattle.data_theory.specs.Table.{bool_sort}
use Rattle.data_theory.specs.Signature.{Sig}
use Rattle.data_theory.specs.IdTrees.{Tree}
use Rattle.lps_core.specs.Fitting.{IsTermOf, AreTermsOf, IsActionOf, IsVariable, sort_of_variable, SummandFits, HasTakenName}
use Rattle.lps_core.specs.PlainLinears.{PlainSummand}
use Rattle.summand_expander.specs.Drafts.{PlainMove, PlainSide, PlainDraft}

-- a summand of a side with columns of these sorts
pub record MoveFits (g : Sig) (ts : List Tree) (columns : List SortId) (m : PlainMove) : Type 0 where
  pub sums : All (IsVariable g) m.sums
  pub taken : All (HasTakenName g) m.sums
  pub parts : All (IsTermOf g ts bool_sort) m.parts
  pub label : All (IsActionOf g ts) m.label
  pub onward : AreTermsOf g ts columns m.onward

pub record SideFits (g : Sig) (ts : List Tree) (columns : List SortId) (x : PlainSide) : Type 0 where
  pub columns_fit : AreTermsOf g ts columns x.columns
  pub running : All (IsTermOf g ts bool_sort) x.running
  pub flag : IfSome x.flag (IsTermOf g ts bool_sort)
  pub moves : All (MoveFits g ts columns) x.moves

pub record DraftFits (g : Sig) (ts : List Tree) (columns : List SortId) (d : PlainDraft) : Type 0 where
  pub sums : All (IsVariable g) d.sums
  pub taken : All (HasTakenName g) d.sums
  pub parts : All (IsTermOf g ts bool_sort) d.parts
  pub label : All (IsActionOf g ts) d.label
  pub next : IfSome d.next (AreTermsOf g ts columns)

-- a flag is a variable of sort Bool
pub record IsFlagOf (g : Sig) (x : VarId) : Type 0 where
  pub variable : IsVariable g x
  pub sort : sort_of_variable g x ≡ bool_sort

-- a summand that fits, with names of its sums that are taken
pub record FitsWithNames (g : Sig) (ts : List Tree) (params : List VarId) (s : PlainSummand) : Type 0 where
  pub fits : SummandFits g ts params s
  pub taken : All (HasTakenName g) s.sums
