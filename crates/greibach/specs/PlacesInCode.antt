-- The table of places in code, as plain data.
use Rattle.std.specs.Prelude.{ℕ, List, map, Option, Vec}
use Rattle.std.specs.Global.{Global}
use Rattle.data_theory.specs.declared.ids.ProcId.{ProcId}
use Rattle.data_theory.specs.declared.ids.VarId.{VarId}
use Rattle.data_theory.specs.declared.ids.TermId.{TermId}
use Rattle.process_terms.specs.PlainProcesses.{PlainAction, plain_label}
use Rattle.greibach.specs.declared.places.Part.{Part}
use Rattle.greibach.specs.declared.places.Part.TheVariants as parts
use Rattle.greibach.specs.declared.places.Place.{Place}
use Rattle.greibach.specs.declared.places.Entry.{Entry}
use Rattle.greibach.specs.declared.places.Places.{Places}

pub data PlainPart : Type 0 where
  delta : PlainPart
  act : List PlainAction → PlainPart
  choice : List ℕ → PlainPart
  cond : TermId → ℕ → ℕ → PlainPart
  sum : VarId → ℕ → PlainPart
  call : ℕ → List TermId → PlainPart
  whole : ℕ → PlainPart

abbrev pub plain_part : Part → PlainPart
plain_part parts.Delta = delta
plain_part (parts.Act label) = act (plain_label label.now)
plain_part (parts.Choice operands) = choice operands.items
plain_part (parts.Cond c p q) = cond c p q
plain_part (parts.Sum x p) = sum x p
plain_part (parts.Call x ids) = call x ids.now
plain_part (parts.Whole p) = whole p

pub record PlainPlace : Type 0 where
  pub part : PlainPart
  pub rest : Option ℕ
  pub params : List VarId

abbrev pub plain_place : Place → PlainPlace
plain_place p = record { part = plain_part p.part; rest = p.rest; params = p.params.items }

-- a reached definition: its number, the place of all of it, and its parameters
pub record PlainEntry : Type 0 where
  pub process : ProcId
  pub place : ℕ
  pub params : List VarId

abbrev pub plain_entry : Entry → PlainEntry
plain_entry e = record { process = e.process; place = e.place; params = e.params.now }

pub record PlainPlaces : Type 0 where
  pub places : List PlainPlace
  pub start : ℕ
  pub entries : List PlainEntry

abbrev pub plain_places : Places → PlainPlaces
plain_places t = record { places = map plain_place t.places.items; start = t.start; entries = map plain_entry t.entries.items }

-- calls in code
abbrev pub plain_calls : List (ℕ × Vec TermId Global) → List (ℕ × List TermId)
plain_calls cs = map (λ c. (c.0, c.1.items)) cs
