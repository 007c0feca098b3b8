-- The way through a process term: its parts in the order of the text, and between them where variables come into scope and leave it.
use Rattle.std.specs.Prelude.{◌-◌, List, [], ◌∷◌, ◌++◌, map, length, take}
use Rattle.process_terms.specs.Processes.{Around, allow, block, hide, rename, comm}
use Rattle.sort_table.specs.BareProcesses as bare
use Rattle.sort_table.specs.BareProcesses.{Variables, Process, Processes}
use Rattle.sort_checker.specs.Operators.{renaming_of, rule_of}
use Rattle.sort_checker.specs.Parts.{Part, a_label, a_call, a_condition, an_operator, ScopedPart, scoped}

pub data Stop : Type 0 where
  enter : Variables → Stop
  leave : Variables → Stop
  at : Part → Stop

abbrev mutual
  pub stops_in : Process → List Stop
  stops_in bare.delta = []
  stops_in (bare.acts as_) = at (a_label as_) ∷ []
  stops_in (bare.call p ds) = at (a_call p ds) ∷ []
  stops_in (bare.allow sets p) = at (an_operator (allow sets)) ∷ stops_in p
  stops_in (bare.block ns p) = at (an_operator (block ns)) ∷ stops_in p
  stops_in (bare.hide ns p) = at (an_operator (hide ns)) ∷ stops_in p
  stops_in (bare.rename rs p) = at (an_operator (rename (map renaming_of rs))) ∷ stops_in p
  stops_in (bare.comm cs p) = at (an_operator (comm (map rule_of cs))) ∷ stops_in p
  stops_in (bare.sequence ps) = stops_in_all ps
  stops_in (bare.sum ys p) = enter ys ∷ (stops_in p ++ leave ys ∷ [])
  stops_in (bare.when e p) = at (a_condition e) ∷ stops_in p
  stops_in (bare.either e p q) = at (a_condition e) ∷ (stops_in p ++ stops_in q)
  stops_in (bare.sync ps) = stops_in_all ps
  stops_in (bare.left_merge p q) = stops_in p ++ stops_in q
  stops_in (bare.parallel ps) = stops_in_all ps
  stops_in (bare.choice ps) = stops_in_all ps

  pub stops_in_all : Processes → List Stop
  stops_in_all bare.none = []
  stops_in_all (bare.more p ps) = stops_in p ++ stops_in_all ps

-- the variables without the last ones, as many as these
abbrev pub without : Variables → Variables → Variables
without ys xs = take (length xs - length ys) xs

-- the variables in scope behind a stop
abbrev pub variables_behind : Variables → Stop → Variables
variables_behind xs (enter ys) = xs ++ ys
variables_behind xs (leave ys) = without ys xs
variables_behind xs (at p) = xs

-- the part at a stop, with the variables in scope
abbrev pub part_at : Variables → Stop → List ScopedPart
part_at xs (enter ys) = []
part_at xs (leave ys) = []
part_at xs (at p) = scoped xs p ∷ []

-- the parts, each with the variables in scope
abbrev pub scoped_along : Variables → List Stop → List ScopedPart
scoped_along xs [] = []
scoped_along xs (enter ys ∷ ss) = scoped_along (xs ++ ys) ss
scoped_along xs (leave ys ∷ ss) = scoped_along (without ys xs) ss
scoped_along xs (at p ∷ ss) = scoped xs p ∷ scoped_along xs ss

abbrev pub operators_by : Stop → List Around
operators_by (at (an_operator o)) = o ∷ []
operators_by _ = []
