-- Which operands of `|` are actions.
use Rattle.std.specs.Prelude.{Bool, true, false, List, [], ◌∷◌}
use Rattle.std.specs.List.{list_all}
use Rattle.mcrl2_syntax.specs.ProcessParts.{PlainAction}
use Rattle.mcrl2_syntax.specs.ProcessTrees.{PlainProcess, acts}

abbrev pub is_act : PlainProcess → Bool
is_act (acts a) = true
is_act _ = false

-- there are some, and all are actions
abbrev pub are_acts : List PlainProcess → Bool
are_acts [] = false
are_acts (p ∷ ps) = list_all is_act (p ∷ ps)

-- the action that a term is, in front of others
abbrev pub with_act : PlainProcess → List PlainAction → List PlainAction
with_act (acts a) as_ = a ∷ as_
with_act _ as_ = as_

-- the actions among them
abbrev pub acts_among : List PlainProcess → List PlainAction
acts_among [] = []
acts_among (p ∷ ps) = with_act p (acts_among ps)
