-- What is left of a linear process where some of its parameters go.
use Rattle.std.specs.Prelude.{Bool, List, [], ◌∷◌, map, cond, option_map}
use Rattle.bisim_laws.specs.BaseStates.{Fate, kept, constant, not_needed}
use Rattle.lps_core.specs.PlainLinears.{PlainSummand, PlainLinear}

-- what stands at the places that are kept
abbrev pub keep : {A : Type 0} → List Fate → List A → List A
keep [] xs = []
keep (f ∷ fates) [] = []
keep (kept ∷ fates) (x ∷ xs) = x ∷ keep fates xs
keep (constant t ∷ fates) (x ∷ xs) = keep fates xs
keep (not_needed ∷ fates) (x ∷ xs) = keep fates xs

-- a summand with the next terms of the kept parameters
abbrev pub kept_summand : List Fate → PlainSummand → PlainSummand
kept_summand fates s = record { sums = s.sums; condition = s.condition; label = s.label; next = option_map (keep fates) s.next }

-- the kept parameters with their initial and next terms; nothing else changes
abbrev pub kept_linear : List Fate → PlainLinear → PlainLinear
kept_linear fates l = record { params = keep fates l.params; init = keep fates l.init; summands = map (kept_summand fates) l.summands }

-- marks as fates
abbrev pub fate_of : Bool → Fate
fate_of mark = cond mark kept not_needed

abbrev pub fates_of : List Bool → List Fate
fates_of marks = map fate_of marks
