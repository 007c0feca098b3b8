-- How conditions come out together.
use Rattle.std.specs.Prelude.{◌⊎◌, List}
use Rattle.std.specs.List.{AllByRecursion, Contains}
use Rattle.data_theory.specs.Rewriting.{IsDecided, Decision, yes_decided, no_decided, stuck, spent}
use Rattle.data_theory.specs.Terms.{Term}
use Rattle.trace_replay.specs.Settings.{Setting, data_in}

-- the condition is decided so, with the fuel of the setting
abbrev pub Decides : Setting → Decision → Term → Type 0
Decides s d t = IsDecided (data_in s) s.equations s.fuel t d

-- it isn't decided: it stays stuck, or its fuel is spent
abbrev pub IsOpen : Setting → Term → Type 0
IsOpen s t = Decides s stuck t ⊎ Decides s spent t

pub data Answer : Type 0 where
  hold : Answer
  fail : Answer
  stay_open : Answer

-- All of the conditions are decided Yes; one is decided No; or none is decided No and one isn't decided. Each has its own fuel.
pub data ComeOut (s : Setting) (cs : List Term) : Answer → Type 0 where
  all_hold : AllByRecursion (Decides s yes_decided) cs → ComeOut s cs hold
  one_fails : {c : Term} → Contains cs c → Decides s no_decided c → ComeOut s cs fail
  one_is_open : {c : Term} → AllByRecursion (λ (d : Term). Decides s yes_decided d ⊎ IsOpen s d) cs → Contains cs c → IsOpen s c → ComeOut s cs stay_open
