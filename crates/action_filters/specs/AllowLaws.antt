-- What the law of `allow` says.
use Rattle.std.specs.Prelude.{◌↔◌, List, Contains}
use Rattle.process_terms.specs.Names.{Name}
use Rattle.process_terms.specs.Labels.{names}
use Rattle.bisim_laws.specs.LinearProcesses.{Summand, Linear}
use Rattle.bisim_laws.specs.Completable.{AreAllowed}
use Rattle.action_filters.specs.Filtering.{allowing}

-- it keeps a summand exactly where its label has no names, or those of one of the sets
abbrev pub AllowKeepsExactly : Type 0
AllowKeepsExactly = (sets : List (List Name)) (l : Linear) (s : Summand) → Contains (allowing sets l).summands s ↔ (Contains l.summands s × AreAllowed sets (names s.label))
