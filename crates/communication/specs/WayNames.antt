-- What the law of the names of ways says.
use Rattle.std.specs.Prelude.{List, Contains}
use Rattle.process_terms.specs.Labels.{Label}
use Rattle.process_terms.specs.Communication.{Rule}
use Rattle.bisim_laws.specs.WithinLaws.{ComesFromOpened}
use Rattle.communication.specs.Communicated.{Way, way_label, label_ways}

-- the names of a label are those that a way's names open to
abbrev pub WaysComeFromOpened : Type 0
WaysComeFromOpened = (rules : List Rule) (m : Label) (v : Way) → Contains (label_ways rules m) v → ComesFromOpened rules m (way_label v)
