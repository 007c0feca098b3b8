use Rattle.std.proofs.Common.{map}
use Rattle.std.specs.String.{string_bytes}
use Rattle.std.specs.BTreeMap.{get_by_text}
use Rattle.data_theory.proofs.IndexLemmas.{known_once}
use Rattle.data_theory.proofs.names.Names.differ.Goals as goal

pub returns : goal.returns
returns c = rw (← c.self.view_is) (known_once (get_by_text c.self.inside.index) (map string_bytes c.self.inside.texts.items) c.self.invariant)
