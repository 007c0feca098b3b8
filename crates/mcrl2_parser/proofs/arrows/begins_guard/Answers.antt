use Rattle.mcrl2_parser.proofs.ArrowTables.{has_behind}
use Rattle.mcrl2_parser.proofs.arrows.begins_guard.Goals as goal

pub ends_at_arrow-requires : goal.ends_at_arrow-requires
ends_at_arrow-requires c = has_behind c.requires c.in-Ok.ensures.found

pub names_guard-requires : goal.names_guard-requires
names_guard-requires c = has_behind c.requires c.in-Ok.ensures.found
