use Rattle.lps_core.proofs.NamingLoops.{is_among}
use Rattle.lps_core.proofs.naming.has_name.Goals as goal

pub returns : goal.returns
returns c = is_among _ _ _ c.contains.ensures
