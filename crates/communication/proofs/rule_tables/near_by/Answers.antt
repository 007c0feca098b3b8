use Rattle.communication.proofs.NamedRules.{near_one, near_none}
use Rattle.communication.proofs.rule_tables.near_by.Goals as goal

pub returns-in-Some : goal.returns-in-Some
returns-in-Some c = near_one c.args.rules.now c.one_of.result.now c.args.name c.in-Some.place.now c.args.places.now.entries c.requires c.in-Some.ensures.value c.one_of.ensures

pub returns-in-None : goal.returns-in-None
returns-in-None c = near_none c.args.rules.now c.args.name c.args.places.now.entries c.requires c.in-None.ensures.value
