use Rattle.std.specs.Prelude.{Some}
use Rattle.std.proofs.lemmas.Map.Text.{btree_map_updates_str}
use Rattle.sort_checker.proofs.name_numbers.NameNumbers.put.Goals as goal

pub returns-clause-put : goal.returns-clause-put
returns-clause-put c = btree_map_updates_str c.args.name.now c.args.self.now.numbers c.insert.new.self (Some c.args.number) c.in_ok-insert.ensures.updates
