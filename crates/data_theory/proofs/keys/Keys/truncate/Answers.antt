use Rattle.std.proofs.Common.{◌∙◌, ap, take}
use Rattle.data_theory.specs.Keys.{keys_at}
use Rattle.data_theory.proofs.KeyLemmas.{keys_taken}
use Rattle.data_theory.proofs.keys.Keys.truncate.Goals as goal

pub returns : goal.returns
returns c = ap (keys_at c.self.inside.lists) c.truncate.ensures.keys ∙ keys_taken c.self.inside.lists c.args.length c.self.inside.places.keys ∙ ap (take c.args.length) c.self.view_is
