use Rattle.std.proofs.Common.{sym, ap, ◌∙◌, take, map}
use Rattle.data_theory.specs.Functions.{key_of, functions_of}
use Rattle.data_theory.proofs.PlaceLemmas.{map_taken}
use Rattle.data_theory.proofs.functions.Functions.truncate.Goals as goal

pub invariant_of-self : goal.invariant_of-self
invariant_of-self c = record {
  keyed = c.truncate.ensures ∙ ap (take c.args.length) c.self.invariant.keyed ∙ sym (map_taken key_of c.args.length (functions_of c.self.inside.entries.items)) ∙ ap (map key_of) (sym c.cut.ensures.entries);
  named = c.cut.ensures.named;
}

pub returns : goal.returns
returns c = c.cut.ensures.entries ∙ ap (take c.args.length) c.self.view_is
