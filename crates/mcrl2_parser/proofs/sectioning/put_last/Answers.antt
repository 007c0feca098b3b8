use Rattle.std.proofs.Common.{◌-◌, arith, refl, ap, is_some, vec_len}
use Rattle.mcrl2_parser.proofs.BuiltSections.{put_last}
use Rattle.mcrl2_parser.proofs.sectioning.put_last.Goals as goal

pub returns-in_ok-push_sparing : goal.returns-in_ok-push_sparing
returns-in_ok-push_sparing c =
    put_last c.args.sections.now.items (vec_len c.args.sections.now - 1) c.args.tree c.in-Some.last.now _ (omega (arith, c.args.sections.now.ok.0, c.last_mut.ensures.variant.0 (ap is_some c.in-Some.is))) c.in-Some.ensures.value refl refl c.in_ok-push_sparing.ensures
