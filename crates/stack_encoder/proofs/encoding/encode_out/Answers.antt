use Rattle.std.proofs.Common.{◌≡◌, IfOk, subst, ap, [], ◌∷◌, None}
use Rattle.lps_core.specs.PlainLinears.{plain_summand}
use Rattle.lps_core.specs.TreeSummands.{trees_of_summand}
use Rattle.greibach.specs.PlainForms.{plain_form_summand}
use Rattle.stack_encoder.specs.Frames.{plain_symbols}
use Rattle.stack_encoder.proofs.StackedTrees.{way_along}
use Rattle.stack_encoder.proofs.encoding.encode_out.Goals as goal

pub returns-clause-summand : goal.returns-clause-summand
returns-clause-summand c =
    subst (λ z. IfOk c.encode_way.result (λ made. trees_of_summand c.encode_way.new.pool.trees (plain_summand made) ≡ z))
    (way_along (plain_symbols c.args.symbols.now) c.args.symbols.now.stack c.args.number c.args.by.now (plain_form_summand c.args.summand.now) c.args.pool.now.trees c.last_part.new.pool.trees _ _
    c.last_part.ensures.kept c.requires.listed c.requires.within (ap (λ t. record { further = t ∷ []; next = None }) c.in_ok-last.ensures.tree))
    c.encode_way.ensures.summand
