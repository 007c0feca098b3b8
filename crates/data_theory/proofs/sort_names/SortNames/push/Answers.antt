use Rattle.std.proofs.Common.{ap, ◌∙◌, subst, ◌++◌, ◌∷◌, []}
use Rattle.std.specs.List.{Contains}
use Rattle.data_theory.proofs.SortNameLemmas.{name_pushed}
use Rattle.data_theory.proofs.sort_names.SortNames.push.Goals as goal

pub returns-clause-pushed : goal.returns-clause-pushed
returns-clause-pushed c =
    c.in_ok-insert.ensures.entries
    ∙ name_pushed c.self.inside.sorts.entries c.args.name c.args.sort (λ t h. c.requires (t, subst (λ es. Contains es (c.args.name, t)) c.self.view_is h))
    ∙ ap (λ es. es ++ (c.args.name, c.args.sort) ∷ []) c.self.view_is
