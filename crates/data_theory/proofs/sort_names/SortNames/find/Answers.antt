use Rattle.std.proofs.Common.{sym, subst}
use Rattle.std.specs.List.{Contains}
use Rattle.data_theory.proofs.SortNameLemmas.{looked_up, not_looked_up}
use Rattle.data_theory.proofs.sort_names.SortNames.find.Goals as goal

pub returns-in-Some : goal.returns-in-Some
returns-in-Some c = rw (← c.self.view_is) (looked_up c.self.inside.sorts.entries c.args.name c.in-Some.sort.now (sym c.in-Some.ensures.value))

pub returns-in-None : goal.returns-in-None
returns-in-None c = λ n. not_looked_up c.self.inside.sorts.entries c.args.name (sym c.in-None.ensures.value) n.0 (subst (λ es. Contains es (c.args.name, n.0)) (sym c.self.view_is) n.1)
