use Rattle.std.proofs.Common.{◌∙◌, sym, ap}
use Rattle.std.specs.Prelude.{Some}
use Rattle.sort_table.proofs.NamedSignatures.{name_is_named, new_name}
use Rattle.sort_checker.proofs.SortsByName.{sort_within}
use Rattle.sort_checker.proofs.variable_sorts.numbered_sort.Goals as goal

pub returns-in-Some-clause-means : goal.returns-in-Some-clause-means
returns-in-Some-clause-means c = λ n at.
    ap (λ s. Some s) (c.flat.ensures.means c.args.sig.now c.requires (sort_within c.args.sig.now c.next_sort.ensures.stands c.args.number c.in-Some.sort c.in-Some.ensures))
    ∙ sym (name_is_named c.args.sig.now c.next_sort.ensures.stands c.args.number n at c.in-Some.sort c.in-Some.ensures)

pub returns-in-None-clause-means : goal.returns-in-None-clause-means
returns-in-None-clause-means c = λ n at. sym (new_name c.args.sig.now c.next_sort.ensures.stands c.args.number n at c.in-None.ensures)
