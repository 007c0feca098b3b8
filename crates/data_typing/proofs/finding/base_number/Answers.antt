use Rattle.std.proofs.Common.{rules, length, sym, subst, ap, ◌∙◌}
use Rattle.data_theory.proofs.IdSymbolLemmas.{boolean_is, positive_is, natural_is, integer_is}
use Rattle.data_typing.specs.FlatSorts.{base_sort}
use Rattle.data_typing.specs.Within.{IsBaseWithin}
use Rattle.data_typing.proofs.FindingLemmas.{named_at}
use Rattle.data_typing.proofs.finding.base_number.Goals as goal

pub returns-in-Bool-clause-means : goal.returns-in-Bool-clause-means
returns-in-Bool-clause-means c = boolean_is c.args.sig.now c.next_sort.ensures.stands.table ∙ ap base_sort (sym c.in-Bool.is)

pub returns-in-Pos-clause-means : goal.returns-in-Pos-clause-means
returns-in-Pos-clause-means c = positive_is c.args.sig.now c.next_sort.ensures.stands.table ∙ ap base_sort (sym c.in-Pos.is)

pub returns-in-Nat-clause-means : goal.returns-in-Nat-clause-means
returns-in-Nat-clause-means c = natural_is c.args.sig.now c.next_sort.ensures.stands.table ∙ ap base_sort (sym c.in-Nat.is)

pub returns-in-Int-clause-means : goal.returns-in-Int-clause-means
returns-in-Int-clause-means c = integer_is c.args.sig.now c.next_sort.ensures.stands.table ∙ ap base_sort (sym c.in-Int.is)

pub returns-in-Named-clause-means : goal.returns-in-Named-clause-means
returns-in-Named-clause-means c = (named_at c.args.sig.now c.args.named.now c.requires.named c.in-Named.number _ (subst (IsBaseWithin (length c.args.named.now)) c.in-Named.is c.requires.there) (search rules)).1 ∙ ap base_sort (sym c.in-Named.is)

pub returns-in-Named-clause-within : goal.returns-in-Named-clause-within
returns-in-Named-clause-within c = (named_at c.args.sig.now c.args.named.now c.requires.named c.in-Named.number _ (subst (IsBaseWithin (length c.args.named.now)) c.in-Named.is c.requires.there) (search rules)).0
