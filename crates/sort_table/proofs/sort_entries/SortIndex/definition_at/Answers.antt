use Rattle.std.proofs.Common.{◌≡◌, ◌∙◌, sym, ap, arith}
use Rattle.std.specs.Prelude.{Some}
use Rattle.std.proofs.lemmas.Option.{none-some, same_Some}
use Rattle.sort_table.specs.SortIndexes.{kind_of}
use Rattle.sort_table.specs.IndexedKinds.{kinds_of_index}
use Rattle.sort_table.proofs.FirstPlaces.{is_first, first_there, first_kind}
use Rattle.sort_table.proofs.sort_entries.SortIndex.definition_at.Goals as goal

pub returns-in_default-clause-first : goal.returns-in_default-clause-first
returns-in_default-clause-first c = λ n k first.
    absurd (none-some c.args.place (sym c.in_default.is ∙ (c.find.ensures ∙ first_there (kinds_of_index c.args.self.now) c.args.place c.get.result.0.now n (kind_of c.get.result.1) k c.get.ensures first)))

pub returns-then-first-place-clause-first : goal.returns-then-first-place-clause-first
returns-then-first-place-clause-first c = λ n k first.
    let same : c.in-Some.first ≡ c.args.place = same_Some c.in-Some.first c.args.place (sym c.in-Some.is ∙ (c.find.ensures ∙ first_there (kinds_of_index c.args.self.now) c.args.place c.get.result.0.now n (kind_of c.get.result.1) k c.get.ensures first)) in
    absurd (omega (arith, same))

pub returns-clause-first : goal.returns-clause-first
returns-clause-first c = λ n k first. first_kind (kinds_of_index c.args.self.now) c.args.place c.get.result.0.now n (kind_of c.get.result.1) k c.get.ensures first

pub returns-clause-only : goal.returns-clause-only
returns-clause-only c =
    let same : c.in-Some.first ≡ c.args.place = omega arith in
    (c.get.result.0.now, is_first (kinds_of_index c.args.self.now) c.args.place c.get.result.0.now (kind_of c.get.result.1) c.get.ensures (sym c.find.ensures ∙ (c.in-Some.is ∙ ap (λ i. Some i) same)))
