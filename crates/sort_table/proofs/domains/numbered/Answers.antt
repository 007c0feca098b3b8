use Rattle.std.proofs.Common.{◌≡◌, ◌∙◌, ℕ, List, ap, sym}
use Rattle.std.specs.Prelude.{Option, Some, option_map, option_and_then}
use Rattle.std.specs.Global.{Vec}
use Rattle.sort_table.specs.declared.flat_sorts.FlatSort.{FlatSort}
use Rattle.sort_table.specs.Domains.{sorts_code, value_under, number_under, with_number}
use Rattle.sort_table.proofs.domains.numbered.Goals as goal

pub returns-in-Some-get : goal.returns-in-Some-get
returns-in-Some-get c =
    let by : List FlatSort → Option ℕ = number_under c.args.numbers.now in
    let under : Some c.in-Some-get.number.now ≡ by c.in-Some.sorts.items =
    c.in-Some-get.ensures.value ∙ ap (value_under c.args.numbers.now) (c.as_slice-2.ensures.value ∙ (c.in_ok-code.ensures ∙ ap sorts_code c.as_slice.ensures.value)) in
    ap (λ (o : Option ℕ). option_map {U = ℕ × List FlatSort} (λ (k : ℕ). (k, c.in-Some.sorts.items)) o) under
    ∙ ap (λ (o : Option (Vec FlatSort)). option_and_then (with_number by) (option_map (λ (l : Vec FlatSort). l.items) o)) (sym c.in-Some.is)
