use Rattle.std.proofs.Common.{◌==◌, sym, ap, ◌∙◌}
use Rattle.std.specs.Prelude.{Vec, List}
use Rattle.std.specs.Global.{Global}
use Rattle.std.specs.List.{list_any}
use Rattle.action_filters.specs.NameTests.{is_nothing}
use Rattle.action_filters.proofs.Loops.{any_at, nothing_is_empty}
use Rattle.communication.specs.declared.plans.Equality.{Equality}
use Rattle.communication.specs.Plans.{equalities_of_each}
use Rattle.communication.proofs.around.is_shut.Goals as goal

pub returns-then-is_empty : goal.returns-then-is_empty
returns-then-is_empty c =
    sym
    (ap (λ z. list_any (λ (qs : List Equality). is_nothing qs) (equalities_of_each z)) (sym c.deref-asked-items.ensures.value)
    ∙ any_at (λ (z : Vec Equality Global). z.items) (λ (qs : List Equality). is_nothing qs) c.deref-asked-items.result.now c.loop-asked.asked-index c.asked-item.result c.asked-item.result c.loop-asked-test.true c.asked-item.is
    (nothing_is_empty c.asked-item.result.items ∙ ap (λ n. n == 0) (sym c.asked-item.result.ok.0) ∙ sym c.is_empty.ensures ∙ c.if-is_empty.true))
