use Rattle.std.proofs.Common.{List, map, sym, subst}
use Rattle.std.specs.Str.{IsUtf8}
use Rattle.std.specs.List.{AllByRecursion}
use denote.Ref.{Bor}
use Rattle.mcrl2_syntax.specs.Declarations.{spec_of}
use Rattle.sort_table.specs.Expressions.{Name}
use Rattle.sort_table.specs.Built.{AreNamesOfAll}
use Rattle.sort_table.proofs.TextNames.{unknown_holds, cycle_holds}
use Rattle.sort_table.proofs.building.build.Goals as goal

abbrev names_now : List (Bor Name) → List Name
names_now xs = map (λ (t : Bor Name). t.now) xs

pub enter_bytes-requires : goal.enter_bytes-requires
enter_bytes-requires c =
    let uses = rw c.in-Some.is at c.in_ok-number.ensures in
    unknown_holds IsUtf8 (spec_of c.args.spec.now).sections c.in-Some.number c.in-Some.name.now c.requires.text uses

pub enter_all-requires : goal.enter_all-requires
enter_all-requires c =
    let first = rw c.in-Some-2.is at c.in_ok-cycle.ensures in
    subst (λ xs. AllByRecursion IsUtf8 (names_now xs)) (sym c.as_slice.ensures.value) (cycle_holds IsUtf8 (spec_of c.args.spec.now).sections (names_now c.in-Some-2.cycle.items) c.requires.text first.0)

pub returns-in-Some-2-clause-refused : goal.returns-in-Some-2-clause-refused
returns-in-Some-2-clause-refused c =
    let first = rw c.in-Some-2.is at c.in_ok-cycle.ensures in
    let known = rw c.in_default.is at c.in_ok-number.ensures in
    (names_now c.in-Some-2.cycle.items, subst (λ xs. AreNamesOfAll c.enter_all.new.names c.in_ok-enter_all.field-0.items (names_now xs)) c.as_slice.ensures.value c.in_ok-enter_all.ensures.ids, (known, first))
