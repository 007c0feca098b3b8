use Rattle.std.proofs.Common.{sym, subst, arith}
use Rattle.std.specs.Prelude.{◌↔◌, IsTrue}
use Rattle.term_pool.specs.ConstructorValues.{HasValue}
use Rattle.term_pool.proofs.EntryValues.{entry_tells, none_beyond}
use Rattle.term_pool.proofs.first_values.has_value.Goals as goal

pub returns-then-sort-len : goal.returns-then-sort-len
returns-then-sort-len c =
    let entries = c.in_ok-entries.entries in
    let beyond = c.if-sort-len.true in
    let length_is = c.len.ensures in
    none_beyond c.args.sig.now entries.items c.in_ok-entries.ensures.entries c.args.sort c.in_ok-entries.ensures.stands (omega (arith, beyond, length_is, entries.ok.0))

pub returns : goal.returns
returns c =
    let entries = c.in_ok-entries.entries in
    let below = c.if-sort-len.false in
    let length_is = c.len.ensures in
    subst (λ found. IsTrue found ↔ HasValue c.args.sig.now c.args.sort) (sym c.is_some.ensures)
    (entry_tells c.args.sig.now entries.items c.in_ok-entries.ensures.entries c.args.sort c.index.result.now (omega (arith, below, length_is, entries.ok.0)) c.index.ensures)
