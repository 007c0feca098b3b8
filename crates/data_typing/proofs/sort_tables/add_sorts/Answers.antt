use Rattle.std.proofs.Common.{◌≡◌, ◌<◌, ◌≤◌, length, map, subst, ap, ◌∙◌, arith}
use Rattle.data_theory.specs.Sorts.{kind_of}
use Rattle.data_theory.specs.IdSorts.{meant_by, meaning_of}
use Rattle.data_typing.specs.FlatSorts.{flat_sort}
use Rattle.data_typing.specs.NamedSorts.{AreFrontOf}
use Rattle.data_typing.proofs.TableLemmas.{front_more, front_is_flat, front_counts}
use Rattle.data_typing.proofs.sort_tables.add_sorts.Goals as goal

pub loop-i-init : goal.loop-i-init
loop-i-init c =
    let same : length c.args.flats.now.items ≡ c.len-i.result = omega (arith, c.len-i.ensures, c.args.flats.now.ok.0) in
    subst (λ n. AreFrontOf c.args.sig.now n c.args.flats.now.items c.args.named.now.items) same c.requires

pub loop-i-preserved : goal.loop-i-preserved
loop-i-preserved c =
    let within : c.loop-i.i < length c.args.sig.now.sorts = subst (λ n. c.loop-i.i < n) c.next_sort-i-end.ensures.number c.loop-i-test.true in
    let many : c.len.result ≡ length c.loop-i.named.items = omega (arith, c.len.ensures, c.loop-i.named.ok.0) in
    front_more c.args.sig.now c.kind-kind.ensures.stands.table c.loop-i.i c.loop-i.flats.items c.push.new.self.items c.loop-i.named.items c.push_declared.new.named.items (kind_of c.kind-kind.result.now) c.in_ok-flat.flat within c.kind-kind.ensures.kind
    (c.in_ok-flat.ensures ∙ ap (λ xs. meaning_of (meant_by (map flat_sort xs)) c.len.result (kind_of c.kind-kind.result.now)) c.as_slice.ensures.value ∙ ap (λ n. meaning_of (meant_by (map flat_sort c.loop-i.flats.items)) n (kind_of c.kind-kind.result.now)) many)
    c.in_ok-push.ensures.items c.in_ok-push_declared.ensures c.loop-i.invariant

ended : (c : goal.After-loop-i) → length c.args.sig.now.sorts ≤ c.loop-i.i
ended c = omega (arith, c.loop-i-test.false, c.next_sort-i-end.ensures.number)

pub returns-clause-flats : goal.returns-clause-flats
returns-clause-flats c = front_is_flat c.args.sig.now c.loop-i.i c.loop-i.flats.items c.loop-i.named.items (ended c) c.loop-i.invariant

pub returns-clause-named : goal.returns-clause-named
returns-clause-named c = c.loop-i.invariant.declared

pub returns-clause-all_named : goal.returns-clause-all_named
returns-clause-all_named c = front_counts c.args.sig.now c.loop-i.i c.loop-i.flats.items c.loop-i.named.items (ended c) c.loop-i.invariant
