use Rattle.std.proofs.Common.{◌≡◌, ◌<◌, ℕ, sym, ap₂, ◌∙◌, subst, length, arith}
use Rattle.std.specs.Prelude.{Some}
use Rattle.data_theory.specs.IdData.{data_meant}
use Rattle.data_typing.specs.declared.flat_sorts.Base.{Base}
use Rattle.data_typing.specs.FlatSorts.{base_sort, lists}
use Rattle.data_typing.specs.Within.{IsBaseWithin}
use Rattle.data_typing.proofs.FindingLemmas.{named_at}
use Rattle.sort_table.specs.NamedSorts.{sort_count}
use Rattle.sort_checker.specs.Faults.{is_plain_sort}
use Rattle.sort_checker.proofs.typed_parts.is_plain_sort.Goals as goal

pub is_no_struct-requires : goal.is_no_struct-requires
is_no_struct-requires c =
    let low : c.in-Named.number < sort_count c.args.sig.now = subst (λ (b : Base). IsBaseWithin (sort_count c.args.sig.now) b) c.in-Named.is c.requires.over in
    let all = c.requires.tables.all_named in
    let inside : c.in-Named.number < length c.args.sorts.now.named.items = omega (arith, low, all) in
    (named_at c.args.sig.now c.args.sorts.now.named.items c.requires.tables.named c.in-Named.number c.index.result.now inside c.index.ensures).0

pub returns-in-Named : goal.returns-in-Named
returns-in-Named c =
    let low : c.in-Named.number < sort_count c.args.sig.now = subst (λ (b : Base). IsBaseWithin (sort_count c.args.sig.now) b) c.in-Named.is c.requires.over in
    let all = c.requires.tables.all_named in
    let inside : c.in-Named.number < length c.args.sorts.now.named.items = omega (arith, low, all) in
    let depth : 0 ≡ c.args.sort.depth = omega arith in
    c.is_no_struct.ensures c.in-Named.number
    (named_at c.args.sig.now c.args.sorts.now.named.items c.requires.tables.named c.in-Named.number c.index.result.now inside c.index.ensures).1
    ∙ ap₂ (λ (n : ℕ) (b : Base). is_plain_sort (data_meant c.args.sig.now) (Some (lists n (base_sort b)))) depth (sym c.in-Named.is)
