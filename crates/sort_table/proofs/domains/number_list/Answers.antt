use Rattle.std.proofs.Common.{◌≡◌, ◌+◌, ◌∙◌, ℕ, List, Bool, false, cond, sym, ap}
use Rattle.std.specs.Prelude.{Option, Some, is_some}
use Rattle.std.specs.BTreeMap.{btree_map_len}
use Rattle.sort_table.specs.Domains.{value_under}
use Rattle.sort_table.proofs.DomainLemmas.{updated_under, numbering_more, numbers_kept}
use Rattle.sort_table.proofs.domains.number_list.Goals as goal

pub returns-clause-sound : goal.returns-clause-sound
returns-clause-sound c =
    let code : List ℕ = c.in_ok-code.code.items in
    let absent : is_some (value_under c.args.numbers.now code) ≡ false = ap (λ (cs : List ℕ). is_some (value_under c.args.numbers.now cs)) (sym c.as_slice.ensures.value) ∙ (sym c.contains_key.ensures ∙ c.if-contains_key.false) in
    numbering_more c.args.numbers.now code c.len-number.result c.insert.new.self (updated_under c.args.numbers.now c.insert.new.self code (Some c.len-number.result) c.in_ok-insert.ensures.updates) c.len-number.ensures.len
    (c.in_ok-insert.ensures.len ∙ ap (λ (b : Bool). btree_map_len c.args.numbers.now + cond b 0 1) (ap (λ (o : Option ℕ). is_some o) c.in_ok-insert.ensures.old ∙ absent))

pub returns-clause-kept : goal.returns-clause-kept
returns-clause-kept c =
    let code : List ℕ = c.in_ok-code.code.items in
    numbers_kept c.args.numbers.now code c.len-number.result c.insert.new.self (updated_under c.args.numbers.now c.insert.new.self code (Some c.len-number.result) c.in_ok-insert.ensures.updates)
    (ap (λ (cs : List ℕ). is_some (value_under c.args.numbers.now cs)) (sym c.as_slice.ensures.value) ∙ (sym c.contains_key.ensures ∙ c.if-contains_key.false))
