use Rattle.std.proofs.Common.{◌≤◌, ◌+◌, length, arith, sym, subst}
use Rattle.lps_core.proofs.Members.{all_at}
use Rattle.lps_core.proofs.NamedSums.{names_then}
use Rattle.regular_encoder.specs.FormColumns.{IsKindIn}
use Rattle.stack_encoder.proofs.NewWords.{IsNamingFields, naming_none, naming_next, naming_all, text_within}
use Rattle.stack_encoder.proofs.symbols.column_fields.Goals as goal

pub loop-number-init : goal.loop-number-init
loop-number-init c = subst (λ z. IsNamingFields c.args.sig.now c.args.kinds.now.keys 0 c.args.sig.now z) (sym c.new-fields.ensures.items) (naming_none c.args.sig.now c.args.kinds.now.keys c.signature_stands.ensures)

pub fresh_from-requires : goal.fresh_from-requires
fresh_from-requires c =
    text_within c.args.sig.now c.loop-number.sig c.index.result.now.0 c.loop-number.invariant.grown.grown (all_at (IsKindIn c.args.sig.now) c.args.kinds.now.keys c.loop-number.number c.index.result.now c.requires c.index.ensures).0

pub returns-in_err-push-clause-grown : goal.returns-in_err-push-clause-grown
returns-in_err-push-clause-grown c = names_then c.args.sig.now c.loop-number.sig c.fresh_from.new.sig c.loop-number.invariant.grown c.fresh_from.ensures.grown

pub loop-number-preserved : goal.loop-number-preserved
loop-number-preserved c =
    let f = c.in_ok-fresh_from.ensures.fresh in
    subst (λ z. IsNamingFields c.args.sig.now c.args.kinds.now.keys (c.loop-number.number + 1) c.fresh_from.new.sig z) (sym c.in_ok-push.ensures.items)
    (naming_next c.args.sig.now c.args.kinds.now.keys c.loop-number.number c.loop-number.sig c.loop-number.fields.items c.index.result.now c.loop-number.invariant c.index.ensures
    (all_at (IsKindIn c.args.sig.now) c.args.kinds.now.keys c.loop-number.number c.index.result.now c.requires c.index.ensures).0 c.fresh_from.new.sig f.0 c.in_ok-fresh_from.field-0 f.1 f.2 c.fresh_from.ensures.grown)

pub returns-clause-names : goal.returns-clause-names
returns-clause-names c =
    let n = c.loop-number-test.false in
    let e = c.len-number-end.ensures.len in
    let l : length c.args.kinds.now.keys ≤ c.loop-number.number = omega (arith, n, e) in
    (naming_all c.args.sig.now c.args.kinds.now.keys c.loop-number.number c.loop-number.sig c.loop-number.fields.items c.loop-number.invariant l).0

pub returns-clause-sorts : goal.returns-clause-sorts
returns-clause-sorts c =
    let n = c.loop-number-test.false in
    let e = c.len-number-end.ensures.len in
    let l : length c.args.kinds.now.keys ≤ c.loop-number.number = omega (arith, n, e) in
    (naming_all c.args.sig.now c.args.kinds.now.keys c.loop-number.number c.loop-number.sig c.loop-number.fields.items c.loop-number.invariant l).1

pub returns-clause-grown : goal.returns-clause-grown
returns-clause-grown c = c.loop-number.invariant.grown
