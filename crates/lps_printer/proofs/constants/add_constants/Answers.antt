use Rattle.std.proofs.Common.{◌≡◌, ◌+◌, ◌<◌, Some, codes, length, map, drop, get_or, rules, sym, ap, ◌∙◌, subst, arith}
use Rattle.std.proofs.Math.ListN.{set, length-set}
use Rattle.std.proofs.lemmas.List.{length-map}
use Rattle.data_theory.specs.declared.ids.FunId.{FunId}
use Rattle.data_theory.specs.Signature.{Sig, with_taken}
use Rattle.data_theory.proofs.IdGrowthLemmas.{with_a_text_it_is_grown, growth_after_growth_is_growth}
use Rattle.term_pool.proofs.DeclaredConstants.{grown_as, grown_itself}
use Rattle.lps_printer.specs.AddedConstants.{result_in, with_constants, bare_table, AddsEach, none_left}
use Rattle.lps_printer.proofs.NameTables.{read_alike}
use Rattle.lps_printer.proofs.CodeActions.{some_of, nothing_left}
use Rattle.lps_printer.proofs.AddedConstants.{constant_grows, one_function_more, next_constant, next_entry, constants_begun}
use Rattle.lps_printer.proofs.constants.add_constants.Goals as goal

pub returns-in_err-constants-clause-grown : goal.returns-in_err-constants-clause-grown
returns-in_err-constants-clause-grown c = grown_itself c.args.sig.now

pub returns-then-is_empty-clause-grown : goal.returns-then-is_empty-clause-grown
returns-then-is_empty-clause-grown c = grown_itself c.args.sig.now

pub returns-in_err-take_name-clause-grown : goal.returns-in_err-take_name-clause-grown
returns-in_err-take_name-clause-grown c = grown_as c.args.sig.now c.take_name.new.self c.args.sig.now c.in_err-take_name.ensures.unchanged (grown_itself c.args.sig.now)

pub loop-nil-init : goal.loop-nil-init
loop-nil-init c =
    let g = c.args.sig.now in
    let nils = c.args.nils.now in
    let taken : c.take_name.new.self ≡ with_taken g (codes "nil") = c.in_ok-take_name.ensures.taken in
    let items : c.in_ok-constants.constants.items ≡ bare_table g = search rules in
    let many : length c.take_name.new.self.functions ≡ length g.functions = ap (λ (k : Sig). length k.functions) taken in
    let long : length c.in_ok-constants.constants.items ≡ length g.functions = search rules in
    (grown_as g c.take_name.new.self (with_taken g (codes "nil")) taken (with_a_text_it_is_grown g (codes "nil")), long, (λ i. with_constants (many i) nils (items i)), λ final run. subst (λ k. AddsEach k (map (result_in g) nils) final) taken run)

pub loop-nil-preserved : goal.loop-nil-preserved
loop-nil-preserved c =
    let g = c.args.sig.now in
    let h = c.loop-nil.sig in
    let k = c.add_constant.new.sig in
    let nils = c.args.nils.now in
    let i = c.loop-nil.nil-index in
    let x : FunId = get_or nils i (record { 0 = 0 }) in
    let l : i < length nils = c.loop-nil-test.true in
    let is : x ≡ get_or nils i x = read_alike nils i (record { 0 = 0 }) x l in
    let one = c.in_ok-add_constant.ensures.added in
    let inv = c.loop-nil.invariant in (
      growth_after_growth_is_growth g h k inv.0 (constant_grows h k (result_in h x) one),
      length-set c.loop-nil.constants.items x.0 (Some c.in_ok-add_constant.field-0) ∙ inv.1,
      ap (λ n. with_constants n (drop (i + 1) nils) (set c.loop-nil.constants.items x.0 (Some c.in_ok-add_constant.field-0))) (one_function_more h k (result_in h x) one) ∙ next_entry (length h.functions) nils i x c.in_ok-add_constant.field-0 c.loop-nil.constants.items l is c.in_ok-add_constant.ensures.number ∙ inv.2,
      λ final a. inv.3 final (next_constant g h k nils i x final l is inv.0 (c.requires i (record { 0 = 0 }) l) one a),
    )

pub returns-clause-added : goal.returns-clause-added
returns-clause-added c =
    let g = c.args.sig.now in
    let nils = c.args.nils.now in
    let i = c.loop-nil.nil-index in
    let some = some_of nils (sym c.is_empty.ensures ∙ c.if-is_empty.false) in
    let end : length nils ≡ i = omega arith in
    let none = nothing_left (result_in g) nils i end in
    constants_begun g c.loop-nil.sig (map (result_in g) nils) (omega (arith, some, length-map nils (result_in g)))
    (c.loop-nil.invariant.3 c.loop-nil.sig (subst (λ ss. AddsEach c.loop-nil.sig ss c.loop-nil.sig) (sym none) none_left))
