use Rattle.std.proofs.Common.{◌≡◌, codes, subst, []}
use Rattle.std.proofs.lemmas.Result.{on_ok_weaker}
use Rattle.data_theory.specs.declared.ids.SortId.{SortId}
use Rattle.data_theory.specs.Functions.{declared_function}
use Rattle.data_theory.specs.Signature.{with_function}
use Rattle.data_theory.proofs.IdGrowthLemmas.{growth_after_growth_is_growth}
use Rattle.term_pool.proofs.DeclaredConstants.{fresh_is_absent, grown_as, grown_itself, fresh_grows}
use Rattle.lps_printer.proofs.AddedConstants.{result_told, grown_by_one}
use Rattle.lps_printer.proofs.constants.add_constant.Goals as goal

pub returns-in_err-name-clause-grown : goal.returns-in_err-name-clause-grown
returns-in_err-name-clause-grown c = grown_as c.args.sig.now c.fresh.new.self c.args.sig.now c.in_err-name.ensures.unchanged (grown_itself c.args.sig.now)

pub add_map-requires-clause-absent : goal.add_map-requires-clause-absent
add_map-requires-clause-absent c = fresh_is_absent c.args.sig.now c.names.ensures.stands (codes "nil") c.in_ok-name.name c.fresh.new.self c.in_ok-name.ensures.fresh

pub returns-clause-grown : goal.returns-clause-grown
returns-clause-grown c =
    growth_after_growth_is_growth c.args.sig.now c.fresh.new.self c.add_map.new.self (fresh_grows c.args.sig.now (codes "nil") c.in_ok-name.name c.fresh.new.self c.in_ok-name.ensures.fresh)
    (grown_by_one c.add_map.result c.fresh.new.self c.add_map.new.self (declared_function c.in_ok-name.name [] c.sort_of-sort.result) c.add_map.ensures.added c.add_map.ensures.unchanged)

pub returns-clause-added : goal.returns-clause-added
returns-clause-added c =
    let sort = result_told c.args.sig.now c.args.nil c.sort_of-sort.result c.requires c.sort_of-sort.ensures in
    on_ok_weaker c.add_map.result (λ added. record {
      name = c.in_ok-name.name;
      between = c.fresh.new.self;
      fresh = c.in_ok-name.ensures.fresh;
      declared = subst (λ (s : SortId). c.add_map.new.self ≡ with_function c.fresh.new.self (declared_function c.in_ok-name.name [] s)) sort added;
    }) c.add_map.ensures.added
