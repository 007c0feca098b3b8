use Rattle.std.proofs.Common.{◌≡◌, ◌==◌, ◌++◌, false, Some, ◌∷◌, [], ap, ◌∙◌, subst, arith, length, rules}
use Rattle.std.specs.Prelude.{codes, slice_get}
use Rattle.std.proofs.lemmas.Option.{slice_get_within}
use Rattle.indexmap.proofs.CallerLemmas.{insert_entry-new}
use Rattle.data_theory.specs.declared.ids.SortId.{SortId}
use Rattle.data_theory.specs.Signature.{Sig}
use Rattle.data_theory.specs.Fresh.{IsFreshIn}
use Rattle.data_theory.proofs.NameLemmas.{on_ok}
use Rattle.term_pool.specs.Constants.{is_listed, DeclaresConstant}
use Rattle.term_pool.proofs.DeclaredConstants.{bare_is_named, name_of_bare, name_within, fresh_is_absent, grown_as, grown_itself, fresh_grows, constant_grows, unlisted}
use Rattle.term_pool.proofs.pool.Pool.declare_constant.Goals as goal
use Rattle.term_pool.proofs.pool.Pool.declare_constant.Goals.{After-drop-base-2}

pub returns-in_err-reserve-clause-grown : goal.returns-in_err-reserve-clause-grown
returns-in_err-reserve-clause-grown c = grown_itself c.args.sig.now

pub sort_name-requires-clause-within : goal.sort_name-requires-clause-within
sort_name-requires-clause-within c = slice_get_within c.args.sig.now.sorts c.args.sort.0 c.requires.bare.0 c.requires.bare.1

pub sort_name-requires-clause-declared : goal.sort_name-requires-clause-declared
sort_name-requires-clause-declared c = bare_is_named c.args.sig.now c.names-names.ensures.stands c.args.sort c.requires.bare

pub text-text-requires : goal.text-text-requires
text-text-requires c =
    let low = name_within c.args.sig.now c.names-names.ensures.stands c.args.sort c.sort_name.result c.requires.bare c.sort_name.ensures in
    omega (arith, low, ap length c.names-names.ensures.texts)

pub returns-in_err-base-clause-grown : goal.returns-in_err-base-clause-grown
returns-in_err-base-clause-grown c = grown_itself c.args.sig.now

pub returns-in_err-name-clause-grown : goal.returns-in_err-name-clause-grown
returns-in_err-name-clause-grown c = grown_as c.args.sig.now c.fresh.new.self c.args.sig.now c.in_err-name.ensures.unchanged (grown_itself c.args.sig.now)

pub add_map-requires-clause-name : goal.add_map-requires-clause-name
add_map-requires-clause-name c = slice_get_within c.fresh.new.self.texts c.in_ok-name.name.0 c.in_ok-name.ensures.fresh.text c.in_ok-name.ensures.fresh.named

pub add_map-requires-clause-to : goal.add_map-requires-clause-to
add_map-requires-clause-to c =
    let low = slice_get_within c.args.sig.now.sorts c.args.sort.0 c.requires.bare.0 c.requires.bare.1 in
    omega (arith, low, ap (λ (s : Sig). length s.sorts) c.in_ok-name.ensures.fresh.taken)

pub add_map-requires-clause-absent : goal.add_map-requires-clause-absent
add_map-requires-clause-absent c = fresh_is_absent c.args.sig.now c.names-names.ensures.stands c.as_str.result.now c.in_ok-name.name c.fresh.new.self c.in_ok-name.ensures.fresh

pub returns-in_err-constant-clause-grown : goal.returns-in_err-constant-clause-grown
returns-in_err-constant-clause-grown c =
    grown_as c.args.sig.now c.add_map.new.self c.fresh.new.self c.in_err-constant.ensures.unchanged (fresh_grows c.args.sig.now c.as_str.result.now c.in_ok-name.name c.fresh.new.self c.in_ok-name.ensures.fresh)

-- there was room for the constant
listed : (c : After-drop-base-2) → c.insert.new.self.entries ≡ c.args.self.now.constants ++ (c.args.sort, record { 0 = length c.fresh.new.self.functions }) ∷ []
listed c =
    let old : c.reserve.new.self.entries ≡ c.args.self.now.constants = c.in_ok-reserve.ensures.entries ∙ ap (λ t. t.constants) c.self.view_is in
    let absent : is_listed c.reserve.new.self.entries c.args.sort ≡ false = ap (λ cs. is_listed cs c.args.sort) old ∙ c.requires.absent in
    let none = unlisted c.reserve.new.self.entries c.args.sort absent in
    let entries = on_ok c.insert.result (c.insert.ensures.succeeds c.in_ok-reserve.ensures.ok) c.insert.ensures.entries in
    let appended = insert_entry-new (λ (x : SortId) (y : SortId). x.0 == y.0) c.reserve.new.self c.args.sort c.in_ok-constant.constant none in
    let number : c.in_ok-constant.constant ≡ record { 0 = length c.fresh.new.self.functions } = ap (λ n. record { 0 = n }) c.in_ok-constant.ensures.number in
    entries ∙ (appended ∙ (λ i. old i ++ (c.args.sort, number i) ∷ []))

declared : (c : After-drop-base-2) → DeclaresConstant c.args.sort c.args.sig.now c.args.self.now.constants c.add_map.new.self c.insert.new.self.entries
declared c =
    let base : c.as_str.result.now ≡ codes "dc_" ++ c.text-text.result.now = search rules in
    record {
      text = c.text-text.result.now;
      sort_named = (c.requires.bare.0, c.sort_name.result, c.requires.bare.1, name_of_bare c.args.sig.now c.args.sort c.sort_name.result c.requires.bare c.sort_name.ensures, subst (λ ts. slice_get ts c.sort_name.result.0 ≡ Some c.text-text.result.now) c.names-names.ensures.texts c.text-text.ensures);
      name = c.in_ok-name.name;
      between = c.fresh.new.self;
      fresh = subst (λ base. IsFreshIn c.args.sig.now base c.in_ok-name.name c.fresh.new.self) base c.in_ok-name.ensures.fresh;
      declared = c.in_ok-constant.ensures.added;
      listed = listed c;
    }

pub returns-clause-declared : goal.returns-clause-declared
returns-clause-declared c = declared c

pub returns-clause-grown : goal.returns-clause-grown
returns-clause-grown c = constant_grows c.args.sort c.args.sig.now c.args.self.now.constants c.add_map.new.self c.insert.new.self.entries (declared c)
