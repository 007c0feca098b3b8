use Rattle.std.proofs.Common.{map, ap}
use Rattle.data_theory.proofs.IdGrowthLemmas.{growth_after_growth_is_growth}
use Rattle.term_pool.proofs.DeclaredConstants.{grown_itself, constants_stay}
use Rattle.greibach.specs.PlainForms.{plain_equation, plain_form}
use Rattle.regular_encoder.specs.FormColumns.{places_in}
use Rattle.regular_encoder.proofs.LayingOut.{kinds_in, keys_known}
use Rattle.stack_encoder.specs.Frames.{plain_symbols}
use Rattle.stack_encoder.proofs.LaidOutStacks.{numbered_still, place_there, calls_lead, first_place_is_long, values_there, stack_laid, still_inhabited}
use Rattle.stack_encoder.proofs.linear.lay_out.Goals as goal

pub returns-in_err-places-clause-grown : goal.returns-in_err-places-clause-grown
returns-in_err-places-clause-grown c = grown_itself _

pub add_stack-requires : goal.add_stack-requires
add_stack-requires c = kinds_in c.args.sig.now c.args.pool.now (plain_form c.args.form.now) c.signature_stands.ensures c.requires.fits c.add_all_kinds.new.kinds.keys (keys_known c.args.sig.now c.args.pool.now (plain_form c.args.form.now) c.signature_stands.ensures c.requires.fits c.new-kinds.result.keys c.add_all_kinds.new.kinds.keys (map plain_equation c.as_slice-equations.result.now) c.in_ok-places.ensures.kinds c.new-kinds.ensures.empty (ap (map plain_equation) c.as_slice-equations.ensures.value))

pub returns-in_err-symbols-clause-constants : goal.returns-in_err-symbols-clause-constants
returns-in_err-symbols-clause-constants c = constants_stay c.args.sig.now c.add_stack.new.sig c.args.pool.now.constants c.add_stack.ensures.grown c.requires.constants

pub defaults_of-requires-clause-first : goal.defaults_of-requires-clause-first
defaults_of-requires-clause-first c = place_there c.args.sig.now c.args.pool.now (plain_form c.args.form.now) c.signature_stands.ensures c.requires.fits c.add_all_kinds.new.kinds.keys c.as_slice.result.now (numbered_still c.args.sig.now c.args.pool.now (plain_form c.args.form.now) c.signature_stands.ensures c.requires.fits c.add_all_kinds.new.kinds.keys (map plain_equation c.as_slice-equations.result.now) c.in_ok-places.places.items c.as_slice.result.now (ap (map plain_equation) c.as_slice-equations.ensures.value) c.as_slice.ensures.value c.in_ok-places.ensures.places)

pub defaults_of-requires-clause-calls : goal.defaults_of-requires-clause-calls
defaults_of-requires-clause-calls c = calls_lead c.args.sig.now c.args.pool.now (plain_form c.args.form.now) c.signature_stands.ensures c.requires.fits c.add_all_kinds.new.kinds.keys (places_in c.as_slice.result.now) (numbered_still c.args.sig.now c.args.pool.now (plain_form c.args.form.now) c.signature_stands.ensures c.requires.fits c.add_all_kinds.new.kinds.keys (map plain_equation c.as_slice-equations.result.now) c.in_ok-places.places.items c.as_slice.result.now (ap (map plain_equation) c.as_slice-equations.ensures.value) c.as_slice.ensures.value c.in_ok-places.ensures.places)

pub defaults_of-requires-clause-long : goal.defaults_of-requires-clause-long
defaults_of-requires-clause-long c = first_place_is_long c.args.sig.now c.args.pool.now (plain_form c.args.form.now) c.signature_stands.ensures c.requires.fits c.add_all_kinds.new.kinds.keys (places_in c.as_slice.result.now) (numbered_still c.args.sig.now c.args.pool.now (plain_form c.args.form.now) c.signature_stands.ensures c.requires.fits c.add_all_kinds.new.kinds.keys (map plain_equation c.as_slice-equations.result.now) c.in_ok-places.places.items c.as_slice.result.now (ap (map plain_equation) c.as_slice-equations.ensures.value) c.as_slice.ensures.value c.in_ok-places.ensures.places)

pub defaults_of-requires-clause-inhabited : goal.defaults_of-requires-clause-inhabited
defaults_of-requires-clause-inhabited c = values_there c.args.sig.now c.args.pool.now (plain_form c.args.form.now) c.signature_stands.ensures c.requires.fits c.requires.inhabited c.add_all_kinds.new.kinds.keys (kinds_in c.args.sig.now c.args.pool.now (plain_form c.args.form.now) c.signature_stands.ensures c.requires.fits c.add_all_kinds.new.kinds.keys (keys_known c.args.sig.now c.args.pool.now (plain_form c.args.form.now) c.signature_stands.ensures c.requires.fits c.new-kinds.result.keys c.add_all_kinds.new.kinds.keys (map plain_equation c.as_slice-equations.result.now) c.in_ok-places.ensures.kinds c.new-kinds.ensures.empty (ap (map plain_equation) c.as_slice-equations.ensures.value))) c.add_stack.new.sig c.add_stack.ensures.grown

pub defaults_of-requires-clause-constants : goal.defaults_of-requires-clause-constants
defaults_of-requires-clause-constants c = constants_stay c.args.sig.now c.add_stack.new.sig c.args.pool.now.constants c.add_stack.ensures.grown c.requires.constants

pub returns-clause-stack : goal.returns-clause-stack
returns-clause-stack c =
    stack_laid c.args.sig.now c.args.pool.now (plain_form c.args.form.now) c.signature_stands.ensures c.requires.fits c.add_all_kinds.new.kinds.keys c.add_stack.new.sig c.defaults_of.new.sig c.defaults_of.new.pool (plain_symbols c.in_ok-symbols.symbols) c.in_ok-symbols.symbols.stack (map plain_equation c.as_slice-equations.result.now) c.in_ok-places.places.items c.as_slice.result.now c.in_ok-defaults.defaults.items
    (keys_known c.args.sig.now c.args.pool.now (plain_form c.args.form.now) c.signature_stands.ensures c.requires.fits c.new-kinds.result.keys c.add_all_kinds.new.kinds.keys (map plain_equation c.as_slice-equations.result.now) c.in_ok-places.ensures.kinds c.new-kinds.ensures.empty (ap (map plain_equation) c.as_slice-equations.ensures.value)) c.in_ok-symbols.ensures.added (ap (map plain_equation) c.as_slice-equations.ensures.value) c.as_slice.ensures.value c.in_ok-places.ensures.places c.in_ok-defaults.ensures.values

pub returns-clause-inhabited : goal.returns-clause-inhabited
returns-clause-inhabited c =
    still_inhabited c.args.sig.now c.args.pool.now (plain_form c.args.form.now) c.signature_stands.ensures c.requires.fits c.requires.inhabited c.add_all_kinds.new.kinds.keys c.add_stack.new.sig c.defaults_of.new.sig c.defaults_of.new.pool (plain_symbols c.in_ok-symbols.symbols)
    c.in_ok-symbols.symbols.stack (places_in c.as_slice.result.now) c.in_ok-defaults.defaults.items c.signature_stands-3.ensures c.in_ok-symbols.ensures.added c.in_ok-defaults.ensures.values c.defaults_of.ensures.grown

pub returns-clause-grown : goal.returns-clause-grown
returns-clause-grown c = growth_after_growth_is_growth c.args.sig.now c.add_stack.new.sig c.defaults_of.new.sig c.add_stack.ensures.grown c.defaults_of.ensures.grown
