use Rattle.sort_checker.proofs.WellTypedBack.{what_elaborates_is_well_typed, well_typed_texts_give_plain_sorts}
use Rattle.sort_checker.proofs.laws.what_elaborates_is_well_typed.Goals as goal

pub returns : goal.returns
returns c = record { elaborates = what_elaborates_is_well_typed; plain = well_typed_texts_give_plain_sorts }
