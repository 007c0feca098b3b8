use Rattle.std.proofs.Common.{◌<◌, length}
use Rattle.std.proofs.lemmas.List.Elements.{All-weaker}
use Rattle.data_theory.specs.declared.ids.NameId.{NameId}
use Rattle.data_theory.specs.declared.ids.SortId.{SortId}
use Rattle.lps_core.proofs.NamedSums.{names_then}
use Rattle.regular_encoder.specs.FormColumns.{IsKindIn}
use Rattle.stack_encoder.proofs.NewWords.{bases_stay, kinds_stay, words_made}
use Rattle.stack_encoder.proofs.symbols.new_words.Goals as goal

pub column_fields-requires : goal.column_fields-requires
column_fields-requires c = kinds_stay c.args.sig.now c.fresh_name-3.new.sig c.args.kinds.now.keys (names_then _ _ _ (names_then _ _ _ c.fresh_name.ensures.grown c.fresh_name-2.ensures.grown) c.fresh_name-3.ensures.grown) c.requires

pub returns-in_err-push-clause-grown : goal.returns-in_err-push-clause-grown
returns-in_err-push-clause-grown c = names_then _ _ _ c.fresh_name.ensures.grown c.fresh_name-2.ensures.grown

pub returns-in_err-pc-clause-grown : goal.returns-in_err-pc-clause-grown
returns-in_err-pc-clause-grown c = names_then _ _ _ (names_then _ _ _ c.fresh_name.ensures.grown c.fresh_name-2.ensures.grown) c.fresh_name-3.ensures.grown

pub returns-in_err-fields-clause-grown : goal.returns-in_err-fields-clause-grown
returns-in_err-fields-clause-grown c = names_then _ _ _ (names_then _ _ _ (names_then _ _ _ c.fresh_name.ensures.grown c.fresh_name-2.ensures.grown) c.fresh_name-3.ensures.grown) c.column_fields.ensures.grown

pub returns-in_err-rest-clause-grown : goal.returns-in_err-rest-clause-grown
returns-in_err-rest-clause-grown c = names_then _ _ _ (names_then _ _ _ (names_then _ _ _ (names_then _ _ _ c.fresh_name.ensures.grown c.fresh_name-2.ensures.grown) c.fresh_name-3.ensures.grown) c.column_fields.ensures.grown) c.fresh_name-4.ensures.grown

pub returns-in_err-is_push-clause-grown : goal.returns-in_err-is_push-clause-grown
returns-in_err-is_push-clause-grown c =
    names_then _ _ _ (names_then _ _ _ (names_then _ _ _ (names_then _ _ _ (names_then _ _ _ c.fresh_name.ensures.grown c.fresh_name-2.ensures.grown) c.fresh_name-3.ensures.grown) c.column_fields.ensures.grown) c.fresh_name-4.ensures.grown) c.fresh_name-5.ensures.grown

pub returns-in_err-empty-clause-grown : goal.returns-in_err-empty-clause-grown
returns-in_err-empty-clause-grown c =
    names_then _ _ _ (names_then _ _ _ (names_then _ _ _ (names_then _ _ _ (names_then _ _ _ (names_then _ _ _ c.fresh_name.ensures.grown c.fresh_name-2.ensures.grown) c.fresh_name-3.ensures.grown) c.column_fields.ensures.grown) c.fresh_name-4.ensures.grown) c.fresh_name-5.ensures.grown)
    c.fresh_name-6.ensures.grown

pub returns-clause-words : goal.returns-clause-words
returns-clause-words c =
    words_made c.args.sig.now c.fresh_name.new.sig c.fresh_name-2.new.sig c.fresh_name-3.new.sig c.column_fields.new.sig c.fresh_name-4.new.sig c.fresh_name-5.new.sig c.fresh_name-6.new.sig c.args.kinds.now.keys c.in_ok-fields.fields.items
    c.in_ok-sort.sort c.in_ok-push.push c.in_ok-pc.pc c.in_ok-rest.rest c.in_ok-is_push.is_push c.in_ok-empty.empty c.in_ok-sort.ensures.fresh c.in_ok-push.ensures.fresh c.in_ok-pc.ensures.fresh c.in_ok-fields.ensures.names
    (bases_stay c.args.sig.now c.fresh_name-3.new.sig c.args.kinds.now.keys (names_then _ _ _ (names_then _ _ _ c.fresh_name.ensures.grown c.fresh_name-2.ensures.grown) c.fresh_name-3.ensures.grown).grown
    (All-weaker (IsKindIn c.args.sig.now) (λ (k : NameId × SortId). k.0.0 < length c.args.sig.now.texts) (λ k i. i.0) c.args.kinds.now.keys c.requires))
    c.in_ok-fields.ensures.sorts c.in_ok-rest.ensures.fresh c.in_ok-is_push.ensures.fresh c.in_ok-empty.ensures.fresh

pub returns-clause-grown : goal.returns-clause-grown
returns-clause-grown c =
    names_then _ _ _ (names_then _ _ _ (names_then _ _ _ (names_then _ _ _ (names_then _ _ _ (names_then _ _ _ c.fresh_name.ensures.grown c.fresh_name-2.ensures.grown) c.fresh_name-3.ensures.grown) c.column_fields.ensures.grown) c.fresh_name-4.ensures.grown) c.fresh_name-5.ensures.grown)
    c.fresh_name-6.ensures.grown
