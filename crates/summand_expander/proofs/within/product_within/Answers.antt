use Rattle.std.proofs.Common.{◌&&◌, map, ap₂, sym, ◌∙◌}
use Rattle.process_terms.specs.Meanings.{name_at, rule_of}
use Rattle.process_terms.specs.SignatureEntries.{entries_of}
use Rattle.lps_core.specs.PlainLinears.{plain_linear, plain_summand}
use Rattle.lps_core.proofs.CanEnd.{plain_ends}
use Rattle.lps_core.proofs.NamedSums.{names_then}
use Rattle.lps_core.proofs.PoolTrees.{extends_on}
use Rattle.summand_expander.specs.PlainAllowed.{PlainAllowed, plain_allowed}
use Rattle.summand_expander.specs.WithinProducts.{can_stay_of, scope_of}
use Rattle.summand_expander.proofs.AllowedStays.{allowed_later}
use Rattle.summand_expander.proofs.MadeProducts.{WithinDone, sides_ready, within_made, all_sums_later, renewal_long}
use Rattle.summand_expander.proofs.ToldCompletable.{test_tells}
use Rattle.summand_expander.proofs.within.product_within.Goals as goal

pub giving_way-requires-clause-sums : goal.giving_way-requires-clause-sums
giving_way-requires-clause-sums c = all_sums_later c.args.sig.now c.flag_for.new.sig c.args.pool.now.trees (plain_linear c.args.right.now) c.flag_for.ensures.grown c.requires.right

pub returns-in_err-right_flag-clause-grown : goal.returns-in_err-right_flag-clause-grown
returns-in_err-right_flag-clause-grown c = names_then _ _ _ (names_then _ _ _ c.flag_for.ensures.grown c.giving_way.ensures.grown) c.flag_for-2.ensures.grown

pub renewed-requires-clause-long : goal.renewed-requires-clause-long
renewed-requires-clause-long c =
    renewal_long c.args.sig.now c.flag_for.new.sig c.giving_way.new.sig c.args.pool.now.trees (plain_linear c.args.left.now) (plain_linear c.args.right.now) _ _ c.signature_stands.ensures c.requires.right c.flag_for.ensures.grown c.in_ok-renewal.ensures.gives_way

pub returns-in_err-right-clause-grown : goal.returns-in_err-right-clause-grown
returns-in_err-right-clause-grown c = names_then _ _ _ (names_then _ _ _ c.flag_for.ensures.grown c.giving_way.ensures.grown) c.flag_for-2.ensures.grown

pub summands_within-requires-clause-left : goal.summands_within-requires-clause-left
summands_within-requires-clause-left c =
    (sides_ready c.args.sig.now c.flag_for.new.sig c.giving_way.new.sig c.flag_for-2.new.sig c.args.pool.now.trees c.renewed.new.pool.trees (plain_linear c.args.left.now) (plain_linear c.args.right.now) (plain_linear c.in_ok-right.right) c.in_ok-left_flag.left_flag c.in_ok-right_flag.right_flag
    c.in_ok-renewal.renewal.from.keys c.in_ok-renewal.renewal.to.items c.signature_stands.ensures c.requires.left c.requires.right c.in_ok-left_flag.ensures.flag c.in_ok-renewal.ensures.gives_way c.in_ok-right_flag.ensures.flag c.renewed.ensures.kept c.in_ok-right.ensures.renewed).left

pub summands_within-requires-clause-right : goal.summands_within-requires-clause-right
summands_within-requires-clause-right c =
    (sides_ready c.args.sig.now c.flag_for.new.sig c.giving_way.new.sig c.flag_for-2.new.sig c.args.pool.now.trees c.renewed.new.pool.trees (plain_linear c.args.left.now) (plain_linear c.args.right.now) (plain_linear c.in_ok-right.right) c.in_ok-left_flag.left_flag c.in_ok-right_flag.right_flag
    c.in_ok-renewal.renewal.from.keys c.in_ok-renewal.renewal.to.items c.signature_stands.ensures c.requires.left c.requires.right c.in_ok-left_flag.ensures.flag c.in_ok-renewal.ensures.gives_way c.in_ok-right_flag.ensures.flag c.renewed.ensures.kept c.in_ok-right.ensures.renewed).right

pub summands_within-requires-clause-left_flag : goal.summands_within-requires-clause-left_flag
summands_within-requires-clause-left_flag c =
    (sides_ready c.args.sig.now c.flag_for.new.sig c.giving_way.new.sig c.flag_for-2.new.sig c.args.pool.now.trees c.renewed.new.pool.trees (plain_linear c.args.left.now) (plain_linear c.args.right.now) (plain_linear c.in_ok-right.right) c.in_ok-left_flag.left_flag c.in_ok-right_flag.right_flag
    c.in_ok-renewal.renewal.from.keys c.in_ok-renewal.renewal.to.items c.signature_stands.ensures c.requires.left c.requires.right c.in_ok-left_flag.ensures.flag c.in_ok-renewal.ensures.gives_way c.in_ok-right_flag.ensures.flag c.renewed.ensures.kept c.in_ok-right.ensures.renewed).left_flag

pub summands_within-requires-clause-right_flag : goal.summands_within-requires-clause-right_flag
summands_within-requires-clause-right_flag c =
    (sides_ready c.args.sig.now c.flag_for.new.sig c.giving_way.new.sig c.flag_for-2.new.sig c.args.pool.now.trees c.renewed.new.pool.trees (plain_linear c.args.left.now) (plain_linear c.args.right.now) (plain_linear c.in_ok-right.right) c.in_ok-left_flag.left_flag c.in_ok-right_flag.right_flag
    c.in_ok-renewal.renewal.from.keys c.in_ok-renewal.renewal.to.items c.signature_stands.ensures c.requires.left c.requires.right c.in_ok-left_flag.ensures.flag c.in_ok-renewal.ensures.gives_way c.in_ok-right_flag.ensures.flag c.renewed.ensures.kept c.in_ok-right.ensures.renewed).right_flag

pub summands_within-requires-clause-allowed : goal.summands_within-requires-clause-allowed
summands_within-requires-clause-allowed c = allowed_later c.args.sig.now c.flag_for-2.new.sig c.args.pool.now.trees (plain_allowed c.args.allowed.now) (names_then _ _ _ (names_then _ _ _ c.flag_for.ensures.grown c.giving_way.ensures.grown) c.flag_for-2.ensures.grown) c.requires.allowed

pub returns-in_err-summands-clause-grown : goal.returns-in_err-summands-clause-grown
returns-in_err-summands-clause-grown c = names_then _ _ _ (names_then _ _ _ c.flag_for.ensures.grown c.giving_way.ensures.grown) c.flag_for-2.ensures.grown

pub returns-in_err-params-clause-grown : goal.returns-in_err-params-clause-grown
returns-in_err-params-clause-grown c = names_then _ _ _ (names_then _ _ _ c.flag_for.ensures.grown c.giving_way.ensures.grown) c.flag_for-2.ensures.grown

pub returns-in_err-init-clause-grown : goal.returns-in_err-init-clause-grown
returns-in_err-init-clause-grown c = names_then _ _ _ (names_then _ _ _ c.flag_for.ensures.grown c.giving_way.ensures.grown) c.flag_for-2.ensures.grown

pub returns-in_err-init-clause-kept : goal.returns-in_err-init-clause-kept
returns-in_err-init-clause-kept c = extends_on _ _ _ (extends_on _ _ _ c.renewed.ensures.kept c.summands_within.ensures.kept) c.all_init.ensures.kept

pub returns-clause-grown : goal.returns-clause-grown
returns-clause-grown c = names_then _ _ _ (names_then _ _ _ c.flag_for.ensures.grown c.giving_way.ensures.grown) c.flag_for-2.ensures.grown

abbrev allowed_there : goal.After-drop-renewal-6 → PlainAllowed
allowed_there c = plain_allowed c.args.allowed.now

done : (c : goal.After-drop-renewal-6) → WithinDone (scope_of (entries_of c.flag_for-2.new.sig c.all_init.new.pool.trees) (allowed_there c)) c.args.sig.now c.flag_for-2.new.sig c.all_init.new.pool.trees (plain_linear c.args.left.now) (plain_linear c.args.right.now)
    (record { params = c.in_ok-params.params.items; init = c.in_ok-init.init.items; summands = map plain_summand c.in_ok-summands.summands.items })
done c =
    let e = entries_of c.flag_for-2.new.sig c.all_init.new.pool.trees in
    within_made c.args.sig.now c.flag_for.new.sig c.giving_way.new.sig c.flag_for-2.new.sig c.args.pool.now.trees c.renewed.new.pool.trees c.summands_within.new.pool.trees c.all_init.new.pool.trees (plain_linear c.args.left.now) (plain_linear c.args.right.now) (plain_linear c.in_ok-right.right) _ c.in_ok-left_flag.left_flag c.in_ok-right_flag.right_flag
    c.in_ok-renewal.renewal.from.keys c.in_ok-renewal.renewal.to.items c.signature_stands.ensures c.requires.left c.requires.right c.in_ok-left_flag.ensures.flag c.in_ok-renewal.ensures.gives_way c.in_ok-right_flag.ensures.flag c.renewed.ensures.kept c.summands_within.ensures.kept c.all_init.ensures.kept c.in_ok-right.ensures.renewed
    c.in_ok-params.ensures c.in_ok-init.ensures.init (scope_of e (allowed_there c)) (can_stay_of e (allowed_there c)) (test_tells (map (rule_of e) (allowed_there c).rules) (map (map (name_at e)) (allowed_there c).sets)) c.in_ok-summands.ensures.made

pub returns-clause-fits : goal.returns-clause-fits
returns-clause-fits c = (done c).fits

pub returns-clause-made : goal.returns-clause-made
returns-clause-made c = (done c).made

pub returns-clause-bisimilar : goal.returns-clause-bisimilar
returns-clause-bisimilar c = (done c).good

pub returns-clause-ends : goal.returns-clause-ends
returns-clause-ends c = sym (plain_ends c.in_ok-summands.summands.items) ∙ (done c).ends ∙ ap₂ (λ x y. x && y) (plain_ends c.args.left.now.summands.items) (plain_ends c.args.right.now.summands.items)

pub returns-clause-names : goal.returns-clause-names
returns-clause-names c = (done c).names
