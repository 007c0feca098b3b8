use Rattle.std.proofs.Common.{◌≡◌, map, sym, ap₂, subst, rules}
use Rattle.std.specs.Prelude.{flat_map}
use Rattle.std.specs.List.{All}
use Rattle.process_terms.specs.PlainProcesses.{comm, plain_rules}
use Rattle.process_terms.specs.Meanings.{rule_of}
use Rattle.process_terms.specs.SignatureEntries.{entries_of}
use Rattle.lps_core.specs.Fitting.{Fits}
use Rattle.lps_core.specs.PlainLinears.{plain_linear, plain_summand, linear_of, summand_of}
use Rattle.action_filters.specs.Filters.{IsGoodAround}
use Rattle.communication.specs.Communicated.{communicated, communicating}
use Rattle.communication.specs.GrownSummands.{AreSummands}
use Rattle.communication.specs.PlaceConditions.{HaveResults, RuleNamesIn}
use Rattle.communication.proofs.WholeCommunication.{made_means, made_fits, made_good}
use Rattle.communication.proofs.around.communicate.Goals as goal

pub communicated_summands-requires-clause-names : goal.communicated_summands-requires-clause-names
communicated_summands-requires-clause-names c = subst (λ rs. All (RuleNamesIn c.args.sig.now) rs) (sym c.in_ok-table.ensures) c.requires.names

pub communicated_summands-requires-clause-results : goal.communicated_summands-requires-clause-results
communicated_summands-requires-clause-results c = subst (λ rs. HaveResults c.args.sig.now rs) (sym c.in_ok-table.ensures) c.requires.results

pub returns-clause-summands : goal.returns-clause-summands
returns-clause-summands c =
    let g = c.args.sig.now in
    let us = c.communicated_summands.new.pool.trees in
    let params : c.in_ok-to_vec.field-0.items ≡ c.args.lin.now.params.items = search rules in
    let init : c.in_ok-to_vec-2.field-0.items ≡ c.args.lin.now.init.items = search rules in
    subst (λ l. linear_of (entries_of g us) l ≡ communicating (map (rule_of (entries_of g c.args.pool.now.trees)) (plain_rules c.args.rules.now)) (linear_of (entries_of g c.args.pool.now.trees) (plain_linear c.args.lin.now)))
    (ap₂ (λ ps is. record { params = ps; init = is; summands = map plain_summand c.in_ok-summands.summands.items }) (sym params) (sym init))
    (made_means g c.signature_stands.ensures c.args.pool.now.trees us c.communicated_summands.ensures.kept (plain_rules c.args.rules.now) (plain_linear c.args.lin.now) c.requires.fits (map plain_summand c.in_ok-summands.summands.items) (subst
    (λ rs. AreSummands g us (plain_linear c.args.lin.now).params (map plain_summand c.in_ok-summands.summands.items) (flat_map (communicated (map (rule_of (entries_of g c.args.pool.now.trees)) rs)) (map (summand_of (entries_of g c.args.pool.now.trees)) (plain_linear c.args.lin.now).summands)))
    c.in_ok-table.ensures c.in_ok-summands.ensures.made))

pub returns-clause-fits : goal.returns-clause-fits
returns-clause-fits c =
    let g = c.args.sig.now in
    let us = c.communicated_summands.new.pool.trees in
    let params : c.in_ok-to_vec.field-0.items ≡ c.args.lin.now.params.items = search rules in
    let init : c.in_ok-to_vec-2.field-0.items ≡ c.args.lin.now.init.items = search rules in
    subst (λ l. Fits g us l)
    (ap₂ (λ ps is. record { params = ps; init = is; summands = map plain_summand c.in_ok-summands.summands.items }) (sym params) (sym init))
    (made_fits g c.signature_stands.ensures c.args.pool.now.trees us c.communicated_summands.ensures.kept (plain_rules c.args.rules.now) (plain_linear c.args.lin.now) c.requires.fits (map plain_summand c.in_ok-summands.summands.items) (subst
    (λ rs. AreSummands g us (plain_linear c.args.lin.now).params (map plain_summand c.in_ok-summands.summands.items) (flat_map (communicated (map (rule_of (entries_of g c.args.pool.now.trees)) rs)) (map (summand_of (entries_of g c.args.pool.now.trees)) (plain_linear c.args.lin.now).summands)))
    c.in_ok-table.ensures c.in_ok-summands.ensures.made))

pub returns-clause-bisimilar : goal.returns-clause-bisimilar
returns-clause-bisimilar c =
    let g = c.args.sig.now in
    let us = c.communicated_summands.new.pool.trees in
    let params : c.in_ok-to_vec.field-0.items ≡ c.args.lin.now.params.items = search rules in
    let init : c.in_ok-to_vec-2.field-0.items ≡ c.args.lin.now.init.items = search rules in
    subst (λ l. IsGoodAround g us (comm (plain_rules c.args.rules.now)) (plain_linear c.args.lin.now) l)
    (ap₂ (λ ps is. record { params = ps; init = is; summands = map plain_summand c.in_ok-summands.summands.items }) (sym params) (sym init))
    (made_good g c.signature_stands.ensures c.args.pool.now.trees us c.communicated_summands.ensures.kept (plain_rules c.args.rules.now) (plain_linear c.args.lin.now) c.requires.fits (map plain_summand c.in_ok-summands.summands.items) (subst
    (λ rs. AreSummands g us (plain_linear c.args.lin.now).params (map plain_summand c.in_ok-summands.summands.items) (flat_map (communicated (map (rule_of (entries_of g c.args.pool.now.trees)) rs)) (map (summand_of (entries_of g c.args.pool.now.trees)) (plain_linear c.args.lin.now).summands)))
    c.in_ok-table.ensures c.in_ok-summands.ensures.made))
