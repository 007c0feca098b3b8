use Rattle.std.proofs.Common.{map, refl, subst}
use Rattle.std.specs.Prelude.{◌↔◌}
use Rattle.std.specs.List.{Contains}
use Rattle.data_theory.specs.declared.ids.NameId.{NameId}
use Rattle.lps_core.specs.PlainLinears.{plain_linear, plain_summand}
use Rattle.lps_core.specs.Naming.{IsUsed, NamesSummands}
use Rattle.lps_core.proofs.NamedSums.{names_none}
use Rattle.lps_core.proofs.NamedLinears.{NamingDone, naming_done}
use Rattle.lps_core.proofs.naming.name_sums.Goals as goal

pub returns-in_err-used-clause-grown : goal.returns-in_err-used-clause-grown
returns-in_err-used-clause-grown c = names_none _ c.signature_stands.ensures

done : (c : goal.After-drop-lin-2) → NamingDone c.args.sig.now c.name_summands.new.sig c.args.pool.now.trees c.name_summands.new.pool.trees (plain_linear c.args.lin)
    (record { params = c.args.lin.params.items; init = c.args.lin.init.items; summands = map plain_summand c.in_ok-summands.summands.items })
done c =
    naming_done c.args.sig.now c.name_summands.new.sig c.args.pool.now.trees c.name_summands.new.pool.trees (plain_linear c.args.lin) _ c.signature_stands.ensures c.name_summands.ensures.grown.stands c.name_summands.ensures.kept c.requires refl refl
    (λ n. Contains c.in_ok-used.used.keys n)
    (subst (λ z. (n : NameId) → Contains c.in_ok-used.used.keys n ↔ IsUsed c.args.sig.now z n) c.as_slice.ensures.value c.in_ok-used.ensures)
    (subst (λ z. NamesSummands (λ n. Contains c.in_ok-used.used.keys n) c.args.sig.now c.name_summands.new.sig c.args.pool.now.trees c.name_summands.new.pool.trees (map plain_summand z) (map plain_summand c.in_ok-summands.summands.items)) c.as_slice-2.ensures.value c.in_ok-summands.ensures.named)

pub returns-clause-named : goal.returns-clause-named
returns-clause-named c = (done c).named

pub returns-clause-fits : goal.returns-clause-fits
returns-clause-fits c = (done c).fits

pub returns-clause-names : goal.returns-clause-names
returns-clause-names c = (done c).names

pub returns-clause-bisimilar : goal.returns-clause-bisimilar
returns-clause-bisimilar c = (done c).bisimilar
