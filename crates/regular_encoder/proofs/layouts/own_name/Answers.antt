use Rattle.std.proofs.Common.{◌≡◌, true}
use Rattle.regular_encoder.specs.FormColumns.{the_name, a_new_name}
use Rattle.lps_core.proofs.NamedSums.{names_none}
use Rattle.regular_encoder.proofs.layouts.own_name.Goals as goal

pub returns-then-not-has_name-clause-named : goal.returns-then-not-has_name-clause-named
returns-then-not-has_name-clause-named c = the_name (λ u. let q = c.has_name.ensures.1 u in let b = c.if-not-has_name.true in cc)

pub returns-then-not-has_name-clause-grown : goal.returns-then-not-has_name-clause-grown
returns-then-not-has_name-clause-grown c = names_none _ c.signature_stands.ensures

pub returns-clause-named : goal.returns-clause-named
returns-clause-named c =
    let f = c.in_ok-fresh_from.ensures.fresh in
    let b = c.if-not-has_name.false in
    let used : c.has_name.result ≡ true = cc in
    a_new_name (c.has_name.ensures.0 used) f.1 f.2
