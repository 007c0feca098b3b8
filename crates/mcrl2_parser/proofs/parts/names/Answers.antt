use Rattle.std.proofs.Common.{refl}
use Rattle.mcrl2_syntax.proofs.Lists.{names_once}
use Rattle.mcrl2_parser.proofs.Exits.{passes}
use Rattle.mcrl2_parser.proofs.Names.{first_name, further_names, lone_name, led_names, led_only}
use Rattle.mcrl2_parser.proofs.parts.names.Goals as goal

pub returns-in_err-first-clause-only : goal.returns-in_err-first-clause-only
returns-in_err-first-clause-only c = λ ws r d n. let f = first_name d in passes _ _ c.from_residual.ensures.1 (c.in_err-first.ensures.only f.name f.behind f.named tt)

pub returns-in_default-clause-found : goal.returns-in_default-clause-found
returns-in_default-clause-found c = lone_name c.lone.ensures c.in_ok-first.ensures.found

pub returns-in_default-clause-only : goal.returns-in_default-clause-only
returns-in_default-clause-only c = λ ws r d n. names_once (lone_name c.lone.ensures c.in_ok-first.ensures.found) d (c.in_default.ensures.none refl) n

pub list-requires : goal.list-requires
list-requires c = λ sign r is. tt

pub returns-in_err-others-clause-only : goal.returns-in_err-others-clause-only
returns-in_err-others-clause-only c = λ ws r d n.
    let f = further_names c.in_ok-first.ensures.found c.in-Ok.ensures.found.0 c.in-Ok.ensures.found.1 d n in
    passes _ _ c.from_residual-in_err-others.ensures.1 (c.in_err-others.ensures.only f.names r f.named tt n)

pub returns-clause-found : goal.returns-clause-found
returns-clause-found c = led_names c.in_ok-led.ensures c.in_ok-first.ensures.found c.in-Ok.ensures.found.0 c.in-Ok.ensures.found.1 c.in_ok-others.ensures.found

pub returns-clause-only : goal.returns-clause-only
returns-clause-only c = λ ws r d n.
    let f = further_names c.in_ok-first.ensures.found c.in-Ok.ensures.found.0 c.in-Ok.ensures.found.1 d n in
    led_only c.in_ok-led.ensures f (c.in_ok-others.ensures.only f.names r f.named tt n)
