use Rattle.std.proofs.Common.{◌≡◌, sym, ap, ◌∙◌}
use Rattle.std.specs.Prelude.{option_map}
use Rattle.mcrl2_syntax.specs.Declarations.{spec_of}
use Rattle.sort_checker.specs.FoundFaults.{fault_of}
use Rattle.sort_checker.proofs.WholeModels.{typed_over, refused_over, name_there, numbered_is_fault}
use Rattle.sort_checker.proofs.elaborating.check_types.Goals as goal

pub numbered_fault-requires : goal.numbered_fault-requires
numbered_fault-requires c =
    let refused = refused_over (spec_of c.args.spec.now) c.args.sig.now c.requires.built (fault_of c.in-Some.fault) (λ v over. sym (c.in_ok-fault.ensures v over) ∙ ap (option_map fault_of) c.in-Some.is) in
    record { name = name_there (spec_of c.args.spec.now) c.args.sig.now c.requires.built c.requires.words (fault_of c.in-Some.fault) refused }

pub returns-in-Some-clause-refused : goal.returns-in-Some-clause-refused
returns-in-Some-clause-refused c =
    let refused = refused_over (spec_of c.args.spec.now) c.args.sig.now c.requires.built (fault_of c.in-Some.fault) (λ v over. sym (c.in_ok-fault.ensures v over) ∙ ap (option_map fault_of) c.in-Some.is) in
    numbered_is_fault (spec_of c.args.spec.now) c.args.sig.now (fault_of c.in-Some.fault) c.numbered_fault.result c.numbered_fault.ensures refused

pub returns-in-None-clause-elaborates : goal.returns-in-None-clause-elaborates
returns-in-None-clause-elaborates c = typed_over (spec_of c.args.spec.now) c.args.sig.now c.requires.built c.requires.start (λ v over. sym (c.in_ok-fault.ensures v over) ∙ ap (option_map fault_of) c.in-None.is)
