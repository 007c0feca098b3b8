use Rattle.std.proofs.Common.{◌≡◌, List, count_by, subst, ◌∙◌}
use Rattle.std.proofs.lemmas.Result.{err_from_is_err_and}
use Rattle.mcrl2_lexer.specs.declared.token.Token.{Token}
use Rattle.mcrl2_syntax.proofs.SpecsOnce.{spec_once}
use Rattle.mcrl2_parser.specs.Declarations.{declarations_of}
use Rattle.mcrl2_parser.specs.Faults.{is_init}
use Rattle.mcrl2_parser.proofs.Refused.{one_init, has_init_fault, moved_fault, moved_sound}
use Rattle.mcrl2_parser.proofs.SpelledByDeclarations.{moved_spelled}
use Rattle.mcrl2_parser.proofs.parsing.parse.Goals as goal

pub returns-in_err-spec-clause-fault : goal.returns-in_err-spec-clause-fault
returns-in_err-spec-clause-fault c =
    let same = err_from_is_err_and c.from_residual.result c.from_residual.ensures.1 in
    rw (same.1, same.2) (λ counts. moved_fault _ c.text-text.ensures c.list-all.ensures.list (c.in_err-spec.ensures.fault counts))

pub returns-in_err-check_inits-clause-fault : goal.returns-in_err-check_inits-clause-fault
returns-in_err-check_inits-clause-fault c =
    let same = err_from_is_err_and c.from_residual-in_err-check_inits.result c.from_residual-in_err-check_inits.ensures.1 in
    rw (same.1, same.2) (λ counts. moved_fault _ c.text-text.ensures c.list-all.ensures.list
    (has_init_fault c.text-text.result.now c.list-all.result.now c.deref.result.now c.in_err-check_inits.field-0.0 (c.deref.ensures.value ∙ c.in_ok-spec.ensures.inits) c.in_ok-spec.ensures.sound
    c.in_err-check_inits.ensures.not_one))

pub returns-clause-spelled : goal.returns-clause-spelled
returns-clause-spelled c = moved_spelled c.text-text.ensures c.list-all.ensures.list c.in_ok-spec.ensures.spelled

pub returns-clause-single : goal.returns-clause-single
returns-clause-single c = λ other spells. spec_once (moved_spelled c.text-text.ensures c.list-all.ensures.list c.in_ok-spec.ensures.spelled) spells

pub returns-clause-sound : goal.returns-clause-sound
returns-clause-sound c = moved_sound c.text-text.ensures c.list-all.ensures.list c.in_ok-spec.ensures.sound

pub returns-clause-one_init : goal.returns-clause-one_init
returns-clause-one_init c =
    subst (λ (us : List Token). count_by is_init (declarations_of us) ≡ 1) c.list-all.ensures.list
    (one_init (declarations_of c.list-all.result.now) c.deref.result.now (c.deref.ensures.value ∙ c.in_ok-spec.ensures.inits) c.in_ok-check_inits.ensures.one)
