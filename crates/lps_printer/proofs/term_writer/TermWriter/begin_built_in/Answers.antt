use Rattle.std.proofs.Common.{◌+◌, sym, ap, ◌∙◌, arith}
use Rattle.std.specs.Prelude.{option_map}
use Rattle.std.proofs.lemmas.Result.{on_ok_weaker}
use Rattle.mcrl2_lexer.specs.declared.kind.Kind.TheVariants as kind_
use Rattle.data_theory.specs.declared.ids.VarId.{VarId}
use Rattle.lps_core.specs.Fitting.{IsVariable}
use Rattle.lps_printer.specs.PrintedExpressions.{named}
use Rattle.lps_printer.proofs.AddingPieces.{adds_equal}
use Rattle.lps_printer.proofs.CodeForms.{at_entry, plain_formed, plain_variable}
use Rattle.lps_printer.proofs.PendingLemmas.{none_left, leaves_equal}
use Rattle.lps_printer.proofs.term_writer.TermWriter.begin_built_in.Goals as goal

pub args_of-count-requires : goal.args_of-count-requires
args_of-count-requires c = c.requires.application.known

pub uncast-requires : goal.uncast-requires
uncast-requires c = c.requires.application.arguments

pub variable-requires : goal.variable-requires
variable-requires c = at_entry (λ (v : VarId). IsVariable c.args.self.now.sig.now v) c.uncast.result c.in-Some.var c.in-Some.is c.uncast.ensures.within

pub begin_formed-requires : goal.begin_formed-requires
begin_formed-requires c = c.requires.application.arguments

pub returns-in-Some : goal.returns-in-Some
returns-in-Some c =
    let self = c.args.self.now in
    let under = sym c.uncast.ensures.variable ∙ ap (option_map (λ (v : VarId). v.0)) c.in-Some.is in
    on_ok_weaker c.push_token.result (λ p. none_left self _ _ _ _ _ (omega arith) (λ w k. adds_equal c.args.gap.now
    (ap named (c.variable.ensures w k) ∙ plain_variable self c.names.ensures.stands.table c.args.fun c.args.args.now c.args.word c.requires.word c.args_of-count.result.now c.args_of-count.ensures c.requires.no_empty_list c.requires.no_element w c.args.placed c.in-Some.var.0 under)
    (p kind_.Identifier))) c.push_token.ensures

pub returns-in-None : goal.returns-in-None
returns-in-None c =
    let self = c.args.self.now in
    let under = sym c.uncast.ensures.variable ∙ ap (option_map (λ (v : VarId). v.0)) c.in-None.is in
    on_ok_weaker c.begin_formed.result (λ p. leaves_equal self c.args.gap.now _ _ (λ w k.
    plain_formed self c.names.ensures.stands.table c.args.fun c.args.args.now c.args.word c.requires.word c.args_of-count.result.now c.args_of-count.ensures c.requires.no_empty_list c.requires.no_element w c.args.placed under) p) c.begin_formed.ensures
