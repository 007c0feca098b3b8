use Rattle.std.proofs.Common.{◌+◌, sym, subst, refl, arith}
use Rattle.std.proofs.lemmas.Result.{on_ok_weaker}
use Rattle.mcrl2_lexer.specs.declared.kind.Kind.TheVariants as kind_
use Rattle.lps_printer.specs.DataLayout.{operand, print}
use Rattle.lps_printer.specs.Wordings.{opened}
use Rattle.lps_printer.specs.CodeWordings.{term_by}
use Rattle.lps_printer.specs.PendingParts.{size, Leaves}
use Rattle.lps_printer.proofs.PendingLemmas.{within_limit, bracket_left}
use Rattle.lps_printer.proofs.term_writer.TermWriter.begin_operand.Goals as goal

pub begin-requires : goal.begin-requires
begin-requires c = c.requires

pub returns-then-not-brackets : goal.returns-then-not-brackets
returns-then-not-brackets c =
    let self = c.args.self.now in
    on_ok_weaker c.begin.result (λ p. subst (λ b. Leaves self (1 + size (term_by self c.args.id)) c.args.out.now.items c.begin.new.out.items c.args.left.now.items c.begin.new.left.items (λ w rest. operand b (λ g r. print (opened w (term_by self c.args.id)) g r) c.args.gap.now rest))
    (sym c.if-not-brackets.true) (within_limit self (omega arith) p)) c.begin.ensures

pub begin-requires-2 : goal.begin-requires-2
begin-requires-2 c = c.requires

pub returns : goal.returns
returns c =
    let self = c.args.self.now in
    on_ok_weaker c.begin-2.result (λ p. subst (λ b. Leaves self (1 + size (term_by self c.args.id)) c.args.out.now.items c.begin-2.new.out.items c.args.left.now.items c.begin-2.new.left.items (λ w rest. operand b (λ g r. print (opened w (term_by self c.args.id)) g r) c.args.gap.now rest))
    (sym c.if-not-brackets.false)
    (bracket_left self _ _ _ _ _ _ _ _ _ _ _ _ _ (omega arith) refl tt c.in_ok-push.ensures.items (c.in_ok-push_token.ensures kind_.LeftParen) p)) c.begin-2.ensures
