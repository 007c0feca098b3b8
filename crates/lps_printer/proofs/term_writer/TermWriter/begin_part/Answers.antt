use Rattle.std.proofs.Common.{◌+◌, ◌∷◌, sym, ap, ◌∙◌, subst, refl, arith}
use Rattle.std.proofs.lemmas.Result.{on_ok_weaker}
use Rattle.mcrl2_lexer.specs.declared.kind.Kind.TheVariants as kind_
use Rattle.lps_printer.specs.Adding.{Adds}
use Rattle.lps_printer.specs.DataLayout.{infix_kind, piece, space}
use Rattle.lps_printer.specs.PendingParts.{PartStands}
use Rattle.lps_printer.proofs.PendingLemmas.{none_left, bracket_left, part_left}
use Rattle.lps_printer.proofs.term_writer.TermWriter.begin_part.Goals as goal

pub begin-requires : goal.begin-requires
begin-requires c = subst (PartStands c.args.self.now) c.in-Term.is c.requires

pub begin_operand-requires : goal.begin_operand-requires
begin_operand-requires c = subst (PartStands c.args.self.now) c.in-Operand.is c.requires

pub begin_pair-requires-clause-first : goal.begin_pair-requires-clause-first
begin_pair-requires-clause-first c = (subst (PartStands c.args.self.now) c.in-Pair.is c.requires).0

pub begin_pair-requires-clause-rest : goal.begin_pair-requires-clause-rest
begin_pair-requires-clause-rest c = (subst (PartStands c.args.self.now) c.in-Pair.is c.requires).1

pub begin_pair-requires-clause-goes_on : goal.begin_pair-requires-clause-goes_on
begin_pair-requires-clause-goes_on c = (subst (PartStands c.args.self.now) c.in-Pair.is c.requires).2

pub begin_further-requires : goal.begin_further-requires
begin_further-requires c = subst (PartStands c.args.self.now) c.in-Further.is c.requires

pub begin_elements-requires-clause-term : goal.begin_elements-requires-clause-term
begin_elements-requires-clause-term c = (subst (PartStands c.args.self.now) c.in-Elements.is c.requires).0

pub begin_elements-requires-clause-ends : goal.begin_elements-requires-clause-ends
begin_elements-requires-clause-ends c = (subst (PartStands c.args.self.now) c.in-Elements.is c.requires).1

pub returns-in-Term : goal.returns-in-Term
returns-in-Term c = on_ok_weaker c.begin.result (λ p. part_left c.args.self.now c.in-Term.is p) c.begin.ensures

pub returns-in-Operand : goal.returns-in-Operand
returns-in-Operand c = on_ok_weaker c.begin_operand.result (λ p. part_left c.args.self.now c.in-Operand.is p) c.begin_operand.ensures

pub returns-in_ok-push-in-Pair : goal.returns-in_ok-push-in-Pair
returns-in_ok-push-in-Pair c =
    let self = c.args.self.now in
    on_ok_weaker c.begin_pair.result (λ p. part_left self c.in-Pair.is (bracket_left self _ _ _ _ _ _ _ _ _ _ _ _ _ (omega arith) refl tt c.in_ok-push-in-Pair.ensures.items (c.in_ok-push_token-in-Pair.ensures kind_.LeftParen) (p c.push_token.new.out.items))) c.begin_pair.ensures

pub returns-in-Sign : goal.returns-in-Sign
returns-in-Sign c =
    let self = c.args.self.now in
    let sign = c.in-Sign.sign in
    on_ok_weaker c.push_token-in-Sign.result (λ p. part_left self c.in-Sign.is (none_left self _ _ _ _ _ (omega arith) (λ w k.
    subst (λ x. Adds c.args.out.now.items c.push_token-in-Sign.new.out.items (λ rest. piece space (infix_kind sign) x ∷ rest)) (c.as_bytes.ensures.value ∙ c.infix_text.ensures) (p (infix_kind sign))))) c.push_token-in-Sign.ensures

pub returns-in-Further : goal.returns-in-Further
returns-in-Further c = on_ok_weaker c.begin_further.result (λ p. part_left c.args.self.now c.in-Further.is p) c.begin_further.ensures

pub returns-in-Elements : goal.returns-in-Elements
returns-in-Elements c = on_ok_weaker c.begin_elements.result (λ p. part_left c.args.self.now c.in-Elements.is p) c.begin_elements.ensures

pub returns-in-CloseBracket : goal.returns-in-CloseBracket
returns-in-CloseBracket c =
    let self = c.args.self.now in
    on_ok_weaker c.push_token-in-CloseBracket.result (λ p. part_left self c.in-CloseBracket.is (none_left self _ _ _ _ _ (omega arith) (λ w k. p kind_.RightParen))) c.push_token-in-CloseBracket.ensures

pub returns-in-CloseList : goal.returns-in-CloseList
returns-in-CloseList c =
    let self = c.args.self.now in
    on_ok_weaker c.push_token-in-CloseList.result (λ p. part_left self c.in-CloseList.is (none_left self _ _ _ _ _ (omega arith) (λ w k. p kind_.RightBracket))) c.push_token-in-CloseList.ensures
