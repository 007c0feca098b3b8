use Rattle.std.proofs.Common.{◌≡◌, ◌≤◌, ◌<◌, ◌+◌, ◌-◌, length, get_or, take, drop, [], ◌∷◌, sym, ap, ◌∙◌, arith}
use Rattle.std.proofs.lemmas.List.Elements.{All-take, All-drop}
use Rattle.mcrl2_lexer.specs.declared.kind.Kind.TheVariants as kind_
use Rattle.lps_printer.specs.CodeWordings.{IsTermBy}
use Rattle.lps_printer.proofs.AddingPieces.{adds_equal, adds_both}
use Rattle.lps_printer.proofs.CodeTerms.{first_id}
use Rattle.lps_printer.proofs.CodeForms.{call_alone, call_applied}
use Rattle.lps_printer.proofs.PendingLemmas.{none_left, goes_before, goes_equal, sizes_of_first, three_left}
use Rattle.lps_printer.proofs.term_writer.TermWriter.begin_call.Goals as goal

pub returns-in_default : goal.returns-in_default
returns-in_default c =
    let self = c.args.self.now in
    none_left self _ _ _ _ _ (omega arith) (λ w k. adds_equal c.args.gap.now (call_alone self w c.args.placed c.args.args.now c.args.name.now (omega arith)) (c.in_ok-push_token.ensures kind_.Identifier))

pub returns : goal.returns
returns c =
    let self = c.args.self.now in
    let xs = c.args.args.now in
    let some : 1 ≤ length xs = omega arith in
    let weights = sizes_of_first self xs first_id some in
    let first = c.requires 0 first_id (omega arith) in
    let others = All-take (IsTermBy self) (length xs - 1) (drop 1 xs) (All-drop (IsTermBy self) 1 xs c.requires) in
    three_left self _ _ _ _ _ _ _ c.in_ok-push.ensures.items c.in_ok-push-2.ensures.items c.in_ok-push-3.ensures.items tt others first (omega (arith, weights)) (λ w k.
    goes_equal c.args.gap.now (call_applied self w c.args.placed xs c.args.name.now first_id some)
    (goes_before _ (adds_both (c.in_ok-push_token.ensures kind_.Identifier) (c.in_ok-push_token-2.ensures kind_.LeftParen))))
