use Rattle.std.proofs.Common.{◌≡◌, ◌≤◌, ◌<◌, ◌+◌, ◌-◌, length, take, drop, [], ◌∷◌, sym, ap, ◌∙◌, arith}
use Rattle.std.proofs.lemmas.List.Elements.{All-take, All-drop}
use Rattle.mcrl2_lexer.specs.declared.kind.Kind.TheVariants as kind_
use Rattle.lps_printer.specs.CodeWordings.{IsTermBy}
use Rattle.lps_printer.proofs.CodeTerms.{first_id}
use Rattle.lps_printer.proofs.PendingLemmas.{none_left, no_others, others_go, sizes_of_first, two_left}
use Rattle.lps_printer.proofs.term_writer.TermWriter.begin_further.Goals as goal

pub returns-in_default : goal.returns-in_default
returns-in_default c =
    let self = c.args.self.now in
    none_left self _ _ _ _ _ (omega arith) (λ w k. no_others self w c.args.placed c.args.ids.now (omega arith) c.args.out.now.items)

pub returns : goal.returns
returns c =
    let self = c.args.self.now in
    let xs = c.args.ids.now in
    let some : 1 ≤ length xs = omega arith in
    let weights = sizes_of_first self xs first_id some in
    let first = c.requires 0 first_id (omega arith) in
    let others = All-take (IsTermBy self) (length xs - 1) (drop 1 xs) (All-drop (IsTermBy self) 1 xs c.requires) in
    two_left self _ _ _ _ _ c.in_ok-push.ensures.items c.in_ok-push-2.ensures.items others first (omega (arith, weights)) (λ w k.
    others_go self w c.args.placed xs first_id some (c.in_ok-push_token.ensures kind_.Comma))
