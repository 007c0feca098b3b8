use Rattle.std.proofs.Common.{◌-◌, length, map, take, drop, sym, ◌∙◌}
use Rattle.std.proofs.lemmas.Result.{on_ok_weaker}
use Rattle.std.proofs.lemmas.List.Elements.{All-take, All-drop}
use Rattle.mcrl2_lexer.specs.declared.kind.Kind.TheVariants.{Delta}
use Rattle.lps_core.specs.PlainLinears.{plain_summand}
use Rattle.lps_printer.specs.CodeProcesses.{IsSummandBy}
use Rattle.lps_printer.proofs.AddingPieces.{adds_both, adds_same}
use Rattle.lps_printer.proofs.CodeActions.{first_and_others, none_of, some_of}
use Rattle.lps_printer.proofs.CodeDefinitions.{item_fits, no_choice, all_choice}
use Rattle.lps_printer.proofs.process_writer.ProcessWriter.choice.Goals as goal

pub returns-then-is_empty : goal.returns-then-is_empty
returns-then-is_empty c =
    let none = none_of c.args.summands.now (sym c.is_empty.ensures ∙ c.if-is_empty.true) in
    on_ok_weaker c.push_token.result (λ p t k q. adds_same (λ rest. no_choice c.args.self.now t c.args.summands.now none rest) (p Delta)) c.push_token.ensures

pub summand-requires : goal.summand-requires
summand-requires c =
    let some = some_of c.args.summands.now (sym c.is_empty.ensures ∙ c.if-is_empty.false) in
    item_fits (IsSummandBy c.args.self.now) c.args.summands.now 0 c.index-summands-0.result some c.index-summands-0.is c.requires

pub further_summands-requires : goal.further_summands-requires
further_summands-requires c =
    let xs = c.args.summands.now in
    All-take (IsSummandBy c.args.self.now) (length xs - 1) (drop 1 xs) (All-drop (IsSummandBy c.args.self.now) 1 xs c.requires)

pub returns : goal.returns
returns c =
    let self = c.args.self.now in
    let xs = c.args.summands.now in
    let some = some_of xs (sym c.is_empty.ensures ∙ c.if-is_empty.false) in
    let parts = first_and_others plain_summand xs c.index-summands-0.result some c.index-summands-0.is in
    on_ok_weaker c.further_summands.result (λ p t k q.
    adds_same (λ rest. all_choice self t xs (plain_summand c.index-summands-0.result) (map plain_summand (take (length xs - 1) (drop 1 xs))) parts rest) (adds_both (c.in_ok-summand.ensures t k q) (p t k q))) c.further_summands.ensures
