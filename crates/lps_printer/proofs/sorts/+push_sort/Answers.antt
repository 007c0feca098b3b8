use Rattle.std.proofs.Common.{arith}
use Rattle.std.proofs.lemmas.Result.{on_ok_weaker}
use Rattle.mcrl2_lexer.specs.declared.kind.Kind.TheVariants.{BoolWord, PosWord, NatWord, IntWord, ListWord, LeftParen, RightParen}
use Rattle.lps_printer.proofs.AddingPieces.{adds_both}
use Rattle.lps_printer.proofs.CodeSorts.{adds_sort, sort_of_kind, element_below}
use Rattle.lps_printer.proofs.sorts.+push_sort.Goals as goal

pub push_sort-requires : goal.push_sort-requires
push_sort-requires t c =
    let below = element_below c.args.sig.now c.kind.ensures.stands.table c.args.sort c.kind.result.now c.kind.ensures.kind c.requires c.in-List.element c.in-List.is in
    (omega (arith, below), omega (arith, below, c.requires))

pub returns-in-Bool : goal.returns-in-Bool
returns-in-Bool t c = on_ok_weaker c.push_token.result (λ p n k. adds_sort c.args.gap.now (sort_of_kind c.args.sig.now c.kind.ensures.stands.table c.args.sort c.kind.result.now c.kind.ensures.kind c.requires n _ c.in-Bool.is) (p BoolWord)) c.push_token.ensures

pub returns-in-Pos : goal.returns-in-Pos
returns-in-Pos t c = on_ok_weaker c.push_token-in-Pos.result (λ p n k. adds_sort c.args.gap.now (sort_of_kind c.args.sig.now c.kind.ensures.stands.table c.args.sort c.kind.result.now c.kind.ensures.kind c.requires n _ c.in-Pos.is) (p PosWord)) c.push_token-in-Pos.ensures

pub returns-in-Nat : goal.returns-in-Nat
returns-in-Nat t c = on_ok_weaker c.push_token-in-Nat.result (λ p n k. adds_sort c.args.gap.now (sort_of_kind c.args.sig.now c.kind.ensures.stands.table c.args.sort c.kind.result.now c.kind.ensures.kind c.requires n _ c.in-Nat.is) (p NatWord)) c.push_token-in-Nat.ensures

pub returns-in-Int : goal.returns-in-Int
returns-in-Int t c = on_ok_weaker c.push_token-in-Int.result (λ p n k. adds_sort c.args.gap.now (sort_of_kind c.args.sig.now c.kind.ensures.stands.table c.args.sort c.kind.result.now c.kind.ensures.kind c.requires n _ c.in-Int.is) (p IntWord)) c.push_token-in-Int.ensures

pub returns-in_ok-push_sort-in-List : goal.returns-in_ok-push_sort-in-List
returns-in_ok-push_sort-in-List t c =
    on_ok_weaker c.push_token-in-List-3.result (λ p n k. adds_sort c.args.gap.now (sort_of_kind c.args.sig.now c.kind.ensures.stands.table c.args.sort c.kind.result.now c.kind.ensures.kind c.requires n _ c.in-List.is)
    (adds_both (c.in_ok-push_token-in-List.ensures ListWord) (adds_both (c.in_ok-push_token-in-List-2.ensures LeftParen) (adds_both (c.in_ok-push_sort-in-List.ensures n k) (p RightParen))))) c.push_token-in-List-3.ensures

pub returns-in-Abstract : goal.returns-in-Abstract
returns-in-Abstract t c = on_ok_weaker c.push_sort_name.result (λ p n k. adds_sort c.args.gap.now (sort_of_kind c.args.sig.now c.kind.ensures.stands.table c.args.sort c.kind.result.now c.kind.ensures.kind c.requires n _ c.in-Abstract.is) (p n k)) c.push_sort_name.ensures

pub returns-in-Cons : goal.returns-in-Cons
returns-in-Cons t c = on_ok_weaker c.push_sort_name-in-Cons.result (λ p n k. adds_sort c.args.gap.now (sort_of_kind c.args.sig.now c.kind.ensures.stands.table c.args.sort c.kind.result.now c.kind.ensures.kind c.requires n _ c.in-Cons.is) (p n k)) c.push_sort_name-in-Cons.ensures

pub returns-in-Struct : goal.returns-in-Struct
returns-in-Struct t c = on_ok_weaker c.push_sort_name-in-Struct.result (λ p n k. adds_sort c.args.gap.now (sort_of_kind c.args.sig.now c.kind.ensures.stands.table c.args.sort c.kind.result.now c.kind.ensures.kind c.requires n _ c.in-Struct.is) (p n k)) c.push_sort_name-in-Struct.ensures
