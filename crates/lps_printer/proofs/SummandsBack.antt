-- The bytes of printed summands have tokens that spell a tree of them.
use Rattle.std.proofs.Common.{ℕ, List, [], ◌∷◌, Option, Some, None, refl, subst}
use Rattle.mcrl2_lexer.specs.declared.token.Token.{Token}
use Rattle.mcrl2_syntax.specs.SpelledProcesses.{chosen, SpellsChoices, spells_process}
use Rattle.lps_printer.specs.Pieces.{bytes_of}
use Rattle.lps_printer.specs.PrintedExpressions.{Expression}
use Rattle.lps_printer.specs.PrintedProcesses.{Action, tau_, act, Assignment, Next, ends, goes_bare, goes, Summand}
use Rattle.lps_printer.specs.SummandLayout.{print_summand, print_summands}
use Rattle.lps_printer.specs.NamedSummands.{IsNamedAction, AreNamedActions, AreNamedAssignments, IsNamedNext, IsNamedCondition, IsNamedSummand, AreNamedSummands, SummandsSpellBack}
use Rattle.lps_printer.proofs.Cutting.{pieces_lex}
use Rattle.lps_printer.proofs.SpellBack.{nothing_left}
use Rattle.lps_printer.proofs.ProcessSpelling.{IsSpelledAction, AreSpelledActions, AreSpelledValues, IsSpelledNext, IsSpelledCondition, IsSpelledSummand, AreSpelledSummands, read_choice}
use Rattle.lps_printer.proofs.SummandsApart.{summand_apart, summands_apart}

pub of_action : (a : Action) → IsNamedAction a → IsSpelledAction a
of_action tau_ h = tt
of_action (act x es) h = h.1

of_actions : (as_ : List Action) → AreNamedActions as_ → AreSpelledActions as_
of_actions [] h = tt
of_actions (a ∷ as_) h = (of_action a h.0, of_actions as_ h.1)

of_values : (xs : List Assignment) → AreNamedAssignments xs → AreSpelledValues xs
of_values [] h = tt
of_values (x ∷ xs) h = (h.0.1, of_values xs h.1)

of_next : (n : Next) → IsNamedNext n → IsSpelledNext n
of_next ends h = tt
of_next (goes_bare x) h = tt
of_next (goes x as_) h = of_values as_ h.1

of_condition : (c : Option Expression) → IsNamedCondition c → IsSpelledCondition c
of_condition None h = tt
of_condition (Some c) h = h

pub of_summand : (s : Summand) → IsNamedSummand s → IsSpelledSummand s
of_summand s h = record { condition = of_condition s.condition h.condition; first = of_action s.first h.first; others = of_actions s.others h.others; next = of_next s.next h.next }

pub of_summands : (ss : List Summand) → AreNamedSummands ss → AreSpelledSummands ss
of_summands [] h = tt
of_summands (s ∷ ss) h = (of_summand s h.0, of_summands ss h.1)

pub summands_spell_back : SummandsSpellBack
summands_spell_back s ss ok oks =
    let text : List ℕ = bytes_of (print_summand s [] (print_summands ss [])) (10 ∷ []) in
    let l = pieces_lex (print_summand s [] (print_summands ss [])) (10 ∷ []) (summand_apart s ok [] refl (print_summands ss []) (10 ∷ []) (summands_apart ss oks [] (10 ∷ []) (record { apart = refl; quiet_ = refl }))) in
    let r = read_choice text s ss (of_summand s ok) (of_summands ss oks) [] [] l.tokens l.says in
    record { tokens = l.tokens; cut = l.cut; tree = chosen (r.head ∷ r.tail); spells = spells_process (subst (λ (ts : List Token). SpellsChoices text (r.head ∷ r.tail) l.tokens ts) (nothing_left r.says) r.spells); is = r.whole }
