-- The bytes of a printed expression have tokens that spell a tree of it.
use Rattle.std.proofs.Common.{◌≡◌, ℕ, List, [], ◌∷◌, refl, ap, sym, ◌∙◌, subst}
use Rattle.mcrl2_lexer.specs.declared.token.Token.{Token}
use Rattle.mcrl2_syntax.specs.SpelledData.{SpellsLevel}
use Rattle.lps_printer.specs.Pieces.{bytes_of, Says, says_none}
use Rattle.lps_printer.specs.PlainExpressions.{plain}
use Rattle.lps_printer.specs.DataLayout.{print}
use Rattle.lps_printer.specs.DataLaws.{ExpressionsSpellBack}
use Rattle.lps_printer.proofs.Cutting.{pieces_lex}
use Rattle.lps_printer.proofs.Apart.{apart}
use Rattle.lps_printer.proofs.Spelling.{printed_reads}
use Rattle.lps_printer.proofs.Trees.{plain_bare}

pub nothing_left : {text : List ℕ} {ts : List Token} → Says text [] ts → ts ≡ []
nothing_left says_none = refl

pub expressions_spell_back : ExpressionsSpellBack
expressions_spell_back e ok =
    let text : List ℕ = bytes_of (print e [] []) (10 ∷ []) in
    let l = pieces_lex (print e [] []) (10 ∷ []) (apart e ok [] refl [] (10 ∷ []) (record { apart = refl; quiet_ = refl })) in
    let r = printed_reads text e ok [] [] l.tokens l.says in
    record { tokens = l.tokens; cut = l.cut; tree = r.tree; spells = subst (λ (ts : List Token). SpellsLevel text 11 r.tree l.tokens ts) (nothing_left r.says) r.spells; is = sym (plain_bare r.tree) ∙ ap plain r.is }
