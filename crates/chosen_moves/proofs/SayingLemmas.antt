-- What lines say.
use Rattle.std.proofs.Common.{◌≡◌, ◌≢◌, ◌≤◌, ℕ, List, [], ◌∷◌, length, Result, Ok, Err, sym, ap, subst, arith}
use Rattle.std.specs.Prelude.{IfOk}
use Rattle.data_theory.specs.declared.no_memory.NoMemory.{NoMemory}
use Rattle.mcrl2_lexer.specs.declared.token.LexFault.{LexFault}
use Rattle.mcrl2_lexer.specs.declared.token.LexFault.TheVariants as lex
use Rattle.mcrl2_lexer.specs.Lexing.{HasFault, HasTokens}
use Rattle.mcrl2_lexer.specs.declared.kind.Kind.TheVariants.{Numeral}
use Rattle.mcrl2_lexer.specs.declared.token.Token.{Token}
use Rattle.mcrl2_lexer.proofs.Faulty.{fault_no_tokens}
use Rattle.mcrl2_lexer.proofs.Single.{tokens_once}
use Rattle.chosen_moves.specs.declared.saying.Said.{Said}
use Rattle.chosen_moves.specs.declared.saying.Said.TheVariants.{Other}
use Rattle.chosen_moves.specs.Choices.{IsOther, Says}

-- a line with a fault says something else
pub faulty_other : (line : List ℕ) (fault : LexFault) (answer : Result Said NoMemory) → (fault ≢ lex.NoMemory → HasFault line fault) → IfOk answer (λ said. (said ≡ Other) × (fault ≢ lex.NoMemory)) → IfOk answer (Says line)
faulty_other line fault (Ok said) has found =
    subst (Says line) (sym found.0) (record {
      not_blank = λ blank. fault_no_tokens line fault [] (has found.1) blank;
      no_number = λ number is. fault_no_tokens line fault (is.token ∷ []) (has found.1) is.alone;
    })
faulty_other line fault (Err e) has found = tt

-- so does one with another token than a numeral
pub other_token : (line : List ℕ) (token : Token) → HasTokens line (token ∷ []) → (token.kind ≡ Numeral → ⊥) → IsOther line
other_token line token has other = record {
  not_blank = λ blank. let never : token ∷ [] ≡ [] = tokens_once line (token ∷ []) [] has.lexes blank.lexes in absurd cc;
  no_number = λ number is. let same : token ∷ [] ≡ is.token ∷ [] = tokens_once line (token ∷ []) (is.token ∷ []) has.lexes is.alone.lexes in
      let one : token ≡ is.token = cc in other (subst (λ (t : Token). t.kind ≡ Numeral) (sym one) is.numeral);
}

-- and one with several tokens
pub other_tokens : (line : List ℕ) (list : List Token) → HasTokens line list → 2 ≤ length list → IsOther line
other_tokens line list has several = record {
  not_blank = λ blank. let none : length list ≡ 0 = ap length (tokens_once line list [] has.lexes blank.lexes) in absurd (omega (arith, none, several));
  no_number = λ number is. let one : length list ≡ 1 = ap length (tokens_once line list (is.token ∷ []) has.lexes is.alone.lexes) in absurd (omega (arith, one, several));
}
