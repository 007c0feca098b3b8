-- Lines without tokens.
use Rattle.std.specs.Prelude.{◌≡◌, ◌≢◌, ◌↔◌, ◌==◌, ℕ, Bool, false, List, [], length, IsTrue, IfOk, Result, Ok, Err}
use Rattle.std.proofs.Common.{sym, subst, ap, ◌∙◌, eqb-true, eq-eqb}
use Rattle.std.proofs.lemmas.List.{nil_from_length}
use Rattle.std.specs.declared.alloc.AllocError.{AllocError}
use Rattle.mcrl2_lexer.specs.declared.token.Token.{Token}
use Rattle.mcrl2_lexer.specs.declared.token.LexFault.{LexFault}
use Rattle.mcrl2_lexer.specs.declared.token.LexFault.TheVariants.{NoMemory}
use Rattle.mcrl2_lexer.specs.Lexing.{HasTokens, HasFault}
use Rattle.mcrl2_lexer.proofs.Faulty.{fault_no_tokens}
use Rattle.mcrl2_lexer.proofs.Single.{tokens_once}
use Rattle.trace_replay.specs.BlankLines.{IsBlank}

-- tokens that were found are none exactly where the line is blank
pub found_none : (line : List ℕ) (found : List Token) (blank : Bool) → HasTokens line found → blank ≡ (length found == 0) → IsTrue blank ↔ IsBlank line
found_none line found blank has is = (
  λ (yes : IsTrue blank). let none : found ≡ [] = nil_from_length found (eqb-true (length found) 0 (sym is ∙ yes)) in subst (HasTokens line) none has,
  λ (has_none : IsBlank line). is ∙ eq-eqb (length found) 0 (ap length (tokens_once line found [] has.lexes has_none.lexes)),
)

-- a line with a fault isn't blank
pub faulty_none : (line : List ℕ) (fault : LexFault) (answer : Result Bool AllocError) → (fault ≢ NoMemory → HasFault line fault)
    → IfOk answer (λ (blank : Bool). (blank ≡ false) × (fault ≢ NoMemory)) → IfOk answer (λ (blank : Bool). IsTrue blank ↔ IsBlank line)
faulty_none line fault (Ok blank) has found = (
  λ (yes : IsTrue blank). absurd (cc (yes, found.0)),
  λ (none : IsBlank line). absurd (fault_no_tokens line fault [] (has found.1) none),
)
faulty_none line fault (Err e) has found = tt
