-- What the readers of declarations use at their exits.
use Rattle.std.proofs.Common.{◌≡◌, List, ◌∷◌, Result, Ok, Err, MatchResult, sym, ◌∙◌, subst}
use Rattle.std.specs.Prelude.{IsErrAnd}
use Rattle.mcrl2_lexer.specs.declared.kind.Kind.{Kind}
use Rattle.mcrl2_lexer.specs.declared.token.Token.{Token}
use Rattle.mcrl2_syntax.specs.Words.{Begins}
use Rattle.mcrl2_parser.specs.declared.words.Fault.{Fault}
use Rattle.mcrl2_parser.specs.declared.words.Fault.TheVariants.{NoMemory}

-- a fault that is passed on
pub passes : {T : Type 0} {e : Fault} (result : Result T Fault) (P : T → Type 0) → IsErrAnd result (λ y. y ≡ e) → e ≡ NoMemory → MatchResult result P (λ y. y ≡ NoMemory)
passes (Ok x) P is same = absurd is
passes (Err y) P is same = is ∙ same

pub begins : (k : Kind) {t : Token} {ts r : List Token} → ts ≡ t ∷ r → t.kind ≡ k → Begins k ts
begins k {t = t} {r = r} e h = subst (Begins k) (sym e) h
