-- Lines that are labels, as the code comes to them.
use Rattle.std.proofs.Common.{◌≡◌, ◌≢◌, ℕ, List, [], Result, Ok, Err, IsErrOf, refl, sym, ◌∙◌, subst}
use Rattle.std.specs.Result.{IsErrAnd}
use Rattle.mcrl2_lexer.specs.declared.token.Token.{Token}
use Rattle.mcrl2_lexer.specs.Lexing.{HasTokens}
use Rattle.mcrl2_syntax.specs.ProcessParts.{PlainLabel}
use Rattle.mcrl2_syntax.specs.SpelledLabels.{SpellsLabel}
use Rattle.mcrl2_syntax.specs.Follow.{NoAction}
use Rattle.mcrl2_syntax.proofs.LabelsOnce.{label_once}
use Rattle.mcrl2_parser.specs.declared.words.Fault.TheVariants as fault
use Rattle.mcrl2_parser.specs.declared.label_line.LabelFault.TheVariants.{NotALabel, NoMemory}
use Rattle.mcrl2_parser.specs.ReadableTexts.{IsReadable}
use Rattle.mcrl2_parser.specs.LabelLines.{IsLabelLine, of_reading}
use Rattle.mcrl2_parser.proofs.ReadableTexts.{read_whole, spelled_whole}

-- nothing follows a label that is all of its tokens
pub nothing_follows : NoAction []
nothing_follows = record { paren = λ b. b; bar = λ b. b }

-- a fault of memory says nothing of the text
pub differs : of_reading fault.NoMemory ≢ NotALabel
differs e = let same : NoMemory ≡ NotALabel = e in cc

module _ {line : List ℕ} {l : PlainLabel} where
  pub by_label : {found list rest : List Token} → IsReadable line found → list ≡ found → SpellsLabel line l list rest → rest ≡ [] → IsLabelLine line l
  by_label {found = found} is e read f = record { tokens = found; has_tokens = is.has_tokens; level = is.level; spelled = spelled_whole (SpellsLabel line l) e read f }

  pub label_readable : (is : IsLabelLine line l) → IsReadable line is.tokens
  label_readable is = record { has_tokens = is.has_tokens; level = is.level }

  pub label_read : {found list : List Token} → HasTokens line found → list ≡ found → IsLabelLine line l → SpellsLabel line l list []
  label_read has e is = read_whole (λ (x : List Token). SpellsLabel line l x []) has e is.has_tokens is.spelled

-- a line is one label at most
pub line_once : {line : List ℕ} {tokens r : List Token} {l m : PlainLabel} → HasTokens line tokens → SpellsLabel line l tokens r → r ≡ [] → IsLabelLine line m → l ≡ m
line_once {line = line} {tokens = tokens} {l = l} has d e is = (label_once (subst (SpellsLabel line l tokens) e d) (label_read has refl is) nothing_follows nothing_follows).0

-- a fault that is passed on
pub given_fault : {T E : Type 0} (r : Result T E) {given fault : E} → IsErrAnd r (λ x. x ≡ given) → IsErrOf r fault → given ≡ fault
given_fault (Ok x) e f = absurd e
given_fault (Err x) {fault = fault} e f = let same : x ≡ fault = cc in sym e ∙ same
