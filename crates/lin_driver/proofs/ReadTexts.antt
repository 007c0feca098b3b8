-- What is known of a text once it was read.
use Rattle.std.proofs.Common.{◌≡◌, ◌≢◌, ℕ, List, [], map, subst, sym, Result, Ok, Err}
use Rattle.std.specs.Prelude.{All, IfErr, IfOk, OnOk, IsErrAnd, count_by}
use Rattle.mcrl2_lexer.specs.declared.token.Token.{Token}
use Rattle.mcrl2_lexer.specs.Lexing.{HasTokens}
use Rattle.mcrl2_syntax.specs.Declarations.{PlainSpec, spec_of}
use Rattle.mcrl2_syntax.specs.SpelledDeclarations.{SpellsSpec}
use Rattle.mcrl2_parser.specs.Declarations.{declarations_of}
use Rattle.mcrl2_parser.specs.Faults.{IsSound, is_init}
use Rattle.process_terms.specs.PlainProcesses.{plain_equation}
use Rattle.lps_core.specs.PlainLinears.{plain_linear}
use Rattle.sort_table.specs.BareDeclarations.{bare_sections}
use Rattle.sort_checker.specs.FullVocabularies.{FullVocabulary}
use Rattle.lin_driver.specs.Accepted.{IsGuardedSystem, CanBeLinearised}
use Rattle.lin_driver.specs.Linearised.{it_stays, IsLinearised, IsMadeOf}
use Rattle.lin_driver.specs.LinearOfTexts.{IsLinearOf, IsMadeBy, is_made}
use Rattle.lin_driver.specs.Faults.{IsFaultBy}
use Rattle.lin_driver.specs.Refusals.{IsParsedAs, IsRefusedWith}
use Rattle.lin_driver.specs.declared.ending.Ending.{Ending}
use Rattle.lin_driver.specs.declared.ending.Ending.TheVariants.{End, Terminate}
use Rattle.lin_driver.specs.declared.fault.LinFault.{LinFault}
use Rattle.lin_driver.specs.declared.fault.LinFault.TheVariants.{TerminateDeclared, NoMemory}
use Rattle.lin_driver.specs.declared.linearising.Linearised.{Linearised}
use Rattle.lin_driver.specs.declared.methods.Method.{Method}
use Rattle.lin_driver.proofs.LinearisedTexts.{made_stands_for}

-- the text of the tokens is the one that was given
pub parsed_as : (text its_text : List ℕ) (spec : PlainSpec) (tokens : List Token) → its_text ≡ text → HasTokens text tokens → SpellsSpec its_text spec tokens → All (IsSound its_text tokens) (declarations_of tokens)
    → count_by is_init (declarations_of tokens) ≡ 1 → IsParsedAs text spec
parsed_as text its_text spec tokens same cut spelled sound one = record {
  tokens = tokens;
  has_tokens = cut;
  spelled = subst (λ (x : List ℕ). SpellsSpec x spec tokens) same spelled;
  sound = subst (λ (x : List ℕ). All (IsSound x tokens) (declarations_of tokens)) same sound;
  one_init = one;
}

pub accepted_text : {T : Type 0} (r : Result T LinFault) (text : List ℕ) (spec : PlainSpec) → IsParsedAs text spec → OnOk r ((v : FullVocabulary) × IsGuardedSystem (bare_sections spec) v) → OnOk r (CanBeLinearised text)
accepted_text (Ok x) text spec parsed has = record { spec = spec; parsed = parsed; vocabulary = has.0; guarded = has.1 }
accepted_text (Err e) text spec parsed has = tt

pub on_ok : {T E : Type 0} (r : Result T E) (P Q : Type 0) → (P → Q) → OnOk r P → OnOk r Q
on_ok (Ok x) P Q follows holds = follows holds
on_ok (Err e) P Q follows holds = tt

pub on_ok_anyway : {T E : Type 0} (r : Result T E) (P : Type 0) → P → OnOk r P
on_ok_anyway (Ok x) P holds = holds
on_ok_anyway (Err e) P holds = tt

-- ---- what was made
module _ (ending : Ending) (method : Method) where
  abbrev pub MadeBy : Linearised → Type 0
  MadeBy m = IsMadeBy method (spec_of m.spec) m.sig m.pool (map plain_equation m.theory.equations.items) m.name (plain_linear m.lin) m.components

  abbrev pub LinearOf : List ℕ → Linearised → Type 0
  LinearOf text m = IsLinearOf ending method text (spec_of m.spec) m.sig m.pool (map plain_equation m.theory.equations.items) m.name (plain_linear m.lin) m.components

  pub linearised_text : (r : Result Linearised LinFault) (text : List ℕ) → IfOk r (LinearOf text) → IfOk r (λ m. IsLinearised ending text (spec_of m.spec) m.sig m.pool.trees (plain_linear m.lin))
  linearised_text (Ok m) text is = made_stands_for ending text (spec_of m.spec) m.sig m.pool.trees (map plain_equation m.theory.equations.items) m.name (plain_linear m.lin) (is_made is)
  linearised_text (Err e) text is = tt

  pub made_of_text : (r : Result Linearised LinFault) (text : List ℕ) → IfOk r (LinearOf text) → IfOk r (λ m. IsMadeOf ending text (spec_of m.spec) m.sig m.pool.trees (map plain_equation m.theory.equations.items) m.name (plain_linear m.lin))
  made_of_text (Ok m) text is = is_made is
  made_of_text (Err e) text is = tt

-- as it stays
pub linear_that_may_end : (method : Method) (text : List ℕ) (m : Linearised) → IsParsedAs text (spec_of m.spec) → MadeBy End method m → LinearOf End method text m
linear_that_may_end method text m parsed by = record {
  tokens = parsed.tokens;
  cut = parsed.has_tokens;
  spelled = parsed.spelled;
  leaves_terminate = tt;
  signature = m.sig;
  pool = m.pool;
  linear = plain_linear m.lin;
  by = by;
  ended = it_stays;
  plain = by.plain;
  conditions = by.conditions;
  parameters = by.parameters;
  sums = by.sums;
}

pub linear_text_that_may_end : (r : Result Linearised LinFault) (method : Method) (text : List ℕ) → IfOk r (λ m. IsParsedAs text (spec_of m.spec)) → IfOk r (MadeBy End method) → IfOk r (LinearOf End method text)
linear_text_that_may_end (Ok m) method text parsed by = linear_that_may_end method text m parsed by
linear_text_that_may_end (Err e) method text parsed by = tt

-- the same specification is parsed
pub parsed_on : (r : Result Linearised LinFault) (text : List ℕ) (spec : PlainSpec) → IsParsedAs text spec → IfOk r (λ m. spec_of m.spec ≡ spec) → IfOk r (λ m. IsParsedAs text (spec_of m.spec))
parsed_on (Ok m) text spec parsed same = subst (IsParsedAs text) (sym same) parsed
parsed_on (Err e) text spec parsed same = tt

-- what is said of each text holds of the one that was read
pub linear_text_that_ends : (ending : Ending) (r : Result Linearised LinFault) (method : Method) (text : List ℕ) (m : Linearised) → IsParsedAs text (spec_of m.spec) → MadeBy ending method m
    → IfOk r (λ done. (by : Method) (its : List ℕ) → IsParsedAs its (spec_of m.spec) → MadeBy ending by m → LinearOf ending by its done) → IfOk r (LinearOf ending method text)
linear_text_that_ends ending (Ok done) method text m parsed by each = each method text parsed by
linear_text_that_ends ending (Err e) method text m parsed by each = tt

pub refused_of_text : {T : Type 0} (r : Result T LinFault) (text : List ℕ) (texts : List (List ℕ)) (spec : PlainSpec) → IsParsedAs text spec
    → IfErr r (λ fault. fault ≢ NoMemory → (its : List ℕ) (names : List (List ℕ)) → IsParsedAs its spec → IsRefusedWith its names fault) → IfErr r (λ fault. fault ≢ NoMemory → IsRefusedWith text texts fault)
refused_of_text (Ok x) text texts spec parsed each = tt
refused_of_text (Err fault) text texts spec parsed each = λ some. each some text texts parsed

pub by_of_method : {T : Type 0} (r : Result T LinFault) (ending : Ending) (method : Method) → IfErr r (λ fault. (by : Method) → IsFaultBy ending by fault) → IfErr r (IsFaultBy ending method)
by_of_method (Ok x) ending method each = tt
by_of_method (Err fault) ending method each = each method

pub err_anyway : {T E : Type 0} (r : Result T E) (P : E → Type 0) → ((e : E) → P e) → IfErr r P
err_anyway (Ok x) P holds = tt
err_anyway (Err e) P holds = holds e

-- a fault by the ending `End` is no action `Terminate`
pub not_by_end : (method : Method) (fault : LinFault) (number : ℕ) → IsFaultBy End method fault → fault ≡ TerminateDeclared number → ⊥
not_by_end method fault number by same = let never : End ≡ Terminate = subst (IsFaultBy End method) same by in absurd cc
