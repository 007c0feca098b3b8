-- What the words ask for, from what clap makes of them.
use Rattle.std.proofs.Common.{◌≡◌, ◌∙◌, List, [], ◌∷◌, None, true, false, cond, ap, sym, subst, refl, rules, inl, inr}
use Rattle.clap.specs.Words.{App, Text, HasMatchesOf, app_of, fault_of, found_of, is_simple, is_simple_and_free, kind_of, matches_of, rows_of}
use Rattle.clap.specs.Walk.{is_empty}
use Rattle.clap.specs.Kinds.{HasKind, IsAmong, Kinds}
use Rattle.clap.specs.declared.builder.command.Command.{Command}
use Rattle.clap.specs.declared.error.Error.{Error}
use Rattle.clap.specs.declared.error.kind.ErrorKind.{ErrorKind}
use Rattle.clap.specs.declared.error.kind.ErrorKind.TheVariants.{OutOfMemory}
use Rattle.clap.specs.declared.parser.matches.ArgMatches.{ArgMatches}
use Rattle.clap.proofs.OnLiterals.{clap_on_literals}
use Rattle.lin_words.specs.CommandLine.{command_line}
use Rattle.lin_words.specs.Commands.{asked_by, asked_in}

-- clap tells what it makes of any words by this command line
is_told : is_simple command_line ≡ true
unfolding command_line clap_on_literals
is_told = refl

is_told_whole : is_simple_and_free command_line ≡ true
unfolding command_line clap_on_literals
is_told_whole = refl

pub asked_by-is : (words : List Text) → asked_by words ≡ cond (is_empty (fault_of command_line words)) (asked_in (matches_of command_line words)) None
unfolding asked_by
asked_by-is words = refl

some_kind : (k : ErrorKind) (kinds : Kinds) → IsAmong k kinds → is_empty kinds ≡ false
some_kind k [] h = absurd h
some_kind k (x ∷ xs) h = search rules

module _ (words : List Text) (command : Command) (same : app_of command ≡ command_line) where
  told_whole : is_simple_and_free (app_of command) ≡ true
  told_whole = ap is_simple_and_free same ∙ is_told_whole

  -- clap takes the words
  pub taken : (m : ArgMatches) → HasMatchesOf (app_of command) words m
      → (is_simple_and_free (app_of command) ≡ true → fault_of (app_of command) words ≡ [])
      → asked_in (rows_of (found_of m)) ≡ asked_by words
  taken m matches kinds =
      let none : fault_of command_line words ≡ [] = ap (λ (a : App). fault_of a words) (sym same) ∙ kinds told_whole in
      let rows : rows_of (found_of m) ≡ matches_of command_line words = (matches (ap is_simple same ∙ is_told)).0 ∙ ap (λ (a : App). matches_of a words) same in
      ap asked_in rows ∙ sym (asked_by-is words ∙ ap (λ (kinds : Kinds). cond (is_empty kinds) (asked_in (matches_of command_line words)) None) none)

  -- clap refuses the words
  pub refused : (e : Error) → (is_simple_and_free (app_of command) ≡ true → HasKind (fault_of (app_of command) words) e)
      → (kind_of e ≡ OutOfMemory → ⊥) → asked_by words ≡ None
  refused e kinds other = elim (kinds told_whole) [
    | inl memory ↦ absurd (other memory)
    | inr among ↦
        let P : App → Type 0 = λ a. IsAmong (kind_of e) (fault_of a words) in
        asked_by-is words ∙ ap (λ b. cond b (asked_in (matches_of command_line words)) None) (some_kind (kind_of e) (fault_of command_line words) (subst P same among))
  ]
