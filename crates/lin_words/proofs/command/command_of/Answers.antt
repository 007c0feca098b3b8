use Rattle.std.proofs.Common.{◌≡◌, ◌∙◌, rules, map, sym, string_bytes}
use Rattle.clap.specs.Words.{kind_of}
use Rattle.clap.specs.declared.error.kind.ErrorKind.TheVariants.{OutOfMemory}
use Rattle.lin_words.proofs.TakenWords.{taken, refused}
use Rattle.lin_words.proofs.command.command_of.Goals as goal

pub returns-in-Ok-try_get_matches_from-clause-asked : goal.returns-in-Ok-try_get_matches_from-clause-asked
returns-in-Ok-try_get_matches_from-clause-asked c =
    c.command_in.ensures.asked ∙ taken (map string_bytes c.args.words.now) c.in-Ok.program c.in-Ok.ensures c.in-Ok-try_get_matches_from.matches
    c.in-Ok-try_get_matches_from.ensures.matches c.in-Ok-try_get_matches_from.ensures.kinds

pub returns-clause-asked : goal.returns-clause-asked
returns-clause-asked c =
    let other : kind_of c.in-Err.error ≡ OutOfMemory → ⊥ = λ is. search (rules, c.if-eq.false, c.eq.ensures, c.kind.ensures, is) in
    sym (refused (map string_bytes c.args.words.now) c.in-Ok.program c.in-Ok.ensures c.in-Err.error c.in-Err.ensures.kinds other)
