-- The command line, as clap is told of it.
use Rattle.std.specs.Prelude.{Some, true, codes}
use Rattle.clap.specs.Words.{App, Rule, Text, new_app, new_rule, with_rule}
use Rattle.clap.specs.Simple.{on_top}

-- a positional, which has to be there
abbrev pub positional : Text → Rule
positional id = record (new_rule id) { required = true }

-- an option of one value, with its name behind two dashes
abbrev pub option : Text → Rule
option id = record (new_rule id) { long = Some id }

-- the program's name, with no flag for help or for a version
abbrev pub bare_command_line : App
bare_command_line = on_top (λ s. record s { disable_help_flag = true; disable_version_flag = true }) (new_app (codes "mcrl2lin"))

-- a command line with its two positionals
abbrev pub with_positionals : App → App
with_positionals a = with_rule (with_rule a (positional (codes "task"))) (positional (codes "file"))

-- a command line with its options from `--trace` to `--depth`
abbrev pub with_trace_to_depth : App → App
with_trace_to_depth a =
    with_rule (with_rule (with_rule (with_rule (with_rule (with_rule a
    (option (codes "trace"))) (option (codes "method"))) (option (codes "fuel")))
    (option (codes "bound"))) (option (codes "seed"))) (option (codes "depth"))

-- a command line with its nine options
abbrev pub with_options : App → App
with_options a =
    with_rule (with_rule (with_rule (with_trace_to_depth a)
    (option (codes "ending"))) (option (codes "invariant"))) (option (codes "after"))

-- `mcrl2lin TASK FILE [--trace FILE] [--method M] [--fuel N] [--bound N] [--seed N] [--depth N] [--ending E] [--invariant FILE] [--after FILE]`
unfoldable pub command_line : App
command_line = with_options (with_positionals bare_command_line)
