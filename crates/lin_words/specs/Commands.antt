-- What the words of the command line ask for.
use Rattle.std.specs.Prelude.{⊤, ◌≤◌, ℕ, List, Bool, true, Option, Some, None, cond, codes, is_some, nat_le, option_map, option_and_then}
use Rattle.std.specs.Str.{bytes_eq}
use Rattle.clap.specs.Words.{Row, Text, fault_of, first_of, matches_of}
use Rattle.clap.specs.Walk.{is_empty}
use Rattle.lin_driver.specs.BufferLines.{buffer_line}
use Rattle.lin_driver.specs.declared.ending.Ending.{Ending}
use Rattle.lin_words.specs.CommandLine.{command_line}
use Rattle.lin_words.specs.Options.{number_of, options_in}
use Rattle.lin_words.specs.declared.options.Options.{Options}
use Rattle.lin_words.specs.declared.command.Command.{Command}
use Rattle.lin_words.specs.declared.command.Task.{Task}
use Rattle.lin_words.specs.declared.command.Task.TheVariants.{Check, Linearise, Constelm, Parelm, Sumelm, Steps, StepsAfter, Walk, Equations, Generate, Replay, Invariant}
use Rattle.lin_answers.specs.declared.plan.Plan.{Plan}

-- how the options let a walk go
abbrev pub plan_of : Options → Plan
plan_of options = record { fuel = options.fuel; bound = options.bound; seed = options.seed; depth = options.depth }

-- how many buffers a line of buffers has: what stands in the place of a file, where that is a number from 2 to 40
abbrev pub at_least_two : ℕ → Option ℕ
at_least_two n = cond (nat_le 2 n) (Some n) None

abbrev pub size_named : Text → Option ℕ
size_named file = option_and_then at_least_two (number_of 40 file)

-- the task `steps`: behind the moves that a file chooses, where one is named
abbrev pub steps_named : Option Text → Options → Task
steps_named None options = Steps options.method options.fuel options.bound
steps_named (Some after) options = StepsAfter options.method options.fuel options.bound

-- the task of this name, with what it takes of the file, of that behind `--after` and of the options
abbrev pub task_named : Text → Text → Option Text → Options → Option Task
task_named word file after options =
    cond (bytes_eq word (codes "check")) (Some Check)
    (cond (bytes_eq word (codes "linearise")) (Some (Linearise options.method))
    (cond (bytes_eq word (codes "constelm")) (Some (Constelm options.method options.fuel))
    (cond (bytes_eq word (codes "parelm")) (Some (Parelm options.method))
    (cond (bytes_eq word (codes "sumelm")) (Some (Sumelm options.method options.fuel))
    (cond (bytes_eq word (codes "steps")) (Some (steps_named after options))
    (cond (bytes_eq word (codes "walk")) (Some (Walk options.method (plan_of options)))
    (cond (bytes_eq word (codes "equations")) (Some (Equations options.method))
    (cond (bytes_eq word (codes "generate")) (option_map Generate (size_named file))
    (cond (bytes_eq word (codes "replay")) (Some (Replay options.method options.fuel options.bound))
    (cond (bytes_eq word (codes "invariant")) (Some (Invariant options.method options.fuel))
    None))))))))))

-- the further file that the task reads: the trace that is named, or the invariant, or the choices behind `--after`
abbrev pub further_named : Task → (trace invariant after : Option Text) → Option Text
further_named Check trace invariant after = None
further_named (Linearise method) trace invariant after = None
further_named (Constelm method fuel) trace invariant after = None
further_named (Parelm method) trace invariant after = None
further_named (Sumelm method fuel) trace invariant after = None
further_named (Steps method fuel bound) trace invariant after = None
further_named (StepsAfter method fuel bound) trace invariant after = after
further_named (Walk method plan) trace invariant after = None
further_named (Equations method) trace invariant after = None
further_named (Generate size) trace invariant after = None
further_named (Replay method fuel bound) trace invariant after = trace
further_named (Invariant method fuel) trace invariant after = invariant

-- whether a further file is named, where the task needs one
abbrev pub has_its_further : Task → Option Text → Bool
has_its_further Check further = true
has_its_further (Linearise method) further = true
has_its_further (Constelm method fuel) further = true
has_its_further (Parelm method) further = true
has_its_further (Sumelm method fuel) further = true
has_its_further (Steps method fuel bound) further = true
has_its_further (StepsAfter method fuel bound) further = is_some further
has_its_further (Walk method plan) further = true
has_its_further (Equations method) further = true
has_its_further (Generate size) further = true
has_its_further (Replay method fuel bound) further = is_some further
has_its_further (Invariant method fuel) further = is_some further

-- a task, the file that it is to be done with, the further file that it reads, where it reads one, and whether the end of a process is a step
pub record Asked : Type 0 where
  pub task : Task
  pub file : List ℕ
  pub further : Option (List ℕ)
  pub ending : Ending

abbrev pub asked : Command → Asked
asked command = record { task = command.task; file = command.file.now; further = option_map (λ s. s.now) command.further; ending = command.ending }

-- a task with these files and this ending; there is none where it needs a further one and none is named
abbrev pub asked_of : Text → Option Text → Ending → Task → Option Asked
asked_of file further ending task = cond (has_its_further task further) (Some (record { task = task; file = file; further = further; ending = ending })) None

-- what a task's name, a file, a trace, an invariant, a file of choices and the options ask for
abbrev pub asked_with : Option Text → Option Text → (trace invariant after : Option Text) → Option Options → Option Asked
asked_with (Some word) (Some file) trace invariant after (Some options) =
    option_and_then (λ task. asked_of file (further_named task trace invariant after) options.ending task) (task_named word file after options)
asked_with word file trace invariant after options = None

-- what the matches ask for
abbrev pub asked_in : List Row → Option Asked
asked_in rows = asked_with (first_of (codes "task") rows) (first_of (codes "file") rows) (first_of (codes "trace") rows) (first_of (codes "invariant") rows) (first_of (codes "after") rows)
    (options_in rows)

-- what the words ask for: nothing where clap refuses them, or where the matches give no command
unfoldable pub asked_by : List (List ℕ) → Option Asked
asked_by words = cond (is_empty (fault_of command_line words)) (asked_in (matches_of command_line words)) None

-- what is asked of a text, with an ending, and of the text of the further file that the task reads, where that is told
pub record Question : Type 0 where
  pub task : Task
  pub text : List ℕ
  pub further : Option (List ℕ)
  pub ending : Ending

-- a line of buffers is one of 2 to 40
abbrev pub IsSized : Task → Type 0
IsSized (Generate size) = (2 ≤ size) × (size ≤ 40)
IsSized Check = ⊤
IsSized (Linearise method) = ⊤
IsSized (Constelm method fuel) = ⊤
IsSized (Parelm method) = ⊤
IsSized (Sumelm method fuel) = ⊤
IsSized (Steps method fuel bound) = ⊤
IsSized (StepsAfter method fuel bound) = ⊤
IsSized (Walk method plan) = ⊤
IsSized (Equations method) = ⊤
IsSized (Replay method fuel bound) = ⊤
IsSized (Invariant method fuel) = ⊤

-- the tasks that need a further file
abbrev pub NeedsFurther : Task → Type 0
NeedsFurther Check = ⊥
NeedsFurther (Linearise method) = ⊥
NeedsFurther (Constelm method fuel) = ⊥
NeedsFurther (Parelm method) = ⊥
NeedsFurther (Sumelm method fuel) = ⊥
NeedsFurther (Steps method fuel bound) = ⊥
NeedsFurther (StepsAfter method fuel bound) = ⊤
NeedsFurther (Walk method plan) = ⊥
NeedsFurther (Equations method) = ⊥
NeedsFurther (Generate size) = ⊥
NeedsFurther (Replay method fuel bound) = ⊤
NeedsFurther (Invariant method fuel) = ⊤

-- the text that a task is done with: that of the file, where it is told; for `generate` that of a line of buffers
abbrev pub text_for : Task → Option (List ℕ) → Option (List ℕ)
text_for Check told = told
text_for (Linearise method) told = told
text_for (Constelm method fuel) told = told
text_for (Parelm method) told = told
text_for (Sumelm method fuel) told = told
text_for (Steps method fuel bound) told = told
text_for (StepsAfter method fuel bound) told = told
text_for (Walk method plan) told = told
text_for (Equations method) told = told
text_for (Generate size) told = Some (buffer_line size)
text_for (Replay method fuel bound) told = told
text_for (Invariant method fuel) told = told

abbrev pub text_asked : (List ℕ → Option (List ℕ)) → Asked → Option (List ℕ)
text_asked text_of a = text_for a.task (text_of a.file)

-- the text of the further file, where one is named and told
abbrev pub further_asked : (List ℕ → Option (List ℕ)) → Asked → Option (List ℕ)
further_asked text_of a = option_and_then text_of a.further

-- whether something is asked for which a file is read
abbrev pub ReadsFor : Task → Type 0
ReadsFor Check = ⊤
ReadsFor (Linearise method) = ⊤
ReadsFor (Constelm method fuel) = ⊤
ReadsFor (Parelm method) = ⊤
ReadsFor (Sumelm method fuel) = ⊤
ReadsFor (Steps method fuel bound) = ⊤
ReadsFor (StepsAfter method fuel bound) = ⊤
ReadsFor (Walk method plan) = ⊤
ReadsFor (Equations method) = ⊤
ReadsFor (Generate size) = ⊥
ReadsFor (Replay method fuel bound) = ⊤
ReadsFor (Invariant method fuel) = ⊤

abbrev pub ReadsAFile : Option Asked → Type 0
ReadsAFile None = ⊥
ReadsAFile (Some a) = ReadsFor a.task

-- the task asked for and its ending, with the text that it is done with and that of its further file; the shelf's texts are those that it tells
abbrev pub question : (List ℕ → Option (List ℕ)) → List (List ℕ) → Option Question
question text_of words = option_and_then (λ (a : Asked). option_map (λ t. record { task = a.task; text = t; further = further_asked text_of a; ending = a.ending }) (text_asked text_of a)) (asked_by words)
