-- How a run ends, and the line that says so.
use Rattle.std.specs.Prelude.{⊤, ℕ, List, Option, Some, ◌++◌, [], ◌≡◌, ◌⊎◌, codes, IfSome}
use Rattle.mcrl2_text.specs.Bytes.{TakesPrefix}
use Rattle.mcrl2_text.specs.Faults.{Rose}
use Rattle.lin_driver.specs.Accepted.{CanBeLinearised}
use Rattle.lin_driver.specs.Eliminated.{IsEliminated}
use Rattle.lin_driver.specs.Headline.{StandsFor}
use Rattle.lin_driver.specs.Refusals.{IsRefusedWith}
use Rattle.lin_driver.specs.WrittenTexts.{IsWrittenFor}
use Rattle.lin_driver.specs.declared.eliminations.Elimination.TheVariants.{Constants, Parameters, Sums}
use Rattle.lin_driver.specs.declared.ending.Ending.{Ending}
use Rattle.lin_driver.specs.declared.ending.Ending.TheVariants.{Terminate}
use Rattle.lin_driver.specs.declared.fault.LinFault.TheVariants.{NotTail, TerminateDeclared}
use Rattle.lin_driver.specs.declared.methods.Method.{Method}
use Rattle.lin_driver.specs.declared.methods.Method.TheVariants.{Regular}
use Rattle.lin_answers.specs.declared.status.Status.{Status}
use Rattle.lin_answers.specs.declared.status.Status.TheVariants.{Done, Refused, Words, ReadFault, WriteFault, NoMemory, Undecided, No}
use Rattle.lin_refusals.specs.BadChoices.{AreGoodChoices}
use Rattle.lin_refusals.specs.BadTerms.{IsGoodCondition}
use Rattle.lin_refusals.specs.BadTraces.{IsGoodTrace}
use Rattle.lin_refusals.specs.Lines.{line_of, write_fault_line}
use Rattle.lin_refusals.specs.declared.stop.Stop.TheVariants as stop
use Rattle.lin_tasks.specs.Counts.{AreCounts}
use Rattle.lin_tasks.specs.JudgedEquations.{AreJudgedEquations}
use Rattle.lin_tasks.specs.ShownAfter.{AreShownAsTold}
use Rattle.lin_tasks.specs.ShownInvariants.{IsJudgedAsTold}
use Rattle.lin_tasks.specs.ShownTexts.{AreShownSteps, IsShownWalk}
use Rattle.lin_tasks.specs.ShownVerdicts.{IsReplayedAsTold}
use Rattle.lin_words.specs.Commands.{Question}
use Rattle.lin_words.specs.declared.command.Task.{Task}
use Rattle.lin_words.specs.declared.command.Task.TheVariants.{Check, Linearise, Constelm, Parelm, Sumelm, Steps, StepsAfter, Walk, Equations, Generate, Replay, Invariant}
use Rattle.lin_run.specs.Causes.{IsRefusal, IsTooLong, IsConditionRefusal, IsFileRefusal}

-- The answer of a task, where the text can be linearised, and its status: `ok`, or a text that stands for it, which is that of a plainly conditioned linear
-- process made of the text, or for an elimination that of what is left of a linear process for the text; or what such a process can do first, or behind chosen
-- moves, or a walk of it, and whether a summand is left undecided; or how large it is; or its verdict on the trace; or
-- what is answered of a condition, and where it holds a text that stands for the given one. The further file's text is told or not. The linear process has this
-- ending; that of a line of buffers, which never ends, is taken as it is.
abbrev pub IsAnswer : Ending → Task → List ℕ → Option (List ℕ) → Status → List ℕ → Type 0
IsAnswer ending Check text further status answer = CanBeLinearised text × (status ≡ Done) × (answer ≡ codes "ok\n")
IsAnswer ending (Linearise method) text further status answer = CanBeLinearised text × (status ≡ Done) × StandsFor ending text answer × IsWrittenFor ending method text answer
IsAnswer ending (Constelm method fuel) text further status answer = CanBeLinearised text × (status ≡ Done) × StandsFor ending text answer × IsEliminated ending method (Constants fuel) text answer
IsAnswer ending (Parelm method) text further status answer = CanBeLinearised text × (status ≡ Done) × StandsFor ending text answer × IsEliminated ending method Parameters text answer
IsAnswer ending (Sumelm method fuel) text further status answer = CanBeLinearised text × (status ≡ Done) × StandsFor ending text answer × IsEliminated ending method (Sums fuel) text answer
IsAnswer ending (Steps method fuel bound) text further status answer = CanBeLinearised text × AreShownSteps ending method fuel bound text status answer
IsAnswer ending (StepsAfter method fuel bound) text further status answer = CanBeLinearised text × AreShownAsTold ending method fuel bound text further status answer
IsAnswer ending (Walk method plan) text further status answer = CanBeLinearised text × IsShownWalk ending method plan text status answer
IsAnswer ending (Equations method) text further status answer = CanBeLinearised text × AreJudgedEquations text status answer
IsAnswer ending (Generate size) text further status answer = CanBeLinearised text × (status ≡ Done) × AreCounts text answer
IsAnswer ending (Replay method fuel bound) text further status answer = CanBeLinearised text × IsReplayedAsTold ending method fuel bound text further status answer
IsAnswer ending (Invariant method fuel) text further status answer = CanBeLinearised text × (status ≡ Done → StandsFor ending text answer) × IsJudgedAsTold ending method fuel text further status answer

-- the tasks that may leave something undecided
abbrev pub MayStayOpen : Task → Type 0
MayStayOpen Check = ⊥
MayStayOpen (Linearise method) = ⊥
MayStayOpen (Constelm method fuel) = ⊥
MayStayOpen (Parelm method) = ⊥
MayStayOpen (Sumelm method fuel) = ⊥
MayStayOpen (Steps method fuel bound) = ⊤
MayStayOpen (StepsAfter method fuel bound) = ⊤
MayStayOpen (Walk method plan) = ⊤
MayStayOpen (Equations method) = ⊤
MayStayOpen (Generate size) = ⊥
MayStayOpen (Replay method fuel bound) = ⊤
MayStayOpen (Invariant method fuel) = ⊤

-- the one whose answer may be no
abbrev pub MaySayNo : Task → Type 0
MaySayNo Check = ⊥
MaySayNo (Linearise method) = ⊥
MaySayNo (Constelm method fuel) = ⊥
MaySayNo (Parelm method) = ⊥
MaySayNo (Sumelm method fuel) = ⊥
MaySayNo (Steps method fuel bound) = ⊥
MaySayNo (StepsAfter method fuel bound) = ⊥
MaySayNo (Walk method plan) = ⊥
MaySayNo (Equations method) = ⊥
MaySayNo (Generate size) = ⊥
MaySayNo (Replay method fuel bound) = ⊤
MaySayNo (Invariant method fuel) = ⊥

-- the statuses of an answer
abbrev pub IsAnswered : Status → Type 0
IsAnswered Done = ⊤
IsAnswered Undecided = ⊤
IsAnswered No = ⊤
IsAnswered Refused = ⊥
IsAnswered Words = ⊥
IsAnswered ReadFault = ⊥
IsAnswered WriteFault = ⊥
IsAnswered NoMemory = ⊥

-- The texts that are made linear with an ending and by a method: those that can be linearised. By `Regular` no form of such a text may have a summand of two
-- calls, either, and with `Terminate` it may declare no action of this name.
abbrev pub IsTakenBy : Ending → Method → List ℕ → Type 0
IsTakenBy ending method text = CanBeLinearised text × (method ≡ Regular → (texts : List (List ℕ)) (component summand : ℕ) → ¬ (IsRefusedWith text texts (NotTail component summand)))
    × (ending ≡ Terminate → (texts : List (List ℕ)) (number : ℕ) → ¬ (IsRefusedWith text texts (TerminateDeclared number)))

-- the texts for which a task is done with an ending
abbrev pub IsTaken : Ending → Task → List ℕ → Type 0
IsTaken ending Check text = CanBeLinearised text
IsTaken ending (Linearise method) text = IsTakenBy ending method text
IsTaken ending (Constelm method fuel) text = IsTakenBy ending method text
IsTaken ending (Parelm method) text = IsTakenBy ending method text
IsTaken ending (Sumelm method fuel) text = IsTakenBy ending method text
IsTaken ending (Steps method fuel bound) text = IsTakenBy ending method text
IsTaken ending (StepsAfter method fuel bound) text = IsTakenBy ending method text
IsTaken ending (Walk method plan) text = IsTakenBy ending method text
IsTaken ending (Equations method) text = IsTakenBy ending method text
IsTaken ending (Generate size) text = CanBeLinearised text
IsTaken ending (Replay method fuel bound) text = IsTakenBy ending method text
IsTaken ending (Invariant method fuel) text = IsTakenBy ending method text

-- where the task needs a trace, choices or a condition, good ones are told
abbrev pub HasGoodFurther : Ending → Task → List ℕ → Option (List ℕ) → Type 0
HasGoodFurther ending Check text told = ⊤
HasGoodFurther ending (Linearise method) text told = ⊤
HasGoodFurther ending (Constelm method fuel) text told = ⊤
HasGoodFurther ending (Parelm method) text told = ⊤
HasGoodFurther ending (Sumelm method fuel) text told = ⊤
HasGoodFurther ending (Steps method fuel bound) text told = ⊤
HasGoodFurther ending (StepsAfter method fuel bound) text told = AreGoodChoices ending method fuel bound text told
HasGoodFurther ending (Walk method plan) text told = ⊤
HasGoodFurther ending (Equations method) text told = ⊤
HasGoodFurther ending (Generate size) text told = ⊤
HasGoodFurther ending (Replay method fuel bound) text told = IsGoodTrace ending method text told
HasGoodFurther ending (Invariant method fuel) text told = IsGoodCondition ending method text told

-- the line of a status, with its cause in the text or in the further file where these are told
abbrev pub IsLineOf : Status → Option Question → List ℕ → Type 0
IsLineOf Done asked line = line ≡ []
IsLineOf Refused asked line = ((line ≡ line_of stop.TooLong) × IfSome asked IsTooLong) ⊎ (IsRefusal asked line ⊎ (IsFileRefusal asked line ⊎ IsConditionRefusal asked line))
IsLineOf Words asked line = line ≡ line_of stop.Words
IsLineOf ReadFault asked line = line ≡ line_of stop.ReadFault
IsLineOf WriteFault asked line = line ≡ write_fault_line
IsLineOf NoMemory asked line = line ≡ line_of stop.NoMemory
IsLineOf Undecided asked line = line ≡ []
IsLineOf No asked line = line ≡ []

-- the error output took the line of the status, whole or, where its own count rose, a prefix of it
pub record EndsWithLine (status : Status) (asked : Option Question) (before after : Option (List ℕ)) (faults_before faults_after : ℕ) : Type 0 where
  pub line : List ℕ
  pub says : IsLineOf status asked line
  pub prefix : IfSome before (λ bytes. TakesPrefix bytes after line)
  pub whole : Rose faults_before faults_after ⊎ IfSome before (λ bytes. after ≡ Some (bytes ++ line))

-- the bytes that the output took are the answer, with this status
abbrev pub TookAnswer : Status → Question → Option (List ℕ) → Option (List ℕ) → Type 0
TookAnswer status q before after = IfSome before (λ bytes. (answer : List ℕ) × (after ≡ Some (bytes ++ answer)) × IsAnswer q.ending q.task q.text q.further status answer)

-- the task was done, and the output took its answer with the status that it has; or memory ran out
abbrev pub EndsWell : Status → Question → Option (List ℕ) → Option (List ℕ) → Type 0
EndsWell Done q before after = TookAnswer Done q before after
EndsWell Undecided q before after = TookAnswer Undecided q before after
EndsWell No q before after = TookAnswer No q before after
EndsWell NoMemory q before after = ⊤
EndsWell Refused q before after = ⊥
EndsWell Words q before after = ⊥
EndsWell ReadFault q before after = ⊥
EndsWell WriteFault q before after = ⊥
