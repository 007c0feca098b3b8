-- What a task's name and a file ask for, alone and with a method.
use Rattle.std.proofs.Common.{◌≡◌, ◌∙◌, ◌++◌, option_map, ℕ, List, [], ◌∷◌, Option, Some, None, false, cond, ap, refl, codes, is_some}
use Rattle.std.specs.Str.{bytes_eq}
use Rattle.clap.specs.Lexer.{long_of, short_of}
use Rattle.clap.specs.Words.{Rule, Text, built, fault_of, matches_of}
use Rattle.clap.specs.Walk.{Held, Step, Waiting, Walk, after_step, finished, idle, is_empty, nothing_held, option, plain_word, positional, settled, walk, walked, word_met}
use Rattle.clap.specs.Simple.{Shape, entered}
use Rattle.clap.specs.Kinds.{Kinds, or_else}
use Rattle.clap.specs.Faults.{check_fault, defaults_fault, entered_fault, settle_fault, step_fault, turn_fault, walk_fault, word_fault}
use Rattle.clap.proofs.OnLiterals.{clap_on_literals}
use Rattle.lin_words.specs.CommandLine.{command_line}
use Rattle.lin_words.specs.Commands.{asked_by, asked_in, asked_with}
use Rattle.lin_words.specs.Options.{all_options, method_named}
use Rattle.lin_words.specs.WordLaws.{asked_by_method, begins_with_dash, default_options, MethodIsAsked, TwoWordsAsk}
use Rattle.lin_driver.specs.declared.ending.Ending.TheVariants.{End}
use Rattle.lin_driver.specs.declared.methods.Method.{Method}
use Rattle.lin_words.proofs.TakenWords.{asked_by-is}

-- ---- a word that doesn't begin with a dash
no_end : (word : Text) → begins_with_dash word ≡ false → bytes_eq word (45 ∷ 45 ∷ []) ≡ false
no_end [] plain = refl
no_end (x ∷ xs) plain = rw plain refl

no_long : (word : Text) → begins_with_dash word ≡ false → long_of word ≡ None
no_long [] plain = refl
no_long (x ∷ xs) plain = rw plain refl

no_short : (word : Text) → begins_with_dash word ≡ false → short_of word ≡ None
no_short [] plain = refl
no_short (x ∷ xs) plain = rw plain refl

-- it is no flag, whatever waits for a value
met_as_plain : (c : List Rule) (waiting : Waiting) (place : ℕ) (word : Text) (h : Held) → begins_with_dash word ≡ false → word_met c [] false waiting place word h ≡ plain_word c waiting word h
met_as_plain c idle place word h plain = rw (no_end word plain, no_long word plain, no_short word plain) refl
met_as_plain c (option id) place word h plain = rw (no_end word plain, no_long word plain, no_short word plain) refl
met_as_plain c positional place word h plain = rw (no_end word plain, no_long word plain, no_short word plain) refl

no_word_fault : (s : Shape) (waiting : Waiting) (word : Text) (h : Held) → begins_with_dash word ≡ false → word_fault s [] false waiting word h ≡ []
no_word_fault s idle word h plain = rw (no_end word plain, no_long word plain, no_short word plain) refl
no_word_fault s (option id) word h plain = rw (no_end word plain, no_long word plain, no_short word plain) refl
no_word_fault s positional word h plain = rw (no_end word plain, no_long word plain, no_short word plain) refl

-- ---- a walk over such words
-- between two words
abbrev between : Held → Waiting → ℕ → Walk
between h waiting place = record { held = h; waiting = waiting; position = place; is_trailing = false; stopped = None }

-- behind a word that is no flag
abbrev behind : List Rule → Waiting → ℕ → Text → Held → Walk
behind c waiting place word h = let met : Held × Step = plain_word c waiting word h in after_step c word (between h waiting place) met.0 met.1

abbrev fault_there : Shape → Waiting → ℕ → Text → Held → Kinds
fault_there s waiting place word h = let met : Held × Step = plain_word s.rules waiting word h in step_fault s place met.0 met.1

walked_behind : (c : List Rule) (waiting : Waiting) (place : ℕ) (word : Text) (h : Held) → begins_with_dash word ≡ false → walked c [] (between h waiting place) word ≡ behind c waiting place word h
unfolding walked
walked_behind c waiting place word h plain = ap (λ (m : Held × Step). after_step c word (between h waiting place) m.0 m.1) (met_as_plain c waiting place word h plain)

turn_behind : (s : Shape) (waiting : Waiting) (place : ℕ) (word : Text) (h : Held) → begins_with_dash word ≡ false → turn_fault s [] (between h waiting place) word ≡ fault_there s waiting place word h
turn_behind s waiting place word h plain =
    let met : Held × Step = word_met s.rules [] false waiting place word h in
    ap (λ (kinds : Kinds). or_else kinds (step_fault s place met.0 met.1)) (no_word_fault s waiting word h plain)
    ∙ ap (λ (m : Held × Step). step_fault s place m.0 m.1) (met_as_plain s.rules waiting place word h plain)

abbrev top : Shape
top = (built command_line).top

-- behind the task's name
abbrev first_held : Text → Held
first_held task = (behind top.rules idle 1 task nothing_held).held

first_walk : (task : Text) → behind top.rules idle 1 task nothing_held ≡ between (first_held task) idle 2
unfolding command_line clap_on_literals
first_walk task = refl

first_fault : (task : Text) → fault_there top idle 1 task nothing_held ≡ []
unfolding command_line clap_on_literals
first_fault task = refl

-- behind the file
abbrev second_held : Text → Text → Held
second_held task file = (behind top.rules idle 2 file (first_held task)).held

second_walk : (task file : Text) → behind top.rules idle 2 file (first_held task) ≡ between (second_held task file) idle 3
unfolding command_line clap_on_literals
second_walk task file = refl

second_fault : (task file : Text) → fault_there top idle 2 file (first_held task) ≡ []
unfolding command_line clap_on_literals
second_fault task file = refl

-- what stands behind the walk
abbrev fault_behind : Walk → Kinds → Kinds
fault_behind w on_the_way =
    or_else on_the_way (or_else (entered_fault (built command_line) w.stopped) (or_else (settle_fault top.rules top.args_override_self w.held)
    (or_else (defaults_fault (settled top.rules w.held).rows top.rules) (check_fault top (finished top.rules w.held) (is_some (entered (built command_line) w.stopped))))))

fault_of-is : (program : Text) (words : List Text) → fault_of command_line (program ∷ words) ≡ fault_behind (walk top.rules [] nothing_held words) (walk_fault top [] (between nothing_held idle 1) words)
unfolding command_line
fault_of-is program words = refl

matches_of-is : (program : Text) (words : List Text) → matches_of command_line (program ∷ words) ≡ finished top.rules (walk top.rules [] nothing_held words).held
unfolding command_line
matches_of-is program words = refl

-- what words ask for whose walk ends there with no fault
asked_at : (program : Text) (words : List Text) (end : Walk) → walk top.rules [] nothing_held words ≡ end → walk_fault top [] (between nothing_held idle 1) words ≡ []
    → fault_behind end [] ≡ [] → asked_by (program ∷ words) ≡ asked_in (finished top.rules end.held)
asked_at program words end there on_the_way at_end =
    let none : fault_of command_line (program ∷ words) ≡ [] =
    fault_of-is program words
    ∙ ap (λ (kinds : Kinds). fault_behind (walk top.rules [] nothing_held words) kinds) on_the_way
    ∙ ap (λ (w : Walk). fault_behind w []) there
    ∙ at_end in
    asked_by-is (program ∷ words)
    ∙ ap (λ (kinds : Kinds). cond (is_empty kinds) (asked_in (matches_of command_line (program ∷ words))) None) none
    ∙ ap asked_in (matches_of-is program words ∙ ap (λ (w : Walk). finished top.rules w.held) there)

module _ (task file : Text) (first : begins_with_dash task ≡ false) (second : begins_with_dash file ≡ false) where
  behind_task : walked top.rules [] (between nothing_held idle 1) task ≡ between (first_held task) idle 2
  behind_task = walked_behind top.rules idle 1 task nothing_held first ∙ first_walk task

  behind_file : walked top.rules [] (walked top.rules [] (between nothing_held idle 1) task) file ≡ between (second_held task file) idle 3
  behind_file = ap (λ (w : Walk). walked top.rules [] w file) behind_task ∙ walked_behind top.rules idle 2 file (first_held task) second ∙ second_walk task file

  -- the faults on the way are those behind the file
  faults_behind_file : (words : List Text) → walk_fault top [] (between nothing_held idle 1) (task ∷ file ∷ words) ≡ walk_fault top [] (between (second_held task file) idle 3) words
  unfolding walk_fault
  faults_behind_file words =
      let start = between nothing_held idle 1 in
      let rest : Walk → Kinds = λ w. walk_fault top [] (walked top.rules [] w file) words in
      ap (λ (kinds : Kinds). or_else kinds (or_else (turn_fault top [] (walked top.rules [] start task) file) (rest (walked top.rules [] start task))))
      (turn_behind top idle 1 task nothing_held first ∙ first_fault task)
      ∙ ap (λ (w : Walk). or_else (turn_fault top [] w file) (rest (walked top.rules [] start task))) behind_task
      ∙ ap (λ (kinds : Kinds). or_else kinds (rest (walked top.rules [] start task))) (turn_behind top idle 2 file (first_held task) second ∙ second_fault task file)
      ∙ ap (λ (w : Walk). walk_fault top [] w words) behind_file

-- ---- the words alone
alone : (task file : Text) → fault_behind (between (second_held task file) idle 3) [] ≡ []
unfolding command_line clap_on_literals
alone task file = refl

asked_alone : (task file : Text) → asked_in (finished top.rules (second_held task file)) ≡ asked_with (Some task) (Some file) None None None (Some default_options)
unfolding command_line clap_on_literals
asked_alone task file = refl

none_left : (w : Walk) → walk_fault top [] w [] ≡ []
unfolding walk_fault
none_left w = refl

pub two_words_ask : TwoWordsAsk
two_words_ask program task file first second =
    asked_at program (task ∷ file ∷ []) (between (second_held task file) idle 3) (behind_file task file first second)
    (faults_behind_file task file first second [] ∙ none_left (between (second_held task file) idle 3)) (alone task file)
    ∙ asked_alone task file

-- ---- with a method
-- behind the option's name
abbrev option_held : Text → Text → Held
option_held task file = record (settled top.rules (second_held task file)) { pending = Some (codes "method", []) }

option_walk : (task file : Text) → walked top.rules [] (between (second_held task file) idle 3) (codes "--method") ≡ between (option_held task file) (option (codes "method")) 3
unfolding command_line clap_on_literals
option_walk task file = refl

option_fault : (task file : Text) → turn_fault top [] (between (second_held task file) idle 3) (codes "--method") ≡ []
unfolding command_line clap_on_literals
option_fault task file = refl

-- behind its value
abbrev value_walk : Text → Text → Text → Walk
value_walk task file name = behind top.rules (option (codes "method")) 3 name (option_held task file)

value_fault : (task file name : Text) → fault_there top (option (codes "method")) 3 name (option_held task file) ≡ []
unfolding command_line clap_on_literals
value_fault task file name = refl

value_end : (task file name : Text) → fault_behind (value_walk task file name) [] ≡ []
unfolding command_line clap_on_literals
value_end task file name = refl

by_default : (method : Option Method) → all_options method (Some 100000) (Some 16) (Some 1) (Some 10) (Some End) ≡ option_map (λ m. record default_options { method = m }) method
by_default None = refl
by_default (Some m) = refl

asked_value : (task file name : Text) → asked_in (finished top.rules (value_walk task file name).held) ≡ asked_by_method task file name
unfolding command_line clap_on_literals
asked_value task file name = ap (asked_with (Some task) (Some file) None None None) (by_default (method_named name))

-- behind a word with both
abbrev joined_walk : Text → Text → Text → Walk
joined_walk task file name = walked top.rules [] (between (second_held task file) idle 3) (codes "--method=" ++ name)

joined_fault : (task file name : Text) → turn_fault top [] (between (second_held task file) idle 3) (codes "--method=" ++ name) ≡ []
unfolding command_line clap_on_literals
joined_fault task file name = refl

joined_end : (task file name : Text) → fault_behind (joined_walk task file name) [] ≡ []
unfolding command_line clap_on_literals
joined_end task file name = refl

asked_joined : (task file name : Text) → asked_in (finished top.rules (joined_walk task file name).held) ≡ asked_by_method task file name
unfolding command_line clap_on_literals
asked_joined task file name = ap (asked_with (Some task) (Some file) None None None) (by_default (method_named name))

module _ (task file name : Text) (first : begins_with_dash task ≡ false) (second : begins_with_dash file ≡ false) where
  there : Walk
  there = between (second_held task file) idle 3

  apart : begins_with_dash name ≡ false → (program : Text) → asked_by (program ∷ task ∷ file ∷ codes "--method" ∷ name ∷ []) ≡ asked_by_method task file name
  unfolding walk_fault there
  apart third program =
      let waits = between (option_held task file) (option (codes "method")) 3 in
      let to_value : walked top.rules [] waits name ≡ value_walk task file name = walked_behind top.rules (option (codes "method")) 3 name (option_held task file) third in
      let to_option = ap (λ (w : Walk). walked top.rules [] w (codes "--method")) (behind_file task file first second) ∙ option_walk task file in
      let faults : walk_fault top [] there (codes "--method" ∷ name ∷ []) ≡ [] =
      ap (λ (kinds : Kinds). or_else kinds (or_else (turn_fault top [] (walked top.rules [] there (codes "--method")) name) [])) (option_fault task file)
      ∙ ap (λ (w : Walk). or_else (turn_fault top [] w name) []) (option_walk task file)
      ∙ ap (λ (kinds : Kinds). or_else kinds []) (turn_behind top (option (codes "method")) 3 name (option_held task file) third ∙ value_fault task file name) in
      asked_at program (task ∷ file ∷ codes "--method" ∷ name ∷ []) (value_walk task file name)
      (ap (λ (w : Walk). walked top.rules [] w name) to_option ∙ to_value)
      (faults_behind_file task file first second (codes "--method" ∷ name ∷ []) ∙ faults) (value_end task file name)
      ∙ asked_value task file name

  joined : (program : Text) → asked_by (program ∷ task ∷ file ∷ (codes "--method=" ++ name) ∷ []) ≡ asked_by_method task file name
  unfolding walk_fault there
  joined program =
      let word = codes "--method=" ++ name in
      let faults : walk_fault top [] there (word ∷ []) ≡ [] = ap (λ (kinds : Kinds). or_else kinds []) (joined_fault task file name) in
      asked_at program (task ∷ file ∷ word ∷ []) (joined_walk task file name)
      (ap (λ (w : Walk). walked top.rules [] w word) (behind_file task file first second))
      (faults_behind_file task file first second (word ∷ []) ∙ faults) (joined_end task file name)
      ∙ asked_joined task file name

pub method_is_asked : MethodIsAsked
method_is_asked program task file name first second = (λ third. apart task file name first second third program, joined task file name first second program)
