-- What words ask for, said without clap.
use Rattle.std.specs.Prelude.{◌≡◌, ◌==◌, ◌++◌, [], ◌∷◌, Bool, false, Option, Some, None, codes, option_map}
use Rattle.clap.specs.Words.{Text}
use Rattle.lin_words.specs.Commands.{Asked, asked_by, asked_with}
use Rattle.lin_words.specs.Options.{method_named}
use Rattle.lin_driver.specs.declared.ending.Ending.TheVariants.{End}
use Rattle.lin_driver.specs.declared.methods.Method.TheVariants.{Auto}
use Rattle.lin_words.specs.declared.options.Options.{Options}

-- a word that begins with a dash
abbrev pub begins_with_dash : Text → Bool
begins_with_dash [] = false
begins_with_dash (first ∷ others) = first == 45

-- the options where none is given
abbrev pub default_options : Options
default_options = record { method = Auto; fuel = 100000; bound = 16; seed = 1; depth = 10; ending = End }

-- a task's name and a file ask for that task on that file with the options by default, where neither word begins with a dash
abbrev pub TwoWordsAsk : Type 0
TwoWordsAsk = (program task file : Text) → begins_with_dash task ≡ false → begins_with_dash file ≡ false
    → asked_by (program ∷ task ∷ file ∷ []) ≡ asked_with (Some task) (Some file) None None None (Some default_options)

-- that task on that file by the method of this name
abbrev pub asked_by_method : (task file name : Text) → Option Asked
asked_by_method task file name = asked_with (Some task) (Some file) None None None (option_map (λ m. record default_options { method = m }) (method_named name))

-- behind them `--method` with a name that doesn't begin with a dash, or `--method=` in front of any name, asks for it by the method of that name
abbrev pub MethodIsAsked : Type 0
MethodIsAsked = (program task file name : Text) → begins_with_dash task ≡ false → begins_with_dash file ≡ false
    → (begins_with_dash name ≡ false → asked_by (program ∷ task ∷ file ∷ codes "--method" ∷ name ∷ []) ≡ asked_by_method task file name)
    × (asked_by (program ∷ task ∷ file ∷ (codes "--method=" ++ name) ∷ []) ≡ asked_by_method task file name)
