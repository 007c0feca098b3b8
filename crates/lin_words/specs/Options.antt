-- What the options of the command line give.
use Rattle.std.specs.Prelude.{ℕ, List, [], ◌∷◌, Option, Some, None, Bool, false, cond, not, codes, ◌&&◌, ◌||◌, ◌==◌, nat_le}
use Rattle.std.specs.Char.{is_ascii_digit}
use Rattle.std.specs.List.{list_all}
use Rattle.std.specs.Str.{bytes_eq}
use Rattle.std.specs.Str.Parse.{digits_value}
use Rattle.clap.specs.Words.{Row, Text, first_of}
use Rattle.clap.specs.Walk.{is_empty}
use Rattle.lin_driver.specs.declared.ending.Ending.{Ending}
use Rattle.lin_driver.specs.declared.ending.Ending.TheVariants.{End, Terminate}
use Rattle.lin_driver.specs.declared.methods.Method.{Method}
use Rattle.lin_driver.specs.declared.methods.Method.TheVariants.{Auto, Regular, Stack}
use Rattle.lin_words.specs.declared.options.Options.{Options}

-- digits alone, of which the first is `0` where there is no other
abbrev pub is_number : Text → Bool
is_number [] = false
is_number (digit ∷ digits) = list_all is_ascii_digit (digit ∷ digits) && (not (digit == 48) || is_empty digits)

-- the number of a text, where it is one up to the greatest
abbrev pub number_of : (greatest : ℕ) → Text → Option ℕ
number_of greatest text = cond (is_number text && nat_le (digits_value 10 text) greatest) (Some (digits_value 10 text)) None

-- the number that an option has: of its value, or by default
abbrev pub number_or : (default greatest : ℕ) → Option Text → Option ℕ
number_or default greatest None = Some default
number_or default greatest (Some text) = number_of greatest text

abbrev pub method_named : Text → Option Method
method_named word = cond (bytes_eq word (codes "auto")) (Some Auto) (cond (bytes_eq word (codes "regular")) (Some Regular) (cond (bytes_eq word (codes "stack")) (Some Stack) None))

-- the method that `--method` names, by default `auto`
abbrev pub method_or_auto : Option Text → Option Method
method_or_auto None = Some Auto
method_or_auto (Some word) = method_named word

abbrev pub ending_named : Text → Option Ending
ending_named word = cond (bytes_eq word (codes "end")) (Some End) (cond (bytes_eq word (codes "terminate")) (Some Terminate) None)

-- the ending that `--ending` names, by default `end`
abbrev pub ending_or_end : Option Text → Option Ending
ending_or_end None = Some End
ending_or_end (Some word) = ending_named word

-- options all of which have a value
abbrev pub all_options : Option Method → (fuel bound seed depth : Option ℕ) → Option Ending → Option Options
all_options (Some method) (Some fuel) (Some bound) (Some seed) (Some depth) (Some ending) = Some (record { method = method; fuel = fuel; bound = bound; seed = seed; depth = depth; ending = ending })
all_options method fuel bound seed depth ending = None

-- the options in the matches, where each has a value
abbrev pub options_in : List Row → Option Options
options_in rows = all_options (method_or_auto (first_of (codes "method") rows))
    (number_or 100000 18446744073709551615 (first_of (codes "fuel") rows))
    (number_or 16 65536 (first_of (codes "bound") rows))
    (number_or 1 18446744073709551615 (first_of (codes "seed") rows))
    (number_or 10 1000000 (first_of (codes "depth") rows))
    (ending_or_end (first_of (codes "ending") rows))
