-- What the code's ids and layouts are.
use Rattle.std.specs.Prelude.{List}
use Rattle.data_theory.specs.IdTrees.{Tree}
use Rattle.term_pool.specs.HeadTrees.{trees_at}
use Rattle.regular_encoder.specs.FormColumns.{places_in}
use Rattle.stack_encoder.specs.declared.symbols.Symbols.{Symbols}
use Rattle.stack_encoder.specs.declared.symbols.Words.{Words}
use Rattle.stack_encoder.specs.declared.layouts.Layout.{Layout}
use Rattle.stack_encoder.specs.StackEntries.{StackIds}
use Rattle.stack_encoder.specs.AddedSort.{StackWords}
use Rattle.stack_encoder.specs.TreeStack.{FrameLayout}

abbrev pub plain_symbols : Symbols → StackIds
plain_symbols y = record { sort = y.sort; push = y.push; empty = y.empty; is_push = y.is_push; pc = y.pc; fields = y.fields.items; rest = y.rest }

abbrev pub plain_words : Words → StackWords
plain_words w = record { sort = w.sort; push = w.push; pc = w.pc; fields = w.fields.items; rest = w.rest; is_push = w.is_push; empty = w.empty }

abbrev pub frame_layout : List Tree → Layout → FrameLayout
frame_layout ts l = record { places = places_in l.places.items; defaults = trees_at ts l.defaults.items }
