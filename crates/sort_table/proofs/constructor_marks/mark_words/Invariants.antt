use Rattle.std.proofs.Common.{◌≡◌, ◌++◌, List, take}
use Rattle.sort_table.specs.BareSorts.{SortExpression}
use Rattle.sort_table.specs.TextFunctions.{TextRole}
use Rattle.sort_table.specs.NamedFunctions.{functions_named}
use Rattle.sort_table.specs.ConstructorMarks.{marks_of, is_declared_role}
use Rattle.sort_table.proofs.constructor_marks.mark_words.Given as goal

abbrev pub invariant-loop-word : goal.invariant-loop-word
invariant-loop-word l = (es : List SortExpression) (to : SortExpression) (role : TextRole) → is_declared_role role ≡ l.mark → l.marks.items ≡ l.fn.marks.items ++ marks_of (functions_named es to role (take l._word-index l.words))
