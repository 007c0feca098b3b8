use Rattle.std.proofs.Common.{◌+◌, ◌*◌, ◌≤◌, length}
use Rattle.mcrl2_lexer.specs.declared.kind.Kind.TheVariants.{Comma}
use Rattle.mcrl2_syntax.specs.DataTrees.{plain_data, plain_operands}
use Rattle.mcrl2_syntax.specs.Follow.{Stops}
use Rattle.mcrl2_syntax.specs.SpelledData.{SpellsData}
use Rattle.mcrl2_parser.proofs.ListLeft.{ListLeft}
use Rattle.mcrl2_parser.proofs.Operands.{OperandsLeft}
use Rattle.mcrl2_parser.proofs.datas.+datas.Given as goal

abbrev pub decreases-bracketed : goal.decreases-bracketed
decreases-bracketed l = length l.tokens.now * 16 + 15

abbrev pub decreases-data : goal.decreases-data
decreases-data l = length l.tokens.now * 16 + 9

abbrev pub decreases-items : goal.decreases-items
decreases-items l = length l.tokens.now * 16 + 10

abbrev pub decreases-listed : goal.decreases-listed
decreases-listed l = length l.tokens.now * 16 + 15

abbrev pub decreases-named : goal.decreases-named
decreases-named l = length l.tokens.now * 16 + 15

abbrev pub decreases-prefixed : goal.decreases-prefixed
decreases-prefixed l = length l.tokens.now * 16 + 15

abbrev pub decreases-operands : goal.decreases-operands
decreases-operands l = length l.tokens.now * 16

abbrev pub decreases-unit : goal.decreases-unit
decreases-unit l = length l.tokens.now * 16

abbrev pub invariant-items-loop-list : goal.invariant-items-loop-list
invariant-items-loop-list l = ListLeft plain_data (SpellsData l.text) Comma (Stops 11) l.tokens l.list.items l.rest × (length l.rest ≤ length l.tokens)

abbrev pub decreases-items-loop-list : goal.decreases-items-loop-list
decreases-items-loop-list l = length l.rest

abbrev pub invariant-operands-loop-sign : goal.invariant-operands-loop-sign
invariant-operands-loop-sign l = OperandsLeft l.text l.tokens (plain_operands l.operands.items) l.rest

abbrev pub decreases-operands-loop-sign : goal.decreases-operands-loop-sign
decreases-operands-loop-sign l = length l.rest
