use Rattle.std.proofs.Common.{◌≡◌, ◌++◌, take}
use Rattle.sort_table.proofs.item_entries.push_bytes.Given as goal

abbrev pub invariant-loop-byte : goal.invariant-loop-byte
invariant-loop-byte l = l.key.items ≡ l.fn.key.items ++ take l.byte-index l.name
