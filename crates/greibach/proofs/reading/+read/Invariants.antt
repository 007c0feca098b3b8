use Rattle.std.proofs.Common.{◌≡◌, ◌+◌, ◌*◌, ◌++◌, ◌≤◌, ◌<◌, [], map, take, drop, length}
use Rattle.process_terms.specs.PlainProcesses.{plain_process, processes_of, sum}
use Rattle.proc_unfold.proofs.Sizes.{nodes, all_nodes}
use Rattle.greibach.specs.Readings.{definitions_in, places_in, ReadsOn, ReadsTerm}
use Rattle.greibach.specs.TableReadings.{AreNeededIn}
use Rattle.greibach.proofs.ReadTables.{ReadsRow, steps_from}
use Rattle.greibach.proofs.ReadParts.{IsChoosing, larger}
use Rattle.greibach.proofs.reading.+read.Given as goal

abbrev pub decreases-read : goal.decreases-read
decreases-read l = 3 * nodes (plain_process l.process.now)

abbrev pub decreases-read_chain : goal.decreases-read_chain
decreases-read_chain l = 3 * all_nodes (processes_of (map plain_process l.parts.now)) + 1

abbrev pub decreases-read_choice : goal.decreases-read_choice
decreases-read_choice l = 3 * all_nodes (processes_of (map plain_process l.parts.now)) + 1

abbrev pub decreases-read_merge : goal.decreases-read_merge
decreases-read_merge l = 3 * all_nodes (processes_of (map plain_process l.parts.now)) + 1

abbrev pub decreases-read_sync : goal.decreases-read_sync
decreases-read_sync l = 3 * all_nodes (processes_of (map plain_process l.parts.now)) + 1

abbrev pub decreases-read_sum : goal.decreases-read_sum
decreases-read_sum l = 3 * nodes (plain_process l.part.now) + 1

abbrev pub decreases-read_cond : goal.decreases-read_cond
decreases-read_cond l = 3 * larger (nodes (plain_process l.then.now)) (nodes (plain_process l.other.now)) + 1

abbrev pub invariant-read_choice-loop-part : goal.invariant-read_choice-loop-part
invariant-read_choice-loop-part l =
    IsChoosing l.source.sig.now l.source.pool.now.trees (definitions_in l.source) (places_in l.fn.reader) (places_in l.reader) l.fn.reader.reached.keys l.reader.reached.keys l.fn.reader.scope.items l.rest l.needed.keys l.operands.items
    × (l.reader.scope.items ≡ l.fn.reader.scope.items)
    × ReadsRow l.source.pool.now.trees l.fn.reader.scope.items l.rest (places_in l.fn.reader) l.fn.reader.reached.keys (map plain_process (take l.part-index l.parts)) (places_in l.reader) l.reader.reached.keys l.operands.items
    × AreNeededIn l.source.pool.now.trees (places_in l.reader) [] l.rest l.operands.items l.needed.keys

abbrev pub invariant-read_chain-loop-left : goal.invariant-read_chain-loop-left
invariant-read_chain-loop-left l =
    ReadsOn l.source l.fn.reader l.reader l.fn.reader.scope.items l.place × (l.reader.scope.items ≡ l.fn.reader.scope.items) × (l.left < length l.parts)
    × ReadsTerm l.source.pool.now.trees (places_in l.fn.reader) (places_in l.reader) l.fn.reader.reached.keys l.reader.reached.keys l.fn.reader.scope.items (steps_from l.source.pool.now.trees l.parts l.left) l.fn.rest l.place

abbrev pub decreases-read_chain-loop-left : goal.decreases-read_chain-loop-left
decreases-read_chain-loop-left l = l.left

abbrev pub invariant-read_sum-loop-left : goal.invariant-read_sum-loop-left
invariant-read_sum-loop-left l =
    ReadsOn l.source l.fn.reader l.reader (l.fn.reader.scope.items ++ take l.left l.vars) l.place × (l.reader.scope.items ≡ l.fn.reader.scope.items ++ take l.left l.vars) × (l.left ≤ length l.vars)
    × ReadsTerm l.source.pool.now.trees (places_in l.fn.reader) (places_in l.reader) l.fn.reader.reached.keys l.reader.reached.keys (l.fn.reader.scope.items ++ take l.left l.vars) (sum (drop l.left l.vars) (plain_process l.part)) l.rest l.place

abbrev pub decreases-read_sum-loop-left : goal.decreases-read_sum-loop-left
decreases-read_sum-loop-left l = l.left
