-- The plans of the shelf and the sink in memory.
use Rattle.std.specs.Vec.{vec_capacity}
use Rattle.mcrl2_text.specs.Plans.{ShelfPlan, SinkPlan}
use Rattle.mcrl2_text.specs.declared.mem_shelf.MemShelf.{MemShelf}
use Rattle.mcrl2_text.specs.declared.mem_sink.MemSink.{MemSink}

abbrev pub shelf_plan : MemShelf → ShelfPlan
shelf_plan s = record { open_fails = s.open_fails.items; read_fails = s.read_fails.items; most = s.most; opens = s.opens; reads = s.reads }

-- the room of a sink is the capacity of its bytes
abbrev pub sink_plan : MemSink → SinkPlan
sink_plan s = record { write_fails = s.write_fails.items; most = s.most; room = vec_capacity s.bytes; writes = s.writes }
