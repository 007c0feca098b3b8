use Rattle.std.proofs.Common.{◌≡◌, ◌-◌, ℕ, map, length}
use Rattle.std.specs.Prelude.{MatchOption}
use Rattle.process_terms.specs.PlainProcesses.{plain_component}
use Rattle.greibach.specs.PlacesInCode.{plain_entry}
use Rattle.greibach.specs.Readings.{definitions_in, places_in, IsReading, HasBegun}
use Rattle.greibach.specs.TablesRead.{ReadsTable}
use Rattle.greibach.proofs.ReadParts.{EntriesSoFar}
use Rattle.greibach.proofs.reading.read_places.Given as goal

abbrev pub invariant-loop-procs : goal.invariant-loop-procs
invariant-loop-procs l =
    IsReading l.source l.reader × EntriesSoFar l.source.sig.now (definitions_in l.source) (places_in l.reader) l.reader.reached.keys (map plain_entry l.entries.items) × HasBegun (places_in l.reader) l.reader.reached.keys (plain_component l.fn.start) l.own
    × ((first : ℕ) → MatchOption l.own (Unit {0}) (λ n. first ≡ n) → ReadsTable l.source.pool.now.trees (definitions_in l.source) (plain_component l.fn.start) (places_in l.reader) l.reader.reached.keys (map plain_entry l.entries.items) first)

abbrev pub decreases-loop-procs : goal.decreases-loop-procs
decreases-loop-procs l = length (definitions_in l.source) - length l.entries.items
