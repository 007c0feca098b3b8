use Rattle.std.proofs.Common.{◌≡◌, ◌<◌, ◌≤◌, ◌+◌, List, ◌∷◌, [], ◌∙◌, map, length, Some, sym, ap, subst, arith, rules}
use Rattle.std.specs.Prelude.{slice_get, MatchOption}
use Rattle.std.specs.List.{All}
use Rattle.std.proofs.lemmas.List.{map-append, length-map, length-append}
use Rattle.std.proofs.lemmas.Option.{slice_get_within}
use Rattle.process_terms.specs.declared.definitions.ProcDef.{ProcDef}
use Rattle.process_terms.specs.PlainProcesses.{plain_component, plain_definition}
use Rattle.data_theory.specs.declared.ids.ProcId.{ProcId}
use Rattle.lps_core.specs.Fitting.{IsVariable}
use Rattle.lps_core.proofs.Members.{all_at}
use Rattle.proc_unfold.specs.FittingModels.{DefinitionFits}
use Rattle.greibach.specs.PlacesInCode.{PlainEntry, plain_entry, plain_places}
use Rattle.greibach.specs.Readings.{definitions_in, places_in}
use Rattle.greibach.specs.TablesRead.{ReadsTable}
use Rattle.greibach.proofs.ReadParts.{few_reached, entries_more, entries_none, begun_later, definition_holds, definition_stands, starts_at}
use Rattle.greibach.proofs.TableParts.{table_more, table_begins, own_fits, starts_first}
use Rattle.greibach.proofs.reading.read_places.Goals as goal

pub read_definition-requires-clause-definition : goal.read_definition-requires-clause-definition
read_definition-requires-clause-definition c =
    let at : slice_get c.loop-procs.reader.reached.keys (length c.loop-procs.entries.items) ≡ Some c.index-process.result.now = search rules in
    let within = all_at (λ (x : ProcId). x.0 < length (definitions_in c.args.source)) c.loop-procs.reader.reached.keys (length c.loop-procs.entries.items) c.index-process.result.now c.loop-procs.invariant.0.known at in
    let procs = length-map c.args.source.model.now.procs.items plain_definition in
    let same = ap length c.as_slice-procs.ensures.value in
    let l : c.index-process.result.now.0 < length c.as_slice-procs.result.now = omega (arith, within, procs, same) in
    subst (λ (z : List ProcDef). All (DefinitionFits c.args.source.sig.now c.args.source.pool.now.trees (definitions_in c.args.source)) (map plain_definition z) → DefinitionFits c.args.source.sig.now c.args.source.pool.now.trees (definitions_in c.args.source) (plain_definition c.index-procs-process.result)) c.as_slice-procs.ensures.value
    (definition_holds (DefinitionFits c.args.source.sig.now c.args.source.pool.now.trees (definitions_in c.args.source)) c.as_slice-procs.result.now c.index-process.result.now.0 c.index-procs-process.result l c.index-procs-process.is) c.requires.model.definitions

pub loop-procs-smaller : goal.loop-procs-smaller
loop-procs-smaller c =
    let few = few_reached (length (definitions_in c.args.source)) c.loop-procs.reader.reached.keys c.len-in-loop-procs.ensures.unique c.loop-procs.invariant.0.known in
    let some : length c.loop-procs.entries.items < length c.loop-procs.reader.reached.keys = search rules in
    let more : length c.push.new.self.items ≡ length c.loop-procs.entries.items + 1 = ap length c.in_ok-push.ensures.items ∙ length-append c.loop-procs.entries.items (c.in_ok-entry.entry ∷ []) in
    omega (arith, few, some, more)

pub loop-procs-preserved : goal.loop-procs-preserved
loop-procs-preserved c =
    let i = c.loop-procs.invariant in
    let r = c.in_ok-entry.ensures.read in
    let S = c.args.source.sig.now in
    let ds = definitions_in c.args.source in
    let at : slice_get c.loop-procs.reader.reached.keys (length c.loop-procs.entries.items) ≡ Some c.index-process.result.now = search rules in
    let within = all_at (λ (x : ProcId). x.0 < length (definitions_in c.args.source)) c.loop-procs.reader.reached.keys (length c.loop-procs.entries.items) c.index-process.result.now c.loop-procs.invariant.0.known at in
    let procs = length-map c.args.source.model.now.procs.items plain_definition in
    let same = ap length c.as_slice-procs.ensures.value in
    let l : c.index-process.result.now.0 < length c.as_slice-procs.result.now = omega (arith, within, procs, same) in
    let long = length-map c.loop-procs.entries.items plain_entry in
    let d = plain_definition c.index-procs-process.result in
    let stands : slice_get ds c.index-process.result.now.0 ≡ Some d =
    subst (λ (z : List ProcDef). slice_get (map plain_definition z) c.index-process.result.now.0 ≡ Some d) c.as_slice-procs.ensures.value (definition_stands c.as_slice-procs.result.now c.index-process.result.now.0 c.index-procs-process.result l c.index-procs-process.is) in
    let fits : DefinitionFits S c.args.source.pool.now.trees ds d = subst (λ (z : List ProcDef). All (DefinitionFits S c.args.source.pool.now.trees ds) (map plain_definition z) → DefinitionFits S c.args.source.pool.now.trees ds d) c.as_slice-procs.ensures.value
    (definition_holds (DefinitionFits S c.args.source.pool.now.trees ds) c.as_slice-procs.result.now c.index-process.result.now.0 c.index-procs-process.result l c.index-procs-process.is) c.requires.model.definitions in (
      r.reading,
      entries_more S ds (places_in c.loop-procs.reader) (places_in c.read_definition.new.reader) c.loop-procs.reader.reached.keys c.read_definition.new.reader.reached.keys (map plain_entry c.loop-procs.entries.items) (map plain_entry c.push.new.self.items) c.index-process.result.now (plain_entry c.in_ok-entry.entry) i.1
          r.places_begin r.reached_begin (subst (λ n. slice_get c.loop-procs.reader.reached.keys n ≡ Some c.index-process.result.now) (sym long) at)
          (record { definition = d; stands = stands; params = r.params; variables = subst (All (IsVariable S)) (sym r.params) fits.params; place = r.place; at = r.at; all = r.all })
          (ap (map plain_entry) c.in_ok-push.ensures.items ∙ map-append plain_entry c.loop-procs.entries.items (c.in_ok-entry.entry ∷ [])),
      begun_later (places_in c.loop-procs.reader) (places_in c.read_definition.new.reader) c.loop-procs.reader.reached.keys c.read_definition.new.reader.reached.keys (plain_component c.args.start.now) c.in_ok-own.own r.places_begin r.reached_begin i.2,
      λ first fits. table_more c.args.source.pool.now.trees ds (plain_component c.args.start.now) (places_in c.loop-procs.reader) (places_in c.read_definition.new.reader) c.loop-procs.reader.reached.keys c.read_definition.new.reader.reached.keys (map plain_entry c.loop-procs.entries.items) (map plain_entry c.push.new.self.items) first c.index-process.result.now d (plain_entry c.in_ok-entry.entry)
          (i.3 first fits) (subst (λ n. slice_get c.loop-procs.reader.reached.keys n ≡ Some c.index-process.result.now) (sym long) at) stands r.places_begin r.reached_begin c.in_ok-entry.ensures.whole r.process r.params
          (ap (map plain_entry) c.in_ok-push.ensures.items ∙ map-append plain_entry c.loop-procs.entries.items (c.in_ok-entry.entry ∷ [])),
    )

pub returns-clause-fit : goal.returns-clause-fit
returns-clause-fit c =
    let i = c.loop-procs.invariant in
    let all : length c.loop-procs.reader.reached.keys ≤ length c.loop-procs.entries.items = search rules in
    let long = length-map c.loop-procs.entries.items plain_entry in
    record {
      definitions = definitions_in c.args.source;
      reached = c.loop-procs.reader.reached.keys;
      places = i.0.places;
      entries = λ k x at. let w = slice_get_within c.loop-procs.reader.reached.keys k x at in i.1 k x (omega (arith, w, all, long)) at;
    }

pub returns-clause-starts : goal.returns-clause-starts
returns-clause-starts c =
    let i = c.loop-procs.invariant in
    let all : length c.loop-procs.reader.reached.keys ≤ length c.loop-procs.entries.items = search rules in
    let long = length-map c.loop-procs.entries.items plain_entry in
    starts_at c.args.source.sig.now (definitions_in c.args.source) (plain_places (record { places = c.loop-procs.reader.places; start = c.first_place-start.result; entries = c.loop-procs.entries })) c.loop-procs.reader.reached.keys (plain_component c.args.start.now) c.in_ok-own.own i.2
    (λ k x at. let w = slice_get_within c.loop-procs.reader.reached.keys k x at in i.1 k x (omega (arith, w, all, long)) at)
    (subst (λ z. MatchOption c.in_ok-own.own ((e : PlainEntry) → slice_get (map plain_entry z) 0 ≡ Some e → c.first_place-start.result ≡ e.place) (λ n. c.first_place-start.result ≡ n)) c.as_slice.ensures.value c.first_place-start.ensures)

pub returns-clause-table : goal.returns-clause-table
returns-clause-table c =
    let i = c.loop-procs.invariant in
    let all : length c.loop-procs.reader.reached.keys ≤ length c.loop-procs.entries.items = search rules in
    let long = length-map c.loop-procs.entries.items plain_entry in
    let m = subst (λ z. MatchOption c.in_ok-own.own ((e : PlainEntry) → slice_get (map plain_entry z) 0 ≡ Some e → c.first_place-start.result ≡ e.place) (λ n. c.first_place-start.result ≡ n)) c.as_slice.ensures.value c.first_place-start.ensures in
    record {
      reached = c.loop-procs.reader.reached.keys;
      table = i.3 c.first_place-start.result (own_fits _ c.in_ok-own.own c.first_place-start.result m);
      unique = c.len-in-loop-procs.ensures.unique;
      all = omega (arith, all, long);
      first = starts_first (plain_component c.args.start.now) (plain_places (record { places = c.loop-procs.reader.places; start = c.first_place-start.result; entries = c.loop-procs.entries })) (places_in c.loop-procs.reader) c.loop-procs.reader.reached.keys c.in_ok-own.own i.2 m;
    }

pub loop-procs-init : goal.loop-procs-init
loop-procs-init c = (
  c.in_ok-own.ensures.so_far,
  entries_none c.args.source.sig.now (definitions_in c.args.source) (places_in c.read_start.new.reader) c.read_start.new.reader.reached.keys (map plain_entry c.new-entries.result.items) (ap (map plain_entry) c.new-entries.ensures.items),
  c.in_ok-own.ensures.begun,
  λ first fits. subst (λ es. ReadsTable c.args.source.pool.now.trees (definitions_in c.args.source) (plain_component c.args.start.now) (places_in c.read_start.new.reader) c.read_start.new.reader.reached.keys es first) (sym (ap (map plain_entry) c.new-entries.ensures.items))
      (table_begins c.args.source.pool.now.trees (definitions_in c.args.source) (plain_component c.args.start.now) (places_in c.read_start.new.reader) c.read_start.new.reader.reached.keys c.in_ok-own.own first c.in_ok-own.ensures.begins fits),
)
