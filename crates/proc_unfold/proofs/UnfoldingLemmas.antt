-- What a process term unfolds to is the same.
use Rattle.std.proofs.Common.{◌∙◌, []}
use Rattle.std.proofs.lemmas.List.{length-map}
use Rattle.data_theory.specs.Terms.{put}
use Rattle.data_theory.specs.Environments.{Environment, term_in}
use Rattle.process_terms.specs.Theories.{Theory}
use Rattle.process_terms.specs.Processes.{Body, Table, close, the_body}
use Rattle.bisim_laws.specs.Sameness.{Alike, by_data, by_body, joined_up, alike_merge, alike_starting, alike_around}
use Rattle.bisim_laws.proofs.PuttingEqualData.{tables_refl, closed_equal}
use Rattle.proc_unfold.specs.Unfolding.{Unfolds, kept, opened, merged, begun, under, UnfoldingIsSame}

alike : (th : Theory) (d : Table) {e : Environment} {p n : Body} → Unfolds th d e p n → Alike th (close d e p) (close d [] n)
alike th d (kept s h) = by_data (closed_equal (tables_refl th d) h)
alike th d (opened {e = e} {ts = ts} f at is l h) = joined_up (by_body (the_body f at (length-map ts (put (term_in e)) ∙ l))) (alike th d h)
alike th d (merged h k) = alike_merge (alike th d h) (alike th d k)
alike th d (begun h k) = alike_starting (alike th d h) (alike th d k)
alike th d (under h) = alike_around (alike th d h)

pub unfolding_is_same : UnfoldingIsSame
unfolding_is_same th d e p n h = alike th d h
