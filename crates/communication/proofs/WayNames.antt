-- The names of a label come from those of its ways.
use Rattle.std.proofs.Common.{◌≤◌, ℕ, zero, suc, List, [], ◌∷◌, ◌++◌, map, length, sym, subst, arith}
use Rattle.process_terms.specs.Labels.{Action, Label, names, at_front, nothing_left, one_placed}
use Rattle.process_terms.specs.Communication.{Rule}
use Rattle.process_terms.proofs.PermutedLists.{permuted_trans, permuted_append}
use Rattle.bisim_laws.specs.Completable.{stays_closed, opens, Opened, nothing_to_open, one_opened}
use Rattle.bisim_laws.specs.WithinLaws.{ComesFromOpened}
use Rattle.bisim_laws.proofs.Completing.{split_permuted, split_names}
use Rattle.lps_core.proofs.Members.{In, here, there, in_contains, contains_in}
use Rattle.communication.specs.Ways.{ways}
use Rattle.communication.specs.Communicated.{texts, joining, Way, way_label, label_ways}
use Rattle.communication.specs.WayNames.{WaysComeFromOpened}
use Rattle.communication.proofs.Listed.{Made, made, made_group, made_stay}
use Rattle.communication.proofs.Picks.{split_long}

module _ (rules : List Rule) where
  group_from : (a : Action) (m : Label) (w : Way) {n : ℕ} → Made rules n a m w → ((o : Label) (v : Way) → length o ≤ n → In v (ways texts (map joining rules) n o) → ComesFromOpened rules o (way_label v)) → length m ≤ n → ComesFromOpened rules (a ∷ m) (way_label w)
  group_from a m _ (made_group {w = w} s b k) f l =
      let d = split_long b.split in
      let r = f s.behind w (omega (arith, d, l)) k in
      record {
        opened = b.rule.left ++ r.opened;
        opens = subst (λ z. Opened rules (z ∷ names (way_label w)) (b.rule.left ++ r.opened)) (sym b.result) (one_opened (opens (in_contains b.among)) r.opens);
        same = permuted_trans (one_placed (split_permuted (split_names b.split)) at_front) (permuted_append b.group.named r.same);
      }
  group_from a m _ (made_stay {w = w} k) f l =
      let r = f m w l k in
      record { opened = a.name ∷ r.opened; opens = one_opened stays_closed r.opens; same = one_placed r.same at_front }

  way_from : (n : ℕ) (m : Label) (w : Way) → length m ≤ n → In w (ways texts (map joining rules) n m) → ComesFromOpened rules m (way_label w)
  way_from zero [] w l here = record { opened = []; opens = nothing_to_open; same = nothing_left }
  way_from zero [] w l (there i) = elim i [ ]
  way_from zero (a ∷ m) w l i = absurd (omega (arith, l))
  way_from (suc n) [] w l here = record { opened = []; opens = nothing_to_open; same = nothing_left }
  way_from (suc n) [] w l (there i) = elim i [ ]
  way_from (suc n) (a ∷ m) w l i = group_from a m w (made rules n a m w i) (λ o v b j. way_from n o v b j) (omega (arith, l))

pub ways_from : WaysComeFromOpened
ways_from rules m v i = way_from rules (length m) m v (omega arith) (contains_in (label_ways rules m) i)
