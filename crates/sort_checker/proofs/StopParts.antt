-- The stops of a process term have its parts and its operators.
use Rattle.std.proofs.Common.{◌≡◌, ◌<◌, ◌+◌, ◌-◌, ◌&&◌, ℕ, suc, Bool, drop, get_or, List, [], ◌∷◌, ◌++◌, map, length, take, refl, sym, ap, ap₂, ◌∙◌, append_assoc, append-nil, arith, length-append}
use Rattle.std.specs.List.{flat_map, list_all}
use Rattle.std.proofs.lemmas.Grind.{flat_map-append}
use Rattle.std.proofs.lemmas.List.Folds.{list_all-append}
use Rattle.std.proofs.Math.Seq.{drop-cons}
use Rattle.process_terms.specs.Processes.{Around, allow, block, hide, rename, comm}
use Rattle.sort_table.specs.BareProcesses as bare
use Rattle.sort_table.specs.BareProcesses.{Variables, Process, Processes}
use Rattle.sort_checker.specs.Operators.{renaming_of, rule_of, operators_in, operators_in_all}
use Rattle.sort_checker.specs.Parts.{a_condition, an_operator, ScopedPart, scoped, parts_in, parts_in_all}
use Rattle.std.specs.Prelude.{Option}
use Rattle.std.specs.Option.{option_or}
use Rattle.data_typing.specs.Typings.{first_of}
use Rattle.sort_checker.specs.declared.stops.StopTree.{StopTree}
use Rattle.sort_checker.specs.Stops.{Stop, enter, leave, at, stops_in, stops_in_all, without, variables_behind, part_at, scoped_along, operators_by}
use Rattle.sort_checker.specs.StopTrees.{stop_of, stops_of}
use Rattle.sort_checker.proofs.Firsts.{first_append}

take_front : {A : Type 0} (xs ys : List A) → take (length xs) (xs ++ ys) ≡ xs
take_front [] ys = refl
take_front (x ∷ xs) ys = ap (λ zs. x ∷ zs) (take_front xs ys)

-- what came into scope last leaves it
pub left_again : (xs ys : Variables) → without ys (xs ++ ys) ≡ xs
left_again xs ys =
    let long = length-append xs ys in
    let n : length (xs ++ ys) - length ys ≡ length xs = omega (arith, long) in
    ap (λ k. take k (xs ++ ys)) n ∙ take_front xs ys

mutual
  parts_and : (xs : Variables) (p : Process) (rest : List Stop) → scoped_along xs (stops_in p ++ rest) ≡ parts_in xs p ++ scoped_along xs rest
  parts_and xs bare.delta rest = refl
  parts_and xs (bare.acts as_) rest = refl
  parts_and xs (bare.call x ds) rest = refl
  parts_and xs (bare.allow sets p) rest = ap (λ (ps : List ScopedPart). scoped xs (an_operator (allow sets)) ∷ ps) (parts_and xs p rest)
  parts_and xs (bare.block ns p) rest = ap (λ (ps : List ScopedPart). scoped xs (an_operator (block ns)) ∷ ps) (parts_and xs p rest)
  parts_and xs (bare.hide ns p) rest = ap (λ (ps : List ScopedPart). scoped xs (an_operator (hide ns)) ∷ ps) (parts_and xs p rest)
  parts_and xs (bare.rename rs p) rest = ap (λ (ps : List ScopedPart). scoped xs (an_operator (rename (map renaming_of rs))) ∷ ps) (parts_and xs p rest)
  parts_and xs (bare.comm cs p) rest = ap (λ (ps : List ScopedPart). scoped xs (an_operator (comm (map rule_of cs))) ∷ ps) (parts_and xs p rest)
  parts_and xs (bare.sequence ps) rest = all_parts_and xs ps rest
  parts_and xs (bare.sum ys p) rest =
      ap (scoped_along (xs ++ ys)) (append_assoc (stops_in p) (leave ys ∷ []) rest)
      ∙ (parts_and (xs ++ ys) p (leave ys ∷ rest) ∙ ap (λ (zs : Variables). parts_in (xs ++ ys) p ++ scoped_along zs rest) (left_again xs ys))
  parts_and xs (bare.when e p) rest = ap (λ (ps : List ScopedPart). scoped xs (a_condition e) ∷ ps) (parts_and xs p rest)
  parts_and xs (bare.either e p q) rest =
      ap (λ (ps : List ScopedPart). scoped xs (a_condition e) ∷ ps)
      (ap (scoped_along xs) (append_assoc (stops_in p) (stops_in q) rest)
      ∙ (parts_and xs p (stops_in q ++ rest) ∙ (ap (λ (ps : List ScopedPart). parts_in xs p ++ ps) (parts_and xs q rest) ∙ sym (append_assoc (parts_in xs p) (parts_in xs q) (scoped_along xs rest)))))
  parts_and xs (bare.sync ps) rest = all_parts_and xs ps rest
  parts_and xs (bare.left_merge p q) rest =
      ap (scoped_along xs) (append_assoc (stops_in p) (stops_in q) rest)
      ∙ (parts_and xs p (stops_in q ++ rest) ∙ (ap (λ (ps : List ScopedPart). parts_in xs p ++ ps) (parts_and xs q rest) ∙ sym (append_assoc (parts_in xs p) (parts_in xs q) (scoped_along xs rest))))
  parts_and xs (bare.parallel ps) rest = all_parts_and xs ps rest
  parts_and xs (bare.choice ps) rest = all_parts_and xs ps rest

  all_parts_and : (xs : Variables) (ps : Processes) (rest : List Stop) → scoped_along xs (stops_in_all ps ++ rest) ≡ parts_in_all xs ps ++ scoped_along xs rest
  all_parts_and xs bare.none rest = refl
  all_parts_and xs (bare.more p ps) rest =
      ap (scoped_along xs) (append_assoc (stops_in p) (stops_in_all ps) rest)
      ∙ (parts_and xs p (stops_in_all ps ++ rest) ∙ (ap (λ (qs : List ScopedPart). parts_in xs p ++ qs) (all_parts_and xs ps rest) ∙ sym (append_assoc (parts_in xs p) (parts_in_all xs ps) (scoped_along xs rest))))

pub parts_along : (xs : Variables) (p : Process) → scoped_along xs (stops_in p) ≡ parts_in xs p
parts_along xs p = ap (scoped_along xs) (sym (append-nil (stops_in p))) ∙ (parts_and xs p [] ∙ append-nil (parts_in xs p))

mutual
  pub operators_along : (p : Process) → flat_map operators_by (stops_in p) ≡ operators_in p
  operators_along bare.delta = refl
  operators_along (bare.acts as_) = refl
  operators_along (bare.call x ds) = refl
  operators_along (bare.allow sets p) = ap (λ (os : List Around). allow sets ∷ os) (operators_along p)
  operators_along (bare.block ns p) = ap (λ (os : List Around). block ns ∷ os) (operators_along p)
  operators_along (bare.hide ns p) = ap (λ (os : List Around). hide ns ∷ os) (operators_along p)
  operators_along (bare.rename rs p) = ap (λ (os : List Around). rename (map renaming_of rs) ∷ os) (operators_along p)
  operators_along (bare.comm cs p) = ap (λ (os : List Around). comm (map rule_of cs) ∷ os) (operators_along p)
  operators_along (bare.sequence ps) = all_operators_along ps
  operators_along (bare.sum ys p) = flat_map-append operators_by (stops_in p) (leave ys ∷ []) ∙ (append-nil (flat_map operators_by (stops_in p)) ∙ operators_along p)
  operators_along (bare.when e p) = operators_along p
  operators_along (bare.either e p q) = flat_map-append operators_by (stops_in p) (stops_in q) ∙ ap₂ (λ (os us : List Around). os ++ us) (operators_along p) (operators_along q)
  operators_along (bare.sync ps) = all_operators_along ps
  operators_along (bare.left_merge p q) = flat_map-append operators_by (stops_in p) (stops_in q) ∙ ap₂ (λ (os us : List Around). os ++ us) (operators_along p) (operators_along q)
  operators_along (bare.parallel ps) = all_operators_along ps
  operators_along (bare.choice ps) = all_operators_along ps

  all_operators_along : (ps : Processes) → flat_map operators_by (stops_in_all ps) ≡ operators_in_all ps
  all_operators_along bare.none = refl
  all_operators_along (bare.more p ps) = flat_map-append operators_by (stops_in p) (stops_in_all ps) ∙ ap₂ (λ (os us : List Around). os ++ us) (operators_along p) (all_operators_along ps)

-- ---- the stops from one place on
along_cut : (xs : Variables) (s : Stop) (ss : List Stop) → scoped_along xs (s ∷ ss) ≡ part_at xs s ++ scoped_along (variables_behind xs s) ss
along_cut xs (enter ys) ss = refl
along_cut xs (leave ys) ss = refl
along_cut xs (at p) ss = refl

stops_cut : (ss : List StopTree) (i : ℕ) (s : StopTree) → i < length ss → s ≡ get_or ss i s → stops_of (drop i ss) ≡ stop_of s ∷ stops_of (drop (i + 1) ss)
stops_cut ss i s l e = let next : suc i ≡ i + 1 = omega arith in ap stops_of (drop-cons ss i s l ∙ ap₂ (λ (x : StopTree) (n : ℕ). x ∷ drop n ss) (sym e) next)

pub scoped_cut_at : (xs : Variables) (ss : List StopTree) (i : ℕ) (s : StopTree) → i < length ss → s ≡ get_or ss i s
    → scoped_along xs (stops_of (drop i ss)) ≡ part_at xs (stop_of s) ++ scoped_along (variables_behind xs (stop_of s)) (stops_of (drop (i + 1) ss))
scoped_cut_at xs ss i s l e = ap (scoped_along xs) (stops_cut ss i s l e) ∙ along_cut xs (stop_of s) (stops_of (drop (i + 1) ss))

pub first_along_cut : {B : Type 0} (f : ScopedPart → Option B) (xs : Variables) (ss : List StopTree) (i : ℕ) (s : StopTree) → i < length ss → s ≡ get_or ss i s
    → first_of f (scoped_along xs (stops_of (drop i ss))) ≡ option_or (first_of f (part_at xs (stop_of s))) (first_of f (scoped_along (variables_behind xs (stop_of s)) (stops_of (drop (i + 1) ss))))
first_along_cut f xs ss i s l e =
    ap (first_of f) (scoped_cut_at xs ss i s l e) ∙ first_append f (part_at xs (stop_of s)) (scoped_along (variables_behind xs (stop_of s)) (stops_of (drop (i + 1) ss)))

pub all_along_cut : (p : ScopedPart → Bool) (xs : Variables) (ss : List StopTree) (i : ℕ) (s : StopTree) → i < length ss → s ≡ get_or ss i s
    → list_all p (scoped_along xs (stops_of (drop i ss))) ≡ (list_all p (part_at xs (stop_of s)) && list_all p (scoped_along (variables_behind xs (stop_of s)) (stops_of (drop (i + 1) ss))))
all_along_cut p xs ss i s l e = ap (list_all p) (scoped_cut_at xs ss i s l e) ∙ list_all-append p (part_at xs (stop_of s)) (scoped_along (variables_behind xs (stop_of s)) (stops_of (drop (i + 1) ss)))
