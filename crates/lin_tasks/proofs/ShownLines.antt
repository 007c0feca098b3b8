-- Lines of options that are shown.
use Rattle.std.proofs.Common.{◌≡◌, ◌+◌, ℕ, zero, suc, List, [], ◌∷◌, ◌++◌, map, take, length, refl, sym, ap, ◌∙◌, arith, append-nil, Some}
use Rattle.std.specs.Prelude.{codes, decimal, option_map, slice_get}
use Rattle.std.specs.List.{All}
use Rattle.std.proofs.lemmas.List.Elements.{All-contains}
use Rattle.std.proofs.lemmas.Option.{slice_get-map}
use Rattle.std.proofs.lemmas.List.{append_assoc, length-map, map-append}
use Rattle.data_theory.specs.IdTrees.{Tree}
use Rattle.data_theory.specs.Signature.{Sig}
use Rattle.process_terms.specs.Meanings.{label_of}
use Rattle.process_terms.specs.PlainProcesses.{PlainAction, plain_label}
use Rattle.process_terms.specs.SignatureEntries.{entries_of}
use Rattle.lps_core.specs.Fitting.{IsActionOf}
use Rattle.lps_core.proofs.Members.{map_contains}
use Rattle.lps_printer.specs.PrintedTexts.{label_text}
use Rattle.lps_simulator.specs.declared.options.Move.{Move}
use Rattle.lps_simulator.specs.Options.{TermMove}
use Rattle.lps_simulator.specs.OptionsInCode.{meant_move, plain_move}
use Rattle.lin_tasks.specs.Shown.{label_line, move_line, move_lines, CanBeShown}
use Rattle.lin_tasks.proofs.Performing.{at_among}

-- one move more
pub lines_more : (g : Sig) (k : ℕ) (ms : List TermMove) (m : TermMove) → move_lines g k ms ++ move_line g (k + length ms) m ≡ move_lines g k (ms ++ m ∷ [])
lines_more g k [] m = ap (λ n. move_line g n m) (let e : k + 0 ≡ k = omega arith in e) ∙ sym (append-nil (move_line g k m))
lines_more g k (x ∷ ms) m =
    append_assoc (move_line g k x) (move_lines g (suc k) ms) (move_line g (k + length (x ∷ ms)) m)
    ∙ ap (λ z. move_line g k x ++ z) (ap (λ n. move_lines g (suc k) ms ++ move_line g n m) (let e : k + length (x ∷ ms) ≡ suc k + length ms = omega arith in e) ∙ lines_more g (suc k) ms m)

-- ---- labels
label_shown : (g : Sig) (ts : List Tree) (m : List PlainAction) → label_line g (label_of (entries_of g ts) m) ≡ label_text g ts m ++ codes "\n"
unfolding label_line
label_shown g ts m = refl

pub label_pushed : (g : Sig) (ts : List Tree) (m : List PlainAction) (old u shown : List ℕ) → shown ≡ label_text g ts m → u ≡ old ++ shown ++ codes "\n" → u ≡ old ++ label_line g (label_of (entries_of g ts) m)
label_pushed g ts m old u shown is pushed = pushed ∙ append_assoc old shown (codes "\n") ∙ ap (λ z. old ++ z) (ap (λ z. z ++ codes "\n") is ∙ sym (label_shown g ts m))

-- ---- moves in code
-- the label of one of them can be shown
pub move_shown : (g : Sig) (ts : List Tree) (items : List Move) (i : ℕ) (m : Move) → All (CanBeShown g ts) (map plain_move items) → slice_get items i ≡ Some m → All (IsActionOf g ts) (plain_label m.label)
move_shown g ts items i m all e = All-contains (CanBeShown g ts) (map plain_move items) (plain_move m) all (map_contains plain_move items m (at_among items i m e))

pub move_at : (items : List Move) (i : ℕ) (m : Move) → slice_get items i ≡ Some m → slice_get (map plain_move items) i ≡ Some (plain_move m)
move_at items i m e = slice_get-map plain_move items i ∙ ap (option_map plain_move) e

-- one more of them is shown
pub moves_more : (g : Sig) (us : List Tree) (items : List Move) (i : ℕ) (m : Move) (old t u : List ℕ) → slice_get items i ≡ Some m → t ≡ old ++ move_lines g 1 (map (meant_move g us) (map plain_move (take i items)))
    → u ≡ t ++ decimal (i + 1) ++ codes " " ++ label_line g (label_of (entries_of g us) (plain_label m.label)) → u ≡ old ++ move_lines g 1 (map (meant_move g us) (map plain_move (take (i + 1) items)))
moves_more g us items i m old t u there_is so_far next =
    let ms = map (meant_move g us) (map plain_move (take i items)) in
    let n = meant_move g us (plain_move m) in
    let more : map (meant_move g us) (map plain_move (take (i + 1) items)) ≡ ms ++ n ∷ [] = ap (map (meant_move g us)) (ap (map plain_move) (take_one_more items i m there_is) ∙ map-append plain_move (take i items) (m ∷ [])) ∙ map-append (meant_move g us) (map plain_move (take i items)) (plain_move m ∷ []) in
    let counted : length ms ≡ i = length-map (map plain_move (take i items)) (meant_move g us) ∙ length-map (take i items) plain_move ∙ taken items i m there_is in
    next
    ∙ ap (λ z. z ++ label_line g n.label) (append_assoc t (decimal (i + 1)) (codes " ")) ∙ append_assoc t (decimal (i + 1) ++ codes " ") (label_line g n.label)
    ∙ ap (λ z. z ++ move_line g (i + 1) n) so_far ∙ append_assoc old (move_lines g 1 ms) (move_line g (i + 1) n)
    ∙ ap (λ z. old ++ z) (ap (λ k. move_lines g 1 ms ++ move_line g k n) (let q : i + 1 ≡ 1 + length ms = omega (arith, counted) in q) ∙ lines_more g 1 ms n ∙ ap (move_lines g 1) (sym more))
  where
    take_suc : {A : Type 0} (xs : List A) (i : ℕ) (x : A) → slice_get xs i ≡ Some x → take (suc i) xs ≡ take i xs ++ x ∷ []
    take_suc [] i x e = let never : ⊥ = cc in absurd never
    take_suc (y ∷ xs) zero x e = let q : y ≡ x = cc in ap (λ z. z ∷ []) q
    take_suc (y ∷ xs) (suc i) x e = ap (λ z. y ∷ z) (take_suc xs i x e)

    take_one_more : {A : Type 0} (xs : List A) (i : ℕ) (x : A) → slice_get xs i ≡ Some x → take (i + 1) xs ≡ take i xs ++ x ∷ []
    take_one_more xs i x e = ap (λ n. take n xs) (let q : i + 1 ≡ suc i = omega arith in q) ∙ take_suc xs i x e

    taken : {A : Type 0} (xs : List A) (i : ℕ) (x : A) → slice_get xs i ≡ Some x → length (take i xs) ≡ i
    taken [] i x e = let never : ⊥ = cc in absurd never
    taken (y ∷ xs) zero x e = refl
    taken (y ∷ xs) (suc i) x e = ap suc (taken xs i x e)
