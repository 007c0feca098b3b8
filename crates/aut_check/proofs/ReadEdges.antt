-- Edges that are read line by line.
use Rattle.std.specs.Prelude.{◌≡◌, ◌<◌, ◌≤◌, ◌+◌, ◌++◌, ℕ, zero, suc, Bool, true, false, List, [], ◌∷◌, length, map, Option, Some, None, option_map}
use Rattle.std.proofs.Common.{refl, sym, subst, ap, ◌∙◌, arith, append_assoc, append-nil, add-one}
use Rattle.std.specs.Bool.{OnTrue}
use Rattle.std.specs.List.{All}
use Rattle.std.proofs.lemmas.List.{length-append, length-map, map-append, nil_from_length}
use Rattle.data_theory.specs.IdTerms.{IsTreeWithin}
use Rattle.data_theory.specs.IdTrees.{Tree}
use Rattle.data_theory.specs.Signature.{Sig}
use Rattle.process_terms.specs.Labels.{Label}
use Rattle.process_terms.specs.PlainProcesses.{PlainAction}
use Rattle.term_pool.specs.Pools.{Extends}
use Rattle.trace_replay.specs.Lines.{lines_of}
use Rattle.trace_replay.specs.ReadTraces.{IsReadLabel}
use Rattle.trace_replay.specs.Traces.{SpellsLabel}
use Rattle.trace_replay.specs.Ways.{LabelIs}
use Rattle.trace_replay.proofs.EqualityTerms.{label_stays}
use Rattle.trace_replay.proofs.TracedLabels.{label_there}
use Rattle.aut_check.specs.declared.systems.Edge.{Edge as CodeEdge}
use Rattle.aut_check.specs.declared.reading.AutFault.{AutFault}
use Rattle.aut_check.specs.declared.reading.AutFault.TheVariants.{BadAut, BadStates, NoMemory}
use Rattle.aut_check.specs.PlainSystems.{PlainEdge, plain_edge}
use Rattle.aut_check.specs.ReadSystems.{AddsEdge, no_edge_told, edge_told, edge_beyond, no_edge_there, AreReadEdges, EdgeIs, EdgesAre, HasHeader, header_here, header_behind, HasNoHeader, no_line_left, other_line, other_behind, IsAutFault, IsEdgesFault, IsHeaderFault, IsReadEdge}
use Rattle.aut_check.specs.Systems.{Edge}
use Rattle.aut_check.specs.SystemTexts.{Counts, AreAutLines, white_first, header_first, AreEdgeLines, no_edge_left, white_line, edge_line, IsBadAutLine, header_missing, no_header, behind_white_line, behind_header, IsBadEdge, edge_missing, edge_too_many, no_edge, behind_white, behind_edge, IsEdgeText, IsHeaderLine, IsWhite}
use Rattle.aut_check.proofs.PartLemmas.{one_edge_text}

-- ---- one edge
pub edge_read : (g : Sig) (ts : List Tree) (c : Counts) (line text : List ℕ) (i j : ℕ) (xs : List PlainAction) → All (IsTreeWithin g) ts → IsEdgeText line text i j → i < c.states → j < c.states → IsReadLabel g ts text xs
    → IsReadEdge g ts c line (Some (record { from = i; label = xs; to = j }))
edge_read g ts c line text i j xs within told from to r = (
  record { from = i; label = r.label; to = j },
  record { from = refl; to = refl; label = subst (LabelIs g ts xs) r.means (label_there g ts within xs r.there); closed = r.closed },
  record { label = text; text = told; spelled = r.spells; from_within = from; to_within = to },
)

pub no_edge_told_there : (g : Sig) (ts : List Tree) (c : Counts) (line : List ℕ) → ((text : List ℕ) (i j : ℕ) → ¬ (IsEdgeText line text i j)) → IsReadEdge g ts c line None
no_edge_told_there g ts c line none = λ e h. none h.label e.from e.to h.text

pub edge_from_beyond : (g : Sig) (ts : List Tree) (c : Counts) (line text : List ℕ) (i j : ℕ) → IsEdgeText line text i j → c.states ≤ i → IsReadEdge g ts c line None
edge_from_beyond g ts c line text i j told beyond = λ e h. let same = (one_edge_text told h.text).source in let within = h.from_within in omega (arith, beyond, same, within)

pub edge_to_beyond : (g : Sig) (ts : List Tree) (c : Counts) (line text : List ℕ) (i j : ℕ) → IsEdgeText line text i j → c.states ≤ j → IsReadEdge g ts c line None
edge_to_beyond g ts c line text i j told beyond = λ e h. let same = (one_edge_text told h.text).target in let within = h.to_within in omega (arith, beyond, same, within)

pub edge_without_label : (g : Sig) (ts : List Tree) (c : Counts) (line text : List ℕ) (i j : ℕ) → IsEdgeText line text i j → ((m : Label) → ¬ (SpellsLabel g text m)) → IsReadEdge g ts c line None
edge_without_label g ts c line text i j told none = λ e h. none e.label (subst (λ (z : List ℕ). SpellsLabel g z e.label) (sym (one_edge_text told h.text).text) h.spelled)

-- ---- edges
pub edges_stay : (g : Sig) (ts us : List Tree) → Extends ts us → (xs : List PlainEdge) (es : List Edge) → EdgesAre g ts xs es → EdgesAre g us xs es
edges_stay g ts us grows [] [] h = tt
edges_stay g ts us grows [] (e ∷ es) h = absurd h
edges_stay g ts us grows (x ∷ xs) [] h = absurd h
edges_stay g ts us grows (x ∷ xs) (e ∷ es) h =
    (record { from = h.0.from; to = h.0.to; label = label_stays g ts us grows x.label e.label h.0.label; closed = h.0.closed }, edges_stay g ts us grows xs es h.1)

edges_push : (g : Sig) (ts : List Tree) (xs : List PlainEdge) (es : List Edge) (x : PlainEdge) (e : Edge) → EdgesAre g ts xs es → EdgeIs g ts x e → EdgesAre g ts (xs ++ x ∷ []) (es ++ e ∷ [])
edges_push g ts [] [] x e h i = (i, tt)
edges_push g ts [] (f ∷ es) x e h i = absurd h
edges_push g ts (y ∷ xs) [] x e h i = absurd h
edges_push g ts (y ∷ xs) (f ∷ es) x e h i = (h.0, edges_push g ts xs es x e h.1 i)

-- Of all these lines, which count from a number on, these edges were read, and the lines from another number on are left.
pub record EdgesTo (g : Sig) (ts : List Tree) (c : Counts) (first : ℕ) (all : List (List ℕ)) (number : ℕ) (lines : List (List ℕ)) (xs : List PlainEdge) : Type 0 where
  pub left : ℕ
  pub whole : length xs + left ≡ c.edges
  pub edges : List Edge
  pub are : EdgesAre g ts xs edges
  pub good : (more : List Edge) → AreEdgeLines (SpellsLabel g) c left lines more → AreEdgeLines (SpellsLabel g) c c.edges all (edges ++ more)
  pub bad : (k : ℕ) → IsBadEdge (SpellsLabel g) c number left lines k → IsBadEdge (SpellsLabel g) c first c.edges all k

pub no_edges_yet : (g : Sig) (ts : List Tree) (c : Counts) (first : ℕ) (all : List (List ℕ)) (xs : List PlainEdge) → xs ≡ [] → EdgesTo g ts c first all first all xs
no_edges_yet g ts c first all xs none = subst (EdgesTo g ts c first all first all) (sym none) (record { left = c.edges; whole = omega arith; edges = []; are = tt; good = λ more h. h; bad = λ k h. h })

pub few_edges : {g : Sig} {ts : List Tree} {c : Counts} {first : ℕ} {all : List (List ℕ)} {number : ℕ} {lines : List (List ℕ)} {xs : List PlainEdge} → EdgesTo g ts c first all number lines xs → length xs ≤ c.edges
few_edges t = let e = t.whole in omega (arith, e)

-- one line more
pub edge_turn : (g : Sig) (ts us : List Tree) (c : Counts) (first : ℕ) (all : List (List ℕ)) (number : ℕ) (here : List (List ℕ)) (line : List ℕ) (lines : List (List ℕ)) (xs ys : List PlainEdge) (fine : Bool) → Extends ts us
    → EdgesTo g ts c first all number here xs → here ≡ line ∷ lines → AddsEdge g us c line xs ys fine → fine ≡ true → EdgesTo g us c first all (number + 1) lines ys
edge_turn g ts us c first all number here line lines xs ys fine grows t is (no_edge_told white same good) right =
    subst (EdgesTo g us c first all (number + 1) lines) (sym same)
    (record {
      left = t.left;
      whole = t.whole;
      edges = t.edges;
      are = edges_stay g ts us grows xs t.edges t.are;
      good = λ more h. t.good more (subst (λ ls. AreEdgeLines (SpellsLabel g) c t.left ls more) (sym is) (white_line white h));
      bad = λ k h. t.bad k (subst (λ ls. IsBadEdge (SpellsLabel g) c number t.left ls k) (sym is) (behind_white white (subst (λ n. IsBadEdge (SpellsLabel g) c n t.left lines k) (add-one number) h)));
    })
edge_turn g ts us c first all number here line lines xs ys fine grows t is (edge_told x e few edge spelled same good) right =
    subst (EdgesTo g us c first all (number + 1) lines) (sym same) (by_left t.left t.whole t.good t.bad)
  where
    by_left : (left : ℕ) → length xs + left ≡ c.edges → ((more : List Edge) → AreEdgeLines (SpellsLabel g) c left here more → AreEdgeLines (SpellsLabel g) c c.edges all (t.edges ++ more))
        → ((k : ℕ) → IsBadEdge (SpellsLabel g) c number left here k → IsBadEdge (SpellsLabel g) c first c.edges all k) → EdgesTo g us c first all (number + 1) lines (xs ++ x ∷ [])
    by_left zero whole goods bads = absurd (omega (arith, whole, few))
    by_left (suc left) whole goods bads = record {
      left = left;
      whole = let l = length-append xs (x ∷ []) in omega (arith, whole, l);
      edges = t.edges ++ e ∷ [];
      are = edges_push g us xs t.edges x e (edges_stay g ts us grows xs t.edges t.are) edge;
      good = λ more h. subst (λ es. AreEdgeLines (SpellsLabel g) c c.edges all es) (sym (append_assoc t.edges (e ∷ []) more)) (goods (e ∷ more) (subst (λ ls. AreEdgeLines (SpellsLabel g) c (suc left) ls (e ∷ more)) (sym is) (edge_line spelled h)));
      bad = λ k h. bads k (subst (λ ls. IsBadEdge (SpellsLabel g) c number (suc left) ls k) (sym is) (behind_edge spelled (subst (λ n. IsBadEdge (SpellsLabel g) c n left lines k) (add-one number) h)));
    }
edge_turn g ts us c first all number here line lines xs ys fine grows t is (edge_beyond some full bad) right = absurd (cc (bad, right))
edge_turn g ts us c first all number here line lines xs ys fine grows t is (no_edge_there some few none bad) right = absurd (cc (bad, right))

-- a bad line
pub edge_stop : (g : Sig) (ts us : List Tree) (c : Counts) (first : ℕ) (all : List (List ℕ)) (number : ℕ) (here : List (List ℕ)) (line : List ℕ) (lines : List (List ℕ)) (xs ys : List PlainEdge) (fine : Bool)
    → EdgesTo g ts c first all number here xs → here ≡ line ∷ lines → AddsEdge g us c line xs ys fine → fine ≡ false → IsBadEdge (SpellsLabel g) c first c.edges all number
edge_stop g ts us c first all number here line lines xs ys fine t is (no_edge_told white same good) wrong = absurd (cc (good, wrong))
edge_stop g ts us c first all number here line lines xs ys fine t is (edge_told x e few edge spelled same good) wrong = absurd (cc (good, wrong))
edge_stop g ts us c first all number here line lines xs ys fine t is (edge_beyond some full bad) wrong = by_left t.left t.whole t.bad
  where
    by_left : (left : ℕ) → length xs + left ≡ c.edges → ((k : ℕ) → IsBadEdge (SpellsLabel g) c number left here k → IsBadEdge (SpellsLabel g) c first c.edges all k) → IsBadEdge (SpellsLabel g) c first c.edges all number
    by_left zero whole bads = bads number (subst (λ ls. IsBadEdge (SpellsLabel g) c number 0 ls number) (sym is) (edge_too_many some))
    by_left (suc left) whole bads = absurd (omega (arith, whole, full))
edge_stop g ts us c first all number here line lines xs ys fine t is (no_edge_there some few none bad) wrong = by_left t.left t.whole t.bad
  where
    by_left : (left : ℕ) → length xs + left ≡ c.edges → ((k : ℕ) → IsBadEdge (SpellsLabel g) c number left here k → IsBadEdge (SpellsLabel g) c first c.edges all k) → IsBadEdge (SpellsLabel g) c first c.edges all number
    by_left zero whole bads = absurd (omega (arith, whole, few))
    by_left (suc left) whole bads = bads number (subst (λ ls. IsBadEdge (SpellsLabel g) c number (suc left) ls number) (sym is) (no_edge some none))

-- no line is left
pub edges_end : (g : Sig) (ts : List Tree) (c : Counts) (first : ℕ) (all : List (List ℕ)) (number : ℕ) (here : List (List ℕ)) (xs : List PlainEdge) → EdgesTo g ts c first all number here xs → here ≡ [] → c.edges ≤ length xs → AreReadEdges g ts c all xs
edges_end g ts c first all number here xs t none full = by_left t.left t.whole t.good
  where
    by_left : (left : ℕ) → length xs + left ≡ c.edges → ((more : List Edge) → AreEdgeLines (SpellsLabel g) c left here more → AreEdgeLines (SpellsLabel g) c c.edges all (t.edges ++ more)) → AreReadEdges g ts c all xs
    by_left zero whole goods = record {
      edges = t.edges;
      lines_are = subst (λ es. AreEdgeLines (SpellsLabel g) c c.edges all es) (append-nil t.edges) (goods [] (subst (λ ls. AreEdgeLines (SpellsLabel g) c 0 ls []) (sym none) no_edge_left));
      are = t.are;
    }
    by_left (suc left) whole goods = absurd (omega (arith, whole, full))

pub edges_missing : (g : Sig) (ts : List Tree) (c : Counts) (first : ℕ) (all : List (List ℕ)) (number : ℕ) (here : List (List ℕ)) (xs : List PlainEdge) → EdgesTo g ts c first all number here xs → here ≡ [] → length xs < c.edges
    → IsBadEdge (SpellsLabel g) c first c.edges all number
edges_missing g ts c first all number here xs t none few = by_left t.left t.whole t.bad
  where
    by_left : (left : ℕ) → length xs + left ≡ c.edges → ((k : ℕ) → IsBadEdge (SpellsLabel g) c number left here k → IsBadEdge (SpellsLabel g) c first c.edges all k) → IsBadEdge (SpellsLabel g) c first c.edges all number
    by_left zero whole bads = absurd (omega (arith, whole, few))
    by_left (suc left) whole bads = bads number (subst (λ ls. IsBadEdge (SpellsLabel g) c number (suc left) ls number) (sym none) edge_missing)

-- ---- the header
pub aut_lines : {g : Sig} {k n : ℕ} {lines left : List (List ℕ)} {c : Counts} {es : List Edge} → HasHeader k lines c n left → AreEdgeLines (SpellsLabel g) c c.edges left es → AreAutLines (SpellsLabel g) lines c es
aut_lines (header_here h) more = header_first h more
aut_lines (header_behind white h) more = white_first white (aut_lines h more)

pub bad_behind_header : {g : Sig} {k n m : ℕ} {lines left : List (List ℕ)} {c : Counts} → HasHeader k lines c n left → IsBadEdge (SpellsLabel g) c n c.edges left m → IsBadAutLine (SpellsLabel g) k lines m
bad_behind_header (header_here h) bad = behind_header h bad
bad_behind_header (header_behind white h) bad = behind_white_line white (bad_behind_header h bad)

pub bad_header : {g : Sig} {k n : ℕ} {lines : List (List ℕ)} → HasNoHeader k lines n → IsBadAutLine (SpellsLabel g) k lines n
bad_header no_line_left = header_missing
bad_header (other_line some none) = no_header some none
bad_header (other_behind white h) = behind_white_line white (bad_header h)

-- from the first line on a header is found where it is found behind white lines, and so is a line that is none
pub record HeaderTo (all : List (List ℕ)) (number : ℕ) (lines : List (List ℕ)) : Type 0 where
  pub found : (c : Counts) (n : ℕ) (left : List (List ℕ)) → HasHeader number lines c n left → HasHeader 1 all c n left
  pub none : (n : ℕ) → HasNoHeader number lines n → HasNoHeader 1 all n

pub no_line_yet : (all : List (List ℕ)) → HeaderTo all 1 all
no_line_yet all = record { found = λ c n left h. h; none = λ n h. h }

pub white_turn : (all : List (List ℕ)) (number : ℕ) (here : List (List ℕ)) (line : List ℕ) (lines : List (List ℕ)) → HeaderTo all number here → here ≡ line ∷ lines → IsWhite line → HeaderTo all (number + 1) lines
white_turn all number here line lines t is white = record {
  found = λ c n left h. t.found c n left (subst (λ ls. HasHeader number ls c n left) (sym is) (header_behind white (subst (λ k. HasHeader k lines c n left) (add-one number) h)));
  none = λ n h. t.none n (subst (λ ls. HasNoHeader number ls n) (sym is) (other_behind white (subst (λ k. HasNoHeader k lines n) (add-one number) h)));
}

pub header_turn : (all : List (List ℕ)) (number : ℕ) (here : List (List ℕ)) (line : List ℕ) (lines : List (List ℕ)) (c : Counts) → HeaderTo all number here → here ≡ line ∷ lines → IsHeaderLine line c → HasHeader 1 all c (number + 1) lines
header_turn all number here line lines c t is h = t.found c (number + 1) lines (subst (λ ls. HasHeader number ls c (number + 1) lines) (sym is) (subst (λ k. HasHeader number (line ∷ lines) c k lines) (sym (add-one number)) (header_here h)))

pub header_stop : (all : List (List ℕ)) (number : ℕ) (here : List (List ℕ)) (line : List ℕ) (lines : List (List ℕ)) → HeaderTo all number here → here ≡ line ∷ lines → ¬ (IsWhite line) → ((c : Counts) → ¬ (IsHeaderLine line c)) → HasNoHeader 1 all number
header_stop all number here line lines t is some none = t.none number (subst (λ ls. HasNoHeader number ls number) (sym is) (other_line some none))

pub header_end : (all : List (List ℕ)) (number : ℕ) (here : List (List ℕ)) → HeaderTo all number here → here ≡ [] → HasNoHeader 1 all number
header_end all number here t none = t.none number (subst (λ ls. HasNoHeader number ls number) (sym none) no_line_left)

-- ---- no line of nothing
pub no_lines : (rest : List ℕ) → length rest ≡ 0 → lines_of rest ≡ []
unfolding lines_of
no_lines rest none = ap lines_of (nil_from_length rest none)

-- ---- in code
pub edge_added : (g : Sig) (ts : List Tree) (c : Counts) (line : List ℕ) (items after : List CodeEdge) (found : Option CodeEdge) (x : CodeEdge) → found ≡ Some x → IsReadEdge g ts c line (option_map plain_edge found) → length items < c.edges → after ≡ items ++ x ∷ []
    → AddsEdge g ts c line (map plain_edge items) (map plain_edge after) true
edge_added g ts c line items after found x is read few same =
    let there : IsReadEdge g ts c line (Some (plain_edge x)) = subst (λ (o : Option CodeEdge). IsReadEdge g ts c line (option_map plain_edge o)) is read in
    edge_told (plain_edge x) there.0 (subst (λ n. n < c.edges) (sym (length-map items plain_edge)) few) there.1 there.2 (ap (map plain_edge) same ∙ map-append plain_edge items (x ∷ [])) refl

pub if_true : {P : Type 0} (b : Bool) → b ≡ true → OnTrue b P → P
if_true true right h = h
if_true false right h = absurd (cc right)

pub header_fault : (g : Sig) (text : List ℕ) (fault : AutFault) → IsHeaderFault (lines_of text) fault → IsAutFault g text fault
header_fault g text (BadAut k) h = bad_header h
header_fault g text (BadStates k) h = absurd h
header_fault g text NoMemory h = absurd h

pub edges_fault : (g : Sig) (text : List ℕ) (c : Counts) (number : ℕ) (left : List (List ℕ)) (fault : AutFault) → HasHeader 1 (lines_of text) c number left → IsEdgesFault g c number left fault → IsAutFault g text fault
edges_fault g text c number left (BadAut k) header h = bad_behind_header header h
edges_fault g text c number left (BadStates k) header h = absurd h
edges_fault g text c number left NoMemory header h = tt
