-- A bad text tells nothing, and has one first bad line.
use Rattle.std.specs.Prelude.{◌≡◌, ◌<◌, ◌+◌, ◌++◌, ℕ, zero, suc, true, List, [], ◌∷◌, length}
use Rattle.std.proofs.Common.{refl, subst, ◌∙◌, arith, append-nil}
use Rattle.std.proofs.lemmas.List.Elements.{All-get_or}
use Rattle.data_theory.specs.Signature.{Sig}
use Rattle.data_theory.specs.declared.ids.SortId.{SortId}
use Rattle.mcrl2_lexer.specs.Lexing.{Lexes, nothing, after_space}
use Rattle.mcrl2_lexer.specs.Words.{is_space}
use Rattle.mcrl2_lexer.specs.declared.token.Token.{Token}
use Rattle.mcrl2_lexer.proofs.Single.{tokens_once}
use Rattle.mcrl2_parser.specs.TermTexts.{SpellsTuple, tuple_empty, tuple_items}
use Rattle.mcrl2_syntax.specs.DataTrees.{PlainData}
use Rattle.trace_replay.specs.Traces.{SpellsLabel}
use Rattle.aut_check.specs.LineParts.{BeginsWithoutWhite}
use Rattle.aut_check.specs.ReadSystems.{SpellsTerms}
use Rattle.aut_check.specs.ReadingLaws.{AutTextsHaveOneHeader, BadAutTextsHaveNoEdges, BadAutTextsHaveOneFirstBadLine, BadStateTextsHaveNoStates, BadStateTextsHaveOneFirstBadLine}
use Rattle.aut_check.specs.Systems.{Edge, FileState}
use Rattle.aut_check.specs.SystemTexts.{Counts, AreAutLines, white_first, header_first, AreEdgeLines, white_line, edge_line, AreStateLines, white_between, state_line, IsBadAutLine, header_missing, no_header, behind_white_line, behind_header, IsBadEdge, edge_missing, edge_too_many, no_edge, behind_white, behind_edge, IsBadState, state_missing, state_too_many, no_state, past_white, past_state, IsEdgeLine, IsFirstPart, IsHeaderLine, IsStateLine, after_all, with_terms, IsWhite}
use Rattle.aut_check.proofs.PartLemmas.{cut_once, first_part, one_header}

-- ---- white lines
white_has_no_part : {line part rest : List ℕ} → IsWhite line → BeginsWithoutWhite part → IsFirstPart line part rest → ⊥
white_has_no_part {part = []} white dark f = absurd dark
white_has_no_part {line} {part = b ∷ bs} {rest} white dark f =
    let same = cut_once is_space line f.white [] ((b ∷ bs) ++ rest) white f.is_white tt dark (append-nil line ∙ f.whole) in
    let here : [] ≡ b ∷ (bs ++ rest) = same.rest in cc here

white_no_header : {line : List ℕ} {c : Counts} → IsWhite line → IsHeaderLine line c → ⊥
white_no_header white h = let there = first_part h.parts in white_has_no_part white refl there.1

white_no_edge : {g : Sig} {line : List ℕ} {c : Counts} {e : Edge} → IsWhite line → IsEdgeLine (SpellsLabel g) c line e → ⊥
white_no_edge white h = let there = first_part h.text.parts in white_has_no_part white refl there.1

white_lexes : (line : List ℕ) → IsWhite line → (n at : ℕ) → at + n ≡ length line → Lexes line at [] (length line)
white_lexes line white zero at end = subst (λ (to : ℕ). Lexes line at [] to) (let e : at ≡ length line = omega (arith, end) in e) nothing
white_lexes line white (suc n) at end =
    let inside : at < length line = omega (arith, end) in
    after_space inside (All-get_or (λ b. is_space b ≡ true) line at 0 inside white) (white_lexes line white n (suc at) (omega (arith, end)))

no_tuple : {text : List ℕ} {ds : List PlainData} {ts r : List Token} → SpellsTuple text ds ts r → ts ≡ [] → ⊥
no_tuple (tuple_empty h k) e = cc e
no_tuple (tuple_items h a k) e = cc e

white_no_state : {g : Sig} {ss : List SortId} {line : List ℕ} {o : FileState} → IsWhite line → IsStateLine (SpellsTerms g ss) line o → ⊥
white_no_state white (after_all end) = let there = first_part end in white_has_no_part white refl there.1
white_no_state {line = line} white (with_terms plain h) = no_tuple h.spelled.spelled (tokens_once line h.spelled.tokens [] h.spelled.has_tokens.lexes (white_lexes line white (length line) 0 (omega arith)))

-- ---- edges
no_edges_where_bad : {g : Sig} {c : Counts} {k left n : ℕ} {lines : List (List ℕ)} {es : List Edge} → IsBadEdge (SpellsLabel g) c k left lines n → AreEdgeLines (SpellsLabel g) c left lines es → ⊥
no_edges_where_bad edge_missing more = elim more [ ]
no_edges_where_bad (edge_too_many some) (white_line white more) = some white
no_edges_where_bad (no_edge some none) (white_line white more) = some white
no_edges_where_bad (no_edge some none) (edge_line {e = e} h more) = none e h
no_edges_where_bad (behind_white white bad) (white_line other more) = no_edges_where_bad bad more
no_edges_where_bad (behind_white white bad) (edge_line h more) = white_no_edge white h
no_edges_where_bad (behind_edge h bad) (white_line white more) = white_no_edge white h
no_edges_where_bad (behind_edge h bad) (edge_line other more) = no_edges_where_bad bad more

bad_edge_once : {g : Sig} {c : Counts} {k left n m : ℕ} {lines : List (List ℕ)} → IsBadEdge (SpellsLabel g) c k left lines n → IsBadEdge (SpellsLabel g) c k left lines m → n ≡ m
bad_edge_once edge_missing edge_missing = refl
bad_edge_once (edge_too_many some) (edge_too_many other) = refl
bad_edge_once (edge_too_many some) (behind_white white worse) = absurd (some white)
bad_edge_once (no_edge some none) (no_edge other never) = refl
bad_edge_once (no_edge some none) (behind_white white worse) = absurd (some white)
bad_edge_once (no_edge some none) (behind_edge {e = e} h worse) = absurd (none e h)
bad_edge_once (behind_white white bad) (edge_too_many some) = absurd (some white)
bad_edge_once (behind_white white bad) (no_edge some none) = absurd (some white)
bad_edge_once (behind_white white bad) (behind_white other worse) = bad_edge_once bad worse
bad_edge_once (behind_white white bad) (behind_edge h worse) = absurd (white_no_edge white h)
bad_edge_once (behind_edge {e = e} h bad) (no_edge some none) = absurd (none e h)
bad_edge_once (behind_edge h bad) (behind_white white worse) = absurd (white_no_edge white h)
bad_edge_once (behind_edge h bad) (behind_edge other worse) = bad_edge_once bad worse

-- ---- the Aldebaran text
headers_once : {g : Sig} {lines : List (List ℕ)} {c d : Counts} {es fs : List Edge} → AreAutLines (SpellsLabel g) lines c es → AreAutLines (SpellsLabel g) lines d fs → c ≡ d
headers_once (white_first white one) (white_first other two) = headers_once one two
headers_once (white_first white one) (header_first h more) = absurd (white_no_header white h)
headers_once (header_first h more) (white_first white two) = absurd (white_no_header white h)
headers_once (header_first h more) (header_first k rest) = one_header h k

pub aut_texts_have_one_header : AutTextsHaveOneHeader
aut_texts_have_one_header g text c d es fs one two = headers_once one two

no_aut_where_bad : {g : Sig} {k n : ℕ} {lines : List (List ℕ)} {c : Counts} {es : List Edge} → IsBadAutLine (SpellsLabel g) k lines n → AreAutLines (SpellsLabel g) lines c es → ⊥
no_aut_where_bad header_missing more = elim more [ ]
no_aut_where_bad (no_header some none) (white_first white more) = some white
no_aut_where_bad (no_header some none) (header_first {c = c} h more) = none c h
no_aut_where_bad (behind_white_line white bad) (white_first other more) = no_aut_where_bad bad more
no_aut_where_bad (behind_white_line white bad) (header_first h more) = white_no_header white h
no_aut_where_bad (behind_header h bad) (white_first white more) = white_no_header white h
no_aut_where_bad {g} {k} {n} (behind_header {lines = lines} {c = c} h bad) (header_first {c = d} {es = es} other more) =
    no_edges_where_bad bad (subst (λ (z : Counts). AreEdgeLines (SpellsLabel g) z z.edges lines es) (one_header other h) more)

pub bad_aut_texts_have_no_edges : BadAutTextsHaveNoEdges
bad_aut_texts_have_no_edges g text k c es bad h = no_aut_where_bad bad h

bad_aut_once : {g : Sig} {k n m : ℕ} {lines : List (List ℕ)} → IsBadAutLine (SpellsLabel g) k lines n → IsBadAutLine (SpellsLabel g) k lines m → n ≡ m
bad_aut_once header_missing header_missing = refl
bad_aut_once (no_header some none) (no_header other never) = refl
bad_aut_once (no_header some none) (behind_white_line white worse) = absurd (some white)
bad_aut_once (no_header some none) (behind_header {c = c} h worse) = absurd (none c h)
bad_aut_once (behind_white_line white bad) (no_header some none) = absurd (some white)
bad_aut_once (behind_white_line white bad) (behind_white_line other worse) = bad_aut_once bad worse
bad_aut_once (behind_white_line white bad) (behind_header h worse) = absurd (white_no_header white h)
bad_aut_once (behind_header {c = c} h bad) (no_header some none) = absurd (none c h)
bad_aut_once (behind_header h bad) (behind_white_line white worse) = absurd (white_no_header white h)
bad_aut_once {g} {k} {n} {m} (behind_header {lines = lines} {c = c} h bad) (behind_header {c = d} other worse) =
    bad_edge_once bad (subst (λ (z : Counts). IsBadEdge (SpellsLabel g) z (suc k) z.edges lines m) (one_header other h) worse)

pub bad_aut_texts_have_one_first_bad_line : BadAutTextsHaveOneFirstBadLine
bad_aut_texts_have_one_first_bad_line g text k n bad worse = bad_aut_once bad worse

-- ---- the states
no_states_where_bad : {g : Sig} {ss : List SortId} {k left n : ℕ} {lines : List (List ℕ)} {os : List FileState} → IsBadState (SpellsTerms g ss) k left lines n → AreStateLines (SpellsTerms g ss) left lines os → ⊥
no_states_where_bad state_missing more = elim more [ ]
no_states_where_bad (state_too_many some) (white_between white more) = some white
no_states_where_bad (no_state some none) (white_between white more) = some white
no_states_where_bad (no_state some none) (state_line {o = o} h more) = none o h
no_states_where_bad (past_white white bad) (white_between other more) = no_states_where_bad bad more
no_states_where_bad (past_white white bad) (state_line h more) = white_no_state white h
no_states_where_bad (past_state h bad) (white_between white more) = white_no_state white h
no_states_where_bad (past_state h bad) (state_line other more) = no_states_where_bad bad more

pub bad_state_texts_have_no_states : BadStateTextsHaveNoStates
bad_state_texts_have_no_states g ss text count k os bad h = no_states_where_bad bad h

bad_state_once : {g : Sig} {ss : List SortId} {k left n m : ℕ} {lines : List (List ℕ)} → IsBadState (SpellsTerms g ss) k left lines n → IsBadState (SpellsTerms g ss) k left lines m → n ≡ m
bad_state_once state_missing state_missing = refl
bad_state_once (state_too_many some) (state_too_many other) = refl
bad_state_once (state_too_many some) (past_white white worse) = absurd (some white)
bad_state_once (no_state some none) (no_state other never) = refl
bad_state_once (no_state some none) (past_white white worse) = absurd (some white)
bad_state_once (no_state some none) (past_state {o = o} h worse) = absurd (none o h)
bad_state_once (past_white white bad) (state_too_many some) = absurd (some white)
bad_state_once (past_white white bad) (no_state some none) = absurd (some white)
bad_state_once (past_white white bad) (past_white other worse) = bad_state_once bad worse
bad_state_once (past_white white bad) (past_state h worse) = absurd (white_no_state white h)
bad_state_once (past_state {o = o} h bad) (no_state some none) = absurd (none o h)
bad_state_once (past_state h bad) (past_white white worse) = absurd (white_no_state white h)
bad_state_once (past_state h bad) (past_state other worse) = bad_state_once bad worse

pub bad_state_texts_have_one_first_bad_line : BadStateTextsHaveOneFirstBadLine
bad_state_texts_have_one_first_bad_line g ss text count k n bad worse = bad_state_once bad worse
