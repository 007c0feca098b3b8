-- The pieces that are printed for summands stand apart.
use Rattle.std.proofs.Common.{◌≡◌, ◌≢◌, ℕ, Bool, true, false, List, [], ◌∷◌, ◌++◌, ◌⊎◌, inl, inr, get_or, if◌then◌else◌, codes, Some, None, Option, refl, ap, sym, subst, arith}
use Rattle.std.specs.List.{list_all}
use Rattle.std.proofs.lemmas.Bool.{and_parts}
use Rattle.std.proofs.lemmas.Bool.Decides.{nat_tests}
use Rattle.mcrl2_lexer.specs.declared.kind.Kind.{Kind}
use Rattle.mcrl2_lexer.specs.declared.kind.Kind.TheVariants as kind_
use Rattle.mcrl2_lexer.specs.Words.{is_name, is_letter, is_digit, is_name_byte, sign_kind, word_kind, is_left_out}
use Rattle.mcrl2_lexer.specs.Tokens.{IsToken, sign}
use Rattle.lps_printer.specs.Pieces.{Piece, bytes_of, cannot_go_on, is_none, is_quiet, StandApart}
use Rattle.lps_printer.specs.PrintedExpressions.{Expression, none, more}
use Rattle.lps_printer.specs.DataLayout.{piece, space, print, print_more, IsIdentifier, IsSpellable}
use Rattle.sort_table.specs.BareSorts.{SortExpression, truth_values, positives, naturals, integers, lists_of, a_name}
use Rattle.lps_printer.specs.PrintedProcesses.{Action, tau_, act, Assignment, Next, ends, goes_bare, goes, Variable, Summand}
use Rattle.lps_printer.specs.SummandLayout.{print_sort, print_action, print_bars, print_assignment, print_assignments, print_next, print_variable, print_variables, print_body, print_when, print_sum, print_summand, print_summands}
use Rattle.lps_printer.specs.NamedSummands.{IsNamed, IsNamedAction, AreNamedActions, IsNamedAssignment, AreNamedAssignments, IsNamedNext, IsNamedVariable, AreNamedVariables, IsNamedCondition, IsNamedSummand, AreNamedSummands}
use Rattle.lps_printer.proofs.Fronts.{quiet}
use Rattle.lps_printer.proofs.Apart.{first, Ends, IsGap, plain_piece, name_piece, identifier_token, word_token, in_front, after_paren, close_paren, apart, more_apart, spaced}

-- a word of the language in front of others
pub word : {gap : List ℕ} {rest : List Piece} {end : List ℕ} (k : Kind) (x : List ℕ) → IsGap gap → is_name x ≡ true → word_kind x ≡ k → is_left_out k ≡ false → k ≢ kind_.Numeral → Ends rest end → StandApart (piece gap k x ∷ rest) end
word k x g n e l o h = in_front (plain_piece g (subst (λ (j : Kind). IsToken x j) e (word_token x n)) l o) h

-- a sign in front of others
signed : {gap : List ℕ} {rest : List Piece} {end : List ℕ} (k : Kind) (x : List ℕ) → IsGap gap → sign_kind x ≡ Some k → is_left_out k ≡ false → k ≢ kind_.Numeral → Ends rest end → StandApart (piece gap k x ∷ rest) end
signed k x g e l o h = in_front (plain_piece g (sign e) l o) h

-- the same, as what others may stand in front of

pub signed_spaced : {rest : List Piece} {end : List ℕ} (k : Kind) (x : List ℕ) → sign_kind x ≡ Some k → is_left_out k ≡ false → k ≢ kind_.Numeral → Ends rest end → Ends (piece space k x ∷ rest) end
signed_spaced k x e l o h = record { apart = signed k x refl e l o h; quiet_ = refl }

named_spaced : {rest : List Piece} {end : List ℕ} (x : List ℕ) → IsIdentifier x → Ends rest end → Ends (piece space kind_.Identifier x ∷ rest) end
named_spaced x ok h = record { apart = in_front (name_piece refl ok) h; quiet_ = refl }

pub signed_tight : {rest : List Piece} {end : List ℕ} (k : Kind) (b : ℕ) → is_quiet b ≡ true → sign_kind (b ∷ []) ≡ Some k → is_left_out k ≡ false → k ≢ kind_.Numeral → Ends rest end → Ends (piece [] k (b ∷ []) ∷ rest) end
signed_tight k b q e l o h = record { apart = signed k (b ∷ []) refl e l o h; quiet_ = q }

pub paren_tight : (rest : List Piece) (end : List ℕ) → StandApart rest end → Ends (piece [] kind_.LeftParen (codes "(") ∷ rest) end
paren_tight rest end s = record { apart = after_paren rest end refl s; quiet_ = refl }

printed_spaced : {rest : List Piece} {end : List ℕ} (e : Expression) → IsSpellable e → Ends rest end → Ends (print e space rest) end
printed_spaced {rest = rest} {end = end} e ok h = record { apart = apart e ok space refl rest end h; quiet_ = ap is_quiet (spaced e ok rest end) }

pub sort_apart : (s : SortExpression) → IsNamed s → (gap : List ℕ) → IsGap gap → (rest : List Piece) (end : List ℕ) → Ends rest end → StandApart (print_sort s gap rest) end
sort_apart truth_values ok gap g rest end h = word kind_.BoolWord (codes "Bool") g refl refl refl (λ e. cc) h
sort_apart positives ok gap g rest end h = word kind_.PosWord (codes "Pos") g refl refl refl (λ e. cc) h
sort_apart naturals ok gap g rest end h = word kind_.NatWord (codes "Nat") g refl refl refl (λ e. cc) h
sort_apart integers ok gap g rest end h = word kind_.IntWord (codes "Int") g refl refl refl (λ e. cc) h
sort_apart (lists_of s) ok gap g rest end h =
    word kind_.ListWord (codes "List") g refl refl refl (λ e. cc) (paren_tight (print_sort s [] (piece [] kind_.RightParen (codes ")") ∷ rest)) end (sort_apart s ok [] refl (piece [] kind_.RightParen (codes ")") ∷ rest) end (close_paren h)))
sort_apart (a_name x) ok gap g rest end h = in_front (name_piece g ok) h

pub sort_quiet : (s : SortExpression) (rest : List Piece) (end : List ℕ) → is_quiet (first (print_sort s space rest) end) ≡ true
sort_quiet truth_values rest end = refl
sort_quiet positives rest end = refl
sort_quiet naturals rest end = refl
sort_quiet integers rest end = refl
sort_quiet (lists_of s) rest end = refl
sort_quiet (a_name x) rest end = refl

-- ---- actions, which a bar may follow

pub record EndsAction (rest : List Piece) (end : List ℕ) : Type 0 where
  pub apart : StandApart rest end
  pub behind : (is_quiet (first rest end) ≡ true) ⊎ (first rest end ≡ 124)

name_bar : (x : List ℕ) → IsIdentifier x → cannot_go_on x 124 ≡ true
name_bar [] h = absurd cc
name_bar (b ∷ x) h = ap (λ (l : Bool). if l then true else if is_digit b then true else is_none (sign_kind (b ∷ (x ++ 124 ∷ [])))) (and_parts (is_letter b) (list_all is_name_byte x) h.0).0

either_end : (bytes : List ℕ) (next : ℕ) (k : Kind) → IsToken bytes k → cannot_go_on bytes 124 ≡ true → ((is_quiet next ≡ true) ⊎ (next ≡ 124)) → cannot_go_on bytes next ≡ true
either_end bytes next k t b (inl q) = quiet next t q
either_end bytes next k t b (inr e) = subst (λ (n : ℕ). cannot_go_on bytes n ≡ true) (sym e) b

close_action : {rest : List Piece} {end : List ℕ} → EndsAction rest end → Ends (piece [] kind_.RightParen (codes ")") ∷ rest) end
close_action {rest = rest} {end = end} h = record { apart = (plain_piece refl (sign refl) refl (λ e. cc), either_end (codes ")") (first rest end) kind_.RightParen (sign refl) refl h.behind, h.apart); quiet_ = refl }

pub action_apart : (a : Action) → IsNamedAction a → (gap : List ℕ) → IsGap gap → (rest : List Piece) (end : List ℕ) → EndsAction rest end → StandApart (print_action a gap rest) end
action_apart tau_ ok gap g rest end h = (plain_piece g (word_token (codes "tau") refl) refl (λ e. cc), either_end (codes "tau") (first rest end) kind_.Tau (word_token (codes "tau") refl) refl h.behind, h.apart)
action_apart (act x none) ok gap g rest end h = (name_piece g ok.0, either_end x (first rest end) kind_.Identifier (identifier_token x ok.0) (name_bar x ok.0) h.behind, h.apart)
action_apart (act x (more e es)) ok gap g rest end h =
    let items : StandApart (print e [] (print_more es (piece [] kind_.RightParen (codes ")") ∷ rest))) end = apart e ok.1.0 [] refl (print_more es (piece [] kind_.RightParen (codes ")") ∷ rest)) end (more_apart es ok.1.1 (piece [] kind_.RightParen (codes ")") ∷ rest) end (close_action h)) in
    (name_piece g ok.0, quiet 40 (identifier_token x ok.0) refl, after_paren (print e [] (print_more es (piece [] kind_.RightParen (codes ")") ∷ rest))) end refl items)

bar_signs : (b : ℕ) → is_letter b ≡ true → sign_kind (124 ∷ b ∷ []) ≡ None
bar_signs b h = grind (arith, nat_tests)

bar_name : (x rest : List ℕ) → IsIdentifier x → cannot_go_on (codes "|") (get_or (x ++ rest) 0 0) ≡ true
bar_name [] rest h = absurd cc
bar_name (b ∷ x) rest h = ap is_none (bar_signs b (and_parts (is_letter b) (list_all is_name_byte x) h.0).0)

bar_action : (a : Action) → IsNamedAction a → (rest : List Piece) (end : List ℕ) → cannot_go_on (codes "|") (first (print_action a [] rest) end) ≡ true
bar_action tau_ ok rest end = refl
bar_action (act x none) ok rest end = bar_name x (bytes_of rest end) ok.0
bar_action (act x (more e es)) ok rest end = bar_name x (bytes_of (piece [] kind_.LeftParen (codes "(") ∷ print e [] (print_more es (piece [] kind_.RightParen (codes ")") ∷ rest))) end) ok.0

bars_apart : (as_ : List Action) → AreNamedActions as_ → (rest : List Piece) (end : List ℕ) → Ends rest end → EndsAction (print_bars as_ rest) end
bars_apart [] ok rest end h = record { apart = h.apart; behind = inl h.quiet_ }
bars_apart (a ∷ as_) ok rest end h =
    record { apart = (plain_piece refl (sign refl) refl (λ e. cc), bar_action a ok.0 (print_bars as_ rest) end, action_apart a ok.0 [] refl (print_bars as_ rest) end (bars_apart as_ ok.1 rest end h)); behind = inr refl }

-- ---- the rest of a summand

assignment_apart : (x : Assignment) → IsNamedAssignment x → (gap : List ℕ) → IsGap gap → (rest : List Piece) (end : List ℕ) → Ends rest end → StandApart (print_assignment x gap rest) end
assignment_apart x ok gap g rest end h =
    in_front (name_piece g ok.0) (signed_spaced kind_.Equals (codes "=") refl refl (λ e. cc) (printed_spaced x.value ok.1 h))

assignments_apart : (xs : List Assignment) → AreNamedAssignments xs → (rest : List Piece) (end : List ℕ) → Ends rest end → Ends (print_assignments xs rest) end
assignments_apart [] ok rest end h = h
assignments_apart (x ∷ xs) ok rest end h =
    let inner : Ends (print_assignment x space (print_assignments xs rest)) end = record { apart = assignment_apart x ok.0 space refl (print_assignments xs rest) end (assignments_apart xs ok.1 rest end h); quiet_ = refl } in
    signed_tight kind_.Comma 44 refl refl refl (λ e. cc) inner

next_apart : (n : Next) → IsNamedNext n → (rest : List Piece) (end : List ℕ) → Ends rest end → Ends (print_next n rest) end
next_apart ends ok rest end h = h
next_apart (goes_bare x) ok rest end h = signed_spaced kind_.Dot (codes ".") refl refl (λ e. cc) (named_spaced x ok h)
next_apart (goes x []) ok rest end h =
    signed_spaced kind_.Dot (codes ".") refl refl (λ e. cc) (named_spaced x ok.0 (paren_tight (piece [] kind_.RightParen (codes ")") ∷ rest) end (close_paren h).apart))
next_apart (goes x (a ∷ as_)) ok rest end h =
    let inner : StandApart (print_assignment a [] (print_assignments as_ (piece [] kind_.RightParen (codes ")") ∷ rest))) end
    = assignment_apart a ok.1.0 [] refl (print_assignments as_ (piece [] kind_.RightParen (codes ")") ∷ rest)) end (assignments_apart as_ ok.1.1 (piece [] kind_.RightParen (codes ")") ∷ rest) end (close_paren h)) in
    signed_spaced kind_.Dot (codes ".") refl refl (λ e. cc) (named_spaced x ok.0 (paren_tight (print_assignment a [] (print_assignments as_ (piece [] kind_.RightParen (codes ")") ∷ rest))) end inner))

pub variable_apart : (v : Variable) → IsNamedVariable v → (gap : List ℕ) → IsGap gap → (rest : List Piece) (end : List ℕ) → Ends rest end → StandApart (print_variable v gap rest) end
variable_apart v ok gap g rest end h =
    let sort_ : Ends (print_sort v.sort space rest) end = record { apart = sort_apart v.sort ok.1 space refl rest end h; quiet_ = sort_quiet v.sort rest end } in
    in_front (name_piece g ok.0) (signed_tight kind_.Colon 58 refl refl refl (λ e. cc) sort_)

pub variables_apart : (vs : List Variable) → AreNamedVariables vs → (rest : List Piece) (end : List ℕ) → Ends rest end → Ends (print_variables vs rest) end
variables_apart [] ok rest end h = h
variables_apart (v ∷ vs) ok rest end h =
    let inner : Ends (print_variable v space (print_variables vs rest)) end = record { apart = variable_apart v ok.0 space refl (print_variables vs rest) end (variables_apart vs ok.1 rest end h); quiet_ = refl } in
    signed_tight kind_.Comma 44 refl refl refl (λ e. cc) inner

body_apart : (s : Summand) → IsNamedSummand s → (gap : List ℕ) → IsGap gap → (rest : List Piece) (end : List ℕ) → Ends rest end → StandApart (print_body s.first s.others s.next gap rest) end
body_apart s ok gap g rest end h = action_apart s.first ok.first gap g (print_bars s.others (print_next s.next rest)) end (bars_apart s.others ok.others (print_next s.next rest) end (next_apart s.next ok.next rest end h))

-- behind a space it begins with the space
pub action_spaced : (a : Action) (rest : List Piece) (end : List ℕ) → is_quiet (first (print_action a space rest) end) ≡ true
action_spaced tau_ rest end = refl
action_spaced (act x none) rest end = refl
action_spaced (act x (more e es)) rest end = refl

when_apart : (c : Option Expression) (s : Summand) → IsNamedCondition c → IsNamedSummand s → (gap : List ℕ) → IsGap gap → (rest : List Piece) (end : List ℕ) → Ends rest end → StandApart (print_when c s.first s.others s.next gap rest) end
when_apart None s oc ok gap g rest end h = body_apart s ok gap g rest end h
when_apart (Some c) s oc ok gap g rest end h =
    let body : Ends (print_body s.first s.others s.next space rest) end = record { apart = body_apart s ok space refl rest end h; quiet_ = action_spaced s.first (print_bars s.others (print_next s.next rest)) end } in
    let arrow : Ends (piece space kind_.Arrow (codes "->") ∷ print_body s.first s.others s.next space rest) end = signed_spaced kind_.Arrow (codes "->") refl refl (λ e. cc) body in
    after_paren (print c [] (piece [] kind_.RightParen (codes ")") ∷ piece space kind_.Arrow (codes "->") ∷ print_body s.first s.others s.next space rest)) end g (apart c oc [] refl (piece [] kind_.RightParen (codes ")") ∷ piece space kind_.Arrow (codes "->") ∷ print_body s.first s.others s.next space rest) end (close_paren arrow))

when_spaced : (c : Option Expression) (s : Summand) (rest : List Piece) (end : List ℕ) → is_quiet (first (print_when c s.first s.others s.next space rest) end) ≡ true
when_spaced None s rest end = action_spaced s.first (print_bars s.others (print_next s.next rest)) end
when_spaced (Some c) s rest end = refl

sum_apart : (vs : List Variable) (s : Summand) → AreNamedVariables vs → IsNamedSummand s → (gap : List ℕ) → IsGap gap → (rest : List Piece) (end : List ℕ) → Ends rest end → StandApart (print_sum vs s.condition s.first s.others s.next gap rest) end
sum_apart [] s ov ok gap g rest end h = when_apart s.condition s ok.condition ok gap g rest end h
sum_apart (v ∷ vs) s ov ok gap g rest end h =
    let body : Ends (print_when s.condition s.first s.others s.next space rest) end = record { apart = when_apart s.condition s ok.condition ok space refl rest end h; quiet_ = when_spaced s.condition s rest end } in
    let dot : Ends (piece space kind_.Dot (codes ".") ∷ print_when s.condition s.first s.others s.next space rest) end = signed_spaced kind_.Dot (codes ".") refl refl (λ e. cc) body in
    let head : Ends (print_variable v space (print_variables vs (piece space kind_.Dot (codes ".") ∷ print_when s.condition s.first s.others s.next space rest))) end = record { apart = variable_apart v ov.0 space refl (print_variables vs (piece space kind_.Dot (codes ".") ∷ print_when s.condition s.first s.others s.next space rest)) end (variables_apart vs ov.1 (piece space kind_.Dot (codes ".") ∷ print_when s.condition s.first s.others s.next space rest) end dot); quiet_ = refl } in
    word kind_.Sum (codes "sum") g refl refl refl (λ e. cc) head

pub sum_spaced : (vs : List Variable) (s : Summand) (rest : List Piece) (end : List ℕ) → is_quiet (first (print_sum vs s.condition s.first s.others s.next space rest) end) ≡ true
sum_spaced [] s rest end = when_spaced s.condition s rest end
sum_spaced (v ∷ vs) s rest end = refl

pub summand_apart : (s : Summand) → IsNamedSummand s → (gap : List ℕ) → IsGap gap → (rest : List Piece) (end : List ℕ) → Ends rest end → StandApart (print_summand s gap rest) end
summand_apart s ok gap g rest end h = sum_apart s.sums s ok.sums ok gap g rest end h

pub summands_apart : (ss : List Summand) → AreNamedSummands ss → (rest : List Piece) (end : List ℕ) → Ends rest end → Ends (print_summands ss rest) end
summands_apart [] ok rest end h = h
summands_apart (s ∷ ss) ok rest end h =
    let inner : Ends (print_summand s space (print_summands ss rest)) end = record { apart = summand_apart s ok.0 space refl (print_summands ss rest) end (summands_apart ss ok.1 rest end h); quiet_ = sum_spaced s.sums s (print_summands ss rest) end } in
    record { apart = signed kind_.Plus (codes "+") refl refl refl (λ e. cc) inner; quiet_ = refl }
