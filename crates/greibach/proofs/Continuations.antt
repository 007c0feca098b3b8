-- What follows a label stands for the calls of its summand.
use Rattle.std.proofs.Common.{◌≡◌, ℕ, List, [], ◌∷◌, ◌++◌, map, length, Some, sym, ap, ◌∙◌, subst, append-nil}
use Rattle.std.specs.Prelude.{slice_get, option_map}
use Rattle.std.proofs.lemmas.Option.{slice_get-map}
use Rattle.std.proofs.lemmas.List.{map-append, length-map}
use Rattle.data_theory.specs.Terms.{Term, put}
use Rattle.data_theory.specs.Environments.{Environment, term_in, bound, bound_variables, Agree, AreDistinct}
use Rattle.data_theory.proofs.PlaceLemmas.{contains_read}
use Rattle.process_terms.specs.Theories.{Theory, AreOfSorts}
use Rattle.process_terms.specs.Processes.{Body, written_delta, written_act, written_choice, written_seq, written_cond, written_sum, written_call, written_merge, written_starting, written_around, Process, seq, call, close}
use Rattle.process_terms.specs.Steps.{Outcome, ended}
use Rattle.bisim_laws.specs.LinearProcesses.{variables, sorts, AreDeclared, reading}
use Rattle.bisim_laws.specs.Sameness.{Alike, by_data, by_body, turned, alike_seq}
use Rattle.bisim_laws.specs.BaseStates.{Chain, one_piece, more_pieces, GreibachCall, StandsFor, stands_for}
use Rattle.bisim_laws.specs.Compositions.{LeftOver, nothing_left_over, pieces_left_over}
use Rattle.bisim_laws.proofs.PuttingEqualData.{closed_equal, tables_refl}
use Rattle.bisim_laws.proofs.PieceByPiece.{left_before}
use Rattle.bisim_laws.proofs.Firing.{bound_reads, reading_agrees}
use Rattle.bisim_laws.proofs.SortedFiring.{HaveTerms}
use Rattle.lps_core.proofs.Members.{In, here, there, append_back}
use Rattle.greibach.specs.Places.{Path, Place, whole, Factor, Text, table_in, IsSortedBody}
use Rattle.greibach.specs.Unfolding.{PlaceCall, rest_call, onward_call, onward, HasPiece, has_piece, HasOnwardPiece, HasPieces}
use Rattle.greibach.specs.UnfoldedForms.{UnfoldedEquation, pieces_in, IsNumbered, IsUnfolded}
use Rattle.greibach.proofs.Under.{under, under_terms, under_reading, body_along}
use Rattle.greibach.proofs.Flattening.{run, following, left_alike, before_alike}
use Rattle.greibach.proofs.Situations.{reads_sorted, puts_sorted, sorts_long, has_body}

-- a process goes on as these calls
pub record Continues (th : Theory) (P : Process → GreibachCall → Type 0) (p : Process) (calls : List GreibachCall) : Type 0 where
  pub other : Process
  pub alike : Alike th p other
  pub chain : Chain P other calls

abbrev pub Stands : Theory → Text → List UnfoldedEquation → Process → GreibachCall → Type 0
Stands th t form = StandsFor th (table_in t) (pieces_in t form)

abbrev pub closed_call : (Place → ℕ) → Environment → PlaceCall → GreibachCall
closed_call number f c = record { equation = number c.place; args = map (put (term_in f)) c.args }

abbrev pub closed_calls : (Place → ℕ) → Environment → List PlaceCall → List GreibachCall
closed_calls number f cs = map (closed_call number f) cs

abbrev pub AreNumbered : (Place → ℕ) → List UnfoldedEquation → List PlaceCall → Type 0
AreNumbered number form cs = (c : PlaceCall) → In c cs → IsNumbered number form c.place

pub same_runs : (th : Theory) (t : Text) (xs : List ℕ) (d e : Environment) → Agree xs (term_in d) (term_in e) → (b : Body) → IsSortedBody th.declared t xs b → Alike th (close (table_in t) d b) (close (table_in t) e b)
same_runs th t xs d e g b h = by_data (closed_equal (tables_refl th (table_in t)) (body_along th t xs d e g b h))

module _ (th : Theory) (t : Text) (number : Place → ℕ) (form : List UnfoldedEquation) (is : IsUnfolded th.declared t number form) where
  pub stands_at : (place : Place) (us : List Term) → IsNumbered number form place → AreOfSorts th (sorts (t.piece place).params) us
      → Stands th t form (close (table_in t) (bound (variables (t.piece place).params) us) (t.piece place).body) (record { equation = number place; args = us })
  stands_at place us n h =
      let there : slice_get (pieces_in t form) (number place) ≡ Some (t.piece place) =
      slice_get-map (λ q. t.piece q.place) form (number place) ∙ ap (option_map (λ q. t.piece q.place)) n.1 ∙ ap (λ p. Some (t.piece p)) n.2 in
      stands_for (t.piece place) there h

  pub piece_sorted : (place : Place) → IsNumbered number form place → IsSortedBody th.declared t (variables (t.piece place).params) (t.piece place).body
  piece_sorted place n = subst (λ p. IsSortedBody th.declared t (variables (t.piece p).params) (t.piece p).body) n.2 (is.equations n.0 (contains_read form (number place) n.0 n.1)).sorted_body

  pub piece_declared : (place : Place) → IsNumbered number form place → AreDeclared t.variables (t.piece place).params
  piece_declared place n = subst (λ p. AreDeclared t.variables (t.piece p).params) n.2 (is.equations n.0 (contains_read form (number place) n.0 n.1)).declared

  pub piece_distinct : (place : Place) → IsNumbered number form place → AreDistinct (variables (t.piece place).params)
  piece_distinct place n = subst (λ p. AreDistinct (variables (t.piece p).params)) n.2 (is.equations n.0 (contains_read form (number place) n.0 n.1)).distinct

  -- a rest goes on as the call of its equation
  pub rest_continues : (o : ℕ) (f e : Environment) → HaveTerms th.declared t.variables (bound_variables e) (term_in (under f e)) → (r : Factor) (rs : List Factor) → HasPiece t o (bound_variables e) (r ∷ rs)
      → AreNumbered number form (rest_call t o e (r ∷ rs)) → Continues th (Stands th t form) (run (table_in t) (under f e) (r ∷ rs)) (closed_calls number f (rest_call t o e (r ∷ rs)))
  rest_continues o f e has r rs (has_piece _ _ body within) n =
      let place : Place = record { owner = o; path = r.path } in
      let at : IsNumbered number form place = n _ here in
      let xs : List ℕ = variables (t.piece place).params in
      let us : List Term = reading (under f e) xs in
      let read : map (put (term_in f)) (reading e xs) ≡ us = under_reading f e xs within in
      let sorted : AreOfSorts th (sorts (t.piece place).params) us = reads_sorted th.declared t.variables (bound_variables e) (under f e) has (t.piece place).params (piece_declared place at) within in
      let reads_back : reading (under f e) xs ≡ reading (bound xs us) xs = sym (bound_reads xs us (sorts_long th.declared [] us (t.piece place).params sorted) (piece_distinct place at)) in
      record {
        other = close (table_in t) (bound xs us) (t.piece place).body;
        alike = subst (λ b. Alike th (close (table_in t) (under f e) b) (close (table_in t) (bound xs us) (t.piece place).body)) body
            (same_runs th t xs (under f e) (bound xs us) (reading_agrees xs (under f e) (bound xs us) reads_back) (t.piece place).body (piece_sorted place at));
        chain = subst (λ l. Chain (Stands th t form) (close (table_in t) (bound xs us) (t.piece place).body) (record { equation = number place; args = l } ∷ [])) (sym read)
            (one_piece (stands_at place us at sorted));
      }

  -- so does one that begins with a call
  call_continues : (x : ℕ) (ts : List Term) (f e : Environment) → HaveTerms th.declared t.variables (bound_variables e) (term_in (under f e)) → IsSortedBody th.declared t (bound_variables e) (written_call x ts)
      → IsNumbered number form (whole x) → Continues th (Stands th t form) (call (table_in t) x (map (put (term_in (under f e))) ts)) (record { equation = number (whole x); args = map (put (term_in f)) (map (put (term_in e)) ts) } ∷ [])
  call_continues x ts f e has sorted_body at =
      let k = sorted_body.1 in
      let us : List Term = map (put (term_in (under f e))) ts in
      let d = is.definitions x k.0 k.1 k.3 in
      let long : length us ≡ length (variables k.0.params) = length-map ts (put (term_in (under f e))) ∙ sorts_long th.declared t.variables ts k.0.params k.2 in
      let sorted : AreOfSorts th (sorts k.0.params) us = puts_sorted th.declared t.variables (bound_variables e) (under f e) has ts (sorts k.0.params) sorted_body.0 k.2 in
      record {
        other = close (table_in t) (bound (variables k.0.params) us) k.0.body;
        alike = by_body (has_body t x us k.0 k.1 long);
        chain = subst (λ l. Chain (Stands th t form) (close (table_in t) (bound (variables k.0.params) us) k.0.body) (record { equation = number (whole x); args = l } ∷ [])) (sym (under_terms f e ts sorted_body.0))
            (one_piece (subst (λ q. Stands th t form (close (table_in t) (bound (variables q.params) us) q.body) (record { equation = number (whole x); args = us })) d.0
            (stands_at (whole x) us at (subst (λ q. AreOfSorts th (sorts q.params) us) (sym d.0) sorted))));
      }

  both_continue : {p q : Process} (xs ys : List GreibachCall) → Continues th (Stands th t form) p xs → Continues th (Stands th t form) q ys → Continues th (Stands th t form) (seq p q) (xs ++ ys)
  both_continue xs ys h k = record { other = seq h.other k.other; alike = alike_seq h.alike k.alike; chain = more_pieces xs ys h.chain k.chain }

  pub onward_continues : (o : ℕ) (f e : Environment) → HaveTerms th.declared t.variables (bound_variables e) (term_in (under f e)) → (path : Path) (b : Body) (rs : List Factor)
      → HasOnwardPiece t o (bound_variables e) (record { path = path; body = b }) b rs → IsSortedBody th.declared t (bound_variables e) b → AreNumbered number form (onward_call t o e (record { path = path; body = b }) b rs)
      → Continues th (Stands th t form) (run (table_in t) (under f e) (record { path = path; body = b } ∷ rs)) (closed_calls number f (onward_call t o e (record { path = path; body = b }) b rs))
  onward_continues o f e has path (written_call x ts) [] p sorted_body n = call_continues x ts f e has sorted_body (n _ here)
  onward_continues o f e has path (written_call x ts) (r ∷ rs) p sorted_body n =
      both_continue _ _ (call_continues x ts f e has sorted_body (n _ here)) (rest_continues o f e has r rs p (λ c i. n c (there i)))
  onward_continues o f e has path written_delta rs p sorted_body n = rest_continues o f e has _ rs p n
  onward_continues o f e has path (written_act m) rs p sorted_body n = rest_continues o f e has _ rs p n
  onward_continues o f e has path (written_choice q1 q2) rs p sorted_body n = rest_continues o f e has _ rs p n
  onward_continues o f e has path (written_seq q1 q2) rs p sorted_body n = rest_continues o f e has _ rs p n
  onward_continues o f e has path (written_cond c q1 q2) rs p sorted_body n = rest_continues o f e has _ rs p n
  onward_continues o f e has path (written_sum x q) rs p sorted_body n = rest_continues o f e has _ rs p n
  onward_continues o f e has path (written_merge q1 q2) rs p sorted_body n = absurd sorted_body
  onward_continues o f e has path (written_starting start q1 q2) rs p sorted_body n = absurd sorted_body
  onward_continues o f e has path (written_around op q) rs p sorted_body n = absurd sorted_body

  -- what is left after a label that ends
  pub left_after_label : (o : ℕ) (f e : Environment) → HaveTerms th.declared t.variables (bound_variables e) (term_in (under f e)) → (rest : List Factor) → HasPieces t o (bound_variables e) rest
      → ((r : Factor) → In r rest → IsSortedBody th.declared t (bound_variables e) r.body) → AreNumbered number form (onward t o e rest)
      → LeftOver th (Stands th t form) (following (table_in t) (under f e) ended rest) (closed_calls number f (onward t o e rest))
  left_after_label o f e has [] p sorted_body n = nothing_left_over
  left_after_label o f e has (r ∷ rs) p sorted_body n = let k = onward_continues o f e has r.path r.body rs p (sorted_body r here) n in pieces_left_over k.alike k.chain

  -- what is left after a step of a call's body
  pub left_after_call : (o : ℕ) (f e : Environment) → HaveTerms th.declared t.variables (bound_variables e) (term_in (under f e)) → (rest : List Factor) → HasPiece t o (bound_variables e) rest
      → (next : List PlaceCall) → AreNumbered number form (next ++ rest_call t o e rest) → (r : Outcome) → LeftOver th (Stands th t form) r (closed_calls number f next)
      → LeftOver th (Stands th t form) (following (table_in t) (under f e) r rest) (closed_calls number f (next ++ rest_call t o e rest))
  left_after_call o f e has [] p next n r l = subst (λ cs. LeftOver th (Stands th t form) r (closed_calls number f cs)) (sym (append-nil next)) l
  left_after_call o f e has (q ∷ qs) p next n r l =
      let k = rest_continues o f e has q qs p (λ c i. n c (append_back next i)) in
      subst (λ cs. LeftOver th (Stands th t form) (following (table_in t) (under f e) r (q ∷ qs)) cs) (sym (map-append (closed_call number f) next (rest_call t o e (q ∷ qs))))
      (left_alike (before_alike th (turned k.alike) r) (left_before th l k.chain))
