use Rattle.std.proofs.Common.{inl, inr, refl, ◌∙◌}
use Rattle.std.specs.Prelude.{None}
use Rattle.data_theory.specs.Terms.{equality}
use Rattle.data_theory.specs.Equations.{falseᵗ, ◌∧ᵗ◌, equals}
use Rattle.data_rewriter.proofs.Deciding.{plainly, told, denied}
use Rattle.data_rewriter.proofs.EqualClauses.{list_decided, numeral_no_empty, numeral_no_cons, empty_no_cons}
use Rattle.data_theory.specs.Terms.{list}
use Rattle.data_rewriter.proofs.ListClauses.{part}
use Rattle.data_rewriter.proofs.EqualClauses.{equal_nums, numbers_right, same_numbers}
use Rattle.data_rewriter.proofs.equal_lines.list_line.Goals as goal

pub returns-in_default-number_over : goal.returns-in_default-number_over
returns-in_default-number_over c = λ sig ts b t u table so se eq fun vx vy differ.
    let m = c.in-Some.ensures sig ts (list b) t table so vx in
    list_decided sig ts b t u None (inr (differ, inr ((λ h. c.in_default-number_over.ensures sig ts (list b) u table so vy h.1 h.3), inr ((λ h. numeral_no_empty m.0 h.0), inr ((λ h. numeral_no_cons m.0 h.0), inr ((λ h. numeral_no_cons m.0 h.0), tt))))))

pub returns-in-Some : goal.returns-in-Some
returns-in-Some c = λ sig ts b t u table so se eq fun vx vy differ.
    let m = c.in-Some.ensures sig ts (list b) t table so vx in
    let n = c.in-Some-number_over.ensures sig ts (list b) u table so vy in
    list_decided sig ts b t u _ (inr (differ, inl ((_, _, m.0, n.0), plainly sig ts 29 _ (same_numbers t u) _ c.line.ensures (numbers_right (list b) t u _ _ _ m.0 n.0 (c.eq.ensures ∙ equal_nums c.in-Some.first c.in-Some-number_over.second)))))

pub returns-in_default-parts_over : goal.returns-in_default-parts_over
returns-in_default-parts_over c = λ sig ts b t u table so se eq fun vx vy differ.
    let e = (told (c.is_empty_over.ensures sig ts b t table se vx) c.if-is_empty_over.true) in
    list_decided sig ts b t u None (inr (differ, inr ((λ h. c.in_default.ensures sig ts (list b) t table so vx h.0 h.2), inr ((λ h. c.in_default-parts_over.ensures sig ts b u table se vy h.1), inr ((λ h. empty_no_cons e h.0), inr ((λ h. empty_no_cons e h.0), tt))))))

pub returns-then-is_empty_over : goal.returns-then-is_empty_over
returns-then-is_empty_over c = λ sig ts b t u table so se eq fun vx vy differ.
    let e = (told (c.is_empty_over.ensures sig ts b t table se vx) c.if-is_empty_over.true) in
    let q = c.in-Some-parts_over.ensures sig ts b u table se vy in
    list_decided sig ts b t u _ (inr (differ, inr ((λ h. c.in_default.ensures sig ts (list b) t table so vx h.0 h.2), inl ((e, (q.first, q.rest, q.is)), plainly sig ts 30 _ falseᵗ _ c.line-then-is_empty_over.ensures refl))))

pub returns-in_default-parts_over-2 : goal.returns-in_default-parts_over-2
returns-in_default-parts_over-2 c = λ sig ts b t u table so se eq fun vx vy differ.
    list_decided sig ts b t u None (inr (differ, inr ((λ h. c.in_default.ensures sig ts (list b) t table so vx h.0 h.2), inr ((λ h. denied (c.is_empty_over.ensures sig ts b t table se vx) c.if-is_empty_over.false h.0), inr ((λ h. c.in_default-parts_over-2.ensures sig ts b t table se vx h.0), inr ((λ h. c.in_default-parts_over-2.ensures sig ts b t table se vx h.0), tt))))))

pub returns-then-is_empty_over-2 : goal.returns-then-is_empty_over-2
returns-then-is_empty_over-2 c = λ sig ts b t u table so se eq fun vx vy differ.
    let p = c.in-Some-parts_over-2.ensures sig ts b t table se vx in
    list_decided sig ts b t u _ (inr (differ, inr ((λ h. c.in_default.ensures sig ts (list b) t table so vx h.0 h.2), inr ((λ h. denied (c.is_empty_over.ensures sig ts b t table se vx) c.if-is_empty_over.false h.0), inl (((p.first, p.rest, p.is), (told (c.is_empty_over-2.ensures sig ts b u table se vy) c.if-is_empty_over-2.true)), plainly sig ts 31 _ falseᵗ _ c.line-then-is_empty_over-2.ensures refl)))))

pub returns-in_default-parts_over-3 : goal.returns-in_default-parts_over-3
returns-in_default-parts_over-3 c = λ sig ts b t u table so se eq fun vx vy differ.
    list_decided sig ts b t u None (inr (differ, inr ((λ h. c.in_default.ensures sig ts (list b) t table so vx h.0 h.2), inr ((λ h. denied (c.is_empty_over.ensures sig ts b t table se vx) c.if-is_empty_over.false h.0), inr ((λ h. denied (c.is_empty_over-2.ensures sig ts b u table se vy) c.if-is_empty_over-2.false h.1), inr ((λ h. c.in_default-parts_over-3.ensures sig ts b u table se vy h.1), tt))))))

pub returns : goal.returns
returns c = λ sig ts b t u table so se eq fun vx vy differ.
    let p = c.in-Some-parts_over-2.ensures sig ts b t table se vx in
    let q = c.in-Some-parts_over-3.ensures sig ts b u table se vy in
    list_decided sig ts b t u _ (inr (differ, inr ((λ h. c.in_default.ensures sig ts (list b) t table so vx h.0 h.2), inr ((λ h. denied (c.is_empty_over.ensures sig ts b t table se vx) c.if-is_empty_over.false h.0), inr ((λ h. denied (c.is_empty_over-2.ensures sig ts b u table se vy) c.if-is_empty_over-2.false h.1), inl (((p.first, p.rest, p.is), (q.first, q.rest, q.is)), plainly sig ts 32 _ (equals b (part t 0) (part u 0) ∧ᵗ equals (list b) (part t 1) (part u 1)) _ c.line-2.ensures (equality b, equality (list b), p.first, q.first, p.rest, q.rest, eq, fun, p.first_is, q.first_is, p.rest_is, q.rest_is, (λ i. equals b (part (p.is i) 0) (part (q.is i) 0) ∧ᵗ equals (list b) (part (p.is i) 1) (part (q.is i) 1)))))))))
