use Rattle.std.proofs.Common.{◌≡◌, ◌∙◌, ◌++◌, ◌∷◌, List, ℕ, codes, sym, subst}
use Rattle.aut_check.specs.LineParts.{IsLabelThen}
use Rattle.aut_check.specs.SystemTexts.{IsFirstPart}
use Rattle.aut_check.proofs.PartLemmas.{label_close, label_cut, label_open, label_there, not_stripped, stripped}
use Rattle.aut_check.proofs.line_parts.label_before.Goals as goal

pub returns-in_err-text : goal.returns-in_err-text
returns-in_err-text c = rw c.from_residual.ensures (λ label rest f. c.in_err-text.ensures (label ++ 34 ∷ f.behind) (label_open f))

pub returns-in_err-behind : goal.returns-in_err-behind
returns-in_err-behind c =
    rw c.from_residual-in_err-behind.ensures
    (λ label rest f.
    let same = label_cut c.front_len.result c.in_ok-text.ensures c.front_len.ensures.size f in
    not_stripped c.split_at.result.1.now (codes "\"") c.strip_prefix.result c.strip_prefix.ensures.cases c.in_err-behind.was f.behind (c.split_at.ensures.back ∙ same.rest))

pub returns-in_err-rest : goal.returns-in_err-rest
returns-in_err-rest c =
    rw c.from_residual-in_err-rest.ensures
    (λ label rest f.
    let same = label_cut c.front_len.result c.in_ok-text.ensures c.front_len.ensures.size f in
    let left : c.in_ok-behind.behind.now ≡ f.behind = label_close (sym (stripped c.split_at.result.1.now (codes "\"") c.strip_prefix.result c.strip_prefix.ensures.cases c.in_ok-behind.behind c.in_ok-behind.was) ∙ c.split_at.ensures.back ∙ same.rest) in
    c.in_err-rest.ensures rest (subst (λ (z : List ℕ). IsFirstPart z (codes ",") rest) (sym left) f.second))

pub returns : goal.returns
returns c =
    subst (λ (z : List ℕ). IsLabelThen c.args.text.now z c.in_ok-rest.rest.now) (sym c.split_at.ensures.front)
    (label_there c.front_len.result c.in_ok-text.ensures c.front_len.ensures.size (sym c.split_at.ensures.back ∙ stripped c.split_at.result.1.now (codes "\"") c.strip_prefix.result c.strip_prefix.ensures.cases c.in_ok-behind.behind c.in_ok-behind.was) c.in_ok-rest.ensures)
