use Rattle.std.proofs.Common.{rules, ◌≡◌, Bool, sym, subst}
use Rattle.std.specs.Prelude.{slice_get, Some}
use Rattle.std.specs.Bool.{Decides}
use Rattle.data_theory.specs.Terms.{variables_of}
use Rattle.data_theory.specs.Environments.{AreDistinct}
use Rattle.data_theory.specs.IdData.{data_meant}
use Rattle.data_theory.specs.Provable.{Equation}
use Rattle.data_theory.specs.Signature.{Sig}
use Rattle.data_theory.specs.IdTrees.{Tree}
use Rattle.term_pool.specs.declared.terms.Equation.{Equation as Written}
use Rattle.eqn_check.specs.Patterns.{IsLeftSide}
use Rattle.eqn_check.specs.Judged.{AreEquationsOf, IsEquationOf, term_at}
use Rattle.std.proofs.Common.{List, ℕ, length, refl}
use Rattle.std.proofs.lemmas.Option.{slice_get_read}
use Rattle.eqn_check.proofs.JudgedLemmas.{pair_at, breaks_shape, breaks_repeat, breaks_overlap, breaks_recursion, keeps_all}
use Rattle.eqn_check.proofs.checking.broken_rule.Goals as goal

meant : (sig : Sig) (ts : List Tree) (es : List Written) (own : List Equation) (k : ℕ) (e : Written) (q : Equation) → AreEquationsOf sig ts es own → slice_get es k ≡ Some e → slice_get own k ≡ Some q → IsEquationOf sig ts e q
meant sig ts es own k e q eqs a b = pair_at (IsEquationOf sig ts) es own k e q eqs a b

shaped_so : (sig : Sig) (ts : List Tree) (e : Written) (q : Equation) (b : Bool) → IsEquationOf sig ts e q → Decides b (IsLeftSide (data_meant sig) (term_at sig ts e.left)) → Decides b (IsLeftSide (data_meant sig) q.left)
shaped_so sig ts e q b m d = subst (λ t. Decides b (IsLeftSide (data_meant sig) t)) (sym m.left) d

linear_so : (sig : Sig) (ts : List Tree) (e : Written) (q : Equation) (b : Bool) → IsEquationOf sig ts e q → Decides b (AreDistinct (variables_of (term_at sig ts e.left))) → Decides b (AreDistinct (variables_of q.left))
linear_so sig ts e q b m d = subst (λ t. Decides b (AreDistinct (variables_of t))) (sym m.left) d

pub returns-then-not-shaped : goal.returns-then-not-shaped
returns-then-not-shaped c own eqs before q at =
    let m = meant c.args.sig.now c.args.pool.now.trees c.args.theory.now.equations.items own c.args.number c.index.result.now q eqs (slice_get_read c.args.theory.now.equations.items (length c.args.theory.now.equations.items) c.args.number c.index.result.now refl c.requires.number c.index.ensures) at in
    breaks_shape (data_meant c.args.sig.now) own c.args.number q before at c.in_ok-shaped.shaped (shaped_so c.args.sig.now c.args.pool.now.trees c.index.result.now q c.in_ok-shaped.shaped m c.in_ok-shaped.ensures) c.if-not-shaped.true

pub returns-then-not-linear : goal.returns-then-not-linear
returns-then-not-linear c own eqs before q at =
    let m = meant c.args.sig.now c.args.pool.now.trees c.args.theory.now.equations.items own c.args.number c.index.result.now q eqs (slice_get_read c.args.theory.now.equations.items (length c.args.theory.now.equations.items) c.args.number c.index.result.now refl c.requires.number c.index.ensures) at in
    breaks_repeat (data_meant c.args.sig.now) own c.args.number q before at c.in_ok-shaped.shaped (shaped_so c.args.sig.now c.args.pool.now.trees c.index.result.now q c.in_ok-shaped.shaped m c.in_ok-shaped.ensures)
    (search rules) c.in_ok-linear.linear (linear_so c.args.sig.now c.args.pool.now.trees c.index.result.now q c.in_ok-linear.linear m (c.in_ok-linear.ensures c.args.sig.now)) c.if-not-linear.true

pub returns-then-overlapping : goal.returns-then-overlapping
returns-then-overlapping c own eqs before q at =
    let m = meant c.args.sig.now c.args.pool.now.trees c.args.theory.now.equations.items own c.args.number c.index.result.now q eqs (slice_get_read c.args.theory.now.equations.items (length c.args.theory.now.equations.items) c.args.number c.index.result.now refl c.requires.number c.index.ensures) at in
    breaks_overlap (data_meant c.args.sig.now) own c.args.number q before at c.in_ok-shaped.shaped (shaped_so c.args.sig.now c.args.pool.now.trees c.index.result.now q c.in_ok-shaped.shaped m c.in_ok-shaped.ensures)
    (search rules) c.in_ok-linear.linear (linear_so c.args.sig.now c.args.pool.now.trees c.index.result.now q c.in_ok-linear.linear m (c.in_ok-linear.ensures c.args.sig.now))
    (search rules) c.in_ok-overlapping.overlapping (λ l. c.in_ok-overlapping.ensures own eqs l q at) c.if-overlapping.true

pub returns-then-around : goal.returns-then-around
returns-then-around c own eqs before q at =
    let m = meant c.args.sig.now c.args.pool.now.trees c.args.theory.now.equations.items own c.args.number c.index.result.now q eqs (slice_get_read c.args.theory.now.equations.items (length c.args.theory.now.equations.items) c.args.number c.index.result.now refl c.requires.number c.index.ensures) at in
    breaks_recursion (data_meant c.args.sig.now) own c.args.number q before at c.in_ok-shaped.shaped (shaped_so c.args.sig.now c.args.pool.now.trees c.index.result.now q c.in_ok-shaped.shaped m c.in_ok-shaped.ensures)
    (search rules) c.in_ok-linear.linear (linear_so c.args.sig.now c.args.pool.now.trees c.index.result.now q c.in_ok-linear.linear m (c.in_ok-linear.ensures c.args.sig.now))
    (search rules) c.in_ok-overlapping.overlapping (λ l. c.in_ok-overlapping.ensures own eqs l q at)
    c.if-overlapping.false c.in_ok-around.around (c.in_ok-around.ensures own eqs q at ((shaped_so c.args.sig.now c.args.pool.now.trees c.index.result.now q c.in_ok-shaped.shaped m c.in_ok-shaped.ensures).0 c.if-not-shaped.false)) c.if-around.true

pub returns : goal.returns
returns c own eqs before q at =
    let m = meant c.args.sig.now c.args.pool.now.trees c.args.theory.now.equations.items own c.args.number c.index.result.now q eqs (slice_get_read c.args.theory.now.equations.items (length c.args.theory.now.equations.items) c.args.number c.index.result.now refl c.requires.number c.index.ensures) at in
    keeps_all (data_meant c.args.sig.now) own c.args.number q before at c.in_ok-shaped.shaped (shaped_so c.args.sig.now c.args.pool.now.trees c.index.result.now q c.in_ok-shaped.shaped m c.in_ok-shaped.ensures)
    (search rules) c.in_ok-linear.linear (linear_so c.args.sig.now c.args.pool.now.trees c.index.result.now q c.in_ok-linear.linear m (c.in_ok-linear.ensures c.args.sig.now))
    (search rules) c.in_ok-overlapping.overlapping (λ l. c.in_ok-overlapping.ensures own eqs l q at)
    c.if-overlapping.false c.in_ok-around.around (c.in_ok-around.ensures own eqs q at ((shaped_so c.args.sig.now c.args.pool.now.trees c.index.result.now q c.in_ok-shaped.shaped m c.in_ok-shaped.ensures).0 c.if-not-shaped.false)) c.if-around.false
