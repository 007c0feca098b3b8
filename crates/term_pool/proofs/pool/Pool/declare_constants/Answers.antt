use Rattle.std.proofs.Common.{◌≡◌, ◌&&◌, ◌+◌, true, false, ap, sym, ◌∙◌, subst, arith, length}
use Rattle.data_theory.specs.declared.ids.SortId.{SortId}
use Rattle.data_theory.specs.Signature.{Sig}
use Rattle.term_pool.specs.Pools.{PoolContents}
use Rattle.term_pool.specs.Constants.{AreConstants, KeepsConstants}
use Rattle.term_pool.specs.FirstTerms.{lacks_constant}
use Rattle.term_pool.proofs.SortSearch.{is_among}
use Rattle.term_pool.proofs.DeclaredConstants.{IsDeclaring, none_declared, lacks_is, none_more, one_more, constants_stay, constants_behind, grown_after, declared_so_far}
use Rattle.term_pool.proofs.pool.Pool.declare_constants.Goals as goal
use Rattle.term_pool.proofs.pool.Pool.declare_constants.Goals.{then-contains+then-lacks_constant+in_ok-declare_constant, else-contains, else-contains-via-then-contains+else-lacks_constant, else-contains-via-else-contains}

pub loop-number-init : goal.loop-number-init
loop-number-init c = none_declared c.args.sig.now c.args.self.now c.args.sorts.now.keys c.requires

pub lacks_constant-requires : goal.lacks_constant-requires
lacks_constant-requires c = omega (arith, c.loop-number-test.true, c.next_sort-number-end.ensures.number, ap length c.loop-number.invariant.same)

pub declare_constant-requires : goal.declare_constant-requires
declare_constant-requires c =
    let parts = lacks_is c.loop-number.sig.sorts c.loop-number.self.constants (record { 0 = c.loop-number.number }) (sym c.lacks_constant.ensures ∙ c.if-lacks_constant.true) in
    record { bare = parts.0; absent = parts.1 }

pub returns-in_err-declare_constant-clause-constants : goal.returns-in_err-declare_constant-clause-constants
returns-in_err-declare_constant-clause-constants c =
    subst (λ (t : PoolContents). AreConstants c.declare_constant.new.sig t.constants) (sym c.in_err-declare_constant.ensures.unchanged) (constants_stay c.loop-number.sig c.declare_constant.new.sig c.loop-number.self.constants c.declare_constant.ensures.grown c.loop-number.invariant.constants)

pub returns-in_err-declare_constant-clause-trees : goal.returns-in_err-declare_constant-clause-trees
returns-in_err-declare_constant-clause-trees c = c.declare_constant.ensures.trees ∙ c.loop-number.invariant.trees

pub returns-in_err-declare_constant-clause-kept : goal.returns-in_err-declare_constant-clause-kept
returns-in_err-declare_constant-clause-kept c =
    subst (λ (t : PoolContents). KeepsConstants c.args.self.now.constants t.constants) (sym c.in_err-declare_constant.ensures.unchanged) (constants_behind _ c.args.sig.now c.args.self.now.constants c.loop-number.sig c.loop-number.self.constants c.loop-number.invariant.run)

pub returns-in_err-declare_constant-clause-grown : goal.returns-in_err-declare_constant-clause-grown
returns-in_err-declare_constant-clause-grown c = grown_after c.args.sig.now c.loop-number.sig c.declare_constant.new.sig c.loop-number.invariant.grown c.declare_constant.ensures.grown

pub loop-number-preserved : goal.loop-number-preserved
loop-number-preserved c =
    let this : SortId = record { 0 = c.loop-number.number } in
    let before = c.loop-number.invariant in
    elim c.if-contains.branch [
      | then-contains+then-lacks_constant+in_ok-declare_constant w ↦
          let next = one_more c.args.sig.now c.args.self.now c.args.sorts.now.keys c.loop-number.number c.loop-number.sig c.loop-number.self before (sym c.contains.ensures ∙ w.if-contains.true) (sym w.lacks_constant.ensures ∙ w.if-lacks_constant.true)
          w.declare_constant.new.sig w.declare_constant.new.self w.in_ok-declare_constant.ensures.declared w.declare_constant.ensures.trees in
          subst (λ (s : Sig). IsDeclaring c.args.sig.now c.args.self.now c.args.sorts.now.keys (c.loop-number.number + 1) s c.if-contains.self) (sym w.sig-is) (subst (λ (t : PoolContents). IsDeclaring c.args.sig.now c.args.self.now c.args.sorts.now.keys (c.loop-number.number + 1) w.declare_constant.new.sig t) (sym w.self-is) next)
      | else-contains w ↦
          let off : (is_among this c.args.sorts.now.keys && lacks_constant c.loop-number.sig.sorts c.loop-number.self.constants this) ≡ false =
          elim w.else-contains.branch [
            | else-contains-via-then-contains+else-lacks_constant w' ↦
                let among : is_among this c.args.sorts.now.keys ≡ true = sym c.contains.ensures ∙ w'.if-contains.true in
                let lacks : lacks_constant c.loop-number.sig.sorts c.loop-number.self.constants this ≡ false = sym w'.lacks_constant.ensures ∙ w'.if-lacks_constant.false in
                λ k. among k && lacks k
            | else-contains-via-else-contains w' ↦
                let among : is_among this c.args.sorts.now.keys ≡ false = sym c.contains.ensures ∙ w'.if-contains.false in
                ap (λ b. b && lacks_constant c.loop-number.sig.sorts c.loop-number.self.constants this) among
          ] in
          let next = none_more c.args.sig.now c.args.self.now c.args.sorts.now.keys c.loop-number.number c.loop-number.sig c.loop-number.self before off in
          subst (λ (s : Sig). IsDeclaring c.args.sig.now c.args.self.now c.args.sorts.now.keys (c.loop-number.number + 1) s c.if-contains.self) (sym w.sig-is) (subst (λ (t : PoolContents). IsDeclaring c.args.sig.now c.args.self.now c.args.sorts.now.keys (c.loop-number.number + 1) c.loop-number.sig t) (sym w.self-is) next)
    ]

pub returns : goal.returns
returns c =
    let last = declared_so_far c.args.sig.now c.args.self.now c.args.sorts.now.keys c.loop-number.number c.loop-number.sig c.loop-number.self c.loop-number.invariant (omega (arith, c.loop-number-test.false, c.loop-number.auto.number-end, c.next_sort-number-end.ensures.number)) in
    record { declared = last; constants = c.loop-number.invariant.constants; kept = constants_behind _ c.args.sig.now c.args.self.now.constants c.loop-number.sig c.loop-number.self.constants c.loop-number.invariant.run; trees = c.loop-number.invariant.trees; grown = c.loop-number.invariant.grown }
