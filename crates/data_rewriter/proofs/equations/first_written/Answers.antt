use Rattle.std.proofs.Common.{◌<◌, List, length, sym, subst, rules}
use Rattle.std.specs.List.{All}
use Rattle.std.proofs.lemmas.Option.{slice_get_within}
use Rattle.data_theory.specs.declared.ids.VarId.{VarId}
use Rattle.data_theory.specs.declared.ids.TermId.{TermId}
use Rattle.data_theory.specs.Terms.{put}
use Rattle.term_pool.specs.HeadTrees.{IsIn, AreIn}
use Rattle.term_pool.specs.Bindings.{listed_terms}
use Rattle.data_rewriter.specs.declared.tables.Rule.{Rule}
use Rattle.data_rewriter.specs.Standing.{IsTerm, StandsFor, term_at}
use Rattle.data_rewriter.specs.FirstLines.{IsConditionMade}
use Rattle.data_rewriter.specs.Written.{IsRule}
use Rattle.data_rewriter.specs.FirstRules.{put_by, IsMatched, IsFirstRule}
use Rattle.data_rewriter.proofs.StateMoves.{at_rule}
use Rattle.data_rewriter.proofs.WrittenRules.{none_written, found_written, has_head, read_rule, listed_in}
use Rattle.data_rewriter.proofs.equations.first_written.Goals as goal

pub returns-in_default-2-clause-first : goal.returns-in_default-2-clause-first
returns-in_default-2-clause-first c = λ sig own all root none.
    let head = has_head c.args.pool.now.trees c.args.root c.in-Fun.fun c.node.result.now.head c.node.result.now.args.items c.in-Fun.is c.node.ensures.tree in
    let misses = subst (IsFirstRule sig c.args.pool.now.trees c.args.tables.now.rules.items c.args.root c.saturating_sub-first.result) c.in_default-2.is (c.in_ok-matched.ensures sig own all root head) in
    (none_written c.args.tables.now sig own c.args.pool.now.trees all c.args.root c.args.from c.saturating_sub-first.result c.saturating_sub-first.ensures c.requires.start none misses, tt)

pub index-rule-requires : goal.index-rule-requires
index-rule-requires c =
    let k = c.requires.known in
    let at = c.in_ok-matched.ensures k.0 k.1 k.2 k.3 (has_head c.args.pool.now.trees c.args.root c.in-Fun.fun c.node.result.now.head c.node.result.now.args.items c.in-Fun.is c.node.ensures.tree) in
    let h : IsMatched k.0 c.args.pool.now.trees c.args.tables.now.rules.items c.args.root c.saturating_sub-first.result c.in-Some.matched = subst (IsFirstRule k.0 c.args.pool.now.trees c.args.tables.now.rules.items c.args.root c.saturating_sub-first.result) c.in-Some.is at in
    let less : c.in-Some.matched.number < length c.args.tables.now.rules.items = slice_get_within c.args.tables.now.rules.items c.in-Some.matched.number h.rule h.there in
    search (rules, less)

pub instance-requires-clause-cond : goal.instance-requires-clause-cond
instance-requires-clause-cond c =
    let k = c.requires.known in
    let at = c.in_ok-matched.ensures k.0 k.1 k.2 k.3 (has_head c.args.pool.now.trees c.args.root c.in-Fun.fun c.node.result.now.head c.node.result.now.args.items c.in-Fun.is c.node.ensures.tree) in
    let h : IsMatched k.0 c.args.pool.now.trees c.args.tables.now.rules.items c.args.root c.saturating_sub-first.result c.in-Some.matched = subst (IsFirstRule k.0 c.args.pool.now.trees c.args.tables.now.rules.items c.args.root c.saturating_sub-first.result) c.in-Some.is at in
    let rule = at_rule k.0 c.args.pool.now.trees c.args.tables.now.rules.items c.in-Some.matched.number h.rule k.2.rules h.there in
    let same = read_rule c.args.tables.now.rules.items c.in-Some.matched.number h.rule c.index-rule.result.now h.there c.index-rule.ensures in
    subst (λ (r : Rule). IsIn c.args.pool.now.trees r.cond) (sym same) rule.condition.inside

pub instance-requires-clause-right : goal.instance-requires-clause-right
instance-requires-clause-right c =
    let k = c.requires.known in
    let at = c.in_ok-matched.ensures k.0 k.1 k.2 k.3 (has_head c.args.pool.now.trees c.args.root c.in-Fun.fun c.node.result.now.head c.node.result.now.args.items c.in-Fun.is c.node.ensures.tree) in
    let h : IsMatched k.0 c.args.pool.now.trees c.args.tables.now.rules.items c.args.root c.saturating_sub-first.result c.in-Some.matched = subst (IsFirstRule k.0 c.args.pool.now.trees c.args.tables.now.rules.items c.args.root c.saturating_sub-first.result) c.in-Some.is at in
    let rule = at_rule k.0 c.args.pool.now.trees c.args.tables.now.rules.items c.in-Some.matched.number h.rule k.2.rules h.there in
    let same = read_rule c.args.tables.now.rules.items c.in-Some.matched.number h.rule c.index-rule.result.now h.there c.index-rule.ensures in
    subst (λ (r : Rule). IsIn c.args.pool.now.trees r.right) (sym same) rule.right.inside

pub instance-requires-clause-terms : goal.instance-requires-clause-terms
instance-requires-clause-terms c =
    let k = c.requires.known in
    let at = c.in_ok-matched.ensures k.0 k.1 k.2 k.3 (has_head c.args.pool.now.trees c.args.root c.in-Fun.fun c.node.result.now.head c.node.result.now.args.items c.in-Fun.is c.node.ensures.tree) in
    let h : IsMatched k.0 c.args.pool.now.trees c.args.tables.now.rules.items c.args.root c.saturating_sub-first.result c.in-Some.matched = subst (IsFirstRule k.0 c.args.pool.now.trees c.args.tables.now.rules.items c.args.root c.saturating_sub-first.result) c.in-Some.is at in
    subst (λ (l : List (VarId × TermId)). AreIn c.args.pool.now.trees (listed_terms l)) (sym c.as_slice.ensures.value) (listed_in k.0 c.args.pool.now.trees c.in-Some.matched.found.items h.state.2)

pub returns-clause-first : goal.returns-clause-first
returns-clause-first c = λ sig own all root none.
    let head = has_head c.args.pool.now.trees c.args.root c.in-Fun.fun c.node.result.now.head c.node.result.now.args.items c.in-Fun.is c.node.ensures.tree in
    let h : IsMatched sig c.args.pool.now.trees c.args.tables.now.rules.items c.args.root c.saturating_sub-first.result c.in-Some.matched = subst (IsFirstRule sig c.args.pool.now.trees c.args.tables.now.rules.items c.args.root c.saturating_sub-first.result) c.in-Some.is (c.in_ok-matched.ensures sig own all root head) in
    let rule = at_rule sig c.args.pool.now.trees c.args.tables.now.rules.items c.in-Some.matched.number h.rule all.rules h.there in
    let same = read_rule c.args.tables.now.rules.items c.in-Some.matched.number h.rule c.index-rule.result.now h.there c.index-rule.ensures in
    let found : All (λ (p : VarId × TermId). IsTerm sig c.args.pool.now.trees p.1) c.as_slice.result.now = subst (All (λ (p : VarId × TermId). IsTerm sig c.args.pool.now.trees p.1)) (sym c.as_slice.ensures.value) h.state.2 in
    let made = c.in_ok-found.ensures.made sig own all (subst (IsRule sig c.args.pool.now.trees) (sym same) rule) found in
    let made' = subst (λ (l : List (VarId × TermId)). StandsFor sig c.instance.new.pool.trees c.in_ok-found.found.right (put (put_by sig c.args.pool.now.trees l) (term_at sig c.args.pool.now.trees c.index-rule.result.now.right)) × IsConditionMade sig c.instance.new.pool.trees c.in_ok-found.found.cond (put (put_by sig c.args.pool.now.trees l) (term_at sig c.args.pool.now.trees c.index-rule.result.now.cond))) c.as_slice.ensures.value made in
    let made'' = subst (λ (r : Rule). StandsFor sig c.instance.new.pool.trees c.in_ok-found.found.right (put (put_by sig c.args.pool.now.trees c.in-Some.matched.found.items) (term_at sig c.args.pool.now.trees r.right)) × IsConditionMade sig c.instance.new.pool.trees c.in_ok-found.found.cond (put (put_by sig c.args.pool.now.trees c.in-Some.matched.found.items) (term_at sig c.args.pool.now.trees r.cond))) same made' in
    found_written c.args.tables.now sig own c.args.pool.now.trees all c.args.root c.args.from c.saturating_sub-first.result c.saturating_sub-first.ensures c.requires.start none c.instance.new.pool.trees c.in_ok-found.ensures.kept root c.in-Some.matched h c.in_ok-found.found c.in_ok-found.ensures.number made''
