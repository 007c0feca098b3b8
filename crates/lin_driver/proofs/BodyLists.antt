-- What holds of each operand holds of what is written with all of them, and the other way round.
use Rattle.std.proofs.Common.{List, [], ◌∷◌}
use Rattle.std.specs.List.{AllByRecursion}
use Rattle.process_terms.specs.Processes.{Body, sync, written_delta, written_merge, written_starting, chain_of, merged_with, merge_of, synced_with, sync_of}

module _ (Q : Body → Type 0) where
  pub chain_holds : (op : Body → Body → Body) → Q written_delta → ((p q : Body) → Q p → Q q → Q (op p q)) → (bs : List Body) → AllByRecursion Q bs → Q (chain_of op bs)
  chain_holds op none both [] h = none
  chain_holds op none both (b ∷ []) h = h.0
  chain_holds op none both (b ∷ c ∷ bs) h = both b (chain_of op (c ∷ bs)) h.0 (chain_holds op none both (c ∷ bs) h.1)

  pub chain_parts : (op : Body → Body → Body) → ((p q : Body) → Q (op p q) → Q p × Q q) → (bs : List Body) → Q (chain_of op bs) → AllByRecursion Q bs
  chain_parts op each [] h = tt
  chain_parts op each (b ∷ []) h = (h, tt)
  chain_parts op each (b ∷ c ∷ bs) h = let r = each b (chain_of op (c ∷ bs)) h in (r.0, chain_parts op each (c ∷ bs) r.1)

  merged_holds : ((p q : Body) → Q p → Q q → Q (written_merge p q)) → (b : Body) (bs : List Body) → Q b → AllByRecursion Q bs → Q (merged_with b bs)
  merged_holds both b [] one h = one
  merged_holds both b (c ∷ bs) one h = merged_holds both (written_merge b c) bs (both b c one h.0) h.1

  pub merge_holds : Q written_delta → ((p q : Body) → Q p → Q q → Q (written_merge p q)) → (bs : List Body) → AllByRecursion Q bs → Q (merge_of bs)
  merge_holds none both [] h = none
  merge_holds none both (b ∷ bs) h = merged_holds both b bs h.0 h.1

  merged_parts : ((p q : Body) → Q (written_merge p q) → Q p × Q q) → (b : Body) (bs : List Body) → Q (merged_with b bs) → Q b × AllByRecursion Q bs
  merged_parts each b [] h = (h, tt)
  merged_parts each b (c ∷ bs) h = let r = merged_parts each (written_merge b c) bs h in let s = each b c r.0 in (s.0, (s.1, r.1))

  pub merge_parts : ((p q : Body) → Q (written_merge p q) → Q p × Q q) → (bs : List Body) → Q (merge_of bs) → AllByRecursion Q bs
  merge_parts each [] h = tt
  merge_parts each (b ∷ bs) h = merged_parts each b bs h

  synced_holds : ((p q : Body) → Q p → Q q → Q (written_starting sync p q)) → (b : Body) (bs : List Body) → Q b → AllByRecursion Q bs → Q (synced_with b bs)
  synced_holds both b [] one h = one
  synced_holds both b (c ∷ bs) one h = synced_holds both (written_starting sync b c) bs (both b c one h.0) h.1

  pub sync_holds : Q written_delta → ((p q : Body) → Q p → Q q → Q (written_starting sync p q)) → (bs : List Body) → AllByRecursion Q bs → Q (sync_of bs)
  sync_holds none both [] h = none
  sync_holds none both (b ∷ bs) h = synced_holds both b bs h.0 h.1

  synced_parts : ((p q : Body) → Q (written_starting sync p q) → Q p × Q q) → (b : Body) (bs : List Body) → Q (synced_with b bs) → Q b × AllByRecursion Q bs
  synced_parts each b [] h = (h, tt)
  synced_parts each b (c ∷ bs) h = let r = synced_parts each (written_starting sync b c) bs h in let s = each b c r.0 in (s.0, (s.1, r.1))

  pub sync_parts : ((p q : Body) → Q (written_starting sync p q) → Q p × Q q) → (bs : List Body) → Q (sync_of bs) → AllByRecursion Q bs
  sync_parts each [] h = tt
  sync_parts each (b ∷ bs) h = synced_parts each b bs h
