use Rattle.std.proofs.Common.{◌≡◌, ◌∙◌, ℕ, List, [], ◌++◌, ◌<◌, get_or, replicate, arith}
use Rattle.std.proofs.lemmas.List.{get_or-replicate, get_or_append_left}
use Rattle.findings.proofs.trees.leaves.Goals as goal

-- the inner nodes, before anything is settled
abbrev inner : List ℕ
inner = replicate 32 0

-- whatever stands at the leaves, the inner nodes stand at 0
zero : (outer : List ℕ) (k : ℕ) → k < 32 → get_or (inner ++ outer) k 0 ≡ 0
zero outer k small = get_or_append_left inner outer 0 k small ∙ get_or-replicate 32 k 0 0 small

pub loop-place-init : goal.loop-place-init
loop-place-init c =
    record { zero = zero (c.fill.new.self ++ []); leaves = λ k none. absurd (omega arith) }
