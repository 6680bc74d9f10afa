-- The numbers that each call's refusals have.
use mathlib.Core.List.{List}
use Prim.Native.Nat.{ℕ, ◌≤◌}
use native.Mathlib.Omega.{arith}
use Rattle.node.specs.declared.Node.{Node}
use Rattle.node.specs.Claims.{DeliverRefused, announcement-malformed, sheet-malformed, rule, may-not-vote, voted-otherwise}
use Rattle.node.specs.Claims.{QueryRefused, malformed, count-above, halted, locked, silent, unlisted, ended, right-not-held}
use Rattle.node.specs.Claims.{StartRefused, start-malformed, checkpoint-malformed, seat-unfit, life-below}

pub deliver-numbers : {n : Node} {ab sb : List ℕ} {k : ℕ} → DeliverRefused n ab sb k → (1 ≤ k) × (k ≤ 16)
deliver-numbers (announcement-malformed e r) = omega arith
deliver-numbers (sheet-malformed a e ra r) = omega arith
deliver-numbers (rule a ra rs lo hi e) = omega arith
deliver-numbers (may-not-vote a e acc few m) = omega arith
deliver-numbers (voted-otherwise a e acc few v o) = omega arith

pub query-numbers : {n : Node} {qb : List ℕ} {k : ℕ} → QueryRefused n qb k → (1 ≤ k) × (k ≤ 21)
query-numbers (malformed e r) = omega arith
query-numbers (count-above door e r) = omega arith
query-numbers (halted q e rq r) = omega arith
query-numbers (locked q e rq r) = omega arith
query-numbers (silent q e rq r) = omega arith
query-numbers (unlisted q e rq r) = omega arith
query-numbers (ended q e rq l r) = omega arith
query-numbers (right-not-held q e rq l r) = omega arith

pub start-numbers : {cb sb : List ℕ} {k : ℕ} → StartRefused cb sb k → (1 ≤ k) × (k ≤ 14)
start-numbers (start-malformed e r) = omega arith
start-numbers (checkpoint-malformed e r) = omega arith
start-numbers (seat-unfit x e rx rc r) = omega arith
start-numbers (life-below x e rx rc r) = omega arith
