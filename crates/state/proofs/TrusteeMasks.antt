-- One turn of the loop that counts the ones of a mask, and its end.
use mathlib.Core.Path.{◌≡◌, refl}
use Prim.Native.Nat.{ℕ, suc, ◌+◌, ◌-◌, ◌<◌, ◌/◌, ◌%◌}
use native.Mathlib.Omega.{arith}
use Rattle.state.specs.Trustees.{ones_below}

pub ones-turn : (n k mask : ℕ) → k < n → ones_below (n - k) mask ≡ mask % 2 + ones_below (n - (k + 1)) (mask / 2)
unfolding ones_below
ones-turn n k mask h = let e : n - k ≡ suc (n - (k + 1)) = omega arith in rw e refl

pub ones-end : (mask : ℕ) → ones_below 0 mask ≡ 0
unfolding ones_below
ones-end mask = refl
