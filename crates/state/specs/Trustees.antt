-- "numbers of level-1 and level-2 trustees (1 to 8 each)"; "more than half of level 2, the others more than half of level 1"
use Rattle.std.specs.Prelude.{ℕ, zero, suc, ◌+◌, ◌*◌, ◌/◌, ◌%◌, Bool, ltb}

-- "Trustee i is bit i, lowest bit 0; bits beyond the trustees don't count.": the ones among the lowest n bits of the mask
unfoldable pub ones_below : ℕ → ℕ → ℕ
ones_below zero mask = 0
ones_below (suc n) mask = mask % 2 + ones_below n (mask / 2)

-- more than half of n trustees are on the mask
unfoldable pub is_majority : ℕ → ℕ → Bool
is_majority n mask = ltb n (2 * ones_below n mask)
