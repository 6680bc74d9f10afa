-- What the quorum and a difference of days tell.
use Rattle.std.specs.Prelude.{◌≡◌, true, false, ℕ, ◌+◌, ◌*◌, ◌≤◌}
use Rattle.state.specs.declared.Day.{Day}
use Rattle.state.specs.Time.{is_before_day, days_since}
use Rattle.state.specs.Seats.{quorum}

-- Two quorums of p present seats have 1+2m seats more than there are, and none has fewer than k.
abbrev pub QuorumsExceed : Type 0
QuorumsExceed = (p m k : ℕ) → (p + (1 + 2 * m) ≤ quorum p m k + quorum p m k) × (k ≤ quorum p m k)

-- "Subtracting a day that went back": there are no days since a later one, and else the two days differ by them.
abbrev pub DaysNeverBack : Type 0
DaysNeverBack = (a b : Day) → (is_before_day a b ≡ true → days_since a b ≡ 0) × (is_before_day a b ≡ false → b.0 + days_since a b ≡ a.0)
