-- "A day is a 32-bit count from 1970-01-01; a cycle is a 32-bit count of performed actions plus 1. Days and cycles are never added to or compared
-- with each other." So each is a type with its own comparison and its own difference.
use Rattle.std.specs.Prelude.{ℕ, ◌+◌, ◌-◌, ◌≤◌, ◌<◌, Bool, cond, eqb, ltb}
use Rattle.state.specs.declared.Day.{Day}
use Rattle.state.specs.declared.Cycle.{Cycle}

-- ---- days

abbrev pub day : ℕ → Day
day n = record { 0 = n }

abbrev pub is_before_day : Day → Day → Bool
is_before_day a b = ltb a.0 b.0

abbrev pub is_same_day : Day → Day → Bool
is_same_day a b = eqb a.0 b.0

-- the days from b up to a, 0 where b is later
abbrev pub days_since : Day → Day → ℕ
days_since a b = a.0 - b.0

abbrev pub later_day : Day → Day → Day
later_day a b = cond (is_before_day a b) b a

-- for claims: day a is before day b, or is not after it
abbrev pub DayBefore : Day → Day → Type 0
DayBefore a b = a.0 < b.0

abbrev pub DayNotAfter : Day → Day → Type 0
DayNotAfter a b = a.0 ≤ b.0

-- ---- cycles

abbrev pub cycle : ℕ → Cycle
cycle n = record { 0 = n }

abbrev pub is_before_cycle : Cycle → Cycle → Bool
is_before_cycle a b = ltb a.0 b.0

abbrev pub is_same_cycle : Cycle → Cycle → Bool
is_same_cycle a b = eqb a.0 b.0

-- the cycles from b up to a, 0 where b is later
abbrev pub cycles_since : Cycle → Cycle → ℕ
cycles_since a b = a.0 - b.0

abbrev pub last_cycle : Cycle
last_cycle = cycle 4294967295

-- the last cycle has none after it
abbrev pub next_cycle : Cycle → Cycle
next_cycle c = cond (is_before_cycle c last_cycle) (cycle (c.0 + 1)) c

-- for claims: cycle a is before cycle b
abbrev pub CycleBefore : Cycle → Cycle → Type 0
CycleBefore a b = a.0 < b.0
