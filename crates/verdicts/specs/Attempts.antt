-- "There is now one miss count, still 0 to 10, for each of doors 0 to 3."
use Rattle.std.specs.Prelude.{ℕ, Bool, leb, get_or, set, replicate}
use Rattle.lists.specs.Fold.{all}
use Rattle.records.specs.Layout.{door_count}
use Rattle.verdicts.specs.declared.AttemptCounts.{AttemptCounts}

abbrev pub most_misses : ℕ
most_misses = 10

-- the misses at a door
abbrev pub misses_at : ℕ → AttemptCounts → ℕ
misses_at door c = get_or c.misses door 0

-- the counts with m misses at a door
abbrev pub with_misses : ℕ → ℕ → AttemptCounts → AttemptCounts
with_misses door m c = record { misses = set c.misses door m }

abbrev pub no_misses : AttemptCounts
no_misses = record { misses = replicate door_count 0 }

-- "a lent count above 10 is rule 1": there is none
unfoldable pub are_in_range : AttemptCounts → Bool
are_in_range c = all (λ m. leb m most_misses) c.misses
