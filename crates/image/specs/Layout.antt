-- "Image for C, 1,139 bytes: checkpoint; seat 1, life 4 .., voted flag 1 .., voted announcement 24 .., misses 1."; "The image grows by 3 bytes at its
-- end, the counts of doors 1 to 3"; "The image grows by the same two bytes" (02, A7): where each field of the own part and the counts lie.
use Rattle.std.specs.Prelude.{ℕ, ◌+◌}
use Rattle.records.specs.Layout.{announcement_size}
use Rattle.checkpoint.specs.Layout.{checkpoint_size}

abbrev pub image_size : ℕ
image_size = 1144

abbrev pub own_at : ℕ
own_at = checkpoint_size

abbrev pub life_at : ℕ
life_at = own_at + 1

abbrev pub flag_at : ℕ
flag_at = life_at + 4

abbrev pub vote_at : ℕ
vote_at = flag_at + 1

abbrev pub counts_at : ℕ
counts_at = vote_at + announcement_size
