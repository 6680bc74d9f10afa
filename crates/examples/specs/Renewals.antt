-- The shares of the key in PartialKeys, renewed: the sum, merges of new shares, and of an old one with a new one.
use Rattle.std.specs.Prelude.{◌≡◌, List, [], ◌∷◌, ◌++◌, map, ℕ, replicate, Ok, Err}
use Rattle.gf256.specs.Field.{add}
use Rattle.refusals.specs.declared.Refusal.TheVariants.{TooShort}
use Rattle.shares.specs.Calls.{split_of, merge_of, add_of}
use Rattle.shares.specs.Renewal.{zero_key}
use Rattle.examples.specs.PartialKeys.{key, share1, share2, share3, room}

-- each byte's coefficient is 0x83, whose products with 2 and 3 are 0x1D and 0x9E
abbrev pub zero_shares : List ℕ
zero_shares = replicate 32 0x83 ++ (replicate 32 0x1D ++ replicate 32 0x9E)

-- 0xD4 is the sum of 0x57 and 0x83, and so on
abbrev pub new1 : List ℕ
new1 = map (add 0xD4) key

abbrev pub new2 : List ℕ
new2 = map (add 0xB3) key

abbrev pub new3 : List ℕ
new3 = map (add 0x67) key

pub record RenewalExamples : Type 0 where
  pub zeros : split_of zero_key 2 3 (replicate 32 0x83) (replicate 96 0) ≡ record { answer = Ok 3; slice = zero_shares }
  -- a byte more than the sum takes, which stays
  pub renewed : add_of (share1 ++ (share2 ++ share3)) zero_shares (replicate 97 9)
      ≡ record { answer = Ok 96; slice = new1 ++ (new2 ++ (new3 ++ (9 ∷ []))) }
  pub merged : merge_of 2 3 (3 ∷ 1 ∷ []) (new3 ++ new1) room ≡ record { answer = Ok tt; slice = key }
  -- old and new shares don't mix: an old share with a new one gives another key, in every byte
  pub old-with-new : merge_of 2 3 (3 ∷ 1 ∷ []) (share3 ++ new1) room ≡ record { answer = Ok tt; slice = map (add 0x4F) key }
  -- any length: no multiple of 32, and none at all
  pub one_byte : add_of (1 ∷ []) (3 ∷ 9 ∷ []) (0 ∷ 7 ∷ []) ≡ record { answer = Ok 1; slice = 2 ∷ 7 ∷ [] }
  pub no_byte : add_of [] (3 ∷ []) (7 ∷ []) ≡ record { answer = Ok 0; slice = 7 ∷ [] }
  -- 28: the second run, the slice for the sum
  pub too_short : ((add_of share1 (replicate 31 0) room).answer ∷ (add_of share1 share2 (replicate 31 0)).answer ∷ []) ≡ replicate 2 (Err TooShort)
