-- Lines: how long a word is.
use Prim.Native.Nat.{◌≤◌}
use native.Mathlib.Omega.{arith}
use lib.ListN.{length, length-append}
use Rattle.decimal.proofs.Stored.{length-decimal}
use Rattle.requests.specs.declared.Answer.{Answer}
use Rattle.requests.specs.declared.Answer.TheVariants.{Started, Voted, Done, Open, No}
use Rattle.requests.specs.Lines.{word_room, word_of}

pub length-word : (a : Answer) → length (word_of a) ≤ word_room
length-word Started = omega arith
length-word Voted = omega arith
length-word Done = omega arith
length-word Open = omega arith
length-word (No k) = rw length-append (omega (arith, length-decimal k))
