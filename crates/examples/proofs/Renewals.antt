-- The examples of renewed shares, computed.
use mathlib.Core.Path.{refl}
use mathlib.Core.List.{◌++◌, map}
use Rattle.lists.specs.Fold.{all}
use Rattle.binary.specs.Number.{overwrite}
use Rattle.gf256.specs.Field.{add, times, remainder, mul}
use Rattle.shares.specs.Polynomial.{eval, sums}
use Rattle.shares.specs.Shares.{tabulate, joined, share_of, shares_of, bytes_of}
use Rattle.shares.specs.Calls.{split_of, add_of}
use Rattle.shares.specs.Code.{weighted_sum, weighed_key}
use Rattle.examples.specs.PartialKeys.{rising, share3, key, room}
use Rattle.examples.specs.Renewals.{new1, new3, RenewalExamples}
use Rattle.examples.proofs.PartialKeys.{merges-to}

pub renewal-examples : RenewalExamples
unfolding all overwrite add times remainder mul eval sums weighted_sum weighed_key tabulate joined share_of shares_of bytes_of split_of add_of rising
renewal-examples = record {
  zeros = refl;
  renewed = refl;
  merged = merges-to (new3 ++ new1) room key refl refl refl;
  old-with-new = merges-to (share3 ++ new1) room (map (add 0x4F) key) refl refl refl;
  one_byte = refl;
  no_byte = refl;
  too_short = refl;
}
