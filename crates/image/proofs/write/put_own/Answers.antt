use Rattle.image.specs.Layout.{image_size, own_at, life_at, flag_at, vote_at, counts_at}
use Rattle.records.specs.Layout.{announcement_size, door_count}
use native.Mathlib.Omega.{arith}
use mathlib.Core.Bool.{cond}
use mathlib.Core.List.{[], ◌∷◌}
use mathlib.Core.Path.{◌≡◌, refl, sym, ap, ◌∙◌}
use lib.ListN.{length}
use Rattle.binary.proofs.Number.{number-length}
use Rattle.binary.proofs.Rows.{rows-size}
use Rattle.binary.proofs.Splices.{first-put, next-put, all-put, lefts-rights}
use Rattle.binary.specs.Codec.{byte, encode_rows}
use Rattle.binary.specs.Number.{to_bytes}
use Rattle.binary.specs.Splice.{splice}
use Rattle.records.proofs.Bits.{flag-number}
use Rattle.image.proofs.OwnParts.{bytes-written}
use borrow.Author.Rules.{rules}
use Rattle.image.proofs.write.put_own.Goals.{Start}
use Rattle.image.proofs.write.put_own.Goals as goal

-- The vote is 24 bytes.
vote-size : (c : Start) → length c.args.own.vote ≡ announcement_size
vote-size c = search rules

-- There are four counts.
doors : (c : Start) → length c.args.counts.misses ≡ door_count
doors c = search rules

pub returns : goal.returns
returns c =
    let o = c.args.own in
    let k = c.args.counts.misses in
    let d = c.args.out.now in
    let y = vote-size (goal.at.returns c).Start in
    let n = doors (goal.at.returns c).Start in
    let e = c.put_bytes.ensures.out_after ∙ ap (splice _ vote_at) (sym (bytes-written o.vote)) in
    let g = c.put_bytes-2.ensures.out_after ∙ ap (splice _ counts_at) (sym (bytes-written k)) in
    let w₁ = first-put d _ _ own_at 1 c.put_u8.ensures refl in
    let w₂ = next-put d _ _ _ _ own_at life_at 4 w₁ c.put_u32.ensures (number-length 4 _) (omega arith) in
    let w₃ = next-put d _ _ _ _ own_at flag_at 1 w₂ c.put_u8-2.ensures refl (omega arith) in
    let w₄ = next-put d _ _ _ _ own_at vote_at announcement_size w₃ e (rows-size byte (λ x. refl) announcement_size o.vote y) (omega arith) in
    let w₅ = next-put d _ _ _ _ own_at counts_at door_count w₄ g (rows-size byte (λ x. refl) door_count k n) (omega arith) in
    let fields = to_bytes 4 o.life ∷ (cond o.voted 1 0 ∷ []) ∷ encode_rows byte o.vote ∷ encode_rows byte k ∷ [] in
    all-put d _ _ _ own_at image_size w₅ (rw (c.from.ensures, flag-number o.voted) (lefts-rights (o.seat ∷ []) fields))
