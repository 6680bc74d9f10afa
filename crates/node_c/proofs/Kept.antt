-- Calls that keep the state: the image written is the checkpoint's bytes that came with the call, and the own part and the counts handed back.
use Prim.Native.Nat.{ℕ}
use native.Mathlib.Omega.{arith}
use mathlib.Core.Path.{◌≡◌, refl, sym, ap, ◌∙◌}
use mathlib.Core.Logic.{◌≢◌}
use mathlib.Core.Bool.{Bool, true, false, cond, true≢false}
use mathlib.Core.List.{List}
use lib.Dec.{leb}
use lib.ListN.{length}
use borrow.Author.Tests.{ne_eqb, lt-leb}
use Rattle.binary.specs.Number.{overwrite}
use Rattle.checkpoint.specs.Claims.{ReadState}
use Rattle.node.specs.declared.Node.{Node}
use Rattle.node.specs.Reply.{StartReply}
use Rattle.node.specs.StartAnswer.{Started}
use Rattle.node.specs.Answers.{start_number}
use Rattle.node.specs.Start.{start_of}
use Rattle.node.specs.Claims.{Starting, refuses, starts}
use Rattle.node.proofs.Start.{start-comes-to}
use Rattle.node.proofs.Numbers.{start-numbers}
use Rattle.image.specs.Layout.{image_size}
use Rattle.image.specs.Image.{with_own, image_bytes, decode_image, is_image, read_image}
use Rattle.node_c.specs.Calls.{HandedBack, started, try_room, writes_image, return, on_image}
use Rattle.node_c.proofs.Calls.{writes-in-room}

-- the image of a state starts with the bytes that it is read from
state-image : (c : List ℕ) (n : Node) → ReadState c n.state → with_own c n.own n.counts ≡ image_bytes n
unfolding image_bytes
state-image c n r = ap (λ (l : List ℕ). with_own l n.own n.counts) (sym r.written_back)

-- what `hand_on` answers and writes, with the call's bytes c
module _ (r : HandedBack) (c out : List ℕ) (f : writes_image r.number ≡ true → ReadState c r.node.state) where
  same-image : (room t : Bool) → writes_image (try_room room r.number) ≡ t
      → cond t (overwrite (with_own c r.node.own r.node.counts) out) out ≡ cond t (overwrite (image_bytes r.node) out) out
  same-image room true w = ap (λ (l : List ℕ). overwrite l out) (state-image c r.node (f (writes-in-room room r.number w).1))
  same-image room false w = refl

  pub handed-on : (d : List ℕ) (k : ℕ)
      → (k ≡ try_room (leb image_size (length out)) r.number)
      × (d ≡ cond (writes_image k) (overwrite (with_own c r.node.own r.node.counts) out) out)
      → (k ≡ (return r out).number) × (d ≡ (return r out).slice)
  unfolding return
  handed-on d k e = (e.0, e.1 ∙ rw e.0 (same-image (leb image_size (length out)) _ refl))

-- a start that writes an image is accepted
starting-accepted : (cb sb : List ℕ) (r : StartReply) → Starting cb sb r → writes_image (start_number r.answer) ≡ true → r.answer ≡ Started
starting-accepted cb sb r (refuses k y e) w =
    let n = start-numbers y in
    absurd (true≢false (sym w ∙ rw (e, ne_eqb k 0 (λ z. omega arith), ne_eqb k 128 (λ z. omega arith), lt-leb 19 k (omega arith))))
starting-accepted cb sb r (starts x rx rc active above e) w = ap (λ (z : StartReply). z.answer) e

pub start-accepted : (cb sb : List ℕ) → writes_image (start_number (start_of cb sb).answer) ≡ true → (start_of cb sb).answer ≡ Started
start-accepted cb sb w = starting-accepted cb sb (start_of cb sb) (start-comes-to cb sb) w

-- and one that is refused leaves its slice as it was
pub start-leaves : (cb sb out : List ℕ) → start_number (start_of cb sb).answer ≢ 0 → (return (started cb sb) out).slice ≡ out
unfolding return
start-leaves cb sb out n = by (writes_image (try_room room k)) refl
  where
    k : ℕ
    k = start_number (start_of cb sb).answer

    room : Bool
    room = leb image_size (length out)

    by : (t : Bool) → writes_image (try_room room k) ≡ t → cond t (overwrite (image_bytes (start_of cb sb).node) out) out ≡ out
    by true w = absurd (n (ap start_number (start-accepted cb sb (writes-in-room room k w).1)))
    by false w = refl

-- a call on an accepted image is one on the node in its bytes
pub on-image : (f : Node → HandedBack) (image out : List ℕ) → is_image image ≡ true → on_image f image out ≡ return (f (decode_image image)) out
unfolding on_image read_image
on-image f image out e = rw e
