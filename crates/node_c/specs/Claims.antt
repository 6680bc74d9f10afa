-- What a call for C returns.
use Rattle.std.specs.Prelude.{◌≡◌, ◌≢◌, ◌⊎◌, true, false, List, ◌++◌, ℕ, ◌*◌, ◌≤◌, ◌<◌, length, take}
use Rattle.binary.specs.Number.{Bytes, overwrite}
use Rattle.state.specs.declared.State.{State}
use Rattle.state.specs.Time.{day}
use Rattle.page.specs.Layout.{line_size}
use Rattle.page.specs.Page.{line_count, page_text}
use Rattle.shares.specs.Polynomial.{sums}
use Rattle.shares.specs.Shares.{key_size}
use Rattle.shares.specs.Claims.{AreNumbers, chosen}
use Rattle.shares.specs.Renewal.{front, zero_key}
use Rattle.node.specs.declared.Node.{Node}
use Rattle.image.specs.Layout.{image_size}
use Rattle.image.specs.Image.{image_bytes, is_image, read_image}
use Rattle.node_c.specs.Calls.{HandedBack, Returned, return, on_image, node_page, node_shares_split, node_shares_merge, node_shares_add}

-- the numbers with which an image is written: started, performed or open; voted; a miss
abbrev pub Writes : ℕ → Type 0
Writes k = (k ≡ 0) ⊎ ((k ≡ 128) ⊎ ((19 ≤ k) × (k ≤ 21)))

-- A call by value handed back r. The call for C over it writes the image of that node in front of the slice's tail, or leaves the slice as it was.
pub data Returning (r : HandedBack) (out : List ℕ) (x : Returned) : Type 0 where
  no_room : length out < image_size → r.number ≢ 1 → r.number ≢ 2 → x ≡ record { number = 22; slice = out } → Returning r out x
  writes : image_size ≤ length out → Writes r.number → x ≡ record { number = r.number; slice = overwrite (image_bytes r.node) out }
      → Returning r out x
  leaves : ¬ Writes r.number → (r.number ≡ 1) ⊎ ((r.number ≡ 2) ⊎ (image_size ≤ length out)) → x ≡ record { number = r.number; slice = out }
      → Returning r out x

abbrev pub CallsReturn : Type 0
CallsReturn = (r : HandedBack) (out : List ℕ) → Returning r out (return r out)

-- A call on an image returns what the same call on its node does, and 1 where the image is malformed.
abbrev pub CallsOnImages : Type 0
CallsOnImages = (f : Node → HandedBack) (image out : List ℕ)
    → (is_image image ≡ true → on_image f image out ≡ return (f (read_image image).node) out)
    × (is_image image ≡ false → on_image f image out ≡ record { number = 1; slice = out })

-- the state in an image's bytes
abbrev pub state_in : List ℕ → State
state_in image = (read_image image).node.state

-- node_page returns 1 for a malformed image and 23 for a slice that is too short, and leaves the slice as it was; else the number of lines above the
-- low 8 bits, and the page of the given day d in front of the slice's tail.
pub data PageReturning (image : List ℕ) (d : ℕ) (out : List ℕ) (x : Returned) : Type 0 where
  malformed : is_image image ≡ false → x ≡ record { number = 1; slice = out } → PageReturning image d out x
  too_short : is_image image ≡ true → length out < line_size * line_count (state_in image) → x ≡ record { number = 23; slice = out }
      → PageReturning image d out x
  given : is_image image ≡ true → line_size * line_count (state_in image) ≤ length out
      → x ≡ record { number = 256 * line_count (state_in image); slice = overwrite (page_text (state_in image) (day d)) out }
      → PageReturning image d out x

abbrev pub PageReturns : Type 0
PageReturns = (image : List ℕ) (d : ℕ) (out : List ℕ) → PageReturning image d out (node_page image d out)

-- What node_shares_split wrote, node_shares_merge reads: any k shares give the key back.
abbrev pub AnySharesGiveTheKeyInC : Type 0
AnySharesGiveTheKeyInC = (key : List ℕ) (k n : ℕ) (cs out : List ℕ) → Bytes key → Bytes cs → (node_shares_split key k n cs out).number ≡ 256 * n
    → (numbers rest key_out : List ℕ) → k ≤ length numbers → AreNumbers n (take k numbers) → key_size ≤ length key_out
    → node_shares_merge k n numbers (chosen (node_shares_split key k n cs out).slice (take k numbers) ++ rest) key_out
    ≡ record { number = 0; slice = overwrite (take key_size key) key_out }

-- What node_shares_split wrote of a key and of the zero key, added by node_shares_add, is what it writes of the key with the sum of the coefficients. So
-- any k of the new shares give the key back (AnySharesGiveTheKeyInC), and they can be renewed again.
abbrev pub RenewedIsSplitInC : Type 0
RenewedIsSplitInC = (key : List ℕ) (k n : ℕ) (cs out zs zero_out : List ℕ) → (node_shares_split key k n cs out).number ≡ 256 * n
    → (node_shares_split zero_key k n zs zero_out).number ≡ 256 * n → (sum : List ℕ) → key_size * n ≤ length sum
    → (node_shares_add (front n (node_shares_split key k n cs out).slice) (node_shares_split zero_key k n zs zero_out).slice sum
    ≡ record { number = 256 * (key_size * n); slice = (node_shares_split key k n (sums cs zs) sum).slice })
    × ((node_shares_split key k n (sums cs zs) sum).number ≡ 256 * n)
