-- A record that the input holds lies within it.
use mathlib.Core.Path.{◌≡◌, refl, subst}
use mathlib.Core.Bool.{true, false, not, ◌&&◌, or-true, and-eq-true_iff}
use mathlib.Core.List.{List}
use Prim.Native.Nat.{ℕ, ◌+◌, ◌≤◌}
use native.Mathlib.Omega.{arith}
use lib.Dec.{leb}
use lib.ListN.{length, drop, length-drop}
use borrow.Author.Tests.{leb-true, le-leb}
use Rattle.binary.specs.Number.{Bytes}
use Rattle.binary.proofs.Number.{number_fits, bytes_drop}
use Rattle.lists.proofs.Tests.{cond_cases}
use Rattle.requests.specs.declared.Frame.{Frame}
use Rattle.std.specs.Prelude.{Option, Some, None}
use Rattle.requests.specs.Claims.{RoomForRequest}
use Rattle.requests.specs.Framing.{framed, record_head, size_of, kind_of, least_size, has_second, holds_record, frame_of, holds_request}

pub record-heads : (b : List ℕ) → holds_record b ≡ true → record_head ≤ length b
unfolding holds_record
record-heads b e = let t = simp and-eq-true_iff at e in leb-true _ _ t.0

pub request-heads : (b : List ℕ) → holds_request b ≡ true → record_head ≤ length b
unfolding holds_request
request-heads b e = let t = simp and-eq-true_iff at e in record-heads b t.0

pub record-fits : (b : List ℕ) → holds_record b ≡ true → size_of b ≤ length b
unfolding holds_record
record-fits b e = let t = simp and-eq-true_iff at e in leb-true _ _ t.1

-- what holds of the size and the kind of a record that the input holds
abbrev OfRecord : (ℕ → ℕ → Type 0) → Option Frame → Type 0
OfRecord P (Some x) = P x.size x.kind
OfRecord P None = Unit {0}

pub of-record : (P : ℕ → ℕ → Type 0) (b : List ℕ) (size kind : ℕ) → (holds_record b ≡ true → P (size_of b) (kind_of b))
    → frame_of b ≡ framed size kind → P size kind
unfolding frame_of
of-record P b size kind f e = subst (OfRecord P) e
    (cond_cases (OfRecord P) (holds_record b && leb (least_size (kind_of b)) (size_of b))
    (λ t. let h = simp and-eq-true_iff at t in f h.0)
    (λ _. tt))

pub frame-fits : (b : List ℕ) (size kind : ℕ) → frame_of b ≡ framed size kind → size ≤ length b
frame-fits b size kind = of-record (λ s k. s ≤ length b) b size kind (record-fits b)

pub frame-some : (b : List ℕ) (size kind : ℕ) → frame_of b ≡ framed size kind → 1 ≤ size
frame-some b size kind = of-record (λ s k. 1 ≤ s) b size kind (λ h. omega arith)

pub frame-held : (b : List ℕ) (size kind : ℕ) → frame_of b ≡ framed size kind → holds_record b ≡ true
frame-held b size kind = of-record (λ s k. holds_record b ≡ true) b size kind (λ h. h)

-- a request of one record, and one of two
pub one-held : (b : List ℕ) (size kind : ℕ) → has_second kind ≡ false → frame_of b ≡ framed size kind → holds_request b ≡ true
unfolding holds_request
one-held b size kind =
    λ no e. of-record (λ s k. has_second k ≡ false → holds_request b ≡ true) b size kind (λ h s. rw (h, s) refl) e no

pub two-held : (b : List ℕ) (size kind : ℕ) → holds_record (drop size b) ≡ true → frame_of b ≡ framed size kind → holds_request b ≡ true
unfolding holds_request
two-held b size kind =
    λ second e. of-record (λ s k. holds_record (drop s b) ≡ true → holds_request b ≡ true) b size kind
    (λ h t. rw (h, t) (or-true (not (has_second (kind_of b))))) e second

-- a record after the first bytes of b
pub second_fits : (b : List ℕ) (first size kind : ℕ) → first ≤ length b → frame_of (drop first b) ≡ framed size kind → first + size ≤ length b
second_fits b first size kind h e =
    let k = frame-fits _ _ _ e in
    let l = rw (length-drop first b) at k in
    omega arith

-- the greatest record
record-room : (b : List ℕ) → Bytes b → 65537 ≤ length b → (size_of b ≤ 65537) × (holds_record b ≡ true)
unfolding holds_record
record-room b h k =
    let most : size_of b ≤ 65537 = omega (arith, number_fits 2 (drop 0 b) (bytes_drop 0 b h)) in
    (most, rw (le-leb record_head (length b) (omega arith), le-leb (size_of b) (length b) (omega arith)) refl)

pub room-for-request : RoomForRequest
unfolding holds_request
room-for-request b h k =
    let first = record-room b h (omega arith) in
    let second = record-room (drop (size_of b) b) (bytes_drop (size_of b) b h) (rw length-drop (omega (arith, first.0))) in
    rw (first.1, second.1) (or-true (not (has_second (kind_of b))))
