-- What a call for C returns.
use mathlib.Core.Path.{◌≡◌, refl, sym, ap, ◌∙◌}
use mathlib.Core.Logic.{◌⊎◌, inl, inr}
use mathlib.Core.Bool.{Bool, true, false, cond, ◌||◌, and-eq-true_iff, true≢false}
use mathlib.Core.List.{List}
use Prim.Native.Nat.{ℕ, ◌*◌, ◌≤◌}
use lib.Dec.{eqb, leb}
use lib.ListN.{length}
use borrow.Author.Tests.{eqb-true, eqb-false, leb-true, leb-false, le-leb}
use Rattle.lists.proofs.Tests.{cond_cases, or-false-of}
use Rattle.binary.specs.Number.{overwrite}
use Rattle.image.specs.Layout.{image_size}
use Rattle.image.specs.Image.{image_bytes, is_image, ImageRead, read_image}
use Rattle.page.specs.Layout.{line_size}
use Rattle.page.specs.Page.{line_count}
use Rattle.node.specs.Page.{page_of, page_slice}
use Rattle.node_c.specs.Calls.{HandedBack, Returned, try_room, writes_image, return, on_image, node_page}
use Rattle.node_c.specs.Claims.{Writes, Returning, no_room, writes, leaves, CallsReturn, CallsOnImages}
use Rattle.node_c.specs.Claims.{state_in, PageReturning, malformed, too_short, given, PageReturns}

-- what the tests of the definition tell
or_cases : {P : Type 0} (a b : Bool) → (a ≡ true → P) → (b ≡ true → P) → (a || b) ≡ true → P
or_cases true b f g e = f refl
or_cases false b f g e = g e

writes-of : (k : ℕ) → writes_image k ≡ true → Writes k
writes-of k =
    or_cases (eqb k 0) _ (λ e. inl (eqb-true k 0 e))
    (or_cases (eqb k 128) _ (λ e. inr (inl (eqb-true k 128 e)))
    (λ e. let t = simp and-eq-true_iff at e in inr (inr (leb-true 19 k t.0, leb-true k 21 t.1))))

no_writes : (k : ℕ) → writes_image k ≡ false → ¬ Writes k
no_writes k e (inl z) = true≢false (rw z at e)
no_writes k e (inr (inl z)) = true≢false (rw z at e)
no_writes k e (inr (inr m)) = true≢false
    (rw (le-leb 19 k m.0, le-leb k 21 m.1) at (or-false-of (eqb k 128) _ (or-false-of (eqb k 0) _ e).1).1)

pub writes-to : (k : ℕ) → Writes k → writes_image k ≡ true
writes-to k w = at (writes_image k) refl
  where
    at : (b : Bool) → writes_image k ≡ b → writes_image k ≡ true
    at true e = e
    at false e = absurd (no_writes k e w)

pub leaves_to : (k : ℕ) → ¬ Writes k → writes_image k ≡ false
leaves_to k n = at (writes_image k) refl
  where
    at : (b : Bool) → writes_image k ≡ b → writes_image k ≡ false
    at true e = absurd (n (writes-of k e))
    at false e = e

-- a slice that has room keeps the number
has-room-number : (k : ℕ) → try_room true k ≡ k
has-room-number k = at (eqb k 1 || eqb k 2)
  where
    at : (t : Bool) → cond t k k ≡ k
    at true = refl
    at false = refl

-- an image is written only where the slice has room, and for the call's own number
pub writes-in-room : (room : Bool) (k : ℕ) → writes_image (try_room room k) ≡ true → (room ≡ true) × (writes_image k ≡ true)
writes-in-room true k e = (refl, ap writes_image (sym (has-room-number k)) ∙ e)
writes-in-room false k e = absurd (true≢false (sym e ∙ leaves))
  where
    leaves : writes_image (try_room false k) ≡ false
    leaves =
        cond_cases (λ (x : ℕ). writes_image x ≡ false) (eqb k 1 || eqb k 2)
        (or_cases (eqb k 1) (eqb k 2) (λ q. ap writes_image (eqb-true k 1 q)) (λ q. ap writes_image (eqb-true k 2 q)))
        (λ _. refl)

module _ (r : HandedBack) (out : List ℕ) where
  -- with this number, where an image is written or not
  with : ℕ → Bool → Returned
  with k b = record { number = k; slice = cond b (overwrite (image_bytes r.node) out) out }

  -- a number with which an image is written is neither 1 nor 2
  has_room : Writes r.number → (r.number ≡ 1) ⊎ ((r.number ≡ 2) ⊎ (image_size ≤ length out)) → image_size ≤ length out
  has_room w (inl e) = absurd (no_writes r.number (ap writes_image e) w)
  has_room w (inr (inl e)) = absurd (no_writes r.number (ap writes_image e) w)
  has_room w (inr (inr h)) = h

  by_number : (r.number ≡ 1) ⊎ ((r.number ≡ 2) ⊎ (image_size ≤ length out)) → (b : Bool) → writes_image r.number ≡ b → Returning r out
      (with r.number b)
  unfolding with
  by_number p true e = let w = writes-of r.number e in writes (has_room w p) w refl
  by_number p false e = leaves (no_writes r.number e) p refl

  tried : (r.number ≡ 1) ⊎ ((r.number ≡ 2) ⊎ (image_size ≤ length out)) → Returning r out (with r.number (writes_image r.number))
  tried p = by_number p (writes_image r.number) refl

pub calls-return : CallsReturn
unfolding return with
calls-return r out =
    cond_cases (λ (k : ℕ). Returning r out (with r out k (writes_image k))) (eqb r.number 1 || eqb r.number 2)
    (or_cases (eqb r.number 1) (eqb r.number 2) (λ e. tried r out (inl (eqb-true _ _ e))) (λ e. tried r out (inr (inl (eqb-true _ _ e)))))
    (λ n. cond_cases (λ (k : ℕ). Returning r out (with r out k (writes_image k))) (leb image_size (length out))
    (λ h. tried r out (inr (inr (leb-true _ _ h))))
    (λ h. let p = or-false-of (eqb r.number 1) (eqb r.number 2) n in no_room (leb-false _ _ h) (eqb-false _ _ p.0)
    (eqb-false _ _ p.1) refl))

-- an image is read where it is accepted
pub image-ok : (image : List ℕ) → (read_image image).ok ≡ is_image image
unfolding read_image
image-ok image = cond_cases (λ (x : ImageRead). x.ok ≡ is_image image) (is_image image) (λ e. rw e) (λ e. rw e)

pub calls-on-images : CallsOnImages
unfolding on_image
calls-on-images f image out = (λ e. rw (image-ok image, e), λ e. rw (image-ok image, e))

pub page-returns : PageReturns
unfolding node_page page_of page_slice
page-returns image d out = at (is_image image) refl (leb (line_size * line_count (state_in image)) (length out)) refl
  where
    at : (b : Bool) → is_image image ≡ b → (r : Bool) → leb (line_size * line_count (state_in image)) (length out) ≡ r
        → PageReturning image d out (node_page image d out)
    at false e r f = malformed e (rw (image-ok image ∙ e))
    at true e true f = given e (leb-true _ _ f) (rw (image-ok image ∙ e, f))
    at true e false f = too_short e (leb-false _ _ f) (rw (image-ok image ∙ e, f))
