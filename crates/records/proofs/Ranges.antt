-- An announcement or a start record that is read is within its ranges.
use Prim.Native.Nat.{ℕ, ◌^◌, ◌<◌}
use native.Mathlib.Omega.{arith}
use mathlib.Core.Path.{◌≡◌, subst, refl}
use mathlib.Core.Bool.{Bool, true, ◌&&◌, and-eq-true_iff}
use mathlib.Core.List.{List}
use lib.Dec.{eqb, ltb}
use lib.ListN.{length, drop}
use borrow.Author.Tests.{eqb-true, ltb-true, leb-true}
use Rattle.lists.proofs.Tests.{cond_cases}
use Rattle.binary.specs.Number.{Bytes, field, byte_at, is_framed, is_record}
use Rattle.binary.proofs.Number.{number_fits, bytes_drop}
use Rattle.binary.proofs.Frames.{framed-length}
use Rattle.state.specs.Limits.{seat_count}
use Rattle.state.specs.Kinds.{kind_propose, kind_cancel, kind_presents, kind_certify, kind_minima, kind_remove, kind_rejoin, kind_grant, kind_end}
use Rattle.records.specs.declared.Action.{Action}
use Rattle.records.specs.declared.Announcement.{Announcement}
use Rattle.std.specs.Prelude.{Option, Some, None}
use Rattle.records.specs.declared.Start.{Start}
use Rattle.records.specs.Layout.{announcement_length, announcement_size, start_length, kind_start}
use Rattle.records.specs.Announcement.{announcing, read_propose, read_cancel, read_presents, read_certify, read_minima}
use Rattle.records.specs.Announcement.{read_remove, read_rejoin, read_grant, read_end, read_kind, read_announcement}
use Rattle.records.specs.StartQuery.{read_start}
use Rattle.records.specs.Claims.{ActionInRange, AnnouncementInRange, AnnouncementsInRange, StartsInRange}

-- The two claims, of what reading gives. Of malformed bytes they say nothing.
InRange : List ℕ → Option Announcement → Type 0
InRange b (Some a) = (length b ≡ announcement_size) × AnnouncementInRange a
InRange b None = Unit {0}

StartInRange : Option Start → Type 0
StartInRange (Some x) = (x.seat < seat_count) × (x.life < 2 ^ 32)
StartInRange None = Unit {0}

module _ (b : List ℕ) (h : Bytes b) where
  -- A number that is read is within its width.
  below : (w at : ℕ) → field w at b < 256 ^ w
  below w at = number_fits w (drop at b) (bytes_drop at b h)

  module _ (n : length b ≡ announcement_size) where
    -- An announcement is within its ranges where its action is.
    announced : (ok : Bool) (x : Action) → (ok ≡ true → ActionInRange x) → InRange b (announcing b ok x)
    unfolding announcing InRange
    announced ok x f = cond_cases (InRange b) ok (λ e. (n, record { cycle = below 4 4; day = below 4 8; action = f e })) (λ e. tt)

    -- So it is for each kind: t is what its tests tell.
    propose : InRange b (read_propose b)
    unfolding read_propose
    propose = announced _ _ (λ e. let t = simp and-eq-true_iff at e in (below 2 12, below 8 14, t.1))

    cancel : InRange b (read_cancel b)
    unfolding read_cancel
    cancel = announced _ _ (λ e. below 4 12)

    presents : InRange b (read_presents b)
    unfolding read_presents
    presents = announced _ _ (λ e. let t = simp and-eq-true_iff at e in ltb-true _ _ t.1.0)

    certify : InRange b (read_certify b)
    unfolding read_certify
    certify = announced _ _ (λ e. let t = simp and-eq-true_iff at e in omega (arith, ltb-true, leb-true, below 4 13))

    minima : InRange b (read_minima b)
    unfolding read_minima
    minima = announced _ _ (λ e. let t = simp and-eq-true_iff at e in t.1)

    remove : InRange b (read_remove b)
    unfolding read_remove
    remove = announced _ _ (λ e. let t = simp and-eq-true_iff at e in ltb-true _ _ t.1)

    rejoin : InRange b (read_rejoin b)
    unfolding read_rejoin
    rejoin = announced _ _ (λ e. let t = simp and-eq-true_iff at e in (ltb-true _ _ t.1, below 4 13))

    grant : InRange b (read_grant b)
    unfolding read_grant
    grant = announced _ _ (λ e. let t = simp and-eq-true_iff at e in omega (arith, leb-true, below 4 12, below 4 16, below 2 20))

    end : InRange b (read_end b)
    unfolding read_end
    end = announced _ _ (λ e. below 4 12)

    kind-in-range : (kind : ℕ) → InRange b (read_kind kind b)
    unfolding read_kind InRange
    kind-in-range kind =
        cond_cases (InRange b) (eqb kind kind_propose) (λ _. propose)
        (λ _. cond_cases (InRange b) (eqb kind kind_cancel) (λ _. cancel)
        (λ _. cond_cases (InRange b) (eqb kind kind_presents) (λ _. presents)
        (λ _. cond_cases (InRange b) (eqb kind kind_certify) (λ _. certify)
        (λ _. cond_cases (InRange b) (eqb kind kind_minima) (λ _. minima)
        (λ _. cond_cases (InRange b) (eqb kind kind_remove) (λ _. remove)
        (λ _. cond_cases (InRange b) (eqb kind kind_rejoin) (λ _. rejoin)
        (λ _. cond_cases (InRange b) (eqb kind kind_grant) (λ _. grant)
        (λ _. cond_cases (InRange b) (eqb kind kind_end) (λ _. end)
        (λ _. tt)))))))))

-- Bytes of another length are none.
pub other-size : (b : List ℕ) → (length b ≡ announcement_size → ⊥) → read_announcement b ≡ None
unfolding read_announcement
other-size b h =
    cond_cases (λ (r : Option Announcement). r ≡ None) (is_framed announcement_length b)
    (λ f. absurd (h (framed-length announcement_length b f))) (λ f. refl)

pub announcements-in-range : AnnouncementsInRange
unfolding read_announcement InRange
announcements-in-range b a h e =
    subst (InRange b) e
    (cond_cases (InRange b) (is_framed announcement_length b)
    (λ f. let t = simp and-eq-true_iff at f in kind-in-range b h (eqb-true _ _ t.0) (field 2 2 b)) (λ f. tt))

pub starts-in-range : StartsInRange
unfolding read_start StartInRange
starts-in-range b x h e =
    subst StartInRange e
    (cond_cases StartInRange (is_record start_length kind_start b && ltb (byte_at 4 b) seat_count)
    (λ f. let t = simp and-eq-true_iff at f in (ltb-true _ _ t.1, below b h 4 5)) (λ f. tt))
