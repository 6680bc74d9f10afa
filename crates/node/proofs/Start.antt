-- What a start comes to.
use mathlib.Core.Path.{◌≡◌, refl}
use mathlib.Core.Bool.{true, not}
use mathlib.Core.List.{List}
use Prim.Native.Nat.{ℕ, ◌≤◌}
use lib.Dec.{eqb, ltb}
use borrow.Author.Tests.{eqb-true, ltb-true, ltb-false, not-true, not-false}
use Rattle.lists.proofs.Tests.{cond_cases}
use Rattle.state.specs.declared.Seat.{Seat}
use Rattle.state.specs.Seats.{seat_at, is_active}
use Rattle.records.specs.declared.Start.{Start}
use Rattle.std.specs.Prelude.{Option, Some, None}
use Rattle.records.specs.StartQuery.{read_start}
use Rattle.checkpoint.specs.Checkpoint.{is_checkpoint, read_checkpoint}
use Rattle.checkpoint.proofs.Fields.{read_ok}
use Rattle.refusals.proofs.Chains.{passes-rule, unrefused, by-rule, refused, not-zero}
use Rattle.verdicts.specs.Verdicts.{start_refusal}
use Rattle.node.specs.Start.{start_read, start_records, start_of}
use Rattle.node.specs.Claims.{StartRefused, start-malformed, checkpoint-malformed, seat-unfit, life-below, Starting, refuses, starts}
use Rattle.node.specs.Claims.{StartComesTo}

module _ (cb sb : List ℕ) (x : Start) (rx : read_start sb ≡ Some x) where
  seat : Seat
  seat = seat_at x.seat (read_checkpoint cb).state.seats

  -- why a number k is given
  why : is_checkpoint cb ≡ true → (k : ℕ) → 1 ≤ k → start_refusal (read_checkpoint cb).state x ≡ k → StartRefused cb sb k
  unfolding start_refusal seat
  why rc k h =
      by-rule (not (is_active seat)) 9 _ k refl (λ e a. seat-unfit x e rx rc (not-true _ a))
      (λ _ e. let r = refused (ltb x.life seat.life) 14 k h e in life-below x r.0 rx rc (ltb-true _ _ r.1))

  by-rules : is_checkpoint cb ≡ true → Starting cb sb (start_read (read_checkpoint cb).state x)
  unfolding start_read start_refusal seat
  by-rules rc =
      cond_cases (Starting cb sb) (eqb (start_refusal (read_checkpoint cb).state x) 0)
      (λ z.
      let p = passes-rule (not (is_active seat)) 9 _ refl (eqb-true _ _ z) in
      starts x rx rc (not-false _ p.0) (ltb-false _ _ (unrefused (ltb x.life seat.life) 14 refl p.1)) refl)
      (λ z. refuses _ (why rc _ (not-zero _ z) refl) refl)

by-records : (cb sb : List ℕ) (o : Option Start) → read_start sb ≡ o → Starting cb sb (start_records (read_checkpoint cb) o)
by-records cb sb None e = refuses 1 (start-malformed refl e) refl
by-records cb sb (Some x) e = rw (read_ok cb)
    (cond_cases (Starting cb sb) (is_checkpoint cb) (by-rules cb sb x e) (λ rc. refuses 1 (checkpoint-malformed refl rc) refl))

pub start-comes-to : StartComesTo
unfolding start_of
start-comes-to cb sb = by-records cb sb (read_start sb) refl
