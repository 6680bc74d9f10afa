-- One computed test of the histories of all margins, and what it tells of each.
use mathlib.Core.Path.{◌≡◌, refl, sym, ap, ◌∙◌, subst}
use mathlib.Core.Bool.{Bool, true, false, not, ◌&&◌, and-eq-true_iff, false≢true}
use mathlib.Core.List.Memᴰ
use mathlib.Core.List.{List, [], ◌∷◌, map}
use mathlib.Core.Option.{Option, none, some}
use Prim.Native.Nat.{ℕ, ◌+◌, ◌*◌}
use native.Mathlib.Nat.{le_trans}
use native.Mathlib.Omega.{arith}
use lib.Dec.{eqb, leb}
use lib.ListN.{length, replicate}
use borrow.Author.Tests.{eqb-true, leb-true, not-true}
use Rattle.lists.specs.Fold.{all}
use Rattle.lists.proofs.Tests.{all_below, passes-below}
use Rattle.lists.proofs.Every.{All, all_of}
use Rattle.state.specs.Time.{cycle}
use Rattle.state.specs.Seats.{present_seats}
use Rattle.records.specs.Sheet.{rows_of, counts, counted_seats, counted_on_both}
use Rattle.records.proofs.Counts.{counts-once}
use Rattle.checkpoint.specs.Checkpoint.{checkpoint_bytes, is_checkpoint}
use Rattle.node.specs.declared.Node.{Node}
use Rattle.binary.specs.Number.{is_same_bytes}
use Rattle.binary.proofs.Same.{same_bytes}
use Rattle.agreement.specs.History.{Host, by_value, through_c, Call, start, deliver, query, checkpoint, History, Cluster, empty, node_at, Moment}
use Rattle.agreement.specs.History.{moments_from, moments, answer, after}
use Rattle.agreement.specs.Claims.{◌∈◌, HeldIn, Agreement, run_all}
use Rattle.agreement.proofs.NotIdle.{calls-at-hosts, Each, is_bytes, holds_bytes, FromFirst, park}
use Rattle.records.specs.Sheet.{sheet_of}
use Rattle.assurance.specs.Tight.{first_state, first, rows_below, full_sheet, divided, LooserBound, BeyondByOne, BoundIsTight}
use Rattle.lists.proofs.Members.{all_in, fewer}

-- ---- the starts are from the first checkpoint

from_first : (m : ℕ) → Each (FromFirst (first m)) (divided m)
from_first m = (refl, (refl, (tt, (tt, tt))))

-- ---- every call is answered 0

abbrev is_done : Option ℕ → Bool
is_done none = false
is_done (some k) = eqb k 0

done : (xs : List (Option ℕ)) → all is_done xs ≡ true → xs ≡ replicate (length xs) (some 0)
unfolding all
done [] e = refl
done (none ∷ xs) e = absurd (false≢true e)
done (some k ∷ xs) e = let t = simp and-eq-true_iff at e in rw (eqb-true k 0 t.0, ← done xs t.1)

-- ---- deliver calls find states with at most 2m+1 present seats

abbrev has_few : Option Node → Bool
has_few none = true
has_few (some n) = leb (present_seats n.state.seats) (2 * n.state.minima.margin + 1)

abbrev finds_few : Cluster → Call → Bool
finds_few w (start h cb rb out) = true
finds_few w (deliver h ab sb out) = has_few (node_at w h)
finds_few w (query h qb out) = true
finds_few w (checkpoint h out) = true

looser-bound : (calls : History) → All (λ t. finds_few t.before t.call ≡ true) (moments calls) → LooserBound calls
unfolding counted_on_both counted_seats
looser-bound calls f p q e n =
    let x = p.performed in
    let one = rows_of p.sheet in
    let other = rows_of q.sheet in
    let few = subst (λ o. has_few o ≡ true) x.held (subst (λ c. finds_few p.moment.before c ≡ true) x.called (all_in f p.in_list)) in
    rw x.state (le_trans (fewer (counts one) (counts other) 0 _) (le_trans (counts-once other _) (leb-true _ _ few)))

-- ---- two nodes of one cycle differ

abbrev pub differ : Option Node → Option Node → Bool
differ none y = false
differ (some n) none = false
differ (some n) (some k) = eqb n.state.cycle.0 k.state.cycle.0 && not
    (is_same_bytes (checkpoint_bytes n.state) (checkpoint_bytes k.state))

pub split : (calls : History) (t u : Moment) → t ∈ calls → u ∈ calls → (g h : Host) → differ (node_at (after t) g) (node_at (after u) h) ≡ true
    → ¬ Agreement calls
split calls t u i j g h d A = by (node_at (after t) g) refl (node_at (after u) h) refl d
  where
    by : (x : Option Node) → node_at (after t) g ≡ x → (y : Option Node) → node_at (after u) h ≡ y → differ x y ≡ true → ⊥
    by none e y f d = false≢true d
    by (some n) e none f d = false≢true d
    by (some n) e (some k) f d =
        let o = simp and-eq-true_iff at d in
        let one : HeldIn calls = record { moment = t; in_list = i; host = g; node = n; held = e } in
        let other : HeldIn calls = record { moment = u; in_list = j; host = h; node = k; held = f } in
        let same = A one other (ap cycle (eqb-true _ _ o.0)) in
        let b : is_same_bytes (checkpoint_bytes n.state) (checkpoint_bytes k.state) ≡ true = rw same (same_bytes (checkpoint_bytes k.state)) in
        false≢true (sym (not-true _ o.1) ∙ b)

-- ---- the test

-- the number of double voters
abbrev double_voters : ℕ → ℕ
double_voters m = counted_on_both (rows_of (full_sheet m)) (rows_of (full_sheet m)) (first_state m).seats

unfoldable test : ℕ → Bool
test m =
    is_bytes (first m)
    && (is_checkpoint (first m)
    && (all holds_bytes (divided m)
    && (all is_done (map answer (moments (divided m)))
    && (eqb (double_voters m) (2 * m + 1)
    && (all (λ t. finds_few t.before t.call) (moments (divided m))
    && differ (node_at (run_all empty (divided m)) (by_value 0)) (node_at (run_all empty (divided m)) (through_c 1)))))))

-- what it tells
tested : (m : ℕ) → test m ≡ true → BeyondByOne m
unfolding test moments_from run_all
tested m e =
    let t = simp and-eq-true_iff at e in
    record {
      park = park (first m) (divided m) t.0 t.1.0 t.1.1.0 (from_first m);
      performed = done (map answer (moments (divided m))) t.1.1.1.0;
      double-voters = eqb-true _ _ t.1.1.1.1.0;
      looser-bound = looser-bound (divided m) (all_of _ (moments (divided m)) t.1.1.1.1.1.0);
      splits = let last = Memᴰ.tail (Memᴰ.tail (Memᴰ.tail (Memᴰ.head refl))) in split (divided m) _ _ last last (by_value 0)
          (through_c 1) t.1.1.1.1.1.1;
    }

all-margins : all_below test 8 ≡ true
unfolding calls-at-hosts test all_below run_all sheet_of rows_below counted_on_both
all-margins = refl

pub bound-is-tight : BoundIsTight
bound-is-tight m h = tested m (passes-below test 8 all-margins m (omega arith))
