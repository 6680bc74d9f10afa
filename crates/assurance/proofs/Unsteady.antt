-- The two computed lists in which the votes of an honest seat are not steady.
use mathlib.Core.Path.{◌≡◌, refl}
use mathlib.Core.Bool.{true}
use mathlib.Core.List.Memᴰ
use mathlib.Core.List.{[], ◌∷◌}
use mathlib.Core.Option.{some}
use Prim.Native.Nat.{ℕ}
use Rattle.lists.specs.Fold.{all}
use Rattle.checkpoint.specs.Checkpoint.{is_checkpoint}
use Rattle.node.specs.declared.Node.{Node}
use Rattle.node.specs.Start.{start_of}
use Rattle.examples.specs.Records.{grant_to}
use Rattle.agreement.specs.History.{Host, by_value, History, empty, node_at, Moment, answer}
use Rattle.agreement.specs.Claims.{◌∈◌, run_all}
use Rattle.agreement.proofs.NotIdle.{calls-at-hosts, is_bytes, holds_bytes, park}
use Rattle.records.specs.Sheet.{sheet_of}
use Rattle.assurance.specs.Tight.{first, start_seat, rows_below}
use Rattle.assurance.specs.Earned.{VoteOf, start_at, asked, restarted, two_hosts, RestartSplits, TwoHostsSplit}
use Rattle.assurance.proofs.Tight.{split}

first-bytes : is_bytes (first 0) ≡ true
unfolding calls-at-hosts
first-bytes = refl

first-checkpoint : is_checkpoint (first 0) ≡ true
unfolding calls-at-hosts
first-checkpoint = refl

-- the node that a start makes
voter : Node
voter = (start_of (first 0) (start_seat 0)).node

-- a call of the list, behind those before it
asking : History → Host → ℕ → Moment
asking earlier h end = record { before = run_all empty earlier; call = asked h end }

-- it is answered voted, by that node
vote : (calls earlier : History) (h : Host) (end : ℕ) → asking earlier h end ∈ calls → node_at (run_all empty earlier) h ≡ some voter → answer
    (asking earlier h end) ≡ some 128
    → (t : Moment) × VoteOf calls 0 1 1 (grant_to end) t
unfolding calls-at-hosts asking voter
vote calls earlier h end m held answered = (
  asking earlier h end,
  record {
    in_list = m;
    host = h;
    node = voter;
    voted = record { sheet = sheet_of 1 0 []; out = []; called = refl; held = held; answered = answered };
    own-seat = refl;
    own-life = refl;
    own-cycle = refl;
  },
)

-- ---- the host is started again

restarted-bytes : all holds_bytes restarted ≡ true
unfolding calls-at-hosts sheet_of rows_below
restarted-bytes = refl

pub restart-splits : RestartSplits
unfolding calls-at-hosts run_all sheet_of rows_below asking voter
restart-splits =
    let h = by_value 0 in
    let fifth = Memᴰ.tail (Memᴰ.tail (Memᴰ.tail (Memᴰ.tail (Memᴰ.head refl)))) in
    let seventh = Memᴰ.tail (Memᴰ.tail (Memᴰ.tail (Memᴰ.tail (Memᴰ.tail (Memᴰ.tail (Memᴰ.head refl)))))) in
    record {
      park = park (first 0) restarted first-bytes first-checkpoint restarted-bytes (refl, (tt, (refl, (tt, (tt, (refl, (tt, tt)))))));
      answered = refl;
      rows = refl;
      one = vote restarted (start_at h ∷ []) h 120 (Memᴰ.tail (Memᴰ.head refl)) refl refl;
      other = vote restarted (start_at h ∷ asked h 120 ∷ start_at h ∷ []) h 121
          (Memᴰ.tail (Memᴰ.tail (Memᴰ.tail (Memᴰ.head refl)))) refl refl;
      splits = split restarted _ _ fifth seventh h h refl;
    }

-- ---- two hosts are started at one seat and life

hosts-bytes : all holds_bytes two_hosts ≡ true
unfolding calls-at-hosts sheet_of rows_below
hosts-bytes = refl

pub two-hosts-split : TwoHostsSplit
unfolding calls-at-hosts run_all sheet_of rows_below asking voter
two-hosts-split =
    let g = by_value 0 in
    let h = by_value 1 in
    let third = Memᴰ.tail (Memᴰ.tail (Memᴰ.head refl)) in
    let sixth = Memᴰ.tail (Memᴰ.tail (Memᴰ.tail (Memᴰ.tail (Memᴰ.tail (Memᴰ.head refl))))) in
    record {
      park = park (first 0) two_hosts first-bytes first-checkpoint hosts-bytes (refl, (refl, (tt, (tt, (tt, (tt, tt))))));
      answered = refl;
      rows = refl;
      one = vote two_hosts (start_at g ∷ start_at h ∷ []) g 120 third refl refl;
      other = vote two_hosts (start_at g ∷ start_at h ∷ asked g 120 ∷ []) h 121
          (Memᴰ.tail (Memᴰ.tail (Memᴰ.tail (Memᴰ.head refl)))) refl refl;
      splits = split two_hosts _ _ sixth sixth g h refl;
    }
