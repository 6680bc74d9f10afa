-- Words of the code's contracts: the parts in which a checkpoint is written, and those in which it is tested. Nothing of the paper.
use Rattle.std.specs.Prelude.{ℕ, ◌+◌, List, [], ◌∷◌, ◌++◌, Bool, ◌&&◌, eqb, leb}
use Rattle.lists.specs.Fold.{all, count}
use Rattle.lists.specs.Code.{is_filled, leading}
use Rattle.binary.specs.Number.{to_bytes}
use Rattle.binary.specs.Codec.{encode_rows}
use Rattle.state.specs.declared.Day.{Day}
use Rattle.state.specs.declared.Cycle.{Cycle}
use Rattle.state.specs.declared.Minima.{Minima}
use Rattle.state.specs.declared.Seat.{Seat}
use Rattle.state.specs.declared.Proposal.{Proposal}
use Rattle.state.specs.declared.Login.{Login}
use Rattle.state.specs.Time.{cycle, is_before_cycle}
use Rattle.state.specs.Minima.{is_in_force}
use Rattle.state.specs.Seats.{present_seats, quorum}
use Rattle.state.specs.Rows.{is_proposal, is_login}
use Rattle.state.specs.WellFormed.{is_trustee_count, is_well_formed_seat, cycle_of, is_intended, are_well_formed_proposals, has_rights, are_well_formed_logins}
use Rattle.checkpoint.specs.declared.Head.{Head}
use Rattle.checkpoint.specs.Layout.{kind_checkpoint, checkpoint_length, head_at}
use Rattle.checkpoint.specs.Format.{Counted, head_of, counted_of, tables, seat, proposal, login}

-- length 2, kind 2, cycle 4, day 4
unfoldable pub time_bytes : Cycle → Day → List ℕ
time_bytes c d = to_bytes 2 checkpoint_length ++ (to_bytes 2 kind_checkpoint ++ (to_bytes 4 c.0 ++ to_bytes 4 d.0))

-- trustee counts 1+1, m 1, k 1, S 2, notices 1+1
abbrev pub parameters_at : ℕ
parameters_at = head_at + 8

unfoldable pub parameter_bytes : ℕ → ℕ → Minima → List ℕ
parameter_bytes trustees1 trustees2 x =
    trustees1 ∷ trustees2 ∷ x.margin ∷ x.least ∷ (to_bytes 2 x.silence ++ (x.notices.ordinary ∷ x.notices.restart ∷ []))

-- the seats, and the other two tables after their counts
unfoldable pub table_bytes : List Seat → List Proposal → List Login → List ℕ
table_bytes seats proposals logins =
    encode_rows seat seats
    ++ ((count is_proposal proposals ∷ [])
    ++ (encode_rows proposal proposals ++ ((count is_login logins ∷ []) ++ encode_rows login logins)))

-- the state and the two counts of these numbers and of the tables in b
unfoldable pub in_parts : Head → List ℕ → Counted
in_parts h b = counted_of h (tables.decode b)

-- the numbers before the tables are well formed
unfoldable pub is_head : Head → Bool
is_head h =
    is_before_cycle (cycle 0) h.cycle
    && (is_trustee_count h.trustees1 && (is_trustee_count h.trustees2 && is_in_force h.minima))

-- the seats are well formed, and the quorum of these minima is at most p
unfoldable pub are_seats : Minima → List Seat → Bool
are_seats x seats = all is_well_formed_seat seats && leb (quorum (present_seats seats) x.margin x.least) (present_seats seats)

-- a table is well formed, and n is its count
unfoldable pub are_proposals : ℕ → Cycle → Day → List Proposal → Bool
are_proposals n c d rows = eqb n (count is_proposal rows) && are_well_formed_proposals c d rows

unfoldable pub are_logins : ℕ → List Login → Bool
are_logins n rows = eqb n (count is_login rows) && are_well_formed_logins rows

-- the rows that lead a table, used, well formed and in order
abbrev pub leading_proposals : Cycle → Day → List Proposal → ℕ
leading_proposals c d rows = leading (is_filled is_proposal (is_intended c d)) cycle_of 0 rows

abbrev pub leading_logins : List Login → ℕ
leading_logins rows = leading (is_filled is_login has_rights) (λ x. x.login) 1 rows

-- all that a checkpoint's bytes must be beside a record of its kind and length
unfoldable pub is_body : Counted → Bool
is_body c =
    let s = c.state in
    is_head (head_of s)
    && (are_seats s.minima s.seats
    && (are_proposals c.proposals s.cycle s.day s.proposals && are_logins c.logins s.logins))
