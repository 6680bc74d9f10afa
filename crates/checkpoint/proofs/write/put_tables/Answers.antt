use Prim.Native.Nat.{◌+◌}
use mathlib.Core.Path.{◌≡◌, refl}
use mathlib.Core.List.{append_assoc}
use native.Mathlib.Omega.{arith}
use lib.ListN.{length}
use Rattle.binary.proofs.Splices.{first-put, next-put, all-put}
use Rattle.binary.proofs.Rows.{rows-size}
use Rattle.state.specs.Limits.{seat_count, proposal_rows, login_rows}
use Rattle.checkpoint.specs.Layout.{checkpoint_size, tables_at, proposal_count_at, proposals_at, login_count_at, logins_at}
use Rattle.checkpoint.specs.Format.{seat, proposal, login}
use Rattle.checkpoint.specs.Code.{table_bytes}
use Rattle.checkpoint.specs.Stored.{seat_long, proposal_long, login_long}
use borrow.Author.Rules.{rules}
use Rattle.checkpoint.proofs.write.put_tables.Goals.{Start}
use Rattle.checkpoint.proofs.write.put_tables.Goals as goal

-- The number of rows of each table.
seat-rows : (c : Start) → length c.args.seats ≡ seat_count
seat-rows c = search rules

proposal-rows : (c : Start) → length c.args.proposals ≡ proposal_rows
proposal-rows c = search rules

login-rows : (c : Start) → length c.args.logins ≡ login_rows
login-rows c = search rules

pub returns : goal.returns
unfolding table_bytes
returns c =
    let a = c.args in
    let d = a.out.now in
    let w₁ = first-put d _ _ tables_at 160 c.put_rows.ensures (rows-size seat seat_long seat_count a.seats (seat-rows (goal.at.returns c).Start)) in
    let w₂ = next-put d _ _ _ _ tables_at (tables_at + proposal_count_at) 1 w₁ c.put_u8.ensures refl (omega arith) in
    let w₃ = next-put d _ _ _ _ tables_at (tables_at + proposals_at) 288 w₂ c.put_rows-2.ensures
    (rows-size proposal proposal_long proposal_rows a.proposals (proposal-rows (goal.at.returns c).Start)) (omega arith) in
    let w₄ = next-put d _ _ _ _ tables_at (tables_at + login_count_at) 1 w₃ c.put_u8-2.ensures refl (omega arith) in
    let w₅ = next-put d _ _ _ _ tables_at (tables_at + logins_at) 640 w₄ c.put_rows-3.ensures (rows-size login login_long login_rows a.logins (login-rows (goal.at.returns c).Start))
    (omega arith) in
    all-put d _ _ _ tables_at checkpoint_size w₅ (rw (c.count_used.ensures, c.count_used-2.ensures) (simp append_assoc))
