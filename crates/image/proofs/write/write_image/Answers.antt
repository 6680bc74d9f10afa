use Rattle.image.specs.Layout.{own_at}
use Rattle.state.specs.Limits.{seat_count, proposal_rows, login_rows}
use mathlib.Core.Path.{◌≡◌, sym, ◌∙◌}
use native.Mathlib.Omega.{arith}
use lib.ListN.{length}
use Rattle.binary.proofs.Splices.{then-put, splice-overwrite}
use Rattle.checkpoint.proofs.Written.{checkpoint-size}
use Rattle.lists.proofs.Tables.{mapped-length}
use Rattle.image.specs.Image.{image_bytes}
use borrow.Author.Rules.{rules}
use Rattle.image.proofs.write.write_image.Goals.{Start}
use Rattle.image.proofs.write.write_image.Goals as goal

-- The number of rows of each table.
seat-rows : (c : Start) → length c.args.state.seats ≡ seat_count
seat-rows c = search (rules, mapped-length)

proposal-rows : (c : Start) → length c.args.state.proposals ≡ proposal_rows
proposal-rows c = search (rules, mapped-length)

login-rows : (c : Start) → length c.args.state.logins ≡ login_rows
login-rows c = search (rules, mapped-length)

pub returns : goal.returns
unfolding image_bytes
returns c =
    let a = c.args in
    let d = a.out.now in
    let l = checkpoint-size a.state (seat-rows (goal.at.returns c).Start) (proposal-rows (goal.at.returns c).Start) (login-rows (goal.at.returns c).Start) in
    then-put d _ _ _ _ 0 own_at c.put_own.ensures (c.write_checkpoint.ensures ∙ sym (splice-overwrite d _)) (omega arith) (omega arith)
    ∙ splice-overwrite d _
