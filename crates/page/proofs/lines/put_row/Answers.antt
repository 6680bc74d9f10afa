use native.Mathlib.Omega.{arith}
use mathlib.Core.Path.{sym, ◌∙◌}
use native.Mathlib.Nat.{add-zero}
use Rattle.page.specs.Page.{line_of}
use Rattle.binary.proofs.Splices.{splice-none}
use Rattle.page.proofs.ReadBack.{line-back}
use Rattle.page.proofs.Rows.{line-fits, used-row, unused-row, one_line, no_line}
use Rattle.page.proofs.lines.put_row.Goals as goal

pub returns-else-is_used : goal.returns-else-is_used
returns-else-is_used c =
    let a = c.args in
    let no = sym c.is_used.ensures ∙ c.if-is_used.false in
    let e = unused-row a.silent a.t a.row no in
    record { value = rw (no_line a.row no) (sym (add-zero _)); value_2 = rw e (sym (add-zero _)); out_after = rw e (sym (splice-none _ _)) }

pub put_line-requires : goal.put_line-requires
put_line-requires c =
    let a = c.args in
    let yes = sym c.is_used.ensures ∙ c.if-is_used.true in
    rw (one_line a.row yes) at c.requires

pub returns-then-is_used : goal.returns-then-is_used
returns-then-is_used c =
    let put = c.before.before in
    let no = put.before.before in
    let start = no.before.before.before in
    let a = start.args in
    let yes = sym no.is_used.ensures ∙ no.if-is_used.true in
    let e = used-row a.silent a.t a.row yes in
    let fits = line-fits a.silent a.t a.row (omega (arith, start), omega (arith, start)) in
    record { value = rw (one_line a.row yes); value_2 = rw (e, line-back.long (line_of a.silent a.t a.row) fits); out_after = rw e put.put_line.ensures }
