use Rattle.std.proofs.Common.{◌≡◌, sym, ◌∙◌}
use lib.ListN.{drop}
use Rattle.lists.specs.Fold.{all}
use Rattle.lists.specs.Code.{is_filled, is_spare}
use Rattle.lists.proofs.Fronts.{counted-front}
use Rattle.binary.specs.Codec.{decode_rows}
use Rattle.binary.proofs.Zeros.{ZeroTest, rows-zero}
use Rattle.checkpoint.proofs.rows.are_rows.Goals as goal

pub returns : goal.returns
returns g c = λ fine answers.
    let f = g.T.Stored.format in
    let b = c.args.table.now in
    let rows = decode_rows f g.row.N b in
    let spare = is_spare g.T.Row.used g.T.Zeroed.blank in
    let front = counted-front g.T.Row.used g.T.Row.key fine g.T.Zeroed.blank c.args.number c.args.first rows in
    let leads = c.leading-n.ensures.leads (is_filled g.T.Row.used fine) answers in
    let wide : c.SIZE-size.result ≡ f.width = c.SIZE-size.ensures ∙ sym g.met.T.Stored.wide in
    let test : ZeroTest f spare = record { passes = g.met.T.Zeroed.zero } in
    let zero : c.is_zero_from.result ≡ all spare (drop c.leading-n.result rows) =
    c.is_zero_from.ensures ∙ rw wide (sym (rows-zero test g.row.N c.leading-n.result b)) in
    rw (c.from.ensures, zero, leads) (sym front)
