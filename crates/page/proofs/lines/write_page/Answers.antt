use Rattle.std.proofs.Common.{◌≡◌, ◌∙◌}
use Rattle.lists.proofs.Cases.{cases}
use Rattle.state.specs.Time.{later_day}
use Rattle.page.specs.Page.{page_text}
use Rattle.page.proofs.lines.write_page.Goals as goal

pub returns : goal.returns
unfolding page_text
returns c =
    let later : c.max-t.result ≡ later_day c.args.given c.args.s.day = c.max-t.ensures ∙ search cases in
    rw (c.is_silent.ensures, later) at c.put_rows.ensures
