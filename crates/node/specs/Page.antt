-- "It gives the number of lines; a halted node still gives the page. Answers: 23, slice shorter than 47 bytes times the logins, tried after 1; a
-- longer slice keeps its tail."
use Rattle.std.specs.Prelude.{ℕ, ◌*◌, List, Bool, cond, leb, length}
use Rattle.binary.specs.Number.{overwrite}
use Rattle.state.specs.declared.Day.{Day}
use Rattle.page.specs.Layout.{line_size}
use Rattle.page.specs.Page.{line_count, page_text}
use Rattle.node.specs.declared.Node.{Node}
use Rattle.node.specs.Reply.{PageReply}
use Rattle.node.specs.PageAnswer.{Given, Refused}

-- the slice has room for the page
abbrev pub page_fits : Node → List ℕ → Bool
page_fits n out = leb (line_size * line_count n.state) (length out)

-- page, of a node and the output slice, on any day: what is handed back
unfoldable pub page_of : Node → List ℕ → PageReply
page_of n out = record { node = n; answer = cond (page_fits n out) (Given (line_count n.state)) (Refused 23) }

-- and what the output slice then holds, for the given day
unfoldable pub page_slice : Node → Day → List ℕ → List ℕ
page_slice n given out = cond (page_fits n out) (overwrite (page_text n.state given) out) out
