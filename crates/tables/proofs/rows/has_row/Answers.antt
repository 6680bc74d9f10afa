use Rattle.std.proofs.Common.{◌≡◌, ◌<◌, ◌||◌, ◌+◌, Bool, true, false, length, rules, refl, sym, ap, ◌∙◌}
use lib.ListN.{drop}
use Rattle.lists.specs.Fold.{any}
use Rattle.lists.proofs.Loops.{any-turn, any-end}
use Rattle.tables.proofs.rows.has_row.Goals as goal

joined : (a b c : Bool) → (a || (b || c)) ≡ ((a || b) || c)
joined true b c = refl
joined false b c = refl

or-false : (a : Bool) → (a || false) ≡ a
or-false true = refl
or-false false = refl

pub loop-row-preserved : goal.loop-row-preserved
loop-row-preserved g c = λ p answers.
    let rows = c.args.rows in
    let i = c.loop-row.row-index in
    let found = c.loop-row.found in
    let rest = any p (drop (i + 1) rows) in
    let h : i < length rows = search rules in
    c.loop-row.invariant p answers ∙ ap (λ t. found || t) (any-turn p rows i c.row-item.result h)
    ∙ joined found _ rest
    ∙ ap (λ t. (found || t) || rest) (sym (answers _ _ c.passes-found.ensures))

pub returns : goal.returns
returns g c = λ p answers.
    let found = c.loop-row.found in
    sym (c.loop-row.invariant p answers ∙ ap (λ t. found || t) (any-end p c.args.rows c.loop-row.row-index (search rules)) ∙ or-false found)
