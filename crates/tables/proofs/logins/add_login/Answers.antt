use Rattle.std.proofs.Common.{◌≡◌, length, refl, rules, arith, sym, ◌∙◌}
use borrow.Author.Tests.{eq-eqb, ne_eqb}
use Rattle.lists.proofs.Library.{place-some, place-none}
use Rattle.state.specs.Limits.{login_rows}
use Rattle.tables.specs.Code.{is_place}
use Rattle.tables.proofs.Added.{add-full, add-replaces, add-inserts}
use Rattle.tables.proofs.logins.add_login.Goals as goal

pub returns-in_default : goal.returns-in_default
returns-in_default c =
    let x = c.args.x in
    let long : length c.args.rows ≡ login_rows = search rules in
    let past = place-none (is_place x.login) c.args.rows (sym (c.place_of.ensures.found (is_place x.login) (λ x r k. search rules)) ∙ c.in_default.is) in
    add-full x c.args.rows _ long refl (omega (arith, past))

pub insert_row-requires : goal.insert_row-requires
insert_row-requires c =
    let x = c.args.x in
    let long : length c.args.rows ≡ login_rows = search rules in
    let place = place-some (is_place x.login) c.args.rows c.in-Some.at (sym (c.place_of.ensures.found (is_place x.login) (λ x r k. search rules)) ∙ c.in-Some.is) in
    omega (arith, place.1, long)

pub returns-then-rows-at : goal.returns-then-rows-at
returns-then-rows-at c =
    let x = c.args.x in
    let long : length c.args.rows ≡ login_rows = search rules in
    let place = place-some (is_place x.login) c.args.rows c.in-Some.at (sym (c.place_of.ensures.found (is_place x.login) (λ x r k. search rules)) ∙ c.in-Some.is) in
    c.insert_row.ensures ∙ add-inserts x c.args.rows c.in-Some.at long place.0 (ne_eqb _ _ c.if-rows-at.true)

pub returns : goal.returns
returns c =
    let x = c.args.x in
    let long : length c.args.rows ≡ login_rows = search rules in
    let place = place-some (is_place x.login) c.args.rows c.in-Some.at (sym (c.place_of.ensures.found (is_place x.login) (λ x r k. search rules)) ∙ c.in-Some.is) in
    add-replaces x c.args.rows c.in-Some.at long place.0 (eq-eqb _ _ c.if-rows-at.false)
