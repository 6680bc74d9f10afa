use Prim.Native.Nat.{◌+◌}
use native.Mathlib.Omega.{arith}
use mathlib.Core.Path.{refl}
use mathlib.Core.List.{[], ◌∷◌}
use Rattle.binary.proofs.Splices.{put_first, put_next, put_last, lefts-rights}
use Rattle.page.specs.Layout.{end_at, rights_at, word_at}
use Rattle.page.specs.Line.{login_column, end_column, rights_column, word_column, ◌then◌, space, line_feed}
use Rattle.page.specs.Page.{end_shown, word_of}
use Rattle.page.proofs.ReadBack.{login-back, end_back, rights-back, then-back}
use Rattle.page.proofs.Rows.{end_fits}
use Rattle.page.proofs.lines.put_line.Goals as goal

pub returns : goal.returns
returns c =
    let word = c.before.before in
    let chosen = word.before.before in
    let rights = chosen.before.before.before in
    let end = rights.before.before.before.before in
    let login = end.before.before.before.before in
    let start = login.before.before.before in
    let a = start.args in
    let d = a.out.now in
    let r = a.row in
    let s₁ = (then-back login-back space).long r.login (omega (arith, start)) in
    let s₂ = (then-back end_back space).long (end_shown r.end) (end_fits r.end) in
    let s₃ = (then-back rights-back space).long r.rights (omega (arith, start)) in
    let w₁ = put_first d _ _ a.at (a.at + end_at) (rw s₁) login.put_login.ensures in
    let written = rw chosen.word_of.ensures at word.put_word.ensures in
    let w₂ = put_next d _ _ _ _ a.at _ (a.at + rights_at) w₁ (omega (arith, start)) (rw s₂ (omega arith)) end.put_end.ensures in
    let w₃ = put_next d _ _ _ _ a.at _ (a.at + word_at) w₂ (omega (arith, start)) (rw s₃ (omega arith)) rights.put_rights.ensures in
    let w₄ = put_next d _ _ _ _ a.at _ _ w₃ (omega (arith, start)) refl written in
    (put_last d _ _ _ a.at _ w₄
    (lefts-rights ((login_column then space).encode r.login)
    ((end_column then space).encode (end_shown r.end)
    ∷ (rights_column then space).encode r.rights
    ∷ (word_column then line_feed).encode (word_of a.silent a.t r)
    ∷ []))).1
