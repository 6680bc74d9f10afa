-- The lines of a table: row by row, and as they are written.
use Prim.Native.Nat.{ℕ, ◌+◌, ◌*◌, ◌^◌, ◌≤◌, ◌<◌}
use native.Mathlib.Numerals.{add-one}
use native.Mathlib.Omega.{arith}
use mathlib.Core.Path.{◌≡◌, refl, sym, ap, ◌∙◌}
use mathlib.Core.Bool.{Bool, true, false}
use mathlib.Core.List.{List, [], ◌∷◌, ◌++◌, append_assoc, append-nil}
use lib.Dec.{ltb}
use lib.ListN.{length, get_or, drop, length-append, drop_of_length-le}
use lib.Seq.{drop-cons}
use borrow.Author.Tests.{ltb-false}
use Rattle.lists.specs.Fold.{count}
use Rattle.lists.specs.Table.{keep}
use Rattle.lists.proofs.Tests.{cond_cases}
use Rattle.lists.proofs.Every.{All, none, more}
use Rattle.binary.specs.Codec.{encode_rows}
use Rattle.binary.specs.Number.{overwrite}
use Rattle.binary.specs.Splice.{splice}
use Rattle.binary.proofs.Splices.{Wrote, put_next, splice-none, splice-overwrite}
use Rattle.calendar.specs.Text.{last_day}
use Rattle.state.specs.declared.Day.{Day}
use Rattle.state.specs.declared.Login.{Login}
use Rattle.state.specs.Rows.{is_login}
use Rattle.page.specs.Layout.{line_size}
use Rattle.page.specs.Line.{HasDate, line}
use Rattle.page.specs.Page.{end_shown, line_of, lines_of}
use Rattle.page.proofs.ReadBack.{line-back}

-- an end day that is shown has a date
pub end_fits : (end : Day) → HasDate (end_shown end)
end_fits end = cond_cases HasDate (ltb last_day end.0) (λ _. tt) (λ e. ltb-false _ _ e)

-- a row of a table in memory: each number within its width
abbrev pub InWidth : Login → Type 0
InWidth r = (r.login < 2 ^ 32) × (r.rights < 2 ^ 16)

pub line-fits : (silent : Bool) (t : Day) (r : Login) → InWidth r → line.Fits (line_of silent t r)
line-fits silent t r h = (omega arith, (end_fits r.end, (h.1, tt)))

-- the size of its line, if it has one
pub one_line : (r : Login) → is_login r ≡ true → line_size * count is_login (r ∷ []) ≡ line_size
unfolding count
one_line r e = rw e

pub no_line : (r : Login) → is_login r ≡ false → line_size * count is_login (r ∷ []) ≡ 0
unfolding count
no_line r e = rw e

module _ (silent : Bool) (t : Day) where
  -- the line of a row that is used, and nothing for another
  pub used-row : (r : Login) → is_login r ≡ true → lines_of silent t (r ∷ []) ≡ line.encode (line_of silent t r)
  unfolding lines_of keep encode_rows
  used-row r e = rw e (append-nil (line.encode (line_of silent t r)))

  pub unused-row : (r : Login) → is_login r ≡ false → lines_of silent t (r ∷ []) ≡ []
  unfolding lines_of keep encode_rows
  unused-row r e = rw e

  no_rows : lines_of silent t [] ≡ []
  unfolding lines_of keep encode_rows
  no_rows = refl

  -- the first row, then the others
  first-row : (r : Login) (rs : List Login) → lines_of silent t (r ∷ rs) ≡ lines_of silent t (r ∷ []) ++ lines_of silent t rs
  unfolding lines_of keep encode_rows
  first-row r rs = by (is_login r) refl
    where
      by : (b : Bool) → is_login r ≡ b → lines_of silent t (r ∷ rs) ≡ lines_of silent t (r ∷ []) ++ lines_of silent t rs
      by true e = rw e (ap (λ (l : List ℕ). l ++ lines_of silent t rs) (sym (append-nil (line.encode (line_of silent t r)))))
      by false e = rw e

  -- the lines are as many as the used rows
  pub lines-size : {rows : List Login} → All InWidth rows → length (lines_of silent t rows) ≡ line_size * count is_login rows
  unfolding count lines_of keep encode_rows
  lines-size none = refl
  lines-size (more {x = r} {xs = rs} h hs) = by (is_login r) refl (lines-size hs)
    where
      by : (b : Bool) → is_login r ≡ b → length (lines_of silent t rs) ≡ line_size * count is_login rs
          → length (lines_of silent t (r ∷ rs)) ≡ line_size * count is_login (r ∷ rs)
      by true e s = rw (e, length-append) (omega (arith, line-back.long (line_of silent t r) (line-fits silent t r h)))
      by false e s = rw e (omega arith)

  -- the lines of the rows before row i are written to the front of d₀, up to index `at`, which gives d, and the others have their room
  pub record LinesWritten (rows : List Login) (d₀ : List ℕ) (i at : ℕ) (d : List ℕ) : Type 0 where
    pub same_length : length d ≡ length d₀
    pub done : List ℕ
    pub wrote : Wrote d₀ 0 at done d
    pub rest : done ++ lines_of silent t (drop i rows) ≡ lines_of silent t rows
    pub room : at + line_size * count is_login (drop i rows) ≤ length d₀

  pub written_none : (rows : List Login) (d : List ℕ) → line_size * count is_login rows ≤ length d → LinesWritten rows d 0 0 d
  written_none rows d r = record {
    same_length = refl;
    done = [];
    wrote = record { is = sym (splice-none d 0); ends = refl };
    rest = refl;
    room = omega arith;
  }

  module _ (rows : List Login) (d₀ : List ℕ) (i at : ℕ) (d : List ℕ) (h : LinesWritten rows d₀ i at d) where
    module _ (x : Login) (k : i < length rows) where
      abbrev row : Login
      row = get_or rows i x

      -- row i stands before the others
      from_row : drop i rows ≡ row ∷ drop (i + 1) rows
      from_row = drop-cons rows i x k ∙ rw add-one

      -- there is room for its line and for those behind it
      room_split : (at + line_size * count is_login (row ∷ [])) + line_size * count is_login (drop (i + 1) rows) ≤ length d₀
      unfolding count
      room_split = let r = rw from_row at h.room in omega arith

      pub room-for-row : at + line_size * count is_login (row ∷ []) ≤ length d
      room-for-row = omega (arith, room_split, h.same_length)

      pub written_one : (d' : List ℕ) (at' : ℕ) → length d' ≡ length d → at' ≡ at + line_size * count is_login (row ∷ [])
          → at' ≡ at + length (lines_of silent t (row ∷ [])) → d' ≡ splice d at (lines_of silent t (row ∷ []))
          → LinesWritten rows d₀ (i + 1) at' d'
      written_one d' at' same e s w = record {
        same_length = same ∙ h.same_length;
        done = h.done ++ lines_of silent t (row ∷ []);
        wrote = put_next d₀ d d' h.done _ 0 at at' h.wrote (omega (arith, room_split)) s w;
        rest =
            append_assoc h.done _ _
            ∙ ap (λ (l : List ℕ). h.done ++ l) (sym (first-row row (drop (i + 1) rows)))
            ∙ ap (λ (l : List Login). h.done ++ lines_of silent t l) (sym from_row)
            ∙ h.rest;
        room = rw e room_split;
      }

    pub written_all : length rows ≤ i → d ≡ overwrite (lines_of silent t rows) d₀
    written_all k =
        let none_left : lines_of silent t (drop i rows) ≡ [] = ap (lines_of silent t) (drop_of_length-le rows {i = i} k) ∙ no_rows in
        let all_done : h.done ≡ lines_of silent t rows =
        sym (append-nil h.done) ∙ ap (λ (l : List ℕ). h.done ++ l) (sym none_left) ∙ h.rest in
        h.wrote.is ∙ ap (splice d₀ 0) all_done ∙ splice-overwrite d₀ _
