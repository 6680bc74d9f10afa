-- The bytes of grants: how many they are, and as they are written row by row.
use Prim.Native.Nat.{ℕ, suc, ◌+◌, ◌*◌, ◌≤◌, ◌<◌}
use native.Mathlib.Numerals.{add-one}
use native.Mathlib.Omega.{arith}
use mathlib.Core.Path.{◌≡◌, refl, sym, ap, ◌∙◌}
use mathlib.Core.List.{List, [], ◌∷◌, ◌++◌, append_assoc, append-nil}
use lib.ListN.{length, get_or, drop, length-append, drop_of_length-le}
use lib.Seq.{drop-cons}
use Rattle.lists.specs.Table.{fill}
use Rattle.binary.specs.Number.{to_bytes, overwrite}
use Rattle.binary.specs.Splice.{splice}
use Rattle.binary.proofs.Splices.{Wrote, put_next, splice-none, splice-overwrite}
use Rattle.state.specs.declared.Cycle.{Cycle}
use Rattle.state.specs.declared.Day.{Day}
use Rattle.state.specs.declared.Login.{Login}
use Rattle.state.specs.Time.{next_cycle}
use Rattle.records.specs.Layout.{announcement_size}
use Rattle.records.specs.Announcement.{announcement_bytes}
use Rattle.roster.specs.Calls.{grant_of, grants_of, bytes_of}

pub grant-size : (c : Cycle) (d : Day) (r : Login) → length (announcement_bytes (grant_of c d r)) ≡ announcement_size
unfolding announcement_bytes to_bytes fill
grant-size c d r = refl

pub grants-count : (c : Cycle) (d : Day) (rs : List Login) → length (grants_of c d rs) ≡ length rs
unfolding grants_of
grants-count c d [] = refl
grants-count c d (r ∷ rs) = ap suc (grants-count (next_cycle c) d rs)

pub grants-size : (c : Cycle) (d : Day) (rs : List Login) → length (bytes_of (grants_of c d rs)) ≡ announcement_size * length rs
unfolding bytes_of grants_of
grants-size c d [] = refl
grants-size c d (r ∷ rs) = rw length-append (omega (arith, grant-size c d r, grants-size (next_cycle c) d rs))

module _ (day : Day) where
  no-grants : (c : Cycle) → bytes_of (grants_of c day []) ≡ []
  unfolding bytes_of grants_of
  no-grants c = refl

  -- the first grant, then the others in the cycles after it
  first-grant : (c : Cycle) (r : Login) (rs : List Login)
      → bytes_of (grants_of c day (r ∷ rs)) ≡ announcement_bytes (grant_of c day r) ++ bytes_of (grants_of (next_cycle c) day rs)
  unfolding bytes_of grants_of
  first-grant c r rs = refl

  -- the grants of the rows before row i are written to the front of d₀, which gives d, and that of row i is in cycle `next`
  pub record GrantsWritten (c : Cycle) (rows : List Login) (d₀ : List ℕ) (i : ℕ) (next : Cycle) (d : List ℕ) : Type 0 where
    pub same_length : length d ≡ length d₀
    pub done : List ℕ
    pub wrote : Wrote d₀ 0 (announcement_size * i) done d
    pub rest : done ++ bytes_of (grants_of next day (drop i rows)) ≡ bytes_of (grants_of c day rows)

  pub written_none : (c : Cycle) (rows : List Login) (d : List ℕ) → GrantsWritten c rows d 0 c d
  written_none c rows d = record { same_length = refl; done = []; wrote = record { is = sym (splice-none d 0); ends = refl }; rest = refl }

  module _ (c : Cycle) (rows : List Login) (d₀ : List ℕ) (i : ℕ) (next : Cycle) (d : List ℕ) (h : GrantsWritten c rows d₀ i next d) where
    pub written_one : (x : Login) → i < length rows → announcement_size * length rows ≤ length d₀ → (d' : List ℕ) → length d' ≡ length d
        → d' ≡ splice d (announcement_size * i) (announcement_bytes (grant_of next day (get_or rows i x)))
        → GrantsWritten c rows d₀ (i + 1) (next_cycle next) d'
    written_one x k room d' same w =
        let row = get_or rows i x in
        let from_row : drop i rows ≡ row ∷ drop (i + 1) rows = drop-cons rows i x k ∙ rw add-one in
        let size = grant-size next day row in
        record {
          same_length = same ∙ h.same_length;
          done = h.done ++ announcement_bytes (grant_of next day row);
          wrote = put_next d₀ d d' h.done _ 0 _ _ h.wrote (omega arith) (omega (arith, size)) w;
          rest =
              append_assoc h.done _ _
              ∙ ap (λ (l : List ℕ). h.done ++ l) (sym (first-grant next row (drop (i + 1) rows)))
              ∙ ap (λ (l : List Login). h.done ++ bytes_of (grants_of next day l)) (sym from_row)
              ∙ h.rest;
        }

    pub written_all : length rows ≤ i → d ≡ overwrite (bytes_of (grants_of c day rows)) d₀
    written_all k =
        let none_left : bytes_of (grants_of next day (drop i rows)) ≡ [] =
        ap (λ (l : List Login). bytes_of (grants_of next day l)) (drop_of_length-le rows {i = i} k) ∙ no-grants next in
        let all_done : h.done ≡ bytes_of (grants_of c day rows) =
        sym (append-nil h.done) ∙ ap (λ (l : List ℕ). h.done ++ l) (sym none_left) ∙ h.rest in
        h.wrote.is ∙ ap (splice d₀ 0) all_done ∙ splice-overwrite d₀ _

-- the loop over the rows, up to its end
pub ruleset grants_written = (written_none, written_one)
