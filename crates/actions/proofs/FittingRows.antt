-- Rows that fit and are well formed, by the format and the tests, and by a property of each row.
use mathlib.Core.Path.{◌≡◌}
use mathlib.Core.Bool.{Bool, true, ◌&&◌, and-eq-true_iff}
use mathlib.Core.List.{List}
use Prim.Native.Nat.{ℕ}
use lib.ListN.{length}
use Rattle.lists.specs.Fold.{all}
use Rattle.lists.specs.Table.{rising_from}
use Rattle.lists.proofs.Every.{All, all_of, all-to, all_both, all_map}
use Rattle.lists.proofs.Tables.{IsTable, rising-of, rising-to}
use Rattle.binary.specs.Codec.{Codec, FitsRows}
use Rattle.binary.proofs.Codec.{fits_each, fits_count, fits-rows}

module _ {A : Type 0} (f : Codec A) (ok : A → Bool) where
  -- each number of the row is within its width, and the row is well formed
  abbrev pub Good : A → Type 0
  Good r = f.Fits r × (ok r ≡ true)

  -- n good rows
  pub rows_of : (n : ℕ) (rows : List A) → FitsRows f n rows → all ok rows ≡ true → (length rows ≡ n) × All Good rows
  rows_of n rows h e = (fits_count f n rows h, all_both (fits_each f n rows h) (all_of ok rows e))

  pub rows_fit : {n : ℕ} {rows : List A} → length rows ≡ n → All Good rows → FitsRows f n rows
  rows_fit l g = rw l at (fits-rows f (all_map (λ r h. h.0) g))

  pub rows_ok : {rows : List A} → All Good rows → all ok rows ≡ true
  rows_ok g = all-to ok (all_map (λ r h. h.1) g)

  -- a table of n good rows
  module _ (used : A → Bool) (key : A → ℕ) (lo n : ℕ) (rows : List A) where
    pub table_of : FitsRows f n rows → (rising_from used key lo rows && all ok rows) ≡ true → IsTable used key lo n Good rows
    table_of h e =
        let b = (and-eq-true_iff (rising_from used key lo rows) (all ok rows)).0 e in
        let t = rows_of n rows h b.1 in
        record { size = t.0; rising = rising-of lo rows b.0; each = t.1 }

    pub table_to : IsTable used key lo n Good rows → FitsRows f n rows × ((rising_from used key lo rows && all ok rows) ≡ true)
    table_to t =
        (rows_fit t.size t.each, (and-eq-true_iff (rising_from used key lo rows) (all ok rows)).1 (rising-to t.rising, rows_ok t.each))
