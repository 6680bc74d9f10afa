-- One turn of a loop over a list, and its end, for each fold and each operation on tables. The loop stands at index i of the list.
use mathlib.Core.Path.{◌≡◌, sym, ap, ◌∙◌}
use mathlib.Core.Bool.{Bool, true, false, cond, ◌&&◌, ◌||◌}
use mathlib.Core.List.{List, ◌∷◌, ◌++◌, append_assoc, append-nil}
use Prim.Native.Nat.{ℕ, suc, ◌+◌, ◌-◌, ◌<◌, ◌≤◌}
use native.Mathlib.Numerals.{add-one}
use native.Mathlib.Omega.{arith}
use lib.Dec.{leb}
use lib.ListN.{length, get_or, take, drop, set, replicate, drop_of_length-le, length-set, take-append-drop}
use lib.Seq.{drop-cons, take-suc-set, drop-set-lt, take_all, length-take-le, take-append_seam}
use Rattle.lists.specs.Fold.{any, all, count, first, least}
use Rattle.lists.specs.Table.{keep, fill}
use Rattle.lists.specs.Code.{leading, index_of, insert_at}

-- A turn, where the element at i passes the test or does not. The value d is that of indices that the list does not have.
module _ {A : Type 0} (p : A → Bool) (l : List A) (i : ℕ) (d : A) (h : i < length l) where
  pub count-pass : p (get_or l i d) ≡ true → count p (drop i l) ≡ 1 + count p (drop (i + 1) l)
  unfolding count
  count-pass e = rw (add-one, drop-cons l i d h, e)

  pub count-fail : p (get_or l i d) ≡ false → count p (drop i l) ≡ count p (drop (i + 1) l)
  unfolding count
  count-fail e = rw (add-one, drop-cons l i d h, e) (omega arith)

  pub any-turn : any p (drop i l) ≡ (p (get_or l i d) || any p (drop (i + 1) l))
  unfolding any
  any-turn = rw (add-one, drop-cons l i d h)

  pub all-turn : all p (drop i l) ≡ (p (get_or l i d) && all p (drop (i + 1) l))
  unfolding all
  all-turn = rw (add-one, drop-cons l i d h)

  pub all_pass : p (get_or l i d) ≡ true → all p (drop i l) ≡ all p (drop (i + 1) l)
  unfolding all
  all_pass e = rw (add-one, drop-cons l i d h, e)

  pub all-fail : p (get_or l i d) ≡ false → all p (drop i l) ≡ false
  unfolding all
  all-fail e = rw (drop-cons l i d h, e)

  pub first-pass : (z : A) → p (get_or l i d) ≡ true → first p z (drop i l) ≡ get_or l i d
  unfolding first
  first-pass z e = rw (drop-cons l i d h, e)

  pub first-fail : (z : A) → p (get_or l i d) ≡ false → first p z (drop i l) ≡ first p z (drop (i + 1) l)
  unfolding first
  first-fail z e = rw (add-one, drop-cons l i d h, e)

  pub index-pass : p (get_or l i d) ≡ true → index_of p (drop i l) ≡ 0
  unfolding index_of
  index-pass e = rw (drop-cons l i d h, e)

  pub index-fail : p (get_or l i d) ≡ false → index_of p (drop i l) ≡ 1 + index_of p (drop (i + 1) l)
  unfolding index_of
  index-fail e = rw (add-one, drop-cons l i d h, e) (omega arith)

-- The end, where no element is left.
module _ {A : Type 0} (p : A → Bool) (l : List A) (i : ℕ) (h : length l ≤ i) where
  pub count-end : count p (drop i l) ≡ 0
  unfolding count
  count-end = rw (drop_of_length-le l {i = i} h)

  pub any-end : any p (drop i l) ≡ false
  unfolding any
  any-end = rw (drop_of_length-le l {i = i} h)

  pub all_end : all p (drop i l) ≡ true
  unfolding all
  all_end = rw (drop_of_length-le l {i = i} h)

  pub first-end : (z : A) → first p z (drop i l) ≡ z
  unfolding first
  first-end z = rw (drop_of_length-le l {i = i} h)

  pub index-end : index_of p (drop i l) ≡ 0
  unfolding index_of
  index-end = rw (drop_of_length-le l {i = i} h)

-- A loop that has found x to come before the elements so far.
module _ {A : Type 0} (before : A → A → Bool) (x : A) (l : List A) (i : ℕ) where
  pub least-turn : (d : A) → i < length l → least before x (drop i l) ≡ least before (cond (before (get_or l i d) x) (get_or l i d) x) (drop (i + 1) l)
  unfolding least
  least-turn d h = rw (add-one, drop-cons l i d h)

  pub least-end : length l ≤ i → least before x (drop i l) ≡ x
  unfolding least
  least-end h = rw (drop_of_length-le l {i = i} h)

-- A loop that copies the rows that pass into a table of n unused rows.
module _ {A : Type 0} (p : A → Bool) (n : ℕ) (z : A) where
  -- out has the rows kept of the first i rows of l, of which there are j, and then unused ones
  pub record Kept (l : List A) (i j : ℕ) (out : List A) : Type 0 where
    pub size : length out ≡ n
    pub within : j ≤ i
    pub done : take j out ++ keep p (drop i l) ≡ keep p l
    pub rest : drop j out ≡ replicate (n - j) z

  module _ (l : List A) (i : ℕ) (d : A) (h : i < length l) (m : length l ≤ n) (j : ℕ) (out : List A) (k : Kept l i j out) where
    pub keep-pass : p (get_or l i d) ≡ true → Kept l (i + 1) (j + 1) (set out j (get_or l i d))
    unfolding keep
    keep-pass e =
        let x = get_or l i d in
        let jl : j < length out = omega (arith, k.size, k.within) in
        let more : n - j ≡ suc (n - suc j) = omega (arith, k.size) in
        let split : drop j out ≡ get_or out j z ∷ drop (suc j) out = drop-cons out j z jl in
        let last : drop j out ≡ z ∷ replicate (n - suc j) z = k.rest ∙ ap (λ (q : ℕ). replicate q z) more in
        let less : drop (suc j) out ≡ replicate (n - suc j) z = cc in
        record {
          size = length-set out j x ∙ k.size;
          within = omega (arith, k.within);
          done = rw (add-one j, add-one i, take-suc-set out j x jl, append_assoc) (rw (drop-cons l i d h, e) at k.done);
          rest = rw (add-one, drop-set-lt (suc j) out j x (omega arith)) less;
        }

    pub keep-fail : p (get_or l i d) ≡ false → Kept l (i + 1) j out
    unfolding keep
    keep-fail e = record {
      size = k.size;
      within = omega (arith, k.within);
      done = rw add-one (rw (drop-cons l i d h, e) at k.done);
      rest = k.rest;
    }

  pub keep-end : (l : List A) (i j : ℕ) (out : List A) → length l ≤ i → i ≤ n → Kept l i j out → out ≡ fill n z (keep p l)
  unfolding keep fill
  keep-end l i j out h m k =
      let jl : j ≤ length out = omega (arith, k.size, k.within) in
      let done : take j out ≡ keep p l = sym (append-nil (take j out)) ∙ (rw (drop_of_length-le l {i = i} h) at k.done) in
      let size : length (keep p l) ≡ j = ap length (sym done) ∙ length-take-le j out jl in
      sym (take-append-drop j out) ∙ rw (done, k.rest, size)

-- A loop that moves each row from i on to the next place.
module _ {A : Type 0} (x : A) (l : List A) (i : ℕ) where
  pub insert-turn : (d : A) → i < length l → insert_at (i + 1) (get_or l i d) (set l i x) ≡ insert_at i x l
  unfolding insert_at
  insert-turn d h = rw (add-one, length-set l i x, take-suc-set l i x h, drop-set-lt (suc i) l i x (omega arith), append_assoc, drop-cons l i d h)

  pub insert-end : length l ≤ i → insert_at i x l ≡ l
  unfolding insert_at
  insert-end h = rw (take_all i l h) (take-append_seam l _)

-- A loop that counts the rows at the front that pass and are in order.
module _ {A : Type 0} (p : A → Bool) (key : A → ℕ) (l : List A) (i lo : ℕ) where
  pub leading-pass : (d : A) → i < length l → (leb lo (key (get_or l i d)) && p (get_or l i d)) ≡ true
      → leading p key lo (drop i l) ≡ 1 + leading p key (key (get_or l i d) + 1) (drop (i + 1) l)
  unfolding leading
  leading-pass d h e = rw (add-one (key (get_or l i d)), add-one i, drop-cons l i d h, e) (omega arith)

  pub leading-fail : (d : A) → i < length l → (leb lo (key (get_or l i d)) && p (get_or l i d)) ≡ false → leading p key lo (drop i l) ≡ 0
  unfolding leading
  leading-fail d h e = rw (drop-cons l i d h, e)

  pub leading_end : length l ≤ i → leading p key lo (drop i l) ≡ 0
  unfolding leading
  leading_end h = rw (drop_of_length-le l {i = i} h)
