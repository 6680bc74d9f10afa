-- The merge of sums is the sum of the merges; and a share of a sum is the sum of the shares.
use Rattle.std.specs.Prelude.{Ok, Err}
use mathlib.Core.Path.{◌≡◌, sym, ap, ap₂, ◌∙◌}
use mathlib.Core.Bool.{true}
use mathlib.Core.List.{List, ◌++◌, append-nil}
use Prim.Native.Nat.{ℕ, ◌+◌, ◌*◌, ◌-◌, ◌≤◌, ◌<◌}
use native.Mathlib.Omega.{arith}
use borrow.Author.Tests.{le-leb}
use lib.ListN.{length, take, drop, length-append, length-drop, get_or-append, drop_of_length-le}
use lib.Seq.{length-take-le, take-append-le, drop-append-le}
use Rattle.lists.specs.Fold.{Distinct}
use Rattle.lists.proofs.Tests.{clash}
use Rattle.binary.specs.Number.{Bytes, byte_at, overwrite}
use Rattle.gf256.specs.Field.{add}
use Rattle.refusals.specs.declared.Refusal.TheVariants.{OutOfRange, BadShareNumber, TooShort}
use Rattle.shares.specs.Polynomial.{sums, value_at_zero}
use Rattle.shares.specs.Shares.{key_size, most_shares, bytes_of, merged_key}
use Rattle.shares.specs.Calls.{merge_of, add_of}
use Rattle.shares.specs.Claims.{InRange, AreNumbers, share_in, MergeAnswering}
use Rattle.shares.specs.Claims as C
use Rattle.shares.specs.Renewal.{AddAnswering, MergesAdd, EachAddsAlone}
use Rattle.shares.specs.Renewal as R
use Rattle.shares.proofs.Tabulated.{tabulate-ext}
use Rattle.shares.proofs.Sums.{sums-length, sums_at, sums-bytes, sums-take, sums-drop, tabulate-sums, polynomials-add, values-add}
use Rattle.shares.proofs.Outcomes.{merge_fits, merge-given, add_fits, add-given}
use Rattle.shares.proofs.Arguments.{range-to, numbers-to}
use Rattle.shares.proofs.Interpolation.{interpolates, value-at-zero}
use Rattle.shares.proofs.Places.{column-run}
use Rattle.shares.proofs.GivingBack.{numbers-bytes}
use Rattle.shares.proofs.Answering.{merge-answers, add-answers}

-- ---- a sum that was given: what it was given, and what it left

record Summed (first second out : List ℕ) : Type 0 where
  pub second-size : length first ≤ length second
  pub room : length first ≤ length out
  pub is : (add_of first second out).slice ≡ overwrite (sums first second) out

summed : (first second out : List ℕ) → (add_of first second out).answer ≡ Ok (length first) → Summed first second out
summed first second out g = go (add-answers first second out)
  where
    go : AddAnswering first second out (add_of first second out) → Summed first second out
    go (R.too_short n e) = let z : Err TooShort ≡ Ok (length first) = ap (λ x. x.answer) (sym e) ∙ g in clash (cc)
    go (R.given a b e) = record { second-size = a; room = b; is = ap (λ x. x.slice) e }

-- ---- merges

-- the value at 0 of the polynomials through two lists of values: the law of the sum, for the two and at 0
value-sum : (xs ys zs : List ℕ) → Bytes xs → Distinct xs → length xs ≡ length ys → length xs ≡ length zs → Bytes ys → Bytes zs
    → value_at_zero xs (sums ys zs) ≡ add (value_at_zero xs ys) (value_at_zero xs zs)
value-sum xs ys zs hx d n m hy hz =
    let p = interpolates xs ys n hx hy d in
    let q = interpolates xs zs m hx hz d in
    let same : length p.0 ≡ length q.0 = p.1.run.size ∙ sym q.1.run.size in
    ap (value_at_zero xs) (ap₂ sums (sym p.1.through) (sym q.1.through) ∙ sym (values-add xs p.0 q.0 same))
    ∙ value-at-zero xs (sums p.0 q.0) (sym (sums-length p.0 q.0 (omega arith) ∙ p.1.run.size)) hx
    (sums-bytes p.0 q.0 p.1.run.bytes q.1.run.bytes) d
    ∙ polynomials-add 0 p.0 q.0 same
    ∙ ap₂ add (sym p.1.at_zero) (sym q.1.at_zero)

module _ (k n : ℕ) (numbers first second out : List ℕ) (hf : Bytes first) (hs : Bytes second) (below : n ≤ most_shares) (ln : k ≤ length numbers)
    (a : AreNumbers n (take k numbers)) (lf : key_size * k ≤ length first) (ls : length first ≤ length second) where
  xs-bytes : Bytes (take k numbers)
  xs-bytes = numbers-bytes n (take k numbers) below a

  lx : length (take k numbers) ≡ k
  lx = length-take-le k numbers ln

  -- byte b of the shares in the slice that a sum left
  column-sum : (b : ℕ) → b < key_size → bytes_of k (overwrite (sums first second) out) b ≡ sums (bytes_of k first b) (bytes_of k second b)
  unfolding bytes_of overwrite
  column-sum b h =
      tabulate-ext k (λ j. byte_at (key_size * j + b) (sums first second ++ drop (length (sums first second)) out)) _
      (λ j l.
      let at = key_size * j + b in
      let within : at < length first = omega arith in
      get_or-append (sums first second) _ 0 at (omega (arith, sums-length first second ls))
      ∙ sums_at first second at within (omega arith))
      ∙ tabulate-sums k (λ j. byte_at (key_size * j + b) first) (λ j. byte_at (key_size * j + b) second)

  merged-sum : merged_key k numbers (overwrite (sums first second) out) ≡ sums (merged_key k numbers first) (merged_key k numbers second)
  unfolding merged_key
  merged-sum =
      let xs = take k numbers in
      tabulate-ext key_size (λ b. value_at_zero xs (bytes_of k (overwrite (sums first second) out) b)) _
      (λ b h.
      let p = column-run k first b hf in
      let q = column-run k second b hs in
      ap (value_at_zero xs) (column-sum b h)
      ∙ value-sum xs (bytes_of k first b) (bytes_of k second b) xs-bytes a.distinct (lx ∙ sym p.size) (lx ∙ sym q.size) p.bytes q.bytes)
      ∙ tabulate-sums key_size (λ b. value_at_zero xs (bytes_of k first b)) (λ b. value_at_zero xs (bytes_of k second b))

-- what a merge that gave a key was given
record Merged (k n : ℕ) (numbers shares out : List ℕ) : Type 0 where
  pub range : InRange k n
  pub each : AreNumbers n (take k numbers)
  pub enough : k ≤ length numbers
  pub shares-size : key_size * k ≤ length shares
  pub room : key_size ≤ length out

merged : (k n : ℕ) (numbers shares out : List ℕ) → (merge_of k n numbers shares out).answer ≡ Ok tt → Merged k n numbers shares out
merged k n numbers shares out g = go (merge-answers k n numbers shares out)
  where
    go : MergeAnswering k n numbers shares out (merge_of k n numbers shares out) → Merged k n numbers shares out
    go (C.out_of_range r e) = let z : Err OutOfRange ≡ Ok tt = ap (λ x. x.answer) (sym e) ∙ g in clash (cc)
    go (C.bad-number r a e) = let z : Err BadShareNumber ≡ Ok tt = ap (λ x. x.answer) (sym e) ∙ g in clash (cc)
    go (C.too_short r a f e) = let z : Err TooShort ≡ Ok tt = ap (λ x. x.answer) (sym e) ∙ g in clash (cc)
    go (C.given r a b c d e) = record { range = r; each = a; enough = b; shares-size = c; room = d }

pub merges-add : MergesAdd
unfolding overwrite
merges-add k n numbers first second key_out hf hs g sum gs =
    let m = merged k n numbers first key_out g in
    let s = summed first second sum gs in
    let slice = overwrite (sums first second) sum in
    let size = length-append (sums first second) (drop (length (sums first second)) sum) in
    let fits : merge_fits k n numbers slice key_out ≡ true =
    rw (
      le-leb k (length numbers) m.enough,
      le-leb (key_size * k) (length slice) (omega (arith, size, sums-length first second s.second-size, m.shares-size)),
      le-leb key_size (length key_out) m.room,
    ) in
    ap (λ (l : List ℕ). merge_of k n numbers l key_out) s.is
    ∙ merge-given k n numbers slice key_out (range-to k n m.range) (numbers-to n (take k numbers) m.each) fits
    ∙ ap (λ (l : List ℕ). record { answer = Ok tt; slice = overwrite l key_out })
    (merged-sum k n numbers first second sum hf hs m.range.n-below m.enough m.each m.shares-size s.second-size)

-- ---- one share

pub each-adds-alone : EachAddsAlone
unfolding overwrite
each-adds-alone first second sum g x above within own size =
    let s = summed first second sum g in
    let at = key_size * (x - 1) in
    let all = sums first second in
    let tail = drop (length all) sum in
    let l-all : length all ≡ length first = sums-length first second s.second-size in
    let mine = share_in first x in
    let more = share_in second x in
    let lm : length mine ≡ key_size = length-take-le key_size (drop at first) (omega (arith, length-drop at first)) in
    let lo : length more ≡ key_size = length-take-le key_size (drop at second) (omega (arith, length-drop at second, s.second-size)) in
    let both : length (sums mine more) ≡ key_size = sums-length mine more (omega (arith, lm, lo)) ∙ lm in
    let fits : add_fits mine more own ≡ true =
    rw (le-leb (length mine) (length more) (omega (arith, lm, lo)), le-leb (length mine) (length own) (omega (arith, lm))) in
    let share : share_in (all ++ tail) x ≡ sums mine more =
    ap (take key_size) (drop-append-le at all tail (omega arith))
    ∙ take-append-le key_size (drop at all) tail (omega (arith, length-drop at all))
    ∙ ap (take key_size) (sums-drop at first second)
    ∙ sums-take key_size (drop at first) (drop at second) in
    add-given mine more own fits
    ∙ ap₂ (λ (m : ℕ) (l : List ℕ). record { answer = Ok m; slice = l }) lm
    (ap (λ (l : List ℕ). sums mine more ++ l) (drop_of_length-le own (let h : length own ≤ length (sums mine more) = omega (arith, both, size) in h))
    ∙ append-nil (sums mine more)
    ∙ sym (ap (λ (l : List ℕ). share_in l x) s.is ∙ share))
