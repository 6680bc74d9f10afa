-- What trustees can rely on when shares are added, and a set of them is renewed.
use Rattle.std.specs.Prelude.{◌≡◌, ℕ, suc, ◌+◌, ◌*◌, ◌-◌, ◌≤◌, ◌<◌, length, take, drop, Result, Ok, Err}
use mathlib.Core.List.{List, [], ◌∷◌, ◌++◌, Memᴰ}
use Rattle.binary.specs.Number.{Bytes, overwrite}
use Rattle.gf256.specs.Field.{add}
use Rattle.refusals.specs.declared.Refusal.{Refusal}
use Rattle.refusals.specs.declared.Refusal.TheVariants.{TooShort}
use Rattle.shares.specs.Polynomial.{eval, values, sums}
use Rattle.shares.specs.Shares.{key_size, tabulate, merged_key}
use Rattle.shares.specs.Calls.{Outcome, split_of, merge_of, add_of}
use Rattle.shares.specs.Claims.{InRange, share_in, chosen, AnyGive, Fewer, IsRun, Bijection}

-- ---- sums

-- A sum answers 28 where one of the other slices is shorter than the first, and leaves the slice as it was; else the number of bytes.
pub data AddAnswering (first second out : List ℕ) (x : Outcome (Result ℕ Refusal)) : Type 0 where
  too_short : ¬ ((length first ≤ length second) × (length first ≤ length out)) → x ≡ record { answer = Err TooShort; slice = out }
      → AddAnswering first second out x
  given : length first ≤ length second → length first ≤ length out
      → x ≡ record { answer = Ok (length first); slice = overwrite (sums first second) out } → AddAnswering first second out x

abbrev pub AddAnswers : Type 0
AddAnswers = (first second out : List ℕ) → AddAnswering first second out (add_of first second out)

-- The law of the sum, from which those of shares, keys and merges follow: the value of the sum of two polynomials is the sum of their values.
abbrev pub PolynomialsAdd : Type 0
PolynomialsAdd = (x : ℕ) (cs ds : List ℕ) → length cs ≡ length ds → eval x (sums cs ds) ≡ add (eval x cs) (eval x ds)

-- the n shares at the front of a slice
abbrev pub front : ℕ → List ℕ → List ℕ
front n slice = take (key_size * n) slice

-- "shares of two keys, made with the same k and n and added byte for byte in the field, are shares of the two keys' sum": those of a split with the sum
-- of the coefficients.
abbrev pub SharesAdd : Type 0
SharesAdd = (k n : ℕ) (key key' cs cs' out out' : List ℕ) → (split_of key k n cs out).answer ≡ Ok n → (split_of key' k n cs' out').answer ≡ Ok n
    → (sum : List ℕ) → key_size * n ≤ length sum
    → add_of (front n (split_of key k n cs out).slice) (split_of key' k n cs' out').slice sum
    ≡ record { answer = Ok (key_size * n); slice = (split_of (sums key key') k n (sums cs cs') sum).slice }

-- "The merged sum must come out whichever k share numbers are used."
abbrev pub SummedSharesGiveTheSum : Type 0
SummedSharesGiveTheSum = (k n : ℕ) (key key' cs cs' out out' : List ℕ) → Bytes key → Bytes key' → Bytes cs → Bytes cs'
    → (split_of key k n cs out).answer ≡ Ok n → (split_of key' k n cs' out').answer ≡ Ok n
    → (sum : List ℕ) → key_size * n ≤ length sum
    → AnyGive k n (add_of (front n (split_of key k n cs out).slice) (split_of key' k n cs' out').slice sum).slice (sums (take key_size key) (take key_size key'))

-- The same of any shares, right or wrong: the merge of the sums is the sum of the merges.
abbrev pub MergesAdd : Type 0
MergesAdd = (k n : ℕ) (numbers first second key_out : List ℕ) → Bytes first → Bytes second → (merge_of k n numbers first key_out).answer ≡ Ok tt
    → (sum : List ℕ) → (add_of first second sum).answer ≡ Ok (length first)
    → merge_of k n numbers (add_of first second sum).slice key_out
    ≡ record { answer = Ok tt; slice = overwrite (sums (merged_key k numbers first) (merged_key k numbers second)) key_out }

-- Each trustee can add alone: his share of the sum is the sum of his shares.
abbrev pub EachAddsAlone : Type 0
EachAddsAlone = (first second sum : List ℕ) → (add_of first second sum).answer ≡ Ok (length first)
    → (x : ℕ) → 1 ≤ x → key_size * x ≤ length first → (own : List ℕ) → length own ≡ key_size
    → add_of (share_in first x) (share_in second x) own ≡ record { answer = Ok key_size; slice = share_in (add_of first second sum).slice x }

-- ---- renewal

abbrev pub zero_key : List ℕ
zero_key = tabulate key_size (λ _. 0)

-- A set of shares renewed: "adding shares of the zero key", which is split with the coefficients zs. Both calls write to a slice with room.
unfoldable pub renewed : ℕ → ℕ → List ℕ → List ℕ → List ℕ → List ℕ
renewed k n room shares zs = (add_of (front n shares) (split_of zero_key k n zs room).slice room).slice

-- A renewed set is a set of the same key, split with the sum of the coefficients. So it can be renewed again, and what holds of a split holds of it.
abbrev pub RenewedIsSplit : Type 0
RenewedIsSplit = (k n : ℕ) (key cs out : List ℕ) → (split_of key k n cs out).answer ≡ Ok n
    → (zs room : List ℕ) → key_size * (k - 1) ≤ length zs → key_size * n ≤ length room
    → (renewed k n room (split_of key k n cs out).slice zs ≡ (split_of key k n (sums cs zs) room).slice)
    × ((split_of key k n (sums cs zs) room).answer ≡ Ok n)

-- a set after any number of renewals, with these coefficients
unfoldable pub renewed_by : ℕ → ℕ → List ℕ → List ℕ → List (List ℕ) → List ℕ
renewed_by k n room shares [] = shares
renewed_by k n room shares (zs ∷ zss) = renewed_by k n room (renewed k n room shares zs) zss

-- Renewed as often as one likes, any k shares give the key.
abbrev pub RenewedSharesGiveTheKey : Type 0
RenewedSharesGiveTheKey = (k n : ℕ) (key cs out : List ℕ) → Bytes key → Bytes cs → (split_of key k n cs out).answer ≡ Ok n
    → (zss : List (List ℕ)) → ((zs : List ℕ) → Memᴰ zs zss → IsRun (key_size * (k - 1)) zs) → (room : List ℕ) → key_size * n ≤ length room
    → AnyGive k n (renewed_by k n room (split_of key k n cs out).slice zss) (take key_size key)

-- ---- what a thief learns

-- For the old shares at any k-1 numbers together with the new shares at any k-1 numbers, the same or others, and each candidate key byte, exactly one
-- choice of both sets of coefficients, one behind the other, gives them.
abbrev pub RenewalHidesTheByte : Type 0
RenewalHidesTheByte = (k n : ℕ) → InRange k n → (old new : List ℕ) → Fewer k n old → Fewer k n new → (byte : ℕ) → byte < 256
    → Bijection ((k - 1) + (k - 1))
    (λ l. let cs = take (k - 1) l in let zs = drop (k - 1) l in values (byte ∷ cs) old ++ values (sums (byte ∷ cs) (0 ∷ zs)) new)

-- What a thief takes who comes after each of some renewals: shares with the numbers of each visit. zs has the coefficients of all renewals, one behind
-- the other.
unfoldable pub taken : ℕ → ℕ → List ℕ → List ℕ → List (List ℕ) → List ℕ → List ℕ
taken k n room shares [] zs = []
taken k n room shares (numbers ∷ visits) zs =
    let each = key_size * (k - 1) in
    let now = renewed k n room shares (take each zs) in
    chosen now numbers ++ taken k n room now visits (drop each zs)

-- The same of whole keys and of what the calls leave in their slices, with any number of renewals: whatever the k-1 shares are that a thief takes of the
-- set and after each renewal, each key has exactly one choice of all coefficients that gives them. So he knows no more of the key than before, where the
-- coefficients were drawn with equal chances.
abbrev pub RenewalsHideTheKey : Type 0
RenewalsHideTheKey = (k n : ℕ) → InRange k n → (first : List ℕ) → Fewer k n first
    → (visits : List (List ℕ)) → ((numbers : List ℕ) → Memᴰ numbers visits → Fewer k n numbers)
    → (key : List ℕ) → IsRun key_size key → (out room : List ℕ) → key_size * n ≤ length out → key_size * n ≤ length room
    → let each = key_size * (k - 1) in
    Bijection (each * suc (length visits))
    (λ l. let shares = (split_of key k n (take each l) out).slice in chosen shares first ++ taken k n room shares visits (drop each l))
