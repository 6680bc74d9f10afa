-- One turn of each loop of the code, and its end. A loop that goes down stands before index i, of which it then takes the element at i - 1.
use mathlib.Core.Path.{◌≡◌, refl, sym, ap, ap₂, subst, ◌∙◌}
use mathlib.Core.Bool.{Bool, true, false, ◌&&◌, ◌||◌, not, and-false}
use mathlib.Core.Logic.{◌≢◌}
use mathlib.Core.List.{List, [], ◌∷◌, ◌++◌, append-nil}
use Prim.Native.Nat.{ℕ, zero, suc, ◌+◌, ◌*◌, ◌-◌, ◌<◌, ◌≤◌}
use native.Mathlib.Nat.{not-suc-le-zero, le_of_suc-le-suc, le_trans, le_of_eq, mul-suc, mul_comm, mul-le-mul_left}
use native.Mathlib.Numerals.{add-one}
use native.Mathlib.Omega.{arith}
use borrow.Author.Tests.{le-leb}
use borrow.Rule.Slice.PartMut.{put_mid}
use lib.Dec.{eqb, leb}
use lib.ListN.{length, take, drop, length-append, get_or, set, length-set, length-drop, drop_of_length-le, get_or-append}
use lib.Seq.{drop-cons, drop-length, drop_at, take-suc, take_all, length-take-le, set_split, get_or-take}
use Rattle.std.specs.List.{list_any}
use Rattle.std.proofs.lemmas.Bool.Decides.{nat_tests}
use Rattle.lists.specs.Fold.{any}
use Rattle.gf256.specs.Field.{add, mul, divide}
use Rattle.gf256.proofs.Laws.{add_assoc, add_comm}
use Rattle.shares.specs.Polynomial.{eval}
use Rattle.shares.specs.Shares.{key_size, tabulate, coefficients_of, bytes_of, are_numbers}
use Rattle.shares.specs.Code.{weighed, total, weights, weighted_sum}
use Rattle.shares.proofs.Tabulated.{tabulate-length}

before : (i : ℕ) → suc i - 1 ≡ i
before i = omega arith

-- ---- values of polynomials

pub eval-turn : (x i : ℕ) (cs : List ℕ) → i < length cs → add (get_or cs i 0) (mul x (eval x (drop (suc i) cs))) ≡ eval x (drop i cs)
unfolding eval
eval-turn x i cs h = rw (drop-cons cs i 0 h)

pub eval-end : (x : ℕ) (cs : List ℕ) → 0 ≡ eval x (drop (length cs) cs)
unfolding eval
eval-end x cs = rw (drop-length cs)

-- ---- slices that begin at an index or behind it

pub from_is : (j : ℕ) (l : List ℕ) → take (length l - j) (drop j l) ≡ drop j l
from_is j l = take_all (length l - j) (drop j l) (omega (arith, length-drop j l))

abbrev pub behind_index : ℕ → List ℕ → List ℕ
behind_index j l = take (length l - (j + 1)) (drop (j + 1) l)

behind_is : (j : ℕ) (l : List ℕ) → behind_index j l ≡ drop (suc j) l
behind_is j l = from_is (j + 1) l ∙ ap (λ (n : ℕ). drop n l) (add-one j)

-- ---- weights

-- the weights from index i on are weighed, those before it are as they were
abbrev pub weighed_from : ℕ → ℕ → List ℕ → List ℕ → List ℕ
weighed_from x i us ws = take i ws ++ weighed x (drop i us) (drop i ws)

pub weighed-end : (x : ℕ) (us ws : List ℕ) → length us ≡ length ws → ws ≡ weighed_from x (length us) us ws
unfolding weighed
weighed-end x [] [] n = refl
weighed-end x [] (w ∷ ws) n = absurd (omega arith)
weighed-end x (u ∷ us) [] n = absurd (omega arith)
weighed-end x (u ∷ us) (w ∷ ws) n = ap (λ (l : List ℕ). w ∷ l) (weighed-end x us ws (omega arith))

total-end : (x : ℕ) (us ws : List ℕ) → 0 ≡ total (weighed x (drop (length us) us) ws)
unfolding weighed total
total-end x us ws = rw (drop-length us)

module _ (x : ℕ) where
  abbrev weight_at : ℕ → List ℕ → List ℕ → ℕ
  weight_at i us ws = mul (get_or ws i 0) (divide x (add (get_or us i 0) x))

  weighed-drop : (i : ℕ) (us ws : List ℕ) → i < length us → length us ≡ length ws
      → set (weighed_from x (suc i) us ws) i (weight_at i us ws) ≡ weighed_from x i us ws
  unfolding weighed
  weighed-drop i [] ws h n = absurd (not-suc-le-zero h)
  weighed-drop i (u ∷ us) [] h n = absurd (omega arith)
  weighed-drop zero (u ∷ us) (w ∷ ws) h n = refl
  weighed-drop (suc i) (u ∷ us) (w ∷ ws) h n = ap (λ (l : List ℕ). w ∷ l) (weighed-drop i us ws (le_of_suc-le-suc h) (omega arith))

  total-drop : (i : ℕ) (us ws : List ℕ) → i < length us → length us ≡ length ws
      → add (weight_at i us ws) (total (weighed x (drop (suc i) us) (drop (suc i) ws))) ≡ total (weighed x (drop i us) (drop i ws))
  unfolding weighed total
  total-drop i us ws h n = rw (drop-cons us i 0 h, drop-cons ws i 0 (omega arith))

front-byte : (i : ℕ) (ws t : List ℕ) → i < length ws → get_or (take (suc i) ws ++ t) i 0 ≡ get_or ws i 0
front-byte i ws t h =
    get_or-append (take (suc i) ws) t 0 i (omega (arith, length-take-le (suc i) ws h)) ∙ get_or-take (suc i) ws i 0 (omega arith)

-- the weights ws₀ of the numbers us are weighed from index i on, and t is the sum of those
pub record Weighed (x : ℕ) (us ws₀ : List ℕ) (i : ℕ) (ws : List ℕ) (t : ℕ) : Type 0 where
  pub within : i ≤ length us
  pub same_length : length ws ≡ length us
  pub is : ws ≡ weighed_from x i us ws₀
  pub summed : t ≡ total (weighed x (drop i us) (drop i ws₀))

pub weigh-none : (x : ℕ) (us ws : List ℕ) → length us ≡ length ws → Weighed x us ws (length us) ws 0
weigh-none x us ws n = record {
  within = omega arith;
  same_length = sym n;
  is = weighed-end x us ws n;
  summed = total-end x us (drop (length us) ws);
}

weigh-before : (x : ℕ) (us ws₀ : List ℕ) (i : ℕ) (ws : List ℕ) (t w : ℕ) → length us ≡ length ws₀ → Weighed x us ws₀ (suc i) ws t
    → w ≡ mul (get_or ws i 0) (divide x (add (get_or us i 0) x)) → Weighed x us ws₀ i (set ws i w) (add w t)
weigh-before x us ws₀ i ws t w n h e =
    let there : get_or ws i 0 ≡ get_or ws₀ i 0 =
    ap (λ (l : List ℕ). get_or l i 0) h.is ∙ front-byte i ws₀ (weighed x (drop (suc i) us) (drop (suc i) ws₀)) (omega (arith, h.within)) in
    let v : w ≡ weight_at x i us ws₀ = e ∙ ap (λ (y : ℕ). mul y (divide x (add (get_or us i 0) x))) there in
    record {
      within = omega (arith, h.within);
      same_length = length-set ws i w ∙ h.same_length;
      is = ap₂ (λ (l : List ℕ) (y : ℕ). set l i y) h.is v ∙ weighed-drop x i us ws₀ h.within n;
      summed = ap₂ add v h.summed ∙ total-drop x i us ws₀ h.within n;
    }

pub weigh-turn : (x : ℕ) (us ws₀ : List ℕ) (i : ℕ) (ws : List ℕ) (t w : ℕ) → 0 < i → length us ≡ length ws₀ → Weighed x us ws₀ i ws t
    → w ≡ mul (get_or ws (i - 1) 0) (divide x (add (get_or us (i - 1) 0) x)) → Weighed x us ws₀ (i - 1) (set ws (i - 1) w) (add w t)
weigh-turn x us ws₀ zero ws t w p n h e = absurd (not-suc-le-zero p)
weigh-turn x us ws₀ (suc i) ws t w p n h e = rw (before i) (weigh-before x us ws₀ i ws t w n h (rw (before i) at e))

-- ---- weighted sums

snoc : (ws ys : List ℕ) (w y : ℕ) → length ws ≡ length ys → weighted_sum (ws ++ (w ∷ [])) (ys ++ (y ∷ [])) ≡ add (weighted_sum ws ys) (mul w y)
unfolding weighted_sum
snoc [] [] w y n = add_comm (mul w y) 0
snoc [] (v ∷ ys) w y n = absurd (omega arith)
snoc (u ∷ ws) [] w y n = absurd (omega arith)
snoc (u ∷ ws) (v ∷ ys) w y n = ap (add (mul u v)) (snoc ws ys w y (omega arith)) ∙ sym (add_assoc (mul u v) (weighted_sum ws ys) (mul w y))

-- byte b once j shares are added
abbrev pub sum_up_to : List ℕ → List ℕ → ℕ → ℕ → ℕ
sum_up_to ws shares j b = weighted_sum (take j ws) (bytes_of j shares b)

module _ (ws shares : List ℕ) (b : ℕ) where
  abbrev sum_to : ℕ → ℕ
  sum_to j = sum_up_to ws shares j b

  pub sum-none : 0 ≡ sum_to 0
  unfolding weighted_sum
  sum-none = refl

  pub sum-turn : (j : ℕ) → j < length ws → add (sum_to j) (mul (get_or ws j 0) (get_or shares (key_size * j + b) 0)) ≡ sum_to (j + 1)
  unfolding bytes_of tabulate
  sum-turn j h =
      let f : ℕ → ℕ = λ i. get_or shares (key_size * i + b) 0 in
      let same : length (take j ws) ≡ length (tabulate j f) = length-take-le j ws (omega arith) ∙ sym (tabulate-length j f) in
      rw (add-one j, take-suc ws j 0 h) (sym (snoc (take j ws) (tabulate j f) (get_or ws j 0) (f j) same))

  pub sum-end : (j : ℕ) → j ≡ length ws → sum_to j ≡ weighted_sum ws (bytes_of (length ws) shares b)
  sum-end j e = ap sum_to e ∙ ap (λ (l : List ℕ). weighted_sum l (bytes_of (length ws) shares b)) (take_all (length ws) ws (omega arith))

-- ---- the weights of all numbers

-- those from index i on stand in their places
pub record Weights (us : List ℕ) (i : ℕ) (ws : List ℕ) : Type 0 where
  pub within : i ≤ length us
  pub same_length : length ws ≡ length us
  pub are : drop i ws ≡ weights (drop i us)

pub weights-none : (us ws : List ℕ) → length us ≡ length ws → Weights us (length us) ws
unfolding weights
weights-none us ws n = record {
  within = omega arith;
  same_length = sym n;
  are = drop_of_length-le ws {i = length us} (omega arith) ∙ sym (ap weights (drop_of_length-le us {i = length us} (omega arith)));
}

-- the rest's weights stand behind index i, changed by the number there, whose own weight is then written
weights-before : (us ws rest : List ℕ) (i t v : ℕ) → Weights us (suc i) ws → length rest ≡ length ws - suc i → let x = get_or us i 0 in
    let us' = drop (suc i) us in let ws' = drop (suc i) ws in rest ≡ weighed x us' ws' → t ≡ total (weighed x us' ws') → v ≡ add 1 t
    → Weights us i (set (put_mid (suc i) (length ws - suc i) ws rest) i v)
unfolding weights
weights-before us ws rest i t v h size e s q =
    let x = get_or us i 0 in
    let us' = drop (suc i) us in
    let p = take (suc i) ws in
    let within : suc i ≤ length us = h.within in
    let lp : length p ≡ suc i = length-take-le (suc i) ws (omega (arith, h.same_length)) in
    let tail : drop (length ws - suc i) (drop (suc i) ws) ≡ [] = drop_of_length-le (drop (suc i) ws) {i = length ws - suc i} (omega (arith, length-drop (suc i) ws)) in
    let changed : put_mid (suc i) (length ws - suc i) ws rest ≡ p ++ rest =
    ap (λ (r : List ℕ). p ++ (rest ++ r)) tail ∙ ap (λ (r : List ℕ). p ++ r) (append-nil rest) in
    let long : length (p ++ rest) ≡ length us = length-append p rest ∙ (omega (arith, h.same_length)) in
    record {
      within = omega arith;
      same_length = ap (λ (l : List ℕ). length (set l i v)) changed ∙ length-set (p ++ rest) i v ∙ long;
      are =
          ap (λ (l : List ℕ). drop i (set l i v)) changed
          ∙ ap (drop i) (set_split (p ++ rest) i v (omega arith))
          ∙ drop_at (take i (p ++ rest)) (v ∷ drop (suc i) (p ++ rest)) i (length-take-le i (p ++ rest) (omega arith))
          ∙ ap₂ (λ (y : ℕ) (l : List ℕ). y ∷ l) (q ∙ ap (add 1) (s ∙ ap (λ (l : List ℕ). total (weighed x us' l)) h.are)) (drop_at p rest (suc i) lp ∙ e ∙ ap (weighed x us') h.are)
          ∙ sym (ap weights (drop-cons us i 0 within));
    }

pub weights-turn : (us ws rest : List ℕ) (i j t v : ℕ) → suc j ≡ i → Weights us i ws → length rest ≡ length ws - (j + 1) → let x = get_or us j 0 in
    let us' = behind_index j us in let ws' = behind_index j ws in rest ≡ weighed x us' ws' → t ≡ total (weighed x us' ws') → v ≡ add 1 t
    → Weights us j (set (put_mid (j + 1) (length ws - (j + 1)) ws rest) j v)
weights-turn us ws rest i j t v f h size e s q =
    let x = get_or us j 0 in
    let same = ap₂ (weighed x) (behind_is j us) (behind_is j ws) in
    rw (add-one j)
    (weights-before us ws rest j t v (subst (λ (n : ℕ). Weights us n ws) (sym f) h) (rw (add-one j) at size) (e ∙ same) (s ∙ ap total same) q)

-- ---- tests of numbers

same_either_way : (a b : ℕ) → eqb a b ≡ eqb b a
same_either_way a b = grind (arith, nat_tests)

contained : (x : ℕ) (l : List ℕ) → list_any (λ y. eqb y x) l ≡ any (eqb x) l
unfolding any
contained x [] = refl
contained x (y ∷ l) = ap₂ ◌||◌ (same_either_way y x) (contained x l)

module _ (n : ℕ) (xs : List ℕ) (i : ℕ) (h : i < length xs) where
  -- the number at index i, and whether it comes again, as the code tests it
  abbrev here : ℕ
  here = get_or xs i 0

  abbrev again : Bool
  again = list_any (λ y. eqb y here) (behind_index i xs)

  again_is : again ≡ any (eqb here) (drop (suc i) xs)
  again_is = ap (list_any (λ y. eqb y here)) (behind_is i xs) ∙ contained here (drop (suc i) xs)

  turn : are_numbers n (drop i xs) ≡ ((leb 1 here && leb here n) && (not again && are_numbers n (drop (i + 1) xs)))
  unfolding are_numbers
  turn = rw (again_is, add-one, drop-cons xs i 0 h)

  pub numbers-zero : here ≡ 0 → are_numbers n (drop i xs) ≡ false
  numbers-zero e = turn ∙ rw e

  pub numbers-above : n < here → are_numbers n (drop i xs) ≡ false
  numbers-above l = let f : leb here n ≡ false = grind (arith, nat_tests) in turn ∙ rw (f, and-false (leb 1 here))

  pub numbers-again : again ≡ true → are_numbers n (drop i xs) ≡ false
  numbers-again e = turn ∙ rw (e, and-false (leb 1 here && leb here n))

  pub numbers-turn : here ≢ 0 → here ≤ n → again ≡ false → are_numbers n (drop i xs) ≡ are_numbers n (drop (i + 1) xs)
  numbers-turn p l e = turn ∙ rw (le-leb 1 here (omega arith), le-leb here n l, e)

pub numbers-end : (n : ℕ) (xs : List ℕ) (i : ℕ) → length xs ≤ i → are_numbers n (drop i xs) ≡ true
unfolding are_numbers
numbers-end n xs i h = rw (drop_of_length-le xs {i = i} h)

-- ---- the part of the coefficients that belongs to a key byte

pub in-part : (d b : ℕ) → b < key_size → d * b + d ≤ key_size * d
in-part d b h = le_trans (le_of_eq (sym (mul-suc d b))) (le_trans (mul-le-mul_left d h) (le_of_eq (mul_comm d key_size)))

pub coefficients-length : (k : ℕ) (cs : List ℕ) (b : ℕ) → b < key_size → key_size * (k - 1) ≤ length cs → length (coefficients_of k cs b) ≡ k - 1
coefficients-length k cs b h l =
    length-take-le (k - 1) (drop ((k - 1) * b) cs) (omega (arith, length-drop ((k - 1) * b) cs, in-part (k - 1) b h))

-- for the loops of the code
pub ruleset weighing = (weights-none, weights-turn)

pub ruleset numbering = (numbers-zero, numbers-above, numbers-again, numbers-turn, numbers-end)
