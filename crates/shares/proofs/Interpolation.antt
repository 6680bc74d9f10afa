-- Through k points with distinct numbers goes exactly one polynomial of k coefficients, and value_at_zero is its value at 0.
use mathlib.Core.Path.{◌≡◌, refl, sym, ap, ap₂, ◌∙◌}
use mathlib.Core.Logic.{◌≢◌}
use mathlib.Core.List.{List, [], ◌∷◌, Memᴰ}
use Prim.Native.Nat.{ℕ, zero, suc, ◌<◌}
use native.Mathlib.Omega.{arith}
use lib.ListN.{length}
use Rattle.lists.specs.Fold.{Distinct}
use Rattle.binary.specs.Number.{Bytes}
use Rattle.gf256.specs.Field.{add, mul, divide}
use Rattle.gf256.proofs.Laws.{add_comm, add-zero, add-self, add-byte, mul-byte, mul-zero, zero-mul}
use Rattle.shares.specs.Polynomial.{eval, values, slopes, value_at_zero}
use Rattle.shares.specs.Claims.{Interpolates}
use Rattle.shares.proofs.Algebra.{cancel, zero-add, same, horner, product-divided, quotient-times}
use Rattle.shares.proofs.Weighing.{slopes-length, slopes-bytes}

-- ---- bytes, and numbers that differ

pub bytes-cons : (x : ℕ) (xs : List ℕ) → x < 256 → Bytes xs → Bytes (x ∷ xs)
bytes-cons x xs h t zero = h
bytes-cons x xs h t (suc i) = t i

differs : {x u : ℕ} {us : List ℕ} → ¬ Memᴰ x (u ∷ us) → u ≢ x
differs n e = n (Memᴰ.head (sym e))

absent-tail : {x u : ℕ} {us : List ℕ} → ¬ Memᴰ x (u ∷ us) → ¬ Memᴰ x us
absent-tail n m = n (Memᴰ.tail m)

-- ---- the polynomial y + (X + x) q

build : ℕ → ℕ → List ℕ → List ℕ
build x y [] = y ∷ []
build x y (g ∷ q) = add y (mul x g) ∷ build x g q

-- the quotient of c + X cs by X + x
quotient : ℕ → List ℕ → List ℕ
quotient x [] = []
quotient x (d ∷ ds) = eval x (d ∷ ds) ∷ quotient x ds

build-quotient : (x c : ℕ) (cs : List ℕ) → build x (eval x (c ∷ cs)) (quotient x cs) ≡ c ∷ cs
unfolding build quotient eval
build-quotient x c [] = ap (λ (k : ℕ). k ∷ []) (ap (add c) (mul-zero x) ∙ add-zero c)
build-quotient x c (d ∷ ds) = ap₂ (λ (k : ℕ) (l : List ℕ). k ∷ l) (cancel c (mul x (eval x (d ∷ ds)))) (build-quotient x d ds)

eval-build : (u x y : ℕ) (q : List ℕ) → eval u (build x y q) ≡ add y (mul (add u x) (eval u q))
unfolding build eval
eval-build u x y [] = ap (add y) (mul-zero u ∙ sym (mul-zero (add u x)))
eval-build u x y (g ∷ q) = ap (λ (k : ℕ). add (add y (mul x g)) (mul u k)) (eval-build u x g q) ∙ horner y x u g (eval u q)

eval-split : (u x c : ℕ) (cs : List ℕ) → eval u (c ∷ cs) ≡ add (eval x (c ∷ cs)) (mul (add u x) (eval u (quotient x cs)))
eval-split u x c cs = ap (eval u) (sym (build-quotient x c cs)) ∙ eval-build u x (eval x (c ∷ cs)) (quotient x cs)

eval-here : (x y : ℕ) (q : List ℕ) → eval x (build x y q) ≡ y
eval-here x y q = eval-build x x y q ∙ ap (add y) (ap (λ (k : ℕ). mul k (eval x q)) (add-self x) ∙ zero-mul (eval x q)) ∙ add-zero y

pub eval-byte : (x : ℕ) (cs : List ℕ) → Bytes cs → eval x cs < 256
unfolding eval
eval-byte x [] b = omega arith
eval-byte x (c ∷ cs) b = add-byte c (mul x (eval x cs)) (b 0) (mul-byte x (eval x cs))

pub eval-zero : (c : ℕ) (cs : List ℕ) → eval 0 (c ∷ cs) ≡ c
unfolding eval
eval-zero c cs = ap (add c) (zero-mul (eval 0 cs)) ∙ add-zero c

quotient-bytes : (x : ℕ) (cs : List ℕ) → Bytes cs → Bytes (quotient x cs)
unfolding quotient
quotient-bytes x [] b i = omega arith
quotient-bytes x (c ∷ cs) b zero = eval-byte x (c ∷ cs) b
quotient-bytes x (c ∷ cs) b (suc i) = quotient-bytes x cs (λ j. b (suc j)) i

quotient-length : (x : ℕ) (cs : List ℕ) → length (quotient x cs) ≡ length cs
unfolding quotient
quotient-length x [] = refl
quotient-length x (c ∷ cs) = ap suc (quotient-length x cs)

build-bytes : (x y : ℕ) (q : List ℕ) → y < 256 → Bytes q → Bytes (build x y q)
unfolding build
build-bytes x y [] h b = bytes-cons y [] h b
build-bytes x y (g ∷ q) h b = bytes-cons (add y (mul x g)) (build x g q) (add-byte y (mul x g) h (mul-byte x g)) (build-bytes x g q (b 0) (λ i. b (suc i)))

build-length : (x y : ℕ) (q : List ℕ) → length (build x y q) ≡ suc (length q)
unfolding build
build-length x y [] = refl
build-length x y (g ∷ q) = ap suc (build-length x g q)

-- ---- the other values once one is taken out

slopes-values : (x c : ℕ) (cs us : List ℕ) → x < 256 → Bytes cs → Bytes us → ¬ Memᴰ x us
    → slopes x (eval x (c ∷ cs)) us (values (c ∷ cs) us) ≡ values (quotient x cs) us
unfolding slopes values
slopes-values x c cs [] hx hc hu ha = refl
slopes-values x c cs (u ∷ us) hx hc hu ha =
    let y = eval x (c ∷ cs) in
    let q = eval u (quotient x cs) in
    let p = mul (add u x) q in
    ap₂ (λ (k : ℕ) (l : List ℕ). k ∷ l)
    (ap (λ (k : ℕ). divide k (add u x)) (ap (λ (k : ℕ). add k y) (eval-split u x c cs ∙ add_comm y p) ∙ cancel p y)
    ∙ product-divided (add u x) q (add-byte u x (hu 0) hx) (λ e. differs ha (same u x e)) (eval-byte u (quotient x cs) (quotient-bytes x cs hc)))
    (slopes-values x c cs us hx hc (λ i. hu (suc i)) (absent-tail ha))

values-build : (x y : ℕ) (q us vs : List ℕ) → x < 256 → y < 256 → Bytes us → Bytes vs → ¬ Memᴰ x us → length us ≡ length vs
    → values q us ≡ slopes x y us vs → values (build x y q) us ≡ vs
unfolding slopes values
values-build x y q [] [] hx hy hu hv ha n e = refl
values-build x y q [] (v ∷ vs) hx hy hu hv ha n e = absurd (omega arith)
values-build x y q (u ∷ us) [] hx hy hu hv ha n e = absurd (omega arith)
values-build x y q (u ∷ us) (v ∷ vs) hx hy hu hv ha n e =
    let h : eval u q ≡ divide (add v y) (add u x) = cc in
    let t : values q us ≡ slopes x y us vs = cc in
    ap₂ (λ (k : ℕ) (l : List ℕ). k ∷ l)
    (eval-build u x y q
    ∙ ap (add y) (ap (mul (add u x)) h
    ∙ quotient-times (add u x) (add v y) (add-byte u x (hu 0) hx) (λ z. differs ha (same u x z)) (add-byte v y (hv 0) hy))
    ∙ add_comm y (add v y)
    ∙ cancel v y)
    (values-build x y q us vs hx hy (λ i. hu (suc i)) (λ i. hv (suc i)) (absent-tail ha) (omega arith) t)

-- ---- the value at 0

pub value-at-zero : (xs cs : List ℕ) → length xs ≡ length cs → Bytes xs → Bytes cs → Distinct xs → value_at_zero xs (values cs xs) ≡ eval 0 cs
unfolding value_at_zero values eval
value-at-zero [] [] n hx hc d = refl
value-at-zero [] (c ∷ cs) n hx hc d = absurd (omega arith)
value-at-zero (x ∷ xs) [] n hx hc d = absurd (omega arith)
value-at-zero (x ∷ xs) (c ∷ cs) n hx hc d =
    let y = eval x (c ∷ cs) in
    ap (λ (k : ℕ). add y (mul x k))
    (ap (value_at_zero xs) (slopes-values x c cs xs (hx 0) (λ i. hc (suc i)) (λ i. hx (suc i)) d.0)
    ∙ value-at-zero xs (quotient x cs) (omega (arith, quotient-length x cs)) (λ i. hx (suc i)) (quotient-bytes x cs (λ i. hc (suc i))) d.1)
    ∙ ap (λ (k : ℕ). add y (mul k (eval 0 (quotient x cs)))) (sym (zero-add x))
    ∙ sym (eval-split 0 x c cs)

-- ---- exactly one polynomial

pub record Through (xs ys cs : List ℕ) : Type 0 where
  pub size : length cs ≡ length xs
  pub bytes : Bytes cs
  pub gives : values cs xs ≡ ys

pub through : (xs ys : List ℕ) → length xs ≡ length ys → Bytes xs → Bytes ys → Distinct xs → (cs : List ℕ) × Through xs ys cs
unfolding values
through [] [] n hx hy d = ([], record { size = refl; bytes = hy; gives = refl })
through [] (y ∷ ys) n hx hy d = absurd (omega arith)
through (x ∷ xs) [] n hx hy d = absurd (omega arith)
through (x ∷ xs) (y ∷ ys) n hx hy d =
    let m : length xs ≡ length ys = omega arith in
    let r = through xs (slopes x y xs ys) (sym (slopes-length x y xs ys m)) (λ i. hx (suc i)) (slopes-bytes x y xs ys) d.1 in (
      build x y r.0,
      record {
        size = build-length x y r.0 ∙ ap suc r.1.size;
        bytes = build-bytes x y r.0 (hy 0) r.1.bytes;
        gives = ap₂ (λ (k : ℕ) (l : List ℕ). k ∷ l) (eval-here x y r.0)
            (values-build x y r.0 xs ys (hx 0) (hy 0) (λ i. hx (suc i)) (λ i. hy (suc i)) d.0 m r.1.gives);
      },
    )

pub only : (xs cs ds : List ℕ) → length cs ≡ length xs → length ds ≡ length xs → Bytes xs → Bytes cs → Bytes ds → Distinct xs
    → values cs xs ≡ values ds xs → cs ≡ ds
unfolding values
only [] [] [] m n hx hc hd d e = refl
only [] [] (b ∷ ds) m n hx hc hd d e = absurd (omega arith)
only [] (c ∷ cs) ds m n hx hc hd d e = absurd (omega arith)
only (x ∷ xs) [] ds m n hx hc hd d e = absurd (omega arith)
only (x ∷ xs) (c ∷ cs) [] m n hx hc hd d e = absurd (omega arith)
only (x ∷ xs) (c ∷ cs) (b ∷ ds) m n hx hc hd d e =
    let h : eval x (c ∷ cs) ≡ eval x (b ∷ ds) = cc in
    let t : values (c ∷ cs) xs ≡ values (b ∷ ds) xs = cc in
    let q : quotient x cs ≡ quotient x ds =
    only xs (quotient x cs) (quotient x ds) (omega (arith, quotient-length x cs)) (omega (arith, quotient-length x ds)) (λ i. hx (suc i))
    (quotient-bytes x cs (λ i. hc (suc i))) (quotient-bytes x ds (λ i. hd (suc i))) d.1
    (sym (slopes-values x c cs xs (hx 0) (λ i. hc (suc i)) (λ i. hx (suc i)) d.0)
    ∙ ap₂ (λ (k : ℕ) (l : List ℕ). slopes x k xs l) h t
    ∙ slopes-values x b ds xs (hx 0) (λ i. hd (suc i)) (λ i. hx (suc i)) d.0) in
    sym (build-quotient x c cs) ∙ ap₂ (build x) h q ∙ build-quotient x b ds

pub interpolates : (xs ys : List ℕ) → length xs ≡ length ys → Bytes xs → Bytes ys → Distinct xs → (cs : List ℕ) × Interpolates xs ys cs
interpolates xs ys n hx hy d =
    let t = through xs ys n hx hy d in
    let cs = t.0 in (
      cs,
      record {
        run = record { size = t.1.size; bytes = t.1.bytes };
        through = t.1.gives;
        only = λ ds r e. only xs ds cs r.size t.1.size hx r.bytes t.1.bytes d (e ∙ sym t.1.gives);
        at_zero = ap (value_at_zero xs) (sym t.1.gives) ∙ value-at-zero xs cs (sym t.1.size) hx t.1.bytes d;
      },
    )
