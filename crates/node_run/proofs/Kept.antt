-- What a buffer keeps.
use Prim.Native.Nat.{ℕ, zero, suc, ◌+◌, ◌-◌, ◌≤◌}
use native.Mathlib.Nat.{sub-zero, zero-sub, suc-sub-suc}
use native.Mathlib.Omega.{arith}
use mathlib.Core.Path.{◌≡◌, refl, sym, ap, ◌∙◌}
use mathlib.Core.List.{List, [], ◌∷◌, ◌++◌}
use lib.ListN.{length, take, drop}
use lib.Seq.{length-take-le, take_at, take-nil, take-take, take-add, take-append-add, take-append_seam, drop-drop}
use Rattle.binary.specs.Number.{overwrite}
use Rattle.binary.specs.Splice.{splice}

-- fewer bytes at the front
pub shorter-front : (a b : ℕ) (xs ys : List ℕ) → a ≤ b → take b xs ≡ take b ys → take a xs ≡ take a ys
shorter-front a b xs ys h e = sym (take-take a b xs h) ∙ ap (take a) e ∙ take-take a b ys h

drop-take : (u n : ℕ) (l : List ℕ) → drop u (take n l) ≡ take (n - u) (drop u l)
drop-take zero n l = rw sub-zero refl
drop-take (suc u) zero l = rw zero-sub refl
drop-take (suc u) (suc n) [] = sym (take-nil (suc n - suc u))
drop-take (suc u) (suc n) (x ∷ l) = rw suc-sub-suc (drop-take u n l)

-- what is held, after that many bytes of it are used
pub rest-kept : (b : List ℕ) (from to used : ℕ) → take (to - (from + used)) (drop (from + used) b) ≡ drop used (take (to - from) (drop from b))
rest-kept b from to used =
    let e : to - (from + used) ≡ to - from - used = omega arith in
    rw (e, ← drop-drop used from b) (sym (drop-take used (to - from) (drop from b)))

-- the bytes up to the end of a write
pub front-written : (d : List ℕ) (at : ℕ) (v : List ℕ) → at ≤ length d → take (at + length v) (splice d at v) ≡ take at d ++ v
unfolding splice
front-written d at v h =
    let z = drop (at + length v) d in
    let e = length-take-le at d h in
    ap (λ (n : ℕ). take (n + length v) (take at d ++ (v ++ z))) (sym e)
    ∙ take-append-add (take at d) (v ++ z) (length v)
    ∙ ap (λ (l : List ℕ). take at d ++ l) (take-append_seam v z)

-- the bytes up to an index, of which the first n are known
pub front_read : (b v : List ℕ) (n to : ℕ) → n ≤ to → take n b ≡ v → take to b ≡ v ++ take (to - n) (drop n b)
front_read b v n to h e =
    let k : n + (to - n) ≡ to = omega arith in
    ap (λ (m : ℕ). take m b) (sym k) ∙ take-add n (to - n) b ∙ ap (λ (l : List ℕ). l ++ take (to - n) (drop n b)) e

-- the bytes moved to the front
pub front-moved : (b v : List ℕ) (n : ℕ) → length v ≡ n → take n (overwrite v b) ≡ v
unfolding overwrite
front-moved b v n e = take_at v (drop (length v) b) n e
