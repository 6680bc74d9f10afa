-- Each value of a line is found where its field has it, and what separates fields is no part of one.
use Prim.Native.Nat.{ℕ, ◌^◌, ◌≤◌, ◌<◌}
use native.Mathlib.Omega.{arith}
use mathlib.Core.Path.{◌≡◌, refl, sym, ap, ◌∙◌}
use mathlib.Core.Bool.{Bool, true, false, and-eq-true_iff, or-true, false≢true}
use mathlib.Core.List.{List, [], ◌∷◌, ◌++◌}
use mathlib.Core.Option.{Option, some, bind, bind-eq-some_iff, some-injective}
use lib.Dec.{eqb, leb}
use lib.ListN.{length, take, drop, take-append-drop}
use lib.Seq.{take-append_seam, drop-append_seam}
use borrow.Author.Tests.{le-leb, eqb-true}
use Rattle.lists.specs.Fold.{all}
use Rattle.lists.proofs.Options.{chosen}
use Rattle.lists.proofs.Every.{all_of, all-to, all_map}
use Rattle.decimal.specs.Decimal.{is_digit, number_from}
use Rattle.decimal.specs.Code.{digits_in}
use Rattle.decimal.proofs.Scanned.{Stops, digits-read, digits-front}
use Rattle.calendar.specs.Text.{day_in}
use Rattle.state.specs.Time.{day}
use Rattle.calendar.proofs.Texts.{text-written-back, day-length}
use Rattle.roster.specs.Csv.{quote, comma, carriage_return, begins, char, is_text_data}
use Rattle.roster.specs.Fields.{most_login_digits, is_login_number, login_in, is_hex_digit, is_capital, is_small, rights_digits, rights_in, hex_from}
use Rattle.roster.specs.Code.{separator, separated, login_at, date_size, value_at, field_by, line_in}
use Rattle.roster.proofs.Quoting.{Ends, Behind}
use Rattle.roster.proofs.WrittenLines.{char-written}
use Rattle.roster.proofs.Values.{login-number, capital-range, small-range}
use Rattle.roster.proofs.FieldTexts.{IsLogin, login-to, rights-range, digit-plain, day-plain}
use Rattle.roster.proofs.Separated.{Finds, Separates, separated-to, separated-found}

-- ---- logins

-- no digits would be the number 0
filled : (c : List ℕ) (x : ℕ) → IsLogin c x → 1 ≤ length c
unfolding number_from
filled [] x l = let zero_is : 0 ≡ x = l.value in let r = login-number x l.in-range in absurd (omega arith)
filled (d ∷ ds) x l = omega arith

login-of : (c : List ℕ) (x : ℕ) → IsLogin c x → login_in c ≡ some x
unfolding login_in
login-of c x l = rw (l.digits, le-leb _ _ (filled c x l), le-leb _ _ l.few, l.value, l.in-range)

-- a digit is TEXTDATA
stops : (t : List ℕ) → Ends t → Stops t
stops [] e = tt
stops (c ∷ cs) e = go (is_digit c) refl
  where
    go : (b : Bool) → is_digit c ≡ b → is_digit c ≡ false
    go true d = absurd (false≢true (sym e ∙ digit-plain c d))
    go false d = d

login-found : (t : List ℕ) (p : ℕ × List ℕ) → login_at t ≡ some p → (c : List ℕ) × (t ≡ c ++ p.1) × (login_in c ≡ some p.0)
unfolding login_at
login-found t p e =
    let d : ℕ × List ℕ = digits_in most_login_digits 0 t in
    let k = chosen (is_login_number d.0) d p e in
    let f = digits-read most_login_digits 0 t in
    let first : d.0 ≡ p.0 = ap (λ (y : ℕ × List ℕ). y.0) k.1 in
    let second : d.1 ≡ p.1 = ap (λ (y : ℕ × List ℕ). y.1) k.1 in
    let in-range = ap is_login_number (sym first) ∙ k.0 in
    let is-login : IsLogin f.front p.0 = record { digits = f.digits; few = f.few; value = sym f.value ∙ first; in-range = in-range } in
    (f.front, f.text_of ∙ ap (λ (l : List ℕ). f.front ++ l) second, login-of f.front p.0 is-login)

login-front : (c rest : List ℕ) (x : ℕ) → login_in c ≡ some x → Ends rest → login_at (c ++ rest) ≡ some (x, rest)
unfolding login_at
login-front c rest x e h =
    let l = login-to c x e in
    rw (digits-front most_login_digits 0 c rest l.digits l.few (stops rest h), l.value, l.in-range)

pub login-finds : Finds login_in login_at
login-finds = record {
  text = λ c x e. all-to is_text_data (all_map digit-plain (all_of is_digit c (login-to c x e).digits));
  found = login-found;
  finds = login-front;
}

-- ---- values of a fixed size

module _ (w : ℕ) (value : List ℕ → Option ℕ) (h : (c : List ℕ) (x : ℕ) → value c ≡ some x → (all is_text_data c ≡ true) × (length c ≡ w)) where
  fixed-found : (t : List ℕ) (p : ℕ × List ℕ) → value_at w value t ≡ some p → (c : List ℕ) × (t ≡ c ++ p.1) × (value c ≡ some p.0)
  fixed-found t p e =
      let a = (bind-eq-some_iff (value (take w t)) _).0 e in
      let q = some-injective _ _ a.2 in
      let split : t ≡ take w t ++ drop w t = sym (take-append-drop w t) in
      (take w t, split ∙ ap (λ (y : ℕ × List ℕ). take w t ++ y.1) q, a.1 ∙ ap (λ (y : ℕ × List ℕ). some y.0) q)

  fixed-front : (c rest : List ℕ) (x : ℕ) → value c ≡ some x → Ends rest → value_at w value (c ++ rest) ≡ some (x, rest)
  unfolding bind
  fixed-front c rest x e k = rw (← (h c x e).1, take-append_seam c rest, drop-append_seam c rest, e)

  fixed-finds : Finds value (value_at w value)
  fixed-finds = record { text = λ c x e. (h c x e).0; found = fixed-found; finds = fixed-front }

pub end-finds : Finds day_in (value_at date_size day_in)
end-finds = fixed-finds date_size day_in (λ c x e. (rw (← (text-written-back c x e).written) (day-plain x), day-length c x e))

-- a hexadecimal digit is TEXTDATA
text-above : (c : ℕ) → 45 ≤ c → c ≤ 126 → is_text_data c ≡ true
text-above c h l = rw (le-leb 45 c h, le-leb c 126 l, or-true, or-true)

hex-plain : (c : ℕ) → is_hex_digit c ≡ true → is_text_data c ≡ true
hex-plain c e = go (is_digit c) (is_capital c) refl refl
  where
    go : (b d : Bool) → is_digit c ≡ b → is_capital c ≡ d → is_text_data c ≡ true
    go true d p q = digit-plain c p
    go false true p q = let r = capital-range c q in text-above c (omega arith) (omega arith)
    go false false p q = let small : is_small c ≡ true = rw (p, q) at e in let r = small-range c small in text-above c (omega arith) (omega arith)

rights-to : (c : List ℕ) (x : ℕ) → rights_in c ≡ some x → (all is_text_data c ≡ true) × (length c ≡ rights_digits)
unfolding rights_in
rights-to c x e =
    let t = chosen _ (hex_from 0 c) x e in
    let u = (and-eq-true_iff (all is_hex_digit c) _).0 t.0 in
    let v = (and-eq-true_iff (eqb (length c) rights_digits) (leb 1 (hex_from 0 c))).0 u.1 in
    (all-to is_text_data (all_map hex-plain (all_of is_hex_digit c u.0)), eqb-true _ _ v.0)

pub rights-finds : Finds rights_in (value_at rights_digits rights_in)
rights-finds = fixed-finds rights_digits rights_in rights-to

-- ---- separators

begins-behind : (c : ℕ) → is_text_data c ≡ false → eqb c quote ≡ false → (t rest : List ℕ) → char c t ≡ some rest → Behind t
unfolding begins
begins-behind c e q t rest h = rw (char-written c t rest h) (e, q)

pub separates : (last : Bool) → Separates (separator last)
unfolding begins
separates true [] rest e = (tt, refl)
separates true (c ∷ cs) rest e =
    let a = (bind-eq-some_iff (char carriage_return (c ∷ cs)) _).0 e in
    begins-behind carriage_return refl refl (c ∷ cs) a.0 a.1
separates false t rest e = begins-behind comma refl refl t rest e

-- ---- each field is what the code finds, and so is the line

login_found : (t : List ℕ) → separated login_in (separator false) t ≡ field_by login_at false t
login_found t = sym (separated-found login-finds (separates false) t)

end_found : (t : List ℕ) → separated day_in (separator false) t ≡ field_by (value_at date_size day_in) false t
end_found t = sym (separated-found end-finds (separates false) t)

rights_found : (t : List ℕ) → separated rights_in (separator true) t ≡ field_by (value_at rights_digits rights_in) true t
rights_found t = sym (separated-found rights-finds (separates true) t)

pub line_by : (t : List ℕ) → line_in t
    ≡ bind (field_by login_at false t) (λ login.
    bind (field_by (value_at date_size day_in) false login.1) (λ end.
    bind (field_by (value_at rights_digits rights_in) true end.1) (λ rights.
    some (record { login = login.0; end = day end.0; rights = rights.0 }, rights.1))))
unfolding line_in
line_by t = λ i.
    bind (login_found t i) (λ login.
    bind (end_found login.1 i) (λ end.
    bind (rights_found end.1 i) (λ rights.
    some (record { login = login.0; end = day end.0; rights = rights.0 }, rights.1))))

-- rights that are read fit in 16 bits
pub rights_below : (t : List ℕ) (x : ℕ) (rest : List ℕ) → some (x, rest) ≡ field_by (value_at rights_digits rights_in) true t → x < 2 ^ 16
rights_below t x rest e =
    let s = separated-to rights_in (separator true) t (x, rest) (rights_found t ∙ sym e) in (rights-range s.content x s.valued).1
