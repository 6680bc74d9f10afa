-- Single fields of a comma-separated file: what is read is what was written, quoted or not.
use Prim.Native.Nat.{ℕ}
use mathlib.Core.Path.{◌≡◌, refl, sym, ap, ◌∙◌}
use mathlib.Core.Bool.{Bool, true, false, cond, ◌||◌, and-eq-true_iff, or-false, false≢true}
use mathlib.Core.List.{List, [], ◌∷◌, ◌++◌, append_assoc}
use mathlib.Core.Option.{Option, none, some, map, some-injective, map-eq-some_iff}
use lib.Dec.{eqb}
use lib.ListN.{drop}
use borrow.Author.Tests.{eqb-true, ne_eqb}
use Rattle.lists.specs.Fold.{all}
use Rattle.lists.proofs.Tests.{cond_cases, clash}
use Rattle.lists.proofs.Every.{all_of, all-to, all_map}
use Rattle.roster.specs.Csv.{quote, begins, is_text_data, Field, before, plain_in, is_quotable, quoted_in, field_in}
use Rattle.roster.specs.Written.{Written, is_written, escaped, field_text}

-- ---- not quoted

-- the text ends, or goes on with what is no TEXTDATA
abbrev pub Ends : List ℕ → Type 0
Ends [] = Unit {0}
Ends (c ∷ cs) = is_text_data c ≡ false

-- a text is what was read, which is TEXTDATA, and what is behind it
pub plain-split : (t : List ℕ) → t ≡ (plain_in t).0 ++ (plain_in t).1
unfolding plain_in
plain-split [] = refl
plain-split (c ∷ cs) =
    cond_cases (λ (f : Field). c ∷ cs ≡ f.0 ++ f.1) (is_text_data c) (λ e. ap (λ (l : List ℕ). c ∷ l) (plain-split cs)) (λ e. refl)

plain-text : (t : List ℕ) → all is_text_data (plain_in t).0 ≡ true
unfolding plain_in all
plain-text [] = refl
plain-text (c ∷ cs) = cond_cases (λ (f : Field). all is_text_data f.0 ≡ true) (is_text_data c) (λ e. rw e (plain-text cs)) (λ e. refl)

-- TEXTDATA at the front of a text is what is read
pub plain-front : (c rest : List ℕ) → all is_text_data c ≡ true → Ends rest → plain_in (c ++ rest) ≡ (c, rest)
unfolding plain_in all
plain-front [] [] e h = refl
plain-front [] (d ∷ ds) e h = rw h
plain-front (c ∷ cs) rest e h =
    let t = (and-eq-true_iff (is_text_data c) (all is_text_data cs)).0 e in
    rw (t.0, plain-front cs rest t.1 h)

-- ---- quoted

-- what a quoted field may hold
abbrev pub is_content : ℕ → Bool
is_content c = is_quotable c || eqb c quote

-- a quote that is not doubled ends the field
quote-ends : (t : List ℕ) → begins quote t ≡ false → quoted_in (quote ∷ t) ≡ some ([], t)
unfolding quoted_in begins
quote-ends [] e = refl
quote-ends (d ∷ ds) e = rw e

-- any other character is one of the field's
one_more : (c : ℕ) (t : List ℕ) → eqb c quote ≡ false → quoted_in (c ∷ t) ≡ cond (is_quotable c) (map (before c) (quoted_in t)) none
unfolding quoted_in
one_more c [] e = rw e (cond_cases (λ (o : Option Field). none ≡ o) (is_quotable c) (λ _. refl) (λ _. refl))
one_more c (d ∷ ds) e = rw e

-- a content that is written is read ..
quoted-written : (content rest : List ℕ) → all is_content content ≡ true → begins quote rest ≡ false
    → quoted_in (escaped content ++ (quote ∷ rest)) ≡ some (content, rest)
unfolding escaped quoted_in all
quoted-written [] rest e h = quote-ends rest h
quoted-written (c ∷ cs) rest e h =
    let t = (and-eq-true_iff (is_content c) (all is_content cs)).0 e in
    let r = quoted-written cs rest t.1 h in
    cond_cases (λ (l : List ℕ). quoted_in (l ++ (quote ∷ rest)) ≡ some (c ∷ cs, rest)) (eqb c quote)
    (λ q. rw (r, eqb-true c quote q))
    (λ q. (let s : is_quotable c ≡ true = sym (or-false (is_quotable c)) ∙ rw q at t.0 in one_more c (escaped cs ++ (quote ∷ rest)) q ∙ rw (s, r)))

-- .. and a content that is read is written in the text, from behind the first quote on
abbrev pub IsQuoted : List ℕ → Field → Type 0
IsQuoted t f = (t ≡ escaped f.0 ++ (quote ∷ f.1)) × (all is_content f.0 ≡ true)

-- a quote that is not doubled, two quotes, or any other character
module _ (f : Field) where
  abbrev Gives : List ℕ → Option Field → Type 0
  Gives t o = o ≡ some f → IsQuoted t f

  closed : (c : ℕ) (t : List ℕ) → eqb c quote ≡ true → Gives (c ∷ t) (some ([], t))
  unfolding escaped all
  closed c t q p = rw (eqb-true c quote q, ← (some-injective _ _ p)) (refl, refl)

  doubled : (c d : ℕ) (t : List ℕ) → eqb c quote ≡ true → eqb d quote ≡ true → ((g : Field) → quoted_in t ≡ some g → IsQuoted t g)
      → Gives (c ∷ d ∷ t) (map (before quote) (quoted_in t))
  unfolding escaped all
  doubled c d t q r k p =
      let g = (map-eq-some_iff (before quote) (quoted_in t)).0 p in
      let h = k g.0 g.1 in
      rw (eqb-true c quote q, eqb-true d quote r, ← g.2) (ap (λ (l : List ℕ). quote ∷ quote ∷ l) h.0, h.1)

  single : (c : ℕ) (t : List ℕ) → eqb c quote ≡ false → is_quotable c ≡ true → ((g : Field) → quoted_in t ≡ some g → IsQuoted t g)
      → Gives (c ∷ t) (map (before c) (quoted_in t))
  unfolding escaped all
  single c t q r k p =
      let g = (map-eq-some_iff (before c) (quoted_in t)).0 p in
      let h = k g.0 g.1 in
      rw (← g.2, q, r) (ap (λ (l : List ℕ). c ∷ l) h.0, h.1)

quoted-read : (t : List ℕ) (f : Field) → quoted_in t ≡ some f → IsQuoted t f
unfolding quoted_in
quoted-read [] f e = clash (cc)
quoted-read (c ∷ []) f e = cond_cases (Gives f (c ∷ [])) (eqb c quote) (λ q. closed f c [] q) (λ q p. clash (cc)) e
quoted-read (c ∷ d ∷ cs) f e =
    let given = Gives f (c ∷ d ∷ cs) in
    cond_cases given (eqb c quote)
    (λ q. cond_cases given (eqb d quote) (λ r. doubled f c d cs q r (quoted-read cs)) (λ r. closed f c (d ∷ cs) q))
    (λ q. cond_cases given (is_quotable c) (λ r. single f c (d ∷ cs) q r (quoted-read (d ∷ cs))) (λ r p. clash (cc)))
    e

-- ---- quoted, and with nothing to double

no-quote : (c : ℕ) → is_text_data c ≡ true → eqb c quote ≡ false
no-quote c e = ne_eqb c quote (λ q. false≢true (rw q at e))

-- TEXTDATA is content
text-content : (c : List ℕ) → all is_text_data c ≡ true → all is_content c ≡ true
text-content c e = all-to is_content (all_map (λ x h. rw h) (all_of is_text_data c e))

escaped-text : (c : List ℕ) → all is_text_data c ≡ true → escaped c ≡ c
unfolding escaped all
escaped-text [] e = refl
escaped-text (c ∷ cs) e =
    let t = (and-eq-true_iff (is_text_data c) (all is_text_data cs)).0 e in
    rw (no-quote c t.0, escaped-text cs t.1)

pub quoted-front : (c rest : List ℕ) → all is_text_data c ≡ true → begins quote rest ≡ false → quoted_in (c ++ (quote ∷ rest)) ≡ some (c, rest)
quoted-front c rest e h = rw (escaped-text c e) at (quoted-written c rest (text-content c e) h)

pub quoted-split : (t c rest : List ℕ) → quoted_in t ≡ some (c, rest) → all is_text_data c ≡ true → t ≡ c ++ (quote ∷ rest)
quoted-split t c rest e h = rw (escaped-text c h) at (quoted-read t (c, rest) e).0

-- ---- either

-- what stands behind a field neither goes on with it nor doubles its last quote
abbrev pub Behind : List ℕ → Type 0
Behind rest = Ends rest × (begins quote rest ≡ false)

abbrev pub field_of : Bool → List ℕ → Written
field_of q c = record { quoted = q; content = c }

no-quote-first : (c rest : List ℕ) → all is_text_data c ≡ true → begins quote rest ≡ false → begins quote (c ++ rest) ≡ false
unfolding begins all
no-quote-first [] rest e h = h
no-quote-first (c ∷ cs) rest e h = no-quote c ((and-eq-true_iff (is_text_data c) (all is_text_data cs)).0 e).0

-- a field that is written is read
pub field-read : (q : Bool) (c rest : List ℕ) → is_written (field_of q c) ≡ true → Behind rest
    → field_in (field_text (field_of q c) ++ rest) ≡ some (c, rest)
unfolding field_in begins
field-read true c rest e h = rw append_assoc (quoted-written c rest e h.1)
field-read false c rest e h = rw (no-quote-first c rest e h.1, plain-front c rest e h.0)

pub begins-split : (c : ℕ) (t : List ℕ) → begins c t ≡ true → t ≡ c ∷ drop 1 t
unfolding begins
begins-split c [] e = clash (cc)
begins-split c (x ∷ xs) e = ap (λ (y : ℕ). y ∷ xs) (eqb-true x c e)

-- .. and a field that is read was written so
pub record IsField (text : List ℕ) (f : Field) : Type 0 where
  pub quoted : Bool
  pub written : is_written (field_of quoted f.0) ≡ true
  pub text_of : text ≡ field_text (field_of quoted f.0) ++ f.1

pub field-written : (text : List ℕ) (f : Field) → field_in text ≡ some f → IsField text f
unfolding field_in
field-written text f =
    cond_cases (λ (o : Option Field). o ≡ some f → IsField text f) (begins quote text)
    (λ b e. (let t = quoted-read (drop 1 text) f e in record {
      quoted = true;
      written = t.1;
      text_of = begins-split quote text b ∙ ap (λ (l : List ℕ). quote ∷ l) (t.0 ∙ rw append_assoc);
    }))
    (λ b e. (let t : plain_in text ≡ f = some-injective _ _ e in record {
      quoted = false;
      written = rw t at (plain-text text);
      text_of = rw t at (plain-split text);
    }))
