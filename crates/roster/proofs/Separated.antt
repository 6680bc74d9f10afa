-- The fields as the code reads them: a value where it stands, then a quote if the field began with one, then the separator. A value found so is that
-- of the field's content.
use Prim.Native.Nat.{ℕ}
use mathlib.Core.Path.{◌≡◌, refl, ap, ◌∙◌}
use mathlib.Core.Bool.{Bool, true, false, cond}
use mathlib.Core.List.{List, ◌∷◌, ◌++◌}
use mathlib.Core.Option.{Option, some, bind, bind-eq-some_iff, some-injective}
use lib.ListN.{drop}
use Rattle.lists.proofs.Options.{same-options}
use Rattle.lists.specs.Fold.{all}
use Rattle.roster.specs.Csv.{quote, begins, char, is_text_data, plain_in, quoted_in, field_in}
use Rattle.roster.specs.Code.{followed, separated, closed, opened}
use Rattle.roster.proofs.Quoting.{Ends, Behind, plain-split, plain-front, quoted-front, quoted-split}
use Rattle.roster.proofs.WrittenLines.{char-written}

-- what `find` finds at the front of a text is the value of a content, which is TEXTDATA, and it finds each that ends there
pub record Finds (value : List ℕ → Option ℕ) (find : List ℕ → Option (ℕ × List ℕ)) : Type 0 where
  pub text : (c : List ℕ) (x : ℕ) → value c ≡ some x → all is_text_data c ≡ true
  pub found : (t : List ℕ) (p : ℕ × List ℕ) → find t ≡ some p → (c : List ℕ) × (t ≡ c ++ p.1) × (value c ≡ some p.0)
  pub finds : (c rest : List ℕ) (x : ℕ) → value c ≡ some x → Ends rest → find (c ++ rest) ≡ some (x, rest)

-- a separator begins neither with TEXTDATA nor with a quote
abbrev pub Separates : (List ℕ → Option (List ℕ)) → Type 0
Separates after = (t rest : List ℕ) → after t ≡ some rest → Behind t

abbrev pub Found : Type 0
Found = ℕ × List ℕ

-- a value is followed by what a separator leaves
followed-to : (x : ℕ) (o : Option (List ℕ)) (p : Found) → followed x o ≡ some p → (o ≡ some p.1) × (x ≡ p.0)
followed-to x o p e =
    let a = (bind-eq-some_iff o _).0 e in
    let q = some-injective _ _ a.2 in
    (a.1 ∙ ap (λ (y : Found). some y.1) q, ap (λ (y : Found). y.0) q)

module _ (value : List ℕ → Option ℕ) (after : List ℕ → Option (List ℕ)) where
  -- a field at the front of a text, with its value and its separator
  pub record IsSeparated (t : List ℕ) (p : Found) : Type 0 where
    pub content : List ℕ
    pub rest : List ℕ
    pub read : field_in t ≡ some (content, rest)
    pub valued : value content ≡ some p.0
    pub ends : after rest ≡ some p.1

  pub separated-to : (t : List ℕ) (p : Found) → separated value after t ≡ some p → IsSeparated t p
  unfolding separated
  separated-to t p e =
      let a = (bind-eq-some_iff (field_in t) _).0 e in
      let b = (bind-eq-some_iff (value a.0.0) _).0 a.2 in
      let f = followed-to b.0 (after a.0.1) p b.2 in
      record { content = a.0.0; rest = a.0.1; read = a.1; valued = b.1 ∙ ap some f.1; ends = f.0 }

  pub separated-of : (t : List ℕ) (p : Found) → IsSeparated t p → separated value after t ≡ some p
  unfolding separated bind
  separated-of t p s = rw (s.read, s.valued, s.ends)

  module _ (find : List ℕ → Option Found) (quoted : Bool) where
    -- a value found at the front of a text, with its quote and its separator
    record IsClosed (t : List ℕ) (p : Found) : Type 0 where
      close : List ℕ
      rest : List ℕ
      found : find t ≡ some (p.0, close)
      closes : cond quoted (char quote close) (some close) ≡ some rest
      ends : after rest ≡ some p.1

    closed-to : (t : List ℕ) (p : Found) → bind (find t) (closed quoted after) ≡ some p → IsClosed t p
    closed-to t p e =
        let a = (bind-eq-some_iff (find t) _).0 e in
        let b = (bind-eq-some_iff (cond quoted (char quote a.0.1) (some a.0.1)) _).0 a.2 in
        let f = followed-to a.0.0 (after b.0) p b.2 in
        record { close = a.0.1; rest = b.0; found = a.1 ∙ ap (λ (x : ℕ). some (x, a.0.1)) f.1; closes = b.1; ends = f.0 }

    closed_of : (t : List ℕ) (p : Found) → IsClosed t p → bind (find t) (closed quoted after) ≡ some p
    unfolding bind
    closed_of t p s = rw (s.found, s.closes, s.ends)

-- ---- a value is found where a field has it, and a field has it where it is found

module _ {value : List ℕ → Option ℕ} {find : List ℕ → Option Found} {after : List ℕ → Option (List ℕ)} (f : Finds value find) (h : Separates after)
    (t : List ℕ) (p : Found) where
  -- not quoted
  plain-to : begins quote t ≡ false → IsSeparated value after t p → IsClosed value after find false t p
  unfolding field_in
  plain-to b s =
      let e : plain_in t ≡ (s.content, s.rest) = some-injective _ _ (rw b at s.read) in
      let split : t ≡ s.content ++ s.rest = rw e at (plain-split t) in
      let found : find t ≡ some (p.0, s.rest) = rw split (f.finds s.content s.rest p.0 s.valued (h _ _ s.ends).0) in
      record { close = s.rest; rest = s.rest; found = found; closes = refl; ends = s.ends }

  plain_of : begins quote t ≡ false → IsClosed value after find false t p → IsSeparated value after t p
  unfolding field_in
  plain_of b s =
      let close : s.close ≡ s.rest = some-injective _ _ s.closes in
      let g = f.found t (p.0, s.close) s.found in
      let ends : after s.close ≡ some p.1 = rw close s.ends in
      let front = plain-front g.0 s.close (f.text _ _ g.2) (h _ _ ends).0 in
      let read : field_in t ≡ some (g.0, s.close) = rw b (ap some (ap plain_in g.1 ∙ front)) in
      record { content = g.0; rest = s.close; read = read; valued = g.2; ends = ends }

  -- quoted
  quoted-to : begins quote t ≡ true → IsSeparated value after t p → IsClosed value after find true (drop 1 t) p
  unfolding field_in begins
  quoted-to b s =
      let read : quoted_in (drop 1 t) ≡ some (s.content, s.rest) = rw b at s.read in
      let split = quoted-split (drop 1 t) s.content s.rest read (f.text _ _ s.valued) in
      let found : find (drop 1 t) ≡ some (p.0, quote ∷ s.rest) = rw split (f.finds s.content (quote ∷ s.rest) p.0 s.valued refl) in
      record { close = quote ∷ s.rest; rest = s.rest; found = found; closes = refl; ends = s.ends }

  quoted-of : begins quote t ≡ true → IsClosed value after find true (drop 1 t) p → IsSeparated value after t p
  unfolding field_in
  quoted-of b s =
      let g = f.found (drop 1 t) (p.0, s.close) s.found in
      let front = quoted-front g.0 s.rest (f.text _ _ g.2) (h _ _ s.ends).1 in
      let close = char-written quote s.close s.rest s.closes in
      let split : drop 1 t ≡ g.0 ++ (quote ∷ s.rest) = g.1 ∙ ap (λ (l : List ℕ). g.0 ++ l) close in
      let read : field_in t ≡ some (g.0, s.rest) = rw b (ap quoted_in split ∙ front) in
      record { content = g.0; rest = s.rest; read = read; valued = g.2; ends = s.ends }

-- The field with its separator is what the code finds.
pub separated-found : {value : List ℕ → Option ℕ} {find : List ℕ → Option Found} {after : List ℕ → Option (List ℕ)} → Finds value find
    → Separates after → (t : List ℕ) → bind (find (opened t)) (closed (begins quote t) after) ≡ separated value after t
separated-found {value = value} {find = find} {after = after} f h t =
    same-options _ _
    (λ p e. separated-of value after t p (to (begins quote t) refl p e))
    (λ p e. of (begins quote t) refl p (separated-to value after t p e))
  where
    to : (b : Bool) → begins quote t ≡ b → (p : Found) → bind (find (opened t)) (closed (begins quote t) after) ≡ some p → IsSeparated value after t p
    to true b p e = quoted-of f h t p b (closed-to value after find true (drop 1 t) p (rw b at e))
    to false b p e = plain_of f h t p b (closed-to value after find false t p (rw b at e))

    of : (b : Bool) → begins quote t ≡ b → (p : Found) → IsSeparated value after t p → bind (find (opened t)) (closed (begins quote t) after) ≡ some p
    of true b p s = rw b (closed_of value after find true (drop 1 t) p (quoted-to f h t p b s))
    of false b p s = rw b (closed_of value after find false t p (plain-to f h t p b s))
