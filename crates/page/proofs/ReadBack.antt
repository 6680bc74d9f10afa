-- A line is as long as it is said to be, and is read back: first each column.
use Prim.Native.Nat.{ℕ, ◌+◌}
use native.Mathlib.Omega.{arith}
use mathlib.Core.Path.{◌≡◌, refl, ap, ◌∙◌}
use mathlib.Core.List.{List, [], ◌∷◌, ◌++◌, append_assoc}
use mathlib.Core.Option.{Option, none, some}
use lib.ListN.{length, take, length-append}
use lib.Seq.{take_at}
use Rattle.binary.specs.Codec.{Codec}
use Rattle.binary.proofs.Codec.{ReadsBack, read_back, onto-back, ◌⊗-back◌}
use Rattle.decimal.specs.Decimal.{aligned, number_in, number_from}
use Rattle.decimal.proofs.Texts.{aligned-read-back}
use Rattle.calendar.specs.Text.{day_text, is_date, day_in}
use Rattle.calendar.proofs.Texts.{day-read-back}
use Rattle.state.specs.Limits.{right_count}
use Rattle.page.specs.declared.Word.{Word}
use Rattle.page.specs.declared.Word.TheVariants.{Open, Ended, Silent}
use Rattle.page.specs.Line.{login_column, end_text, HasDate, end_column, places, rights_in, rights_column}
use Rattle.page.specs.Line.{word_text, word_in, word_column, ◌then◌, space, line_feed}
use Rattle.page.specs.Line.{columns, of_columns, columns_of, line}
use Rattle.page.specs.Claims.{LineLaidOut, LineReadBack}
use Rattle.page.proofs.Places.{length-places, rights-read}

pub login-back : ReadsBack login_column
login-back = record {
  long = λ x h. (aligned-read-back 10 x (omega arith) (omega arith) h).0;
  back = λ x h t. (let e = aligned-read-back 10 x (omega arith) (omega arith) h in ap number_in (take_at (aligned 10 x) t 10 e.0) ∙ e.1);
}

end-long : (end : Option ℕ) → HasDate end → length (end_text end) ≡ 10
end-long none h = refl
end-long (some n) h = (day-read-back n h).size

end_read : (end : Option ℕ) → HasDate end → (t : List ℕ) → day_in (take 10 (end_text end ++ t)) ≡ end
unfolding day_in is_date number_from
end_read none h t = refl
end_read (some n) h t = ap day_in (take_at (day_text n) t 10 (day-read-back n h).size) ∙ (day-read-back n h).read

pub end_back : ReadsBack end_column
end_back = record { long = end-long; back = end_read }

pub rights-back : ReadsBack rights_column
rights-back = record {
  long = λ x h. length-places right_count 0 x;
  back = λ x h t. ap rights_in (take_at (places right_count 0 x) t 16 (length-places right_count 0 x)) ∙ rights-read x h;
}

word-long : (w : Word) → length (word_text w) ≡ 7
word-long Open = refl
word-long Ended = refl
word-long Silent = refl

word_read : (w : Word) (t : List ℕ) → word_in (word_text w ++ t) ≡ w
word_read Open t = refl
word_read Ended t = refl
word_read Silent t = refl

word_back : ReadsBack word_column
word_back = record { long = λ w h. word-long w; back = λ w h t. word_read w t }

pub then-back : {A : Type 0} {f : Codec A} → ReadsBack f → (c : ℕ) → ReadsBack (f then c)
then-back {f} F c = record {
  long = λ x h. length-append (f.encode x) (c ∷ []) ∙ ap (λ (n : ℕ). n + 1) (F.long x h);
  back = λ x h t. ap f.decode (append_assoc (f.encode x) (c ∷ []) t) ∙ F.back x h (c ∷ t);
}

columns-back : ReadsBack columns
columns-back =
    then-back login-back space ⊗-back then-back end_back space ⊗-back then-back rights-back space ⊗-back then-back word_back line_feed

pub line-back : ReadsBack line
line-back = onto-back of_columns columns_of (λ _. refl) columns-back

pub line-laid-out : LineLaidOut
line-laid-out = record { end = refl; rights = refl; word = refl; whole = refl }

pub line-read-back : LineReadBack
line-read-back x h = record { size = line-back.long x h; read = read_back line-back x h }
