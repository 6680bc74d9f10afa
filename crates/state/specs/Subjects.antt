-- The subject of a proposal: "subject kind 2 (4, 5 or 6), its first 8 argument bytes", these as one little-endian number; "unused ones zero".
-- "Propose now takes subject kind 7" (02, A6).
use Rattle.std.specs.Prelude.{ℕ, ◌+◌, ◌*◌, ◌/◌, ◌%◌, ◌^◌, Bool, ◌&&◌, ◌||◌, eqb, ltb, leb}
use Rattle.state.specs.declared.Minima.{Minima}
use Rattle.state.specs.declared.Subject.{Subject}
use Rattle.state.specs.Limits.{seat_count}
use Rattle.state.specs.Kinds.{kind_certify, kind_minima, kind_remove, kind_rejoin}
use Rattle.state.specs.Minima.{is_in_range}

-- "seat 1, life 4"; "seats are below 32"
abbrev pub seat_and_life : ℕ → ℕ → ℕ
seat_and_life seat life = seat + 256 * life

unfoldable pub is_seat_and_life : ℕ → Bool
is_seat_and_life a = ltb (a % 256) seat_count && ltb a (256 ^ 5)

-- "4 certify | seat 1, life 4 (at least 1)"
abbrev pub certifies : ℕ → ℕ → Subject
certifies seat life = record { kind = kind_certify; arguments = seat_and_life seat life }

unfoldable pub is_certify : ℕ → Bool
is_certify a = is_seat_and_life a && leb 1 (a / 256)

-- "5 minima | m 1, k 1, S 2", and "two more bytes, ordinary notice and restart notice" (02, A7)
abbrev pub sets_minima : Minima → Subject
sets_minima x = record {
  kind = kind_minima;
  arguments = x.margin + 256 * x.least + 256 ^ 2 * x.silence + 256 ^ 4 * x.notices.ordinary + 256 ^ 5 * x.notices.restart;
}

abbrev pub minima_in : ℕ → Minima
minima_in a = record {
  margin = a % 256;
  least = a / 256 % 256;
  silence = a / 256 ^ 2 % 256 ^ 2;
  notices = record { ordinary = a / 256 ^ 4 % 256; restart = a / 256 ^ 5 % 256 };
}

unfoldable pub is_minima : ℕ → Bool
is_minima a = is_in_range (minima_in a) && ltb a (256 ^ 6)

-- "6 remove | seat 1"
abbrev pub removes : ℕ → Subject
removes seat = record { kind = kind_remove; arguments = seat }

unfoldable pub is_remove : ℕ → Bool
is_remove a = ltb a seat_count

-- "7 rejoin | seat 1, life 4"
abbrev pub rejoins : ℕ → ℕ → Subject
rejoins seat life = record { kind = kind_rejoin; arguments = seat_and_life seat life }

-- that of an action that needs no notice
abbrev pub no_subject : Subject
no_subject = record { kind = 0; arguments = 0 }

-- "a proposal's subject arguments obey the ranges of their kind"
unfoldable pub is_subject : Subject → Bool
is_subject x =
    (eqb x.kind kind_certify && is_certify x.arguments)
    || ((eqb x.kind kind_minima && is_minima x.arguments)
    || ((eqb x.kind kind_remove && is_remove x.arguments) || (eqb x.kind kind_rejoin && is_seat_and_life x.arguments)))
