-- The kinds of "The nine actions".
use Rattle.std.specs.Prelude.{ℕ}

abbrev pub kind_propose : ℕ
kind_propose = 1

abbrev pub kind_cancel : ℕ
kind_cancel = 2

abbrev pub kind_presents : ℕ
kind_presents = 3

abbrev pub kind_certify : ℕ
kind_certify = 4

abbrev pub kind_minima : ℕ
kind_minima = 5

abbrev pub kind_remove : ℕ
kind_remove = 6

abbrev pub kind_rejoin : ℕ
kind_rejoin = 7

abbrev pub kind_grant : ℕ
kind_grant = 8

abbrev pub kind_end : ℕ
kind_end = 9
