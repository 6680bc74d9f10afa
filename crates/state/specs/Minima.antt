-- "margin m (0 to 7); least quorum k (1 to 32); silence limit S (1 to 365 days)"; "The minima action takes two more bytes, ordinary notice and restart
-- notice, 1 to 30 days each, zero meaning keep." (02, A7)
use Rattle.std.specs.Prelude.{ℕ, Bool, cond, ◌&&◌, eqb, leb}
use Rattle.state.specs.declared.Notices.{Notices}
use Rattle.state.specs.declared.Minima.{Minima}
use Rattle.state.specs.Limits.{most_margin, most_least, most_silence, most_notice}
use Rattle.state.specs.Kinds.{kind_rejoin}

-- the ranges of minima that are named, in an action or in a proposal
unfoldable pub is_in_range : Minima → Bool
is_in_range x =
    leb x.margin most_margin
    && ((leb 1 x.least && leb x.least most_least)
    && ((leb 1 x.silence && leb x.silence most_silence)
    && (leb x.notices.ordinary most_notice && leb x.notices.restart most_notice)))

-- and of those of a state: "where zero is malformed"
unfoldable pub is_in_force : Minima → Bool
is_in_force x = is_in_range x && (leb 1 x.notices.ordinary && leb 1 x.notices.restart)

-- "zero meaning keep"
abbrev pub or_kept : ℕ → ℕ → ℕ
or_kept named now = cond (eqb named 0) now named

-- the minima in force once x are named, where `now` are in force
abbrev pub set_over : Minima → Minima → Minima
set_over now x = record {
  margin = x.margin;
  least = x.least;
  silence = x.silence;
  notices = record {
    ordinary = or_kept x.notices.ordinary now.notices.ordinary;
    restart = or_kept x.notices.restart now.notices.restart;
  };
}

-- the least number of days from the proposal of an action of this kind to the action: the restart notice is that of a rejoin, the ordinary one that of
-- the others
abbrev pub notice_days : Notices → ℕ → ℕ
notice_days x kind = cond (eqb kind kind_rejoin) x.restart x.ordinary
