-- The fields of a checkpoint, in their order. Its two kinds differ in how they hold the notices.
use Rattle.std.specs.Prelude.{ℕ, List}
use Rattle.lists.specs.Fold.{count}
use Rattle.binary.specs.Codec.{Codec, byte, number, constant, onto, rows, ◌⊗◌}
use Rattle.state.specs.declared.Notices.{Notices}
use Rattle.state.specs.declared.Minima.{Minima}
use Rattle.state.specs.declared.Seat.{Seat}
use Rattle.state.specs.declared.Proposal.{Proposal}
use Rattle.state.specs.declared.Login.{Login}
use Rattle.state.specs.declared.State.{State}
use Rattle.state.specs.Limits.{seat_count, proposal_rows, login_rows}
use Rattle.state.specs.Time.{cycle, day}
use Rattle.state.specs.Rows.{is_proposal, is_login}
use Rattle.checkpoint.specs.declared.Head.{Head}
use Rattle.checkpoint.specs.Layout.{kind_checkpoint, checkpoint_length, kind_earlier, earlier_length}

-- ordinary notice 1, restart notice 1
abbrev pub notices : Codec Notices
notices = onto (byte ⊗ byte) (λ p. record { ordinary = p.0; restart = p.1 }) (λ x. (x.ordinary, x.restart))

-- "with 7 and 2"
abbrev pub earlier_notices : Notices
earlier_notices = record { ordinary = 7; restart = 2 }

-- what the two kinds of checkpoint differ in
pub record Form : Type 1 where
  pub kind : ℕ
  pub length : ℕ
  pub notices : Codec Notices

-- "kind 26 is the one written"
abbrev pub current : Form
current = record { kind = kind_checkpoint; length = checkpoint_length; notices = notices }

-- "Kind 16 is still read, with 7 and 2"
abbrev pub earlier : Form
earlier = record { kind = kind_earlier; length = earlier_length; notices = constant earlier_notices }

-- m 1, k 1, S 2, and the notices as the form has them
abbrev pub minima : Codec Notices → Codec Minima
minima n =
    onto (byte ⊗ byte ⊗ number 2 ⊗ n) (λ p. record { margin = p.0; least = p.1.0; silence = p.1.1.0; notices = p.1.1.1 })
    (λ x. (x.margin, (x.least, (x.silence, x.notices))))

-- cycle 4, day 4, trustee counts 1+1, minima
abbrev pub head : Codec Notices → Codec Head
head n =
    onto ((number 4 ⊗ number 4) ⊗ (byte ⊗ byte) ⊗ minima n)
    (λ p. record { cycle = cycle p.0.0; day = day p.0.1; trustees1 = p.1.0.0; trustees2 = p.1.0.1; minima = p.1.1 })
    (λ h. ((h.cycle.0, h.day.0), ((h.trustees1, h.trustees2), h.minima)))

-- standing 1, life 4
abbrev pub seat : Codec Seat
seat = onto (byte ⊗ number 4) (λ p. record { standing = p.0; life = p.1 }) (λ x. (x.standing, x.life))

-- cycle 4, day 4, subject kind 2, subject arguments 8
abbrev pub proposal : Codec Proposal
proposal =
    onto ((number 4 ⊗ number 4) ⊗ (number 2 ⊗ number 8))
    (λ p. record { cycle = cycle p.0.0; day = day p.0.1; subject = record { kind = p.1.0; arguments = p.1.1 } })
    (λ r. ((r.cycle.0, r.day.0), (r.subject.kind, r.subject.arguments)))

-- login 4, end day 4, rights 2
abbrev pub login : Codec Login
login =
    onto (number 4 ⊗ number 4 ⊗ number 2) (λ p. record { login = p.0; end = day p.1.0; rights = p.1.1 })
    (λ r. (r.login, (r.end.0, r.rights)))

-- the tables, with the counts that stand before two of them
pub record Tables : Type 0 where
  pub seats : List Seat
  pub proposal_count : ℕ
  pub proposals : List Proposal
  pub login_count : ℕ
  pub logins : List Login

abbrev pub tables : Codec Tables
tables =
    onto (rows seat seat_count ⊗ (byte ⊗ rows proposal proposal_rows) ⊗ (byte ⊗ rows login login_rows))
    (λ p. record { seats = p.0; proposal_count = p.1.0.0; proposals = p.1.0.1; login_count = p.1.1.0; logins = p.1.1.1 })
    (λ t. (t.seats, ((t.proposal_count, t.proposals), (t.login_count, t.logins))))

-- a state and the two counts that stand before its tables
pub record Counted : Type 0 where
  pub proposals : ℕ
  pub logins : ℕ
  pub state : State

abbrev pub head_of : State → Head
head_of s = record { cycle = s.cycle; day = s.day; trustees1 = s.trustees1; trustees2 = s.trustees2; minima = s.minima }

abbrev pub tables_of : Counted → Tables
tables_of c = record {
  seats = c.state.seats;
  proposal_count = c.proposals;
  proposals = c.state.proposals;
  login_count = c.logins;
  logins = c.state.logins;
}

abbrev pub counted_of : Head → Tables → Counted
counted_of h t = record {
  proposals = t.proposal_count;
  logins = t.login_count;
  state = record {
    cycle = h.cycle;
    day = h.day;
    trustees1 = h.trustees1;
    trustees2 = h.trustees2;
    minima = h.minima;
    seats = t.seats;
    proposals = t.proposals;
    logins = t.logins;
  };
}

abbrev pub body : Codec Notices → Codec Counted
body n = onto (head n ⊗ tables) (λ p. counted_of p.0 p.1) (λ c. (head_of c.state, tables_of c))

-- "proposal count 1", "login count 1": the number of used rows of each table
abbrev pub counted : State → Counted
counted s = record { proposals = count is_proposal s.proposals; logins = count is_login s.logins; state = s }

-- length 2, kind 2, body
abbrev pub checkpoint : Codec Notices → Codec ((ℕ × ℕ) × Counted)
checkpoint n = (number 2 ⊗ number 2) ⊗ body n
