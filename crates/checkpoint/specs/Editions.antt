-- "Checkpoints of old are read, and the lives in them stand." (02, A6); "Kind 16 is still read, with 7 and 2" (02, A7). The tests of the editions that
-- wrote kind 16 stand here for this claim alone, as they were written; what they cite has not changed since, but that minima have notices, which these
-- tests don't look at. `rejoins` tells the editions apart: in that of A6 a rejoin could be proposed, in those before it could not.
use Rattle.std.specs.Prelude.{ℕ, ◌/◌, ◌%◌, ◌^◌, ◌<◌, ◌≡◌, ◌≢◌, Bool, true, false, cond, not, ◌&&◌, ◌||◌, eqb, ltb, leb}
use mathlib.Core.List.{List, Memᴰ}
use Rattle.lists.specs.Fold.{all}
use Rattle.lists.specs.Table.{rising_from}
use Rattle.binary.specs.Number.{is_record}
use Rattle.state.specs.declared.Day.{Day}
use Rattle.state.specs.declared.Cycle.{Cycle}
use Rattle.state.specs.declared.Minima.{Minima}
use Rattle.state.specs.declared.Subject.{Subject}
use Rattle.state.specs.declared.Proposal.{Proposal}
use Rattle.state.specs.declared.State.{State}
use Rattle.state.specs.Limits.{seat_count, most_margin, most_least, most_silence}
use Rattle.state.specs.Kinds.{kind_certify, kind_minima, kind_remove, kind_rejoin}
use Rattle.state.specs.Time.{is_before_day, is_before_cycle, cycle}
use Rattle.state.specs.Seats.{present_seats, quorum_of}
use Rattle.state.specs.Subjects.{minima_in, is_remove, is_seat_and_life}
use Rattle.state.specs.Rows.{is_proposal}
use Rattle.state.specs.WellFormed.{is_well_formed_seat, is_blank_proposal, cycle_of, is_trustee_count, are_well_formed_logins}
use Rattle.checkpoint.specs.Format.{earlier, counted}
use Rattle.checkpoint.specs.Checkpoint.{CheckpointRead, decode_as, is_of, read_as, not_read, is_checkpoint, read_checkpoint}

-- "4 certify | seat 1, life 4 (at least 1)"
abbrev pub was_certify : ℕ → Bool
was_certify a = ltb (a % 256) seat_count && (leb 1 (a / 256) && ltb a (256 ^ 5))

-- "margin m (0 to 7); least quorum k (1 to 32); silence limit S (1 to 365 days)"
abbrev pub was_in_range : Minima → Bool
was_in_range x =
    leb x.margin most_margin
    && ((leb 1 x.least && leb x.least most_least)
    && (leb 1 x.silence && leb x.silence most_silence))

-- "5 minima | m 1, k 1, S 2"
abbrev pub was_minima : ℕ → Bool
was_minima a = was_in_range (minima_in a) && ltb a (256 ^ 4)

-- "subject kind 2 (4, 5 or 6)", and then 7
abbrev pub was_subject : Bool → Subject → Bool
was_subject rejoins x =
    (eqb x.kind kind_certify && was_certify x.arguments)
    || ((eqb x.kind kind_minima && was_minima x.arguments)
    || ((eqb x.kind kind_remove && is_remove x.arguments) || (rejoins && (eqb x.kind kind_rejoin && is_seat_and_life x.arguments))))

abbrev pub was_well_formed_proposal : Bool → Cycle → Day → Proposal → Bool
was_well_formed_proposal rejoins c d r =
    cond (is_proposal r) (is_before_cycle r.cycle c && (not (is_before_day d r.day) && was_subject rejoins r.subject)) (is_blank_proposal r)

-- the tests that all editions have in common, of a state and of a checkpoint of kind 16, with those of the minima and of the proposals' rows left open
abbrev pub passes : State → Bool → Bool → Bool
passes s ranges rows =
    is_before_cycle (cycle 0) s.cycle
    && ((is_trustee_count s.trustees1 && (is_trustee_count s.trustees2 && ranges))
    && (all is_well_formed_seat s.seats
    && (leb (quorum_of s) (present_seats s.seats)
    && ((rising_from is_proposal cycle_of 0 s.proposals && rows) && are_well_formed_logins s.logins))))

abbrev pub holds : List ℕ → Bool → Bool
holds b state =
    let c = decode_as earlier b in
    is_record earlier.length earlier.kind b
    && ((eqb c.proposals (counted c.state).proposals && eqb c.logins (counted c.state).logins) && state)

abbrev pub was_well_formed : Bool → State → Bool
was_well_formed rejoins s = passes s (was_in_range s.minima) (all (was_well_formed_proposal rejoins s.cycle s.day) s.proposals)

abbrev pub was_checkpoint : Bool → List ℕ → Bool
was_checkpoint rejoins b = holds b (was_well_formed rejoins (decode_as earlier b).state)

-- what it was read as; its notices, which no edition then had, are 7 and 2
abbrev pub was_read : Bool → List ℕ → CheckpointRead
was_read rejoins b = cond (was_checkpoint rejoins b) (read_as earlier b) not_read

-- a subject that could be proposed then: a rejoin only where rejoins could be, and minima that name no notice
pub record WasProposable (rejoins : Bool) (x : Subject) : Type 0 where
  pub rejoin : rejoins ≡ false → x.kind ≢ kind_rejoin
  pub minima : x.kind ≡ kind_minima → x.arguments < 256 ^ 4

abbrev pub ProposesNothingNew : Bool → List ℕ → Type 0
ProposesNothingNew rejoins b = (r : Proposal) → Memᴰ r (read_checkpoint b).state.proposals → WasProposable rejoins r.subject

-- Every checkpoint that was well formed is well formed, and is read as the same state, with the same lives. The others of kind 16 that are well formed
-- now have a proposal that could not be made.
pub record EditionsAgree (rejoins : Bool) (b : List ℕ) : Type 0 where
  pub old-read : was_checkpoint rejoins b ≡ true → (is_checkpoint b ≡ true) × (read_checkpoint b ≡ was_read rejoins b)
  pub new-read : is_of earlier b ≡ true → ProposesNothingNew rejoins b → (was_checkpoint rejoins b ≡ true) × (read_checkpoint b ≡ was_read rejoins b)

abbrev pub OldCheckpointsRead : Type 0
OldCheckpointsRead = (rejoins : Bool) (b : List ℕ) → EditionsAgree rejoins b
