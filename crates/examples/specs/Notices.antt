-- "Notices the park can set": computed deliveries, under notices other than 7 and 2 and of the minima that set them.
use Rattle.std.specs.Prelude.{◌≡◌, [], ◌∷◌, ◌++◌, ℕ, replicate}
use Rattle.state.specs.declared.Notices.{Notices}
use Rattle.state.specs.declared.Minima.{Minima}
use Rattle.state.specs.declared.State.{State}
use Rattle.state.specs.Subjects.{removes, rejoins, sets_minima}
use Rattle.state.specs.Update.{with_minima}
use Rattle.records.specs.declared.Action.TheVariants.{Propose, Remove, Rejoin}
use Rattle.records.specs.declared.Action.TheVariants as case
use Rattle.checkpoint.specs.Checkpoint.{checkpoint_bytes}
use Rattle.node.specs.declared.Node.{Node}
use Rattle.node.specs.Reply.{DeliverReply}
use Rattle.node.specs.DeliverAnswer.{DeliverAnswer}
use Rattle.node.specs.DeliverAnswer.{Done, Refused}
use Rattle.node.specs.StartAnswer as Start
use Rattle.node.specs.Start.{start_of}
use Rattle.node.specs.Deliver.{deliver_of}
use Rattle.examples.specs.Records.{first_checkpoint, start_seat0, announce, two_votes}
use Rattle.examples.specs.TableOfNo.{first_state, started, proposed}

abbrev pub notices : ℕ → ℕ → Notices
notices ordinary restart = record { ordinary = ordinary; restart = restart }

-- m=0, k=2, S=30, and these notices
abbrev pub minima : ℕ → ℕ → Minima
minima ordinary restart = record { margin = 0; least = 2; silence = 30; notices = notices ordinary restart }

-- the first state with these in force
abbrev pub in_force : ℕ → ℕ → State
in_force ordinary restart = with_minima (minima ordinary restart) first_state

-- what a node whose notices are 10 and 4 answers in cycle 2 to an action that was proposed on day 101
abbrev pub removal : ℕ → DeliverAnswer
removal d = (deliver_of (proposed (removes 0) (in_force 10 4)) (announce 2 d (Remove 0)) two_votes).answer

abbrev pub replacement : ℕ → DeliverAnswer
replacement d = (deliver_of (proposed (rejoins 1 2) (in_force 10 4)) (announce 2 d (Rejoin 1 2)) two_votes).answer

-- what a node of the park's first checkpoint, of kind 16, replies in cycle 2 to minima that name these notices, proposed on day 101
abbrev pub setting : ℕ → ℕ → ℕ → DeliverReply
setting ordinary restart d =
    deliver_of (proposed (sets_minima (minima ordinary restart)) first_state) (announce 2 d (case.Minima (minima ordinary restart))) two_votes

-- The removal of seat 0 is proposed on day 101, minima that name this ordinary notice too. Those are performed on day 108, the seventh after: what the
-- node then answers to the removal in cycle 4.
abbrev pub proposed_both : ℕ → Node
proposed_both ordinary =
    (deliver_of (proposed (removes 0) first_state) (announce 2 101 (Propose (sets_minima (minima ordinary 0)))) two_votes).node

abbrev pub after_setting : ℕ → ℕ → DeliverAnswer
after_setting ordinary d =
    (deliver_of (deliver_of (proposed_both ordinary) (announce 3 108 (case.Minima (minima ordinary 0))) two_votes).node (announce 4 d (Remove 0)) two_votes
    ).answer

pub record NoticeExamples : Type 0 where
  -- the notices in force, 10 and 4: a day less and as many, and 60 days and 61 as ever
  pub ordinary-less : removal 110 ≡ Refused 10
  pub ordinary : removal 111 ≡ Done
  pub restart-less : replacement 104 ≡ Refused 10
  pub restart : replacement 105 ≡ Done
  pub valid : removal 161 ≡ Done
  pub lapsed : removal 162 ≡ Refused 10
  -- minima that shorten the notice need the one in force, and set both or keep one
  pub shortened-early : (setting 1 0 107).answer ≡ Refused 10
  pub shortened : (setting 1 0 108).node.state.minima.notices ≡ notices 1 2
  pub restart-set : (setting 0 30 108).node.state.minima.notices ≡ notices 7 30
  pub both-kept : (setting 0 0 108).node.state.minima.notices ≡ notices 7 2
  -- "the same arguments": minima that name the notice in force are not those that keep it
  pub other-bytes :
      (deliver_of (proposed (sets_minima (minima 0 0)) first_state) (announce 2 108 (case.Minima (minima 7 0))) two_votes).answer ≡ Refused 10
  -- "A notice above 30 is rule 1."
  pub above-30 : (deliver_of (started first_state) (announce 1 101 (case.Minima (minima 31 0))) two_votes).answer ≡ Refused 1
  pub proposed-above-30 : (deliver_of (started first_state) (announce 1 101 (Propose (sets_minima (minima 0 31)))) two_votes).answer ≡ Refused 1
  -- a removal of the age of 7 days under notices that were then set to 8, and to 7; one of the age of 8
  pub lengthened : after_setting 8 108 ≡ Refused 10
  pub same : after_setting 7 108 ≡ Done
  pub grown : after_setting 8 109 ≡ Done
  -- kind 16 is read with 7 and 2, and is written as kind 26; a start from that gives the same node
  pub written : checkpoint_bytes first_state
      ≡ (84 ∷ 4 ∷ 26 ∷ 0 ∷ 1 ∷ 0 ∷ 0 ∷ 0 ∷ 100 ∷ 0 ∷ 0 ∷ 0 ∷ 1 ∷ 1 ∷ 0 ∷ 2 ∷ 30 ∷ 0 ∷ 7 ∷ 2 ∷ [])
      ++ ((2 ∷ 1 ∷ 0 ∷ 0 ∷ 0 ∷ 2 ∷ 1 ∷ 0 ∷ 0 ∷ 0 ∷ 2 ∷ 1 ∷ 0 ∷ 0 ∷ 0 ∷ []) ++ replicate 1075 0)
  pub same-node : start_of (checkpoint_bytes first_state) start_seat0 ≡ start_of first_checkpoint start_seat0
  -- "where zero is malformed", and 31
  pub zero-notice : (start_of (checkpoint_bytes (in_force 7 0)) start_seat0).answer ≡ Start.Refused 1
  pub notice-of-31 : (start_of (checkpoint_bytes (in_force 31 2)) start_seat0).answer ≡ Start.Refused 1
