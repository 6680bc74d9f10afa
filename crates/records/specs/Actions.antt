-- What is chosen by the kind of an action.
use Rattle.std.specs.Prelude.{ℕ, cond, ◌||◌, eqb}
use Rattle.state.specs.declared.Subject.{Subject}
use Rattle.state.specs.Limits.{seat_count}
use Rattle.state.specs.Kinds.{kind_propose, kind_cancel, kind_presents, kind_certify, kind_minima, kind_remove, kind_rejoin, kind_grant, kind_end}
use Rattle.state.specs.Subjects.{certifies, sets_minima, removes, rejoins, no_subject}
use Rattle.records.specs.declared.Action.{Action}
use Rattle.records.specs.declared.Action.TheVariants.{Propose, Cancel, Presents, Certify, Minima, Remove, Rejoin, Grant, End}

-- the kind number
abbrev pub kind_of : Action → ℕ
kind_of (Propose x) = kind_propose
kind_of (Cancel c) = kind_cancel
kind_of (Presents i flag) = kind_presents
kind_of (Certify i life) = kind_certify
kind_of (Minima x) = kind_minima
kind_of (Remove i) = kind_remove
kind_of (Rejoin i life) = kind_rejoin
kind_of (Grant x) = kind_grant
kind_of (End login) = kind_end

-- "Kinds 4, 5 and 6 need more than half of level 2, the others more than half of level 1."
abbrev pub level_of : ℕ → ℕ
level_of kind = cond (eqb kind kind_certify || (eqb kind kind_minima || eqb kind kind_remove)) 2 1

-- "Kinds 4, 5 and 6 also use up the ripe proposal .. with the same kind and arguments", and "rejoin needs its proposal" (02, A6): the subject of that
-- proposal, and none for the other kinds
abbrev pub subject_of : Action → Subject
subject_of (Propose x) = no_subject
subject_of (Cancel c) = no_subject
subject_of (Presents i flag) = no_subject
subject_of (Certify i life) = certifies i life
subject_of (Minima x) = sets_minima x
subject_of (Remove i) = removes i
subject_of (Rejoin i life) = rejoins i life
subject_of (Grant x) = no_subject
subject_of (End login) = no_subject

-- the seat that the action names, and one above the last for the kinds that name none
abbrev pub seat_of : Action → ℕ
seat_of (Propose x) = seat_count
seat_of (Cancel c) = seat_count
seat_of (Presents i flag) = i
seat_of (Certify i life) = i
seat_of (Minima x) = seat_count
seat_of (Remove i) = i
seat_of (Rejoin i life) = i
seat_of (Grant x) = seat_count
seat_of (End login) = seat_count
