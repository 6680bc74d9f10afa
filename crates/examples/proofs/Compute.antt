-- What unfolds where a call is computed on numerals: `unfolding calls-by-value` opens every definition that the calls use.
use Rattle.lists.specs.Fold.{any, all, count, count_from, first, least}
use Rattle.lists.specs.Table.{rising_from, keep, fill, replace_first}
use Rattle.refusals.specs.Refusals.{lowest}
use Rattle.binary.specs.Number.{to_bytes, from_bytes, is_zero_from, is_same_bytes, overwrite}
use Rattle.binary.specs.Codec.{encode_rows, decode_rows}
use Rattle.decimal.specs.Decimal.{digits, padded}
use Rattle.calendar.specs.Calendar.{month_days, next_date, date_of}
use Rattle.calendar.specs.Text.{day_text}
use Rattle.state.specs.Minima.{is_in_range, is_in_force}
use Rattle.state.specs.Seats.{present_seats, quorum, quorum_of}
use Rattle.state.specs.Trustees.{ones_below, is_majority}
use Rattle.state.specs.Subjects.{is_seat_and_life, is_certify, is_minima, is_remove, is_subject}
use Rattle.state.specs.WellFormed.{are_well_formed_proposals, are_well_formed_logins, is_well_formed, blank_state}
use Rattle.tables.specs.Proposals.{add_proposal, has_proposal, drop_proposal, drop_lapsed, mature_proposal}
use Rattle.tables.specs.Logins.{find_login, is_listed, end_login, insert_login, add_login, earliest_row, make_room, grant_login}
use Rattle.page.specs.Line.{places}
use Rattle.page.specs.Page.{lines_of, page_text}
use Rattle.records.specs.Announcement.{announcing, read_propose, read_cancel, read_presents, read_certify, read_minima, read_remove, read_rejoin}
use Rattle.records.specs.Announcement.{read_grant, read_end, read_kind, read_announcement, announcement_bytes}
use Rattle.records.specs.Sheet.{rows_of, is_sheet, counts, counted_seats, sheet_of}
use Rattle.records.specs.StartQuery.{read_start, read_query}
use Rattle.checkpoint.specs.Checkpoint.{checkpoint_bytes, decode_as, is_of, is_checkpoint, read_checkpoint}
use Rattle.rules.specs.Rules.{time_refusal, notice_refusal, quorum_refusal, present_without, check_refusal, action_refusal}
use Rattle.actions.specs.Perform.{with_standing, with_life, effect, use_proposal, act, advance, perform}
use Rattle.verdicts.specs.Attempts.{are_in_range}
use Rattle.verdicts.specs.Verdicts.{deliver_refusal, shows_quorum, vote_refusal, login_refusal, query_refusal, start_refusal}
use Rattle.node.specs.Deliver.{deliver_read, deliver_of}
use Rattle.node.specs.Query.{answered, ask_of, query_of}
use Rattle.node.specs.Start.{blank_node, start_read, start_of}
use Rattle.node.specs.Checkpoint.{checkpoint_of}
use Rattle.node.specs.Page.{page_of, page_slice}

unfoldable pub calls-by-value : Unit {0}
unfolding any all count count_from first least rising_from keep fill replace_first lowest to_bytes from_bytes is_zero_from overwrite encode_rows decode_rows
    digits padded month_days next_date date_of day_text places lines_of page_text
    is_in_range is_in_force present_seats quorum quorum_of ones_below is_majority is_seat_and_life is_certify is_minima is_remove is_subject
    are_well_formed_proposals are_well_formed_logins is_well_formed blank_state
    add_proposal has_proposal drop_proposal drop_lapsed mature_proposal find_login is_listed end_login insert_login add_login earliest_row make_room grant_login
    announcing read_propose read_cancel read_presents read_certify read_minima read_remove read_rejoin read_grant read_end read_kind read_announcement
    announcement_bytes rows_of is_sheet counts counted_seats sheet_of read_start read_query
    checkpoint_bytes decode_as is_of is_checkpoint read_checkpoint
    time_refusal notice_refusal quorum_refusal present_without check_refusal action_refusal
    with_standing with_life effect use_proposal act advance perform is_same_bytes
    are_in_range deliver_refusal shows_quorum vote_refusal login_refusal query_refusal start_refusal
    deliver_read deliver_of answered ask_of query_of blank_node start_read start_of checkpoint_of page_of page_slice
calls-by-value = tt
