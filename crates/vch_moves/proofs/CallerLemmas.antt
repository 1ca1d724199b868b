-- What other crates cite of the lemmas of this one.
pub use Rattle.vch_moves.proofs.ending.Refused.{refused_stands}
pub use Rattle.vch_moves.proofs.beginning.Begun.{create_begun, exit_begun, answered_begun}
pub use Rattle.vch_moves.proofs.beginning.Copied.{copied_stands}
pub use Rattle.vch_moves.proofs.beginning.Bare.{taken_stands, queued_stands}
pub use Rattle.vch_moves.proofs.ending.Created.{created_stands}
pub use Rattle.vch_moves.proofs.ending.Sent.{sent_moving, sent_staying}
pub use Rattle.vch_moves.proofs.ending.Received.{received_stands}
pub use Rattle.vch_moves.proofs.leaving.Dropped.{dropped_stands}
pub use Rattle.vch_moves.proofs.leaving.Exits.{gone_stands, lost_stands, left_stands}
pub use Rattle.vch_moves.proofs.working.Formed.{formed_stands}
pub use Rattle.vch_moves.proofs.keeping.Keeping.{moved_stands}
pub use Rattle.vch_moves.proofs.keeping.Stepping.{OneStep, step_stands}
pub use Rattle.vch_moves.proofs.keeping.Between.{between_stands}
pub use Rattle.vch_moves.proofs.sharing.SharedStep.{SharedStep, shared_stands}
pub use Rattle.vch_moves.proofs.leaving.GivesUp.{GivesUp, Leaves, gives_up_stands}
pub use Rattle.vch_moves.proofs.working.Given.{managed_differ}
pub use Rattle.vch_moves.proofs.happening.Running.{stands_of, ties_of, from_state, next_in, event_by, may_follow}
pub use Rattle.vch_moves.proofs.happening.Tasks.{same_begun, free_of, at_work_of, forms_call, forms_of, idle_of}
pub use Rattle.vch_moves.proofs.happening.Beginning.{begin_next, begin_event, begin_happens, create_empty, create_long, create_framed, send_nowhere, send_full, send_bare, send_unknown, send_framed, recv_nothing, recv_bare, recv_framed}
pub use Rattle.vch_moves.proofs.happening.Rooms.{entry_room, begin_room, make_room, place_create_room, place_recv_room, place_send_room, work_room, exit_room}
pub use Rattle.vch_moves.proofs.happening.Calls.{is_own, AtCall, at_call, at_call_of, own_event}
pub use Rattle.vch_moves.proofs.happening.Ends.{is_call, call_happens, make_event, place_event, work_is_done, exit_event, exit_name, exit_message, exit_left, first_message, no_message, full_queue, room_in_queue, send_too_many, send_wanting, send_placed, send_inside}
pub use Rattle.vch_moves.proofs.happening.Openings.{is_answered, counts_nothing, refused_nothing, answers_at_once, create_opens, exit_opens, drop_at_once, send_knows_none, send_copies, send_finds_full, send_queues, recv_finds_none, recv_takes, recv_keys, recv_copies}
pub use Rattle.vch_moves.proofs.happening.Closings.{refuses, make_wants, making_room, create_room, create_wants, create_places, send_to, send_room, send_times_out, send_wants, send_places, recv_room, recv_wants, recv_places, recv_there, exit_has_room, exit_forms, exit_gives_name, exit_gives_message, exit_ends}
pub use Rattle.vch_moves.proofs.happening.Altering.{copy_alters, remove_alters, remove_same_alters}
pub use Rattle.vch_moves.proofs.happening.Recording.{named_voucher, unnamed_voucher, record_room, record_refused, record_works}
pub use Rattle.vch_moves.proofs.happening.Putting.{own_desk, own_work, all_desks, desks_then, put_same, stepped_is}
pub use Rattle.vch_moves.proofs.happening.Opened.{begun_few, begun_range, stepped_begun, opened_is}
pub use Rattle.vch_moves.proofs.happening.Valued.{formed_is, copied_is}
pub use Rattle.vch_moves.proofs.stating.Forming.{vouchers_form}
pub use Rattle.vch_moves.proofs.stating.Begins.{refusals_stand, creates_begin, exits_begin, copies_begin, answers_begin, takings_begin, queueings_begin}
pub use Rattle.vch_moves.proofs.desks.Names.{voucher_is}
pub use Rattle.vch_moves.proofs.holding.InTasks.{own_known}
pub use Rattle.vch_moves.proofs.keeping.OneTask.{vouchers_stay}
pub use Rattle.vch_moves.proofs.stating.Places.{creates_place, moving_sends_place, sends_place, recvs_place}
pub use Rattle.vch_moves.proofs.stating.Leaves.{drops_leave, names_leave, messages_leave, tasks_leave}
pub use Rattle.vch_moves.proofs.sharing.Among.{first_known, known_held}
