-- What other crates cite of the lemmas of this one.
pub use Rattle.vch_parts.proofs.asks.LiveValue.{value_belongs}
pub use Rattle.vch_parts.proofs.claims.OnClaims.{Shows, race_keeps, race_shows, back_keeps, back_shows, shape_on, picture_on}
pub use Rattle.vch_parts.proofs.counts.Few.{claims_few, refers_few, asks_few, asked_few, holders_few}
pub use Rattle.vch_parts.proofs.framing.Boths.{both_put, both_at, both_length}
pub use Rattle.vch_parts.proofs.framing.Closing.{Formless, closed_frames, holds_closed, receipts_closed, claimed_closed}
pub use Rattle.vch_parts.proofs.framing.FrameParts.{frames_of, formless_of, no_claim, no_receipt, twin}
pub use Rattle.vch_parts.proofs.framing.Glue.{in_parts, twin_of, from_end, Happens, event_of_run}
pub use Rattle.vch_parts.proofs.framing.NextKinds.{part_at, desk_inside, next_agrees, is_next}
pub use Rattle.vch_parts.proofs.framing.OfParts.{numbers_of, range, task_inside, own_frame, own_begun, tasks_then, entries_then, kept_then}
pub use Rattle.vch_parts.proofs.framing.Put.{frame_at, parts_range}
pub use Rattle.vch_parts.proofs.framing.Replaced.{framed, pictured, picture_by, held_before, held_behind, receipts_before, receipts_behind, claims_before, claims_behind, picture_now, picture_then, picture_same, shape_then}
pub use Rattle.vch_parts.proofs.framing.Sides.{even_of, as_many_parts, as_many_desks, side_at, set_sides, set_desk, set_work, desks_again}
pub use Rattle.vch_parts.proofs.holders.Held.{held_counted}
pub use Rattle.vch_parts.proofs.holders.Stable.{Keeps, map_stays, let_stays, frame_stays, task_stays}
pub use Rattle.vch_parts.proofs.keys.Elsewhere.{SameKey, elsewhere}
pub use Rattle.vch_parts.proofs.keys.Entered.{entries_here, kept_here, keeps_entries, keeps_kept, kept_stays, asked_same, asked_more}
pub use Rattle.vch_parts.proofs.keys.KeyCases.{turned, other_with, each_key, other_number, apart_keys}
pub use Rattle.vch_parts.proofs.keys.Maps.{at_key, map_with}
pub use Rattle.vch_parts.proofs.phases.PhaseEnds.{reached_phase}
pub use Rattle.vch_parts.proofs.starting.NewParts.{new_parts, new_reached, new_stands, limits_are}
pub use Rattle.vch_parts.proofs.refers.RefersNeeds.{refer_counts}
