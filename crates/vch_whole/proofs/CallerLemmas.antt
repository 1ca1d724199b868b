-- What other crates cite of the lemmas of this one.
pub use Rattle.vch_whole.proofs.Following.{may_follow, reached_may}
pub use Rattle.vch_whole.proofs.Standing.{Reach, reach, from_state, next_of, is_true, to_true, inside, frame_same, own_begun}
