-- What may not follow.
use Rattle.std.specs.Prelude.{[], ◌∷◌, ◌++◌}
use Rattle.vch_model.specs.Legal.{Legal}
use Rattle.vch_model.specs.Illegal as illegal
use Rattle.vch_model.specs.Illegal.{Wrong}

-- the history is legal, and it is not with the entry
abbrev pub IsRefused : Wrong → Type 0
IsRefused w = Legal w.history w.scenario × (Legal (w.history ++ w.entry ∷ []) w.scenario → ⊥)

pub record AreIllegal : Type 0 where
  pub released_while_named : IsRefused illegal.released_while_named
  pub released_while_queued : IsRefused illegal.released_while_queued
  pub released_twice : IsRefused illegal.released_twice
  pub released_call : IsRefused illegal.released_call
  pub made_twice : IsRefused illegal.made_twice
  pub made_default : IsRefused illegal.made_default
  pub made_of_no_task : IsRefused illegal.made_of_no_task
  pub made_of_nine : IsRefused illegal.made_of_nine
  pub made_at_other_key : IsRefused illegal.made_at_other_key
  pub made_8_in_version_1 : IsRefused illegal.made_8_in_version_1
  pub phase_with_unheld : IsRefused illegal.phase_with_unheld
  pub phase_before_call : IsRefused illegal.phase_before_call
  pub phase_too_many : IsRefused illegal.phase_too_many
  pub call_of_next_phase : IsRefused illegal.call_of_next_phase
  pub call_twice : IsRefused illegal.call_twice
  pub other_word : IsRefused illegal.other_word
  pub drop_out_of_memory : IsRefused illegal.drop_out_of_memory
  pub exit_out_of_memory : IsRefused illegal.exit_out_of_memory
  pub long_create_out_of_memory : IsRefused illegal.long_create_out_of_memory
  pub refused_create_out_of_memory : IsRefused illegal.refused_create_out_of_memory
  pub full_send_out_of_memory : IsRefused illegal.full_send_out_of_memory
  pub bare_receive_out_of_memory : IsRefused illegal.bare_receive_out_of_memory
  pub bare_send_out_of_memory : IsRefused illegal.bare_send_out_of_memory
  pub unknown_extract_out_of_memory : IsRefused illegal.unknown_extract_out_of_memory
  pub received_out_of_order : IsRefused illegal.received_out_of_order
  pub sent_past_limit : IsRefused illegal.sent_past_limit
  pub counted_past_bound : IsRefused illegal.counted_past_bound
  pub second_name : IsRefused illegal.second_name
  pub created_unmade : IsRefused illegal.created_unmade
  pub charged_default : IsRefused illegal.charged_default
  pub gone_not_lowest : IsRefused illegal.gone_not_lowest
  pub gone_unknown : IsRefused illegal.gone_unknown
  pub gone_without_exit : IsRefused illegal.gone_without_exit
  pub lost_while_named : IsRefused illegal.lost_while_named
  pub lost_of_none : IsRefused illegal.lost_of_none
  pub left_with_name : IsRefused illegal.left_with_name
  pub left_with_message : IsRefused illegal.left_with_message
