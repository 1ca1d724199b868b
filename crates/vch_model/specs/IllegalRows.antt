-- None of them may follow.
use Rattle.vch_model.specs.IllegalHistories.{IsRefused}
use Rattle.vch_model.specs.IllegalMore as illegal

pub record AreRefused : Type 0 where
  pub sent_unmade : IsRefused illegal.sent_unmade
  pub received_unmade_account : IsRefused illegal.received_unmade_account
  pub received_unmade_list : IsRefused illegal.received_unmade_list
  pub created_unmade_test : IsRefused illegal.created_unmade_test
  pub created_unmade_list : IsRefused illegal.created_unmade_list
  pub phase_with_unheld_test : IsRefused illegal.phase_with_unheld_test
  pub made_of_no_second : IsRefused illegal.made_of_no_second
  pub made_of_no_first : IsRefused illegal.made_of_no_first
  pub made_of_no_merchant : IsRefused illegal.made_of_no_merchant
  pub made_of_no_holder : IsRefused illegal.made_of_no_holder
  pub made_of_task_3 : IsRefused illegal.made_of_task_3
  pub phase_before_second : IsRefused illegal.phase_before_second
  pub phase_before_first : IsRefused illegal.phase_before_first
  pub first_phase_with_unheld : IsRefused illegal.first_phase_with_unheld
  pub number_again : IsRefused illegal.number_again
  pub number_skipped : IsRefused illegal.number_skipped
  pub gone_before_its_phase : IsRefused illegal.gone_before_its_phase
  pub lost_before_its_phase : IsRefused illegal.lost_before_its_phase
  pub gone_of_other : IsRefused illegal.gone_of_other
  pub lost_of_other : IsRefused illegal.lost_of_other
  pub lost_by_recv : IsRefused illegal.lost_by_recv
  pub made_of_nobody : IsRefused illegal.made_of_nobody
  pub made_task_as_list : IsRefused illegal.made_task_as_list
  pub made_task_as_test : IsRefused illegal.made_task_as_test
