-- None of them may be answered out of memory.
use Rattle.vch_model.specs.Wants.{IsUnwanted}
use Rattle.vch_model.specs.WorkedWants as wants

pub record AreUnwanted : Type 0 where
  pub no_bytes : IsUnwanted wants.no_bytes
  pub cut_header : IsUnwanted wants.cut_header
  pub cut_record : IsUnwanted wants.cut_record
  pub unknown_previous : IsUnwanted wants.unknown_previous
  pub key_without_manager : IsUnwanted wants.key_without_manager
  pub test_key_in_version_1 : IsUnwanted wants.test_key_in_version_1
  pub redeem_all_with_content : IsUnwanted wants.redeem_all_with_content
  pub store_at_all : IsUnwanted wants.store_at_all
  pub copy_with_content : IsUnwanted wants.copy_with_content
  pub copy_at_key_99 : IsUnwanted wants.copy_at_key_99
  pub code_before_asking : IsUnwanted wants.code_before_asking
  pub extract_unmanaged : IsUnwanted wants.extract_unmanaged
  pub recipes_of_unknown : IsUnwanted wants.recipes_of_unknown
  pub send_to_no_task : IsUnwanted wants.send_to_no_task
  pub send_of_unknown : IsUnwanted wants.send_of_unknown
  pub send_of_list_to_full : IsUnwanted wants.send_of_list_to_full
  pub recv_from_empty : IsUnwanted wants.recv_from_empty
  pub recv_of_bare_first : IsUnwanted wants.recv_of_bare_first
  pub ledger : IsUnwanted wants.ledger
  pub live : IsUnwanted wants.live
  pub assertions : IsUnwanted wants.assertions
  pub charge : IsUnwanted wants.charge
  pub extern : IsUnwanted wants.extern
