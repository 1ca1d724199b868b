-- What the managers answer where no history of a scenario can ask them: the values of another task.
use Rattle.std.specs.Prelude.{◌≡◌, true, false, [], ◌∷◌, Some, None, Ok}
use Rattle.vch_base.specs.declared.key.Key.TheVariants as keys
use Rattle.vch_base.specs.declared.value.Value.TheVariants as values
use Rattle.vch_base.specs.Managers.{preprocessed, received}
use Rattle.vch_model.specs.Eval.{answer_to}
use Rattle.vch_model.specs.Replies.{may_charge}

pub record AreManaged : Type 0 where
  -- a charge is by the holder of a task's value, or by the merchant of an account
  pub own_task : may_charge 1 (Some (values.Task 1)) ≡ true
  pub other_task : may_charge 2 (Some (values.Task 1)) ≡ false
  pub merchant : may_charge 2 (Some (values.Account 1 2)) ≡ true
  pub holder : may_charge 1 (Some (values.Account 1 2)) ≡ false
  pub other_merchant : may_charge 3 (Some (values.Account 1 2)) ≡ false
  pub default : may_charge 1 (Some values.Default) ≡ false
  pub nothing : may_charge 1 None ≡ false
  -- sent by task 2
  pub sent_default : preprocessed 2 values.Default ≡ values.Task 2
  pub sent_task : preprocessed 2 (values.Task 1) ≡ values.Task 1
  pub sent_account : preprocessed 2 (values.Account 1 3) ≡ values.Task 1
  -- received by task 2
  pub received_default : received true 2 values.Default ≡ values.Default
  pub received_own : received true 2 (values.Task 2) ≡ values.Task 2
  pub received_task : received true 2 (values.Task 1) ≡ values.Account 1 2
  pub received_account : received true 2 (values.Account 1 3) ≡ values.Account 1 3
  -- a list goes on to a receiver that is not its last, up to eight tasks
  pub joined : received true 2 (values.Chain (1 ∷ [])) ≡ values.Chain (1 ∷ 2 ∷ [])
  pub no_receiver : received false 2 (values.Chain (1 ∷ [])) ≡ values.Chain (1 ∷ [])
  pub last_again : received true 2 (values.Chain (1 ∷ 2 ∷ [])) ≡ values.Chain (1 ∷ 2 ∷ [])
  pub first_again : received true 1 (values.Chain (1 ∷ 2 ∷ [])) ≡ values.Chain (1 ∷ 2 ∷ 1 ∷ [])
  pub of_seven : received true 8 (values.Chain (1 ∷ 2 ∷ 3 ∷ 4 ∷ 5 ∷ 6 ∷ 7 ∷ [])) ≡ values.Chain (1 ∷ 2 ∷ 3 ∷ 4 ∷ 5 ∷ 6 ∷ 7 ∷ 8 ∷ [])
  pub of_eight : received true 9 (values.Chain (1 ∷ 2 ∷ 3 ∷ 4 ∷ 5 ∷ 6 ∷ 7 ∷ 8 ∷ []))
      ≡ values.Chain (1 ∷ 2 ∷ 3 ∷ 4 ∷ 5 ∷ 6 ∷ 7 ∷ 8 ∷ [])
  -- SELF gives the task's own list, whatever the previous voucher has
  pub self : answer_to keys.Importance 2 200 (Some (values.Chain (1 ∷ 2 ∷ []))) [] ≡ Ok (Some (values.Chain (2 ∷ [])))
