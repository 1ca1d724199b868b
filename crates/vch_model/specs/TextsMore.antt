-- Three more reports, and a canonical scenario with each call and each flag.
use Rattle.std.specs.Prelude.{◌≡◌, ℕ, true, false, List, [], ◌∷◌, ◌++◌, codes}
use Rattle.vch_model.specs.declared.call.Call.TheVariants as calls
use Rattle.vch_model.specs.declared.lists.Scenario.{Scenario}
use Rattle.vch_model.specs.Text.{newline}
use Rattle.vch_model.specs.Canonical.{Canon}
use Rattle.vch_model.specs.Examples.{self, by, plain, donor, receiver, both, phased}
use Rattle.vch_model.specs.Histories.{text_of}
use Rattle.vch_model.specs.WorkedNames as names

abbrev pub told_of_four_text : List ℕ
told_of_four_text =
    codes "report 1" ++ newline
    ++ codes "call 2 1 create 0 0" ++ newline
    ++ codes "made 7 user 6162" ++ newline
    ++ codes "call 2 2 create 0 1" ++ newline
    ++ codes "call 2 3 send 0" ++ newline
    ++ codes "call 1 1 recv 0 2 8 1" ++ newline
    ++ codes "call 2 4 recv 268451843" ++ newline
    ++ codes "made 7 user -" ++ newline
    ++ codes "call 3 1 create 0 1" ++ newline
    ++ codes "call 3 2 extract 0 -" ++ newline
    ++ codes "call 1 2 live 0 2 3" ++ newline
    ++ codes "made 2 list 4" ++ newline
    ++ codes "call 4 1 create 0 1" ++ newline
    ++ codes "made 3 task 4" ++ newline
    ++ codes "call 4 2 send 0" ++ newline
    ++ codes "made 2 list 4,2" ++ newline
    ++ codes "made 3 account 4 2" ++ newline
    ++ codes "call 2 5 recv 0 4 3 2" ++ newline
    ++ codes "released 13" ++ newline
    ++ codes "call 2 6 extern 0" ++ newline
    ++ codes "call 2 7 extern 0" ++ newline
    ++ codes "call 2 8 recipes 0 part -" ++ newline
    ++ codes "call 4 3 create -307" ++ newline
    ++ codes "call 3 3 send 0" ++ newline
    ++ codes "phase" ++ newline
    ++ codes "task 1 ledger 0 held 0 out 0" ++ newline
    ++ codes "task 2 ledger 0 held 2 out 0" ++ newline
    ++ codes "task 3 ledger 0 held 0 out 0" ++ newline
    ++ codes "task 4 ledger 0 held 0 out 2" ++ newline
    ++ codes "vouchers 4 values 6" ++ newline
    ++ codes "end" ++ newline

abbrev pub told_of_exit_text : List ℕ
told_of_exit_text =
    codes "report 2" ++ newline
    ++ codes "made 7 user 6162" ++ newline
    ++ codes "call 2 1 create 0 1" ++ newline
    ++ codes "made 7 user 6364" ++ newline
    ++ codes "call 2 2 create 0 2" ++ newline
    ++ codes "call 2 3 drop 0" ++ newline
    ++ codes "released 1" ++ newline
    ++ codes "gone 2 2" ++ newline
    ++ codes "released 3" ++ newline
    ++ codes "call 2 4 exit 0" ++ newline
    ++ codes "phase" ++ newline
    ++ codes "task 1 ledger 0 held 0 out 0" ++ newline
    ++ codes "task 2 ledger 0 held 0 out 0" ++ newline
    ++ codes "vouchers 0 values 1" ++ newline
    ++ codes "end" ++ newline

abbrev pub told_of_gone_text : List ℕ
told_of_gone_text =
    codes "report 2" ++ newline
    ++ codes "made 7 user 6162" ++ newline
    ++ codes "call 2 1 create 0 1" ++ newline
    ++ codes "gone 2 1" ++ newline
    ++ codes "released 1" ++ newline
    ++ codes "call 2 2 exit 0" ++ newline
    ++ codes "phase" ++ newline
    ++ codes "task 1 ledger 0 held 0 out 0" ++ newline
    ++ codes "task 2 ledger 0 held 0 out 0" ++ newline
    ++ codes "vouchers 0 values 1" ++ newline
    ++ codes "end" ++ newline

abbrev pub each_call : Scenario
each_call = phased (plain ∷ donor ∷ receiver ∷ both ∷ []) (
    (by 1 (calls.Create [])
    ∷ by 1 (calls.Create self)
    ∷ by 2 (calls.Send 3 true 1 7)
    ∷ by 3 calls.Recv
    ∷ by 3 (calls.Extern 1 true 4294967295)
    ∷ by 3 (calls.Extern 1 false 2) ∷ [])
    ∷ (by 1 (calls.Charge 1 5)
    ∷ by 1 (calls.Extract 1 2)
    ∷ by 1 (calls.Recipes 1)
    ∷ by 4 calls.Ledger
    ∷ by 4 calls.Assertions
    ∷ by 4 calls.Live
    ∷ by 1 (calls.GiveUp 1) ∷ []) ∷ [])

abbrev pub each_call_text : List ℕ
each_call_text =
    codes "vouch 1" ++ newline
    ++ codes "tasks 4" ++ newline
    ++ codes "task 1" ++ newline
    ++ codes "task 2 donor" ++ newline
    ++ codes "task 3 receiver" ++ newline
    ++ codes "task 4 donor receiver" ++ newline
    ++ codes "phase" ++ newline
    ++ codes "1 create -" ++ newline
    ++ codes "1 create 02000000c80000000000000000000000" ++ newline
    ++ codes "2 send 3 move 1 7" ++ newline
    ++ codes "3 recv" ++ newline
    ++ codes "3 extern 1 add 4294967295" ++ newline
    ++ codes "3 extern 1 drop 2" ++ newline
    ++ codes "phase" ++ newline
    ++ codes "1 charge 1 5" ++ newline
    ++ codes "1 extract 1 2" ++ newline
    ++ codes "1 recipes 1" ++ newline
    ++ codes "4 ledger" ++ newline
    ++ codes "4 assertions" ++ newline
    ++ codes "4 live" ++ newline
    ++ codes "1 drop 1" ++ newline
    ++ codes "end" ++ newline

pub record TextsMore : Type 0 where
  pub told_of_four : text_of names.told_of_four ≡ told_of_four_text
  pub told_of_exit : text_of names.told_of_exit ≡ told_of_exit_text
  pub told_of_gone : text_of names.told_of_gone ≡ told_of_gone_text
  pub each_call : Canon each_call ≡ each_call_text
