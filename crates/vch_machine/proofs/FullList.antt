-- A list of eight grows no more: nine tasks pass a voucher on, run by the machine in parts.
use Rattle.std.proofs.Common.{◌≡◌, ℕ, zero, suc, ◌+◌, ◌-◌, ◌*◌, Bool, List, [], ◌∷◌, ◌++◌, refl, Some, None, Option, true, false, map, length, arith, ap, ◌∙◌}
use Rattle.std.specs.Prelude.{if◌then◌else◌, ◌==◌, nat_lt, reverse}
use Rattle.vch_base.specs.declared.key.Key.TheVariants as keys
use Rattle.vch_base.specs.declared.value.Value.TheVariants as values
use Rattle.vch_base.specs.Words.{word}
use Rattle.vch_recipe.specs.Recipes.{word_at}
use Rattle.vch_model.specs.declared.call.Word.TheVariants as words
use Rattle.vch_model.specs.declared.entry.Entry.{Entry}
use Rattle.vch_model.specs.declared.entry.Entry.TheVariants as entries
use Rattle.vch_model.specs.declared.entry.Reply.TheVariants as replies
use Rattle.vch_model.specs.declared.lists.Scenario.{Scenario}
use Rattle.vch_model.specs.Eval.{create, eval_all}
use Rattle.vch_base.specs.Keyed.{everywhere}
use Rattle.vch_machine.specs.State.{Machine, Tasked, Living, idle, start, default_living}
use Rattle.vch_machine.specs.Events.{event, phase_event, numbers}
use Rattle.vch_machine.specs.Schedules.{in_turn, happens, has_ended, turn_task, lowest_open, move_of, run, past_of}
use Rattle.vch_machine.specs.Worked.{ample, last, turn, nine_tasks, full_list_end}

-- the state after some moves in turn
turned : ℕ → Scenario → Option Machine → Option Machine
turned zero sc o = o
turned (suc n) sc None = None
turned (suc n) sc (Some m) = if has_ended sc m then None else turned n sc
    (happens sc m (move_of ample 0 (turn_task sc m (lowest_open m (numbers (length sc.flags))))))

add_suc : (a b : ℕ) → suc a + b ≡ suc (a + b)
add_suc a b = omega arith

-- a run in turn goes on from there
goes_on : (a b : ℕ) (sc : Scenario) (o : Option Machine) (n : Machine) → turned a sc o ≡ Some n
    → run sc (in_turn (a + b) ample sc o) o ≡ run sc (in_turn b ample sc (Some n)) (Some n)
unfolding turned in_turn
goes_on zero b sc o n e = rw e (ap (λ k. run sc (in_turn k ample sc (Some n)) (Some n)) (none b))
  where
    none : (b : ℕ) → 0 + b ≡ b
    none b = omega arith
goes_on (suc a) b sc None n e = cc
goes_on (suc a) b sc (Some m) n e =
    ap (λ k. run sc (in_turn k ample sc (Some m)) (Some m)) (add_suc a b)
    ∙ by_end (has_ended sc m) (λ g. goes_on a b sc next n g) e
  where
    next : Option Machine
    next = happens sc m (move_of ample 0 (turn_task sc m (lowest_open m (numbers (length sc.flags)))))

    by_end : (c : Bool) → (turned a sc next ≡ Some n → run sc (in_turn (a + b) ample sc next) next ≡ run sc
        (in_turn b ample sc (Some n)) (Some n))
        → (if c then None else turned a sc next) ≡ Some n
        → run sc (if c then [] else (move_of ample (a + b) (turn_task sc m
        (lowest_open m (numbers (length sc.flags)))) ∷ in_turn (a + b) ample sc next)) (Some m)
        ≡ run sc (in_turn b ample sc (Some n)) (Some n)
    by_end true later g = cc
    by_end false later g = later g

-- The state once the voucher was passed on some times.

living : ℕ → Living
living k = record {
  place = record { key = keys.Importance; handle = k };
  value = values.Chain
      (numbers (k + 1));
  made = 3 * k + 1;
}

live_after : ℕ → List Living
live_after zero = default_living ∷ living 0 ∷ []
live_after (suc k) = live_after k ++ living (suc k) ∷ []

task_after : ℕ → ℕ → Tasked
task_after k i =
    if nat_lt (k + 1) i then idle
    else record {
      names = record { name = 1; voucher = record (everywhere None) { importance = Some (i - 1) }; refs = 1 }
          ∷ [];
      next = 2;
      queue = [];
      begun = if i == k + 1 then 1 else 2;
      frame = None;
    }

past_after : ℕ → List Entry
past_after zero = entries.Call 1 1 words.Create (replies.Created 1) ∷ entries.Made 2 (values.Chain (1 ∷ [])) ∷ []
past_after (suc k) =
    entries.Call (k + 2) 1 words.Recv (replies.Received (k + 1) 1 1) ∷ entries.Made 2 (values.Chain (numbers (k + 2)))
    ∷ entries.Call (k + 1) 2 words.Send replies.Done ∷ past_after k

after : ℕ → Machine
after k = record {
  live = live_after k;
  pools = record {
    importance = record { free = []; used = k + 1 };
    bank = record { free = []; used = 1 };
    user = record { free = []; used = 0 };
    test = record { free = []; used = 0 };
  };
  tasks = map (task_after k) (numbers 9);
  past = past_after k;
  tally = record { claims = 0; refers = k + 1; asks = 0 };
}

created : turned 4 nine_tasks (Some (start nine_tasks)) ≡ Some (after 0)
unfolding turned after live_after living task_after past_after event phase_event create eval_all word_at
created = refl

passed_0 : turned 8 nine_tasks (Some (after 0)) ≡ Some (after 1)
unfolding turned after live_after living task_after past_after event phase_event create eval_all word_at
passed_0 = refl

passed_1 : turned 8 nine_tasks (Some (after 1)) ≡ Some (after 2)
unfolding turned after live_after living task_after past_after event phase_event create eval_all word_at
passed_1 = refl

passed_2 : turned 8 nine_tasks (Some (after 2)) ≡ Some (after 3)
unfolding turned after live_after living task_after past_after event phase_event create eval_all word_at
passed_2 = refl

passed_3 : turned 8 nine_tasks (Some (after 3)) ≡ Some (after 4)
unfolding turned after live_after living task_after past_after event phase_event create eval_all word_at
passed_3 = refl

passed_4 : turned 8 nine_tasks (Some (after 4)) ≡ Some (after 5)
unfolding turned after live_after living task_after past_after event phase_event create eval_all word_at
passed_4 = refl

passed_5 : turned 8 nine_tasks (Some (after 5)) ≡ Some (after 6)
unfolding turned after live_after living task_after past_after event phase_event create eval_all word_at
passed_5 = refl

passed_6 : turned 8 nine_tasks (Some (after 6)) ≡ Some (after 7)
unfolding turned after live_after living task_after past_after event phase_event create eval_all word_at
passed_6 = refl

abbrev rest : ℕ → Machine → Option Machine
rest n m = run nine_tasks (in_turn n ample nine_tasks (Some m)) (Some m)

-- from the last state: the ninth task's calls, and the end of the phase
ends : last 5 (reverse (past_of (rest 60 (after 7)))) ≡ full_list_end
unfolding after live_after living task_after past_after in_turn event phase_event create eval_all word_at word
ends = refl

all_passed : rest 120 (start nine_tasks) ≡ rest 60 (after 7)
all_passed =
    goes_on 4 116 nine_tasks (Some (start nine_tasks)) (after 0) created
    ∙ (goes_on 8 108 nine_tasks (Some (after 0)) (after 1) passed_0
    ∙ (goes_on 8 100 nine_tasks (Some (after 1)) (after 2) passed_1
    ∙ (goes_on 8 92 nine_tasks (Some (after 2)) (after 3) passed_2
    ∙ (goes_on 8 84 nine_tasks (Some (after 3)) (after 4) passed_3
    ∙ (goes_on 8 76 nine_tasks (Some (after 4)) (after 5) passed_4
    ∙ (goes_on 8 68 nine_tasks (Some (after 5)) (after 6) passed_5
    ∙ goes_on 8 60 nine_tasks (Some (after 6)) (after 7) passed_6))))))

pub full_list : last 5 (turn 120 nine_tasks) ≡ full_list_end
full_list = ap (λ o. last 5 (reverse (past_of o))) all_passed ∙ ends
