-- The run in turn is one: whatever the bound, it comes to the same end, and so does its history.
use Rattle.std.proofs.Common.{◌≡◌, ℕ, zero, suc, Bool, List, refl, true, false, sym, ap, ◌∙◌, subst, reverse, length, Some, None, Option}
use Rattle.vch_model.specs.declared.entry.Entry.{Entry}
use Rattle.vch_model.specs.declared.lists.Scenario.{Scenario}
use Rattle.vch_machine.specs.State.{Machine, start}
use Rattle.vch_machine.specs.Events.{numbers}
use Rattle.vch_machine.specs.PlainRuns.{never, IsPlainRun}
use Rattle.vch_machine.specs.Schedules.{Move, happens, run, lowest_open, turn_task, move_of, has_ended, in_turn}
use Rattle.vch_legal.proofs.facts.Choices.{cases_bool}

some_eq : {x y : Machine} → Some x ≡ Some y → x ≡ y
some_eq e = cc

not_both : (b : Bool) → b ≡ true → b ≡ false → ⊥
not_both true e h = cc
not_both false e h = cc

-- the moves of the run in turn in which memory never runs out, and what they lead to
abbrev Leads : Scenario → ℕ → Option Machine → Machine → Type 0
Leads sc n m a = run sc (in_turn n never sc m) m ≡ Some a

-- at the end there is no move
over_there : (sc : Scenario) (n : ℕ) (m a : Machine) → has_ended sc m ≡ true → Leads sc n (Some m) a → m ≡ a
unfolding in_turn
over_there sc zero m a over e = some_eq e
over_there sc (suc n) m a over e = some_eq (rw over at e)

-- the next move
abbrev next_move : Scenario → ℕ → Machine → Move
next_move sc n m = move_of never n (turn_task sc m (lowest_open m (numbers (length sc.flags))))

-- it does not depend on how many moves are left
same_move : (n k : ℕ) (o : Option ℕ) → move_of never n o ≡ move_of never k o
same_move n k None = refl
same_move n k (Some t) = refl

goes_on : (sc : Scenario) (n : ℕ) (m a : Machine) → has_ended sc m ≡ false → Leads sc (suc n) (Some m) a
    → Leads sc n (happens sc m (next_move sc n m)) a
unfolding in_turn
goes_on sc n m a over e = rw over at e

-- two ends are one
same_end : (sc : Scenario) (n k : ℕ) (m a b : Machine) → has_ended sc a ≡ true → has_ended sc b ≡ true
    → Leads sc n (Some m) a → Leads sc k (Some m) b → a ≡ b
unfolding in_turn
same_end sc zero k m a b x y e g = let same : m ≡ a = some_eq e in
    sym same ∙ over_there sc k m b (subst (λ (z : Machine). has_ended sc z ≡ true) (sym same) x) g
same_end sc (suc n) zero m a b x y e g = let same : m ≡ b = some_eq g in
    sym (over_there sc (suc n) m a (subst (λ (z : Machine). has_ended sc z ≡ true) (sym same) y) e) ∙ same
same_end sc (suc n) (suc k) m a b x y e g =
    cases_bool (has_ended sc m) (a ≡ b)
    (λ over. sym (over_there sc (suc n) m a over e) ∙ over_there sc (suc k) m b over g)
    (λ over. by_move (happens sc m (next_move sc n m)) (λ z. same_end sc n k z a b x y)
    (goes_on sc n m a over e)
    (subst (λ (move : Move). Leads sc k (happens sc m move) b)
    (same_move k n (turn_task sc m (lowest_open m (numbers (length sc.flags)))))
    (goes_on sc k m b over g)))
  where
    by_move : (o : Option Machine) → ((z : Machine) → Leads sc n (Some z) a → Leads sc k (Some z) b → a ≡ b)
        → Leads sc n o a → Leads sc k o b → a ≡ b
    by_move None rec e g = absurd (nowhere n e)
      where
        nowhere : (n : ℕ) → Leads sc n None a → ⊥
        nowhere zero e = cc
        nowhere (suc n) e = cc
    by_move (Some z) rec e g = rec z e g

pub one_run : (sc : Scenario) (first second : List Entry) → IsPlainRun sc first → IsPlainRun sc second → first ≡ second
one_run sc first second a b =
    a.history_is ∙ (ap (λ (m : Machine). reverse m.past)
    (same_end sc a.bound b.bound (start sc) a.m b.m a.ended b.ended a.run b.run) ∙ sym b.history_is)
