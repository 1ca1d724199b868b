-- Calls that ask for amounts: what the machine replies, told by the parts.
use Rattle.std.proofs.Common.{◌≡◌, ℕ, false, ◌-◌, ◌<◌, ◌≤◌, ◌^◌, true, refl, arith, sym, ap, ◌∙◌, length, map}
use Rattle.vch_base.specs.Keyed.{of_key}
use Rattle.vch_bank.specs.Bank.{ledger_of}
use Rattle.vch_importance.specs.Assertions.{held_by, out_from}
use Rattle.vch_model.specs.Lines.{is_task}
use Rattle.vch_model.specs.declared.call.Call.{Call}
use Rattle.vch_model.specs.declared.call.Call.TheVariants as calls
use Rattle.vch_model.specs.declared.entry.Reply.TheVariants as replies
use Rattle.vch_machine.specs.Beginning.{begin_call, store_reply}
use Rattle.vch_machine.specs.Frames.{replied}
use Rattle.vch_machine.specs.State.{Machine}
use Rattle.vch_values.specs.Parts.{live_in}
use Rattle.vch_values.proofs.CallerLemmas.{few_live}
use Rattle.vch_vouchers.specs.Desks.{different}
use Rattle.vch_vouchers.specs.Desks as desks
use Rattle.vch_parts.specs.declared.parts.Parts.{Parts}
use Rattle.vch_parts.specs.Reached.{plain_of, parts_in, Reached}
use Rattle.vch_parts.proofs.CallerLemmas.{numbers_of, range, desks_again}
use Rattle.vch_moves.specs.Steps.{machine_begun}
use Rattle.vch_answers.proofs.CallerLemmas.{Moment}
use Rattle.vch_replies.specs.Begins.{Begins}
use Rattle.vch_replies.specs.Known.{AreApart}
use Rattle.vch_replies.specs.Known as known
use Rattle.vch_replies.proofs.CallerLemmas.{begins, ledger_reply, assertions_reply, live_reply}

module _ (p : Parts) (t : ℕ) (task : is_task p.scenario t ≡ true) where
  -- where a call begins, its reply is told
  pub calls_here : (call : Call) (m : Machine) → Moment p t call m → Begins p.scenario (plain_of p) m t
  calls_here call m x = begins p.scenario (plain_of p) m t x.state task

  module _ (amount : ℕ) (is : amount ≡ ledger_of p.values.bank.kept.ledgers t) where
    pub ledger_told : (m : Machine) → Moment p t calls.Ledger m
        → begin_call p.scenario false (machine_begun m t) t calls.Ledger (store_reply p.scenario m t calls.Ledger) ≡ replied (machine_begun m t) t calls.Ledger (replies.Ledger amount)
    ledger_told m x = ap (replied (machine_begun m t) t calls.Ledger) (ledger_reply p.scenario (plain_of p) m t (calls_here calls.Ledger m x) ∙ ap replies.Ledger (sym is))

  module _ (held out : ℕ) (held_is : held ≡ held_by p.values.importance.kept t) (out_is : out ≡ out_from p.values.importance.kept t) where
    pub assertions_told : (m : Machine) → Moment p t calls.Assertions m
        → begin_call p.scenario false (machine_begun m t) t calls.Assertions (store_reply p.scenario m t calls.Assertions)
        ≡ replied (machine_begun m t) t calls.Assertions (replies.Assertions held out)
    assertions_told m x = ap (replied (machine_begun m t) t calls.Assertions)
        (assertions_reply p.scenario (plain_of p) m t (calls_here calls.Assertions m x) ∙ both (sym held_is) (sym out_is))
      where
        both : {a b x y : ℕ} → a ≡ x → b ≡ y → replies.Assertions a b ≡ replies.Assertions x y
        both e f = rw (e, f) refl

  -- each task has a desk
  desks_are : Reached p → map known.desk_in (parts_in p.vouchers p.frames) ≡ p.vouchers
  desks_are reached = desks_again p.vouchers p.frames (t - 1) (range p t reached task).1

  module _ (vouchers values : ℕ) (reached : Reached p) (apart : AreApart p.values) (vouchers_is : vouchers ≡ different (desks.all_vouchers p.vouchers)) (values_is : values ≡ live_in p.values) where
    pub live_told : (m : Machine) → Moment p t calls.Live m
        → begin_call p.scenario false (machine_begun m t) t calls.Live (store_reply p.scenario m t calls.Live) ≡ replied (machine_begun m t) t calls.Live (replies.Live vouchers values)
    live_told m x = ap (replied (machine_begun m t) t calls.Live)
        (live_reply p.scenario (plain_of p) m t (calls_here calls.Live m x) apart
        ∙ both (ap (λ ds. different (desks.all_vouchers ds)) (desks_are reached) ∙ sym vouchers_is) (sym values_is))
      where
        both : {a b x y : ℕ} → a ≡ x → b ≡ y → replies.Live a b ≡ replies.Live x y
        both e f = rw (e, f) refl

-- no more values live than there are numbers
pub live_few : (p : Parts) → Reached p → live_in p.values < 2 ^ 64
live_few p reached = numbers_of p _ reached (λ m s ties n. few_live p.values (λ k. few (length (of_key k p.values).kept.slots) (of_key k m.pools).used (s.keyed k).used (n.used k)))
  where
    few : (a b : ℕ) → a ≡ b → b ≤ 1342177281 → a ≤ 4294967295
    few a b e l = omega (arith, e, l)
